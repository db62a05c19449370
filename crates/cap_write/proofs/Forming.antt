-- What is written of some items, and of others after them, in either format.
use Rattle.std.proofs.Common.{◌≡◌, ℕ, false, List, [], ◌∷◌, ◌++◌, Option, Some, None, Result, Ok, Err, IsTrue}
use Rattle.std.proofs.Common.{OnOk, refl, sym, ap, ◌∙◌, subst, arith, append-nil, append_assoc}
use Rattle.cap_bytes.proofs.Putting.{Putting, Putting-all}
use Rattle.cap_bytes.specs.Device.{Writer}
use Rattle.cap_bytes.specs.Printing.{Prints, is_write}
use Rattle.cap_bytes.specs.declared.faults.Fault.{Fault}
use Rattle.cap_bytes.specs.declared.faults.Fault.TheVariants.{Refused}
use Rattle.cap_bytes.specs.declared.faults.Refusal.{Refusal}
use Rattle.cap_bytes.specs.declared.faults.Rule.{Rule}
use Rattle.cap_bytes.specs.declared.faults.Rule.TheVariants.{NoTime}
use Rattle.cap_bytes.specs.declared.numbers.Order.{Order}
use Rattle.cap_pcap.specs.Grammar.{header_bytes}
use Rattle.cap_source.proofs.Onward.{Went, Goes-behind}
use Rattle.cap_source.proofs.Walking.{Plan, IsPlan, GoesOn, Prints-whole, Prints-front}
use Rattle.cap_source.specs.Feed.{Feed, Item, packet, refused}
use Rattle.cap_source.specs.inner.Growing.{IfMemory}
use Rattle.cap_source.specs.inner.Walk.{GivesPacket, ShowsItem, Walks}
use Rattle.cap_source.specs.declared.packets.Meta.{Meta}
use Rattle.cap_time.specs.declared.resolutions.Interface.{Interface}
use Rattle.cap_time.specs.declared.stamps.Unit.{Unit as Fraction}
use Rattle.cap_write.proofs.Feeding as feeding
use Rattle.cap_write.proofs.Numbers.{write_fault-untimed}
use Rattle.cap_write.proofs.Records as records
use Rattle.cap_write.proofs.Units.{text-none, text-some}
use Rattle.cap_write.specs.inner.Forms.{FormState, numbered, headed, form_text, form_refusal, form_stop, form_after}
use Rattle.cap_write.specs.inner.Forms.{form_behind, EndsForm}
use Rattle.cap_write.specs.inner.Interfaces.{HasUnits}
use Rattle.cap_write.specs.Numbering.{Origins, count_of, refusal_at, refusal_by, refusal_in, with_origin, write_fault}
use Rattle.cap_write.specs.Numbering.{numbered_of}
use Rattle.cap_write.specs.Numbering.{numbered as numbered_in}
use Rattle.cap_write.specs.Pcap.{header_of, in_unit, packet_record, records_bytes}
use Rattle.cap_write.specs.Pcap.{records_refusal, written_record_fault}
use Rattle.cap_write.specs.PcapRun.{run_bytes, run_refusal}
use Rattle.cap_write.specs.Texts.{numbered_bytes, one_bytes, packets_bytes, text_behind, text_or}

none-some : {A : Type 0} (x : A) → None ≡ Some x → ⊥
none-some x e = cc

-- what refuses a packet, by what refuses it alone
fault-none : (meta : Meta) (fault : Option Rule) → refusal_by meta fault ≡ None → fault ≡ None
fault-none meta None is = refl
fault-none meta (Some rule) is = cc

fault-some : (meta : Meta) (fault : Option Rule) (r : Refusal) → refusal_by meta fault ≡ Some r → (rule : Rule)
    × (fault ≡ Some rule) × (refusal_at meta rule ≡ r)
fault-some meta None r is = cc
fault-some meta (Some rule) r is = (rule, refl, cc)

refusal-one : (origins : Origins) (meta : Meta) (frame : List ℕ)
    → refusal_in origins (packet meta frame ∷ []) ≡ refusal_by meta (write_fault origins meta)
unfolding refusal_in
refusal-one origins meta frame = grind arith

records-one : (first : Interface) (meta : Meta) (frame : List ℕ)
    → records_refusal first (packet meta frame ∷ []) ≡ refusal_by meta (written_record_fault first meta)
unfolding records_refusal
records-one first meta frame = grind arith

-- a packet that is written after a header has a time
timed : (first : Interface) (meta : Meta) → written_record_fault first meta ≡ None → (units : ℕ)
    × (meta.units ≡ Some units)
unfolding written_record_fault
timed first meta none = by meta.units refl
  where
    by : (units : Option ℕ) → meta.units ≡ units → (units : ℕ) × (meta.units ≡ Some units)
    by (Some units) is = (units, is)
    by None is = absurd (grind arith)

pub OnOk-map : {E A : Type 0} (result : Result A E) (P Q : Type 0) → (P → Q) → OnOk result P → OnOk result Q
OnOk-map result P Q f h = grind arith

-- what is written of a run that begins with a packet
abbrev leading_text : Option Fraction → Order → Meta → Option ℕ → List Item → List ℕ
leading_text unit order meta None items = []
leading_text unit order meta (Some units) items = header_bytes (header_of order (in_unit unit meta.interface))
    ++ records_bytes order (in_unit unit meta.interface) items

run-leading : (unit : Option Fraction) (order : Order) (meta : Meta) (frame : List ℕ) (items : List Item)
    → run_bytes unit order (packet meta frame ∷ items)
    ≡ leading_text unit order meta meta.units (packet meta frame ∷ items)
run-leading unit order meta frame items = by meta.units refl
  where
    by : (units : Option ℕ) → meta.units ≡ units → run_bytes unit order (packet meta frame ∷ items)
        ≡ leading_text unit order meta meta.units (packet meta frame ∷ items)
    by (Some units) is = rw is (text-some unit order meta.interface _)
    by None is = rw is (text-none unit order _)

-- A packet is written, and the others after it.
pub record Steps (order : Order) (form : FormState) (meta : Meta) (frame : List ℕ) : Type 0 where
  pub text : (items : List Item) → form_text order form (packet meta frame ∷ items)
      ≡ form_text order form (packet meta frame ∷ []) ++ form_text order (form_after form meta) items
  pub refusal : (items : List Item) → form_refusal form (packet meta frame ∷ items)
      ≡ form_refusal (form_after form meta) items
  pub stop : (items : List Item) → form_stop form (packet meta frame ∷ items) ≡ form_stop (form_after form meta) items

text-step : (plan next : Plan) (meta : Meta) (frame line : List ℕ) → GoesOn plan meta frame line next → IsPlan next
    → (items : List Item) → plan.text (packet meta frame ∷ items) ≡ plan.text (packet meta frame ∷ [])
    ++ next.text items
text-step plan next meta frame line goes is items =
    goes.text items ∙ ap (λ l. l ++ next.text items)
    (sym (goes.text [] ∙ (ap (λ t. line ++ t) is.text_none ∙ append-nil line)))

numbered-steps : (order : Order) (origins : Origins) (meta : Meta) (frame : List ℕ)
    → write_fault origins meta ≡ None → Steps order (numbered origins) meta frame
numbered-steps order origins meta frame none =
    let goes = feeding.plan_of-next order origins meta frame none in
    let next = with_origin origins meta in
    record {
      text = text-step (feeding.plan_of order origins) (feeding.plan_of order next) meta frame _ goes
          (feeding.plan_of-is order next);
      refusal = goes.refusal;
      stop = goes.refusal;
    }

headed-steps : (unit : Option Fraction) (order : Order) (first : Interface) (meta : Meta) (frame : List ℕ)
    → written_record_fault first meta ≡ None
    → Steps order (headed unit (Some first)) meta frame
headed-steps unit order first meta frame none =
    let goes = records.plan_of-next order first meta frame none in
    record {
      text = text-step (records.plan_of order first) (records.plan_of order first) meta frame _ goes
          (records.plan_of-is order first);
      refusal = goes.refusal;
      stop = goes.refusal;
    }

leading-steps : (unit : Option Fraction) (order : Order) (meta : Meta) (frame : List ℕ)
    → written_record_fault (in_unit unit meta.interface) meta ≡ None
    → Steps order (headed unit None) meta frame
leading-steps unit order meta frame none =
    let first = in_unit unit meta.interface in
    let s = headed-steps unit order first meta frame none in
    let header = header_bytes (header_of order first) in
    let is = (timed first meta none).1 in
    let whole : (items : List Item) → run_bytes unit order (packet meta frame ∷ items) ≡ header
    ++ records_bytes order first (packet meta frame ∷ items) =
    λ items. run-leading unit order meta frame items ∙ ap
    (λ units. leading_text unit order meta units (packet meta frame ∷ items)) is in
    let one = records_bytes order first (packet meta frame ∷ []) in
    record {
      text = λ items.
          whole items
          ∙ (ap (λ t. header ++ t) (s.text items)
          ∙ (sym (append_assoc header one (records_bytes order first items))
          ∙ ap (λ l. l ++ records_bytes order first items) (sym (whole []))));
      refusal = s.refusal;
      stop = s.refusal;
    }

pub steps : (order : Order) (form : FormState) (meta : Meta) (frame : List ℕ)
    → form_stop form (packet meta frame ∷ []) ≡ None → Steps order form meta frame
steps order (numbered origins) meta frame none =
    numbered-steps order origins meta frame (fault-none meta _ (sym (refusal-one origins meta frame) ∙ none))
steps order (headed unit None) meta frame none = leading-steps unit order meta frame
    (fault-none meta _ (sym (records-one (in_unit unit meta.interface) meta frame) ∙ none))
steps order (headed unit (Some first)) meta frame none =
    headed-steps unit order first meta frame (fault-none meta _ (sym (records-one first meta frame) ∙ none))

-- A packet is refused.
pub record Stops (order : Order) (form : FormState) (meta : Meta) (frame : List ℕ) (r : Refusal) : Type 0 where
  pub text : (items : List Item) → form_text order form (packet meta frame ∷ items)
      ≡ form_text order form (packet meta frame ∷ [])
  pub refusal : (items : List Item) → form_refusal form (packet meta frame ∷ items) ≡ Some r
  pub stop : (items : List Item) → form_stop form (packet meta frame ∷ items) ≡ Some r

numbered-stops : (order : Order) (origins : Origins) (meta : Meta) (frame : List ℕ) (rule : Rule)
    → write_fault origins meta ≡ Some rule
    → Stops order (numbered origins) meta frame (refusal_at meta rule)
numbered-stops order origins meta frame rule is =
    let gives = feeding.plan_of-refused order origins meta frame rule is in
    record { text = λ items. gives.text items ∙ sym (gives.text []); refusal = gives.refusal; stop = gives.refusal }

headed-stops : (unit : Option Fraction) (order : Order) (first : Interface) (meta : Meta) (frame : List ℕ)
    (rule : Rule) → written_record_fault first meta ≡ Some rule
    → Stops order (headed unit (Some first)) meta frame (refusal_at meta rule)
headed-stops unit order first meta frame rule is =
    let gives = records.plan_of-refused order first meta frame rule is in
    record { text = λ items. gives.text items ∙ sym (gives.text []); refusal = gives.refusal; stop = gives.refusal }

leading-stops : (unit : Option Fraction) (order : Order) (meta : Meta) (frame : List ℕ) (rule : Rule)
    → written_record_fault (in_unit unit meta.interface) meta ≡ Some rule
    → Stops order (headed unit None) meta frame (refusal_at meta rule)
leading-stops unit order meta frame rule is =
    let s = headed-stops unit order (in_unit unit meta.interface) meta frame rule is in
    record {
      text = λ items. run-leading unit order meta frame items
          ∙ (same meta.units items ∙ sym (run-leading unit order meta frame []));
      refusal = s.refusal;
      stop = s.refusal;
    }
  where
    same : (units : Option ℕ) (items : List Item) → leading_text unit order meta units (packet meta frame ∷ items)
        ≡ leading_text unit order meta units (packet meta frame ∷ [])
    same None items = refl
    same (Some units) items = ap (λ t. header_bytes (header_of order (in_unit unit meta.interface)) ++ t)
        ((headed-stops unit order (in_unit unit meta.interface) meta frame rule is).text items)

pub stops : (order : Order) (form : FormState) (meta : Meta) (frame : List ℕ) (r : Refusal)
    → form_stop form (packet meta frame ∷ []) ≡ Some r → Stops order form meta frame r
stops order (numbered origins) meta frame r is =
    let fault = fault-some meta _ r (sym (refusal-one origins meta frame) ∙ is) in
    subst (Stops order (numbered origins) meta frame) fault.2 (numbered-stops order origins meta frame fault.0 fault.1)
stops order (headed unit None) meta frame r is =
    let fault = fault-some meta _ r (sym (records-one (in_unit unit meta.interface) meta frame) ∙ is) in
    subst (Stops order (headed unit None) meta frame) fault.2 (leading-stops unit order meta frame fault.0 fault.1)
stops order (headed unit (Some first)) meta frame r is =
    let fault = fault-some meta _ r (sym (records-one first meta frame) ∙ is) in
    subst (Stops order (headed unit (Some first)) meta frame) fault.2
    (headed-stops unit order first meta frame fault.0 fault.1)

-- a packet without a time
record_fault-untimed : (first : Interface) (meta : Meta) → meta.units ≡ None
    → written_record_fault first meta ≡ Some NoTime
unfolding written_record_fault
record_fault-untimed first meta none = grind arith

pub no-time : (meta : Meta) (fault : Fault) → HasUnits meta (Err fault) → (meta.units ≡ None)
    × (fault ≡ Refused (refusal_at meta NoTime))
no-time meta fault h = grind arith

untimed : (order : Order) (form : FormState) (meta : Meta) (frame : List ℕ) (items : List Item) → meta.units ≡ None
    → (form_text order form (packet meta frame ∷ items) ≡ [])
    × (form_stop form (packet meta frame ∷ items) ≡ Some (refusal_at meta NoTime))
untimed order (numbered origins) meta frame items none =
    let gives = feeding.plan_of-refused order origins meta frame NoTime (write_fault-untimed origins meta none) in
    (gives.text items, gives.refusal items)
untimed order (headed unit None) meta frame items none =
    let first = in_unit unit meta.interface in
    let gives = records.plan_of-refused order first meta frame NoTime (record_fault-untimed first meta none) in (
      run-leading unit order meta frame items
          ∙ ap (λ units. leading_text unit order meta units (packet meta frame ∷ items)) none,
      gives.refusal items,
    )
untimed order (headed unit (Some first)) meta frame items none =
    let gives = records.plan_of-refused order first meta frame NoTime (record_fault-untimed first meta none) in
    (gives.text items, gives.refusal items)

pub Prints-untimed : (order : Order) (form : FormState) (meta : Meta) (frame : List ℕ) (items : List Item)
    (held : List ℕ) (fault : Fault) → HasUnits meta (Err fault)
    → Prints {A = Unit {0}} (form_text order form (packet meta frame ∷ items))
    (form_stop form (packet meta frame ∷ items)) held (Err fault) held
Prints-untimed order form meta frame items held fault h =
    let none = no-time meta fault h in
    let stop = untimed order form meta frame items none.0 in
    rw none.1 ((stop.1, sym (append-nil held) ∙ ap (λ t. held ++ t) (sym stop.0)))

pub Prints-run-untimed : (unit : Option Fraction) (order : Order) (meta : Meta) (frame : List ℕ)
    (items rest : List Item) (held : List ℕ) (fault : Fault) → items ≡ packet meta frame ∷ rest
    → HasUnits meta (Err fault) → Prints {A = Unit {0}} (run_bytes unit order items) (run_refusal unit items) held
    (Err fault) held
Prints-run-untimed unit order meta frame items rest held fault is h =
    subst (λ all. Prints {A = Unit {0}} (run_bytes unit order all) (run_refusal unit all) held (Err fault) held)
    (sym is) (Prints-untimed order (headed unit None) meta frame rest held fault h)

-- a packet alone
text-one : (order : Order) (origins : Origins) (meta : Meta) (frame : List ℕ)
    → text_behind order origins (packet meta frame ∷ []) ≡ one_bytes order origins meta frame
text-one order origins meta frame = by (write_fault origins meta) refl
  where
    by : (fault : Option Rule) → write_fault origins meta ≡ fault
        → text_behind order origins (packet meta frame ∷ []) ≡ one_bytes order origins meta frame
    by (Some rule) is = (feeding.plan_of-refused order origins meta frame rule is).text []
        ∙ sym (ap (λ f. text_or f (numbered_bytes order (count_of origins) (numbered_of origins meta frame))) is)
    by None is =
        (feeding.plan_of-next order origins meta frame is).text []
        ∙ (ap (λ l. one_bytes order origins meta frame ++ l)
        (feeding.plan_of-is order (with_origin origins meta)).text_none
        ∙ append-nil (one_bytes order origins meta frame))

record-one : (order : Order) (first : Interface) (meta : Meta) (frame : List ℕ)
    → records_bytes order first (packet meta frame ∷ [])
    ≡ text_or (written_record_fault first meta) (packet_record order first meta frame)
unfolding records_bytes
record-one order first meta frame = ap (text_or (written_record_fault first meta))
    (append-nil (packet_record order first meta frame))

pub Prints-numbered : (order : Order) (form : FormState) (origins : Origins) (meta : Meta) (frame held new : List ℕ)
    (result : Result (Unit {0}) Fault) → form ≡ numbered origins
    → Prints {A = Unit {0}} (one_bytes order origins meta frame)
    (refusal_by meta (write_fault origins meta)) held result new
    → Prints {A = Unit {0}} (form_text order form (packet meta frame ∷ []))
    (form_stop form (packet meta frame ∷ [])) held result new
Prints-numbered order form origins meta frame held new result is h =
    rw (is, text-one order origins meta frame, refusal-one origins meta frame) h

pub Prints-headed : (unit : Option Fraction) (order : Order) (form : FormState) (first : Interface) (meta : Meta)
    (frame held new : List ℕ) (result : Result (Unit {0}) Fault) → form ≡ headed unit (Some first)
    → Prints {A = Unit {0}} (text_or (written_record_fault first meta) (packet_record order first meta frame))
    (refusal_by meta (written_record_fault first meta)) held result new
    → Prints {A = Unit {0}} (form_text order form (packet meta frame ∷ []))
    (form_stop form (packet meta frame ∷ [])) held result new
Prints-headed unit order form first meta frame held new result is h =
    rw (is, record-one order first meta frame, records-one first meta frame) h

pub after-numbered : (form : FormState) (origins origins_new : Origins) (meta : Meta) (frame : List ℕ)
    → form ≡ numbered origins
    → (origins_new ≡ with_origin origins meta) × (write_fault origins meta ≡ None)
    → (numbered origins_new ≡ form_after form meta) × (form_stop form (packet meta frame ∷ []) ≡ None)
after-numbered form origins origins_new meta frame is h =
    rw is ((ap numbered h.0, refusal-one origins meta frame ∙ ap (refusal_by meta) h.1))

pub after-headed : (unit : Option Fraction) (form : FormState) (first : Interface) (meta : Meta) (frame : List ℕ)
    → form ≡ headed unit (Some first)
    → written_record_fault first meta ≡ None
    → (form ≡ form_after form meta) × (form_stop form (packet meta frame ∷ []) ≡ None)
after-headed unit form first meta frame is none =
    rw is ((refl, records-one first meta frame ∙ ap (refusal_by meta) none))

pub after-leading : (unit : Option Fraction) (meta : Meta) (frame : List ℕ)
    → written_record_fault (in_unit unit meta.interface) meta ≡ None → run_refusal unit (packet meta frame ∷ []) ≡ None
after-leading unit meta frame none = records-one (in_unit unit meta.interface) meta frame ∙ ap (refusal_by meta) none

run-timed : (unit : Option Fraction) (order : Order) (meta : Meta) (frame : List ℕ) (units : ℕ)
    → meta.units ≡ Some units
    → run_bytes unit order (packet meta frame ∷ []) ≡ header_bytes (header_of order (in_unit unit meta.interface))
    ++ records_bytes order (in_unit unit meta.interface) (packet meta frame ∷ [])
run-timed unit order meta frame units is = run-leading unit order meta frame []
    ∙ ap (λ u. leading_text unit order meta u (packet meta frame ∷ [])) is

pub Prints-leading : (unit : Option Fraction) (order : Order) (meta : Meta) (frame : List ℕ) (units : ℕ)
    (held new : List ℕ) (result : Result (Unit {0}) Fault) → meta.units ≡ Some units
    → Prints {A = Unit {0}} (header_bytes (header_of order (in_unit unit meta.interface))
    ++ records_bytes order (in_unit unit meta.interface) (packet meta frame ∷ []))
    (run_refusal unit (packet meta frame ∷ [])) held result new
    → Prints {A = Unit {0}} (run_bytes unit order (packet meta frame ∷ []))
    (run_refusal unit (packet meta frame ∷ [])) held result new
Prints-leading unit order meta frame units held new result is h =
    subst (λ text. Prints {A = Unit {0}} text (run_refusal unit (packet meta frame ∷ [])) held result new)
    (sym (run-timed unit order meta frame units is)) h

-- nothing
pub text-nothing : (order : Order) (form : FormState) → form_text order form [] ≡ []
text-nothing order (numbered origins) = (feeding.plan_of-is order origins).text_none
text-nothing order (headed unit None) = text-none unit order []
text-nothing order (headed unit (Some first)) = (records.plan_of-is order first).text_none

pub stop-nothing : (order : Order) (form : FormState) → form_stop form [] ≡ None
stop-nothing order (numbered origins) = (feeding.plan_of-is order origins).refusal_none
stop-nothing order (headed unit None) = refl
stop-nothing order (headed unit (Some first)) = (records.plan_of-is order first).refusal_none

-- a refusal
pub record First (order : Order) (form : FormState) (r : Refusal) (items : List Item) : Type 0 where
  pub text : form_text order form (refused r ∷ items) ≡ []
  pub refusal : form_refusal form (refused r ∷ items) ≡ Some r
  pub stop : form_stop form (refused r ∷ items) ≡ Some r

pub first : (order : Order) (form : FormState) (r : Refusal) (items : List Item) → First order form r items
unfolding numbered_in packets_bytes refusal_in records_bytes records_refusal
first order (numbered origins) r items = record { text = refl; refusal = refl; stop = refl }
first order (headed unit None) r items =
    record {
      text = text-none unit order (refused r ∷ items);
      refusal = refl;
      stop = refl;
    }
first order (headed unit (Some header)) r items = record { text = refl; refusal = refl; stop = refl }

-- what is written of some items and of others after them, if none of the first is refused
pub behind : (order : Order) (form : FormState) (items rest : List Item) → form_stop form items ≡ None
    → (form_text order form (items ++ rest) ≡ form_text order form items
    ++ form_text order (form_behind form items) rest)
    × (form_refusal form (items ++ rest) ≡ form_refusal (form_behind form items) rest)
unfolding form_behind
behind order form [] rest none = (ap (λ t. t ++ form_text order form rest) (sym (text-nothing order form)), refl)
behind order form (refused r ∷ items) rest none = absurd (none-some r (sym none ∙ (first order form r items).stop))
behind order form (packet meta frame ∷ items) rest none =
    by (form_stop form (packet meta frame ∷ [])) refl (behind order (form_after form meta) items rest)
  where
    by : (stop : Option Refusal) → form_stop form (packet meta frame ∷ []) ≡ stop
        → (form_stop (form_after form meta) items ≡ None
        → (form_text order (form_after form meta) (items ++ rest) ≡ form_text order (form_after form meta) items
        ++ form_text order (form_behind (form_after form meta) items) rest)
        × (form_refusal (form_after form meta) (items ++ rest)
        ≡ form_refusal (form_behind (form_after form meta) items) rest))
        → (form_text order form (packet meta frame ∷ (items ++ rest)) ≡ form_text order form (packet meta frame ∷ items)
        ++ form_text order (form_behind (form_after form meta) items) rest)
        × (form_refusal form (packet meta frame ∷ (items ++ rest))
        ≡ form_refusal (form_behind (form_after form meta) items) rest)
    by (Some r) is go = absurd (none-some r (sym none ∙ (stops order form meta frame r is).stop items))
    by None is go =
        let s = steps order form meta frame is in
        let one = form_text order form (packet meta frame ∷ []) in
        let later = form_text order (form_behind (form_after form meta) items) rest in
        let both = go (sym (s.stop items) ∙ none) in (
          s.text (items ++ rest)
              ∙ (ap (λ l. one ++ l) both.0
              ∙ (sym (append_assoc one (form_text order (form_after form meta) items) later)
              ∙ ap (λ l. l ++ later) (sym (s.text items)))),
          s.refusal (items ++ rest) ∙ both.1,
        )

-- and if one is: nothing more
pub stopped : (order : Order) (form : FormState) (items rest : List Item) (r : Refusal) → form_stop form items ≡ Some r
    → (form_text order form (items ++ rest) ≡ form_text order form items) × (form_refusal form (items ++ rest) ≡ Some r)
stopped order form [] rest r some = absurd (none-some r (sym (stop-nothing order form) ∙ some))
stopped order form (refused q ∷ items) rest r some =
    let more = first order form q (items ++ rest) in
    let one = first order form q items in
    (more.text ∙ sym one.text, more.refusal ∙ (sym one.stop ∙ some))
stopped order form (packet meta frame ∷ items) rest r some =
    by (form_stop form (packet meta frame ∷ [])) refl (stopped order (form_after form meta) items rest r)
  where
    by : (stop : Option Refusal) → form_stop form (packet meta frame ∷ []) ≡ stop
        → (form_stop (form_after form meta) items ≡ Some r
        → (form_text order (form_after form meta) (items ++ rest) ≡ form_text order (form_after form meta) items)
        × (form_refusal (form_after form meta) (items ++ rest) ≡ Some r))
        → (form_text order form (packet meta frame ∷ (items ++ rest))
        ≡ form_text order form (packet meta frame ∷ items))
        × (form_refusal form (packet meta frame ∷ (items ++ rest)) ≡ Some r)
    by (Some q) is go =
        let s = stops order form meta frame q is in
        (s.text (items ++ rest) ∙ sym (s.text items), s.refusal (items ++ rest) ∙ (sym (s.stop items) ∙ some))
    by None is go =
        let s = steps order form meta frame is in
        let both = go (sym (s.stop items) ∙ some) in (
          s.text (items ++ rest) ∙ (ap (λ l. form_text order form (packet meta frame ∷ []) ++ l) both.0
              ∙ sym (s.text items)),
          s.refusal (items ++ rest) ∙ both.1,
        )

-- what is written if some of the items to come aren't written whole
pub Prints-part : (order : Order) (fault : Fault) (text : List ℕ) (refusal : Option Refusal) (from mid : Writer)
    (held : List ℕ) (form : FormState) (all items rest : List Item)
    → all ≡ items ++ rest
    → Putting from mid text (form_text order form all) → IsTrue from.told → form_refusal form all ≡ refusal
    → Prints {A = Unit {0}} (form_text order form items) (form_stop form items) mid.held (Err fault) held
    → Prints {A = Unit {0}} text refusal from.held (Err fault) held
Prints-part order fault text refusal from mid held form all items rest split p t same prints =
    by (form_stop form items) refl
  where
    by : (stop : Option Refusal) → form_stop form items ≡ stop
        → Prints {A = Unit {0}} text refusal from.held (Err fault) held
    by (Some r) is =
        let both = stopped order form items rest r is in
        Prints-whole fault text (form_text order form items) refusal r from mid held
        (subst (Putting from mid text) (ap (form_text order form) split ∙ both.0) p) t
        (sym same ∙ (ap (form_refusal form) split ∙ both.1))
        (subst (λ s. Prints {A = Unit {0}} (form_text order form items) s mid.held (Err fault) held) is prints)
    by None is =
        Prints-front fault text (form_text order form items)
        (form_text order (form_behind form items) rest) refusal from mid held
        (subst (Putting from mid text) (ap (form_text order form) split ∙ (behind order form items rest is).0) p) t
        (subst (λ s. Prints {A = Unit {0}} (form_text order form items) s mid.held (Err fault) held) is prints)

-- what is written if a call for the next packet answers a fault
pub Prints-stop : (order : Order) (form : FormState) (fault : Fault) (text : List ℕ) (refusal : Option Refusal)
    (from to : Writer) (mid shown : Feed)
    → Putting from to text (form_text order form mid.items) → IsTrue from.told → form_refusal form mid.items ≡ refusal
    → ShowsItem mid (Err fault) shown → Prints {A = Unit {0}} text refusal from.held (Err fault) to.held
Prints-stop order form (Refused r) text refusal from to mid shown p t same shows =
    let last = first order form r [] in (
      sym same ∙ (ap (form_refusal form) shows.1 ∙ last.refusal),
      Putting-all from to text (form_text order form mid.items) p (ap (form_text order form) shows.1 ∙ last.text) t,
    )
Prints-stop order form fault text refusal from to mid shown p t same shows = grind arith

-- and at the end
pub Prints-ended : (order : Order) (form : FormState) (result : Result (Unit {0}) Fault) (text : List ℕ)
    (refusal : Option Refusal) (from to : Writer) (items : List Item)
    → EndsForm form result → items ≡ [] → Putting from to text (form_text order form items) → IsTrue from.told
    → form_refusal form items ≡ refusal
    → Prints {A = Unit {0}} text refusal from.held result to.held
Prints-ended order form result text refusal from to items ends none p t same =
    by form ends (sym same ∙ ap (form_refusal form) none)
    (Putting-all from to text (form_text order form items) p (ap (form_text order form) none
    ∙ text-nothing order form) t)
  where
    by : (form : FormState) → EndsForm form result → refusal ≡ form_refusal form [] → to.held ≡ from.held ++ text
        → Prints {A = Unit {0}} text refusal from.held result to.held
    by (numbered origins) ends is wrote = rw ends ((is ∙ (feeding.plan_of-is order origins).refusal_none, wrote))
    by (headed unit None) ends is wrote = rw ends ((is, wrote))
    by (headed unit (Some header)) ends is wrote =
        rw ends ((is ∙ (records.plan_of-is order header).refusal_none, wrote))

pub Walks-ended : (form : FormState) (result : Result (Unit {0}) Fault) (old mid new : Feed) → EndsForm form result
    → Went old mid → GivesPacket mid (Ok None) new
    → Walks {A = Unit {0}} old result new
Walks-ended (numbered origins) result old mid new ends w p = rw ends ((p.known, Goes-behind old mid new w.lasts p.goes))
Walks-ended (headed unit None) result old mid new ends w p = rw ends (Goes-behind old mid new w.lasts p.goes)
Walks-ended (headed unit (Some header)) result old mid new ends w p =
    rw ends ((p.known, Goes-behind old mid new w.lasts p.goes))

pub OnOk-ended : (form : FormState) (result : Result (Unit {0}) Fault) (P : Type 0) → EndsForm form result → P
    → OnOk result P
OnOk-ended (numbered origins) result P ends p = rw ends p
OnOk-ended (headed unit None) result P ends p = rw ends tt
OnOk-ended (headed unit (Some header)) result P ends p = rw ends p

pub memory-ended : (form : FormState) (result : Result (Unit {0}) Fault) (P : Type 0) → EndsForm form result
    → IfMemory result P
memory-ended (numbered origins) result P ends = rw ends tt
memory-ended (headed unit None) result P ends = rw ends tt
memory-ended (headed unit (Some header)) result P ends = rw ends tt

pub unwritten-ended : (form : FormState) (result : Result (Unit {0}) Fault) → EndsForm form result
    → is_write result ≡ false
unwritten-ended (numbered origins) result ends = ap is_write ends
unwritten-ended (headed unit None) result ends = ap is_write ends
unwritten-ended (headed unit (Some header)) result ends = ap is_write ends
