-- A text of the packets of a feed, written packet by packet.
use Rattle.std.proofs.Common.{◌≡◌, ℕ, ◌≤◌, List, [], ◌∷◌, ◌++◌, length, take, drop, Bool, IsTrue, Option, Some, None}
use Rattle.std.proofs.Common.{IsSome, Ok, Err, refl, sym, ap, ◌∙◌, subst, arith, append-nil, append_assoc}
use Rattle.std.proofs.Common.{length-append, take-append-drop, take_at, drop_at}
use Rattle.std.proofs.lemmas.Bool.{false≢true}
use Rattle.cap_bytes.proofs.Putting.{Putting, Putting-more, Putting-all, Putting-front}
use Rattle.cap_bytes.specs.Device.{Writer}
use Rattle.cap_bytes.specs.Printing.{Prints}
use Rattle.cap_bytes.specs.declared.faults.Fault.{Fault}
use Rattle.cap_bytes.specs.declared.faults.Fault.TheVariants.{Refused, Read, Write, Memory}
use Rattle.cap_bytes.specs.declared.faults.Refusal.{Refusal}
use Rattle.cap_source.specs.Feed.{Feed, Item, packet, refused, FeedKeeps}
use Rattle.cap_source.specs.inner.Walk.{ShowsItem}
use Rattle.cap_source.specs.declared.packets.Meta.{Meta}

-- what is to be written of the items to come, and what is answered then
pub record Plan : Type 0 where
  pub text : List Item → List ℕ
  pub refusal : List Item → Option Refusal

-- Nothing is written at the end or at a refusal, which is answered.
pub record IsPlan (plan : Plan) : Type 0 where
  pub text_none : plan.text [] ≡ []
  pub text_refused : (r : Refusal) → plan.text (refused r ∷ []) ≡ []
  pub refusal_none : plan.refusal [] ≡ None
  pub refusal_refused : (r : Refusal) → plan.refusal (refused r ∷ []) ≡ Some r

-- A packet is written as that line, and the rest goes by another plan.
pub record GoesOn (plan : Plan) (meta : Meta) (frame line : List ℕ) (next : Plan) : Type 0 where
  pub text : (items : List Item) → plan.text (packet meta frame ∷ items) ≡ line ++ next.text items
  pub refusal : (items : List Item) → plan.refusal (packet meta frame ∷ items) ≡ next.refusal items

-- A packet is refused.
pub record GivesUp (plan : Plan) (meta : Meta) (frame : List ℕ) (r : Refusal) : Type 0 where
  pub text : (items : List Item) → plan.text (packet meta frame ∷ items) ≡ []
  pub refusal : (items : List Item) → plan.refusal (packet meta frame ∷ items) ≡ Some r

-- The packets so far of a feed that was `old` are written by a writer that was `from`.
pub record Walking (first plan : Plan) (old new : Feed) (failed_old failed_new : Bool) (from to : Writer) : Type 0 where
  pub failed : failed_new ≡ failed_old
  pub told : IsTrue old.told → IsTrue new.told
  pub can_fail : (file : ℕ) → IsTrue (new.can_fail file) → IsTrue (old.can_fail file)
  pub left : new.left ≤ old.left
  pub writer_told : IsTrue from.told → IsTrue to.told
  pub writer_cannot : IsTrue to.can_fail → IsTrue from.can_fail
  pub text : IsTrue old.told → Putting from to (first.text old.items) (plan.text new.items)
  pub refusal_same : IsTrue old.told → plan.refusal new.items ≡ first.refusal old.items

-- more of the text is written
pub Walking-by : (first plan next : Plan) (old mid new : Feed) (fo fm fn : Bool) (from m to : Writer) (line : List ℕ)
    → Walking first plan old mid fo fm from m
    → (IsTrue mid.told → IsTrue new.told) → ((file : ℕ) → IsTrue (new.can_fail file) → IsTrue (mid.can_fail file))
    → new.left ≤ mid.left
    → (IsTrue mid.told → plan.text mid.items ≡ line ++ next.text new.items)
    → (IsTrue mid.told → plan.refusal mid.items ≡ next.refusal new.items)
    → (IsTrue m.told → to.held ≡ m.held ++ line)
    → (IsTrue m.told → IsTrue to.told) → (IsTrue to.can_fail → IsTrue m.can_fail) → fn ≡ fm
    → Walking first next old new fo fn from to
Walking-by first plan next old mid new fo fm fn from m to line p tells can less split same wrote told cannot failed =
    let behind = next.text new.items in
    record {
      failed = failed ∙ p.failed;
      told = λ t. tells (p.told t);
      can_fail = λ file c. p.can_fail file (can file c);
      left = omega (arith, less, p.left);
      writer_told = λ t. told (p.writer_told t);
      writer_cannot = λ c. p.writer_cannot (cannot c);
      text = λ t.
          let whole = split (p.told t) in
          subst (Putting from to (first.text old.items))
          (ap (drop (length line)) whole ∙ drop_at line behind (length line) refl)
          (Putting-more from m to (first.text old.items) (plan.text mid.items) (length line) (p.text t)
          (omega (arith, ap length whole, length-append line behind))
          (λ w. wrote w ∙ ap (λ l. m.held ++ l) (sym (ap (take (length line)) whole
          ∙ take_at line behind (length line) refl)))
          told cannot);
      refusal_same = λ t. sym (same (p.told t)) ∙ p.refusal_same t;
    }

-- one more packet is written
pub Walking-more : (first plan next : Plan) (old mid shown new : Feed) (fo fm fn : Bool) (from m to : Writer)
    (meta : Meta) (line : List ℕ)
    → Walking first plan old mid fo fm from m
    → FeedKeeps mid shown → (IsTrue mid.told → ShowsItem mid (Ok (Some meta)) shown)
    → FeedKeeps shown new → (IsTrue shown.told → new.items ≡ drop 1 shown.items)
    → GoesOn plan meta shown.frame line next
    → (IsTrue m.told → to.held ≡ m.held ++ line)
    → (IsTrue m.told → IsTrue to.told) → (IsTrue to.can_fail → IsTrue m.can_fail) → fn ≡ fm
    → Walking first next old new fo fn from to
Walking-more first plan next old mid shown new fo fm fn from m to meta line p asked shows passed dropped goes =
    let rest : IsTrue mid.told → drop 1 mid.items ≡ new.items =
    λ t. sym (dropped (asked.told t) ∙ ap (drop 1) (shows t).0.items) in
    Walking-by first plan next old mid new fo fm fn from m to line p
    (λ t. passed.told (asked.told t)) (λ file c. asked.can_fail file (passed.can_fail file c))
    (omega (arith, passed.left, asked.left))
    (λ t. ap plan.text (shows t).1 ∙ (goes.text (drop 1 mid.items) ∙ ap (λ l. line ++ next.text l) (rest t)))
    (λ t. ap plan.refusal (shows t).1 ∙ (goes.refusal (drop 1 mid.items) ∙ ap next.refusal (rest t)))

-- what is written if a call for the next packet answers a fault
pub Prints-fault : (plan : Plan) (fault : Fault) (text : List ℕ) (refusal : Option Refusal) (from to : Writer)
    (mid shown : Feed)
    → IsPlan plan → Putting from to text (plan.text mid.items) → IsTrue from.told → plan.refusal mid.items ≡ refusal
    → ShowsItem mid (Err fault) shown → Prints {A = Unit {0}} text refusal from.held (Err fault) to.held
Prints-fault plan (Refused r) text refusal from to mid shown is p t same shows = (
  sym same ∙ (ap plan.refusal shows.1 ∙ is.refusal_refused r),
  Putting-all from to text (plan.text mid.items) p (ap plan.text shows.1 ∙ is.text_refused r) t,
)
Prints-fault plan fault text refusal from to mid shown is p t same shows = grind arith

-- what is written if it answers that there is none
pub Prints-end : (plan : Plan) (text : List ℕ) (refusal : Option Refusal) (from to : Writer) (mid shown : Feed)
    → IsPlan plan → Putting from to text (plan.text mid.items) → IsTrue from.told → plan.refusal mid.items ≡ refusal
    → ShowsItem mid (Ok None) shown → (refusal ≡ None) × (to.held ≡ from.held ++ text)
Prints-end plan text refusal from to mid shown is p t same shows = (
  sym same ∙ (ap plan.refusal shows.1 ∙ is.refusal_none),
  Putting-all from to text (plan.text mid.items) p (ap plan.text shows.1 ∙ is.text_none) t,
)

-- What is written if the last part of a text is, or a prefix of it.
pub Prints-whole : (fault : Fault) (text line : List ℕ) (refusal : Option Refusal) (r : Refusal) (from mid : Writer)
    (held : List ℕ)
    → Putting from mid text line → IsTrue from.told → refusal ≡ Some r
    → Prints {A = Unit {0}} line (Some r) mid.held (Err fault) held
    → Prints {A = Unit {0}} text refusal from.held (Err fault) held
Prints-whole (Refused s) text line refusal r from mid held p t is prints =
    grind (arith, append_assoc, take, take-append-drop)
Prints-whole (Read file offset) text line refusal r from mid held p t is prints =
    Putting-front from mid held text line [] prints.0
    (subst (Putting from mid text) (sym (append-nil line)) p) t prints.1
Prints-whole Write text line refusal r from mid held p t is prints =
    Putting-front from mid held text line [] prints.0
    (subst (Putting from mid text) (sym (append-nil line)) p) t prints.1
Prints-whole Memory text line refusal r from mid held p t is prints =
    Putting-front from mid held text line [] prints.0
    (subst (Putting from mid text) (sym (append-nil line)) p) t prints.1

-- And if a line before the last isn't written whole: a prefix of it.
pub Prints-front : (fault : Fault) (text line behind : List ℕ) (refusal : Option Refusal) (from mid : Writer)
    (held : List ℕ)
    → Putting from mid text (line ++ behind) → IsTrue from.told
    → Prints {A = Unit {0}} line None mid.held (Err fault) held
    → Prints {A = Unit {0}} text refusal from.held (Err fault) held
Prints-front (Refused r) text line behind refusal from mid held p t prints =
    absurd (false≢true (subst IsSome (sym prints.0) refl))
Prints-front (Read file offset) text line behind refusal from mid held p t prints = search (Putting-front)
Prints-front Write text line behind refusal from mid held p t prints =
    Putting-front from mid held text line behind prints.0 p t prints.1
Prints-front Memory text line behind refusal from mid held p t prints =
    Putting-front from mid held text line behind prints.0 p t prints.1
