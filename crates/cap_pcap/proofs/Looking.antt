-- What a window shows of a header or a record.
use Rattle.std.proofs.lemmas.Bool.Decides.{nat_tests}
use Rattle.std.proofs.lemmas.Grind.{common_steps}
use Rattle.std.proofs.Common.{◌≡◌, ℕ, ◌+◌, ◌≤◌, ◌<◌, ◌^◌, List, [], length, drop, Some, None, Bool, true, false, IsTrue}
use Rattle.std.proofs.Common.{Ok, Err, refl, sym, ◌∙◌, ap, arith, length-drop}
use Rattle.std.proofs.lemmas.List.{nil_from_length, take_all}
use Rattle.cap_bytes.specs.Items.{stop_by}
use Rattle.cap_bytes.specs.inner.Parsing.{SeesStop, FailsBy}
use Rattle.cap_bytes.specs.inner.Reach.{ReachesTo, Reaches, size_found}
use Rattle.cap_bytes.specs.inner.Window.{WindowState, WindowShows, Needs, WindowKeeps, WindowPasses, coming, position}
use Rattle.cap_bytes.specs.inner.Window.{read_to}
use Rattle.cap_bytes.specs.declared.faults.Fault.{Fault}
use Rattle.cap_bytes.specs.declared.faults.Rule.{Rule}
use Rattle.cap_bytes.specs.declared.faults.Rule.TheVariants.{Cut}
use Rattle.cap_bytes.specs.declared.faults.Tail.{Tail}
use Rattle.cap_bytes.specs.declared.stops.Stop.{Stop}
use Rattle.cap_bytes.specs.declared.stops.Stop.TheVariants as stops
use Rattle.cap_bytes.proofs.Parsing.{all_shown, longer_shown, Shows-trans, FailsBy-need, FailsBy-later, some_left}
use Rattle.cap_bytes.proofs.Parsing.{SeesStop-fault, SeesStop-end}
use Rattle.cap_bytes.proofs.Reach.{Reaches-need, Reaches-later, ReachesTo-looks}
use Rattle.cap_pcap.specs.inner.Reader.{record_size}
use Rattle.cap_pcap.specs.inner.Parsing.{SeesPcapHeader, SeesRecord, Measures}
use Rattle.cap_pcap.specs.Split.{pcap_header_fault, header_at, captured_at, record_fault, record_at, record_stop_at}
use Rattle.cap_pcap.specs.declared.headers.PcapHeader.{PcapHeader}
use Rattle.cap_pcap.proofs.Faults.{Fits, FitsHeader-from_none, Fits-append, captured_at-append, captured_at-front}
use Rattle.cap_pcap.proofs.Faults.{header_fault-append, header_at-append, record_fault-append, record_fault-cut}
use Rattle.cap_pcap.proofs.Faults.{stop_at-fits}
use Rattle.cap_pcap.proofs.Spelling.{SpellsRecord-at}

-- the header of what is shown
pub SeesHeader-parsed : (there : Bool) (old new : WindowState) (header : PcapHeader) → Needs 24 old (Ok there) new
    → pcap_header_fault old.offset new.shown ≡ None → header ≡ header_at new.shown → SeesPcapHeader header old new
SeesHeader-parsed there old new header n none is =
    grind (arith, FitsHeader-from_none, header_fault-append, header_at-append)

-- it is refused
pub SeesStop-header : (there : Bool) (tail : Tail) (old new : WindowState) (rule : Rule) → Needs 24 old (Ok there) new
    → pcap_header_fault old.offset new.shown ≡ Some rule
    → SeesStop false (pcap_header_fault old.offset (coming old)) tail
    (stops.Refused (record { file = old.file; offset = old.offset; rule = rule })) old new
SeesStop-header true tail old new rule n fault =
    SeesStop-fault false _ tail (length (coming old)) rule old new n.0.goes (λ t. refl)
    (λ t. ap (pcap_header_fault old.offset) (sym (n.0.coming_same t))
    ∙ (header_fault-append old.offset new.shown new.unread n.1 ∙ fault)) (λ t cut. refl)
SeesStop-header false tail old new rule n fault =
    SeesStop-fault false _ tail (length (coming old)) rule old new n.0.goes (λ t. refl)
    (λ t. ap (pcap_header_fault old.offset) (all_shown old new n.0 n.2 t) ∙ fault) (λ t cut. refl)

module _ (header : PcapHeader) (tail : Tail) (old : WindowState) where
  -- no record is there, since nothing is
  pub SeesStop-none : (new : WindowState) → Needs 16 old (Ok false) new → length new.shown ≡ 0
      → SeesStop true (record_fault header.order old.offset (coming old)) tail stops.End old new
  SeesStop-none new n none = grind (arith, SeesStop-end, all_shown, nil_from_length)

  -- no record is there, since the input ends inside it
  pub SeesStop-cut : (new : WindowState) → WindowShows old new → (IsTrue old.told → new.unread ≡ [])
      → 0 < length new.shown
      → record_fault header.order old.offset new.shown ≡ Some Cut
      → SeesStop true (record_fault header.order old.offset (coming old)) tail
      (stop_by true tail old.file old.offset (length new.shown) Cut) old new
  SeesStop-cut new s none some fault =
      SeesStop-fault true _ tail (length new.shown) Cut old new s.goes (some_left true old new s some)
      (λ t. ap (record_fault header.order old.offset) (all_shown old new s none t) ∙ fault)
      (λ t cut. ap length (all_shown old new s none t))

  -- no record is there, since another condition is met
  pub SeesStop-broken : (new : WindowState) (rule : Rule) → WindowShows old new → 0 < length new.shown
      → Some rule ≡ record_fault header.order old.offset new.shown → (rule ≡ Cut → ⊥)
      → SeesStop true (record_fault header.order old.offset (coming old)) tail
      (stop_by true tail old.file old.offset (length new.shown) rule) old new
  SeesStop-broken new rule s some fault other =
      SeesStop-fault true _ tail (length new.shown) rule old new s.goes (some_left true old new s some)
      (λ t. ap (record_fault header.order old.offset) (sym (s.coming_same t))
      ∙ record_fault-append header.order old.offset new.shown new.unread rule (sym fault) other)
      (λ t cut. absurd (other cut))

  -- what is seen in a second look, of all the bytes that the record takes
  module _ (b c : WindowState) (size : ℕ) (p : WindowShows old b) (k : WindowKeeps old b) (head : 16 ≤ length b.shown)
      (is : size ≡ 16 + captured_at header.order b.shown) (few : size ≤ 262160) where
    pub FailsBy-second : (f : Fault) → Needs size b (Err f) c
        → FailsBy 262160 (old.room < 16 + captured_at header.order (coming old)) old f c
    FailsBy-second f n = grind (arith, common_steps, nat_tests, FailsBy-later, captured_at-append, FailsBy-need)

    -- what is read then
    pub Reaches-second : (f : Fault) → Needs size b (Err f) c
        → Reaches (size_found {E = Stop} record_size) (16 + captured_at header.order (coming old)) (position old)
        (Err f) (read_to c)
    Reaches-second f n = grind (arith, common_steps, Reaches-later, captured_at-append, Reaches-need)

    pub ReachesTo-second : Needs size b (Ok true) c → ReachesTo old.most (old.offset + 16) (read_to old) (read_to b)
        → ReachesTo b.most (b.offset + size) (read_to b) (read_to c)
        → ReachesTo old.most (old.offset + record_size (record_at header.order header.unit old.offset c.shown))
        (read_to old) (read_to c)
    unfolding record_at
    ReachesTo-second n first later =
        let same = captured_at-front header.order b.shown c.shown head n.0.front in
        rw (same, ← is)
        (ReachesTo-looks 16 size old b c (omega (arith, is)) k.most p.offset first later)

    pub SeesStop-second : b.offset + size ≤ 2 ^ 40 → Needs size b (Ok false) c
        → SeesStop true (record_fault header.order old.offset (coming old)) tail
        (stop_by true tail old.file old.offset (length c.shown) Cut) old c
    SeesStop-second limit n =
        grind (
          arith,
          common_steps,
          nat_tests,
          longer_shown,
          captured_at-front,
          SeesStop-cut,
          Shows-trans,
          record_fault-cut,
        )

    -- a record is shown
    pub SeesRecord-second : b.offset + size ≤ 2 ^ 40 → Needs size b (Ok true) c
        → SeesRecord header tail (record_at header.order header.unit old.offset c.shown) old c
    unfolding record_at
    SeesRecord-second limit n =
        let longer = longer_shown b c n.0 in
        let same = captured_at-front header.order b.shown c.shown head n.0.front in
        let shows = Shows-trans old b c k.told p n.0 in
        let fits : Fits header.order old.offset c.shown = record {
          head = omega arith;
          captured = omega (arith, same);
          limit = omega (arith, same, p.offset);
          whole = omega (arith, same, n.1);
        } in
        record {
          shows = shows;
          size = fits.whole;
          captured = fits.captured;
          limit = omega (arith, fits.limit, shows.offset);
          offset = refl;
          spelled = SpellsRecord-at header.order header.unit old.offset c.shown fits;
          none = λ t. ap (record_stop_at header.order tail old.file old.offset) (sym (shows.coming_same t))
              ∙ stop_at-fits header.order tail old.file old.offset (coming c)
              (Fits-append header.order old.offset c.shown c.unread fits);
        }

-- A record is shown already, after the bytes that are passed.
pub SeesRecord-shown : (header : PcapHeader) (tail : Tail) (new : WindowState) (size : ℕ) → new.broken ≡ None
    → 16 ≤ length new.shown
    → size ≡ 16 + captured_at header.order new.shown → size ≤ 262160 → new.offset + size ≤ 2 ^ 40
    → size ≤ length new.shown
    → SeesRecord header tail (record_at header.order header.unit new.offset new.shown) new new
unfolding record_at
SeesRecord-shown header tail new size whole head is few limit enough =
    let fits : Fits header.order new.offset new.shown = record {
      head = head;
      captured = omega (arith, is);
      limit = omega (arith, is);
      whole = omega (arith, is);
    } in
    record {
      shows = record {
        goes = record { before = whole; after = whole; failed = refl };
        offset = refl;
        front = take_all (length new.shown) new.shown (omega arith);
        coming_same = λ t. refl;
      };
      size = fits.whole;
      captured = fits.captured;
      limit = fits.limit;
      offset = refl;
      spelled = SpellsRecord-at header.order header.unit new.offset new.shown fits;
      none = λ t. stop_at-fits header.order tail new.file new.offset (coming new)
          (Fits-append header.order new.offset new.shown new.unread fits);
    }

pub SeesRecord-passed : (header : PcapHeader) (tail : Tail) (w u : WindowState) (given size offset : ℕ) (bytes : List ℕ)
    → WindowPasses given w u → bytes ≡ drop given w.shown
    → offset ≡ w.offset + given → w.broken ≡ None → given + 16 ≤ length w.shown
    → Measures header.order offset bytes (Ok size) → size ≤ length bytes
    → SeesRecord header tail (record_at header.order header.unit offset bytes) u u
SeesRecord-passed header tail w u given size offset bytes p is place whole head m enough =
    let e : bytes ≡ u.shown = is ∙ sym p.shown in
    let o : offset ≡ u.offset = place ∙ sym p.offset in
    rw (e, o)
    (SeesRecord-shown header tail u size (p.broken ∙ whole)
    (omega (arith, ap length p.shown, length-drop given w.shown, head))
    (rw e at m.0) m.1 (rw o at m.2) (rw e at enough))
