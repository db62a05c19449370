-- What holds if a tally has looked at a packet.
use Rattle.std.proofs.Common.{◌≡◌, ℕ, ◌+◌, ◌*◌, ◌≤◌, ◌<◌, ◌^◌, Bool, true, false, List, [], ◌∷◌, ◌++◌, length, refl}
use Rattle.std.proofs.Common.{sym, ◌∙◌}
use Rattle.std.proofs.Common.{ap, subst, arith, Option, Some, None}
use Rattle.std.specs.Option.{option_map_or}
use Rattle.std.specs.Prelude.{if◌then◌else◌}
use Rattle.cap_ip.specs.Header.{HeaderFields}
use Rattle.cap_ip.specs.Transport.{transport_of}
use Rattle.cap_join.specs.ByteMap.{completes}
use Rattle.cap_join.specs.Fragments.{Piece}
use Rattle.cap_join.specs.inner.Groups.{IsDatagramOf}
use Rattle.cap_join.specs.History.{Event, arrives, flushes, joined_pieces, open_groups_after}
use Rattle.cap_join.specs.Joiners.{JoinerState, open_limit}
use Rattle.cap_join.specs.Joiners as joiners
use Rattle.cap_join.specs.declared.datagrams.Datagram.{Datagram}
use Rattle.cap_join.specs.declared.datagrams.Stamped.{Stamped}
use Rattle.cap_talks.specs.table.Rows.{TalksState, frames_in, bytes_in, is_refused, talk_limit}
use Rattle.cap_talks.specs.table.Rows as talks
use Rattle.cap_talks.specs.table.Conversations.{frames_of, units_bytes, talk_key, rows_of}
use Rattle.cap_talks.specs.declared.table.units.CountedUnit.{CountedUnit}
use Rattle.cap_talks.proofs.Frames.{frames-counted}
use Rattle.cap_class.proofs.Seen.{read-datagram, read-fragment, report-sum}
use Rattle.cap_class.specs.Ipv6.{ipv6_class, read_in}
use Rattle.cap_ipv6.specs.Read.{Reading}
use Rattle.cap_talks.proofs.Tallying.{unit-waiting, enough-waiting, Stands-ipv6, Stands-joined, state, Stands-plain}
use Rattle.cap_talks.proofs.Tallying.{unit-read, unit-seen}
use Rattle.cap_talks.proofs.Tallying.{Stands-datagram, Stands-kept, Stands-waiting}
use Rattle.cap_class.specs.Classes.{datagram_class}
use Rattle.cap_talks.specs.inner.table.Adding.{datagram_unit, is_over}
use Rattle.cap_join.specs.Completed.{if_complete, completed_of}
use Rattle.cap_class.specs.Counting.{sum_of}
use Rattle.cap_class.specs.Classes.{class_of}
use Rattle.cap_talks.specs.inner.table.Looking.{is_plain, is_plain_by, is_plain_for}
use Rattle.cap_class.specs.Taken.{Classification, Taken, plain, datagram, fragment, classify, stamped_of, events_of}
use Rattle.std.specs.Prelude.{Err}
use Rattle.cap_talks.specs.declared.table.conversations.ConversationsFault.{ConversationsFault}
use Rattle.cap_talks.specs.inner.table.Tallies.{Joins, LimitBy, TallyState, TallyStands, IsSoundTally, WaitingFits}
use Rattle.cap_talks.specs.inner.table.Tallies.{Looks, one_if_waiting}
use Rattle.cap_class.specs.Counting.{with_frames, with_group}
use Rattle.cap_talks.specs.inner.table.Tallies.{counted_one}
use Rattle.cap_talks.specs.table.CountedUnits.{counted_in, first_unit, ipv6_unit, whole_unit, listed, unit_for}
use Rattle.cap_talks.specs.table.CountedUnits.{units_for}
use Rattle.cap_talks.specs.table.CountedUnits.{is_limit_for}
use Rattle.cap_class.specs.declared.classes.Class.{Class}
use Rattle.cap_class.specs.declared.classes.Class.TheVariants as class
use Rattle.cap_class.specs.declared.counts.ClassCounts.{ClassCounts}

-- no datagram waits: then it doesn't matter what comes next
pub unwaited : (t : TallyState) (xs : List Taken) (old next : Option Taken) → t.waiting ≡ None → TallyStands t xs old
    → TallyStands (state t.reads t.place t.classes t.joined t.talks t.joiner None) xs next
unwaited t xs old next none h = grind arith

-- the seven counts are the packets'
pub sum-taken : (t : TallyState) (xs : List Taken) (next : Option Taken) → TallyStands t xs next
    → sum_of t.classes ≡ t.place
sum-taken t xs next h = ap sum_of h.classes ∙ report-sum t.reads xs ∙ sym h.place

-- the frames of the conversations are among them
pub frames-taken : (t : TallyState) (xs : List Taken) (next : Option Taken)
    → ((us : List CountedUnit) → frames_in (rows_of us) ≡ frames_of us) → TallyStands t xs next
    → frames_in t.talks.rows ≤ t.place
frames-taken t xs next sums h =
    grind (
      arith,
      ap frames_in h.talks.rows,
      sums (units_for t.reads xs),
      frames-counted t.reads xs,
      report-sum t.reads xs,
      h.place,
    )

fit : (reads : Bool) (place joined : ℕ) (counts other : ClassCounts) (t : TalksState) (j : JoinerState)
    (w : Option Datagram)
    (xs : List Taken) (next : Option Taken) → w ≡ None → other ≡ counts
    → TallyStands (state reads place counts joined t j None) xs next
    → TallyStands (state reads place other joined t j w) xs next
fit reads place joined counts other t j w xs next none same h = grind arith

no_fits : (w : Option Datagram) (place : ℕ) → w ≡ None → WaitingFits w place
no_fits w place none = subst (λ (v : Option Datagram). WaitingFits v place) (sym none) tt

no_limit : (reads : Bool) (x : Taken) (xs : List Taken) → unit_for reads xs x ≡ None → is_limit_for reads xs x ≡ false
no_limit reads x xs is = ap
    (λ u. option_map_or (λ unit. is_refused talk_limit (rows_of (units_for reads xs)) (talk_key unit)) u false) is

-- the limit, as the table has it
pub limit-is : (t : TallyState) (x : Taken) (xs : List Taken) (next : Option Taken) (u : Option CountedUnit)
    → TallyStands t xs next → unit_for t.reads xs x ≡ u
    → is_over t.talks.rows u ≡ is_limit_for t.reads xs x
limit-is t x xs next u h is = λ i. is_over (h.talks.rows i) (sym is i)

module _ (t : TallyState) (x : Taken) (none : t.waiting ≡ None) where
  -- a packet of a class
  pub looks-plain : (c : Class) → ((place : ℕ) → classify place x ≡ plain c) → read_in t.reads x ≡ None
      → (counts : ClassCounts)
      → counts ≡ with_frames c 1 t.classes
      → Looks t x false (record t { place = t.place + 1; classes = counts })
  looks-plain c is unread counts same = λ xs h. (
    no_limit t.reads x xs (unit-seen t.reads x xs (plain c) (is (length xs)) unread),
    λ next.
        fit t.reads (t.place + 1) t.joined (with_frames c 1 t.classes) counts t.talks t.joiner t.waiting (x ∷ xs) next
        none same
        (Stands-plain t.reads t.place t.joined t.classes t.talks t.joiner xs x
        (unwaited t xs (Some x) (Some x) none h) c
        (is (length xs)) unread next),
  )

  pub sound-plain : IsSoundTally t → t.place < 2 ^ 62 → (c : Class) → ((place : ℕ) → classify place x ≡ plain c)
      → read_in t.reads x ≡ None → (counts : ClassCounts) → counts ≡ with_frames c 1 t.classes
      → IsSoundTally (record t { place = t.place + 1; classes = counts })
  sound-plain s few c is unread counts same = record {
    taken = x ∷ s.taken;
    next = None;
    stands =
        fit t.reads (t.place + 1) t.joined (with_frames c 1 t.classes) counts t.talks t.joiner t.waiting
        (x ∷ s.taken) None none same
        (Stands-plain t.reads t.place t.joined t.classes t.talks t.joiner s.taken x
        (unwaited t s.taken s.next (Some x) none s.stands) c (is (length s.taken)) unread None);
    few = omega (arith, few);
    places = omega (arith, s.places);
    bytes = s.bytes;
    fits = no_fits t.waiting (t.place + 1) none;
  }

  -- a packet of IPv6 that is read
  module _ (c : Class) (is : (place : ℕ) → classify place x ≡ plain c) (r : Reading) (some : read_in t.reads x ≡ Some r)
      (u : TalksState)
      (new : (us : List CountedUnit) → talks.TalksStandFor t.talks us
      → talks.TalksStandFor u (us ++ listed (ipv6_unit r (stamped_of t.place x.meta))))
      (counts : ClassCounts) (same : counts ≡ with_frames (ipv6_class r) 1 t.classes) where
    read-on : (xs : List Taken) (old next : Option Taken) → TallyStands t xs old
        → TallyStands (record t { place = t.place + 1; classes = counts; talks = u }) (x ∷ xs) next
    read-on xs old next h =
        fit t.reads (t.place + 1) t.joined (with_frames (ipv6_class r) 1 t.classes) counts u t.joiner t.waiting
        (x ∷ xs) next none same
        (Stands-ipv6 t.reads t.place t.joined t.classes t.talks t.joiner xs x (unwaited t xs old (Some x) none h) c
        (is (length xs)) r some u
        (subst (λ (n : ℕ). talks.TalksStandFor u (units_for t.reads xs ++ listed (ipv6_unit r (stamped_of n x.meta))))
        h.place (new (units_for t.reads xs) h.talks)) next)

    pub looks-ipv6 : is_over t.talks.rows (ipv6_unit r (stamped_of t.place x.meta)) ≡ false
        → Looks t x false (record t { place = t.place + 1; classes = counts; talks = u })
    looks-ipv6 free = λ xs h. (
      sym (limit-is t x xs (Some x) (ipv6_unit r (stamped_of t.place x.meta)) h
          (unit-read t.reads x xs r some
          ∙ ap (λ (n : ℕ). ipv6_unit r (stamped_of n x.meta)) (sym h.place))) ∙ free,
      λ next. read-on xs (Some x) next h,
    )

    pub sound-ipv6 : IsSoundTally t → t.place < 2 ^ 62 → bytes_in u.rows ≤ frames_in u.rows * 2 ^ 32
        → IsSoundTally (record t { place = t.place + 1; classes = counts; talks = u })
    sound-ipv6 s few bytes = record {
      taken = x ∷ s.taken;
      next = None;
      stands = read-on s.taken s.next None s.stands;
      few = omega (arith, few);
      places = omega (arith, s.places);
      bytes = bytes;
      fits = no_fits t.waiting (t.place + 1) none;
    }

  -- a whole datagram
  module _ (header : HeaderFields) (captured : List ℕ) (is : (place : ℕ) → classify place x ≡ datagram header captured)
      (u : TalksState) (k : JoinerState)
      (new : (us : List CountedUnit) → talks.TalksStandFor t.talks us
      → talks.TalksStandFor u (us ++ listed (whole_unit header captured (stamped_of t.place x.meta))))
      (flushed : (es : List Event) → joiners.JoinerStandsFor t.joiner es
      → joiners.JoinerStandsFor k (flushes header.key ∷ es))
      (counts : ClassCounts) (same : counts ≡ with_frames
      (class_of (transport_of header.key.protocol captured header.data_length)) 1 t.classes) where
    behind : (xs : List Taken) (old next : Option Taken) → TallyStands t xs old
        → TallyStands (record t { place = t.place + 1; classes = counts; talks = u; joiner = k }) (x ∷ xs) next
    behind xs old next h =
        fit t.reads (t.place + 1) t.joined
        (with_frames (class_of (transport_of header.key.protocol captured header.data_length)) 1 t.classes) counts u
        k t.waiting (x ∷ xs) next none same
        (Stands-datagram t.reads t.place t.joined t.classes t.talks t.joiner xs x
        (unwaited t xs old (Some x) none h) header captured (is (length xs)) u k
        (subst (λ (n : ℕ). talks.TalksStandFor u (units_for t.reads xs
        ++ listed (whole_unit header captured (stamped_of n x.meta))))
        h.place (new (units_for t.reads xs) h.talks))
        (flushed (events_of xs) (unwaited t xs old (Some x) none h).joins) next)

    pub looks-datagram : is_over t.talks.rows (whole_unit header captured (stamped_of t.place x.meta)) ≡ false
        → Looks t x false (record t { place = t.place + 1; classes = counts; talks = u; joiner = k })
    looks-datagram free = λ xs h. (
      sym (limit-is t x xs (Some x) (whole_unit header captured (stamped_of t.place x.meta)) h
          (unit-seen t.reads x xs (datagram header captured) (is (length xs))
          (read-datagram x (length xs) t.reads header captured (is (length xs)))
          ∙ ap (λ (n : ℕ). whole_unit header captured (stamped_of n x.meta)) (sym h.place))) ∙ free,
      λ next. behind xs (Some x) next h,
    )

    pub sound-datagram : IsSoundTally t → t.place < 2 ^ 62 → k.next ≡ t.joiner.next
        → bytes_in u.rows ≤ frames_in u.rows * 2 ^ 32
        → IsSoundTally (record t { place = t.place + 1; classes = counts; talks = u; joiner = k })
    sound-datagram s few next bytes = record {
      taken = x ∷ s.taken;
      next = None;
      stands = behind s.taken s.next None s.stands;
      few = omega (arith, few);
      places = omega (arith, s.places, next);
      bytes = bytes;
      fits = no_fits t.waiting (t.place + 1) none;
    }

  -- a fragment that is kept
  module _ (p : ℕ → Piece) (is : (place : ℕ) → classify place x ≡ fragment (p place)) (k : JoinerState)
      (put : (es : List Event) → joiners.JoinerStandsFor t.joiner es
      → joiners.JoinerStandsFor k (arrives x.clock (p t.place) ∷ es)) where
    unit-kept : (xs : List Taken)
        → completes (joined_pieces x.clock (p (length xs)) (open_groups_after open_limit (events_of xs))) ≡ false
        → unit_for t.reads xs x ≡ None
    unit-kept xs open_still =
        unit-seen t.reads x xs (fragment (p (length xs))) (is (length xs))
        (read-fragment x (length xs) t.reads (p (length xs)) (is (length xs)))
        ∙ ap (λ (b : Bool). first_unit (if b then joined_pieces x.clock (p (length xs))
        (open_groups_after open_limit (events_of xs)) ∷ [] else [])) open_still

    came : (xs : List Taken) (old : Option Taken) → TallyStands t xs old
        → joiners.JoinerStandsFor k (arrives x.clock (p (length xs)) ∷ events_of xs)
    came xs old h =
        subst (λ (n : ℕ). joiners.JoinerStandsFor k (arrives x.clock (p n) ∷ events_of xs)) h.place
        (put (events_of xs) (unwaited t xs old (Some x) none h).joins)

    module _ (unfinished : (es : List Event) → joiners.JoinerStandsFor t.joiner es
        → completes (joined_pieces x.clock (p t.place) (open_groups_after open_limit es)) ≡ false)
        (counts : ClassCounts) (same : counts ≡ with_frames class.Unjoined 1 t.classes) where
      not-yet : (xs : List Taken) (old : Option Taken) → TallyStands t xs old
          → completes (joined_pieces x.clock (p (length xs)) (open_groups_after open_limit (events_of xs))) ≡ false
      not-yet xs old h = grind arith

      kept : (xs : List Taken) (old next : Option Taken) → TallyStands t xs old
          → TallyStands (record t { place = t.place + 1; classes = counts; joiner = k }) (x ∷ xs) next
      kept xs old next h =
          fit t.reads (t.place + 1) t.joined (with_frames class.Unjoined 1 t.classes) counts t.talks k t.waiting
          (x ∷ xs) next none same
          (Stands-kept t.reads t.place t.joined t.classes t.talks t.joiner xs x (unwaited t xs old (Some x) none h)
          (p (length xs)) (is (length xs)) (not-yet xs old h) k (came xs old h) next)

      pub looks-kept : Looks t x false (record t { place = t.place + 1; classes = counts; joiner = k })
      looks-kept = λ xs h.
          (no_limit t.reads x xs (unit-kept xs (not-yet xs (Some x) h)), λ next. kept xs (Some x) next h)

      pub sound-kept : IsSoundTally t → t.place < 2 ^ 62 → k.next ≤ t.place + 1
          → IsSoundTally (record t { place = t.place + 1; classes = counts; joiner = k })
      sound-kept s few next = record {
        taken = x ∷ s.taken;
        next = None;
        stands = kept s.taken s.next None s.stands;
        few = omega (arith, few);
        places = omega (arith, next);
        bytes = s.bytes;
        fits = no_fits t.waiting (t.place + 1) none;
      }

    -- one that completes a datagram, which waits then
    module _ (d : Datagram)
        (yes : (es : List Event) → joiners.JoinerStandsFor t.joiner es
        → (completes (joined_pieces x.clock (p t.place) (open_groups_after open_limit es)) ≡ true)
        × IsDatagramOf d (joined_pieces x.clock (p t.place) (open_groups_after open_limit es))) where
      waits : (xs : List Taken) (old : Option Taken) → TallyStands t xs old
          → TallyStands (record t { joiner = k; waiting = Some d }) xs (Some x)
      waits xs old h =
          let now = unwaited t xs old (Some x) none h in
          let both = subst (λ (n : ℕ).
          (completes (joined_pieces x.clock (p n) (open_groups_after open_limit (events_of xs))) ≡ true)
          × IsDatagramOf d (joined_pieces x.clock (p n) (open_groups_after open_limit (events_of xs)))) h.place
          (yes (events_of xs) now.joins) in
          Stands-waiting t.reads t.place t.joined t.classes t.talks t.joiner xs x now (p (length xs))
          (is (length xs)) k d
          (came xs old h) both.0 both.1

      pub looks-waiting : Looks t x true (record t { joiner = k; waiting = Some d })
      looks-waiting = λ xs h. waits xs (Some x) h

      pub sound-waiting : IsSoundTally t → k.next ≤ t.place + 1 → WaitingFits (Some d) t.place
          → IsSoundTally (record t { joiner = k; waiting = Some d })
      sound-waiting s next fits = search (waits)

-- ---- numbers of a whole datagram

pub numbers-whole : (header : HeaderFields) (captured : List ℕ) (s : Stamped) → s.original < 2 ^ 32
    → (frames_of (listed (whole_unit header captured s)) ≤ 1)
    × (units_bytes (listed (whole_unit header captured s)) ≤ frames_of (listed (whole_unit header captured s)) * 2 ^ 32)
numbers-whole header captured s h = grind arith

-- ---- numbers of a datagram of IPv6

pub numbers-ipv6 : (r : Reading) (s : Stamped) → s.original < 2 ^ 32
    → (frames_of (listed (ipv6_unit r s)) ≤ 1)
    × (units_bytes (listed (ipv6_unit r s)) ≤ frames_of (listed (ipv6_unit r s)) * 2 ^ 32)
numbers-ipv6 r s h = grind arith

-- ---- answers

pub limit-by : (fault : ConversationsFault) (a b : Bool) → a ≡ b → LimitBy (Err fault) a → LimitBy (Err fault) b
limit-by fault a b same h = subst (LimitBy (Err fault)) same h

-- ---- a datagram that waits

events-taken : (xs : List Taken) → length (events_of xs) ≤ length xs
unfolding events_of
events-taken [] = omega arith
events-taken (x ∷ xs) = grind (arith, events-taken xs)

counted-more : (ps : List Piece) (groups : List (List Piece))
    → counted_in (if_complete ps ++ groups) ≤ counted_in groups + 1
counted-more ps groups = grind arith

counted-few : (limit : ℕ) (es : List Event) → counted_in (completed_of limit es) ≤ length es
unfolding completed_of
counted-few limit [] = omega arith
counted-few limit (arrives clock p ∷ es) = omega (
  arith,
  counted-more (joined_pieces clock p (open_groups_after limit es)) (completed_of limit es),
  counted-few limit es,
)
counted-few limit (flushes key ∷ es) = omega (arith, counted-few limit es)

pub joined-taken : (t : TallyState) (xs : List Taken) (next : Option Taken) → TallyStands t xs next → t.joined ≤ t.place
joined-taken t xs next h = omega (arith, h.joined, h.place, counted-few open_limit (events_of xs), events-taken xs)

pub numbers-joined : (d : Datagram) → d.bytes ≤ d.frames * 2 ^ 32
    → (frames_of (listed (datagram_unit d)) ≤ d.frames)
    × (units_bytes (listed (datagram_unit d)) ≤ frames_of (listed (datagram_unit d)) * 2 ^ 32)
unfolding datagram_unit
numbers-joined d h = grind arith

pub waiting-state : (t : TallyState) (d : Datagram) (xs : List Taken) (next : Option Taken) → t.waiting ≡ Some d
    → TallyStands t xs next
    → TallyStands (state t.reads t.place t.classes t.joined t.talks t.joiner (Some d)) xs next
waiting-state t d xs next is h =
    subst (λ (w : Option Datagram). TallyStands (state t.reads t.place t.classes t.joined t.talks t.joiner w) xs next)
    is h

module _ (t : TallyState) (d : Datagram) (is : t.waiting ≡ Some d) (u : TalksState)
    (new : (us : List CountedUnit) → talks.TalksStandFor t.talks us
    → talks.TalksStandFor u (us ++ listed (datagram_unit d)))
    (counts : ClassCounts) (same : counts ≡ with_group (datagram_class d) d.frames t.classes) where
  gone-on : (xs : List Taken) (next later : Option Taken)
      → (h : TallyStands (state t.reads t.place t.classes t.joined t.talks t.joiner (Some d)) xs next)
      → TallyStands (state t.reads (t.place + 1) counts (t.joined + counted_one (datagram_class d)) u t.joiner None)
      (h.joins.packet ∷ xs) later
  gone-on xs next later h =
      subst (λ (n : ClassCounts). TallyStands (state t.reads (t.place + 1) n
      (t.joined + counted_one (datagram_class d)) u t.joiner None) (h.joins.packet ∷ xs) later) (sym same)
      (Stands-joined t.reads t.place t.joined t.classes t.talks t.joiner d xs next h u
      (new (units_for t.reads xs) h.talks) later)

  pub stands-joined : is_over t.talks.rows (datagram_unit d) ≡ false → (xs : List Taken) (x : Taken)
      → TallyStands t xs (Some x)
      → (is_limit_for t.reads xs x ≡ false) × ((next : Option Taken)
      → TallyStands (state t.reads (t.place + 1) counts (t.joined
      + counted_one (datagram_class d)) u t.joiner None) (x ∷ xs) next)
  stands-joined free xs x h =
      let w = waiting-state t d xs (Some x) is h in
      let own : w.joins.packet ≡ x = some-is (sym w.joins.is_next) in (
        sym (limit-is t x xs (Some x) (datagram_unit d) h (ap (unit_for t.reads xs) (sym own)
            ∙ unit-waiting t.reads t.place t.joined t.classes t.talks t.joiner d xs (Some x) w)) ∙ free,
        λ next. subst (λ (y : Taken). TallyStands (state t.reads (t.place + 1) counts
            (t.joined + counted_one (datagram_class d)) u t.joiner None) (y ∷ xs) next) own
            (gone-on xs (Some x) next w),
      )
    where
      some-is : {a b : Taken} → Some a ≡ Some b → a ≡ b
      some-is {a} {b} e = cc

  pub sound-joined : IsSoundTally t → t.place < 2 ^ 62 → bytes_in u.rows ≤ frames_in u.rows * 2 ^ 32
      → IsSoundTally (state t.reads (t.place + 1) counts (t.joined + counted_one (datagram_class d)) u t.joiner None)
  sound-joined s few bytes =
      let w = waiting-state t d s.taken s.next is s.stands in
      record {
        taken = w.joins.packet ∷ s.taken;
        next = None;
        stands = gone-on s.taken s.next None w;
        few = omega (arith, few);
        places = omega (arith, s.places, ap one_if_waiting is);
        bytes = bytes;
        fits = tt;
      }

pub limit-waiting : (t : TallyState) (d : Datagram) (xs : List Taken) (x : Taken) → t.waiting ≡ Some d
    → TallyStands t xs (Some x) → is_over t.talks.rows (datagram_unit d) ≡ is_limit_for t.reads xs x
limit-waiting t d xs x is h =
    let w = waiting-state t d xs (Some x) is h in
    let own : w.joins.packet ≡ x = some-is (sym w.joins.is_next) in
    limit-is t x xs (Some x) (datagram_unit d) h (ap (unit_for t.reads xs) (sym own)
    ∙ unit-waiting t.reads t.place t.joined t.classes t.talks t.joiner d xs (Some x) w)
  where
    some-is : {a b : Taken} → Some a ≡ Some b → a ≡ b
    some-is {a} {b} e = cc

pub enough-for : (t : TallyState) (d : Datagram) (xs : List Taken) (next : Option Taken) → t.waiting ≡ Some d
    → TallyStands t xs next → d.frames ≤ t.classes.unjoined + 1
enough-for t d xs next is h = enough-waiting t.reads t.place t.joined t.classes t.talks t.joiner d xs next
    (waiting-state t d xs next is h)

-- something is kept of a datagram and a fragment, whatever is read of it
pub kept-by : (o : Option Reading) (l : Classification) → is_plain l ≡ false → is_plain_by o l ≡ false
kept-by None l h = h
kept-by (Some r) l h = refl

-- a datagram waits: the packet that comes next is a fragment
pub waiting-kept : (t : TallyState) (d : Datagram) (xs : List Taken) (x : Taken) → t.waiting ≡ Some d
    → TallyStands t xs (Some x) → is_plain_for t.reads (length xs) x ≡ false
waiting-kept t d xs x waits s = by t.waiting waits s.joins
  where
    by : (w : Option Datagram) → w ≡ Some d → Joins w t.joiner xs (Some x) → is_plain_for t.reads (length xs) x ≡ false
    by None is j = absurd (clash is)
      where
        clash : None ≡ Some d → ⊥
        clash e = cc
    by (Some e) is j = same j.packet j.piece j.is_next j.is_fragment
      where
        same : (y : Taken) (p : Piece) → Some x ≡ Some y → classify (length xs) y ≡ fragment p
            → is_plain_for t.reads (length xs) x ≡ false
        same y p next look_is = kept-by (read_in t.reads x) (classify (length xs) x) (grind arith)
