-- The datagrams of a run of packets, written one by one.
use Rattle.std.proofs.Common.{◌≡◌, ℕ, ◌+◌, ◌*◌, ◌^◌, ◌≤◌, ◌<◌, List, [], ◌∷◌, ◌++◌, drop, map, Bool, IsTrue, Option}
use Rattle.std.proofs.Common.{Some, None, Ok, Err, refl, sym, ap, ◌∙◌, arith}
use Rattle.cap_bytes.specs.Device.{Writer}
use Rattle.cap_bytes.specs.Printing.{Prints}
use Rattle.cap_bytes.specs.declared.faults.Fault.{Fault}
use Rattle.cap_bytes.specs.declared.faults.Refusal.{Refusal}
use Rattle.cap_bytes.specs.declared.numbers.Order.{Order}
use Rattle.cap_join.specs.History.{Event}
use Rattle.cap_join.specs.Joiners.{JoinerState, JoinerStandsFor}
use Rattle.cap_merge.proofs.RunItems.{items-of-run, first-of-run}
use Rattle.cap_merge.specs.Parts.{Part, merged_feed, run_of, BeginsAt}
use Rattle.cap_merge.specs.Run.{Clocked}
use Rattle.cap_source.proofs.Onward.{Went, Went-more, Ends-more}
use Rattle.cap_source.proofs.Walking.{Plan, Walking, Walking-by}
use Rattle.cap_source.specs.Feed.{Feed, Item, packet, refused, FeedKeeps, FeedPasses}
use Rattle.cap_source.specs.inner.Walk.{GivesPacket, ShowsItem, SameEndings}
use Rattle.cap_source.specs.declared.packets.Meta.{Meta}
use Rattle.cap_time.specs.declared.stamps.Stamp.{Stamp}
use Rattle.cap_write.proofs.Forming.{Prints-part, behind}
use Rattle.cap_write.specs.inner.Forms.{FormState, IsFew, form_behind, form_refusal, form_stop, form_text}
use Rattle.cap_write.specs.Joined.{items_of_packet, events_after, joined_items}

pub run-first : (mid shown new : List Part) (meta : Meta) (frame : List ℕ) (clock : Option Stamp)
    → (merged_feed mid).items ≡ packet meta frame ∷ drop 1 (merged_feed mid).items → run_of shown ≡ run_of mid
    → BeginsAt clock (run_of shown) → run_of new ≡ drop 1 (run_of shown)
    → run_of mid ≡ record { clock = clock; item = packet meta frame } ∷ run_of new
run-first mid shown new meta frame clock head same begins dropped = grind (arith, first-of-run, drop, items-of-run)

-- what is to be written of it
pub joined-first : (mid shown new : List Part) (meta : Meta) (frame : List ℕ) (clock : Option Stamp) (place : ℕ)
    (events : List Event)
    → (merged_feed mid).items ≡ packet meta frame ∷ drop 1 (merged_feed mid).items → run_of shown ≡ run_of mid
    → BeginsAt clock (run_of shown) → run_of new ≡ drop 1 (run_of shown)
    → joined_items place events (run_of mid)
    ≡ items_of_packet place events clock meta frame
    ++ joined_items (place + 1) (events_after place events clock meta frame) (run_of new)
unfolding joined_items
joined-first mid shown new meta frame clock place events head same begins dropped =
    grind (arith, run-first, run-first mid shown new meta frame clock head same begins dropped)

pub joined-at-first : (mid shown : List Part) (meta : Meta) (frame : List ℕ) (clock : Option Stamp) (place : ℕ)
    (events : List Event)
    → (merged_feed mid).items ≡ packet meta frame ∷ drop 1 (merged_feed mid).items → run_of shown ≡ run_of mid
    → BeginsAt clock (run_of shown)
    → joined_items place events (run_of mid)
    ≡ items_of_packet place events clock meta frame
    ++ joined_items (place + 1) (events_after place events clock meta frame) (drop 1 (run_of mid))
unfolding joined_items
joined-at-first mid shown meta frame clock place events head same begins =
    grind (arith, first-of-run, drop, items-of-run)

-- what is to be written in a form
abbrev pub plan_in : Order → FormState → Plan
plan_in order form = record { text = form_text order form; refusal = form_refusal form }

-- what is to be written of a run as of a feed
abbrev pub feeding : List Part → ℕ → List Event → Feed
feeding ps place events = record (merged_feed ps) { items = joined_items place events (run_of ps) }

-- The datagrams so far of a run that was `old` are written by a writer that was `from`.
pub record Joining (order : Order) (old new : List Part) (form_old form : FormState) (joiner : JoinerState) (place : ℕ)
    (failed_old failed_new : Bool) (from to : Writer) : Type 0 where
  pub limit : IsFew form
  pub went : Went (merged_feed old) (merged_feed new)
  pub ends : IsTrue (merged_feed old).told → SameEndings (merged_feed old) (merged_feed new)
  pub events : List Event
  pub stands : JoinerStandsFor joiner events
  pub next : joiner.next ≤ place
  pub places : place + (merged_feed new).left ≤ (merged_feed old).left
  pub walk : Walking (plan_in order form_old) (plan_in order form) (feeding old 0 [])
      (feeding new place events) failed_old failed_new from to

-- one more packet
pub Joining-more : (order : Order) (old mid shown new : List Part) (form_old form form_new : FormState)
    (joiner joiner_new : JoinerState) (place : ℕ) (fo fm fn : Bool)
    (from m to : Writer) (meta : Meta) (lent : List ℕ) (clock : Option Stamp)
    → lent ≡ (merged_feed shown).frame
    → Joining order old mid form_old form joiner place fo fm from m
    → GivesPacket (merged_feed mid) (Ok (Some meta)) (merged_feed shown)
    → FeedKeeps (merged_feed mid) (merged_feed shown)
    → (IsTrue (merged_feed mid).told → ShowsItem (merged_feed mid) (Ok (Some meta)) (merged_feed shown))
    → (IsTrue (merged_feed mid).told → run_of shown ≡ run_of mid)
    → (IsTrue (merged_feed shown).told → BeginsAt clock (run_of shown))
    → FeedKeeps (merged_feed shown) (merged_feed new) → FeedPasses (merged_feed shown) (merged_feed new)
    → (IsTrue (merged_feed shown).told → run_of new ≡ drop 1 (run_of shown))
    → IsFew form_new → joiner_new.next ≤ place + 1
    → ((events : List Event) → JoinerStandsFor joiner events
    → JoinerStandsFor joiner_new (events_after place events clock meta lent))
    → ((events : List Event) → JoinerStandsFor joiner events
    → (form_new ≡ form_behind form (items_of_packet place events clock meta lent))
    × (form_stop form (items_of_packet place events clock meta lent) ≡ None))
    → (IsTrue m.told → (events : List Event) → JoinerStandsFor joiner events
    → to.held ≡ m.held ++ form_text order form (items_of_packet place events clock meta lent))
    → (IsTrue m.told → IsTrue to.told) → (IsTrue to.can_fail → IsTrue m.can_fail) → fn ≡ fm
    → Joining order old new form_old form_new joiner_new (place + 1) fo fn from to
Joining-more order old mid shown new form_old form form_new joiner joiner_new place fo fm fn from m to meta frame clock
    lent p gives asked shows same begins passed passes dropped limit next stands named wrote told cannot failed =
    let events = p.events in
    let after = events_after place events clock meta frame in
    let items = items_of_packet place events clock meta frame in
    let rest = joined_items (place + 1) after (run_of new) in
    let split : IsTrue (merged_feed mid).told → joined_items place events (run_of mid) ≡ items ++ rest =
    λ t. joined-first mid shown new meta frame clock place events ((shows t).1
    ∙ ap (λ f. packet meta f ∷ drop 1 (merged_feed mid).items) (sym lent)) (same t) (begins (asked.told t))
    (dropped (asked.told t)) in
    let name = named events p.stands in
    let both = behind order form items rest name.1 in
    record {
      limit = limit;
      went = Went-more (merged_feed old) (merged_feed mid) (merged_feed shown) (merged_feed new) meta p.went gives
          asked passes passed;
      ends = Ends-more (merged_feed old) (merged_feed mid) (merged_feed shown)
          (merged_feed new) meta p.ends p.went.keeps asked shows passes;
      events = after;
      stands = stands events p.stands;
      next = next;
      places = omega (arith, p.places, asked.left, passes.left);
      walk =
          Walking-by (plan_in order form_old) (plan_in order form) (plan_in order form_new) (feeding old 0 [])
          (feeding mid place events) (feeding new (place + 1) after) fo fm fn from m to
          (form_text order form items) p.walk
          (λ t. passed.told (asked.told t)) (λ file c. asked.can_fail file (passed.can_fail file c))
          (omega (arith, passed.left, asked.left))
          (λ t. ap (form_text order form) (split t) ∙ (both.0
          ∙ ap (λ n. form_text order form items ++ form_text order n rest) (sym name.0)))
          (λ t. ap (form_refusal form) (split t) ∙ (both.1 ∙ ap (λ n. form_refusal n rest) (sym name.0)))
          (λ w. wrote w events p.stands) told cannot failed;
    }

joined-none : (xs : List (Clocked Item)) (place : ℕ) (events : List Event) → map (λ x. x.item) xs ≡ []
    → joined_items place events xs ≡ []
unfolding joined_items
joined-none [] place events e = refl
joined-none (x ∷ xs) place events e = cc

joined-refused : (xs : List (Clocked Item)) (place : ℕ) (events : List Event) (r : Refusal)
    → map (λ x. x.item) xs ≡ refused r ∷ []
    → joined_items place events xs ≡ refused r ∷ []
unfolding joined_items
joined-refused [] place events r e = cc
joined-refused (x ∷ xs) place events r e = grind (arith, joined-none)

-- What a call for the next packet answers that tells none, it tells of what is to be written too.
pub shows-fault : (fault : Fault) (mid : List Part) (shown : Feed) (place : ℕ) (events : List Event)
    → ShowsItem (merged_feed mid) (Err fault) shown
    → ShowsItem (feeding mid place events) (Err fault) (feeding mid place events)
shows-fault fault mid shown place events shows = grind (arith, joined-refused, items-of-run)

pub shows-end : (mid : List Part) (shown : Feed) (place : ℕ) (events : List Event)
    → ShowsItem (merged_feed mid) (Ok None) shown
    → ShowsItem (feeding mid place events) (Ok None) (feeding mid place events)
shows-end mid shown place events shows = grind (arith, joined-none, items-of-run)

-- what is written if a packet's datagram isn't written whole, or is refused
pub Joining-part : (order : Order) (fault : Fault) (old mid shown : List Part) (form_old form : FormState)
    (joiner : JoinerState) (place : ℕ) (fo fm : Bool) (from m : Writer) (held : List ℕ)
    (meta : Meta) (lent : List ℕ) (clock : Option Stamp)
    → lent ≡ (merged_feed shown).frame
    → Joining order old mid form_old form joiner place fo fm from m → IsTrue (merged_feed old).told → IsTrue from.told
    → (merged_feed mid).items ≡ packet meta (merged_feed shown).frame ∷ drop 1 (merged_feed mid).items
    → run_of shown ≡ run_of mid
    → BeginsAt clock (run_of shown)
    → ((events : List Event) → JoinerStandsFor joiner events
    → Prints {A = Unit {0}} (form_text order form (items_of_packet place events clock meta lent))
    (form_stop form (items_of_packet place events clock meta lent)) m.held (Err fault) held)
    → Prints {A = Unit {0}} (form_text order form_old (joined_items 0 [] (run_of old)))
    (form_refusal form_old (joined_items 0 [] (run_of old))) from.held (Err fault) held
Joining-part order fault old mid shown form_old form joiner place fo fm from m held meta frame clock lent p t w head
    same begins prints =
    Prints-part order fault (form_text order form_old (joined_items 0 [] (run_of old)))
    (form_refusal form_old (joined_items 0 [] (run_of old))) from m held form
    (joined_items place p.events (run_of mid)) (items_of_packet place p.events clock meta frame)
    (joined_items (place + 1) (events_after place p.events clock meta frame) (drop 1 (run_of mid)))
    (joined-at-first mid shown meta frame clock place p.events (head
    ∙ ap (λ f. packet meta f ∷ drop 1 (merged_feed mid).items) (sym lent)) same begins)
    (p.walk.text t) w (p.walk.refusal_same t) (prints p.events p.stands)

-- a place is small, if a run of few files has at most that many packets
pub place-small : (place left all count : ℕ) → place + left ≤ all → all ≤ count * 2 ^ 40 → count ≤ 32 → place < 2 ^ 63
place-small place left all count p most few = omega (arith, p, most, few)
