-- The packets of a run that are left out, counted one by one.
use Rattle.std.proofs.Common.{◌≡◌, ℕ, ◌+◌, List, [], ◌∷◌, drop, map, IsTrue, Option, Some, None, Ok, refl, sym, ap, ◌∙◌}
use Rattle.std.proofs.Common.{subst, arith}
use Rattle.cap_class.specs.Taken.{Taken, taken}
use Rattle.cap_join.specs.Joiners.{JoinerState}
use Rattle.cap_merge.proofs.RunItems.{items-of-run}
use Rattle.cap_merge.specs.Parts.{Part, merged_feed, run_of, BeginsAt}
use Rattle.cap_merge.specs.Run.{Clocked}
use Rattle.cap_source.specs.Feed.{Feed, Item, packet}
use Rattle.cap_source.specs.inner.Walk.{ShowsItem}
use Rattle.cap_source.specs.declared.packets.Meta.{Meta}
use Rattle.cap_class.specs.Runs.{taken_after}
use Rattle.cap_time.specs.declared.stamps.Stamp.{Stamp}
use Rattle.cap_write.proofs.Joining.{run-first}
use Rattle.cap_write.specs.LeftOut.{CountsLeftOut}
use Rattle.cap_write.specs.inner.LeftCounts.{StandsForTaken}
use Rattle.cap_write.specs.declared.left_out.LeftOut.{LeftOut}

-- The packets so far of a run that was `old` were taken, and are counted.
pub record CountingOut (old new : List Part) (joiner : JoinerState) (place : ℕ) (left : Option LeftOut) : Type 0 where
  pub packets : List Taken
  pub stands : StandsForTaken packets place joiner left
  pub run : IsTrue (merged_feed old).told → taken_after [] (run_of old) ≡ taken_after packets (run_of new)

-- before the first packet
pub CountingOut-none : (old : List Part) (joiner : JoinerState) (left : Option LeftOut)
    → StandsForTaken [] 0 joiner left → CountingOut old old joiner 0 left
CountingOut-none old joiner left h = record { packets = []; stands = h; run = λ t. refl }

taken-first : (xs : List Taken) (clock : Option Stamp) (meta : Meta) (frame : List ℕ) (run rest : List (Clocked Item))
    → run ≡ record { clock = clock; item = packet meta frame } ∷ rest
    → taken_after xs run ≡ taken_after (taken clock meta frame ∷ xs) rest
unfolding taken_after
taken-first xs clock meta frame run rest is = ap (taken_after xs) is

-- one more packet
pub CountingOut-more : (old mid shown new : List Part) (joiner joiner_new : JoinerState) (place : ℕ)
    (left left_new : Option LeftOut) (meta : Meta) (lent : List ℕ) (clock : Option Stamp)
    → lent ≡ (merged_feed shown).frame → CountingOut old mid joiner place left
    → (IsTrue (merged_feed old).told → IsTrue (merged_feed mid).told)
    → (IsTrue (merged_feed mid).told → IsTrue (merged_feed shown).told)
    → (IsTrue (merged_feed mid).told → ShowsItem (merged_feed mid) (Ok (Some meta)) (merged_feed shown))
    → (IsTrue (merged_feed mid).told → run_of shown ≡ run_of mid)
    → (IsTrue (merged_feed shown).told → BeginsAt clock (run_of shown))
    → (IsTrue (merged_feed shown).told → run_of new ≡ drop 1 (run_of shown))
    → ((xs : List Taken) → StandsForTaken xs place joiner left
    → StandsForTaken (taken clock meta lent ∷ xs) (place + 1) joiner_new left_new)
    → CountingOut old new joiner_new (place + 1) left_new
CountingOut-more old mid shown new joiner joiner_new place left left_new meta lent clock is p told on shows same begins
    dropped step = record {
      packets = taken clock meta lent ∷ p.packets;
      stands = step p.packets p.stands;
      run = λ t.
          let m = told t in
          p.run t ∙ taken-first p.packets clock meta lent (run_of mid) (run_of new)
          (run-first mid shown new meta lent clock
          ((shows m).1 ∙ ap (λ f. packet meta f ∷ drop 1 (merged_feed mid).items) (sym is))
          (same m) (begins (on m)) (dropped (on m)));
    }

no-run : (run : List (Clocked Item)) → map (λ x. x.item) run ≡ [] → run ≡ []
no-run [] e = refl
no-run (x ∷ run) e = cc

run-none : (mid : List Part) (shown : Feed) → ShowsItem (merged_feed mid) (Ok None) shown → run_of mid ≡ []
run-none mid shown shows = grind (arith, no-run, items-of-run)

taken-none : (xs : List Taken) (run : List (Clocked Item)) → run ≡ [] → taken_after xs run ≡ xs
unfolding taken_after
taken-none xs run is = ap (taken_after xs) is

-- all packets are counted at the end
pub CountingOut-end : (old mid : List Part) (shown : Feed) (joiner : JoinerState) (place : ℕ) (left : Option LeftOut)
    → CountingOut old mid joiner place left → ShowsItem (merged_feed mid) (Ok None) shown
    → IsTrue (merged_feed old).told → CountsLeftOut left (taken_after [] (run_of old))
CountingOut-end old mid shown joiner place left p shows t =
    subst (CountsLeftOut left)
    (sym (p.run t ∙ taken-none p.packets (run_of mid) (run-none mid shown shows))) p.stands.counts
