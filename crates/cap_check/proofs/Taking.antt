-- The packets of a feed, taken one by one.
use Rattle.std.proofs.Common.{◌≡◌, ◌<◌, ◌≤◌, ◌+◌, ◌*◌, ◌^◌, ℕ, List, [], ◌∷◌, ◌++◌, drop, sym, ap, ◌∙◌}
use Rattle.std.proofs.Common.{arith, refl, true, Some, None, IsTrue, Ok, Err, append_assoc}
use Rattle.cap_bytes.specs.declared.faults.Fault.{Fault}
use Rattle.cap_bytes.specs.declared.faults.Fault.TheVariants.{Refused, Read, Write, Memory}
use Rattle.cap_source.proofs.Onward.{Keeps-refl, Keeps-trans}
use Rattle.cap_source.proofs.Refusals.{refusal-next}
use Rattle.cap_source.specs.Feed.{Feed, FeedKeeps, FeedPasses, Item, packet, refused, refusal_of}
use Rattle.cap_source.specs.inner.Walk.{GivesPacket, ShowsItem}
use Rattle.cap_source.specs.Times.{meta_time}
use Rattle.cap_source.specs.declared.packets.Meta.{Meta}
use Rattle.cap_check.proofs.Times.{least-first-more}
use Rattle.cap_check.specs.Checking.{checked_after, nothing_checked, with_checked}
use Rattle.cap_check.specs.inner.Taking.{FailsHere, TakesPackets, are_least_first}
use Rattle.cap_check.specs.declared.checked.Checked.{Checked}

-- Some packets of a feed, which was `old`, were taken.
pub record Taking (old mid : Feed) (checked : Checked) : Type 0 where
  pub few : checked.packets + mid.left ≤ 2 ^ 40
  pub bytes : checked.bytes ≤ checked.packets * 2 ^ 32
  pub order : are_least_first checked.first checked.last ≡ true
  pub backward : checked.backward ≤ checked.packets
  pub untimed : checked.untimed ≤ checked.packets
  pub truncated : checked.truncated ≤ checked.packets
  pub keeps : FeedKeeps old mid
  pub taken : List Item
  pub items : IsTrue old.told → old.items ≡ taken ++ mid.items
  pub refusal : IsTrue old.told → refusal_of mid.items ≡ refusal_of old.items
  pub endings : IsTrue old.told → (file : ℕ) → mid.endings file ≡ old.endings file
  pub after : (items : List Item) → checked_after nothing_checked (taken ++ items) ≡ checked_after checked items

pub Taking-none : (old : Feed) (checked : Checked) → old.left ≤ 2 ^ 40 → checked ≡ nothing_checked
    → Taking old old checked
Taking-none old checked few is = record {
  few = rw is (omega (arith, few));
  bytes = rw is (omega arith);
  order = rw is refl;
  backward = rw is (omega arith);
  untimed = rw is (omega arith);
  truncated = rw is (omega arith);
  keeps = Keeps-refl old;
  taken = [];
  items = λ t. refl;
  refusal = λ t. refl;
  endings = λ t file. refl;
  after = λ items. rw is refl;
}

pub after-packet : (checked : Checked) (meta : Meta) (frame : List ℕ) (items : List Item)
    → checked_after checked (packet meta frame ∷ items) ≡ checked_after (with_checked checked meta) items
unfolding checked_after
after-packet checked meta frame items = refl

pub after-none : (checked : Checked) → checked_after checked [] ≡ checked
unfolding checked_after
after-none checked = refl

after-refused : (checked : Checked) (items : List Item) → (r : _) → items ≡ refused r ∷ []
    → checked_after checked items ≡ checked
unfolding checked_after
after-refused checked items r is = rw is refl

-- one packet more
pub Taking-more : (old mid shown new : Feed) (checked : Checked) (meta : Meta) → Taking old mid checked
    → FeedKeeps mid shown → (IsTrue mid.told → ShowsItem mid (Ok (Some meta)) shown)
    → FeedPasses shown new → FeedKeeps shown new → meta.original < 2 ^ 32
    → (more : Checked) → more ≡ with_checked checked meta → Taking old new more
Taking-more old mid shown new checked meta i asked shows passes passed short more is =
    let rest : IsTrue old.told → new.items ≡ drop 1 mid.items =
    λ t. passes.items (asked.told (i.keeps.told t)) ∙ ap (drop 1) (shows (i.keeps.told t)).0.items in
    let next = packet meta shown.frame ∷ [] in
    record {
      few = rw is (omega (arith, i.few, asked.left, passes.left));
      bytes = rw is (omega (arith, i.bytes, short));
      order = rw is (least-first-more (meta_time meta) checked.first checked.last i.order);
      backward = rw is (grind (arith, i.backward));
      untimed = rw is (grind (arith, i.untimed));
      truncated = rw is (grind (arith, i.truncated));
      keeps = Keeps-trans old mid new i.keeps (Keeps-trans mid shown new asked passed);
      taken = i.taken ++ next;
      items = λ t.
          i.items t ∙ (ap (λ l. i.taken ++ l) ((shows (i.keeps.told t)).1
          ∙ ap (λ l. packet meta shown.frame ∷ l) (sym (rest t)))
          ∙ sym (append_assoc i.taken next new.items));
      refusal = λ t.
          ap refusal_of (rest t)
          ∙ (sym (refusal-next meta shown.frame mid.items (drop 1 mid.items) (shows (i.keeps.told t)).1)
          ∙ i.refusal t);
      endings = λ t file.
          passes.endings (asked.told (i.keeps.told t)) file
          ∙ ((shows (i.keeps.told t)).0.endings file ∙ i.endings t file);
      after = λ items.
          ap (checked_after nothing_checked) (append_assoc i.taken next items)
          ∙ (i.after (packet meta shown.frame ∷ items) ∙ (after-packet checked meta shown.frame items
          ∙ ap (λ c. checked_after c items) (sym is)));
    }

-- what was taken of the items
all-taken : (old mid : Feed) (checked : Checked) (i : Taking old mid checked) → IsTrue old.told
    → checked_after nothing_checked old.items ≡ checked_after checked mid.items
all-taken old mid checked i t = ap (checked_after nothing_checked) (i.items t) ∙ i.after mid.items

-- the feed ends
pub Taking-end : (old mid shown : Feed) (checked : Checked) → Taking old mid checked
    → (IsTrue mid.told → ShowsItem mid (Ok None) shown) → IsTrue old.told
    → TakesPackets {A = Unit {0}} old (Ok tt) shown checked
unfolding refusal_of
Taking-end old mid shown checked i shows t =
    let s = shows (i.keeps.told t) in (
      sym (i.refusal t) ∙ ap refusal_of s.1,
      sym (all-taken old mid checked i t ∙ (ap (checked_after checked) s.1 ∙ after-none checked)),
      λ file. s.0.endings file ∙ i.endings t file,
    )

-- it faults
pub Taking-fault : (old mid shown : Feed) (checked : Checked) (fault : Fault) → Taking old mid checked
    → (IsTrue mid.told → ShowsItem mid (Err fault) shown) → IsTrue old.told
    → TakesPackets {A = Unit {0}} old (Err fault) shown checked
unfolding refusal_of
Taking-fault old mid shown checked (Refused r) i shows t =
    let s = shows (i.keeps.told t) in (
      sym (i.refusal t) ∙ ap refusal_of s.1,
      sym (all-taken old mid checked i t ∙ after-refused checked mid.items r s.1),
      λ file. s.0.endings file ∙ i.endings t file,
    )
Taking-fault old mid shown checked (Read file offset) i shows t = tt
Taking-fault old mid shown checked Write i shows t = shows (i.keeps.told t)
Taking-fault old mid shown checked Memory i shows t = tt

-- a failed read
pub Fails-taking : (old mid shown : Feed) (checked : Checked) (fault : Fault) → Taking old mid checked
    → GivesPacket mid (Err fault) shown → FailsHere {A = Unit {0}} old (Err fault)
Fails-taking old mid shown checked fault i gives = grind arith
