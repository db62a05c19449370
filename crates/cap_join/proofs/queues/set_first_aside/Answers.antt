use Rattle.std.proofs.Common.{◌≡◌, ◌++◌, ◌∷◌, [], List, length, sym, ◌∙◌, ap, subst, arith}
use Rattle.std.specs.Prelude.{IsSome}
use Rattle.std.specs.Map.{remove_entry}
use Rattle.lru.specs.LruCache.{LruCache}
use Rattle.cap_ip.specs.declared.headers.Key.{Key}
use Rattle.cap_join.specs.inner.Groups.{GroupState}
use Rattle.cap_join.specs.History.{same_key}
use Rattle.cap_join.specs.Joiners.{Entry}
use Rattle.cap_join.specs.inner.Tables.{entry_at}
use Rattle.cap_join.specs.inner.Ages.{AreTimeless}
use Rattle.cap_join.proofs.Queueing.{appended-few, found_last, set_last, timeless-push, ok_now, first_pair, first_left}
use Rattle.cap_join.proofs.Queueing.{moved_whole}
use Rattle.cap_join.proofs.queues.set_first_aside.Goals as goal

pub replace-requires-clause-few : goal.replace-requires-clause-few
replace-requires-clause-few c =
    let mid : c.append.new.groups.entries ≡ remove_entry (same_key c.args.key.now) c.args.timeless.now.entries
    ++ (c.args.key.now, c.blank-blank.result) ∷ [] =
    ok_now c.append.result _ (sym c.is_err.ensures.value ∙ c.if-is_err.false) c.append.ensures.ok in
    omega (
      arith,
      ap (λ (l : List Entry). length l) mid,
      appended-few c.args.key.now c.blank-blank.result c.args.timeless.now.entries,
      c.append.ensures.cap,
      c.requires.room,
    )

pub replace-requires-clause-there : goal.replace-requires-clause-there
replace-requires-clause-there c =
    let mid : c.append.new.groups.entries ≡ remove_entry (same_key c.args.key.now) c.args.timeless.now.entries
    ++ (c.args.key.now, c.blank-blank.result) ∷ [] =
    ok_now c.append.result _ (sym c.is_err.ensures.value ∙ c.if-is_err.false) c.append.ensures.ok in
    subst (λ (l : List Entry). IsSome (entry_at c.args.key.now l)) (sym mid)
    (found_last c.args.key.now c.blank-blank.result
    (remove_entry (same_key c.args.key.now) c.args.timeless.now.entries))

pub returns-clause-whole : goal.returns-clause-whole
returns-clause-whole c =
    let f = c.requires.first in
    let key = c.args.key.now in
    let xs = c.args.timeless.now.entries in
    let rest = c.args.rest.now.entries in
    let mid : c.append.new.groups.entries ≡ remove_entry (same_key key) xs ++ (key, c.blank-blank.result) ∷ [] =
    ok_now c.append.result _ (sym c.is_err.ensures.value ∙ c.if-is_err.false) c.append.ensures.ok in
    let pair : (c.in-Some-pop_mru._key, c.in-Some-pop_mru.group) ≡ (key, f.group) =
    first_pair rest f.others (c.in-Some-pop_mru._key, c.in-Some-pop_mru.group)
    (key, f.group) c.pop_mru.result f.first c.pop_mru.ensures.value c.in-Some-pop_mru.is in
    let new : c.replace.new.groups.entries ≡ xs ++ (key, f.group) ∷ [] =
    set_last key f.group c.blank-blank.result xs rest f.others c.append.new.groups.entries c.replace.new.groups.entries
    c.requires.unique f.first mid
    (c.replace.ensures.entries
    ∙ ap (λ (e : Entry). remove_entry (same_key key) c.append.new.groups.entries ++ (key, e.1) ∷ []) pair) in
    moved_whole xs rest f.others c.replace.new.groups.entries c.pop_mru.new.self.entries (key, f.group) f.first new
    (ap (λ (x : LruCache Key GroupState). x.entries) c.pop_mru.ensures.entries
    ∙ first_left rest f.others (key, f.group) f.first)

pub returns-clause-timeless : goal.returns-clause-timeless
returns-clause-timeless c = λ h.
    let f = c.requires.first in
    let key = c.args.key.now in
    let xs = c.args.timeless.now.entries in
    let rest = c.args.rest.now.entries in
    let mid : c.append.new.groups.entries ≡ remove_entry (same_key key) xs ++ (key, c.blank-blank.result) ∷ [] =
    ok_now c.append.result _ (sym c.is_err.ensures.value ∙ c.if-is_err.false) c.append.ensures.ok in
    let pair : (c.in-Some-pop_mru._key, c.in-Some-pop_mru.group) ≡ (key, f.group) =
    first_pair rest f.others (c.in-Some-pop_mru._key, c.in-Some-pop_mru.group)
    (key, f.group) c.pop_mru.result f.first c.pop_mru.ensures.value c.in-Some-pop_mru.is in
    let new : c.replace.new.groups.entries ≡ xs ++ (key, f.group) ∷ [] =
    set_last key f.group c.blank-blank.result xs rest f.others c.append.new.groups.entries c.replace.new.groups.entries
    c.requires.unique f.first mid
    (c.replace.ensures.entries
    ∙ ap (λ (e : Entry). remove_entry (same_key key) c.append.new.groups.entries ++ (key, e.1) ∷ []) pair) in
    subst AreTimeless (sym new) (timeless-push xs (key, f.group) h f.timeless)
