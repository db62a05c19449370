-- What `diff` says of two lists of packets if something is ignored.
use Rattle.std.proofs.Common.{◌≡◌, ℕ, ◌+◌, Bool, true, false, not, List, [], ◌∷◌, Some, refl, sym, ap, ◌∙◌, arith}
use Rattle.std.proofs.lemmas.Bool.{false≢true}
use Rattle.std.proofs.lemmas.Bool.Decides.{Decides-eqb}
use Rattle.std.proofs.lemmas.Slice.Eq.{bytes_eq-Decides}
use Rattle.std.specs.List.{AllZip}
use Rattle.std.specs.Prelude.{◌==◌, ◌&&◌, ◌||◌}
use Rattle.std.specs.Str.{bytes_eq}
use Rattle.cap_line.specs.declared.jobs.Ignored.{Ignored}
use Rattle.cap_source.specs.Feed.{Item, packet}
use Rattle.cap_source.specs.Items.{file_items}
use Rattle.cap_source.specs.Times.{meta_time}
use Rattle.cap_source.specs.declared.packets.Meta.{Meta}
use Rattle.cap_commands.specs.DiffText.{compared, counted_differences, differences_of, do_differ, is_same}
use Rattle.cap_commands.specs.DiffText.{is_same_time, other_packet}
use Rattle.cap_laws.proofs.Diffs.{chosen_by, same_by, time-law}
use Rattle.cap_laws.specs.Diffs.{IsSameBut, SameBut, SameButIgnored}

-- none of five is so
record NoneSo (a b c d e : Bool) : Type 0 where
  pub first : a ≡ false
  pub second : b ≡ false
  pub third : c ≡ false
  pub fourth : d ≡ false
  pub fifth : e ≡ false

none-so : (a b c d e : Bool) → (a || b || c || d || e) ≡ false → NoneSo a b c d e
none-so false false false false false h =
    record { first = refl; second = refl; third = refl; fourth = refl; fifth = refl }
none-so a b c d e h = grind arith

-- what isn't ignored and doesn't count as a difference is the same
same-where : (ignored same : Bool) → (not ignored && not same) ≡ false → ignored ≡ false → same ≡ true
same-where false true h is = refl
same-where false false h is = absurd (false≢true (sym h))
same-where true same h is = absurd (false≢true (sym is))

-- what is the same, unless it is ignored, doesn't count as a difference
no-difference : (ignored same : Bool) → (ignored ≡ false → same ≡ true) → (not ignored && not same) ≡ false
no-difference true same h = refl
no-difference false same h = rw (h refl) refl

is-so : (b : Bool) → not b ≡ false → b ≡ true
is-so true h = refl
is-so false h = absurd (false≢true (sym h))

-- two packets do not differ if they are the same apart from what is ignored
unlike-but : (ignored : Ignored) (m o : Meta) (f g : List ℕ) → IsSameBut ignored m o f g
    → do_differ (counted_differences ignored
    (differences_of (record { meta = m; frame = f }) (record { meta = o; frame = g }))) ≡ false
unlike-but ignored m o f g same =
    let link = no-difference ignored.link (m.interface.link == o.interface.link)
    (λ is. (Decides-eqb m.interface.link o.interface.link).1 (same.link is)) in
    let time = no-difference ignored.time (is_same_time (meta_time m) (meta_time o))
    (λ is. (time-law (meta_time m) (meta_time o)).1 (same.time is)) in
    let captured = (Decides-eqb m.captured o.captured).1 same.captured in
    let original = no-difference ignored.original (m.original == o.original)
    (λ is. (Decides-eqb m.original o.original).1 (same.original is)) in
    let bytes = (bytes_eq-Decides f g).1 same.frame in
    rw (link, time, captured, original, bytes) refl

-- and are the same apart from that if they do not differ
like-but : (ignored : Ignored) (m o : Meta) (f g : List ℕ)
    → do_differ (counted_differences ignored
    (differences_of (record { meta = m; frame = f }) (record { meta = o; frame = g }))) ≡ false
    → IsSameBut ignored m o f g
like-but ignored m o f g h =
    let link = m.interface.link == o.interface.link in
    let time = is_same_time (meta_time m) (meta_time o) in
    let original = m.original == o.original in
    let p = none-so (not ignored.link && not link) (not ignored.time && not time) (not (m.captured == o.captured))
    (not ignored.original && not original) (not (bytes_eq f g)) h in
    record {
      link = λ is. (Decides-eqb m.interface.link o.interface.link).0 (same-where ignored.link link p.first is);
      time = λ is. (time-law (meta_time m) (meta_time o)).0 (same-where ignored.time time p.second is);
      captured = (Decides-eqb m.captured o.captured).0 (is-so (m.captured == o.captured) p.third);
      original = λ is. (Decides-eqb m.original o.original).0 (same-where ignored.original original p.fourth is);
      frame = (bytes_eq-Decides f g).0 (is-so (bytes_eq f g) p.fifth);
    }

-- lists of packets that are the same apart from that, one by one, are the same
compared-but : (ignored : Ignored) (n : ℕ) (xs ys : List Item) → AllZip (SameBut ignored) xs ys
    → is_same (compared ignored n xs ys) ≡ true
unfolding compared
compared-but ignored n [] [] all = refl
compared-but ignored n (packet m f ∷ xs) (packet o g ∷ ys) all =
    let differ = other_packet (n + 1) (Some (record { meta = m; frame = f })) (Some (record { meta = o; frame = g })) in
    ap is_same
    (chosen_by
    (do_differ (counted_differences ignored
    (differences_of (record { meta = m; frame = f }) (record { meta = o; frame = g })))) differ
    (compared ignored (n + 1) xs ys) (unlike-but ignored m o f g all.0))
    ∙ compared-but ignored (n + 1) xs ys all.1
compared-but ignored n xs ys all = grind arith

-- lists that are the same are of packets that are the same apart from that, one by one
but-compared : (ignored : Ignored) (n : ℕ) (xs ys : List Item) → is_same (compared ignored n xs ys) ≡ true
    → AllZip (SameBut ignored) xs ys
unfolding compared
but-compared ignored n [] [] is = tt
but-compared ignored n (packet m f ∷ xs) (packet o g ∷ ys) is =
    let split = same_by
    (do_differ (counted_differences ignored
    (differences_of (record { meta = m; frame = f }) (record { meta = o; frame = g }))))
    (other_packet (n + 1) (Some (record { meta = m; frame = f })) (Some (record { meta = o; frame = g })))
    (compared ignored (n + 1) xs ys) refl is in
    (like-but ignored m o f g split.0, but-compared ignored (n + 1) xs ys split.1)
but-compared ignored n xs ys is = grind arith

pub same-but-ignored : SameButIgnored
same-but-ignored ignored tail first second = (
  but-compared ignored 0 (file_items tail 1 first) (file_items tail 2 second),
  compared-but ignored 0 (file_items tail 1 first) (file_items tail 2 second),
)
