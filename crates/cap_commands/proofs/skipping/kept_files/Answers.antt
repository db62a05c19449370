use Rattle.std.proofs.Common.{◌∙◌, ap, arith}
use Rattle.cap_commands.proofs.RefusedFiles.{kept-passed, kept-pushed}
use Rattle.cap_commands.proofs.skipping.kept_files.Goals as goal
use Rattle.cap_commands.proofs.skipping.kept_files.Goals.{then-is_none+in_ok-push, else-is_none}

pub loop-place-preserved : goal.loop-place-preserved
loop-place-preserved c =
    let i = c.loop-place.invariant in
    let refusals = c.args.refusals.now in
    let names = c.args.names.now in
    let kept = c.loop-place.kept.items in
    let within = c.loop-place-test.true in
    elim c.if-is_none.branch [
      | then-is_none+in_ok-push w ↦ (
        kept-pushed refusals names kept c.loop-place.place _ within c.requires i.0 _ c.if-is_none.kept.items
            w.if-is_none.ensures (ap (λ v. v.items) w.kept-is ∙ w.in_ok-push.ensures.items),
        omega (arith, within),
      )
      | else-is_none w ↦ (
        rw (ap (λ v. v.items) w.kept-is)
            (kept-passed refusals names kept c.loop-place.place _ within c.requires i.0 w.if-is_none.ensures),
        omega (arith, within),
      )
    ]
