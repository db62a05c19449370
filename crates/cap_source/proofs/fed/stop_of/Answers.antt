use Rattle.std.proofs.Common.{Some, false, length, refl, arith, ◌≡◌, ◌==◌, ◌&&◌, sym, ap, ◌∙◌}
use Rattle.std.proofs.lemmas.Bool.Decides.{nat_tests}
use Rattle.cap_bytes.proofs.Items.{stop_where-fault}
use Rattle.cap_source.proofs.FedStops.{stop-none}
use Rattle.cap_source.proofs.fed.stop_of.Goals as goal
use Rattle.cap_source.proofs.fed.stop_of.Goals.{else-inside-via-then-inside+else-is_empty, else-inside-via-else-inside}

pub returns-then-is_empty : goal.returns-then-is_empty
returns-then-is_empty c =
    stop-none c.args.inside c.args.state.now.tail c.args.state.now.file c.args.state.now.offset c.args.bytes.now
    (Some c.args.rule) (grind (arith, nat_tests, c.if-inside.true, c.is_empty.ensures, c.if-is_empty.true))

pub returns : goal.returns
returns c =
    stop_where-fault c.args.inside c.args.state.now.tail c.args.state.now.file c.args.state.now.offset
    c.args.bytes.now (Some c.args.rule) c.args.rule some refl ∙ ap Some (sym c.by.ensures)
  where
    some : (c.args.inside && (length c.args.bytes.now == 0)) ≡ false
    some = elim c.else-inside.branch [
      | else-inside-via-then-inside+else-is_empty w ↦ grind (arith, nat_tests)
      | else-inside-via-else-inside w ↦ grind (arith, nat_tests)
    ]
