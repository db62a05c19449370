use Rattle.std.proofs.Common.{◌≡◌, ◌∙◌, false, sym}
use Rattle.std.proofs.lemmas.Result.{err_from_is_err_and}
use Rattle.cap_commands.proofs.Divergence.{Matched-next, Parts-first, Parts-parted, Parts-second}
use Rattle.cap_commands.specs.inner.DiffWalk.{are_alike, compared_of, known_packet}
use Rattle.cap_commands.proofs.diff.part.Goals as goal

pub returns-in_err-one-clause-parts : goal.returns-in_err-one-clause-parts
returns-in_err-one-clause-parts g c = λ t u.
    let p = err_from_is_err_and c.from_residual.result c.from_residual.ensures.1 in
    rw (p.1, p.2) (Parts-first _ _ _ _ _ _ c.loop-one.passed c.in_err-one.field-0.0 _ _ c.loop-one.invariant
    c.in_err-one.ensures.items t u)

pub returns-in_err-other-clause-parts : goal.returns-in_err-other-clause-parts
returns-in_err-other-clause-parts g c = λ t u.
    let p = err_from_is_err_and c.from_residual-in_err-other.result c.from_residual-in_err-other.ensures.1 in
    let one = known_packet (g.F.PacketFeed.feed c.look.new.feed).known in
    rw (p.1, p.2) (Parts-second _ _ _ _ _ _ _ c.loop-one.passed one c.in_err-other.field-0.0 _ _
    c.loop-one.invariant c.in_ok-one.ensures.items c.in_err-other.ensures.items t u)

pub returns-then-not-is_alike-clause-parts : goal.returns-then-not-is_alike-clause-parts
returns-then-not-is_alike-clause-parts g c = λ t u.
    let shown = g.F.PacketFeed.feed c.look.new.feed in
    let seen = g.F.PacketFeed.feed c.look-in-loop-one.new.feed in
    let one = known_packet shown.known in
    let other = known_packet seen.known in
    let unlike : are_alike c.args.ignored (compared_of one shown.frame) (compared_of other seen.frame) ≡ false =
    sym c.is_alike.ensures ∙ c.if-not-is_alike.true in
    rw (c.packet_of.ensures, c.packet_of-then-not-is_alike.ensures)
    (Parts-parted _ _ _ _ _ shown seen c.loop-one.passed one other c.loop-one.invariant c.in_ok-one.ensures.items
    c.in_ok-other.ensures.items unlike t u)

pub loop-one-preserved : goal.loop-one-preserved
loop-one-preserved g c =
    let shown = g.F.PacketFeed.feed c.look.new.feed in
    let seen = g.F.PacketFeed.feed c.look-in-loop-one.new.feed in
    Matched-next _ _ _ _ _ shown seen _ _ c.loop-one.passed (known_packet shown.known) (known_packet seen.known)
    c.loop-one.invariant c.in_ok-one.ensures.keeps c.in_ok-one.ensures.items c.in_ok-other.ensures.keeps
    c.in_ok-other.ensures.items (sym c.is_alike.ensures ∙ c.if-not-is_alike.false) c.pass.ensures.passes
    c.pass.ensures.keeps c.pass-in-loop-one.ensures.passes c.pass-in-loop-one.ensures.keeps
