use Rattle.std.proofs.Common.{◌<◌, add-one, arith, length, subst}
use Rattle.cap_commands.proofs.FirstDifference.{alike_at, below_both, ended_at, unlike_at}
use Rattle.cap_commands.proofs.diff.first_difference.Goals as goal

pub returns-then-first-place : goal.returns-then-first-place
returns-then-first-place c =
    let xs = c.args.first.now in
    let ys = c.args.second.now in
    let place = c.loop-place.place in
    let both = below_both (length xs) (length ys) place
    (subst (λ n. place < n) c.min-shorter.ensures c.loop-place-test.true) in
    omega (arith, c.loop-place.invariant, unlike_at xs ys place both.0 both.1 c.if-first-place.true)

pub loop-place-preserved : goal.loop-place-preserved
loop-place-preserved c =
    let xs = c.args.first.now in
    let ys = c.args.second.now in
    let place = c.loop-place.place in
    let both = below_both (length xs) (length ys) place
    (subst (λ n. place < n) c.min-shorter.ensures c.loop-place-test.true) in
    rw add-one
    (omega (arith, c.loop-place.invariant, alike_at xs ys place both.0 both.1 c.if-first-place.false))

pub returns : goal.returns
returns c =
    let xs = c.args.first.now in
    let ys = c.args.second.now in
    let place = c.loop-place.place in
    let end = c.loop-place-test.false in
    let shorter = c.min-shorter.ensures in
    omega (arith, c.loop-place.invariant, c.loop-place.auto.place-end, ended_at xs ys place (omega arith))
