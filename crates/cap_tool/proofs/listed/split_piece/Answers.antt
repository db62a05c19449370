use Rattle.std.proofs.Common.{◌≡◌, ◌∙◌, ◌+◌, suc, drop, sym, ap, arith}
use Rattle.std.proofs.lemmas.List.{drop-drop}
use Rattle.cap_tool.specs.ListedNames.{pieces}
use Rattle.cap_tool.proofs.ListedNames.{false-if, pieces-all, pieces-at}
use Rattle.cap_tool.proofs.listed.split_piece.Goals as goal

pub returns-in-Some-clause-pieces : goal.returns-in-Some-clause-pieces
returns-in-Some-clause-pieces c =
    let list = c.args.list.now in
    let place = c.in-Some.place in
    let first = c.in-Some.ensures in
    let split = pieces-at c.args.end list place first.0.high
    (λ i below. false-if _ (first.0.before i (omega arith) below)) first.1 in
    let next : place + 1 ≡ suc place = omega arith in
    let behind : drop 1 (drop place list) ≡ drop (suc place) list =
    drop-drop 1 place list ∙ ap (λ n. drop n list) next in
    let front = c.split_at.ensures.front in
    let rest = c.split_at.ensures.back in
    let back = c.split_at-in-Some.ensures.back in
    cc

pub returns-in-None-clause-pieces : goal.returns-in-None-clause-pieces
unfolding pieces
returns-in-None-clause-pieces c =
    pieces-all c.args.end c.args.list.now c.requires (λ i below. false-if _ (c.in-None.ensures i (omega arith) below))
