use Rattle.std.proofs.Common.{arith, ◌∙◌}
use Rattle.std.proofs.lemmas.List.{length-map}
use Rattle.cap_merge.specs.inner.First.{lane_turn, lane_turns}
use Rattle.cap_merge.proofs.Rounding.{kept-within, halves-first}
use Rattle.cap_merge.proofs.tournament.Tournament.play.Goals as goal

pub meet-requires-clause-firsts : goal.meet-requires-clause-firsts
meet-requires-clause-firsts c = (1, c.enter.ensures.firsts c.requires.others.ones)

pub meet-requires-2-clause-firsts : goal.meet-requires-2-clause-firsts
meet-requires-2-clause-firsts c =
    let ones = c.enter.ensures.firsts c.requires.others.ones in
    (2, c.meet.ensures.firsts 1 ones c.requires.others.twos)

pub meet-requires-3-clause-firsts : goal.meet-requires-3-clause-firsts
meet-requires-3-clause-firsts c =
    let ones = c.enter.ensures.firsts c.requires.others.ones in
    let twos = c.meet.ensures.firsts 1 ones c.requires.others.twos in
    (4, c.meet-2.ensures.firsts 2 twos c.requires.others.fours)

pub meet-requires-4-clause-firsts : goal.meet-requires-4-clause-firsts
meet-requires-4-clause-firsts c =
    let ones = c.enter.ensures.firsts c.requires.others.ones in
    let twos = c.meet.ensures.firsts 1 ones c.requires.others.twos in
    let fours = c.meet-2.ensures.firsts 2 twos c.requires.others.fours in
    (8, c.meet-3.ensures.firsts 4 fours c.requires.others.eights)

pub first_of_two-requires-clause-first : goal.first_of_two-requires-clause-first
first_of_two-requires-clause-first c =
    let ones = c.enter.ensures.firsts c.requires.others.ones in
    let twos = c.meet.ensures.firsts 1 ones c.requires.others.twos in
    let fours = c.meet-2.ensures.firsts 2 twos c.requires.others.fours in
    let eights = c.meet-3.ensures.firsts 4 fours c.requires.others.eights in
    let sixteens = c.meet-4.ensures.firsts 8 eights c.requires.others.sixteens in
    kept-within c.args.lanes.now 16 c.meet-4.new.groups 0 sixteens (omega (arith, c.meet-4.ensures.length))

pub first_of_two-requires-clause-second : goal.first_of_two-requires-clause-second
first_of_two-requires-clause-second c =
    let ones = c.enter.ensures.firsts c.requires.others.ones in
    let twos = c.meet.ensures.firsts 1 ones c.requires.others.twos in
    let fours = c.meet-2.ensures.firsts 2 twos c.requires.others.fours in
    let eights = c.meet-3.ensures.firsts 4 fours c.requires.others.eights in
    let sixteens = c.meet-4.ensures.firsts 8 eights c.requires.others.sixteens in
    kept-within c.args.lanes.now 16 c.meet-4.new.groups 1 sixteens (omega (arith, c.meet-4.ensures.length))

pub returns : goal.returns
returns c =
    let ts = lane_turns c.args.lanes.now in
    let ones = c.enter.ensures.firsts c.requires.others.ones in
    let twos = c.meet.ensures.firsts 1 ones c.requires.others.twos in
    let fours = c.meet-2.ensures.firsts 2 twos c.requires.others.fours in
    let eights = c.meet-3.ensures.firsts 4 fours c.requires.others.eights in
    let sixteens = c.meet-4.ensures.firsts 8 eights c.requires.others.sixteens in
    record {
      place = c.first_of_two.ensures ∙ halves-first ts c.meet-4.new.groups
          (omega (arith, length-map c.args.lanes.now lane_turn, c.requires.most))
          (omega (arith, c.meet-4.ensures.length)) sixteens;
      all = record { ones = ones; twos = twos; fours = fours; eights = eights; sixteens = sixteens };
    }
