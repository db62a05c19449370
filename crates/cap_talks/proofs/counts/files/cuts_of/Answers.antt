use Rattle.std.proofs.Common.{◌∙◌, arith}
use Rattle.std.proofs.lemmas.List.{length-set}
use Rattle.cap_talks.proofs.CutRests.{Placed-all, Placed-more}
use Rattle.cap_talks.proofs.counts.files.cuts_of.Goals as goal

pub loop-place-preserved : goal.loop-place-preserved
loop-place-preserved c =
    let i = c.loop-place.invariant in
    Placed-more c.args.counted.now c.loop-place.place c.loop-place.cuts c.index-counted-place.result c.cut_of.result
    c.index-counted-place.is c.loop-place-test.true c.requires.most c.cut_of.ensures
    (length-set c.loop-place.cuts c.loop-place.place c.cut_of.result ∙ i.long) i

pub returns : goal.returns
returns c =
    Placed-all c.args.counted.now c.loop-place.place c.loop-place.cuts (omega arith) c.loop-place.invariant
