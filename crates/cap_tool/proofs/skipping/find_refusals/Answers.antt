use Rattle.std.proofs.Common.{◌≡◌, Bool, true, false, if◌then◌else◌, map, arith}
use Rattle.std.proofs.lemmas.List.{length-map}
use Rattle.std.proofs.lemmas.Result.{err_from_is_err_and}
use Rattle.cap_tool.proofs.FoundRefusals.{found-all, found-more, found-none}
use Rattle.cap_tool.proofs.skipping.find_refusals.Goals as goal

-- what is chosen is the first
chosen : {A : Type 0} (b : Bool) (xs ys zs : A) → zs ≡ (if b then xs else ys) → b ≡ true → zs ≡ xs
chosen true xs ys zs is so = is
chosen false xs ys zs is so = absurd (cc)

pub loop-place-init : goal.loop-place-init
loop-place-init g c = record {
  within = omega arith;
  found = rw c.new-found.ensures.items (found-none _ _ _ _);
}

pub returns-in_err-refusal-clause-stops : goal.returns-in_err-refusal-clause-stops
returns-in_err-refusal-clause-stops g c =
    let p = err_from_is_err_and c.from_residual.result c.from_residual.ensures.1 in
    rw (p.1, p.2) c.in_err-refusal.ensures.finds

pub loop-place-preserved : goal.loop-place-preserved
loop-place-preserved g c =
    let i = c.loop-place.invariant in
    let same = length-map c.args.names.now (λ n. n.now) in
    record {
      within = omega (arith, c.loop-place-test.true);
      found = found-more _ _ _ (map (λ n. n.now) c.args.names.now) c.loop-place.place c.loop-place.found.items
          c.push.new.self.items c.in_ok-refusal.refusal (omega (arith, c.loop-place-test.true, same)) i.found
          c.in_ok-refusal.ensures.finds
          (chosen _ _ _ _ c.push.ensures.items c.if-is_err.ensures.negation);
    }

pub returns-clause-found : goal.returns-clause-found
returns-clause-found g c =
    let i = c.loop-place.invariant in
    let same = length-map c.args.names.now (λ n. n.now) in
    found-all _ _ _ (map (λ n. n.now) c.args.names.now) c.loop-place.place _
    (omega (arith, i.within, c.loop-place-test.false, same)) i.found
