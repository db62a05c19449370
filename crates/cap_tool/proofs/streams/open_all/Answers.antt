use Rattle.std.proofs.Common.{◌≡◌, ◌∙◌, false, Result, Ok, Err, IfOk, is_err, sym, ap, arith}
use Rattle.cap_tool.proofs.CheckedFiles.{next-given}
use Rattle.cap_tool.specs.Openers.{reader_of}
use Rattle.cap_tool.proofs.streams.open_all.Goals as goal

-- what was done is what an answer that is no error says
done : {A E : Type 0} (r : Result A E) (P : Type 0) → is_err r ≡ false → IfOk r (λ _. P) → P
done (Ok a) P is said = said
done (Err e) P is said = absurd (cc)

pub loop-place-preserved : goal.loop-place-preserved
loop-place-preserved g c =
    let added = sym c.is_err.ensures.value ∙ c.if-is_err.false in
    let all = done c.add.result _ added c.add.ensures.all in
    let len = done c.add.result _ added c.add.ensures.len in (
      next-given (g.O.Opener.gives c.args.opener.now) c.args.names.now c.loop-place.inputs.sources.items _
          c.loop-place.place _ c.in-Ok.opened.0 _ c.loop-place-test.true c.loop-place.invariant.0
          (omega (arith, c.loop-place.invariant.1, c.loop-place.inputs.sources.ok.0)) c.open.ensures
          (ap reader_of c.in-Ok.is) all,
      omega (arith, len),
      omega arith,
    )
