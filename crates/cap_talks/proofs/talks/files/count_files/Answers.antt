use Rattle.std.proofs.Common.{◌≡◌, ◌+◌, ◌<◌, ◌≤◌, ◌^◌, ◌++◌, [], ◌∷◌, length, Ok, Err, ap, ◌∙◌, arith, rules}
use Rattle.std.proofs.Common.{length-append, subst, ℕ}
use Rattle.std.proofs.lemmas.Iterator.Adapters.{YieldsList-from_vec}
use Rattle.std.proofs.lemmas.Iterator.Consumers.{YieldsList-turn}
use Rattle.std.proofs.lemmas.Result.{err_from_is_err_and}
use Rattle.std.specs.Prelude.{Vec}
use Rattle.std.specs.declared.alloc.Global.{Global}
use Rattle.cap_source.specs.ReadFaults.{FailsAs}
use Rattle.cap_talks.specs.talks.Reading.{CountsFile}
use Rattle.cap_talks.specs.declared.counts.files.Counted.{Counted}
use Rattle.cap_talks.proofs.FileByFile.{all-at, read-more, read-fault, fails}
use Rattle.cap_talks.proofs.talks.files.count_files.Goals as goal

in_range : (file n m l : ℕ) → file ≡ 1 + n → n < m → l ≡ m → l ≤ 32 → file + 1 < 2 ^ 32
in_range file n m l a b d e = omega arith

pub overflow_add-file : goal.overflow_add-file
overflow_add-file g c =
    let it = c.into_iter-source-iterator in
    let given = it.ensures.into_iter_gives in
    let turn = YieldsList-turn (YieldsList-from_vec {s = it.result} c.args.sources.items given.0 (given.1
    ∙ c.args.sources.ok.0))
    c.loop-source.yielded c.loop-source.source-iterator c.loop-source.yielded_by c.next.result c.next.new.self
    c.in-Some.source c.in-Some.is c.next.ensures.steps in
    record {
      fits = in_range c.loop-source.file _ _ _ c.loop-source.invariant.number turn.0 c.args.sources.ok.0
          c.requires.most;
    }

pub loop-source-init : goal.loop-source-init
loop-source-init g c = grind arith

pub returns-in_err-each-clause-counts : goal.returns-in_err-each-clause-counts
returns-in_err-each-clause-counts g c = λ t.
    let p = err_from_is_err_and c.from_residual.result c.from_residual.ensures.1 in
    let i = c.loop-source.invariant in
    let it = c.into_iter-source-iterator in
    let given = it.ensures.into_iter_gives in
    let x = c.in-Some.source in
    let turn = YieldsList-turn (YieldsList-from_vec {s = it.result} c.args.sources.items given.0 (given.1
    ∙ c.args.sources.ok.0))
    c.loop-source.yielded c.loop-source.source-iterator c.loop-source.yielded_by c.next.result c.next.new.self x
    c.in-Some.is c.next.ensures.steps in
    let told = all-at g.R.Source.tells_coming c.args.sources.items (length c.loop-source.yielded) x turn.1 turn.0 t in
    rw (p.1, p.2)
    (read-fault g.R.Source.coming c.args.tail c.args.sources.items
    (length c.loop-source.yielded) x c.loop-source.counted.items c.in_err-each.field-0.0
    turn.1 turn.0 (i.read t)
    (subst (λ (n : ℕ). CountsFile c.args.tail n (g.R.Source.coming x) (Err c.in_err-each.field-0.0)) i.number
    (c.in_err-each.ensures.counts told)))

pub returns-in_err-each-clause-read : goal.returns-in_err-each-clause-read
returns-in_err-each-clause-read g c =
    let p = err_from_is_err_and c.from_residual.result c.from_residual.ensures.1 in
    let it = c.into_iter-source-iterator in
    let given = it.ensures.into_iter_gives in
    let x = c.in-Some.source in
    let turn = YieldsList-turn (YieldsList-from_vec {s = it.result} c.args.sources.items given.0 (given.1
    ∙ c.args.sources.ok.0))
    c.loop-source.yielded c.loop-source.source-iterator c.loop-source.yielded_by c.next.result c.next.new.self x
    c.in-Some.is c.next.ensures.steps in
    rw (p.1, p.2)
    (fails Counted (Vec Counted Global) g.R.Device.can_fail c.args.sources.items
    (length c.loop-source.yielded) x c.in_err-each.field-0.0 turn.1 turn.0
    (subst (λ (n : ℕ). FailsAs {A = Counted} n (g.R.Device.can_fail x) (Err c.in_err-each.field-0.0))
    c.loop-source.invariant.number c.in_err-each.ensures.read))

pub loop-source-preserved : goal.loop-source-preserved
loop-source-preserved g c =
    let i = c.loop-source.invariant in
    let it = c.into_iter-source-iterator in
    let given = it.ensures.into_iter_gives in
    let x = c.in-Some.source in
    let seen = c.loop-source.yielded in
    let turn = YieldsList-turn (YieldsList-from_vec {s = it.result} c.args.sources.items given.0 (given.1
    ∙ c.args.sources.ok.0))
    seen c.loop-source.source-iterator c.loop-source.yielded_by c.next.result c.next.new.self x c.in-Some.is
    c.next.ensures.steps in
    let pushed : c.push.new.self.items ≡ c.loop-source.counted.items ++ c.in_ok-each.each ∷ [] = search rules in
    let longer = length-append seen (x ∷ []) in
    record {
      number = omega (arith, i.number, longer);
      few = omega (
        arith,
        i.few,
        longer,
        ap length pushed,
        length-append c.loop-source.counted.items (c.in_ok-each.each ∷ []),
      );
      read = λ t.
          let told = all-at g.R.Source.tells_coming c.args.sources.items (length seen) x turn.1 turn.0 t in
          rw (longer, pushed)
          (read-more g.R.Source.coming c.args.tail c.args.sources.items
          (length seen) x c.loop-source.counted.items c.in_ok-each.each
          turn.1 turn.0 (i.read t)
          (subst (λ (n : ℕ). CountsFile c.args.tail n (g.R.Source.coming x) (Ok c.in_ok-each.each)) i.number
          (c.in_ok-each.ensures.counts told)));
    }
