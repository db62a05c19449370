use Rattle.std.proofs.Common.{[], ◌∷◌, length, map, Option, Some, Ok, Err, subst, ◌∙◌, ℕ}
use Rattle.std.proofs.Common.{arith, rules, length-append, take, drop, suc}
use Rattle.std.proofs.lemmas.Iterator.Adapters.{YieldsList-from_vec}
use Rattle.std.proofs.lemmas.Iterator.Consumers.{YieldsList-turn, YieldsList-end}
use Rattle.std.proofs.lemmas.List.{length-map, take_all}
use Rattle.std.proofs.lemmas.Result.{err_from_is_err_and}
use Rattle.cap_check.proofs.Following.{all-are, printed-all, printed-fault, printed-more, printed-none, taken-length}
use Rattle.cap_check.proofs.Following.{taken-more}
use Rattle.cap_check.specs.CheckText.{WritesCheck, WritesChecks, no_names}
use Rattle.cap_check.specs.Checking.{Opened}
use Rattle.cap_check.proofs.checking.check_all_to.Goals as goal

pub loop-source-init : goal.loop-source-init
loop-source-init g c = record {
  number = search rules;
  failed = search rules;
  told = λ t. t;
  cannot = λ f. f;
  printed = λ w. printed-none _ _ _ _ _;
}

pub returns-in_err-are_whole-clause-text : goal.returns-in_err-are_whole-clause-text
returns-in_err-are_whole-clause-text g c = λ w.
    let p = err_from_is_err_and c.from_residual.result c.from_residual.ensures.1 in
    let i = c.loop-source.invariant in
    let it = c.into_iter-source-iterator in
    let given = it.ensures.into_iter_gives in
    let x = c.in-Some.source in
    let all = c.args.sources.items in
    let n = length c.loop-source.yielded in
    let turn = YieldsList-turn (YieldsList-from_vec {s = it.result} all given.0 (given.1 ∙ c.args.sources.ok.0))
    c.loop-source.yielded c.loop-source.source-iterator c.loop-source.yielded_by c.next.result c.next.new.self x
    c.in-Some.is c.next.ensures.steps in
    let opened : g.row.R.Denot → Option Opened =
    λ s. Some (record {
      told = g.R.Source.tells_coming s;
      bytes = g.R.Source.coming s;
      can_fail = g.R.Device.can_fail s;
    }) in
    let before = take n (map opened all) in
    let files = taken-length opened all n (omega (arith, turn.0)) in
    rw (p.1, p.2)
    (subst (λ l. WritesChecks c.args.which c.args.form c.args.tail no_names l (g.W.Sink.held c.args.writer.now)
    (Err c.in_err-are_whole.field-0.0) (g.W.Sink.held c.check_to.new.writer)) (all-are opened all n x turn.1 turn.0)
    (printed-fault c.args.which c.args.form c.args.tail no_names before (drop (suc n) (map opened all)) (opened x)
    c.loop-source.are_whole c.in_err-are_whole.field-0.0 (g.W.Sink.held c.args.writer.now)
    (g.W.Sink.held c.loop-source.writer) (g.W.Sink.held c.check_to.new.writer) (i.printed w)
    (subst (λ (file : ℕ). WritesCheck c.args.which c.args.form c.args.tail file [] (opened x)
    (g.W.Sink.held c.loop-source.writer) (Err c.in_err-are_whole.field-0.0) (g.W.Sink.held c.check_to.new.writer))
    (omega (arith, i.number, files)) (c.in_err-are_whole.ensures.text (i.told w)))))

pub loop-source-preserved : goal.loop-source-preserved
loop-source-preserved g c =
    let i = c.loop-source.invariant in
    let it = c.into_iter-source-iterator in
    let given = it.ensures.into_iter_gives in
    let x = c.in-Some.source in
    let all = c.args.sources.items in
    let seen = c.loop-source.yielded in
    let n = length seen in
    let turn = YieldsList-turn (YieldsList-from_vec {s = it.result} all given.0 (given.1 ∙ c.args.sources.ok.0))
    seen c.loop-source.source-iterator c.loop-source.yielded_by c.next.result c.next.new.self x c.in-Some.is
    c.next.ensures.steps in
    let opened : g.row.R.Denot → Option Opened =
    λ s. Some (record {
      told = g.R.Source.tells_coming s;
      bytes = g.R.Source.coming s;
      can_fail = g.R.Device.can_fail s;
    }) in
    let longer = length-append seen (x ∷ []) in
    let e = c.in_ok-are_whole.ensures in
    record {
      number = omega (arith, i.number, longer);
      failed = grind (arith, e.writer.failed, i.failed);
      told = λ w. e.writer.told (i.told w);
      cannot = λ f. i.cannot (e.writer.cannot f);
      printed = λ w.
          let before = take n (map opened all) in
          let files = taken-length opened all n (omega (arith, turn.0)) in
          rw (longer, taken-more opened all n x turn.1 turn.0)
          (printed-more c.args.which c.args.form c.args.tail no_names before (opened x) c.loop-source.are_whole _
          (g.W.Sink.held c.args.writer.now) (g.W.Sink.held c.loop-source.writer) (g.W.Sink.held c.check_to.new.writer)
          (i.printed w)
          (subst (λ (file : ℕ). WritesCheck c.args.which c.args.form c.args.tail file [] (opened x)
          (g.W.Sink.held c.loop-source.writer) (Ok c.in_ok-are_whole.field-0) (g.W.Sink.held c.check_to.new.writer))
          (omega (arith, i.number, files)) (e.text (i.told w))));
    }

pub returns-clause-text : goal.returns-clause-text
returns-clause-text g c = λ w.
    let i = c.loop-source.invariant in
    let it = c.into_iter-source-iterator in
    let given = it.ensures.into_iter_gives in
    let all = c.args.sources.items in
    let ends = YieldsList-end (YieldsList-from_vec {s = it.result} all given.0 (given.1 ∙ c.args.sources.ok.0))
    c.loop-source.yielded c.loop-source.source-iterator c.loop-source.yielded_by c.next.result c.next.new.self
    c.in-None.is c.next.ensures.steps in
    let opened : g.row.R.Denot → Option Opened =
    λ s. Some (record {
      told = g.R.Source.tells_coming s;
      bytes = g.R.Source.coming s;
      can_fail = g.R.Device.can_fail s;
    }) in
    subst (λ l. WritesChecks c.args.which c.args.form c.args.tail no_names l (g.W.Sink.held c.args.writer.now)
    (Ok c.loop-source.are_whole) (g.W.Sink.held c.loop-source.writer))
    (take_all (length c.loop-source.yielded) (map opened all) (omega (arith, ends.1, length-map all opened)))
    (printed-all c.args.which c.args.form c.args.tail no_names _ c.loop-source.are_whole _ _ (i.printed w))
