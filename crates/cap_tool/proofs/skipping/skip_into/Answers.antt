use Rattle.std.proofs.Common.{◌≡◌, ◌∙◌, ap, arith, inr, length, map, subst, Some}
use Rattle.std.proofs.lemmas.List.{length-map}
use Rattle.cap_check.specs.Checking.{Opened}
use Rattle.cap_commands.specs.Jobs.{tail_of}
use Rattle.cap_commands.specs.Skipping.{kept_of}
use Rattle.cap_tool.proofs.FoundRefusals.{found-length, kept-count, skipping-most}
use Rattle.cap_tool.specs.CheckedNames.{AreGiven}
use Rattle.cap_tool.specs.Runs.{SkipsJob, names_of}
use Rattle.cap_tool.specs.Skipped.{FindsRefusals}
use Rattle.cap_tool.proofs.skipping.skip_into.Goals as goal

pub kept_files-requires : goal.kept_files-requires
kept_files-requires g c =
    let found = found-length _ _ _ _ _ c.in_ok-refusals.ensures.found in
    omega (
      arith,
      found,
      length-map c.as_slice-names.result.now (λ n. n.now),
      ap length c.as_slice.ensures.value,
    )

pub open_all-requires : goal.open_all-requires
open_all-requires g c =
    let fewer = kept-count c.as_slice.result.now c.as_slice-names.result.now c.in-Ok.kept.items c.in-Ok.ensures in
    record {
      most = omega (
        arith,
        fewer,
        ap length c.as_slice-2.ensures.value,
        ap length c.as_slice-names.ensures.value,
        c.args.job.now.files.ok.0,
        c.requires.whole.most,
        skipping-most c.args.job.now.task c.args.job.now.skips c.requires.skips,
      );
    }

pub do_skipping-requires-clause-fewer : goal.do_skipping-requires-clause-fewer
do_skipping-requires-clause-fewer g c =
    let fewer = kept-count c.as_slice.result.now c.as_slice-names.result.now c.in-Ok.kept.items c.in-Ok.ensures in
    omega (
      arith,
      fewer,
      c.in-Ok.kept.ok.0,
      ap length c.as_slice-names.ensures.value,
      c.args.job.now.files.ok.0,
    )

pub do_skipping-requires-clause-most : goal.do_skipping-requires-clause-most
do_skipping-requires-clause-most g c =
    let found = found-length _ _ _ _ _ c.in_ok-refusals.ensures.found in
    omega (
      arith,
      found,
      length-map c.as_slice-names.result.now (λ n. n.now),
      ap length c.as_slice-in-Ok-open_all.ensures.value,
      ap length c.as_slice-names.ensures.value,
      c.args.job.now.files.ok.0,
      c.requires.whole.most,
      skipping-most c.args.job.now.task c.args.job.now.skips c.requires.skips,
    )

pub stop_on_line-requires : goal.stop_on_line-requires
stop_on_line-requires g c =
    let found = found-length _ _ _ _ _ c.in_ok-refusals.ensures.found in
    omega (
      arith,
      found,
      length-map c.as_slice-names.result.now (λ n. n.now),
      ap length c.as_slice-in-Err.ensures.value,
      ap length c.as_slice-names.ensures.value,
      c.args.job.now.files.ok.0,
      c.requires.whole.most,
      skipping-most c.args.job.now.task c.args.job.now.skips c.requires.skips,
    )

pub returns-in-Ok-open_all-clause-skips : goal.returns-in-Ok-open_all-clause-skips
returns-in-Ok-open_all-clause-skips g c =
    let job = c.args.job.now in
    let refusals = c.in_ok-refusals.refusals.items in
    let sources = c.in-Ok-open_all.inputs.sources in
    let gives = g.S.Opener.gives c.args.system.now in
    let known : g.row.S-Reader.Denot → Opened =
    λ s. record {
      told = g.S.Reader.Source.tells_coming s;
      bytes = g.S.Reader.Source.coming s;
      can_fail = g.S.Reader.Device.can_fail s;
    } in
    let texts_are : map (λ n. n.now) c.as_slice-names.result.now ≡ names_of job =
    ap (map (λ n. n.now)) c.as_slice-names.ensures.value in
    let kept_are : map (λ k. k.now) c.as_slice-2.result.now ≡ kept_of refusals (names_of job) =
    ap (map (λ k. k.now)) c.as_slice-2.ensures.value
    ∙ (c.in-Ok.ensures
    ∙ (ap (λ r. kept_of r (map (λ n. n.now) c.as_slice-names.result.now)) c.as_slice.ensures.value
    ∙ ap (kept_of refusals) texts_are)) in
    inr (record {
      refusals = refusals;
      readers = sources.items;
      found = subst (λ names. FindsRefusals gives known (tail_of job.allow_cut) names refusals) texts_are
          (subst (λ tail. FindsRefusals gives known tail (map (λ n. n.now) c.as_slice-names.result.now) refusals)
          c.tail_of.ensures c.in_ok-refusals.ensures.found);
      opened = subst (λ names. AreGiven gives names (map Some sources.items)) kept_are c.in-Ok-open_all.ensures.all;
      all = omega (
        arith,
        c.in-Ok-open_all.ensures.len,
        sources.ok.0,
        ap length kept_are,
        length-map c.as_slice-2.result.now (λ k. k.now),
      );
      runs = λ t w.
          subst (λ r. SkipsJob job r (map g.S.Reader.Device.can_fail sources.items)
          (map g.S.Reader.Source.coming sources.items) (g.S.Writer.Sink.held c.args.writer.now) c.do_skipping.result
          (g.S.Writer.Sink.held c.do_skipping.new.writer) (g.S.Writer.Outlet.waiting c.do_skipping.new.writer))
          c.as_slice-in-Ok-open_all.ensures.value (c.do_skipping.ensures.runs t w);
    })
