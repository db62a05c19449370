use Rattle.std.proofs.Common.{◌≡◌, ◌-◌, ◌++◌, None, unwrap_or, arith, ap, refl, ◌∙◌}
use Rattle.std.specs.Prelude.{replicate}
use Rattle.std.proofs.lemmas.List.{length-set}
use Rattle.cap_commands.proofs.Leaving.{is-file, places-more, rests-all, rests-more, sum-more}
use Rattle.cap_commands.specs.Left.{dropped_comments, named_in, name_blocks_in, secret_blocks_in, skipped_in}
use Rattle.cap_talks.specs.talks.CutRests.{rests_in}
use Rattle.cap_commands.proofs.counting.dropped_of.Goals as goal

pub ending-ending-requires-clause-file : goal.ending-ending-requires-clause-file
ending-ending-requires-clause-file g c =
    is-file _ c.args.files c.loop-place.place c.requires.files (omega arith)

pub named_interfaces-requires-clause-file : goal.named_interfaces-requires-clause-file
named_interfaces-requires-clause-file g c = is-file _ c.args.files c.loop-place.place c.requires.files (omega arith)

pub skipped_kinds-kinds-requires-clause-file : goal.skipped_kinds-kinds-requires-clause-file
skipped_kinds-kinds-requires-clause-file g c =
    is-file _ c.args.files c.loop-place.place c.requires.files (omega arith)

pub comments-requires-clause-file : goal.comments-requires-clause-file
comments-requires-clause-file g c = is-file _ c.args.files c.loop-place.place c.requires.files (omega arith)

-- what the next file leaves is counted, and its rest is at its place
pub loop-place-preserved : goal.loop-place-preserved
loop-place-preserved g c =
    let i = c.loop-place.invariant in
    let n = c.loop-place.place in
    let endings = (g.F.PacketFeed.feed c.args.feed.now).endings in
    let ended = c.ending-ending.ensures.ending in
    let kinds = c.skipped_kinds-kinds.ensures.kinds in
    record {
      skipped =
          omega (
            arith,
            i.skipped,
            c.from-skipped.ensures,
            ap (λ e. e.skipped) ended,
            sum-more (λ end. end.ending.skipped) endings n,
          );
      named =
          omega (
            arith,
            i.named,
            c.from-named.ensures,
            c.named_interfaces.ensures.named,
            sum-more (λ end. end.named) endings n,
          );
      secrets =
          omega (
            arith,
            i.secrets,
            c.from-secret_blocks.ensures,
            ap (λ k. k.secrets) kinds,
            sum-more (λ end. end.kinds.secrets) endings n,
          );
      names =
          omega (
            arith,
            i.names,
            c.from-name_blocks.ensures,
            ap (λ k. k.names) kinds,
            sum-more (λ end. end.kinds.names) endings n,
          );
      comments =
          omega (
            arith,
            i.comments,
            c.from-comments.ensures,
            c.unwrap_or.ensures,
            ap (λ n. unwrap_or n 0) c.comments.ensures.comments,
            sum-more (λ end. unwrap_or end.comments 0) endings n,
          );
      few_skipped = omega (arith, i.few_skipped, c.from-skipped.ensures);
      few_named = omega (arith, i.few_named, c.from-named.ensures);
      few_secrets = omega (arith, i.few_secrets, c.from-secret_blocks.ensures);
      few_names = omega (arith, i.few_names, c.from-name_blocks.ensures);
      few_comments = omega (arith, i.few_comments, c.from-comments.ensures);
      places = length-set c.loop-place.cuts n c.ending-ending.result.cut ∙ i.places;
      cuts = rests-more endings n c.loop-place.cuts c.ending-ending.result.cut (omega (arith, i.places)) i.cuts
          (ap (λ e. e.cut) ended);
      others = places-more n c.loop-place.cuts c.ending-ending.result.cut (omega arith) i.others;
    }

pub returns : goal.returns
returns g c =
    let i = c.loop-place.invariant in
    let endings = (g.F.PacketFeed.feed c.args.feed.now).endings in
    let done : c.loop-place.place ≡ c.args.files = omega arith in
    record {
      skipped = i.skipped ∙ ap (skipped_in endings) done;
      secrets = i.secrets ∙ ap (secret_blocks_in endings) done;
      names = i.names ∙ ap (name_blocks_in endings) done;
      named = i.named ∙ ap (named_in endings) done;
      comments = i.comments ∙ ap (dropped_comments endings) done;
      cuts = rests-all endings c.loop-place.place c.loop-place.cuts i.cuts i.others
          ∙ ap (λ n. rests_in endings n ++ replicate (32 - n) None) done;
      networks = refl;
    }
