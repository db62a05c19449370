-- The rule by which a run is refused at a place is that of its first refusal.
use Rattle.std.proofs.Common.{arith, ◌≡◌, Bool, List, [], ◌∷◌, refl}
use Rattle.std.specs.Option.{option_map}
use Rattle.cap_merge.specs.Run.{Clocked}
use Rattle.cap_source.specs.Feed.{Item}
use Rattle.cap_class.specs.Runs.{with_item}
use Rattle.cap_class.specs.Taken.{Taken}
use Rattle.cap_laws.specs.Reports.{refused_after, RuleLaw}
use Rattle.cap_talks.specs.talks.ReportText.{refusal_for}

rule-after : (reads : Bool) (xs : List Taken) (run : List (Clocked Item))
    → option_map (λ p. p.rule) (refused_after reads xs run) ≡ option_map (λ r. r.rule) (refusal_for reads xs run)
unfolding refused_after refusal_for
rule-after reads xs [] = refl
rule-after reads xs (x ∷ run) = grind (arith, rule-after reads (with_item x.clock x.item xs) run)

pub rule-law : RuleLaw
rule-law reads run = rule-after reads [] run
