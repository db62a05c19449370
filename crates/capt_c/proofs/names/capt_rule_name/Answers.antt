use Rattle.std.proofs.Common.{refl, sym, ◌∙◌}
use Rattle.capt_c.proofs.Numbered.{one_of_a_number, none_of_a_number}
use Rattle.capt_c.proofs.names.capt_rule_name.Goals as goal

pub returns-in-Some : goal.returns-in-Some
returns-in-Some c = record {
  name = λ rule is. rw (
    one_of_a_number rule c.in-Some.rule (is ∙ sym c.in-Some.ensures.some),
    sym c.name.ensures,
    sym c.as_bytes.ensures.value,
  ) c.put.ensures;
  none = λ no. absurd (no c.in-Some.rule c.in-Some.ensures.some);
}

pub returns-in-None : goal.returns-in-None
returns-in-None c = record {
  name = λ rule is. absurd (none_of_a_number rule c.args.rule (c.rule_of.ensures.none c.in-None.is) is);
  none = λ no. (refl, refl);
}
