use Rattle.std.proofs.Common.{refl, sym, ◌∙◌, drop, rules, arith}
use Rattle.cap_source.proofs.FedGiving.{wants-more}
use Rattle.cap_source.specs.inner.FedSteps.{push_view}
use Rattle.cap_source.proofs.fed_captures.FedCapture.next.Goals as goal

-- the bytes to come may have been moved to the front
pub returns-in-Ok-Short : goal.returns-in-Ok-Short
returns-in-Ok-Short c =
    let given = c.give_back-self-inside.ensures in
    let more = wants-more (push_view c.self.inside.state) (drop c.self.inside.passed c.self.inside.bytes.items)
    (push_view c.look_on.new.state) (drop c.look_on.new.at c.self.inside.bytes.items)
    (drop c.give_back-self-inside.result c.give_back-self-inside.new.bytes.items)
    (rw (c.in-Ok-Short.field-0-is, c.deref.ensures.value) at c.in-Ok-Short.ensures.looks) given.rest in record {
      finds = rw (sym c.self.view_is) (more.0, more.1, more.2);
      leaves = (
        refl,
        rw given.rest more.3,
        omega (arith, given.len, more.3),
        λ none. given.room (sym given.rest ∙ none),
      );
      keeps = search rules;
    }
