use Rattle.std.proofs.Common.{codes, refl}
use Rattle.cap_line.specs.Command.{IsGathering, IsMerge}
use Rattle.cap_line.proofs.Parsing.{AddsRule-weaker}
use Rattle.cap_line.proofs.command.merge.Goals as goal

pub returns-clause-app : goal.returns-clause-app
returns-clause-app c =
    AddsRule-weaker (IsGathering (codes "merge")) IsMerge c.gathering.result c.with_argument.result _
    c.gathering.ensures.app
    (λ app is. record {
      orders = is.orders;
      orders_are = is.orders_are;
      units = is.units;
      units_are = is.units_are;
      formats = is.formats;
      formats_are = is.formats_are;
      app_is = rw (is.app_is, c.share_interfaces.ensures.rule) refl;
    })
    c.with_argument.ensures.app
