use Rattle.std.proofs.Common.{◌≡◌, codes, refl}
use Rattle.clap.specs.Words.{App, with_rule}
use Rattle.cap_line.specs.Command.{IsConvert, IsWriting, ArgumentNames, required_to_rule}
use Rattle.cap_line.proofs.Parsing.{AddsRule-weaker}
use Rattle.cap_line.proofs.command.convert.Goals as goal

-- `convert` before its files
abbrev HasFormats : ArgumentNames → App → Type 0
HasFormats formats app = (old : App) × IsWriting (codes "convert") old
    × (app ≡ with_rule old (required_to_rule formats))

pub returns-clause-app : goal.returns-clause-app
returns-clause-app c =
    let formats = c.required_to.ensures.rule in
    let before = AddsRule-weaker (IsWriting (codes "convert"))
    (HasFormats formats.0) c.writing-before.result c.with_argument.result _ c.writing-before.ensures.app
    (λ app is. (app, is, rw formats.2 refl)) c.with_argument.ensures.app in
    AddsRule-weaker (HasFormats formats.0) IsConvert c.with_argument.result c.with_argument-2.result _ before
    (λ app is. record {
      orders = is.1.orders;
      orders_are = is.1.orders_are;
      units = is.1.units;
      units_are = is.1.units_are;
      formats = formats.0;
      formats_are = formats.1;
      app_is = rw (is.2, is.1.app_is, c.file.ensures.rule) refl;
    })
    c.with_argument-2.ensures.app
