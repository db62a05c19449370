use Rattle.std.proofs.Common.{◌≡◌, refl}
use Rattle.clap.specs.Words.{App, Text, with_rule}
use Rattle.cap_line.specs.Command.{IsGathering, IsWriting, ArgumentNames, to_rule}
use Rattle.cap_line.proofs.Parsing.{AddsRule-weaker}
use Rattle.cap_line.proofs.command.gathering.Goals as goal

-- the subcommand before its files
abbrev HasFormats : Text → ArgumentNames → App → Type 0
HasFormats name formats app = (old : App) × IsWriting name old × (app ≡ with_rule old (to_rule formats))

pub returns-clause-app : goal.returns-clause-app
returns-clause-app c =
    let name = c.args.name.now in
    let formats = c.to.ensures.rule in
    let before = AddsRule-weaker (IsWriting name) (HasFormats name formats.0) c.writing-before.result
    c.with_argument-named.result _ c.writing-before.ensures.app
    (λ app is. (app, is, rw formats.2 refl)) c.with_argument-named.ensures.app in
    AddsRule-weaker (HasFormats name formats.0) (IsGathering name) c.with_argument-named.result
    c.with_argument.result _ before
    (λ app is. record {
      orders = is.1.orders;
      orders_are = is.1.orders_are;
      units = is.1.units;
      units_are = is.1.units_are;
      formats = formats.0;
      formats_are = formats.1;
      app_is = rw (is.2, is.1.app_is, c.files.ensures.rule) refl;
    })
    c.with_argument.ensures.app
