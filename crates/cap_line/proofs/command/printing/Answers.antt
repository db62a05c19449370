use Rattle.std.proofs.Common.{◌≡◌, refl}
use Rattle.clap.specs.Words.{App, with_subcommand}
use Rattle.cap_line.specs.Command.{IsComparing, IsPrinting, IsTimed, info_app, report_app}
use Rattle.cap_line.proofs.Parsing.{AddsMade-weaker}
use Rattle.cap_line.proofs.command.printing.Goals as goal

-- what compares, with `info`
abbrev HasInfo : App → Type 0
HasInfo app = (comparing : App) × (info : App) × IsComparing comparing × IsTimed info_app info
    × (app ≡ with_subcommand comparing info.top)

pub returns : goal.returns
returns c =
    let first = AddsMade-weaker IsComparing (IsTimed info_app) HasInfo c.comparing.result c.info.result
    c.with_subcommand-capt.result c.comparing.ensures c.info.ensures.app
    (λ app s is timed. (app, s, is, timed, refl)) c.with_subcommand-capt.ensures in
    AddsMade-weaker HasInfo (IsTimed report_app) IsPrinting c.with_subcommand-capt.result c.report.result
    c.with_subcommand.result first c.report.ensures.app
    (λ app s is timed. record {
      comparing = is.0;
      info = is.1;
      report = s;
      is_comparing = is.2;
      is_info = is.3;
      is_report = timed;
      app_is = rw is.4 refl;
    })
    c.with_subcommand.ensures
