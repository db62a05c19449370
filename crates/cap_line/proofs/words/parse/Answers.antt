use Rattle.std.proofs.Common.{◌∙◌, ap, map, subst}
use Rattle.clap.specs.Words.{app_of, kind_of, subcommand_of}
use Rattle.cap_line.specs.CommandLine.{IsJobOf, fault_by}
use Rattle.cap_line.proofs.Parsing.{IsCapt-simple, IsCapt-simple_and_free, IsJobOf-no_help, Parses-answered}
use Rattle.cap_line.proofs.Parsing.{Parses-refused, whole-of}
use Rattle.cap_line.proofs.words.parse.Goals as goal

pub returns-in-Ok-try_get_matches_from-clause-parses : goal.returns-in-Ok-try_get_matches_from-clause-parses
returns-in-Ok-try_get_matches_from-clause-parses g c =
    let words = map g.S.AsStr.text c.args.words.now in
    let app = app_of c.in-Ok.command in
    let e = c.in-Ok-try_get_matches_from.ensures in
    let entered = (e.matches (IsCapt-simple app c.in-Ok.ensures)).1 in
    let job = subst (λ p. IsJobOf p c.job_entered.result) entered c.job_entered.ensures in
    Parses-answered words app c.job_entered.result c.in-Ok.ensures
    (e.kinds (IsCapt-simple_and_free app c.in-Ok.ensures)) job
    (IsJobOf-no_help (subcommand_of app words) c.job_entered.result job)

pub returns-in-Err-clause-parses : goal.returns-in-Err-clause-parses
returns-in-Err-clause-parses g c =
    let words = map g.S.AsStr.text c.args.words.now in
    let app = app_of c.in-Ok.command in
    let fault_is = c.fault_by.ensures ∙ ap fault_by c.kind.ensures in
    rw fault_is
    (Parses-refused words app (kind_of c.in-Err.error) c.in-Ok.ensures
    (c.in-Err.ensures.kinds (IsCapt-simple_and_free app c.in-Ok.ensures)))

pub returns-in-Ok-try_get_matches_from-clause-whole : goal.returns-in-Ok-try_get_matches_from-clause-whole
returns-in-Ok-try_get_matches_from-clause-whole g c = whole-of _ c.job_entered.result c.job_entered.ensures
