use Rattle.std.proofs.Common.{map, subst}
use Rattle.clap.specs.Words.{app_of, kind_of}
use Rattle.cap_line.specs.CommandLine.{IsJobOf}
use Rattle.cap_line.proofs.Parsing.{IsCapt-simple, IsCapt-simple_and_free, IsNoJob-said, IsRefused-said}
use Rattle.cap_line.proofs.Parsing.{IsRefused-said_alone}
use Rattle.cap_line.proofs.words.message.Goals as goal

pub returns-in_ok-fault-in-Ok-try_get_matches_from-clause-refused :
    goal.returns-in_ok-fault-in-Ok-try_get_matches_from-clause-refused
returns-in_ok-fault-in-Ok-try_get_matches_from-clause-refused g c =
    let words = map g.S.AsStr.text c.args.words.now in
    let app = app_of c.in-Ok.command in
    let e = c.in-Ok-try_get_matches_from.ensures in
    let entered = (e.matches (IsCapt-simple app c.in-Ok.ensures)).1 in
    let job = subst (λ p. IsJobOf p c.job_entered.result) entered c.job_entered.ensures in
    IsNoJob-said words app c.job_entered.result _ c.said_of_line.result c.in-Ok.ensures
    (e.kinds (IsCapt-simple_and_free app c.in-Ok.ensures)) job
    c.in_ok-fault-in-Ok-try_get_matches_from.ensures.value c.said_of_line.ensures.line

pub returns-in-Err-clause-refused : goal.returns-in-Err-clause-refused
returns-in-Err-clause-refused g c =
    let words = map g.S.AsStr.text c.args.words.now in
    let app = app_of c.in-Ok.command in
    IsRefused-said_alone words c.said_by.result
    (IsRefused-said words app (kind_of c.in-Err.error) c.said_by.result c.in-Ok.ensures
    (c.in-Err.ensures.kinds (IsCapt-simple_and_free app c.in-Ok.ensures)) c.said_by.ensures.kind)
