use Rattle.std.proofs.Common.{sym}
use Rattle.cap_line.proofs.Numbers.{read_number, unread_number}
use Rattle.cap_line.proofs.jobs.number_of.Goals as goal

pub returns-in-Err : goal.returns-in-Err
returns-in-Err c = unread_number c.args.text.now (sym c.if-not-is_digits.ensures) c.in-Err.ensures.value.0

pub returns-in-Ok : goal.returns-in-Ok
returns-in-Ok c =
    let read = c.in-Ok.ensures.value.0 in
    read_number c.args.text.now c.in-Ok.number (sym c.if-not-is_digits.ensures) read.0.1 read.1
