use Rattle.std.proofs.Common.{rules}
use Rattle.capt_c.proofs.NearTimes.{near-seconds}
use Rattle.capt_c.proofs.packets.whole_seconds.Goals as goal

pub returns-then-seconds-lt9223372036854775808 : goal.returns-then-seconds-lt9223372036854775808
returns-then-seconds-lt9223372036854775808 c =
    near-seconds c.args.units c.args.seconds c.args.interface.now (search rules)
    c.if-seconds-lt9223372036854775808.true c.requires
