use Rattle.std.proofs.Common.{[], refl, arith}
use Rattle.cap_talks.proofs.Totaling.{stands-new, len-new}
use Rattle.cap_talks.proofs.table.totals.Totals.new.Goals as goal

pub invariant_of-result : goal.invariant_of-result
invariant_of-result c = record {
  taken = [];
  stands = stands-new _ c.args.files c.new_files.ensures refl refl refl;
  few = omega arith;
  short = tt;
  files = omega (arith, len-new _ c.args.files c.new_files.ensures, c.requires);
}

pub returns-clause-stands : goal.returns-clause-stands
returns-clause-stands c = stands-new _ c.args.files c.new_files.ensures refl refl refl

pub returns-clause-files : goal.returns-clause-files
returns-clause-files c = len-new _ c.args.files c.new_files.ensures
