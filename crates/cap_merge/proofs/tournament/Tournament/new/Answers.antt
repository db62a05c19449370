use Rattle.cap_merge.proofs.Rounding.{blank-round}
use Rattle.cap_merge.proofs.tournament.Tournament.new.Goals as goal

pub returns : goal.returns
returns c = record {
  ones = blank-round 1 32;
  twos = blank-round 2 16;
  fours = blank-round 4 8;
  eights = blank-round 8 4;
  sixteens = blank-round 16 2;
}
