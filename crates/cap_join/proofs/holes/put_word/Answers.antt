use Rattle.cap_join.proofs.Words.{with_number-within, word_at-put}
use Rattle.cap_join.proofs.holes.put_word.Goals as goal

pub returns-clause-word : goal.returns-clause-word
returns-clause-word c = rw c.put_u32.ensures.bytes (word_at-put _ _ _ c.requires c.ranges.value.fits)

pub returns-clause-within : goal.returns-clause-within
returns-clause-within c = rw c.put_u32.ensures.bytes (with_number-within _ _ _ c.requires)
