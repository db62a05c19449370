use Rattle.cap_laws.proofs.DigestLaws.{file_text-law, same_as_diff, text-law}
use Rattle.cap_laws.proofs.digests.same_text.Goals as goal

pub returns : goal.returns
returns c = record { lists = text-law; files = file_text-law; diff = same_as_diff c.diff_same.ensures }
