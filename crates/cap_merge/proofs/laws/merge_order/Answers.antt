use Rattle.cap_merge.proofs.FileOrder.{merge_order-law}
use Rattle.cap_merge.proofs.MergedOnce.{merged_once-law}
use Rattle.cap_merge.proofs.laws.merge_order.Goals as goal

pub returns : goal.returns
returns c = record { lists = merge_order-law; once = merged_once-law }
