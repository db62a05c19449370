use Rattle.clap.specs.Words.{found_of}
use Rattle.cap_line.proofs.Rows.{added_named, added_none}
use Rattle.cap_line.proofs.words.add_named.Goals as goal

pub returns-in-Some : goal.returns-in-Some
returns-in-Some c =
    added_named c.args.files.now.items c.in-Some.named.now _ (found_of c.args.matches.now) c.args.name.now
    c.extend_from_slice.result c.extend_from_slice.ensures.items c.in-Some.ensures

pub returns-in-None : goal.returns-in-None
returns-in-None c =
    added_none c.args.files.now.items (found_of c.args.matches.now) c.args.name.now c.in-None.ensures
