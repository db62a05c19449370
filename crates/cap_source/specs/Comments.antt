-- The comments of the blocks of a pcapng file: options of code 1, opt_comment (draft-ietf-opsawg-pcapng, 3.5).
use Rattle.std.specs.Prelude.{◌+◌, ◌==◌, ℕ, if◌then◌else◌, Bool, false, List, [], drop, count_by, Ok, Err}
use Rattle.cap_blocks.specs.Grammar.{simple_kind}
use Rattle.cap_blocks.specs.OptionList.{OptionItem, options_of, padded}
use Rattle.cap_bytes.specs.declared.numbers.Order.{Order}
use Rattle.cap_source.specs.declared.contents.BlockContent.{BlockContent}
use Rattle.cap_source.specs.declared.contents.BlockContent.TheVariants as contents

-- an option is an opt_comment, of code 1
abbrev pub is_comment : OptionItem → Bool
is_comment (Ok option) = option.0 == 1
is_comment (Err rule) = false

-- The bytes of the options of a block of that kind which says this: they follow the fixed fields of a section header
-- or of an interface block, and the padded captured bytes of an enhanced or an obsolete packet block. A simple packet
-- block has no options, and a block that is skipped isn't looked into.
-- draft-ietf-opsawg-pcapng, 4.1 to 4.4 and Appendix A.
abbrev pub option_bytes : ℕ → BlockContent → List ℕ → List ℕ
option_bytes kind contents.Section body = drop 16 body
option_bytes kind (contents.Interface described) body = drop 8 body
option_bytes kind (contents.Packet p) body = if kind == simple_kind then [] else drop (20 + padded p.captured) body
option_bytes kind (contents.Other other) body = []

-- How many comments a block of that kind has which says this. An option whose value runs past the end of the block
-- ends the list and is none of them.
unfoldable pub comments_in : ℕ → Order → BlockContent → List ℕ → ℕ
comments_in kind order content body = count_by is_comment (options_of order (option_bytes kind content body))
