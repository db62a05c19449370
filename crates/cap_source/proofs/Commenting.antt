-- What is known of a pcapng file beside its comments doesn't depend on these, and they are fewer than its bytes.
use Rattle.std.proofs.Common.{◌≡◌, ◌≤◌, ◌<◌, ◌+◌, ◌^◌, ℕ, Bool, true, false, List, [], ◌∷◌, length, Option, Some, None}
use Rattle.std.proofs.Common.{is_some, IfSome, unwrap_or, Result, Ok, Err, refl, sym, ◌&&◌, ap, ◌∙◌, subst, arith}
use Rattle.std.proofs.Common.{length-drop, if◌then◌else◌}
use Rattle.std.proofs.Math.Bool.{and-false, and-true}
use Rattle.cap_bytes.specs.Items as pieces
use Rattle.cap_bytes.specs.declared.faults.Rule.{Rule}
use Rattle.cap_bytes.specs.declared.faults.Tail.{Tail}
use Rattle.cap_bytes.specs.declared.numbers.Order.{Order}
use Rattle.cap_pcap.specs.Split.{header_at, pcap_file_items, pcap_header_fault}
use Rattle.cap_pcap.specs.declared.records.Record.{Record}
use Rattle.cap_blocks.specs.Split.{block_items_from}
use Rattle.cap_blocks.specs.Grammar.{is_known_kind}
use Rattle.cap_blocks.specs.OptionList.{options_by, options_of}
use Rattle.cap_blocks.specs.declared.blocks.Block.{Block}
use Rattle.cap_source.proofs.OptionCounts.{few_comments}
use Rattle.cap_source.proofs.Bodies.{other}
use Rattle.cap_source.specs.Comments.{comments_in, option_bytes}
use Rattle.cap_source.specs.Contents.{content_in, of_body}
use Rattle.cap_source.specs.Feed.{Item}
use Rattle.cap_source.specs.Items.{SectionProgress, beginning, behind, commented, counted_behind, first_from, first_in}
use Rattle.cap_source.specs.Items.{ending_from, ending_in, ending_with, pcap_ending, unless_faulty}
use Rattle.cap_source.specs.Items.{fresh, interface_of, is_pcapng, items_at_block, items_from, items_of_blocks}
use Rattle.cap_source.specs.Items.{more_comments, pcap_items, unless_item, unless_refused, with_comments}
use Rattle.cap_source.specs.inner.Counted.{CommentsApart, without_comments}
use Rattle.cap_source.specs.inner.FileState.{next_at}
use Rattle.cap_source.specs.inner.SectionState.{counted_blocks}
use Rattle.cap_source.specs.declared.contents.BlockContent.{BlockContent}
use Rattle.cap_source.specs.declared.contents.BlockContent.TheVariants as contents
use Rattle.cap_source.specs.declared.contents.BlockPacket.{BlockPacket}
use Rattle.cap_source.specs.declared.readers.Peeked.{Peeked}
use Rattle.cap_time.specs.declared.resolutions.Interface.{Interface}

-- what a block adds beside its comments
behind-with : (p : SectionProgress) (c : Option ℕ) (content : Result BlockContent Rule)
    → behind (with_comments p c) content ≡ with_comments (behind p content) c
behind-with p c (Ok contents.Section) = refl
behind-with p c (Ok (contents.Interface described)) = refl
behind-with p c (Ok (contents.Packet packet)) = refl
behind-with p c (Ok (contents.Other kind)) = refl
behind-with p c (Err rule) = refl

-- the items of a block and of those behind it
items-at : (file : ℕ) (p : SectionProgress) (c : Option ℕ) (block : Block) (body : List ℕ)
    (content : Result BlockContent Rule) (here later : List Item)
    → here ≡ later
    → items_at_block file (with_comments p c) block body content here ≡ items_at_block file p block body content later
items-at file p c block body (Ok contents.Section) here later is = is
items-at file p c block body (Ok (contents.Interface described)) here later is = is
items-at file p c block body (Ok (contents.Packet packet)) here later is =
    ap (items_at_block file p block body (Ok (contents.Packet packet))) is
items-at file p c block body (Ok (contents.Other kind)) here later is = is
items-at file p c block body (Err rule) here later is = refl

-- so the items are the same, whether comments were counted or not
pub items-with : (file : ℕ) (p : SectionProgress) (c : Option ℕ) (blocks : List (pieces.PieceItem Block))
    → items_of_blocks file (with_comments p c) blocks ≡ items_of_blocks file p blocks
unfolding items_of_blocks
items-with file p c [] = refl
items-with file p c (pieces.stopped stop ∷ rest) = refl
items-with file p c (pieces.given block body ∷ rest) =
    let content = content_in p.interfaces block.kind block.order body in
    items-at file p c block body content _ _
    (ap (λ q. items_of_blocks file q rest) (behind-with p c content) ∙ items-with file (behind p content) c rest)

first-at : (content : Result BlockContent Rule) (first here later : Option Interface) → here ≡ later
    → unless_item content first here ≡ unless_item content first later
first-at content first here later is = ap (unless_item content first) is

pub first-with : (p : SectionProgress) (c : Option ℕ) (blocks : List (pieces.PieceItem Block))
    → first_in (with_comments p c) blocks ≡ first_in p blocks
unfolding first_in
first-with p c [] = refl
first-with p c (pieces.stopped stop ∷ rest) = refl
first-with p c (pieces.given block body ∷ rest) =
    let content = content_in p.interfaces block.kind block.order body in
    first-at content p.first _ _
    (ap (λ q. first_in q rest) (behind-with p c content) ∙ first-with (behind p content) c rest)

-- the same behind a block of which the comments were counted
pub items-counted : (file : ℕ) (p : SectionProgress) (block : Block) (body : List ℕ)
    (content : Result BlockContent Rule) (blocks : List (pieces.PieceItem Block))
    → items_of_blocks file (counted_behind p block body content) blocks ≡ items_of_blocks file (behind p content) blocks
items-counted file p block body (Ok said) blocks =
    let c = more_comments p.comments (comments_in block.kind block.order said body) in
    ap (λ q. items_of_blocks file q blocks) (behind-with p c (Ok said)) ∙ items-with file (behind p (Ok said)) c blocks
items-counted file p block body (Err rule) blocks = refl

pub first-counted : (p : SectionProgress) (block : Block) (body : List ℕ) (content : Result BlockContent Rule)
    (blocks : List (pieces.PieceItem Block))
    → first_in (counted_behind p block body content) blocks ≡ first_in (behind p content) blocks
first-counted p block body (Ok said) blocks =
    let c = more_comments p.comments (comments_in block.kind block.order said body) in
    ap (λ q. first_in q blocks) (behind-with p c (Ok said)) ∙ first-with (behind p (Ok said)) c blocks
first-counted p block body (Err rule) blocks = refl

-- what comes next after a block doesn't depend on its comments
pub next-commented : (file : ℕ) (p : SectionProgress) (block : Block) (body : List ℕ)
    (content : Result BlockContent Rule)
    → next_at file (commented p block body content) block content ≡ next_at file p block content
next-commented file p block body (Ok contents.Section) = refl
next-commented file p block body (Ok (contents.Interface described)) = refl
next-commented file p block body (Ok (contents.Packet packet)) = refl
next-commented file p block body (Ok (contents.Other kind)) = refl
next-commented file p block body (Err rule) = refl

-- the same of what was read with the comments counted first
pub next_by : (file : ℕ) (p : SectionProgress) (block : Block) (body : List ℕ) (content : Result BlockContent Rule)
    (mid : SectionProgress) (next : Option Peeked)
    → mid ≡ commented p block body content → next ≡ next_at file mid block content
    → next ≡ next_at file p block content
next_by file p block body content mid next counted is =
    is ∙ (ap (λ q. next_at file q block content) counted ∙ next-commented file p block body content)

pub behind_by : (p : SectionProgress) (block : Block) (body : List ℕ) (content : Result BlockContent Rule)
    (mid new : SectionProgress)
    → mid ≡ commented p block body content → new ≡ behind mid content
    → new ≡ counted_behind p block body content
behind_by p block body content mid new counted is = is ∙ ap (λ q. behind q content) counted

-- A body that isn't lent has no comments.
pub commented-same : (p : SectionProgress) (block : Block) (lent : Option (List ℕ)) (body : List ℕ)
    (content : Result BlockContent Rule)
    → is_some lent ≡ is_known_kind block.kind → IfSome lent (λ b. b ≡ body)
    → content ≡ content_in p.interfaces block.kind block.order (unwrap_or lent [])
    → commented p block (unwrap_or lent []) content ≡ commented p block body content
unfolding comments_in
commented-same p block (Some b) body content known is says = ap (λ bs. commented p block bs content) is
commented-same p block None body content known is says =
    subst (λ c. commented p block [] c ≡ commented p block body c)
    (sym (says ∙ other p.interfaces block.kind block.order [] (sym known))) refl

-- a block of another kind says that kind
pub other-said : (interfaces : List Interface) (kind : ℕ) (order : Order) (body : List ℕ) (content : BlockContent)
    → is_known_kind kind ≡ false → Ok content ≡ content_in interfaces kind order body → content ≡ contents.Other kind
other-said interfaces kind order body content unknown says =
    let is : Ok content ≡ Ok (contents.Other kind) = says ∙ other interfaces kind order body unknown in cc

-- and its comments aren't counted
pub no-comments : (kind : ℕ) (order : Order) (content : BlockContent) (body : List ℕ) → content ≡ contents.Other kind
    → 0 ≡ comments_in kind order content body
unfolding comments_in options_of options_by
no-comments kind order content body is = rw is refl

-- a packet, or a refusal of one, leaves what was read of a file whose comments aren't counted
none-more : (c : Option ℕ) (n : ℕ) → c ≡ None → c ≡ more_comments c n
none-more c n is = rw is refl

pub behind-packet : (p : SectionProgress) (block : Block) (body : List ℕ) (said : Result BlockPacket Rule)
    → p.comments ≡ None → p ≡ counted_behind p block body (of_body contents.Packet said)
behind-packet p block body (Ok packet) none =
    ap (with_comments p) (none-more p.comments
    (comments_in block.kind block.order (contents.Packet packet) body) none)
behind-packet p block body (Err rule) none = refl

-- a block has at most as many comments as bytes
few_bytes : (kind : ℕ) (content : BlockContent) (body : List ℕ) → length (option_bytes kind content body) ≤ length body
few_bytes kind contents.Section body = omega (arith, length-drop 16 body)
few_bytes kind (contents.Interface described) body = omega (arith, length-drop 8 body)
few_bytes kind (contents.Packet p) body = grind (arith, length-drop)
few_bytes kind (contents.Other other) body = omega arith

pub few_in : (kind : ℕ) (order : Order) (content : BlockContent) (body : List ℕ)
    → comments_in kind order content body ≤ length body
unfolding comments_in
few_in kind order content body =
    omega (arith, few_comments order (option_bytes kind content body), few_bytes kind content body)

few-more : (c : Option ℕ) (n m : ℕ) → n ≤ m → unwrap_or (more_comments c n) 0 ≤ unwrap_or c 0 + m
few-more None n m few = omega arith
few-more (Some counted) n m few = omega (arith, few)

pub counted-more : (p : SectionProgress) (block : Block) (body : List ℕ) (content : Result BlockContent Rule)
    → counted_blocks (commented p block body content) ≤ counted_blocks p + length body
counted-more p block body (Ok content) =
    let more = comments_in block.kind block.order content body in
    omega (arith, few-more p.comments more (length body) (few_in block.kind block.order content body))
counted-more p block body (Err rule) = omega arith

-- and no more are counted than there are bytes before the block and in it
pub counted-limit : (p mid : SectionProgress) (block : Block) (lent : Option (List ℕ))
    (content : Result BlockContent Rule) (offset next : ℕ)
    → mid ≡ commented p block (unwrap_or lent []) content → counted_blocks p ≤ offset → 12 ≤ block.total
    → IfSome lent (λ body. length body + 12 ≡ block.total) → next ≡ offset + block.total → next ≤ 2 ^ 40
    → counted_blocks mid < 2 ^ 40
counted-limit p mid block (Some body) content offset next is counted least size at limit =
    let few : counted_blocks mid ≤ counted_blocks p + length body =
    subst (λ q. counted_blocks q ≤ counted_blocks p + length body) (sym is) (counted-more p block body content) in
    omega (arith, few, size, at)
counted-limit p mid block None content offset next is counted least size at limit =
    let few : counted_blocks mid ≤ counted_blocks p + 0 =
    subst (λ q. counted_blocks q ≤ counted_blocks p + 0) (sym is) (counted-more p block [] content) in
    omega (arith, few, at)

-- Before anything is read, the items and the first interface are the same whether comments are to be counted or not.
pub items-beginning : (comments : Bool) (tail : Tail) (file offset : ℕ) (bytes : List ℕ)
    → items_from tail file (beginning comments) offset bytes ≡ items_from tail file fresh offset bytes
unfolding items_from
items-beginning comments tail file offset bytes =
    ap (λ items. if is_pcapng bytes then items else pcap_items file (interface_of (header_at bytes))
    (pcap_file_items tail file offset bytes))
    (items-with file fresh (if comments then Some 0 else None) (block_items_from None tail file offset bytes))

pub first-beginning : (comments : Bool) (tail : Tail) (file offset : ℕ) (bytes : List ℕ)
    → first_from tail file (beginning comments) offset bytes ≡ first_from tail file fresh offset bytes
unfolding first_from
first-beginning comments tail file offset bytes =
    ap (λ first. if is_pcapng bytes then first else unless_refused (pcap_header_fault offset bytes)
    (interface_of (header_at bytes)))
    (first-with fresh (if comments then Some 0 else None) (block_items_from None tail file offset bytes))

-- However many comments were counted, nothing else changes of the end of a file whose blocks are to come.
ending-at : (p : SectionProgress) (c : Option ℕ) (block : Block) (body : List ℕ) (content : Result BlockContent Rule)
    (rest : List (pieces.PieceItem Block))
    → ((q : SectionProgress) (d : Option ℕ)
    → without_comments (ending_in (with_comments q d) rest) ≡ ending_in (with_comments q None) rest)
    → without_comments (unless_faulty content (ending_with (with_comments p c) None)
    (ending_in (counted_behind (with_comments p c) block body content) rest))
    ≡ unless_faulty content (ending_with (with_comments p None) None)
    (ending_in (counted_behind (with_comments p None) block body content) rest)
ending-at p c block body (Ok said) rest later =
    let d = more_comments c (comments_in block.kind block.order said body) in
    ap (λ q. without_comments (ending_in q rest)) (behind-with p d (Ok said))
    ∙ (later (behind p (Ok said)) d ∙ sym (ap (λ q. ending_in q rest) (behind-with p None (Ok said))))
ending-at p c block body (Err rule) rest later = refl

ending-with : (p : SectionProgress) (c : Option ℕ) (blocks : List (pieces.PieceItem Block))
    → without_comments (ending_in (with_comments p c) blocks) ≡ ending_in (with_comments p None) blocks
unfolding ending_in
ending-with p c [] = refl
ending-with p c (pieces.stopped stop ∷ rest) = refl
ending-with p c (pieces.given block body ∷ rest) =
    ending-at p c block body (content_in p.interfaces block.kind block.order body) rest
    (λ q d. ending-with q d rest)

-- and it has their number if they were counted so far
some-more : (c : Option ℕ) (n : ℕ) → is_some (more_comments c n) ≡ is_some c
some-more None n = refl
some-more (Some counted) n = refl

some-at : (p : SectionProgress) (c : Option ℕ) (block : Block) (body : List ℕ) (content : Result BlockContent Rule)
    (rest : List (pieces.PieceItem Block))
    → ((q : SectionProgress) (d : Option ℕ) → is_some (ending_in (with_comments q d) rest).comments ≡ is_some d)
    → is_some (unless_faulty content (ending_with (with_comments p c) None)
    (ending_in (counted_behind (with_comments p c) block body content) rest)).comments ≡ is_some c
some-at p c block body (Ok said) rest later =
    let n = comments_in block.kind block.order said body in
    ap (λ q. is_some (ending_in q rest).comments) (behind-with p (more_comments c n) (Ok said))
    ∙ (later (behind p (Ok said)) (more_comments c n) ∙ some-more c n)
some-at p c block body (Err rule) rest later = refl

some-with : (p : SectionProgress) (c : Option ℕ) (blocks : List (pieces.PieceItem Block))
    → is_some (ending_in (with_comments p c) blocks).comments ≡ is_some c
unfolding ending_in
some-with p c [] = refl
some-with p c (pieces.stopped stop ∷ rest) = refl
some-with p c (pieces.given block body ∷ rest) =
    some-at p c block body (content_in p.interfaces block.kind block.order body) rest (λ q d. some-with q d rest)

pcap-apart : (items : List (pieces.PieceItem Record))
    → (without_comments (pcap_ending items) ≡ pcap_ending items) × ((pcap_ending items).comments ≡ None)
unfolding pcap_ending
pcap-apart [] = (refl, refl)
pcap-apart (pieces.stopped stop ∷ rest) = (refl, refl)
pcap-apart (pieces.given r frame ∷ rest) = pcap-apart rest

asked : (comments : Bool) → is_some {T = ℕ} (if comments then Some 0 else None) ≡ comments
asked true = refl
asked false = refl

format-apart : (comments pcapng : Bool) (blocks : List (pieces.PieceItem Block))
    (records : List (pieces.PieceItem Record))
    → (without_comments (if pcapng then ending_in (beginning comments) blocks else pcap_ending records)
    ≡ (if pcapng then ending_in fresh blocks else pcap_ending records))
    × (is_some (if pcapng then ending_in (beginning comments) blocks else pcap_ending records).comments
    ≡ (comments && pcapng))
format-apart comments true blocks records = (
  ending-with fresh (if comments then Some 0 else None) blocks,
  some-with fresh (if comments then Some 0 else None) blocks ∙ (asked comments ∙ sym (and-true comments)),
)
format-apart comments false blocks records = (
  (pcap-apart records).0,
  ap is_some (pcap-apart records).1 ∙ sym (and-false comments),
)

pub comments-law : CommentsApart
unfolding ending_from
comments-law comments tail file bytes =
    format-apart comments (is_pcapng bytes) (block_items_from None tail file 0 bytes)
    (pcap_file_items tail file 0 bytes)
