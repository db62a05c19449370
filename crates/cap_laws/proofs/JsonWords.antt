-- What capt itself puts into a line of JSON has no character that is escaped.
use Rattle.std.proofs.Common.{◌≡◌, ◌==◌, ◌<◌, ◌≤◌, ◌/◌, ◌%◌, ℕ, zero, suc, List, [], ◌∷◌, ◌++◌, refl, sym, ap, ◌∙◌}
use Rattle.std.proofs.Common.{arith}
use Rattle.std.proofs.Common.{Bool, true, false, Some, None, append_assoc}
use Rattle.std.specs.Prelude.{codes, decimal, flat_map, is_some, Option}
use Rattle.std.specs.Fmt.{digits, digits_onto, digit_glyph}
use Rattle.std.specs.List.{AllByRecursion}
use Rattle.cap_bytes.specs.Number.{bytes_of}
use Rattle.cap_bytes.specs.Formats.{format_name}
use Rattle.cap_bytes.specs.declared.formats.Format.{Format}
use Rattle.cap_bytes.specs.declared.formats.Format.TheVariants.{Pcap, Pcapng}
use Rattle.cap_ip.specs.Reasons.{reason_name}
use Rattle.cap_ip.specs.declared.reasons.Reason.{Reason}
use Rattle.cap_ip.specs.declared.reasons.Reason.TheVariants as reason
use Rattle.hex.specs.Hex.{encode_lower, encode_with, lower_digits}
use lib.Utf8.{encode}
use Rattle.cap_tool.specs.Objects.{escaped_character}
use Rattle.cap_laws.specs.JsonWords.{HasPlainWords, field_words, ReportWordsPlain}
use Rattle.cap_print.specs.Facts.{Fact, Facts, Field, Value, coded, flag, group, hex, moment, number, one, word}
use Rattle.std.specs.Prelude.{map, option_map, slice_index}
use Rattle.cap_bytes.specs.declared.numbers.Order.{Order}
use Rattle.cap_bytes.specs.declared.numbers.Order.TheVariants.{Big, Little}
use Rattle.cap_commands.specs.BlockText.{kind_text, order_text}
use Rattle.cap_laws.specs.JsonLines.{LayerFits, ValueFits, fact_value, field_member, object, time_value}
use Rattle.cap_laws.specs.JsonWords.{FieldFits, ListedWordsPlain, NumbersFit, PlainLinesFit, TimeNumbersFit, word_of}
use Rattle.cap_source.specs.declared.feeds.Ending.{Ending}
use Rattle.cap_talks.specs.counts.FileLines.{counts_facts, file_facts, files_facts}
use Rattle.cap_class.specs.declared.counts.ClassCounts.{ClassCounts}
use Rattle.cap_talks.specs.declared.counts.counts.Counts.{Counts}
use Rattle.cap_talks.specs.declared.table.rows.TalkKey.{TalkKey}
use Rattle.cap_print.proofs.AddressTexts.{text-letters}
use Rattle.cap_print.specs.Addresses.{ipv6_text}
use Rattle.std.proofs.NetLemmas.Alphabet.{IsHexOrColon}
use Rattle.std.proofs.lemmas.List.Elements.{recursion_from_All}
use Rattle.cap_talks.specs.declared.table.units.Address.{Address}
use Rattle.cap_talks.specs.declared.table.units.Address.TheVariants.{Ipv4, Ipv6}
use Rattle.cap_talks.specs.declared.table.units.Endpoint.{Endpoint}
use Rattle.cap_talks.specs.table.TakenText.{frames_facts_for, joined_facts, total_facts}
use Rattle.cap_talks.specs.table.TalkLines.{address_text, end_field, ipv4_text, port_facts, talk_facts, talks_facts}
use Rattle.cap_blocks.specs.declared.blocks.Block.{Block}
use Rattle.cap_check.specs.CheckText.{check_facts, digest_end_fields, end_fields, end_format_name, known_end}
use Rattle.cap_check.specs.declared.checked.Check.{Check}
use Rattle.cap_check.specs.declared.checked.CheckEnd.{CheckEnd}
use Rattle.cap_check.specs.declared.checked.CheckEnd.TheVariants.{Opening, Reading, Refusing, Whole}
use Rattle.cap_check.specs.declared.checked.CheckLine.{CheckLine}
use Rattle.cap_check.specs.declared.checked.CheckLine.TheVariants as lines
use Rattle.cap_commands.specs.BlockText.{block_facts}
use Rattle.cap_commands.specs.DiffText.{Compared, chosen, counted_differences, cut_fact, difference_words}
use Rattle.cap_commands.specs.DiffText.{differences_of}
use Rattle.cap_line.specs.declared.jobs.Ignored.{Ignored}
use Rattle.cap_print.specs.Facts.{named}
use Rattle.cap_print.specs.declared.forms.TimeForm.{TimeForm}
use Rattle.cap_print.specs.declared.forms.TimeForm.TheVariants.{Decimal, Exact, Utc}
use Rattle.cap_laws.proofs.JsonTimes.{decimal-plain, decimal-text-plain, plain-append, utc-text-plain}
use Rattle.cap_time.specs.Time.{Printed}
use Rattle.cap_commands.specs.ListText.{facts_before}
use Rattle.cap_commands.specs.Skipping.{left_out_facts}
use Rattle.cap_digest.specs.DigestText.{digest_value}
use Rattle.cap_laws.proofs.JsonFaults.{rule-plain}
use Rattle.cap_source.specs.declared.feeds.FileEnd.{FileEnd}
use Rattle.cap_source.specs.declared.packets.Meta.{Meta}
use Rattle.cap_talks.specs.declared.table.descriptions.Description.{Description}
use Rattle.cap_talks.specs.declared.table.descriptions.Description.TheVariants as described
use Rattle.cap_talks.specs.table.Descriptions.{description_fields}
use Rattle.cap_laws.proofs.JsonLines.{Plain}
use Rattle.cap_laws.proofs.JsonStrings.{character-plain, digit-seen}
use Rattle.std.proofs.lemmas.Bool.Decides.{nat_tests}

-- the names and words of a field
abbrev PlainField : Field → Type 0
PlainField field = AllByRecursion Plain (field_words field)

all-append : (xs ys : List (List ℕ)) → AllByRecursion Plain xs → AllByRecursion Plain ys
    → AllByRecursion Plain (xs ++ ys)
all-append [] ys a b = b
all-append (x ∷ xs) ys a b = (a.0, all-append xs ys a.1 b)

fields-plain : (fields : List Field) → AllByRecursion PlainField fields
    → AllByRecursion Plain (flat_map field_words fields)
fields-plain [] a = tt
fields-plain (field ∷ fields) a =
    all-append (field_words field) (flat_map field_words fields) a.0 (fields-plain fields a.1)

line-plain : (line : Facts) → Plain line.kind → AllByRecursion PlainField line.fields → HasPlainWords line
line-plain line kind fields = (kind, fields-plain line.fields fields)

-- three fields without words, before others
plain-3 : {a b c : List ℕ} {others : Type 0} → Plain a → Plain b → Plain c → others
    → AllByRecursion Plain (a ∷ []) × (AllByRecursion Plain (b ∷ []) × (AllByRecursion Plain (c ∷ []) × others))
plain-3 a b c others = ((a, tt), ((b, tt), ((c, tt), others)))

format-plain : (format : Format) → Plain (format_name format)
unfolding encode
format-plain Pcap = refl
format-plain Pcapng = refl

reason-plain : (why : Reason) → Plain (reason_name why)
unfolding encode
reason-plain reason.LinkShort = refl
reason-plain reason.HeaderShort = refl
reason-plain reason.Version = refl
reason-plain reason.HeaderLength = refl
reason-plain reason.LengthZero = refl
reason-plain reason.LengthShort = refl
reason-plain reason.BeyondFrame = refl
reason-plain reason.FragmentEmpty = refl
reason-plain reason.FragmentBlock = refl
reason-plain reason.FragmentBeyond = refl
reason-plain reason.FragmentCut = refl
reason-plain reason.ExtensionPast = refl
reason-plain reason.ExtensionCut = refl
reason-plain reason.UdpShort = refl
reason-plain reason.UdpLength = refl
reason-plain reason.TcpShort = refl
reason-plain reason.TcpOffset = refl

-- a hexadecimal digit, and those of bytes
hex-digit-plain : (d : ℕ) → d < 16 → escaped_character (slice_index lower_digits d) ≡ slice_index lower_digits d ∷ []
hex-digit-plain d small =
    let k = digit-seen d small in
    character-plain (slice_index lower_digits d) (omega (arith, k.0)) (omega (arith, k.1)) k.2

hex-plain : (bytes : List ℕ) → AllByRecursion (λ b. b < 256) bytes → Plain (encode_lower bytes)
unfolding encode_with
hex-plain [] small = refl
hex-plain (b ∷ bytes) small = λ i.
    hex-digit-plain (b / 16) (omega (arith, small.0)) i
    ++ (hex-digit-plain (b % 16) (omega (arith, small.0)) i ++ hex-plain bytes small.1 i)

kind-plain : (kind : ℕ) → Plain (kind_text kind)
unfolding bytes_of
kind-plain kind = hex-plain (bytes_of Big 4 kind) (omega arith, (omega arith, (omega arith, (omega arith, tt))))

order-plain : (order : Order) → Plain (order_text order)
unfolding encode
order-plain Big = refl
order-plain Little = refl

dot-plain : Plain (codes ".")
unfolding encode
dot-plain = refl

ipv4-plain : (address : ℕ) → Plain (ipv4_text address)
ipv4-plain address =
    plain-append _ _ (plain-append _ _ (plain-append _ _ (plain-append _ _ (plain-append _ _ (plain-append _ _
    (decimal-plain _) dot-plain) (decimal-plain _)) dot-plain) (decimal-plain _)) dot-plain) (decimal-plain _)

-- hexadecimal digits and colons
letters-plain : (text : List ℕ) → AllByRecursion IsHexOrColon text → Plain text
letters-plain [] all = refl
letters-plain (c ∷ text) all = λ i.
    character-plain c (grind (arith, all.0)) (grind (arith, all.0)) (λ e. grind (arith, all.0, e)) i
    ++ letters-plain text all.1 i

address-plain : (address : Address) → Plain (address_text address)
address-plain (Ipv4 address) = ipv4-plain address
address-plain (Ipv6 address) =
    letters-plain (ipv6_text address) (recursion_from_All IsHexOrColon (ipv6_text address) (text-letters address))

-- ---- fields

end-plain : (at : Endpoint) (key : List ℕ) → Plain key → PlainField (end_field key at)
unfolding encode
end-plain at key plain = (plain, (refl, (address-plain at.address, ports at.port)))
  where
    ports : (port : Option ℕ) → AllByRecursion Plain
        (flat_map (λ it. it.key ∷ word_of it.value) (port_facts at.address port))
    ports None = tt
    ports (Some port) = (refl, tt)

-- what names a conversation, before other fields
ends-plain : {others : Type 0} (key : TalkKey) → others
    → AllByRecursion Plain (codes "protocol" ∷ []) × (PlainField (end_field (codes "a") key.lesser)
    × (PlainField (end_field (codes "b") key.greater) × others))
unfolding encode
ends-plain key others =
    ((refl, tt), (end-plain key.lesser (codes "a") refl, (end-plain key.greater (codes "b") refl, others)))

format-field : (format : Option Format) → AllByRecursion Plain (word_of (word (option_map format_name format)))
format-field None = tt
format-field (Some format) = (format-plain format, tt)

counted-plain : (file : ℕ) (format : Option Format) (counts : Counts) (skipped : ℕ) (was_cut : Bool)
    → HasPlainWords (counts_facts file format counts skipped was_cut)
unfolding encode
counted-plain file format counts skipped was_cut =
    line-plain (counts_facts file format counts skipped was_cut) refl
    ((refl, tt), ((refl, format-field format), (plain-3 refl refl refl (plain-3 refl refl refl ((refl, tt), tt)))))

file-plain : (file : ℕ) (counts : Counts) (ending : Option Ending) → HasPlainWords (file_facts file counts ending)
file-plain file counts None = counted-plain file counts.format counts counts.skipped false
file-plain file counts (Some ending) =
    counted-plain file (Some ending.format) counts ending.skipped (is_some ending.cut)

frames-plain : (reads : Bool) (counts : ClassCounts) → HasPlainWords (frames_facts_for reads counts)
unfolding encode
frames-plain false counts =
    line-plain (frames_facts_for false counts) refl (plain-3 refl refl refl (plain-3 refl refl refl ((refl, tt), tt)))
frames-plain true counts =
    line-plain (frames_facts_for true counts) refl (plain-3 refl refl refl (plain-3 refl refl refl ((refl, tt), tt)))

pub report-words : ReportWordsPlain
unfolding encode
report-words = record {
  left_out = λ refusal.
      line-plain (left_out_facts refusal) refl
      ((refl, tt), ((refl, tt), ((refl, tt), ((refl, (rule-plain refusal.rule, tt)), tt))));
  files = λ count. line-plain (files_facts count) refl ((refl, tt), tt);
  file = λ number counts ending. file-plain number counts ending;
  total = λ packets bytes truncated.
      line-plain (total_facts packets bytes truncated) refl (plain-3 refl refl refl tt);
  frames = frames-plain;
  joined = λ joined given_up. line-plain (joined_facts joined given_up) refl ((refl, tt), ((refl, tt), tt));
  talks = λ count. line-plain (talks_facts count) refl ((refl, tt), tt);
  talk = λ key row. line-plain (talk_facts key row) refl
      (ends-plain key ((refl, (refl, (refl, tt))), ((refl, (refl, (refl, tt))), ((refl, tt), ((refl, tt), tt)))));
}

-- ---- packets, blocks and checked files

packet-plain : (n : ℕ) (meta : Meta) (shown : List ℕ) (behind : List Field) → AllByRecursion PlainField behind
    → HasPlainWords (facts_before behind n meta shown)
unfolding encode
packet-plain n meta shown behind plain =
    line-plain (facts_before behind n meta shown) refl
    (plain-3 refl refl refl (plain-3 refl refl refl ((refl, tt), plain)))

class-plain : (it : Description) → AllByRecursion PlainField (description_fields it)
unfolding encode
class-plain described.OtherLink = ((refl, (refl, tt)), tt)
class-plain described.NotIpv4 = ((refl, (refl, tt)), tt)
class-plain described.NotIp = ((refl, (refl, tt)), tt)
class-plain described.Short = ((refl, (refl, tt)), tt)
class-plain (described.Bad why) = ((refl, (refl, tt)), ((refl, (reason-plain why, tt)), tt))
class-plain (described.Cut why) = ((refl, (refl, tt)), ((refl, (reason-plain why, tt)), tt))
class-plain (described.Fragment identification offset) = ((refl, (refl, tt)), ((refl, tt), ((refl, tt), tt)))
class-plain (described.Counted key) =
    ((refl, (refl, tt)), ends-plain key tt)

block-plain : (n : ℕ) (block : Block) → HasPlainWords (block_facts n block)
unfolding encode
block-plain n block =
    let order = order-plain block.order in
    let kind = kind-plain block.kind in
    line-plain (block_facts n block) refl
    ((refl, tt), ((refl, tt), ((refl, (order, tt)), ((refl, (kind, tt)), ((refl, tt), tt)))))

known-plain : (known : Option FileEnd) → AllByRecursion Plain (word_of (word (option_map end_format_name known)))
known-plain None = tt
known-plain (Some end) = (format-plain end.ending.format, tt)

digest-plain : (digest : Option (List ℕ)) → AllByRecursion Plain (word_of (digest_value digest))
digest-plain None = tt
digest-plain (Some digest) = tt

ending-plain : (end : CheckEnd) → AllByRecursion PlainField (end_fields end)
unfolding encode
ending-plain (Whole end) = ((refl, tt), ((refl, tt), tt))
ending-plain (Refusing refusal end) = ((refl, (refl, (refl, (refl, (rule-plain refusal.rule, tt))))), tt)
ending-plain (Reading offset end) = ((refl, (refl, tt)), tt)
ending-plain Opening = ((refl, tt), tt)

digest-ending : (check : Check) (end : CheckEnd) → AllByRecursion PlainField (digest_end_fields check end)
unfolding encode
digest-ending check (Whole end) = ((refl, digest-plain check.digest), ((refl, tt), ((refl, tt), tt)))
digest-ending check (Refusing refusal end) = ending-plain (Refusing refusal end)
digest-ending check (Reading offset end) = ending-plain (Reading offset end)
digest-ending check Opening = ending-plain Opening

check-plain : (which : CheckLine) (file : ℕ) (check : Check) → HasPlainWords (check_facts which file check)
unfolding encode
check-plain lines.Counts file check =
    let format = known-plain (known_end check.end) in
    line-plain (check_facts lines.Counts file check) refl (
      (refl, tt),
      (
        (refl, format),
        plain-3 refl refl refl (plain-3 refl refl refl (plain-3 refl refl refl (ending-plain check.end))),
      ),
    )
check-plain lines.CountsAndDigest file check =
    let format = known-plain (known_end check.end) in
    let digest = digest-plain check.digest in
    let end = ending-plain check.end in
    line-plain (check_facts lines.CountsAndDigest file check) refl (
      (refl, tt),
      (
        (refl, format),
        plain-3 refl refl refl (plain-3 refl refl refl (plain-3 refl refl refl ((refl, digest), end))),
      ),
    )
check-plain lines.Digest file check =
    line-plain (check_facts lines.Digest file check) refl ((refl, tt), digest-ending check check.end)

same-facts : ℕ → Bool → Bool → Facts
same-facts n first second = record {
  kind = codes "same";
  fields =
      one (named (codes "packets") (number n))
      ∷ one (cut_fact (codes " cut A") (codes "cut_a") first)
      ∷ one (cut_fact (codes " cut B") (codes "cut_b") second) ∷ [];
}

same-plain : (n : ℕ) (first second : Bool) → HasPlainWords (same-facts n first second)
unfolding encode same-facts
same-plain n first second =
    line-plain (same-facts n first second) refl (plain-3 refl refl refl tt)

chosen-plain : (words : List (Bool × List ℕ)) → AllByRecursion (λ word. Plain word.1) words
    → AllByRecursion Plain (chosen words)
unfolding chosen
chosen-plain [] plain = tt
chosen-plain ((true, text) ∷ words) plain = (plain.0, chosen-plain words plain.1)
chosen-plain ((false, text) ∷ words) plain = chosen-plain words plain.1

words-plain : (link time captured original bytes : Bool)
    → AllByRecursion Plain (chosen ((link, codes "link") ∷ (time, codes "time") ∷ (captured, codes "captured")
    ∷ (original, codes "original") ∷ (bytes, codes "data") ∷ []))
unfolding encode
words-plain link time captured original bytes = chosen-plain _ (refl, (refl, (refl, (refl, (refl, tt)))))

difference-plain : (ignored : Ignored) (a b : Option Compared) → AllByRecursion Plain (difference_words ignored a b)
unfolding encode
difference-plain ignored None b = (refl, tt)
difference-plain ignored (Some a) None = (refl, tt)
difference-plain ignored (Some a) (Some b) =
    let it = counted_differences ignored (differences_of a b) in
    words-plain it.link it.time it.captured it.original it.bytes

pub listed-words : ListedWordsPlain
unfolding same-facts
listed-words = record {
  packet = λ n meta shown. packet-plain n meta shown [] tt;
  classed = λ it n meta shown. packet-plain n meta shown (description_fields it) (class-plain it);
  block = block-plain;
  checked = check-plain;
  same = λ times n cuts. (
    same-facts n (is_some cuts.first) (is_some cuts.second),
    refl,
    same-plain n (is_some cuts.first) (is_some cuts.second),
  );
  differ = difference-plain;
}

-- ---- fitting

time-fits : {A : Type 0} (times : TimeForm) (fits : A → Type 0) (time : Printed) → TimeNumbersFit times time
    → LayerFits (LayerFits fits) (time_value times time)
time-fits Exact fits time small = (small.0, (small.1, (small.2, tt)))
time-fits Decimal fits time small = decimal-text-plain time small.1
time-fits Utc fits time small = utc-text-plain time small.1

value-fits : {A : Type 0} (times : TimeForm) (fits : A → Type 0) (value : Value) → AllByRecursion Plain (word_of value)
    → NumbersFit times value → LayerFits (LayerFits fits) (fact_value times value)
value-fits times fits (number n) plain small = small
value-fits times fits (coded text n) plain small = small
value-fits times fits (word None) plain small = tt
value-fits times fits (word (Some known)) plain small = plain.0
value-fits times fits (moment None) plain small = tt
value-fits times fits (moment (Some time)) plain small = time-fits times fits time small
value-fits times fits (hex bytes) plain small = hex-plain bytes small
value-fits times fits (flag is_so) plain small = tt

left-of : (xs ys : List (List ℕ)) → AllByRecursion Plain (xs ++ ys) → AllByRecursion Plain xs
left-of [] ys a = tt
left-of (x ∷ xs) ys a = (a.0, left-of xs ys a.1)

right-of : (xs ys : List (List ℕ)) → AllByRecursion Plain (xs ++ ys) → AllByRecursion Plain ys
right-of [] ys a = a
right-of (x ∷ xs) ys a = right-of xs ys a.1

facts-fit : (times : TimeForm) (facts : List Fact)
    → AllByRecursion Plain (flat_map (λ it. it.key ∷ word_of it.value) facts)
    → AllByRecursion (λ it. NumbersFit times it.value) facts
    → ValueFits 3 (object (map (λ it. (it.key, fact_value times it.value)) facts))
facts-fit times [] plain small = tt
facts-fit times (fact ∷ facts) plain small =
    let behind = flat_map (λ it. it.key ∷ word_of it.value) facts in (
      (plain.0, value-fits times (ValueFits 0) fact.value (left-of (word_of fact.value) behind plain.1) small.0),
      facts-fit times facts (right-of (word_of fact.value) behind plain.1) small.1,
    )

field-fits : (times : TimeForm) (field : Field) → PlainField field → FieldFits times field
    → Plain (field_member times field).0 × ValueFits 3 (field_member times field).1
field-fits times (one fact) plain small = (plain.0, value-fits times (ValueFits 1) fact.value plain.1 small)
field-fits times (group key fact facts) plain small = (plain.0, facts-fit times (fact ∷ facts) plain.1 small)

fields-fit : (times : TimeForm) (fields : List Field) → AllByRecursion Plain (flat_map field_words fields)
    → AllByRecursion (FieldFits times) fields → ValueFits 4 (object (map (field_member times) fields))
fields-fit times [] plain small = tt
fields-fit times (field ∷ fields) plain small =
    let behind = flat_map field_words fields in (
      field-fits times field (left-of (field_words field) behind plain) small.0,
      fields-fit times fields (right-of (field_words field) behind plain) small.1,
    )

pub plain-lines-fit : PlainLinesFit
unfolding encode
plain-lines-fit times line plain small = ((refl, plain.0), fields-fit times line.fields plain.1 small)
