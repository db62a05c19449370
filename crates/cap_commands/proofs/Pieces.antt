-- The bytes of a packet, written as digits in pieces.
use Rattle.std.proofs.Common.{◌≡◌, ◌<◌, ℕ, nat_cmp, List, [], ◌∷◌, ◌++◌, codes, decimal, length, take, drop}
use Rattle.std.proofs.Common.{IsTrue, Result}
use Rattle.std.proofs.Common.{Ok, Err, refl, sym, ap, ◌∙◌, subst, arith, append_assoc, append-nil, length-append}
use Rattle.std.proofs.Common.{take-append-drop, take_at, drop_at}
use Rattle.std.proofs.lemmas.Grind.{common_steps}
use Rattle.std.specs.Ordering.{ord_min}
use Rattle.hex.specs.Hex.{encode_lower, encode_with, lower_digits}
use Rattle.cap_bytes.proofs.Putting.{Putting, Putting-front, Putting-more}
use Rattle.cap_bytes.specs.Device.{Puts, Writer}
use Rattle.cap_bytes.specs.declared.faults.Fault.{Fault}
use Rattle.cap_bytes.specs.Printing.{PrintsFront}
use Rattle.cap_print.specs.Times.{time_json_in, time_text_in}
use Rattle.cap_print.specs.declared.forms.Form.{Form}
use Rattle.cap_print.specs.declared.forms.Form.TheVariants.{Json, Text}
use Rattle.cap_print.specs.inner.Parts.{quote_in}
use Rattle.cap_source.specs.declared.packets.Meta.{Meta}
use Rattle.cap_commands.specs.ListText.{printed_in}
use Rattle.cap_commands.specs.inner.PacketParts.{behind_in, packet_head, packet_rest, packet_text}
use Rattle.cap_commands.specs.declared.lines.Behind.{Behind}

encoded-append : (digits xs ys : List ℕ)
    → encode_with digits (xs ++ ys) ≡ encode_with digits xs ++ encode_with digits ys
unfolding encode_with
encoded-append digits [] ys = refl
encoded-append digits (x ∷ xs) ys = cc (encoded-append digits xs ys)

-- a piece of the digits, and what is left
pub rest-piece : (form : Form) (behind : Behind) (piece others : List ℕ)
    → packet_rest form behind (piece ++ others) ≡ encode_lower piece ++ packet_rest form behind others
rest-piece form behind piece others =
    let end = quote_in form (behind_in form behind) in
    ap (λ l. l ++ end) (encoded-append lower_digits piece others)
    ∙ append_assoc (encode_lower piece) (encode_lower others) end

-- some parts of a text, one after the other, and then the rest
abbrev pub joined : List (List ℕ) → List ℕ → List ℕ
joined [] rest = rest
joined (part ∷ parts) rest = part ++ joined parts rest

pub joined-more : (parts : List (List ℕ)) (rest more : List ℕ) → joined parts (rest ++ more) ≡ joined parts rest ++ more
joined-more [] rest more = refl
joined-more (part ∷ parts) rest more = ap (λ l. part ++ l) (joined-more parts rest more)
    ∙ sym (append_assoc part (joined parts rest) more)

-- the two parts are a packet's line, if it shows some bytes
pub packet-parts : (form : Form) (behind : Behind) (n : ℕ) (meta : Meta) (shown : List ℕ) → 0 < length shown
    → packet_head form n meta ++ packet_rest form behind shown ≡ packet_text form behind n meta shown
packet-parts form behind n meta [] some = absurd (omega (arith, some))
packet-parts (Text times) behind n meta (byte ∷ bytes) some =
    let parts =
    codes "packet" ∷ codes " " ∷ decimal n ∷ codes " offset " ∷ decimal meta.offset ∷ codes " time "
    ∷ time_text_in times (printed_in meta.units meta.interface) ∷ codes " captured " ∷ decimal meta.captured
    ∷ codes " original " ∷ decimal meta.original ∷ codes " link " ∷ decimal meta.interface.link ∷ [] in
    sym (joined-more parts (codes " data ") (packet_rest (Text times) behind (byte ∷ bytes)))
packet-parts (Json times) behind n meta (byte ∷ bytes) some =
    let digits = encode_lower (byte ∷ bytes) in
    let parts =
    codes "{\"type\":\"packet\",\"n\":" ∷ decimal n ∷ codes ",\"offset\":" ∷ decimal meta.offset
    ∷ codes ",\"time\":" ∷ time_json_in times (printed_in meta.units meta.interface) ∷ codes ",\"captured\":"
    ∷ decimal meta.captured ∷ codes ",\"original\":" ∷ decimal meta.original ∷ codes ",\"link\":"
    ∷ decimal meta.interface.link ∷ [] in
    sym (joined-more parts (codes ",\"data\":\"") (packet_rest (Json times) behind (byte ∷ bytes)))
    ∙ ap (λ l. joined parts (codes ",\"data\":\"" ++ l))
    (sym (append_assoc digits (codes "\"") (behind_in (Json times) behind)))

-- the first bytes, as many as there are of those that are wanted
pub min-taken : (n : ℕ) (bytes : List ℕ) → take (ord_min nat_cmp (length bytes) n) bytes ≡ take n bytes
min-taken n bytes = grind (arith, common_steps)

-- a line more of a text is written
pub Putting-line : (old mid new : Writer) (text rest line behind : List ℕ)
    → Putting old mid text rest → rest ≡ line ++ behind
    → (IsTrue mid.told → new.held ≡ mid.held ++ line)
    → (IsTrue mid.told → IsTrue new.told) → (IsTrue new.can_fail → IsTrue mid.can_fail)
    → Putting old new text behind
Putting-line old mid new text rest line behind p split wrote told cannot =
    subst (Putting old new text) (ap (drop (length line)) split ∙ drop_at line behind (length line) refl)
    (Putting-more old mid new text rest (length line) p
    (omega (arith, ap length split, length-append line behind))
    (λ w. wrote w ∙ ap (λ l. mid.held ++ l) (sym (ap (take (length line)) split
    ∙ take_at line behind (length line) refl)))
    told cannot)

-- the last line of a text is written, or a prefix of it
pub Puts-last : (old mid : Writer) (held text line : List ℕ) (result : Result (Unit {0}) Fault)
    → Putting old mid text line → IsTrue old.told → Puts mid.held result held line → Puts old.held result held text
Puts-last old mid held text line (Ok u) p t wrote =
    wrote ∙ (ap (λ l. l ++ line) (p.written t) ∙ (append_assoc old.held (take p.at text) line
    ∙ ap (λ l. old.held ++ l) (ap (λ l. take p.at text ++ l) p.left ∙ take-append-drop p.at text)))
Puts-last old mid held text line (Err fault) p t wrote =
    Putting-front old mid held text line [] wrote.0 (subst (Putting old mid text) (sym (append-nil line)) p) t wrote.1

-- what a call that answers a fault has written
pub Puts-err : (old new text : List ℕ) (result : Result (Unit {0}) Fault) (fault : Fault) → result ≡ Err fault
    → PrintsFront text old new → Puts old result new text
Puts-err old new text result fault is front = subst (λ r. Puts old r new text) (sym is) front
