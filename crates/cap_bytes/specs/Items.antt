-- What comes of a file that is read piece by piece: record by record, or block by block.
use Rattle.std.specs.Prelude.{◌≡◌, ◌==◌, ◌&&◌, ◌+◌, ℕ, zero, suc, Bool, true, IsTrue, if◌then◌else◌, List, [], ◌∷◌}
use Rattle.std.specs.Prelude.{length, drop, Option, Some, None, option_map, Result, Ok, Err, ⊤}
use Rattle.cap_bytes.specs.declared.faults.Fault.{Fault}
use Rattle.cap_bytes.specs.declared.faults.Fault.TheVariants.{Refused, Read, Write, Memory}
use Rattle.cap_bytes.specs.declared.faults.Rule.{Rule}
use Rattle.cap_bytes.specs.declared.faults.Rule.TheVariants.{Cut}
use Rattle.cap_bytes.specs.declared.faults.Tail.{Tail}
use Rattle.cap_bytes.specs.declared.faults.Tail.TheVariants.{Accept}
use Rattle.cap_bytes.specs.declared.stops.CutRest.{CutRest}
use Rattle.cap_bytes.specs.declared.stops.Stop.{Stop}
use Rattle.cap_bytes.specs.declared.stops.Stop.TheVariants as stops

-- What ends the pieces if a rule is broken by the rest of a file, of that size: a rest that is cut is dropped if that
-- is asked for, but only inside a file, after what it begins with.
abbrev pub stop_by : Bool → Tail → ℕ → ℕ → ℕ → Rule → Stop
stop_by true Accept file offset size Cut = stops.Cut (record { offset = offset; size = size })
stop_by inside tail file offset size rule = stops.Refused (record { file = file; offset = offset; rule = rule })

-- What ends them at some bytes, which begin at `offset` and meet that condition, if one: inside a file no bytes are
-- left, or a rule is broken.
unfoldable pub stop_where : Bool → Tail → ℕ → ℕ → List ℕ → Option Rule → Option Stop
stop_where inside tail file offset bytes fault =
    if inside && (length bytes == 0) then Some stops.End else
    option_map (stop_by inside tail file offset (length bytes)) fault

-- What may end the pieces of the bytes from `offset` on: they end, or a rest that is cut is dropped, only inside a
-- file; and such a rest is dropped if that is asked for, and refused if it isn't.
abbrev pub IsStopAt : Bool → Tail → ℕ → ℕ → Stop → Type 0
IsStopAt inside tail file offset stops.End = IsTrue inside
IsStopAt inside tail file offset (stops.Cut rest) = IsTrue inside × (tail ≡ Accept) × (rest.offset ≡ offset)
IsStopAt inside tail file offset (stops.Refused refusal) =
    (refusal.file ≡ file) × (refusal.offset ≡ offset) × (IsTrue inside → tail ≡ Accept → refusal.rule ≡ Cut → ⊥)

-- The pieces end without a refusal.
abbrev pub IsEnd : Stop → Type 0
IsEnd stops.End = ⊤
IsEnd (stops.Cut rest) = ⊤
IsEnd (stops.Refused refusal) = ⊥

-- the rest that is dropped there, if it is cut
abbrev pub cut_of : Stop → Option CutRest
cut_of stops.End = None
cut_of (stops.Cut rest) = Some rest
cut_of (stops.Refused refusal) = None

-- the same, if something has ended the pieces
abbrev pub cut_by : Option Stop → Option CutRest
cut_by (Some stop) = cut_of stop
cut_by None = None

-- what a call for a piece returns there
abbrev pub stop_answer : {P : Type 0} → Stop → Result (Option P) Fault
stop_answer stops.End = Ok None
stop_answer (stops.Cut rest) = Ok None
stop_answer (stops.Refused refusal) = Err (Refused refusal)

-- what comes of a file: its pieces with their bytes, and in the end what ended them
pub data PieceItem (P : Type 0) : Type 0 where
  given : P → List ℕ → PieceItem P
  stopped : Stop → PieceItem P

-- what comes if something ends the pieces, and if nothing does
abbrev pub item_or : {P : Type 0} → Option Stop → PieceItem P → List (PieceItem P) → List (PieceItem P)
item_or (Some stop) item rest = stopped stop ∷ []
item_or None item rest = item ∷ rest

-- How the files of a format go on, by what is known of one: what ends the pieces at some bytes, which begin at an
-- offset, if anything does; and if nothing does, the piece at their front, the bytes that come with it, how many it
-- takes, and what is known after it.
pub record PieceFormat (K P : Type 0) : Type 0 where
  pub stop : K → Tail → ℕ → ℕ → List ℕ → Option Stop
  pub piece : K → ℕ → List ℕ → P
  pub lent : K → List ℕ → List ℕ
  pub size : K → List ℕ → ℕ
  pub next : K → List ℕ → K

-- the items of some bytes that begin at `offset`, as far as `fuel` goes
unfoldable pub piece_items_by : {K P : Type 0} → PieceFormat K P → ℕ → K → Tail → ℕ → ℕ → List ℕ → List (PieceItem P)
piece_items_by format zero known tail file offset bytes = []
piece_items_by format (suc fuel) known tail file offset bytes =
    let size = format.size known bytes in
    item_or (format.stop known tail file offset bytes)
    (given (format.piece known offset bytes) (format.lent known bytes))
    (piece_items_by format fuel (format.next known bytes) tail file (offset + size) (drop size bytes))

-- the items of some bytes that begin at `offset`
unfoldable pub piece_items : {K P : Type 0} → PieceFormat K P → K → Tail → ℕ → ℕ → List ℕ → List (PieceItem P)
piece_items format known tail file offset bytes = piece_items_by format (suc (length bytes)) known tail file offset
    bytes

-- the items to come of a reader: what ended the pieces comes again and again
abbrev pub items_by_stop : {P : Type 0} → Option Stop → List (PieceItem P) → List (PieceItem P)
items_by_stop (Some stop) items = stopped stop ∷ []
items_by_stop None items = items

-- What a call for a piece does to them, if a piece is taken from them in this way.
abbrev pub TakesPiece : {P : Type 0} → (P → Type 0) → List (PieceItem P) → Result (Option P) Fault
    → List (PieceItem P) → Type 0
TakesPiece Takes old (Ok (Some piece)) new = Takes piece
TakesPiece Takes old (Ok None) new = (stop : Stop) × IsEnd stop × (old ≡ stopped stop ∷ []) × (new ≡ old)
TakesPiece Takes old (Err (Refused refusal)) new = (old ≡ stopped (stops.Refused refusal) ∷ []) × (new ≡ old)
TakesPiece Takes old (Err (Read file offset)) new = ⊤
TakesPiece Takes old (Err Memory) new = new ≡ old
TakesPiece Takes old (Err Write) new = ⊥
