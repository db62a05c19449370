-- Why a capture file is a lawful feed.
use Rattle.std.proofs.Common.{◌≡◌, ◌≤◌, ◌+◌, ◌^◌, ℕ, false, true, IsTrue, IfSome, List, [], ◌∷◌, length, drop, Option}
use Rattle.std.proofs.Common.{Some, None, refl, sym, subst, arith, length-drop}
use Rattle.std.proofs.lemmas.List.{length-take-le}
use Rattle.std.proofs.lemmas.Bool.Decides.{nat_tests}
use Rattle.cap_source.specs.Feed.{HasFile, Leads, IfPacket, IsPacketOf, IsRefusedOf, IsFeed}
use Rattle.cap_source.specs.inner.FileState.{FileState, IsSoundFile, file_feed, items_from_next, lent_end, lent_length}
use Rattle.cap_source.specs.inner.FileState.{captured_of}
use Rattle.cap_source.specs.inner.FileState.{behind_of}
use Rattle.cap_source.specs.inner.FileState.{next_file, part_of, next_frame, next_head, is_unbroken, break_at}
use Rattle.cap_source.specs.declared.readers.Peeked.{Peeked}
use Rattle.cap_source.specs.declared.readers.Peeked.TheVariants as peeks

has_file : (file n : ℕ) → n ≡ file → HasFile (file ∷ []) n
has_file file n is = grind (arith, nat_tests)

-- the file is the only one
pub has_file_alone : (files : List ℕ) (n : ℕ) → files ≡ n ∷ [] → HasFile files n
has_file_alone files n is = subst (λ (l : List ℕ). HasFile l n) (sym is) (has_file n n refl)

leads : (next : Option Peeked) (frame : List ℕ) (rest : _)
    → Leads (next_head next) frame (items_from_next next frame rest)
leads None frame rest = tt
leads (Some (peeks.Packet meta place)) frame rest = refl
leads (Some (peeks.Refused refusal ending)) frame rest = refl
leads (Some (peeks.End ending)) frame rest = refl

part_size : (lent : Option (List ℕ)) (place captured : ℕ) → place + captured + 1 ≤ lent_length lent
    → length (part_of lent place captured) ≡ captured
part_size None place captured h = absurd (omega (arith, h))
part_size (Some bytes) place captured h = length-take-le captured (drop place bytes)
    (omega (arith, h, length-drop place bytes))

packet : (state : FileState) (next : Option Peeked) → next_file next state.file ≡ state.file
    → lent_end next ≤ lent_length state.lent → captured_of next ≤ 262144
    → behind_of next ≤ state.offset → state.offset ≤ 2 ^ 40
    → IfPacket (next_head next) (λ meta. IsPacketOf (file_feed state next) meta)
packet state None own lent captured behind limit = tt
packet state (Some (peeks.Packet meta place)) own lent captured behind limit = record {
  file = has_file state.file meta.file own;
  captured = part_size state.lent place meta.captured lent;
  limit = captured;
  place = omega arith;
  offset = omega (arith, behind, limit);
  left = omega (arith, behind, limit);
}
packet state (Some (peeks.Refused refusal ending)) own lent captured behind limit = tt
packet state (Some (peeks.End ending)) own lent captured behind limit = tt

refusal : (state : FileState) (next : Option Peeked) → next_file next state.file ≡ state.file
    → IsRefusedOf (state.file ∷ []) (next_head next)
refusal state None own = tt
refusal state (Some (peeks.Packet meta place)) own = tt
refusal state (Some (peeks.Refused r ending)) own = has_file state.file r.file own
refusal state (Some (peeks.End ending)) own = tt

whole : (next : Option Peeked) (file : ℕ) (broken : Option ℕ) → IsTrue (is_unbroken next broken)
    → IfSome (next_head next) (λ head. break_at file broken ≡ None)
whole None file broken is = tt
whole (Some next) file None is = refl
whole (Some next) file (Some first) is = absurd (let e : false ≡ true = is in cc)

pub captures_lawful : (state : FileState) (next : Option Peeked) → IsSoundFile state next
    → IsFeed (file_feed state next)
captures_lawful state next sound = record {
  leads = λ t. leads next (next_frame next state.lent) state.items;
  packet = packet state next sound.is.file sound.is.lent sound.is.captured sound.is.behind sound.limit;
  refusal = refusal state next sound.is.file;
  whole = whole next state.file state.broken sound.whole;
  most = omega arith;
  window = sound.held;
  interfaces = sound.interfaces;
}
