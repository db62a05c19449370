-- The packets that are written of a list, each with the number of its interface, and what refuses a packet.
use Rattle.std.specs.Prelude.{◌==◌, ◌&&◌, not, ℕ, nat_le, if◌then◌else◌, Bool, List, [], ◌∷◌, length, Option, Some}
use Rattle.std.specs.Prelude.{None, is_none, unwrap_or, option_map}
use Rattle.std.specs.List.{list_any, position_or_len}
use Rattle.std.specs.Ordering.{int_eq}
use Rattle.indexmap.specs.IndexSet.{insert_key}
use Rattle.cap_bytes.specs.declared.faults.Refusal.{Refusal}
use Rattle.cap_bytes.specs.declared.faults.Rule.{Rule}
use Rattle.cap_bytes.specs.declared.faults.Rule.TheVariants.{NoTime, InterfaceLimit}
use Rattle.cap_source.specs.Feed.{Item, packet, refused}
use Rattle.cap_source.specs.declared.packets.Meta.{Meta}
use Rattle.cap_time.specs.Resolution.{code_of}
use Rattle.cap_time.specs.declared.resolutions.Interface.{Interface}
use Rattle.cap_write.specs.declared.interfaces.Description.{Description as Described}

-- An interface's origin: the number of its file, and how many interface blocks of the file stand before its own.
abbrev pub Origin : Type 0
Origin = ℕ × ℕ

abbrev pub origin_of : Meta → Origin
origin_of meta = (meta.file, meta.instance)

abbrev pub is_origin : Origin → Origin → Bool
is_origin a b = (a.0 == b.0) && (a.1 == b.1)

-- The description of an interface: its link, its snaplen, the code of its resolution and its offset
-- (draft-ietf-opsawg-pcapng, 4.2). Interfaces are equal if their descriptions are.
abbrev pub Description : Type 0
Description = Described

abbrev pub description_of : Interface → Description
description_of interface =
    record {
      offset = interface.offset;
      snaplen = interface.snaplen;
      link = interface.link;
      resolution = code_of interface.resolution;
    }

abbrev pub is_description : Description → Description → Bool
is_description a b =
    int_eq a.offset b.offset && ((a.snaplen == b.snaplen) && ((a.link == b.link) && (a.resolution == b.resolution)))

-- The interfaces that were described before, in the order of their first use. Either each file has its own, and their
-- origins tell them apart; or equal interfaces are shared, and their descriptions tell them apart.
pub data Origins : Type 0 where
  own : List Origin → Origins
  shared : List Description → Origins

-- how many interfaces were described
abbrev pub count_of : Origins → ℕ
count_of (own origins) = length origins
count_of (shared descriptions) = length descriptions

-- A packet as it is written: the number of its interface, the interface, its time in the interface's
-- units, how many bytes were captured of it, and how many it had, and the captured bytes.
pub record Numbered : Type 0 where
  pub number : ℕ
  pub interface : Interface
  pub units : ℕ
  pub captured : ℕ
  pub original : ℕ
  pub frame : List ℕ

-- whether a packet's interface was described
abbrev pub is_used : Origins → Meta → Bool
is_used (own origins) meta = list_any (is_origin (origin_of meta)) origins
is_used (shared descriptions) meta = list_any (is_description (description_of meta.interface)) descriptions

-- Interfaces are numbered from 0 in the order of their first use: the number of a packet's, after those
-- of `origins` were used.
abbrev pub number_of : Origins → Meta → ℕ
number_of (own origins) meta = position_or_len (is_origin (origin_of meta)) origins
number_of (shared descriptions) meta = position_or_len (is_description (description_of meta.interface)) descriptions

abbrev pub with_origin : Origins → Meta → Origins
with_origin (own origins) meta = own (insert_key is_origin origins (origin_of meta))
with_origin (shared descriptions) meta =
    shared (insert_key is_description descriptions (description_of meta.interface))

-- whether a packet would need the 1,025th interface
abbrev pub is_full : Origins → Meta → Bool
is_full origins meta = nat_le 1024 (count_of origins) && not (is_used origins meta)

-- Why a packet isn't written after those interfaces were used: it has no time, or its interface would be
-- the 1,025th.
unfoldable pub write_fault : Origins → Meta → Option Rule
write_fault origins meta =
    if is_none meta.units then Some NoTime else
    if is_full origins meta then Some InterfaceLimit else None

abbrev pub numbered_of : Origins → Meta → List ℕ → Numbered
numbered_of origins meta frame =
    record {
      number = number_of origins meta;
      interface = meta.interface;
      units = unwrap_or meta.units 0;
      captured = meta.captured;
      original = meta.original;
      frame = frame;
    }

-- a packet and those after it, unless it is refused
abbrev pub numbered_or : Option Rule → Numbered → List Numbered → List Numbered
numbered_or (Some rule) first rest = []
numbered_or None first rest = first ∷ rest

-- The packets that are written of a list, if those interfaces were used before: all up to the first
-- that is refused, or to the refusal that ends the list.
unfoldable pub numbered : Origins → List Item → List Numbered
numbered origins [] = []
numbered origins (packet meta frame ∷ items) =
    numbered_or (write_fault origins meta) (numbered_of origins meta frame) (numbered (with_origin origins meta) items)
numbered origins (refused refusal ∷ items) = []

-- the refusal of a packet
abbrev pub refusal_at : Meta → Rule → Refusal
refusal_at meta rule = record { file = meta.file; offset = meta.offset; rule = rule }

abbrev pub refusal_by : Meta → Option Rule → Option Refusal
refusal_by meta fault = option_map (refusal_at meta) fault

-- the refusal after those packets, if there is one
abbrev pub refusal_or : Option Rule → Meta → Option Refusal → Option Refusal
refusal_or (Some rule) meta rest = Some (refusal_at meta rule)
refusal_or None meta rest = rest

unfoldable pub refusal_in : Origins → List Item → Option Refusal
refusal_in origins [] = None
refusal_in origins (packet meta frame ∷ items) =
    refusal_or (write_fault origins meta) meta (refusal_in (with_origin origins meta) items)
refusal_in origins (refused refusal ∷ items) = Some refusal
