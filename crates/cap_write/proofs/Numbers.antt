-- What refuses a packet, and what doesn't.
use Rattle.std.proofs.Common.{◌≡◌, ℕ, List, [], ◌∷◌, Bool, true, false, Some, None, IsSome, Result, Ok, Err, ap}
use Rattle.std.proofs.Common.{arith}
use Rattle.std.specs.List.{position_or_len}
use Rattle.indexmap.specs.IndexSet.{insert_key}
use Rattle.cap_bytes.specs.declared.faults.Fault.{Fault}
use Rattle.cap_bytes.specs.declared.faults.Fault.TheVariants.{Refused, Memory}
use Rattle.cap_bytes.specs.declared.faults.Rule.TheVariants.{NoTime, InterfaceLimit}
use Rattle.cap_source.specs.declared.packets.Meta.{Meta}
use Rattle.cap_write.specs.Numbering.{Origin, Origins, own, shared, origin_of, is_origin, description_of}
use Rattle.cap_write.specs.Numbering.{is_description}
use Rattle.cap_write.specs.Numbering.{Description, is_full, write_fault}
use Rattle.cap_write.specs.inner.Interfaces.{is_beyond, is_leading, Numbers, NumbersKey}

-- the second is that of the number of interfaces
write_fault-full : (origins : Origins) (meta : Meta) → IsSome meta.units → is_full origins meta ≡ true
    → write_fault origins meta ≡ Some InterfaceLimit
unfolding write_fault
write_fault-full origins meta known full = cc

write_fault-none : (origins : Origins) (meta : Meta) → IsSome meta.units → is_full origins meta ≡ false
    → write_fault origins meta ≡ None
unfolding write_fault
write_fault-none origins meta known full = cc

-- the first is that of a packet without a time
pub write_fault-untimed : (origins : Origins) (meta : Meta) → meta.units ≡ None
    → write_fault origins meta ≡ Some NoTime
unfolding write_fault
write_fault-untimed origins meta is = grind arith

-- the first that was used has number 0, and isn't beyond them
pub key-first : {K : Type 0} (same : K → K → Bool) (keys : List K) (key : K) → is_leading same keys key ≡ true
    → (is_beyond same keys key ≡ false) × (0 ≡ position_or_len (same key) keys) × (keys ≡ insert_key same keys key)
key-first same [] key first = grind arith
key-first same (leading ∷ keys) key first = grind arith

-- a packet's number is that of what tells its interface from others
pub Numbers-own : (meta : Meta) (origins after : List Origin) (result : Result ℕ Fault) → IsSome meta.units
    → NumbersKey is_origin (origin_of meta) meta origins result after
    → Numbers meta (own origins) result (own after)
Numbers-own meta origins after (Ok number) known h =
    (write_fault-none (own origins) meta known h.0, h.1, ap own h.2)
Numbers-own meta origins after (Err (Refused refusal)) known h =
    (InterfaceLimit, write_fault-full (own origins) meta known h.0, h.1, ap own h.2)
Numbers-own meta origins after (Err Memory) known h =
    (ap own h.0, write_fault-none (own origins) meta known h.1)
Numbers-own meta origins after result known h = grind arith

pub Numbers-shared : (meta : Meta) (descriptions after : List Description) (result : Result ℕ Fault)
    → IsSome meta.units
    → NumbersKey is_description (description_of meta.interface) meta descriptions result after
    → Numbers meta (shared descriptions) result (shared after)
Numbers-shared meta descriptions after (Ok number) known h =
    (write_fault-none (shared descriptions) meta known h.0, h.1, ap shared h.2)
Numbers-shared meta descriptions after (Err (Refused refusal)) known h =
    (InterfaceLimit, write_fault-full (shared descriptions) meta known h.0, h.1, ap shared h.2)
Numbers-shared meta descriptions after (Err Memory) known h =
    (ap shared h.0, write_fault-none (shared descriptions) meta known h.1)
Numbers-shared meta descriptions after result known h = grind arith
