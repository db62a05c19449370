-- Tagged frames, as they are put together, and what they carry.
use Rattle.std.specs.Prelude.{◌≡◌, ℕ, List, [], ◌∷◌, ◌++◌, ◌/◌, ◌%◌, true, false, All, length}
use Rattle.cap_link.specs.Tags.{is_tag, payload}
use Rattle.cap_link.specs.Links.{network_of}

-- a tag: its protocol identifier and its control information, two bytes each (IEEE 802.1Q, 9.3)
pub record Tag : Type 0 where
  pub protocol : ℕ
  pub control : ℕ

-- some tags, a type and what comes after it
unfoldable pub tagged : List Tag → ℕ → List ℕ → List ℕ
tagged [] kind bytes = (kind / 256) ∷ (kind % 256) ∷ bytes
tagged (tag ∷ tags) kind bytes =
    (tag.protocol / 256) ∷ (tag.protocol % 256) ∷ (tag.control / 256) ∷ (tag.control % 256) ∷ tagged tags kind bytes

-- an Ethernet frame of two addresses, any number of tags, a type that announces none, and some bytes
-- carries what the type says of these bytes
abbrev pub TagsLaw : Type 0
TagsLaw =
    (addresses : List ℕ) (tags : List Tag) (kind : ℕ) (bytes : List ℕ) (original : ℕ) → length addresses ≡ 12
    → All (λ tag. is_tag tag.protocol ≡ true) tags → is_tag kind ≡ false
    → network_of 1 (addresses ++ tagged tags kind bytes) original ≡ payload kind bytes
