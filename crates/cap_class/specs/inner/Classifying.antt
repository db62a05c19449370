-- What a packet is by itself, as it is classified.
use Rattle.std.specs.Prelude.{◌≡◌, length, IsSome, ⊤}
use Rattle.cap_class.specs.Taken.{Classification, plain, datagram, fragment}
use Rattle.cap_class.specs.declared.classifying.Classified.{Classified}
use Rattle.cap_class.specs.declared.classifying.Classified.TheVariants as kinds
use Rattle.cap_join.specs.Fragments.{piece_of}
use Rattle.cap_join.specs.declared.datagrams.Stamped.{Stamped}

-- what a packet is, whose frame is stamped so
abbrev pub classification_of : Classified → Stamped → Classification
classification_of (kinds.Plain c) stamped = plain c
classification_of (kinds.Datagram header captured) stamped = datagram header captured.now
classification_of (kinds.Fragment header bytes) stamped = fragment (piece_of header bytes.now stamped)

-- A fragment comes with all of its data.
abbrev pub IsAll : Classified → Type 0
IsAll (kinds.Plain c) = ⊤
IsAll (kinds.Datagram header captured) = ⊤
IsAll (kinds.Fragment header bytes) = IsSome header.fragment × (length bytes.now ≡ header.data_length)
