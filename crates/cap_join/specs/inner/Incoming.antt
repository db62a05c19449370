-- A fragment on its way into its group.
use Rattle.std.specs.Prelude.{ℕ}
use Rattle.cap_ip.specs.declared.headers.Key.{Key}
use Rattle.cap_join.specs.Fragments.{Piece, piece_of}
use Rattle.cap_join.specs.declared.datagrams.Incoming.{Incoming}

-- the fragment that it is
abbrev pub piece_in : Incoming → Piece
piece_in incoming = piece_of incoming.header.now incoming.data.now incoming.stamped

-- the key of its datagram
abbrev pub key_in : Incoming → Key
key_in incoming = incoming.header.now.key

-- its frame's place
abbrev pub place_in : Incoming → ℕ
place_in incoming = incoming.stamped.place
