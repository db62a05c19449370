-- What an IPv4 header says (RFC 791, 3.1 and 3.2).
use Rattle.std.specs.Prelude.{◌≡◌, ℕ, Option, ◌<◌, ◌≤◌, ◌+◌, ◌%◌, IsTrue, IfSome}
use Rattle.cap_ip.specs.declared.headers.Key.{Key}
use Rattle.cap_ip.specs.declared.headers.Fragment.{Fragment}

-- the fields of a header, and where its fragment lies, if it is of one
pub record HeaderFields : Type 0 where
  pub key : Key
  pub service : ℕ
  pub time_to_live : ℕ
  pub data_length : ℕ
  pub fragment : Option Fragment

-- a fragment of a datagram: some data that begins at a whole block of 8 bytes, ends at one if more
-- follow, and lies in the 65,515 bytes that a datagram's data can have (RFC 791, 3.1)
pub record IsPiece (data_length : ℕ) (f : Fragment) : Type 0 where
  pub all : f.length ≡ data_length
  pub some : 0 < f.length
  pub begins : f.start % 8 ≡ 0
  pub ends : IsTrue f.more → f.length % 8 ≡ 0
  pub within : f.start + f.length ≤ 65515

-- what every header says that was read
pub record IsWellFormed (header : HeaderFields) : Type 0 where
  pub bounded : header.data_length ≤ 65515
  pub piece : IfSome header.fragment (IsPiece header.data_length)
