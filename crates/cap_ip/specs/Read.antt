-- How an IPv4 header is read from the bytes of a packet (RFC 791, 3.1).
use Rattle.std.specs.Prelude.{◌≡◌, ℕ, List, Bool, Option, Some, None, ◌+◌, ◌≤◌, ◌%◌, ◌==◌, ◌||◌, ◌&&◌, length, take}
use Rattle.std.specs.Prelude.{drop, nat_lt, not, IsSome, if◌then◌else◌, ⊤}
use Rattle.cap_ip.specs.declared.headers.Key.{Key}
use Rattle.cap_ip.specs.declared.headers.Fragment.{Fragment}
use Rattle.cap_ip.specs.declared.headers.HeaderOr.{HeaderOr}
use Rattle.cap_ip.specs.declared.headers.HeaderOr.TheVariants as variant
use Rattle.cap_ip.specs.Fields.{version, header_length, service, total_length, identification, more_fragments, offset}
use Rattle.cap_ip.specs.Fields.{time_to_live, protocol, source, destination, data_length, is_fragment}
use Rattle.cap_ip.specs.Header.{HeaderFields, IsWellFormed}

-- what reading returns: a header with the captured part of its data, or that it is bad or cut
pub data Reading : Type 0 where
  found : HeaderFields → List ℕ → Reading
  bad : Reading
  cut : Reading

-- the value of an answer: the same for equal bytes, wherever they lie
abbrev pub header_seen : HeaderOr → Reading
header_seen (variant.Header header data_bytes) = Reading.found header data_bytes.now
header_seen variant.Bad = Reading.bad
header_seen variant.Cut = Reading.cut

-- a datagram is named by these four (RFC 791, 3.2)
unfoldable pub packet_key : List ℕ → Key
packet_key bytes =
    record {
      source = source bytes;
      destination = destination bytes;
      protocol = protocol bytes;
      identification = identification bytes;
    }

unfoldable pub fragment_of : List ℕ → Option Fragment
fragment_of bytes =
    if is_fragment bytes
    then Some (record { start = offset bytes; length = data_length bytes; more = more_fragments bytes })
    else None

unfoldable pub fields_of : List ℕ → HeaderFields
fields_of bytes =
    record {
      key = packet_key bytes;
      service = service bytes;
      time_to_live = time_to_live bytes;
      data_length = data_length bytes;
      fragment = fragment_of bytes;
    }

-- the captured part of the data
unfoldable pub data_of : List ℕ → List ℕ
data_of bytes = take (data_length bytes) (drop (header_length bytes) bytes)

-- what a packet is that ends inside its header
unfoldable pub ended_in_header : Bool → Reading
ended_in_header whole = if whole then Reading.bad else Reading.cut

-- the version isn't 4, or the header is shorter than its least, or longer than header and data
unfoldable pub is_malformed : List ℕ → Bool
is_malformed bytes = not (version bytes == 4) || nat_lt (header_length bytes) 20
    || nat_lt (total_length bytes) (header_length bytes)

-- some of the data isn't captured
unfoldable pub lacks_data : List ℕ → Bool
lacks_data bytes = nat_lt (length bytes) (total_length bytes)

-- the packet was captured whole, and is shorter than it says
unfoldable pub is_overstated : List ℕ → Bool → Bool
is_overstated bytes whole = whole && lacks_data bytes

-- a fragment without data, or one that more follow and that ends within a block of 8 bytes, or one that
-- ends past the data of the longest datagram
unfoldable pub is_misfit : List ℕ → Bool
is_misfit bytes =
    is_fragment bytes
    && ((data_length bytes == 0) || (more_fragments bytes && not (data_length bytes % 8 == 0))
    || nat_lt 65515 (offset bytes + data_length bytes))

-- a fragment some of whose data isn't captured
unfoldable pub is_partial : List ℕ → Bool
is_partial bytes = is_fragment bytes && lacks_data bytes

-- the first of seven steps that holds
unfoldable pub read_of : List ℕ → Bool → Reading
read_of bytes whole =
    if nat_lt (length bytes) 20 then ended_in_header whole  -- 1
    else (if is_malformed bytes then Reading.bad  -- 2
    else (if nat_lt (length bytes) (header_length bytes) then ended_in_header whole  -- 3
    else (if is_overstated bytes whole then Reading.bad  -- 4
    else (if is_misfit bytes then Reading.bad  -- 5
    else (if is_partial bytes then Reading.cut  -- 6
    else Reading.found (fields_of bytes) (data_of bytes))))))  -- 7

-- a well-formed header, whose data isn't longer than it says, and is whole if it is a fragment
pub record IsShapedPacket (header : HeaderFields) (captured : List ℕ) : Type 0 where
  pub form : IsWellFormed header
  pub within : length captured ≤ header.data_length
  pub whole : IsSome header.fragment → length captured ≡ header.data_length

-- a fact of a header that was found and of its data
abbrev pub IfFound : Reading → (HeaderFields → List ℕ → Type 0) → Type 0
IfFound (Reading.found header captured) P = P header captured
IfFound Reading.bad P = ⊤
IfFound Reading.cut P = ⊤
