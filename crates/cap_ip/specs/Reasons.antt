-- Why a packet is bad or cut: the first step of its reading that it fails (RFC 791, 3.1; RFC 768; RFC 9293, 3.1).
use Rattle.std.specs.Prelude.{ℕ, List, Bool, ◌+◌, ◌%◌, ◌==◌, ◌||◌, ◌&&◌, codes, length, nat_lt, not, if◌then◌else◌}
use Rattle.cap_ip.specs.Fields.{data_length, header_length, more_fragments, offset, total_length, version}
use Rattle.cap_ip.specs.Read.{is_overstated}
use Rattle.cap_ip.specs.declared.reasons.Reason.{Reason}
use Rattle.cap_ip.specs.declared.reasons.Reason.TheVariants as reason

-- Why a fragment is bad or cut: the first of these that holds, in the order of steps 5 and 6 of `read_of`.
unfoldable pub fragment_reason : List ℕ → Reason
fragment_reason bytes =
    if data_length bytes == 0 then reason.FragmentEmpty
    else (if more_fragments bytes && not (data_length bytes % 8 == 0) then reason.FragmentBlock
    else (if nat_lt 65515 (offset bytes + data_length bytes) then reason.FragmentBeyond
    else reason.FragmentCut))

-- Why an IPv4 packet is bad or cut by its header: the first of these that holds, in the order of the steps of
-- `read_of`. A packet that passes the first four steps is bad or cut only if it is a fragment.
unfoldable pub header_reason : List ℕ → Bool → Reason
header_reason bytes whole =
    if nat_lt (length bytes) 20 then reason.HeaderShort  -- 1
    else (if not (version bytes == 4) then reason.Version  -- 2
    else (if nat_lt (header_length bytes) 20 then reason.HeaderLength
    else (if total_length bytes == 0 then reason.LengthZero
    else (if nat_lt (total_length bytes) (header_length bytes) then reason.LengthShort
    else (if nat_lt (length bytes) (header_length bytes) then reason.HeaderShort  -- 3
    else (if is_overstated bytes whole then reason.BeyondFrame  -- 4
    else fragment_reason bytes))))))  -- 5 and 6

-- why a datagram of UDP is bad or cut: its header doesn't fit in the data or in what was captured of it, or its length
-- can't be
unfoldable pub udp_reason : List ℕ → ℕ → Reason
udp_reason captured size =
    if nat_lt size 8 || nat_lt (length captured) 8 then reason.UdpShort
    else reason.UdpLength

-- the same of TCP, with its data offset in place of the length
unfoldable pub tcp_reason : List ℕ → ℕ → Reason
tcp_reason captured size =
    if nat_lt size 20 || nat_lt (length captured) 20 then reason.TcpShort
    else reason.TcpOffset

-- Why a datagram is bad or cut by the header of its protocol, UDP or TCP. `captured` is the part of its data that was
-- captured, and `size` the length of all of it.
unfoldable pub transport_reason : ℕ → List ℕ → ℕ → Reason
transport_reason protocol captured size =
    if protocol == 17 then udp_reason captured size
    else tcp_reason captured size

-- the name that is printed of a reason
abbrev pub reason_name : Reason → List ℕ
reason_name reason.LinkShort = codes "link-short"
reason_name reason.HeaderShort = codes "header-short"
reason_name reason.Version = codes "version"
reason_name reason.HeaderLength = codes "header-length"
reason_name reason.LengthZero = codes "length-zero"
reason_name reason.LengthShort = codes "length-short"
reason_name reason.BeyondFrame = codes "beyond-frame"
reason_name reason.FragmentEmpty = codes "fragment-empty"
reason_name reason.FragmentBlock = codes "fragment-block"
reason_name reason.FragmentBeyond = codes "fragment-beyond"
reason_name reason.FragmentCut = codes "fragment-cut"
reason_name reason.ExtensionPast = codes "extension-past"
reason_name reason.ExtensionCut = codes "extension-cut"
reason_name reason.UdpShort = codes "udp-short"
reason_name reason.UdpLength = codes "udp-length"
reason_name reason.TcpShort = codes "tcp-short"
reason_name reason.TcpOffset = codes "tcp-offset"
