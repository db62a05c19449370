-- The extension headers of an IPv6 packet, one after the other (RFC 8200, 4).
use Rattle.std.specs.Prelude.{ℕ, zero, suc, List, Bool, ◌+◌, ◌-◌, ◌*◌, ◌/◌, ◌%◌, ◌==◌, ◌||◌, ◌&&◌, length, drop, nat_lt}
use Rattle.std.specs.Prelude.{Option, Some, None, not, slice_index, if◌then◌else◌}
use Rattle.cap_bytes.specs.Number.{number}
use Rattle.cap_bytes.specs.declared.numbers.Order.TheVariants.{Big}
use Rattle.std.specs.Option.{option_map_or}
use Rattle.cap_ip.specs.declared.reasons.Reason.{Reason}
use Rattle.cap_ip.specs.declared.reasons.Reason.TheVariants as reason
use Rattle.cap_ipv6.specs.declared.packets.Ipv6Fragment.{Ipv6Fragment}

-- The numbers that announce an extension header (IANA, Protocol Numbers): 0 hop-by-hop options, 43 routing,
-- 44 fragment, 51 authentication, 60 destination options, 135 mobility, 139 host identity, 140 shim6. Any other is the
-- protocol of the data.
unfoldable pub is_extension : ℕ → Bool
is_extension n =
    (n == 0) || (n == 43) || (n == 44) || (n == 51) || (n == 60) || (n == 135) || (n == 139) || (n == 140)

-- The length of an extension header in bytes, by its number and the length that it gives in its second byte: that
-- counts words of 8 bytes after the first (RFC 8200, 4.3), and words of 4 after the first two in an authentication
-- header (RFC 4302, 2.2). A fragment header has 8 bytes (RFC 8200, 4.5).
unfoldable pub size_of : ℕ → ℕ → ℕ
size_of n len = if n == 44 then 8 else (if n == 51 then (len + 2) * 4 else (len + 1) * 8)

-- a place among the headers: the number that announces what stands there, how many bytes of the payload are left, and
-- those of them that were captured
pub record Place : Type 0 where
  pub number : ℕ
  pub left : ℕ
  pub captured : List ℕ

-- the length of the extension header at a place
unfoldable pub size_at : Place → ℕ
size_at p = size_of p.number (slice_index p.captured 1)

-- the place behind an extension header of a size: its first byte announces what stands there
unfoldable pub behind : ℕ → Place → Place
behind size p =
    record { number = slice_index p.captured 0; left = p.left - size; captured = drop size p.captured }

-- what a fragment header says, of a fragment with that much data: the high 13 bits of the 16 at byte 2 count blocks of
-- 8 bytes, and the lowest is the flag M, more fragments (RFC 8200, 4.5)
unfoldable pub fragment_at : List ℕ → ℕ → Ipv6Fragment
fragment_at header len =
    record {
      identification = number Big 4 (drop 4 header);
      start = 8 * (number Big 2 (drop 2 header) / 8);
      length = len;
      more = number Big 2 (drop 2 header) % 2 == 1;
    }

-- a fragment header of a datagram that is whole (RFC 6946, 4)
unfoldable pub is_whole : Ipv6Fragment → Bool
is_whole f = (f.start == 0) && not f.more

-- why a fragment can't be: one without data, or one that more follow and that ends within a block of 8 bytes, or one
-- that ends past the data of the longest datagram (RFC 8200, 4.5)
unfoldable pub misfit_of : Ipv6Fragment → Option Reason
misfit_of f =
    if f.length == 0 then Some reason.FragmentEmpty
    else (if f.more && not (f.length % 8 == 0) then Some reason.FragmentBlock
    else (if nat_lt 65535 (f.start + f.length) then Some reason.FragmentBeyond
    else None))

-- what stands at a place
pub data Says : Type 0 where
  ends : Says  -- the data
  leads : ℕ → Says  -- an extension header of a size
  breaks : Ipv6Fragment → Says  -- the header of a fragment; the rest is its data
  bad : Reason → Says  -- a header that reaches past the payload, or a fragment that can't be
  cut : Reason → Says  -- a header that wasn't captured whole

-- what a fragment header says that was captured whole
unfoldable pub says_fragment : ℕ → List ℕ → Says
says_fragment left captured =
    let f = fragment_at captured (left - 8) in
    if is_whole f then Says.leads 8 else option_map_or Says.bad (misfit_of f) (Says.breaks f)

-- each extension header has at least 8 bytes
unfoldable pub says : Place → Says
says p =
    if not (is_extension p.number) then Says.ends
    else (if nat_lt p.left 8 then Says.bad reason.ExtensionPast
    else (if nat_lt (length p.captured) 2 then Says.cut reason.ExtensionCut
    else (if nat_lt p.left (size_at p) then Says.bad reason.ExtensionPast
    else (if nat_lt (length p.captured) (size_at p) then Says.cut reason.ExtensionCut
    else (if p.number == 44 then says_fragment p.left p.captured
    else Says.leads (size_at p))))))

-- where headers lead
pub data Led : Type 0 where
  data_of : ℕ → ℕ → List ℕ → Led  -- to data: its protocol, its length, the captured part of it
  fragment : Ipv6Fragment → Led
  bad : Reason → Led
  cut : Reason → Led

-- where the headers from a place on lead, by what stands there, and by where those behind a header of each size lead
abbrev pub follows : (ℕ → Led) → Place → Says → Led
follows next p Says.ends = Led.data_of p.number p.left p.captured
follows next p (Says.leads size) = next size
follows next p (Says.breaks f) = Led.fragment f
follows next p (Says.bad why) = Led.bad why
follows next p (Says.cut why) = Led.cut why

-- where the headers from a place on lead, if they are no more than that many
abbrev pub led_by : ℕ → Place → Led
led_by zero p = Led.bad reason.ExtensionPast
led_by (suc n) p = follows (λ size. led_by n (behind size p)) p (says p)

-- where the headers from a place on lead: in the bytes that are left there are fewer headers than bytes, so that number
-- leaves none out
unfoldable pub led : Place → Led
led p = led_by (suc p.left) p
