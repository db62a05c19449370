-- What a call is asked for in one number.
use Rattle.std.specs.Prelude.{◌==◌, ◌/◌, ◌%◌, ◌&&◌, ◌||◌, ℕ, Bool, true, false, not, nat_lt, Option, Some, None}
use Rattle.std.specs.Prelude.{if◌then◌else◌}
use Rattle.capt_c.specs.declared.flags.Flags.{Flags}

-- whether a number has the bit of that value, a power of two
abbrev pub has_bit : ℕ → ℕ → Bool
has_bit number bit = number / bit % 2 == 1

-- the flags that a number has
abbrev pub flags_in : ℕ → Flags
flags_in number = record {
  allow_cut = has_bit number 1;
  big = has_bit number 2;
  to_pcap = has_bit number 4;
  ipv6 = has_bit number 8;
}

-- whether a call that takes the first flags takes each of the second
abbrev pub takes_each : Flags → Flags → Bool
takes_each taken flags =
    (taken.allow_cut || not flags.allow_cut) && (taken.big || not flags.big)
    && (taken.to_pcap || not flags.to_pcap) && (taken.ipv6 || not flags.ipv6)

-- The flags that a number has, if a call takes each of them. From 16 on a number has a bit that is no flag.
abbrev pub flags_taken : Flags → ℕ → Option Flags
flags_taken taken number =
    if nat_lt number 16 && takes_each taken (flags_in number) then Some (flags_in number) else None

-- ---- which flags a call takes

-- the flags of a call that reads captures
abbrev pub cut_alone : Flags
cut_alone = record { allow_cut = true; big = false; to_pcap = false; ipv6 = false }

-- the flags of a call that reports on captures
abbrev pub cut_and_ipv6 : Flags
cut_and_ipv6 = record { allow_cut = true; big = false; to_pcap = false; ipv6 = true }

-- the flags of a call that writes a capture
abbrev pub cut_and_form : Flags
cut_and_form = record { allow_cut = true; big = true; to_pcap = true; ipv6 = false }

-- the flags of a call that writes packets
abbrev pub form_alone : Flags
form_alone = record { allow_cut = false; big = true; to_pcap = true; ipv6 = false }
