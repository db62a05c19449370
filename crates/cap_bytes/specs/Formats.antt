-- The two formats by their names.
use Rattle.std.specs.Prelude.{ℕ, List, codes}
use Rattle.cap_bytes.specs.declared.formats.Format.{Format}
use Rattle.cap_bytes.specs.declared.formats.Format.TheVariants.{Pcap, Pcapng}

-- a format by its name, as it is printed
abbrev pub format_name : Format → List ℕ
format_name Pcap = codes "pcap"
format_name Pcapng = codes "pcapng"
