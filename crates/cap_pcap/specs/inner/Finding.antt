-- What is found at the front of some bytes of a file.
use Rattle.std.specs.Prelude.{◌≡◌, ℕ, List, Some, None, Result, Ok, Err}
use Rattle.cap_bytes.specs.declared.faults.Rule.{Rule}
use Rattle.cap_pcap.specs.Split.{record_at, record_fault}
use Rattle.cap_pcap.specs.declared.headers.PcapHeader.{PcapHeader}
use Rattle.cap_pcap.specs.declared.records.Record.{Record}

-- the record of some bytes that begin at `offset`, or the first condition that they meet in its place
abbrev pub FindsRecord : PcapHeader → ℕ → List ℕ → Result Record Rule → Type 0
FindsRecord header offset bytes (Ok r) =
    (record_fault header.order offset bytes ≡ None) × (r ≡ record_at header.order header.unit offset bytes)
FindsRecord header offset bytes (Err rule) = record_fault header.order offset bytes ≡ Some rule
