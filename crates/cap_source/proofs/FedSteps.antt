-- What a look at the next bytes of a pcap file that is fed returns.
use Rattle.std.proofs.Common.{◌≡◌, ℕ, ◌+◌, ◌≤◌, true, false, List, [], ◌++◌, take, drop}
use Rattle.std.proofs.Common.{Some, None, Ok, sym, ap, ◌∙◌, subst, arith}
use Rattle.std.proofs.Common.{◌^◌}
use Rattle.std.proofs.lemmas.Bool.Decides.{nat_tests}
use Rattle.std.specs.Prelude.{Result}
use Rattle.cap_bytes.specs.declared.faults.Fault.{Fault}
use Rattle.cap_bytes.specs.declared.faults.Rule.{Rule}
use Rattle.cap_pcap.proofs.Faults.{Fits-from_none, record_fault-append}
use Rattle.cap_pcap.proofs.More.{header-there}
use Rattle.cap_pcap.specs.Split.{captured_at, header_at, pcap_header_fault, record_at, record_fault}
use Rattle.cap_pcap.specs.declared.headers.PcapHeader.{PcapHeader}
use Rattle.cap_pcap.specs.declared.records.Record.{Record}
use Rattle.cap_source.proofs.FedRecords.{header-fed, header-stop, record-fed, record-some, records-stop, rule-here}
use Rattle.cap_source.proofs.FedRecords.{header-some, pcap_rule, rule-later}
use Rattle.cap_source.proofs.FedShort.{header-few, record-few}
use Rattle.cap_source.proofs.FedStops.{broken}
use Rattle.cap_source.specs.Fed.{PushView, packet_then, rest_at_stage, rest_of_stop}
use Rattle.cap_source.specs.Items.{interface_of, is_pcapng, meta_of}
use Rattle.cap_source.specs.declared.fed.PushEvent.{PushEvent}
use Rattle.cap_source.specs.declared.fed.PushEvent.TheVariants as steps
use Rattle.cap_source.specs.declared.fed.Stage.{Stage}
use Rattle.cap_source.specs.declared.fed.Stage.TheVariants.{Start, Records}
use Rattle.cap_source.specs.declared.packets.Meta.{Meta}
use Rattle.cap_source.specs.inner.FedSteps.{BreaksOff, IsSoundPush, IsSoundStage, StepsFed, format_at}

-- a record
module _ (old : PushView) (header : PcapHeader) (b : List ℕ) (at : old.stage ≡ Records header) where
  captured-is : (r : Record) → r ≡ record_at header.order header.unit old.offset b
      → r.captured ≡ captured_at header.order b
  unfolding record_at
  captured-is r is = ap (λ (x : Record). x.captured) is

  pub record-steps : (r : Record) (meta : Meta) → record_fault header.order old.offset b ≡ None
      → r ≡ record_at header.order header.unit old.offset b → meta ≡ meta_of old.file (interface_of header) r
      → StepsFed old b (Ok (steps.Packet meta 16 (16 + r.captured)))
      (record old { offset = old.offset + (16 + r.captured) })
  record-steps r meta none is named =
      let f = Fits-from_none header.order old.offset b none in
      let size = captured-is r is in
      let captured : meta.captured ≡ r.captured = ap (λ (m : Meta). m.captured) named in (
        omega arith,
        omega (arith, f.whole, size),
        omega (arith, captured),
        λ later may.
            ap (λ (s : Stage). rest_at_stage s old (b ++ later)) at
            ∙ (record-fed old.file header old.tail old.offset b later r none is
            ∙ sym (λ i. packet_then (named i) (take (captured i) (drop 16 b))
            (rest_at_stage (at i) (record old { offset = old.offset + (16 + r.captured) })
            (drop (16 + r.captured) b ++ later)))),
      )

  pub record-sound : (r : Record) → record_fault header.order old.offset b ≡ None
      → r ≡ record_at header.order header.unit old.offset b → IsSoundPush old
      → IsSoundPush (record old { offset = old.offset + (16 + r.captured) })
  record-sound r none is s =
      let f = Fits-from_none header.order old.offset b none in
      record {
        limit = omega (arith, f.limit, captured-is r is);
        uncounted = s.uncounted;
        counted = omega (arith, s.counted);
        stage = subst (λ (k : Stage). IsSoundStage k (old.offset + (16 + r.captured))) (sym at) tt;
      }

  pub record-breaks : (rule : Rule) (result : Result PushEvent Fault) (new : PushView)
      → record_fault header.order old.offset b ≡ Some rule → BreaksOff old true b rule result new
      → StepsFed old b result new
  record-breaks rule result new is h =
      broken old true (record_fault header.order old.offset) b rule
      (λ w stop e. ap (λ (s : Stage). rest_at_stage s old w) at
      ∙ (records-stop old.file header old.tail old.offset old.progress w stop e
      ∙ ap (λ (s : Stage). rest_of_stop (format_at s) old.progress stop) (sym at)))
      is (λ other later. record_fault-append header.order old.offset b later rule is other)
      (λ other. record-some old.file header old.tail old.offset b rule is other)
      (λ cut. record-few header.order old.offset b (is ∙ ap Some cut)) result new h

-- the header of a file that isn't a pcapng file
module _ (old : PushView) (b : List ℕ) (at : old.stage ≡ Start) (pcap : is_pcapng b ≡ false) where
  pub header-steps : (header : PcapHeader) → pcap_header_fault old.offset b ≡ None → header ≡ header_at b
      → StepsFed old b (Ok (steps.Passed 24)) (record old { offset = old.offset + 24; stage = Records header })
  header-steps header none is =
      let long = (header-there old.offset b [] none).2 in (
        omega arith,
        long,
        λ later may.
            ap (λ (s : Stage). rest_at_stage s old (b ++ later)) at
            ∙ (header-fed old.tail old.file old.progress old.offset b later pcap none
            ∙ sym (ap (λ (h : PcapHeader). rest_at_stage (Records h)
            (record old { offset = old.offset + 24; stage = Records h }) (drop 24 b ++ later)) is)),
      )

  header-limit : pcap_header_fault old.offset b ≡ None → old.offset + 24 ≤ 2 ^ 40
  unfolding pcap_header_fault
  header-limit none = grind (arith, nat_tests)

  pub header-sound : (header : PcapHeader) → pcap_header_fault old.offset b ≡ None → IsSoundPush old
      → IsSoundPush (record old { offset = old.offset + 24; stage = Records header })
  header-sound header none s =
      record {
        limit = header-limit none;
        uncounted = s.uncounted;
        counted = omega (arith, s.counted);
        stage = tt;
      }

  pub header-breaks : (rule : Rule) (result : Result PushEvent Fault) (new : PushView)
      → pcap_header_fault old.offset b ≡ Some rule → BreaksOff old false b rule result new
      → StepsFed old b result new
  header-breaks rule result new is h =
      broken old false (pcap_rule old.offset) b rule
      (λ w stop e. ap (λ (s : Stage). rest_at_stage s old w) at
      ∙ (header-stop old.tail old.file old.progress old.offset w stop e
      ∙ ap (λ (s : Stage). rest_of_stop (format_at s) old.progress stop) (sym at)))
      (rule-here old.tail old.file old.progress old.offset b rule pcap is)
      (λ other later. rule-later old.tail old.file old.progress old.offset b later rule pcap is other)
      (λ other. omega (arith, header-some old.tail old.file old.progress old.offset b rule is other))
      (λ cut. header-few old.offset b (is ∙ ap Some cut)) result new h
