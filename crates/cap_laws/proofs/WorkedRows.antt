-- The report on a few frames.
use Rattle.std.proofs.Common.{refl}
use Rattle.std.specs.Fmt.{digits}
use Rattle.cap_bytes.specs.Number.{number}
use Rattle.cap_ip.specs.Fields.{version, header_length, service, total_length, identification, more_fragments, offset}
use Rattle.cap_ip.specs.Fields.{time_to_live, protocol, source, destination, data_length, is_fragment}
use Rattle.cap_ip.specs.Read.{packet_key, fragment_of, fields_of, data_of as header_data, ended_in_header, is_malformed}
use Rattle.cap_ip.specs.Read.{lacks_data}
use Rattle.cap_ip.specs.Read.{is_overstated, is_misfit, is_partial, read_of}
use Rattle.cap_ip.specs.Transport.{ports_of, udp_length, udp_of, tcp_header_length, tcp_of, transport_of}
use Rattle.cap_join.specs.ByteMap.{completes, joined_data}
use Rattle.cap_join.specs.Fragments.{piece_of}
use Rattle.cap_join.specs.History.{joined_pieces, step, open_groups_after}
use Rattle.cap_link.specs.Links.{announced_in, network_of, raw, typed}
use Rattle.cap_link.specs.Tags.{announced, carried, ended_in_link as tag_ended, is_tag, payload}
use Rattle.cap_talks.specs.counts.Counting.{counted}
use Rattle.cap_talks.specs.table.Conversations.{rows_of}
use Rattle.cap_time.specs.Code.{units_of_code}
use Rattle.cap_time.specs.Stamp.{stamp_cmp, stamp_in, stamp_plus}
use Rattle.cap_time.specs.Time.{time_cmp, time_at, floor_of, remainder_of}
use Rattle.cap_class.specs.Classes.{classes, group_class}
use Rattle.cap_join.specs.Completed.{completed_of}
use Rattle.cap_talks.specs.table.TakenText.{body_text_in, files_part_in}
use Rattle.cap_class.specs.Taken.{classify, events_of}
use Rattle.cap_talks.specs.table.CountedUnits.{group_unit, unit_at, counted_units}
use Rattle.cap_laws.specs.WorkedReport.{Overlapped, Tagged}
use Rattle.cap_class.specs.Ipv6.{report_classes}
use Rattle.cap_talks.specs.table.CountedUnits.{unit_for, units_for}
use Rattle.cap_talks.specs.table.TakenText.{body_for, counts_text_for}

pub overlapped : Overlapped
unfolding digits number version header_length service total_length identification more_fragments offset time_to_live
    protocol source destination data_length is_fragment packet_key fragment_of fields_of header_data ended_in_header
    is_malformed
    lacks_data is_overstated is_misfit is_partial read_of ports_of udp_length udp_of tcp_header_length tcp_of
    transport_of completes joined_data piece_of joined_pieces step open_groups_after typed raw network_of counted
    rows_of
    units_of_code stamp_cmp stamp_in stamp_plus time_cmp time_at floor_of remainder_of classes group_class completed_of
    body_for counts_text_for report_classes files_part_in classify events_of group_unit unit_at units_for unit_for
overlapped = record { before = refl; after = refl; so_far = refl; done = refl }

pub tagged : Tagged
unfolding digits number version header_length service total_length identification more_fragments offset time_to_live
    protocol source destination data_length is_fragment packet_key fragment_of fields_of header_data ended_in_header
    is_malformed
    lacks_data is_overstated is_misfit is_partial read_of ports_of udp_length udp_of tcp_header_length tcp_of
    transport_of completes joined_data piece_of joined_pieces step open_groups_after typed raw network_of counted
    rows_of
    units_of_code stamp_cmp stamp_in stamp_plus time_cmp time_at floor_of remainder_of classes group_class completed_of
    body_for counts_text_for report_classes files_part_in classify events_of group_unit unit_at units_for unit_for
    is_tag tag_ended payload carried
    announced announced_in
tagged = record { classes_are = refl; done = refl }
