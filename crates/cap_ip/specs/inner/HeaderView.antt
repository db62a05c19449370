-- What a header's fields say.
use Rattle.cap_ip.specs.declared.headers.Header.TheInside.{Inside}
use Rattle.cap_ip.specs.Header.{HeaderFields}

abbrev pub header_view : Inside → HeaderFields
header_view h =
    record {
      key = h.key;
      service = h.service;
      time_to_live = h.time_to_live;
      data_length = h.data_length;
      fragment = h.fragment;
    }
