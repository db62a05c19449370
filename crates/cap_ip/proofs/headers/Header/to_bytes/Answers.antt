use Rattle.std.proofs.Common.{ap, ◌∙◌}
use Rattle.cap_ip.specs.Checksum.{checksum_of}
use Rattle.cap_ip.specs.Written.{header_with, ipv4_header_bytes}
use Rattle.cap_ip.proofs.headers.Header.to_bytes.Goals as goal

pub returns : goal.returns
unfolding ipv4_header_bytes
returns c = c.header_with-2.ensures ∙ ap (header_with c.args.self.now c.args.size) (c.header_checksum-checksum.ensures
    ∙ ap checksum_of c.header_with.ensures)
