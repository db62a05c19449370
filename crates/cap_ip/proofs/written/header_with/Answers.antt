use Rattle.cap_ip.specs.Written.{header_with}
use Rattle.cap_ip.proofs.Putting.{put-all}
use Rattle.cap_ip.proofs.written.header_with.Goals as goal

pub returns : goal.returns
unfolding header_with
returns c = rw (
  c.put_u32-2.ensures.bytes,
  c.put_u32.ensures.bytes,
  c.put_u16-3.ensures.bytes,
  c.put_u16-2.ensures.bytes,
  c.put_u16.ensures.bytes,
  c.time_to_live.ensures,
  c.service.ensures,
  c.key-key.ensures,
)
    (put-all _ _ _ _ _ _ _ _ _ c.ranges.checksum.fits)
