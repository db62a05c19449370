-- What a file is by its first four bytes.
use Rattle.std.specs.Prelude.{ℕ, ◌/◌, ◌==◌, ◌||◌, if◌then◌else◌}
use Rattle.cap_tool.specs.declared.kinds.Kind.{Kind}
use Rattle.cap_tool.specs.declared.kinds.Kind.TheVariants.{Pcap, ModifiedPcap, Gzip, Zstd, Xz, Lz4, Bzip2, Other}

-- the kind of a file that begins with that number, the first of four bytes being the highest
abbrev pub kind_by : ℕ → Kind
kind_by magic =
    if (magic == 0xd4c3b2a1) || (magic == 0xa1b2c3d4) || (magic == 0x4d3cb2a1) || (magic == 0xa1b23c4d) then Pcap else
    if (magic == 0x34cdb2a1) || (magic == 0xa1b2cd34) then ModifiedPcap else
    if magic == 0x28b52ffd then Zstd else
    if magic == 0xfd377a58 then Xz else
    if magic == 0x04224d18 then Lz4 else
    if magic / 0x10000 == 0x1f8b then Gzip else
    if magic / 0x100 == 0x425a68 then Bzip2 else Other
