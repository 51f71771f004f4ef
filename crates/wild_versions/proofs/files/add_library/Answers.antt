use Rattle.std.proofs.Common.{◌≡◌, length, arith}
use Rattle.wild_table_formats.specs.VersionNeeds.{need_bytes}
use Rattle.wild_table_formats.proofs.VersionLengths.{length-need_bytes}
use Rattle.wild_versions.proofs.NameLemmas.{full_with}
use Rattle.wild_versions.proofs.files.add_library.Goals as goal

pub returns-clause-full : goal.returns-clause-full
returns-clause-full c =
    let bytes = need_bytes c.args.file c.args.names.now c.args.needs.now in
    let long = length-need_bytes c.args.file c.args.names.now c.args.needs.now in
    let size = c.need_size.ensures in
    let few = c.requires.few in
    let e : length bytes ≡ c.need_size.result = omega (arith, long, size, few) in
    rw (c.push_need.ensures, c.in_ok-make_room.ensures) (full_with bytes c.need_size.result c.args.filled.now e c.requires.full)
