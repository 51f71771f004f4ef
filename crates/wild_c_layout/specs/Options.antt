-- Which options of the link a C struct represents.
use Rattle.std.specs.Prelude.{map}
use Rattle.wild_types.specs.declared.options.Options.{Options}
use Rattle.wild_c_layout.specs.Extras.{listed_bytes}
use Rattle.wild_c_layout.specs.Values.{is_set, present_bytes}
use Rattle.wild_c_layout.specs.declared.options.COptions.{COptions}

unfoldable pub options_of : COptions → Options
options_of o = record {
  relax = is_set o.relax;
  relr = is_set o.relr;
  strip_all = is_set o.strip_all;
  eh_frame_hdr = is_set o.eh_frame_hdr;
  terminator = is_set o.terminator;
  bti = is_set o.bti;
  versions = is_set o.versions;
  got_plt_syms = is_set o.got_plt_syms;
  execstack = is_set o.execstack;
  new_dtags = is_set o.new_dtags;
  origin = is_set o.origin;
  nodelete = is_set o.nodelete;
  interpose = is_set o.interpose;
  textrel = is_set o.textrel;
  static_tls = is_set o.static_tls;
  variant_pcs = is_set o.variant_pcs;
  only_keep_debug = is_set o.only_keep_debug;
  new_tombstones = is_set o.new_tombstones;
  rpath = present_bytes o.has_rpath o.rpath.now;
  soname = present_bytes o.has_soname o.soname.now;
  auxiliary = map listed_bytes o.auxiliary.now;
}
