-- The values of members that a plan leaves out.
use Rattle.std.specs.Prelude.{false, None, []}
use Rattle.wild_types.specs.declared.options.Options.{Options}

-- no option is set
abbrev pub no_options : Options
no_options = record {
  relax = false;
  relr = false;
  strip_all = false;
  eh_frame_hdr = false;
  terminator = false;
  bti = false;
  versions = false;
  got_plt_syms = false;
  execstack = false;
  new_dtags = false;
  origin = false;
  nodelete = false;
  interpose = false;
  textrel = false;
  static_tls = false;
  variant_pcs = false;
  only_keep_debug = false;
  new_tombstones = false;
  rpath = None;
  soname = None;
  auxiliary = [];
}
