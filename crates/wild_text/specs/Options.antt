-- Which JSON value encodes the options of a link. Other options are unknown.
--   options_in d   the options of an object
use Rattle.std.specs.Prelude.{ℕ, List, [], ◌∷◌, codes, Result, Ok, None, false}
use Rattle.serde_json.specs.Data.{Data}
use Rattle.wild_types.specs.Defaults.{no_options}
use Rattle.wild_types.specs.declared.options.Options.{Options}
use Rattle.wild_text.specs.Reads.{◌>>=◌}
use Rattle.wild_text.specs.Values.{bool_in, hex_in, list_in, nullable}
use Rattle.wild_text.specs.Members.{field, an_object, known_only}

-- options of every output
unfoldable pub output_options : Data → Result Options (List ℕ)
output_options d = do
  relax ← field (codes "relax") bool_in false d
  relr ← field (codes "relr") bool_in false d
  strip_all ← field (codes "strip_all") bool_in false d
  eh_frame_hdr ← field (codes "eh_frame_hdr") bool_in false d
  terminator ← field (codes "terminator") bool_in false d
  bti ← field (codes "bti") bool_in false d
  versions ← field (codes "versions") bool_in false d
  got_plt_syms ← field (codes "got_plt_syms") bool_in false d
  execstack ← field (codes "execstack") bool_in false d
  Ok (record no_options {
    relax = relax;
    relr = relr;
    strip_all = strip_all;
    eh_frame_hdr = eh_frame_hdr;
    terminator = terminator;
    bti = bti;
    versions = versions;
    got_plt_syms = got_plt_syms;
    execstack = execstack;
  })

-- options that the dynamic section records (gABI, "Dynamic Section"), and those for debuggers
unfoldable pub dynamic_options : Options → Data → Result Options (List ℕ)
dynamic_options before d = do
  new_dtags ← field (codes "new_dtags") bool_in false d
  origin ← field (codes "origin") bool_in false d
  nodelete ← field (codes "nodelete") bool_in false d
  interpose ← field (codes "interpose") bool_in false d
  textrel ← field (codes "textrel") bool_in false d
  static_tls ← field (codes "static_tls") bool_in false d
  variant_pcs ← field (codes "variant_pcs") bool_in false d
  only_keep_debug ← field (codes "only_keep_debug") bool_in false d
  new_tombstones ← field (codes "new_tombstones") bool_in false d
  rpath ← field (codes "rpath") (nullable hex_in) None d
  soname ← field (codes "soname") (nullable hex_in) None d
  auxiliary ← field (codes "auxiliary") (list_in hex_in) [] d
  Ok (record before {
    new_dtags = new_dtags;
    origin = origin;
    nodelete = nodelete;
    interpose = interpose;
    textrel = textrel;
    static_tls = static_tls;
    variant_pcs = variant_pcs;
    only_keep_debug = only_keep_debug;
    new_tombstones = new_tombstones;
    rpath = rpath;
    soname = soname;
    auxiliary = auxiliary;
  })

-- the names of all options
abbrev pub option_members : List (List ℕ)
option_members = codes "relax" ∷ codes "relr" ∷ codes "strip_all" ∷ codes "eh_frame_hdr" ∷ codes "terminator" ∷ codes "bti" ∷ codes "versions"
    ∷ codes "got_plt_syms" ∷ codes "execstack" ∷ codes "new_dtags" ∷ codes "origin" ∷ codes "nodelete" ∷ codes "interpose" ∷ codes "textrel" ∷ codes "static_tls" ∷ codes "variant_pcs" ∷ codes "only_keep_debug" ∷ codes "new_tombstones" ∷ codes "rpath" ∷ codes "soname" ∷ codes "auxiliary" ∷ []

-- the options of a link
unfoldable pub options_in : Data → Result Options (List ℕ)
options_in d = do
  whole ← an_object d
  before ← output_options d
  asked ← dynamic_options before d
  all_known ← known_only option_members d
  Ok asked
