-- An empty layout: the values of members that a plan leaves out.
--   no_tls         no thread-local data
--   empty_layout   the layout
use Rattle.std.specs.Prelude.{None, []}
use Rattle.wild_types.specs.Defaults.{no_options}
use Rattle.wild_types.specs.declared.kind.Machine.TheVariants as machine
use Rattle.wild_types.specs.declared.kind.OutputKind.TheVariants as kind
use Rattle.wild_types.specs.declared.kind.RelocationModel.TheVariants.{NonRelocatable}
use Rattle.wild_types.specs.declared.layout.Layout.{Layout}
use Rattle.wild_types.specs.declared.layout.Tls.{Tls}

-- no thread-local data
abbrev pub no_tls : Tls
no_tls = record { start = 0; end = 0; align = 1 }

-- an empty layout, for an executable that is loaded at fixed addresses
abbrev pub empty_layout : Layout
empty_layout = record {
  machine = machine.X86_64;
  kind = kind.StaticExecutable NonRelocatable;
  options = no_options;
  page_size = 0;
  parts = [];
  sections = [];
  segments = [];
  tls = no_tls;
  got_base = 0;
  got_header = 0;
  tlsld = None;
  primary_part = 0;
  symbols = [];
  groups = [];
  dynsyms = [];
  sysv_hash = None;
  gnu_hash = None;
  verdefs = [];
  thunk_blocks = [];
  sorted = [];
  merged = [];
  identity = record { part = 0; bytes = [] };
  interp = [];
  properties = [];
  entry = None;
  build_id = None;
}
