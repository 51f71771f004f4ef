-- Which layout the structs of a C program represent.
--   is_layout c   they are of this version, and each number that represents a choice is one of those
--   layout_of c   the layout
--   frame_of c    its options, parts and sections alone
use Rattle.std.specs.Prelude.{ℕ, ◌==◌, Bool, ◌&&◌, if◌then◌else◌, Option, Some, None, nat_lt, map}
use Rattle.std.specs.List.{list_all}
use Rattle.wild_types.specs.declared.layout.Entry.{Entry}
use Rattle.wild_types.specs.declared.layout.Entry.TheVariants as entry
use Rattle.wild_types.specs.declared.layout.GnuHash.{GnuHash}
use Rattle.wild_types.specs.declared.layout.Layout.{Layout}
use Rattle.wild_types.specs.declared.layout.SysvHash.{SysvHash}
use Rattle.wild_types.specs.declared.layout.Tls.{Tls}
use Rattle.wild_types.specs.Empty.{empty_layout}
use Rattle.wild_c_layout.specs.Codes.{kind_of, machine_of, is_machine, is_kind, has_known_role, has_known_place, has_known_files}
use Rattle.wild_c_layout.specs.Extras.{dynamic_symbol_of, version_definition_of, thunks_of, sorted_section_of, merged_of, property_of}
use Rattle.wild_c_layout.specs.Input.{group_of}
use Rattle.wild_c_layout.specs.Options.{options_of}
use Rattle.wild_c_layout.specs.Output.{part_of, section_of, segment_of}
use Rattle.wild_c_layout.specs.Symbols.{symbol_of}
use Rattle.wild_c_layout.specs.Values.{is_set, present, present_bytes}
use Rattle.wild_c_layout.specs.declared.layout.CLayout.{CLayout}

-- the version of the structs
abbrev pub version : ℕ
version = 1

-- the initial thread-local data (ELF TLS)
abbrev pub tls_of : CLayout → Tls
tls_of c = record { start = c.tls_start; end = c.tls_end; align = c.tls_align }

-- where execution begins: nowhere, at an address, at a symbol
abbrev pub entry_of : ℕ → ℕ → Option Entry
entry_of n at = if n == 1 then Some (entry.Address at) else if n == 2 then Some (entry.Symbol at) else None

-- the shape of the System V hash table (gABI, "Hash Table"), if there is one
abbrev pub sysv_hash_of : CLayout → Option SysvHash
sysv_hash_of c = if is_set c.has_sysv_hash then Some (record { buckets = c.sysv_buckets }) else None

-- the shape of the GNU hash table, if there is one
abbrev pub gnu_hash_of : CLayout → Option GnuHash
gnu_hash_of c = if is_set c.has_gnu_hash
    then Some (record { buckets = c.gnu_buckets; bloom_count = c.gnu_bloom_count; bloom_shift = c.gnu_bloom_shift; base = c.gnu_base })
    else None

unfoldable pub is_layout : CLayout → Bool
is_layout c = (c.version == version) && (is_machine c.machine && (is_kind c.kind && (nat_lt c.entry_kind 3
    && (list_all has_known_role c.parts.now && (list_all has_known_place c.symbols.now && list_all has_known_files c.groups.now)))))

unfoldable pub layout_of : CLayout → Layout
layout_of c = record {
  machine = machine_of c.machine;
  kind = kind_of c.kind;
  options = options_of c.options;
  page_size = c.page_size;
  parts = map part_of c.parts.now;
  sections = map section_of c.sections.now;
  segments = map segment_of c.segments.now;
  tls = tls_of c;
  got_base = c.got_base;
  got_header = c.got_header;
  tlsld = present c.tlsld;
  primary_part = c.primary_part;
  symbols = map symbol_of c.symbols.now;
  groups = map group_of c.groups.now;
  dynsyms = map dynamic_symbol_of c.dynsyms.now;
  sysv_hash = sysv_hash_of c;
  gnu_hash = gnu_hash_of c;
  verdefs = map version_definition_of c.verdefs.now;
  thunk_blocks = map thunks_of c.thunk_blocks.now;
  sorted = map sorted_section_of c.sorted.now;
  merged = map merged_of c.merged.now;
  identity = record { part = c.identity_part; bytes = c.identity.now };
  interp = c.interp.now;
  properties = map property_of c.properties.now;
  entry = entry_of c.entry_kind c.entry;
  build_id = present_bytes c.has_build_id c.build_id.now;
}

-- the options, parts and sections, in a layout that has nothing else
unfoldable pub frame_of : CLayout → Layout
frame_of c = record empty_layout { options = options_of c.options; parts = map part_of c.parts.now; sections = map section_of c.sections.now }
