-- A plan whose long lists are read before the other members: their items one by one, in the order of the text's tokens.
--   IsNext reads depth old x new   the next value of the tokens encodes x, and the new tokens come after it
--   members_with ls d              the layout of these lists and of the other members of a value
--   AreMembers found m             the members that were found encode m
use Rattle.std.specs.Prelude.{◌≡◌, ℕ, List, [], codes, ◌||◌, Bool, false, Option, Some, None, Result, Ok}
use Rattle.std.specs.Str.{bytes_eq}
use Rattle.json.specs.Token.{Token}
use Rattle.serde_json.specs.Data.{Data, Members, put}
use Rattle.serde_json.specs.Find.{get_member}
use Rattle.wild_json.specs.Values.{members_view}
use Rattle.wild_json.specs.Names.{first_unknown}
use Rattle.wild_json.specs.Texts.{value_at}
use Rattle.wild_types.specs.declared.file.Group.{Group}
use Rattle.wild_types.specs.declared.layout.DynamicSymbol.{DynamicSymbol}
use Rattle.wild_types.specs.declared.layout.Layout.{Layout}
use Rattle.wild_types.specs.declared.layout.Merged.{Merged}
use Rattle.wild_types.specs.declared.layout.SortedSection.{SortedSection}
use Rattle.wild_types.specs.declared.symbol.Symbol.{Symbol}
use Rattle.wild_text.specs.declared.plan.Body.{Body}
use Rattle.wild_text.specs.declared.plan.LongLists.{LongLists}
use Rattle.wild_text.specs.declared.plan.Rest.{Rest}
use Rattle.wild_text.specs.declared.plan_members.PlanMembers.{PlanMembers}
use Rattle.wild_text.specs.Reads.{◌>>=◌}
use Rattle.wild_text.specs.Values.{hex_in, list_in, nullable}
use Rattle.wild_text.specs.Members.{field}
use Rattle.wild_text.specs.Symbols.{symbol_in, dynamic_symbol_in}
use Rattle.wild_text.specs.Input.{group_in}
use Rattle.wild_text.specs.Extras.{sorted_section_in, merged_in, identity_in, property_in}
use Rattle.wild_text.specs.Shapes.{sysv_hash_in, gnu_hash_in, thunk_in}
use Rattle.wild_text.specs.Versions.{version_definition_in}
use Rattle.wild_text.specs.Plan.{head_in, frame_in, entry_in, no_identity, layout_of, layout_members}

-- the next value of the tokens encodes x, and the new tokens come after it
abbrev pub IsNext : {X : Type 0} → (Data → Result X (List ℕ)) → ℕ → List Token → X → List Token → Type 0
IsNext reads depth old x new = (d : Data) × (value_at depth old ≡ Some (d, new)) × (reads d ≡ Ok x)

-- the list, if it was read before, else that of the member of this name
abbrev pub given_or : {X : Type 0} → List ℕ → (Data → Result X (List ℕ)) → Option (List X) → Data → Result (List X) (List ℕ)
given_or name read None d = field name (list_in read) [] d
given_or name read (Some xs) d = Ok xs

-- symbols, groups, the tables for loaders, and thunks; some of the lists were read before
unfoldable pub body_with : Option (List Symbol) → Option (List Group) → Option (List DynamicSymbol) → Data → Result Body (List ℕ)
body_with given_symbols given_groups given_dynsyms d = do
  symbols ← given_or (codes "symbols") symbol_in given_symbols d
  groups ← given_or (codes "groups") group_in given_groups d
  dynsyms ← given_or (codes "dynsyms") dynamic_symbol_in given_dynsyms d
  sysv_hash ← field (codes "sysv_hash") (nullable sysv_hash_in) None d
  gnu_hash ← field (codes "gnu_hash") (nullable gnu_hash_in) None d
  verdefs ← field (codes "verdefs") (list_in version_definition_in) [] d
  thunk_blocks ← field (codes "thunk_blocks") (list_in (list_in thunk_in)) [] d
  Ok (record {
    symbols = symbols;
    groups = groups;
    dynsyms = dynsyms;
    sysv_hash = sysv_hash;
    gnu_hash = gnu_hash;
    verdefs = verdefs;
    thunk_blocks = thunk_blocks;
  })

-- what the output has only once; some of the lists were read before
unfoldable pub rest_with : Option (List SortedSection) → Option (List Merged) → Data → Result Rest (List ℕ)
rest_with given_sorted given_merged d = do
  sorted ← given_or (codes "sorted") sorted_section_in given_sorted d
  merged ← given_or (codes "merged") merged_in given_merged d
  identity ← field (codes "identity") identity_in no_identity d
  interp ← field (codes "interp") hex_in [] d
  properties ← field (codes "properties") (list_in property_in) [] d
  start ← field (codes "entry") (nullable entry_in) None d
  build_id ← field (codes "build_id") (nullable hex_in) None d
  Ok (record {
    sorted = sorted;
    merged = merged;
    identity = identity;
    interp = interp;
    properties = properties;
    entry = start;
    build_id = build_id;
  })

-- the layout of these lists and of the other known members
unfoldable pub members_with : LongLists → Data → Result Layout (List ℕ)
members_with ls d = do
  head ← head_in d
  frame ← frame_in d
  body ← body_with ls.symbols ls.groups ls.dynsyms d
  rest ← rest_with ls.sorted ls.merged d
  Ok (layout_of head frame body rest)

-- no list was read before
abbrev pub no_lists : LongLists
no_lists = record { symbols = None; groups = None; dynsyms = None; sorted = None; merged = None }

-- the members of a plan whose items are read one by one
abbrev pub is_long : List ℕ → Bool
is_long k = bytes_eq k (codes "symbols") || bytes_eq k (codes "groups") || bytes_eq k (codes "dynsyms") || bytes_eq k (codes "sorted") || bytes_eq k (codes "merged")

-- a list that was read is what the member encodes that was found; if none was read, the member is among those kept if it is there
abbrev pub IsListOf : {X : Type 0} → (Data → Result X (List ℕ)) → Option Data → Option Data → Option (List X) → Type 0
IsListOf read found kept None = kept ≡ found
IsListOf read found kept (Some xs) = (d : Data) × (found ≡ Some d) × (list_in read d ≡ Ok xs)

-- the members that were found encode m: long lists, and the others as values
pub record AreMembers (found : Members) (m : PlanMembers) : Type 0 where
  pub others : (k : List ℕ) → is_long k ≡ false → get_member k (members_view m.kept.items) ≡ get_member k found
  pub symbols : IsListOf symbol_in (get_member (codes "symbols") found) (get_member (codes "symbols") (members_view m.kept.items)) m.lists.symbols
  pub groups : IsListOf group_in (get_member (codes "groups") found) (get_member (codes "groups") (members_view m.kept.items)) m.lists.groups
  pub dynsyms : IsListOf dynamic_symbol_in (get_member (codes "dynsyms") found) (get_member (codes "dynsyms") (members_view m.kept.items)) m.lists.dynsyms
  pub sorted : IsListOf sorted_section_in (get_member (codes "sorted") found) (get_member (codes "sorted") (members_view m.kept.items)) m.lists.sorted
  pub merged : IsListOf merged_in (get_member (codes "merged") found) (get_member (codes "merged") (members_view m.kept.items)) m.lists.merged
  pub known : first_unknown layout_members found ≡ None

-- the value of the member of that name is next, and was added to what was read
abbrev pub AddsMember : ℕ → List Token → List Token → List ℕ → PlanMembers → PlanMembers → Type 0
AddsMember depth old new name before after = (d : Data) × (value_at depth old ≡ Some (d, new)) × ((found : Members) → AreMembers found before → AreMembers (put name d found) after)
