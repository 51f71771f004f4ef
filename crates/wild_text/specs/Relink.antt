-- Which JSON values encode a plan with a change of one of its input sections. Other members are unknown.
use Rattle.std.specs.Prelude.{ℕ, List, [], ◌∷◌, codes, Result, Ok}
use Rattle.serde_json.specs.Data.{Data}
use Rattle.wild_types.specs.declared.layout.Layout.{Layout}
use Rattle.wild_change.specs.declared.change.Change.{Change}
use Rattle.wild_text.specs.Reads.{◌>>=◌}
use Rattle.wild_text.specs.Values.{u64_in, hex_in, list_in}
use Rattle.wild_text.specs.Members.{field, member_or_empty, an_object, known_only}
use Rattle.wild_text.specs.Input.{relocation_in}
use Rattle.wild_text.specs.Plan.{layout_in}
use Rattle.wild_text.specs.declared.relink.RelinkRequest.{RelinkRequest}

-- new bytes and relocations for an input section, which is named by its place
unfoldable pub change_in : Data → Result Change (List ℕ)
change_in d = do
  whole ← an_object d
  group ← field (codes "group") u64_in 0 d
  file ← field (codes "file") u64_in 0 d
  section ← field (codes "section") u64_in 0 d
  bytes ← field (codes "bytes") hex_in [] d
  relocations ← field (codes "relocations") (list_in relocation_in) [] d
  all_known ← known_only (codes "group" ∷ codes "file" ∷ codes "section" ∷ codes "bytes" ∷ codes "relocations" ∷ []) d
  Ok (record { group = group; file = file; section = section; bytes = bytes; relocations = relocations })

-- the plan, and its change
unfoldable pub plan_in : Data → Result Layout (List ℕ)
plan_in d = member_or_empty (codes "plan") layout_in d

unfoldable pub plan_change_in : Data → Result Change (List ℕ)
plan_change_in d = member_or_empty (codes "change") change_in d

-- a plan, and a change of one of its input sections
unfoldable pub relink_in : Data → Result RelinkRequest (List ℕ)
relink_in d = do
  whole ← an_object d
  layout ← plan_in d
  change ← plan_change_in d
  all_known ← known_only (codes "plan" ∷ codes "change" ∷ []) d
  Ok (record { plan = layout; change = change })
