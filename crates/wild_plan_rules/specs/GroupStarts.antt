-- Clause 16: where a group's strings, frames and symbols begin.
--   place_with r ps          the place of the part of a role
--   start_astray ps n i gs   the first group whose strings, frames or symbols do not begin where those of earlier groups end
--   AreBelow n starts        no start exceeds a number
use Rattle.std.specs.Prelude.{ℕ, ◌+◌, ◌≤◌, ◌==◌, Bool, ◌&&◌, if◌then◌else◌, List, [], ◌∷◌, Option, Some, None}
use Rattle.std.specs.List.{position_from}
use Rattle.wild_types.specs.declared.part.Part.{Part}
use Rattle.wild_types.specs.declared.part.Role.{Role}
use Rattle.wild_types.specs.declared.part.Role.TheVariants as role
use Rattle.wild_types.specs.declared.file.Group.{Group}
pub use Rattle.wild_plan_rules.specs.declared.group_starts.Starts.{Starts}
use Rattle.wild_types.specs.Parts.{has_role}
use Rattle.wild_types.specs.FilePlaces.{given}

-- ---- clause 16: where a group's strings, frames and symbols begin

-- the group's bytes in the part at that place; 0 without a place
abbrev pub group_share_at : Option ℕ → Group → ℕ
group_share_at None g = 0
group_share_at (Some part) g = given part g

-- the place of the part of a role
abbrev pub place_with : Role → List Part → Option ℕ
place_with r parts = position_from (has_role r) 0 parts

-- the places of the parts whose shares have a start: dynamic strings, strings, frames, local symbols, other symbols
abbrev pub start_places : List Part → Starts (Option ℕ)
start_places parts = record { dynstr = place_with role.Dynstr parts; strtab = place_with role.Strtab parts; frames = place_with role.EhFrame parts; locals = place_with role.SymtabLocal parts; globals = place_with role.SymtabGlobal parts }

-- all begin at 0
abbrev pub no_starts : Starts ℕ
no_starts = record { dynstr = 0; strtab = 0; frames = 0; locals = 0; globals = 0 }

-- none of these parts exists
abbrev pub no_start_places : Starts (Option ℕ)
no_start_places = record { dynstr = None; strtab = None; frames = None; locals = None; globals = None }

-- where the group's shares end
abbrev pub starts_after_group : Starts (Option ℕ) → Starts ℕ → Group → Starts ℕ
starts_after_group places from g = record {
  dynstr = from.dynstr + group_share_at places.dynstr g;
  strtab = from.strtab + group_share_at places.strtab g;
  frames = from.frames + group_share_at places.frames g;
  locals = from.locals + group_share_at places.locals g;
  globals = from.globals + group_share_at places.globals g;
}

-- the group's shares begin there
abbrev pub begins_at : Starts ℕ → Group → Bool
begins_at from g = g.dynstr_start == from.dynstr && (g.strtab_start == from.strtab && (g.eh_frame_start == from.frames && (g.symtab_local_start == from.locals && g.symtab_global_start == from.globals)))

-- the first group whose shares do not begin where those of earlier groups end
abbrev pub start_astray : Starts (Option ℕ) → Starts ℕ → ℕ → List Group → Option ℕ
start_astray places from i [] = None
start_astray places from i (g ∷ gs) = if begins_at from g then start_astray places (starts_after_group places from g) (i + 1) gs else Some i

-- each start is that number or less
pub record AreBelow (limit : ℕ) (from : Starts ℕ) : Type 0 where
  pub dynstr : from.dynstr ≤ limit
  pub strtab : from.strtab ≤ limit
  pub frames : from.frames ≤ limit
  pub locals : from.locals ≤ limit
  pub globals : from.globals ≤ limit
