-- Tests of clauses that read no group: they are the same for the outline.
use Rattle.wild_outlines.proofs.Common.{◌≡◌, ℕ, ◌+◌, Bool, false, List, [], ◌∷◌, Option, Some, None, refl, ap, ◌==◌, ◌&&◌, ◌||◌, not, max, slice_get, drop, Layout, Merged, Part, Section, Place, Symbol, first_failing, image_size, outline}
use Rattle.wild_types.specs.declared.layout.Entry.{Entry}
use Rattle.wild_types.specs.declared.layout.Entry.TheVariants as entry
use Rattle.wild_types.specs.declared.section.Segment.{Segment}
use Rattle.wild_types.specs.declared.symbol.Place.TheVariants as at
use Rattle.wild_types.specs.Kinds.{needs_dynamic}
use Rattle.wild_types.specs.Lookups.{header_only, is_header_only_at, parts_end, sections_end, file_end, fills_file}
use Rattle.wild_plan_rules.specs.Places.{part_out_of_order, lies_by, part_lies}
use Rattle.wild_plan_rules.specs.Segments.{is_segment_of, dynamic_astray}
use Rattle.wild_plan_rules.specs.LoadedTables.{is_read_from_one_segment, carries_rest, carries_table, rest_of_table, table_is_loaded}
use Rattle.wild_plan_rules.specs.Contents.{holds_bytes, merged_is_raw, holds_thunks}
use Rattle.wild_plan_rules.specs.Indexes.{place_fits, entry_is_there, definition_is_own}
use Rattle.wild_plan_rules.specs.SlotPlaces.{pair_follows_by}
use Rattle.wild_plan_rules.specs.SlotFlags.{first_tested_failing}
use Rattle.wild_plan_rules.specs.Fronts.{headers_are_kept, merged_size}
use Rattle.wild_outlines.proofs.ListLemmas.{list_any-same}

-- ---- searches

pub failing-same : {X : Type 0} (t u : X → Bool) → ((x : X) → t x ≡ u x) → (i : ℕ) (xs : List X) → first_failing t i xs ≡ first_failing u i xs
failing-same t u h i [] = refl
failing-same t u h i (x ∷ xs) = rw (h x, failing-same t u h (i + 1) xs) refl

-- ---- sections with a header alone

pub header_only-outline : (l : Layout) (o : Option Section) → header_only (outline l) o ≡ header_only l o
header_only-outline l None = refl
header_only-outline l (Some s) = refl

pub is_header_only_at-outline : (l : Layout) (k : ℕ) → is_header_only_at (outline l) k ≡ is_header_only_at l k
is_header_only_at-outline l k = ap (λ (b : Bool). not (k == 0) && b) (header_only-outline l (slice_get l.sections k))

parts_end-outline : (l : Layout) (ps : List Part) → parts_end (outline l) ps ≡ parts_end l ps
parts_end-outline l [] = refl
parts_end-outline l (p ∷ ps) = rw (header_only-outline l (slice_get l.sections p.section), parts_end-outline l ps) refl

sections_end-outline : (l : Layout) (ss : List Section) → sections_end (outline l) ss ≡ sections_end l ss
sections_end-outline l [] = refl
sections_end-outline l (s ∷ ss) = ap (max (file_end (fills_file l s) s.offset s.size)) (sections_end-outline l ss)

pub image_size-outline : (l : Layout) → image_size (outline l) ≡ image_size l
unfolding image_size
image_size-outline l = rw (parts_end-outline l l.parts, sections_end-outline l (drop 1 l.sections)) refl

-- ---- parts

pub part_out_of_order-outline : (l : Layout) (i end : ℕ) (ps : List Part) → part_out_of_order (outline l) i end ps ≡ part_out_of_order l i end ps
part_out_of_order-outline l i end [] = refl
part_out_of_order-outline l i end (p ∷ ps) =
    rw (header_only-outline l (slice_get l.sections p.section), part_out_of_order-outline l (i + 1) (p.offset + p.size) ps, part_out_of_order-outline l (i + 1) end ps) refl

lies_by-outline : (l : Layout) (o : Option Section) (p : Part) → lies_by (outline l) o p ≡ lies_by l o p
lies_by-outline l None p = refl
lies_by-outline l (Some s) p = refl

pub part_lies-outline : (l : Layout) (p : Part) → part_lies (outline l) p ≡ part_lies l p
part_lies-outline l p = ap (λ (b : Bool). p.section == 0 || b) (lies_by-outline l (slice_get l.sections p.section) p)

pub headers_are_kept-outline : (l : Layout) (p : Part) → headers_are_kept (outline l) p ≡ headers_are_kept l p
headers_are_kept-outline l p = rw (header_only-outline l (slice_get l.sections p.section)) refl

-- ---- segments

is_segment_of-outline : (l : Layout) (o : Option Part) (g : Segment) → is_segment_of (outline l) o g ≡ is_segment_of l o g
is_segment_of-outline l None g = refl
is_segment_of-outline l (Some p) g = rw (header_only-outline l (slice_get l.sections p.section)) refl

pub dynamic_astray-outline : (l : Layout) (o : Option Part) (i : ℕ) (gs : List Segment) → dynamic_astray (outline l) o i gs ≡ dynamic_astray l o i gs
dynamic_astray-outline l o i [] = refl
dynamic_astray-outline l o i (g ∷ gs) = rw (is_segment_of-outline l o g, dynamic_astray-outline l None (i + 1) gs, dynamic_astray-outline l o (i + 1) gs) refl

carries_rest-outline : (l : Layout) (o : Option Part) (g : Segment) → carries_rest (outline l) o g ≡ carries_rest l o g
carries_rest-outline l None g = refl
carries_rest-outline l (Some q) g = rw (header_only-outline l (slice_get l.sections q.section)) refl

carries_table-outline : (l : Layout) (p : Part) (o : Option Part) (g : Segment) → carries_table (outline l) p o g ≡ carries_table l p o g
carries_table-outline l p o g = rw (header_only-outline l (slice_get l.sections p.section), carries_rest-outline l o g) refl

pub table_is_loaded-outline : (l : Layout) (p : Part) → table_is_loaded (outline l) p ≡ table_is_loaded l p
table_is_loaded-outline l p =
    ap (λ (b : Bool). not (needs_dynamic l.kind) || not (is_read_from_one_segment l p.role) || p.size == 0 || b)
    (list_any-same (carries_table (outline l) p (rest_of_table l.parts p)) (carries_table l p (rest_of_table l.parts p)) l.segments (carries_table-outline l p (rest_of_table l.parts p)))

-- ---- merged strings and thunks

holds_bytes-outline : (l : Layout) (none : Bool) (o : Option Part) → holds_bytes (outline l) none o ≡ holds_bytes l none o
holds_bytes-outline l none None = refl
holds_bytes-outline l none (Some p) = refl

pub merged_is_raw-outline : (l : Layout) (m : Merged) → merged_is_raw (outline l) m ≡ merged_is_raw l m
merged_is_raw-outline l m = rw (holds_bytes-outline l (0 == merged_size m) (slice_get l.parts m.part)) refl

pub identity_is_raw-outline : (l : Layout) → holds_bytes (outline l) false (slice_get l.parts l.identity.part) ≡ holds_bytes l false (slice_get l.parts l.identity.part)
identity_is_raw-outline l = holds_bytes-outline l false (slice_get l.parts l.identity.part)

pub holds_thunks-outline : (l : Layout) (o : Option Part) → holds_thunks (outline l) o ≡ holds_thunks l o
holds_thunks-outline l None = refl
holds_thunks-outline l (Some p) = refl

-- ---- symbols

pub place_fits-outline : (l : Layout) (n : ℕ) (p : Place) → place_fits (outline l) n p ≡ place_fits l n p
place_fits-outline l n (at.Output k) = refl
place_fits-outline l n (at.Section k) = refl
place_fits-outline l n other = refl

pub entry_is_there-outline : (l : Layout) (e : Option Entry) → entry_is_there (outline l) e ≡ entry_is_there l e
entry_is_there-outline l None = refl
entry_is_there-outline l (Some (entry.Address a)) = refl
entry_is_there-outline l (Some (entry.Symbol i)) = refl

pub definition_is_own-outline : (l : Layout) (s : Symbol) → definition_is_own (outline l) s ≡ definition_is_own l s
definition_is_own-outline l s = by_definition s.definition refl
  where
    by_definition : (o : Option ℕ) → s.definition ≡ o → definition_is_own (outline l) s ≡ definition_is_own l s
    by_definition None e = rw e refl
    by_definition (Some j) e = rw e refl

pub first_tested_failing-outline : (l : Layout) (t : Symbol → Bool) (i : ℕ) (ss : List Symbol) → first_tested_failing (outline l) t i ss ≡ first_tested_failing l t i ss
first_tested_failing-outline l t i [] = refl
first_tested_failing-outline l t i (s ∷ ss) = rw (first_tested_failing-outline l t (i + 1) ss) refl

pub pair_follows_by-outline : (l : Layout) (o : Option ℕ) → pair_follows_by (outline l) o ≡ pair_follows_by l o
pair_follows_by-outline l None = refl
pair_follows_by-outline l (Some a) = refl
