-- What it says that the clauses on input sections, indexes, fields and thunks hold; and all that a layout is laid out by.
use Rattle.wild_geometry.proofs.Common.{◌≡◌, ℕ, true, List, [], All, Option, Some, None, Ok, refl, subst, and_parts, Machine, Thunk, Layout, first_failing, unless, files_of, part_out_of_order, section_misplaced, length_fits, fields_lie, part_index_fits, symbol_misfit, group_indexes_fit, fails, check_indexes, table_has_data, first_clause, All-from_none_fails, None-from_fails, flat_map_from, part_errors}
use Rattle.wild_types.specs.declared.kind.Machine.TheVariants as machine
use Rattle.wild_plan_rules.specs.Contents.{addresses, each_section, sorted_named_once, part_is_raw, merged_is_raw, identity_is_raw, primary_fits, front_is_free, allocation_agrees, bytes_take_room, tlsld_fits, tls_fits}
use Rattle.wild_plan_rules.specs.MisplacedSections.{misplaced_owner, misplaced_place}
use Rattle.wild_plan_rules.specs.GroupStarts.{start_places, no_starts, start_astray}
use Rattle.wild_plan_rules.specs.Indexes.{primary_is_there, thunks_are_there, listed_misfit, sorted_is_there, merged_is_there, identity_is_there, entry_is_there, definition_is_own, range_out_of_order}
use Rattle.wild_types.specs.FileSymbols.{first_double_copy}
use Rattle.wild_plan_rules.specs.VersionTables.{parent_is_there}
use Rattle.wild_plan_rules.specs.Fronts.{reversed_fits, merged_fits, identity_fills, front_shared, identity_is_alone, keeps_tables, dynamic_is_dropped, headers_are_kept}
use Rattle.wild_plan_rules.specs.ClauseTests.{check_inputs, check_fields, check_thunks, check_tls, check_starts, check_reversed, check_partial, check_fronts}
use Rattle.wild_plan_rules.specs.Thunks.{ascends, thunks_misplaced, block_lost, machine_takes}
use Rattle.wild_plan_rules.specs.Partial.{has_no_segments, has_no_slot, has_no_pair, has_no_thunks, lists_no_symbols, has_no_index, is_no_debug, is_of_kind, tables_fit, group_fits_members}
use Rattle.wild_plan_rules.proofs.ClauseLemmas.{None-from_map}
use Rattle.wild_layout.specs.Geometry.{DefinitionsAreFinal}
use Rattle.wild_layout.specs.SlotOrder.{SlotsFollow, EachAgrees}
use Rattle.wild_layout.specs.ExportedSymbols.{AreExported}
use Rattle.wild_layout.specs.HashShapes.{HasHashShapes}
use Rattle.wild_layout.specs.VersionOrder.{HasVersionsInOrder}
use Rattle.wild_geometry.proofs.ClauseLemmas.{Both-from_first_error, holds_from_unless, NoneFails-from_first_clause, SizesFit, SizesFit-from_check, CountsFit, CountsFit-from_check, OrderHolds-from_check, RolesHold, RolesHold-from_check, PartsLie, PartsLie-from_check, SegmentsHold, SegmentsHold-from_check, SharesHold, SharesHold-from_check}
use Rattle.wild_geometry.proofs.SlotClauses.{SlotsFollow-from_check, DefinitionsAreFinal-from_check, EachAgrees-from_checks}
use Rattle.wild_geometry.proofs.ListedClauses.{AreExported-from_checks}
use Rattle.wild_geometry.proofs.HashClauses.{HasHashShapes-from_check}
use Rattle.wild_geometry.proofs.VersionClauses.{HasVersionsInOrder-from_check}

-- ---- clauses 8 to 10

pub record InputsHold (l : Layout) : Type 0 where
  pub order : section_misplaced l (addresses l.parts) 0 l.groups ≡ None
  pub named : sorted_named_once l 0 l.groups ≡ None
  pub lengths : All (λ g. each_section length_fits g ≡ true) l.groups
  pub raw : All (λ g. each_section (part_is_raw l) g ≡ true) l.groups
  pub allocation : All (λ g. each_section (allocation_agrees l) g ≡ true) l.groups
  pub room : All (λ g. each_section (bytes_take_room l) g ≡ true) l.groups
  pub merged : All (λ m. merged_is_raw l m ≡ true) l.merged
  pub identity : identity_is_raw l ≡ true
  pub primary : primary_fits l ≡ true
  pub front : front_is_free l ≡ true

pub InputsHold-from_check : (l : Layout) → check_inputs l ≡ Ok tt → InputsHold l
unfolding check_inputs
InputsHold-from_check l h =
    let a = Both-from_first_error _ _ h in
    let n = Both-from_first_error _ _ a.rest in
    let m = Both-from_first_error _ _ n.rest in
    let b = Both-from_first_error _ _ m.rest in
    let f = Both-from_first_error _ _ b.rest in
    let c = Both-from_first_error _ _ f.rest in
    let d = Both-from_first_error _ _ c.rest in
    let o = Both-from_first_error _ _ d.rest in
    let once = Both-from_first_error _ _ o.first in
    let t = Both-from_first_error _ _ o.rest in
    let u = Both-from_first_error _ _ t.rest in
    let e = Both-from_first_error _ _ u.rest in
    record {
      order = None-from_map (misplaced_owner l) (section_misplaced l (addresses l.parts) 0 l.groups) (None-from_fails 8 (misplaced_place l) a.first);
      named = None-from_fails 8 _ n.first;
      lengths = All-from_none_fails (each_section length_fits) 0 l.groups (None-from_fails 8 _ b.first);
      raw = All-from_none_fails (each_section (part_is_raw l)) 0 l.groups (None-from_fails 8 _ d.first);
      allocation = All-from_none_fails (each_section (allocation_agrees l)) 0 l.groups (None-from_fails 8 _ e.first);
      room = All-from_none_fails (each_section (bytes_take_room l)) 0 l.groups (None-from_fails 8 _ e.rest);
      merged = All-from_none_fails (merged_is_raw l) 0 l.merged (None-from_fails 8 _ once.first);
      identity = holds_from_unless (identity_is_raw l) (None-from_fails 8 _ once.rest);
      primary = holds_from_unless (primary_fits l) (None-from_fails 8 _ t.first);
      front = holds_from_unless (front_is_free l) (None-from_fails 8 _ u.first);
    }

pub record IndexesHold (l : Layout) : Type 0 where
  pub parts : All (λ p. part_index_fits l p ≡ true) l.parts
  pub symbols : symbol_misfit l (files_of l.groups) 0 l.symbols ≡ None
  pub groups : All (λ g. group_indexes_fit l g ≡ true) l.groups
  pub copies : first_double_copy l [] 0 l.groups ≡ None
  pub ranges : range_out_of_order 0 0 l.groups ≡ None

pub IndexesHold-from_check : (l : Layout) → check_indexes l ≡ Ok tt → IndexesHold l
unfolding check_indexes
IndexesHold-from_check l h =
    let a = Both-from_first_error (fails 9 (first_failing (part_index_fits l) 0 l.parts)) _ h in
    let t = Both-from_first_error (fails 9 (unless (primary_is_there l))) _ a.rest in
    let b = Both-from_first_error (fails 9 (symbol_misfit l (files_of l.groups) 0 l.symbols)) _ t.rest in
    let c = Both-from_first_error (fails 9 (first_failing (group_indexes_fit l) 0 l.groups)) _ b.rest in
    let d = Both-from_first_error (fails 9 (listed_misfit l)) _ c.rest in
    let e = Both-from_first_error (fails 9 (first_failing (parent_is_there l) 0 l.verdefs)) _ d.rest in
    let u = Both-from_first_error (fails 9 (first_failing (thunks_are_there l) 0 l.thunk_blocks)) _ e.rest in
    let v = Both-from_first_error (fails 9 (first_failing (sorted_is_there l) 0 l.sorted)) _ u.rest in
    let w = Both-from_first_error (fails 9 (first_failing (merged_is_there l) 0 l.merged)) _ v.rest in
    let x = Both-from_first_error (fails 9 (unless (identity_is_there l))) _ w.rest in
    let f = Both-from_first_error (fails 9 (unless (entry_is_there l l.entry))) _ x.rest in
    let g = Both-from_first_error (fails 9 (first_double_copy l [] 0 l.groups)) _ f.rest in
    let y = Both-from_first_error (fails 9 (first_failing (definition_is_own l) 0 l.symbols)) _ g.rest in
    record {
      parts = All-from_none_fails (part_index_fits l) 0 l.parts (None-from_fails 9 _ a.first);
      symbols = None-from_fails 9 _ b.first;
      groups = All-from_none_fails (group_indexes_fit l) 0 l.groups (None-from_fails 9 _ c.first);
      copies = None-from_fails 9 _ g.first;
      ranges = None-from_fails 9 _ y.rest;
    }

pub FieldsLie-from_check : (l : Layout) → check_fields l ≡ Ok tt → All (λ g. each_section (fields_lie l.machine) g ≡ true) l.groups
unfolding check_fields
FieldsLie-from_check l h = All-from_none_fails (each_section (fields_lie l.machine)) 0 l.groups (None-from_fails 10 _ (Both-from_first_error _ _ h).first)

-- ---- clause 12

pub record ThunksHold (l : Layout) : Type 0 where
  pub ascending : All (λ (b : List Thunk). ascends b ≡ true) l.thunk_blocks
  pub placed : thunks_misplaced l ≡ None
  pub owned : block_lost l 0 l.thunk_blocks ≡ None
  pub machine : All (λ (b : List Thunk). machine_takes l.machine b ≡ true) l.thunk_blocks

pub ThunksHold-from_check : (l : Layout) → check_thunks l ≡ Ok tt → ThunksHold l
unfolding check_thunks
ThunksHold-from_check l h =
    let a = Both-from_first_error _ _ h in
    let b = Both-from_first_error _ _ a.rest in
    let c = Both-from_first_error _ _ b.rest in
    record { ascending = All-from_none_fails ascends 0 l.thunk_blocks (None-from_fails 12 _ a.first); placed = None-from_fails 12 _ b.first; owned = None-from_fails 12 _ c.first; machine = All-from_none_fails (machine_takes l.machine) 0 l.thunk_blocks (None-from_fails 12 _ c.rest) }

-- ---- clause 15

-- of AArch64 there is no pair for the output's own thread-local data
none_on_aarch64 : (o : Option ℕ) → tlsld_fits machine.AArch64 o ≡ true → o ≡ None
none_on_aarch64 None h = refl
none_on_aarch64 (Some at) h = cc

pub IsSingle-from_check : (l : Layout) → check_tls l ≡ Ok tt → l.machine ≡ machine.AArch64 → l.tlsld ≡ None
unfolding check_tls
IsSingle-from_check l h on =
    let t = and_parts _ (tlsld_fits l.machine l.tlsld) (holds_from_unless (tls_fits l) (None-from_fails 15 _ h)) in
    none_on_aarch64 l.tlsld (subst (λ (m : Machine). tlsld_fits m l.tlsld ≡ true) on t.1)

-- ---- clause 16

pub StartsFollow-from_check : (l : Layout) → check_starts l ≡ Ok tt → start_astray (start_places l.parts) no_starts 0 l.groups ≡ None
unfolding check_starts
StartsFollow-from_check l h = None-from_fails 16 _ h

-- ---- clauses 20 to 22

pub WordsAreWhole-from_check : (l : Layout) → check_reversed l ≡ Ok tt → All (λ g. each_section (reversed_fits l.machine) g ≡ true) l.groups
unfolding check_reversed
WordsAreWhole-from_check l h = All-from_none_fails (each_section (reversed_fits l.machine)) 0 l.groups (None-from_fails 20 _ h)

-- what only relocatable objects have, and what they have not
pub record PartialHolds (l : Layout) : Type 0 where
  pub segments : has_no_segments l ≡ true
  pub thunks : All (λ (b : List Thunk). has_no_thunks l b ≡ true) l.thunk_blocks
  pub tables : All (λ g. tables_fit g ≡ true) l.groups
  pub members : All (λ g. each_section group_fits_members g ≡ true) l.groups
  pub filled : All (λ g. each_section table_has_data g ≡ true) l.groups

pub PartialHolds-from_check : (l : Layout) → check_partial l ≡ Ok tt → PartialHolds l
unfolding check_partial
PartialHolds-from_check l h =
    let a = Both-from_first_error (fails 21 (unless (has_no_segments l))) _ h in
    let b = Both-from_first_error (fails 21 (first_failing (has_no_slot l) 0 l.symbols)) _ a.rest in
    let c = Both-from_first_error (fails 21 (unless (has_no_pair l))) _ b.rest in
    let d = Both-from_first_error (fails 21 (first_failing (has_no_thunks l) 0 l.thunk_blocks)) _ c.rest in
    let e = Both-from_first_error (fails 21 (unless (lists_no_symbols l))) _ d.rest in
    let f = Both-from_first_error (fails 21 (first_failing (has_no_index l) 0 l.symbols)) _ e.rest in
    let g = Both-from_first_error (fails 21 (first_failing (each_section (is_no_debug l)) 0 l.groups)) _ f.rest in
    let i = Both-from_first_error (fails 21 (first_failing (each_section (is_of_kind l)) 0 l.groups)) _ g.rest in
    let j = Both-from_first_error (fails 21 (first_failing tables_fit 0 l.groups)) _ i.rest in
    let k = Both-from_first_error (fails 21 (first_failing (each_section group_fits_members) 0 l.groups)) _ j.rest in
    record {
      segments = holds_from_unless (has_no_segments l) (None-from_fails 21 _ a.first);
      thunks = All-from_none_fails (has_no_thunks l) 0 l.thunk_blocks (None-from_fails 21 _ d.first);
      tables = All-from_none_fails tables_fit 0 l.groups (None-from_fails 21 _ j.first);
      members = All-from_none_fails (each_section group_fits_members) 0 l.groups (None-from_fails 21 _ k.first);
      filled = All-from_none_fails (each_section table_has_data) 0 l.groups (None-from_fails 21 _ k.rest);
    }

-- what stands at the fronts of parts
pub record FrontsHold (l : Layout) : Type 0 where
  pub merged : All (λ m. merged_fits l m ≡ true) l.merged
  pub identity : identity_fills l ≡ true
  pub tables : keeps_tables l ≡ true
  pub dropped : All (λ p. dynamic_is_dropped l p ≡ true) l.parts
  pub shared : front_shared 0 l.merged ≡ None
  pub alone : identity_is_alone l ≡ true
  pub headers : All (λ p. headers_are_kept l p ≡ true) l.parts

pub FrontsHold-from_check : (l : Layout) → check_fronts l ≡ Ok tt → FrontsHold l
unfolding check_fronts
FrontsHold-from_check l h =
    let a = Both-from_first_error _ _ h in
    let b = Both-from_first_error _ _ a.rest in
    let c = Both-from_first_error _ _ b.rest in
    let o = Both-from_first_error _ _ c.rest in
    let e = Both-from_first_error _ _ o.rest in
    let d = Both-from_first_error _ _ e.rest in
    let f = Both-from_first_error _ _ d.rest in
    record {
      merged = All-from_none_fails (merged_fits l) 0 l.merged (None-from_fails 22 _ a.first);
      identity = holds_from_unless (identity_fills l) (None-from_fails 22 _ b.first);
      tables = holds_from_unless (keeps_tables l) (None-from_fails 22 _ o.first);
      dropped = All-from_none_fails (dynamic_is_dropped l) 0 l.parts (None-from_fails 22 _ e.first);
      shared = None-from_fails 22 _ d.first;
      alone = holds_from_unless (identity_is_alone l) (None-from_fails 22 _ f.first);
      headers = All-from_none_fails (headers_are_kept l) 0 l.parts (None-from_fails 22 _ f.rest);
    }

-- ---- all of them, and the shares

pub record AllClausesHold (l : Layout) : Type 0 where
  pub sizes : SizesFit l
  pub counts : CountsFit l
  pub order : part_out_of_order l 0 0 l.parts ≡ None
  pub roles : RolesHold l
  pub parts : PartsLie l
  pub segments : SegmentsHold l
  pub shares : SharesHold l
  pub inputs : InputsHold l
  pub indexes : IndexesHold l
  pub fields : All (λ g. each_section (fields_lie l.machine) g ≡ true) l.groups
  pub slots : SlotsFollow l
  pub thunks : ThunksHold l
  pub dynsyms : AreExported l
  pub final : DefinitionsAreFinal l
  pub slot_flags : EachAgrees l
  pub tlsld : l.machine ≡ machine.AArch64 → l.tlsld ≡ None
  pub starts : start_astray (start_places l.parts) no_starts 0 l.groups ≡ None
  pub hashes : HasHashShapes l
  pub versions : HasVersionsInOrder l
  pub words : All (λ g. each_section (reversed_fits l.machine) g ≡ true) l.groups
  pub partial : PartialHolds l
  pub fronts : FrontsHold l
  pub needed : flat_map_from (part_errors l) 0 l.parts ≡ []

pub AllClausesHold-from_clauses : (l : Layout) → first_clause l ≡ Ok tt → flat_map_from (part_errors l) 0 l.parts ≡ [] → AllClausesHold l
AllClausesHold-from_clauses l h n =
    let c = NoneFails-from_first_clause l h in
    record {
      sizes = SizesFit-from_check l c.sizes;
      counts = CountsFit-from_check l c.counts;
      order = OrderHolds-from_check l c.order;
      roles = RolesHold-from_check l c.roles;
      parts = PartsLie-from_check l c.sections;
      segments = SegmentsHold-from_check l c.segments;
      shares = SharesHold-from_check l c.shares;
      inputs = InputsHold-from_check l c.inputs;
      indexes = IndexesHold-from_check l c.indexes;
      fields = FieldsLie-from_check l c.fields;
      slots = SlotsFollow-from_check l c.slots;
      thunks = ThunksHold-from_check l c.thunks;
      dynsyms = AreExported-from_checks l c.dynsyms c.names;
      final = DefinitionsAreFinal-from_check l c.indexes;
      slot_flags = EachAgrees-from_checks l c.indexes c.slot_flags;
      tlsld = IsSingle-from_check l c.tls;
      starts = StartsFollow-from_check l c.starts;
      hashes = HasHashShapes-from_check l c.hashes;
      versions = HasVersionsInOrder-from_check l c.versions;
      words = WordsAreWhole-from_check l c.reversed;
      partial = PartialHolds-from_check l c.partial;
      fronts = FrontsHold-from_check l c.fronts;
      needed = n;
    }
