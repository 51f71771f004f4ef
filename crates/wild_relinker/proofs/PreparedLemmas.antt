-- What was prepared for a layout is prepared for each layout with the same outline.
use Rattle.std.proofs.Common.{◌≡◌, ◌≤◌, ℕ, ◌+◌, ◌-◌, List, [], ◌∷◌, length, take, drop, not, ◌&&◌, ◌||◌, if◌then◌else◌, Bool, false, refl, sym, ap, ◌∙◌, subst}
use Rattle.std.specs.Prelude.{Option, Some, None, slice_get, option_map, is_some, map}
use Rattle.std.specs.List.{list_all, range_with_len}
use Rattle.std.specs.Option.{option_or}
use Rattle.std.proofs.lemmas.List.{length-map, take-map, drop-map}
use Rattle.std.proofs.lemmas.Option.{slice_get-map}
use Rattle.wild_types.specs.declared.file.File.{File}
use Rattle.wild_types.specs.declared.file.Group.{Group}
use Rattle.wild_types.specs.declared.part.Part.{Part}
use Rattle.wild_types.specs.declared.part.Role.TheVariants as role
use Rattle.wild_types.specs.declared.layout.Layout.{Layout}
use Rattle.wild_types.specs.declared.input.InputSection.{InputSection}
use Rattle.wild_types.specs.declared.input.MergedString.{MergedString}
use Rattle.wild_types.specs.Addresses.{raw_value}
use Rattle.wild_types.specs.FilePlaces.{given}
use Rattle.wild_types.specs.HeaderOnly.{is_header_only_role}
use Rattle.wild_types.specs.Kinds.{is_partial_link, needs_dynsym}
use Rattle.wild_types.specs.Lookups.{files_of, file_of, section_of_part}
use Rattle.wild_types.specs.Parts.{part_with, has_role}
use Rattle.wild_change.specs.Outline.{outline_section, outline_file, outline_group, outline}
use Rattle.wild_placement.specs.PlacedSections.{part_address}
use Rattle.wild_needs.specs.Needs.{has_no_dynamic_tables, is_read_only_input, file_needs_no_tables, group_needs_no_tables, inner_groups, inner_groups_need_no_tables}
use Rattle.wild_plan_rules.specs.MergedSections.{is_unmerged, are_unmerged}
use Rattle.wild_table_formats.specs.DynamicFields.{named_sections}
use Rattle.wild_table_formats.specs.SectionSymbols.{symbol_index}
use Rattle.wild_symbols.specs.SymbolNumbers.{found}
use Rattle.wild_layout.specs.Image.{shares_before}
use Rattle.wild_layout.specs.Merged.{names_merged}
use Rattle.wild_layout.specs.SearchTable.{search_table, search_table_faults}
use Rattle.wild_layout.specs.SlotValues.{symbol_is_ifunc}
use Rattle.wild_sections.specs.DefiningFiles.{HasDefiningFiles, defining_file_if, defining_file_in, defining_file_among, layout_needs_owner_files}
use Rattle.wild_sections.specs.Indexes.{HasIndexes}
use Rattle.wild_sections.specs.Strings.{section_ascends, all_ascend}
use Rattle.wild_sections.specs.SymbolFiles.{HasSymbolFiles, symbol_file_in, place_or}
use Rattle.wild_sections.specs.Targets.{HasTargets, has_targets, target_of}
use Rattle.wild_sections.specs.Values.{HasValues}
use Rattle.wild_sections.specs.declared.defining_file.DefiningFile.{DefiningFile}
use Rattle.wild_sections.specs.declared.file_of_symbol.SymbolFile.{SymbolFile}
use Rattle.wild_contents.specs.SearchTable.{FaultIsFirst, IsSearchTable}
use Rattle.wild_contents.specs.declared.search_table.SearchTable.{SearchTable}
use Rattle.wild_image.specs.Append.{HasStarts, start_of}
use Rattle.wild_image.specs.Pieces.{written}
use Rattle.wild_image.specs.Prepared.{HasGroupStarts, IsPrepared}
use Rattle.wild_image.specs.Steps.{OthersHaveNone}
use Rattle.wild_image.specs.declared.prepared.Prepared.{Prepared}
use Rattle.wild_outlines.proofs.ChangedItems.{same_by_outline}
use Rattle.wild_outlines.proofs.ClausesGroups.{list_all-mapped, file_of-layout, output_section-outline}
use Rattle.wild_outlines.proofs.ClausesTests.{is_header_only_at-outline}
use Rattle.wild_outlines.proofs.ContentSymbols.{symbol_index-outline}
use Rattle.wild_outlines.proofs.FramesTable.{search_table-outline, search_table_faults-outline}
use Rattle.wild_outlines.proofs.GroupsPieces.{shares_before-outline}
use Rattle.wild_outlines.proofs.ListLemmas.{map-same}
use Rattle.wild_outlines.proofs.ValuesFiles.{raw_value-outline}
use Rattle.wild_outlines.proofs.ValuesSymbols.{merged_strings-outline}

-- ---- facts of the layout

inner_groups-outline : (gs : List Group) → inner_groups (map outline_group gs) ≡ map outline_group (inner_groups gs)
inner_groups-outline gs =
    ap (λ (n : ℕ). take (n - 1 - 1) (drop 1 (map outline_group gs))) (length-map gs outline_group)
    ∙ (ap (take (length gs - 1 - 1)) (drop-map outline_group 1 gs)
    ∙ take-map outline_group (length gs - 1 - 1) (drop 1 gs))

file_needs-outline : (f : File) → file_needs_no_tables (outline_file f) ≡ file_needs_no_tables f
file_needs-outline f = rw (list_all-mapped is_read_only_input is_read_only_input outline_section (λ s. refl) f.sections) refl

group_needs-outline : (g : Group) → group_needs_no_tables (outline_group g) ≡ group_needs_no_tables g
group_needs-outline g = list_all-mapped file_needs_no_tables file_needs_no_tables outline_file file_needs-outline g.files

inner_needs-outline : (l : Layout) → inner_groups_need_no_tables (outline l) ≡ inner_groups_need_no_tables l
inner_needs-outline l =
    ap (λ (b : Bool). has_no_dynamic_tables l && b)
    (ap (list_all group_needs_no_tables) (inner_groups-outline l.groups) ∙ list_all-mapped group_needs_no_tables group_needs_no_tables outline_group group_needs-outline (inner_groups l.groups))

-- the share that group j has of part i, if there is such a group
abbrev given_at : ℕ → ℕ → Layout → Option ℕ
given_at i j l = option_map (given i) (slice_get l.groups j)

given_at-outline : (i j : ℕ) (l : Layout) → given_at i j (outline l) ≡ given_at i j l
given_at-outline i j l = ap (option_map (given i)) (slice_get-map outline_group l.groups j) ∙ both (slice_get l.groups j)
  where
    both : (o : Option Group) → option_map (given i) (option_map outline_group o) ≡ option_map (given i) o
    both None = refl
    both (Some g) = refl

others_have_none : (l m : Layout) → outline m ≡ outline l → OthersHaveNone l → OthersHaveNone m
others_have_none l m same h = λ i j p g part group late table.
    by i j p g (sym (ap (λ (n : Layout). slice_get n.parts i) same) ∙ part) late table (slice_get l.groups j) refl (sym (same_by_outline (given_at i j) (given_at-outline i j) l m same) ∙ ap (option_map (given i)) group)
  where
    by : (i j : ℕ) (p : Part) (g : Group) → slice_get l.parts i ≡ Some p → 1 ≤ j → has_role role.Raw p ≡ false → (o : Option Group) → slice_get l.groups j ≡ o → option_map (given i) o ≡ Some (given i g) → given i g ≡ 0
    by i j p g part late table None at is = cc
    by i j p g part late table (Some k) at is = let e : given i k ≡ given i g = cc in sym e ∙ h i j p k part at late table

-- ---- properties of symbols

-- each input section of the layout passes the test
abbrev each_passes : (InputSection → Bool) → Layout → Bool
each_passes t l = list_all (λ (g : Group). list_all (λ (f : File). list_all t f.sections) g.files) l.groups

each_passes-outline : (t : InputSection → Bool) → ((s : InputSection) → t (outline_section s) ≡ t s) → (l : Layout) → each_passes t (outline l) ≡ each_passes t l
each_passes-outline t h l =
    list_all-mapped (λ (g : Group). list_all (λ (f : File). list_all t f.sections) g.files) (λ (g : Group). list_all (λ (f : File). list_all t f.sections) g.files) outline_group
    (λ g. list_all-mapped (λ (f : File). list_all t f.sections) (λ (f : File). list_all t f.sections) outline_file (λ f. list_all-mapped t t outline_section h f.sections) g.files)
    l.groups

unmerged-outline : (l : Layout) → are_unmerged (outline l) ≡ are_unmerged l
unmerged-outline l = each_passes-outline is_unmerged (λ s. refl) l

ascend-outline : (l : Layout) → all_ascend (outline l) ≡ all_ascend l
ascend-outline l = each_passes-outline section_ascends (λ s. refl) l

owner_files-outline : (l : Layout) → layout_needs_owner_files (outline l) ≡ layout_needs_owner_files l
owner_files-outline l = ap (λ (b : Bool). is_partial_link l.kind || not b) (unmerged-outline l)

target_of-outline : (l : Layout) (i : ℕ) → target_of (outline l) i ≡ target_of l i
target_of-outline l i =
    ap (λ (o : Option (List MergedString)). if symbol_is_ifunc l i || is_some o then None else raw_value (outline l) i) (merged_strings-outline l i)
    ∙ ap (λ (o : Option ℕ). if symbol_is_ifunc l i || names_merged l (Some i) then None else o) (raw_value-outline l i)

symbol_file_in-outline : (l : Layout) (i : ℕ) (o : Option File) → option_map (symbol_file_in (outline l) i) (option_map outline_file o) ≡ option_map (symbol_file_in l i) o
symbol_file_in-outline l i None = refl
symbol_file_in-outline l i (Some f) =
    let place = place_or (slice_get l.symbols i) in
    let made : ℕ → Option SymbolFile = λ k. Some (record { role = f.role; section = k }) in
    ap made (output_section-outline l (Some f) place)

file_in-outline : (i : ℕ) (l : Layout) → found (symbol_file_in (outline l)) (files_of (outline l).groups) i ≡ found (symbol_file_in l) (files_of l.groups) i
file_in-outline i l = ap (option_map (symbol_file_in (outline l) i)) (file_of-layout l.groups i) ∙ symbol_file_in-outline l i (file_of (files_of l.groups) i)

defining_file_in-outline : (group i : ℕ) (fs : List File) (k : ℕ) → defining_file_in group i (map outline_file fs) k ≡ defining_file_in group i fs k
defining_file_in-outline group i [] k = refl
defining_file_in-outline group i (f ∷ fs) k = ap (option_or (defining_file_if (record { group = group; file = i }) f k)) (defining_file_in-outline group (i + 1) fs k)

defining_file_among-outline : (j : ℕ) (gs : List Group) (k : ℕ) → defining_file_among j (map outline_group gs) k ≡ defining_file_among j gs k
defining_file_among-outline j [] k = refl
defining_file_among-outline j (g ∷ gs) k = rw (defining_file_in-outline j 0 g.files k, defining_file_among-outline (j + 1) gs k) refl

values_stay : (l m : Layout) (values : List (Option ℕ)) → outline m ≡ outline l → HasValues l values → HasValues m values
values_stay l m values same h =
    let d : Layout → List (Option ℕ) = λ n. map (raw_value n) (range_with_len 0 (length n.symbols)) in
    record { all = h.all ∙ sym (same_by_outline d (λ n. map-same (raw_value (outline n)) (raw_value n) (range_with_len 0 (length n.symbols)) (raw_value-outline n)) l m same) }

targets_stay : (l m : Layout) (targets : List (Option ℕ)) → outline m ≡ outline l → HasTargets l targets → HasTargets m targets
targets_stay l m targets same h =
    let d : Layout → List (Option ℕ) = λ n. map (target_of n) (range_with_len 0 (length targets)) in
    record {
      all = h.all ∙ sym (same_by_outline d (λ n. map-same (target_of (outline n)) (target_of n) (range_with_len 0 (length targets)) (target_of-outline n)) l m same);
      some = λ i low. ap has_targets same ∙ h.some i low;
    }

files_stay : (l m : Layout) (symbol_files : List (Option SymbolFile)) → outline m ≡ outline l → HasSymbolFiles l symbol_files → HasSymbolFiles m symbol_files
files_stay l m symbol_files same h =
    let kind : needs_dynsym l.kind ≡ needs_dynsym m.kind = sym (ap (λ (n : Layout). needs_dynsym n.kind) same) in
    record {
      count = λ t. h.count (kind ∙ t) ∙ sym (ap (λ (n : Layout). length n.symbols) same);
      all = λ t k low. h.all (kind ∙ t) k low ∙ sym (same_by_outline (λ n. found (symbol_file_in n) (files_of n.groups) k) (file_in-outline k) l m same);
    }

defining_files_stay : (l m : Layout) (owners : List (Option DefiningFile)) → outline m ≡ outline l → HasDefiningFiles l owners → HasDefiningFiles m owners
defining_files_stay l m owners same h = record {
  count = λ t. h.count (sym (same_by_outline layout_needs_owner_files owner_files-outline l m same) ∙ t) ∙ sym (ap (λ (n : Layout). length n.symbols) same);
  all = λ k low. h.all k low ∙ sym (same_by_outline (λ n. defining_file_among 0 n.groups k) (λ n. defining_file_among-outline 0 n.groups k) l m same);
}

indexes_stay : (l m : Layout) (indexes : List (Option ℕ)) → outline m ≡ outline l → HasIndexes l indexes → HasIndexes m indexes
indexes_stay l m indexes same h =
    let d : Layout → List (Option ℕ) = λ n. map (symbol_index n) (range_with_len 0 (length n.symbols)) in
    let kind : is_partial_link l.kind ≡ is_partial_link m.kind = sym (ap (λ (n : Layout). is_partial_link n.kind) same) in
    record { all = λ t. h.all (kind ∙ t) ∙ sym (same_by_outline d (λ n. map-same (symbol_index (outline n)) (symbol_index n) (range_with_len 0 (length n.symbols)) (symbol_index-outline n)) l m same) }

-- ---- starts of groups

start_of-outline : (j k : ℕ) (l : Layout) → start_of (outline l) j k (slice_get l.parts k) ≡ start_of l j k (slice_get l.parts k)
start_of-outline j k l = by (slice_get l.parts k)
  where
    by : (o : Option Part) → start_of (outline l) j k o ≡ start_of l j k o
    by None = refl
    by (Some p) =
        ap (λ (b : Bool). if b then 0 else if has_role role.Raw p then 0 else shares_before (outline l) k j) (is_header_only_at-outline l p.section)
        ∙ ap (written l p) (shares_before-outline l k j)

starts_stay : (l m : Layout) (j : ℕ) (starts : List ℕ) → outline m ≡ outline l → HasStarts l j starts → HasStarts m j starts
starts_stay l m j starts same h = record {
  count = h.count ∙ sym (ap (λ (n : Layout). length n.parts) same);
  each = λ k low. h.each k low ∙ sym (same_by_outline (λ n. start_of n j k (slice_get n.parts k)) (start_of-outline j k) l m same);
}

group_starts_stay : (l m : Layout) (starts : List (List ℕ)) → outline m ≡ outline l → HasGroupStarts l starts → HasGroupStarts m starts
group_starts_stay l m starts same h = record {
  count = h.count ∙ sym (length-map l.groups outline_group) ∙ sym (ap (λ (n : Layout). length n.groups) same) ∙ length-map m.groups outline_group;
  each = λ j low. starts_stay l m j _ same (h.each j low);
}

-- ---- the search table

table_stays : (l m : Layout) (t : SearchTable) → outline m ≡ outline l → IsSearchTable l t → IsSearchTable m t
table_stays l m t same h = record {
  fault = subst (FaultIsFirst t.fault) (sym (same_by_outline search_table_faults search_table_faults-outline l m same)) h.fault;
  bytes = λ kept none. h.bytes (sym (same_by_outline (λ n. is_header_only_role n role.EhFrameHdr) (λ n. is_header_only_at-outline n (section_of_part (part_with role.EhFrameHdr n.parts))) l m same) ∙ kept) none
      ∙ sym (same_by_outline search_table search_table-outline l m same);
}

-- all of it
pub prepared_stays : (l m : Layout) (p : Prepared) → outline m ≡ outline l → IsPrepared l p → IsPrepared m p
prepared_stays l m p same h = record {
  facts = record {
    needs_no_dynamic_tables = h.facts.needs_no_dynamic_tables ∙ sym (ap has_no_dynamic_tables same);
    inner_groups_have_no_tables = λ t. same_by_outline inner_groups_need_no_tables inner_needs-outline l m same ∙ h.facts.inner_groups_have_no_tables t;
    only_first_group_has_tables = λ t. others_have_none l m same (h.facts.only_first_group_has_tables t);
    frames = h.facts.frames ∙ sym (ap (λ (n : Layout). part_address (part_with role.EhFrame n.parts)) same);
  };
  symbols = record {
    named = h.symbols.named ∙ sym (ap named_sections same);
    values = values_stay l m _ same h.symbols.values;
    targets = targets_stay l m _ same h.symbols.targets;
    symbol_files = files_stay l m _ same h.symbols.symbol_files;
    owners = defining_files_stay l m _ same h.symbols.owners;
    indexes = indexes_stay l m _ same h.symbols.indexes;
    ascend = λ t. same_by_outline all_ascend ascend-outline l m same ∙ h.symbols.ascend t;
  };
  table = table_stays l m _ same h.table;
  starts = group_starts_stay l m _ same h.starts;
}
