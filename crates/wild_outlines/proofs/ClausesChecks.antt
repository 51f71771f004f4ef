-- The clauses that read neither the bytes nor the relocations of a section that may be changed: they are the same for the outline.
use Rattle.wild_outlines.proofs.Common.{◌≡◌, true, length, Option, Some, None, refl, ap, ◌==◌, slice_get, InputSection, File, Group, Merged, GnuHash, Layout, outline_section, outline_file, outline_group, outline}
use Rattle.wild_types.specs.Parts.{part_with}
use Rattle.wild_types.specs.declared.part.Role.TheVariants as role
use Rattle.wild_needs.specs.HashShapes.{gnu_fits}
use Rattle.wild_needs.specs.DynamicSymbols.{first_listed}
use Rattle.wild_plan_rules.specs.ClauseTests.{check_sizes, check_order, check_sections, check_entries, check_segments, check_shares, check_inputs, check_slots, check_thunks, check_dynsyms, check_slot_flags, check_tls, check_starts, check_hashes, check_versions, check_names, check_fronts}
use Rattle.wild_plan_rules.specs.Places.{ends_low, part_lies}
use Rattle.wild_plan_rules.specs.LoadedTables.{table_is_loaded}
use Rattle.wild_plan_rules.specs.Contents.{addresses, has_share_for_each_part, names_sorted, length_fits, frames_part_fits, discarded_is_empty, part_is_raw, merged_is_raw, allocation_agrees, bytes_take_room, merged_is_raw}
use Rattle.wild_plan_rules.specs.GroupStarts.{start_places, no_starts}
use Rattle.wild_plan_rules.specs.SlotFlags.{dynamic_is_interposable, stub_is_value, stub_has_slot, one_slot_for_address, thread_slot_alone, resolver_is_own, slot_agrees, resolver_moves, second_slot_fits}
use Rattle.wild_plan_rules.specs.Fronts.{merged_size, merged_fits, headers_are_kept}
use Rattle.wild_plan_rules.specs.ZeroFree.{input_name_fits, file_names_fit, group_names_fit}
use Rattle.wild_needs.specs.Versions.{need_count}
use Rattle.wild_outlines.proofs.ChangedItems.{length-outline}
use Rattle.wild_outlines.proofs.ClausesTests.{failing-same, image_size-outline, part_out_of_order-outline, part_lies-outline, headers_are_kept-outline, dynamic_astray-outline, table_is_loaded-outline, merged_is_raw-outline, identity_is_raw-outline, holds_thunks-outline, first_tested_failing-outline, pair_follows_by-outline}
use Rattle.wild_outlines.proofs.ClausesGroups.{list_all-mapped, failing-mapped, failing_sections-outline, names_sorted-outline, share_mismatch-outline, first_misplaced_file-outline, misplaced_place-outline, sorted_named_once-outline, front_is_free-outline, undefined_entries-outline, first_listed-outline, first_misplaced_listed-outline, start_astray-outline, need_count-outline, mark_astray-outline, given_by-outline}
use Rattle.wild_outlines.proofs.ClausesSlots.{slots_astray-outline, thunks_misplaced-outline, block_lost-outline}

pub check_sizes-outline : (l : Layout) → check_sizes (outline l) ≡ check_sizes l
unfolding check_sizes
check_sizes-outline l = rw (failing_sections-outline (λ (s : InputSection). ends_low s.address s.size) (λ (s : InputSection). ends_low s.address s.size) (λ s. refl) 0 l.groups) refl

pub check_order-outline : (l : Layout) → check_order (outline l) ≡ check_order l
unfolding check_order
check_order-outline l = rw (part_out_of_order-outline l 0 0 l.parts) refl

pub check_sections-outline : (l : Layout) → check_sections (outline l) ≡ check_sections l
unfolding check_sections
check_sections-outline l = rw (failing-same (part_lies (outline l)) (part_lies l) (part_lies-outline l) 0 l.parts) refl

pub check_segments-outline : (l : Layout) → check_segments (outline l) ≡ check_segments l
unfolding check_segments check_entries
check_segments-outline l =
    rw (image_size-outline l, dynamic_astray-outline l (part_with role.Dynamic l.parts) 0 l.segments, failing-same (table_is_loaded (outline l)) (table_is_loaded l) (table_is_loaded-outline l) 0 l.parts) refl

pub check_shares-outline : (l : Layout) → check_shares (outline l) ≡ check_shares l
unfolding check_shares
check_shares-outline l =
    rw (share_mismatch-outline l.groups 0 l.parts, failing-mapped (has_share_for_each_part (length l.parts)) (has_share_for_each_part (length l.parts)) outline_group (λ g. refl) 0 l.groups, first_misplaced_file-outline true 0 l.groups) refl

length_fits-outline : (s : InputSection) → length_fits (outline_section s) ≡ length_fits s
length_fits-outline s = rw (length-outline s) refl

discarded_is_empty-outline : (s : InputSection) → discarded_is_empty (outline_section s) ≡ discarded_is_empty s
discarded_is_empty-outline s = rw (length-outline s) refl

bytes_take_room-outline : (l : Layout) (s : InputSection) → bytes_take_room (outline l) (outline_section s) ≡ bytes_take_room l s
bytes_take_room-outline l s = rw (length-outline s) refl

pub check_inputs-outline : (l : Layout) → check_inputs (outline l) ≡ check_inputs l
unfolding check_inputs
check_inputs-outline l =
    rw (
      misplaced_place-outline l,
      sorted_named_once-outline l 0 l.groups,
      failing-same (names_sorted (outline l)) (names_sorted l) (names_sorted-outline l) 0 l.sorted,
      failing_sections-outline length_fits length_fits length_fits-outline 0 l.groups,
      failing_sections-outline (frames_part_fits (outline l)) (frames_part_fits l) (λ s. refl) 0 l.groups,
      failing_sections-outline discarded_is_empty discarded_is_empty discarded_is_empty-outline 0 l.groups,
      failing_sections-outline (part_is_raw (outline l)) (part_is_raw l) (λ s. refl) 0 l.groups,
      failing-same (merged_is_raw (outline l)) (merged_is_raw l) (merged_is_raw-outline l) 0 l.merged,
      identity_is_raw-outline l,
      holds_thunks-outline l (slice_get l.parts l.primary_part),
      front_is_free-outline l,
      failing_sections-outline (allocation_agrees (outline l)) (allocation_agrees l) (λ s. refl) 0 l.groups,
      failing_sections-outline (bytes_take_room (outline l)) (bytes_take_room l) (bytes_take_room-outline l) 0 l.groups,
    )
    refl

pub check_slots-outline : (l : Layout) → check_slots (outline l) ≡ check_slots l
unfolding check_slots
check_slots-outline l = rw (slots_astray-outline l, pair_follows_by-outline l l.tlsld) refl

pub check_thunks-outline : (l : Layout) → check_thunks (outline l) ≡ check_thunks l
unfolding check_thunks
check_thunks-outline l = rw (thunks_misplaced-outline l, block_lost-outline l 0 l.thunk_blocks) refl

pub check_dynsyms-outline : (l : Layout) → check_dynsyms (outline l) ≡ check_dynsyms l
unfolding check_dynsyms
check_dynsyms-outline l = rw (undefined_entries-outline l.symbols l.groups, first_misplaced_listed-outline l (first_listed l) 0 l.dynsyms) refl

pub check_slot_flags-outline : (l : Layout) → check_slot_flags (outline l) ≡ check_slot_flags l
unfolding check_slot_flags
check_slot_flags-outline l =
    rw (
      first_tested_failing-outline l dynamic_is_interposable 0 l.symbols,
      first_tested_failing-outline l stub_is_value 0 l.symbols,
      first_tested_failing-outline l stub_has_slot 0 l.symbols,
      first_tested_failing-outline l one_slot_for_address 0 l.symbols,
      first_tested_failing-outline l thread_slot_alone 0 l.symbols,
      first_tested_failing-outline l resolver_is_own 0 l.symbols,
      first_tested_failing-outline l slot_agrees 0 l.symbols,
      first_tested_failing-outline l resolver_moves 0 l.symbols,
      first_tested_failing-outline l (second_slot_fits l) 0 l.symbols,
    )
    refl

pub check_tls-outline : (l : Layout) → check_tls (outline l) ≡ check_tls l
unfolding check_tls
check_tls-outline l = refl

pub check_starts-outline : (l : Layout) → check_starts (outline l) ≡ check_starts l
unfolding check_starts
check_starts-outline l = rw (start_astray-outline (start_places l.parts) no_starts 0 l.groups) refl

gnu_fits-outline : (l : Layout) (o : Option GnuHash) → gnu_fits (outline l) o ≡ gnu_fits l o
gnu_fits-outline l None = refl
gnu_fits-outline l (Some h) = rw (first_listed-outline l) refl

pub check_hashes-outline : (l : Layout) → check_hashes (outline l) ≡ check_hashes l
unfolding check_hashes
check_hashes-outline l = rw (gnu_fits-outline l l.gnu_hash) refl

pub check_versions-outline : (l : Layout) → check_versions (outline l) ≡ check_versions l
unfolding check_versions
check_versions-outline l = rw (need_count-outline l.groups, mark_astray-outline (need_count l) 0 l.groups) refl

group_names_fit-outline : (g : Group) → group_names_fit (outline_group g) ≡ group_names_fit g
group_names_fit-outline g = list_all-mapped file_names_fit file_names_fit outline_file (λ (f : File). rw (list_all-mapped input_name_fits input_name_fits outline_section (λ s. refl) f.sections) refl) g.files

pub check_names-outline : (l : Layout) → check_names (outline l) ≡ check_names l
unfolding check_names
check_names-outline l = rw (failing-mapped group_names_fit group_names_fit outline_group group_names_fit-outline 0 l.groups) refl

merged_fits-outline : (l : Layout) (m : Merged) → merged_fits (outline l) m ≡ merged_fits l m
merged_fits-outline l m = ap (λ n. n == merged_size m) (given_by-outline m.part l.groups)

pub check_fronts-outline : (l : Layout) → check_fronts (outline l) ≡ check_fronts l
unfolding check_fronts
check_fronts-outline l =
    rw (failing-same (merged_fits (outline l)) (merged_fits l) (merged_fits-outline l) 0 l.merged, given_by-outline l.identity.part l.groups, failing-same (headers_are_kept (outline l)) (headers_are_kept l) (headers_are_kept-outline l) 0 l.parts) refl
