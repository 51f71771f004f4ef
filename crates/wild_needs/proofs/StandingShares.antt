-- What a file writes that its sections do not tell is the same whether they are taken as they stand or not.
use Rattle.std.proofs.Common.{◌≡◌, ℕ, ◌+◌, ◌-◌, ◌*◌, ◌^◌, ◌<◌, ◌≤◌, min, Bool, true, false, List, [], ◌∷◌, length, drop, get_or, refl, sym, ap, ◌∙◌, arith}
use Rattle.std.specs.Prelude.{◌==◌, ◌&&◌}
use Rattle.std.specs.List.{list_all}
use Rattle.std.proofs.Common.{inl, inr}
use Rattle.std.proofs.lemmas.Bool.{cases_Bool}
use Rattle.std.proofs.lemmas.List.{drop_more, drop_all}
use Rattle.wild_types.specs.declared.file.File.{File}
use Rattle.wild_types.specs.declared.layout.Layout.{Layout}
use Rattle.wild_types.specs.declared.part.Role.{Role}
use Rattle.wild_types.specs.declared.part.Role.TheVariants as role
use Rattle.wild_types.specs.Lists.{total}
use Rattle.wild_types.specs.declared.file.Group.{Group}
use Rattle.wild_types.specs.FileSymbols.{own_symbols}
use Rattle.wild_types.specs.SymbolSlots.{lacks_slots}
use Rattle.wild_types.proofs.ListLemmas.{total-append}
use Rattle.wild_placement.specs.PlacedSections.{address_after, placed_sections, placed_file, placed_from, placed_files, file_frames, frames_at, of_last_file, sorted_sections, processed_sections}
use Rattle.wild_records.specs.Relocations.{rela_size, relr_size}
use Rattle.wild_types.specs.FileSymbols.{copies_of}
use Rattle.wild_needs.specs.declared.tally.Counted.{Counted}
use Rattle.wild_needs.specs.declared.tally.Counted.TheVariants.{Listed, Packed, Dynamic}
use Rattle.wild_needs.specs.Tallies as tallies
use Rattle.wild_needs.specs.Tallies.{counted_in}
use Rattle.wild_needs.specs.Entries.{general_count}
use Rattle.wild_needs.proofs.TallyLemmas.{sections_anywhere}
use Rattle.wild_needs.proofs.RoomLemmas.{frames_kept}
use Rattle.wild_needs.specs.DynamicStrings.{file_strings}
use Rattle.wild_needs.specs.TableSymbols.{file_items, table_strings}
use Rattle.wild_needs.specs.SlotShares.{slot_share}
use Rattle.wild_needs.specs.Needs.{reads_sections, reads_places, file_table_bytes, share, frames_room, has_plain_role, is_plain}

pub own_stands : (l : Layout) (at : ℕ) (r : Role) (f : File) → reads_sections r ≡ false → file_table_bytes l r (placed_file l at f) ≡ file_table_bytes l r f
unfolding file_strings file_items table_strings
own_stands l at role.RelaDynRelative f h = cc
own_stands l at role.RelaDynGeneral f h = cc
own_stands l at role.RelrDyn f h = cc
own_stands l at role.EhFrame f h = cc
own_stands l at role.Dynsym f h = refl
own_stands l at role.Dynstr f h = refl
own_stands l at role.GnuVersion f h = refl
own_stands l at role.GnuVersionD f h = refl
own_stands l at role.GnuVersionR f h = refl
own_stands l at role.SysvHash f h = refl
own_stands l at role.GnuHash f h = refl
own_stands l at role.Dynamic f h = refl
own_stands l at role.SymtabLocal f h = refl
own_stands l at role.SymtabGlobal f h = refl
own_stands l at role.SymtabShndxLocal f h = refl
own_stands l at role.SymtabShndxGlobal f h = refl
own_stands l at role.Strtab f h = refl
own_stands l at role.BuildId f h = refl
own_stands l at role.Property f h = refl
own_stands l at other f h = refl

pub slots_are_placed : (l : Layout) (at : ℕ) (r : Role) (f : File) → slot_share l r (placed_file l at f) ≡ slot_share l r f
unfolding slot_share
slots_are_placed l at r f = refl

-- ---- where frames begin

-- what is counted of a file stays where its frames begin elsewhere
counts_stand : (k : Counted) (l : Layout) (a b : ℕ) (f : File) → tallies.reads_places k l ≡ false → total (counted_in k l) (processed_sections l (placed_file l a f)) ≡ total (counted_in k l) (processed_sections l (placed_file l b f))
counts_stand k l a b f h =
    let own = sections_anywhere k l f a b f.sections h in
    let here = total-append (counted_in k l) (placed_sections l f a f.sections) (of_last_file f (sorted_sections l)) in
    let there = total-append (counted_in k l) (placed_sections l f b f.sections) (of_last_file f (sorted_sections l)) in
    omega (arith, own, here, there)

general_stands : (l : Layout) (a b : ℕ) (f : File) → general_count l (placed_file l a f) ≡ general_count l (placed_file l b f)
unfolding general_count
general_stands l a b f = ap (λ (n : ℕ). length (copies_of f) + n) (counts_stand Dynamic l a b f refl)

room_stands : (l : Layout) (a b : ℕ) (f : File) → frames_room l (placed_file l a f) ≡ frames_room l (placed_file l b f)
room_stands l a b f = let here = frames_kept l f a f.sections in let there = frames_kept l f b f.sections in omega (arith, here, there)

own_anywhere : (l : Layout) (r : Role) (a b : ℕ) (f : File) → reads_places l r ≡ false → file_table_bytes l r (placed_file l a f) ≡ file_table_bytes l r (placed_file l b f)
own_anywhere l role.RelaDynRelative a b f h = ap (λ (n : ℕ). rela_size * n) (counts_stand Listed l a b f h)
own_anywhere l role.RelaDynGeneral a b f h = ap (λ (n : ℕ). rela_size * n) (general_stands l a b f)
own_anywhere l role.RelrDyn a b f h = ap (λ (n : ℕ). relr_size * n) (sections_anywhere Packed l f a b f.sections h)
own_anywhere l role.EhFrame a b f h = room_stands l a b f
own_anywhere l role.Dynsym a b f h = own_stands l a role.Dynsym f refl ∙ sym (own_stands l b role.Dynsym f refl)
own_anywhere l role.Dynstr a b f h = own_stands l a role.Dynstr f refl ∙ sym (own_stands l b role.Dynstr f refl)
own_anywhere l role.GnuVersion a b f h = own_stands l a role.GnuVersion f refl ∙ sym (own_stands l b role.GnuVersion f refl)
own_anywhere l role.GnuVersionD a b f h = refl
own_anywhere l role.GnuVersionR a b f h = refl
own_anywhere l role.SysvHash a b f h = refl
own_anywhere l role.GnuHash a b f h = refl
own_anywhere l role.Dynamic a b f h = own_stands l a role.Dynamic f refl ∙ sym (own_stands l b role.Dynamic f refl)
own_anywhere l role.SymtabLocal a b f h = own_stands l a role.SymtabLocal f refl ∙ sym (own_stands l b role.SymtabLocal f refl)
own_anywhere l role.SymtabGlobal a b f h = own_stands l a role.SymtabGlobal f refl ∙ sym (own_stands l b role.SymtabGlobal f refl)
own_anywhere l role.SymtabShndxLocal a b f h = own_stands l a role.SymtabShndxLocal f refl ∙ sym (own_stands l b role.SymtabShndxLocal f refl)
own_anywhere l role.SymtabShndxGlobal a b f h = own_stands l a role.SymtabShndxGlobal f refl ∙ sym (own_stands l b role.SymtabShndxGlobal f refl)
own_anywhere l role.Strtab a b f h = own_stands l a role.Strtab f refl ∙ sym (own_stands l b role.Strtab f refl)
own_anywhere l role.BuildId a b f h = refl
own_anywhere l role.Property a b f h = refl
own_anywhere l other a b f h = refl

share_stands : (l : Layout) (r : Role) (a b : ℕ) (f : File) → reads_places l r ≡ false → share l r (placed_file l a f) ≡ share l r (placed_file l b f)
share_stands l r a b f h =
    let own = own_anywhere l r a b f h in
    let slots : slot_share l r (placed_file l a f) ≡ slot_share l r (placed_file l b f) = slots_are_placed l a r f ∙ sym (slots_are_placed l b r f) in
    omega (arith, own, slots)

files_stand : (l : Layout) (r : Role) (a b : ℕ) (fs : List File) → reads_places l r ≡ false → total (share l r) (placed_from l a fs) ≡ total (share l r) (placed_from l b fs)
files_stand l r a b [] h = refl
files_stand l r a b (f ∷ fs) h =
    let here = share_stands l r a b f h in
    let rest = files_stand l r (address_after a (file_frames l f)) (address_after b (file_frames l f)) fs h in
    omega (arith, here, rest)

-- ---- the files of a group

from_drop : (l : Layout) (at : ℕ) (fs : List File) (i : ℕ) (f : File) → i < length fs → f ≡ get_or fs i f → placed_from l at (drop i fs) ≡ placed_file l at f ∷ placed_from l (address_after at (file_frames l f)) (drop (i + 1) fs)
from_drop l at fs i f low read = ap (placed_from l at) (drop_more fs i f low ∙ ap (λ (x : File). x ∷ drop (i + 1) fs) (sym read))

-- behind a file the others' shares are the same, where the role asks where frames begin, or it does not
rest_stands : (l : Layout) (r : Role) (at there : ℕ) (n : ℕ) (fs : List File) → (reads_places l r ≡ true → there ≡ address_after at n) → total (share l r) (placed_from l there fs) ≡ total (share l r) (placed_from l (address_after at n) fs)
rest_stands l r at there n fs h =
    elim (cases_Bool (reads_places l r)) [
      | inl t ↦ ap (λ (a : ℕ). total (share l r) (placed_from l a fs)) (h t)
      | inr f ↦ files_stand l r there (address_after at n) fs f
    ]

-- a file more
pub file_next : (l : Layout) (r : Role) (at : ℕ) (fs : List File) (i : ℕ) (f : File) (sum n next there all : ℕ) → i < length fs → f ≡ get_or fs i f
    → n ≡ min (2 ^ 64 - 1) (share l r (placed_file l at f)) → next ≡ min (sum + n) (2 ^ 64 - 1) → (reads_places l r ≡ true → there ≡ address_after at (file_frames l f)) → min (2 ^ 64 - 1) (sum + total (share l r) (placed_from l at (drop i fs))) ≡ all
    → min (2 ^ 64 - 1) (next + total (share l r) (placed_from l there (drop (i + 1) fs))) ≡ all
file_next l r at fs i f sum n next there all low read is added at_next h =
    let e : total (share l r) (placed_from l at (drop i fs)) ≡ share l r (placed_file l at f) + total (share l r) (placed_from l (address_after at (file_frames l f)) (drop (i + 1) fs)) = ap (total (share l r)) (from_drop l at fs i f low read) in
    let rest = rest_stands l r at there (file_frames l f) (drop (i + 1) fs) at_next in
    omega (arith, added, is, h, e, rest)

pub files_end : (l : Layout) (r : Role) (at : ℕ) (fs : List File) (i sum all : ℕ) → length fs ≤ i → sum < 2 ^ 64 → min (2 ^ 64 - 1) (sum + total (share l r) (placed_from l at (drop i fs))) ≡ all → sum ≡ all
files_end l r at fs i sum all high small h =
    let e : total (share l r) (placed_from l at (drop i fs)) ≡ 0 = ap (λ (zs : List File). total (share l r) (placed_from l at zs)) (drop_all i fs high) in
    omega (arith, small, h, e)

pub ruleset file_loops = (files_end)

-- ---- plain files

plain_stands : (l : Layout) (a b : ℕ) (f : File) → is_plain l (placed_file l a f) ≡ is_plain l (placed_file l b f)
plain_stands l a b f =
    ap (λ (n : ℕ). has_plain_role l f && (list_all lacks_slots (own_symbols l f) && (n == 0 && frames_room l (placed_file l a f) == 0))) (general_stands l a b f)
    ∙ ap (λ (n : ℕ). has_plain_role l f && (list_all lacks_slots (own_symbols l f) && (general_count l (placed_file l b f) == 0 && n == 0))) (room_stands l a b f)

files_plain : (l : Layout) (at : ℕ) (fs : List File) → list_all (λ (f : File). is_plain l (placed_file l 0 f)) fs ≡ list_all (is_plain l) (placed_from l at fs)
files_plain l at [] = refl
files_plain l at (f ∷ fs) =
    ap (λ (b : Bool). b && list_all (λ (f : File). is_plain l (placed_file l 0 f)) fs) (plain_stands l 0 at f)
    ∙ ap (λ (b : Bool). is_plain l (placed_file l at f) && b) (files_plain l (address_after at (file_frames l f)) fs)

-- a group's files, told with frames from 0 on
pub group_is_plain : (l : Layout) (g : Group) → list_all (λ (f : File). is_plain l (placed_file l 0 f)) g.files ≡ list_all (is_plain l) (placed_files l g)
unfolding placed_files
group_is_plain l g = files_plain l (frames_at l g) g.files
