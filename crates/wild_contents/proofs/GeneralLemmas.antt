-- Laws of the entries that name a symbol or a resolver.
use Rattle.std.proofs.Common.{◌≡◌, ℕ, Bool, true, false, List, [], ◌∷◌, ◌++◌, map, refl, sym, ap, ◌∙◌}
use Rattle.std.specs.Prelude.{Some, None, option_to_list, if◌then◌else◌}
use Rattle.std.specs.List.{flat_map, filter}
use Rattle.std.proofs.lemmas.List.Concat.{flat_map-append}
use Rattle.wild_records.specs.declared.relocations.Rela.{Rela}
use Rattle.wild_records.specs.Relocations.{rela_fields}
use Rattle.wild_words.specs.Record.{spell}
use Rattle.wild_words.proofs.ListLemmas.{flat_map-flat_map}
use Rattle.wild_types.specs.declared.input.InputSection.{InputSection}
use Rattle.wild_types.specs.declared.file.File.{File}
use Rattle.wild_types.specs.declared.layout.Layout.{Layout}
use Rattle.wild_needs.specs.Entries.{has_dynamic_entry, dynamic_relocations}
use Rattle.wild_types.specs.FileSymbols.{copies_of}
use Rattle.wild_types.specs.Lookups.{is_read}
use Rattle.wild_slot.specs.Treatment.{treatment}
use Rattle.wild_placement.specs.PlacedSections.{processed_sections}
use Rattle.wild_table_formats.specs.RelativeEntries.{rela_bytes}
use Rattle.wild_layout.specs.DynamicRelocations.{dynamic_relocation, section_generals, copy_entry, file_generals}
use Rattle.wild_contents.specs.General.{dynamic_relocation_in, dynamic_relocation_bytes, section_general_bytes, copy_bytes}
use Rattle.wild_contents.proofs.FileTableLemmas.{none_added}

rela-append : (es fs : List Rela) → rela_bytes (es ++ fs) ≡ rela_bytes es ++ rela_bytes fs
rela-append es fs = flat_map-append (λ (r : Rela). spell (rela_fields r)) es fs

-- ---- sections

kept_bytes : {X : Type 0} (p : X → Bool) (e : X → Rela) (x : X) (rest : List X) (b : Bool) → rela_bytes (map e (if b then x ∷ rest else rest)) ≡ rela_bytes (option_to_list (if b then Some (e x) else None)) ++ rela_bytes (map e rest)
kept_bytes p e x rest true = rela-append (e x ∷ []) (map e rest)
kept_bytes p e x rest false = refl

kept : {X : Type 0} (p : X → Bool) (e : X → Rela) (xs : List X) → rela_bytes (map e (filter p xs)) ≡ flat_map (λ x. rela_bytes (option_to_list (if p x then Some (e x) else None))) xs
kept p e [] = refl
kept p e (x ∷ xs) = kept_bytes p e x (filter p xs) (p x) ∙ ap (λ (bs : List ℕ). rela_bytes (option_to_list (if p x then Some (e x) else None)) ++ bs) (kept p e xs)

pub section_left : (l : Layout) (s : InputSection) → is_read s ≡ true → section_general_bytes l s ≡ flat_map (dynamic_relocation_bytes l s) s.relocations
unfolding section_general_bytes section_generals dynamic_relocations dynamic_relocation_bytes dynamic_relocation_in
section_left l s h = rw h (kept (λ r. has_dynamic_entry (treatment l s.flags r)) (dynamic_relocation l s.address s.flags) s.relocations)

pub section_unread : (l : Layout) (s : InputSection) → is_read s ≡ false → section_general_bytes l s ≡ []
unfolding section_general_bytes section_generals dynamic_relocations
section_unread l s h = rw h refl

pub none_left : (l : Layout) (s : InputSection) (bytes : List ℕ) → is_read s ≡ false → bytes ≡ bytes ++ section_general_bytes l s
none_left l s bytes h = none_added bytes (section_general_bytes l s) (section_unread l s h)

-- ---- copies

copied : (l : Layout) (is : List ℕ) → rela_bytes (map (copy_entry l) is) ≡ flat_map (copy_bytes l) is
unfolding copy_bytes
copied l [] = refl
copied l (i ∷ is) = rela-append (copy_entry l i ∷ []) (map (copy_entry l) is) ∙ ap (λ (bs : List ℕ). rela_bytes (copy_entry l i ∷ []) ++ bs) (copied l is)

-- ---- files

of_sections : (l : Layout) (ss : List InputSection) → rela_bytes (flat_map (section_generals l) ss) ≡ flat_map (section_general_bytes l) ss
unfolding section_general_bytes
of_sections l ss = sym (sym (flat_map-flat_map _ (section_generals l) ss))

-- the bytes of a file's entries
pub generals_are : (l : Layout) (f : File) → rela_bytes (file_generals l f) ≡ flat_map (copy_bytes l) (copies_of f) ++ flat_map (section_general_bytes l) (processed_sections l f)
unfolding file_generals
generals_are l f =
    rela-append (map (copy_entry l) (copies_of f)) (flat_map (section_generals l) (processed_sections l f))
    ∙ ap (λ (bs : List ℕ). bs ++ rela_bytes (flat_map (section_generals l) (processed_sections l f))) (copied l (copies_of f))
    ∙ ap (λ (bs : List ℕ). flat_map (copy_bytes l) (copies_of f) ++ bs) (of_sections l (processed_sections l f))
