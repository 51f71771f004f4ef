-- How many entries files have in the dynamic symbol table, and how many libraries they are.
use Rattle.wild_geometry.proofs.Common.{◌≡◌, ℕ, ◌+◌, inl, inr, Bool, true, false, if◌then◌else◌, List, [], ◌∷◌, length, refl, arith, cases_Bool, length-append, length-map, Symbol, File, Group, DynamicSymbol, Layout, is_prelude, is_epilogue, total}
use Rattle.wild_needs.specs.DynamicStrings.{undefined_symbols, entry_names, next_dynstr}
use Rattle.wild_types.specs.Kinds.{needs_dynsym}
use Rattle.wild_needs.specs.Needs.{dynsym_count}
use Rattle.wild_table_formats.specs.DynamicEntries.{listed, undefined, file_symbols, entry_at, no_fields, entries_at, null_entries, offset_after_lead, file_entries, entries_from, group_symbols}
use Rattle.wild_table_formats.proofs.EntryLengths.{length-entries_at}

one_length : {X : Type 0} (b : Bool) (x : X) → length (if b then x ∷ [] else []) ≡ (if b then 1 else 0)
one_length true x = refl
one_length false x = refl

-- ---- symbols

names_length : (l : Layout) (f : File) → length (file_symbols l f) ≡ length (entry_names l f)
names_length l f =
    elim (cases_Bool (is_epilogue f.role)) [
      | inl t ↦ rw t (let a = length-map l.dynsyms (listed l) in let b = length-map l.dynsyms (λ (d : DynamicSymbol). d.name) in omega arith)
      | inr n ↦ rw n (let us = undefined_symbols l.symbols f in let a = length-map us (undefined f.role) in let b = length-map us (λ (s : Symbol). s.name) in omega arith)
    ]

file_length : (l : Layout) (at : ℕ) (f : File) → length (file_entries l at f) ≡ (if is_prelude f.role then 1 else 0) + length (entry_names l f)
file_length l at f =
    let a = length-append (null_entries f) (entries_at (offset_after_lead l at f) (file_symbols l f)) in
    let b = length-entries_at (file_symbols l f) (offset_after_lead l at f) in
    let c = names_length l f in
    let d = one_length (is_prelude f.role) (entry_at 0 no_fields) in
    omega arith

files_length : (l : Layout) (at : ℕ) (fs : List File) → needs_dynsym l.kind ≡ true → length (entries_from l at fs) ≡ total (dynsym_count l) fs
files_length l at [] needs = refl
files_length l at (f ∷ fs) needs =
    let a = length-append (file_entries l at f) (entries_from l (next_dynstr l at f) fs) in
    let b = file_length l at f in
    let c = files_length l (next_dynstr l at f) fs needs in
    let d : dynsym_count l f ≡ (if is_prelude f.role then 1 else 0) + length (entry_names l f) = rw needs refl in
    omega arith

-- a group has as many entries as its files
pub length-group_symbols : (l : Layout) (g : Group) → length (group_symbols l g) ≡ total (dynsym_count l) g.files
unfolding group_symbols
length-group_symbols l g =
    elim (cases_Bool (needs_dynsym l.kind)) [
      | inl t ↦ rw t (files_length l g.dynstr_start g.files t)
      | inr n ↦ rw n (let e = none l g.files n in omega arith)
    ]
  where
    none : (l : Layout) (fs : List File) → needs_dynsym l.kind ≡ false → total (dynsym_count l) fs ≡ 0
    none l [] h = refl
    none l (f ∷ fs) h =
        let a = none l fs h in
        let b : dynsym_count l f ≡ 0 = rw h refl in
        omega arith
