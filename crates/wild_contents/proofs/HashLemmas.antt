-- Laws of the numbers that writers of hash tables ask for.
use Rattle.std.proofs.Common.{◌≡◌, ℕ, ◌+◌, ◌-◌, ◌^◌, ◌<◌, inl, inr, List, [], ◌∷◌, ◌++◌, length, refl, arith}
use Rattle.std.specs.Prelude.{min, Some}
use Rattle.std.proofs.lemmas.Bool.{cases_Bool}
use Rattle.std.proofs.lemmas.List.{length-append, length-map}
use Rattle.wild_types.specs.declared.symbol.Symbol.{Symbol}
use Rattle.wild_types.specs.declared.file.FileRole.{FileRole}
use Rattle.wild_types.specs.declared.file.File.{File}
use Rattle.wild_types.specs.declared.file.Group.{Group}
use Rattle.wild_types.specs.declared.layout.SysvHash.{SysvHash}
use Rattle.wild_types.specs.declared.layout.GnuHash.{GnuHash}
use Rattle.wild_types.specs.declared.layout.DynamicSymbol.{DynamicSymbol}
use Rattle.wild_types.specs.declared.layout.Layout.{Layout}
use Rattle.wild_types.specs.FileSymbols.{range_of}
use Rattle.wild_needs.specs.DynamicSymbols.{is_undefined_entry, places_where, undefined_in, undefined_entries, listed, first_listed}
use Rattle.wild_types.specs.Lists.{total}
use Rattle.wild_types.specs.Lookups.{files_of}
use Rattle.wild_layout.specs.Geometry.{IsLaidOut}
use Rattle.wild_contents.specs.Hashes.{symbol_undefined, file_undefined, group_undefined}
use Rattle.wild_sections.specs.Fits.{SysvStands, GnuStands}

-- ---- symbols that other modules define

length-places : (role : FileRole) (i : ℕ) (ss : List Symbol) → length (places_where (is_undefined_entry role) i ss) ≡ total (symbol_undefined role) ss
length-places role i [] = refl
length-places role i (s ∷ ss) = elim (cases_Bool (is_undefined_entry role s)) [
  | inl t ↦ (let e = length-places role (i + 1) ss in rw t (omega (arith, e)))
  | inr f ↦ (let e = length-places role (i + 1) ss in rw f (omega (arith, e)))
]

length-files : (l : Layout) (fs : List File) → length (undefined_entries l.symbols fs) ≡ total (file_undefined l) fs
length-files l [] = refl
length-files l (f ∷ fs) =
    let a = length-append (undefined_in l.symbols f) (undefined_entries l.symbols fs) in
    let b = length-places f.role f.first_symbol (range_of l.symbols f) in
    let c = length-files l fs in
    omega (arith, a, b, c)

files-append : (l : Layout) (fs gs : List File) → length (undefined_entries l.symbols (fs ++ gs)) ≡ length (undefined_entries l.symbols fs) + length (undefined_entries l.symbols gs)
files-append l [] gs = omega arith
files-append l (f ∷ fs) gs =
    let a = length-append (undefined_in l.symbols f) (undefined_entries l.symbols (fs ++ gs)) in
    let b = length-append (undefined_in l.symbols f) (undefined_entries l.symbols fs) in
    let c = files-append l fs gs in
    omega (arith, a, b, c)

length-groups : (l : Layout) (gs : List Group) → length (undefined_entries l.symbols (files_of gs)) ≡ total (group_undefined l) gs
length-groups l [] = refl
length-groups l (g ∷ gs) =
    let a = files-append l g.files (files_of gs) in
    let b = length-files l g.files in
    let c = length-groups l gs in
    omega (arith, a, b, c)

-- the position of the first symbol that the output defines, as it is counted
pub first_is : (l : Layout) (n : ℕ) → n ≡ min (2 ^ 64 - 1) (total (group_undefined l) l.groups) → first_listed l < 2 ^ 32 → n + 1 ≡ first_listed l
first_is l n is few = let e = length-groups l l.groups in omega (arith, is, few, e)

-- ---- shapes

-- all symbols of the table have indexes
few_listed : (l : Layout) → IsLaidOut l → first_listed l + length l.dynsyms < 2 ^ 32
few_listed l h =
    let a = h.indexes in
    let b = length-append (undefined_entries l.symbols (files_of l.groups)) (listed l.dynsyms) in
    let c : length (listed l.dynsyms) ≡ length l.dynsyms = length-map l.dynsyms (λ (d : DynamicSymbol). d.symbol) in
    omega (arith, a, b, c)

pub sysv_stands : (l : Layout) → IsLaidOut l → (h : SysvHash) → l.sysv_hash ≡ Some h → SysvStands l h
sysv_stands l laid h is = record { some = laid.hashes.sysv h is; few = few_listed l laid }

pub gnu_stands : (l : Layout) → IsLaidOut l → (h : GnuHash) → l.gnu_hash ≡ Some h → GnuStands l h
gnu_stands l laid h is =
    let shape = laid.hashes.gnu h is in
    record { some = shape.some_bucket; some_bloom = shape.some_bloom; short = shape.short_shift; base = shape.base; few = few_listed l laid }
