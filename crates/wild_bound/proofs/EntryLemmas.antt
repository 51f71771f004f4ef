-- The fields of an own symbol's entry in the dynamic symbol table.
use Rattle.wild_bound.proofs.Common.{◌≡◌, ℕ, zero, suc, ◌+◌, ◌-◌, ◌%◌, ◌^◌, ◌<◌, ◌⊎◌, inl, inr, Bool, true, false, if◌then◌else◌, List, [], ◌∷◌, ◌++◌, length, map, All, refl, sym, ap, ◌∙◌, arith, subst, Option, Some, None, ◌==◌, ◌&&◌, nat_lt, slice_get, option_map, codes, cases_Bool, and_parts, ne_eqb, All-nil, holds_at, shn_undef, File, DynamicSymbol, Layout, Resolution, Symbol, has_flag, absolute, files_of, is_thread_symbol, IsSymbol, HasPlainEntry}
use Rattle.std.proofs.lemmas.Bool.{cases_lt, ltb-true}
use Rattle.std.proofs.lemmas.List.Elements.{All-cons}
use Rattle.std.proofs.lemmas.Option.{slice_get-map}
use Rattle.wild_words.proofs.ListLemmas.{ItemAt-within, All-flat_map}
use Rattle.wild_records.specs.Abi.Section.{shn_abs, shn_loreserve}
use Rattle.wild_records.specs.SymbolSections.{split_index}
use Rattle.wild_types.specs.declared.file.FileRole.{FileRole}
use Rattle.wild_types.specs.declared.symbol.Place.{Place}
use Rattle.wild_types.specs.declared.symbol.Place.TheVariants as at
use Rattle.wild_types.specs.FileRoles.{is_library}
use Rattle.wild_types.specs.Flags.{copy_relocation, canonical_plt}
use Rattle.wild_types.specs.Lookups.{file_of}
use Rattle.wild_types.specs.SymbolSlots.{plt_of}
use Rattle.wild_needs.specs.DynamicStrings.{undefined_symbols}
use Rattle.wild_needs.specs.DynamicSymbols.{undefined_entries, dynamic_symbols, listed as indexes_of, output_section}
use Rattle.wild_table_formats.specs.declared.symbols.SymbolFields.{SymbolFields}
use Rattle.wild_table_formats.specs.DynamicEntries.{NamedFields, or_none, listed, undefined}
use Rattle.wild_table_formats.specs.DynamicFields.{own_attributes, in_section, resolved_value, value_in, common_section, some_section, placed_fields, fields_at, canonical_fields, section_named, exported_fields_in, role_of}
use Rattle.wild_names.specs.Laws.{table_symbols}
use Rattle.wild_names.proofs.NumberedLemmas.{defined_elsewhere, length-elsewhere, slice_get-second_list}

-- ---- the fields

-- a value that counts from a start if it is thread-local and not absolute
abbrev pub counted_value : (thread still : Bool) → ℕ → ℕ → ℕ
counted_value thread still raw start = if thread then (if still then raw else (raw + (2 ^ 64 - start)) % 2 ^ 64) else raw

-- the fields are those of an own symbol, which is defined
pub record HasOwnFields (l : Layout) (s : Symbol) (r : Resolution) (f : SymbolFields) : Type 0 where
  pub small : f.section < 2 ^ 16
  pub still : (f.section == shn_abs) ≡ has_flag s.flags absolute
  pub value : f.value ≡ counted_value (is_thread_symbol s) (has_flag s.flags absolute) r.raw_value l.tls.start
  pub info : f.attributes.info ≡ s.info
  pub size : f.attributes.size ≡ s.size

-- or the entry is undefined
abbrev pub AreUndefinedOrOwn : Layout → Symbol → Resolution → SymbolFields → Type 0
AreUndefinedOrOwn l s r f = (f.section ≡ shn_undef) ⊎ HasOwnFields l s r f

-- a header index is no special index of absolute symbols
split_is : (k : ℕ) → ((split_index k).0 < 2 ^ 16) × (((split_index k).0 == shn_abs) ≡ false)
split_is k =
    elim (cases_Bool (nat_lt k shn_loreserve)) [
      | inl t ↦ (let lt : k < 0xff00 = ltb-true _ _ t in let other : (k == 0xfff1) ≡ false = ne_eqb k 0xfff1 (λ e. omega (arith, e, lt)) in rw t (omega (arith, lt), other))
      | inr f ↦ rw f (omega arith, refl)
    ]

in_section_is : (l : Layout) (s : Symbol) (r : Resolution) (i : ℕ) (section : Option ℕ) (v : ℕ) → has_flag s.flags absolute ≡ false → v ≡ counted_value (is_thread_symbol s) (has_flag s.flags absolute) r.raw_value l.tls.start → AreUndefinedOrOwn l s r (or_none (in_section i section v (own_attributes s)))
in_section_is l s r i None v moves value = inl refl
in_section_is l s r i (Some k) v moves value = inr (record { small = (split_is k).0; still = (split_is k).1 ∙ sym moves; value = value; info = refl; size = refl })

counted_plain : (thread still : Bool) (raw start : ℕ) → thread ≡ false → raw ≡ counted_value thread still raw start
counted_plain true still raw start h = cc
counted_plain false still raw start h = refl

counted_still : (thread still : Bool) (raw start : ℕ) → still ≡ true → raw ≡ counted_value thread still raw start
counted_still true true raw start h = refl
counted_still true false raw start h = cc
counted_still false still raw start h = refl

counted_moves : (thread still : Bool) (raw start : ℕ) → still ≡ false → (if thread then (raw + (2 ^ 64 - start)) % 2 ^ 64 else raw) ≡ counted_value thread still raw start
counted_moves true true raw start h = cc
counted_moves true false raw start h = refl
counted_moves false still raw start h = refl

resolved_is : (s : Symbol) (r : Resolution) → s.resolution ≡ Some r → resolved_value s ≡ r.raw_value
resolved_is s r decided = rw decided refl

value_is : (l : Layout) (s : Symbol) (r : Resolution) → s.resolution ≡ Some r → has_flag s.flags absolute ≡ false → value_in l s ≡ counted_value (is_thread_symbol s) (has_flag s.flags absolute) r.raw_value l.tls.start
value_is l s r decided moves =
    ap (λ (raw : ℕ). if is_thread_symbol s then (raw + (2 ^ 64 - l.tls.start)) % 2 ^ 64 else raw) (resolved_is s r decided)
    ∙ counted_moves (is_thread_symbol s) (has_flag s.flags absolute) r.raw_value l.tls.start moves

placed_is : (l : Layout) (s : Symbol) (r : Resolution) (i : ℕ) (section : Option ℕ) → HasPlainEntry l s r → s.resolution ≡ Some r → has_flag s.flags absolute ≡ false → AreUndefinedOrOwn l s r (or_none (placed_fields l i s section))
placed_is l s r i section plain decided moves = rw plain.stub (in_section_is l s r i section (value_in l s) moves (value_is l s r decided moves))

place_is : (l : Layout) (s : Symbol) (r : Resolution) (i section : ℕ) (p : Place) → s.place ≡ p → HasPlainEntry l s r → s.resolution ≡ Some r → AreUndefinedOrOwn l s r (or_none (fields_at l i s section p))
place_is l s r i section at.Undefined is plain decided = inl refl
place_is l s r i section at.Absolute is plain decided =
    let still : true ≡ has_flag s.flags absolute = rw is at plain.still in
    inr (record {
      small = omega arith;
      still = still;
      value = plain.value is ∙ counted_still (is_thread_symbol s) (has_flag s.flags absolute) r.raw_value l.tls.start (sym still);
      info = refl;
      size = refl;
    })
place_is l s r i section at.Common is plain decided = (let moves : false ≡ has_flag s.flags absolute = rw is at plain.still in placed_is l s r i (common_section l s) plain decided (sym moves))
place_is l s r i section (at.Section k) is plain decided = (let moves : false ≡ has_flag s.flags absolute = rw is at plain.still in placed_is l s r i (some_section section) plain decided (sym moves))
place_is l s r i section (at.Output k) is plain decided = (let moves : false ≡ has_flag s.flags absolute = rw is at plain.still in placed_is l s r i (some_section section) plain decided (sym moves))

canonical_is : (i : ℕ) (s : Symbol) (p : Place) (stub : Option ℕ) → (or_none (canonical_fields i s p stub)).section ≡ shn_undef
canonical_is i s at.Undefined stub = refl
canonical_is i s at.Absolute None = refl
canonical_is i s at.Absolute (Some a) = refl
canonical_is i s at.Common None = refl
canonical_is i s at.Common (Some a) = refl
canonical_is i s (at.Section k) None = refl
canonical_is i s (at.Section k) (Some a) = refl
canonical_is i s (at.Output k) None = refl
canonical_is i s (at.Output k) (Some a) = refl

-- the fields of an exported symbol whose entry is plain
fields_are : (l : Layout) (s : Symbol) (r : Resolution) (i : ℕ) (role : FileRole) (section : ℕ) → HasPlainEntry l s r → s.resolution ≡ Some r → AreUndefinedOrOwn l s r (or_none (exported_fields_in l i role s section))
fields_are l s r i role section plain decided =
    elim (cases_Bool (is_library role && has_flag s.flags canonical_plt)) [
      | inl t ↦ rw t (inl (canonical_is i s s.place (plt_of s)))
      | inr f ↦ elim (cases_Bool (is_library role && has_flag s.flags copy_relocation)) [
        | inl t ↦
            (let copied = plain.copied (and_parts (is_library role) (has_flag s.flags copy_relocation) t).1 in
            rw (f, t) (in_section_is l s r i (section_named l (codes ".bss")) (resolved_value s) copied.1 (resolved_is s r decided ∙ counted_plain (is_thread_symbol s) (has_flag s.flags absolute) r.raw_value l.tls.start copied.0)))
        | inr g ↦ rw (f, g) (place_is l s r i section s.place refl plain decided)
      ]
    ]

-- ---- the entry at a symbol's index

-- what the table has at place j, where symbol c is, is the symbol's
pub record HasTableEntry (l : Layout) (s : Symbol) (r : Resolution) (j : ℕ) : Type 0 where
  pub fields : NamedFields
  pub is : slice_get (table_symbols l) j ≡ Some fields
  pub are : AreUndefinedOrOwn l s r fields.fields

all_undefined : (role : FileRole) (ss : List Symbol) → All (λ (n : NamedFields). n.fields.section ≡ shn_undef) (map (undefined role) ss)
all_undefined role [] = All-nil (λ (n : NamedFields). n.fields.section ≡ shn_undef)
all_undefined role (s ∷ ss) = All-cons (λ (n : NamedFields). n.fields.section ≡ shn_undef) (undefined role s) (map (undefined role) ss) refl (all_undefined role ss)

front_undefined : (l : Layout) → All (λ (n : NamedFields). n.fields.section ≡ shn_undef) (defined_elsewhere l (files_of l.groups))
front_undefined l = All-flat_map (λ (n : NamedFields). n.fields.section ≡ shn_undef) (λ (f : File). map (undefined f.role) (undefined_symbols l.symbols f)) (files_of l.groups) (λ k d lt. all_undefined _ _)

before : {X : Type 0} (xs ys : List X) (k : ℕ) (x : X) → slice_get xs k ≡ Some x → slice_get (xs ++ ys) k ≡ Some x
before [] ys k x h = (let no : None ≡ Some x = h in let bad : ⊥ = cc in absurd bad)
before (y ∷ xs) ys zero x h = h
before (y ∷ xs) ys (suc k) x h = before xs ys k x h

-- the exported symbol at a place
record ExportedAt (ds : List DynamicSymbol) (k c : ℕ) : Type 0 where
  item : DynamicSymbol
  is : slice_get ds k ≡ Some item
  symbol : item.symbol ≡ c

exported_at : (ds : List DynamicSymbol) (k c : ℕ) → slice_get (indexes_of ds) k ≡ Some c → ExportedAt ds k c
exported_at [] k c h = (let no : None ≡ Some c = h in let bad : ⊥ = cc in absurd bad)
exported_at (d ∷ ds) zero c h = (let e : d.symbol ≡ c = cc in record { item = d; is = refl; symbol = e })
exported_at (d ∷ ds) (suc k) c h = (let rest = exported_at ds k c h in record { item = rest.item; is = rest.is; symbol = rest.symbol })

listed_is : (l : Layout) (s : Symbol) (r : Resolution) (d : DynamicSymbol) → IsSymbol l d.symbol s → HasPlainEntry l s r → s.resolution ≡ Some r → AreUndefinedOrOwn l s r (listed l d).fields
listed_is l s r d there plain decided =
    rw there (fields_are l s r d.symbol (role_of (file_of (files_of l.groups) d.symbol)) (output_section l (file_of (files_of l.groups) d.symbol) s.place) plain decided)

pub table_entry : (l : Layout) (c j : ℕ) (s : Symbol) (r : Resolution) → slice_get (dynamic_symbols l) j ≡ Some c → IsSymbol l c s → HasPlainEntry l s r → s.resolution ≡ Some r → HasTableEntry l s r j
table_entry l c j s r h there plain decided =
    let front = defined_elsewhere l (files_of l.groups) in
    let others = undefined_entries l.symbols (files_of l.groups) in
    let long = length-elsewhere l (files_of l.groups) in
    elim (cases_lt j (length front)) [
      | inl lt ↦
          (let item = ItemAt-within front j lt in
          record { fields = item.item; is = before front (map (listed l) l.dynsyms) j item.item item.is; are = inl (holds_at (λ (n : NamedFields). n.fields.section ≡ shn_undef) front j item.item item.is (front_undefined l)) })
      | inr ge ↦
          (let k = j - length front in
          let place : length front + k ≡ j = omega (arith, ge) in
          let other : j ≡ length others + k = omega (arith, ge, long) in
          let here : slice_get (others ++ indexes_of l.dynsyms) (length others + k) ≡ Some c = subst (λ (q : ℕ). slice_get (dynamic_symbols l) q ≡ Some c) other h in
          let d = exported_at l.dynsyms k c (sym (slice_get-second_list others (indexes_of l.dynsyms) k) ∙ here) in
          let exported : slice_get (map (listed l) l.dynsyms) k ≡ Some (listed l d.item) = slice_get-map (listed l) l.dynsyms k ∙ ap (λ (q : Option DynamicSymbol). option_map (listed l) q) d.is in
          record {
            fields = listed l d.item;
            is = subst (λ (q : ℕ). slice_get (table_symbols l) q ≡ Some (listed l d.item)) place (slice_get-second_list front (map (listed l) l.dynsyms) k ∙ exported);
            are = listed_is l s r d.item (subst (λ (q : ℕ). IsSymbol l q s) (sym d.symbol) there) plain decided;
          })
    ]
