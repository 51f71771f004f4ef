-- What relocations have tables fill: addresses that move with the base, and fields that are left to entries.
use Rattle.wild_layout.specs.Merged.{address_for}
use Rattle.wild_loaded.proofs.Common.{◌≡◌, ℕ, inl, inr, Bool, true, false, not, List, [], ◌∷◌, map, refl, sym, ap, ◌∙◌, Option, Some, None, Result, Ok, Err, option_to_list, option_map, if◌then◌else◌, ◌&&◌, ◌==◌, slice_get, flat_map, cases_Bool, flat_map-same, flat_map-flat_map, Rela, Fault, InputRelocation, InputSection, Item, item_with, Layout, Treatment, place_of, packs, is_read, allocated, is_relative, relr_place, relr_places, has_flag, is_position_independent, type_of, flags_at, treatment, size_width, Absolute, Irelative, RelocationSize, ByteSize, Eight, Decision, RelativeAddress, DynamicField, decided_address, index_of, addend_bits, decided, entry_for, section_generals, relative_value, listed_entry, section_entries, IsMoved, decided_left, relative_entry}
use Rattle.std.specs.List.{filter}
use Rattle.wild_words.proofs.Basics.{flat_map-none}
use Rattle.wild_slot.specs.declared.treatment.Treatment.TheVariants as treatments
use Rattle.wild_needs.specs.Entries.{is_base_relative, relative_items, has_dynamic_entry, dynamic_relocations}
use Rattle.wild_types.specs.Flags.{absolute}
use Rattle.wild_types.specs.Rows.{row_of}
use Rattle.wild_reloc.specs.Field.{field_width}
use Rattle.wild_layout.specs.SymbolValues.{sum}
use Rattle.wild_layout.specs.Decide.{relative_decision, dynamic_decision, ifunc_decision, decide_by, decide}
use Rattle.wild_layout.specs.DynamicRelocations.{dynamic_relocation_by, dynamic_relocation}
use Rattle.wild_layout.specs.Sites.{Written, written_by}
use Rattle.wild_slot.proofs.TreatmentLemmas.{known_moved}
use Rattle.wild_layout.proofs.DecideLemmas.{HasField, sized_left, decided_moved, moved_has}
use Rattle.wild_layout.proofs.DecisionLemmas.{decide_base_relative, decide_symbolic, decide_indirect, decide_extent}
use Rattle.wild_loaded.proofs.Fillings.{Filling, packed_at, relative_of, general_of, packed_in, relative_in, general_in, jump_in}

-- ---- fillings

-- an address that moves
abbrev pub moved_filling : Layout → InputSection → InputRelocation → Bool → Filling
moved_filling l s r true = packed_at (place_of s.address r)
moved_filling l s r false = relative_of (relative_entry l (place_of s.address r) (relative_value l r))

abbrev pub filling_by : Layout → InputSection → InputRelocation → Treatment → Option Filling
filling_by l s r treatments.BaseRelative = Some (moved_filling l s r (packs l (place_of s.address r)))
filling_by l s r (treatments.Symbolic i) = Some (general_of (dynamic_relocation_by l s.address r (treatments.Symbolic i)) 8)
filling_by l s r (treatments.Indirect i) = Some (general_of (dynamic_relocation_by l s.address r (treatments.Indirect i)) 8)
filling_by l s r (treatments.Extent row i) = Some (general_of (dynamic_relocation_by l s.address r (treatments.Extent row i)) (field_width row))
filling_by l s r other = None

-- that of a relocation, where it has one
abbrev pub section_filling : Layout → InputSection → InputRelocation → Option Filling
section_filling l s r = filling_by l s r (treatment l s.flags r)

-- those of a section, in the order of its relocations
abbrev pub section_fillings : Layout → InputSection → List Filling
section_fillings l s = if is_read s then flat_map (λ (r : InputRelocation). option_to_list (section_filling l s r)) s.relocations else []

-- ---- by table

known_moves : (l : Layout) (s : InputSection) (r : InputRelocation) → treatment l s.flags r ≡ treatments.BaseRelative → is_position_independent l.kind ≡ true
known_moves l s r h =
    let k = known_moved l s.flags r h in
    first_true (is_position_independent l.kind) (not (has_flag (flags_at l k.2.number) absolute)) k.2.moves
  where
    first_true : (a b : Bool) → (a && b) ≡ true → a ≡ true
    first_true true b h = refl
    first_true false b h = cc

treated : (t : Treatment) → is_base_relative t ≡ true → t ≡ treatments.BaseRelative
treated treatments.BaseRelative h = refl
treated treatments.Nothing h = cc
treated (treatments.Value row) h = cc
treated (treatments.Symbolic i) h = cc
treated (treatments.Indirect i) h = cc
treated (treatments.Extent row i) h = cc
treated treatments.Recompile h = cc
treated treatments.Unsupported h = cc

-- no address of a fixed output moves
fixed : (l : Layout) (s : InputSection) (r : InputRelocation) → is_position_independent l.kind ≡ false → is_relative l s r ≡ false
fixed l s r h =
    elim (cases_Bool (is_relative l s r)) [
      | inr f ↦ f
      | inl t ↦ absurd (let moves = known_moves l s r (treated (treatment l s.flags r) t) in let both : true ≡ false = sym moves ∙ h in cc)
    ]

-- what is made of addresses that move is made of all sections that are read
read_moved : {X : Type 0} (l : Layout) (s : InputSection) (f : InputRelocation → Option X) → ((r : InputRelocation) → is_relative l s r ≡ false → f r ≡ None) → (if is_read s then flat_map (λ (r : InputRelocation). option_to_list (f r)) s.relocations else []) ≡ relative_items l s f
read_moved {X} l s f none = by_tests (is_position_independent l.kind) (is_read s) refl
  where
    by_tests : (a b : Bool) → is_position_independent l.kind ≡ a → (if b then flat_map (λ (r : InputRelocation). option_to_list (f r)) s.relocations else []) ≡ (if a && b then flat_map (λ (r : InputRelocation). option_to_list (f r)) s.relocations else [])
    by_tests true b e = refl
    by_tests false true e = flat_map-none (λ (r : InputRelocation). option_to_list (f r)) s.relocations (λ r. ap (λ (o : Option X). option_to_list o) (none r (fixed l s r e)))
    by_tests false false e = refl

-- what is made of a section's fillings
made_of : {Y : Type 0} (g : Filling → List Y) (l : Layout) (s : InputSection) (f : InputRelocation → List Y) → ((r : InputRelocation) → flat_map g (option_to_list (section_filling l s r)) ≡ f r) → flat_map g (section_fillings l s) ≡ (if is_read s then flat_map f s.relocations else [])
made_of {Y} g l s f each = by_test (is_read s)
  where
    by_test : (b : Bool) → flat_map g (if b then flat_map (λ (r : InputRelocation). option_to_list (section_filling l s r)) s.relocations else []) ≡ (if b then flat_map f s.relocations else [])
    by_test false = refl
    by_test true = flat_map-flat_map g (λ (r : InputRelocation). option_to_list (section_filling l s r)) s.relocations ∙ flat_map-same (λ (r : InputRelocation). flat_map g (option_to_list (section_filling l s r))) f s.relocations each

pub packed_are : (l : Layout) (s : InputSection) → flat_map packed_in (section_fillings l s) ≡ relr_places l s
unfolding relr_places
packed_are l s = made_of packed_in l s (λ (r : InputRelocation). option_to_list (relr_place l s r)) (λ r. one r (treatment l s.flags r)) ∙ read_moved l s (relr_place l s) (λ r e. rw e refl)
  where
    one : (r : InputRelocation) (t : Treatment) → flat_map packed_in (option_to_list (filling_by l s r t)) ≡ option_to_list (if is_base_relative t && packs l (place_of s.address r) then Some (place_of s.address r) else None)
    one r treatments.Nothing = refl
    one r (treatments.Value row) = refl
    one r treatments.BaseRelative = by_place (packs l (place_of s.address r))
      where
        by_place : (b : Bool) → flat_map packed_in (moved_filling l s r b ∷ []) ≡ option_to_list (if b then Some (place_of s.address r) else None)
        by_place true = refl
        by_place false = refl
    one r (treatments.Symbolic i) = refl
    one r (treatments.Indirect i) = refl
    one r (treatments.Extent row i) = refl
    one r treatments.Recompile = refl
    one r treatments.Unsupported = refl

pub relatives_are : (l : Layout) (s : InputSection) → flat_map relative_in (section_fillings l s) ≡ section_entries l s
unfolding section_entries
relatives_are l s = made_of relative_in l s (λ (r : InputRelocation). option_to_list (listed_entry l s r)) (λ r. one r (treatment l s.flags r)) ∙ read_moved l s (listed_entry l s) (λ r e. rw e refl)
  where
    one : (r : InputRelocation) (t : Treatment) → flat_map relative_in (option_to_list (filling_by l s r t)) ≡ option_to_list (option_map (λ (place : ℕ). relative_entry l place (relative_value l r)) (if is_base_relative t && not (packs l (place_of s.address r)) then Some (place_of s.address r) else None))
    one r treatments.Nothing = refl
    one r (treatments.Value row) = refl
    one r treatments.BaseRelative = by_place (packs l (place_of s.address r))
      where
        by_place : (b : Bool) → flat_map relative_in (moved_filling l s r b ∷ []) ≡ option_to_list (option_map (λ (place : ℕ). relative_entry l place (relative_value l r)) (if not b then Some (place_of s.address r) else None))
        by_place true = refl
        by_place false = refl
    one r (treatments.Symbolic i) = refl
    one r (treatments.Indirect i) = refl
    one r (treatments.Extent row i) = refl
    one r treatments.Recompile = refl
    one r treatments.Unsupported = refl

map-filter : {X Y : Type 0} (f : X → Y) (p : X → Bool) (xs : List X) → flat_map (λ x. if p x then f x ∷ [] else []) xs ≡ map f (filter p xs)
map-filter f p [] = refl
map-filter f p (x ∷ xs) =
    elim (cases_Bool (p x)) [
      | inl t ↦ rw t (ap (λ ys. f x ∷ ys) (map-filter f p xs))
      | inr n ↦ rw n (map-filter f p xs)
    ]

pub generals_are : (l : Layout) (s : InputSection) → flat_map general_in (section_fillings l s) ≡ section_generals l s
unfolding section_generals dynamic_relocations
generals_are l s = made_of general_in l s (λ (r : InputRelocation). if has_dynamic_entry (treatment l s.flags r) then dynamic_relocation l s.address s.flags r ∷ [] else []) (λ r. one r (treatment l s.flags r)) ∙ by_test (is_read s)
  where
    one : (r : InputRelocation) (t : Treatment) → flat_map general_in (option_to_list (filling_by l s r t)) ≡ (if has_dynamic_entry t then dynamic_relocation_by l s.address r t ∷ [] else [])
    one r treatments.Nothing = refl
    one r (treatments.Value row) = refl
    one r treatments.BaseRelative = by_place (packs l (place_of s.address r))
      where
        by_place : (b : Bool) → flat_map general_in (moved_filling l s r b ∷ []) ≡ []
        by_place true = refl
        by_place false = refl
    one r (treatments.Symbolic i) = refl
    one r (treatments.Indirect i) = refl
    one r (treatments.Extent row i) = refl
    one r treatments.Recompile = refl
    one r treatments.Unsupported = refl

    by_test : (b : Bool) → (if b then flat_map (λ (r : InputRelocation). if has_dynamic_entry (treatment l s.flags r) then dynamic_relocation l s.address s.flags r ∷ [] else []) s.relocations else []) ≡ map (dynamic_relocation l s.address s.flags) (if b then filter (λ (r : InputRelocation). has_dynamic_entry (treatment l s.flags r)) s.relocations else [])
    by_test true = map-filter (dynamic_relocation l s.address s.flags) (λ (r : InputRelocation). has_dynamic_entry (treatment l s.flags r)) s.relocations
    by_test false = refl

-- a relocation has no entry that a stub goes through
abbrev no_jump : InputRelocation → List Rela
no_jump r = []

pub jumps_are : (l : Layout) (s : InputSection) → flat_map jump_in (section_fillings l s) ≡ []
jumps_are l s = made_of jump_in l s no_jump (λ r. one r (treatment l s.flags r)) ∙ by_test (is_read s)
  where
    one : (r : InputRelocation) (t : Treatment) → flat_map jump_in (option_to_list (filling_by l s r t)) ≡ []
    one r treatments.Nothing = refl
    one r (treatments.Value row) = refl
    one r treatments.BaseRelative = by_place (packs l (place_of s.address r))
      where
        by_place : (b : Bool) → flat_map jump_in (moved_filling l s r b ∷ []) ≡ []
        by_place true = refl
        by_place false = refl
    one r (treatments.Symbolic i) = refl
    one r (treatments.Indirect i) = refl
    one r (treatments.Extent row i) = refl
    one r treatments.Recompile = refl
    one r treatments.Unsupported = refl

    by_test : (b : Bool) → (if b then flat_map no_jump s.relocations else []) ≡ []
    by_test true = flat_map-none no_jump s.relocations (λ r. refl)
    by_test false = refl

-- ---- decisions

-- what a filling is, as its relocation was decided
abbrev pub Fills : Layout → ℕ → InputSection → InputRelocation → Filling → Decision → Type 0
Fills l block s r x (RelativeAddress v packed) = (x ≡ moved_filling l s r packed) × IsMoved l (item_with block s) r v packed
Fills l block s r x (DynamicField z n symbol addend) = x ≡ general_of (entry_for (place_of s.address r) n symbol addend) (size_width z)
Fills l block s r x other = ⊥

-- a relocation with a filling: what it writes in the file, and where
pub record IsFilledBy (l : Layout) (block : ℕ) (s : InputSection) (r : InputRelocation) (x : Filling) : Type 0 where
  pub decision : Decision
  pub made : decided l (item_with block s) r ≡ Ok decision
  pub written : Written
  pub by : written_by decision ≡ Some written
  pub field : HasField l r written.size
  pub room : allocated s.flags ≡ true
  pub width : x.width ≡ size_width written.size
  pub place : x.entry.offset ≡ place_of s.address r
  pub fills : Fills l block s r x decision

moved_there : (l : Layout) (block : ℕ) (s : InputSection) (r : InputRelocation) (x : Filling) (v : ℕ) (packed : Bool) → decided l (item_with block s) r ≡ Ok (RelativeAddress v packed) → x ≡ moved_filling l s r packed → IsFilledBy l block s r x
moved_there l block s r x v packed made e =
    let f = decided_moved l (item_with block s) r v packed made in
    record {
      decision = RelativeAddress v packed;
      made = made;
      written = record { size = ByteSize Eight; value = if packed then v else 0 };
      by = refl;
      field = moved_has l (item_with block s) r v packed f;
      room = f.by.room;
      width = ap (λ (y : Filling). y.width) e ∙ wide packed;
      place = ap (λ (y : Filling). y.entry.offset) e ∙ at packed;
      fills = (e, f);
    }
  where
    wide : (b : Bool) → (moved_filling l s r b).width ≡ 8
    wide true = refl
    wide false = refl

    at : (b : Bool) → (moved_filling l s r b).entry.offset ≡ place_of s.address r
    at true = refl
    at false = refl

left_there : (l : Layout) (block : ℕ) (s : InputSection) (r : InputRelocation) (x : Filling) (z : RelocationSize) (n symbol addend : ℕ) → decided l (item_with block s) r ≡ Ok (DynamicField z n symbol addend) → x ≡ general_of (dynamic_relocation l s.address s.flags r) (size_width z) → IsFilledBy l block s r x
left_there l block s r x z n symbol addend made e =
    let f = decided_left l (item_with block s) r z n symbol addend made in
    let is : x ≡ general_of (entry_for (place_of s.address r) n symbol addend) (size_width z) = e ∙ ap (λ (y : Rela). general_of y (size_width z)) f.entry in
    record {
      decision = DynamicField z n symbol addend;
      made = made;
      written = record { size = z; value = 0 };
      by = refl;
      field = f.field;
      room = f.room;
      width = ap (λ (y : Filling). y.width) is;
      place = ap (λ (y : Filling). y.entry.offset) is;
      fills = is;
    }

-- a decision that leaves the field to an entry
pub record LeavesField (l : Layout) (s : InputSection) (r : InputRelocation) (d : Decision) (z : RelocationSize) : Type 0 where
  pub number : ℕ
  pub symbol : ℕ
  pub addend : ℕ
  pub is : d ≡ DynamicField z number symbol addend

left_is : (l : Layout) (s : InputSection) (r : InputRelocation) (d : Decision) (z : RelocationSize) (n i : ℕ) (o : Option ℕ) → dynamic_decision z n r i o ≡ Ok d → LeavesField l s r d z
left_is l s r d z n i None h = cc
left_is l s r d z n i (Some index) h =
    let e : DynamicField z n index (addend_bits r) ≡ d = cc in
    record { number = n; symbol = index; addend = addend_bits r; is = sym e }

chosen_is : (l : Layout) (s : InputSection) (r : InputRelocation) (d : Decision) (a : Result ℕ Fault) → ifunc_decision l r a ≡ Ok d → LeavesField l s r d (ByteSize Eight)
chosen_is l s r d (Err f) h = cc
chosen_is l s r d (Ok resolver) h =
    elim (cases_Bool (addend_bits r == 0)) [
      | inr f ↦ cc (rw f at h)
      | inl t ↦
          (let made : Ok (DynamicField (ByteSize Eight) (type_of l.machine Irelative) 0 resolver) ≡ Ok d = rw t at h in
          let e : DynamicField (ByteSize Eight) (type_of l.machine Irelative) 0 resolver ≡ d = cc in
          record { number = type_of l.machine Irelative; symbol = 0; addend = resolver; is = sym e })
    ]

moved_is : (l : Layout) (s : Item) (r : InputRelocation) (d : Decision) (a : Result ℕ Fault) → relative_decision l s r a ≡ Ok d → (v : ℕ) × (d ≡ RelativeAddress v (packs l (place_of s.address r)))
moved_is l s r d (Err f) h = cc
moved_is l s r d (Ok a) h = (let e : RelativeAddress (sum a r.addend) (packs l (place_of s.address r)) ≡ d = cc in (sum a r.addend, sym e))

by_left : (l : Layout) (block : ℕ) (s : InputSection) (r : InputRelocation) (x : Filling) (d : Decision) (t : Treatment) (z : RelocationSize) → treatment l s.flags r ≡ t → decided l (item_with block s) r ≡ Ok d → Some (general_of (dynamic_relocation_by l s.address r t) (size_width z)) ≡ Some x → LeavesField l s r d z → IsFilledBy l block s r x
by_left l block s r x d t z is made e f =
    let same : general_of (dynamic_relocation_by l s.address r t) (size_width z) ≡ x = cc in
    let here : x ≡ general_of (dynamic_relocation l s.address s.flags r) (size_width z) = sym same ∙ ap (λ (u : Treatment). general_of (dynamic_relocation_by l s.address r u) (size_width z)) (sym is) in
    left_there l block s r x z f.number f.symbol f.addend (made ∙ ap (λ (y : Decision). Ok y) f.is) here

treated_filling : (l : Layout) (block : ℕ) (s : InputSection) (r : InputRelocation) (x : Filling) (d : Decision) (t : Treatment) → treatment l s.flags r ≡ t → decided l (item_with block s) r ≡ Ok d → decide_by l (item_with block s) r t ≡ Ok d → filling_by l s r t ≡ Some x → IsFilledBy l block s r x
treated_filling l block s r x d treatments.Nothing is made by e = cc
treated_filling l block s r x d (treatments.Value row) is made by e = cc
treated_filling l block s r x d treatments.BaseRelative is made by e =
    let m = moved_is l (item_with block s) r d (address_for l r) by in
    let same : moved_filling l s r (packs l (place_of s.address r)) ≡ x = cc in
    moved_there l block s r x m.0 (packs l (place_of s.address r)) (made ∙ ap (λ (y : Decision). Ok y) m.1) (sym same)
treated_filling l block s r x d (treatments.Symbolic i) is made by e = by_left l block s r x d (treatments.Symbolic i) (ByteSize Eight) is made e (left_is l s r d (ByteSize Eight) (type_of l.machine Absolute) i (index_of l i) by)
treated_filling l block s r x d (treatments.Indirect i) is made by e = by_left l block s r x d (treatments.Indirect i) (ByteSize Eight) is made e (chosen_is l s r d (decided_address l i) by)
treated_filling l block s r x d (treatments.Extent row i) is made by e = by_left l block s r x d (treatments.Extent row i) row.size is made e (left_is l s r d row.size r.number i (index_of l i) (sized_left l r row i d by))
treated_filling l block s r x d treatments.Recompile is made by e = cc
treated_filling l block s r x d treatments.Unsupported is made by e = cc

pub filled_by : (l : Layout) (block : ℕ) (s : InputSection) (r : InputRelocation) (x : Filling) (d : Decision) → decided l (item_with block s) r ≡ Ok d → section_filling l s r ≡ Some x → IsFilledBy l block s r x
unfolding decided
filled_by l block s r x d made given = treated_filling l block s r x d (treatment l s.flags r) refl made made given

-- no instruction is rewritten at a relocation with a filling
pub filling_decided : (l : Layout) (block : ℕ) (s : InputSection) (i : ℕ) (r : InputRelocation) (x : Filling) → slice_get s.relocations i ≡ Some r → section_filling l s r ≡ Some x → decide l (item_with block s) i ≡ decided l (item_with block s) r
filling_decided l block s i r x listed given = by_treatment (treatment l s.flags r) refl given
  where
    by_treatment : (t : Treatment) → treatment l s.flags r ≡ t → filling_by l s r t ≡ Some x → decide l (item_with block s) i ≡ decided l (item_with block s) r
    by_treatment treatments.Nothing is e = cc
    by_treatment (treatments.Value row) is e = cc
    by_treatment treatments.BaseRelative is e = decide_base_relative l (item_with block s) i r listed is
    by_treatment (treatments.Symbolic n) is e = decide_symbolic l (item_with block s) i r n listed is
    by_treatment (treatments.Indirect n) is e = decide_indirect l (item_with block s) i r n listed is
    by_treatment (treatments.Extent row n) is e = decide_extent l (item_with block s) i r row n listed is
    by_treatment treatments.Recompile is e = cc
    by_treatment treatments.Unsupported is e = cc

-- ---- the filling of a decision

-- a relocation of an address that moves has a filling
pub moved_given : (l : Layout) (block : ℕ) (s : InputSection) (r : InputRelocation) (v : ℕ) (packed : Bool) → IsMoved l (item_with block s) r v packed → section_filling l s r ≡ Some (moved_filling l s r packed)
moved_given l block s r v packed h = ap (filling_by l s r) h.treated ∙ ap (λ (b : Bool). Some (moved_filling l s r b)) h.packs

-- and so has one whose field is left to an entry
pub left_given : (l : Layout) (block : ℕ) (s : InputSection) (r : InputRelocation) (z : RelocationSize) (n symbol addend : ℕ) → decided l (item_with block s) r ≡ Ok (DynamicField z n symbol addend) → section_filling l s r ≡ Some (general_of (entry_for (place_of s.address r) n symbol addend) (size_width z))
left_given l block s r z n symbol addend made =
    let f = decided_left l (item_with block s) r z n symbol addend made in
    let width = left_width f.treated f.left f.made in
    ap (filling_by l s r) f.is ∙ width ∙ ap (λ (e : Rela). Some (general_of e (size_width z))) (ap (dynamic_relocation_by l s.address r) (sym f.is) ∙ f.entry)
  where
    of_size : (a b : RelocationSize) (t : Treatment) → a ≡ b → Some (general_of (dynamic_relocation_by l s.address r t) (size_width a)) ≡ Some (general_of (dynamic_relocation_by l s.address r t) (size_width b))
    of_size a b t e = ap (λ (y : RelocationSize). Some (general_of (dynamic_relocation_by l s.address r t) (size_width y))) e

    size_is : (a : RelocationSize) → LeavesField l s r (DynamicField z n symbol addend) a → a ≡ z
    size_is a h = (let e : DynamicField z n symbol addend ≡ DynamicField a h.number h.symbol h.addend = h.is in cc)

    left_width : (t : Treatment) → has_dynamic_entry t ≡ true → decide_by l (item_with block s) r t ≡ Ok (DynamicField z n symbol addend) → filling_by l s r t ≡ Some (general_of (dynamic_relocation_by l s.address r t) (size_width z))
    left_width treatments.Nothing h m = cc
    left_width (treatments.Value row) h m = cc
    left_width treatments.BaseRelative h m = cc
    left_width (treatments.Symbolic i) h m = of_size (ByteSize Eight) z (treatments.Symbolic i) (size_is (ByteSize Eight) (left_is l s r (DynamicField z n symbol addend) (ByteSize Eight) (type_of l.machine Absolute) i (index_of l i) m))
    left_width (treatments.Indirect i) h m = of_size (ByteSize Eight) z (treatments.Indirect i) (size_is (ByteSize Eight) (chosen_is l s r (DynamicField z n symbol addend) (decided_address l i) m))
    left_width (treatments.Extent row i) h m = of_size row.size z (treatments.Extent row i) (size_is row.size (left_is l s r (DynamicField z n symbol addend) row.size r.number i (index_of l i) (sized_left l r row i (DynamicField z n symbol addend) m)))
    left_width treatments.Recompile h m = cc
    left_width treatments.Unsupported h m = cc
