-- Words of packed relocations, counted; no field is left to an entry where the section is not loaded, the type is none of
-- those that entries fill, or the symbol is none that entries name.
use Rattle.std.proofs.Common.{◌≡◌, ℕ, ◌+◌, ◌≤◌, Bool, true, false, List, [], ◌∷◌, length, drop, Option, Some, None, refl, sym, ap, ◌∙◌, arith, subst}
use Rattle.std.specs.Prelude.{◌==◌, ◌&&◌, ◌||◌, not}
use Rattle.std.specs.List.{flat_map, filter, list_all}
use Rattle.std.proofs.lemmas.Bool.{eq-eqb}
use Rattle.std.proofs.lemmas.List.{drop_all}
use Rattle.wild_records.specs.Abi.Relocation.{r_aarch64_abs64, r_x86_64_64, r_x86_64_size32, r_x86_64_size64}
use Rattle.wild_relr.specs.declared.run.Run.{Run}
use Rattle.wild_relr.specs.Encoding.{choice}
use Rattle.wild_relr.specs.RunWords.{counted, new_words, run_after, packed, packed_on}
use Rattle.wild_reloc.specs.Field.{field_width}
use Rattle.wild_reloc.specs.TableX86_64.{x86_64_rows, x86_64_row}
use Rattle.wild_reloc.specs.TableAArch64.{static_rows, thread_rows, static_row, thread_row}
use Rattle.wild_reloc.proofs.TableLemmas.{entry_passes, parts_pass}
use Rattle.wild_reloc.specs.declared.info.RelocationKind.{RelocationKind}
use Rattle.wild_reloc.specs.declared.info.RelocationKind.TheVariants as kinds
use Rattle.wild_reloc.specs.declared.info.RelocationKindInfo.{RelocationKindInfo}
use Rattle.wild_types.specs.declared.input.InputRelocation.{InputRelocation}
use Rattle.wild_types.specs.declared.kind.Machine.{Machine}
use Rattle.wild_types.specs.declared.kind.Machine.TheVariants as machine
use Rattle.wild_types.specs.declared.layout.Layout.{Layout}
use Rattle.wild_slot.specs.declared.treatment.Treatment.{Treatment}
use Rattle.wild_slot.specs.declared.treatment.Treatment.TheVariants.{BaseRelative, Symbolic, Indirect, Extent}
use Rattle.wild_needs.specs.Entries.{is_base_relative, is_relative_by, may_be_relative, has_dynamic_entry, may_have_dynamic_entry, may_have_entry}
use Rattle.wild_types.specs.Lookups.{allocated, writable}
use Rattle.wild_types.specs.Rows.{row_of}
use Rattle.wild_types.specs.Flags.{has_flag, interposable, dynamic, ifunc}
use Rattle.wild_types.specs.Kinds.{is_position_independent, is_shared_object}
use Rattle.wild_slot.specs.Treatment.{flags_at, row_that_accepts, row_treatment, treatment}
use Rattle.wild_slot.proofs.TreatmentLemmas.{IsLeftBy, Says, row_said, suited_is}

-- a place more, in front
pub counted_more : (r : Run) (p : ℕ) (ps : List ℕ) → counted r (p ∷ ps) ≡ new_words (choice r p) + counted (run_after (choice r p) r) ps
unfolding counted
counted_more r p ps = refl

-- no place
pub counted_none : (r : Run) → counted r [] ≡ 0
unfolding counted
counted_none r = refl

pub packed_none : packed [] ≡ []
unfolding packed packed_on
packed_none = refl

-- where a walk over all items has ended, what was counted is the whole
pub counted_end : {X : Type 0} (f : X → List ℕ) (r s : Run) (xs : List X) (i n : ℕ) → length xs ≤ i → n + counted r (flat_map f (drop i xs)) ≡ counted s (flat_map f xs) → n ≡ counted s (flat_map f xs)
counted_end f r s xs i n end h =
    let none : drop i xs ≡ [] = drop_all i xs end in
    let e : counted r (flat_map f (drop i xs)) ≡ 0 = ap (λ ys. counted r (flat_map f ys)) none ∙ counted_none r in
    omega (arith, e, h)

-- ---- fields that are left to entries

pub false_from_not : (b : Bool) → not b ≡ true → b ≡ false
false_from_not true h = cc
false_from_not false h = refl

never : (b : Bool) → (b ≡ true → ⊥) → b ≡ false
never true h = absurd (h refl)
never false h = refl

-- the section is allocated
entry_room : (l : Layout) (flags : ℕ) (symbol : Option ℕ) (row : RelocationKindInfo) (t : Treatment) → Says l flags symbol row t → has_dynamic_entry t ≡ true → allocated flags ≡ true
entry_room l flags symbol row (Symbolic i) h e = h.0.room
entry_room l flags symbol row (Indirect i) h e = h.0.room
entry_room l flags symbol row (Extent r i) h e = h.1.room
entry_room l flags symbol row other h e = cc

row_keeps : (l : Layout) (flags : ℕ) (n : ℕ) (o : Option ℕ) (row : Option RelocationKindInfo) → allocated flags ≡ false → has_dynamic_entry (row_treatment l flags n o row) ≡ false
unfolding row_treatment
row_keeps l flags n o None h = refl
row_keeps l flags n o (Some row) h = never _ (λ e. (let both : true ≡ false = sym (entry_room l flags o row (row_treatment l flags n o (Some row)) (row_said l flags n o row) e) ∙ h in cc))

keeps : (l : Layout) (flags : ℕ) (r : InputRelocation) → allocated flags ≡ false → has_dynamic_entry (treatment l flags r) ≡ false
unfolding treatment
keeps l flags r h = row_keeps l flags r.number r.symbol (row_that_accepts l.machine r (row_of l.machine r.number)) h

-- in a section that is not loaded none is
pub none_left : (l : Layout) (flags : ℕ) (rs : List InputRelocation) → allocated flags ≡ false → length (filter (λ r. has_dynamic_entry (treatment l flags r)) rs) ≡ 0
none_left l flags [] h = refl
none_left l flags (r ∷ rs) h = let e = keeps l flags r h in rw e (none_left l flags rs h)

-- ---- types whose fields entries fill

-- the number of such a row
abbrev has_number : RelocationKind → ℕ → ℕ → Bool
has_number kinds.Absolute width n = not (width == 8) || (n == r_x86_64_64 || n == r_aarch64_abs64)
has_number kinds.SymbolSize width n = n == r_x86_64_size32 || n == r_x86_64_size64
has_number other width n = true

each_has_number : list_all (λ (e : ℕ × RelocationKindInfo). has_number e.1.kind (field_width e.1) e.0) x86_64_rows ≡ true
each_has_number = refl

number_known : (eight same : Bool) → eight ≡ true → (not eight || same) ≡ true → same ≡ true
number_known true same e h = h
number_known false same e h = cc

writes_there : (a b c d : Bool) → (a && b && c && d) ≡ true → b ≡ true
writes_there true true c d h = refl
writes_there true false c d h = cc
writes_there false b c d h = cc

first_left : (a b c : Bool) → a ≡ true → b ≡ true → ((a && b) || c) ≡ true
first_left true true c e h = refl
first_left true false c e h = cc
first_left false b c e h = cc

last_left : (a b : Bool) → b ≡ true → (a || b) ≡ true
last_left true b h = refl
last_left false b h = h

-- an address that an entry fills has that number, and stands where the program may write
address_number : (flags : ℕ) (symbol : Option ℕ) (row : RelocationKindInfo) (i n : ℕ) → has_number row.kind (field_width row) n ≡ true → IsLeftBy flags symbol row i → writable flags ≡ true → may_have_dynamic_entry flags n ≡ true
address_number flags symbol row i n h by writes =
    let number : has_number kinds.Absolute (field_width row) n ≡ true = subst (λ (k : RelocationKind). has_number k (field_width row) n ≡ true) by.kind h in
    first_left (n == r_x86_64_64 || n == r_aarch64_abs64) (writable flags) (n == r_x86_64_size32 || n == r_x86_64_size64) (number_known (field_width row == 8) (n == r_x86_64_64 || n == r_aarch64_abs64) (eq-eqb (field_width row) 8 by.width) number) writes

entry_number : (l : Layout) (flags : ℕ) (symbol : Option ℕ) (row : RelocationKindInfo) (n : ℕ) (t : Treatment) → has_number row.kind (field_width row) n ≡ true → Says l flags symbol row t → has_dynamic_entry t ≡ true → may_have_dynamic_entry flags n ≡ true
entry_number l flags symbol row n (Symbolic i) h says e = address_number flags symbol row i n h says.0 (writes_there (allocated flags) (writable flags) (field_width row == 8) (interposable (flags_at l i)) says.1)
entry_number l flags symbol row n (Indirect i) h says e = address_number flags symbol row i n h says.0 (writes_there (allocated flags) (writable flags) (is_position_independent l.kind) (has_flag (flags_at l i) ifunc) says.1.chosen)
entry_number l flags symbol row n (Extent r i) h says e = last_left ((n == r_x86_64_64 || n == r_aarch64_abs64) && writable flags) (n == r_x86_64_size32 || n == r_x86_64_size64) (subst (λ (k : RelocationKind). has_number k (field_width row) n ≡ true) says.1.kind h)
entry_number l flags symbol row n other h says e = cc

row_stays : (l : Layout) (flags : ℕ) (o : Option ℕ) (n : ℕ) (row : Option RelocationKindInfo) → ((r : RelocationKindInfo) → row ≡ Some r → has_number r.kind (field_width r) n ≡ true) → may_have_dynamic_entry flags n ≡ false → has_dynamic_entry (row_treatment l flags n o row) ≡ false
unfolding row_treatment
row_stays l flags o n None known m = refl
row_stays l flags o n (Some row) known m =
    never _ (λ e. (let both : true ≡ false = sym (entry_number l flags o row n (row_treatment l flags n o (Some row)) (known row refl) (row_said l flags n o row) e) ∙ m in cc))

number_here : (k : Machine) (n : ℕ) (row : RelocationKindInfo) → row_of k n ≡ Some row → has_number row.kind (field_width row) n ≡ true
unfolding row_of x86_64_row static_row thread_row
number_here machine.X86_64 n row known = entry_passes (λ (k : ℕ) (r : RelocationKindInfo). has_number r.kind (field_width r) k) x86_64_rows each_has_number n row known
number_here machine.AArch64 n row known = parts_pass (λ (k : ℕ) (r : RelocationKindInfo). has_number r.kind (field_width r) k) static_rows thread_rows refl refl n row known

-- the field of a relocation of another type is left to none
pub others_stay : (l : Layout) (flags : ℕ) (r : InputRelocation) → may_have_dynamic_entry flags r.number ≡ false → has_dynamic_entry (treatment l flags r) ≡ false
unfolding treatment
others_stay l flags r m = row_stays l flags r.symbol r.number (row_that_accepts l.machine r (row_of l.machine r.number)) (λ row h. number_here l.machine r.number row (suited_is l.machine r (row_of l.machine r.number) row h)) m

-- ---- types that write addresses that move

relative_number : (l : Layout) (flags : ℕ) (symbol : Option ℕ) (row : RelocationKindInfo) (n : ℕ) (t : Treatment) → has_number row.kind (field_width row) n ≡ true → Says l flags symbol row t → is_base_relative t ≡ true → may_be_relative n ≡ true
relative_number l flags symbol row n BaseRelative h says e =
    let number : has_number kinds.Absolute (field_width row) n ≡ true = subst (λ (k : RelocationKind). has_number k (field_width row) n ≡ true) says.kind h in
    number_known (field_width row == 8) (n == r_x86_64_64 || n == r_aarch64_abs64) (eq-eqb (field_width row) 8 says.width) number
relative_number l flags symbol row n other h says e = cc

row_fixed : (l : Layout) (flags : ℕ) (o : Option ℕ) (n : ℕ) (row : Option RelocationKindInfo) → ((r : RelocationKindInfo) → row ≡ Some r → has_number r.kind (field_width r) n ≡ true) → may_be_relative n ≡ false → is_base_relative (row_treatment l flags n o row) ≡ false
unfolding row_treatment
row_fixed l flags o n None known m = refl
row_fixed l flags o n (Some row) known m =
    never _ (λ e. (let both : true ≡ false = sym (relative_number l flags o row n (row_treatment l flags n o (Some row)) (known row refl) (row_said l flags n o row) e) ∙ m in cc))

-- a relocation of another type writes no address that moves
pub others_fixed : (l : Layout) (flags : ℕ) (r : InputRelocation) → may_be_relative r.number ≡ false → is_relative_by l flags r ≡ false
unfolding treatment
others_fixed l flags r m = row_fixed l flags r.symbol r.number (row_that_accepts l.machine r (row_of l.machine r.number)) (λ row h. number_here l.machine r.number row (suited_is l.machine r (row_of l.machine r.number) row h)) m

-- ---- symbols that entries do not name

last_true : (a b c d : Bool) → (a && b && c && d) ≡ true → d ≡ true
last_true true true true d h = h
last_true true true false d h = cc
last_true true false c d h = cc
last_true false b c d h = cc

second_true : (a b c : Bool) → (a && b && c) ≡ true → b ≡ true
second_true true true c h = refl
second_true true false c h = cc
second_true false b c h = cc

open_one : (a b : Bool) → a ≡ true → (a || b) ≡ true
open_one true b h = refl
open_one false b h = cc

-- others may define the symbol, or a resolver chooses it
entry_symbol : (l : Layout) (flags : ℕ) (symbol : Option ℕ) (row : RelocationKindInfo) (t : Treatment) → Says l flags symbol row t → has_dynamic_entry t ≡ true → may_have_entry l symbol ≡ true
entry_symbol l flags symbol row (Symbolic i) h e = rw h.0.named (open_one (interposable (flags_at l i)) (has_flag (flags_at l i) ifunc) (last_true (allocated flags) (writable flags) (field_width row == 8) (interposable (flags_at l i)) h.1))
entry_symbol l flags symbol row (Indirect i) h e = rw h.0.named (last_left (interposable (flags_at l i)) (has_flag (flags_at l i) ifunc) (last_true (allocated flags) (writable flags) (is_position_independent l.kind) (has_flag (flags_at l i) ifunc) h.1.chosen))
entry_symbol l flags symbol row (Extent r i) h e = rw h.1.named (open_one (interposable (flags_at l i)) (has_flag (flags_at l i) ifunc) (second_true (allocated flags) (interposable (flags_at l i)) (has_flag (flags_at l i) dynamic || is_shared_object l.kind) h.1.sized))
entry_symbol l flags symbol row other h e = cc

row_plain : (l : Layout) (flags : ℕ) (n : ℕ) (o : Option ℕ) (row : Option RelocationKindInfo) → may_have_entry l o ≡ false → has_dynamic_entry (row_treatment l flags n o row) ≡ false
unfolding row_treatment
row_plain l flags n o None h = refl
row_plain l flags n o (Some row) h = never _ (λ e. (let both : true ≡ false = sym (entry_symbol l flags o row (row_treatment l flags n o (Some row)) (row_said l flags n o row) e) ∙ h in cc))

-- the field of a relocation of another symbol is left to none
pub plain_stay : (l : Layout) (flags : ℕ) (r : InputRelocation) → may_have_entry l r.symbol ≡ false → has_dynamic_entry (treatment l flags r) ≡ false
unfolding treatment
plain_stay l flags r h = row_plain l flags r.number r.symbol (row_that_accepts l.machine r (row_of l.machine r.number)) h

-- ---- fields that the program does not write to

third_true : (a b c : Bool) → (a && b && c) ≡ true → c ≡ true
third_true true true c h = h
third_true true false c h = cc
third_true false b c h = cc

-- there an entry names a symbol only for a size: of one that another module defines, or in a library
untouched : (l : Layout) (flags : ℕ) (symbol : Option ℕ) (row : RelocationKindInfo) (t : Treatment) → writable flags ≡ false → ((i : ℕ) → (has_flag (flags_at l i) dynamic || is_shared_object l.kind) ≡ false) → Says l flags symbol row t → has_dynamic_entry t ≡ false
untouched l flags symbol row (Symbolic i) w own h = sym (writes_there (allocated flags) (writable flags) (field_width row == 8) (interposable (flags_at l i)) h.1) ∙ w
untouched l flags symbol row (Indirect i) w own h = sym (writes_there (allocated flags) (writable flags) (is_position_independent l.kind) (has_flag (flags_at l i) ifunc) h.1.chosen) ∙ w
untouched l flags symbol row (Extent r i) w own h = sym (third_true (allocated flags) (interposable (flags_at l i)) (has_flag (flags_at l i) dynamic || is_shared_object l.kind) h.1.sized) ∙ own i
untouched l flags symbol row other w own h = refl

row_untouched : (l : Layout) (flags : ℕ) (n : ℕ) (o : Option ℕ) (row : Option RelocationKindInfo) → writable flags ≡ false → ((i : ℕ) → (has_flag (flags_at l i) dynamic || is_shared_object l.kind) ≡ false) → has_dynamic_entry (row_treatment l flags n o row) ≡ false
unfolding row_treatment
row_untouched l flags n o None w own = refl
row_untouched l flags n o (Some row) w own = untouched l flags o row (row_treatment l flags n o (Some row)) w own (row_said l flags n o row)

fixed_stays : (l : Layout) (flags : ℕ) (r : InputRelocation) → writable flags ≡ false → ((i : ℕ) → (has_flag (flags_at l i) dynamic || is_shared_object l.kind) ≡ false) → has_dynamic_entry (treatment l flags r) ≡ false
unfolding treatment
fixed_stays l flags r w own = row_untouched l flags r.number r.symbol (row_that_accepts l.machine r (row_of l.machine r.number)) w own

pub fixed_stay : (l : Layout) (flags : ℕ) (rs : List InputRelocation) → writable flags ≡ false → ((i : ℕ) → (has_flag (flags_at l i) dynamic || is_shared_object l.kind) ≡ false) → length (filter (λ r. has_dynamic_entry (treatment l flags r)) rs) ≡ 0
fixed_stay l flags [] w own = refl
fixed_stay l flags (r ∷ rs) w own = let e = fixed_stays l flags r w own in rw e (fixed_stay l flags rs w own)
