-- The rows of the kinds that the writer knows, beside the formulas that the reader knows.
use Rattle.wild_references.proofs.Common.{◌≡◌, ℕ, ◌^◌, ◌<◌, ◌⊎◌, inl, inr, Bool, true, false, List, length, refl, sym, ap, ◌∙◌, subst, ◌==◌, ◌&&◌, ◌||◌, if◌then◌else◌, Option, Some, None, is_none, All, list_all, eqb-true, and_parts, or_cases, r_x86_64_none, r_x86_64_plt32, r_x86_64_pltoff64, r_x86_64_gotpc32_tlsdesc, r_x86_64_code_4_gotpc32_tlsdesc, r_x86_64_tlsdesc_call, r_aarch64_jump26, r_aarch64_call26, Machine, x86_64_rows, x86_64_row, static_row, thread_row, field_width, allows, written, contains, PageMask, Formula, Value, Form, NoValue, NoField, SymbolAddress, Plain, Full, Bits, Reads, Keeps, x86_64_formula, aarch64_formula, expression_of, writes, RelocationKind, RelocationKindInfo, entry_passes, row_of, RowsAreRead, formula_of, form_width, is_expressed, value_by_row, AllowsThunks}
use Rattle.wild_records.specs.Abi.Relocation.{r_aarch64_plt32}
use Rattle.wild_types.specs.declared.kind.Machine.TheVariants as machine
use Rattle.wild_reloc.specs.TableAArch64.{static_rows, thread_rows}
use Rattle.wild_reloc.specs.Agreement.{Agrees}
use Rattle.wild_reloc.specs.Expression.{has_value}
use Rattle.wild_reloc.specs.declared.expression.Class.{Class}
use Rattle.wild_reloc.specs.declared.expression.Class.TheVariants as class
use Rattle.wild_reloc.specs.declared.info.RelocationKind.TheVariants as kinds
use Rattle.wild_reloc.proofs.TableLemmas.{parts_pass}
use Rattle.wild_layout.proofs.DecideLemmas.{value_has_field}
use Rattle.wild_slot.proofs.TreatmentLemmas.{HasValue}
use Rattle.wild_references.proofs.LowForms.{is_low}

-- a field has the bits of an address below its page, on AArch64
pub record IsPartSeen (m : Machine) (k : RelocationKind) (form : Form) : Type 0 where
  pub on : m ≡ machine.AArch64
  pub part : (expression_of k).class ≡ class.Part
  pub low : is_low form ≡ true

-- or all of a value
abbrev pub IsSeen : Machine → RelocationKind → Form → Type 0
IsSeen m k form = (writes (expression_of k).class ≡ true) ⊎ IsPartSeen m k form

-- what ties the row of a number that has a value to its formula
pub record RowFits (m : Machine) (n : ℕ) (row : RelocationKindInfo) : Type 0 where
  pub formula : Formula
  pub known : formula_of m n ≡ Some formula
  pub width : field_width row ≡ form_width formula.form
  pub some : 0 < field_width row
  pub value : value_by_row row ≡ formula.value
  pub seen : IsSeen m row.kind formula.form
  pub expressed : is_expressed m (expression_of row.kind).term (expression_of row.kind).subtrahend row.mask ≡ true
  pub full : row.kind ≡ kinds.Absolute → field_width row ≡ 8 → (formula.value ≡ SymbolAddress) × (formula.form ≡ Full)
  pub reads : (v : ℕ) (old : List ℕ) → v < 2 ^ 64 → length old ≡ field_width row → allows row v ≡ true → Reads formula.form (written row v old) v
  pub keeps : (v : ℕ) (old : List ℕ) → All (λ b. b < 256) old → length old ≡ field_width row → Keeps formula.form old (written row v old)

-- ---- what each row of the table passes

abbrev same_width : Option Formula → ℕ → Bool
same_width None width = false
same_width (Some f) width = width == form_width f.form

abbrev is_full : Formula → Bool
is_full f = full_form f.form && is_address f.value
  where
    full_form : Form → Bool
    full_form Full = true
    full_form other = false

    is_address : Value → Bool
    is_address SymbolAddress = true
    is_address other = false

abbrev is_nothing : Formula → Bool
is_nothing f = no_form f.form && no_value f.value
  where
    no_form : Form → Bool
    no_form NoField = true
    no_form other = false

    no_value : Value → Bool
    no_value NoValue = true
    no_value other = false

abbrev of_formula : (Formula → Bool) → Option Formula → Bool
of_formula test None = false
of_formula test (Some f) = test f

-- the types of the kinds that few types have: for nothing, a stub's distance and offset, and on x86-64 a descriptor, and the call through one;
-- AArch64 has none of a size, and none less the table
abbrev few_numbers : Machine → RelocationKind → ℕ → Bool
few_numbers m kinds.None n = n == r_x86_64_none
few_numbers machine.X86_64 kinds.TlsDesc n = n == r_x86_64_gotpc32_tlsdesc || n == r_x86_64_code_4_gotpc32_tlsdesc
few_numbers machine.X86_64 kinds.TlsDescCall n = n == r_x86_64_tlsdesc_call
few_numbers machine.X86_64 kinds.PltRelative n = n == r_x86_64_plt32
few_numbers machine.X86_64 kinds.PltRelGotBase n = n == r_x86_64_pltoff64
few_numbers machine.AArch64 kinds.SymbolSize n = false
few_numbers machine.AArch64 kinds.PltRelative n = n == r_aarch64_plt32 || (n == r_aarch64_jump26 || n == r_aarch64_call26)
few_numbers machine.AArch64 kinds.PltRelGotBase n = false
few_numbers m other n = true

-- the call through a descriptor has no value and no field
abbrev call_formula : RelocationKind → Option Formula → Bool
call_formula kinds.TlsDescCall o = of_formula is_nothing o
call_formula other o = true

-- an address of 8 bytes is all of them
abbrev full_address : RelocationKind → ℕ → Option Formula → Bool
full_address kinds.Absolute width o = if width == 8 then of_formula is_full o else true
full_address other width o = true

abbrev is_part : Class → Bool
is_part class.Part = true
is_part other = false

abbrev is_low_formula : Formula → Bool
is_low_formula f = is_low f.form

abbrev is_aarch64 : Machine → Bool
is_aarch64 machine.AArch64 = true
is_aarch64 machine.X86_64 = false

-- a value is all of it in its field, or on AArch64 its low bits
abbrev seen_by : Machine → Class → Option Formula → Bool
seen_by m c o = if has_value c then writes c || (is_aarch64 m && (is_part c && of_formula is_low_formula o)) else true

-- what may go by a thunk is a branch of AArch64, whose range has itself and the next instruction
abbrev is_branch : RelocationKind → Bool
is_branch kinds.PltRelative = true
is_branch other = false

abbrev carries : Machine → RelocationKindInfo → Bool
carries m row = if row.thunkable then is_aarch64 m && (is_branch row.kind && (is_none row.mask && (contains row.range 0 && contains row.range 4))) else true

abbrev row_test : Machine → ℕ → RelocationKindInfo → Bool
row_test m n row =
    seen_by m (expression_of row.kind).class (formula_of m n)
    && (is_expressed m (expression_of row.kind).term (expression_of row.kind).subtrahend row.mask
    && (same_width (formula_of m n) (field_width row)
    && (few_numbers m row.kind n && (call_formula row.kind (formula_of m n) && (full_address row.kind (field_width row) (formula_of m n) && carries m row)))))

each_x86_64 : list_all (λ (e : ℕ × RelocationKindInfo). row_test machine.X86_64 e.0 e.1) x86_64_rows ≡ true
unfolding x86_64_formula
each_x86_64 = refl

each_static : list_all (λ (e : ℕ × RelocationKindInfo). row_test machine.AArch64 e.0 e.1) static_rows ≡ true
unfolding aarch64_formula
each_static = refl

each_thread : list_all (λ (e : ℕ × RelocationKindInfo). row_test machine.AArch64 e.0 e.1) thread_rows ≡ true
unfolding aarch64_formula
each_thread = refl

passes : (m : Machine) (n : ℕ) (row : RelocationKindInfo) → row_of m n ≡ Some row → row_test m n row ≡ true
unfolding row_of x86_64_row static_row thread_row
passes machine.X86_64 n row is = entry_passes (row_test machine.X86_64) x86_64_rows each_x86_64 n row is
passes machine.AArch64 n row is = parts_pass (row_test machine.AArch64) static_rows thread_rows each_static each_thread n row is

-- what they say
record Passes (m : Machine) (n : ℕ) (row : RelocationKindInfo) : Type 0 where
  seen : seen_by m (expression_of row.kind).class (formula_of m n) ≡ true
  expressed : is_expressed m (expression_of row.kind).term (expression_of row.kind).subtrahend row.mask ≡ true
  wide : same_width (formula_of m n) (field_width row) ≡ true
  few : few_numbers m row.kind n ≡ true
  call : call_formula row.kind (formula_of m n) ≡ true
  full : full_address row.kind (field_width row) (formula_of m n) ≡ true
  carried : carries m row ≡ true

all_passed : (m : Machine) (n : ℕ) (row : RelocationKindInfo) → row_of m n ≡ Some row → Passes m n row
all_passed m n row is =
    let a = and_parts (seen_by m (expression_of row.kind).class (formula_of m n)) _ (passes m n row is) in
    let b = and_parts (is_expressed m (expression_of row.kind).term (expression_of row.kind).subtrahend row.mask) _ a.1 in
    let c = and_parts (same_width (formula_of m n) (field_width row)) _ b.1 in
    let d = and_parts (few_numbers m row.kind n) _ c.1 in
    let e = and_parts (call_formula row.kind (formula_of m n)) (full_address row.kind (field_width row) (formula_of m n) && carries m row) d.1 in
    let f = and_parts (full_address row.kind (field_width row) (formula_of m n)) (carries m row) e.1 in
    record { seen = a.0; expressed = b.0; wide = c.0; few = d.0; call = e.0; full = f.0; carried = f.1 }

-- ---- rows that fit

part_is : (c : Class) → is_part c ≡ true → c ≡ class.Part
part_is class.Part h = refl
part_is other h = cc

on_is : (m : Machine) → is_aarch64 m ≡ true → m ≡ machine.AArch64
on_is machine.AArch64 h = refl
on_is machine.X86_64 h = cc

seen_is : (m : Machine) (k : RelocationKind) (f : Formula) → HasValue k → seen_by m (expression_of k).class (Some f) ≡ true → IsSeen m k f.form
seen_is m k f v h = by_test (has_value (expression_of k).class) v h
  where
    by_case : (writes (expression_of k).class || (is_aarch64 m && (is_part (expression_of k).class && is_low f.form))) ≡ true → IsSeen m k f.form
    by_case h =
        elim (or_cases (writes (expression_of k).class) (is_aarch64 m && (is_part (expression_of k).class && is_low f.form)) h) [
          | inl whole ↦ inl whole
          | inr part ↦
              (let o = and_parts (is_aarch64 m) (is_part (expression_of k).class && is_low f.form) part in
              let p = and_parts (is_part (expression_of k).class) (is_low f.form) o.1 in
              inr (record { on = on_is m o.0; part = part_is (expression_of k).class p.0; low = p.1 }))
        ]

    by_test : (b : Bool) → b ≡ true → (if b then writes (expression_of k).class || (is_aarch64 m && (is_part (expression_of k).class && is_low f.form)) else true) ≡ true → IsSeen m k f.form
    by_test true e h = by_case h
    by_test false e h = cc

form_full : (form : Form) (value : Value) → is_full (record { value = value; form = form }) ≡ true → (value ≡ SymbolAddress) × (form ≡ Full)
form_full Full SymbolAddress h = (refl, refl)
form_full Full other h = cc
form_full NoField value h = cc
form_full (Plain bits reading) value h = cc
form_full (Bits field high low check unit) value h = cc

full_is : (kind : RelocationKind) (f : Formula) (width : ℕ) → full_address kind width (Some f) ≡ true → kind ≡ kinds.Absolute → width ≡ 8 → (f.value ≡ SymbolAddress) × (f.form ≡ Full)
full_is kind f width h k w =
    let there : full_address kinds.Absolute 8 (Some f) ≡ true = subst (λ (x : RelocationKind). full_address x 8 (Some f) ≡ true) k (subst (λ (n : ℕ). full_address kind n (Some f) ≡ true) w h) in
    form_full f.form f.value there

fits_formula : (m : Machine) (n : ℕ) (row : RelocationKindInfo) (o : Option Formula) → HasValue row.kind → row_of m n ≡ Some row → formula_of m n ≡ o → is_expressed m (expression_of row.kind).term (expression_of row.kind).subtrahend row.mask ≡ true → seen_by m (expression_of row.kind).class o ≡ true → same_width o (field_width row) ≡ true → full_address row.kind (field_width row) o ≡ true → Agrees row o → RowFits m n row
fits_formula m n row None kind is known expressed seen wide full agrees = absurd agrees
fits_formula m n row (Some f) kind is known expressed seen wide full agrees = record {
  formula = f;
  known = known;
  width = eqb-true _ _ wide;
  some = value_has_field m n row is kind;
  value = agrees.value;
  seen = seen_is m row.kind f kind seen;
  expressed = expressed;
  full = λ k w. full_is row.kind f (field_width row) full k w;
  reads = agrees.reads;
  keeps = agrees.keeps;
}

-- the row of a kind with a value fits
pub row_fits : RowsAreRead → (m : Machine) (n : ℕ) (row : RelocationKindInfo) → row_of m n ≡ Some row → HasValue row.kind → RowFits m n row
row_fits agree m n row is kind =
    let p = all_passed m n row is in
    fits_formula m n row (formula_of m n) kind is refl p.expressed p.seen p.wide p.full (agree m n row is)

-- each row's type has a formula, whose field is as wide
pub formula_there : (m : Machine) (n : ℕ) (row : RelocationKindInfo) → row_of m n ≡ Some row → (f : Formula) × (formula_of m n ≡ Some f) × (form_width f.form ≡ field_width row)
formula_there m n row is = by (formula_of m n) refl (all_passed m n row is).wide
  where
    by : (o : Option Formula) → formula_of m n ≡ o → same_width o (field_width row) ≡ true → (f : Formula) × (formula_of m n ≡ Some f) × (form_width f.form ≡ field_width row)
    by None known wide = cc
    by (Some f) known wide = (f, known, sym (eqb-true (field_width row) (form_width f.form) wide))

pub width_is : (m : Machine) (n : ℕ) (row : RelocationKindInfo) (f : Formula) → row_of m n ≡ Some row → formula_of m n ≡ Some f → form_width f.form ≡ field_width row
width_is m n row f is known = (let t = formula_there m n row is in let both : Some t.0 ≡ Some f = sym t.1 ∙ known in let same : t.0 ≡ f = cc in ap (λ (g : Formula). form_width g.form) (sym same) ∙ t.2)

-- the type of a row of such a kind
few_at : (m : Machine) (n : ℕ) (row : RelocationKindInfo) (k : RelocationKind) → row_of m n ≡ Some row → row.kind ≡ k → few_numbers m k n ≡ true
few_at m n row k is kind = subst (λ (k : RelocationKind). few_numbers m k n ≡ true) kind (all_passed m n row is).few

-- a type without a value is for nothing
pub none_is : (m : Machine) (n : ℕ) (row : RelocationKindInfo) → row_of m n ≡ Some row → row.kind ≡ kinds.None → n ≡ r_x86_64_none
none_is machine.X86_64 n row is kind = eqb-true _ _ (few_at machine.X86_64 n row kinds.None is kind)
none_is machine.AArch64 n row is kind = eqb-true _ _ (few_at machine.AArch64 n row kinds.None is kind)

-- a size is x86-64's
pub size_machine : (m : Machine) (n : ℕ) (row : RelocationKindInfo) → row_of m n ≡ Some row → row.kind ≡ kinds.SymbolSize → m ≡ machine.X86_64
size_machine machine.X86_64 n row is kind = refl
size_machine machine.AArch64 n row is kind = (let none = few_at machine.AArch64 n row kinds.SymbolSize is kind in cc)

-- the types of the distance of a stub, and of its offset from the table
abbrev pub IsStubType : Machine → ℕ → Type 0
IsStubType machine.X86_64 n = (n ≡ r_x86_64_plt32) ⊎ (n ≡ r_x86_64_pltoff64)
IsStubType machine.AArch64 n = (n ≡ r_aarch64_plt32) ⊎ ((n ≡ r_aarch64_jump26) ⊎ (n ≡ r_aarch64_call26))

-- the distance has these types
pub distance_types : (m : Machine) (n : ℕ) (row : RelocationKindInfo) → row_of m n ≡ Some row → row.kind ≡ kinds.PltRelative → IsStubType m n
distance_types machine.X86_64 n row is kind = inl (eqb-true _ _ (few_at machine.X86_64 n row kinds.PltRelative is kind))
distance_types machine.AArch64 n row is kind =
    elim (or_cases _ _ (few_at machine.AArch64 n row kinds.PltRelative is kind)) [
      | inl a ↦ inl (eqb-true _ _ a)
      | inr b ↦ elim (or_cases _ _ b) [
        | inl c ↦ inr (inl (eqb-true _ _ c))
        | inr d ↦ inr (inr (eqb-true _ _ d))
      ]
    ]

-- its offset from the table is x86-64's
pub offset_type : (m : Machine) (n : ℕ) (row : RelocationKindInfo) → row_of m n ≡ Some row → row.kind ≡ kinds.PltRelGotBase → IsStubType m n
offset_type machine.X86_64 n row is kind = inr (eqb-true _ _ (few_at machine.X86_64 n row kinds.PltRelGotBase is kind))
offset_type machine.AArch64 n row is kind = (let none = few_at machine.AArch64 n row kinds.PltRelGotBase is kind in cc)

-- or the call through a descriptor
pub call_is : (n : ℕ) (row : RelocationKindInfo) → row_of machine.X86_64 n ≡ Some row → row.kind ≡ kinds.TlsDescCall → n ≡ r_x86_64_tlsdesc_call
call_is n row is kind = eqb-true _ _ (few_at machine.X86_64 n row kinds.TlsDescCall is kind)

-- whose formula has no value and no field
pub call_known : (m : Machine) (n : ℕ) (row : RelocationKindInfo) → row_of m n ≡ Some row → row.kind ≡ kinds.TlsDescCall → formula_of m n ≡ Some (record { value = NoValue; form = NoField })
call_known m n row is kind = by_formula (formula_of m n) (subst (λ (k : RelocationKind). call_formula k (formula_of m n) ≡ true) kind (all_passed m n row is).call)
  where
    nothing : (value : Value) (form : Form) → is_nothing (record { value = value; form = form }) ≡ true → (value ≡ NoValue) × (form ≡ NoField)
    nothing NoValue NoField h = (refl, refl)
    nothing other NoField h = cc
    nothing value Full h = cc
    nothing value (Plain bits reading) h = cc
    nothing value (Bits field high low check unit) h = cc

    by_formula : (o : Option Formula) → call_formula kinds.TlsDescCall o ≡ true → o ≡ Some (record { value = NoValue; form = NoField })
    by_formula None h = cc
    by_formula (Some f) h =
        let e = nothing f.value f.form h in
        ap (λ (v : Value). Some (record f { value = v })) e.0 ∙ ap (λ (x : Form). Some (record { value = NoValue; form = x })) e.1

-- a descriptor has two types
pub descriptor_is : (n : ℕ) (row : RelocationKindInfo) → row_of machine.X86_64 n ≡ Some row → row.kind ≡ kinds.TlsDesc → (n ≡ r_x86_64_gotpc32_tlsdesc) ⊎ (n ≡ r_x86_64_code_4_gotpc32_tlsdesc)
descriptor_is n row is kind =
    elim (or_cases _ _ (few_at machine.X86_64 n row kinds.TlsDesc is kind)) [
      | inl a ↦ inl (eqb-true _ _ a)
      | inr b ↦ inr (eqb-true _ _ b)
    ]

-- what may go by a thunk is such a branch
pub record IsBranch (m : Machine) (row : RelocationKindInfo) : Type 0 where
  pub on : m ≡ machine.AArch64
  pub kind : row.kind ≡ kinds.PltRelative
  pub carries : AllowsThunks row

pub branch_is : (m : Machine) (n : ℕ) (row : RelocationKindInfo) → row_of m n ≡ Some row → row.thunkable ≡ true → IsBranch m row
branch_is m n row is t =
    let a = and_parts (is_aarch64 m) _ (rw t at (all_passed m n row is).carried) in
    let b = and_parts (is_branch row.kind) _ a.1 in
    let c = and_parts (is_none row.mask) _ b.1 in
    let d = and_parts (contains row.range 0) (contains row.range 4) c.1 in
    let kind = branch_kind row.kind b.0 in
    record { on = on_is m a.0; kind = kind; carries = record { kind = inr kind; whole = no_mask row.mask c.0; here = d.0; next = d.1 } }
  where
    branch_kind : (k : RelocationKind) → is_branch k ≡ true → k ≡ kinds.PltRelative
    branch_kind kinds.PltRelative h = refl
    branch_kind other h = cc

    no_mask : (o : Option PageMask) → is_none o ≡ true → o ≡ None
    no_mask None h = refl
    no_mask (Some mask) h = cc
