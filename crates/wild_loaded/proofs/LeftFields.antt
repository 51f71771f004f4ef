-- What the entries of fields make a loader do in a legal world, and what these fields are in the file.
use Rattle.wild_loaded.proofs.Common.{◌≡◌, ℕ, ◌+◌, ◌%◌, ◌^◌, ◌<◌, inl, inr, Bool, true, false, List, replicate, refl, sym, arith, subst, Option, Some, None, Result, Ok, Err, option_map, option_and_then, ◌==◌, ◌&&◌, slice_get, w64, cases_Bool, of_z-to_z, All-contains, word, length-word, listed_at, Fault, Machine, InputRelocation, Item, Resolution, Symbol, Layout, Treatment, has_flag, ifunc, is_position_independent, allocated, canonical, type_of, flags_at, treatment, size_width, Absolute, Irelative, RelocationSize, ByteSize, Eight, DynamicField, addend_bits, decided, index_of, decided_address, NumbersFit, SymbolNumbers, IsLaidOut, decided_left, entry_with, facts_of, processor_of, World, kind_of, change_of, IsLegal, IsAnsweredOnce}
use Rattle.wild_types.specs.declared.fault.Missing.TheVariants as missing
use Rattle.wild_types.specs.declared.symbol.ValueFlags.{ValueFlags}
use Rattle.wild_slot.specs.declared.treatment.Treatment.TheVariants as treatments
use Rattle.wild_needs.specs.Entries.{has_dynamic_entry}
use Rattle.wild_types.specs.Lookups.{writable}
use Rattle.wild_reloc.specs.Field.{size_written}
use Rattle.wild_reloc.specs.declared.info.RelocationKindInfo.{RelocationKindInfo}
use Rattle.wild_reloc.specs.declared.info.Width.TheVariants.{Four}
use Rattle.wild_layout.specs.Decide.{dynamic_decision, ifunc_decision, decide_by}
use Rattle.wild_layout.specs.SymbolValues.{resolved_address}
use Rattle.wild_layout.proofs.DecideLemmas.{sized_left, known_indirect, known_extent}
use Rattle.wild_geometry.specs.MachineFacts.{StoresSize}
use Rattle.wild_loader.specs.declared.memory.Machine.{Machine as Processor}
use Rattle.wild_loader.specs.declared.change.Change.TheVariants as changes
use Rattle.wild_loader.specs.declared.kind.DynamicKind.TheVariants as kinds
use Rattle.wild_loader.specs.Changes.{sum_with_addend}
use Rattle.wild_meaning.specs.World.{HasResolver}
use Rattle.wild_loaded.specs.StoredTables.{FillsField}
use Rattle.wild_loaded.proofs.Answers.{answered, IsGiven, symbol_answer, index_small}

-- ---- rows of sizes

-- the field of a size has four bytes or eight
abbrev IsSizeRow : Layout → ℕ → RelocationSize → Type 0
IsSizeRow l n z = (n < 2 ^ 32) × StoresSize (processor_of l.machine) n z

-- ---- what a treatment says

last_of_four : (a b c d : Bool) → (a && b && c && d) ≡ true → d ≡ true
last_of_four true true true d h = h
last_of_four true true false d h = cc
last_of_four true false c d h = cc
last_of_four false b c d h = cc

-- ---- the symbol that an entry names

-- its definition, with its resolution and its index
pub record IsIndexed (l : Layout) (i index : ℕ) : Type 0 where
  pub symbol : Symbol
  pub listed : slice_get l.symbols (canonical l i) ≡ Some symbol
  pub resolution : Resolution
  pub resolved : symbol.resolution ≡ Some resolution
  pub told : resolution.dynamic_symbol_index ≡ Some index

pub indexed : (l : Layout) (i index : ℕ) → index_of l i ≡ Some index → IsIndexed l i index
indexed l i index h = by_symbol (slice_get l.symbols (canonical l i)) refl h
  where
    by_resolution : (s : Symbol) → slice_get l.symbols (canonical l i) ≡ Some s → (o : Option Resolution) → s.resolution ≡ o → option_and_then (λ (r : Resolution). r.dynamic_symbol_index) o ≡ Some index → IsIndexed l i index
    by_resolution s listed None e h = cc
    by_resolution s listed (Some r) e h = record { symbol = s; listed = listed; resolution = r; resolved = e; told = h }

    by_symbol : (o : Option Symbol) → slice_get l.symbols (canonical l i) ≡ o → option_and_then (λ (r : Resolution). r.dynamic_symbol_index) (option_and_then (λ (s : Symbol). s.resolution) o) ≡ Some index → IsIndexed l i index
    by_symbol None e h = cc
    by_symbol (Some s) e h = by_resolution s e s.resolution refl h

-- what the world answers for it, and that the index has 32 bits
record IsNamed (w : World) (index : ℕ) : Type 0 where
  small : index < 2 ^ 32
  given : IsGiven w index

named_by : (l : Layout) (w : World) (i index : ℕ) → IsLegal l w → IsLaidOut l → index_of l i ≡ Some index → IsNamed w index
named_by l w i index legal laid h =
    let d = indexed l i index h in
    record {
      small = index_small l (canonical l i) index d.symbol d.resolution laid d.listed d.resolved d.told;
      given = symbol_answer l w (canonical l i) index d.symbol d.resolution legal d.listed d.resolved d.told;
    }

-- ---- what entries store

stores_address : (m : Machine) (w : World) (symbol addend : ℕ) → IsNamed w symbol → FillsField (processor_of m) w (ByteSize Eight) (type_of m Absolute) symbol addend
unfolding change_of
stores_address m w symbol addend n = record {
  type_fits = (facts_of m).types Absolute;
  index_fits = n.small;
  change = changes.Word (sum_with_addend n.given.answer.address (entry_with (type_of m Absolute) symbol addend));
  makes = record { kind = kinds.SymbolPlus; known = (facts_of m).entries Absolute; makes = rw n.given.listed refl };
  width = length-word 8 (sum_with_addend n.given.answer.address (entry_with (type_of m Absolute) symbol addend));
}

stores_half : (p : Processor) (w : World) (n symbol addend : ℕ) → n < 2 ^ 32 → kind_of p n ≡ Some kinds.Size32 → IsNamed w symbol → FillsField p w (ByteSize Four) n symbol addend
unfolding change_of
stores_half p w n symbol addend low known named = record {
  type_fits = low;
  index_fits = named.small;
  change = changes.Half (sum_with_addend named.given.answer.size (entry_with n symbol addend) % 2 ^ 32);
  makes = record { kind = kinds.Size32; known = known; makes = rw named.given.listed refl };
  width = length-word 4 (sum_with_addend named.given.answer.size (entry_with n symbol addend) % 2 ^ 32);
}

stores_size : (p : Processor) (w : World) (n symbol addend : ℕ) → n < 2 ^ 32 → kind_of p n ≡ Some kinds.Size64 → IsNamed w symbol → FillsField p w (ByteSize Eight) n symbol addend
unfolding change_of
stores_size p w n symbol addend low known named = record {
  type_fits = low;
  index_fits = named.small;
  change = changes.Word (sum_with_addend named.given.answer.size (entry_with n symbol addend));
  makes = record { kind = kinds.Size64; known = known; makes = rw named.given.listed refl };
  width = length-word 8 (sum_with_addend named.given.answer.size (entry_with n symbol addend));
}

stores_chosen : (m : Machine) (w : World) (value : ℕ) → value < 2 ^ 64 → IsAnsweredOnce w ((w.base + value) % 2 ^ 64) → FillsField (processor_of m) w (ByteSize Eight) (type_of m Irelative) 0 value
unfolding change_of
stores_chosen m w value small a =
    let back = of_z-to_z w64 value small in
    record {
      type_fits = (facts_of m).types Irelative;
      index_fits = omega arith;
      change = changes.Word a.answer;
      makes = record { kind = kinds.Resolved; known = (facts_of m).entries Irelative; makes = rw (back, answered w ((w.base + value) % 2 ^ 64) a) refl };
      width = length-word 8 a.answer;
    }

-- ---- resolvers

-- the address of a resolver is what was decided of the symbol's definition
record IsChosen (l : Layout) (i value : ℕ) : Type 0 where
  symbol : Symbol
  listed : slice_get l.symbols (canonical l i) ≡ Some symbol
  resolution : Resolution
  resolved : symbol.resolution ≡ Some resolution
  is : resolution.raw_value ≡ value

chosen_by : (l : Layout) (i value : ℕ) → decided_address l i ≡ Ok value → IsChosen l i value
chosen_by l i value h = by_symbol (slice_get l.symbols (canonical l i)) refl h
  where
    address : Option Resolution → Result ℕ Fault
    address o = resolved_address missing.Address i (option_map (λ (r : Resolution). r.raw_value) o)

    by_resolution : (s : Symbol) → slice_get l.symbols (canonical l i) ≡ Some s → (o : Option Resolution) → s.resolution ≡ o → address o ≡ Ok value → IsChosen l i value
    by_resolution s listed None e h = cc
    by_resolution s listed (Some r) e h = (let is : r.raw_value ≡ value = cc in record { symbol = s; listed = listed; resolution = r; resolved = e; is = is })

    by_symbol : (o : Option Symbol) → slice_get l.symbols (canonical l i) ≡ o → address (option_and_then (λ (s : Symbol). s.resolution) o) ≡ Ok value → IsChosen l i value
    by_symbol None e h = cc
    by_symbol (Some s) e h = by_resolution s e s.resolution refl h

-- the flags of a symbol are its definition's
flag_of : (l : Layout) (i : ℕ) (s : Symbol) → slice_get l.symbols (canonical l i) ≡ Some s → has_flag (flags_at l i) ifunc ≡ true → has_flag s.flags ifunc ≡ true
flag_of l i s e h =
    let same : flags_at l i ≡ s.flags = rw e refl in
    subst (λ (f : ValueFlags). has_flag f ifunc ≡ true) same h

chosen_fills : (l : Layout) (w : World) (i value : ℕ) → NumbersFit l → IsLegal l w → has_flag (flags_at l i) ifunc ≡ true → decided_address l i ≡ Ok value → FillsField (processor_of l.machine) w (ByteSize Eight) (type_of l.machine Irelative) 0 value
chosen_fills l w i value numbers legal flag h =
    let c = chosen_by l i value h in
    let there = listed_at l.symbols (canonical l i) c.symbol c.listed in
    let small = (All-contains SymbolNumbers l.symbols c.symbol numbers.symbols there c.resolution c.resolved).value in
    let a = All-contains (HasResolver w) l.symbols c.symbol legal.resolvers there (flag_of l i c.symbol c.listed flag) c.resolution c.resolved in
    subst (λ (v : ℕ). FillsField (processor_of l.machine) w (ByteSize Eight) (type_of l.machine Irelative) 0 v) c.is (stores_chosen l.machine w c.resolution.raw_value small a)

-- ---- decisions

-- what an entry that names a symbol has
left_parts : (P : RelocationSize → ℕ → ℕ → ℕ → Type 0) (z x : RelocationSize) (number n symbol addend : ℕ) (r : InputRelocation) (i : ℕ) (o : Option ℕ) → dynamic_decision z number r i o ≡ Ok (DynamicField x n symbol addend) → ((index : ℕ) → o ≡ Some index → P z number index (addend_bits r)) → P x n symbol addend
left_parts P z x number n symbol addend r i None h k = cc
left_parts P z x number n symbol addend r i (Some index) h k =
    let size : z ≡ x = cc in
    let same : number ≡ n = cc in
    let there : index ≡ symbol = cc in
    let more : addend_bits r ≡ addend = cc in
    subst (λ (y : RelocationSize). P y n symbol addend) size
    (subst (λ (m : ℕ). P z m symbol addend) same
    (subst (λ (m : ℕ). P z number m addend) there
    (subst (λ (m : ℕ). P z number index m) more (k index refl))))

-- and one with a resolver
chosen_parts : (P : RelocationSize → ℕ → ℕ → ℕ → Type 0) (l : Layout) (x : RelocationSize) (n symbol addend : ℕ) (r : InputRelocation) (a : Result ℕ Fault) → ifunc_decision l r a ≡ Ok (DynamicField x n symbol addend) → ((value : ℕ) → a ≡ Ok value → P (ByteSize Eight) (type_of l.machine Irelative) 0 value) → P x n symbol addend
chosen_parts P l x n symbol addend r (Err f) h k = cc
chosen_parts P l x n symbol addend r (Ok value) h k =
    elim (cases_Bool (addend_bits r == 0)) [
      | inr f ↦ cc (rw f at h)
      | inl t ↦
          (let e : Ok (DynamicField (ByteSize Eight) (type_of l.machine Irelative) 0 value) ≡ Ok (DynamicField x n symbol addend) = rw t at h in
          let size : ByteSize Eight ≡ x = cc in
          let same : type_of l.machine Irelative ≡ n = cc in
          let none : 0 ≡ symbol = cc in
          let is : value ≡ addend = cc in
          subst (λ (y : RelocationSize). P y n symbol addend) size
          (subst (λ (m : ℕ). P (ByteSize Eight) m symbol addend) same
          (subst (λ (m : ℕ). P (ByteSize Eight) (type_of l.machine Irelative) m addend) none
          (subst (λ (m : ℕ). P (ByteSize Eight) (type_of l.machine Irelative) 0 m) is (k value refl)))))
    ]

-- the cases of a field that is left to an entry: of an address, of a size, of what a resolver answers
record IsLeftCase (l : Layout) (s : Item) (r : InputRelocation) (P : RelocationSize → ℕ → ℕ → ℕ → Type 0) : Type 0 where
  address : (i index : ℕ) → index_of l i ≡ Some index → P (ByteSize Eight) (type_of l.machine Absolute) index (addend_bits r)
  chosen : (i value : ℕ) → has_flag (flags_at l i) ifunc ≡ true → decided_address l i ≡ Ok value → P (ByteSize Eight) (type_of l.machine Irelative) 0 value
  size : (i index : ℕ) (row : RelocationKindInfo) → IsSizeRow l r.number row.size → index_of l i ≡ Some index → P row.size r.number index (addend_bits r)

by_treatment : (P : RelocationSize → ℕ → ℕ → ℕ → Type 0) (l : Layout) (s : Item) (r : InputRelocation) (z : RelocationSize) (n symbol addend : ℕ) → IsLeftCase l s r P → (t : Treatment) → treatment l s.flags r ≡ t → has_dynamic_entry t ≡ true → decide_by l s r t ≡ Ok (DynamicField z n symbol addend) → P z n symbol addend
by_treatment P l s r z n symbol addend k (treatments.Symbolic i) is left made = left_parts P (ByteSize Eight) z (type_of l.machine Absolute) n symbol addend r i (index_of l i) made (k.address i)
by_treatment P l s r z n symbol addend k (treatments.Indirect i) is left made =
    let flag = last_of_four (allocated s.flags) (writable s.flags) (is_position_independent l.kind) (has_flag (flags_at l i) ifunc) (known_indirect l s.flags r i is).3.chosen in
    chosen_parts P l z n symbol addend r (decided_address l i) made (λ value e. k.chosen i value flag e)
by_treatment P l s r z n symbol addend k (treatments.Extent row i) is left made =
    let told = known_extent l s.flags r row i is in
    left_parts P row.size z r.number n symbol addend r i (index_of l i) (sized_left l r row i (DynamicField z n symbol addend) made) (λ index e. k.size i index row ((facts_of l.machine).sizes r.number row told.0 told.1.kind) e)
by_treatment P l s r z n symbol addend k treatments.Nothing is left made = cc
by_treatment P l s r z n symbol addend k (treatments.Value row) is left made = cc
by_treatment P l s r z n symbol addend k treatments.BaseRelative is left made = cc
by_treatment P l s r z n symbol addend k treatments.Recompile is left made = cc
by_treatment P l s r z n symbol addend k treatments.Unsupported is left made = cc

left_case : (P : RelocationSize → ℕ → ℕ → ℕ → Type 0) (l : Layout) (s : Item) (r : InputRelocation) (z : RelocationSize) (n symbol addend : ℕ) → IsLeftCase l s r P → decided l s r ≡ Ok (DynamicField z n symbol addend) → P z n symbol addend
left_case P l s r z n symbol addend k h =
    let x = decided_left l s r z n symbol addend h in
    by_treatment P l s r z n symbol addend k x.treated x.is x.left x.made

-- ---- what is in the file

-- a field of whole bytes in which 0 is written is zeros
abbrev IsZeroed : RelocationSize → Type 0
IsZeroed z = (old : List ℕ) → size_written z 0 old ≡ replicate (size_width z) 0

eight_zeroed : IsZeroed (ByteSize Eight)
unfolding word
eight_zeroed old = refl

four_zeroed : IsZeroed (ByteSize Four)
unfolding word
four_zeroed old = refl

size_zeroed : (l : Layout) (n : ℕ) (z : RelocationSize) → IsSizeRow l n z → IsZeroed z
size_zeroed l n z h = elim h.1 [
  | inl e ↦ subst IsZeroed (sym e.1) four_zeroed
  | inr e ↦ subst IsZeroed (sym e.1) eight_zeroed
]

pub left_zeroed : (l : Layout) (s : Item) (r : InputRelocation) (z : RelocationSize) (n symbol addend : ℕ) (old : List ℕ) → decided l s r ≡ Ok (DynamicField z n symbol addend) → size_written z 0 old ≡ replicate (size_width z) 0
left_zeroed l s r z n symbol addend old h =
    left_case (λ y m k a. IsZeroed y) l s r z n symbol addend
    (record { address = λ i index e. eight_zeroed; chosen = λ i value f e. eight_zeroed; size = λ i index row q e. size_zeroed l r.number row.size q }) h old

-- ---- what the entry makes a loader do

size_fills : (l : Layout) (w : World) (n symbol addend : ℕ) (z : RelocationSize) → IsSizeRow l n z → IsNamed w symbol → FillsField (processor_of l.machine) w z n symbol addend
size_fills l w n symbol addend z h named =
    let P : RelocationSize → Type 0 = λ y. FillsField (processor_of l.machine) w y n symbol addend in
    elim h.1 [
      | inl e ↦ subst P (sym e.1) (stores_half (processor_of l.machine) w n symbol addend h.0 e.0 named)
      | inr e ↦ subst P (sym e.1) (stores_size (processor_of l.machine) w n symbol addend h.0 e.0 named)
    ]

pub left_fills : (l : Layout) (w : World) (s : Item) (r : InputRelocation) (z : RelocationSize) (n symbol addend : ℕ) → NumbersFit l → IsLegal l w → IsLaidOut l → decided l s r ≡ Ok (DynamicField z n symbol addend) → FillsField (processor_of l.machine) w z n symbol addend
left_fills l w s r z n symbol addend numbers legal laid h = left_case (FillsField (processor_of l.machine) w) l s r z n symbol addend (record {
  address = λ i index e. stores_address l.machine w index (addend_bits r) (named_by l w i index legal laid e);
  chosen = λ i value f e. chosen_fills l w i value numbers legal f e;
  size = λ i index row q e. size_fills l w r.number index (addend_bits r) row.size q (named_by l w i index legal laid e);
}) h
