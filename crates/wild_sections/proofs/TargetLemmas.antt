-- Laws of the table of the targets of distances.
use Rattle.std.proofs.Common.{◌≡◌, ℕ, ◌+◌, ◌<◌, inl, inr, Bool, true, false, List, [], ◌∷◌, ◌++◌, length, get_or, map, refl, sym, ap, ◌∙◌, arith, subst}
use Rattle.std.specs.Prelude.{◌||◌, if◌then◌else◌, Option, Some, Ok, Err}
use Rattle.std.specs.List.{range_with_len}
use Rattle.std.proofs.lemmas.Bool.{cases_Bool}
use Rattle.std.proofs.lemmas.List.FromFn.{get_or-map-range_with_len, length-map-range_with_len, map-range_with_len_more}
use Rattle.wild_records.specs.Abi.Relocation.{r_x86_64_pc32}
use Rattle.wild_reloc.specs.Range.{of_bits, contains}
use Rattle.wild_reloc.specs.Table.{plain}
use Rattle.wild_reloc.specs.TableX86_64.{x86_64_row}
use Rattle.wild_reloc.specs.declared.range.Sign.TheVariants.{Signed}
use Rattle.wild_reloc.specs.declared.info.RelocationKind.TheVariants.{Relative}
use Rattle.wild_reloc.specs.declared.info.RelocationSize.TheVariants.{ByteSize}
use Rattle.wild_reloc.specs.declared.info.Width.TheVariants.{Four}
use Rattle.wild_reloc.specs.declared.info.RelocationKindInfo.{RelocationKindInfo}
use Rattle.wild_types.specs.declared.kind.Machine.{Machine}
use Rattle.wild_types.specs.declared.kind.Machine.TheVariants as machine
use Rattle.wild_types.specs.declared.input.InputRelocation.{InputRelocation}
use Rattle.wild_types.specs.declared.layout.Layout.{Layout}
use Rattle.wild_types.specs.Item.{Item}
use Rattle.wild_types.specs.Lookups.{place_of}
use Rattle.wild_types.specs.Rows.{row_of}
use Rattle.wild_types.specs.Addresses.{raw_value}
use Rattle.wild_types.specs.Flags.{interposable}
use Rattle.wild_slot.specs.Treatment.{flags_at, is_barred}
use Rattle.wild_layout.specs.declared.decision.Decision.TheVariants.{Field}
use Rattle.wild_layout.specs.SymbolValues.{displacement}
use Rattle.wild_layout.specs.SlotValues.{symbol_is_ifunc, address_of}
use Rattle.wild_layout.specs.Merged.{names_merged, address_for}
use Rattle.wild_reloc.specs.declared.expression.Term.TheVariants as terms
use Rattle.wild_types.specs.declared.fault.Fault.TheVariants as faults
use Rattle.wild_layout.specs.Values.{weak_resolves_to_place, undefined_weak_target, term_by, term_at}
use Rattle.wild_layout.specs.Decide.{field_for, field_or_thunk, decided}
use Rattle.wild_layout.proofs.MergedLemmas.{address_plain}
use Rattle.wild_sections.specs.Targets.{is_x86_64, has_targets, target_of, HasTargets, IsTarget, IsKnownTarget, IsOwnTarget}
use Rattle.wild_sections.proofs.DistanceLemmas.{known_decided}

-- ---- the table

-- an entry of the table
pub target_at : (l : Layout) (targets : List (Option ℕ)) (i : ℕ) (d : Option ℕ) → HasTargets l targets → i < length targets → get_or targets i d ≡ target_of l i
target_at l targets i d h m =
    ap (λ (ts : List (Option ℕ)). get_or ts i d) h.all ∙ get_or-map-range_with_len (target_of l) 0 (length targets) i i d m (omega arith)

-- one more entry
pub target_more : (l : Layout) (i : ℕ) (targets next : List (Option ℕ)) (v : Option ℕ) → targets ≡ map (target_of l) (range_with_len 0 i) → next ≡ targets ++ v ∷ [] → v ≡ target_of l i → next ≡ map (target_of l) (range_with_len 0 (i + 1))
target_more l i targets next v before pushed is =
    pushed ∙ ap (λ (xs : List (Option ℕ)). xs ++ v ∷ []) before
    ∙ ap (λ (x : Option ℕ). map (target_of l) (range_with_len 0 i) ++ x ∷ []) is
    ∙ sym (map-range_with_len_more (target_of l) 0 i i (omega arith))

pub table_made : (l : Layout) (targets : List (Option ℕ)) (n : ℕ) → targets ≡ map (target_of l) (range_with_len 0 n) → has_targets l ≡ true → HasTargets l targets
table_made l targets n is output =
    let long = ap length is ∙ length-map-range_with_len (target_of l) 0 n in
    record { all = is ∙ ap (λ (k : ℕ). map (target_of l) (range_with_len 0 k)) (sym long); some = λ i h. output }

pub no_table : (l : Layout) (targets : List (Option ℕ)) → targets ≡ [] → HasTargets l targets
no_table l targets h = rw h (record { all = refl; some = λ i low. absurd (omega (arith, low)) })

-- ---- what a target is

or_false : (a b : Bool) → (a || b) ≡ false → (a ≡ false) × (b ≡ false)
or_false true b h = cc
or_false false b h = (refl, h)

-- a symbol with a target is not chosen, and stands for no merged strings
pub record IsPlain (l : Layout) (i a : ℕ) : Type 0 where
  pub unchosen : symbol_is_ifunc l i ≡ false
  pub unmerged : names_merged l (Some i) ≡ false
  pub value : raw_value l i ≡ Some a

pub is_plain : (l : Layout) (i a : ℕ) → target_of l i ≡ Some a → IsPlain l i a
is_plain l i a h =
    elim (cases_Bool (symbol_is_ifunc l i || names_merged l (Some i))) [
      | inl t ↦ cc (rw t at h)
      | inr n ↦ (let p = or_false (symbol_is_ifunc l i) (names_merged l (Some i)) n in record { unchosen = p.0; unmerged = p.1; value = rw n at h })
    ]

address_is : (l : Layout) (i a : ℕ) → IsPlain l i a → address_of l (Some i) ≡ Ok a
address_is l i a p = rw (p.unchosen, p.value) refl

-- so S is its value
pub target_address : (l : Layout) (r : InputRelocation) (i a : ℕ) → r.symbol ≡ Some i → target_of l i ≡ Some a → address_for l r ≡ Ok a
target_address l r i a named h =
    let p = is_plain l i a h in
    let unmerged : names_merged l r.symbol ≡ false = ap (names_merged l) named ∙ p.unmerged in
    address_plain l r unmerged ∙ ap (address_of l) named ∙ address_is l i a p

pub known_by : (l : Layout) (i t a : ℕ) → Some t ≡ Some a → IsTarget l i t → ((flags n : ℕ) → is_barred l flags n i ≡ false) → IsKnownTarget l i a
known_by l i t a e target here = let same : t ≡ a = cc e in record { target = subst (IsTarget l i) same target; here = here }

pub own_by : (l : Layout) (i t a : ℕ) → Some t ≡ Some a → IsTarget l i t → interposable (flags_at l i) ≡ false → IsOwnTarget l i a
own_by l i t a e target own = let same : t ≡ a = cc e in record { target = subst (IsTarget l i) same target; own = own }

-- ---- what is decided

pub is_machine : (m : Machine) → is_x86_64 m ≡ true → m ≡ machine.X86_64
is_machine machine.X86_64 h = refl
is_machine machine.AArch64 h = cc

-- the row of the most common type
abbrev pub near_row : RelocationKindInfo
near_row = plain Relative Four Signed

known_row : (m : Machine) (n : ℕ) → m ≡ machine.X86_64 → n ≡ r_x86_64_pc32 → row_of m n ≡ Some near_row
unfolding row_of x86_64_row
known_row m n x86 number = rw (x86, number) refl

pub near_term : (l : Layout) (r : InputRelocation) (p a : ℕ) → l.machine ≡ machine.X86_64 → address_for l r ≡ Ok a → term_at l r near_row p ≡ Ok a
near_term l r p a x86 is = ap (λ (m : Machine). if weak_resolves_to_place m l r near_row then Ok (undefined_weak_target r.number p) else term_by l r terms.Symbol) x86 ∙ is

pub near_reached : (l : Layout) (s : Item) (r : InputRelocation) (v : ℕ) → contains (of_bits 32 Signed) v ≡ true → field_or_thunk l s r near_row v ≡ Ok (Field (ByteSize Four) v)
unfolding field_or_thunk
near_reached l s r v fits = ap (λ (b : Bool). if b then Ok (Field (ByteSize Four) v) else Err (faults.OutOfRange v)) fits

near_field : (l : Layout) (s : Item) (r : InputRelocation) (a v : ℕ) → v ≡ displacement a r.addend (place_of s.address r) → contains (of_bits 32 Signed) v ≡ true → field_for l s r near_row (Ok a) ≡ Ok (Field (ByteSize Four) v)
near_field l s r a v is fits = ap (λ (x : ℕ). field_or_thunk l s r near_row x) (sym is) ∙ near_reached l s r v fits

-- a distance to a target that four bytes hold
pub near_decided : (l : Layout) (s : Item) (r : InputRelocation) (i a v : ℕ) → r.number ≡ r_x86_64_pc32 → r.symbol ≡ Some i → IsKnownTarget l i a → v ≡ displacement a r.addend (place_of s.address r) → contains (of_bits 32 Signed) v ≡ true
    → decided l s r ≡ Ok (Field (ByteSize Four) v)
near_decided l s r i a v number named known is fits =
    let x86 = is_machine l.machine known.target.output in
    let term = near_term l r (place_of s.address r) a x86 (target_address l r i a named known.target.is) in
    sym (known_decided l s r near_row i (known_row l.machine r.number x86 number) refl x86 named (known.here s.flags r.number))
    ∙ ap (field_for l s r near_row) term ∙ near_field l s r a v is fits
