-- What relocations of sections that debuggers read make of bytes: a field of the relocation's row, so the section keeps its length.
use Rattle.std.proofs.Common.{◌≡◌, ℕ, ◌+◌, ◌-◌, ◌≤◌, ◌⊎◌, inl, inr, suc, List, [], ◌∷◌, ◌++◌, length, take, drop, slice_range, refl, sym, ap, ◌∙◌, arith, subst, true, false, Bool, Option, Some, None}
use Rattle.std.specs.Prelude.{All, Result, Ok, Err, IfOk, if◌then◌else◌}
use Rattle.std.proofs.lemmas.List.{take-append-drop}
use Rattle.wild_words.specs.Words.{place}
use Rattle.wild_words.proofs.Basics.{length-range}
use Rattle.wild_words.proofs.OverlayLemmas.{length-place}
use Rattle.wild_types.specs.declared.fault.At.{At}
use Rattle.wild_types.specs.declared.fault.Error.{Error}
use Rattle.wild_types.specs.declared.fault.Fault.{Fault}
use Rattle.wild_types.specs.declared.input.InputRelocation.{InputRelocation}
use Rattle.wild_types.specs.declared.input.InputSection.{InputSection}
use Rattle.wild_types.specs.declared.layout.Layout.{Layout}
use Rattle.wild_types.specs.Addresses.{raw_value}
use Rattle.wild_types.specs.Rows.{row_of, row_width, field_bytes}
use Rattle.wild_reloc.specs.Field.{allows, field_width, size_width}
use Rattle.wild_reloc.specs.declared.info.RelocationKind.{RelocationKind}
use Rattle.wild_reloc.specs.declared.info.RelocationKind.TheVariants as kinds
use Rattle.wild_reloc.specs.declared.info.RelocationKindInfo.{RelocationKindInfo}
use Rattle.wild_reloc.specs.declared.info.RelocationSize.{RelocationSize}
use Rattle.wild_reloc.specs.declared.info.RelocationSize.TheVariants.{ByteSize, BitMasking}
use Rattle.wild_reloc.specs.declared.info.Width.TheVariants.{Zero, One, Two, Four, Eight}
use Rattle.wild_reloc.proofs.PlaceLemmas.{length-size_written}
use Rattle.wild_shards.specs.InOrder.{Rule, width, width_of, field_at, in_order, apply_step, then_apply, AreSmall, KeepsLength}
use Rattle.wild_layout.specs.declared.decision.Decision.{Decision}
use Rattle.wild_layout.specs.declared.decision.Decision.TheVariants.{Nothing, Field}
use Rattle.wild_layout.specs.SymbolValues.{sum, raw_address}
use Rattle.wild_layout.specs.Merged.{address_for, names_merged}
use Rattle.wild_layout.specs.Values.{offset_from, pointer_offset}
use Rattle.wild_layout.specs.Decide.{field}
use Rattle.wild_layout.specs.SectionPlaces.{FieldLies}
use Rattle.wild_layout.specs.Debug.{tombstone, tombstone_field, field_of_sum, field_of_address, field_without_address, by_address, field_without_symbol, field_by_symbol, debug_by, debug_with, debug_decided, debug_field, debug_written, width_by, debug_rule, at_offset_only, or_input, debug_bytes}

-- ---- fields

-- what was decided leaves so many bytes
abbrev Leaves : ℕ → List ℕ → Result Decision Fault → Type 0
Leaves n old d = IfOk d (λ e. length (debug_field e old) ≡ n)

in_field : (row : RelocationKindInfo) (v n : ℕ) (old : List ℕ) → n ≡ field_width row → Leaves n old (Ok (Field row.size v))
in_field row v n old h = length-size_written row.size v old ∙ sym h

tested : (b : Bool) (row : RelocationKindInfo) (v n : ℕ) (f : Fault) (old : List ℕ) → n ≡ field_width row → Leaves n old (if b then Ok (Field row.size v) else Err f)
tested true row v n f old h = in_field row v n old h
tested false row v n f old h = tt

field_leaves : (row : RelocationKindInfo) (v n : ℕ) (old : List ℕ) → n ≡ field_width row → Leaves n old (field row v)
field_leaves row v n old h = tested (allows row v) row v n _ old h

added_leaves : (r : InputRelocation) (row : RelocationKindInfo) (a : Result ℕ Fault) (n : ℕ) (old : List ℕ) → n ≡ field_width row → Leaves n old (field_of_sum r row a)
added_leaves r row (Err f) n old h = tt
added_leaves r row (Ok a) n old h = field_leaves row (sum a r.addend) n old h

either : (b : Bool) (n : ℕ) (old : List ℕ) (x y : Result Decision Fault) → Leaves n old x → Leaves n old y → Leaves n old (if b then x else y)
either true n old x y h k = h
either false n old x y h k = k

tombstone_leaves : (l : Layout) (s : InputSection) (row : RelocationKindInfo) (n : ℕ) (old : List ℕ) → n ≡ field_width row → Leaves n old (tombstone_field l s row)
tombstone_leaves l s row n old h =
    either l.options.new_tombstones n old (Ok (Field row.size (tombstone l s))) (field row (tombstone l s)) (in_field row (tombstone l s) n old h) (field_leaves row (tombstone l s) n old h)

valued_leaves : (l : Layout) (r : InputRelocation) (i : ℕ) (row : RelocationKindInfo) (k : RelocationKind) (n : ℕ) (old : List ℕ) → n ≡ field_width row → Leaves n old (field_of_address l r i row k)
valued_leaves l r i row kinds.Absolute n old h = added_leaves r row (address_for l r) n old h
valued_leaves l r i row kinds.DtpOff n old h = added_leaves r row (offset_from l.tls.start (raw_address l (Some i))) n old h
valued_leaves l r i row kinds.TpOff n old h = added_leaves r row (pointer_offset l (Some i)) n old h
valued_leaves l r i row other n old h = tt

by_address_leaves : (l : Layout) (s : InputSection) (r : InputRelocation) (i : ℕ) (row : RelocationKindInfo) (v : Option ℕ) (n : ℕ) (old : List ℕ) → n ≡ field_width row → Leaves n old (by_address l s r i row v)
by_address_leaves l s r i row None n old h =
    either (names_merged l (Some i)) n old (field_of_sum r row (address_for l r)) (tombstone_field l s row) (added_leaves r row (address_for l r) n old h) (tombstone_leaves l s row n old h)
by_address_leaves l s r i row (Some v) n old h = valued_leaves l r i row row.kind n old h

unnamed_leaves : (r : InputRelocation) (row : RelocationKindInfo) (k : RelocationKind) (n : ℕ) (old : List ℕ) → n ≡ field_width row → Leaves n old (field_without_symbol r row k)
unnamed_leaves r row kinds.Absolute n old h = field_leaves row _ n old h
unnamed_leaves r row other n old h = tt

named_leaves : (l : Layout) (s : InputSection) (r : InputRelocation) (row : RelocationKindInfo) (o : Option ℕ) (n : ℕ) (old : List ℕ) → n ≡ field_width row → Leaves n old (field_by_symbol l s r row o)
named_leaves l s r row None n old h = unnamed_leaves r row row.kind n old h
named_leaves l s r row (Some i) n old h = by_address_leaves l s r i row (raw_value l i) n old h

by_kind_leaves : (l : Layout) (s : InputSection) (r : InputRelocation) (row : RelocationKindInfo) (k : RelocationKind) (n : ℕ) (old : List ℕ) → n ≡ field_width row → length old ≡ n → Leaves n old (debug_by l s r row k)
by_kind_leaves l s r row kinds.None n old h e = e
by_kind_leaves l s r row other n old h e = named_leaves l s r row r.symbol n old h

with_leaves : (l : Layout) (s : InputSection) (r : InputRelocation) (o : Option RelocationKindInfo) (n : ℕ) (old : List ℕ) → n ≡ width_of (width_by o) → length old ≡ n → Leaves n old (debug_with l s r o)
with_leaves l s r None n old h e = tt
with_leaves l s r (Some row) n old h e = by_kind_leaves l s r row row.kind n old h e

pub decided_leaves : (l : Layout) (s : InputSection) (r : InputRelocation) (old : List ℕ) → length old ≡ width_of (width_by (row_of l.machine r.number)) → Leaves (length old) old (debug_decided l s r)
unfolding debug_decided
decided_leaves l s r old h = with_leaves l s r (row_of l.machine r.number) (length old) old h refl

-- ---- the rule

written_leaves : (to : ℕ → At) (r : InputRelocation) (d : Result Decision Fault) (old : List ℕ) → Leaves (length old) old d → IfOk (debug_written to r d old) (λ ys. length ys ≡ length old)
written_leaves to r (Ok d) old h = h
written_leaves to r (Err f) old h = tt

-- a field has as many bytes as before
pub debug_keeps : (l : Layout) (to : ℕ → At) (s : InputSection) → KeepsLength (debug_rule l to s)
debug_keeps l to s r old h = written_leaves to r (debug_decided l s r) old (decided_leaves l s r old h)

size_small : (z : RelocationSize) → size_width z ≤ 10
size_small (ByteSize Zero) = omega arith
size_small (ByteSize One) = omega arith
size_small (ByteSize Two) = omega arith
size_small (ByteSize Four) = omega arith
size_small (ByteSize Eight) = omega arith
size_small (BitMasking m) = omega arith

row_small : (o : Option RelocationKindInfo) → width_of (width_by o) ≤ 10
row_small None = omega arith
row_small (Some row) = size_small row.size

-- fields are at most 10 wide
pub debug_small : (l : Layout) (to : ℕ → At) (s : InputSection) → AreSmall (debug_rule l to s)
debug_small l to s r = row_small (row_of l.machine r.number)

row_wide : (o : Option RelocationKindInfo) → width_of (width_by o) ≡ row_width o
row_wide None = refl
row_wide (Some row) = refl

-- how wide a field is
pub debug_width : (l : Layout) (to : ℕ → At) (s : InputSection) (r : InputRelocation) → width (debug_rule l to s) r ≡ field_bytes l.machine r.number
debug_width l to s r = row_wide (row_of l.machine r.number)

-- ---- the section

-- a relocation that writes no byte, or a field in n bytes
abbrev LiesIn : Rule → ℕ → InputRelocation → Type 0
LiesIn rule n r = (width rule r ≡ 0) ⊎ (r.offset + width rule r ≤ n)

length-none : (a b : ℕ) (xs : List ℕ) → b ≡ a → length (slice_range xs a b) ≡ 0
length-none a b xs e = rw e (let z : a - a ≡ 0 = omega arith in rw z refl)

place-none : (a : ℕ) (ps xs : List ℕ) → length ps ≡ 0 → length (place a ps xs) ≡ length xs
unfolding place
place-none a [] xs h =
    let e : a + 0 ≡ a = omega arith in
    ap (λ (n : ℕ). length (take a xs ++ drop n xs)) e ∙ ap (λ (ys : List ℕ). length ys) (take-append-drop a xs)
place-none a (p ∷ ps) xs h = cc

in_range : (rule : Rule) (r : InputRelocation) (a : ℕ) (xs : List ℕ) → a ≡ r.offset → LiesIn rule (length xs) r → length (field_at rule a r xs) ≡ width rule r
in_range rule r a xs e (inl z) = length-none a (a + width rule r) xs (omega (arith, z)) ∙ sym z
in_range rule r a xs e (inr h) = length-range xs a (width rule r) (omega (arith, e, h))

put_keeps : (a w : ℕ) (xs : List ℕ) (d : Result (List ℕ) Error) → (w ≡ 0) ⊎ (a + w ≤ length xs) → IfOk d (λ ys. length ys ≡ w) → IfOk (then_apply d (λ ys. Ok (place a ys xs))) (λ zs. length zs ≡ length xs)
put_keeps a w xs (Err e) h k = tt
put_keeps a w xs (Ok ys) (inl z) k = place-none a ys xs (k ∙ z)
put_keeps a w xs (Ok ys) (inr h) k = length-place a xs ys (omega (arith, h, k))

lies_at : (rule : Rule) (r : InputRelocation) (a n : ℕ) → a ≡ r.offset → LiesIn rule n r → (width rule r ≡ 0) ⊎ (a + width rule r ≤ n)
lies_at rule r a n e (inl z) = inl z
lies_at rule r a n e (inr h) = inr (omega (arith, e, h))

step_keeps : (rule : Rule) (r : InputRelocation) (xs : List ℕ) → KeepsLength rule → LiesIn rule (length xs) r → IfOk (apply_step rule 0 r xs) (λ ys. length ys ≡ length xs)
step_keeps rule r xs keeps h =
    let a : ℕ = r.offset - 0 in
    let e : a ≡ r.offset = omega arith in
    let long = in_range rule r a xs e h in
    put_keeps a (width rule r) xs (rule.written r (field_at rule a r xs)) (lies_at rule r a (length xs) e h)
    (subst (λ (n : ℕ). IfOk (rule.written r (field_at rule a r xs)) (λ ys. length ys ≡ n)) long (keeps r (field_at rule a r xs) long))

on_keeps : (rule : Rule) (rs : List InputRelocation) (n : ℕ) (o : Result (List ℕ) Error) → IfOk o (λ ys. length ys ≡ n)
    → ((ys : List ℕ) → length ys ≡ n → IfOk (in_order rule 0 rs ys) (λ zs. length zs ≡ n))
    → IfOk (then_apply o (in_order rule 0 rs)) (λ zs. length zs ≡ n)
on_keeps rule rs n (Err e) h rest = tt
on_keeps rule rs n (Ok ys) h rest = rest ys h

pub in_order_keeps : (rule : Rule) (rs : List InputRelocation) (xs : List ℕ) (n : ℕ) → KeepsLength rule → length xs ≡ n → All (LiesIn rule n) rs → IfOk (in_order rule 0 rs xs) (λ ys. length ys ≡ n)
in_order_keeps rule [] xs n keeps e h = e
in_order_keeps rule (r ∷ rs) xs n keeps e h =
    let first : LiesIn rule (length xs) r = subst (λ (k : ℕ). LiesIn rule k r) (sym e) (h 0 r (omega arith)) in
    let one : IfOk (apply_step rule 0 r xs) (λ ys. length ys ≡ n) = subst (λ (k : ℕ). IfOk (apply_step rule 0 r xs) (λ ys. length ys ≡ k)) e (step_keeps rule r xs keeps first) in
    on_keeps rule rs n (apply_step rule 0 r xs) one (λ ys f. in_order_keeps rule rs ys n keeps f (λ i d b. h (suc i) d (omega arith)))

or_input_keeps : (old : List ℕ) (o : Result (List ℕ) Error) → IfOk o (λ ys. length ys ≡ length old) → length (or_input old o) ≡ length old
or_input_keeps old (Ok new) h = h
or_input_keeps old (Err e) h = refl

-- the section has as many bytes as before
pub length-debug_bytes : (l : Layout) (s : InputSection) → All (FieldLies l.machine (length s.bytes)) s.relocations → length (debug_bytes l s) ≡ length s.bytes
unfolding debug_bytes
length-debug_bytes l s h =
    or_input_keeps s.bytes (in_order (debug_rule l at_offset_only s) 0 s.relocations s.bytes)
    (in_order_keeps (debug_rule l at_offset_only s) s.relocations s.bytes (length s.bytes) (debug_keeps l at_offset_only s) refl
    (λ i d b. rw (debug_width l at_offset_only s _) (h i d b)))
