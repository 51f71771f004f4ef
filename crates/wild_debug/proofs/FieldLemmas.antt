-- What the code writes of a relocation is what the rule makes of its field.
use Rattle.std.proofs.Common.{◌≡◌, ℕ, get_or, ◌+◌, ◌-◌, inl, inr, List, [], ◌∷◌, ◌++◌, length, take, drop, slice_range, replicate, refl, sym, ap, ◌∙◌, arith, subst}
use Rattle.std.specs.Prelude.{Result, Ok, Err, IfOk, All, ◌≤◌, ◌⊎◌}
use Rattle.std.proofs.lemmas.List.{append-nil, drop_all, take_all, take-append-drop, drop-drop, length-replicate}
use Rattle.wild_words.specs.Words.{place}
use Rattle.wild_words.proofs.Basics.{length-range}
use Rattle.wild_words.proofs.OverlayLemmas.{length-place}
use Rattle.wild_types.specs.declared.fault.At.{At}
use Rattle.wild_types.specs.declared.fault.Fault.{Fault}
use Rattle.wild_types.specs.declared.kind.Machine.{Machine}
use Rattle.wild_types.specs.Rows.{field_bytes}
use Rattle.wild_types.specs.declared.input.InputRelocation.{InputRelocation}
use Rattle.wild_types.specs.declared.input.InputSection.{InputSection}
use Rattle.wild_types.specs.declared.layout.Layout.{Layout}
use Rattle.wild_reloc.specs.Field.{size_width, size_written}
use Rattle.wild_reloc.specs.declared.info.RelocationSize.{RelocationSize}
use Rattle.wild_reloc.proofs.PlaceLemmas.{length-size_written}
use Rattle.wild_shards.specs.InOrder.{Rule, width, apply_step, then_apply, FieldWithin}
use Rattle.wild_layout.specs.declared.decision.Decision.{Decision}
use Rattle.wild_layout.specs.declared.decision.Decision.TheVariants.{Field}
use Rattle.wild_layout.specs.SectionPlaces.{FieldLies}
use Rattle.wild_layout.specs.Debug.{debug_decided, debug_field, debug_written, debug_rule, at_offset_only}
use Rattle.wild_layout.proofs.DebugLemmas.{decided_leaves, debug_width}
use Rattle.wild_debug.specs.Fields.{LiesAt, FieldLiesFrom}

-- ---- fields by themselves

-- a field that keeps its length is as wide as its bytes
pub field_wide : (z : RelocationSize) (v n : ℕ) (old : List ℕ) → length (size_written z v old) ≡ n → size_width z ≡ n
field_wide z v n old h = sym (length-size_written z v old) ∙ h

place-whole : (part old : List ℕ) → length part ≡ length old → place 0 part old ≡ part
unfolding place
place-whole part old h =
    let none : drop (0 + length part) old ≡ [] = drop_all (0 + length part) old (omega (arith, h)) in
    rw none (append-nil part)

-- what is written over all of a field's bytes
pub whole_field : (z : RelocationSize) (v : ℕ) (old new : List ℕ) → length (size_written z v old) ≡ length old → new ≡ place 0 (size_written z v (take (size_width z) old)) old → new ≡ size_written z v old
whole_field z v old new h e =
    let w = field_wide z v (length old) old h in
    let t : take (size_width z) old ≡ old = take_all (size_width z) old (omega (arith, w)) in
    e ∙ ap (λ (xs : List ℕ). place 0 (size_written z v xs) old) t ∙ place-whole (size_written z v old) old h

-- ---- fields in a section

-- a part of no byte changes nothing
pub place_none : (a : ℕ) (ps xs : List ℕ) → length ps ≡ 0 → place a ps xs ≡ xs
unfolding place
place_none a [] xs h =
    let e : a + 0 ≡ a = omega arith in
    ap (λ (n : ℕ). take a xs ++ drop n xs) e ∙ take-append-drop a xs
place_none a (p ∷ ps) xs h = cc

range_none : (a b : ℕ) (xs : List ℕ) → b ≡ a → length (slice_range xs a b) ≡ 0
range_none a b xs e = rw e (let z : a - a ≡ 0 = omega arith in rw z refl)

-- where a field has no byte, what is written of it changes nothing
pub none_written : (z : RelocationSize) (v a : ℕ) (xs : List ℕ) → size_width z ≡ 0 → xs ≡ place a (size_written z v (slice_range xs a (a + size_width z))) xs
none_written z v a xs h = sym (place_none a (size_written z v (slice_range xs a (a + size_width z))) xs (length-size_written z v (slice_range xs a (a + size_width z)) ∙ h))

-- nor do the bytes that stand there
place_same : (a w : ℕ) (xs : List ℕ) → LiesAt a w (length xs) → place a (slice_range xs a (a + w)) xs ≡ xs
unfolding place
place_same a w xs (inl z) = place_none a (slice_range xs a (a + w)) xs (range_none a (a + w) xs (omega (arith, z)))
place_same a w xs (inr h) =
    let long = length-range xs a w h in
    let e : a + length (slice_range xs a (a + w)) ≡ a + w = omega (arith, long) in
    let k : a + w - a ≡ w = omega arith in
    let back : drop (a + w) xs ≡ drop w (drop a xs) = sym (drop-drop w a xs) in
    let inner : take (a + w - a) (drop a xs) ++ drop w (drop a xs) ≡ drop a xs = ap (λ (n : ℕ). take n (drop a xs) ++ drop w (drop a xs)) k ∙ take-append-drop w (drop a xs) in
    ap (λ (n : ℕ). take a xs ++ (slice_range xs a (a + w) ++ drop n xs)) e
    ∙ (ap (λ (ys : List ℕ). take a xs ++ (slice_range xs a (a + w) ++ ys)) back
    ∙ (ap (λ (ys : List ℕ). take a xs ++ ys) inner ∙ take-append-drop a xs))

-- ---- one relocation

-- a field that is decided is the row's
size_is : (z : RelocationSize) (v n : ℕ) (old : List ℕ) (d : Result Decision Fault) → d ≡ Ok (Field z v) → length old ≡ n
    → ((e : Decision) → d ≡ Ok e → length (debug_field e old) ≡ length old) → size_width z ≡ n
size_is z v n old d is long keeps = field_wide z v n old (keeps (Field z v) is ∙ long)

ok_given : {X E : Type 0} (P : X → Type 0) (d : Result X E) (x : X) → IfOk d P → d ≡ Ok x → P x
ok_given P (Ok y) x h e = let s : y ≡ x = cc in subst P s h
ok_given P (Err f) x h e = cc

-- what is decided leaves as many bytes
pub decided_keeps : (l : Layout) (s : InputSection) (r : InputRelocation) (d : Decision) (old : List ℕ) → length old ≡ width (debug_rule l at_offset_only s) r → debug_decided l s r ≡ Ok d → length (debug_field d old) ≡ length old
decided_keeps l s r d old long is = ok_given (λ (x : Decision). length (debug_field x old) ≡ length old) (debug_decided l s r) d (decided_leaves l s r old long) is

pub decided_width : (l : Layout) (s : InputSection) (r : InputRelocation) (z : RelocationSize) (v : ℕ) → debug_decided l s r ≡ Ok (Field z v) → size_width z ≡ width (debug_rule l at_offset_only s) r
decided_width l s r z v is =
    let w : ℕ = width (debug_rule l at_offset_only s) r in
    let old : List ℕ = replicate w 0 in
    let long : length old ≡ w = length-replicate w 0 in
    size_is z v w old (debug_decided l s r) is long (λ e has. decided_keeps l s r e old long has)

-- where a field lies in bytes that begin at b, as the rule has its width
lies_in : (l : Layout) (s : InputSection) (r : InputRelocation) (b n w : ℕ) → w ≡ width (debug_rule l at_offset_only s) r → b ≤ r.offset → (field_bytes l.machine r.number ≡ 0) ⊎ (r.offset + field_bytes l.machine r.number ≤ b + n)
    → LiesAt (r.offset - b) w n
lies_in l s r b n w e low (inl h) = inl (e ∙ (debug_width l at_offset_only s r ∙ h))
lies_in l s r b n w e low (inr h) = let k = debug_width l at_offset_only s r in inr (omega (arith, e, k, low, h))

lies_by : (l : Layout) (s : InputSection) (r : InputRelocation) (b n w : ℕ) → w ≡ width (debug_rule l at_offset_only s) r → FieldLiesFrom l.machine b n r → LiesAt (r.offset - b) w n
lies_by l s r b n w e h = lies_in l s r b n w e h.0 h.1

pub field_lies_at : (l : Layout) (s : InputSection) (r : InputRelocation) (z : RelocationSize) (v b n : ℕ) → debug_decided l s r ≡ Ok (Field z v) → FieldLiesFrom l.machine b n r → LiesAt (r.offset - b) (size_width z) n
field_lies_at l s r z v b n is h = lies_by l s r b n (size_width z) (decided_width l s r z v is) h

step_by : (to : ℕ → At) (r : InputRelocation) (d : Result Decision Fault) (e : Decision) (a : ℕ) (old xs : List ℕ) → d ≡ Ok e → then_apply (debug_written to r d old) (λ ys. Ok (place a ys xs)) ≡ Ok (place a (debug_field e old) xs)
step_by to r d e a old xs is = rw is refl

-- a relocation that writes a field
pub step_field : (l : Layout) (s : InputSection) (r : InputRelocation) (z : RelocationSize) (v b : ℕ) (xs ys : List ℕ) → debug_decided l s r ≡ Ok (Field z v)
    → ys ≡ place (r.offset - b) (size_written z v (slice_range xs (r.offset - b) (r.offset - b + size_width z))) xs → apply_step (debug_rule l at_offset_only s) b r xs ≡ Ok ys
step_field l s r z v b xs ys is e =
    let rule : Rule = debug_rule l at_offset_only s in
    let a : ℕ = r.offset - b in
    step_by at_offset_only r (debug_decided l s r) (Field z v) a (slice_range xs a (a + width rule r)) xs is
    ∙ (ap (λ (w : ℕ). Ok (place a (size_written z v (slice_range xs a (a + w))) xs)) (sym (decided_width l s r z v is)) ∙ ap (λ (zs : List ℕ). Ok zs) (sym e))

-- what is no field leaves the bytes as they are
pub not_field : (d : Decision) → ((z : RelocationSize) (v : ℕ) → d ≡ Field z v → ⊥) → (old : List ℕ) → debug_field d old ≡ old
not_field (Field z v) unlike old = absurd (unlike z v refl)
not_field other unlike old = refl

-- one that writes nothing
pub step_nothing : (l : Layout) (s : InputSection) (r : InputRelocation) (d : Decision) (b : ℕ) (xs ys : List ℕ) → debug_decided l s r ≡ Ok d → ((old : List ℕ) → debug_field d old ≡ old) → FieldLiesFrom l.machine b (length xs) r → ys ≡ xs
    → apply_step (debug_rule l at_offset_only s) b r xs ≡ Ok ys
step_nothing l s r d b xs ys is plain h e =
    let rule : Rule = debug_rule l at_offset_only s in
    let a : ℕ = r.offset - b in
    let w : ℕ = width rule r in
    step_by at_offset_only r (debug_decided l s r) d a (slice_range xs a (a + w)) xs is
    ∙ (ap (λ (zs : List ℕ). Ok (place a zs xs)) (plain (slice_range xs a (a + w)))
    ∙ (ap (λ (zs : List ℕ). Ok zs) (place_same a w xs (lies_by l s r b (length xs) w refl h)) ∙ ap (λ (zs : List ℕ). Ok zs) (sym e)))

-- ---- all relocations of a section, or of a shard

from_start : (m : Machine) (n : ℕ) (r : InputRelocation) → FieldLies m n r → FieldLiesFrom m 0 n r
from_start m n r (inl h) = (omega arith, inl h)
from_start m n r (inr h) = (omega arith, inr (omega (arith, h)))

-- a section's bytes begin at offset 0
pub lie_from_start : (m : Machine) (n : ℕ) (rs : List InputRelocation) → All (FieldLies m n) rs → All (FieldLiesFrom m 0 n) rs
lie_from_start m n rs h = λ k d i. from_start m n (get_or rs k d) (h k d i)

in_part : (l : Layout) (s : InputSection) (b n : ℕ) (r : InputRelocation) → FieldWithin (debug_rule l at_offset_only s) b (b + n) r → FieldLiesFrom l.machine b n r
in_part l s b n r h =
    let k = debug_width l at_offset_only s r in
    let end = h.1 in
    (h.0, inr (omega (arith, k, end)))

-- a shard's where it tells
pub lie_in_part : (l : Layout) (s : InputSection) (b n : ℕ) (rs : List InputRelocation) → All (FieldWithin (debug_rule l at_offset_only s) b (b + n)) rs → All (FieldLiesFrom l.machine b n) rs
lie_in_part l s b n rs h = λ k d i. in_part l s b n (get_or rs k d) (h k d i)

-- ---- lengths

put_long : (a w n : ℕ) (ps xs : List ℕ) → length ps ≡ w → LiesAt a w (length xs) → length (place a ps xs) ≡ length xs
put_long a w n ps xs e (inl z) = ap (λ (ys : List ℕ). length ys) (place_none a ps xs (e ∙ z))
put_long a w n ps xs e (inr h) = length-place a xs ps (omega (arith, e, h))

-- a field that is written leaves as many bytes
pub field_long : (z : RelocationSize) (v a : ℕ) (old xs ys : List ℕ) → LiesAt a (size_width z) (length xs) → ys ≡ place a (size_written z v old) xs → length ys ≡ length xs
field_long z v a old xs ys h e = ap (λ (zs : List ℕ). length zs) e ∙ put_long a (size_width z) 0 (size_written z v old) xs (length-size_written z v old) h
