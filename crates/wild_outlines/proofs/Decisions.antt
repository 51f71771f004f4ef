-- Rows, decisions and sites of relocations in an outline.
use Rattle.wild_outlines.proofs.Common.{◌≡◌, ℕ, zero, suc, List, length, Option, Some, None, Result, Ok, Err, refl, range_with_len, fun_ext, RelocationKindInfo, InputRelocation, Machine, Layout, outline}
use Rattle.wild_types.specs.Item.{Item}
use Rattle.wild_types.specs.declared.fault.Fault.{Fault}
use Rattle.wild_types.specs.declared.kind.Machine.TheVariants as machine
use Rattle.wild_slot.specs.declared.treatment.Treatment.{Treatment}
use Rattle.wild_slot.specs.declared.treatment.Treatment.TheVariants as treatments
use Rattle.wild_relax.specs.declared.reference.UnknownSequence.{UnknownSequence}
use Rattle.wild_relax.specs.declared.row.Row.{Row}
use Rattle.wild_layout.specs.Choice.{choice_around_by, choice_at, choice_by, choice_on, info_of, is_getter, is_partner}
use Rattle.wild_layout.specs.Decide.{decide, decide_at, decide_by, decide_with, decided, field_for, field_or_thunk, ifunc_decision, refused_sequence, relative_decision, size_decision, term_to, value_to}
use Rattle.wild_layout.specs.Sites.{input_extents, item_bytes, site, sites}
use Rattle.wild_layout.specs.Thunks.{thunk_for}
use Rattle.wild_layout.specs.declared.decision.Decision.{Decision}
use Rattle.wild_outlines.proofs.ListLemmas.{flat_map-same}
use Rattle.wild_outlines.proofs.SharesSections.{treatment-outline}
use Rattle.wild_outlines.proofs.ValuesFiles.{raw_value-outline}
use Rattle.wild_outlines.proofs.ValuesSymbols.{address_for-outline, merged_strings-outline, subtract-outline, term_by-outline, weak_resolves_to_place-outline}

choice_around_by-outline : (l : Layout) (s : Item) (i : ℕ) (r : InputRelocation) (o : Option ℕ) → choice_around_by (outline l) s i r o ≡ choice_around_by l s i r o
unfolding choice_around_by
choice_around_by-outline l s i r None = refl
choice_around_by-outline l s i r (Some symbol) = simp (merged_strings-outline l, raw_value-outline l)

is_getter-outline : (l : Layout) (o : Option ℕ) → is_getter (outline l) o ≡ is_getter l o
is_getter-outline l None = refl
is_getter-outline l (Some i) = refl

info_of-each : (l : Layout) → info_of (outline l) ≡ info_of l
info_of-each l = fun_ext (λ r. simp (is_getter-outline l))

choice_by-outline : (l : Layout) (s : Item) (r : InputRelocation) (next : Option InputRelocation) (o : Option ℕ) → choice_by (outline l) s r next o ≡ choice_by l s r next o
unfolding choice_by
choice_by-outline l s r next None = refl
choice_by-outline l s r next (Some i) = simp (merged_strings-outline l, raw_value-outline l, info_of-each l)

choice_on-outline : (l : Layout) (m : Machine) (s : Item) (i : ℕ) (r : InputRelocation) → choice_on m (outline l) s i r ≡ choice_on m l s i r
choice_on-outline l machine.X86_64 s i r = simp (choice_by-outline l)
choice_on-outline l machine.AArch64 s i r = simp (choice_around_by-outline l)

choice_at-outline : (l : Layout) (s : Item) (i : ℕ) (o : Option InputRelocation) → choice_at (outline l) s i o ≡ choice_at l s i o
choice_at-outline l s i None = refl
choice_at-outline l s i (Some r) = simp (choice_on-outline l)

is_partner-outline : (l : Layout) (s : Item) (x : ℕ) → is_partner (outline l) s x ≡ is_partner l s x
is_partner-outline l s zero = refl
is_partner-outline l s (suc i) = simp (choice_at-outline l)

thunk_for-outline : (l : Layout) (block : ℕ) (o : Option ℕ) → thunk_for (outline l) block o ≡ thunk_for l block o
thunk_for-outline l block None = refl
thunk_for-outline l block (Some i) = refl

field_or_thunk-outline : (l : Layout) (s : Item) (r : InputRelocation) (row : RelocationKindInfo) (v : ℕ) → field_or_thunk (outline l) s r row v ≡ field_or_thunk l s r row v
unfolding field_or_thunk
field_or_thunk-outline l s r row v = simp (thunk_for-outline l)

field_for-outline : (l : Layout) (s : Item) (r : InputRelocation) (row : RelocationKindInfo) (d : Result ℕ Fault) → field_for (outline l) s r row d ≡ field_for l s r row d
field_for-outline l s r row (Err f) = refl
field_for-outline l s r row (Ok a) = simp (field_or_thunk-outline l, subtract-outline l)

ifunc_decision-outline : (l : Layout) (r : InputRelocation) (d : Result ℕ Fault) → ifunc_decision (outline l) r d ≡ ifunc_decision l r d
ifunc_decision-outline l r (Err f) = refl
ifunc_decision-outline l r (Ok resolver) = refl

relative_decision-outline : (l : Layout) (s : Item) (r : InputRelocation) (d : Result ℕ Fault) → relative_decision (outline l) s r d ≡ relative_decision l s r d
relative_decision-outline l s r (Err f) = refl
relative_decision-outline l s r (Ok a) = refl

size_decision-outline : (l : Layout) (r : InputRelocation) (row : RelocationKindInfo) (i : ℕ) (d : Result Decision Fault) → size_decision (outline l) r row i d ≡ size_decision l r row i d
size_decision-outline l r row i (Err f) = refl
size_decision-outline l r row i (Ok d) = refl

decide_by-outline : (l : Layout) (s : Item) (r : InputRelocation) (t : Treatment) → decide_by (outline l) s r t ≡ decide_by l s r t
decide_by-outline l s r treatments.Nothing = refl
decide_by-outline l s r (treatments.Value row) = simp (field_for-outline l, weak_resolves_to_place-outline l, term_by-outline l)
decide_by-outline l s r treatments.BaseRelative = simp (relative_decision-outline l, address_for-outline l)
decide_by-outline l s r (treatments.Symbolic i) = refl
decide_by-outline l s r (treatments.Indirect i) = simp (ifunc_decision-outline l)
decide_by-outline l s r (treatments.Extent row i) = simp (size_decision-outline l)
decide_by-outline l s r other = refl

decided-outline : (l : Layout) (s : Item) (r : InputRelocation) → decided (outline l) s r ≡ decided l s r
unfolding decided
decided-outline l s r = simp (decide_by-outline l, treatment-outline l)

term_to-outline : (l : Layout) (r : InputRelocation) (info : RelocationKindInfo) (p : ℕ) → term_to (outline l) r info p ≡ term_to l r info p
term_to-outline l r info p = simp (weak_resolves_to_place-outline l, term_by-outline l)

refused_sequence-outline : (l : Layout) (s : Item) (r : InputRelocation) (e : UnknownSequence) → refused_sequence (outline l) s r e ≡ refused_sequence l s r e
refused_sequence-outline l s r e = simp (term_to-outline l)

value_to-outline : (l : Layout) (s : Item) (r : InputRelocation) (row : Row) (d : Result ℕ Fault) → value_to (outline l) s r row d ≡ value_to l s r row d
value_to-outline l s r row (Err f) = refl
value_to-outline l s r row (Ok a) = simp (subtract-outline l, field_or_thunk-outline l)

decide_with-outline : (l : Layout) (s : Item) (r : InputRelocation) (x : Result (Option Row) UnknownSequence) → decide_with (outline l) s r x ≡ decide_with l s r x
decide_with-outline l s r (Ok None) = simp (decided-outline l)
decide_with-outline l s r (Ok (Some row)) = simp (value_to-outline l, term_to-outline l)
decide_with-outline l s r (Err e) = simp (refused_sequence-outline l)

decide_at-outline : (l : Layout) (s : Item) (i : ℕ) (o : Option InputRelocation) → decide_at (outline l) s i o ≡ decide_at l s i o
decide_at-outline l s i None = refl
decide_at-outline l s i (Some r) = simp (decide_with-outline l, choice_on-outline l)

pub decide-outline : (l : Layout) (s : Item) (i : ℕ) → decide (outline l) s i ≡ decide l s i
unfolding decide
decide-outline l s i = simp (is_partner-outline l, decide_at-outline l)

site-outline : (l : Layout) (s : Item) (i : ℕ) → site (outline l) s i ≡ site l s i
unfolding site
site-outline l s i = simp (decide-outline l)

pub input_extents-each : (l : Layout) (s : Item) (origins : List InputRelocation) → input_extents (outline l) s origins ≡ input_extents l s origins
input_extents-each l s origins = fun_ext (λ i. simp (site-outline l))

pub sites-outline : (l : Layout) (s : Item) → sites (outline l) s ≡ sites l s
sites-outline l s = flat_map-same (site (outline l) s) (site l s) (range_with_len 0 (length s.relocations)) (site-outline l s)

pub item_bytes-outline : (l : Layout) (s : Item) → item_bytes (outline l) s ≡ item_bytes l s
item_bytes-outline l s = simp (sites-outline l s)
