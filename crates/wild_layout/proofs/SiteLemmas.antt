-- The sites of an input section: what each relocation writes, where it lies, and that they are apart.
use Rattle.std.proofs.Common.{◌≡◌, ℕ, zero, suc, ◌+◌, ◌<◌, ◌≤◌, ◌⊎◌, inl, inr, false, List, [], ◌∷◌, ◌++◌, length, get_or, slice_range, refl, sym, ap, ◌∙◌, arith, subst}
use Rattle.std.specs.Prelude.{Option, Some, None, Result, Ok, Err, All, Contains, slice_get, if◌then◌else◌}
use Rattle.std.specs.List.{flat_map, range_with_len}
use Rattle.std.proofs.lemmas.List.Elements.{Contains-append_left, Contains-append_right, All-nil, All-same}
use Rattle.wild_words.specs.Overlay.{AreDisjoint, Piece}
use Rattle.wild_words.proofs.ListLemmas.{All-flat_map, holds_at}
use Rattle.wild_words.proofs.Basics.{length-range}
use Rattle.wild_types.specs.declared.fault.Fault.{Fault}
use Rattle.wild_types.specs.declared.input.InputRelocation.{InputRelocation}
use Rattle.wild_types.specs.Item.{Item}
use Rattle.wild_types.specs.declared.layout.Layout.{Layout}
use Rattle.wild_reloc.specs.Field.{size_width}
use Rattle.wild_reloc.specs.declared.info.RelocationSize.{RelocationSize}
use Rattle.wild_reloc.specs.declared.info.RelocationSize.TheVariants.{ByteSize}
use Rattle.wild_reloc.specs.declared.info.Width.TheVariants.{Eight}
use Rattle.wild_reloc.proofs.PlaceLemmas.{length-size_written}
use Rattle.wild_layout.specs.declared.decision.Decision.{Decision}
use Rattle.wild_layout.specs.declared.decision.Decision.TheVariants.{Nothing, Field, RelativeAddress, DynamicField, Rewritten, Partner}
use Rattle.wild_relax.specs.declared.row.Row.{Row}
use Rattle.wild_relax.specs.LinkedPattern.{pattern_size, keeps_bytes}
use Rattle.wild_layout.specs.Decide.{decide}
use Rattle.wild_layout.specs.Sites.{Written, written_by, field_site, template_start, template_site, site_by, site_for, site_of, site_at, site, sites, shared_byte, MovesApart}
use Rattle.wild_layout.specs.SectionPlaces.{FieldLies}
use Rattle.wild_layout.proofs.DecideLemmas.{HasField, decided_field, decided_moved, decided_left, field_has, moved_has, left_has, field_has_bytes, field_ends}
use Rattle.wild_layout.proofs.ChoiceLemmas.{LiesInItsPattern, chosen_lies, chosen_lies_aarch64, length-template}
use Rattle.wild_layout.proofs.DecisionLemmas.{decide_moved, decide_left, decide_field, IsRewrittenBy, decide_rewritten}
use Rattle.wild_layout.proofs.SitesApart.{IsFieldIn, fields_apart}

-- the piece ends at n or before
abbrev pub LiesIn : ℕ → Piece → Type 0
LiesIn n p = p.at + length p.bytes ≤ n

pub All-one : {X : Type 0} (P : X → Type 0) (x : X) → P x → All P (x ∷ [])
All-one P x h = λ k d l. one P x h k d l
  where
    one : {X : Type 0} (P : X → Type 0) (x : X) → P x → (k : ℕ) (d : X) → k < length (x ∷ []) → P (get_or (x ∷ []) k d)
    one P x h zero d l = h
    one P x h (suc k) d l = absurd (omega arith)

pub Contains-flat_map : {X Y : Type 0} (f : X → List Y) (xs : List X) (x : X) (y : Y) → Contains xs x → Contains (f x) y → Contains (flat_map f xs) y
Contains-flat_map f [] x y c d = absurd (omega (arith, c.1))
Contains-flat_map {X} {Y} f (z ∷ zs) x y c d = cases f z zs x y c.0 c.1 c.2 d (λ c'. Contains-flat_map f zs x y c' d)
  where
    cases : {X Y : Type 0} (f : X → List Y) (z : X) (zs : List X) (x : X) (y : Y) (k : ℕ) → k < length (z ∷ zs) → get_or (z ∷ zs) k x ≡ x → Contains (f x) y → (Contains zs x → Contains (flat_map f zs) y) → Contains (f z ++ flat_map f zs) y
    cases {X} {Y} f z zs x y zero l e d again =
        let P : X → Type 0 = λ w. Contains (f w) y in
        Contains-append_left (f z) (flat_map f zs) y (subst P (sym e) d)
    cases f z zs x y (suc k) l e d again = Contains-append_right (f z) (flat_map f zs) y (again (k, omega arith, e))

-- ---- the site of a relocation

-- relocation i writes a field, as it was decided
pub record IsSite (l : Layout) (s : Item) (i : ℕ) : Type 0 where
  pub relocation : InputRelocation
  pub listed : slice_get s.relocations i ≡ Some relocation
  pub decision : Decision
  pub made : decide l s i ≡ Ok decision
  pub written : Written
  pub by : written_by decision ≡ Some written
  pub field : HasField l relocation written.size
  pub is : site l s i ≡ field_site s relocation.offset written.size written.value ∷ []

-- relocation i writes an instruction
pub record IsTemplateSite (l : Layout) (s : Item) (i : ℕ) : Type 0 where
  pub relocation : InputRelocation
  pub listed : slice_get s.relocations i ≡ Some relocation
  pub row : Row
  pub value : ℕ
  pub made : decide l s i ≡ Ok (Rewritten row value)
  pub rewritten : IsRewrittenBy l s i relocation row value
  pub is : site l s i ≡ template_site s relocation row value ∷ []

site_for_field : (s : Item) (r : InputRelocation) (d : Decision) (w : Written) → written_by d ≡ Some w → site_for s r d ≡ field_site s r.offset w.size w.value ∷ []
site_for_field s r Nothing w by = cc
site_for_field s r (Field z v) w by = ap (site_by s r) by
site_for_field s r (RelativeAddress v packed) w by = ap (site_by s r) by
site_for_field s r (DynamicField z number symbol addend) w by = ap (site_by s r) by
site_for_field s r (Rewritten row v) w by = cc
site_for_field s r Partner w by = cc

site_decided : (l : Layout) (s : Item) (i : ℕ) (r : InputRelocation) (d : Decision) → slice_get s.relocations i ≡ Some r → decide l s i ≡ Ok d → site l s i ≡ site_for s r d
unfolding site
site_decided l s i r d listed is = rw (listed, is) refl

-- the site of a decision
pub site_written : (l : Layout) (s : Item) (i : ℕ) (r : InputRelocation) (d : Decision) (w : Written) → slice_get s.relocations i ≡ Some r → decide l s i ≡ Ok d → written_by d ≡ Some w → site l s i ≡ field_site s r.offset w.size w.value ∷ []
site_written l s i r d w listed is by = site_decided l s i r d listed is ∙ site_for_field s r d w by

-- that of an instruction
pub site_rewritten : (l : Layout) (s : Item) (i : ℕ) (r : InputRelocation) (row : Row) (v : ℕ) → slice_get s.relocations i ≡ Some r → decide l s i ≡ Ok (Rewritten row v) → site l s i ≡ template_site s r row v ∷ []
site_rewritten l s i r row v listed is = site_decided l s i r (Rewritten row v) listed is

-- the field of a relocation that a value is written into
pub decide_field_has : (l : Layout) (s : Item) (i : ℕ) (r : InputRelocation) (z : RelocationSize) (v : ℕ) → slice_get s.relocations i ≡ Some r → decide l s i ≡ Ok (Field z v) → HasField l r z
decide_field_has l s i r z v listed is =
    elim (decide_field l s i r z v listed is) [
      | inl own ↦ field_has l s r z v (decided_field l s r z v own.made)
      | inr (inl kept) ↦ kept.field
      | inr (inr kept) ↦ kept.field
    ]

-- a relocation writes nothing, or a field, or an instruction
pub site_cases : (l : Layout) (s : Item) (i : ℕ) → (site l s i ≡ []) ⊎ (IsSite l s i ⊎ IsTemplateSite l s i)
unfolding site
site_cases l s i = listed l s i (slice_get s.relocations i) refl
  where
    field_of : (l : Layout) (s : Item) (i : ℕ) (r : InputRelocation) (d : Decision) (w : Written) → slice_get s.relocations i ≡ Some r → decide l s i ≡ Ok d → written_by d ≡ Some w → HasField l r w.size → (site_for s r d ≡ []) ⊎ (IsSite l s i ⊎ IsTemplateSite l s i)
    field_of l s i r d w e is by f = inr (inl (record { relocation = r; listed = e; decision = d; made = is; written = w; by = by; field = f; is = site_written l s i r d w e is by }))

    decision : (l : Layout) (s : Item) (i : ℕ) (r : InputRelocation) (d : Result Decision Fault) → slice_get s.relocations i ≡ Some r → decide l s i ≡ d → (site_of s r d ≡ []) ⊎ (IsSite l s i ⊎ IsTemplateSite l s i)
    decision l s i r (Err f) e is = inl refl
    decision l s i r (Ok Nothing) e is = inl refl
    decision l s i r (Ok Partner) e is = inl refl
    decision l s i r (Ok (Field z v)) e is = field_of l s i r (Field z v) (record { size = z; value = v }) e is refl (decide_field_has l s i r z v e is)
    decision l s i r (Ok (RelativeAddress v packed)) e is = field_of l s i r (RelativeAddress v packed) (record { size = ByteSize Eight; value = if packed then v else 0 }) e is refl (moved_has l s r v packed (decided_moved l s r v packed (decide_moved l s i r v packed e is).made))
    decision l s i r (Ok (DynamicField z number symbol addend)) e is = field_of l s i r (DynamicField z number symbol addend) (record { size = z; value = 0 }) e is refl (left_has l s r z number symbol addend (decided_left l s r z number symbol addend (decide_left l s i r z number symbol addend e is).made))
    decision l s i r (Ok (Rewritten row v)) e is = inr (inr (record { relocation = r; listed = e; row = row; value = v; made = is; rewritten = decide_rewritten l s i r row v e is; is = site_rewritten l s i r row v e is }))

    listed : (l : Layout) (s : Item) (i : ℕ) (o : Option InputRelocation) → slice_get s.relocations i ≡ o → (site_at s (decide l s i) o ≡ []) ⊎ (IsSite l s i ⊎ IsTemplateSite l s i)
    listed l s i None e = inl refl
    listed l s i (Some r) e = decision l s i r (decide l s i) e refl

-- how many bytes a field has
pub length-field_site : (s : Item) (at : ℕ) (z : RelocationSize) (v : ℕ) → length (field_site s at z v).bytes ≡ size_width z
length-field_site s at z v = length-size_written z v (slice_range s.bytes at (at + size_width z))

pub field_lies : (l : Layout) (s : Item) (r : InputRelocation) (z : RelocationSize) → HasField l r z → FieldLies l.machine (length s.bytes) r → r.offset + size_width z ≤ length s.bytes
field_lies l s r z f lies = let e = field_ends l r z (length s.bytes) f lies in omega (arith, e)

-- an instruction that is rewritten has the bytes of its pattern, in the section
pub record IsWindowIn (s : Item) (r : InputRelocation) (row : Row) : Type 0 where
  pub changes : keeps_bytes row ≡ false
  pub inside : template_start row r + pattern_size row ≤ length s.bytes
  pub lies : LiesInItsPattern row

pub window_in : (l : Layout) (s : Item) (i : ℕ) (r : InputRelocation) (row : Row) (v : ℕ) → IsRewrittenBy l s i r row v → IsWindowIn s r row
window_in l s i r row v (inl w) = record { changes = w.changes; inside = w.chosen.inside; lies = chosen_lies l s r (slice_get s.relocations (i + 1)) row w.chosen w.changes }
window_in l s i r row v (inr w) =
    let begins = w.chosen.begins in
    let inside = w.chosen.inside in
    record { changes = w.changes; inside = omega (arith, begins, inside); lies = chosen_lies_aarch64 l s i r row w.chosen w.changes }

pub length-template_site : (s : Item) (r : InputRelocation) (row : Row) (v : ℕ) → IsWindowIn s r row → length (template_site s r row v).bytes ≡ pattern_size row
length-template_site s r row v w =
    length-template row v (slice_range s.bytes (template_start row r) (template_start row r + pattern_size row)) w.lies (length-range s.bytes (template_start row r) (pattern_size row) w.inside)

pub template_lies : (s : Item) (r : InputRelocation) (row : Row) (v : ℕ) → IsWindowIn s r row → IsFieldIn (length s.bytes) (template_site s r row v)
template_lies s r row v w =
    let long = length-template_site s r row v w in
    let some = w.lies.some in
    let inside = w.inside in
    record { ends = omega (arith, long, inside); some = omega (arith, long, some) }

-- a site is bytes of the section
pub site_is_field : (l : Layout) (s : Item) (i : ℕ) → All (FieldLies l.machine (length s.bytes)) s.relocations → All (IsFieldIn (length s.bytes)) (site l s i)
site_is_field l s i lies =
    elim (site_cases l s i) [
      | inl none ↦ All-same (IsFieldIn (length s.bytes)) _ [] none (All-nil (IsFieldIn (length s.bytes)))
      | inr some ↦ by_site l s i lies some
    ]
  where
    is_field : (l : Layout) (s : Item) (r : InputRelocation) (z : RelocationSize) (v : ℕ) → HasField l r z → FieldLies l.machine (length s.bytes) r → IsFieldIn (length s.bytes) (field_site s r.offset z v)
    is_field l s r z v f lies =
        let w = length-field_site s r.offset z v in
        let lie = field_ends l r z (length s.bytes) f lies in
        let some = field_has_bytes l r z f in
        record { ends = omega (arith, w, lie); some = omega (arith, w, some) }

    by_site : (l : Layout) (s : Item) (i : ℕ) → All (FieldLies l.machine (length s.bytes)) s.relocations → IsSite l s i ⊎ IsTemplateSite l s i → All (IsFieldIn (length s.bytes)) (site l s i)
    by_site l s i lies (inl x) =
        let P = IsFieldIn (length s.bytes) in
        All-same P _ _ x.is (All-one P (field_site s x.relocation.offset x.written.size x.written.value) (is_field l s x.relocation x.written.size x.written.value x.field (holds_at (FieldLies l.machine (length s.bytes)) s.relocations i x.relocation x.listed lies)))
    by_site l s i lies (inr x) =
        let P = IsFieldIn (length s.bytes) in
        All-same P _ _ x.is (All-one P (template_site s x.relocation x.row x.value) (template_lies s x.relocation x.row x.value (window_in l s i x.relocation x.row x.value x.rewritten)))

-- the sites of an item lie in its bytes, each apart from the others
pub sites_apart : (l : Layout) (s : Item) (origins : List InputRelocation) → All (FieldLies l.machine (length s.bytes)) s.relocations → MovesApart l s origins → shared_byte l s origins ≡ None → AreDisjoint (length s.bytes) (sites l s)
sites_apart l s origins lies moves none =
    fields_apart (sites l s) (length s.bytes) (All-flat_map (IsFieldIn (length s.bytes)) (site l s) (range_with_len 0 (length s.relocations)) (λ k d m. site_is_field l s (get_or (range_with_len 0 (length s.relocations)) k d) lies)) (moves.apart none)
