-- The field of a relocation lies in what that writes, or in the sequence that takes it along.
use Rattle.wild_references.proofs.Common.{◌≡◌, ℕ, ◌+◌, ◌≤◌, ◌⊎◌, inl, inr, Bool, true, false, [], ◌∷◌, length, slice_range, refl, sym, ap, ◌∙◌, arith, subst, option_map, Option, Some, Ok, ◌==◌, if◌then◌else◌, slice_get, None, ⊤, list_all, and_parts, eqb-true, slice_get_within, Piece, InputRelocation, Item, Layout, row_of, size_width, field_width, x86_64_rows, x86_64_row, RelocationKind, RelocationKindInfo, RelocationSize, ByteSize, Eight, length-size_written, entry_passes, RelocationInfo, Row, field_of, has_its_sequence, partner_distance, call_form, is_call_number, applies, pattern_of, pattern_size, Decision, Nothing, Field, RelativeAddress, DynamicField, Rewritten, Partner, question_of, choice_of, field_site, template_site, site_for, HasField, decided_moved, decided_left, decided_nothing, field_has, IsChosen, choice_row, chosen_listed, window_in, length-template_site, decide_nothing, decide_moved, decide_left, decide_field, rewritten_x86_64, decide_partner, IsDecided, HasDecision, KeepsInstruction}
use Rattle.wild_types.specs.declared.kind.Machine.TheVariants as machine
use Rattle.wild_reloc.specs.declared.info.RelocationKind.TheVariants as kinds
use Rattle.wild_relax.specs.RowSequences.{is_partner_at, form_by}
use Rattle.wild_relax.specs.RowSequences as rows
use Rattle.wild_relax.specs.declared.row.Partner as writer
use Rattle.wild_relax.proofs.RoomLemmas.{partner_asked}
use Rattle.wild_layout.specs.Choice.{info_of}
use Rattle.wild_layout.proofs.DecideLemmas.{IsNothing, decided_field, moved_has, left_has}
use Rattle.wild_slot.proofs.TreatmentLemmas.{IsSilent}
use Rattle.wild_layout.proofs.ChoiceLemmas.{IsSequence}
use Rattle.wild_layout.proofs.DecisionLemmas.{sequence_is_rewritten}
use Rattle.wild_references.proofs.KnownRows.{formula_there}
use Rattle.wild_references.proofs.WindowRows.{chosen_stands, width_by, width_of, is_well, each_is_well, field_lies, calls_are_well, call_width_is}

-- ---- the row that stands at a relocation

-- what is known of it
pub record IsRow (l : Layout) (s : Item) (r : InputRelocation) (next : Option InputRelocation) (row : Row) : Type 0 where
  pub chosen : IsChosen l s r next row
  pub well : is_well row ≡ true
  pub applies : applies (question_of l s r chosen.symbol next) row ≡ true
  pub whole : has_its_sequence (question_of l s r chosen.symbol next) row ≡ true

pub row_at : (l : Layout) (s : Item) (r : InputRelocation) (next : Option InputRelocation) (row : Row) → IsChosen l s r next row → IsRow l s r next row
row_at l s r next row c =
    let stands = chosen_stands (question_of l s r c.symbol next) row c.chosen in
    record { chosen = c; well = chosen_listed l s r next row c is_well each_is_well; applies = stands.0; whole = stands.1 }

-- ---- the call of a sequence

-- q is the call of the sequence that a row writes
pub record IsCall (r q : InputRelocation) (row : Row) (distance : ℕ) : Type 0 where
  pub offset : q.offset ≡ r.offset + distance
  pub number : is_call_number (call_form row) q.number ≡ true

partner_is : (o : Option writer.Partner) (distance : ℕ) (r next : RelocationInfo) → option_map (λ (p : writer.Partner). p.distance) o ≡ Some distance → is_partner_at r o (Some next) ≡ true → (next.offset ≡ r.offset + distance) × (is_call_number (form_by o) next.number ≡ true)
unfolding rows.is_partner
partner_is None distance r next e h = cc
partner_is (Some p) distance r next e h =
    let same : p.distance ≡ distance = cc in
    let a = and_parts _ _ h in
    let b = and_parts _ _ a.1 in
    let c = and_parts _ _ b.0 in
    let d = and_parts _ _ c.0 in
    (subst (λ (n : ℕ). next.offset ≡ r.offset + n) same (eqb-true _ _ d.0), c.1)

pub call_is : (l : Layout) (s : Item) (r q : InputRelocation) (row : Row) (distance : ℕ) → IsRow l s r (Some q) row → partner_distance row ≡ Some distance → IsCall r q row distance
call_is l s r q row distance is known =
    let has = partner_asked (question_of l s r is.chosen.symbol (Some q)) row is.whole in
    let p = partner_is row.partner distance (info_of l r) (info_of l q) known has in
    record { offset = p.0; number = p.1 }

no_next : (o : Option writer.Partner) (distance : ℕ) (r : RelocationInfo) → option_map (λ (p : writer.Partner). p.distance) o ≡ Some distance → is_partner_at r o None ≡ true → ⊥
no_next None distance r e h = cc
no_next (Some p) distance r e h = cc

-- the relocation behind is that of the call
pub record HasCall (l : Layout) (s : Item) (i : ℕ) (r : InputRelocation) (row : Row) (distance : ℕ) : Type 0 where
  pub next : InputRelocation
  pub listed : slice_get s.relocations (i + 1) ≡ Some next
  pub call : IsCall r next row distance

pub partner_there : (l : Layout) (s : Item) (i : ℕ) (r : InputRelocation) (row : Row) (distance : ℕ) → IsChosen l s r (slice_get s.relocations (i + 1)) row → partner_distance row ≡ Some distance → HasCall l s i r row distance
partner_there l s i r row distance c known = by (slice_get s.relocations (i + 1)) refl c
  where
    by : (o : Option InputRelocation) → slice_get s.relocations (i + 1) ≡ o → IsChosen l s r o row → HasCall l s i r row distance
    by None e c =
        let is = row_at l s r None row c in
        let has = partner_asked (question_of l s r is.chosen.symbol None) row is.whole in
        absurd (no_next row.partner distance (info_of l r) known has)
    by (Some q) e c = record { next = q; listed = e; call = call_is l s r q row distance (row_at l s r (Some q) row c) known }

-- ---- how wide a field is

row_here : (l : Layout) (n : ℕ) (o : Option RelocationKindInfo) → l.machine ≡ machine.X86_64 → row_of l.machine n ≡ o → x86_64_row n ≡ o
unfolding row_of
row_here l n o x86 h = rw x86 at h

pub width_is : (n : ℕ) (row : RelocationKindInfo) → x86_64_row n ≡ Some row → width_of n ≡ field_width row
unfolding row_of
width_is n row h = (let f = formula_there machine.X86_64 n row h in ap width_by f.1 ∙ f.2)

-- a type whose field is left alone has none
abbrev is_silent : RelocationKind → Bool
is_silent kinds.None = true
is_silent kinds.TlsDescCall = true
is_silent other = false

silent_width : list_all (λ (e : ℕ × RelocationKindInfo). if is_silent e.1.kind then field_width e.1 == 0 else true) x86_64_rows ≡ true
silent_width = refl

-- how many bytes a decision writes
abbrev pub written_width : Decision → ℕ
written_width (Field z v) = size_width z
written_width (RelativeAddress v packed) = 8
written_width (DynamicField z number symbol addend) = size_width z
written_width other = 0

has_width : (l : Layout) (r : InputRelocation) (z : RelocationSize) → l.machine ≡ machine.X86_64 → HasField l r z → width_of r.number ≡ size_width z
has_width l r z x86 f = width_is r.number f.row (row_here l r.number (Some f.row) x86 f.known) ∙ ap size_width f.size

none_width : (l : Layout) (r : InputRelocation) → l.machine ≡ machine.X86_64 → IsNothing l r → width_of r.number ≡ 0
unfolding x86_64_row
none_width l r x86 f =
    let known = row_here l r.number (Some f.row) x86 f.known in
    let t = entry_passes (λ (m : ℕ) (row : RelocationKindInfo). if is_silent row.kind then field_width row == 0 else true) x86_64_rows silent_width r.number f.row known in
    width_is r.number f.row known ∙ by f.row.kind (field_width f.row) f.kind t
  where
    by : (k : RelocationKind) (w : ℕ) → IsSilent k → (if is_silent k then w == 0 else true) ≡ true → w ≡ 0
    by k w (inl e) t = eqb-true w 0 (rw e at t)
    by k w (inr e) t = eqb-true w 0 (rw e at t)

-- the size of the field that a decision writes, or leaves
abbrev pub IsFieldOf : Layout → InputRelocation → Decision → Type 0
IsFieldOf l r (Field z v) = HasField l r z
IsFieldOf l r (RelativeAddress v packed) = HasField l r (ByteSize Eight)
IsFieldOf l r (DynamicField z n symbol addend) = HasField l r z
IsFieldOf l r other = ⊤

-- is that of the relocation's row
pub kept_field : (l : Layout) (s : Item) (i : ℕ) (r : InputRelocation) (d : Decision) → HasDecision l s i r d → KeepsInstruction d → IsFieldOf l r d
kept_field l s i r Nothing h k = tt
kept_field l s i r (Field z v) h k =
    elim (decide_field l s i r z v h.listed h.decided) [
      | inl own ↦ field_has l s r z v (decided_field l s r z v own.made)
      | inr (inl kept) ↦ kept.field
      | inr (inr kept) ↦ kept.field
    ]
kept_field l s i r (RelativeAddress v packed) h k = moved_has l s r v packed (decided_moved l s r v packed (decide_moved l s i r v packed h.listed h.decided).made)
kept_field l s i r (DynamicField z n symbol addend) h k = left_has l s r z n symbol addend (decided_left l s r z n symbol addend (decide_left l s i r z n symbol addend h.listed h.decided).made)
kept_field l s i r (Rewritten row v) h k = absurd k
kept_field l s i r Partner h k = absurd k

-- which is as wide as its formula says
pub kept_width : (l : Layout) (s : Item) (i : ℕ) (r : InputRelocation) (d : Decision) → l.machine ≡ machine.X86_64 → HasDecision l s i r d → KeepsInstruction d → width_of r.number ≡ written_width d
kept_width l s i r Nothing x86 h k = none_width l r x86 (decided_nothing l s r (decide_nothing l s i r h.listed h.decided).made)
kept_width l s i r (Field z v) x86 h k = has_width l r z x86 (kept_field l s i r (Field z v) h k)
kept_width l s i r (RelativeAddress v packed) x86 h k = has_width l r (ByteSize Eight) x86 (kept_field l s i r (RelativeAddress v packed) h k)
kept_width l s i r (DynamicField z n symbol addend) x86 h k = has_width l r z x86 (kept_field l s i r (DynamicField z n symbol addend) h k)
kept_width l s i r (Rewritten row v) x86 h k = absurd k
kept_width l s i r Partner x86 h k = absurd k

-- ---- what is written over a field

-- the bytes that relocation j writes, or those of the sequence that takes it along, have its field
pub record HasSite (l : Layout) (s : Item) (j : ℕ) (q : InputRelocation) (d : Decision) : Type 0 where
  pub index : ℕ
  pub owner : InputRelocation
  pub decision : Decision
  pub has : HasDecision l s index owner decision
  pub piece : Piece
  pub only : site_for s owner decision ≡ piece ∷ []
  pub from : piece.at ≤ q.offset
  pub to : q.offset + width_of q.number ≤ piece.at + length piece.bytes
  pub own : (index ≡ j) ⊎ ((j ≡ index + 1) × (d ≡ Partner))

-- a row writes all bytes of its pattern, and these lie around the field
pub record IsWindow (l : Layout) (s : Item) (r : InputRelocation) (row : Row) (v : ℕ) : Type 0 where
  pub before : field_of (pattern_of row) ≤ r.offset
  pub long : length (template_site s r row v).bytes ≡ pattern_size row
  pub field : field_of (pattern_of row) + width_of r.number ≤ pattern_size row

pub window_is : (l : Layout) (s : Item) (i : ℕ) (r : InputRelocation) (row : Row) (v : ℕ) → l.machine ≡ machine.X86_64 → HasDecision l s i r (Rewritten row v) → IsWindow l s r row v
window_is l s i r row v x86 h =
    let next = slice_get s.relocations (i + 1) in
    let w = rewritten_x86_64 l s i r row v x86 h.listed h.decided in
    let field = field_lies row (row_at l s r next row w.chosen).well w.changes in
    let number = ap width_of w.chosen.number in
    record { before = w.chosen.before; long = length-template_site s r row v (window_in l s i r row v (inl w)); field = omega (arith, field, number) }

field_has_site : (l : Layout) (s : Item) (j : ℕ) (q : InputRelocation) (d : Decision) (z : RelocationSize) (v : ℕ) → HasDecision l s j q d → width_of q.number ≡ size_width z → site_for s q d ≡ field_site s q.offset z v ∷ [] → HasSite l s j q d
field_has_site l s j q d z v h width only =
    let long = length-size_written z v (slice_range s.bytes q.offset (q.offset + size_width z)) in
    record { index = j; owner = q; decision = d; has = h; piece = field_site s q.offset z v; only = only; from = omega arith; to = omega (arith, width, long); own = inl refl }

-- the sequence that takes relocation j along is written by the one before
call_site : (l : Layout) (s : Item) (i : ℕ) (q : InputRelocation) (row : Row) (v : ℕ) (d : Decision) → (p : IsSequence l s i row) → slice_get s.relocations (i + 1) ≡ Some q → HasDecision l s i p.relocation (Rewritten row v) → Partner ≡ d → HasSite l s (i + 1) q d
call_site l s i q row v d p listed h is =
    let c = choice_row l s p.relocation (Some q) row p.machine (subst (λ (o : Option InputRelocation). choice_of l s p.relocation o ≡ Ok (Some row)) listed p.is) in
    let at_row = row_at l s p.relocation (Some q) row c in
    let well = calls_are_well row at_row.well p.takes in
    let call = call_is l s p.relocation q row well.distance at_row well.known in
    let w = window_is l s i p.relocation row v p.machine h in
    let before = w.before in
    let long = w.long in
    let lies = well.lies in
    let at = call.offset in
    let wide = call_width_is (call_form row) q.number call.number in
    record {
      index = i;
      owner = p.relocation;
      decision = Rewritten row v;
      has = h;
      piece = template_site s p.relocation row v;
      only = refl;
      from = omega (arith, at, before);
      to = omega (arith, at, before, long, lies, wide);
      own = inr (refl, sym is);
    }

pub has_site : (l : Layout) (s : Item) (j : ℕ) (q : InputRelocation) (d : Decision) → l.machine ≡ machine.X86_64 → IsDecided l s → HasDecision l s j q d → (width_of q.number ≡ 0) ⊎ HasSite l s j q d
has_site l s j q Nothing x86 whole h = inl (kept_width l s j q Nothing x86 h tt)
has_site l s j q (Field z v) x86 whole h = inr (field_has_site l s j q (Field z v) z v h (kept_width l s j q (Field z v) x86 h tt) refl)
has_site l s j q (RelativeAddress v packed) x86 whole h = inr (field_has_site l s j q (RelativeAddress v packed) (ByteSize Eight) (if packed then v else 0) h (kept_width l s j q (RelativeAddress v packed) x86 h tt) refl)
has_site l s j q (DynamicField z n symbol addend) x86 whole h = inr (field_has_site l s j q (DynamicField z n symbol addend) z 0 h (kept_width l s j q (DynamicField z n symbol addend) x86 h tt) refl)
has_site l s j q (Rewritten row v) x86 whole h =
    let w = window_is l s j q row v x86 h in
    let before = w.before in
    let long = w.long in
    let field = w.field in
    inr (record { index = j; owner = q; decision = Rewritten row v; has = h; piece = template_site s q row v; only = refl; from = omega arith; to = omega (arith, before, long, field); own = inl refl })
has_site l s j q Partner x86 whole h =
    let p = decide_partner l s j q h.listed h.decided in
    inr (subst (λ (k : ℕ). HasSite l s k q Partner) (sym p.1) (taken p.0 p.2 p.3 (subst (λ (k : ℕ). slice_get s.relocations k ≡ Some q) p.1 h.listed)))
  where
    taken : (i : ℕ) (row : Row) → IsSequence l s i row → slice_get s.relocations (i + 1) ≡ Some q → HasSite l s (i + 1) q Partner
    taken i row seq listed =
        let e = whole.each i (slice_get_within s.relocations i seq.relocation seq.listed) in
        let made = sequence_is_rewritten l s i row e.0 seq e.1 in
        let here : HasDecision l s i seq.relocation (Rewritten row made.0) = record { listed = seq.listed; decided = e.1 ∙ ap (λ (d : Decision). Ok d) made.1 } in
        call_site l s i q row made.0 Partner seq listed here refl
