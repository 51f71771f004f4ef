-- Bytes around what is rewritten are the input's: those of instructions that are kept, and those of none.
use Rattle.wild_references.proofs.Common.{◌≡◌, ℕ, ◌+◌, ◌-◌, ◌<◌, ◌≤◌, ◌⊎◌, inl, inr, Bool, true, false, List, [], ◌∷◌, length, get_or, slice_range, refl, sym, ap, ◌∙◌, arith, subst, pos, ◌≢◌, not, ◌||◌, All, Contains, Option, Some, None, ◌==◌, if◌then◌else◌, slice_get, list_all, range_with_len, and_parts, cases_lt, get_or_from_slice_get, slice_get_within, slice_get-get_or, All-nil, word, holds_at, listed_passes, r_x86_64_none, r_aarch64_tlsdesc_adr_page21, Machine, InputRelocation, Layout, KeepsAll, size_width, Formula, x86_64_formula, RelocationSize, ByteSize, Eight, length-size_written, Row, pattern_cells, field_of, partner_distance, call_form, rows_x86_64, pattern_of, pattern_size, keeps_bytes, rows_aarch64, RowsApplyTogether, Decision, Nothing, Field, RelativeAddress, DynamicField, Rewritten, Partner, question_of, field_site, template_start, template_site, site_for, chosen_listed, rewritten_x86_64, window_in, length-template_site, Holds, Memory, World, IsDecided, InMemory, HasDecision, KeepsInstruction, IsKeptReference, IsLoadedItem, Item, formula_of, form_width, InNoField, IsInputByte, Instruction, size_of, IsOwnByte, instructions_of, IsInstruction, IsSingle, IsOfSequence, IsTemplate, as_pair, only_one, IsOutsideField, InstructionsAreKept, HasField}
use Rattle.std.proofs.lemmas.List.Elements.{All-same}
use Rattle.std.proofs.lemmas.List.FromFn.{get_or-range_with_len, length-range_with_len}
use Rattle.wild_words.proofs.WordLemmas.{length-word}
use Rattle.wild_words.proofs.ListLemmas.{All-flat_map}
use Rattle.wild_words.proofs.OrderLemmas.{Outside}
use Rattle.wild_types.specs.declared.kind.Machine.TheVariants as machine
use Rattle.wild_relax.specs.declared.pattern.Cell.TheVariants as its
use Rattle.wild_relax.specs.Section.{ChosenPatternsArePresent}
use Rattle.wild_layout.specs.Sites.{site}
use Rattle.wild_layout.proofs.DecisionLemmas.{IsRewritten, decide_rewritten}
use Rattle.wild_layout.proofs.SiteLemmas.{All-one}
use Rattle.wild_geometry.specs.Loaded.{InNoSite, Stage, number_at, HasItem}
use Rattle.wild_references.proofs.KnownRows.{formula_there}
use Rattle.wild_references.proofs.SequenceParts.{in_sequence}
use Rattle.wild_references.proofs.SinglesAArch64.{is_word, no_own_byte_of_word}
use Rattle.wild_references.proofs.RunWords.{IsRun, is_run_of}
use Rattle.wild_references.proofs.RewrittenSequences.{no_own_byte, no_own_byte_of_address}
use Rattle.wild_references.proofs.KeptAArch64.{not_between, run_is_kept, call_is_kept}
use Rattle.wild_loader.specs.Instruction as code
use Rattle.wild_meaning.specs.Sequence.{Partner as CallField}
use Rattle.wild_meaning.proofs.PairLemmas.{IsDouble, as_double, PairOf, one_of_two}
use Rattle.wild_references.specs.EffectLaws.{RewrittenAreInstructions, IsKeptAt, SequencesAreKept, OthersAreKept}
use Rattle.wild_references.proofs.WindowRows.{width_by, width_of, call_width, call_width_is}
use Rattle.wild_references.proofs.WindowSites.{site_is}
use Rattle.wild_references.proofs.WindowFields.{partner_there, kept_field, kept_width}
use Rattle.wild_references.proofs.Windows.{formula_width, order, windows_have_no_other_field}
use Rattle.wild_references.proofs.Clash.{is_free, are_calls, pair_ok, row_ok, each_row_ok, IsUncovered, apart_templates}
use Rattle.wild_references.proofs.KeptTables.{IsFilled, is_filled, own_is_fixed, any_in_field, number_width, partner_width, call_number, row_fixed, each_row_fixed, IsFixed, is_fixed, free_in_field}
use Rattle.wild_references.proofs.KeptRelocations.{one_decision}
use Rattle.wild_references.proofs.KeptModes.{calls_apart}
use Rattle.wild_references.proofs.KeptSequences.{AreKept, are_kept}

-- ---- a byte in no field

-- it is beside the field of each relocation
no_field_at : (l : Layout) (s : Item) (x j : ℕ) (q : InputRelocation) → l.machine ≡ machine.X86_64 → InNoField l s x → slice_get s.relocations j ≡ Some q → (x < q.offset) ⊎ (q.offset + width_of q.number ≤ x)
no_field_at l s x j q x86 out listed = by (x86_64_formula q.number) refl
  where
    there : (f : Formula) → formula_of l.machine q.number ≡ Some f → (x < q.offset) ⊎ (q.offset + form_width f.form ≤ x)
    there = holds_at (λ (r : InputRelocation). (f : Formula) → formula_of l.machine r.number ≡ Some f → (x < r.offset) ⊎ (r.offset + form_width f.form ≤ x)) s.relocations j q listed out

    by : (o : Option Formula) → x86_64_formula q.number ≡ o → (x < q.offset) ⊎ (q.offset + width_of q.number ≤ x)
    by None e = subst (λ (n : ℕ). (x < q.offset) ⊎ (q.offset + n ≤ x)) (sym (ap width_by e)) (order x q.offset)
    by (Some f) e =
        let known : formula_of l.machine q.number ≡ Some f = subst (λ (m : Machine). formula_of m q.number ≡ Some f) (sym x86) e in
        subst (λ (n : ℕ). (x < q.offset) ⊎ (q.offset + n ≤ x)) (formula_width l q.number f x86 known) (there f known)

-- what a relocation writes over its field leaves it out
field_outside : (l : Layout) (s : Item) (x j : ℕ) (q : InputRelocation) (z : RelocationSize) (v : ℕ) → InNoField l s x → slice_get s.relocations j ≡ Some q → HasField l q z → All (Outside x) (field_site s q.offset z v ∷ [])
field_outside l s x j q z v out listed h =
    let f = formula_there l.machine q.number h.row h.known in
    let width : form_width f.0.form ≡ size_width z = f.2 ∙ ap size_width h.size in
    let long = length-size_written z v (slice_range s.bytes q.offset (q.offset + size_width z)) in
    let there = holds_at (λ (r : InputRelocation). (f : Formula) → formula_of l.machine r.number ≡ Some f → (x < r.offset) ⊎ (r.offset + form_width f.form ≤ x)) s.relocations j q listed out f.0 f.1 in
    All-one (Outside x) (field_site s q.offset z v) (elim there [ inl low ↦ inl low | inr high ↦ inr (omega (arith, high, width, long)) ])

-- each instruction that is rewritten leaves the byte out
abbrev pub OutOfWindows : Layout → Item → ℕ → Type 0
OutOfWindows l s x = (j : ℕ) (q : InputRelocation) (row : Row) (v : ℕ) → HasDecision l s j q (Rewritten row v) → (x < template_start row q) ⊎ (template_start row q + pattern_size row ≤ x)

decision_outside : (l : Layout) (s : Item) (x j : ℕ) (q : InputRelocation) (d : Decision) → InNoField l s x → OutOfWindows l s x → HasDecision l s j q d → All (Outside x) (site_for s q d)
decision_outside l s x j q Nothing out windows h = All-nil (Outside x)
decision_outside l s x j q Partner out windows h = All-nil (Outside x)
decision_outside l s x j q (Field z v) out windows h = field_outside l s x j q z v out h.listed (kept_field l s j q (Field z v) h tt)
decision_outside l s x j q (RelativeAddress v packed) out windows h = field_outside l s x j q (ByteSize Eight) (if packed then v else 0) out h.listed (kept_field l s j q (RelativeAddress v packed) h tt)
decision_outside l s x j q (DynamicField z n symbol addend) out windows h = field_outside l s x j q z 0 out h.listed (kept_field l s j q (DynamicField z n symbol addend) h tt)
decision_outside l s x j q (Rewritten row v) out windows h =
    let long = length-template_site s q row v (window_in l s j q row v (decide_rewritten l s j q row v h.listed h.decided)) in
    All-one (Outside x) (template_site s q row v) (elim (windows j q row v h) [ inl low ↦ inl low | inr high ↦ inr (omega (arith, high, long)) ])

no_relocation : InputRelocation
no_relocation = record { offset = 0; number = 0; symbol = None; addend = pos 0; malformed = false }

-- where what each relocation writes leaves the byte out, no site has it
pub in_none : (l : Layout) (s : Item) (x : ℕ) → IsDecided l s → ((j : ℕ) (q : InputRelocation) (d : Decision) → HasDecision l s j q d → All (Outside x) (site_for s q d)) → InNoSite l s x
in_none l s x whole each = All-flat_map (Outside x) (site l s) (range_with_len 0 (length s.relocations)) (λ n d lt. site_outside n d lt)
  where
    at : (j : ℕ) → j < length s.relocations → All (Outside x) (site l s j)
    at j lt =
        let q : InputRelocation = get_or s.relocations j no_relocation in
        let e = whole.each j lt in
        let h : HasDecision l s j q e.0 = record { listed = slice_get-get_or s.relocations j no_relocation lt; decided = e.1 } in
        All-same (Outside x) (site l s j) (site_for s q e.0) (site_is l s j q e.0 h) (each j q e.0 h)

    site_outside : (n d : ℕ) → n < length (range_with_len 0 (length s.relocations)) → All (Outside x) (site l s (get_or (range_with_len 0 (length s.relocations)) n d))
    site_outside n d lt =
        let long = length-range_with_len 0 (length s.relocations) in
        let is : get_or (range_with_len 0 (length s.relocations)) n d ≡ n = get_or-range_with_len 0 (length s.relocations) n d (omega (arith, lt, long)) ∙ omega arith in
        subst (λ (j : ℕ). All (Outside x) (site l s j)) (sym is) (at n (omega (arith, lt, long)))

in_no_site : (l : Layout) (s : Item) (x : ℕ) → IsDecided l s → InNoField l s x → OutOfWindows l s x → InNoSite l s x
in_no_site l s x whole out windows = in_none l s x whole (λ j q d h. decision_outside l s x j q d out windows h)

-- such a byte is the input's
pub input_byte : (k : Machine) (l : Layout) (w : World) (m : Memory) (s : Item) (x : ℕ) → IsLoadedItem k l w m s → x < length s.bytes → InNoField l s x → OutOfWindows l s x → IsInputByte w m s x
input_byte k l w m s x h lt out windows = h.item.others x lt (in_no_site l s x h.decided out windows)

-- ---- the bytes of a row's pattern that it leaves free are in fields

-- a window of the section
pub record Window (l : Layout) (s : Item) (j : ℕ) (q : InputRelocation) (row : Row) (v : ℕ) : Type 0 where
  pub has : HasDecision l s j q (Rewritten row v)
  pub made : IsRewritten l s q (slice_get s.relocations (j + 1)) row v
  pub fixed : IsFixed row

pub window : (l : Layout) (s : Item) (j : ℕ) (q : InputRelocation) (row : Row) (v : ℕ) → l.machine ≡ machine.X86_64 → HasDecision l s j q (Rewritten row v) → Window l s j q row v
window l s j q row v x86 h =
    let made = rewritten_x86_64 l s j q row v x86 h.listed h.decided in
    record { has = h; made = made; fixed = is_fixed row (chosen_listed l s q (slice_get s.relocations (j + 1)) row made.chosen row_fixed each_row_fixed) made.changes }

pub free_not : (l : Layout) (s : Item) (j : ℕ) (q : InputRelocation) (row : Row) (v x t : ℕ) → l.machine ≡ machine.X86_64 → Window l s j q row v → InNoField l s x → x ≡ template_start row q + t → t < pattern_size row → is_free (get_or (pattern_cells (pattern_of row)) t its.Any) ≡ true → ⊥
free_not l s j q row v x t x86 w out at lt free = by (free_in_field row t (w.fixed.free t lt free))
  where
    by : ((field_of (pattern_of row) ≤ t) × (t < field_of (pattern_of row) + width_of row.number)) ⊎ ((d : ℕ) × (partner_distance row ≡ Some d) × (field_of (pattern_of row) + d ≤ t) × (t < field_of (pattern_of row) + d + call_width (call_form row))) → ⊥
    by (inl f) =
        let low = f.0 in
        let high = f.1 in
        let before = w.made.chosen.before in
        let number = ap width_of w.made.chosen.number in
        not_between x q.offset (width_of q.number) (omega (arith, at, low, before)) (omega (arith, at, high, before, number)) (no_field_at l s x j q x86 out w.has.listed)
    by (inr f) =
        let low = f.2 in
        let high = f.3 in
        let before = w.made.chosen.before in
        let c = partner_there l s j q row f.0 w.made.chosen f.1 in
        let offset = c.call.offset in
        let wide = call_width_is (call_form row) c.next.number c.call.number in
        not_between x c.next.offset (width_of c.next.number) (omega (arith, at, low, before, offset)) (omega (arith, at, high, before, offset, wide)) (no_field_at l s x (j + 1) c.next x86 out c.listed)

-- ---- the fields of an instruction that is kept

-- a relocation that keeps its instruction has its field there
record FieldIsKept (l : Layout) (s : Item) (at width : ℕ) : Type 0 where
  index : ℕ
  relocation : InputRelocation
  decision : Decision
  has : HasDecision l s index relocation decision
  keeps : KeepsInstruction decision
  place : relocation.offset ≡ at
  wide : width_of relocation.number ≡ width

-- no window has a byte of it
kept_apart : (l : Layout) (s : Item) (at width : ℕ) (j : ℕ) (q : InputRelocation) (row : Row) (v x : ℕ) → l.machine ≡ machine.X86_64 → IsDecided l s → FieldIsKept l s at width → HasDecision l s j q (Rewritten row v) → at ≤ x → x < at + width → (x < template_start row q) ⊎ (template_start row q + pattern_size row ≤ x)
kept_apart l s at width j q row v x x86 whole f h low high =
    elim (cases_lt x (template_start row q)) [
      | inl before ↦ inl before
      | inr from ↦ elim (cases_lt x (template_start row q + pattern_size row)) [ inl inside ↦ absurd (by (x86_64_formula f.relocation.number) refl (alone from inside)) | inr behind ↦ inr behind ]
    ]
  where
    other : j ≡ f.index → ⊥
    other e =
        let same = one_decision l s f.index f.relocation q f.decision (Rewritten row v) f.has (subst (λ (n : ℕ). HasDecision l s n q (Rewritten row v)) e h) in
        subst KeepsInstruction same f.keeps

    alone : template_start row q ≤ x → x < template_start row q + pattern_size row → IsOutsideField l f.relocation x
    alone from inside = windows_have_no_other_field l s whole j f.index q f.relocation row v f.decision h f.has other (λ e is. subst KeepsInstruction is f.keeps) x from inside

    by : (o : Option Formula) → x86_64_formula f.relocation.number ≡ o → IsOutsideField l f.relocation x → ⊥
    by None e b =
        let place = f.place in
        let wide = f.wide in
        let none : width_of f.relocation.number ≡ 0 = ap width_by e in
        absurd (omega (arith, low, high, wide, none))
    by (Some g) e b =
        let known : formula_of l.machine f.relocation.number ≡ Some g = subst (λ (m : Machine). formula_of m f.relocation.number ≡ Some g) (sym x86) e in
        let width_is = formula_width l f.relocation.number g x86 known in
        let place = f.place in
        let wide = f.wide in
        not_between x at width low high (elim (b g known) [ inl y ↦ inl (omega (arith, y, place)) | inr y ↦ inr (omega (arith, y, place, wide, width_is)) ])

-- an instruction that is kept, with its fields
record IsKeptHere (l : Layout) (s : Item) (start : ℕ) (o : Instruction) : Type 0 where
  filled : IsFilled o
  inside : start + size_of o ≤ length s.bytes
  stands : code.matches_cells o.template.cells (slice_range s.bytes start (start + size_of o)) ≡ true
  alone : (k : ℕ) → IsOwnByte o k → InNoField l s (start + k)
  own : FieldIsKept l s (start + o.field) o.width
  call : (p : CallField) → Contains o.partners p → FieldIsKept l s (start + p.field) p.width
  number : Contains o.numbers own.relocation.number

pub known_filled : (l : Layout) (s : Item) (r : InputRelocation) (start : ℕ) (o : Instruction) → l.machine ≡ machine.X86_64 → IsInstruction l s r start o → IsFilled o
known_filled l s r start o x86 t = is_filled o (subst (λ (m : Machine). Contains (instructions_of m) o) x86 t.known)

single_kept : (l : Layout) (s : Item) (i : ℕ) (r : InputRelocation) (d : Decision) (start : ℕ) (o : Instruction) → l.machine ≡ machine.X86_64 → HasDecision l s i r d → KeepsInstruction d → IsSingle l s r start o → IsKeptHere l s start o
single_kept l s i r d start o x86 h k t =
    let f = known_filled l s r start o x86 t.stands in
    record {
      filled = f;
      inside = t.stands.inside;
      stands = t.stands.stands;
      alone = t.stands.alone;
      own = record { index = i; relocation = r; decision = d; has = h; keeps = k; place = t.stands.field; wide = number_width o r.number f t.stands.number };
      call = λ p c. absurd (no_call o.partners p t.single c);
      number = t.stands.number;
    }
  where
    no_call : (ps : List CallField) (p : CallField) → ps ≡ [] → Contains ps p → ⊥
    no_call [] p e c = let lt = c.1 in omega (arith, lt)
    no_call (q ∷ ps) p e c = cc

double_kept : (l : Layout) (s : Item) (i : ℕ) (r : InputRelocation) (d : Decision) (start : ℕ) (o : Instruction) (first : InputRelocation) → l.machine ≡ machine.X86_64 → IsDecided l s → HasDecision l s i r d → KeepsInstruction d → IsDouble l s r start o first → IsKeptHere l s start o
double_kept l s i r d start o first x86 whole h k t =
    let q = t.sequence in
    let f = known_filled l s first start o x86 q.stands in
    let a = are_kept l s i r d first t.second start o x86 whole h k q t.one in
    record {
      filled = f;
      inside = q.stands.inside;
      stands = q.stands.stands;
      alone = q.stands.alone;
      own = record { index = q.has.index; relocation = first; decision = a.one; has = a.has_one; keeps = a.keeps_one; place = q.stands.field; wide = number_width o first.number f q.stands.number };
      call = λ p c. call a p (sym (only_one q.partner p (subst (λ (ps : List CallField). Contains ps p) q.calls c)));
      number = q.stands.number;
    }
  where
    call : AreKept l s first t.second t.sequence.has.index → (p : CallField) → t.sequence.partner ≡ p → FieldIsKept l s (start + p.field) p.width
    call a p e =
        let q = t.sequence in
        let f = known_filled l s first start o x86 q.stands in
        subst (λ (x : CallField). FieldIsKept l s (start + x.field) x.width) e (record {
          index = q.has.index + 1;
          relocation = t.second;
          decision = a.two;
          has = a.has_two;
          keeps = a.keeps_two;
          place = q.has.field;
          wide = partner_width o q.partner t.second.number f q.calls q.has.number;
        })

kept_here : (l : Layout) (s : Item) (i : ℕ) (r : InputRelocation) (d : Decision) (start : ℕ) (o : Instruction) (first : InputRelocation) → l.machine ≡ machine.X86_64 → IsDecided l s → HasDecision l s i r d → KeepsInstruction d → IsTemplate l s r start o first → IsKeptHere l s start o
kept_here l s i r d start o first x86 whole h k (inl t) = single_kept l s i r d start o x86 h k t.0
kept_here l s i r d start o first x86 whole h k (inr t) = double_kept l s i r d start o first x86 whole h k (as_double l s r start o first x86 t)

-- ---- an instruction that is kept, and one that is rewritten

uncovered : (l : Layout) (s : Item) (start : ℕ) (o : Instruction) (j : ℕ) (q : InputRelocation) (row : Row) (v : ℕ) → l.machine ≡ machine.X86_64 → IsDecided l s → IsKeptHere l s start o → HasDecision l s j q (Rewritten row v) → IsUncovered o.template.cells (pattern_cells (pattern_of row)) start (template_start row q)
uncovered l s start o j q row v x86 whole t h k lt any = by (any_in_field o k t.filled lt any)
  where
    by : ((o.field ≤ k) × (k < o.field + o.width)) ⊎ ((p : CallField) × Contains o.partners p × (p.field ≤ k) × (k < p.field + p.width)) → (start + k < template_start row q) ⊎ (template_start row q + pattern_size row ≤ start + k)
    by (inl f) = let low = f.0 in let high = f.1 in kept_apart l s (start + o.field) o.width j q row v (start + k) x86 whole t.own h (omega (arith, low)) (omega (arith, high))
    by (inr f) = let low = f.2 in let high = f.3 in kept_apart l s (start + f.0.field) f.0.width j q row v (start + k) x86 whole (t.call f.0 f.1) h (omega (arith, low)) (omega (arith, high))

-- and_parts are no calls through a descriptor
no_calls : (l : Layout) (s : Item) (start : ℕ) (o : Instruction) (j : ℕ) (q : InputRelocation) (row : Row) (v : ℕ) → l.machine ≡ machine.X86_64 → IsKeptHere l s start o → Window l s j q row v → are_calls o.template.cells (pattern_cells (pattern_of row)) ≡ true → ⊥
no_calls l s start o j q row v x86 t w h =
    let two = and_parts (size_of o == 2) (pattern_size row == 2) h in
    calls_apart l s t.own.index j t.own.relocation q t.own.decision row v x86 t.own.has t.own.keeps (call_number o t.own.relocation.number t.filled t.number two.0) w.has (w.fixed.calls two.1)

own_outside : (l : Layout) (s : Item) (start : ℕ) (o : Instruction) (k : ℕ) → l.machine ≡ machine.X86_64 → IsDecided l s → ChosenPatternsArePresent → IsKeptHere l s start o → Contains (instructions_of machine.X86_64) o → IsOwnByte o k → OutOfWindows l s (start + k)
own_outside l s start o k x86 whole stand t known own j q row v h =
    elim (cases_lt (start + k) (template_start row q)) [
      | inl before ↦ inl before
      | inr from ↦ elim (cases_lt (start + k) (template_start row q + pattern_size row)) [ inl inside ↦ absurd (meeting (window l s j q row v x86 h) from inside) | inr behind ↦ inr behind ]
    ]
  where
    ok : (w : Window l s j q row v) → pair_ok o.template.cells (pattern_cells (pattern_of row)) ≡ true
    ok w = passes (keeps_bytes row) w.made.changes (chosen_listed l s q (slice_get s.relocations (j + 1)) row w.made.chosen row_ok each_row_ok)
      where
        passes : (b : Bool) → b ≡ false → (b || list_all (λ (o : Instruction). pair_ok o.template.cells (pattern_cells (pattern_of row))) (instructions_of machine.X86_64)) ≡ true → pair_ok o.template.cells (pattern_cells (pattern_of row)) ≡ true
        passes true e h = cc
        passes false e h = listed_passes (λ (o : Instruction). pair_ok o.template.cells (pattern_cells (pattern_of row))) (instructions_of machine.X86_64) o h known

    meeting : Window l s j q row v → template_start row q ≤ start + k → start + k < template_start row q + pattern_size row → ⊥
    meeting w from inside = by (is_free (get_or (pattern_cells (pattern_of row)) (start + k - template_start row q) its.Any)) refl
      where
        by : (b : Bool) → is_free (get_or (pattern_cells (pattern_of row)) (start + k - template_start row q) its.Any) ≡ b → ⊥
        by true free = free_not l s j q row v (start + k) (start + k - template_start row q) x86 w (t.alone k own) (omega (arith, from)) (omega (arith, from, inside)) free
        by false fixed =
            apart_templates o.template.cells (pattern_cells (pattern_of row)) s.bytes start (template_start row q) (ok w) (no_calls l s start o j q row v x86 t w) (record {
              first = t.stands;
              second = (stand (question_of l s q w.made.chosen.symbol (slice_get s.relocations (j + 1))) row w.made.chosen.chosen).same;
              own = k;
              other = start + k - template_start row q;
              same = omega (arith, from);
              own_inside = own.inside;
              other_inside = omega (arith, from, inside);
              own_fixed = own_is_fixed o k t.filled own;
              other_fixed = fixed;
              uncovered = uncovered l s start o j q row v x86 whole t w.has;
            })

known_here : (l : Layout) (s : Item) (r first : InputRelocation) (start : ℕ) (o : Instruction) → l.machine ≡ machine.X86_64 → IsTemplate l s r start o first → Contains (instructions_of machine.X86_64) o
known_here l s r first start o x86 (inl t) = subst (λ (m : Machine). Contains (instructions_of m) o) x86 t.0.stands.known
known_here l s r first start o x86 (inr t) = subst (λ (m : Machine). Contains (instructions_of m) o) x86 t.sequence.stands.known

instructions_kept : ChosenPatternsArePresent → (l : Layout) (w : World) (m : Memory) (s : Item) → IsLoadedItem machine.X86_64 l w m s → (i : ℕ) (r : InputRelocation) (d : Decision) → HasDecision l s i r d → KeepsInstruction d
    → (start : ℕ) (o : Instruction) (first : InputRelocation) → IsTemplate l s r start o first → (k : ℕ) → IsOwnByte o k → IsInputByte w m s (start + k)
instructions_kept stand l w m s h i r d has keeps start o first template k own =
    let t = kept_here l s i r d start o first h.on h.decided has keeps template in
    let inside = t.inside in
    let lt = own.inside in
    input_byte machine.X86_64 l w m s (start + k) h (omega (arith, inside, lt)) (t.alone k own) (own_outside l s start o k h.on h.decided stand t (known_here l s r first start o h.on template) own)

-- of AArch64's, the call of a run alone has bytes in no field
words_kept : RowsApplyTogether → (l : Layout) (w : World) (m : Memory) (s : Item) → IsLoadedItem machine.AArch64 l w m s → (i : ℕ) (r : InputRelocation) (d : Decision) → HasDecision l s i r d → KeepsInstruction d
    → (start : ℕ) (o : Instruction) (first : InputRelocation) → IsTemplate l s r start o first → (k : ℕ) → IsOwnByte o k → IsInputByte w m s (start + k)
words_kept together l w m s h i r d has keeps start o first (inl t) k own = absurd (no_own_byte_of_word o (is_word o (subst (λ (x : Machine). Contains (instructions_of x) o) h.on t.0.stands.known) t.0.single) k own)
words_kept together l w m s h i r d has keeps start o first (inr t) k own = by (is_run_of o (subst (λ (x : Machine). Contains (instructions_of x) o) h.on t.sequence.stands.known) t.sequence.several)
  where
    by : IsRun o → IsInputByte w m s (start + k)
    by (inr (inl e)) = absurd (no_own_byte k (subst (λ (x : Instruction). IsOwnByte x k) e own))
    by (inr (inr e)) = absurd (no_own_byte_of_address k (subst (λ (x : Instruction). IsOwnByte x k) e own))
    by (inl e) =
        let kept = run_is_kept together windows_have_no_other_field l s i r d h.on h.decided has keeps start o first t first (0, omega arith, refl) in
        let own_here = subst (λ (x : Instruction). IsOwnByte x k) e own in
        let stands = subst (λ (x : Instruction). IsInstruction l s first start x) e t.sequence.stands in
        let inside = stands.inside in
        let field = stands.field in
        let lt = own_here.inside in
        let out = stands.alone k own_here in
        input_byte machine.AArch64 l w m s (start + k) h (omega (arith, inside, lt)) out (call_is_kept together windows_have_no_other_field l s first start k h.on h.decided kept (omega (arith, field)) (only_one r_aarch64_tlsdesc_adr_page21 first.number stands.number) own_here out)

pub instructions_are_kept : ChosenPatternsArePresent → RowsApplyTogether → InstructionsAreKept
instructions_are_kept stand together machine.X86_64 l w m s h i r d has keeps start o first template k own = instructions_kept stand l w m s h i r d has keeps start o first template k own
instructions_are_kept stand together machine.AArch64 l w m s h i r d has keeps start o first template k own = words_kept together l w m s h i r d has keeps start o first template k own

-- ---- sequences

-- behind its entries
moved_item : (l : Layout) (w : World) (m : Memory) (s : Item) → IsLoadedItem machine.X86_64 l w m s → KeepsAll l → HasItem l w m s InMemory
moved_item l w m s h all = subst (λ (t : Stage). HasItem l w m s t) (h.moved all) h.item

-- memory has bytes at a field that is kept, where all is written
pub bytes_there : (l : Layout) (w : World) (m : Memory) (s : Item) (i : ℕ) (r : InputRelocation) (d : Decision) → IsLoadedItem machine.X86_64 l w m s → KeepsAll l → HasDecision l s i r d → KeepsInstruction d → (bs : List ℕ) × (length bs ≡ width_of r.number) × Holds m (w.base + s.address + r.offset) bs
bytes_there l w m s i r Nothing h all has k = ([], sym (kept_width l s i r Nothing h.on has tt), λ n lt. absurd (omega (arith, lt)))
bytes_there l w m s i r (Field z v) h all has k =
    let bs = (field_site s r.offset z v).bytes in
    (bs, length-size_written z v (slice_range s.bytes r.offset (r.offset + size_width z)) ∙ sym (kept_width l s i r (Field z v) h.on has tt), h.item.values i r z v has)
bytes_there l w m s i r (RelativeAddress v packed) h all has k =
    (word 8 (number_at InMemory w v packed), length-word 8 (number_at InMemory w v packed) ∙ sym (kept_width l s i r (RelativeAddress v packed) h.on has tt), (moved_item l w m s h all).addresses i r v packed has)
bytes_there l w m s i r (DynamicField z n symbol addend) h all has k =
    let left = (moved_item l w m s h all).left i r z n symbol addend has in
    (left.0, left.2.3 ∙ sym (kept_width l s i r (DynamicField z n symbol addend) h.on has tt), left.1)
bytes_there l w m s i r (Rewritten row v) h all has k = absurd k
bytes_there l w m s i r Partner h all has k = absurd k

sequences_kept : (l : Layout) (w : World) (m : Memory) (s : Item) → IsLoadedItem machine.X86_64 l w m s → (i : ℕ) (r : InputRelocation) → IsKeptReference l s i r → (start : ℕ) (o : Instruction) (first : InputRelocation) → (t : IsOfSequence l s r start o first) → (p : InputRelocation) → Contains (first ∷ t.rest) p → IsKeptAt l s p
sequences_kept l w m s h i r k start o first t p c = by (one_of_two first pair.second p (subst (λ (rs : List InputRelocation). Contains (first ∷ rs) p) pair.is c))
  where
    pair : PairOf l s first t.rest start o
    pair = as_pair l s first t.rest start o h.on t.sequence

    a : AreKept l s first pair.second pair.pair.has.index
    a = are_kept l s i r k.decision first pair.second start o h.on h.decided k.has k.keeps pair.pair (one_of_two first pair.second r (subst (λ (rs : List InputRelocation). Contains (first ∷ rs) r) pair.is t.one))

    refers : (q : InputRelocation) → Contains (first ∷ t.rest) q → q.number ≢ r_x86_64_none
    refers q e = (in_sequence l s first t.rest start o t.sequence q e).refers

    by : (p ≡ first) ⊎ (p ≡ pair.second) → IsKeptAt l s p
    by (inl e) = record { index = pair.pair.has.index; kept = record { decision = a.one; has = subst (λ (x : InputRelocation). HasDecision l s pair.pair.has.index x a.one) (sym e) a.has_one; keeps = a.keeps_one; refers = refers p c } }
    by (inr e) = record { index = pair.pair.has.index + 1; kept = record { decision = a.two; has = subst (λ (x : InputRelocation). HasDecision l s (pair.pair.has.index + 1) x a.two) (sym e) a.has_two; keeps = a.keeps_two; refers = refers p c } }

pub sequences_are_kept : RowsApplyTogether → SequencesAreKept
sequences_are_kept together machine.X86_64 l w m s h i r k start o first t p c = sequences_kept l w m s h i r k start o first t p c
sequences_are_kept together machine.AArch64 l w m s h i r k start o first t p c = run_is_kept together windows_have_no_other_field l s i r k.decision h.on h.decided k.has k.keeps start o first t p c

-- ---- other bytes

listed_at : (s : Item) (j : ℕ) (q : InputRelocation) → slice_get s.relocations j ≡ Some q → Contains s.relocations q
listed_at s j q e = (j, slice_get_within s.relocations j q e, get_or_from_slice_get s.relocations j q q e)

-- a row stands at no relocation that is for nothing
abbrev has_type : Row → Bool
has_type row = not (row.number == 0)

each_has_type : list_all has_type rows_x86_64 ≡ true
unfolding rows_x86_64
each_has_type = refl

each_word_has_type : list_all has_type rows_aarch64 ≡ true
unfolding rows_aarch64
each_word_has_type = refl

not_none : (row : Row) → has_type row ≡ true → row.number ≡ r_x86_64_none → ⊥
not_none row h e = let f : not (0 == 0) ≡ true = rw e at h in cc

rewritten_refers : (l : Layout) (s : Item) (j : ℕ) (q : InputRelocation) (row : Row) (v : ℕ) → HasDecision l s j q (Rewritten row v) → q.number ≢ r_x86_64_none
rewritten_refers l s j q row v has e =
    elim (decide_rewritten l s j q row v has.listed has.decided) [
      | inl made ↦ not_none row (chosen_listed l s q (slice_get s.relocations (j + 1)) row made.chosen has_type each_has_type) (sym made.chosen.number ∙ e)
      | inr made ↦ not_none row (listed_passes has_type rows_aarch64 row each_word_has_type made.chosen.listed) (sym made.chosen.number ∙ e)
    ]

pub others_are_kept : RewrittenAreInstructions → OthersAreKept
others_are_kept stand machine l w m s h k lt other = input_byte machine l w m s k h lt other.fields windows
  where
    windows : OutOfWindows l s k
    windows j q row v has =
        let t = stand machine l w m s h j q row v has in
        let before = t.before in
        let behind = t.behind in
        elim (other.templates q t.from t.instruction t.first (record { listed = listed_at s j q has.listed; refers = rewritten_refers l s j q row v has }) t.template) [
          | inl low ↦ inl (omega (arith, before, low))
          | inr high ↦ inr (omega (arith, behind, high))
        ]
