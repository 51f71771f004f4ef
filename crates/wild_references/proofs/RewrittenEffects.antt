-- The code that is written in place of an instruction does what that demands, where the value in its field lands.
use Rattle.wild_references.proofs.Common.{◌≡◌, ℕ, zero, suc, ◌+◌, ◌^◌, ◌<◌, Bool, true, false, List, [], ◌∷◌, length, get_or, drop, refl, sym, ap, ◌∙◌, arith, subst, nat_le, if◌then◌else◌, Some, slice_range, le-leb, Machine, InputRelocation, Layout, x86_64_row, RelocationKindInfo, Row, rewrite_of, pattern_size, field_in, template_of, template_start, Memory, World, Item, place_at, Action, Number, Template, Effect, matches_cells, with_value, Reader, meaning_x86_64, effect_x86_64, demand_x86_64, size_of, reads_without_calls, effect_of, demand_of, Demands, IsDemanded, old_bytes, IsLoadedItem}
use Rattle.wild_types.specs.declared.kind.Machine.TheVariants as machine
use Rattle.wild_relax.specs.LinkedPattern.{linked_pattern}
use Rattle.wild_relax.proofs.TemplateLemmas as templates
use Rattle.wild_relax.specs.KeepX86_64.{FieldIsRight, demanded}
use Rattle.wild_layout.proofs.ChoiceLemmas.{length-template}
use Rattle.wild_loader.specs.Instruction.{template_fills, first_meaning}
use Rattle.wild_loader.specs.ThreadCodeX86_64.{nop_byte}
use Rattle.wild_loader.specs.InstructionX86_64.{templates_x86_64}
use Rattle.wild_layout.proofs.DecideLemmas.{value_below}
use Rattle.wild_references.proofs.RewrittenReads.{IsDone, ReadsOnlySlots, reads_only}
use Rattle.wild_references.proofs.RewrittenForms.{instruction_of}
use Rattle.wild_references.proofs.RewrittenPlaces.{LawsBelow, IsPlacedRow, size_is, cells_stand}
use Rattle.wild_references.proofs.RewrittenTerms.{info_is, lies_in}

-- ---- bytes that an instruction fills have a meaning

drop_whole : (bs : List ℕ) (n : ℕ) → length bs ≡ n → drop n bs ≡ []
drop_whole [] zero h = refl
drop_whole [] (suc n) h = absurd (omega (arith, h))
drop_whole (b ∷ bs) zero h = absurd (omega (arith, h))
drop_whole (b ∷ bs) (suc n) h = drop_whole bs n (omega (arith, h))

fills_whole : (nop : List ℕ) (t : Template) (bs : List ℕ) → length bs ≡ length t.cells → matches_cells t.cells bs ≡ true → template_fills nop t bs ≡ true
fills_whole nop t bs long same =
    let room : nat_le (length t.cells) (length bs) ≡ true = le-leb (length t.cells) (length bs) (omega (arith, long)) in
    rw (room, same, drop_whole bs (length t.cells) long) refl

means : (nop : List ℕ) (ts : List Template) (t : Template) (k a : ℕ) (bs : List ℕ) → k < length ts → get_or ts k t ≡ t → template_fills nop t bs ≡ true → (act : Action) × (first_meaning nop ts a bs ≡ Some act)
means nop [] t k a bs lt e h = absurd (omega (arith, lt))
means nop (x ∷ xs) t zero a bs lt e h = (let here : template_fills nop x bs ≡ true = subst (λ (y : Template). template_fills nop y bs ≡ true) (sym e) h in (x.action a bs, rw here refl))
means nop (x ∷ xs) t (suc k) a bs lt e h = by_first (template_fills nop x bs) (means nop xs t k a bs (omega (arith, lt)) e h)
  where
    by_first : (b : Bool) → (act : Action) × (first_meaning nop xs a bs ≡ Some act) → (act : Action) × ((if b then Some (x.action a bs) else first_meaning nop xs a bs) ≡ Some act)
    by_first true rest = (x.action a bs, refl)
    by_first false rest = rest

pub has_effect : (v a k : ℕ) (t : Template) (bs : List ℕ) → k < length templates_x86_64 → get_or templates_x86_64 k t ≡ t → length bs ≡ length t.cells → matches_cells t.cells bs ≡ true → (e : Effect) × (demand_x86_64 v a bs ≡ Some e)
unfolding meaning_x86_64
has_effect v a k t bs lt is long same =
    let act = means (nop_byte ∷ []) templates_x86_64 t k a bs lt is (fills_whole (nop_byte ∷ []) t bs long same) in
    (with_value act.0 v, rw act.1 refl)

-- ---- the row's bytes in memory

pub value_small : (l : Layout) (s : Item) (i : ℕ) (r : InputRelocation) (row : Row) (v : ℕ) → IsPlacedRow l s i r row v → v < 2 ^ 64
value_small l s i r row v p = (let x = p.made.written in subst (λ (n : ℕ). n < 2 ^ 64) x.value (value_below l x.info.kind x.term _ _))

pub template_linked : (row : Row) (info : RelocationKindInfo) (v : ℕ) (old : List ℕ) → x86_64_row (rewrite_of row).number ≡ Some info → template_of row v old ≡ linked_pattern row info v old
template_linked row info v old e = templates.template_linked row info v old (sym e)

abbrev pub old_of : Item → Row → InputRelocation → List ℕ
old_of s row r = slice_range s.bytes (template_start row r) (template_start row r + pattern_size row)

-- the effect of what is written, at the row's bytes, for any reader of operands
pub effect_kept : LawsBelow → (read : Reader) → ((k : ℕ) → read (Number k) ≡ Some k) → (l : Layout) (w : World) (m : Memory) (s : Item) (i : ℕ) (r : InputRelocation) (row : Row) (v n a : ℕ) → IsLoadedItem machine.X86_64 l w m s → IsPlacedRow l s i r row v → n < 2 ^ 64 → FieldIsRight row.written read (a + field_in row) n v → effect_x86_64 read a (template_of row v (old_of s row r)) ≡ demanded row.made n a (old_of s row r)
effect_kept laws read numbers l w m s i r row v n a h p small lands =
    let x = p.made.written in
    let known = info_is l w m s i r row v h p in
    let keeps = laws.keeps row x.info read a n v (old_of s row r) p.changing p.whole (record { row_of = sym known; allowed = x.allowed; small = value_small l s i r row v p; operand = small; numbers = numbers; lands = lands }) in
    ap (λ (bs : List ℕ). effect_x86_64 read a bs) (template_linked row x.info v (old_of s row r) known) ∙ keeps

pub on_machine : (k : Machine) (read : Reader) (a : ℕ) (bs : List ℕ) → k ≡ machine.X86_64 → effect_of k read a bs ≡ effect_x86_64 read a bs
on_machine k read a bs e = rw e refl

pub demand_on : (k : Machine) (v a : ℕ) (bs : List ℕ) → k ≡ machine.X86_64 → demand_of k v a bs ≡ demand_x86_64 v a bs
demand_on k v a bs e = rw e refl

old_is : (l : Layout) (s : Item) (i : ℕ) (r : InputRelocation) (row : Row) (v : ℕ) → IsPlacedRow l s i r row v → old_bytes s (template_start row r) (instruction_of row) ≡ old_of s row r
old_is l s i r row v p = ap (λ (n : ℕ). slice_range s.bytes (template_start row r) (template_start row r + n)) (size_is l s i r row v p)

pub whole_is : (l : Layout) (w : World) (m : Memory) (s : Item) (i : ℕ) (r : InputRelocation) (row : Row) (v : ℕ) → IsLoadedItem machine.X86_64 l w m s → IsPlacedRow l s i r row v → length (template_of row v (old_of s row r)) ≡ size_of (instruction_of row)
whole_is l w m s i r row v h p = length-template row v (old_of s row r) (lies_in l s i r row v p) p.whole.long ∙ sym (size_is l s i r row v p)

-- with an operand that lands it does what is demanded, where that is an effect of the input's bytes; and it reads no word but the slot of
-- the symbol's offset, where the operand lands for a reader of nothing else
pub does_by : LawsBelow → (l : Layout) (w : World) (m : Memory) (s : Item) (i : ℕ) (r : InputRelocation) (row : Row) (v n : ℕ) → IsLoadedItem machine.X86_64 l w m s → IsPlacedRow l s i r row v → Demands (instruction_of row).sort l w m s r n → n < 2 ^ 64 → FieldIsRight row.written (reads_without_calls w m) (place_at w s (template_start row r) + field_in row) n v
    → (only : Reader) → ReadsOnlySlots l w r.symbol only → FieldIsRight row.written only (place_at w s (template_start row r) + field_in row) n v
    → ((a : ℕ) (old : List ℕ) → demanded row.made n a old ≡ demand_x86_64 n a old) → ((a : ℕ) (old : List ℕ) (e : Effect) → demand_of l.machine n a old ≡ Some e → IsDemanded (instruction_of row).sort l s n a old e) → IsDone machine.X86_64 l w m s r (template_start row r) (instruction_of row)
does_by laws l w m s i r row v n h p demands small lands only reads lands_only same told =
    let a = place_at w s (template_start row r) in
    let old = old_is l s i r row v p in
    let size = size_is l s i r row v p in
    let long : length (old_of s row r) ≡ length (instruction_of row).template.cells = p.whole.long ∙ sym size in
    let stands_here = subst (λ (bs : List ℕ). matches_cells (instruction_of row).template.cells bs ≡ true) old (cells_stand l s i r row v p) in
    let t = p.fits.template in
    let e = has_effect n a t.0 (instruction_of row).template (old_of s row r) t.1 t.2 long stands_here in
    let asked : demand_of l.machine n a (old_bytes s (template_start row r) (instruction_of row)) ≡ Some e.0 = demand_on l.machine n a _ h.on ∙ (ap (λ (bs : List ℕ). demand_x86_64 n a bs) old ∙ e.1) in
    let bytes = template_of row v (old_of s row r) in
    let whole = whole_is l w m s i r row v h p in
    let held = h.item.rewritten i r row v p.has in
    let done = same a (old_of s row r) ∙ e.1 in
    record {
      does = record {
        value = n;
        demands = demands;
        code = record {
          effect = e.0;
          demanded = told a _ e.0 asked;
          bytes = bytes;
          whole = whole;
          held = held;
          does = on_machine l.machine (reads_without_calls w m) a _ h.on ∙ (effect_kept laws (reads_without_calls w m) (λ k. refl) l w m s i r row v n a h p small lands ∙ done);
        };
      };
      words = reads_only only l w m s r (template_start row r) (instruction_of row) bytes e.0 reads whole held (effect_kept laws only reads.numbers l w m s i r row v n a h p small lands_only ∙ done);
    }
