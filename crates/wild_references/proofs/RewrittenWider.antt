-- Behind a longer prefix the same bytes are written, and they do what the longer instruction demands.
use Rattle.wild_references.proofs.Common.{◌≡◌, ℕ, zero, suc, ◌+◌, ◌-◌, ◌<◌, ◌≤◌, ◌⊎◌, inl, inr, Bool, true, false, List, [], ◌∷◌, length, get_or, refl, sym, ap, ◌∙◌, arith, subst, ◌&&◌, ◌||◌, ◌==◌, Some, Ok, slice_get, slice_range, slice_index, list_all, cases_lt, cases_eq, place, listed_passes, Machine, InputRelocation, Layout, KeepsAll, written, Formula, x86_64_formula, RelocationKindInfo, Row, PLAIN_LEA, pattern_cells, pattern_of, pattern_size, keeps_bytes, template_of, distance, Rewritten, question_of, template_start, chosen_listed, IsDecided, HasDecision, byte_in, Holds, Memory, World, Item, place_at, formula_of, form_width, IsInputByte, effect_x86_64, demand_x86_64, Instruction, size_of, instructions_of, Reader, Number, reads_numbers, reads_without_calls, IsLoadedItem}
use Rattle.wild_records.specs.Abi.Relocation as abi
use Rattle.wild_types.specs.declared.kind.Machine.TheVariants as machine
use Rattle.wild_relax.specs.declared.pattern.Cell.TheVariants as cells
use Rattle.wild_relax.specs.declared.table.TheConstants.{LEA_2}
use Rattle.wild_references.proofs.TableRows.{long_there}
use Rattle.wild_relax.specs.LinkedPattern.{linked_pattern}
use Rattle.wild_relax.specs.KeepX86_64.{IsWhole}
use Rattle.wild_loader.specs.Instruction as judge
use Rattle.wild_loader.specs.declared.instruction.Cell.TheVariants as judge-cells
use Rattle.wild_references.proofs.Clash.{is_free, are_calls, pair_ok, row_ok, each_row_ok, IsUncovered, apart_templates}
use Rattle.wild_references.proofs.KeptBytes.{OutOfWindows, input_byte, Window, window, free_not}
use Rattle.wild_meaning.proofs.SymbolLemmas.{slot_address_of}
use Rattle.wild_references.proofs.RewrittenReads.{IsDone, no_slots, reads_only}
use Rattle.wild_references.proofs.RewrittenPlaces.{LawsBelow}
use Rattle.wild_references.proofs.RewrittenTerms.{info_is}
use Rattle.wild_references.proofs.RewrittenEffects.{has_effect, template_linked, value_small, old_of, on_machine, demand_on, whole_is}
use Rattle.wild_references.proofs.RewrittenDoes.{plain_far}
use Rattle.wild_references.proofs.RewrittenPrefix.{wide_load, Plain, at_field, room, bytes_are, stands_with, IsWider}
use Rattle.wild_references.proofs.Fills.{is_any}

-- ---- the prefix stays in memory

-- the field's type has four bytes
four_bytes : (f : Formula) → x86_64_formula abi.r_x86_64_gotpcrel ≡ Some f → form_width f.form ≡ 4
unfolding x86_64_formula
four_bytes f h = by_some _ f h refl
  where
    by_some : (g f : Formula) → Some g ≡ Some f → form_width g.form ≡ 4 → form_width f.form ≡ 4
    by_some g f h e = (let same : g ≡ f = cc in subst (λ (x : Formula). form_width x.form ≡ 4) same e)

four_there : (f : Formula) × (x86_64_formula abi.r_x86_64_gotpcrel ≡ Some f)
unfolding x86_64_formula
four_there = (_, refl)

formula_there : (m : Machine) (n : ℕ) (f : Formula) → m ≡ machine.X86_64 → n ≡ abi.r_x86_64_gotpcrel → x86_64_formula abi.r_x86_64_gotpcrel ≡ Some f → formula_of m n ≡ Some f
formula_there m n f e k h = subst (λ (x : Machine). formula_of x n ≡ Some f) (sym e) (subst (λ (y : ℕ). x86_64_formula y ≡ Some f) (sym k) h)

-- the field lies in no other window
field_out : LawsBelow → (l : Layout) (s : Item) (i j : ℕ) (r q : InputRelocation) (v from x w : ℕ) (row : Row) → l.machine ≡ machine.X86_64 → IsDecided l s → Plain l s i r v from → HasDecision l s j q (Rewritten row w) → (j ≡ i → ⊥) → from + 4 ≤ x → x < from + 8 → (x < template_start row q) ⊎ (template_start row q + pattern_size row ≤ x)
field_out laws l s i j r q v from x w row x86 decided t h other low high =
    elim (cases_lt x (template_start row q)) [
      | inl before ↦ inl before
      | inr above ↦ elim (cases_lt x (template_start row q + pattern_size row)) [
        | inr behind ↦ inr behind
        | inl inside ↦
            (let f = four_there in
            let width = four_bytes f.0 f.1 in
            let at = at_field l s i r v from t in
            absurd (not_beside width at (laws.alone l s decided j i q r row w (Rewritten PLAIN_LEA v) h t.row.has other (λ e c. cc) x above inside f.0 (formula_there l.machine r.number f.0 x86 t.row.chosen.number f.1))))
      ]
    ]
  where
    not_beside : {n : ℕ} → n ≡ 4 → r.offset ≡ from + 4 → (x < r.offset) ⊎ (r.offset + n ≤ x) → ⊥
    not_beside e at (inl a) = omega (arith, at, a, low)
    not_beside e at (inr a) = omega (arith, e, at, a, high)

any_four : (k : ℕ) → is_any (get_or wide_load.template.cells k judge-cells.Any) ≡ true → 4 ≤ k
any_four zero h = cc
any_four (suc zero) h = cc
any_four (suc (suc zero)) h = cc
any_four (suc (suc (suc zero))) h = cc
any_four (suc (suc (suc (suc k)))) h = omega arith

uncovered : LawsBelow → (l : Layout) (s : Item) (i j : ℕ) (r q : InputRelocation) (v from w : ℕ) (row : Row) → l.machine ≡ machine.X86_64 → IsDecided l s → Plain l s i r v from → HasDecision l s j q (Rewritten row w) → (j ≡ i → ⊥) → IsUncovered wide_load.template.cells (pattern_cells (pattern_of row)) from (template_start row q)
uncovered laws l s i j r q v from w row x86 decided t h other k lt any =
    let low = any_four k any in
    field_out laws l s i j r q v from (from + k) w row x86 decided t h other (omega (arith, low)) (omega (arith, lt))

-- another row's window leaves the prefix out
fields_are_apart : LawsBelow → (l : Layout) (s : Item) (i j : ℕ) (r q : InputRelocation) (v from w : ℕ) (row : Row) → l.machine ≡ machine.X86_64 → IsDecided l s → IsWider l s i r v from → HasDecision l s j q (Rewritten row w) → (j ≡ i → ⊥) → template_start row q ≤ from → from < template_start row q + pattern_size row → ⊥
fields_are_apart laws l s i j r q v from w row x86 decided t h other low high = by_cell (is_free (get_or (pattern_cells (pattern_of row)) (from - template_start row q) cells.Any)) refl
  where
    there : Window l s j q row w
    there = window l s j q row w x86 h

    passes : (b : Bool) → b ≡ false → (b || list_all (λ (o : Instruction). pair_ok o.template.cells (pattern_cells (pattern_of row))) (instructions_of machine.X86_64)) ≡ true → pair_ok wide_load.template.cells (pattern_cells (pattern_of row)) ≡ true
    passes true e k = cc
    passes false e k = listed_passes (λ (o : Instruction). pair_ok o.template.cells (pattern_cells (pattern_of row))) (instructions_of machine.X86_64) wide_load k (21, omega arith, refl)

    no_calls : are_calls wide_load.template.cells (pattern_cells (pattern_of row)) ≡ true → ⊥
    no_calls k = cc

    by_cell : (b : Bool) → is_free (get_or (pattern_cells (pattern_of row)) (from - template_start row q) cells.Any) ≡ b → ⊥
    by_cell true any = free_not l s j q row w from (from - template_start row q) x86 there t.alone (omega (arith, low)) (omega (arith, low, high)) any
    by_cell false fixed =
        apart_templates wide_load.template.cells (pattern_cells (pattern_of row)) s.bytes from (template_start row q) (passes (keeps_bytes row) there.made.changes (chosen_listed l s q (slice_get s.relocations (j + 1)) row there.made.chosen row_ok each_row_ok)) no_calls (record {
          first = stands_with l s i r v from t.plain t.prefix;
          second = (laws.whole (question_of l s q there.made.chosen.symbol (slice_get s.relocations (j + 1))) row there.made.chosen.chosen).same;
          own = 0;
          other = from - template_start row q;
          same = omega (arith, low);
          own_inside = omega arith;
          other_inside = omega (arith, low, high);
          own_fixed = refl;
          other_fixed = fixed;
          uncovered = uncovered laws l s i j r q v from w row x86 decided t.plain h other;
        })

out_of_windows : LawsBelow → (l : Layout) (s : Item) (i : ℕ) (r : InputRelocation) (v from : ℕ) → l.machine ≡ machine.X86_64 → IsDecided l s → IsWider l s i r v from → OutOfWindows l s from
out_of_windows laws l s i r v from x86 decided t j q row w h =
    elim (cases_eq j i) [
      | inl e ↦ inl (own_one (subst (λ (n : ℕ). HasDecision l s n q (Rewritten row w)) e h))
      | inr other ↦ elim (cases_lt from (template_start row q)) [
        | inl before ↦ inl before
        | inr above ↦ elim (cases_lt from (template_start row q + pattern_size row)) [
          | inr behind ↦ inr behind
          | inl inside ↦ absurd (fields_are_apart laws l s i j r q v from w row x86 decided t h other above inside)
        ]
      ]
    ]
  where
    own_one : HasDecision l s i q (Rewritten row w) → from < template_start row q
    own_one k =
        let a : r ≡ q = (let z : Some r ≡ Some q = sym t.plain.row.has.listed ∙ k.listed in cc) in
        let b : PLAIN_LEA ≡ row = (let z : Ok (Rewritten PLAIN_LEA v) ≡ Ok (Rewritten row w) = sym t.plain.row.has.decided ∙ k.decided in cc) in
        let start = t.plain.start in
        let here : from < template_start PLAIN_LEA r = omega (arith, start) in
        subst (λ (x : InputRelocation). from < template_start row x) a (subst (λ (x : Row). from < template_start x r) b here)

pub prefix_stays : LawsBelow → (l : Layout) (w : World) (m : Memory) (s : Item) (i : ℕ) (r : InputRelocation) (v from : ℕ) → IsLoadedItem machine.X86_64 l w m s → IsWider l s i r v from → IsInputByte w m s from
prefix_stays laws l w m s i r v from h t =
    let inside = room l s i r v from t.plain in
    input_byte machine.X86_64 l w m s from h (omega (arith, inside)) t.alone (out_of_windows laws l s i r v from h.on h.decided t)

-- ---- the same bytes

place_more : (k x : ℕ) (part xs : List ℕ) → place (suc k) part (x ∷ xs) ≡ x ∷ place k part xs
unfolding place
place_more k x part xs = (let e : suc k + length part ≡ suc (k + length part) = omega arith in rw e refl)

linked_more : (info : RelocationKindInfo) (v x : ℕ) (old : List ℕ) → linked_pattern LEA_2 info v (x ∷ old) ≡ x ∷ linked_pattern PLAIN_LEA info v old
linked_more info v x old =
    ap (λ (bs : List ℕ). place 4 (written info v []) bs) (place_more 1 x (0x8d ∷ []) old)
    ∙ place_more 3 x (written info v []) (place 1 (0x8d ∷ []) old)

-- in memory from the prefix on
held_more : (m : Memory) (a b x : ℕ) (bs : List ℕ) → b ≡ a + 1 → byte_in m a ≡ Some x → Holds m b bs → Holds m a (x ∷ bs)
held_more m a b x bs e first rest zero lt = (let z : a ≡ a + 0 = omega arith in subst (λ (n : ℕ). byte_in m n ≡ Some x) z first)
held_more m a b x bs e first rest (suc k) lt = (let z : b + k ≡ a + suc k = omega (arith, e) in subst (λ (n : ℕ). byte_in m n ≡ Some (slice_index bs k)) z (rest k (omega (arith, lt))))

pub does_wider : LawsBelow → (l : Layout) (w : World) (m : Memory) (s : Item) (i : ℕ) (r : InputRelocation) (v from : ℕ) → IsLoadedItem machine.X86_64 l w m s → KeepsAll l → IsWider l s i r v from → IsDone machine.X86_64 l w m s r from wide_load
does_wider laws l w m s i r v from h all t =
    let p = t.plain.row in
    let x = slice_index s.bytes from in
    let old = old_of s PLAIN_LEA r in
    let a = place_at w s from in
    let far = plain_far laws l w m s i r PLAIN_LEA v h all p refl refl p.stands.taken.addend p.stands.taken.symbol p.stands.taken.value in
    let n = far.operand in
    let info = p.made.written.info in
    let known = info_is l w m s i r PLAIN_LEA v h p in
    let bytes = bytes_are l s i r v from t.plain in
    let start = t.plain.start in
    let next : place_at w s (template_start PLAIN_LEA r) ≡ a + 1 = omega (arith, start) in
    let shape = stands_with l s i r v from t.plain t.prefix in
    let here : judge.matches_cells wide_load.template.cells (x ∷ old) ≡ true = subst (λ (bs : List ℕ). judge.matches_cells wide_load.template.cells bs ≡ true) bytes shape in
    let long : length (x ∷ old) ≡ 8 = (let z = p.whole.long in omega (arith, z)) in
    let e = has_effect n a 12 wide_load.template (x ∷ old) (omega arith) refl long here in
    let whole : IsWhole (pattern_cells (pattern_of LEA_2)) (x ∷ old) = record { long = long; same = both_stand (x == 0xd5) _ t.prefix p.whole.same } in
    let place_is : place_at w s (template_start PLAIN_LEA r) + 3 ≡ a + 4 = omega (arith, next) in
    let lands : v ≡ distance n (a + 4) = subst (λ (y : ℕ). v ≡ distance n y) place_is far.lands in
    let keeps : (read : Reader) → ((k : ℕ) → read (Number k) ≡ Some k) → effect_x86_64 read a (linked_pattern LEA_2 info v (x ∷ old)) ≡ demand_x86_64 n a (x ∷ old) = λ read numbers. laws.keeps LEA_2 info read a n v (x ∷ old) (record { listed = long_there; changes = refl }) whole (record { row_of = sym known; allowed = p.made.written.allowed; small = value_small l s i r PLAIN_LEA v p; operand = far.is.small; numbers = numbers; lands = lands }) in
    let written_bytes : linked_pattern LEA_2 info v (x ∷ old) ≡ x ∷ template_of PLAIN_LEA v old = linked_more info v x old ∙ ap (λ (bs : List ℕ). x ∷ bs) (sym (template_linked PLAIN_LEA info v old known)) in
    let done : (read : Reader) → ((k : ℕ) → read (Number k) ≡ Some k) → effect_x86_64 read a (x ∷ template_of PLAIN_LEA v old) ≡ Some e.0 = λ read numbers. subst (λ (bs : List ℕ). effect_x86_64 read a bs ≡ Some e.0) written_bytes (keeps read numbers ∙ e.1) in
    let long_whole : length (x ∷ template_of PLAIN_LEA v old) ≡ size_of wide_load = (let z = whole_is l w m s i r PLAIN_LEA v h p in omega (arith, z)) in
    let held = held_more m a (place_at w s (template_start PLAIN_LEA r)) x (template_of PLAIN_LEA v old) next (prefix_stays laws l w m s i r v from h t) (h.item.rewritten i r PLAIN_LEA v p.has) in
    record {
      words = reads_only reads_numbers l w m s r from wide_load (x ∷ template_of PLAIN_LEA v old) e.0 (no_slots l w r.symbol) long_whole held (done reads_numbers (λ k. refl));
      does = record {
        value = n;
        demands = slot_address_of l w m r.symbol n far.is.target;
        code = record {
          effect = e.0;
          demanded = demand_on l.machine n a (slice_range s.bytes from (from + 8)) h.on ∙ (ap (λ (bs : List ℕ). demand_x86_64 n a bs) bytes ∙ e.1);
          bytes = x ∷ template_of PLAIN_LEA v old;
          whole = long_whole;
          held = held;
          does = on_machine l.machine (reads_without_calls w m) a (x ∷ template_of PLAIN_LEA v old) h.on ∙ done (reads_without_calls w m) (λ k. refl);
        };
      };
    }
  where
    both_stand : (a b : Bool) → a ≡ true → b ≡ true → (a && b) ≡ true
    both_stand true b e f = f
    both_stand false b e f = cc
