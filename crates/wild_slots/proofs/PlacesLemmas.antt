-- The places of all words and stubs ascend.
use Rattle.wild_slots.proofs.Common.{◌≡◌, ℕ, ◌+◌, ◌*◌, ◌^◌, ◌≤◌, inl, inr, List, [], length, get_or, All, sym, ap, ◌∙◌, subst, arith, flat_map, length-append, slots, word_bytes, length-word_bytes, Role, Group, Symbol, Layout, total, stub_size, words_in, symbol_share, header_words, start_of, first_free, HasSlotsInOrder, group_symbols, written_symbols, Ascend, word_places}
use Rattle.std.proofs.lemmas.Bool.{cases_lt}
use Rattle.std.proofs.lemmas.List.{nil_from_length}
use Rattle.std.proofs.lemmas.Option.{slice_get-get_or}
use Rattle.wild_types.specs.declared.part.Role.TheVariants as role
use Rattle.wild_slot.specs.declared.slot_parts.WordPart.TheVariants as words
use Rattle.wild_slots.specs.Order.{end_of}
use Rattle.wild_slots.specs.AscendingPlaces.{stub_places, HasAscendingPlaces}
use Rattle.wild_slots.proofs.OrderLemmas.{AreInOrder-from_test}
use Rattle.wild_slots.proofs.TableLemmas.{IsTable, symbol_bytes, got_table, block_table, stub_table, length-symbols, headless, headed}
use Rattle.wild_slots.proofs.AscendLemmas.{Ascend-none, Ascend-wider, Ascend-slots, AscendAt, ascend_all}
use Rattle.wild_slots.proofs.SymbolPlaces.{All-written, IsAt-from, IsFit, block_slots, other_slots, stub_place}

-- ---- where tables end

pub headless_end : (l : Layout) (r : Role) → IsTable l r [] → end_of l r ≡ start_of l r + total (symbol_share l r) (written_symbols l)
headless_end l r t = ap (λ (bs : List ℕ). start_of l r + length bs) (headless l r t) ∙ ap (λ (n : ℕ). start_of l r + n) (length-symbols l r [] (written_symbols l) t)

got_end : (l : Layout) → HasSlotsInOrder l → 1 ≤ length l.groups → end_of l role.Got ≡ (first_free l).got + total (symbol_share l role.Got) (written_symbols l)
got_end l h some =
    let head = word_bytes (header_words l) in
    let e = ap (λ (bs : List ℕ). start_of l role.Got + length bs) (headed l role.Got head (got_table l) h.files some) in
    let n = length-append head (flat_map (symbol_bytes l role.Got) (written_symbols l)) in
    let a = length-word_bytes (header_words l) in
    let b = length-symbols l role.Got head (written_symbols l) (got_table l) in
    omega (arith, e, n, a, b)

pub none_written : (l : Layout) → length l.groups ≡ 0 → written_symbols l ≡ []
none_written l e = ap (λ (gs : List Group). flat_map (group_symbols l) gs) (nil_from_length l.groups e)

-- ---- what each symbol shows

all_fit : (l : Layout) → HasSlotsInOrder l → All (IsFit l) l.symbols
all_fit l h = λ k d lt. record { flags = h.resolved k d lt; second = λ some. (h.flags.resolved k (get_or l.symbols k d) (slice_get-get_or l.symbols k d lt) some).second }

ascends_from : (n free base share : ℕ) (ps : List ℕ) → free ≡ base → Ascend n free (free + share) ps → Ascend n base (base + share) ps
ascends_from n free base share ps e a = let P : ℕ → Type 0 = λ (p : ℕ). Ascend n p (p + share) ps in subst P e a

slots_ascend : (free n base : ℕ) (ps : List ℕ) → ps ≡ slots free n → free ≡ base → Ascend 8 base (base + 8 * n) ps
slots_ascend free n base ps e f = ascends_from 8 free base (8 * n) ps f (subst (Ascend 8 free (free + 8 * n)) (sym e) (Ascend-slots free n))

words_ascend : (l : Layout) (limit : ℕ) → limit ≤ 2 ^ 64 → AscendAt l (IsFit l) 8 (first_free l).got limit (symbol_share l role.Got) (word_places words.Got l)
words_ascend l limit small front s fit h low =
    let e = h.behind.got in
    slots_ascend h.free.got (length (words_in words.Got l s)) ((first_free l).got + total (symbol_share l role.Got) front) (word_places words.Got l s)
    (other_slots l s h.free fit (IsAt-from l front s h) (omega (arith, e, low, small))) e

blocks_ascend : (l : Layout) (limit : ℕ) → AscendAt l (IsFit l) 8 (first_free l).block limit (symbol_share l role.GotRelr) (word_places words.RelrGot l)
blocks_ascend l limit front s fit h low =
    slots_ascend h.free.block (length (words_in words.RelrGot l s)) ((first_free l).block + total (symbol_share l role.GotRelr) front) (word_places words.RelrGot l s)
    (block_slots l s h.free (IsAt-from l front s h)) h.behind.block

stubs_ascend : (l : Layout) (limit : ℕ) → AscendAt l (IsFit l) stub_size (first_free l).stub limit (symbol_share l role.PltGot) (stub_places l)
stubs_ascend l limit front s fit h low =
    ascends_from stub_size h.free.stub ((first_free l).stub + total (symbol_share l role.PltGot) front) (symbol_share l role.PltGot s) (stub_places l s) h.behind.stub
    (stub_place l s h.free (IsAt-from l front s h))

-- ---- the whole

to_end : (l : Layout) → HasSlotsInOrder l → (n base end : ℕ) (share : Symbol → ℕ) (places : Symbol → List ℕ) → AscendAt l (IsFit l) n base end share places → end ≡ base + total share (written_symbols l) → Ascend n base end (flat_map places (written_symbols l))
to_end l h n base end share places each e =
    let order = AreInOrder-from_test l h.slots.placed in
    let all = All-written l (IsFit l) (all_fit l h) in
    Ascend-wider n base (base + 0) (base + 0 + total share (written_symbols l)) end (flat_map places (written_symbols l)) (omega arith) (omega (arith, e))
    (ascend_all l (IsFit l) n base end share places each (written_symbols l) [] all order.each (omega (arith, e)))

table_ascends : (l : Layout) → HasSlotsInOrder l → end_of l role.Got ≤ 2 ^ 64 → Ascend 8 (first_free l).got (end_of l role.Got) (flat_map (word_places words.Got l) (written_symbols l))
table_ascends l h small =
    elim (cases_lt 0 (length l.groups)) [
      | inl some ↦ to_end l h 8 (first_free l).got (end_of l role.Got) (symbol_share l role.Got) (word_places words.Got l) (words_ascend l (end_of l role.Got) small) (got_end l h some)
      | inr none ↦
          (let P : List Symbol → Type 0 = λ ss. Ascend 8 (first_free l).got (end_of l role.Got) (flat_map (word_places words.Got l) ss) in
          subst P (sym (none_written l (omega (arith, none)))) (Ascend-none 8 (first_free l).got (end_of l role.Got)))
    ]

pub ascending : (l : Layout) → HasSlotsInOrder l → end_of l role.Got ≤ 2 ^ 64 → HasAscendingPlaces l
ascending l h small = record {
  table = table_ascends l h small;
  blocks = to_end l h 8 (first_free l).block (end_of l role.GotRelr) (symbol_share l role.GotRelr) (word_places words.RelrGot l) (blocks_ascend l (end_of l role.GotRelr)) (headless_end l role.GotRelr (block_table l));
  stubs = to_end l h stub_size (first_free l).stub (end_of l role.PltGot) (symbol_share l role.PltGot) (stub_places l) (stubs_ascend l (end_of l role.PltGot)) (headless_end l role.PltGot (stub_table l));
}
