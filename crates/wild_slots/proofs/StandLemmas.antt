-- The words and the stub of each symbol stand at their addresses.
use Rattle.wild_slots.proofs.Common.{◌≡◌, ℕ, ◌+◌, ◌-◌, ◌*◌, ◌≤◌, inl, inr, Bool, true, false, List, [], ◌∷◌, ◌++◌, length, Some, Contains, refl, sym, ap, ◌∙◌, subst, arith, slice_get, Option, if◌then◌else◌, replicate, unwrap_or, flat_map, cases_Bool, and_parts, append_assoc, holds_at, word_bytes, length-word_bytes, Role, File, Symbol, Layout, SlotWord, InRelrGot, total, slot_words, begins_relr_got, got_of, plt_of, slots_address, own_symbols, slots_of, symbol_share, header_words, start_of, table_bytes, HasItsFlags, HasSlotsInOrder, group_symbols, written_symbols}
use Rattle.std.proofs.lemmas.List.{length-replicate}
use Rattle.std.proofs.lemmas.List.Concat.{flat_map-append}
use Rattle.std.proofs.lemmas.List.Elements.{Contains-append_cases}
use Rattle.wild_words.specs.Words.{HasBytesAt}
use Rattle.wild_words.proofs.ListLemmas.{Contains-here, Contains-there}
use Rattle.wild_words.proofs.OverlayLemmas.{HasBytesAt-inner}
use Rattle.wild_words.proofs.RecordLemmas.{HasBytesAt-left, HasBytesAt-right}
use Rattle.wild_relr.proofs.SpellLemmas.{word_bytes-append}
use Rattle.wild_types.specs.declared.part.Role.TheVariants as role
use Rattle.wild_slot.specs.declared.slot_parts.WordPart.TheVariants as words
use Rattle.wild_types.specs.FileRoles.{writes_slots}
use Rattle.wild_needs.specs.SlotShares.{storage_words}
use Rattle.wild_plan_rules.specs.SlotPlaces.{is_free_place}
use Rattle.wild_slots.specs.Order.{IsWritten}
use Rattle.wild_slots.specs.SlotPlaces.{IsLocatedAt, WordsArePlaced, SymbolIsPlaced}
use Rattle.wild_slots.proofs.Resolved.{has_resolution}
use Rattle.wild_slots.proofs.WalkLemmas.{Cut, Cut-from_contains}
use Rattle.wild_slots.proofs.OrderLemmas.{IsPlacedAfter, AreInOrder-from_test}
use Rattle.wild_slots.proofs.TableLemmas.{symbol_bytes, IsTable, got_table, block_table, stub_table, length-symbols, headless, headed}
use Rattle.wild_slots.proofs.BlockWordLemmas.{first_alone, none_in_block, begins, only_word}
use Rattle.wild_slots.proofs.PlaceLemmas.{no_block_words}
use Rattle.wild_slots.proofs.SymbolPlaces.{free_place_is}

-- ---- which file writes a symbol

record From {X Y : Type 0} (f : X → List Y) (xs : List X) (y : Y) : Type 0 where
  item : X
  listed : Contains xs item
  gives : Contains (f item) y

from : {X Y : Type 0} (f : X → List Y) (xs : List X) (y : Y) → Contains (flat_map f xs) y → From f xs y
from f [] y c = let l = c.1 in absurd (omega arith)
from f (x ∷ xs) y c =
    elim (Contains-append_cases (f x) (flat_map f xs) y c) [
      | inl here ↦ record { item = x; listed = Contains-here x xs; gives = here }
      | inr there ↦
          (let rest = from f xs y there in
          record { item = rest.item; listed = Contains-there rest.item x xs rest.listed; gives = rest.gives })
    ]

written : (l : Layout) (s : Symbol) → Contains (written_symbols l) s → IsWritten l s
written l s c =
    let g = from (group_symbols l) l.groups s c in
    let f = from (own_symbols l) g.item.files s g.gives in
    record { group = g.item; file = f.item; listed = g.listed; holds = f.listed; writes = writes f.item f.gives; own = f.gives }
  where
    writes : (f : File) → Contains (own_symbols l f) s → writes_slots f.role ≡ true
    writes f c =
        elim (cases_Bool (writes_slots f.role)) [
          | inl t ↦ t
          | inr n ↦ (let k = rw n at c in let lt = k.1 in absurd (omega arith))
        ]

-- ---- where bytes stand

pub IsLocatedAt-from : (l : Layout) (r : Role) (at k : ℕ) (bs : List ℕ) → at ≡ start_of l r + k → HasBytesAt (table_bytes l r) k bs → IsLocatedAt l r at bs
IsLocatedAt-from l r at k bs e s =
    let f = s.fits in
    let n : at - start_of l r ≡ k = omega (arith, e) in
    record {
      from = omega (arith, e);
      to = omega (arith, e, f);
      stands = let P : ℕ → Type 0 = λ (j : ℕ). HasBytesAt (table_bytes l r) j bs in subst P (sym n) s;
    }

-- bytes in bytes that stand
pub IsLocatedAt-inner : (l : Layout) (r : Role) (at p k : ℕ) (bs part : List ℕ) → IsLocatedAt l r at bs → p ≡ at + k → HasBytesAt bs k part → IsLocatedAt l r p part
IsLocatedAt-inner l r at p k bs part s e i =
    let a = s.from in
    IsLocatedAt-from l r p (at - start_of l r + k) part (omega (arith, a, e)) (HasBytesAt-inner (table_bytes l r) bs part (at - start_of l r) k s.stands i)

-- what a symbol gives stands behind what those before it give
stands_behind : (l : Layout) (r : Role) (head : List ℕ) (s : Symbol) (front back : List Symbol) (at : ℕ) → IsTable l r head → table_bytes l r ≡ head ++ flat_map (symbol_bytes l r) (written_symbols l) → written_symbols l ≡ front ++ s ∷ back → at ≡ start_of l r + length head + total (symbol_share l r) front → IsLocatedAt l r at (symbol_bytes l r s)
stands_behind l r head s front back at t e w a =
    let own = symbol_bytes l r s in
    let before = flat_map (symbol_bytes l r) front in
    let behind = flat_map (symbol_bytes l r) back in
    let n = length-symbols l r head front t in
    let cut : table_bytes l r ≡ head ++ (before ++ (own ++ behind)) = e ∙ ap (λ (ss : List Symbol). head ++ flat_map (symbol_bytes l r) ss) w ∙ ap (λ (bs : List ℕ). head ++ bs) (flat_map-append (symbol_bytes l r) front (s ∷ back)) in
    let there = HasBytesAt-right head (before ++ (own ++ behind)) own (length before + 0) (HasBytesAt-right before (own ++ behind) own 0 (HasBytesAt-left own behind)) in
    let P : List ℕ → Type 0 = λ (bs : List ℕ). HasBytesAt bs (length head + (length before + 0)) own in
    IsLocatedAt-from l r at (length head + (length before + 0)) own (omega (arith, a, n)) (subst P (sym cut) there)

-- ---- symbols

-- a symbol with slots: the symbols before it and behind it, and its places
pub record Found (l : Layout) (s : Symbol) (at : ℕ) : Type 0 where
  pub written : IsWritten l s
  pub some : 1 ≤ length l.groups
  pub cut : Cut (IsPlacedAfter l) [] (written_symbols l) s
  pub words : at ≡ (if begins_relr_got (slots_of l s).words then cut.here.free.block else cut.here.free.got)
  pub stub : (p : ℕ) → plt_of s ≡ Some p → p ≡ cut.here.free.stub

groups_there : {X Y : Type 0} (f : X → List Y) (xs : List X) (y : Y) → Contains (flat_map f xs) y → 1 ≤ length xs
groups_there f [] y c = let l = c.1 in absurd (omega arith)
groups_there f (x ∷ xs) y c = omega arith

pub found : (l : Layout) → HasSlotsInOrder l → (i at : ℕ) (s : Symbol) → slice_get l.symbols i ≡ Some s → got_of s ≡ Some at → Found l s at
found l h i at s e g =
    let order = AreInOrder-from_test l h.slots.placed in
    let c = order.listed i at s e g in
    let cut = Cut-from_contains (IsPlacedAfter l) [] (written_symbols l) s c order.each in
    let free = cut.here.free in
    let p = and_parts (is_free_place (if begins_relr_got (slots_of l s).words then free.block else free.got) (got_of s)) (is_free_place free.stub (plt_of s)) cut.here.next in
    record {
      written = written l s c;
      some = groups_there (group_symbols l) l.groups s c;
      cut = cut;
      words = free_place_is _ at (got_of s) p.0 g;
      stub = λ q k. free_place_is free.stub q (plt_of s) p.1 k;
    }

-- the only word of a symbol, one of the block
pub record Only (l : Layout) (s : Symbol) : Type 0 where
  pub value : ℕ
  pub is : (slots_of l s).words ≡ InRelrGot value ∷ []

pub only : (l : Layout) → HasSlotsInOrder l → (i at : ℕ) (s : Symbol) → slice_get l.symbols i ≡ Some s → got_of s ≡ Some at → begins_relr_got (slots_of l s).words ≡ true → Only l s
only l h i at s e g t =
    let b = begins (slots_of l s).words t in
    let own = holds_at HasItsFlags l.symbols i s e h.resolved in
    let second = (h.flags.resolved i s e (has_resolution s at g)).second in
    let rest = only_word l s at b.value b.rest own second g b.is in
    record { value = b.value; is = b.is ∙ ap (λ (ws : List SlotWord). InRelrGot b.value ∷ ws) rest }

block_stands : (l : Layout) → HasSlotsInOrder l → (i at : ℕ) (s : Symbol) → slice_get l.symbols i ≡ Some s → got_of s ≡ Some at → Found l s at → begins_relr_got (slots_of l s).words ≡ true → WordsArePlaced l s at true
block_stands l h i at s e g f t =
    let w = rw t at f.words in
    let p = f.cut.here.behind.block in (
      stands_behind l role.GotRelr [] s f.cut.before f.cut.after at (block_table l) (headless l role.GotRelr (block_table l)) f.cut.is (omega (arith, w, p)),
      ap (slot_words words.Got l.options.relr (slots_address s)) (only l h i at s e g t).is,
    )

-- words that are of no block
others_stand : (l : Layout) → HasSlotsInOrder l → (at : ℕ) (s : Symbol) → Found l s at → begins_relr_got (slots_of l s).words ≡ false → WordsArePlaced l s at false
others_stand l h at s f t =
    let w = rw t at f.words in
    let p = f.cut.here.behind.got in
    let n = length-word_bytes (header_words l) in (
      stands_behind l role.Got (word_bytes (header_words l)) s f.cut.before f.cut.after at (got_table l) (headed l role.Got (word_bytes (header_words l)) (got_table l) h.files f.some) f.cut.is (omega (arith, w, p, n)),
      no_block_words l.options.relr (slots_address s) (slots_of l s).words (none_in_block (slots_of l s).words t (first_alone l s)),
    )

pub stands : (l : Layout) → HasSlotsInOrder l → (i at : ℕ) (s : Symbol) → slice_get l.symbols i ≡ Some s → got_of s ≡ Some at → SymbolIsPlaced l s at
stands l h i at s e g =
    let f = found l h i at s e g in
    record {
      written = f.written;
      words = by_start f (begins_relr_got (slots_of l s).words) refl;
      stub = λ p k.
          let q = f.stub p k in
          let b = f.cut.here.behind.stub in
          stands_behind l role.PltGot [] s f.cut.before f.cut.after p (stub_table l) (headless l role.PltGot (stub_table l)) f.cut.is (omega (arith, q, b));
    }
  where
    by_start : Found l s at → (b : Bool) → begins_relr_got (slots_of l s).words ≡ b → WordsArePlaced l s at b
    by_start f true t = block_stands l h i at s e g f t
    by_start f false t = others_stand l h at s f t

-- ---- the pair that stands once

pub pair : (l : Layout) → HasSlotsInOrder l → 1 ≤ length l.groups → (at : ℕ) → l.tlsld ≡ Some at → IsLocatedAt l role.Got at (word_bytes (slot_words words.Got l.options.relr at (storage_words l)))
pair l h some at e =
    let place : at ≡ start_of l role.Got + 8 * l.got_header = h.slots.pair at e in
    let zeros = word_bytes (replicate l.got_header 0) in
    let own = word_bytes (slot_words words.Got l.options.relr at (storage_words l)) in
    let rest = flat_map (symbol_bytes l role.Got) (written_symbols l) in
    let head : word_bytes (header_words l) ≡ zeros ++ own = word_bytes-append (replicate l.got_header 0) _ ∙ ap (λ (o : Option ℕ). zeros ++ word_bytes (slot_words words.Got l.options.relr (unwrap_or o 0) (storage_words l))) e in
    let cut : table_bytes l role.Got ≡ zeros ++ (own ++ rest) = headed l role.Got (word_bytes (header_words l)) (got_table l) h.files some ∙ ap (λ (bs : List ℕ). bs ++ rest) head ∙ append_assoc zeros own rest in
    let n : length zeros ≡ 8 * l.got_header = length-word_bytes (replicate l.got_header 0) ∙ ap (λ (k : ℕ). 8 * k) (length-replicate l.got_header 0) in
    let Q : List ℕ → Type 0 = λ (bs : List ℕ). HasBytesAt bs (length zeros + 0) own in
    IsLocatedAt-from l role.Got at (length zeros + 0) own (omega (arith, place, n)) (subst Q (sym cut) (HasBytesAt-right zeros (own ++ rest) own 0 (HasBytesAt-left own rest)))
