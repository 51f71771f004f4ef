-- Laws of what slots and stubs give to the parts.
use Rattle.std.proofs.Common.{◌≡◌, ℕ, suc, ◌-◌, ◌*◌, ◌^◌, ◌<◌, ◌≤◌, ◌==◌, inl, inr, min, List, [], ◌∷◌, ◌++◌, length, take, refl, sym, ap, ◌∙◌, subst, arith}
use Rattle.std.specs.Prelude.{replicate, Option, Some, None, Result, Ok, Err, OnOk}
use Rattle.std.specs.List.{flat_map}
use Rattle.std.proofs.lemmas.Bool.{cases_Bool, ne_eqb}
use Rattle.std.proofs.lemmas.List.{append-nil, append_assoc}
use Rattle.wild_words.specs.Words.{word}
use Rattle.wild_words.proofs.ListLemmas.{flat_map-flat_map}
use Rattle.wild_relr.specs.RunWords.{bitmaps, bitmap_count, block}
use Rattle.wild_relr.specs.WriterState.{word_bytes}
use Rattle.wild_types.specs.declared.file.File.{File}
use Rattle.wild_types.specs.declared.layout.Layout.{Layout}
use Rattle.wild_types.specs.declared.part.Role.{Role}
use Rattle.wild_types.specs.declared.part.Role.TheVariants as role
use Rattle.wild_slot.specs.declared.slot_parts.WordPart.{WordPart}
use Rattle.wild_slot.specs.declared.slot_parts.WordPart.TheVariants as words
use Rattle.wild_slot.specs.declared.slot_parts.EntryPart.{EntryPart}
use Rattle.wild_slot.specs.declared.slot_parts.EntryPart.TheVariants as entries
use Rattle.wild_types.specs.FileSymbols.{own_symbols}
use Rattle.wild_needs.specs.SlotShares.{words_in}
use Rattle.wild_table_formats.specs.RelativeEntries.{rela_bytes}
use Rattle.wild_layout.specs.SlotBytes.{symbol_entries, relr_slots_in, slot_words_of, slot_entries_of, stubs_of, flat_places_of, slot_bytes}
use Rattle.wild_contents.specs.FileTables.{slot_part, symbol_slot_bytes}
use Rattle.wild_contents.specs.declared.slots.SlotPart.{SlotPart}
use Rattle.wild_contents.specs.declared.slots.SlotPart.TheVariants as parts
use Rattle.wild_contents.proofs.FileTableLemmas.{none_added}

-- ---- the symbols of a file

words_joined : (part : WordPart) (l : Layout) (f : File) → word_bytes (slot_words_of part l f) ≡ flat_map (symbol_slot_bytes (parts.Words part) l) (own_symbols l f)
unfolding slot_words_of symbol_slot_bytes
words_joined part l f = sym (sym (flat_map-flat_map _ (words_in part l) (own_symbols l f)))

entries_joined : (part : EntryPart) (l : Layout) (f : File) → rela_bytes (slot_entries_of part l f) ≡ flat_map (symbol_slot_bytes (parts.Entries part) l) (own_symbols l f)
unfolding slot_entries_of symbol_slot_bytes
entries_joined part l f = sym (sym (flat_map-flat_map _ (symbol_entries part l) (own_symbols l f)))

places_joined : (l : Layout) (f : File) → word_bytes (flat_places_of l f) ≡ flat_map (symbol_slot_bytes parts.Places l) (own_symbols l f)
unfolding flat_places_of symbol_slot_bytes
places_joined l f = sym (sym (flat_map-flat_map _ (relr_slots_in l) (own_symbols l f)))

stubs_joined : (l : Layout) (f : File) → stubs_of l f ≡ flat_map (symbol_slot_bytes parts.Stubs l) (own_symbols l f)
unfolding stubs_of symbol_slot_bytes
stubs_joined l f = refl

found : (l : Layout) (f : File) (p q : SlotPart) (bs : List ℕ) → Some p ≡ Some q → bs ≡ flat_map (symbol_slot_bytes p l) (own_symbols l f) → bs ≡ flat_map (symbol_slot_bytes q l) (own_symbols l f)
found l f p q bs e is = let same : p ≡ q = cc in subst (λ (x : SlotPart). bs ≡ flat_map (symbol_slot_bytes x l) (own_symbols l f)) same is

-- what a file gives to the part of a role, symbol by symbol
slots_found : (l : Layout) (r : Role) (f : File) (p : SlotPart) → slot_part r ≡ Some p → slot_bytes l r f ≡ flat_map (symbol_slot_bytes p l) (own_symbols l f)
slots_found l role.Got f p e = found l f (parts.Words words.Got) p _ e (words_joined words.Got l f)
slots_found l role.GotRelr f p e = found l f (parts.Words words.RelrGot) p _ e (words_joined words.RelrGot l f)
slots_found l role.PltGot f p e = found l f parts.Stubs p _ e (stubs_joined l f)
slots_found l role.RelaPlt f p e = found l f (parts.Entries entries.Plt) p _ e (entries_joined entries.Plt l f)
slots_found l role.RelaDynRelative f p e = found l f (parts.Entries entries.Relative) p _ e (entries_joined entries.Relative l f)
slots_found l role.RelaDynGeneral f p e = found l f (parts.Entries entries.General) p _ e (entries_joined entries.General l f)
slots_found l role.RelrDyn f p e = found l f parts.Places p _ e (places_joined l f)
slots_found l other f p e = cc

no_slots_found : (l : Layout) (r : Role) (f : File) → slot_part r ≡ None → slot_bytes l r f ≡ []
no_slots_found l role.Got f e = cc
no_slots_found l role.GotRelr f e = cc
no_slots_found l role.PltGot f e = cc
no_slots_found l role.RelaPlt f e = cc
no_slots_found l role.RelaDynRelative f e = cc
no_slots_found l role.RelaDynGeneral f e = cc
no_slots_found l role.RelrDyn f e = cc
no_slots_found l other f e = refl

pub some_slots : {E : Type 0} (result : Result (Unit {0}) E) (l : Layout) (r : Role) (f : File) (p : SlotPart) (bs now : List ℕ) → slot_part r ≡ Some p → OnOk result (now ≡ bs ++ flat_map (symbol_slot_bytes p l) (own_symbols l f)) → OnOk result (now ≡ bs ++ slot_bytes l r f)
some_slots (Ok u) l r f p bs now e is = is ∙ ap (λ (ys : List ℕ). bs ++ ys) (sym (slots_found l r f p e))
some_slots (Err i) l r f p bs now e is = is

pub none_of_slots : (l : Layout) (r : Role) (f : File) (bs : List ℕ) → slot_part r ≡ None → bs ≡ bs ++ slot_bytes l r f
none_of_slots l r f bs e = none_added bs (slot_bytes l r f) (no_slots_found l r f e)

pub ruleset slots_joined = (some_slots, none_of_slots)

-- ---- words, one after another

-- the next word of some, where what is to come is the rest
pub word_next : (now next whole : List ℕ) (w : ℕ) (ws rest : List ℕ) → ws ≡ w ∷ rest → now ++ word_bytes ws ≡ whole → next ≡ now ++ word_bytes (w ∷ []) → next ++ word_bytes rest ≡ whole
word_next now next whole w ws rest cons before step =
    ap (λ (ys : List ℕ). ys ++ word_bytes rest) step ∙ append_assoc now (word_bytes (w ∷ [])) (word_bytes rest)
    ∙ ap (λ (ys : List ℕ). now ++ (ys ++ word_bytes rest)) (append-nil (word 8 w))
    ∙ ap (λ (vs : List ℕ). now ++ word_bytes vs) (sym cons) ∙ before

-- no word is to come
pub words_end : (now whole ws : List ℕ) → ws ≡ [] → now ++ word_bytes ws ≡ whole → now ≡ whole
words_end now whole ws none all = sym (append-nil now) ∙ ap (λ (vs : List ℕ). now ++ word_bytes vs) (sym none) ∙ all

pub one_zero : (n m : ℕ) → n ≡ suc m → replicate {A = ℕ} n 0 ≡ 0 ∷ replicate {A = ℕ} m 0
one_zero n m e = rw e refl

-- ---- bitmap words

-- one word more, of the next 63 slots
next_bitmap : (k c d : ℕ) → c ≡ suc d → bitmaps c k ≡ (2 * 2 ^ min k 63 - 1) ∷ bitmaps d (k - 63)
unfolding bitmaps
next_bitmap k c d e = rw e refl

pub bitmaps_next : (k : ℕ) → 0 < k → bitmaps (bitmap_count k) k ≡ (2 * 2 ^ min k 63 - 1) ∷ bitmaps (bitmap_count (k - 63)) (k - 63)
bitmaps_next k some = next_bitmap k (bitmap_count k) (bitmap_count (k - 63)) (omega (arith, some))

pub bitmaps_none : (k : ℕ) → k ≡ 0 → bitmaps (bitmap_count k) k ≡ []
unfolding bitmaps
bitmaps_none k e = rw e refl

-- ---- blocks

pub no_base : (base n : ℕ) → base ≡ 0 → block base n ≡ []
unfolding block
no_base base n e = rw e refl

pub no_slots : (base n : ℕ) → n ≡ 0 → block base n ≡ []
unfolding block
no_slots base n e =
    elim (cases_Bool (base == 0)) [
      | inl t ↦ rw (e, t) refl
      | inr f ↦ rw (e, f) refl
    ]

slots_of_block : (base n : ℕ) → (base ≡ 0 → ⊥) → (n ≡ 0 → ⊥) → block base n ≡ base ∷ bitmaps (bitmap_count (n - 1)) (n - 1)
unfolding block
slots_of_block base n h k = let b = ne_eqb base 0 h in let c = ne_eqb n 0 k in rw (b, c) refl

-- the address of a block and its bitmap words, one behind the other
pub block_added : (old now next : List ℕ) (base n : ℕ) → (base ≡ 0 → ⊥) → (n ≡ 0 → ⊥) → now ≡ old ++ word_bytes (base ∷ []) → next ≡ now ++ word_bytes (bitmaps (bitmap_count (n - 1)) (n - 1)) → next ≡ old ++ word_bytes (block base n)
block_added old now next base n h k first rest = rest ∙ word_next old now (old ++ word_bytes (block base n)) base (block base n) (bitmaps (bitmap_count (n - 1)) (n - 1)) (slots_of_block base n h k) refl first
