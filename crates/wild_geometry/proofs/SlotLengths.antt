-- How long it is what slots and stubs give to the parts.
use Rattle.wild_geometry.proofs.Common.{◌≡◌, ℕ, ◌+◌, ◌*◌, inl, inr, List, [], ◌∷◌, length, flat_map, refl, ◌∙◌, arith, if◌then◌else◌, cases_Bool, length-append, Role, File, Group, Symbol, Layout, total, slot_bytes, header_bytes}
use Rattle.wild_records.specs.Relocations.{rela_size}
use Rattle.wild_relr.specs.WriterState.{word_bytes}
use Rattle.wild_relr.proofs.SpellLemmas.{length-word_bytes}
use Rattle.wild_types.specs.declared.part.Role.TheVariants as role
use Rattle.wild_slot.specs.declared.slot_parts.WordPart.{WordPart}
use Rattle.wild_slot.specs.declared.slot_parts.WordPart.TheVariants as words
use Rattle.wild_slot.specs.declared.slot_parts.EntryPart.{EntryPart}
use Rattle.wild_slot.specs.declared.slot_parts.EntryPart.TheVariants as entries
use Rattle.wild_needs.specs.SlotShares.{word_size, stub_size, words_in, entries_in, header_words, block_words, slot_share, header_share, relr_got_share}
use Rattle.wild_types.specs.FileSymbols.{own_symbols}
use Rattle.wild_types.proofs.ListLemmas.{total-none}
use Rattle.wild_slot.specs.SymbolWords.{slots_of}
use Rattle.wild_table_formats.specs.RelativeEntries.{rela_bytes}
use Rattle.wild_table_formats.proofs.EntryLemmas.{length-rela_bytes}
use Rattle.wild_layout.specs.SlotBytes.{symbol_entries, stub_bytes, relr_slots_in, slot_words_of, slot_entries_of, stubs_of, flat_places_of, storage_entries, block_bytes}
use Rattle.wild_slot.proofs.StubLemmas.{length-stub_of}

-- a multiple of the length of lists joined end to end
multiple_joined : {X Y : Type 0} (m : ℕ → ℕ) → m 0 ≡ 0 → ((a b : ℕ) → m (a + b) ≡ m a + m b) → (f : X → List Y) (xs : List X) → m (length (flat_map f xs)) ≡ total (λ (x : X). m (length (f x))) xs
multiple_joined m zero sum f [] = zero
multiple_joined m zero sum f (x ∷ xs) =
    let a = length-append (f x) (flat_map f xs) in
    let b = multiple_joined m zero sum f xs in
    let c = sum (length (f x)) (length (flat_map f xs)) in
    rw a (omega arith)

-- ---- by file

words_length : (part : WordPart) (l : Layout) (f : File) → length (word_bytes (slot_words_of part l f)) ≡ total (λ (s : Symbol). word_size * length (words_in part l s)) (own_symbols l f)
unfolding slot_words_of
words_length part l f = length-word_bytes (flat_map (words_in part l) (own_symbols l f)) ∙ multiple_joined (λ n. 8 * n) refl (λ a b. omega arith) (words_in part l) (own_symbols l f)

entries_length : (part : EntryPart) (l : Layout) (f : File) → length (rela_bytes (slot_entries_of part l f)) ≡ total (λ (s : Symbol). rela_size * entries_in part l s) (own_symbols l f)
unfolding slot_entries_of
entries_length part l f = length-rela_bytes (flat_map (symbol_entries part l) (own_symbols l f)) ∙ multiple_joined (λ n. 24 * n) refl (λ a b. omega arith) (symbol_entries part l) (own_symbols l f)

flat_length : (l : Layout) (f : File) → length (word_bytes (flat_places_of l f)) ≡ total (λ (s : Symbol). word_size * length (relr_slots_in l s)) (own_symbols l f)
unfolding flat_places_of
flat_length l f = length-word_bytes (flat_map (relr_slots_in l) (own_symbols l f)) ∙ multiple_joined (λ n. 8 * n) refl (λ a b. omega arith) (relr_slots_in l) (own_symbols l f)

stub_length : (l : Layout) (s : Symbol) → length (stub_bytes l s) ≡ (if (slots_of l s).has_stub then stub_size else 0)
stub_length l s =
    elim (cases_Bool (slots_of l s).has_stub) [
      | inl t ↦ rw t (length-stub_of l.machine l.options.bti _ _)
      | inr f ↦ rw f refl
    ]

stubs_length : (l : Layout) (f : File) → length (stubs_of l f) ≡ total (λ (s : Symbol). if (slots_of l s).has_stub then stub_size else 0) (own_symbols l f)
unfolding stubs_of
stubs_length l f = each (own_symbols l f)
  where
    each : (ss : List Symbol) → length (flat_map (stub_bytes l) ss) ≡ total (λ (s : Symbol). if (slots_of l s).has_stub then stub_size else 0) ss
    each [] = refl
    each (s ∷ ss) =
        let a = length-append (stub_bytes l s) (flat_map (stub_bytes l) ss) in
        let b = stub_length l s in
        let c = each ss in
        omega arith

-- what a file's slots and stubs give to a part is as long as their share
pub slot_length : (l : Layout) (r : Role) (f : File) → length (slot_bytes l r f) ≡ slot_share l r f
unfolding slot_share
slot_length l role.Got f = words_length words.Got l f
slot_length l role.GotRelr f = words_length words.RelrGot l f
slot_length l role.PltGot f = stubs_length l f
slot_length l role.RelaPlt f = entries_length entries.Plt l f
slot_length l role.RelaDynRelative f = entries_length entries.Relative l f
slot_length l role.RelaDynGeneral f = entries_length entries.General l f
slot_length l role.RelrDyn f = flat_length l f
slot_length l other f = nothing
  where
    nothing : 0 ≡ total (λ (s : Symbol). 0) (own_symbols l f)
    nothing = let e = total-none (λ (s : Symbol). 0) (own_symbols l f) (λ s. refl) in omega arith

-- ---- what stands once, and blocks

pub header_length : (l : Layout) (r : Role) → length (header_bytes l r) ≡ header_share l r
header_length l role.Got = length-word_bytes (header_words l)
header_length l role.RelaDynGeneral = length-rela_bytes (storage_entries l)
header_length l other = refl

pub block_length : (l : Layout) (r : Role) (g : Group) → length (block_bytes l r g) ≡ relr_got_share l r g
block_length l role.RelrDyn g = length-word_bytes (block_words l g)
block_length l other g = refl
