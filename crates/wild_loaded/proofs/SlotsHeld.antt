-- The words and stubs of symbols in the memory of an image that no entry has changed.
use Rattle.wild_loaded.proofs.Common.{◌≡◌, ℕ, zero, suc, ◌+◌, ◌*◌, ◌^◌, ◌<◌, ◌≤◌, Bool, true, false, List, [], ◌∷◌, length, refl, sym, ap, ◌∙◌, arith, subst, Option, All, Some, None, unwrap_or, if◌then◌else◌, slice_get, All-contains, word, length-word, of_if, listed_at, Setting, SlotWord, Number, Address, InRelrGot, General, Plt, File, Group, Symbol, Layout, KeepsAll, is_executable, is_loaded_role, not_hollow_role, minus, setting_of, is_packed, got_of, slots_address, word_size, storage_at, storage_words, own_symbols, slots_of, NumbersFit, SymbolNumbers, IsLaidOut, World, IsLoadable, IsLegal, IsLocatedAt, PairIsPlaced, HasWholeSlots, IsWordStored, PartsAreStored, SlotsAreStored}
use Rattle.wild_words.proofs.RecordLemmas.{HasBytesAt-left, HasBytesAt-right}
use Rattle.wild_relr.specs.WriterState.{word_bytes}
use Rattle.wild_slot.specs.declared.slot_parts.WordPart.{WordPart}
use Rattle.wild_slot.specs.declared.slot_parts.WordPart.TheVariants as words
use Rattle.wild_types.specs.declared.part.Role.TheVariants as role
use Rattle.wild_slot.specs.Slots.{storage_pair}
use Rattle.wild_slot.specs.SlotParts.{word_of, slot_words}
use Rattle.wild_types.specs.SymbolSlots.{plt_of}
use Rattle.wild_layout.specs.SlotBytes.{stub_bytes}
use Rattle.wild_slots.specs.SlotPlaces.{part_of_word, role_of_words, WordIsPlaced, SlotsArePlaced, EachWordIsPlaced, StubsAreThere}
use Rattle.wild_loaded.specs.StoredTables.{IsStubStored}
use Rattle.wild_loaded.proofs.PartsHeld.{stands_held, stands_inner}
use Rattle.wild_loaded.proofs.SlotNumbers.{WordFits, own_module, words_fit, storage_fits}
use Rattle.wild_slot.specs.MachineStub.{stub_in}
use Rattle.wild_slot.proofs.StubLemmas.{length-stub_of}

-- what the crate below owes of slots
pub record SlotLaws : Type 0 where
  pub stand : SlotsArePlaced
  pub words : EachWordIsPlaced
  pub stubs : StubsAreThere
  pub pair : PairIsPlaced

-- ---- words

-- the number in the file is one of 64 bits
value_fits : (relr : Bool) (at v : ℕ) (d : SlotWord) → WordFits d → word_of (part_of_word d) relr at d ≡ Some v → v < 2 ^ 64
value_fits relr at v (Number n) fits e = (let is : n ≡ v = cc in subst (λ (k : ℕ). k < 2 ^ 64) is fits)
value_fits relr at v (InRelrGot a) fits e = (let is : a ≡ v = cc in subst (λ (k : ℕ). k < 2 ^ 64) is fits)
value_fits relr at v (General x) fits e = (let is : 0 ≡ v = cc in omega (arith, is))
value_fits relr at v (Plt x) fits e = (let is : 0 ≡ v = cc in omega (arith, is))
value_fits relr at v (Address a) fits e = by_test (is_packed relr at) e
  where
    by_test : (b : Bool) → Some (if b then a else 0) ≡ Some v → v < 2 ^ 64
    by_test true h = (let is : a ≡ v = cc in subst (λ (k : ℕ). k < 2 ^ 64) is fits)
    by_test false h = (let is : 0 ≡ v = cc in omega (arith, is))

role_loaded : (part : WordPart) → is_loaded_role (role_of_words part) ≡ true
role_loaded words.Got = refl
role_loaded words.RelrGot = refl

word_held : (l : Layout) (w : World) (at : ℕ) (d : SlotWord) → PartsAreStored → KeepsAll l → IsLoadable l.kind → IsLegal l w → IsLaidOut l → WordFits d → WordIsPlaced l at d → IsWordStored l w at d
word_held l w at d law keeps kind legal laid fits h =
    let n = length-word 8 h.value in
    let s = stands_held l w (role_of_words (part_of_word d)) at (word 8 h.value) law (role_loaded (part_of_word d)) (not_hollow_role l (role_of_words (part_of_word d)) keeps) kind legal laid (omega (arith, n)) h.stands in
    let ends = s.ends in
    record { value = h.value; is = h.is; fits = value_fits l.options.relr at h.value d fits h.is; stands = h.stands; ends = omega (arith, ends, n); held = s.held }

symbol_word : (l : Layout) (w : World) (i at k : ℕ) (s : Symbol) (d : SlotWord) → SlotLaws → PartsAreStored → KeepsAll l → IsLoadable l.kind → NumbersFit l → IsLegal l w → IsLaidOut l → HasWholeSlots l → slice_get l.symbols i ≡ Some s → got_of s ≡ Some at → slice_get (slots_of l s).words k ≡ Some d → IsWordStored l w (at + word_size * k) d
symbol_word l w i at k s d laws law keeps kind numbers legal laid slots there got here =
    let fits = words_fit l s (All-contains SymbolNumbers l.symbols s numbers.symbols (listed_at l.symbols i s there)) in
    word_held l w (at + word_size * k) d law keeps kind legal laid (All-contains WordFits (slots_of l s).words d fits (listed_at (slots_of l s).words k d here)) (laws.words l slots.order i at k s d there got here)

-- ---- stubs

-- no symbol with slots has a fault
pub whole_slots : (l : Layout) (i at : ℕ) (s : Symbol) → SlotsArePlaced → HasWholeSlots l → slice_get l.symbols i ≡ Some s → got_of s ≡ Some at → (slots_of l s).fault ≡ None
whole_slots l i at s law slots there got =
    let h = (law l slots.order i at s there got).written in
    let groups = All-contains (λ (g : Group). All (λ (f : File). All (λ (s : Symbol). (slots_of l s).fault ≡ None) (own_symbols l f)) g.files) l.groups h.group slots.whole h.listed in
    let files = All-contains (λ (f : File). All (λ (s : Symbol). (slots_of l s).fault ≡ None) (own_symbols l f)) h.group.files h.file groups h.holds in
    All-contains (λ (s : Symbol). (slots_of l s).fault ≡ None) (own_symbols l h.file) s files h.own

stub_is : (l : Layout) (s : Symbol) (at stub : ℕ) → got_of s ≡ Some at → plt_of s ≡ Some stub → (slots_of l s).has_stub ≡ true → stub_bytes l s ≡ (stub_in l at stub).bytes
stub_is l s at stub got plt has =
    ap (λ (b : Bool). if b then (stub_in l (slots_address s) (unwrap_or (plt_of s) 0)).bytes else []) has
    ∙ ap (λ (o : Option ℕ). (stub_in l (unwrap_or o 0) (unwrap_or (plt_of s) 0)).bytes) got
    ∙ ap (λ (o : Option ℕ). (stub_in l at (unwrap_or o 0)).bytes) plt

some_stub : (l : Layout) (at stub : ℕ) → 1 ≤ length (stub_in l at stub).bytes
some_stub l at stub = (let e = length-stub_of l.machine l.options.bti at stub in omega (arith, e))

stub_held : (l : Layout) (w : World) (i at stub : ℕ) (s : Symbol) → SlotLaws → PartsAreStored → KeepsAll l → IsLoadable l.kind → IsLegal l w → IsLaidOut l → HasWholeSlots l → slice_get l.symbols i ≡ Some s → got_of s ≡ Some at → plt_of s ≡ Some stub → IsStubStored l w at stub
stub_held l w i at stub s laws law keeps kind legal laid slots there got plt =
    let has = laws.stubs l slots.order i at stub s there got plt (whole_slots l i at s laws.stand slots there got) in
    let stands = subst (λ (bs : List ℕ). IsLocatedAt l role.PltGot stub bs) (stub_is l s at stub got plt has) ((laws.stand l slots.order i at s there got).stub stub plt) in
    record { stands = stands; held = (stands_held l w role.PltGot stub (stub_in l at stub).bytes law refl (not_hollow_role l role.PltGot keeps) kind legal laid (some_stub l at stub) stands).held }

-- ---- the pair of the output's own thread-local data

-- what the file has for the first of its words
abbrev IsFront : Layout → SlotWord → ℕ → Type 0
IsFront l v a = (at : ℕ) → IsLocatedAt l role.Got at (word 8 a) → WordIsPlaced l at v

-- two words, one behind the other
pair_is_placed : (l : Layout) (v : SlotWord) (at a b k : ℕ) (d : SlotWord) → IsFront l v a → IsLocatedAt l role.Got at (word_bytes (a ∷ b ∷ [])) → slice_get (v ∷ Number b ∷ []) k ≡ Some d → WordIsPlaced l (at + word_size * k) d
pair_is_placed l v at a b zero d front h e =
    let here = stands_inner l role.Got at 0 (word_bytes (a ∷ b ∷ [])) (word 8 a) h (HasBytesAt-left (word 8 a) (word_bytes (b ∷ []))) in
    let same : v ≡ d = cc in
    let P : SlotWord → Type 0 = λ x. WordIsPlaced l (at + word_size * 0) x in
    subst P same (front (at + word_size * 0) here)
pair_is_placed l v at a b (suc zero) d front h e =
    let n = length-word 8 a in
    let second = HasBytesAt-right (word 8 a) (word_bytes (b ∷ [])) (word 8 b) 0 (HasBytesAt-left (word 8 b) []) in
    let at_is : at + (length (word 8 a) + 0) ≡ at + word_size * 1 = omega (arith, n) in
    let back = subst (λ (x : ℕ). IsLocatedAt l role.Got x (word 8 b)) at_is (stands_inner l role.Got at (length (word 8 a) + 0) (word_bytes (a ∷ b ∷ [])) (word 8 b) h second) in
    let same : Number b ≡ d = cc in
    let P : SlotWord → Type 0 = λ x. WordIsPlaced l (at + word_size * 1) x in
    subst P same (record { value = b; is = refl; stands = back })
pair_is_placed l v at a b (suc (suc k)) d front h e = cc

-- the words of the pair: two numbers, or a word that an entry fills and 0
record IsPair (l : Layout) (at : ℕ) (ws : List SlotWord) : Type 0 where
  first : SlotWord
  value : ℕ
  second : ℕ
  are : ws ≡ first ∷ Number second ∷ []
  front : IsFront l first value
  file : slot_words words.Got l.options.relr at ws ≡ value ∷ second ∷ []

pair_of : (l : Layout) (at : ℕ) (s : Setting) → IsPair l at (storage_pair s)
pair_of l at s =
    of_if (IsPair l at) (is_executable s.kind) _ _
    (λ t. record { first = Number 1; value = 1; second = minus s.thread_pointer s.tls.start; are = refl; front = λ p h. record { value = 1; is = refl; stands = h }; file = refl })
    (λ f. record { first = own_module; value = 0; second = 0; are = refl; front = λ p h. record { value = 0; is = refl; stands = h }; file = refl })

storage_pair_of : (l : Layout) (at : ℕ) → l.tlsld ≡ Some at → IsPair l at (storage_words l)
storage_pair_of l at e =
    let are : storage_words l ≡ storage_pair (setting_of l) = ap (λ (o : Option ℕ). storage_at (setting_of l) o) e in
    subst (IsPair l at) (sym are) (pair_of l at (setting_of l))

pair_held : (l : Layout) (w : World) (at k : ℕ) (d : SlotWord) → SlotLaws → PartsAreStored → KeepsAll l → IsLoadable l.kind → IsLegal l w → IsLaidOut l → HasWholeSlots l → l.tlsld ≡ Some at → slice_get (storage_words l) k ≡ Some d → IsWordStored l w (at + word_size * k) d
pair_held l w at k d laws law keeps kind legal laid slots e here =
    let fits = All-contains WordFits (storage_words l) d (storage_fits l) (listed_at (storage_words l) k d here) in
    let pair = storage_pair_of l at e in
    let stands = subst (λ (xs : List ℕ). IsLocatedAt l role.Got at (word_bytes xs)) pair.file (laws.pair l slots.order laid.some_group at e) in
    let there = subst (λ (ws : List SlotWord). slice_get ws k ≡ Some d) pair.are here in
    word_held l w (at + word_size * k) d law keeps kind legal laid fits (pair_is_placed l pair.first at pair.value pair.second k d pair.front stands there)

pub slots_held : SlotLaws → PartsAreStored → SlotsAreStored
slots_held laws law = record {
  words = λ l w i at k s d keeps kind numbers legal laid slots there got here. symbol_word l w i at k s d laws law keeps kind numbers legal laid slots there got here;
  stubs = λ l w i at stub s keeps kind legal laid slots there got plt. stub_held l w i at stub s laws law keeps kind legal laid slots there got plt;
  pair = λ l w at k d keeps kind legal laid slots e here. pair_held l w at k d laws law keeps kind legal laid slots e here;
}
