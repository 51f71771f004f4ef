-- Slots and stubs in the memory of an image whose tables were applied.
use Rattle.wild_loaded.proofs.Common.{◌≡◌, ℕ, zero, suc, ◌+◌, ◌-◌, ◌*◌, ◌%◌, ◌^◌, ◌<◌, List, [], ◌∷◌, get_or, refl, ap, ◌∙◌, arith, subst, Option, Some, None, All, Contains, slice_get, unwrap_or, All-contains, Contains-append_left, Contains-append_right, slice_get-get_or, slice_get_within, word, number, number-word, length-word, listed_at, File, Group, SlotWord, Symbol, Layout, next, got_of, slots_address, own_symbols, slots_of, storage_words, SymbolNumbers, Contains-flat_map, Memory, World, Holds, byte_in, image_memory}
use Rattle.std.proofs.lemmas.Option.{get_or_from_slice_get}
use Rattle.wild_types.specs.declared.part.Role.TheVariants as role
use Rattle.wild_types.specs.SymbolSlots.{plt_of}
use Rattle.wild_loader.specs.Memory.{number_in}
use Rattle.wild_loader.specs.Laws.{NumbersAreRead}
use Rattle.wild_geometry.specs.Slots.{IsLoadedWord, HasSlots}
use Rattle.wild_loaded.proofs.SitesFit.{slots_low}
use Rattle.wild_loaded.proofs.SlotSites.{SlotSite, sites_at, symbol_sites, file_sites, group_sites, all_sites}
use Rattle.wild_loaded.proofs.SlotFillings.{IsPairWord, pair_words, pair_sites}
use Rattle.wild_loaded.proofs.TableRanges.{range_of_role, stands_inside}
use Rattle.wild_loaded.proofs.MadeChanges.{IsMovedImage, kept_at}
use Rattle.wild_loaded.proofs.OutsideTables.{stub_misses}
use Rattle.wild_loaded.proofs.SitesLoaded.{IsLoadedSite, site_after}
use Rattle.wild_slot.specs.MachineStub.{stub_in}

-- ---- words

number_held : (m : Memory) (a n : ℕ) → NumbersAreRead → n < 2 ^ 64 → Holds m a (word 8 n) → number_in m a 8 ≡ Some n
number_held m a n law fits held =
    let e = subst (λ (k : ℕ). number_in m a k ≡ Some (number (word 8 n))) (length-word 8 n) (law m a (word 8 n) held) in
    subst (λ (k : ℕ). number_in m a 8 ≡ Some k) (number-word 8 n fits) e

-- the site of a word
record SiteOfWord (at k : ℕ) (ws : List SlotWord) (d : SlotWord) : Type 0 where
  place : ℕ
  here : Contains (sites_at at ws) (record { at = place; word = d })
  is : place ≡ (at + 8 * k) % 2 ^ 64

site_there : (at k : ℕ) (ws : List SlotWord) (d : SlotWord) → at < 2 ^ 64 → slice_get ws k ≡ Some d → SiteOfWord at k ws d
site_there at k [] d low e = cc
site_there at zero (w ∷ ws) d low e =
    let same : w ≡ d = cc in
    record { place = at; here = (0, omega arith, ap (λ (x : SlotWord). record { at = at; word = x }) same); is = omega (arith, low) }
site_there at (suc k) (w ∷ ws) d low e =
    let r = site_there (next at) k ws d (omega arith) e in
    let p = r.is in
    record { place = r.place; here = (suc r.here.0, omega (arith, r.here.1), r.here.2); is = omega (arith, p) }

-- the word at a place
word_at : (w : World) (m : Memory) (at a : ℕ) (d : SlotWord) → NumbersAreRead → w.base + at ≡ a → IsLoadedSite w m at d → (x : ℕ) × (number_in m a 8 ≡ Some x) × IsLoadedWord w m a d x
word_at w m at a d law is s = subst (λ (b : ℕ). (x : ℕ) × (number_in m b 8 ≡ Some x) × IsLoadedWord w m b d x) is (s.value, number_held m (w.base + at) s.value law s.fits s.held, s.is)

word_loaded : (l : Layout) (w : World) (m : Memory) (i at k : ℕ) (s : Symbol) (d : SlotWord) → IsMovedImage l w m → slice_get l.symbols i ≡ Some s → got_of s ≡ Some at → slice_get (slots_of l s).words k ≡ Some d
    → (x : ℕ) × (number_in m (w.base + at + 8 * k) 8 ≡ Some x) × IsLoadedWord w m (w.base + at + 8 * k) d x
word_loaded l w m i at k s d h there got here =
    let first : slots_address s ≡ at = ap (λ (o : Option ℕ). unwrap_or o 0) got in
    let low = slots_low s (All-contains SymbolNumbers l.symbols s h.well.numbers.symbols (listed_at l.symbols i s there)) in
    let x = site_there (slots_address s) k (slots_of l s).words d low here in
    let written = (h.laws.stand l h.well.whole.order i at s there got).written in
    let y : SlotSite = record { at = x.place; word = d } in
    let file = Contains-flat_map (symbol_sites l) (own_symbols l written.file) s y written.own x.here in
    let group = Contains-flat_map (file_sites l) written.group.files written.file y written.holds file in
    let all = Contains-flat_map (group_sites l) l.groups written.group y written.listed group in
    let after = site_after l w m x.place d h (Contains-append_right (pair_sites l) (all_sites l) y all) (λ a e. all) in
    let ends = (h.laws.filled.slots.stored.words l w i at k s d h.well.keeps h.well.kind h.well.numbers h.well.legal h.well.laid h.well.whole there got here).ends in
    let is = x.is in
    word_at w m x.place (w.base + at + 8 * k) d h.laws.filled.changes.read (omega (arith, is, first, ends)) after

-- ---- stubs

stub_loaded : (l : Layout) (w : World) (m : Memory) (i at stub : ℕ) (s : Symbol) → IsMovedImage l w m → slice_get l.symbols i ≡ Some s → got_of s ≡ Some at → plt_of s ≡ Some stub → Holds m (w.base + stub) (stub_in l at stub).bytes
stub_loaded l w m i at stub s h there got plt = λ k lt.
    let b = h.laws.filled.slots.stored.stubs l w i at stub s h.well.keeps h.well.kind h.well.legal h.well.laid h.well.whole there got plt in
    let n = stands_inside l role.PltGot stub (stub_in l at stub).bytes refl h.well.laid b.stands in
    let from = n.0 in
    let to = n.1 in
    let start = (range_of_role l role.PltGot).address in
    let same = kept_at l w m (start + (stub + k - start)) h (stub_misses l w m (stub + k - start) h (omega (arith, from, to, lt))) in
    let e : w.base + (start + (stub + k - start)) ≡ w.base + stub + k = omega (arith, from) in
    subst (λ (a : ℕ). byte_in m a ≡ byte_in (image_memory l w) a) e same ∙ b.held k lt

-- ---- the pair of the output's own thread-local data

pair_loaded : (l : Layout) (w : World) (m : Memory) (at k : ℕ) (d : SlotWord) → IsMovedImage l w m → l.tlsld ≡ Some at → slice_get (storage_words l) k ≡ Some d → (x : ℕ) × (number_in m (w.base + at + 8 * k) 8 ≡ Some x) × IsLoadedWord w m (w.base + at + 8 * k) d x
pair_loaded l w m at k d h e here =
    let first : unwrap_or l.tlsld 0 ≡ at = ap (λ (o : Option ℕ). unwrap_or o 0) e in
    let s = h.laws.filled.slots.stored.pair l w at k d h.well.keeps h.well.kind h.well.legal h.well.laid h.well.whole e here in
    let ends = s.ends in
    let x = site_there (unwrap_or l.tlsld 0) k (storage_words l) d (omega (arith, first, ends)) here in
    let is = x.is in
    let y : SlotSite = record { at = x.place; word = d } in
    let own = All-contains IsPairWord (storage_words l) d (pair_words l) (k, slice_get_within (storage_words l) k d here, get_or_from_slice_get (storage_words l) k d d here) in
    let after = site_after l w m x.place d h (Contains-append_left (pair_sites l) (all_sites l) y x.here) (λ a b. absurd (subst IsPairWord b own)) in
    word_at w m x.place (w.base + at + 8 * k) d h.laws.filled.changes.read (omega (arith, is, first, ends)) after

-- ---- all of them

-- no symbol with slots has a fault
slots_whole : (l : Layout) (w : World) (m : Memory) (i at : ℕ) (s : Symbol) → IsMovedImage l w m → slice_get l.symbols i ≡ Some s → got_of s ≡ Some at → (slots_of l s).fault ≡ None
slots_whole l w m i at s h there got =
    let b = (h.laws.stand l h.well.whole.order i at s there got).written in
    let groups = All-contains (λ (g : Group). All (λ (f : File). All (λ (s : Symbol). (slots_of l s).fault ≡ None) (own_symbols l f)) g.files) l.groups b.group h.well.whole.whole b.listed in
    let files = All-contains (λ (f : File). All (λ (s : Symbol). (slots_of l s).fault ≡ None) (own_symbols l f)) b.group.files b.file groups b.holds in
    All-contains (λ (s : Symbol). (slots_of l s).fault ≡ None) (own_symbols l b.file) s files b.own

pub slots_loaded : (l : Layout) (w : World) (m : Memory) → IsMovedImage l w m → HasSlots l w m
slots_loaded l w m h = record {
  symbols = λ i at s there got. record {
    whole = slots_whole l w m i at s h there got;
    words = λ k d lt. word_loaded l w m i at k s (get_or (slots_of l s).words k d) h there got (slice_get-get_or (slots_of l s).words k d lt);
    stub = λ p plt. stub_loaded l w m i at p s h there got plt;
  };
  pair = λ at e. (λ k d lt. pair_loaded l w m at k (get_or (storage_words l) k d) h e (slice_get-get_or (storage_words l) k d lt));
}
