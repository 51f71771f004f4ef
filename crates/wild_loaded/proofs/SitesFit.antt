-- The places of slots have 64 bits, and so have the words that pack a block of them.
use Rattle.wild_loaded.proofs.Common.{◌≡◌, ℕ, zero, suc, ◌-◌, ◌*◌, ◌^◌, ◌<◌, ◌≤◌, Bool, true, false, List, [], ◌∷◌, get_or, refl, arith, Option, Some, None, All, min, unwrap_or, if◌then◌else◌, ◌==◌, ◌||◌, All-nil, All-cons, All-head, All-tail, All-flat_map, File, Group, SlotWord, Resolution, Symbol, Layout, next, slots_address, own_symbols, slots_of, SymbolNumbers}
use Rattle.std.proofs.Math.Nat.{pow-le-pow_right}
use Rattle.wild_relr.specs.Laws.{IsWord}
use Rattle.wild_relr.specs.RunWords.{bitmaps, bitmap_count, block}
use Rattle.wild_types.specs.SymbolSlots.{resolved_got}
use Rattle.wild_types.proofs.FileLemmas.{All-own}
use Rattle.wild_layout.specs.Numbers.{ResolutionNumbers}
use Rattle.wild_loaded.proofs.SlotNumbers.{WordFits, words_fit}
use Rattle.wild_loaded.proofs.SlotSites.{SlotSite, sites_at, symbol_sites, file_sites, group_sites}

-- ---- sites

-- the place and the word have 64 bits
abbrev pub SiteFits : SlotSite → Type 0
SiteFits x = (x.at < 2 ^ 64) × WordFits x.word

sites_at_fit : (at : ℕ) (ws : List SlotWord) → at < 2 ^ 64 → All WordFits ws → All SiteFits (sites_at at ws)
sites_at_fit at [] low a = All-nil SiteFits
sites_at_fit at (w ∷ ws) low a = All-cons SiteFits (record { at = at; word = w }) (sites_at (next at) ws) (low, All-head WordFits w ws a) (sites_at_fit (next at) ws (omega arith) (All-tail WordFits w ws a))

-- where the slots of a symbol begin
pub slots_low : (s : Symbol) → SymbolNumbers s → slots_address s < 2 ^ 64
slots_low s n = by_resolution s.resolution n
  where
    by_place : (o : Option ℕ) → ((a : ℕ) → o ≡ Some a → a < 2 ^ 64) → unwrap_or o 0 < 2 ^ 64
    by_place None h = omega arith
    by_place (Some a) h = h a refl

    by_resolution : (o : Option Resolution) → ((r : Resolution) → o ≡ Some r → ResolutionNumbers r) → unwrap_or (resolved_got o) 0 < 2 ^ 64
    by_resolution None h = omega arith
    by_resolution (Some r) h = by_place r.got_address (h r refl).slots

pub sites_fit : (l : Layout) (f : File) → All SymbolNumbers l.symbols → All SiteFits (file_sites l f)
sites_fit l f numbers =
    let own = All-own SymbolNumbers l f numbers in
    All-flat_map SiteFits (symbol_sites l) (own_symbols l f) (λ k d b. sites_at_fit (slots_address (get_or (own_symbols l f) k d)) (slots_of l (get_or (own_symbols l f) k d)).words (slots_low (get_or (own_symbols l f) k d) (own k d b)) (words_fit l (get_or (own_symbols l f) k d) (own k d b)))

pub group_sites_fit : (l : Layout) (g : Group) → All SymbolNumbers l.symbols → All SiteFits (group_sites l g)
group_sites_fit l g numbers = All-flat_map SiteFits (file_sites l) g.files (λ k d b. sites_fit l (get_or g.files k d) numbers)

-- ---- blocks

bitmap_low : (k : ℕ) → 2 * 2 ^ min k 63 - 1 < 2 ^ 64
bitmap_low k =
    let le : 2 ^ min k 63 ≤ 2 ^ 63 = pow-le-pow_right {n = 2} (omega arith) {i = min k 63} {j = 63} (omega arith) in
    omega (arith, le)

bitmaps_fit : (c k : ℕ) → All IsWord (bitmaps c k)
unfolding bitmaps
bitmaps_fit zero k = All-nil IsWord
bitmaps_fit (suc c) k = All-cons IsWord (2 * 2 ^ min k 63 - 1) (bitmaps c (k - 63)) (bitmap_low k) (bitmaps_fit c (k - 63))

-- the words of a block whose base has 64 bits
pub block_fits : (base n : ℕ) → base < 2 ^ 64 → All IsWord (block base n)
unfolding block
block_fits base n low = by_test (base == 0 || n == 0)
  where
    by_test : (b : Bool) → All IsWord (if b then [] else base ∷ bitmaps (bitmap_count (n - 1)) (n - 1))
    by_test true = All-nil IsWord
    by_test false = All-cons IsWord base (bitmaps (bitmap_count (n - 1)) (n - 1)) low (bitmaps_fit (bitmap_count (n - 1)) (n - 1))
