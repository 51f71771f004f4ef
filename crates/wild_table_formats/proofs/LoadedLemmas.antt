-- What a loader finds in the tables.
use Rattle.std.proofs.Common.{◌≡◌, Some, ℕ, zero, suc, ◌+◌, ◌/◌, ◌%◌, ◌^◌, ◌<◌, inl, inr, List, [], ◌∷◌, ◌++◌, refl, sym, ap, ◌∙◌, arith}
use Rattle.std.specs.Prelude.{All}
use Rattle.std.proofs.lemmas.List.Elements.{All-head, All-tail}
use Rattle.std.proofs.lemmas.List.Sorted.{All-permutation}
use Rattle.wild_words.proofs.ListLemmas.{All-append-left, All-append-right}
use Rattle.wild_relr.specs.RunWords.{PiecesAreRecorded, places_of_pieces, words_of}
use Rattle.wild_table_formats.specs.EntryLaws.{LoadersAgree, PlacesAreLoaded}
use Rattle.wild_relr.specs.Places.{window, places_of, next_after, places_from, places}
use Rattle.wild_loader.specs.Places as loader
use Rattle.wild_relr.proofs.PlaceLemmas.{parity, window-even, window-odd, places_of-even, places_of-odd, next_after-even, next_after-odd}

marked-even : (m w k : ℕ) → w % 2 ≡ 0 → loader.marked m w (suc k) ≡ loader.marked ((m + 8) % 2 ^ 64) (w / 2) k
unfolding loader.marked
marked-even m w k h = rw h refl

marked-odd : (m w k : ℕ) → w % 2 ≡ 1 → loader.marked m w (suc k) ≡ m ∷ loader.marked ((m + 8) % 2 ^ 64) (w / 2) k
unfolding loader.marked
marked-odd m w k h = rw h refl

marked-window : (k next w m : ℕ) → m ≡ next % 2 ^ 64 → All (λ p. p < 2 ^ 64) (window k next w) → loader.marked m w k ≡ window k next w
unfolding loader.marked window
marked-window zero next w m e h = refl
marked-window (suc k) next w m e h =
    let step : (m + 8) % 2 ^ 64 ≡ (next + 8) % 2 ^ 64 = omega arith in
    elim (parity w) [
      | inl even ↦
          (let rest = rw (window-even k next w even) at h in
          marked-even m w k even ∙ marked-window k (next + 8) (w / 2) ((m + 8) % 2 ^ 64) step rest ∙ sym (window-even k next w even))
      | inr odd ↦
          (let both = rw (window-odd k next w odd) at h in
          let low : next < 2 ^ 64 = All-head (λ p. p < 2 ^ 64) next (window k (next + 8) (w / 2)) both in
          let rest = All-tail (λ p. p < 2 ^ 64) next (window k (next + 8) (w / 2)) both in
          let same : m ≡ next = omega arith in
          marked-odd m w k odd ∙ rw same (ap (λ (r : List ℕ). next ∷ r) (rw same at (marked-window k (next + 8) (w / 2) ((m + 8) % 2 ^ 64) step rest))) ∙ sym (window-odd k next w odd))
    ]

loaded-even : (m w : ℕ) (ws : List ℕ) → w % 2 ≡ 0 → loader.places_from m (w ∷ ws) ≡ w ∷ loader.places_from ((w + 8) % 2 ^ 64) ws
unfolding loader.places_from
loaded-even m w ws h = rw h refl

loaded-odd : (m w : ℕ) (ws : List ℕ) → w % 2 ≡ 1 → loader.places_from m (w ∷ ws) ≡ loader.marked m (w / 2) 63 ++ loader.places_from ((m + 504) % 2 ^ 64) ws
unfolding loader.places_from
loaded-odd m w ws h = rw h refl

places-split : (next w : ℕ) (ws : List ℕ) → places_from next (w ∷ ws) ≡ places_of next w ++ places_from (next_after next w) ws
unfolding places_from
places-split next w ws = refl

pub loaded-places : (ws : List ℕ) (next m : ℕ) → m ≡ next % 2 ^ 64 → All (λ p. p < 2 ^ 64) (places_from next ws) → loader.places_from m ws ≡ places_from next ws
unfolding loader.places_from places_from
loaded-places [] next m e h = refl
loaded-places (w ∷ ws) next m e h =
    let right = All-append-right (λ p. p < 2 ^ 64) (places_of next w) (places_from (next_after next w) ws) h in
    elim (parity w) [
      | inl even ↦
          (let n = next_after-even next w even in
          let again = loaded-places ws (w + 8) ((w + 8) % 2 ^ 64) refl (rw n at right) in
          let s : places_from next (w ∷ ws) ≡ w ∷ places_from (w + 8) ws = places-split next w ws ∙ rw (places_of-even next w even, n) refl in
          loaded-even m w ws even ∙ ap (λ (r : List ℕ). w ∷ r) again ∙ sym s)
      | inr odd ↦
          (let n = next_after-odd next w odd in
          let step : (m + 504) % 2 ^ 64 ≡ (next + 504) % 2 ^ 64 = omega arith in
          let again = loaded-places ws (next + 504) ((m + 504) % 2 ^ 64) step (rw n at right) in
          let o = places_of-odd next w odd in
          let left = All-append-left (λ p. p < 2 ^ 64) (places_of next w) (places_from (next_after next w) ws) h in
          let here = marked-window 63 next (w / 2) m e (rw o at left) in
          let s : places_from next (w ∷ ws) ≡ window 63 next (w / 2) ++ places_from (next + 504) ws = places-split next w ws ∙ rw (o, n) refl in
          loaded-odd m w ws odd ∙ rw (here, again) (sym s))
    ]

pub places_loaded : PiecesAreRecorded → LoadersAgree → PlacesAreLoaded
places_loaded recorded agree pieces even small apart =
    let same = recorded pieces even apart in
    let low = All-permutation (λ p. p < 2 ^ 64) (places_of_pieces pieces) (places (words_of pieces)) same small in
    rw (agree (words_of pieces) low) same
