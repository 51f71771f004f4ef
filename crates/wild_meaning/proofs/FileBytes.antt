-- Memory that has the file bytes of segments.
use Rattle.wild_meaning.proofs.Common.{◌≡◌, ℕ, ◌+◌, ◌-◌, ◌<◌, ◌≤◌, List, [], ◌∷◌, length, take, drop, get_or, sym, ap, ◌∙◌, subst, arith, All, Some, slice_index, All-contains, pt_load, Segment, Layout, Memory, byte_in, bytes_in}
use Rattle.std.proofs.lemmas.List.{get_or-take, get_or-drop}
use Rattle.wild_words.specs.Words.{HasBytesAt}
use Rattle.wild_meaning.specs.Unfilled.{IsFileByte}
use Rattle.wild_meaning.proofs.Read.{held_from}

-- the file bytes of a segment, which memory has
pub record HasFileBytesOf (m : Memory) (base : ℕ) (image : List ℕ) (g : Segment) : Type 0 where
  pub content : List ℕ
  pub stands : take g.file_size (drop g.offset image) ≡ content
  pub size : length content ≡ g.file_size
  pub held : bytes_in m (base + g.address) (length content) ≡ Some content

-- this is so for a loaded one
abbrev pub HasLoadedBytes : Memory → ℕ → List ℕ → Segment → Type 0
HasLoadedBytes m base image g = g.kind ≡ pt_load → HasFileBytesOf m base image g

byte_of_segment : (m : Memory) (base a b : ℕ) (image : List ℕ) (g : Segment) → HasFileBytesOf m base image g → g.address ≤ a → a < g.address + g.file_size → HasBytesAt image (g.offset + (a - g.address)) (b ∷ []) → byte_in m (base + a) ≡ Some b
byte_of_segment m base a b image g h from within given =
    let size = h.size in
    let k = a - g.address in
    let low : k < g.file_size = omega (arith, from, within) in
    let lt : k < length h.content = omega (arith, size, from, within) in
    let one : slice_index image (g.offset + k + 0) ≡ b = given.same 0 (omega arith) in
    let same : g.offset + k ≡ g.offset + k + 0 = omega arith in
    let there : get_or h.content k 0 ≡ get_or image (g.offset + k) 0 = ap (λ (xs : List ℕ). get_or xs k 0) (sym h.stands) ∙ get_or-take g.file_size (drop g.offset image) k 0 low ∙ get_or-drop g.offset image k 0 in
    let is : slice_index h.content k ≡ b = there ∙ ap (λ (n : ℕ). slice_index image n) same ∙ one in
    let place : base + g.address + k ≡ base + a = omega (arith, from) in
    subst (λ (x : ℕ). byte_in m x ≡ Some b) place (held_from m (base + g.address) h.content h.held k lt ∙ ap (λ (n : ℕ). Some n) is)

-- so memory has each byte of the file
pub file_byte_held : (l : Layout) (m : Memory) (base a b : ℕ) (image : List ℕ) → All (HasLoadedBytes m base image) l.segments → IsFileByte l image a b → byte_in m (base + a) ≡ Some b
file_byte_held l m base a b image all h = byte_of_segment m base a b image h.segment (All-contains (HasLoadedBytes m base image) l.segments h.segment all h.listed h.loaded) h.from h.within h.given
