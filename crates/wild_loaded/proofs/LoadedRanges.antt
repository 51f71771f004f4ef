-- Runs of bytes of the image that segments carry to their addresses: where the file shares no byte, memory shares none.
use Rattle.wild_loaded.proofs.Common.{not_partial, ◌≡◌, ℕ, ◌+◌, ◌-◌, ◌<◌, ◌≤◌, ◌⊎◌, inl, inr, length, get_or, sym, ap, ◌∙◌, arith, subst, Contains, cases_lt, All-contains, get_or_default, pt_load, Segment, Layout, image_size, SegmentLoads, CarriesByte, IsLaidOut, IsPastFileBytes, IsLoadable}
use Rattle.wild_layout.specs.Loadable.{Ascends}
use Rattle.wild_loaded.proofs.Fillings.{Filling, Misses, DoNotOverlap}

-- ---- ranges of bytes that segments carry

-- where a range of bytes is in memory and in the file
pub record LoadedRange : Type 0 where
  pub address : ℕ
  pub offset : ℕ
  pub size : ℕ

-- each of its bytes is carried
abbrev pub IsCarriedRange : Layout → LoadedRange → Type 0
IsCarriedRange l h = (k : ℕ) → k < h.size → (g : Segment) × CarriesByte l g (h.offset + k) (h.address + k)

-- the runs share no byte of the file
abbrev pub AreDisjointRanges : LoadedRange → LoadedRange → Type 0
AreDisjointRanges h i = (h.offset + h.size ≤ i.offset) ⊎ (i.offset + i.size ≤ h.offset)

pub disjoint_ranges_flip : (h i : LoadedRange) → AreDisjointRanges h i → AreDisjointRanges i h
disjoint_ranges_flip h i (inl le) = inr le
disjoint_ranges_flip h i (inr le) = inl le

-- the bytes of a filling lie in the run
pub record LiesIn (h : LoadedRange) (x : Filling) : Type 0 where
  pub from : h.address ≤ x.entry.offset
  pub to : x.entry.offset + x.width ≤ h.address + h.size

-- ---- segments

-- an address lies in one loaded segment at most
one_loaded : (l : Layout) (g h : Segment) (a : ℕ) → IsLoadable l.kind → IsLaidOut l → Contains l.segments g → Contains l.segments h → g.kind ≡ pt_load → h.kind ≡ pt_load → g.address ≤ a → a < g.address + g.mem_size → h.address ≤ a → a < h.address + h.mem_size → g ≡ h
one_loaded l g h a kind laid cg ch kg kh fg tg fh th =
    elim (cases_lt cg.0 ch.0) [
      | inl lt ↦ absurd (let e = ascending g h cg.0 ch.0 cg.2 ch.2 lt ch.1 kg kh in omega (arith, e, tg, fh))
      | inr ge ↦ elim (cases_lt ch.0 cg.0) [
        | inl lt ↦ absurd (let e = ascending h g ch.0 cg.0 ch.2 cg.2 lt cg.1 kh kg in omega (arith, e, th, fg))
        | inr le ↦ sym cg.2 ∙ get_or_default l.segments cg.0 g h cg.1 ∙ ap (λ (k : ℕ). get_or l.segments k h) (omega (arith, ge, le)) ∙ ch.2
      ]
    ]
  where
    ascending : (g h : Segment) (i j : ℕ) → get_or l.segments i g ≡ g → get_or l.segments j h ≡ h → i < j → j < length l.segments → g.kind ≡ pt_load → h.kind ≡ pt_load → g.address + g.mem_size ≤ h.address
    ascending g h i j eg eh lt within kg kh =
        let a = (laid.loadable (not_partial l.kind kind)).ascend i j g lt within in
        let eh' : get_or l.segments j g ≡ h = get_or_default l.segments j g h within ∙ eh in
        subst (λ (x : Segment). Ascends x h) eg (subst (λ (y : Segment). Ascends (get_or l.segments i g) y) eh' a) kg kh

-- the memory of a loaded segment has its file bytes
file_loaded : (l : Layout) (g : Segment) (a : ℕ) → IsLoadable l.kind → IsLaidOut l → Contains l.segments g → g.kind ≡ pt_load → a < g.address + g.file_size → a < g.address + g.mem_size
file_loaded l g a kind laid c k lt = let sizes = (All-contains (SegmentLoads (image_size l)) l.segments g (laid.loadable (not_partial l.kind kind)).each c).sizes k in omega (arith, sizes, lt)

-- a byte in memory is one of the file
one_offset : (l : Layout) (g h : Segment) (o p a : ℕ) → IsLoadable l.kind → IsLaidOut l → CarriesByte l g o a → CarriesByte l h p a → o ≡ p
one_offset l g h o p a kind laid x y =
    let same = one_loaded l g h a kind laid x.listed y.listed x.loaded y.loaded x.from (file_loaded l g a kind laid x.listed x.loaded x.to) y.from (file_loaded l h a kind laid y.listed y.loaded y.to) in
    x.distance ∙ ap (λ (s : Segment). s.offset + (a - s.address)) same ∙ sym y.distance

-- bytes of two runs have different addresses
pub addresses_differ : (l : Layout) (h i : LoadedRange) (k j : ℕ) → IsLoadable l.kind → IsLaidOut l → IsCarriedRange l h → IsCarriedRange l i → AreDisjointRanges h i → k < h.size → j < i.size → h.address + k ≡ i.address + j → ⊥
addresses_differ l h i k j kind laid a b apart below under e =
    let g = a k below in
    let f = b j under in
    let there = subst (λ (x : ℕ). CarriesByte l f.0 (i.offset + j) x) (sym e) f.1 in
    no_byte apart (one_offset l g.0 f.0 (h.offset + k) (i.offset + j) (h.address + k) kind laid g.1 there)
  where
    no_byte : AreDisjointRanges h i → h.offset + k ≡ i.offset + j → ⊥
    no_byte (inl le) e = omega (arith, below, under, e, le)
    no_byte (inr le) e = omega (arith, below, under, e, le)

-- ---- fillings

-- a byte of one run and a filling in the other
pub misses_across : (l : Layout) (h i : LoadedRange) (k : ℕ) (x : Filling) → IsLoadable l.kind → IsLaidOut l → IsCarriedRange l h → IsCarriedRange l i → AreDisjointRanges h i → k < h.size → LiesIn i x → Misses (h.address + k) x
misses_across l h i k x kind laid sh si apart below lies = λ j lt e. (
    let from = lies.from in
    let to = lies.to in
    addresses_differ l h i k (x.entry.offset + j - i.address) kind laid sh si apart below (omega (arith, from, to, lt)) (omega (arith, from, e)))

-- fillings in two runs
pub fillings_disjoint : (l : Layout) (h i : LoadedRange) (x y : Filling) → IsLoadable l.kind → IsLaidOut l → IsCarriedRange l h → IsCarriedRange l i → AreDisjointRanges h i → LiesIn h x → LiesIn i y → DoNotOverlap x y
fillings_disjoint l h i x y kind laid sh si apart lx ly = λ k lt j less e. (
    let from = lx.from in
    let to = lx.to in
    misses_across l h i (x.entry.offset + k - h.address) y kind laid sh si apart (omega (arith, from, to, lt)) ly j less (omega (arith, from, e)))

-- an address behind the file bytes of a segment is that of no byte of a filling in a run
pub misses_past_file_bytes : (l : Layout) (h : LoadedRange) (a : ℕ) (x : Filling) → IsLoadable l.kind → IsLaidOut l → IsCarriedRange l h → LiesIn h x → IsPastFileBytes l a → Misses a x
misses_past_file_bytes l h a x kind laid there lies b = λ j lt e. (
    let from = lies.from in
    let to = lies.to in
    shared (there (a - h.address) (omega (arith, from, to, lt, e))) (omega (arith, from, e)))
  where
    shared : (g : Segment) × CarriesByte l g (h.offset + (a - h.address)) (h.address + (a - h.address)) → h.address + (a - h.address) ≡ a → ⊥
    shared g e =
        let c = subst (λ (y : ℕ). CarriesByte l g.0 (h.offset + (a - h.address)) y) e g.1 in
        let behind = b.from in
        let same = one_loaded l g.0 b.segment a kind laid c.listed b.listed c.loaded b.loads c.from (file_loaded l g.0 a kind laid c.listed c.loaded c.to) (omega (arith, behind)) b.to in
        let there = subst (λ (s : Segment). a < s.address + s.file_size) same c.to in
        omega (arith, there, behind)
