-- What relocations have tables fill lies in kept sections, beside each other.
use Rattle.wild_loaded.proofs.Common.{all_sections, input_of, IsLoadable, IsPlacedSection, IsKeptPlacedSection, ◌≡◌, ℕ, zero, suc, ◌+◌, ◌<◌, ◌≤◌, ◌⊎◌, inl, inr, Bool, true, false, not, List, [], ◌∷◌, length, get_or, refl, sym, ap, ◌∙◌, arith, subst, Option, Some, None, All, AllPairs, Contains, option_to_list, if◌then◌else◌, slice_get, flat_map, range_with_len, slice_get-get_or, and_parts, not-true, Piece, Disjoint, All-each, AllPairs-nil, Between, AllPairs-flat_map, Slot, InputRelocation, InputSection, item_with, block_for, File, Layout, KeepsAll, is_loaded, is_read, field_site, site, FieldLies, IsLaidOut, site_written, HasDecision, IsStored, EachDecided}
use Rattle.std.proofs.lemmas.List.FromFn.{get_or-range_with_len, length-range_with_len}
use Rattle.wild_words.proofs.Basics.{Contains-from_flat_map}
use Rattle.wild_words.proofs.ListLemmas.{AllPairs-from_flat_map, holds_at}
use Rattle.wild_types.specs.declared.input.Slot.TheVariants as slot
use Rattle.wild_types.proofs.LookupLemmas.{not_dropped}
use Rattle.wild_layout.proofs.DecideLemmas.{field_has_bytes}
use Rattle.wild_layout.proofs.SiteLemmas.{length-field_site, field_lies}
use Rattle.wild_meaning.specs.Item.{IsInput, IsLoadedSlot, IsKeptSection}
use Rattle.wild_meaning.proofs.BitLemmas.{bit_alloc}
use Rattle.wild_loaded.specs.Laws.{SectionsAreInSegments}
use Rattle.wild_loaded.proofs.Fillings.{Filling, DoNotOverlap}
use Rattle.wild_loaded.proofs.KeptSections.{IsKeptWell, kept_well}
use Rattle.wild_loaded.proofs.SectionsApart.{range_of_section}
use Rattle.wild_loaded.proofs.LoadedRanges.{LiesIn}
use Rattle.wild_loaded.proofs.PlacesApart.{HavePlaces}
use Rattle.wild_loaded.proofs.SectionFillings.{section_filling, section_fillings, IsFilledBy, filled_by, filling_decided}

-- ---- the section of a filling

-- a filling is that of a relocation
pub record IsFillingOf (l : Layout) (s : InputSection) (x : Filling) : Type 0 where
  pub reads : is_read s ≡ true
  pub index : ℕ
  pub relocation : InputRelocation
  pub within : index < length s.relocations
  pub listed : slice_get s.relocations index ≡ Some relocation
  pub given : section_filling l s relocation ≡ Some x

-- what is given alone
pub one_given : {X : Type 0} (o : Option X) (x : X) → Contains (option_to_list o) x → o ≡ Some x
one_given None x c = absurd (omega (arith, c.1))
one_given (Some y) x c = at y x c.0 c.1 c.2
  where
    at : {X : Type 0} (y x : X) (k : ℕ) → k < 1 → get_or (y ∷ []) k x ≡ x → Some y ≡ Some x
    at y x zero h e = ap Some e
    at y x (suc k) h e = absurd (omega (arith, h))

pub filling_known : (l : Layout) (s : InputSection) (x : Filling) → Contains (section_fillings l s) x → IsFillingOf l s x
filling_known l s x c = by_test (is_read s) refl c
  where
    found : is_read s ≡ true → (r : InputRelocation) × Contains s.relocations r × Contains (option_to_list (section_filling l s r)) x → IsFillingOf l s x
    found reads f = record { reads = reads; index = f.1.0; relocation = f.0; within = f.1.1; listed = slice_get-get_or s.relocations f.1.0 f.0 f.1.1 ∙ ap (λ (r : InputRelocation). Some r) f.1.2; given = one_given (section_filling l s f.0) x f.2 }

    by_test : (b : Bool) → is_read s ≡ b → Contains (if b then flat_map (λ (r : InputRelocation). option_to_list (section_filling l s r)) s.relocations else []) x → IsFillingOf l s x
    by_test false e c = absurd (omega (arith, c.1))
    by_test true e c = found e (Contains-from_flat_map (λ (r : InputRelocation). option_to_list (section_filling l s r)) s.relocations x c)

-- what is known of the relocation of a filling
pub record IsFilledThere (l : Layout) (block : ℕ) (s : InputSection) (x : Filling) : Type 0 where
  pub filling : IsFillingOf l s x
  pub well : IsKeptWell l block s
  pub by : IsFilledBy l block s filling.relocation x
  pub has : HasDecision l (item_with block s) filling.index filling.relocation by.decision
  pub ends : filling.relocation.offset + x.width ≤ length s.bytes

pub filled_there : (l : Layout) (s : InputSection) (x : Filling) → KeepsAll l → IsLaidOut l → EachDecided l → (input : IsPlacedSection l s) → IsFillingOf l s x → IsFilledThere l (block_for l input.owner s) s x
filled_there l s x keeps laid decided input k =
    let block = block_for l input.owner s in
    let written = not_dropped l s keeps in
    let d = (decided s input k.reads written).each k.index k.within in
    let same = filling_decided l block s k.index k.relocation x k.listed k.given in
    let made = sym same ∙ d.1 in
    let by = filled_by l block s k.relocation x d.0 made k.given in
    let kept : IsKeptPlacedSection l s = record { input = input; reads = k.reads; room = λ plain. by.room; written = written } in
    let well = kept_well l s laid decided kept in
    let lies = holds_at (FieldLies l.machine (length s.bytes)) s.relocations k.index k.relocation k.listed well.fields in
    let ends = field_lies l (item_with block s) k.relocation by.written.size by.field lies in
    let width = by.width in
    record { filling = k; well = well; by = by; has = record { listed = k.listed; decided = same ∙ by.made }; ends = omega (arith, ends, width) }

-- ---- all fillings

pub lies_there : (l : Layout) (block : ℕ) (s : InputSection) (x : Filling) → IsFilledThere l block s x → LiesIn (range_of_section l s) x
lies_there l block s x h =
    let is = h.by.place in
    let ends = h.ends in
    let full = h.well.full in
    let small = h.well.lies.small in
    record { from = omega (arith, is, ends, full, small); to = omega (arith, is, ends, full, small) }

-- where it stands in its section
pub place_sum : (l : Layout) (block : ℕ) (s : InputSection) (x : Filling) → (h : IsFilledThere l block s x) → x.entry.offset ≡ s.address + h.filling.relocation.offset
place_sum l block s x h =
    let is = h.by.place in
    let ends = h.ends in
    let full = h.well.full in
    let small = h.well.lies.small in
    omega (arith, is, ends, full, small)

-- ---- two fillings of a section

-- two relocations at different numbers write apart
pub sites_apart_at : (l : Layout) (block : ℕ) (s : InputSection) (i j : ℕ) (p q : Piece) → IsKeptWell l block s → i < j → j < length s.relocations → site l (item_with block s) i ≡ p ∷ [] → site l (item_with block s) j ≡ q ∷ [] → Disjoint p q
sites_apart_at l block s i j p q well lt within si sj =
    let n = length s.relocations in
    let across = AllPairs-from_flat_map Disjoint (site l (item_with block s)) (range_with_len 0 n) well.decisions.apart.apart i j 0 lt (omega (arith, length-range_with_len 0 n, within)) in
    let ri = get_or-range_with_len 0 n i 0 (omega (arith, lt, within)) in
    let rj = get_or-range_with_len 0 n j 0 within in
    let ei : get_or (range_with_len 0 n) i 0 ≡ i = omega (arith, ri) in
    let ej : get_or (range_with_len 0 n) j 0 ≡ j = omega (arith, rj) in
    let a = subst (λ (x : ℕ). Between Disjoint (site l (item_with block s)) x (get_or (range_with_len 0 n) j 0)) ei across in
    let b = subst (λ (y : ℕ). Between Disjoint (site l (item_with block s)) i y) ej a in
    let c = subst (λ (ps : List Piece). All (λ (x : Piece). All (Disjoint x) (site l (item_with block s) j)) ps) si b in
    let d = subst (λ (qs : List Piece). All (Disjoint p) qs) sj (c 0 p (omega arith)) in
    d 0 q (omega arith)

-- what its relocation writes in the file
abbrev pub filled_site : (l : Layout) (block : ℕ) (s : InputSection) (r : InputRelocation) (x : Filling) → IsFilledBy l block s r x → Piece
filled_site l block s r x b = field_site (item_with block s) r.offset b.written.size b.written.value

pub site_width : (l : Layout) (block : ℕ) (s : InputSection) (r : InputRelocation) (x : Filling) → (b : IsFilledBy l block s r x) → length (filled_site l block s r x b).bytes ≡ x.width
site_width l block s r x b = length-field_site (item_with block s) r.offset b.written.size b.written.value ∙ sym b.width

pub site_there : (l : Layout) (block : ℕ) (s : InputSection) (r : InputRelocation) (x : Filling) (i : ℕ) (b : IsFilledBy l block s r x) → HasDecision l (item_with block s) i r b.decision → site l (item_with block s) i ≡ filled_site l block s r x b ∷ []
site_there l block s r x i b h = site_written l (item_with block s) i r b.decision b.written h.listed h.decided b.by

shifted : (a b n m at : ℕ) (x y : Filling) → n ≡ x.width → m ≡ y.width → x.entry.offset ≡ at + a → y.entry.offset ≡ at + b → (a + n ≤ b) ⊎ (b + m ≤ a) → DoNotOverlap x y
shifted a b n m at x y en em ex ey (inl h) = λ k lk j lj e. omega (arith, en, em, ex, ey, h, lk, lj, e)
shifted a b n m at x y en em ex ey (inr h) = λ k lk j lj e. omega (arith, en, em, ex, ey, h, lk, lj, e)

beside_there : (l : Layout) (block : ℕ) (s : InputSection) (x y : Filling) (hx : IsFilledThere l block s x) (hy : IsFilledThere l block s y) → hx.filling.index < hy.filling.index → DoNotOverlap x y
beside_there l block s x y hx hy lt =
    let r = hx.filling.relocation in
    let q = hy.filling.relocation in
    let p = filled_site l block s r x hx.by in
    let o = filled_site l block s q y hy.by in
    let apart = sites_apart_at l block s hx.filling.index hy.filling.index p o hx.well lt hy.filling.within (site_there l block s r x hx.filling.index hx.by hx.has) (site_there l block s q y hy.filling.index hy.by hy.has) in
    shifted r.offset q.offset (length p.bytes) (length o.bytes) s.address x y (site_width l block s r x hx.by) (site_width l block s q y hy.by) (place_sum l block s x hx) (place_sum l block s y hy) apart

one_filling : (l : Layout) (s : InputSection) (r : InputRelocation) → AllPairs DoNotOverlap (option_to_list (section_filling l s r))
one_filling l s r = by_option (section_filling l s r)
  where
    by_option : (o : Option Filling) → AllPairs DoNotOverlap (option_to_list o)
    by_option None = AllPairs-nil DoNotOverlap
    by_option (Some x) = λ i j d lt m. absurd (omega (arith, lt, m))

-- a filling of one relocation, where there is one
filling_made : (l : Layout) (s : InputSection) (x : Filling) (i : ℕ) (d : InputRelocation) → is_read s ≡ true → i < length s.relocations → Contains (option_to_list (section_filling l s (get_or s.relocations i d))) x → IsFillingOf l s x
filling_made l s x i d reads within c = record { reads = reads; index = i; relocation = get_or s.relocations i d; within = within; listed = slice_get-get_or s.relocations i d within; given = one_given (section_filling l s (get_or s.relocations i d)) x c }

both_beside : (l : Layout) (s : InputSection) (x y : Filling) (i j : ℕ) (d : InputRelocation) → KeepsAll l → IsLaidOut l → EachDecided l → IsPlacedSection l s → is_read s ≡ true → i < j → j < length s.relocations → Contains (option_to_list (section_filling l s (get_or s.relocations i d))) x → Contains (option_to_list (section_filling l s (get_or s.relocations j d))) y → DoNotOverlap x y
unfolding filling_made filled_there
both_beside l s x y i j d keeps laid decided input reads lt within cx cy =
    let kx = filling_made l s x i d reads (omega (arith, lt, within)) cx in
    let ky = filling_made l s y j d reads within cy in
    beside_there l (block_for l input.owner s) s x y (filled_there l s x keeps laid decided input kx) (filled_there l s y keeps laid decided input ky) lt

-- the fillings of one section lie beside each other
fillings_beside : (l : Layout) (s : InputSection) → KeepsAll l → IsLaidOut l → EachDecided l → IsPlacedSection l s → AllPairs DoNotOverlap (section_fillings l s)
fillings_beside l s keeps laid decided input = by_test (is_read s) refl
  where
    by_test : (b : Bool) → is_read s ≡ b → AllPairs DoNotOverlap (if b then flat_map (λ (r : InputRelocation). option_to_list (section_filling l s r)) s.relocations else [])
    by_test false e = AllPairs-nil DoNotOverlap
    by_test true e =
        AllPairs-flat_map DoNotOverlap (λ (r : InputRelocation). option_to_list (section_filling l s r)) s.relocations
        (λ k d m. one_filling l s (get_or s.relocations k d))
        (λ i j d lt m. All-each (λ (x : Filling). All (DoNotOverlap x) (option_to_list (section_filling l s (get_or s.relocations j d)))) (option_to_list (section_filling l s (get_or s.relocations i d))) (λ x cx. All-each (DoNotOverlap x) (option_to_list (section_filling l s (get_or s.relocations j d))) (λ y cy. both_beside l s x y i j d keeps laid decided input e lt m cx cy)))

-- ---- all sections

first_filling : (xs : List Filling) → 1 ≤ length xs → (x : Filling) × Contains xs x
first_filling [] h = absurd (omega (arith, h))
first_filling (x ∷ xs) h = (x, (0, omega arith, refl))

-- a filling of a section has bytes
pub width_some : (l : Layout) (block : ℕ) (s : InputSection) (x : Filling) → IsFilledThere l block s x → 1 ≤ x.width
width_some l block s x h =
    let width = h.by.width in
    let some = field_has_bytes l h.filling.relocation h.by.written.size h.by.field in
    omega (arith, width, some)

pub stored_there : (l : Layout) (block : ℕ) (s : InputSection) (x : Filling) → SectionsAreInSegments → IsLoadable l.kind → IsLaidOut l → IsFilledThere l block s x → IsStored l s
stored_there l block s x law kind laid h =
    let ends = h.ends in
    let some = width_some l block s x h in
    law l s kind laid h.well.kept (omega (arith, ends, some))

pub have_places : (l : Layout) → SectionsAreInSegments → IsLoadable l.kind → KeepsAll l → IsLaidOut l → EachDecided l → HavePlaces l (section_fillings l)
have_places l law kind keeps laid decided = record {
  stored = All-each (λ (s : InputSection). 1 ≤ length (section_fillings l s) → IsStored l s) (all_sections l) (λ s c some. (let x = first_filling (section_fillings l s) some in stored_there l (block_for l (input_of l s c).owner s) s x.0 law kind laid (filled_there l s x.0 keeps laid decided (input_of l s c) (filling_known l s x.0 x.1))));
  within = All-each (λ (s : InputSection). All (LiesIn (range_of_section l s)) (section_fillings l s)) (all_sections l) (λ s c. All-each (LiesIn (range_of_section l s)) (section_fillings l s) (λ x k. lies_there l (block_for l (input_of l s c).owner s) s x (filled_there l s x keeps laid decided (input_of l s c) (filling_known l s x k))));
  beside = All-each (λ (s : InputSection). AllPairs DoNotOverlap (section_fillings l s)) (all_sections l) (λ s c. fillings_beside l s keeps laid decided (input_of l s c));
}
