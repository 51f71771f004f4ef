-- A kept section after a loader applied the tables of an image.
use Rattle.wild_loaded.proofs.Common.{all_sections, listed_section, ◌≡◌, ℕ, ◌+◌, ◌%◌, ◌^◌, ◌<◌, ◌≤◌, ◌⊎◌, inl, inr, Bool, true, false, List, [], ◌∷◌, ◌++◌, length, get_or, refl, sym, ap, ◌∙◌, arith, subst, Option, Some, Ok, Result, All, Contains, option_to_list, if◌then◌else◌, slice_index, flat_map, range_with_len, cases_lt, All-contains, Contains-append_left, slice_get_within, word, Piece, Disjoint, listed_at, All-each, Fault, InputRelocation, InputSection, item_with, File, Layout, place_of, size_width, RelocationSize, ByteSize, Eight, Decision, Field, RelativeAddress, DynamicField, entry_for, value_or_0, relative_value, field_site, site, sites, FieldLies, IsMoved, decided_left, Contains-flat_map, site_written, relative_entry, Change, Memory, World, Holds, byte_in, loaded_at, HasDecision, HasItem, image_memory, processor_of}
use Rattle.std.proofs.lemmas.List.FromFn.{get_or-range_with_len, length-range_with_len}
use Rattle.wild_words.proofs.ListLemmas.{All-from_flat_map}
use Rattle.wild_words.proofs.OrderLemmas.{Outside}
use Rattle.wild_layout.specs.declared.decision.Decision.TheVariants.{Nothing, Rewritten, Partner}
use Rattle.wild_relax.specs.declared.row.Row.{Row}
use Rattle.wild_layout.specs.SymbolValues.{sum}
use Rattle.wild_layout.specs.Decide.{decide}
use Rattle.wild_layout.specs.Sites.{template_site}
use Rattle.wild_layout.proofs.DecideLemmas.{HasField, moved_has, decided_moved, field_has_bytes}
use Rattle.wild_layout.proofs.DecisionLemmas.{decide_moved, decide_left, IsOfRow}
use Rattle.wild_layout.proofs.SiteLemmas.{site_rewritten, field_lies}
use Rattle.wild_loader.specs.declared.change.Change.TheVariants as changes
use Rattle.wild_loader.specs.Changes.{bytes_after}
use Rattle.wild_geometry.specs.Loaded.{InNoSite, InMemory, ReadsFilledField, stored_bytes}
use Rattle.wild_loaded.proofs.Fillings.{Filling, Misses, IsKnown, packed_at, relative_of, general_of, place_loaded}
use Rattle.wild_loaded.proofs.KeptSections.{IsKeptWell}
use Rattle.wild_loaded.proofs.SectionFillings.{section_filling, section_fillings, Fills, moved_given, left_given}
use Rattle.wild_loaded.proofs.FilledSections.{IsFilledThere, filling_known, filled_there, filled_site, site_width, site_there, sites_apart_at, place_sum}
use Rattle.wild_loaded.proofs.SectionsKnown.{before, value_low, relative_makes, field_makes, stored_size}
use Rattle.wild_loaded.proofs.TableLists.{sections_filled, slots_filled, blocks_filled, stored_fillings, all_fillings}
use Rattle.wild_loaded.proofs.CopyFillings.{copies_filled}
use Rattle.wild_loaded.proofs.MadeChanges.{IsMovedImage, kept_at, packed_made, made_over}
use Rattle.wild_loaded.proofs.OutsideTables.{section_misses}

-- ---- bytes that no entry touches

-- a byte that the section's own fillings miss is as before
kept_there : (l : Layout) (w : World) (m : Memory) (block : ℕ) (s : InputSection) (k : ℕ) → IsMovedImage l w m → IsKeptWell l block s → k < length s.bytes → ((x : Filling) → IsFilledThere l block s x → Misses (s.address + k) x) → byte_in m (w.base + (s.address + k)) ≡ byte_in (image_memory l w) (w.base + (s.address + k))
kept_there l w m block s k h well lt out =
    let c = listed_section l s well.kept.input in
    let full = well.full in
    let same = well.own in
    let stored = h.laws.filled.carried l s h.well.kind h.well.laid well.kept (omega (arith, lt)) in
    let own = All-each (Misses (s.address + k)) (section_fillings l s) (λ x cx. out x (subst (λ (k : ℕ). IsFilledThere l k s x) (sym same) (filled_there l s x h.well.keeps h.well.laid h.well.decided well.kept.input (filling_known l s x cx)))) in
    kept_at l w m (s.address + k) h (section_misses l w m s k h c stored (omega (arith, lt, full)) own)

by_side : (at k a n : ℕ) (x : Filling) → n ≡ x.width → x.entry.offset ≡ at + a → (k < a) ⊎ (a + n ≤ k) → Misses (at + k) x
by_side at k a n x en is (inl h) = λ j lt e. omega (arith, is, h, e)
by_side at k a n x en is (inr h) = λ j lt e. omega (arith, en, is, h, lt, e)

-- what holds of all sites of a section holds of the one of a relocation
of_site : (P : Piece → Type 0) (l : Layout) (block : ℕ) (s : InputSection) (i : ℕ) (p : Piece) → All P (sites l (item_with block s)) → i < length s.relocations → site l (item_with block s) i ≡ p ∷ [] → P p
of_site P l block s i p all within is =
    let n = length s.relocations in
    let each = All-from_flat_map P (site l (item_with block s)) (range_with_len 0 n) all i 0 (let e = length-range_with_len 0 n in omega (arith, e, within)) in
    let at : get_or (range_with_len 0 n) i 0 ≡ i = (let e = get_or-range_with_len 0 n i 0 within in omega (arith, e)) in
    let own = subst (λ (j : ℕ). All P (site l (item_with block s) j)) at each in
    let one = subst (λ (ps : List Piece). All P ps) is own in
    one 0 p (omega arith)

-- a byte of no site
outside_site : (l : Layout) (block : ℕ) (s : InputSection) (k : ℕ) (x : Filling) → InNoSite l (item_with block s) k → IsFilledThere l block s x → Misses (s.address + k) x
outside_site l block s k x out h =
    let q = h.filling.relocation in
    let i = h.filling.index in
    let o = filled_site l block s q x h.by in
    by_side s.address k q.offset (length o.bytes) x (site_width l block s q x h.by) (place_sum l block s x h) (of_site (Outside k) l block s i o out h.filling.within (site_there l block s q x i h.by h.has))

other_there : (l : Layout) (w : World) (m : Memory) (block : ℕ) (s : InputSection) (k : ℕ) → IsMovedImage l w m → IsKeptWell l block s → k < length s.bytes → InNoSite l (item_with block s) k → byte_in m (w.base + s.address + k) ≡ Some (slice_index s.bytes k)
other_there l w m block s k h well lt out =
    let same = kept_there l w m block s k h well lt (λ x there. outside_site l block s k x out there) in
    let at : w.base + (s.address + k) ≡ w.base + s.address + k = omega arith in
    let same' = subst (λ (a : ℕ). byte_in m a ≡ byte_in (image_memory l w) a) at same in
    same' ∙ (before l w block s h.laws.filled.sections.stored h.well.kind h.well.legal h.well.laid well).others k lt out

-- ---- values, and what is rewritten

still_fills_none : (l : Layout) (block : ℕ) (s : InputSection) (r : InputRelocation) (x : Filling) (d : Decision) → IsOfRow d → Fills l block s r x d → ⊥
still_fills_none l block s r x Nothing still f = absurd still
still_fills_none l block s r x (Field z v) still f = f
still_fills_none l block s r x (RelativeAddress v packed) still f = absurd still
still_fills_none l block s r x (DynamicField z n symbol addend) still f = absurd still
still_fills_none l block s r x (Rewritten row v) still f = f
still_fills_none l block s r x Partner still f = absurd still

-- what relocation i writes, and no entry fills
record IsStillSite (l : Layout) (block : ℕ) (s : InputSection) (i : ℕ) (p : Piece) : Type 0 where
  relocation : InputRelocation
  decision : Decision
  has : HasDecision l (item_with block s) i relocation decision
  still : IsOfRow decision
  is : site l (item_with block s) i ≡ p ∷ []

apart_byte : (at a n b q k : ℕ) (x : Filling) → q ≡ x.width → x.entry.offset ≡ at + b → k < n → (a + n ≤ b) ⊎ (b + q ≤ a) → Misses (at + (a + k)) x
apart_byte at a n b q k x eq is lt (inl h) = λ j less e. omega (arith, is, lt, h, e)
apart_byte at a n b q k x eq is lt (inr h) = λ j less e. omega (arith, eq, is, h, less, e)

-- a byte of it
outside_still : (l : Layout) (block : ℕ) (s : InputSection) (i : ℕ) (p : Piece) (k : ℕ) (x : Filling) → IsKeptWell l block s → IsStillSite l block s i p → k < length p.bytes → IsFilledThere l block s x → Misses (s.address + (p.at + k)) x
outside_still l block s i p k x well c lt h =
    let q = h.filling.relocation in
    let j = h.filling.index in
    let o = filled_site l block s q x h.by in
    let sj = site_there l block s q x j h.by h.has in
    let within = slice_get_within s.relocations i c.relocation c.has.listed in
    elim (cases_lt i j) [
      | inl up ↦ apart_byte s.address p.at (length p.bytes) q.offset (length o.bytes) k x (site_width l block s q x h.by) (place_sum l block s x h) lt (sites_apart_at l block s i j p o well up h.filling.within c.is sj)
      | inr ge ↦ elim (cases_lt j i) [
        | inl down ↦ apart_byte s.address p.at (length p.bytes) q.offset (length o.bytes) k x (site_width l block s q x h.by) (place_sum l block s x h) lt (back p o (sites_apart_at l block s j i o p well down within sj c.is))
        | inr le ↦ absurd (other q j (omega (arith, ge, le)) h.by.decision h.has h.by.fills)
      ]
    ]
  where
    back : (p o : Piece) → Disjoint o p → Disjoint p o
    back p o (inl h) = inr h
    back p o (inr h) = inl h

    other : (q : InputRelocation) (j : ℕ) → i ≡ j → (d : Decision) → HasDecision l (item_with block s) j q d → Fills l block s q x d → ⊥
    other q j e d has f =
        let both : Ok c.decision ≡ Ok d = sym c.has.decided ∙ ap (λ (n : ℕ). decide l (item_with block s) n) e ∙ has.decided in
        let same : c.decision ≡ d = cc in
        still_fills_none l block s q x d (subst IsOfRow same c.still) f

-- it is as before
still_there : (l : Layout) (w : World) (m : Memory) (block : ℕ) (s : InputSection) (i : ℕ) (p : Piece) → IsMovedImage l w m → IsKeptWell l block s → IsStillSite l block s i p → Holds (image_memory l w) (w.base + s.address + p.at) p.bytes → Holds m (w.base + s.address + p.at) p.bytes
still_there l w m block s i p h well c held = λ k lt.
    let ends = of_site (λ (o : Piece). o.at + length o.bytes ≤ length s.bytes) l block s i p well.decisions.apart.within (slice_get_within s.relocations i c.relocation c.has.listed) c.is in
    let same = kept_there l w m block s (p.at + k) h well (omega (arith, ends, lt)) (λ x there. outside_still l block s i p k x well c lt there) in
    let e : w.base + (s.address + (p.at + k)) ≡ w.base + s.address + p.at + k = omega arith in
    subst (λ (a : ℕ). byte_in m a ≡ byte_in (image_memory l w) a) e same ∙ held k lt

value_there : (l : Layout) (w : World) (m : Memory) (block : ℕ) (s : InputSection) (i : ℕ) (r : InputRelocation) (z : RelocationSize) (v : ℕ) → IsMovedImage l w m → IsKeptWell l block s → HasDecision l (item_with block s) i r (Field z v) → Holds m (w.base + s.address + r.offset) (field_site (item_with block s) r.offset z v).bytes
value_there l w m block s i r z v h well has =
    let still : IsStillSite l block s i (field_site (item_with block s) r.offset z v) = record { relocation = r; decision = Field z v; has = has; still = tt; is = site_written l (item_with block s) i r (Field z v) (record { size = z; value = v }) has.listed has.decided refl } in
    still_there l w m block s i (field_site (item_with block s) r.offset z v) h well still ((before l w block s h.laws.filled.sections.stored h.well.kind h.well.legal h.well.laid well).values i r z v has)

rewritten_there : (l : Layout) (w : World) (m : Memory) (block : ℕ) (s : InputSection) (i : ℕ) (r : InputRelocation) (row : Row) (v : ℕ) → IsMovedImage l w m → IsKeptWell l block s → HasDecision l (item_with block s) i r (Rewritten row v) → Holds m (w.base + s.address + (template_site (item_with block s) r row v).at) (template_site (item_with block s) r row v).bytes
rewritten_there l w m block s i r row v h well has =
    let still : IsStillSite l block s i (template_site (item_with block s) r row v) = record { relocation = r; decision = Rewritten row v; has = has; still = tt; is = site_rewritten l (item_with block s) i r row v has.listed has.decided } in
    still_there l w m block s i (template_site (item_with block s) r row v) h well still ((before l w block s h.laws.filled.sections.stored h.well.kind h.well.legal h.well.laid well).rewritten i r row v has)

-- ---- fillings

-- the filling of a relocation is among all
filling_listed : (l : Layout) (w : World) (block : ℕ) (s : InputSection) (r : InputRelocation) (x : Filling) → IsKeptWell l block s → Contains s.relocations r → section_filling l s r ≡ Some x → Contains (section_fillings l s) x × Contains (all_fillings l w) x
filling_listed l w block s r x well c given =
    let one : Contains (option_to_list (section_filling l s r)) x = subst (λ (o : Option Filling). Contains (option_to_list o) x) (sym given) (0, omega arith, refl) in
    let among = Contains-flat_map (λ (q : InputRelocation). option_to_list (section_filling l s q)) s.relocations r x c one in
    let here : Contains (section_fillings l s) x = subst (λ (b : Bool). Contains (if b then flat_map (λ (q : InputRelocation). option_to_list (section_filling l s q)) s.relocations else []) x) (sym well.kept.reads) among in
    let sections = Contains-flat_map (section_fillings l) (all_sections l) s x (listed_section l s well.kept.input) here in
    (here, Contains-append_left (stored_fillings l) (copies_filled l w) x (Contains-append_left (sections_filled l) (slots_filled l ++ blocks_filled l) x sections))

-- where it is loaded
place_is : (l : Layout) (w : World) (m : Memory) (block : ℕ) (s : InputSection) (r : InputRelocation) (x : Filling) → IsMovedImage l w m → IsKeptWell l block s → Contains s.relocations r → section_filling l s r ≡ Some x → x.entry.offset ≡ place_of s.address r → 1 ≤ x.width → r.offset + x.width ≤ length s.bytes → loaded_at w x.entry.offset ≡ w.base + s.address + r.offset
place_is l w m block s r x h well c given is some ends =
    let both = filling_listed l w block s r x well c given in
    let known = All-contains (IsKnown w (image_memory l w)) (all_fillings l w) x h.sorted.known both.1 in
    let low = known.low some in
    let at = place_loaded w x.entry.offset x.width some low in
    let small = well.lies.small in
    let full = well.full in
    omega (arith, at, is, small, full, ends, some)

-- the field of a relocation lies in the section
ends_of : (l : Layout) (block : ℕ) (s : InputSection) (r : InputRelocation) (z : RelocationSize) → IsKeptWell l block s → Contains s.relocations r → HasField l r z → r.offset + size_width z ≤ length s.bytes
ends_of l block s r z well c f = field_lies l (item_with block s) r z f (All-contains (FieldLies l.machine (length s.bytes)) s.relocations r well.fields c)

-- ---- addresses

value_same : (l : Layout) (block : ℕ) (s : InputSection) (r : InputRelocation) (v : ℕ) (packed : Bool) → IsMoved l (item_with block s) r v packed → relative_value l r ≡ v
value_same l block s r v packed a = ap (λ (o : Result ℕ Fault). sum (value_or_0 o) r.addend) a.given ∙ a.value

address_moved : (l : Layout) (w : World) (m : Memory) (block : ℕ) (s : InputSection) (i : ℕ) (r : InputRelocation) (v : ℕ) (packed : Bool) → IsMovedImage l w m → IsKeptWell l block s → HasDecision l (item_with block s) i r (RelativeAddress v packed) → Holds m (w.base + s.address + r.offset) (word 8 ((v + w.base) % 2 ^ 64))
address_moved l w m block s i r v packed h well has = by_packed packed has (decided_moved l (item_with block s) r v packed (decide_moved l (item_with block s) i r v packed has.listed has.decided).made)
  where
    c : Contains s.relocations r
    c = listed_at s.relocations i r has.listed

    by_packed : (b : Bool) → HasDecision l (item_with block s) i r (RelativeAddress v b) → IsMoved l (item_with block s) r v b → Holds m (w.base + s.address + r.offset) (word 8 ((v + w.base) % 2 ^ 64))
    by_packed true there f =
        let given = moved_given l block s r v true f in
        let at = place_is l w m block s r (packed_at (place_of s.address r)) h well c given refl (omega arith) (ends_of l block s r (ByteSize Eight) well c (moved_has l (item_with block s) r v true f)) in
        let held = (before l w block s h.laws.filled.sections.stored h.well.kind h.well.legal h.well.laid well).addresses i r v true there in
        let listed = (filling_listed l w block s r (packed_at (place_of s.address r)) well c given).1 in
        let now = packed_made l w m (place_of s.address r) v h listed (value_low l block s r v true f) (subst (λ (a : ℕ). Holds (image_memory l w) a (word 8 v)) (sym at) held) in
        subst (λ (a : ℕ). Holds m a (word 8 ((v + w.base) % 2 ^ 64))) at now
    by_packed false there f =
        let e = relative_entry l (place_of s.address r) (relative_value l r) in
        let given = moved_given l block s r v false f in
        let at = place_is l w m block s r (relative_of e) h well c given refl (omega arith) (ends_of l block s r (ByteSize Eight) well c (moved_has l (item_with block s) r v false f)) in
        let listed = (filling_listed l w block s r (relative_of e) well c given).1 in
        let small : relative_value l r < 2 ^ 64 = omega arith in
        let makes = relative_makes l w (place_of s.address r) (relative_value l r) h.laws.filled.sections.relative small in
        let over = made_over l w m (relative_of e) (changes.Word ((w.base + relative_value l r) % 2 ^ 64)) h listed tt makes refl in
        let same = value_same l block s r v false f in
        let turn : (w.base + relative_value l r) % 2 ^ 64 ≡ (v + w.base) % 2 ^ 64 = ap (λ (n : ℕ). n % 2 ^ 64) (omega (arith, same)) in
        subst (λ (a : ℕ). Holds m a (word 8 ((v + w.base) % 2 ^ 64))) at (subst (λ (n : ℕ). Holds m (loaded_at w (place_of s.address r)) (word 8 n)) turn over.made.held)

-- ---- fields that are left to entries

after_is : (c : Change) (n : ℕ) (old : List ℕ) → 1 ≤ n → length (stored_bytes c) ≡ n → bytes_after c old ≡ stored_bytes c
after_is (changes.Word v) n old some e = refl
after_is (changes.Half v) n old some e = refl
after_is (changes.Fill bytes) n old some e = absurd (omega (arith, some, e))
after_is (changes.Add v) n old some e = absurd (omega (arith, some, e))
after_is (changes.Descriptor o) n old some e = absurd (omega (arith, some, e))

left_filled : (l : Layout) (w : World) (m : Memory) (block : ℕ) (s : InputSection) (i : ℕ) (r : InputRelocation) (z : RelocationSize) (n symbol addend : ℕ) → IsMovedImage l w m → IsKeptWell l block s → HasDecision l (item_with block s) i r (DynamicField z n symbol addend)
    → (bs : List ℕ) × Holds m (w.base + s.address + r.offset) bs × ReadsFilledField (processor_of l.machine) InMemory w z n symbol addend bs
left_filled l w m block s i r z n symbol addend h well has =
    let c = listed_at s.relocations i r has.listed in
    let made = (decide_left l (item_with block s) i r z n symbol addend has.listed has.decided).made in
    let x = general_of (entry_for (place_of s.address r) n symbol addend) (size_width z) in
    let given = left_given l block s r z n symbol addend made in
    let some = field_has_bytes l r z (decided_left l (item_with block s) r z n symbol addend made).field in
    let at = place_is l w m block s r x h well c given refl (omega (arith, some)) (ends_of l block s r z well c (decided_left l (item_with block s) r z n symbol addend made).field) in
    let listed = (filling_listed l w block s r x well c given).1 in
    let fills = h.laws.filled.sections.changes.left l w (item_with block s) r z n symbol addend h.well.numbers h.well.legal h.well.laid made in
    let makes = field_makes (processor_of l.machine) w (place_of s.address r) n symbol addend z fills in
    let over = made_over l w m x fills.change h listed tt makes (stored_size fills.change (size_width z) (omega (arith, some)) fills.width) in
    let bytes = after_is fills.change (size_width z) over.old (omega (arith, some)) fills.width in
    let held = subst (λ (bs : List ℕ). Holds m (loaded_at w (place_of s.address r)) bs) bytes over.made.held in
    (stored_bytes fills.change, subst (λ (a : ℕ). Holds m a (stored_bytes fills.change)) at held, (fills.change, fills.makes, refl, fills.width))

-- ---- the section

pub section_moved : (l : Layout) (w : World) (m : Memory) (block : ℕ) (s : InputSection) → IsMovedImage l w m → IsKeptWell l block s → HasItem l w m (item_with block s) InMemory
section_moved l w m block s h well = record {
  ends = (before l w block s h.laws.filled.sections.stored h.well.kind h.well.legal h.well.laid well).ends;
  values = λ i r z v has. value_there l w m block s i r z v h well has;
  addresses = λ i r v packed has. address_moved l w m block s i r v packed h well has;
  left = λ i r z n symbol addend has. left_filled l w m block s i r z n symbol addend h well has;
  rewritten = λ i r row v has. rewritten_there l w m block s i r row v h well has;
  others = λ k lt out. other_there l w m block s k h well lt out;
}
