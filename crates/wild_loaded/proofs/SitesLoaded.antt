-- The words of slots after a loader applied the tables of an image.
use Rattle.wild_loaded.proofs.Common.{◌≡◌, ℕ, ◌+◌, ◌-◌, ◌%◌, ◌^◌, ◌<◌, ◌≤◌, ◌⊎◌, inl, inr, Bool, true, false, List, ◌++◌, length, get_or, refl, sym, ap, ◌∙◌, arith, subst, Option, Some, All, Contains, option_to_list, if◌then◌else◌, Ok, All-contains, Contains-append_left, Contains-append_right, word, length-word, Rela, SlotEntry, SlotWord, Number, Address, InRelrGot, General, Plt, Layout, is_packed, entry_at, address_entry, start_of, Contains-flat_map, Change, Memory, World, patch_over, change_of, Holds, byte_in, loaded_at, end_of, entry_in, IsLocatedAt, image_memory, IsWordStored, filled_width, FillsWords, FillsSlot, processor_of, entry_with}
use Rattle.wild_types.specs.declared.part.Role.TheVariants as role
use Rattle.wild_loader.specs.declared.change.Change.TheVariants as changes
use Rattle.wild_loader.specs.Changes.{bytes_after, first_value}
use Rattle.wild_geometry.specs.Slots.{IsWordAfterChange, IsFilledBy, IsLoadedWord}
use Rattle.wild_loaded.proofs.SlotSites.{SlotSite, of_site, all_sites}
use Rattle.wild_loaded.proofs.Fillings.{Table, GeneralTable, JumpTable, Filling, Misses, packed_at, relative_of, place_loaded}
use Rattle.wild_loaded.proofs.SectionsKnown.{relative_makes}
use Rattle.wild_loaded.proofs.SlotFillings.{slot_filling, block_filling, address_filling, got_sites}
use Rattle.wild_loaded.proofs.SlotsSpaced.{all_spaced}
use Rattle.wild_loaded.proofs.SlotsKnown.{SiteIsKnown, sites_known, slot_makes, fills_size}
use Rattle.wild_loaded.proofs.GotPlaces.{got_ascends}
use Rattle.wild_loaded.proofs.CopyFillings.{copies_filled}
use Rattle.wild_loaded.proofs.TableRanges.{range_of_role, stands_inside}
use Rattle.wild_loaded.proofs.TableLists.{sections_filled, slots_filled, blocks_filled, stored_fillings, all_fillings}
use Rattle.wild_loaded.proofs.AllTables.{slots_of_well}
use Rattle.wild_loaded.proofs.MadeChanges.{IsMovedImage, HasEntry, kept_at, packed_made, made_over}
use Rattle.wild_loaded.proofs.OutsideTables.{got_misses}
use Rattle.wild_loaded.proofs.NumbersKept.{IsClear, IsSecond, all_kept}
use Rattle.wild_loader.specs.declared.memory.Machine.{Machine as Processor}
use Rattle.wild_geometry.specs.EntryKinds.{loaded_kind}

-- what a loader made of the word of a site
pub record IsLoadedSite (w : World) (m : Memory) (at : ℕ) (d : SlotWord) : Type 0 where
  pub value : ℕ
  pub fits : value < 2 ^ 64
  pub held : Holds m (w.base + at) (word 8 value)
  pub is : IsLoadedWord w m (w.base + at) d value

abbrev site : ℕ → SlotWord → SlotSite
site at d = record { at = at; word = d }

-- ---- the filling of a site

slot_listed : (l : Layout) (w : World) (at : ℕ) (d : SlotWord) (x : Filling) → Contains (got_sites l) (site at d) → slot_filling l at d ≡ Some x → Contains (all_fillings l w) x
slot_listed l w at d x c is =
    let one : Contains (of_site (slot_filling l) (site at d)) x = subst (λ (o : Option Filling). Contains (option_to_list o) x) (sym is) (0, omega arith, refl) in
    let here : Contains (slots_filled l) x = Contains-flat_map (of_site (slot_filling l)) (got_sites l) (site at d) x c one in
    Contains-append_left (stored_fillings l) (copies_filled l w) x (Contains-append_right (sections_filled l) (slots_filled l ++ blocks_filled l) x (Contains-append_left (slots_filled l) (blocks_filled l) x here))

block_listed : (l : Layout) (w : World) (at a : ℕ) → Contains (all_sites l) (site at (InRelrGot a)) → Contains (all_fillings l w) (packed_at at)
block_listed l w at a c =
    let here : Contains (blocks_filled l) (packed_at at) = Contains-flat_map (of_site block_filling) (all_sites l) (site at (InRelrGot a)) (packed_at at) c (0, omega arith, refl) in
    Contains-append_left (stored_fillings l) (copies_filled l w) (packed_at at) (Contains-append_right (sections_filled l) (slots_filled l ++ blocks_filled l) (packed_at at) (Contains-append_right (slots_filled l) (blocks_filled l) (packed_at at) here))

stored_loaded : (l : Layout) (w : World) (at : ℕ) (d : SlotWord) → IsWordStored l w at d → loaded_at w at ≡ w.base + at
stored_loaded l w at d s = place_loaded w at 8 (omega arith) s.ends

-- ---- words that move

packed_after : (l : Layout) (w : World) (m : Memory) (at v : ℕ) (d : SlotWord) → IsMovedImage l w m → Contains (all_fillings l w) (packed_at at) → (s : IsWordStored l w at d) → s.value ≡ v → IsLoadedWord w m (w.base + at) d ((v + w.base) % 2 ^ 64) → IsLoadedSite w m at d
packed_after l w m at v d h c s is loaded =
    let there = stored_loaded l w at d s in
    let now = packed_made l w m at s.value h c s.fits (subst (λ (a : ℕ). Holds (image_memory l w) a (word 8 s.value)) (sym there) s.held) in
    let here = subst (λ (a : ℕ). Holds m a (word 8 ((s.value + w.base) % 2 ^ 64))) there now in
    record { value = (v + w.base) % 2 ^ 64; fits = omega arith; held = subst (λ (n : ℕ). Holds m (w.base + at) (word 8 ((n + w.base) % 2 ^ 64))) is here; is = loaded }

address_after : (l : Layout) (w : World) (m : Memory) (at v : ℕ) → IsMovedImage l w m → Contains (got_sites l) (site at (Address v)) → SiteIsKnown l w (site at (Address v)) → IsLoadedSite w m at (Address v)
address_after l w m at v h c k = by_test (is_packed l.options.relr at) refl
  where
    value_is : (b : Bool) → is_packed l.options.relr at ≡ b → (if b then v else 0) ≡ k.stored.value
    value_is b e =
        let is : Some (if is_packed l.options.relr at then v else 0) ≡ Some k.stored.value = k.stored.is in
        let same : Some (if b then v else 0) ≡ Some k.stored.value = subst (λ (x : Bool). Some (if x then v else 0) ≡ Some k.stored.value) e is in
        cc

    listed : (b : Bool) → is_packed l.options.relr at ≡ b → Contains (all_fillings l w) (address_filling l at v b)
    listed b e = slot_listed l w at (Address v) (address_filling l at v b) c (ap (λ (x : Bool). Some (address_filling l at v x)) e)

    by_test : (b : Bool) → is_packed l.options.relr at ≡ b → IsLoadedSite w m at (Address v)
    by_test true t = packed_after l w m at v (Address v) h (listed true t) k.stored (sym (value_is true t)) refl
    by_test false f =
        let e : Rela = address_entry l.machine at v in
        let makes = relative_makes l w at v h.laws.filled.slots.relative k.fits in
        let over = made_over l w m (relative_of e) (changes.Word ((w.base + v) % 2 ^ 64)) h (listed false f) tt makes refl in
        let turn : (w.base + v) % 2 ^ 64 ≡ (v + w.base) % 2 ^ 64 = ap (λ (n : ℕ). n % 2 ^ 64) (omega arith) in
        let there = stored_loaded l w at (Address v) k.stored in
        record {
          value = (v + w.base) % 2 ^ 64;
          fits = omega arith;
          held = subst (λ (a : ℕ). Holds m a (word 8 ((v + w.base) % 2 ^ 64))) there (subst (λ (n : ℕ). Holds m (loaded_at w at) (word 8 n)) turn over.made.held);
          is = refl;
        }

block_after : (l : Layout) (w : World) (m : Memory) (at v : ℕ) → IsMovedImage l w m → Contains (all_sites l) (site at (InRelrGot v)) → IsWordStored l w at (InRelrGot v) → IsLoadedSite w m at (InRelrGot v)
block_after l w m at v h c s =
    let is : v ≡ s.value = (let e = s.is in cc) in
    packed_after l w m at v (InRelrGot v) h (block_listed l w at v c) s (sym is) refl

-- ---- words that entries fill

-- what an entry made of its words
pub record IsSlotMade (l : Layout) (w : World) (m : Memory) (at : ℕ) (e : SlotEntry) (c : Change) : Type 0 where
  pub old : List ℕ
  pub wide : length old ≡ filled_width e
  pub before : Holds (image_memory l w) (w.base + at) old
  pub after : Holds m (w.base + at) (bytes_after c old)
  pub noted : (o : ℕ) → c ≡ changes.Descriptor o → first_value m.descriptors (w.base + at) ≡ Some o

slot_made : (l : Layout) (w : World) (m : Memory) (at : ℕ) (t : Table) (e : SlotEntry) (d : SlotWord) → IsMovedImage l w m → Contains (got_sites l) (site at d) → HasEntry t → slot_filling l at d ≡ Some (record { table = t; entry = entry_at l.machine at e; width = filled_width e }) → IsWordStored l w at d → (f : FillsSlot (processor_of l.machine) w e) → IsSlotMade l w m at e f.change
slot_made l w m at t e d h c some is s f =
    let x : Filling = record { table = t; entry = entry_at l.machine at e; width = filled_width e } in
    let over = made_over l w m x f.change h (slot_listed l w at d x c is) some (slot_makes l w at e f) (fills_size (filled_width e) f.change f.fills) in
    let there = stored_loaded l w at d s in
    record {
      old = over.old;
      wide = over.wide;
      before = subst (λ (a : ℕ). Holds (image_memory l w) a over.old) there over.held;
      after = subst (λ (a : ℕ). Holds m a (bytes_after f.change over.old)) there over.made.held;
      noted = λ o k. subst (λ (a : ℕ). first_value m.descriptors a ≡ Some o) there (over.made.noted o (ap (λ (y : Change). (patch_over (loaded_at w at) y over.old).offset) k));
    }

-- bytes before are bytes after, where memory has the same
same_word : (before m : Memory) (a v : ℕ) (old : List ℕ) → 8 ≤ length old → Holds before a old → Holds m a old → Holds before a (word 8 v) → Holds m a (word 8 v)
same_word before m a v old enough b h held = λ k lt. (let n = length-word 8 v in h k (omega (arith, n, lt, enough)) ∙ sym (b k (omega (arith, n, lt, enough))) ∙ held k lt)

-- the word that an entry leaves
pub record LeavesWord (w : World) (m : Memory) (at : ℕ) (e : SlotEntry) : Type 0 where
  pub value : ℕ
  pub fits : value < 2 ^ 64
  pub held : Holds m (w.base + at) (word 8 value)
  pub is : IsFilledBy w m (w.base + at) e value

entry_after : (l : Layout) (w : World) (m : Memory) (at : ℕ) (e : SlotEntry) (d : SlotWord) → m.machine ≡ processor_of l.machine → IsWordStored l w at d → (f : FillsSlot (processor_of l.machine) w e) → IsSlotMade l w m at e f.change → LeavesWord w m at e
entry_after l w m at e d p s f made = by_change f.change refl f.fills
  where
    makes : change_of w (loaded_kind m.machine e.kind) (entry_with 0 e.symbol e.addend) ≡ Ok f.change
    makes = subst (λ (k : Processor). change_of w (loaded_kind k e.kind) (entry_with 0 e.symbol e.addend) ≡ Ok f.change) (sym p) f.makes

    by_change : (c : Change) → f.change ≡ c → FillsWords (filled_width e) c → LeavesWord w m at e
    by_change (changes.Word v) k h = record {
      value = v;
      fits = h.1;
      held = subst (λ (c : Change). Holds m (w.base + at) (bytes_after c made.old)) k made.after;
      is = record { change = f.change; makes = makes; leaves = subst (λ (c : Change). IsWordAfterChange m (w.base + at) c v) (sym k) refl };
    }
    by_change (changes.Descriptor o) k h =
        let wide = made.wide in
        record {
          value = s.value;
          fits = s.fits;
          held = same_word (image_memory l w) m (w.base + at) s.value made.old (omega (arith, wide, h)) made.before (subst (λ (c : Change). Holds m (w.base + at) (bytes_after c made.old)) k made.after) s.held;
          is = record { change = f.change; makes = makes; leaves = subst (λ (c : Change). IsWordAfterChange m (w.base + at) c s.value) (sym k) (made.noted o k) };
        }
    by_change (changes.Half v) k h = absurd h
    by_change (changes.Fill bytes) k h = absurd h
    by_change (changes.Add v) k h = absurd h

-- ---- numbers

-- bytes of the table of slots that no filling there has
kept_word : (l : Layout) (w : World) (m : Memory) (at v : ℕ) → IsMovedImage l w m → IsLocatedAt l role.Got at (word 8 v) → Holds (image_memory l w) (w.base + at) (word 8 v) → ((k : ℕ) → k < 8 → All (Misses (at + k)) (slots_filled l)) → Holds m (w.base + at) (word 8 v)
kept_word l w m at v h stands held out = λ k lt.
    let n = length-word 8 v in
    let i = stands_inside l role.Got at (word 8 v) refl h.well.laid stands in
    let from = i.0 in
    let to = i.1 in
    let start = (range_of_role l role.Got).address in
    let here : start + (at + k - start) ≡ at + k = omega (arith, from) in
    let own = subst (λ (a : ℕ). All (Misses a) (slots_filled l)) (sym here) (out k (omega (arith, n, lt))) in
    let all = got_misses l w m (at + k - start) h (omega (arith, from, to, n, lt)) own in
    let same = kept_at l w m (start + (at + k - start)) h all in
    let e : w.base + (start + (at + k - start)) ≡ w.base + at + k = omega (arith, from) in
    subst (λ (a : ℕ). byte_in m a ≡ byte_in (image_memory l w) a) e same ∙ held k lt

clear_misses : (a k : ℕ) (f : Filling) → k < 8 → IsClear a f → Misses (a + k) f
clear_misses a k f lt (inl h) = λ j less e. omega (arith, lt, h, less, e)
clear_misses a k f lt (inr h) = λ j less e. omega (arith, lt, h, less, e)

-- the second word of a descriptor, whose bytes a loader leaves as they were
second_after : (l : Layout) (w : World) (m : Memory) (at v first : ℕ) (e : SlotEntry) (c : Change) → at ≡ first + 8 → filled_width e ≡ 16 → FillsWords (filled_width e) c → IsSlotMade l w m first e c → Holds (image_memory l w) (w.base + at) (word 8 v) → Holds m (w.base + at) (word 8 v)
second_after l w m at v first e c is wide fills made held = λ k lt.
    let n = length-word 8 v in
    let long = made.wide in
    let same = unchanged c fills made.after in
    let place : w.base + first + (8 + k) ≡ w.base + at + k = omega (arith, is) in
    let b = made.before (8 + k) (omega (arith, n, lt, long, wide)) in
    let a = same (8 + k) (omega (arith, n, lt, long, wide)) in
    subst (λ (x : ℕ). byte_in m x ≡ byte_in (image_memory l w) x) place (a ∙ sym b) ∙ held k lt
  where
    unchanged : (c : Change) → FillsWords (filled_width e) c → Holds m (w.base + first) (bytes_after c made.old) → Holds m (w.base + first) made.old
    unchanged (changes.Descriptor o) f h = h
    unchanged (changes.Word u) f h = absurd (let eight = f.0 in omega (arith, eight, wide))
    unchanged (changes.Half u) f h = absurd f
    unchanged (changes.Fill bytes) f h = absurd f
    unchanged (changes.Add u) f h = absurd f

number_after : (l : Layout) (w : World) (m : Memory) (at n : ℕ) → IsMovedImage l w m → Contains (got_sites l) (site at (Number n)) → IsWordStored l w at (Number n) → IsLoadedSite w m at (Number n)
number_after l w m at n h c s =
    let is : n ≡ s.value = (let e = s.is in cc) in
    let known = slots_of_well l w h.well in
    let kept = all_kept l (start_of l role.Got) (end_of l role.Got) (got_sites l) (site at (Number n)) (all_spaced l) (got_ascends l w h.laws.filled.ascend h.laws.filled.slots.stored known) c tt in
    record { value = s.value; fits = s.fits; held = by_kept kept; is = sym is }
  where
    by_second : IsSecond (got_sites l) at → Holds m (w.base + at) (word 8 s.value)
    by_second x = by_word x.first.at x.first.word x.entry x.listed x.is x.wide x.place (All-contains (SiteIsKnown l w) (got_sites l) x.first (sites_known l w h.laws.filled.slots (slots_of_well l w h.well)) x.listed)
      where
        by_word : (first : ℕ) (d : SlotWord) (e : SlotEntry) → Contains (got_sites l) (site first d) → entry_in d ≡ Some e → filled_width e ≡ 16 → at ≡ first + 8 → SiteIsKnown l w (site first d) → Holds m (w.base + at) (word 8 s.value)
        by_word first (Number k) e c is wide place known = cc
        by_word first (Address v) e c is wide place known = cc
        by_word first (InRelrGot v) e c is wide place known = cc
        by_word first (General x) e c is wide place known =
            let same : x ≡ e = cc in
            let wide' = subst (λ (y : SlotEntry). filled_width y ≡ 16) (sym same) wide in
            second_after l w m at s.value first x known.fills.change place wide' known.fills.fills (slot_made l w m first GeneralTable x (General x) h c tt refl known.stored known.fills) s.held
        by_word first (Plt x) e c is wide place known =
            let same : x ≡ e = cc in
            let wide' = subst (λ (y : SlotEntry). filled_width y ≡ 16) (sym same) wide in
            second_after l w m at s.value first x known.fills.change place wide' known.fills.fills (slot_made l w m first JumpTable x (Plt x) h c tt refl known.stored known.fills) s.held

    by_kept : All (IsClear at) (slots_filled l) ⊎ IsSecond (got_sites l) at → Holds m (w.base + at) (word 8 s.value)
    by_kept (inl clear) = kept_word l w m at s.value h s.stands s.held (λ k lt i d b. clear_misses at k (get_or (slots_filled l) i d) lt (clear i d b))
    by_kept (inr second) = by_second second

-- ---- any word

pub site_after : (l : Layout) (w : World) (m : Memory) (at : ℕ) (d : SlotWord) → IsMovedImage l w m → Contains (got_sites l) (site at d) → ((a : ℕ) → d ≡ InRelrGot a → Contains (all_sites l) (site at d)) → IsLoadedSite w m at d
site_after l w m at d h c own = by_word d c own (All-contains (SiteIsKnown l w) (got_sites l) (site at d) (sites_known l w h.laws.filled.slots (slots_of_well l w h.well)) c)
  where
    by_word : (d : SlotWord) → Contains (got_sites l) (site at d) → ((a : ℕ) → d ≡ InRelrGot a → Contains (all_sites l) (site at d)) → SiteIsKnown l w (site at d) → IsLoadedSite w m at d
    by_word (Number n) c own k = number_after l w m at n h c k.stored
    by_word (Address v) c own k = address_after l w m at v h c k
    by_word (InRelrGot v) c own k = block_after l w m at v h (own v refl) k.stored
    by_word (General e) c own k =
        let x = entry_after l w m at e (General e) h.applied.machine k.stored k.fills (slot_made l w m at GeneralTable e (General e) h c tt refl k.stored k.fills) in
        record { value = x.value; fits = x.fits; held = x.held; is = x.is }
    by_word (Plt e) c own k =
        let x = entry_after l w m at e (Plt e) h.applied.machine k.stored k.fills (slot_made l w m at JumpTable e (Plt e) h c tt refl k.stored k.fills) in
        record { value = x.value; fits = x.fits; held = x.held; is = x.is }
