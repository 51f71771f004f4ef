-- What applying the tables of an image made of the bytes that they fill, and of all others.
use Rattle.wild_loaded.proofs.Common.{◌≡◌, ℕ, ◌+◌, ◌%◌, ◌^◌, ◌<◌, List, ◌++◌, length, refl, sym, ap, ◌∙◌, arith, subst, ⊤, Some, All, Contains, flat_map, All-contains, Contains-append_left, Contains-append_right, word, number, number-word, Rela, Layout, Contains-flat_map, Change, Memory, World, kind_of, size_of, patch_over, Holds, byte_in, places, loaded_at, processor_of, image_memory, BlanksAreStored, FileBytesAreStored, TextsAreStored, tables_of, place_change, entry_change}
use Rattle.std.proofs.lemmas.List.Sorted.{Contains-permutation}
use Rattle.wild_loader.specs.declared.memory.Machine.{Machine as Processor}
use Rattle.wild_slots.specs.SlotPlaces.{SlotsArePlaced}
use Rattle.wild_loaded.specs.Laws.{ThunksAreThere}
use Rattle.wild_loaded.specs.Words.{value_at}
use Rattle.wild_loaded.proofs.Fillings.{Table, PackedTable, RelativeTable, GeneralTable, JumpTable, Filling, Misses, IsKnown, packed_at, packed_in, relative_in, general_in, jump_in}
use Rattle.wild_loaded.proofs.FilledTables.{AreSorted, value_is, entry_made, entry_is, all_elsewhere}
use Rattle.wild_loaded.proofs.Loads.{image_machine}
use Rattle.wild_loaded.proofs.SectionsKnown.{MakesThat}
use Rattle.wild_loaded.proofs.SectionFillings.{section_fillings}
use Rattle.wild_loaded.proofs.PlacesApart.{HavePlaces}
use Rattle.wild_loaded.proofs.TableLists.{all_fillings}
use Rattle.wild_loaded.proofs.AllTables.{FilledLaws, IsFilledWell, SlotTables}
use Rattle.wild_loaded.specs.LoadedMemory.{IsMade, HasApplied}

-- what the crates below owe of memory
pub record MovingLaws : Type 0 where
  pub filled : FilledLaws
  pub stand : SlotsArePlaced
  pub blanks : BlanksAreStored
  pub thunks : ThunksAreThere
  pub texts : TextsAreStored
  pub file : FileBytesAreStored

-- an image whose tables were applied
pub record IsMovedImage (l : Layout) (w : World) (m : Memory) : Type 0 where
  pub laws : MovingLaws
  pub well : IsFilledWell l w
  pub sections : HavePlaces l (section_fillings l)
  pub slots : SlotTables l
  pub sorted : AreSorted w (image_memory l w) (tables_of l) (all_fillings l w)
  pub applied : HasApplied l w m

-- ---- bytes that no table fills

-- such a byte is as before
pub kept_at : (l : Layout) (w : World) (m : Memory) (a : ℕ) → IsMovedImage l w m → All (Misses a) (all_fillings l w) → byte_in m (w.base + a) ≡ byte_in (image_memory l w) (w.base + a)
kept_at l w m a h out = h.applied.others (w.base + a) (all_elsewhere w (image_memory l w) (tables_of l) (all_fillings l w) a h.laws.filled.changes h.sorted out)

-- ---- packed places

-- the word at a packed place is more by the base
pub packed_made : (l : Layout) (w : World) (m : Memory) (a v : ℕ) → IsMovedImage l w m → Contains (all_fillings l w) (packed_at a) → v < 2 ^ 64 → Holds (image_memory l w) (loaded_at w a) (word 8 v) → Holds m (loaded_at w a) (word 8 ((v + w.base) % 2 ^ 64))
packed_made l w m a v h c fits held =
    let among = Contains-flat_map packed_in (all_fillings l w) (packed_at a) a c (0, omega arith, refl) in
    let listed = Contains-permutation (flat_map packed_in (all_fillings l w)) (places (tables_of l).words) a h.sorted.packed among in
    let made = (All-contains (λ (x : ℕ). IsMade m (place_change w (image_memory l w) x)) (places (tables_of l).words) a h.applied.words listed).held in
    let e = value_is w (image_memory l w) a v h.laws.filled.changes.read fits held in
    let n : number (word 8 (value_at w (image_memory l w) a)) ≡ v = ap (λ (k : ℕ). number (word 8 k)) e ∙ number-word 8 v fits in
    subst (λ (k : ℕ). Holds m (loaded_at w a) (word 8 ((k + w.base) % 2 ^ 64))) n made

-- ---- entries

abbrev pub HasEntry : Table → Type 0
HasEntry PackedTable = ⊥
HasEntry other = ⊤

entry_listed : (l : Layout) (w : World) (m : Memory) (x : Filling) → IsMovedImage l w m → Contains (all_fillings l w) x → HasEntry x.table → Contains ((tables_of l).entries ++ (tables_of l).jumps) x.entry
entry_listed l w m x h c some = by_table x.table x.entry x.width c some
  where
    entries : (e : Rela) → Contains (flat_map relative_in (all_fillings l w) ++ flat_map general_in (all_fillings l w)) e → Contains ((tables_of l).entries ++ (tables_of l).jumps) e
    entries e k = Contains-append_left (tables_of l).entries (tables_of l).jumps e (Contains-permutation (flat_map relative_in (all_fillings l w) ++ flat_map general_in (all_fillings l w)) (tables_of l).entries e h.sorted.entries k)

    by_table : (t : Table) (e : Rela) (n : ℕ) → Contains (all_fillings l w) (record { table = t; entry = e; width = n }) → HasEntry t → Contains ((tables_of l).entries ++ (tables_of l).jumps) e
    by_table PackedTable e n c some = absurd some
    by_table RelativeTable e n c some = entries e (Contains-append_left (flat_map relative_in (all_fillings l w)) (flat_map general_in (all_fillings l w)) e (Contains-flat_map relative_in (all_fillings l w) (record { table = RelativeTable; entry = e; width = n }) e c (0, omega arith, refl)))
    by_table GeneralTable e n c some = entries e (Contains-append_right (flat_map relative_in (all_fillings l w)) (flat_map general_in (all_fillings l w)) e (Contains-flat_map general_in (all_fillings l w) (record { table = GeneralTable; entry = e; width = n }) e c (0, omega arith, refl)))
    by_table JumpTable e n c some = Contains-append_right (tables_of l).entries (tables_of l).jumps e (Contains-permutation (flat_map jump_in (all_fillings l w)) (tables_of l).jumps e h.sorted.jumps (Contains-flat_map jump_in (all_fillings l w) (record { table = JumpTable; entry = e; width = n }) e c (0, omega arith, refl)))

-- what an entry made, over the bytes before
pub record IsMadeOver (w : World) (before m : Memory) (x : Filling) (c : Change) : Type 0 where
  pub old : List ℕ
  pub wide : length old ≡ x.width
  pub held : Holds before (loaded_at w x.entry.offset) old
  pub made : IsMade m (patch_over (loaded_at w x.entry.offset) c old)

pub made_over : (l : Layout) (w : World) (m : Memory) (x : Filling) (c : Change) → IsMovedImage l w m → Contains (all_fillings l w) x → HasEntry x.table → MakesThat (processor_of l.machine) w x.entry c → size_of c ≡ x.width → IsMadeOver w (image_memory l w) m x c
made_over l w m x c h listed some makes size =
    let before = image_memory l w in
    let known = All-contains (IsKnown w before) (all_fillings l w) x h.sorted.known listed in
    let patch = entry_is w before x.entry (patch_over (loaded_at w x.entry.offset) c known.old) (entry_made w before x.entry makes.kind c known.old h.laws.filled.changes (subst (λ (p : Processor). kind_of p x.entry.number ≡ Some makes.kind) (sym (image_machine l w)) makes.known) makes.made known.held (known.wide ∙ sym size)) in
    let made = All-contains (λ (e : Rela). IsMade m (entry_change w before e)) ((tables_of l).entries ++ (tables_of l).jumps) x.entry h.applied.entries (entry_listed l w m x h listed some) in
    record { old = known.old; wide = known.wide; held = known.held; made = subst (IsMade m) patch made }
