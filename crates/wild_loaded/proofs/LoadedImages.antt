-- The image of a layout is loaded: its addresses move, what is left to entries is filled, and nothing else changes.
use Rattle.wild_loaded.proofs.Common.{not_partial, ◌≡◌, ℕ, ◌+◌, Bool, true, false, [], length, refl, sym, ap, ◌∙◌, arith, subst, Some, Ok, Contains, if◌then◌else◌, All-contains, Contains-append_right, Contains-map, Layout, copies_of, is_library, KeepsAll, needs_dynamic, file_header, section_headers_of, bytes, copy_entry, Contains-flat_map, Memory, Answer, World, byte_in, Holds, loaded_at, section_relas, patches_of, OrderDoesNotMatter, NumbersFit, IsLaidOut, IsLoadable, IsLegal, IsPastFileBytes, IsCopied, HasCopy, image_memory, headers_of, HasWholeSlots, tables_of, SegmentsAreLoadable, TablesAreFound, place_change, entry_change, Item, block_for, HasItem}
use Rattle.wild_geometry.proofs.KeptItems.{kept_items_placed}
use Rattle.wild_geometry.specs.PlacedSections.{KeptItemsArePlaced}
use Rattle.wild_types.specs.declared.file.FileRole.{FileRole}
use Rattle.wild_types.specs.declared.file.FileRole.TheVariants as file_role
use Rattle.wild_loader.specs.declared.change.Change.TheVariants as changes
use Rattle.wild_loader.specs.declared.kind.DynamicKind.TheVariants as kinds
use Rattle.wild_loader.specs.Load.{load}
use Rattle.wild_loader.specs.Relocate.{memory_with_patches}
use Rattle.wild_loader.specs.Laws.{DynamicImagesAreLoaded, StaticImagesAreLoaded}
use Rattle.wild_loader.specs.EntryLaws.{TablesAreApplied}
use Rattle.wild_loader.proofs.ImageLemmas.{no-dynamic}
use Rattle.wild_meaning.specs.LinkedImage.{IsNotCopied}
use Rattle.wild_loaded.specs.Laws.{HeadersAreThere, SectionTablesAreFound}
use Rattle.wild_loaded.specs.FilledLaws.{AreMade, TablesAreMade}
use Rattle.wild_loaded.proofs.Fillings.{IsKnown, place_loaded}
use Rattle.wild_geometry.specs.Loaded.{InMemory}
use Rattle.wild_meaning.specs.Item.{IsKept}
use Rattle.wild_loaded.proofs.KeptSections.{kept_well}
use Rattle.wild_loaded.proofs.FilledSections.{have_places}
use Rattle.wild_loaded.proofs.CopyFillings.{group_copies, all_copies, width_by, copy_width, copy_filling, copies_filled}
use Rattle.wild_loaded.proofs.TableLists.{stored_fillings, all_fillings}
use Rattle.wild_loaded.proofs.AllTables.{IsFilledWell, slot_tables, tables_sorted}
use Rattle.wild_loaded.specs.LoadedMemoryLaws.{MemoryHasChanges, ImagesAreLoaded}
use Rattle.wild_loaded.specs.LoadedMemory.{HasApplied}
use Rattle.wild_loaded.proofs.MadeChanges.{MovingLaws, IsMovedImage, kept_at, made_over}
use Rattle.wild_loaded.proofs.OutsideTables.{behind_miss}
use Rattle.wild_loaded.proofs.SectionsMoved.{section_moved}
use Rattle.wild_loaded.proofs.Blanks.{blank_moved}
use Rattle.wild_loaded.proofs.SlotsLoaded.{slots_loaded}
use Rattle.wild_loaded.proofs.ThunksHeld.{thunks_moved}
use Rattle.wild_loaded.proofs.TextsHeld.{texts_moved}
use Rattle.wild_loaded.proofs.StillBytes.{still_held}
use Rattle.wild_loaded.proofs.Notes.{has_changed, alone, alone_made, alone_apart, alone_changed}

moved_image : (l : Layout) (w : World) (m : Memory) → MovingLaws → IsFilledWell l w → HasApplied l w m → IsMovedImage l w m
moved_image l w m laws h applied = record {
  laws = laws;
  well = h;
  sections = have_places l laws.filled.carried h.kind h.keeps h.laid h.decided;
  slots = slot_tables l w laws.filled h;
  sorted = tables_sorted l w laws.filled h;
  applied = applied;
}

-- ---- zeros and copies

zero_moved : (l : Layout) (w : World) (m : Memory) (a : ℕ) → IsMovedImage l w m → IsPastFileBytes l a → IsNotCopied l w a → byte_in m (w.base + a) ≡ Some 0
zero_moved l w m a h b none = kept_at l w m a h (behind_miss l w m a h b none) ∙ h.laws.filled.copies.zeros l w a h.well.kind h.well.legal h.well.laid b

library : (r : FileRole) → r ≡ file_role.Dynamic → is_library r ≡ true
library r e = ap is_library e

copied_listed : (l : Layout) (i : ℕ) → IsCopied l i → Contains (all_copies l) i
copied_listed l i c =
    let here : Contains (copies_of c.file) i = subst (λ (b : Bool). Contains (if b then c.file.copies else []) i) (sym (library c.file.role c.library)) c.listed in
    Contains-flat_map group_copies l.groups c.group i c.grouped (Contains-flat_map copies_of c.group.files c.file i c.filed here)

copy_moved : (l : Layout) (w : World) (m : Memory) (i raw : ℕ) (x : Answer) → IsMovedImage l w m → HasCopy l w i raw x → Holds m (w.base + raw) x.bytes
copy_moved l w m i raw x h c =
    let k = h.laws.filled.copies.changes.copies l w i raw x h.well.numbers h.well.legal h.well.laid c in
    let wide : copy_width w (copy_entry l i) ≡ length x.bytes = ap width_by k.makes in
    let f = copy_filling l w i in
    let listed = Contains-append_right (stored_fillings l) (copies_filled l w) f (Contains-map (copy_filling l w) (all_copies l) i (copied_listed l i c.copied)) in
    let over = made_over l w m f (changes.Fill x.bytes) h listed tt (record { kind = kinds.Copy; known = k.known; made = k.makes }) (sym wide) in
    λ j lt. (
    let width : f.width ≡ length x.bytes = wide in
    let low = (All-contains (IsKnown w (image_memory l w)) (all_fillings l w) f h.sorted.known listed).low (omega (arith, width, lt)) in
    let at = place_loaded w f.entry.offset f.width (omega (arith, width, lt)) low in
    let there : loaded_at w f.entry.offset ≡ w.base + raw = at ∙ ap (λ (a : ℕ). w.base + a) k.place in
    subst (λ (a : ℕ). Holds m a x.bytes) there over.made.held j lt)

-- ---- items

item_moved : (l : Layout) (w : World) (m : Memory) (s : Item) → KeptItemsArePlaced → IsMovedImage l w m → IsKept l s → HasItem l w m s InMemory
item_moved l w m s law h kept =
    let k = law l s (not_partial l.kind h.well.kind) h.well.laid kept in
    subst (λ (i : Item). HasItem l w m i InMemory) (sym k.is) (section_moved l w m (block_for l k.kept.input.owner k.section) k.section h (kept_well l k.section h.well.laid h.well.decided k.kept))

pub memory_moved : MovingLaws → MemoryHasChanges
memory_moved laws = λ l w m keeps kind numbers legal laid loaded decided whole none applied.
    let h = moved_image l w m laws (record { keeps = keeps; kind = kind; numbers = numbers; legal = legal; laid = laid; decided = decided; whole = whole; none = none }) applied in
    record {
      items = λ s kept. item_moved l w m s kept_items_placed h kept;
      slots = slots_loaded l w m h;
      thunks = thunks_moved l w m laws.thunks h;
      zeros = λ a b free. zero_moved l w m a h b free;
      blanks = λ s k b f lt. blank_moved l w m s k laws.blanks h b f lt;
      copies = λ i raw y c. copy_moved l w m i raw y h c;
      texts = texts_moved l w m laws.texts h loaded;
      still = λ a b file free. still_held l w m a b laws.file h file free;
    }

-- ---- the image

-- what the laws of this crate and of those below owe of an image
pub record ImageLaws : Type 0 where
  pub headers : HeadersAreThere
  pub segments : SegmentsAreLoadable
  pub found : TablesAreFound
  pub sections : SectionTablesAreFound
  pub made : TablesAreMade
  pub applied : TablesAreApplied
  pub order : OrderDoesNotMatter
  pub moved : MemoryHasChanges
  pub dynamic : DynamicImagesAreLoaded
  pub static : StaticImagesAreLoaded

-- what a loader makes of the image
record IsLoadedBy (l : Layout) (w : World) : Type 0 where
  memory : Memory
  accepted : load w (bytes l) ≡ Ok memory
  applied : HasApplied l w memory

dynamic_loaded : (l : Layout) (w : World) → ImageLaws → KeepsAll l → needs_dynamic l.kind ≡ true → IsLoadable l.kind → NumbersFit l → IsLegal l w → IsLaidOut l → HasWholeSlots l → AreMade l w → IsLoadedBy l w
dynamic_loaded l w laws keeps needs kind numbers legal laid whole made =
    let t = laws.found l keeps needs numbers laid whole in
    let before = image_memory l w in
    let is = laws.dynamic w (bytes l) (file_header l) (headers_of l) (section_headers_of l l.sections) t.entries (tables_of l) (laws.headers.stand l kind numbers laid) (laws.headers.taken l kind) (laws.segments.loadable l w kind legal laid) t.dynamic t.tables in
    let h = has_changed w before (tables_of l) laws.applied made.made made.apart in
    record {
      memory = memory_with_patches before (patches_of (tables_of l) (place_change w before) (entry_change w before));
      accepted = is ∙ h.is;
      applied = record { machine = h.machine ∙ laws.segments.machine l w; words = h.words; entries = h.entries; others = h.others };
    }

static_loaded : (l : Layout) (w : World) → ImageLaws → KeepsAll l → needs_dynamic l.kind ≡ false → IsLoadable l.kind → NumbersFit l → IsLegal l w → IsLaidOut l → HasWholeSlots l → AreMade l w → IsLoadedBy l w
static_loaded l w laws keeps plain kind numbers legal laid whole made =
    let t = laws.sections l keeps kind plain numbers laid whole in
    let before = image_memory l w in
    let rs = section_relas (section_headers_of l l.sections) t.of in
    let is = laws.static w (bytes l) (file_header l) (headers_of l) (section_headers_of l l.sections) t.of (laws.headers.stand l kind numbers laid) (laws.headers.taken l kind) (laws.segments.loadable l w kind legal laid) (no-dynamic (headers_of l) t.static) t.told t.sections in
    let h = has_changed w before (alone rs) laws.applied (alone_made w before (tables_of l) rs t.all made.made) (alone_apart w before (tables_of l) rs laws.order t.words t.all made.apart) in
    let back = alone_changed w before (memory_with_patches before (patches_of (alone rs) (place_change w before) (entry_change w before))) (tables_of l) rs t.words t.all h in
    record {
      memory = memory_with_patches before (patches_of (alone rs) (place_change w before) (entry_change w before));
      accepted = is ∙ h.is;
      applied = record { machine = h.machine ∙ laws.segments.machine l w; words = back.0.0; entries = back.0.1; others = back.1 };
    }

pub images_loaded : ImageLaws → ImagesAreLoaded
images_loaded laws = λ l w keeps kind numbers legal laid parts decided whole none.
    let made = laws.made l w keeps kind numbers legal laid decided whole none in
    let loaded = by_kind l w keeps (needs_dynamic l.kind) refl kind numbers legal laid whole made in
    let h = laws.moved l w loaded.memory keeps kind numbers legal laid parts decided whole none loaded.applied in
    record {
      memory = loaded.memory;
      accepted = loaded.accepted;
      machine = loaded.applied.machine;
      items = h.items;
      slots = h.slots;
      thunks = h.thunks;
      zeros = h.zeros;
      blanks = h.blanks;
      copies = h.copies;
      texts = h.texts;
      still = h.still;
    }
  where
    by_kind : (l : Layout) (w : World) → KeepsAll l → (b : Bool) → needs_dynamic l.kind ≡ b → IsLoadable l.kind → NumbersFit l → IsLegal l w → IsLaidOut l → HasWholeSlots l → AreMade l w → IsLoadedBy l w
    by_kind l w keeps true needs kind numbers legal laid whole made = dynamic_loaded l w laws keeps needs kind numbers legal laid whole made
    by_kind l w keeps false plain kind numbers legal laid whole made = static_loaded l w laws keeps plain kind numbers legal laid whole made
