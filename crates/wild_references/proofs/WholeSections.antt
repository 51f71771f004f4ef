-- The fields of a kept item that memory has as it was decided hold.
use Rattle.wild_references.proofs.Common.{◌≡◌, sym, subst, Machine, Item, Layout, NumbersFit, IsLaidOut, Memory, World, KeepsAll, IsLoadable, processor_of, SymbolsFit, MovesByPages, IsPlaced, HasBytes, IsLoadedItem}
use Rattle.wild_types.specs.ResolvedFlags.{HaveTheirFlags}
use Rattle.wild_geometry.specs.Slots.{HasSlots}
use Rattle.wild_meaning.specs.World.{IsLegal}
use Rattle.wild_meaning.proofs.OutputLemmas.{still_fixed, moving_movable}
use Rattle.wild_references.proofs.KeptItems.{item_lies, addends_fit}
use Rattle.wild_references.specs.Laws.{ItemFieldsHold}
use Rattle.wild_references.specs.Thunks.{ThunksJumpToTargets}
use Rattle.wild_references.proofs.Fields.{Tables, KindLaws, LinkedLaws, IsItemLoaded}
use Rattle.wild_references.proofs.References.{field_holds, field_links}

-- ---- a layout in a legal world

symbols_fit : (l : Layout) → HaveTheirFlags l → NumbersFit l → IsLaidOut l → SymbolsFit l
symbols_fit l own numbers laid = record { named = laid.definitions; final = laid.final; own = own; flags = laid.slot_flags; dynsyms = laid.dynsyms; numbers = numbers.symbols }

pub placed_output : (l : Layout) (w : World) (m : Memory) → MovesByPages l.machine l w → IsLoadable l.kind → HaveTheirFlags l → NumbersFit l → IsLegal l w → IsLaidOut l → m.machine ≡ processor_of l.machine → (KeepsAll l → HasSlots l w m) → IsPlaced l w m
placed_output l w m paged loadable own numbers legal laid loaded slots = record {
  paged = paged;
  loadable = loadable;
  still = λ e. legal.fixed (still_fixed l.kind loadable e);
  movable = moving_movable l.kind;
  legal = legal;
  got = numbers.got;
  tls_start = numbers.tls.start;
  tls_end = numbers.tls.end;
  symbols = symbols_fit l own numbers laid;
  loaded = loaded;
  slots = slots;
}

pub placed : (k : Machine) (l : Layout) (w : World) (m : Memory) (s : Item) → IsLoadedItem k l w m s → IsPlaced l w m
placed k l w m s h = placed_output l w m (subst (λ (j : Machine). MovesByPages j l w) (sym h.on) h.paged) h.loadable h.flags h.numbers h.legal h.laid h.loaded h.slots

-- ---- a kept item

item_loaded : (k : Machine) (l : Layout) (w : World) (m : Memory) (s : Item) → Tables → KindLaws → LinkedLaws → ThunksJumpToTargets → IsLoadedItem k l w m s → IsItemLoaded l w m s
item_loaded k l w m s tables kinds linked go h =
    let lies = item_lies l s h.loadable h.laid h.kept in
    let there = placed k l w m s h in
    record {
      tables = tables;
      kinds = kinds;
      linked = linked;
      placed = there;
      thunks = λ all. go l w m there.paged h.loaded h.laid (h.thunks all);
      room = lies.room;
      symbols = lies.symbols;
      addends = addends_fit l s h.numbers h.kept;
      bytes = subst (λ (j : Machine). HasBytes j s) (sym h.on) h.bytes;
      low = lies.low;
      lies = lies.lies;
      stage = h.stage;
      moved = h.moved;
      item = h.item;
    }

pub item_fields_hold : Tables → KindLaws → LinkedLaws → ThunksJumpToTargets → ItemFieldsHold
item_fields_hold tables kinds linked go = λ k l w m s h.
    let there = item_loaded k l w m s tables kinds linked go h in
    record {
      references = λ i r kept present asked alone. field_holds l w m s i r there kept present asked alone;
      linked = λ i r kept present asked a. field_links l w m s i r there kept present asked a;
    }
