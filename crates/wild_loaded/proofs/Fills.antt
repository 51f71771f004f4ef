-- What the entries of slots make a loader do in a legal world.
use Rattle.wild_loaded.proofs.Common.{◌≡◌, ℕ, ◌+◌, ◌%◌, ◌^◌, ◌<◌, inl, inr, refl, sym, arith, subst, Some, Contains, slice_get, Ok, w64, of_z-to_z, All-contains, listed_at, DynamicRelocationKind, Absolute, Relative, DtpMod, Irelative, Symbol, Layout, SlotEntry, SlotWord, slots_of, storage_words, NumbersFit, SymbolNumbers, IsLaidOut, entry_with, World, Change, change_of, processor_of, IsLegal, IsAnsweredOnce, entry_in, HasWholeSlots, FillsWords, FillsSlot}
use Rattle.wild_reloc.specs.declared.dynamic.DynamicRelocationKind.TheVariants.{Copy, GotEntry, JumpSlot, DtpOff, TpOff, TlsDesc}
use Rattle.wild_types.specs.ResolvedFlags.{HasItsFlags}
use Rattle.wild_loader.specs.declared.memory.Machine.{Machine as Processor}
use Rattle.wild_loader.specs.declared.memory.Machine.TheVariants as processors
use Rattle.wild_loader.specs.declared.change.Change.TheVariants as changes
use Rattle.wild_loader.specs.Changes.{sum_with_addend}
use Rattle.wild_geometry.specs.EntryKinds.{address_kind}
use Rattle.wild_meaning.specs.World.{HasResolver}
use Rattle.wild_slots.specs.Entries.{NamesSymbols, NamesModules, NamesItself, NamesResolver, IsKnownEntry, EntriesAreKnown}
use Rattle.wild_loaded.proofs.Answers.{answered, IsGiven, symbol_answer, index_small, IsKnownPair, known_pair}

abbrev entry : DynamicRelocationKind → ℕ → ℕ → SlotEntry
entry kind symbol addend = record { kind = kind; symbol = symbol; addend = addend }

-- ---- entries that name a symbol

-- GLOB_DAT and JUMP_SLOT
record StoresAddress (p : Processor) (w : World) (symbol addend : ℕ) : Type 0 where
  change : Change
  makes : change_of w (address_kind p) (entry_with 0 symbol addend) ≡ Ok change
  fills : FillsWords 8 change

stores_address : (p : Processor) (w : World) (symbol addend : ℕ) → IsGiven w symbol → StoresAddress p w symbol addend
unfolding change_of
stores_address processors.X86_64 w symbol addend g = record { change = changes.Word g.answer.address; makes = rw g.listed refl; fills = (refl, g.is.address) }
stores_address processors.AArch64 w symbol addend g = record { change = changes.Word (sum_with_addend g.answer.address (entry_with 0 symbol addend)); makes = rw g.listed refl; fills = (refl, omega arith) }

fills_address : (p : Processor) (w : World) (symbol addend : ℕ) → symbol < 2 ^ 32 → IsGiven w symbol → FillsSlot p w (entry GotEntry symbol addend)
fills_address p w symbol addend small g = (let a = stores_address p w symbol addend g in record { index = small; change = a.change; makes = a.makes; fills = a.fills })

fills_jump : (p : Processor) (w : World) (symbol addend : ℕ) → symbol < 2 ^ 32 → IsGiven w symbol → FillsSlot p w (entry JumpSlot symbol addend)
fills_jump p w symbol addend small g = (let a = stores_address p w symbol addend g in record { index = small; change = a.change; makes = a.makes; fills = a.fills })

fills_offset : (p : Processor) (w : World) (symbol addend : ℕ) → symbol < 2 ^ 32 → IsGiven w symbol → FillsSlot p w (entry DtpOff symbol addend)
unfolding change_of
fills_offset p w symbol addend small g = record {
  index = small;
  change = changes.Word (sum_with_addend g.answer.offset (entry_with 0 symbol addend));
  makes = rw g.listed refl;
  fills = (refl, omega arith);
}

-- ---- entries that name a module

fills_module : (p : Processor) (w : World) (symbol addend : ℕ) → symbol < 2 ^ 32 → IsKnownPair w symbol → FillsSlot p w (entry DtpMod symbol addend)
unfolding change_of
fills_module p w symbol addend small k = record {
  index = small;
  change = changes.Word k.pair.0;
  makes = rw k.given refl;
  fills = (refl, k.fits);
}

fills_thread : (p : Processor) (w : World) (symbol addend : ℕ) → symbol < 2 ^ 32 → IsKnownPair w symbol → FillsSlot p w (entry TpOff symbol addend)
unfolding change_of
fills_thread p w symbol addend small k = record {
  index = small;
  change = changes.Word (sum_with_addend ((k.distance + k.pair.1) % 2 ^ 64) (entry_with 0 symbol addend));
  makes = rw (k.given, k.known) refl;
  fills = (refl, omega arith);
}

fills_descriptor : (p : Processor) (w : World) (symbol addend : ℕ) → symbol < 2 ^ 32 → IsKnownPair w symbol → FillsSlot p w (entry TlsDesc symbol addend)
unfolding change_of
fills_descriptor p w symbol addend small k = record {
  index = small;
  change = changes.Descriptor (sum_with_addend ((k.distance + k.pair.1) % 2 ^ 64) (entry_with 0 symbol addend));
  makes = rw (k.given, k.known) refl;
  fills = refl;
}

-- ---- entries of resolvers

fills_chosen : (p : Processor) (w : World) (value : ℕ) → value < 2 ^ 64 → IsAnsweredOnce w ((w.base + value) % 2 ^ 64) → FillsSlot p w (entry Irelative 0 value)
unfolding change_of
fills_chosen p w value small a =
    let back = of_z-to_z w64 value small in
    record {
      index = omega arith;
      change = changes.Word a.answer;
      makes = rw (back, answered w ((w.base + value) % 2 ^ 64) a) refl;
      fills = (refl, a.fits);
    }

-- ---- by what the entry names

by_symbol : (l : Layout) (w : World) (k : DynamicRelocationKind) (symbol addend : ℕ) → IsLegal l w → symbol < 2 ^ 32 → IsGiven w symbol → NamesSymbols k → FillsSlot (processor_of l.machine) w (entry k symbol addend)
by_symbol l w GotEntry symbol addend legal small g h = fills_address (processor_of l.machine) w symbol addend small g
by_symbol l w JumpSlot symbol addend legal small g h = fills_jump (processor_of l.machine) w symbol addend small g
by_symbol l w DtpMod symbol addend legal small g h = fills_module (processor_of l.machine) w symbol addend small (known_pair l w symbol legal (inr g))
by_symbol l w DtpOff symbol addend legal small g h = fills_offset (processor_of l.machine) w symbol addend small g
by_symbol l w TpOff symbol addend legal small g h = fills_thread (processor_of l.machine) w symbol addend small (known_pair l w symbol legal (inr g))
by_symbol l w TlsDesc symbol addend legal small g h = fills_descriptor (processor_of l.machine) w symbol addend small (known_pair l w symbol legal (inr g))
by_symbol l w Absolute symbol addend legal small g h = absurd h
by_symbol l w Copy symbol addend legal small g h = absurd h
by_symbol l w Relative symbol addend legal small g h = absurd h
by_symbol l w Irelative symbol addend legal small g h = absurd h

by_module : (l : Layout) (w : World) (k : DynamicRelocationKind) (addend : ℕ) → IsLegal l w → NamesModules k → FillsSlot (processor_of l.machine) w (entry k 0 addend)
by_module l w DtpMod addend legal h = fills_module (processor_of l.machine) w 0 addend (omega arith) (known_pair l w 0 legal (inl refl))
by_module l w TpOff addend legal h = fills_thread (processor_of l.machine) w 0 addend (omega arith) (known_pair l w 0 legal (inl refl))
by_module l w TlsDesc addend legal h = fills_descriptor (processor_of l.machine) w 0 addend (omega arith) (known_pair l w 0 legal (inl refl))
by_module l w GotEntry addend legal h = absurd h
by_module l w JumpSlot addend legal h = absurd h
by_module l w DtpOff addend legal h = absurd h
by_module l w Absolute addend legal h = absurd h
by_module l w Copy addend legal h = absurd h
by_module l w Relative addend legal h = absurd h
by_module l w Irelative addend legal h = absurd h

itself_fills : (l : Layout) (w : World) (i : ℕ) (s : Symbol) (e : SlotEntry) → IsLegal l w → IsLaidOut l → slice_get l.symbols i ≡ Some s → NamesItself s e → FillsSlot (processor_of l.machine) w e
itself_fills l w i s e legal laid there n =
    by_symbol l w e.kind e.symbol e.addend legal
    (index_small l i e.symbol s n.resolution laid there n.resolved n.index)
    (symbol_answer l w i e.symbol s n.resolution legal there n.resolved n.index)
    n.kind

resolver_fills : (l : Layout) (w : World) (i : ℕ) (s : Symbol) (e : SlotEntry) → NumbersFit l → IsLegal l w → slice_get l.symbols i ≡ Some s → NamesResolver s e → FillsSlot (processor_of l.machine) w e
resolver_fills l w i s e numbers legal there n =
    let c = listed_at l.symbols i s there in
    let small = (All-contains SymbolNumbers l.symbols s numbers.symbols c n.resolution n.resolved).value in
    let a = All-contains (HasResolver w) l.symbols s legal.resolvers c n.indirect n.resolution n.resolved in
    let P : DynamicRelocationKind → Type 0 = λ k. FillsSlot (processor_of l.machine) w (entry k e.symbol e.addend) in
    let Q : ℕ → Type 0 = λ x. FillsSlot (processor_of l.machine) w (entry Irelative x e.addend) in
    let R : ℕ → Type 0 = λ x. FillsSlot (processor_of l.machine) w (entry Irelative 0 x) in
    subst P (sym n.kind) (subst Q (sym n.none) (subst R (sym n.is) (fills_chosen (processor_of l.machine) w n.resolution.raw_value small a)))

module_fills : (l : Layout) (w : World) (e : SlotEntry) → IsLegal l w → NamesModules e.kind → e.symbol ≡ 0 → FillsSlot (processor_of l.machine) w e
module_fills l w e legal k z =
    let Q : ℕ → Type 0 = λ x. FillsSlot (processor_of l.machine) w (entry e.kind x e.addend) in
    subst Q (sym z) (by_module l w e.kind e.addend legal k)

known_fills : (l : Layout) (w : World) (i : ℕ) (s : Symbol) (e : SlotEntry) → NumbersFit l → IsLegal l w → IsLaidOut l → slice_get l.symbols i ≡ Some s → IsKnownEntry s e → FillsSlot (processor_of l.machine) w e
known_fills l w i s e numbers legal laid there (inl n) = itself_fills l w i s e legal laid there n
known_fills l w i s e numbers legal laid there (inr (inl n)) = resolver_fills l w i s e numbers legal there n
known_fills l w i s e numbers legal laid there (inr (inr n)) = module_fills l w e legal n.0 n.1

pub slot_fills : (l : Layout) (w : World) (i k : ℕ) (s : Symbol) (d : SlotWord) (e : SlotEntry) → EntriesAreKnown → NumbersFit l → IsLegal l w → IsLaidOut l → HasWholeSlots l → slice_get l.symbols i ≡ Some s → slice_get (slots_of l s).words k ≡ Some d → entry_in d ≡ Some e → FillsSlot (processor_of l.machine) w e
slot_fills l w i k s d e law numbers legal laid slots there here is =
    let flags = All-contains HasItsFlags l.symbols s slots.order.resolved (listed_at l.symbols i s there) in
    known_fills l w i s e numbers legal laid there (law.words l s d e flags (listed_at (slots_of l s).words k d here) is)

pub pair_fills : (l : Layout) (w : World) (d : SlotWord) (e : SlotEntry) → EntriesAreKnown → IsLegal l w → Contains (storage_words l) d → entry_in d ≡ Some e → FillsSlot (processor_of l.machine) w e
pair_fills l w d e law legal c is =
    let known = law.pair l d e c is in
    module_fills l w e legal (subst NamesModules (sym known.0) tt) known.1
