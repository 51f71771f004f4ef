-- Each stub in memory goes on to the address in its symbol's first slot.
use Rattle.wild_references.proofs.Common.{◌≡◌, ℕ, ◌+◌, Bool, true, false, List, ◌∷◌, Option, Some, None, refl, sym, ap, ◌∙◌, subst, is_some, if◌then◌else◌, GotEntry, holds_at, Resolution, Layout, has_flag, HasItsFlags, resolved_got, plt_of, has_dynamic_symbol, has_thread_slot, SlotItem, SlotWord, General, setting_of, named, general, Memory, World, HasWord, IsDefinedBy, canonical_is}
use Rattle.wild_reloc.specs.declared.dynamic.DynamicRelocationKind.TheVariants.{JumpSlot}
use Rattle.wild_types.specs.Flags.{canonical_plt}
use Rattle.wild_types.specs.SymbolSlots.{resolved_plt}
use Rattle.wild_plan_rules.proofs.ClauseLemmas.{not_thread}
use Rattle.wild_slot.specs.declared.slot.SlotItem.TheVariants.{Word}
use Rattle.wild_slot.specs.declared.slot.SlotWord.TheVariants.{Plt}
use Rattle.wild_slot.specs.Slots.{plt, plain_item}
use Rattle.wild_references.specs.Stubs.{StubsJumpToSlots, StubsAreOfSymbols}
use Rattle.wild_references.proofs.Symbols.{IsResolvedBy}
use Rattle.wild_references.proofs.WholeSections.{placed_output}
use Rattle.wild_references.proofs.SlotContents.{ItemsHold}
use Rattle.wild_references.proofs.SlotFlags.{listed_at, slot_of_stub}
use Rattle.wild_references.proofs.FirstSlots.{own_item, own_is, symbol_held, as_address, items_behind}
use Rattle.wild_references.proofs.StubCode.{StubLaws, has_places, stub_code}
use Rattle.wild_references.proofs.SymbolStubs.{in_reach, stub_from, stub_is}

-- what memory has of slots that begin with a word
record BeginsWithWord (w : World) (m : Memory) (at : ℕ) (rest : List SlotItem) : Type 0 where
  pub word : ℕ
  pub there : HasWord m (w.base + at) word
  pub behind : ItemsHold w m (at + 8) rest

begins : (w : World) (m : Memory) (at : ℕ) (v : SlotWord) (rest : List SlotItem) → ItemsHold w m at (Word v ∷ rest) → BeginsWithWord w m at rest
begins w m at v rest h = let x = h.0 in record { word = x.0; there = x.1; behind = h.1 }

-- those of an address do
first_word : (l : Layout) (w : World) (m : Memory) (at : ℕ) (r : Resolution) (rest : List SlotItem) → ItemsHold w m at (plain_item (setting_of l) r ∷ rest) → BeginsWithWord w m at rest
first_word l w m at r rest h = by_tests (has_flag r.flags canonical_plt) (has_dynamic_symbol r.flags) h
  where
    entry : (o : Option ℕ) (word : ℕ → SlotWord) → ItemsHold w m at (named o (λ d. Word (word d)) ∷ rest) → BeginsWithWord w m at rest
    entry None word h = absurd h
    entry (Some d) word h = begins w m at (word d) rest h

    by_tests : (canonical looked : Bool) → ItemsHold w m at ((if canonical then named r.dynamic_symbol_index (λ d. plt JumpSlot d 0) else if looked then named r.dynamic_symbol_index (λ d. general GotEntry d 0) else own_item (setting_of l) r) ∷ rest) → BeginsWithWord w m at rest
    by_tests true looked h = entry r.dynamic_symbol_index (λ d. Plt (record { kind = JumpSlot; symbol = d; addend = 0 })) h
    by_tests false true h = entry r.dynamic_symbol_index (λ d. General (record { kind = GotEntry; symbol = d; addend = 0 })) h
    by_tests false false h = begins w m at _ rest (subst (λ (x : SlotItem). ItemsHold w m at (x ∷ rest)) (own_is (setting_of l) r) h)

has_resolution : (o : Option Resolution) (r : Resolution) → o ≡ Some r → is_some o ≡ true
has_resolution None r h = cc
has_resolution (Some q) r h = refl

pub each_stub : StubLaws → StubsJumpToSlots
each_stub law = λ l w m x machine own agrees slots i p s r listed decided stub.
    let flags = agrees.resolved i s listed (has_resolution s.resolution r decided) in
    let has : plt_of s ≡ Some p = ap resolved_plt decided ∙ stub in
    let slot = slot_of_stub s p flags.stub has in
    let at = slot.0 in
    let given : r.got_address ≡ Some at = sym (ap resolved_got decided) ∙ slot.1 in
    let plain : has_thread_slot r.flags ≡ false = ap has_thread_slot (holds_at HasItsFlags l.symbols i s listed own r decided) ∙ not_thread s p flags.alone has in
    let here = slots.symbols i at s listed slot.1 in
    let items = as_address l w m at r given plain (symbol_held l w m at s r here decided) in
    let first = first_word l w m at r (items_behind l r) items in
    record {
      slot = at;
      given = given;
      target = first.word;
      word = first.there;
      code = stub_code law l m w.base at p first.word (has_places l w i at s x listed slot.1) machine (in_reach l w m at p r given stub first.behind) (here.stub p has) first.there;
    }

-- ---- each represents its symbol

pub stubs_of_symbols : StubLaws → StubsAreOfSymbols
stubs_of_symbols law = λ l w m all paged loads own numbers legal laid loaded slots i p h.
    let d : IsResolvedBy l i h.resolution = record { symbol = h.symbol; listed = listed_at l i h.definition h.symbol h.defined h.listed; defined = subst (λ (c : ℕ). IsDefinedBy l i c) (sym (canonical_is l i h.definition h.defined)) h.defined; decided = h.decided } in
    stub_is l w m i p (stub_from law l w m i p h.resolution (placed_output l w m paged loads own numbers legal laid loaded (λ keeps. slots)) all d h.stub)
