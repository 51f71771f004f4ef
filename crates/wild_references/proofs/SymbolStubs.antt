-- The stub of a symbol: code that goes there comes to the symbol's value.
use Rattle.wild_references.proofs.Common.{◌≡◌, ℕ, ◌+◌, ◌%◌, ◌^◌, ◌<◌, ◌⊎◌, inl, inr, Bool, true, false, List, ◌∷◌, ◌++◌, Option, Some, None, refl, sym, ap, ◌∙◌, arith, subst, Ok, if◌then◌else◌, option_and_then, SlotItem, Resolution, ValueFlags, Layout, KeepsAll, canonical, setting_of, stub_items, ifunc_address_items, canonical_address_items, distance_if_too_far, resolved_got, plt_of, has_thread_slot, resolution_of, stub_of, stub_address, Memory, World, Value, StubDistance, Distance, InputRelocation, IsTarget, is_listed, branch_types, HasValue, Word, HasWord, JumpsBy, Denotes, HasStub, IsStub, IsPlaced}
use Rattle.wild_types.specs.declared.fault.Missing.TheVariants as missing
use Rattle.wild_slot.specs.Slots.{stub_item}
use Rattle.wild_slot.specs.MachineStub.{far_between, stub_in}
use Rattle.wild_types.specs.SymbolSlots.{resolved_plt}
use Rattle.wild_plan_rules.proofs.ClauseLemmas.{not_thread}
use Rattle.wild_meaning.specs.ReferentAArch64.{RepresentsOnAArch64}
use Rattle.wild_meaning.specs.Denotes.{stub_size}
use Rattle.wild_references.proofs.FirstSlots.{first_held, items_behind}
use Rattle.wild_references.proofs.SlotContents.{ItemsHold}
use Rattle.wild_references.proofs.SlotFlags.{symbol_fits, slot_of_stub}
use Rattle.wild_references.proofs.StubCode.{StubLaws, has_places, stub_code, stub_below}
use Rattle.wild_references.proofs.Symbols.{IsResolvedBy, resolved}
use Rattle.wild_references.proofs.WrittenFields.{given_some}

-- the stub of a symbol in memory, where all is written
pub record StubStands (l : Layout) (w : World) (m : Memory) (i stub : ℕ) : Type 0 where
  pub given : HasStub l i stub
  pub below : w.base + stub < 2 ^ 64
  pub value : ℕ
  pub is : HasValue l w i value
  pub slot : ℕ
  pub first : given.resolution.got_address ≡ Some slot
  pub word : HasWord m (w.base + slot) value
  pub code : JumpsBy l m (w.base + stub) stub_size (Word ((w.base + slot) % 2 ^ 64)) value

-- ---- it is in reach of its slot

-- a stub that is no fault
near : (w : World) (m : Memory) (at : ℕ) (far : Option ℕ) (more : List SlotItem) → ItemsHold w m at (stub_item far ∷ more) → far ≡ None
near w m at None more h = refl
near w m at (Some d) more h = absurd h

reach : (b : Bool) (d : ℕ) → (if b then None else Some d) ≡ None → b ≡ true
reach true d h = refl
reach false d h = cc

pub in_reach : (l : Layout) (w : World) (m : Memory) (at stub : ℕ) (r : Resolution) → r.got_address ≡ Some at → r.plt_address ≡ Some stub → ItemsHold w m (at + 8) (items_behind l r) → (stub_in l at stub).reaches ≡ true
in_reach l w m at stub r e f behind =
    let far = distance_if_too_far l r in
    let more = ifunc_address_items (setting_of l) r ++ canonical_address_items (setting_of l) r in
    let here = subst (λ (o : Option ℕ). ItemsHold w m (at + 8) (stub_items far o ++ more)) f behind in
    let none = near w m (at + 8) far more here in
    let same : far ≡ far_between l (Some at) (Some stub) = rw (e, f) refl in
    reach (stub_in l at stub).reaches (stub_in l at stub).distance (sym same ∙ none)

-- ---- it stands

resolved_stub : (l : Layout) (i stub : ℕ) → stub_of l i ≡ Some stub → (r : Resolution) × IsResolvedBy l i r × (r.plt_address ≡ Some stub)
resolved_stub l i stub h = by_resolution (resolution_of l i) refl h
  where
    by_resolution : (o : Option Resolution) → resolution_of l i ≡ o → option_and_then (λ (r : Resolution). r.plt_address) o ≡ Some stub → (r : Resolution) × IsResolvedBy l i r × (r.plt_address ≡ Some stub)
    by_resolution None e h = cc
    by_resolution (Some r) e h = (r, resolved l i r e, h)

-- where the writer knows of a stub the reader does
pub stub_there : (l : Layout) (i stub : ℕ) → stub_of l i ≡ Some stub → HasStub l i stub
stub_there l i stub h =
    let r = resolved_stub l i stub h in
    let d = r.1 in
    record { definition = canonical l i; defined = d.defined; symbol = d.symbol; listed = d.listed; resolution = r.0; decided = d.decided; stub = r.2 }

pub stub_from : StubLaws → (l : Layout) (w : World) (m : Memory) (i stub : ℕ) (r : Resolution) → IsPlaced l w m → KeepsAll l → IsResolvedBy l i r → r.plt_address ≡ Some stub → StubStands l w m i stub
stub_from law l w m i stub r p all d f =
    let s = d.symbol in
    let fits = symbol_fits l i s p.symbols d.listed in
    let flags : r.flags ≡ s.flags = fits.flags r d.decided in
    let has : plt_of s ≡ Some stub = ap resolved_plt d.decided ∙ f in
    let slot = slot_of_stub s stub fits.stub has in
    let at = slot.0 in
    let e : r.got_address ≡ Some at = sym (ap resolved_got d.decided) ∙ slot.1 in
    let plain : has_thread_slot r.flags ≡ false = ap (λ (f : ValueFlags). has_thread_slot f) flags ∙ not_thread s stub fits.alone has in
    let first = first_held l w m i at r p all d e plain in
    let held = ((p.slots all).symbols (canonical l i) at s d.listed slot.1).stub stub has in
    record {
      given = record { definition = canonical l i; defined = d.defined; symbol = s; listed = d.listed; resolution = r; decided = d.decided; stub = f };
      below = stub_below l m w.base at stub held;
      value = first.value;
      is = first.is;
      slot = at;
      first = e;
      word = first.there;
      code = stub_code law l m w.base at stub first.value (has_places l w (canonical l i) at s p.paged d.listed slot.1) p.loaded (in_reach l w m at stub r e f first.behind) held first.there;
    }

-- and memory has it
pub stub_stands : StubLaws → (l : Layout) (w : World) (m : Memory) (i stub : ℕ) → IsPlaced l w m → KeepsAll l → stub_of l i ≡ Some stub → StubStands l w m i stub
stub_stands law l w m i stub p all h = let r = resolved_stub l i stub h in stub_from law l w m i stub r.0 p all r.1 r.2

-- ---- it represents the symbol

stub_fits : (l : Layout) (w : World) (m : Memory) (i stub : ℕ) → StubStands l w m i stub → (w.base + stub) % 2 ^ 64 ≡ w.base + stub
stub_fits l w m i stub h = let low = h.below in omega (arith, low)

-- so it stands for the symbol
pub stub_is : (l : Layout) (w : World) (m : Memory) (i stub : ℕ) → StubStands l w m i stub → IsStub l w m i ((w.base + stub) % 2 ^ 64)
stub_is l w m i stub h = record { stub = stub; given = h.given; moves = refl; value = h.value; is = h.is; slot = h.slot; first = h.first; word = h.word; code = subst (λ (a : ℕ). JumpsBy l m a stub_size (Word ((w.base + h.slot) % 2 ^ 64)) h.value) (sym (stub_fits l w m i stub h)) h.code }

-- the writer's L is the reader's
pub goal_given : StubLaws → (l : Layout) (w : World) (m : Memory) (symbol : Option ℕ) (i term : ℕ) → IsPlaced l w m → KeepsAll l → symbol ≡ Some i → stub_address l symbol ≡ Ok term → IsTarget l w m symbol ((w.base + term) % 2 ^ 64)
goal_given law l w m symbol i term p all named given =
    let here : stub_address l (Some i) ≡ Ok term = subst (λ (o : Option ℕ). stub_address l o ≡ Ok term) named given in
    let goal : Denotes l w m i ((w.base + term) % 2 ^ 64) = inr (stub_is l w m i term (stub_stands law l w m i term p all (given_some missing.Stub i (stub_of l i) term here))) in
    subst (λ (o : Option ℕ). IsTarget l w m o ((w.base + term) % 2 ^ 64)) (sym named) goal

-- and it is L to an AArch64 reader: a branch with the addend is at what stands for the symbol and that; and S in a branch's distance
pub goal_stands : StubLaws → (v : Value) (l : Layout) (w : World) (m : Memory) (r : InputRelocation) (i term : ℕ) → IsPlaced l w m → KeepsAll l → (v ≡ StubDistance) ⊎ ((v ≡ Distance) × (is_listed r.number branch_types ≡ true)) → stub_address l (Some i) ≡ Ok term → RepresentsOnAArch64 v l w m r i ((w.base + term) % 2 ^ 64)
goal_stands law v l w m r i term p all which given =
    let there : Denotes l w m i ((w.base + term) % 2 ^ 64) = inr (stub_is l w m i term (stub_stands law l w m i term p all (given_some missing.Stub i (stub_of l i) term given))) in
    let P : Value → Type 0 = λ q. RepresentsOnAArch64 q l w m r i ((w.base + term) % 2 ^ 64) in
    elim which [
      | inl e ↦ subst P (sym e) (record { symbol = (w.base + term) % 2 ^ 64; denoted = there; comes = inl refl })
      | inr e ↦ subst P (sym e.0) (inr (e.1, there))
    ]
