-- The meaning of all layouts gives what is told by fields, calls and jumps, and other bytes.
use Rattle.wild_laws.proofs.Common.{◌≡◌, true, false, inl, inr, refl, sym, ◌∙◌, subst, Option, Some, Contains, slice_get, Machine, InputRelocation, InputSection, Layout, Formula, Memory, World, Item, formula_of, ReferenceHolds, ItemHolds, HasFirstTypes, IsThreadCall}
use Rattle.wild_types.specs.declared.kind.Machine.TheVariants as machine
use Rattle.wild_types.specs.declared.part.Part.{Part}
use Rattle.wild_types.specs.Lookups.{section_of_part, is_header_only_at, is_header_only_part}
use Rattle.wild_meaning.specs.Item.{IsLoadedSlot, IsKept, OfSection, placed_item}
use Rattle.wild_meaning.specs.Section.{IsHeaderOnly}
use Rattle.wild_meaning.proofs.BitLemmas.{bit_alloc}
use Rattle.wild_geometry.proofs.HeaderOnlyLemmas.{test_from_IsHollow}
use Rattle.wild_laws.specs.FirstTypes.{IsLoadedSection, IsRelocated, address_types, IsCall, IsJump, IsBranchField, IsSlotCall, IsSlotJump, GivesThreadAddress}
use Rattle.wild_laws.specs.FirstPath.{IsFollowed, HoldsByForms, HoldsByFields, HasValueOf, HasInstruction, DoesInstruction, MeaningGivesForms, MeaningGivesFields}
use Rattle.wild_laws.proofs.Readers.{does_so}
use Rattle.wild_laws.proofs.CodeX86_64.{of_address}
use Rattle.wild_laws.proofs.FieldsX86_64.{has_formula}
use Rattle.wild_laws.proofs.BranchesX86_64.{call_reaches, jump_reaches}
use Rattle.wild_laws.proofs.BytesX86_64.{other_byte}
use Rattle.wild_laws.proofs.SlotsX86_64.{slot_call_goes, slot_jump_goes}
use Rattle.wild_laws.proofs.BranchesAArch64.{call_goes, jump_goes}
use Rattle.wild_laws.proofs.FieldsAArch64.{number_has, word_byte}

-- nothing of a section that is written stands in a part that is not
section_written : (l : Layout) (s : InputSection) (p : Part) → is_header_only_part l s.part ≡ false → slice_get l.parts s.part ≡ Some p → IsHeaderOnly l p → ⊥
section_written l s p written e header_only =
    let t = test_from_IsHollow l p header_only in
    let f : is_header_only_at l p.section ≡ false = subst (λ (o : Option Part). is_header_only_at l (section_of_part o) ≡ false) e written in
    let both : true ≡ false = sym t ∙ f in
    cc

-- such a section is kept
pub kept : (l : Layout) (s : InputSection) (k : IsLoadedSection l s) → IsKept l (placed_item l k.file s)
kept l s h = OfSection s (record { input = record { group = h.group; grouped = h.grouped; file = h.file; filed = h.filed; listed = h.listed }; loaded = subst IsLoadedSlot (sym h.loaded) tt; room = bit_alloc s.flags h.carried; has_data = h.has_data; written = λ p e header_only. section_written l s p h.written e header_only }) refl

-- ---- every type

value_of : (l : Layout) (w : World) (m : Memory) (s : Item) (r : InputRelocation) (f : Formula) → formula_of l.machine r.number ≡ Some f → (HasInstruction l s r → ⊥) → ReferenceHolds l w m s r → HasValueOf l w m s r f
value_of l w m s r f is none (inl p) =
    let both : Some p.formula ≡ Some f = sym p.known ∙ is in
    let same : p.formula ≡ f = cc in
    subst (λ (g : Formula). HasValueOf l w m s r g) same (record { value = p.value; gives = p.gives; field = record { bytes = p.field.bytes; wide = p.field.wide; held = p.field.held; reads = p.field.reads } })
value_of l w m s r f is none (inr q) = absurd (none (record { start = q.start; instruction = q.instruction; first = q.first; template = q.template }))

does_instruction : (l : Layout) (w : World) (m : Memory) (s : Item) (r : InputRelocation) → HasInstruction l s r → ReferenceHolds l w m s r → DoesInstruction l w m s r
does_instruction l w m s r i (inl p) = record { of = i; does = p.does i.start i.instruction i.first i.template }
does_instruction l w m s r i (inr q) = record { of = record { start = q.start; instruction = q.instruction; first = q.first; template = q.template }; does = does_so l w m s q.first q.start q.instruction q.does }

-- ---- the whole

-- each reference that is asked and not left out holds
each_holds : (l : Layout) (w : World) (m : Memory) (s : Item) (r : InputRelocation) → ItemHolds l w m s → IsRelocated s r → IsFollowed l w s r → ReferenceHolds l w m s r
each_holds l w m s r all one follows = all.references r (record { listed = one.listed; refers = one.refers }) follows.2 follows.0 follows.1

item_forms : (l : Layout) (w : World) (m : Memory) (s : Item) → ItemHolds l w m s → HoldsByForms l w m s
item_forms l w m s all = record {
  fields = λ r f one follows is none. value_of l w m s r f is none (each_holds l w m s r all one follows);
  instructions = λ r one follows i. does_instruction l w m s r i (each_holds l w m s r all one follows);
}

-- what an x86-64 layout owes
fields_x86_64 : (l : Layout) (w : World) (m : Memory) (s : Item) → l.machine ≡ machine.X86_64 → ItemHolds l w m s → HoldsByFields l w m s
fields_x86_64 l w m s x all =
    let holds : (r : InputRelocation) → IsRelocated s r → IsFollowed l w s r → ReferenceHolds l w m s r = λ r one follows. each_holds l w m s r all one follows in
    let of_none : (r : InputRelocation) → (GivesThreadAddress l.machine l s r → ⊥) → IsThreadCall l s r → ⊥ = λ r free c. free (subst (λ (k : Machine). GivesThreadAddress k l s r) (sym x) c) in
    record {
      references = λ r one follows type none free.
          has_formula l w m s r x (subst (λ (k : Machine). Contains (address_types k) r.number) x type) (of_address l s r (subst (λ (k : Machine). Contains (address_types k) r.number) x type) (of_none r free)) (λ f. none (subst (λ (k : Machine). IsBranchField k l s r) (sym x) f)) (holds r one follows);
      calls = λ r k one follows free branch. call_reaches l w m s r k x (of_none r free) (subst (λ (mach : Machine). IsCall mach l s r k) x branch) (holds r one follows);
      jumps = λ r k one follows free branch. jump_reaches l w m s r k x (of_none r free) (subst (λ (mach : Machine). IsJump mach l s r k) x branch) (holds r one follows);
      slot_calls = λ r k one follows free branch. slot_call_goes l w m s r k x (of_none r free) (subst (λ (mach : Machine). IsSlotCall mach l s r k) x branch) (holds r one follows);
      slot_jumps = λ r k one follows free branch. slot_jump_goes l w m s r k x (of_none r free) (subst (λ (mach : Machine). IsSlotJump mach l s r k) x branch) (holds r one follows);
      forms = item_forms l w m s all;
      others = λ types asked k lt out. other_byte l w m s k x (subst (λ (mach : Machine). HasFirstTypes mach s) x types) asked all lt out;
    }

-- and an AArch64 one
fields_aarch64 : (l : Layout) (w : World) (m : Memory) (s : Item) → l.machine ≡ machine.AArch64 → ItemHolds l w m s → HoldsByFields l w m s
fields_aarch64 l w m s x all =
    let holds : (r : InputRelocation) → IsRelocated s r → IsFollowed l w s r → ReferenceHolds l w m s r = λ r one follows. each_holds l w m s r all one follows in
    record {
      references = λ r one follows type none free. number_has l w m s r x (subst (λ (k : Machine). Contains (address_types k) r.number) x type) (holds r one follows);
      calls = λ r k one follows free branch. call_goes l w m s r k x (subst (λ (mach : Machine). IsCall mach l s r k) x branch) (holds r one follows);
      jumps = λ r k one follows free branch. jump_goes l w m s r k x (subst (λ (mach : Machine). IsJump mach l s r k) x branch) (holds r one follows);
      slot_calls = λ r k one follows free branch. absurd (subst (λ (mach : Machine). IsSlotCall mach l s r k) x branch);
      slot_jumps = λ r k one follows free branch. absurd (subst (λ (mach : Machine). IsSlotJump mach l s r k) x branch);
      forms = item_forms l w m s all;
      others = λ types asked k lt out. word_byte l w m s k x (subst (λ (mach : Machine). HasFirstTypes mach s) x types) all lt out;
    }

item_fields : (l : Layout) (w : World) (m : Memory) (s : Item) → ItemHolds l w m s → HoldsByFields l w m s
item_fields l w m s all = by l.machine refl
  where
    by : (k : Machine) → l.machine ≡ k → HoldsByFields l w m s
    by machine.X86_64 x = fields_x86_64 l w m s x all
    by machine.AArch64 x = fields_aarch64 l w m s x all

pub meaning_gives_forms : MeaningGivesForms
meaning_gives_forms = λ l w image linked s loaded. item_forms l w linked.memory (placed_item l loaded.file s) (linked.kept (placed_item l loaded.file s) (kept l s loaded))

pub meaning_gives_fields : MeaningGivesFields
meaning_gives_fields = λ l w image linked s loaded. item_fields l w linked.memory (placed_item l loaded.file s) (linked.kept (placed_item l loaded.file s) (kept l s loaded))
