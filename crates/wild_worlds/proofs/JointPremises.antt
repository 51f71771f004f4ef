-- The layouts that call a function, and the one for debuggers alone, have all that the headline asks for.
use Rattle.wild_worlds.proofs.Common.{◌≡◌, ℕ, ◌+◌, ◌^◌, ◌<◌, ◌≤◌, inr, false, [], ◌∷◌, refl, ap, sym, ◌∙◌, arith, subst, Option, Some, None, All, All-from_recursion, pos, r_x86_64_gotpcrelx, formula, Plain, Signed, x86_64_formula, OutputKind, Segment, Resolution, Symbol, InputRelocation, HasItsFlags, has_flag, absolute, errors, LayoutsAreLaidOut, NumbersFit, IsAbsolute, HasFlag, OfSection, IsCheckedAtZeroOnly, ImagesAreSound, not_both, HasRoomAbove, OtherModule, AreNumbers, IsConsistent, HasWorld}
use Rattle.wild_records.specs.Abi.Relocation.{r_aarch64_call26}
use Rattle.wild_reloc.specs.Formula.{SlotDistance, AddressSlot, StubDistance, Bits, Imm26Field, WithinPower}
use Rattle.wild_reloc.specs.FormulaAArch64.{aarch64_formula}
use Rattle.wild_types.specs.declared.kind.Machine.TheVariants as machine
use Rattle.wild_types.specs.declared.kind.OutputKind.TheVariants as output
use Rattle.wild_types.specs.declared.kind.RelocationModel.TheVariants as model
use Rattle.wild_types.specs.declared.part.Role.{Role}
use Rattle.wild_types.specs.declared.part.Role.TheVariants as role
use Rattle.wild_types.specs.declared.symbol.Place.{Place}
use Rattle.wild_types.specs.declared.symbol.Place.TheVariants as at
use Rattle.wild_layout.specs.Image.{bytes}
use Rattle.wild_meaning.specs.Section.{IsForDebuggers}
use Rattle.wild_meaning.specs.World.{IsMovable}
use Rattle.wild_types.specs.Item.{item_with}
use Rattle.wild_meaning.specs.Item.{IsKept}
use Rattle.wild_meaning.specs.LinkedImage.{IsSound}
use Rattle.wild_sample_layouts.specs.CallingPlans.{Code, called_function, calling_layout, calling_segments, code_at, stub_at, call_reference, branch_reference, by_slot, of_words, by_stub, by_branch, calling_code, calling_static, calling_dynamic, calling_shared, calling_words, calling_words_static, calling_words_shared}
use Rattle.wild_sample_layouts.specs.Laws.{CallingFaults, CallingNumbers}
use Rattle.wild_worlds.specs.Joined.{HasCall, IsJoined, IsMet, PremisesAreJoined}
use Rattle.wild_worlds.proofs.DebugFile.{debuggers_joined}
use Rattle.wild_worlds.proofs.MixedFile.{mixed_linked}
use Rattle.wild_worlds.proofs.CopyFile.{copy_linked}
use Rattle.wild_worlds.proofs.Premises.{few_alone}
use Rattle.wild_worlds.proofs.Worked.{branches_asked}
use Rattle.wild_worlds.proofs.Worlds.{worlds_there}

-- ---- the call

slot_formula : x86_64_formula r_x86_64_gotpcrelx ≡ Some (formula (SlotDistance AddressSlot) (Plain 32 Signed))
unfolding x86_64_formula
slot_formula = refl

branch_formula : aarch64_formula r_aarch64_call26 ≡ Some (formula StubDistance (Bits Imm26Field 27 2 (WithinPower 28) 4))
unfolding aarch64_formula
branch_formula = refl

-- all of it is written
whole : (c : Code) (k : OutputKind) (e : Role) (n m : ℕ) (f : Symbol) → IsForDebuggers (calling_layout c k e n m f) → ⊥
whole c k e n m f bare = cc

kept : (c : Code) (k : OutputKind) (e : Role) (n m : ℕ) (f : Symbol) → IsKept (calling_layout c k e n m f) (item_with 0 (calling_code c))
kept c k e n m f = OfSection (calling_code c) (record { input = record { group = _; grouped = (0, omega arith, refl); file = _; filed = (1, omega arith, refl); listed = (0, omega arith, refl) }; loaded = tt; room = refl; has_data = refl; written = λ p there h. whole c k e n m f h.only.bare }) refl

moving : (c : Code) (k : OutputKind) (e : Role) (n m : ℕ) (f : Symbol) → f.definition ≡ None → has_flag f.flags absolute ≡ false → HasFlag (calling_layout c k e n m f) 0 absolute false
moving c k e n m f own plain = record { definition = 0; defined = record { symbol = f; listed = refl; defined = inr (own, refl) }; symbol = f; listed = refl; flagged = plain }

ordinary : (c : Code) (k : OutputKind) (e : Role) (n m : ℕ) (f : Symbol) (r : InputRelocation) → r.symbol ≡ Some 0 → f.definition ≡ None → has_flag f.flags absolute ≡ false → IsCheckedAtZeroOnly (calling_layout c k e n m f) (item_with 0 (calling_code c)) r → ⊥
ordinary c k e n m f r names own plain x =
    let both : Some 0 ≡ Some x.symbol = sym names ∙ x.named in
    let same : x.symbol ≡ 0 = cc in
    not_both (calling_layout c k e n m f) 0 absolute (subst (λ (i : ℕ). IsAbsolute (calling_layout c k e n m f) i) same x.absolute) (moving c k e n m f own plain)

slot_call : (k : OutputKind) (e : Role) (n m : ℕ) (f : Symbol) → f.definition ≡ None → has_flag f.flags absolute ≡ false → HasCall (calling_layout by_slot k e n m f)
slot_call k e n m f own plain =
    let l = calling_layout by_slot k e n m f in
    let worked = branches_asked.slot_call l code_at refl in
    record {
      item = item_with 0 (calling_code by_slot);
      kept = kept by_slot k e n m f;
      reference = call_reference;
      refers = worked.0;
      ordinary = ordinary by_slot k e n m f call_reference refl own plain;
      followed = few_alone.valued l (item_with 0 (calling_code by_slot)) call_reference _ slot_formula (λ h. h) (λ h. h);
      start = 0;
      instruction = _;
      template = worked.1;
      goes = refl;
    }

word_call : (stub : ℕ) (k : OutputKind) (e : Role) (n m : ℕ) (f : Symbol) → f.definition ≡ None → has_flag f.flags absolute ≡ false → HasCall (calling_layout (of_words stub) k e n m f)
word_call stub k e n m f own plain =
    let l = calling_layout (of_words stub) k e n m f in
    let worked = branches_asked.word l code_at refl in
    record {
      item = item_with 0 (calling_code (of_words stub));
      kept = kept (of_words stub) k e n m f;
      reference = branch_reference;
      refers = worked.0;
      ordinary = ordinary (of_words stub) k e n m f branch_reference refl own plain;
      followed = few_alone.valued l (item_with 0 (calling_code (of_words stub))) branch_reference _ branch_formula (λ h. h) (λ h. h);
      start = 0;
      instruction = _;
      template = worked.1;
      goes = refl;
    }

-- ---- the world

joint_layout_is_consistent : (c : Code) (k : OutputKind) (e : Role) (n m : ℕ) (f : Symbol) → f.size < 2 ^ 64 → errors (calling_layout c k e n m f) ≡ [] → NumbersFit (calling_layout c k e n m f) → IsConsistent (calling_layout c k e n m f)
joint_layout_is_consistent c k e n m f small none numbers = record {
  faultless = none;
  numbers = numbers;
  sizes = All-from_recursion (λ (s : Symbol). s.size < 2 ^ 64) (f ∷ []) (small, tt);
}

-- another module has the function at 0x7000
others : OtherModule
others = record { address = λ i. 0x7000; offset = λ i. 0; size = λ i. 0; distance = pos 0; own = pos 0 }

numbers_of : AreNumbers others
unfolding others
numbers_of = record { address = λ i. omega arith; offset = λ i. omega arith; size = λ i. omega arith; distance = omega arith; own = omega arith }

roomy : (c : Code) (k : OutputKind) (e : Role) (n m : ℕ) (f : Symbol) → c.stub < 2 ^ 32 → HasRoomAbove (calling_layout c k e n m f) 0x10000
roomy c k e n m f short = record { aligned = refl; ends = All-from_recursion (λ (g : Segment). 0x10000 + g.address + g.mem_size ≤ 2 ^ 64) (calling_segments c) (omega (arith, short), (omega (arith, short), tt)) }

world : (c : Code) (k : OutputKind) (e : Role) (n m : ℕ) (f : Symbol) → c.stub < 2 ^ 32 → LayoutsAreLaidOut → IsMovable k → IsConsistent (calling_layout c k e n m f) → HasWorld (calling_layout c k e n m f) 0x10000 (λ a. 0) others
world c k e n m f short laws movable t = (worlds_there laws).elsewhere (calling_layout c k e n m f) 0x10000 (λ a. 0) others (λ a. omega arith) numbers_of movable (roomy c k e n m f short) t

-- ---- the whole

pub joined : (c : Code) (k : OutputKind) (e : Role) (n m : ℕ) (f : Symbol) → c.stub < 2 ^ 32 → LayoutsAreLaidOut → IsSound (calling_layout c k e n m f) (bytes (calling_layout c k e n m f)) → IsMovable k → f.size < 2 ^ 64 → HasCall (calling_layout c k e n m f) → errors (calling_layout c k e n m f) ≡ [] → NumbersFit (calling_layout c k e n m f) → IsJoined (calling_layout c k e n m f)
joined c k e n m f short laws sound movable small call none numbers =
    let l = calling_layout c k e n m f in
    let w = world c k e n m f short laws movable (joint_layout_is_consistent c k e n m f small none numbers) in
    let right = sound (inr movable) in
    let linked = right.1 w.world w.legal in
    record {
      faultless = none;
      world = w.world;
      elsewhere = λ z. (let at = w.at in absurd (omega (arith, z, at)));
      legal = w.legal;
      described = right.0;
      linked = linked;
      call = call;
      holds = (linked.kept call.item call.kept).references call.reference call.refers (λ x. whole c k e n m f x.0) (λ x. absurd (call.ordinary x)) call.followed;
    }

-- ---- the layouts

its_flags : (c : Code) (flags raw : ℕ) (place : Place) (index stub : Option ℕ) → HasItsFlags (called_function c flags place raw index stub)
its_flags c flags raw place index stub r e = same _ r e
  where
    same : (x y : Resolution) → Some x ≡ Some y → y.flags ≡ x.flags
    same x y h = let is : x ≡ y = cc in ap (λ (z : Resolution). z.flags) (sym is)

all_flags : (c : Code) (flags raw : ℕ) (place : Place) (index stub : Option ℕ) → All HasItsFlags (called_function c flags place raw index stub ∷ [])
all_flags c flags raw place index stub = All-from_recursion HasItsFlags (called_function c flags place raw index stub ∷ []) (its_flags c flags raw place index stub, tt)

static_joined : LayoutsAreLaidOut → ImagesAreSound → CallingFaults → CallingNumbers → IsMet machine.X86_64 (output.StaticExecutable model.Relocatable)
unfolding calling_static has_flag
static_joined laws sound faults numbers = (calling_static, refl, refl, joined by_slot (output.StaticExecutable model.Relocatable) role.RelaDynRelative 24 1 (called_function by_slot 0x28 (at.Section 0) 262 None None) (omega arith) laws (sound calling_static numbers.static (all_flags by_slot 0x28 262 (at.Section 0) None None) faults.static) tt (omega arith) (slot_call _ _ _ _ _ refl refl) faults.static numbers.static)

dynamic_joined : LayoutsAreLaidOut → ImagesAreSound → CallingFaults → CallingNumbers → IsMet machine.X86_64 (output.DynamicExecutable model.Relocatable)
unfolding calling_dynamic has_flag
dynamic_joined laws sound faults numbers = (calling_dynamic, refl, refl, joined by_slot (output.DynamicExecutable model.Relocatable) role.RelaDynGeneral 48 3 (called_function by_slot 0x22 at.Undefined 0 (Some 1) None) (omega arith) laws (sound calling_dynamic numbers.dynamic (all_flags by_slot 0x22 0 at.Undefined (Some 1) None) faults.dynamic) tt (omega arith) (slot_call _ _ _ _ _ refl refl) faults.dynamic numbers.dynamic)

shared_joined : LayoutsAreLaidOut → ImagesAreSound → CallingFaults → CallingNumbers → IsMet machine.X86_64 output.SharedObject
unfolding calling_shared has_flag
shared_joined laws sound faults numbers = (calling_shared, refl, refl, joined by_slot output.SharedObject role.RelaDynGeneral 48 3 (called_function by_slot 0x22 at.Undefined 0 (Some 1) None) (omega arith) laws (sound calling_shared numbers.shared (all_flags by_slot 0x22 0 at.Undefined (Some 1) None) faults.shared) tt (omega arith) (slot_call _ _ _ _ _ refl refl) faults.shared numbers.shared)

words_joined : LayoutsAreLaidOut → ImagesAreSound → CallingFaults → CallingNumbers → IsMet machine.AArch64 (output.DynamicExecutable model.Relocatable)
unfolding calling_words has_flag
words_joined laws sound faults numbers = (calling_words, refl, refl, joined by_stub (output.DynamicExecutable model.Relocatable) role.RelaDynGeneral 48 3 (called_function by_stub 0x62 at.Undefined stub_at (Some 1) (Some stub_at)) (omega arith) laws (sound calling_words numbers.words (all_flags by_stub 0x62 stub_at at.Undefined (Some 1) (Some stub_at)) faults.words) tt (omega arith) (word_call 16 _ _ _ _ _ refl refl) faults.words numbers.words)

words_static_joined : LayoutsAreLaidOut → ImagesAreSound → CallingFaults → CallingNumbers → IsMet machine.AArch64 (output.StaticExecutable model.Relocatable)
unfolding calling_words_static has_flag
words_static_joined laws sound faults numbers = (calling_words_static, refl, refl, joined by_branch (output.StaticExecutable model.Relocatable) role.RelaDynRelative 24 1 (called_function by_branch 0x28 (at.Section 0) 260 None None) (omega arith) laws (sound calling_words_static numbers.words_static (all_flags by_branch 0x28 260 (at.Section 0) None None) faults.words_static) tt (omega arith) (word_call 0 _ _ _ _ _ refl refl) faults.words_static numbers.words_static)

words_shared_joined : LayoutsAreLaidOut → ImagesAreSound → CallingFaults → CallingNumbers → IsMet machine.AArch64 output.SharedObject
unfolding calling_words_shared has_flag
words_shared_joined laws sound faults numbers = (calling_words_shared, refl, refl, joined by_stub output.SharedObject role.RelaDynGeneral 48 3 (called_function by_stub 0x62 at.Undefined stub_at (Some 1) (Some stub_at)) (omega arith) laws (sound calling_words_shared numbers.words_shared (all_flags by_stub 0x62 stub_at at.Undefined (Some 1) (Some stub_at)) faults.words_shared) tt (omega arith) (word_call 16 _ _ _ _ _ refl refl) faults.words_shared numbers.words_shared)

pub premises_joined : LayoutsAreLaidOut → ImagesAreSound → CallingFaults → CallingNumbers → PremisesAreJoined
premises_joined laws sound faults numbers = record {
  static_pie = static_joined laws sound faults numbers;
  dynamic_pie = dynamic_joined laws sound faults numbers;
  shared = shared_joined laws sound faults numbers;
  words_static_pie = words_static_joined laws sound faults numbers;
  words = words_joined laws sound faults numbers;
  words_shared = words_shared_joined laws sound faults numbers;
  for_debuggers = debuggers_joined laws sound;
  mixed = mixed_linked laws sound;
  copying = copy_linked sound;
}
