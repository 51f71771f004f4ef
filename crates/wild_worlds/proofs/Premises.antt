-- The premises of the headline are met: kinds, kept items, references and symbols.
use Rattle.wild_worlds.proofs.Common.{◌≡◌, ℕ, ◌+◌, ◌%◌, ◌^◌, ◌⊎◌, inl, inr, Bool, true, false, List, [], ◌∷◌, refl, sym, ap, ◌∙◌, arith, subst, Option, Some, None, Contains, ◌≢◌, not, ◌&&◌, ◌||◌, ◌==◌, list_all, cases_Bool, and_parts, eqb-true, r_x86_64_gotpcrelx, OutputKind, InputRelocation, Layout, absolute, ifunc, Formula, World, HasRaw, HasFlag, IsReplaceable, IsAbsolute, OfSection, formula_of, Instruction, IsCheckedAtZeroOnly, not_both, own_value}
use Rattle.wild_words.proofs.Basics.{implied, or_other, listed_passes}
use Rattle.wild_records.specs.Abi.Relocation.{r_x86_64_gotpcrel, r_aarch64_adr_prel_pg_hi21, r_aarch64_add_abs_lo12_nc}
use Rattle.wild_records.specs.Abi.Section.{shf_execinstr}
use Rattle.wild_types.specs.declared.kind.RelocationModel.TheVariants as model
use Rattle.wild_types.specs.declared.kind.OutputKind.TheVariants as output
use Rattle.wild_types.specs.declared.kind.Machine.{Machine}
use Rattle.wild_types.specs.declared.kind.Machine.TheVariants as machine
use Rattle.wild_reloc.specs.Formula.{Value, SymbolAddress}
use Rattle.wild_loader.specs.declared.memory.Memory.{Memory}
use Rattle.wild_meaning.specs.World.{IsFixed, IsMovable, IsLoadable}
use Rattle.wild_meaning.specs.Value.{HasOwnValue}
use Rattle.wild_loader.specs.Reach.{Reaches}
use Rattle.wild_meaning.specs.Denotes.{HasStub, Denotes}
use Rattle.wild_types.specs.declared.part.Part.{Part}
use Rattle.wild_types.specs.Lists.{total}
use Rattle.wild_types.specs.Item.{Item}
use Rattle.wild_meaning.specs.Item.{IsLoadedSlot, OfFrames}
use Rattle.wild_meaning.specs.Frames.{IsFrameInput, frames_item, address_of_part, kept_of_file, kept_bytes}
use Rattle.wild_meaning.specs.Formula.{IsPlaceRelative, TakesAddress, TakesOffset}
use Rattle.wild_meaning.specs.Section.{IsSet}
use Rattle.wild_meaning.specs.Sequence.{Sort, TargetInSlot, Address, Partner, instructions_of}
use Rattle.wild_meaning.specs.Template.{IsTemplate}
use Rattle.wild_meaning.specs.Reference.{HasPlace, CountsFromPlace, HasRelativeInstruction, MustHold, IsFilledByLoader, HasStubAddress, UsesOwnDefinition, UsesOwnSymbolOnly}
use Rattle.wild_meaning.proofs.BitLemmas.{bit_alloc, thread_local_bit}
use Rattle.wild_meaning.proofs.PairLemmas.{are_several, as_double, counts_by_slot}
use Rattle.wild_meaning.proofs.OneReference.{has}
use Rattle.wild_meaning.proofs.InstructionsAArch64.{numbers_in, numbered}
use Rattle.wild_worlds.specs.Worlds.{KindsAreLoaded}
use Rattle.wild_worlds.specs.References.{SectionsAreKept, SortedAreKept, FramesAreKept, RelocationsRefer, ReferencesAreChecked, SlotsAreChecked, FewUseOwnSymbolOnly, ZerosAreChecked, ResolversAreNotAbsolute}
use Rattle.wild_worlds.specs.Symbols.{AddressesMove}
use Rattle.wild_laws.proofs.FirstPath.{kept}
use Rattle.wild_laws.proofs.Symbols.{not_replaceable, moved_value}

-- ---- kinds

-- no kind is both
pub apart_kinds : (k : OutputKind) → IsFixed k → IsMovable k → ⊥
apart_kinds (output.StaticExecutable model.NonRelocatable) f m = m
apart_kinds (output.DynamicExecutable model.NonRelocatable) f m = m
apart_kinds other f m = f

loaded_kind : (k : OutputKind) → k ≢ output.PartialObject → IsLoadable k
loaded_kind (output.StaticExecutable model.NonRelocatable) h = inl tt
loaded_kind (output.DynamicExecutable model.NonRelocatable) h = inl tt
loaded_kind (output.StaticExecutable model.Relocatable) h = inr tt
loaded_kind (output.DynamicExecutable model.Relocatable) h = inr tt
loaded_kind output.SharedObject h = inr tt
loaded_kind output.PartialObject h = absurd (h refl)

pub kinds_loaded : KindsAreLoaded
kinds_loaded = record { static = tt; dynamic = tt; static_elsewhere = tt; dynamic_elsewhere = tt; shared = tt; each = loaded_kind }

-- ---- items and references

pub sections_kept : SectionsAreKept
sections_kept = λ l s h. kept l s h

pub sorted_kept : SortedAreKept
sorted_kept = λ l s input sorted room has_data whole. OfSection s (record { input = input; loaded = subst IsLoadedSlot (sym sorted) tt; room = bit_alloc s.flags room; has_data = has_data; written = λ p there h. whole h.only.bare }) refl

pub frames_kept : FramesAreKept
frames_kept = λ l g f s before after front back p grouped filed listed frame room has_data whole there.
    (let k : IsFrameInput l s = record {
      frame = frame;
      room = bit_alloc s.flags room;
      has_data = has_data;
      written = λ q e h. whole h.only.bare;
      group = g;
      grouped = grouped;
      files = before;
      file = f;
      files_behind = after;
      filed = filed;
      sections = front;
      sections_behind = back;
      listed = listed;
    } in
    let at = ap (λ (o : Option Part). frames_item l f s (address_of_part o + g.eh_frame_start + total (kept_of_file l) before + total (kept_bytes l) front)) there in
    OfFrames s k (sym at))

pub relocations_refer : RelocationsRefer
relocations_refer = λ item r c n. record { listed = c; refers = n }

-- the symbol of an excepted reference is absolute
named_absolute : (l : Layout) (item : Item) (r : InputRelocation) (i : ℕ) → r.symbol ≡ Some i → IsCheckedAtZeroOnly l item r → IsAbsolute l i
named_absolute l item r i n e = subst (λ (j : ℕ). IsAbsolute l j) (let both : Some e.symbol ≡ Some i = sym e.named ∙ n in let same : e.symbol ≡ i = cc in same) e.absolute

neither : (l : Layout) (item : Item) (r : InputRelocation) → (HasPlace l r → ⊥) → (HasRelativeInstruction l item r → ⊥) → HasPlace l r ⊎ HasRelativeInstruction l item r → ⊥
neither l item r p s (inl h) = p h
neither l item r p s (inr h) = s h

pub fixed_asked : (l : Layout) (w : World) (item : Item) (r : InputRelocation) → IsFixed l.kind → MustHold l w item r
fixed_asked l w item r f = λ e. absurd (apart_kinds l.kind f e.movable)

placeless_asked : (l : Layout) (w : World) (item : Item) (r : InputRelocation) → (HasPlace l r → ⊥) → (HasRelativeInstruction l item r → ⊥) → MustHold l w item r
placeless_asked l w item r p s = λ e. absurd (neither l item r p s e.relative)

pub references_asked : ResolversAreNotAbsolute → ReferencesAreChecked
references_asked law = record {
  zero = λ l w item r z e. z;
  fixed = fixed_asked;
  unnamed = λ l w item r n e. absurd (let both : Some e.symbol ≡ None = sym e.named ∙ n in cc);
  moving = λ l w item r i n f e. absurd (not_both l i absolute (named_absolute l item r i n e) f);
  resolved = λ l w item r i none n f e. absurd (law l i none f (named_absolute l item r i n e));
  placeless = placeless_asked;
}

-- ---- slots

no_place : (l : Layout) (r : InputRelocation) (f : Formula) → formula_of l.machine r.number ≡ Some f → (IsPlaceRelative f.value → ⊥) → HasPlace l r → ⊥
no_place l r f known none h = none (subst (λ (g : Formula). IsPlaceRelative g.value) (let both : Some h.formula ≡ Some f = sym h.known ∙ known in let same : h.formula ≡ f = cc in same) h.relative)

abbrev is_through : Sort → Bool
is_through TargetInSlot = true
is_through other = false

abbrev is_slot_number : ℕ → Bool
is_slot_number n = n == r_x86_64_gotpcrel || n == r_x86_64_gotpcrelx

-- instructions that go through a slot have one field, of one of two types
abbrev goes_alone : Instruction → Bool
goes_alone o = not (is_through o.sort) || (not (are_several o.partners) && list_all is_slot_number o.numbers)

all_go_alone : list_all goes_alone (instructions_of machine.X86_64) ≡ true
all_go_alone = refl

through_parts : (o : Instruction) → goes_alone o ≡ true → o.sort ≡ TargetInSlot → (not (are_several o.partners) ≡ true) × (list_all is_slot_number o.numbers ≡ true)
through_parts o h e = by_sort (is_through o.sort) (not (are_several o.partners)) (list_all is_slot_number o.numbers) h (ap is_through e)
  where
    by_sort : (t a n : Bool) → (not t || (a && n)) ≡ true → t ≡ true → (a ≡ true) × (n ≡ true)
    by_sort true a n h e = and_parts a n h
    by_sort false a n h e = cc

slot_numbers : (n : ℕ) → is_slot_number n ≡ true → Contains (r_x86_64_gotpcrel ∷ r_x86_64_gotpcrelx ∷ []) n
slot_numbers n h =
    elim (cases_Bool (n == r_x86_64_gotpcrel)) [
      | inl t ↦ (0, omega arith, sym (eqb-true n r_x86_64_gotpcrel t))
      | inr f ↦ (1, omega arith, sym (eqb-true n r_x86_64_gotpcrelx (other (n == r_x86_64_gotpcrel) (n == r_x86_64_gotpcrelx) h f)))
    ]
  where
    other : (a b : Bool) → (a || b) ≡ true → a ≡ false → b ≡ true
    other true b h f = cc
    other false b h f = h

-- such an instruction of a reference
slot_number : (l : Layout) (item : Item) (r : InputRelocation) → l.machine ≡ machine.X86_64 → HasRelativeInstruction l item r → Contains (r_x86_64_gotpcrel ∷ r_x86_64_gotpcrelx ∷ []) r.number
slot_number l item r x h = by_template l item r h.start h.instruction h.first x h.counts h.template
  where
    parts : (l : Layout) (o : Instruction) → l.machine ≡ machine.X86_64 → Contains (instructions_of l.machine) o → o.sort ≡ TargetInSlot → (not (are_several o.partners) ≡ true) × (list_all is_slot_number o.numbers ≡ true)
    parts l o x known e = through_parts o (listed_passes goes_alone (instructions_of machine.X86_64) o all_go_alone (subst (λ (m : Machine). Contains (instructions_of m) o) x known)) e

    not_several : {X : Type 0} (ps : List Partner) (p : Partner) → ps ≡ p ∷ [] → not (are_several ps) ≡ true → X
    not_several [] p e h = cc
    not_several (q ∷ ps) p e h = cc

    by_template : (l : Layout) (item : Item) (r : InputRelocation) (start : ℕ) (o : Instruction) (one : InputRelocation) → l.machine ≡ machine.X86_64 → CountsFromPlace o.sort → IsTemplate l item r start o one → Contains (r_x86_64_gotpcrel ∷ r_x86_64_gotpcrelx ∷ []) r.number
    by_template l item r start o one x e (inl t) = slot_numbers r.number (listed_passes is_slot_number o.numbers r.number (parts l o x t.0.stands.known (counts_by_slot l o x t.0.stands.known e)).1 t.0.stands.number)
    by_template l item r start o one x e (inr t) =
        let calls = (as_double l item r start o one x t).sequence.calls in
        let alone : not (are_several o.partners) ≡ true = (parts l o x t.sequence.stands.known (counts_by_slot l o x t.sequence.stands.known e)).0 in
        not_several o.partners _ calls alone

-- ---- addresses of AArch64

abbrev is_by_place : Sort → Bool
is_by_place TargetInSlot = true
is_by_place Address = true
is_by_place other = false

counts_by_place : (s : Sort) → CountsFromPlace s → is_by_place s ≡ true
counts_by_place TargetInSlot h = refl
counts_by_place Address h = refl
counts_by_place other h = absurd h

abbrev is_address_number : ℕ → Bool
is_address_number n = n == r_aarch64_adr_prel_pg_hi21 || n == r_aarch64_add_abs_lo12_nc

-- those that count from their own place have two fields, of two types
abbrev is_address_pair : Instruction → Bool
is_address_pair o = not (is_by_place o.sort) || (list_all is_address_number o.numbers && list_all is_address_number (numbers_in o))

all_are_pairs : list_all is_address_pair (instructions_of machine.AArch64) ≡ true
all_are_pairs = refl

address_numbers : (n : ℕ) → is_address_number n ≡ true → Contains (r_aarch64_adr_prel_pg_hi21 ∷ r_aarch64_add_abs_lo12_nc ∷ []) n
address_numbers n h =
    elim (cases_Bool (n == r_aarch64_adr_prel_pg_hi21)) [
      | inl t ↦ (0, omega arith, sym (eqb-true n r_aarch64_adr_prel_pg_hi21 t))
      | inr f ↦ (1, omega arith, sym (eqb-true n r_aarch64_add_abs_lo12_nc (or_other (n == r_aarch64_adr_prel_pg_hi21) (n == r_aarch64_add_abs_lo12_nc) h f)))
    ]

has_passes : (t : ℕ → Bool) (n : ℕ) (xs : List ℕ) → list_all t xs ≡ true → has n xs ≡ true → t n ≡ true
has_passes t n [] all h = absurd cc
has_passes t n (x ∷ xs) all h =
    let parts = and_parts (t x) (list_all t xs) all in
    elim (cases_Bool (x == n)) [
      | inl e ↦ subst (λ (y : ℕ). t y ≡ true) (eqb-true x n e) parts.0
      | inr f ↦ has_passes t n xs parts.1 (or_other (x == n) (has n xs) h f)
    ]

-- such an instruction of a reference
address_number : (l : Layout) (item : Item) (r : InputRelocation) → l.machine ≡ machine.AArch64 → HasRelativeInstruction l item r → Contains (r_aarch64_adr_prel_pg_hi21 ∷ r_aarch64_add_abs_lo12_nc ∷ []) r.number
address_number l item r x h = by_template h.start h.instruction h.first h.counts h.template
  where
    parts : (o : Instruction) → Contains (instructions_of l.machine) o → CountsFromPlace o.sort → (list_all is_address_number o.numbers ≡ true) × (list_all is_address_number (numbers_in o) ≡ true)
    parts o known e =
        let all = listed_passes is_address_pair (instructions_of machine.AArch64) o all_are_pairs (subst (λ (m : Machine). Contains (instructions_of m) o) x known) in
        and_parts _ _ (implied (is_by_place o.sort) _ all (counts_by_place o.sort e))

    by_template : (start : ℕ) (o : Instruction) (one : InputRelocation) → CountsFromPlace o.sort → IsTemplate l item r start o one → Contains (r_aarch64_adr_prel_pg_hi21 ∷ r_aarch64_add_abs_lo12_nc ∷ []) r.number
    by_template start o one e (inl t) = address_numbers r.number (listed_passes is_address_number o.numbers r.number (parts o t.0.stands.known e).0 t.0.stands.number)
    by_template start o one e (inr t) = address_numbers r.number (has_passes is_address_number r.number (numbers_in o) (parts o t.sequence.stands.known e).1 (numbered l item r start o one t))

template_code : (l : Layout) (item : Item) (r : InputRelocation) (start : ℕ) (o : Instruction) (one : InputRelocation) → IsTemplate l item r start o one → IsSet item.flags shf_execinstr
template_code l item r start o one (inl t) = t.0.stands.code
template_code l item r start o one (inr t) = t.sequence.stands.code

pub slots_asked : SlotsAreChecked
slots_asked = record {
  numbers = λ l w item r f x known none other. placeless_asked l w item r (no_place l r f known none) (λ h. other (slot_number l item r x h));
  words = λ l w item r f x known none other. placeless_asked l w item r (no_place l r f known none) (λ h. other (address_number l item r x h));
  elsewhere = λ l w item r f known none code. placeless_asked l w item r (no_place l r f known none) (λ h. code (template_code l item r h.start h.instruction h.first h.template));
}

-- ---- references to the output's own symbols

-- the symbol and the formula of such a reference
named_symbol : (l : Layout) (item : Item) (r : InputRelocation) (i : ℕ) → r.symbol ≡ Some i → (a : UsesOwnSymbolOnly l item r) → a.symbol ≡ i
named_symbol l item r i n a = let both : Some a.symbol ≡ Some i = sym a.named ∙ n in cc

known_formula : (l : Layout) (item : Item) (r : InputRelocation) (f : Formula) → formula_of l.machine r.number ≡ Some f → (a : UsesOwnSymbolOnly l item r) → a.formula ≡ f
known_formula l item r f known a = let both : Some a.formula ≡ Some f = sym a.known ∙ known in cc

taken : (l : Layout) (item : Item) (r : InputRelocation) (i : ℕ) (f : Formula) → r.symbol ≡ Some i → formula_of l.machine r.number ≡ Some f → UsesOwnSymbolOnly l item r → UsesOwnDefinition l item i f
taken l item r i f n known a = subst (λ (g : Formula). UsesOwnDefinition l item i g) (known_formula l item r f known a) (subst (λ (j : ℕ). UsesOwnDefinition l item j a.formula) (named_symbol l item r i n a) a.takes)

takes_value : (l : Layout) (item : Item) (i : ℕ) (f : Formula) → (TakesOffset f.value → ⊥) → (TakesAddress f.value → ⊥) → UsesOwnDefinition l item i f → ⊥
takes_value l item i f o a (inl t) = o t
takes_value l item i f o a (inr t) = a t.0

takes_left : (l : Layout) (item : Item) (i : ℕ) (f : Formula) → IsFilledByLoader l item i f → UsesOwnDefinition l item i f → ⊥
takes_left l item i f h (inl t) = by_value f.value h.value t
  where
    by_value : (v : Value) → v ≡ SymbolAddress → TakesOffset v → ⊥
    by_value v e t = subst TakesOffset e t
takes_left l item i f h (inr t) = t.1 h

takes_stub : (l : Layout) (item : Item) (i : ℕ) (f : Formula) → (TakesOffset f.value → ⊥) → HasStubAddress l i → UsesOwnDefinition l item i f → ⊥
takes_stub l item i f o h (inl t) = o t
takes_stub l item i f o h (inr t) = t.2 h

pub few_alone : FewUseOwnSymbolOnly
few_alone = record {
  own = λ l item r i n own a. not_replaceable l i (subst (λ (j : ℕ). IsReplaceable l j true) (named_symbol l item r i n a) a.replaceable) own;
  unnamed = λ l item r n a. (let both : Some a.symbol ≡ None = sym a.named ∙ n in cc);
  valued = λ l item r f known o t a. takes_value l item a.symbol f o t (taken l item r a.symbol f a.named known a);
  left = λ l item r i f n known h a. takes_left l item i f h (taken l item r i f n known a);
  stubbed = λ l item r i f n known o h a. takes_stub l item i f o h (taken l item r i f n known a);
  branched = λ l item r h a. a.direct h;
}

-- ---- zeros

pub blanks_asked : ZerosAreChecked
blanks_asked = record {
  sections = λ l s input loaded room own blank. record { input = input; loaded = subst IsLoadedSlot (sym loaded) tt; room = bit_alloc s.flags room; template = λ t. absurd (let both : true ≡ false = sym (thread_local_bit s.flags t) ∙ own in cc); blank = blank };
  behind = λ l g a c k from to. record { segment = g; listed = c; loads = k; from = from; to = to };
}

-- ---- symbols

-- an own value that moves
own_address : (l : Layout) (w : World) (i a : ℕ) → HasFlag l i ifunc false → HasFlag l i absolute false → HasOwnValue l w i a → (raw : ℕ) × HasRaw l i raw × (a ≡ (w.base + raw) % 2 ^ 64)
own_address l w i a f g h = (h.raw, h.given, moved_value l w i a h f g)

alone : (l : Layout) (w : World) (m : Memory) (i a : ℕ) → IsReplaceable l i false → Denotes l w m i a → HasFlag l i ifunc false → HasFlag l i absolute false → ((p : ℕ) → HasStub l i p → ⊥) → (raw : ℕ) × HasRaw l i raw × (a ≡ (w.base + raw) % 2 ^ 64)
alone l w m i a own (inl h) f g none = own_address l w i a f g (own_value l w i a own h)
alone l w m i a own (inr s) f g none = absurd (none s.stub s.given)

pub addresses_move : AddressesMove
addresses_move = record {
  moves = λ l w m i raw own h f g. inl (inr (own, record { raw = raw; given = h; indirect = false; resolved = f; still = false; absolute = g; is = refl }));
  stays = λ l w m i raw own h f g. inl (inr (own, record { raw = raw; given = h; indirect = false; resolved = f; still = true; absolute = g; is = refl }));
  alone = alone;
  goals = λ l w m i a own h f g.
      (let v = own_address l w i h.0 f g (own_value l w i h.0 own h.1) in
      (v.0, v.1, subst (λ (b : ℕ). Reaches m a b) v.2 h.2));
}
