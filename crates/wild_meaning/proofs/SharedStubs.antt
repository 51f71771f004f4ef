-- Wrong stubs of the worked shared object are refused.
use Rattle.wild_meaning.proofs.Common.{◌≡◌, ℕ, ◌+◌, ◌%◌, ◌^◌, ◌⊎◌, inl, inr, Bool, true, false, List, refl, sym, ap, ◌∙◌, arith, subst, Option, Some, option_and_then, number, Resolution, Symbol, has_flag, absolute, ifunc, Memory, Action, Word, meaning_x86_64, HasRaw, HasFlag, HasValue, HasStub, IsAddressStub, IsReferent, InputRelocation, Item, SymbolAddress, HasWrongNumber, shared_layout, shared_world, stubbed_function, Refused}
use Rattle.wild_loader.specs.Instruction.{jump_through}
use Rattle.wild_meaning.specs.Value.{IsValue}
use Rattle.wild_meaning.specs.Denotes.{IsStub, IsAddressOf}
use Rattle.wild_meaning.specs.Formula.{IsSymbolAddress}
use Rattle.wild_meaning.specs.LinkedImage.{IsLinked}
use Rattle.wild_meaning.specs.Worked.SharedRefusals.{stub_by_another_word, JumpsByAnotherWord, WrongStubsAreRefused}
use Rattle.wild_meaning.proofs.SymbolUnique.{defining_symbol_is, flag_of, owner_of, raw_of, stub_is}
use Rattle.wild_meaning.proofs.SymbolLemmas.{referent_address}
use Rattle.wild_meaning.proofs.SharedRefused.{no_string}
use Rattle.wild_meaning.proofs.OneReference.{same_bytes}
use Rattle.wild_meaning.proofs.Read.{same_word}

has_stub : HasStub shared_layout 4 0x20e0
has_stub = record { definition = 4; defined = record { symbol = stubbed_function; listed = refl; defined = inr (refl, refl) }; symbol = stubbed_function; listed = refl; resolution = _; decided = refl; stub = refl }

-- no reference uses the stub, and yet it is the function's
stub_there : (image : List ℕ) → (h : IsLinked shared_layout shared_world image) → IsStub shared_layout shared_world h.memory 4 0x120e0
stub_there image h = h.stubs (λ bare. (let off : false ≡ true = bare in cc)) 4 0x20e0 has_stub

-- the slot that it goes by
slot_is : (m : Memory) (a : ℕ) → (s : IsStub shared_layout shared_world m 4 a) → s.slot ≡ 0x20d8
slot_is m a s =
    let same : s.given.symbol ≡ stubbed_function = defining_symbol_is shared_layout 4 s.given.definition s.given.symbol stubbed_function refl s.given.defined s.given.listed in
    let decided : stubbed_function.resolution ≡ Some s.given.resolution = subst (λ (t : Symbol). t.resolution ≡ Some s.given.resolution) same s.given.decided in
    let first : Some 0x20d8 ≡ Some s.slot = subst (λ (o : Option Resolution). option_and_then (λ (r : Resolution). r.got_address) o ≡ Some s.slot) (sym decided) s.first in
    let at : 0x20d8 ≡ s.slot = cc in
    sym at

-- the function's value in the world
value_is : (a : ℕ) → HasValue shared_layout shared_world 4 a → a ≡ 0x11088
unfolding has_flag
value_is a (inl h) = absurd (let both : false ≡ true = owner_of shared_layout 4 true stubbed_function refl h.0 in cc)
value_is a (inr h) = by h.1.raw h.1.indirect h.1.still (raw_of shared_layout 4 h.1.raw stubbed_function _ refl refl h.1.given) (flag_of shared_layout 4 ifunc h.1.indirect stubbed_function refl h.1.resolved) (flag_of shared_layout 4 absolute h.1.still stubbed_function refl h.1.absolute) h.1.is
  where
    by : (raw : ℕ) (indirect still : Bool) → raw ≡ 0x1088 → false ≡ indirect → false ≡ still → IsValue shared_world indirect still raw a → a ≡ 0x11088
    by raw true still r e f v = absurd (let both : false ≡ true = e in cc)
    by raw false true r e f v = absurd (let both : false ≡ true = f in cc)
    by raw false false r e f v = v ∙ ap (λ (n : ℕ). (0x10000 + n) % 2 ^ 64) r

another_means : meaning_x86_64 0x120e0 stub_by_another_word ≡ Some (jump_through 0x12100)
unfolding meaning_x86_64 number
another_means = refl

another_word : Refused JumpsByAnotherWord
another_word image h x =
    let s = stub_there image h in
    let bytes : s.code.bytes ≡ stub_by_another_word = same_bytes h.memory 0x120e0 s.code.bytes stub_by_another_word s.code.whole s.code.held x.stub in
    let both : Some (jump_through 0x12100) ≡ Some (jump_through ((0x10000 + s.slot) % 2 ^ 64)) = sym another_means ∙ (ap (λ (bs : List ℕ). meaning_x86_64 0x120e0 bs) (sym bytes) ∙ s.code.means) in
    let one : jump_through 0x12100 ≡ jump_through ((0x10000 + s.slot) % 2 ^ 64) = cc in
    let words : Word 0x12100 ≡ Word ((0x10000 + s.slot) % 2 ^ 64) = ap (λ (act : Action). act.operand) one in
    let at : 0x12100 ≡ (0x10000 + s.slot) % 2 ^ 64 = cc in
    let slot = slot_is h.memory 0x120e0 s in
    omega (arith, at, slot)

another_value : Refused (HasWrongNumber 0x120d8 8 0x11088)
another_value image h x =
    let s = stub_there image h in
    let slot = slot_is h.memory 0x120e0 s in
    let place : 0x10000 + s.slot ≡ 0x120d8 = omega (arith, slot) in
    let same : s.value ≡ x.number = same_word h.memory (0x10000 + s.slot) 0x120d8 s.value x.number place s.word x.there in
    x.wrong (sym same ∙ value_is s.value s.is)

-- the layout has an address for the function that is not its stub's
no_address_stub : (p : ℕ) → IsAddressStub shared_layout 4 p → ⊥
unfolding has_flag
no_address_stub p h = by h.stands
  where
    by : HasFlag shared_layout 4 ifunc true ⊎ HasRaw shared_layout 4 p → ⊥
    by (inl chosen) = (let both : false ≡ true = flag_of shared_layout 4 ifunc true stubbed_function refl chosen in cc)
    by (inr raw) =
        let at : p ≡ 0x1088 = raw_of shared_layout 4 p stubbed_function _ refl refl raw in
        let there : 0x20e0 ≡ p = stub_is shared_layout 4 p 0x20e0 stubbed_function _ refl refl refl h.stub in
        omega (arith, at, there)

no_address : (m : Memory) (item : Item) (r : InputRelocation) → r.symbol ≡ Some 4 → IsReferent shared_layout.machine SymbolAddress shared_layout shared_world m item r 0x120e0 → ⊥
no_address m item r named h = by (subst (λ (o : Option ℕ). IsSymbolAddress shared_layout shared_world m o 0x120e0) named (referent_address SymbolAddress shared_layout shared_world m item r 0x120e0 tt refl (no_string SymbolAddress r) h))
  where
    by : IsAddressOf shared_layout shared_world m 4 0x120e0 → ⊥
    by (inl v) = (let at : 0x120e0 ≡ 0x11088 = value_is 0x120e0 v in omega (arith, at))
    by (inr s) = no_address_stub s.0 s.1

pub wrong_stubs : WrongStubsAreRefused
wrong_stubs = record { another = another_word; value = another_value; address = no_address }
