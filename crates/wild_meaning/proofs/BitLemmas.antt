-- Flags of sections, as the writer tests them and as the reader does.
use Rattle.wild_meaning.proofs.Common.{◌≡◌, ℕ, ◌*◌, ◌/◌, ◌%◌, ◌⊎◌, inl, inr, true, refl, arith, eqb-true, shf_execinstr, InputSection, Layout, IsSet}
use Rattle.std.specs.Int.RustNames.{bit_and}
use Rattle.std.proofs.lemmas.Nat.Bits.{and_pow}
use Rattle.wild_records.specs.Abi.Section.{shf_alloc, shf_write, shf_tls}
use Rattle.wild_types.specs.Lookups.{bit, allocated, executable, has_counted, is_counted, writable, thread_local}
use Rattle.wild_types.specs.declared.input.Slot.{Slot}
use Rattle.wild_types.specs.declared.input.Slot.TheVariants as slot
use Rattle.wild_meaning.specs.Item.{IsLoadedSlot, IsKeptSection}

pub alloc_bit : (f : ℕ) → IsSet f shf_alloc → allocated f ≡ true
unfolding bit
alloc_bit f h =
    let a : bit_and f 2 ≡ f / 2 % 2 * 2 = and_pow f 1 in
    let e : bit_and f 2 ≡ 2 = omega (arith, a, h) in
    rw e refl

pub bit_alloc : (f : ℕ) → allocated f ≡ true → IsSet f shf_alloc
unfolding bit
bit_alloc f h =
    let a : bit_and f 2 ≡ f / 2 % 2 * 2 = and_pow f 1 in
    let e : bit_and f 2 ≡ 2 = eqb-true _ _ h in
    omega (arith, a, e)

pub write_bit : (f : ℕ) → IsSet f shf_write → writable f ≡ true
unfolding bit
write_bit f h =
    let a : bit_and f 1 ≡ f / 1 % 2 * 1 = and_pow f 0 in
    let e : bit_and f 1 ≡ 1 = omega (arith, a, h) in
    rw e refl

pub bit_write : (f : ℕ) → writable f ≡ true → IsSet f shf_write
unfolding bit
bit_write f h =
    let a : bit_and f 1 ≡ f / 1 % 2 * 1 = and_pow f 0 in
    let e : bit_and f 1 ≡ 1 = eqb-true _ _ h in
    omega (arith, a, e)

pub code_bit : (f : ℕ) → IsSet f shf_execinstr → executable f ≡ true
unfolding bit
code_bit f h =
    let a : bit_and f 4 ≡ f / 4 % 2 * 4 = and_pow f 2 in
    let e : bit_and f 4 ≡ 4 = omega (arith, a, h) in
    rw e refl

pub bit_code : (f : ℕ) → executable f ≡ true → IsSet f shf_execinstr
unfolding bit
bit_code f h =
    let a : bit_and f 4 ≡ f / 4 % 2 * 4 = and_pow f 2 in
    let e : bit_and f 4 ≡ 4 = eqb-true _ _ h in
    omega (arith, a, e)

pub thread_local_bit : (f : ℕ) → IsSet f shf_tls → thread_local f ≡ true
unfolding bit
thread_local_bit f h =
    let a : bit_and f 1024 ≡ f / 1024 % 2 * 1024 = and_pow f 10 in
    let e : bit_and f 1024 ≡ 1024 = omega (arith, a, h) in
    rw e refl

-- the sorts of sections that are loaded as they are
pub loaded_is : (t : Slot) → IsLoadedSlot t → (t ≡ slot.Loaded) ⊎ (t ≡ slot.Sorted)
loaded_is slot.Loaded h = inl refl
loaded_is slot.Sorted h = inr refl
loaded_is slot.Discard h = absurd h
loaded_is slot.Debug h = absurd h
loaded_is slot.Frame h = absurd h
loaded_is slot.Merge h = absurd h
loaded_is slot.Rela h = absurd h
loaded_is slot.Group h = absurd h

counted_slot : (t : Slot) → IsLoadedSlot t → has_counted t ≡ true
counted_slot slot.Loaded h = refl
counted_slot slot.Sorted h = refl
counted_slot other h = absurd h

-- of a kept section the writer counts the relocations
pub kept_is_counted : (l : Layout) (s : InputSection) → IsKeptSection l s → is_counted s ≡ true
kept_is_counted l s k = rw (counted_slot s.slot k.loaded, k.has_data) refl
