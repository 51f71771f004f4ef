-- What the laws need of a machine, of each.
use Rattle.wild_geometry.proofs.Common.{◌≡◌, ℕ, ◌+◌, ◌-◌, ◌%◌, ◌^◌, ◌<◌, ◌⊎◌, inl, inr, Bool, true, false, if◌then◌else◌, refl, ap, ◌∙◌, arith, not, Option, Some, None, ◌==◌, ◌&&◌, nat_lt, list_all, cases_Bool, eqb-true, and_parts, ltb-true, Machine}
use Rattle.std.specs.Option.{option_or}
use Rattle.std.proofs.Math.Nat.{zero-mod}
use Rattle.wild_reloc.specs.Agreement.{X86_64Agrees, AArch64Agrees}
use Rattle.wild_reloc.specs.TableX86_64.{x86_64_rows, x86_64_row}
use Rattle.wild_reloc.specs.TableAArch64.{static_rows, static_row, thread_rows, thread_row, aarch64_row}
use Rattle.wild_reloc.specs.declared.dynamic.DynamicRelocationKind.{DynamicRelocationKind}
use Rattle.wild_reloc.specs.declared.dynamic.DynamicRelocationKind.TheVariants as entry_kinds
use Rattle.wild_reloc.specs.declared.info.RelocationKind.{RelocationKind}
use Rattle.wild_reloc.specs.declared.info.RelocationKind.TheVariants as row_kinds
use Rattle.wild_reloc.specs.declared.info.RelocationKindInfo.{RelocationKindInfo}
use Rattle.wild_reloc.specs.declared.info.RelocationSize.{RelocationSize}
use Rattle.wild_reloc.specs.declared.info.RelocationSize.TheVariants.{ByteSize}
use Rattle.wild_reloc.specs.declared.info.Width.TheVariants.{Four, Eight}
use Rattle.wild_reloc.proofs.TableLemmas.{entry_passes}
use Rattle.wild_types.specs.declared.kind.Machine.TheVariants as machine
use Rattle.wild_types.specs.declared.layout.Tls.{Tls}
use Rattle.wild_types.specs.Rows.{row_of}
use Rattle.wild_slot.specs.SlotParts.{type_of}
use Rattle.wild_slot.specs.Storage as storage
use Rattle.wild_loader.specs.declared.memory.Machine.TheVariants as processors
use Rattle.wild_loader.specs.declared.kind.DynamicKind.{DynamicKind}
use Rattle.wild_loader.specs.declared.kind.DynamicKind.TheVariants as kinds
use Rattle.wild_loader.specs.Changes.{kind_of}
use Rattle.wild_meaning.specs.LinkedImage.{processor_of}
use Rattle.wild_meaning.specs.Thread.{rounded_up, thread_pointer_of}
use Rattle.wild_geometry.specs.EntryKinds.{loaded_kind}
use Rattle.wild_geometry.specs.MachineFacts.{StoresSize, MachineFacts, RowsAreRead}

-- ---- the types of entries

-- a type has 32 bits, and a loader knows it
entry_known : (m : Machine) (k : DynamicRelocationKind) → (type_of m k < 2 ^ 32) × (kind_of (processor_of m) (type_of m k) ≡ Some (loaded_kind (processor_of m) k))
unfolding kind_of
entry_known machine.X86_64 entry_kinds.Absolute = (omega arith, refl)
entry_known machine.X86_64 entry_kinds.Copy = (omega arith, refl)
entry_known machine.X86_64 entry_kinds.GotEntry = (omega arith, refl)
entry_known machine.X86_64 entry_kinds.JumpSlot = (omega arith, refl)
entry_known machine.X86_64 entry_kinds.Relative = (omega arith, refl)
entry_known machine.X86_64 entry_kinds.DtpMod = (omega arith, refl)
entry_known machine.X86_64 entry_kinds.DtpOff = (omega arith, refl)
entry_known machine.X86_64 entry_kinds.TpOff = (omega arith, refl)
entry_known machine.X86_64 entry_kinds.TlsDesc = (omega arith, refl)
entry_known machine.X86_64 entry_kinds.Irelative = (omega arith, refl)
entry_known machine.AArch64 entry_kinds.Absolute = (omega arith, refl)
entry_known machine.AArch64 entry_kinds.Copy = (omega arith, refl)
entry_known machine.AArch64 entry_kinds.GotEntry = (omega arith, refl)
entry_known machine.AArch64 entry_kinds.JumpSlot = (omega arith, refl)
entry_known machine.AArch64 entry_kinds.Relative = (omega arith, refl)
entry_known machine.AArch64 entry_kinds.DtpMod = (omega arith, refl)
entry_known machine.AArch64 entry_kinds.DtpOff = (omega arith, refl)
entry_known machine.AArch64 entry_kinds.TpOff = (omega arith, refl)
entry_known machine.AArch64 entry_kinds.TlsDesc = (omega arith, refl)
entry_known machine.AArch64 entry_kinds.Irelative = (omega arith, refl)

-- ---- sizes

abbrev is_size : RelocationKind → Bool
is_size row_kinds.SymbolSize = true
is_size other = false

abbrev stores : Option DynamicKind → RelocationSize → Bool
stores (Some kinds.Size32) (ByteSize Four) = true
stores (Some kinds.Size64) (ByteSize Eight) = true
stores o z = false

stored : (o : Option DynamicKind) (z : RelocationSize) → stores o z ≡ true → ((o ≡ Some kinds.Size32) × (z ≡ ByteSize Four)) ⊎ ((o ≡ Some kinds.Size64) × (z ≡ ByteSize Eight))
stored (Some kinds.Size32) (ByteSize Four) h = inl (refl, refl)
stored (Some kinds.Size64) (ByteSize Eight) h = inr (refl, refl)
stored o z h = cc

-- a type whose row is of a size is that of an entry which stores one
abbrev is_size_row : ℕ → RelocationKindInfo → Bool
is_size_row n row = if is_size row.kind then nat_lt n (2 ^ 32) && stores (kind_of processors.X86_64 n) row.size else true

each_is_size_row : list_all (λ (e : ℕ × RelocationKindInfo). is_size_row e.0 e.1) x86_64_rows ≡ true
unfolding kind_of
each_is_size_row = refl

-- no row of AArch64 is of one
each_static : list_all (λ (e : ℕ × RelocationKindInfo). not (is_size e.1.kind)) static_rows ≡ true
each_static = refl

each_thread : list_all (λ (e : ℕ × RelocationKindInfo). not (is_size e.1.kind)) thread_rows ≡ true
each_thread = refl

no_size : (n : ℕ) (row : RelocationKindInfo) → aarch64_row n ≡ Some row → not (is_size row.kind) ≡ true
unfolding static_row thread_row
no_size n row h = by_static (static_row n) refl h
  where
    test : ℕ → RelocationKindInfo → Bool
    test k r = not (is_size r.kind)

    by_static : (o : Option RelocationKindInfo) → static_row n ≡ o → option_or o (thread_row n) ≡ Some row → not (is_size row.kind) ≡ true
    by_static (Some r) e k = entry_passes test static_rows each_static n row (e ∙ k)
    by_static None e k = entry_passes test thread_rows each_thread n row k

size_known : (m : Machine) (n : ℕ) (row : RelocationKindInfo) → row_of m n ≡ Some row → row.kind ≡ row_kinds.SymbolSize → (n < 2 ^ 32) × StoresSize (processor_of m) n row.size
unfolding row_of x86_64_row
size_known machine.X86_64 n row known kind =
    let passes = entry_passes is_size_row x86_64_rows each_is_size_row n row known in
    let sized : is_size row.kind ≡ true = ap is_size kind in
    let both = and_parts (nat_lt n (2 ^ 32)) (stores (kind_of processors.X86_64 n) row.size) (rw sized at passes) in
    (ltb-true n (2 ^ 32) both.0, stored (kind_of processors.X86_64 n) row.size both.1)
size_known machine.AArch64 n row known kind =
    let here : aarch64_row n ≡ Some row = cc in
    let none = no_size n row here in
    let sized : is_size row.kind ≡ true = ap is_size kind in
    cc (rw sized at none)

-- ---- the thread pointer

-- the writer rounds up as the judge does, modulo 2^64
pub rounded_same : (n align : ℕ) → n < 2 ^ 64 → rounded_up n align % 2 ^ 64 ≡ storage.rounded_up n align
rounded_same n align low =
    elim (cases_Bool (align == 0)) [
      | inr f ↦ rw f refl
      | inl t ↦
          (let z = eqb-true align 0 t in
          let none : align - n % align ≡ 0 = omega (arith, z) in
          let e : (align - n % align) % align ≡ 0 = ap (λ (k : ℕ). k % align) none ∙ zero-mod align in
          rw t (ap (λ (k : ℕ). (n + k) % 2 ^ 64) e ∙ same n low))
    ]
  where
    same : (n : ℕ) → n < 2 ^ 64 → (n + 0) % 2 ^ 64 ≡ n
    same n low = omega (arith, low)

less_same : (start r s : ℕ) → r < 2 ^ 64 → r % 2 ^ 64 ≡ s → (start + (2 ^ 64 - r)) % 2 ^ 64 ≡ (start + (2 ^ 64 - s)) % 2 ^ 64
less_same start r s low e = omega (arith, low, e)

pointer_is : (m : Machine) (t : Tls) → t.end < 2 ^ 64 → rounded_up 16 t.align < 2 ^ 64 → thread_pointer_of m t % 2 ^ 64 ≡ storage.thread_pointer m t
pointer_is machine.X86_64 t end block = rounded_same t.end t.align end
pointer_is machine.AArch64 t end block = less_same t.start (rounded_up 16 t.align) (storage.rounded_up 16 t.align) block (rounded_same 16 t.align (omega arith))

-- ---- all of them

pub facts_of : (m : Machine) → MachineFacts m
facts_of machine.X86_64 = record {
  number = omega arith;
  taken = refl;
  header = λ h e. rw e refl;
  types = λ k. (entry_known machine.X86_64 k).0;
  entries = λ k. (entry_known machine.X86_64 k).1;
  sizes = size_known machine.X86_64;
  pointer = pointer_is machine.X86_64;
}
facts_of machine.AArch64 = record {
  number = omega arith;
  taken = refl;
  header = λ h e. rw e refl;
  types = λ k. (entry_known machine.AArch64 k).0;
  entries = λ k. (entry_known machine.AArch64 k).1;
  sizes = size_known machine.AArch64;
  pointer = pointer_is machine.AArch64;
}

-- the rows of each machine's table
pub rows_read : X86_64Agrees → AArch64Agrees → RowsAreRead
unfolding row_of
rows_read first second machine.X86_64 n row known = first n row known
rows_read first second machine.AArch64 n row known = (let here : aarch64_row n ≡ Some row = cc in second n row here)
