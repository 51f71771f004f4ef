-- Thread-local storage ("ELF Handling For Thread-Local Storage", "Run-Time Handling of TLS"). AArch64 uses variant I of its data
-- structures, x86-64 variant II.
--   thread_pointer l          the value of the thread pointer if the initial data are used as a thread's own
--   IsOwnDistance l d         d is the signed distance of the output's own data from the thread pointer
--   HasDistance w d           d is the distance of the image's own module in the world, modulo 2^64
--   HasOwnOffset l w i t      t is the offset from the thread pointer of the output's own symbol i
--   HasThreadOffset l w i t   t is symbol i's offset there, whichever module has it
--   IsOffsetBase ..           offsets in the own module are relative to b
use Rattle.std.specs.Prelude.{◌≡◌, ℕ, ℤ, ◌+◌, ◌-◌, ◌%◌, ◌^◌, ◌⊎◌, true, false, Ok}
use Rattle.std.specs.Int.{w64, cast_unsigned}
use Rattle.std.specs.Int.RustNames.{FitsSigned}
use Rattle.wild_types.specs.declared.kind.Machine.{Machine}
use Rattle.wild_types.specs.declared.kind.Machine.TheVariants as machine
use Rattle.wild_types.specs.declared.kind.OutputKind.{OutputKind}
use Rattle.wild_types.specs.declared.kind.OutputKind.TheVariants as output
use Rattle.wild_types.specs.declared.layout.Tls.{Tls}
use Rattle.wild_types.specs.declared.layout.Layout.{Layout}
use Rattle.wild_loader.specs.declared.world.World.{World}
use Rattle.wild_loader.specs.declared.world.Answer.{Answer}
use Rattle.wild_loader.specs.Changes.{distance_of}
use Rattle.wild_meaning.specs.Value.{HasRaw, IsUndefined, IsReplaceable, HasAnswer}

-- the lowest multiple of an alignment that is at least n; 0 is no alignment (gABI, "Program Header", p_align)
abbrev pub rounded_up : ℕ → ℕ → ℕ
rounded_up n align = n + (align - n % align) % align

-- the size in bytes of the thread control block, which variant I has at the thread pointer, below the executable's data
abbrev pub control_block_size : ℕ
control_block_size = 16

-- the thread pointer: after the executable's data, or before them by the size of the control block, rounded to the alignment
abbrev pub thread_pointer_of : Machine → Tls → ℕ
thread_pointer_of machine.X86_64 tls = rounded_up tls.end tls.align
thread_pointer_of machine.AArch64 tls = tls.start + (2 ^ 64 - rounded_up control_block_size tls.align)

abbrev pub thread_pointer : Layout → ℕ
thread_pointer l = thread_pointer_of l.machine l.tls

-- the data begin at the thread pointer plus d, modulo 2^64
pub record IsOwnDistance (l : Layout) (d : ℤ) : Type 0 where
  pub fits : FitsSigned w64 d
  pub begins : (thread_pointer l + cast_unsigned w64 d) % 2 ^ 64 ≡ l.tls.start

-- the distance that the world has for the image's own module
abbrev pub HasDistance : World → ℕ → Type 0
HasDistance w d = distance_of w w.own_module ≡ Ok d

-- t is the sum of the own module's distance and symbol i's offset in the initial data; the address of a thread-local symbol does
-- not move with the base
pub record IsThreadPlace (l : Layout) (w : World) (i t : ℕ) : Type 0 where
  pub raw : ℕ
  pub given : HasRaw l i raw
  pub distance : ℕ
  pub own : HasDistance w distance
  pub sum : t ≡ (distance + raw + (2 ^ 64 - l.tls.start)) % 2 ^ 64

-- t is the thread-pointer offset of the output's own symbol i; it may also be 0 if the symbol is undefined or at address 0
abbrev pub HasOwnOffset : Layout → World → ℕ → ℕ → Type 0
HasOwnOffset l w i t = IsThreadPlace l w i t ⊎ ((IsUndefined l i ⊎ HasRaw l i 0) × (t ≡ 0))

-- t is the sum of the distance of the module in the world's answer for symbol i, and the symbol's offset there
pub record IsAnsweredPlace (l : Layout) (w : World) (i t : ℕ) : Type 0 where
  pub answer : Answer
  pub given : HasAnswer l w i answer
  pub distance : ℕ
  pub known : distance_of w answer.module ≡ Ok distance
  pub sum : t ≡ (distance + answer.offset) % 2 ^ 64

-- t is symbol i's thread-pointer offset, from the world's answer or from the output itself
abbrev pub HasThreadOffset : Layout → World → ℕ → ℕ → Type 0
HasThreadOffset l w i t = (IsReplaceable l i true × IsAnsweredPlace l w i t) ⊎ (IsReplaceable l i false × HasOwnOffset l w i t)

-- Offsets in the own module are relative to b, the start of its data. In an x86-64 executable b is 0, because its code uses the
-- thread pointer as their start ("Linker Relaxations", from Local Dynamic to Local Exec).
abbrev pub IsOffsetBase : Machine → OutputKind → World → ℕ → Type 0
IsOffsetBase machine.X86_64 (output.StaticExecutable any) w b = b ≡ 0
IsOffsetBase machine.X86_64 (output.DynamicExecutable any) w b = b ≡ 0
IsOffsetBase machine kind w b = HasDistance w b
