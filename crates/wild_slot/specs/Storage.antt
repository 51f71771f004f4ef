-- Addresses of thread-local data (ELF Handling For Thread-Local Storage).
--   minus a b              a - b
--   thread_pointer m tls  the address of the thread pointer relative to the initial data
--   is_outside tls value  the address is not one of the data
use Rattle.std.specs.Prelude.{ℕ, ◌+◌, ◌-◌, ◌%◌, ◌^◌, ◌==◌, ◌||◌, Bool, if◌then◌else◌, nat_lt}
use Rattle.wild_types.specs.declared.kind.Machine.{Machine}
use Rattle.wild_types.specs.declared.kind.Machine.TheVariants as machine
use Rattle.wild_types.specs.declared.layout.Tls.{Tls}

-- a - b, modulo 2^64
abbrev pub minus : ℕ → ℕ → ℕ
minus a b = (a + (2 ^ 64 - b)) % 2 ^ 64

-- the least multiple of align that is not below n, modulo 2^64; 0 is no alignment (gABI, "Program Header", p_align)
abbrev pub rounded_up : ℕ → ℕ → ℕ
rounded_up n align = if align == 0 then n else (n + (align - n % align) % align) % 2 ^ 64

-- after the data on x86-64 (section 3, variant II); on AArch64 (variant I) before the data and 16 bytes that the system reserves
abbrev pub thread_pointer : Machine → Tls → ℕ
thread_pointer machine.X86_64 tls = rounded_up tls.end tls.align
thread_pointer machine.AArch64 tls = minus tls.start (rounded_up 16 tls.align)

-- the address is neither in the data nor at their end
abbrev pub is_outside : Tls → ℕ → Bool
is_outside tls value = nat_lt value tls.start || nat_lt tls.end value
