-- The offset of a symbol from the thread pointer in a legal world.
use Rattle.wild_references.proofs.Common.{◌≡◌, ℕ, ℤ, ◌+◌, ◌-◌, ◌%◌, ◌^◌, ◌<◌, refl, sym, ap, arith, subst, Option, Some, Ok, w64, cast_unsigned, signed_fits, Machine, OutputKind, Layout, World, first_value, distance_of, HasRaw, IsOffsetBase, IsExecutable, IsFirstModule, MovesByPages}
use Rattle.wild_types.specs.declared.kind.Machine.TheVariants as machine
use Rattle.wild_types.specs.declared.kind.OutputKind.TheVariants as output
use Rattle.wild_slot.specs.Storage as storage
use Rattle.wild_loader.specs.declared.fault.LoadFault.TheVariants as faults
use Rattle.wild_loader.specs.Outcome.{◌>>=◌, known}
use Rattle.wild_meaning.specs.Thread.{thread_pointer_of, thread_pointer, HasDistance, IsThreadPlace}
use Rattle.wild_meaning.specs.World.{first_module, IsKnownModule}
use Rattle.wild_meaning.proofs.WorldLemmas.{first_filtered}
use Rattle.wild_geometry.proofs.MachineLemmas.{rounded_same, facts_of}

-- so that the world has the distance of its module
found : (w : World) (m : ℕ) (d : ℤ) → first_value w.modules m ≡ Some d → distance_of w m ≡ Ok (cast_unsigned w64 d)
found w m d h = ap (λ (o : Option ℤ). known o (faults.NoAnswer m) >>= λ x. Ok (cast_unsigned w64 x)) h

-- which is a number of the machine
pub distance_below : (w : World) (m : ℕ) → (k : IsKnownModule w m) → cast_unsigned w64 k.distance < 2 ^ 64
distance_below w m k = signed_fits w64 k.distance k.fits

-- the world has the own module's distance
pub own_distance : (l : Layout) (w : World) → (f : IsFirstModule l w) → HasDistance w (cast_unsigned w64 f.distance)
own_distance l w f =
    let here = first_filtered w.modules first_module f.distance f.pair in
    subst (λ (n : ℕ). distance_of w n ≡ Ok (cast_unsigned w64 f.distance)) (sym f.own) (found w first_module f.distance here)

-- the place of a symbol in the data of a module with a distance
pub placed_thread : (l : Layout) (w : World) (i raw d : ℕ) → HasDistance w d → HasRaw l i raw → IsThreadPlace l w i ((d + raw + (2 ^ 64 - l.tls.start)) % 2 ^ 64)
placed_thread l w i raw d own given = record { raw = raw; given = given; distance = d; own = own; sum = refl }

-- the place of a symbol in the thread's data
pub thread_place : (l : Layout) (w : World) (i raw : ℕ) → (f : IsFirstModule l w) → HasRaw l i raw → IsThreadPlace l w i ((cast_unsigned w64 f.distance + raw + (2 ^ 64 - l.tls.start)) % 2 ^ 64)
thread_place l w i raw f given = record { raw = raw; given = given; distance = cast_unsigned w64 f.distance; own = own_distance l w f; sum = refl }

-- it is the address less the thread pointer
pub thread_sum : (l : Layout) (w : World) (raw a : ℕ) → (f : IsFirstModule l w) → ((cast_unsigned w64 f.distance + raw + (2 ^ 64 - l.tls.start)) % 2 ^ 64 + a) % 2 ^ 64 ≡ (raw + a + (2 ^ 64 - thread_pointer l % 2 ^ 64)) % 2 ^ 64
thread_sum l w raw a f = by_numbers (cast_unsigned w64 f.distance) (thread_pointer l) l.tls.start raw a f.is.begins
  where
    by_numbers : (d tp start raw a : ℕ) → (tp + d) % 2 ^ 64 ≡ start → ((d + raw + (2 ^ 64 - start)) % 2 ^ 64 + a) % 2 ^ 64 ≡ (raw + a + (2 ^ 64 - tp % 2 ^ 64)) % 2 ^ 64
    by_numbers d tp start raw a e = omega (arith, e)

-- ---- the thread pointer

-- the writer's number is the reader's, modulo 2^64
pub pointer_same : (l : Layout) (w : World) → MovesByPages l.machine l w → l.tls.end < 2 ^ 64 → thread_pointer l % 2 ^ 64 ≡ storage.thread_pointer l.machine l.tls
pointer_same l w paged low = by_machine l.machine paged
  where
    by_machine : (k : Machine) → MovesByPages k l w → thread_pointer_of k l.tls % 2 ^ 64 ≡ storage.thread_pointer k l.tls
    by_machine machine.X86_64 h = rounded_same l.tls.end l.tls.align low
    by_machine machine.AArch64 h = (facts_of machine.AArch64).pointer l.tls low h.block

-- offsets in an x86-64 executable's data count from the thread pointer
pub own_base : (m : Machine) (k : OutputKind) (w : World) → m ≡ machine.X86_64 → IsExecutable k → IsOffsetBase m k w 0
own_base m k w x e = subst (λ (n : Machine). IsOffsetBase n k w 0) (sym x) (by_kind k e)
  where
    by_kind : (k : OutputKind) → IsExecutable k → IsOffsetBase machine.X86_64 k w 0
    by_kind (output.StaticExecutable any) h = refl
    by_kind (output.DynamicExecutable any) h = refl
    by_kind output.SharedObject h = absurd h
    by_kind output.PartialObject h = absurd h

-- those of a library from its own data
pub library_base : (m : Machine) (k : OutputKind) (w : World) (d : ℕ) → m ≡ machine.X86_64 → k ≡ output.SharedObject → HasDistance w d → IsOffsetBase m k w d
library_base m k w d x e h = subst (λ (n : Machine). IsOffsetBase n k w d) (sym x) (subst (λ (j : OutputKind). IsOffsetBase machine.X86_64 j w d) (sym e) h)

-- and so do those of any AArch64 output
pub data_base : (k : OutputKind) (w : World) (d : ℕ) → HasDistance w d → IsOffsetBase machine.AArch64 k w d
data_base (output.StaticExecutable any) w d h = h
data_base (output.DynamicExecutable any) w d h = h
data_base output.SharedObject w d h = h
data_base output.PartialObject w d h = h
