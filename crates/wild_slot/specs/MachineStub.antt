-- The stubs of each machine.
--   stub_of m bti slot stub   the stub at address stub for the slot at address slot; with bti it begins with a landing pad
--   stub_in l slot stub       the stub for the machine and options of a layout
--   distance_if_too_far l r                the distance of a resolution's stub from its slot if that is too large
use Rattle.std.specs.Prelude.{ℕ, Bool, if◌then◌else◌, Option, Some, None}
use Rattle.wild_types.specs.declared.kind.Machine.{Machine}
use Rattle.wild_types.specs.declared.kind.Machine.TheVariants as machine
use Rattle.wild_types.specs.declared.symbol.Resolution.{Resolution}
use Rattle.wild_types.specs.declared.layout.Layout.{Layout}
use Rattle.wild_slot.specs.Stub.{Stub, stub_x86_64}
use Rattle.wild_slot.specs.StubAArch64.{stub_aarch64}

-- the stub of a machine; on x86-64 each stub begins with a landing pad
abbrev pub stub_of : Machine → (bti : Bool) → (slot stub : ℕ) → Stub
stub_of machine.X86_64 bti slot stub = stub_x86_64 slot stub
stub_of machine.AArch64 bti slot stub = stub_aarch64 slot stub bti

abbrev pub stub_in : Layout → (slot stub : ℕ) → Stub
stub_in l slot stub = stub_of l.machine l.options.bti slot stub

-- the distance to the slot if the stub does not reach it
abbrev pub too_far : Stub → Option ℕ
too_far s = if s.reaches then None else Some s.distance

abbrev pub far_between : Layout → Option ℕ → Option ℕ → Option ℕ
far_between l (Some slot) (Some stub) = too_far (stub_in l slot stub)
far_between l slot stub = None

-- the same for the stub of a resolution, which jumps to its first slot
abbrev pub distance_if_too_far : Layout → Resolution → Option ℕ
distance_if_too_far l r = far_between l r.got_address r.plt_address
