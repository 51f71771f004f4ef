-- The bytes of stubs, and words of code as bytes.
use Rattle.std.proofs.Common.{◌≡◌, ℕ, ◌+◌, ◌*◌, ◌<◌, Bool, true, false, List, ◌++◌, arith, length, take, get_or, refl}
use Rattle.wild_words.specs.Words.{word}
use Rattle.wild_words.proofs.ListLemmas.{flat_map-more}
use Rattle.wild_words.proofs.OverlayLemmas.{length-place}
use Rattle.wild_words.proofs.WordLemmas.{length-word}
use Rattle.wild_types.specs.declared.kind.Machine.{Machine}
use Rattle.wild_types.specs.declared.kind.Machine.TheVariants as machine
use Rattle.wild_slot.specs.Stub.{displacement_x86_64, stub_template}
use Rattle.wild_slot.specs.StubAArch64.{spelled}
use Rattle.wild_slot.specs.MachineStub.{stub_of}

-- a word more, written behind the others
pub spelled_more : (ws now next : List ℕ) (i at : ℕ) → i < length ws → at ≡ 4 * i → take at now ≡ spelled (take i ws) → take (at + 4) next ≡ take at now ++ word 4 (get_or ws i 0) → take (4 * (i + 1)) next ≡ spelled (take (i + 1) ws)
spelled_more ws now next i at h e same step =
    let place : 4 * (i + 1) ≡ at + 4 = omega arith in
    rw (place, step, same, flat_map-more (word 4) ws i 0 h) refl

-- a stub has 16 bytes
pub length-stub_of : (m : Machine) (bti : Bool) (slot stub : ℕ) → length (stub_of m bti slot stub).bytes ≡ 16
unfolding word
length-stub_of machine.X86_64 bti slot stub =
    let n = length-word 4 (displacement_x86_64 slot stub) in
    length-place 7 stub_template (word 4 (displacement_x86_64 slot stub)) (omega (arith, n))
length-stub_of machine.AArch64 true slot stub = refl
length-stub_of machine.AArch64 false slot stub = refl
