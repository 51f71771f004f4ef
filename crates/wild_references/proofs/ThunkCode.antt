-- A thunk in memory: its bytes jump to its target.
use Rattle.wild_references.proofs.Common.{◌≡◌, ℕ, ◌+◌, ◌/◌, ◌%◌, ◌^◌, ◌≤◌, true, List, refl, ap, ◌∙◌, arith, subst, Some, option_and_then, Machine, Thunk, Layout, page, meaning, words_of, Memory, World, Holds, Number, Jump, action_of, byte_below, processor_of}
use Rattle.wild_types.specs.declared.kind.Machine.TheVariants as machine
use Rattle.wild_reloc.specs.declared.instruction.AArch64Instruction.TheVariants.{Adr, Imm12}
use Rattle.wild_relax.specs.ThunkAArch64.{thunk_words, thunk_aarch64}
use Rattle.wild_relax.specs.LawsAArch64.{ThunksReach}
use Rattle.wild_relax.proofs.FieldsAArch64Lemmas.{fields_agree}
use Rattle.wild_relax.proofs.AArch64Lemmas.{within}
use Rattle.wild_aarch64.specs.Machine.{jump_to}
use Rattle.wild_aarch64.specs.Stub.{thunk}
use Rattle.wild_slot.specs.StubAArch64.{spelled, distance_from}
use Rattle.wild_layout.proofs.ThunkLemmas.{length-thunk}
use Rattle.wild_loader.specs.declared.memory.Machine.TheVariants as machines
use Rattle.wild_loader.specs.StepLawsAArch64.{ThunksAreRead}
use Rattle.wild_loader.specs.Reach.{JumpsTo}
use Rattle.wild_meaning.specs.Jump.{meaning_of}
use Rattle.wild_geometry.specs.Thunks.{HasThunk}
use Rattle.wild_references.specs.Thunks.{JumpsToTarget, ThunksJumpToTargets}
use Rattle.wild_references.proofs.StubCode.{paged_on}

-- its words, as they are written and as they are read
words_are : (p t : ℕ) → thunk_words (distance_from (page p) (page t)) t ≡ thunk p t
words_are p t = rw (fields_agree Adr (distance_from (page p) (page t) / 4096 % 2 ^ 21) 0x90000010, fields_agree Imm12 (t % 4096) 0x91000210) refl

-- it does not wrap
thunk_ends : (m : Memory) (base p t : ℕ) → Holds m (base + p) (thunk_aarch64 p t).bytes → base + p + 12 ≤ 2 ^ 64
thunk_ends m base p t held =
    let n = length-thunk p t in
    let last = byte_below m (base + p + 11) _ (held 11 (omega (arith, n))) in
    omega (arith, last)

-- what the words of a jump mean, in the terms of both machines
jump_is : (l : Layout) (a x : ℕ) (bs : List ℕ) → l.machine ≡ machine.AArch64 → meaning a (words_of bs) ≡ Some (jump_to x) → meaning_of l.machine a bs ≡ Some (record { deed = Jump; width = 64; operand = Number x })
jump_is l a x bs on h = ap (λ (k : Machine). meaning_of k a bs) on ∙ ap (λ o. option_and_then action_of o) h

-- the laws of a thunk: what its words mean, and where it goes in memory
pub record ThunkLaws : Type 0 where
  pub meant : ThunksReach
  pub read : ThunksAreRead

-- the thunk at base + p, in reach of its target t, goes on to base + t
thunk_jumps : ThunksAreRead → (m : Memory) (base p t : ℕ) → m.machine ≡ machines.AArch64 → base % 4096 ≡ 0 → (thunk_aarch64 p t).reaches ≡ true → Holds m (base + p) (thunk_aarch64 p t).bytes → JumpsTo m (base + p) ((base + t) % 2 ^ 64)
thunk_jumps law m base p t machine pages reaches held =
    let bytes = subst (λ (ws : List ℕ). Holds m (base + p) (spelled ws)) (words_are p t) held in
    record { effect = _; known = law m base p t machine (within p t reaches) pages (thunk_ends m base p t held) bytes; jump = refl }

-- ---- each thunk of a layout

thunk_goes : ThunkLaws → (l : Layout) (w : World) (m : Memory) (t : Thunk) → l.machine ≡ machine.AArch64 → m.machine ≡ machines.AArch64 → w.base % 4096 ≡ 0 → HasThunk l w m t → JumpsToTarget l w m t
thunk_goes laws l w m t on machine pages h =
    let ends = thunk_ends m w.base t.address h.target h.stands in
    let goal = (w.base + h.target) % 2 ^ 64 in
    record {
      target = h.target;
      known = h.known;
      ends = ends;
      code = record {
        bytes = (thunk_aarch64 t.address h.target).bytes;
        whole = length-thunk t.address h.target;
        held = h.stands;
        means = jump_is l (w.base + t.address) goal _ on (laws.meant w.base t.address h.target h.reaches pages ends);
        jumps = thunk_jumps laws.read m w.base t.address h.target machine pages h.reaches h.stands;
      };
    }

pub thunks_go : ThunkLaws → ThunksJumpToTargets
thunks_go law = λ l w m paged loaded laid has b t c d.
    let on = (laid.blocks b t c d).on in
    let machine : m.machine ≡ machines.AArch64 = loaded ∙ ap (λ (k : Machine). processor_of k) on in
    thunk_goes law l w m t on machine (paged_on l w paged on).pages (has b t c d)
