-- What code reads that calls no function, other code reads too.
use Rattle.wild_laws.proofs.Common.{◌≡◌, ℕ, ◌%◌, ◌^◌, List, arith, Option, Some, None, option_map, option_and_then, Machine, InputRelocation, Layout, Memory, World, Effect, meaning_x86_64, Instruction, Item, place_at, reads, reads_without_calls, DoesDemanded}
use Rattle.wild_types.specs.declared.kind.Machine.TheVariants as machine
use Rattle.wild_loader.specs.declared.instruction.Operand.{Operand}
use Rattle.wild_loader.specs.declared.instruction.Operand.TheVariants.{Number, Word, Pair, Offset}
use Rattle.wild_loader.specs.declared.instruction.Action.{Action}
use Rattle.wild_loader.specs.Instruction.{effect, with_value}
use Rattle.wild_loader.specs.InstructionAArch64.{meaning_aarch64}
use Rattle.wild_meaning.specs.Template.{effect_of, DoesWith}

-- what such code reads, other code reads too
read_too : (w : World) (m : Memory) (p : Operand) (f : ℕ → Effect) (e : Effect) → option_map f (reads_without_calls w m p) ≡ Some e → option_map f (reads w m p) ≡ Some e
read_too w m (Number n) f e h = h
read_too w m (Word a) f e h = h
read_too w m (Pair a) f e h = cc
read_too w m (Offset a) f e h = cc

acts_too : (w : World) (m : Memory) (act : Option Action) (e : Effect) → option_and_then (effect (reads_without_calls w m)) act ≡ Some e → option_and_then (effect (reads w m)) act ≡ Some e
acts_too w m None e h = h
acts_too w m (Some act) e h = read_too w m act.operand (with_value act) e h

does_too : (k : Machine) (w : World) (m : Memory) (a : ℕ) (bs : List ℕ) (e : Effect) → effect_of k (reads_without_calls w m) a bs ≡ Some e → effect_of k (reads w m) a bs ≡ Some e
does_too machine.X86_64 w m a bs e h = acts_too w m (meaning_x86_64 a bs) e h
does_too machine.AArch64 w m a bs e h = acts_too w m (meaning_aarch64 a bs) e h

pub with_too : (l : Layout) (w : World) (m : Memory) (item : Item) (start : ℕ) (o : Instruction) (v : ℕ) → DoesWith (reads_without_calls w m) l w m item start o v → DoesWith (reads w m) l w m item start o v
with_too l w m item start o v d =
    record { effect = d.effect; demanded = d.demanded; bytes = d.bytes; whole = d.whole; held = d.held; does = does_too l.machine w m (place_at w item start) d.bytes d.effect d.does }

pub does_so : (l : Layout) (w : World) (m : Memory) (item : Item) (r : InputRelocation) (start : ℕ) (o : Instruction) → DoesDemanded (reads_without_calls w m) l w m item r start o → DoesDemanded (reads w m) l w m item r start o
does_so l w m item r start o d = record { value = d.value; demands = d.demands; code = with_too l w m item start o d.value d.code }

-- a number that is taken twice modulo 2^64
pub once_more : (v x : ℕ) → v ≡ x % 2 ^ 64 → v % 2 ^ 64 ≡ x % 2 ^ 64
once_more v x e = omega (arith, e)
