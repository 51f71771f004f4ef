-- What is known of code that does what is demanded.
--   IsMeant ..     the value that is demanded, and the loaded bytes with their effect
--   meant ..       so it is where code does what is demanded
use Rattle.wild_meaning.proofs.Common.{◌≡◌, ℕ, List, length, Some, InputRelocation, Layout, Memory, World, Holds, Reader, Effect, Instruction, size_of, Item, place_at, IsDemanded, old_bytes, effect_of, DoesDemanded}
use Rattle.wild_meaning.specs.Template.{Demands}

pub record IsMeant (read : Reader) (l : Layout) (w : World) (m : Memory) (item : Item) (first : InputRelocation) (start : ℕ) (o : Instruction) : Type 0 where
  pub value : ℕ
  pub demands : Demands o.sort l w m item first value
  pub effect : Effect
  pub demanded : IsDemanded o.sort l item value (place_at w item start) (old_bytes item start o) effect
  pub bytes : List ℕ
  pub whole : length bytes ≡ size_of o
  pub held : Holds m (place_at w item start) bytes
  pub does : effect_of l.machine read (place_at w item start) bytes ≡ Some effect

pub meant : (read : Reader) (l : Layout) (w : World) (m : Memory) (item : Item) (first : InputRelocation) (start : ℕ) (o : Instruction) → DoesDemanded read l w m item first start o → IsMeant read l w m item first start o
meant read l w m item first start o h = record { value = h.value; demands = h.demands; effect = h.code.effect; demanded = h.code.demanded; bytes = h.code.bytes; whole = h.code.whole; held = h.code.held; does = h.code.does }

pub done : (read : Reader) (l : Layout) (w : World) (m : Memory) (item : Item) (first : InputRelocation) (start : ℕ) (o : Instruction) → IsMeant read l w m item first start o → DoesDemanded read l w m item first start o
done read l w m item first start o h = record { value = h.value; demands = h.demands; code = record { effect = h.effect; demanded = h.demanded; bytes = h.bytes; whole = h.whole; held = h.held; does = h.does } }
