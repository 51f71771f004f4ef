-- A buffer of fixed size that is filled from its front.
--   BufferContent            what callers see of it: the written bytes, and the size of the buffer
--   with_bytes bs t   the buffer with bytes appended
use Rattle.std.specs.Prelude.{◌≡◌, ℕ, ◌≤◌, List, ◌++◌, length, take}

-- the written bytes, and the size of the buffer
pub record BufferContent : Type 0 where
  pub bytes : List ℕ
  pub room : ℕ

abbrev pub buffer_content : List ℕ → ℕ → BufferContent
buffer_content room used = record { bytes = take used room; room = length room }

-- the written bytes lie in the buffer
abbrev pub FitsBuffer : List ℕ → ℕ → Type 0
FitsBuffer room used = used ≤ length room

-- the buffer with bytes appended
abbrev pub with_bytes : List ℕ → BufferContent → BufferContent
with_bytes bs t = record t { bytes = t.bytes ++ bs }

-- the buffer has no unwritten bytes
abbrev pub IsFull : BufferContent → Type 0
IsFull t = length t.bytes ≡ t.room
