-- What a source and a sink in memory do.
--   sure_unread s, mem_unread s    the bytes not read yet
--   is_named calls n           call n is in the list of the calls that fail, or accept no bytes
--   SourceMoves s t            a read leaves the lists unchanged, and the call's number is one higher
--   SinkMoves s t              a write leaves the lists unchanged, and the call's number is one higher
use Rattle.std.specs.Prelude.{◌≡◌, ℕ, ◌+◌, ◌-◌, ◌^◌, ◌==◌, min, Bool, List, drop}
use Rattle.std.specs.List.{list_any}
use Rattle.wild_io.specs.declared.sure.SureSource.{SureSource}
use Rattle.wild_io.specs.declared.memory.MemSource.{MemSource}
use Rattle.wild_io.specs.declared.memory.MemSink.{MemSink}

-- the bytes not read yet
abbrev pub sure_unread : SureSource → List ℕ
sure_unread s = drop s.at s.bytes.items

-- the bytes not read yet
abbrev pub mem_unread : MemSource → List ℕ
mem_unread s = drop s.at s.bytes.items

-- call n is in the list
abbrev pub is_named : List ℕ → ℕ → Bool
is_named calls n = list_any (λ call. call == n) calls

-- the number of the call after call n
abbrev pub next_call : ℕ → ℕ
next_call n = min (n + 1) (2 ^ 64 - 1)

-- the source after a read
pub record SourceMoves (s t : MemSource) : Type 0 where
  pub failing : t.failing ≡ s.failing
  pub most : t.most ≡ s.most
  pub calls : t.calls ≡ next_call s.calls

-- the sink after a write
pub record SinkMoves (s t : MemSink) : Type 0 where
  pub failing : t.failing ≡ s.failing
  pub empty : t.empty ≡ s.empty
  pub most : t.most ≡ s.most
  pub calls : t.calls ≡ next_call s.calls
