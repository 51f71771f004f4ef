-- Consecutive RELA entries (gABI, "Relocation", Elf64_Rela).
--   rela_bytes entries   the bytes of entries
--   entries_in bytes n   the first n entries in bytes
--   Entries              what callers see of a table: its entries, and the size of its share in bytes
use Rattle.std.specs.Prelude.{◌≡◌, ℕ, zero, suc, ◌*◌, ◌≤◌, List, [], ◌∷◌, ◌++◌, length, take}
use Rattle.std.specs.List.{flat_map}
use Rattle.wild_words.specs.Record.{spell}
use Rattle.wild_records.specs.declared.relocations.Rela.{Rela}
use Rattle.wild_records.specs.Relocations.{rela_size, rela_fields, rela_at}

-- the bytes of entries
abbrev pub rela_bytes : List Rela → List ℕ
rela_bytes es = flat_map (λ r. spell (rela_fields r)) es

-- the first n entries in bytes
unfoldable pub entries_in : List ℕ → ℕ → List Rela
entries_in bytes zero = []
entries_in bytes (suc n) = entries_in bytes n ++ rela_at bytes (rela_size * n) ∷ []

-- the entries of a table, and the size of its share in bytes
pub record Entries : Type 0 where
  pub entries : List Rela
  pub room : ℕ

abbrev pub entries_of_table : List ℕ → ℕ → Entries
entries_of_table bytes n = record { entries = entries_in bytes n; room = length bytes }

-- the bytes begin with those of the n entries that are read there
unfoldable pub IsSpelled : List ℕ → ℕ → Type 0
IsSpelled bytes n = take (rela_size * n) bytes ≡ rela_bytes (entries_in bytes n)

-- n entries fit in the share, and are written there
pub record IsTable (bytes : List ℕ) (n : ℕ) : Type 0 where
  pub fits : rela_size * n ≤ length bytes
  pub spelled : IsSpelled bytes n
