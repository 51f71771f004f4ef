-- Sections that contribute nothing to the tables of dynamic relocations, by a fast test.
--   can_need_entry n   a relocation of type n can need an entry there, or a RELR word
--   needs_no_entry s   the relocations of a section are not read; or it holds frames whose relocations all have other types
use Rattle.std.specs.Prelude.{ℕ, ◌==◌, ◌&&◌, ◌||◌, Bool, not}
use Rattle.std.specs.List.{list_all}
use Rattle.wild_records.specs.Abi.Relocation.{r_aarch64_abs64, r_x86_64_64, r_x86_64_size32, r_x86_64_size64}
use Rattle.wild_types.specs.declared.input.InputRelocation.{InputRelocation}
use Rattle.wild_types.specs.declared.input.InputSection.{InputSection}
use Rattle.wild_types.specs.Lookups.{is_frame, is_read}

-- the types that can need an entry: those of 8-byte addresses, and of sizes (x86-64 psABI, "Relocation Types"; aaelf64, "Dynamic
-- relocations")
abbrev pub can_need_entry : ℕ → Bool
can_need_entry n = (n == r_x86_64_64 || n == r_aarch64_abs64) || (n == r_x86_64_size32 || n == r_x86_64_size64)

-- the relocations of a section are not read; or it holds frames whose relocations all have other types
unfoldable pub needs_no_entry : InputSection → Bool
needs_no_entry s = not (is_read s) || (is_frame s.slot && list_all (λ (r : InputRelocation). not (can_need_entry r.number)) s.relocations)
