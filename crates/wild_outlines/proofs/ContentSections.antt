-- The bytes of a section in an outline.
use Rattle.wild_outlines.proofs.Common.{◌≡◌, ℕ, Option, Some, None, option_map, refl, fun_ext, File, InputSection, Slot, Layout, outline_section, outline_file, outline}
use Rattle.wild_types.specs.declared.input.Slot.TheVariants as slot
use Rattle.wild_table_formats.specs.SectionSymbols.{symbol_section}
use Rattle.wild_layout.specs.Partial.{rela_bytes_of, rela_of, shift, shift_by, shift_of}
use Rattle.wild_layout.specs.Sites.{bytes_by, section_bytes}
use Rattle.wild_outlines.proofs.Decisions.{sites-outline}
use Rattle.wild_outlines.proofs.ContentSymbols.{named_index-outline, symbol_section-outline}
use Rattle.wild_outlines.proofs.DebugDecisions.{debug_bytes-outline}

shift_of-outline : (o : Option InputSection) → shift_of (option_map outline_section o) ≡ shift_of o
shift_of-outline None = refl
shift_of-outline (Some s) = refl

shift_by-each : (l : Layout) (i : ℕ) → shift_by (outline l) i ≡ shift_by l i
shift_by-each l i = fun_ext (λ s. simp (symbol_section-outline l i, shift_of-outline (symbol_section l i)))

shift-outline : (l : Layout) (o : Option ℕ) → shift (outline l) o ≡ shift l o
shift-outline l None = refl
shift-outline l (Some i) = simp (shift_by-each l i)

rela_of-each : (l : Layout) → rela_of (outline l) ≡ rela_of l
rela_of-each l = fun_ext (λ r. simp (named_index-outline l, shift-outline l))

rela_bytes_of-outline : (l : Layout) (s : InputSection) → rela_bytes_of (outline l) s ≡ rela_bytes_of l s
unfolding rela_bytes_of
rela_bytes_of-outline l s = simp (rela_of-each l)

bytes_by-outline : (l : Layout) (k : Slot) (f : File) (s : InputSection) → bytes_by k (outline l) (outline_file f) s ≡ bytes_by k l f s
bytes_by-outline l slot.Debug f s = debug_bytes-outline l s
bytes_by-outline l slot.Rela f s = rela_bytes_of-outline l s
bytes_by-outline l slot.Group f s = refl
bytes_by-outline l other f s = simp (sites-outline l)

pub section_bytes-outline : (l : Layout) (f : File) (s : InputSection) → section_bytes (outline l) (outline_file f) s ≡ section_bytes l f s
unfolding section_bytes
section_bytes-outline l f s = simp (bytes_by-outline l s.slot f s)
