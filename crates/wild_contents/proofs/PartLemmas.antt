-- Room for the bytes of a part.
use Rattle.std.proofs.Common.{◌≡◌, ℕ, ◌*◌, length, sym, ◌∙◌}
use Rattle.wild_records.specs.Relocations.{rela_size}
use Rattle.wild_types.specs.declared.input.InputSection.{InputSection}
use Rattle.wild_types.specs.declared.layout.Layout.{Layout}
use Rattle.wild_layout.specs.Partial.{rela_bytes_of}
use Rattle.wild_layout.proofs.PartialLemmas.{length-rela_bytes_of}

-- as many bytes as a table of relocations has
pub rela_room : (l : Layout) (s : InputSection) (n : ℕ) → length (rela_bytes_of l s) ≡ s.size → n ≡ s.size → n ≡ rela_size * length s.relocations
rela_room l s n size is = is ∙ sym size ∙ length-rela_bytes_of l s
