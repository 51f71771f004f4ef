-- What is known of a kept section of a layout that is laid out and decided.
use Rattle.wild_geometry.proofs.ReadLemmas.{read_fields, read_written}
use Rattle.wild_loaded.proofs.Common.{◌≡◌, ℕ, length, refl, sym, subst, All, InputSection, item_with, block_for, Layout, FieldLies, SectionLies, IsLaidOut, EachDecided, IsKeptPlacedSection, each_at}
use Rattle.wild_geometry.specs.Loaded.{IsDecided}

-- what is known of a kept section of a layout that is laid out and decided, with the block of thunks that its file has for it
pub record IsKeptWell (l : Layout) (block : ℕ) (s : InputSection) : Type 0 where
  pub kept : IsKeptPlacedSection l s
  pub own : block ≡ block_for l kept.input.owner s
  pub decisions : IsDecided l (item_with block s)
  pub lies : SectionLies l s
  pub full : length s.bytes ≡ s.size
  pub fields : All (FieldLies l.machine (length s.bytes)) s.relocations

pub kept_well : (l : Layout) (s : InputSection) → IsLaidOut l → EachDecided l → (k : IsKeptPlacedSection l s) → IsKeptWell l (block_for l k.input.owner s) s
kept_well l s laid decided k =
    let lies = each_at (SectionLies l) l s laid.inputs k.input in
    let read = k.reads in
    record {
      kept = k;
      own = refl;
      decisions = decided s k.input read k.written;
      lies = lies;
      full = lies.bytes (read_written s read);
      fields = subst (λ (n : ℕ). All (FieldLies l.machine n) s.relocations) (sym (lies.bytes (read_written s read))) (lies.fields (read_fields s read));
    }
