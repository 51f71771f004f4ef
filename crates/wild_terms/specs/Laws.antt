-- Statements about symbolic loading.
--   Follows w s m       in a world, memory has the values of the terms of symbolic memory
--   TermsAreLoaded      in every world of an outline an image with terms can be loaded, and its memory has their values
--   SumsAreValues, DifferencesAreValues, SameTermsAreEqual   arithmetic of terms is that of their values
use Rattle.std.specs.Prelude.{◌≡◌, ℕ, ◌+◌, ◌-◌, ◌%◌, ◌^◌, ◌<◌, ◌≤◌, List, true, Some, Ok, All}
use Rattle.wild_words.specs.Words.{word}
use Rattle.wild_records.specs.declared.file_header.FileHeader.{FileHeader}
use Rattle.wild_loader.specs.declared.memory.Memory.{Memory}
use Rattle.wild_loader.specs.declared.world.World.{World}
use Rattle.wild_loader.specs.Memory.{byte_in, Holds}
use Rattle.wild_loader.specs.Headers.{header, program_headers}
use Rattle.wild_loader.specs.MovedLaws.{EndsBelow}
use Rattle.wild_loader.specs.Load.{load}
use Rattle.wild_loader.specs.Changes.{first_value}
use Rattle.wild_terms.specs.declared.term.Term.{Term}
use Rattle.wild_terms.specs.declared.outline.Outline.{Outline}
use Rattle.wild_terms.specs.Terms.{sum, difference, same_term}
use Rattle.wild_terms.specs.Values.{value_of, IsWorldOf}
use Rattle.wild_terms.specs.Symbolic.{Symbolic, terms_of, IsSorted, term_at, descriptor_at, known_byte}

-- in a world, memory has the values of the terms of symbolic memory
pub record Follows (w : World) (s : Symbolic) (m : Memory) : Type 0 where
  pub machine : m.machine ≡ s.memory.machine
  pub terms : (a n : ℕ) (t : Term) → n ≤ 8 → term_at s a n ≡ Some t → Holds m (w.base + a) (word n (value_of w t))
  pub descriptors : (a : ℕ) (t : Term) → descriptor_at s a ≡ Some t → first_value m.descriptors (w.base + a) ≡ Some (value_of w t)
  pub places : (a : ℕ) (t : Term) → descriptor_at s a ≡ Some t → w.base + a < 2 ^ 64
  pub bytes : (a b : ℕ) → known_byte s a ≡ Some b → byte_in m (w.base + a) ≡ Some b

-- in a world in which no segment ends past the last address
abbrev pub HasRoom : World → List ℕ → Type 0
HasRoom w image = (e : FileHeader) → header image ≡ Ok e → EndsBelow w.base (program_headers image e.program_count e.program_offset)

-- in every world of an outline an image with terms can be loaded, and its memory has their values
abbrev pub TermsAreLoaded : Type 0
TermsAreLoaded = (o : Outline) (image : List ℕ) (s t : Symbolic) (w : World) → terms_of o image ≡ Ok s → IsSorted s t → IsWorldOf o w → HasRoom w image → All (λ b. b < 256) image
    → (m : Memory) × (load w image ≡ Ok m) × Follows w t m

-- a number added to a term is added to its value
abbrev pub SumsAreValues : Type 0
SumsAreValues = (w : World) (t : Term) (n : ℕ) → value_of w (sum t n) ≡ (value_of w t + n) % 2 ^ 64

-- the difference of two terms is that of their values
abbrev pub DifferencesAreValues : Type 0
DifferencesAreValues = (w : World) (s t : Term) (d : ℕ) → t.plus < 2 ^ 64 → difference s t ≡ Some d → (value_of w s + (2 ^ 64 - value_of w t)) % 2 ^ 64 ≡ d

-- terms with the same atom and the same number have the same value
abbrev pub SameTermsAreEqual : Type 0
SameTermsAreEqual = (s t : Term) → same_term s t ≡ true → s ≡ t
