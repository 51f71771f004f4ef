-- Relocations of a section as a table has them, and of one whose relocations are not read.
use Rattle.std.proofs.Common.{◌≡◌, true, false, List, [], ◌∷◌, map, refl, ap, sym, ◌∙◌, inl, inr, Option, Some, None}
use Rattle.std.proofs.lemmas.Bool.{cases_Bool}
use Rattle.wild_types.specs.declared.input.InputRelocation.{InputRelocation}
use Rattle.wild_types.specs.declared.input.InputSection.{InputSection}
use Rattle.wild_types.specs.declared.layout.Layout.{Layout}
use Rattle.wild_types.specs.Kinds.{is_partial_link}
use Rattle.wild_placement.specs.ReversedWords.{reversed_offset, with_word_order}
use Rattle.wild_placement.specs.PlacedSections.{base_of, counted_from, relocations_at, unread}
use Rattle.wild_placement.specs.PlacedInputs.{placed_at}

-- the target's relocations are those of its words as they stand, counted from where it begins
pub placed_relocations : (s : InputSection) → map (placed_at s) s.relocations ≡ map (counted_from (base_of s)) (with_word_order s).relocations
unfolding with_word_order
placed_relocations s =
    elim (cases_Bool s.reversed) [
      | inl t ↦ rw t (each s.relocations)
      | inr f ↦ rw f refl
    ]
  where
    each : (rs : List InputRelocation) → map (λ r. counted_from (base_of s) (reversed_offset s.size r)) rs ≡ map (counted_from (base_of s)) (map (reversed_offset s.size) rs)
    each [] = refl
    each (r ∷ rs) = ap (λ xs. counted_from (base_of s) (reversed_offset s.size r) ∷ xs) (each rs)

-- those of the target that was found
pub target_placed : (o : Option InputSection) (s : InputSection) → o ≡ Some s → map (placed_at s) s.relocations ≡ relocations_at o
target_placed o s h = placed_relocations s ∙ ap relocations_at (sym h)

pub target_missing : (o : Option InputSection) → o ≡ None → relocations_at o ≡ []
target_missing o h = ap relocations_at h

-- of a relocatable object none are read
pub none_read : (l : Layout) (s : InputSection) → is_partial_link l.kind ≡ true → (with_word_order (unread l s)).relocations ≡ []
unfolding with_word_order
none_read l s p =
    elim (cases_Bool s.reversed) [
      | inl t ↦ rw (p, t) refl
      | inr f ↦ rw (p, f) refl
    ]
