-- The result for one group.
--   GivesPiece l i r           r is the bytes of group i by part and its relocation counts, or its first fault
--   PutsPieces l i old r new   if r is Ok, the image `new` is `old` with the pieces of group i; else r is the group's first fault
use Rattle.std.specs.Prelude.{◌≡◌, ℕ, List, Some, slice_get, Result, IfOk, OnOk}
use Rattle.wild_words.specs.Overlay.{overlay}
use Rattle.wild_types.specs.declared.fault.Error.{Error}
use Rattle.wild_types.specs.declared.file.Group.{Group}
use Rattle.wild_types.specs.declared.layout.Layout.{Layout}
use Rattle.wild_types.specs.Faults.{Answers}
use Rattle.wild_layout.specs.Faults.{group_errors}
use Rattle.wild_layout.specs.Image.{group_pieces}
use Rattle.wild_image.specs.Pieces.{group_parts, group_pairs}
use Rattle.wild_image.specs.declared.piece.GroupPiece.{GroupPiece}

abbrev pub GivesPiece : Layout → ℕ → Result GroupPiece Error → Type 0
GivesPiece l i r = (g : Group) → slice_get l.groups i ≡ Some g → Answers r (group_errors l i g) × IfOk r (λ p. (p.parts ≡ group_parts l g) × (p.counts ≡ group_pairs l g))

abbrev pub PutsPieces : Layout → ℕ → List ℕ → Result (Unit {0}) Error → List ℕ → Type 0
PutsPieces l i old r new = (g : Group) → slice_get l.groups i ≡ Some g → Answers r (group_errors l i g) × OnOk r (new ≡ overlay (group_pieces l i g) old)
