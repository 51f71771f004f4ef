-- Images by their names.
--   named xs name        the place of the first image with that name
--   IsNameTable t xs     the table has the place of the first image with each name
use Rattle.std.specs.Prelude.{◌≡◌, ℕ, ◌+◌, if◌then◌else◌, List, [], ◌∷◌, Option, Some, None, bytes_eq}
use Rattle.std.specs.HashMap.{HashMap, get_by}
use Rattle.wild_space.specs.declared.image.NamedImage.{NamedImage}
use denote.Ref.{Bor}

-- the place of the first image with that name, among images of which the first has place i
unfoldable pub named_from : ℕ → List NamedImage → List ℕ → Option ℕ
named_from i [] name = None
named_from i (x ∷ xs) name = if bytes_eq x.name name then Some i else named_from (i + 1) xs name

abbrev pub named : List NamedImage → List ℕ → Option ℕ
named xs name = named_from 0 xs name

-- the table has the place of the first image with each name, among images of which the first has place i
abbrev pub IsTableFrom : {S : Type 0} → ℕ → HashMap (Bor (List ℕ)) ℕ S → List NamedImage → Type 0
IsTableFrom i t xs = (name : List ℕ) → get_by (λ k. bytes_eq name k.now) t ≡ named_from i xs name

abbrev pub IsNameTable : {S : Type 0} → HashMap (Bor (List ℕ)) ℕ S → List NamedImage → Type 0
IsNameTable t xs = IsTableFrom 0 t xs
