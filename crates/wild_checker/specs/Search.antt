-- The first input section of a layout that a question has an answer for.
--   in_groups asks n gs   the first answer among groups, with its place; positions of groups count from n
use Rattle.std.specs.Prelude.{ℕ, ◌+◌, List, [], ◌∷◌, Option, Some, None}
use Rattle.wild_types.specs.declared.file.File.{File}
use Rattle.wild_types.specs.declared.file.Group.{Group}
use Rattle.wild_types.specs.declared.input.InputSection.{InputSection}
use Rattle.wild_checker.specs.declared.question.Site.{Site}

-- the first of two, if it is there
abbrev pub or_else : {X : Type 0} → Option X → Option X → Option X
or_else None b = b
or_else (Some a) b = Some a

abbrev pub site_at : ℕ → ℕ → ℕ → Option ℕ → Option Site
site_at g f n None = None
site_at g f n (Some i) = Some (record { group = g; file = f; section = n; index = i })

abbrev pub in_sections : (InputSection → Option ℕ) → ℕ → ℕ → ℕ → List InputSection → Option Site
in_sections asks g f n [] = None
in_sections asks g f n (s ∷ ss) = or_else (site_at g f n (asks s)) (in_sections asks g f (n + 1) ss)

abbrev pub in_files : (File → InputSection → Option ℕ) → ℕ → ℕ → List File → Option Site
in_files asks g n [] = None
in_files asks g n (f ∷ fs) = or_else (in_sections (asks f) g n 0 f.sections) (in_files asks g (n + 1) fs)

abbrev pub in_groups : (File → InputSection → Option ℕ) → ℕ → List Group → Option Site
in_groups asks n [] = None
in_groups asks n (g ∷ gs) = or_else (in_files asks n 0 g.files) (in_groups asks (n + 1) gs)
