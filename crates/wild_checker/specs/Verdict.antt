-- The verdict on an image, and what Yes says.
--   HoldsIn l w image          in that world the loader accepts the image, and each kept item holds
--   HoldsEverywhere l image    in every legal world
--   IsAnswer l image v         v is the verdict
--   YesIsFounded               after Yes the image holds everywhere
use Rattle.std.specs.Prelude.{◌≡◌, ℕ, ◌<◌, Bool, true, false, List, Option, Some, None, Result, Ok, Err, All, if◌then◌else◌}
use Rattle.wild_types.specs.declared.layout.Layout.{Layout}
use Rattle.wild_types.specs.Item.{Item}
use Rattle.wild_types.specs.Kinds.{is_partial_link}
use Rattle.wild_layout.specs.Numbers.{NumbersFit}
use Rattle.wild_loader.specs.declared.memory.Memory.{Memory}
use Rattle.wild_loader.specs.declared.world.World.{World}
use Rattle.wild_loader.specs.declared.fault.LoadFault.{LoadFault}
use Rattle.wild_loader.specs.declared.fault.LoadFault.TheVariants as faults
use Rattle.wild_loader.specs.Load.{load}
use Rattle.wild_meaning.specs.World.{IsLoadable, IsLegal}
use Rattle.wild_meaning.specs.Item.{IsKept}
use Rattle.wild_meaning.specs.Reference.{ItemHolds}
use Rattle.wild_terms.specs.declared.outline.Outline.{Outline}
use Rattle.wild_terms.specs.Symbolic.{Symbolic, IsSorted, terms_of}
use Rattle.wild_checker.specs.Loaded.{Loaded}
use Rattle.wild_checker.specs.Files.{file_table}
use Rattle.wild_checker.specs.declared.question.Site.{Site}
use Rattle.wild_checker.specs.declared.verdict.Doubt.TheVariants as doubts
use Rattle.wild_checker.specs.declared.verdict.Verdict.{Verdict}
use Rattle.wild_checker.specs.declared.verdict.Verdict.TheVariants.{Yes, No}
use Rattle.wild_checker.specs.Outline.{IsOutlineOf}
use Rattle.wild_checker.specs.Search.{in_groups}
use Rattle.wild_checker.specs.Symbols.{are_ordered}
use Rattle.wild_checker.specs.Sections.{changed_byte, doubtful_reference}
use Rattle.wild_checker.specs.Segments.{segment_doubt}

-- ---- what Yes says

-- in that world the loader accepts the image, and each kept item holds
pub record HoldsIn (l : Layout) (w : World) (image : List ℕ) : Type 0 where
  pub memory : Memory
  pub accepted : load w image ≡ Ok memory
  pub kept : (item : Item) → IsKept l item → ItemHolds l w memory item

-- in every legal world, if the output can be loaded at all
abbrev pub HoldsEverywhere : Layout → List ℕ → Type 0
HoldsEverywhere l image = IsLoadable l.kind → (w : World) → IsLegal l w → HoldsIn l w image

-- ---- the verdict

abbrev pub by_reference : Option Site → Verdict
by_reference None = Yes
by_reference (Some site) = No (doubts.Reference site)

abbrev pub by_byte : Loaded → Option Site → Verdict
by_byte k None = by_reference (in_groups (doubtful_reference k) 0 k.layout.groups)
by_byte k (Some site) = No (doubts.Byte site)

-- what the references of an image are checked against
abbrev pub loaded_image : Layout → Outline → Symbolic → Loaded
loaded_image l o t = record { layout = l; outline = o; memory = t; ordered = are_ordered l; files = file_table l (are_ordered l) }

-- the verdict on an image whose segments to load are the layout's: the first changed byte, else the first reference
abbrev pub sections_verdict : Layout → Outline → Symbolic → Verdict
sections_verdict l o t =
    let k = loaded_image l o t in
    by_byte k (in_groups (changed_byte k) 0 l.groups)

abbrev pub by_segment : Layout → Outline → Symbolic → Option ℕ → Verdict
by_segment l o t None = sections_verdict l o t
by_segment l o t (Some index) = No (doubts.Segment index)

-- v is the verdict on an image that is read as terms
pub record IsSegmentVerdict (l : Layout) (o : Outline) (image : List ℕ) (t : Symbolic) (v : Verdict) : Type 0 where
  pub doubt : Option ℕ
  pub is : segment_doubt l image ≡ Ok doubt
  pub said : v ≡ by_segment l o t doubt

-- v is the verdict on an image that is refused with a fault
abbrev pub IsRefusal : LoadFault → Verdict → Type 0
IsRefusal faults.OutOfMemory v = ⊥
IsRefusal fault v = v ≡ No (doubts.Load fault)

-- the same, for an image that is read as terms or refused
pub record IsLoadedVerdict (l : Layout) (o : Outline) (image : List ℕ) (s : Symbolic) (v : Verdict) : Type 0 where
  pub sorted : Symbolic
  pub order : IsSorted s sorted
  pub verdict : IsSegmentVerdict l o image sorted v

abbrev pub IsReadVerdict : Layout → Outline → List ℕ → Result Symbolic LoadFault → Verdict → Type 0
IsReadVerdict l o image (Err fault) v = IsRefusal fault v
IsReadVerdict l o image (Ok s) v = IsLoadedVerdict l o image s v

-- v is the verdict, by an outline of the layout
pub record IsOutlined (l : Layout) (image : List ℕ) (v : Verdict) : Type 0 where
  pub outline : Outline
  pub is : IsOutlineOf l outline
  pub said : IsReadVerdict l outline image (terms_of outline image) v

-- the same; a relocatable object is not loaded
abbrev pub IsVerdict : (partial : Bool) → Layout → List ℕ → Verdict → Type 0
IsVerdict true l image v = v ≡ No doubts.Partial
IsVerdict false l image v = IsOutlined l image v

-- v is the verdict
abbrev pub IsAnswer : Layout → List ℕ → Verdict → Type 0
IsAnswer l image v = IsVerdict (is_partial_link l.kind) l image v

-- after Yes the image of a layout whose numbers fit their types holds everywhere
abbrev pub YesIsFounded : Type 0
YesIsFounded = (l : Layout) (image : List ℕ) → NumbersFit l → All (λ b. b < 256) image → IsAnswer l image Yes → HoldsEverywhere l image
