-- What a call from C answers.
--   IsAnswer r s          the status is s, or out of memory
--   write_status c n k    the status of writing into n bytes and k counts
--   SaysFirst f es        the struct says the first of the faults
--   IsRefusal es ..       the status for a layout with these faults, and the struct with the first one
--   IsOutput l o          the layout has no faults, and this is its image with counts and warnings
--   size_status c         the status of the image's size
--   needs_status c n      the status of writing what each group needs of each part into n numbers
--   AreNeeds l ns         the numbers are what each group needs of each part, part by part of each group
--   error_text e          the line that `link` prints for the fault that a struct says
--   text_status e room    the status of writing that line into the room
use Rattle.std.specs.Prelude.{◌≡◌, ℕ, ◌*◌, ◌/◌, ◌%◌, ◌^◌, ◌<◌, ◌==◌, Bool, true, false, ◌&&◌, ◌⊎◌, if◌then◌else◌, nat_lt, List, [], ◌∷◌, Option, Some, None, length, slice_index}
use Rattle.wild_types.specs.declared.fault.Error.{Error}
use Rattle.wild_types.specs.declared.layout.Layout.{Layout}
use Rattle.wild_types.specs.Lookups.{image_size}
use Rattle.wild_needs.specs.Needs.{needs}
use Rattle.wild_layout.specs.Faults.{errors}
use Rattle.wild_layout.specs.Image.{bytes, counts}
use Rattle.wild_layout.specs.Warnings.{warnings}
use Rattle.wild_text.specs.Answer.{refusal_text}
use Rattle.wild_image.specs.declared.output.SizedOutput.{SizedOutput}
use Rattle.wild_c_layout.specs.FaultOf.{fault_of}
use Rattle.wild_c_layout.specs.LayoutOf.{is_layout, layout_of}
use Rattle.wild_c_layout.specs.Text.{fits as fits_text}
use Rattle.wild_c_layout.specs.declared.fault.CFault.{CFault}
use Rattle.wild_c_layout.specs.declared.layout.CLayout.{CLayout}
use Rattle.wild_c.specs.Statuses as status

-- the status, or out of memory
abbrev pub IsAnswer : ℕ → ℕ → Type 0
IsAnswer result s = (result ≡ s) ⊎ (result ≡ status.no_memory)

-- n bytes are the image's size, and k counts are one for each section
abbrev pub fits : Layout → ℕ → ℕ → Bool
fits l n k = (n == length (bytes l)) && (k == length (counts l))

-- the status for a layout with these faults, if the buffers fit or do not
abbrev pub layout_status : List Error → Bool → ℕ
layout_status (e ∷ es) fit = status.refused
layout_status [] false = status.wrong_size
layout_status [] true = status.written

-- the status for structs that represent a layout, which has that status, or none
abbrev pub struct_status : Bool → ℕ → ℕ
struct_status false s = status.no_layout
struct_status true s = s

-- the status of writing the image into n bytes, and the numbers of relocations into k numbers
abbrev pub write_status : CLayout → ℕ → ℕ → ℕ
write_status c n k = struct_status (is_layout c) (layout_status (errors (layout_of c)) (fits (layout_of c) n k))

-- the struct says the first of the faults
abbrev pub SaysFirst : CFault → List Error → Type 0
SaysFirst f [] = ⊥
SaysFirst f (e ∷ es) = f ≡ fault_of e

-- the status of a layout with faults, and the struct that says the first one; or out of memory, and the struct as before
abbrev pub IsRefusal : List Error → ℕ → CFault → CFault → Type 0
IsRefusal es s before after = ((s ≡ status.refused) × SaysFirst after es) ⊎ ((s ≡ status.no_memory) × (after ≡ before))

-- the layout has no faults, and this is its image with counts and warnings
pub record IsOutput (l : Layout) (o : SizedOutput) : Type 0 where
  pub faultless : errors l ≡ []
  pub image : o.out ≡ bytes l
  pub counts_are : o.counts ≡ counts l
  pub warnings_are : o.warnings ≡ warnings l

-- the status for a number that has to be below 2^64
abbrev pub number_status : ℕ → ℕ
number_status n = if nat_lt n (2 ^ 64) then status.written else status.wrong_size

-- the status of the size of the image
abbrev pub size_status : CLayout → ℕ
size_status c = struct_status (is_layout c) (number_status (image_size (layout_of c)))

-- the status for n numbers: one is needed for each part of each group
abbrev pub table_status : Layout → ℕ → ℕ
table_status l n = if n == length l.groups * length l.parts then status.written else status.wrong_size

-- the status of writing what each group needs of each part into n numbers
abbrev pub needs_status : CLayout → ℕ → ℕ
needs_status c n = struct_status (is_layout c) (table_status (layout_of c) n)

-- the numbers are what the first group needs of each part, then what the second one does, and so on
abbrev pub AreNeeds : Layout → List ℕ → Type 0
AreNeeds l ns = (k : ℕ) → k < length ns → slice_index ns k ≡ needs l (k % length l.parts) (k / length l.parts)

-- the line that `link` prints for a fault, if there is one
abbrev pub error_text : Option Error → List ℕ
error_text None = []
error_text (Some e) = refusal_text e

-- the status of writing that line into the room
abbrev pub text_status : Option Error → List ℕ → ℕ
text_status None room = status.no_layout
text_status (Some e) room = if fits_text (refusal_text e) room then status.written else status.wrong_size
