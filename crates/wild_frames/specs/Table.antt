-- The search table of frames (LSB, "The .eh_frame_hdr section").
--   entry_of header f     the entry of an FDE
--   rank z                maps signed numbers to unsigned ones in the same order
--   table_of ..           its bytes: the header, and the entries sorted by the start of their code
--   IsTable ..            bytes are the header, and the entries sorted by the start of their code
--   IsInOrder bs          the entries of a table are in order
--   IsOrdered bs r        r is Ok if they are in order, else the first that is not
--   IsLastBefore x bs r   r is the last entry of a table whose code begins at or before x
use Rattle.std.specs.Prelude.{◌≡◌, ℕ, ℤ, pos, ◌-ℤ◌, ◌≤ℤ◌, ◌+◌, ◌-◌, ◌*◌, ◌/◌, ◌%◌, ◌^◌, ◌<◌, ◌≤◌, ◌⊎◌, ◌&&◌, Bool, true, if◌then◌else◌, nat_lt, nat_le, List, [], ◌∷◌, ◌++◌, length, map, All, AllPairs, Contains, Option, Some, None, Result, Ok, Err}
use Rattle.std.specs.List.{flat_map}
use Rattle.std.specs.List.Sorted.{IsPermutation, IsNonDecreasingBy}
use Rattle.std.specs.Int.{cast_unsigned, w32}
use Rattle.std.specs.Int.RustNames.{FitsSigned}
use Rattle.wild_words.specs.Record.{spell}
use Rattle.wild_records.specs.declared.frames.EhFrameHdr.{EhFrameHdr}
use Rattle.wild_records.specs.declared.frames.EhFrameHdrEntry.{EhFrameHdrEntry}
use Rattle.wild_records.specs.Frames.{eh_frame_hdr_fields, eh_frame_hdr_entry_fields, eh_frame_hdr_entry_at}
use Rattle.wild_records.specs.Abi.Frame.{eh_frame_hdr_version, dw_eh_pe_absptr, dw_eh_pe_udata4, dw_eh_pe_sdata4, dw_eh_pe_pcrel, dw_eh_pe_datarel}
use Rattle.wild_frames.specs.declared.table.Fde.{Fde}
use Rattle.wild_frames.specs.declared.table.TableError.{TableError}
use Rattle.wild_frames.specs.declared.table.TableError.TheVariants as error

-- the distance from one address to another
abbrev pub distance : ℕ → ℕ → ℤ
distance from to = pos to -ℤ pos from

-- the distance fits a signed 32-bit field
abbrev pub is_near : ℕ → ℕ → Bool
is_near from to = nat_le from (to + 2 ^ 31) && nat_lt to (from + 2 ^ 31)

abbrev pub far : ℕ → ℕ → List TableError
far from to = if is_near from to then [] else error.FrameOffsetOverflow ((to + (2 ^ 64 - from)) % 2 ^ 64) ∷ []

abbrev pub entry_of : ℕ → Fde → EhFrameHdrEntry
entry_of header f = record { frame_ptr = distance header f.code; frame_info_ptr = distance header f.address }

abbrev pub far_fde : ℕ → Fde → List TableError
far_fde header f = far header f.code ++ far header f.address

-- the fault of the header's distance, then those of the entries, in their order before sorting
abbrev pub table_errors : ℕ → ℕ → List Fde → List TableError
table_errors header eh_frame fs = far (header + 4) eh_frame ++ flat_map (far_fde header) fs

-- signed 32-bit fields: the pointer to the frames is relative to itself, the entries are relative to the header
abbrev pub header_of : ℕ → ℕ → ℕ → EhFrameHdr
header_of header eh_frame count = record {
  version = eh_frame_hdr_version;
  frame_pointer_encoding = dw_eh_pe_pcrel + dw_eh_pe_sdata4;
  count_encoding = dw_eh_pe_absptr + dw_eh_pe_udata4;
  table_encoding = dw_eh_pe_datarel + dw_eh_pe_sdata4;
  frame_pointer = distance (header + 4) eh_frame;
  entry_count = count;
}

-- maps signed numbers to numbers below 2^32 in the same order
abbrev pub rank : ℤ → ℕ
rank z = (cast_unsigned w32 z + 2 ^ 31) % 2 ^ 32

abbrev pub rank_of : EhFrameHdrEntry → ℕ
rank_of e = rank e.frame_ptr

-- inserts an entry into a sorted list, before the first entry whose code does not begin earlier
abbrev pub put_in_order : EhFrameHdrEntry → List EhFrameHdrEntry → List EhFrameHdrEntry
put_in_order e [] = e ∷ []
put_in_order e (f ∷ fs) = if nat_lt (rank_of f) (rank_of e) then f ∷ put_in_order e fs else e ∷ (f ∷ fs)

-- the entries sorted by the start of their code, by a stable sort
unfoldable pub in_order : List EhFrameHdrEntry → List EhFrameHdrEntry
in_order [] = []
in_order (e ∷ es) = put_in_order e (in_order es)

abbrev pub hdr_bytes : EhFrameHdr → List ℕ
hdr_bytes h = spell (eh_frame_hdr_fields h)

abbrev pub entry_bytes : EhFrameHdrEntry → List ℕ
entry_bytes e = spell (eh_frame_hdr_entry_fields e)

pub record IsTable (header eh_frame : ℕ) (fdes : List Fde) (bytes : List ℕ) : Type 0 where
  pub entries : List EhFrameHdrEntry
  pub all : IsPermutation (map (entry_of header) fdes) entries
  pub sorted : IsNonDecreasingBy rank_of entries
  pub is : bytes ≡ hdr_bytes (header_of header eh_frame (length fdes)) ++ flat_map entry_bytes entries

-- the bytes of the table
unfoldable pub table_of : ℕ → ℕ → List Fde → List ℕ
table_of header eh_frame fdes = hdr_bytes (header_of header eh_frame (length fdes)) ++ flat_map entry_bytes (in_order (map (entry_of header) fdes))

-- out of memory
abbrev pub out_of_memory : TableError
out_of_memory = error.OutOfMemory

abbrev pub IsFirst : TableError → List TableError → Type 0
IsFirst e [] = ⊥
IsFirst e (f ∷ fs) = e ≡ f

abbrev pub Refuses : TableError → List TableError → Type 0
Refuses error.OutOfMemory es = Unit {0}
Refuses e es = IsFirst e es

-- a call returns the first of the faults, if there is one
abbrev pub Answers : {A : Type 0} → Result A TableError → List TableError → Type 0
Answers (Ok x) es = es ≡ []
Answers (Err e) es = Refuses e es

-- ---- a search

abbrev pub count_in : List ℕ → ℕ
count_in bytes = (length bytes - 12) / 8

abbrev pub nth_entry : List ℕ → ℕ → EhFrameHdrEntry
nth_entry bytes i = eh_frame_hdr_entry_at bytes (12 + 8 * i)

-- the entries of a table are in order
abbrev pub IsInOrder : List ℕ → Type 0
IsInOrder bytes = (i j : ℕ) → i ≤ j → j < count_in bytes → rank_of (nth_entry bytes i) ≤ rank_of (nth_entry bytes j)

-- the entries before entry i are in order, and entry i is below the one before it
pub record IsFirstOut (bytes : List ℕ) (i : ℕ) : Type 0 where
  pub ahead : (j k : ℕ) → j ≤ k → k < i → rank_of (nth_entry bytes j) ≤ rank_of (nth_entry bytes k)
  pub some : 1 ≤ i
  pub within : i < count_in bytes
  pub before : rank_of (nth_entry bytes i) < rank_of (nth_entry bytes (i - 1))

-- the check of the order returns that it holds, or the first entry that violates it
abbrev pub IsOrdered : List ℕ → Result (Unit {0}) ℕ → Type 0
IsOrdered bytes (Ok u) = IsInOrder bytes
IsOrdered bytes (Err i) = IsFirstOut bytes i

pub record LastBefore (x : ℕ) (bytes : List ℕ) (e : EhFrameHdrEntry) : Type 0 where
  pub place : ℕ
  pub within : place < count_in bytes
  pub is : e ≡ nth_entry bytes place
  pub before : rank_of e ≤ x
  pub behind : (k : ℕ) → place < k → k < count_in bytes → x < rank_of (nth_entry bytes k)

abbrev pub IsLastBefore : ℕ → List ℕ → Option EhFrameHdrEntry → Type 0
IsLastBefore x bytes None = (k : ℕ) → k < count_in bytes → x < rank_of (nth_entry bytes k)
IsLastBefore x bytes (Some e) = LastBefore x bytes e

-- ---- properties

-- rank preserves the order
abbrev pub RanksAreOrdered : Type 0
RanksAreOrdered = (a b : ℤ) → FitsSigned w32 a → FitsSigned w32 b → a ≤ℤ b → rank a ≤ rank b

abbrev pub TableIsInOrder : Type 0
TableIsInOrder = (header eh_frame : ℕ) (fdes : List Fde) (bytes : List ℕ) → IsTable header eh_frame fdes bytes → table_errors header eh_frame fdes ≡ [] → IsInOrder bytes

-- each FDE covers an address of code, and no two cover a common one
pub record CoverApart (extent : Fde → ℕ) (fdes : List Fde) : Type 0 where
  pub some : All (λ f. 0 < extent f) fdes
  pub apart : AllPairs (λ f g. (f.code + extent f ≤ g.code) ⊎ (g.code + extent g ≤ f.code)) fdes

-- a search for an address that an FDE covers finds that FDE
abbrev pub FdeIsFound : Type 0
FdeIsFound = (header eh_frame : ℕ) (fdes : List Fde) (bytes : List ℕ) (extent : Fde → ℕ) (f : Fde) (x : ℕ) (found : Option EhFrameHdrEntry)
    → IsTable header eh_frame fdes bytes → table_errors header eh_frame fdes ≡ [] → CoverApart extent fdes → Contains fdes f → f.code ≤ x → x < f.code + extent f → is_near header x ≡ true
    → IsLastBefore (rank (distance header x)) bytes found → found ≡ Some (entry_of header f)
