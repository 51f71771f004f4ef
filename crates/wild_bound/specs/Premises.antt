-- The conditions under which the world of an image is legal for the layout of that image.
--   IsImageOf l x             the image is that of a layout without faults
--   IsPlaced l x n            its base and its place in the order are those of the layout
--   IsAnsweredBy rs a         the pairs have exactly one answer of the resolver at an address
--   HasPair rs base s         so it is for the resolver of an IFUNC
--   HasOwnSymbol l c k s r    symbol c is the output's own, and has index k in the dynamic symbol table
--   HasPlainEntry l s r       the entry of an own symbol has its address, type and size
--   IsBoundToItself xs order n k   symbol k of the image at place n is bound to itself
--   AreOwnSymbolsBound xs order n l   so is each own symbol with an index
--   AreIndexesInRange xs order n l    each index is below the number of symbols that is read of the image
--   HaveRoom l w              the bytes of copied symbols fit into the output
--   WorldNumbers w            the numbers of the world are in their types' ranges
--   HasLayout xs rs b n l     the image at place n is that of layout l, and all of these hold
use Rattle.std.specs.Prelude.{◌≡◌, ℕ, ℤ, ◌+◌, ◌%◌, ◌^◌, ◌<◌, ◌≤◌, ◌==◌, Bool, true, false, List, [], ◌∷◌, length, map, Some, Ok, All, slice_get}
use Rattle.std.specs.Int.{w64}
use Rattle.std.specs.Int.RustNames.{FitsSigned}
use Rattle.std.specs.List.{filter}
use Rattle.wild_records.specs.Abi.Segment.{pt_load}
use Rattle.wild_records.specs.Abi.Symbol.{stt_gnu_ifunc}
use Rattle.wild_types.specs.declared.section.Segment.{Segment}
use Rattle.wild_types.specs.declared.symbol.Place.{Place}
use Rattle.wild_types.specs.declared.symbol.Place.TheVariants as at
use Rattle.wild_types.specs.declared.symbol.Resolution.{Resolution}
use Rattle.wild_types.specs.declared.symbol.Symbol.{Symbol}
use Rattle.wild_types.specs.declared.layout.Layout.{Layout}
use Rattle.wild_types.specs.Flags.{has_flag, absolute, ifunc, copy_relocation}
use Rattle.wild_types.specs.HeaderOnly.{KeepsAll}
use Rattle.wild_types.specs.Kinds.{needs_dynamic}
use Rattle.wild_types.specs.Parts.{has_hashes}
use Rattle.wild_types.specs.ResolvedFlags.{HaveTheirFlags}
use Rattle.wild_table_formats.specs.DynamicFields.{has_stub_address, is_thread_symbol}
use Rattle.wild_table_formats.specs.Headers.{program_header}
use Rattle.wild_layout.specs.Faults.{errors}
use Rattle.wild_layout.specs.Image.{bytes as image_bytes}
use Rattle.wild_layout.specs.Numbers.{NumbersFit}
use Rattle.wild_loader.specs.declared.world.Answer.{Answer}
use Rattle.wild_loader.specs.declared.world.World.{World}
use Rattle.wild_meaning.specs.Thread.{IsOwnDistance}
use Rattle.wild_meaning.specs.Value.{IsSymbol, IsDefinedBy, may_be_replaced}
use Rattle.wild_meaning.specs.World.{IsFixed, IsExecutable, IsLoadable, HasCopy, HasRoomFor, DoNotOverlap}
use Rattle.wild_imports.specs.Imports.{thread_address}
use Rattle.wild_space.specs.declared.image.NamedImage.{NamedImage}
use Rattle.wild_space.specs.declared.space.Bound.{Bound}
use Rattle.wild_space.specs.Binds.{place_of, count_of, bind}

-- ---- the image

-- the type and the size of a symbol are in their types' ranges
pub record SymbolNumbers (s : Symbol) : Type 0 where
  pub info : s.info < 2 ^ 8
  pub size : s.size < 2 ^ 64

-- the image is that of an executable or shared object without faults, of which all is written
pub record IsImageOf (l : Layout) (x : NamedImage) : Type 0 where
  pub is : x.bytes ≡ image_bytes l
  pub none : errors l ≡ []
  pub numbers : NumbersFit l
  pub symbols : All SymbolNumbers l.symbols
  pub flags : HaveTheirFlags l
  pub keeps : KeepsAll l
  pub loadable : IsLoadable l.kind

-- The base is page-aligned, no loaded segment ends past the last address, and a fixed output is at base 0 (gABI, "Base Address").
-- An executable is the first image, with its own distance from the thread pointer. The thread-local data start where the layout says.
pub record IsPlaced (l : Layout) (x : NamedImage) (n : ℕ) : Type 0 where
  pub aligned : x.base % l.page_size ≡ 0
  pub ends : All (λ (g : Segment). g.kind ≡ pt_load → x.base + g.address + g.mem_size ≤ 2 ^ 64) l.segments
  pub fixed : IsFixed l.kind → x.base ≡ 0
  pub first : IsExecutable l.kind → n ≡ 0
  pub distance : IsExecutable l.kind → IsOwnDistance l x.distance
  pub threads : thread_address (map (program_header l) l.segments) ≡ l.tls.start

-- ---- resolvers

-- the pairs have exactly one answer of the resolver at an address, and it is an address of the machine
pub record IsAnsweredBy (rs : List (ℕ × ℕ)) (a : ℕ) : Type 0 where
  pub answer : ℕ
  pub fits : answer < 2 ^ 64
  pub pair : filter (λ (p : ℕ × ℕ). p.0 == a) rs ≡ (a, answer) ∷ []

-- so for the resolver of an IFUNC in an image with that base
abbrev pub HasPair : List (ℕ × ℕ) → ℕ → Symbol → Type 0
HasPair rs base s = has_flag s.flags ifunc ≡ true → (r : Resolution) → s.resolution ≡ Some r → IsAnsweredBy rs ((base + r.raw_value) % 2 ^ 64)

-- ---- own symbols

-- symbol c, with index k in the dynamic symbol table, is the output's own: no other module's definition replaces it
pub record HasOwnSymbol (l : Layout) (c k : ℕ) (s : Symbol) (r : Resolution) : Type 0 where
  pub listed : IsSymbol l c s
  pub decided : s.resolution ≡ Some r
  pub index : r.dynamic_symbol_index ≡ Some k
  pub own : may_be_replaced l.kind s.flags ≡ false

abbrev pub is_absolute_place : Place → Bool
is_absolute_place at.Absolute = true
is_absolute_place other = false

-- The entry of an own symbol says where it is. The symbol is at an absolute place exactly if its value does not move with the base. It has
-- the type of an IFUNC exactly if it is one, and then its value moves. The entry does not have the stub's address. A copied symbol is neither
-- thread-local nor absolute.
pub record HasPlainEntry (l : Layout) (s : Symbol) (r : Resolution) : Type 0 where
  pub still : is_absolute_place s.place ≡ has_flag s.flags absolute
  pub value : s.place ≡ at.Absolute → s.value ≡ r.raw_value
  pub indirect : (s.info % 16 == stt_gnu_ifunc) ≡ has_flag s.flags ifunc
  pub moves : has_flag s.flags ifunc ≡ true → has_flag s.flags absolute ≡ false
  pub stub : has_stub_address l s ≡ false
  pub copied : has_flag s.flags copy_relocation ≡ true → (is_thread_symbol s ≡ false) × (has_flag s.flags absolute ≡ false)

-- symbol k of the image at place n of the order is bound to itself
abbrev pub IsBoundToItself : List NamedImage → List ℕ → ℕ → ℕ → Type 0
IsBoundToItself xs order n k = bind xs order n k ≡ Ok (Some (record { image = n; index = k }))

-- Each own symbol with an index has such an entry and is bound to itself. If there is one, the output has a dynamic section and a hash
-- table, with which the symbols and their names are in one segment each.
pub record AreOwnSymbolsBound (xs : List NamedImage) (order : List ℕ) (n : ℕ) (l : Layout) : Type 0 where
  pub entries : (c k : ℕ) (s : Symbol) (r : Resolution) → HasOwnSymbol l c k s r → HasPlainEntry l s r
  pub itself : (c k : ℕ) (s : Symbol) (r : Resolution) → HasOwnSymbol l c k s r → IsBoundToItself xs order n k
  pub dynamic : (c k : ℕ) (s : Symbol) (r : Resolution) → HasOwnSymbol l c k s r → needs_dynamic l.kind ≡ true
  pub hashes : (c k : ℕ) (s : Symbol) (r : Resolution) → HasOwnSymbol l c k s r → has_hashes l ≡ true

-- each index in the dynamic symbol table is less than the number of symbols that is read of the image
abbrev pub AreIndexesInRange : List NamedImage → List ℕ → ℕ → Layout → Type 0
AreIndexesInRange xs order n l = (symbols c k : ℕ) (s : Symbol) (r : Resolution) → count_of xs (place_of order n) ≡ Ok symbols → IsSymbol l c s → s.resolution ≡ Some r → r.dynamic_symbol_index ≡ Some k → k < symbols

-- ---- the world

-- the bytes of a copied symbol, which are another module's, fit into the output, and do not overlap those of another
pub record HaveRoom (l : Layout) (w : World) : Type 0 where
  pub copies : (i raw : ℕ) (x : Answer) → HasCopy l w i raw x → HasRoomFor l raw x
  pub apart : (i j c d raw other : ℕ) (x y : Answer) → IsDefinedBy l i c → IsDefinedBy l j d → (c ≡ d → ⊥) → HasCopy l w i raw x → HasCopy l w j other y → DoNotOverlap raw (length x.bytes) other (length y.bytes)

pub record AnswerNumbers (x : Answer) : Type 0 where
  pub address : x.address < 2 ^ 64
  pub owner : x.«module» < 2 ^ 64
  pub offset : x.offset < 2 ^ 64
  pub size : x.size < 2 ^ 64
  pub bytes : All (λ (b : ℕ). b < 256) x.bytes

-- the numbers of a world are in their types' ranges
pub record WorldNumbers (w : World) : Type 0 where
  pub own : w.own_module < 2 ^ 64
  pub symbols : All AnswerNumbers w.symbols
  pub modules : All (λ (m : ℕ × ℤ). FitsSigned w64 m.1) w.modules

-- ---- the whole

-- the image at place n of the order is that of layout l, and all of these hold
pub record HasLayout (xs : List NamedImage) (rs : List (ℕ × ℕ)) (b : Bound) (n : ℕ) (l : Layout) : Type 0 where
  pub inside : n < length b.order
  pub image : NamedImage
  pub there : slice_get xs (place_of b.order n) ≡ Some image
  pub is : IsImageOf l image
  pub placed : IsPlaced l image n
  pub resolvers : All (HasPair rs image.base) l.symbols
  pub own : AreOwnSymbolsBound xs b.order n l
  pub indexes : AreIndexesInRange xs b.order n l
  pub world : World
  pub has_world : slice_get b.worlds n ≡ Some world
  pub numbers : WorldNumbers world
  pub room : HaveRoom l world
