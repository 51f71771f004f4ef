-- How long the bytes of tables of relocations and of groups are, and which sections stand with their own.
use Rattle.std.proofs.Common.{◌≡◌, ℕ, ◌+◌, ◌*◌, ◌≤◌, ◌⊎◌, inl, inr, List, [], ◌∷◌, ◌++◌, length, take, refl, sym, ap, ◌∙◌, arith, subst, true, false, Bool}
use Rattle.std.specs.Prelude.{map, replicate, if◌then◌else◌}
use Rattle.std.specs.List.{flat_map}
use Rattle.std.proofs.lemmas.List.{length-append, length-map, length-take-le}
use Rattle.wild_words.specs.Words.{word}
use Rattle.wild_words.proofs.Basics.{length-flat_map_each}
use Rattle.wild_words.proofs.WordLemmas.{length-word}
use Rattle.wild_records.specs.Relocations.{rela_size}
use Rattle.wild_table_formats.proofs.EntryLemmas.{length-rela_bytes}
use Rattle.wild_types.specs.declared.input.Slot.{Slot}
use Rattle.wild_types.specs.declared.input.Slot.TheVariants as slot
use Rattle.wild_types.specs.declared.input.InputSection.{InputSection}
use Rattle.wild_types.specs.declared.file.File.{File}
use Rattle.wild_types.specs.declared.layout.Layout.{Layout}
use Rattle.wild_types.specs.Item.{item_of}
use Rattle.wild_types.specs.Lookups.{is_loaded, is_frame, is_debug, is_rela, has_relocations}
use Rattle.wild_layout.specs.Debug.{debug_bytes}
use Rattle.wild_layout.specs.Partial.{rela_of, rela_bytes_of, group_words}
use Rattle.wild_layout.specs.Sites.{item_bytes, bytes_by, section_bytes}

-- ---- lengths

-- an entry for each relocation
pub length-rela_bytes_of : (l : Layout) (s : InputSection) → length (rela_bytes_of l s) ≡ 24 * length s.relocations
unfolding rela_bytes_of
length-rela_bytes_of l s =
    let a = length-rela_bytes (map (rela_of l) s.relocations) in
    let b = length-map s.relocations (rela_of l) in
    omega (arith, a, b)

-- a word for the flags, and one for each member
pub length-group_words : (s : InputSection) → 4 ≤ length s.bytes → length (group_words s) ≡ 4 + 4 * length s.members
unfolding group_words
length-group_words s h =
    let a = length-append (take 4 s.bytes) (flat_map (word 4) s.members) in
    let b = length-take-le 4 s.bytes h in
    let c = length-flat_map_each (word 4) 4 (λ x. length-word 4 x) s.members in
    omega (arith, a, b, c)

-- ---- sections

-- nothing is made of the section in place of its own bytes
abbrev pub is_own : Slot → Bool
is_own slot.Debug = false
is_own slot.Rela = false
is_own slot.Group = false
is_own other = true

own_bytes : (z : Slot) (l : Layout) (f : File) (s : InputSection) → is_own z ≡ true → bytes_by z l f s ≡ item_bytes l (item_of l f s)
own_bytes slot.Debug l f s h = cc
own_bytes slot.Rela l f s h = cc
own_bytes slot.Group l f s h = cc
own_bytes other l f s h = refl

-- such a section stands with its own bytes and its sites, or is of zeros
pub section_bytes_own : (l : Layout) (f : File) (s : InputSection) → is_own s.slot ≡ true → section_bytes l f s ≡ (if s.nobits then replicate s.size 0 else item_bytes l (item_of l f s))
unfolding section_bytes
section_bytes_own l f s h = rw (own_bytes s.slot l f s h) refl

loaded_own : (z : Slot) → is_loaded z ≡ true → is_own z ≡ true
loaded_own slot.Loaded h = refl
loaded_own other h = cc

read_own : (z : Slot) → has_relocations z ≡ true → is_own z ≡ true
read_own slot.Loaded h = refl
read_own slot.Frame h = refl
read_own other h = cc

-- one that is loaded
pub section_bytes_loaded : (l : Layout) (f : File) (s : InputSection) → is_loaded s.slot ≡ true → section_bytes l f s ≡ (if s.nobits then replicate s.size 0 else item_bytes l (item_of l f s))
section_bytes_loaded l f s h = section_bytes_own l f s (loaded_own s.slot h)

-- one that is loaded, or of frames
pub section_bytes_read : (l : Layout) (f : File) (s : InputSection) → has_relocations s.slot ≡ true → section_bytes l f s ≡ (if s.nobits then replicate s.size 0 else item_bytes l (item_of l f s))
section_bytes_read l f s h = section_bytes_own l f s (read_own s.slot h)

zeros : (b : Bool) (n : ℕ) (xs : List ℕ) → b ≡ true → (if b then replicate n 0 else xs) ≡ replicate n 0
zeros true n xs h = refl
zeros false n xs h = cc

with_data : (b : Bool) (xs ys : List ℕ) → b ≡ false → (if b then xs else ys) ≡ ys
with_data true xs ys h = cc
with_data false xs ys h = refl

-- one without data, whatever its slot
pub section_bytes_zeros : (l : Layout) (f : File) (s : InputSection) → s.nobits ≡ true → section_bytes l f s ≡ replicate s.size 0
unfolding section_bytes
section_bytes_zeros l f s h = zeros s.nobits s.size (bytes_by s.slot l f s) h

-- with data, by its slot
pub section_bytes_data : (l : Layout) (f : File) (s : InputSection) → s.nobits ≡ false → section_bytes l f s ≡ bytes_by s.slot l f s
unfolding section_bytes
section_bytes_data l f s h = with_data s.nobits (replicate s.size 0) (bytes_by s.slot l f s) h

-- what debuggers read
pub section_bytes_debug : (l : Layout) (f : File) (s : InputSection) → s.slot ≡ slot.Debug → s.nobits ≡ false → section_bytes l f s ≡ debug_bytes l s
section_bytes_debug l f s h n = section_bytes_data l f s n ∙ ap (λ (z : Slot). bytes_by z l f s) h

-- a table of relocations
pub section_bytes_rela : (l : Layout) (f : File) (s : InputSection) → s.slot ≡ slot.Rela → s.nobits ≡ false → section_bytes l f s ≡ rela_bytes_of l s
section_bytes_rela l f s h n = section_bytes_data l f s n ∙ ap (λ (z : Slot). bytes_by z l f s) h

-- a group
pub section_bytes_group : (l : Layout) (f : File) (s : InputSection) → s.slot ≡ slot.Group → s.nobits ≡ false → section_bytes l f s ≡ group_words s
section_bytes_group l f s h n = section_bytes_data l f s n ∙ ap (λ (z : Slot). bytes_by z l f s) h
