-- Merged strings: S of a relocation whose symbol stands for none.
--   address_plain, term_plain    is that of the symbol by itself
--   none_merged, none_named      no symbol stands for merged strings where no section has some
--   address_alone                so S is that of the symbol
use Rattle.std.proofs.Common.{◌≡◌, ℕ, ◌+◌, inl, inr, Bool, true, false, List, [], ◌∷◌, refl}
use Rattle.std.specs.Prelude.{All, Option, Some, None, is_some, option_and_then, ◌&&◌, nat_le, nat_lt, if◌then◌else◌, slice_get}
use Rattle.std.proofs.lemmas.Bool.{cases_Bool}
use Rattle.std.proofs.lemmas.List.Elements.{All-head, All-tail}
use Rattle.wild_words.proofs.ListLemmas.{holds_at}
use Rattle.wild_reloc.specs.declared.expression.Term.{Term}
use Rattle.wild_reloc.specs.declared.expression.Term.TheVariants as term
use Rattle.wild_types.specs.declared.input.InputRelocation.{InputRelocation}
use Rattle.wild_types.specs.declared.input.MergedString.{MergedString}
use Rattle.wild_types.specs.declared.input.InputSection.{InputSection}
use Rattle.wild_types.specs.declared.symbol.Place.{Place}
use Rattle.wild_types.specs.declared.symbol.Place.TheVariants as at
use Rattle.wild_types.specs.declared.symbol.Symbol.{Symbol}
use Rattle.wild_types.specs.declared.file.File.{File}
use Rattle.wild_types.specs.declared.layout.Layout.{Layout}
use Rattle.wild_types.specs.Lookups.{files_of}
use Rattle.wild_slot.specs.Treatment.{flags_at}
use Rattle.wild_layout.specs.SlotValues.{address_of}
use Rattle.wild_layout.specs.Values.{term_value, term_by}
use Rattle.wild_layout.specs.Merged.{is_section_symbol, strings_of, strings_at, strings_of_symbol, is_plain_own, merged_strings, names_merged, address_by, address_named, address_for}

plain_by : (l : Layout) (r : InputRelocation) (i : ℕ) (o : Option (List MergedString)) → is_some o ≡ false → address_by l r i o ≡ address_of l (Some i)
plain_by l r i None h = refl
plain_by l r i (Some ss) h = cc

plain_named : (l : Layout) (r : InputRelocation) (o : Option ℕ) → names_merged l o ≡ false → address_named l r o ≡ address_of l o
plain_named l r None h = refl
plain_named l r (Some i) h = plain_by l r i (merged_strings l i) h

-- where the symbol stands for no merged strings, S is its address
pub address_plain : (l : Layout) (r : InputRelocation) → names_merged l r.symbol ≡ false → address_for l r ≡ address_of l r.symbol
unfolding address_for
address_plain l r h = plain_named l r r.symbol h

pub term_plain : (l : Layout) (r : InputRelocation) (t : Term) → names_merged l r.symbol ≡ false → term_by l r t ≡ term_value l r.symbol t
term_plain l r term.Symbol h = address_plain l r h
term_plain l r other h = refl

-- ---- layouts without merged sections

-- no section of these files is one
abbrev pub HaveNoStrings : List File → Type 0
HaveNoStrings fs = All (λ (f : File). All (λ (s : InputSection). strings_of s ≡ None) f.sections) fs

none_at : (o : Option InputSection) → ((s : InputSection) → o ≡ Some s → strings_of s ≡ None) → option_and_then strings_of o ≡ None
none_at None h = refl
none_at (Some s) h = h s refl

none_placed : (p : Place) (f : File) → All (λ (s : InputSection). strings_of s ≡ None) f.sections → strings_at p f ≡ None
none_placed (at.Section k) f h = none_at (slice_get f.sections k) (λ s e. holds_at (λ (s : InputSection). strings_of s ≡ None) f.sections k s e h)
none_placed other f h = refl

none_by : (b : Bool) (o : Option (List MergedString)) → o ≡ None → (if b then o else None) ≡ None
none_by true o h = h
none_by false o h = refl

none_told : (fs : List File) (i : ℕ) (s : Symbol) → HaveNoStrings fs → strings_of_symbol fs i s ≡ None
none_told [] i s h = refl
none_told (f ∷ fs) i s h =
    elim (cases_Bool (nat_le f.first_symbol i && nat_lt i (f.first_symbol + f.symbol_count))) [
      | inl t ↦ rw t (none_by (is_section_symbol s) (strings_at s.place f) (none_placed s.place f (All-head (λ (f : File). All (λ (s : InputSection). strings_of s ≡ None) f.sections) f fs h)))
      | inr n ↦ rw n (none_told fs i s (All-tail (λ (f : File). All (λ (s : InputSection). strings_of s ≡ None) f.sections) f fs h))
    ]

none_symbol : (fs : List File) (i : ℕ) (o : Option Symbol) → HaveNoStrings fs → option_and_then (strings_of_symbol fs i) o ≡ None
none_symbol fs i None h = refl
none_symbol fs i (Some s) h = none_told fs i s h

-- so no symbol stands for merged strings
pub none_merged : (l : Layout) (i : ℕ) → HaveNoStrings (files_of l.groups) → merged_strings l i ≡ None
unfolding merged_strings
none_merged l i h = none_by (is_plain_own (flags_at l i)) (option_and_then (strings_of_symbol (files_of l.groups) i) (slice_get l.symbols i)) (none_symbol (files_of l.groups) i (slice_get l.symbols i) h)

pub none_named : (l : Layout) (o : Option ℕ) → HaveNoStrings (files_of l.groups) → names_merged l o ≡ false
none_named l None h = refl
none_named l (Some i) h = rw (none_merged l i h) refl

-- and S is the symbol's address
pub address_alone : (l : Layout) (r : InputRelocation) → HaveNoStrings (files_of l.groups) → address_for l r ≡ address_of l r.symbol
address_alone l r h = address_plain l r (none_named l r.symbol h)
