-- Lemmas on the layouts that structs represent.
use Rattle.std.proofs.Common.{◌≡◌, ℕ, Bool, true, false, List, [], ◌∷◌, Option, Some, None, refl, ap, ap₂, ◌∙◌, get_or}
use Rattle.std.proofs.lemmas.List.Elements.{All-map}
use Rattle.std.specs.Prelude.{max, slice_get, drop, if◌then◌else◌}
use Rattle.wild_types.specs.Lookups.{header_only, takes_file_bytes, parts_end, sections_end, image_size, file_end, fills_file}
use Rattle.wild_types.specs.ResolvedFlags.{HasItsFlags, HaveTheirFlags}
use Rattle.wild_types.specs.declared.layout.Layout.{Layout}
use Rattle.wild_types.specs.declared.part.Part.{Part}
use Rattle.wild_types.specs.declared.section.Section.{Section}
use Rattle.wild_types.specs.declared.symbol.Resolution.{Resolution}
use Rattle.wild_types.specs.declared.symbol.Symbol.{Symbol}
use Rattle.wild_c_layout.specs.LayoutOf.{layout_of, frame_of}
use Rattle.wild_c_layout.specs.Symbols.{symbol_of}
use Rattle.wild_c_layout.specs.Values.{is_set}
use Rattle.wild_c_layout.specs.declared.layout.CLayout.{CLayout}
use Rattle.wild_c_layout.specs.declared.symbol.CSymbol.{CSymbol}

-- ---- the size of the image

header_only-same : (l m : Layout) → l.options ≡ m.options → (o : Option Section) → header_only l o ≡ header_only m o
header_only-same l m e None = refl
header_only-same l m e (Some s) = rw e refl

takes-same : (l m : Layout) → l.options ≡ m.options → l.sections ≡ m.sections → (k : ℕ) → takes_file_bytes l k ≡ takes_file_bytes m k
takes-same l m e f k = rw (f, header_only-same l m e (slice_get m.sections k)) refl

parts_end-same : (l m : Layout) → l.options ≡ m.options → l.sections ≡ m.sections → (ps : List Part) → parts_end l ps ≡ parts_end m ps
parts_end-same l m e f [] = refl
parts_end-same l m e f (p ∷ ps) = ap₂ (λ (b : Bool) (n : ℕ). max (file_end b p.offset p.size) n) (takes-same l m e f p.section) (parts_end-same l m e f ps)

fills-same : (l m : Layout) → l.options ≡ m.options → (s : Section) → fills_file l s ≡ fills_file m s
fills-same l m e s = rw e refl

sections_end-same : (l m : Layout) → l.options ≡ m.options → (ss : List Section) → sections_end l ss ≡ sections_end m ss
sections_end-same l m e [] = refl
sections_end-same l m e (s ∷ ss) = ap₂ (λ (b : Bool) (n : ℕ). max (file_end b s.offset s.size) n) (fills-same l m e s) (sections_end-same l m e ss)

-- options, parts and sections determine the size
image_size-same : (l m : Layout) → l.options ≡ m.options → l.parts ≡ m.parts → l.sections ≡ m.sections → image_size l ≡ image_size m
unfolding image_size
image_size-same l m e p f =
    ap₂ max (parts_end-same l m e f l.parts ∙ ap (parts_end m) p) (sections_end-same l m e (drop 1 l.sections) ∙ ap (λ (ss : List Section). sections_end m (drop 1 ss)) f)

pub image_size-frame : (c : CLayout) → image_size (frame_of c) ≡ image_size (layout_of c)
unfolding frame_of layout_of
image_size-frame c = image_size-same (frame_of c) (layout_of c) refl refl refl

-- ---- flags

-- a resolution that is there under a test is the one that it has
there : (b : Bool) (x r : Resolution) → (if b then Some x else None) ≡ Some r → r ≡ x
there true x r e = cc
there false x r e = absurd cc

has_its_flags : (s : CSymbol) → HasItsFlags (symbol_of s)
unfolding symbol_of
has_its_flags s r e = ap (λ (x : Resolution). x.flags) (there (is_set s.has_resolution) _ r e)

-- each resolution has its symbol's flags
pub resolved_with_flags : (c : CLayout) → HaveTheirFlags (layout_of c)
unfolding layout_of
resolved_with_flags c = All-map HasItsFlags symbol_of c.symbols.now (λ k d lt. has_its_flags (get_or c.symbols.now k d))
