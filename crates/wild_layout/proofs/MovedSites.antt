-- Sites of items whose relocations stand at other places than in the input: apart as those of the input are.
--   stays_apart     where the relocations stand as in the input
--   turned_apart    where words are reversed
--   framed_apart    where frames are kept, each with its relocations
--   placed_section_moves      of a section as it stands; turned_or_stays    of one that may be reversed
--   debug_count     one that debuggers read has as many relocations as in the input
use Rattle.std.proofs.Common.{◌≡◌, ℕ, zero, suc, ◌+◌, ◌-◌, ◌*◌, ◌%◌, ◌<◌, ◌≤◌, ◌⊎◌, inl, inr, Bool, true, false, List, [], ◌∷◌, ◌++◌, length, get_or, map, refl, sym, ap, ◌∙◌, arith, subst, ◌/◌, AllPairs, if◌then◌else◌}
use Rattle.std.specs.Prelude.{All, Contains, Option, Some, None, ◌==◌, ◌||◌, not, option_map, slice_get}
use Rattle.std.specs.List.{flat_map, range_with_len, list_all}
use Rattle.std.proofs.lemmas.List.{get_or-map, length-map}
use Rattle.std.proofs.lemmas.List.Elements.{All-nil, All-cons, All-map}
use Rattle.std.proofs.lemmas.Option.{slice_get-map}
use Rattle.std.proofs.lemmas.Bool.{cases_Bool, and_parts, eqb-true, both_ways, eq-eqb, ne_eqb}
use Rattle.std.proofs.lemmas.Nat.Bits.{and_pow}
use Rattle.std.specs.Int.RustNames.{bit_and}
use Rattle.std.proofs.lemmas.List.{get_or_default}
use Rattle.std.proofs.lemmas.List.Kept.{AllPairs-cons}
use Rattle.wild_words.specs.declared.extents.Extent.{Extent}
use Rattle.wild_words.specs.Overlay.{Piece}
use Rattle.wild_words.specs.Extents.{SharesNothing, least_extent}
use Rattle.wild_words.proofs.Basics.{map-flat_map, or_other, listed_passes, All-each}
use Rattle.wild_words.proofs.ListLemmas.{flat_map-same, All-flat_map, holds_at, AllPairs-nil, at_places}
use Rattle.wild_words.proofs.ExtentLemmas.{all-apart, none-shared, apart-beside, beside-nothing}
use Rattle.wild_types.specs.declared.input.InputRelocation.{InputRelocation}
use Rattle.wild_types.specs.declared.input.InputSection.{InputSection}
use Rattle.wild_types.specs.Item.{Item, item_with}
use Rattle.wild_types.specs.declared.layout.Layout.{Layout}
use Rattle.wild_types.specs.declared.kind.Machine.{Machine}
use Rattle.wild_types.specs.declared.kind.Machine.TheVariants as machine
use Rattle.wild_types.specs.Rows.{row_of, row_width, field_bytes}
use Rattle.wild_reloc.specs.TableX86_64.{x86_64_row}
use Rattle.wild_reloc.specs.TableAArch64.{static_row, thread_row, aarch64_row}
use Rattle.wild_relax.specs.declared.row.Row.{Row}
use Rattle.wild_relax.specs.Rows.{rows_x86_64}
use Rattle.wild_relax.specs.RowsAArch64.{rows_aarch64}
use Rattle.wild_relax.specs.LinkedPattern.{keeps_bytes}
use Rattle.wild_placement.specs.ReversedWords.{reversed_offset, reversed_section, with_word_order}
use Rattle.wild_types.specs.declared.input.Slot.{Slot}
use Rattle.wild_types.specs.declared.input.Slot.TheVariants as slot
use Rattle.wild_placement.specs.PlacedSections.{origins_of}
use Rattle.wild_placement.specs.FrameInputs.{frames_of}
use Rattle.wild_placement.specs.PlacedSections.{entry_relocations, kept_relocations, moved_relocations, without_write, frame_flags, placed_frames, placed_by, placed_section, without_relocations, unread}
use Rattle.wild_placement.proofs.PlainLemmas.{unread_linked}
use Rattle.wild_types.specs.Kinds.{is_partial_link}
use Rattle.wild_placement.specs.PlacedSections.{moved_relocation as moved_entry}
use Rattle.wild_frames.specs.declared.entry.KeptEntry.{KeptEntry}
use Rattle.wild_frames.specs.Frames.{Frames, State, start, state_after, kept_of, found_in, kept_in}
use Rattle.wild_frames.specs.Walks.{FieldLies}
use Rattle.wild_frames.specs.declared.entry.Found.{Found}
use Rattle.wild_frames.specs.declared.entry.Found.TheVariants as finds
use Rattle.wild_frames.proofs.EntryLemmas.{IsWalked, KeptIs, each_kept, found_walked}
use Rattle.wild_records.specs.Abi.Section.{shf_execinstr}
use Rattle.wild_relax.specs.Question.{Question}
use Rattle.wild_relax.specs.Rows.{applies}
use Rattle.wild_relax.proofs.RoomLemmas.{chosen_is}
use Rattle.wild_types.specs.declared.file.File.{File}
use Rattle.wild_types.specs.Lookups.{bit, executable, is_read, has_relocations, is_counted, is_frame}
use Rattle.wild_layout.specs.Choice.{question_of, question_around}
use Rattle.wild_layout.specs.SectionPlaces.{IsWord, HasWords}
use Rattle.wild_layout.proofs.ChoiceLemmas.{chosen_listed}
use Rattle.wild_layout.proofs.DecideLemmas.{field_has_bytes, field_bytes_are}
use Rattle.wild_layout.proofs.DecisionLemmas.{IsRewrittenBy}
use Rattle.wild_layout.proofs.SiteLemmas.{All-one, IsSite, IsTemplateSite, site_cases, length-field_site}
use Rattle.wild_layout.specs.Sites.{field_site, site, sites, extent_of, extent_back, extents_by, input_extents, shared_byte, MovesApart}

-- ---- a site with the places of its relocation

record MovedPiece : Type 0 where
  piece : Piece
  from : ℕ
  to : ℕ

abbrev moved_relocation : Option InputRelocation → Option InputRelocation → Piece → MovedPiece
moved_relocation (Some o) (Some r) p = record { piece = p; from = o.offset; to = r.offset }
moved_relocation a b p = record { piece = p; from = 0; to = 0 }

-- where it stands, and where it stands in the input
abbrev here : MovedPiece → Extent
here m = extent_of m.piece

abbrev there : MovedPiece → Extent
there m = extent_back m.from m.to m.piece

abbrev moved_site : Layout → Item → List InputRelocation → ℕ → List MovedPiece
moved_site l s origins i = map (moved_relocation (slice_get origins i) (slice_get s.relocations i)) (site l s i)

abbrev moved_sites : Layout → Item → List InputRelocation → List MovedPiece
moved_sites l s origins = flat_map (moved_site l s origins) (range_with_len 0 (length s.relocations))

all_here : (a b : Option InputRelocation) (ps : List Piece) → map here (map (moved_relocation a b) ps) ≡ map extent_of ps
all_here a b [] = refl
all_here (Some o) (Some r) (p ∷ ps) = ap (λ (es : List Extent). extent_of p ∷ es) (all_here (Some o) (Some r) ps)
all_here (Some o) None (p ∷ ps) = ap (λ (es : List Extent). extent_of p ∷ es) (all_here (Some o) None ps)
all_here None b (p ∷ ps) = ap (λ (es : List Extent). extent_of p ∷ es) (all_here None b ps)

back_again : (k : ℕ) (p : Piece) → extent_back k k p ≡ extent_of p
back_again k p = let e : p.at + k - k ≡ p.at = omega arith in rw e refl

all_there : (a b : Option InputRelocation) (ps : List Piece) → map there (map (moved_relocation a b) ps) ≡ extents_by a b ps
all_there (Some o) (Some r) [] = refl
all_there (Some o) None [] = refl
all_there None b [] = refl
all_there (Some o) (Some r) (p ∷ ps) = ap (λ (es : List Extent). extent_back o.offset r.offset p ∷ es) (all_there (Some o) (Some r) ps)
all_there (Some o) None (p ∷ ps) = rw (back_again 0 p) (ap (λ (es : List Extent). extent_of p ∷ es) (all_there (Some o) None ps))
all_there None b (p ∷ ps) = rw (back_again 0 p) (ap (λ (es : List Extent). extent_of p ∷ es) (all_there None b ps))

sites_here : (l : Layout) (s : Item) (origins : List InputRelocation) → map here (moved_sites l s origins) ≡ map extent_of (sites l s)
sites_here l s origins =
    let is = range_with_len 0 (length s.relocations) in
    map-flat_map here (moved_site l s origins) is
    ∙ flat_map-same (λ i. map here (moved_site l s origins i)) (λ i. map extent_of (site l s i)) is (λ i. all_here (slice_get origins i) (slice_get s.relocations i) (site l s i))
    ∙ sym (map-flat_map extent_of (site l s) is)

sites_there : (l : Layout) (s : Item) (origins : List InputRelocation) → map there (moved_sites l s origins) ≡ flat_map (input_extents l s origins) (range_with_len 0 (length s.relocations))
sites_there l s origins =
    let is = range_with_len 0 (length s.relocations) in
    map-flat_map there (moved_site l s origins) is
    ∙ flat_map-same (λ i. map there (moved_site l s origins i)) (input_extents l s origins) is (λ i. all_there (slice_get origins i) (slice_get s.relocations i) (site l s i))

-- ---- apart as in the input

-- what is apart by one measure is so by another, where two that have some property are
apart_by : {X : Type 0} (P : X → Type 0) (f g : X → Extent) (xs : List X) → All P xs → ((x y : X) → P x → P y → SharesNothing (g x) (g y) → SharesNothing (f x) (f y)) → least_extent (map g xs) ≡ None → least_extent (map f xs) ≡ None
apart_by P f g [] each both none = none
apart_by {X} P f g (x ∷ xs) each both none =
    let all = x ∷ xs in
    let pairs = all-apart (map g all) none in
    let long = length-map all g in
    let longer = length-map all f in
    none-shared (map f all) (λ i j d l m.
    (let low : j < length all = omega (arith, m, longer) in
    let lower : i < length all = omega (arith, l, low) in
    let nothing = pairs i j (g x) l (omega (arith, low, long)) in
    let one : SharesNothing (g (get_or all i x)) (g (get_or all j x)) =
    subst (λ (e : Extent). SharesNothing e (g (get_or all j x))) (get_or-map g all i x (g x) lower)
    (subst (λ (e : Extent). SharesNothing (get_or (map g all) i (g x)) e) (get_or-map g all j x (g x) low) nothing) in
    let other = both (get_or all i x) (get_or all j x) (each i x lower) (each j x low) one in
    subst (λ (e : Extent). SharesNothing e (get_or (map f all) j d)) (sym (get_or-map f all i x d lower))
    (subst (λ (e : Extent). SharesNothing (f (get_or all i x)) e) (sym (get_or-map f all j x d low)) other)))

moves_by : (l : Layout) (s : Item) (origins : List InputRelocation) (P : MovedPiece → Type 0) → length origins ≡ length s.relocations → All P (moved_sites l s origins)
    → ((m n : MovedPiece) → P m → P n → SharesNothing (there m) (there n) → SharesNothing (here m) (here n)) → ((m n : MovedPiece) → P m → P n → SharesNothing (here m) (here n) → SharesNothing (there m) (there n)) → MovesApart l s origins
moves_by l s origins P count each both back = record {
  count = count;
  apart = λ none. ap least_extent (sym (sites_here l s origins)) ∙ apart_by P here there (moved_sites l s origins) each both (ap least_extent (sites_there l s origins) ∙ none);
  back = λ none. ap least_extent (sym (sites_there l s origins)) ∙ apart_by P there here (moved_sites l s origins) each back (ap least_extent (sites_here l s origins) ∙ none);
}

-- ---- where relocations stay

all_back : (o : Option InputRelocation) (ps : List Piece) → extents_by o o ps ≡ map extent_of ps
all_back None ps = refl
all_back (Some r) [] = refl
all_back (Some r) (p ∷ ps) = rw (back_again r.offset p) (ap (λ (es : List Extent). extent_of p ∷ es) (all_back (Some r) ps))

-- an item whose relocations stand as in the input shares there what it shares here
pub stays : (l : Layout) (s : Item) → shared_byte l s s.relocations ≡ least_extent (map extent_of (sites l s))
stays l s =
    let is = range_with_len 0 (length s.relocations) in
    ap least_extent (flat_map-same (input_extents l s s.relocations) (λ i. map extent_of (site l s i)) is (λ i. all_back (slice_get s.relocations i) (site l s i)) ∙ sym (map-flat_map extent_of (site l s) is))

pub stays_apart : (l : Layout) (s : Item) → MovesApart l s s.relocations
stays_apart l s = record { count = refl; apart = λ none. sym (stays l s) ∙ none; back = λ none. stays l s ∙ none }

-- ---- a site by its relocation

one_site : (P : MovedPiece → Type 0) (a b : Option InputRelocation) (ps : List Piece) (o r : InputRelocation) (p : Piece) → a ≡ Some o → b ≡ Some r → ps ≡ p ∷ [] → P (record { piece = p; from = o.offset; to = r.offset }) → All P (map (moved_relocation a b) ps)
one_site P a b ps o r p is listed only h = rw (is, listed, only) (All-one P (record { piece = p; from = o.offset; to = r.offset }) h)

no_site : (P : MovedPiece → Type 0) (a b : Option InputRelocation) (ps : List Piece) → ps ≡ [] → All P (map (moved_relocation a b) ps)
no_site P a b ps none = rw none (All-nil P)

-- a field of a relocation, with its place in the input
record IsMovedField (l : Layout) (o : InputRelocation) (m : MovedPiece) : Type 0 where
  some : 1 ≤ length m.piece.bytes
  long : length m.piece.bytes ≡ field_bytes l.machine o.number
  here : m.piece.at ≡ m.to
  there : o.offset ≡ m.from

-- where each relocation comes from one of the input of the same type, and none is rewritten, what holds of their fields holds of all sites
each_moved : (l : Layout) (s : Item) (origins : List InputRelocation) (P : MovedPiece → Type 0) → ((i : ℕ) (x : IsTemplateSite l s i) → ⊥)
    → ((i : ℕ) (r : InputRelocation) → slice_get s.relocations i ≡ Some r → (o : InputRelocation) × (slice_get origins i ≡ Some o) × (r.number ≡ o.number) × ((m : MovedPiece) → m.to ≡ r.offset → IsMovedField l o m → P m))
    → All P (moved_sites l s origins)
each_moved l s origins P plain each = All-flat_map P (moved_site l s origins) (range_with_len 0 (length s.relocations)) (All-each (λ (i : ℕ). All P (moved_site l s origins i)) (range_with_len 0 (length s.relocations)) (λ i c. at i))
  where
    field : (i : ℕ) → IsSite l s i → All P (moved_site l s origins i)
    field i x =
        let e = each i x.relocation x.listed in
        let p = field_site s x.relocation.offset x.written.size x.written.value in
        let m : MovedPiece = record { piece = p; from = e.0.offset; to = x.relocation.offset } in
        let wide = length-field_site s x.relocation.offset x.written.size x.written.value in
        let has = field_has_bytes l x.relocation x.written.size x.field in
        let size = field_bytes_are l x.relocation x.written.size x.field in
        let same = ap (field_bytes l.machine) e.2 in
        one_site P (slice_get origins i) (slice_get s.relocations i) (site l s i) e.0 x.relocation p e.1 x.listed x.is
        (e.3 m refl (record { some = omega (arith, wide, has); long = wide ∙ sym size ∙ same; here = refl; there = refl }))

    at : (i : ℕ) → All P (moved_site l s origins i)
    at i =
        elim (site_cases l s i) [
          | inl none ↦ no_site P (slice_get origins i) (slice_get s.relocations i) (site l s i) none
          | inr (inl x) ↦ field i x
          | inr (inr x) ↦ absurd (plain i x)
        ]

-- ---- reversed words

-- rows that change an instruction stand at no field of 8 bytes
abbrev is_narrow : Row → Bool
is_narrow row = keeps_bytes row || not (row_width (x86_64_row row.number) == 8)

each_is_narrow : list_all is_narrow rows_x86_64 ≡ true
unfolding x86_64_row rows_x86_64
each_is_narrow = refl

abbrev is_narrow_word : Row → Bool
is_narrow_word row = keeps_bytes row || not (row_width (aarch64_row row.number) == 8)

each_word_is_narrow : list_all is_narrow_word rows_aarch64 ≡ true
unfolding static_row thread_row rows_aarch64
each_word_is_narrow = refl

other_width : (n : ℕ) → not (n == 8) ≡ true → n ≡ 8 → ⊥
other_width n h e = let f : not (8 == 8) ≡ true = subst (λ (k : ℕ). not (k == 8) ≡ true) e h in cc

width_on : (m : Machine) (n k : ℕ) → n ≡ k → row_width (row_of m n) ≡ 8 → row_width (row_of m k) ≡ 8
width_on m n k e h = subst (λ (x : ℕ). row_width (row_of m x) ≡ 8) e h

on_x86_64 : (m : Machine) (n : ℕ) → m ≡ machine.X86_64 → row_width (row_of m n) ≡ 8 → row_width (x86_64_row n) ≡ 8
unfolding row_of
on_x86_64 machine.X86_64 n e h = h
on_x86_64 machine.AArch64 n e h = cc

on_aarch64 : (m : Machine) (n : ℕ) → m ≡ machine.AArch64 → row_width (row_of m n) ≡ 8 → row_width (aarch64_row n) ≡ 8
unfolding row_of
on_aarch64 machine.AArch64 n e h = h
on_aarch64 machine.X86_64 n e h = cc

-- so what is rewritten has another field
pub rewritten_is_narrow : (l : Layout) (s : Item) (i : ℕ) (r : InputRelocation) (row : Row) (v : ℕ) → IsRewrittenBy l s i r row v → field_bytes l.machine r.number ≡ 8 → ⊥
rewritten_is_narrow l s i r row v (inl w) wide =
    let narrow = or_other (keeps_bytes row) (not (row_width (x86_64_row row.number) == 8)) (chosen_listed l s r (slice_get s.relocations (i + 1)) row w.chosen is_narrow each_is_narrow) w.changes in
    other_width (row_width (x86_64_row row.number)) narrow (on_x86_64 l.machine row.number w.chosen.machine (width_on l.machine r.number row.number w.chosen.number wide))
rewritten_is_narrow l s i r row v (inr w) wide =
    let narrow = or_other (keeps_bytes row) (not (row_width (aarch64_row row.number) == 8)) (listed_passes is_narrow_word rows_aarch64 row each_word_is_narrow w.chosen.listed) w.changes in
    other_width (row_width (aarch64_row row.number)) narrow (on_aarch64 l.machine row.number w.chosen.machine (width_on l.machine r.number row.number w.chosen.number wide))

-- a word of n bytes, counted from the end
record IsReversedWord (n : ℕ) (m : MovedPiece) : Type 0 where
  long : length m.piece.bytes ≡ 8
  here : m.piece.at ≡ m.to
  to : m.to ≡ n - m.from - 8
  within : m.from + 8 ≤ n

turned_both : (n : ℕ) (x y : MovedPiece) → IsReversedWord n x → IsReversedWord n y → SharesNothing (there x) (there y) → SharesNothing (here x) (here y)
turned_both n x y p q nothing =
    let a = p.long in
    let b = p.here in
    let c = p.to in
    let d = p.within in
    let e = q.long in
    let f = q.here in
    let g = q.to in
    let h = q.within in
    elim (apart-beside (there x) (there y) nothing (omega (arith, a)) (omega (arith, e))) [
      | inl t ↦ beside-nothing (here x) (here y) (inr (omega (arith, a, b, c, d, e, f, g, h, t)))
      | inr t ↦ beside-nothing (here x) (here y) (inl (omega (arith, a, b, c, d, e, f, g, h, t)))
    ]

turned_back : (n : ℕ) (x y : MovedPiece) → IsReversedWord n x → IsReversedWord n y → SharesNothing (here x) (here y) → SharesNothing (there x) (there y)
turned_back n x y p q nothing =
    let a = p.long in
    let b = p.here in
    let c = p.to in
    let d = p.within in
    let e = q.long in
    let f = q.here in
    let g = q.to in
    let h = q.within in
    elim (apart-beside (here x) (here y) nothing (omega (arith, a)) (omega (arith, e))) [
      | inl t ↦ beside-nothing (there x) (there y) (inr (omega (arith, a, b, c, d, e, f, g, h, t)))
      | inr t ↦ beside-nothing (there x) (there y) (inl (omega (arith, a, b, c, d, e, f, g, h, t)))
    ]

record IsOrigin (n : ℕ) (origins : List InputRelocation) (i : ℕ) (r : InputRelocation) : Type 0 where
  origin : InputRelocation
  listed : slice_get origins i ≡ Some origin
  is : r ≡ reversed_offset n origin

origin_of : (n : ℕ) (origins : List InputRelocation) (i : ℕ) (r : InputRelocation) → slice_get (map (reversed_offset n) origins) i ≡ Some r → IsOrigin n origins i r
origin_of n origins i r h = by_origin (slice_get origins i) refl (sym (slice_get-map (reversed_offset n) origins i) ∙ h)
  where
    by_origin : (o : Option InputRelocation) → slice_get origins i ≡ o → option_map (reversed_offset n) o ≡ Some r → IsOrigin n origins i r
    by_origin None e h = cc
    by_origin (Some o) e h = let is : r ≡ reversed_offset n o = cc in record { origin = o; listed = e; is = is }

words_apart : (l : Layout) (s : Item) (n : ℕ) (origins : List InputRelocation) → s.relocations ≡ map (reversed_offset n) origins → All (IsWord l.machine n) origins → MovesApart l s origins
words_apart l s n origins moved words = moves_by l s origins (IsReversedWord n) count (each_moved l s origins (IsReversedWord n) plain each) (turned_both n) (turned_back n)
  where
    count : length origins ≡ length s.relocations
    count = sym (length-map origins (reversed_offset n)) ∙ ap length (sym moved)

    from : (i : ℕ) (r : InputRelocation) → slice_get s.relocations i ≡ Some r → IsOrigin n origins i r
    from i r listed = origin_of n origins i r (subst (λ (rs : List InputRelocation). slice_get rs i ≡ Some r) moved listed)

    plain : (i : ℕ) (x : IsTemplateSite l s i) → ⊥
    plain i x =
        let o = from i x.relocation x.listed in
        rewritten_is_narrow l s i x.relocation x.row x.value x.rewritten (ap (λ (r : InputRelocation). field_bytes l.machine r.number) o.is ∙ (holds_at (IsWord l.machine n) origins i o.origin o.listed words).wide)

    each : (i : ℕ) (r : InputRelocation) → slice_get s.relocations i ≡ Some r → (o : InputRelocation) × (slice_get origins i ≡ Some o) × (r.number ≡ o.number) × ((m : MovedPiece) → m.to ≡ r.offset → IsMovedField l o m → IsReversedWord n m)
    each i r listed =
        let o = from i r listed in
        let w = holds_at (IsWord l.machine n) origins i o.origin o.listed words in (
          o.origin,
          o.listed,
          ap (λ (x : InputRelocation). x.number) o.is,
          λ m to f.
              (let there = f.there in
              let inside = w.within in
              record { long = f.long ∙ w.wide; here = f.here; to = to ∙ ap (λ (x : InputRelocation). x.offset) o.is ∙ ap (λ (k : ℕ). n - k - 8) there; within = omega (arith, there, inside) }),
        )

-- a section whose words are reversed
pub turned_apart : (l : Layout) (k : ℕ) (s : InputSection) → HasWords l.machine s → MovesApart l (item_with k (reversed_section s)) s.relocations
turned_apart l k s words = words_apart l (item_with k (reversed_section s)) s.size s.relocations refl words.fields

-- ---- frames

-- each row that changes an instruction stands in code
abbrev is_code : Row → Bool
is_code row = keeps_bytes row || row.in_code

each_is_code : list_all is_code rows_x86_64 ≡ true
unfolding rows_x86_64
each_is_code = refl

each_word_is_code : list_all is_code rows_aarch64 ≡ true
unfolding rows_aarch64
each_word_is_code = refl

in_code : (code here : Bool) → (not code || here) ≡ true → code ≡ true → here ≡ true
in_code true here h e = h
in_code false here h e = cc

applied_in_code : (q : Question) (row : Row) → applies q row ≡ true → row.in_code ≡ true → executable q.section_flags ≡ true
unfolding applies
applied_in_code q row h code = in_code row.in_code (executable q.section_flags) (and_parts _ _ (and_parts _ _ (and_parts _ _ (and_parts _ _ (and_parts _ _ (and_parts _ _ h).0).0).0).0).0).1 code

-- so data has none
pub rewritten_is_code : (l : Layout) (s : Item) (i : ℕ) (r : InputRelocation) (row : Row) (v : ℕ) → IsRewrittenBy l s i r row v → executable s.flags ≡ true
rewritten_is_code l s i r row v (inl w) =
    let q = question_of l s r w.chosen.symbol (slice_get s.relocations (i + 1)) in
    let code = or_other (keeps_bytes row) row.in_code (chosen_listed l s r (slice_get s.relocations (i + 1)) row w.chosen is_code each_is_code) w.changes in
    applied_in_code q row (chosen_is q row w.chosen.chosen).here code
rewritten_is_code l s i r row v (inr w) =
    let code = or_other (keeps_bytes row) row.in_code (listed_passes is_code rows_aarch64 row each_word_is_code w.chosen.listed) w.changes in
    applied_in_code (question_around l s i r w.chosen.symbol) row w.chosen.here code

-- frames are not run
no_bit : (f : ℕ) → executable f ≡ true → executable (f - shf_execinstr) ≡ false
unfolding bit
no_bit f h =
    let a : bit_and f 4 ≡ f / 4 % 2 * 4 = and_pow f 2 in
    let e : bit_and f 4 ≡ 4 = eqb-true _ _ h in
    let b : bit_and (f - 4) 4 ≡ (f - 4) / 4 % 2 * 4 = and_pow (f - 4) 2 in
    ne_eqb (bit_and (f - 4) 4) 4 (λ x. omega (arith, a, e, b, x))

not_run : (f : ℕ) (b : Bool) → executable f ≡ b → executable (if b then f - shf_execinstr else f) ≡ false
not_run f true h = no_bit f h
not_run f false h = h

pub frames_are_data : (flags : ℕ) → executable (frame_flags flags) ≡ false
frames_are_data flags = not_run (without_write flags) (executable (without_write flags)) refl

-- relocations of kept entries, each with its entry
record OfEntry : Type 0 where
  entry : KeptEntry
  relocation : InputRelocation

abbrev of_entry : KeptEntry → InputRelocation → OfEntry
of_entry k r = record { entry = k; relocation = r }

abbrev of_entries : Frames → KeptEntry → List OfEntry
of_entries fs k = map (of_entry k) (entry_relocations fs k)

abbrev all_of_entries : Frames → List OfEntry
all_of_entries fs = flat_map (of_entries fs) (kept_in fs)

map-map : {X Y Z : Type 0} (f : Y → Z) (g : X → Y) (xs : List X) → map f (map g xs) ≡ map (λ x. f (g x)) xs
map-map f g [] = refl
map-map {X} {Y} {Z} f g (x ∷ xs) = ap (λ (zs : List Z). f (g x) ∷ zs) (map-map f g xs)

map-id : {X : Type 0} (xs : List X) → map (λ (x : X). x) xs ≡ xs
map-id [] = refl
map-id {X} (x ∷ xs) = ap (λ (ys : List X). x ∷ ys) (map-id xs)

as_input : (fs : Frames) → map (λ (x : OfEntry). x.relocation) (all_of_entries fs) ≡ kept_relocations fs
unfolding kept_relocations
as_input fs =
    map-flat_map (λ (x : OfEntry). x.relocation) (of_entries fs) (kept_in fs)
    ∙ flat_map-same (λ k. map (λ (x : OfEntry). x.relocation) (of_entries fs k)) (entry_relocations fs) (kept_in fs) (λ k. map-map (λ (x : OfEntry). x.relocation) (of_entry k) (entry_relocations fs k) ∙ map-id (entry_relocations fs k))

as_placed_relocations : (fs : Frames) → map (λ (x : OfEntry). moved_entry x.entry x.relocation) (all_of_entries fs) ≡ moved_relocations fs
unfolding moved_relocations
as_placed_relocations fs =
    map-flat_map (λ (x : OfEntry). moved_entry x.entry x.relocation) (of_entries fs) (kept_in fs)
    ∙ flat_map-same (λ k. map (λ (x : OfEntry). moved_entry x.entry x.relocation) (of_entries fs k)) (λ k. map (moved_entry k) (entry_relocations fs k)) (kept_in fs) (λ k. map-map (λ (x : OfEntry). moved_entry x.entry x.relocation) (of_entry k) (entry_relocations fs k))

-- a relocation of a kept entry, whose field lies in it
record LiesInEntry (fs : Frames) (x : OfEntry) : Type 0 where
  listed : Contains (kept_in fs) x.entry
  lies : FieldLies fs x.entry.from x.entry.size x.relocation

each_of_entries : (fs : Frames) → All (LiesInEntry fs) (all_of_entries fs)
each_of_entries fs = All-flat_map (LiesInEntry fs) (of_entries fs) (kept_in fs) (All-each (λ (k : KeptEntry). All (LiesInEntry fs) (of_entries fs k)) (kept_in fs) in_entry)
  where
    in_entry : (k : KeptEntry) → Contains (kept_in fs) k → All (LiesInEntry fs) (of_entries fs k)
    in_entry k c =
        let kept = each_kept fs start (found_in fs) (found_walked fs) in
        let lies = (subst (KeptIs fs) c.2 (kept c.0 k c.1)).lies in
        All-map (LiesInEntry fs) (of_entry k) (entry_relocations fs k) (λ i d m. record { listed = c; lies = lies.fields i d m })

-- kept entries follow one another, in the input and as they stand
record Ahead (a b : KeptEntry) : Type 0 where
  from : a.from + a.size ≤ b.from
  to : a.to + a.size ≤ b.to

abbrev EntriesApart : KeptEntry → KeptEntry → Type 0
EntriesApart a b = Ahead a b ⊎ Ahead b a

beside_back : (a b : KeptEntry) → EntriesApart a b → EntriesApart b a
beside_back a b (inl h) = inr h
beside_back a b (inr h) = inl h

record IsAfter (st : State) (k : KeptEntry) : Type 0 where
  from : st.at ≤ k.from
  to : st.to ≤ k.to

all_behind : (s : Frames) (st : State) (fs : List Found) → IsWalked s st fs → All (IsAfter st) (flat_map kept_of fs)
all_behind s st [] w = All-nil (IsAfter st)
all_behind s st (finds.Kept k ∷ fs) w =
    let at = w.facts.from in
    let to = w.facts.to in
    let rest = all_behind s (state_after st k) fs w.others in
    All-cons (IsAfter st) k (flat_map kept_of fs) (record { from = omega (arith, at); to = omega (arith, to) }) (λ i d m. (let f = (rest i d m).from in let t = (rest i d m).to in record { from = omega (arith, f); to = omega (arith, t) }))
all_behind s st (finds.Dropped size ∷ fs) w = (let rest = all_behind s _ fs w.others in λ i d m. (let f = (rest i d m).from in let t = (rest i d m).to in record { from = omega (arith, f); to = omega (arith, t) }))
all_behind s st (finds.End ∷ fs) w = all_behind s _ fs w.others
all_behind s st (finds.Tail at ∷ fs) w = all_behind s _ fs w.others
all_behind s st (finds.Bad y at ∷ fs) w = all_behind s _ fs w.others

all_beside : (s : Frames) (st : State) (fs : List Found) → IsWalked s st fs → AllPairs EntriesApart (flat_map kept_of fs)
all_beside s st [] w = AllPairs-nil EntriesApart
all_beside s st (finds.Kept k ∷ fs) w =
    let at = w.facts.from in
    let to = w.facts.to in
    let rest = all_behind s (state_after st k) fs w.others in
    AllPairs-cons EntriesApart k (flat_map kept_of fs) (λ i d m. (let f = (rest i d m).from in let t = (rest i d m).to in inl (record { from = omega (arith, at, f); to = omega (arith, to, t) }))) (all_beside s (state_after st k) fs w.others)
all_beside s st (finds.Dropped size ∷ fs) w = all_beside s _ fs w.others
all_beside s st (finds.End ∷ fs) w = all_beside s _ fs w.others
all_beside s st (finds.Tail at ∷ fs) w = all_beside s _ fs w.others
all_beside s st (finds.Bad y at ∷ fs) w = all_beside s _ fs w.others

-- a field in a kept entry
record IsInEntry (fs : Frames) (m : MovedPiece) : Type 0 where
  entry : KeptEntry
  listed : Contains (kept_in fs) entry
  some : 1 ≤ length m.piece.bytes
  here : m.piece.at ≡ m.to
  behind : entry.from ≤ m.from
  to : m.to ≡ entry.to + (m.from - entry.from)
  within : m.from + length m.piece.bytes ≤ entry.from + entry.size

same_entry : (x y : MovedPiece) (k j : KeptEntry) → k ≡ j → 1 ≤ length x.piece.bytes → 1 ≤ length y.piece.bytes → x.piece.at ≡ x.to → y.piece.at ≡ y.to → k.from ≤ x.from → j.from ≤ y.from
    → x.to ≡ k.to + (x.from - k.from) → y.to ≡ j.to + (y.from - j.from) → SharesNothing (there x) (there y) → SharesNothing (here x) (here y)
same_entry x y k j e xs ys xh yh xb yb xt yt nothing =
    let from : k.from ≡ j.from = ap (λ (z : KeptEntry). z.from) e in
    let to : k.to ≡ j.to = ap (λ (z : KeptEntry). z.to) e in
    elim (apart-beside (there x) (there y) nothing (omega (arith, xs)) (omega (arith, ys))) [
      | inl t ↦ beside-nothing (here x) (here y) (inl (omega (arith, from, to, xs, ys, xh, yh, xb, yb, xt, yt, t)))
      | inr t ↦ beside-nothing (here x) (here y) (inr (omega (arith, from, to, xs, ys, xh, yh, xb, yb, xt, yt, t)))
    ]

other_entry : (x y : MovedPiece) (k j : KeptEntry) → EntriesApart k j → x.piece.at ≡ x.to → y.piece.at ≡ y.to → k.from ≤ x.from → j.from ≤ y.from
    → x.to ≡ k.to + (x.from - k.from) → y.to ≡ j.to + (y.from - j.from) → x.from + length x.piece.bytes ≤ k.from + k.size → y.from + length y.piece.bytes ≤ j.from + j.size → SharesNothing (here x) (here y)
other_entry x y k j (inl a) xh yh xb yb xt yt xw yw = (let b = a.to in beside-nothing (here x) (here y) (inl (omega (arith, b, xh, yh, xb, yb, xt, yt, xw, yw))))
other_entry x y k j (inr a) xh yh xb yb xt yt xw yw = (let b = a.to in beside-nothing (here x) (here y) (inr (omega (arith, b, xh, yh, xb, yb, xt, yt, xw, yw))))

-- the same the other way
same_entry_back : (x y : MovedPiece) (k j : KeptEntry) → k ≡ j → 1 ≤ length x.piece.bytes → 1 ≤ length y.piece.bytes → x.piece.at ≡ x.to → y.piece.at ≡ y.to → k.from ≤ x.from → j.from ≤ y.from
    → x.to ≡ k.to + (x.from - k.from) → y.to ≡ j.to + (y.from - j.from) → SharesNothing (here x) (here y) → SharesNothing (there x) (there y)
same_entry_back x y k j e xs ys xh yh xb yb xt yt nothing =
    let from : k.from ≡ j.from = ap (λ (z : KeptEntry). z.from) e in
    let to : k.to ≡ j.to = ap (λ (z : KeptEntry). z.to) e in
    elim (apart-beside (here x) (here y) nothing (omega (arith, xs)) (omega (arith, ys))) [
      | inl t ↦ beside-nothing (there x) (there y) (inl (omega (arith, from, to, xs, ys, xh, yh, xb, yb, xt, yt, t)))
      | inr t ↦ beside-nothing (there x) (there y) (inr (omega (arith, from, to, xs, ys, xh, yh, xb, yb, xt, yt, t)))
    ]

other_entry_back : (x y : MovedPiece) (k j : KeptEntry) → EntriesApart k j → x.piece.at ≡ x.to → y.piece.at ≡ y.to → k.from ≤ x.from → j.from ≤ y.from
    → x.from + length x.piece.bytes ≤ k.from + k.size → y.from + length y.piece.bytes ≤ j.from + j.size → SharesNothing (there x) (there y)
other_entry_back x y k j (inl a) xh yh xb yb xw yw = (let b = a.from in beside-nothing (there x) (there y) (inl (omega (arith, b, xh, yh, xb, yb, xw, yw))))
other_entry_back x y k j (inr a) xh yh xb yb xw yw = (let b = a.from in beside-nothing (there x) (there y) (inr (omega (arith, b, xh, yh, xb, yb, xw, yw))))

-- two fields stand in one entry, or in two that are beside each other
one_or_two : (fs : Frames) (x y : MovedPiece) (p : IsInEntry fs x) (q : IsInEntry fs y) → (p.entry ≡ q.entry) ⊎ EntriesApart p.entry q.entry
one_or_two fs x y p q =
    elim (cases_Bool (p.listed.0 == q.listed.0)) [
      | inl e ↦ inl (sym p.listed.2 ∙ ap (λ (i : ℕ). get_or (kept_in fs) i p.entry) (eqb-true _ _ e) ∙ get_or_default (kept_in fs) q.listed.0 p.entry q.entry q.listed.1 ∙ q.listed.2)
      | inr n ↦
          (let pairs = all_beside fs start (found_in fs) (found_walked fs) in
          let both = at_places EntriesApart (kept_in fs) beside_back pairs p.listed.0 q.listed.0 p.entry (λ e. both_ways _ n (eq-eqb _ _ e)) p.listed.1 q.listed.1 in
          let there : get_or (kept_in fs) q.listed.0 p.entry ≡ q.entry = get_or_default (kept_in fs) q.listed.0 p.entry q.entry q.listed.1 ∙ q.listed.2 in
          inr (subst (λ (k : KeptEntry). EntriesApart p.entry k) there (subst (λ (k : KeptEntry). EntriesApart k (get_or (kept_in fs) q.listed.0 p.entry)) p.listed.2 both)))
    ]

entries_both : (fs : Frames) (x y : MovedPiece) → IsInEntry fs x → IsInEntry fs y → SharesNothing (there x) (there y) → SharesNothing (here x) (here y)
entries_both fs x y p q nothing =
    elim (one_or_two fs x y p q) [
      | inl same ↦ same_entry x y p.entry q.entry same p.some q.some p.here q.here p.behind q.behind p.to q.to nothing
      | inr other ↦ other_entry x y p.entry q.entry other p.here q.here p.behind q.behind p.to q.to p.within q.within
    ]

entries_back : (fs : Frames) (x y : MovedPiece) → IsInEntry fs x → IsInEntry fs y → SharesNothing (here x) (here y) → SharesNothing (there x) (there y)
entries_back fs x y p q nothing =
    elim (one_or_two fs x y p q) [
      | inl same ↦ same_entry_back x y p.entry q.entry same p.some q.some p.here q.here p.behind q.behind p.to q.to nothing
      | inr other ↦ other_entry_back x y p.entry q.entry other p.here q.here p.behind q.behind p.within q.within
    ]

record IsOfEntry (fs : Frames) (i : ℕ) (r : InputRelocation) : Type 0 where
  item : OfEntry
  listed : slice_get (kept_relocations fs) i ≡ Some item.relocation
  lies : LiesInEntry fs item
  is : r ≡ moved_entry item.entry item.relocation

from_entry : (fs : Frames) (i : ℕ) (r : InputRelocation) → slice_get (moved_relocations fs) i ≡ Some r → IsOfEntry fs i r
from_entry fs i r h = by_item (slice_get (all_of_entries fs) i) refl (sym (slice_get-map (λ (x : OfEntry). moved_entry x.entry x.relocation) (all_of_entries fs) i) ∙ ap (λ (rs : List InputRelocation). slice_get rs i) (as_placed_relocations fs) ∙ h)
  where
    by_item : (o : Option OfEntry) → slice_get (all_of_entries fs) i ≡ o → option_map (λ (x : OfEntry). moved_entry x.entry x.relocation) o ≡ Some r → IsOfEntry fs i r
    by_item None e h = cc
    by_item (Some x) e h =
        let is : r ≡ moved_entry x.entry x.relocation = cc in
        let here = ap (λ (rs : List InputRelocation). slice_get rs i) (sym (as_input fs)) ∙ slice_get-map (λ (x : OfEntry). x.relocation) (all_of_entries fs) i in
        record { item = x; listed = here ∙ ap (option_map (λ (x : OfEntry). x.relocation)) e; lies = holds_at (LiesInEntry fs) (all_of_entries fs) i x e (each_of_entries fs); is = is }

-- an item of data whose relocations are those of kept entries
frames_apart : (l : Layout) (s : Item) (fs : Frames) → s.relocations ≡ moved_relocations fs → executable s.flags ≡ false → ((r : InputRelocation) → fs.width r ≡ field_bytes l.machine r.number) → MovesApart l s (kept_relocations fs)
frames_apart l s fs moved still wide = moves_by l s (kept_relocations fs) (IsInEntry fs) count (each_moved l s (kept_relocations fs) (IsInEntry fs) plain each) (entries_both fs) (entries_back fs)
  where
    count : length (kept_relocations fs) ≡ length s.relocations
    count =
        ap length (sym (as_input fs)) ∙ length-map (all_of_entries fs) (λ (x : OfEntry). x.relocation)
        ∙ sym (length-map (all_of_entries fs) (λ (x : OfEntry). moved_entry x.entry x.relocation)) ∙ ap length (as_placed_relocations fs ∙ sym moved)

    plain : (i : ℕ) (x : IsTemplateSite l s i) → ⊥
    plain i x = both_ways (executable s.flags) still (rewritten_is_code l s i x.relocation x.row x.value x.rewritten)

    in_entry : (i : ℕ) (r : InputRelocation) (o : IsOfEntry fs i r) (m : MovedPiece) → m.to ≡ r.offset → IsMovedField l o.item.relocation m → IsInEntry fs m
    in_entry i r o m to f =
        let lies = o.lies.lies in
        let there = f.there in
        let behind = lies.behind in
        let inside = lies.within in
        let size = wide o.item.relocation in
        let long = f.long in
        let at : r.offset ≡ o.item.entry.to + (o.item.relocation.offset - o.item.entry.from) = ap (λ (x : InputRelocation). x.offset) o.is in
        record {
          entry = o.item.entry;
          listed = o.lies.listed;
          some = f.some;
          here = f.here;
          behind = omega (arith, there, behind);
          to = omega (arith, to, at, there);
          within = omega (arith, there, inside, size, long);
        }

    each : (i : ℕ) (r : InputRelocation) → slice_get s.relocations i ≡ Some r → (o : InputRelocation) × (slice_get (kept_relocations fs) i ≡ Some o) × (r.number ≡ o.number) × ((m : MovedPiece) → m.to ≡ r.offset → IsMovedField l o m → IsInEntry fs m)
    each i r listed =
        let o = from_entry fs i r (subst (λ (rs : List InputRelocation). slice_get rs i ≡ Some r) moved listed) in
        (o.item.relocation, o.listed, ap (λ (x : InputRelocation). x.number) o.is, in_entry i r o)

-- a section of frames as it stands
pub framed_apart : (l : Layout) (f : File) (k at : ℕ) (s : InputSection) → MovesApart l (item_with k (placed_frames l f at s)) (kept_relocations (frames_of l f s))
framed_apart l f k at s = frames_apart l (item_with k (placed_frames l f at s)) (frames_of l f s) refl (frames_are_data s.flags) (λ r. refl)

-- ---- sections as they stand

-- a section that is turned where its words are reversed
pub turned_or_stays : (l : Layout) (k : ℕ) (s : InputSection) → (s.reversed ≡ true → HasWords l.machine s) → MovesApart l (item_with k (with_word_order s)) s.relocations
unfolding with_word_order
turned_or_stays l k s words = by_test s.reversed words
  where
    by_test : (b : Bool) → (b ≡ true → HasWords l.machine s) → MovesApart l (item_with k (if b then reversed_section s else s)) s.relocations
    by_test true words = turned_apart l k s (words refl)
    by_test false words = stays_apart l (item_with k s)

turned_read : (s : InputSection) → s.slot ≡ slot.Loaded → is_read (with_word_order s) ≡ true → is_counted s ≡ true
unfolding with_word_order
turned_read s is h = by_test s.reversed h
  where
    by_test : (b : Bool) → is_read (if b then reversed_section s else s) ≡ true → is_counted s ≡ true
    by_test true h = rw is ((and_parts _ _ h).1)
    by_test false h = rw is ((and_parts _ _ h).1)

-- one whose relocations stand in a table of their own has its words as before
bare_words : (l : Layout) (s : InputSection) → HasWords l.machine s → HasWords l.machine (without_relocations s)
bare_words l s h = record { whole = h.whole; bytes = h.bytes; fields = All-nil (IsWord l.machine s.size) }

loaded_moves : (b : Bool) (l : Layout) (k : ℕ) (s : InputSection) → (is_counted s ≡ true → s.reversed ≡ true → HasWords l.machine s) → s.slot ≡ slot.Loaded
    → is_read (with_word_order (if b then without_relocations s else s)) ≡ true → MovesApart l (item_with k (with_word_order (if b then without_relocations s else s))) (if b then without_relocations s else s).relocations
loaded_moves true l k s words is h = turned_or_stays l k (without_relocations s) (λ r. bare_words l s (words (turned_read (without_relocations s) is h) r))
loaded_moves false l k s words is h = turned_or_stays l k s (words (turned_read s is h))

-- a loader applies no relocations of a section in another slot
not_read : (s : InputSection) (x : Slot) → s.slot ≡ x → has_relocations x ≡ false → is_read s ≡ true → ⊥
not_read s x is n h =
    let p = (and_parts (has_relocations s.slot) (not s.nobits) h).0 in
    let both : true ≡ false = sym p ∙ (ap has_relocations is ∙ n) in
    cc

turned_not_read : (s : InputSection) (x : Slot) → s.slot ≡ x → has_relocations x ≡ false → is_read (with_word_order s) ≡ true → ⊥
unfolding with_word_order
turned_not_read s x is n h = by_test s.reversed h
  where
    by_test : (b : Bool) → is_read (if b then reversed_section s else s) ≡ true → ⊥
    by_test true h = not_read (reversed_section s) x is n h
    by_test false h = not_read s x is n h

-- a section of a file
pub placed_section_moves : (l : Layout) (f : File) (k at : ℕ) (s : InputSection) → (is_counted s ≡ true → s.reversed ≡ true → HasWords l.machine s) → is_read (placed_section l f at s) ≡ true → MovesApart l (item_with k (placed_section l f at s)) (origins_of l f s)
unfolding placed_section
placed_section_moves l f k at s words h = by_slot s.slot refl h
  where
    by_slot : (x : Slot) → s.slot ≡ x → is_read (placed_by x l f at s) ≡ true → MovesApart l (item_with k (placed_by x l f at s)) (if is_frame x then kept_relocations (frames_of l f s) else (unread l s).relocations)
    by_slot slot.Loaded is h = loaded_moves (is_partial_link l.kind) l k s words is h
    by_slot slot.Frame is h = framed_apart l f k at s
    by_slot slot.Debug is h = absurd (turned_not_read s slot.Debug is refl h)
    by_slot slot.Rela is h = cc
    by_slot slot.Discard is h = absurd (not_read s slot.Discard is refl h)
    by_slot slot.Sorted is h = absurd (not_read s slot.Sorted is refl h)
    by_slot slot.Merge is h = absurd (not_read s slot.Merge is refl h)
    by_slot slot.Group is h = absurd (not_read s slot.Group is refl h)

-- ---- sections that debuggers read

reversed_relocations : (s : InputSection) → length (with_word_order s).relocations ≡ length s.relocations
unfolding with_word_order
reversed_relocations s = by_test s.reversed
  where
    by_test : (b : Bool) → length (if b then reversed_section s else s).relocations ≡ length s.relocations
    by_test true = length-map s.relocations (reversed_offset s.size)
    by_test false = refl

-- such a section of an output that is no relocatable object stands with as many relocations as it has in the input
pub debug_count : (l : Layout) (f : File) (at : ℕ) (s : InputSection) → is_partial_link l.kind ≡ false → s.slot ≡ slot.Debug → length (origins_of l f s) ≡ length (placed_section l f at s).relocations
unfolding placed_section
debug_count l f at s whole is =
    subst (λ (x : Slot). length (if is_frame x then kept_relocations (frames_of l f s) else (unread l s).relocations) ≡ length (placed_by x l f at s).relocations) (sym is)
    (ap (λ (t : InputSection). length t.relocations) (unread_linked l s whole) ∙ sym (reversed_relocations s))
