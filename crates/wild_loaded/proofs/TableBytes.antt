-- The bytes of the tables that fill addresses and slots, and where a loader finds them.
use Rattle.wild_loaded.proofs.KindLemmas.{dynamic_whole}
use Rattle.wild_loaded.proofs.Common.{sorted_words, has_last, placed_files, ◌≡◌, ℕ, zero, suc, ◌+◌, ◌-◌, ◌^◌, ◌<◌, ◌≤◌, inl, inr, Bool, true, false, List, [], ◌∷◌, ◌++◌, length, map, min, refl, sym, ap, ◌∙◌, arith, subst, Option, Some, None, Contains, slice_index, if◌then◌else◌, ◌==◌, flat_map, cases_lt, eqb-true, HasBytesAt, Part, Role, Segment, File, Group, Layout, needs_dynamic, is_prelude, image_size, KeepsAll, role_place, part_with, not_hollow_at, program_header, block_words, Rela, file_generals, file_entries, file_words, slot_entries_of, flat_places_of, storage_entries, file_content, content, bytes, SegmentLoads, table_bytes, IsLaidOut, TablesStand, word_bytes, rela_bytes, IsTableOf, All-contains, append-nil, length-append, get_or_append_left, flat_map-append, Contains-map, flat_map-same, flat_map-flat_map, packed_words_of_file, group_words, relative_entries, other_entries, tables_of, words_of_last}
use Rattle.std.specs.Option.{option_or}
use Rattle.wild_needs.specs.declared.dynamic.DynamicTag.TheVariants as tags
use Rattle.wild_types.specs.declared.part.Role.TheVariants as role
use Rattle.wild_needs.specs.Dynamic as dynamic
use Rattle.wild_needs.specs.DynamicPlaces as dynamic_places
use Rattle.wild_types.specs.Parts.{is_table_role}
use Rattle.wild_slot.specs.declared.slot_parts.EntryPart.TheVariants as entries
use Rattle.wild_layout.specs.Content.{last_words}
use Rattle.wild_loader.specs.Laws.{IsLocatedAt}
use Rattle.wild_loader.specs.Tables.{offset_in}
use Rattle.std.proofs.lemmas.List.{append_assoc, get_or-append_right, nil_from_length}
use Rattle.wild_loaded.proofs.Loads.{kind_is, header_from, header_to}

-- ---- bytes

-- records of groups, spelled
by_group : {X : Type 0} (h : X → List ℕ) (of : Group → List X) (r : Role) (l : Layout) → ((g : Group) → content l r g ≡ flat_map h (of g)) → table_bytes l r ≡ flat_map h (flat_map of l.groups)
by_group h of r l each = flat_map-same (content l r) (λ (g : Group). flat_map h (of g)) l.groups each ∙ sym (flat_map-flat_map h of l.groups)

-- of their files
by_files : {X : Type 0} (h : X → List ℕ) (of : File → List X) (r : Role) (l : Layout) (g : Group) → ((f : File) → file_content l r f ≡ flat_map h (of f)) → flat_map (file_content l r) (placed_files l g) ≡ flat_map h (flat_map of (placed_files l g))
by_files h of r l g each = flat_map-same (file_content l r) (λ (f : File). flat_map h (of f)) (placed_files l g) each ∙ sym (flat_map-flat_map h of (placed_files l g))

no_front : (b : Bool) (xs : List ℕ) → (if b then [] else []) ++ xs ≡ xs
no_front true xs = refl
no_front false xs = refl

words_of_end : (l : Layout) (g : Group) → flat_map word_bytes (block_words l g) ++ last_words l g ≡ flat_map word_bytes (block_words l g ++ words_of_last l g)
words_of_end l g = ap (λ (bs : List ℕ). flat_map word_bytes (block_words l g) ++ bs) (by_last (has_last g)) ∙ sym (flat_map-append word_bytes (block_words l g) (words_of_last l g))
  where
    by_last : (b : Bool) → (if b then flat_map word_bytes (sorted_words l) else []) ≡ flat_map word_bytes (if b then sorted_words l else [])
    by_last true = refl
    by_last false = refl

pub words_are : (l : Layout) → table_bytes l role.RelrDyn ≡ flat_map word_bytes (tables_of l).words
words_are l = by_group word_bytes (group_words l) role.RelrDyn l (λ g.
    ap (λ (bs : List ℕ). bs ++ (flat_map word_bytes (block_words l g) ++ last_words l g)) (by_files word_bytes (packed_words_of_file l) role.RelrDyn l g (λ f. ap (λ (bs : List ℕ). bs ++ flat_map word_bytes (flat_places_of l f)) (no_front (is_prelude f.role) (flat_map word_bytes (file_words l f))) ∙ sym (flat_map-append word_bytes (file_words l f) (flat_places_of l f))))
    ∙ ap (λ (bs : List ℕ). flat_map word_bytes (flat_map (packed_words_of_file l) (placed_files l g)) ++ bs) (words_of_end l g)
    ∙ sym (flat_map-append word_bytes (flat_map (packed_words_of_file l) (placed_files l g)) (block_words l g ++ words_of_last l g)))

-- all relative entries, and all others
abbrev pub all_relatives : Layout → List Rela
all_relatives l = flat_map (λ (g : Group). flat_map (relative_entries l) (placed_files l g)) l.groups

abbrev pub all_generals : Layout → List Rela
all_generals l = flat_map (λ (g : Group). flat_map (other_entries l) (placed_files l g)) l.groups

pub relatives_are : (l : Layout) → table_bytes l role.RelaDynRelative ≡ flat_map rela_bytes (all_relatives l)
relatives_are l = by_group rela_bytes (λ (g : Group). flat_map (relative_entries l) (placed_files l g)) role.RelaDynRelative l (λ g.
    append-nil (flat_map (file_content l role.RelaDynRelative) (placed_files l g))
    ∙ by_files rela_bytes (relative_entries l) role.RelaDynRelative l g (λ f. ap (λ (bs : List ℕ). bs ++ flat_map rela_bytes (slot_entries_of entries.Relative l f)) (no_front (is_prelude f.role) (flat_map rela_bytes (file_entries l f))) ∙ sym (flat_map-append rela_bytes (file_entries l f) (slot_entries_of entries.Relative l f))))

pub jumps_are : (l : Layout) → table_bytes l role.RelaPlt ≡ flat_map rela_bytes (tables_of l).jumps
jumps_are l = by_group rela_bytes (λ (g : Group). flat_map (slot_entries_of entries.Plt l) (placed_files l g)) role.RelaPlt l (λ g.
    append-nil (flat_map (file_content l role.RelaPlt) (placed_files l g))
    ∙ by_files rela_bytes (slot_entries_of entries.Plt l) role.RelaPlt l g (λ f. ap (λ (bs : List ℕ). bs ++ flat_map rela_bytes (slot_entries_of entries.Plt l f)) (no_front (is_prelude f.role) [])))

-- what stands once, what is the file's own, and what its slots have
general_content : (b : Bool) (xs ys zs : List Rela) → ((if b then flat_map rela_bytes xs else []) ++ flat_map rela_bytes ys) ++ flat_map rela_bytes zs ≡ flat_map rela_bytes ((if b then xs else []) ++ (ys ++ zs))
general_content b xs ys zs =
    append_assoc (if b then flat_map rela_bytes xs else []) (flat_map rela_bytes ys) (flat_map rela_bytes zs)
    ∙ ap (λ (bs : List ℕ). (if b then flat_map rela_bytes xs else []) ++ bs) (sym (flat_map-append rela_bytes ys zs))
    ∙ ap (λ (bs : List ℕ). bs ++ flat_map rela_bytes (ys ++ zs)) (front b)
    ∙ sym (flat_map-append rela_bytes (if b then xs else []) (ys ++ zs))
  where
    front : (c : Bool) → (if c then flat_map rela_bytes xs else []) ≡ flat_map rela_bytes (if c then xs else [])
    front true = refl
    front false = refl

pub generals_are : (l : Layout) → table_bytes l role.RelaDynGeneral ≡ flat_map rela_bytes (all_generals l)
generals_are l = by_group rela_bytes (λ (g : Group). flat_map (other_entries l) (placed_files l g)) role.RelaDynGeneral l (λ g.
    append-nil (flat_map (file_content l role.RelaDynGeneral) (placed_files l g))
    ∙ by_files rela_bytes (other_entries l) role.RelaDynGeneral l g (λ f. general_content (is_prelude f.role) (storage_entries l) (file_generals l f) (slot_entries_of entries.General l f)))

pub entries_are : (l : Layout) → table_bytes l role.RelaDynRelative ++ table_bytes l role.RelaDynGeneral ≡ flat_map rela_bytes (tables_of l).entries
entries_are l =
    ap (λ (bs : List ℕ). bs ++ table_bytes l role.RelaDynGeneral) (relatives_are l)
    ∙ ap (λ (bs : List ℕ). flat_map rela_bytes (all_relatives l) ++ bs) (generals_are l)
    ∙ sym (flat_map-append rela_bytes (all_relatives l) (all_generals l))

-- ---- where they stand

segment_memory : (l : Layout) (g : Segment) (a : ℕ) → a < g.address + g.mem_size → a < (program_header l g).address + (program_header l g).mem_size
unfolding program_header
segment_memory l g a h = h

segment_offset : (l : Layout) (g : Segment) (a : ℕ) → offset_in (program_header l g) a ≡ g.offset + (a - g.address)
unfolding program_header
segment_offset l g a = refl

-- the bytes of a table stand in a loaded segment, at its address
table_at : (l : Layout) (r : Role) (p : Part) → TablesStand → KeepsAll l → IsLaidOut l → (role_place r ≡ 0 → ⊥) → needs_dynamic l.kind ≡ true → is_table_role r ≡ true → part_with r l.parts ≡ Some p → 1 ≤ p.size → length (table_bytes l r) ≡ p.size → IsLocatedAt (bytes l) (map (program_header l) l.segments) p.address (table_bytes l r)
table_at l r p stands keeps laid place needs relative there some full =
    let written = not_hollow_at l p.section keeps in
    let c = (laid.loadable (dynamic_whole l.kind needs)).tables needs r p relative there written some in
    let to = c.to in
    let sizes = (All-contains (SegmentLoads (image_size l)) l.segments c.segment (laid.loadable (dynamic_whole l.kind needs)).each c.listed).sizes c.loaded in
    let here = stands l laid r place p there written some in
    record {
      segment = program_header l c.segment;
      contained = Contains-map (program_header l) l.segments c.segment c.listed;
      to_load = kind_is l c.segment ∙ c.loaded;
      low = header_from l c.segment p.address c.from;
      inner = segment_memory l c.segment p.address (omega (arith, some, to, sizes));
      high = header_to l c.segment (p.address + length (table_bytes l r)) (omega (arith, to, full));
      stands = subst (λ (n : ℕ). HasBytesAt (bytes l) n (table_bytes l r)) (c.distance ∙ sym (segment_offset l c.segment p.address)) here;
    }

-- a part that is there
table_there : (l : Layout) (r : Role) → TablesStand → KeepsAll l → IsLaidOut l → (role_place r ≡ 0 → ⊥) → needs_dynamic l.kind ≡ true → is_table_role r ≡ true → (o : Option Part) → part_with r l.parts ≡ o → IsTableOf (bytes l) (map (program_header l) l.segments) (dynamic_places.part_address o) (dynamic_places.part_size o) (table_bytes l r)
table_there l r stands keeps laid place needs relative None e = (laid.roles r place).missing e
table_there l r stands keeps laid place needs relative (Some p) e =
    let full = ((laid.roles r place).there p e).size in
    (sym full, λ some. table_at l r p stands keeps laid place needs relative e (omega (arith, some, full)) full)

-- the words, by their tags
pub words_named : (l : Layout) → TablesStand → KeepsAll l → IsLaidOut l → needs_dynamic l.kind ≡ true → IsTableOf (bytes l) (map (program_header l) l.segments) (dynamic.dynamic_entry l tags.Relr) (dynamic.dynamic_entry l tags.RelrSize) (table_bytes l role.RelrDyn)
unfolding dynamic.dynamic_entry
words_named l stands keeps laid needs = table_there l role.RelrDyn stands keeps laid (λ e. cc) needs refl (part_with role.RelrDyn l.parts) refl

-- ---- entries with addends, of which the relative ones stand first

part_low : (l : Layout) (p : Part) → IsLaidOut l → Contains l.parts p → p.offset + p.size ≤ 2 ^ 62
part_low l p laid c = subst (λ (q : Part). q.offset + q.size ≤ 2 ^ 62) c.2 (laid.parts c.0 p c.1).low

-- bytes that stand behind others
pub stands_joined : (whole xs ys : List ℕ) (a b : ℕ) → b ≡ a + length xs → HasBytesAt whole a xs → HasBytesAt whole b ys → HasBytesAt whole a (xs ++ ys)
stands_joined whole xs ys a b e s t = record {
  fits = (let n = length-append xs ys in let f = t.fits in omega (arith, n, f, e));
  same = λ k lt. elim (cases_lt k (length xs)) [
    | inl low ↦ s.same k low ∙ sym (get_or_append_left xs ys 0 k low)
    | inr high ↦ behind k lt high
  ];
}
  where
    behind : (k : ℕ) → k < length (xs ++ ys) → length xs ≤ k → slice_index whole (a + k) ≡ slice_index (xs ++ ys) k
    behind k lt high =
        let n = length-append xs ys in
        let z : a + k ≡ b + (k - length xs) = omega (arith, e, high) in
        let here = t.same (k - length xs) (omega (arith, lt, n, high)) in
        ap (λ (m : ℕ). slice_index whole m) z ∙ here ∙ sym (get_or-append_right xs ys (length xs) k 0 refl high)

-- both parts have bytes: one segment has them
both_at : (l : Layout) (p q : Part) → TablesStand → KeepsAll l → IsLaidOut l → needs_dynamic l.kind ≡ true → part_with role.RelaDynRelative l.parts ≡ Some p → part_with role.RelaDynGeneral l.parts ≡ Some q → 1 ≤ p.size → 1 ≤ q.size
    → IsLocatedAt (bytes l) (map (program_header l) l.segments) p.address (table_bytes l role.RelaDynRelative ++ table_bytes l role.RelaDynGeneral)
both_at l p q stands keeps laid needs first second some more =
    let c = (laid.loadable (dynamic_whole l.kind needs)).together needs p q first second (not_hollow_at l p.section keeps) (not_hollow_at l q.section keeps) some more in
    let b = (laid.loadable (dynamic_whole l.kind needs)).behind p q first second in
    let to = c.to in
    let at = b.address in
    let off = b.offset in
    let sizes = (All-contains (SegmentLoads (image_size l)) l.segments c.segment (laid.loadable (dynamic_whole l.kind needs)).each c.listed).sizes c.loaded in
    let n = ((laid.roles role.RelaDynRelative (λ z. cc)).there p first).size in
    let m = ((laid.roles role.RelaDynGeneral (λ z. cc)).there q second).size in
    let x = length-append (table_bytes l role.RelaDynRelative) (table_bytes l role.RelaDynGeneral) in
    let here = stands l laid role.RelaDynRelative (λ z. cc) p first (not_hollow_at l p.section keeps) some in
    let there = stands l laid role.RelaDynGeneral (λ z. cc) q second (not_hollow_at l q.section keeps) more in
    let whole = stands_joined (bytes l) (table_bytes l role.RelaDynRelative) (table_bytes l role.RelaDynGeneral) p.offset q.offset (omega (arith, off, n)) here there in
    record {
      segment = program_header l c.segment;
      contained = Contains-map (program_header l) l.segments c.segment c.listed;
      to_load = kind_is l c.segment ∙ c.loaded;
      low = header_from l c.segment p.address c.from;
      inner = segment_memory l c.segment p.address (omega (arith, some, to, at, sizes));
      high = header_to l c.segment (p.address + length (table_bytes l role.RelaDynRelative ++ table_bytes l role.RelaDynGeneral)) (omega (arith, to, at, n, m, x));
      stands = subst (λ (k : ℕ). HasBytesAt (bytes l) k (table_bytes l role.RelaDynRelative ++ table_bytes l role.RelaDynGeneral)) (c.distance ∙ sym (segment_offset l c.segment p.address)) whole;
    }

-- what a part that has no bytes, or is not there, gives
empty_table : (l : Layout) (r : Role) (o : Option Part) → IsLaidOut l → (role_place r ≡ 0 → ⊥) → part_with r l.parts ≡ o → dynamic_places.unless_empty o ≡ None → table_bytes l r ≡ []
empty_table l r None laid place e none = (laid.roles r place).missing e
empty_table l r (Some p) laid place e none = by_test (p.size == 0) refl none
  where
    by_test : (b : Bool) → (p.size == 0) ≡ b → (if b then None else Some p) ≡ None → table_bytes l r ≡ []
    by_test false z h = cc
    by_test true z h = (let full = ((laid.roles r place).there p e).size in let s = eqb-true p.size 0 z in nil_from_length (table_bytes l r) (omega (arith, s, full)))

empty_size : (o : Option Part) → dynamic_places.unless_empty o ≡ None → dynamic_places.bytes_of o ≡ 0
empty_size None h = refl
empty_size (Some p) h = by_test (p.size == 0) refl h
  where
    by_test : (b : Bool) → (p.size == 0) ≡ b → (if b then None else Some p) ≡ None → p.size ≡ 0
    by_test true z e = eqb-true p.size 0 z
    by_test false z e = cc

-- a part with bytes
full_part : (o : Option Part) (p : Part) → dynamic_places.unless_empty o ≡ Some p → (o ≡ Some p) × (1 ≤ p.size)
full_part None p h = cc
full_part (Some x) p h = by_test (x.size == 0) refl h
  where
    some : (n : ℕ) → (n == 0) ≡ false → 1 ≤ n
    some zero e = cc
    some (suc n) e = omega arith

    by_test : (b : Bool) → (x.size == 0) ≡ b → (if b then None else Some x) ≡ Some p → (Some x ≡ Some p) × (1 ≤ p.size)
    by_test true z e = cc
    by_test false z e = (let is : x ≡ p = cc in (e, subst (λ (y : Part). 1 ≤ y.size) is (some x.size z)))

-- of two parts, by which of them have bytes
entries_by : (l : Layout) (o q x y : Option Part) → TablesStand → KeepsAll l → IsLaidOut l → needs_dynamic l.kind ≡ true → part_with role.RelaDynRelative l.parts ≡ o → part_with role.RelaDynGeneral l.parts ≡ q → dynamic_places.unless_empty o ≡ x → dynamic_places.unless_empty q ≡ y
    → IsTableOf (bytes l) (map (program_header l) l.segments) (dynamic_places.part_address (option_or x y)) (dynamic_places.if_present (min (2 ^ 64 - 1) (dynamic_places.bytes_of o + dynamic_places.bytes_of q)) (option_or x y)) (table_bytes l role.RelaDynRelative ++ table_bytes l role.RelaDynGeneral)
entries_by l o q None None stands keeps laid needs e f g h =
    ap (λ (bs : List ℕ). bs ++ table_bytes l role.RelaDynGeneral) (empty_table l role.RelaDynRelative o laid (λ z. cc) e g) ∙ empty_table l role.RelaDynGeneral q laid (λ z. cc) f h
entries_by l o q None (Some b) stands keeps laid needs e f g h =
    let none = empty_table l role.RelaDynRelative o laid (λ z. cc) e g in
    let zero_size = empty_size o g in
    let full = full_part q b h in
    let there : part_with role.RelaDynGeneral l.parts ≡ Some b = f ∙ full.0 in
    let t = (laid.roles role.RelaDynGeneral (λ z. cc)).there b there in
    let size = t.size in
    let ends = part_low l b laid t.listed in
    let bytes_are : dynamic_places.bytes_of q ≡ b.size = ap (λ (p : Option Part). dynamic_places.bytes_of p) full.0 in
    let P : List ℕ → Type 0 = λ bs. (min (2 ^ 64 - 1) (dynamic_places.bytes_of o + dynamic_places.bytes_of q) ≡ length (bs ++ table_bytes l role.RelaDynGeneral)) × (0 < length (bs ++ table_bytes l role.RelaDynGeneral) → IsLocatedAt (bytes l) (map (program_header l) l.segments) b.address (bs ++ table_bytes l role.RelaDynGeneral)) in
    subst P (sym none) (omega (arith, zero_size, bytes_are, size, ends), λ some. table_at l role.RelaDynGeneral b stands keeps laid (λ z. cc) needs refl there full.1 size)
entries_by l o q (Some a) None stands keeps laid needs e f g h =
    let none = empty_table l role.RelaDynGeneral q laid (λ z. cc) f h in
    let zero_size = empty_size q h in
    let full = full_part o a g in
    let there : part_with role.RelaDynRelative l.parts ≡ Some a = e ∙ full.0 in
    let t = (laid.roles role.RelaDynRelative (λ z. cc)).there a there in
    let size = t.size in
    let ends = part_low l a laid t.listed in
    let bytes_are : dynamic_places.bytes_of o ≡ a.size = ap (λ (p : Option Part). dynamic_places.bytes_of p) full.0 in
    let alone : table_bytes l role.RelaDynRelative ++ table_bytes l role.RelaDynGeneral ≡ table_bytes l role.RelaDynRelative = ap (λ (bs : List ℕ). table_bytes l role.RelaDynRelative ++ bs) none ∙ append-nil (table_bytes l role.RelaDynRelative) in
    let P : List ℕ → Type 0 = λ bs. (min (2 ^ 64 - 1) (dynamic_places.bytes_of o + dynamic_places.bytes_of q) ≡ length bs) × (0 < length bs → IsLocatedAt (bytes l) (map (program_header l) l.segments) a.address bs) in
    subst P (sym alone) (omega (arith, zero_size, bytes_are, size, ends), λ some. table_at l role.RelaDynRelative a stands keeps laid (λ z. cc) needs refl there full.1 size)
entries_by l o q (Some a) (Some b) stands keeps laid needs e f g h =
    let first = full_part o a g in
    let second = full_part q b h in
    let here : part_with role.RelaDynRelative l.parts ≡ Some a = e ∙ first.0 in
    let there : part_with role.RelaDynGeneral l.parts ≡ Some b = f ∙ second.0 in
    let t = (laid.roles role.RelaDynRelative (λ z. cc)).there a here in
    let u = (laid.roles role.RelaDynGeneral (λ z. cc)).there b there in
    let n = t.size in
    let m = u.size in
    let low = part_low l a laid t.listed in
    let high = part_low l b laid u.listed in
    let front : dynamic_places.bytes_of o ≡ a.size = ap (λ (p : Option Part). dynamic_places.bytes_of p) first.0 in
    let back : dynamic_places.bytes_of q ≡ b.size = ap (λ (p : Option Part). dynamic_places.bytes_of p) second.0 in
    let x = length-append (table_bytes l role.RelaDynRelative) (table_bytes l role.RelaDynGeneral) in
    (omega (arith, front, back, n, m, low, high, x), λ some. both_at l a b stands keeps laid needs here there first.1 second.1)

pub entries_named : (l : Layout) → TablesStand → KeepsAll l → IsLaidOut l → needs_dynamic l.kind ≡ true → IsTableOf (bytes l) (map (program_header l) l.segments) (dynamic.dynamic_entry l tags.Rela) (dynamic.dynamic_entry l tags.RelaSize) (table_bytes l role.RelaDynRelative ++ table_bytes l role.RelaDynGeneral)
unfolding dynamic.dynamic_entry dynamic_places.first_entries dynamic_places.entries_bytes
entries_named l stands keeps laid needs = entries_by l (part_with role.RelaDynRelative l.parts) (part_with role.RelaDynGeneral l.parts) _ _ stands keeps laid needs refl refl refl refl

-- the entries that stubs go through, by their tags
pub jumps_named : (l : Layout) → TablesStand → KeepsAll l → IsLaidOut l → needs_dynamic l.kind ≡ true → IsTableOf (bytes l) (map (program_header l) l.segments) (dynamic.dynamic_entry l tags.JmpRel) (dynamic.dynamic_entry l tags.PltRelSize) (table_bytes l role.RelaPlt)
unfolding dynamic.dynamic_entry
jumps_named l stands keeps laid needs = by_part (part_with role.RelaPlt l.parts) refl
  where
    empty : (bs : List ℕ) → length bs ≡ 0 → bs ≡ []
    empty [] h = refl
    empty (b ∷ bs) h = absurd (omega (arith, h))

    by_size : (p : Part) (b : Bool) → part_with role.RelaPlt l.parts ≡ Some p → (p.size == 0) ≡ b → IsTableOf (bytes l) (map (program_header l) l.segments) (dynamic_places.part_address (if b then None else Some p)) (dynamic_places.part_size (if b then None else Some p)) (table_bytes l role.RelaPlt)
    by_size p true e z = (let full = ((laid.roles role.RelaPlt (λ z. cc)).there p e).size in let none = eqb-true p.size 0 z in empty (table_bytes l role.RelaPlt) (omega (arith, full, none)))
    by_size p false e z =
        let full = ((laid.roles role.RelaPlt (λ z. cc)).there p e).size in
        (sym full, λ some. table_at l role.RelaPlt p stands keeps laid (λ z. cc) needs refl e (omega (arith, some, full)) full)

    by_part : (o : Option Part) → part_with role.RelaPlt l.parts ≡ o → IsTableOf (bytes l) (map (program_header l) l.segments) (dynamic_places.part_address (dynamic_places.unless_empty o)) (dynamic_places.part_size (dynamic_places.unless_empty o)) (table_bytes l role.RelaPlt)
    by_part None e = (laid.roles role.RelaPlt (λ z. cc)).missing e
    by_part (Some p) e = by_size p (p.size == 0) e refl
