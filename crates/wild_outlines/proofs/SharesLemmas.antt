-- What groups need of the parts, after a change that keeps the numbers of dynamic relocations.
use Rattle.wild_outlines.proofs.Common.{◌≡◌, ℕ, zero, suc, ◌+◌, ◌*◌, ◌-◌, ◌^◌, false, List, [], ◌∷◌, ◌++◌, map, length, min, Option, Some, None, refl, sym, ap, subst, ◌∙◌, arith, ◌&&◌, if◌then◌else◌, slice_get, flat_map, InputSection, File, Group, Part, Role, Layout, given, total, has_role, Input, address_after, placed_sections, file_frames, placed_from, frames_at, placed_files, of_last_file, sorted_inputs, processed_sections, with_word_order, words_of, Change, found_section, with_item, changed_section, changed_file, changed_group, changed_layout, outline_file, outline_group, outline, flat_map_from, part_errors, written_section, KeepsCounts}
use Rattle.wild_types.specs.declared.part.Role.TheVariants as role
use Rattle.wild_types.specs.FileRoles.{is_prelude, is_epilogue}
use Rattle.wild_types.specs.FileSymbols.{copies_of}
use Rattle.wild_types.proofs.ListLemmas.{total-append}
use Rattle.wild_placement.specs.PlacedSections.{placed_file, sorted_sections}
use Rattle.wild_needs.specs.Entries.{sorted_words, general_count}
use Rattle.wild_needs.specs.Needs.{frames_room, bytes_if_last, file_table_bytes, reads_sections, first_share, share, has_last, last_share, group_share, needs_of, needs_by, needs, total_share}
use Rattle.wild_needs.specs.SlotShares.{slot_share, relr_got_share}
use Rattle.wild_needs.proofs.RoomLemmas.{frames_kept}
use Rattle.wild_needs.proofs.StandingShares.{own_stands, slots_are_placed}
use Rattle.wild_layout.specs.Faults.{share_errors, has_spare}
use Rattle.wild_outlines.specs.ShareLaws.{KeepsShares}
use Rattle.wild_outlines.proofs.ListLemmas.{flat_map-same, total-same, some_same}
use Rattle.wild_outlines.proofs.ChangedItems.{total-with_item, FoundSection, FoundSection-from_found, outline-changed, outline_file-changed, outline_group-changed, same_by_outline}
use Rattle.wild_outlines.proofs.ClausesGroups.{sections_of_inputs, list_any-mapped, sorted_inputs-outline}
use Rattle.wild_outlines.proofs.SharesFrames.{file_frames-outline, same_by_outlines}
use Rattle.wild_outlines.proofs.SharesTables.{file_table_bytes-outline, slot_share-outline, first_share-outline, relr_got_share-outline}
use Rattle.wild_outlines.proofs.SharesSections.{words_of-outline, counted_for, same_count, SameOutlines, sections_count, sections_changed, entry_size, kept_room}

-- ---- sorted sections

sorted_as : (xs : List Input) → map (λ (x : Input). with_word_order x.section) xs ≡ map with_word_order (sections_of_inputs xs)
sorted_as [] = refl
sorted_as (x ∷ xs) = ap (λ ss. with_word_order x.section ∷ ss) (sorted_as xs)

pub sorted_sections-outline : (l : Layout) → sorted_sections (outline l) ≡ sorted_sections l
sorted_sections-outline l = sorted_as (sorted_inputs (outline l)) ∙ (ap (map with_word_order) (sorted_inputs-outline l l.sorted) ∙ sym (sorted_as (sorted_inputs l)))

pub sorted_words-outline : (l : Layout) → sorted_words (outline l) ≡ sorted_words l
sorted_words-outline l = ap (flat_map (words_of (outline l))) (sorted_sections-outline l) ∙ flat_map-same (words_of (outline l)) (words_of l) (sorted_sections l) (words_of-outline l)

-- ---- one file

-- two files with the same outline, where the second has `new` entries in the part of a role for `old` ones of the first
pub record SameFile (r : Role) (old new : ℕ) (l m : Layout) (f g : File) : Type 0 where
  pub outlines : SameOutlines l m f g
  pub counts : (a : ℕ) → total (counted_for r m) (placed_sections m g a g.sections) + old ≡ total (counted_for r l) (placed_sections l f a f.sections) + new

module _ (l m : Layout) (f g : File) (o : SameOutlines l m f g) where
  pub same_frames : file_frames m g ≡ file_frames l f
  same_frames = same_by_outlines file_frames file_frames-outline l m f g o.layout o.file

  last_sections : (r : Role) (a : ℕ) → total (counted_for r m) (of_last_file (placed_file m a g) (sorted_sections m)) ≡ total (counted_for r l) (of_last_file (placed_file l a f) (sorted_sections l))
  last_sections r a =
      ap (λ (h : File). total (counted_for r m) (if is_epilogue h.role then sorted_sections m else [])) o.file
      ∙ (ap (λ ss. total (counted_for r m) (if is_epilogue f.role then ss else [])) (same_by_outline sorted_sections sorted_sections-outline l m o.layout)
      ∙ total-same (counted_for r m) (counted_for r l) (if is_epilogue f.role then sorted_sections l else []) (same_count r l m o.layout))

  same_copies : length (copies_of g) ≡ length (copies_of f)
  same_copies = ap (λ (h : File). length (copies_of h)) o.file

  same_terminator : (if m.options.terminator then bytes_if_last g.role 4 else 0) ≡ (if l.options.terminator then bytes_if_last f.role 4 else 0)
  same_terminator =
      ap (λ (n : Layout). if n.options.terminator then bytes_if_last g.role 4 else 0) o.layout ∙ ap (λ (h : File). if l.options.terminator then bytes_if_last h.role 4 else 0) o.file

  same_room : (a : ℕ) → frames_room m (placed_file m a g) ≡ frames_room l (placed_file l a f)
  same_room a =
      let here = frames_kept m g a g.sections in
      let there = frames_kept l f a f.sections in
      let frames = same_frames in
      let zeros = same_terminator in
      omega (arith, here, there, frames, zeros)

  same_others : (r : Role) (a : ℕ) → reads_sections r ≡ false → file_table_bytes m r (placed_file m a g) ≡ file_table_bytes l r (placed_file l a f)
  same_others r a h =
      own_stands m a r g h
      ∙ (same_by_outlines (λ n k. file_table_bytes n r k) (λ n k. file_table_bytes-outline n r k h) l m f g o.layout o.file ∙ sym (own_stands l a r f h))

  same_first : (r : Role) → (if is_prelude g.role then first_share m r else 0) ≡ (if is_prelude f.role then first_share l r else 0)
  same_first r =
      ap (λ (h : File). if is_prelude h.role then first_share m r else 0) o.file
      ∙ ap (λ n. if is_prelude f.role then n else 0) (same_by_outline (λ n. first_share n r) (λ n. first_share-outline n r) l m o.layout)

  same_slots : (r : Role) (a : ℕ) → slot_share m r (placed_file m a g) ≡ slot_share l r (placed_file l a f)
  same_slots r a =
      slots_are_placed m a r g
      ∙ (same_by_outlines (λ n k. slot_share n r k) (λ n k. slot_share-outline n r k) l m f g o.layout o.file ∙ sym (slots_are_placed l a r f))

module _ (old new : ℕ) (l m : Layout) (f g : File) where
  processed_count : (r : Role) → SameFile r old new l m f g → (a : ℕ) → total (counted_for r m) (processed_sections m (placed_file m a g)) + old ≡ total (counted_for r l) (processed_sections l (placed_file l a f)) + new
  processed_count r k a =
      let own = k.counts a in
      let last = last_sections l m f g k.outlines r a in
      let here = total-append (counted_for r m) (placed_sections m g a g.sections) (of_last_file (placed_file m a g) (sorted_sections m)) in
      let there = total-append (counted_for r l) (placed_sections l f a f.sections) (of_last_file (placed_file l a f) (sorted_sections l)) in
      omega (arith, own, last, here, there)

  same_general : SameFile role.RelaDynGeneral old new l m f g → (a : ℕ) → general_count m (placed_file m a g) + old ≡ general_count l (placed_file l a f) + new
  unfolding general_count
  same_general k a =
      let copies = same_copies l m f g k.outlines in
      let fields = processed_count role.RelaDynGeneral k a in
      omega (arith, copies, fields)

  same_tables : (r : Role) → SameFile r old new l m f g → (a : ℕ) → file_table_bytes m r (placed_file m a g) + entry_size r * old ≡ file_table_bytes l r (placed_file l a f) + entry_size r * new
  same_tables role.RelaDynRelative k a = let n = processed_count role.RelaDynRelative k a in omega (arith, n)
  same_tables role.RelaDynGeneral k a = let n = same_general k a in omega (arith, n)
  same_tables role.RelrDyn k a = let n = k.counts a in omega (arith, n)
  same_tables role.EhFrame k a = let n = same_room l m f g k.outlines a in omega (arith, n)
  same_tables other k a = let n = same_others l m f g k.outlines other a refl in omega (arith, n)

  pub same_share : (r : Role) → SameFile r old new l m f g → (a : ℕ) → share m r (placed_file m a g) + entry_size r * old ≡ share l r (placed_file l a f) + entry_size r * new
  same_share r k a =
      let first = same_first l m f g k.outlines r in
      let tables = same_tables r k a in
      let slots = same_slots l m f g k.outlines r a in
      omega (arith, first, tables, slots)

-- ---- the files of a group

-- a file in two layouts with the same outline
SameFile-itself : (r : Role) (l m : Layout) (f : File) → outline m ≡ outline l → SameFile r 0 0 l m f f
SameFile-itself r l m f e = record { outlines = record { layout = e; file = refl }; counts = λ a. ap (λ n. n + 0) (sections_count r l m f f (record { layout = e; file = refl }) a f.sections) }

share_itself : (r : Role) (l m : Layout) (f : File) → outline m ≡ outline l → (a : ℕ) → share m r (placed_file m a f) ≡ share l r (placed_file l a f)
share_itself r l m f e a = let n = same_share 0 0 l m f f r (SameFile-itself r l m f e) a in omega (arith, n)

files_same : (r : Role) (l m : Layout) → outline m ≡ outline l → (a : ℕ) (fs : List File) → total (share m r) (placed_from m a fs) ≡ total (share l r) (placed_from l a fs)
files_same r l m e a [] = refl
files_same r l m e a (f ∷ fs) =
    let here = share_itself r l m f e a in
    let rest = files_same r l m e (address_after a (file_frames l f)) fs in
    let move = ap (λ n. total (share m r) (placed_from m (address_after a n) fs)) (same_frames l m f f (record { layout = e; file = refl })) in
    omega (arith, here, rest, move)

-- one file replaced by one with the same outline
files_replaced : (r : Role) (old new : ℕ) (l m : Layout) (v : File → File) → outline m ≡ outline l → (i : ℕ) (fs : List File) (x : File) → slice_get fs i ≡ Some x → SameFile r old new l m x (v x)
    → (a : ℕ) → total (share m r) (placed_from m a (with_item v i fs)) + entry_size r * old ≡ total (share l r) (placed_from l a fs) + entry_size r * new
files_replaced r old new l m v e i [] x at k a = cc
files_replaced r old new l m v e zero (f ∷ fs) x at k a =
    let j : SameFile r old new l m f (v f) = subst (λ (y : File). SameFile r old new l m y (v y)) (sym (some_same at)) k in
    let here = same_share old new l m f (v f) r j a in
    let rest = files_same r l m e (address_after a (file_frames l f)) fs in
    let move = ap (λ n. total (share m r) (placed_from m (address_after a n) fs)) (same_frames l m f (v f) j.outlines) in
    omega (arith, here, rest, move)
files_replaced r old new l m v e (suc i) (f ∷ fs) x at k a =
    let here = share_itself r l m f e a in
    let rest = files_replaced r old new l m v e i fs x at k (address_after a (file_frames l f)) in
    let move = ap (λ n. total (share m r) (placed_from m (address_after a n) (with_item v i fs))) (same_frames l m f f (record { layout = e; file = refl })) in
    omega (arith, here, rest, move)

-- ---- groups

has_last-outline : (g : Group) → has_last (outline_group g) ≡ has_last g
has_last-outline g = list_any-mapped (λ (f : File). is_epilogue f.role) (λ (f : File). is_epilogue f.role) outline_file (λ f. refl) g.files

last_share-outline : (l : Layout) (r : Role) (g : Group) → last_share (outline l) r (outline_group g) ≡ last_share l r g
last_share-outline l role.RelrDyn g = rw (has_last-outline g, sorted_words-outline l) refl
last_share-outline l other g = refl

pub same_by_groups : {X : Type 0} (d : Layout → Group → X) → ((l : Layout) (g : Group) → d (outline l) (outline_group g) ≡ d l g) → (l m : Layout) (g h : Group) → outline m ≡ outline l → outline_group h ≡ outline_group g → d m h ≡ d l g
same_by_groups d h l m f g e k = sym (h m g) ∙ (ap (λ (n : Layout). d n (outline_group g)) e ∙ (ap (d (outline l)) k ∙ h l f))

-- where the frames of a group begin
frames_at-outline : (l : Layout) (g : Group) → frames_at (outline l) (outline_group g) ≡ frames_at l g
frames_at-outline l g = refl

group_same : (r : Role) (l m : Layout) (g : Group) → outline m ≡ outline l → group_share m r g ≡ group_share l r g
unfolding placed_files
group_same r l m g e =
    let at = ap (λ a. total (share m r) (placed_from m a g.files)) (same_by_groups frames_at frames_at-outline l m g g e refl) in
    let files = files_same r l m e (frames_at l g) g.files in
    let block = same_by_groups (λ n k. relr_got_share n r k) (λ n k. relr_got_share-outline n r k) l m g g e refl in
    let last = same_by_groups (λ n k. last_share n r k) (λ n k. last_share-outline n r k) l m g g e refl in
    omega (arith, at, files, block, last)

module _ (l : Layout) (c : Change) (s : InputSection) (p : FoundSection l c s) (n : length c.bytes ≡ length s.bytes) (e : outline (changed_layout l c) ≡ outline l) where
  file_changed : (r : Role) → SameFile r (counted_for r l (written_section l s)) (counted_for r l (written_section l (changed_section c s))) l (changed_layout l c) p.file (changed_file c p.file)
  file_changed r =
      let o : SameOutlines l (changed_layout l c) p.file (changed_file c p.file) = record { layout = e; file = outline_file-changed l c s p n } in
      record { outlines = o; counts = sections_changed r l (changed_layout l c) p.file (changed_file c p.file) c o c.section p.file.sections s p.in_file p.changeable }

  -- what the changed group needs of the part of a role, less the entries of the old section, plus those of the new one
  pub group_replaced : (r : Role) → group_share (changed_layout l c) r (changed_group c p.group) + entry_size r * counted_for r l (written_section l s) ≡ group_share l r p.group + entry_size r * counted_for r l (written_section l (changed_section c s))
  unfolding placed_files
  group_replaced r =
      let m = changed_layout l c in
      let g = p.group in
      let o = outline_group-changed l c s p n in
      let files = files_replaced r (counted_for r l (written_section l s)) (counted_for r l (written_section l (changed_section c s))) l m (changed_file c) e c.file g.files p.file p.in_group (file_changed r) (frames_at l g) in
      let block = same_by_groups (λ n k. relr_got_share n r k) (λ n k. relr_got_share-outline n r k) l m g (changed_group c g) e o in
      let last = same_by_groups (λ n k. last_share n r k) (λ n k. last_share-outline n r k) l m g (changed_group c g) e o in
      omega (arith, files, block, last)

  -- the sum over all groups
  pub total_share-replaced : (r : Role) → total_share (changed_layout l c) r + group_share l r p.group ≡ total_share l r + group_share (changed_layout l c) r (changed_group c p.group)
  total_share-replaced r =
      let m = changed_layout l c in
      let groups = total-with_item (group_share m r) (changed_group c) c.group l.groups p.group p.in_layout in
      let same = total-same (group_share m r) (group_share l r) l.groups (λ g. group_same r l m g e) in
      let old = group_same r l m p.group e in
      omega (arith, groups, same, old)

  -- where the entries need as much as before
  pub group_changed : (r : Role) → entry_size r * counted_for r l (written_section l (changed_section c s)) ≡ entry_size r * counted_for r l (written_section l s) → group_share (changed_layout l c) r (changed_group c p.group) ≡ group_share l r p.group
  group_changed r k = let sum = group_replaced r in omega (arith, sum, k)

  pub total_share-changed : (r : Role) → entry_size r * counted_for r l (written_section l (changed_section c s)) ≡ entry_size r * counted_for r l (written_section l s) → total_share (changed_layout l c) r ≡ total_share l r
  total_share-changed r k =
      let sum = total_share-replaced r in
      let new = group_changed r k in
      omega (arith, sum, new)

  pub needs_of-same : (r : Role) (part : ℕ) (g : Group) → needs_of (changed_layout l c) r part g ≡ needs_of l r part g
  needs_of-same role.Raw part g = refl
  needs_of-same other part g = ap (λ n. min (2 ^ 64 - 1) n) (group_same other l (changed_layout l c) g e)

  pub needs_of-changed : (r : Role) (part : ℕ) → entry_size r * counted_for r l (written_section l (changed_section c s)) ≡ entry_size r * counted_for r l (written_section l s) → needs_of (changed_layout l c) r part (changed_group c p.group) ≡ needs_of l r part p.group
  needs_of-changed role.Raw part k = refl
  needs_of-changed other part k = ap (λ n. min (2 ^ 64 - 1) n) (group_changed other k)

  pub has_spare-changed : (q : Part) → has_spare q (changed_group c p.group) ≡ has_spare q p.group
  has_spare-changed q = ap (λ b. has_role role.Dynamic q && b) (sym (has_last-outline (changed_group c p.group)) ∙ (ap has_last (outline_group-changed l c s p n) ∙ has_last-outline p.group))

-- the same where all these numbers are as before
module _ (l : Layout) (c : Change) (s : InputSection) (p : FoundSection l c s) (n : length c.bytes ≡ length s.bytes) (e : outline (changed_layout l c) ≡ outline l) (k : KeepsCounts l s (changed_section c s)) where
  -- what a group of the layout needs, by its place
  needs_at : (q : Part) (part i : ℕ) (gs : List Group) (x : Group) → slice_get gs i ≡ Some x → x ≡ p.group → (j : ℕ) → needs_by (changed_layout l c) part (Some q) (slice_get (with_item (changed_group c) i gs) j) ≡ needs_by l part (Some q) (slice_get gs j)
  needs_at q part i [] x at is j = refl
  needs_at q part zero (g ∷ gs) x at is zero = ap (λ (y : Group). needs_of (changed_layout l c) q.role part (changed_group c y)) (some_same at ∙ is) ∙ (needs_of-changed l c s p n e q.role part (kept_room q.role l s (changed_section c s) k) ∙ ap (needs_of l q.role part) (sym (some_same at ∙ is)))
  needs_at q part zero (g ∷ gs) x at is (suc j) = by (slice_get gs j)
    where
      by : (o : Option Group) → needs_by (changed_layout l c) part (Some q) o ≡ needs_by l part (Some q) o
      by None = refl
      by (Some y) = needs_of-same l c s p n e q.role part y
  needs_at q part (suc i) (g ∷ gs) x at is zero = needs_of-same l c s p n e q.role part g
  needs_at q part (suc i) (g ∷ gs) x at is (suc j) = needs_at q part i gs x at is j

  needs_for : (part : ℕ) (o : Option Part) (j : ℕ) → needs_by (changed_layout l c) part o (slice_get (changed_layout l c).groups j) ≡ needs_by l part o (slice_get l.groups j)
  needs_for part None j = refl
  needs_for part (Some q) j = needs_at q part c.group l.groups p.group p.in_layout refl j

  pub needs-changed : (part group : ℕ) → needs (changed_layout l c) part group ≡ needs l part group
  unfolding needs
  needs-changed part group = needs_for part (slice_get l.parts part) group

  -- the faults of a part's shares, from group j on
  errors_from : (i : ℕ) (q : Part) (k j : ℕ) (gs : List Group) (x : Group) → slice_get gs k ≡ Some x → x ≡ p.group
      → flat_map_from (λ j (g : Group). share_errors (has_spare q g) i j (given i g) (needs (changed_layout l c) i j)) j (with_item (changed_group c) k gs)
      ≡ flat_map_from (λ j (g : Group). share_errors (has_spare q g) i j (given i g) (needs l i j)) j gs
  errors_from i q k j [] x at is = refl
  errors_from i q zero j (g ∷ gs) x at is = rw (needs-changed i j, spare g (some_same at ∙ is)) (ap (λ es. share_errors (has_spare q g) i j (given i g) (needs l i j) ++ es) (rest (j + 1) gs))
    where
      spare : (y : Group) → y ≡ p.group → has_spare q (changed_group c y) ≡ has_spare q y
      spare y is = ap (λ (z : Group). has_spare q (changed_group c z)) is ∙ (has_spare-changed l c s p n e q ∙ ap (has_spare q) (sym is))

      rest : (j : ℕ) (gs : List Group) → flat_map_from (λ j (g : Group). share_errors (has_spare q g) i j (given i g) (needs (changed_layout l c) i j)) j gs ≡ flat_map_from (λ j (g : Group). share_errors (has_spare q g) i j (given i g) (needs l i j)) j gs
      rest j [] = refl
      rest j (g ∷ gs) = rw (needs-changed i j) (ap (λ es. share_errors (has_spare q g) i j (given i g) (needs l i j) ++ es) (rest (j + 1) gs))
  errors_from i q (suc k) j (g ∷ gs) x at is = rw (needs-changed i j) (ap (λ es. share_errors (has_spare q g) i j (given i g) (needs l i j) ++ es) (errors_from i q k (j + 1) gs x at is))

  pub part_errors-changed : (i : ℕ) (q : Part) → part_errors (changed_layout l c) i q ≡ part_errors l i q
  part_errors-changed i q = errors_from i q c.group 0 l.groups p.group p.in_layout refl

pub shares_kept : (l : Layout) (c : Change) (s : InputSection) → found_section l c ≡ Some s → length c.bytes ≡ length s.bytes → KeepsCounts l s (changed_section c s) → KeepsShares l (changed_layout l c)
shares_kept l c s found n k =
    let p = FoundSection-from_found l c s found in
    let e = outline-changed l c s found n in
    record { needs = needs-changed l c s p n e k; total = λ r. total_share-changed l c s p n e r (kept_room r l s (changed_section c s) k); errors = part_errors-changed l c s p n e k }
