-- Sections of frames stand in the part of frames one behind the other, where their addresses tell.
use Rattle.wild_loaded.proofs.Common.{◌≡◌, ℕ, zero, suc, ◌+◌, ◌-◌, ◌%◌, ◌^◌, ◌<◌, ◌≤◌, ◌⊎◌, inl, inr, Bool, true, false, if◌then◌else◌, List, [], ◌∷◌, ◌++◌, length, take, get_or, refl, sym, ap, ◌∙◌, arith, subst, All, AllPairs, Contains, Option, Some, None, slice_get, not, ◌&&◌, ◌==◌, map, ⊤, flat_map, cases_Bool, and_parts, ne_eqb, length-append, append-nil, All-nil, All-cons, All-head, All-tail, All-append, All-weaker, All-contains, HasBytesAt, AllPairs-nil, AllPairs-append, All-append-left, All-flat_map, All-append-right, flat_map-same, Part, Slot, InputSection, File, Group, Layout, item_of, is_epilogue, is_prelude, is_frame, is_read, part_with, placed_file, placed_files, sorted_inputs, sorted_sections, of_last_file, processed_sections, start_of, address_of_part, content, file_content, SectionLies, IsLaidOut, table_bytes, all_sections, IsLocatedAt}
use Rattle.wild_words.proofs.RecordLemmas.{HasBytesAt-front, HasBytesAt-after, HasBytesAt-whole}
use Rattle.wild_types.specs.declared.part.Role.TheVariants as role
use Rattle.wild_types.specs.declared.input.Slot.TheVariants as slot
use Rattle.wild_types.specs.FilePlaces.{later_positions_fit, group_positions_fit, first_misplaced_file, bool_eq, file_position_fits}
use Rattle.wild_types.specs.Lists.{total}
use Rattle.wild_types.proofs.LookupLemmas.{read_if}
use Rattle.wild_frames.specs.Frames.{frame_bytes}
use Rattle.wild_placement.specs.ReversedWords.{reversed_section, with_word_order}
use Rattle.wild_placement.specs.FrameInputs.{frames_of, kept_size}
use Rattle.wild_placement.specs.PlacedSections.{Input, placed_frames, placed_by, placed_section, placed_sections, placed_from, file_frames, frames_at, address_after, part_address, sorted_by, sorted_in_file, sorted_in_group, files_at, sorted_input, as_loaded}
use Rattle.wild_layout.specs.Content.{frame_bytes_of, frames_bytes, end_of_frames}
use Rattle.wild_layout.specs.Sites.{item_bytes}
use Rattle.wild_layout.specs.Geometry.{EachSection}
use Rattle.wild_layout.specs.TablePlaces.{bytes_before}
use Rattle.wild_geometry.proofs.SiteLemmas.{length-section_bytes}
use Rattle.wild_geometry.proofs.FrameSizes.{HasKeptSize, NoFrame, Frames, turned_slot, placed_section_has_kept_size, frame_item, no_item, length-frame_item, IsLoadedInput, sorted_loaded, group_given}
use Rattle.wild_geometry.proofs.PlacedInputs.{sections_of}
use Rattle.wild_layout.proofs.SiteLemmas.{All-one}
use Rattle.wild_types.specs.declared.layout.SortedSection.{SortedSection}
use Rattle.wild_loaded.proofs.TableRanges.{table_ends}

-- ---- runs of frames

-- the one ends where the other begins, or before
abbrev pub FramesBeside : InputSection → InputSection → Type 0
FramesBeside s t = is_frame s.slot ≡ true → is_frame t.slot ≡ true → s.address + s.size ≤ t.address

abbrev pub FrameWithin : ℕ → ℕ → InputSection → Type 0
FrameWithin low high t = is_frame t.slot ≡ true → (low ≤ t.address) × (t.address + t.size ≤ high)

-- the sections of frames of a list stand between two addresses, one behind the other
pub record InRun (low high : ℕ) (ts : List InputSection) : Type 0 where
  pub within : All (FrameWithin low high) ts
  pub beside : AllPairs FramesBeside ts

run_nil : (low high : ℕ) → InRun low high []
run_nil low high = record { within = All-nil (FrameWithin low high); beside = AllPairs-nil FramesBeside }

run_wider : (a b low high : ℕ) (ts : List InputSection) → a ≤ low → high ≤ b → InRun low high ts → InRun a b ts
run_wider a b low high ts from to h = record {
  within = All-weaker (FrameWithin low high) (FrameWithin a b) (λ t w e. (let x = w e in let p = x.0 in let q = x.1 in (omega (arith, from, p), omega (arith, to, q)))) ts h.within;
  beside = h.beside;
}

run_append : (low mid high : ℕ) (ss ts : List InputSection) → low ≤ mid → mid ≤ high → InRun low mid ss → InRun mid high ts → InRun low high (ss ++ ts)
run_append low mid high ss ts up on a b = record {
  within = All-append (FrameWithin low high) ss ts (run_wider low high low mid ss (omega arith) on a).within (run_wider low high mid high ts up (omega arith) b).within;
  beside = AllPairs-append FramesBeside ss ts a.beside b.beside (λ k d lt. (λ i e m. (λ x y. (let p = (a.within k d lt x).1 in let q = (b.within i e m y).0 in omega (arith, p, q)))));
}

-- ---- the sections of a file

-- a section of frames stands in bytes that begin at an address
pub record FrameStands (l : Layout) (f : File) (base : ℕ) (whole : List ℕ) (t : InputSection) : Type 0 where
  pub from : base ≤ t.address
  pub stands : HasBytesAt whole (t.address - base) (item_bytes l (item_of l f t))

abbrev pub EachFrame : Layout → File → ℕ → List ℕ → InputSection → Type 0
EachFrame l f base whole t = is_frame t.slot ≡ true → FrameStands l f base whole t

-- all that is known of the frames of sections
pub record FramesLie (l : Layout) (f : File) (base : ℕ) (whole : List ℕ) (at n : ℕ) (ts : List InputSection) : Type 0 where
  pub size : length (flat_map (frame_bytes_of l f) ts) ≡ n
  pub each : All (EachFrame l f base whole) ts
  pub run : InRun at (at + n) ts

one_section : (l : Layout) (f : File) (base : ℕ) (whole : List ℕ) (at n : ℕ) (t : InputSection) (ts : List InputSection) (rest : ℕ) → base ≤ at → SectionLies l t → HasKeptSize t at n → HasBytesAt whole (at - base) (frame_bytes_of l f t ++ flat_map (frame_bytes_of l f) ts) → (HasBytesAt whole (at + n - base) (flat_map (frame_bytes_of l f) ts) → FramesLie l f base whole (at + n) rest ts) → FramesLie l f base whole at (n + rest) (t ∷ ts)
one_section l f base whole at n t ts rest up lies (NoFrame plain none) st again =
    let nothing = no_item l f t plain in
    let later = again (subst (λ (bs : List ℕ). HasBytesAt whole (at + n - base) (bs ++ flat_map (frame_bytes_of l f) ts)) nothing (subst (λ (k : ℕ). HasBytesAt whole (k - base) (frame_bytes_of l f t ++ flat_map (frame_bytes_of l f) ts)) (omega (arith, none)) st)) in
    let long = later.size in
    let absent : is_frame t.slot ≡ true → ⊥ = λ e. (let both : true ≡ false = sym e ∙ plain in cc) in
    record {
      size = ap (λ (bs : List ℕ). length (bs ++ flat_map (frame_bytes_of l f) ts)) nothing ∙ omega (arith, long, none);
      each = All-cons (EachFrame l f base whole) t ts (λ e. absurd (absent e)) later.each;
      run = record {
        within = All-cons (FrameWithin at (at + (n + rest))) t ts (λ e. absurd (absent e)) (run_wider at (at + (n + rest)) (at + n) (at + n + rest) ts (omega arith) (omega arith) later.run).within;
        beside = AllPairs-append FramesBeside (t ∷ []) ts (λ i j d lt m. absurd (omega (arith, lt, m))) later.run.beside (λ k d lt. (λ i e m. (λ x y. absurd (absent (first k d lt x)))));
      };
    }
  where
    first : (k : ℕ) (d : InputSection) → k < 1 → is_frame (get_or (t ∷ []) k d).slot ≡ true → is_frame t.slot ≡ true
    first zero d lt x = x
    first (suc k) d lt x = absurd (omega (arith, lt))
one_section l f base whole at n t ts rest up lies (Frames frame with_data here wide) st again =
    let long = length-frame_item l f t lies frame with_data in
    let size : length (frame_bytes_of l f t) ≡ n = long ∙ wide in
    let mine = HasBytesAt-front whole (frame_bytes_of l f t) (flat_map (frame_bytes_of l f) ts) (at - base) st in
    let next = HasBytesAt-after whole (frame_bytes_of l f t) (flat_map (frame_bytes_of l f) ts) (at - base) n size st in
    let later = again (subst (λ (k : ℕ). HasBytesAt whole k (flat_map (frame_bytes_of l f) ts)) (omega (arith, up)) next) in
    let all = later.size in
    let both = length-append (frame_bytes_of l f t) (flat_map (frame_bytes_of l f) ts) in
    let item = subst (λ (bs : List ℕ). HasBytesAt whole (at - base) bs) (frame_item l f t frame) mine in
    let there = subst (λ (k : ℕ). HasBytesAt whole (k - base) (item_bytes l (item_of l f t))) (sym here) item in
    record {
      size = omega (arith, both, size, all);
      each = All-cons (EachFrame l f base whole) t ts (λ e. record { from = omega (arith, here, up); stands = there }) later.each;
      run = run_append at (at + n) (at + (n + rest)) (t ∷ []) ts (omega arith) (omega arith)
          (record {
            within = All-cons (FrameWithin at (at + n)) t [] (λ e. (omega (arith, here), omega (arith, here, wide))) (All-nil (FrameWithin at (at + n)));
            beside = λ i j d lt m. absurd (omega (arith, lt, m));
          })
          (run_wider (at + n) (at + (n + rest)) (at + n) (at + n + rest) ts (omega arith) (omega arith) later.run);
    }

pub sections_lie : (l : Layout) (f g : File) (base : ℕ) (whole : List ℕ) (at : ℕ) (ss : List InputSection) → base ≤ at → at + length (flat_map (frame_bytes_of l f) (placed_sections l g at ss)) ≤ 2 ^ 62 → All (SectionLies l) (placed_sections l g at ss) → HasBytesAt whole (at - base) (flat_map (frame_bytes_of l f) (placed_sections l g at ss)) → FramesLie l f base whole at (total (kept_size l g) ss) (placed_sections l g at ss)
sections_lie l f g base whole at [] up low lies st = record { size = refl; each = All-nil (EachFrame l f base whole); run = run_nil at (at + 0) }
sections_lie l f g base whole at (s ∷ ss) up low lies st =
    let t = placed_section l g at s in
    let n = kept_size l g s in
    let so = placed_section_has_kept_size l g at s in
    let next = address_after at n in
    let mine = All-head (SectionLies l) t (placed_sections l g next ss) lies in
    let both = length-append (frame_bytes_of l f t) (flat_map (frame_bytes_of l f) (placed_sections l g next ss)) in
    let few = at_most l f t at n mine so in
    let on : next ≡ at + n = (omega (arith, low, both, few)) in
    one_section l f base whole at n t (placed_sections l g next ss) (total (kept_size l g) ss) up mine so st
    (λ there. subst (λ (k : ℕ). FramesLie l f base whole k (total (kept_size l g) ss) (placed_sections l g next ss)) on
    (sections_lie l f g base whole next ss (omega (arith, on, up)) (omega (arith, on, both, few, low)) (All-tail (SectionLies l) t (placed_sections l g next ss) lies)
    (subst (λ (k : ℕ). HasBytesAt whole (k - base) (flat_map (frame_bytes_of l f) (placed_sections l g next ss))) (sym on) there)))
  where
    at_most : (l : Layout) (f : File) (t : InputSection) (at n : ℕ) → SectionLies l t → HasKeptSize t at n → n ≡ length (frame_bytes_of l f t)
    at_most l f t at n lies (NoFrame plain none) = none ∙ sym (ap (λ (bs : List ℕ). length bs) (no_item l f t plain))
    at_most l f t at n lies (Frames frame with_data here wide) = sym wide ∙ sym (length-frame_item l f t lies frame with_data)

-- ---- files

abbrev IsNoFrame : InputSection → Type 0
IsNoFrame t = is_frame t.slot ≡ false

no_frames : (l : Layout) (f : File) → All IsNoFrame (of_last_file f (sorted_sections l))
no_frames l f = by_role (is_epilogue f.role)
  where
    each : (xs : List Input) → All IsLoadedInput xs → All IsNoFrame (map (λ (x : Input). with_word_order x.section) xs)
    each [] a = All-nil IsNoFrame
    each (x ∷ xs) a = All-cons IsNoFrame (with_word_order x.section) (map (λ (y : Input). with_word_order y.section) xs) (ap is_frame (turned_slot x.section ∙ All-head IsLoadedInput x xs a)) (each xs (All-tail IsLoadedInput x xs a))

    by_role : (b : Bool) → All IsNoFrame (if b then sorted_sections l else [])
    by_role true = each (sorted_inputs l) (sorted_loaded l)
    by_role false = All-nil IsNoFrame

-- a sorted section is none of frames
pub never_framed : (l : Layout) (x : Input) (s : InputSection) → Contains (sorted_inputs l) x → s ≡ with_word_order x.section → is_frame s.slot ≡ true → ⊥
never_framed l x s c i frame =
    let loaded = All-contains IsLoadedInput (sorted_inputs l) x (sorted_loaded l) c in
    let plain : is_frame s.slot ≡ false = ap (λ (t : InputSection). is_frame t.slot) i ∙ ap is_frame (turned_slot x.section ∙ loaded) in
    let both : true ≡ false = sym frame ∙ plain in
    cc

run_none : (low high : ℕ) (ts : List InputSection) → All IsNoFrame ts → InRun low high ts
run_none low high ts none = record {
  within = λ k d m. (λ e. absurd (no (get_or ts k d) (none k d m) e));
  beside = λ i j d lt m. (λ x y. absurd (no (get_or ts j d) (none j d m) y));
}
  where
    no : (t : InputSection) → is_frame t.slot ≡ false → is_frame t.slot ≡ true → ⊥
    no t f e = (let both : true ≡ false = sym e ∙ f in cc)

-- the files behind the first are behind no last one
abbrev pub LastAlone : List File → Type 0
LastAlone [] = ⊤
LastAlone (f ∷ []) = ⊤
LastAlone (f ∷ (g ∷ gs)) = (is_epilogue f.role ≡ false) × LastAlone (g ∷ gs)

-- what is known of the frames of files
pub record FilesLie (l : Layout) (base : ℕ) (whole : List ℕ) (low high : ℕ) (fs : List File) : Type 0 where
  pub each : All (λ (f : File). All (EachFrame l f base whole) f.sections) fs
  pub run : InRun low high (flat_map (processed_sections l) fs)

frames_then_end : (l : Layout) (f : File) → frames_bytes l f ≡ flat_map (frame_bytes_of l f) f.sections ++ of_last_file f (end_of_frames l)
unfolding frames_bytes
frames_then_end l f = refl

-- the frames of one file
file_lies : (l : Layout) (f : File) (base : ℕ) (whole : List ℕ) (at : ℕ) → base ≤ at → at + length (frames_bytes l (placed_file l at f)) ≤ 2 ^ 62 → All (SectionLies l) (processed_sections l (placed_file l at f)) → HasBytesAt whole (at - base) (frames_bytes l (placed_file l at f)) → FramesLie l (placed_file l at f) base whole at (file_frames l f) (placed_file l at f).sections
file_lies l f base whole at up low lies st =
    let g = placed_file l at f in
    let e = frames_then_end l g in
    let long = length-append (flat_map (frame_bytes_of l g) g.sections) (of_last_file g (end_of_frames l)) in
    let le = ap (λ (bs : List ℕ). length bs) e in
    sections_lie l g f base whole at f.sections up (omega (arith, le, long, low)) (All-append-left (SectionLies l) g.sections (of_last_file g (sorted_sections l)) lies)
    (HasBytesAt-front whole (flat_map (frame_bytes_of l g) g.sections) (of_last_file g (end_of_frames l)) (at - base) (subst (λ (bs : List ℕ). HasBytesAt whole (at - base) bs) e st))

file_run : (l : Layout) (f : File) (low high : ℕ) → low ≤ high → InRun low high f.sections → InRun low high (processed_sections l f)
file_run l f low high up h = run_append low high high f.sections (of_last_file f (sorted_sections l)) up (omega arith) h (run_none high high (of_last_file f (sorted_sections l)) (no_frames l f))

abbrev EachOf : Layout → ℕ → List ℕ → File → Type 0
EachOf l base whole f = All (EachFrame l f base whole) f.sections

abbrev LiesWell : Layout → File → Type 0
LiesWell l f = All (SectionLies l) (processed_sections l f)

files_step : (l : Layout) (f : File) (fs : List File) (base : ℕ) (whole : List ℕ) (at : ℕ) → FramesLie l (placed_file l at f) base whole at (file_frames l f) (placed_file l at f).sections → file_frames l f ≤ length (frames_bytes l (placed_file l at f)) → FilesLie l base whole (at + length (frames_bytes l (placed_file l at f))) (at + length (frames_bytes l (placed_file l at f)) + length (flat_map (frames_bytes l) fs)) fs → FilesLie l base whole at (at + length (flat_map (frames_bytes l) (placed_file l at f ∷ fs))) (placed_file l at f ∷ fs)
files_step l f fs base whole at mine most later =
    let g = placed_file l at f in
    let n = file_frames l f in
    let k = length (frames_bytes l g) in
    let both = length-append (frames_bytes l g) (flat_map (frames_bytes l) fs) in
    let high = at + length (flat_map (frames_bytes l) (g ∷ fs)) in
    record {
      each = All-cons (EachOf l base whole) g fs mine.each later.each;
      run = run_append at (at + k) high (processed_sections l g) (flat_map (processed_sections l) fs) (omega arith) (omega (arith, both))
          (run_wider at (at + k) at (at + n) (processed_sections l g) (omega arith) (omega (arith, most)) (file_run l g at (at + n) (omega arith) mine.run))
          (run_wider (at + k) high (at + k) (at + k + length (flat_map (frames_bytes l) fs)) (flat_map (processed_sections l) fs) (omega arith) (omega (arith, both)) later.run);
    }

-- how many bytes a file gives
gives_most : (l : Layout) (f : File) (base : ℕ) (whole : List ℕ) (at : ℕ) → FramesLie l (placed_file l at f) base whole at (file_frames l f) (placed_file l at f).sections → file_frames l f ≤ length (frames_bytes l (placed_file l at f))
gives_most l f base whole at mine =
    let g = placed_file l at f in
    let size = mine.size in
    let both = length-append (flat_map (frame_bytes_of l g) g.sections) (of_last_file g (end_of_frames l)) in
    let e = ap (λ (bs : List ℕ). length bs) (frames_then_end l g) in
    omega (arith, size, both, e)

gives_just : (l : Layout) (f : File) (base : ℕ) (whole : List ℕ) (at : ℕ) → FramesLie l (placed_file l at f) base whole at (file_frames l f) (placed_file l at f).sections → is_epilogue f.role ≡ false → length (frames_bytes l (placed_file l at f)) ≡ file_frames l f
gives_just l f base whole at mine other =
    let g = placed_file l at f in
    let none : of_last_file g (end_of_frames l) ≡ [] = ap (λ (b : Bool). if b then end_of_frames l else []) other in
    let size = mine.size in
    let both = length-append (flat_map (frame_bytes_of l g) g.sections) (of_last_file g (end_of_frames l)) in
    let nothing = ap (λ (bs : List ℕ). length bs) none in
    let e = ap (λ (bs : List ℕ). length bs) (frames_then_end l g) in
    omega (arith, size, both, e, nothing)

files_lie : (l : Layout) (base : ℕ) (whole : List ℕ) (at : ℕ) (fs : List File) → base ≤ at → at + length (flat_map (frames_bytes l) (placed_from l at fs)) ≤ 2 ^ 62 → LastAlone fs → All (LiesWell l) (placed_from l at fs) → HasBytesAt whole (at - base) (flat_map (frames_bytes l) (placed_from l at fs)) → FilesLie l base whole at (at + length (flat_map (frames_bytes l) (placed_from l at fs))) (placed_from l at fs)
files_lie l base whole at [] up low alone lies st = record { each = All-nil (EachOf l base whole); run = run_nil at (at + 0) }
files_lie l base whole at (f ∷ []) up low alone lies st =
    let g = placed_file l at f in
    let both = length-append (frames_bytes l g) [] in
    let mine = file_lies l f base whole at up (omega (arith, low, both)) (All-head (LiesWell l) g [] lies) (HasBytesAt-front whole (frames_bytes l g) [] (at - base) st) in
    files_step l f [] base whole at mine (gives_most l f base whole at mine) (record { each = All-nil (EachOf l base whole); run = run_nil (at + length (frames_bytes l g)) (at + length (frames_bytes l g) + 0) })
files_lie l base whole at (f ∷ (h ∷ hs)) up low alone lies st =
    let g = placed_file l at f in
    let n = file_frames l f in
    let next = address_after at n in
    let fs = placed_from l next (h ∷ hs) in
    let both = length-append (frames_bytes l g) (flat_map (frames_bytes l) fs) in
    let mine = file_lies l f base whole at up (omega (arith, low, both)) (All-head (LiesWell l) g fs lies) (HasBytesAt-front whole (frames_bytes l g) (flat_map (frames_bytes l) fs) (at - base) st) in
    let just = gives_just l f base whole at mine alone.0 in
    let on : next ≡ at + length (frames_bytes l g) = omega (arith, low, both, just) in
    let there = HasBytesAt-after whole (frames_bytes l g) (flat_map (frames_bytes l) fs) (at - base) n just st in
    let later = files_lie l base whole next (h ∷ hs) (omega (arith, on, up)) (omega (arith, on, low, both)) alone.1 (All-tail (LiesWell l) g fs lies) (subst (λ (k : ℕ). HasBytesAt whole k (flat_map (frames_bytes l) fs)) (omega (arith, on, up, just)) there) in
    files_step l f fs base whole at mine (gives_most l f base whole at mine) (subst (λ (k : ℕ). FilesLie l base whole k (k + length (flat_map (frames_bytes l) fs)) fs) on later)

-- ---- groups

abbrev EachIn : Layout → ℕ → List ℕ → Group → Type 0
EachIn l base whole g = All (EachOf l base whole) (placed_files l g)

abbrev GroupLies : Layout → Group → Type 0
GroupLies l g = All (LiesWell l) (placed_files l g)

abbrev given_frames : Layout → Group → ℕ
given_frames l g = length (content l role.EhFrame g)

pub record GroupsLie (l : Layout) (base : ℕ) (whole : List ℕ) (low high : ℕ) (gs : List Group) : Type 0 where
  pub each : All (EachIn l base whole) gs
  pub run : InRun low high (flat_map (sections_of l) gs)

group_lies : (l : Layout) (base : ℕ) (whole : List ℕ) (before : ℕ) (g : Group) → frames_at l g ≡ base + before → base + before + given_frames l g ≤ 2 ^ 62 → LastAlone g.files → GroupLies l g → HasBytesAt whole before (content l role.EhFrame g) → FilesLie l base whole (base + before) (base + before + given_frames l g) (placed_files l g)
unfolding placed_files
group_lies l base whole before g at low alone lies st =
    let fs = placed_from l (frames_at l g) g.files in
    let e : content l role.EhFrame g ≡ flat_map (frames_bytes l) fs = group_given l g in
    let long = ap (λ (bs : List ℕ). length bs) e in
    let here = subst (λ (bs : List ℕ). HasBytesAt whole before bs) e st in
    let all = files_lie l base whole (frames_at l g) g.files (omega (arith, at)) (omega (arith, at, low, long)) alone lies (subst (λ (k : ℕ). HasBytesAt whole k (flat_map (frames_bytes l) fs)) (omega (arith, at)) here) in
    let to : frames_at l g + length (flat_map (frames_bytes l) fs) ≡ base + before + given_frames l g = omega (arith, at, long) in
    subst (λ (k : ℕ). FilesLie l base whole k (base + before + given_frames l g) fs) at (subst (λ (k : ℕ). FilesLie l base whole (frames_at l g) k fs) to all)

abbrev pub part_base : Layout → ℕ
part_base l = part_address (part_with role.EhFrame l.parts)

groups_lie : (l : Layout) (whole : List ℕ) (before : ℕ) (gs : List Group) → part_base l + before + length (flat_map (content l role.EhFrame) gs) ≤ 2 ^ 62 → All (λ (g : Group). LastAlone g.files) gs → All (GroupLies l) gs → ((j : ℕ) (g : Group) → slice_get gs j ≡ Some g → g.eh_frame_start ≡ before + total (given_frames l) (take j gs)) → HasBytesAt whole before (flat_map (content l role.EhFrame) gs) → GroupsLie l (part_base l) whole (part_base l + before) (part_base l + before + length (flat_map (content l role.EhFrame) gs)) gs
groups_lie l whole before [] low alone lies starts st = record { each = All-nil (EachIn l (part_base l) whole); run = run_nil (part_base l + before) (part_base l + before + 0) }
groups_lie l whole before (g ∷ gs) low alone lies starts st =
    let base = part_base l in
    let n = given_frames l g in
    let both = length-append (content l role.EhFrame g) (flat_map (content l role.EhFrame) gs) in
    let high = base + before + length (flat_map (content l role.EhFrame) (g ∷ gs)) in
    let start = starts 0 g refl in
    let at : frames_at l g ≡ base + before = omega (arith, start, low) in
    let mine = group_lies l base whole before g at (omega (arith, low, both)) (All-head (λ (x : Group). LastAlone x.files) g gs alone) (All-head (GroupLies l) g gs lies) (HasBytesAt-front whole (content l role.EhFrame g) (flat_map (content l role.EhFrame) gs) before st) in
    let there = HasBytesAt-after whole (content l role.EhFrame g) (flat_map (content l role.EhFrame) gs) before n refl st in
    let later = groups_lie l whole (before + n) gs (omega (arith, low, both)) (All-tail (λ (x : Group). LastAlone x.files) g gs alone) (All-tail (GroupLies l) g gs lies) (λ j h e. (let s = starts (suc j) h e in omega (arith, s))) there in
    record {
      each = All-cons (EachIn l base whole) g gs mine.each later.each;
      run = run_append (base + before) (base + before + n) high (sections_of l g) (flat_map (sections_of l) gs) (omega arith) (omega (arith, both)) mine.run
          (run_wider (base + before + n) high (base + (before + n)) (base + (before + n) + length (flat_map (content l role.EhFrame) gs)) (flat_map (sections_of l) gs) (omega arith) (omega (arith, both)) later.run);
    }

-- ---- the layout

not_last : (first last : Bool) (f g : File) (gs : List File) → file_position_fits first (last && length (g ∷ gs) == 0) f ≡ true → is_epilogue f.role ≡ false
not_last first last f g gs h = by (is_epilogue f.role) (none last (length (g ∷ gs) == 0) (ne_eqb (length (g ∷ gs)) 0 (λ e. omega (arith, e))) (and_parts (bool_eq (is_prelude f.role) first) (bool_eq (is_epilogue f.role) (last && length (g ∷ gs) == 0)) h).1)
  where
    none : (last b : Bool) → b ≡ false → bool_eq (is_epilogue f.role) (last && b) ≡ true → bool_eq (is_epilogue f.role) false ≡ true
    none true b e h = subst (λ (x : Bool). bool_eq (is_epilogue f.role) x ≡ true) e h
    none false b e h = h

    by : (b : Bool) → bool_eq b false ≡ true → b ≡ false
    by true h = cc
    by false h = refl

later_alone : (last : Bool) (fs : List File) → later_positions_fit last fs ≡ true → LastAlone fs
later_alone last [] h = tt
later_alone last (f ∷ []) h = tt
later_alone last (f ∷ (g ∷ gs)) h =
    let parts = and_parts (file_position_fits false (last && length (g ∷ gs) == 0) f) (later_positions_fit last (g ∷ gs)) h in
    (not_last false last f g gs parts.0, later_alone last (g ∷ gs) parts.1)

pub placed_alone : (first last : Bool) (fs : List File) → group_positions_fit first last fs ≡ true → LastAlone fs
placed_alone first last [] h = tt
placed_alone first last (f ∷ []) h = tt
placed_alone first last (f ∷ (g ∷ gs)) h =
    let parts = and_parts (file_position_fits first (last && length (g ∷ gs) == 0) f) (later_positions_fit last (g ∷ gs)) h in
    (not_last first last f g gs parts.0, later_alone last (g ∷ gs) parts.1)

pub groups_alone : (first : Bool) (i : ℕ) (gs : List Group) → first_misplaced_file first i gs ≡ None → All (λ (g : Group). LastAlone g.files) gs
groups_alone first i [] h = All-nil (λ (g : Group). LastAlone g.files)
groups_alone first i (g ∷ gs) h =
    elim (cases_Bool (group_positions_fit first (length gs == 0) g.files)) [
      | inl t ↦ All-cons (λ (x : Group). LastAlone x.files) g gs (placed_alone first (length gs == 0) g.files t) (groups_alone false (i + 1) gs (rw t at h))
      | inr f ↦ absurd (let no : Some i ≡ None = rw f at h in cc)
    ]

-- the frames of a layout stand in its part of frames
pub frames_lie : (l : Layout) → IsLaidOut l → GroupsLie l (part_base l) (table_bytes l role.EhFrame) (part_base l) (part_base l + length (table_bytes l role.EhFrame)) l.groups
frames_lie l laid =
    let ends = table_ends l role.EhFrame refl laid in
    let start : start_of l role.EhFrame ≡ part_base l = base_is (part_with role.EhFrame l.parts) in
    let top = ends.1 in
    let zero' : part_base l + 0 ≡ part_base l = omega arith in
    let all = groups_lie l (table_bytes l role.EhFrame) 0 l.groups (omega (arith, top, start)) (groups_alone true 0 l.groups laid.files) laid.inputs (λ j g e. (let s : g.eh_frame_start ≡ total (given_frames l) (take j l.groups) = laid.frame_starts j g e in omega (arith, s))) (HasBytesAt-whole (table_bytes l role.EhFrame)) in
    subst (λ (k : ℕ). GroupsLie l (part_base l) (table_bytes l role.EhFrame) k (k + length (table_bytes l role.EhFrame)) l.groups) zero' all
  where
    base_is : (o : Option Part) → address_of_part o ≡ part_address o
    base_is None = refl
    base_is (Some p) = refl

-- so each stands where its address tells
pub frames_stand : (l : Layout) (g : Group) (f : File) (s : InputSection) → IsLaidOut l → Contains l.groups g → Contains (placed_files l g) f → Contains f.sections s → is_frame s.slot ≡ true → IsLocatedAt l role.EhFrame s.address (item_bytes l (item_of l f s))
frames_stand l g f s laid cg cf cs frame =
    let whole = table_bytes l role.EhFrame in
    let h = frames_lie l laid in
    let each = All-contains (EachFrame l f (part_base l) whole) f.sections s (All-contains (EachOf l (part_base l) whole) (placed_files l g) f (All-contains (EachIn l (part_base l) whole) l.groups g h.each cg) cf) cs frame in
    let start : start_of l role.EhFrame ≡ part_base l = base_is (part_with role.EhFrame l.parts) in
    let from = each.from in
    let fits = each.stands.fits in
    record {
      from = omega (arith, start, from);
      to = omega (arith, start, from, fits);
      stands = subst (λ (k : ℕ). HasBytesAt whole (s.address - k) (item_bytes l (item_of l f s))) (sym start) each.stands;
    }
  where
    base_is : (o : Option Part) → address_of_part o ≡ part_address o
    base_is None = refl
    base_is (Some p) = refl

-- and no two of them share a byte
pub frames_beside : (l : Layout) → IsLaidOut l → AllPairs FramesBeside (all_sections l)
frames_beside l laid = (frames_lie l laid).run.beside
