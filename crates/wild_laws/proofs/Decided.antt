-- In a layout without faults each section that is read and written is decided, as it stands.
use Rattle.wild_geometry.proofs.ReadLemmas.{read_fields, read_written, read_plain}
use Rattle.wild_placement.proofs.PlainLemmas.{unread_linked}
use Rattle.wild_types.specs.Kinds.{is_partial_link}
use Rattle.wild_laws.proofs.Common.{and_parts, ◌≡◌, ℕ, zero, suc, ◌+◌, ◌<◌, Bool, true, false, List, [], ◌∷◌, length, get_or, refl, sym, ap, ◌∙◌, arith, subst, Option, Some, None, Result, Ok, Err, All, Contains, slice_get, if◌then◌else◌, All-contains, InputRelocation, InputSection, Layout, Item, IsLaidOut}
use Rattle.std.specs.List.{flat_map, range_with_len}
use Rattle.std.proofs.lemmas.List.Elements.{All-nil, All-cons, All-head, All-tail}
use Rattle.wild_words.proofs.Basics.{slice_get_inside, range-Contains, Contains-from_flat_map}
use Rattle.wild_words.proofs.ListLemmas.{nil_parts, All-append-left}
use Rattle.wild_types.specs.declared.fault.At.{At}
use Rattle.wild_types.specs.declared.fault.Error.{Error}
use Rattle.wild_types.specs.declared.fault.Fault.{Fault}
use Rattle.wild_types.specs.declared.input.Slot.TheVariants as slot
use Rattle.wild_types.specs.declared.file.File.{File}
use Rattle.wild_types.specs.declared.file.Group.{Group}
use Rattle.wild_types.specs.Item.{item_of, block_for}
use Rattle.wild_types.specs.FileRoles.{is_epilogue}
use Rattle.wild_types.specs.HeaderOnly.{is_omitted}
use Rattle.wild_types.specs.Lookups.{is_read, is_counted, is_frame}
use Rattle.wild_placement.specs.ReversedWords.{with_word_order, reversed_section}
use Rattle.wild_placement.specs.FrameInputs.{frames_of, kept_size}
use Rattle.wild_placement.specs.PlacedSections.{Input, placed_section, placed_sections, placed_file, placed_from, placed_files, file_frames, frames_at, address_after, sorted_input, sorted_inputs, sorted_sections, of_last_file, processed_sections, as_loaded, kept_relocations, origins_of, unread}
use Rattle.wild_layout.specs.declared.decision.Decision.{Decision}
use Rattle.wild_layout.specs.Decide.{decide}
use Rattle.wild_layout.specs.Sites.{MovesApart}
use Rattle.wild_layout.specs.Faults.{flat_map_from, group_errors, file_errors, files_errors, sections_errors, section_errors, placed_section_errors, item_errors, sorted_errors, sorted_errors_of, bad_frames, refusal_of, refusal_at, relocation_errors, at_offset}
use Rattle.wild_layout.specs.SectionPlaces.{FieldLies, SectionLies, HasWords}
use Rattle.wild_layout.proofs.SiteLemmas.{sites_apart}
use Rattle.wild_layout.proofs.MovedSites.{placed_section_moves, turned_or_stays}
use Rattle.wild_layout.proofs.FaultLemmas.{no_overlap, sections_of_file, sorted_of_file, files_of_group}
use Rattle.wild_geometry.specs.PlacedSections.{IsSectionOfFile, Own, Ordered}
use Rattle.wild_geometry.specs.Loaded.{IsDecided}
use Rattle.wild_geometry.proofs.FrameSizes.{IsLoadedInput, sorted_loaded}
use Rattle.wild_geometry.proofs.PlacedInputs.{in_processed}
use Rattle.wild_geometry.proofs.StandingLemmas.{sorted_holds}
use Rattle.wild_loaded.specs.Memory.{EachDecided}

-- ---- lists of nothing

pub nothing_at : {X Y : Type 0} (f : X → List Y) (xs : List X) (x : X) → Contains xs x → flat_map f xs ≡ [] → f x ≡ []
nothing_at f [] x c none = absurd (omega (arith, c.1))
nothing_at f (z ∷ zs) x c none = cases f z zs x c.0 c.1 c.2 (nil_parts (f z) (flat_map f zs) none) (λ c' n. nothing_at f zs x c' n)
  where
    cases : {X Y : Type 0} (f : X → List Y) (z : X) (zs : List X) (x : X) (k : ℕ) → k < length (z ∷ zs) → get_or (z ∷ zs) k x ≡ x → (f z ≡ []) × (flat_map f zs ≡ []) → (Contains zs x → flat_map f zs ≡ [] → f x ≡ []) → f x ≡ []
    cases {X} {Y} f z zs x zero l e parts again = let P : X → Type 0 = λ w. f w ≡ [] in subst P e parts.0
    cases f z zs x (suc k) l e parts again = again (k, omega arith, e) parts.1

pub nothing_from : {X Y : Type 0} (f : ℕ → X → List Y) (i : ℕ) (xs : List X) (x : X) → Contains xs x → flat_map_from f i xs ≡ [] → (j : ℕ) × (f j x ≡ [])
nothing_from f i [] x c none = absurd (omega (arith, c.1))
nothing_from f i (z ∷ zs) x c none = cases f i z zs x c.0 c.1 c.2 (nil_parts (f i z) (flat_map_from f (i + 1) zs) none) (λ c' n. nothing_from f (i + 1) zs x c' n)
  where
    cases : {X Y : Type 0} (f : ℕ → X → List Y) (i : ℕ) (z : X) (zs : List X) (x : X) (k : ℕ) → k < length (z ∷ zs) → get_or (z ∷ zs) k x ≡ x → (f i z ≡ []) × (flat_map_from f (i + 1) zs ≡ []) → (Contains zs x → flat_map_from f (i + 1) zs ≡ [] → (j : ℕ) × (f j x ≡ [])) → (j : ℕ) × (f j x ≡ [])
    cases {X} {Y} f i z zs x zero l e parts again = let P : X → Type 0 = λ w. f i w ≡ [] in (i, subst P e parts.0)
    cases f i z zs x (suc k) l e parts again = again (k, omega arith, e) parts.1

-- ---- sections

not_refused : (at : At) (d : Result Decision Fault) → refusal_of at d ≡ [] → (x : Decision) × (d ≡ Ok x)
not_refused at (Ok x) h = (x, refl)
not_refused at (Err f) h = cc

each_decided : (l : Layout) (g f k : ℕ) (s : Item) (origins : List InputRelocation) (i : ℕ) → i < length origins → relocation_errors l g f k s origins i ≡ [] → (d : Decision) × (decide l s i ≡ Ok d)
unfolding relocation_errors
each_decided l g f k s origins i m h = listed l g f k s origins i (slice_get origins i) refl m h
  where
    listed : (l : Layout) (g f k : ℕ) (s : Item) (origins : List InputRelocation) (i : ℕ) (o : Option InputRelocation) → slice_get origins i ≡ o → i < length origins → refusal_at g f k (decide l s i) o ≡ [] → (d : Decision) × (decide l s i ≡ Ok d)
    listed l g f k s origins i None e m h = let here = slice_get_inside origins i m in let both : Some here.0 ≡ None = sym here.1 ∙ e in cc
    listed l g f k s origins i (Some r) e m h = not_refused (at_offset g f k r.offset) (decide l s i) h

item_decided : (l : Layout) (g f k : ℕ) (s : Item) (origins : List InputRelocation) (ending : List Error) → All (FieldLies l.machine (length s.bytes)) s.relocations → MovesApart l s origins → item_errors l g f k s origins ending ≡ [] → IsDecided l s
item_decided l g f k s origins ending lies moves h =
    let parts = nil_parts _ _ h in
    let rest = nil_parts _ _ parts.1 in
    let count = moves.count in
    record {
      each = λ i m. each_decided l g f k s origins i (omega (arith, m, count)) (nothing_at (relocation_errors l g f k s origins) (range_with_len 0 (length s.relocations)) i (range-Contains (length s.relocations) i m) parts.0);
      apart = sites_apart l s origins lies moves (no_overlap _ _ rest.1);
    }

-- a section that stands so is decided, where it is written
section_decided : (l : Layout) (g k i : ℕ) (f : File) (s t : InputSection) → is_read t ≡ true → is_omitted l t ≡ false → SectionLies l t → MovesApart l (item_of l f t) (origins_of l f s) → placed_section_errors l g k f i s t ≡ [] → IsDecided l (item_of l f t)
section_decided l g k i f s t reads written lies moves h =
    item_decided l g k i (item_of l f t) (origins_of l f s) (bad_frames l g k f i s) (subst (λ (n : ℕ). All (FieldLies l.machine n) t.relocations) (sym (lies.bytes (read_written t reads))) (lies.fields (read_fields t reads))) moves (rw (read_written t reads, written, read_plain t reads) at h)

abbrev HasTheirWords : Layout → InputSection → Type 0
HasTheirWords l s = is_counted s ≡ true → s.reversed ≡ true → HasWords l.machine s

abbrev Decided : Layout → File → InputSection → Type 0
Decided l f t = is_read t ≡ true → is_omitted l t ≡ false → IsDecided l (item_of l f t)

sections_of : (l : Layout) (g k : ℕ) (f : File) (at i : ℕ) (ss : List InputSection) → All (HasTheirWords l) ss → All (SectionLies l) (placed_sections l f at ss) → sections_errors l g k f at i ss ≡ [] → All (Decided l f) (placed_sections l f at ss)
unfolding section_errors
sections_of l g k f at i [] words lies none = All-nil (Decided l f)
sections_of l g k f at i (s ∷ ss) words lies none =
    let t = placed_section l f at s in
    let ts = placed_sections l f (address_after at (kept_size l f s)) ss in
    let parts = nil_parts (section_errors l g k f at i s) (sections_errors l g k f (address_after at (kept_size l f s)) (i + 1) ss) none in
    All-cons (Decided l f) t ts
    (λ reads written. section_decided l g k i f s t reads written (All-head (SectionLies l) t ts lies) (placed_section_moves l f (block_for l f t) at s (All-head (HasTheirWords l) s ss words) reads) parts.0)
    (sections_of l g k f (address_after at (kept_size l f s)) (i + 1) ss (All-tail (HasTheirWords l) s ss words) (All-tail (SectionLies l) t ts lies) parts.1)

-- ---- files

-- the sections of a file, and where it is the last the sorted ones
record FileDecided (l : Layout) (f : File) : Type 0 where
  own : All (Decided l f) f.sections
  last : is_epilogue f.role ≡ true → (x : Input) → Contains (sorted_inputs l) x → Decided l x.file (with_word_order x.section)

-- a section whose words are reversed is read where it was
turned_reads : (s : InputSection) → s.slot ≡ slot.Loaded → is_read (with_word_order s) ≡ true → is_counted s ≡ true
unfolding with_word_order
turned_reads s e h = by_test s.reversed h
  where
    by_test : (b : Bool) → is_read (if b then reversed_section s else s) ≡ true → is_counted s ≡ true
    by_test true h = rw e ((and_parts _ _ h).1)
    by_test false h = rw e ((and_parts _ _ h).1)

as_loaded_words : (l : Layout) → is_partial_link l.kind ≡ false → (s : InputSection) → s.slot ≡ slot.Sorted → HasTheirWords l s → HasTheirWords l (as_loaded (unread l s))
as_loaded_words l whole s e h = subst (λ (t : InputSection). HasTheirWords l (as_loaded t)) (sym (unread_linked l s whole)) (λ counted reversed. (let w = h (rw e counted) reversed in record { whole = w.whole; bytes = w.bytes; fields = w.fields }))

plain_origins : (b : Bool) (xs ys : List InputRelocation) → b ≡ false → (if b then xs else ys) ≡ ys
plain_origins true xs ys h = cc
plain_origins false xs ys h = refl

sorted_decided : (l : Layout) → is_partial_link l.kind ≡ false → IsLaidOut l → flat_map (sorted_errors l) l.sorted ≡ [] → (x : Input) → Contains (sorted_inputs l) x → SectionLies l (with_word_order x.section) → Decided l x.file (with_word_order x.section)
sorted_decided l whole laid none x c lies = λ reads written.
    let y = Contains-from_flat_map (sorted_input l) l.sorted x c in
    let all = nothing_at (sorted_errors l) l.sorted y.0 y.1 none in
    let mine : placed_section_errors l y.0.group y.0.file x.file y.0.section x.section (with_word_order x.section) ≡ [] = nothing_at (sorted_errors_of l y.0) (sorted_input l y.0) x y.2 all in
    let loaded = All-contains IsLoadedInput (sorted_inputs l) x (sorted_loaded l) c in
    let words = All-contains (λ (z : Input). HasTheirWords l z.section) (sorted_inputs l) x (sorted_holds l (HasTheirWords l) (HasTheirWords l) laid.reversed_section (as_loaded_words l whole)) c in
    let moves = turned_or_stays l (block_for l x.file (with_word_order x.section)) x.section (λ r. words (turned_reads x.section loaded reads) r) in
    let origins : origins_of l x.file x.section ≡ x.section.relocations = no_frame x.section loaded in
    section_decided l y.0.group y.0.file y.0.section x.file x.section (with_word_order x.section) reads written lies (subst (λ (rs : List InputRelocation). MovesApart l (item_of l x.file (with_word_order x.section)) rs) (sym origins) moves) mine
  where
    no_frame : (s : InputSection) → s.slot ≡ slot.Loaded → origins_of l x.file s ≡ s.relocations
    no_frame s e = plain_origins (is_frame s.slot) (kept_relocations (frames_of l x.file s)) (unread l s).relocations (ap is_frame e) ∙ ap (λ (t : InputSection). t.relocations) (unread_linked l s whole)

file_decided : (l : Layout) (g at k : ℕ) (f : File) → is_partial_link l.kind ≡ false → IsLaidOut l → All (HasTheirWords l) f.sections → All (SectionLies l) (processed_sections l (placed_file l at f)) → file_errors l g at k f ≡ [] → FileDecided l (placed_file l at f)
file_decided l g at k f whole laid words lies none = record {
  own = sections_of l g k f at 0 f.sections words (All-append-left (SectionLies l) (placed_sections l f at f.sections) (of_last_file f (sorted_sections l)) lies) (sections_of_file l g at k f none);
  last = λ last x c. sorted_decided l whole laid (all_sorted (is_epilogue f.role) last (sorted_of_file l g at k f none)) x c (lies_sorted last x c);
}
  where
    all_sorted : (b : Bool) → b ≡ true → (if b then flat_map (sorted_errors l) l.sorted else []) ≡ [] → flat_map (sorted_errors l) l.sorted ≡ []
    all_sorted true e h = h
    all_sorted false e h = cc

    lies_sorted : is_epilogue f.role ≡ true → (x : Input) → Contains (sorted_inputs l) x → SectionLies l (with_word_order x.section)
    lies_sorted last x c = All-contains (SectionLies l) (processed_sections l (placed_file l at f)) (with_word_order x.section) lies (in_processed l (placed_file l at f) x.file (with_word_order x.section) (Ordered last x c refl refl))

files_decided : (l : Layout) (g at k : ℕ) (fs : List File) → is_partial_link l.kind ≡ false → IsLaidOut l → All (λ (f : File). All (HasTheirWords l) f.sections) fs → All (λ (f : File). All (SectionLies l) (processed_sections l f)) (placed_from l at fs) → files_errors l g at k fs ≡ [] → All (FileDecided l) (placed_from l at fs)
files_decided l g at k [] whole laid words lies none = All-nil (FileDecided l)
files_decided l g at k (f ∷ fs) whole laid words lies none =
    let parts = nil_parts (file_errors l g at k f) (files_errors l g (address_after at (file_frames l f)) (k + 1) fs) none in
    let h = placed_file l at f in
    let hs = placed_from l (address_after at (file_frames l f)) fs in
    All-cons (FileDecided l) h hs
    (file_decided l g at k f whole laid (All-head (λ (x : File). All (HasTheirWords l) x.sections) f fs words) (All-head (λ (x : File). All (SectionLies l) (processed_sections l x)) h hs lies) parts.0)
    (files_decided l g (address_after at (file_frames l f)) (k + 1) fs whole laid (All-tail (λ (x : File). All (HasTheirWords l) x.sections) f fs words) (All-tail (λ (x : File). All (SectionLies l) (processed_sections l x)) h hs lies) parts.1)

group_decided : (l : Layout) (i : ℕ) (g : Group) → is_partial_link l.kind ≡ false → IsLaidOut l → All (λ (f : File). All (HasTheirWords l) f.sections) g.files → All (λ (f : File). All (SectionLies l) (processed_sections l f)) (placed_files l g) → group_errors l i g ≡ [] → All (FileDecided l) (placed_files l g)
unfolding placed_files
group_decided l i g whole laid words lies none = files_decided l i (frames_at l g) 0 g.files whole laid words lies (files_of_group l i g none)

-- each section that is read and written is decided, where no group has a fault
pub sections_decided : (l : Layout) → is_partial_link l.kind ≡ false → IsLaidOut l → flat_map_from (group_errors l) 0 l.groups ≡ [] → EachDecided l
sections_decided l whole laid none = λ s k reads written.
    let e = nothing_from (group_errors l) 0 l.groups k.group k.grouped none in
    let words = All-contains (λ (g : Group). All (λ (f : File). All (HasTheirWords l) f.sections) g.files) l.groups k.group laid.reversed_section k.grouped in
    let lies = All-contains (λ (g : Group). All (λ (f : File). All (SectionLies l) (processed_sections l f)) (placed_files l g)) l.groups k.group laid.inputs k.grouped in
    let file = All-contains (FileDecided l) (placed_files l k.group) k.file (group_decided l e.0 k.group whole laid words lies e.1) k.filed in
    of_file l k.file k.owner s file k.listed reads written
  where
    of_file : (l : Layout) (f owner : File) (s : InputSection) → FileDecided l f → IsSectionOfFile l f owner s → is_read s ≡ true → is_omitted l s ≡ false → IsDecided l (item_of l owner s)
    of_file l f owner s d (Own e c) reads written = subst (λ (o : File). IsDecided l (item_of l o s)) (sym e) (All-contains (Decided l f) f.sections s d.own c reads written)
    of_file l f owner s d (Ordered last x c e i) reads written =
        let there = d.last last x c (subst (λ (t : InputSection). is_read t ≡ true) i reads) (subst (λ (t : InputSection). is_omitted l t ≡ false) i written) in
        subst (λ (o : File). IsDecided l (item_of l o s)) (sym e) (subst (λ (t : InputSection). IsDecided l (item_of l x.file t)) (sym i) there)
