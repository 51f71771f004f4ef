-- What the tables of slots and stubs hold: what stands once, and what each symbol gives.
use Rattle.wild_slots.proofs.Common.{◌≡◌, ℕ, ◌+◌, ◌≤◌, inl, inr, Bool, true, false, List, [], ◌∷◌, ◌++◌, length, None, All, refl, sym, ap, ◌∙◌, arith, ◌&&◌, ◌==◌, if◌then◌else◌, flat_map, cases_Bool, and_parts, append-nil, append_assoc, length-append, All-nil, All-cons, All-head, All-tail, word_bytes, length-word_bytes, Role, File, Group, Symbol, Layout, total, stub_size, words_in, symbol_share, header_words, own_symbols, slots_of, slots_address, table_bytes, group_symbols, written_symbols}
use Rattle.std.proofs.lemmas.List.Concat.{flat_map-append}
use Rattle.wild_words.specs.Words.{word}
use Rattle.wild_words.proofs.ListLemmas.{flat_map-flat_map}
use Rattle.wild_types.specs.declared.part.Role.TheVariants as role
use Rattle.wild_slot.specs.declared.slot_parts.WordPart.TheVariants as words
use Rattle.wild_types.specs.FileRoles.{is_prelude, is_epilogue}
use Rattle.wild_types.specs.FilePlaces.{bool_eq, file_position_fits, later_positions_fit, group_positions_fit, first_misplaced_file}
use Rattle.wild_placement.specs.PlacedSections.{placed_files}
use Rattle.wild_placement.proofs.PlacedFiles.{ReadsNoSection, placed_files_same}
use Rattle.wild_layout.specs.SlotBytes.{stub_bytes, slot_words_of, stubs_of, slot_bytes}
use Rattle.wild_layout.specs.Content.{file_content, group_bytes, content}
use Rattle.wild_slot.specs.MachineStub.{stub_in}
use Rattle.wild_slot.proofs.StubLemmas.{length-stub_of}

-- what a symbol gives to the table of a role
abbrev pub symbol_bytes : Layout → Role → Symbol → List ℕ
symbol_bytes l role.Got s = word_bytes (words_in words.Got l s)
symbol_bytes l role.GotRelr s = word_bytes (words_in words.RelrGot l s)
symbol_bytes l role.PltGot s = stub_bytes l s
symbol_bytes l other s = []

-- a table of slots or stubs, at whose front head stands
pub record IsTable (l : Layout) (r : Role) (head : List ℕ) : Type 0 where
  pub file : (f : File) → file_content l r f ≡ (if is_prelude f.role then head else []) ++ flat_map (symbol_bytes l r) (own_symbols l f)
  pub block : (g : Group) → group_bytes l r g ≡ []
  pub stays : ReadsNoSection l (file_content l r)
  pub share : (s : Symbol) → length (symbol_bytes l r s) ≡ symbol_share l r s

-- ---- the three tables

behind_head : (b : Bool) (head own given : List ℕ) → own ≡ given → (if b then [] ++ head else []) ++ [] ++ own ≡ (if b then head else []) ++ given
behind_head true head own given e = ap (λ (bs : List ℕ). bs ++ own) (append-nil head) ∙ ap (λ (bs : List ℕ). head ++ bs) e
behind_head false head own given e = e

stub_length : (l : Layout) (b : Bool) (slot stub : ℕ) → length (if b then (stub_in l slot stub).bytes else []) ≡ (if b then stub_size else 0)
stub_length l false slot stub = refl
stub_length l true slot stub = length-stub_of l.machine l.options.bti slot stub

pub got_table : (l : Layout) → IsTable l role.Got (word_bytes (header_words l))
unfolding slot_words_of
got_table l = record {
  file = λ f. behind_head (is_prelude f.role) (word_bytes (header_words l)) (slot_bytes l role.Got f) (flat_map (symbol_bytes l role.Got) (own_symbols l f)) (flat_map-flat_map (λ (w : ℕ). word 8 w) (words_in words.Got l) (own_symbols l f));
  block = λ g. refl;
  stays = λ at f. refl;
  share = λ s. length-word_bytes (words_in words.Got l s);
}

pub block_table : (l : Layout) → IsTable l role.GotRelr []
unfolding slot_words_of
block_table l = record {
  file = λ f. behind_head (is_prelude f.role) [] (slot_bytes l role.GotRelr f) (flat_map (symbol_bytes l role.GotRelr) (own_symbols l f)) (flat_map-flat_map (λ (w : ℕ). word 8 w) (words_in words.RelrGot l) (own_symbols l f));
  block = λ g. refl;
  stays = λ at f. refl;
  share = λ s. length-word_bytes (words_in words.RelrGot l s);
}

pub stub_table : (l : Layout) → IsTable l role.PltGot []
unfolding stubs_of
stub_table l = record {
  file = λ f. behind_head (is_prelude f.role) [] (slot_bytes l role.PltGot f) (flat_map (symbol_bytes l role.PltGot) (own_symbols l f)) refl;
  block = λ g. refl;
  stays = λ at f. refl;
  share = λ s. stub_length l (slots_of l s).has_stub (slots_address s) _;
}

-- ---- the length of what symbols give

pub length-symbols : (l : Layout) (r : Role) (head : List ℕ) (ss : List Symbol) → IsTable l r head → length (flat_map (symbol_bytes l r) ss) ≡ total (symbol_share l r) ss
length-symbols l r head [] t = refl
length-symbols l r head (s ∷ ss) t =
    let a = length-append (symbol_bytes l r s) (flat_map (symbol_bytes l r) ss) in
    let b = t.share s in
    let c = length-symbols l r head ss t in
    omega (arith, a, b, c)

-- ---- files that are not the first of all

abbrev pub GivesNoHead : List ℕ → File → Type 0
GivesNoHead head f = (if is_prelude f.role then head else []) ≡ []

files_given : (l : Layout) (r : Role) (head : List ℕ) (fs : List File) → IsTable l r head → All (GivesNoHead head) fs → flat_map (file_content l r) fs ≡ flat_map (symbol_bytes l r) (flat_map (own_symbols l) fs)
files_given l r head [] t a = refl
files_given l r head (f ∷ fs) t a =
    let here = t.file f ∙ ap (λ (bs : List ℕ). bs ++ flat_map (symbol_bytes l r) (own_symbols l f)) (All-head (GivesNoHead head) f fs a) in
    let rest = files_given l r head fs t (All-tail (GivesNoHead head) f fs a) in
    ap (λ (bs : List ℕ). bs ++ flat_map (file_content l r) fs) here
    ∙ ap (λ (bs : List ℕ). flat_map (symbol_bytes l r) (own_symbols l f) ++ bs) rest
    ∙ sym (flat_map-append (symbol_bytes l r) (own_symbols l f) (flat_map (own_symbols l) fs))

group_given : (l : Layout) (r : Role) (head : List ℕ) (g : Group) (front : List ℕ) → IsTable l r head → flat_map (file_content l r) g.files ≡ front ++ flat_map (symbol_bytes l r) (group_symbols l g) → content l r g ≡ front ++ flat_map (symbol_bytes l r) (group_symbols l g)
group_given l r head g front t e =
    ap (λ (bs : List ℕ). flat_map (file_content l r) (placed_files l g) ++ bs) (t.block g) ∙ append-nil (flat_map (file_content l r) (placed_files l g)) ∙ placed_files_same l (file_content l r) g t.stays ∙ e

abbrev pub FilesGiveNoHead : List ℕ → Group → Type 0
FilesGiveNoHead head g = All (GivesNoHead head) g.files

groups_given : (l : Layout) (r : Role) (head : List ℕ) (gs : List Group) → IsTable l r head → All (FilesGiveNoHead head) gs → flat_map (content l r) gs ≡ flat_map (symbol_bytes l r) (flat_map (group_symbols l) gs)
groups_given l r head [] t a = refl
groups_given l r head (g ∷ gs) t a =
    let here = group_given l r head g [] t (files_given l r head g.files t (All-head (FilesGiveNoHead head) g gs a)) in
    let rest = groups_given l r head gs t (All-tail (FilesGiveNoHead head) g gs a) in
    ap (λ (bs : List ℕ). bs ++ flat_map (content l r) gs) here
    ∙ ap (λ (bs : List ℕ). flat_map (symbol_bytes l r) (group_symbols l g) ++ bs) rest
    ∙ sym (flat_map-append (symbol_bytes l r) (group_symbols l g) (flat_map (group_symbols l) gs))

-- a table at whose front nothing stands
pub headless : (l : Layout) (r : Role) → IsTable l r [] → table_bytes l r ≡ flat_map (symbol_bytes l r) (written_symbols l)
headless l r t = groups_given l r [] l.groups t (λ k d lt j e m. none (is_prelude _))
  where
    none : (b : Bool) → ◌≡◌ {A = List ℕ} (if b then [] else []) []
    none true = refl
    none false = refl

-- ---- the first file

not_first : (head : List ℕ) (last : Bool) (f : File) → file_position_fits false last f ≡ true → GivesNoHead head f
not_first head last f h = none (is_prelude f.role) (and_parts (bool_eq (is_prelude f.role) false) (bool_eq (is_epilogue f.role) last) h).0
  where
    none : (b : Bool) → bool_eq b false ≡ true → (if b then head else []) ≡ []
    none true e = cc
    none false e = refl

later_files : (head : List ℕ) (last : Bool) (fs : List File) → later_positions_fit last fs ≡ true → All (GivesNoHead head) fs
later_files head last [] h = All-nil (GivesNoHead head)
later_files head last (f ∷ fs) h =
    let p = and_parts (file_position_fits false (last && length fs == 0) f) (later_positions_fit last fs) h in
    All-cons (GivesNoHead head) f fs (not_first head (last && length fs == 0) f p.0) (later_files head last fs p.1)

later_group : (head : List ℕ) (last : Bool) (fs : List File) → group_positions_fit false last fs ≡ true → All (GivesNoHead head) fs
later_group head last [] h = All-nil (GivesNoHead head)
later_group head last (f ∷ fs) h =
    let p = and_parts (file_position_fits false (last && length fs == 0) f) (later_positions_fit last fs) h in
    All-cons (GivesNoHead head) f fs (not_first head (last && length fs == 0) f p.0) (later_files head last fs p.1)

first_group : (l : Layout) (r : Role) (head : List ℕ) (last : Bool) (fs : List File) → IsTable l r head → group_positions_fit true last fs ≡ true → flat_map (file_content l r) fs ≡ head ++ flat_map (symbol_bytes l r) (flat_map (own_symbols l) fs)
first_group l r head last [] t h = cc
first_group l r head last (f ∷ fs) t h =
    let own = flat_map (symbol_bytes l r) (own_symbols l f) in
    let p = and_parts (file_position_fits true (last && length fs == 0) f) (later_positions_fit last fs) h in
    let first = whole (is_prelude f.role) (and_parts (bool_eq (is_prelude f.role) true) (bool_eq (is_epilogue f.role) (last && length fs == 0)) p.0).0 in
    let here = t.file f ∙ ap (λ (bs : List ℕ). bs ++ own) first in
    let rest = files_given l r head fs t (later_files head last fs p.1) in
    ap (λ (bs : List ℕ). bs ++ flat_map (file_content l r) fs) here
    ∙ ap (λ (bs : List ℕ). (head ++ own) ++ bs) rest
    ∙ append_assoc head own (flat_map (symbol_bytes l r) (flat_map (own_symbols l) fs))
    ∙ ap (λ (bs : List ℕ). head ++ bs) (sym (flat_map-append (symbol_bytes l r) (own_symbols l f) (flat_map (own_symbols l) fs)))
  where
    whole : (b : Bool) → bool_eq b true ≡ true → (if b then head else []) ≡ head
    whole true e = refl
    whole false e = cc

-- where a group is out of its place, the test says so
record Placed (first : Bool) (i : ℕ) (g : Group) (gs : List Group) : Type 0 where
  here : group_positions_fit first (length gs == 0) g.files ≡ true
  rest : first_misplaced_file false (i + 1) gs ≡ None

placed : (first : Bool) (i : ℕ) (g : Group) (gs : List Group) → first_misplaced_file first i (g ∷ gs) ≡ None → Placed first i g gs
placed first i g gs h =
    elim (cases_Bool (group_positions_fit first (length gs == 0) g.files)) [
      | inl t ↦ record { here = t; rest = rw t at h }
      | inr f ↦ cc (rw f at h)
    ]

later_groups : (head : List ℕ) (i : ℕ) (gs : List Group) → first_misplaced_file false i gs ≡ None → All (FilesGiveNoHead head) gs
later_groups head i [] h = All-nil (FilesGiveNoHead head)
later_groups head i (g ∷ gs) h =
    let p = placed false i g gs h in
    All-cons (FilesGiveNoHead head) g gs (later_group head (length gs == 0) g.files p.here) (later_groups head (i + 1) gs p.rest)

-- a table of several groups, whose front the first file gives
headed_groups : (l : Layout) (r : Role) (head : List ℕ) (gs : List Group) → IsTable l r head → first_misplaced_file true 0 gs ≡ None → 1 ≤ length gs → flat_map (content l r) gs ≡ head ++ flat_map (symbol_bytes l r) (flat_map (group_symbols l) gs)
headed_groups l r head [] t h some = absurd (omega arith)
headed_groups l r head (g ∷ gs) t h some =
    let own = flat_map (symbol_bytes l r) (group_symbols l g) in
    let p = placed true 0 g gs h in
    let here = group_given l r head g head t (first_group l r head (length gs == 0) g.files t p.here) in
    let rest = groups_given l r head gs t (later_groups head 1 gs p.rest) in
    ap (λ (bs : List ℕ). bs ++ flat_map (content l r) gs) here
    ∙ ap (λ (bs : List ℕ). (head ++ own) ++ bs) rest
    ∙ append_assoc head own (flat_map (symbol_bytes l r) (flat_map (group_symbols l) gs))
    ∙ ap (λ (bs : List ℕ). head ++ bs) (sym (flat_map-append (symbol_bytes l r) (group_symbols l g) (flat_map (group_symbols l) gs)))

pub headed : (l : Layout) (r : Role) (head : List ℕ) → IsTable l r head → first_misplaced_file true 0 l.groups ≡ None → 1 ≤ length l.groups → table_bytes l r ≡ head ++ flat_map (symbol_bytes l r) (written_symbols l)
headed l r head t h some = headed_groups l r head l.groups t h some
