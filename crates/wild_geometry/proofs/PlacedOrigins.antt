-- A placed section that is loaded is an input section of the layout.
use Rattle.wild_geometry.proofs.Common.{◌≡◌, ℕ, zero, suc, ◌<◌, true, false, not, List, [], ◌∷◌, length, get_or, refl, sym, ap, ◌∙◌, arith, subst, Option, Some, None, All, Contains, slice_get, and_parts, not-true, All-nil, All-contains, Contains-here, Contains-there, All-flat_map, Slot, InputSection, File, Group, SortedSection, Layout, is_partial_link, is_read, is_frame, is_loaded, has_relocations, allocated, kept_size, with_word_order, Input, placed_frames, rela_with_target, placed_by, placed_section, placed_sections, placed_file, placed_from, placed_files, file_frames, frames_at, address_after, sorted_inputs, sorted_input, sorted_by, sorted_in_file, sorted_in_group, files_at, as_loaded, unread, Own, Ordered, IsPlacedSection}
use Rattle.wild_words.proofs.Basics.{listed_at}
use Rattle.wild_types.specs.declared.input.Slot.TheVariants as slot
use Rattle.wild_types.specs.HeaderOnly.{KeepsAll}
use Rattle.wild_placement.proofs.PlainLemmas.{unread_linked}
use Rattle.wild_layout.proofs.SiteLemmas.{All-one}
use Rattle.wild_meaning.specs.Item.{IsInput, IsLoadedSlot, IsKeptSection}
use Rattle.wild_meaning.proofs.BitLemmas.{bit_alloc}
use Rattle.wild_geometry.specs.PlacedSections.{IsSectionOfFile}
use Rattle.wild_geometry.proofs.KeptItems.{loaded_same, turned_fields}

-- ---- a file's own sections

-- the file of a placed one
record FileOrigin (l : Layout) (fs : List File) (p : File) : Type 0 where
  file : File
  at : ℕ
  listed : Contains fs file
  is : p ≡ placed_file l at file

file_origin : (l : Layout) (at : ℕ) (fs : List File) (p : File) → Contains (placed_from l at fs) p → FileOrigin l fs p
file_origin l at [] p c = absurd (omega (arith, c.1))
file_origin l at (f ∷ fs) p c = there l at f fs p c.0 c.1 c.2 (λ c'. file_origin l (address_after at (file_frames l f)) fs p c')
  where
    there : (l : Layout) (at : ℕ) (f : File) (fs : List File) (p : File) (k : ℕ) → k < length (placed_file l at f ∷ placed_from l (address_after at (file_frames l f)) fs) → get_or (placed_file l at f ∷ placed_from l (address_after at (file_frames l f)) fs) k p ≡ p → (Contains (placed_from l (address_after at (file_frames l f)) fs) p → FileOrigin l fs p) → FileOrigin l (f ∷ fs) p
    there l at f fs p zero lt e again = record { file = f; at = at; listed = Contains-here f fs; is = sym e }
    there l at f fs p (suc k) lt e again = (let r = again (k, omega (arith, lt), e) in record { file = r.file; at = r.at; listed = Contains-there r.file f fs r.listed; is = r.is })

-- the section of a placed one
record SectionOrigin (l : Layout) (f : File) (ss : List InputSection) (t : InputSection) : Type 0 where
  section : InputSection
  at : ℕ
  listed : Contains ss section
  is : t ≡ placed_section l f at section

section_origin : (l : Layout) (f : File) (at : ℕ) (ss : List InputSection) (t : InputSection) → Contains (placed_sections l f at ss) t → SectionOrigin l f ss t
section_origin l f at [] t c = absurd (omega (arith, c.1))
section_origin l f at (s ∷ ss) t c = there l f at s ss t c.0 c.1 c.2 (λ c'. section_origin l f (address_after at (kept_size l f s)) ss t c')
  where
    there : (l : Layout) (f : File) (at : ℕ) (s : InputSection) (ss : List InputSection) (t : InputSection) (k : ℕ) → k < length (placed_section l f at s ∷ placed_sections l f (address_after at (kept_size l f s)) ss) → get_or (placed_section l f at s ∷ placed_sections l f (address_after at (kept_size l f s)) ss) k t ≡ t → (Contains (placed_sections l f (address_after at (kept_size l f s)) ss) t → SectionOrigin l f ss t) → SectionOrigin l f (s ∷ ss) t
    there l f at s ss t zero lt e again = record { section = s; at = at; listed = Contains-here s ss; is = sym e }
    there l f at s ss t (suc k) lt e again = (let r = again (k, omega (arith, lt), e) in record { section = r.section; at = r.at; listed = Contains-there r.section s ss r.listed; is = r.is })

-- ---- sorted sections

record SortedOrigin (l : Layout) (x : Input) : Type 0 where
  section : InputSection
  input : IsInput l section
  sorted : section.slot ≡ slot.Sorted
  is : x.section ≡ as_loaded section

sorted_origins : (l : Layout) (y : SortedSection) → is_partial_link l.kind ≡ false → All (SortedOrigin l) (sorted_input l y)
unfolding sorted_input
sorted_origins l y kind = by_group (slice_get l.groups y.group) refl
  where
    by_slot : (g : Group) (f : File) (s : InputSection) → Contains l.groups g → Contains g.files f → Contains f.sections s → (k : Slot) → s.slot ≡ k → All (SortedOrigin l) (sorted_by l f k s)
    by_slot g f s cg cf cs slot.Sorted e = All-one (SortedOrigin l) (record { file = f; section = as_loaded (unread l s) }) (record { section = s; input = record { group = g; grouped = cg; file = f; filed = cf; listed = cs }; sorted = e; is = ap as_loaded (unread_linked l s kind) })
    by_slot g f s cg cf cs other e = All-nil (SortedOrigin l)

    by_section : (g : Group) (f : File) → Contains l.groups g → Contains g.files f → (o : Option InputSection) → slice_get f.sections y.section ≡ o → All (SortedOrigin l) (sorted_in_file l f o)
    by_section g f cg cf None e = All-nil (SortedOrigin l)
    by_section g f cg cf (Some s) e = by_slot g f s cg cf (listed_at f.sections y.section s e) s.slot refl

    by_file : (g : Group) → Contains l.groups g → (o : Option File) → slice_get g.files y.file ≡ o → All (SortedOrigin l) (sorted_in_group l o y.section)
    by_file g cg None e = All-nil (SortedOrigin l)
    by_file g cg (Some f) e = by_section g f cg (listed_at g.files y.file f e) (slice_get f.sections y.section) refl

    by_group : (o : Option Group) → slice_get l.groups y.group ≡ o → All (SortedOrigin l) (sorted_in_group l (slice_get (files_at o) y.file) y.section)
    by_group None e = All-nil (SortedOrigin l)
    by_group (Some g) e = by_file g (listed_at l.groups y.group g e) (slice_get g.files y.file) refl

all_sorted_origins : (l : Layout) → is_partial_link l.kind ≡ false → All (SortedOrigin l) (sorted_inputs l)
all_sorted_origins l kind = All-flat_map (SortedOrigin l) (sorted_input l) l.sorted (λ k d m. sorted_origins l (get_or l.sorted k d) kind)

-- ---- both

-- the input section of a placed one
record InputOrigin (l : Layout) (t : InputSection) : Type 0 where
  section : InputSection
  input : IsInput l section
  loaded : IsLoadedSlot section.slot
  is : t ≡ with_word_order (as_loaded section)

-- what a loaded section of a file comes from is loaded
record IsOwnLoaded (t s : InputSection) : Type 0 where
  loaded : IsLoadedSlot s.slot
  is : t ≡ with_word_order (as_loaded s)

own_loaded : (l : Layout) (f : File) (at : ℕ) (s t : InputSection) → is_partial_link l.kind ≡ false → t ≡ placed_section l f at s → is_loaded t.slot ≡ true → IsOwnLoaded t s
unfolding placed_section
own_loaded l f at s t kind is loaded = by_slot s.slot refl is
  where
    slot_is : (x : InputSection) → t ≡ x → is_loaded x.slot ≡ true
    slot_is x e = subst (λ (y : InputSection). is_loaded y.slot ≡ true) e loaded

    same : (k : Slot) → s.slot ≡ k → t ≡ s → is_loaded k ≡ true
    same k e i = subst (λ (x : Slot). is_loaded x ≡ true) e (slot_is s i)

    by_slot : (k : Slot) → s.slot ≡ k → t ≡ placed_by k l f at s → IsOwnLoaded t s
    by_slot slot.Loaded e i = record { loaded = subst IsLoadedSlot (sym e) tt; is = i ∙ ap with_word_order (unread_linked l s kind ∙ loaded_same s e) }
    by_slot slot.Debug e i = absurd (let no : is_loaded slot.Debug ≡ true = subst (λ (x : Slot). is_loaded x ≡ true) ((turned_fields s).slot ∙ e) (slot_is (with_word_order s) i) in cc)
    by_slot slot.Frame e i = absurd (let no : is_loaded slot.Frame ≡ true = slot_is (placed_frames l f at s) i in cc)
    by_slot slot.Rela e i = absurd (let no : is_loaded slot.Rela ≡ true = slot_is (rela_with_target f s) i in cc)
    by_slot slot.Discard e i = absurd (let no : is_loaded slot.Discard ≡ true = same slot.Discard e i in cc)
    by_slot slot.Sorted e i = absurd (let no : is_loaded slot.Sorted ≡ true = same slot.Sorted e i in cc)
    by_slot slot.Merge e i = absurd (let no : is_loaded slot.Merge ≡ true = same slot.Merge e i in cc)
    by_slot slot.Group e i = absurd (let no : is_loaded slot.Group ≡ true = same slot.Group e i in cc)

origin_of : (l : Layout) (t : InputSection) → is_partial_link l.kind ≡ false → IsPlacedSection l t → is_loaded t.slot ≡ true → InputOrigin l t
unfolding placed_files
origin_of l t kind k loaded = by_listed k.listed
  where
    by_listed : IsSectionOfFile l k.file k.owner t → InputOrigin l t
    by_listed (Own e c) =
        let f = file_origin l (frames_at l k.group) k.group.files k.file k.filed in
        let s = section_origin l f.file f.at f.file.sections t (subst (λ (p : File). Contains p.sections t) f.is c) in
        let own = own_loaded l f.file s.at s.section t kind s.is loaded in
        record { section = s.section; input = record { group = k.group; grouped = k.grouped; file = f.file; filed = f.listed; listed = s.listed }; loaded = own.loaded; is = own.is }
    by_listed (Ordered last x c e i) =
        let o = All-contains (SortedOrigin l) (sorted_inputs l) x (all_sorted_origins l kind) c in
        record { section = o.section; input = o.input; loaded = subst IsLoadedSlot (sym o.sorted) tt; is = i ∙ ap with_word_order o.is }

-- a kept section at the same addresses
pub record KeptOrigin (l : Layout) (t : InputSection) : Type 0 where
  pub section : InputSection
  pub kept : IsKeptSection l section
  pub address : section.address ≡ t.address
  pub size : section.size ≡ t.size

plain_loaded : (k : Slot) → has_relocations k ≡ true → is_frame k ≡ false → is_loaded k ≡ true
plain_loaded slot.Loaded h plain = refl
plain_loaded slot.Frame h plain = cc
plain_loaded other h plain = cc

pub kept_origin : (l : Layout) (t : InputSection) → KeepsAll l → is_partial_link l.kind ≡ false → IsPlacedSection l t → is_read t ≡ true → is_frame t.slot ≡ false → allocated t.flags ≡ true → KeptOrigin l t
kept_origin l t keeps kind k reads plain room =
    let parts = and_parts (has_relocations t.slot) (not t.nobits) reads in
    let o = origin_of l t kind k (plain_loaded t.slot parts.0 plain) in
    let same = turned_fields (as_loaded o.section) in
    record {
      section = o.section;
      kept = record {
        input = o.input;
        loaded = o.loaded;
        room = bit_alloc o.section.flags (subst (λ (n : ℕ). allocated n ≡ true) (ap (λ (x : InputSection). x.flags) o.is ∙ same.flags) room);
        has_data = sym (ap (λ (x : InputSection). x.nobits) o.is ∙ same.nobits) ∙ not-true t.nobits parts.1;
        written = λ p at h. absurd (let both : true ≡ false = sym h.only.bare ∙ keeps in cc);
      };
      address = sym (ap (λ (x : InputSection). x.address) o.is ∙ same.address);
      size = sym (ap (λ (x : InputSection). x.size) o.is ∙ same.size);
    }
