-- After Yes the image holds in every legal world.
use Rattle.wild_checker.proofs.Common.{◌≡◌, ℕ, ◌/◌, ◌%◌, ◌&&◌, inl, inr, Bool, true, false, List, ◌∷◌, ◌++◌, refl, sym, ap, subst, Option, Some, None, Result, Ok, Err, All, Contains, if◌then◌else◌, not, eq-eqb, and_parts, not-true, All-contains, OutputKind, File, Group, InputSection, Layout, Item, InputNumbers, Memory, World, Outline, Follows, Symbolic, IsWorldOf, are_in_order, Loaded, first_cursor, in_groups, changed_gap, first_doubt}
use Rattle.std.proofs.lemmas.List.Elements.{Contains-append_right}
use Rattle.std.proofs.lemmas.Nat.Gcd.{dvd_trans, dvd_of_mod-eq-zero, mod-eq-zero_of_dvd}
use Rattle.wild_words.proofs.ListLemmas.{Contains-here}
use Rattle.wild_records.specs.Abi.Section.{shf_alloc}
use Rattle.wild_types.specs.declared.kind.OutputKind.TheVariants as output
use Rattle.wild_types.specs.declared.input.Slot.{Slot}
use Rattle.wild_types.specs.declared.input.Slot.TheVariants as slot
use Rattle.wild_types.specs.HeaderOnly.{is_omitted}
use Rattle.wild_types.specs.Item.{block_for}
use Rattle.wild_types.specs.Kinds.{is_partial_link}
use Rattle.wild_types.specs.Lookups.{is_frame}
use Rattle.wild_layout.specs.Numbers.{NumbersFit}
use Rattle.wild_loader.specs.declared.fault.LoadFault.{LoadFault}
use Rattle.wild_loader.specs.declared.fault.LoadFault.TheVariants as faults
use Rattle.wild_meaning.specs.Item.{IsKept, OfSection, OfFrames, IsLoadedSlot, placed_item}
use Rattle.wild_meaning.specs.Reference.{ItemHolds}
use Rattle.wild_meaning.specs.World.{IsLoadable, IsLegal}
use Rattle.wild_terms.specs.Laws.{TermsAreLoaded}
use Rattle.wild_terms.specs.Symbolic.{terms_of}
use Rattle.wild_references.specs.PlainLaws.{RawValuesAreAddresses}
use Rattle.wild_checker.specs.declared.question.Site.{Site}
use Rattle.wild_checker.specs.declared.verdict.Doubt.TheVariants as doubts
use Rattle.wild_checker.specs.declared.verdict.Verdict.TheVariants.{Yes, No}
use Rattle.wild_checker.specs.Outline.{WorldsAreOutlined}
use Rattle.wild_checker.specs.Sections.{is_loaded_slot, is_in_memory, has_frames, is_in_order, changed_byte, doubtful_reference}
use Rattle.wild_checker.specs.Segments.{segment_doubt}
use Rattle.wild_checker.specs.Verdict.{HoldsIn, by_reference, by_byte, loaded_image, by_segment, IsRefusal, IsReadVerdict, IsOutlined, YesIsFounded}
use Rattle.wild_checker.proofs.ItemLemmas.{item_holds}
use Rattle.wild_checker.proofs.OmittedLemmas.{section_written, frames_written}
use Rattle.wild_checker.proofs.PlacedSections.{Laws, IsChecked}
use Rattle.wild_checker.proofs.SegmentLemmas.{room_for}
use Rattle.wild_checker.proofs.SiteLemmas.{none_at}
use Rattle.wild_checker.proofs.ValueLemmas.{Known}

-- ---- what Yes was said of

record Found (l : Layout) (o : Outline) (image : List ℕ) (t : Symbolic) : Type 0 where
  segments : segment_doubt l image ≡ Ok None
  bytes : in_groups (changed_byte (loaded_image l o t)) 0 l.groups ≡ None
  references : in_groups (doubtful_reference (loaded_image l o t)) 0 l.groups ≡ None

found : (l : Layout) (o : Outline) (image : List ℕ) (t : Symbolic) (d : Option ℕ) → segment_doubt l image ≡ Ok d → Yes ≡ by_segment l o t d → Found l o image t
found l o image t (Some index) d h = cc
found l o image t None d h = by_bytes (in_groups (changed_byte k) 0 l.groups) refl h
  where
    k : Loaded
    k = loaded_image l o t

    by_references : in_groups (changed_byte k) 0 l.groups ≡ None → (x : Option Site) → in_groups (doubtful_reference k) 0 l.groups ≡ x → Yes ≡ by_reference x → Found l o image t
    by_references b None e h = record { segments = d; bytes = b; references = e }
    by_references b (Some site) e h = cc

    by_bytes : (x : Option Site) → in_groups (changed_byte k) 0 l.groups ≡ x → Yes ≡ by_byte k x → Found l o image t
    by_bytes None e h = by_references e (in_groups (doubtful_reference k) 0 l.groups) refl h
    by_bytes (Some site) e h = cc

-- ---- one section

in_memory : (l : Layout) (s : InputSection) → IsLoadedSlot s.slot → s.flags / shf_alloc % 2 ≡ 1 → s.nobits ≡ false → is_omitted l s ≡ false → is_in_memory l s ≡ true
in_memory l s loaded room filled there =
    let slot_is = by_slot s.slot loaded in
    let flag = eq-eqb (s.flags / shf_alloc % 2) 1 room in
    rw (slot_is, flag, filled, there) refl
  where
    by_slot : (x : Slot) → IsLoadedSlot x → is_loaded_slot x ≡ true
    by_slot slot.Loaded h = refl
    by_slot slot.Sorted h = refl
    by_slot other h = absurd h

no_frame : (s : InputSection) → IsLoadedSlot s.slot → is_frame s.slot ≡ false
no_frame s loaded = by_slot s.slot loaded
  where
    by_slot : (x : Slot) → IsLoadedSlot x → is_frame x ≡ false
    by_slot slot.Loaded h = refl
    by_slot slot.Sorted h = refl
    by_slot other h = absurd h

no_frames : (l : Layout) (s : InputSection) → is_frame s.slot ≡ false → has_frames l s ≡ false
no_frames l s e = rw e refl

has_all : (frame empty omitted : Bool) → frame ≡ true → empty ≡ false → omitted ≡ false → (frame && not empty && not omitted) ≡ true
has_all frame empty omitted a b c = rw (a, b, c) refl

-- a section in memory that nothing is doubted of
record Plain (k : Loaded) (f : File) (s : InputSection) : Type 0 where
  forward : s.reversed ≡ false
  checked : IsChecked k f s

plain : (k : Loaded) (f : File) (s : InputSection) → has_frames k.layout s ≡ false → is_in_memory k.layout s ≡ true → doubtful_reference k f s ≡ None → changed_byte k f s ≡ None → Plain k f s
plain k f s frames there r b =
    let r2 : (if is_in_order k.layout.machine s then first_doubt k f s first_cursor 0 s.relocations else Some 0) ≡ None = rw (frames, there) at r in
    let b2 : (if true && is_in_order k.layout.machine s then changed_gap k f s first_cursor s.relocations else None) ≡ None = rw there at b in
    by_order (is_in_order k.layout.machine s) refl r2 b2
  where
    by_order : (x : Bool) → is_in_order k.layout.machine s ≡ x → (if x then first_doubt k f s first_cursor 0 s.relocations else Some 0) ≡ None → (if x then changed_gap k f s first_cursor s.relocations else None) ≡ None → Plain k f s
    by_order false e r b = cc
    by_order true e r b =
        let both = and_parts (not s.reversed) (are_in_order k.layout.machine 0 s.relocations) e in
        record { forward = not-true s.reversed both.0; checked = record { order = both.1; references = r; bytes = b } }

holds : (k : Loaded) (f : File) (w : World) (m : Memory) (s : InputSection) → Laws → Known k f w → Follows w k.memory m → InputNumbers s → (k.layout.page_size % 4096 ≡ 0 → w.base % 4096 ≡ 0) → Plain k f s → ItemHolds k.layout w m (placed_item k.layout f s)
holds k f w m s laws known follows small pages p =
    let forward = p.forward in
    let item : Item = record { address = s.address; flags = s.flags; bytes = s.bytes; relocations = s.relocations; thunk_block = block_for k.layout f s } in
    let same : placed_item k.layout f s ≡ item = rw forward refl in
    subst (ItemHolds k.layout w m) (sym same) (item_holds k f w m item s laws (record { address = refl; flags = refl; bytes = refl; relocations = refl; small = small; known = known; follows = follows; pages = pages }) p.checked)

-- ---- each kept item

contains_middle : {X : Type 0} (xs ys zs : List X) (y : X) → zs ≡ xs ++ (y ∷ ys) → Contains zs y
contains_middle {X} xs ys zs y e = let P : List X → Type 0 = λ v. Contains v y in subst P (sym e) (Contains-append_right xs (y ∷ ys) y (Contains-here y ys))

-- a base is a multiple of the page size
page_base : (b p : ℕ) → b % p ≡ 0 → p % 4096 ≡ 0 → b % 4096 ≡ 0
page_base b p h e = mod-eq-zero_of_dvd 4096 (dvd_trans 4096 (dvd_of_mod-eq-zero 4096 e) (dvd_of_mod-eq-zero p h))

small_section : (l : Layout) (g : Group) (f : File) (s : InputSection) → NumbersFit l → Contains l.groups g → Contains g.files f → Contains f.sections s → InputNumbers s
small_section l g f s n in-groups in-files in-sections =
    let group = All-contains (λ (g : Group). All (λ (f : File). All InputNumbers f.sections) g.files) l.groups g n.inputs in-groups in
    let file = All-contains (λ (f : File). All InputNumbers f.sections) g.files f group in-files in
    All-contains InputNumbers f.sections s file in-sections

kept_holds : (l : Layout) (o : Outline) (w : World) (m : Memory) (image : List ℕ) (t : Symbolic) → Laws → RawValuesAreAddresses → NumbersFit l → IsWorldOf o w → IsLegal l w → Follows w t m → Found l o image t → (item : Item) → IsKept l item → ItemHolds l w m item
kept_holds l o w m image t laws raw numbers world legal follows h item (OfSection s k e) =
    let i = k.input in
    let loaded : Loaded = loaded_image l o t in
    let r = none_at (doubtful_reference loaded) l.groups i.group i.file s h.references i.grouped i.filed i.listed in
    let b = none_at (changed_byte loaded) l.groups i.group i.file s h.bytes i.grouped i.filed i.listed in
    let other = no_frame s k.loaded in
    let p = plain loaded i.file s (no_frames l s other) (in_memory l s k.loaded k.room k.has_data (section_written l s other k.written)) r b in
    let known : Known loaded i.file w = record { group = i.group; grouped = i.grouped; filed = i.filed; ordered = refl; numbers = numbers; world = world; own = legal.symbols.known; resolvers = legal.resolvers; raw = raw } in
    subst (ItemHolds l w m) (sym e) (holds loaded i.file w m s laws known follows (small_section l i.group i.file s numbers i.grouped i.filed i.listed) (page_base w.base l.page_size legal.aligned) p)
kept_holds l o w m image t laws raw numbers world legal follows h item (OfFrames s k e) =
    let loaded : Loaded = loaded_image l o t in
    let r = none_at (doubtful_reference loaded) l.groups k.group k.file s h.references k.grouped (contains_middle k.files k.files_behind k.group.files k.file k.filed) (contains_middle k.sections k.sections_behind k.file.sections s k.listed) in
    let frame : is_frame s.slot ≡ true = ap is_frame k.frame in
    let filled = k.has_data in
    let there = frames_written l s frame k.written in
    let is : has_frames l s ≡ true = has_all (is_frame s.slot) s.nobits (is_omitted l s) frame filled there in
    let no : (let x : Option ℕ = Some 0 in x) ≡ None = rw is at r in
    absurd cc

-- ---- the whole

whole_kind : (k : OutputKind) → IsLoadable k → is_partial_link k ≡ false
whole_kind (output.StaticExecutable model) can = refl
whole_kind (output.DynamicExecutable model) can = refl
whole_kind output.SharedObject can = refl
whole_kind output.PartialObject can = elim can [ inl x ↦ absurd x | inr y ↦ absurd y ]

pub founded : TermsAreLoaded → WorldsAreOutlined → Laws → RawValuesAreAddresses → YesIsFounded
founded loaded outlined laws raw l image numbers small answer can w legal =
    let e = whole_kind l.kind can in
    let h : IsOutlined l image Yes = rw e at answer in
    by_terms h (terms_of h.outline image) refl h.said
  where
    by_fault : (f : LoadFault) → IsRefusal f Yes → HoldsIn l w image
    by_fault faults.OutOfMemory h = absurd h
    by_fault faults.NotElf h = cc
    by_fault (faults.Cut n) h = cc
    by_fault (faults.NoTable n) h = cc
    by_fault (faults.UnknownDynamic n) h = cc
    by_fault (faults.UnknownSymbol n) h = cc
    by_fault (faults.NoAnswer n) h = cc
    by_fault (faults.Unloaded n) h = cc
    by_fault (faults.Wraps n) h = cc
    by_fault (faults.Overlap n) h = cc

    by_terms : (h : IsOutlined l image Yes) → (r : Result Symbolic LoadFault) → terms_of h.outline image ≡ r → IsReadVerdict l h.outline image r Yes → HoldsIn l w image
    by_terms h (Err fault) e said = by_fault fault said
    by_terms h (Ok s) e said =
        let t = said.sorted in
        let f = found l h.outline image t said.verdict.doubt said.verdict.is said.verdict.said in
        let world = outlined l h.outline w can h.is legal in
        let m = loaded h.outline image s t w e said.order world (room_for l w image f.segments legal.ends) small in
        record { memory = m.0; accepted = m.1; kept = kept_holds l h.outline w m.0 image t laws raw numbers world legal m.2 f }
