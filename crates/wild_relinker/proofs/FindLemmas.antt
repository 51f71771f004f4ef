-- The section that a change names, before the change and after it.
use Rattle.std.proofs.Common.{◌≡◌, length, sym, ap, ◌∙◌, subst}
use Rattle.std.specs.Prelude.{Some, option_and_then, is_some, true, slice_get}
use Rattle.wild_types.specs.declared.input.InputSection.{InputSection}
use Rattle.wild_types.specs.declared.file.File.{File}
use Rattle.wild_types.specs.declared.file.Group.{Group}
use Rattle.wild_types.specs.declared.layout.Layout.{Layout}
use Rattle.wild_change.specs.declared.change.Change.{Change}
use Rattle.wild_change.specs.Change.{section_in_file, section_in_group, found_section, changed_section, changed_file, changed_group, changed_layout}
use Rattle.wild_outlines.proofs.ChangedItems.{FoundSection, FoundSection-from_found, slice_get-with_item}
use Rattle.wild_outlines.proofs.ListLemmas.{some_same}
use Rattle.wild_relinker.specs.Changed.{KeepsLength}
use Rattle.wild_relinker.specs.Find.{section_at, with_contents_of, IsNamed}
use Rattle.wild_relinker.specs.declared.find.NamedSection.{NamedSection}

-- a section found by its group and its file
pub record IsAt (l : Layout) (c : Change) (g : Group) (f : File) (s : InputSection) : Type 0 where
  pub group : slice_get l.groups c.group ≡ Some g
  pub file : slice_get g.files c.file ≡ Some f
  pub section : slice_get f.sections c.section ≡ Some s

pub section_at-is_at : (l : Layout) (c : Change) (g : Group) (f : File) (s : InputSection) → IsAt l c g f s → section_at l c ≡ Some s
section_at-is_at l c g f s h =
    ap (option_and_then (section_in_group c)) h.group ∙ (ap (option_and_then (section_in_file c)) h.file ∙ h.section)

-- a section that may be changed is at its place
pub section_at-found : (l : Layout) (c : Change) (s : InputSection) → FoundSection l c s → section_at l c ≡ Some s
section_at-found l c s p = section_at-is_at l c p.group p.file s (record { group = p.in_layout; file = p.in_group; section = p.in_file })

pub is_there : (l : Layout) (c : Change) (s : InputSection) → section_at l c ≡ Some s → is_some (section_at l c) ≡ true
is_there l c s h = ap is_some h

-- after the change, the changed section is at that place; d is any change that names the place
pub IsAt-changed : (l : Layout) (c : Change) (s : InputSection) (p : FoundSection l c s) → IsAt (changed_layout l c) c (changed_group c p.group) (changed_file c p.file) (changed_section c s)
IsAt-changed l c s p = record {
  group = slice_get-with_item (changed_group c) c.group l.groups p.group p.in_layout;
  file = slice_get-with_item (changed_file c) c.file p.group.files p.file p.in_group;
  section = slice_get-with_item (changed_section c) c.section p.file.sections s p.in_file;
}

-- what is at a place is one section of one file of one group
pub record IsSame (g h : Group) (f k : File) (s t : InputSection) : Type 0 where
  pub group : g ≡ h
  pub file : f ≡ k
  pub section : s ≡ t

pub one_section : (l : Layout) (c : Change) (g h : Group) (f k : File) (s t : InputSection) → IsAt l c g f s → IsAt l c h k t → IsSame g h f k s t
one_section l c g h f k s t a b =
    let group : g ≡ h = some_same (sym a.group ∙ b.group) in
    let file : f ≡ k = some_same (sym a.file ∙ (ap (λ (x : Group). slice_get x.files c.file) group ∙ b.file)) in
    let section : s ≡ t = some_same (sym a.section ∙ (ap (λ (x : File). slice_get x.sections c.section) file ∙ b.section)) in
    record { group = group; file = file; section = section }

-- the change that undoes another names the same place
pub IsAt-undone : (l : Layout) (c : Change) (g : Group) (f : File) (s t : InputSection) → IsAt l c g f s → IsAt l (with_contents_of t c) g f s
IsAt-undone l c g f s t h = record { group = h.group; file = h.file; section = h.section }

-- ---- a section that can be changed

pub record CanChange (l : Layout) (c : Change) (s : InputSection) : Type 0 where
  pub found : found_section l c ≡ Some s
  pub same_length : length c.bytes ≡ length s.bytes
  pub place : FoundSection l c s

pub CanChange-named : (l : Layout) (c : Change) (x : NamedSection) → KeepsLength l c → IsNamed l c x → CanChange l c x.section.now
CanChange-named l c x k h =
    let p = FoundSection-from_found l c k.section k.found in
    let a : IsAt l c p.group p.file k.section = record { group = p.in_layout; file = p.in_group; section = p.in_file } in
    let b : IsAt l c x.group.now x.file.now x.section.now = record { group = h.group; file = h.file; section = h.section } in
    let q = one_section l c p.group x.group.now p.file x.file.now k.section x.section.now a b in
    subst (CanChange l c) q.section (record { found = k.found; same_length = k.same_length; place = p })

-- the section that a change names is there, if it may be changed
pub is_there_kept : (l : Layout) (c : Change) → KeepsLength l c → is_some (section_at l c) ≡ true
is_there_kept l c k = ap is_some (section_at-found l c k.section (FoundSection-from_found l c k.section k.found))

-- and it is there after the change too
pub is_there_again : (l : Layout) (c : Change) (s : InputSection) (m : Layout) (d : Change) → CanChange l c s → m ≡ changed_layout l c → d ≡ with_contents_of s c → is_some (section_at m d) ≡ true
is_there_again l c s m d h e u =
    let a = IsAt-undone (changed_layout l c) c (changed_group c h.place.group) (changed_file c h.place.file) (changed_section c s) s (IsAt-changed l c s h.place) in
    rw (e, u) (ap is_some (section_at-is_at (changed_layout l c) (with_contents_of s c) (changed_group c h.place.group) (changed_file c h.place.file) (changed_section c s) a))

-- what is found there then
pub changed_parts : (l : Layout) (c : Change) (s : InputSection) (m : Layout) (d : Change) (x : NamedSection) → (h : CanChange l c s) → m ≡ changed_layout l c → d ≡ with_contents_of s c → IsNamed m d x
    → IsSame x.group.now (changed_group c h.place.group) x.file.now (changed_file c h.place.file) x.section.now (changed_section c s)
changed_parts l c s m d x h e u named =
    let a : IsAt m d x.group.now x.file.now x.section.now = record { group = named.group; file = named.file; section = named.section } in
    let b : IsAt (changed_layout l c) (with_contents_of s c) x.group.now x.file.now x.section.now = rw (e, u) at a in
    one_section (changed_layout l c) (with_contents_of s c) x.group.now (changed_group c h.place.group) x.file.now (changed_file c h.place.file) x.section.now (changed_section c s) b
    (IsAt-undone (changed_layout l c) c (changed_group c h.place.group) (changed_file c h.place.file) (changed_section c s) s (IsAt-changed l c s h.place))
