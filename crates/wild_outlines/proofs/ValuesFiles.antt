-- Files and input sections of an outline, addresses of symbols, and what is counted of files.
use Rattle.wild_outlines.proofs.Common.{◌≡◌, ℕ, length, Option, Some, None, option_map, slice_get, inl, inr, refl, sym, ap, ◌∙◌, cases_Bool, length-replicate, slice_get-map, File, InputSection, Layout, Role, Place, Group, files_of, file_of, output_section, outline_section, outline_file, outline_group, outline, is_changeable}
use Rattle.wild_types.specs.Addresses.{address_at, address_in_file, address_in_section, raw_value}
use Rattle.wild_types.specs.Shares.{share_of, given_by, part_of}
use Rattle.wild_types.specs.declared.symbol.Place.TheVariants as at
use Rattle.wild_outlines.proofs.ListLemmas.{map-same, map-map}
use Rattle.wild_outlines.proofs.ClausesGroups.{file_of-layout, output_section-outline, given_by-option}

-- ---- an outline is its own outline

outline_section-again : (s : InputSection) → outline_section (outline_section s) ≡ outline_section s
outline_section-again s =
    elim (cases_Bool (is_changeable s.slot)) [
      | inl t ↦ rw (t, length-replicate {A = ℕ} (length s.bytes) 0) refl
      | inr n ↦ rw n refl
    ]

outline_file-again : (f : File) → outline_file (outline_file f) ≡ outline_file f
outline_file-again f = ap (λ ss. record f { sections = ss }) (map-map outline_section outline_section f.sections ∙ map-same (λ s. outline_section (outline_section s)) outline_section f.sections outline_section-again)

outline_group-again : (g : Group) → outline_group (outline_group g) ≡ outline_group g
outline_group-again g = ap (λ fs. record g { files = fs }) (map-map outline_file outline_file g.files ∙ map-same (λ f. outline_file (outline_file f)) outline_file g.files outline_file-again)

outline-again : (l : Layout) → outline (outline l) ≡ outline l
outline-again l = ap (λ gs. record l { groups = gs }) (map-map outline_group outline_group l.groups ∙ map-same (λ g. outline_group (outline_group g)) outline_group l.groups outline_group-again)

-- what depends only on the outlines of a layout and of a file is the same for the file itself; the same of a group
pub same_file : {X : Type 0} (d : Layout → File → X) → ((l : Layout) (f : File) → d (outline l) (outline_file f) ≡ d l f) → (l : Layout) (f : File) → d (outline l) f ≡ d l f
same_file d h l f = sym (h (outline l) f) ∙ (ap (λ m. d m (outline_file f)) (outline-again l) ∙ h l f)

pub same_group : {X : Type 0} (d : Layout → Group → X) → ((l : Layout) (g : Group) → d (outline l) (outline_group g) ≡ d l g) → (l : Layout) (g : Group) → d (outline l) g ≡ d l g
same_group d h l g = sym (h (outline l) g) ∙ (ap (λ m. d m (outline_group g)) (outline-again l) ∙ h l g)

-- ---- places of symbols

pub output_section-same_file : (l : Layout) (f : File) (p : Place) → output_section (outline l) (Some f) p ≡ output_section l (Some f) p
output_section-same_file l f p = same_file (λ m g. output_section m (Some g) p) (λ m g. output_section-outline m (Some g) p) l f

address_in_section-outline : (l : Layout) (value : ℕ) (o : Option InputSection) → address_in_section (outline l) value (option_map outline_section o) ≡ address_in_section l value o
address_in_section-outline l value None = refl
address_in_section-outline l value (Some s) = refl

address_in_file-outline : (l : Layout) (k value : ℕ) (o : Option File) → address_in_file (outline l) k value (option_map outline_file o) ≡ address_in_file l k value o
address_in_file-outline l k value None = refl
address_in_file-outline l k value (Some f) = ap (address_in_section (outline l) value) (slice_get-map outline_section f.sections k) ∙ address_in_section-outline l value (slice_get f.sections k)

address_at-outline : (l : Layout) (i value : ℕ) (p : Place) → address_at (outline l) i value p ≡ address_at l i value p
address_at-outline l i value (at.Section k) = ap (address_in_file (outline l) k value) (file_of-layout l.groups i) ∙ address_in_file-outline l k value (file_of (files_of l.groups) i)
address_at-outline l i value other = refl

pub raw_value-outline : (l : Layout) (i : ℕ) → raw_value (outline l) i ≡ raw_value l i
unfolding raw_value
raw_value-outline l i = simp (address_at-outline l)

pub share_of-outline : (l : Layout) (group : ℕ) (r : Role) → share_of (outline l) group r ≡ share_of l group r
share_of-outline l group r = ap (given_by (part_of l r)) (slice_get-map outline_group l.groups group) ∙ given_by-option (part_of l r) (slice_get l.groups group)
