-- Dynamic sections of worked images, whose layouts have no table that an entry must lead to.
use Rattle.wild_meaning.proofs.Common.{◌≡◌, ◌≢◌, ◌==◌, inl, inr, false, ℕ, ◌/◌, ◌%◌, ◌<◌, ◌≤◌, List, [], ◌∷◌, length, refl, sym, ap, ◌∙◌, subst, arith, Option, Some, None, All, Contains, codes, eqb-false, All-from_recursion, All-contains, dt_pltrelsz, dt_jmprel, dt_symtab, dt_relr, dt_relrsz, rela_size, relr_size, DynamicEntry, Part, Section, Segment, Layout, value_of_tag}
use Rattle.wild_records.specs.Abi.Dynamic.{dt_needed, dt_auxiliary, dt_hash, dt_gnu_hash, dt_strtab, dt_relasz, dt_init, dt_fini, dt_preinit_array, dt_preinit_arraysz, dt_init_array, dt_init_arraysz, dt_fini_array, dt_fini_arraysz, dt_versym, dt_verdef, dt_verneed}
use Rattle.wild_records.specs.Abi.Segment.{pt_dynamic}
use Rattle.wild_types.specs.declared.part.Role.{Role}
use Rattle.wild_types.specs.declared.part.Role.TheVariants as role
use Rattle.wild_types.specs.Parts.{part_with}
use Rattle.wild_meaning.specs.Segments.{HasDynamicLinker, HasDynamicSection}
use Rattle.wild_meaning.proofs.SymbolUnique.{only}
use Rattle.wild_meaning.specs.DynamicSection.{HasWholeSize, HasOneValue, LeadsToPart, LeadsToTables, LeadsToFunctions, address_of_section, size_of_section}

-- the entries of a dynamic section with one table, of one entry
abbrev pub one_entry : ℕ → List DynamicEntry
one_entry a =
    record { tag = 7; value = a } ∷ record { tag = 8; value = 24 } ∷ record { tag = 9; value = 24 } ∷ record { tag = 30; value = 8 }
    ∷ record { tag = 0x6ffffffb; value = 1 } ∷ []

-- an output that no dynamic linker loads, and whose one segment is another, has no dynamic section
pub no_dynamic_section : (l : Layout) (g : Segment) → (HasDynamicLinker l.kind → ⊥) → l.segments ≡ g ∷ [] → (g.kind == pt_dynamic) ≡ false → HasDynamicSection l → ⊥
no_dynamic_section l g linker one other (inl h) = linker h
no_dynamic_section l g linker one other (inr o) = eqb-false g.kind pt_dynamic other (ap (λ (s : Segment). s.kind) (only g o.segment (subst (λ (gs : List Segment). Contains gs o.segment) one o.listed)) ∙ o.dynamic)

-- no such tag
pub no_size : (ds : List DynamicEntry) (tag size : ℕ) → value_of_tag tag ds ≡ None → HasWholeSize ds tag size
no_size ds tag size none = λ n h. absurd (let both : None ≡ Some n = sym none ∙ h in cc)

pub whole_size : (a : ℕ) → HasWholeSize (one_entry a) dt_relasz rela_size
unfolding value_of_tag
whole_size a = λ n h. (let same : 24 ≡ n = (let both : Some 24 ≡ Some n = h in cc) in subst (λ (k : ℕ). k % rela_size ≡ 0) same refl)

pub no_part : (l : Layout) (ds : List DynamicEntry) (tag : ℕ) (r : Role) → l.parts ≡ [] → value_of_tag tag ds ≡ None → LeadsToPart l ds tag r
no_part l ds tag r parts none = record {
  there = λ p h some. absurd (let both : None ≡ Some p = subst (λ (ps : List Part). part_with r ps ≡ Some p) parts h in cc);
  only = λ a h. absurd (let both : None ≡ Some a = sym none ∙ h in cc);
}

-- each entry has the value that is found first
abbrev IsFirst : List DynamicEntry → DynamicEntry → Type 0
IsFirst ds d = value_of_tag d.tag ds ≡ Some d.value

pub one_value_each : (a : ℕ) → HasOneValue (one_entry a)
unfolding value_of_tag
one_value_each a = λ d c needed auxiliary. All-contains (IsFirst (one_entry a)) (one_entry a) d (All-from_recursion (IsFirst (one_entry a)) (one_entry a) (refl, (refl, (refl, (refl, (refl, tt)))))) c

pub no_tables : (l : Layout) (a : ℕ) → l.parts ≡ [] → LeadsToTables l (one_entry a)
unfolding value_of_tag
no_tables l a parts = record {
  strings = no_part l (one_entry a) dt_strtab role.Dynstr parts refl;
  string_size = λ p h some. absurd (let both : None ≡ Some p = subst (λ (ps : List Part). part_with role.Dynstr ps ≡ Some p) parts h in cc);
  symbols = no_part l (one_entry a) dt_symtab role.Dynsym parts refl;
  hash = no_part l (one_entry a) dt_hash role.SysvHash parts refl;
  gnu_hash = no_part l (one_entry a) dt_gnu_hash role.GnuHash parts refl;
  versions = no_part l (one_entry a) dt_versym role.GnuVersion parts refl;
  definitions = no_part l (one_entry a) dt_verdef role.GnuVersionD parts refl;
  needs = no_part l (one_entry a) dt_verneed role.GnuVersionR parts refl;
  stubs = no_part l (one_entry a) dt_jmprel role.RelaPlt parts refl;
  words = no_part l (one_entry a) dt_relr role.RelrDyn parts refl;
}

-- a layout without sections has no such functions
abbrev HasNone : Layout → List ℕ → Type 0
HasNone l name = (None ≡ address_of_section l name) × (None ≡ size_of_section l name)

none_there : (l : Layout) (name : List ℕ) → l.sections ≡ [] → HasNone l name
none_there l name sections = (rw sections refl, rw sections refl)

pub no_functions : (l : Layout) (a : ℕ) → l.sections ≡ [] → LeadsToFunctions l (one_entry a)
unfolding value_of_tag
no_functions l a sections = record {
  init = (none_there l (codes ".init") sections).0;
  fini = (none_there l (codes ".fini") sections).0;
  preinit_array = (none_there l (codes ".preinit_array") sections).0;
  preinit_size = (none_there l (codes ".preinit_array") sections).1;
  init_array = (none_there l (codes ".init_array") sections).0;
  init_size = (none_there l (codes ".init_array") sections).1;
  fini_array = (none_there l (codes ".fini_array") sections).0;
  fini_size = (none_there l (codes ".fini_array") sections).1;
}
