-- The parts of a look-up in the image of a layout without faults.
use Rattle.wild_loaded.proofs.KindLemmas.{dynamic_whole}
use Rattle.wild_names.proofs.Common.{◌≡◌, ◌≢◌, ℕ, zero, suc, ◌-◌, ◌/◌, ◌<◌, ◌≤◌, ◌==◌, inl, inr, Bool, true, false, List, [], ◌∷◌, ◌++◌, length, replicate, Some, None, Ok, get_or, refl, sym, ap, ◌∙◌, arith, subst, Contains, nat_le, list_any, cases_Bool, le-leb, ne_eqb, All-contains, dt_hash, dt_gnu_hash, DynamicEntry, ProgramHeader, Part, Role, Layout, first_listed, needs_dynamic, role_place, part_with, not_hollow_at, section_headers_of, all_needed, IsLaidOut, TablesStand, bytes, is_loadable_header, HasHeaders, entries_before_null, value_of_tag, tables_of, bytes_or_none, AreNumbered, ImageLaws, NameLaws}
use Rattle.wild_records.specs.Abi.Dynamic.{dt_symtab, dt_strtab, dt_strsz}
use Rattle.wild_needs.specs.declared.dynamic.DynamicTag.{DynamicTag}
use Rattle.wild_needs.specs.declared.dynamic.DynamicTag.TheVariants as tags
use Rattle.wild_types.specs.declared.kind.OutputKind.{OutputKind}
use Rattle.wild_types.specs.declared.kind.OutputKind.TheVariants as output
use Rattle.wild_types.specs.declared.kind.RelocationModel.TheVariants as model
use Rattle.wild_types.specs.declared.part.Role.TheVariants as role
use Rattle.wild_needs.specs.Dynamic.{dynamic_number, dynamic_entry, dynamic_count}
use Rattle.wild_needs.specs.DynamicPlaces.{part_address, part_size, filled_part, unless_empty}
use Rattle.wild_types.specs.HeaderOnly.{KeepsAll}
use Rattle.wild_types.specs.Lookups.{image_size}
use Rattle.wild_types.specs.Parts.{is_hash_role, is_look_up_role, has_hashes}
use Rattle.wild_table_formats.specs.Headers.{file_header}
use Rattle.wild_table_formats.specs.DynamicSection.{dynamic_records, null_entry}
use Rattle.wild_layout.specs.Loadable.{SegmentLoads}
use Rattle.wild_meaning.specs.World.{IsLoadable}
use Rattle.wild_hashes.specs.declared.image.Part.{Part as Found}
use Rattle.wild_hashes.specs.declared.image.Parts.{Parts}
use Rattle.wild_hashes.specs.Image.{part_of, strings_of, parts_by}
use Rattle.wild_loaded.specs.Laws.{HasEntries}
use Rattle.wild_loaded.specs.Memory.{headers_of}
use Rattle.wild_names.specs.LookUpLaws.{IsWritten}
use Rattle.wild_names.proofs.ImageTables.{parts_told}
use Rattle.wild_names.proofs.NumberedLemmas.{are_numbered}
use Rattle.wild_names.proofs.PartBytes.{IsFoundPart, found_part}
use Rattle.wild_names.proofs.ShapeLemmas.{well_formed}

-- ---- the image

-- what stands in the image
pub record IsRead (l : Layout) : Type 0 where
  pub keeps : KeepsAll l
  pub laid : IsLaidOut l
  pub headers : HasHeaders (bytes l) (file_header l) (headers_of l) (section_headers_of l l.sections)
  pub taken : is_loadable_header (file_header l) ≡ true
  pub entries : HasEntries l

loadable_kind : (k : OutputKind) → needs_dynamic k ≡ true → IsLoadable k
loadable_kind (output.StaticExecutable model.Relocatable) h = inr tt
loadable_kind (output.StaticExecutable model.NonRelocatable) h = cc
loadable_kind (output.DynamicExecutable model.Relocatable) h = inr tt
loadable_kind (output.DynamicExecutable model.NonRelocatable) h = inl tt
loadable_kind output.SharedObject h = inr tt
loadable_kind output.PartialObject h = cc

pub is_read : (l : Layout) → ImageLaws → IsWritten l → IsRead l
is_read l laws w =
    let formed = well_formed l w.none in
    let laid = laws.laid l formed.0 formed.1 in
    let kind = loadable_kind l.kind w.dynamic in
    record {
      keeps = w.keeps;
      laid = laid;
      headers = laws.headers.stand l kind w.numbers laid;
      taken = laws.headers.taken l kind;
      entries = laws.sections l w.keeps w.dynamic w.numbers laid;
    }

-- ---- the entries of the dynamic section

-- those that a look-up reads
abbrev pub entries_read : Layout → ℕ → List DynamicEntry
entries_read l room = entries_before_null (all_needed l ++ dynamic_records l room)

tag_has_value : (l : Layout) (room : ℕ) (tag : DynamicTag) → ImageLaws → needs_dynamic l.kind ≡ true → tag ≢ tags.Null → value_of_tag (dynamic_number tag) (entries_read l room) ≡ dynamic_entry l tag
tag_has_value l room tag laws needs other = laws.found l (all_needed l) (replicate (room / 16 - dynamic_count l) null_entry) tag (laws.needed.names l l.groups) needs other

pub sysv_told : (l : Layout) (room : ℕ) → ImageLaws → needs_dynamic l.kind ≡ true → value_of_tag dt_hash (entries_read l room) ≡ part_address (filled_part l role.SysvHash)
unfolding dynamic_number dynamic_entry
sysv_told l room laws needs = tag_has_value l room tags.SysvHash laws needs (λ e. cc)

pub gnu_told : (l : Layout) (room : ℕ) → ImageLaws → needs_dynamic l.kind ≡ true → value_of_tag dt_gnu_hash (entries_read l room) ≡ part_address (filled_part l role.GnuHash)
unfolding dynamic_number dynamic_entry
gnu_told l room laws needs = tag_has_value l room tags.GnuHash laws needs (λ e. cc)

pub symbols_told : (l : Layout) (room : ℕ) → ImageLaws → needs_dynamic l.kind ≡ true → value_of_tag dt_symtab (entries_read l room) ≡ part_address (part_with role.Dynsym l.parts)
unfolding dynamic_number dynamic_entry
symbols_told l room laws needs = tag_has_value l room tags.SymbolTable laws needs (λ e. cc)

pub strings_told : (l : Layout) (room : ℕ) → ImageLaws → needs_dynamic l.kind ≡ true → value_of_tag dt_strtab (entries_read l room) ≡ part_address (part_with role.Dynstr l.parts)
unfolding dynamic_number dynamic_entry
strings_told l room laws needs = tag_has_value l room tags.StringTable laws needs (λ e. cc)

size_told : (l : Layout) (room : ℕ) → ImageLaws → needs_dynamic l.kind ≡ true → value_of_tag dt_strsz (entries_read l room) ≡ part_size (part_with role.Dynstr l.parts)
unfolding dynamic_number dynamic_entry
size_told l room laws needs = tag_has_value l room tags.StringSize laws needs (λ e. cc)

-- the parts of a look-up in the table of a tag
pub parts_read : (l : Layout) (tag : ℕ) → ImageLaws → (r : IsRead l) → tables_of (bytes l) tag ≡ parts_by (bytes l) (headers_of l) (entries_read l r.entries.room) (value_of_tag tag (entries_read l r.entries.room))
parts_read l tag laws r = parts_told (bytes l) (file_header l) (headers_of l) (section_headers_of l l.sections) (all_needed l ++ dynamic_records l r.entries.room) tag laws.records r.headers r.taken r.entries.dynamic

-- ---- the parts of the layout

passes-later : {X : Type 0} (test : X → Bool) (y : X) (ys : List X) → list_any test ys ≡ true → list_any test (y ∷ ys) ≡ true
passes-later test y ys e = elim (cases_Bool (test y)) [
  | inl t ↦ rw t refl
  | inr n ↦ rw n e
]

any-from_place : {X : Type 0} (test : X → Bool) (xs : List X) (x : X) (k : ℕ) → k < length xs → get_or xs k x ≡ x → test x ≡ true → list_any test xs ≡ true
any-from_place test [] x k lt e t = absurd (omega (arith, lt))
any-from_place test (y ∷ ys) x zero lt e t = (let here : test y ≡ true = subst (λ z. test z ≡ true) (sym e) t in rw here refl)
any-from_place test (y ∷ ys) x (suc k) lt e t = passes-later test y ys (any-from_place test ys x k (omega (arith, lt)) e t)

any-contains : {X : Type 0} (test : X → Bool) (xs : List X) (x : X) → Contains xs x → test x ≡ true → list_any test xs ≡ true
any-contains test xs x c t = any-from_place test xs x c.0 c.1 c.2 t

-- a layout with the part of a hash table has one
with_hash : (l : Layout) (r : Role) (p : Part) → IsLaidOut l → is_hash_role r ≡ true → (role_place r ≡ 0 → ⊥) → part_with r l.parts ≡ Some p → has_hashes l ≡ true
with_hash l r p laid hash loaded found =
    let t = (laid.roles r loaded).there p found in
    any-contains (λ (q : Part). is_hash_role q.role) l.parts p t.listed (subst (λ (x : Role). is_hash_role x ≡ true) (sym t.has) hash)

-- a look-up finds a part that is not empty
pub found_role : (l : Layout) (r : Role) (p : Part) → TablesStand → KeepsAll l → IsLaidOut l → needs_dynamic l.kind ≡ true → has_hashes l ≡ true → is_look_up_role r ≡ true → (role_place r ≡ 0 → ⊥) → part_with r l.parts ≡ Some p → 1 ≤ p.size → (f : Found) × IsFoundPart (bytes l) (headers_of l) p f
found_role l r p stand keeps laid needs hashes asked loaded found some =
    let written = not_hollow_at l p.section keeps in
    let c = (laid.loadable (dynamic_whole l.kind needs)).look_ups needs hashes r p asked found written some in
    let loads = All-contains (SegmentLoads (image_size l)) l.segments c.segment (laid.loadable (dynamic_whole l.kind needs)).each c.listed in
    let size = ((laid.roles r loaded).there p found).size in
    let within = (stand l laid r loaded p found written some).fits in
    (_, found_part l (bytes l) p (laid.loadable (dynamic_whole l.kind needs)).ascend c loads some (omega (arith, size, within)))

-- ---- the parts of a look-up

-- the parts of a look-up in the table of a tag, which is in this part
pub record HasParts (l : Layout) (tag : ℕ) (p : Part) : Type 0 where
  pub parts : Parts
  pub is : tables_of (bytes l) tag ≡ Ok (Some parts)
  pub start : parts.hashes.start ≡ p.offset
  pub room : p.size ≤ parts.hashes.size
  pub numbered : AreNumbered (bytes_or_none (bytes l) parts.symbols) (bytes_or_none (bytes l) parts.strings) (first_listed l) l.dynsyms

pub at_address : (image : List ℕ) (hs : List ProgramHeader) (tag : ℕ) (p : Part) (f : Found) → IsFoundPart image hs p f → part_of image hs tag (Some p.address) ≡ Ok f
unfolding part_of
at_address image hs tag p f found = found.is

-- so many of its bytes
abbrev first_of : Found → ℕ → Found
first_of f n = record f { size = n }

strings_at : (image : List ℕ) (hs : List ProgramHeader) (p : Part) (f : Found) → IsFoundPart image hs p f → strings_of image hs (Some p.address) (Some p.size) ≡ Ok (first_of f p.size)
unfolding strings_of
strings_at image hs p f found =
    let fits : nat_le p.size f.size ≡ true = le-leb _ _ found.room in
    rw (found.is, fits) refl

-- a part that is not empty is a filled one
pub filled_is : (l : Layout) (r : Role) (p : Part) → part_with r l.parts ≡ Some p → 1 ≤ p.size → filled_part l r ≡ Some p
filled_is l r p found some = let e : (p.size == 0) ≡ false = ne_eqb p.size 0 (λ z. omega (arith, some, z)) in ap unless_empty found ∙ rw e refl

pub has_parts : (l : Layout) (r : Role) (tag : ℕ) (p : Part) → ImageLaws → NameLaws → (read : IsRead l) → needs_dynamic l.kind ≡ true → is_hash_role r ≡ true → is_look_up_role r ≡ true → (role_place r ≡ 0 → ⊥) → value_of_tag tag (entries_read l read.entries.room) ≡ part_address (filled_part l r) → part_with r l.parts ≡ Some p → 1 ≤ p.size → HasParts l tag p
has_parts l r tag p laws names read needs hash asked loaded telling found some =
    let laid = read.laid in
    let keeps = read.keeps in
    let room = read.entries.room in
    let hashes = with_hash l r p laid hash loaded found in
    let own = found_role l r p laws.stand keeps laid needs hashes asked loaded found some in
    let t = names.there l laid needs in
    let all = names.stand l laid needs t.table t.strings t.symbols t.names (not_hollow_at l t.table.section keeps) (not_hollow_at l t.strings.section keeps) in
    let size = all.whole in
    let table = found_role l role.Dynsym t.table laws.stand keeps laid needs hashes refl (λ e. cc) t.symbols (omega (arith, size)) in
    let strings = found_role l role.Dynstr t.strings laws.stand keeps laid needs hashes refl (λ e. cc) t.names t.some in
    let here : value_of_tag tag (entries_read l room) ≡ Some p.address = telling ∙ ap part_address (filled_is l r p found some) in
    let symbols : value_of_tag dt_symtab (entries_read l room) ≡ Some t.table.address = symbols_told l room laws needs ∙ ap part_address t.symbols in
    let text : value_of_tag dt_strtab (entries_read l room) ≡ Some t.strings.address = strings_told l room laws needs ∙ ap part_address t.names in
    let text_size : value_of_tag dt_strsz (entries_read l room) ≡ Some t.strings.size = size_told l room laws needs ∙ ap part_size t.names in
    record {
      parts = record { hashes = own.0; symbols = Ok table.0; strings = Ok (first_of strings.0 t.strings.size) };
      is = parts_read l tag laws read ∙ rw (here, own.1.is, symbols, text, text_size, at_address (bytes l) (headers_of l) dt_symtab t.table table.0 table.1, strings_at (bytes l) (headers_of l) t.strings strings.0 strings.1) refl;
      start = own.1.start;
      room = own.1.room;
      numbered = are_numbered l t.table t.strings table.0 (first_of strings.0 t.strings.size) all (record { start = table.1.start; room = table.1.room; strings_start = strings.1.start; strings_room = omega arith }) laid.indexes laid.dynsyms.named;
    }

-- without the part of a table, or with an empty one, there are none
pub no_parts : (l : Layout) (r : Role) (tag : ℕ) → ImageLaws → (read : IsRead l) → value_of_tag tag (entries_read l read.entries.room) ≡ part_address (filled_part l r) → filled_part l r ≡ None → tables_of (bytes l) tag ≡ Ok None
no_parts l r tag laws read telling missing =
    let none : value_of_tag tag (entries_read l read.entries.room) ≡ None = telling ∙ ap part_address missing in
    parts_read l tag laws read ∙ rw none refl
