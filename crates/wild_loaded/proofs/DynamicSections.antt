-- The dynamic section of an image, and the tables that it names.
use Rattle.wild_loaded.proofs.KindLemmas.{dynamic_whole}
use Rattle.wild_loaded.proofs.Common.{◌≡◌, ℕ, suc, ◌+◌, ◌-◌, ◌*◌, ◌/◌, ◌≤◌, inl, inr, Bool, true, if◌then◌else◌, List, [], ◌∷◌, ◌++◌, length, map, replicate, refl, sym, ap, ◌∙◌, arith, subst, Option, Some, None, Contains, ◌==◌, flat_map, cases_Bool, length-append, length-replicate, All-nil, All-append, All-contains, HasBytesAt, dynamic_entry_size, DynamicEntry, ProgramHeader, Part, Segment, Layout, dynamic_number, dynamic_entry, part_with, KeepsAll, needs_dynamic, not_hollow_at, image_size, program_header, bytes, NumbersFit, SegmentLoads, table_bytes, IsLaidOut, TablesStand, value_of_tag, word_bytes, rela_bytes, IsTableOf, entries_before_null, PairIsPlaced, HasWholeSlots, TablesAreFound, tables_of}
use Rattle.wild_words.proofs.OverlayLemmas.{HasBytesAt-inner}
use Rattle.wild_records.specs.Abi.Segment.{pt_dynamic}
use Rattle.wild_records.specs.Dynamic.{DynamicEntryFits}
use Rattle.wild_types.specs.declared.part.Role.TheVariants as role
use Rattle.wild_needs.specs.declared.dynamic.DynamicTag.TheVariants as tags
use Rattle.wild_needs.specs.Dynamic.{dynamic_flags, dynamic_entries, dynamic_count}
use Rattle.wild_layout.specs.Loadable.{first_dynamic}
use Rattle.wild_layout.specs.TablePlaces.{all_needed}
use Rattle.wild_layout.specs.Content.{dynamic_room}
use Rattle.wild_loader.specs.Tables.{first_dynamic as found_dynamic}
use Rattle.wild_loader.specs.Laws.{HasDynamic, HasTables}
use Rattle.wild_table_formats.specs.DynamicSection.{dynamic_records, dynamic_bytes, entries_bytes, IsNeeded, NeededAreOfLibraries, LengthsOfRecords, RecordsAreInOrder, RecordsFit, EntriesAreFound, TablesAreNamed}
use Rattle.wild_relr.specs.Laws.{WordsFit}
use Rattle.wild_loader.proofs.TableLemmas.{no_tag}
use Rattle.wild_loaded.specs.Laws.{DynamicSectionsAreThere}
use Rattle.wild_loaded.proofs.Loads.{length-bytes}
use Rattle.wild_loaded.proofs.TablesFit.{entries_fit, jumps_fit, words_fit}
use Rattle.wild_loaded.proofs.PairPlace.{pair_low}
use Rattle.wild_loaded.proofs.TableBytes.{words_are, entries_are, jumps_are, words_named, entries_named, jumps_named}

-- what the crates below owe of a dynamic section
pub record SectionLaws : Type 0 where
  pub stand : TablesStand
  pub needed : NeededAreOfLibraries
  pub lengths : LengthsOfRecords
  pub records : RecordsAreInOrder
  pub fit : RecordsFit
  pub found : EntriesAreFound

-- and of the tables that it names
pub record DynamicLaws : Type 0 where
  pub section : SectionLaws
  pub named : TablesAreNamed
  pub words : WordsFit
  pub pair : PairIsPlaced

-- ---- the part of the dynamic section

-- the dynamic section is there, with the entries of libraries, the last file's and the room behind them
pub record HasDynamicPart (l : Layout) : Type 0 where
  pub part : Part
  pub there : part_with role.Dynamic l.parts ≡ Some part
  pub some : 1 ≤ part.size
  pub room : ℕ
  pub fits : dynamic_entry_size * dynamic_count l ≤ room
  pub size : part.size ≡ dynamic_entry_size * length (all_needed l) + room
  pub bytes : table_bytes l role.Dynamic ≡ entries_bytes (all_needed l) ++ dynamic_bytes l room

-- some entry is there: DT_FLAGS is one of them
some_entry : (l : Layout) → EntriesAreFound → needs_dynamic l.kind ≡ true → 1 ≤ dynamic_count l
unfolding dynamic_entry
some_entry l law needs = by_entries (dynamic_entries l) (law l [] [] tags.Flags (All-nil IsNeeded) needs (λ e. cc))
  where
    by_entries : (ds : List DynamicEntry) → value_of_tag (dynamic_number tags.Flags) (entries_before_null (ds ++ [])) ≡ Some (dynamic_flags l.kind l.options) → 1 ≤ length ds
    by_entries [] h = (let e : None ≡ Some (dynamic_flags l.kind l.options) = sym (no_tag (dynamic_number tags.Flags)) ∙ h in cc)
    by_entries (d ∷ ds) h = omega arith

abbrev zeroed : ℕ
zeroed = 0

dynamic_part : (l : Layout) → LengthsOfRecords → EntriesAreFound → IsLaidOut l → needs_dynamic l.kind ≡ true → HasDynamicPart l
dynamic_part l lengths found laid needs =
    let p = (laid.loadable (dynamic_whole l.kind needs)).movable needs in
    let whole = laid.dynamic needs in
    let size = ((laid.roles role.Dynamic (λ e. cc)).there p.0 p.1).size in
    let bytes = ap (λ (bs : List ℕ). length bs) whole in
    let n = dynamic_entry_size * dynamic_count l in
    let f = dynamic_entry_size * length (all_needed l) in
    let behind = length-append (entries_bytes (all_needed l)) (dynamic_bytes l (dynamic_room l)) in
    let parts = length-append (entries_bytes (dynamic_entries l)) (replicate (dynamic_room l - n) zeroed) in
    let first = lengths (all_needed l) in
    let front = lengths (dynamic_entries l) in
    let rest = length-replicate (dynamic_room l - n) zeroed in
    let count = some_entry l found needs in
    let same : p.0.size - f - n ≡ dynamic_room l - n = omega (arith, size, bytes, behind, first, front, parts, rest) in
    record {
      part = p.0;
      there = p.1;
      some = omega (arith, size, bytes, behind, first, front, parts, rest, count);
      room = p.0.size - f;
      fits = omega (arith, size, bytes, behind, first, front, parts, rest);
      size = omega (arith, size, bytes, behind, first, front, parts, rest);
      bytes = whole ∙ ap (λ (k : ℕ). entries_bytes (all_needed l) ++ (entries_bytes (dynamic_entries l) ++ replicate k 0)) (sym same);
    }

-- ---- the segment of the dynamic section

kind_test : (l : Layout) (g : Segment) → ((program_header l g).kind == pt_dynamic) ≡ (g.kind == pt_dynamic)
unfolding program_header
kind_test l g = refl

pub first_header : (l : Layout) (gs : List Segment) (g : Segment) → first_dynamic gs ≡ Some g → found_dynamic (map (program_header l) gs) ≡ Some (program_header l g)
unfolding found_dynamic
first_header l [] g h = cc
first_header l (x ∷ xs) g h =
    let same = kind_test l x in
    elim (cases_Bool (x.kind == pt_dynamic)) [
      | inl t ↦ (let e : Some x ≡ Some g = rw t at h in let is : x ≡ g = cc in rw (same, t) (ap (λ (s : Segment). Some (program_header l s)) is))
      | inr f ↦ (let e : first_dynamic xs ≡ Some g = rw f at h in rw (same, f) (first_header l xs g e))
    ]

pub segment_place : (l : Layout) (g : Segment) → ((program_header l g).offset ≡ g.offset) × ((program_header l g).file_size ≡ g.file_size)
unfolding program_header
segment_place l g = (refl, refl)

pub first_listed : (gs : List Segment) (g : Segment) → first_dynamic gs ≡ Some g → Contains gs g
first_listed [] g h = cc
first_listed (x ∷ xs) g h =
    elim (cases_Bool (x.kind == pt_dynamic)) [
      | inl t ↦ (let e : Some x ≡ Some g = rw t at h in let is : x ≡ g = cc in (0, omega arith, is))
      | inr f ↦ (let e : first_dynamic xs ≡ Some g = rw f at h in let c = first_listed xs g e in (suc c.0, omega (arith, c.1), c.2))
    ]

-- ---- the dynamic section

-- all entries
abbrev all_records : Layout → ℕ → List DynamicEntry
all_records l room = all_needed l ++ dynamic_records l room

has_dynamic : (l : Layout) → SectionLaws → KeepsAll l → needs_dynamic l.kind ≡ true → NumbersFit l → IsLaidOut l → (d : HasDynamicPart l) → HasDynamic (bytes l) (map (program_header l) l.segments) (all_records l d.room)
has_dynamic l laws keeps needs numbers laid d =
    let written = not_hollow_at l d.part.section keeps in
    let s = (laid.loadable (dynamic_whole l.kind needs)).dynamic d.part d.there in
    let place = segment_place l s.segment in
    let c = first_listed l.segments s.segment s.first in
    let file = (All-contains (SegmentLoads (image_size l)) l.segments s.segment (laid.loadable (dynamic_whole l.kind needs)).each c).file in
    let n = length-bytes l laid in
    let at = laws.records l (all_needed l) d.room d.fits in
    let offset = place.0 ∙ s.offset in
    let size = place.1 ∙ s.file_size ∙ ap (λ (b : Bool). if b then 0 else d.part.size) written ∙ d.size in
    let o = place.0 in
    let z = place.1 in
    let here = laws.stand l laid role.Dynamic (λ e. cc) d.part d.there written d.some in
    let whole = subst (λ (bs : List ℕ). HasBytesAt (bytes l) d.part.offset bs) d.bytes here in
    let inner = HasBytesAt-inner (bytes l) (entries_bytes (all_needed l) ++ dynamic_bytes l d.room) (entries_bytes (all_records l d.room)) d.part.offset 0 whole at.stand in
    let nothing : d.part.offset + 0 ≡ (program_header l s.segment).offset = (let f : d.part.offset + 0 ≡ d.part.offset = omega arith in f ∙ sym offset) in
    record {
      segment = program_header l s.segment;
      first = first_header l l.segments s.segment s.first;
      room = omega (arith, file, n, o, z);
      count = ap (λ (k : ℕ). k / dynamic_entry_size) size ∙ at.count;
      fits = All-append DynamicEntryFits (all_needed l) (dynamic_records l d.room) (laws.needed.fit l l.groups numbers.starts) (laws.fit l d.room numbers.dynamic);
      entries = subst (λ (a : ℕ). HasBytesAt (bytes l) a (entries_bytes (all_records l d.room))) nothing inner;
    }

-- so it is found, whatever the tables are
pub entries_found : SectionLaws → DynamicSectionsAreThere
entries_found laws = λ l keeps needs numbers laid.
    let d = dynamic_part l laws.lengths laws.found laid needs in
    record { room = d.room; dynamic = has_dynamic l laws keeps needs numbers laid d }

-- ---- the tables

table_of : (image : List ℕ) (hs : List ProgramHeader) (a b c d : Option ℕ) (xs ys : List ℕ) → c ≡ a → d ≡ b → xs ≡ ys → IsTableOf image hs a b xs → IsTableOf image hs c d ys
table_of image hs a b c d xs ys e f g h =
    subst (λ (o : Option ℕ). IsTableOf image hs o d ys) (sym e) (subst (λ (o : Option ℕ). IsTableOf image hs a o ys) (sym f) (subst (λ (bs : List ℕ). IsTableOf image hs a b bs) g h))

has_tables : (l : Layout) (room : ℕ) → DynamicLaws → KeepsAll l → NumbersFit l → IsLaidOut l → HasWholeSlots l → needs_dynamic l.kind ≡ true → HasTables (bytes l) (map (program_header l) l.segments) (all_records l room) (tables_of l)
has_tables l room laws keeps numbers laid slots needs =
    let hs = map (program_header l) l.segments in
    let n = laws.named l (all_needed l) room (laws.section.needed.names l l.groups) needs in
    record {
      words_fit = words_fit l laws.words numbers.symbols;
      words = table_of (bytes l) hs (dynamic_entry l tags.Relr) (dynamic_entry l tags.RelrSize) _ _ (table_bytes l role.RelrDyn) (flat_map word_bytes (tables_of l).words) n.words n.words_size (words_are l) (words_named l laws.section.stand keeps laid needs);
      entries_fit = entries_fit l (pair_low l laws.pair laid slots) numbers.symbols;
      entries = table_of (bytes l) hs (dynamic_entry l tags.Rela) (dynamic_entry l tags.RelaSize) _ _ (table_bytes l role.RelaDynRelative ++ table_bytes l role.RelaDynGeneral) (flat_map rela_bytes (tables_of l).entries) n.entries n.entries_size (entries_are l) (entries_named l laws.section.stand keeps laid needs);
      jumps_fit = jumps_fit l numbers.symbols;
      jumps = table_of (bytes l) hs (dynamic_entry l tags.JmpRel) (dynamic_entry l tags.PltRelSize) _ _ (table_bytes l role.RelaPlt) (flat_map rela_bytes (tables_of l).jumps) n.jumps n.jumps_size (jumps_are l) (jumps_named l laws.section.stand keeps laid needs);
    }

pub tables_found : DynamicLaws → TablesAreFound
tables_found laws = λ l keeps needs numbers laid slots.
    let e = entries_found laws.section l keeps needs numbers laid in
    record { entries = all_records l e.room; dynamic = e.dynamic; tables = has_tables l e.room laws keeps numbers laid slots needs }
