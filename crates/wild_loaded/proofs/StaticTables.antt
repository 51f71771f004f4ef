-- The tables of an output at its own addresses: nothing moves, and its sections have all entries.
use Rattle.wild_loaded.proofs.Common.{not_partial, has_last, placed_files, processed_sections, sorted_sections, ◌≡◌, ℕ, zero, suc, ◌+◌, ◌<◌, ◌≤◌, inl, inr, false, List, [], ◌∷◌, ◌++◌, length, get_or, refl, sym, ap, ◌∙◌, arith, subst, Bool, true, AllPairs, IsPermutation, slice_index, if◌then◌else◌, flat_map, cases_lt, length-append, get_or_append_left, All-map, word, Piece, Disjoint, length-word, Rela, SectionHeader, InputSection, Section, Group, Layout, relr_place, relr_places, sorted_words, is_position_independent, group_relr_got, block_of, block_words, file_header, null_header, headers_from, computed_infos, program_header, section_headers_of, pieces, listed_entry, section_entries, slot_entries_of, flat_places_of, IsLaidOut, TablesStand, rela_bytes, IsStatic, section_relas, PairIsPlaced, packed_words_of_file, group_words, relative_entries, tables_of, words_of_last}
use Rattle.wild_words.specs.Record.{spell}
use Rattle.wild_words.proofs.RecordLemmas.{HasBytesAt-field}
use Rattle.wild_words.proofs.Basics.{flat_map-none}
use Rattle.wild_records.specs.Abi.Header.{elfmag}
use Rattle.wild_records.specs.FileHeader.{file_header_fields}
use Rattle.wild_records.specs.SectionHeader.{section_header_fields}
use Rattle.wild_relr.specs.RunWords.{packed_on, packed, block}
use Rattle.wild_records.proofs.FileHeaderLemmas.{length-file_header}
use Rattle.wild_types.specs.declared.part.Role.TheVariants as role
use Rattle.wild_slot.specs.declared.slot_parts.EntryPart.TheVariants as entries
use Rattle.wild_needs.specs.Entries.{words_of}
use Rattle.wild_types.proofs.LookupLemmas.{plain_still}
use Rattle.wild_needs.specs.SlotShares.{words_of_relr_got}
use Rattle.wild_needs.proofs.ShareLemmas.{no_moved}
use Rattle.wild_table_formats.proofs.HeaderLemmas.{length-section_header}
use Rattle.wild_table_formats.specs.Headers.{offset_of_role, file_header_bytes, section_header_bytes}
use Rattle.wild_table_formats.specs.EntryLaws.{LengthsOfEntries, EntriesAreRead}
use Rattle.wild_slots.specs.Entries.{MovesNothing, FixedOutputsMoveNothing}
use Rattle.wild_loaded.specs.Laws.{SectionTablesAreFound}
use Rattle.wild_loaded.proofs.FileType.{plain_fixed}
use Rattle.wild_loaded.proofs.Loads.{segment_static}
use Rattle.wild_loaded.proofs.PairPlace.{pair_low}
use Rattle.wild_loaded.proofs.TableBytes.{all_relatives, all_generals, relatives_are, generals_are, jumps_are}
use Rattle.wild_loaded.proofs.TablesFit.{jumps_fit, all_generals_fit}
use Rattle.wild_loaded.proofs.SectionTable.{IsFixedTable, relas_of, section_tables, all_sections}

-- ---- nothing moves

no_words : (l : Layout) (s : InputSection) → is_position_independent l.kind ≡ false → words_of l s ≡ []
unfolding relr_places packed packed_on
no_words l s still = ap packed (no_moved l s (relr_place l s) still)

no_entries : (l : Layout) (s : InputSection) → is_position_independent l.kind ≡ false → section_entries l s ≡ []
unfolding section_entries
no_entries l s still = no_moved l s (listed_entry l s) still

no_block : (l : Layout) (g : Group) → group_relr_got l g ≡ [] → block_words l g ≡ []
unfolding block
no_block l g h = ap (λ (ps : List ℕ). words_of_relr_got (block_of ps)) h

words_none : (l : Layout) → MovesNothing l → is_position_independent l.kind ≡ false → (tables_of l).words ≡ []
words_none l h still =
    flat_map-none (group_words l) l.groups (λ g.
    ap (λ (ws : List ℕ). ws ++ (block_words l g ++ words_of_last l g)) (flat_map-none (packed_words_of_file l) (placed_files l g) (λ f. ap (λ (ws : List ℕ). ws ++ flat_places_of l f) (flat_map-none (words_of l) f.sections (λ s. no_words l s still)) ∙ h.flat f))
    ∙ ap (λ (ws : List ℕ). ws ++ words_of_last l g) (no_block l g (h.groups g))
    ∙ by_last (has_last g))
  where
    by_last : (b : Bool) → (if b then sorted_words l else []) ≡ []
    by_last false = refl
    by_last true = flat_map-none (words_of l) (sorted_sections l) (λ s. no_words l s still)

relatives_none : (l : Layout) → MovesNothing l → is_position_independent l.kind ≡ false → all_relatives l ≡ []
relatives_none l h still =
    flat_map-none (λ (g : Group). flat_map (relative_entries l) (placed_files l g)) l.groups (λ g.
    flat_map-none (relative_entries l) (placed_files l g) (λ f. ap (λ (es : List Rela). es ++ slot_entries_of entries.Relative l f) (flat_map-none (section_entries l) (processed_sections l f) (λ s. no_entries l s still)) ∙ h.relative f))

-- ---- where the section headers stand

-- the first byte of the file header, and that of the headers of sections
front_byte : (l : Layout) → slice_index (file_header_bytes l) 0 ≡ 0x7f
unfolding file_header_fields file_header word
front_byte l = (let n = length-word 4 elfmag in (HasBytesAt-field (file_header_fields (file_header l)) 0 (0, 0) (omega arith)).same 0 (omega (arith, n)))

null_byte : (l : Layout) (rest : List ℕ) → slice_index (spell (section_header_fields (null_header l)) ++ rest) 0 ≡ 0
unfolding section_header_fields null_header word
null_byte l rest =
    let n = length-section_header (null_header l) in
    get_or_append_left (spell (section_header_fields (null_header l))) rest 0 0 (omega (arith, n))
    ∙ (let m = length-word 4 0 in (HasBytesAt-field (section_header_fields (null_header l)) 0 (0, 0) (omega arith)).same 0 (omega (arith, m)))

-- of headers that are there
record IsLong (l : Layout) (ss : List Section) : Type 0 where
  some : 1 ≤ length (flat_map (λ (h : SectionHeader). spell (section_header_fields h)) (section_headers_of l ss))
  first : slice_index (flat_map (λ (h : SectionHeader). spell (section_header_fields h)) (section_headers_of l ss)) 0 ≡ 0

long : (l : Layout) (ss : List Section) → 1 ≤ length ss → IsLong l ss
long l [] h = absurd (omega (arith, h))
long l (s ∷ ss) h =
    let rest = flat_map (λ (h : SectionHeader). spell (section_header_fields h)) (headers_from l (computed_infos l) 1 (length s.name + 1) ss) in
    let a = length-append (spell (section_header_fields (null_header l))) rest in
    let b = length-section_header (null_header l) in
    record { some = omega (arith, a, b); first = null_byte l rest }

-- two pieces at one offset are one
pub table_offset : (l : Layout) → IsLaidOut l → 0 < offset_of_role role.SectionHeaders l.parts
table_offset l laid =
    elim (cases_lt 0 (offset_of_role role.SectionHeaders l.parts)) [
      | inl lt ↦ lt
      | inr le ↦ absurd (at_front (omega (arith, le)))
    ]
  where
    within_any : (xs : List Piece) (k : ℕ) (d e : Piece) → k < length xs → get_or xs k d ≡ get_or xs k e
    within_any [] k d e h = absurd (omega arith)
    within_any (x ∷ xs) zero d e h = refl
    within_any (x ∷ xs) (suc k) d e h = within_any xs k d e (omega arith)

    two_at : (ps : List Piece) (i j : ℕ) (p q : Piece) → AllPairs Disjoint ps → i < j → j < length ps → get_or ps i p ≡ p → get_or ps j q ≡ q → Disjoint p q
    two_at ps i j p q apart lt n x y = subst (λ (r : Piece). Disjoint r q) x (subst (λ (r : Piece). Disjoint (get_or ps i p) r) (within_any ps j p q n ∙ y) (apart i j p lt n))

    overlap : (p q : Piece) → Disjoint p q → p.at ≡ 0 → q.at ≡ 0 → 1 ≤ length p.bytes → 1 ≤ length q.bytes → ⊥
    overlap p q (inl h) zp zq some more = omega (arith, h, zp, zq, some)
    overlap p q (inr h) zp zq some more = omega (arith, h, zp, zq, more)

    whole : (p q : Piece) (i j : ℕ) (ps : List Piece) → AllPairs Disjoint ps → i < length ps → j < length ps → get_or ps i p ≡ p → get_or ps j q ≡ q → p.at ≡ 0 → q.at ≡ 0 → 1 ≤ length p.bytes → 1 ≤ length q.bytes → (p ≡ q → ⊥) → ⊥
    whole p q i j ps apart m n x y zp zq some more differ =
        elim (cases_lt i j) [
          | inl lt ↦ overlap p q (two_at ps i j p q apart lt n x y) zp zq some more
          | inr ge ↦ elim (cases_lt j i) [
            | inl lt ↦ overlap q p (two_at ps j i q p apart lt m y x) zq zp more some
            | inr le ↦ (let same : i ≡ j = omega (arith, ge, le) in differ (sym x ∙ ap (λ (k : ℕ). get_or ps k p) same ∙ within_any ps j p q n ∙ y))
          ]
        ]

    at_front : offset_of_role role.SectionHeaders l.parts ≡ 0 → ⊥
    at_front first =
        let m = length-file_header (file_header l) in
        let headers = long l l.sections laid.some_section in
        let front = laid.tables.file_header.listed (omega (arith, m)) in
        let back = laid.tables.section_headers.listed headers.some in
        whole (record { at = 0; bytes = file_header_bytes l }) (record { at = offset_of_role role.SectionHeaders l.parts; bytes = section_header_bytes l }) front.0 back.0 (pieces l) laid.owners.apart front.1 back.1 front.2 back.2 refl first (omega (arith, m)) headers.some
        (λ e. (let bytes_are = ap (λ (p : Piece). slice_index p.bytes 0) e in let both : 0x7f ≡ 0 = sym (front_byte l) ∙ bytes_are ∙ headers.first in cc))

pub header_offset : (l : Layout) → (file_header l).section_offset ≡ offset_of_role role.SectionHeaders l.parts
unfolding file_header
header_offset l = refl

-- ---- the tables

pub sections_found : TablesStand → LengthsOfEntries → EntriesAreRead → PairIsPlaced → FixedOutputsMoveNothing → SectionTablesAreFound
sections_found stand lengths read pair fixed = λ l keeps kind plain numbers laid slots.
    let still = plain_still l.kind plain in
    let moves = fixed l still in
    let none = relatives_none l moves still in
    let js : List Rela = (tables_of l).jumps in
    let gs : List Rela = all_generals l in
    let static = plain_fixed l.kind kind plain in
    let table : IsFixedTable l js gs = record {
      laid = laid;
      keeps = keeps;
      fixed = static;
      stand = stand;
      lengths = lengths;
      read = read;
      still = relatives_are l ∙ ap (λ (es : List Rela). flat_map rela_bytes es) none;
      jumps = record { entry = refl; place = λ e. cc; are = jumps_are l; fits = jumps_fit l numbers.symbols };
      generals = record { entry = refl; place = λ e. cc; are = generals_are l; fits = all_generals_fit l (pair_low l pair laid slots) numbers.symbols };
    } in
    let same : (tables_of l).entries ++ js ≡ gs ++ js = ap (λ (es : List Rela). (es ++ gs) ++ js) none in
    record {
      static = All-map IsStatic (program_header l) l.segments (λ i d lt. segment_static l (get_or l.segments i d) ((laid.loadable (not_partial l.kind kind)).static ((laid.loadable (not_partial l.kind kind)).fixed static) i d lt));
      words = words_none l moves still;
      of = relas_of l;
      sections = section_tables l js gs table;
      all = subst (λ (es : List Rela). IsPermutation (section_relas (section_headers_of l l.sections) (relas_of l)) es) (sym same) (all_sections l js gs table);
      told = subst (λ (n : ℕ). 0 < n) (sym (header_offset l)) (table_offset l laid);
    }
