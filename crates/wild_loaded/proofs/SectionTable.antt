-- The entries of an image without a dynamic section, by the sections that have them.
use Rattle.wild_loaded.proofs.Common.{KeepsAll, not_hollow_at, ◌≡◌, ℕ, zero, suc, ◌+◌, ◌*◌, ◌/◌, ◌%◌, ◌<◌, ◌≤◌, ◌⊎◌, inl, inr, Bool, true, false, not, List, [], ◌∷◌, ◌++◌, length, get_or, All, refl, sym, ap, ◌∙◌, arith, subst, Option, Some, None, Contains, IsPermutation, ◌&&◌, ◌==◌, if◌then◌else◌, slice_get, flat_map, cases_Bool, cases_lt, eqb-true, eqb-false, append-nil, length-append, All-nil, All-append, All-contains, IsPermutation-refl, IsPermutation-trans, IsPermutation-append, IsPermutation-append_comm, slice_get-get_or, flat_map-append, HasBytesAt, sht_nobits, shf_alloc, RelaFits, Rela, SectionHeader, Part, Role, Section, Layout, allocated, is_header_only, is_header_only_at, has_data, takes_file_bytes, role_place, has_role, part_with, is_fixed_static, not_raw, null_header, info_at, section_header, headers_from, section_headers_of, computed_infos, bytes, table_bytes, IsLaidOut, TablesStand, rela_bytes, section_relas, length-section_headers_of, alloc_bit}
use Rattle.wild_types.proofs.LookupLemmas.{not_hollow}
use Rattle.wild_loaded.proofs.KindLemmas.{fixed_whole}
use Rattle.std.specs.List.{filter}
use Rattle.wild_words.proofs.Basics.{middle_exchanged}
use Rattle.wild_records.specs.Abi.Section.{sht_rela}
use Rattle.wild_records.specs.Relocations.{rela_size, rela_at}
use Rattle.wild_types.specs.declared.part.Role.TheVariants as role
use Rattle.wild_types.specs.Parts.{is_entry_role, bytes_in}
use Rattle.wild_layout.specs.SectionPlaces.{RangesApart}
use Rattle.wild_table_formats.specs.EntryLaws.{EntriesAreRead, LengthsOfEntries}
use Rattle.wild_loader.specs.Tables.{has_entries, relas_at}
use Rattle.wild_loader.specs.Laws.{HoldsEntries, HasSectionTables}
use Rattle.wild_meaning.proofs.BitLemmas.{bit_alloc}
use Rattle.wild_loaded.proofs.HeadersFit.{uncompressed_flags-alloc}
use Rattle.wild_loaded.proofs.TableBytes.{stands_joined}

-- ---- headers

-- the header is that of the section with its number
pub record IsHeaderOf (l : Layout) (ss : List Section) (k : ℕ) (h : SectionHeader) : Type 0 where
  pub section : Section
  pub listed : slice_get ss k ≡ Some section
  pub info : ℕ
  pub name : ℕ
  pub is : h ≡ section_header l info name section

header_of : (l : Layout) (i name : ℕ) (ss : List Section) (k : ℕ) (h : SectionHeader) → slice_get (headers_from l (computed_infos l) i name ss) k ≡ Some h → IsHeaderOf l ss k h
header_of l i name [] k h there = cc
header_of l i name (s ∷ ss) zero h there = record { section = s; listed = refl; info = info_at (computed_infos l) i s.info; name = name; is = (let same : section_header l (info_at (computed_infos l) i s.info) name s ≡ h = cc in sym same) }
header_of l i name (s ∷ ss) (suc k) h there =
    let r = header_of l (i + 1) (name + length s.name + 1) ss k h there in
    record { section = r.section; listed = r.listed; info = r.info; name = r.name; is = r.is }

null_none : (l : Layout) → has_entries (null_header l) ≡ true → ⊥
unfolding null_header
null_none l h = cc

-- the header with entries is that of a section behind section 0
all_but_first : (l : Layout) (ss : List Section) (k : ℕ) (h : SectionHeader) → slice_get (section_headers_of l ss) k ≡ Some h → has_entries h ≡ true → (1 ≤ k) × IsHeaderOf l ss k h
all_but_first l [] k h there has = cc
all_but_first l (s ∷ ss) zero h there has = (let same : null_header l ≡ h = cc in absurd (null_none l (subst (λ (x : SectionHeader). has_entries x ≡ true) (sym same) has)))
all_but_first l (s ∷ ss) (suc k) h there has =
    let r = header_of l 1 (length s.name + 1) ss k h there in
    (omega arith, record { section = r.section; listed = r.listed; info = r.info; name = r.name; is = r.is })

-- so is each header behind that of section 0
pub header_behind : (l : Layout) (ss : List Section) (k : ℕ) (h : SectionHeader) → 1 ≤ k → slice_get (section_headers_of l ss) k ≡ Some h → IsHeaderOf l ss k h
header_behind l [] k h some there = cc
header_behind l (s ∷ ss) zero h some there = absurd (omega arith)
header_behind l (s ∷ ss) (suc k) h some there =
    let r = header_of l 1 (length s.name + 1) ss k h there in
    record { section = r.section; listed = r.listed; info = r.info; name = r.name; is = r.is }

-- what a header with entries tells of its section
record HasRelas (h : SectionHeader) : Type 0 where
  kind : h.kind ≡ sht_rela
  flag : h.flags / shf_alloc % 2 ≡ 1
  some : h.size ≡ 0 → ⊥

has_relas : (h : SectionHeader) → has_entries h ≡ true → HasRelas h
has_relas h e = by_tests (h.kind == sht_rela) (h.flags / shf_alloc % 2 == 1) (h.size == 0) refl refl refl e
  where
    by_tests : (a b c : Bool) → (h.kind == sht_rela) ≡ a → (h.flags / shf_alloc % 2 == 1) ≡ b → (h.size == 0) ≡ c → (a && b && not c) ≡ true → HasRelas h
    by_tests true true false a b c e = record { kind = eqb-true h.kind sht_rela a; flag = eqb-true (h.flags / shf_alloc % 2) 1 b; some = λ z. (let t : (h.size == 0) ≡ true = rw z refl in cc) }
    by_tests true true true a b c e = cc
    by_tests true false x a b c e = cc
    by_tests false y x a b c e = cc

relas_there : (h : SectionHeader) → HasRelas h → has_entries h ≡ true
relas_there h r =
    elim (cases_Bool (h.size == 0)) [
      | inl t ↦ absurd (r.some (eqb-true h.size 0 t))
      | inr f ↦ rw (r.kind, r.flag, f) refl
    ]

-- ---- what a reader finds in a section

-- so many entries, read one by one
relas_read : (image : List ℕ) (at : ℕ) (es : List Rela) → ((k : ℕ) (d : Rela) → k < length es → rela_at image (at + rela_size * k) ≡ get_or es k d) → relas_at image (length es) at ≡ es
unfolding relas_at
relas_read image at [] h = refl
relas_read image at (e ∷ es) h =
    let z : at + rela_size * 0 ≡ at = omega arith in
    let first : rela_at image at ≡ e = subst (λ (n : ℕ). rela_at image n ≡ e) z (h 0 e (omega arith)) in
    let rest = relas_read image (at + rela_size) es (λ k d lt. (let n : at + rela_size + rela_size * k ≡ at + rela_size * suc k = omega arith in subst (λ (m : ℕ). rela_at image m ≡ get_or es k d) (sym n) (h (suc k) d (omega (arith, lt))))) in
    rw (first, rest) refl

-- the entries of a header
abbrev pub relas_of : Layout → SectionHeader → List Rela
relas_of l h = relas_at (bytes l) (h.size / rela_size) h.offset

-- entries that stand in the section are those that a reader finds
pub found_there : (l : Layout) (h : SectionHeader) (es : List Rela) → EntriesAreRead → HoldsEntries (bytes l) h es → relas_of l h ≡ es
found_there l h es law held =
    let size = held.size in
    let count : h.size / rela_size ≡ length es = omega (arith, size) in
    ap (λ (n : ℕ). relas_at (bytes l) n h.offset) count ∙ relas_read (bytes l) h.offset es (λ k d lt. law (bytes l) es h.offset k d held.fits held.stands lt)

-- ---- entries that lie in a section

-- entries of n bytes that stand at an offset, in a range of the image
record LieIn (image : List ℕ) (from size n at : ℕ) (es : List Rela) : Type 0 where
  count : n ≡ rela_size * length es
  fits : All RelaFits es
  stands : 1 ≤ n → HasBytesAt image at (flat_map rela_bytes es)
  low : 1 ≤ n → from ≤ at
  high : 1 ≤ n → at + n ≤ from + size

-- entries that fill the range, a permutation of others
record Fill (image : List ℕ) (from size : ℕ) (es : List Rela) : Type 0 where
  whole : List Rela
  count : size ≡ rela_size * length whole
  fits : All RelaFits whole
  stands : HasBytesAt image from (flat_map rela_bytes whole)
  same : IsPermutation whole es

no_entries : (es : List Rela) (n : ℕ) → n ≡ rela_size * length es → n ≡ 0 → es ≡ []
no_entries [] n e z = refl
no_entries (x ∷ es) n e z = absurd (omega (arith, e, z))

-- one list alone
one_fills : (image : List ℕ) (from size n at : ℕ) (es : List Rela) → LieIn image from size n at es → 1 ≤ n → n ≡ size → Fill image from size es
one_fills image from size n at es x some e =
    let low = x.low some in
    let high = x.high some in
    let begins : at ≡ from = omega (arith, low, high, e) in
    record {
      whole = es;
      count = sym e ∙ x.count;
      fits = x.fits;
      stands = subst (λ (a : ℕ). HasBytesAt image a (flat_map rela_bytes es)) begins (x.stands some);
      same = IsPermutation-refl es;
    }

-- two of them, one behind the other
two_fill : (image : List ℕ) (from size n m a b : ℕ) (xs ys : List Rela) → LengthsOfEntries → LieIn image from size n a xs → LieIn image from size m b ys → 1 ≤ n → 1 ≤ m → n + m ≡ size → a + n ≤ b → Fill image from size (xs ++ ys)
two_fill image from size n m a b xs ys law x y some more e apart =
    let low = x.low some in
    let high = y.high more in
    let front : a ≡ from = omega (arith, low, high, e, apart) in
    let count = x.count in
    let other = y.count in
    let bytes_are = law xs in
    let back : b ≡ from + length (flat_map rela_bytes xs) = omega (arith, low, high, e, apart, bytes_are, count) in
    let joined = stands_joined image (flat_map rela_bytes xs) (flat_map rela_bytes ys) from b back (subst (λ (c : ℕ). HasBytesAt image c (flat_map rela_bytes xs)) front (x.stands some)) (y.stands more) in
    let all = length-append xs ys in
    record {
      whole = xs ++ ys;
      count = omega (arith, count, other, all, e);
      fits = All-append RelaFits xs ys x.fits y.fits;
      stands = subst (λ (bs : List ℕ). HasBytesAt image from bs) (sym (flat_map-append rela_bytes xs ys)) joined;
      same = IsPermutation-refl (xs ++ ys);
    }

exchanged : (image : List ℕ) (from size : ℕ) (xs ys : List Rela) → Fill image from size (ys ++ xs) → Fill image from size (xs ++ ys)
exchanged image from size xs ys f = record { whole = f.whole; count = f.count; fits = f.fits; stands = f.stands; same = IsPermutation-trans f.whole (ys ++ xs) (xs ++ ys) f.same (IsPermutation-append_comm ys xs) }

-- two lists that lie apart in the range, and have all its bytes
fill_both : (image : List ℕ) (from size n m a b : ℕ) (xs ys : List Rela) → LengthsOfEntries → LieIn image from size n a xs → LieIn image from size m b ys → 1 ≤ size → n + m ≡ size → (1 ≤ n → 1 ≤ m → (a + n ≤ b) ⊎ (b + m ≤ a)) → Fill image from size (xs ++ ys)
fill_both image from size zero m a b xs ys law x y some e apart =
    let none = no_entries xs zero x.count refl in
    subst (λ (zs : List Rela). Fill image from size (zs ++ ys)) (sym none) (one_fills image from size m b ys y (omega (arith, e, some)) (omega (arith, e)))
fill_both image from size (suc n) zero a b xs ys law x y some e apart =
    let none = no_entries ys zero y.count refl in
    let alone = one_fills image from size (suc n) a xs x (omega arith) (omega (arith, e)) in
    subst (λ (zs : List Rela). Fill image from size (xs ++ zs)) (sym none) (subst (Fill image from size) (sym (append-nil xs)) alone)
fill_both image from size (suc n) (suc m) a b xs ys law x y some e apart =
    elim (apart (omega arith) (omega arith)) [
      | inl first ↦ two_fill image from size (suc n) (suc m) a b xs ys law x y (omega arith) (omega arith) e first
      | inr second ↦ exchanged image from size xs ys (two_fill image from size (suc m) (suc n) b a ys xs law y x (omega arith) (omega arith) (omega (arith, e)) second)
    ]

-- ---- the entries of a part

-- what a section has of them, and where they begin
abbrev in_section : ℕ → Option Part → List Rela → List Rela
in_section k None es = []
in_section k (Some p) es = if p.section == k then es else []

abbrev begins_at : Option Part → ℕ
begins_at None = 0
begins_at (Some p) = p.offset

-- what is known of the entries of a layout in the part of a role
pub record IsTableOfRole (l : Layout) (r : Role) (es : List Rela) : Type 0 where
  pub entry : is_entry_role r ≡ true
  pub place : role_place r ≡ 0 → ⊥
  pub are : table_bytes l r ≡ flat_map rela_bytes es
  pub fits : All RelaFits es

-- an output at its own addresses without a dynamic section, of which the part of relative entries is empty
pub record IsFixedTable (l : Layout) (js gs : List Rela) : Type 0 where
  pub laid : IsLaidOut l
  pub keeps : KeepsAll l
  pub fixed : is_fixed_static l.kind ≡ true
  pub stand : TablesStand
  pub lengths : LengthsOfEntries
  pub read : EntriesAreRead
  pub still : table_bytes l role.RelaDynRelative ≡ []
  pub jumps : IsTableOfRole l role.RelaPlt js
  pub generals : IsTableOfRole l role.RelaDynGeneral gs

size_is : (l : Layout) (r : Role) (es : List Rela) (p : Part) → IsLaidOut l → LengthsOfEntries → IsTableOfRole l r es → part_with r l.parts ≡ Some p → p.size ≡ rela_size * length es
size_is l r es p laid lengths t e = sym ((laid.roles r t.place).there p e).size ∙ ap (λ (bs : List ℕ). length bs) t.are ∙ lengths es

nothing_lies : (image : List ℕ) (from size at : ℕ) → LieIn image from size 0 at []
nothing_lies image from size at = record { count = refl; fits = All-nil RelaFits; stands = λ h. absurd (omega (arith, h)); low = λ h. absurd (omega (arith, h)); high = λ h. absurd (omega (arith, h)) }

-- those in a section lie in it
lies_in : (l : Layout) (r : Role) (es js gs : List Rela) (k : ℕ) (s : Section) → IsFixedTable l js gs → IsTableOfRole l r es → 1 ≤ k → slice_get l.sections k ≡ Some s → LieIn (bytes l) s.offset s.size (bytes_in k (part_with r l.parts)) (begins_at (part_with r l.parts)) (in_section k (part_with r l.parts) es)
lies_in l r es js gs k s x t some there = by_part (part_with r l.parts) refl
  where
    here : (p : Part) → part_with r l.parts ≡ Some p → p.section ≡ k → LieIn (bytes l) s.offset s.size p.size p.offset es
    here p e q =
        let lie = ((x.laid.loadable (fixed_whole l.kind x.fixed)).entries x.fixed k s some there).own (not_hollow l s x.keeps) r p t.entry e q in
        record {
          count = size_is l r es p x.laid x.lengths t e;
          fits = t.fits;
          stands = λ h. subst (λ (bs : List ℕ). HasBytesAt (bytes l) p.offset bs) t.are (x.stand l x.laid r t.place p e (not_hollow_at l p.section x.keeps) h);
          low = λ h. lie.from;
          high = λ h. lie.to;
        }

    by_test : (p : Part) → part_with r l.parts ≡ Some p → (b : Bool) → (p.section == k) ≡ b → LieIn (bytes l) s.offset s.size (if b then p.size else 0) p.offset (if b then es else [])
    by_test p e true q = here p e (eqb-true p.section k q)
    by_test p e false q = nothing_lies (bytes l) s.offset s.size p.offset

    by_part : (o : Option Part) → part_with r l.parts ≡ o → LieIn (bytes l) s.offset s.size (bytes_in k o) (begins_at o) (in_section k o es)
    by_part None e = nothing_lies (bytes l) s.offset s.size 0
    by_part (Some p) e = by_test p e (p.section == k) refl

-- ---- parts that lie apart

listed_index : (ps : List Part) (p : Part) → (c : Contains ps p) → slice_get ps c.0 ≡ Some p
listed_index ps p c = slice_get-get_or ps c.0 p c.1 ∙ ap (λ (q : Part). Some q) c.2

-- parts of two roles share no byte of the file
roles_apart : (l : Layout) (r t : Role) (p q : Part) → KeepsAll l → IsLaidOut l → (role_place r ≡ 0 → ⊥) → (role_place t ≡ 0 → ⊥) → (r ≡ t → ⊥) → part_with r l.parts ≡ Some p → part_with t l.parts ≡ Some q → RangesApart p q
roles_apart l r t p q keeps laid place other two e f =
    let x = (laid.roles r place).there p e in
    let y = (laid.roles t other).there q f in
    let takes : (u : Role) (z : Part) → Contains l.parts z → z.role ≡ u → (role_place u ≡ 0 → ⊥) → takes_file_bytes l z.section ≡ true = λ u z c h n. both (has_data l z.section) (is_header_only_at l z.section) (All-contains (λ (o : Part). has_role role.Raw o ≡ false → has_data l o.section ≡ true) l.parts z laid.room c (not_raw u z n h)) (not_hollow_at l z.section keeps) in
    laid.apart x.listed.0 y.listed.0 p q (listed_index l.parts p x.listed) (listed_index l.parts q y.listed)
    (λ same. two (roles_same x.listed.0 y.listed.0 same (listed_index l.parts p x.listed) (listed_index l.parts q y.listed) x.has y.has))
    (takes r p x.listed x.has place) (takes t q y.listed y.has other)
  where
    both : (holds header_only : Bool) → holds ≡ true → header_only ≡ false → (holds && not header_only) ≡ true
    both holds header_only d h = rw (d, h) refl

    roles_same : (i j : ℕ) → i ≡ j → slice_get l.parts i ≡ Some p → slice_get l.parts j ≡ Some q → p.role ≡ r → q.role ≡ t → r ≡ t
    roles_same i j same x y h k =
        let both : Some p ≡ Some q = sym x ∙ ap (λ (n : ℕ). slice_get l.parts n) same ∙ y in
        let one : p ≡ q = cc in
        sym h ∙ ap (λ (z : Part). z.role) one ∙ k

-- those that have entries in one section lie apart in it
entries_apart : (l : Layout) (r t : Role) (k : ℕ) → KeepsAll l → IsLaidOut l → (role_place r ≡ 0 → ⊥) → (role_place t ≡ 0 → ⊥) → (r ≡ t → ⊥) → 1 ≤ bytes_in k (part_with r l.parts) → 1 ≤ bytes_in k (part_with t l.parts)
    → (begins_at (part_with r l.parts) + bytes_in k (part_with r l.parts) ≤ begins_at (part_with t l.parts)) ⊎ (begins_at (part_with t l.parts) + bytes_in k (part_with t l.parts) ≤ begins_at (part_with r l.parts))
entries_apart l r t k keeps laid place other two some more = by_parts (part_with r l.parts) (part_with t l.parts) refl refl some more
  where
    by_tests : (p q : Part) → RangesApart p q → (a b : Bool) → 1 ≤ (if a then p.size else 0) → 1 ≤ (if b then q.size else 0) → (p.offset + (if a then p.size else 0) ≤ q.offset) ⊎ (q.offset + (if b then q.size else 0) ≤ p.offset)
    by_tests p q h true true m n = h
    by_tests p q h false b m n = absurd (omega (arith, m))
    by_tests p q h true false m n = absurd (omega (arith, n))

    by_parts : (o u : Option Part) → part_with r l.parts ≡ o → part_with t l.parts ≡ u → 1 ≤ bytes_in k o → 1 ≤ bytes_in k u → (begins_at o + bytes_in k o ≤ begins_at u) ⊎ (begins_at u + bytes_in k u ≤ begins_at o)
    by_parts None u e f m n = absurd (omega (arith, m))
    by_parts (Some p) None e f m n = absurd (omega (arith, n))
    by_parts (Some p) (Some q) e f m n = by_tests p q (roles_apart l r t p q keeps laid place other two e f) (p.section == k) (q.section == k) m n

-- ---- one section

-- the part of relative entries has no bytes
still_empty : (l : Layout) (k : ℕ) (o : Option Part) → IsLaidOut l → table_bytes l role.RelaDynRelative ≡ [] → part_with role.RelaDynRelative l.parts ≡ o → bytes_in k o ≡ 0
still_empty l k None laid none e = refl
still_empty l k (Some p) laid none e = by_test (p.section == k)
  where
    by_test : (b : Bool) → (if b then p.size else 0) ≡ 0
    by_test true = (let size = ((laid.roles role.RelaDynRelative (λ z. cc)).there p e).size in let zero_bytes = ap (λ (bs : List ℕ). length bs) none in omega (arith, size, zero_bytes))
    by_test false = refl

-- the entries in a section, whose bytes they are
abbrev section_parts : Layout → ℕ → List Rela → List Rela → List Rela
section_parts l k js gs = in_section k (part_with role.RelaPlt l.parts) js ++ in_section k (part_with role.RelaDynGeneral l.parts) gs

filled : (l : Layout) (js gs : List Rela) (k : ℕ) (s : Section) → IsFixedTable l js gs → 1 ≤ k → slice_get l.sections k ≡ Some s → s.kind ≡ sht_rela → allocated s.flags ≡ true → 1 ≤ s.size → Fill (bytes l) s.offset s.size (section_parts l k js gs)
filled l js gs k s x some there kind flag size =
    let alone = (x.laid.loadable (fixed_whole l.kind x.fixed)).entries x.fixed k s some there in
    let full : bytes_in k (part_with role.RelaPlt l.parts) + (bytes_in k (part_with role.RelaDynRelative l.parts) + (bytes_in k (part_with role.RelaDynGeneral l.parts) + 0)) ≡ s.size = alone.full flag kind in
    let still = still_empty l k (part_with role.RelaDynRelative l.parts) x.laid x.still refl in
    fill_both (bytes l) s.offset s.size (bytes_in k (part_with role.RelaPlt l.parts)) (bytes_in k (part_with role.RelaDynGeneral l.parts)) (begins_at (part_with role.RelaPlt l.parts)) (begins_at (part_with role.RelaDynGeneral l.parts))
    (in_section k (part_with role.RelaPlt l.parts) js) (in_section k (part_with role.RelaDynGeneral l.parts) gs) x.lengths
    (lies_in l role.RelaPlt js js gs k s x x.jumps some there) (lies_in l role.RelaDynGeneral gs js gs k s x x.generals some there)
    size (omega (arith, full, still)) (entries_apart l role.RelaPlt role.RelaDynGeneral k x.keeps x.laid (λ z. cc) (λ z. cc) (λ z. cc))

-- a section that is not written is told to be without bytes
pub rela_told : (b : Bool) (k : ℕ) → (if b then sht_nobits else k) ≡ sht_rela → k ≡ sht_rela
rela_told true k e = cc
rela_told false k e = e

-- what a header tells of its section
header_tells : (l : Layout) (info name : ℕ) (s : Section) → HasRelas (section_header l info name s) → (s.kind ≡ sht_rela) × (allocated s.flags ≡ true) × (s.size ≡ 0 → ⊥)
unfolding section_header
header_tells l info name s r = (rela_told (is_header_only l s) s.kind r.kind, alloc_bit s.flags (sym (uncompressed_flags-alloc s.flags) ∙ r.flag), r.some)

tells_header : (l : Layout) (info name : ℕ) (s : Section) → is_header_only l s ≡ false → s.kind ≡ sht_rela → allocated s.flags ≡ true → (s.size ≡ 0 → ⊥) → HasRelas (section_header l info name s)
unfolding section_header
tells_header l info name s written kind flag some = record { kind = rw written kind; flag = uncompressed_flags-alloc s.flags ∙ bit_alloc s.flags flag; some = some }

holds : (l : Layout) (info name : ℕ) (s : Section) (es : List Rela) → (f : Fill (bytes l) s.offset s.size es) → HoldsEntries (bytes l) (section_header l info name s) f.whole
unfolding section_header
holds l info name s es f = record { size = f.count; fits = f.fits; stands = f.stands }

-- the entries that a reader finds in a section with entries
record IsRead (l : Layout) (h : SectionHeader) (es : List Rela) : Type 0 where
  held : HoldsEntries (bytes l) h (relas_of l h)
  same : IsPermutation (relas_of l h) es

positive : (n : ℕ) → (n ≡ 0 → ⊥) → 1 ≤ n
positive zero h = absurd (h refl)
positive (suc n) h = omega arith

section_read : (l : Layout) (js gs : List Rela) (k : ℕ) (h : SectionHeader) → IsFixedTable l js gs → slice_get (section_headers_of l l.sections) k ≡ Some h → has_entries h ≡ true → IsRead l h (section_parts l k js gs)
section_read l js gs k h x there has =
    let b = all_but_first l l.sections k h there has in
    let y = b.1 in
    let tells = header_tells l y.info y.name y.section (subst HasRelas y.is (has_relas h has)) in
    let f = filled l js gs k y.section x b.0 y.listed tells.0 tells.1 (positive y.section.size tells.2) in
    let held = subst (λ (z : SectionHeader). HoldsEntries (bytes l) z f.whole) (sym y.is) (holds l y.info y.name y.section (section_parts l k js gs) f) in
    let same = found_there l h f.whole x.read held in
    record {
      held = subst (HoldsEntries (bytes l) h) (sym same) held;
      same = subst (λ (es : List Rela). IsPermutation es (section_parts l k js gs)) (sym same) f.same;
    }

-- a section without entries has none of the parts
empty_section : (l : Layout) (r : Role) (es js gs : List Rela) (k : ℕ) (h : SectionHeader) → IsFixedTable l js gs → IsTableOfRole l r es → slice_get (section_headers_of l l.sections) k ≡ Some h → has_entries h ≡ false → in_section k (part_with r l.parts) es ≡ []
empty_section l r es js gs k h x t there none = by_part (part_with r l.parts) refl
  where
    by_header : (p : Part) → part_with r l.parts ≡ Some p → p.section ≡ k → IsHeaderOf l l.sections k h → es ≡ []
    by_header p e q y =
        let first = (x.laid.loadable (fixed_whole l.kind x.fixed)).stands x.fixed r p t.entry e in
        let lie = ((x.laid.loadable (fixed_whole l.kind x.fixed)).entries x.fixed k y.section (subst (λ (n : ℕ). 1 ≤ n) q first) y.listed).own (not_hollow l y.section x.keeps) r p t.entry e q in
        let size = size_is l r es p x.laid x.lengths t e in
        elim (cases_lt 0 y.section.size) [
          | inl some ↦
              (let relas = tells_header l y.info y.name y.section (not_hollow l y.section x.keeps) lie.kind lie.allocated (λ z. omega (arith, z, some)) in
              let has = relas_there h (subst HasRelas (sym y.is) relas) in
              let both : true ≡ false = sym has ∙ none in
              cc)
          | inr le ↦ (let from = lie.from in let to = lie.to in no_entries es p.size size (omega (arith, from, to, le)))
        ]

    by_test : (p : Part) → part_with r l.parts ≡ Some p → (b : Bool) → (p.section == k) ≡ b → (if b then es else []) ≡ []
    by_test p e false q = refl
    by_test p e true q =
        let same = eqb-true p.section k q in
        let first = (x.laid.loadable (fixed_whole l.kind x.fixed)).stands x.fixed r p t.entry e in
        by_header p e same (header_behind l l.sections k h (subst (λ (n : ℕ). 1 ≤ n) same first) there)

    by_part : (o : Option Part) → part_with r l.parts ≡ o → in_section k o es ≡ []
    by_part None e = refl
    by_part (Some p) e = by_test p e (p.section == k) refl

-- ---- all sections

-- what sections from number k on have of the entries of a part
abbrev joined : ℕ → ℕ → Option Part → List Rela → List Rela
joined zero k o es = []
joined (suc n) k o es = in_section k o es ++ joined n (k + 1) o es

behind_first_two : {X : Type 0} (xs rest a b c d : List X) → IsPermutation xs (a ++ b) → IsPermutation rest (c ++ d) → IsPermutation (xs ++ rest) ((a ++ c) ++ (b ++ d))
behind_first_two xs rest a b c d first second =
    IsPermutation-trans (xs ++ rest) ((a ++ b) ++ (c ++ d)) ((a ++ c) ++ (b ++ d)) (IsPermutation-append xs (a ++ b) rest (c ++ d) first second) (middle_exchanged a b c d)

filter-yes : {X : Type 0} (p : X → Bool) (x : X) (xs : List X) → p x ≡ true → filter p (x ∷ xs) ≡ x ∷ filter p xs
filter-yes p x xs e = rw e refl

filter-no : {X : Type 0} (p : X → Bool) (x : X) (xs : List X) → p x ≡ false → filter p (x ∷ xs) ≡ filter p xs
filter-no p x xs e = rw e refl

-- what sections from number k on have of both parts
abbrev both_joined : Layout → List Rela → List Rela → ℕ → ℕ → List Rela
both_joined l js gs n k = joined n k (part_with role.RelaPlt l.parts) js ++ joined n k (part_with role.RelaDynGeneral l.parts) gs

one_more : (l : Layout) (js gs : List Rela) (k : ℕ) (h : SectionHeader) (hs : List SectionHeader) → IsFixedTable l js gs → slice_get (section_headers_of l l.sections) k ≡ Some h
    → IsPermutation (flat_map (relas_of l) (filter has_entries hs)) (both_joined l js gs (length hs) (k + 1)) → IsPermutation (flat_map (relas_of l) (filter has_entries (h ∷ hs))) (both_joined l js gs (suc (length hs)) k)
one_more l js gs k h hs x here rest =
    let a : List Rela = in_section k (part_with role.RelaPlt l.parts) js in
    let b : List Rela = in_section k (part_with role.RelaDynGeneral l.parts) gs in
    let c : List Rela = joined (length hs) (k + 1) (part_with role.RelaPlt l.parts) js in
    let d : List Rela = joined (length hs) (k + 1) (part_with role.RelaDynGeneral l.parts) gs in
    let P : List SectionHeader → Type 0 = λ ys. IsPermutation (flat_map (relas_of l) ys) ((a ++ c) ++ (b ++ d)) in
    elim (cases_Bool (has_entries h)) [
      | inl t ↦
          (let r = section_read l js gs k h x here t in
          subst P (sym (filter-yes has_entries h hs t)) (behind_first_two (relas_of l h) (flat_map (relas_of l) (filter has_entries hs)) a b c d r.same rest))
      | inr f ↦
          (let no_jumps : a ≡ [] = empty_section l role.RelaPlt js js gs k h x x.jumps here f in
          let no_generals : b ≡ [] = empty_section l role.RelaDynGeneral gs js gs k h x x.generals here f in
          let Q : List Rela → List Rela → Type 0 = λ xs ys. IsPermutation (flat_map (relas_of l) (filter has_entries hs)) ((xs ++ c) ++ (ys ++ d)) in
          subst P (sym (filter-no has_entries h hs f)) (subst (λ (xs : List Rela). Q xs b) (sym no_jumps) (subst (λ (ys : List Rela). Q [] ys) (sym no_generals) rest)))
    ]

-- what a reader finds in all sections is what they have of the two parts
sections_joined : (l : Layout) (js gs : List Rela) (k : ℕ) (hs : List SectionHeader) → IsFixedTable l js gs → ((i : ℕ) (h : SectionHeader) → slice_get hs i ≡ Some h → slice_get (section_headers_of l l.sections) (k + i) ≡ Some h)
    → IsPermutation (flat_map (relas_of l) (filter has_entries hs)) (both_joined l js gs (length hs) k)
sections_joined l js gs k [] x at = IsPermutation-refl []
sections_joined l js gs k (h ∷ hs) x at =
    let z : k + 0 ≡ k = omega arith in
    let here = subst (λ (n : ℕ). slice_get (section_headers_of l l.sections) n ≡ Some h) z (at 0 h refl) in
    one_more l js gs k h hs x here
    (sections_joined l js gs (k + 1) hs x (λ i g e. (let n : k + 1 + i ≡ k + suc i = omega arith in subst (λ (m : ℕ). slice_get (section_headers_of l l.sections) m ≡ Some g) (sym n) (at (suc i) g e))))

-- a part stands in one section
elsewhere : (b : Bool) (p : Part) (k : ℕ) (es rest : List Rela) → (p.section == k) ≡ b → (p.section ≡ k → ⊥) → (if b then es else []) ++ rest ≡ rest
elsewhere true p k es rest e h = absurd (h (eqb-true p.section k e))
elsewhere false p k es rest e h = refl

here_alone : (b : Bool) (p : Part) (k : ℕ) (es rest : List Rela) → (p.section == k) ≡ b → p.section ≡ k → rest ≡ [] → (if b then es else []) ++ rest ≡ es
here_alone true p k es rest e h none = ap (λ (xs : List Rela). es ++ xs) none ∙ append-nil es
here_alone false p k es rest e h none = absurd (eqb-false p.section k e h)

joined_none : (n k : ℕ) (p : Part) (es : List Rela) → p.section < k → joined n k (Some p) es ≡ []
joined_none zero k p es h = refl
joined_none (suc n) k p es h = elsewhere (p.section == k) p k es (joined n (k + 1) (Some p) es) refl (λ e. omega (arith, e, h)) ∙ joined_none n (k + 1) p es (omega (arith, h))

joined_one : (n k : ℕ) (p : Part) (es : List Rela) → k ≤ p.section → p.section < k + n → joined n k (Some p) es ≡ es
joined_one zero k p es low high = absurd (omega (arith, low, high))
joined_one (suc n) k p es low high =
    elim (cases_lt k p.section) [
      | inl lt ↦ elsewhere (p.section == k) p k es (joined n (k + 1) (Some p) es) refl (λ e. omega (arith, e, lt)) ∙ joined_one n (k + 1) p es (omega (arith, lt)) (omega (arith, high))
      | inr le ↦ here_alone (p.section == k) p k es (joined n (k + 1) (Some p) es) refl (omega (arith, le, low)) (joined_none n (k + 1) p es (omega (arith, le)))
    ]

joined_missing : (n k : ℕ) (es : List Rela) → joined n k None es ≡ []
joined_missing zero k es = refl
joined_missing (suc n) k es = joined_missing n (k + 1) es

-- so all sections have all entries of the part
joined_all : (l : Layout) (r : Role) (es js gs : List Rela) → IsFixedTable l js gs → IsTableOfRole l r es → joined (length l.sections) 0 (part_with r l.parts) es ≡ es
joined_all l r es js gs x t = by_part (part_with r l.parts) refl
  where
    by_part : (o : Option Part) → part_with r l.parts ≡ o → joined (length l.sections) 0 o es ≡ es
    by_part None e =
        let none = ap (λ (bs : List ℕ). length bs) (sym t.are ∙ (x.laid.roles r t.place).missing e) in
        let count = x.lengths es in
        joined_missing (length l.sections) 0 es ∙ sym (no_entries es (rela_size * length es) refl (omega (arith, none, count)))
    by_part (Some p) e =
        let few = All-contains (λ (q : Part). q.section < length l.sections) l.parts p x.laid.named ((x.laid.roles r t.place).there p e).listed in
        joined_one (length l.sections) 0 p es (omega arith) (omega (arith, few))

-- ---- the tables of sections

pub section_tables : (l : Layout) (js gs : List Rela) → IsFixedTable l js gs → HasSectionTables (bytes l) (section_headers_of l l.sections) (relas_of l)
section_tables l js gs x = λ k d lt has. (section_read l js gs k (get_or (section_headers_of l l.sections) k d) x (slice_get-get_or (section_headers_of l l.sections) k d lt) has).held

pub all_sections : (l : Layout) (js gs : List Rela) → IsFixedTable l js gs → IsPermutation (section_relas (section_headers_of l l.sections) (relas_of l)) (gs ++ js)
all_sections l js gs x =
    let hs = section_headers_of l l.sections in
    let n = length-section_headers_of l l.sections in
    let read = sections_joined l js gs 0 hs x (λ i h e. (let z : i ≡ 0 + i = omega arith in subst (λ (k : ℕ). slice_get hs k ≡ Some h) z e)) in
    let first = ap (λ (m : ℕ). joined m 0 (part_with role.RelaPlt l.parts) js) n ∙ joined_all l role.RelaPlt js js gs x x.jumps in
    let second = ap (λ (m : ℕ). joined m 0 (part_with role.RelaDynGeneral l.parts) gs) n ∙ joined_all l role.RelaDynGeneral gs js gs x x.generals in
    let both = subst (λ (es : List Rela). IsPermutation (section_relas hs (relas_of l)) (es ++ joined (length hs) 0 (part_with role.RelaDynGeneral l.parts) gs)) first read in
    let all = subst (λ (es : List Rela). IsPermutation (section_relas hs (relas_of l)) (js ++ es)) second both in
    IsPermutation-trans (section_relas hs (relas_of l)) (js ++ gs) (gs ++ js) all (IsPermutation-append_comm js gs)
