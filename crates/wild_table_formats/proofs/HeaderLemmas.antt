-- Laws of headers.
use Rattle.std.proofs.Common.{◌≡◌, ℕ, ◌+◌, ◌*◌, ◌<◌, ◌≤◌, ◌==◌, List, [], ◌∷◌, ◌++◌, length, take, drop, get_or, refl, sym, ap, ◌∙◌, arith, if◌then◌else◌, subst, nat_eq, false}
use Rattle.std.specs.List.{flat_map}
use Rattle.std.proofs.lemmas.List.{length-append, append_assoc, append-nil, take_more, length-take-le}
use Rattle.std.proofs.lemmas.Slice.{drop-append-drop}
use Rattle.std.proofs.lemmas.Bool.Decides.{nat_tests}
use Rattle.std.proofs.Math.Nat.{mul-le-mul_left}
use Rattle.std.proofs.lemmas.List.Concat.{flat_map-append}
use Rattle.wild_words.specs.Words.{word, place}
use Rattle.wild_words.specs.Record.{spell}
use Rattle.wild_words.proofs.WordLemmas.{front-place, word_1}
use Rattle.wild_words.proofs.RecordLemmas.{length-spell}
use Rattle.wild_words.proofs.ListLemmas.{flat_map-more}
use Rattle.wild_records.specs.ProgramHeader.{program_header_fields, program_header_size}
use Rattle.wild_records.specs.SectionHeader.{section_header_size, section_header_fields}
use Rattle.wild_records.specs.declared.program_header.ProgramHeader.{ProgramHeader}
use Rattle.wild_records.specs.declared.section_header.SectionHeader.{SectionHeader}
use Rattle.wild_types.specs.declared.section.Section.{Section}
use Rattle.wild_types.specs.declared.layout.Layout.{Layout}
use Rattle.wild_types.specs.Lists.{total}
use Rattle.wild_types.proofs.ListLemmas.{total-prefix, total-more}
use Rattle.wild_table_formats.specs.declared.section_info.ComputedInfo.{ComputedInfo}
use Rattle.wild_table_formats.specs.Headers.{computed_infos, info_at, null_header, section_header, headers_from, section_headers_of}

pub length-program_header : (h : ProgramHeader) → length (spell (program_header_fields h)) ≡ program_header_size
unfolding program_header_fields
length-program_header h = length-spell (program_header_fields h)

pub length-section_header : (h : SectionHeader) → length (spell (section_header_fields h)) ≡ section_header_size
unfolding section_header_fields
length-section_header h = length-spell (section_header_fields h)

drop-place : (a n : ℕ) (xs ys : List ℕ) → a + length ys ≤ n → a ≤ length xs → drop n (place a ys xs) ≡ drop n xs
unfolding place
drop-place a n xs ys h l =
    let m : length (take a xs) ≡ a = length-take-le a xs l in
    let e : length (take a xs ++ ys) ≡ a + length ys = length-append (take a xs) ys ∙ ap (λ (k : ℕ). k + length ys) m in
    ap (drop n) (sym (append_assoc (take a xs) ys (drop (a + length ys) xs))) ∙ drop-append-drop (a + length ys) xs (take a xs ++ ys) n h e

-- two parts put one behind the other
pub place-place : (at b : ℕ) (xs ys out : List ℕ) → b ≡ at + length xs → b + length ys ≤ length out → place b ys (place at xs out) ≡ place at (xs ++ ys) out
unfolding place
place-place at b xs ys out e h =
    let front : take b (place at xs out) ≡ take at out ++ xs = front-place at b out xs e (omega arith) in
    let back : drop (b + length ys) (place at xs out) ≡ drop (b + length ys) out = drop-place at (b + length ys) out xs (omega arith) (omega arith) in
    let n : at + length (xs ++ ys) ≡ b + length ys = let l = length-append xs ys in omega arith in
    ap (λ (f : List ℕ). f ++ (ys ++ drop (b + length ys) (place at xs out))) front
    ∙ ap (λ (r : List ℕ). (take at out ++ xs) ++ (ys ++ r)) back
    ∙ append_assoc (take at out) xs (ys ++ drop (b + length ys) out)
    ∙ ap (λ (r : List ℕ). take at out ++ r) (sym (append_assoc xs ys (drop (b + length ys) out)))
    ∙ ap (λ (k : ℕ). take at out ++ ((xs ++ ys) ++ drop k out)) (sym n)

pub place_word_behind : (at b : ℕ) (xs out : List ℕ) → b ≡ at + length xs → b + 1 ≤ length out → place b (word 1 0) (place at xs out) ≡ place at (xs ++ 0 ∷ []) out
place_word_behind at b xs out e h =
    rw (← word_1 0 (omega arith)) (place-place at b xs (0 ∷ []) out e h)

-- one more item of a table whose entries have the same width
pub table-more : {X : Type 0} (f : X → List ℕ) (n i : ℕ) (xs : List X) (d : X) (out : List ℕ) → i < length xs → length (f (get_or xs i d)) ≡ n → n * length xs ≡ length out → take (n * i) out ≡ flat_map f (take i xs)
    → take (n * (i + 1)) (place (n * i) (f (get_or xs i d)) out) ≡ flat_map f (take (i + 1) xs)
table-more f n i xs d out l w room e =
    let m : n * i ≤ n * length xs = mul-le-mul_left n (omega arith) in
    let a : n * i ≤ length out = omega arith in
    front-place (n * i) (n * (i + 1)) out (f (get_or xs i d)) (omega arith) a
    ∙ ap (λ (r : List ℕ). r ++ f (get_or xs i d)) e
    ∙ sym (flat_map-more f xs i d l)

-- the header of the section with index i
abbrev pub header_at : Layout → ℕ → ℕ → Section → SectionHeader
header_at l i name s = if i == 0 then null_header l else section_header l (info_at (computed_infos l) i s.info) name s

abbrev pub named : Section → ℕ
named s = length s.name + 1

headers_from-push : (l : Layout) (d : List ComputedInfo) (i name : ℕ) (ss : List Section) (s : Section) → headers_from l d i name (ss ++ s ∷ []) ≡ headers_from l d i name ss ++ section_header l (info_at d (i + length ss) s.info) (name + total named ss) s ∷ []
headers_from-push l d i name [] s = let e : name + 0 ≡ name = omega arith in let z : i + 0 ≡ i = omega arith in rw (e, z) refl
headers_from-push l d i name (t ∷ ss) s =
    let e : name + length t.name + 1 + total named ss ≡ name + (length t.name + 1 + total named ss) = omega arith in
    let n : i + 1 + length ss ≡ i + length (t ∷ ss) = omega arith in
    ap (λ (r : List SectionHeader). section_header l (info_at d i t.info) name t ∷ r) (rw (← e, ← n) (headers_from-push l d (i + 1) (name + length t.name + 1) ss s))

section_headers_of-push : (l : Layout) (i : ℕ) (ss : List Section) (s : Section) → length ss ≡ i → section_headers_of l (ss ++ s ∷ []) ≡ section_headers_of l ss ++ header_at l i (total named ss) s ∷ []
section_headers_of-push l i [] s e = rw (← e) refl
section_headers_of-push l i (t ∷ ss) s e =
    let z : nat_eq i 0 ≡ false = grind (arith, nat_tests) in
    let n : 1 + length ss ≡ i = omega (arith, e) in
    rw (z, ← n) (ap (λ (r : List SectionHeader). null_header l ∷ r) (headers_from-push l (computed_infos l) 1 (length t.name + 1) ss s))

-- one more section header
pub section_table-more : (l : Layout) (i : ℕ) (ss : List Section) (d : Section) (out : List ℕ) → i < length ss → section_header_size * length ss ≡ length out
    → take (section_header_size * i) out ≡ flat_map (λ h. spell (section_header_fields h)) (section_headers_of l (take i ss))
    → take (section_header_size * (i + 1)) (place (section_header_size * i) (spell (section_header_fields (header_at l i (total named (take i ss)) (get_or ss i d)))) out) ≡ flat_map (λ h. spell (section_header_fields h)) (section_headers_of l (take (i + 1) ss))
section_table-more l i ss d out h room e =
    let f : SectionHeader → List ℕ = λ h. spell (section_header_fields h) in
    let header = header_at l i (total named (take i ss)) (get_or ss i d) in
    let w = length-section_header header in
    let here : section_headers_of l (take (i + 1) ss) ≡ section_headers_of l (take i ss) ++ header ∷ [] =
    ap (section_headers_of l) (take_more ss i d h) ∙ section_headers_of-push l i (take i ss) (get_or ss i d) (length-take-le i ss (omega arith)) in
    front-place (section_header_size * i) (section_header_size * (i + 1)) out (f header) (omega arith) (omega arith)
    ∙ ap (λ (r : List ℕ). r ++ f header) e
    ∙ ap (λ (r : List ℕ). flat_map f (section_headers_of l (take i ss)) ++ r) (sym (append-nil (f header)))
    ∙ sym (flat_map-append f (section_headers_of l (take i ss)) (header ∷ []))
    ∙ ap (flat_map f) (sym here)

-- the same, for a section that a loop read
pub section_table_read : (l : Layout) (i name : ℕ) (ss : List Section) (s : Section) (out : List ℕ) → i < length ss → s ≡ get_or ss i s → name ≡ total named (take i ss) → length out ≡ section_header_size * length ss
    → take (section_header_size * i) out ≡ flat_map (λ h. spell (section_header_fields h)) (section_headers_of l (take i ss))
    → take (section_header_size * (i + 1)) (place (section_header_size * i) (spell (section_header_fields (header_at l i name s))) out) ≡ flat_map (λ h. spell (section_header_fields h)) (section_headers_of l (take (i + 1) ss))
section_table_read l i name ss s out h read e room before =
    let P : Section → Type 0 = λ t. take (section_header_size * (i + 1)) (place (section_header_size * i) (spell (section_header_fields (header_at l i (total named (take i ss)) t))) out) ≡ flat_map (λ g. spell (section_header_fields g)) (section_headers_of l (take (i + 1) ss)) in
    rw e (subst P (sym read) (section_table-more l i ss s out h (sym room) before))

-- a name and those before it have their room
pub named_fits : (ss items : List Section) (i at : ℕ) (s : Section) → i < length items → s ≡ get_or items i s → at ≡ total named (take i items) → items ≡ ss → at + (length s.name + 1) ≤ total named ss
named_fits ss items i at s h read e same =
    let p = total-prefix named items i s h in
    let r = ap named read in
    let n = ap (total named) same in
    omega (arith, p, r, n)

-- one more name
pub names_read : (items : List Section) (i at n : ℕ) (s : Section) (out : List ℕ) → i < length items → s ≡ get_or items i s → at ≡ total named (take i items) → n ≡ length s.name → at + (n + 1) ≤ length out
    → take at out ≡ flat_map (λ t. t.name ++ 0 ∷ []) (take i items) → take (at + (n + 1)) (place at (s.name ++ 0 ∷ []) out) ≡ flat_map (λ t. t.name ++ 0 ∷ []) (take (i + 1) items)
names_read items i at n s out h read e m room before =
    let f : Section → List ℕ = λ t. t.name ++ 0 ∷ [] in
    let len : length (f s) ≡ length s.name + 1 = length-append s.name (0 ∷ []) in
    front-place at (at + (n + 1)) out (f s) (omega (arith, len)) (omega arith)
    ∙ ap (λ (r : List ℕ). r ++ f s) before
    ∙ ap (λ (t : Section). flat_map f (take i items) ++ f t) read
    ∙ sym (flat_map-more f items i s h)

pub total_read : (items : List Section) (i at n : ℕ) (s : Section) → i < length items → s ≡ get_or items i s → at ≡ total named (take i items) → n ≡ length s.name → at + (n + 1) ≡ total named (take (i + 1) items)
total_read items i at n s h read e m =
    let t = total-more named items i s h in
    let r = ap named read in
    omega (arith, t, r)
