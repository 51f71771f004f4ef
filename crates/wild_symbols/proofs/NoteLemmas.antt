-- What is noted of symbols, file by file.
use Rattle.std.proofs.Common.{inl, inr, replicate, ◌≡◌, ℕ, [], ◌∷◌, ◌++◌, ◌&&◌, Bool, true, false, nat_lt, nat_le, if◌then◌else◌, take, set, ◌+◌, ◌<◌, ◌≤◌, List, length, get_or, map, Option, Some, None, refl, sym, subst, ap, ◌∙◌, arith}
use Rattle.std.specs.Prelude.{slice_get, option_map, option_and_then}
use Rattle.std.specs.Option.{option_or, option_flatten}
use Rattle.std.specs.List.{range_with_len}
use Rattle.std.proofs.lemmas.Bool.{cases_eq, cases_lt, le-leb, lt-ltb, le-ltb}
use Rattle.std.proofs.lemmas.List.{length-set, get_or-set_same, get_or-set_other, take_more, get_or-replicate}
use Rattle.std.proofs.lemmas.Option.{slice_get_past}
use Rattle.std.proofs.lemmas.List.FromFn.{get_or-map-range_with_len, length-map-range_with_len, map-range_with_len_more}
use Rattle.wild_words.proofs.ListLemmas.{flat_map-more}
use Rattle.wild_types.specs.declared.symbol.Symbol.{Symbol}
use Rattle.wild_types.specs.declared.file.File.{File}
use Rattle.wild_types.specs.declared.file.Group.{Group}
use Rattle.wild_types.specs.declared.layout.Layout.{Layout}
use Rattle.wild_types.specs.Lookups.{file_of, files_of}
use Rattle.wild_table_formats.specs.SectionSymbols.{entry_index, section_at, section_number, symbol_index, is_section_type}
use Rattle.wild_symbols.specs.SymbolNumbers.{section_symbol_number, section_symbol_number_at, found}

-- one more symbol of a file, noted
pub note_more : {T : Type 0} (told : ℕ → File → T) (f : File) (first i : ℕ) (before now : List (Option T)) (v : Option T) → first ≤ i → i < length now
    → ((k : ℕ) → k < length now → get_or now k None ≡ (if nat_le first k && nat_lt k i then option_or (get_or before k None) (Some (told k f)) else get_or before k None))
    → v ≡ option_or (get_or now i None) (Some (told i f))
    → (k : ℕ) → k < length (set now i v) → get_or (set now i v) k None ≡ (if nat_le first k && nat_lt k (i + 1) then option_or (get_or before k None) (Some (told k f)) else get_or before k None)
note_more {T} told f first i before now v low h inv is k m =
    let n = length-set now i v in
    elim (cases_eq k i) [
      | inl same ↦
          (let a = le-leb first k (omega arith) in
          let b = lt-ltb k (i + 1) (omega arith) in
          let d : nat_lt i i ≡ false = le-ltb i i (omega arith) in
          let was : get_or now i None ≡ get_or before i None = inv i h ∙ (rw d (rw (le-leb first i low) refl)) in
          rw (a, b) (ap (λ (j : ℕ). get_or (set now i v) j None) same ∙ get_or-set_same now i v None h ∙ is ∙ ap (λ (o : Option T). option_or o (Some (told i f))) was ∙ ap (λ (j : ℕ). option_or (get_or before j None) (Some (told j f))) (sym same)))
      | inr other ↦
          (let e : nat_lt k (i + 1) ≡ nat_lt k i = one_apart k i other in
          rw e (get_or-set_other now i k v None other ∙ inv k (omega arith)))
    ]
  where
    one_apart : (k i : ℕ) → (k ≡ i → ⊥) → nat_lt k (i + 1) ≡ nat_lt k i
    one_apart k i other =
        elim (cases_lt k i) [
          | inl low ↦ lt-ltb k (i + 1) (omega arith) ∙ sym (lt-ltb k i low)
          | inr from ↦ le-ltb k (i + 1) (omega arith) ∙ sym (le-ltb k i from)
        ]

found_head : {T : Type 0} (told : ℕ → File → T) (f : File) (k : ℕ) (b : Bool) (rest : Option File) → option_map (told k) (if b then Some f else rest) ≡ option_or (option_map (told k) (if b then Some f else None)) (option_map (told k) rest)
found_head told f k true rest = refl
found_head told f k false rest = refl

or_assoc : {A : Type 0} (a b c : Option A) → option_or (option_or a b) c ≡ option_or a (option_or b c)
or_assoc (Some x) b c = refl
or_assoc None b c = refl

found-append : {T : Type 0} (told : ℕ → File → T) (fs gs : List File) (k : ℕ) → found told (fs ++ gs) k ≡ option_or (found told fs k) (found told gs k)
found-append told [] gs k = refl
found-append {T} told (f ∷ fs) gs k =
    let b = nat_le f.first_symbol k && nat_lt k (f.first_symbol + f.symbol_count) in
    found_head told f k b (file_of (fs ++ gs) k)
    ∙ ap (option_or (found told (f ∷ []) k)) (found-append told fs gs k)
    ∙ sym (or_assoc (found told (f ∷ []) k) (found told fs k) (found told gs k))
    ∙ ap (λ (o : Option T). option_or o (found told gs k)) (sym (found_head told f k b (file_of fs k)))

-- some more files
pub found_more : {T : Type 0} (told : ℕ → File → T) (fs gs hs : List File) (k : ℕ) (before now next : Option T) → hs ≡ fs ++ gs → now ≡ option_or before (found told fs k) → next ≡ option_or now (found told gs k) → next ≡ option_or before (found told hs k)
found_more {T} told fs gs hs k before now next is e h =
    h ∙ ap (λ (o : Option T). option_or o (found told gs k)) e ∙ or_assoc before (found told fs k) (found told gs k)
    ∙ ap (option_or before) (sym (found-append told fs gs k)) ∙ ap (λ (xs : List File). option_or before (found told xs k)) (sym is)

-- one more file
pub one_file_more : (fs : List File) (i : ℕ) (f : File) → i < length fs → f ≡ get_or fs i f → take (i + 1) fs ≡ take i fs ++ f ∷ []
one_file_more fs i f h read = take_more fs i f h ∙ ap (λ (g : File). take i fs ++ g ∷ []) (sym read)

-- one more group
pub one_group_more : (gs : List Group) (i : ℕ) (g : Group) (files : List File) → i < length gs → g ≡ get_or gs i g → files ≡ g.files → files_of (take (i + 1) gs) ≡ files_of (take i gs) ++ files
one_group_more gs i g files h read is =
    let P : Group → Type 0 = λ x. files_of (take (i + 1) gs) ≡ files_of (take i gs) ++ x.files in
    rw is (subst P (sym read) (flat_map-more (λ (x : Group). x.files) gs i g h))

-- a symbol of a table in which nothing was noted
pub first_noted : {T : Type 0} (n k : ℕ) (before : List (Option T)) (now is : Option T) → before ≡ replicate n None → k < n → now ≡ option_or (get_or before k None) is → now ≡ is
first_noted {T} n k before now is none h e = e ∙ ap (λ (o : Option T). option_or o is) (ap (λ (xs : List (Option T)). get_or xs k None) none ∙ get_or-replicate n k None None h)

-- ---- the number that stands for a symbol

never : {A : Type 0} (b : Bool) (o : Option A) → o ≡ None → (if b then o else None) ≡ None
never true o h = h
never false o h = refl

told_is : (l : Layout) (o : Option Symbol) (p : Option File)
    → option_and_then (λ (s : Symbol). if is_section_type s then option_and_then (section_number l) (option_and_then (λ (t : Symbol). option_and_then (section_at t.place) p) o) else None) o
    ≡ option_flatten (option_map (λ (f : File). option_and_then (section_symbol_number l f) o) p)
told_is l None None = refl
told_is l None (Some f) = refl
told_is l (Some s) None = never (is_section_type s) None refl
told_is l (Some s) (Some f) = refl

-- that of its own entry, else what was noted
symbol_index_is : (l : Layout) (i : ℕ) → symbol_index l i ≡ option_or (entry_index l i) (option_flatten (found (section_symbol_number_at l) (files_of l.groups) i))
symbol_index_is l i = ap (option_or (entry_index l i)) (told_is l (slice_get l.symbols i) (file_of (files_of l.groups) i))

-- one more number of the table
pub number_more : (l : Layout) (i : ℕ) (numbers next : List (Option ℕ)) (own v : Option ℕ) (noted : Option (Option ℕ)) → numbers ≡ map (symbol_index l) (range_with_len 0 i) → next ≡ numbers ++ v ∷ []
    → own ≡ entry_index l i → noted ≡ found (section_symbol_number_at l) (files_of l.groups) i → v ≡ option_or own (option_flatten noted) → next ≡ map (symbol_index l) (range_with_len 0 (i + 1))
number_more l i numbers next own v noted before pushed o is e =
    pushed ∙ ap (λ (xs : List (Option ℕ)). xs ++ v ∷ []) before
    ∙ ap (λ (x : Option ℕ). map (symbol_index l) (range_with_len 0 i) ++ x ∷ []) (e ∙ ap (λ (x : Option ℕ). option_or x (option_flatten noted)) o ∙ ap (λ (x : Option (Option ℕ)). option_or (entry_index l i) (option_flatten x)) is ∙ sym (symbol_index_is l i))
    ∙ sym (map-range_with_len_more (symbol_index l) 0 i i (omega arith))

-- an entry of the table
pub number_there : (l : Layout) (numbers : List (Option ℕ)) (i : ℕ) (d : Option ℕ) → numbers ≡ map (symbol_index l) (range_with_len 0 (length l.symbols)) → i < length numbers → get_or numbers i d ≡ symbol_index l i
number_there l numbers i d h m =
    let n = ap length h ∙ length-map-range_with_len (symbol_index l) 0 (length l.symbols) in
    ap (λ (vs : List (Option ℕ)). get_or vs i d) h ∙ get_or-map-range_with_len (symbol_index l) 0 (length l.symbols) i i d (omega arith) (omega arith)

-- nothing stands for a symbol that is not there
index_past : (l : Layout) (i : ℕ) → length l.symbols ≤ i → symbol_index l i ≡ None
index_past l i h = let e = slice_get_past l.symbols i h in rw e refl

pub number_past : (l : Layout) (numbers : List (Option ℕ)) (i : ℕ) → numbers ≡ map (symbol_index l) (range_with_len 0 (length l.symbols)) → length numbers ≤ i → None ≡ symbol_index l i
number_past l numbers i h m =
    let n = ap length h ∙ length-map-range_with_len (symbol_index l) 0 (length l.symbols) in
    sym (index_past l i (omega arith))

pub ruleset looked_up = (number_there, number_past)
