-- Laws of symbols in bytes.
use Rattle.std.proofs.Common.{◌≡◌, ℕ, inl, inr, zero, suc, ◌+◌, ◌-◌, ◌*◌, ◌<◌, ◌≤◌, List, [], ◌∷◌, ◌++◌, length, take, get_or, refl, sym, ap, ◌∙◌, arith}
use Rattle.std.specs.Prelude.{All}
use Rattle.std.proofs.lemmas.List.{append_assoc, append-nil, length-append, get_or_append_left, get_or-append_right}
use Rattle.std.proofs.lemmas.Bool.{cases_lt}
use Rattle.wild_words.specs.Words.{place, HasBytesAt}
use Rattle.wild_words.specs.Record.{spell}
use Rattle.wild_words.proofs.WordLemmas.{front-place}
use Rattle.wild_words.proofs.OverlayLemmas.{HasBytesAt-place, HasBytesAt-inner}
use Rattle.wild_words.proofs.RecordLemmas.{length-spell, HasBytesAt-left, HasBytesAt-right}
use Rattle.wild_words.proofs.OrderLemmas.{number_kept}
use Rattle.wild_records.specs.declared.symtab_entry.SymtabEntry.{SymtabEntry}
use Rattle.wild_records.specs.SymtabEntry.{symtab_entry_size, symtab_entry_fields, symtab_entry_at, SymtabEntryFits, SymtabEntryIsRead}
use Rattle.wild_table_formats.specs.Symbols.{symbol_bytes, symbols_in, IsSpelled}

pub length-symbol : (r : SymtabEntry) → length (spell (symtab_entry_fields r)) ≡ 24
unfolding symtab_entry_fields
length-symbol r = length-spell (symtab_entry_fields r)

pub length-symbol_bytes : (es : List SymtabEntry) → length (symbol_bytes es) ≡ symtab_entry_size * length es
length-symbol_bytes [] = refl
length-symbol_bytes (r ∷ es) = length-append (spell (symtab_entry_fields r)) (symbol_bytes es) ∙ (let a = length-symbol r in let b = length-symbol_bytes es in omega (arith, a, b))

symbol_bytes-push : (es : List SymtabEntry) (r : SymtabEntry) → symbol_bytes (es ++ r ∷ []) ≡ symbol_bytes es ++ spell (symtab_entry_fields r)
symbol_bytes-push [] r = append-nil (spell (symtab_entry_fields r))
symbol_bytes-push (e ∷ es) r = ap (λ (x : List ℕ). spell (symtab_entry_fields e) ++ x) (symbol_bytes-push es r) ∙ sym (append_assoc (spell (symtab_entry_fields e)) (symbol_bytes es) (spell (symtab_entry_fields r)))

pub length_symbols_in : (bs : List ℕ) (n : ℕ) → length (symbols_in bs n) ≡ n
unfolding symbols_in
length_symbols_in bs zero = refl
length_symbols_in bs (suc n) = length-append (symbols_in bs n) _ ∙ (let e = length_symbols_in bs n in omega (arith, e))

pub symbols_stand : (bs : List ℕ) (n : ℕ) → IsSpelled bs n → take (symtab_entry_size * length (symbols_in bs n)) bs ≡ symbol_bytes (symbols_in bs n)
unfolding IsSpelled
symbols_stand bs n s = let e = length_symbols_in bs n in rw e s

-- ---- one entry more

symbol_kept : (bs part : List ℕ) (at k : ℕ) → k + 24 ≤ at → at + length part ≤ length bs → symtab_entry_at (place at part bs) k ≡ symtab_entry_at bs k
unfolding symtab_entry_at
symbol_kept bs part at k h l =
    let f0 = number_kept bs part at k 4 (omega arith) l in
    let f1 = number_kept bs part at (k + 4) 1 (omega arith) l in
    let f2 = number_kept bs part at (k + 5) 1 (omega arith) l in
    let f3 = number_kept bs part at (k + 6) 2 (omega arith) l in
    let f4 = number_kept bs part at (k + 8) 8 (omega arith) l in
    let f5 = number_kept bs part at (k + 16) 8 (omega arith) l in
    rw (f0, f1, f2, f3, f4, f5) refl

symbols_in_kept : (n : ℕ) (bs part : List ℕ) (at : ℕ) → 24 * n ≤ at → at + length part ≤ length bs → symbols_in (place at part bs) n ≡ symbols_in bs n
unfolding symbols_in
symbols_in_kept zero bs part at h l = refl
symbols_in_kept (suc n) bs part at h l =
    let e = symbol_kept bs part at (24 * n) (omega arith) l in
    let r = symbols_in_kept n bs part at (omega arith) l in
    rw (e, r) refl

symbols_in_next : (bs : List ℕ) (n : ℕ) (r : SymtabEntry) → SymtabEntryIsRead → SymtabEntryFits r → 24 * n + 24 ≤ length bs → symbols_in (place (24 * n) (spell (symtab_entry_fields r)) bs) (suc n) ≡ symbols_in bs n ++ r ∷ []
unfolding symbols_in
symbols_in_next bs n r read fits l =
    let w = length-symbol r in
    let f : 24 * n + length (spell (symtab_entry_fields r)) ≤ length bs = omega (arith, w) in
    let e = read (place (24 * n) (spell (symtab_entry_fields r)) bs) (24 * n) r fits (HasBytesAt-place (24 * n) bs (spell (symtab_entry_fields r)) f) in
    let k = symbols_in_kept n bs (spell (symtab_entry_fields r)) (24 * n) (omega arith) f in
    rw (e, k) refl

pub symbols_in_more : (bs : List ℕ) (n : ℕ) (r : SymtabEntry) (m : ℕ) → m ≡ n + 1 → SymtabEntryIsRead → SymtabEntryFits r → 24 * n + 24 ≤ length bs → symbols_in (place (24 * n) (spell (symtab_entry_fields r)) bs) m ≡ symbols_in bs n ++ r ∷ []
symbols_in_more bs n r m e read fits l =
    let s : m ≡ suc n = omega arith in
    rw s (symbols_in_next bs n r read fits l)

pub spelled_more : (bs : List ℕ) (n : ℕ) (r : SymtabEntry) (m : ℕ) → m ≡ n + 1 → SymtabEntryIsRead → SymtabEntryFits r → 24 * n + 24 ≤ length bs → IsSpelled bs n → IsSpelled (place (24 * n) (spell (symtab_entry_fields r)) bs) m
unfolding IsSpelled
spelled_more bs n r m e read fits l s =
    let w = length-symbol r in
    front-place (24 * n) (24 * m) bs (spell (symtab_entry_fields r)) (omega (arith, w, e)) (omega arith)
    ∙ ap (λ (x : List ℕ). x ++ spell (symtab_entry_fields r)) s
    ∙ sym (ap symbol_bytes (symbols_in_more bs n r m e read fits l) ∙ symbol_bytes-push (symbols_in bs n) r)

-- ---- reading

-- symbol k of symbols
pub HasBytesAt-symbol : (es : List SymtabEntry) (k : ℕ) (d : SymtabEntry) → k < length es → HasBytesAt (symbol_bytes es) (24 * k) (spell (symtab_entry_fields (get_or es k d)))
HasBytesAt-symbol [] k d l = absurd (omega (arith, l))
HasBytesAt-symbol (r ∷ es) zero d l = HasBytesAt-left (spell (symtab_entry_fields r)) (symbol_bytes es)
HasBytesAt-symbol (r ∷ es) (suc k) d l =
    let n = length-symbol r in
    let e : length (spell (symtab_entry_fields r)) + 24 * k ≡ 24 * suc k = omega (arith, n) in
    rw e at (HasBytesAt-right (spell (symtab_entry_fields r)) (symbol_bytes es) (spell (symtab_entry_fields (get_or es k d))) (24 * k) (HasBytesAt-symbol es k d (omega (arith, l))))

pub symbol_read : SymtabEntryIsRead → (whole : List ℕ) (es : List SymtabEntry) (at k : ℕ) (d : SymtabEntry) → All SymtabEntryFits es → HasBytesAt whole at (symbol_bytes es) → k < length es → symtab_entry_at whole (at + symtab_entry_size * k) ≡ get_or es k d
symbol_read read whole es at k d h s l =
    read whole (at + 24 * k) (get_or es k d) (h k d l) (HasBytesAt-inner whole (symbol_bytes es) (spell (symtab_entry_fields (get_or es k d))) at (24 * k) s (HasBytesAt-symbol es k d l))

-- symbol k of those at the front
pub symbol_in : (bs : List ℕ) (n k : ℕ) (d : SymtabEntry) → k < length (symbols_in bs n) → symtab_entry_at bs (symtab_entry_size * k) ≡ get_or (symbols_in bs n) k d
unfolding symbols_in
symbol_in bs zero k d l = absurd (omega (arith, l))
symbol_in bs (suc n) k d l =
    let m = length_symbols_in bs n in
    let e = length-append (symbols_in bs n) (symtab_entry_at bs (24 * n) ∷ []) in
    elim (cases_lt k n) [
      | inl below ↦ symbol_in bs n k d (omega (arith, m, below)) ∙ sym (get_or_append_left (symbols_in bs n) (symtab_entry_at bs (24 * n) ∷ []) d k (omega (arith, m, below)))
      | inr above ↦
          (let is : k ≡ n = omega (arith, m, e, l, above) in
          let z : k - n ≡ 0 = omega (arith, is) in
          rw is (sym (get_or-append_right (symbols_in bs n) (symtab_entry_at bs (24 * n) ∷ []) n n d m (omega arith) ∙ ap (λ (i : ℕ). get_or (symtab_entry_at bs (24 * n) ∷ []) i d) (rw is at z))))
    ]
