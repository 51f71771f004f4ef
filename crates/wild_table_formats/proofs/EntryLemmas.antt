-- Laws of entries in bytes.
use Rattle.std.proofs.Common.{◌≡◌, ℕ, zero, suc, ◌+◌, ◌*◌, ◌<◌, ◌≤◌, List, [], ◌∷◌, ◌++◌, length, take, get_or, refl, sym, ap, ◌∙◌, arith}
use Rattle.std.specs.Prelude.{All}
use Rattle.std.proofs.lemmas.List.{append_assoc, append-nil, length-append}
use Rattle.wild_words.specs.Words.{place, HasBytesAt}
use Rattle.wild_words.specs.Record.{spell}
use Rattle.wild_words.proofs.WordLemmas.{front-place}
use Rattle.wild_words.proofs.OverlayLemmas.{HasBytesAt-place, HasBytesAt-inner}
use Rattle.wild_words.proofs.RecordLemmas.{length-spell, HasBytesAt-left, HasBytesAt-right}
use Rattle.wild_words.proofs.OrderLemmas.{number_kept}
use Rattle.wild_records.specs.declared.relocations.Rela.{Rela}
use Rattle.wild_records.specs.Relocations.{rela_size, rela_fields, rela_at, RelaFits, RelaIsRead}
use Rattle.wild_table_formats.specs.RelativeEntries.{rela_bytes, entries_in, IsSpelled}

pub length-rela : (r : Rela) → length (spell (rela_fields r)) ≡ 24
unfolding rela_fields
length-rela r = length-spell (rela_fields r)

pub length-rela_bytes : (es : List Rela) → length (rela_bytes es) ≡ rela_size * length es
length-rela_bytes [] = refl
length-rela_bytes (r ∷ es) = length-append (spell (rela_fields r)) (rela_bytes es) ∙ (let a = length-rela r in let b = length-rela_bytes es in omega (arith, a, b))

rela_bytes-push : (es : List Rela) (r : Rela) → rela_bytes (es ++ r ∷ []) ≡ rela_bytes es ++ spell (rela_fields r)
rela_bytes-push [] r = append-nil (spell (rela_fields r))
rela_bytes-push (e ∷ es) r = ap (λ (x : List ℕ). spell (rela_fields e) ++ x) (rela_bytes-push es r) ∙ sym (append_assoc (spell (rela_fields e)) (rela_bytes es) (spell (rela_fields r)))

pub length_entries_in : (bs : List ℕ) (n : ℕ) → length (entries_in bs n) ≡ n
unfolding entries_in
length_entries_in bs zero = refl
length_entries_in bs (suc n) = length-append (entries_in bs n) _ ∙ (let e = length_entries_in bs n in omega (arith, e))

pub entries_stand : (bs : List ℕ) (n : ℕ) → IsSpelled bs n → take (rela_size * length (entries_in bs n)) bs ≡ rela_bytes (entries_in bs n)
unfolding IsSpelled
entries_stand bs n s = let e = length_entries_in bs n in rw e s

-- ---- one entry more

rela_kept : (bs part : List ℕ) (at k : ℕ) → k + 24 ≤ at → at + length part ≤ length bs → rela_at (place at part bs) k ≡ rela_at bs k
unfolding rela_at
rela_kept bs part at k h l =
    let f0 = number_kept bs part at k 8 (omega arith) l in
    let f1 = number_kept bs part at (k + 8) 4 (omega arith) l in
    let f2 = number_kept bs part at (k + 12) 4 (omega arith) l in
    let f3 = number_kept bs part at (k + 16) 8 (omega arith) l in
    rw (f0, f1, f2, f3) refl

entries_in_kept : (n : ℕ) (bs part : List ℕ) (at : ℕ) → 24 * n ≤ at → at + length part ≤ length bs → entries_in (place at part bs) n ≡ entries_in bs n
unfolding entries_in
entries_in_kept zero bs part at h l = refl
entries_in_kept (suc n) bs part at h l =
    let e = rela_kept bs part at (24 * n) (omega arith) l in
    let r = entries_in_kept n bs part at (omega arith) l in
    rw (e, r) refl

entries_in_next : (bs : List ℕ) (n : ℕ) (r : Rela) → RelaIsRead → RelaFits r → 24 * n + 24 ≤ length bs → entries_in (place (24 * n) (spell (rela_fields r)) bs) (suc n) ≡ entries_in bs n ++ r ∷ []
unfolding entries_in
entries_in_next bs n r read fits l =
    let w = length-rela r in
    let f : 24 * n + length (spell (rela_fields r)) ≤ length bs = omega (arith, w) in
    let e = read (place (24 * n) (spell (rela_fields r)) bs) (24 * n) r fits (HasBytesAt-place (24 * n) bs (spell (rela_fields r)) f) in
    let k = entries_in_kept n bs (spell (rela_fields r)) (24 * n) (omega arith) f in
    rw (e, k) refl

pub entries_in_more : (bs : List ℕ) (n : ℕ) (r : Rela) (m : ℕ) → m ≡ n + 1 → RelaIsRead → RelaFits r → 24 * n + 24 ≤ length bs → entries_in (place (24 * n) (spell (rela_fields r)) bs) m ≡ entries_in bs n ++ r ∷ []
entries_in_more bs n r m e read fits l =
    let s : m ≡ suc n = omega arith in
    rw s (entries_in_next bs n r read fits l)

pub spelled_more : (bs : List ℕ) (n : ℕ) (r : Rela) (m : ℕ) → m ≡ n + 1 → RelaIsRead → RelaFits r → 24 * n + 24 ≤ length bs → IsSpelled bs n → IsSpelled (place (24 * n) (spell (rela_fields r)) bs) m
unfolding IsSpelled
spelled_more bs n r m e read fits l s =
    let w = length-rela r in
    front-place (24 * n) (24 * m) bs (spell (rela_fields r)) (omega (arith, w, e)) (omega arith)
    ∙ ap (λ (x : List ℕ). x ++ spell (rela_fields r)) s
    ∙ sym (ap rela_bytes (entries_in_more bs n r m e read fits l) ∙ rela_bytes-push (entries_in bs n) r)

-- ---- reading

HasBytesAt-entry : (es : List Rela) (k : ℕ) (d : Rela) → k < length es → HasBytesAt (rela_bytes es) (24 * k) (spell (rela_fields (get_or es k d)))
HasBytesAt-entry [] k d l = absurd (omega (arith, l))
HasBytesAt-entry (r ∷ es) zero d l = HasBytesAt-left (spell (rela_fields r)) (rela_bytes es)
HasBytesAt-entry (r ∷ es) (suc k) d l =
    let n = length-rela r in
    let e : length (spell (rela_fields r)) + 24 * k ≡ 24 * suc k = omega (arith, n) in
    rw e at (HasBytesAt-right (spell (rela_fields r)) (rela_bytes es) (spell (rela_fields (get_or es k d))) (24 * k) (HasBytesAt-entry es k d (omega (arith, l))))

pub entry_read : RelaIsRead → (whole : List ℕ) (es : List Rela) (at k : ℕ) (d : Rela) → All RelaFits es → HasBytesAt whole at (rela_bytes es) → k < length es → rela_at whole (at + rela_size * k) ≡ get_or es k d
entry_read read whole es at k d h s l =
    read whole (at + 24 * k) (get_or es k d) (h k d l) (HasBytesAt-inner whole (rela_bytes es) (spell (rela_fields (get_or es k d))) at (24 * k) s (HasBytesAt-entry es k d l))
