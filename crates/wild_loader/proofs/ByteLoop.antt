-- The steps of the loop over bytes of memory.
use Rattle.std.proofs.Common.{◌≡◌, ℕ, suc, ◌+◌, ◌-◌, ◌%◌, ◌^◌, ◌<◌, ◌≤◌, List, [], ◌∷◌, ◌++◌, refl, sym, ap, ◌∙◌, arith, length, slice_range}
use Rattle.std.specs.Prelude.{Some, None, Result, Ok, Err}
use Rattle.std.proofs.lemmas.List.{append_assoc, append-nil, take_all}
use Rattle.wild_words.specs.Words.{number}
use Rattle.wild_loader.specs.declared.fault.LoadFault.{LoadFault}
use Rattle.wild_loader.specs.declared.fault.LoadFault.TheVariants as faults
use Rattle.wild_loader.specs.declared.memory.Memory.{Memory}
use Rattle.wild_loader.specs.Memory.{byte_in}
use Rattle.wild_loader.specs.Outcome.{◌>>=◌}
use Rattle.wild_loader.specs.Runs.{read_bytes}

-- bytes behind those that were read
abbrev pub AfterBytes : List ℕ → Result (List ℕ) LoadFault → Result (List ℕ) LoadFault
AfterBytes front rest = rest >>= λ bs. Ok (front ++ bs)

after_one : (front : List ℕ) (b : ℕ) (rest : Result (List ℕ) LoadFault) → AfterBytes (front ++ b ∷ []) rest ≡ AfterBytes front (rest >>= λ bs. Ok (b ∷ bs))
after_one front b (Ok bs) = ap Ok (append_assoc front (b ∷ []) bs)
after_one front b (Err e) = refl

pub bytes_more : (m : Memory) (a n i b : ℕ) (front : List ℕ) (whole : Result (List ℕ) LoadFault) → i < n → byte_in m (a + i) ≡ Some b → AfterBytes front (read_bytes m (a + i) (n - i)) ≡ whole → AfterBytes (front ++ b ∷ []) (read_bytes m (a + (i + 1)) (n - (i + 1))) ≡ whole
unfolding read_bytes
bytes_more m a n i b front whole l is inv =
    let e : n - i ≡ suc (n - (i + 1)) = omega arith in
    let f : a + i + 1 ≡ a + (i + 1) = omega arith in
    let step = rw (e, is, f) at inv in
    after_one front b (read_bytes m (a + (i + 1)) (n - (i + 1))) ∙ step

pub bytes_missed : (m : Memory) (a n i : ℕ) (front : List ℕ) (whole : Result (List ℕ) LoadFault) → i < n → byte_in m (a + i) ≡ None → AfterBytes front (read_bytes m (a + i) (n - i)) ≡ whole → whole ≡ Err (faults.Unloaded ((a + i) % 2 ^ 64))
unfolding read_bytes
bytes_missed m a n i front whole l is inv =
    let e : n - i ≡ suc (n - (i + 1)) = omega arith in
    let step = rw (e, is) at inv in
    sym step

pub bytes_read : (m : Memory) (a n i : ℕ) (front : List ℕ) (whole : Result (List ℕ) LoadFault) → n ≤ i → AfterBytes front (read_bytes m (a + i) (n - i)) ≡ whole → whole ≡ Ok front
unfolding read_bytes
bytes_read m a n i front whole l inv =
    let e : n - i ≡ 0 = omega arith in
    let step = rw e at inv in
    sym step ∙ ap Ok (append-nil front)

-- the number in 8 bytes
pub whole_word : (bs : List ℕ) → length bs ≡ 8 → number (slice_range bs 0 8) ≡ number bs
whole_word bs n = ap number (take_all 8 bs (omega (arith, n)))
