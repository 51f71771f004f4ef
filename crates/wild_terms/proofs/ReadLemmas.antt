-- Steps of reading loaded bytes, and the result of loading.
use Rattle.std.proofs.Common.{◌≡◌, ℕ, zero, suc, ◌+◌, ◌-◌, ◌*◌, ◌%◌, ◌^◌, ◌<◌, List, ◌∷◌, refl, sym, ap, ◌∙◌, arith}
use Rattle.std.specs.Prelude.{Some, None, Result, Ok, Err}
use Rattle.std.specs.List.Sorted.{IsPermutation}
use Rattle.wild_words.specs.Words.{number}
use Rattle.wild_words.specs.declared.extents.Extent.{Extent}
use Rattle.wild_loader.specs.declared.fault.LoadFault.{LoadFault}
use Rattle.wild_loader.specs.declared.fault.LoadFault.TheVariants as faults
use Rattle.wild_loader.specs.declared.image.Image.{Image}
use Rattle.wild_loader.specs.declared.memory.Memory.{Memory}
use Rattle.wild_loader.specs.Outcome.{◌>>=◌}
use Rattle.wild_loader.specs.Load.{image_at}
use Rattle.wild_loader.specs.Memory.{memory_of, byte_in}
use Rattle.wild_loader.specs.Runs.{read_bytes}
use Rattle.wild_terms.specs.declared.outline.Outline.{Outline}
use Rattle.wild_terms.specs.declared.load.TermPatch.{TermPatch}
use Rattle.wild_terms.specs.Symbolic.{are_loaded, number_read, image_tails, relocate_terms, Symbolic, image_terms, terms_of, Ascend, IsSorted}

pub are_missing : (m : Memory) (a n : ℕ) → 0 < n → byte_in m a ≡ None → Err (faults.Unloaded (a % 2 ^ 64)) ≡ are_loaded m a n
unfolding read_bytes
are_missing m a zero l e = absurd (omega (arith, l))
are_missing m a (suc n) l e = rw e refl

pub number_none : (m : Memory) (a n : ℕ) → n ≡ 0 → Ok 0 ≡ number_read m a n
unfolding read_bytes number
number_none m a n e = rw e refl

pub number_missing : (m : Memory) (a n : ℕ) → 0 < n → byte_in m a ≡ None → Err (faults.Unloaded (a % 2 ^ 64)) ≡ number_read m a n
unfolding read_bytes
number_missing m a zero l e = absurd (omega (arith, l))
number_missing m a (suc n) l e = rw e refl

pub number_more : (m : Memory) (a n b rest : ℕ) → 0 < n → byte_in m a ≡ Some b → Ok rest ≡ number_read m (a + 1) (n - 1) → Ok (b + 256 * rest) ≡ number_read m a n
unfolding read_bytes number
number_more m a zero b rest l e h = absurd (omega (arith, l))
number_more m a (suc n) b rest l e h =
    let less : suc n - 1 ≡ n = omega arith in
    let h2 : Ok rest ≡ number_read m (a + 1) n = rw less at h in
    rw e (by_bytes (read_bytes m (a + 1) n) h2)
  where
    by_bytes : (r : Result (List ℕ) LoadFault) → Ok rest ≡ (r >>= λ bs. Ok (number bs)) → Ok (b + 256 * rest) ≡ ((r >>= λ bs. Ok (b ∷ bs)) >>= λ bs. Ok (number bs))
    by_bytes (Ok bs) h = ap (λ (x : Result ℕ LoadFault). x >>= λ n. Ok (b + 256 * n)) h
    by_bytes (Err f) h = cc

-- what loading makes is the memory as terms
pub loaded_by : (o : Outline) (image : List ℕ) (i : Image) (tails : List Extent) (m : Memory) (ps : List TermPatch) (t : Symbolic) → image_at 0 image ≡ Ok i → image_tails image ≡ Ok tails → memory_of i.machine i.runs ≡ m → relocate_terms o m tails i.tables ≡ Ok ps → t.memory ≡ m → IsPermutation ps t.patches → Ascend t.patches → (s : Symbolic) × (terms_of o image ≡ Ok s) × IsSorted s t
unfolding terms_of
loaded_by o image i tails m ps t a b c d e f g =
    let d2 : relocate_terms o (memory_of i.machine i.runs) tails i.tables ≡ Ok ps = ap (λ (x : Memory). relocate_terms o x tails i.tables) c ∙ d in
    let s : Symbolic = record { memory = memory_of i.machine i.runs; patches = ps } in
    let last : (relocate_terms o (memory_of i.machine i.runs) tails i.tables >>= λ qs. Ok (let x : Symbolic = record { memory = memory_of i.machine i.runs; patches = qs } in x)) ≡ Ok s = ap (λ (r : Result (List TermPatch) LoadFault). r >>= λ qs. Ok (let x : Symbolic = record { memory = memory_of i.machine i.runs; patches = qs } in x)) d2 in
    let middle : image_terms o image i ≡ Ok s = ap (λ (r : Result (List Extent) LoadFault). r >>= λ ts. relocate_terms o (memory_of i.machine i.runs) ts i.tables >>= λ qs. Ok (let x : Symbolic = record { memory = memory_of i.machine i.runs; patches = qs } in x)) b ∙ last in
    let first : terms_of o image ≡ Ok s = ap (λ (r : Result Image LoadFault). r >>= λ j. image_terms o image j) a ∙ middle in
    (s, first, record { memory = e ∙ sym c; patches = f; ascend = g })
