-- The steps of the walks over an image's records.
use Rattle.std.proofs.Common.{◌≡◌, Bool, true, false, ℕ, suc, ◌+◌, ◌-◌, ◌*◌, ◌%◌, ◌<◌, ◌≤◌, List, [], ◌∷◌, ◌++◌, refl, sym, ap, ◌∙◌, arith, Ok, Err}
use Rattle.std.specs.Prelude.{if◌then◌else◌, ◌==◌, max, Result}
use Rattle.std.proofs.lemmas.List.{append_assoc, append-nil}
use Rattle.wild_records.specs.Dynamic.{dynamic_entry_at}
use Rattle.wild_records.specs.ProgramHeader.{program_header_at}
use Rattle.wild_records.specs.SectionHeader.{section_header_at}
use Rattle.wild_records.specs.declared.dynamic.DynamicEntry.{DynamicEntry}
use Rattle.wild_loader.specs.Headers.{program_headers, section_headers}
use Rattle.wild_loader.specs.Tables.{dynamic_entries}
use Rattle.wild_hashes.specs.declared.fault.LookupFault.{LookupFault}
use Rattle.wild_hashes.specs.declared.fault.LookupFault.TheVariants as low
use Rattle.wild_hashes.specs.Reading.{read, ◌>>=◌}
use Rattle.wild_imports.specs.Imports.{needed_values, thread_address}
use Rattle.wild_imports.specs.SymbolCount.{greatest_word, count_chain, dynsym_size}

-- ---- DT_NEEDED entries

abbrev rest_from : List ℕ → ℕ → ℕ → ℕ → List ℕ
rest_from image count i start = needed_values (dynamic_entries image (count - i) (start + 16 * i))

needed_one : (d : DynamicEntry) (ds : List DynamicEntry) → needed_values (d ∷ ds) ≡ needed_values (d ∷ []) ++ needed_values ds
needed_one d ds = by_tag (d.tag == 1) refl
  where
    by_tag : (c : Bool) → (d.tag == 1) ≡ c → needed_values (d ∷ ds) ≡ needed_values (d ∷ []) ++ needed_values ds
    by_tag true h = rw h refl
    by_tag false h = rw h refl

pub needed_next : (image : List ℕ) (count i start : ℕ) (acc more whole : List ℕ) → i < count → ((dynamic_entry_at image (start + 16 * i)).tag == 0) ≡ false → more ≡ acc ++ needed_values (dynamic_entry_at image (start + 16 * i) ∷ []) → acc ++ rest_from image count i start ≡ whole → more ++ rest_from image count (i + 1) start ≡ whole
unfolding dynamic_entries
needed_next image count i start acc more whole l tag is on =
    let d = dynamic_entry_at image (start + 16 * i) in
    let e : count - i ≡ suc (count - (i + 1)) = omega (arith, l) in
    let f : start + 16 * i + 16 ≡ start + 16 * (i + 1) = omega arith in
    let step : rest_from image count i start ≡ needed_values (d ∷ dynamic_entries image (count - (i + 1)) (start + 16 * (i + 1))) = rw (e, f, tag) refl in
    ap (λ (q : List ℕ). q ++ rest_from image count (i + 1) start) is
    ∙ append_assoc acc (needed_values (d ∷ [])) (rest_from image count (i + 1) start)
    ∙ ap (λ (q : List ℕ). acc ++ q) (sym (needed_one d (dynamic_entries image (count - (i + 1)) (start + 16 * (i + 1)))) ∙ sym step)
    ∙ on

pub needed_stop : (image : List ℕ) (count i start : ℕ) (acc whole : List ℕ) → i < count → ((dynamic_entry_at image (start + 16 * i)).tag == 0) ≡ true → acc ++ rest_from image count i start ≡ whole → acc ≡ whole
unfolding dynamic_entries
needed_stop image count i start acc whole l tag on =
    let e : count - i ≡ suc (count - (i + 1)) = omega (arith, l) in
    let step : rest_from image count i start ≡ [] = rw (e, tag) refl in
    sym (append-nil acc) ∙ ap (λ (q : List ℕ). acc ++ q) (sym step) ∙ on

pub needed_done : (image : List ℕ) (count i start : ℕ) (acc whole : List ℕ) → count ≤ i → acc ++ rest_from image count i start ≡ whole → acc ≡ whole
unfolding dynamic_entries
needed_done image count i start acc whole l on =
    let e : count - i ≡ 0 = omega (arith, l) in
    let step : rest_from image count i start ≡ [] = rw e refl in
    sym (append-nil acc) ∙ ap (λ (q : List ℕ). acc ++ q) (sym step) ∙ on

-- ---- program headers

pub thread_more : (image : List ℕ) (count i start : ℕ) → i < count → thread_address (program_headers image (count - i) (start + 56 * i)) ≡ (if (program_header_at image (start + 56 * i)).kind == 7 then (program_header_at image (start + 56 * i)).address else thread_address (program_headers image (count - (i + 1)) (start + 56 * (i + 1))))
unfolding thread_address program_headers
thread_more image count i start l =
    let e : count - i ≡ suc (count - (i + 1)) = omega (arith, l) in
    let f : start + 56 * i + 56 ≡ start + 56 * (i + 1) = omega arith in
    rw (e, f) refl

pub thread_none : (image : List ℕ) (count i start : ℕ) → count ≤ i → thread_address (program_headers image (count - i) (start + 56 * i)) ≡ 0
unfolding thread_address program_headers
thread_none image count i start l = let e : count - i ≡ 0 = omega (arith, l) in rw e refl

pub ruleset thread_steps = (thread_more, thread_none)

-- ---- section headers

pub section_more : (image : List ℕ) (count i start : ℕ) → i < count → dynsym_size (section_headers image (count - i) (start + 64 * i)) ≡ (if (section_header_at image (start + 64 * i)).kind == 11 then (section_header_at image (start + 64 * i)).size else dynsym_size (section_headers image (count - (i + 1)) (start + 64 * (i + 1))))
unfolding dynsym_size section_headers
section_more image count i start l =
    let e : count - i ≡ suc (count - (i + 1)) = omega (arith, l) in
    let f : start + 64 * i + 64 ≡ start + 64 * (i + 1) = omega arith in
    rw (e, f) refl

pub section_none : (image : List ℕ) (count i start : ℕ) → count ≤ i → dynsym_size (section_headers image (count - i) (start + 64 * i)) ≡ 0
unfolding dynsym_size section_headers
section_none image count i start l = let e : count - i ≡ 0 = omega (arith, l) in rw e refl

pub ruleset section_steps = (section_more, section_none)

-- ---- words of a GNU hash table

pub greatest_more : (table : List ℕ) (count i at best : ℕ) → i < count → greatest_word table (count - i) (at + 4 * i) best ≡ (read table (at + 4 * i) 4 >>= λ w. greatest_word table (count - (i + 1)) (at + 4 * (i + 1)) (max best w))
unfolding greatest_word
greatest_more table count i at best l =
    let e : count - i ≡ suc (count - (i + 1)) = omega (arith, l) in
    let f : at + 4 * i + 4 ≡ at + 4 * (i + 1) = omega arith in
    rw (e, f) refl

pub greatest_none : (table : List ℕ) (count i at best : ℕ) → count ≤ i → greatest_word table (count - i) at best ≡ Ok best
unfolding greatest_word
greatest_none table count i at best l = let e : count - i ≡ 0 = omega (arith, l) in rw e refl

pub ruleset greatest_steps = (greatest_more, greatest_none)

pub chain_more : (table : List ℕ) (count i at symbol : ℕ) → i < count → count_chain table (count - i) at symbol ≡ (read table at 4 >>= λ c. if c % 2 == 1 then Ok (symbol + 1) else count_chain table (count - (i + 1)) (at + 4) (symbol + 1))
unfolding count_chain
chain_more table count i at symbol l = let e : count - i ≡ suc (count - (i + 1)) = omega (arith, l) in rw e refl

pub chain_next : (table : List ℕ) (count i at symbol word : ℕ) (whole : Result ℕ LookupFault) → i < count → Ok word ≡ read table at 4 → (word % 2 == 1) ≡ false → count_chain table (count - i) at symbol ≡ whole → count_chain table (count - (i + 1)) (at + 4) (symbol + 1) ≡ whole
chain_next table count i at symbol word whole l is even on =
    let step : count_chain table (count - i) at symbol ≡ count_chain table (count - (i + 1)) (at + 4) (symbol + 1) = rw (chain_more table count i at symbol l, sym is, even) refl in
    sym step ∙ on

pub chain_none : (table : List ℕ) (count i at symbol : ℕ) → count ≤ i → count_chain table (count - i) at symbol ≡ Err (low.Cut at)
unfolding count_chain
chain_none table count i at symbol l = let e : count - i ≡ 0 = omega (arith, l) in rw e refl

pub ruleset chain_steps = (chain_more, chain_none)
