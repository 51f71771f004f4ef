-- The steps of the look-ups along chains.
use Rattle.std.proofs.Common.{◌≡◌, ℕ, suc, ◌+◌, ◌-◌, ◌*◌, ◌%◌, ◌<◌, ◌≤◌, List, refl, sym, arith, Result, Ok, Option, Some, None, Bool, false, ◌∙◌}
use Rattle.std.specs.Prelude.{if◌then◌else◌, ◌==◌}
use Rattle.wild_hashes.specs.declared.fault.LookupFault.{LookupFault}
use Rattle.wild_hashes.specs.Reading.{has_name, ◌>>=◌}
use Rattle.wild_hashes.specs.LookUp.{chain_word, sysv_scan, gnu_scan, is_named}

pub chain_word_at : (read : ℕ → ℕ → Result ℕ LookupFault) (at base i place : ℕ) → place ≡ at + 4 * (i - base) → chain_word read at base i ≡ read place 4
unfolding chain_word
chain_word_at read at base i place e = rw e refl

pub chain_word_0 : (read : ℕ → ℕ → Result ℕ LookupFault) (at i : ℕ) → chain_word read at 0 i ≡ read (at + 4 * i) 4
chain_word_0 read at i = chain_word_at read at 0 i (at + 4 * i) (omega arith)

pub sysv_scan_none : (chain : ℕ → Result ℕ LookupFault) (named : ℕ → Result (List ℕ) LookupFault) (name : List ℕ) (count i index : ℕ) → count ≤ i → sysv_scan chain named name (count - i) index ≡ sysv_scan chain named name 0 index
sysv_scan_none chain named name count i index l = let e : count - i ≡ 0 = omega arith in rw e refl

pub sysv_scan_more : (chain : ℕ → Result ℕ LookupFault) (named : ℕ → Result (List ℕ) LookupFault) (name : List ℕ) (count i index : ℕ) → i < count
    → sysv_scan chain named name (count - i) index ≡ (if index == 0 then Ok None else (has_name named name index >>= λ same. if same then Ok (Some index) else (chain index >>= λ j. sysv_scan chain named name (count - (i + 1)) j)))
sysv_scan_more chain named name count i index l = let e : count - i ≡ suc (count - (i + 1)) = omega arith in rw e refl

pub gnu_scan_more : (chain : ℕ → Result ℕ LookupFault) (named : ℕ → Result (List ℕ) LookupFault) (name : List ℕ) (h count k i : ℕ) → k < count
    → gnu_scan chain named name h (count - k) i ≡ (chain i >>= λ c. is_named named name h c i >>= λ same. if same then Ok (Some i) else if c % 2 == 1 then Ok None else gnu_scan chain named name h (count - (k + 1)) (i + 1))
gnu_scan_more chain named name h count k i l = let e : count - k ≡ suc (count - (k + 1)) = omega arith in rw e refl

pub sysv_scan_next : (chain : ℕ → Result ℕ LookupFault) (named : ℕ → Result (List ℕ) LookupFault) (name : List ℕ) (count i index j : ℕ) (same : Bool) (r : Result (Option ℕ) LookupFault) → sysv_scan chain named name (count - i) index ≡ r → i < count → (index == 0) ≡ false → has_name named name index ≡ Ok same → same ≡ false → chain index ≡ Ok j
    → sysv_scan chain named name (count - (i + 1)) j ≡ r
sysv_scan_next chain named name count i index j same r h l z n f c =
    let e = sysv_scan_more chain named name count i index l in
    let g = rw (z, n, f, c) at e in
    sym g ∙ h
