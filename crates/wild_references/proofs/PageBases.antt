-- What the values of an AArch64 output rest on besides, taken from its layout and its world.
use Rattle.wild_references.proofs.Common.{◌≡◌, ℕ, ◌-◌, ◌%◌, ◌^◌, ◌<◌, ◌≤◌, inl, inr, None, refl, arith, nat_lt, cases_Bool, ltb-true, nat_tests, Machine, Layout, Item, NumbersFit, IsLaidOut, World, MovesByPages, HasBytes}
use Rattle.std.specs.Int.{IsPowerOfTwo}
use Rattle.std.proofs.lemmas.Nat.Gcd.{dvd_trans, dvd_of_mod-eq-zero, mod-eq-zero_of_dvd}
use Rattle.std.proofs.Math.Nat.{mod-le}
use Rattle.std.proofs.Math.Pow.{pow_mono}
use Rattle.wild_types.specs.declared.kind.Machine.TheVariants as machine
use Rattle.wild_meaning.specs.Item.{IsKept}
use Rattle.wild_meaning.specs.Thread.{rounded_up, control_block_size}
use Rattle.wild_meaning.specs.World.{IsLegal}
use Rattle.wild_references.specs.Laws.{OutputsMoveByPages, ItemsHaveBytes}
use Rattle.wild_references.proofs.KeptItems.{bytes_fit}

-- a multiple of pages that are multiples of 4096 bytes is one of these
whole_pages : (b n : ℕ) → n % 4096 ≡ 0 → b % n ≡ 0 → b % 4096 ≡ 0
whole_pages b n whole h = mod-eq-zero_of_dvd 4096 (dvd_trans 4096 (dvd_of_mod-eq-zero 4096 whole) (dvd_of_mod-eq-zero n h))

-- the thread control block up to an alignment of 64 bits
block_below : (n : ℕ) → IsPowerOfTwo n → n < 2 ^ 64 → rounded_up control_block_size n < 2 ^ 64
block_below n p low =
    let rest = mod-le (n - control_block_size % n) n in
    elim (cases_Bool (nat_lt p.0 64)) [
      | inl t ↦
          (let few : p.0 ≤ 63 = (let lt = ltb-true p.0 64 t in omega (arith, lt)) in
          let m = pow_mono few in
          let is = p.1 in
          omega (arith, m, is, rest))
      | inr f ↦
          (let many : 64 ≤ p.0 = grind (arith, nat_tests) in
          let m = pow_mono many in
          let is = p.1 in
          absurd (omega (arith, m, is, low)))
    ]

pub moves_by_pages : OutputsMoveByPages
moves_by_pages = λ l w numbers legal laid. by_machine l w numbers legal laid l.machine (λ on. laid.tlsld on)
  where
    by_machine : (l : Layout) (w : World) → NumbersFit l → IsLegal l w → IsLaidOut l → (k : Machine) → (k ≡ machine.AArch64 → l.tlsld ≡ None) → MovesByPages k l w
    by_machine l w numbers legal laid machine.X86_64 single = tt
    by_machine l w numbers legal laid machine.AArch64 single = record { pages = whole_pages w.base l.page_size laid.pages legal.aligned; even = laid.slots.even; block = block_below l.tls.align laid.tls_align numbers.tls.align; single = single refl }

pub have_bytes : ItemsHaveBytes
have_bytes = λ l s numbers kept. by_machine l s numbers kept l.machine
  where
    by_machine : (l : Layout) (s : Item) → NumbersFit l → IsKept l s → (k : Machine) → HasBytes k s
    by_machine l s numbers kept machine.X86_64 = tt
    by_machine l s numbers kept machine.AArch64 = bytes_fit l s numbers kept
