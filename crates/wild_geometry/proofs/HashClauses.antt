-- What it says that the clause on hash tables holds.
use Rattle.wild_geometry.proofs.Common.{◌≡◌, ℕ, ◌+◌, ◌%◌, inl, inr, ◌==◌, ◌&&◌, nat_le, nat_lt, true, List, [], ◌∷◌, map, Option, None, Ok, refl, arith, subst, cases_Bool, and_parts, eqb-true, leb-true, ltb-true, DynamicSymbol, Layout, first_listed, unless, fails, first_error, None-from_fails}
use Rattle.std.proofs.lemmas.Bool.{le-leb}
use Rattle.wild_records.specs.Hashes.{gnu_hash}
use Rattle.wild_types.specs.declared.layout.GnuHash.{GnuHash}
use Rattle.wild_types.specs.declared.layout.SysvHash.{SysvHash}
use Rattle.wild_needs.specs.HashShapes.{sysv_fits, gnu_fits, gnu_shape_fits, bucket_of, bucket_below, bucket_astray}
use Rattle.wild_plan_rules.specs.ClauseTests.{check_hashes}
use Rattle.wild_hashes.specs.Laws.{ascends, ascends_from}
use Rattle.wild_hashes.specs.Tables.{gnu_hash_of}
use Rattle.wild_layout.specs.HashShapes.{HasGnuShape, HasHashShapes}
use Rattle.wild_geometry.proofs.ClauseLemmas.{Both-from_first_error, holds_from_unless}

-- ---- symbols ascend by bucket

-- those behind one
ascend_behind : (n g i : ℕ) (ds : List DynamicSymbol) → bucket_below n (g % n) i ds ≡ None → ascends_from n g (map gnu_hash_of ds) ≡ true
unfolding bucket_of gnu_hash_of
ascend_behind n g i [] h = refl
ascend_behind n g i (d ∷ ds) h =
    elim (cases_Bool (nat_le (g % n) (gnu_hash d.name % n))) [
      | inl t ↦ rw t (ascend_behind n (gnu_hash d.name) (i + 1) ds (rw t at h))
      | inr f ↦ cc (rw f at h)
    ]

ascend_all : (n : ℕ) (ds : List DynamicSymbol) → bucket_below n 0 0 ds ≡ None → ascends n (map gnu_hash_of ds) ≡ true
unfolding bucket_of gnu_hash_of
ascend_all n [] h = refl
ascend_all n (d ∷ ds) h =
    let low : nat_le 0 (gnu_hash d.name % n) ≡ true = le-leb _ _ (omega arith) in
    ascend_behind n (gnu_hash d.name) 1 ds (rw low at h)

-- ---- shapes

shape_of : (l : Layout) (h : GnuHash) → gnu_shape_fits l h ≡ true → bucket_below h.buckets 0 0 l.dynsyms ≡ None → HasGnuShape l h
shape_of l h e order =
    let a = and_parts (nat_le 1 h.buckets) (nat_le 1 h.bloom_count && (nat_lt h.bloom_shift 32 && h.base == first_listed l)) e in
    let b = and_parts (nat_le 1 h.bloom_count) (nat_lt h.bloom_shift 32 && h.base == first_listed l) a.1 in
    let c = and_parts (nat_lt h.bloom_shift 32) (h.base == first_listed l) b.1 in
    record {
      some_bucket = leb-true _ _ a.0;
      some_bloom = leb-true _ _ b.0;
      short_shift = ltb-true _ _ c.0;
      base = eqb-true _ _ c.1;
      ascend = ascend_all h.buckets l.dynsyms order;
    }

pub HasHashShapes-from_check : (l : Layout) → check_hashes l ≡ Ok tt → HasHashShapes l
unfolding check_hashes
HasHashShapes-from_check l h =
    let gnu = fails 17 (unless (gnu_fits l l.gnu_hash)) in
    let buckets = fails 17 (bucket_astray l.gnu_hash l.dynsyms) in
    let a = Both-from_first_error (fails 17 (unless (sysv_fits l.sysv_hash))) (first_error gnu buckets) h in
    let b = Both-from_first_error gnu buckets a.rest in
    let sysv = holds_from_unless (sysv_fits l.sysv_hash) (None-from_fails 17 _ a.first) in
    let shape = holds_from_unless (gnu_fits l l.gnu_hash) (None-from_fails 17 _ b.first) in
    let order = None-from_fails 17 (bucket_astray l.gnu_hash l.dynsyms) b.rest in
    record {
      sysv = λ t is. leb-true _ _ (subst (λ (o : Option SysvHash). sysv_fits o ≡ true) is sysv);
      gnu = λ t is. shape_of l t (subst (λ (o : Option GnuHash). gnu_fits l o ≡ true) is shape) (subst (λ (o : Option GnuHash). bucket_astray o l.dynsyms ≡ None) is order);
    }
