-- Whatever relocating gives has the changes of all entries.
use Rattle.std.proofs.Common.{◌≡◌, inl, inr, ℕ, List, [], ◌∷◌, ◌++◌, get_or, refl, sym, ◌∙◌, arith, subst}
use Rattle.std.specs.Prelude.{All, AllPairs, Contains, Option, Some, None, Result, Ok}
use Rattle.std.proofs.lemmas.List.{append_assoc, append-nil}
use Rattle.std.proofs.lemmas.List.Elements.{Contains-append_left, Contains-append_right, Contains-get_or, All-nil, All-cons, All-weaker, All-append, All-map}
use Rattle.wild_loader.specs.declared.memory.Memory.{Memory}
use Rattle.wild_loader.specs.declared.world.World.{World}
use Rattle.wild_loader.specs.declared.change.Patch.{Patch}
use Rattle.wild_loader.specs.declared.tables.Tables.{Tables}
use Rattle.wild_loader.specs.declared.fault.LoadFault.{LoadFault}
use Rattle.wild_loader.specs.Outcome.{◌>>=◌}
use Rattle.wild_loader.specs.Runs.{least_shared, check_no_overlap}
use Rattle.wild_loader.specs.Places.{places}
use Rattle.wild_loader.specs.Relocate.{rela_patch, place_patch, add_all, add_without_overlap, runs_of_patches, apart, relocate, memory_with_patches}
use Rattle.wild_loader.specs.SegmentLaws.{DoesNotOverlap, IsOutsideRun}
use Rattle.wild_loader.specs.EntryLaws.{IsMadeBy, IsRelocated, RelocatedIsApplied}
use Rattle.wild_loader.proofs.OverlaidBytes.{others-kept}
use Rattle.wild_loader.proofs.RunLemmas.{runs-apart}
use Rattle.wild_loader.proofs.EntryLemmas.{stepped, same-ok, place-over, rela-over, patch-held}

-- the changes that a list made: one for each of it, and no other
pub record Added {X : Type 0} (make : X → Result Patch LoadFault) (xs : List X) (acc ps : List Patch) : Type 0 where
  pub more : List Patch
  pub is : ps ≡ acc ++ more
  pub each : All (λ x. (p : Patch) × (make x ≡ Ok p) × Contains more p) xs
  pub from : All (λ p. (x : X) × Contains xs x × (make x ≡ Ok p)) more

added : {X : Type 0} (make : X → Result Patch LoadFault) (xs : List X) (acc ps : List Patch) → add_all make xs acc ≡ Ok ps → Added make xs acc ps
unfolding add_all
added make [] acc ps h = record { more = []; is = sym (same-ok acc ps h) ∙ sym (append-nil acc); each = All-nil _; from = All-nil _ }
added {X} make (x ∷ xs) acc ps h =
    let one = stepped (make x) _ ps h in
    let rest = added make xs (acc ++ one.value ∷ []) ps one.next in
    let q = one.value in
    record {
      more = q ∷ rest.more;
      is = rest.is ∙ append_assoc acc (q ∷ []) rest.more;
      each = All-cons (λ y. (p : Patch) × (make y ≡ Ok p) × Contains (q ∷ rest.more) p) x xs (q, one.was, Contains-get_or (q ∷ rest.more) 0 q (omega arith)) (All-weaker (λ y. (p : Patch) × (make y ≡ Ok p) × Contains rest.more p) (λ y. (p : Patch) × (make y ≡ Ok p) × Contains (q ∷ rest.more) p) (λ y e. (e.0, e.1, Contains-append_right (q ∷ []) rest.more e.0 e.2)) xs rest.each);
      from = All-cons (λ p. (y : X) × Contains (x ∷ xs) y × (make y ≡ Ok p)) q rest.more (x, Contains-get_or (x ∷ xs) 0 x (omega arith), one.was) (All-weaker (λ p. (y : X) × Contains xs y × (make y ≡ Ok p)) (λ p. (y : X) × Contains (x ∷ xs) y × (make y ≡ Ok p)) (λ p e. (e.0, Contains-append_right (x ∷ []) xs e.0 e.1, e.2)) rest.more rest.from);
    }

unshared : (o : Option ℕ) (x : Unit {0}) → check_no_overlap o ≡ Ok x → o ≡ None
unshared None x h = refl
unshared (Some a) x h = cc

-- changes that were let through are apart
through : (ps qs : List Patch) → apart ps ≡ Ok qs → (ps ≡ qs) × AllPairs DoesNotOverlap (runs_of_patches qs)
unfolding apart
through ps qs h =
    let one = stepped (check_no_overlap (least_shared (runs_of_patches ps))) (λ none. Ok ps) qs h in
    let e : ps ≡ qs = same-ok ps qs one.next in
    let P : List Patch → Type 0 = λ rs. AllPairs DoesNotOverlap (runs_of_patches rs) in
    (e, subst P e (runs-apart (runs_of_patches ps) (unshared (least_shared (runs_of_patches ps)) one.value one.was)))

added-apart : {X : Type 0} (make : X → Result Patch LoadFault) (xs : List X) (acc ps : List Patch) → add_without_overlap make xs acc ≡ Ok ps → Added make xs acc ps × AllPairs DoesNotOverlap (runs_of_patches ps)
added-apart make xs acc ps h =
    let one = stepped (add_all make xs acc) apart ps h in
    let two = through one.value ps one.next in
    (subst (Added make xs acc) two.0 (added make xs acc one.value one.was), two.1)

-- the changes of all tables
record Whole (w : World) (before : Memory) (t : Tables) (m : Memory) : Type 0 where
  pub a : List Patch
  pub b : List Patch
  pub c : List Patch
  pub first : Added (place_patch w before) (places t.words) [] a
  pub second : Added (rela_patch w before) t.entries a b
  pub third : Added (rela_patch w before) t.jumps b c
  pub pairs : AllPairs DoesNotOverlap (runs_of_patches c)
  pub is : memory_with_patches before c ≡ m

whole : (w : World) (before : Memory) (t : Tables) (m : Memory) → relocate w before t ≡ Ok m → Whole w before t m
unfolding relocate
whole w before t m h =
    let last : List Patch → Result Memory LoadFault = λ c. Ok (memory_with_patches before c) in
    let third : List Patch → Result Memory LoadFault = λ b. add_without_overlap (rela_patch w before) t.jumps b >>= last in
    let second : List Patch → Result Memory LoadFault = λ a. add_without_overlap (rela_patch w before) t.entries a >>= third in
    let s1 = stepped (add_without_overlap (place_patch w before) (places t.words) []) second m h in
    let s2 = stepped (add_without_overlap (rela_patch w before) t.entries s1.value) third m s1.next in
    let s3 = stepped (add_without_overlap (rela_patch w before) t.jumps s2.value) last m s2.next in
    let one = added-apart (place_patch w before) (places t.words) [] s1.value s1.was in
    let two = added-apart (rela_patch w before) t.entries s1.value s2.value s2.was in
    let three = added-apart (rela_patch w before) t.jumps s2.value s3.value s3.was in
    record {
      a = s1.value;
      b = s2.value;
      c = s3.value;
      first = one.0;
      second = two.0;
      third = three.0;
      pairs = three.1;
      is = same-ok (memory_with_patches before s3.value) m s3.next;
    }

contains-in : (front more ps : List Patch) (p : Patch) → ps ≡ front ++ more → Contains more p → Contains ps p
contains-in front more ps p e c =
    let P : List Patch → Type 0 = λ qs. Contains qs p in
    subst P (sym e) (Contains-append_right front more p c)

contains-front : (front more ps : List Patch) (p : Patch) → ps ≡ front ++ more → Contains front p → Contains ps p
contains-front front more ps p e c =
    let P : List Patch → Type 0 = λ qs. Contains qs p in
    subst P (sym e) (Contains-append_left front more p c)

all-in : (Q : Patch → Type 0) (front more ps : List Patch) → ps ≡ front ++ more → All Q front → All Q more → All Q ps
all-in Q front more ps e one two =
    let P : List Patch → Type 0 = λ qs. All Q qs in
    subst P (sym e) (All-append Q front more one two)

pub relocated-applied : RelocatedIsApplied
relocated-applied w before t m h = subst (IsRelocated w before t) all.is (record {
  words = λ k d l. (let e = all.first.each k d l in (e.0, e.1, patch-held before all.c e.0 all.pairs (contains-front all.b all.third.more all.c e.0 all.third.is (contains-front all.a all.second.more all.b e.0 all.second.is (contains-in [] all.first.more all.a e.0 all.first.is e.2))) (place-over w before (get_or (places t.words) k d) e.0 e.1)));
  entries = λ k d l. (let e = all.second.each k d l in (e.0, e.1, patch-held before all.c e.0 all.pairs (contains-front all.b all.third.more all.c e.0 all.third.is (contains-in all.a all.second.more all.b e.0 all.second.is e.2)) (rela-over w before (get_or t.entries k d) e.0 e.1)));
  jumps = λ k d l. (let e = all.third.each k d l in (e.0, e.1, patch-held before all.c e.0 all.pairs (contains-in all.b all.third.more all.c e.0 all.third.is e.2) (rela-over w before (get_or t.jumps k d) e.0 e.1)));
  others = λ x out. others-kept before (runs_of_patches all.c) x (All-map (IsOutsideRun x) (λ (p : Patch). p.run) all.c (All-weaker (IsMadeBy w before t) (λ p. IsOutsideRun x p.run) out all.c made));
})
  where
    all : Whole w before t m
    all = whole w before t m h

    made : All (IsMadeBy w before t) all.c
    made =
        all-in (IsMadeBy w before t) all.b all.third.more all.c all.third.is
        (all-in (IsMadeBy w before t) all.a all.second.more all.b all.second.is
        (all-in (IsMadeBy w before t) [] all.first.more all.a all.first.is (All-nil _) (All-weaker _ (IsMadeBy w before t) (λ p e. inl e) all.first.more all.first.from))
        (All-weaker _ (IsMadeBy w before t) (λ p e. inr (inl e)) all.second.more all.second.from))
        (All-weaker _ (IsMadeBy w before t) (λ p e. inr (inr e)) all.third.more all.third.from)
