-- Tests, sums and steps over the files of a made group.
use Rattle.std.proofs.Common.{◌≡◌, ℕ, ◌+◌, ◌==◌, inl, inr, Bool, true, refl, arith}
use Rattle.std.specs.Prelude.{Option, Some, None, option_and_then}
use Rattle.std.specs.List.{list_all}
use Rattle.std.proofs.lemmas.Bool.{cases_Bool}
use Rattle.wild_types.specs.declared.file.File.{File}
use Rattle.wild_types.specs.declared.file.FileRole.TheVariants as file_role
use Rattle.wild_types.specs.Lists.{total, through}
use Rattle.wild_sample_layouts.specs.PlanOfGroups.{made_object, plain_file, made_files}

pub all_files : (t : File → Bool) (n i : ℕ) → t (plain_file file_role.Prelude) ≡ true → t (made_object n i) ≡ true → t (plain_file file_role.Epilogue) ≡ true → list_all t (made_files n i) ≡ true
all_files t n i first own last =
    elim (cases_Bool (i == 0)) [
      | inl a ↦ elim (cases_Bool (i + 1 == n)) [ inl b ↦ rw (a, b, first, own, last) refl | inr b ↦ rw (a, b, first, own) refl ]
      | inr a ↦ elim (cases_Bool (i + 1 == n)) [ inl b ↦ rw (a, b, own, last) refl | inr b ↦ rw (a, b, own) refl ]
    ]

pub total_files : (t : File → ℕ) (n i : ℕ) → t (plain_file file_role.Prelude) ≡ 0 → t (plain_file file_role.Epilogue) ≡ 0 → total t (made_files n i) ≡ t (made_object n i)
total_files t n i first last =
    elim (cases_Bool (i == 0)) [
      | inl a ↦ elim (cases_Bool (i + 1 == n)) [ inl b ↦ rw (a, b, first, last) (omega arith) | inr b ↦ rw (a, b, first) (omega arith) ]
      | inr a ↦ elim (cases_Bool (i + 1 == n)) [ inl b ↦ rw (a, b, last) (omega arith) | inr b ↦ rw (a, b) (omega arith) ]
    ]

-- steps that the prelude and the epilogue leave out
pub through_files : {S : Type 0} (step : S → File → Option S) (s : S) (n i : ℕ) → ((t : S) → step t (plain_file file_role.Prelude) ≡ Some t) → ((t : S) → step t (plain_file file_role.Epilogue) ≡ Some t)
    → (o : Option S) → step s (made_object n i) ≡ o → through step s (made_files n i) ≡ o
through_files step s n i first last o e =
    elim (cases_Bool (i == 0)) [
      | inl a ↦ elim (cases_Bool (i + 1 == n)) [ inl b ↦ rw (a, b, first, e) (ended step last o) | inr b ↦ rw (a, b, first, e) (stopped o) ]
      | inr a ↦ elim (cases_Bool (i + 1 == n)) [ inl b ↦ rw (a, b, e) (ended step last o) | inr b ↦ rw (a, b, e) (stopped o) ]
    ]
  where
    stopped : {S : Type 0} (o : Option S) → option_and_then (λ (t : S). Some t) o ≡ o
    stopped None = refl
    stopped (Some t) = refl

    ended : {S : Type 0} (step : S → File → Option S) → ((t : S) → step t (plain_file file_role.Epilogue) ≡ Some t) → (o : Option S) → option_and_then (λ (t : S). option_and_then (λ (u : S). Some u) (step t (plain_file file_role.Epilogue))) o ≡ o
    ended step last None = refl
    ended step last (Some t) = rw (last t) refl
