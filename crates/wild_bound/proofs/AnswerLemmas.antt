-- The answer for a definition, by the entry that it names.
use Rattle.wild_bound.proofs.Common.{◌≡◌, ℕ, ◌+◌, ◌<◌, List, length, refl, sym, ap, arith, subst, inl, inr, Some, Result, Ok, Err, [], SymtabEntry, Answer, Definition, BindFault, NamedImage, BindsAreFirst, place_of, symbol_of, thread_start_of, bind, address_of, offset_of, answer_of}
use Rattle.wild_space.specs.BindLaws.{IsBound}
use Rattle.wild_space.specs.Binds.{base_of, answer_with}
use Rattle.wild_space.specs.Given.{◌>>=◌}

-- a is the answer for definition d, by its entry
pub record IsAnswerFor (xs : List NamedImage) (order : List ℕ) (rs : List (ℕ × ℕ)) (d : Definition) (a : Answer) : Type 0 where
  pub entry : SymtabEntry
  pub there : symbol_of xs (place_of order d.image) d.index ≡ Ok entry
  pub start : ℕ
  pub starts : thread_start_of xs (place_of order d.image) ≡ Ok start
  pub address : address_of rs (base_of xs (place_of order d.image)) start entry ≡ Ok a.address
  pub owner : a.«module» ≡ d.image + 1
  pub offset : a.offset ≡ offset_of start entry
  pub size : a.size ≡ entry.size

pub answered : (xs : List NamedImage) (order : List ℕ) (rs : List (ℕ × ℕ)) (d : Definition) (a : Answer) → answer_of xs order rs d ≡ Ok a → IsAnswerFor xs order rs d a
unfolding answer_of
answered xs order rs d a h = by_entry (symbol_of xs (place_of order d.image) d.index) refl h
  where
    by_address : (e : SymtabEntry) (T : ℕ) → symbol_of xs (place_of order d.image) d.index ≡ Ok e → thread_start_of xs (place_of order d.image) ≡ Ok T → (r : Result ℕ BindFault) → address_of rs (base_of xs (place_of order d.image)) T e ≡ r
        → (r >>= λ v. Ok (record { address = v; «module» = d.image + 1; offset = offset_of T e; size = e.size; bytes = [] })) ≡ Ok a → IsAnswerFor xs order rs d a
    by_address e T there starts (Err f) address h = (let no : ⊥ = cc in absurd no)
    by_address e T there starts (Ok v) address h =
        let b : Answer = record { address = v; «module» = d.image + 1; offset = offset_of T e; size = e.size; bytes = [] } in
        let same : b ≡ a = cc in
        let P : Answer → Type 0 = λ q. IsAnswerFor xs order rs d q in
        subst P same (record { entry = e; there = there; start = T; starts = starts; address = address; owner = refl; offset = refl; size = refl })

    by_start : (e : SymtabEntry) → symbol_of xs (place_of order d.image) d.index ≡ Ok e → (r : Result ℕ BindFault) → thread_start_of xs (place_of order d.image) ≡ r → (r >>= λ T. answer_with xs order rs d.image T e) ≡ Ok a → IsAnswerFor xs order rs d a
    by_start e there (Err f) starts h = (let no : ⊥ = cc in absurd no)
    by_start e there (Ok T) starts h = by_address e T there starts (address_of rs (base_of xs (place_of order d.image)) T e) refl h

    by_entry : (r : Result SymtabEntry BindFault) → symbol_of xs (place_of order d.image) d.index ≡ r → (r >>= λ e. thread_start_of xs (place_of order d.image) >>= λ T. answer_with xs order rs d.image T e) ≡ Ok a → IsAnswerFor xs order rs d a
    by_entry (Err f) there h = (let no : ⊥ = cc in absurd no)
    by_entry (Ok e) there h = by_start e there (thread_start_of xs (place_of order d.image)) refl h

-- a definition that a symbol is bound to is in the order
pub bound_inside : BindsAreFirst → (xs : List NamedImage) (order : List ℕ) (n k : ℕ) (d : Definition) → n < length order → bind xs order n k ≡ Ok (Some d) → d.image < length order
bound_inside law xs order n k d lt h = by_case (law xs order n k d h)
  where
    by_case : IsBound xs order n k d → d.image < length order
    by_case b = elim b.is [
      | inl i ↦ (let same : n ≡ d.image = sym (ap (λ (q : Definition). q.image) i.is) in omega (arith, same, lt))
      | inr f ↦ f.first.inside
    ]
