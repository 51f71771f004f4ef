-- A bind is the symbol itself, or the first definition of its name.
use Rattle.std.proofs.Common.{◌≡◌, ℕ, zero, suc, ◌+◌, ◌<◌, ◌⊎◌, List, [], ◌∷◌, length, refl, sym, ap, ◌∙◌, arith, subst, inl, inr, false}
use Rattle.std.specs.Prelude.{Option, Some, None, Result, Ok, Err}
use Rattle.std.proofs.lemmas.Bool.{cases_Bool}
use Rattle.wild_records.specs.declared.symtab_entry.SymtabEntry.{SymtabEntry}
use Rattle.wild_hashes.specs.declared.fault.ImageFault.{ImageFault}
use Rattle.wild_hashes.specs.declared.tables.ImageTables.{ImageTables}
use Rattle.wild_hashes.specs.ImageTables.{image_tables, symbol_at}
use Rattle.wild_imports.specs.Imports.{name_of, find_definition}
use Rattle.wild_space.specs.declared.binds.Definition.{Definition}
use Rattle.wild_space.specs.declared.fault.BindFault.{BindFault}
use Rattle.wild_space.specs.declared.fault.BindFault.TheVariants as faults
use Rattle.wild_space.specs.declared.image.NamedImage.{NamedImage}
use Rattle.wild_space.specs.Given.{◌>>=◌, look}
use Rattle.wild_space.specs.Order.{bytes_at, tables_of}
use Rattle.wild_space.specs.Binds.{place_of, symbol_of, name_in, find_in, definition_or, first_definition, definition_of_name, is_own, is_weak, demanded, bind_entry, bind}
use Rattle.wild_space.specs.BindLaws.{HasNone, IsFirst, FirstIsFirst, NoneIsNone, IsItself, IsNamed, IsBound, BindsAreFirst, IsUndefined, UndefinedIsUndefined}

-- d is the first definition among images of which the first has place n
record Found (xs : List NamedImage) (n : ℕ) (js name : List ℕ) (d : Definition) : Type 0 where
  place : ℕ
  is : d.image ≡ n + place
  inside : place < length js
  here : find_in xs (place_of js place) name ≡ Ok (Some d.index)
  before : (m : ℕ) → m < place → HasNone xs js name m

found : (xs : List NamedImage) (n : ℕ) (js name : List ℕ) (d : Definition) → first_definition xs n js name ≡ Ok (Some d) → Found xs n js name d
unfolding first_definition
found xs n [] name d h = (let no : None ≡ Some d = cc in let bad : ⊥ = cc in absurd bad)
found xs n (j ∷ js) name d h = by_find (λ (g : first_definition xs (n + 1) js name ≡ Ok (Some d)). found xs (n + 1) js name d g) (find_in xs j name) refl h
  where
    by_option : (first_definition xs (n + 1) js name ≡ Ok (Some d) → Found xs (n + 1) js name d) → (o : Option ℕ) → find_in xs j name ≡ Ok o → definition_or n o (first_definition xs (n + 1) js name) ≡ Ok (Some d) → Found xs n (j ∷ js) name d
    by_option further None is h =
        let r = further h in
        let e = r.is in
        let lt = r.inside in
        record {
          place = suc r.place;
          is = omega (arith, e);
          inside = omega (arith, lt);
          here = r.here;
          before = λ m l. before_more r.place r.before m l is;
        }
      where
        before_more : (p : ℕ) → ((m : ℕ) → m < p → HasNone xs js name m) → (m : ℕ) → m < suc p → find_in xs j name ≡ Ok None → HasNone xs (j ∷ js) name m
        before_more p before zero l is = is
        before_more p before (suc m) l is = before m (omega (arith, l))
    by_option further (Some k) is h =
        let same : record { image = n; index = k } ≡ d = cc in
        let image : n ≡ d.image = ap (λ (q : Definition). q.image) same in
        let index : k ≡ d.index = ap (λ (q : Definition). q.index) same in
        record {
          place = 0;
          is = omega (arith, image);
          inside = omega arith;
          here = is ∙ ap (λ (q : ℕ). Ok (Some q)) index;
          before = λ m l. absurd (omega (arith, l));
        }

    by_find : (first_definition xs (n + 1) js name ≡ Ok (Some d) → Found xs (n + 1) js name d) → (r : Result (Option ℕ) BindFault) → find_in xs j name ≡ r → (r >>= λ o. definition_or n o (first_definition xs (n + 1) js name)) ≡ Ok (Some d) → Found xs n (j ∷ js) name d
    by_find further (Err e) is h = (let no : ⊥ = cc in absurd no)
    by_find further (Ok o) is h = by_option further o is h

pub first_first : FirstIsFirst
first_first = λ xs order name d h.
    let f = found xs 0 order name d h in
    let e = f.is in
    let same : f.place ≡ d.image = omega (arith, e) in
    record {
      inside = subst (λ q. q < length order) same f.inside;
      here = subst (λ q. find_in xs (place_of order q) name ≡ Ok (Some d.index)) same f.here;
      before = subst (λ q. (m : ℕ) → m < q → HasNone xs order name m) same f.before;
    }

none_from : (xs : List NamedImage) (n : ℕ) (js name : List ℕ) → first_definition xs n js name ≡ Ok None → (m : ℕ) → m < length js → HasNone xs js name m
unfolding first_definition
none_from xs n [] name h m l = absurd (omega (arith, l))
none_from xs n (j ∷ js) name h m l = by_find (λ (g : first_definition xs (n + 1) js name ≡ Ok None). none_from xs (n + 1) js name g) (find_in xs j name) refl h m l
  where
    Further : Type 0
    Further = first_definition xs (n + 1) js name ≡ Ok None → (q : ℕ) → q < length js → HasNone xs js name q

    by_option : Further → (o : Option ℕ) → find_in xs j name ≡ Ok o → definition_or n o (first_definition xs (n + 1) js name) ≡ Ok None → (q : ℕ) → q < length (j ∷ js) → HasNone xs (j ∷ js) name q
    by_option further None is h zero l = is
    by_option further None is h (suc q) l = further h q (omega (arith, l))
    by_option further (Some k) is h q l = (let no : ⊥ = cc in absurd no)

    by_find : Further → (r : Result (Option ℕ) BindFault) → find_in xs j name ≡ r → (r >>= λ o. definition_or n o (first_definition xs (n + 1) js name)) ≡ Ok None → (q : ℕ) → q < length (j ∷ js) → HasNone xs (j ∷ js) name q
    by_find further (Err e) is h q l = (let no : ⊥ = cc in absurd no)
    by_find further (Ok o) is h q l = by_option further o is h q l

pub none_none : NoneIsNone
none_none = λ xs order name h. none_from xs 0 order name h

-- ---- binds

pub binds_first : BindsAreFirst
unfolding bind definition_of_name
binds_first = λ xs order n k d h. by_entry xs order n k d (symbol_of xs (place_of order n) k) refl h
  where
    by_option : (xs : List NamedImage) (order : List ℕ) (n k : ℕ) (d : Definition) (e : SymtabEntry) (o : Option Definition) (name : List ℕ) → first_definition xs 0 order name ≡ Ok o → demanded (place_of order n) k e o ≡ Ok (Some d) → IsFirst xs order name d
    by_option xs order n k d e (Some f) name is h = (let same : f ≡ d = cc in first_first xs order name d (is ∙ ap (λ (q : Definition). Ok (Some q)) same))
    by_option xs order n k d e None name is h =
        elim (cases_Bool (is_weak e)) [
          | inl t ↦ (let w : Ok None ≡ Ok (Some d) = rw t at h in let no : ⊥ = cc in absurd no)
          | inr f ↦ (let w : Err (faults.Undefined (place_of order n) k) ≡ Ok (Some d) = rw f at h in let no : ⊥ = cc in absurd no)
        ]

    by_definition : (xs : List NamedImage) (order : List ℕ) (n k : ℕ) (d : Definition) (e : SymtabEntry) (name : List ℕ) (r : Result (Option Definition) BindFault) → first_definition xs 0 order name ≡ r → (r >>= λ o. demanded (place_of order n) k e o) ≡ Ok (Some d) → IsFirst xs order name d
    by_definition xs order n k d e name (Err f) is h = (let no : ⊥ = cc in absurd no)
    by_definition xs order n k d e name (Ok o) is h = by_option xs order n k d e o name is h

    by_text : (xs : List NamedImage) (order : List ℕ) (n k : ℕ) (d : Definition) (e : SymtabEntry) → is_own e ≡ false → (t : Result (List ℕ) BindFault) → name_in xs (place_of order n) e ≡ t → ((t >>= λ name. first_definition xs 0 order name) >>= λ o. demanded (place_of order n) k e o) ≡ Ok (Some d) → IsNamed xs order n e d
    by_text xs order n k d e own (Err f) is h = (let no : ⊥ = cc in absurd no)
    by_text xs order n k d e own (Ok name) is h = record { own = own; name = name; text = is; first = by_definition xs order n k d e name (first_definition xs 0 order name) refl h }

    by_own : (xs : List NamedImage) (order : List ℕ) (n k : ℕ) (d : Definition) (e : SymtabEntry) → bind_entry xs order n k e ≡ Ok (Some d) → IsItself n k e d ⊎ IsNamed xs order n e d
    by_own xs order n k d e h =
        elim (cases_Bool (is_own e)) [
          | inl t ↦ (let w : Ok (Some (record { image = n; index = k })) ≡ Ok (Some d) = rw t at h in let same : record { image = n; index = k } ≡ d = cc in inl (record { own = t; is = sym same }))
          | inr f ↦ inr (by_text xs order n k d e f (name_in xs (place_of order n) e) refl (rw f at h))
        ]

    by_entry : (xs : List NamedImage) (order : List ℕ) (n k : ℕ) (d : Definition) (r : Result SymtabEntry BindFault) → symbol_of xs (place_of order n) k ≡ r → (r >>= λ e. bind_entry xs order n k e) ≡ Ok (Some d) → IsBound xs order n k d
    by_entry xs order n k d (Err f) is h = (let no : ⊥ = cc in absurd no)
    by_entry xs order n k d (Ok e) is h = record { entry = e; there = is; is = by_own xs order n k d e h }

-- ---- what is undefined

-- what is read of an image never is the fault of an undefined symbol
look_never : {A : Type 0} (i : ℕ) (r : Result A ImageFault) (image index : ℕ) → look i r ≡ Err (faults.Undefined image index) → ⊥
look_never i (Ok x) image index h = cc
look_never i (Err e) image index h = cc

tables_never : (xs : List NamedImage) (i image index : ℕ) → tables_of xs i ≡ Err (faults.Undefined image index) → ⊥
unfolding tables_of
tables_never xs i image index h = look_never i (image_tables (bytes_at xs i)) image index h

read_never : {A : Type 0} (xs : List NamedImage) (i : ℕ) (read : ImageTables → Result A ImageFault) (image index : ℕ) → (tables_of xs i >>= λ t. look i (read t)) ≡ Err (faults.Undefined image index) → ⊥
read_never xs i read image index h = by_tables (tables_of xs i) refl h
  where
    by_tables : (t : Result ImageTables BindFault) → tables_of xs i ≡ t → (t >>= λ q. look i (read q)) ≡ Err (faults.Undefined image index) → ⊥
    by_tables (Err e) is h = (let same : e ≡ faults.Undefined image index = cc in tables_never xs i image index (is ∙ ap (λ (q : BindFault). Err q) same))
    by_tables (Ok t) is h = look_never i (read t) image index h

find_never : (xs : List NamedImage) (i : ℕ) (name : List ℕ) (image index : ℕ) → find_in xs i name ≡ Err (faults.Undefined image index) → ⊥
unfolding find_in
find_never xs i name image index h = read_never xs i (λ t. find_definition (bytes_at xs i) t name) image index h

name_never : (xs : List NamedImage) (i : ℕ) (e : SymtabEntry) (image index : ℕ) → name_in xs i e ≡ Err (faults.Undefined image index) → ⊥
unfolding name_in
name_never xs i e image index h = read_never xs i (λ t. name_of (bytes_at xs i) t e) image index h

symbol_never : (xs : List NamedImage) (i k : ℕ) (image index : ℕ) → symbol_of xs i k ≡ Err (faults.Undefined image index) → ⊥
unfolding symbol_of
symbol_never xs i k image index h = read_never xs i (λ t. symbol_at (bytes_at xs i) t k) image index h

never : (xs : List NamedImage) (n : ℕ) (js name : List ℕ) (i k : ℕ) → first_definition xs n js name ≡ Err (faults.Undefined i k) → ⊥
unfolding first_definition
never xs n [] name i k h = cc
never xs n (j ∷ js) name i k h = by_find (never xs (n + 1) js name i k) (find_in xs j name) refl h
  where
    by_find : (first_definition xs (n + 1) js name ≡ Err (faults.Undefined i k) → ⊥) → (r : Result (Option ℕ) BindFault) → find_in xs j name ≡ r → (r >>= λ o. definition_or n o (first_definition xs (n + 1) js name)) ≡ Err (faults.Undefined i k) → ⊥
    by_find further (Err e) is h = (let same : e ≡ faults.Undefined i k = cc in find_never xs j name i k (is ∙ ap (λ (q : BindFault). Err q) same))
    by_find further (Ok None) is h = further h
    by_find further (Ok (Some q)) is h = cc

record Undefined (xs : List NamedImage) (order : List ℕ) (n k i index : ℕ) (e : SymtabEntry) : Type 0 where
  image : i ≡ place_of order n
  number : index ≡ k
  strong : is_weak e ≡ false
  name : List ℕ
  text : name_in xs (place_of order n) e ≡ Ok name
  none : (m : ℕ) → m < length order → HasNone xs order name m

pub undefined_undefined : UndefinedIsUndefined
unfolding bind definition_of_name
undefined_undefined = λ xs order n k i index h. by_entry xs order n k i index (symbol_of xs (place_of order n) k) refl h
  where
    by_option : (xs : List NamedImage) (order : List ℕ) (n k i index : ℕ) (e : SymtabEntry) (name : List ℕ) → name_in xs (place_of order n) e ≡ Ok name → (o : Option Definition) → first_definition xs 0 order name ≡ Ok o → demanded (place_of order n) k e o ≡ Err (faults.Undefined i index) → Undefined xs order n k i index e
    by_option xs order n k i index e name text (Some f) is h = (let no : ⊥ = cc in absurd no)
    by_option xs order n k i index e name text None is h =
        elim (cases_Bool (is_weak e)) [
          | inl t ↦ (let w = rw t at h in let no : ⊥ = cc in absurd no)
          | inr f ↦ (
              let w = rw f at h in
              let image : place_of order n ≡ i = cc in
              let number : k ≡ index = cc in
              record { image = sym image; number = sym number; strong = f; name = name; text = text; none = none_none xs order name is })
        ]

    by_definition : (xs : List NamedImage) (order : List ℕ) (n k i index : ℕ) (e : SymtabEntry) (name : List ℕ) → name_in xs (place_of order n) e ≡ Ok name → (r : Result (Option Definition) BindFault) → first_definition xs 0 order name ≡ r → (r >>= λ o. demanded (place_of order n) k e o) ≡ Err (faults.Undefined i index) → Undefined xs order n k i index e
    by_definition xs order n k i index e name text (Err f) is h = (let same : f ≡ faults.Undefined i index = cc in absurd (never xs 0 order name i index (is ∙ ap (λ (q : BindFault). Err q) same)))
    by_definition xs order n k i index e name text (Ok o) is h = by_option xs order n k i index e name text o is h

    by_text : (xs : List NamedImage) (order : List ℕ) (n k i index : ℕ) (e : SymtabEntry) → (t : Result (List ℕ) BindFault) → name_in xs (place_of order n) e ≡ t → ((t >>= λ name. first_definition xs 0 order name) >>= λ o. demanded (place_of order n) k e o) ≡ Err (faults.Undefined i index) → Undefined xs order n k i index e
    by_text xs order n k i index e (Err f) is h = (let same : f ≡ faults.Undefined i index = cc in absurd (name_never xs (place_of order n) e i index (is ∙ ap (λ (q : BindFault). Err q) same)))
    by_text xs order n k i index e (Ok name) is h = by_definition xs order n k i index e name is (first_definition xs 0 order name) refl h

    by_own : (xs : List NamedImage) (order : List ℕ) (n k i index : ℕ) (e : SymtabEntry) → symbol_of xs (place_of order n) k ≡ Ok e → bind_entry xs order n k e ≡ Err (faults.Undefined i index) → (i ≡ place_of order n) × (index ≡ k) × IsUndefined xs order n k
    by_own xs order n k i index e there h =
        elim (cases_Bool (is_own e)) [
          | inl t ↦ (let w = rw t at h in let no : ⊥ = cc in absurd no)
          | inr f ↦ (
              let u = by_text xs order n k i index e (name_in xs (place_of order n) e) refl (rw f at h) in
              (u.image, u.number, record { entry = e; there = there; own = f; strong = u.strong; name = u.name; text = u.text; none = u.none }))
        ]

    by_entry : (xs : List NamedImage) (order : List ℕ) (n k i index : ℕ) (r : Result SymtabEntry BindFault) → symbol_of xs (place_of order n) k ≡ r → (r >>= λ e. bind_entry xs order n k e) ≡ Err (faults.Undefined i index) → (i ≡ place_of order n) × (index ≡ k) × IsUndefined xs order n k
    by_entry xs order n k i index (Err f) is h = (let same : f ≡ faults.Undefined i index = cc in absurd (symbol_never xs (place_of order n) k i index (is ∙ ap (λ (q : BindFault). Err q) same)))
    by_entry xs order n k i index (Ok e) is h = by_own xs order n k i index e is h
