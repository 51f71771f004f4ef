-- What a bind is, without a search.
--   HasNone xs order name m     the image at place m of the order has no definition of the name
--   IsFirst xs order name d     d is the first definition of the name
--   IsBound xs order n k d      symbol k of the image at place n is d itself, or d is the first definition of its name
--   IsUndefined xs order n k    that symbol is not weak, and no image defines its name
use Rattle.std.specs.Prelude.{◌≡◌, ℕ, ◌<◌, ◌⊎◌, true, false, List, length, Some, None, Ok, Err}
use Rattle.wild_records.specs.declared.symtab_entry.SymtabEntry.{SymtabEntry}
use Rattle.wild_space.specs.declared.binds.Definition.{Definition}
use Rattle.wild_space.specs.declared.fault.BindFault.TheVariants as faults
use Rattle.wild_space.specs.declared.image.NamedImage.{NamedImage}
use Rattle.wild_space.specs.Binds.{place_of, symbol_of, name_in, find_in, first_definition, is_own, is_weak, bind}

-- the image at place m of the order has no definition of the name
abbrev pub HasNone : List NamedImage → List ℕ → List ℕ → ℕ → Type 0
HasNone xs order name m = find_in xs (place_of order m) name ≡ Ok None

-- d is the first definition of the name
pub record IsFirst (xs : List NamedImage) (order name : List ℕ) (d : Definition) : Type 0 where
  pub inside : d.image < length order
  pub here : find_in xs (place_of order d.image) name ≡ Ok (Some d.index)
  pub before : (m : ℕ) → m < d.image → HasNone xs order name m

abbrev pub FirstIsFirst : Type 0
FirstIsFirst = (xs : List NamedImage) (order name : List ℕ) (d : Definition) → first_definition xs 0 order name ≡ Ok (Some d) → IsFirst xs order name d

abbrev pub NoneIsNone : Type 0
NoneIsNone = (xs : List NamedImage) (order name : List ℕ) → first_definition xs 0 order name ≡ Ok None → (m : ℕ) → m < length order → HasNone xs order name m

-- no other definition replaces the symbol, so it is bound to itself
pub record IsItself (n k : ℕ) (e : SymtabEntry) (d : Definition) : Type 0 where
  pub own : is_own e ≡ true
  pub is : d ≡ record { image = n; index = k }

-- another definition may replace it, so it gets the first definition of its name
pub record IsNamed (xs : List NamedImage) (order : List ℕ) (n : ℕ) (e : SymtabEntry) (d : Definition) : Type 0 where
  pub own : is_own e ≡ false
  pub name : List ℕ
  pub text : name_in xs (place_of order n) e ≡ Ok name
  pub first : IsFirst xs order name d

pub record IsBound (xs : List NamedImage) (order : List ℕ) (n k : ℕ) (d : Definition) : Type 0 where
  pub entry : SymtabEntry
  pub there : symbol_of xs (place_of order n) k ≡ Ok entry
  pub is : IsItself n k entry d ⊎ IsNamed xs order n entry d

abbrev pub BindsAreFirst : Type 0
BindsAreFirst = (xs : List NamedImage) (order : List ℕ) (n k : ℕ) (d : Definition) → bind xs order n k ≡ Ok (Some d) → IsBound xs order n k d

-- symbol k of the image at place n is not weak, and no image defines its name
pub record IsUndefined (xs : List NamedImage) (order : List ℕ) (n k : ℕ) : Type 0 where
  pub entry : SymtabEntry
  pub there : symbol_of xs (place_of order n) k ≡ Ok entry
  pub own : is_own entry ≡ false
  pub strong : is_weak entry ≡ false
  pub name : List ℕ
  pub text : name_in xs (place_of order n) entry ≡ Ok name
  pub none : (m : ℕ) → m < length order → HasNone xs order name m

abbrev pub UndefinedIsUndefined : Type 0
UndefinedIsUndefined = (xs : List NamedImage) (order : List ℕ) (n k i index : ℕ) → bind xs order n k ≡ Err (faults.Undefined i index) → (i ≡ place_of order n) × (index ≡ k) × IsUndefined xs order n k
