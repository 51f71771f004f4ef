-- How many bytes strings have, and how many names there are.
use Rattle.std.proofs.Common.{inl, inr, ◌≡◌, ℕ, ◌+◌, List, [], ◌∷◌, ◌++◌, length, map, Option, Some, None, refl, ap, ◌∙◌, arith}
use Rattle.std.specs.Prelude.{flat_map}
use Rattle.std.specs.List.{filter}
use Rattle.std.proofs.lemmas.Bool.{cases_Bool}
use Rattle.std.proofs.lemmas.List.{length-append, length-map}
use Rattle.std.proofs.lemmas.List.Elements.{filter-append}
use Rattle.wild_records.specs.Abi.Dynamic.{dt_soname}
use Rattle.wild_types.specs.declared.file.FileRole.{FileRole}
use Rattle.wild_types.specs.declared.file.File.{File}
use Rattle.wild_types.specs.declared.layout.DynamicSymbol.{DynamicSymbol}
use Rattle.wild_types.specs.declared.options.Options.{Options}
use Rattle.wild_types.specs.declared.symbol.Symbol.{Symbol}
use Rattle.wild_needs.specs.DynamicStrings.{NamedString, named, texts_of, text_room, room_of, auxiliary_string, path_number, option_strings, listed_names, symbol_names}
use Rattle.wild_needs.specs.DynamicSymbols.{is_undefined_entry}
use Rattle.wild_types.specs.Lists.{total}
use Rattle.wild_needs.specs.UndefinedCounts.{count_in}
use Rattle.wild_needs.specs.Versions.{has_needs}
use Rattle.wild_types.proofs.ListLemmas.{total-append}

total-texts : (xs ys : List NamedString) → total text_room (texts_of (xs ++ ys)) ≡ total text_room (texts_of xs) + total text_room (texts_of ys)
total-texts [] ys = omega arith
total-texts (x ∷ xs) ys = let e = total-texts xs ys in omega (arith, e)

total-named : (n : ℕ) (text : Option (List ℕ)) → total text_room (texts_of (named n text)) ≡ room_of text
total-named n None = refl
total-named n (Some text) = omega arith

total-auxiliary : (texts : List (List ℕ)) → total text_room (texts_of (map auxiliary_string texts)) ≡ total text_room texts
total-auxiliary [] = refl
total-auxiliary (t ∷ ts) = let e = total-auxiliary ts in omega (arith, e)

-- the bytes of the strings of the options
pub rooms : (o : Options) → total text_room (texts_of (option_strings o)) ≡ room_of o.rpath + room_of o.soname + total text_room o.auxiliary
rooms o =
    let a = total-texts (named (path_number o) o.rpath) (named dt_soname o.soname ++ map auxiliary_string o.auxiliary) in
    let b = total-texts (named dt_soname o.soname) (map auxiliary_string o.auxiliary) in
    let c = total-named (path_number o) o.rpath in
    let d = total-named dt_soname o.soname in
    let e = total-auxiliary o.auxiliary in
    omega (arith, a, b, c, d, e)

-- the bytes of strings, each with its zero
pub length_strings : (texts : List (List ℕ)) → length (flat_map (λ text. text ++ 0 ∷ []) texts) ≡ total text_room texts
length_strings [] = refl
length_strings (t ∷ ts) =
    let a = length-append (t ++ 0 ∷ []) (flat_map (λ text. text ++ 0 ∷ []) ts) in
    let b = length-append t (0 ∷ []) in
    let e = length_strings ts in
    omega (arith, a, b, e)

-- the bytes of strings behind others
pub total_joined : (xs ys : List (List ℕ)) → total text_room (xs ++ ys) ≡ total text_room xs + total text_room ys
total_joined xs ys = total-append text_room xs ys

-- ---- names

-- as many names as undefined entries
pub length_undefined : (role : FileRole) (ss : List Symbol) → length (symbol_names (filter (is_undefined_entry role) ss)) ≡ count_in role ss
length_undefined role [] = refl
length_undefined role (s ∷ ss) =
    let e = length_undefined role ss in
    elim (cases_Bool (is_undefined_entry role s)) [
      | inl t ↦ rw t (omega (arith, e))
      | inr f ↦ rw f (omega (arith, e))
    ]

pub length_listed : (ds : List DynamicSymbol) → length (listed_names ds) ≡ length ds
length_listed ds = length-map ds _

-- ---- versions

-- of how many files versions are needed
pub length_needed : (fs gs : List File) → length (filter has_needs (fs ++ gs)) ≡ length (filter has_needs fs) + length (filter has_needs gs)
length_needed fs gs = ap length (filter-append has_needs fs gs) ∙ length-append (filter has_needs fs) (filter has_needs gs)
