-- Laws of the strings of the dynamic string table.
use Rattle.std.proofs.Common.{◌≡◌, ℕ, true, false, Bool, if◌then◌else◌, List, [], ◌∷◌, ◌++◌, map, refl, sym, ap, ◌∙◌}
use Rattle.std.specs.Prelude.{Option, Some, None, option_to_list}
use Rattle.std.specs.List.{flat_map}
use Rattle.std.proofs.lemmas.List.{append-nil, append_assoc}
use Rattle.std.proofs.lemmas.List.Concat.{flat_map-append}
use Rattle.wild_records.specs.Abi.Dynamic.{dt_soname}
use Rattle.wild_types.specs.declared.options.Options.{Options}
use Rattle.wild_types.specs.declared.symbol.Symbol.{Symbol}
use Rattle.wild_types.specs.declared.file.File.{File}
use Rattle.wild_types.specs.declared.layout.Layout.{Layout}
use Rattle.wild_needs.specs.DynamicStrings.{NamedString, named, named_strings, texts_of, path_number, auxiliary_string, option_strings, epilogue_strings, dynstr_prefix_strings, entry_names, file_strings, symbol_names}
use Rattle.wild_types.specs.Kinds.{needs_dynamic, needs_dynsym}
use Rattle.wild_needs.specs.Versions.{version_names}
use Rattle.wild_table_formats.specs.Strings.{string, string_bytes}

-- ---- strings

texts-append : (xs ys : List NamedString) → flat_map string (texts_of (xs ++ ys)) ≡ flat_map string (texts_of xs) ++ flat_map string (texts_of ys)
texts-append [] ys = refl
texts-append (x ∷ xs) ys = ap (λ (zs : List ℕ). string x.text ++ zs) (texts-append xs ys) ∙ sym (append_assoc (string x.text) (flat_map string (texts_of xs)) (flat_map string (texts_of ys)))

text_named : (n : ℕ) (o : Option (List ℕ)) → flat_map string (texts_of (named n o)) ≡ flat_map string (option_to_list o)
text_named n None = refl
text_named n (Some t) = refl

text_auxiliary : (ts : List (List ℕ)) → flat_map string (texts_of (map auxiliary_string ts)) ≡ flat_map string ts
text_auxiliary [] = refl
text_auxiliary (t ∷ ts) = ap (λ (zs : List ℕ). string t ++ zs) (text_auxiliary ts)

texts_are : (o : Options) → flat_map string (texts_of (option_strings o)) ≡ flat_map string (option_to_list o.rpath) ++ (flat_map string (option_to_list o.soname) ++ flat_map string o.auxiliary)
texts_are o =
    texts-append (named (path_number o) o.rpath) (named dt_soname o.soname ++ map auxiliary_string o.auxiliary)
    ∙ ap (λ (zs : List ℕ). zs ++ flat_map string (texts_of (named dt_soname o.soname ++ map auxiliary_string o.auxiliary))) (text_named (path_number o) o.rpath)
    ∙ ap (λ (zs : List ℕ). flat_map string (option_to_list o.rpath) ++ zs)
    (texts-append (named dt_soname o.soname) (map auxiliary_string o.auxiliary)
    ∙ ap (λ (zs : List ℕ). zs ++ flat_map string (texts_of (map auxiliary_string o.auxiliary))) (text_named dt_soname o.soname)
    ∙ ap (λ (zs : List ℕ). flat_map string (option_to_list o.soname) ++ zs) (text_auxiliary o.auxiliary))

pub strings_are : (l : Layout) → needs_dynamic l.kind ≡ true → epilogue_strings l ≡ flat_map string (option_to_list l.options.rpath) ++ (flat_map string (option_to_list l.options.soname) ++ flat_map string l.options.auxiliary)
unfolding named_strings
strings_are l h = rw h (texts_are l.options)

pub no_strings : (l : Layout) → needs_dynamic l.kind ≡ false → epilogue_strings l ≡ []
unfolding named_strings
no_strings l h = rw h refl

-- the strings, one after another
pub strings_added : (l : Layout) (base a b now : List ℕ) (texts : List (List ℕ)) → needs_dynamic l.kind ≡ true → a ≡ base ++ flat_map string (option_to_list l.options.rpath) → b ≡ a ++ flat_map string (option_to_list l.options.soname) → now ≡ b ++ flat_map string texts → texts ≡ l.options.auxiliary → now ≡ base ++ epilogue_strings l
strings_added l base a b now texts h path name last same =
    let r = flat_map string (option_to_list l.options.rpath) in
    let s = flat_map string (option_to_list l.options.soname) in
    let x = flat_map string l.options.auxiliary in
    last ∙ ap (λ (ts : List (List ℕ)). b ++ flat_map string ts) same
    ∙ ap (λ (ys : List ℕ). ys ++ x) name
    ∙ ap (λ (ys : List ℕ). (ys ++ s) ++ x) path
    ∙ append_assoc (base ++ r) s x ∙ append_assoc base r (s ++ x)
    ∙ ap (λ (ys : List ℕ). base ++ ys) (sym (strings_are l h))

-- ---- the strings of a file

strings-append : (xs ys : List (List ℕ)) → string_bytes (xs ++ ys) ≡ string_bytes xs ++ string_bytes ys
strings-append xs ys = flat_map-append string xs ys

pub file_strings_joined : (l : Layout) (f : File) (old now next last : List ℕ) → needs_dynsym l.kind ≡ true → now ≡ old ++ string_bytes (dynstr_prefix_strings l f) → next ≡ now ++ string_bytes (entry_names l f) → last ≡ next ++ string_bytes (version_names l f) → last ≡ old ++ string_bytes (file_strings l f)
unfolding file_strings
file_strings_joined l f old now next last h a b c =
    let x = string_bytes (dynstr_prefix_strings l f) in
    let y = string_bytes (entry_names l f) in
    let z = string_bytes (version_names l f) in
    let is : last ≡ old ++ string_bytes (dynstr_prefix_strings l f ++ (entry_names l f ++ version_names l f)) =
    c ∙ ap (λ (bs : List ℕ). bs ++ z) (b ∙ ap (λ (bs : List ℕ). bs ++ y) a) ∙ append_assoc (old ++ x) y z ∙ append_assoc old x (y ++ z)
    ∙ ap (λ (bs : List ℕ). old ++ bs) (ap (λ (bs : List ℕ). x ++ bs) (sym (strings-append (entry_names l f) (version_names l f))) ∙ sym (strings-append (dynstr_prefix_strings l f) (entry_names l f ++ version_names l f))) in
    rw h is

pub no_file_strings : (l : Layout) (f : File) (old : List ℕ) → needs_dynsym l.kind ≡ false → old ≡ old ++ string_bytes (file_strings l f)
unfolding file_strings
no_file_strings l f old h = rw h (sym (append-nil old))

-- ---- strings, one after another

-- one more string; what is to come is the rest
pub string_next : (now next whole text : List ℕ) (rest : List (List ℕ)) → now ++ string_bytes (text ∷ rest) ≡ whole → next ≡ now ++ string text → next ++ string_bytes rest ≡ whole
string_next now next whole text rest before step =
    ap (λ (bs : List ℕ). bs ++ string_bytes rest) step ∙ append_assoc now (string text) (string_bytes rest) ∙ before

kept_names : (now whole : List ℕ) (b : Bool) (s : Symbol) (rest : List Symbol) → b ≡ true → now ++ string_bytes (symbol_names (if b then s ∷ rest else rest)) ≡ whole → now ++ string_bytes (s.name ∷ symbol_names rest) ≡ whole
kept_names now whole true s rest h e = e
kept_names now whole false s rest h e = cc
