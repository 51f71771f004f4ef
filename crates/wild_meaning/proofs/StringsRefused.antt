-- Of the worked program with merged strings: a string is found by the byte that a reference names, and reversed words stand with their references.
use Rattle.wild_meaning.proofs.Common.{◌≡◌, ℕ, ◌+◌, ◌-◌, ◌%◌, ◌^◌, ◌<◌, ◌≤◌, inl, inr, true, false, List, [], ◌∷◌, ◌++◌, refl, sym, ap, ◌∙◌, subst, arith, ◌⊎◌, All, Some, slice_get, All-nil, All-from_recursion, pos, number, r_x86_64_64, Formula, formula, SymbolAddress, Full, Part, Symbol, InputRelocation, InputSection, File, has_flag, byte_in, IsKept, OfSection, TakesString, IsReferent, ReferenceHolds, IsOutsideReferences, Refuses, reference, static_pie_world, second_function, HasWrongNumber, InNoField, formula_of, form_width}
use Rattle.std.proofs.lemmas.List.Elements.{All-head}
use Rattle.wild_types.specs.declared.part.Role.TheVariants as role
use Rattle.wild_types.specs.declared.symbol.Place.TheVariants as at
use Rattle.wild_types.specs.declared.input.MergedString.{MergedString}
use Rattle.wild_types.specs.Lookups as lookups
use Rattle.wild_meaning.specs.Section.{IsAllocatedPart}
use Rattle.wild_meaning.specs.Strings.{HasStrings, NamesStrings, IsStringAt, byte_of_reference, IsString}
use Rattle.wild_meaning.specs.Worked.Strings.{first_string, second_string, string_section, string_symbol, string_reference, pointer_data, reversed_data, strings_file, strings_layout, pointer_item, reversed_item, strings_memory, allocated_section, part_at, merged_texts}
use Rattle.wild_meaning.specs.Worked.Refusals.{HasWrongByte}
use Rattle.wild_meaning.specs.Worked.StringRefusals.{StringsAreJudged, ReversedWordsAreJudged, TextsAreJudged}
use Rattle.wild_meaning.proofs.SymbolUnique.{IsPlainOwn, denoted}
use Rattle.wild_meaning.proofs.Read.{full_of, held_from}
use Rattle.wild_meaning.proofs.Refused.{value_there, no_template}
use Rattle.wild_meaning.proofs.StaticRefused.{address_formula, no_code, refers}
use Rattle.wild_meaning.proofs.SymbolLemmas.{referent_stands}

-- ---- the strings

abbrev strings : List MergedString
strings = first_string ∷ second_string ∷ []

has_strings : HasStrings strings_layout 0 strings
unfolding has_flag
has_strings = record {
  plain = record {
    own = record { definition = 0; defined = record { symbol = string_symbol; listed = refl; defined = inr (refl, refl) }; symbol = string_symbol; listed = refl; flagged = refl };
    here = record { definition = 0; defined = record { symbol = string_symbol; listed = refl; defined = inr (refl, refl) }; symbol = string_symbol; listed = refl; flagged = refl };
    moves = record { definition = 0; defined = record { symbol = string_symbol; listed = refl; defined = inr (refl, refl) }; symbol = string_symbol; listed = refl; flagged = refl };
    plain = record { definition = 0; defined = record { symbol = string_symbol; listed = refl; defined = inr (refl, refl) }; symbol = string_symbol; listed = refl; flagged = refl };
    defined = record { definition = 0; defined = record { symbol = string_symbol; listed = refl; defined = inr (refl, refl) }; symbol = string_symbol; listed = refl; flagged = refl };
  };
  symbol = string_symbol;
  listed = refl;
  of_section = refl;
  index = 2;
  stands = refl;
  file = strings_file;
  own = refl;
  section = string_section;
  found = refl;
  merged = refl;
  is = refl;
}

names : NamesStrings strings_layout string_reference
names = record { symbol = 0; named = refl; strings = strings; has = has_strings }

-- what has the strings of the symbol is this
strings_of : (i : ℕ) (ss : List MergedString) → i ≡ 0 → (h : HasStrings strings_layout i ss) → (h.symbol ≡ string_symbol) × (ss ≡ strings)
strings_of i ss e h =
    let listed : Some h.symbol ≡ Some string_symbol = sym h.listed ∙ ap (λ (k : ℕ). slice_get strings_layout.symbols k) e in
    let symbol : h.symbol ≡ string_symbol = cc in
    let place : at.Section h.index ≡ at.Section 2 = sym h.stands ∙ ap (λ (s : Symbol). s.place) symbol in
    let index : h.index ≡ 2 = cc in
    let own : Some h.file ≡ Some strings_file = sym h.own ∙ ap (λ (k : ℕ). lookups.file_of (lookups.files_of strings_layout.groups) k) e in
    let file : h.file ≡ strings_file = cc in
    let found : Some h.section ≡ Some string_section = sym h.found ∙ ap (λ (f : File). slice_get f.sections h.index) file ∙ ap (λ (k : ℕ). slice_get strings_file.sections k) index in
    let section : h.section ≡ string_section = cc in
    (symbol, h.is ∙ ap (λ (s : InputSection). s.strings) section)

-- byte 7 is of the second string
second_is : (s : MergedString) → IsStringAt strings 7 s → s ≡ second_string
second_is s h = by s h.ahead h.behind h.parts h.last
  where
    none : (rest : List MergedString) (s : MergedString) (behind : List MergedString) → [] ≡ rest ++ (s ∷ behind) → ⊥
    none [] s behind e = cc
    none (x ∷ xs) s behind e = cc

    by : (s : MergedString) (ahead behind : List MergedString) → strings ≡ ahead ++ (s ∷ behind) → All (λ (t : MergedString). 7 < t.offset) behind → s ≡ second_string
    by s [] behind e last =
        let rest : second_string ∷ [] ≡ behind = cc in
        let all : All (λ (t : MergedString). 7 < t.offset) (second_string ∷ []) = subst (λ (ts : List MergedString). All (λ (t : MergedString). 7 < t.offset) ts) (sym rest) last in
        let above : 7 < 5 = All-head (λ (t : MergedString). 7 < t.offset) second_string [] all in
        absurd (omega (arith, above))
    by s (a ∷ []) behind e last = (let rest : second_string ∷ [] ≡ s ∷ behind = cc in let same : second_string ≡ s = cc in sym same)
    by s (a ∷ (b ∷ rest)) behind e last = (let tail : [] ≡ rest ++ (s ∷ behind) = cc in absurd (none rest s behind tail))

string_there : (a : ℕ) → IsString strings_layout static_pie_world string_reference a → (a + 7) % 2 ^ 64 ≡ 0x41122
string_there a h =
    let zero_is : h.symbol ≡ 0 = (let both : Some h.symbol ≡ Some 0 = sym h.named in cc) in
    let is = strings_of h.symbol h.strings zero_is h.has in
    let byte : byte_of_reference h.has.symbol string_reference ≡ 7 = ap (λ (s : Symbol). byte_of_reference s string_reference) is.0 in
    let found : IsStringAt strings 7 h.string = subst (λ (x : ℕ). IsStringAt strings x h.string) byte (subst (λ (ss : List MergedString). IsStringAt ss (byte_of_reference h.has.symbol string_reference) h.string) is.1 h.found) in
    let second = second_is h.string found in
    h.is ∙ ap (λ (x : ℕ). (0x40000 + h.string.address + (x - h.string.offset)) % 2 ^ 64) byte ∙ ap (λ (s : MergedString). (0x40000 + s.address + (7 - s.offset)) % 2 ^ 64) second

-- ---- the reference

pointer_kept : IsKept strings_layout pointer_item
pointer_kept = OfSection pointer_data (record { input = record { group = _; grouped = (0, omega arith, refl); file = strings_file; filed = (0, omega arith, refl); listed = (0, omega arith, refl) }; loaded = tt; room = refl; has_data = refl; written = λ p at h. (let off : false ≡ true = h.only.bare in cc) }) refl

wrong_string : Refuses strings_layout static_pie_world (HasWrongNumber 0x41100 8 0x41122)
unfolding has_flag
wrong_string image h x =
    let v = value_there strings_layout static_pie_world h.memory pointer_item string_reference (formula SymbolAddress Full) 0 string_symbol (λ e. (let off : false ≡ true = e in cc)) (h.kept pointer_item pointer_kept) no_code (0, omega arith, refl) (refers 1 (omega arith)) address_formula refl refl refl (λ e. absurd (let both : true ≡ false = sym e in cc)) in
    let is : v.value ≡ x.number = full_of static_pie_world h.memory pointer_item string_reference v.value x.number v.field x.there in
    by v.value x.number v.gives.symbol is v.gives.sum v.gives.denoted x.wrong
  where
    by : (value there a : ℕ) → value ≡ there → value ≡ (a + 7) % 2 ^ 64 → IsReferent strings_layout.machine SymbolAddress strings_layout static_pie_world h.memory pointer_item string_reference a → (there ≡ 0x41122 → ⊥) → ⊥
    by value there a is sum (inl s) wrong = wrong (sym is ∙ sum ∙ string_there a s.1)
    by value there a is sum (inr p) wrong = p.0 (tt, names)

pointer_number : number (0x22 ∷ 0x11 ∷ 0x04 ∷ 0 ∷ 0 ∷ 0 ∷ 0 ∷ 0 ∷ []) ≡ 0x41122
unfolding number
pointer_number = refl

string_found : ReferenceHolds strings_layout static_pie_world strings_memory pointer_item string_reference
unfolding has_strings
string_found = inl (record {
  formula = formula SymbolAddress Full;
  known = address_formula;
  value = 0x41122;
  gives = record {
    symbol = 0x4111b;
    denoted = inl (
      (tt, names),
      record {
        symbol = 0;
        named = refl;
        strings = strings;
        has = has_strings;
        string = second_string;
        found = record { ahead = first_string ∷ []; behind = []; parts = refl; begins = omega arith; last = All-nil (λ (t : MergedString). 7 < t.offset) };
        is = refl;
        small = omega arith;
      },
    );
    sum = refl;
  };
  field = record { bytes = 0x22 ∷ 0x11 ∷ 0x04 ∷ 0 ∷ 0 ∷ 0 ∷ 0 ∷ 0 ∷ []; wide = refl; held = held_from strings_memory 0x41100 (0x22 ∷ 0x11 ∷ 0x04 ∷ 0 ∷ 0 ∷ 0 ∷ 0 ∷ 0 ∷ []) refl; reads = pointer_number; keeps = tt };
  kept = λ start o first t. absurd (no_template strings_layout pointer_item string_reference start o first no_code t);
  does = λ start o first t. absurd (no_template strings_layout pointer_item string_reference start o first no_code t);
})

pub strings_judged : StringsAreJudged
strings_judged = record { found = string_found; wrong = wrong_string }

-- ---- reversed words

turned_kept : IsKept strings_layout reversed_item
turned_kept = OfSection reversed_data (record { input = record { group = _; grouped = (0, omega arith, refl); file = strings_file; filed = (0, omega arith, refl); listed = (1, omega arith, refl) }; loaded = tt; room = refl; has_data = refl; written = λ p at h. (let off : false ≡ true = h.only.bare in cc) }) refl

-- where the word with the address went
abbrev pub moved_reference : InputRelocation
moved_reference = reference 8 r_x86_64_64 1 (pos 0)

pub function_is : IsPlainOwn strings_layout 1 0x1210
unfolding has_flag
function_is = record { symbol = second_function; resolution = _; is = refl; decided = refl; raw_is = refl; own = refl; plain = refl; moves = refl; unstubbed = refl }

-- the function is no section
pub no_string : TakesString SymbolAddress strings_layout moved_reference → ⊥
no_string t =
    let n = t.1 in
    let one : n.symbol ≡ 1 = (let both : Some n.symbol ≡ Some 1 = sym n.named in cc) in
    let listed : Some n.has.symbol ≡ Some second_function = sym n.has.listed ∙ ap (λ (k : ℕ). slice_get strings_layout.symbols k) one in
    let same : n.has.symbol ≡ second_function = cc in
    let info : 3 ≡ 0 = sym n.has.of_section ∙ ap (λ (s : Symbol). s.info % 16) same in
    omega (arith, info)

wrong_address : Refuses strings_layout static_pie_world (HasWrongNumber 0x41118 8 0x41210)
wrong_address image h x =
    let v = value_there strings_layout static_pie_world h.memory reversed_item moved_reference (formula SymbolAddress Full) 1 function_is.symbol (λ e. (let off : false ≡ true = e in cc)) (h.kept reversed_item turned_kept) no_code (0, omega arith, refl) (refers 1 (omega arith)) address_formula refl function_is.is function_is.moves (λ e. absurd (let both : true ≡ false = sym e ∙ function_is.own in cc)) in
    let is : v.value ≡ x.number = full_of static_pie_world h.memory reversed_item moved_reference v.value x.number v.field x.there in
    let address : v.gives.symbol ≡ 0x41210 = denoted strings_layout static_pie_world h.memory 1 0x1210 v.gives.symbol function_is (referent_stands SymbolAddress strings_layout static_pie_world h.memory reversed_item moved_reference v.gives.symbol refl no_string v.gives.denoted) in
    x.wrong (omega (arith, is, address, v.gives.sum))

wrong_byte : Refuses strings_layout static_pie_world (HasWrongByte 0x41110 7)
wrong_byte image h x =
    let other : IsOutsideReferences strings_layout reversed_item 0 = record { fields = in_no_field; templates = λ r start o first _ t. absurd (no_template strings_layout reversed_item r start o first no_code t) } in
    let there : byte_in h.memory 0x41110 ≡ Some 7 = (h.kept reversed_item turned_kept).others 0 (omega arith) other in
    let both : Some x.byte ≡ Some 7 = sym x.there ∙ there in
    let same : x.byte ≡ 7 = cc in
    x.wrong same
  where
    in_no_field : InNoField strings_layout reversed_item 0
    in_no_field = All-from_recursion (λ (r : InputRelocation). (f : Formula) → formula_of strings_layout.machine r.number ≡ Some f → (0 < r.offset) ⊎ (r.offset + form_width f.form ≤ 0)) reversed_item.relocations ((λ f e. inl (omega arith)), tt)

pub reversed_judged : ReversedWordsAreJudged
reversed_judged = record { address = wrong_address; other = wrong_byte }

-- ---- texts

abbrev pub texts_part : Part
texts_part = part_at role.Raw 0x1120 9

abbrev pub path_part : Part
path_part = part_at role.Interp 0x1129 3

texts_room : IsAllocatedPart strings_layout 1
texts_room = record { part = texts_part; listed = refl; named = λ e. (let no : 1 ≡ 0 = e in omega (arith, no)); section = allocated_section; found = refl; room = refl }

path_room : IsAllocatedPart strings_layout 2
path_room = record { part = path_part; listed = refl; named = λ e. (let no : 1 ≡ 0 = e in omega (arith, no)); section = allocated_section; found = refl; room = refl }

wrong_text : Refuses strings_layout static_pie_world (HasWrongByte 0x41125 0x6e)
wrong_text image h x =
    let there : byte_in h.memory 0x41125 ≡ Some 0x6e = h.texts.strings merged_texts texts_part (0, omega arith, refl) refl texts_room (λ o. (let off : false ≡ true = o.only.bare in cc)) 5 (omega arith) in
    let both : Some x.byte ≡ Some 0x6e = sym x.there ∙ there in
    let same : x.byte ≡ 0x6e = cc in
    x.wrong same

wrong_path : Refuses strings_layout static_pie_world (HasWrongByte 0x4112a 0x6c)
wrong_path image h x =
    let there : byte_in h.memory 0x4112a ≡ Some 0x6c = h.texts.interpreter 2 path_part refl refl path_room (λ o. (let off : false ≡ true = o.only.bare in cc)) 1 (omega arith) in
    let both : Some x.byte ≡ Some 0x6c = sym x.there ∙ there in
    let same : x.byte ≡ 0x6c = cc in
    x.wrong same

pub texts_judged : TextsAreJudged
texts_judged = record { string = wrong_text; path = wrong_path }
