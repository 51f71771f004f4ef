-- Wrong data of the worked program without a dynamic linker are refused.
use Rattle.wild_meaning.proofs.Common.{◌≡◌, ℕ, ◌-◌, ◌^◌, ◌<◌, inr, true, false, [], ◌∷◌, refl, sym, ap, ◌∙◌, arith, ◌≢◌, Some, Contains, pos, r_x86_64_none, r_x86_64_64, r_x86_64_tpoff64, shf_execinstr, FileHeaderIsRead, FileHeader, Formula, formula, SymbolAddress, PointerOffset, Full, Value, x86_64_formula, InputRelocation, File, has_flag, Memory, byte_in, IsSet, IsCopied, Item, IsKept, OfSection, ItemHolds, ReferenceHolds, IsSectionWithoutData, Refuses, reference, file_of, group_of, static_pie, static_pie_world, static_data, first_function, second_function, thread_symbol, HasWrongNumber, HasThreadOffset, TakesString}
use Rattle.wild_types.specs.declared.file.FileRole.TheVariants as file_role
use Rattle.wild_meaning.specs.Section.{HasFileBytes}
use Rattle.wild_meaning.specs.Worked.Static.{static_item}
use Rattle.wild_meaning.specs.Worked.Refusals.{HasWrongByte}
use Rattle.wild_meaning.specs.Worked.StaticRefusals.{padded_layout, padded_section, padded_blank, padded_thread, WrongDataAreRefused, WrongBlankIsRefused}
use Rattle.wild_meaning.proofs.SymbolUnique.{only, IsPlainOwn, denoted, own_offset, somewhere}
use Rattle.wild_meaning.proofs.Read.{full_of}
use Rattle.wild_meaning.proofs.Refused.{HasValueThere, value_there, not_excepted, not_alone}
use Rattle.wild_meaning.proofs.StringLemmas.{nothing_named}
use Rattle.wild_meaning.proofs.SymbolLemmas.{referent_stands}

-- ---- symbols and sections

pub first_is : IsPlainOwn static_pie 0 0x1200
unfolding has_flag
first_is = record { symbol = first_function; resolution = _; is = refl; decided = refl; raw_is = refl; own = refl; plain = refl; moves = refl; unstubbed = refl }

pub second_is : IsPlainOwn static_pie 1 0x1210
unfolding has_flag
second_is = record { symbol = second_function; resolution = _; is = refl; decided = refl; raw_is = refl; own = refl; plain = refl; moves = refl; unstubbed = refl }

pub thread_is : IsPlainOwn static_pie 2 0x3008
unfolding has_flag
thread_is = record { symbol = thread_symbol; resolution = _; is = refl; decided = refl; raw_is = refl; own = refl; plain = refl; moves = refl; unstubbed = refl }

-- an own symbol's offset
pub thread_offset : (t : ℕ) → HasThreadOffset static_pie static_pie_world 2 t → t ≡ 2 ^ 64 - 8
thread_offset t h = own_offset static_pie static_pie_world 2 0x3008 (2 ^ 64 - 16) t thread_is (omega arith) (somewhere static_pie 2 0 thread_symbol refl refl) refl h

kept : IsKept static_pie static_item
kept = OfSection static_data (record { input = record { group = _; grouped = (0, omega arith, refl); file = _; filed = (0, omega arith, refl); listed = (4, omega arith, refl) }; loaded = tt; room = refl; has_data = refl; written = λ p at h. (let off : false ≡ true = h.only.bare in cc) }) refl

-- ---- formulas

pub address_formula : x86_64_formula r_x86_64_64 ≡ Some (formula SymbolAddress Full)
unfolding x86_64_formula
address_formula = refl

pub pointer_formula : x86_64_formula r_x86_64_tpoff64 ≡ Some (formula PointerOffset Full)
unfolding x86_64_formula
pointer_formula = refl

-- the program has no merged strings
pub no_string : (v : Value) (r : InputRelocation) → TakesString v static_pie r → ⊥
no_string v r t = nothing_named static_pie refl r t.1

pub no_code : IsSet 3 shf_execinstr → ⊥
no_code e = omega arith

pub refers : (n : ℕ) → 0 < n → n ≢ r_x86_64_none
refers n h e = omega (arith, h, let z : n ≡ 0 = e in z)

-- a reference to an own symbol holds
pub holds_there : (m : Memory) (item : Item) (r : InputRelocation) (f : Formula) (i raw : ℕ) → ItemHolds static_pie static_pie_world m item → Contains item.relocations r → 0 < r.number → x86_64_formula r.number ≡ Some f → r.symbol ≡ Some i → IsPlainOwn static_pie i raw → ReferenceHolds static_pie static_pie_world m item r
holds_there m item r f i raw h listed number known named p =
    h.references r (record { listed = listed; refers = refers r.number number }) (λ left. (let off : false ≡ true = left.0 in cc)) (λ x. absurd (not_excepted static_pie item r i p.symbol named p.is p.moves x)) (λ x. not_alone static_pie item r f i p.symbol known named p.is (λ e. absurd (let both : true ≡ false = sym e ∙ p.own in cc)) x)

own_there : (m : Memory) (r : InputRelocation) (f : Formula) (i raw : ℕ) → ItemHolds static_pie static_pie_world m static_item → Contains static_item.relocations r → 0 < r.number → x86_64_formula r.number ≡ Some f → r.symbol ≡ Some i → IsPlainOwn static_pie i raw → HasValueThere static_pie static_pie_world m static_item r f
own_there m r f i raw holds listed number known named p =
    value_there static_pie static_pie_world m static_item r f i p.symbol (λ e. (let off : false ≡ true = e in cc)) holds no_code listed (refers r.number number) known named p.is p.moves (λ e. absurd (let both : true ≡ false = sym e ∙ p.own in cc))

wrong_address : Refuses static_pie static_pie_world (HasWrongNumber 0x41100 8 0x41210)
wrong_address image h x =
    let r = reference 0 r_x86_64_64 1 (pos 0) in
    let v = own_there h.memory r _ 1 0x1210 (h.kept static_item kept) (0, omega arith, refl) (omega arith) address_formula refl second_is in
    let is : v.value ≡ x.number = full_of static_pie_world h.memory static_item r v.value x.number v.field x.there in
    let address : v.gives.symbol ≡ 0x41210 = denoted static_pie static_pie_world h.memory 1 0x1210 v.gives.symbol second_is (referent_stands SymbolAddress static_pie static_pie_world h.memory static_item r v.gives.symbol refl (no_string SymbolAddress r) v.gives.denoted) in
    x.wrong (omega (arith, is, address, v.gives.sum))

wrong_offset : Refuses static_pie static_pie_world (HasWrongNumber 0x41108 8 (2 ^ 64 - 8))
wrong_offset image h x =
    let r = reference 8 r_x86_64_tpoff64 2 (pos 0) in
    let v = own_there h.memory r _ 2 0x3008 (h.kept static_item kept) (1, omega arith, refl) (omega arith) pointer_formula refl thread_is in
    let is : v.value ≡ x.number = full_of static_pie_world h.memory static_item r v.value x.number v.field x.there in
    let offset : v.gives.0 ≡ 2 ^ 64 - 8 = thread_offset v.gives.0 v.gives.1 in
    x.wrong (omega (arith, is, offset, v.gives.2))

pub wrong_data : FileHeaderIsRead → WrongDataAreRefused
wrong_data read = record {
  address = wrong_address;
  offset = wrong_offset;
  begin = λ image h wrong. let is = read image 0 h.header.header h.header.fits h.header.stands in wrong (ap (λ (e : FileHeader). e.entry) is ∙ h.header.address 0x1000 refl);
}

-- ---- a section without data

padded_is : IsSectionWithoutData padded_layout padded_blank
padded_is = record {
  input = record { group = _; grouped = (0, omega arith, refl); file = _; filed = (0, omega arith, refl); listed = (0, omega arith, refl) };
  loaded = tt;
  room = refl;
  template = λ e. absurd (omega arith);
  blank = refl;
}

padded_filled : HasFileBytes padded_layout padded_blank.part
padded_filled = record {
  part = _;
  listed = refl;
  named = λ e. (let no : 1 ≡ 0 = e in omega (arith, no));
  section = padded_section;
  found = refl;
  filled = λ e. (let no : 1 ≡ 8 = e in omega (arith, no));
  written = λ h. (let off : false ≡ true = h.only.bare in cc);
}

template_is : IsSectionWithoutData padded_layout padded_thread
template_is = record {
  input = record { group = _; grouped = (0, omega arith, refl); file = _; filed = (0, omega arith, refl); listed = (1, omega arith, refl) };
  loaded = tt;
  room = refl;
  template = λ e. padded_filled;
  blank = refl;
}

nothing_copied : (i : ℕ) → IsCopied padded_layout i → ⊥
nothing_copied i h =
    let group = only (group_of (file_of file_role.Object (padded_blank ∷ padded_thread ∷ []) [] ∷ [])) h.group h.grouped in
    let file = only (file_of file_role.Object (padded_blank ∷ padded_thread ∷ []) []) h.file (rw (← group) at h.filed) in
    let role : file_role.Object ≡ file_role.Dynamic = ap (λ (f : File). f.role) file ∙ h.library in
    cc

-- a byte that reads 0 is no other
no_other_byte : (m : Memory) (a : ℕ) → byte_in m a ≡ Some 0 → HasWrongByte a 0 m → ⊥
no_other_byte m a there x =
    let both : Some x.byte ≡ Some 0 = sym x.there ∙ there in
    let same : x.byte ≡ 0 = cc in
    x.wrong same

pub wrong_blank : WrongBlankIsRefused
wrong_blank = record {
  plain = λ image h x. no_other_byte h.memory 0x41104 (h.zeros padded_blank 4 padded_is (omega arith) (inr padded_filled) (λ i raw y c. absurd (nothing_copied i c.copied))) x;
  template = λ image h x. no_other_byte h.memory 0x410f4 (h.zeros padded_thread 4 template_is (omega arith) (inr padded_filled) (λ i raw y c. absurd (nothing_copied i c.copied))) x;
}
