-- Wrong images of the worked program with a copied symbol are refused.
use Rattle.wild_meaning.proofs.Common.{◌≡◌, inl, inr, true, false, refl, sym, ap, ◌∙◌, arith, ◌≢◌, Some, pos, r_x86_64_none, r_x86_64_64, shf_execinstr, FileHeaderIsRead, FileHeader, formula, SymbolAddress, Full, Value, x86_64_formula, has_flag, byte_in, IsSet, IsPastFileBytes, IsKept, OfSection, IsSectionWithoutData, reference, copying_layout, copying_world, copied_symbol, start_symbol, copied_answer, TakesString, InputRelocation}
use Rattle.wild_loader.specs.declared.memory.Machine.TheVariants as processors
use Rattle.wild_meaning.specs.LinkedImage.{IsNotCopied, HasResolvedAddress}
use Rattle.wild_meaning.specs.Worked.Copy.{copying_room, copying_data, copying_item, copying_blank}
use Rattle.wild_meaning.specs.Worked.CopyRefusals.{WrongCopyIsRefused, WrongZeroIsRefused, WrongPlaceOfCopyIsRefused, WrongMachineIsRefused, WrongHeadersAreRefused}
use Rattle.wild_meaning.proofs.SymbolUnique.{IsPlainOwn, denoted}
use Rattle.wild_meaning.proofs.Read.{full_of}
use Rattle.wild_meaning.proofs.Refused.{value_there}
use Rattle.wild_meaning.proofs.CopyLegal.{has_copy, copy_is}
use Rattle.wild_meaning.proofs.StringLemmas.{nothing_named}
use Rattle.wild_meaning.proofs.SymbolLemmas.{referent_stands}

pub wrong_copy : WrongCopyIsRefused
wrong_copy image h x =
    let there : byte_in h.memory 0x23103 ≡ Some 4 = h.copies (λ e. (let off : false ≡ true = e in cc)) 0 0x3100 copied_answer has_copy 3 (omega arith) in
    let both : Some x.byte ≡ Some 4 = sym x.there ∙ there in
    let same : x.byte ≡ 4 = cc in
    x.wrong same

blank_is : IsSectionWithoutData copying_layout copying_blank
blank_is = record {
  input = record { group = _; grouped = (0, omega arith, refl); file = _; filed = (0, omega arith, refl); listed = (1, omega arith, refl) };
  loaded = tt;
  room = refl;
  template = λ e. absurd (omega arith);
  blank = refl;
}

not_copied : IsNotCopied copying_layout copying_world 0x3080
not_copied i raw x h = let is = copy_is i raw x h in inl (omega (arith, is.1))

pub wrong_zero : WrongZeroIsRefused
wrong_zero image h x =
    let behind : IsPastFileBytes copying_layout 0x3080 = record { segment = copying_room; listed = (1, omega arith, refl); loads = refl; from = omega arith; to = omega arith } in
    let there : byte_in h.memory 0x23080 ≡ Some 0 = h.zeros copying_blank 0x80 blank_is (omega arith) (inl behind) not_copied in
    let both : Some x.byte ≡ Some 0 = sym x.there ∙ there in
    let same : x.byte ≡ 0 = cc in
    x.wrong same

-- the copied symbol is the program's own
pub copied_is_own : IsPlainOwn copying_layout 0 0x3100
unfolding has_flag
copied_is_own = record { symbol = copied_symbol; resolution = _; is = refl; decided = refl; raw_is = refl; own = refl; plain = refl; moves = refl; unstubbed = refl }

pub address_formula : x86_64_formula r_x86_64_64 ≡ Some (formula SymbolAddress Full)
unfolding x86_64_formula
address_formula = refl

kept : IsKept copying_layout copying_item
kept = OfSection copying_data (record { input = record { group = _; grouped = (0, omega arith, refl); file = _; filed = (0, omega arith, refl); listed = (0, omega arith, refl) }; loaded = tt; room = refl; has_data = refl; written = λ p at h. (let off : false ≡ true = h.only.bare in cc) }) refl

-- the program has no merged strings
pub no_string : (v : Value) (r : InputRelocation) → TakesString v copying_layout r → ⊥
no_string v r t = nothing_named copying_layout refl r t.1

pub no_code : IsSet 3 shf_execinstr → ⊥
no_code e = omega arith

refers : r_x86_64_64 ≢ r_x86_64_none
refers e = let n : 1 ≡ 0 = e in omega (arith, n)

pub wrong_place : WrongPlaceOfCopyIsRefused
wrong_place image h x =
    let r = reference 0 r_x86_64_64 0 (pos 0) in
    let v = value_there copying_layout copying_world h.memory copying_item r (formula SymbolAddress Full) 0 copied_is_own.symbol (λ e. (let off : false ≡ true = e in cc)) (h.kept copying_item kept) no_code (0, omega arith, refl) refers address_formula refl copied_is_own.is copied_is_own.moves (λ e. absurd (let both : true ≡ false = sym e ∙ copied_is_own.own in cc)) in
    let is : v.value ≡ x.number = full_of copying_world h.memory copying_item r v.value x.number v.field x.there in
    let address : v.gives.symbol ≡ 0x23100 = denoted copying_layout copying_world h.memory 0 0x3100 v.gives.symbol copied_is_own (referent_stands SymbolAddress copying_layout copying_world h.memory copying_item r v.gives.symbol refl (no_string SymbolAddress r) v.gives.denoted) in
    x.wrong (omega (arith, is, address, v.gives.sum))

pub wrong_machine : WrongMachineIsRefused
wrong_machine image h x = let both : processors.AArch64 ≡ processors.X86_64 = sym x ∙ h.machine in cc

-- ---- the file header

start_place : HasResolvedAddress copying_layout 1 0x1100
unfolding has_flag
start_place = record {
  definition = 1;
  defined = record { symbol = start_symbol; listed = refl; defined = inr (refl, refl) };
  given = record { symbol = start_symbol; listed = refl; resolution = _; decided = refl; value = refl };
  plain = record { definition = 1; defined = record { symbol = start_symbol; listed = refl; defined = inr (refl, refl) }; symbol = start_symbol; listed = refl; flagged = refl };
}

pub wrong_headers : FileHeaderIsRead → WrongHeadersAreRefused
wrong_headers read = record {
  begin = λ image h wrong. let is = read image 0 h.header.header h.header.fits h.header.stands in wrong (ap (λ (e : FileHeader). e.entry) is ∙ h.header.symbol 1 0x1100 refl start_place);
  kind = λ image h wrong. let is = read image 0 h.header.header h.header.fits h.header.stands in wrong (ap (λ (e : FileHeader). e.file_type) is ∙ h.header.movable tt);
}
