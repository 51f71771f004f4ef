-- The world of the worked program of AArch64 is legal.
use Rattle.wild_meaning.proofs.Common.{◌≡◌, ℕ, ◌+◌, ◌^◌, ◌≤◌, false, [], ◌∷◌, refl, ap, ◌∙◌, arith, Some, None, All-nil, All-from_recursion, pt_load, Segment, File, has_flag, ifunc, Answer, HasAnswer, HasResolver, IsAnswer, IsAnswered, IsKnownModule, IsCopied, file_of, group_of, words_static, words_world, slot_code, call_code, past_code, descriptor_code, kept_code, near_function, local_data}
use Rattle.wild_types.specs.declared.file.FileRole.TheVariants as file_role
use Rattle.wild_meaning.specs.Worked.AArch64.{address_code}
use Rattle.wild_meaning.specs.Worked.ImageRefusalsAArch64.{WordsWorldIsLegal}
use Rattle.wild_meaning.proofs.SymbolUnique.{only}
use Rattle.wild_meaning.proofs.Legal.{not_indirect, no_index}

module_1 : IsKnownModule words_world 1
module_1 = record { distance = _; fits = omega arith; pair = refl }

plain_function : has_flag near_function.flags ifunc ≡ false
unfolding has_flag
plain_function = refl

plain_data : has_flag local_data.flags ifunc ≡ false
unfolding has_flag
plain_data = refl

pub no_library : (i : ℕ) → IsCopied words_static i → ⊥
no_library i h =
    let group = only (group_of (file_of file_role.Object (address_code ∷ slot_code ∷ call_code ∷ past_code ∷ descriptor_code ∷ kept_code ∷ []) [] ∷ [])) h.group h.grouped in
    let file = only (file_of file_role.Object (address_code ∷ slot_code ∷ call_code ∷ past_code ∷ descriptor_code ∷ kept_code ∷ []) []) h.file (rw (← group) at h.filed) in
    let role : file_role.Object ≡ file_role.Dynamic = ap (λ (f : File). f.role) file ∙ h.library in
    cc

no_answers : (i : ℕ) (x : Answer) → HasAnswer words_static words_world i x → ⊥
no_answers i x h = let both : None ≡ Some x = h.given in cc

pub words_legal : WordsWorldIsLegal
words_legal = record {
  aligned = refl;
  ends = All-from_recursion (λ (g : Segment). g.kind ≡ pt_load → words_world.base + g.address + g.mem_size ≤ 2 ^ 64) words_static.segments ((λ k. omega arith), tt);
  fixed = λ f. refl;
  first = λ x. record { own = refl; distance = _; pair = refl; is = record { fits = omega arith; begins = refl } };
  resolvers = All-from_recursion (HasResolver words_world) words_static.symbols (not_indirect words_world near_function plain_function, (not_indirect words_world local_data plain_data, tt));
  symbols = record {
    owner = omega arith;
    known = module_1;
    each = All-nil (IsAnswer words_world);
    there = All-from_recursion (IsAnswered words_world) words_static.symbols (no_index words_world near_function refl, (no_index words_world local_data refl, tt));
    own = λ i x own h. absurd (no_answers i x h);
    copies = λ i raw x h. absurd (no_library i h.copied);
    apart = λ i j c d raw other x y _ _ _ h _. absurd (no_library i h.copied);
  };
}
