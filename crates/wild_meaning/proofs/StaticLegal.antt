-- The worked world of the program without a dynamic linker is legal.
use Rattle.wild_meaning.proofs.Common.{◌≡◌, ℕ, ◌+◌, ◌^◌, ◌≤◌, false, [], ◌∷◌, refl, ap, ◌∙◌, arith, Some, None, All-nil, All-from_recursion, pt_load, Segment, File, has_flag, ifunc, Answer, HasAnswer, HasResolver, IsAnswer, IsAnswered, IsKnownModule, IsCopied, file_of, group_of, static_pie, static_pie_world, branch_code, load_code, general_code, described_code, static_data, first_function, second_function, thread_symbol, getter_symbol}
use Rattle.wild_types.specs.declared.file.FileRole.TheVariants as file_role
use Rattle.wild_meaning.specs.Worked.StaticRefusals.{StaticPieWorldIsLegal}
use Rattle.wild_meaning.proofs.SymbolUnique.{only}
use Rattle.wild_meaning.proofs.Legal.{not_indirect, no_index}

module_1 : IsKnownModule static_pie_world 1
module_1 = record { distance = _; fits = omega arith; pair = refl }

plain_first : has_flag first_function.flags ifunc ≡ false
unfolding has_flag
plain_first = refl

plain_second : has_flag second_function.flags ifunc ≡ false
unfolding has_flag
plain_second = refl

plain_thread : has_flag thread_symbol.flags ifunc ≡ false
unfolding has_flag
plain_thread = refl

plain_getter : has_flag getter_symbol.flags ifunc ≡ false
unfolding has_flag
plain_getter = refl

pub no_library : (i : ℕ) → IsCopied static_pie i → ⊥
no_library i h =
    let group = only (group_of (file_of file_role.Object (branch_code ∷ load_code ∷ general_code ∷ described_code ∷ static_data ∷ []) [] ∷ [])) h.group h.grouped in
    let file = only (file_of file_role.Object (branch_code ∷ load_code ∷ general_code ∷ described_code ∷ static_data ∷ []) []) h.file (rw (← group) at h.filed) in
    let role : file_role.Object ≡ file_role.Dynamic = ap (λ (f : File). f.role) file ∙ h.library in
    cc

no_answers : (i : ℕ) (x : Answer) → HasAnswer static_pie static_pie_world i x → ⊥
no_answers i x h = let both : None ≡ Some x = h.given in cc

pub static_legal : StaticPieWorldIsLegal
static_legal = record {
  aligned = refl;
  ends = All-from_recursion (λ (g : Segment). g.kind ≡ pt_load → static_pie_world.base + g.address + g.mem_size ≤ 2 ^ 64) static_pie.segments ((λ k. omega arith), tt);
  fixed = λ f. absurd f;
  first = λ x. record { own = refl; distance = _; pair = refl; is = record { fits = omega arith; begins = refl } };
  resolvers = All-from_recursion (HasResolver static_pie_world) static_pie.symbols (
    not_indirect static_pie_world first_function plain_first,
    (not_indirect static_pie_world second_function plain_second, (not_indirect static_pie_world thread_symbol plain_thread, (not_indirect static_pie_world getter_symbol plain_getter, tt))),
  );
  symbols = record {
    owner = omega arith;
    known = module_1;
    each = All-nil (IsAnswer static_pie_world);
    there = All-from_recursion (IsAnswered static_pie_world) static_pie.symbols (no_index static_pie_world first_function refl, (no_index static_pie_world second_function refl, (no_index static_pie_world thread_symbol refl, (no_index static_pie_world getter_symbol refl, tt))));
    own = λ i x own h. absurd (no_answers i x h);
    copies = λ i raw x h. absurd (no_library i h.copied);
    apart = λ i j c d raw other x y _ _ _ h _. absurd (no_library i h.copied);
  };
}
