-- The worked world of the shared object is legal.
use Rattle.wild_meaning.proofs.Common.{◌≡◌, ℕ, zero, suc, ◌+◌, ◌^◌, ◌<◌, ◌≤◌, true, false, [], ◌∷◌, refl, ap, ◌∙◌, arith, Some, None, All, All-nil, All-from_recursion, pt_load, Segment, File, has_flag, ifunc, Answer, IsReplaceable, HasAnswer, HasResolver, IsAnswer, IsAnswered, IsKnownModule, IsCopied, file_of, group_of, shared_layout, shared_data, shared_code, shared_near, shared_world, answer_of_module, own_symbol, open_symbol, own_thread, other_thread, stubbed_function}
use Rattle.wild_types.specs.declared.file.FileRole.TheVariants as file_role
use Rattle.wild_meaning.specs.Worked.SharedRefusals.{SharedWorldIsLegal}
use Rattle.wild_meaning.proofs.SymbolUnique.{only, owner_of, no_answer}
use Rattle.wild_meaning.proofs.Legal.{not_indirect, no_index, one_index}

plain_own : has_flag own_symbol.flags ifunc ≡ false
unfolding has_flag
plain_own = refl

plain_open : has_flag open_symbol.flags ifunc ≡ false
unfolding has_flag
plain_open = refl

plain_thread : has_flag own_thread.flags ifunc ≡ false
unfolding has_flag
plain_thread = refl

plain_other : has_flag other_thread.flags ifunc ≡ false
unfolding has_flag
plain_other = refl

plain_function : has_flag stubbed_function.flags ifunc ≡ false
unfolding has_flag
plain_function = refl

resolvers : All (HasResolver shared_world) shared_layout.symbols
resolvers = All-from_recursion (HasResolver shared_world) shared_layout.symbols (
  not_indirect shared_world own_symbol plain_own,
  (not_indirect shared_world open_symbol plain_open, (not_indirect shared_world own_thread plain_thread, (not_indirect shared_world other_thread plain_other, (not_indirect shared_world stubbed_function plain_function, tt)))),
)

module_2 : IsKnownModule shared_world 2
module_2 = record { distance = _; fits = omega arith; pair = refl }

module_3 : IsKnownModule shared_world 3
module_3 = record { distance = _; fits = omega arith; pair = refl }

module_4 : IsKnownModule shared_world 4
module_4 = record { distance = _; fits = omega arith; pair = refl }

an_answer : (address owner offset size : ℕ) → address < 2 ^ 64 → owner < 2 ^ 64 → offset < 2 ^ 64 → size < 2 ^ 64 → IsKnownModule shared_world owner → IsAnswer shared_world (answer_of_module address owner offset size)
an_answer address owner offset size a o f s k = record { address = a; offset = f; size = s; bytes = All-nil (λ (b : ℕ). b < 256); owner = o; known = k }

pub no_library : (i : ℕ) → IsCopied shared_layout i → ⊥
no_library i h =
    let group = only (group_of (file_of file_role.Object (shared_data ∷ shared_code ∷ shared_near ∷ []) [] ∷ [])) h.group h.grouped in
    let file = only (file_of file_role.Object (shared_data ∷ shared_code ∷ shared_near ∷ []) []) h.file (rw (← group) at h.filed) in
    let role : file_role.Object ≡ file_role.Dynamic = ap (λ (f : File). f.role) file ∙ h.library in
    cc

-- what is its own has no index
none_own : (i : ℕ) (x : Answer) → IsReplaceable shared_layout i false → HasAnswer shared_layout shared_world i x → ⊥
unfolding has_flag
none_own zero x own h = no_answer shared_layout shared_world 0 x own_symbol _ refl refl refl h
none_own (suc zero) x own h = let both : true ≡ false = owner_of shared_layout 1 false open_symbol refl own in cc
none_own (suc (suc zero)) x own h = no_answer shared_layout shared_world 2 x own_thread _ refl refl refl h
none_own (suc (suc (suc zero))) x own h = let both : true ≡ false = owner_of shared_layout 3 false other_thread refl own in cc
none_own (suc (suc (suc (suc zero)))) x own h = no_answer shared_layout shared_world 4 x stubbed_function _ refl refl refl h
none_own (suc (suc (suc (suc (suc i))))) x own h = let both : None ≡ Some own.defined.symbol = own.defined.listed in cc

pub shared_legal : SharedWorldIsLegal
shared_legal = record {
  aligned = refl;
  ends = All-from_recursion (λ (g : Segment). g.kind ≡ pt_load → shared_world.base + g.address + g.mem_size ≤ 2 ^ 64) shared_layout.segments ((λ k. omega arith), ((λ k. omega arith), ((λ k. omega arith), tt)));
  fixed = λ f. absurd f;
  first = λ x. absurd x;
  resolvers = resolvers;
  symbols = record {
    owner = omega arith;
    known = module_2;
    each = All-from_recursion (IsAnswer shared_world) shared_world.symbols (an_answer 0 3 0 0 (omega arith) (omega arith) (omega arith) (omega arith) module_3, (an_answer 0x700010 3 0 24 (omega arith) (omega arith) (omega arith) (omega arith) module_3, (an_answer 0 4 0x20 8 (omega arith) (omega arith) (omega arith) (omega arith) module_4, tt)));
    there = All-from_recursion (IsAnswered shared_world) shared_layout.symbols (no_index shared_world own_symbol refl, (one_index shared_world open_symbol 1 refl (omega arith), (no_index shared_world own_thread refl, (one_index shared_world other_thread 2 refl (omega arith), (no_index shared_world stubbed_function refl, tt)))));
    own = λ i x own h. absurd (none_own i x own h);
    copies = λ i raw x h. absurd (no_library i h.copied);
    apart = λ i j c d raw other x y _ _ _ h _. absurd (no_library i h.copied);
  };
}
