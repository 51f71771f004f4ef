-- The worked images are bound to each other, and have all that the conditions ask for.
use Rattle.wild_bound.proofs.Common.{◌≡◌, ℕ, zero, suc, ◌+◌, ◌^◌, ◌<◌, ◌≤◌, inr, Bool, true, false, List, [], ◌∷◌, length, refl, sym, ap, ◌∙◌, arith, subst, All, ℤ, Some, None, Result, Ok, Err, ◌==◌, slice_get, codes, w64, FitsSigned, eqb-true, All-nil, Layout, Resolution, Symbol, File, has_flag, Answer, World, IsSymbol, may_be_replaced, BindFault, NamedImage, place_of, count_of, bind, no_answer, bound, SymbolNumbers, HasPlainEntry, IsBoundToItself, AnswerNumbers}
use Rattle.std.specs.List.{list_all}
use Rattle.std.proofs.lemmas.Int.{fits_signed_from_abs}
use Rattle.std.proofs.lemmas.List.Elements.{All-from_recursion}
use lib.Count.{ones}
use lib.IntN.{pos}
use Rattle.wild_words.proofs.Basics.{listed_passes}
use Rattle.wild_records.specs.Abi.Segment.{pt_load}
use Rattle.wild_types.specs.declared.section.Segment.{Segment}
use Rattle.wild_types.specs.declared.file.Group.{Group}
use Rattle.wild_types.specs.ResolvedFlags.{HasItsFlags}
use Rattle.wild_types.specs.Kinds.{needs_dynamic}
use Rattle.wild_types.specs.Parts.{has_hashes}
use Rattle.wild_layout.specs.Image.{bytes as image_bytes}
use Rattle.wild_meaning.specs.World.{IsCopied}
use Rattle.wild_space.specs.declared.space.Bound.{Bound}
use Rattle.wild_bound.specs.Premises.{IsImageOf, IsPlaced, HasPair, HasOwnSymbol, HaveRoom, WorldNumbers, HasLayout}
use Rattle.wild_bound.specs.Worked.{exported_function, needed_function, library_layout, program_layout, worked_image, worked_images, worked_segments, ConditionsAreMet}
use Rattle.wild_bound.proofs.OnImages.{bytes_on_literals, spaces_on_literals}
use Rattle.wild_bound.proofs.WorkedBytes.{library_bytes, program_bytes}
use Rattle.wild_bound.proofs.WorkedLayouts.{library_errors, program_errors, library_is, program_is, library_numbers, program_numbers}

-- ---- the space

-- the images, with their bytes
abbrev written_images : List NamedImage
written_images = worked_image (codes "a") program_bytes 0x10000 ∷ worked_image (codes "b") library_bytes 0x20000 ∷ []

images_are : worked_images ≡ written_images
images_are = ap (λ (p : List ℕ). worked_image (codes "a") p 0x10000 ∷ worked_image (codes "b") (image_bytes library_layout) 0x20000 ∷ []) program_is ∙ ap (λ (q : List ℕ). worked_image (codes "a") program_bytes 0x10000 ∷ worked_image (codes "b") q 0x20000 ∷ []) library_is

abbrev worked_order : List ℕ
worked_order = 0 ∷ 1 ∷ []

-- the answer for the function
abbrev function_answer : Answer
function_answer = record { address = 0x20100; «module» = 2; offset = 256; size = 0; bytes = [] }

abbrev worked_world : ℕ → ℕ → World
worked_world base own = record { base = base; symbols = no_answer ∷ function_answer ∷ []; resolvers = []; modules = (0, pos 0) ∷ (1, pos 0) ∷ (2, pos 0) ∷ []; own_module = own }

abbrev order_in : Result Bound BindFault → List ℕ
order_in (Ok b) = b.order
order_in (Err e) = []

abbrev worlds_in : Result Bound BindFault → List World
worlds_in (Ok b) = b.worlds
worlds_in (Err e) = []

abbrev is_bound : Result Bound BindFault → Bool
is_bound (Ok b) = true
is_bound (Err e) = false

bound_is : is_bound (bound written_images []) ≡ true
unfolding spaces_on_literals ones
bound_is = refl

order_is : order_in (bound written_images []) ≡ worked_order
unfolding spaces_on_literals ones
order_is = refl

worlds_are : worlds_in (bound written_images []) ≡ worked_world 0x10000 1 ∷ worked_world 0x20000 2 ∷ []
unfolding spaces_on_literals ones
worlds_are = refl

call_is : bind written_images worked_order 0 1 ≡ Ok (Some (record { image = 1; index = 1 }))
unfolding spaces_on_literals ones
call_is = refl

own_is : bind written_images worked_order 1 1 ≡ Ok (Some (record { image = 1; index = 1 }))
unfolding spaces_on_literals ones
own_is = refl

program_count : count_of written_images 0 ≡ Ok 2
unfolding spaces_on_literals ones
program_count = refl

library_count : count_of written_images 1 ≡ Ok 2
unfolding spaces_on_literals ones
library_count = refl

record IsWorkedSpace (b : Bound) : Type 0 where
  is : bound written_images [] ≡ Ok b
  order : b.order ≡ worked_order
  worlds : b.worlds ≡ worked_world 0x10000 1 ∷ worked_world 0x20000 2 ∷ []

worked_space : (b : Bound) × IsWorkedSpace b
worked_space = by_case (bound written_images []) refl
  where
    by_case : (r : Result Bound BindFault) → bound written_images [] ≡ r → (b : Bound) × IsWorkedSpace b
    by_case (Err e) h = (let no : false ≡ true = ap is_bound (sym h) ∙ bound_is in let bad : ⊥ = cc in absurd bad)
    by_case (Ok b) h = (b, record { is = h; order = ap order_in (sym h) ∙ order_is; worlds = ap worlds_in (sym h) ∙ worlds_are })

-- ---- what both layouts have

-- no file has copies
abbrev copies_nothing : Group → Bool
copies_nothing g = list_all (λ (f : File). length f.copies == 0) g.files

no_copy : (l : Layout) (i : ℕ) → list_all copies_nothing l.groups ≡ true → IsCopied l i → ⊥
no_copy l i none c =
    let files = listed_passes copies_nothing l.groups c.group none c.grouped in
    let one = listed_passes (λ (f : File). length f.copies == 0) c.group.files c.file files c.filed in
    let empty : length c.file.copies ≡ 0 = eqb-true _ _ one in
    let inside = c.listed.1 in
    omega (arith, empty, inside)

no_room : (l : Layout) (w : World) → list_all copies_nothing l.groups ≡ true → HaveRoom l w
no_room l w none = record {
  copies = λ i raw x h. absurd (no_copy l i none h.copied);
  apart = λ i j c d raw other x y a b apart h k. absurd (no_copy l i none h.copied);
}

some_symbol : (x y : Symbol) → Some x ≡ Some y → x ≡ y
some_symbol x y h = cc

some_resolution : (x y : Resolution) → Some x ≡ Some y → x ≡ y
some_resolution x y h = cc

-- the only symbol of a list
only_symbol : (x : Symbol) (c : ℕ) (s : Symbol) → slice_get (x ∷ []) c ≡ Some s → (c ≡ 0) × (x ≡ s)
only_symbol x zero s h = (refl, some_symbol x s h)
only_symbol x (suc c) s h = (let no : None ≡ Some s = h in let bad : ⊥ = cc in absurd bad)

world_numbers : (base own : ℕ) → own < 2 ^ 64 → WorldNumbers (worked_world base own)
world_numbers base own small = record {
  own = small;
  symbols = All-from_recursion AnswerNumbers (no_answer ∷ function_answer ∷ []) (
    record { address = omega arith; owner = omega arith; offset = omega arith; size = omega arith; bytes = All-nil (λ (b : ℕ). b < 256) },
    (record { address = omega arith; owner = omega arith; offset = omega arith; size = omega arith; bytes = All-nil (λ (b : ℕ). b < 256) }, tt),
  );
  modules = All-from_recursion (λ (m : ℕ × ℤ). FitsSigned w64 m.1) ((0, pos 0) ∷ (1, pos 0) ∷ (2, pos 0) ∷ []) (fits_signed_from_abs w64 (pos 0) (omega arith), (fits_signed_from_abs w64 (pos 0) (omega arith), (fits_signed_from_abs w64 (pos 0) (omega arith), tt)));
}

-- index 1 is below the number of symbols
in_range : (i : ℕ) (symbols k : ℕ) → count_of written_images i ≡ Ok 2 → count_of written_images i ≡ Ok symbols → k ≡ 1 → k < symbols
in_range i symbols k two is one =
    let both : Ok 2 ≡ Ok symbols = sym two ∙ is in
    let same : 2 ≡ symbols = cc in
    omega (arith, one, same)

-- ---- the program

program_image : IsImageOf program_layout (worked_image (codes "a") program_bytes 0x10000)
unfolding program_layout
program_image = record {
  is = sym program_is;
  none = program_errors;
  numbers = program_numbers;
  symbols = All-from_recursion SymbolNumbers (needed_function ∷ []) (record { info = omega arith; size = omega arith }, tt);
  flags = All-from_recursion HasItsFlags (needed_function ∷ []) (λ r is. ap (λ (q : Resolution). q.flags) (sym (some_resolution _ r is)), tt);
  keeps = refl;
  loadable = inr tt;
}

program_placed : IsPlaced program_layout (worked_image (codes "a") program_bytes 0x10000) 0
unfolding bytes_on_literals spaces_on_literals program_layout ones
program_placed = record {
  aligned = refl;
  ends = All-from_recursion (λ (g : Segment). g.kind ≡ pt_load → 0x10000 + g.address + g.mem_size ≤ 2 ^ 64) (worked_segments 544 272 272) (λ k. omega arith, (λ k. omega arith, tt));
  fixed = λ f. absurd f;
  first = λ e. refl;
  distance = λ e. record { fits = fits_signed_from_abs w64 (pos 0) (omega arith); begins = refl };
  threads = refl;
}

program_own : (c k : ℕ) (s : Symbol) (r : Resolution) → HasOwnSymbol program_layout c k s r → ⊥
unfolding program_layout has_flag
program_own c k s r o =
    let only = only_symbol needed_function c s o.listed in
    let replaced : may_be_replaced program_layout.kind needed_function.flags ≡ false = subst (λ (q : Symbol). may_be_replaced program_layout.kind q.flags ≡ false) (sym only.1) o.own in
    let no : true ≡ false = replaced in
    cc

program_index : (c k : ℕ) (s : Symbol) (r : Resolution) → IsSymbol program_layout c s → s.resolution ≡ Some r → r.dynamic_symbol_index ≡ Some k → k ≡ 1
unfolding program_layout
program_index c k s r listed decided told =
    let only = only_symbol needed_function c s listed in
    let own : needed_function.resolution ≡ Some r = ap (λ (q : Symbol). q.resolution) only.1 ∙ decided in
    let same = some_resolution _ r own in
    let both : Some 1 ≡ Some k = ap (λ (q : Resolution). q.dynamic_symbol_index) same ∙ told in
    cc

program_pairs : All (HasPair [] 0x10000) program_layout.symbols
unfolding program_layout has_flag
program_pairs = All-from_recursion (HasPair [] 0x10000) (needed_function ∷ []) (λ f r is. (let no : false ≡ true = f in let bad : ⊥ = cc in absurd bad), tt)

program_copies : list_all copies_nothing program_layout.groups ≡ true
unfolding program_layout
program_copies = refl

program_has : (b : Bound) → IsWorkedSpace b → HasLayout written_images [] b 0 program_layout
program_has b h =
    let place : place_of b.order 0 ≡ 0 = ap (λ (o : List ℕ). place_of o 0) h.order in
    record {
      inside = (let many : length b.order ≡ 2 = ap length h.order in omega (arith, many));
      image = worked_image (codes "a") program_bytes 0x10000;
      there = ap (λ (o : List ℕ). slice_get written_images (place_of o 0)) h.order;
      is = program_image;
      placed = program_placed;
      resolvers = program_pairs;
      own = record {
        entries = λ c k s r o. absurd (program_own c k s r o);
        itself = λ c k s r o. absurd (program_own c k s r o);
        dynamic = λ c k s r o. absurd (program_own c k s r o);
        hashes = λ c k s r o. absurd (program_own c k s r o);
      };
      indexes = λ symbols c k s r counted listed decided told. in_range 0 symbols k program_count (subst (λ (i : ℕ). count_of written_images i ≡ Ok symbols) place counted) (program_index c k s r listed decided told);
      world = worked_world 0x10000 1;
      has_world = ap (λ (ws : List World). slice_get ws 0) h.worlds;
      numbers = world_numbers 0x10000 1 (omega arith);
      room = no_room program_layout (worked_world 0x10000 1) program_copies;
    }

-- ---- the library

library_image : IsImageOf library_layout (worked_image (codes "b") library_bytes 0x20000)
unfolding library_layout
library_image = record {
  is = sym library_is;
  none = library_errors;
  numbers = library_numbers;
  symbols = All-from_recursion SymbolNumbers (exported_function ∷ []) (record { info = omega arith; size = omega arith }, tt);
  flags = All-from_recursion HasItsFlags (exported_function ∷ []) (λ r is. ap (λ (q : Resolution). q.flags) (sym (some_resolution _ r is)), tt);
  keeps = refl;
  loadable = inr tt;
}

library_placed : IsPlaced library_layout (worked_image (codes "b") library_bytes 0x20000) 1
unfolding bytes_on_literals spaces_on_literals library_layout ones
library_placed = record {
  aligned = refl;
  ends = All-from_recursion (λ (g : Segment). g.kind ≡ pt_load → 0x20000 + g.address + g.mem_size ≤ 2 ^ 64) (worked_segments 472 264 208) (λ k. omega arith, (λ k. omega arith, tt));
  fixed = λ f. absurd f;
  first = λ e. absurd e;
  distance = λ e. absurd e;
  threads = refl;
}

library_index : (c k : ℕ) (s : Symbol) (r : Resolution) → IsSymbol library_layout c s → s.resolution ≡ Some r → r.dynamic_symbol_index ≡ Some k → k ≡ 1
unfolding library_layout
library_index c k s r listed decided told =
    let only = only_symbol exported_function c s listed in
    let own : exported_function.resolution ≡ Some r = ap (λ (q : Symbol). q.resolution) only.1 ∙ decided in
    let same = some_resolution _ r own in
    let both : Some 1 ≡ Some k = ap (λ (q : Resolution). q.dynamic_symbol_index) same ∙ told in
    cc

-- the entry of the function says where it is
plain_entry : (r : Resolution) → HasPlainEntry library_layout exported_function r
unfolding bytes_on_literals library_layout ones
plain_entry r = record {
  still = refl;
  value = λ p. (let bad : ⊥ = cc in absurd bad);
  indirect = refl;
  moves = λ f. refl;
  stub = refl;
  copied = λ f. (let no : false ≡ true = f in let bad : ⊥ = cc in absurd bad);
}

library_symbol : (c : ℕ) (s : Symbol) → IsSymbol library_layout c s → exported_function ≡ s
unfolding library_layout
library_symbol c s listed = (only_symbol exported_function c s listed).1

library_entry : (c k : ℕ) (s : Symbol) (r : Resolution) → HasOwnSymbol library_layout c k s r → HasPlainEntry library_layout s r
library_entry c k s r o = subst (λ (q : Symbol). HasPlainEntry library_layout q r) (library_symbol c s o.listed) (plain_entry r)

library_pairs : All (HasPair [] 0x20000) library_layout.symbols
unfolding library_layout has_flag
library_pairs = All-from_recursion (HasPair [] 0x20000) (exported_function ∷ []) (λ f r is. (let no : false ≡ true = f in let bad : ⊥ = cc in absurd bad), tt)

library_copies : list_all copies_nothing library_layout.groups ≡ true
unfolding library_layout
library_copies = refl

library_dynamic : (needs_dynamic library_layout.kind ≡ true) × (has_hashes library_layout ≡ true)
unfolding library_layout
library_dynamic = (refl, refl)

library_has : (b : Bound) → IsWorkedSpace b → HasLayout written_images [] b 1 library_layout
library_has b h =
    let place : place_of b.order 1 ≡ 1 = ap (λ (o : List ℕ). place_of o 1) h.order in
    record {
      inside = (let many : length b.order ≡ 2 = ap length h.order in omega (arith, many));
      image = worked_image (codes "b") library_bytes 0x20000;
      there = ap (λ (o : List ℕ). slice_get written_images (place_of o 1)) h.order;
      is = library_image;
      placed = library_placed;
      resolvers = library_pairs;
      own = record {
        entries = library_entry;
        itself = λ c k s r o. (
            let one = library_index c k s r o.listed o.decided o.index in
            subst (λ (q : ℕ). IsBoundToItself written_images b.order 1 q) (sym one) (subst (λ (o : List ℕ). IsBoundToItself written_images o 1 1) (sym h.order) own_is));
        dynamic = λ c k s r o. library_dynamic.0;
        hashes = λ c k s r o. library_dynamic.1;
      };
      indexes = λ symbols c k s r counted listed decided told. in_range 1 symbols k library_count (subst (λ (i : ℕ). count_of written_images i ≡ Ok symbols) place counted) (library_index c k s r listed decided told);
      world = worked_world 0x20000 2;
      has_world = ap (λ (ws : List World). slice_get ws 1) h.worlds;
      numbers = world_numbers 0x20000 2 (omega arith);
      room = no_room library_layout (worked_world 0x20000 2) library_copies;
    }

-- ---- the whole

-- the conditions for written bytes, and so for the images of the layouts
record AreMet (xs : List NamedImage) : Type 0 where
  space : Bound
  bound_as : bound xs [] ≡ Ok space
  program : HasLayout xs [] space 0 program_layout
  library : HasLayout xs [] space 1 library_layout
  call : bind xs space.order 0 1 ≡ Ok (Some (record { image = 1; index = 1 }))

written_met : AreMet written_images
written_met =
    let b = worked_space.0 in
    let h = worked_space.1 in
    record { space = b; bound_as = h.is; program = program_has b h; library = library_has b h; call = subst (λ (o : List ℕ). bind written_images o 0 1 ≡ Ok (Some (record { image = 1; index = 1 }))) (sym h.order) call_is }

pub conditions_met : ConditionsAreMet
conditions_met =
    let m = subst AreMet (sym images_are) written_met in
    record { space = m.space; bound_as = m.bound_as; program = m.program; library = m.library; call = m.call }
