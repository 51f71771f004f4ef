-- The worked worlds of the program with a copied symbol are legal, whether or not it has room for the symbol.
use Rattle.wild_meaning.proofs.Common.{◌≡◌, ℕ, zero, suc, ◌+◌, ◌^◌, ◌<◌, ◌≤◌, inl, inr, Bool, false, List, [], ◌∷◌, refl, sym, ap, ◌∙◌, subst, arith, Some, None, All, Contains, slice_index_or, All-nil, All-from_recursion, All-contains, pt_load, Segment, File, Group, has_flag, ifunc, absolute, Answer, IsDefinedBy, IsReplaceable, HasRaw, HasFlag, HasAnswer, HasResolver, IsAnswer, IsAnswered, IsKnownModule, IsCopied, IsPastFileBytes, group_of, copying_layout, copying_world, copied_symbol, start_symbol, copied_answer}
use Rattle.wild_types.specs.declared.file.FileRole.TheVariants as file_role
use Rattle.wild_meaning.specs.World.{IsOwnAnswer, HasCopy, HasRoomFor, IsLegal}
use Rattle.wild_meaning.specs.Worked.Copy.{copying_with, copying_room, copying_object, copying_library, null_answer, answer_with, copied_bytes, world_with, roomless_layout}
use Rattle.wild_meaning.specs.Worked.CopyRefusals.{CopyingWorldIsLegal, RoomlessWorldIsLegal}
use Rattle.wild_meaning.proofs.SymbolUnique.{only, raw_of, answer_is, no_answer, defined_is}
use Rattle.wild_meaning.proofs.Legal.{not_indirect, no_index, one_index}

module_1 : (bs : List ℕ) → IsKnownModule (world_with bs) 1
module_1 bs = record { distance = _; fits = omega arith; pair = refl }

copied_raw : (gs : List Segment) → HasRaw (copying_with gs) 0 0x3100
copied_raw gs = record { definition = 0; defined = record { symbol = copied_symbol; listed = refl; defined = inr (refl, refl) }; given = inl (record { symbol = copied_symbol; listed = refl; resolution = _; decided = refl; value = refl }) }

copied_flag : (gs : List Segment) (flag : ℕ) (b : Bool) → has_flag copied_symbol.flags flag ≡ b → HasFlag (copying_with gs) 0 flag b
copied_flag gs flag b e = record { definition = 0; defined = record { symbol = copied_symbol; listed = refl; defined = inr (refl, refl) }; symbol = copied_symbol; listed = refl; flagged = e }

-- the one that is copied is symbol 0
copied_is : (gs : List Segment) (i : ℕ) → IsCopied (copying_with gs) i → i ≡ 0
copied_is gs i h =
    let group : group_of (copying_object ∷ copying_library ∷ []) ≡ h.group = only _ h.group h.grouped in
    let filed : Contains (copying_object ∷ copying_library ∷ []) h.file = subst (λ (g : Group). Contains g.files h.file) (sym group) h.filed in
    by i h.file filed.0 filed.1 filed.2 h.library h.listed
  where
    by : (i : ℕ) (f : File) (k : ℕ) → k < 2 → slice_index_or (copying_object ∷ copying_library ∷ []) k f ≡ f → f.role ≡ file_role.Dynamic → Contains f.copies i → i ≡ 0
    by i f zero lt e role listed = absurd (let both : file_role.Object ≡ file_role.Dynamic = ap (λ (g : File). g.role) e ∙ role in cc)
    by i f (suc zero) lt e role listed = sym (only 0 i (subst (λ (g : File). Contains g.copies i) (sym e) listed))
    by i f (suc (suc k)) lt e role listed = absurd (omega (arith, lt))

-- its copy in a layout with these segments, in a world with these bytes
copied_there : (gs : List Segment) (bs : List ℕ) → HasCopy (copying_with gs) (world_with bs) 0 0x3100 (answer_with bs)
copied_there gs bs = record {
  copied = record { group = _; grouped = (0, omega arith, refl); file = _; filed = (1, omega arith, refl); library = refl; listed = (0, omega arith, refl) };
  given = copied_raw gs;
  answer = record { definition = 0; defined = record { symbol = copied_symbol; listed = refl; defined = inr (refl, refl) }; symbol = copied_symbol; listed = refl; resolution = _; decided = refl; index = 1; told = refl; given = refl };
}

-- there is no other copy
only_copy : (gs : List Segment) (bs : List ℕ) (i raw : ℕ) (x : Answer) → HasCopy (copying_with gs) (world_with bs) i raw x → (i ≡ 0) × (raw ≡ 0x3100) × (x ≡ answer_with bs)
only_copy gs bs i raw x h =
    let at = copied_is gs i h.copied in (
      at,
      raw_of (copying_with gs) 0 raw copied_symbol _ refl refl (subst (λ (k : ℕ). HasRaw (copying_with gs) k raw) at h.given),
      answer_is (copying_with gs) (world_with bs) 0 1 (answer_with bs) x copied_symbol _ refl refl refl refl (subst (λ (k : ℕ). HasAnswer (copying_with gs) (world_with bs) k x) at h.answer),
    )

pub has_copy : HasCopy copying_layout copying_world 0 0x3100 copied_answer
has_copy = copied_there copying_layout.segments copied_bytes

pub copy_is : (i raw : ℕ) (x : Answer) → HasCopy copying_layout copying_world i raw x → (i ≡ 0) × (raw ≡ 0x3100) × (x ≡ copied_answer)
copy_is i raw x h = only_copy copying_layout.segments copied_bytes i raw x h

own_of : (gs : List Segment) (bs : List ℕ) → IsOwnAnswer (copying_with gs) (world_with bs) 0 (answer_with bs)
unfolding has_flag
own_of gs bs = record {
  address = record { raw = 0x3100; given = copied_raw gs; indirect = false; resolved = copied_flag gs ifunc false refl; still = false; absolute = copied_flag gs absolute false refl; is = refl };
  owner = refl;
  offset = λ raw h. let e = raw_of (copying_with gs) 0 raw copied_symbol _ refl refl h in omega (arith, e);
  size = record { definition = 0; defined = record { symbol = copied_symbol; listed = refl; defined = inr (refl, refl) }; symbol = copied_symbol; listed = refl; size = refl };
}

pub copied_own : IsOwnAnswer copying_layout copying_world 0 copied_answer
copied_own = own_of copying_layout.segments copied_bytes

own_answers : (gs : List Segment) (bs : List ℕ) (i : ℕ) (x : Answer) → IsReplaceable (copying_with gs) i false → HasAnswer (copying_with gs) (world_with bs) i x → IsOwnAnswer (copying_with gs) (world_with bs) i x
own_answers gs bs zero x own h = subst (λ (y : Answer). IsOwnAnswer (copying_with gs) (world_with bs) 0 y) (sym (answer_is (copying_with gs) (world_with bs) 0 1 (answer_with bs) x copied_symbol _ refl refl refl refl h)) (own_of gs bs)
own_answers gs bs (suc zero) x own h = absurd (no_answer (copying_with gs) (world_with bs) 1 x start_symbol _ refl refl refl h)
own_answers gs bs (suc (suc i)) x own h = absurd (let both : None ≡ Some h.defined.symbol = h.defined.listed in cc)

plain_copied : has_flag copied_symbol.flags ifunc ≡ false
unfolding has_flag
plain_copied = refl

plain_start : has_flag start_symbol.flags ifunc ≡ false
unfolding has_flag
plain_start = refl

null_is : (bs : List ℕ) → IsAnswer (world_with bs) null_answer
null_is bs = record { address = omega arith; offset = omega arith; size = omega arith; bytes = All-nil (λ (b : ℕ). b < 256); owner = omega arith; known = module_1 bs }

answer_fits : (bs : List ℕ) → All (λ (b : ℕ). b < 256) bs → IsAnswer (world_with bs) (answer_with bs)
answer_fits bs small = record { address = omega arith; offset = omega arith; size = omega arith; bytes = small; owner = omega arith; known = module_1 bs }

-- no segment wraps
abbrev EndsLow : Segment → Type 0
EndsLow g = g.kind ≡ pt_load → 0x20000 + g.address + g.mem_size ≤ 2 ^ 64

-- so the world is legal if the copy has room
legal_with : (gs : List Segment) (bs : List ℕ) → All EndsLow gs → All (λ (b : ℕ). b < 256) bs → HasRoomFor (copying_with gs) 0x3100 (answer_with bs) → IsLegal (copying_with gs) (world_with bs)
legal_with gs bs ends small room = record {
  aligned = refl;
  ends = ends;
  fixed = λ f. absurd f;
  first = λ x. record { own = refl; distance = _; pair = refl; is = record { fits = omega arith; begins = refl } };
  resolvers = All-from_recursion (HasResolver (world_with bs)) (copying_with gs).symbols (not_indirect (world_with bs) copied_symbol plain_copied, (not_indirect (world_with bs) start_symbol plain_start, tt));
  symbols = record {
    owner = omega arith;
    known = module_1 bs;
    each = All-from_recursion (IsAnswer (world_with bs)) (world_with bs).symbols (null_is bs, (answer_fits bs small, tt));
    there = All-from_recursion (IsAnswered (world_with bs)) (copying_with gs).symbols (one_index (world_with bs) copied_symbol 1 refl (omega arith), (no_index (world_with bs) start_symbol refl, tt));
    own = own_answers gs bs;
    copies = λ i raw x h.
        (let is = only_copy gs bs i raw x h in
        subst (λ (y : Answer). HasRoomFor (copying_with gs) raw y) (sym is.2) (subst (λ (a : ℕ). HasRoomFor (copying_with gs) a (answer_with bs)) (sym is.1) room));
    apart = λ i j c d raw other x y e f apart h g.
        (let a = subst (λ (k : ℕ). IsDefinedBy (copying_with gs) k c) (only_copy gs bs i raw x h).0 e in
        let b = subst (λ (k : ℕ). IsDefinedBy (copying_with gs) k d) (only_copy gs bs j other y g).0 f in
        absurd (apart (defined_is (copying_with gs) 0 c copied_symbol refl refl a ∙ sym (defined_is (copying_with gs) 0 d copied_symbol refl refl b))));
  };
}

-- ---- with room for the symbol

is_past_file_bytes : (k : ℕ) → k < 8 → IsPastFileBytes copying_layout (0x3100 + k)
is_past_file_bytes k lt = record { segment = copying_room; listed = (1, omega arith, refl); loads = refl; from = omega arith; to = omega (arith, lt) }

small_bytes : All (λ (b : ℕ). b < 256) copied_bytes
small_bytes = All-from_recursion (λ (b : ℕ). b < 256) copied_bytes (omega arith, (omega arith, (omega arith, (omega arith, (omega arith, (omega arith, (omega arith, (omega arith, tt))))))))

pub copying_legal : CopyingWorldIsLegal
copying_legal = record {
  legal = legal_with copying_layout.segments copied_bytes (All-from_recursion EndsLow copying_layout.segments ((λ k. omega arith), ((λ k. omega arith), ((λ k. omega arith), tt)))) small_bytes (record { within = omega arith; behind = is_past_file_bytes });
  copied = has_copy;
}

-- ---- without room

-- each segment has as many bytes in memory as in the file
abbrev IsFull : Segment → Type 0
IsFull g = g.mem_size ≡ g.file_size

pub roomless_legal : RoomlessWorldIsLegal
roomless_legal = record {
  roomless = λ a h.
      (let full : h.segment.mem_size ≡ h.segment.file_size = All-contains IsFull roomless_layout.segments h.segment (All-from_recursion IsFull roomless_layout.segments (refl, (refl, tt))) h.listed in
      let from = h.from in
      let to = h.to in
      absurd (omega (arith, full, from, to)));
  legal = legal_with roomless_layout.segments [] (All-from_recursion EndsLow roomless_layout.segments ((λ k. omega arith), ((λ k. omega arith), tt))) (All-nil (λ (b : ℕ). b < 256)) (record { within = omega arith; behind = λ k lt. absurd (omega (arith, lt)) });
  copied = copied_there roomless_layout.segments [];
}
