-- What a field in memory reads as.
use Rattle.wild_meaning.proofs.Common.{◌≡◌, ℕ, zero, suc, ◌+◌, ◌*◌, ◌^◌, ◌<◌, inl, inr, List, [], ◌∷◌, length, refl, sym, ap, ◌∙◌, subst, arith, Option, Some, None, nat_lt, slice_index, option_and_then, option_map, cases_Bool, number, Plain, Full, Signed, InputRelocation, Memory, World, byte_in, bytes_in, number_in, Holds, Item, place_at, FieldReads}
use Rattle.std.proofs.lemmas.Bool.{ltb-true}
use Rattle.wild_reloc.specs.Formula.{sign_extended}
use Rattle.wild_loader.proofs.HeldBytes.{number-held}

pub number_of : (m : Memory) (a n x : ℕ) (bs : List ℕ) → length bs ≡ n → Holds m a bs → number_in m a n ≡ Some x → number bs ≡ x
number_of m a n x bs long held h =
    let there : number_in m a n ≡ Some (number bs) = subst (λ (k : ℕ). number_in m a k ≡ Some (number bs)) long (number-held m a bs held) in
    let both : Some (number bs) ≡ Some x = sym there ∙ h in
    cc

-- a field of 8 bytes
pub full_of : (w : World) (m : Memory) (item : Item) (r : InputRelocation) (v x : ℕ) → FieldReads w m item r Full v → number_in m (place_at w item r.offset) 8 ≡ Some x → v ≡ x
full_of w m item r v x f h = let same : number f.bytes ≡ v = f.reads in sym same ∙ number_of m (place_at w item r.offset) 8 x f.bytes f.wide f.held h

-- a field of 4 bytes with a sign
pub signed_of : (w : World) (m : Memory) (item : Item) (r : InputRelocation) (v x : ℕ) → FieldReads w m item r (Plain 32 Signed) v → number_in m (place_at w item r.offset) 4 ≡ Some x → v ≡ sign_extended 32 x
signed_of w m item r v x f h =
    let same : sign_extended 32 (number f.bytes) ≡ v = f.reads in
    sym same ∙ ap (sign_extended 32) (number_of m (place_at w item r.offset) 4 x f.bytes f.wide f.held h)

-- ---- addresses do not wrap

byte_below : (m : Memory) (a b : ℕ) → byte_in m a ≡ Some b → a < 2 ^ 64
byte_below m a b h =
    elim (cases_Bool (nat_lt a (2 ^ 64))) [
      | inl t ↦ ltb-true a (2 ^ 64) t
      | inr f ↦ cc (rw f at h)
    ]

pub word_below : (m : Memory) (a x : ℕ) → number_in m a 8 ≡ Some x → a < 2 ^ 64
word_below m a x h = by_byte m a x (byte_in m a) refl h
  where
    by_byte : (m : Memory) (a x : ℕ) (o : Option ℕ) → byte_in m a ≡ o → option_and_then (λ b. option_map (λ rest. b + 256 * rest) (number_in m (a + 1) 7)) o ≡ Some x → a < 2 ^ 64
    by_byte m a x None e h = cc
    by_byte m a x (Some b) e h = byte_below m a b e

-- one place has one word
pub same_word : (m : Memory) (g at x y : ℕ) → g ≡ at → number_in m g 8 ≡ Some x → number_in m at 8 ≡ Some y → x ≡ y
same_word m g at x y e h k =
    let there : number_in m at 8 ≡ Some x = subst (λ (a : ℕ). number_in m a 8 ≡ Some x) e h in
    let both : Some x ≡ Some y = sym there ∙ k in
    cc

-- bytes that are read there are there
pub held_from : (m : Memory) (a : ℕ) (bs : List ℕ) → bytes_in m a (length bs) ≡ Some bs → Holds m a bs
held_from m a [] h = λ k lt. absurd (omega (arith, lt))
held_from m a (b ∷ bs) h = by m a b bs (byte_in m a) (bytes_in m (a + 1) (length bs)) (λ e. held_from m (a + 1) bs e) refl refl h
  where
    put : (m : Memory) (a b : ℕ) (bs : List ℕ) → byte_in m a ≡ Some b → Holds m (a + 1) bs → (k : ℕ) → k < length (b ∷ bs) → byte_in m (a + k) ≡ Some (slice_index (b ∷ bs) k)
    put m a b bs first rest zero lt = subst (λ (c : ℕ). byte_in m c ≡ Some b) (let e : a ≡ a + 0 = omega arith in e) first
    put m a b bs first rest (suc k) lt = subst (λ (c : ℕ). byte_in m c ≡ Some (slice_index bs k)) (let e : a + 1 + k ≡ a + suc k = omega arith in e) (rest k (omega (arith, lt)))

    by : (m : Memory) (a b : ℕ) (bs : List ℕ) (o : Option ℕ) (p : Option (List ℕ)) → (bytes_in m (a + 1) (length bs) ≡ Some bs → Holds m (a + 1) bs) → byte_in m a ≡ o → bytes_in m (a + 1) (length bs) ≡ p → option_and_then (λ (c : ℕ). option_map (λ (cs : List ℕ). c ∷ cs) p) o ≡ Some (b ∷ bs) → Holds m a (b ∷ bs)
    by m a b bs None p held e f h = absurd (cc)
    by m a b bs (Some c) None held e f h = absurd (cc)
    by m a b bs (Some c) (Some cs) held e f h =
        let same : c ∷ cs ≡ b ∷ bs = cc in
        let head : c ≡ b = cc in
        let tail : cs ≡ bs = cc in
        put m a b bs (e ∙ ap Some head) (held (f ∙ ap Some tail))
