-- Where no answer is found, no section has one.
use Rattle.wild_checker.proofs.Common.{◌≡◌, ℕ, zero, suc, ◌+◌, ◌-◌, ◌<◌, ◌≤◌, ◌⊎◌, Bool, true, false, List, [], ◌∷◌, length, min, refl, sym, ap, ◌∙◌, arith, subst, Option, Some, None, All, Contains, if◌then◌else◌, slice_index, slice_range, eqb-true, All-nil, All-cons, All-contains, File, Group, InputRelocation, InputSection, Machine, Symbolic, first_changed, field_end, in_groups}
use Rattle.wild_words.proofs.Basics.{length-range, range_byte}
use Rattle.wild_terms.specs.Symbolic.{known_byte}
use Rattle.wild_checker.specs.Bytes.{is_same, is_byte, changed_between}
use Rattle.wild_checker.specs.Search.{or_else, site_at, in_sections, in_files}

pub both_none : {X : Type 0} (a b : Option X) → or_else a b ≡ None → (a ≡ None) × (b ≡ None)
both_none None b h = (refl, h)
both_none (Some x) b h = cc

no_answer : (g f n : ℕ) (x : Option ℕ) → site_at g f n x ≡ None → x ≡ None
no_answer g f n None h = refl
no_answer g f n (Some i) h = cc

none_in_sections : (asks : InputSection → Option ℕ) (g f n : ℕ) (ss : List InputSection) → in_sections asks g f n ss ≡ None → All (λ s. asks s ≡ None) ss
none_in_sections asks g f n [] h = All-nil (λ s. asks s ≡ None)
none_in_sections asks g f n (s ∷ ss) h =
    let two = both_none (site_at g f n (asks s)) (in_sections asks g f (n + 1) ss) h in
    All-cons (λ s. asks s ≡ None) s ss (no_answer g f n (asks s) two.0) (none_in_sections asks g f (n + 1) ss two.1)

-- no section of the file has an answer
abbrev pub NoneInFile : (File → InputSection → Option ℕ) → File → Type 0
NoneInFile asks f = All (λ s. asks f s ≡ None) f.sections

none_in_files : (asks : File → InputSection → Option ℕ) (g n : ℕ) (fs : List File) → in_files asks g n fs ≡ None → All (NoneInFile asks) fs
none_in_files asks g n [] h = All-nil (NoneInFile asks)
none_in_files asks g n (f ∷ fs) h =
    let two = both_none (in_sections (asks f) g n 0 f.sections) (in_files asks g (n + 1) fs) h in
    All-cons (NoneInFile asks) f fs (none_in_sections (asks f) g n 0 f.sections two.0) (none_in_files asks g (n + 1) fs two.1)

abbrev pub NoneInGroup : (File → InputSection → Option ℕ) → Group → Type 0
NoneInGroup asks g = All (NoneInFile asks) g.files

none_in_groups : (asks : File → InputSection → Option ℕ) (n : ℕ) (gs : List Group) → in_groups asks n gs ≡ None → All (NoneInGroup asks) gs
none_in_groups asks n [] h = All-nil (NoneInGroup asks)
none_in_groups asks n (g ∷ gs) h =
    let two = both_none (in_files asks n 0 g.files) (in_groups asks (n + 1) gs) h in
    All-cons (NoneInGroup asks) g gs (none_in_files asks n 0 g.files two.0) (none_in_groups asks (n + 1) gs two.1)

-- a section of the layout has no answer
pub none_at : (asks : File → InputSection → Option ℕ) (gs : List Group) (g : Group) (f : File) (s : InputSection) → in_groups asks 0 gs ≡ None → Contains gs g → Contains g.files f → Contains f.sections s → asks f s ≡ None
none_at asks gs g f s none in-groups in-files in-sections =
    let group = All-contains (NoneInGroup asks) gs g (none_in_groups asks 0 gs none) in-groups in
    let file = All-contains (NoneInFile asks) g.files f group in-files in
    All-contains (λ s. asks f s ≡ None) f.sections s file in-sections

-- ---- bytes

same_byte : (x : Option ℕ) (b : ℕ) → is_same x b ≡ true → x ≡ Some b
same_byte None b h = cc
same_byte (Some y) b h = ap Some (eqb-true y b h)

-- where no byte is changed, each is known
pub no_change : (t : Symbolic) (a k : ℕ) (bs : List ℕ) → first_changed t a k bs ≡ None → (j : ℕ) → j < length bs → known_byte t (a + (k + j)) ≡ Some (slice_index bs j)
no_change t a k [] h j l = absurd (omega (arith, l))
no_change t a k (b ∷ bs) h j l = by_test (no_change t a (k + 1) bs) (is_byte t (a + k) b) refl h j l
  where
    by_test : (first_changed t a (k + 1) bs ≡ None → (j : ℕ) → j < length bs → known_byte t (a + (k + 1 + j)) ≡ Some (slice_index bs j)) → (c : Bool) → is_byte t (a + k) b ≡ c → (if c then first_changed t a (k + 1) bs else Some k) ≡ None → (j : ℕ) → j < length (b ∷ bs) → known_byte t (a + (k + j)) ≡ Some (slice_index (b ∷ bs) j)
    by_test rest false e h j l = cc
    by_test rest true e h zero l =
        let z : a + (k + 0) ≡ a + k = omega arith in
        ap (known_byte t) z ∙ same_byte (known_byte t (a + k)) b e
    by_test rest true e h (suc j) l =
        let n : a + (k + suc j) ≡ a + (k + 1 + j) = omega arith in
        ap (known_byte t) n ∙ rest h j (omega (arith, l))

-- ---- bytes in no field

-- the bytes between two offsets
pub between_known : (t : Symbolic) (s : InputSection) (n to k : ℕ) → changed_between t s n to ≡ None → n ≤ k → k < to → k < length s.bytes → known_byte t (s.address + k) ≡ Some (slice_index s.bytes k)
between_known t s n to k h low high within =
    let end = min to (length s.bytes) in
    let above : k < end = least k to (length s.bytes) high within in
    let below : end ≤ length s.bytes = min_right to (length s.bytes) in
    let size = end - n in
    let whole : n + size ≡ end = omega (arith, low, above) in
    let parts : slice_range s.bytes n end ≡ slice_range s.bytes n (n + size) = ap (slice_range s.bytes n) (sym whole) in
    let long : length (slice_range s.bytes n (n + size)) ≡ size = length-range s.bytes n size (omega (arith, whole, below)) in
    let h2 : first_changed t s.address n (slice_range s.bytes n (n + size)) ≡ None = ap (first_changed t s.address n) (sym parts) ∙ h in
    let known = no_change t s.address n (slice_range s.bytes n (n + size)) h2 (k - n) (omega (arith, long, low, above)) in
    let there : n + (k - n) ≡ k = omega (arith, low) in
    let byte : slice_index (slice_range s.bytes n (n + size)) (k - n) ≡ slice_index s.bytes (n + (k - n)) = range_byte s.bytes n size (k - n) (omega (arith, low, above)) in
    let P : ℕ → Type 0 = λ j. known_byte t (s.address + j) ≡ Some (slice_index s.bytes j) in
    subst P there (known ∙ ap Some byte)
  where
    least : (k a b : ℕ) → k < a → k < b → k < min a b
    least k a b h l = grind (arith, h, l)

    min_right : (a b : ℕ) → min a b ≤ b
    min_right a b = grind arith

-- the byte is in no field
abbrev pub IsBeside : Machine → ℕ → InputRelocation → Type 0
IsBeside m k r = (k < r.offset) ⊎ (field_end m r ≤ k)
