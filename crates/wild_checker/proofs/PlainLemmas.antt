-- Where the instruction of a relocation was not rewritten, its own bytes are the input's, and all of its fields hold.
use Rattle.wild_checker.proofs.Common.{◌≡◌, ℕ, zero, suc, ◌+◌, ◌-◌, ◌<◌, ◌≤◌, ◌⊎◌, inl, inr, true, false, List, [], ◌∷◌, length, get_or, refl, sym, ap, ◌∙◌, arith, subst, Option, Some, None, All, Contains, ⊤, slice_get, slice_index, cases_lt, All-contains, listed_at, x86_64_row, Formula, formula, SlotDistance, Plain, Signed, File, InputRelocation, InputSection, Machine, Item, row_of, field_bytes, Memory, World, formula_of, form_width, place_at, Instruction, Partner, size_of, IsOwnByte, instructions_of, IsInstruction, IsSingle, Among, pick, field_end, Loaded, begins_none, rewritten_start, first_cursor}
use Rattle.std.proofs.lemmas.Bool.{cases_eq}
use Rattle.wild_records.specs.Abi.Relocation.{r_x86_64_tlsdesc_call}
use Rattle.wild_types.specs.declared.kind.Machine.TheVariants as machine
use Rattle.wild_loader.specs.Memory.{byte_in}
use Rattle.wild_meaning.specs.Field.{IsInputByte}
use Rattle.wild_meaning.specs.Sequence.{IsOutsidePartners}
use Rattle.wild_meaning.specs.Template.{IsTemplate}
use Rattle.wild_meaning.proofs.PairLemmas.{IsGetterCall, as_pair, are_several, only_one}
use Rattle.wild_checker.specs.Rewritten.{has_no_partner, bytes_after, reach}
use Rattle.wild_checker.proofs.PlacedSections.{IsItem, IsChecked}
use Rattle.wild_checker.proofs.RewrittenLemmas.{IsRewritten, rewritten, number_is, room_is, formula_is, begins, not_after_first}
use Rattle.wild_checker.proofs.WalkLemmas.{InRewritten, cursor_at, byte_or_rewritten, in_order, reached}

some_is : {X : Type 0} (x y : X) → (let o : Option X = Some x in o) ≡ Some y → x ≡ y
some_is x y h = cc

-- ---- the table of the judge

-- a single instruction ends with its field, or is the call through a descriptor
record IsCall (o : Instruction) : Type 0 where
  first : o.field ≡ 0
  short : size_of o ≡ 2
  number : (n : ℕ) → Contains o.numbers n → n ≡ r_x86_64_tlsdesc_call

abbrev EndsWithField : Instruction → Type 0
EndsWithField o = ((o.width ≡ 4) × (size_of o ≡ o.field + 4)) ⊎ IsCall o

each_ends : Among (λ (o : Instruction). has_no_partner o.partners) EndsWithField (instructions_of machine.X86_64)
each_ends = (
  inl (refl, refl),
  (
    inl (refl, refl),
    (
      inl (refl, refl),
      (
        inl (refl, refl),
        (
          inl (refl, refl),
          (
            inl (refl, refl),
            (
              inl (refl, refl),
              (
                inl (refl, refl),
                (
                  inl (refl, refl),
                  (
                    inl (refl, refl),
                    (
                      inl (refl, refl),
                      (
                        inl (refl, refl),
                        (
                          inl (refl, refl),
                          (
                            inl (refl, refl),
                            (
                              inl (refl, refl),
                              (
                                inl (refl, refl),
                                (
                                  inl (refl, refl),
                                  (
                                    inl (refl, refl),
                                    (
                                      inl (refl, refl),
                                      (
                                        inl (refl, refl),
                                        (
                                          inl (refl, refl),
                                          (
                                            inl (refl, refl),
                                            (
                                              inl (refl, refl),
                                              (
                                                inl (refl, refl),
                                                (
                                                  inr (record { first = refl; short = refl; number = λ n c. only_one r_x86_64_tlsdesc_call n c }),
                                                  tt,
                                                ),
                                              ),
                                            ),
                                          ),
                                        ),
                                      ),
                                    ),
                                  ),
                                ),
                              ),
                            ),
                          ),
                        ),
                      ),
                    ),
                  ),
                ),
              ),
            ),
          ),
        ),
      ),
    ),
  ),
)

-- the further field of a sequence is after the first, and only bytes of the same instructions are after it
abbrev EndsWithin : Instruction → Partner → ℕ → Type 0
EndsWithin o p n = size_of o ≡ p.field + field_bytes machine.X86_64 n + bytes_after n

abbrev EachEnds : Instruction → Partner → List ℕ → Type 0
EachEnds o p [] = ⊤
EachEnds o p (n ∷ ns) = EndsWithin o p n × EachEnds o p ns

abbrev EachPartner : Instruction → List Partner → Type 0
EachPartner o [] = ⊤
EachPartner o (p ∷ ps) = ((o.width ≡ 4) × (o.field + 4 ≤ p.field) × (o.field < size_of o) × EachEnds o p p.numbers) × EachPartner o ps

each_partner : Among (λ (o : Instruction). are_several o.partners) (λ (o : Instruction). EachPartner o o.partners) (instructions_of machine.X86_64)
unfolding row_of x86_64_row
each_partner = (
  ((refl, omega arith, omega arith, (refl, (refl, tt))), tt),
  (
    ((refl, omega arith, omega arith, (refl, (refl, (refl, tt)))), tt),
    (
      ((refl, omega arith, omega arith, (refl, tt)), tt),
      (
        ((refl, omega arith, omega arith, (refl, (refl, tt))), tt),
        (
          ((refl, omega arith, omega arith, (refl, (refl, (refl, tt)))), tt),
          (
            ((refl, omega arith, omega arith, (refl, tt)), tt),
            tt,
          ),
        ),
      ),
    ),
  ),
)

ends_of : (o : Instruction) (p : Partner) (ns : List ℕ) (n k : ℕ) → EachEnds o p ns → k < length ns → get_or ns k n ≡ n → EndsWithin o p n
ends_of o p [] n k each lt e = absurd (omega (arith, lt))
ends_of o p (x ∷ ns) n zero each lt e = subst (EndsWithin o p) e each.0
ends_of o p (x ∷ ns) n (suc k) each lt e = ends_of o p ns n k each.1 (omega (arith, lt)) e

-- ---- a relocation that was not rewritten

-- a relocation is at a position, and not rewritten there
pub record IsKeptAt (k : Loaded) (f : File) (s : InputSection) (i : ℕ) (r : InputRelocation) : Type 0 where
  pub there : slice_get s.relocations i ≡ Some r
  pub none : rewritten_start k f s (cursor_at k.layout.machine first_cursor s.relocations i) r ≡ None

pub none_if : (k : Loaded) (f : File) (s : InputSection) (i : ℕ) (r : InputRelocation) → ((start : ℕ) → IsRewritten k f s (cursor_at k.layout.machine first_cursor s.relocations i) r start → ⊥) → rewritten_start k f s (cursor_at k.layout.machine first_cursor s.relocations i) r ≡ None
none_if k f s i r never = by (rewritten_start k f s (cursor_at k.layout.machine first_cursor s.relocations i) r) refl
  where
    by : (o : Option ℕ) → rewritten_start k f s (cursor_at k.layout.machine first_cursor s.relocations i) r ≡ o → rewritten_start k f s (cursor_at k.layout.machine first_cursor s.relocations i) r ≡ None
    by None e = e
    by (Some start) e = absurd (never start (rewritten k f s (cursor_at k.layout.machine first_cursor s.relocations i) r start e))

-- the rewritten instruction that has a byte
written : (k : Loaded) (f : File) (s : InputSection) (b : ℕ) → (h : InRewritten k f s first_cursor s.relocations b) → IsRewritten k f s (cursor_at k.layout.machine first_cursor s.relocations h.position) h.relocation h.start
written k f s b h = rewritten k f s (cursor_at k.layout.machine first_cursor s.relocations h.position) h.relocation h.start h.is

-- it is not at a relocation that is kept
not_here : (k : Loaded) (f : File) (s : InputSection) (b i : ℕ) (r : InputRelocation) → IsKeptAt k f s i r → (h : InRewritten k f s first_cursor s.relocations b) → h.position ≡ i → ⊥
not_here k f s b i r kept h e =
    let there = subst (λ (j : ℕ). slice_get s.relocations j ≡ Some h.relocation) e h.there in
    let same : r ≡ h.relocation = some_is r h.relocation (sym kept.there ∙ there) in
    let is = subst (λ (j : ℕ). rewritten_start k f s (cursor_at k.layout.machine first_cursor s.relocations j) h.relocation ≡ Some h.start) e h.is in
    let here = subst (λ (q : InputRelocation). rewritten_start k f s (cursor_at k.layout.machine first_cursor s.relocations i) q ≡ Some h.start) (sym same) is in
    let both : None ≡ Some h.start = sym kept.none ∙ here in
    cc

-- an instruction's own byte is no place of another relocation's field
own_place : (k : Loaded) (item : Item) (r q : InputRelocation) (start : ℕ) (o : Instruction) (j : ℕ) (slot : Formula) → IsInstruction k.layout item r start o → Contains item.relocations q → formula_of k.layout.machine q.number ≡ Some slot → form_width slot.form ≡ 4 → IsOwnByte o j → start + j ≡ q.offset → ⊥
own_place k item r q start o j slot t listed known wide own at =
    let out = All-contains (λ (q : InputRelocation). (g : Formula) → formula_of k.layout.machine q.number ≡ Some g → (start + j < q.offset) ⊎ (q.offset + form_width g.form ≤ start + j)) item.relocations q (t.alone j own) listed slot known in
    elim out [
      | inl low ↦ omega (arith, low, at)
      | inr high ↦ omega (arith, high, at, wide)
    ]

-- before a field that is kept, no own byte of its instruction is in a rewritten one
before_kept : (k : Loaded) (f : File) (w : World) (m : Memory) (item : Item) (s : InputSection) → IsItem k f w m item s → IsChecked k f s → (r q : InputRelocation) (i start : ℕ) (o : Instruction) → IsInstruction k.layout item r start o → slice_get s.relocations i ≡ Some q → ((j : ℕ) → start + j < q.offset → j < o.field → IsOwnByte o j) → q.offset ≡ start + o.field
    → (b : ℕ) → start ≤ b → b < q.offset → (h : InRewritten k f s first_cursor s.relocations b) → h.position < i → ⊥
before_kept k f w m item s n checked r q i start o t there own place b low high h before =
    let c = cursor_at k.layout.machine first_cursor s.relocations h.position in
    let p = written k f s b h in
    let next = in_order k.layout.machine 0 s.relocations h.position i h.relocation q checked.order before h.there there in
    let past = h.high in
    let at : start + (h.relocation.offset - start) ≡ h.relocation.offset = omega (arith, low, past) in
    let inside : h.relocation.offset < q.offset = by_width h.relocation.offset (field_bytes k.layout.machine h.relocation.number) q.offset next (room_is k f s c h.relocation h.start p) in
    let field : h.relocation.offset - start < o.field = omega (arith, place, inside, low, past) in
    let known = formula_is k f s c h.relocation h.start p in
    let listed = subst (λ (rs : List InputRelocation). Contains rs h.relocation) (sym n.relocations) (listed_at s.relocations h.position h.relocation h.there) in
    own_place k item r h.relocation start o (h.relocation.offset - start) (formula (SlotDistance p.found.shaped.slot) (Plain 32 Signed)) t listed known refl (own (h.relocation.offset - start) (omega (arith, at, inside)) field) at
  where
    by_width : (a width next : ℕ) → a + width ≤ next → width ≡ 4 → a < next
    by_width a width next h e = omega (arith, h, e)

-- after a relocation, no byte of its instructions is in a rewritten one
after_kept : (k : Loaded) (f : File) (s : InputSection) (q : InputRelocation) (i b : ℕ) → slice_get s.relocations i ≡ Some q → b < reach k.layout.machine q → (h : InRewritten k f s first_cursor s.relocations b) → i < h.position → ⊥
after_kept k f s q i b there within h after =
    let past = reached k.layout.machine first_cursor s.relocations i h.position q after there in
    let clear = (written k f s b h).clear in
    let low = h.low in
    apart b (reach k.layout.machine q) _ h.start within past clear low
  where
    apart : (b reach clear start : ℕ) → b < reach → reach ≤ clear → clear ≤ start → start ≤ b → ⊥
    apart b reach clear start h x y z = omega (arith, h, x, y, z)

-- ---- a single instruction

no_partner : (o : Instruction) (j : ℕ) → o.partners ≡ [] → IsOutsidePartners j o.partners
no_partner o j e = subst (λ (ps : List Partner). IsOutsidePartners j ps) (sym e) tt

single_kept : (k : Loaded) (f : File) (w : World) (m : Memory) (item : Item) (s : InputSection) → IsItem k f w m item s → IsChecked k f s → (r : InputRelocation) (i start : ℕ) (o : Instruction) → k.layout.machine ≡ machine.X86_64 → IsKeptAt k f s i r → IsSingle k.layout item r start o → (j : ℕ) → IsOwnByte o j → InRewritten k f s first_cursor s.relocations (start + j) → ⊥
single_kept k f w m item s n checked r i start o on kept t j own h = by (pick (λ (o : Instruction). has_no_partner o.partners) EndsWithField (instructions_of machine.X86_64) each_ends o known (none o.partners t.single))
  where
    known : Contains (instructions_of machine.X86_64) o
    known = subst (λ (x : Machine). Contains (instructions_of x) o) on t.stands.known

    none : (ps : List Partner) → ps ≡ [] → has_no_partner ps ≡ true
    none ps e = rw e refl

    place : r.offset ≡ start + o.field
    place = t.stands.field

    own_before : (o.width ≡ 4) × (size_of o ≡ o.field + 4) → (j : ℕ) → start + j < r.offset → j < o.field → IsOwnByte o j
    own_before e j low field = record { inside = (let size = e.1 in omega (arith, size, field)); beside = inl field; apart = no_partner o j t.single }

    by_field : (o.width ≡ 4) × (size_of o ≡ o.field + 4) → ⊥
    by_field e =
        let before : j < o.field = elim own.beside [
          | inl low ↦ low
          | inr high ↦ absurd (let wide = e.0 in let size = e.1 in let inside = own.inside in omega (arith, high, wide, size, inside))
        ] in
        let low : start + j < r.offset = (let at = place in omega (arith, before, at)) in
        elim (cases_lt h.position i) [
          | inl lt ↦ before_kept k f w m item s n checked r r i start o t.stands kept.there (own_before e) place (start + j) (omega arith) low h lt
          | inr ge ↦ elim (cases_lt i h.position) [
            | inl gt ↦ after_kept k f s r i (start + j) kept.there (omega (arith, low)) h gt
            | inr le ↦ not_here k f s (start + j) i r kept h (omega (arith, ge, le))
          ]
        ]

    by_call : IsCall o → ⊥
    by_call e =
        let first = e.first in
        let short = e.short in
        let inside = own.inside in
        let at = place in
        let number = e.number r.number t.stands.number in
        let more : bytes_after r.number ≡ 2 = subst (λ (x : ℕ). bytes_after x ≡ 2) (sym number) refl in
        elim (cases_lt h.position i) [
          | inl lt ↦
              (let next = in_order k.layout.machine 0 s.relocations h.position i h.relocation r checked.order lt h.there kept.there in
              let past = h.high in
              omega (arith, next, past, first, at))
          | inr ge ↦ elim (cases_lt i h.position) [
            | inl gt ↦ after_kept k f s r i (start + j) kept.there (omega (arith, more, at, first, short, inside)) h gt
            | inr le ↦ not_here k f s (start + j) i r kept h (omega (arith, ge, le))
          ]
        ]

    by : EndsWithField o → ⊥
    by (inl e) = by_field e
    by (inr e) = by_call e

-- ---- a sequence

-- its relocations are kept
pub record IsKeptPair (k : Loaded) (f : File) (s : InputSection) (index : ℕ) (first second : InputRelocation) : Type 0 where
  pub first_kept : IsKeptAt k f s index first
  pub second_kept : IsKeptAt k f s (index + 1) second

pub pair_kept : (k : Loaded) (f : File) (w : World) (m : Memory) (item : Item) (s : InputSection) → IsItem k f w m item s → (first second : InputRelocation) (start : ℕ) (o : Instruction) → k.layout.machine ≡ machine.X86_64 → (q : IsGetterCall k.layout item first second start o) → IsKeptPair k f s q.has.index first second
pair_kept k f w m item s n first second start o on q = record {
  first_kept = record { there = listed; none = none_if k f s q.has.index first no_first };
  second_kept = record { there = next; none = none_if k f s (q.has.index + 1) second (λ from h. not_after_first k f s q.has.index first second from on listed begin h) };
}
  where
    listed : slice_get s.relocations q.has.index ≡ Some first
    listed = subst (λ (rs : List InputRelocation). slice_get rs q.has.index ≡ Some first) n.relocations q.has.listed

    next : slice_get s.relocations (q.has.index + 1) ≡ Some second
    next = subst (λ (rs : List InputRelocation). slice_get rs (q.has.index + 1) ≡ Some second) n.relocations q.has.next

    known : Contains (instructions_of machine.X86_64) o
    known = subst (λ (x : Machine). Contains (instructions_of x) o) on q.stands.known

    begin : begins_none first.number ≡ false
    begin = begins o first.number q.partner known q.calls q.stands.number

    no_first : (from : ℕ) → IsRewritten k f s (cursor_at k.layout.machine first_cursor s.relocations q.has.index) first from → ⊥
    no_first from h =
        let number = number_is k f s (cursor_at k.layout.machine first_cursor s.relocations q.has.index) first from h in
        let both : true ≡ false = sym h.found.shaped.alone ∙ ap begins_none number ∙ begin in
        cc

double_kept : (k : Loaded) (f : File) (w : World) (m : Memory) (item : Item) (s : InputSection) → IsItem k f w m item s → IsChecked k f s → (first second : InputRelocation) (start : ℕ) (o : Instruction) → k.layout.machine ≡ machine.X86_64 → IsGetterCall k.layout item first second start o → (j : ℕ) → IsOwnByte o j → InRewritten k f s first_cursor s.relocations (start + j) → ⊥
double_kept k f w m item s n checked first second start o on q j own h =
    elim (cases_lt h.position q.has.index) [
      | inl lt ↦ before lt
      | inr ge ↦ elim (cases_lt (q.has.index + 1) h.position) [
        | inl gt ↦ after_kept k f s second (q.has.index + 1) (start + j) kept.second_kept.there within h gt
        | inr le ↦ elim (cases_eq h.position q.has.index) [
          | inl e ↦ not_here k f s (start + j) q.has.index first kept.first_kept h e
          | inr other ↦ not_here k f s (start + j) (q.has.index + 1) second kept.second_kept h (one h.position q.has.index ge le other)
        ]
      ]
    ]
  where
    kept : IsKeptPair k f s q.has.index first second
    kept = pair_kept k f w m item s n first second start o on q

    known : Contains (instructions_of machine.X86_64) o
    known = subst (λ (x : Machine). Contains (instructions_of x) o) on q.stands.known

    several : are_several o.partners ≡ true
    several = rw q.calls refl

    partner : EachPartner o (q.partner ∷ [])
    partner = subst (λ (ps : List Partner). EachPartner o ps) q.calls (pick (λ (o : Instruction). are_several o.partners) (λ (o : Instruction). EachPartner o o.partners) (instructions_of machine.X86_64) each_partner o known several)

    one : (a b : ℕ) → b ≤ a → a ≤ b + 1 → (a ≡ b → ⊥) → a ≡ b + 1
    one a b low high other =
        elim (cases_lt b a) [
          | inl lt ↦ omega (arith, lt, high)
          | inr ge ↦ absurd (other (omega (arith, low, ge)))
        ]

    place : first.offset ≡ start + o.field
    place = q.stands.field

    own_before : (j : ℕ) → start + j < first.offset → j < o.field → IsOwnByte o j
    own_before j low field =
        let apart = partner.0.1 in
        let size = partner.0.2 in
        record { inside = omega (arith, field, size); beside = inl field; apart = subst (λ (ps : List Partner). IsOutsidePartners j ps) (sym q.calls) (inl (omega (arith, field, apart)), tt) }

    before : h.position < q.has.index → ⊥
    before lt =
        elim own.beside [
          | inl low ↦ (let at = place in before_kept k f w m item s n checked first first q.has.index start o q.stands kept.first_kept.there own_before place (start + j) (omega arith) (omega (arith, low, at)) h lt)
          | inr high ↦
              (let next = in_order k.layout.machine 0 s.relocations h.position q.has.index h.relocation first checked.order lt h.there kept.first_kept.there in
              let past = h.high in
              let at = place in
              omega (arith, next, past, high, at))
        ]

    within : start + j < reach k.layout.machine second
    within =
        let ends = ends_of o q.partner q.partner.numbers second.number q.has.number.0 partner.0.3 q.has.number.1 q.has.number.2 in
        let inside = own.inside in
        let at = q.has.field in
        subst (λ (x : Machine). start + j < second.offset + field_bytes x second.number + bytes_after second.number) (sym on) (omega (arith, ends, inside, at))

-- ---- own bytes

-- a byte in no field and in no rewritten instruction is the input's
pub input_byte : (k : Loaded) (f : File) (w : World) (m : Memory) (item : Item) (s : InputSection) → IsItem k f w m item s → IsChecked k f s → (b : ℕ) → b < length item.bytes → All (λ (r : InputRelocation). (b < r.offset) ⊎ (field_end k.layout.machine r ≤ b)) s.relocations → (InRewritten k f s first_cursor s.relocations b → ⊥) → IsInputByte w m item b
input_byte k f w m item s n checked b within out none =
    let short : b < length s.bytes = subst (λ (bs : List ℕ). b < length bs) n.bytes within in
    elim (byte_or_rewritten k f s first_cursor s.relocations b checked.bytes (omega arith) short out) [
      | inl known ↦
          (let address = n.address in
          let e : w.base + (s.address + b) ≡ place_at w item b = omega (arith, address) in
          ap (byte_in m) (sym e) ∙ n.follows.bytes (s.address + b) (slice_index s.bytes b) known ∙ ap (λ (bs : List ℕ). Some (slice_index bs b)) (sym n.bytes))
      | inr span ↦ absurd (none span)
    ]

never_on_aarch64 : (k : Loaded) (f : File) (s : InputSection) (b : ℕ) → k.layout.machine ≡ machine.AArch64 → InRewritten k f s first_cursor s.relocations b → ⊥
never_on_aarch64 k f s b on h =
    let both : machine.AArch64 ≡ machine.X86_64 = sym on ∙ (written k f s b h).code.on in
    cc

pub own_kept : (k : Loaded) (f : File) (w : World) (m : Memory) (item : Item) (s : InputSection) → IsItem k f w m item s → IsChecked k f s → (r : InputRelocation) (i start : ℕ) (o : Instruction) (first : InputRelocation) → IsKeptAt k f s i r → IsTemplate k.layout item r start o first → (j : ℕ) → IsOwnByte o j → InRewritten k f s first_cursor s.relocations (start + j) → ⊥
own_kept k f w m item s n checked r i start o first kept t j own h = by k.layout.machine refl t
  where
    by : (x : Machine) → k.layout.machine ≡ x → IsTemplate k.layout item r start o first → ⊥
    by machine.X86_64 on (inl one) = single_kept k f w m item s n checked r i start o on kept one.0 j own h
    by machine.X86_64 on (inr part) = (let pair = as_pair k.layout item first part.rest start o on part.sequence in double_kept k f w m item s n checked first pair.second start o on pair.pair j own h)
    by machine.AArch64 on other = never_on_aarch64 k f s (start + j) on h
