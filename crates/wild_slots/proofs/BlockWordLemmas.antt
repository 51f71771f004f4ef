-- Words of a block of slots: only the first word of a symbol is one, and it is the only one where flags and slots agree.
use Rattle.wild_slots.proofs.Common.{◌≡◌, ℕ, inl, inr, ◌⊎◌, Bool, true, false, List, [], ◌∷◌, ◌≤◌, length, Some, None, All, refl, sym, ap, ◌∙◌, subst, arith, Option, not, ◌&&◌, if◌then◌else◌, is_some, cases_Bool, and_parts, All-nil, All-cons, All-head, All-tail, All-append, All-weaker, Resolution, Symbol, Layout, Setting, SlotWord, Number, Address, InRelrGot, General, Plt, SlotItem, Word, Stub, Fault, is_position_independent, has_flag, ifunc, got_of, has_thread_slot, setting_of, slot, items_at, with_items, no_slot, add_item, thread_items, plain_item, stub_items, address_items, slots_of, resolved_slots, begins_relr_got, distance_if_too_far, HasItsFlags}
use Rattle.std.proofs.lemmas.Bool.{or_cases, not-true}
use Rattle.std.proofs.lemmas.List.{nil_from_length}
use Rattle.wild_types.specs.declared.symbol.ValueFlags.{ValueFlags}
use Rattle.wild_types.specs.Flags.{has_link_time_address, canonical_plt, ifunc_got_for_address, canonical_plt_got_for_address}
use Rattle.wild_types.specs.SymbolSlots.{has_dynamic_symbol}
use Rattle.wild_slot.specs.Slots.{named}
use Rattle.wild_plan_rules.specs.SlotFlags.{takes_block_word, second_slot_fits}
use Rattle.wild_needs.proofs.SlotBlockLemmas.{behind_plain}
use Rattle.wild_slots.proofs.ItemLemmas.{ItemHas, More-items, All-words, none_more, of_stub}
use Rattle.wild_slots.proofs.SlotLemmas.{IsOther, Shape, shape, threads_other}

-- the word is none of a block
abbrev pub NotInBlock : SlotWord → Type 0
NotInBlock (InRelrGot a) = ⊥
NotInBlock other = Unit {0}

-- no word behind the first one is of a block
abbrev pub FirstAlone : List SlotWord → Type 0
FirstAlone [] = Unit {0}
FirstAlone (w ∷ ws) = All NotInBlock ws

others_not : (s : Setting) (r : Resolution) (w : SlotWord) → IsOther s r w → NotInBlock w
others_not s r (Number n) h = tt
others_not s r (Address a) h = tt
others_not s r (InRelrGot a) h = h
others_not s r (General e) h = tt
others_not s r (Plt e) h = tt

all_not : (s : Setting) (r : Resolution) (ws : List SlotWord) → All (IsOther s r) ws → FirstAlone ws
all_not s r [] a = tt
all_not s r (w ∷ ws) a = All-weaker (IsOther s r) NotInBlock (λ v h. others_not s r v h) ws (All-tail (IsOther s r) w ws a)

alone_by : (s : Setting) (far : Option ℕ) (r : Resolution) (ws : List SlotWord) → Shape s far r ws → FirstAlone ws
alone_by s far r ws (inl a) = all_not s r ws a
alone_by s far r ws (inr led) = subst FirstAlone (sym led.is) (All-weaker (IsOther s r) NotInBlock (λ v h. others_not s r v h) led.rest led.others)

pub first_alone : (l : Layout) (s : Symbol) → FirstAlone (slots_of l s).words
unfolding slots_of
first_alone l s = by_resolution s.resolution
  where
    by_resolution : (o : Option Resolution) → FirstAlone (resolved_slots l o).words
    by_resolution None = tt
    by_resolution (Some r) = alone_by (setting_of l) (distance_if_too_far l r) r (slot (setting_of l) (distance_if_too_far l r) r).words (shape (setting_of l) (distance_if_too_far l r) r)

-- words that do not begin with one of the block have none
pub none_in_block : (ws : List SlotWord) → begins_relr_got ws ≡ false → FirstAlone ws → All NotInBlock ws
none_in_block [] h a = All-nil NotInBlock
none_in_block (Number n ∷ ws) h a = All-cons NotInBlock (Number n) ws tt a
none_in_block (Address n ∷ ws) h a = All-cons NotInBlock (Address n) ws tt a
none_in_block (InRelrGot n ∷ ws) h a = cc
none_in_block (General e ∷ ws) h a = All-cons NotInBlock (General e) ws tt a
none_in_block (Plt e ∷ ws) h a = All-cons NotInBlock (Plt e) ws tt a

-- words that begin with one of the block
pub record Begins (ws : List SlotWord) : Type 0 where
  pub value : ℕ
  pub rest : List SlotWord
  pub is : ws ≡ InRelrGot value ∷ rest

pub begins : (ws : List SlotWord) → begins_relr_got ws ≡ true → Begins ws
begins [] h = cc
begins (InRelrGot a ∷ ws) h = record { value = a; rest = ws; is = refl }
begins (Number n ∷ ws) h = cc
begins (Address n ∷ ws) h = cc
begins (General e ∷ ws) h = cc
begins (Plt e ∷ ws) h = cc

-- ---- no word behind a word of the block

-- what is known of a symbol whose first word is one of the block
pub record Packs (s : Setting) (r : Resolution) : Type 0 where
  pub canonical : has_flag r.flags canonical_plt ≡ false
  pub seen : has_dynamic_symbol r.flags ≡ false
  pub indirect : has_flag r.flags ifunc ≡ false
  pub moves : (is_position_independent s.kind && has_link_time_address r.flags) ≡ true
  pub packed : s.relr ≡ true

not_word : (o : Option ℕ) (by : ℕ → SlotWord) (a : ℕ) → ((d : ℕ) → NotInBlock (by d)) → named o (λ d. Word (by d)) ≡ Word (InRelrGot a) → ⊥
not_word None by a h e = cc
not_word (Some d) by a h e = let P : SlotItem → Type 0 = ItemHas NotInBlock in subst P e (h d)

packs : (s : Setting) (r : Resolution) (a : ℕ) → plain_item s r ≡ Word (InRelrGot a) → Packs s r
packs s r a h =
    elim (cases_Bool (has_flag r.flags canonical_plt)) [
      | inl t ↦ absurd (not_word r.dynamic_symbol_index _ a (λ d. tt) (rw t at h))
      | inr c ↦ elim (cases_Bool (has_dynamic_symbol r.flags)) [
        | inl t ↦ absurd (not_word r.dynamic_symbol_index _ a (λ d. tt) (rw (c, t) at h))
        | inr d ↦ elim (cases_Bool (has_flag r.flags ifunc)) [
          | inl t ↦ cc (rw (c, d, t) at h)
          | inr i ↦ elim (cases_Bool (is_position_independent s.kind && has_link_time_address r.flags)) [
            | inr f ↦ cc (rw (c, d, i, f) at h)
            | inl m ↦ elim (cases_Bool s.relr) [
              | inl q ↦ record { canonical = c; seen = d; indirect = i; moves = m; packed = q }
              | inr f ↦ cc (rw (c, d, i, m, f) at h)
            ]
          ]
        ]
      ]
    ]

-- without second slots nothing stands behind the word
no_seconds : (s : Setting) (far : Option ℕ) (r : Resolution) → has_flag r.flags ifunc_got_for_address ≡ false → has_flag r.flags canonical_plt_got_for_address ≡ false → All (ItemHas (λ w. ⊥)) (behind_plain s far r)
no_seconds s far r i c =
    let N : SlotWord → Type 0 = λ w. ⊥ in
    rw (i, c) (All-append (ItemHas N) (stub_items far r.plt_address) [] (of_stub N far r.plt_address) (All-nil (ItemHas N)))

-- the words where no second slot is there: those of thread-local data, or one at most
abbrev pub Single : Setting → Resolution → List SlotWord → Type 0
Single s r ws = All (IsOther s r) ws ⊎ (length ws ≤ 1)

single : (s : Setting) (far : Option ℕ) (r : Resolution) → All (ItemHas (λ w. ⊥)) (behind_plain s far r) → Single s r (slot s far r).words
unfolding slot
single s far r a = by_place r.got_address
  where
    led : (x : SlotItem) → length (with_items no_slot (x ∷ behind_plain s far r)).words ≤ 1
    led (Word w) = let e = none_more (w ∷ []) _ (More-items (λ v. ⊥) (add_item no_slot (Word w)) (behind_plain s far r) a) in rw e (omega arith)
    led Stub = let e = none_more [] _ (More-items (λ v. ⊥) (add_item no_slot Stub) (behind_plain s far r) a) in rw e (omega arith)
    led (Fault f) = let e = none_more [] _ (More-items (λ v. ⊥) (add_item no_slot (Fault f)) (behind_plain s far r) a) in rw e (omega arith)

    by_slot : (b : Bool) → has_thread_slot r.flags ≡ b → Single s r (with_items no_slot (if b then thread_items s r else address_items s far r)).words
    by_slot true t = inl (All-words (IsOther s r) (thread_items s r) (threads_other s r))
    by_slot false t = inr (led (plain_item s r))

    by_place : (o : Option ℕ) → Single s r (with_items no_slot (items_at s far r o)).words
    by_place None = inr (omega arith)
    by_place (Some got) = by_slot (has_thread_slot r.flags) refl

-- ---- the only word

not_other : (s : Setting) (r : Resolution) (ws rest : List SlotWord) (a : ℕ) → ws ≡ InRelrGot a ∷ rest → All (IsOther s r) ws → ⊥
not_other s r ws rest a e h = All-head (IsOther s r) (InRelrGot a) rest (subst (All (IsOther s r)) e h)

first_is : (w v : SlotWord) (ws vs us : List SlotWord) → us ≡ w ∷ ws → us ≡ v ∷ vs → w ≡ v
first_is w v ws vs us h k = cc

-- the test of a slot that packs, by what is known
takes : (l : Layout) (s : Symbol) (r : Resolution) (at : ℕ) → got_of s ≡ Some at → r.flags ≡ s.flags → has_thread_slot r.flags ≡ false → Packs (setting_of l) r → takes_block_word l s ≡ true
takes l s r at g e t p =
    let P : ValueFlags → Type 0 = λ f. (is_some (got_of s) && (not (has_thread_slot f) && (not (has_flag f canonical_plt) && (not (has_dynamic_symbol f) && (not (has_flag f ifunc) && (l.options.relr && (is_position_independent l.kind && has_link_time_address f))))))) ≡ true in
    let c = p.canonical in
    let d = p.seen in
    let i = p.indirect in
    let m = p.moves in
    let q = p.packed in
    subst P e (rw (g, t, c, d, i, q, m) refl)

-- then it has no second slot
no_second : (l : Layout) (s : Symbol) → takes_block_word l s ≡ true → second_slot_fits l s ≡ true → (has_flag s.flags ifunc_got_for_address ≡ false) × (has_flag s.flags canonical_plt_got_for_address ≡ false)
no_second l s t h =
    elim (or_cases (not (has_flag s.flags ifunc_got_for_address) && not (has_flag s.flags canonical_plt_got_for_address)) (not (takes_block_word l s)) h) [
      | inl a ↦ (let p = and_parts (not (has_flag s.flags ifunc_got_for_address)) (not (has_flag s.flags canonical_plt_got_for_address)) a in
          (not-true (has_flag s.flags ifunc_got_for_address) p.0, not-true (has_flag s.flags canonical_plt_got_for_address) p.1))
      | inr b ↦ (let f = not-true (takes_block_word l s) b in cc)
    ]

-- a symbol whose words begin with one of the block has no other
pub only_word : (l : Layout) (s : Symbol) (at a : ℕ) (rest : List SlotWord) → HasItsFlags s → second_slot_fits l s ≡ true → got_of s ≡ Some at → (slots_of l s).words ≡ InRelrGot a ∷ rest → rest ≡ []
unfolding slots_of
only_word l s at a rest f second g h = by_resolution s.resolution refl h
  where
    short : (ws : List SlotWord) → ws ≡ InRelrGot a ∷ rest → length ws ≤ 1 → rest ≡ []
    short ws e lt = let n = ap (λ (vs : List SlotWord). length vs) e in nil_from_length rest (omega (arith, n, lt))

    by_single : (r : Resolution) (ws : List SlotWord) → ws ≡ InRelrGot a ∷ rest → Single (setting_of l) r ws → rest ≡ []
    by_single r ws e (inl others) = absurd (not_other (setting_of l) r ws rest a e others)
    by_single r ws e (inr lt) = short ws e lt

    by_shape : (r : Resolution) → s.resolution ≡ Some r → (ws : List SlotWord) → ws ≡ InRelrGot a ∷ rest → Shape (setting_of l) (distance_if_too_far l r) r ws → Single (setting_of l) r (slot (setting_of l) (distance_if_too_far l r) r).words
    by_shape r is ws e (inl others) = absurd (not_other (setting_of l) r ws rest a e others)
    by_shape r is ws e (inr led) =
        let w : led.first ≡ InRelrGot a = first_is led.first (InRelrGot a) led.rest rest ws led.is e in
        let p = packs (setting_of l) r a (led.plain ∙ ap Word w) in
        let t = takes l s r at g (f r is) led.slot p in
        let n = no_second l s t second in
        let i = ap (λ (v : ValueFlags). has_flag v ifunc_got_for_address) (f r is) ∙ n.0 in
        let c = ap (λ (v : ValueFlags). has_flag v canonical_plt_got_for_address) (f r is) ∙ n.1 in
        single (setting_of l) (distance_if_too_far l r) r (no_seconds (setting_of l) (distance_if_too_far l r) r i c)

    by_resolution : (o : Option Resolution) → s.resolution ≡ o → (resolved_slots l o).words ≡ InRelrGot a ∷ rest → rest ≡ []
    by_resolution None is e = cc
    by_resolution (Some r) is e =
        let ws = (slot (setting_of l) (distance_if_too_far l r) r).words in
        by_single r ws e (by_shape r is ws e (shape (setting_of l) (distance_if_too_far l r) r))
