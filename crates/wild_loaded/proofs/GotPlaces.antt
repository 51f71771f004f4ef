-- The words of the table of slots ascend, those of the pair that stands once ahead of all others.
use Rattle.wild_loaded.proofs.Common.{◌≡◌, ℕ, ◌+◌, ◌*◌, ◌≤◌, Bool, true, false, List, [], ◌∷◌, ◌++◌, length, replicate, refl, sym, ap, ◌∙◌, arith, subst, Option, Some, None, All, AllPairs, if◌then◌else◌, unwrap_or, slice_get, length-append, length-replicate, flat_map-append, All-nil, All-cons, All-append, AllPairs-cons, SlotWord, Number, Address, InRelrGot, General, Plt, Layout, is_executable, setting_of, minus, next, word_size, storage_at, storage_words, start_of, IsLaidOut, World, word, length-word, AllPairs-nil, AllPairs-append, end_of, Ascend, place_in, IsLocatedAt, IsWordStored, SlotsAreStored}
use Rattle.wild_reloc.specs.declared.dynamic.DynamicRelocationKind.TheVariants as entry_kinds
use Rattle.wild_types.specs.declared.part.Role.TheVariants as role
use Rattle.wild_slot.specs.declared.slot_parts.WordPart.TheVariants as words
use Rattle.wild_slot.specs.SlotParts.{slot_words}
use Rattle.wild_plan_rules.specs.SlotPlaces.{first_free}
use Rattle.wild_slots.specs.AscendingPlaces.{LiesWithin, PlacesAscend}
use Rattle.wild_loaded.proofs.SlotSites.{of_site, sites_at, all_sites}
use Rattle.wild_loaded.proofs.SlotFillings.{pair_sites, got_sites, made_of, words_by_sites}
use Rattle.wild_loaded.proofs.SlotsKnown.{IsFilledSlots}
use Rattle.wild_loaded.proofs.TableRanges.{table_ends}

-- ---- the pair

-- two words, each in the table of slots
pub record IsPair (relr : Bool) (ws : List SlotWord) : Type 0 where
  pub first : SlotWord
  pub second : SlotWord
  pub are : ws ≡ first ∷ second ∷ []
  pub one : (at : ℕ) → place_in words.Got at first ≡ Some at
  pub two : (at : ℕ) → place_in words.Got at second ≡ Some at
  pub written : (at : ℕ) → length (slot_words words.Got relr at (first ∷ second ∷ [])) ≡ 2

pub pair_is : (l : Layout) (at : ℕ) → l.tlsld ≡ Some at → IsPair l.options.relr (storage_words l)
pair_is l at e = subst (λ (o : Option ℕ). IsPair l.options.relr (storage_at (setting_of l) o)) (sym e) (by_kind (is_executable l.kind) 1 (minus (setting_of l).thread_pointer l.tls.start))
  where
    by_kind : (b : Bool) (n m : ℕ) → IsPair l.options.relr (if b then Number n ∷ Number m ∷ [] else General (record { kind = entry_kinds.DtpMod; symbol = 0; addend = 0 }) ∷ Number 0 ∷ [])
    by_kind true n m = record { first = Number n; second = Number m; are = refl; one = λ at. refl; two = λ at. refl; written = λ at. refl }
    by_kind false n m = record { first = General (record { kind = entry_kinds.DtpMod; symbol = 0; addend = 0 }); second = Number 0; are = refl; one = λ at. refl; two = λ at. refl; written = λ at. refl }

-- it stands ahead of all slots
pub pair_ahead : (l : Layout) (at : ℕ) → IsLaidOut l → l.tlsld ≡ Some at → at + 16 ≤ (first_free l).got
pair_ahead l at laid e =
    let p = pair_is l at e in
    let at_is : at ≡ start_of l role.Got + word_size * l.got_header = laid.slots.pair at e in
    let two : length (slot_words words.Got l.options.relr (unwrap_or l.tlsld 0) (storage_words l)) ≡ 2 = ap (λ (ws : List SlotWord). length (slot_words words.Got l.options.relr (unwrap_or l.tlsld 0) ws)) p.are ∙ p.written (unwrap_or l.tlsld 0) in
    let whole = length-append (replicate l.got_header zeroed) (slot_words words.Got l.options.relr (unwrap_or l.tlsld 0) (storage_words l)) in
    let front = length-replicate l.got_header zeroed in
    omega (arith, at_is, two, whole, front)
  where
    zeroed : ℕ
    zeroed = 0

-- its words stand in the table
in_got : (l : Layout) (w : World) (at : ℕ) (d : SlotWord) → ((k : ℕ) → place_in words.Got k d ≡ Some k) → IsWordStored l w at d → (start_of l role.Got ≤ at) × (at + 8 ≤ end_of l role.Got)
in_got l w at d own s = by_word d own s
  where
    ends : (v : ℕ) → IsLocatedAt l role.Got at (word 8 v) → (start_of l role.Got ≤ at) × (at + 8 ≤ end_of l role.Got)
    ends v st = (let n = length-word 8 v in let to = st.to in (st.from, omega (arith, n, to)))

    by_word : (d : SlotWord) → ((k : ℕ) → place_in words.Got k d ≡ Some k) → IsWordStored l w at d → (start_of l role.Got ≤ at) × (at + 8 ≤ end_of l role.Got)
    by_word (Number n) own s = ends s.value s.stands
    by_word (Address a) own s = ends s.value s.stands
    by_word (General e) own s = ends s.value s.stands
    by_word (Plt e) own s = ends s.value s.stands
    by_word (InRelrGot a) own s = absurd (let e = own 0 in cc)

-- ---- all words

abbrev pub got_places : Layout → List ℕ
got_places l = made_of (place_in words.Got) (got_sites l)

-- the places of the pair
pub record PairAscends (l : Layout) : Type 0 where
  pub within : All (LiesWithin 8 (start_of l role.Got) (end_of l role.Got)) (made_of (place_in words.Got) (pair_sites l))
  pub ascend : AllPairs (λ (p q : ℕ). p + 8 ≤ q) (made_of (place_in words.Got) (pair_sites l))
  pub ahead : All (λ (p : ℕ). p + 8 ≤ (first_free l).got) (made_of (place_in words.Got) (pair_sites l))

pair_ascends : (l : Layout) (w : World) → SlotsAreStored → IsFilledSlots l w → PairAscends l
pair_ascends l w law h = by_place l.tlsld refl
  where
    none : made_of (place_in words.Got) (pair_sites l) ≡ [] → PairAscends l
    none e = record {
      within = subst (All (LiesWithin 8 (start_of l role.Got) (end_of l role.Got))) (sym e) (All-nil (LiesWithin 8 (start_of l role.Got) (end_of l role.Got)));
      ascend = subst (AllPairs (λ (p q : ℕ). p + 8 ≤ q)) (sym e) (AllPairs-nil (λ (p q : ℕ). p + 8 ≤ q));
      ahead = subst (All (λ (p : ℕ). p + 8 ≤ (first_free l).got)) (sym e) (All-nil (λ (p : ℕ). p + 8 ≤ (first_free l).got));
    }

    two : (at : ℕ) → made_of (place_in words.Got) (pair_sites l) ≡ at ∷ (at + 8) ∷ [] → start_of l role.Got ≤ at → at + 16 ≤ end_of l role.Got → at + 16 ≤ (first_free l).got → PairAscends l
    two at e from to ahead =
        let P = LiesWithin 8 (start_of l role.Got) (end_of l role.Got) in
        let R : ℕ → ℕ → Type 0 = λ p q. p + 8 ≤ q in
        let Q : ℕ → Type 0 = λ p. p + 8 ≤ (first_free l).got in
        let a : All P (at ∷ (at + 8) ∷ []) = All-cons P at ((at + 8) ∷ []) (record { from = from; to = omega (arith, to) }) (All-cons P (at + 8) [] (record { from = omega (arith, from); to = omega (arith, to) }) (All-nil P)) in
        let b : AllPairs R (at ∷ (at + 8) ∷ []) = AllPairs-cons R at ((at + 8) ∷ []) (All-cons (R at) (at + 8) [] (omega arith) (All-nil (R at))) (AllPairs-cons R (at + 8) [] (All-nil (R (at + 8))) (AllPairs-nil R)) in
        let c : All Q (at ∷ (at + 8) ∷ []) = All-cons Q at ((at + 8) ∷ []) (omega (arith, ahead)) (All-cons Q (at + 8) [] (omega (arith, ahead)) (All-nil Q)) in
        record { within = subst (All P) (sym e) a; ascend = subst (AllPairs R) (sym e) b; ahead = subst (All Q) (sym e) c }

    of_two : (at : ℕ) (x y : SlotWord) → place_in words.Got at x ≡ Some at → place_in words.Got (next at) y ≡ Some (next at) → made_of (place_in words.Got) (sites_at at (x ∷ y ∷ [])) ≡ at ∷ next at ∷ []
    of_two at x y e f = rw (e, f) refl

    by_place : (o : Option ℕ) → l.tlsld ≡ o → PairAscends l
    by_place None e = none (ap (λ (ws : List SlotWord). made_of (place_in words.Got) (sites_at (unwrap_or l.tlsld 0) ws)) (ap (λ (o : Option ℕ). storage_at (setting_of l) o) e))
    by_place (Some at) e =
        let p = pair_is l at e in
        let zeroth : slice_get (storage_words l) 0 ≡ Some p.first = ap (λ (ws : List SlotWord). slice_get ws 0) p.are in
        let oneth : slice_get (storage_words l) 1 ≡ Some p.second = ap (λ (ws : List SlotWord). slice_get ws 1) p.are in
        let here : at + word_size * 0 ≡ at = omega arith in
        let a = subst (λ (k : ℕ). IsWordStored l w k p.first) here (law.pair l w at 0 p.first h.keeps h.kind h.legal h.laid h.whole e zeroth) in
        let b = law.pair l w at 1 p.second h.keeps h.kind h.legal h.laid h.whole e oneth in
        let ends = b.ends in
        let at_is : unwrap_or l.tlsld 0 ≡ at = ap (λ (o : Option ℕ). unwrap_or o 0) e in
        let later : next at ≡ at + 8 = omega (arith, ends) in
        let sites : made_of (place_in words.Got) (pair_sites l) ≡ at ∷ (at + 8) ∷ [] =
        ap (λ (ws : List SlotWord). made_of (place_in words.Got) (sites_at (unwrap_or l.tlsld 0) ws)) p.are
        ∙ ap (λ (k : ℕ). made_of (place_in words.Got) (sites_at k (p.first ∷ p.second ∷ []))) at_is
        ∙ of_two at p.first p.second (p.one at) (p.two (next at))
        ∙ ap (λ (k : ℕ). at ∷ k ∷ []) later in
        let inner = in_got l w at p.first p.one a in
        let outer = in_got l w (at + word_size * 1) p.second p.two b in
        let from = inner.0 in
        let to = outer.1 in
        let ahead = pair_ahead l at h.laid e in
        two at sites (omega (arith, from)) (omega (arith, to)) ahead

-- the places of all words of the table ascend
pub got_ascends : (l : Layout) (w : World) → PlacesAscend → SlotsAreStored → IsFilledSlots l w → Ascend 8 (start_of l role.Got) (end_of l role.Got) (got_places l)
got_ascends l w ascends law h =
    let p = pair_ascends l w law h in
    let low = (table_ends l role.Got refl h.laid).1 in
    let a = (ascends l h.whole.order (omega (arith, low))).table in
    let all = subst (λ (xs : List ℕ). Ascend word_size (first_free l).got (end_of l role.Got) xs) (words_by_sites words.Got l) a in
    let xs = made_of (place_in words.Got) (pair_sites l) in
    let ys = made_of (place_in words.Got) (all_sites l) in
    let P = LiesWithin 8 (start_of l role.Got) (end_of l role.Got) in
    let joined : xs ++ ys ≡ got_places l = sym (flat_map-append (of_site (place_in words.Got)) (pair_sites l) (all_sites l)) in
    let both : Ascend 8 (start_of l role.Got) (end_of l role.Got) (xs ++ ys) = record {
      within = All-append P xs ys p.within (λ k d m. (let b = all.within k d m in let from = b.from in record { from = omega (arith, from); to = b.to }));
      ascend = AllPairs-append (λ (p q : ℕ). p + 8 ≤ q) xs ys p.ascend all.ascend (λ k d m. (λ i e n. (let front = p.ahead k d m in let behind = (all.within i e n).from in omega (arith, front, behind))));
    } in
    subst (Ascend 8 (start_of l role.Got) (end_of l role.Got)) joined both
