-- Laws of what the decisions on a section's relocations make.
use Rattle.std.proofs.Common.{◌≡◌, ℕ, zero, suc, ◌+◌, ◌<◌, ◌≤◌, ◌⊎◌, inl, inr, Bool, true, false, List, [], ◌∷◌, ◌++◌, length, get_or, take, drop, map, max, nat_le, ◌&&◌, slice_get, slice_range, refl, sym, ap, ◌∙◌, arith, subst}
use Rattle.std.specs.Prelude.{All, AllPairs, Option, Some, None, Result, Ok, option_to_list, ◌-◌}
use Rattle.std.specs.List.{flat_map, range_with_len}
use Rattle.std.proofs.lemmas.Bool.{and_parts, leb-true, le-leb, lt-leb}
use Rattle.std.proofs.lemmas.List.{take_more, append-nil, append_assoc, take_all, length-take, length-append}
use Rattle.std.proofs.lemmas.List.Elements.{All-nil, All-cons}
use Rattle.std.proofs.lemmas.Option.{slice_get-get_or, get_or_from_slice_get, slice_get_within}
use Rattle.wild_words.specs.Words.{place}
use Rattle.wild_words.specs.Overlay.{Piece, overlay, AreDisjoint}
use Rattle.wild_words.specs.declared.extents.Extent.{Extent}
use Rattle.wild_words.specs.Extents.{SharesNothing, least_extent}
use Rattle.wild_words.proofs.ExtentLemmas.{none-shared, beside-nothing}
use Rattle.wild_words.proofs.OrderLemmas.{own_range_next}
use Rattle.wild_words.proofs.ListLemmas.{flat_map-numbers, flat_map-same}
use Rattle.wild_words.proofs.Basics.{slice_get_inside}
use Rattle.wild_types.specs.declared.input.InputRelocation.{InputRelocation}
use Rattle.wild_types.specs.Item.{Item}
use Rattle.wild_types.specs.declared.fault.Error.{Error}
use Rattle.wild_types.specs.declared.layout.Layout.{Layout}
use Rattle.wild_reloc.specs.Field.{size_width, size_written}
use Rattle.wild_layout.specs.declared.decision.Decision.{Decision}
use Rattle.wild_layout.specs.declared.decision.Decision.TheVariants.{Nothing, Field, RelativeAddress, DynamicField, Rewritten, Partner}
use Rattle.wild_relax.specs.LinkedPattern.{pattern_size, template_of}
use Rattle.wild_layout.specs.Decide.{decide}
use Rattle.wild_layout.specs.Sites.{Written, written_by, field_site, template_site, site_by, site_of, site, extent_back, extents_by, input_extents, shared_byte, MovesApart}
use Rattle.wild_types.specs.Faults.{Refuses, Answers}
use Rattle.wild_layout.specs.Faults.{relocation_errors, at_section, overlap_errors, relocations_errors, item_errors}
use Rattle.wild_layout.specs.SectionPlaces.{FieldLies}
use Rattle.wild_layout.proofs.SiteLemmas.{length-field_site, sites_apart}
use Rattle.wild_layout.proofs.FaultLemmas.{no_overlap}
use Rattle.wild_sections.specs.WrittenDecisions.{decided_sites, written_extent, decided_extent, extent_by, extent_at, decided_extents, ascends, put_written, put_decision, DecisionLies, DecisionsLie, AreDecided}
use Rattle.wild_sections.proofs.InstructionLemmas.{length-instruction, decision_lies}
use Rattle.wild_sections.proofs.PieceLemmas.{overlay-append}
use Rattle.wild_sections.proofs.FaultLemmas.{refuses_number, Refuses-front, Refuses-after}

-- ---- fields in order

-- each begins at reach, or behind
behind_reach : (reach : ℕ) (es : List Extent) → ascends reach es ≡ true → All (λ (e : Extent). reach ≤ e.start) es
unfolding ascends
behind_reach reach [] h = All-nil (λ (e : Extent). reach ≤ e.start)
behind_reach reach (e ∷ es) h =
    let both = and_parts (nat_le reach e.start) (ascends (max reach e.end) es) h in
    let rest = behind_reach (max reach e.end) es both.1 in
    All-cons (λ (f : Extent). reach ≤ f.start) e es (leb-true _ _ both.0) (λ k d l. let m = rest k d l in omega (arith, m))

ascending_apart : (reach : ℕ) (es : List Extent) → ascends reach es ≡ true → AllPairs SharesNothing es
unfolding ascends
ascending_apart reach [] h = λ i j d l m. absurd (omega arith)
ascending_apart reach (e ∷ es) h =
    let both = and_parts (nat_le reach e.start) (ascends (max reach e.end) es) h in
    pairs reach e es (behind_reach (max reach e.end) es both.1) (ascending_apart (max reach e.end) es both.1)
  where
    pairs : (reach : ℕ) (e : Extent) (es : List Extent) → All (λ (f : Extent). max reach e.end ≤ f.start) es → AllPairs SharesNothing es → AllPairs SharesNothing (e ∷ es)
    pairs reach e es first rest zero zero d l m = absurd (omega arith)
    pairs reach e es first rest zero (suc j) d l m = let n = first j d (omega arith) in beside-nothing e (get_or es j d) (inl (omega (arith, n)))
    pairs reach e es first rest (suc i) zero d l m = absurd (omega arith)
    pairs reach e es first rest (suc i) (suc j) d l m = rest i j d (omega arith) (omega arith)

pub ascending_shares_none : (es : List Extent) → ascends 0 es ≡ true → least_extent es ≡ None
ascending_shares_none es h = none-shared es (ascending_apart 0 es h)

-- ---- lists of decisions

pub sites-append : (s : Item) (rs qs : List InputRelocation) (ds es : List Decision) → length rs ≡ length ds → decided_sites s (rs ++ qs) (ds ++ es) ≡ decided_sites s rs ds ++ decided_sites s qs es
unfolding decided_sites
sites-append s [] qs [] es h = refl
sites-append s [] qs (d ∷ ds) es h = absurd (omega arith)
sites-append s (r ∷ rs) qs [] es h = absurd (omega arith)
sites-append s (r ∷ rs) qs (d ∷ ds) es h = ap (λ (ps : List Piece). site_of s r (Ok d) ++ ps) (sites-append s rs qs ds es (omega arith)) ∙ sym (append_assoc (site_of s r (Ok d)) (decided_sites s rs ds) (decided_sites s qs es))

one_site : (s : Item) (r : InputRelocation) (d : Decision) → decided_sites s (r ∷ []) (d ∷ []) ≡ site_of s r (Ok d)
unfolding decided_sites
one_site s r d = append-nil (site_of s r (Ok d))

length-both : {X Y : Type 0} (xs : List X) (ys : List Y) (i : ℕ) → length ys ≡ length xs → length (take i xs) ≡ length (take i ys)
length-both xs ys i h = let a = length-take i xs in let b = length-take i ys in omega (arith, a, b, h)

-- one more decision of two lists
pub sites-more : (s : Item) (rs : List InputRelocation) (ds : List Decision) (i : ℕ) (r : InputRelocation) (d : Decision) → length ds ≡ length rs → i < length ds
    → decided_sites s (take (i + 1) rs) (take (i + 1) ds) ≡ decided_sites s (take i rs) (take i ds) ++ site_of s (get_or rs i r) (Ok (get_or ds i d))
sites-more s rs ds i r d n h =
    ap (λ (qs : List InputRelocation). decided_sites s qs (take (i + 1) ds)) (take_more rs i r (omega arith))
    ∙ ap (λ (es : List Decision). decided_sites s (take i rs ++ get_or rs i r ∷ []) es) (take_more ds i d h)
    ∙ sites-append s (take i rs) (get_or rs i r ∷ []) (take i ds) (get_or ds i d ∷ []) (length-both rs ds i n)
    ∙ ap (λ (ps : List Piece). decided_sites s (take i rs) (take i ds) ++ ps) (one_site s (get_or rs i r) (get_or ds i d))

-- ---- extents by their places

-- those from a place on
extents-from : (f : ℕ → List Extent) (i n reach : ℕ) (all : Bool) → i < n → ascends reach (flat_map f (range_with_len i (n - i))) ≡ all → ascends reach (f i ++ flat_map f (range_with_len (i + 1) (n - (i + 1)))) ≡ all
extents-from f i n reach all h before = (let e : n - i ≡ suc (n - (i + 1)) = omega (arith, h) in subst (λ (k : ℕ). ascends reach (flat_map f (range_with_len i k)) ≡ all) e before)

ascends-from : (f : ℕ → List Extent) (i n reach : ℕ) (all : Bool) (o : Option Extent) → i < n → option_to_list o ≡ f i → ascends reach (flat_map f (range_with_len i (n - i))) ≡ all
    → ascends reach (option_to_list o ++ flat_map f (range_with_len (i + 1) (n - (i + 1)))) ≡ all
ascends-from f i n reach all o h is before = subst (λ (es : List Extent). ascends reach (es ++ flat_map f (range_with_len (i + 1) (n - (i + 1)))) ≡ all) (sym is) (extents-from f i n reach all h before)

pub ascends-none : (f : ℕ → List Extent) (i n reach : ℕ) (all : Bool) (o : Option Extent) → i < n → option_to_list o ≡ f i → o ≡ None → ascends reach (flat_map f (range_with_len i (n - i))) ≡ all
    → ascends reach (flat_map f (range_with_len (i + 1) (n - (i + 1)))) ≡ all
ascends-none f i n reach all o h is none before =
    subst (λ (x : Option Extent). ascends reach (option_to_list x ++ flat_map f (range_with_len (i + 1) (n - (i + 1)))) ≡ all) none (ascends-from f i n reach all o h is before)

pub ascends-some : (f : ℕ → List Extent) (i n reach next : ℕ) (all : Bool) (o : Option Extent) (e : Extent) → i < n → option_to_list o ≡ f i → o ≡ Some e → reach ≤ e.start → next ≡ max reach e.end → ascends reach (flat_map f (range_with_len i (n - i))) ≡ all
    → ascends next (flat_map f (range_with_len (i + 1) (n - (i + 1)))) ≡ all
unfolding ascends
ascends-some f i n reach next all o e h is some low more before =
    let rest = flat_map f (range_with_len (i + 1) (n - (i + 1))) in
    let here : (nat_le reach e.start && ascends (max reach e.end) rest) ≡ all = subst (λ (x : Option Extent). ascends reach (option_to_list x ++ rest) ≡ all) some (ascends-from f i n reach all o h is before) in
    let t = le-leb _ _ low in
    let then : ascends (max reach e.end) rest ≡ all = subst (λ (b : Bool). (b && ascends (max reach e.end) rest) ≡ all) t here in
    subst (λ (k : ℕ). ascends k rest ≡ all) (sym more) then

pub ascends-fails : (f : ℕ → List Extent) (i n reach : ℕ) (all : Bool) (o : Option Extent) (e : Extent) → i < n → option_to_list o ≡ f i → o ≡ Some e → e.start < reach → ascends reach (flat_map f (range_with_len i (n - i))) ≡ all → false ≡ all
unfolding ascends
ascends-fails f i n reach all o e h is some low before =
    let rest = flat_map f (range_with_len (i + 1) (n - (i + 1))) in
    let here : (nat_le reach e.start && ascends (max reach e.end) rest) ≡ all = subst (λ (x : Option Extent). ascends reach (option_to_list x ++ rest) ≡ all) some (ascends-from f i n reach all o h is before) in
    let t : nat_le reach e.start ≡ false = lt-leb _ _ low in
    subst (λ (b : Bool). (b && ascends (max reach e.end) rest) ≡ all) t here

-- behind the last there is none
pub ascends-end : (f : ℕ → List Extent) (i n reach : ℕ) (all : Bool) → n ≤ i → ascends reach (flat_map f (range_with_len i (n - i))) ≡ all → true ≡ all
unfolding ascends
ascends-end f i n reach all h before = (let e : n - i ≡ 0 = omega (arith, h) in subst (λ (k : ℕ). ascends reach (flat_map f (range_with_len i k)) ≡ all) e before)

pub extents-some : (f : ℕ → List Extent) (i : ℕ) (o : Option Extent) (e : Extent) (before now : List Extent) → option_to_list o ≡ f i → o ≡ Some e → before ≡ flat_map f (range_with_len 0 i) → now ≡ before ++ e ∷ [] → now ≡ flat_map f (range_with_len 0 (i + 1))
extents-some f i o e before now is some was pushed =
    pushed ∙ ap (λ (es : List Extent). es ++ e ∷ []) was ∙ ap (λ (es : List Extent). flat_map f (range_with_len 0 i) ++ es) (ap option_to_list (sym some) ∙ is) ∙ sym (flat_map-numbers f i)

pub extents-none : (f : ℕ → List Extent) (i : ℕ) (o : Option Extent) (before : List Extent) → option_to_list o ≡ f i → o ≡ None → before ≡ flat_map f (range_with_len 0 i) → before ≡ flat_map f (range_with_len 0 (i + 1))
extents-none f i o before is none was =
    was ∙ sym (append-nil (flat_map f (range_with_len 0 i))) ∙ ap (λ (es : List Extent). flat_map f (range_with_len 0 i) ++ es) (ap option_to_list (sym none) ∙ is) ∙ sym (flat_map-numbers f i)

-- where one stands
pub extent_is : (rs os : List InputRelocation) (ds : List Decision) (i : ℕ) (o r : InputRelocation) (d : Decision) → slice_get os i ≡ Some o → slice_get rs i ≡ Some r → slice_get ds i ≡ Some d → option_to_list (decided_extent o.offset r d) ≡ extent_at rs os ds i
extent_is rs os ds i o r d origin listed made = rw (origin, listed, made) refl

-- the decisions before a place, at it and behind
sites-split : (s : Item) (rs : List InputRelocation) (ds : List Decision) (i : ℕ) (r : InputRelocation) (d : Decision) → length ds ≡ length rs → i < length ds
    → decided_sites s rs ds ≡ decided_sites s (take i rs) (take i ds) ++ (site_of s (get_or rs i r) (Ok (get_or ds i d)) ++ decided_sites s (drop (suc i) rs) (drop (suc i) ds))
unfolding decided_sites
sites-split s [] [] i r d n h = absurd (omega arith)
sites-split s [] (x ∷ ds) i r d n h = absurd (omega arith)
sites-split s (q ∷ rs) [] i r d n h = absurd (omega arith)
sites-split s (q ∷ rs) (x ∷ ds) zero r d n h = refl
sites-split s (q ∷ rs) (x ∷ ds) (suc i) r d n h =
    ap (λ (ps : List Piece). site_of s q (Ok x) ++ ps) (sites-split s rs ds i r d (omega arith) (omega arith))
    ∙ sym (append_assoc (site_of s q (Ok x)) (decided_sites s (take i rs) (take i ds)) (site_of s (get_or rs i r) (Ok (get_or ds i d)) ++ decided_sites s (drop (suc i) rs) (drop (suc i) ds)))

-- where the sites are in the input
one_extent_is : (s : Item) (from : ℕ) (r : InputRelocation) (d : Decision) → DecisionLies (length s.bytes) r d → option_to_list (decided_extent from r d) ≡ map (extent_back from r.offset) (site_of s r (Ok d))
one_extent_is s from r d lies = by_decision s r d lies
  where
    by : (s : Item) (r : InputRelocation) (o : Option Written) → option_to_list (written_extent from o) ≡ map (extent_back from r.offset) (site_by s r o)
    by s r None = refl
    by s r (Some w) = (let n = length-field_site s r.offset w.size w.value in let e : r.offset + from - r.offset ≡ from = omega arith in rw (n, e) refl)

    by_decision : (s : Item) (r : InputRelocation) (d : Decision) → DecisionLies (length s.bytes) r d → option_to_list (decided_extent from r d) ≡ map (extent_back from r.offset) (site_of s r (Ok d))
    by_decision s r Nothing lies = refl
    by_decision s r (Field z v) lies = by s r (written_by (Field z v))
    by_decision s r (RelativeAddress v packed) lies = by s r (written_by (RelativeAddress v packed))
    by_decision s r (DynamicField z n i a) lies = by s r (written_by (DynamicField z n i a))
    by_decision s r (Rewritten row v) lies = let n = length-instruction s r row v lies in rw n refl
    by_decision s r Partner lies = refl

pub lies_in_bytes : (l : Layout) (s : Item) (n : ℕ) → n ≡ length s.bytes → All (FieldLies l.machine n) s.relocations → All (FieldLies l.machine (length s.bytes)) s.relocations
lies_in_bytes l s n whole lies = subst (λ (m : ℕ). All (FieldLies l.machine m) s.relocations) whole lies

-- what was decided of the relocations lies where the clauses say
pub decisions_lie : (l : Layout) (s : Item) (ds : List Decision) (n : ℕ) → AreDecided l s ds → n ≡ length s.bytes → All (FieldLies l.machine n) s.relocations → DecisionsLie n s.relocations ds
decisions_lie l s ds n h whole lies = λ i r d listed made. decision_lies l s i n r d listed whole lies (h.each i d made)

-- ---- deciding

pub decision_site : (l : Layout) (s : Item) (i : ℕ) (r : InputRelocation) (d : Decision) → slice_get s.relocations i ≡ Some r → decide l s i ≡ Ok d → site l s i ≡ site_of s r (Ok d)
unfolding site
decision_site l s i r d e is = rw (e, is) refl

none_there : (l : Layout) (s : Item) (i : ℕ) → slice_get s.relocations i ≡ None → site l s i ≡ []
unfolding site
none_there l s i is = rw is refl

pub shared_is : (l : Layout) (s : Item) (os : List InputRelocation) (ds : List Decision) → length os ≡ length s.relocations → AreDecided l s ds → All (FieldLies l.machine (length s.bytes)) s.relocations → least_extent (decided_extents s.relocations os ds) ≡ shared_byte l s os
unfolding decided_extents
shared_is l s os ds count h lies =
    ap (λ (n : ℕ). least_extent (flat_map (extent_at s.relocations os ds) (range_with_len 0 n))) h.count
    ∙ ap least_extent (flat_map-same (extent_at s.relocations os ds) (input_extents l s os) (range_with_len 0 (length s.relocations)) (λ i. by_listed i (slice_get s.relocations i) refl))
  where
    past : (a : Option InputRelocation) (b : Option Decision) → extent_by a None b ≡ extents_by a None []
    past None b = refl
    past (Some o) b = refl

    by_listed : (i : ℕ) (o : Option InputRelocation) → slice_get s.relocations i ≡ o → extent_at s.relocations os ds i ≡ input_extents l s os i
    by_listed i None is = rw (is, none_there l s i is) (past (slice_get os i) (slice_get ds i))
    by_listed i (Some r) is =
        let low = slice_get_within s.relocations i r is in
        let few = h.count in
        let there = slice_get_inside os i (omega (arith, low, count)) in
        let made = slice_get_inside ds i (omega (arith, low, few)) in
        let decided = h.each i made.0 made.1 in
        let lie = decision_lies l s i (length s.bytes) r made.0 is refl lies decided in
        let e = decision_site l s i r made.0 is decided in
        let here = one_extent_is s there.0.offset r made.0 lie in
        rw (there.1, is, made.1, e) here

pub refuses_decision : (l : Layout) (g f k : ℕ) (s : Item) (os : List InputRelocation) (i : ℕ) (e : Error) → i < length s.relocations → flat_map (relocation_errors l g f k s os) (range_with_len 0 i) ≡ []
    → Refuses e (relocation_errors l g f k s os i) → Refuses e (flat_map (relocation_errors l g f k s os) (range_with_len 0 (length s.relocations)))
refuses_decision l g f k s os i e h none here = refuses_number (relocation_errors l g f k s os) 0 (length s.relocations) i i e h (omega arith) none here

pub none_refused : (l : Layout) (g f k : ℕ) (s : Item) (os : List InputRelocation) (i : ℕ) → flat_map (relocation_errors l g f k s os) (range_with_len 0 i) ≡ [] → relocation_errors l g f k s os i ≡ [] → flat_map (relocation_errors l g f k s os) (range_with_len 0 (i + 1)) ≡ []
none_refused l g f k s os i none here = flat_map-numbers (relocation_errors l g f k s os) i ∙ ap (λ (es : List Error). es ++ relocation_errors l g f k s os i) none ∙ here

-- the first i relocations were decided
pub record HasDecided (l : Layout) (s : Item) (i : ℕ) (ds : List Decision) : Type 0 where
  pub count : length ds ≡ i
  pub each : (k : ℕ) (d : Decision) → slice_get ds k ≡ Some d → decide l s k ≡ Ok d
  pub same : decided_sites s (take i s.relocations) ds ≡ flat_map (site l s) (range_with_len 0 i)

pub none_decided : (l : Layout) (s : Item) (ds : List Decision) → ds ≡ [] → HasDecided l s 0 ds
unfolding decided_sites
none_decided l s [] e = record { count = refl; each = λ k d m. cc; same = refl }
none_decided l s (d ∷ ds) e = cc

-- one behind the others is the last, or among them
behind_others : (ds : List Decision) (d e : Decision) (k : ℕ) → slice_get (ds ++ d ∷ []) k ≡ Some e → ((k ≡ length ds) × (d ≡ e)) ⊎ (slice_get ds k ≡ Some e)
behind_others [] d e zero h = inl (refl, cc)
behind_others [] d e (suc k) h = cc
behind_others (x ∷ ds) d e zero h = inr h
behind_others (x ∷ ds) d e (suc k) h =
    elim (behind_others ds d e k h) [
      | inl b ↦ (let n = b.0 in inl (omega (arith, n), b.1))
      | inr b ↦ inr b
    ]

pub decided_more : (l : Layout) (s : Item) (ds next : List Decision) (i : ℕ) (d : Decision) → i < length s.relocations → HasDecided l s i ds → next ≡ ds ++ d ∷ [] → decide l s i ≡ Ok d → HasDecided l s (i + 1) next
decided_more l s ds next i d h before pushed is = subst (HasDecided l s (i + 1)) (sym pushed) (by l s ds i d h before is)
  where
    by : (l : Layout) (s : Item) (ds : List Decision) (i : ℕ) (d : Decision) → i < length s.relocations → HasDecided l s i ds → decide l s i ≡ Ok d → HasDecided l s (i + 1) (ds ++ d ∷ [])
    by l s ds i d h before is =
        let count = before.count in
        let b = length-append ds (d ∷ []) in
        let there = slice_get_inside s.relocations i h in
        let r = there.0 in
        let a = length-take i s.relocations in
        let n : length (take i s.relocations) ≡ length ds = omega (arith, a, h, count) in
        let more : take (i + 1) s.relocations ≡ take i s.relocations ++ r ∷ [] = take_more s.relocations i r h ∙ ap (λ (x : InputRelocation). take i s.relocations ++ x ∷ []) (get_or_from_slice_get s.relocations i r r there.1) in
        record {
          count = omega (arith, b, count);
          each = λ k e m.
              elim (behind_others ds d e k m) [
                | inl last ↦ (subst (λ (j : ℕ). decide l s j ≡ Ok e) (sym (last.0 ∙ count)) (is ∙ ap (λ (x : Decision). Ok x) last.1))
                | inr among ↦ before.each k e among
              ];
          same =
              ap (λ (qs : List InputRelocation). decided_sites s qs (ds ++ d ∷ [])) more
              ∙ sites-append s (take i s.relocations) (r ∷ []) ds (d ∷ []) n
              ∙ ap (λ (ps : List Piece). ps ++ decided_sites s (r ∷ []) (d ∷ [])) before.same
              ∙ ap (λ (ps : List Piece). flat_map (site l s) (range_with_len 0 i) ++ ps) (one_site s r d ∙ sym (decision_site l s i r d there.1 is))
              ∙ sym (flat_map-numbers (site l s) i);
        }

-- all were decided
pub all_decided : (l : Layout) (s : Item) (ds : List Decision) (i : ℕ) → i ≡ length s.relocations → HasDecided l s i ds → AreDecided l s ds
all_decided l s ds i end h = record {
  count = h.count ∙ end;
  each = h.each;
  same = ap (λ (rs : List InputRelocation). decided_sites s rs ds) (sym (take_all i s.relocations (omega (arith, end)))) ∙ h.same ∙ ap (λ (k : ℕ). flat_map (site l s) (range_with_len 0 k)) end;
}

-- the faults of an item whose relocations have none
pub overlap_refused : (l : Layout) (g f k : ℕ) (s : Item) (os : List InputRelocation) (ending : List Error) (ds : List Decision) (e : Error) → length os ≡ length s.relocations → AreDecided l s ds → All (FieldLies l.machine (length s.bytes)) s.relocations → relocations_errors l g f k s os ≡ [] → ending ≡ []
    → Refuses e (overlap_errors (at_section g f k) (least_extent (decided_extents s.relocations os ds))) → Refuses e (item_errors l g f k s os ending)
overlap_refused l g f k s os ending ds e count dec lies none ended h =
    let h' : Refuses e (overlap_errors (at_section g f k) (shared_byte l s os)) = subst (λ (o : Option ℕ). Refuses e (overlap_errors (at_section g f k) o)) (shared_is l s os ds count dec lies) h in
    Refuses-after e (relocations_errors l g f k s os) (ending ++ overlap_errors (at_section g f k) (shared_byte l s os)) none (Refuses-after e ending (overlap_errors (at_section g f k) (shared_byte l s os)) ended h')

pub ending_refused : (l : Layout) (g f k : ℕ) (s : Item) (os : List InputRelocation) (ending : List Error) (e : Error) → relocations_errors l g f k s os ≡ [] → Refuses e ending → Refuses e (item_errors l g f k s os ending)
ending_refused l g f k s os ending e none h =
    Refuses-after e (relocations_errors l g f k s os) (ending ++ overlap_errors (at_section g f k) (shared_byte l s os)) none (Refuses-front e ending (overlap_errors (at_section g f k) (shared_byte l s os)) h)

pub relocation_refused : (l : Layout) (g f k : ℕ) (s : Item) (os : List InputRelocation) (ending : List Error) (e : Error) → Refuses e (relocations_errors l g f k s os) → Refuses e (item_errors l g f k s os ending)
relocation_refused l g f k s os ending e h = Refuses-front e (relocations_errors l g f k s os) (ending ++ overlap_errors (at_section g f k) (shared_byte l s os)) h

pub item_passes : (l : Layout) (g f k : ℕ) (s : Item) (os : List InputRelocation) (ending : List Error) (ds : List Decision) → length os ≡ length s.relocations → AreDecided l s ds → All (FieldLies l.machine (length s.bytes)) s.relocations → relocations_errors l g f k s os ≡ [] → ending ≡ []
    → overlap_errors (at_section g f k) (least_extent (decided_extents s.relocations os ds)) ≡ [] → item_errors l g f k s os ending ≡ []
item_passes l g f k s os ending ds count dec lies none ended h =
    let h' : overlap_errors (at_section g f k) (shared_byte l s os) ≡ [] = subst (λ (o : Option ℕ). overlap_errors (at_section g f k) o ≡ []) (shared_is l s os ds count dec lies) h in
    rw (none, ended) h'

-- an item whose relocations have no fault and share no byte has that of its frames
pub ending_answers : (l : Layout) (g f k : ℕ) (s : Item) (os : List InputRelocation) (ending : List Error) (r : Result (Unit {0}) Error) → relocations_errors l g f k s os ≡ [] → shared_byte l s os ≡ None → Answers r ending → Answers r (item_errors l g f k s os ending)
ending_answers l g f k s os ending r none shared h = rw (none, shared, append-nil ending) h

-- ---- writing

-- a piece over bytes in which those before it were written, made of the bytes that it is over
over_own : (s : Item) (ps rest : List Piece) (p : Piece) (n : ℕ) (make : List ℕ → List ℕ) → length p.bytes ≡ n → p.bytes ≡ make (slice_range s.bytes p.at (p.at + n)) → AreDisjoint (length s.bytes) (ps ++ (p ∷ rest))
    → place p.at (make (slice_range (overlay ps s.bytes) p.at (p.at + n))) (overlay ps s.bytes) ≡ overlay (ps ++ p ∷ []) s.bytes
over_own s ps rest p n make long made apart =
    let own : slice_range (overlay ps s.bytes) p.at (p.at + length p.bytes) ≡ slice_range s.bytes p.at (p.at + length p.bytes) = own_range_next p ps rest s.bytes apart in
    let own' : slice_range (overlay ps s.bytes) p.at (p.at + n) ≡ slice_range s.bytes p.at (p.at + n) = subst (λ (k : ℕ). slice_range (overlay ps s.bytes) p.at (p.at + k) ≡ slice_range s.bytes p.at (p.at + k)) long own in
    ap (λ (old : List ℕ). place p.at (make old) (overlay ps s.bytes)) own'
    ∙ ap (λ (bs : List ℕ). place p.at bs (overlay ps s.bytes)) (sym made)
    ∙ sym (overlay-append ps (p ∷ []) s.bytes)

-- a relocation written over bytes in which those before it were written
pub put_next : (s : Item) (ps rest : List Piece) (r : InputRelocation) (d : Decision) → DecisionLies (length s.bytes) r d → AreDisjoint (length s.bytes) (ps ++ (site_of s r (Ok d) ++ rest)) → put_decision (overlay ps s.bytes) r d ≡ overlay (ps ++ site_of s r (Ok d)) s.bytes
put_next s ps rest r d lies apart = by_decision s ps rest r d lies apart
  where
    by : (s : Item) (ps rest : List Piece) (r : InputRelocation) (o : Option Written) → AreDisjoint (length s.bytes) (ps ++ (site_by s r o ++ rest)) → put_written (overlay ps s.bytes) r.offset o ≡ overlay (ps ++ site_by s r o) s.bytes
    by s ps rest r None apart = ap (λ (qs : List Piece). overlay qs s.bytes) (sym (append-nil ps))
    by s ps rest r (Some w) apart = over_own s ps rest (field_site s r.offset w.size w.value) (size_width w.size) (size_written w.size w.value) (length-field_site s r.offset w.size w.value) refl apart

    by_decision : (s : Item) (ps rest : List Piece) (r : InputRelocation) (d : Decision) → DecisionLies (length s.bytes) r d → AreDisjoint (length s.bytes) (ps ++ (site_of s r (Ok d) ++ rest)) → put_decision (overlay ps s.bytes) r d ≡ overlay (ps ++ site_of s r (Ok d)) s.bytes
    by_decision s ps rest r Nothing lies apart = by s ps rest r None apart
    by_decision s ps rest r (Field z v) lies apart = by s ps rest r (written_by (Field z v)) apart
    by_decision s ps rest r (RelativeAddress v packed) lies apart = by s ps rest r (written_by (RelativeAddress v packed)) apart
    by_decision s ps rest r (DynamicField z n i a) lies apart = by s ps rest r (written_by (DynamicField z n i a)) apart
    by_decision s ps rest r (Rewritten row v) lies apart = over_own s ps rest (template_site s r row v) (pattern_size row) (template_of row v) (length-instruction s r row v lies) refl apart
    by_decision s ps rest r Partner lies apart = by s ps rest r None apart

-- one step of a loop over all
pub step_lies : (s : Item) (ds : List Decision) (i m n : ℕ) (r : InputRelocation) (d : Decision) → length ds ≡ length s.relocations → i < length ds → r ≡ get_or s.relocations i r → m ≡ n → DecisionsLie n s.relocations ds → DecisionLies m r (get_or ds i d)
step_lies s ds i m n r d count h read long lie =
    let listed : slice_get s.relocations i ≡ Some r = slice_get-get_or s.relocations i r (omega (arith, count, h)) ∙ ap (λ (q : InputRelocation). Some q) (sym read) in
    let here = lie i r (get_or ds i d) listed (slice_get-get_or ds i d h) in
    subst (λ (j : ℕ). DecisionLies j r (get_or ds i d)) (sym long) here

own_step : (s : Item) (ds : List Decision) (i : ℕ) (r : InputRelocation) (d : Decision) (room next : List ℕ) → length ds ≡ length s.relocations → i < length ds → DecisionsLie (length s.bytes) s.relocations ds → AreDisjoint (length s.bytes) (decided_sites s s.relocations ds)
    → room ≡ overlay (decided_sites s (take i s.relocations) (take i ds)) s.bytes → next ≡ put_decision room (get_or s.relocations i r) (get_or ds i d) → next ≡ overlay (decided_sites s (take (i + 1) s.relocations) (take (i + 1) ds)) s.bytes
own_step s ds i r d room next count h lie apart before is =
    let split = subst (λ (ps : List Piece). AreDisjoint (length s.bytes) ps) (sites-split s s.relocations ds i r d count h) apart in
    let lies = lie i (get_or s.relocations i r) (get_or ds i d) (slice_get-get_or s.relocations i r (omega (arith, count, h))) (slice_get-get_or ds i d h) in
    is ∙ ap (λ (old : List ℕ). put_decision old (get_or s.relocations i r) (get_or ds i d)) before
    ∙ put_next s (decided_sites s (take i s.relocations) (take i ds)) (decided_sites s (drop (suc i) s.relocations) (drop (suc i) ds)) (get_or s.relocations i r) (get_or ds i d) lies split
    ∙ ap (λ (ps : List Piece). overlay ps s.bytes) (sym (sites-more s s.relocations ds i r d count h))

pub step_put : (s : Item) (ds : List Decision) (i : ℕ) (r : InputRelocation) (d : Decision) (first room next : List ℕ) → length ds ≡ length s.relocations → i < length ds → r ≡ get_or s.relocations i r → first ≡ s.bytes → DecisionsLie (length first) s.relocations ds → AreDisjoint (length first) (decided_sites s s.relocations ds)
    → room ≡ overlay (decided_sites s (take i s.relocations) (take i ds)) first → next ≡ put_decision room r (get_or ds i d) → next ≡ overlay (decided_sites s (take (i + 1) s.relocations) (take (i + 1) ds)) first
step_put s ds i r d first room next count h read whole lie apart before is =
    let apart' = subst (λ (xs : List ℕ). AreDisjoint (length xs) (decided_sites s s.relocations ds)) whole apart in
    let lie' = subst (λ (xs : List ℕ). DecisionsLie (length xs) s.relocations ds) whole lie in
    let before' = before ∙ ap (overlay (decided_sites s (take i s.relocations) (take i ds))) whole in
    let is' = is ∙ ap (λ (q : InputRelocation). put_decision room q (get_or ds i d)) read in
    own_step s ds i r d room next count h lie' apart' before' is' ∙ ap (overlay (decided_sites s (take (i + 1) s.relocations) (take (i + 1) ds))) (sym whole)

-- the decided sites are apart, where no byte of the input is of two of them
pub decided_apart : (l : Layout) (s : Item) (os : List InputRelocation) (ds : List Decision) (g f k n : ℕ) → MovesApart l s os → AreDecided l s ds → n ≡ length s.bytes → All (FieldLies l.machine n) s.relocations → overlap_errors (at_section g f k) (least_extent (decided_extents s.relocations os ds)) ≡ []
    → AreDisjoint n (decided_sites s s.relocations ds)
decided_apart l s os ds g f k n moves h len lies none =
    let lies' = subst (λ (m : ℕ). All (FieldLies l.machine m) s.relocations) len lies in
    let apart = sites_apart l s os lies' moves (sym (shared_is l s os ds moves.count h lies') ∙ no_overlap _ _ none) in
    subst (λ (m : ℕ). AreDisjoint m (decided_sites s s.relocations ds)) (sym len) (subst (λ (ps : List Piece). AreDisjoint (length s.bytes) ps) (sym h.same) apart)
