-- Laws of fields that are written one behind the other.
use Rattle.std.proofs.Common.{◌≡◌, ℕ, ◌+◌, ◌<◌, ◌≤◌, inl, inr, List, [], ◌∷◌, ◌++◌, length, get_or, map, if◌then◌else◌, refl, sym, ap, ◌∙◌, arith, subst}
use Rattle.std.specs.Prelude.{All, AllPairs, Option, Some, None, Ok, nat_lt, slice_get}
use Rattle.std.specs.List.{flat_map, range_with_len}
use Rattle.std.proofs.lemmas.Bool.{cases_lt, lt-ltb, le-ltb}
use Rattle.std.proofs.lemmas.List.{append-nil}
use Rattle.std.proofs.lemmas.List.Elements.{All-nil, All-cons, All-head, All-tail, All-push}
use Rattle.std.proofs.lemmas.List.Kept.{AllPairs-cons}
use Rattle.wild_words.specs.Overlay.{Piece, overlay, Disjoint, AreDisjoint}
use Rattle.wild_words.specs.Extents.{SharesNothing, least_extent}
use Rattle.wild_words.proofs.ExtentLemmas.{none-shared, beside-nothing}
use Rattle.wild_words.proofs.ListLemmas.{AllPairs-nil, AllPairs-head, AllPairs-tail, AllPairs-append, flat_map-numbers}
use Rattle.wild_types.specs.declared.input.InputRelocation.{InputRelocation}
use Rattle.wild_types.specs.Item.{Item}
use Rattle.wild_types.specs.declared.fault.Error.{Error}
use Rattle.wild_types.specs.declared.layout.Layout.{Layout}
use Rattle.wild_types.specs.Faults.{Refuses}
use Rattle.wild_reloc.specs.Field.{size_width}
use Rattle.wild_layout.specs.declared.decision.Decision.{Decision}
use Rattle.wild_layout.specs.declared.decision.Decision.TheVariants.{Nothing, Field, RelativeAddress, DynamicField, Rewritten, Partner}
use Rattle.wild_relax.specs.LinkedPattern.{pattern_size}
use Rattle.wild_layout.specs.Decide.{decide}
use Rattle.wild_layout.specs.Sites.{Written, written_by, field_site, template_site, site_by, site_of, site, sites, extent_of, shared_byte, MovesApart, item_bytes}
use Rattle.wild_layout.specs.Faults.{relocation_errors, relocations_errors}
use Rattle.wild_layout.specs.SectionPlaces.{FieldLies}
use Rattle.wild_layout.proofs.SiteLemmas.{LiesIn, length-field_site}
use Rattle.wild_sections.specs.WrittenDecisions.{put_decision, WrittenLies, DecisionLies, end_of_written, end_of_decision, IsNext}
use Rattle.wild_sections.proofs.DecidedLemmas.{none_refused, refuses_decision, decision_site, put_next}
use Rattle.wild_sections.proofs.InstructionLemmas.{length-instruction, decision_lies}

-- the first i relocations were written one behind the other
pub record HasAscended (l : Layout) (g f k : ℕ) (s : Item) (os : List InputRelocation) (i end_of_last_field : ℕ) (room : List ℕ) : Type 0 where
  pub none : flat_map (relocation_errors l g f k s os) (range_with_len 0 i) ≡ []
  pub bytes : room ≡ overlay (flat_map (site l s) (range_with_len 0 i)) s.bytes
  pub apart : AreDisjoint (length s.bytes) (flat_map (site l s) (range_with_len 0 i))
  pub ends : All (LiesIn end_of_last_field) (flat_map (site l s) (range_with_len 0 i))

pub not_begun : (l : Layout) (g f k : ℕ) (s : Item) (os : List InputRelocation) (room : List ℕ) → room ≡ s.bytes → HasAscended l g f k s os 0 0 room
not_begun l g f k s os room is = record {
  none = refl;
  bytes = is;
  apart = record { within = All-nil (λ (p : Piece). p.at + length p.bytes ≤ length s.bytes); apart = AllPairs-nil Disjoint };
  ends = All-nil (LiesIn 0);
}

-- one more piece, behind the others
pub record IsAfter (s : Item) (n next : ℕ) (ps : List Piece) : Type 0 where
  pub apart : AreDisjoint n ps
  pub ends : All (LiesIn next) ps

one_behind : (n end_of_last_field next : ℕ) (ps : List Piece) (p : Piece) → AreDisjoint n ps → All (LiesIn end_of_last_field) ps → end_of_last_field ≤ p.at → p.at + length p.bytes ≤ n → next ≡ p.at + length p.bytes → AreDisjoint n (ps ++ p ∷ [])
one_behind n end_of_last_field next ps p apart ends low inside is = record {
  within = All-push (λ (q : Piece). q.at + length q.bytes ≤ n) ps p apart.within inside;
  apart = AllPairs-append Disjoint ps (p ∷ []) apart.apart (AllPairs-cons Disjoint p [] (All-nil (Disjoint p)) (AllPairs-nil Disjoint)) (λ k d h. All-cons (Disjoint (get_or ps k d)) p [] (inl (let e = ends k d h in omega (arith, e, low))) (All-nil (Disjoint (get_or ps k d))));
}

ends_later : (end_of_last_field next : ℕ) (ps : List Piece) → end_of_last_field ≤ next → All (LiesIn end_of_last_field) ps → All (LiesIn next) ps
ends_later end_of_last_field next ps low ends = λ k d h. let e = ends k d h in omega (arith, e, low)

write_ascending_field : (s : Item) (n end_of_last_field next : ℕ) (ps : List Piece) (p : Piece) → AreDisjoint n ps → All (LiesIn end_of_last_field) ps → end_of_last_field ≤ p.at → p.at + length p.bytes ≤ n → next ≡ p.at + length p.bytes → IsAfter s n next (ps ++ p ∷ [])
write_ascending_field s n end_of_last_field next ps p apart ends low inside is = record {
  apart = one_behind n end_of_last_field next ps p apart ends low inside is;
  ends = All-push (LiesIn next) ps p (ends_later end_of_last_field next ps (omega (arith, low, is)) ends) (omega (arith, is));
}

pub site_behind : (s : Item) (end_of_last_field next : ℕ) (ps : List Piece) (r : InputRelocation) (d : Decision) → AreDisjoint (length s.bytes) ps → All (LiesIn end_of_last_field) ps → DecisionLies (length s.bytes) r d → end_of_decision end_of_last_field r d ≡ Some next → IsAfter s (length s.bytes) next (ps ++ site_of s r (Ok d))
site_behind s end_of_last_field next ps r d apart ends lies is = by_decision s end_of_last_field next ps r d apart ends lies is
  where
    from_end : (s : Item) (n end_of_last_field next size : ℕ) (ps : List Piece) (p : Piece) → AreDisjoint n ps → All (LiesIn end_of_last_field) ps → length p.bytes ≡ size → p.at + size ≤ n → (if nat_lt p.at end_of_last_field then None else Some (p.at + size)) ≡ Some next → IsAfter s n next (ps ++ p ∷ [])
    from_end s n end_of_last_field next size ps p apart ends long lies is =
        elim (cases_lt p.at end_of_last_field) [
          | inl l ↦ (let t = lt-ltb p.at end_of_last_field l in cc (rw t at is))
          | inr m ↦
              (let t = le-ltb p.at end_of_last_field m in
              let e : p.at + size ≡ next = cc (rw t at is) in
              write_ascending_field s n end_of_last_field next ps p apart ends m (omega (arith, long, lies)) (omega (arith, long, e)))
        ]

    by : (s : Item) (n end_of_last_field next : ℕ) (ps : List Piece) (r : InputRelocation) (o : Option Written) → AreDisjoint n ps → All (LiesIn end_of_last_field) ps → WrittenLies n r.offset o → end_of_written end_of_last_field r.offset o ≡ Some next → IsAfter s n next (ps ++ site_by s r o)
    by s n end_of_last_field next ps r None apart ends lies is =
        let e : end_of_last_field ≡ next = cc in
        subst (λ (qs : List Piece). IsAfter s n next qs) (sym (append-nil ps)) (record { apart = apart; ends = subst (λ (k : ℕ). All (LiesIn k) ps) e ends })
    by s n end_of_last_field next ps r (Some w) apart ends lies is = from_end s n end_of_last_field next (size_width w.size) ps (field_site s r.offset w.size w.value) apart ends (length-field_site s r.offset w.size w.value) lies is

    by_decision : (s : Item) (end_of_last_field next : ℕ) (ps : List Piece) (r : InputRelocation) (d : Decision) → AreDisjoint (length s.bytes) ps → All (LiesIn end_of_last_field) ps → DecisionLies (length s.bytes) r d → end_of_decision end_of_last_field r d ≡ Some next → IsAfter s (length s.bytes) next (ps ++ site_of s r (Ok d))
    by_decision s end_of_last_field next ps r Nothing apart ends lies is = by s (length s.bytes) end_of_last_field next ps r None apart ends lies is
    by_decision s end_of_last_field next ps r (Field z v) apart ends lies is = by s (length s.bytes) end_of_last_field next ps r (written_by (Field z v)) apart ends lies is
    by_decision s end_of_last_field next ps r (RelativeAddress v packed) apart ends lies is = by s (length s.bytes) end_of_last_field next ps r (written_by (RelativeAddress v packed)) apart ends lies is
    by_decision s end_of_last_field next ps r (DynamicField z n i a) apart ends lies is = by s (length s.bytes) end_of_last_field next ps r (written_by (DynamicField z n i a)) apart ends lies is
    by_decision s end_of_last_field next ps r (Rewritten row v) apart ends lies is = from_end s (length s.bytes) end_of_last_field next (pattern_size row) ps (template_site s r row v) apart ends (length-instruction s r row v lies) lies.ends is
    by_decision s end_of_last_field next ps r Partner apart ends lies is = by s (length s.bytes) end_of_last_field next ps r None apart ends lies is

-- one more relocation, written behind the others
pub ascended_more : (l : Layout) (g f k : ℕ) (s : Item) (os : List InputRelocation) (i end_of_last_field next : ℕ) (x : InputRelocation) (d : Decision) (now room : List ℕ) → slice_get s.relocations i ≡ Some x → All (FieldLies l.machine (length s.bytes)) s.relocations
    → HasAscended l g f k s os i end_of_last_field now → relocation_errors l g f k s os i ≡ [] → decide l s i ≡ Ok d → end_of_decision end_of_last_field x d ≡ Some next → room ≡ put_decision now x d → HasAscended l g f k s os (i + 1) next room
ascended_more l g f k s os i end_of_last_field next x d now room listed lies before none is reaches put =
    let ps = flat_map (site l s) (range_with_len 0 i) in
    let here = decision_site l s i x d listed is in
    let more : flat_map (site l s) (range_with_len 0 (i + 1)) ≡ ps ++ site_of s x (Ok d) = flat_map-numbers (site l s) i ∙ ap (λ (qs : List Piece). ps ++ qs) here in
    let lie = decision_lies l s i (length s.bytes) x d listed refl lies is in
    let behind = site_behind s end_of_last_field next ps x d before.apart before.ends lie reaches in
    let apart : AreDisjoint (length s.bytes) (ps ++ (site_of s x (Ok d) ++ [])) = subst (λ (qs : List Piece). AreDisjoint (length s.bytes) (ps ++ qs)) (sym (append-nil (site_of s x (Ok d)))) behind.apart in
    record {
      none = none_refused l g f k s os i before.none none;
      bytes = put ∙ ap (λ (old : List ℕ). put_decision old x d) before.bytes ∙ put_next s ps [] x d lie apart ∙ ap (λ (qs : List Piece). overlay qs s.bytes) (sym more);
      apart = subst (AreDisjoint (length s.bytes)) (sym more) behind.apart;
      ends = subst (λ (qs : List Piece). All (LiesIn next) qs) (sym more) behind.ends;
    }

-- the same of what a step of the walk gives
pub ascended_next : (l : Layout) (g f k : ℕ) (s : Item) (os : List InputRelocation) (i end_of_last_field next : ℕ) (o : Option ℕ) (now room : List ℕ) → All (FieldLies l.machine (length s.bytes)) s.relocations
    → HasAscended l g f k s os i end_of_last_field now → relocation_errors l g f k s os i ≡ [] → IsNext l s i end_of_last_field o now room → o ≡ Some next → HasAscended l g f k s os (i + 1) next room
ascended_next l g f k s os i end_of_last_field next o now room lies before none step is = ascended_more l g f k s os i end_of_last_field next step.relocation step.decision now room step.listed lies before none step.is (sym step.reached ∙ is) (step.written next is)

-- ---- all of them

beside_all : (p : Piece) (ps : List Piece) → All (Disjoint p) ps → All (SharesNothing (extent_of p)) (map extent_of ps)
beside_all p [] h = All-nil (SharesNothing (extent_of p))
beside_all p (q ∷ ps) h = All-cons (SharesNothing (extent_of p)) (extent_of q) (map extent_of ps) (beside-nothing (extent_of p) (extent_of q) (All-head (Disjoint p) q ps h)) (beside_all p ps (All-tail (Disjoint p) q ps h))

pairs_beside : (ps : List Piece) → AllPairs Disjoint ps → AllPairs SharesNothing (map extent_of ps)
pairs_beside [] h = AllPairs-nil SharesNothing
pairs_beside (p ∷ ps) h = AllPairs-cons SharesNothing (extent_of p) (map extent_of ps) (beside_all p ps (AllPairs-head Disjoint p ps h)) (pairs_beside ps (AllPairs-tail Disjoint p ps h))

nothing_shared : (n : ℕ) (ps : List Piece) → AreDisjoint n ps → least_extent (map extent_of ps) ≡ None
nothing_shared n ps h = none-shared (map extent_of ps) (pairs_beside ps h.apart)

-- the first fault of a relocation is that of all
pub ascending_refused : (l : Layout) (g f k : ℕ) (s : Item) (os : List InputRelocation) (i end_of_last_field : ℕ) (room : List ℕ) (e : Error) → i < length s.relocations → HasAscended l g f k s os i end_of_last_field room
    → Refuses e (relocation_errors l g f k s os i) → Refuses e (relocations_errors l g f k s os)
ascending_refused l g f k s os i end_of_last_field room e h before here = refuses_decision l g f k s os i e h before.none here

at_end : (l : Layout) (g f k : ℕ) (s : Item) (os : List InputRelocation) (i end_of_last_field : ℕ) (room : List ℕ) → i ≡ length s.relocations → HasAscended l g f k s os i end_of_last_field room → HasAscended l g f k s os (length s.relocations) end_of_last_field room
at_end l g f k s os i end_of_last_field room end h = subst (λ (n : ℕ). HasAscended l g f k s os n end_of_last_field room) end h

-- an item that was written so has none
pub ascending_passes : (l : Layout) (g f k : ℕ) (s : Item) (os : List InputRelocation) (i end_of_last_field : ℕ) (room : List ℕ) → i ≡ length s.relocations → HasAscended l g f k s os i end_of_last_field room → relocations_errors l g f k s os ≡ []
ascending_passes l g f k s os i end_of_last_field room end h = (at_end l g f k s os i end_of_last_field room end h).none

-- no byte of the input is written twice
pub ascending_apart : (l : Layout) (g f k : ℕ) (s : Item) (os : List InputRelocation) (i end_of_last_field : ℕ) (room : List ℕ) → i ≡ length s.relocations → MovesApart l s os → HasAscended l g f k s os i end_of_last_field room → shared_byte l s os ≡ None
ascending_apart l g f k s os i end_of_last_field room end moves h = moves.back (nothing_shared (length s.bytes) (sites l s) (at_end l g f k s os i end_of_last_field room end h).apart)

-- and its bytes are there
pub ascending_written : (l : Layout) (g f k : ℕ) (s : Item) (os : List InputRelocation) (i end_of_last_field : ℕ) (room : List ℕ) → i ≡ length s.relocations → HasAscended l g f k s os i end_of_last_field room → room ≡ item_bytes l s
ascending_written l g f k s os i end_of_last_field room end h = (at_end l g f k s os i end_of_last_field room end h).bytes
