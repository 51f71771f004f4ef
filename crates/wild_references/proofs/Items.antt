-- Each reference of a loaded section holds.
use Rattle.wild_references.proofs.Common.{◌≡◌, ℕ, suc, inl, inr, ap, ◌∙◌, arith, Some, Contains, slice_get-get_or, Machine, InputRelocation, Layout, Decision, Nothing, Field, RelativeAddress, DynamicField, Rewritten, Partner, HasDecision, World, Memory, KeepsInstruction, IsKeptReference, IsLoadedItem, Item, MustHold, UsesOwnSymbolOnly, IsOmitted, HoldsRewritten, InstructionsAreKept}
use Rattle.wild_references.specs.Laws.{FieldsHold}
use Rattle.wild_meaning.specs.Item.{IsReference}
use Rattle.wild_meaning.specs.Reference.{HoldsWithSequence, LinkedHolds, ReferenceHolds}
use Rattle.wild_references.specs.EffectLaws.{RewrittenHold, PartnersHold, RewrittenAreFollowed, OthersAreKept, KeptInstructionsDo, ItemsHold}

record AreKnown : Type 0 where
  rewritten : RewrittenHold
  partners : PartnersHold
  followed : RewrittenAreFollowed
  kept : InstructionsAreKept
  does : KeptInstructionsDo
  others : OthersAreKept

-- the index of a listed relocation, with its decision
record IsAt (l : Layout) (s : Item) (r : InputRelocation) : Type 0 where
  index : ℕ
  decision : Decision
  has : HasDecision l s index r decision

at_index : (machine : Machine) (l : Layout) (w : World) (m : Memory) (s : Item) (r : InputRelocation) → IsLoadedItem machine l w m s → Contains s.relocations r → IsAt l s r
at_index machine l w m s r g h =
    let d = g.decided.each h.0 h.1 in
    record { index = h.0; decision = d.0; has = record { listed = slice_get-get_or s.relocations h.0 r h.1 ∙ ap (λ (x : InputRelocation). Some x) h.2; decided = d.1 } }

plain : (k : AreKnown) (machine : Machine) (l : Layout) (w : World) (m : Memory) (s : Item) → IsLoadedItem machine l w m s → FieldsHold l w m s → (r : InputRelocation) → IsReference s r → (IsOmitted l s r → ⊥) → MustHold l w s r → (UsesOwnSymbolOnly l s r → ⊥) → (i : ℕ) (d : Decision) → HasDecision l s i r d → KeepsInstruction d → ReferenceHolds l w m s r
plain k machine l w m s g f r is present asked alone i d has keeps =
    let reference : IsKeptReference l s i r = record { decision = d; has = has; keeps = keeps; refers = is.refers } in
    let field = f.references i r reference present asked alone in
    inl (record {
      formula = field.formula;
      known = field.known;
      value = field.value;
      gives = field.gives;
      field = field.field;
      kept = k.kept machine l w m s g i r d has keeps;
      does = k.does machine l w m s g f i r reference present asked alone;
    })

-- the call of a sequence is one of its two references
partner_holds : (l : Layout) (w : World) (m : Memory) (s : Item) (r : InputRelocation) → HoldsWithSequence l w m s r → HoldsRewritten l w m s r
partner_holds l w m s r t = record { start = t.start; instruction = t.instruction; first = t.first; template = inr (record { rest = t.rest; sequence = t.sequence; one = (let lt = t.one.1 in (suc t.one.0, omega (arith, lt), t.one.2)) }); does = t.does; words = t.words }

by_decision : (k : AreKnown) (machine : Machine) (l : Layout) (w : World) (m : Memory) (s : Item) → IsLoadedItem machine l w m s → FieldsHold l w m s → (r : InputRelocation) → IsReference s r → (IsOmitted l s r → ⊥) → MustHold l w s r → (UsesOwnSymbolOnly l s r → ⊥) → (i : ℕ) (d : Decision) → HasDecision l s i r d → ReferenceHolds l w m s r
by_decision k machine l w m s g f r is present asked alone i Nothing has = plain k machine l w m s g f r is present asked alone i Nothing has tt
by_decision k machine l w m s g f r is present asked alone i (Field z v) has = plain k machine l w m s g f r is present asked alone i (Field z v) has tt
by_decision k machine l w m s g f r is present asked alone i (RelativeAddress v packed) has = plain k machine l w m s g f r is present asked alone i (RelativeAddress v packed) has tt
by_decision k machine l w m s g f r is present asked alone i (DynamicField z number symbol addend) has = plain k machine l w m s g f r is present asked alone i (DynamicField z number symbol addend) has tt
by_decision k machine l w m s g f r is present asked alone i (Rewritten row v) has = inr (k.rewritten machine l w m s g i r row v has present asked)
by_decision k machine l w m s g f r is present asked alone i Partner has = inr (partner_holds l w m s r (k.partners machine l w m s g i r has present))

linked_plain : (k : AreKnown) (machine : Machine) (l : Layout) (w : World) (m : Memory) (s : Item) → IsLoadedItem machine l w m s → FieldsHold l w m s → (r : InputRelocation) → IsReference s r → (IsOmitted l s r → ⊥) → MustHold l w s r → UsesOwnSymbolOnly l s r → (i : ℕ) (d : Decision) → HasDecision l s i r d → KeepsInstruction d → LinkedHolds l w m s r
linked_plain k machine l w m s g f r is present asked alone i d has keeps =
    let field = f.linked i r (record { decision = d; has = has; keeps = keeps; refers = is.refers }) present asked alone in
    inl (record {
      formula = field.formula;
      known = field.known;
      value = field.value;
      gives = field.gives;
      field = field.field;
      kept = k.kept machine l w m s g i r d has keeps;
    })

linked_by : (k : AreKnown) (machine : Machine) (l : Layout) (w : World) (m : Memory) (s : Item) → IsLoadedItem machine l w m s → FieldsHold l w m s → (r : InputRelocation) → IsReference s r → (IsOmitted l s r → ⊥) → MustHold l w s r → UsesOwnSymbolOnly l s r → (i : ℕ) (d : Decision) → HasDecision l s i r d → LinkedHolds l w m s r
linked_by k machine l w m s g f r is present asked alone i Nothing has = linked_plain k machine l w m s g f r is present asked alone i Nothing has tt
linked_by k machine l w m s g f r is present asked alone i (Field z v) has = linked_plain k machine l w m s g f r is present asked alone i (Field z v) has tt
linked_by k machine l w m s g f r is present asked alone i (RelativeAddress v packed) has = linked_plain k machine l w m s g f r is present asked alone i (RelativeAddress v packed) has tt
linked_by k machine l w m s g f r is present asked alone i (DynamicField z number symbol addend) has = linked_plain k machine l w m s g f r is present asked alone i (DynamicField z number symbol addend) has tt
linked_by k machine l w m s g f r is present asked alone i (Rewritten row v) has = absurd (k.followed l s i r row v has alone)
linked_by k machine l w m s g f r is present asked alone i Partner has = inr (inr (k.partners machine l w m s g i r has present))

pub items : RewrittenHold → PartnersHold → RewrittenAreFollowed → InstructionsAreKept → KeptInstructionsDo → OthersAreKept → ItemsHold
items rewritten partners followed kept does others on l w m s g f = record {
  references = λ r is present asked alone. (let at = at_index on l w m s r g is.listed in by_decision k on l w m s g f r is present asked alone at.index at.decision at.has);
  linked = λ r is present asked alone. (let at = at_index on l w m s r g is.listed in linked_by k on l w m s g f r is present asked alone at.index at.decision at.has);
  others = others on l w m s g;
}
  where
    k : AreKnown
    k = record { rewritten = rewritten; partners = partners; followed = followed; kept = kept; does = does; others = others }
