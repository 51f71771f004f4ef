-- Symbols that are copied into the output: their addresses, their answers, and what their entries make a loader do.
use Rattle.wild_loaded.proofs.Common.{◌≡◌, ℕ, ◌%◌, ◌^◌, ◌<◌, ◌⊎◌, inl, inr, true, refl, sym, ap, ◌∙◌, arith, subst, Option, Some, None, Result, Ok, Err, All, [], unwrap_or, slice_get, All-contains, Fault, Machine, File, Group, Resolution, Symbol, Layout, copies_of, is_library, canonical, type_of, flat_map_from, group_errors, IsLaidOut, entry_for, copy_entry, value_or_0, index_of, raw_value, Answer, World, kind_of, change_of, IsLegal, IsCopied, HasCopy, canonical_is, processor_of, facts_of}
use Rattle.wild_reloc.specs.declared.dynamic.DynamicRelocationKind.TheVariants.{Copy}
use Rattle.wild_layout.specs.Faults.{copy_fault}
use Rattle.wild_layout.specs.SymbolValues.{raw_address}
use Rattle.wild_layout.proofs.FaultLemmas.{CanBeCopied, copies_of_groups}
use Rattle.wild_meaning.specs.Value.{IsResolved, IsUnresolved, IsLocatedAt, HasRaw, HasAnswer}
use Rattle.wild_meaning.proofs.SymbolLemmas.{own_definition}
use Rattle.wild_loaded.specs.StoredTables.{Copies}
use Rattle.wild_loaded.specs.Laws.{CopiesAreThere}
use Rattle.wild_loaded.proofs.Answers.{symbol_answer, index_small}
use Rattle.wild_loaded.proofs.LeftFields.{IsIndexed, indexed}
use Rattle.wild_loader.specs.declared.kind.DynamicKind.TheVariants as kinds

-- ---- definitions

-- the address of a symbol whose definition has a resolution
resolved_raw : (l : Layout) (i : ℕ) (s : Symbol) (r : Resolution) → slice_get l.symbols (canonical l i) ≡ Some s → s.resolution ≡ Some r → raw_address l (Some i) ≡ Ok r.raw_value
unfolding raw_value
resolved_raw l i s r e f = rw (e, f) refl

has_raw : (l : Layout) (i : ℕ) (s : Symbol) (r : Resolution) → slice_get l.symbols (canonical l i) ≡ Some s → s.resolution ≡ Some r → HasRaw l i r.raw_value
has_raw l i s r e f = record {
  definition = canonical l i;
  defined = own_definition l i s e;
  given = inl (record { symbol = s; listed = e; resolution = r; decided = f; value = refl });
}

-- ---- copies are there

-- of a symbol that can be copied nothing lacks
indexed_copy : (l : Layout) (i : ℕ) → CanBeCopied l i → (index : ℕ) × (index_of l i ≡ Some index)
indexed_copy l i h = by_parts (index_of l i) (raw_address l (Some i)) refl h
  where
    by_parts : (o : Option ℕ) (a : Result ℕ Fault) → index_of l i ≡ o → copy_fault i o a ≡ None → (index : ℕ) × (index_of l i ≡ Some index)
    by_parts o (Err f) e h = cc
    by_parts None (Ok a) e h = cc
    by_parts (Some index) (Ok a) e h = (index, e)

copied_listed : (l : Layout) (i : ℕ) → flat_map_from (group_errors l) 0 l.groups ≡ [] → IsCopied l i → CanBeCopied l i
copied_listed l i none c =
    let groups = All-contains (λ (g : Group). All (λ (f : File). All (CanBeCopied l) (copies_of f)) g.files) l.groups c.group (copies_of_groups l none) c.grouped in
    let files = All-contains (λ (f : File). All (CanBeCopied l) (copies_of f)) c.group.files c.file groups c.filed in
    let role : is_library c.file.role ≡ true = ap is_library c.library in
    let here : copies_of c.file ≡ c.file.copies = rw role refl in
    All-contains (CanBeCopied l) c.file.copies i (subst (All (CanBeCopied l)) here files) c.listed

copy_there : (l : Layout) (w : World) (i index : ℕ) → IsLegal l w → IsCopied l i → IsIndexed l i index → (raw : ℕ) × (x : Answer) × HasCopy l w i raw x
copy_there l w i index legal c d =
    let g = symbol_answer l w (canonical l i) index d.symbol d.resolution legal d.listed d.resolved d.told in (
      d.resolution.raw_value,
      g.answer,
      record {
        copied = c;
        given = has_raw l i d.symbol d.resolution d.listed d.resolved;
        answer = record { definition = canonical l i; defined = own_definition l i d.symbol d.listed; symbol = d.symbol; listed = d.listed; resolution = d.resolution; decided = d.resolved; index = index; told = d.told; given = g.listed };
      },
    )

pub copies_there : CopiesAreThere
copies_there = λ l w i legal laid none c.
    let x = indexed_copy l i (copied_listed l i none c) in
    copy_there l w i x.0 legal c (indexed l i x.0 x.1)

-- ---- their entries

-- the definition has the answer's resolution, so the address is what was decided of it
pub raw_is : (l : Layout) (w : World) (i raw : ℕ) (x : Answer) → HasRaw l i raw → (a : HasAnswer l w i x) → a.resolution.raw_value ≡ raw
raw_is l w i raw x h a = by_case h.given
  where
    same : h.definition ≡ a.definition
    same = sym (canonical_is l i h.definition h.defined) ∙ canonical_is l i a.definition a.defined

    here : slice_get l.symbols h.definition ≡ Some a.symbol
    here = ap (λ (k : ℕ). slice_get l.symbols k) same ∙ a.listed

    by_case : IsResolved l h.definition raw ⊎ (IsUnresolved l h.definition × IsLocatedAt l i raw) → a.resolution.raw_value ≡ raw
    by_case (inl r) =
        let one : Some r.symbol ≡ Some a.symbol = sym r.listed ∙ here in
        let symbols : r.symbol ≡ a.symbol = cc in
        let two : Some r.resolution ≡ Some a.resolution = sym r.decided ∙ ap (λ (s : Symbol). s.resolution) symbols ∙ a.decided in
        let resolutions : r.resolution ≡ a.resolution = cc in
        ap (λ (q : Resolution). q.raw_value) (sym resolutions) ∙ sym r.value
    by_case (inr u) = (let both : Some a.resolution ≡ None = sym a.decided ∙ u.0 a.symbol here in cc)

copied : (w : World) (m : Machine) (index raw : ℕ) (x : Answer) → index < 2 ^ 32 → slice_get w.symbols index ≡ Some x → Copies (processor_of m) w (entry_for raw (type_of m Copy) index 0) raw x.bytes
unfolding change_of
copied w m index raw x small given =
    let low : index % 2 ^ 32 ≡ index = omega (arith, small) in
    let t = (facts_of m).types Copy in
    let same : type_of m Copy % 2 ^ 32 ≡ type_of m Copy = omega (arith, t) in
    record { place = refl; known = subst (λ (n : ℕ). kind_of (processor_of m) n ≡ Some kinds.Copy) (sym same) ((facts_of m).entries Copy); makes = rw (low, given) refl }

pub copy_fills : (l : Layout) (w : World) (i raw : ℕ) (x : Answer) → IsLegal l w → IsLaidOut l → HasCopy l w i raw x → Copies (processor_of l.machine) w (copy_entry l i) raw x.bytes
copy_fills l w i raw x legal laid h =
    let a = h.answer in
    let at : canonical l i ≡ a.definition = canonical_is l i a.definition a.defined in
    let there : slice_get l.symbols (canonical l i) ≡ Some a.symbol = ap (λ (k : ℕ). slice_get l.symbols k) at ∙ a.listed in
    let address : value_or_0 (raw_address l (Some i)) ≡ raw = ap value_or_0 (resolved_raw l i a.symbol a.resolution there a.decided) ∙ raw_is l w i raw x h.given a in
    let index : index_of l i ≡ Some a.index = told there a.decided a.told in
    let P : ℕ → Type 0 = λ p. Copies (processor_of l.machine) w (entry_for p (type_of l.machine Copy) (unwrap_or (index_of l i) 0) 0) raw x.bytes in
    let Q : Option ℕ → Type 0 = λ o. Copies (processor_of l.machine) w (entry_for raw (type_of l.machine Copy) (unwrap_or o 0) 0) raw x.bytes in
    subst P (sym address) (subst Q (sym index) (copied w l.machine a.index raw x (index_small l (canonical l i) a.index a.symbol a.resolution laid there a.decided a.told) a.given))
  where
    told : {s : Symbol} {r : Resolution} {n : ℕ} → slice_get l.symbols (canonical l i) ≡ Some s → s.resolution ≡ Some r → r.dynamic_symbol_index ≡ Some n → index_of l i ≡ Some n
    told e f g = rw (e, f, g) refl
