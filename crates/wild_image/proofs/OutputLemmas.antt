-- Laws of the whole image, and of all faults.
use Rattle.wild_image.proofs.Common.{◌≡◌, ℕ, ◌+◌, ◌^◌, ◌<◌, ◌≤◌, ◌-◌, inl, inr, All, nat_le, List, [], ◌∷◌, ◌++◌, length, take, drop, Result, Ok, Err, refl, sym, ap, ◌∙◌, arith, subst, nat_lt, Contains, IfOk, Some, slice_get, slice_index, min, take_all, length-append, get_or_from_slice_get, slice_get_within, cases_Bool, and_parts, Piece, overlay, Group, image_size, IsPadded, flat_map, AreBatches, batch_errors, batch_pieces, Batch, overlay_prefix, Error, Layout, relocation_count, first_clause, group_pieces, padding, flat_map_from, part_errors, group_errors, IsLaidOut, Part, Role, has_role, All-head, All-tail, Refuses}
use Rattle.std.proofs.lemmas.List.{take_min, take-append-le, length-drop, get_or_append_left, get_or-append_right, get_or-drop}
use Rattle.std.proofs.lemmas.Bool.{cases_lt, ltb-true}
use Rattle.wild_words.specs.Overlay.{AreDisjoint}
use Rattle.wild_words.proofs.Basics.{All-each}
use Rattle.wild_words.proofs.OverlayLemmas.{length-overlay}
use Rattle.wild_geometry.proofs.InterleaveLemmas.{Contains-flat_map_from}
use Rattle.wild_image.proofs.BatchLemmas.{cut_of, joined}
use Rattle.wild_image.proofs.PrefixLemmas.{overlay_taken, overlay_whole}
use Rattle.wild_image.specs.declared.output.SizedOutput.{SizedOutput}
use Rattle.wild_needs.specs.Needs.{total_share, name_bytes}
use Rattle.wild_plan_rules.specs.Counts.{counts_fit}
use Rattle.wild_needs.specs.Versions.{versions_fit}
use Rattle.wild_plan_rules.specs.ClauseTests.{check_sizes, check_counts}
use Rattle.wild_table_formats.specs.Headers.{section_of_role}
use Rattle.wild_layout.specs.Image.{pieces, bytes}
use Rattle.wild_layout.specs.Faults.{clause_errors, errors}
use Rattle.wild_layout.proofs.FaultLemmas.{clause_holds}
use Rattle.wild_sections.specs.Fits.{FieldsFit}
use Rattle.wild_types.specs.Parts.{part_with}
use Rattle.wild_placement.specs.PlacedSections.{part_address}
use Rattle.wild_layout.specs.SearchTable.{address_of_role}
use Rattle.std.proofs.lemmas.List.Elements.{All-contains}
use Rattle.wild_types.specs.declared.part.Role.TheVariants as role
use Rattle.wild_plan_rules.proofs.ClauseLemmas.{test_holds, first_holds, rest_holds}
use Rattle.wild_table_formats.proofs.HeaderLengths.{role_below}
use Rattle.wild_layout.proofs.LayoutLemmas.{definitions_fit, length-padding}
use Rattle.wild_sections.proofs.FaultLemmas.{Refuses-front, Refuses-after}
use Rattle.wild_contents.proofs.HashLemmas.{sysv_stands, gnu_stands}

-- the section of a role has an index below 2^31
index_below : (l : Layout) → IsLaidOut l → (r : Role) → section_of_role r l.parts < 2 ^ 31
index_below l h r = let e = role_below r l.parts (length l.sections) h.some_section h.named in let f = h.sections in omega (arith, e, f)

-- the numbers of a layout that is laid out have their fields
pub FieldsFit-IsLaidOut : (l : Layout) → IsLaidOut l → FieldsFit l
FieldsFit-IsLaidOut l h = record {
  segments = let e = h.segments in omega arith;
  sections = h.sections;
  names = h.names;
  name_table = let e = index_below l h role.Shstrtab in omega (arith, e);
  definitions = definitions_fit l h;
  sysv = sysv_stands l h;
  gnu = gnu_stands l h;
  thunks = h.ascending;
}

address_by : (r : Role) (ps : List Part) → All (λ (p : Part). p.address + p.size ≤ 2 ^ 62) ps → part_address (part_with r ps) + 4 < 2 ^ 64
address_by r [] h = omega arith
address_by r (p ∷ ps) h =
    let P : Part → Type 0 = λ q. q.address + q.size ≤ 2 ^ 62 in
    let here : p.address + p.size ≤ 2 ^ 62 = All-head P p ps h in
    let rest = address_by r ps (All-tail P p ps h) in
    elim (cases_Bool (has_role r p)) [
      | inl t ↦ rw t (omega (arith, here))
      | inr f ↦ rw f rest
    ]

-- a part of a role stands far below the end of memory
pub role_address : (l : Layout) → IsLaidOut l → (r : Role) → address_of_role l r + 4 < 2 ^ 64
role_address l laid r = address_by r l.parts (λ i d low. (laid.parts i d low).address)

-- ---- pieces within the image

abbrev IsWithin : ℕ → Piece → Type 0
IsWithin n p = p.at + length p.bytes ≤ n

-- those of one group
group_within : (l : Layout) (i n : ℕ) (g : Group) → IsLaidOut l → slice_get l.groups i ≡ Some g → n ≡ image_size l → All (IsWithin n) (group_pieces l i g)
unfolding pieces
group_within l i n g laid at same =
    let low = slice_get_within l.groups i g at in
    let read = get_or_from_slice_get l.groups i g g at in
    All-each (IsWithin n) (group_pieces l i g) (λ p listed.
    (let here = subst (λ (x : Group). Contains (group_pieces l i x) p) (sym read) listed in
    let e = All-contains (IsWithin (image_size l)) (pieces l) p laid.owners.within (Contains-flat_map_from (group_pieces l) 0 l.groups i i g p (omega arith) low here) in
    omega (arith, e, same)))

-- so these are written whole over the whole image
pub group_written : (l : Layout) (i : ℕ) (g : Group) (old new : List ℕ) → IsLaidOut l → slice_get l.groups i ≡ Some g → length old ≡ image_size l → new ≡ overlay_prefix (group_pieces l i g) old → new ≡ overlay (group_pieces l i g) old
group_written l i g old new laid at long e = e ∙ overlay_whole (group_pieces l i g) old (group_within l i (length old) g laid at long)

-- with the padding after them, bytes that are padded are padded
padded_on : (l : Layout) (n : ℕ) (out : List ℕ) → n ≤ image_size l → IsPadded l n out → IsPadded l (image_size l) (out ++ drop n (padding l))
padded_on l n out fits padded =
    let long = padded.long in
    let size = length-padding l in
    record {
      long = length-append out (drop n (padding l)) ∙ ap (λ (m : ℕ). length out + m) (length-drop n (padding l)) ∙ omega (arith, long, size, fits);
      free = λ k low free. elim (cases_lt k n) [
        | inl first ↦ get_or_append_left out (drop n (padding l)) 0 k (omega (arith, first, long)) ∙ padded.free k first free
        | inr later ↦
            (let e : n + (k - n) ≡ k = omega (arith, later) in
            get_or-append_right out (drop n (padding l)) n k 0 long later ∙ get_or-drop n (padding l) (k - n) 0 ∙ ap (slice_index (padding l)) e)
      ];
    }

-- the pieces of the groups written over first bytes that are padded are the first bytes of the image
prefix_is : (l : Layout) (n : ℕ) (old new : List ℕ) → IsLaidOut l → ((base : List ℕ) → IsPadded l (image_size l) base → overlay (pieces l) base ≡ bytes l) → IsPadded l (min (image_size l) n) old → new ≡ overlay_prefix (flat_map_from (group_pieces l) 0 l.groups) old → new ≡ take n (bytes l)
unfolding pieces
prefix_is l n old new laid written padded e =
    let m = min (image_size l) n in
    let base = old ++ drop m (padding l) in
    let based = padded_on l m old (omega arith) padded in
    let long = padded.long in
    let front : take m base ≡ old = take-append-le m old (drop m (padding l)) (omega (arith, long)) ∙ take_all m old (omega (arith, long)) in
    let within = subst (λ (k : ℕ). All (IsWithin k) (pieces l)) (sym based.long) laid.owners.within in
    let apart : AreDisjoint (length base) (pieces l) = subst (λ (k : ℕ). AreDisjoint k (pieces l)) (sym based.long) laid.owners in
    let size : length (bytes l) ≡ image_size l = ap length (sym (written base based)) ∙ length-overlay (pieces l) base apart ∙ based.long in
    e ∙ ap (overlay_prefix (pieces l)) (sym front) ∙ overlay_taken m (pieces l) base within ∙ ap (take m) (written base based)
    ∙ ap (λ (k : ℕ). take k (bytes l)) (omega (arith, size)) ∙ take_min n (bytes l)

-- the same, with the pieces of the batches
pub prefix_of_batches : (l : Layout) (n : ℕ) (bs : List Batch) (old new : List ℕ) → IsLaidOut l → ((base : List ℕ) → IsPadded l (image_size l) base → overlay (pieces l) base ≡ bytes l) → AreBatches l.groups bs → IsPadded l (min (image_size l) n) old
    → new ≡ overlay_prefix (flat_map (batch_pieces l) bs) old → new ≡ take n (bytes l)
prefix_of_batches l n bs old new laid written cut padded e =
    prefix_is l n old new laid written padded (e ∙ ap (λ (ps : List Piece). overlay_prefix ps old) (sym (joined (group_pieces l) 0 l.groups bs (cut_of l.groups bs cut))))

-- the first fault of the batches is that of the groups
pub batches_refused : (l : Layout) (bs : List Batch) (e : Error) → AreBatches l.groups bs → Refuses e (flat_map (batch_errors l) bs) → Refuses e (flat_map_from (group_errors l) 0 l.groups)
batches_refused l bs e cut h = subst (λ (es : List Error). Refuses e es) (sym (joined (group_errors l) 0 l.groups bs (cut_of l.groups bs cut))) h

-- an image is short
pub bytes_fit : {X : Type 0} (r : Result X Error) (l : Layout) → IsLaidOut l → IfOk r (λ x. length (bytes l) ≤ 2 ^ 62)
unfolding bytes
bytes_fit (Err e) l laid = tt
bytes_fit (Ok x) l laid =
    let apart : AreDisjoint (length (padding l)) (pieces l) = subst (λ (n : ℕ). AreDisjoint n (pieces l)) (sym (length-padding l)) laid.owners in
    let long = length-overlay (pieces l) (padding l) apart in
    let size = length-padding l in
    let least = laid.size in
    omega (arith, long, size, least)

-- so that its first bytes may be all
pub whole_image : (r : Result SizedOutput Error) (l : Layout) → IfOk r (λ o. length (bytes l) ≤ 2 ^ 62) → IfOk r (λ o. o.out ≡ take (2 ^ 64 - 1) (bytes l)) → IfOk r (λ o. o.out ≡ bytes l)
whole_image (Ok o) l fits image = image ∙ take_all (2 ^ 64 - 1) (bytes l) (omega (arith, fits))
whole_image (Err e) l fits image = tt

-- without faults of clauses and shares, those of the groups are all
pub file_trailer_errors : (l : Layout) → clause_errors (first_clause l) ≡ [] → flat_map_from (part_errors l) 0 l.parts ≡ [] → flat_map_from (group_errors l) 0 l.groups ≡ errors l
unfolding errors
file_trailer_errors l a b = rw (a, b) refl

-- neither relocations nor groups are too many
pub few_lists : (l : Layout) → check_counts l ≡ Ok tt → (relocation_count l < 2 ^ 32 - 1) × (length l.groups < 2 ^ 32 - 1)
unfolding check_counts
few_lists l h =
    let a = and_parts _ (versions_fit l) (test_holds (counts_fit l) h) in
    let b = and_parts _ (nat_lt (total_share l role.Strtab) (2 ^ 32)) a.0 in
    let c = and_parts _ (nat_lt (total_share l role.Dynstr) (2 ^ 32)) b.0 in
    let d = and_parts _ (nat_lt (name_bytes l) (2 ^ 32)) c.0 in
    let e = and_parts _ (nat_lt (length l.groups) (2 ^ 32 - 1)) d.0 in
    let f = and_parts _ (nat_le 1 (length l.groups)) e.0 in
    let g = and_parts _ (nat_lt (relocation_count l) (2 ^ 32 - 1)) f.0 in
    (ltb-true _ _ g.1, ltb-true _ _ e.1)

-- a layout whose clauses hold has few relocations
pub few_relocations : (l : Layout) → clause_errors (first_clause l) ≡ [] → relocation_count l < 2 ^ 64
unfolding first_clause
few_relocations l h = let e = few_lists l (first_holds (check_counts l) _ (rest_holds (check_sizes l) _ (clause_holds (first_clause l) h))) in let f = e.0 in omega (arith, f)

-- a fault of the clauses, or of the shares where the clauses hold, is the first
pub clause_refused : (l : Layout) (e : Error) → Refuses e (clause_errors (first_clause l)) → Refuses e (errors l)
unfolding errors
clause_refused l e h =
    let clauses = clause_errors (first_clause l) in
    let shares = flat_map_from (part_errors l) 0 l.parts in
    Refuses-front e (clauses ++ shares) (flat_map_from (group_errors l) 0 l.groups) (Refuses-front e clauses shares h)

pub share_refused : (l : Layout) (e : Error) → clause_errors (first_clause l) ≡ [] → Refuses e (flat_map_from (part_errors l) 0 l.parts) → Refuses e (errors l)
unfolding errors
share_refused l e none h =
    let clauses = clause_errors (first_clause l) in
    let shares = flat_map_from (part_errors l) 0 l.parts in
    Refuses-front e (clauses ++ shares) (flat_map_from (group_errors l) 0 l.groups) (Refuses-after e clauses shares none h)
