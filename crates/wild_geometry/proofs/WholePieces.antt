-- What stands once in the image stands where its part does.
use Rattle.wild_geometry.proofs.Common.{◌≡◌, ℕ, ◌+◌, ◌<◌, ◌≤◌, inl, inr, ◌==◌, Bool, true, false, not, ◌&&◌, List, length, get_or, Contains, refl, ap, ◌∙◌, arith, subst, cases_Bool, eqb-true, eqb-false, Contains-append_left, implied, ItemAt-within, Part, Role, Group, Layout, is_partial_link, image_size, is_header_only_at, has_role, unique_table, content, shares_before, table_piece, table_pieces, owned_pieces, group_pieces, pieces}
use Rattle.wild_records.specs.FileHeader.{file_header_size}
use Rattle.wild_types.specs.declared.part.Role.TheVariants as role
use Rattle.wild_plan_rules.specs.Fronts.{is_header_role}
use Rattle.wild_table_formats.specs.Headers.{offset_of_role, program_header_bytes}
use Rattle.wild_layout.specs.TablePlaces.{IsPiece, HasTables}
use Rattle.wild_geometry.proofs.InterleaveLemmas.{Contains-flat_map_from}
use Rattle.wild_geometry.proofs.PlacedSectionLemmas.{AllClausesHold}
use Rattle.wild_geometry.proofs.OrderLemmas.{EndsBy-image}
use Rattle.wild_geometry.proofs.TableLemmas.{role_place-1, role_place-2, role_place-3, IsLocatedAt, IsLocatedAt-from_test, IsLocatedAt-from_missing}
use Rattle.wild_geometry.proofs.FirstFileLemmas.{StandsOnce, content_of_first}
use Rattle.wild_geometry.proofs.ContentLemmas.{length-unique_table}
use Rattle.wild_geometry.proofs.TablePieces.{given_from_content, content_at, piece_at, Contains-written}

not_both : (a b : Bool) → not (a && b) ≡ true → a ≡ true → b ≡ false
not_both true true h e = cc
not_both true false h e = refl
not_both false b h e = cc

-- what stands once in the image stands where its part does
IsPiece-from_part : (l : Layout) → AllClausesHold l → (r : Role) (at : ℕ) (s : IsLocatedAt r at l.parts) → s.item.role ≡ r → has_role role.Raw s.item ≡ false → is_header_role r ≡ true → (length (unique_table l r) ≡ 0 → at ≤ image_size l) → StandsOnce l r → Group → IsPiece l at (unique_table l r)
unfolding pieces
IsPiece-from_part l h r at s is raw header empty once g = by s.listed.0 s.listed.1 s.listed.2
  where
    by : (i : ℕ) → i < length l.parts → get_or l.parts i s.item ≡ s.item → IsPiece l at (unique_table l r)
    by i low read =
        let role_is : (get_or l.parts i s.item).role ≡ r = ap (λ (p : Part). p.role) read ∙ is in
        let first : content_at l i s.item 0 g ≡ unique_table l r = ap (λ (q : Role). content l q (get_or l.groups 0 g)) role_is ∙ content_of_first l r g once h.counts.some_group h.shares in
        let offset : (get_or l.parts i s.item).offset ≡ at = ap (λ (p : Part). p.offset) read ∙ s.there in
        let long = ap length first in
        let written = not_both (is_header_role (get_or l.parts i s.item).role) (is_header_only_at l (get_or l.parts i s.item).section) (h.fronts.headers i s.item low) (ap is_header_role role_is ∙ header) in
        elim (cases_Bool (length (unique_table l r) == 0)) [
          | inl t ↦
              (let none = eqb-true (length (unique_table l r)) 0 t in
              let low_enough = empty none in
              record { within = omega arith; listed = λ some. absurd (omega arith) })
          | inr f ↦
              (let some : 1 ≤ length (unique_table l r) = (let e = eqb-false (length (unique_table l r)) 0 f in omega arith) in
              let one = given_from_content l h i s.item low 0 g h.counts.some_group written (omega arith) in
              let ends = one.ends in
              let in_image = EndsBy-image l i s.item low one.takes (omega arith) in
              record { within = omega arith; listed = λ some. listed i low written first offset some })
        ]
      where
        listed : (i : ℕ) → i < length l.parts → is_header_only_at l (get_or l.parts i s.item).section ≡ false → content_at l i s.item 0 g ≡ unique_table l r → (get_or l.parts i s.item).offset ≡ at → 1 ≤ length (unique_table l r) → Contains (pieces l) (record { at = at; bytes = unique_table l r })
        listed i low written first offset some =
            let long = ap length first in
            let here : Contains (table_piece l 0 (get_or l.groups 0 g) i (get_or l.parts i s.item)) (piece_at l i s.item 0 g) = Contains-written (is_header_only_at l (get_or l.parts i s.item).section) ((get_or l.parts i s.item).offset + shares_before l i 0) (content_at l i s.item 0 g) written (omega arith) in
            let in_tables = Contains-flat_map_from (table_piece l 0 (get_or l.groups 0 g)) 0 l.parts i i s.item (piece_at l i s.item 0 g) (omega arith) low here in
            let in_group = Contains-append_left (table_pieces l 0 (get_or l.groups 0 g)) (owned_pieces l (get_or l.groups 0 g)) (piece_at l i s.item 0 g) in_tables in
            let all = Contains-flat_map_from (group_pieces l) 0 l.groups 0 0 g (piece_at l i s.item 0 g) (omega arith) h.counts.some_group in_group in
            let place : (get_or l.parts i s.item).offset + shares_before l i 0 ≡ at = omega arith in
            let P : ℕ → List ℕ → Type 0 = λ n bs. Contains (pieces l) (record { at = n; bytes = bs }) in
            subst (λ (bs : List ℕ). P at bs) first (subst (λ (n : ℕ). P n (content_at l i s.item 0 g)) place all)

-- the program headers of an output that is loaded
headers_are_present : (l : Layout) → AllClausesHold l → is_partial_link l.kind ≡ false → file_header_size ≤ image_size l → Group → IsPiece l file_header_size (program_header_bytes l)
headers_are_present l h kind low g =
    let p = IsLocatedAt-from_test role.ProgramHeaders file_header_size 0 l.parts (h.roles.program_headers kind) in
    IsPiece-from_part l h role.ProgramHeaders file_header_size p (role_place-2 p.item.role p.has) (rw p.has refl) refl (λ e. low) (record { own = λ x. refl; slots = λ x. refl; header = refl; block = λ x. refl; stays = λ at f. refl }) g

-- a relocatable object has none
no_headers : (l : Layout) → AllClausesHold l → is_partial_link l.kind ≡ true → file_header_size ≤ image_size l → IsPiece l file_header_size (program_header_bytes l)
no_headers l h kind low =
    let none = eqb-true (length l.segments) 0 (implied (is_partial_link l.kind) (length l.segments == 0) h.partial.segments kind) in
    let long = length-unique_table l role.ProgramHeaders in
    record { within = omega arith; listed = λ some. absurd (omega arith) }

pub HasTables-from_clauses : (l : Layout) → AllClausesHold l → HasTables l
HasTables-from_clauses l h = by (ItemAt-within l.groups 0 h.counts.some_group).item
  where
    by : Group → HasTables l
    by g =
        let f = IsLocatedAt-from_test role.FileHeader 0 0 l.parts h.roles.file_header in
        let s = IsLocatedAt-from_missing role.SectionHeaders l.parts h.roles.section_headers in
        let header_length = length-unique_table l role.FileHeader in
        let sections_length = length-unique_table l role.SectionHeaders in
        let some = h.counts.some_section in
        let header = IsPiece-from_part l h role.FileHeader 0 f (role_place-1 f.item.role f.has) (rw f.has refl) refl (λ e. absurd (omega arith)) (record { own = λ x. refl; slots = λ x. refl; header = refl; block = λ x. refl; stays = λ at f. refl }) g in
        let within = header.within in
        record {
          file_header = header;
          program_headers = elim (cases_Bool (is_partial_link l.kind)) [ inl k ↦ no_headers l h k (omega arith) | inr k ↦ headers_are_present l h k (omega arith) g ];
          section_headers = IsPiece-from_part l h role.SectionHeaders (offset_of_role role.SectionHeaders l.parts) s (role_place-3 s.item.role s.has) (rw s.has refl) refl (λ e. absurd (omega arith)) (record { own = λ x. refl; slots = λ x. refl; header = refl; block = λ x. refl; stays = λ at f. refl }) g;
        }
