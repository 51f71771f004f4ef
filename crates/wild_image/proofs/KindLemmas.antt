-- Which sections are a relocatable object's, and which are not.
use Rattle.wild_image.proofs.Common.{◌≡◌, Bool, true, false, not, ◌&&◌, ◌||◌, List, get_or, All, Ok, refl, and_parts, Slot, InputSection, File, Group, Layout, is_partial_link, is_rela, is_debug, first_clause, IsOfKind}
use Rattle.wild_words.proofs.ListLemmas.{All-from_list_all}
use Rattle.wild_types.specs.Lists.{unless, first_failing}
use Rattle.wild_types.proofs.ListLemmas.{All-from_none_fails}
use Rattle.wild_plan_rules.specs.Contents.{each_in, each_section}
use Rattle.wild_plan_rules.specs.Partial.{has_no_segments, has_no_slot, has_no_pair, has_no_thunks, lists_no_symbols, has_no_index, is_no_debug, is_of_kind}
use Rattle.wild_plan_rules.specs.ClauseTests.{fails, check_partial}
use Rattle.wild_plan_rules.proofs.ClauseLemmas.{None-from_fails}
use Rattle.wild_geometry.proofs.ClauseLemmas.{Both-from_first_error, NoneFails-from_first_clause}

-- each section of some files is of its kind of output
abbrev pub OfKind : Layout → List File → Type 0
OfKind l fs = All (λ (f : File). All (IsOfKind l) f.sections) fs

rela_by : (partial rela rest : Bool) → (partial || (not rela && rest)) ≡ true → rela ≡ true → partial ≡ true
rela_by true rela rest h e = refl
rela_by false true rest h e = cc
rela_by false false rest h e = cc

debug_by : (partial debug : Bool) → (not partial || not debug) ≡ true → debug ≡ true → partial ≡ false
debug_by false debug h e = refl
debug_by true true h e = cc
debug_by true false h e = cc

record KindsHold (l : Layout) : Type 0 where
  debug : All (λ g. each_section (is_no_debug l) g ≡ true) l.groups
  kind : All (λ g. each_section (is_of_kind l) g ≡ true) l.groups

kinds_hold : (l : Layout) → check_partial l ≡ Ok tt → KindsHold l
unfolding check_partial
kinds_hold l h =
    let a = Both-from_first_error (fails 21 (unless (has_no_segments l))) _ h in
    let b = Both-from_first_error (fails 21 (first_failing (has_no_slot l) 0 l.symbols)) _ a.rest in
    let c = Both-from_first_error (fails 21 (unless (has_no_pair l))) _ b.rest in
    let d = Both-from_first_error (fails 21 (first_failing (has_no_thunks l) 0 l.thunk_blocks)) _ c.rest in
    let e = Both-from_first_error (fails 21 (unless (lists_no_symbols l))) _ d.rest in
    let f = Both-from_first_error (fails 21 (first_failing (has_no_index l) 0 l.symbols)) _ e.rest in
    let g = Both-from_first_error (fails 21 (first_failing (each_section (is_no_debug l)) 0 l.groups)) _ f.rest in
    let k = Both-from_first_error (fails 21 (first_failing (each_section (is_of_kind l)) 0 l.groups)) _ g.rest in
    record {
      debug = All-from_none_fails (each_section (is_no_debug l)) 0 l.groups (None-from_fails 21 _ g.first);
      kind = All-from_none_fails (each_section (is_of_kind l)) 0 l.groups (None-from_fails 21 _ k.first);
    }

-- of a layout whose clauses hold each section is of its kind of output
pub each_of_kind : (l : Layout) → first_clause l ≡ Ok tt → All (λ (g : Group). OfKind l g.files) l.groups
each_of_kind l clauses = λ i g m.
    let holds = kinds_hold l (NoneFails-from_first_clause l clauses).partial in
    let debug = All-from_list_all (each_in (is_no_debug l)) (get_or l.groups i g).files (holds.debug i g m) in
    let kind = All-from_list_all (each_in (is_of_kind l)) (get_or l.groups i g).files (holds.kind i g m) in
    λ j f n. (
    let no_debug = All-from_list_all (is_no_debug l) (get_or (get_or l.groups i g).files j f).sections (debug j f n) in
    let of_kind = All-from_list_all (is_of_kind l) (get_or (get_or l.groups i g).files j f).sections (kind j f n) in
    λ k s o. record {
      table = rela_by (is_partial_link l.kind) _ _ (of_kind k s o);
      debug = debug_by (is_partial_link l.kind) _ (no_debug k s o);
    })
