-- Outputs without slots, a dynamic section and a table of all symbols.
use Rattle.wild_image.proofs.Common.{◌≡◌, ℕ, ◌+◌, Bool, true, false, not, ◌&&◌, if◌then◌else◌, List, [], ◌∷◌, ◌++◌, refl, sym, ap, ◌∙◌, Option, Some, None, flat_map, list_all, and_parts, append-nil, Error, File, Group, Layout, is_prelude, is_epilogue, thunks_of, is_header_only_part, is_header_only_role, of_last_file, frames_at, thunk_bytes, flat_map_from, sorted_errors, sections_errors, files_errors, group_errors, all_sorted, merged_and_identity_bytes}
use Rattle.std.proofs.lemmas.Bool.{and_from, not-true}
use Rattle.wild_types.specs.declared.file.FileRole.{FileRole}
use Rattle.wild_types.specs.declared.file.FileRole.TheVariants as file_role
use Rattle.wild_types.specs.declared.symbol.Symbol.{Symbol}
use Rattle.wild_types.specs.FileRoles.{is_library}
use Rattle.wild_types.specs.FileSymbols.{own_symbols, copies_of}
use Rattle.wild_types.specs.FileThunks.{block_of}
use Rattle.wild_types.specs.Flags.{has_flag, dynamic}
use Rattle.wild_types.specs.Kinds.{needs_dynamic, needs_dynsym}
use Rattle.wild_types.specs.Lookups.{has_symtab}
use Rattle.wild_types.specs.SymbolSlots.{lacks_slots}
use Rattle.wild_slot.specs.declared.slot.SlotFault.{SlotFault}
use Rattle.wild_slot.specs.Slots.{SlotContent}
use Rattle.wild_slot.specs.SymbolWords.{slots_of}
use Rattle.wild_needs.specs.Needs.{lacks_slots_and_import, has_no_dynamic_tables}
use Rattle.wild_needs.proofs.SlotShareLemmas.{no_slots, own_without}
use Rattle.wild_layout.specs.Faults.{at_file, slot_role, slot_refusal, symbol_errors, slot_errors, copy_errors, thunk_error, thunk_errors, exported_error, exported_errors, file_errors}
use Rattle.wild_contents.proofs.SymtabFaultLemmas.{no_table}
use Rattle.wild_image.specs.Placed.{is_object, is_plain_object, file_trailer_errors, file_trailer_bytes}
use Rattle.wild_image.proofs.PlacedLemmas.{file_faults_by}

-- ---- what the tests tell

pub record IsBare (l : Layout) : Type 0 where
  pub static : needs_dynamic l.kind ≡ false
  pub stripped : has_symtab l ≡ false
  pub symbols : list_all lacks_slots l.symbols ≡ true

without : (ss : List Symbol) → list_all lacks_slots_and_import ss ≡ true → list_all lacks_slots ss ≡ true
without [] h = refl
without (s ∷ ss) h =
    let p = and_parts (lacks_slots_and_import s) (list_all lacks_slots_and_import ss) h in
    let q = and_parts (lacks_slots s) (not (has_flag s.flags dynamic)) p.0 in
    and_from (lacks_slots s) (list_all lacks_slots ss) q.0 (without ss p.1)

bare_told : (l : Layout) → has_no_dynamic_tables l ≡ true → IsBare l
bare_told l h =
    let a = and_parts (not (needs_dynamic l.kind) && not (has_symtab l)) (list_all lacks_slots_and_import l.symbols) h in
    let b = and_parts (not (needs_dynamic l.kind)) (not (has_symtab l)) a.0 in
    record { static = not-true (needs_dynamic l.kind) b.0; stripped = not-true (has_symtab l) b.1; symbols = without l.symbols a.1 }

record IsPlainObject (f : File) : Type 0 where
  role : f.role ≡ file_role.Object
  thunks : f.owns_thunk_block ≡ false

object_role : (r : FileRole) → is_object r ≡ true → r ≡ file_role.Object
object_role file_role.Object e = refl
object_role other e = cc

plain_told : (f : File) → is_plain_object f ≡ true → IsPlainObject f
plain_told f h =
    let p = and_parts (is_object f.role) (not f.owns_thunk_block) h in
    record { role = object_role f.role p.0; thunks = not-true f.owns_thunk_block p.1 }

-- ---- slots

slot_fine : (l : Layout) (group file i : ℕ) (s : Symbol) → lacks_slots s ≡ true → symbol_errors l group file i s ≡ []
slot_fine l group file i s h = by (is_header_only_role l (slot_role l s)) ((slots_of l s).fault) (ap (λ (c : SlotContent). c.fault) (no_slots l s h))
  where
    by : (header_only : Bool) (fault : Option SlotFault) → fault ≡ None → (if header_only then [] else slot_refusal (at_file group file) i fault) ≡ []
    by true fault none = refl
    by false None none = refl
    by false (Some f) none = cc

slots_fine : (l : Layout) (group file i : ℕ) (ss : List Symbol) → list_all lacks_slots ss ≡ true → flat_map_from (symbol_errors l group file) i ss ≡ []
slots_fine l group file i [] h = refl
slots_fine l group file i (s ∷ ss) h =
    let p = and_parts (lacks_slots s) (list_all lacks_slots ss) h in
    ap (λ (es : List Error). es ++ flat_map_from (symbol_errors l group file) (i + 1) ss) (slot_fine l group file i s p.0) ∙ slots_fine l group file (i + 1) ss p.1

-- ---- what an object has behind its sections

no_last : {X : Type 0} (f : File) (xs : List X) → IsPlainObject f → of_last_file f xs ≡ []
no_last f xs o = ap (λ (r : FileRole). if is_epilogue r then xs else []) o.role

no_first : {X : Type 0} (f : File) (xs : List X) → IsPlainObject f → (if is_prelude f.role then xs else []) ≡ []
no_first f xs o = ap (λ (r : FileRole). if is_prelude r then xs else []) o.role

no_copies : (f : File) → IsPlainObject f → copies_of f ≡ []
no_copies f o = ap (λ (r : FileRole). if is_library r then f.copies else []) o.role

no_thunks : (l : Layout) (f : File) → IsPlainObject f → thunks_of l f ≡ []
no_thunks l f o = ap (λ (b : Bool). if b then block_of l f.thunk_block else []) o.thunks

unless_none : {X : Type 0} (header_only : Bool) (xs : List X) → xs ≡ [] → (if header_only then [] else xs) ≡ []
unless_none true xs e = refl
unless_none false xs e = e

no_errors_behind : (l : Layout) (group file : ℕ) (f : File) → IsBare l → IsPlainObject f → file_trailer_errors l group file f ≡ []
unfolding file_trailer_errors slot_errors thunk_errors
no_errors_behind l group file f b o =
    joined (no_last f (flat_map (sorted_errors l) l.sorted) o) (ap (flat_map (copy_errors l group file)) (no_copies f o)) (slots_fine l group file f.first_symbol (own_symbols l f) (own_without l f b.symbols))
    (unless_none (is_header_only_part l l.primary_part) _ (ap (flat_map (thunk_error l (at_file group file))) (no_thunks l f o))) (no_first f _ o)
  where
    joined : {a b c d e : List Error} → a ≡ [] → b ≡ [] → c ≡ [] → d ≡ [] → e ≡ [] → a ++ ((b ++ c) ++ (d ++ e)) ≡ []
    joined p q r s t = rw (p, q, r, s, t) refl

-- so it has no faults but those of its sections
pub object_fine : (l : Layout) (group file at : ℕ) (f : File) → has_no_dynamic_tables l ≡ true → is_plain_object f ≡ true → sections_errors l group file f at 0 f.sections ≡ [] → file_errors l group at file f ≡ []
object_fine l group file at f bare plain none =
    file_faults_by l group file at f ∙ ap (λ (es : List Error). es ++ file_trailer_errors l group file f) none ∙ no_errors_behind l group file f (bare_told l bare) (plain_told f plain)

-- nor bytes
pub none_behind : (l : Layout) (f : File) (bytes : List ℕ) → is_plain_object f ≡ true → bytes ≡ bytes ++ file_trailer_bytes l f
unfolding file_trailer_bytes
none_behind l f bytes plain =
    let o = plain_told f plain in
    sym (append-nil bytes) ∙ ap (λ (xs : List ℕ). bytes ++ xs) (sym (joined (no_last f (all_sorted l) o) (no_first f (merged_and_identity_bytes l) o) (unless_none (is_header_only_part l l.primary_part) _ (ap (flat_map (thunk_bytes l)) (no_thunks l f o)))))
  where
    joined : {a b c : List ℕ} → a ≡ [] → b ≡ [] → c ≡ [] → (a ++ b) ++ c ≡ []
    joined p q r = rw (p, q, r) refl

-- nor frames
pub no_end_behind : (f : File) (frames end : List ℕ) → is_plain_object f ≡ true → frames ≡ frames ++ of_last_file f end
no_end_behind f frames end plain = sym (append-nil frames) ∙ ap (λ (xs : List ℕ). frames ++ xs) (sym (no_last f end (plain_told f plain)))

-- ---- tables of symbols

no_listed : (l : Layout) (group i : ℕ) (fs : List File) → needs_dynamic l.kind ≡ false → flat_map_from (exported_errors l group) i fs ≡ []
unfolding exported_errors
no_listed l group i [] h = refl
no_listed l group i (f ∷ fs) h =
    ap (λ (es : List Error). es ++ flat_map_from (exported_errors l group) (i + 1) fs) (by (is_epilogue f.role) (needs_dynsym l.kind) (flat_map (exported_error l (at_file group i)) l.dynsyms) h) ∙ no_listed l group (i + 1) fs h
  where
    by : (last needs : Bool) (es : List Error) → needs ≡ false → (if last && needs then es else []) ≡ []
    by true true es e = cc
    by true false es e = refl
    by false needs es e = refl

-- a group has no faults but those of its files
pub group_fine : (l : Layout) (group : ℕ) (g : Group) → has_no_dynamic_tables l ≡ true → files_errors l group (frames_at l g) 0 g.files ≡ [] → group_errors l group g ≡ []
unfolding group_errors
group_fine l group g bare none =
    let b = bare_told l bare in
    joined none (no_listed l group 0 g.files b.static) (no_table l group 0 g.files b.stripped)
  where
    joined : {x y z : List Error} → x ≡ [] → y ≡ [] → z ≡ [] → x ++ (y ++ z) ≡ []
    joined p q r = rw (p, q, r) refl
