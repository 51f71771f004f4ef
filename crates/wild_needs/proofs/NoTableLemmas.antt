-- Where no symbol has a slot or is another module's, a file is plain by its role and its sections alone.
use Rattle.std.proofs.Common.{◌≡◌, ℕ, zero, suc, inl, inr, Bool, true, false, List, [], ◌∷◌, length, take, get_or, slice_range, ◌+◌, ◌-◌, ◌≤◌, refl, sym, ap, subst, ◌∙◌, arith}
use Rattle.std.specs.Prelude.{if◌then◌else◌, not, ◌&&◌, ◌||◌, ◌==◌, option_map, unwrap_or, slice_get}
use Rattle.std.specs.List.{list_all}
use Rattle.std.proofs.lemmas.Bool.{cases_Bool, and_parts, and_from, eqb-true}
use Rattle.wild_types.specs.declared.file.File.{File}
use Rattle.wild_types.specs.declared.file.Group.{Group}
use Rattle.wild_types.specs.declared.input.InputSection.{InputSection}
use Rattle.wild_types.specs.declared.kind.OutputKind.{OutputKind}
use Rattle.wild_types.specs.declared.kind.OutputKind.TheVariants as output
use Rattle.wild_types.specs.declared.layout.Layout.{Layout}
use Rattle.wild_types.specs.declared.part.Role.{Role}
use Rattle.wild_types.specs.declared.symbol.Symbol.{Symbol}
use Rattle.wild_types.specs.FileRoles.{is_prelude, is_epilogue}
use Rattle.wild_types.specs.FileSymbols.{own_symbols, copies_of}
use Rattle.wild_types.specs.Flags.{has_flag, dynamic}
use Rattle.wild_types.specs.Kinds.{needs_dynamic, is_shared_object}
use Rattle.wild_types.specs.Lists.{total}
use Rattle.wild_types.specs.Lookups.{canonical, has_symtab, is_frame, is_read, writable}
use Rattle.wild_types.specs.SymbolSlots.{lacks_slots}
use Rattle.wild_types.proofs.ListLemmas.{total-append}
use Rattle.wild_slot.specs.Treatment.{flags_at}
use Rattle.wild_placement.specs.FrameInputs.{kept_size}
use Rattle.wild_placement.specs.PlacedSections.{address_after, placed_section, placed_sections, placed_file, of_last_file, sorted_sections}
use Rattle.wild_needs.specs.declared.tally.SectionFacts.{SectionFacts}
use Rattle.wild_needs.specs.Entries.{dynamic_relocations, general_count}
use Rattle.wild_needs.specs.Needs.{frames_room, has_plain_role, is_plain, lacks_slots_and_import, has_no_dynamic_tables, is_read_only_input, file_needs_no_tables, group_needs_no_tables, inner_groups, inner_groups_need_no_tables, group_share, total_share}
use Rattle.wild_needs.proofs.EntryLemmas.{false_from_not, fixed_stay}
use Rattle.wild_needs.proofs.RoomLemmas.{frames_kept}
use Rattle.wild_needs.proofs.ShareLemmas.{group_plain}
use Rattle.wild_needs.proofs.SlotShareLemmas.{own_without}
use Rattle.wild_needs.proofs.StandingShares.{group_is_plain}
use Rattle.wild_needs.proofs.TallyLemmas.{other_standing}

-- ---- symbols

without : (ss : List Symbol) → list_all lacks_slots_and_import ss ≡ true → list_all lacks_slots ss ≡ true
without [] h = refl
without (s ∷ ss) h =
    let p = and_parts (lacks_slots_and_import s) (list_all lacks_slots_and_import ss) h in
    let q = and_parts (lacks_slots s) (not (has_flag s.flags dynamic)) p.0 in
    and_from (lacks_slots s) (list_all lacks_slots ss) q.0 (without ss p.1)

unknown : has_flag (record { 0 = 0 }) dynamic ≡ false
unfolding has_flag
unknown = refl

-- none is another module's, and nothing is known of one that is not there
own_at : (ss : List Symbol) (i : ℕ) → list_all lacks_slots_and_import ss ≡ true → has_flag (unwrap_or (option_map (λ (s : Symbol). s.flags) (slice_get ss i)) (record { 0 = 0 })) dynamic ≡ false
own_at [] i h = unknown
own_at (s ∷ ss) zero h =
    let p = and_parts (lacks_slots_and_import s) (list_all lacks_slots_and_import ss) h in
    let q = and_parts (lacks_slots s) (not (has_flag s.flags dynamic)) p.0 in
    false_from_not (has_flag s.flags dynamic) q.1
own_at (s ∷ ss) (suc i) h =
    let p = and_parts (lacks_slots_and_import s) (list_all lacks_slots_and_import ss) h in
    own_at ss i p.1

no_library : (k : OutputKind) → needs_dynamic k ≡ false → is_shared_object k ≡ false
no_library (output.StaticExecutable any) e = refl
no_library (output.DynamicExecutable any) e = refl
no_library output.SharedObject e = cc
no_library output.PartialObject e = refl

neither : (a b : Bool) → a ≡ false → b ≡ false → (a || b) ≡ false
neither true b e f = cc
neither false b e f = f

own_symbol : (l : Layout) → needs_dynamic l.kind ≡ false → list_all lacks_slots_and_import l.symbols ≡ true → (i : ℕ) → (has_flag (flags_at l i) dynamic || is_shared_object l.kind) ≡ false
own_symbol l d h i = neither (has_flag (flags_at l i) dynamic) (is_shared_object l.kind) (own_at l.symbols (canonical l i) h) (no_library l.kind d)

-- ---- sections

left_none : (l : Layout) (s : InputSection) → writable s.flags ≡ false → ((i : ℕ) → (has_flag (flags_at l i) dynamic || is_shared_object l.kind) ≡ false) → length (dynamic_relocations l s) ≡ 0
unfolding dynamic_relocations
left_none l s w own =
    elim (cases_Bool (is_read s)) [
      | inl t ↦ rw t (fixed_stay l s.flags s.relocations w own)
      | inr f ↦ rw f refl
    ]

fixed_none : (l : Layout) (f : File) (at : ℕ) (ss : List InputSection) → list_all is_read_only_input ss ≡ true → ((i : ℕ) → (has_flag (flags_at l i) dynamic || is_shared_object l.kind) ≡ false) → total (λ (s : InputSection). length (dynamic_relocations l s)) (placed_sections l f at ss) ≡ 0
fixed_none l f at [] h own = refl
fixed_none l f at (s ∷ ss) h own =
    let p = and_parts (is_read_only_input s) (list_all is_read_only_input ss) h in
    let q = and_parts (not (is_frame s.slot)) (not (writable s.flags)) p.0 in
    let flags : (placed_section l f at s).flags ≡ s.flags = ap (λ (x : SectionFacts). x.flags) (other_standing l f at s (false_from_not (is_frame s.slot) q.0)) in
    let a = left_none l (placed_section l f at s) (ap writable flags ∙ false_from_not (writable s.flags) q.1) own in
    let b = fixed_none l f (address_after at (kept_size l f s)) ss p.1 own in
    omega (arith, a, b)

none_kept : (l : Layout) (f : File) (s : InputSection) → is_frame s.slot ≡ false → kept_size l f s ≡ 0
unfolding kept_size
none_kept l f s h = rw h refl

fixed_frameless : (l : Layout) (f : File) (ss : List InputSection) → list_all is_read_only_input ss ≡ true → total (kept_size l f) ss ≡ 0
fixed_frameless l f [] h = refl
fixed_frameless l f (s ∷ ss) h =
    let p = and_parts (is_read_only_input s) (list_all is_read_only_input ss) h in
    let q = and_parts (not (is_frame s.slot)) (not (writable s.flags)) p.0 in
    let a = none_kept l f s (false_from_not (is_frame s.slot) q.0) in
    let b = fixed_frameless l f ss p.1 in
    omega (arith, a, b)

-- ---- files

-- the tests of such a file, in such an output
pub record IsBareIn (l : Layout) (f : File) : Type 0 where
  pub static : not (needs_dynamic l.kind) ≡ true
  pub stripped : not (has_symtab l) ≡ true
  pub symbols : list_all lacks_slots_and_import l.symbols ≡ true
  pub first : not (is_prelude f.role) ≡ true
  pub last : not (is_epilogue f.role) ≡ true
  pub copies : length (copies_of f) ≡ 0
  pub sections : list_all is_read_only_input f.sections ≡ true

tests_of : (l : Layout) (f : File) → has_no_dynamic_tables l ≡ true → file_needs_no_tables f ≡ true → IsBareIn l f
tests_of l f h k =
    let a = and_parts (not (needs_dynamic l.kind) && not (has_symtab l)) (list_all lacks_slots_and_import l.symbols) h in
    let b = and_parts (not (needs_dynamic l.kind)) (not (has_symtab l)) a.0 in
    let c = and_parts (not (is_prelude f.role) && not (is_epilogue f.role) && length (copies_of f) == 0) (list_all is_read_only_input f.sections) k in
    let d = and_parts (not (is_prelude f.role) && not (is_epilogue f.role)) (length (copies_of f) == 0) c.0 in
    let e = and_parts (not (is_prelude f.role)) (not (is_epilogue f.role)) d.0 in
    record {
      static = b.0;
      stripped = b.1;
      symbols = a.1;
      first = e.0;
      last = e.1;
      copies = eqb-true _ _ d.1;
      sections = c.1;
    }

bare_general : (l : Layout) (f : File) → IsBareIn l f → general_count l (placed_file l 0 f) ≡ 0
unfolding general_count
bare_general l f t =
    let count : InputSection → ℕ = λ (s : InputSection). length (dynamic_relocations l s) in
    let copies = t.copies in
    let none = fixed_none l f 0 f.sections t.sections (own_symbol l (false_from_not (needs_dynamic l.kind) t.static) t.symbols) in
    let parts = total-append count (placed_sections l f 0 f.sections) (of_last_file f (sorted_sections l)) in
    let last : total count (of_last_file f (sorted_sections l)) ≡ 0 = rw (false_from_not (is_epilogue f.role) t.last) refl in
    omega (arith, copies, none, parts, last)

bare_frames : (l : Layout) (f : File) → IsBareIn l f → frames_room l (placed_file l 0 f) ≡ 0
bare_frames l f t =
    let kept = frames_kept l f 0 f.sections in
    let none = fixed_frameless l f f.sections t.sections in
    let end = no_end l.options.terminator (is_epilogue f.role) 4 (false_from_not (is_epilogue f.role) t.last) in
    omega (arith, kept, none, end)
  where
    no_end : (asked last : Bool) (n : ℕ) → last ≡ false → (if asked then (if last then n else 0) else 0) ≡ 0
    no_end true last n h = rw h refl
    no_end false last n h = refl

bare_plain : (l : Layout) (f : File) → has_no_dynamic_tables l ≡ true → file_needs_no_tables f ≡ true → is_plain l (placed_file l 0 f) ≡ true
bare_plain l f h k =
    let t = tests_of l f h k in
    let role = and_from (not (needs_dynamic l.kind) && not (has_symtab l) && not (is_prelude f.role)) (not (is_epilogue f.role))
    (and_from (not (needs_dynamic l.kind) && not (has_symtab l)) (not (is_prelude f.role)) (and_from (not (needs_dynamic l.kind)) (not (has_symtab l)) t.static t.stripped) t.first) t.last in
    let slots = own_without l f (without l.symbols t.symbols) in
    let general : (general_count l (placed_file l 0 f) == 0) ≡ true = ap (λ (n : ℕ). n == 0) (bare_general l f t) in
    let frames : (frames_room l (placed_file l 0 f) == 0) ≡ true = ap (λ (n : ℕ). n == 0) (bare_frames l f t) in
    and_from (has_plain_role l f) (list_all lacks_slots (own_symbols l f) && (general_count l (placed_file l 0 f) == 0 && frames_room l (placed_file l 0 f) == 0)) role
    (and_from (list_all lacks_slots (own_symbols l f)) (general_count l (placed_file l 0 f) == 0 && frames_room l (placed_file l 0 f) == 0) slots
    (and_from (general_count l (placed_file l 0 f) == 0) (frames_room l (placed_file l 0 f) == 0) general frames))

-- ---- groups

files_bare : (l : Layout) (fs : List File) → has_no_dynamic_tables l ≡ true → list_all file_needs_no_tables fs ≡ true → list_all (λ (f : File). is_plain l (placed_file l 0 f)) fs ≡ true
files_bare l [] h k = refl
files_bare l (f ∷ fs) h k =
    let p = and_parts (file_needs_no_tables f) (list_all file_needs_no_tables fs) k in
    and_from (is_plain l (placed_file l 0 f)) (list_all (λ (f : File). is_plain l (placed_file l 0 f)) fs) (bare_plain l f h p.0) (files_bare l fs h p.1)

-- a group of such files needs nothing
pub bare_needs : (l : Layout) (g : Group) (told : Bool) → told ≡ list_all file_needs_no_tables g.files → has_no_dynamic_tables l ≡ true → told ≡ true → (r : Role) → group_share l r g ≡ 0
bare_needs l g told is h k = λ r. group_plain l r g (sym (group_is_plain l g) ∙ files_bare l g.files h (sym is ∙ k))

-- no symbol of such an output has a slot
pub bare_without : (l : Layout) (told : Bool) → (told ≡ true → has_no_dynamic_tables l ≡ true) → told ≡ true → list_all lacks_slots l.symbols ≡ true
bare_without l told h t = without l.symbols (and_parts (not (needs_dynamic l.kind) && not (has_symtab l)) (list_all lacks_slots_and_import l.symbols) (h t)).1

-- ---- all groups

pub bare_by_inside : (l : Layout) (told : Bool) → (told ≡ true → inner_groups_need_no_tables l ≡ true) → told ≡ true → has_no_dynamic_tables l ≡ true
bare_by_inside l told h t = (and_parts (has_no_dynamic_tables l) (list_all group_needs_no_tables (inner_groups l.groups)) (h t)).0

groups_none : (l : Layout) (r : Role) (gs : List Group) → has_no_dynamic_tables l ≡ true → list_all group_needs_no_tables gs ≡ true → total (group_share l r) gs ≡ 0
groups_none l r [] b h = refl
groups_none l r (g ∷ gs) b h =
    let p = and_parts (group_needs_no_tables g) (list_all group_needs_no_tables gs) h in
    let here = bare_needs l g true (sym p.0) b refl r in
    let rest = groups_none l r gs b p.1 in
    omega (arith, here, rest)

-- the last item, and those before it
last_sum : {X : Type 0} (f : X → ℕ) (x : X) (xs : List X) (last : X) → last ≡ get_or (x ∷ xs) (length xs) last → total f (x ∷ xs) ≡ total f (take (length xs) (x ∷ xs)) + f last
last_sum f x [] last is = let e = ap f is in omega (arith, e)
last_sum f x (y ∷ ys) last is = let e = last_sum f y ys last is in omega (arith, e)

-- where those between the first and the last come to nothing
ends_sum : {X : Type 0} (f : X → ℕ) (xs : List X) (first last : X) → 2 ≤ length xs → first ≡ get_or xs 0 first → last ≡ get_or xs (length xs - 1) last → total f (slice_range xs 1 (length xs - 1)) ≡ 0 → total f xs ≡ f first + f last
ends_sum f [] first last many = absurd (omega (arith, many))
ends_sum f (x ∷ []) first last many = absurd (omega (arith, many))
ends_sum {X} f (x ∷ y ∷ ys) first last many = λ begins ends none.
    let at : length (x ∷ y ∷ ys) - 1 ≡ suc (length ys) = omega arith in
    let count : length (x ∷ y ∷ ys) - 1 - 1 ≡ length ys = omega arith in
    let A : ℕ → Type 0 = λ i. last ≡ get_or (x ∷ y ∷ ys) i last in
    let B : ℕ → Type 0 = λ n. total f (take n (y ∷ ys)) ≡ 0 in
    let e = ap f begins in
    let r = last_sum f y ys last (subst A at ends) in
    let z = subst B count none in
    omega (arith, e, r, z)

-- the first group and the last need what all do
pub ends_need : (l : Layout) (r : Role) (gs : List Group) (first last : Group) → inner_groups_need_no_tables l ≡ true → gs ≡ l.groups → 2 ≤ length gs → first ≡ get_or gs 0 first → last ≡ get_or gs (length gs - 1) last → total_share l r ≡ group_share l r first + group_share l r last
ends_need l r gs first last h is many begins ends =
    let p = and_parts (has_no_dynamic_tables l) (list_all group_needs_no_tables (inner_groups l.groups)) h in
    let Z : List Group → Type 0 = λ (xs : List Group). total (group_share l r) (slice_range xs 1 (length xs - 1)) ≡ 0 in
    let none = subst Z (sym is) (groups_none l r (inner_groups l.groups) p.0 p.1) in
    ap (total (group_share l r)) (sym is) ∙ ends_sum (group_share l r) gs first last many begins ends none
