-- What files have to write where nothing is needed.
use Rattle.std.proofs.Common.{◌≡◌, ℕ, ◌+◌, ◌-◌, ◌*◌, ◌^◌, ◌⊎◌, min, inl, inr, Bool, true, false, List, [], ◌∷◌, length, refl, sym, ap, ◌∙◌, subst, arith}
use Rattle.std.specs.Prelude.{if◌then◌else◌, not, ◌&&◌, ◌||◌, ◌==◌, Option, Some, None, is_some}
use Rattle.std.specs.List.{list_all, list_any, flat_map}
use Rattle.std.proofs.lemmas.Bool.{cases_Bool, and_parts, eqb-true}
use Rattle.wild_relr.specs.RunWords.{packed, block}
use Rattle.wild_types.specs.declared.file.File.{File}
use Rattle.wild_types.specs.declared.file.Group.{Group}
use Rattle.wild_types.specs.declared.input.InputRelocation.{InputRelocation}
use Rattle.wild_types.specs.declared.input.InputSection.{InputSection}
use Rattle.wild_types.specs.declared.layout.Layout.{Layout}
use Rattle.wild_types.specs.declared.layout.Property.{Property}
use Rattle.wild_types.specs.declared.part.Role.{Role}
use Rattle.wild_types.specs.declared.part.Role.TheVariants as role
use Rattle.wild_needs.specs.Dynamic.{tag_entries, dynamic_entries, dynamic_count}
use Rattle.wild_needs.specs.DynamicStrings.{named_strings, string_entries, file_strings, strings_room, needed_count}
use Rattle.wild_needs.specs.Entries.{rela_place, relr_place, relative_items, rela_places, relr_places, words_of, entry_count, word_count, general_count}
use Rattle.wild_types.specs.Kinds.{is_position_independent, needs_dynamic}
use Rattle.wild_types.specs.Lists.{total}
use Rattle.wild_types.specs.Lookups.{has_symtab}
use Rattle.wild_needs.specs.TableSymbols.{has_long, file_items, local_count, global_count, table_strings}
use Rattle.wild_placement.specs.PlacedSections.{address_after, file_frames, frames_at, placed_file, placed_from, placed_files, processed_sections, sorted_sections}
use Rattle.wild_needs.specs.Needs.{bytes_if_last, build_id_room, properties_room, frames_room, bytes_per_image, long_room, file_table_bytes, is_static, share, last_share, group_share, has_plain_role, is_plain, has_last, total_share}
use Rattle.wild_types.specs.FileRoles.{is_prelude, is_epilogue}
use Rattle.wild_types.specs.SymbolSlots.{lacks_slots}
use Rattle.wild_types.specs.FileSymbols.{own_symbols}
use Rattle.wild_types.proofs.LookupLemmas.{plain_still}
use Rattle.wild_types.proofs.ListLemmas.{total-none}
use Rattle.wild_needs.specs.SlotShares.{is_slot_role, header_share, slots_need_nothing, slot_share, relr_got_places, group_relr_got, relr_got_share}
use Rattle.wild_needs.proofs.EntryLemmas.{packed_none, false_from_not}
use Rattle.wild_needs.proofs.SlotBlockLemmas.{places_without}
use Rattle.wild_needs.proofs.SlotShareLemmas.{slots_plain, own_without, others_share}

-- ---- an output that does not move has no entries and no words

pub no_moved : {X : Type 0} (l : Layout) (s : InputSection) (f : InputRelocation → Option X) → is_position_independent l.kind ≡ false → relative_items l s f ≡ []
no_moved l s f h = rw h refl

no_entries : (l : Layout) (f : File) → is_position_independent l.kind ≡ false → entry_count l f ≡ 0
unfolding rela_places
no_entries l f h = total-none (λ (s : InputSection). length (rela_places l s)) (processed_sections l f) (λ s. ap length (no_moved l s (rela_place l s) h))

no_words : (l : Layout) (f : File) → is_position_independent l.kind ≡ false → word_count l f ≡ 0
unfolding relr_places
no_words l f h = total-none (λ (s : InputSection). length (words_of l s)) f.sections (λ s. ap (λ (ps : List ℕ). length (packed ps)) (no_moved l s (relr_place l s) h) ∙ ap length packed_none)

-- ---- one without dynamic linking has no dynamic section

no_strings : (l : Layout) (f : File) → needs_dynamic l.kind ≡ false → strings_room l f ≡ 0
unfolding file_strings
no_strings l f h = rw h refl

no_dynamic : (l : Layout) → needs_dynamic l.kind ≡ false → dynamic_count l ≡ 0
unfolding dynamic_entries named_strings tag_entries string_entries
no_dynamic l h = rw h refl

-- ---- one without a table of all symbols has no entries there

no_items : (l : Layout) (f : File) → has_symtab l ≡ false → file_items l f ≡ []
unfolding file_items
no_items l f h = rw h refl

no_locals : (l : Layout) (f : File) → has_symtab l ≡ false → local_count l f ≡ 0
no_locals l f h = let e = no_items l f h in rw (h, e) refl

no_globals : (l : Layout) (f : File) → has_symtab l ≡ false → global_count l f ≡ 0
no_globals l f h = let e = no_items l f h in rw e refl

no_names : (l : Layout) (f : File) → has_symtab l ≡ false → table_strings l f ≡ []
unfolding table_strings
no_names l f h = let e = no_items l f h in rw (h, e) refl

no_indexes : (l : Layout) (r : Role) (n : ℕ) → n ≡ 0 → long_room l r n ≡ 0
no_indexes l r n h =
    elim (cases_Bool (has_long l r)) [
      | inl t ↦ rw (t, h) refl
      | inr f ↦ rw f refl
    ]

-- ---- shares

-- what a file has to write in an output that no loader relocates and that has no table of all symbols
abbrev static_of : Layout → Role → File → ℕ
static_of l role.RelaDynGeneral f = general_count l f
static_of l role.EhFrame f = frames_room l f
static_of l role.BuildId f = bytes_if_last f.role (build_id_room l.build_id)
static_of l role.Property f = bytes_if_last f.role (properties_room l.properties)
static_of l other f = 0

-- without these an output without a dynamic section and a table of all symbols has nothing of its own
own_none : (l : Layout) (r : Role) (f : File) → needs_dynamic l.kind ≡ false → has_symtab l ≡ false → static_of l r f ≡ 0 → file_table_bytes l r f ≡ 0
own_none l role.RelaDynRelative f d t g = let e = no_entries l f (plain_still l.kind d) in rw e refl
own_none l role.RelaDynGeneral f d t g = rw g refl
own_none l role.RelrDyn f d t g = let e = no_words l f (plain_still l.kind d) in rw e refl
own_none l role.Dynsym f d t g = rw d refl
own_none l role.Dynstr f d t g = no_strings l f d
own_none l role.GnuVersion f d t g =
    elim (cases_Bool l.options.versions) [
      | inl v ↦ rw (v, d) refl
      | inr n ↦ rw n refl
    ]
own_none l role.GnuVersionD f d t g = rw d refl
own_none l role.GnuVersionR f d t g = rw d refl
own_none l role.SysvHash f d t g = rw d refl
own_none l role.GnuHash f d t g = rw d refl
own_none l role.Dynamic f d t g = let e = no_dynamic l d in by_end (is_epilogue f.role) e
  where
    by_end : (b : Bool) → dynamic_count l ≡ 0 → 16 * (needed_count l f + (if b then dynamic_count l else 0)) ≡ 0
    by_end true e = rw (d, e) refl
    by_end false e = rw d refl
own_none l role.SymtabLocal f d t g = let e = no_locals l f t in rw e refl
own_none l role.SymtabGlobal f d t g = let e = no_globals l f t in rw e refl
own_none l role.SymtabShndxLocal f d t g = no_indexes l role.SymtabShndxLocal (local_count l f) (no_locals l f t)
own_none l role.SymtabShndxGlobal f d t g = no_indexes l role.SymtabShndxGlobal (global_count l f) (no_globals l f t)
own_none l role.Strtab f d t g = let e = no_names l f t in rw e refl
own_none l role.EhFrame f d t g = g
own_none l role.BuildId f d t g = g
own_none l role.Property f d t g = g
own_none l other f d t g = refl

-- notes that are not there
no_build_id : (o : Option (List ℕ)) (last : Bool) → is_some o ≡ false → (if last then build_id_room o else 0) ≡ 0
no_build_id None true h = refl
no_build_id None false h = refl
no_build_id (Some id) last h = cc

no_properties : (ps : List Property) (none last : Bool) → none ≡ (length ps == 0) → not none ≡ false → (if last then properties_room ps else 0) ≡ 0
no_properties ps true true e h = rw (← e) refl
no_properties ps true false e h = refl
no_properties ps false last e h = cc

-- parts of other roles have none of them
none_of_others : (l : Layout) (r : Role) (f : File) → is_static l r ≡ false → static_of l r f ≡ 0
none_of_others l role.RelaDynGeneral f k = cc
none_of_others l role.EhFrame f k = cc
none_of_others l role.BuildId f k = no_build_id l.build_id (is_epilogue f.role) k
none_of_others l role.Property f k = no_properties l.properties (length l.properties == 0) (is_epilogue f.role) refl k
none_of_others l other f k = refl

-- slots take nothing of parts of the role
pub record TakesNone (l : Layout) (r : Role) : Type 0 where
  pub header : header_share l r ≡ 0
  pub slots : (f : File) → slot_share l r f ≡ 0
  pub block : (g : Group) → relr_got_share l r g ≡ 0

no_places : (l : Layout) (files : List File) → list_all lacks_slots l.symbols ≡ true → flat_map (λ (f : File). flat_map (relr_got_places l) (own_symbols l f)) files ≡ []
no_places l [] h = refl
no_places l (f ∷ files) h = rw (places_without l (own_symbols l f) (own_without l f h)) (no_places l files h)

no_block : (l : Layout) (r : Role) (g : Group) → (is_slot_role r ≡ false) ⊎ (list_all lacks_slots l.symbols ≡ true) → relr_got_share l r g ≡ 0
unfolding group_relr_got block
no_block l role.RelrDyn g (inl h) = cc
no_block l role.RelrDyn g (inr h) = let e = no_places l g.files h in rw e refl
no_block l other g h = refl

no_header : (l : Layout) (r : Role) → is_slot_role r ≡ false → header_share l r ≡ 0
no_header l role.Got h = cc
no_header l role.RelaDynGeneral h = cc
no_header l other h = refl

none_taken : (l : Layout) (r : Role) → slots_need_nothing l r ≡ true → TakesNone l r
none_taken l r h =
    elim (cases_Bool (is_slot_role r)) [
      | inl of ↦
          let p = and_parts (header_share l r == 0) (list_all lacks_slots l.symbols) (subst (λ (b : Bool). (not b || (header_share l r == 0 && list_all lacks_slots l.symbols)) ≡ true) of h) in
          record { header = eqb-true _ _ p.0; slots = λ f. slots_plain l r f (own_without l f p.1); block = λ g. no_block l r g (inr p.1) }
      | inr none ↦ record { header = no_header l r none; slots = λ f. others_share l r f none; block = λ g. no_block l r g (inl none) }
    ]

-- nothing stands behind all else, where nothing moves
sorted_none : (l : Layout) (ss : List InputSection) → is_position_independent l.kind ≡ false → flat_map (words_of l) ss ≡ []
unfolding relr_places
sorted_none l [] h = refl
sorted_none l (s ∷ ss) h = rw (ap packed (no_moved l s (relr_place l s) h) ∙ packed_none) (sorted_none l ss h)

no_last : (l : Layout) (r : Role) (g : Group) → is_position_independent l.kind ≡ false → last_share l r g ≡ 0
no_last l role.RelrDyn g h = let e = sorted_none l (sorted_sections l) h in by_last (has_last g) e
  where
    by_last : (b : Bool) → flat_map (words_of l) (sorted_sections l) ≡ [] → (if b then 8 * length (flat_map (words_of l) (sorted_sections l)) else 0) ≡ 0
    by_last true e = rw e refl
    by_last false e = refl
no_last l other g h = refl

share_none : (l : Layout) (r : Role) (f : File) → needs_dynamic l.kind ≡ false → has_symtab l ≡ false → TakesNone l r → is_static l r ≡ false → bytes_per_image l r ≡ 0 → share l r f ≡ 0
share_none l r f d t s k w =
    let own = own_none l r f d t (none_of_others l r f k) in
    let slots = s.slots f in
    let header = s.header in
    elim (cases_Bool (is_prelude f.role)) [
      | inl first ↦ rw (first, w, own, slots, header) refl
      | inr later ↦ rw (later, own, slots) refl
    ]

-- where nothing stands once in the image and slots take nothing, an output without a dynamic section and a table of all symbols needs nothing
-- but for entries of resolvers, frames and notes
pub no_share : (l : Layout) (r : Role) (n : ℕ) → n ≡ min (2 ^ 64 - 1) (bytes_per_image l r) → needs_dynamic l.kind ≡ false → has_symtab l ≡ false → is_static l r ≡ false → slots_need_nothing l r ≡ true → n ≡ 0 → total_share l r ≡ 0
no_share l r n is d t k s none =
    let w : bytes_per_image l r ≡ 0 = least (bytes_per_image l r) n is none in
    let slots = none_taken l r s in
    total-none (group_share l r) l.groups (λ g. let files = total-none (share l r) (placed_files l g) (λ f. share_none l r f d t slots k w) in let block = slots.block g in let last = no_last l r g (plain_still l.kind d) in rw (files, block, last) refl)
  where
    least : (k n : ℕ) → n ≡ min (2 ^ 64 - 1) k → n ≡ 0 → k ≡ 0
    least k n e z = omega (arith, e, z)

-- ---- a file that is neither first nor last, in an output without a dynamic section

-- the tests of a plain file
pub record Tests (l : Layout) (f : File) : Type 0 where
  pub static : needs_dynamic l.kind ≡ false
  pub stripped : has_symtab l ≡ false
  pub first : is_prelude f.role ≡ false
  pub last : is_epilogue f.role ≡ false
  pub without : list_all lacks_slots (own_symbols l f) ≡ true
  pub none : general_count l f ≡ 0
  pub frameless : frames_room l f ≡ 0

tests_of : (l : Layout) (f : File) → is_plain l f ≡ true → Tests l f
tests_of l f h =
    let p = and_parts (has_plain_role l f) (list_all lacks_slots (own_symbols l f) && (general_count l f == 0 && frames_room l f == 0)) h in
    let q = and_parts (list_all lacks_slots (own_symbols l f)) (general_count l f == 0 && frames_room l f == 0) p.1 in
    let e = and_parts (general_count l f == 0) (frames_room l f == 0) q.1 in
    let a = and_parts (not (needs_dynamic l.kind) && not (has_symtab l) && not (is_prelude f.role)) (not (is_epilogue f.role)) p.0 in
    let b = and_parts (not (needs_dynamic l.kind) && not (has_symtab l)) (not (is_prelude f.role)) a.0 in
    let c = and_parts (not (needs_dynamic l.kind)) (not (has_symtab l)) b.0 in
    record {
      static = false_from_not (needs_dynamic l.kind) c.0;
      stripped = false_from_not (has_symtab l) c.1;
      first = false_from_not (is_prelude f.role) b.1;
      last = false_from_not (is_epilogue f.role) a.1;
      without = q.0;
      none = eqb-true _ _ e.0;
      frameless = eqb-true _ _ e.1;
    }

static_none : (l : Layout) (r : Role) (f : File) → Tests l f → static_of l r f ≡ 0
static_none l role.RelaDynGeneral f t = t.none
static_none l role.EhFrame f t = t.frameless
static_none l role.BuildId f t = rw t.last refl
static_none l role.Property f t = rw t.last refl
static_none l other f t = refl

share_plain : (l : Layout) (r : Role) (f : File) → is_plain l f ≡ true → share l r f ≡ 0
share_plain l r f h =
    let t = tests_of l f h in
    let own = own_none l r f t.static t.stripped (static_none l r f t) in
    let slots = slots_plain l r f t.without in
    rw (t.first, own, slots) refl

-- a list of such files
total_plain : (l : Layout) (r : Role) (files : List File) → list_all (is_plain l) files ≡ true → total (share l r) files ≡ 0
total_plain l r [] h = refl
total_plain l r (f ∷ files) h =
    let p = and_parts (is_plain l f) (list_all (is_plain l) files) h in
    let a = share_plain l r f p.0 in
    let b = total_plain l r files p.1 in
    omega (arith, a, b)

-- none of their words is in the group's block
places_plain : (l : Layout) (at : ℕ) (files : List File) → list_all (is_plain l) (placed_from l at files) ≡ true → flat_map (λ (f : File). flat_map (relr_got_places l) (own_symbols l f)) files ≡ []
places_plain l at [] h = refl
places_plain l at (f ∷ files) h =
    let p = and_parts (is_plain l (placed_file l at f)) (list_all (is_plain l) (placed_from l (address_after at (file_frames l f)) files)) h in
    let t = tests_of l (placed_file l at f) p.0 in
    rw (places_without l (own_symbols l f) t.without) (places_plain l (address_after at (file_frames l f)) files p.1)

block_plain : (l : Layout) (r : Role) (g : Group) → list_all (is_plain l) (placed_files l g) ≡ true → relr_got_share l r g ≡ 0
unfolding group_relr_got block placed_files
block_plain l role.RelrDyn g h = let e = places_plain l (frames_at l g) g.files h in rw e refl
block_plain l other g h = refl

-- none of them is the last
none_last : (l : Layout) (at : ℕ) (files : List File) → list_all (is_plain l) (placed_from l at files) ≡ true → list_any (λ (f : File). is_epilogue f.role) files ≡ false
none_last l at [] h = refl
none_last l at (f ∷ files) h =
    let p = and_parts (is_plain l (placed_file l at f)) (list_all (is_plain l) (placed_from l (address_after at (file_frames l f)) files)) h in
    let t = tests_of l (placed_file l at f) p.0 in
    let rest = none_last l (address_after at (file_frames l f)) files p.1 in
    rw (t.last, rest) refl

last_plain : (l : Layout) (r : Role) (g : Group) → list_all (is_plain l) (placed_files l g) ≡ true → last_share l r g ≡ 0
unfolding placed_files
last_plain l role.RelrDyn g h = let e = none_last l (frames_at l g) g.files h in rw e refl
last_plain l other g h = refl

pub group_plain : (l : Layout) (r : Role) (g : Group) → list_all (is_plain l) (placed_files l g) ≡ true → group_share l r g ≡ 0
group_plain l r g h =
    let files = total_plain l r (placed_files l g) h in
    let block = block_plain l r g h in
    let last = last_plain l r g h in
    omega (arith, files, block, last)

-- a test that told it
pub plain_needs : (l : Layout) (g : Group) (told : Bool) → told ≡ list_all (is_plain l) (placed_files l g) → told ≡ true → (r : Role) → group_share l r g ≡ 0
plain_needs l g told is h = λ r. group_plain l r g (sym is ∙ h)
