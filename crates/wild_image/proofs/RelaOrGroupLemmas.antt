-- Laws of sections that debuggers read, and of what is made of tables of relocations and of groups.
use Rattle.wild_image.proofs.Common.{◌≡◌, ℕ, Bool, true, false, inl, inr, not, ◌&&◌, if◌then◌else◌, List, [], ◌++◌, length, All, refl, sym, ap, ◌∙◌, subst, arith, Result, Ok, Err, OnOk, ◌==◌, cases_Bool, eqb-true, and_parts, append-nil, nil_from_length, Error, Slot, InputSection, File, Layout, Answers, is_header_only_role, is_omitted, has_range, has_fields, is_read, has_written_relocations, is_frame, is_debug, is_rela, has_range_bytes, is_filled, is_header_only_part, PlacedContent, section_bytes, FieldLies, SectionLies, section_owned}
use Rattle.std.proofs.lemmas.Bool.{not-false}
use Rattle.wild_types.specs.declared.input.Slot.TheVariants as slot
use Rattle.wild_types.specs.declared.part.Role.TheVariants as role
use Rattle.wild_types.specs.Lookups.{has_relocations, has_counted}
use Rattle.wild_layout.specs.Debug.{debug_bytes}
use Rattle.wild_layout.specs.Partial.{rela_bytes_of, group_words}
use Rattle.wild_layout.specs.Faults.{debug_errors}
use Rattle.wild_layout.proofs.DebugLemmas.{length-debug_bytes}
use Rattle.wild_layout.proofs.PartialLemmas.{section_bytes_debug, section_bytes_rela, section_bytes_group}
use Rattle.wild_image.specs.Placed.{written_faults, kept_section_faults, IsRelaOrGroup}

-- ---- what debuggers read

pub debug_slot : (k : Slot) → is_debug k ≡ true → k ≡ slot.Debug
debug_slot slot.Debug h = refl
debug_slot other h = cc

written_debug : (k : Slot) (nobits : Bool) → is_debug k ≡ true → nobits ≡ false → (has_fields k && not nobits) ≡ true
written_debug slot.Debug nobits h n = rw n refl
written_debug other nobits h n = cc

pub not_given : (given header_only : Bool) → (given && not header_only) ≡ false → header_only ≡ false → given ≡ false
not_given true true h e = cc
not_given true false h e = cc
not_given false header_only h e = refl

debug_no_frame : (k : Slot) → is_debug k ≡ true → is_frame k ≡ false
debug_no_frame slot.Debug h = refl
debug_no_frame other h = cc

-- where it is written, so is its part
debug_part : (l : Layout) (s : InputSection) → is_debug s.slot ≡ true → is_omitted l s ≡ false → is_header_only_part l s.part ≡ false
debug_part l s debug written = sym (ap (λ (b : Bool). if b then is_header_only_role l role.EhFrame else is_header_only_part l s.part) (debug_no_frame s.slot debug)) ∙ written

-- its bytes are as many as its size
debug_long : (l : Layout) (s : InputSection) → is_debug s.slot ≡ true → s.nobits ≡ false → SectionLies l s → length s.bytes ≡ s.size
debug_long l s debug whole lies = lies.bytes (written_debug s.slot s.nobits debug whole)

fields_debug : (k : Slot) → is_debug k ≡ true → has_fields k ≡ true
fields_debug slot.Debug h = refl
fields_debug other h = cc

-- its fields lie in its bytes
pub debug_lies : (l : Layout) (s : InputSection) → is_debug s.slot ≡ true → s.nobits ≡ false → SectionLies l s → All (FieldLies l.machine (length s.bytes)) s.relocations
debug_lies l s debug whole lies = subst (λ (n : ℕ). All (FieldLies l.machine n) s.relocations) (sym (debug_long l s debug whole lies)) (lies.fields (fields_debug s.slot debug))

empty_by : (k : Slot) (nobits : Bool) (some other : Bool) (n : ℕ) → k ≡ slot.Debug → nobits ≡ false → (has_range k && (if nobits then some else if is_rela k then other else not (n == 0))) ≡ false → n ≡ 0
empty_by k nobits some other n is whole h = eqb-true n 0 (not-false (n == 0) (rw (is, whole) at h))

debug_owned : (l : Layout) (f : File) (s : InputSection) → is_debug s.slot ≡ true → s.nobits ≡ false → is_omitted l s ≡ false → SectionLies l s → section_owned l f s ≡ debug_bytes l s
debug_owned l f s debug whole written lies =
    let is = debug_slot s.slot debug in
    elim (cases_Bool (is_filled l s)) [
      | inl t ↦ rw t (section_bytes_debug l f s is whole)
      | inr n ↦
          (let none = empty_by s.slot s.nobits _ _ (length s.bytes) is whole (not_given (has_range_bytes l s) (is_header_only_part l s.part) n (debug_part l s debug written)) in
          let long = length-debug_bytes l s (debug_lies l s debug whole lies) in
          rw n (sym (nil_from_length (debug_bytes l s) (long ∙ none))))
    ]

-- its faults are those of its relocations
pub debug_answers : (l : Layout) (group file section : ℕ) (f : File) (x : PlacedContent) (r : Result (Unit {0}) Error) → is_debug x.section.slot ≡ true → x.section.nobits ≡ false → Answers r (debug_errors l group file section x.section x.origins) → Answers r (kept_section_faults l group file section f x)
unfolding kept_section_faults
debug_answers l group file section f x r debug whole h =
    let w : has_written_relocations x.section ≡ true = written_debug x.section.slot x.section.nobits debug whole in
    rw (w, debug) h

pub debug_added : (l : Layout) (s : InputSection) (r : Result (Unit {0}) Error) (old new : List ℕ) → is_debug s.slot ≡ true → s.nobits ≡ false → is_omitted l s ≡ false → SectionLies l s → OnOk r (new ≡ old ++ debug_bytes l s) → OnOk r ((f : File) → new ≡ old ++ section_owned l f s)
debug_added l s (Ok u) old new debug whole written lies h = λ f. h ∙ ap (λ (bs : List ℕ). old ++ bs) (sym (debug_owned l f s debug whole written lies))
debug_added l s (Err e) old new debug whole written lies h = h

-- ---- what is made

rela_slot : (k : Slot) → is_rela k ≡ true → k ≡ slot.Rela
rela_slot slot.Rela h = refl
rela_slot other h = cc

group_slot : (k : Slot) (nobits rest : Bool) → (has_range k && rest) ≡ true → nobits ≡ false → (has_relocations k && not nobits) ≡ false → is_debug k ≡ false → is_rela k ≡ false → k ≡ slot.Group
group_slot slot.Group nobits rest range whole unread debug rela = refl
group_slot slot.Loaded nobits rest range whole unread debug rela = cc (rw whole at unread)
group_slot slot.Debug nobits rest range whole unread debug rela = cc
group_slot slot.Rela nobits rest range whole unread debug rela = cc
group_slot other nobits rest range whole unread debug rela = cc

made_rela : (l : Layout) (f : File) (s : InputSection) → IsRelaOrGroup l s → is_rela s.slot ≡ true → section_bytes l f s ≡ rela_bytes_of l s
made_rela l f s made rela = section_bytes_rela l f s (rela_slot s.slot rela) made.whole

made_group : (l : Layout) (f : File) (s : InputSection) → IsRelaOrGroup l s → is_rela s.slot ≡ false → section_bytes l f s ≡ group_words s
made_group l f s made other = section_bytes_group l f s (group_slot s.slot s.nobits _ ((and_parts (has_range_bytes l s) _ made.filled).0) made.whole made.unread made.other other) made.whole

-- how many bytes are made
pub rela_size : (l : Layout) (f : File) (s : InputSection) → IsRelaOrGroup l s → is_rela s.slot ≡ true → length (section_bytes l f s) ≡ s.size → length (rela_bytes_of l s) ≡ s.size
rela_size l f s made rela long = sym (ap length (made_rela l f s made rela)) ∙ long

pub group_size : (l : Layout) (f : File) (s : InputSection) → IsRelaOrGroup l s → is_rela s.slot ≡ false → length (section_bytes l f s) ≡ s.size → length (group_words s) ≡ s.size
group_size l f s made other long = sym (ap length (made_group l f s made other)) ∙ long

-- they are the section's
pub rela_added : (l : Layout) (f : File) (s : InputSection) (old new : List ℕ) → IsRelaOrGroup l s → is_rela s.slot ≡ true → new ≡ old ++ rela_bytes_of l s → new ≡ old ++ section_owned l f s
rela_added l f s old new made rela h = let t = made.filled in h ∙ ap (λ (bs : List ℕ). old ++ bs) (rw t (sym (made_rela l f s made rela)))

pub group_added : (l : Layout) (f : File) (s : InputSection) (old new : List ℕ) → IsRelaOrGroup l s → is_rela s.slot ≡ false → new ≡ old ++ group_words s → new ≡ old ++ section_owned l f s
group_added l f s old new made other h = let t = made.filled in h ∙ ap (λ (bs : List ℕ). old ++ bs) (rw t (sym (made_group l f s made other)))

-- ---- what is neither

unwritten_by : (k : Slot) (nobits : Bool) → is_debug k ≡ false → nobits ≡ false → (has_relocations k && not nobits) ≡ false → (has_fields k && not nobits) ≡ false
unwritten_by slot.Loaded nobits other whole unread = unread
unwritten_by slot.Frame nobits other whole unread = unread
unwritten_by slot.Debug nobits other whole unread = cc
unwritten_by rest nobits other whole unread = refl

-- no relocation of it is written
pub no_faults : (l : Layout) (group file section : ℕ) (f : File) (x : PlacedContent) → is_read x.section ≡ false → x.section.nobits ≡ false → is_debug x.section.slot ≡ false → kept_section_faults l group file section f x ≡ []
unfolding kept_section_faults
no_faults l group file section f x unread whole other = let w : has_written_relocations x.section ≡ false = unwritten_by x.section.slot x.section.nobits other whole unread in rw w refl

pub nothing_added : (l : Layout) (f : File) (s : InputSection) (old : List ℕ) → is_filled l s ≡ false → old ≡ old ++ section_owned l f s
nothing_added l f s old none = rw none (sym (append-nil old))

-- what holds in any case
pub ok_holds : {T E P : Type 0} (r : Result T E) → P → OnOk r P
ok_holds (Ok x) p = p
ok_holds (Err e) p = tt
