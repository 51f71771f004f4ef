-- Laws of sections that stand as the plan has them.
use Rattle.wild_image.proofs.Common.{◌≡◌, ℕ, ◌<◌, ◌^◌, Bool, true, false, not, ◌&&◌, if◌then◌else◌, List, [], ◌++◌, length, replicate, All, refl, sym, ap, ◌∙◌, subst, arith, and_parts, true≢false, append-nil, Error, Refuses, Slot, InputSection, File, Layout, is_partial_link, is_header_only_role, is_omitted, has_fields, has_written_relocations, is_frame, is_debug, has_range_bytes, is_filled, is_header_only_part, with_word_order, reversed_section, kept_size, without_relocations, placed_by, placed_section, address_after, section_bytes, MovesApart, frame_bytes_of, SectionLies, FieldLies, section_owned, GroupBytes}
use Rattle.std.proofs.lemmas.Bool.{not-true}
use Rattle.wild_types.specs.declared.input.Slot.TheVariants as slot
use Rattle.wild_types.specs.Item.{item_of, item_with, block_for}
use Rattle.wild_types.specs.declared.part.Role.TheVariants as role
use Rattle.wild_types.specs.Lookups.{is_loaded}
use Rattle.wild_layout.specs.Sites.{item_bytes, bytes_by}
use Rattle.wild_layout.specs.Faults.{placed_section_errors, placed_section_errors_by, section_errors}
use Rattle.wild_layout.proofs.MovedSites.{turned_or_stays}
use Rattle.wild_image.specs.Placed.{is_written_unchanged, IsWrittenUnchanged, unchanged_errors, unchanged_bytes}

loaded_slot : (k : Slot) → is_loaded k ≡ true → k ≡ slot.Loaded
loaded_slot slot.Loaded e = refl
loaded_slot other e = cc

-- what the test tells
pub unchanged_parts : (l : Layout) (s : InputSection) → is_written_unchanged l s ≡ true → IsWrittenUnchanged l s
unfolding is_written_unchanged
unchanged_parts l s h =
    let a = and_parts (is_loaded s.slot) _ h in
    let b = and_parts (not s.nobits) _ a.1 in
    let c = and_parts (not s.reversed) _ b.1 in
    let d = and_parts (not (is_partial_link l.kind)) (is_filled l s) c.1 in
    record { loaded = loaded_slot s.slot a.0; bits = not-true s.nobits b.0; straight = not-true s.reversed c.0; final = not-true (is_partial_link l.kind) d.0; filled = d.1 }

straight_turned : (s : InputSection) → s.reversed ≡ false → with_word_order s ≡ s
unfolding with_word_order
straight_turned s e = ap (λ (b : Bool). if b then reversed_section s else s) e

-- it stands as it is
pub unchanged_section_placed : (l : Layout) (f : File) (at : ℕ) (s : InputSection) → IsWrittenUnchanged l s → placed_section l f at s ≡ s
unfolding placed_section
unchanged_section_placed l f at s h =
    ap (λ (k : Slot). placed_by k l f at s) h.loaded
    ∙ ap (λ (b : Bool). with_word_order (if b then without_relocations s else s)) h.final
    ∙ straight_turned s h.straight

-- so its sites are apart where those of the input are
pub unchanged_moves : (l : Layout) (f : File) (s : InputSection) → IsWrittenUnchanged l s → MovesApart l (item_of l f s) s.relocations
unchanged_moves l f s h =
    subst (λ (x : InputSection). MovesApart l (item_with (block_for l f s) x) s.relocations) (straight_turned s h.straight)
    (turned_or_stays l (block_for l f s) s (λ r. absurd (true≢false (sym r ∙ h.straight))))

unhollow : (given header_only : Bool) → (given && not header_only) ≡ true → header_only ≡ false
unhollow true true e = cc
unhollow true false e = refl
unhollow false header_only e = cc

fields_written : (l : Layout) (s : InputSection) → IsWrittenUnchanged l s → has_written_relocations s ≡ true
fields_written l s h = ap (λ (k : Slot). has_fields k && not s.nobits) h.loaded ∙ ap (λ (b : Bool). not b) h.bits

kept : (l : Layout) (s : InputSection) → IsWrittenUnchanged l s → is_omitted l s ≡ false
kept l s h =
    ap (λ (k : Slot). if is_frame k then is_header_only_role l role.EhFrame else is_header_only_part l s.part) h.loaded
    ∙ unhollow (has_range_bytes l s) (is_header_only_part l s.part) h.filled

written : (l : Layout) (s : InputSection) → IsWrittenUnchanged l s → (has_written_relocations s && not (is_omitted l s)) ≡ true
written l s h = ap (λ (b : Bool). b && not (is_omitted l s)) (fields_written l s h) ∙ ap (λ (b : Bool). not b) (kept l s h)

-- its fields lie in it
pub unchanged_lie : (l : Layout) (s : InputSection) → IsWrittenUnchanged l s → SectionLies l s → All (FieldLies l.machine (length s.bytes)) s.relocations
unchanged_lie l s h lies = subst (λ (n : ℕ). All (FieldLies l.machine n) s.relocations) (sym (lies.bytes (fields_written l s h))) (lies.fields (ap has_fields h.loaded))

-- its faults are those of the section as it stands
so_faults : (l : Layout) (group file : ℕ) (f : File) (at section : ℕ) (s : InputSection) → IsWrittenUnchanged l s → unchanged_errors l group file section f s ≡ section_errors l group file f at section s
unfolding section_errors
so_faults l group file f at section s h =
    sym (
    ap (placed_section_errors l group file f section s) (unchanged_section_placed l f at s h)
    ∙ ap (λ (b : Bool). if b then placed_section_errors_by (is_debug s.slot) l group file f section s s else []) (written l s h)
    ∙ plain s.slot refl h.loaded
    )
  where
    plain : (k : Slot) → s.slot ≡ k → k ≡ slot.Loaded → placed_section_errors_by (is_debug s.slot) l group file f section s s ≡ unchanged_errors l group file section f s
    plain slot.Loaded is e = rw (is, h.final) refl
    plain other is e = cc

pub so_refuses : (l : Layout) (group file : ℕ) (f : File) (at section : ℕ) (s : InputSection) (e : Error) → IsWrittenUnchanged l s → Refuses e (unchanged_errors l group file section f s) → Refuses e (section_errors l group file f at section s)
so_refuses l group file f at section s e h is = subst (Refuses e) (so_faults l group file f at section s h) is

-- its bytes are its own
so_owned : (l : Layout) (f : File) (at : ℕ) (s : InputSection) → IsWrittenUnchanged l s → unchanged_bytes l f s ≡ section_owned l f (placed_section l f at s)
unfolding section_bytes
so_owned l f at s h =
    sym (
    ap (section_owned l f) (unchanged_section_placed l f at s h)
    ∙ ap (λ (b : Bool). if b then section_bytes l f s else []) h.filled
    ∙ ap (λ (b : Bool). if b then replicate s.size 0 else bytes_by s.slot l f s) h.bits
    ∙ ap (λ (k : Slot). bytes_by k l f s) h.loaded
    )

-- it adds no frames
so_frames : (l : Layout) (f : File) (at : ℕ) (s : InputSection) (old : List ℕ) → IsWrittenUnchanged l s → old ≡ old ++ frame_bytes_of l f (placed_section l f at s)
unfolding frame_bytes_of
so_frames l f at s old h =
    sym (
    ap (λ (x : InputSection). old ++ (if is_frame x.slot then item_bytes l (item_of l f x) else [])) (unchanged_section_placed l f at s h)
    ∙ ap (λ (k : Slot). old ++ (if is_frame k then item_bytes l (item_of l f s) else [])) h.loaded
    ∙ append-nil old
    )

none_kept : (l : Layout) (f : File) (s : InputSection) → IsWrittenUnchanged l s → kept_size l f s ≡ 0
unfolding kept_size
none_kept l f s h = rw h.loaded refl

-- those behind it stand where they did
so_next : (l : Layout) (f : File) (at : ℕ) (s : InputSection) → at < 2 ^ 64 → IsWrittenUnchanged l s → at ≡ address_after at (kept_size l f s)
so_next l f at s small h = let none = none_kept l f s h in omega (arith, small, none)

-- what one more section adds, and where the frames behind it stand
pub record Adds (l : Layout) (group file section at next : ℕ) (f : File) (s : InputSection) (old now : GroupBytes) : Type 0 where
  pub faults : section_errors l group file f at section s ≡ []
  pub place : next ≡ address_after at (kept_size l f s)
  pub files : now.files ≡ old.files ++ section_owned l f (placed_section l f at s)
  pub frames : is_header_only_role l role.EhFrame ≡ false → now.frames ≡ old.frames ++ frame_bytes_of l f (placed_section l f at s)
  pub tables : now.tables ≡ old.tables

pub so_adds : (l : Layout) (group file section at next : ℕ) (f : File) (s : InputSection) (old now : GroupBytes) → is_written_unchanged l s ≡ true → at < 2 ^ 64 → unchanged_errors l group file section f s ≡ [] → next ≡ at → now.files ≡ old.files ++ unchanged_bytes l f s → now.frames ≡ old.frames → now.tables ≡ old.tables → Adds l group file section at next f s old now
so_adds l group file section at next f s old now h small none here files frames tables =
    let so = unchanged_parts l s h in
    record {
      faults = sym (so_faults l group file f at section s so) ∙ none;
      place = here ∙ so_next l f at s small so;
      files = files ∙ ap (λ (bs : List ℕ). old.files ++ bs) (so_owned l f at s so);
      frames = λ written. frames ∙ so_frames l f at s old.frames so;
      tables = tables;
    }
