-- What an entry leaves of the word of a slot.
use Rattle.wild_references.proofs.Common.{◌≡◌, ◌≢◌, ℕ, ◌+◌, ◌%◌, ◌^◌, ◌<◌, false, Option, Some, None, Result, Ok, Err, refl, sym, ap, ◌∙◌, arith, subst, ◌==◌, slice_get, All, w64, cast_unsigned, ne_eqb, DtpMod, Irelative, first_value, distance_of, LoadFault, Memory, Answer, World, IsAnswer}
use Rattle.std.specs.Int.{cast_signed}
use Rattle.std.proofs.lemmas.Int.{of_z-to_z}
use Rattle.wild_reloc.specs.declared.dynamic.DynamicRelocationKind.{DynamicRelocationKind}
use Rattle.wild_reloc.specs.declared.dynamic.DynamicRelocationKind.TheVariants.{DtpOff, TpOff, TlsDesc}
use Rattle.wild_geometry.specs.Loaded.{MakesChange, entry_with}
use Rattle.wild_geometry.specs.Slots.{IsWordAfterChange, IsFilledBy}
use Rattle.wild_loader.specs.Outcome.{◌>>=◌, known}
use Rattle.wild_loader.specs.Changes.{kind_of, change_of, answer_of, answer_at, module_and_offset, thread_offset}
use Rattle.wild_loader.specs.declared.change.Change.{Change}
use Rattle.wild_loader.specs.declared.change.Change.TheVariants as changes
use Rattle.wild_loader.specs.declared.kind.DynamicKind.{DynamicKind}
use Rattle.wild_loader.specs.declared.memory.Machine.TheVariants as processors
use Rattle.wild_loader.specs.declared.memory.Machine.{Machine as Processor}
use Rattle.wild_geometry.specs.EntryKinds.{loaded_kind, address_kind}
use Rattle.wild_words.proofs.Basics.{listed_at}
use Rattle.std.proofs.lemmas.List.Elements.{All-contains}

-- ---- steps

-- a step that gives something was given something
pub after_known : {A B : Type 0} (o : Option A) (f : LoadFault) (g : A → Result B LoadFault) (c : B) → (known o f >>= g) ≡ Ok c → (x : A) × (o ≡ Some x) × (g x ≡ Ok c)
after_known None f g c h = cc
after_known (Some x) f g c h = (x, refl, h)

pub after_step : {A B : Type 0} (o : Result A LoadFault) (g : A → Result B LoadFault) (c : B) → (o >>= g) ≡ Ok c → (x : A) × (o ≡ Ok x) × (g x ≡ Ok c)
after_step (Ok x) g c h = (x, refl, h)
after_step (Err e) g c h = cc

-- the change of an entry, by what the entries of its number do
pub change_by : (p : Processor) (w : World) (n s a : ℕ) (c : Change) (k : DynamicKind) → kind_of p n ≡ Some k → MakesChange p w n s a c → change_of w k (entry_with n s a) ≡ Ok c
change_by p w n s a c k is h =
    let same : Some k ≡ Some h.kind = sym is ∙ h.known in
    let e : k ≡ h.kind = cc in
    subst (λ (x : DynamicKind). change_of w x (entry_with n s a) ≡ Ok c) (sym e) h.makes

-- the number in a word where the change stores one
abbrev made : Change → Result Change LoadFault
made c = Ok c

stored : (m : Memory) (place x v : ℕ) (c : Change) → made (changes.Word v) ≡ made c → IsWordAfterChange m place c x → x ≡ v
stored m place x v c e h =
    let same : changes.Word v ≡ c = cc in
    subst (λ (d : Change). IsWordAfterChange m place d x) (sym same) h

-- ---- entries that name a symbol

-- what such an entry is asked of: the answer for its index
pub record IsAnsweredBy (w : World) (d : ℕ) : Type 0 where
  pub answer : Answer
  pub there : slice_get w.symbols d ≡ Some answer

-- GLOB_DAT and JUMP_SLOT store the address
pub address_filled : (w : World) (m : Memory) (place d x : ℕ) (kind : DynamicRelocationKind) → All (IsAnswer w) w.symbols → loaded_kind m.machine kind ≡ address_kind m.machine → IsFilledBy w m place (record { kind = kind; symbol = d; addend = 0 }) x → (a : IsAnsweredBy w d) × (x ≡ a.answer.address)
unfolding change_of
address_filled w m place d x kind each is f = by_processor m.machine (subst (λ (k : DynamicKind). change_of w k (entry_with 0 d 0) ≡ Ok f.change) is f.makes)
  where
    by_processor : (p : Processor) → change_of w (address_kind p) (entry_with 0 d 0) ≡ Ok f.change → (a : IsAnsweredBy w d) × (x ≡ a.answer.address)
    by_processor processors.X86_64 h =
        let a = after_known (slice_get w.symbols d) _ _ f.change h in
        (record { answer = a.0; there = a.1 }, stored m place x a.0.address f.change a.2 f.leaves)
    by_processor processors.AArch64 h =
        let a = after_known (slice_get w.symbols d) _ _ f.change h in
        let low = (All-contains (IsAnswer w) w.symbols a.0 each (listed_at w.symbols d a.0 a.1)).address in
        let e = stored m place x ((a.0.address + 0) % 2 ^ 64) f.change a.2 f.leaves in
        (record { answer = a.0; there = a.1 }, omega (arith, e, low))

-- DTPMOD stores the module, and DTPOFF the offset in it
-- of an index behind the null symbol
named_pair : (w : World) (d : ℕ) (p : ℕ × ℕ) → d ≢ 0 → module_and_offset w d ≡ Ok p → (a : IsAnsweredBy w d) × (p ≡ (a.answer.module, a.answer.offset))
named_pair w d p some h =
    let not : (d == 0) ≡ false = ne_eqb d 0 some in
    let here : (answer_of w d >>= λ a. Ok (a.module, a.offset)) ≡ Ok p = rw not at h in
    let a = after_known (slice_get w.symbols d) _ _ p here in
    let same : (a.0.module, a.0.offset) ≡ p = (let e : Ok (a.0.module, a.0.offset) ≡ Ok p = a.2 in cc) in
    (record { answer = a.0; there = a.1 }, sym same)

pub module_filled : (w : World) (m : Memory) (place d x : ℕ) → d ≢ 0 → IsFilledBy w m place (record { kind = DtpMod; symbol = d; addend = 0 }) x → (a : IsAnsweredBy w d) × (x ≡ a.answer.module)
unfolding change_of
module_filled w m place d x some f =
    let h = f.makes in
    let p = after_step (module_and_offset w d) _ f.change h in
    let a = named_pair w d p.0 some p.1 in
    (a.0, stored m place x p.0.0 f.change p.2 f.leaves ∙ ap (λ (q : ℕ × ℕ). q.0) a.1)

pub own_module_filled : (w : World) (m : Memory) (place x : ℕ) → IsFilledBy w m place (record { kind = DtpMod; symbol = 0; addend = 0 }) x → x ≡ w.own_module
unfolding change_of
own_module_filled w m place x f =
    let h = f.makes in
    stored m place x w.own_module f.change h f.leaves

pub offset_filled : (w : World) (m : Memory) (place d x : ℕ) → IsFilledBy w m place (record { kind = DtpOff; symbol = d; addend = 0 }) x → (a : IsAnsweredBy w d) × (x ≡ (a.answer.offset + 0) % 2 ^ 64)
unfolding change_of
offset_filled w m place d x f =
    let h = f.makes in
    let a = after_known (slice_get w.symbols d) _ _ f.change h in
    (record { answer = a.0; there = a.1 }, stored m place x ((a.0.offset + 0) % 2 ^ 64) f.change a.2 f.leaves)

-- ---- offsets from the thread pointer

-- the distance of a module and an offset in its data, and the addend
record IsThreadWord (w : World) (module_number offset a x : ℕ) : Type 0 where
  pub distance : ℕ
  pub known : distance_of w module_number ≡ Ok distance
  pub is : x ≡ ((distance + offset) % 2 ^ 64 + cast_unsigned w64 (cast_signed w64 a)) % 2 ^ 64

-- what such an entry makes of its symbol and its addend
abbrev IsThreadStep : World → (d a x : ℕ) → Type 0
IsThreadStep w d a x = (p : ℕ × ℕ) × (module_and_offset w d ≡ Ok p) × IsThreadWord w p.0 p.1 a x

thread_step : (w : World) (n d a o : ℕ) → thread_offset w (entry_with n d a) ≡ Ok o → IsThreadStep w d a o
thread_step w n d a o h =
    let p = after_step (module_and_offset w d) _ o h in
    let t = after_step (distance_of w p.0.0) _ o p.2 in
    let same : ((t.0 + p.0.1) % 2 ^ 64 + cast_unsigned w64 (cast_signed w64 a)) % 2 ^ 64 ≡ o = (let e : Ok (((t.0 + p.0.1) % 2 ^ 64 + cast_unsigned w64 (cast_signed w64 a)) % 2 ^ 64) ≡ Ok o = t.2 in cc) in
    (p.0, p.1, record { distance = t.0; known = t.1; is = sym same })

-- of a symbol
named_thread : (w : World) (d x : ℕ) → d ≢ 0 → IsThreadStep w d 0 x → (a : IsAnsweredBy w d) × (t : ℕ) × (distance_of w a.answer.module ≡ Ok t) × (x ≡ ((t + a.answer.offset) % 2 ^ 64 + 0) % 2 ^ 64)
named_thread w d x some h =
    let a = named_pair w d h.0 some h.1 in
    let t = h.2 in
    let first : h.0.0 ≡ a.0.answer.module = ap (λ (q : ℕ × ℕ). q.0) a.1 in
    let second : h.0.1 ≡ a.0.answer.offset = ap (λ (q : ℕ × ℕ). q.1) a.1 in
    (a.0, t.distance, subst (λ (n : ℕ). distance_of w n ≡ Ok t.distance) first t.known, t.is ∙ ap (λ (n : ℕ). ((t.distance + n) % 2 ^ 64 + 0) % 2 ^ 64) second)

-- or of a place in the own module
own_thread : (w : World) (a x : ℕ) → a < 2 ^ 64 → IsThreadStep w 0 a x → (t : ℕ) × (distance_of w w.own_module ≡ Ok t) × (x ≡ ((t + 0) % 2 ^ 64 + a) % 2 ^ 64)
own_thread w a x low h =
    let e : Ok (w.own_module, 0) ≡ Ok h.0 = h.1 in
    let same : (w.own_module, 0) ≡ h.0 = cc in
    let first : h.0.0 ≡ w.own_module = ap (λ (q : ℕ × ℕ). q.0) (sym same) in
    let second : h.0.1 ≡ 0 = ap (λ (q : ℕ × ℕ). q.1) (sym same) in
    let t = h.2 in
    (t.distance, subst (λ (n : ℕ). distance_of w n ≡ Ok t.distance) first t.known, t.is ∙ ap (λ (n : ℕ). ((t.distance + n) % 2 ^ 64 + cast_unsigned w64 (cast_signed w64 a)) % 2 ^ 64) second ∙ ap (λ (n : ℕ). ((t.distance + 0) % 2 ^ 64 + n) % 2 ^ 64) (of_z-to_z w64 a low))

-- TPOFF stores it
thread_word : (w : World) (m : Memory) (place d a x : ℕ) → IsFilledBy w m place (record { kind = TpOff; symbol = d; addend = a }) x → IsThreadStep w d a x
unfolding change_of
thread_word w m place d a x f =
    let h = f.makes in
    let o = after_step (thread_offset w (entry_with 0 d a)) _ f.change h in
    subst (λ (n : ℕ). IsThreadStep w d a n) (sym (stored m place x o.0 f.change o.2 f.leaves)) (thread_step w 0 d a o.0 o.1)

pub thread_filled : (w : World) (m : Memory) (place d x : ℕ) → d ≢ 0 → IsFilledBy w m place (record { kind = TpOff; symbol = d; addend = 0 }) x → (a : IsAnsweredBy w d) × (t : ℕ) × (distance_of w a.answer.module ≡ Ok t) × (x ≡ ((t + a.answer.offset) % 2 ^ 64 + 0) % 2 ^ 64)
thread_filled w m place d x some f = named_thread w d x some (thread_word w m place d 0 x f)

pub own_thread_filled : (w : World) (m : Memory) (place a x : ℕ) → a < 2 ^ 64 → IsFilledBy w m place (record { kind = TpOff; symbol = 0; addend = a }) x → (t : ℕ) × (distance_of w w.own_module ≡ Ok t) × (x ≡ ((t + 0) % 2 ^ 64 + a) % 2 ^ 64)
own_thread_filled w m place a x low f = own_thread w a x low (thread_word w m place 0 a x f)

-- TLSDESC notes it for a descriptor
noted : (m : Memory) (place x o : ℕ) (c : Change) → made (changes.Descriptor o) ≡ made c → IsWordAfterChange m place c x → first_value m.descriptors place ≡ Some o
noted m place x o c e h =
    let same : changes.Descriptor o ≡ c = cc in
    subst (λ (d : Change). IsWordAfterChange m place d x) (sym same) h

descriptor_word : (w : World) (m : Memory) (place d a x : ℕ) → IsFilledBy w m place (record { kind = TlsDesc; symbol = d; addend = a }) x → (o : ℕ) × (first_value m.descriptors place ≡ Some o) × IsThreadStep w d a o
unfolding change_of
descriptor_word w m place d a x f =
    let h = f.makes in
    let o = after_step (thread_offset w (entry_with 0 d a)) _ f.change h in
    (o.0, noted m place x o.0 f.change o.2 f.leaves, thread_step w 0 d a o.0 o.1)

pub descriptor_filled : (w : World) (m : Memory) (place d x : ℕ) → d ≢ 0 → IsFilledBy w m place (record { kind = TlsDesc; symbol = d; addend = 0 }) x → (o : ℕ) × (first_value m.descriptors place ≡ Some o) × (a : IsAnsweredBy w d) × (t : ℕ) × (distance_of w a.answer.module ≡ Ok t) × (o ≡ ((t + a.answer.offset) % 2 ^ 64 + 0) % 2 ^ 64)
descriptor_filled w m place d x some f =
    let o = descriptor_word w m place d 0 x f in
    let a = named_thread w d o.0 some o.2 in
    (o.0, o.1, a.0, a.1, a.2, a.3)

pub own_descriptor_filled : (w : World) (m : Memory) (place a x : ℕ) → a < 2 ^ 64 → IsFilledBy w m place (record { kind = TlsDesc; symbol = 0; addend = a }) x → (o : ℕ) × (first_value m.descriptors place ≡ Some o) × (t : ℕ) × (distance_of w w.own_module ≡ Ok t) × (o ≡ ((t + 0) % 2 ^ 64 + a) % 2 ^ 64)
own_descriptor_filled w m place a x low f =
    let o = descriptor_word w m place 0 a x f in
    let t = own_thread w a o.0 low o.2 in
    (o.0, o.1, t.0, t.1, t.2)

-- ---- resolvers

-- IRELATIVE stores what a resolver answers
pub chosen_filled : (w : World) (m : Memory) (place a x : ℕ) → a < 2 ^ 64 → IsFilledBy w m place (record { kind = Irelative; symbol = 0; addend = a }) x → answer_at w ((w.base + a) % 2 ^ 64) ≡ Ok x
unfolding change_of
chosen_filled w m place a x low f =
    let h = f.makes in
    let v = after_step (answer_at w ((w.base + cast_unsigned w64 (cast_signed w64 a)) % 2 ^ 64)) _ f.change h in
    let is : x ≡ v.0 = stored m place x v.0 f.change v.2 f.leaves in
    let there = subst (λ (n : ℕ). answer_at w ((w.base + n) % 2 ^ 64) ≡ Ok v.0) (of_z-to_z w64 a low) v.1 in
    subst (λ (n : ℕ). answer_at w ((w.base + a) % 2 ^ 64) ≡ Ok n) (sym is) there
