-- The thread-local slots that the writer knows of have the offsets that the reader asks for.
use Rattle.wild_references.proofs.Common.{◌≡◌, ℕ, ◌+◌, ◌-◌, ◌%◌, ◌^◌, ◌<◌, inl, inr, Bool, true, false, List, [], ◌∷◌, Some, None, refl, sym, ap, ◌∙◌, arith, subst, ◌||◌, if◌then◌else◌, w64, cast_unsigned, DtpMod, Machine, SlotWord, General, Resolution, Layout, KeepsAll, has_flag, got_tls_offset, got_tls_module, got_tls_descriptor, setting_of, minus, has_thread_slot, ThreadOffset, ModulePair, OwnModulePair, after_word, HasWords, Memory, World, HasWord, IsPair, IsExecutable, distance_known, word_below, executable_is, MovesByPages, IsPlaced}
use Rattle.std.proofs.lemmas.Bool.{or_left}
use Rattle.wild_types.specs.declared.kind.Machine.TheVariants as machine
use Rattle.wild_types.specs.declared.kind.OutputKind.TheVariants as output
use Rattle.wild_slot.specs.declared.slot.SlotEntry.{SlotEntry}
use Rattle.wild_slot.specs.declared.slot.SlotWord.TheVariants.{Number}
use Rattle.wild_slot.specs.Slots.{storage_pair}
use Rattle.wild_needs.specs.SlotShares.{storage_at, storage_words}
use Rattle.wild_slot.specs.Storage.{thread_pointer}
use Rattle.wild_reloc.specs.declared.expression.SlotSort.TheVariants as sorts
use Rattle.wild_meaning.specs.Slot.{IsOwnPair}
use Rattle.wild_meaning.specs.Thread as judge
use Rattle.wild_meaning.proofs.WorldLemmas.{next_word}
use Rattle.wild_references.proofs.EntryWords.{own_module_filled}
use Rattle.wild_references.proofs.FirstSlots.{thread_held}
use Rattle.wild_references.proofs.OutputKinds.{loadable_cases}
use Rattle.wild_references.proofs.SlotContents.{word_first, words_behind}
use Rattle.wild_references.proofs.SlotTerms.{SlotStands, SlotsStand, by_slot}
use Rattle.wild_references.proofs.Symbols.{IsResolvedBy}
use Rattle.wild_references.proofs.ThreadSlots.{HasPairWords, HasPair, pair_is, offset_first, pair_behind}
use Rattle.wild_references.proofs.ThreadValues.{own_distance, distance_below, pointer_same, own_base, library_base}

-- ---- flags

middle_of : (a b c : Bool) → b ≡ true → (a || (b || c)) ≡ true
middle_of true b c h = refl
middle_of false true c h = refl
middle_of false false c h = cc

-- ---- the offset

offset_stands : (l : Layout) (w : World) (m : Memory) (i at : ℕ) (r : Resolution) → IsPlaced l w m → KeepsAll l → IsResolvedBy l i r → r.got_address ≡ Some at → has_flag r.flags got_tls_offset ≡ true → SlotStands ThreadOffset l w m i at
offset_stands l w m i at r p all d e asked =
    let thread : has_thread_slot r.flags ≡ true = or_left (has_flag r.flags got_tls_offset) (has_flag r.flags got_tls_module || has_flag r.flags got_tls_descriptor) asked in
    let x = offset_first l w m i at r p d asked (thread_held l w m i at r p all d e thread) in
    record { holds = (x.value, x.there, x.is); below = word_below m (w.base + at) x.value x.there }

pub offsets_stand : (l : Layout) (w : World) (m : Memory) → IsPlaced l w m → KeepsAll l → SlotsStand sorts.TpOff l w m
offsets_stand l w m p all = λ i slot h. by_slot sorts.TpOff l i slot (λ (n : ℕ). SlotStands ThreadOffset l w m i n) h (λ r at d e among. by_flag i slot r at d e (has_flag r.flags got_tls_offset) refl among)
  where
    by_flag : (i slot : ℕ) (r : Resolution) (at : ℕ) → IsResolvedBy l i r → r.got_address ≡ Some at → (b : Bool) → has_flag r.flags got_tls_offset ≡ b → (if b then Some at else None) ≡ Some slot → SlotStands ThreadOffset l w m i slot
    by_flag i slot r at d e true asked h = let same : at ≡ slot = cc in subst (λ (n : ℕ). SlotStands ThreadOffset l w m i n) same (offset_stands l w m i at r p all d e asked)
    by_flag i slot r at d e false asked h = cc

-- ---- the pair

pair_at : (l : Layout) (w : World) (m : Memory) (i at : ℕ) → HasPair l w m i at → SlotStands ModulePair l w m i at
pair_at l w m i at h = record { holds = (h.offset, h.pair, h.is); below = word_below m (w.base + at) h.owner h.first }

pair_is_placed : (l : Layout) (w : World) (m : Memory) (i at : ℕ) (r : Resolution) (offset : Bool) → IsPlaced l w m → KeepsAll l → IsResolvedBy l i r → r.got_address ≡ Some at → has_flag r.flags got_tls_module ≡ true → has_flag r.flags got_tls_offset ≡ offset → SlotStands ModulePair l w m i (after_word offset at)
pair_is_placed l w m i at r offset p all d e asked is = by_offset offset (pair_behind l w m i at r offset p d asked is (thread_held l w m i at r p all d e thread))
  where
    thread : has_thread_slot r.flags ≡ true
    thread = middle_of (has_flag r.flags got_tls_offset) (has_flag r.flags got_tls_module) (has_flag r.flags got_tls_descriptor) asked

    by_offset : (b : Bool) → HasPair l w m i (if b then at + 8 else at) → SlotStands ModulePair l w m i (after_word b at)
    by_offset false pair = pair_at l w m i at pair
    by_offset true pair =
        let there = pair_at l w m i (at + 8) pair in
        let low = there.below in
        let same : (at + 8) % 2 ^ 64 ≡ at + 8 = omega (arith, low) in
        subst (λ (n : ℕ). SlotStands ModulePair l w m i n) (sym same) there

pub pairs_stand : (l : Layout) (w : World) (m : Memory) → IsPlaced l w m → KeepsAll l → SlotsStand sorts.TlsGd l w m
pairs_stand l w m p all = λ i slot h. by_slot sorts.TlsGd l i slot (λ (n : ℕ). SlotStands ModulePair l w m i n) h (λ r at d e among. by_flag i slot r at d e (has_flag r.flags got_tls_module) refl among)
  where
    by_flag : (i slot : ℕ) (r : Resolution) (at : ℕ) → IsResolvedBy l i r → r.got_address ≡ Some at → (b : Bool) → has_flag r.flags got_tls_module ≡ b → (if b then Some (after_word (has_flag r.flags got_tls_offset) at) else None) ≡ Some slot → SlotStands ModulePair l w m i slot
    by_flag i slot r at d e true asked h =
        let same : after_word (has_flag r.flags got_tls_offset) at ≡ slot = cc in
        subst (λ (n : ℕ). SlotStands ModulePair l w m i n) same (pair_is_placed l w m i at r (has_flag r.flags got_tls_offset) p all d e asked refl)
    by_flag i slot r at d e false asked h = cc

-- ---- the output's own pair

-- a pair in memory that stands for what offsets in the own module count from
record HasOwnPair (l : Layout) (w : World) (m : Memory) (at : ℕ) : Type 0 where
  pub owner : ℕ
  pub first : HasWord m (w.base + at) owner
  pub pair : IsOwnPair l w m (w.base + at)

own_pair_at : (l : Layout) (w : World) (m : Memory) (i at : ℕ) → HasOwnPair l w m at → SlotStands OwnModulePair l w m i at
own_pair_at l w m i at h = record { holds = h.pair; below = word_below m (w.base + at) h.owner h.first }

-- an executable's counts from the thread pointer
program_same : (d pointer tp start : ℕ) → (pointer + d) % 2 ^ 64 ≡ start → pointer % 2 ^ 64 ≡ tp → 0 ≡ (d + (tp + (2 ^ 64 - start)) % 2 ^ 64) % 2 ^ 64
program_same d pointer tp start begins same = omega (arith, begins, same)

program_pair : (l : Layout) (w : World) (m : Memory) (at : ℕ) → IsPlaced l w m → l.machine ≡ machine.X86_64 → IsExecutable l.kind → HasWords w m at (Number 1 ∷ Number (minus (thread_pointer l.machine l.tls) l.tls.start) ∷ []) → HasOwnPair l w m at
program_pair l w m at p x86 program h =
    let n = minus (thread_pointer l.machine l.tls) l.tls.start in
    let f = p.legal.first program in
    let a = word_first w m at (Number 1) (Number n ∷ []) h in
    let b = word_first w m (at + 8) (Number n) [] (words_behind w m at (Number 1) (Number n ∷ []) h) in
    let dist = cast_unsigned w64 f.distance in
    let words : HasPairWords w m at w.own_module n = record { first = subst (λ (k : ℕ). HasWord m (w.base + at) k) (a.2 ∙ sym f.own) a.1; second = subst (λ (k : ℕ). HasWord m (w.base + at + 8) k) b.2 (next_word w m at b.0 b.1) } in
    let zero = program_same dist (judge.thread_pointer l) (thread_pointer l.machine l.tls) l.tls.start f.is.begins (pointer_same l w p.paged p.tls_end) in
    record {
      owner = w.own_module;
      first = words.first;
      pair = record { begin = 0; counted = own_base l.machine l.kind w x86 program; pair = subst (λ (k : ℕ). IsPair w m (w.base + at) k) (sym zero) (pair_is w m at w.own_module n dist (own_distance l w f) words) };
    }

-- a library's from its data
library_same : (d : ℕ) → d < 2 ^ 64 → (d + 0) % 2 ^ 64 ≡ d
library_same d low = omega (arith, low)

library_pair : (l : Layout) (w : World) (m : Memory) (at : ℕ) → IsPlaced l w m → l.machine ≡ machine.X86_64 → l.kind ≡ output.SharedObject → HasWords w m at (General (record { kind = DtpMod; symbol = 0; addend = 0 }) ∷ Number 0 ∷ []) → HasOwnPair l w m at
library_pair l w m at p x86 library h =
    let e : SlotEntry = record { kind = DtpMod; symbol = 0; addend = 0 } in
    let a = word_first w m at (General e) (Number 0 ∷ []) h in
    let b = word_first w m (at + 8) (Number 0) [] (words_behind w m at (General e) (Number 0 ∷ []) h) in
    let k = p.legal.symbols.known in
    let dist = cast_unsigned w64 k.distance in
    let known = distance_known w w.own_module k in
    let words : HasPairWords w m at w.own_module 0 = record { first = subst (λ (n : ℕ). HasWord m (w.base + at) n) (own_module_filled w m (w.base + at) a.0 a.2) a.1; second = subst (λ (n : ℕ). HasWord m (w.base + at + 8) n) b.2 (next_word w m at b.0 b.1) } in
    record {
      owner = w.own_module;
      first = words.first;
      pair = record { begin = dist; counted = library_base l.machine l.kind w dist x86 library known; pair = subst (λ (n : ℕ). IsPair w m (w.base + at) n) (library_same dist (distance_below w w.own_module k)) (pair_is w m at w.own_module 0 dist known words) };
    }

-- which AArch64 outputs have none of
pub own_pair_stands : (l : Layout) (w : World) (m : Memory) → IsPlaced l w m → KeepsAll l → SlotsStand sorts.TlsLd l w m
own_pair_stands l w m p all = λ i at e. by_machine i at e l.machine refl p.paged
  where
    on_x86_64 : (i at : ℕ) → l.tlsld ≡ Some at → l.machine ≡ machine.X86_64 → SlotStands OwnModulePair l w m i at
    on_x86_64 i at e x86 =
        let same : storage_words l ≡ storage_pair (setting_of l) = ap (storage_at (setting_of l)) e in
        let there = subst (λ (ws : List SlotWord). HasWords w m at ws) same ((p.slots all).pair at e) in
        own_pair_at l w m i at (elim (loadable_cases l.kind p.loadable) [
          | inl program ↦ program_pair l w m at p x86 program (rw (executable_is l.kind program) at there)
          | inr library ↦ library_pair l w m at p x86 library (rw library at there)
        ])

    by_machine : (i at : ℕ) → l.tlsld ≡ Some at → (k : Machine) → l.machine ≡ k → MovesByPages k l w → SlotStands OwnModulePair l w m i at
    by_machine i at e machine.X86_64 is h = on_x86_64 i at e is
    by_machine i at e machine.AArch64 is h = (let none = h.single in let both : None ≡ Some at = sym none ∙ e in cc)
