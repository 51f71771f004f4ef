-- The slots of a thread-local symbol in memory: its offset from the thread pointer, and its pair.
use Rattle.wild_references.proofs.Common.{◌≡◌, ◌≢◌, ℕ, ◌+◌, ◌-◌, ◌%◌, ◌^◌, ◌<◌, ◌⊎◌, inl, inr, Bool, true, false, List, [], ◌∷◌, ◌++◌, Option, Some, None, refl, sym, ap, ◌∙◌, arith, subst, Ok, ◌==◌, ◌&&◌, ◌||◌, not, if◌then◌else◌, w64, cast_unsigned, eqb-true, DtpMod, SlotItem, Resolution, ValueFlags, Layout, has_flag, interposable, dynamic, non_interposable, copy_relocation, export_dynamic, got_tls_offset, got_tls_module, is_executable, setting_of, general, named, items_if, thread_items, minus, has_dynamic_symbol, distance_of, Memory, World, HasWord, IsPair, HasRaw, IsReplaceable, is_library, may_be_replaced, IsFirstModule, distance_known, IsPlaced}
use Rattle.wild_reloc.specs.declared.dynamic.DynamicRelocationKind.TheVariants.{TpOff}
use Rattle.wild_slot.specs.declared.slot.SlotFault.TheVariants.{TlsOutOfSegment}
use Rattle.wild_slot.specs.declared.slot.SlotItem.TheVariants.{Fault}
use Rattle.wild_slot.specs.Slots.{number, offset_item, module_item, module_offset, module_offset_item, module_items, descriptor_items}
use Rattle.wild_slot.specs.Storage.{thread_pointer, is_outside}
use Rattle.wild_meaning.specs.Thread as judge
use Rattle.wild_meaning.proofs.WorldLemmas.{next_word}
use Rattle.wild_meaning.proofs.OutputLemmas.{is_program}
use Rattle.wild_references.proofs.AnsweredValues.{has_answer, answered_offset, answer_fits, place_same}
use Rattle.wild_references.proofs.EntryWords.{module_filled, own_module_filled, offset_filled, thread_filled, own_thread_filled}
use Rattle.wild_references.proofs.FirstSlots.{own_flags}
use Rattle.wild_references.proofs.OutputKinds.{no_library}
use Rattle.wild_references.proofs.SlotContents.{ItemsHold}
use Rattle.wild_references.proofs.SlotFlags.{symbol_fits, dynamic_interposable}
use Rattle.wild_references.proofs.Symbols.{IsResolvedBy, replaceable_by, resolved_raw}
use Rattle.wild_references.proofs.ThreadValues.{placed_thread, thread_place, thread_sum, pointer_same}

-- ---- whose symbol it is

pub whose_own : (l : Layout) (w : World) (m : Memory) (i : ℕ) (r : Resolution) → IsPlaced l w m → IsResolvedBy l i r → may_be_replaced l.kind r.flags ≡ false → IsReplaceable l i false
whose_own l w m i r p d own =
    let flags : r.flags ≡ d.symbol.flags = (symbol_fits l i d.symbol p.symbols d.listed).flags r d.decided in
    subst (λ (b : Bool). IsReplaceable l i b) (ap (λ (f : ValueFlags). may_be_replaced l.kind f) (sym flags) ∙ own) (replaceable_by l i r d)

-- an index that was decided is behind the null symbol
pub index_some : (l : Layout) (w : World) (m : Memory) (i d : ℕ) (r : Resolution) → IsPlaced l w m → IsResolvedBy l i r → r.dynamic_symbol_index ≡ Some d → d ≢ 0
index_some l w m i d r p by e = (symbol_fits l i by.symbol p.symbols by.listed).index r d by.decided e

-- ---- the offset

-- the word has the offset
pub record HasOffsetWord (l : Layout) (w : World) (m : Memory) (i at : ℕ) (rest : List SlotItem) : Type 0 where
  pub value : ℕ
  pub there : HasWord m (w.base + at) value
  pub is : judge.HasThreadOffset l w i value
  pub behind : ItemsHold w m (at + 8) rest

-- an executable's own is the address less the thread pointer
offset_same : (place raw tp pointer : ℕ) → (place % 2 ^ 64 + 0) % 2 ^ 64 ≡ (raw + 0 + (2 ^ 64 - pointer)) % 2 ^ 64 → pointer ≡ tp → (raw + (2 ^ 64 - tp)) % 2 ^ 64 ≡ place % 2 ^ 64
offset_same place raw tp pointer sum same = omega (arith, sum, same)

program_offset : (l : Layout) (w : World) (m : Memory) (i t : ℕ) (r : Resolution) → IsPlaced l w m → IsResolvedBy l i r → is_executable l.kind ≡ true → t ≡ minus r.raw_value (thread_pointer l.machine l.tls) → judge.HasOwnOffset l w i t
program_offset l w m i t r p d program e =
    let f = p.legal.first (is_program l.kind program) in
    let place = cast_unsigned w64 f.distance + r.raw_value + (2 ^ 64 - l.tls.start) in
    let same = offset_same place r.raw_value (thread_pointer l.machine l.tls) (judge.thread_pointer l % 2 ^ 64) (thread_sum l w r.raw_value 0 f) (pointer_same l w p.paged p.tls_end) in
    inl (subst (λ (n : ℕ). judge.IsThreadPlace l w i n) (sym (e ∙ same)) (thread_place l w i r.raw_value f (resolved_raw l i r d)))

-- a library's own is its place in the module's data
pub library_same : (t raw start x : ℕ) → x ≡ ((t + 0) % 2 ^ 64 + (raw + (2 ^ 64 - start)) % 2 ^ 64) % 2 ^ 64 → x ≡ (t + raw + (2 ^ 64 - start)) % 2 ^ 64
library_same t raw start x e = omega (arith, e)

pub less_below : (raw start : ℕ) → minus raw start < 2 ^ 64
less_below raw start = omega arith

pub looked_same : (t offset x : ℕ) → x ≡ ((t + offset) % 2 ^ 64 + 0) % 2 ^ 64 → x ≡ (t + offset) % 2 ^ 64
looked_same t offset x e = omega (arith, e)

-- of a symbol that a loader looks up
looked_up : (l : Layout) (w : World) (m : Memory) (i at : ℕ) (r : Resolution) (rest : List SlotItem) → IsPlaced l w m → IsResolvedBy l i r → ItemsHold w m at (named r.dynamic_symbol_index (λ d. general TpOff d 0) ∷ rest) → HasOffsetWord l w m i at rest
looked_up l w m i at r rest p by h = by_index r.dynamic_symbol_index refl h
  where
    by_index : (o : Option ℕ) → r.dynamic_symbol_index ≡ o → ItemsHold w m at (named o (λ d. general TpOff d 0) ∷ rest) → HasOffsetWord l w m i at rest
    by_index None e h = absurd h
    by_index (Some d) e h =
        let x = h.0 in
        let a = thread_filled w m (w.base + at) d x.0 (index_some l w m i d r p by e) x.2 in
        let is = answered_offset l w i r.raw_value a.1 a.0.answer p.legal.symbols (has_answer l w i d r by e a.0) (resolved_raw l i r by) a.2 in
        record { value = x.0; there = x.1; is = subst (λ (n : ℕ). judge.HasThreadOffset l w i n) (sym (looked_same a.1 a.0.answer.offset x.0 a.3)) is; behind = h.1 }

offset_held : (l : Layout) (w : World) (m : Memory) (i at : ℕ) (r : Resolution) (rest : List SlotItem) → IsPlaced l w m → IsResolvedBy l i r → ItemsHold w m at (offset_item (setting_of l) r ∷ rest) → HasOffsetWord l w m i at rest
offset_held l w m i at r rest p d h = by_tests (has_dynamic_symbol r.flags) (r.raw_value == 0) (is_outside l.tls r.raw_value) (is_executable l.kind) refl refl (λ t. eqb-true r.raw_value 0 t) h
  where
    by_tests : (looked zero outside program : Bool) → has_dynamic_symbol r.flags ≡ looked → is_executable l.kind ≡ program → (zero ≡ true → r.raw_value ≡ 0)
        → ItemsHold w m at ((if looked then named r.dynamic_symbol_index (λ d. general TpOff d 0) else if zero then number 0 else if outside then Fault (TlsOutOfSegment r.raw_value) else if program then number (minus r.raw_value (thread_pointer l.machine l.tls)) else general TpOff 0 (minus r.raw_value l.tls.start)) ∷ rest) → HasOffsetWord l w m i at rest
    by_tests true zero outside program e f z h = looked_up l w m i at r rest p d h
    by_tests false true outside program e f z h =
        let own = whose_own l w m i r p d (own_flags l.kind r.flags e) in
        let raw = subst (λ (a : ℕ). HasRaw l i a) (z refl) (resolved_raw l i r d) in
        record { value = h.0.0; there = h.0.1; is = inr (own, inr (inr raw, h.0.2)); behind = h.1 }
    by_tests false false true program e f z h = absurd h
    by_tests false false false true e f z h =
        let own = whose_own l w m i r p d (own_flags l.kind r.flags e) in
        record { value = h.0.0; there = h.0.1; is = inr (own, program_offset l w m i h.0.0 r p d f h.0.2); behind = h.1 }
    by_tests false false false false e f z h =
        let own = whose_own l w m i r p d (own_flags l.kind r.flags e) in
        let t = own_thread_filled w m (w.base + at) (minus r.raw_value l.tls.start) h.0.0 (less_below r.raw_value l.tls.start) h.0.2 in
        let place = placed_thread l w i r.raw_value t.0 t.1 (resolved_raw l i r d) in
        record { value = h.0.0; there = h.0.1; is = inr (own, inl (subst (λ (n : ℕ). judge.IsThreadPlace l w i n) (sym (library_same t.0 r.raw_value l.tls.start h.0.0 t.2)) place)); behind = h.1 }

-- ---- the pair

-- two words: a module, and an offset in its data
pub record HasPairWords (w : World) (m : Memory) (at owner offset : ℕ) : Type 0 where
  pub first : HasWord m (w.base + at) owner
  pub second : HasWord m (w.base + at + 8) offset

-- they stand for that offset and the module's distance
pub pair_is : (w : World) (m : Memory) (at owner offset d : ℕ) → distance_of w owner ≡ Ok d → HasPairWords w m at owner offset → IsPair w m (w.base + at) ((d + offset) % 2 ^ 64)
pair_is w m at owner offset d known words = record { owner = owner; first = words.first; offset = offset; second = words.second; distance = d; known = known; sum = refl }

-- a pair in memory that stands for the symbol's offset from the thread pointer
pub record HasPair (l : Layout) (w : World) (m : Memory) (i at : ℕ) : Type 0 where
  pub owner : ℕ
  pub first : HasWord m (w.base + at) owner
  pub offset : ℕ
  pub pair : IsPair w m (w.base + at) offset
  pub is : judge.HasThreadOffset l w i offset

answer_same : (d offset x : ℕ) → x ≡ (offset + 0) % 2 ^ 64 → (d + x) % 2 ^ 64 ≡ (d + offset) % 2 ^ 64
answer_same d offset x e = omega (arith, e)

own_answer_same : (raw start offset x : ℕ) → x ≡ (offset + 0) % 2 ^ 64 → offset ≡ (raw + (2 ^ 64 - start)) % 2 ^ 64 → x ≡ (raw + (2 ^ 64 - start)) % 2 ^ 64
own_answer_same raw start offset x e f = omega (arith, e, f)

-- of the output's own symbol, in its own module
own_pair : (l : Layout) (w : World) (m : Memory) (i at offset : ℕ) (r : Resolution) → IsPlaced l w m → IsResolvedBy l i r → IsReplaceable l i false → HasPairWords w m at w.own_module offset → offset ≡ (r.raw_value + (2 ^ 64 - l.tls.start)) % 2 ^ 64 → HasPair l w m i at
own_pair l w m i at offset r p d own words e =
    let k = p.legal.symbols.known in
    let dist = cast_unsigned w64 k.distance in
    let known = distance_known w w.own_module k in
    let place = placed_thread l w i r.raw_value dist known (resolved_raw l i r d) in
    record {
      owner = w.own_module;
      first = words.first;
      offset = (dist + offset) % 2 ^ 64;
      pair = pair_is w m at w.own_module offset dist known words;
      is = inr (own, inl (subst (λ (n : ℕ). judge.IsThreadPlace l w i n) (sym (place_same dist offset r.raw_value l.tls.start e)) place));
    }

-- the second word: the offset of the answer, or the own one
abbrev second_item : Layout → Resolution → Option ℕ → SlotItem
second_item l r o = module_offset (setting_of l) r.raw_value o

-- of an own symbol each of both is the same
own_second : (l : Layout) (w : World) (m : Memory) (i at owner : ℕ) (r : Resolution) (rest : List SlotItem) (o : Option ℕ) → IsPlaced l w m → IsResolvedBy l i r → IsReplaceable l i false → (o ≡ None) ⊎ (r.dynamic_symbol_index ≡ o) → owner ≡ w.own_module → HasWord m (w.base + at) owner → ItemsHold w m (at + 8) (second_item l r o ∷ rest) → HasPair l w m i at
own_second l w m i at owner r rest None p d own told e first h =
    own_pair l w m i at h.0.0 r p d own (record { first = subst (λ (n : ℕ). HasWord m (w.base + at) n) e first; second = next_word w m at h.0.0 h.0.1 }) h.0.2
own_second l w m i at owner r rest (Some index) p d own (inl none) e first h = cc
own_second l w m i at owner r rest (Some index) p d own (inr told) e first h =
    let a = offset_filled w m (w.base + (at + 8)) index h.0.0 h.0.2 in
    let is = p.legal.symbols.own i a.0.answer own (has_answer l w i index r d told a.0) in
    let same = own_answer_same r.raw_value l.tls.start a.0.answer.offset h.0.0 a.1 (is.offset r.raw_value (resolved_raw l i r d)) in
    own_pair l w m i at h.0.0 r p d own (record { first = subst (λ (n : ℕ). HasWord m (w.base + at) n) e first; second = next_word w m at h.0.0 h.0.1 }) same

-- of a symbol that a loader looks up
named_pair : (l : Layout) (w : World) (m : Memory) (i at index : ℕ) (r : Resolution) (rest : List SlotItem) → IsPlaced l w m → IsResolvedBy l i r → (told : r.dynamic_symbol_index ≡ Some index) → ItemsHold w m at (general DtpMod index 0 ∷ second_item l r (Some index) ∷ rest) → HasPair l w m i at
named_pair l w m i at index r rest p by told h =
    let x = h.0 in
    let y = h.1.0 in
    let a = module_filled w m (w.base + at) index x.0 (index_some l w m i index r p by told) x.2 in
    let b = offset_filled w m (w.base + (at + 8)) index y.0 y.2 in
    let fits = answer_fits l w index p.legal.symbols b.0 in
    let dist = cast_unsigned w64 fits.known.distance in
    let known = distance_known w b.0.answer.module fits.known in
    let same : Some a.0.answer ≡ Some b.0.answer = sym a.0.there ∙ b.0.there in
    let one : a.0.answer ≡ b.0.answer = cc in
    let owner_is : x.0 ≡ b.0.answer.module = a.1 ∙ ap (λ z. z.module) one in
    let words : HasPairWords w m at b.0.answer.module y.0 = record { first = subst (λ (n : ℕ). HasWord m (w.base + at) n) owner_is x.1; second = next_word w m at y.0 y.1 } in
    let offset = answered_offset l w i r.raw_value dist b.0.answer p.legal.symbols (has_answer l w i index r by told b.0) (resolved_raw l i r by) known in
    record {
      owner = b.0.answer.module;
      first = words.first;
      offset = (dist + y.0) % 2 ^ 64;
      pair = pair_is w m at b.0.answer.module y.0 dist known words;
      is = subst (λ (n : ℕ). judge.HasThreadOffset l w i n) (sym (answer_same dist b.0.answer.offset y.0 b.1)) offset;
    }

-- an executable's own symbol, which another module may replace in no executable
program_flags : (l : Layout) (f : ValueFlags) → is_executable l.kind ≡ true → has_flag f dynamic ≡ false → may_be_replaced l.kind f ≡ false
program_flags l f program none = by_tests (has_flag f dynamic) (has_flag f copy_relocation) (is_library l.kind) (has_flag f export_dynamic && not (has_flag f non_interposable)) none (no_library l.kind (is_program l.kind program))
  where
    by_tests : (a copied library seen : Bool) → a ≡ false → library ≡ false → ((a && not copied) || (library && seen)) ≡ false
    by_tests false copied false seen e f = refl
    by_tests true copied library seen e f = cc
    by_tests false copied true seen e f = cc

-- one that none may replace
pub fixed_flags : (l : Layout) (f : ValueFlags) → (has_flag f dynamic ≡ true → interposable f ≡ true) → interposable f ≡ false → may_be_replaced l.kind f ≡ false
fixed_flags l f open_one fixed = by_tests (has_flag f dynamic) (has_flag f copy_relocation) (is_library l.kind) (has_flag f export_dynamic) (has_flag f non_interposable) open_one fixed
  where
    by_tests : (a copied library exported b : Bool) → (a ≡ true → not b ≡ true) → not b ≡ false → ((a && not copied) || (library && (exported && not b))) ≡ false
    by_tests a copied library exported false e f = cc
    by_tests true copied library exported true e f = (let n : false ≡ true = e refl in cc)
    by_tests false copied false exported true e f = refl
    by_tests false copied true true true e f = refl
    by_tests false copied true false true e f = refl

pair_held : (l : Layout) (w : World) (m : Memory) (i at : ℕ) (r : Resolution) (rest : List SlotItem) → IsPlaced l w m → IsResolvedBy l i r → ItemsHold w m at (module_item (setting_of l) r ∷ module_offset_item (setting_of l) r ∷ rest) → HasPair l w m i at
pair_held l w m i at r rest p d h = by_tests (is_executable l.kind) (has_flag r.flags dynamic) (interposable r.flags) refl refl refl h
  where
    open_one : has_flag r.flags dynamic ≡ true → interposable r.flags ≡ true
    open_one e =
        let fits = symbol_fits l i d.symbol p.symbols d.listed in
        let flags : r.flags ≡ d.symbol.flags = fits.flags r d.decided in
        ap (λ (f : ValueFlags). interposable f) flags ∙ dynamic_interposable d.symbol fits.interposable (ap (λ (f : ValueFlags). has_flag f dynamic) (sym flags) ∙ e)

    first_own : (f : IsFirstModule l w) → 1 ≡ w.own_module
    first_own f = sym f.own

    told_by : (b : Bool) → ((if b then r.dynamic_symbol_index else None) ≡ None) ⊎ (r.dynamic_symbol_index ≡ (if b then r.dynamic_symbol_index else None))
    told_by true = inr refl
    told_by false = inl refl

    program_own : (open_flag : Bool) → is_executable l.kind ≡ true → has_flag r.flags dynamic ≡ false → ItemsHold w m at (number 1 ∷ second_item l r (if open_flag then r.dynamic_symbol_index else None) ∷ rest) → HasPair l w m i at
    program_own b program none h =
        let own = whose_own l w m i r p d (program_flags l r.flags program none) in
        own_second l w m i at h.0.0 r rest (if b then r.dynamic_symbol_index else None) p d own (told_by b) (h.0.2 ∙ first_own (p.legal.first (is_program l.kind program))) h.0.1 h.1

    by_index : (o : Option ℕ) → r.dynamic_symbol_index ≡ o → ItemsHold w m at (named o (λ d. general DtpMod d 0) ∷ second_item l r o ∷ rest) → HasPair l w m i at
    by_index None e h = absurd h
    by_index (Some index) e h = named_pair l w m i at index r rest p d e h

    others : (open_flag : Bool) → interposable r.flags ≡ open_flag → ItemsHold w m at ((if open_flag then named r.dynamic_symbol_index (λ d. general DtpMod d 0) else general DtpMod 0 0) ∷ second_item l r (if open_flag then r.dynamic_symbol_index else None) ∷ rest) → HasPair l w m i at
    others true e h = by_index r.dynamic_symbol_index refl h
    others false e h =
        let own = whose_own l w m i r p d (fixed_flags l r.flags open_one e) in
        own_second l w m i at h.0.0 r rest None p d own (inl refl) (own_module_filled w m (w.base + at) h.0.0 h.0.2) h.0.1 h.1

    by_tests : (program other open_flag : Bool) → is_executable l.kind ≡ program → has_flag r.flags dynamic ≡ other → interposable r.flags ≡ open_flag
        → ItemsHold w m at ((if program && not other then number 1 else if open_flag then named r.dynamic_symbol_index (λ d. general DtpMod d 0) else general DtpMod 0 0) ∷ second_item l r (if open_flag then r.dynamic_symbol_index else None) ∷ rest) → HasPair l w m i at
    by_tests true false b e f g h = program_own b e f h
    by_tests true true b e f g h = others b g h
    by_tests false other b e f g h = others b g h

-- ---- among the slots of the symbol

-- the offset is the first
pub offset_first : (l : Layout) (w : World) (m : Memory) (i at : ℕ) (r : Resolution) → IsPlaced l w m → IsResolvedBy l i r → has_flag r.flags got_tls_offset ≡ true → ItemsHold w m at (thread_items (setting_of l) r) → HasOffsetWord l w m i at (module_items (setting_of l) r ++ descriptor_items (setting_of l) r)
offset_first l w m i at r p d asked h =
    let s = setting_of l in
    let more = module_items s r ++ descriptor_items s r in
    offset_held l w m i at r more p d (subst (λ (b : Bool). ItemsHold w m at (items_if b (offset_item s r ∷ []) ++ more)) asked h)

paired : (l : Layout) (w : World) (m : Memory) (i at : ℕ) (r : Resolution) → IsPlaced l w m → IsResolvedBy l i r → has_flag r.flags got_tls_module ≡ true → ItemsHold w m at (module_items (setting_of l) r ++ descriptor_items (setting_of l) r) → HasPair l w m i at
paired l w m i at r p d asked h =
    let s = setting_of l in
    pair_held l w m i at r (descriptor_items s r) p d (subst (λ (b : Bool). ItemsHold w m at (items_if b (module_item s r ∷ module_offset_item s r ∷ []) ++ descriptor_items s r)) asked h)

-- the pair is behind it, where it is there
pub pair_behind : (l : Layout) (w : World) (m : Memory) (i at : ℕ) (r : Resolution) (offset : Bool) → IsPlaced l w m → IsResolvedBy l i r → has_flag r.flags got_tls_module ≡ true → has_flag r.flags got_tls_offset ≡ offset → ItemsHold w m at (thread_items (setting_of l) r) → HasPair l w m i (if offset then at + 8 else at)
pair_behind l w m i at r true p d asked e h = paired l w m i (at + 8) r p d asked (offset_first l w m i at r p d e h).behind
pair_behind l w m i at r false p d asked e h =
    let s = setting_of l in
    let more = module_items s r ++ descriptor_items s r in
    paired l w m i at r p d asked (subst (λ (b : Bool). ItemsHold w m at (items_if b (offset_item s r ∷ []) ++ more)) e h)
