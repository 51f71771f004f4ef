-- What the clauses say of a kept item: where it lies, and what its relocations name.
use Rattle.wild_references.proofs.Common.{IsLoadable, ◌≡◌, ℕ, zero, suc, ◌+◌, ◌-◌, ◌/◌, ◌%◌, ◌^◌, ◌<◌, ◌≤◌, inl, inr, List, [], ◌++◌, length, map, take, drop, get_or, slice_range, true, sym, subst, arith, ◌*◌, All, ◌==◌, ◌&&◌, nat_le, nat_lt, slice_index, range_with_len, eqb-true, cases_lt, All-nil, All-cons, word, place, shf_execinstr, InputRelocation, InputSection, File, Layout, Item, allocated, IsLaidOut, NamesSymbol, AddendFits, NumbersFit, IsSet}
use Rattle.wild_geometry.proofs.ReadLemmas.{read_fields, read_written}
use Rattle.wild_meaning.proofs.OutputLemmas.{not_partial}
use Rattle.std.specs.Int.RustNames.{bit_and}
use Rattle.std.proofs.lemmas.Nat.Bits.{and_pow}
use Rattle.std.proofs.lemmas.List.{get_or_past}
use Rattle.std.proofs.lemmas.List.Elements.{All-append, All-take, All-drop, All-map, All-filter, All-contains}
use Rattle.wild_words.specs.Words.{number_at}
use Rattle.wild_words.proofs.Basics.{of_if}
use Rattle.wild_words.proofs.ListLemmas.{All-flat_map}
use Rattle.wild_records.specs.Abi.Section.{shf_write, shf_alloc}
use Rattle.wild_types.specs.declared.file.Group.{Group}
use Rattle.wild_frames.specs.declared.entry.Found.{Found}
use Rattle.wild_frames.specs.declared.entry.Found.TheVariants as finds
use Rattle.wild_frames.specs.declared.entry.KeptEntry.{KeptEntry}
use Rattle.wild_frames.specs.Frames.{Frames, entry_bytes, tail_of, found_bytes, found_in, kept_in}
use Rattle.wild_layout.specs.Numbers.{InputNumbers, InputsFit}
use Rattle.wild_layout.specs.SectionPlaces.{FieldLies, SectionLies}
use Rattle.wild_meaning.specs.Frames.{frames_in, entry_references, relocation_of_entry, without}
use Rattle.wild_meaning.specs.Item.{IsInput, IsKept, OfSection, OfFrames, input_offset_of, reversed_bytes, reversed_relocation}
use Rattle.wild_meaning.proofs.BitLemmas.{alloc_bit}
use Rattle.wild_meaning.proofs.PlacedLemmas.{frame_input}
use Rattle.wild_geometry.proofs.PlacedInputs.{each_at}
use Rattle.wild_geometry.proofs.KeptItems.{kept_items_placed}

-- ---- where it lies

pub record ItemLies (l : Layout) (s : Item) : Type 0 where
  pub room : allocated s.flags ≡ true
  pub low : s.address + length s.bytes ≤ 2 ^ 62
  pub lies : All (FieldLies l.machine (length s.bytes)) s.relocations
  pub symbols : All (NamesSymbol l) s.relocations

-- the flags of kept frames are those of the input but for two
without_write : (f : ℕ) → IsSet f shf_alloc → IsSet (without f shf_write) shf_alloc
without_write f h =
    of_if (λ (n : ℕ). IsSet n shf_alloc) (bit_and f shf_write == shf_write) (f - shf_write) f
    (λ e. (let a : bit_and f 1 ≡ f / 1 % 2 * 1 = and_pow f 0 in let b : bit_and f 1 ≡ 1 = eqb-true _ _ e in omega (arith, a, b, h)))
    (λ e. h)

without_code : (f : ℕ) → IsSet f shf_alloc → IsSet (without f shf_execinstr) shf_alloc
without_code f h =
    of_if (λ (n : ℕ). IsSet n shf_alloc) (bit_and f shf_execinstr == shf_execinstr) (f - shf_execinstr) f
    (λ e. (let a : bit_and f 4 ≡ f / 4 % 2 * 4 = and_pow f 2 in let b : bit_and f 4 ≡ 4 = eqb-true _ _ e in omega (arith, a, b, h)))
    (λ e. h)

kept_room : (l : Layout) (s : Item) → IsKept l s → allocated s.flags ≡ true
kept_room l s (OfSection x k e) = subst (λ (i : Item). allocated i.flags ≡ true) (sym e) (alloc_bit x.flags k.room)
kept_room l s (OfFrames x k e) = subst (λ (i : Item). allocated i.flags ≡ true) (sym e) (alloc_bit (without (without x.flags shf_write) shf_execinstr) (without_code (without x.flags shf_write) (without_write x.flags k.room)))

record LiesThere (l : Layout) (s : Item) : Type 0 where
  low : s.address + length s.bytes ≤ 2 ^ 62
  lies : All (FieldLies l.machine (length s.bytes)) s.relocations
  symbols : All (NamesSymbol l) s.relocations

pub item_lies : (l : Layout) (s : Item) → IsLoadable l.kind → IsLaidOut l → IsKept l s → ItemLies l s
item_lies l s kind laid k =
    let x = kept_items_placed l s (not_partial l.kind kind) laid k in
    let t = x.section in
    let lies = each_at (SectionLies l) l t laid.inputs x.kept.input in
    let full : t.size ≡ length t.bytes = sym (lies.bytes (read_written t x.kept.reads)) in
    let there : LiesThere l s = subst (LiesThere l) (sym x.is) (record {
      low = subst (λ (n : ℕ). t.address + n ≤ 2 ^ 62) full lies.small;
      lies = subst (λ (n : ℕ). All (FieldLies l.machine n) t.relocations) full (lies.fields (read_fields t x.kept.reads));
      symbols = each_at (λ (y : InputSection). All (NamesSymbol l) y.relocations) l t laid.symbols x.kept.input;
    }) in
    record { room = kept_room l s k; low = there.low; lies = there.lies; symbols = there.symbols }

-- ---- its numbers

-- those of an input section
numbers_at : (l : Layout) (s : InputSection) → InputsFit l.groups → IsInput l s → InputNumbers s
numbers_at l s h k =
    All-contains InputNumbers k.file.sections s
    (All-contains (λ (f : File). All InputNumbers f.sections) k.group.files k.file (All-contains (λ (g : Group). All (λ (f : File). All InputNumbers f.sections) g.files) l.groups k.group h k.grouped) k.filed) k.listed

pub addends_fit : (l : Layout) (s : Item) → NumbersFit l → IsKept l s → All AddendFits s.relocations
addends_fit l s numbers (OfSection x k e) =
    let fit = (numbers_at l x numbers.inputs k.input).addends in
    subst (λ (i : Item). All AddendFits i.relocations) (sym e) (of_if (All AddendFits) x.reversed (map (reversed_relocation x.size) x.relocations) x.relocations (λ t. All-map AddendFits (reversed_relocation x.size) x.relocations fit) (λ f. fit))
addends_fit l s numbers (OfFrames x k e) =
    let fs = frames_in l x in
    let fit = (numbers_at l x numbers.inputs (frame_input l x k)).addends in
    let all : All AddendFits fs.relocations = of_if (All AddendFits) x.nobits [] x.relocations (λ t. All-nil AddendFits) (λ f. fit) in
    subst (λ (i : Item). All AddendFits i.relocations) (sym e) (All-flat_map AddendFits (entry_references fs) (kept_in fs) (λ j d lt. entry_fits fs (get_or (kept_in fs) j d) all))
  where
    entry_fits : (fs : Frames) (q : KeptEntry) → All AddendFits fs.relocations → All AddendFits (entry_references fs q)
    entry_fits fs q all = All-map AddendFits (relocation_of_entry q) _ (All-filter (λ (r : InputRelocation). nat_le q.from r.offset && nat_lt r.offset (q.from + q.size)) AddendFits fs.relocations all)

abbrev IsByte : ℕ → Type 0
IsByte b = b < 2 ^ 8

word_fits : (n x : ℕ) → All IsByte (word n x)
unfolding word
word_fits zero x = All-nil IsByte
word_fits (suc n) x = All-cons IsByte (x % 256) (word n (x / 256)) (omega arith) (word_fits n (x / 256))

range_fits : (bs : List ℕ) (a b : ℕ) → All IsByte bs → All IsByte (slice_range bs a b)
range_fits bs a b h = All-take IsByte (b - a) (drop a bs) (All-drop IsByte a bs h)

place_fits : (at : ℕ) (part old : List ℕ) → All IsByte part → All IsByte old → All IsByte (place at part old)
unfolding place
place_fits at part old h k = All-append IsByte (take at old) (part ++ drop (at + length part) old) (All-take IsByte at old k) (All-append IsByte part (drop (at + length part) old) h (All-drop IsByte (at + length part) old k))

found_fits : (fs : Frames) (x : Found) → All IsByte fs.bytes → All IsByte (found_bytes fs x)
unfolding entry_bytes tail_of
found_fits fs (finds.Kept q) h =
    let old = range_fits fs.bytes q.from (q.from + q.size) h in
    of_if (All IsByte) (q.id == 0) _ _ (λ e. old) (λ e. place_fits 4 (word 4 q.id) (slice_range fs.bytes q.from (q.from + q.size)) (word_fits 4 q.id) old)
found_fits fs (finds.Tail at) h = of_if (All IsByte) ((length (drop at fs.bytes) == 4) && (number_at (drop at fs.bytes) 0 4 == 0)) [] (drop at fs.bytes) (λ e. All-nil IsByte) (λ e. All-drop IsByte at fs.bytes h)
found_fits fs other h = All-nil IsByte

index_fits : (bs : List ℕ) (j : ℕ) → All IsByte bs → slice_index bs j < 2 ^ 8
index_fits bs j h = by bs j h
  where
    by : (bs : List ℕ) (j : ℕ) → All IsByte bs → get_or bs j 0 < 2 ^ 8
    by bs j h = elim (cases_lt j (length bs)) [ inl lt ↦ h j 0 lt | inr past ↦ (let zero_there : get_or bs j 0 ≡ 0 = get_or_past bs j 0 past in omega (arith, zero_there)) ]

pub bytes_fit : (l : Layout) (s : Item) → NumbersFit l → IsKept l s → All (λ (b : ℕ). b < 2 ^ 8) s.bytes
bytes_fit l s numbers (OfSection x k e) =
    let fit = (numbers_at l x numbers.inputs k.input).bytes in
    let reversed_section : All IsByte (reversed_bytes x.bytes) = All-map IsByte (λ (j : ℕ). slice_index x.bytes (input_offset_of (length x.bytes) j)) (range_with_len 0 (length x.bytes)) (λ j d lt. index_fits x.bytes (input_offset_of (length x.bytes) (get_or (range_with_len 0 (length x.bytes)) j d)) fit) in
    subst (λ (i : Item). All IsByte i.bytes) (sym e) (of_if (All IsByte) x.reversed (reversed_bytes x.bytes) x.bytes (λ t. reversed_section) (λ f. fit))
bytes_fit l s numbers (OfFrames x k e) =
    let fs = frames_in l x in
    let fit = (numbers_at l x numbers.inputs (frame_input l x k)).bytes in
    let all : All IsByte fs.bytes = of_if (All IsByte) x.nobits [] x.bytes (λ t. All-nil IsByte) (λ f. fit) in
    subst (λ (i : Item). All IsByte i.bytes) (sym e) (All-flat_map IsByte (found_bytes fs) (found_in fs) (λ j d lt. found_fits fs (get_or (found_in fs) j d) all))
