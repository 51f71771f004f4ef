-- The program with a copied symbol is linked in a legal world, where the loader copies the symbol's bytes.
use Rattle.wild_worlds.proofs.Common.{◌≡◌, ℕ, zero, suc, ◌+◌, ◌^◌, ◌<◌, ◌≤◌, inl, inr, Bool, true, false, List, [], ◌∷◌, refl, sym, ap, ◌∙◌, arith, subst, ◌&&◌, nat_lt, Some, None, All, slice_get, w64, list_all, and_parts, ltb-true, fits_signed_from_abs, All-nil, All-from_recursion, All-weaker, ones, pos, negsuc, All-from_list_all, DynamicEntryFits, DynamicEntry, Segment, Resolution, File, Group, has_flag, ifunc, absolute, HasItsFlags, HaveTheirFlags, dynamic_entries, entry_address, errors, NumbersFit, AddendFits, InputNumbers, InputsFit, SegmentNumbers, SectionNumbers, ResolutionNumbers, SymbolNumbers, IsDefinedBy, HasRaw, HasFlag, HasResolver, AnswersSymbols, IsLegal, ImagesAreSound, section_with, errors_on_literals, HasRoomAbove}
use Rattle.wild_types.specs.declared.kind.Machine.TheVariants as machine
use Rattle.wild_types.specs.declared.kind.OutputKind.TheVariants as output
use Rattle.wild_types.specs.declared.kind.RelocationModel.TheVariants as model
use Rattle.wild_loader.specs.declared.world.Answer.{Answer}
use Rattle.wild_meaning.specs.Value.{HasAnswer}
use Rattle.wild_meaning.specs.World.{IsAnswer, IsAnswered, IsOwnAnswer, IsKnownModule, IsFirstModule, IsPastFileBytes, HasCopy, HasRoomFor}
use Rattle.wild_laws.proofs.Symbols.{one_definition, one_answer}
use Rattle.wild_worlds.specs.CopyFile.{copied_data, data_reference, reading_code, copy_sections, copy_segments, copy_files, copy_group, copy_file, data_bytes, no_answer, data_answer, copy_world}
use Rattle.wild_worlds.specs.Joined.{IsMetWithCopy}
use Rattle.wild_worlds.proofs.Answers.{raw_is}
use Rattle.wild_worlds.proofs.Worlds.{moved_legal}

-- ---- faults

faultless : errors copy_file ≡ []
unfolding errors_on_literals copy_file ones
faultless = refl

-- ---- numbers

segment_fits : (kind flags at file_size mem_size align : ℕ) → kind < 2 ^ 32 → flags < 2 ^ 32 → at < 2 ^ 64 → file_size < 2 ^ 64 → mem_size < 2 ^ 64 → align < 2 ^ 64 → SegmentNumbers (record { kind = kind; flags = flags; offset = at; address = at; physical = at; file_size = file_size; mem_size = mem_size; align = align })
segment_fits kind flags at file_size mem_size align a b c d e f = record { kind = a; flags = b; offset = c; address = c; physical = c; file_size = d; mem_size = e; align = f }

segments_fit : All SegmentNumbers copy_segments
segments_fit = All-from_recursion SegmentNumbers copy_segments (
  segment_fits _ _ _ _ _ _ (omega arith) (omega arith) (omega arith) (omega arith) (omega arith) (omega arith),
  (segment_fits _ _ _ _ _ _ (omega arith) (omega arith) (omega arith) (omega arith) (omega arith) (omega arith), tt),
)

section_fits : (name : List ℕ) (kind flags address offset size align : ℕ) → kind < 2 ^ 32 → flags < 2 ^ 64 → address < 2 ^ 64 → offset < 2 ^ 64 → size < 2 ^ 64 → align < 2 ^ 64 → SectionNumbers (section_with name kind flags address offset size align)
section_fits name kind flags address offset size align a b c d e f = record {
  places = record { kind = a; flags = b; address = c; offset = d; size = e };
  links = record { link = omega arith; info = omega arith; align = f; entsize = omega arith };
}

sections_fit : All SectionNumbers copy_sections
sections_fit = All-from_recursion SectionNumbers copy_sections (section_fits _ _ _ _ _ _ _ (omega arith) (omega arith) (omega arith) (omega arith) (omega arith) (omega arith), (section_fits _ _ _ _ _ _ _ (omega arith) (omega arith) (omega arith) (omega arith) (omega arith) (omega arith), (section_fits _ _ _ _ _ _ _ (omega arith) (omega arith) (omega arith) (omega arith) (omega arith) (omega arith), (section_fits _ _ _ _ _ _ _ (omega arith) (omega arith) (omega arith) (omega arith) (omega arith) (omega arith), (section_fits _ _ _ _ _ _ _ (omega arith) (omega arith) (omega arith) (omega arith) (omega arith) (omega arith), (section_fits _ _ _ _ _ _ _ (omega arith) (omega arith) (omega arith) (omega arith) (omega arith) (omega arith), (section_fits _ _ _ _ _ _ _ (omega arith) (omega arith) (omega arith) (omega arith) (omega arith) (omega arith), (section_fits _ _ _ _ _ _ _ (omega arith) (omega arith) (omega arith) (omega arith) (omega arith) (omega arith), tt))))))))

some_is : {X : Type 0} (x y : X) → Some x ≡ Some y → x ≡ y
some_is x y h = cc

abbrev copied_resolution : Resolution
copied_resolution = record { raw_value = 456; flags = record { 0 = 1026 }; dynamic_symbol_index = Some 1; got_address = None; plt_address = None }

data_fits : SymbolNumbers copied_data
data_fits r is = subst ResolutionNumbers (some_is copied_resolution r is) (record { value = omega arith; slots = λ n h. absurd cc; stub = λ n h. absurd cc })

abbrev fits : DynamicEntry → Bool
fits d = nat_lt d.tag (2 ^ 64) && nat_lt d.value (2 ^ 64)

entry_fits : (d : DynamicEntry) → fits d ≡ true → DynamicEntryFits d
entry_fits d h = let p = and_parts (nat_lt d.tag (2 ^ 64)) (nat_lt d.value (2 ^ 64)) h in record { tag = ltb-true _ _ p.0; value = ltb-true _ _ p.1 }

entries_fit : (ds : List DynamicEntry) → list_all fits ds ≡ true → All DynamicEntryFits ds
entries_fit ds h = All-weaker (λ (d : DynamicEntry). fits d ≡ true) DynamicEntryFits entry_fits ds (All-from_list_all fits ds h)

bytes_fit : (bs : List ℕ) → list_all (λ (b : ℕ). nat_lt b (2 ^ 8)) bs ≡ true → All (λ (b : ℕ). b < 2 ^ 8) bs
bytes_fit bs h = All-weaker (λ (b : ℕ). nat_lt b (2 ^ 8) ≡ true) (λ (b : ℕ). b < 2 ^ 8) (λ b t. ltb-true b (2 ^ 8) t) bs (All-from_list_all (λ (b : ℕ). nat_lt b (2 ^ 8)) bs h)

code_fits : InputNumbers reading_code
code_fits = record { bytes = bytes_fit reading_code.bytes refl; addends = All-from_recursion AddendFits (data_reference ∷ []) (fits_signed_from_abs w64 (negsuc 3) (omega arith), tt) }

abbrev FileFits : File → Type 0
FileFits f = All InputNumbers f.sections

abbrev GroupFits : Group → Type 0
GroupFits g = All FileFits g.files

inputs_fit : InputsFit (copy_group ∷ [])
inputs_fit =
    let object = All-from_recursion InputNumbers (reading_code ∷ []) (code_fits, tt) in
    All-from_recursion GroupFits (copy_group ∷ []) (All-from_recursion FileFits copy_files (All-nil InputNumbers, (object, (All-nil InputNumbers, (All-nil InputNumbers, tt)))), tt)

zero_fits : (n : ℕ) → n ≡ 0 → n < 2 ^ 64
zero_fits n e = omega (arith, e)

numbers : NumbersFit copy_file
unfolding errors_on_literals copy_file
numbers = record {
  page = omega arith;
  segments = segments_fit;
  sections = sections_fit;
  symbols = All-from_recursion SymbolNumbers (copied_data ∷ []) (data_fits, tt);
  entry = zero_fits (entry_address copy_file) refl;
  got = omega arith;
  tls = record { start = omega arith; end = omega arith; align = omega arith };
  dynamic = entries_fit (dynamic_entries copy_file) refl;
  starts = All-from_recursion (λ (g : Group). g.dynstr_start < 2 ^ 64) (copy_group ∷ []) (omega arith, tt);
  sysv = λ h is. cc is;
  gnu = λ h is. cc is;
  inputs = inputs_fit;
}

data_flags : HasItsFlags copied_data
data_flags r e = ap (λ (x : Resolution). x.flags) (sym (some_is copied_resolution r e))

flags : HaveTheirFlags copy_file
unfolding copy_file
flags = All-from_recursion HasItsFlags (copied_data ∷ []) (data_flags, tt)

-- ---- the only symbol, and its answer

data_defined : IsDefinedBy copy_file 0 0
unfolding copy_file
data_defined = record { symbol = copied_data; listed = refl; defined = inr (refl, refl) }

data_listed : slice_get copy_file.symbols 0 ≡ Some copied_data
unfolding copy_file
data_listed = refl

data_raw : HasRaw copy_file 0 456
data_raw = record { definition = 0; defined = data_defined; given = inl (record { symbol = copied_data; listed = data_listed; resolution = copied_resolution; decided = refl; value = refl }) }

raw_of_data : (raw : ℕ) → HasRaw copy_file 0 raw → raw ≡ 456
raw_of_data raw h = raw_is copy_file 0 0 raw copied_data copied_resolution data_defined data_listed refl h

data_flag : (flag : ℕ) → has_flag copied_data.flags flag ≡ false → HasFlag copy_file 0 flag false
data_flag flag e = record { definition = 0; defined = data_defined; symbol = copied_data; listed = data_listed; flagged = e }

only_symbol : (i d : ℕ) → IsDefinedBy copy_file i d → i ≡ 0
unfolding copy_file
only_symbol zero d h = refl
only_symbol (suc i) d h = absurd (let both : None ≡ Some h.symbol = h.listed in cc)

has_answer : HasAnswer copy_file copy_world 0 data_answer
has_answer = record { definition = 0; defined = data_defined; symbol = copied_data; listed = data_listed; resolution = copied_resolution; decided = refl; index = 1; told = refl; given = refl }

answer_is_data : (x : Answer) → HasAnswer copy_file copy_world 0 x → x ≡ data_answer
answer_is_data x h = one_answer copy_file copy_world 0 x data_answer h has_answer

has_copy : HasCopy copy_file copy_world 0 456 data_answer
unfolding copy_file
has_copy = record {
  copied = record { group = copy_group; grouped = (0, omega arith, refl); file = _; filed = (2, omega arith, refl); library = refl; listed = (0, omega arith, refl) };
  given = data_raw;
  answer = has_answer;
}

-- ---- the world

known : IsKnownModule copy_world 1
known = record { distance = pos 0; fits = omega arith; pair = refl }

no_answer_fits : IsAnswer copy_world no_answer
no_answer_fits = record { address = omega arith; offset = omega arith; size = omega arith; bytes = All-nil (λ (b : ℕ). b < 256); owner = omega arith; known = known }

answer_fits : IsAnswer copy_world data_answer
answer_fits = record { address = omega arith; offset = omega arith; size = omega arith; bytes = bytes_fit data_bytes refl; owner = omega arith; known = known }

plain : has_flag copied_data.flags ifunc ≡ false
unfolding has_flag
plain = refl

moving : has_flag copied_data.flags absolute ≡ false
unfolding has_flag
moving = refl

not_resolved : HasResolver copy_world copied_data
not_resolved i = absurd (let both : true ≡ false = sym i ∙ plain in cc)

answered : IsAnswered copy_world copied_data
answered r index decided told =
    let both : Some 1 ≡ Some index = ap (λ (q : Resolution). q.dynamic_symbol_index) (some_is copied_resolution r decided) ∙ told in
    let same = some_is 1 index both in
    omega (arith, same)

own : IsOwnAnswer copy_file copy_world 0 data_answer
unfolding copy_file
own = record {
  address = record { raw = 456; given = data_raw; indirect = false; resolved = data_flag ifunc plain; still = false; absolute = data_flag absolute moving; is = refl };
  owner = refl;
  offset = λ raw h. (let e = raw_of_data raw h in omega (arith, e));
  size = record { definition = 0; defined = data_defined; symbol = copied_data; listed = refl; size = refl };
}

own_answer : (i : ℕ) (x : Answer) → HasAnswer copy_file copy_world i x → IsOwnAnswer copy_file copy_world i x
own_answer i x h =
    let at = only_symbol i h.definition h.defined in
    let is = answer_is_data x (subst (λ (k : ℕ). HasAnswer copy_file copy_world k x) at h) in
    subst (λ (k : ℕ). IsOwnAnswer copy_file copy_world k x) (sym at) (subst (λ (y : Answer). IsOwnAnswer copy_file copy_world 0 y) (sym is) own)

-- the copy has room
past_file : (k : ℕ) → k < 8 → IsPastFileBytes copy_file (456 + k)
unfolding copy_file
past_file k lt = record { segment = _; listed = (0, omega arith, refl); loads = refl; from = omega arith; to = omega (arith, lt) }

room : HasRoomFor copy_file 456 data_answer
room = record { within = omega arith; behind = past_file }

copy_room : (i raw : ℕ) (x : Answer) → HasCopy copy_file copy_world i raw x → HasRoomFor copy_file raw x
copy_room i raw x h =
    let at = only_symbol i h.answer.definition h.answer.defined in
    let is = answer_is_data x (subst (λ (k : ℕ). HasAnswer copy_file copy_world k x) at h.answer) in
    let there = raw_of_data raw (subst (λ (k : ℕ). HasRaw copy_file k raw) at h.given) in
    subst (λ (y : Answer). HasRoomFor copy_file raw y) (sym is) (subst (λ (a : ℕ). HasRoomFor copy_file a data_answer) (sym there) room)

one_copy : (i j c d : ℕ) → IsDefinedBy copy_file i c → IsDefinedBy copy_file j d → c ≡ d
one_copy i j c d h g = one_definition copy_file 0 c d (subst (λ (k : ℕ). IsDefinedBy copy_file k c) (only_symbol i c h) h) (subst (λ (k : ℕ). IsDefinedBy copy_file k d) (only_symbol j d g) g)

symbols : AnswersSymbols copy_file copy_world
unfolding copy_file
symbols = record {
  owner = omega arith;
  known = known;
  each = All-from_recursion (IsAnswer copy_world) copy_world.symbols (no_answer_fits, (answer_fits, tt));
  there = All-from_recursion (IsAnswered copy_world) (copied_data ∷ []) (answered, tt);
  own = λ i x replaced h. own_answer i x h;
  copies = copy_room;
  apart = λ i j c d raw other x y first second differ h g. absurd (differ (one_copy i j c d first second));
}

first : IsFirstModule copy_file copy_world
unfolding copy_file
first = record { own = refl; distance = pos 0; pair = refl; is = record { fits = omega arith; begins = refl } }

roomy : HasRoomAbove copy_file 0x10000
unfolding copy_file
roomy = record { aligned = refl; ends = All-from_recursion (λ (g : Segment). 0x10000 + g.address + g.mem_size ≤ 2 ^ 64) copy_segments (omega arith, (omega arith, tt)) }

legal : IsLegal copy_file copy_world
unfolding copy_file
legal = moved_legal copy_file copy_world tt roomy (λ e. first) (All-from_recursion (HasResolver copy_world) (copied_data ∷ []) (not_resolved, tt)) symbols

-- ---- the whole

pub copy_linked : ImagesAreSound → IsMetWithCopy machine.X86_64 (output.DynamicExecutable model.Relocatable)
unfolding copy_file
copy_linked sound =
    let right = sound copy_file numbers flags faultless (inr tt) in
    let linked = right.1 copy_world legal in (
      copy_file,
      refl,
      refl,
      record {
        elsewhere = record { faultless = faultless; world = copy_world; elsewhere = λ z. absurd (omega (arith, z)); legal = legal; described = right.0; linked = linked };
        symbol = 0;
        address = 456;
        answer = data_answer;
        copied = has_copy;
        first = 1;
        rest = 2 ∷ 3 ∷ 4 ∷ 5 ∷ 6 ∷ 7 ∷ 8 ∷ [];
        bytes = refl;
        nonzero = λ z. absurd (omega (arith, z));
        held = linked.copies (λ b. cc) 0 456 data_answer has_copy;
      },
    )
