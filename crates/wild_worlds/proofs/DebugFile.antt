-- The layout for debuggers alone has all that the headline asks for.
use Rattle.wild_worlds.proofs.Common.{◌≡◌, ℕ, zero, suc, ◌+◌, ◌-◌, ◌%◌, ◌^◌, ◌<◌, ◌≤◌, ◌⊎◌, inl, inr, Bool, true, false, List, [], ◌∷◌, refl, sym, ap, ◌∙◌, arith, subst, ◌&&◌, nat_lt, if◌then◌else◌, Some, None, All, Contains, slice_get, slice_index_or, w64, list_all, and_parts, ltb-true, fits_signed_from_abs, All-nil, All-from_recursion, All-weaker, ones, pos, negsuc, All-from_list_all, DynamicEntryFits, DynamicEntry, Formula, formula, Plain, Signed, x86_64_formula, Segment, Resolution, Symbol, InputRelocation, File, Group, has_flag, absolute, ifunc, HasItsFlags, HaveTheirFlags, dynamic_entries, entry_address, World, errors, LayoutsAreLaidOut, NumbersFit, AddendFits, InputNumbers, InputsFit, SegmentNumbers, SectionNumbers, ResolutionNumbers, SymbolNumbers, IsAbsolute, HasFlag, HasRaw, IsReplaceable, formula_of, Instruction, OfSection, IsCheckedAtZeroOnly, ImagesAreSound, not_both, one_symbol, own_value, section_with, HasRoomAbove, OtherModule, AreNumbers, IsConsistent, HasWorld, errors_on_literals}
use Rattle.std.proofs.lemmas.List.Elements.{All-contains, Contains-append_right}
use Rattle.wild_words.specs.Words.{number}
use Rattle.wild_words.proofs.ListLemmas.{Contains-here}
use Rattle.wild_records.specs.Abi.Relocation.{r_x86_64_64, r_x86_64_pc32}
use Rattle.wild_records.specs.Abi.Section.{shf_execinstr}
use Rattle.wild_reloc.specs.Formula.{Value, SymbolAddress, Distance, Size, Full, sign_extended}
use Rattle.wild_types.specs.declared.kind.Machine.TheVariants as machine
use Rattle.wild_types.specs.declared.kind.OutputKind.TheVariants as output
use Rattle.wild_types.specs.declared.kind.RelocationModel.TheVariants as model
use Rattle.wild_types.specs.declared.part.Part.{Part}
use Rattle.wild_types.specs.declared.section.Section.{Section}
use Rattle.wild_types.specs.declared.input.InputSection.{InputSection}
use Rattle.wild_types.specs.declared.input.Slot.TheVariants as slot
use Rattle.wild_types.specs.Item.{Item, item_with}
use Rattle.wild_loader.specs.declared.memory.Memory.{Memory}
use Rattle.wild_loader.specs.Memory.{number_in}
use Rattle.wild_loader.proofs.HeldBytes.{number-held}
use Rattle.wild_layout.specs.Image.{bytes}
use Rattle.wild_meaning.specs.Section.{IsSet, IsHeaderOnly}
use Rattle.wild_meaning.specs.Denotes.{HasStub, Denotes}
use Rattle.wild_meaning.specs.Field.{FieldReads}
use Rattle.wild_meaning.specs.Formula.{TakesString, Gives}
use Rattle.wild_meaning.specs.Frames.{IsFrameInput}
use Rattle.wild_meaning.specs.Template.{IsTemplate}
use Rattle.wild_meaning.specs.Item.{IsInput, IsKept, IsKeptSection, IsReference, OfFrames, placed_item, place_at}
use Rattle.wild_meaning.specs.Reference.{ReferenceHolds, UsesOwnSymbolOnly, IsFilled, TakesEntry, IsSlotValue, NamesSlot, TakesStub, UsesStubAddress, UsesStubOrThunk, IsOmitted}
use Rattle.wild_meaning.specs.LinkedImage.{IsLinked}
use Rattle.wild_meaning.specs.Worked.Builders.{Refuses}
use Rattle.wild_meaning.specs.Worked.Refusals.{HasWrongNumber}
use Rattle.wild_meaning.proofs.StringLemmas.{nothing_named}
use Rattle.wild_meaning.proofs.SymbolLemmas.{referent_stands}
use Rattle.wild_laws.proofs.Symbols.{moved_value}
use Rattle.wild_worlds.specs.DebugFile.{function, note_distance, note_address, note_bytes, note, code_call, code, note_part, code_part, note_section, code_section, debug_sections, debug_segments, debug_object, debug_files, debug_group, debug_file}
use Rattle.wild_worlds.specs.Joined.{HasNote, HasOmittedSection, IsJoinedForDebuggers, IsMetForDebuggers}
use Rattle.wild_worlds.proofs.Answers.{raw_is}
use Rattle.wild_worlds.proofs.Premises.{few_alone}
use Rattle.wild_worlds.proofs.Worlds.{worlds_there}

-- ---- faults

faultless : errors debug_file ≡ []
unfolding errors_on_literals debug_file ones
faultless = refl

-- ---- numbers

segments_fit : All SegmentNumbers debug_segments
segments_fit = All-from_recursion SegmentNumbers debug_segments (
  record { kind = omega arith; flags = omega arith; offset = omega arith; address = omega arith; physical = omega arith; file_size = omega arith; mem_size = omega arith; align = omega arith },
  (record { kind = omega arith; flags = omega arith; offset = omega arith; address = omega arith; physical = omega arith; file_size = omega arith; mem_size = omega arith; align = omega arith }, tt),
)

section_fits : (name : List ℕ) (kind flags address offset size align : ℕ) → kind < 2 ^ 32 → flags < 2 ^ 64 → address < 2 ^ 64 → offset < 2 ^ 64 → size < 2 ^ 64 → align < 2 ^ 64 → SectionNumbers (section_with name kind flags address offset size align)
section_fits name kind flags address offset size align a b c d e f = record {
  places = record { kind = a; flags = b; address = c; offset = d; size = e };
  links = record { link = omega arith; info = omega arith; align = f; entsize = omega arith };
}

sections_fit : All SectionNumbers debug_sections
sections_fit = All-from_recursion SectionNumbers debug_sections (
  section_fits _ _ _ _ _ _ _ (omega arith) (omega arith) (omega arith) (omega arith) (omega arith) (omega arith),
  (
    section_fits _ _ _ _ _ _ _ (omega arith) (omega arith) (omega arith) (omega arith) (omega arith) (omega arith),
    (
      section_fits _ _ _ _ _ _ _ (omega arith) (omega arith) (omega arith) (omega arith) (omega arith) (omega arith),
      (
        section_fits _ _ _ _ _ _ _ (omega arith) (omega arith) (omega arith) (omega arith) (omega arith) (omega arith),
        (
          section_fits _ _ _ _ _ _ _ (omega arith) (omega arith) (omega arith) (omega arith) (omega arith) (omega arith),
          (
            section_fits _ _ _ _ _ _ _ (omega arith) (omega arith) (omega arith) (omega arith) (omega arith) (omega arith),
            (
              section_fits _ _ _ _ _ _ _ (omega arith) (omega arith) (omega arith) (omega arith) (omega arith) (omega arith),
              (section_fits _ _ _ _ _ _ _ (omega arith) (omega arith) (omega arith) (omega arith) (omega arith) (omega arith), tt),
            ),
          ),
        ),
      ),
    ),
  ),
)

some_is : {X : Type 0} (x y : X) → Some x ≡ Some y → x ≡ y
some_is x y h = cc

function_fits : SymbolNumbers function
function_fits r is =
    let P : Resolution → Type 0 = ResolutionNumbers in
    subst P (some_is _ r is) (record { value = omega arith; slots = λ a h. absurd cc; stub = λ a h. absurd cc })

abbrev fits : DynamicEntry → Bool
fits d = nat_lt d.tag (2 ^ 64) && nat_lt d.value (2 ^ 64)

entry_fits : (d : DynamicEntry) → fits d ≡ true → DynamicEntryFits d
entry_fits d h = let p = and_parts (nat_lt d.tag (2 ^ 64)) (nat_lt d.value (2 ^ 64)) h in record { tag = ltb-true _ _ p.0; value = ltb-true _ _ p.1 }

entries_fit : (ds : List DynamicEntry) → list_all fits ds ≡ true → All DynamicEntryFits ds
entries_fit ds h = All-weaker (λ (d : DynamicEntry). fits d ≡ true) DynamicEntryFits entry_fits ds (All-from_list_all fits ds h)

bytes_fit : (bs : List ℕ) → list_all (λ (b : ℕ). nat_lt b (2 ^ 8)) bs ≡ true → All (λ (b : ℕ). b < 2 ^ 8) bs
bytes_fit bs h = All-weaker (λ (b : ℕ). nat_lt b (2 ^ 8) ≡ true) (λ (b : ℕ). b < 2 ^ 8) (λ b t. ltb-true b (2 ^ 8) t) bs (All-from_list_all (λ (b : ℕ). nat_lt b (2 ^ 8)) bs h)

note_fits : InputNumbers note
note_fits = record { bytes = bytes_fit note_bytes refl; addends = All-from_recursion AddendFits (note_distance ∷ note_address ∷ []) (fits_signed_from_abs w64 (pos 0) (omega arith), (fits_signed_from_abs w64 (pos 0) (omega arith), tt)) }

code_fits : InputNumbers code
code_fits = record { bytes = bytes_fit code.bytes refl; addends = All-from_recursion AddendFits (code_call ∷ []) (fits_signed_from_abs w64 (negsuc 3) (omega arith), tt) }

abbrev FileFits : File → Type 0
FileFits f = All InputNumbers f.sections

abbrev GroupFits : Group → Type 0
GroupFits g = All FileFits g.files

inputs_fit : InputsFit (debug_group ∷ [])
inputs_fit =
    let object = All-from_recursion InputNumbers (note ∷ code ∷ []) (note_fits, (code_fits, tt)) in
    All-from_recursion GroupFits (debug_group ∷ []) (All-from_recursion FileFits debug_files (All-nil InputNumbers, (object, (All-nil InputNumbers, tt))), tt)

zero_fits : (n : ℕ) → n ≡ 0 → n < 2 ^ 64
zero_fits n e = omega (arith, e)

numbers : NumbersFit debug_file
unfolding errors_on_literals debug_file
numbers = record {
  page = omega arith;
  segments = segments_fit;
  sections = sections_fit;
  symbols = All-from_recursion SymbolNumbers (function ∷ []) (function_fits, tt);
  entry = zero_fits (entry_address debug_file) refl;
  got = omega arith;
  tls = record { start = omega arith; end = omega arith; align = omega arith };
  dynamic = entries_fit (dynamic_entries debug_file) refl;
  starts = All-from_recursion (λ (g : Group). g.dynstr_start < 2 ^ 64) (debug_group ∷ []) (omega arith, tt);
  sysv = λ h is. cc is;
  gnu = λ h is. cc is;
  inputs = inputs_fit;
}

flags : HaveTheirFlags debug_file
unfolding debug_file
flags = All-from_recursion HasItsFlags (function ∷ []) (own, tt)
  where
    own : HasItsFlags function
    own r e = let is = some_is _ r e in ap (λ (x : Resolution). x.flags) (sym is)

-- ---- the world

debug_file_is_consistent : IsConsistent debug_file
unfolding debug_file
debug_file_is_consistent = record {
  faultless = faultless;
  numbers = numbers;
  sizes = All-from_recursion (λ (s : Symbol). s.size < 2 ^ 64) (function ∷ []) (omega arith, tt);
}

-- no symbol is another module's
others : OtherModule
others = record { address = λ i. 0; offset = λ i. 0; size = λ i. 0; distance = pos 0; own = pos 0 }

numbers_of : AreNumbers others
unfolding others
numbers_of = record { address = λ i. omega arith; offset = λ i. omega arith; size = λ i. omega arith; distance = omega arith; own = omega arith }

roomy : HasRoomAbove debug_file 0x10000
unfolding debug_file
roomy = record { aligned = refl; ends = All-from_recursion (λ (g : Segment). 0x10000 + g.address + g.mem_size ≤ 2 ^ 64) debug_segments (omega arith, (omega arith, tt)) }

world : LayoutsAreLaidOut → HasWorld debug_file 0x10000 (λ a. 0) others
unfolding debug_file
world laws = (worlds_there laws).elsewhere debug_file 0x10000 (λ a. 0) others (λ a. omega arith) numbers_of tt roomy debug_file_is_consistent

-- ---- the function

raw_flag : (flag : ℕ) → HasFlag debug_file 0 flag (has_flag function.flags flag)
unfolding debug_file
raw_flag flag = record { definition = 0; defined = record { symbol = function; listed = refl; defined = inr (refl, refl) }; symbol = function; listed = refl; flagged = refl }

moves : HasFlag debug_file 0 absolute false
unfolding has_flag
moves = raw_flag absolute

plain : HasFlag debug_file 0 ifunc false
unfolding has_flag
plain = raw_flag ifunc

own : IsReplaceable debug_file 0 false
unfolding debug_file has_flag
own = record { definition = 0; defined = record { symbol = function; listed = refl; defined = inr (refl, refl) }; symbol = function; listed = refl; told = refl }

function_raw : (a : ℕ) → HasRaw debug_file 0 a → a ≡ 262
unfolding debug_file
function_raw a h = raw_is debug_file 0 0 a function _ (record { symbol = function; listed = refl; defined = inr (refl, refl) }) refl refl h

no_stub : (p : ℕ) → HasStub debug_file 0 p → ⊥
unfolding debug_file
no_stub p h =
    let same : h.symbol ≡ function = one_symbol debug_file 0 h.definition 0 h.symbol function h.defined (record { symbol = function; listed = refl; defined = inr (refl, refl) }) h.listed refl in
    let decided : function.resolution ≡ Some h.resolution = subst (λ (s : Symbol). s.resolution ≡ Some h.resolution) same h.decided in
    none h.resolution p decided h.stub
  where
    none : (r : Resolution) (p : ℕ) → function.resolution ≡ Some r → r.plt_address ≡ Some p → ⊥
    none r p e h = let is = some_is _ r e in let both : None ≡ Some p = ap (λ (x : Resolution). x.plt_address) is ∙ h in cc

own_address : (w : World) (m : Memory) (a : ℕ) → Denotes debug_file w m 0 a → a ≡ (w.base + 262) % 2 ^ 64
own_address w m a (inl h) =
    let v = own_value debug_file w 0 a own h in
    moved_value debug_file w 0 a v plain moves ∙ ap (λ (n : ℕ). (w.base + n) % 2 ^ 64) (function_raw v.raw v.given)
own_address w m a (inr h) = absurd (no_stub h.stub h.given)

-- ---- the note

abbrev note_item : Item
note_item = item_with 0 note

not_hollow : (p : Part) → slice_get debug_file.parts note.part ≡ Some p → IsHeaderOnly debug_file p → ⊥
unfolding debug_file
not_hollow p at h =
    let one : note_part ≡ p = some_is _ p at in
    let found : slice_get debug_sections note_part.section ≡ Some h.section = subst (λ (q : Part). slice_get debug_sections q.section ≡ Some h.section) (sym one) h.found in
    let same : note_section ≡ h.section = some_is _ h.section found in
    h.only.other (ap (λ (s : Section). s.kind) (sym same))

note_kept : IsKeptSection debug_file note
unfolding debug_file
note_kept = record { input = record { group = debug_group; grouped = (0, omega arith, refl); file = debug_object; filed = (1, omega arith, refl); listed = (0, omega arith, refl) }; loaded = tt; room = refl; has_data = refl; written = not_hollow }

distance_formula : x86_64_formula r_x86_64_pc32 ≡ Some (formula Distance (Plain 32 Signed))
unfolding x86_64_formula
distance_formula = refl

address_formula : x86_64_formula r_x86_64_64 ≡ Some (formula SymbolAddress Full)
unfolding x86_64_formula
address_formula = refl

distance_refers : IsReference note_item note_distance
distance_refers = record { listed = (0, omega arith, refl); refers = λ e. (let no : 2 ≡ 0 = e in omega (arith, no)) }

address_refers : IsReference note_item note_address
address_refers = record { listed = (1, omega arith, refl); refers = λ e. (let no : 1 ≡ 0 = e in omega (arith, no)) }

-- it is no code
no_code : IsSet note.flags shf_execinstr → ⊥
no_code e = omega arith

-- it names the function, which moves
named_is : (i : ℕ) → Some 0 ≡ Some i → i ≡ 0
named_is i h = cc

not_still : (i : ℕ) → Some 0 ≡ Some i → IsAbsolute debug_file i → ⊥
not_still i named h = not_both debug_file 0 absolute (subst (λ (k : ℕ). IsAbsolute debug_file k) (named_is i named) h) moves

ordinary : IsCheckedAtZeroOnly debug_file note_item note_distance → ⊥
ordinary x = not_still x.symbol x.named x.absolute

followed : UsesOwnSymbolOnly debug_file note_item note_distance → ⊥
followed x = few_alone.own debug_file note_item note_distance 0 refl own x

-- the distance goes by no entry, no slot, no stub and no thunk
distance_is : (f : Formula) → formula_of debug_file.machine r_x86_64_pc32 ≡ Some f → f ≡ formula Distance (Plain 32 Signed)
unfolding debug_file
distance_is f known = some_is f _ (sym known ∙ distance_formula)

no_entry : TakesEntry debug_file note_item note_distance → ⊥
no_entry t = by t.formula (distance_is t.formula t.known) t.filled
  where
    value_is : (f : Formula) (v : Value) → f ≡ formula Distance (Plain 32 Signed) → f.value ≡ v → Distance ≡ v
    value_is f v e h = ap (λ (g : Formula). g.value) (sym e) ∙ h

    by : (f : Formula) → f ≡ formula Distance (Plain 32 Signed) → IsFilled debug_file note_item note_distance f → ⊥
    by f e (inl h) = let no : Distance ≡ SymbolAddress = value_is f SymbolAddress e h.2.value in cc
    by f e (inr (inl h)) = let no : Distance ≡ SymbolAddress = value_is f SymbolAddress e h.1 in cc
    by f e (inr (inr h)) = let no : Distance ≡ Size = value_is f Size e h.2 in cc

no_slot : NamesSlot debug_file note_item note_distance → ⊥
no_slot (inl h) = subst (λ (f : Formula). IsSlotValue f.value) (distance_is h.formula h.known) h.slot
no_slot (inr h) = no_code h.of.sequence.stands.code

not_aside : UsesStubOrThunk debug_file note_item note_distance → ⊥
unfolding debug_file
not_aside (inl h) = by h.symbol h.formula (named_is h.symbol h.named) (distance_is h.formula h.known) h.stub
  where
    by : (i : ℕ) (f : Formula) → i ≡ 0 → f ≡ formula Distance (Plain 32 Signed) → UsesStubAddress debug_file note_item note_distance i f.value → ⊥
    by i f e is (inl h) = no_stub h.1.stub (subst (λ (k : ℕ). HasStub debug_file k h.1.stub) e h.1.there)
    by i f e is (inr h) = subst (λ (g : Formula). TakesStub g.value) is h.0
not_aside (inr (inl h)) = let no : machine.X86_64 ≡ machine.AArch64 = h.on in cc
not_aside (inr (inr h)) = let no : machine.X86_64 ≡ machine.AArch64 = h.on in cc

there : IsOmitted debug_file note_item note_distance → ⊥
there (bare, inl h) = no_entry h
there (bare, inr (inl h)) = no_slot h
there (bare, inr (inr h)) = not_aside h

-- the address takes an entry
left : IsOmitted debug_file note_item note_address
unfolding debug_file
left = (refl, inl (record { formula = formula SymbolAddress Full; known = address_formula; filled = inr (inl (tt, refl, refl, λ n. not_still n.symbol n.named n.absolute)) }))

note_there : HasNote debug_file
unfolding debug_file
note_there = record {
  section = note;
  kept = note_kept;
  notes = record { part = note_part; listed = refl; section = note_section; found = refl; room = refl; kind = refl };
  item = note_item;
  is = refl;
  reference = note_distance;
  refers = distance_refers;
  ordinary = ordinary;
  followed = followed;
  there = there;
  other = note_address;
  other_refers = address_refers;
  left = left;
}

-- ---- what the note reads as

-- a field of data is in no instruction
no_template : (start : ℕ) (o : Instruction) (first : InputRelocation) → IsTemplate debug_file note_item note_distance start o first → ⊥
no_template start o first (inl h) = no_code h.0.stands.code
no_template start o first (inr h) = no_code h.sequence.stands.code

-- so its field is the distance
record HasDistance (w : World) (m : Memory) : Type 0 where
  value : ℕ
  gives : Gives Distance debug_file w m note_item note_distance value
  field : FieldReads w m note_item note_distance (Plain 32 Signed) value

has_distance : (w : World) (m : Memory) → ReferenceHolds debug_file w m note_item note_distance → HasDistance w m
has_distance w m (inl h) = by h.formula (distance_is h.formula h.known) h.value h.gives h.field
  where
    by : (f : Formula) → f ≡ formula Distance (Plain 32 Signed) → (v : ℕ) → Gives f.value debug_file w m note_item note_distance v → FieldReads w m note_item note_distance f.form v → HasDistance w m
    by f e v g h = record {
      value = v;
      gives = subst (λ (k : Formula). Gives k.value debug_file w m note_item note_distance v) e g;
      field = subst (λ (k : Formula). FieldReads w m note_item note_distance k.form v) e h;
    }
has_distance w m (inr h) = absurd (no_template h.start h.instruction h.first h.template)

no_string : (v : Value) → TakesString v debug_file note_distance → ⊥
unfolding debug_file
no_string v t = nothing_named debug_file refl note_distance t.1

value_is : (w : World) (m : Memory) (v : ℕ) → w.base ≡ 0x10000 → Gives Distance debug_file w m note_item note_distance v → v ≡ 74
unfolding debug_file
value_is w m v at g =
    let address = own_address w m g.1.symbol (referent_stands Distance debug_file w m note_item note_distance g.1.symbol refl (no_string Distance) g.1.denoted) in
    omega (arith, at, address, g.1.sum, g.2)

word_is : (x : ℕ) → sign_extended 32 x ≡ 74 → x ≡ 74
word_is x h = by (nat_lt x (2 ^ 31)) h
  where
    by : (b : Bool) → (if b then x else x + (2 ^ 64 - 2 ^ 32)) ≡ 74 → x ≡ 74
    by true e = e
    by false e = omega (arith, e)

number_is : (w : World) (m : Memory) → w.base ≡ 0x10000 → (h : HasDistance w m) → number h.field.bytes ≡ 74
number_is w m at h = word_is (number h.field.bytes) (h.field.reads ∙ value_is w m h.value at h.gives)

reads : (w : World) (m : Memory) → w.base ≡ 0x10000 → HasDistance w m → number_in m (place_at w note_item note_distance.offset) 4 ≡ Some 74
reads w m at h =
    let there : number_in m (place_at w note_item note_distance.offset) 4 ≡ Some (number h.field.bytes) = subst (λ (k : ℕ). number_in m (place_at w note_item note_distance.offset) k ≡ Some (number h.field.bytes)) h.field.wide (number-held m (place_at w note_item note_distance.offset) h.field.bytes h.field.held) in
    there ∙ ap Some (number_is w m at h)

-- ---- the code

code_hollow : IsHeaderOnly debug_file code_part
unfolding debug_file
code_hollow = record { named = λ e. (let no : 5 ≡ 0 = e in omega (arith, no)); section = code_section; found = refl; only = record { bare = refl; room = refl; other = λ e. (let no : 1 ≡ 7 = e in omega (arith, no)) } }

-- there are two input sections
abbrev IsOne : InputSection → Type 0
IsOne s = (s ≡ note) ⊎ (s ≡ code)

abbrev FileHas : File → Type 0
FileHas f = All IsOne f.sections

abbrev GroupHas : Group → Type 0
GroupHas g = All FileHas g.files

input_is : (s : InputSection) → IsInput debug_file s → IsOne s
unfolding debug_file
input_is s h =
    let object = All-from_recursion IsOne (note ∷ code ∷ []) (inl refl, (inr refl, tt)) in
    let each = All-from_recursion GroupHas (debug_group ∷ []) (All-from_recursion FileHas debug_files (All-nil IsOne, (object, (All-nil IsOne, tt))), tt) in
    All-contains IsOne h.file.sections s (All-contains FileHas h.group.files h.file (All-contains GroupHas (debug_group ∷ []) h.group each h.grouped) h.filed) h.listed

-- none is of frames
frame_is : (s : InputSection) → IsFrameInput debug_file s → IsOne s
frame_is s k = input_is s (record {
  group = k.group;
  grouped = k.grouped;
  file = k.file;
  filed = subst (λ (fs : List File). Contains fs k.file) (sym k.filed) (Contains-append_right k.files (k.file ∷ k.files_behind) k.file (Contains-here k.file k.files_behind));
  listed = subst (λ (ss : List InputSection). Contains ss s) (sym k.listed) (Contains-append_right k.sections (s ∷ k.sections_behind) s (Contains-here s k.sections_behind));
})

no_frame : (s : InputSection) → s.slot ≡ slot.Frame → IsOne s → ⊥
no_frame s e (inl h) = let no : slot.Loaded ≡ slot.Frame = ap (λ (x : InputSection). x.slot) (sym h) ∙ e in cc
no_frame s e (inr h) = let no : slot.Loaded ≡ slot.Frame = ap (λ (x : InputSection). x.slot) (sym h) ∙ e in cc

-- the note has other relocations than the code's
not_of_note : Contains note.relocations code_call → ⊥
not_of_note h = at h.0 h.1 h.2
  where
    at : (k : ℕ) → k < 2 → slice_index_or (note_distance ∷ note_address ∷ []) k code_call ≡ code_call → ⊥
    at zero lt e = let no : 12 ≡ 1 = ap (λ (r : InputRelocation). r.offset) e in omega (arith, no)
    at (suc zero) lt e = let no : 16 ≡ 1 = ap (λ (r : InputRelocation). r.offset) e in omega (arith, no)
    at (suc (suc k)) lt e = omega (arith, lt)

unasked : (item : Item) → IsKept debug_file item → IsReference item code_call → ⊥
unfolding debug_file
unasked item (OfSection s k e) r = by s k.input.file e k.written (input_is s k.input)
  where
    by : (s : InputSection) (f : File) → item ≡ placed_item debug_file f s → ((p : Part) → slice_get debug_file.parts s.part ≡ Some p → IsHeaderOnly debug_file p → ⊥) → IsOne s → ⊥
    by s f e written (inl h) = not_of_note (subst (λ (i : Item). Contains i.relocations code_call) (e ∙ ap (λ (x : InputSection). placed_item debug_file f x) h) r.listed)
    by s f e written (inr h) = subst (λ (x : InputSection). (p : Part) → slice_get debug_file.parts x.part ≡ Some p → IsHeaderOnly debug_file p → ⊥) h written code_part refl code_hollow
unasked item (OfFrames s k e) r = no_frame s k.frame (frame_is s k)

hollow_there : HasOmittedSection debug_file
unfolding debug_file
hollow_there = record {
  section = code;
  input = record { group = debug_group; grouped = (0, omega arith, refl); file = debug_object; filed = (1, omega arith, refl); listed = (1, omega arith, refl) };
  loaded = tt;
  room = refl;
  has_data = refl;
  part = code_part;
  listed = refl;
  header_only = code_hollow;
  reference = code_call;
  has = (0, omega arith, refl);
  refers = λ e. (let no : 2 ≡ 0 = e in omega (arith, no));
  unasked = unasked;
}

-- ---- the whole

note_is_kept : IsKept debug_file note_item
unfolding debug_file
note_is_kept = OfSection note note_kept refl

asked : (w : World) (image : List ℕ) (h : IsLinked debug_file w image) → ReferenceHolds debug_file w h.memory note_item note_distance
asked w image h = (h.kept note_item note_is_kept).references note_distance distance_refers there (λ x. absurd (ordinary x)) followed

refused : (w : World) → w.base ≡ 0x10000 → Refuses debug_file w (HasWrongNumber (place_at w note_item note_distance.offset) 4 74)
refused w at image h x =
    let both : Some x.number ≡ Some 74 = sym x.there ∙ reads w h.memory at (has_distance w h.memory (asked w image h)) in
    x.wrong (some_is x.number 74 both)

joined : LayoutsAreLaidOut → ImagesAreSound → IsJoinedForDebuggers debug_file
unfolding debug_file note_there
joined laws sound =
    let w = world laws in
    let right = sound debug_file numbers flags faultless (inr tt) in
    let linked = right.1 w.world w.legal in
    let holds = asked w.world (bytes debug_file) linked in
    record {
      bare = refl;
      faultless = faultless;
      world = w.world;
      elsewhere = λ z. (let at = w.at in absurd (omega (arith, z, at)));
      legal = w.legal;
      described = right.0;
      linked = linked;
      note = note_there;
      holds = holds;
      number = 74;
      reads = reads w.world linked.memory w.at (has_distance w.world linked.memory holds);
      refused = refused w.world w.at;
      header_only = hollow_there;
    }

pub debuggers_joined : LayoutsAreLaidOut → ImagesAreSound → IsMetForDebuggers machine.X86_64 (output.StaticExecutable model.Relocatable)
unfolding debug_file
debuggers_joined laws sound = (debug_file, refl, refl, joined laws sound)
