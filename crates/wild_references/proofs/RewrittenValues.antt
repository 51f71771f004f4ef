-- What the value in the field of a rewritten instruction is, kind by kind.
use Rattle.wild_references.proofs.Common.{◌≡◌, ℕ, inl, inr, Bool, true, false, refl, sym, ◌∙◌, subst, length, nat_lt, ◌&&◌, ◌||◌, not, Option, Some, if◌then◌else◌, Machine, OutputKind, InputRelocation, Layout, KeepsAll, Treatment, has_flag, interposable, has_link_time_address, absolute, ifunc, is_executable, is_shared_object, is_position_independent, has_fixed_load_address, canonical, allocated, flags_at, needs_symbolic, is_barred, is_narrow, needs_irelative, moves, address_treatment, kind_treatment, plain, x86_64_row, plain_value, Value, Four, Sign, Signed, Row, rewrite_of, Memory, World, IsMovable, IsAbsolute, IsReplaceable, Item, Gives, IsLoadedItem, IsFollowed}
use Rattle.std.proofs.lemmas.Bool.{and_right, or_from}
use Rattle.wild_types.specs.declared.kind.Machine.TheVariants as machine
use Rattle.wild_types.specs.declared.kind.RelocationModel.TheVariants as model
use Rattle.wild_types.specs.declared.kind.OutputKind.TheVariants as output
use Rattle.wild_slot.specs.declared.treatment.Treatment.TheVariants as treatments
use Rattle.wild_slot.specs.Treatment.{has_no_local_address, is_barred_type, is_barred_in_shared, relative_treatment, irelative_treatment}
use Rattle.wild_reloc.specs.declared.info.RelocationKind.TheVariants as kinds
use Rattle.wild_relax.proofs.RowLemmas.{pc32, tpoff32, gottpoff}
use Rattle.wild_references.proofs.RewrittenPlaces.{LawsBelow, IsPlacedRow}
use Rattle.wild_references.proofs.RewrittenSymbols.{definition, own_one}
use Rattle.wild_references.proofs.RewrittenTerms.{symbol_there, written_as, wide_type, wide, info_is, has_term}

-- ---- treatments of a field of eight bytes

barred_by : (a b c d : Bool) → c ≡ false → (a && b && c && d) ≡ false
barred_by true true c d h = rw h refl
barred_by true false c d h = refl
barred_by false b c d h = refl

-- its type is in no list
not_listed : (k : Machine) → is_barred_type k wide_type ≡ false
not_listed machine.X86_64 = refl
not_listed machine.AArch64 = refl

not_listed_in_shared : (k : Machine) → is_barred_in_shared k wide_type ≡ false
not_listed_in_shared machine.X86_64 = refl
not_listed_in_shared machine.AArch64 = refl

not_barred : (l : Layout) (s : Item) (k : ℕ) → is_barred l s.flags wide_type k ≡ false
not_barred l s k = barred_by (allocated s.flags) (is_position_independent l.kind) (is_barred_type l.machine wide_type) (has_no_local_address (flags_at l k)) (not_listed l.machine)

by_barred : (b : Bool) → b ≡ false → (if b then treatments.Recompile else treatments.Value wide) ≡ treatments.Value wide
by_barred true h = cc
by_barred false h = refl

distance_value : (l : Layout) (s : Item) (k : ℕ) (symbol : Option ℕ) → symbol ≡ Some k → kind_treatment l s.flags wide_type symbol wide kinds.Relative ≡ treatments.Value wide
distance_value l s k symbol e = rw e (by_barred (is_barred l s.flags wide_type k) (not_barred l s k))

address_by : (barred left chosen moving : Bool) (i : ℕ) (c t : Treatment) → barred ≡ false → left ≡ false → chosen ≡ false → moving ≡ false → (if barred then treatments.Recompile else (if left then treatments.Symbolic i else (if chosen then c else (if moving then t else treatments.Value wide)))) ≡ treatments.Value wide
address_by false false false false i c t a b d e = refl
address_by true left chosen moving i c t a b d e = cc
address_by false true chosen moving i c t a b d e = cc
address_by false false true moving i c t a b d e = cc
address_by false false false true i c t a b d e = cc

there_by : (b : Bool) (t : Treatment) → t ≡ treatments.Value wide → (if b then t else treatments.Value wide) ≡ treatments.Value wide
there_by true t h = h
there_by false t h = refl

address_value : (l : Layout) (s : Item) (k : ℕ) (symbol : Option ℕ) → symbol ≡ Some k → interposable (flags_at l k) ≡ false → has_flag (flags_at l k) ifunc ≡ false → moves l k ≡ false → kind_treatment l s.flags wide_type symbol wide kinds.Absolute ≡ treatments.Value wide
address_value l s k symbol e own plain_one still =
    let narrow : is_narrow l s.flags wide_type ≡ false = and_right (allocated s.flags && is_shared_object l.kind) (is_barred_in_shared l.machine wide_type) (not_listed_in_shared l.machine) in
    let value = address_by (is_barred l s.flags wide_type k || is_narrow l s.flags wide_type) (needs_symbolic l s.flags wide k) (needs_irelative l s.flags k) (allocated s.flags && moves l k) k (irelative_treatment wide k) (relative_treatment wide)
    (or_from (is_barred l s.flags wide_type k) (is_narrow l s.flags wide_type) (not_barred l s k) narrow) (and_right _ _ own) (and_right _ _ plain_one) (and_right (allocated s.flags) (moves l k) still) in
    rw e (there_by (nat_lt (canonical l k) (length l.symbols)) (address_treatment l s.flags wide_type wide k) value)

no_library : (k : OutputKind) → is_executable k ≡ true → is_shared_object k ≡ false
no_library (output.StaticExecutable any) h = refl
no_library (output.DynamicExecutable any) h = refl
no_library output.SharedObject h = cc
no_library output.PartialObject h = cc

pub pointer_value : (l : Layout) (s : Item) (k : ℕ) (symbol : Option ℕ) → symbol ≡ Some k → is_executable l.kind ≡ true → kind_treatment l s.flags wide_type symbol wide kinds.TpOff ≡ treatments.Value wide
pointer_value l s k symbol e program = rw e (by_barred (allocated s.flags && is_shared_object l.kind) (and_right (allocated s.flags) (is_shared_object l.kind) (no_library l.kind program)))

slot_value : (l : Layout) (s : Item) (k : ℕ) (symbol : Option ℕ) → symbol ≡ Some k → kind_treatment l s.flags wide_type symbol wide kinds.GotTpOff ≡ treatments.Value wide
slot_value l s k symbol e = rw e refl

-- a value that is known when the image is linked does not move
fixed_still : (k : OutputKind) → has_fixed_load_address k ≡ true → is_position_independent k ≡ false
fixed_still (output.StaticExecutable model.NonRelocatable) h = refl
fixed_still (output.StaticExecutable model.Relocatable) h = cc
fixed_still (output.DynamicExecutable model.NonRelocatable) h = refl
fixed_still (output.DynamicExecutable model.Relocatable) h = cc
fixed_still output.SharedObject h = cc
fixed_still output.PartialObject h = cc

still_by : (abs linked fixed pic : Bool) → (fixed ≡ true → pic ≡ false) → (abs || linked && fixed) ≡ true → (pic && not abs) ≡ false
still_by true linked fixed true e h = refl
still_by true linked fixed false e h = refl
still_by false true true pic e h = rw (e refl) refl
still_by false true false pic e h = cc
still_by false false fixed pic e h = cc

pub known_still : (l : Layout) (k : ℕ) → (has_flag (flags_at l k) absolute || has_link_time_address (flags_at l k) && has_fixed_load_address l.kind) ≡ true → moves l k ≡ false
known_still l k h = still_by (has_flag (flags_at l k) absolute) (has_link_time_address (flags_at l k)) (has_fixed_load_address l.kind) (is_position_independent l.kind) (fixed_still l.kind) h

-- ---- whose symbol it is

-- the symbol is the output's own
pub own_symbol : (l : Layout) (w : World) (m : Memory) (s : Item) (i : ℕ) (r : InputRelocation) (row : Row) (v : ℕ) → IsLoadedItem machine.X86_64 l w m s → (p : IsPlacedRow l s i r row v) → interposable (flags_at l p.chosen.symbol) ≡ false → IsReplaceable l p.chosen.symbol false
own_symbol l w m s i r row v h p own = own_one l p.chosen.symbol h.laid.slot_flags (definition l p.chosen.symbol h.laid.definitions (symbol_there l w m s i r row v h p)) own

followed : (l : Layout) (r q : InputRelocation) (k : ℕ) (value : Value) → r.symbol ≡ Some k → q.symbol ≡ r.symbol → IsReplaceable l k false → IsFollowed l q value
followed l r q k value named e own = λ j at. (let same : j ≡ k = (let f : Some j ≡ Some k = sym at ∙ (e ∙ named) in cc) in inl (subst (λ (x : ℕ). IsReplaceable l x false) (sym same) own))

-- ---- the kinds

-- S + A - P
pub gives_distance : LawsBelow → (l : Layout) (w : World) (m : Memory) (s : Item) (i : ℕ) (r : InputRelocation) (row : Row) (v : ℕ) → IsLoadedItem machine.X86_64 l w m s → KeepsAll l → (p : IsPlacedRow l s i r row v) → (rewrite_of row).number ≡ 2 → interposable (flags_at l p.chosen.symbol) ≡ false → (IsMovable l.kind → IsAbsolute l p.chosen.symbol → w.base ≡ 0) → Gives (plain_value kinds.Relative) l w m s (written_as row r) v
gives_distance laws l w m s i r row v h all p number own asked =
    let info = pc32 p.made.written.info (sym (subst (λ (n : ℕ). x86_64_row n ≡ Some p.made.written.info) number (info_is l w m s i r row v h p))) in
    laws.distance l w m s (written_as row r) v (has_term l w m s i r row v kinds.Relative Four Signed h all p info (λ t e. e) (distance_value l s p.chosen.symbol r.symbol p.chosen.named) (λ relative movable abs. asked movable abs))
    (followed l r (written_as row r) p.chosen.symbol (plain_value kinds.Relative) p.chosen.named refl (own_symbol l w m s i r row v h p own))

-- S + A
pub gives_number : LawsBelow → (l : Layout) (w : World) (m : Memory) (s : Item) (i : ℕ) (r : InputRelocation) (row : Row) (v : ℕ) (sign : Sign) → IsLoadedItem machine.X86_64 l w m s → KeepsAll l → (p : IsPlacedRow l s i r row v) → p.made.written.info ≡ plain kinds.Absolute Four sign → interposable (flags_at l p.chosen.symbol) ≡ false → has_flag (flags_at l p.chosen.symbol) ifunc ≡ false → moves l p.chosen.symbol ≡ false → Gives (plain_value kinds.Absolute) l w m s (written_as row r) v
gives_number laws l w m s i r row v sign h all p info own plain_one still =
    laws.sum sign l w m s (written_as row r) v (has_term l w m s i r row v kinds.Absolute Four sign h all p info (λ t e. e) (address_value l s p.chosen.symbol r.symbol p.chosen.named own plain_one still) (λ relative movable abs. absurd relative))
    (followed l r (written_as row r) p.chosen.symbol (plain_value kinds.Absolute) p.chosen.named refl (own_symbol l w m s i r row v h p own))

-- the offset from the thread pointer
pub gives_offset : LawsBelow → (l : Layout) (w : World) (m : Memory) (s : Item) (i : ℕ) (r : InputRelocation) (row : Row) (v : ℕ) → IsLoadedItem machine.X86_64 l w m s → KeepsAll l → (p : IsPlacedRow l s i r row v) → (rewrite_of row).number ≡ 23 → is_executable l.kind ≡ true → interposable (flags_at l p.chosen.symbol) ≡ false → Gives (plain_value kinds.TpOff) l w m s (written_as row r) v
gives_offset laws l w m s i r row v h all p number program own =
    let info = tpoff32 p.made.written.info (sym (subst (λ (n : ℕ). x86_64_row n ≡ Some p.made.written.info) number (info_is l w m s i r row v h p))) in
    laws.pointer l w m s (written_as row r) v (has_term l w m s i r row v kinds.TpOff Four Signed h all p info (λ t e. e) (pointer_value l s p.chosen.symbol r.symbol p.chosen.named program) (λ relative movable abs. absurd relative))
    (followed l r (written_as row r) p.chosen.symbol (plain_value kinds.TpOff) p.chosen.named refl (own_symbol l w m s i r row v h p own))

-- the slot of an offset, whichever module has the symbol
pub gives_slot : LawsBelow → (l : Layout) (w : World) (m : Memory) (s : Item) (i : ℕ) (r : InputRelocation) (row : Row) (v : ℕ) → IsLoadedItem machine.X86_64 l w m s → KeepsAll l → (p : IsPlacedRow l s i r row v) → (rewrite_of row).number ≡ 22 → Gives (plain_value kinds.GotTpOff) l w m s (written_as row r) v
gives_slot laws l w m s i r row v h all p number =
    let info = gottpoff p.made.written.info (sym (subst (λ (n : ℕ). x86_64_row n ≡ Some p.made.written.info) number (info_is l w m s i r row v h p))) in
    laws.slot l w m s (written_as row r) v (has_term l w m s i r row v kinds.GotTpOff Four Signed h all p info (λ t e. e) (slot_value l s p.chosen.symbol r.symbol p.chosen.named) (λ relative movable abs. absurd relative))
    (λ j at. inr (inl ((λ t. t), (λ t. t))))
