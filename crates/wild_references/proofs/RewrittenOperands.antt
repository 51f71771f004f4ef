-- What an instruction that is rewritten demands, and that the value in its field lands there: addresses.
use Rattle.wild_references.proofs.Common.{◌≡◌, ℕ, ◌+◌, ◌-◌, ◌%◌, ◌^◌, ◌<◌, ◌≤◌, Bool, true, false, ap, ◌∙◌, arith, subst, ℤ, pos, ◌&&◌, ◌||◌, not, Option, Some, w64, cast_unsigned, not-true, OutputKind, InputRelocation, Layout, KeepsAll, has_flag, interposable, has_link_time_address, absolute, ifunc, has_fixed_load_address, flags_at, moves, plain, SymbolAddress, Distance, Four, Sign, Row, minus_four, rewrite_of, field_in, distance, template_start, Memory, World, IsMovable, IsAbsolute, Item, place_at, IsSymbolAddress, address_denotes, flag_is, IsLoadedItem}
use Rattle.wild_types.specs.declared.kind.Machine.TheVariants as machine
use Rattle.wild_types.specs.declared.kind.RelocationModel.TheVariants as model
use Rattle.wild_types.specs.declared.kind.OutputKind.TheVariants as output
use Rattle.wild_reloc.specs.declared.info.RelocationKind.TheVariants as kinds
use Rattle.wild_meaning.specs.Denotes.{IsAddressOf}
use Rattle.wild_meaning.proofs.SymbolLemmas.{referent_address}
use Rattle.wild_references.proofs.WholeSections.{placed}
use Rattle.wild_references.proofs.RewrittenPlaces.{LawsBelow, IsPlacedRow, ended}
use Rattle.wild_references.proofs.RewrittenSymbols.{denoted_small}
use Rattle.wild_references.proofs.RewrittenTerms.{written_as, stands_below}
use Rattle.wild_references.proofs.RewrittenValues.{gives_distance, gives_number}
use Rattle.wild_references.proofs.MergedStrings.{names_none}

-- ---- whether the value moves

absolute_flag : (l : Layout) (k : ℕ) → IsAbsolute l k → has_flag (flags_at l k) absolute ≡ true
absolute_flag l k h = flag_is l k absolute true h

unknown_by : (a b : Bool) → (a || b) ≡ false → a ≡ true → ⊥
unknown_by true b h e = cc
unknown_by false b h e = cc

-- a value that is not known when the image is linked is no absolute one
pub not_absolute : (l : Layout) (k : ℕ) → not (has_flag (flags_at l k) absolute || has_link_time_address (flags_at l k) && has_fixed_load_address l.kind) ≡ true → IsAbsolute l k → ⊥
not_absolute l k h a = unknown_by (has_flag (flags_at l k) absolute) _ (not-true _ h) (absolute_flag l k a)

fixed_not : (k : OutputKind) → has_fixed_load_address k ≡ true → IsMovable k → ⊥
fixed_not (output.StaticExecutable model.NonRelocatable) h m = m
fixed_not (output.StaticExecutable model.Relocatable) h m = cc
fixed_not (output.DynamicExecutable model.NonRelocatable) h m = m
fixed_not (output.DynamicExecutable model.Relocatable) h m = cc
fixed_not output.SharedObject h m = cc
fixed_not output.PartialObject h m = m

linked_by : (abs other fixed : Bool) → ((not abs && not other) || fixed) ≡ true → abs ≡ true → fixed ≡ true
linked_by true other fixed h e = h
linked_by false other fixed h e = cc

-- an address that is known but for the base is no absolute value of an output that moves
pub not_moved : (l : Layout) (k : ℕ) → (has_link_time_address (flags_at l k) || has_fixed_load_address l.kind) ≡ true → IsMovable l.kind → IsAbsolute l k → ⊥
not_moved l k h m a = fixed_not l.kind (linked_by (has_flag (flags_at l k) absolute) _ (has_fixed_load_address l.kind) h (absolute_flag l k a)) m

-- ---- the symbol's address

-- what stands for the symbol, a number of the machine
pub record IsOperand (l : Layout) (w : World) (m : Memory) (symbol : Option ℕ) (n : ℕ) : Type 0 where
  pub target : IsSymbolAddress l w m symbol n
  pub small : n < 2 ^ 64

operand_at : (l : Layout) (w : World) (m : Memory) (s : Item) (k n : ℕ) (symbol : Option ℕ) → IsLoadedItem machine.X86_64 l w m s → symbol ≡ Some k → has_flag (flags_at l k) ifunc ≡ false → IsSymbolAddress l w m symbol n → IsOperand l w m symbol n
operand_at l w m s k n symbol h e plain t =
    let d : IsAddressOf l w m k n = subst (λ (o : Option ℕ). IsSymbolAddress l w m o n) e t in
    record { target = t; small = denoted_small l w m k n (placed machine.X86_64 l w m s h) plain (address_denotes l w m k n d) }

-- the field has its distance
pub record LandsFar (l : Layout) (w : World) (m : Memory) (s : Item) (r : InputRelocation) (row : Row) (v : ℕ) : Type 0 where
  pub operand : ℕ
  pub is : IsOperand l w m r.symbol operand
  pub lands : v ≡ distance operand (place_at w s (template_start row r) + field_in row)

distance_lands : (n t c place q v : ℕ) → t ≡ (n + c) % 2 ^ 64 → c ≡ 2 ^ 64 - 4 → v ≡ (t + (2 ^ 64 - place)) % 2 ^ 64 → place ≡ q → place ≤ 2 ^ 64 → v ≡ distance n q
distance_lands n t c place q v a b e f low = omega (arith, a, b, e, f, low)

pub lands_far : LawsBelow → (l : Layout) (w : World) (m : Memory) (s : Item) (i : ℕ) (r : InputRelocation) (row : Row) (v : ℕ) → IsLoadedItem machine.X86_64 l w m s → KeepsAll l → (p : IsPlacedRow l s i r row v) → (rewrite_of row).number ≡ 2 → (rewrite_of row).addend r.addend ≡ r.addend → minus_four r.addend ≡ true → interposable (flags_at l p.chosen.symbol) ≡ false → has_flag (flags_at l p.chosen.symbol) ifunc ≡ false
    → (IsMovable l.kind → IsAbsolute l p.chosen.symbol → w.base ≡ 0) → LandsFar l w m s r row v
lands_far laws l w m s i r row v h all p number same ends own plain asked =
    let g = gives_distance laws l w m s i r row v h all p number own asked in
    let below = stands_below l w m s i r row v h p in
    let place = below.place in
    let high = below.ends in
    let c : cast_unsigned w64 ((rewrite_of row).addend r.addend) ≡ 2 ^ 64 - 4 = ap (λ (x : ℤ). cast_unsigned w64 x) same ∙ ended r.addend ends in
    record {
      operand = g.1.symbol;
      is = operand_at l w m s p.chosen.symbol g.1.symbol r.symbol h p.chosen.named plain (referent_address Distance l w m s (written_as row r) g.1.symbol tt h.on (λ t. names_none l (written_as row r) p.chosen.plain t.1) g.1.denoted);
      lands = distance_lands g.1.symbol g.0 (cast_unsigned w64 ((rewrite_of row).addend r.addend)) (place_at w s (written_as row r).offset) (place_at w s (template_start row r) + field_in row) v g.1.sum c g.2 below.start (omega (arith, place, high));
    }

-- or itself
pub record LandsItself (l : Layout) (w : World) (m : Memory) (r : InputRelocation) (v : ℕ) : Type 0 where
  pub operand : ℕ
  pub is : IsOperand l w m r.symbol operand
  pub lands : v ≡ operand

pub lands_itself : LawsBelow → (l : Layout) (w : World) (m : Memory) (s : Item) (i : ℕ) (r : InputRelocation) (row : Row) (v : ℕ) (sign : Sign) → IsLoadedItem machine.X86_64 l w m s → KeepsAll l → (p : IsPlacedRow l s i r row v) → p.made.written.info ≡ plain kinds.Absolute Four sign → (rewrite_of row).addend r.addend ≡ pos 0 → interposable (flags_at l p.chosen.symbol) ≡ false → has_flag (flags_at l p.chosen.symbol) ifunc ≡ false → moves l p.chosen.symbol ≡ false → LandsItself l w m r v
lands_itself laws l w m s i r row v sign h all p info none own plain_one still =
    let g = gives_number laws l w m s i r row v sign h all p info own plain_one still in
    let is = operand_at l w m s p.chosen.symbol g.symbol r.symbol h p.chosen.named plain_one (referent_address SymbolAddress l w m s (written_as row r) g.symbol tt h.on (λ t. names_none l (written_as row r) p.chosen.plain t.1) g.denoted) in
    let c : cast_unsigned w64 ((rewrite_of row).addend r.addend) ≡ 0 = ap (λ (x : ℤ). cast_unsigned w64 x) none in
    let e = g.sum in
    let low = is.small in
    record { operand = g.symbol; is = is; lands = omega (arith, e, c, low) }
