-- On x86-64 the field of a reference in no call and no jump reads as its formula.
use Rattle.wild_laws.proofs.Common.{◌≡◌, ℕ, zero, suc, ◌<◌, inl, inr, length, get_or, refl, sym, ◌∙◌, arith, subst, Some, Contains, Machine, InputRelocation, Layout, SymbolAddress, Distance, Formula, formula, Plain, Memory, World, Call, Jump, Instruction, Item, formula_of, IsInstruction, ReferenceHolds, HasFormula}
use Rattle.wild_records.specs.Abi.Relocation.{r_x86_64_64, r_x86_64_pc32, r_x86_64_32, r_x86_64_32s, r_x86_64_16, r_x86_64_pc16, r_x86_64_8, r_x86_64_pc8, r_x86_64_pc64}
use Rattle.wild_types.specs.declared.kind.Machine.TheVariants as machine
use Rattle.wild_reloc.specs.Formula.{Full, Signed, Unsigned, Either}
use Rattle.wild_reloc.specs.FormulaX86_64.{x86_64_formula}
use Rattle.wild_meaning.specs.Reference.{HoldsPlain}
use Rattle.wild_laws.specs.FirstTypes.{addresses_x86_64, IsBranchField}
use Rattle.wild_laws.proofs.FirstNames.{IsKnown, plain_has}
use Rattle.wild_laws.proofs.CodeX86_64.{IsFirst, template_direct, is_branch, IsCallOrJump}

-- ---- the formulas of addresses and distances

abbrev WritesAddress : ℕ → Type 0
WritesAddress n = (f : Formula) → x86_64_formula n ≡ Some f → IsKnown f.value

address : (n : ℕ) (v : Formula) → x86_64_formula n ≡ Some v → IsKnown v.value → WritesAddress n
address n v is k = λ f h. (let both : Some v ≡ Some f = sym is ∙ h in let same : v ≡ f = cc in subst (λ (g : Formula). IsKnown g.value) same k)

formula_64 : WritesAddress r_x86_64_64
unfolding x86_64_formula
formula_64 = address r_x86_64_64 (formula SymbolAddress Full) refl (inl refl)

formula_pc32 : WritesAddress r_x86_64_pc32
unfolding x86_64_formula
formula_pc32 = address r_x86_64_pc32 (formula Distance (Plain 32 Signed)) refl (inr refl)

formula_32 : WritesAddress r_x86_64_32
unfolding x86_64_formula
formula_32 = address r_x86_64_32 (formula SymbolAddress (Plain 32 Unsigned)) refl (inl refl)

formula_32s : WritesAddress r_x86_64_32s
unfolding x86_64_formula
formula_32s = address r_x86_64_32s (formula SymbolAddress (Plain 32 Signed)) refl (inl refl)

formula_16 : WritesAddress r_x86_64_16
unfolding x86_64_formula
formula_16 = address r_x86_64_16 (formula SymbolAddress (Plain 16 Either)) refl (inl refl)

formula_pc16 : WritesAddress r_x86_64_pc16
unfolding x86_64_formula
formula_pc16 = address r_x86_64_pc16 (formula Distance (Plain 16 Signed)) refl (inr refl)

formula_8 : WritesAddress r_x86_64_8
unfolding x86_64_formula
formula_8 = address r_x86_64_8 (formula SymbolAddress (Plain 8 Either)) refl (inl refl)

formula_pc8 : WritesAddress r_x86_64_pc8
unfolding x86_64_formula
formula_pc8 = address r_x86_64_pc8 (formula Distance (Plain 8 Signed)) refl (inr refl)

formula_pc64 : WritesAddress r_x86_64_pc64
unfolding x86_64_formula
formula_pc64 = address r_x86_64_pc64 (formula Distance Full) refl (inr refl)

writes_address : (n : ℕ) → Contains addresses_x86_64 n → WritesAddress n
writes_address n c = at n c.0 c.1 c.2
  where
    at : (n k : ℕ) → k < length addresses_x86_64 → get_or addresses_x86_64 k n ≡ n → WritesAddress n
    at n zero l e = subst WritesAddress e formula_64
    at n (suc zero) l e = subst WritesAddress e formula_pc32
    at n (suc (suc zero)) l e = subst WritesAddress e formula_32
    at n (suc (suc (suc zero))) l e = subst WritesAddress e formula_32s
    at n (suc (suc (suc (suc zero)))) l e = subst WritesAddress e formula_16
    at n (suc (suc (suc (suc (suc zero))))) l e = subst WritesAddress e formula_pc16
    at n (suc (suc (suc (suc (suc (suc zero)))))) l e = subst WritesAddress e formula_8
    at n (suc (suc (suc (suc (suc (suc (suc zero))))))) l e = subst WritesAddress e formula_pc8
    at n (suc (suc (suc (suc (suc (suc (suc (suc zero)))))))) l e = subst WritesAddress e formula_pc64
    at n (suc (suc (suc (suc (suc (suc (suc (suc (suc k))))))))) l e = absurd (omega (arith, l))

-- ---- fields

plain_formula : (l : Layout) (w : World) (m : Memory) (s : Item) (r : InputRelocation) → l.machine ≡ machine.X86_64 → WritesAddress r.number → HoldsPlain l w m s r → HasFormula l w m s r
plain_formula l w m s r x known p = plain_has l w m s r p (known p.formula (subst (λ (k : Machine). formula_of k r.number ≡ Some p.formula) x p.known)) (λ a. absurd (let both : machine.X86_64 ≡ machine.AArch64 = sym x ∙ a in cc))

-- a reference with an instruction is in a call or a jump
branch_field : (l : Layout) (s : Item) (r : InputRelocation) (start : ℕ) (o : Instruction) → IsInstruction l s r start o → IsCallOrJump o → IsBranchField machine.X86_64 l s r
branch_field l s r start o t (inl e) = (start, inl (is_branch l s r start 0xe8 Call (subst (λ (p : Instruction). IsInstruction l s r start p) e t)))
branch_field l s r start o t (inr e) = (start, inr (is_branch l s r start 0xe9 Jump (subst (λ (p : Instruction). IsInstruction l s r start p) e t)))

pub has_formula : (l : Layout) (w : World) (m : Memory) (s : Item) (r : InputRelocation) → l.machine ≡ machine.X86_64 → Contains addresses_x86_64 r.number → IsFirst l s r → (IsBranchField machine.X86_64 l s r → ⊥) → ReferenceHolds l w m s r → HasFormula l w m s r
has_formula l w m s r x type f none (inl p) = plain_formula l w m s r x (writes_address r.number type) p
has_formula l w m s r x type f none (inr q) = let d = template_direct l s r q.start q.instruction q.first x f q.template in absurd (none (branch_field l s r q.start q.instruction d.stands d.which))
