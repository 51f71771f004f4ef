-- A load whose relocation type does not tell its prefix: where no longer instruction has it, it is the one with the shorter prefix.
use Rattle.wild_references.proofs.Common.{◌≡◌, ℕ, ◌≤◌, ◌⊎◌, inl, inr, true, refl, subst, [], nat_le, Contains, leb-true, Machine, InputRelocation, Layout, PLAIN_LEA, template_start, IsDecided, Item, Instruction, size_of, instructions_of, IsInstruction, IsSingle, WindowsHaveNoOtherField}
use Rattle.wild_records.specs.Abi.Relocation as abi
use Rattle.wild_types.specs.declared.kind.Machine.TheVariants as machine
use Rattle.wild_references.proofs.RewrittenForms.{instruction_of}
use Rattle.wild_references.proofs.RewrittenPlaces.{IsPlacedRow}
use Rattle.wild_references.proofs.RewrittenSingles.{has_number, has_listed, stands_there}
use Rattle.wild_references.proofs.RewrittenCalls.{EachOf, each_of}
use Rattle.wild_references.proofs.RewrittenSingleInstructions.{free}
use Rattle.wild_references.proofs.RewrittenPrefix.{wide_load}

-- no instruction of the type is longer but that one
abbrev IsShorter : Instruction → Type 0
IsShorter o = has_number abi.r_x86_64_gotpcrel o.numbers ≡ true → o.partners ≡ [] → (nat_le (size_of o) 7 ≡ true) ⊎ (o ≡ wide_load)

each_shorter : EachOf IsShorter (instructions_of machine.X86_64)
each_shorter = (
  (λ h e. cc),
  (
    (λ h e. cc),
    (
      (λ h e. inl refl),
      (
        (λ h e. inl refl),
        (
          (λ h e. cc),
          (
            (λ h e. cc),
            (
              (λ h e. cc),
              (
                (λ h e. cc),
                (
                  (λ h e. cc),
                  (
                    (λ h e. cc),
                    (
                      (λ h e. cc),
                      (
                        (λ h e. cc),
                        (
                          (λ h e. cc),
                          (
                            (λ h e. cc),
                            (
                              (λ h e. cc),
                              (
                                (λ h e. cc),
                                (
                                  (λ h e. cc),
                                  (
                                    (λ h e. cc),
                                    (
                                      (λ h e. cc),
                                      (
                                        (λ h e. cc),
                                        (
                                          (λ h e. inl refl),
                                          (
                                            (λ h e. inr refl),
                                            (
                                              (λ h e. cc),
                                              (
                                                (λ h e. cc),
                                                (
                                                  (λ h e. cc),
                                                  (
                                                    (λ h e. cc),
                                                    (
                                                      (λ h e. cc),
                                                      (
                                                        (λ h e. cc),
                                                        (
                                                          (λ h e. cc),
                                                          (
                                                            (λ h e. cc),
                                                            ((λ h e. cc), tt),
                                                          ),
                                                        ),
                                                      ),
                                                    ),
                                                  ),
                                                ),
                                              ),
                                            ),
                                          ),
                                        ),
                                      ),
                                    ),
                                  ),
                                ),
                              ),
                            ),
                          ),
                        ),
                      ),
                    ),
                  ),
                ),
              ),
            ),
          ),
        ),
      ),
    ),
  ),
)

shorter : (l : Layout) (s : Item) (r : InputRelocation) (from : ℕ) (o : Instruction) → l.machine ≡ machine.X86_64 → r.number ≡ abi.r_x86_64_gotpcrel → o.partners ≡ [] → IsInstruction l s r from o → (size_of o ≤ 7) ⊎ (o ≡ wide_load)
shorter l s r from o x86 number none h =
    let known = subst (λ (m : Machine). Contains (instructions_of m) o) x86 h.known in
    let listed = subst (λ (x : ℕ). Contains o.numbers x) number h.number in
    elim (each_of IsShorter (instructions_of machine.X86_64) o known.0 each_shorter known.1 known.2 (has_listed abi.r_x86_64_gotpcrel o.numbers listed.0 listed.1 listed.2) none) [
      | inl short ↦ inl (leb-true (size_of o) 7 short)
      | inr same ↦ inr same
    ]

pub plain_single : WindowsHaveNoOtherField → (l : Layout) (s : Item) (i : ℕ) (r : InputRelocation) (v : ℕ) → l.machine ≡ machine.X86_64 → IsDecided l s → IsPlacedRow l s i r PLAIN_LEA v → ((from : ℕ) → IsInstruction l s r from wide_load → ⊥) → IsSingle l s r (template_start PLAIN_LEA r) (instruction_of PLAIN_LEA)
plain_single law l s i r v x86 decided p none_wider = record {
  single = refl;
  stands = stands_there law l s i r PLAIN_LEA v x86 decided p;
  longest = λ a o none k. elim (shorter l s r a o x86 p.chosen.number none k) [
    | inl short ↦ short
    | inr same ↦ absurd (none_wider a (subst (λ (x : Instruction). IsInstruction l s r a x) same k))
  ];
  free = λ first rest a o q c. free law l s i r first rest PLAIN_LEA v a o x86 decided p refl q c;
}
