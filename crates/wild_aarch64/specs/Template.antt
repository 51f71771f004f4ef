-- Templates: instruction sequences, without their immediates.
--   Template            the kinds of sequence that a linker reads or writes
--   codes_of t r        its instructions, for register r if it may be any
--   templates           the kinds, the longest first
--   step_of a ws        the effect of the longest template at the front of the words at an address, and its number of words
use Rattle.std.specs.Prelude.{ℕ, ◌==◌, Bool, true, false, ◌&&◌, nat_le, if◌then◌else◌, List, [], ◌∷◌, length, map, take, Option, Some, None, option_map}
use Rattle.wild_aarch64.specs.declared.code.Code.{Code}
use Rattle.wild_aarch64.specs.declared.code.Code.TheVariants.{Adr, Adrp, Movz, Movk, Movn, Add, Ldr, Access, Literal, B, Bl, BranchIf, Br, Blr, Hint}
use Rattle.wild_aarch64.specs.declared.code.Shift.{Shift}
use Rattle.wild_aarch64.specs.declared.code.Shift.TheVariants.{By0, By16, By32, By48}
use Rattle.wild_aarch64.specs.declared.operand.Action.{Action}
use Rattle.wild_aarch64.specs.declared.template.Template.{Template}
use Rattle.wild_aarch64.specs.declared.template.Template.TheVariants as kinds
use Rattle.wild_aarch64.specs.declared.template.Step.{Step}
use Rattle.wild_aarch64.specs.Forms.{d}
use Rattle.wild_aarch64.specs.Code.{read}
use Rattle.wild_aarch64.specs.Machine.{meaning}
use Rattle.wild_aarch64.specs.Effect.{without_immediate}

-- ---- the table

-- `adrp x16; ldr x17, [x16]; br x17; nop`, the same after `bti c`; `adrp x0; ldr xR, [x0]; add x0, x0; blr xR` ("TLS descriptors"), and
-- its rewrites to an offset and to the GOT entry of one; `adrp x16; add x16, x16; br x16`; `adrp xR; ldr xR, [xR]`,
-- `adrp xR; add xR, xR`, and their rewrites
abbrev pub codes_of : Template → ℕ → List Code
codes_of kinds.Stub r = Adrp 16 0 ∷ Ldr 17 16 0 ∷ Br 17 ∷ Hint ∷ []
codes_of kinds.MarkedStub r = Hint ∷ Adrp 16 0 ∷ Ldr 17 16 0 ∷ Br 17 ∷ []
codes_of kinds.DescriptorCall r = Adrp 0 0 ∷ Ldr r 0 0 ∷ Add 0 0 0 ∷ Blr r ∷ []
codes_of kinds.OffsetForCall r = Hint ∷ Hint ∷ Movz 0 By16 0 ∷ Movk 0 By0 0 ∷ []
codes_of kinds.SlotForCall r = Hint ∷ Hint ∷ Adrp 0 0 ∷ Ldr 0 0 0 ∷ []
codes_of kinds.Thunk r = Adrp 16 0 ∷ Add 16 16 0 ∷ Br 16 ∷ []
codes_of kinds.SlotPair r = Adrp r 0 ∷ Ldr r r 0 ∷ []
codes_of kinds.OffsetPair r = Movz r By16 0 ∷ Movk r By0 0 ∷ []
codes_of kinds.AddressPair r = Adrp r 0 ∷ Add r r 0 ∷ []
codes_of kinds.NearAddress r = Hint ∷ Adr r 0 ∷ []

-- the longest first; if none matches, the first word is a step of its own
abbrev pub templates : List Template
templates =
    kinds.Stub ∷ kinds.MarkedStub ∷ kinds.DescriptorCall ∷ kinds.OffsetForCall ∷ kinds.SlotForCall ∷ kinds.Thunk ∷ kinds.SlotPair ∷ kinds.OffsetPair ∷ kinds.AddressPair
    ∷ kinds.NearAddress ∷ []

abbrev pub size_of : Template → ℕ
size_of t = length (codes_of t 0)

-- each number is at most the one before
abbrev pub descends : ℕ → List ℕ → Bool
descends n [] = true
descends n (m ∷ ms) = nat_le m n && descends m ms

-- ---- matching

abbrev pub same_shift : Shift → Shift → Bool
same_shift By0 By0 = true
same_shift By16 By16 = true
same_shift By32 By32 = true
same_shift By48 By48 = true
same_shift s t = false

-- two instructions are the same
abbrev pub same : Code → Code → Bool
same (Adr r j) (Adr q k) = r == q && j == k
same (Adrp r j) (Adrp q k) = r == q && j == k
same (Movz r s i) (Movz q t k) = r == q && (same_shift s t && i == k)
same (Movk r s i) (Movk q t k) = r == q && (same_shift s t && i == k)
same (Movn r s i) (Movn q t k) = r == q && (same_shift s t && i == k)
same (Add r p j) (Add q o k) = r == q && (p == o && j == k)
same (Ldr r p j) (Ldr q o k) = r == q && (p == o && j == k)
same (Access key j) (Access other k) = key == other && j == k
same (Literal key j) (Literal other k) = key == other && j == k
same (B j) (B k) = j == k
same (Bl j) (Bl k) = j == k
same (BranchIf key j) (BranchIf other k) = key == other && j == k
same (Br r) (Br q) = r == q
same (Blr r) (Blr q) = r == q
same Hint Hint = true
same c e = false

abbrev pub fits : Code → Option Code → Bool
fits t None = false
fits t (Some c) = same t (without_immediate c)

-- the instructions begin with those of a template; immediates are not compared
abbrev pub begins : List Code → List (Option Code) → Bool
begins [] cs = true
begins (t ∷ ts) [] = false
begins (t ∷ ts) (c ∷ cs) = fits t c && begins ts cs

-- if a template may have any register, its second word sets it
abbrev pub register_in : List ℕ → ℕ
register_in [] = 0
register_in (w ∷ []) = 0
register_in (w ∷ u ∷ ws) = d u

-- ---- steps

abbrev pub sized_step : ℕ → Action → Step
sized_step n act = record { words = n; action = act }

-- the effect of the template's words, if the words begin with the template
abbrev pub template_step : Template → ℕ → List ℕ → Option Step
template_step t a ws = if begins (codes_of t (register_in ws)) (map read ws) then option_map (sized_step (size_of t)) (meaning a (take (size_of t) ws)) else None

-- the effect of the first word
abbrev pub single_step : ℕ → List ℕ → Option Step
single_step a [] = None
single_step a (w ∷ ws) = option_map (sized_step 1) (meaning a (w ∷ []))

abbrev pub step_or : Option Step → Option Step → Option Step
step_or (Some s) other = Some s
step_or None other = other

abbrev pub first_step : List Template → ℕ → List ℕ → Option Step
first_step [] a ws = single_step a ws
first_step (t ∷ ts) a ws = step_or (template_step t a ws) (first_step ts a ws)

-- the effect of the longest template at the front of the words at an address that has one
abbrev pub step_of : ℕ → List ℕ → Option Step
step_of a ws = first_step templates a ws
