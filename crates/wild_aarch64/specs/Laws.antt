-- Laws of AArch64 code.
--   FormsAreRead, FieldsAreWritten   a word of a form is decoded as that form; writing its field changes its immediate
--   HintsAreSkipped, HintsAreLost    `nop` and `bti c` before a run, and after it, do not change its effect
--   JumpsAreFollowed                 words that end in a jump jump whatever words come after
--   TemplatesDescend                 the longest template is the first
--   RowsKeep, BranchesKeep           the written words do what the words of the input demand
--   RowsAreSteps                     the written words are one step
use Rattle.std.specs.Prelude.{◌≡◌, ℕ, ◌+◌, ◌<◌, ◌≤◌, true, List, [], ◌∷◌, ◌++◌, length, map, Option, Some, option_map, Contains}
use Rattle.wild_aarch64.specs.declared.code.Code.{Code}
use Rattle.wild_aarch64.specs.declared.code.Code.TheVariants.{Hint}
use Rattle.wild_aarch64.specs.Slice.{Form, has_fixed_bits}
use Rattle.wild_aarch64.specs.Forms.{forms}
use Rattle.wild_aarch64.specs.Code.{read}
use Rattle.wild_aarch64.specs.Immediate.{word_with_immediate, immediate, bits_of_field}
use Rattle.wild_aarch64.specs.declared.operand.Operand.{Operand}
use Rattle.wild_aarch64.specs.declared.operand.Deed.TheVariants.{Jumps}
use Rattle.wild_aarch64.specs.Machine.{RegisterValues, does, run, meaning}
use Rattle.wild_aarch64.specs.Registers.{follow_words}
use Rattle.wild_aarch64.specs.Effect.{Reader, ReadsNumbers, effect, demand, shapes}
use Rattle.wild_aarch64.specs.Template.{templates, size_of, descends, step_of, sized_step}
use Rattle.wild_aarch64.specs.Row.{Row, rows, written, IsValueOf, branches, branch_bits, distance, IsReached}

-- ---- forms

-- the order of the table does not matter
abbrev pub FormsAreRead : Type 0
FormsAreRead = (f : Form) → Contains forms f → (w : ℕ) → has_fixed_bits f.fixed w ≡ true → read w ≡ Some (f.code w (immediate f.field w))

-- if a number is written to its field, a word is the same instruction with the same registers and the number's low bits
abbrev pub FieldIsWritten : Form → Type 0
FieldIsWritten f = (w x : ℕ) → has_fixed_bits f.fixed w ≡ true → read (word_with_immediate f.field x w) ≡ Some (f.code w (bits_of_field f.field x))

abbrev pub FieldsAreWritten : Type 0
FieldsAreWritten = (f : Form) → Contains forms f → FieldIsWritten f

-- ---- runs

abbrev pub HintsAreSkipped : Type 0
HintsAreSkipped = (cs : List (Option Code)) (a : ℕ) (ks : RegisterValues) → run (Some Hint ∷ cs) a ks ≡ run cs (a + 4) ks

abbrev pub HintsAreLost : Type 0
HintsAreLost = (cs : List (Option Code)) (a : ℕ) (ks : RegisterValues) → run (cs ++ (Some Hint ∷ [])) a ks ≡ run cs a ks

abbrev pub JumpsAreFollowed : Type 0
JumpsAreFollowed = (a : ℕ) (ws rest : List ℕ) (x : Operand) → meaning a ws ≡ Some (does Jumps x) → follow_words (ws ++ rest) a [] ≡ Some (does Jumps x)

abbrev pub TemplatesDescend : Type 0
TemplatesDescend = descends 4 (map size_of templates) ≡ true

-- ---- rewrites

-- the instructions, as decoded
abbrev pub some_codes : List Code → List (Option Code)
some_codes cs = map (λ c. Some c) cs

-- if the fields are computed as the row's target says, the words that it writes do what the words that it replaces demand
abbrev pub RowKeeps : Row → Type 0
RowKeeps row = (r : ℕ) (ws : List ℕ) (reader : Reader) → ReadsNumbers reader → (base a x v : ℕ) → row.first ≤ r → r < 31 → shapes ws ≡ some_codes (row.old r)
    → IsValueOf row.target reader base a x v → effect reader (base + a) (written row.new r a x) ≡ demand v (base + a) ws

abbrev pub RowsKeep : Type 0
RowsKeep = (row : Row) → Contains rows row → RowKeeps row

-- the words that a row writes are one step, whatever words come after
abbrev pub RowIsStep : Row → Type 0
RowIsStep row = (r b a x : ℕ) (rest : List ℕ) → row.first ≤ r → r < 31 → step_of b (written row.new r a x ++ rest) ≡ option_map (sized_step (length row.new)) (meaning b (written row.new r a x))

abbrev pub RowsAreSteps : Type 0
RowsAreSteps = (row : Row) → Contains rows row → RowIsStep row

-- a branch with the distance in its field goes where its word demands
abbrev pub BranchKeeps : Form → Type 0
BranchKeeps f = (w : ℕ) (reader : Reader) → ReadsNumbers reader → (base a x v : ℕ) → has_fixed_bits f.fixed w ≡ true → IsReached f.field base a x v
    → effect reader (base + a) (word_with_immediate f.field (branch_bits f.field (distance a x)) w ∷ []) ≡ demand v (base + a) (w ∷ [])

abbrev pub BranchesKeep : Type 0
BranchesKeep = (f : Form) → Contains branches f → BranchKeeps f
