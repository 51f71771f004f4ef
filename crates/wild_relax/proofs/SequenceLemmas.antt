-- Thread-local sequences do what is demanded, over explicit bytes.
use Rattle.std.proofs.Common.{◌≡◌, ℕ, ◌+◌, List, [], refl}
use Rattle.std.specs.Prelude.{Some}
use Rattle.wild_words.specs.Words.{word, number, place}
use Rattle.wild_loader.specs.declared.instruction.Operand.TheVariants.{Word}
use Rattle.wild_loader.specs.Instruction.{Reader, sum_64}
use Rattle.wild_loader.specs.InstructionX86_64.{meaning_x86_64, effect_x86_64, demand_x86_64}
use Rattle.wild_relax.specs.declared.pattern.GeneralForm.{GeneralForm}
use Rattle.wild_relax.specs.declared.pattern.GeneralForm.TheVariants as general
use Rattle.wild_relax.specs.declared.pattern.LocalForm.{LocalForm}
use Rattle.wild_relax.specs.declared.pattern.LocalForm.TheVariants as local
use Rattle.wild_relax.specs.declared.row.Made.{Made}
use Rattle.wild_relax.specs.declared.row.Made.TheVariants as made
use Rattle.wild_relax.specs.declared.pattern.Pattern.TheVariants as pattern
use Rattle.wild_relax.specs.Pattern.{pattern_cells}
use Rattle.wild_relax.specs.KeepX86_64.{ReadsNumbers}
use Rattle.wild_relax.proofs.ShapeLemmas.{filled}
use Rattle.wild_relax.proofs.KeepLemmas.{placed, Back, Same}

abbrev pub exec_for : GeneralForm → Made
exec_for general.Large = made.LocalExecLarge
exec_for other = made.LocalExec

pub to_number : (form : GeneralForm) (read : Reader) (a value : ℕ) (old : List ℕ) → ReadsNumbers read → Back value → Same (pattern.General form) (exec_for form) read a value value (filled (pattern_cells (pattern.General form)) 0 old)
unfolding meaning_x86_64 word number place
to_number general.Regular read a value old numbers back = rw (back, numbers value) refl
to_number general.NoPlt read a value old numbers back = rw (back, numbers value) refl
to_number general.Large read a value old numbers back = rw (back, numbers value) refl

pub to_slot_regular : (read : Reader) (a v value : ℕ) (old : List ℕ) → Back value → read (Word (sum_64 (a + 16) value)) ≡ Some v → Same (pattern.General general.Regular) made.InitialExec read a v value (filled (pattern_cells (pattern.General general.Regular)) 0 old)
unfolding meaning_x86_64 word number place
to_slot_regular read a v value old back land = rw (back, land) refl

pub to_slot_no_plt : (read : Reader) (a v value : ℕ) (old : List ℕ) → Back value → read (Word (sum_64 (a + 16) value)) ≡ Some v → Same (pattern.General general.NoPlt) made.InitialExec read a v value (filled (pattern_cells (pattern.General general.NoPlt)) 0 old)
unfolding meaning_x86_64 word number place
to_slot_no_plt read a v value old back land = rw (back, land) refl

pub to_pointer : (form : LocalForm) (read : Reader) (a : ℕ) (old : List ℕ) → ReadsNumbers read → effect_x86_64 read a (placed (pattern.Local form) (made.ThreadPointer form) [] (filled (pattern_cells (pattern.Local form)) 0 old)) ≡ demand_x86_64 0 a (filled (pattern_cells (pattern.Local form)) 0 old)
unfolding meaning_x86_64 word number place
to_pointer local.Regular read a old numbers = rw (numbers 0) refl
to_pointer local.Large read a old numbers = rw (numbers 0) refl
to_pointer local.NoPlt read a old numbers = rw (numbers 0) refl
