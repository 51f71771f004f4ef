use Rattle.wild_loaded.proofs.Fills.{slot_fills, pair_fills}
use Rattle.wild_loaded.proofs.LeftFields.{left_fills}
use Rattle.wild_loaded.proofs.CopiedSymbols.{copy_fills}
use Rattle.wild_loaded.proofs.entries_have_changes.Goals as goal

pub returns : goal.returns
returns c = record {
  slots = λ l w i k s d e numbers legal laid slots there here is. slot_fills l w i k s d e c.entries_are_known.ensures numbers legal laid slots there here is;
  pair = λ l w d e legal there is. pair_fills l w d e c.entries_are_known.ensures legal there is;
  left = λ l w s r z number symbol addend numbers legal laid made. left_fills l w s r z number symbol addend numbers legal laid made;
  copies = λ l w i raw answer numbers legal laid h. copy_fills l w i raw answer legal laid h;
}
