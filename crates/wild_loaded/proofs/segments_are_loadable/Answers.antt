use Rattle.wild_loaded.proofs.Loads.{are_loadable, image_machine}
use Rattle.wild_loaded.proofs.segments_are_loadable.Goals as goal

pub returns : goal.returns
returns c = record { loadable = λ l w kind legal laid. are_loadable l w kind legal laid; machine = λ l w. image_machine l w }
