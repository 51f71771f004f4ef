use Rattle.wild_words.proofs.OverlayLemmas.{HasBytesAt-overlay, overlay-outside, overlay-inside}
use Rattle.wild_words.proofs.pieces.overlays_keep_pieces.Goals as goal

pub returns-clause-owned : goal.returns-clause-owned
returns-clause-owned c = λ ps xs p h m. HasBytesAt-overlay p ps xs h m

pub returns-clause-kept : goal.returns-clause-kept
returns-clause-kept c = λ k ps xs h a. overlay-outside k ps xs h a

pub returns-clause-inside : goal.returns-clause-inside
returns-clause-inside c = λ at part xs ps h a. overlay-inside at part xs ps h a
