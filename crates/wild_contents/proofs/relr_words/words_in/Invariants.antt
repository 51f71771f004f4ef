use Rattle.std.proofs.Common.{◌≡◌, ◌*◌, ◌≤◌, length, take}
use Rattle.std.specs.List.{flat_map}
use Rattle.wild_records.specs.Relocations.{relr_size}
use Rattle.wild_relr.specs.RunWords.{after_places, nothing}
use Rattle.wild_contents.specs.FileTables.{packed_in}
use Rattle.wild_contents.proofs.relr_words.words_in.Given as goal

abbrev pub invariant-loop-relocation : goal.invariant-loop-relocation
invariant-loop-relocation l = record {
  state : l.words.state ≡ after_places nothing (flat_map (packed_in l.layout l.section) (take l.relocation-index l.relocations));
  few : length l.words.state.words ≤ l.relocation-index;
  room : l.words.room ≡ relr_size * length l.relocations;
}
