use Rattle.wild_worlds.proofs.Absolute.{not_absolute}
use Rattle.wild_worlds.proofs.Worlds.{zero_legal, moved_legal, worlds_there, offsets_count}
use Rattle.wild_worlds.proofs.Resolvers.{none_needed}
use Rattle.wild_worlds.proofs.Premises.{kinds_loaded, sections_kept, sorted_kept, frames_kept, relocations_refer, references_asked, slots_asked, few_alone, blanks_asked, addresses_move}
use Rattle.wild_worlds.proofs.AnsweredValues.{resolvers_answer, worlds_answer}
use Rattle.wild_worlds.proofs.OneSlot.{slots_one, sizes_whole}
use Rattle.wild_worlds.proofs.Worked.{branches_asked, addresses_asked}
use Rattle.wild_worlds.proofs.premises_are_met.Goals as goal

pub returns : goal.returns
returns c = record {
  zero = zero_legal c.layouts_are_laid_out.ensures;
  elsewhere = moved_legal;
  unresolved = none_needed;
  worlds = worlds_there c.layouts_are_laid_out.ensures;
  kinds = kinds_loaded;
  kept = sections_kept;
  sorted = sorted_kept;
  frames = frames_kept;
  references = relocations_refer;
  asked = references_asked (not_absolute c.layouts_are_laid_out.ensures);
  slots = slots_asked;
  linked = few_alone;
  blanks = blanks_asked;
  addresses = addresses_move;
  resolvers = resolvers_answer;
  answers = worlds_answer;
  offsets = offsets_count c.thread_places_are_known.ensures;
  one = slots_one;
  whole = sizes_whole;
  branches = branches_asked;
  loads = addresses_asked;
}
