use Rattle.wild_outlines.proofs.Common.{sym, ap, option_to_list}
use Rattle.wild_needs.specs.EntryPoint.{EntryPoint}
use Rattle.wild_outlines.proofs.ClausesTests.{image_size-outline}
use Rattle.wild_outlines.proofs.ClausesSlots.{slots_of-outline}
use Rattle.wild_outlines.proofs.SharesSections.{treatment-outline}
use Rattle.wild_outlines.proofs.SharesLemmas.{sorted_sections-outline}
use Rattle.wild_outlines.proofs.ValuesFiles.{raw_value-outline}
use Rattle.wild_outlines.proofs.ValuesSymbols.{merged_strings-outline, address_for-outline}
use Rattle.wild_outlines.proofs.Decisions.{decide-outline}
use Rattle.wild_outlines.proofs.DebugDecisions.{debug_decided_at-outline}
use Rattle.wild_outlines.proofs.FramesPlaced.{frames_of-same_file, placed_files-outline}
use Rattle.wild_outlines.proofs.FramesTable.{layout_fdes-outline}
use Rattle.wild_outlines.proofs.ContentNeeds.{entry_point-outline}
use Rattle.wild_outlines.proofs.values_by_outline.Goals as goal

pub returns-clause-values : goal.returns-clause-values
returns-clause-values c = λ l. record {
  values = λ i. sym (raw_value-outline l i);
  strings = λ i. sym (merged_strings-outline l i);
  addresses = λ r. sym (address_for-outline l r);
  slots = λ s. sym (slots_of-outline l s);
  treatments = λ flags r. sym (treatment-outline l flags r);
  decisions = λ s i. sym (decide-outline l s i);
  debug = λ s r. sym (debug_decided_at-outline l s r);
  thunks = λ t. simp (raw_value-outline l);
  frames = λ f s. sym (frames_of-same_file l f s);
  placed = λ g. sym (placed_files-outline l g);
  sorted = sym (sorted_sections-outline l);
  fdes = sym (layout_fdes-outline l);
}

pub returns-clause-size : goal.returns-clause-size
returns-clause-size c = λ l. sym (image_size-outline l)

pub returns-clause-warnings : goal.returns-clause-warnings
returns-clause-warnings c = λ l. sym (ap (λ (e : EntryPoint). option_to_list e.warning) (entry_point-outline l))
