use Rattle.wild_image.proofs.Common.{◌∙◌, sym, ap, flat_map, overlay_prefix, of_last_file, of_first_file, all_sorted, merged_and_identity_bytes}
use Rattle.wild_layout.specs.Image.{merged_and_identity_pieces}
use Rattle.wild_image.specs.Owners.{all_sorted_pieces}
use Rattle.wild_image.proofs.AppendLemmas.{both_begin, both_go_on, both_end}
use Rattle.wild_image.proofs.PrefixLemmas.{overlay_prefix-append}
use Rattle.wild_image.proofs.append.append_trailer.Goals as goal

pub append_last-rest-requires-clause-own : goal.append_last-rest-requires-clause-own
append_last-rest-requires-clause-own c = both_begin (of_last_file c.args.file.now (all_sorted c.args.layout.now)) (of_first_file c.args.file.now (merged_and_identity_bytes c.args.layout.now)) c.args.bytes.now c.requires.own

pub append_first-requires-clause-own : goal.append_first-requires-clause-own
append_first-requires-clause-own c = both_go_on (of_last_file c.args.file.now (all_sorted c.args.layout.now)) (of_first_file c.args.file.now (merged_and_identity_bytes c.args.layout.now)) c.args.bytes.now c.append_last-rest.result.now c.requires.own c.append_last-rest.ensures.rest

pub returns : goal.returns
returns c = record {
  image = c.append_first.ensures.image ∙ ap (overlay_prefix (of_first_file c.args.file.now (merged_and_identity_pieces c.args.layout.now))) c.append_last-rest.ensures.image ∙ sym (overlay_prefix-append (of_last_file c.args.file.now (all_sorted_pieces c.args.layout.now)) (of_first_file c.args.file.now (merged_and_identity_pieces c.args.layout.now)) c.args.out.now);
  rest = both_end (of_last_file c.args.file.now (all_sorted c.args.layout.now)) (of_first_file c.args.file.now (merged_and_identity_bytes c.args.layout.now)) c.args.bytes.now c.append_last-rest.result.now c.append_first.result.now c.append_last-rest.ensures.rest c.append_first.ensures.rest;
}
