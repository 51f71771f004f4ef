use Rattle.wild_image.proofs.Common.{◌∙◌, sym, ap, flat_map, overlay_prefix, merged_bytes, front_piece, merged_piece}
use Rattle.wild_image.proofs.AppendLemmas.{both_begin, both_go_on, both_end}
use Rattle.wild_image.proofs.PrefixLemmas.{overlay_prefix-append}
use Rattle.wild_image.proofs.append.append_merged_and_identity.Goals as goal

pub append_strings-rest-requires-clause-own : goal.append_strings-rest-requires-clause-own
append_strings-rest-requires-clause-own c = both_begin (flat_map merged_bytes c.args.layout.now.merged) (c.args.layout.now.identity.bytes) c.args.bytes.now c.requires.own

pub append_identity-requires-clause-own : goal.append_identity-requires-clause-own
append_identity-requires-clause-own c = both_go_on (flat_map merged_bytes c.args.layout.now.merged) (c.args.layout.now.identity.bytes) c.args.bytes.now c.append_strings-rest.result.now c.requires.own c.append_strings-rest.ensures.rest

pub returns : goal.returns
returns c = record {
  image = c.append_identity.ensures.image ∙ ap (overlay_prefix (front_piece c.args.layout.now c.args.layout.now.identity.part c.args.layout.now.identity.bytes)) c.append_strings-rest.ensures.image ∙ sym (overlay_prefix-append (flat_map (merged_piece c.args.layout.now) c.args.layout.now.merged) (front_piece c.args.layout.now c.args.layout.now.identity.part c.args.layout.now.identity.bytes) c.args.out.now);
  rest = both_end (flat_map merged_bytes c.args.layout.now.merged) (c.args.layout.now.identity.bytes) c.args.bytes.now c.append_strings-rest.result.now c.append_identity.result.now c.append_strings-rest.ensures.rest c.append_identity.ensures.rest;
}
