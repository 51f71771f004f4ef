use Rattle.wild_image.proofs.Common.{◌≡◌, ◌+◌, List, length, arith, rules, sym, ap, ◌∙◌, subst, All, slice_get, Some, ℕ, slice_get_read, Piece, overlay_prefix, Group, table_pieces, owned_pieces, group_pieces, HasStarts, FileLies, group_tables, group_files}
use Rattle.wild_image.proofs.PrefixLemmas.{overlay_prefix-append}
use Rattle.wild_image.proofs.AppendLemmas.{begins_all, next_begins, stands_more}
use Rattle.wild_image.proofs.BatchLemmas.{overlay_prefix_behind}
use Rattle.wild_image.proofs.StandingLemmas.{pieces_of_group}
use Rattle.wild_image.proofs.append.append_batch.Goals as goal

pub append_tables-tables-requires-clause-group : goal.append_tables-tables-requires-clause-group
append_tables-tables-requires-clause-group c =
    let gs = c.args.batch.now.groups.now in
    let i = c.loop-i.i in
    let at : slice_get gs i ≡ Some c.group-item.result = slice_get_read gs (length gs) i c.group-item.result (search rules) c.loop-i-test.true c.group-item.is in
    c.requires.within i c.group-item.result at

pub append_tables-tables-requires-clause-own : goal.append_tables-tables-requires-clause-own
append_tables-tables-requires-clause-own c =
    next_begins (group_tables c.args.layout.now) c.args.batch.now.groups.now c.loop-i.i c.group-item.result c.args.bytes.now.tables c.loop-i.tables.now c.loop-i-test.true c.group-item.is (begins_all _ _ c.requires.bytes.tables) c.loop-i.invariant.tables

pub append_files-files-requires-clause-lies : goal.append_files-files-requires-clause-lies
append_files-files-requires-clause-lies c = subst (λ (g : Group). All (FileLies c.args.layout.now) g.files) (sym c.group-item.is) (c.requires.inputs c.loop-i.i c.group-item.result c.loop-i-test.true)

pub append_files-files-requires-clause-own : goal.append_files-files-requires-clause-own
append_files-files-requires-clause-own c =
    next_begins (group_files c.args.layout.now) c.args.batch.now.groups.now c.loop-i.i c.group-item.result c.args.bytes.now.files c.loop-i.files.now c.loop-i-test.true c.group-item.is (begins_all _ _ c.requires.bytes.files) c.loop-i.invariant.files

pub loop-i-preserved : goal.loop-i-preserved
loop-i-preserved c =
    let l = c.args.layout.now in
    let gs = c.args.batch.now.groups.now in
    let i = c.loop-i.i in
    let n = c.args.batch.now.first in
    let g = c.group-item.result in
    let tables = table_pieces l (n + i) g in
    let next : n + i + 1 ≡ n + (i + 1) = omega arith in
    let image : c.append_files-files.new.out ≡ overlay_prefix (group_pieces l (n + i) g) c.loop-i.out =
    c.append_files-files.ensures.image
    ∙ ap (λ (ps : List Piece). overlay_prefix ps c.append_tables-tables.new.out) (sym (pieces_of_group l g))
    ∙ ap (overlay_prefix (owned_pieces l g)) c.append_tables-tables.ensures.image
    ∙ sym (overlay_prefix-append tables (owned_pieces l g) c.loop-i.out) in
    record {
      image = overlay_prefix_behind (group_pieces l) n i gs g c.args.out.now c.loop-i.out c.append_files-files.new.out c.loop-i-test.true c.group-item.is c.loop-i.invariant.image image;
      tables = stands_more (group_tables l) gs i g c.args.bytes.now.tables c.loop-i.tables.now c.append_tables-tables.result.now c.loop-i-test.true c.group-item.is c.loop-i.invariant.tables c.append_tables-tables.ensures.rest;
      files = stands_more (group_files l) gs i g c.args.bytes.now.files c.loop-i.files.now c.append_files-files.result.now c.loop-i-test.true c.group-item.is c.loop-i.invariant.files c.append_files-files.ensures.rest;
      starts = subst (λ (k : ℕ). HasStarts l k c.append_tables-tables.new.starts) next c.append_tables-tables.ensures.starts;
    }
