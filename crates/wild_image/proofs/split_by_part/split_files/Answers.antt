use Rattle.wild_image.proofs.Common.{sym, subst, file_bytes, group_files, FileLies}
use Rattle.wild_image.specs.Pieces.{file_owned}
use Rattle.wild_image.proofs.AppendLemmas.{next_begins, stands_more}
use Rattle.wild_image.proofs.OwnedLemmas.{owned_read}
use Rattle.wild_image.proofs.split_by_part.split_files.Goals as goal

pub split_file-requires-clause-lies : goal.split_file-requires-clause-lies
split_file-requires-clause-lies c =
    let h = rw c.as_slice-file-items.ensures at c.loop-file-test.true in
    let read = rw c.as_slice-file-items.ensures at c.file-item.is in
    subst (FileLies c.args.layout.now) (sym read) (c.requires.lies c.loop-file.file-index c.file-item.result h)

pub split_file-requires-clause-own : goal.split_file-requires-clause-own
unfolding group_files
split_file-requires-clause-own c =
    let h = rw c.as_slice-file-items.ensures at c.loop-file-test.true in
    let read = rw c.as_slice-file-items.ensures at c.file-item.is in
    next_begins (file_bytes c.args.layout.now) c.args.group.now.files c.loop-file.file-index c.file-item.result c.args.bytes.now c.loop-file.rest.now h read c.requires.own c.loop-file.invariant.1

pub loop-file-preserved : goal.loop-file-preserved
loop-file-preserved c =
    let h = rw c.as_slice-file-items.ensures at c.loop-file-test.true in
    let read = rw c.as_slice-file-items.ensures at c.file-item.is in (
      owned_read (file_owned c.args.layout.now) c.args.group.now.files c.loop-file.file-index c.file-item.result c.args.parts.now c.loop-file.parts c.split_file.new.parts h read c.split_file.auto.parts c.loop-file.invariant.0 c.in_ok-rest.ensures.owned,
      stands_more (file_bytes c.args.layout.now) c.args.group.now.files c.loop-file.file-index c.file-item.result c.args.bytes.now c.loop-file.rest.now _ h read c.loop-file.invariant.1 c.in_ok-rest.ensures.rest,
    )
