use Rattle.std.proofs.Common.{◌+◌, List, ℕ, arith, ap, take, ◌∙◌}
use Rattle.std.proofs.lemmas.List.{length-drop}
use Rattle.wild_needs.specs.DynamicStrings.{offset_after_string}
use Rattle.wild_table_formats.proofs.DynamicLemmas.{auxiliary_offset, auxiliary_written, auxiliary_done}
use Rattle.wild_tables.proofs.dynamic.write_auxiliary.Goals as goal

pub loop-text-preserved : goal.loop-text-preserved
loop-text-preserved c =
    let i = c.loop-text.text-index in
    let xs = c.args.texts.now in
    let now = length-drop i xs in
    let next = length-drop (i + 1) xs in
    let l = c.loop-text-test.true in
    let a = c.write_string-cursor.ensures in
    let o = a.offset ∙ ap (λ (x : List ℕ). offset_after_string c.loop-text.cursor.offset x) c.as_slice.ensures in
    record {
      at = omega (arith, now, next, l, a.at, c.loop-text.invariant.at);
      offset = auxiliary_offset xs i c.text-item.result c.loop-text.cursor.offset _ _ l c.text-item.is o c.loop-text.invariant.offset;
      written = auxiliary_written xs i c.text-item.result c.loop-text.cursor.offset _ (take c.loop-text.cursor.at c.loop-text.out) _ _ l c.text-item.is o a.written c.loop-text.invariant.written;
      room = a.room ∙ c.loop-text.invariant.room;
    }

pub returns-clause-written : goal.returns-clause-written
returns-clause-written c = auxiliary_done c.args.texts.now c.loop-text.text-index c.loop-text.cursor.offset _ _ (omega (arith, c.loop-text-test.false)) c.loop-text.invariant.written
