use Rattle.std.proofs.Common.{◌∙◌, ap, sym}
use Rattle.wild_layout.specs.Merged.{names_merged}
use Rattle.wild_layout.proofs.QuestionLemmas.{nameless_choice, merged_choice, common_choice, asked_choice, alone_choice, around_choice}
use Rattle.wild_types.specs.Item.{item_now}
use Rattle.wild_sections.proofs.DecisionLemmas.{read_at, no_symbol}
use Rattle.wild_sections.proofs.choice.choice.Goals as goal

pub returns-in_default : goal.returns-in_default
returns-in_default g c =
    let s = item_now c.args.item.now in
    let listed = read_at s.relocations c.args.index _ c.requires.index c.index-relocations-index.is in
    sym (nameless_choice c.args.resolved.now.layout.now s c.args.index _ listed (no_symbol _ c.in_default.not-Some))

pub returns-then-relocation-eq-R_X86_64_PC32 : goal.returns-then-relocation-eq-R_X86_64_PC32
returns-then-relocation-eq-R_X86_64_PC32 g c =
    let s = item_now c.args.item.now in
    let listed = read_at s.relocations c.args.index _ c.requires.index c.index-relocations-index.is in
    sym (common_choice c.args.resolved.now.layout.now s c.args.index _ listed c.if-relocation-eq-R_X86_64_PC32.true)

pub returns-then-names_merged : goal.returns-then-names_merged
returns-then-names_merged g c =
    let s = item_now c.args.item.now in
    let listed = read_at s.relocations c.args.index _ c.requires.index c.index-relocations-index.is in
    c.choice_merged.ensures ∙ sym (merged_choice c.args.resolved.now.layout.now s c.args.index _ _ listed c.in-Some.is c.if-relocation-eq-R_X86_64_PC32.false (sym c.if-names_merged.ensures))

pub returns-in-AArch64 : goal.returns-in-AArch64
returns-in-AArch64 g c =
    let s = item_now c.args.item.now in
    let listed = read_at s.relocations c.args.index _ c.requires.index c.index-relocations-index.is in
    c.choice_around.ensures ∙ sym (around_choice c.args.resolved.now.layout.now s c.args.index _ _ c.in-AArch64.is listed c.in-Some.is (ap (names_merged c.args.resolved.now.layout.now) c.in-Some.is ∙ sym c.if-names_merged.ensures))

pub returns-in-X86_64 : goal.returns-in-X86_64
returns-in-X86_64 g c =
    let s = item_now c.args.item.now in
    let listed = read_at s.relocations c.args.index _ c.requires.index c.index-relocations-index.is in
    c.choice_with_next.ensures ∙ sym (asked_choice c.args.resolved.now.layout.now s c.args.index _ _ c.in-X86_64.is listed c.in-Some.is c.if-relocation-eq-R_X86_64_PC32.false (ap (names_merged c.args.resolved.now.layout.now) c.in-Some.is ∙ sym c.if-names_merged.ensures))

pub returns-in-X86_64-2 : goal.returns-in-X86_64-2
returns-in-X86_64-2 g c =
    let s = item_now c.args.item.now in
    let listed = read_at s.relocations c.args.index _ c.requires.index c.index-relocations-index.is in
    (rw c.nameless.ensures at c.row_that_applies.ensures) ∙ sym (alone_choice c.args.resolved.now.layout.now s c.args.index _ _ c.in-X86_64-2.is listed c.in-Some.is c.if-relocation-eq-R_X86_64_PC32.false (sym c.if-may_take_next.ensures) (ap (names_merged c.args.resolved.now.layout.now) c.in-Some.is ∙ sym c.if-names_merged.ensures))
