use Rattle.std.proofs.Common.{◌≡◌, ◌∙◌, List, sym, ap, length, take, arith}
use Rattle.std.specs.List.{flat_map}
use Rattle.std.proofs.lemmas.List.{take_all}
use Rattle.wild_types.specs.declared.input.InputRelocation.{InputRelocation}
use Rattle.wild_relr.specs.Encoding.{State}
use Rattle.wild_relr.specs.RunWords.{after_places, nothing}
use Rattle.wild_contents.specs.FileTables.{packed_in}
use Rattle.wild_contents.proofs.FileTableLemmas.{afters_none, run_more, run_words}
use Rattle.wild_contents.proofs.relr_words.words_in.Goals as goal

pub loop-relocation-init : goal.loop-relocation-init
loop-relocation-init c =
    let none = c.in_ok-words.ensures.0 in
    let few = ap (λ (s : State). length s.words) none in
    let room = c.in_ok-words.ensures.1 in
    record { state = none ∙ sym (afters_none nothing); few = omega (arith, few); room = omega (arith, room) }

pub loop-relocation-preserved : goal.loop-relocation-preserved
loop-relocation-preserved c =
    let before = c.loop-relocation.invariant.few in
    let more = c.pack.ensures.few in
    record {
      state = run_more (packed_in c.args.layout.now c.args.section.now) c.as_slice-relocations.result.now c.loop-relocation.relocation-index _ nothing c.loop-relocation.words.state c.pack.new.words.state c.loop-relocation-test.true c.loop-relocation.invariant.state (c.pack.ensures.state ∙ ap (λ (r : InputRelocation). after_places c.loop-relocation.words.state (packed_in c.args.layout.now c.args.section.now r)) c.relocation-item.is);
      few = omega (arith, before, more);
      room = c.pack.ensures.room ∙ c.loop-relocation.invariant.room;
    }

pub returns : goal.returns
returns c =
    let end = c.loop-relocation.auto.relocation-index-end in
    let out = c.loop-relocation-test.false in
    let items = c.as_slice-relocations.result.now in
    let run = packed_in c.args.layout.now c.args.section.now in
    let whole : take c.loop-relocation.relocation-index items ≡ c.args.section.now.relocations = take_all c.loop-relocation.relocation-index items (omega (arith, end, out)) ∙ c.as_slice-relocations.ensures in
    ap (λ (s : State). s.words) (c.loop-relocation.invariant.state ∙ ap (λ (rs : List InputRelocation). after_places nothing (flat_map run rs)) whole)
    ∙ run_words (flat_map run c.args.section.now.relocations)
