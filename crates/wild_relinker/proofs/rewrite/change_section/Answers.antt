use Rattle.std.proofs.Common.{◌≡◌, ℕ, [], length, sym, ap, ◌∙◌, subst, rules}
use Rattle.wild_types.specs.declared.layout.Layout.{Layout}
use Rattle.wild_types.specs.Faults.{Refuses}
use Rattle.wild_change.specs.Change.{changed_layout}
use Rattle.wild_layout.specs.Faults.{errors}
use Rattle.wild_layout.specs.Warnings.{warnings}
use Rattle.wild_outlines.proofs.ChangedItems.{outline-changed}
use Rattle.wild_image.specs.Prepared.{IsPrepared}
use Rattle.wild_relinker.specs.Changed.{AwaitsGroup}
use Rattle.wild_relinker.proofs.FindLemmas.{CanChange-named, section_at-found, is_there_kept, is_there_again}
use Rattle.wild_relinker.proofs.ImageLemmas.{AwaitsGroup-found, IsImage-restored, warnings_stay}
use Rattle.wild_relinker.proofs.PreparedLemmas.{prepared_stays}
use Rattle.wild_relinker.proofs.SwapLemmas.{swapped_back}
use Rattle.wild_relinker.proofs.rewrite.change_section.Goals as goal

pub named_section-requires : goal.named_section-requires
named_section-requires g c = is_there_kept c.args.image.now.layout c.args.change.now c.requires.found

pub swap_contents-requires : goal.swap_contents-requires
swap_contents-requires g c = is_there_kept c.args.image.now.layout c.args.change.now c.requires.found

pub named_section-found-requires : goal.named_section-found-requires
named_section-found-requires g c =
    let l = c.args.image.now.layout in
    let d = c.args.change.now in
    let s = c.named_section.result.section.now in
    let can = CanChange-named l d c.named_section.result c.requires.found c.named_section.ensures in
    is_there_again l d s c.swap_contents.new.layout c.swap_contents.new.change can c.swap_contents.ensures.layout (c.swap_contents.ensures.change s (section_at-found l d s can.place))

pub write_changed-requires-clause-machine : goal.write_changed-requires-clause-machine
write_changed-requires-clause-machine g c = subst (λ (m : Layout). m.machine ≡ _) (sym c.swap_contents.ensures.layout) c.requires.machine

pub write_changed-requires-clause-prepared : goal.write_changed-requires-clause-prepared
write_changed-requires-clause-prepared g c =
    let l = c.args.image.now.layout in
    let d = c.args.change.now in
    let s = c.named_section.result.section.now in
    let can = CanChange-named l d c.named_section.result c.requires.found c.named_section.ensures in
    let stays = prepared_stays l (changed_layout l d) c.args.image.now.prepared (outline-changed l d s can.found can.same_length) c.requires.image.prepared in
    subst (λ (m : Layout). IsPrepared m c.args.image.now.prepared) (sym c.swap_contents.ensures.layout) stays

pub write_changed-requires-clause-awaits : goal.write_changed-requires-clause-awaits
write_changed-requires-clause-awaits g c =
    let l = c.args.image.now.layout in
    let d = c.args.change.now in
    let s = c.named_section.result.section.now in
    let x = c.named_section-found.result in
    let m = c.swap_contents.new.layout in
    let u = c.swap_contents.new.change in
    let w = c.args.image.now.written in
    let can = CanChange-named l d c.named_section.result c.requires.found c.named_section.ensures in
    let back = c.swap_contents.ensures.change s (section_at-found l d s can.place) in
    let n : c.len-before.result ≡ length s.relocations = search rules in
    let awaits =
    AwaitsGroup-found c.layouts_are_laid_out.ensures c.refusals_by_group.ensures c.changed_bytes.ensures c.changed_counts.ensures c.changed_total.ensures
    l d s m u x w can c.swap_contents.ensures.layout back c.named_section-found.ensures c.requires.image.faultless c.requires.image.written in
    subst (λ (k : ℕ). AwaitsGroup m u.group x.group.now x.file.now x.section.now k w) (sym n) awaits

pub returns-in-Ok-clause-faults : goal.returns-in-Ok-clause-faults
returns-in-Ok-clause-faults g c = subst (λ (m : Layout). errors m ≡ []) c.swap_contents.ensures.layout c.in-Ok.ensures.faults

pub returns-in-Ok-clause-image : goal.returns-in-Ok-clause-image
returns-in-Ok-clause-image g c =
    let l = c.args.image.now.layout in
    let d = c.args.change.now in
    let s = c.named_section.result.section.now in
    let can = CanChange-named l d c.named_section.result c.requires.found c.named_section.ensures in
    let stays = prepared_stays l (changed_layout l d) c.args.image.now.prepared (outline-changed l d s can.found can.same_length) c.requires.image.prepared in
    record {
      faultless = c.in-Ok.ensures.faults;
      written = c.in-Ok.ensures.written;
      prepared = subst (λ (m : Layout). IsPrepared m c.args.image.now.prepared) (sym c.swap_contents.ensures.layout) stays;
    }

pub swap_contents-requires-in-Err : goal.swap_contents-requires-in-Err
swap_contents-requires-in-Err g c =
    let l = c.args.image.now.layout in
    let d = c.args.change.now in
    let s = c.named_section.result.section.now in
    let can = CanChange-named l d c.named_section.result c.requires.found c.named_section.ensures in
    is_there_again l d s c.swap_contents.new.layout c.swap_contents.new.change can c.swap_contents.ensures.layout (c.swap_contents.ensures.change s (section_at-found l d s can.place))

pub returns-in-Err-clause-faults : goal.returns-in-Err-clause-faults
returns-in-Err-clause-faults g c = subst (λ (m : Layout). Refuses c.in-Err.error (errors m)) c.swap_contents.ensures.layout c.in-Err.ensures.faults

pub returns-in-Err-clause-kept : goal.returns-in-Err-clause-kept
returns-in-Err-clause-kept g c =
    let l = c.args.image.now.layout in
    let d = c.args.change.now in
    let s = c.named_section.result.section.now in
    let can = CanChange-named l d c.named_section.result c.requires.found c.named_section.ensures in
    let at = section_at-found l d s can.place in
    c.swap_contents-in-Err.ensures.layout ∙ swapped_back l d s c.swap_contents.new.layout c.swap_contents.new.change at c.swap_contents.ensures.layout (c.swap_contents.ensures.change s at)

pub returns-in-Err-clause-image : goal.returns-in-Err-clause-image
returns-in-Err-clause-image g c =
    let l = c.args.image.now.layout in
    let d = c.args.change.now in
    let s = c.named_section.result.section.now in
    let can = CanChange-named l d c.named_section.result c.requires.found c.named_section.ensures in
    let at = section_at-found l d s can.place in
    let back = c.swap_contents-in-Err.ensures.layout ∙ swapped_back l d s c.swap_contents.new.layout c.swap_contents.new.change at c.swap_contents.ensures.layout (c.swap_contents.ensures.change s at) in
    IsImage-restored c.args.image.now c.swap_contents-in-Err.new.layout c.write_changed.new.written c.requires.image back c.in-Err.ensures.kept

pub returns-in-Ok-clause-warnings : goal.returns-in-Ok-clause-warnings
returns-in-Ok-clause-warnings g c =
    let l = c.args.image.now.layout in
    let d = c.args.change.now in
    let s = c.named_section.result.section.now in
    let can = CanChange-named l d c.named_section.result c.requires.found c.named_section.ensures in
    ap warnings c.swap_contents.ensures.layout ∙ warnings_stay c.values_by_outline.ensures.warnings l (changed_layout l d) (outline-changed l d s can.found can.same_length)

pub returns-in-Err-clause-warnings : goal.returns-in-Err-clause-warnings
returns-in-Err-clause-warnings g c =
    let l = c.args.image.now.layout in
    let d = c.args.change.now in
    let s = c.named_section.result.section.now in
    let can = CanChange-named l d c.named_section.result c.requires.found c.named_section.ensures in
    let at = section_at-found l d s can.place in
    ap warnings (c.swap_contents-in-Err.ensures.layout ∙ swapped_back l d s c.swap_contents.new.layout c.swap_contents.new.change at c.swap_contents.ensures.layout (c.swap_contents.ensures.change s at))
