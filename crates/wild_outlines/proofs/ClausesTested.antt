-- The tests by which a change may be made.
use Rattle.wild_outlines.proofs.Common.{◌≡◌, Some, true, refl, sym, subst, ◌∙◌, InputSection, File, Role, Layout, placed_section, Change, found_section, changed_section, changed_file, changed_layout, outline_file, written_section}
use Rattle.wild_types.specs.declared.part.Role.TheVariants as role
use Rattle.wild_plan_rules.specs.Partial.{file_tables_fit}
use Rattle.wild_clauses.specs.FileTests.{relocation_passes, section_passes}
use Rattle.wild_outlines.specs.MayChange.{MayChange, file_at}
use Rattle.wild_outlines.specs.ClauseLaws.{PassesTests}
use Rattle.wild_outlines.proofs.ChangedItems.{FoundSection, FoundSection-from_found, outline_file-changed, outline-changed}
use Rattle.wild_outlines.proofs.ClausesChanged.{file_found}
use Rattle.wild_outlines.proofs.SharesSections.{counted_for, SameOutlines, placed_count, written_count}
use Rattle.wild_outlines.proofs.ListLemmas.{some_same}

-- a change alters no test on one section
section_passes-changed : (l : Layout) (c : Change) (s : InputSection) → section_passes (changed_layout l c) s ≡ section_passes l s
unfolding section_passes relocation_passes
section_passes-changed l c s = refl

-- as many dynamic relocations where the sections are written as where they are placed
same_counts : (r : Role) (l : Layout) (c : Change) (s : InputSection) (f : File) → FoundSection l c s → SameOutlines l (changed_layout l c) f (changed_file c f)
    → counted_for r (changed_layout l c) (placed_section (changed_layout l c) (changed_file c f) 0 (changed_section c s)) ≡ counted_for r l (placed_section l f 0 s)
    → counted_for r l (written_section l (changed_section c s)) ≡ counted_for r l (written_section l s)
same_counts r l c s f p o h =
    let t = changed_section c s in
    sym (written_count r l f 0 t p.changeable) ∙ (sym (placed_count r l (changed_layout l c) f (changed_file c f) o 0 t) ∙ (h ∙ written_count r l f 0 s p.changeable))

pub may_change : (l : Layout) (c : Change) (s : InputSection) (f : File) → found_section l c ≡ Some s → file_at l c ≡ Some f → PassesTests l c s f → MayChange l c s
may_change l c s f found at k =
    let p = FoundSection-from_found l c s found in
    let file : p.file ≡ f = some_same (sym (file_found l c s p) ∙ at) in
    let o : SameOutlines l (changed_layout l c) f (changed_file c f) = record {
      layout = outline-changed l c s found k.same_length;
      file = subst (λ (x : File). outline_file (changed_file c x) ≡ outline_file x) file (outline_file-changed l c s p k.same_length);
    } in
    record {
      found = found;
      same_length = k.same_length;
      passes = sym (section_passes-changed l c (changed_section c s)) ∙ k.passes;
      few = k.few;
      tables = λ partial x there. subst (λ (y : File). file_tables_fit (changed_file c y) ≡ true) (some_same (sym at ∙ there)) (k.tables partial);
      counts = record {
        rela = same_counts role.RelaDynRelative l c s f p o k.rela;
        relr = same_counts role.RelrDyn l c s f p o k.relr;
        dynamic = same_counts role.RelaDynGeneral l c s f p o k.dynamic;
      };
    }
