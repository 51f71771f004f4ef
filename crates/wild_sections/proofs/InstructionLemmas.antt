-- What was decided lies in its section, and a rewritten instruction has the bytes of its pattern.
use Rattle.std.proofs.Common.{◌≡◌, ℕ, ◌+◌, ◌≤◌, length, slice_range, sym, subst}
use Rattle.std.specs.Prelude.{Some, Ok, All, slice_get}
use Rattle.wild_words.proofs.Basics.{length-range}
use Rattle.wild_words.proofs.ListLemmas.{holds_at}
use Rattle.wild_types.specs.declared.input.InputRelocation.{InputRelocation}
use Rattle.wild_types.specs.Item.{Item}
use Rattle.wild_types.specs.declared.layout.Layout.{Layout}
use Rattle.wild_reloc.specs.declared.info.RelocationSize.TheVariants.{ByteSize}
use Rattle.wild_reloc.specs.declared.info.Width.TheVariants.{Eight}
use Rattle.wild_relax.specs.declared.row.Row.{Row}
use Rattle.wild_relax.specs.LinkedPattern.{pattern_size}
use Rattle.wild_relax.proofs.TemplateLemmas.{length-template}
use Rattle.wild_layout.specs.declared.decision.Decision.{Decision}
use Rattle.wild_layout.specs.declared.decision.Decision.TheVariants.{Nothing, Field, RelativeAddress, DynamicField, Rewritten, Partner}
use Rattle.wild_layout.specs.Decide.{decide}
use Rattle.wild_layout.specs.SectionPlaces.{FieldLies}
use Rattle.wild_layout.specs.Sites.{template_start, template_site}
use Rattle.wild_layout.proofs.DecideLemmas.{decided_moved, decided_left, moved_has, left_has, field_ends}
use Rattle.wild_layout.proofs.DecisionLemmas.{decide_moved, decide_left, decide_rewritten}
use Rattle.wild_layout.proofs.SiteLemmas.{decide_field_has, window_in}
use Rattle.wild_sections.specs.WrittenDecisions.{TemplateLies, DecisionLies}

pub length-instruction : (s : Item) (r : InputRelocation) (row : Row) (v : ℕ) → TemplateLies (length s.bytes) r row → length (template_site s r row v).bytes ≡ pattern_size row
length-instruction s r row v lies =
    length-template row v (slice_range s.bytes (template_start row r) (template_start row r + pattern_size row)) lies.fits (length-range s.bytes (template_start row r) (pattern_size row) lies.ends)

-- what was decided of a relocation lies where the clauses say
pub decision_lies : (l : Layout) (s : Item) (i n : ℕ) (r : InputRelocation) (d : Decision) → slice_get s.relocations i ≡ Some r → n ≡ length s.bytes → All (FieldLies l.machine n) s.relocations → decide l s i ≡ Ok d → DecisionLies n r d
decision_lies l s i n r Nothing listed whole lies is = tt
decision_lies l s i n r (Field z v) listed whole lies is = field_ends l r z n (decide_field_has l s i r z v listed is) (holds_at (FieldLies l.machine n) s.relocations i r listed lies)
decision_lies l s i n r (RelativeAddress v packed) listed whole lies is = field_ends l r (ByteSize Eight) n (moved_has l s r v packed (decided_moved l s r v packed (decide_moved l s i r v packed listed is).made)) (holds_at (FieldLies l.machine n) s.relocations i r listed lies)
decision_lies l s i n r (DynamicField z k j a) listed whole lies is = field_ends l r z n (left_has l s r z k j a (decided_left l s r z k j a (decide_left l s i r z k j a listed is).made)) (holds_at (FieldLies l.machine n) s.relocations i r listed lies)
decision_lies l s i n r (Rewritten row v) listed whole lies is =
    let w = window_in l s i r row v (decide_rewritten l s i r row v listed is) in
    record { changes = w.changes; fits = w.lies.fits; ends = subst (λ (m : ℕ). template_start row r + pattern_size row ≤ m) (sym whole) w.inside }
decision_lies l s i n r Partner listed whole lies is = tt
