-- The first line of what `link` says.
use Rattle.std.proofs.Common.{◌≡◌, ℕ, List, [], ◌∷◌, ◌++◌, length, refl, sym, ap, ◌∙◌}
use Rattle.std.proofs.lemmas.List.{append-nil, append_assoc}
use Rattle.std.specs.List.{flat_map}
use Rattle.wild_types.specs.declared.fault.Error.{Error}
use Rattle.wild_types.specs.declared.fault.Fault.{Fault}
use Rattle.wild_types.specs.declared.fault.Fault.TheVariants as faults
use Rattle.wild_types.specs.Faults.{IsFirst, RefusesWith}
use Rattle.wild_types.specs.declared.layout.Layout.{Layout}
use Rattle.wild_layout.specs.Image.{bytes, counts}
use Rattle.wild_layout.specs.Warnings.{warnings}
use Rattle.wild_layout.specs.Faults.{errors}
use Rattle.wild_text.specs.Answer.{image_line, refusal_text, warning_line, count_lines, hex_text, no_plan_text}
use Rattle.wild_text.specs.Means.{no_json, no_plan, plan}
use Rattle.wild_program.specs.Exit as exit
use Rattle.wild_program.specs.Program.{errors_status, errors_text}
use Rattle.wild_explain.specs.Explain.{Begins, errors_line, link_line, LinkLineIsFirst, IsRefusedAs}

-- a text begins with itself
whole : (line : List ℕ) → Begins line line
whole line = ([], sym (append-nil line))

regroup : (a b c d : List ℕ) → ((a ++ b) ++ c) ++ d ≡ a ++ ((b ++ c) ++ d)
regroup a b c d = ap (λ (x : List ℕ). x ++ d) (append_assoc a b c) ∙ append_assoc a (b ++ c) d

of_errors : (l : Layout) (es : List Error) → Begins (errors_line l es) (errors_text l es)
of_errors l [] =
    let w = flat_map (warning_line l) (warnings l) in
    (w ++ count_lines 0 (counts l) ++ hex_text (bytes l), regroup (image_line (length (bytes l))) w (count_lines 0 (counts l)) (hex_text (bytes l)))
of_errors l (e ∷ es) = whole (refusal_text e)

first_of : (f : Fault) (e : Error) (es : List Error) → RefusesWith f e es → (f ≡ faults.OutOfMemory → ⊥) → IsFirst e es
first_of faults.OutOfMemory e es h known = absurd (known refl)
first_of f e es h known = h

first_line : (l : Layout) (e : Error) (es : List Error) (code : ℕ) (said : List ℕ) → IsFirst e es → code ≡ exit.refused → Begins (refusal_text e) said → (code ≡ errors_status es) × Begins (errors_line l es) said
first_line l e [] code said first c b = absurd first
first_line l e (f ∷ fs) code said first c b = (c, (b.0, b.1 ∙ ap (λ (x : Error). refusal_text x ++ b.0) first))

-- a text that begins with the line of the fault that a layout is refused with begins with the line of its first fault
pub refused_as : (l : Layout) (e : Error) (es : List Error) (code : ℕ) (said : List ℕ) → RefusesWith e.fault e es → IsRefusedAs e code said → (code ≡ errors_status es) × Begins (errors_line l es) said
refused_as l e es code said h is = first_line l e es code said (first_of e.fault e es h is.known) is.status_is is.begins

-- of a layout without faults it begins with the line of its image
pub linked_as : (l : Layout) (es : List Error) (image said : List ℕ) → es ≡ [] → image ≡ bytes l → Begins (image_line (length image)) said → (exit.linked ≡ errors_status es) × Begins (errors_line l es) said
linked_as l [] image said none same h = (refl, (h.0, h.1 ∙ ap (λ (x : List ℕ). image_line (length x) ++ h.0) same))
linked_as l (e ∷ es) image said none same h = absurd cc

pub begun : LinkLineIsFirst
begun no_json = whole (link_line no_json)
begun (no_plan path) = whole (no_plan_text path)
begun (plan l) = of_errors l (errors l)
