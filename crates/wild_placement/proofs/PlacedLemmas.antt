-- A section of frames as it stands, from what was kept.
use Rattle.std.proofs.Common.{◌≡◌, ℕ, List, Option, ap, sym, ◌∙◌}
use Rattle.std.specs.Prelude.{option_to_list}
use Rattle.wild_types.specs.declared.input.InputRelocation.{InputRelocation}
use Rattle.wild_types.specs.declared.input.InputSection.{InputSection}
use Rattle.wild_types.specs.declared.file.File.{File}
use Rattle.wild_types.specs.declared.layout.Layout.{Layout}
use Rattle.wild_frames.specs.declared.entry.BadFrame.{BadFrame}
use Rattle.wild_frames.specs.Frames.{found_in, frame_bytes}
use Rattle.wild_frames.specs.Faults.{frame_errors}
use Rattle.wild_placement.specs.FrameInputs.{frames_of}
use Rattle.wild_placement.specs.PlacedSections.{kept_relocations, moved_relocations}
use Rattle.wild_placement.specs.PlacedInputs.{PlacedContent, AreKept, placed_frames_of, frames_content}
use Rattle.wild_placement.proofs.FrameLemmas.{laid-found, kept-found}

abbrev pub stood_as : InputSection → List InputRelocation → List BadFrame → PlacedContent
stood_as x o e = record { section = x; origins = o; faults = e }

abbrev pub stood_by : InputSection → ℕ → List ℕ → List InputRelocation → List InputRelocation → List BadFrame → PlacedContent
stood_by s at b o m e = stood_as (placed_frames_of s at b m) o e

pub frames_stood : (l : Layout) (f : File) (at : ℕ) (s : InputSection) (b : List ℕ) (o m : List InputRelocation) (e : List BadFrame) → AreKept (frames_of l f s) (found_in (frames_of l f s)) b o m → e ≡ frame_errors (frames_of l f s)
    → stood_by s at b o m e ≡ frames_content l f at s
frames_stood l f at s b o m e k h =
    let fs = frames_of l f s in
    let o_is = k.from ∙ sym (kept-found fs) in
    let m_is = k.to ∙ sym (laid-found fs) in
    ap (λ (x : List ℕ). stood_by s at x o m e) k.written ∙ ap (λ (x : List InputRelocation). stood_by s at (frame_bytes fs) x m e) o_is
    ∙ ap (λ (x : List InputRelocation). stood_by s at (frame_bytes fs) (kept_relocations fs) x e) m_is ∙ ap (λ (x : List BadFrame). stood_by s at (frame_bytes fs) (kept_relocations fs) (moved_relocations fs) x) h
