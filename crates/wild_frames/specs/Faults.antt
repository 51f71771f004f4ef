-- The faults of a section of frames.
--   frame_errors s   the fault of the relocations, else that of the first entry that has one
--   Answers r es     r is a value if es is empty; else it is the first of es, or out of memory
use Rattle.std.specs.Prelude.{◌≡◌, List, [], ◌∷◌, Option, Some, None, Result, Ok, Err}
use Rattle.std.specs.List.{flat_map}
use Rattle.wild_frames.specs.declared.entry.Found.{Found}
use Rattle.wild_frames.specs.declared.entry.Found.TheVariants as finds
use Rattle.wild_frames.specs.declared.entry.BadFrame.{BadFrame}
use Rattle.wild_frames.specs.declared.entry.FrameError.{FrameError}
use Rattle.wild_frames.specs.declared.entry.FrameError.TheVariants as error
use Rattle.wild_frames.specs.Frames.{Frames, start, rest_of, list_error}

abbrev pub found_errors : Found → List BadFrame
found_errors (finds.Bad w at) = (record { why = w; offset = at }) ∷ []
found_errors _ = []

abbrev pub unless_list_error : Option BadFrame → List BadFrame → List BadFrame
unless_list_error (Some e) es = e ∷ []
unless_list_error None es = es

abbrev pub frame_errors : Frames → List BadFrame
frame_errors s = unless_list_error (list_error s.relocations) (flat_map found_errors (rest_of s start))

-- out of memory
abbrev pub out_of_memory : FrameError
out_of_memory = error.OutOfMemory

-- e is the first of the faults
abbrev pub IsFirst : BadFrame → List BadFrame → Type 0
IsFirst e [] = ⊥
IsFirst e (f ∷ fs) = e ≡ f

abbrev pub Refuses : FrameError → List BadFrame → Type 0
Refuses (error.Bad e) es = IsFirst e es
Refuses error.OutOfMemory es = Unit {0}

-- a call returns the first of the faults, if there is one
abbrev pub Answers : {A : Type 0} → Result A FrameError → List BadFrame → Type 0
Answers (Ok x) es = es ≡ []
Answers (Err e) es = Refuses e es
