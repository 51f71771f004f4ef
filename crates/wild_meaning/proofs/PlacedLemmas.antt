-- Input sections as they stand in the output.
use Rattle.wild_meaning.proofs.Common.{◌≡◌, ◌++◌, List, ◌∷◌, false, refl, sym, subst, arith, Contains, InputSection, File, Layout, item_of, IsInput, placed_item}
use Rattle.std.proofs.lemmas.List.Elements.{Contains-append_right}
use Rattle.wild_meaning.specs.Frames.{IsFrameInput}

-- one whose words are not reversed stands as it is
pub stood_plain : (l : Layout) (f : File) (s : InputSection) → s.reversed ≡ false → placed_item l f s ≡ item_of l f s
stood_plain l f s e = rw e refl

-- an item of joined lists with it between them
pub in_middle : {X : Type 0} (xs ys : List X) (x : X) → Contains (xs ++ (x ∷ ys)) x
in_middle xs ys x = Contains-append_right xs (x ∷ ys) x (0, omega arith, refl)

-- an input section of frames is one of the layout's
pub frame_input : (l : Layout) (s : InputSection) → IsFrameInput l s → IsInput l s
frame_input l s k = record {
  group = k.group;
  grouped = k.grouped;
  file = k.file;
  filed = subst (λ (fs : List File). Contains fs k.file) (sym k.filed) (in_middle k.files k.files_behind k.file);
  listed = subst (λ (ss : List InputSection). Contains ss s) (sym k.listed) (in_middle k.sections k.sections_behind s);
}
