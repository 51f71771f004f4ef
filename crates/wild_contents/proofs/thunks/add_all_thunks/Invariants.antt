use Rattle.std.proofs.Common.{◌≡◌, [], ◌++◌, take}
use Rattle.std.specs.List.{flat_map}
use Rattle.wild_layout.specs.Faults.{at_file, thunk_error}
use Rattle.wild_layout.specs.Thunks.{thunk_bytes}
use Rattle.wild_contents.proofs.thunks.add_all_thunks.Given as goal

abbrev pub invariant-loop-thunk : goal.invariant-loop-thunk
invariant-loop-thunk g l =
    (flat_map (thunk_error l.resolved.layout.now (at_file l.place.group l.place.file)) (take l.thunk-index l.thunk-items) ≡ [])
    × (l.bytes ≡ l.initial.bytes ++ flat_map (thunk_bytes l.resolved.layout.now) (take l.thunk-index l.thunk-items))
