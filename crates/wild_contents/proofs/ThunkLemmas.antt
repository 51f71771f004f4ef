-- Laws of thunks that a file writes.
use Rattle.std.proofs.Common.{◌≡◌, ℕ, Bool, true, false, if◌then◌else◌, List, [], ◌++◌, sym, ap, ◌∙◌}
use Rattle.std.specs.List.{flat_map}
use Rattle.std.proofs.lemmas.List.{append-nil}
use Rattle.wild_types.specs.FileThunks.{thunks_of}
use Rattle.wild_types.specs.Lookups.{is_header_only_part}
use Rattle.wild_types.specs.declared.file.File.{File}
use Rattle.wild_types.specs.declared.layout.Layout.{Layout}
use Rattle.wild_layout.specs.Faults.{at_file, thunk_error, thunk_errors}
use Rattle.wild_layout.specs.Image.{unless_omitted}
use Rattle.wild_layout.specs.Thunks.{file_thunks}

-- nothing is asked where nothing of their section is written
pub no_errors : (l : Layout) (group file : ℕ) (f : File) → is_header_only_part l l.primary_part ≡ true → thunk_errors l group file f ≡ []
unfolding thunk_errors
no_errors l group file f header_only = ap (λ (b : Bool). if b then [] else flat_map (thunk_error l (at_file group file)) (thunks_of l f)) header_only

-- nor written
pub none_written : (l : Layout) (f : File) (old : List ℕ) → is_header_only_part l l.primary_part ≡ true → old ≡ old ++ unless_omitted l l.primary_part (file_thunks l f)
none_written l f old header_only = sym (ap (λ (b : Bool). old ++ (if b then [] else file_thunks l f)) header_only ∙ append-nil old)

-- else each is
pub each_asked : (l : Layout) (group file : ℕ) (f : File) → is_header_only_part l l.primary_part ≡ false → thunk_errors l group file f ≡ flat_map (thunk_error l (at_file group file)) (thunks_of l f)
unfolding thunk_errors
each_asked l group file f written = ap (λ (b : Bool). if b then [] else flat_map (thunk_error l (at_file group file)) (thunks_of l f)) written

pub all_written : (l : Layout) (f : File) → is_header_only_part l l.primary_part ≡ false → unless_omitted l l.primary_part (file_thunks l f) ≡ file_thunks l f
all_written l f written = ap (λ (b : Bool). if b then [] else file_thunks l f) written
