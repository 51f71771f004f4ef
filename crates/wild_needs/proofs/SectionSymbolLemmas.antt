-- How many symbols of sections a relocatable object has.
use Rattle.std.proofs.Common.{◌≡◌, ℕ, ◌+◌, ◌-◌, List, [], ◌∷◌, ◌++◌, length, option_to_list, refl, arith}
use Rattle.std.specs.List.{flat_map}
use Rattle.std.proofs.lemmas.List.{length-append}
use Rattle.std.proofs.lemmas.Grind.{flat_map-append}
use Rattle.wild_types.specs.declared.input.InputSection.{InputSection}
use Rattle.wild_types.specs.declared.file.File.{File}
use Rattle.wild_types.specs.declared.file.Group.{Group}
use Rattle.wild_types.specs.declared.layout.Layout.{Layout}
use Rattle.wild_types.specs.Lists.{total}
use Rattle.wild_types.specs.Lookups.{files_of}
use Rattle.wild_needs.specs.TableSymbols.{marked_sections, singleton_sections}
use Rattle.wild_needs.specs.SectionSymbols.{singletons_in, singletons_of, singletons_of_group, singleton_count}

abbrev alone_names : List InputSection → List ℕ
alone_names ss = flat_map (λ (s : InputSection). option_to_list s.singleton) ss

abbrev alone_names_of : List File → List ℕ
alone_names_of fs = flat_map (λ (f : File). alone_names f.sections) fs

sections_counted : (ss : List InputSection) → length (alone_names ss) ≡ singletons_in ss
sections_counted [] = refl
sections_counted (s ∷ ss) =
    let rest = sections_counted ss in
    let long = length-append (option_to_list s.singleton) (alone_names ss) in
    omega (arith, rest, long)

files_counted : (fs : List File) → length (alone_names_of fs) ≡ total singletons_of fs
files_counted [] = refl
files_counted (f ∷ fs) =
    let own = sections_counted f.sections in
    let rest = files_counted fs in
    let long = length-append (alone_names f.sections) (alone_names_of fs) in
    omega (arith, own, rest, long)

groups_counted : (gs : List Group) → length (alone_names_of (files_of gs)) ≡ total singletons_of_group gs
groups_counted [] = refl
groups_counted (g ∷ gs) =
    let cut : alone_names_of (g.files ++ files_of gs) ≡ alone_names_of g.files ++ alone_names_of (files_of gs) = flat_map-append (λ (f : File). alone_names f.sections) g.files (files_of gs) in
    let own = files_counted g.files in
    let rest = groups_counted gs in
    let long = length-append (alone_names_of g.files) (alone_names_of (files_of gs)) in
    rw cut (omega (arith, own, rest, long))

-- how many there are, told by two counts
pub section_symbols_counted : (l : Layout) → length (marked_sections 0 l.sections ++ singleton_sections l) ≡ length (marked_sections 0 l.sections) + singleton_count l
section_symbols_counted l =
    let long : length (marked_sections 0 l.sections ++ singleton_sections l) ≡ length (marked_sections 0 l.sections) + length (singleton_sections l) = length-append (marked_sections 0 l.sections) (singleton_sections l) in
    let alone : length (singleton_sections l) ≡ singleton_count l = groups_counted l.groups in
    omega (arith, long, alone)
