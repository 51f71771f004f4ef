-- The offsets of names have 32 bits, as the records of versions tell them.
use Rattle.wild_names.proofs.Common.{ℕ, ◌%◌, ◌^◌, ◌<◌, List, [], ◌∷◌, All, Option, Some, None, arith, All-nil, All-cons, File, Layout, offset_after_string, string_start, version_names, offset_after_entry_names, definition_offsets}
use Rattle.wild_table_formats.specs.VersionNames.{offsets_from, offset_after_search_path, with_soname_offset}

pub offsets_small : (at : ℕ) (ts : List (List ℕ)) → All (λ x. x < 2 ^ 32) (offsets_from at ts)
unfolding offsets_from
offsets_small at [] = All-nil (λ x. x < 2 ^ 32)
offsets_small at (t ∷ ts) = All-cons (λ x. x < 2 ^ 32) (at % 2 ^ 32) (offsets_from (offset_after_string at t) ts) (omega arith) (offsets_small (offset_after_string at t) ts)

own_small : (at : ℕ) (soname : Option (List ℕ)) (offsets : List ℕ) → All (λ x. x < 2 ^ 32) offsets → All (λ x. x < 2 ^ 32) (with_soname_offset at soname offsets)
own_small at None offsets h = h
own_small at (Some soname) offsets h = All-cons (λ x. x < 2 ^ 32) (at % 2 ^ 32) offsets (omega arith) h

pub names_small : (l : Layout) (f : File) → All (λ x. x < 2 ^ 32) (definition_offsets l f)
unfolding definition_offsets
names_small l f =
    let offsets = offsets_from (offset_after_entry_names l (string_start l) f) (version_names l f) in
    own_small (offset_after_search_path (string_start l) l.options.rpath) l.options.soname offsets (offsets_small (offset_after_entry_names l (string_start l) f) (version_names l f))
