-- Laws of the entries of a group in the dynamic section.
use Rattle.std.proofs.Common.{◌≡◌, ℕ, ◌-◌, ◌*◌, true, false, max, List, [], ◌∷◌, ◌++◌, refl, sym, ap, ◌∙◌, arith}
use Rattle.std.specs.List.{list_any}
use Rattle.std.proofs.lemmas.List.{append-nil, append_assoc}
use Rattle.wild_records.specs.Dynamic.{dynamic_entry_size}
use Rattle.wild_types.specs.declared.file.File.{File}
use Rattle.wild_types.specs.declared.file.Group.{Group}
use Rattle.wild_types.specs.declared.layout.Layout.{Layout}
use Rattle.wild_needs.specs.Dynamic.{dynamic_count}
use Rattle.wild_needs.specs.DynamicStrings.{needed_entries, needed_count}
use Rattle.wild_types.specs.FileRoles.{is_epilogue}
use Rattle.wild_types.specs.Kinds.{needs_dynamic}
use Rattle.wild_types.specs.Lists.{total}
use Rattle.wild_table_formats.specs.DynamicSection.{entries_bytes, dynamic_bytes}
use Rattle.wild_layout.specs.Content.{dynamic_room, dynamic_of}

-- ---- the last file

-- more room than the entries have is what counts
pub dynamic_by : (l : Layout) (room size : ℕ) → size ≡ max (dynamic_entry_size * dynamic_count l) room → dynamic_bytes l size ≡ dynamic_bytes l room
dynamic_by l room size is =
    let e : size - dynamic_entry_size * dynamic_count l ≡ room - dynamic_entry_size * dynamic_count l = omega (arith, is) in
    rw e refl

-- ---- libraries

none_each : (l : Layout) (fs : List File) → needs_dynamic l.kind ≡ false → total (needed_count l) fs ≡ 0
none_each l [] h = refl
none_each l (f ∷ fs) h = let a : needed_count l f ≡ 0 = rw h refl in let b = none_each l fs h in omega (arith, a, b)

-- ---- a group

pub group_joined : (l : Layout) (g : Group) (old now next : List ℕ) → list_any (λ (f : File). is_epilogue f.role) g.files ≡ true → now ≡ old ++ entries_bytes (needed_entries l g) → next ≡ now ++ dynamic_bytes l (dynamic_room l) → next ≡ old ++ dynamic_of l g
group_joined l g old now next h a b = rw h (b ∙ ap (λ (bs : List ℕ). bs ++ dynamic_bytes l (dynamic_room l)) a ∙ append_assoc old (entries_bytes (needed_entries l g)) (dynamic_bytes l (dynamic_room l)))

pub group_without : (l : Layout) (g : Group) (old now : List ℕ) → list_any (λ (f : File). is_epilogue f.role) g.files ≡ false → now ≡ old ++ entries_bytes (needed_entries l g) → now ≡ old ++ dynamic_of l g
group_without l g old now h a = rw h (a ∙ ap (λ (bs : List ℕ). old ++ bs) (sym (append-nil (entries_bytes (needed_entries l g)))))
