-- What a reader finds who goes from record to record.
use Rattle.std.proofs.Common.{◌≡◌, ℕ, zero, suc, ◌+◌, ◌-◌, ◌*◌, ◌/◌, ◌%◌, ◌^◌, ◌<◌, ◌≤◌, ◌==◌, Bool, true, false, if◌then◌else◌, List, [], ◌∷◌, ◌++◌, length, refl, ap, ◌∙◌, arith, subst}
use Rattle.std.specs.Prelude.{All, Option, Some, None, bit_xor}
use Rattle.std.specs.List.{fold}
use Rattle.std.proofs.lemmas.Bool.{ne_eqb}
use Rattle.std.proofs.lemmas.Nat.{and_le_r}
use Rattle.wild_words.specs.Words.{HasBytesAt}
use Rattle.wild_words.specs.Record.{spell}
use Rattle.wild_words.proofs.RecordLemmas.{HasBytesAt-front, HasBytesAt-after}
use Rattle.wild_records.specs.Abi.Version.{ver_flg_base}
use Rattle.wild_records.specs.Hashes.{top_bits, sysv_fold, sysv_next, sysv_hash}
use Rattle.wild_records.specs.Verdefs.{verdef_fields, verdef_at, VerdefFits, VerdefIsRead, verdaux_fields, VerdauxIsRead}
use Rattle.wild_records.specs.Verneeds.{verneed_fields, verneed_at, VerneedFits, VerneedIsRead, vernaux_at, VernauxFits, VernauxIsRead}
use Rattle.wild_records.specs.declared.verdefs.Verdef.{Verdef}
use Rattle.wild_records.specs.declared.verdefs.Verdaux.{Verdaux}
use Rattle.wild_records.specs.declared.verneeds.Verneed.{Verneed}
use Rattle.wild_records.specs.declared.verneeds.Vernaux.{Vernaux}
use Rattle.wild_types.specs.declared.file.NeededVersion.{NeededVersion}
use Rattle.wild_types.specs.declared.layout.VersionDefinition.{VersionDefinition}
use Rattle.wild_table_formats.specs.VersionChain.{chain, next_of, name_at}
use Rattle.wild_table_formats.specs.VersionDefinitions.{names_of, version_name, verdef_of, verdauxes_with, verdauxes_of, verdaux_bytes, definition_bytes}
use Rattle.wild_needs.specs.Versions.{size_with, definition_size, need_size}
use Rattle.wild_table_formats.specs.VersionNeeds.{verneed_of, vernaux_of, needed_bytes, need_bytes}
use Rattle.wild_table_formats.specs.VersionReading.{FoundDefinition, FoundNeed, Library, names_from, defined, defined_at, definitions_from, needed, needed_from, library_at, needs_from}
use Rattle.wild_table_formats.specs.VersionLaws.{DefinitionsAreRead, NeedsAreRead, name_offsets, expected_definition, expected_definitions, Need, NeedFits, needs_bytes, expected_need, all_needed, library_of}
use Rattle.wild_table_formats.proofs.VersionChains.{chain-cons}
use Rattle.wild_table_formats.proofs.VersionLengths.{length-verdef, length-verdaux, length-verneed, length-vernaux, length-definition, length-need_bytes}

-- ---- numbers have their fields

folded_small : (h : ℕ) → sysv_fold h < 2 ^ 32
unfolding sysv_fold
folded_small h =
    let e = and_le_r (bit_xor h (top_bits h / 2 ^ 24)) (2 ^ 32 - 1 - top_bits h) in
    omega (arith, e)

fold_small : (name : List ℕ) (h : ℕ) → h < 2 ^ 32 → fold sysv_next h name < 2 ^ 32
fold_small [] h l = l
fold_small (b ∷ bs) h l = fold_small bs (sysv_next h b) (folded_small ((16 * h + b) % 2 ^ 32))

hash_small : (name : List ℕ) → sysv_hash name < 2 ^ 32
unfolding sysv_hash
hash_small name = fold_small name 0 (omega arith)

name_small : (names : List ℕ) (k : ℕ) → All (λ x. x < 2 ^ 32) names → name_at names k < 2 ^ 32
name_small [] k h = omega arith
name_small (x ∷ xs) zero h = h 0 0 (omega arith)
name_small (x ∷ xs) (suc k) h = name_small xs k (λ j d l. h (suc j) d (omega (arith, l)))

-- ---- definitions

size_is : (p : Option ℕ) → (size_with p < 2 ^ 32) × ((size_with p == 0) ≡ false)
size_is None = (omega arith, refl)
size_is (Some p) = (omega arith, refl)

next_small : (last : Bool) (size : ℕ) → size < 2 ^ 32 → next_of last size < 2 ^ 32
next_small true size h = omega arith
next_small false size h = h

count_small : (p : Option ℕ) → names_of p < 2 ^ 16
count_small None = omega arith
count_small (Some p) = omega arith

flags_small : (b : Bool) → (if b then ver_flg_base else 0) < 2 ^ 16
flags_small true = omega arith
flags_small false = omega arith

verdef_fits : (soname : Option (List ℕ)) (i : ℕ) (last : Bool) (d : VersionDefinition) → i + 1 < 2 ^ 16 → VerdefFits (verdef_of soname i last d)
verdef_fits soname i last d l = record {
  version = omega arith;
  flags = flags_small (i == 0);
  index = l;
  count = count_small d.parent;
  hash = hash_small (version_name soname i d.name);
  aux = omega arith;
  next = next_small last (definition_size d) (size_is d.parent).0;
}

-- the names of a version
names_found : VerdauxIsRead → (whole names : List ℕ) (i at : ℕ) (p : Option ℕ) → All (λ x. x < 2 ^ 32) names → HasBytesAt whole at (verdaux_bytes (verdauxes_with names i p)) → names_from whole (names_of p) at ≡ name_offsets names i p
unfolding names_from
names_found read whole names i at None h s =
    let r : Verdaux = record { name = name_at names i; next = 0 } in
    let e = read whole at r (record { name = name_small names i h; next = omega arith }) (HasBytesAt-front whole (spell (verdaux_fields r)) [] at s) in
    rw e refl
names_found read whole names i at (Some p) h s =
    let r : Verdaux = record { name = name_at names i; next = 8 } in
    let q : Verdaux = record { name = name_at names p; next = 0 } in
    let e = read whole at r (record { name = name_small names i h; next = omega arith }) (HasBytesAt-front whole (spell (verdaux_fields r)) (spell (verdaux_fields q) ++ []) at s) in
    let rest = HasBytesAt-after whole (spell (verdaux_fields r)) (spell (verdaux_fields q) ++ []) at 8 (length-verdaux r) s in
    let f = read whole (at + 8) q (record { name = name_small names p h; next = omega arith }) (HasBytesAt-front whole (spell (verdaux_fields q)) [] (at + 8) rest) in
    rw e (rw f refl)

-- the record of a version
record_found : VerdefIsRead → (whole names : List ℕ) (soname : Option (List ℕ)) (i at : ℕ) (last : Bool) (d : VersionDefinition) → i + 1 < 2 ^ 16 → HasBytesAt whole at (definition_bytes names soname i last d) → verdef_at whole at ≡ verdef_of soname i last d
record_found read whole names soname i at last d l s =
    read whole at (verdef_of soname i last d) (verdef_fits soname i last d l) (HasBytesAt-front whole (spell (verdef_fields (verdef_of soname i last d))) (verdaux_bytes (verdauxes_of names i d)) at s)

-- a version with its names
definition_found : VerdefIsRead → VerdauxIsRead → (whole names : List ℕ) (soname : Option (List ℕ)) (i at : ℕ) (last : Bool) (d : VersionDefinition) → All (λ x. x < 2 ^ 32) names → i + 1 < 2 ^ 16 → HasBytesAt whole at (definition_bytes names soname i last d) → defined_at whole at ≡ expected_definition names soname i d
definition_found read read_names whole names soname i at last d h l s =
    let v = verdef_of soname i last d in
    let e = record_found read whole names soname i at last d l s in
    let back = HasBytesAt-after whole (spell (verdef_fields v)) (verdaux_bytes (verdauxes_of names i d)) at 20 (length-verdef v) s in
    ap (λ (r : Verdef). defined r (names_from whole r.count (at + r.aux))) e
    ∙ ap (λ (ns : List ℕ). defined v ns) (names_found read_names whole names i (at + 20) d.parent h back)

definitions-suc : (whole : List ℕ) (n at : ℕ) (x : FoundDefinition) (v : ℕ) → defined_at whole at ≡ x → (verdef_at whole at).next ≡ v → definitions_from whole (suc n) at ≡ x ∷ (if v == 0 then [] else definitions_from whole n (at + v))
unfolding definitions_from
definitions-suc whole n at x v e f =
    ap (λ (y : FoundDefinition). y ∷ (if (verdef_at whole at).next == 0 then [] else definitions_from whole n (at + (verdef_at whole at).next))) e
    ∙ ap (λ (w : ℕ). x ∷ (if w == 0 then [] else definitions_from whole n (at + w))) f

go_on : {X : Type 0} (b : Bool) (xs ys : List X) → b ≡ false → (if b then xs else ys) ≡ ys
go_on b xs ys e = rw e refl

walked : VerdefIsRead → VerdauxIsRead → (whole names : List ℕ) (soname : Option (List ℕ)) (ds : List VersionDefinition) (i at n : ℕ) → All (λ x. x < 2 ^ 32) names → i + length ds < 2 ^ 16 → 1 ≤ length ds → length ds ≤ n
    → HasBytesAt whole at (chain (definition_bytes names soname) i ds) → definitions_from whole n at ≡ expected_definitions names soname i ds
walked read read_names whole names soname [] i at n h few some l s = absurd (omega (arith, some))
walked read read_names whole names soname (d ∷ ds) i at zero h few some l s = absurd (omega (arith, l))
walked read read_names whole names soname (d ∷ []) i at (suc n) h few some l s =
    let t = HasBytesAt-front whole (definition_bytes names soname i true d) (chain (definition_bytes names soname) (i + 1) []) at (subst (λ (bs : List ℕ). HasBytesAt whole at bs) (chain-cons (definition_bytes names soname) i d []) s) in
    definitions-suc whole n at (expected_definition names soname i d) 0
    (definition_found read read_names whole names soname i at true d h (omega (arith, few)) t)
    (ap (λ (r : Verdef). r.next) (record_found read whole names soname i at true d (omega (arith, few)) t))
walked read read_names whole names soname (d ∷ e ∷ es) i at (suc n) h few some l s =
    let c = subst (λ (bs : List ℕ). HasBytesAt whole at bs) (chain-cons (definition_bytes names soname) i d (e ∷ es)) s in
    let t = HasBytesAt-front whole (definition_bytes names soname i false d) (chain (definition_bytes names soname) (i + 1) (e ∷ es)) at c in
    let back = HasBytesAt-after whole (definition_bytes names soname i false d) (chain (definition_bytes names soname) (i + 1) (e ∷ es)) at (definition_size d) (length-definition names soname i false d) c in
    definitions-suc whole n at (expected_definition names soname i d) (definition_size d)
    (definition_found read read_names whole names soname i at false d h (omega (arith, few)) t)
    (ap (λ (r : Verdef). r.next) (record_found read whole names soname i at false d (omega (arith, few)) t))
    ∙ ap (λ (xs : List FoundDefinition). expected_definition names soname i d ∷ xs) (go_on (definition_size d == 0) [] (definitions_from whole n (at + definition_size d)) (size_is d.parent).1
    ∙ walked read read_names whole names soname (e ∷ es) (i + 1) (at + definition_size d) n h (omega (arith, few)) (omega arith) (omega (arith, l)) back)

pub definitions_read : VerdefIsRead → VerdauxIsRead → DefinitionsAreRead
definitions_read read read_names whole names soname ds at n h few some l s = walked read read_names whole names soname ds 0 at n h (omega (arith, few)) some l s

-- ---- needs

vernaux_fits : (names : List ℕ) (i : ℕ) (last : Bool) (v : NeededVersion) → All (λ x. x < 2 ^ 32) names → v.index < 2 ^ 16 → VernauxFits (vernaux_of names i last v)
vernaux_fits names i last v h l = record {
  hash = hash_small v.name;
  flags = omega arith;
  index = l;
  name = name_small names i h;
  next = next_small last 16 (omega arith);
}

needed-suc : (whole : List ℕ) (n at : ℕ) (v : Vernaux) → vernaux_at whole at ≡ v → needed_from whole (suc n) at ≡ needed v ∷ (if v.next == 0 then [] else needed_from whole n (at + v.next))
unfolding needed_from
needed-suc whole n at v e = ap (λ (r : Vernaux). needed r ∷ (if r.next == 0 then [] else needed_from whole n (at + r.next))) e

needed-zero : (whole : List ℕ) (at : ℕ) → needed_from whole 0 at ≡ []
unfolding needed_from
needed-zero whole at = refl

versions_found : VernauxIsRead → (whole names : List ℕ) (vs : List NeededVersion) (i at : ℕ) → All (λ x. x < 2 ^ 32) names → All (λ (v : NeededVersion). v.index < 2 ^ 16) vs
    → HasBytesAt whole at (chain (needed_bytes names) i vs) → needed_from whole (length vs) at ≡ all_needed names i vs
versions_found read whole names [] i at h small s = needed-zero whole at
versions_found read whole names (v ∷ []) i at h small s =
    let t = HasBytesAt-front whole (needed_bytes names i true v) (chain (needed_bytes names) (i + 1) []) at (subst (λ (bs : List ℕ). HasBytesAt whole at bs) (chain-cons (needed_bytes names) i v []) s) in
    needed-suc whole 0 at (vernaux_of names i true v) (read whole at (vernaux_of names i true v) (vernaux_fits names i true v h (small 0 v (omega arith))) t)
versions_found read whole names (v ∷ w ∷ ws) i at h small s =
    let c = subst (λ (bs : List ℕ). HasBytesAt whole at bs) (chain-cons (needed_bytes names) i v (w ∷ ws)) s in
    let t = HasBytesAt-front whole (needed_bytes names i false v) (chain (needed_bytes names) (i + 1) (w ∷ ws)) at c in
    let back = HasBytesAt-after whole (needed_bytes names i false v) (chain (needed_bytes names) (i + 1) (w ∷ ws)) at 16 (length-vernaux (vernaux_of names i false v)) c in
    needed-suc whole (suc (length ws)) at (vernaux_of names i false v) (read whole at (vernaux_of names i false v) (vernaux_fits names i false v h (small 0 v (omega arith))) t)
    ∙ ap (λ (xs : List FoundNeed). expected_need names i v ∷ xs) (versions_found read whole names (w ∷ ws) (i + 1) (at + 16) h (λ k d l. small (suc k) d (omega (arith, l))) back)

verneed_fits : (n : Need) → NeedFits n → VerneedFits (verneed_of n.file n.needs)
verneed_fits n f =
    let few = f.few in
    record {
      version = omega arith;
      count = few;
      file = f.file;
      aux = omega arith;
      next = next_small n.needs.last (need_size n.needs) (omega (arith, few));
    }

verneed_found : VerneedIsRead → (whole : List ℕ) (n : Need) (at : ℕ) → NeedFits n → HasBytesAt whole at (need_bytes n.file n.names n.needs) → verneed_at whole at ≡ verneed_of n.file n.needs
verneed_found read whole n at f s =
    read whole at (verneed_of n.file n.needs) (verneed_fits n f) (HasBytesAt-front whole (spell (verneed_fields (verneed_of n.file n.needs))) (chain (needed_bytes n.names) 0 n.needs.versions) at s)

library_found : VerneedIsRead → VernauxIsRead → (whole : List ℕ) (n : Need) (at : ℕ) → NeedFits n → HasBytesAt whole at (need_bytes n.file n.names n.needs) → library_at whole at ≡ library_of n
library_found read read_versions whole n at f s =
    let v = verneed_of n.file n.needs in
    let back = HasBytesAt-after whole (spell (verneed_fields v)) (chain (needed_bytes n.names) 0 n.needs.versions) at 16 (length-verneed v) s in
    ap (λ (r : Verneed). record { file = r.file; versions = needed_from whole r.count (at + r.aux) }) (verneed_found read whole n at f s)
    ∙ ap (λ (vs : List FoundNeed). record { file = n.file; versions = vs }) (versions_found read_versions whole n.names n.needs.versions 0 (at + 16) f.names f.indexes back)

needs-suc : (whole : List ℕ) (n at : ℕ) (x : Library) (v : ℕ) → library_at whole at ≡ x → (verneed_at whole at).next ≡ v → needs_from whole (suc n) at ≡ x ∷ (if v == 0 then [] else needs_from whole n (at + v))
unfolding needs_from
needs-suc whole n at x v e f =
    ap (λ (y : Library). y ∷ (if (verneed_at whole at).next == 0 then [] else needs_from whole n (at + (verneed_at whole at).next))) e
    ∙ ap (λ (w : ℕ). x ∷ (if w == 0 then [] else needs_from whole n (at + w))) f

pub needs_read : VerneedIsRead → VernauxIsRead → NeedsAreRead
needs_read read read_versions whole [] at n h ends some l s = absurd (omega (arith, some))
needs_read read read_versions whole (x ∷ xs) at zero h ends some l s = absurd (omega (arith, l))
needs_read read read_versions whole (x ∷ []) at (suc n) h ends some l s =
    let f = h 0 x (omega arith) in
    let t = HasBytesAt-front whole (need_bytes x.file x.names x.needs) [] at s in
    needs-suc whole n at (library_of x) 0 (library_found read read_versions whole x at f t)
    (ap (λ (r : Verneed). r.next) (verneed_found read whole x at f t) ∙ ap (λ (b : Bool). next_of b (need_size x.needs)) ends)
needs_read read read_versions whole (x ∷ y ∷ ys) at (suc n) h ends some l s =
    let f = h 0 x (omega arith) in
    let t = HasBytesAt-front whole (need_bytes x.file x.names x.needs) (needs_bytes (y ∷ ys)) at s in
    let back = HasBytesAt-after whole (need_bytes x.file x.names x.needs) (needs_bytes (y ∷ ys)) at (need_size x.needs) (length-need_bytes x.file x.names x.needs) s in
    needs-suc whole n at (library_of x) (need_size x.needs) (library_found read read_versions whole x at f t)
    (ap (λ (r : Verneed). r.next) (verneed_found read whole x at f t) ∙ ap (λ (b : Bool). next_of b (need_size x.needs)) ends.0)
    ∙ ap (λ (zs : List Library). library_of x ∷ zs) (go_on (need_size x.needs == 0) [] (needs_from whole n (at + need_size x.needs)) (ne_eqb (need_size x.needs) 0 (λ e. omega (arith, e)))
    ∙ needs_read read read_versions whole (y ∷ ys) (at + need_size x.needs) n (λ k d m. h (suc k) d (omega (arith, m))) ends.1 (omega arith) (omega (arith, l)) back)
