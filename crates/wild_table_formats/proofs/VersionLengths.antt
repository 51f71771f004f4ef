-- Lengths, and what stands where.
use Rattle.std.proofs.Common.{◌≡◌, ℕ, zero, suc, ◌+◌, ◌*◌, Bool, List, [], ◌∷◌, ◌++◌, length, refl, ap, ◌∙◌, arith}
use Rattle.std.specs.Prelude.{Option, Some, None}
use Rattle.std.proofs.lemmas.List.{length-append}
use Rattle.wild_words.specs.Record.{spell}
use Rattle.wild_words.proofs.RecordLemmas.{length-spell, HasBytesAt-front, HasBytesAt-after}
use Rattle.wild_records.specs.Verdefs.{verdef_fields, verdaux_fields}
use Rattle.wild_records.specs.Verneeds.{verneed_fields, vernaux_fields}
use Rattle.wild_records.specs.Versyms.{versym_size, versym_fields, VersymIsRead}
use Rattle.wild_records.specs.declared.verdefs.Verdef.{Verdef}
use Rattle.wild_records.specs.declared.verdefs.Verdaux.{Verdaux}
use Rattle.wild_records.specs.declared.verneeds.Verneed.{Verneed}
use Rattle.wild_records.specs.declared.verneeds.Vernaux.{Vernaux}
use Rattle.wild_records.specs.declared.versyms.Versym.{Versym}
use Rattle.wild_types.specs.declared.file.NeededVersion.{NeededVersion}
use Rattle.wild_types.specs.declared.layout.VersionDefinition.{VersionDefinition}
use Rattle.wild_table_formats.specs.VersionChain.{chain, is_end, name_at}
use Rattle.wild_table_formats.specs.SymbolVersions.{spelled, version_bytes}
use Rattle.wild_table_formats.specs.VersionDefinitions.{verdef_of, verdauxes_with, verdauxes_of, verdaux_bytes, definition_bytes}
use Rattle.wild_needs.specs.Versions.{size_with, definition_size, definitions_size}
use Rattle.wild_table_formats.specs.VersionNeeds.{verneed_of, vernaux_of, needed_bytes}
use Rattle.wild_table_formats.specs.VersionLaws.{LengthsOfVersions, LengthsOfDefinitions, LengthsOfNeeds, VersionsAreRead}
use Rattle.wild_table_formats.proofs.VersionChains.{chain-cons, chain-nil}

-- ---- records

pub length-versym : (v : ℕ) → length (spelled v) ≡ 2
unfolding versym_fields
length-versym v = length-spell (versym_fields (record { version = v }))

pub length-verdef : (r : Verdef) → length (spell (verdef_fields r)) ≡ 20
unfolding verdef_fields
length-verdef r = length-spell (verdef_fields r)

pub length-verdaux : (r : Verdaux) → length (spell (verdaux_fields r)) ≡ 8
unfolding verdaux_fields
length-verdaux r = length-spell (verdaux_fields r)

pub length-verneed : (r : Verneed) → length (spell (verneed_fields r)) ≡ 16
unfolding verneed_fields
length-verneed r = length-spell (verneed_fields r)

pub length-vernaux : (r : Vernaux) → length (spell (vernaux_fields r)) ≡ 16
unfolding vernaux_fields
length-vernaux r = length-spell (vernaux_fields r)

-- ---- versions of symbols

pub length-version_bytes : LengthsOfVersions
length-version_bytes [] = refl
length-version_bytes (v ∷ vs) =
    length-append (spelled v) (version_bytes vs) ∙ (let a = length-versym v in let b = length-version_bytes vs in omega (arith, a, b))

pub version_read : VersymIsRead → VersionsAreRead
version_read read whole [] at k d h s l = absurd (omega (arith, l))
version_read read whole (v ∷ vs) at zero d h s l =
    let z : at + versym_size * 0 ≡ at = omega arith in
    rw z (ap (λ (r : Versym). r.version) (read whole at (record { version = v }) (record { version = h 0 d (omega arith) }) (HasBytesAt-front whole (spelled v) (version_bytes vs) at s)))
version_read read whole (v ∷ vs) at (suc k) d h s l =
    let z : at + versym_size * suc k ≡ at + 2 + versym_size * k = omega arith in
    rw z (version_read read whole vs (at + 2) k d (λ j e m. h (suc j) e (omega (arith, m))) (HasBytesAt-after whole (spelled v) (version_bytes vs) at 2 (length-versym v) s) (omega (arith, l)))

-- ---- definitions

pub length-names : (names : List ℕ) (i : ℕ) (p : Option ℕ) → 20 + length (verdaux_bytes (verdauxes_with names i p)) ≡ size_with p
length-names names i None =
    let r : Verdaux = record { name = name_at names i; next = 0 } in
    let a = length-append (spell (verdaux_fields r)) [] in
    let b = length-verdaux r in
    omega (arith, a, b)
length-names names i (Some p) =
    let r : Verdaux = record { name = name_at names i; next = 8 } in
    let q : Verdaux = record { name = name_at names p; next = 0 } in
    let a = length-append (spell (verdaux_fields r)) (spell (verdaux_fields q) ++ []) in
    let b = length-append (spell (verdaux_fields q)) [] in
    let d = length-verdaux r in
    let e = length-verdaux q in
    omega (arith, a, b, d, e)

pub length-definition : (names : List ℕ) (soname : Option (List ℕ)) (i : ℕ) (last : Bool) (d : VersionDefinition) → length (definition_bytes names soname i last d) ≡ definition_size d
length-definition names soname i last d =
    length-append (spell (verdef_fields (verdef_of soname i last d))) (verdaux_bytes (verdauxes_of names i d))
    ∙ (let a = length-verdef (verdef_of soname i last d) in let b = length-names names i d.parent in omega (arith, a, b))

length-definitions : (names : List ℕ) (soname : Option (List ℕ)) (ds : List VersionDefinition) (i : ℕ) → length (chain (definition_bytes names soname) i ds) ≡ definitions_size ds
length-definitions names soname [] i = ap length (chain-nil (definition_bytes names soname) i)
length-definitions names soname (d ∷ ds) i =
    ap length (chain-cons (definition_bytes names soname) i d ds)
    ∙ length-append (definition_bytes names soname i (is_end ds) d) (chain (definition_bytes names soname) (i + 1) ds)
    ∙ (let a = length-definition names soname i (is_end ds) d in let b = length-definitions names soname ds (i + 1) in omega (arith, a, b))

pub length-definition_table : LengthsOfDefinitions
length-definition_table names soname ds = length-definitions names soname ds 0

-- ---- needs

pub length-needed : (names : List ℕ) (vs : List NeededVersion) (i : ℕ) → length (chain (needed_bytes names) i vs) ≡ 16 * length vs
length-needed names [] i = ap length (chain-nil (needed_bytes names) i)
length-needed names (v ∷ vs) i =
    ap length (chain-cons (needed_bytes names) i v vs)
    ∙ length-append (needed_bytes names i (is_end vs) v) (chain (needed_bytes names) (i + 1) vs)
    ∙ (let a = length-vernaux (vernaux_of names i (is_end vs) v) in let b = length-needed names vs (i + 1) in omega (arith, a, b))

pub length-need_bytes : LengthsOfNeeds
length-need_bytes file names n =
    length-append (spell (verneed_fields (verneed_of file n))) (chain (needed_bytes names) 0 n.versions)
    ∙ (let a = length-verneed (verneed_of file n) in let b = length-needed names n.versions 0 in omega (arith, a, b))
