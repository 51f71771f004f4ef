-- The steps of the walks over an image's headers and dynamic entries.
use Rattle.std.proofs.Common.{◌≡◌, Bool, true, false, ℕ, suc, ◌+◌, ◌-◌, ◌*◌, ◌%◌, ◌^◌, ◌<◌, ◌≤◌, List, [], ◌∷◌, refl, arith, Some, None, Ok, Err}
use Rattle.std.specs.Prelude.{if◌then◌else◌, ◌==◌}
use Rattle.wild_records.specs.ProgramHeader.{program_header_at}
use Rattle.wild_records.specs.Dynamic.{dynamic_entry_at}
use Rattle.wild_loader.specs.Headers.{program_headers}
use Rattle.wild_loader.specs.Tables.{dynamic_entries, first_dynamic, value_of_tag, has_in_memory}
use Rattle.wild_hashes.specs.declared.fault.ImageFault.TheVariants as faults
use Rattle.wild_hashes.specs.Image.{part_in, part_at, bytes_of, bytes_or_none, gnu_lookup_in, sysv_lookup_in}
use Rattle.wild_hashes.specs.Laws.{GnuLookUpFindsTheFirst, GnuLookUpInImagesFindsTheFirst, SysvLookUpFindsTheFirst, SysvLookUpInImagesFindsTheFirst}

headers_more : (image : List ℕ) (count i start : ℕ) → i < count → program_headers image (count - i) (start + 56 * i) ≡ program_header_at image (start + 56 * i) ∷ program_headers image (count - (i + 1)) (start + 56 * (i + 1))
unfolding program_headers
headers_more image count i start l =
    let e : count - i ≡ suc (count - (i + 1)) = omega (arith, l) in
    let f : start + 56 * i + 56 ≡ start + 56 * (i + 1) = omega arith in
    rw (e, f) refl

headers_none : (image : List ℕ) (count i start : ℕ) → count ≤ i → program_headers image (count - i) (start + 56 * i) ≡ []
unfolding program_headers
headers_none image count i start l = let e : count - i ≡ 0 = omega (arith, l) in rw e refl

pub first_dynamic_more : (image : List ℕ) (count i start : ℕ) → i < count → first_dynamic (program_headers image (count - i) (start + 56 * i)) ≡ (if (program_header_at image (start + 56 * i)).kind == 2 then Some (program_header_at image (start + 56 * i)) else first_dynamic (program_headers image (count - (i + 1)) (start + 56 * (i + 1))))
unfolding first_dynamic
first_dynamic_more image count i start l = rw (headers_more image count i start l) refl

pub first_dynamic_none : (image : List ℕ) (count i start : ℕ) → count ≤ i → first_dynamic (program_headers image (count - i) (start + 56 * i)) ≡ None
unfolding first_dynamic
first_dynamic_none image count i start l = rw (headers_none image count i start l) refl

pub ruleset dynamic_steps = (first_dynamic_more, first_dynamic_none)

pub part_more : (image : List ℕ) (count i start a : ℕ) → i < count → part_at image (program_headers image (count - i) (start + 56 * i)) a ≡ (if has_in_memory (program_header_at image (start + 56 * i)) a then Ok (part_in image (program_header_at image (start + 56 * i)) a) else part_at image (program_headers image (count - (i + 1)) (start + 56 * (i + 1))) a)
unfolding part_at
part_more image count i start a l = rw (headers_more image count i start l) refl

pub part_none : (image : List ℕ) (count i start a : ℕ) → count ≤ i → part_at image (program_headers image (count - i) (start + 56 * i)) a ≡ Err (faults.Cut a)
unfolding part_at
part_none image count i start a l = rw (headers_none image count i start l) refl

pub ruleset part_steps = (part_more, part_none)

pub tagged_more : (image : List ℕ) (tag count i start : ℕ) → i < count → value_of_tag tag (dynamic_entries image (count - i) (start + 16 * i)) ≡ (if (dynamic_entry_at image (start + 16 * i)).tag == 0 then None else if (dynamic_entry_at image (start + 16 * i)).tag == tag then Some (dynamic_entry_at image (start + 16 * i)).value else value_of_tag tag (dynamic_entries image (count - (i + 1)) (start + 16 * (i + 1))))
unfolding value_of_tag dynamic_entries
tagged_more image tag count i start l =
    let e : count - i ≡ suc (count - (i + 1)) = omega (arith, l) in
    let f : start + 16 * i + 16 ≡ start + 16 * (i + 1) = omega arith in
    rw (e, f) (by_tag ((dynamic_entry_at image (start + 16 * i)).tag == 0))
  where
    by_tag : (b : Bool) → value_of_tag tag (if b then [] else dynamic_entry_at image (start + 16 * i) ∷ dynamic_entries image (count - (i + 1)) (start + 16 * (i + 1))) ≡ (if b then None else if (dynamic_entry_at image (start + 16 * i)).tag == tag then Some (dynamic_entry_at image (start + 16 * i)).value else value_of_tag tag (dynamic_entries image (count - (i + 1)) (start + 16 * (i + 1))))
    by_tag true = refl
    by_tag false = refl

pub tagged_none : (image : List ℕ) (tag count i start : ℕ) → count ≤ i → value_of_tag tag (dynamic_entries image (count - i) (start + 16 * i)) ≡ None
unfolding value_of_tag dynamic_entries
tagged_none image tag count i start l = let e : count - i ≡ 0 = omega (arith, l) in rw e refl

pub ruleset tag_steps = (tagged_more, tagged_none)

-- a product that is wrapped before a sum
pub wrapped_once : (a b : ℕ) → (a + b * 24 % 2 ^ 64) % 2 ^ 64 ≡ (a + 24 * b) % 2 ^ 64
wrapped_once a b = omega arith

-- ---- tables in an image

pub gnu_found_in_image : GnuLookUpFindsTheFirst → GnuLookUpInImagesFindsTheFirst
unfolding gnu_lookup_in
gnu_found_in_image found image ps t ds name e st named laid =
    let f = found (bytes_of image ps.hashes) (bytes_or_none image ps.symbols) (bytes_or_none image ps.strings) t ds name st named laid in
    rw (e, f) refl

pub sysv_found_in_image : SysvLookUpFindsTheFirst → SysvLookUpInImagesFindsTheFirst
unfolding sysv_lookup_in
sysv_found_in_image found image ps n base ds name e st named p q =
    let f = found (bytes_of image ps.hashes) (bytes_or_none image ps.symbols) (bytes_or_none image ps.strings) n base ds name st named p q in
    rw (e, f) refl
