-- The bytes of a kept entry, and what a reader finds in them.
use Rattle.std.proofs.Common.{◌≡◌, ℕ, ◌+◌, ◌-◌, ◌^◌, ◌<◌, ◌≤◌, ◌⊎◌, inl, inr, true, false, List, [], ◌∷◌, length, map, get_or, take, drop, All, slice_range, ap, sym, ◌∙◌, arith, subst}
use Rattle.std.specs.Prelude.{◌==◌}
use Rattle.std.proofs.lemmas.Bool.{cases_Bool}
use Rattle.std.proofs.lemmas.Bool.Decides.{nat_tests}
use Rattle.std.proofs.lemmas.List.{length-take-le, get_or-take, get_or-drop}
use Rattle.std.proofs.lemmas.List.Elements.{All-head, All-tail}
use Rattle.wild_words.specs.Words.{word, number, number_at, HasBytesAt}
use Rattle.wild_words.proofs.Basics.{length-range, range_byte}
use Rattle.wild_words.proofs.WordLemmas.{length-word}
use Rattle.wild_words.proofs.OverlayLemmas.{place-below, place-inside, place-above, HasBytesAt-inner}
use Rattle.wild_words.proofs.RecordLemmas.{HasBytesAt-slice, number-stands}
use Rattle.wild_reloc.proofs.BitLemmas.{number_32}
use Rattle.wild_types.specs.Lists.{total}
use Rattle.wild_frames.specs.declared.entry.KeptEntry.{KeptEntry}
use Rattle.wild_frames.specs.Frames.{Frames, start, entry_bytes, kept_in, found_in, frame_bytes}
use Rattle.wild_frames.specs.Walks.{KeptLies}
use Rattle.wild_frames.specs.Reading.{IsRead, AreRead, AreConsecutiveFrom, entry_in_image, LeadsToItsCie, EntriesAreRead, OthersAreInput}
use Rattle.wild_frames.proofs.WriteLemmas.{length-entry}
use Rattle.wild_frames.proofs.EntryLemmas.{KeptIs, each_kept, found_walked, no_gaps, leads_all}

-- ---- one byte

-- a byte outside an FDE's id
entry_byte : (s : Frames) (k : KeptEntry) (i : ℕ) → KeptLies s k → i < k.size → (k.id ≡ 0) ⊎ ((i < 4) ⊎ (8 ≤ i)) → get_or (entry_bytes s k) i 0 ≡ get_or s.bytes (k.from + i) 0
unfolding entry_bytes
entry_byte s k i h l o =
    let n = length-range s.bytes k.from k.size h.within in
    let w = length-word 4 k.id in
    let least = h.least in
    let old = slice_range s.bytes k.from (k.from + k.size) in
    let room : 4 + length (word 4 k.id) ≤ length old = omega (arith, n, w, least) in
    let byte = range_byte s.bytes k.from k.size i l in
    elim (cases_Bool (k.id == 0)) [
      | inl t ↦ rw t byte
      | inr f ↦ rw f (elim o [
        | inl z ↦ (let y : k.id == 0 ≡ true = grind (arith, nat_tests) in cc)
        | inr side ↦ elim side [
          | inl b ↦ place-below 4 i old (word 4 k.id) room b ∙ byte
          | inr a ↦ place-above 4 i old (word 4 k.id) room (omega (arith, w, a)) ∙ byte
        ]
      ])
    ]

-- each byte is the input's
pub others : OthersAreInput
others s k i c l o =
    let is : KeptIs s k = subst (KeptIs s) c.2 (each_kept s start (found_in s) (found_walked s) c.0 k c.1) in
    let st : HasBytesAt (frame_bytes s) k.to (entry_bytes s k) = subst (λ (j : KeptEntry). HasBytesAt (frame_bytes s) j.to (entry_bytes s j)) c.2 ((no_gaps s).stand c.0 k c.1) in
    let n = length-entry s k is.lies.least is.lies.within in
    st.same i (omega (arith, n, l)) ∙ entry_byte s k i is.lies l o

-- ---- length and id

head_stands : (s : Frames) (k : KeptEntry) → KeptLies s k → HasBytesAt (take 8 (entry_bytes s k)) 0 (slice_range s.bytes k.from (k.from + 4))
head_stands s k h =
    let least = h.least in
    let within = h.within in
    let n = length-range s.bytes k.from 4 (omega arith) in
    let w = length-entry s k h.least h.within in
    let m = length-take-le 8 (entry_bytes s k) (omega (arith, w, least)) in
    record {
      fits = omega (arith, n, m);
      same = λ i l. (let z : 0 + i ≡ i = omega arith in
          rw z (get_or-take 8 (entry_bytes s k) i 0 (omega (arith, n)) ∙ entry_byte s k i h (omega (arith, n, least)) (inr (inl (omega (arith, n)))) ∙ sym (range_byte s.bytes k.from 4 i (omega (arith, n)))));
    }

cie_id_stands : (s : Frames) (k : KeptEntry) → KeptLies s k → k.id ≡ 0 → HasBytesAt (take 8 (entry_bytes s k)) 4 (slice_range s.bytes (k.from + 4) (k.from + 4 + 4))
cie_id_stands s k h z =
    let least = h.least in
    let within = h.within in
    let n = length-range s.bytes (k.from + 4) 4 (omega arith) in
    let w = length-entry s k h.least h.within in
    let m = length-take-le 8 (entry_bytes s k) (omega (arith, w, least)) in
    record {
      fits = omega (arith, n, m);
      same = λ i l. (let y : k.from + (4 + i) ≡ k.from + 4 + i = omega arith in
          get_or-take 8 (entry_bytes s k) (4 + i) 0 (omega (arith, n)) ∙ entry_byte s k (4 + i) h (omega (arith, n, least)) (inl z)
          ∙ ap (λ (j : ℕ). get_or s.bytes j 0) y ∙ sym (range_byte s.bytes (k.from + 4) 4 i (omega (arith, n))));
    }

fde_id_stands : (s : Frames) (k : KeptEntry) → KeptLies s k → (k.id ≡ 0 → ⊥) → HasBytesAt (take 8 (entry_bytes s k)) 4 (word 4 k.id)
unfolding entry_bytes
fde_id_stands s k h z =
    let least = h.least in
    let old = slice_range s.bytes k.from (k.from + k.size) in
    let n = length-range s.bytes k.from k.size h.within in
    let m = length-word 4 k.id in
    let w = length-entry s k h.least h.within in
    let t = length-take-le 8 (entry_bytes s k) (omega (arith, w, least)) in
    let room : 4 + length (word 4 k.id) ≤ length old = omega (arith, n, m, least) in
    let f : k.id == 0 ≡ false = grind (arith, nat_tests) in
    record {
      fits = omega (arith, m, t);
      same = λ i l. get_or-take 8 (entry_bytes s k) (4 + i) 0 (omega (arith, m)) ∙ rw f (place-inside 4 i old (word 4 k.id) room l);
    }

-- ---- numbers of bytes

word_bound : (bs : List ℕ) (at : ℕ) → at + 4 ≤ length bs → All (λ b. b < 256) bs → number_at bs at 4 < 2 ^ 32
word_bound bs at l a =
    let n = length-range bs at 4 l in
    number_32 (slice_range bs at (at + 4)) (λ i d m.
    let e : at + 4 - at ≡ 4 = omega arith in
    let j : i < 4 = omega (arith, n) in
    let q : get_or (take 4 (drop at bs)) i d ≡ get_or bs (at + i) d = get_or-take 4 (drop at bs) i d j ∙ get_or-drop at bs i d in
    let bound = a (at + i) d (omega arith) in
    rw e (rw q bound)) n

-- ---- an entry is read

read_as : (image part : List ℕ) (at n : ℕ) → length part ≡ n → HasBytesAt image at part → slice_range image at (at + n) ≡ part
read_as image part at n e st = subst (λ (m : ℕ). slice_range image at (at + m) ≡ part) e (HasBytesAt-slice image part at st)

head_read : (s : Frames) (k : KeptEntry) (image : List ℕ) (at : ℕ) → KeptLies s k → HasBytesAt image at (take 8 (entry_bytes s k)) → number_at image at 4 ≡ number_at s.bytes k.from 4
head_read s k image at h st =
    let least = h.least in
    let within = h.within in
    let part = slice_range s.bytes k.from (k.from + 4) in
    let n = length-range s.bytes k.from 4 (omega arith) in
    let z : at + 0 ≡ at = omega arith in
    ap number (read_as image part at 4 n (subst (λ (x : ℕ). HasBytesAt image x part) z (HasBytesAt-inner image (take 8 (entry_bytes s k)) part at 0 st (head_stands s k h))))

id_read : (s : Frames) (kept : List KeptEntry) (k : KeptEntry) (image : List ℕ) (at : ℕ) → All (λ b. b < 256) s.bytes → KeptLies s k → LeadsToItsCie s kept k → HasBytesAt image at (take 8 (entry_bytes s k)) → number_at image (at + 4) 4 ≡ k.id
id_read s kept k image at bytes h l st =
    let least = h.least in
    let within = h.within in
    elim l [
      | inl z ↦ (
          let part = slice_range s.bytes (k.from + 4) (k.from + 4 + 4) in
          let n = length-range s.bytes (k.from + 4) 4 (omega arith) in
          ap number (read_as image part (at + 4) 4 n (HasBytesAt-inner image (take 8 (entry_bytes s k)) part at 4 st (cie_id_stands s k h z.1))) ∙ z.0 ∙ sym z.1)
      | inr f ↦ (
          let ahead = f.ahead in
          let after = f.after in
          let shorter = f.shorter in
          let bound = word_bound s.bytes (k.from + 4) (omega arith) bytes in
          number-stands image (at + 4) 4 k.id (HasBytesAt-inner image (take 8 (entry_bytes s k)) (word 4 k.id) at 4 st (fde_id_stands s k h (λ z. omega (arith, ahead, after, z)))) (omega (arith, shorter, bound)))
    ]

-- entries that are found where they are looked for
follow : (image : List ℕ) (base to at : ℕ) (ks : List KeptEntry) → at ≡ base + to → AreConsecutiveFrom to ks → All (λ k. IsRead image (entry_in_image base k)) ks → AreRead image at (map (entry_in_image base) ks) (at + total (λ k. k.size) ks)
follow image base to at [] e l a = omega arith
follow image base to at (k ∷ ks) e l a =
    let t = l.0 in
    record {
      place = omega (arith, t, e);
      read = All-head (λ j. IsRead image (entry_in_image base j)) k ks a;
      others =
          let n : at + k.size + total (λ j. j.size) ks ≡ at + (k.size + total (λ j. j.size) ks) = omega arith in
          subst (λ (x : ℕ). AreRead image (at + k.size) (map (entry_in_image base) ks) x) n (follow image base (to + k.size) (at + k.size) ks (omega (arith, e)) l.1 (All-tail (λ j. IsRead image (entry_in_image base j)) k ks a));
    }

-- each entry is read
pub are_read : EntriesAreRead
are_read s image base bytes room heads =
    let gaps = no_gaps s in
    follow image base 0 base (kept_in s) (omega arith) gaps.lie (λ i d l.
    let k = get_or (kept_in s) i d in
    let is = each_kept s start (found_in s) (found_walked s) i d l in
    let st = heads i d l in
    let w = length-entry s k is.lies.least is.lies.within in
    let f = (gaps.stand i d l).fits in
    let n = head_read s k image (base + k.to) is.lies st in
    let e = is.size in
    record {
      least = is.lies.least;
      within = omega (arith, f, w, room);
      size = omega (arith, n, e);
      id = id_read s (kept_in s) k image (base + k.to) bytes is.lies (leads_all s i d l) st;
    })
