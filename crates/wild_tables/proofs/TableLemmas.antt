-- How many bytes tables need.
use Rattle.std.proofs.Common.{◌≡◌, ℕ, ◌+◌, ◌*◌, ◌<◌, ◌≤◌, true, nat_lt, List, [], ◌∷◌, length, take, Err, refl, arith}
use Rattle.std.proofs.lemmas.List.{length-append}
use Rattle.std.proofs.lemmas.Bool.{lt-ltb}
use Rattle.wild_relr.specs.declared.run.Choice.{Choice}
use Rattle.wild_relr.specs.declared.run.Choice.TheVariants.{Joins, Adds}
use Rattle.wild_relr.specs.Encoding.{choice, apply_choice, State, after}
use Rattle.wild_relr.specs.WriterState.{word_bytes, state, ContainsWords, IsSpelled}
use Rattle.wild_relr.specs.declared.writer.RelrWriter.{RelrWriter}
use Rattle.wild_relr.proofs.WriterLemmas.{length_words_in}
use Rattle.wild_records.specs.Relocations.{relr_size}
use Rattle.wild_types.specs.declared.layout.Layout.{Layout}
use Rattle.wild_types.specs.declared.part.Role.TheVariants.{RelrDyn}
use Rattle.wild_table_formats.specs.GroupTables.{Tables, packed_used, with_words, room_for_words}
use Rattle.wild_types.specs.Shares.{part_of, insufficient}
use Rattle.wild_relr.proofs.PackedLemmas.{length-with_last_bit}

grows_by_one : (c : Choice) (s : State) (room : ℕ) → 8 * length s.words ≤ room → room < 8 * length (apply_choice c s).words → 8 * length (apply_choice c s).words ≡ 8 * length s.words + 8
grows_by_one (Joins i) s room h l = let e = length-with_last_bit i s.words in absurd (omega (arith, e, h, l))
grows_by_one (Adds w r) s room h l = let e = length-append s.words (w ∷ []) in omega (arith, e)

-- where words do not fit with a place more, one word was missing
after_needs : (s : State) (p room : ℕ) → 8 * length s.words ≤ room → room < 8 * length (after s p).words → 8 * length (after s p).words ≡ 8 * length s.words + 8
after_needs s p room h l = grows_by_one (choice s.run p) s room h l

pub after_short : (l : Layout) (t : Tables) (p : ℕ) → packed_used t ≤ t.packed.room → t.packed.room < relr_size * length (after t.packed.state p).words
    → Err (insufficient (part_of l RelrDyn) t.group t.packed.room (packed_used t + relr_size)) ≡ room_for_words l (with_words (after t.packed.state p) t)
after_short l t p h m =
    let e = after_needs t.packed.state p t.packed.room h m in
    let short : nat_lt t.packed.room (8 * length (after t.packed.state p).words) ≡ true = lt-ltb _ _ m in
    rw (short, e) refl

-- the bytes of words that stand in a part
pub words_stand : (bs : List ℕ) (w : RelrWriter) → ContainsWords bs w → take (relr_size * length (state bs w).words) bs ≡ word_bytes (state bs w).words
unfolding IsSpelled
words_stand bs w s = let e = length_words_in bs w.count in rw e s.spelled
