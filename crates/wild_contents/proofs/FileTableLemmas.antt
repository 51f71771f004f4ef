-- Laws of what a file gives to the tables that a loader reads.
use Rattle.std.proofs.Common.{◌≡◌, ℕ, ◌+◌, ◌*◌, ◌%◌, ◌<◌, ◌≤◌, ◌==◌, ◌&&◌, inl, inr, true, false, List, [], ◌∷◌, ◌++◌, length, take, get_or, refl, sym, ap, ◌∙◌, arith}
use Rattle.std.specs.Prelude.{Option, Some, None, option_to_list}
use Rattle.std.specs.List.{flat_map}
use Rattle.std.proofs.lemmas.Bool.{cases_Bool, and_parts, eqb-true}
use Rattle.std.proofs.lemmas.List.{append-nil, length-append, take_all}
use Rattle.wild_words.proofs.ListLemmas.{flat_map-more, flat_map-flat_map}
use Rattle.wild_records.specs.Relocations.{relr_size}
use Rattle.wild_relr.specs.declared.run.Choice.{Choice}
use Rattle.wild_relr.specs.declared.run.Choice.TheVariants.{Joins, Adds}
use Rattle.wild_relr.specs.Encoding.{State, choice, apply_choice, after}
use Rattle.wild_relr.specs.RunWords.{packed, packed_on, after_places, nothing}
use Rattle.wild_relr.specs.WriterState.{word_bytes}
use Rattle.wild_relr.proofs.PackedLemmas.{after_places-packed, length-with_last_bit}
use Rattle.wild_types.specs.declared.input.InputRelocation.{InputRelocation}
use Rattle.wild_types.specs.declared.input.InputSection.{InputSection}
use Rattle.wild_types.specs.declared.layout.Layout.{Layout}
use Rattle.wild_types.specs.Lookups.{place_of, packs, may_have_relative}
use Rattle.wild_needs.specs.Entries.{is_relative, relr_place, relr_places, words_of}
use Rattle.wild_table_formats.specs.RelativeEntries.{rela_bytes}
use Rattle.wild_layout.specs.RelativeRelocations.{listed_entry, section_entries}
use Rattle.wild_contents.specs.FileTables.{entry_bytes, section_entry_bytes, section_word_bytes, packed_in}

-- all of them, where a loop has ended
pub all_joined : {X : Type 0} (f : X → List ℕ) (xs : List X) (i : ℕ) (base now whole : List ℕ) → length xs ≤ i → now ≡ base ++ flat_map f (take i xs) → whole ≡ flat_map f xs → now ≡ base ++ whole
all_joined {X} f xs i base now whole end before is = before ∙ ap (λ (ys : List X). base ++ flat_map f ys) (take_all i xs end) ∙ ap (λ (ys : List ℕ). base ++ ys) (sym is)

-- nothing to add
pub none_added : (bytes own : List ℕ) → own ≡ [] → bytes ≡ bytes ++ own
none_added bytes own none = sym (append-nil bytes) ∙ ap (λ (ys : List ℕ). bytes ++ ys) (sym none)

-- ---- entries

pub listed_entries : (l : Layout) (s : InputSection) → may_have_relative l s ≡ true → section_entry_bytes l s ≡ flat_map (entry_bytes l s) s.relocations
unfolding section_entry_bytes entry_bytes section_entries
listed_entries l s h = rw h (sym (sym (flat_map-flat_map _ (λ r. option_to_list (listed_entry l s r)) s.relocations)))

pub no_entries : (l : Layout) (s : InputSection) → may_have_relative l s ≡ false → section_entry_bytes l s ≡ []
unfolding section_entry_bytes section_entries
no_entries l s h = rw h refl

pub entries_joined : (l : Layout) (ss : List InputSection) → rela_bytes (flat_map (section_entries l) ss) ≡ flat_map (section_entry_bytes l) ss
unfolding section_entry_bytes
entries_joined l ss = sym (sym (flat_map-flat_map _ (section_entries l) ss))

-- ---- words

by_choice_few : (c : Choice) (s : State) → length (apply_choice c s).words ≤ length s.words + 1
by_choice_few (Joins i) s = let e = length-with_last_bit i s.words in omega (arith, e)
by_choice_few (Adds w r) s = let e = length-append s.words (w ∷ []) in omega (arith, e)

-- a place adds a word at most
pub one_more : (s : State) (p : ℕ) → length (after s p).words ≤ length s.words + 1
one_more s p = by_choice_few (choice s.run p) s

pub never_full : (s : State) (p room : ℕ) → relr_size * (length s.words + 1) ≤ room → room < relr_size * length (after s p).words → ⊥
never_full s p room h m = let e = one_more s p in omega (arith, e, h, m)

-- a place that is packed is even
pub packed_even : (l : Layout) (s : InputSection) (r : InputRelocation) (p : ℕ) → relr_place l s r ≡ Some p → p % 2 ≡ 0
packed_even l s r p h =
    elim (cases_Bool (is_relative l s r && packs l (place_of s.address r))) [
      | inl t ↦
          (let both = and_parts (is_relative l s r) (packs l (place_of s.address r)) t in
          let even = and_parts l.options.relr (place_of s.address r % 2 == 0) both.1 in
          let e : place_of s.address r ≡ p = cc (rw t at h) in
          ap (λ (n : ℕ). n % 2) (sym e) ∙ eqb-true _ _ even.1)
      | inr f ↦ cc (rw f at h)
    ]

pub after_places-append : (ps qs : List ℕ) (s : State) → after_places s (ps ++ qs) ≡ after_places (after_places s ps) qs
unfolding after_places
after_places-append [] qs s = refl
after_places-append (p ∷ ps) qs s = after_places-append ps qs (after s p)

pub afters_none : (s : State) → after_places s [] ≡ s
unfolding after_places
afters_none s = refl

pub afters_one : (s : State) (p : ℕ) → after_places s (p ∷ []) ≡ after s p
unfolding after_places
afters_one s p = refl

-- the place of a relocation, where that is packed
pub packed_some : (l : Layout) (s : InputSection) (r : InputRelocation) (p : ℕ) (now : State) → relr_place l s r ≡ Some p → after_places now (packed_in l s r) ≡ after now p
packed_some l s r p now e = ap (λ (o : Option ℕ). after_places now (option_to_list o)) e ∙ afters_one now p

pub not_packed : (l : Layout) (s : InputSection) (r : InputRelocation) (now : State) → relr_place l s r ≡ None → after_places now (packed_in l s r) ≡ now
not_packed l s r now e = ap (λ (o : Option ℕ). after_places now (option_to_list o)) e ∙ afters_none now

-- one more item's places
pub run_more : {X : Type 0} (f : X → List ℕ) (xs : List X) (i : ℕ) (d : X) (first now next : State) → i < length xs → now ≡ after_places first (flat_map f (take i xs)) → next ≡ after_places now (f (get_or xs i d)) → next ≡ after_places first (flat_map f (take (i + 1) xs))
run_more f xs i d first now next h before is =
    is ∙ ap (λ (x : State). after_places x (f (get_or xs i d))) before
    ∙ sym (after_places-append (flat_map f (take i xs)) (f (get_or xs i d)) first)
    ∙ ap (after_places first) (sym (flat_map-more f xs i d h))

-- the words of a run, place by place
pub run_words : (ps : List ℕ) → (after_places nothing ps).words ≡ packed ps
run_words ps = after_places-packed ps []

pub packed_words : (l : Layout) (s : InputSection) → may_have_relative l s ≡ true → section_word_bytes l s ≡ word_bytes (packed (flat_map (packed_in l s) s.relocations))
unfolding section_word_bytes relr_places
packed_words l s h = rw h refl

pub no_words : (l : Layout) (s : InputSection) → may_have_relative l s ≡ false → section_word_bytes l s ≡ []
unfolding section_word_bytes relr_places packed packed_on
no_words l s h = rw h refl

pub words_joined : (l : Layout) (ss : List InputSection) → word_bytes (flat_map (words_of l) ss) ≡ flat_map (section_word_bytes l) ss
unfolding section_word_bytes
words_joined l ss = sym (sym (flat_map-flat_map _ (words_of l) ss))
