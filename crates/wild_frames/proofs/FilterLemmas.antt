-- Kept entries are a filter of the entries of the input, and their fields spare their ids.
use Rattle.std.proofs.Common.{◌≡◌, ℕ, zero, suc, ◌+◌, ◌-◌, ◌<◌, ◌≤◌, inl, inr, Bool, true, false, List, [], ◌∷◌, length, map, All, Some, None, Option, flat_map, refl, ap, sym, ◌∙◌, arith}
use Rattle.std.specs.Prelude.{nat_le, nat_lt, ◌==◌, ◌||◌, ◌&&◌}
use Rattle.std.specs.List.{filter}
use Rattle.std.proofs.lemmas.Bool.{cases_Bool, eqb-true}
use Rattle.std.proofs.lemmas.Bool.Decides.{nat_tests}
use Rattle.std.proofs.lemmas.List.Elements.{All-nil, All-cons}
use Rattle.wild_words.specs.Words.{number_at}
use Rattle.wild_types.specs.declared.input.InputRelocation.{InputRelocation}
use Rattle.wild_frames.specs.declared.frames.Target.{Target}
use Rattle.wild_frames.specs.declared.frames.Target.TheVariants as target
use Rattle.wild_frames.specs.declared.entry.KeptEntry.{KeptEntry}
use Rattle.wild_frames.specs.declared.entry.BadFrame.{BadFrame}
use Rattle.wild_frames.specs.declared.entry.Found.{Found}
use Rattle.wild_frames.specs.declared.entry.Found.TheVariants as finds
use Rattle.wild_frames.specs.Frames.{Frames, State, start, target_first, found, state_after, walk_continues, after, walk, rest_of, kept_of, list_error, unless, unsorted_in}
use Rattle.wild_frames.specs.Faults.{found_errors, unless_list_error}
use Rattle.wild_frames.specs.Reading.{Entry, IsRead, AreRead, Ends, entry_at, is_loaded, is_kept, AreFiltered, SparesId, FieldsSpareIds}
use Rattle.wild_frames.proofs.RelocationLemmas.{at_reach, sorted_tail}
use Rattle.wild_frames.proofs.WalkLemmas.{Facts, KeptFacts, found_facts, goes, own_at, id_at, sorted_list}
use Rattle.wild_frames.proofs.EntryLemmas.{IsWalked, found_walked}

by_right : (a b : Bool) → a ≡ false → (a || b) ≡ b
by_right false b h = refl
by_right true b h = cc

by_left : (a b : Bool) → a ≡ true → (a || b) ≡ true
by_left true b h = refl
by_left false b h = cc

tells : (s : Frames) (st : State) (size : ℕ) (t : Target) → id_at s st == 0 ≡ false → target_first s.target (st.at + 8) (own_at s st size) ≡ t → is_kept s (entry_at s st.at size) ≡ is_loaded t
tells s st size t n h = by_right (id_at s st == 0) _ n ∙ ap is_loaded h

kept_tells : (s : Frames) (st : State) (k : KeptEntry) → KeptFacts s st k → is_kept s (entry_at s st.at k.size) ≡ true
kept_tells s st k h =
    elim h.links [
      | inl c ↦ (let z = c.zero in let t : id_at s st == 0 ≡ true = grind (arith, nat_tests) in by_left (id_at s st == 0) _ t)
      | inr f ↦ tells s st k.size target.Loaded f.other f.loaded
    ]

record Filtered (s : Frames) (st : State) (fs : List Found) : Type 0 where
  pub entries : List Entry
  pub end : ℕ
  pub read : AreRead s.bytes st.at entries end
  pub filtered : map (λ k. entry_at s k.from k.size) (flat_map kept_of fs) ≡ filter (is_kept s) entries
  pub ends : flat_map found_errors fs ≡ [] → Ends s.bytes end

read_entry : (s : Frames) (at size : ℕ) → 8 ≤ size → at + size ≤ length s.bytes → size ≡ 4 + number_at s.bytes at 4 → IsRead s.bytes (entry_at s at size)
read_entry s at size l w e = record { least = l; within = w; size = sym e; id = refl }

more_filtered : (s : Frames) (st : State) (f : Found) (fs : List Found) → Facts s st f → walk_continues f ≡ true → Filtered s (after st f) fs → Filtered s st (f ∷ fs)
more_filtered s st (finds.Kept k) fs h g r = record {
  entries = entry_at s st.at k.size ∷ r.entries;
  end = r.end;
  read = record { place = refl; read = read_entry s st.at k.size h.least h.within h.size; others = r.read };
  filtered = rw (kept_tells s st k h, h.from) (ap (λ es. entry_at s st.at k.size ∷ es) r.filtered);
  ends = r.ends;
}
more_filtered s st (finds.Dropped size) fs h g r = record {
  entries = entry_at s st.at size ∷ r.entries;
  end = r.end;
  read = record { place = refl; read = read_entry s st.at size h.least h.within h.size_is; others = r.read };
  filtered = rw (tells s st size target.Discarded h.other h.discarded) r.filtered;
  ends = r.ends;
}
more_filtered s st finds.End fs h g r = cc
more_filtered s st (finds.Tail at) fs h g r = cc
more_filtered s st (finds.Bad y at) fs h g r = cc

last_filtered : (s : Frames) (st : State) (f : Found) → Facts s st f → walk_continues f ≡ false → Filtered s st (f ∷ [])
last_filtered s st (finds.Kept k) h g = cc
last_filtered s st (finds.Dropped size) h g = cc
last_filtered s st finds.End h g = record { entries = []; end = st.at; read = refl; filtered = refl; ends = λ e. inr h }
last_filtered s st (finds.Tail at) h g = record { entries = []; end = st.at; read = refl; filtered = refl; ends = λ e. inl h.1 }
last_filtered s st (finds.Bad y at) h g = record { entries = []; end = st.at; read = refl; filtered = refl; ends = λ e. cc }

walk_filtered : (s : Frames) (n : ℕ) (st : State) → length s.bytes - st.at < n → Filtered s st (walk s n st)
unfolding walk
walk_filtered s zero st l = absurd (omega arith)
walk_filtered s (suc n) st l =
    elim (cases_Bool (walk_continues (found s st))) [
      | inl t ↦
          (let g = goes s st (found s st) (found_facts s st) t in
          let m = g.more in
          let w = g.within in
          rw t (more_filtered s st (found s st) (walk s n (after st (found s st))) (found_facts s st) t (walk_filtered s n (after st (found s st)) (omega arith))))
      | inr f ↦ rw f (last_filtered s st (found s st) (found_facts s st) f)
    ]

filtered_if : (s : Frames) (e : Option BadFrame) (fs : List Found) → Filtered s start fs
    → (entries : List Entry) × (end : ℕ) × AreRead s.bytes 0 entries end × (map (λ k. entry_at s k.from k.size) (flat_map kept_of (unless e fs)) ≡ filter (is_kept s) entries) × (unless_list_error e (flat_map found_errors fs) ≡ [] → Ends s.bytes end)
filtered_if s None fs w = (w.entries, w.end, w.read, w.filtered, w.ends)
filtered_if s (Some e) fs w = ([], 0, refl, refl, λ h. cc)

-- kept entries are a filter
pub kept_filtered : (s : Frames) → AreFiltered s
unfolding rest_of
kept_filtered s =
    let w = filtered_if s (list_error s.relocations) (rest_of s start) (walk_filtered s _ start (omega arith)) in
    record { entries = w.0; end = w.1; read = w.2; filtered = w.3; ends = w.4 }

-- ---- fields of an FDE stand behind its id

lower : (a b : ℕ) (rs : List InputRelocation) → a ≤ b → unsorted_in b rs ≡ None → unsorted_in a rs ≡ None
unfolding unsorted_in
lower a b [] l h = h
lower a b (r ∷ rs) l h =
    elim (cases_Bool (nat_lt r.offset b)) [
      | inl u ↦ (let g = rw u at h in cc)
      | inr u ↦ (let v : nat_lt r.offset a ≡ false = grind (arith, nat_tests) in let g = rw u at h in rw v g)
    ]

sorted_filter : (p : InputRelocation → Bool) (m : ℕ) (rs : List InputRelocation) → unsorted_in m rs ≡ None → unsorted_in m (filter p rs) ≡ None
unfolding unsorted_in
sorted_filter p m [] h = h
sorted_filter p m (r ∷ rs) h =
    let tail = sorted_tail m r rs h in
    elim (cases_Bool (p r)) [
      | inl t ↦ elim (cases_Bool (nat_lt r.offset m)) [
        | inl u ↦ (let g = rw u at h in cc)
        | inr u ↦ rw t (rw u (sorted_filter p r.offset rs tail))
      ]
      | inr f ↦ rw f (sorted_filter p m rs (lower m r.offset rs (let a = at_reach m (r ∷ rs) h 0 r (omega arith) in a) tail))
    ]

behind_id : (t : InputRelocation → Target) (at m : ℕ) (own : List InputRelocation) → unsorted_in m own ≡ None → target_first t at own ≡ target.Loaded → All (λ r. at ≤ r.offset) own
behind_id t at m [] s h = All-nil (λ r. at ≤ r.offset)
behind_id t at m (r ∷ rs) s h =
    elim (cases_Bool (r.offset == at)) [
      | inl y ↦ (let e : r.offset ≡ at = eqb-true r.offset at y in
          let a = at_reach r.offset rs (sorted_tail m r rs s) in
          All-cons (λ x. at ≤ x.offset) r rs (omega arith) (λ k d l. let b = a k d l in omega (arith, b, e)))
      | inr f ↦ (let g = rw f at h in cc)
    ]

kept_spares : (s : Frames) (st : State) (k : KeptEntry) → unsorted_in 0 s.relocations ≡ None → KeptFacts s st k → SparesId s k
kept_spares s st k o h =
    elim h.links [
      | inl c ↦ inl c.is
      | inr f ↦ inr (rw h.from (behind_id s.target (st.at + 8) 0 (own_at s st k.size) (sorted_filter (λ r. nat_le st.at r.offset && nat_lt r.offset (st.at + k.size)) 0 s.relocations o) f.loaded))
    ]

spares_in : (s : Frames) (st : State) (fs : List Found) → unsorted_in 0 s.relocations ≡ None → IsWalked s st fs → All (SparesId s) (flat_map kept_of fs)
spares_in s st [] o w = All-nil (SparesId s)
spares_in s st (finds.Kept k ∷ fs) o w = All-cons (SparesId s) k (flat_map kept_of fs) (kept_spares s st k o w.facts) (spares_in s (state_after st k) fs o w.others)
spares_in s st (finds.Dropped size ∷ fs) o w = spares_in s (after st (finds.Dropped size)) fs o w.others
spares_in s st (finds.End ∷ fs) o w = spares_in s st fs o w.others
spares_in s st (finds.Tail at ∷ fs) o w = spares_in s st fs o w.others
spares_in s st (finds.Bad y at ∷ fs) o w = spares_in s st fs o w.others

spares_if : (s : Frames) (e : Option BadFrame) (fs : List Found) → IsWalked s start (unless e fs) → (e ≡ None → unsorted_in 0 s.relocations ≡ None) → All (SparesId s) (flat_map kept_of (unless e fs))
spares_if s None fs w o = spares_in s start fs (o refl) w
spares_if s (Some e) fs w o = All-nil (SparesId s)

-- fields spare ids
pub fields_spare : FieldsSpareIds
fields_spare s = spares_if s (list_error s.relocations) (rest_of s start) (found_walked s) (sorted_list s.relocations)
