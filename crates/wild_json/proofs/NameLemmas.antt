-- The first unknown name of sorted members is the least unknown name of the members as they were put in.
use Rattle.std.proofs.Common.{◌≡◌, ℕ, List, [], ◌∷◌, Bool, true, false, bytes_eq, Ordering, Less, Equal, Greater, nat_cmp, Option, Some, None, Bor, refl, sym, ap, ◌∙◌, subst}
use Rattle.std.specs.Prelude.{⊤, if◌then◌else◌}
use Rattle.std.specs.List.{list_any}
use Rattle.std.specs.Ordering.{is_eq, match_ordering, ordering_reverse}
use Rattle.std.specs.Cmp.Lexicographic.{slice_cmp}
use Rattle.std.proofs.lemmas.Cmp.{nat_list_cmp_total}
use Rattle.std.proofs.lemmas.Map.Text.{is_eq-slice_cmp}
use Rattle.std.proofs.lemmas.Slice.Eq.{bytes_eq-Decides}
use Rattle.json.specs.Json as json
use Rattle.serde_json.specs.Data.{Data, Members, no_members, member, put}
use Rattle.wild_json.specs.Values.{data_of, members_from}
use Rattle.wild_json.specs.Names.{first_unknown, earlier_name, with_name, texts}

-- ---- sorted members

abbrev pub AllAfter : List ℕ → Members → Type 0
AllAfter k no_members = ⊤
AllAfter k (member l e ms) = (slice_cmp nat_cmp k l ≡ Less) × AllAfter k ms

abbrev pub AreSorted : Members → Type 0
AreSorted no_members = ⊤
AreSorted (member k d ms) = AllAfter k ms × AreSorted ms

further : (k l : List ℕ) (ms : Members) → slice_cmp nat_cmp k l ≡ Less → AllAfter l ms → AllAfter k ms
further k l no_members lt h = tt
further k l (member m e ms) lt h = (nat_list_cmp_total.trans k l m lt h.0, further k l ms lt h.1)

kept_at : (o : Ordering) (m k l : List ℕ) (d e : Data) (ms : Members) → slice_cmp nat_cmp m k ≡ Less → AllAfter m (member l e ms) → AllAfter m (put k d ms)
    → AllAfter m (match_ordering o (member k d (member l e ms)) (member l d ms) (member l e (put k d ms)))
kept_at Less m k l d e ms lt h again = (lt, h)
kept_at Equal m k l d e ms lt h again = h
kept_at Greater m k l d e ms lt h again = (h.0, again)

kept_after : (m k : List ℕ) (d : Data) (ms : Members) → slice_cmp nat_cmp m k ≡ Less → AllAfter m ms → AllAfter m (put k d ms)
kept_after m k d no_members lt h = (lt, tt)
kept_after m k d (member l e ms) lt h = kept_at (slice_cmp nat_cmp k l) m k l d e ms lt h (kept_after m k d ms lt h.1)

sorted_at : (o : Ordering) (k l : List ℕ) (d e : Data) (ms : Members) → slice_cmp nat_cmp k l ≡ o → AllAfter l ms → AreSorted ms → AreSorted (put k d ms)
    → AreSorted (match_ordering o (member k d (member l e ms)) (member l d ms) (member l e (put k d ms)))
sorted_at Less k l d e ms is h s again = ((is, further k l ms is h), (h, s))
sorted_at Equal k l d e ms is h s again = (h, s)
sorted_at Greater k l d e ms is h s again =
    let below : slice_cmp nat_cmp l k ≡ Less = nat_list_cmp_total.antisymm l k ∙ ap ordering_reverse is in
    (kept_after l k d ms below h, again)

pub sorted_put : (k : List ℕ) (d : Data) (ms : Members) → AreSorted ms → AreSorted (put k d ms)
sorted_put k d no_members s = (tt, tt)
sorted_put k d (member l e ms) s = sorted_at (slice_cmp nat_cmp k l) k l d e ms refl s.0 s.1 (sorted_put k d ms s.1)

-- ---- the first unknown name

module _ (names : List (List ℕ)) where
  abbrev is_known : List ℕ → Bool
  is_known k = list_any (λ n. bytes_eq n k) names

  comes_first : (b : Bool) (k l : List ℕ) (rest : Option (List ℕ)) → slice_cmp nat_cmp k l ≡ Less → earlier_name rest k ≡ k → earlier_name (if b then rest else Some l) k ≡ k
  comes_first true k l rest lt e = e
  comes_first false k l rest lt e = rw lt refl

  first_of_all : (k : List ℕ) (ms : Members) → AllAfter k ms → earlier_name (first_unknown names ms) k ≡ k
  first_of_all k no_members h = refl
  first_of_all k (member l e ms) h = comes_first (is_known l) k l (first_unknown names ms) h.0 (first_of_all k ms h.1)

  unknown_first : (b : Bool) (k : List ℕ) (rest : Option (List ℕ)) → earlier_name rest k ≡ k → (if b then rest else Some k) ≡ (if b then rest else Some (earlier_name rest k))
  unknown_first true k rest e = refl
  unknown_first false k rest e = ap (λ n. Some n) (sym e)

  same_name : (b : Bool) (k : List ℕ) (rest : Option (List ℕ)) → slice_cmp nat_cmp k k ≡ Equal → (if b then rest else Some k) ≡ (if b then (if b then rest else Some k) else Some (earlier_name (if b then rest else Some k) k))
  same_name true k rest e = refl
  same_name false k rest e = rw e refl

  name_after : (b c : Bool) (k l : List ℕ) (rest put_rest : Option (List ℕ)) → slice_cmp nat_cmp k l ≡ Greater → put_rest ≡ (if b then rest else Some (earlier_name rest k))
      → (if c then put_rest else Some l) ≡ (if b then (if c then rest else Some l) else Some (earlier_name (if c then rest else Some l) k))
  name_after true true k l rest put_rest gt e = e
  name_after false true k l rest put_rest gt e = e
  name_after true false k l rest put_rest gt e = refl
  name_after false false k l rest put_rest gt e = rw gt refl

  put_at : (o : Ordering) (k l : List ℕ) (d e : Data) (ms : Members) → slice_cmp nat_cmp k l ≡ o → AllAfter l ms → first_unknown names (put k d ms) ≡ with_name names k (first_unknown names ms)
      → first_unknown names (match_ordering o (member k d (member l e ms)) (member l d ms) (member l e (put k d ms))) ≡ with_name names k (first_unknown names (member l e ms))
  put_at Less k l d e ms is h again = unknown_first (is_known k) k (first_unknown names (member l e ms)) (first_of_all k (member l e ms) (is, further k l ms is h))
  put_at Equal k l d e ms is h again =
      let same : k ≡ l = (bytes_eq-Decides k l).0 (sym (is_eq-slice_cmp k l) ∙ ap is_eq is) in
      let itself : slice_cmp nat_cmp l l ≡ Equal = subst (λ (n : List ℕ). slice_cmp nat_cmp n l ≡ Equal) same is in
      subst (λ (n : List ℕ). (if is_known l then first_unknown names ms else Some l) ≡ with_name names n (if is_known l then first_unknown names ms else Some l)) (sym same) (same_name (is_known l) l (first_unknown names ms) itself)
  put_at Greater k l d e ms is h again = name_after (is_known k) (is_known l) k l (first_unknown names ms) (first_unknown names (put k d ms)) is again

  with_put : (k : List ℕ) (d : Data) (ms : Members) → AreSorted ms → first_unknown names (put k d ms) ≡ with_name names k (first_unknown names ms)
  with_put k d no_members s = refl
  with_put k d (member l e ms) s = put_at (slice_cmp nat_cmp k l) k l d e ms refl s.0 (with_put k d ms s.1)

  -- the least unknown name of these members and those before
  abbrev pub least_unknown : json.Members → Option (List ℕ) → Option (List ℕ)
  least_unknown json.no_members found = found
  least_unknown (json.member k j ms) found = least_unknown ms (with_name names k found)

  pub least_is_first : (ms : json.Members) (found : Members) → AreSorted found → first_unknown names (members_from ms found) ≡ least_unknown ms (first_unknown names found)
  least_is_first json.no_members found s = refl
  least_is_first (json.member k j ms) found s = least_is_first ms (put k (data_of j) found) (sorted_put k (data_of j) found s) ∙ ap (least_unknown ms) (with_put k (data_of j) found s)

-- ---- names, in the form that the code has them

pub any_text : (names : List (Bor (List ℕ))) (k : List ℕ) → list_any (λ n. bytes_eq n.now k) names ≡ list_any (λ n. bytes_eq n k) (texts names)
any_text [] k = refl
any_text (n ∷ names) k = rw (any_text names k) refl
