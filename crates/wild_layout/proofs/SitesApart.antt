-- Sites that share no byte are apart.
use Rattle.std.proofs.Common.{◌≡◌, ℕ, ◌+◌, ◌<◌, ◌≤◌, List, length, get_or, map, arith, subst}
use Rattle.std.specs.Prelude.{All, None}
use Rattle.std.proofs.lemmas.List.{get_or-map, length-map}
use Rattle.wild_words.specs.declared.extents.Extent.{Extent}
use Rattle.wild_words.specs.Overlay.{Piece, Disjoint, AreDisjoint}
use Rattle.wild_words.specs.Extents.{SharesNothing, least_extent}
use Rattle.wild_words.proofs.ExtentLemmas.{all-apart, apart-beside}
use Rattle.wild_layout.specs.Sites.{extent_of}

-- a piece with bytes that end at n or before
pub record IsFieldIn (n : ℕ) (p : Piece) : Type 0 where
  pub ends : p.at + length p.bytes ≤ n
  pub some : 0 < length p.bytes

pieces_are_apart : (p q : Piece) → 0 < length p.bytes → 0 < length q.bytes → SharesNothing (extent_of p) (extent_of q) → Disjoint p q
pieces_are_apart p q some more nothing = apart-beside (extent_of p) (extent_of q) nothing (omega arith) (omega arith)

pub fields_apart : (ps : List Piece) (n : ℕ) → All (IsFieldIn n) ps → least_extent (map extent_of ps) ≡ None → AreDisjoint n ps
fields_apart ps n each none =
    let pairs = all-apart (map extent_of ps) none in
    let len = length-map ps extent_of in
    record {
      within = λ i d l. (each i d l).ends;
      apart = λ i j d l m.
          (let nothing = pairs i j (extent_of d) l (omega (arith, len, m)) in
          let both : SharesNothing (extent_of (get_or ps i d)) (extent_of (get_or ps j d)) = subst (λ (e : Extent). SharesNothing e (extent_of (get_or ps j d))) (get_or-map extent_of ps i d (extent_of d) (omega arith)) (subst (λ (e : Extent). SharesNothing (get_or (map extent_of ps) i (extent_of d)) e) (get_or-map extent_of ps j d (extent_of d) m) nothing) in
          pieces_are_apart (get_or ps i d) (get_or ps j d) (each i d (omega arith)).some (each j d m).some both);
    }
