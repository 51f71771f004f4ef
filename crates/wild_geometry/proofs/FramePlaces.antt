-- The frames of a group stand in the part of frames, behind those of the groups before it.
use Rattle.wild_geometry.proofs.Common.{◌≡◌, ℕ, ◌+◌, ◌^◌, ◌<◌, ◌≤◌, List, [], ◌∷◌, length, get_or, All, Option, Some, None, refl, sym, ap, arith, subst, slice_get-get_or, All-contains, Part, InputSection, File, Group, Layout, total, role_place, part_with, total-prefix, kept_size, address_after, placed_sections, placed_file, file_frames, placed_from, frames_at, placed_files, share, content, table_bytes, bytes_before}
use Rattle.wild_types.specs.declared.part.Role.TheVariants as role
use Rattle.wild_placement.specs.PlacedSections.{part_address}
use Rattle.wild_needs.specs.Needs.{frame_room}
use Rattle.wild_layout.specs.TablePlaces.{TableLies}
use Rattle.wild_geometry.proofs.PlacedSectionLemmas.{AllClausesHold}
use Rattle.wild_geometry.proofs.FrameSections.{frame_room_is}
use Rattle.wild_geometry.proofs.ContentLemmas.{length_joined, length-content}
use Rattle.wild_geometry.proofs.TablePieces.{PartLies-from_clauses}
use Rattle.wild_geometry.proofs.RoleLemmas.{HasTable-from_clauses}
use Rattle.wild_geometry.proofs.StartLemmas.{frame_starts_from_clauses}
use Rattle.wild_geometry.proofs.StayLemmas.{FramesEnd}

-- ---- what is kept has room

kept_of_sections : (l : Layout) (f : File) (at : ℕ) (ss : List InputSection) → total frame_room (placed_sections l f at ss) ≡ total (kept_size l f) ss
kept_of_sections l f at [] = refl
kept_of_sections l f at (s ∷ ss) =
    let a = frame_room_is l f at s in
    let b = kept_of_sections l f (address_after at (kept_size l f s)) ss in
    omega arith

kept_of_file : (l : Layout) (f : File) (at : ℕ) → file_frames l f ≤ share l role.EhFrame (placed_file l at f)
kept_of_file l f at = let a = kept_of_sections l f at f.sections in omega arith

kept_of_files : (l : Layout) (at : ℕ) (fs : List File) → total (file_frames l) fs ≤ total (share l role.EhFrame) (placed_from l at fs)
kept_of_files l at [] = omega arith
kept_of_files l at (f ∷ fs) =
    let a = kept_of_file l f at in
    let b = kept_of_files l (address_after at (file_frames l f)) fs in
    omega arith

kept_shared : (l : Layout) (g : Group) → total (file_frames l) g.files ≤ total (share l role.EhFrame) (placed_files l g)
unfolding placed_files
kept_shared l g = kept_of_files l (frames_at l g) g.files

kept_within : (l : Layout) (g : Group) → total (file_frames l) g.files ≤ length (content l role.EhFrame g)
kept_within l g =
    let a = kept_shared l g in
    let b = length-content l role.EhFrame g (λ e. absurd (omega arith)) in
    omega arith

-- ---- where they end

-- an address that is not reduced
low_behind : (at n k limit : ℕ) → at + n + k ≤ limit → limit < 2 ^ 64 → address_after at n + k ≤ limit
low_behind at n k limit h low = omega arith

group_ends : (l : Layout) → AllClausesHold l → (j : ℕ) (g : Group) → j < length l.groups → FramesEnd l (get_or l.groups j g)
group_ends l h j g m = by (part_with role.EhFrame l.parts) refl
  where
    x : Group
    x = get_or l.groups j g

    start : x.eh_frame_start ≡ bytes_before l role.EhFrame j
    start = frame_starts_from_clauses l h j x (slice_get-get_or l.groups j g m)

    some : role_place role.EhFrame ≡ 0 → ⊥
    some e = absurd (omega arith)

    -- what stands before the group's frames, and those
    ends : x.eh_frame_start + total (file_frames l) x.files ≤ length (table_bytes l role.EhFrame)
    ends =
        let here = kept_within l x in
        let before = total-prefix (λ (y : Group). length (content l role.EhFrame y)) l.groups j g m in
        let whole = length_joined (content l role.EhFrame) l.groups in
        let from = start in
        omega arith

    low : (p : Part) → TableLies l role.EhFrame p → p.address + length (table_bytes l role.EhFrame) ≤ 2 ^ 62
    low p t =
        let size = t.size in
        let P : Part → Type 0 = λ q. q.address + q.size ≤ 2 ^ 62 in
        let address : P p = All-contains P l.parts p (λ i q n. (PartLies-from_clauses l h i q n).address) t.listed in
        omega arith

    by : (o : Option Part) → part_with role.EhFrame l.parts ≡ o → FramesEnd l x
    by None is =
        let none = ap length ((HasTable-from_clauses l h role.EhFrame some).missing is) in
        let all = ends in
        subst (λ (o : Option Part). address_after (part_address o) x.eh_frame_start + total (file_frames l) x.files ≤ 2 ^ 62) (sym is) (low_behind 0 x.eh_frame_start (total (file_frames l) x.files) (2 ^ 62) (omega arith) (omega arith))
    by (Some p) is =
        let most = low p ((HasTable-from_clauses l h role.EhFrame some).there p is) in
        let all = ends in
        subst (λ (o : Option Part). address_after (part_address o) x.eh_frame_start + total (file_frames l) x.files ≤ 2 ^ 62) (sym is) (low_behind p.address x.eh_frame_start (total (file_frames l) x.files) (2 ^ 62) (omega arith) (omega arith))

pub frames_end : (l : Layout) → AllClausesHold l → All (FramesEnd l) l.groups
frames_end l h = λ j g m. group_ends l h j g m
