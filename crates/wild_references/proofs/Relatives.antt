-- What is written of an address that moves with the base, less the place or the table.
use Rattle.wild_references.proofs.Common.{◌≡◌, ℕ, ◌+◌, ◌-◌, ◌%◌, ◌^◌, sym, ap, ◌∙◌, InputRelocation, Layout, RelocationKindInfo, place_of, displacement, Memory, World, table_at, Item, place_at, HasTerm}
use Rattle.wild_references.proofs.Moves.{moved_distance, moved_offset}
use Rattle.wild_references.proofs.ValueKinds.{more}

pub less_place : (l : Layout) (w : World) (m : Memory) (s : Item) (r : InputRelocation) (info : RelocationKindInfo) (x : ℕ) → (h : HasTerm l w m s r info x) → displacement h.term r.addend (place_of s.address r) ≡ x → x ≡ ((w.base + h.term) % 2 ^ 64 + more r + (2 ^ 64 - place_at w s r.offset)) % 2 ^ 64
less_place l w m s r info x h e = sym e ∙ moved_distance w.base h.term (more r) (place_of s.address r) h.ends ∙ ap (λ (p : ℕ). ((w.base + h.term) % 2 ^ 64 + more r + (2 ^ 64 - p)) % 2 ^ 64) (sym h.place)

pub less_table : (l : Layout) (w : World) (m : Memory) (s : Item) (r : InputRelocation) (info : RelocationKindInfo) (x : ℕ) → (h : HasTerm l w m s r info x) → displacement h.term r.addend l.got_base ≡ x → x ≡ ((w.base + h.term) % 2 ^ 64 + more r + (2 ^ 64 - table_at l w)) % 2 ^ 64
less_table l w m s r info x h e = sym e ∙ moved_offset w.base h.term (more r) l.got_base h.placed.got
