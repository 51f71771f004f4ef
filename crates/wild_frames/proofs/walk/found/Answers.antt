use Rattle.std.proofs.Common.{◌≡◌, ◌+◌, ℕ, List, subst, sym, ap, ◌∙◌}
use Rattle.wild_words.specs.Words.{number_at}
use Rattle.wild_frames.specs.Walks.{spot_state, IsOwn}
use Rattle.wild_frames.proofs.WalkLemmas.{Facts, sized_facts, next_at}
use Rattle.wild_frames.proofs.walk.found.Goals as goal

pub returns-clause-own : goal.returns-clause-own
returns-clause-own g c = λ t.
    let s = g.F.FrameSource.frames c.args.frames.now in
    let st = spot_state c.args.spot.now in
    let e : 4 + c.read_u32-length.result ≡ 4 + number_at s.bytes st.at 4 = ap (λ (n : ℕ). 4 + n) (c.read_u32-length.ensures ∙ ap (λ (bs : List ℕ). number_at bs st.at 4) c.bytes-bytes.ensures) in
    let facts = subst (Facts s st) (sym c.entry_of_size.ensures.found) (sized_facts s st (4 + c.read_u32-length.result) e) in
    let n = next_at s st c.entry_of_size.result.0 facts t in
    subst (λ (end : ℕ). IsOwn s st.at end c.args.spot.now.relocation c.entry_of_size.result.1) (ap (λ (k : ℕ). st.at + k) e ∙ sym n) (c.entry_of_size.ensures.own t)
