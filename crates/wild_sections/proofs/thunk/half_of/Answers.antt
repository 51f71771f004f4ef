use Rattle.std.proofs.Common.{◌≡◌, ap, arith}
use Rattle.wild_types.specs.declared.layout.Thunk.{Thunk}
use Rattle.wild_sections.proofs.ThunkLemmas.{HasHalves-from_split}
use Rattle.wild_sections.proofs.thunk.half_of.Goals as goal

pub returns-then-middle-symbol-clause-order : goal.returns-then-middle-symbol-clause-order
returns-then-middle-symbol-clause-order c =
    (HasHalves-from_split c.args.symbol c.args.thunks.now c.split_at.result.0.now c.split_at.result.1.now c.index-back-0.result c.requires.some c.split_at.ensures.front c.split_at.ensures.back c.split_at.ensures.back_len c.requires.order c.index-back-0.is).back_ascends

pub returns-then-middle-symbol-clause-same : goal.returns-then-middle-symbol-clause-same
returns-then-middle-symbol-clause-same c =
    let symbol : c.symbol.inside.0 ≡ c.args.symbol = c.symbol.view_is in
    let middle : c.middle.inside.0.0.0 ≡ c.index-back-0.result.symbol = ap (λ (t : Thunk). t.symbol) c.middle.view_is in
    let test = c.if-middle-symbol.true in
    (HasHalves-from_split c.args.symbol c.args.thunks.now c.split_at.result.0.now c.split_at.result.1.now c.index-back-0.result c.requires.some c.split_at.ensures.front c.split_at.ensures.back c.split_at.ensures.back_len c.requires.order c.index-back-0.is).behind (omega (arith, symbol, middle, test))

pub returns-else-middle-symbol-clause-order : goal.returns-else-middle-symbol-clause-order
returns-else-middle-symbol-clause-order c =
    (HasHalves-from_split c.args.symbol c.args.thunks.now c.split_at.result.0.now c.split_at.result.1.now c.index-back-0.result c.requires.some c.split_at.ensures.front c.split_at.ensures.back c.split_at.ensures.back_len c.requires.order c.index-back-0.is).front_ascends

pub returns-else-middle-symbol-clause-same : goal.returns-else-middle-symbol-clause-same
returns-else-middle-symbol-clause-same c =
    let symbol : c.symbol.inside.0 ≡ c.args.symbol = c.symbol.view_is in
    let middle : c.middle.inside.0.0.0 ≡ c.index-back-0.result.symbol = ap (λ (t : Thunk). t.symbol) c.middle.view_is in
    let test = c.if-middle-symbol.false in
    (HasHalves-from_split c.args.symbol c.args.thunks.now c.split_at.result.0.now c.split_at.result.1.now c.index-back-0.result c.requires.some c.split_at.ensures.front c.split_at.ensures.back c.split_at.ensures.back_len c.requires.order c.index-back-0.is).ahead (omega (arith, symbol, middle, test))
