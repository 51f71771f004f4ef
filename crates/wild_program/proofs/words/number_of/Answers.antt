use Rattle.wild_program.proofs.Common.{◌≡◌, ℕ, Ok, Err, Result, sym, ap, ◌∙◌, arith, decimal, bytes_eq-Decides}
use Rattle.std.proofs.lemmas.Fmt.{parse-decimal}
use Rattle.wild_program.proofs.words.number_of.Goals as goal
use Rattle.wild_program.proofs.words.number_of.Goals.{then-n-eq0-via-then-n-eq0, then-n-eq0-via-else-n-eq0+then-n-most}

ok_same : {E : Type 0} (m n : ℕ) (r : Result ℕ E) → r ≡ Ok m → r ≡ Ok n → m ≡ n
ok_same m n r h k = let e : Ok m ≡ Ok n = sym h ∙ k in cc

err_or_ok : {E : Type 0} (e : E) (n : ℕ) (r : Result ℕ E) → r ≡ Err e → r ≡ Ok n → ⊥
err_or_ok e n r h k = let same : Err e ≡ Ok n = sym h ∙ k in cc

pub returns-in_default : goal.returns-in_default
returns-in_default c = λ n low high e. err_or_ok _ n c.parse.result c.in_default.is (parse-decimal 32 n c.args.digits.now c.parse.result (omega arith) (omega arith) e c.parse.ensures.value.0)

pub returns-then-n-eq0 : goal.returns-then-n-eq0
returns-then-n-eq0 c = λ n low high e.
    let same : c.in-Ok.n ≡ n = ok_same _ _ c.parse.result c.in-Ok.is (parse-decimal 32 n c.args.digits.now c.parse.result (omega arith) (omega arith) e c.parse.ensures.value.0) in
    elim c.then-n-eq0.branch [ then-n-eq0-via-then-n-eq0 w ↦ omega arith | then-n-eq0-via-else-n-eq0+then-n-most w ↦ omega arith ]

pub returns : goal.returns
returns c = λ n low high e.
    let same : c.in-Ok.n ≡ n = ok_same _ _ c.parse.result c.in-Ok.is (parse-decimal 32 n c.args.digits.now c.parse.result (omega arith) (omega arith) e c.parse.ensures.value.0) in
    let text = c.as_str.ensures.value ∙ c.in_ok-shown.ensures.ok ∙ ap decimal same ∙ sym e in
    let t = (bytes_eq-Decides c.as_str.result.now c.args.digits.now).1 text in
    let f = c.if-eq.false in
    let g = c.eq.ensures in
    cc
