use Rattle.std.proofs.Common.{ℕ, List, ◌≡◌, ◌+◌, ◌∷◌, length, ap, arith}
use Rattle.pm_lexer.proofs.Quotation.{single, kept_plain, kept_alone, single_end}
use Rattle.pm_lexer.proofs.head.single_quotes_len.Goals as goal
use Rattle.pm_lexer.proofs.head.single_quotes_len.Goals.{then-text-at+then-at-text+then-text-at-2, else-text-at, else-text-at-via-then-text-at+then-at-text+else-text-at-2, else-text-at-via-then-text-at+else-at-text, else-text-at-via-else-text-at}

-- one more byte is counted
counted_more : (all n b : ℕ) (rest more : List ℕ) → all ≡ n + length rest → rest ≡ b ∷ more → all ≡ n + 1 + length more
counted_more all n b rest more e f = omega (arith, ap length f)

pub loop-at-preserved : goal.loop-at-preserved
loop-at-preserved c =
    let s = c.args.text.now in
    let q = c.args.quote in
    let i = c.loop-at.at in
    let n = c.loop-at.count in
    let k = c.loop-at.invariant.counted in
    elim c.if-text-at.branch [
      | then-text-at+then-at-text+then-text-at-2 w ↦ rw w.at-is (record {
        within = omega arith;
        fewer = omega arith;
        counted = counted_more _ n _ _ _ k (single q s i (omega arith) w.if-text-at.true w.if-text-at-2.true);
      })
      | else-text-at w ↦ rw w.at-is (record {
        within = omega arith;
        fewer = omega arith;
        counted = counted_more _ n _ _ _ k (elim w.else-text-at.branch [
          | else-text-at-via-then-text-at+then-at-text+else-text-at-2 w' ↦ kept_alone q s i (omega arith) w'.if-text-at.true (λ _. w'.if-text-at-2.false)
          | else-text-at-via-then-text-at+else-at-text w' ↦ kept_alone q s i (omega arith) w'.if-text-at.true (λ more. absurd (omega arith))
          | else-text-at-via-else-text-at w' ↦ kept_plain q s i (omega arith) w'.if-text-at.false
        ]);
      })
    ]

pub returns : goal.returns
returns c =
    let none = single_end c.args.quote c.args.text.now c.loop-at.at (omega arith) in
    omega (arith, c.loop-at.invariant.counted, ap length none)
