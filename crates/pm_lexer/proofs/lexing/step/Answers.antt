use Rattle.std.proofs.Common.{arith, ◌≡◌, take, sym, ◌∙◌, ap, length-take, refl}
use Rattle.std.proofs.lemmas.Result.{err_from_is_err_and}
use Rattle.std.proofs.lemmas.List.Elements.{All-push}
use Rattle.pm_lexer.specs.Tokens.{all_before, IsShortNumber}
use Rattle.pm_lexer.proofs.Walk.{walk_gap, walk_piece, walk_fault, all_before-before}
use Rattle.pm_lexer.proofs.lexing.step.Goals as goal

pub returns-in_err-len-clause-refused : goal.returns-in_err-len-clause-refused
returns-in_err-len-clause-refused c =
    let p = err_from_is_err_and c.from_residual.result c.from_residual.ensures.1 in
    rw (p.1, p.2) (λ _. walk_fault c.args.at c.args.rest.now _ c.requires.some (sym c.in_err-len.ensures.head))

pub returns-in-Gap-clause-walked : goal.returns-in-Gap-clause-walked
returns-in-Gap-clause-walked c =
    let read = rw c.in-Gap.is at c.in_ok-len.ensures.head in
    let cut = rw c.in-Gap.is at c.in_ok-len.ensures.cuts in
    ap (all_before c.args.tokens.now) (walk_gap c.in-Gap.len c.args.at c.args.rest.now cut.some cut.within (sym read))

pub returns-in_ok-push-in-Piece-clause-walked : goal.returns-in_ok-push-in-Piece-clause-walked
returns-in_ok-push-in-Piece-clause-walked c =
    let read = rw c.in-Piece.is at c.in_ok-len.ensures.head in
    let cut = rw c.in-Piece.is at c.in_ok-len.ensures.cuts in
    let slice : c.in_ok-slice-in-Piece.slice ≡ take c.in-Piece.len c.args.rest.now = c.in_ok-slice-in-Piece.ensures ∙ c.split_at.ensures.front in
    ap (all_before c.args.tokens.now) (walk_piece c.in-Piece.kind c.in-Piece.len c.args.at c.args.rest.now cut.0.some cut.0.within (sym read))
    ∙ all_before-before c.args.tokens.now _ _
    ∙ rw (c.in_ok-push-in-Piece.ensures.ok, slice) refl

pub returns-in_ok-push-in-Piece-clause-short_numbers : goal.returns-in_ok-push-in-Piece-clause-short_numbers
returns-in_ok-push-in-Piece-clause-short_numbers c =
    let cut = rw c.in-Piece.is at c.in_ok-len.ensures.cuts in
    let slice : c.in_ok-slice-in-Piece.slice ≡ take c.in-Piece.len c.args.rest.now = c.in_ok-slice-in-Piece.ensures ∙ c.split_at.ensures.front in
    rw c.in_ok-push-in-Piece.ensures.ok (All-push IsShortNumber c.args.tokens.now _ c.requires.short
    (λ number. let short = cut.1 number in rw slice (omega (arith, length-take c.in-Piece.len c.args.rest.now))))
