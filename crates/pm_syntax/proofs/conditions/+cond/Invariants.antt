use Rattle.std.proofs.Common.{◌≡◌, length, ◌+◌, ◌-◌, ◌*◌}
use Rattle.pm_lexer.specs.declared.symbol.Symbol.TheVariants as symbol
use Rattle.pm_lexer.specs.Symbol.{is}
use Rattle.pm_grammar.specs.Reading.{token_at}
use Rattle.pm_grammar.specs.Steps.{more_at}
use Rattle.pm_syntax.specs.Reading.{ands_at, part_at, part_peek}
use Rattle.pm_syntax.proofs.conditions.+cond.Given as goal

abbrev pub decreases-part : goal.decreases-part
decreases-part l = 7 * l.depth

abbrev pub decreases-and_member : goal.decreases-and_member
decreases-and_member l = 7 * l.depth + 1

abbrev pub decreases-more_parts : goal.decreases-more_parts
decreases-more_parts l = 7 * l.depth + 2

abbrev pub decreases-part_and : goal.decreases-part_and
decreases-part_and l = 7 * l.depth + 3

abbrev pub decreases-or_member : goal.decreases-or_member
decreases-or_member l = 7 * l.depth + 4

abbrev pub decreases-more_ands : goal.decreases-more_ands
decreases-more_ands l = 7 * l.depth + 5

abbrev pub decreases-cond : goal.decreases-cond
decreases-cond l = 7 * l.depth + 6

abbrev pub invariant-more_parts-parts : goal.invariant-more_parts-parts
invariant-more_parts-parts l =
    more_at (is symbol.And) (token_at (is symbol.And)) (part_peek l.depth) (λ _. part_at l.grouped l.depth) 256 (l.end - l.counter) l.members l.rest
    ≡ more_at (is symbol.And) (token_at (is symbol.And)) (part_peek l.depth) (λ _. part_at l.grouped l.depth) 256 (length l.initial.rest) l.initial.members l.initial.rest

abbrev pub invariant-more_ands-ands : goal.invariant-more_ands-ands
invariant-more_ands-ands l =
    more_at (is symbol.Or) (token_at (is symbol.Or)) (part_peek l.depth) (λ _. ands_at (part_peek l.depth) (part_at l.grouped l.depth)) 256 (l.end - l.counter) l.members l.rest
    ≡ more_at (is symbol.Or) (token_at (is symbol.Or)) (part_peek l.depth) (λ _. ands_at (part_peek l.depth) (part_at l.grouped l.depth)) 256 (length l.initial.rest) l.initial.members l.initial.rest
