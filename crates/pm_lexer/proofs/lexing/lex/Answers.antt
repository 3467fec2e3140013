use Rattle.std.proofs.Common.{rules, arith, sym, ◌∙◌, ap, refl}
use Rattle.pm_lexer.specs.Tokens.{tokens_of, tokens_after, all_before}
use Rattle.pm_lexer.proofs.Walk.{walk_end, all_before-none}
use Rattle.pm_lexer.proofs.lexing.lex.Goals as goal

pub loop-rest-init : goal.loop-rest-init
unfolding tokens_of
loop-rest-init c = record {
  is_text = search (rules, c.as_str-rest.utf8);
  room = omega arith;
  read = rw (c.new-tokens.ensures, c.as_str-rest.ensures) (sym (all_before-none (tokens_after 0 0 c.args.text.now)));
  short = rw c.new-tokens.ensures (λ k d h. absurd (omega arith));
}

pub returns-clause-tokens : goal.returns-clause-tokens
returns-clause-tokens c =
    c.loop-rest.invariant.read ∙ ap (all_before c.loop-rest.tokens) (walk_end c.loop-rest.at c.loop-rest.rest.now (search rules))
    ∙ rw (c.in_ok-push.ensures.ok, c.in_ok-slice.ensures) refl
