use Rattle.std.proofs.Common.{◌≡◌, ◌+◌, ◌<◌, ◌^◌, All, length}
use denote.Text.{Utf8}
use denote.Shadow.{shadow}
use Rattle.pm_lexer.specs.Tokens.{tokens_of, tokens_after, all_before, IsShortNumber}
use Rattle.pm_lexer.proofs.lexing.lex.Given as goal

abbrev pub invariant-loop-rest : goal.invariant-loop-rest
invariant-loop-rest l = record {
  is_text : shadow (Utf8 l.rest);
  room : l.at + length l.rest < 2 ^ 63;
  read : tokens_of l.text ≡ all_before l.tokens (tokens_after 0 l.at l.rest);
  short : All IsShortNumber l.tokens;
}

abbrev pub decreases-loop-rest : goal.decreases-loop-rest
decreases-loop-rest l = length l.rest
