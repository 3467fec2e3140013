use Rattle.std.proofs.Common.{ℕ, List, [], Result, Ok, Err, refl, codes}
use Rattle.pm_lexer.specs.declared.token.Token.{Token}
use Rattle.pm_lexer.specs.declared.fault.LexBad.{LexBad}
use Rattle.pm_lexer.specs.Symbol.{symbol_of, same_symbol, reserved_word, canonical_sign}
use Rattle.pm_lexer.specs.Pieces.{quotation, single_quotes}
use Rattle.pm_lexer.specs.Head.{head_of, number_at, named_at, sign_at}
use Rattle.pm_lexer.specs.Head.{name_at as word_at}
use Rattle.pm_lexer.specs.Tokens.{tokens_of, tokens_after}
use Rattle.pm_grammar.specs.Reading.{name_at}
use Rattle.pm_grammar.specs.Steps.{list_at, more_at}
use Rattle.pm_grammar.specs.declared.fault.SynBad.TheVariants as bad
use Rattle.pm_syntax.specs.Terminals.{func_named}
use Rattle.pm_syntax.specs.Reading.{column_after, column_at, call_after, expr_after, expr_at, literal_at, term_at, operand_at, literals_at, compare_after, null_after, in_after, between_after, range_after, test_after, test_at, ands_at, cond_at, part_peek, part_at, condition_at, given_at, item_at, items_at, link_at, join_condition_at, on_at, source_at, sources_at, where_at, having_at, groups_at, direction_at, key_at, orders_at, select_at}
use Rattle.pm_syntax.specs.Worked.{either_test, filtered}
use Rattle.pm_syntax.proofs.WholeReading.{text_calls}
use Rattle.pm_syntax.proofs.worked.texts_worked.Goals as goal

-- the tokens of a text that has tokens
unfoldable lexed : List ℕ → List Token
lexed text = of (tokens_of text)
  where
    of : Result (List Token) LexBad → List Token
    of (Ok tokens) = tokens
    of (Err e) = []

pub returns-clause-either : goal.returns-clause-either
unfolding tokens_of tokens_after head_of word_at number_at named_at sign_at quotation single_quotes reserved_word canonical_sign symbol_of same_symbol list_at more_at func_named name_at column_after column_at call_after expr_after expr_at literal_at term_at operand_at literals_at compare_after null_after in_after between_after range_after test_after test_at ands_at cond_at part_peek part_at condition_at given_at item_at items_at link_at join_condition_at on_at source_at sources_at where_at having_at groups_at direction_at key_at orders_at select_at lexed
returns-clause-either c = text_calls (codes "SELECT a FROM t WHERE a NOT IN (1) OR b = 2 AND c IS NULL") (lexed (codes "SELECT a FROM t WHERE a NOT IN (1) OR b = 2 AND c IS NULL")) (Ok (filtered either_test)) refl refl

pub returns-clause-third_name : goal.returns-clause-third_name
unfolding tokens_of tokens_after head_of word_at number_at named_at sign_at quotation single_quotes reserved_word canonical_sign symbol_of same_symbol list_at more_at func_named name_at column_after column_at call_after expr_after expr_at literal_at term_at operand_at literals_at compare_after null_after in_after between_after range_after test_after test_at ands_at cond_at part_peek part_at condition_at given_at item_at items_at link_at join_condition_at on_at source_at sources_at where_at having_at groups_at direction_at key_at orders_at select_at lexed
returns-clause-third_name c = text_calls (codes "SELECT a FROM t x y") (lexed (codes "SELECT a FROM t x y")) (Err (bad.Expected 18)) refl refl

pub returns-clause-aggregate : goal.returns-clause-aggregate
unfolding tokens_of tokens_after head_of word_at number_at named_at sign_at quotation single_quotes reserved_word canonical_sign symbol_of same_symbol list_at more_at func_named name_at column_after column_at call_after expr_after expr_at literal_at term_at operand_at literals_at compare_after null_after in_after between_after range_after test_after test_at ands_at cond_at part_peek part_at condition_at given_at item_at items_at link_at join_condition_at on_at source_at sources_at where_at having_at groups_at direction_at key_at orders_at select_at lexed
returns-clause-aggregate c = text_calls (codes "SELECT a FROM t WHERE MAX(a) = 1") (lexed (codes "SELECT a FROM t WHERE MAX(a) = 1")) (Err (bad.Expected 25)) refl refl
