use Rattle.std.proofs.Common.{Err, refl, codes}
use Rattle.pm_lexer.specs.Symbol.{symbol_of, same_symbol, reserved_word, canonical_sign}
use Rattle.pm_lexer.specs.Pieces.{quotation, single_quotes}
use Rattle.pm_lexer.specs.Head.{head_of, number_at, named_at, sign_at}
use Rattle.pm_lexer.specs.Head.{name_at as word_at}
use Rattle.pm_lexer.specs.Tokens.{tokens_of, tokens_after}
use Rattle.pm_grammar.specs.Reading.{name_at}
use Rattle.pm_grammar.specs.Steps.{list_at, more_at}
use Rattle.pm_syntax.specs.Terminals.{func_named}
use Rattle.pm_syntax.specs.Reading.{column_after, column_at, call_after, expr_after, expr_at, literal_at, term_at, operand_at, literals_at, compare_after, null_after, in_after, between_after, range_after, test_after, test_at, ands_at, cond_at, part_peek, part_at, condition_at, given_at, item_at, items_at, link_at, join_condition_at, on_at, source_at, sources_at, where_at, having_at, groups_at, direction_at, key_at, orders_at, select_at}
use Rattle.pm_canonical.specs.Canon.{canon_expr, canon_column}
use Rattle.pm_canonical.proofs.Folds.{fold_compare}
use Rattle.pm_names.specs.declared.fault.BindBad.TheVariants as bad
use Rattle.pm_names.specs.Names.{name_breaches}
use Rattle.pm_binder.proofs.Texts.{lexed, select_of, binds}
use Rattle.pm_binder.proofs.worked.grouping_worked.Goals as goal

pub returns-clause-beside : goal.returns-clause-beside
unfolding tokens_of tokens_after head_of word_at number_at named_at sign_at quotation single_quotes reserved_word canonical_sign symbol_of same_symbol list_at more_at func_named name_at column_after column_at call_after expr_after expr_at literal_at term_at operand_at literals_at compare_after null_after in_after between_after range_after test_after test_at ands_at cond_at part_peek part_at condition_at given_at item_at items_at link_at join_condition_at on_at source_at sources_at where_at having_at groups_at direction_at key_at orders_at select_at lexed select_of name_breaches canon_expr canon_column
returns-clause-beside c = binds (codes "SELECT name, COUNT(*) FROM cust") (Err (bad.NotGrouped 7)) refl refl refl

pub returns-clause-star : goal.returns-clause-star
unfolding tokens_of tokens_after head_of word_at number_at named_at sign_at quotation single_quotes reserved_word canonical_sign symbol_of same_symbol list_at more_at func_named name_at column_after column_at call_after expr_after expr_at literal_at term_at operand_at literals_at compare_after null_after in_after between_after range_after test_after test_at ands_at cond_at part_peek part_at condition_at given_at item_at items_at link_at join_condition_at on_at source_at sources_at where_at having_at groups_at direction_at key_at orders_at select_at lexed select_of name_breaches canon_expr canon_column
returns-clause-star c = binds (codes "SELECT * FROM ord GROUP BY id") (Err (bad.NotGrouped 7)) refl refl refl

pub returns-clause-having : goal.returns-clause-having
unfolding tokens_of tokens_after head_of word_at number_at named_at sign_at quotation single_quotes reserved_word canonical_sign symbol_of same_symbol list_at more_at func_named name_at column_after column_at call_after expr_after expr_at literal_at term_at operand_at literals_at compare_after null_after in_after between_after range_after test_after test_at ands_at cond_at part_peek part_at condition_at given_at item_at items_at link_at join_condition_at on_at source_at sources_at where_at having_at groups_at direction_at key_at orders_at select_at lexed select_of name_breaches canon_expr canon_column
returns-clause-having c = binds (codes "SELECT id FROM ord HAVING COUNT(*) > 1") (Err (bad.NotGrouped 7)) refl refl (simp fold_compare)

pub returns-clause-not_selected : goal.returns-clause-not_selected
unfolding tokens_of tokens_after head_of word_at number_at named_at sign_at quotation single_quotes reserved_word canonical_sign symbol_of same_symbol list_at more_at func_named name_at column_after column_at call_after expr_after expr_at literal_at term_at operand_at literals_at compare_after null_after in_after between_after range_after test_after test_at ands_at cond_at part_peek part_at condition_at given_at item_at items_at link_at join_condition_at on_at source_at sources_at where_at having_at groups_at direction_at key_at orders_at select_at lexed select_of name_breaches canon_expr canon_column
returns-clause-not_selected c = binds (codes "SELECT DISTINCT name FROM cust ORDER BY id") (Err (bad.NotSelected 40)) refl refl refl
