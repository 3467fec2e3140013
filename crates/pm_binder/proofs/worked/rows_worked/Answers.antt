use Rattle.std.proofs.Common.{[], ◌∷◌, refl, codes}
use Rattle.pm_lexer.specs.Symbol.{symbol_of, same_symbol, reserved_word, canonical_sign}
use Rattle.pm_lexer.specs.Pieces.{quotation, single_quotes}
use Rattle.pm_lexer.specs.Head.{head_of, number_at, named_at, sign_at}
use Rattle.pm_lexer.specs.Head.{name_at as word_at}
use Rattle.pm_lexer.specs.Tokens.{tokens_of, tokens_after}
use Rattle.pm_grammar.specs.Reading.{name_at}
use Rattle.pm_grammar.specs.Steps.{list_at, more_at}
use Rattle.pm_syntax.specs.Terminals.{func_named}
use Rattle.pm_syntax.specs.Reading.{column_after, column_at, call_after, expr_after, expr_at, literal_at, term_at, operand_at, literals_at, compare_after, null_after, in_after, between_after, range_after, test_after, test_at, ands_at, cond_at, part_peek, part_at, condition_at, given_at, item_at, items_at, link_at, join_condition_at, on_at, source_at, sources_at, where_at, having_at, groups_at, direction_at, key_at, orders_at, select_at}
use Rattle.pm_canonical.specs.Canon.{canon_expr, canon_column}
use Rattle.pm_canonical.proofs.Folds.{fold_all, fold_compare, fold_null, fold_one_of, fold_between}
use Rattle.pm_values.specs.declared.value.Value.TheVariants.{Text}
use Rattle.pm_plan.specs.Worked.{number, shop}
use Rattle.pm_names.specs.Names.{name_breaches}
use Rattle.pm_binder.specs.Worked.{customers_with_amounts}
use Rattle.pm_binder.proofs.Texts.{lexed, select_of, asks_for}
use Rattle.pm_binder.proofs.worked.rows_worked.Goals as goal

pub returns-clause-joined : goal.returns-clause-joined
unfolding tokens_of tokens_after head_of word_at number_at named_at sign_at quotation single_quotes reserved_word canonical_sign symbol_of same_symbol list_at more_at func_named name_at column_after column_at call_after expr_after expr_at literal_at term_at operand_at literals_at compare_after null_after in_after between_after range_after test_after test_at ands_at cond_at part_peek part_at condition_at given_at item_at items_at link_at join_condition_at on_at source_at sources_at where_at having_at groups_at direction_at key_at orders_at select_at lexed select_of name_breaches canon_expr canon_column
returns-clause-joined c = asks_for (codes "SELECT c.name, o.amt FROM ord o JOIN cust c ON o.cust = c.id WHERE o.amt > 5") shop ((Text (codes "Ann") ∷ number 7 ∷ []) ∷ (Text (codes "Cy") ∷ number 9 ∷ []) ∷ []) refl refl (simp fold_compare)

pub returns-clause-left : goal.returns-clause-left
unfolding tokens_of tokens_after head_of word_at number_at named_at sign_at quotation single_quotes reserved_word canonical_sign symbol_of same_symbol list_at more_at func_named name_at column_after column_at call_after expr_after expr_at literal_at term_at operand_at literals_at compare_after null_after in_after between_after range_after test_after test_at ands_at cond_at part_peek part_at condition_at given_at item_at items_at link_at join_condition_at on_at source_at sources_at where_at having_at groups_at direction_at key_at orders_at select_at lexed select_of name_breaches canon_expr canon_column
returns-clause-left c = asks_for (codes "SELECT c.name, o.amt FROM cust c LEFT JOIN ord o ON o.cust = c.id") shop customers_with_amounts refl refl (simp fold_compare)

pub returns-clause-unmatched : goal.returns-clause-unmatched
unfolding tokens_of tokens_after head_of word_at number_at named_at sign_at quotation single_quotes reserved_word canonical_sign symbol_of same_symbol list_at more_at func_named name_at column_after column_at call_after expr_after expr_at literal_at term_at operand_at literals_at compare_after null_after in_after between_after range_after test_after test_at ands_at cond_at part_peek part_at condition_at given_at item_at items_at link_at join_condition_at on_at source_at sources_at where_at having_at groups_at direction_at key_at orders_at select_at lexed select_of name_breaches canon_expr canon_column
returns-clause-unmatched c = asks_for (codes "SELECT c.name FROM cust c LEFT JOIN ord o ON o.cust = c.id WHERE o.amt IS NULL") shop ((Text (codes "Bob") ∷ []) ∷ []) refl refl (simp (fold_compare, fold_null))

pub returns-clause-grouped : goal.returns-clause-grouped
unfolding tokens_of tokens_after head_of word_at number_at named_at sign_at quotation single_quotes reserved_word canonical_sign symbol_of same_symbol list_at more_at func_named name_at column_after column_at call_after expr_after expr_at literal_at term_at operand_at literals_at compare_after null_after in_after between_after range_after test_after test_at ands_at cond_at part_peek part_at condition_at given_at item_at items_at link_at join_condition_at on_at source_at sources_at where_at having_at groups_at direction_at key_at orders_at select_at lexed select_of name_breaches canon_expr canon_column
returns-clause-grouped c = asks_for (codes "SELECT cust, SUM(amt) AS t FROM ord GROUP BY cust ORDER BY t DESC, cust") shop ((number 1 ∷ number 12 ∷ []) ∷ (number 3 ∷ number 9 ∷ []) ∷ (number 9 ∷ number 1 ∷ []) ∷ []) refl refl refl

pub returns-clause-having : goal.returns-clause-having
unfolding tokens_of tokens_after head_of word_at number_at named_at sign_at quotation single_quotes reserved_word canonical_sign symbol_of same_symbol list_at more_at func_named name_at column_after column_at call_after expr_after expr_at literal_at term_at operand_at literals_at compare_after null_after in_after between_after range_after test_after test_at ands_at cond_at part_peek part_at condition_at given_at item_at items_at link_at join_condition_at on_at source_at sources_at where_at having_at groups_at direction_at key_at orders_at select_at lexed select_of name_breaches canon_expr canon_column
returns-clause-having c = asks_for (codes "SELECT MAX(amt) FROM ord HAVING COUNT(*) > 9") shop [] refl refl (simp fold_compare)

pub returns-clause-counted : goal.returns-clause-counted
unfolding tokens_of tokens_after head_of word_at number_at named_at sign_at quotation single_quotes reserved_word canonical_sign symbol_of same_symbol list_at more_at func_named name_at column_after column_at call_after expr_after expr_at literal_at term_at operand_at literals_at compare_after null_after in_after between_after range_after test_after test_at ands_at cond_at part_peek part_at condition_at given_at item_at items_at link_at join_condition_at on_at source_at sources_at where_at having_at groups_at direction_at key_at orders_at select_at lexed select_of name_breaches canon_expr canon_column
returns-clause-counted c = asks_for (codes "SELECT COUNT(*) FROM ord WHERE amt > 50") shop ((number 0 ∷ []) ∷ []) refl refl (simp fold_compare)

pub returns-clause-different : goal.returns-clause-different
unfolding tokens_of tokens_after head_of word_at number_at named_at sign_at quotation single_quotes reserved_word canonical_sign symbol_of same_symbol list_at more_at func_named name_at column_after column_at call_after expr_after expr_at literal_at term_at operand_at literals_at compare_after null_after in_after between_after range_after test_after test_at ands_at cond_at part_peek part_at condition_at given_at item_at items_at link_at join_condition_at on_at source_at sources_at where_at having_at groups_at direction_at key_at orders_at select_at lexed select_of name_breaches canon_expr canon_column
returns-clause-different c = asks_for (codes "SELECT DISTINCT cust FROM ord ORDER BY cust DESC") shop ((number 9 ∷ []) ∷ (number 3 ∷ []) ∷ (number 1 ∷ []) ∷ []) refl refl refl

pub returns-clause-ranges : goal.returns-clause-ranges
unfolding tokens_of tokens_after head_of word_at number_at named_at sign_at quotation single_quotes reserved_word canonical_sign symbol_of same_symbol list_at more_at func_named name_at column_after column_at call_after expr_after expr_at literal_at term_at operand_at literals_at compare_after null_after in_after between_after range_after test_after test_at ands_at cond_at part_peek part_at condition_at given_at item_at items_at link_at join_condition_at on_at source_at sources_at where_at having_at groups_at direction_at key_at orders_at select_at lexed select_of name_breaches canon_expr canon_column
returns-clause-ranges c = asks_for (codes "SELECT id FROM ord WHERE amt NOT BETWEEN 5 AND 7 AND id NOT IN (12)") shop ((number 13 ∷ []) ∷ []) refl refl (simp (fold_all, fold_between, fold_one_of))
