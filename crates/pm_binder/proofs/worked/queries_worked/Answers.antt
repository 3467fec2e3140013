use Rattle.std.proofs.Common.{Ok, refl, codes}
use Rattle.pm_lexer.specs.Symbol.{symbol_of, same_symbol, reserved_word, canonical_sign}
use Rattle.pm_lexer.specs.Pieces.{quotation, single_quotes}
use Rattle.pm_lexer.specs.Head.{head_of, number_at, named_at, sign_at}
use Rattle.pm_lexer.specs.Head.{name_at as word_at}
use Rattle.pm_lexer.specs.Tokens.{tokens_of, tokens_after}
use Rattle.pm_grammar.specs.Reading.{name_at}
use Rattle.pm_grammar.specs.Steps.{list_at, more_at}
use Rattle.pm_syntax.specs.Terminals.{func_named}
use Rattle.pm_syntax.specs.Reading.{column_after, column_at, call_after, expr_after, expr_at, literal_at, term_at, operand_at, literals_at, compare_after, null_after, in_after, between_after, range_after, test_after, test_at, ands_at, cond_at, part_peek, part_at, condition_at, given_at, item_at, items_at, link_at, join_condition_at, on_at, source_at, sources_at, where_at, having_at, groups_at, direction_at, key_at, orders_at, select_at}
use Rattle.pm_values.proofs.Folds.{fold_any as cond_any, fold_not as cond_not, fold_compare as cond_compare}
use Rattle.pm_canonical.specs.Canon.{canon_expr, canon_column}
use Rattle.pm_canonical.proofs.Folds.{fold_all, fold_compare, fold_one_of}
use Rattle.pm_plan.specs.Worked.{customer_decl, order_decl}
use Rattle.pm_query.specs.Worked.{large_orders}
use Rattle.pm_names.specs.Names.{name_breaches}
use Rattle.pm_binder.specs.Worked.{joined_twice, left_joined, totals, hidden_column, counted, swapped}
use Rattle.pm_binder.proofs.Texts.{lexed, select_of, binds, binds_query}
use Rattle.pm_binder.proofs.worked.queries_worked.Goals as goal

pub returns-clause-joined : goal.returns-clause-joined
unfolding tokens_of tokens_after head_of word_at number_at named_at sign_at quotation single_quotes reserved_word canonical_sign symbol_of same_symbol list_at more_at func_named name_at column_after column_at call_after expr_after expr_at literal_at term_at operand_at literals_at compare_after null_after in_after between_after range_after test_after test_at ands_at cond_at part_peek part_at condition_at given_at item_at items_at link_at join_condition_at on_at source_at sources_at where_at having_at groups_at direction_at key_at orders_at select_at lexed select_of name_breaches canon_expr canon_column
returns-clause-joined c = binds (codes "SELECT c.name, o.amt FROM ord o JOIN cust c ON o.cust = c.id WHERE o.amt > 5") (Ok (large_orders order_decl customer_decl)) refl refl (simp (fold_compare, cond_compare))

pub returns-clause-twice : goal.returns-clause-twice
unfolding tokens_of tokens_after head_of word_at number_at named_at sign_at quotation single_quotes reserved_word canonical_sign symbol_of same_symbol list_at more_at func_named name_at column_after column_at call_after expr_after expr_at literal_at term_at operand_at literals_at compare_after null_after in_after between_after range_after test_after test_at ands_at cond_at part_peek part_at condition_at given_at item_at items_at link_at join_condition_at on_at source_at sources_at where_at having_at groups_at direction_at key_at orders_at select_at lexed select_of name_breaches canon_expr canon_column
returns-clause-twice c = binds_query (codes "SELECT c.name, o.amt FROM ord o JOIN cust c ON o.cust = c.id AND c.id = o.cust WHERE 1 = 1") joined_twice refl refl refl (simp (fold_all, fold_compare)) refl (simp (fold_all, fold_compare, cond_compare)) (simp (fold_all, fold_compare))

pub returns-clause-left : goal.returns-clause-left
unfolding tokens_of tokens_after head_of word_at number_at named_at sign_at quotation single_quotes reserved_word canonical_sign symbol_of same_symbol list_at more_at func_named name_at column_after column_at call_after expr_after expr_at literal_at term_at operand_at literals_at compare_after null_after in_after between_after range_after test_after test_at ands_at cond_at part_peek part_at condition_at given_at item_at items_at link_at join_condition_at on_at source_at sources_at where_at having_at groups_at direction_at key_at orders_at select_at lexed select_of name_breaches canon_expr canon_column
returns-clause-left c = binds_query (codes "SELECT c.name, o.amt FROM cust c LEFT JOIN ord o ON o.cust = c.id AND (o.amt > 5 AND o.amt NOT IN (7, NULL))") left_joined refl refl refl (simp (fold_all, fold_compare, fold_one_of)) refl (simp (fold_all, fold_compare, fold_one_of, cond_any, cond_not, cond_compare)) (simp (fold_all, fold_compare, fold_one_of))

pub returns-clause-grouped : goal.returns-clause-grouped
unfolding tokens_of tokens_after head_of word_at number_at named_at sign_at quotation single_quotes reserved_word canonical_sign symbol_of same_symbol list_at more_at func_named name_at column_after column_at call_after expr_after expr_at literal_at term_at operand_at literals_at compare_after null_after in_after between_after range_after test_after test_at ands_at cond_at part_peek part_at condition_at given_at item_at items_at link_at join_condition_at on_at source_at sources_at where_at having_at groups_at direction_at key_at orders_at select_at lexed select_of name_breaches canon_expr canon_column
returns-clause-grouped c = binds_query (codes "SELECT cust, SUM(amt) AS total FROM ord GROUP BY cust HAVING COUNT(*) > 1 AND SUM(amt) > 5 ORDER BY total DESC, cust") totals refl refl refl (simp (fold_all, fold_compare)) (simp (fold_all, fold_compare)) refl (simp (fold_all, fold_compare))

pub returns-clause-hidden : goal.returns-clause-hidden
unfolding tokens_of tokens_after head_of word_at number_at named_at sign_at quotation single_quotes reserved_word canonical_sign symbol_of same_symbol list_at more_at func_named name_at column_after column_at call_after expr_after expr_at literal_at term_at operand_at literals_at compare_after null_after in_after between_after range_after test_after test_at ands_at cond_at part_peek part_at condition_at given_at item_at items_at link_at join_condition_at on_at source_at sources_at where_at having_at groups_at direction_at key_at orders_at select_at lexed select_of name_breaches canon_expr canon_column
returns-clause-hidden c = binds (codes "SELECT cust AS amt FROM ord GROUP BY cust ORDER BY SUM(amt)") (Ok hidden_column) refl refl refl

pub returns-clause-having_alone : goal.returns-clause-having_alone
unfolding tokens_of tokens_after head_of word_at number_at named_at sign_at quotation single_quotes reserved_word canonical_sign symbol_of same_symbol list_at more_at func_named name_at column_after column_at call_after expr_after expr_at literal_at term_at operand_at literals_at compare_after null_after in_after between_after range_after test_after test_at ands_at cond_at part_peek part_at condition_at given_at item_at items_at link_at join_condition_at on_at source_at sources_at where_at having_at groups_at direction_at key_at orders_at select_at lexed select_of name_breaches canon_expr canon_column
returns-clause-having_alone c = binds (codes "SELECT COUNT(*) FROM ord HAVING COUNT(*) > 1") (Ok counted) refl refl (simp fold_compare)

pub returns-clause-given_names : goal.returns-clause-given_names
unfolding tokens_of tokens_after head_of word_at number_at named_at sign_at quotation single_quotes reserved_word canonical_sign symbol_of same_symbol list_at more_at func_named name_at column_after column_at call_after expr_after expr_at literal_at term_at operand_at literals_at compare_after null_after in_after between_after range_after test_after test_at ands_at cond_at part_peek part_at condition_at given_at item_at items_at link_at join_condition_at on_at source_at sources_at where_at having_at groups_at direction_at key_at orders_at select_at lexed select_of name_breaches canon_expr canon_column
returns-clause-given_names c = binds (codes "SELECT cust AS amt, amt AS cust FROM ord ORDER BY amt") (Ok swapped) refl refl refl
