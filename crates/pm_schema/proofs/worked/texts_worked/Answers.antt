use Rattle.std.proofs.Common.{ℕ, List, [], ◌∷◌, Result, Ok, Err, refl, codes}
use Rattle.pm_lexer.specs.declared.token.Token.{Token}
use Rattle.pm_lexer.specs.declared.fault.LexBad.{LexBad}
use Rattle.pm_lexer.specs.Symbol.{symbol_of, same_symbol, reserved_word, canonical_sign}
use Rattle.pm_lexer.specs.Pieces.{quotation, single_quotes}
use Rattle.pm_lexer.specs.Head.{head_of, number_at, named_at, sign_at}
use Rattle.pm_lexer.specs.Head.{name_at as word_at}
use Rattle.pm_lexer.specs.Tokens.{tokens_of, tokens_after}
use Rattle.pm_grammar.specs.Reading.{name_at, clause_at}
use Rattle.pm_grammar.specs.Steps.{list_at, more_at, more_while}
use Rattle.pm_schema.specs.declared.fault.SchemaBad.TheVariants as bad
use Rattle.pm_schema.specs.Terminals.{marked, word_named, same_word}
use Rattle.pm_schema.specs.Rules.{breaches_from}
use Rattle.pm_schema.specs.References.{may_all_refer, all_reference_breaches, all_table_breaches}
use Rattle.pm_schema.specs.Reading.{num_at, kind_at, nullable_at, column_at, names_at, reference_at, references_at, clauses_at, body_at, table_at, schema_at}
use Rattle.pm_schema.specs.Worked.{full_table, referring_table, target_table}
use Rattle.pm_schema.proofs.Called.{text_calls}
use Rattle.pm_schema.proofs.worked.texts_worked.Goals as goal

-- the tokens of a text that has tokens
unfoldable lexed : List ℕ → List Token
lexed text = of (tokens_of text)
  where
    of : Result (List Token) LexBad → List Token
    of (Ok tokens) = tokens
    of (Err e) = []

pub returns-clause-full : goal.returns-clause-full
unfolding tokens_of tokens_after head_of word_at number_at named_at sign_at quotation single_quotes reserved_word canonical_sign symbol_of same_symbol list_at more_at more_while clause_at name_at marked word_named same_word breaches_from may_all_refer all_reference_breaches all_table_breaches num_at kind_at nullable_at column_at names_at reference_at references_at clauses_at body_at table_at schema_at lexed
returns-clause-full c = text_calls (codes "TABLE t FROM 'f' (a INT NOT NULL, b NUM(2) NOT NULL, KEY (b, a), ORDER (b), REFERENCES (a, b) TO t (a, b));") (lexed (codes "TABLE t FROM 'f' (a INT NOT NULL, b NUM(2) NOT NULL, KEY (b, a), ORDER (b), REFERENCES (a, b) TO t (a, b));")) (Ok (full_table ∷ [])) refl refl

pub returns-clause-later : goal.returns-clause-later
unfolding tokens_of tokens_after head_of word_at number_at named_at sign_at quotation single_quotes reserved_word canonical_sign symbol_of same_symbol list_at more_at more_while clause_at name_at marked word_named same_word breaches_from may_all_refer all_reference_breaches all_table_breaches num_at kind_at nullable_at column_at names_at reference_at references_at clauses_at body_at table_at schema_at lexed
returns-clause-later c = text_calls (codes "TABLE s FROM 'f' (references INT NOT NULL, REFERENCES (references) TO t (a)); TABLE t FROM 'f' (a INT NOT NULL, KEY (a));") (lexed (codes "TABLE s FROM 'f' (references INT NOT NULL, REFERENCES (references) TO t (a)); TABLE t FROM 'f' (a INT NOT NULL, KEY (a));")) (Ok (referring_table ∷ target_table ∷ [])) refl refl

pub returns-clause-order_first : goal.returns-clause-order_first
unfolding tokens_of tokens_after head_of word_at number_at named_at sign_at quotation single_quotes reserved_word canonical_sign symbol_of same_symbol list_at more_at more_while clause_at name_at marked word_named same_word breaches_from may_all_refer all_reference_breaches all_table_breaches num_at kind_at nullable_at column_at names_at reference_at references_at clauses_at body_at table_at schema_at lexed
returns-clause-order_first c = text_calls (codes "TABLE t FROM 'f' (a INT, ORDER (a), KEY (a));") (lexed (codes "TABLE t FROM 'f' (a INT, ORDER (a), KEY (a));")) (Err (bad.Expected 36)) refl refl

pub returns-clause-double_and_open : goal.returns-clause-double_and_open
unfolding tokens_of tokens_after head_of word_at number_at named_at sign_at quotation single_quotes reserved_word canonical_sign symbol_of same_symbol list_at more_at more_while clause_at name_at marked word_named same_word breaches_from may_all_refer all_reference_breaches all_table_breaches num_at kind_at nullable_at column_at names_at reference_at references_at clauses_at body_at table_at schema_at lexed
returns-clause-double_and_open c = text_calls (codes "TABLE t FROM 'f' (a INT, a INT)") (lexed (codes "TABLE t FROM 'f' (a INT, a INT)")) (Err (bad.Expected 31)) refl refl

pub returns-clause-no_table : goal.returns-clause-no_table
unfolding tokens_of tokens_after head_of word_at number_at named_at sign_at quotation single_quotes reserved_word canonical_sign symbol_of same_symbol list_at more_at more_while clause_at name_at marked word_named same_word breaches_from may_all_refer all_reference_breaches all_table_breaches num_at kind_at nullable_at column_at names_at reference_at references_at clauses_at body_at table_at schema_at lexed
returns-clause-no_table c = text_calls (codes "TABLE t FROM 't.csv' (a INT NOT NULL, REFERENCES (a) TO u (a));") (lexed (codes "TABLE t FROM 't.csv' (a INT NOT NULL, REFERENCES (a) TO u (a));")) (Err (bad.RefTable 56)) refl refl

pub returns-clause-no_column : goal.returns-clause-no_column
unfolding tokens_of tokens_after head_of word_at number_at named_at sign_at quotation single_quotes reserved_word canonical_sign symbol_of same_symbol list_at more_at more_while clause_at name_at marked word_named same_word breaches_from may_all_refer all_reference_breaches all_table_breaches num_at kind_at nullable_at column_at names_at reference_at references_at clauses_at body_at table_at schema_at lexed
returns-clause-no_column c = text_calls (codes "TABLE t FROM 'f' (a INT NOT NULL, KEY (a), REFERENCES (a) TO t (a, a));") (lexed (codes "TABLE t FROM 'f' (a INT NOT NULL, KEY (a), REFERENCES (a) TO t (a, a));")) (Err (bad.RefColumn 67)) refl refl

pub returns-clause-nullable : goal.returns-clause-nullable
unfolding tokens_of tokens_after head_of word_at number_at named_at sign_at quotation single_quotes reserved_word canonical_sign symbol_of same_symbol list_at more_at more_while clause_at name_at marked word_named same_word breaches_from may_all_refer all_reference_breaches all_table_breaches num_at kind_at nullable_at column_at names_at reference_at references_at clauses_at body_at table_at schema_at lexed
returns-clause-nullable c = text_calls (codes "TABLE t FROM 'f' (a INT NOT NULL, b INT, KEY (a), REFERENCES (b) TO t (a));") (lexed (codes "TABLE t FROM 'f' (a INT NOT NULL, b INT, KEY (a), REFERENCES (b) TO t (a));")) (Err (bad.RefShape 68)) refl refl

pub returns-clause-other_kind : goal.returns-clause-other_kind
unfolding tokens_of tokens_after head_of word_at number_at named_at sign_at quotation single_quotes reserved_word canonical_sign symbol_of same_symbol list_at more_at more_while clause_at name_at marked word_named same_word breaches_from may_all_refer all_reference_breaches all_table_breaches num_at kind_at nullable_at column_at names_at reference_at references_at clauses_at body_at table_at schema_at lexed
returns-clause-other_kind c = text_calls (codes "TABLE t FROM 'f' (a INT NOT NULL, b TEXT NOT NULL, KEY (a), REFERENCES (b) TO t (a));") (lexed (codes "TABLE t FROM 'f' (a INT NOT NULL, b TEXT NOT NULL, KEY (a), REFERENCES (b) TO t (a));")) (Err (bad.RefShape 78)) refl refl

pub returns-clause-no_key : goal.returns-clause-no_key
unfolding tokens_of tokens_after head_of word_at number_at named_at sign_at quotation single_quotes reserved_word canonical_sign symbol_of same_symbol list_at more_at more_while clause_at name_at marked word_named same_word breaches_from may_all_refer all_reference_breaches all_table_breaches num_at kind_at nullable_at column_at names_at reference_at references_at clauses_at body_at table_at schema_at lexed
returns-clause-no_key c = text_calls (codes "TABLE t FROM 'f' (a INT NOT NULL, b INT NOT NULL, KEY (a), REFERENCES (a) TO t (b));") (lexed (codes "TABLE t FROM 'f' (a INT NOT NULL, b INT NOT NULL, KEY (a), REFERENCES (a) TO t (b));")) (Err (bad.RefShape 77)) refl refl
