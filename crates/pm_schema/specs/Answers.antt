-- When tokens declare tables, and when they are refused by the grammar.
use Rattle.std.specs.Prelude.{ℕ, List}
use Rattle.pm_lexer.specs.declared.token.Token.{Token}
use Rattle.pm_grammar.specs.Language.{Phrase}
use Rattle.pm_grammar.specs.Answers.{nowhere, IsWhole, ExpectedIn, TooManyIn}
use Rattle.pm_schema.specs.declared.tree.TableText.{TableText}
use Rattle.pm_schema.specs.Terminals.{marked}
use Rattle.pm_schema.specs.Grammar.{IsSchema}

-- the grammar has one depth
abbrev pub SchemaPhrase : Phrase (List TableText)
SchemaPhrase depth gate = IsSchema gate

-- the tokens declare these tables, within all limits
abbrev pub Reads : List Token → List TableText → Type 0
Reads tokens tables = IsWhole SchemaPhrase 0 nowhere (marked tokens) tables

-- p is the place of the first token with which no schema begins, and no limit is exceeded before it
abbrev pub ExpectedAt : List Token → ℕ → Type 0
ExpectedAt tokens p = ExpectedIn SchemaPhrase 0 (marked tokens) p

-- p is the place of the name, or the word TABLE, that begins the first entry past the limit of its list
abbrev pub TooManyAt : List Token → ℕ → Type 0
TooManyAt tokens p = TooManyIn SchemaPhrase 0 (marked tokens) p
