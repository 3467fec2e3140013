-- What the tokens of a text are to the grammar: a statement, or why none.
use Rattle.std.specs.Prelude.{ℕ, List, Result, Ok, Err}
use Rattle.pm_lexer.specs.declared.token.Token.{Token}
use Rattle.pm_grammar.specs.Answers.{nowhere, IsWhole, ExpectedIn, TooDeepIn, TooManyIn}
use Rattle.pm_grammar.specs.declared.fault.SynBad.{SynBad}
use Rattle.pm_grammar.specs.declared.fault.SynBad.TheVariants as bad
use Rattle.pm_syntax.specs.declared.tree.Select.{Select}
use Rattle.pm_syntax.specs.Grammar.{IsSelect}

-- the tokens are a statement with this tree, within the limits
abbrev pub Reads : List Token → Select → Type 0
Reads tokens select = IsWhole IsSelect 32 nowhere tokens select

-- p is the place of the first token with which no statement begins, and no limit is exceeded before it
abbrev pub ExpectedAt : List Token → ℕ → Type 0
ExpectedAt tokens p = ExpectedIn IsSelect 32 tokens p

-- p is the place of the first token with which only a deeper statement begins: the 33rd open parenthesis or NOT
abbrev pub TooDeepAt : List Token → ℕ → Type 0
TooDeepAt tokens p = TooDeepIn IsSelect 32 tokens p

-- p is the place of the token that begins the first entry past the limit of its list
abbrev pub TooManyAt : List Token → ℕ → Type 0
TooManyAt tokens p = TooManyIn IsSelect 32 tokens p

-- the tokens call for this answer
abbrev pub CallsFor : List Token → Result Select SynBad → Type 0
CallsFor tokens (Ok select) = Reads tokens select
CallsFor tokens (Err (bad.Expected p)) = ExpectedAt tokens p
CallsFor tokens (Err (bad.TooDeep p)) = TooDeepAt tokens p
CallsFor tokens (Err (bad.TooMany p)) = TooManyAt tokens p
CallsFor tokens (Err bad.Memory) = ⊥
