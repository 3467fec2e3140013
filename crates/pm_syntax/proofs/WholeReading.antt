-- The tokens of a text call for one answer, and reading gives it.
use Rattle.std.proofs.Common.{◌≡◌, ◌⊎◌, ℕ, List, Result, Ok, Err, IsErrOf, refl, sym, ◌∙◌, ap, inl, inr}
use Rattle.pm_lexer.specs.declared.token.Token.{Token}
use Rattle.pm_lexer.specs.Tokens.{tokens_of}
use Rattle.pm_grammar.specs.Reading.{Stop, expected, too_deep, too_many, whole}
use Rattle.pm_grammar.specs.Answers.{CallsFor as Calls}
use Rattle.pm_grammar.proofs.Phrases.{Law, Nothing}
use Rattle.pm_grammar.proofs.Called.{law_calls}
use Rattle.pm_grammar.proofs.Exclusive.{answers_same}
use Rattle.pm_syntax.specs.declared.tree.Select.{Select}
use Rattle.pm_grammar.specs.declared.fault.SynBad.{SynBad}
use Rattle.pm_grammar.specs.declared.fault.SynBad.TheVariants as bad
use Rattle.pm_syntax.specs.Grammar.{IsSelect}
use Rattle.pm_syntax.specs.Reading.{select_at}
use Rattle.pm_grammar.specs.Outcome.{Gives}
use Rattle.pm_syntax.specs.Statement.{CallsFor}
use Rattle.pm_syntax.specs.Worked.{TextCallsFor}
use Rattle.pm_syntax.proofs.SelectReaders.{select_reader}

select_law : (tokens : List Token) → Law Nothing IsSelect 32 tokens (select_at 32 tokens)
select_law tokens = (select_reader 32).law tokens

whole_calls : (tokens : List Token) → Calls IsSelect 32 tokens (whole (select_at 32 tokens))
whole_calls tokens = law_calls IsSelect 32 tokens (select_at 32 tokens) (select_law tokens)

-- an answer to tokens in the words of this crate
abbrev pub answer_of : Result Select Stop → Result Select SynBad
answer_of (Ok select) = Ok select
answer_of (Err (expected p)) = Err (bad.Expected p)
answer_of (Err (too_deep p)) = Err (bad.TooDeep p)
answer_of (Err (too_many p)) = Err (bad.TooMany p)

answer_called : (tokens : List Token) (read : Result Select Stop) → Calls IsSelect 32 tokens read → CallsFor tokens (answer_of read)
answer_called tokens (Ok select) calls = calls
answer_called tokens (Err (expected p)) calls = calls
answer_called tokens (Err (too_deep p)) calls = calls
answer_called tokens (Err (too_many p)) calls = calls

-- what a text calls for whose tokens are read like this
pub text_calls : (text : List ℕ) (tokens : List Token) (answer : Result Select SynBad) → tokens_of text ≡ Ok tokens → answer_of (whole (select_at 32 tokens)) ≡ answer → TextCallsFor text answer
text_calls text tokens answer lexed read = (tokens, lexed, rw read at (answer_called tokens (whole (select_at 32 tokens)) (whole_calls tokens)))

called_answer : (tokens : List Token) (answer : Result Select SynBad) → CallsFor tokens answer → (read : Result Select Stop) × (answer ≡ answer_of read) × Calls IsSelect 32 tokens read
called_answer tokens (Ok select) calls = (Ok select, refl, calls)
called_answer tokens (Err (bad.Expected p)) calls = (Err (expected p), refl, calls)
called_answer tokens (Err (bad.TooDeep p)) calls = (Err (too_deep p), refl, calls)
called_answer tokens (Err (bad.TooMany p)) calls = (Err (too_many p), refl, calls)
called_answer tokens (Err bad.Memory) calls = absurd calls

-- the tokens call for an answer
pub some_answer : (tokens : List Token) → (answer : Result Select SynBad) × CallsFor tokens answer
some_answer tokens = let read = whole (select_at 32 tokens) in (answer_of read, answer_called tokens read (whole_calls tokens))

-- and for no other
pub one_answer : (tokens : List Token) (a b : Result Select SynBad) → CallsFor tokens a → CallsFor tokens b → a ≡ b
one_answer tokens a b x y =
    let (read, is, calls) = called_answer tokens a x in
    let (read', is', calls') = called_answer tokens b y in
    is ∙ ap answer_of (answers_same IsSelect 32 tokens (select_at 32 tokens) (select_law tokens) read read' calls calls') ∙ sym is'

-- what gives what reading gives is right
given_calls : (tokens : List Token) (result : Result Select SynBad) (read : Result Select Stop) → Gives (λ s. s) result read → Calls IsSelect 32 tokens read → CallsFor tokens result ⊎ IsErrOf result bad.Memory
given_calls tokens (Ok select) read gives calls = inl (rw gives at calls)
given_calls tokens (Err (bad.Expected p)) read gives calls = inl (rw gives at calls)
given_calls tokens (Err (bad.TooDeep p)) read gives calls = inl (rw gives at calls)
given_calls tokens (Err (bad.TooMany p)) read gives calls = inl (rw gives at calls)
given_calls tokens (Err bad.Memory) read gives calls = inr refl

pub parse_answers : (tokens : List Token) (result : Result Select SynBad) → Gives (λ s. s) result (whole (select_at 32 tokens)) → CallsFor tokens result ⊎ IsErrOf result bad.Memory
parse_answers tokens result gives = given_calls tokens result (whole (select_at 32 tokens)) gives (whole_calls tokens)

pub parse_only : (tokens : List Token) (result : Result Select SynBad) → Gives (λ s. s) result (whole (select_at 32 tokens)) → (answer : Result Select SynBad) → CallsFor tokens answer
    → (result ≡ answer) ⊎ IsErrOf result bad.Memory
parse_only tokens result gives answer calls = elim (parse_answers tokens result gives) [ inl called ↦ inl (one_answer tokens result answer called calls) | inr memory ↦ inr memory ]
