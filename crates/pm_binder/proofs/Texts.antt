-- What the text of a statement is bound to.
use Rattle.std.proofs.Common.{◌≡◌, ◌∙◌, ℕ, false, List, [], ◌++◌, None, Result, Ok, Err, ap, refl}
use Rattle.pm_lexer.specs.declared.token.Token.{Token}
use Rattle.pm_lexer.specs.declared.fault.LexBad.{LexBad}
use Rattle.pm_lexer.specs.Tokens.{tokens_of}
use Rattle.pm_grammar.specs.Reading.{Stop, whole}
use Rattle.pm_syntax.specs.declared.tree.Items.TheVariants as items
use Rattle.pm_syntax.specs.declared.tree.Select.{Select}
use Rattle.pm_syntax.specs.Reading.{select_at}
use Rattle.pm_syntax.proofs.WholeReading.{answer_of, text_calls}
use Rattle.pm_values.specs.Row.{Row}
use Rattle.pm_plan.specs.Rows.{Db}
use Rattle.pm_query.specs.declared.query.Query.{Query}
use Rattle.pm_names.specs.declared.fault.BindBad.{BindBad}
use Rattle.pm_names.specs.Sources.{from_breaches}
use Rattle.pm_binder.specs.Conjuncts.{conjuncts, join_breaches}
use Rattle.pm_binder.specs.Grouping.{grouping_breaches}
use Rattle.pm_binder.specs.Bound.{text_breaches, resolved, query, bound}
use Rattle.pm_names.specs.Breaches.{outcome}
use Rattle.pm_binder.specs.Worked.{shop_schema, TextBinds, TextAsksFor}
use Rattle.pm_binder.specs.Meaning.{select_rows}

-- the tokens of a text that has tokens
unfoldable pub lexed : List ℕ → List Token
lexed text = of (tokens_of text)
  where
    of : Result (List Token) LexBad → List Token
    of (Ok tokens) = tokens
    of (Err e) = []

pub no_select : Select
no_select = record { distinct = false; items = items.List []; sources = []; filter = None; groups = []; having = None; orders = [] }

-- the statement of a text that is one
unfoldable pub select_of : List ℕ → Select
select_of text = of (whole (select_at 32 (lexed text)))
  where
    of : Result Select Stop → Select
    of (Ok select) = select
    of (Err e) = no_select

pub binds : (text : List ℕ) (answer : Result Query BindBad) → tokens_of text ≡ Ok (lexed text) → answer_of (whole (select_at 32 (lexed text))) ≡ Ok (select_of text)
    → bound (select_of text) shop_schema ≡ answer → TextBinds text answer
binds text answer lexes reads is = (select_of text, text_calls text (lexed text) (Ok (select_of text)) lexes reads, is)

-- the same where each group of rules is kept
pub binds_query : (text : List ℕ) (found : Query) → tokens_of text ≡ Ok (lexed text) → answer_of (whole (select_at 32 (lexed text))) ≡ Ok (select_of text)
    → from_breaches shop_schema (select_of text).sources ≡ []
    → text_breaches shop_schema (select_of text) ≡ []
    → grouping_breaches (resolved shop_schema (select_of text)) ≡ []
    → join_breaches shop_schema (select_of text).sources (conjuncts shop_schema (select_of text).sources (select_of text).filter) ≡ []
    → query shop_schema (select_of text) ≡ found → TextBinds text (Ok found)
binds_query text found lexes reads from names groups joins is = binds text (Ok found) lexes reads (kept from names groups joins (query shop_schema (select_of text)) ∙ ap Ok is)
  where
    kept : {xs ys zs ws : List BindBad} → xs ≡ [] → ys ≡ [] → zs ≡ [] → ws ≡ [] → (q : Query) → outcome (xs ++ ((ys ++ zs) ++ ws)) q ≡ Ok q
    kept a b c d q = rw (a, b, c, d) refl

pub asks_for : (text : List ℕ) (db : Db) (rows : List Row) → tokens_of text ≡ Ok (lexed text) → answer_of (whole (select_at 32 (lexed text))) ≡ Ok (select_of text)
    → select_rows (select_of text) shop_schema db ≡ rows → TextAsksFor text db rows
asks_for text db rows lexes reads is = (select_of text, text_calls text (lexed text) (Ok (select_of text)) lexes reads, is)
