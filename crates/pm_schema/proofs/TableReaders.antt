-- The readers of a table and of a schema read their productions.
use Rattle.std.proofs.Common.{◌≡◌, ℕ, true, List, [], ◌∷◌, length, Ok, refl, inl, inr, arith}
use Rattle.pm_lexer.specs.declared.token.Token.{Token}
use Rattle.pm_lexer.specs.declared.symbol.Symbol.TheVariants as symbol
use Rattle.pm_lexer.specs.Symbol.{same_symbol, is}
use Rattle.pm_lexer.specs.Pieces.{content_of}
use Rattle.pm_grammar.specs.Language.{Is}
use Rattle.pm_grammar.specs.Reading.{◌>>=◌, token_at, name_at}
use Rattle.pm_grammar.proofs.Phrases.{Phrase, Law, Reader, Able, Nothing}
use Rattle.pm_grammar.proofs.Readers.{Then, pure_reader, then_reader, then_law, then_began, not_seen}
use Rattle.pm_grammar.proofs.Lists.{Further, further_able}
use Rattle.pm_grammar.proofs.Repeats.{Empty, repeat_law}
use Rattle.pm_grammar.proofs.Firsts.{first_peek, not_both}
use Rattle.pm_grammar.proofs.Symbols.{symbol_reader}
use Rattle.pm_schema.specs.declared.terminals.Word.TheVariants as word
use Rattle.pm_schema.specs.declared.tree.TableText.{TableText}
use Rattle.pm_schema.specs.declared.tables.TheConstants.{MOST_TABLES}
use Rattle.pm_schema.specs.Terminals.{is_word, is_name}
use Rattle.pm_schema.specs.Grammar.{IsName, IsBody, IsTable, IsSchema}
use Rattle.pm_schema.specs.Reading.{body_at, table_at, more_tables_at, schema_at}
use Rattle.pm_schema.proofs.Samples.{word_sample, word_is, word_not}
use Rattle.pm_schema.proofs.BodyReaders.{BodyNext, word_reader, name_reader, body_reader}

-- after the word TABLE
abbrev AfterTable : Token → Phrase TableText
AfterTable _ _ g next = IsName (λ name. Is (is symbol.From) (λ _. Is (is symbol.Text) (λ file. Is (is symbol.Open) (λ _. IsBody g (λ body. Is (is symbol.Close) (λ _. Is (is symbol.Semicolon) (λ _.
    next (record { name = name; file = content_of file; body = body }))))))))

no_body_next : (t : Token) → BodyNext t → is symbol.Close t ≡ true → ⊥
unfolding same_symbol
no_body_next t (inl comma) c = not_both symbol.Comma symbol.Close t refl comma c
no_body_next t (inr negation) c = not_both symbol.Not symbol.Close t refl negation c

after_table_reader : (t : Token) (d : ℕ)
    → Reader Nothing (AfterTable t) d
    (λ ts. name_at is_name ts >>= λ name. token_at (is symbol.From) name.1 >>= λ from. token_at (is symbol.Text) from.1 >>= λ file. token_at (is symbol.Open) file.1 >>= λ paren. body_at paren.1 >>= λ body.
    token_at (is symbol.Close) body.1 >>= λ close. token_at (is symbol.Semicolon) close.1 >>= λ semicolon. Ok (record { name = name.0; file = content_of file.0; body = body.0 }, semicolon.1))
unfolding same_symbol
after_table_reader t d =
    then_reader Nothing Nothing (λ _ _. IsName) _ d (name_at is_name) _ (name_reader Nothing d) (λ name.
    symbol_reader Nothing symbol.From refl _ d _ (λ _. symbol_reader Nothing symbol.Text refl _ d _ (λ file. symbol_reader Nothing symbol.Open refl _ d _ (λ _.
    then_reader Nothing BodyNext (λ _ g. IsBody g) (λ body _ _ next. Is (is symbol.Close) (λ _. Is (is symbol.Semicolon) (λ _. next (record { name = name; file = content_of file; body = body })))) d body_at _ (body_reader d)
    (λ body. symbol_reader Nothing symbol.Close refl _ d _ (λ _. symbol_reader Nothing symbol.Semicolon refl _ d _ (λ _. pure_reader Nothing d (record { name = name; file = content_of file; body = body }))))
    (λ a d' g next avoids t ts s h. no_body_next t s h.0)))))
    (λ a d' g next avoids u ts s h. s)

abbrev pub Table : Phrase TableText
Table _ g = IsTable g

pub table_reader : (d : ℕ) → Reader Nothing Table d table_at
unfolding table_at
table_reader d = word_reader Nothing word.Table AfterTable d _ (λ t. after_table_reader t d)

-- further tables, and then the end
abbrev TableNext : Token → Type 0
TableNext t = is_word word.Table t ≡ true

abbrev Tables : TableText → Phrase (List TableText)
Tables first = Further MOST_TABLES Empty (λ _. Table) (first ∷ [])

abbrev Ended : List TableText → Phrase (List TableText)
Ended tables _ _ next = Is (is symbol.End) (λ _. next tables)

ended_reader : (tables : List TableText) (d : ℕ) → Reader Nothing (Ended tables) d (λ ts. token_at (is symbol.End) ts >>= λ end. Ok (tables, end.1))
unfolding same_symbol
ended_reader tables d = symbol_reader Nothing symbol.End refl _ d _ (λ _. pure_reader Nothing d tables)

tables_law : (d : ℕ) (first : TableText) (ts : List Token) → Law TableNext (Tables first) d ts (more_tables_at (length ts) (first ∷ []) ts)
tables_law d first ts =
    repeat_law TableNext Table (is_word word.Table) (token_at (is_word word.Table)) MOST_TABLES d table_at (table_reader d)
    (first_peek Nothing (is_word word.Table) (word_sample word.Table) (word_is word.Table) AfterTable d (λ t. (after_table_reader t d).able))
    (λ us e d' g next w heads h. not_seen (is_word word.Table) us w _ e heads h) (λ t e. e) (length ts) (first ∷ []) ts (omega arith)

abbrev Rest : TableText → Phrase (List TableText)
Rest first = Then (Tables first) Ended

rest_able : (first : TableText) (d : ℕ) → Able (Rest first) d
rest_able first d = then_began {Q = Ended} (λ tables. (ended_reader tables d).able) (further_able MOST_TABLES Empty (λ _. Table) (first ∷ []) d)

rest_law : (d : ℕ) (first : TableText) (ts : List Token) → Law Nothing (Rest first) d ts (more_tables_at (length ts) (first ∷ []) ts >>= λ tables. token_at (is symbol.End) tables.1 >>= λ end. Ok (tables.0, end.1))
unfolding same_symbol
rest_law d first ts =
    then_law Nothing TableNext (Tables first) Ended d ts (more_tables_at (length ts) (first ∷ []) ts) _ (tables_law d first ts) (λ tables r e. (ended_reader tables d).law r) (λ tables. (ended_reader tables d).able)
    (λ a d' g next avoids t us s h. word_not word.Table symbol.End t refl s h.0)

-- schema = table { table } end
pub schema_law : (d : ℕ) (ts : List Token) → Law Nothing (λ _ g. IsSchema g) d ts (schema_at ts)
unfolding schema_at
schema_law d ts = then_law Nothing Nothing Table Rest d ts (table_at ts) _ ((table_reader d).law ts) (λ first r e. rest_law d first r) (λ first. rest_able first d) (λ a d' g next avoids t us s h. s)
