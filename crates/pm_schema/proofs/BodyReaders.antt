-- The readers of what stands between the parentheses of a table read their productions.
use Rattle.std.proofs.Common.{◌≡◌, ◌⊎◌, ◌||◌, ℕ, Bool, true, false, List, [], ◌∷◌, length, Option, Some, None, Ok, refl, inl, inr, arith, is_some}
use Rattle.pm_lexer.specs.declared.token.Token.{Token}
use Rattle.pm_lexer.specs.declared.symbol.Symbol.TheVariants as symbol
use Rattle.pm_lexer.specs.Symbol.{same_symbol, is}
use Rattle.pm_grammar.specs.declared.names.PlacedName.{PlacedName}
use Rattle.pm_grammar.specs.Language.{Is, IsList}
use Rattle.pm_grammar.specs.Reading.{Read, ◌>>=◌, token_at, name_at, named}
use Rattle.pm_grammar.specs.Steps.{list_at}
use Rattle.pm_grammar.proofs.Phrases.{Phrase, Reader, Nothing}
use Rattle.pm_grammar.proofs.Readers.{Then, Or, Same, pure_reader, token_reader, then_reader, then_law, then_began, map_reader, same_reader}
use Rattle.pm_grammar.proofs.Lists.{Further, further_able}
use Rattle.pm_grammar.proofs.Furthers.{list_reader, list_parts, further_law, after_reader, optional_reader}
use Rattle.pm_grammar.proofs.Firsts.{BeginsWith, bars, first_peek, not_both}
use Rattle.pm_grammar.proofs.Helpers.{token_began}
use Rattle.pm_grammar.proofs.Symbols.{sample, sample_is, symbol_reader}
use Rattle.pm_grammar.proofs.Clauses.{Tail, Entries, tail_reader, last_tail, clause_tail, listed_reader}
use Rattle.pm_values.specs.declared.value.Kind.{Kind}
use Rattle.pm_values.specs.declared.value.Kind.TheVariants as kind
use Rattle.pm_values.specs.declared.limits.TheConstants.{MOST_COLUMNS, MOST_KEY_COLUMNS, MOST_REFERENCES}
use Rattle.pm_schema.specs.declared.terminals.Word.{Word}
use Rattle.pm_schema.specs.declared.terminals.Word.TheVariants as word
use Rattle.pm_schema.specs.declared.tree.ColumnText.{ColumnText}
use Rattle.pm_schema.specs.declared.tree.ReferenceText.{ReferenceText}
use Rattle.pm_schema.specs.declared.tree.Body.{Body}
use Rattle.pm_schema.specs.Terminals.{same_word, is_word, is_clause, is_references, is_name, is_scale, scale_of, references_word}
use Rattle.pm_schema.specs.Grammar.{IsName, IsNum, IsKind, IsNullable, IsColumn, IsNames, IsOrder, IsReference, IsSomeReferences, IsReferences, IsClauses, IsBody}
use Rattle.pm_schema.specs.Reading.{num_at, kind_at, nullable_at, column_at, names_at, clause_names_at, reference_at, more_references_at, references_at, clauses_at, body_at}
use Rattle.pm_schema.proofs.Samples.{word_sample, clause_sample, scale_sample, word_is, clause_is, name_is, scale_is, references_is, two_words, clause_not, references_not_order, references_not_key}

pub word_reader : {B : Type 0} (S : Token → Type 0) (w : Word) (Q : Token → Phrase B) (d : ℕ) (q : Token × List Token → Read B) → ((t : Token) → Reader S (Q t) d (λ r. q (t, r))) → Reader S (Then (λ _ _. Is (is_word w)) Q) d (λ ts. token_at (is_word w) ts >>= q)
word_reader S w Q d q second = token_reader S (is_word w) (word_sample w) (word_is w) Q d q second

pub name_reader : (S : Token → Type 0) (d : ℕ) → Reader S (λ _ _. IsName) d (name_at is_name)
unfolding name_at
name_reader S d = token_reader S is_name (sample symbol.Name) name_is _ d _ (λ t. pure_reader S d (named t))

-- kind = INT | TEXT | NUM "(" scale ")"
num_reader : (S : Token → Type 0) (d : ℕ) → Reader S (λ _ _. IsNum) d num_at
unfolding num_at same_symbol
num_reader S d =
    word_reader S word.Num _ d _ (λ _. symbol_reader S symbol.Open refl _ d _ (λ _. token_reader S is_scale scale_sample scale_is _ d _ (λ scale. symbol_reader S symbol.Close refl _ d _ (λ _.
    pure_reader S d (kind.Num (scale_of scale))))))

abbrev Only : Kind → Phrase Kind
Only k _ _ next = next k

abbrev TextOr : Phrase Kind
TextOr = Or (λ _ _. IsNum) (Then (λ _ _. Is (is_word word.Text)) (λ _. Only kind.Text))

abbrev IntOr : Phrase Kind
IntOr = Or TextOr (Then (λ _ _. Is (is_word word.Int)) (λ _. Only kind.Int))

kind_same : Same IntOr (λ _ _. IsKind)
kind_same = record {
  to = λ d g next ts h. elim h [ inl rest ↦ elim rest [ inl num ↦ inr (inr num) | inr text ↦ inr (inl text) ] | inr int ↦ inl int ];
  from = λ d g next ts h. elim h [ inl int ↦ inr int | inr rest ↦ elim rest [ inl text ↦ inl (inr text) | inr num ↦ inl (inl num) ] ];
}

num_begins : BeginsWith (λ _ _. IsNum) (λ t. is_word word.Num t ≡ true)
num_begins d g next [] h = h
num_begins d g next (t ∷ ts) h = h.0

text_or_begins : BeginsWith TextOr (λ t. (is_word word.Num t ≡ true) ⊎ (is_word word.Text t ≡ true))
text_or_begins d g next [] h = elim h [ inl num ↦ num | inr text ↦ text ]
text_or_begins d g next (t ∷ ts) h = elim h [ inl num ↦ inl num.0 | inr text ↦ inr text.0 ]

kind_reader : (S : Token → Type 0) (d : ℕ) → Reader S (λ _ _. IsKind) d kind_at
unfolding kind_at same_word
kind_reader S d =
    let text_or = after_reader S (is_word word.Text) (word_sample word.Text) (word_is word.Text) (Only kind.Text) (λ _ _. IsNum) d (λ r. Ok (kind.Text, r)) num_at (pure_reader S d kind.Text) (num_reader S d)
    (bars S (λ _ _. IsNum) _ (is_word word.Text) num_begins (λ t e f. two_words word.Text word.Num t refl e f)) in
    same_reader S IntOr (λ _ _. IsKind) d _ kind_same
    (after_reader S (is_word word.Int) (word_sample word.Int) (word_is word.Int) (Only kind.Int) TextOr d (λ r. Ok (kind.Int, r)) _ (pure_reader S d kind.Int) text_or
    (bars S TextOr _ (is_word word.Int) text_or_begins (λ t e f. elim f [ inl num ↦ two_words word.Int word.Num t refl e num | inr text ↦ two_words word.Int word.Text t refl e text ])))

-- what may not follow a column
abbrev pub NotNext : Token → Type 0
NotNext t = is symbol.Not t ≡ true

nullable_reader : (d : ℕ) → Reader NotNext (λ _ _. IsNullable) d nullable_at
unfolding nullable_at same_symbol
nullable_reader d =
    optional_reader NotNext (is symbol.Not) (sample symbol.Not) (sample_is symbol.Not refl) (λ _ _ next. Is (is symbol.Null) (λ _. next false)) true d _
    (symbol_reader NotNext symbol.Null refl _ d _ (λ _. pure_reader NotNext d false)) (λ t e. e)

-- column = name kind [ NOT NULL ]
column_after_reader : (name : Token) (d : ℕ)
    → Reader {A = ColumnText} NotNext (λ _ _ next. IsKind (λ kind. IsNullable (λ nullable. next (record { name = named name; kind = kind; nullable = nullable })))) d
    (λ ts. kind_at ts >>= λ kind. nullable_at kind.1 >>= λ nullable. Ok (record { name = named name; kind = kind.0; nullable = nullable.0 }, nullable.1))
column_after_reader name d =
    then_reader NotNext Nothing (λ _ _. IsKind) (λ kind _ _ next. IsNullable (λ nullable. next (record { name = named name; kind = kind; nullable = nullable }))) d kind_at _ (kind_reader Nothing d)
    (λ kind. map_reader NotNext (λ _ _. IsNullable) (λ nullable. record { name = named name; kind = kind; nullable = nullable }) d nullable_at (nullable_reader d))
    (λ a d' g next avoids t ts s h. s)

pub column_reader : (names : Token → Bool) (t₀ : Token) → names t₀ ≡ true → (d : ℕ) → Reader NotNext (λ _ _. IsColumn names) d (column_at names)
unfolding column_at
column_reader names t₀ e₀ d = token_reader NotNext names t₀ e₀ _ d _ (λ name. column_after_reader name d)

-- list = "(" name { "," name } ")"
abbrev CommaNext : Token → Type 0
CommaNext t = is symbol.Comma t ≡ true

name_list_reader : (d : ℕ) → Reader CommaNext (λ _ g. IsList g MOST_KEY_COLUMNS IsName (is symbol.Comma)) d (list_at (is symbol.Comma) (token_at is_name) (name_at is_name) MOST_KEY_COLUMNS)
unfolding same_symbol
name_list_reader d =
    list_reader CommaNext Nothing (λ _ _. IsName) (is symbol.Comma) (sample symbol.Comma) (sample_is symbol.Comma refl) (token_at is_name) MOST_KEY_COLUMNS d (name_at is_name) (name_reader Nothing d)
    (first_peek Nothing is_name (sample symbol.Name) name_is (λ t _ _ next. next (named t)) d (λ t. (pure_reader Nothing d (named t)).able)) (λ t e. e) (λ t s. absurd s) (λ t s. absurd s)

names_reader : (S : Token → Type 0) (d : ℕ) → Reader S (λ _ g. IsNames g) d names_at
unfolding names_at same_symbol
names_reader S d =
    symbol_reader S symbol.Open refl _ d _ (λ _.
    then_reader S CommaNext (λ _ g. IsList g MOST_KEY_COLUMNS IsName (is symbol.Comma)) (λ names _ _ next. Is (is symbol.Close) (λ _. next names)) d _ _ (name_list_reader d)
    (λ names. symbol_reader S symbol.Close refl _ d _ (λ _. pure_reader S d names))
    (λ a d' g next avoids t ts s h. not_both symbol.Comma symbol.Close t refl s h.0))

-- reference = REFERENCES list TO name list
abbrev Reference : (Token → Bool) → Phrase ReferenceText
Reference word _ g = IsReference word g

abbrev AfterWord : Token → Phrase ReferenceText
AfterWord _ _ g next = IsNames g (λ columns. Is (is_word word.To) (λ _. IsName (λ target. IsNames g (λ keys. next (record { columns = columns; target = target; keys = keys })))))

after_word_reader : (S : Token → Type 0) (t : Token) (d : ℕ) → Reader S (AfterWord t) d
    (λ ts. names_at ts >>= λ columns. token_at (is_word word.To) columns.1 >>= λ to. name_at is_name to.1 >>= λ target. names_at target.1 >>= λ keys. Ok (record { columns = columns.0; target = target.0; keys = keys.0 }, keys.1))
after_word_reader S t d =
    then_reader S Nothing (λ _ g. IsNames g) _ d names_at _ (names_reader Nothing d) (λ columns. word_reader S word.To _ d _ (λ _.
    then_reader S Nothing (λ _ _. IsName) _ d (name_at is_name) _ (name_reader Nothing d)
    (λ target. map_reader S (λ _ g. IsNames g) (λ keys. record { columns = columns; target = target; keys = keys }) d names_at (names_reader S d)) (λ a d' g next avoids t ts s h. s)))
    (λ a d' g next avoids t ts s h. s)

pub reference_reader : (S : Token → Type 0) (word : Token → Bool) (t₀ : Token) → word t₀ ≡ true → (d : ℕ) → Reader S (Reference word) d (reference_at word)
unfolding reference_at
reference_reader S word t₀ e₀ d = token_reader S word t₀ e₀ AfterWord d _ (λ t. after_word_reader S t d)

-- what may not follow a body
abbrev pub BodyNext : Token → Type 0
BodyNext t = CommaNext t ⊎ NotNext t

abbrev MoreReferences : ReferenceText → Phrase (List ReferenceText)
MoreReferences first = Further MOST_REFERENCES (λ _ _. Is (is symbol.Comma)) (λ _. Reference is_references) (first ∷ [])

some_references_reader : (after_list : Bool) (d : ℕ) → Reader BodyNext (λ _ g. IsSomeReferences (references_word after_list) g) d (λ ts. reference_at (references_word after_list) ts >>= λ first. more_references_at (first.0 ∷ []) first.1)
unfolding same_symbol
some_references_reader after_list d =
    let first = reference_reader Nothing (references_word after_list) (clause_sample word.References) (references_is after_list) d in
    let parts = list_parts BodyNext Nothing (Reference is_references) (is symbol.Comma) (sample symbol.Comma) (sample_is symbol.Comma refl) (token_at is_references) d (reference_at is_references)
    (reference_reader Nothing is_references (clause_sample word.References) (references_is true) d)
    (first_peek Nothing is_references (clause_sample word.References) (references_is true) AfterWord d (λ t. (after_word_reader Nothing t d).able)) (λ t e. inl e) (λ t s. absurd s) (λ t s. absurd s) in
    record {
      law = λ ts. then_law BodyNext Nothing (Reference (references_word after_list)) MoreReferences d ts (reference_at (references_word after_list) ts) (λ first. more_references_at (first.0 ∷ []) first.1) (first.law ts)
          (λ a r e. further_law MOST_REFERENCES parts (length r) (a ∷ []) r (omega arith)) (λ a. further_able MOST_REFERENCES _ _ (a ∷ []) d) (λ a d' g next avoids t us s h. s);
      able = then_began {Q = MoreReferences} (λ a. further_able MOST_REFERENCES _ _ (a ∷ []) d) first.able;
    }

-- [ "," KEY list ] [ "," ORDER list ] { "," reference }, from the last
abbrev Referred : List ColumnText → Option (List PlacedName) → Option (List PlacedName) → Phrase Body
Referred columns key order _ g next = IsReferences (references_word (is_some key || is_some order)) g (λ references. next (record { columns = columns; key = key; order = order; references = references }))

abbrev Ordered : List ColumnText → Option (List PlacedName) → Phrase Body
Ordered columns key d g next = IsOrder g (λ order. Referred columns key order d g next)

abbrev referred_at : List ColumnText → Option (List PlacedName) → Option (List PlacedName) → List Token → Read Body
referred_at columns key order ts = references_at (references_word (is_some key || is_some order)) ts >>= λ references. Ok (record { columns = columns; key = key; order = order; references = references.0 }, references.1)

abbrev ordered_at : List ColumnText → Option (List PlacedName) → List Token → Read Body
ordered_at columns key ts = clause_names_at (is symbol.Order) ts >>= λ order. referred_at columns key order.0 order.1

references_begin : (word : Token → Bool) → BeginsWith (λ _ g. IsSomeReferences word g) (λ t. word t ≡ true)
references_begin word d g next [] h = h
references_begin word d g next (t ∷ ts) h = h.0

referred_tail : (columns : List ColumnText) (key order : Option (List PlacedName)) (d : ℕ) → Tail BodyNext (is symbol.Comma) (λ t. references_word (is_some key || is_some order) t ≡ true) (Referred columns key order) d (referred_at columns key order)
unfolding references_at
referred_tail columns key order d =
    let after_list = is_some key || is_some order in
    last_tail BodyNext (is symbol.Comma) _ (λ _ g. IsSomeReferences (references_word after_list) g) [] (λ references. record { columns = columns; key = key; order = order; references = references }) d _
    (some_references_reader after_list d) (references_begin (references_word after_list))

body_tail_reader : (F : Token → Type 0) (Q : Phrase Body) (d : ℕ) (q : List Token → Read Body) → Tail BodyNext (is symbol.Comma) F Q d q → Reader BodyNext Q d q
unfolding same_symbol
body_tail_reader F Q d q t = tail_reader BodyNext (is symbol.Comma) (sample symbol.Comma) (sample_is symbol.Comma refl) (λ t e. inl e) F Q d q t

ordered_tail : (columns : List ColumnText) (key : Option (List PlacedName)) (d : ℕ)
    → Tail BodyNext (is symbol.Comma) (λ t. (references_word (is_some key || false) t ≡ true) ⊎ (is symbol.Order t ≡ true)) (Ordered columns key) d (ordered_at columns key)
unfolding same_symbol
ordered_tail columns key d =
    clause_tail BodyNext (is symbol.Comma) (is symbol.Order) (sample symbol.Order) (sample_is symbol.Order refl) _ (λ _ g. IsNames g) (Referred columns key) d names_at (λ order. referred_at columns key order.0 order.1)
    (names_reader Nothing d) (referred_tail columns key None d) (λ order. body_tail_reader _ _ d _ (referred_tail columns key (Some order) d)) (references_not_order (is_some key || false))

-- what begins a clause where a column may stand
abbrev ClauseBegins : Token → Type 0
ClauseBegins t = ((references_word false t ≡ true) ⊎ (is symbol.Order t ≡ true)) ⊎ (is_clause word.Key t ≡ true)

clauses_tail : (columns : List ColumnText) (d : ℕ) → Tail BodyNext (is symbol.Comma) ClauseBegins (λ _ g. IsClauses g columns) d (clauses_at columns)
unfolding clauses_at same_symbol
clauses_tail columns d =
    clause_tail BodyNext (is symbol.Comma) (is_clause word.Key) (clause_sample word.Key) (clause_is word.Key) _ (λ _ g. IsNames g) (Ordered columns) d names_at (λ key. ordered_at columns key.0 key.1)
    (names_reader Nothing d) (ordered_tail columns None d) (λ key. body_tail_reader _ _ d _ (ordered_tail columns (Some key) d))
    (λ t f k. elim f [ inl r ↦ references_not_key t r k | inr o ↦ clause_not word.Key symbol.Order t refl k o ])

-- body = column { "," column } and the clauses
column_begins : BeginsWith (λ _ _. IsColumn (is symbol.Name)) (λ t. is symbol.Name t ≡ true)
column_begins d g next [] h = h
column_begins d g next (t ∷ ts) h = h.0

clause_no_name : (t : Token) → ClauseBegins t → is symbol.Name t ≡ true → ⊥
unfolding same_symbol
clause_no_name t (inl (inl r)) n = clause_not word.References symbol.Name t refl r n
clause_no_name t (inl (inr o)) n = not_both symbol.Order symbol.Name t refl o n
clause_no_name t (inr k) n = clause_not word.Key symbol.Name t refl k n

entries : (d : ℕ) → Entries BodyNext NotNext (is symbol.Comma) (is symbol.Name) ClauseBegins (λ _ _. IsColumn (is symbol.Name)) (λ columns _ g. IsClauses g columns) d (column_at (is symbol.Name)) (λ c. clauses_at c.0 c.1)
unfolding same_symbol
entries d = record {
  reads = column_reader (is symbol.Name) (sample symbol.Name) (sample_is symbol.Name refl) d;
  first = column_begins;
  began = λ t e. token_began (is symbol.Name) t e d (column_after_reader t d).able;
  tails = λ columns. clauses_tail columns d;
  able = λ columns. (body_tail_reader _ _ d _ (clauses_tail columns d)).able;
  apart = clause_no_name;
  ends = λ t e. inl e;
  within = λ t n. inr n;
  unlike = λ t n c. not_both symbol.Not symbol.Comma t refl n c;
}

pub body_reader : (d : ℕ) → Reader BodyNext (λ _ g. IsBody g) d body_at
unfolding body_at
body_reader d =
    listed_reader BodyNext NotNext (is symbol.Comma) (is symbol.Name) ClauseBegins (λ _ _. IsColumn (is symbol.Name)) (λ columns _ g. IsClauses g columns) MOST_COLUMNS d (column_at (is symbol.Name)) (λ c. clauses_at c.0 c.1) (entries d)
    (λ _ _. IsColumn is_name) (column_at is_name) (column_reader is_name (sample symbol.Name) name_is d)
