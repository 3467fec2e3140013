-- A token of each word and of each clause, and which tokens are not two of them.
use Rattle.std.proofs.Common.{◌≡◌, ◌⊎◌, ℕ, Bool, true, false, List, Option, Some, None, refl, ap, ◌&&◌, ◌||◌, inl, inr, codes, rules}
use denote.Enum.Bare.{same_true}
use Rattle.pm_lexer.specs.declared.token.Token.{Token}
use Rattle.pm_lexer.specs.declared.token.TokenKind.{TokenKind}
use Rattle.pm_lexer.specs.declared.token.TokenKind.TheVariants as kind
use Rattle.pm_lexer.specs.declared.symbol.Symbol.{Symbol}
use Rattle.pm_lexer.specs.declared.symbol.Symbol.TheVariants as symbol
use Rattle.pm_lexer.specs.Symbol.{symbol_of, symbol_at, same_symbol, is, reserved_word}
use Rattle.pm_grammar.proofs.Firsts.{not_both}
use Rattle.pm_grammar.proofs.Symbols.{sample}
use Rattle.pm_schema.specs.contracts.terminals.Word.{the_type}
use Rattle.pm_schema.specs.declared.terminals.Word.{Word}
use Rattle.pm_schema.specs.declared.terminals.Word.TheVariants as word
use Rattle.pm_schema.specs.Terminals.{word_of, word_of_kind, word_named, same_word, is_found, is_word, is_clause, clause_word_of, is_name, is_scale, references_word}

abbrev spelling : Word → List ℕ
spelling word.Table = codes "TABLE"
spelling word.Key = codes "KEY"
spelling word.References = codes "REFERENCES"
spelling word.To = codes "TO"
spelling word.Int = codes "INT"
spelling word.Num = codes "NUM"
spelling word.Text = codes "TEXT"

unfoldable pub word_sample : Word → Token
word_sample w = record { kind = kind.Name; slice = spelling w; at = 0 }

unfoldable pub clause_sample : Word → Token
clause_sample w = record { kind = kind.Reserved; slice = spelling w; at = 0 }

unfoldable pub scale_sample : Token
scale_sample = record { kind = kind.Number; slice = codes "1"; at = 0 }

pub word_is : (w : Word) → is_word w (word_sample w) ≡ true
unfolding word_sample word_named same_word
word_is word.Table = refl
word_is w = refl

pub clause_is : (w : Word) → is_clause w (clause_sample w) ≡ true
unfolding clause_sample word_named same_word symbol_of same_symbol reserved_word
clause_is word.Table = refl
clause_is w = refl

pub name_is : is_name (sample symbol.Name) ≡ true
unfolding sample symbol_of same_symbol
name_is = refl

pub scale_is : is_scale scale_sample ≡ true
unfolding scale_sample
scale_is = refl

pub references_is : (after_list : Bool) → references_word after_list (clause_sample word.References) ≡ true
references_is true = rw (clause_is word.References) refl
references_is false = clause_is word.References

-- no token is two words, nor the word of two clauses
found_is : (w : Word) (o : Option Word) → is_found w o ≡ true → o ≡ Some w
unfolding same_word
found_is w None e = absurd (cc e)
found_is w (Some x) e = ap Some (same_true the_type (search rules) x w e)

not_two : (a b : Word) (o : Option Word) → same_word a b ≡ false → is_found a o ≡ true → is_found b o ≡ true → ⊥
not_two a b o d e f = let one : o ≡ Some a = found_is a o e in let same : same_word a b ≡ true = rw one at f in cc

pub two_words : (a b : Word) (t : Token) → same_word a b ≡ false → is_word a t ≡ true → is_word b t ≡ true → ⊥
two_words a b t d e f = not_two a b (word_of t) d e f

first : (a b : Bool) → (a && b) ≡ true → a ≡ true
first true b e = refl
first false b e = absurd (cc e)

second : (a b : Bool) → (a && b) ≡ true → b ≡ true
second true b e = e
second false b e = absurd (cc e)

either : (a b : Bool) → (a || b) ≡ true → (a ≡ true) ⊎ (b ≡ true)
either true b e = inl refl
either false b e = inr e

pub two_clauses : (a b : Word) (t : Token) → same_word a b ≡ false → is_clause a t ≡ true → is_clause b t ≡ true → ⊥
two_clauses a b t d e f = not_two a b (clause_word_of t) d (second (is symbol.Other t) _ e) (second (is symbol.Other t) _ f)

-- a word is a plain name, and that of a clause no symbol
word_is_name : (w : Word) (t : Token) → is_word w t ≡ true → is symbol.Name t ≡ true
unfolding symbol_of same_symbol
word_is_name w t e = of_kind t.kind e
  where
    of_kind : (k : TokenKind) → is_found w (word_of_kind k t.slice) ≡ true → same_symbol (symbol_at k t.slice) symbol.Name ≡ true
    of_kind kind.Name e = refl
    of_kind kind.Reserved e = absurd (cc e)
    of_kind k e = absurd (cc e)

pub word_not : (w : Word) (s : Symbol) (t : Token) → same_symbol symbol.Name s ≡ false → is_word w t ≡ true → is s t ≡ true → ⊥
word_not w s t d e f = not_both symbol.Name s t d (word_is_name w t e) f

pub clause_not : (w : Word) (s : Symbol) (t : Token) → same_symbol symbol.Other s ≡ false → is_clause w t ≡ true → is s t ≡ true → ⊥
clause_not w s t d e f = not_both symbol.Other s t d (first (is symbol.Other t) _ e) f

-- what stands for the first REFERENCES is not ORDER, no KEY before a parenthesis, and no name where a column may stand
pub references_not_order : (after_list : Bool) (t : Token) → references_word after_list t ≡ true → is symbol.Order t ≡ true → ⊥
unfolding same_symbol
references_not_order false t e o = clause_not word.References symbol.Order t refl e o
references_not_order true t e o = elim (either (is_clause word.References t) (is_word word.References t) e) [ inl c ↦ clause_not word.References symbol.Order t refl c o | inr w ↦ word_not word.References symbol.Order t refl w o ]

pub references_not_key : (t : Token) → references_word false t ≡ true → is_clause word.Key t ≡ true → ⊥
unfolding same_word
references_not_key t e k = two_clauses word.References word.Key t refl e k
