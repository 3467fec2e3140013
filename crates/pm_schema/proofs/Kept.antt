-- No more tokens follow an entry of a list than there were.
use Rattle.std.proofs.Common.{◌≡◌, ◌<◌, List, [], true, length, Ok, refl, ap, arith}
use Rattle.pm_lexer.specs.declared.token.Token.{Token}
use Rattle.pm_lexer.specs.declared.symbol.Symbol.TheVariants as symbol
use Rattle.pm_lexer.specs.Symbol.{same_symbol, is}
use Rattle.pm_grammar.specs.Reading.{name_at}
use Rattle.pm_grammar.proofs.Phrases.{Nothing}
use Rattle.pm_grammar.proofs.Readers.{not_seen}
use Rattle.pm_grammar.proofs.Symbols.{sample, sample_is}
use Rattle.pm_grammar.proofs.Decided.{Keeps, Shortened, both, keeps_of, shorter_of}
use Rattle.pm_schema.specs.declared.terminals.Word.TheVariants as word
use Rattle.pm_schema.specs.declared.tree.TableText.{TableText}
use Rattle.pm_schema.specs.Terminals.{is_word, is_references, is_name}
use Rattle.pm_schema.specs.Reading.{column_at, reference_at, nothing_at, table_at}
use Rattle.pm_schema.proofs.Samples.{clause_sample, references_is}
use Rattle.pm_schema.proofs.BodyReaders.{name_reader, column_reader, reference_reader}
use Rattle.pm_schema.proofs.TableReaders.{Table, table_reader}

pub name_keeps : Keeps (name_at is_name)
name_keeps = keeps_of (name_at is_name) (name_reader Nothing 0)

pub column_keeps : Keeps (column_at (is symbol.Name))
unfolding same_symbol
column_keeps = keeps_of (column_at (is symbol.Name)) (column_reader (is symbol.Name) (sample symbol.Name) (sample_is symbol.Name refl) 0)

pub reference_keeps : Keeps (reference_at is_references)
reference_keeps = keeps_of (reference_at is_references) (reference_reader Nothing is_references (clause_sample word.References) (references_is true) 0)

-- a table is not empty, and nothing stands between two
pub table_shorter : (ts rest : List Token) (table : TableText) → table_at ts ≡ Ok (table, rest) → length rest < length ts
table_shorter = shorter_of {P = Table} table_at (table_reader 0) (λ d g next w heads h. not_seen (is_word word.Table) [] w _ refl heads h)

pub table_shortens : Shortened nothing_at (λ _. table_at)
table_shortens ts next rest s table e f =
    let same : ts ≡ next = (both e).1 in
    omega (arith, table_shorter next rest table f, ap length same)
