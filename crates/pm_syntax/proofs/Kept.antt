-- No more tokens follow an entry of a list than there were.
use Rattle.std.proofs.Common.{◌≡◌, ◌<◌, List, [], ◌∷◌, length, Ok}
use Rattle.pm_lexer.specs.declared.token.Token.{Token}
use Rattle.pm_lexer.specs.declared.symbol.Symbol.TheVariants as symbol
use Rattle.pm_grammar.proofs.Sets.{AnyOf}
use Rattle.pm_grammar.proofs.Firsts.{FirstOf}
use Rattle.pm_grammar.proofs.Furthers.{NoEntry}
use Rattle.pm_grammar.proofs.Productions.{begins_of}
use Rattle.pm_grammar.proofs.Decided.{Keeps, Shortened, keeps_of, shorter_of, parts_shorten}
use Rattle.pm_syntax.specs.declared.tree.Link.{Link}
use Rattle.pm_syntax.specs.declared.tree.Source.{Source}
use Rattle.pm_syntax.specs.Reading.{column_at, literal_at, item_at, link_at, source_at, key_at}
use Rattle.pm_syntax.proofs.ExprReaders.{columns, literals}
use Rattle.pm_syntax.proofs.SelectReaders.{Sourced, item_list, keys, links, sources, source_parts}

pub column_keeps : Keeps column_at
column_keeps = keeps_of column_at (columns 0).reads

pub literal_keeps : Keeps literal_at
literal_keeps = keeps_of literal_at (literals {ends = []} 0).reads

pub item_keeps : Keeps item_at
item_keeps = keeps_of item_at (item_list 0).reads

pub key_keeps : Keeps key_at
key_keeps = keeps_of key_at (keys 0).reads

pub link_keeps : Keeps link_at
link_keeps = keeps_of link_at (links {ends = []} 0).reads

-- a source is not empty, nor is what joins one
no_source : (l : Link) → NoEntry (Sourced l) []
no_source l d g next w heads h = let first : FirstOf (AnyOf (symbol.Name ∷ [])) w = begins_of (symbol.Name ∷ []) (sources l 32).leads d g next w h in rw heads at first

pub source_shorter : (l : Link) (ts rest : List Token) (source : Source) → source_at 32 l ts ≡ Ok (source, rest) → length rest < length ts
source_shorter l = shorter_of {P = Sourced l} (source_at 32 l) (sources l 32).reads (no_source l)

pub source_shortens : Shortened link_at (source_at 32)
source_shortens = parts_shorten (source_parts 32)
