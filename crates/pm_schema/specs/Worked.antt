-- Schema texts and what they call for.
use Rattle.std.specs.Prelude.{◌≡◌, ℕ, false, List, [], ◌∷◌, Some, None, Result, Ok, codes}
use Rattle.pm_lexer.specs.declared.token.Token.{Token}
use Rattle.pm_lexer.specs.Tokens.{tokens_of}
use Rattle.pm_values.specs.declared.value.Kind.TheVariants as kind
use Rattle.pm_values.specs.Table.{Declaration}
use Rattle.pm_schema.specs.declared.fault.SchemaBad.{SchemaBad}
use Rattle.pm_schema.specs.Meaning.{CallsFor}

-- the tokens of the text call for this answer
abbrev pub TextCallsFor : List ℕ → Result (List Declaration) SchemaBad → Type 0
TextCallsFor text answer = (tokens : List Token) × (tokens_of text ≡ Ok tokens) × CallsFor tokens answer

-- a table with a key, an order and a reference to itself
abbrev pub full_table : Declaration
full_table = record {
  name = codes "t";
  file = codes "f";
  columns = record { name = codes "a"; kind = kind.Int; nullable = false } ∷ record { name = codes "b"; kind = kind.Num 2; nullable = false } ∷ [];
  key = Some (1 ∷ 0 ∷ []);
  order = Some (1 ∷ []);
  references = record { columns = 0 ∷ 1 ∷ []; target = codes "t"; keys = 0 ∷ 1 ∷ [] } ∷ [];
}

-- a table that refers to the next one
abbrev pub referring_table : Declaration
referring_table = record {
  name = codes "s";
  file = codes "f";
  columns = record { name = codes "references"; kind = kind.Int; nullable = false } ∷ [];
  key = None;
  order = None;
  references = record { columns = 0 ∷ []; target = codes "t"; keys = 0 ∷ [] } ∷ [];
}

abbrev pub target_table : Declaration
target_table = record {
  name = codes "t";
  file = codes "f";
  columns = record { name = codes "a"; kind = kind.Int; nullable = false } ∷ [];
  key = Some (0 ∷ []);
  order = None;
  references = [];
}
