-- Canonical text is read back.
use Rattle.std.specs.Prelude.{◌≡◌, List, Ok}
use Rattle.pm_lexer.specs.declared.token.Token.{Token}
use Rattle.pm_lexer.specs.Tokens.{tokens_of}
use Rattle.pm_syntax.specs.declared.tree.Select.{Select}
use Rattle.pm_syntax.specs.Statement.{Reads}
use Rattle.pm_canonical.specs.Canon.{canon}
use Rattle.pm_syntax.specs.Same.{SameStatement}

-- The canonical text of a statement has tokens, which are read as the same statement but for its places, and that one's canonical
-- text is the same.
pub record ReadsBack (select : Select) : Type 0 where
  pub tokens : List Token
  pub lexed : tokens_of (canon select) ≡ Ok tokens
  pub again : Select
  pub read : Reads tokens again
  pub same : SameStatement select again
  pub text : canon again ≡ canon select
