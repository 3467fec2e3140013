-- Canonical text is read back.
use Rattle.std.proofs.Common.{◌≡◌, ℕ, List, Ok, sym, ◌∙◌, ap}
use Rattle.pm_lexer.specs.declared.token.Token.{Token}
use Rattle.pm_lexer.specs.Tokens.{tokens_of}
use Rattle.pm_syntax.specs.declared.tree.Select.{Select}
use Rattle.pm_syntax.specs.Statement.{Reads}
use Rattle.pm_syntax.specs.Same.{SameStatement}
use Rattle.pm_canonical.specs.Canon.{canon}
use Rattle.pm_canonical.specs.ReadBack.{ReadsBack}
use Rattle.pm_canonical.proofs.Forming.{formed_tokens}
use Rattle.pm_canonical.proofs.ValidSelect.{valid_read}
use Rattle.pm_canonical.proofs.SpelledSelect.{canon_lexes}
use Rattle.pm_canonical.proofs.ReadsBack.{reads_back}
use Rattle.pm_canonical.proofs.Placeless.{same_text}

of_reading : (text : List ℕ) (tokens : List Token) (select : Select) → tokens_of text ≡ Ok tokens → Reads tokens select → ReadsBack select
of_reading text tokens select lexed read =
    let valid = valid_read tokens select (formed_tokens text tokens lexed) read in
    let (canonical, is, shaped) = canon_lexes select valid in
    let again = reads_back select valid canonical shaped in
    record { tokens = canonical; lexed = is; again = again.select; read = again.reads; same = again.same; text = sym (same_text select again.select again.same) }

pub read_back : (text : List ℕ) (tokens : List Token) (reading select : Select) → tokens_of text ≡ Ok tokens → Reads tokens reading → SameStatement reading select → ReadsBack select
read_back text tokens reading select lexed read same =
    let back = of_reading text tokens reading lexed read in
    let words : canon reading ≡ canon select = same_text reading select same in
    record { tokens = back.tokens; lexed = ap tokens_of (sym words) ∙ back.lexed; again = back.again; read = back.read; same = sym same ∙ back.same; text = back.text ∙ words }
