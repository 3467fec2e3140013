use Rattle.std.proofs.Common.{rules, ◌≡◌, ◌++◌, sym, ◌∙◌, ap, refl, string_bytes}
use Rattle.pm_lexer.specs.Pieces.{single_quotes}
use Rattle.pm_lexer.proofs.QuoteEnds.{boundary_after_quote, singled_more, unquoted}
use Rattle.pm_lexer.proofs.unquote.single_quotes.Goals as goal

pub split_at-requires : goal.split_at-requires
split_at-requires c =
    boundary_after_quote c.args.quote c.pieces.rest.now c.in-Some.at c.requires c.pieces.invariant.is_text (rw c.as_bytes.ensures.value at c.in-Some.ensures)

pub pieces-preserved : goal.pieces-preserved
pieces-preserved c =
    let first = rw c.as_bytes.ensures.value at c.in-Some.ensures in
    record {
      is_text = search (rules, c.after_quote-rest.utf8);
      read = c.pieces.invariant.read ∙ singled_more c.args.quote _ c.pieces.rest.now c.in-Some.at first
          ∙ rw (c.in_ok-push_str-in-Some.ensures.bytes, c.split_at.ensures.front, c.after_quote-rest.ensures, c.split_at.ensures.back) refl;
    }

pub returns-in-None : goal.returns-in-None
returns-in-None c =
    let none = rw c.as_bytes.ensures.value at c.in-None.ensures in
    let whole : c.as_str.result.now ≡ single_quotes c.args.quote c.args.text.now =
    c.as_str.ensures.value ∙ c.in_ok-push_str-in-None.ensures.bytes ∙ sym (c.pieces.invariant.read ∙ ap (λ t. string_bytes c.pieces.single ++ t) (unquoted c.args.quote c.pieces.rest.now none)) in
    rw whole at c.new.ensures
