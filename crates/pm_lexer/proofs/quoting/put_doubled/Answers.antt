use Rattle.std.proofs.Common.{rules, ◌++◌, sym, ◌∙◌, ap, refl, string_bytes}
use Rattle.pm_lexer.proofs.QuoteEnds.{boundary_after_quote}
use Rattle.pm_lexer.proofs.Doubling.{doubled_more, doubled_none}
use Rattle.pm_lexer.proofs.quoting.put_doubled.Goals as goal

pub split_at-requires : goal.split_at-requires
split_at-requires c =
    boundary_after_quote c.args.quote c.pieces.rest.now c.in-Some.at c.requires c.pieces.invariant.is_text (rw c.as_bytes.ensures.value at c.in-Some.ensures)

pub pieces-preserved : goal.pieces-preserved
pieces-preserved c =
    let first = rw c.as_bytes.ensures.value at c.in-Some.ensures in
    let pushed = c.in_ok-push-in-Some.ensures.ascii c.requires in
    record {
      is_text = search rules;
      put = c.pieces.invariant.put ∙ doubled_more c.args.quote _ c.pieces.rest.now c.in-Some.at first
          ∙ rw (c.in_ok-push-in-Some.ensures.bytes, pushed, c.in_ok-push_str-in-Some.ensures.bytes, c.split_at.ensures.front, c.split_at.ensures.back) refl;
    }

pub returns-in-None : goal.returns-in-None
returns-in-None c =
    let none = rw c.as_bytes.ensures.value at c.in-None.ensures in
    c.in_ok-push_str-in-None.ensures.bytes ∙ sym (c.pieces.invariant.put ∙ ap (λ t. string_bytes c.pieces.out ++ t) (doubled_none c.args.quote c.pieces.rest.now none))
