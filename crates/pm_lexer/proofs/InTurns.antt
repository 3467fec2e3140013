-- The tokens of a text and the gaps between them are the text.
use Rattle.std.proofs.Common.{◌≡◌, ◌<◌, ◌≤◌, ◌+◌, ℕ, suc, zero, List, [], ◌∷◌, length, take, drop, Result, Ok, Err, refl, sym, ap, ◌∙◌, arith, IsUtf8, length-take, length-drop}
use Rattle.std.proofs.lemmas.List.{take-append-drop}
use Rattle.std.proofs.lemmas.Str.{IsUtf8-drop}
use Rattle.pm_lexer.specs.declared.token.Token.{Token}
use Rattle.pm_lexer.specs.declared.token.TokenKind.{TokenKind}
use Rattle.pm_lexer.specs.declared.fault.LexBad.{LexBad}
use Rattle.pm_lexer.specs.declared.head.Head.{Head}
use Rattle.pm_lexer.specs.declared.head.Head.TheVariants as head
use Rattle.pm_lexer.specs.Head.{head_of, IsCut, Cuts}
use Rattle.pm_lexer.specs.Tokens.{before, tokens_after, tokens_of}
use Rattle.pm_lexer.specs.Parts.{IsGap, gap, piece, InTurn, AreTokens}
use Rattle.pm_lexer.proofs.Boundary.{head_cuts}
use Rattle.pm_lexer.proofs.Forms.{IsHead, head_is}
use Rattle.pm_lexer.proofs.Walk.{walk_gap, walk_piece, walk_fault}

-- the text after its first n bytes ends where the text does
ends_same : (at n : ℕ) (text : List ℕ) → n ≤ length text → (at + n) + length (drop n text) ≡ at + length text
ends_same at n text within = omega (arith, length-drop n text)

taken : (n : ℕ) (text : List ℕ) → n ≤ length text → length (take n text) ≡ n
taken n text within = omega (arith, length-take n text)

gap_first : (at n : ℕ) (text : List ℕ) (tokens : List Token) → n ≤ length text → IsGap (take n text) (drop n text) → AreTokens (at + n) (drop n text) tokens → AreTokens at text tokens
gap_first at n text tokens within is more =
    let size = taken n text within in
    let turn : InTurn (at + length (take n text)) more.0 (drop n text) = rw size more.1 in
    (gap (take n text) ∷ more.0, (drop n text, sym (take-append-drop n text), is, turn), rw (ends_same at n text within) at more.2)

piece_first : (k : TokenKind) (at n : ℕ) (text : List ℕ) (tokens : List Token) → n ≤ length text → IsHead text (Ok (head.Piece k n)) → AreTokens (at + n) (drop n text) tokens
    → AreTokens at text (record { kind = k; slice = take n text; at = at } ∷ tokens)
piece_first k at n text tokens within is more =
    let size = taken n text within in
    let turn : InTurn (at + length (take n text)) more.0 (drop n text) = rw size more.1 in
    let token : Token = record { kind = k; slice = take n text; at = at } in (
      piece token ∷ more.0,
      (drop n text, sym (take-append-drop n text), refl, record { form = is.0.form; longest = λ other bytes after split form. rw size (is.0.longest other bytes after split form); no_comment = is.1 }, turn),
      ap (λ ts. token ∷ ts) (rw (ends_same at n text within) at more.2),
    )

-- what stands after the head of a text
abbrev After : ℕ → List ℕ → Type 0
After at text = (n : ℕ) (tokens : List Token) → IsCut text n → tokens_after 0 (at + n) (drop n text) ≡ Ok tokens → AreTokens (at + n) (drop n text) tokens

of_piece : (k : TokenKind) (at n : ℕ) (text : List ℕ) (tokens : List Token) (r : Result (List Token) LexBad) → IsCut text n → IsHead text (Ok (head.Piece k n)) → After at text
    → tokens_after 0 (at + n) (drop n text) ≡ r → before (record { kind = k; slice = take n text; at = at }) r ≡ Ok tokens → AreTokens at text tokens
of_piece k at n text tokens (Ok more) cut is after r joined =
    let same : record { kind = k; slice = take n text; at = at } ∷ more ≡ tokens = cc joined in rw (← same) (piece_first k at n text more cut.within is (after n more cut r))
of_piece k at n text tokens (Err bad) cut is after r joined = absurd (cc joined)

by_head : (at : ℕ) (text : List ℕ) (tokens : List Token) (r : Result Head LexBad) → 0 < length text → tokens_after 0 at text ≡ Ok tokens → After at text → head_of at text ≡ r → IsHead text r → Cuts text r
    → AreTokens at text tokens
by_head at text tokens (Ok (head.Gap n)) some e after h is cut = gap_first at n text tokens cut.within is (after n tokens cut (sym (walk_gap n at text cut.some cut.within h) ∙ e))
by_head at text tokens (Ok (head.Piece k n)) some e after h is cut =
    of_piece k at n text tokens (tokens_after 0 (at + n) (drop n text)) cut.0 is after refl (sym (walk_piece k n at text cut.0.some cut.0.within h) ∙ e)
by_head at text tokens (Err bad) some e after h is cut = absurd (let fault = walk_fault at text bad some h in cc)

fills : (m at : ℕ) (text : List ℕ) (tokens : List Token) → length text ≤ m → IsUtf8 text → tokens_after 0 at text ≡ Ok tokens → AreTokens at text tokens
unfolding tokens_after
fills m at [] tokens le u e = let same : at + 0 ≡ at = omega arith in ([], refl, rw same (cc e))
fills zero at (b ∷ rest) tokens le u e = absurd (omega arith)
fills (suc m) at (b ∷ rest) tokens le u e =
    by_head at (b ∷ rest) tokens (head_of at (b ∷ rest)) (omega arith) e
    (λ n more cut is. let some = cut.some in let within = cut.within in fills m (at + n) (drop n (b ∷ rest)) more (omega (arith, length-drop n (b ∷ rest))) (IsUtf8-drop (b ∷ rest) n u cut.boundary) is)
    refl (head_is at (b ∷ rest) (omega arith)) (head_cuts at (b ∷ rest) u (omega arith))

pub tokens_are : (text : List ℕ) (tokens : List Token) → IsUtf8 text → tokens_of text ≡ Ok tokens → AreTokens 0 text tokens
unfolding tokens_of
tokens_are text tokens u e = fills (length text) 0 text tokens (omega arith) u e
