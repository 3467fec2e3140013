-- One step of the walk from token to token.
use Rattle.std.proofs.Common.{◌≡◌, ◌<◌, ◌≤◌, ◌+◌, ◌-◌, ℕ, suc, zero, List, [], ◌∷◌, ◌++◌, length, drop, take, Result, Ok, Err, refl, sym, ap, arith, append_assoc}
use Rattle.pm_lexer.specs.declared.token.Token.{Token}
use Rattle.pm_lexer.specs.declared.token.TokenKind.{TokenKind}
use Rattle.pm_lexer.specs.declared.fault.LexBad.{LexBad}
use Rattle.pm_lexer.specs.declared.head.Head.TheVariants as head
use Rattle.pm_lexer.specs.Head.{head_of}
use Rattle.pm_lexer.specs.Tokens.{before, all_before, end_token, tokens_after}

pub all_before-before : (tokens : List Token) (t : Token) (r : Result (List Token) LexBad) → all_before tokens (before t r) ≡ all_before (tokens ++ t ∷ []) r
all_before-before tokens t (Ok more) = ap (λ ts. Ok ts) (sym (append_assoc tokens (t ∷ []) more))
all_before-before tokens t (Err e) = refl

-- what belongs to the token before is passed
pub passed : (n at : ℕ) (text : List ℕ) → n ≤ length text → tokens_after n at text ≡ tokens_after 0 (at + n) (drop n text)
unfolding tokens_after
passed zero at text h = let same : at + 0 ≡ at = omega arith in rw same refl
passed (suc n) at [] h = absurd (omega arith)
passed (suc n) at (b ∷ rest) h = let same : at + suc n ≡ suc at + n = omega arith in rw same (passed n (suc at) rest (omega arith))

pub walk_gap : (n at : ℕ) (text : List ℕ) → 0 < n → n ≤ length text → head_of at text ≡ Ok (head.Gap n) → tokens_after 0 at text ≡ tokens_after 0 (at + n) (drop n text)
unfolding tokens_after
walk_gap n at [] some within e = absurd (omega arith)
walk_gap zero at (b ∷ rest) some within e = absurd (omega arith)
walk_gap (suc n) at (b ∷ rest) some within e =
    let one : suc n - 1 ≡ n = omega arith in
    let same : at + suc n ≡ suc at + n = omega arith in
    rw (e, tokens_after) (rw (one, same) (passed n (suc at) rest (omega arith)))

pub walk_piece : (k : TokenKind) (n at : ℕ) (text : List ℕ) → 0 < n → n ≤ length text → head_of at text ≡ Ok (head.Piece k n)
    → tokens_after 0 at text ≡ before (record { kind = k; slice = take n text; at = at }) (tokens_after 0 (at + n) (drop n text))
unfolding tokens_after
walk_piece k n at [] some within e = absurd (omega arith)
walk_piece k zero at (b ∷ rest) some within e = absurd (omega arith)
walk_piece k (suc n) at (b ∷ rest) some within e =
    let one : suc n - 1 ≡ n = omega arith in
    let same : at + suc n ≡ suc at + n = omega arith in
    rw (e, tokens_after) (rw (one, same) (ap (before _) (passed n (suc at) rest (omega arith))))

pub walk_fault : (at : ℕ) (text : List ℕ) (e : LexBad) → 0 < length text → head_of at text ≡ Err e → tokens_after 0 at text ≡ Err e
unfolding tokens_after
walk_fault at [] e some is = absurd (omega arith)
walk_fault at (b ∷ rest) e some is = rw (is, tokens_after) refl

pub walk_end : (at : ℕ) (text : List ℕ) → length text ≡ 0 → tokens_after 0 at text ≡ Ok (end_token at ∷ [])
unfolding tokens_after
walk_end at [] e = refl
walk_end at (b ∷ rest) e = absurd (omega arith)

pub all_before-none : (r : Result (List Token) LexBad) → all_before [] r ≡ r
all_before-none (Ok more) = refl
all_before-none (Err e) = refl
