-- A text has tokens or is refused at a place: it calls for no want of memory.
use Rattle.std.proofs.Common.{◌+◌, ◌-◌, ◌==◌, ◌&&◌, ◌||◌, ℕ, zero, suc, Bool, true, false, List, [], ◌∷◌, length, take, Option, Some, None, Result, Ok, Err, if◌then◌else◌, codes, is_some, nat_lt, nat_le, nat_eq, position}
use Rattle.std.specs.List.{prefix_len, starts_with}
use Rattle.std.specs.Char.{is_ascii_control, is_ascii_digit}
use Rattle.pm_lexer.specs.declared.token.Token.{Token}
use Rattle.pm_lexer.specs.declared.token.TokenKind.TheVariants as kind
use Rattle.pm_lexer.specs.declared.fault.LexBad.{LexBad}
use Rattle.pm_lexer.specs.declared.fault.LexBad.TheVariants as bad
use Rattle.pm_lexer.specs.declared.head.Head.{Head}
use Rattle.pm_lexer.specs.declared.head.Head.TheVariants as head
use Rattle.pm_lexer.specs.declared.head.TheConstants.{NAME_BYTES, DIGITS, DECIMALS}
use Rattle.pm_lexer.specs.Byte.{is_blank, is_letter, is_word, is_inline}
use Rattle.pm_lexer.specs.Pieces.{whole_len, decimals_len, number_len, quotation, single_quotes}
use Rattle.pm_lexer.specs.Symbol.{reserved_word, sign_of}
use Rattle.pm_lexer.specs.Head.{head_of, name_at, number_at, named_at, sign_at, plain_at, closed_name_at, closed_text_at, quoted_at, text_at}
use Rattle.pm_lexer.specs.Tokens.{before, tokens_after, tokens_of}

-- what is refused is refused at a place
abbrev pub HasPlace : {A : Type 0} → Result A LexBad → Type 0
HasPlace (Ok x) = Unit {0}
HasPlace (Err (bad.BadChar p)) = Unit {0}
HasPlace (Err (bad.OpenText p)) = Unit {0}
HasPlace (Err (bad.LongNumber p)) = Unit {0}
HasPlace (Err (bad.LongName p)) = Unit {0}
HasPlace (Err bad.Memory) = ⊥

either : (b : Bool) (x y : Result Head LexBad) → HasPlace x → HasPlace y → HasPlace (if b then x else y)
either true x y h k = h
either false x y h k = k

name_placed : (at : ℕ) (text : List ℕ) → HasPlace (name_at at text)
unfolding name_at
name_placed at text =
    let n = prefix_len is_word text in
    either (nat_lt NAME_BYTES n) (Err (bad.LongName at)) (Ok (head.Piece (if is_some (reserved_word (take n text)) then kind.Reserved else kind.Name) n)) tt tt

number_placed : (at : ℕ) (text : List ℕ) → HasPlace (number_at at text)
unfolding number_at
number_placed at text =
    either (nat_lt DIGITS (whole_len text + decimals_len text) || nat_lt DECIMALS (decimals_len text)) (Err (bad.LongNumber at)) (Ok (head.Piece kind.Number (number_len text))) tt tt

sign_placed : (at : ℕ) (text : List ℕ) → HasPlace (sign_at at text)
unfolding sign_at
sign_placed at text =
    let one = is_some (sign_of (take 1 text)) in
    either (nat_le 2 (length text) && is_some (sign_of (take 2 text))) (Ok (head.Piece kind.Sign 2)) (if one then Ok (head.Piece kind.Sign 1) else Err (bad.BadChar at)) tt
    (either one (Ok (head.Piece kind.Sign 1)) (Err (bad.BadChar at)) tt tt)

plain_placed : (at n : ℕ) (control : Option ℕ) → HasPlace (plain_at at n control)
plain_placed at n None = tt
plain_placed at n (Some i) = tt

named_placed : (at : ℕ) (name : List ℕ) → HasPlace (named_at at name)
unfolding named_at
named_placed at name =
    let long = nat_lt NAME_BYTES (length (single_quotes 34 name)) in
    let plain = plain_at at (length name) (position is_ascii_control name) in
    either (length name == 0) (Err (bad.BadChar at)) (if long then Err (bad.LongName at) else plain) tt
    (either long (Err (bad.LongName at)) plain tt (plain_placed at (length name) (position is_ascii_control name)))

closed_name_placed : (at : ℕ) (rest : List ℕ) (end : Option ℕ) → HasPlace (closed_name_at at rest end)
closed_name_placed at rest None = tt
closed_name_placed at rest (Some n) = named_placed at (take n rest)

closed_text_placed : (at : ℕ) (end : Option ℕ) → HasPlace (closed_text_at at end)
closed_text_placed at None = tt
closed_text_placed at (Some n) = tt

head_placed : (at : ℕ) (text : List ℕ) → HasPlace (head_of at text)
unfolding head_of
head_placed at [] = tt
head_placed at (b ∷ rest) =
    let text : List ℕ = b ∷ rest in
    let comment : Result Head LexBad = Ok (head.Gap (prefix_len is_inline text)) in
    let fifth : Result Head LexBad = if b == 39 then text_at at rest else sign_at at text in
    let fourth : Result Head LexBad = if b == 34 then quoted_at at rest else fifth in
    let third : Result Head LexBad = if is_ascii_digit b then number_at at text else fourth in
    let second : Result Head LexBad = if is_letter b then name_at at text else third in
    let first : Result Head LexBad = if starts_with nat_eq text (codes "--") then comment else second in
    either (is_blank b) (Ok (head.Gap 1)) first tt
    (either (starts_with nat_eq text (codes "--")) comment second tt
    (either (is_letter b) (name_at at text) third (name_placed at text)
    (either (is_ascii_digit b) (number_at at text) fourth (number_placed at text)
    (either (b == 34) (quoted_at at rest) fifth (closed_name_placed at rest (quotation 34 rest))
    (either (b == 39) (text_at at rest) (sign_at at text) (closed_text_placed at (quotation 39 rest)) (sign_placed at text))))))

before_placed : (token : Token) (tokens : Result (List Token) LexBad) → HasPlace tokens → HasPlace (before token tokens)
before_placed token (Ok tokens) h = tt
before_placed token (Err e) h = h

after_head : (at b : ℕ) (rest : List ℕ) (found : Result Head LexBad) → HasPlace found → ((n : ℕ) → HasPlace (tokens_after n (suc at) rest))
    → HasPlace (elim found [
      | Ok (head.Gap n) ↦ tokens_after (n - 1) (suc at) rest
      | Ok (head.Piece k n) ↦ before (record { kind = k; slice = take n (b ∷ rest); at = at }) (tokens_after (n - 1) (suc at) rest)
      | Err e ↦ Err e
    ])
after_head at b rest (Ok (head.Gap n)) h further = further (n - 1)
after_head at b rest (Ok (head.Piece k n)) h further = before_placed _ (tokens_after (n - 1) (suc at) rest) (further (n - 1))
after_head at b rest (Err e) h further = h

after_placed : (n at : ℕ) (text : List ℕ) → HasPlace (tokens_after n at text)
unfolding tokens_after
after_placed zero at [] = tt
after_placed (suc n) at [] = tt
after_placed (suc n) at (b ∷ rest) = after_placed n (suc at) rest
after_placed zero at (b ∷ rest) = after_head at b rest (head_of at (b ∷ rest)) (head_placed at (b ∷ rest)) (λ n. after_placed n (suc at) rest)

pub tokens_placed : (text : List ℕ) → HasPlace (tokens_of text)
unfolding tokens_of
tokens_placed text = after_placed 0 0 text
