-- What pieces of canonical text are lexed as.
use Rattle.std.proofs.Common.{◌≡◌, ◌<◌, ◌+◌, ℕ, Bool, true, List, [], ◌∷◌, ◌++◌, length, map, Ok, ◌==◌, ◌||◌, refl, ◌∙◌, ap, arith, length-append}
use Rattle.std.proofs.lemmas.List.{append_assoc}
use Rattle.std.proofs.Math.Seq.{take-append_seam, drop-append_seam}
use Rattle.pm_lexer.specs.declared.token.Token.{Token}
use Rattle.pm_lexer.specs.declared.token.TokenKind.{TokenKind}
use Rattle.pm_lexer.specs.declared.head.Head.TheVariants as head
use Rattle.pm_lexer.specs.Head.{head_of}
use Rattle.pm_lexer.specs.Tokens.{end_token, tokens_after}
use Rattle.pm_lexer.proofs.Walk.{walk_gap, walk_piece, walk_end}
use Rattle.pm_canonical.proofs.Shapes.{Shape, shape_of, end_shape}
use Rattle.pm_canonical.proofs.Runs.{Follows, follows_append, follows_weaker}

-- at each place this text has tokens of these shapes
abbrev pub Lexes : List ℕ → List Shape → Type 0
Lexes text shapes = (at : ℕ) → (tokens : List Token) × (tokens_after 0 at text ≡ Ok tokens) × (map shape_of tokens ≡ shapes)

pub lexes_end : Lexes [] (end_shape ∷ [])
lexes_end at = (end_token at ∷ [], walk_end at [] refl, refl)

-- this token stands at the head of the text
abbrev pub Opens : TokenKind → List ℕ → List ℕ → Type 0
Opens k slice rest = (at : ℕ) → head_of at (slice ++ rest) ≡ Ok (head.Piece k (length slice))

pub lexes_piece : (k : TokenKind) (slice rest : List ℕ) (shapes : List Shape) → 0 < length slice → Opens k slice rest → Lexes rest shapes → Lexes (slice ++ rest) (record { kind = k; slice = slice } ∷ shapes)
lexes_piece k slice rest shapes some opens lexes at =
    let (tokens, is, shaped) = lexes (at + length slice) in (
      record { kind = k; slice = slice; at = at } ∷ tokens,
      walk_piece k (length slice) at (slice ++ rest) some (omega (arith, length-append slice rest)) (opens at) ∙ rw (take-append_seam slice rest, drop-append_seam slice rest, is) refl,
      ap (λ t. record { kind = k; slice = slice } ∷ t) shaped,
    )

gap_head : (at : ℕ) (rest : List ℕ) → head_of at (32 ∷ rest) ≡ Ok (head.Gap 1)
unfolding head_of
gap_head at rest = refl

pub lexes_gap : (rest : List ℕ) (shapes : List Shape) → Lexes rest shapes → Lexes (32 ∷ rest) shapes
lexes_gap rest shapes lexes at =
    let (tokens, is, shaped) = lexes (at + 1) in
    (tokens, walk_gap 1 at (32 ∷ rest) (omega arith) (omega arith) (gap_head at rest) ∙ is, shaped)

-- a part of a text, before any text that begins with such a byte or has ended
pub record Spells (follow : ℕ → Bool) (text : List ℕ) (shapes : List Shape) : Type 0 where
  pub lexes : (rest : List ℕ) (more : List Shape) → Follows follow rest → Lexes rest more → Lexes (text ++ rest) (shapes ++ more)

-- any byte; a byte that ends a word; one that ends any token of canonical text
abbrev pub any : ℕ → Bool
any b = true

abbrev pub ends : ℕ → Bool
ends b = b == 32 || b == 44 || b == 41

abbrev pub stops : ℕ → Bool
stops b = b == 32 || b == 44 || b == 41 || b == 46 || b == 40

pub spells_none : {follow : ℕ → Bool} → Spells follow [] []
spells_none = record { lexes = λ rest more after lexes. lexes }

pub spells_gap : Spells any (32 ∷ []) []
spells_gap = record { lexes = λ rest more after lexes. lexes_gap rest more lexes }

pub spells_piece : {follow : ℕ → Bool} (k : TokenKind) (slice : List ℕ) → 0 < length slice → ((rest : List ℕ) → Follows follow rest → Opens k slice rest) → Spells follow slice (record { kind = k; slice = slice } ∷ [])
spells_piece k slice some opens = record { lexes = λ rest more after lexes. lexes_piece k slice rest more some (opens rest after) lexes }

pub spells_weaker : {p q : ℕ → Bool} {text : List ℕ} {shapes : List Shape} → ((b : ℕ) → q b ≡ true → p b ≡ true) → Spells p text shapes → Spells q text shapes
spells_weaker {p} {q} weaker first = record { lexes = λ rest more after lexes. first.lexes rest more (follows_weaker q p weaker rest after) lexes }

-- one part after the other
pub spells_both : {p q : ℕ → Bool} {a b : List ℕ} {x y : List Shape} → Spells p a x → Spells q b y → ((rest : List ℕ) → Follows q rest → Follows p (b ++ rest)) → Spells q (a ++ b) (x ++ y)
spells_both {p} {q} {a} {b} {x} {y} first second meets = record {
  lexes = λ rest more after lexes. rw (append_assoc a b rest, append_assoc x y more) (first.lexes (b ++ rest) (y ++ more) (meets rest after) (second.lexes rest more after lexes));
}

-- the same, where the second begins with what ends the first
pub spells_then : {p : ℕ → Bool} {a b : List ℕ} {x y : List Shape} → Spells p a x → Spells p b y → Follows p b → Spells p (a ++ b) (x ++ y)
spells_then {p} {a} {b} first second meets = spells_both first second (λ rest after. follows_append p b rest meets after)

pub spells_at : {p q : ℕ → Bool} {a b : List ℕ} {c : ℕ} {x y : List Shape} → Spells p a x → Spells q (c ∷ b) y → p c ≡ true → Spells q (a ++ c ∷ b) (x ++ y)
spells_at first second meets = spells_both first second (λ rest after. meets)

-- the same, where the first ends anywhere
pub anything : (b : List ℕ) → Follows any b
anything [] = tt
anything (b ∷ rest) = refl

pub spells_after : {q : ℕ → Bool} {a b : List ℕ} {x y : List Shape} → Spells any a x → Spells q b y → Spells q (a ++ b) (x ++ y)
spells_after {q} {a} {b} first second = spells_both first second (λ rest after. anything (b ++ rest))
