-- The reserved words in capitals, and the signs as canonical text has them.
use Rattle.std.specs.Prelude.{ℕ, List, [], ◌∷◌, codes}

abbrev pub reserved_words : List (List ℕ)
reserved_words =
    codes "SELECT" ∷ codes "DISTINCT" ∷ codes "FROM" ∷ codes "JOIN" ∷ codes "INNER" ∷ codes "LEFT" ∷ codes "RIGHT" ∷ codes "FULL" ∷ codes "OUTER" ∷ codes "CROSS"
    ∷ codes "NATURAL" ∷ codes "USING" ∷ codes "ON" ∷ codes "WHERE" ∷ codes "GROUP" ∷ codes "BY" ∷ codes "HAVING" ∷ codes "ORDER" ∷ codes "ASC" ∷ codes "DESC"
    ∷ codes "AND" ∷ codes "OR" ∷ codes "NOT" ∷ codes "IS" ∷ codes "NULL" ∷ codes "IN" ∷ codes "BETWEEN" ∷ codes "AS" ∷ codes "LIMIT" ∷ codes "OFFSET"
    ∷ codes "UNION" ∷ []

abbrev pub signs : List (List ℕ)
signs =
    codes "(" ∷ codes ")" ∷ codes "," ∷ codes "." ∷ codes ";" ∷ codes "*" ∷ codes "-" ∷ codes "=" ∷ codes "<>" ∷ codes "<" ∷ codes "<=" ∷ codes ">" ∷ codes ">="
    ∷ []
