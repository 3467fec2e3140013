-- the line of a refusal: its code, its word, the name that it is about, and numbers
use Rattle.std.specs.Prelude.{ℕ, List, [], ◌++◌, codes, decimal, Option, None, Some}
use Rattle.pm_refusals.specs.declared.word.Word.{Word}
use Rattle.pm_refusals.specs.Words.{word_text}
use Rattle.pm_lines.specs.declared.refusal.Values.{Values}
use Rattle.pm_lines.specs.declared.refusal.Values.TheVariants.{Zero, One, Two}

abbrev pub name_text : Option (List ℕ) → List ℕ
name_text None = []
name_text (Some name) = codes " " ++ name

abbrev pub values_text : Values → List ℕ
values_text Zero = []
values_text (One a) = codes " " ++ decimal a
values_text (Two a b) = codes " " ++ decimal a ++ codes " " ++ decimal b

abbrev pub refusal_front : ℕ → Word → List ℕ
refusal_front code word = codes "! " ++ decimal code ++ codes " " ++ word_text word

abbrev pub refusal_line : ℕ → Word → Option (List ℕ) → Values → List ℕ
refusal_line code word name values = refusal_front code word ++ name_text name ++ values_text values ++ codes "\n"
