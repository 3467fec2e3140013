-- how far a reader has come, after one more read
use Rattle.std.proofs.Common.{◌≡◌, ◌∙◌, ◌++◌, ◌∷◌, [], ℕ, Bool, true, false, List, Option, Some, inl, Bor}
use Rattle.std.specs.Prelude.{IsUtf8}
use Rattle.csv.specs.Reading.{ReadRecord, Ready, is_flexible, reader_trim, took_first}
use Rattle.csv.specs.declared.reader.Reader.{Reader}
use Rattle.csv.specs.declared.reader.Trim.TheVariants as trim
use Rattle.csv.specs.declared.parser.State.TheVariants as st
use Rattle.csv.specs.Reading.{default_config}
use Rattle.csv.proofs.ReadFacts.{rows-end, rows-more}
use Rattle.pm_tables.specs.HasRead.{Continues, HasRead, ReadsText}
use Rattle.pm_tables.proofs.AllRecords.{all_of}

abbrev pub now : Bor (List ℕ) → Option (List ℕ)
now s = Some s.now

pub read_on : (text : List ℕ) (rows : List (List (List ℕ))) (a b : Reader (Bor (List ℕ))) (found : Bool) (fields : List (List ℕ))
    → HasRead text rows a → (reader_trim a ≡ trim.None → Ready a → ReadRecord now a b found fields) → (reader_trim a ≡ trim.None → took_first b ≡ true)
    → is_flexible b ≡ is_flexible a → Continues text rows b found fields
read_on text rows a b true fields h reads first flexible =
    let read = reads h.untrimmed h.ready in
    let more = rows-more now a b fields default_config st.StartRecord text h.rest rows h.config h.source h.reached read in
    record {
      untrimmed = read.3 ∙ h.untrimmed;
      flexible = flexible ∙ h.flexible;
      ready = inl (first h.untrimmed);
      config = read.2 ∙ h.config;
      rest = more.0;
      source = more.1;
      reached = more.2;
    }
read_on text rows a b false fields h reads first flexible =
    all_of text rows a.state h.rest h.reached (rows-end now a b fields default_config h.rest h.config h.source (reads h.untrimmed h.ready))

-- where the text of a reader was text before a record, it is behind it
pub text_on : (text : List ℕ) (rows : List (List (List ℕ))) (b : Reader (Bor (List ℕ))) (found : Bool) (fields : List (List ℕ)) → IsUtf8 text
    → Continues text rows b found fields → found ≡ true → ReadsText b
text_on text rows b true fields u go is = (text, rows ++ fields ∷ [], u, go)
text_on text rows b false fields u go is = absurd (cc is)
