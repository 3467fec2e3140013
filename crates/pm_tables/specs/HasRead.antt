-- how far a reader of CSV has come
use Rattle.std.specs.Prelude.{◌≡◌, ◌++◌, ◌∷◌, ◌⊎◌, ◌<◌, length, [], ℕ, Bool, true, false, List, Some, IsUtf8}
use Rattle.std.specs.Borrow.{Bor}
use Rattle.csv.specs.Reading.{Reached, Ready, default_config, is_flexible, reader_config, reader_state, reader_trim, records, source_of}
use Rattle.csv.specs.declared.parser.State.TheVariants as st
use Rattle.csv.specs.declared.reader.Reader.{Reader}
use Rattle.csv.specs.declared.reader.Trim.TheVariants as trim
use Rattle.csv.specs.declared.error.ErrorKind.{ErrorKind}
use Rattle.csv.specs.declared.error.ErrorKind.TheVariants as kind
use Rattle.pm_tables.specs.declared.fault.DataBad.{DataBad}
use Rattle.pm_tables.specs.declared.fault.DataBad.TheVariants as bad

-- the reader has read these records of the text
pub record HasRead (text : List ℕ) (rows : List (List (List ℕ))) (reader : Reader (Bor (List ℕ))) : Type 0 where
  pub untrimmed : reader_trim reader ≡ trim.None
  pub flexible : is_flexible reader ≡ true
  pub ready : Ready reader
  pub config : reader_config reader ≡ default_config
  pub rest : List ℕ
  pub source : source_of (λ s. Some s.now) reader ≡ Some rest
  pub reached : Reached default_config st.StartRecord text rows (reader_state reader) rest

-- the reader has read some records of a text of characters
abbrev pub ReadsText : Reader (Bor (List ℕ)) → Type 0
ReadsText reader = (text : List ℕ) × (rows : List (List (List ℕ))) × IsUtf8 text × HasRead text rows reader

-- the bytes could not be had, or there was no memory
abbrev pub IsReadFailure : ErrorKind → Type 0
IsReadFailure (kind.Io e) = Unit {0}
IsReadFailure kind.OutOfMemory = Unit {0}
IsReadFailure (kind.Utf8 pos err) = ⊥
IsReadFailure (kind.UnequalLengths pos expected len) = ⊥
IsReadFailure (kind.Serialize why) = ⊥
IsReadFailure (kind.Deserialize pos err) = ⊥

-- a next record was found behind these, or these are all
abbrev pub Continues : List ℕ → List (List (List ℕ)) → Reader (Bor (List ℕ)) → Bool → List (List ℕ) → Type 0
Continues text rows reader true fields = HasRead text (rows ++ fields ∷ []) reader
Continues text rows reader false fields = records default_config text ≡ rows

-- want of memory, or more records behind the header than this
abbrev pub EndsTooLate : List ℕ → List (List ℕ) → ℕ → DataBad → Type 0
EndsTooLate text header most e = (e ≡ bad.Memory) ⊎ ((e ≡ bad.TooManyRows) × (list : List (List (List ℕ)))
    × (records default_config text ≡ header ∷ list) × (most < length list))

-- behind these records of the text stands a number of others of which this holds
abbrev pub HasMore : List ℕ → List (List (List ℕ)) → (ℕ → Type 0) → Type 0
HasMore text rows P = (more : List (List (List ℕ))) × (records default_config text ≡ rows ++ more) × P (length more)
