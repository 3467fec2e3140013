-- What a function that reads may answer.
use Rattle.std.specs.Prelude.{◌≡◌, Result, Ok, Err}
use Rattle.pm_grammar.specs.Reading.{Stop, expected, too_deep, too_many}
use Rattle.pm_grammar.specs.declared.fault.SynBad.{SynBad}
use Rattle.pm_grammar.specs.declared.fault.SynBad.TheVariants as bad

abbrev pub Fails : {A : Type 0} → SynBad → Result A Stop → Type 0
Fails bad.Memory read = Unit {0}
Fails (bad.Expected p) read = read ≡ Err (expected p)
Fails (bad.TooDeep p) read = read ≡ Err (too_deep p)
Fails (bad.TooMany p) read = read ≡ Err (too_many p)

-- what a function answered, seen like this, is what reading gives, unless memory ran out
abbrev pub Gives : {X A : Type 0} → (X → A) → Result X SynBad → Result A Stop → Type 0
Gives view (Ok x) read = read ≡ Ok (view x)
Gives view (Err e) read = Fails e read

-- what is read is refused like this, unless memory ran out
abbrev pub IsRefused : {A : Type 0} → SynBad → (Result A Stop → Type 0) → Type 0
IsRefused bad.Memory reads = Unit {0}
IsRefused (bad.Expected p) reads = reads (Err (expected p))
IsRefused (bad.TooDeep p) reads = reads (Err (too_deep p))
IsRefused (bad.TooMany p) reads = reads (Err (too_many p))

-- what a function answered, seen like this, is what is read, unless memory ran out
abbrev pub IsRead : {X A : Type 0} → (X → A) → Result X SynBad → (Result A Stop → Type 0) → Type 0
IsRead view (Ok x) reads = reads (Ok (view x))
IsRead view (Err e) reads = IsRefused e reads
