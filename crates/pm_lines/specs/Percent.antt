use Rattle.std.specs.Prelude.{ℕ, ◌/◌, ◌%◌, nat_lt, if◌then◌else◌, List, ◌++◌, codes, decimal}

-- hundredths of a percent, as the whole percents, a point and two digits
abbrev pub percent : ℕ → List ℕ
percent hundredths =
    decimal (hundredths / 100)
    ++ (if nat_lt (hundredths % 100) 10 then codes ".0" else codes ".")
    ++ decimal (hundredths % 100)
