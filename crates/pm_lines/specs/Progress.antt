-- the progress line of a moment, and the end line. Fractions are not reduced
use Rattle.std.specs.Prelude.{ℕ, List, ◌++◌, codes, decimal, Option, None, Some}
use Rattle.pm_fraction.specs.Hundredths.{hundredths_down, hundredths_up}
use Rattle.pm_plan.specs.declared.gauge.Shown.{Shown}
use Rattle.pm_lines.specs.Percent.{percent}

-- work over the root, or a dash where the root is not shown
abbrev pub safe_text : ℕ → Option ℕ → List ℕ
safe_text work None = codes "-"
safe_text work (Some root) = decimal work ++ codes "/" ++ decimal root

abbrev pub progress_line : Shown → List ℕ
progress_line s =
    codes "P work=" ++ decimal s.work ++ codes " lo=" ++ decimal s.lo ++ codes " hi=" ++ decimal s.hi
    ++ codes " dne=" ++ decimal s.dne_num ++ codes "/" ++ decimal s.dne_den
    ++ codes " safe=" ++ safe_text s.work s.safe_den
    ++ codes " pmax=" ++ decimal s.work ++ codes "/" ++ decimal s.lo
    ++ codes " pct=" ++ percent (hundredths_down s.work s.hi) ++ codes ".." ++ percent (hundredths_up s.work s.lo)
    ++ codes "\n"

abbrev pub end_line : ℕ → ℕ → List ℕ
end_line rows work = codes "E rows=" ++ decimal rows ++ codes " work=" ++ decimal work ++ codes "\n"
