use Rattle.std.proofs.Common.{◌≡◌, ◌++◌, map, take, string_bytes}
use Rattle.pm_canonical.specs.Canon.{joined, separator, member_of, text_of}
use Rattle.pm_canonical.proofs.printing.+put_test.Given as goal

abbrev pub invariant-put_members-members : goal.invariant-put_members-members
invariant-put_members-members l = string_bytes l.out ≡ string_bytes l.initial.out ++ joined (separator l.in_or) (map (λ t. member_of l.in_or (text_of t)) (take l.i l.list))
