use Rattle.std.proofs.Common.{◌≡◌, ◌++◌, codes}
use Rattle.pm_demo.specs.Texts.{lines, customer_line}
use Rattle.pm_demo.proofs.demo.customers_file.Given as goal

abbrev pub invariant-loop-customer : goal.invariant-loop-customer
invariant-loop-customer l = l.file.items ≡ codes "id,region\n" ++ lines customer_line l.customer
