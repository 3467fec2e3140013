use Rattle.std.proofs.Common.{◌≡◌, ◌++◌, codes}
use Rattle.pm_demo.specs.Texts.{lines, order_line}
use Rattle.pm_demo.proofs.demo.orders_file.Given as goal

abbrev pub invariant-loop-order : goal.invariant-loop-order
invariant-loop-order l = l.file.items ≡ codes "id,cust,amt\n" ++ lines (order_line l.fn.customers) l.order
