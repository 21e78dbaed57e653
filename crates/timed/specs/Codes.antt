-- The numbers by which `timed` tells an order to other languages.
use Rattle.std.specs.Prelude.{ℕ}
use Rattle.std.specs.declared.cmp.Ordering.{Ordering}
use Rattle.std.specs.declared.cmp.Ordering.TheVariants.{Less, Equal, Greater}

abbrev pub code_of : Ordering → ℕ
code_of Less = 0
code_of Equal = 1
code_of Greater = 2
