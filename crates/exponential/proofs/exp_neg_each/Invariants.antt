-- `exponential::exp_neg_each` meets its contract: after i turns the area is what i stores write.
use Rattle.std.proofs.Common.{◌≡◌, ◌≤◌, min, length, get_or}
use lib.Ieee.{nan}
use Rattle.area.specs.Area.{written}
use Rattle.exponential.specs.Exponential.{exp_neg}
use Rattle.exponential.proofs.exp_neg_each.Given as goal

abbrev pub invariant-loop-i : goal.invariant-loop-i
invariant-loop-i l =
    (l.i ≤ min (length l.us) (length l.initial.out)) × (length l.out ≡ length l.initial.out)
    × (l.out ≡ written 0 l.i (λ k. exp_neg (get_or l.us k nan)) l.initial.out)
