-- How large a verdict can be: a row's number or 255, so that it fits a byte where the rows do.
use Prim.Native.Nat.{ℕ, zero, suc, ◌+◌, ◌≤◌}
use native.Mathlib.Omega.{arith}
use mathlib.Core.Bool.{Bool, true, false, cond}
use lib.Dec.{eqb}
use lib.Ieee.Scale.{finite}
use Rattle.audit.specs.Audit.{Weighed, Audited, first_missed, column_met, finite_given, column_verdict_given, figure_met, verdict_with}

either : (b : Bool) (x y most : ℕ) → x ≤ most → y ≤ most → cond b x y ≤ most
either true x y most h k = h
either false x y most h k = k

-- the first row missed of k from row j on is one of them, or 0
missed : (k j : ℕ) (met : ℕ → Bool) (most : ℕ) → k + j ≤ most + 1 → first_missed k j met ≤ most
unfolding first_missed
missed zero j met most h = omega arith
missed (suc k) j met most h = either (met j) (first_missed k (j + 1) met) j most (missed k (j + 1) met most (omega arith)) (omega arith)

-- rows 1 to p
pub columns_bound : (given : Bool) (w : Weighed) → w.p ≤ 255 → column_verdict_given given w ≤ 255
unfolding column_verdict_given
columns_bound given w h = either (finite_given given w) _ 255 255 (missed w.p 1 (column_met w) 255 (omega arith)) (omega arith)

-- and row p + 1
pub verdict_bound : (v : ℕ) (a : Audited) → v ≤ 255 → a.weighed.p + 1 ≤ 255 → verdict_with v a ≤ 255
unfolding verdict_with
verdict_bound v a h k =
    either (finite a.figure) _ 255 255 (either (eqb v 0) _ v 255 (either (figure_met a) 0 _ 255 (omega arith) k) h) (omega arith)
