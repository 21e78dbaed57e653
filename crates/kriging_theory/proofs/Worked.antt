-- The finished eliminations of two accepted fits with the same matrix agree: what a work area held before, and what lies past the matrix, does not count.
use Prim.Native.Nat.{ℕ, ◌*◌, ◌≤◌}
use native.Mathlib.Omega.{arith}
use mathlib.Core.Path.{◌≡◌, subst}
use mathlib.Core.Bool.{true}
use lib.ListN.{length}
use Rattle.elimination.specs.Inverse.{laid}
use Rattle.elimination.specs.Elimination.{stepped, Agree}
use Rattle.elimination.proofs.Agree.{agree_stepped, agree_laid}
use Rattle.survey.specs.declared.Limits.{Limits}
use Rattle.survey.specs.Survey.{Survey, size}
use Rattle.kriging_theory.specs.Areas.{Areas}
use Rattle.kriging_theory.specs.Assembly.{entry}
use Rattle.kriging_theory.specs.Fit.{worked, fitted}
use Rattle.kriging_theory.proofs.Endings.{work_long}

pub worked_agree : (limits limits' : Limits) (s t : Survey) (a b : Areas) → (fitted limits s a).number ≡ 0 → (fitted limits' t b).number ≡ 0
    → size s ≡ size t → ((i j : ℕ) → entry s i j ≡ entry t i j) → Agree (size s * (2 * size s)) (worked s a) (worked t b)
worked_agree limits limits' s t a b accepted accepted' sizes entries =
    let long : 2 * size s * size s ≤ length b.work = rw sizes (work_long limits' t b accepted') in
    let both = agree_laid (size s) (entry s) a.work b.work (work_long limits s a accepted) long in
    let same : stepped true (size s) (size s) (laid (size s) (entry s) b.work) ≡ worked t b =
    λ i. stepped true (sizes i) (sizes i) (laid (sizes i) (λ x y. entries x y i) b.work) in
    subst (Agree (size s * (2 * size s)) (worked s a)) same (agree_stepped true (size s) (size s) _ _ (omega arith) both)
