-- What a fit that no rule of the library turns away has been tested for, as its code uses it: the lengths of its lists and areas, and its counts.
use Prim.Native.Nat.{ℕ, ◌*◌, ◌≤◌, ◌<◌}
use native.Mathlib.Decide.{dec_lt}
use native.Mathlib.Omega.{arith}
use mathlib.Core.Path.{◌≡◌}
use mathlib.Core.Logic.{inl, inr}
use lib.ListN.{length}
use Rattle.error.specs.Rules.{NoneApplies, Condition}
use Rattle.error.proofs.Tells.{stable, equal}
use Rattle.error.proofs.Rules.{none_exactly, no_condition}
use Rattle.error.specs.Short.{LongEnough}
use Rattle.error.proofs.Short.{long_enough}
use Rattle.survey.specs.Limits.{library}
use Rattle.survey.specs.Survey.{Survey, wells, node_count, columns, externals, size, columns_held}
use Rattle.survey.proofs.Codes.{held_exact}
use Rattle.kriging_theory.specs.Areas.{Areas, answer_areas}
use Rattle.kriging_theory.specs.Rules.{rules}
use Rattle.kriging_theory.specs.Refusals.{refusal}
use Rattle.kriging_theory.proofs.Endings.{told}

module _ (s : Survey) (a : Areas) (taken : refusal library s a ≡ 0) where
  none_applies : NoneApplies (rules library s a)
  unfolding refusal
  none_applies = (none_exactly (told library s a) tt).0 taken

  none : (k : ℕ) → ¬ Condition (rules library s a) k
  none = no_condition (rules library s a) none_applies

  at_least : {m n : ℕ} → ¬ (n < m) → m ≤ n
  at_least h = omega arith

  -- ---- counts
  pub few_wells : wells s ≤ library.wells
  few_wells = at_least (λ l. none 9 (inl l))

  pub few_columns : columns s ≤ library.columns
  few_columns = at_least (λ l. none 9 (inr (inl l)))

  pub columns_counted : columns_held s.bases ≡ columns s
  columns_counted = let h = few_columns in held_exact s.bases (omega arith)

  -- ---- lists
  pub coords_twice : length s.coords ≡ 2 * wells s
  coords_twice = stable (equal (length s.coords) (2 * wells s)) (none 1)

  pub externals_whole : length s.external ≡ externals s * wells s
  externals_whole = stable (equal (length s.external) (externals s * wells s)) (none 6)

  pub node_externals_lem : externals s * node_count s ≤ length s.node_external
  node_externals_lem =
      elim (dec_lt 0 (externals s)) [
        | yes h ↦
            let e : length s.node_external ≡ externals s * node_count s =
            stable (equal (length s.node_external) (externals s * node_count s)) (λ n. none 8 (h, n)) in
            omega arith
        | no h ↦ let z : externals s ≡ 0 = omega arith in rw z (omega arith)
      ]

  -- ---- areas
  pub work_long : 2 * size s * size s ≤ length a.work
  work_long = at_least (none 17)

  pub answer_long : LongEnough (answer_areas s a)
  answer_long = long_enough (answer_areas s a) (none 18)
