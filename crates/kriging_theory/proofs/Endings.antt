-- What turns a fit away, and how it ends: each number exactly where its condition holds, and the areas then.
use Prim.Native.Nat.{ℕ, ◌*◌, ◌≤◌, ◌<◌}
use native.Mathlib.Omega.{arith}
use mathlib.Core.Path.{◌≡◌, refl}
use mathlib.Core.Logic.{◌≢◌, inl, inr, ◌↔◌}
use mathlib.Core.Bool.{true}
use mathlib.Core.List.{[], ◌∷◌}
use lib.Dec.{T}
use lib.ListN.{length, get_or}
use lib.Ieee.{nan, lt}
use lib.Ieee.Scale.{finite}
use Rattle.area.proofs.Kept.{kept_same}
use Rattle.area.proofs.Start.{kept_start}
use Rattle.error.specs.Rules.{NoneApplies, Condition, Lowest, First, Told, no_more, tells, numbers_of}
use Rattle.error.proofs.Tells.{stable, equal}
use Rattle.error.proofs.Rules.{joined, no_condition, first_wins}
use Rattle.error.proofs.Lowest.{lowest_but}
use Rattle.error.proofs.Short.{short_told, area_at, long_at}
use Rattle.ieee.specs.Floats.{zero_float}
use Rattle.ieee.proofs.FiniteLists.{is_finite}
use Rattle.variogram.proofs.Spot.{spot_taken}
use Rattle.elimination.specs.Call.{Ends}
use Rattle.elimination.proofs.Call.{work_told, kept_work, ends, whichever}
use Rattle.survey.specs.declared.Limits.{Limits}
use Rattle.survey.specs.Survey.{Survey, wells, node_count, columns, size, value_at}
use Rattle.survey.proofs.Told.{survey_told}
use Rattle.kriging_theory.specs.Areas.{Areas, with_work, answer_areas}
use Rattle.kriging_theory.specs.Assembly.{assembled}
use Rattle.kriging_theory.specs.Node.{node_of}
use Rattle.kriging_theory.specs.Rules.{answer_rules, rules}
use Rattle.kriging_theory.specs.Refusals.{answer_tests, tests, refusal}
use Rattle.kriging_theory.specs.Fit.{answered, fit_call, fitted}
use Rattle.kriging_theory.specs.Untouched.{Untouched}

answer_told : (s : Survey) (a : Areas) → Told (answer_tests s a) (answer_rules s a)
answer_told s a = tells 18 (short_told (answer_areas s a)) no_more

at_least : {m n : ℕ} → ¬ (n < m) → m ≤ n
at_least h = omega arith

module _ (limits : Limits) (s : Survey) (a : Areas) where
  -- each test tells its rule
  pub told : Told (tests limits s a) (rules limits s a)
  unfolding tests
  told = joined (survey_told limits s (node_count s) s.node_external) (joined (work_told (size s) a.work) (answer_told s a))

  long : NoneApplies (rules limits s a) → 2 * size s * size s ≤ length a.work
  long n = at_least (no_condition (rules limits s a) n 17)

  -- HOW A FIT ENDS: refused before it eliminates, stopped at a step, or gone through
  pub fit_ends : Ends (rules limits s a) true (size s) (assembled s a.work) a (with_work a) (λ work. answered s a work (node_of s work)) (fitted limits s a)
  unfolding fitted refusal
  fit_ends = ends (tests limits s a) (rules limits s a) (fit_call limits s a) refl told tt tt long

  -- the order in which its numbers count, in full
  pub order : numbers_of (rules limits s a) ≡ 1 ∷ 2 ∷ 3 ∷ 4 ∷ 5 ∷ 6 ∷ 7 ∷ 8 ∷ 9 ∷ 10 ∷ 11 ∷ 22 ∷ 12 ∷ 17 ∷ 18 ∷ []
  order = refl

  -- a number is given exactly where its condition holds and no rule before its own applies
  pub first_in_a_fit : (k : ℕ) → ((refusal limits s a ≡ k) × (k ≢ 0)) ↔ First (rules limits s a) k
  unfolding refusal
  first_in_a_fit = first_wins told tt tt

  -- "The lowest applying number wins in a fit.": where 22, which comes "straight after 11", does not apply
  pub lowest_but_22 : ¬ Condition (rules limits s a) 22 → (k : ℕ) → ((refusal limits s a ≡ k) × (k ≢ 0)) ↔ Lowest (rules limits s a) k
  unfolding refusal
  lowest_but_22 = lowest_but told 22 tt tt

  -- "and all past the named lengths is untouched": however the fit ends
  pub untouched : Untouched s a (fitted limits s a).areas
  unfolding fitted refusal answered
  untouched =
      whichever (tests limits s a) (rules limits s a) (fit_call limits s a) refl told tt tt long (Untouched s a)
      (record {
        work = kept_same _ _;
        predicted = kept_same _ _;
        variance = kept_same _ _;
        verdicts = kept_same _ _;
        weights = kept_same _ _;
        multipliers = kept_same _ _;
        trend = kept_same _ _;
      })
      (λ i h. record {
        work = kept_work (fit_call limits s a) i h;
        predicted = kept_same _ _;
        variance = kept_same _ _;
        verdicts = kept_same _ _;
        weights = kept_same _ _;
        multipliers = kept_same _ _;
        trend = kept_same _ _;
      })
      (record {
        work = kept_work (fit_call limits s a) (size s) (omega arith);
        predicted = kept_start (node_count s) _ a.predicted;
        variance = kept_start (node_count s) _ a.variance;
        verdicts = kept_start (node_count s) _ a.verdicts;
        weights = kept_start (wells s * node_count s) _ a.weights;
        multipliers = kept_start (columns s) _ a.multipliers;
        trend = kept_start (columns s) _ a.trend;
      })

-- ---- what a fit that no rule turns away has been tested for, whether its elimination stops or not
module _ (limits : Limits) (s : Survey) (a : Areas) (none : NoneApplies (rules limits s a)) where
  pub finite_coords : (k : ℕ) → k < length s.coords → T (finite (get_or s.coords k nan))
  finite_coords k l =
      is_finite (get_or s.coords k nan) (λ n. no_condition (rules limits s a) none 11 (inr (inr (inl (record { place = k; inside = l; is = n })))))

  -- "Errors: 22", past it: the same-spot distance is above zero
  pub spot_above_zero : lt zero_float s.options.variogram.same_spot ≡ true
  spot_above_zero = spot_taken s.options.variogram (no_condition (rules limits s a) none 22)

  pub coords_length : length s.coords ≡ 2 * wells s
  coords_length = stable (equal (length s.coords) (2 * wells s)) (no_condition (rules limits s a) none 1)

-- ---- what an accepted fit has been tested for
module _ (limits : Limits) (s : Survey) (a : Areas) (accepted : (fitted limits s a).number ≡ 0) where
  none : (k : ℕ) → ¬ Condition (rules limits s a) k
  none = no_condition (rules limits s a) ((fit_ends limits s a).accepted.0 accepted).0

  pub work_long : 2 * size s * size s ≤ length a.work
  work_long = at_least (none 17)

  pub few_columns : columns s ≤ limits.columns
  few_columns = at_least (λ l. none 9 (inr (inl l)))

  pub finite_tolerance : T (finite s.tolerance)
  finite_tolerance = is_finite s.tolerance (λ n. none 10 (inr n))

  pub finite_values : (i : ℕ) → i < wells s → T (finite (value_at s i))
  finite_values i l = is_finite (value_at s i) (λ n. none 11 (inr (inl (record { place = i; inside = l; is = n }))))

  -- the answer areas are long enough, by their place in the list
  answer_long : (i : ℕ) → (area_at (answer_areas s a) i).taken ≤ (area_at (answer_areas s a) i).places
  answer_long = long_at (answer_areas s a) (none 18)

  pub predicted_long : node_count s ≤ length a.predicted
  predicted_long = answer_long 0

  pub variance_long : node_count s ≤ length a.variance
  variance_long = answer_long 1

  pub verdicts_long : node_count s ≤ length a.verdicts
  verdicts_long = answer_long 2

  pub weights_long : wells s * node_count s ≤ length a.weights
  weights_long = answer_long 3

  pub multipliers_long : columns s ≤ length a.multipliers
  multipliers_long = answer_long 4

  pub trend_long : columns s ≤ length a.trend
  trend_long = answer_long 5
