-- `interpolator::KrigingInterpolator::interpolate` meets its contract: what the calls behind it leave is what the paper's call leaves.
use Prim.Native.Nat.{ℕ, ◌+◌, ◌*◌, ◌≤◌}
use native.Mathlib.Omega.{arith}
use mathlib.Core.Path.{◌≡◌, refl, ap, sym, ◌∙◌, subst}
use lib.ListN.{length}
use Rattle.std.proofs.lemmas.Result.{err_from_is_err_and}
use Rattle.error.specs.Numbers.{number_of}
use Rattle.error.specs.Outcome.{outcome, ended}
use Rattle.survey.specs.Limits.{library}
use Rattle.interpolator_theory.specs.Call.{size, with_work}
use Rattle.interpolator.specs.Lent.{query_lent, areas_lent}
use Rattle.interpolator.proofs.Sizes.{added_few}
use Rattle.interpolator.proofs.Called.{by_library, fits, few, promised, turned_away, stopped_by, gone_through}
use Rattle.interpolator.proofs.KrigingInterpolator.interpolate.Goals as goal

-- Known { .. }
pub invariant_of-known : goal.invariant_of-known
invariant_of-known c =
    let a = c.args in
    let q = query_lent a.self a.query.now in
    let s = areas_lent a.areas.now in
    let zero = by_library c.library.result q s c.in_ok-interpolation_refusal.ensures c.library.ensures in
    let fit = fits q s zero in
    record {
      sized = ap (λ (k : ℕ). length a.query.now.values.now + k) c.trend_terms.ensures;
      surface = fit.surface;
      axes = fit.axes;
      placed = omega (arith, fit.points);
    }

pub build_covariance_matrix-requires : goal.build_covariance_matrix-requires
build_covariance_matrix-requires c =
    let a = c.args in
    let q = query_lent a.self a.query.now in
    let s = areas_lent a.areas.now in
    let zero = by_library c.library.result q s c.in_ok-interpolation_refusal.ensures c.library.ensures in
    let sized : length a.query.now.values.now + c.trend_terms.result ≡ size q = ap (λ (k : ℕ). length a.query.now.values.now + k) c.trend_terms.ensures in
    subst (λ (n : ℕ). 2 * n * n ≤ length s.work) (sym sized) (fits q s zero).work

pub interpolate_points-requires : goal.interpolate_points-requires
interpolate_points-requires c =
    let a = c.args in
    let q = query_lent a.self a.query.now in
    let s = areas_lent a.areas.now in
    let zero = by_library c.library.result q s c.in_ok-interpolation_refusal.ensures c.library.ensures in
    let fit = fits q s zero in
    let sized : length a.query.now.values.now + c.trend_terms.result ≡ size q = ap (λ (k : ℕ). length a.query.now.values.now + k) c.trend_terms.ensures in
    let long : 2 * (length a.query.now.values.now + c.trend_terms.result) * (length a.query.now.values.now + c.trend_terms.result) ≤ length s.work =
    subst (λ (n : ℕ). 2 * n * n ≤ length s.work) (sym sized) fit.work in
    let kept : length c.solve_kriging_system.new.work ≡ length s.work = c.solve_kriging_system.auto.work ∙ c.build_covariance_matrix.auto.work in
    let terms = added_few a.self.kriging_type in
    (omega (arith, few q s zero, terms, c.trend_terms.ensures), omega (arith, long, kept), fit.figures, fit.variances)

-- interpolation_refusal(..)?
pub returns-in_err-interpolation_refusal-clause-equation : goal.returns-in_err-interpolation_refusal-clause-equation
returns-in_err-interpolation_refusal-clause-equation c =
    let a = c.args in
    let q = query_lent a.self a.query.now in
    let s = areas_lent a.areas.now in
    let number = by_library c.library.result q s c.in_err-interpolation_refusal.ensures c.library.ensures in
    let handed = err_from_is_err_and c.from_residual.result c.from_residual.ensures.1 in
    ap (λ r. ended r s) handed.1 ∙ ap (λ r. outcome (number_of r) s) handed.2 ∙ turned_away library q s _ number

pub returns-in_err-interpolation_refusal-clause-promise : goal.returns-in_err-interpolation_refusal-clause-promise
returns-in_err-interpolation_refusal-clause-promise c =
    let a = c.args in
    promised (query_lent a.self a.query.now) (areas_lent a.areas.now) _ (returns-in_err-interpolation_refusal-clause-equation c)

-- solve_kriging_system(..)?
pub returns-in_err-solve_kriging_system-clause-equation : goal.returns-in_err-solve_kriging_system-clause-equation
returns-in_err-solve_kriging_system-clause-equation c =
    let a = c.args in
    let q = query_lent a.self a.query.now in
    let s = areas_lent a.areas.now in
    let zero = by_library c.library.result q s c.in_ok-interpolation_refusal.ensures c.library.ensures in
    let sized : length a.query.now.values.now + c.trend_terms.result ≡ size q = ap (λ (k : ℕ). length a.query.now.values.now + k) c.trend_terms.ensures in
    let handed = err_from_is_err_and c.from_residual-in_err-solve_kriging_system.result c.from_residual-in_err-solve_kriging_system.ensures.1 in
    let stopped = stopped_by library q s (sym zero) _ sized _ refl _ _ c.build_covariance_matrix.ensures _ c.in_err-solve_kriging_system.ensures in
    let left = with_work s c.solve_kriging_system.new.work in
    ap (λ r. ended r left) handed.1 ∙ ap (λ r. outcome (number_of r) left) handed.2 ∙ stopped

pub returns-in_err-solve_kriging_system-clause-promise : goal.returns-in_err-solve_kriging_system-clause-promise
returns-in_err-solve_kriging_system-clause-promise c =
    let a = c.args in
    promised (query_lent a.self a.query.now) (areas_lent a.areas.now) _ (returns-in_err-solve_kriging_system-clause-equation c)

-- Ok(())
pub returns-clause-equation : goal.returns-clause-equation
returns-clause-equation c =
    let a = c.args in
    let q = query_lent a.self a.query.now in
    let s = areas_lent a.areas.now in
    let zero = by_library c.library.result q s c.in_ok-interpolation_refusal.ensures c.library.ensures in
    let sized : length a.query.now.values.now + c.trend_terms.result ≡ size q = ap (λ (k : ℕ). length a.query.now.values.now + k) c.trend_terms.ensures in
    gone_through library q s (sym zero) _ sized _ refl _ _ c.build_covariance_matrix.ensures
    _ c.in_ok-solve_kriging_system.ensures c.interpolate_points.ensures.answered

pub returns-clause-promise : goal.returns-clause-promise
returns-clause-promise c =
    let a = c.args in
    promised (query_lent a.self a.query.now) (areas_lent a.areas.now) _ (returns-clause-equation c)
