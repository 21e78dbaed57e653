-- THE PROMISE of a fit, from its equation: the theorems about the definition, joined.
use Prim.Native.Nat.{◌≤◌}
use mathlib.Core.Path.{◌≡◌, refl, sym, subst}
use Rattle.error.specs.Outcome.{Outcome}
use Rattle.survey.specs.declared.Limits.{Limits}
use Rattle.survey.specs.Survey.{Survey}
use Rattle.kriging_theory.specs.Areas.{Areas}
use Rattle.kriging_theory.specs.Fit.{fitted}
use Rattle.kriging_theory.specs.Promise.{Promise}
use Rattle.kriging_theory.proofs.Endings.{fit_ends, untouched}
use Rattle.kriging_theory.proofs.SystemNode.{kriged}
use Rattle.kriging_theory.proofs.Trend.{trend_kept}

-- within whatever limits, as long as a verdict's byte can name every row
pub promised : (limits : Limits) → limits.columns ≤ 253 → (s : Survey) (a : Areas) {e : Outcome Areas} → e ≡ fitted limits s a → Promise limits s a e
promised limits few s a h =
    let ends = fit_ends limits s a in
    subst (Promise limits s a) (sym h) record {
      equation = refl;
      ruled = (ends.refused, ends.refused_areas);
      stopped = (ends.nineteen, ends.nineteen_areas);
      accepted = ends.accepted;
      kept = untouched limits s a;
      kriged = kriged limits s a;
      bounded = trend_kept limits s a few;
    }
