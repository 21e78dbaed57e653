-- All that is promised of a call of the interpolator, in one place.
use Rattle.survey.specs.declared.Limits.{Limits}
use Rattle.interpolator_theory.specs.Call.{Query, Areas}
use Rattle.interpolator_theory.specs.Interpolation.{interpolated}
use Rattle.interpolator_theory.specs.Exit.{Promise}
use Rattle.interpolator_theory.proofs.Accepted.{accepted}
use Rattle.interpolator_theory.proofs.Endings.{ended, untouched, no_wells}
use Rattle.interpolator_theory.proofs.System.{rows_are, matrix_at}
use Rattle.interpolator_theory.proofs.SystemKriged.{kriged}

pub promise : (limits : Limits) (q : Query) (a : Areas) → Promise limits q a (interpolated limits q a)
promise limits q a = record {
  ends = ended limits q a;
  targets = λ none. (accepted limits q a none).targets;
  rows = rows_are q;
  matrix = λ none. let k = accepted limits q a none in matrix_at q k.dimension a k.work;
  no_wells = no_wells limits q a;
  kriged = kriged limits q a;
  untouched = untouched limits q a;
}
