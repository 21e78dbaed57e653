-- The one lemma that holds the soundings: each is computed by the definitions.
use mathlib.Core.Path.{refl}
use lib.Ieee.{of_bits, to_bits, add, sub, mul, div, lt, le, eq, of_int, to_unsigned, round}
use Rattle.ieee.specs.Root.{sqrt_of}
use Rattle.variogram.specs.Model.{semivariance}
use Rattle.kriging_theory.specs.Fit.{fitted}
use Rattle.interpolator_theory.specs.Interpolation.{interpolated}
use Rattle.semivariogram_theory.specs.Semivariogram.{calculated}
use Rattle.soundings.specs.Soundings.{Soundings}

pub soundings : Soundings
unfolding fitted interpolated calculated semivariance sqrt_of add sub mul div lt le eq of_int to_unsigned round of_bits to_bits
soundings = record {
  A = refl;
  B = refl;
  B-accepted = refl;
  B-figure = refl;
  B-variance = refl;
  C = refl;
  D-missed = refl;
  D-met = refl;
  E-refused = refl;
  E-accepted = refl;
  F-spherical = refl;
  F-linear = refl;
  G-kept = refl;
  G = refl;
  H-two = refl;
  H-smallest = refl;
}
