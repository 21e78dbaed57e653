-- The variogram at a distance: paper 01, "Variogram", and paper 02, "Exponential and Gaussian wells" and "Two wells in one yard". Each operation is
-- rounded once, in the order in which it stands there.
use Rattle.std.specs.Prelude.{ℕ, ◌≡◌, ◌⊎◌, Bool, true, false, not, ◌||◌, cond, List, ℤ, Float}
use Rattle.std.specs.Float.{nan, fin, binary64}
use Rattle.std.specs.Float.Ieee.{add, sub, mul, div, lt, le, of_bits}
use Rattle.std.specs.Float.Ieee.Scale.{finite}
use Rattle.ieee.specs.Floats.{zero_float, one_float, epsilon}
use Rattle.ieee.specs.Finite.{NotFinite}
use Rattle.ieee.specs.Values.{Signed}
use Rattle.exponential.specs.Exponential.{exp_neg, exp_neg_by}
use Rattle.variogram.specs.declared.Variogram.{Variogram}
use Rattle.variogram.specs.declared.VariogramModel.{VariogramModel}
use Rattle.variogram.specs.declared.VariogramModel.TheVariants.{Spherical, Exponential, Gaussian, Linear}

-- a variogram of a model, "nugget, sill, range", with the same-spot distance that "`new` sets .. to 2^-52"
abbrev pub variogram : VariogramModel → Float → Float → Float → Variogram
variogram m nugget sill range = record { nugget = nugget; sill = sill; range = range; same_spot = epsilon; model = m }

-- the same with another same-spot distance
abbrev pub with_same_spot : Variogram → Float → Variogram
with_same_spot v distance =
    record { nugget = v.nugget; sill = v.sill; range = v.range; same_spot = distance; model = v.model }

-- "`powi(3)` as a·(a·a)"
abbrev pub cube : Float → Float
cube a = mul binary64 a (mul binary64 a a)

-- "1.5·q − 0.5·q³"
abbrev pub spheric : Float → Float
spheric q = sub binary64 (mul binary64 (of_bits binary64 0x3ff8_0000_0000_0000) q) (mul binary64 (of_bits binary64 0x3fe0_0000_0000_0000) (cube q))

-- "Spherical: sill if h ≥ range; else with q = h/range, nugget + (sill − nugget)·(1.5·q − 0.5·q³)"
unfoldable pub spherical : Float → Float → Float → Float → Float
spherical nugget sill range h =
    cond
    (le range h)
    sill
    (add binary64 nugget (mul binary64 (sub binary64 sill nugget) (spheric (div binary64 h range))))

-- "Linear: nugget + (sill/range)·(h if h < range, else range)"
unfoldable pub linear : Float → Float → Float → Float → Float
linear nugget sill range h = add binary64 nugget (mul binary64 (div binary64 sill range) (cond (lt h range) h range))

-- "Both follow the formulas of source document 000": "self.nugget + partial_sill * (1.0 - (..).exp())", with "partial_sill = self.sill - self.nugget"
-- and e for the power of e
abbrev pub towards_sill : Float → Float → Float → Float
towards_sill nugget sill e = add binary64 nugget (mul binary64 (sub binary64 sill nugget) (sub binary64 one_float e))

-- Exponential, "(-h / self.range).exp()": e^−u for u = h / range
unfoldable pub exponential_model : (Float → Float) → Float → Float → Float → Float → Float
exponential_model exp nugget sill range h = towards_sill nugget sill (exp (div binary64 h range))

-- Gaussian, "(-(h * h) / (self.range * self.range)).exp()": e^−u for u = h·h over range·range
unfoldable pub gaussian : (Float → Float) → Float → Float → Float → Float → Float
gaussian exp nugget sill range h = towards_sill nugget sill (exp (div binary64 (mul binary64 h h) (mul binary64 range range)))

-- past the zero test, by the model
abbrev pub of_model : (Float → Float) → VariogramModel → Float → Float → Float → Float → Float
of_model exp Spherical = spherical
of_model exp Exponential = exponential_model exp
of_model exp Gaussian = gaussian exp
of_model exp Linear = linear

-- "the variogram is 0 below it instead of below 2^-52", and "A distance equal to the field is not the same spot": of every model, for an e^−u
unfoldable pub semivariance_with : (Float → Float) → Variogram → Float → Float
unfolding spherical exponential_model gaussian linear
semivariance_with exp v h = cond (lt h v.same_spot) zero_float (of_model exp v.model v.nugget v.sill v.range h)

-- the variogram, with e^−u itself
unfoldable pub semivariance : Variogram → Float → Float
unfolding semivariance_with exp_neg
semivariance v h = semivariance_with exp_neg v h

-- and with e^−u by a table that is lent
unfoldable pub semivariance_by : List ℕ → Variogram → Float → Float
unfolding semivariance_with exp_neg_by
semivariance_by lent v h = semivariance_with (exp_neg_by lent) v h

-- 22: "same-spot distance not finite or below 2^-52": as a test
abbrev pub wrong_spot : Variogram → Bool
wrong_spot v = not (finite v.same_spot) || lt v.same_spot epsilon

-- and as the paper says it
abbrev pub WrongSpot : Variogram → Type 0
WrongSpot v = NotFinite v.same_spot ⊎ (lt v.same_spot epsilon ≡ true)

-- "12 now means an Exponential survey whose range is not above zero, and nothing else": as a test
abbrev pub wrong_range : VariogramModel → Float → Bool
wrong_range Spherical range = false
wrong_range Exponential range = not (lt zero_float range)
wrong_range Gaussian range = false
wrong_range Linear range = false

abbrev pub wrong_model : Variogram → Bool
wrong_model v = wrong_range v.model v.range

-- and as the paper says it. "not above zero": a zero of either sign, or whatever has a minus; a NaN is not above zero either, but 11 comes before
pub data NotAboveZero : Float → Type 0 where
  a_zero : (s : Bool) (e : ℤ) → NotAboveZero (fin s 0 e)
  negative : {x : Float} → Signed true x → NotAboveZero x
  not_a_number : NotAboveZero nan

pub record WrongModel (v : Variogram) : Type 0 where
  pub model_is : v.model ≡ Exponential
  pub range_is : NotAboveZero v.range
