-- The numbers of the refusals, beside the number of a code that is none.
use mathlib.Core.Logic.{◌≢◌}
use native.Mathlib.Omega.{arith}
use Rattle.error.specs.declared.Refusal.{Refusal}
use Rattle.error.specs.declared.Refusal.TheVariants.{CoordinatesLength, NodesLength, NoBasis, BasisCode, Regularization, ExternalLength}
use Rattle.error.specs.declared.Refusal.TheVariants.{TooFewWells, NodeExternalLength, TooMany, Tolerance, NotFinite, Model}
use Rattle.error.specs.declared.Refusal.TheVariants.{Dimension, TooFewSamples, Bins, SurveyFile, WorkArea, AnswerArea, Singular, SameSpot}
use Rattle.error.specs.Numbers.{number_of}
use Rattle.nakwemol.specs.Codes.{unknown_code}

-- no refusal has that of a code that is none: the two are never taken for one another
pub no_refusal : (r : Refusal) → number_of r ≢ unknown_code
no_refusal CoordinatesLength h = omega arith
no_refusal NodesLength h = omega arith
no_refusal NoBasis h = omega arith
no_refusal BasisCode h = omega arith
no_refusal Regularization h = omega arith
no_refusal ExternalLength h = omega arith
no_refusal TooFewWells h = omega arith
no_refusal NodeExternalLength h = omega arith
no_refusal TooMany h = omega arith
no_refusal Tolerance h = omega arith
no_refusal NotFinite h = omega arith
no_refusal Model h = omega arith
no_refusal Dimension h = omega arith
no_refusal TooFewSamples h = omega arith
no_refusal Bins h = omega arith
no_refusal SurveyFile h = omega arith
no_refusal WorkArea h = omega arith
no_refusal AnswerArea h = omega arith
no_refusal Singular h = omega arith
no_refusal SameSpot h = omega arith
