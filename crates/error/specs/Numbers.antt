-- The numbers of paper 01, "What turns a call away", and of paper 02: a refusal carries only its number.
use Rattle.std.specs.Prelude.{ℕ, Result, Ok, Err}
use Rattle.error.specs.declared.Refusal.{Refusal}
use Rattle.error.specs.declared.Refusal.TheVariants.{CoordinatesLength, NodesLength, NoBasis, BasisCode, Regularization, ExternalLength}
use Rattle.error.specs.declared.Refusal.TheVariants.{TooFewWells, NodeExternalLength, TooMany, Tolerance, NotFinite, Model, Dimension}
use Rattle.error.specs.declared.Refusal.TheVariants.{TooFewSamples, Bins, SurveyFile, WorkArea, AnswerArea, Singular, SameSpot}

-- each line is a line of a paper's list
abbrev pub number_of : Refusal → ℕ
number_of CoordinatesLength = 1
number_of NodesLength = 2
number_of NoBasis = 3
number_of BasisCode = 4
number_of Regularization = 5
number_of ExternalLength = 6
number_of TooFewWells = 7
number_of NodeExternalLength = 8
number_of TooMany = 9
number_of Tolerance = 10
number_of NotFinite = 11
number_of Model = 12
number_of Dimension = 13
number_of TooFewSamples = 14
number_of Bins = 15
number_of SurveyFile = 16
number_of WorkArea = 17
number_of AnswerArea = 18
number_of Singular = 19
number_of SameSpot = 22

-- what the tests of a call come to, and how a call ends: 0 where none holds, else the number of the first that does
abbrev pub judged : {A : Type 0} → Result A Refusal → ℕ
judged (Ok _) = 0
judged (Err r) = number_of r
