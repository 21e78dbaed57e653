-- "Kinds in document 001: 1, 2, 6 DimensionMismatch; 3 InvalidInput; 5 InvalidParameter; 7, 14 InsufficientData; 8 either of the first two; 19 MatrixError."
-- Of 8's two kinds this is the first. The numbers that the papers add have none in document 001, and are Added here.
use Rattle.error.specs.declared.Refusal.{Refusal}
use Rattle.error.specs.declared.Refusal.TheVariants.{CoordinatesLength, NodesLength, NoBasis, BasisCode, Regularization, ExternalLength}
use Rattle.error.specs.declared.Refusal.TheVariants.{TooFewWells, NodeExternalLength, TooMany, Tolerance, NotFinite, Model, Dimension}
use Rattle.error.specs.declared.Refusal.TheVariants.{TooFewSamples, Bins, SurveyFile, WorkArea, AnswerArea, Singular, SameSpot}
use Rattle.error.specs.declared.ErrorKind.{ErrorKind}
use Rattle.error.specs.declared.ErrorKind.TheVariants.{InvalidInput, InsufficientData, MatrixError, DimensionMismatch, InvalidParameter, Added}

abbrev pub kind_of : Refusal → ErrorKind
kind_of CoordinatesLength = DimensionMismatch
kind_of NodesLength = DimensionMismatch
kind_of NoBasis = InvalidInput
kind_of BasisCode = Added
kind_of Regularization = InvalidParameter
kind_of ExternalLength = DimensionMismatch
kind_of TooFewWells = InsufficientData
kind_of NodeExternalLength = DimensionMismatch
kind_of TooMany = Added
kind_of Tolerance = Added
kind_of NotFinite = Added
kind_of Model = Added
kind_of Dimension = Added
kind_of TooFewSamples = InsufficientData
kind_of Bins = Added
kind_of SurveyFile = Added
kind_of WorkArea = Added
kind_of AnswerArea = Added
kind_of Singular = MatrixError
kind_of SameSpot = Added
