-- A survey that comes in. Which numbers come in no contract can say: each says of a result that some such words give it.
use Rattle.std.specs.Prelude.{◌≡◌, ℕ, List, Float}
use Rattle.survey.specs.declared.UniversalKrigingOptions.{UniversalKrigingOptions}
use Rattle.survey.specs.Survey.{Survey, survey_of}
use Rattle.vectors.specs.declared.surveys.Lists.{Lists}
use Rattle.vectors.specs.Lent.{between}
use Rattle.vectors.specs.Words.{FloatIn, EndIn, VariogramIn}

-- where each list ends, one after another: the values end at a place that is told
pub record ListsIn (values : ℕ) (l : Lists) : Type 0 where
  pub first : l.values ≡ values
  pub coords_came : EndIn l.values l.coords
  pub external_came : EndIn l.coords l.external
  pub nodes_came : EndIn l.external l.nodes
  pub node_external_came : EndIn l.nodes l.node_external

-- a variogram, and then a regularisation
pub record OptionsIn (o : UniversalKrigingOptions) : Type 0 where
  pub variogram_came : VariogramIn o.variogram
  pub regularization_came : FloatIn o.regularization

-- the survey whose lists are these of the numbers
abbrev pub survey_among : Lists → List Float → List ℕ → UniversalKrigingOptions → Float → Survey
survey_among l numbers bases options tolerance =
    survey_of (between 0 l.values numbers) (between l.values l.coords numbers) bases (between l.coords l.external numbers) options
    (between l.external l.nodes numbers) (between l.nodes l.node_external numbers) tolerance
