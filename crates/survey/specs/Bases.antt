-- The drift bases by their codes: "basis codes 1 Constant, 2 Linear, 3 Quadratic, 4 External, giving 1, 3, 6, 1 columns".
use Rattle.std.specs.Prelude.{ℕ, cond, eqb, Result, Ok, Err}
use Rattle.survey.specs.declared.DriftBasis.{DriftBasis}
use Rattle.survey.specs.declared.DriftBasis.TheVariants.{Constant, Linear, Quadratic, External}
use Rattle.survey.specs.declared.UnknownBasis.{UnknownBasis}

-- the basis of a code; any other number is the code of none, and comes back
abbrev pub basis_of : ℕ → Result DriftBasis UnknownBasis
basis_of code =
    cond (eqb code 1) (Ok Constant)
    (cond (eqb code 2) (Ok Linear)
    (cond (eqb code 3) (Ok Quadratic)
    (cond (eqb code 4) (Ok External) (Err (record { code = code })))))

abbrev pub basis_columns : DriftBasis → ℕ
basis_columns Constant = 1
basis_columns Linear = 3
basis_columns Quadratic = 6
basis_columns External = 1
