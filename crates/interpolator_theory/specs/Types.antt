-- The kriging types by their codes, in the enum's order: the codes that other languages and stored answers have for them.
use Rattle.std.specs.Prelude.{ℕ, eqb, cond, Result, Ok, Err}
use Rattle.interpolator_theory.specs.declared.KrigingType.{KrigingType}
use Rattle.interpolator_theory.specs.declared.KrigingType.TheVariants.{Ordinary, Universal}
use Rattle.interpolator_theory.specs.declared.UnknownType.{UnknownType}

-- the type of a code, of which there are no others
abbrev pub type_of : ℕ → Result KrigingType UnknownType
type_of code = cond (eqb code 1) (Ok Ordinary) (cond (eqb code 2) (Ok Universal) (Err (record {})))
