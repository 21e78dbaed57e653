-- `variogram::Variogram::evaluate_by` meets its contract: the zero test first, then each arm by the model that it is c.
use mathlib.Core.Path.{◌∙◌, sym}
use Rattle.variogram.specs.declared.VariogramModel.TheVariants.{Spherical, Exponential, Gaussian, Linear}
use Rattle.variogram.specs.Model.{exponential_model, gaussian, linear}
use Rattle.variogram.proofs.Model.{lent_same_spot, lent_model, spherical_far, spherical_near}
use Rattle.variogram.proofs.Variogram.evaluate_by.Goals as goal

pub returns-then-h-self : goal.returns-then-h-self
returns-then-h-self c = sym (lent_same_spot _ _ _ c.if-h-self.true)

pub returns-then-h-self-2 : goal.returns-then-h-self-2
returns-then-h-self-2 c =
    sym (lent_model _ _ _ Spherical c.if-h-self.false c.in-Spherical.is ∙ spherical_far _ _ _ _ c.if-h-self-2.true)

pub returns-else-h-self-2 : goal.returns-else-h-self-2
returns-else-h-self-2 c =
    sym (lent_model _ _ _ Spherical c.if-h-self.false c.in-Spherical.is ∙ spherical_near _ _ _ _ c.if-h-self-2.false)

pub returns-in-Exponential : goal.returns-in-Exponential
unfolding exponential_model
returns-in-Exponential c =
    rw c.exp_neg_by.ensures (sym (lent_model _ _ _ Exponential c.if-h-self.false c.in-Exponential.is))

pub returns-in-Gaussian : goal.returns-in-Gaussian
unfolding gaussian
returns-in-Gaussian c =
    rw c.exp_neg_by-in-Gaussian.ensures (sym (lent_model _ _ _ Gaussian c.if-h-self.false c.in-Gaussian.is))

pub returns-in-Linear : goal.returns-in-Linear
unfolding linear
returns-in-Linear c =
    rw c.min.ensures (sym (lent_model _ _ _ Linear c.if-h-self.false c.in-Linear.is))
