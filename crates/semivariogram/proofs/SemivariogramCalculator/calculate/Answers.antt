-- `SemivariogramCalculator::calculate` meets its contract: it is refused as the definition says, and else has its bins.
use Rattle.std.proofs.Common.{rules, ◌≡◌, sym, ap, ◌∙◌}
use Rattle.std.proofs.lemmas.Result.{err_from_is_err_and}
use Rattle.error.specs.Numbers.{number_of}
use Rattle.survey.specs.declared.Limits.{Limits}
use Rattle.survey.specs.Limits.{library}
use Rattle.semivariogram_theory.specs.Call.{Samples, Areas, samples_of, areas_of}
use Rattle.semivariogram_theory.specs.Refusals.{refusal}
use Rattle.semivariogram_theory.proofs.Accepted.{Accepted, accepted, few_samples}
use Rattle.semivariogram.specs.Called.{held}
use Rattle.semivariogram.proofs.Whole.{refused_is, done_is, has_ends}
use Rattle.semivariogram.proofs.SemivariogramCalculator.calculate.Goals as goal

pub returns-in_err-calculate_refusal : goal.returns-in_err-calculate_refusal
returns-in_err-calculate_refusal c =
    let q : Samples = let a = c.args in samples_of a.points.now a.values.now a.d a.n_bins in
    let lent : Areas = let a = c.args in areas_of a.distances.now a.semivariances.now a.counts.now in
    let r = c.in_err-calculate_refusal.field-0.0 in
    let said : number_of r ≡ refusal library q lent = c.in_err-calculate_refusal.ensures ∙ ap (λ (l : Limits). refusal l q lent) c.library.ensures in
    let told = has_ends library q lent _ (refused_is library q lent r said) in
    let p = err_from_is_err_and c.from_residual.result c.from_residual.ensures.1 in
    rw (p.1, p.2) (record { is = told.0; ends = told.1 })

pub invariant_of-samples : goal.invariant_of-samples
invariant_of-samples c =
    let q : Samples = let a = c.args in samples_of a.points.now a.values.now a.d a.n_bins in
    let lent : Areas = let a = c.args in areas_of a.distances.now a.semivariances.now a.counts.now in
    let none : refusal library q lent ≡ 0 = sym (c.in_ok-calculate_refusal.ensures ∙ ap (λ (l : Limits). refusal l q lent) c.library.ensures) in
    let k : Accepted q lent = accepted library q lent none in
    record { dimension = k.dimension; few = few_samples library q lent none; rows = k.points; coordinates = k.coordinates; bins = k.bins }

pub kept_bins-requires : goal.kept_bins-requires
kept_bins-requires c =
    let q : Samples = let a = c.args in samples_of a.points.now a.values.now a.d a.n_bins in
    let lent : Areas = let a = c.args in areas_of a.distances.now a.semivariances.now a.counts.now in
    let none : refusal library q lent ≡ 0 = sym (c.in_ok-calculate_refusal.ensures ∙ ap (λ (l : Limits). refusal l q lent) c.library.ensures) in
    let k : Accepted q lent = accepted library q lent none in
    (k.distances, (k.semivariances, (k.counts, tt)))

pub returns : goal.returns
returns c =
    let q : Samples = let a = c.args in samples_of a.points.now a.values.now a.d a.n_bins in
    let lent : Areas = let a = c.args in areas_of a.distances.now a.semivariances.now a.counts.now in
    let none : refusal library q lent ≡ 0 = sym (c.in_ok-calculate_refusal.ensures ∙ ap (λ (l : Limits). refusal l q lent) c.library.ensures) in
    let k = c.kept_bins in
    let told = has_ends library q lent _ (done_is library q lent (held k.new.areas) k.result
    (search rules) (search rules) (search rules) none k.ensures.kept k.ensures.filled) in
    record { is = told.0; ends = told.1 }
