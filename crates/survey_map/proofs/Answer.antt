-- What an accepted fit leaves in the program's own areas: they are as long as they were, and as long as its listing needs, which is the program's text.
use Prim.Native.Nat.{ℕ, ◌≤◌}
use native.Mathlib.Omega.{arith}
use mathlib.Core.Path.{◌≡◌, ap, ap₂, sym, subst, ◌∙◌}
use mathlib.Core.List.{List}
use lib.ListN.{length, take}
use lib.Seq.{length-take-le}
use Rattle.error.specs.Outcome.{Outcome, outcome}
use Rattle.survey.specs.Limits.{program}
use Rattle.survey.specs.Survey.{Survey, node_count, columns, columns_held}
use Rattle.survey.specs.declared.Survey as Declared
use Rattle.survey.specs.Lent.{survey_lent}
use Rattle.kriging.specs.declared.Areas as Lent
use Rattle.kriging.specs.Lent.{areas_lent}
use Rattle.survey.proofs.Codes.{held_exact}
use Rattle.kriging_theory.specs.Areas.{Areas}
use Rattle.kriging_theory.specs.Fit.{fitted}
use Rattle.kriging_theory.specs.Untouched.{Untouched}
use Rattle.kriging_theory.proofs.Endings.{untouched, few_columns, predicted_long}
use Rattle.report.specs.Listing.{listing, longest}
use Rattle.report.specs.Printed.{Outcome as Printing, printed, listed, Even}
use Rattle.report.proofs.Answers.{even_listed}
use Rattle.survey_map.specs.Areas.{own_areas}
use Rattle.survey_map.specs.Text.{survey_text}
use Rattle.survey_map.proofs.Own.{own_predicted, own_variance, own_verdicts, own_multipliers, own_trend}
use Rattle.survey_map.proofs.Texts.{done_text}

module _ (s : Survey) (a : Areas) (e : outcome 0 a ≡ fitted program s own_areas) where
  kept : Untouched s own_areas a
  kept = subst (Untouched s own_areas) (sym (ap (λ (o : Outcome Areas). o.areas) e)) (untouched program s own_areas)

  done : (fitted program s own_areas).number ≡ 0
  done = sym (ap (λ (o : Outcome Areas). o.number) e)

  few_nodes : node_count s ≤ 100
  few_nodes = omega (arith, predicted_long program s own_areas done, own_predicted)

-- as they are lent, and so many nodes and columns of it
module _ (t : Declared.Survey) (b : Lent.Areas) (e : outcome 0 (areas_lent b) ≡ fitted program (survey_lent t) own_areas) where
  abbrev s : Survey
  s = survey_lent t

  m_most : node_count s ≤ 100
  m_most = few_nodes s (areas_lent b) e

  p_most : columns s ≤ 12
  p_most = few_columns program s own_areas (done s (areas_lent b) e)

  abbrev text : ℕ → ℕ → List ℕ
  text m p = listing (take m b.predicted.now) (take m b.variance.now) (take m b.verdicts.now) (take p b.multipliers.now) (take p b.trend.now)

  module _ {m p : ℕ} (nodes : m ≡ node_count s) (counted : p ≡ columns_held s.bases) where
    abbrev same : Untouched s own_areas (areas_lent b)
    same = kept s (areas_lent b) e

    width : p ≡ columns s
    width = counted ∙ held_exact s.bases (let h = p_most in omega arith)

    -- what the listing asks
    pub in_predicted : m ≡ length (take m b.predicted.now)
    in_predicted = sym (length-take-le m b.predicted.now (omega (arith, m_most, same.predicted.len, own_predicted)))

    pub in_variance : m ≡ length (take m b.variance.now)
    in_variance = sym (length-take-le m b.variance.now (omega (arith, m_most, same.variance.len, own_variance)))

    pub in_verdicts : m ≡ length (take m b.verdicts.now)
    in_verdicts = sym (length-take-le m b.verdicts.now (omega (arith, m_most, same.verdicts.len, own_verdicts)))

    pub in_multipliers : p ≡ length (take p b.multipliers.now)
    in_multipliers = sym (length-take-le p b.multipliers.now (omega (arith, width, p_most, same.multipliers.len, own_multipliers)))

    pub in_trend : p ≡ length (take p b.trend.now)
    in_trend = sym (length-take-le p b.trend.now (omega (arith, width, p_most, same.trend.len, own_trend)))

    is_text : text m p ≡ survey_text s
    is_text = ap₂ text nodes width ∙ done_text s (areas_lent b) e

    even : Even (take m b.predicted.now) (take m b.variance.now) (take m b.verdicts.now) (take p b.multipliers.now) (take p b.trend.now)
    even =
        record {
          figure_each = sym in_predicted ∙ in_verdicts;
          variance_each = sym in_variance ∙ in_verdicts;
          trend_each = sym in_trend ∙ in_multipliers;
        }

    pub answer_printed : {o : Printing} (area : List ℕ)
        → o ≡ listed (take m b.predicted.now) (take m b.variance.now) (take m b.verdicts.now) (take p b.multipliers.now) (take p b.trend.now) area
        → o ≡ printed (survey_text s) area
    answer_printed area told = told ∙ sym (even_listed _ _ _ _ _ area even) ∙ ap (λ (t : List ℕ). printed t area) is_text

    pub answer_longest : (length (take m b.verdicts.now) ≤ 100 → length (take p b.multipliers.now) ≤ 12 → length (take p b.trend.now) ≤ 12
        → length (text m p) ≤ longest) → length (survey_text s) ≤ longest
    answer_longest told =
        rw (← is_text)
        (told (omega (arith, m_most, in_verdicts)) (omega (arith, width, p_most, in_multipliers)) (omega (arith, width, p_most, in_trend)))

-- what `print_answer` is proved by
pub ruleset listable = (in_predicted, in_variance, in_verdicts, in_multipliers, in_trend, answer_printed, answer_longest)
