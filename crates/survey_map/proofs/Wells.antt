-- What is printed above 48 wells, and up to them.
use Prim.Native.Nat.{ℕ, zero, suc}
use native.Mathlib.Omega.{arith}
use mathlib.Core.Path.{◌≡◌, refl, ap}
use mathlib.Core.Logic.{◌≢◌}
use Rattle.error.specs.Outcome.{Outcome}
use Rattle.error.specs.Rules.{First}
use Rattle.error.proofs.Rules.{ruled_exactly}
use Rattle.error.proofs.Tells.{stable, equal}
use Rattle.survey.specs.Limits.{program}
use Rattle.survey.specs.Survey.{Survey}
use Rattle.kriging_theory.specs.Areas.{Areas}
use Rattle.kriging_theory.specs.Rules.{rules}
use Rattle.kriging_theory.specs.Refusals.{refusal}
use Rattle.kriging_theory.specs.Fit.{fitted}
use Rattle.kriging_theory.proofs.Endings.{told, fit_ends, first_in_a_fit}
use Rattle.kriging_theory.proofs.Limits.{up_to_48}
use Rattle.report.specs.Listing.{refused_text}
use Rattle.survey_map.specs.Areas.{own_areas}
use Rattle.survey_map.specs.Text.{fit_text, survey_text, NineAbove48, LibraryUpTo48}
use Rattle.survey_map.proofs.Ample.{first, apart}

module _ (s : Survey) where
  -- a refusal's number is printed
  number_printed : (k : ℕ) → k ≢ 0 → (fitted program s own_areas).number ≡ k → survey_text s ≡ refused_text k
  unfolding survey_text
  number_printed zero z e = absurd (z refl)
  number_printed (suc k) z e = rw e

  nine_printed : First (rules program s own_areas) 9 → survey_text s ≡ refused_text 9
  unfolding refusal
  nine_printed f =
      let r = ((first_in_a_fit program s own_areas 9).1 f).0 in
      let given = ((fit_ends program s own_areas).refused 9 (λ x. omega arith) (λ x. omega arith)).1 ((ruled_exactly (told program s own_areas) 9).0 r) in
      number_printed 9 (λ x. omega arith) given

  nine_given : survey_text s ≡ refused_text 9 → (fitted program s own_areas).number ≡ 9
  nine_given e = stable (equal (fitted program s own_areas).number 9) (λ n. apart s 9 n e)

  pub nine_above_48 : NineAbove48 s
  nine_above_48 = (
    λ e. let f = first s 9 (λ x. omega arith) (λ x. omega arith) (nine_given e) in (f.none_before, f.applies),
    λ x. nine_printed (record { applies = x.1; none_before = x.0 }),
  )

  pub library_up_to_48 : LibraryUpTo48 s
  unfolding survey_text
  library_up_to_48 few = ap (λ (o : Outcome Areas). fit_text o.number s o.areas) (up_to_48 s own_areas few)
