-- The parts of a survey's refusal, one after another: the first that turns the survey away gives the number of the whole.
use Rattle.std.proofs.Common.{ℕ, ◌≡◌, ◌∙◌, ◌++◌, refl, sym, List, false}
use Rattle.error.specs.declared.Refusal.{Refusal}
use Rattle.error.specs.Numbers.{number_of}
use Rattle.error.specs.Tests.{Test, first_of}
use Rattle.error.proofs.First.{past, turned_away, first_later}
use Rattle.survey.specs.declared.Limits.{Limits}
use Rattle.survey.specs.Survey.{Survey, node_count}
use Rattle.survey.specs.Refusals.{wrong_coords, odd_nodes, basis_tests, node_external_tests, list_tests, limit_tests, number_tests, variogram_tests, survey_tests, survey_refusal}

abbrev lists : Survey → List Test
lists s = list_tests s (node_count s) s.node_external

abbrev limit : Limits → Survey → List Test
limit limits s = limit_tests limits s (node_count s)

abbrev numbers : Survey → List Test
numbers s = number_tests s s.node_external

abbrev variogram : Survey → List Test
variogram s = variogram_tests s.options.variogram

whole : (limits : Limits) (s : Survey) → survey_refusal limits s ≡ first_of (lists s ++ (limit limits s ++ (numbers s ++ variogram s)))
unfolding survey_refusal survey_tests
whole limits s = refl

past_lists : (limits : Limits) (s : Survey) → 0 ≡ first_of (lists s) → survey_refusal limits s ≡ first_of (limit limits s ++ (numbers s ++ variogram s))
past_lists limits s a = whole limits s ∙ first_later (lists s) _ tt (sym a)

past_limit : (limits : Limits) (s : Survey) → 0 ≡ first_of (lists s) → 0 ≡ first_of (limit limits s)
    → survey_refusal limits s ≡ first_of (numbers s ++ variogram s)
past_limit limits s a b = past_lists limits s a ∙ first_later (limit limits s) _ tt (sym b)

pub by_lists : (limits : Limits) (s : Survey) (r : Refusal) → number_of r ≡ first_of (lists s) → number_of r ≡ survey_refusal limits s
by_lists limits s r e = turned_away r (lists s) _ e ∙ sym (whole limits s)

pub by_limit : (limits : Limits) (s : Survey) (r : Refusal) → 0 ≡ first_of (lists s) → number_of r ≡ first_of (limit limits s)
    → number_of r ≡ survey_refusal limits s
by_limit limits s r a e = turned_away r (limit limits s) _ e ∙ sym (past_lists limits s a)

pub by_numbers : (limits : Limits) (s : Survey) (r : Refusal) → 0 ≡ first_of (lists s) → 0 ≡ first_of (limit limits s)
    → number_of r ≡ first_of (numbers s) → number_of r ≡ survey_refusal limits s
by_numbers limits s r a b e = turned_away r (numbers s) _ e ∙ sym (past_limit limits s a b)

pub by_variogram : (limits : Limits) (s : Survey) (n : ℕ) → 0 ≡ first_of (lists s) → 0 ≡ first_of (limit limits s)
    → 0 ≡ first_of (numbers s) → n ≡ first_of (variogram s) → n ≡ survey_refusal limits s
by_variogram limits s n a b c e = e ∙ sym (past_limit limits s a b ∙ first_later (numbers s) _ tt (sym c))

-- the codes, past the coordinates and the nodes
pub by_codes : (s : Survey) (m : ℕ) (r : Refusal) → wrong_coords s ≡ false → odd_nodes s ≡ false → number_of r ≡ first_of (basis_tests s)
    → number_of r ≡ first_of (list_tests s m s.node_external)
by_codes s m r a b e = turned_away r (basis_tests s) (node_external_tests s m s.node_external) e ∙ sym (past 1 _ a ∙ past 2 _ b)
