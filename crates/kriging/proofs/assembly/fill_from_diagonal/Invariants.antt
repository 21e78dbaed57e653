-- `kriging::assembly::fill_from_diagonal` meets its contract: at column j the area is what the stores from the diagonal on wrote.
use Rattle.std.proofs.Common.{◌≡◌, ◌+◌, ◌-◌, ◌*◌, ◌≤◌, length}
use Rattle.area.specs.Area.{written}
use Rattle.survey.specs.Lent.{survey_lent}
use Rattle.survey.specs.Survey.{size}
use Rattle.kriging_theory.specs.Assembly.{entry}
use Rattle.kriging.proofs.assembly.fill_from_diagonal.Given as goal

abbrev pub invariant-loop-j : goal.invariant-loop-j
invariant-loop-j l =
    let s = survey_lent l.drift.taken.now.survey.now in
    record {
      from : l.i ≤ l.j;
      long : length l.work ≡ length l.initial.work;
      filled : l.work ≡ written (l.i * (2 * size s) + l.i) (l.j - l.i) (λ c. entry s l.i (l.i + c)) l.initial.work;
    }
