-- The semivariogram's call: its number, how many bins are kept, and its areas at exit.
use Rattle.std.specs.Prelude.{ℕ, zero, suc, length}
use Rattle.survey.specs.declared.Limits.{Limits}
use Rattle.semivariogram_theory.specs.Call.{Samples, Areas, Outcome}
use Rattle.semivariogram_theory.specs.Refusals.{refusal}
use Rattle.semivariogram_theory.specs.Bins.{kept_bins, filled}

-- the call by its refusal: "A refusal carries only its number and writes nothing"; else "how many is returned"
unfoldable pub call_where : ℕ → Samples → Areas → Outcome
unfolding kept_bins filled
call_where zero q a = record { number = 0; kept = length (kept_bins q); areas = filled q a }
call_where (suc k) q a = record { number = suc k; kept = 0; areas = a }

-- the whole call
unfoldable pub calculated : Limits → Samples → Areas → Outcome
unfolding call_where refusal
calculated limits q a = call_where (refusal limits q a) q a
