-- One turn of a loop that compares place after place.
use Rattle.std.proofs.Common.{◌≡◌, ℕ, ◌+◌, List, ◌∙◌, add-one}
use Rattle.vectors.specs.declared.Tally.{Tally}
use Rattle.vectors.specs.declared.counts.Calls.{Calls}
use Rattle.vectors.specs.Lent.{compared_at, compared_to}

pub next_compared : (here mark : ℕ → ℕ) (told : List ℕ) (written at : ℕ) (counts₀ counts after : Tally × Calls) (h m : ℕ)
    → h ≡ here at → m ≡ mark at → counts ≡ compared_to here mark told written at counts₀
    → after ≡ compared_at h m at told written counts → after ≡ compared_to here mark told written (at + 1) counts₀
unfolding compared_to
next_compared here mark told written at counts₀ counts after h m e f past turn = turn ∙ rw (add-one at, e, f, past)
