-- What an audit reads, as it lies in lists: the weights, F row after row, the node's f0 and the values.
use Rattle.std.specs.Prelude.{ℕ, ◌+◌, ◌*◌, T, List, length, get_or, Float}
use Rattle.std.specs.Float.{nan, binary64}
use Rattle.std.specs.Float.Ieee.{fits}
use Rattle.audit.specs.Audit.{Weighed, Audited}

-- number i of a list. What is past a list's end is no number.
abbrev pub number_in : List Float → ℕ → Float
number_in xs i = get_or xs i nan

-- each number of a list is an f64
abbrev pub AllFit : List Float → Type 0
AllFit xs = (i : ℕ) → T (fits binary64 (number_in xs i))

-- "F entry": row i, column j of a list that holds rows of p numbers one after another
abbrev pub entry_in : List Float → ℕ → ℕ → ℕ → Float
entry_in F p i j = number_in F (i * p + j)

-- "over the n weights", rows "1..p": n and p are the lengths of the weights and of f0
abbrev pub weighed_in : List Float → List Float → List Float → Float → Weighed
weighed_in weights F f0 t = record {
  n = length weights;
  p = length f0;
  weight = number_in weights;
  drift = entry_in F (length f0);
  node_drift = number_in f0;
  tolerance = t;
}

-- "Σ z_i·value_i", "figure": and the values in a list
abbrev pub audited_in : Weighed → List Float → Float → Audited
audited_in w values figure = record { weighed = w; value = number_in values; figure = figure }
