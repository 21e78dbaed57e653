-- The program's own areas are as long as they can be needed: no file's list and no fit's answer is longer.
use Prim.Native.Nat.{ℕ, ◌+◌, ◌*◌, ◌≤◌}
use native.Mathlib.Decide.{dec_lt}
use native.Mathlib.Omega.{arith}
use mathlib.Core.Path.{◌≡◌}
use mathlib.Core.List.{List}
use lib.ListN.{length, length-replicate}
use Rattle.ieee.specs.Floats.{zero_float}
use Rattle.survey_file_theory.specs.File.{newest_version}
use Rattle.survey_file_theory.specs.Trailer.{start_in, wells_in, nodes_in, bases_in, externals_in}
use Rattle.survey_file_theory.specs.Rules.{WellFormed, ListsFit}
use Rattle.survey_map.specs.Areas.{most_numbers, most_codes, own_lists, most_nodes, most_columns, most_work, most_weights, own_areas}

-- ---- the lists
pub own_values : length own_lists.values ≡ most_numbers
unfolding own_lists
own_values = length-replicate most_numbers zero_float

pub own_coords : length own_lists.coords ≡ most_numbers
unfolding own_lists
own_coords = length-replicate most_numbers zero_float

pub own_bases : length own_lists.bases ≡ most_codes
unfolding own_lists
own_bases = length-replicate {A = ℕ} most_codes 0

pub own_external : length own_lists.external ≡ most_numbers
unfolding own_lists
own_external = length-replicate most_numbers zero_float

pub own_nodes : length own_lists.nodes ≡ most_numbers
unfolding own_lists
own_nodes = length-replicate most_numbers zero_float

pub own_node_external : length own_lists.node_external ≡ most_numbers
unfolding own_lists
own_node_external = length-replicate most_numbers zero_float

-- externals beside what they belong to: with none of the latter there are none
beside : (k n rest : ℕ) → 2 * n + k * n + rest ≤ 8185 → k * n ≤ 8183
beside k n rest h =
    elim (dec_lt 0 n) [
      | yes p ↦ omega arith
      | no z ↦ let e : n ≡ 0 = omega arith in rw e (omega arith)
    ]

-- whatever a readable file can hold
pub lists_fit : (bytes : List ℕ) → WellFormed newest_version bytes → ListsFit bytes own_lists
lists_fit bytes w =
    let k = externals_in bytes in
    let n = wells_in bytes in
    let m = nodes_in bytes in
    let meet : length bytes ≡ start_in bytes + 8 * (5 + 3 * n + k * n + 2 * m + k * m) + bases_in bytes + 14 = w.meet in
    let most = w.most in
    let wide = beside k n (n + 2 * m + k * m) (omega arith) in
    let Node-wide = beside k m (3 * n + k * n) (omega arith) in
    record {
      values = omega (arith, own_values);
      coords = omega (arith, own_coords);
      bases = omega (arith, own_bases);
      external = omega (arith, own_external);
      nodes = omega (arith, own_nodes);
      node_external = omega (arith, own_node_external);
    }

-- ---- the answer
pub own_work : length own_areas.work ≡ most_work
unfolding own_areas
own_work = length-replicate most_work zero_float

pub own_predicted : length own_areas.predicted ≡ most_nodes
unfolding own_areas
own_predicted = length-replicate most_nodes zero_float

pub own_variance : length own_areas.variance ≡ most_nodes
unfolding own_areas
own_variance = length-replicate most_nodes zero_float

pub own_verdicts : length own_areas.verdicts ≡ most_nodes
unfolding own_areas
own_verdicts = length-replicate {A = ℕ} most_nodes 0

pub own_weights : length own_areas.weights ≡ most_weights
unfolding own_areas
own_weights = length-replicate most_weights zero_float

pub own_multipliers : length own_areas.multipliers ≡ most_columns
unfolding own_areas
own_multipliers = length-replicate most_columns zero_float

pub own_trend : length own_areas.trend ≡ most_columns
unfolding own_areas
own_trend = length-replicate most_columns zero_float
