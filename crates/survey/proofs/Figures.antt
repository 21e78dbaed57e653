-- The capacities by their figures: what is computed from the limits is what the paper says.
use mathlib.Core.Path.{◌≡◌, refl}
use Rattle.survey.specs.Limits.{library, program, most_size, most_drift, program_size}

-- "The library now takes up to 96 wells, so s reaches 108"
pub library_wells : library.wells ≡ 96
library_wells = refl

pub most_size_lem : most_size ≡ 108
most_size_lem = refl

-- how many numbers F has at most, 96 wells of 12 columns
pub most_drift_lem : most_drift ≡ 1152
most_drift_lem = refl

-- "`wellmap` gives 9 above 48"
pub program_wells : program.wells ≡ 48
program_wells = refl

pub program_size_lem : program_size ≡ 60
program_size_lem = refl
