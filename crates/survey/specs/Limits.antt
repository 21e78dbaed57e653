-- "9 n > 48, p > 12 or m > 100", of which paper 02 says: "Number 9 reads n > 96 in place of n > 48 in the library calls".
use Rattle.std.specs.Prelude.{ℕ, ◌+◌, ◌*◌}
use Rattle.survey.specs.declared.Limits.{Limits}

-- "The library now takes up to 96 wells": the limits of every call of the library
abbrev pub library : Limits
library = record { wells = 96; columns = 12; nodes = 100 }

-- "`wellmap` gives 9 above 48": the limits of the program
abbrev pub program : Limits
program = record { wells = 48; columns = library.columns; nodes = library.nodes }

-- what follows from them: "so s reaches 108", and how many numbers F has at most
abbrev pub most_size : ℕ
most_size = library.wells + library.columns

abbrev pub most_drift : ℕ
most_drift = library.wells * library.columns

-- the greatest s of the program
abbrev pub program_size : ℕ
program_size = program.wells + program.columns
