-- Each number of the case stands where specs/Places says, by computation.
use mathlib.Core.Path.{refl}
use Rattle.survey.specs.Places.{Places}

pub places : Places
places = record {
  three_wells_lem = refl;
  two_nodes = refl;
  twelve_columns = refl;
  two_externals_lem = refl;
  fifteen_rows = refl;
  well_value = refl;
  well_x_lem = refl;
  well_y_lem = refl;
  node_x_lem = refl;
  node_y_lem = refl;
  first_column = refl;
  second_column = refl;
  first_node = refl;
  second_node = refl;
}
