-- The reader's areas as a program lends them, and as everything here speaks of them.
use Rattle.std.specs.Prelude.{◌≡◌}
use Rattle.survey_file_theory.specs.declared.Areas as Declared
use Rattle.survey_file_theory.specs.Areas.{Areas}

-- what lent areas hold
abbrev pub areas_lent : Declared.Areas → Areas
areas_lent a =
    record {
      values = a.values.now;
      coords = a.coords.now;
      bases = a.bases.now;
      external = a.external.now;
      nodes = a.nodes.now;
      node_external = a.node_external.now;
    }

-- areas that are still the same places of memory, whatever they hold
pub record StillLent (a b : Declared.Areas) : Type 0 where
  pub values : b.values.ghost_name ≡ a.values.ghost_name
  pub coords : b.coords.ghost_name ≡ a.coords.ghost_name
  pub bases : b.bases.ghost_name ≡ a.bases.ghost_name
  pub external : b.external.ghost_name ≡ a.external.ghost_name
  pub nodes : b.nodes.ghost_name ≡ a.nodes.ghost_name
  pub node_external : b.node_external.ghost_name ≡ a.node_external.ghost_name
