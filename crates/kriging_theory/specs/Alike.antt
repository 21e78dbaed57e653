-- Two surveys that differ at most in their nodes, two nodes alike, and two answers alike.
use Rattle.std.specs.Prelude.{ℕ, ◌+◌, ◌*◌, ◌<◌, ◌≡◌, get_or}
use Rattle.std.specs.Float.{nan}
use Rattle.survey.specs.Survey.{Survey, wells, columns, externals, node_x, node_y, node_external_at}
use Rattle.kriging_theory.specs.Areas.{Areas}

-- the same in everything but the lists of nodes
pub record SameWells (s t : Survey) : Type 0 where
  pub values : s.values ≡ t.values
  pub coords : s.coords ≡ t.coords
  pub bases : s.bases ≡ t.bases
  pub external : s.external ≡ t.external
  pub options : s.options ≡ t.options
  pub tolerance : s.tolerance ≡ t.tolerance

-- node q of s is where node r of t is, and has its external values
pub record SameNode (s t : Survey) (q r : ℕ) : Type 0 where
  pub x : node_x s q ≡ node_x t r
  pub y : node_y s q ≡ node_y t r
  pub external : (c : ℕ) → c < externals s → node_external_at s q c ≡ node_external_at t r c

-- what the answer areas a hold at node q of s is what b hold at node r of t
pub record SameAnswer (s t : Survey) (q r : ℕ) (a b : Areas) : Type 0 where
  pub figure : get_or a.predicted q nan ≡ get_or b.predicted r nan
  pub variance : get_or a.variance q nan ≡ get_or b.variance r nan
  pub verdict : get_or a.verdicts q 0 ≡ get_or b.verdicts r 0
  pub weight : (i : ℕ) → i < wells s → get_or a.weights (q * wells s + i) nan ≡ get_or b.weights (r * wells t + i) nan

-- the trends of s are the same: "It doesn't depend on the nodes"
abbrev pub SameTrend : Survey → Areas → Areas → Type 0
SameTrend s a b = (j : ℕ) → j < columns s → get_or a.trend j nan ≡ get_or b.trend j nan

-- the multipliers of s are the same
abbrev pub SameMultipliers : Survey → Areas → Areas → Type 0
SameMultipliers s a b = (j : ℕ) → j < columns s → get_or a.multipliers j nan ≡ get_or b.multipliers j nan

-- the same in everything but the values, of which there are as many
pub record SameButValues (s t : Survey) : Type 0 where
  pub wells : wells s ≡ wells t
  pub coords : s.coords ≡ t.coords
  pub bases : s.bases ≡ t.bases
  pub external : s.external ≡ t.external
  pub nodes : s.nodes ≡ t.nodes
  pub node_external : s.node_external ≡ t.node_external
  pub options : s.options ≡ t.options
  pub tolerance : s.tolerance ≡ t.tolerance
