-- A target's figure and variance as the code has them, b and z in the first places of longer lists: they are the paper's.
use Prim.Native.Nat.{ℕ, ◌+◌, ◌≤◌, ◌<◌}
use native.Mathlib.Numerals.{add-one}
use native.Mathlib.Omega.{arith}
use mathlib.Core.Path.{◌≡◌, refl, ap, ap₂, ◌∙◌}
use mathlib.Core.List.{List}
use lib.ListN.{length, get_or}
use lib.Ieee.{Float, nan, binary64, sub, mul}
use Rattle.area.specs.Area.{written}
use Rattle.area.proofs.Start.{from_start}
use Rattle.area.proofs.Places.{all_turns}
use Rattle.ieee.specs.Floats.{not_below_zero}
use Rattle.ieee.specs.Sums.{running_sum, less_each}
use Rattle.ieee.proofs.Sums.{same_sum, same_less}
use Rattle.elimination.specs.Inverse.{inverse_at, times_inverse}
use Rattle.interpolator_theory.specs.Call.{Query, Areas, areas_of, wells, node_count, size}
use Rattle.interpolator_theory.specs.Assembly.{right_side}
use Rattle.interpolator_theory.specs.Interpolation.{solution, figure, variance, answered}

-- ---- a loop that takes a term away a turn: before its first turn, one turn more, and where it ends
pub none_taken : (x : Float) (f : ℕ → Float) → x ≡ less_each x 0 f
unfolding less_each
none_taken x f = refl

pub taken_turn : (x : Float) (k : ℕ) (f : ℕ → Float) (rest : Float) → rest ≡ less_each x k f → sub binary64 rest (f k) ≡ less_each x (k + 1) f
unfolding less_each
taken_turn x k f rest h = rw (add-one, h)

pub all_taken : (x : Float) {j k : ℕ} (f : ℕ → Float) {rest : Float} → j ≡ k → rest ≡ less_each x j f → rest ≡ less_each x k f
all_taken x f e h = h ∙ ap (λ (n : ℕ). less_each x n f) e

-- ---- what stands in b and in z
-- b and z hold the right-hand side and the solution of the target t, from the first place on
pub record Solved (q : Query) (work : List Float) (t s : ℕ) (b z : List Float) : Type 0 where
  pub sized : s ≡ size q
  pub right : (i : ℕ) → i < s → get_or b i nan ≡ right_side q t i
  pub solved : (i : ℕ) → i < s → get_or z i nan ≡ solution q work t i

same_times : (s : ℕ) (work : List Float) (f g : ℕ → Float) (i : ℕ) → ((j : ℕ) → j < s → f j ≡ g j) → times_inverse s work f i ≡ times_inverse s work g i
unfolding times_inverse
same_times s work f g i h = same_sum s _ _ (λ j l. ap (λ (x : Float). mul binary64 (inverse_at s work i j) x) (h j l))

-- as the two fills leave them
pub filled_solved : (q : Query) (work : List Float) (t s : ℕ) (b₀ z₀ b z : List Float) (g : ℕ → Float) → s ≡ size q → g ≡ right_side q t
    → b ≡ written 0 s g b₀ → z ≡ written 0 s (times_inverse s work (λ j. get_or b j nan)) z₀ → s ≤ length b₀ → s ≤ length z₀ → Solved q work t s b z
unfolding solution
filled_solved q work t s b₀ z₀ b z g e u hb hz lb lz =
    let right : (i : ℕ) → i < s → get_or b i nan ≡ right_side q t i =
    λ i h. ap (λ (xs : List Float). get_or xs i nan) hb ∙ from_start s g b₀ i nan lb h ∙ ap (λ (f : ℕ → Float). f i) u in
    record {
      sized = e;
      right = right;
      solved = λ i h.
          ap (λ (xs : List Float). get_or xs i nan) hz
          ∙ from_start s _ z₀ i nan lz h
          ∙ same_times s work _ (right_side q t) i right
          ∙ ap (λ (n : ℕ). times_inverse n work (right_side q t) i) e;
    }

module _ (q : Query) (work : List Float) (t s : ℕ) (b z : List Float) (h : Solved q work t s b z) where
  pub figure_is : {v : Float} → v ≡ running_sum (wells q) (λ i. mul binary64 (get_or z i nan) (get_or q.values i nan)) → v ≡ figure q work t
  unfolding figure
  figure_is e =
      e
      ∙ same_sum (wells q) _ _ (λ i l.
      ap (λ (x : Float). mul binary64 x (get_or q.values i nan)) (h.solved i (omega (arith, h.sized))))

  pub variance_is : {v : Float} → v ≡ not_below_zero (less_each q.variogram.sill s (λ i. mul binary64 (get_or z i nan) (get_or b i nan)))
      → v ≡ variance q work t
  unfolding variance
  variance_is e =
      e
      ∙ ap not_below_zero (
      same_less q.variogram.sill s _ _ (λ i l. ap₂ (λ (x y : Float). mul binary64 x y) (h.solved i l) (h.right i l))
      ∙ ap (λ (n : ℕ). less_each q.variogram.sill n (λ i. mul binary64 (solution q work t i) (right_side q t i))) h.sized)

-- ---- every target: what so many turns have left in the answer areas is the answer once they are all
pub all_answered : (q : Query) (a : Areas) {m : ℕ} {fs vs : List Float} → m ≡ node_count q → fs ≡ written 0 m (figure q a.work) a.figures
    → vs ≡ written 0 m (variance q a.work) a.variances → areas_of a.work fs vs ≡ answered q a a.work
unfolding answered
all_answered q a e f v = ap₂ (λ (xs ys : List Float). areas_of a.work xs ys) (all_turns 0 _ _ e f) (all_turns 0 _ _ e v)
