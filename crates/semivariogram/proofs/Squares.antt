-- The squared distances of a call that is not refused: their signs, their roots, and the root of the greatest.
use Rattle.std.proofs.Common.{◌≡◌, ℕ, zero, suc, ◌+◌, ◌*◌, ◌<◌, Bool, true, false, cond, T, List, [], ◌∷◌, map, length, sym, refl, ap, ◌∙◌, ap₂, true≢false, mul-pos, zero-mul, arith, ne_eqb}
use mathlib.Core.List.{Memᴰ}
use lib.Ieee.{Float, nan, inf, fin, binary64, fits, up, down, of_bits, of_int, div, lt}
use lib.Ieee.Back.{round_whole}
use lib.Ieee.Exact.{HasValue}
use lib.Ieee.Fits.{down_pos, add-fits}
use Rattle.area.proofs.Rows.{row_end}
use Rattle.ieee.specs.Floats.{zero_float, max_of}
use Rattle.ieee.specs.Root.{sqrt_of}
use Rattle.ieee.specs.Sums.{add_each}
use Rattle.ieee.specs.Values.{Signed, infinite, number}
use Rattle.ieee.proofs.RootOrder.{root_of_max}
use Rattle.ieee.proofs.Signs.{round_signed}
use Rattle.variogram.specs.Distance.{squares, axis_from, distance}
use Rattle.variogram.proofs.Distance.{is_offered, distance_offered}
use Rattle.variogram.proofs.Signs.{squares_clear}
use Rattle.semivariogram_theory.specs.Pairs.{Pair, pair, pairs}
use Rattle.semivariogram_theory.specs.Call.{Samples, Areas, samples}
use Rattle.semivariogram_theory.specs.Bins.{as_float, lag, greatest, longest, width}
use Rattle.semivariogram_theory.proofs.Accepted.{Accepted}
use Rattle.semivariogram_theory.proofs.Farthest.{longest_clear}
use Rattle.semivariogram_theory.proofs.Pairs.{every_pair}
use Rattle.semivariogram.specs.Parts.{Taken, square_in}

-- ---- each of them
squares_in : (a b : ℕ → Float) (k : ℕ) → T (fits binary64 (squares a b k))
unfolding add_each of_bits fits
squares_in a b zero = tt
squares_in a b (suc k) = add-fits binary64 _ _

pub square_in_lem : (points : List Float) (d : ℕ) (p : Pair) → T (fits binary64 (square_in points d p))
square_in_lem points d p = squares_in (axis_from points (p.one * d)) (axis_from points (p.other * d)) d

module _ (q : Samples) (t : Taken q) where
  pub square_clear : (p : Pair) → p.one < p.other → p.other < samples q → Signed false (square_in q.points q.dimension p)
  square_clear p l m =
      let d : ℕ = q.dimension in
      let n : ℕ = samples q in
      let long : length q.points ≡ n * d = t.points in
      squares_clear (axis_from q.points (p.one * d)) (axis_from q.points (p.other * d)) d
      (λ c i. let b : p.one < n = omega arith in t.coordinates (p.one * d + c) (omega (arith, row_end d p.one n b)))
      (λ c i. t.coordinates (p.other * d + c) (omega (arith, row_end d p.other n m)))

  -- its root is the distance
  pub root_is : (i j : ℕ) → distance q.points i q.points j q.dimension ≡ sqrt_of (square_in q.points q.dimension (pair i j))
  root_is i j = distance_offered q.points i q.points j q.dimension (is_offered q.dimension t.dimension.0 t.dimension.1)

  pub lag_is : (p : Pair) → lag q p ≡ sqrt_of (square_in q.points q.dimension p)
  unfolding lag
  lag_is p = root_is p.one p.other

-- ---- the greatest
greatest_roots : (f g : Pair → Float) (ps : List Pair) (m : Float) → ((p : Pair) → g p ≡ sqrt_of (f p))
    → ((p : Pair) → Memᴰ p ps → Signed false (f p)) → ((p : Pair) → T (fits binary64 (f p))) → Signed false m → T (fits binary64 m)
    → greatest (sqrt_of m) (map g ps) ≡ sqrt_of (greatest m (map f ps))
unfolding greatest
greatest_roots f g [] m is clear in' cm fm = refl
greatest_roots f g (p ∷ ps) m is clear in' cm fm =
    let cp : Signed false (f p) = clear p (Memᴰ.head refl) in
    ap (λ (x : Float). greatest x (map g ps)) (ap (λ (x : Float). max_of x (sqrt_of m)) (is p) ∙ root_of_max (f p) m cp cm (in' p) fm)
    ∙ greatest_roots f g ps (max_of (f p) m) is (λ p i. clear p (Memᴰ.tail i)) in' (one_sign (lt m (f p)) cp) (one_format (lt m (f p)))
  where
    one_sign : (b : Bool) → Signed false (f p) → Signed false (cond b (f p) m)
    one_sign true c = c
    one_sign false c = cm

    one_format : (b : Bool) → T (fits binary64 (cond b (f p) m))
    one_format true = in' p
    one_format false = fm

zero_root : sqrt_of zero_float ≡ zero_float
unfolding sqrt_of of_bits
zero_root = refl

zero_clear : Signed false zero_float
unfolding of_bits
zero_clear = number _ _

zero_in : T (fits binary64 zero_float)
unfolding of_bits fits
zero_in = tt

-- "greatest distance"
pub longest_is : (q : Samples) → Taken q → sqrt_of (greatest zero_float (map (square_in q.points q.dimension) (pairs (samples q)))) ≡ longest q
unfolding longest
longest_is q t =
    sym (greatest_roots (square_in q.points q.dimension) (lag q) (pairs (samples q)) zero_float (lag_is q t)
    (λ p i. let r = (every_pair p (samples q)).0 i in square_clear q t p r.0 r.1)
    (square_in_lem q.points q.dimension) zero_clear zero_in)
    ∙ ap (λ (m : Float). greatest m (map (lag q) (pairs (samples q)))) zero_root

-- "Width = greatest distance / bins"
pub width_is : (q : Samples) (h r b : Float) → Taken q → h ≡ greatest zero_float (map (square_in q.points q.dimension) (pairs (samples q)))
    → r ≡ sqrt_of h → b ≡ as_float q.bins → div binary64 r b ≡ width q
unfolding width
width_is q h r b t e g f = ap₂ (λ (x y : Float). div binary64 x y) (g ∙ ap sqrt_of e ∙ longest_is q t) f

-- ---- the width has a clear sign
by_count : (x y : Float) (n : ℕ) → Signed false x → HasValue y false n 1 → 0 < n → Signed false (div binary64 x y)
unfolding div
by_count x nan n c v l = absurd v
by_count x (inf s) n c v l = absurd v
by_count x (fin true m e) n c v l = absurd (true≢false v.0)
by_count x (fin false zero e) n c v l =
    let p : 0 < n * down e = mul-pos l (down_pos e) in
    let z : 0 * up e * 1 ≡ 0 = ap (λ (k : ℕ). k * 1) (zero-mul (up e)) in
    absurd (omega (arith, v.1))
by_count x (fin false (suc m) e) n infinite v l = infinite
by_count x (fin false (suc m) e) n (number k c) v l =
    rw (ne_eqb (suc m) 0 (λ e. omega arith)) (round_signed false (k * up c * down e) (suc m * up e * down c))

pub width_clear : (q : Samples) (a : Areas) → Accepted q a → Signed false (width q)
unfolding width of_int
width_clear q a k =
    let n : ℕ = q.bins in
    by_count (longest q) (as_float n) n (longest_clear q a k) (round_whole binary64 false n (omega (arith, k.bins.1))) (omega (arith, k.bins.0))
