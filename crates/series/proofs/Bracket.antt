-- The alternating sums bracket each other, so the statement by them cannot be empty: every lower sum past u is at most every upper one.
use Prim.Native.Nat.{ℕ, ◌+◌, ◌-◌, ◌*◌, ◌≤◌, ◌<◌}
use native.Mathlib.Nat.{mul_comm, sub-add_cancel, add-mul, zero-mul, le_of_lt, le_of_eq, lt_of_not-le}
use native.Mathlib.Omega.{arith}
use native.Mathlib.Decide.{dec_le}
use mathlib.Core.Path.{◌≡◌, refl, ap, sym, ◌∙◌, subst}
use mathlib.Core.Bool.{true, false}
use Rattle.series.specs.Series.{even, over, added, taken, all}
use Rattle.series.specs.Bracket.{Within, AtMost, AtLeast, OfOne}
use Rattle.series.proofs.Bounds.{Under, Above, from_lower, to_upper, to_lower}

-- 0 is below e^−u
pub none_under : (a d q : ℕ) → Under a d 0 q
none_under a d q n = subst (λ (k : ℕ). k ≤ q * over d n) (sym (zero-mul (all a d n))) (omega arith)

module _ (a d n m : ℕ) (d-positive : 0 < d) (odd : even n ≡ false) (past : a < n * d) (ev : even m ≡ true) where
  -- S_n ≤ S_m, multiplied through by both denominators
  pub bracket : added a d n * over d m + over d n * taken a d m ≤ over d n * added a d m + taken a d n * over d m
  bracket = go (dec_le (taken a d n) (added a d n))
    where
      go : Dec (taken a d n ≤ added a d n) → added a d n * over d m + over d n * taken a d m ≤ over d n * added a d m + taken a d n * over d m
      go (yes h) =
          let c = added a d n - taken a d n in
          let is : c + taken a d n ≡ added a d n = sub-add_cancel h in
          let exact : c * over d n + over d n * taken a d n ≤ over d n * added a d n =
          le_of_eq (ap (λ (k : ℕ). k + over d n * taken a d n) (mul_comm c (over d n)) ∙ sym (native.Mathlib.Nat.mul-add (over d n) c (taken a d n))
          ∙ ap (λ (k : ℕ). over d n * k) is) in
          let upper = to_upper a d c (over d n) d-positive (from_lower a d c (over d n) d-positive n odd past exact) m ev in
          let whole : added a d n * over d m ≡ c * over d m + taken a d n * over d m = ap (λ (k : ℕ). k * over d m) (sym is)
          ∙ add-mul c (taken a d n) (over d m) in
          omega (arith, upper, whole)
      go (no h) =
          let less : added a d n * over d m ≤ taken a d n * over d m = native.Mathlib.Nat.mul-le-mul_right (over d m) (le_of_lt (lt_of_not-le h)) in
          let upper = to_upper a d 0 (over d n) d-positive (none_under a d (over d n)) m ev in
          omega (arith, upper, less, zero-mul (over d m))

-- what lies between a fraction below e^−u and one above it
pub within : (a d y q t : ℕ) → 0 < d → Under a d (y - t) q → Above a d (y + t) q → Within a d y q t
within a d y q t d-positive u v =
    record {
      not_above = λ n ev. above n (to_upper a d (y - t) q d-positive u n ev);
      not_below = λ n odd h. to_lower a d (y + t) q d-positive v n odd h;
    }
  where
    above : (n : ℕ) → (y - t) * over d n + q * taken a d n ≤ q * added a d n → y * over d n + q * taken a d n ≤ q * added a d n + t * over d n
    above n h =
        let l : y * over d n ≤ (y - t + t) * over d n = native.Mathlib.Nat.mul-le-mul_right (over d n) (omega arith) in
        omega (arith, l, add-mul (y - t) t (over d n))

-- both halves of the statement say something of a number u that is not below 1
pub of_one : (y q t : ℕ) → Within 1 1 y q t → OfOne y q t
unfolding over added taken
of_one y q t w =
    let lower : AtLeast 1 1 3 y q t = w.not_below 3 refl (omega arith) in
    let upper : AtMost 1 1 4 y q t = w.not_above 4 refl in
    let none : AtMost 1 1 0 y q t = w.not_above 0 refl in
    record { at_least = omega arith; at_most = omega arith; first = omega arith }
