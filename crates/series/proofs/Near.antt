-- Numbers of units near e^−u, q units to 1: how far a product of two lies from e^−(u + v).
use Prim.Native.Nat.{ℕ, ◌+◌, ◌-◌, ◌*◌, ◌≤◌, ◌<◌}
use native.Mathlib.Nat.{le_trans, le_of_eq, mul-add, add-mul, mul_assoc, mul_comm, mul_left_comm, mul-pos, mul-le-mul, mul-le-mul_left, mul-le-mul_right}
use native.Mathlib.Nat.{le_of_mul-le-mul_left, sub-add_cancel, zero-mul}
use native.Mathlib.Decide.{dec_le}
use native.Mathlib.Omega.{arith}
use mathlib.Core.Path.{◌≡◌, ap, sym, ◌∙◌, subst}
use Rattle.series.specs.Series.{over, all}
use Rattle.series.proofs.Terms.{over_positive, sorted}
use Rattle.series.proofs.Products.{product_under, product_over}
use Rattle.series.proofs.Bounds.{Under, Above}

-- ---- products
pub under_product : (a b d c e q r : ℕ) → 0 < d → Under a d c q → Under b d e r → Under (a + b) d (c * e) (q * r)
under_product a b d c e q r h u v n =
    let o = over d n in
    le_of_mul-le-mul_left
    (le_trans (le_of_eq (mul_left_comm o (c * e) (all (a + b) d n)))
    (le_trans (mul-le-mul_left (c * e) (product_under a b d n h))
    (le_trans (le_of_eq (crossed c e (all a d n) (all b d n))) (le_trans (mul-le-mul (u n) (v n)) (le_of_eq (turned q r o))))))
    (over_positive d n h)
  where
    crossed : (s t x y : ℕ) → s * t * (x * y) ≡ s * x * (t * y)
    crossed s t x y = simp sorted

    turned : (s t x : ℕ) → s * x * (t * x) ≡ x * (s * t * x)
    turned s t x = simp sorted

pub above_product : (a b d c e q r : ℕ) → 0 < d → Above a d c q → Above b d e r → Above (a + b) d (c * e) (q * r)
above_product a b d c e q r h u v =
    let n = u.power in
    let m = v.power in
    let o = over d n * over d m in
    record {
      power = n + m;
      enough =
          le_of_mul-le-mul_left
          (le_trans (le_of_eq (out q r (over d n) (over d m) (over d (n + m))))
          (le_trans (mul-le-mul_left (over d (n + m)) (mul-le-mul u.enough v.enough))
          (le_trans (le_of_eq (turned (over d (n + m)) c e (all a d n) (all b d m)))
          (le_trans (mul-le-mul_left (c * e) (product_over a b d n m h)) (le_of_eq (mul_left_comm (c * e) o (all (a + b) d (n + m))))))))
          (mul-pos (over_positive d n h) (over_positive d m h));
    }
  where
    out : (s t x y z : ℕ) → x * y * (s * t * z) ≡ z * (s * x * (t * y))
    out s t x y z = simp sorted

    turned : (z s t x y : ℕ) → z * (s * x * (t * y)) ≡ s * t * (z * (x * y))
    turned z s t x y = simp sorted

-- a smaller number below, a larger one above, in other units
pub under_units : (a d c q e r : ℕ) → 0 < q → e * q ≤ c * r → Under a d c q → Under a d e r
under_units a d c q e r positive h u n =
    le_of_mul-le-mul_left
    (le_trans (le_of_eq (turned q e (all a d n)))
    (le_trans (mul-le-mul_right (all a d n) h)
    (le_trans (le_of_eq (turned' c r (all a d n))) (le_trans (mul-le-mul_left r (u n)) (le_of_eq (turned'' r q (over d n)))))))
    positive
  where
    turned : (s t x : ℕ) → s * (t * x) ≡ t * s * x
    turned s t x = simp sorted

    turned' : (s t x : ℕ) → s * t * x ≡ t * (s * x)
    turned' s t x = simp sorted

    turned'' : (s t x : ℕ) → s * (t * x) ≡ t * (s * x)
    turned'' s t x = mul_left_comm s t x

pub above_units : (a d c q e r : ℕ) → 0 < q → c * r ≤ e * q → Above a d c q → Above a d e r
above_units a d c q e r positive h u =
    record {
      power = u.power;
      enough =
          le_of_mul-le-mul_left
          (le_trans (le_of_eq (mul_left_comm q r (over d u.power)))
          (le_trans (mul-le-mul_left r u.enough)
          (le_trans (le_of_eq (turned r c (all a d u.power)))
          (le_trans (mul-le-mul_right (all a d u.power) h) (le_of_eq (turned' e q (all a d u.power)))))))
          positive;
    }
  where
    turned : (s t x : ℕ) → s * (t * x) ≡ t * s * x
    turned s t x = simp sorted

    turned' : (s t x : ℕ) → s * t * x ≡ t * (s * x)
    turned' s t x = simp sorted

-- ---- y units are within t of e^−(a/d)
pub record Near (a d q y t : ℕ) : Type 0 where
  pub under : Under a d (y - t) q
  pub above : Above a d (y + t) q

-- two numbers near, and a third which is their product, its rest cut off: its distance is the sum of theirs, and two units more
module _ (q y z s t w : ℕ) (y_small : y ≤ q) (z-small : z ≤ q) (errors : s * t ≤ q) (low : w * q ≤ y * z) (high : y * z < w * q + q) where
  left : s * z ≤ s * q
  left = mul-le-mul_left s z-small

  right : y * t ≤ t * q
  right = le_trans (mul-le-mul_right t y_small) (le_of_eq (mul_comm q t))

  -- y·z is at most (y − s)·(z − t) + y·t + s·z
  most : y * z ≤ (y - s) * (z - t) + y * t + s * z
  most =
      let k : y * z ≤ (y - s + s) * z = mul-le-mul_right z (omega arith) in
      let l : (y - s) * z ≤ (y - s) * (z - t + t) = mul-le-mul_left (y - s) (omega arith) in
      let m : (y - s) * t ≤ y * t = mul-le-mul_right t (omega arith) in
      omega (arith, add-mul (y - s) s z, mul-add (y - s) (z - t) t)

  below : (w - (s + t + 2)) * q ≤ (y - s) * (z - t)
  below = go (dec_le (s + t + 2) w)
    where
      go : Dec (s + t + 2 ≤ w) → (w - (s + t + 2)) * q ≤ (y - s) * (z - t)
      go (yes h) =
          let e : w * q ≡ (w - (s + t + 2)) * q + (s + t + 2) * q = ap (λ (k : ℕ). k * q) (sym (sub-add_cancel h)) ∙ add-mul (w - (s + t + 2)) (s + t + 2) q in
          omega (arith, most, left, right, add-mul (s + t) 2 q, add-mul s t q)
      go (no h) =
          let e : w - (s + t + 2) ≡ 0 = omega arith in
          subst (λ (k : ℕ). k ≤ (y - s) * (z - t)) (sym (ap (λ (k : ℕ). k * q) e ∙ zero-mul q)) (omega arith)

  beyond : (y + s) * (z + t) ≤ (w + (s + t + 2)) * q
  beyond =
      omega (arith, left, right, add-mul y s (z + t), mul-add y z t, mul-add s z t, add-mul w (s + t + 2) q, add-mul (s + t) 2 q, add-mul s t q)

pub near_product : (a b d q y z s t w : ℕ) → 0 < d → 0 < q → Near a d q y s → Near b d q z t → y ≤ q → z ≤ q → s * t ≤ q → w * q ≤ y * z → y * z < w * q + q
    → Near (a + b) d q w (s + t + 2)
near_product a b d q y z s t w h positive u v y_small z-small errors low high =
    record {
      under = under_units (a + b) d ((y - s) * (z - t)) (q * q) (w - (s + t + 2)) q (mul-pos positive positive)
          (le_trans (le_of_eq (sym (mul_assoc (w - (s + t + 2)) q q))) (mul-le-mul_right q (below q y z s t w y_small z-small errors low high)))
          (under_product a b d (y - s) (z - t) q q h u.under v.under);
      above = above_units (a + b) d ((y + s) * (z + t)) (q * q) (w + (s + t + 2)) q (mul-pos positive positive)
          (le_trans (mul-le-mul_right q (beyond q y z s t w y_small z-small errors low high)) (le_of_eq (mul_assoc (w + (s + t + 2)) q q)))
          (above_product a b d (y + s) (z + t) q q h u.above v.above);
    }
