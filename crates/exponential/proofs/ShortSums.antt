-- The sums for a small f that end at the powers 4 and 5, written out, and how a number c of units is held to them: by the powers of f in units, z to 1.
use Rattle.std.proofs.Common.{◌≡◌, ℕ, ◌+◌, ◌*◌, ◌^◌, ◌≤◌, sym, ap, ◌∙◌, ap₂, subst₂, mul-le-mul_right, mul-le-mul, mul-le-mul_left, one-mul, pow-suc, arith}
use native.Mathlib.Nat.{pow-zero}
use Rattle.series.specs.Series.{over, added, taken}

-- ---- powers as products
first : (f : ℕ) → f ^ 1 ≡ f
first f = pow-suc f 0 ∙ ap (λ (n : ℕ). n * f) (pow-zero f) ∙ one-mul f

second : (f : ℕ) → f ^ 2 ≡ f * f
second f = pow-suc f 1 ∙ ap (λ (n : ℕ). n * f) (first f)

third : (f : ℕ) → f ^ 3 ≡ f * f * f
third f = pow-suc f 2 ∙ ap (λ (n : ℕ). n * f) (second f)

fourth : (f : ℕ) → f ^ 4 ≡ f * f * f * f
fourth f = pow-suc f 3 ∙ ap (λ (n : ℕ). n * f) (third f)

fifth : (f : ℕ) → f ^ 5 ≡ f * f * f * f * f
fifth f = pow-suc f 4 ∙ ap (λ (n : ℕ). n * f) (fourth f)

-- ---- what is left of them in units, z to 1
module _ (z f f2 f3 f4 : ℕ) (z-large : f ≤ z) (second_low : f2 * z ≤ f * f) (second_high : f * f ≤ f2 * z + z) where
  pub third_low : f3 * z ≤ f * f2 → f3 * (z * z) ≤ f * f * f
  third_low h =
      let k : f3 * z * z ≤ f * f2 * z = mul-le-mul_right z h in
      let l : f * (f2 * z) ≤ f * (f * f) = mul-le-mul_left f second_low in
      omega arith

  pub third_high : f * f2 ≤ f3 * z + z → f * f * f ≤ f3 * (z * z) + z * z + f * z
  third_high h =
      let k : f * f2 * z ≤ (f3 * z + z) * z = mul-le-mul_right z h in
      let l : f * (f * f) ≤ f * (f2 * z + z) = mul-le-mul_left f second_high in
      omega arith

  pub fourth_low : f4 * z ≤ f2 * f2 → f4 * (z * z * z) ≤ f * f * f * f
  fourth_low h =
      let k : f4 * z * (z * z) ≤ f2 * f2 * (z * z) = mul-le-mul_right (z * z) h in
      let l : f2 * z * (f2 * z) ≤ f * f * (f * f) = mul-le-mul second_low second_low in
      omega arith

  pub fourth_high : f2 * f2 ≤ f4 * z + z → f * f * f * f ≤ f4 * (z * z * z) + z * z * z + 2 * (f2 * (z * z)) + z * z
  fourth_high h =
      let k : f2 * f2 * (z * z) ≤ (f4 * z + z) * (z * z) = mul-le-mul_right (z * z) h in
      let l : f * f * (f * f) ≤ (f2 * z + z) * (f2 * z + z) = mul-le-mul second_high second_high in
      omega arith

-- ---- the two sums
module _ (z : ℕ) where
  adding : (a b : ℕ) → ((((1 * (z * 1) + 0) * (z * 2) + a) * (z * 3) + 0) * (z * 4) + b) ≡ 24 * (z * z * z * z) + 12 * (a * (z * z)) + b
  adding a b = omega arith

  taking : (a b : ℕ) → ((((0 * (z * 1) + a) * (z * 2) + 0) * (z * 3) + b) * (z * 4) + 0) ≡ 24 * (a * (z * z * z)) + 4 * (b * z)
  taking a b = omega arith

  -- c times the denominator, and z times the two parts of the sums, which end at the powers 4 and 5
  over_four : (c : ℕ) → c * over z 4 ≡ 24 * (c * (z * z * z * z))
  unfolding over
  over_four c = omega arith

  added_four : (f : ℕ) → added f z 4 ≡ 24 * (z * z * z * z) + 12 * (f * f * (z * z)) + f * f * f * f
  unfolding added
  added_four f = adding (f ^ 2) (f ^ 4) ∙ ap₂ (λ (a b : ℕ). 24 * (z * z * z * z) + 12 * (a * (z * z)) + b) (second f) (fourth f)

  taken_four : (f : ℕ) → taken f z 4 ≡ 24 * (f * (z * z * z)) + 4 * (f * f * f * z)
  unfolding taken
  taken_four f = taking (f ^ 1) (f ^ 3) ∙ ap₂ (λ (a b : ℕ). 24 * (a * (z * z * z)) + 4 * (b * z)) (first f) (third f)

  over_five : (c : ℕ) → c * over z 5 ≡ 120 * (c * (z * z * z * z * z))
  unfolding over
  over_five c = omega arith

  added_five : (f : ℕ) → added f z 5 ≡ 120 * (z * z * z * z * z) + 60 * (f * f * (z * z * z)) + 5 * (f * f * f * f * z)
  unfolding added
  added_five f = ap (λ (a : ℕ). a * (z * 5) + 0) (added_four f) ∙ go
    where
      go : (24 * (z * z * z * z) + 12 * (f * f * (z * z)) + f * f * f * f) * (z * 5) + 0 ≡ 120 * (z * z * z * z * z) + 60 * (f * f * (z * z * z)) + 5 *
          (f * f * f * f * z)
      go = omega arith

  taken_five : (f : ℕ) → taken f z 5 ≡ 120 * (f * (z * z * z * z)) + 20 * (f * f * f * (z * z)) + f * f * f * f * f
  unfolding taken
  taken_five f = ap₂ (λ (a b : ℕ). a * (z * 5) + b) (taken_four f) (fifth f) ∙ go
    where
      go : (24 * (f * (z * z * z)) + 4 * (f * f * f * z)) * (z * 5) + f * f * f * f * f ≡ 120 * (f * (z * z * z * z)) + 20 *
          (f * f * f * (z * z)) + f * f * f * f * f
      go = omega arith

  times_added_four : (f : ℕ) → z * added f z 4 ≡ 24 * (z * (z * z * z * z)) + 12 * (f * f * (z * z * z)) + f * f * f * f * z
  times_added_four f = ap (λ (a : ℕ). z * a) (added_four f) ∙ go
    where
      go : z * (24 * (z * z * z * z) + 12 * (f * f * (z * z)) + f * f * f * f) ≡ 24 * (z * (z * z * z * z)) + 12 * (f * f * (z * z * z)) + f * f * f * f * z
      go = omega arith

  times_taken_four : (f : ℕ) → z * taken f z 4 ≡ 24 * (f * (z * z * z * z)) + 4 * (f * f * f * (z * z))
  times_taken_four f = ap (λ (a : ℕ). z * a) (taken_four f) ∙ go
    where
      go : z * (24 * (f * (z * z * z)) + 4 * (f * f * f * z)) ≡ 24 * (f * (z * z * z * z)) + 4 * (f * f * f * (z * z))
      go = omega arith

  times_added_five : (f : ℕ) → z * added f z 5 ≡ 120 * (z * (z * z * z * z * z)) + 60 * (f * f * (z * z * z * z)) + 5 * (f * f * f * f * (z * z))
  times_added_five f = ap (λ (a : ℕ). z * a) (added_five f) ∙ go
    where
      go : z * (120 * (z * z * z * z * z) + 60 * (f * f * (z * z * z)) + 5 * (f * f * f * f * z))
          ≡ 120 * (z * (z * z * z * z * z)) + 60 * (f * f * (z * z * z * z)) + 5 * (f * f * f * f * (z * z))
      go = omega arith

  times_taken_five : (f : ℕ) → z * taken f z 5 ≡ 120 * (f * (z * z * z * z * z)) + 20 * (f * f * f * (z * z * z)) + f * f * f * f * f * z
  times_taken_five f = ap (λ (a : ℕ). z * a) (taken_five f) ∙ go
    where
      go : z * (120 * (f * (z * z * z * z)) + 20 * (f * f * f * (z * z)) + f * f * f * f * f)
          ≡ 120 * (f * (z * z * z * z * z)) + 20 * (f * f * f * (z * z * z)) + f * f * f * f * f * z
      go = omega arith

-- with each product a number of its own
lower_linear : (C F G Z P Q O A B D E H : ℕ) → P ≤ A → Q ≤ B → D ≤ G + O + H → H ≤ O → E ≤ 131072 * O
    → 24 * C + 24 * F + 4 * G + 26372 * O ≤ 24 * Z + 12 * P + Q
    → 120 * C + (120 * F + 20 * D + E) ≤ 120 * Z + 60 * A + 5 * B
lower_linear C F G Z P Q O A B D E H a b d h e l = omega arith

upper_linear : (C F G Z P Q O A B D : ℕ) → A ≤ P + O → B ≤ Q + O + O → G ≤ D → 24 * Z + 12 * P + Q + 14 * O ≤ 24 * C + 24 * F + 4 * G
    → 24 * Z + 12 * A + B ≤ 24 * C + (24 * F + 4 * D)
upper_linear C F G Z P Q O A B D a b d l = omega arith

pub lower_sum : (z c f f2 f3 f4 : ℕ) → f ≤ z → f2 * z ≤ f * f → f4 * (z * z * z) ≤ f * f * f * f → f * f * f ≤ f3 * (z * z) + z * z + f * z
    → f * f * f * f * f ≤ 131072 * (z * z * z * z) → 24 * c + 24 * f + 4 * f3 + 26372 ≤ 24 * z + 12 * f2 + f4
    → c * over z 5 + z * taken f z 5 ≤ z * added f z 5
lower_sum z c f f2 f3 f4 large second_low fourth_low third_high fifth_small linear =
    let z5 = z * z * z * z * z in
    subst₂ (λ (a b : ℕ). a ≤ b) (sym (ap₂ (λ (a b : ℕ). a + b) (over_five z c) (times_taken_five z f))) (sym (times_added_five z f))
    (lower_linear (c * z5) (f * z5) (f3 * z5) (z * z5) (f2 * z5) (f4 * z5) z5 (f * f * (z * z * z * z)) (f * f * f * f * (z * z)) (f * f * f * (z * z * z))
    (f * f * f * f * f * z) (f * (z * z * z * z)) a b d g e h)
  where
    a : f2 * (z * z * z * z * z) ≤ f * f * (z * z * z * z)
    a = let k : f2 * z * (z * z * z * z) ≤ f * f * (z * z * z * z) = mul-le-mul_right (z * z * z * z) second_low in omega (arith, k)

    b : f4 * (z * z * z * z * z) ≤ f * f * f * f * (z * z)
    b = let k : f4 * (z * z * z) * (z * z) ≤ f * f * f * f * (z * z) = mul-le-mul_right (z * z) fourth_low in omega (arith, k)

    d : f * f * f * (z * z * z) ≤ f3 * (z * z * z * z * z) + z * z * z * z * z + f * (z * z * z * z)
    d = let k : f * f * f * (z * z * z) ≤ (f3 * (z * z) + z * z + f * z) * (z * z * z) = mul-le-mul_right (z * z * z) third_high in omega (arith, k)

    g : f * (z * z * z * z) ≤ z * z * z * z * z
    g = let k : f * (z * z * z * z) ≤ z * (z * z * z * z) = mul-le-mul_right (z * z * z * z) large in omega (arith, k)

    e : f * f * f * f * f * z ≤ 131072 * (z * z * z * z * z)
    e = let k : f * f * f * f * f * z ≤ 131072 * (z * z * z * z) * z = mul-le-mul_right z fifth_small in omega (arith, k)

    h : 24 * (c * (z * z * z * z * z)) + 24 * (f * (z * z * z * z * z)) + 4 * (f3 * (z * z * z * z * z)) + 26372 * (z * z * z * z * z)
        ≤ 24 * (z * (z * z * z * z * z)) + 12 * (f2 * (z * z * z * z * z)) + f4 * (z * z * z * z * z)
    h =
        let k : (24 * c + 24 * f + 4 * f3 + 26372) * (z * z * z * z * z) ≤ (24 * z + 12 * f2 + f4) * (z * z * z * z * z) = mul-le-mul_right
        (z * z * z * z * z) linear in
        omega (arith, k)

pub upper_sum : (z c f f2 f3 f4 : ℕ) → 2 * f2 + 1 ≤ z → f * f ≤ f2 * z + z → f3 * (z * z) ≤ f * f * f
    → f * f * f * f ≤ f4 * (z * z * z) + z * z * z + 2 * (f2 * (z * z)) + z * z → 24 * z + 12 * f2 + f4 + 14 ≤ 24 * c + 24 * f + 4 * f3
    → z * added f z 4 ≤ c * over z 4 + z * taken f z 4
upper_sum z c f f2 f3 f4 large second_high third_low fourth_high linear =
    let z4 = z * z * z * z in
    subst₂ (λ (a b : ℕ). a ≤ b) (sym (times_added_four z f)) (sym (ap₂ (λ (a b : ℕ). a + b) (over_four z c) (times_taken_four z f)))
    (upper_linear (c * z4) (f * z4) (f3 * z4) (z * z4) (f2 * z4) (f4 * z4) z4 (f * f * (z * z * z)) (f * f * f * f * z) (f * f * f * (z * z)) a b d h)
  where
    a : f * f * (z * z * z) ≤ f2 * (z * z * z * z) + z * z * z * z
    a = let k : f * f * (z * z * z) ≤ (f2 * z + z) * (z * z * z) = mul-le-mul_right (z * z * z) second_high in omega (arith, k)

    b : f * f * f * f * z ≤ f4 * (z * z * z * z) + z * z * z * z + z * z * z * z
    b =
        let k : f * f * f * f * z ≤ (f4 * (z * z * z) + z * z * z + 2 * (f2 * (z * z)) + z * z) * z = mul-le-mul_right z fourth_high in
        let m : (2 * f2 + 1) * (z * z * z) ≤ z * (z * z * z) = mul-le-mul_right (z * z * z) large in
        omega (arith, k, m)

    d : f3 * (z * z * z * z) ≤ f * f * f * (z * z)
    d = let k : f3 * (z * z) * (z * z) ≤ f * f * f * (z * z) = mul-le-mul_right (z * z) third_low in omega (arith, k)

    h : 24 * (z * (z * z * z * z)) + 12 * (f2 * (z * z * z * z)) + f4 * (z * z * z * z) + 14 * (z * z * z * z)
        ≤ 24 * (c * (z * z * z * z)) + 24 * (f * (z * z * z * z)) + 4 * (f3 * (z * z * z * z))
    h =
        let k : (24 * z + 12 * f2 + f4 + 14) * (z * z * z * z) ≤ (24 * c + 24 * f + 4 * f3) * (z * z * z * z) = mul-le-mul_right (z * z * z * z) linear in
        omega (arith, k)
