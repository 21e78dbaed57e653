-- The test of a whole root in one word: the parts of a square by halves, and what its two comparisons say.
use Rattle.std.proofs.Common.{◌≡◌, ℕ, ◌+◌, ◌-◌, ◌*◌, ◌/◌, ◌%◌, ◌^◌, ◌<◌, ◌≤◌, Bool, true, false, eqb, leb, sym, refl, ap, ◌∙◌, subst, arith, eq-eqb, ne_eqb, leb-false, leb-true}
use Rattle.ieee.specs.Root.{whole_root}
use Rattle.ieee.proofs.WholeRoot.{square_next, root_unique, whole_root_le, whole_root_lt}

-- ---- (r * r + more) / 2^54 from the halves of r
of_halves : (h l more : ℕ) → h * h + (h * l * 2 + (l * l + more) / 2 ^ 27) / 2 ^ 27 ≡ ((h * 2 ^ 27 + l) * (h * 2 ^ 27 + l) + more) / 2 ^ 54
of_halves h l more =
    let e : (h * 2 ^ 27 + l) * (h * 2 ^ 27 + l) ≡ h * h * 2 ^ 54 + h * l * 2 * 2 ^ 27 + l * l = omega arith in
    omega arith

pub square_part_is : (r more : ℕ) → let h = r / 2 ^ 27 in let l = r % 2 ^ 27 in h * h + (h * l * 2 + (l * l + more) / 2 ^ 27) / 2 ^ 27 ≡ (r * r + more) / 2 ^ 54
square_part_is r more =
    let e : r / 2 ^ 27 * 2 ^ 27 + r % 2 ^ 27 ≡ r = omega arith in
    of_halves (r / 2 ^ 27) (r % 2 ^ 27) more ∙ ap (λ (x : ℕ). (x * x + more) / 2 ^ 54) e

-- ---- the two comparisons
module _ (n r : ℕ) (small : n < 2 ^ 54) where
  le_root : whole_root 54 (n * 2 ^ 54) * whole_root 54 (n * 2 ^ 54) ≤ n * 2 ^ 54
  le_root = whole_root_le 54 (n * 2 ^ 54)

  lt_next : n * 2 ^ 54 < (whole_root 54 (n * 2 ^ 54) + 1) * (whole_root 54 (n * 2 ^ 54) + 1)
  lt_next = whole_root_lt 54 (n * 2 ^ 54) (omega arith)

  -- the square is above n * 2^54
  pub too_great : n < (r * r + (2 ^ 54 - 1)) / 2 ^ 54 → eqb r (whole_root 54 (n * 2 ^ 54)) ≡ false
  too_great h =
      ne_eqb r (whole_root 54 (n * 2 ^ 54)) (λ (e : r ≡ whole_root 54 (n * 2 ^ 54)).
      let x : r * r ≤ n * 2 ^ 54 = subst (λ (w : ℕ). w * w ≤ n * 2 ^ 54) (sym e) le_root in
      omega arith)

  -- it is not: then the next square decides
  pub next_decides : (r * r + (2 ^ 54 - 1)) / 2 ^ 54 ≤ n → leb n ((r * r + 2 * r) / 2 ^ 54) ≡ eqb r (whole_root 54 (n * 2 ^ 54))
  next_decides h = go (leb n ((r * r + 2 * r) / 2 ^ 54)) refl
    where
      go : (b : Bool) → leb n ((r * r + 2 * r) / 2 ^ 54) ≡ b → b ≡ eqb r (whole_root 54 (n * 2 ^ 54))
      go true t =
          let y : n ≤ (r * r + 2 * r) / 2 ^ 54 = leb-true n ((r * r + 2 * r) / 2 ^ 54) t in
          let s = square_next r in
          sym (eq-eqb r (whole_root 54 (n * 2 ^ 54)) (root_unique r (whole_root 54 (n * 2 ^ 54)) (n * 2 ^ 54) (omega arith) (omega arith) le_root lt_next))
      go false t =
          let y : (r * r + 2 * r) / 2 ^ 54 < n = leb-false n ((r * r + 2 * r) / 2 ^ 54) t in
          let s = square_next r in
          sym (ne_eqb r (whole_root 54 (n * 2 ^ 54)) (λ (e : r ≡ whole_root 54 (n * 2 ^ 54)).
          let x : n * 2 ^ 54 < (r + 1) * (r + 1) = subst (λ (w : ℕ). n * 2 ^ 54 < (w + 1) * (w + 1)) (sym e) lt_next in
          omega arith))
