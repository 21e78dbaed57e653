-- Products added to 67 words in turn: the three words of one, what its carry makes of them, and where a column ends.
use Rattle.std.proofs.Common.{◌≡◌, ℕ, ◌+◌, ◌*◌, ◌^◌, ◌<◌, ◌≤◌, Bool, true, false, ◌⊎◌, List, length, get_or, set, ℤ, pos, ◌+ℤ◌, ◌*ℤ◌, sym, refl, ap, ◌∙◌, subst, ap₂, inl, ⊎_elim, add-zero, mul-le-mul_right, one-mul, zero-add, add-one, arith, length-set}
use Rattle.std.specs.Int.{from_bool}
use lib.ListN.{get_or-eq_default}
use lib.Ieee.{Float, nan}
use lib.IntN.{+ℤ_assoc, *ℤ-zero}
use Rattle.ieee.specs.Values.{signed}
use Rattle.exact.specs.Units.{units}
use Rattle.exact.specs.Whole.{sumℤ}
use Rattle.words.specs.Words.{number, reading, held}
use Rattle.exact.specs.Products.{dotted}
use Rattle.words.proofs.Words.{Words, words_set, place_suc, number_set}
use Rattle.words.proofs.Held.{held_add}
use Rattle.exact.proofs.Units.{units_not_finite}
use Rattle.exact.proofs.Sums.{sumℤ_ends}
use Rattle.words.proofs.Carries.{Moved, whole_moved, moved_none, turn, moved_held, moved_on}

-- the place above
up : (i : ℕ) → 2 ^ (64 * (i + 1)) ≡ 2 ^ 64 * 2 ^ (64 * i)
up i = ap (λ (n : ℕ). 2 ^ (64 * n)) (add-one i) ∙ place_suc i

raised : (i j : ℕ) → j ≡ i + 1 → 2 ^ (64 * j) ≡ 2 ^ 64 * 2 ^ (64 * i)
raised i j e = ap (λ (n : ℕ). 2 ^ (64 * n)) e ∙ up i

-- ---- one product: three words at place k of ws, one after another, and the carry c that leaves them
module _ (s : Bool) (ws : List ℕ) (k low middle high x₀ : ℕ) (d₀ : Bool) (x₁ : ℕ) (d₁ : Bool) (x₂ : ℕ) (d₂ : Bool) where
  -- the carries as numbers
  abbrev c₀ : ℕ
  c₀ = from_bool d₀

  abbrev c₁ : ℕ
  c₁ = from_bool d₁

  abbrev c₂ : ℕ
  c₂ = from_bool d₂

  abbrev pub first : List ℕ
  first = set ws k x₀

  abbrev pub second : List ℕ
  second = set first (k + 1) x₁

  abbrev pub third : List ℕ
  third = set second (k + 2) x₂

  abbrev pub whole : ℕ
  whole = low + 2 ^ 64 * (middle + 2 ^ 64 * high)

  module _
      (inside : k + 2 < length ws)
      (e₀ : pos (get_or ws k 0) +ℤ signed s (low + 0) ≡ pos x₀ +ℤ signed s (2 ^ 64 * c₀))
      (e₁ : pos (get_or first (k + 1) 0) +ℤ signed s (middle + c₀) ≡ pos x₁ +ℤ signed s (2 ^ 64 * c₁))
      (e₂ : pos (get_or second (k + 2) 0) +ℤ signed s (high + c₁) ≡ pos x₂ +ℤ signed s (2 ^ 64 * c₂)) where
    -- the three words, and what is left for the words above
    three_words : Moved s (number ws) (number third) (whole * 2 ^ (64 * k)) (c₂ * 2 ^ (64 * (k + 3)))
    three_words =
        let p = 2 ^ (64 * k) in
        let n = number ws in
        let t = whole * p in
        let rest = middle + 2 ^ 64 * high in
        let q = 2 ^ (64 * (k + 1)) in
        let r = 2 ^ (64 * (k + 2)) in
        let above : 2 ^ (64 * (k + 2)) ≡ 2 ^ 64 * q = raised (k + 1) (k + 2) (omega arith) in
        let top : 2 ^ (64 * (k + 3)) ≡ 2 ^ 64 * r = raised (k + 2) (k + 3) (omega arith) in
        let in₀ : k < length ws = omega arith in
        let in₁ : k + 1 < length first = omega (arith, length-set ws k x₀) in
        let in₂ : k + 2 < length second = omega (arith, length-set ws k x₀, length-set first (k + 1) x₁) in
        let m₀ : Moved s n n t ((0 + (low + 2 ^ 64 * rest)) * p) =
        subst (λ (x : ℕ). Moved s n n t (x * p)) (sym (zero-add whole)) (moved_none s n t) in
        let m₁ : Moved s n (number first) t ((c₀ + (middle + 2 ^ 64 * high)) * (2 ^ 64 * p)) =
        turn s n n (number first) t (get_or ws k 0) x₀ low 0 c₀ rest p (number_set ws k x₀ in₀) (whole_moved s _ x₀ (low + 0) (2 ^ 64 * c₀) e₀) m₀ in
        let m₂ : Moved s n (number second) t ((c₁ + high) * (2 ^ 64 * q)) =
        turn s n (number first) (number second) t (get_or first (k + 1) 0) x₁ middle c₀ c₁ high q (number_set first (k + 1) x₁ in₁)
        (whole_moved s _ x₁ (middle + c₀) (2 ^ 64 * c₁) e₁)
        (subst (λ (x : ℕ). Moved s n (number first) t ((c₀ + (middle + 2 ^ 64 * high)) * x)) (sym (up k)) m₁) in
        let last : (c₁ + high) * (2 ^ 64 * q) ≡ (c₁ + (high + 2 ^ 64 * 0)) * r = ap₂ (λ (x y : ℕ). (c₁ + x) * y) (sym (add-zero high)) (sym above) in
        let m₃ : Moved s n (number third) t ((c₂ + 0) * (2 ^ 64 * r)) =
        turn s n (number second) (number third) t (get_or second (k + 2) 0) x₂ high c₁ c₂ 0 r (number_set second (k + 2) x₂ in₂)
        (whole_moved s _ x₂ (high + c₁) (2 ^ 64 * c₂) e₂) (subst (λ (x : ℕ). Moved s n (number second) t x) last m₂) in
        subst (λ (x : ℕ). Moved s n (number third) t x) (ap₂ (λ (x y : ℕ). x * y) (add-zero c₂) (sym top)) m₃

    -- the words after a product: the three with no carry, and otherwise what `carried` makes of them
    pub product_added : Words ws → length ws ≡ 67 → x₀ < 2 ^ 64 → x₁ < 2 ^ 64 → x₂ < 2 ^ 64 → (next : List ℕ)
        → ((d₂ ≡ true) × (next ≡ held (reading third +ℤ signed s (2 ^ (64 * (k + 3)))))) ⊎ ((d₂ ≡ false) × (next ≡ third))
        → (z : ℤ) → z ≡ signed s (whole * 2 ^ (64 * k)) → next ≡ held (reading ws +ℤ z)
    product_added w l b₀ b₁ b₂ next came z e =
        ⊎_elim
        (λ h.
        moved_on s third ws next (whole * 2 ^ (64 * k)) (2 ^ (64 * (k + 3)))
        (subst (λ (x : ℕ). Moved s (number ws) (number third) (whole * 2 ^ (64 * k)) x) (one h.0) three_words) h.1)
        (λ h. h.1 ∙ moved_held s third ws words size (whole * 2 ^ (64 * k)) c₂ (k + 3) (inl (ap from_bool h.0)) three_words)
        came
        ∙ ap (λ (y : ℤ). held (reading ws +ℤ y)) (sym e)
      where
        words : Words third
        words = words_set second (k + 2) x₂ (words_set first (k + 1) x₁ (words_set ws k x₀ w b₀) b₁) b₂

        size : length third ≡ 67
        size = length-set second (k + 2) x₂ ∙ length-set first (k + 1) x₁ ∙ length-set ws k x₀ ∙ l

        one : d₂ ≡ true → c₂ * 2 ^ (64 * (k + 3)) ≡ 2 ^ (64 * (k + 3))
        one h = ap (λ (d : Bool). from_bool d * 2 ^ (64 * (k + 3))) h ∙ one-mul (2 ^ (64 * (k + 3)))

-- ---- the products of a column
module _ (z f : List Float) (column width : ℕ) where
  -- product_at i, in units of 2^-2148
  abbrev pub product_at : ℕ → ℤ
  product_at i = units (get_or z i nan) *ℤ units (get_or f (column + i * width) nan)

  -- the words of a sum and of the first i products
  abbrev pub summed : List ℕ → ℕ → List ℕ
  summed sum i = held (reading sum +ℤ sumℤ i product_at)

  -- one more
  pub one_more : (sum total next : List ℕ) (i : ℕ) → total ≡ summed sum i → next ≡ held (reading total +ℤ product_at i) → next ≡ summed sum (i + 1)
  one_more sum total next i h e =
      e ∙ ap (λ (ws : List ℕ). held (reading ws +ℤ product_at i)) h
      ∙ held_add (reading sum +ℤ sumℤ i product_at) (product_at i)
      ∙ ap held (+ℤ_assoc (reading sum) (sumℤ i product_at) (product_at i) ∙ ap (λ (n : ℕ). reading sum +ℤ sumℤ n product_at) (sym (add-one i)))

  -- past the end of f there is nothing to add
  pub column_ends : (sum : List ℕ) (j : ℕ) → j ≤ length z → length f ≤ column + j * width → summed sum j ≡ held (reading sum +ℤ dotted z f column width)
  unfolding dotted
  column_ends sum j l past = ap (λ (x : ℤ). held (reading sum +ℤ x)) (sym (sumℤ_ends (length z) j product_at l none))
    where
      none : (i : ℕ) → j ≤ i → product_at i ≡ pos 0
      none i h =
          let m : j * width ≤ i * width = mul-le-mul_right width h in
          let beyond : length f ≤ column + i * width = omega arith in
          ap (λ (y : ℤ). units (get_or z i nan) *ℤ y) (ap units (get_or-eq_default f nan beyond) ∙ units_not_finite nan refl)
          ∙ *ℤ-zero (units (get_or z i nan))
