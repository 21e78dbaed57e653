-- Paper 02, Slip 1: "partial sums of the alternating series, as fractions of whole numbers", for u = a / d.
use Rattle.std.specs.Prelude.{ℕ, zero, suc, ◌+◌, ◌*◌, ◌^◌, Bool, true, not, cond, ℤ, pos, neg_ℤ, ◌+ℤ◌, ◌*ℤ◌}
use Rattle.std.proofs.Math.IntN.{pow}

-- whether a power is even: its term stands with plus, and else with minus
abbrev pub even : ℕ → Bool
even zero = true
even (suc n) = not (even n)

-- d^n · n!, which the sum that ends at the power n is a fraction of
unfoldable pub over : ℕ → ℕ → ℕ
over d zero = 1
over d (suc n) = over d n * (d * suc n)

-- the terms u^i / i! of the even powers up to n, added: times d^n · n!
unfoldable pub added : ℕ → ℕ → ℕ → ℕ
added a d zero = 1
added a d (suc n) = added a d n * (d * suc n) + cond (even (suc n)) (a ^ suc n) 0

-- and those of the odd powers, which are taken away. The sum that ends at the power n is (added − taken) / over
unfoldable pub taken : ℕ → ℕ → ℕ → ℕ
taken a d zero = 0
taken a d (suc n) = taken a d n * (d * suc n) + cond (even (suc n)) 0 (a ^ suc n)

-- the sum of all terms with plus, E_n(u) = 1 + u + u²/2 + .. + u^n / n!, times d^n · n!
abbrev pub all : ℕ → ℕ → ℕ → ℕ
all a d n = added a d n + taken a d n

-- the alternating sum with its signs, Σ (−u)^i / i!, times d^n · n!: each sum is the one before, in the next one's units, and (−a)^n more
unfoldable pub alternating : ℕ → ℕ → ℕ → ℤ
alternating a d zero = pos 1
alternating a d (suc n) = alternating a d n *ℤ pos (d * suc n) +ℤ pow (neg_ℤ (pos a)) (suc n)
