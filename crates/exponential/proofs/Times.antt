-- How large a product of two multiples of 2^-62 is.
use Rattle.std.proofs.Common.{ℕ, ◌*◌, ◌^◌, ◌≤◌, mul-le-mul, arith}
use Rattle.exponential.specs.Exponential.{times}

-- at most each of its factors, where the other is at most 1
pub times_le : (a b m : ℕ) → a ≤ m → b ≤ 2 ^ 62 → times a b ≤ m
times_le a b m h k =
    let p : a * b ≤ m * 2 ^ 62 = mul-le-mul h k in
    omega arith
