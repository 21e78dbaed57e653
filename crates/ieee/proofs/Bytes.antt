-- Laws of numbers as bytes: what is written reads back, and how long it is.
use Rattle.std.proofs.Common.{◌≡◌, ℕ, zero, suc, ◌+◌, ◌*◌, ◌/◌, ◌%◌, ◌^◌, ◌<◌, true, T, ltb, List, [], ◌∷◌, ◌++◌, length, get_or, take, drop, sym, refl, ap, ◌∙◌, subst, ap₂, mod-lt, div-lt_iff_lt-mul, pow-suc, arith, lit<, lt→ltb}
use lib.Ieee.{Float, nan, binary64, fits, to_bits, of_bits, nan_bits}
use lib.Ieee.Bits.{of_bits-to_bits, to_bits-lt, nan_bits_is}
use lib.Ieee.Fits.{and_i, and_l, and_r}
use Rattle.ieee.specs.Bytes.{little_endian, number_in, f64_bytes, f64s_in, all_fit, all_bytes}
use Rattle.ieee.proofs.Fields.{is_nan_lem}

-- ---- a number in bytes
pub number_little : (width x : ℕ) → x < 256 ^ width → number_in (little_endian width x) ≡ x
unfolding little_endian number_in
number_little zero x h = omega arith
number_little (suc width) x h =
    let smaller : x / 256 < 256 ^ width =
    (div-lt_iff_lt-mul {k = 256} {x = x} {y = 256 ^ width} (lit< tt)).1 (subst (λ (z : ℕ). x < z) (pow-suc 256 width) h) in
    ap (λ (y : ℕ). x % 256 + 256 * y) (number_little width (x / 256) smaller) ∙ (let e : x % 256 + 256 * (x / 256) ≡ x = omega arith in e)

-- one byte more, below those that follow it; a byte past the end counts as 0
pub number_more : (xs : List ℕ) (at k : ℕ) → number_in (take (suc k) (drop at xs)) ≡ get_or xs at 0 + 256 * number_in (take k (drop (suc at) xs))
unfolding number_in
number_more [] zero zero = refl
number_more [] zero (suc k) = refl
number_more [] (suc at) zero = refl
number_more [] (suc at) (suc k) = refl
number_more (x ∷ xs) zero k = refl
number_more (x ∷ xs) (suc at) k = number_more xs at k

-- ---- f64 in bytes
pub length-f64_bytes : (xs : List Float) → length (f64_bytes xs) ≡ 8 * length xs
unfolding f64_bytes
length-f64_bytes [] = refl
length-f64_bytes (x ∷ xs) = let l = length-f64_bytes xs in omega arith

f64_back : (x : Float) → T (fits binary64 x) → of_bits binary64 (number_in (little_endian 8 (to_bits binary64 x))) ≡ x
f64_back x f = ap (λ (y : ℕ). of_bits binary64 y) (number_little 8 (to_bits binary64 x) (to_bits-lt binary64 x f)) ∙ of_bits-to_bits binary64 x f

first_eight : (y : ℕ) (xs ys : List ℕ) → take 8 (little_endian 8 y ++ xs ++ ys) ≡ little_endian 8 y
unfolding little_endian
first_eight y xs ys = refl

past_eight : (y : ℕ) (xs ys : List ℕ) → drop 8 (little_endian 8 y ++ xs ++ ys) ≡ xs ++ ys
unfolding little_endian
past_eight y xs ys = refl

-- what the bytes of f64 say, whatever follows them
pub f64s_back : (xs : List Float) (rest : List ℕ) → T (all_fit xs) → f64s_in (length xs) (f64_bytes xs ++ rest) ≡ xs
unfolding f64_bytes f64s_in
f64s_back [] rest f = refl
f64s_back (x ∷ xs) rest f =
    let y = to_bits binary64 x in
    ap₂ (λ (z : Float) (zs : List Float). z ∷ zs)
    (ap (λ (b : List ℕ). of_bits binary64 (number_in b)) (first_eight y (f64_bytes xs) rest) ∙ f64_back x (and_l (fits binary64 x) (all_fit xs) f))
    (ap (λ (b : List ℕ). f64s_in (length xs) b) (past_eight y (f64_bytes xs) rest) ∙ f64s_back xs rest (and_r (fits binary64 x) (all_fit xs) f))

-- and there are as many as were asked for
pub length-f64s_in : (count : ℕ) (bytes : List ℕ) → length (f64s_in count bytes) ≡ count
unfolding f64s_in
length-f64s_in zero bytes = refl
length-f64s_in (suc count) bytes = ap suc (length-f64s_in count (drop 8 bytes))

-- every NaN pattern is read as the one NaN
pub nan_pattern : (bytes : List ℕ) → nan_bits binary64 (number_in (take 8 bytes)) ≡ true → f64s_in 1 bytes ≡ nan ∷ []
unfolding f64s_in
nan_pattern bytes h =
    let n = number_in (take 8 bytes) in
    ap {B = List Float} (λ x. x ∷ []) (is_nan_lem (of_bits binary64 n) (sym (nan_bits_is binary64 n) ∙ h))

-- ---- a byte is below 256
pub bytes_append : (xs ys : List ℕ) → T (all_bytes xs) → T (all_bytes ys) → T (all_bytes (xs ++ ys))
bytes_append [] ys p q = q
bytes_append (x ∷ xs) ys p q =
    and_i (ltb x 256) (all_bytes (xs ++ ys)) (and_l (ltb x 256) (all_bytes xs) p) (bytes_append xs ys (and_r (ltb x 256) (all_bytes xs) p) q)

pub bytes_little : (width x : ℕ) → T (all_bytes (little_endian width x))
unfolding little_endian
bytes_little zero x = tt
bytes_little (suc width) x =
    and_i (ltb (x % 256) 256) (all_bytes (little_endian width (x / 256))) (lt→ltb (x % 256) 256 (mod-lt x (lit< tt))) (bytes_little width (x / 256))

pub bytes_f64 : (xs : List Float) → T (all_bytes (f64_bytes xs))
unfolding f64_bytes
bytes_f64 [] = tt
bytes_f64 (x ∷ xs) = bytes_append (little_endian 8 (to_bits binary64 x)) (f64_bytes xs) (bytes_little 8 (to_bits binary64 x)) (bytes_f64 xs)
