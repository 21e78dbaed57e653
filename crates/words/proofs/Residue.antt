-- Laws of what a whole number leaves modulo 2^4288: only its class counts.
use Rattle.std.proofs.Common.{◌≡◌, ℕ, zero, suc, ◌+◌, ◌-◌, ◌*◌, ◌/◌, ◌%◌, ◌<◌, ◌≤◌, Bool, true, false, ℤ, pos, negsuc, ◌+ℤ◌, ◌-ℤ◌, neg_ℤ, sym, refl, ap, ◌∙◌, ⊎_elim, mod-lt, mod-eq_of_lt, suc-mul, div-add-mod', zero-mul, arith, pow_pos}
use native.Mathlib.Nat.{add-mod_right, mod-eq-sub-mod, suc-sub-suc}
use lib.IntN.{sub_ℕ, +ℤ_assoc, +ℤ_idr, +ℤ_idl, +ℤ_invr, -ℤ-+ℤ_cancel}
use Rattle.ieee.specs.Values.{signed}
use Rattle.words.specs.Words.{modulus, half, residue}
use Rattle.words.proofs.Whole.{subℕ_ge, subℕ_lt, +ℤ-swap, either_lt}

pub modulus_pos : 0 < modulus
unfolding modulus
modulus_pos = pow_pos 4288

pub two_halves : modulus ≡ 2 * half
unfolding modulus half
two_halves = refl

pub residue_lt : (z : ℤ) → residue z < modulus
unfolding residue
residue_lt (pos n) = mod-lt n modulus_pos
residue_lt (negsuc n) = let l = modulus_pos in omega arith

pub residue_below : (n : ℕ) → n < modulus → residue (pos n) ≡ n
unfolding residue
residue_below n h = mod-eq_of_lt h

-- one modulus more
once : (z : ℤ) → residue (z +ℤ pos modulus) ≡ residue z
unfolding residue
once (pos n) = add-mod_right n modulus
once (negsuc n) = ⊎_elim small large (either_lt n modulus)
  where
    small : n < modulus → residue (sub_ℕ modulus (suc n)) ≡ modulus - suc (n % modulus)
    small h =
        ap residue (subℕ_ge modulus (suc n) h) ∙ mod-eq_of_lt (omega (arith, modulus_pos)) ∙ ap (λ (x : ℕ). modulus - suc x) (sym (mod-eq_of_lt h))

    large : modulus ≤ n → residue (sub_ℕ modulus (suc n)) ≡ modulus - suc (n % modulus)
    large h =
        ap residue (subℕ_lt modulus (suc n) (omega arith))
        ∙ ap (λ (x : ℕ). modulus - suc x) (ap (λ (x : ℕ). x % modulus) (suc-sub-suc n modulus) ∙ sym (mod-eq-sub-mod h))

-- any number of them
pub residue_more : (z : ℤ) (k : ℕ) → residue (z +ℤ pos (k * modulus)) ≡ residue z
residue_more z zero = ap (λ (n : ℕ). residue (z +ℤ pos n)) (zero-mul modulus) ∙ ap residue (+ℤ_idr z)
residue_more z (suc k) =
    ap (λ (n : ℕ). residue (z +ℤ pos n)) (suc-mul k modulus)
    ∙ ap residue (sym (+ℤ_assoc z (pos (k * modulus)) (pos modulus)))
    ∙ once (z +ℤ pos (k * modulus))
    ∙ residue_more z k

-- more or fewer
pub residue_either : (z : ℤ) (s : Bool) (k : ℕ) → residue (z +ℤ signed s (k * modulus)) ≡ residue z
residue_either z false k = residue_more z k
residue_either z true k =
    sym (residue_more (z -ℤ pos (k * modulus)) k) ∙ ap residue (-ℤ-+ℤ_cancel z (pos (k * modulus)))

-- two whole numbers that differ by so many
pub same_residue : (z w : ℤ) (j k : ℕ) → z +ℤ pos (j * modulus) ≡ w +ℤ pos (k * modulus) → residue z ≡ residue w
same_residue z w j k h = sym (residue_more z j) ∙ ap residue h ∙ residue_more w k

-- a whole number and what it leaves differ by so many: with `residue-lt`, what it leaves is the number below 2^4288 that is congruent to it
pub residue_differs : (z : ℤ) → (j : ℕ) × (k : ℕ) × (z +ℤ pos (j * modulus) ≡ pos (residue z) +ℤ pos (k * modulus))
unfolding residue
residue_differs (pos n) = (0, n / modulus, ap pos (omega (arith, div-add-mod' n modulus)))
residue_differs (negsuc n) =
    let q = n / modulus in
    let e : q * modulus + n % modulus ≡ n = div-add-mod' n modulus in
    let l : n % modulus < modulus = mod-lt n modulus_pos in
    let s : suc q * modulus ≡ q * modulus + modulus = suc-mul q modulus in
    let d : suc q * modulus - suc n ≡ modulus - suc (n % modulus) + 0 * modulus = omega arith in
    (suc q, 0, subℕ_ge (suc q * modulus) (suc n) (omega arith) ∙ ap pos d)

-- a sum leaves what the sum of what is left leaves
pub residue_plus : (z t : ℤ) → residue (z +ℤ t) ≡ residue (pos (residue z) +ℤ t)
residue_plus z t =
    let d = residue_differs z in
    same_residue (z +ℤ t) (pos (residue z) +ℤ t) d.0 d.1 (
    +ℤ-swap z t (pos (d.0 * modulus)) ∙ ap (λ (x : ℤ). x +ℤ t) d.2 ∙ +ℤ-swap (pos (residue z)) (pos (d.1 * modulus)) t)

pub residue_add : (z w t : ℤ) → residue z ≡ residue w → residue (z +ℤ t) ≡ residue (w +ℤ t)
residue_add z w t h = residue_plus z t ∙ ap (λ (n : ℕ). residue (pos n +ℤ t)) h ∙ sym (residue_plus w t)

pub residue_again : (z : ℤ) → residue (pos (residue z)) ≡ residue z
residue_again z = residue_below (residue z) (residue_lt z)

-- minus two that leave the same
pub residue_negℤ : (z w : ℤ) → residue z ≡ residue w → residue (neg_ℤ z) ≡ residue (neg_ℤ w)
residue_negℤ z w h =
    let u = neg_ℤ z +ℤ neg_ℤ w in
    let a : w +ℤ u ≡ neg_ℤ z = sym (+ℤ_assoc w (neg_ℤ z) (neg_ℤ w)) ∙ +ℤ-swap w (neg_ℤ z) (neg_ℤ w) ∙ ap (λ (x : ℤ). x +ℤ neg_ℤ z) (+ℤ_invr w) ∙ +ℤ_idl (neg_ℤ z) in
    let b : z +ℤ u ≡ neg_ℤ w = sym (+ℤ_assoc z (neg_ℤ z) (neg_ℤ w)) ∙ ap (λ (x : ℤ). x +ℤ neg_ℤ w) (+ℤ_invr z) ∙ +ℤ_idl (neg_ℤ w) in
    ap residue (sym a) ∙ sym (residue_add z w u h) ∙ ap residue b
