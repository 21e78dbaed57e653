-- Laws of the counts that basis codes give, as a pass over the codes uses them.
use Prim.Native.Nat.{ℕ, zero, suc, ◌+◌, ◌*◌, ◌/◌, ◌%◌, ◌^◌, ◌≤◌, ◌<◌}
use native.Mathlib.Nat.{min-eq_left, min-eq_right, div-add-mod', mul-div_cancel, mul-mod_left}
use native.Mathlib.Numerals.{add-one}
use native.Mathlib.Decide.{ℕ_discrete, dec_lt}
use native.Mathlib.Omega.{arith}
use mathlib.Core.Path.{◌≡◌, refl, sym, ap, ◌∙◌}
use mathlib.Core.Bool.{Bool, true, false, cond, ◌||◌}
use mathlib.Core.List.{List, [], ◌∷◌}
use borrow.Author.Tests.{lt-ltb, le-ltb, eq-eqb, ne_eqb}
use lib.Dec.{eqb, ltb}
use lib.ListN.{length, get_or, drop, drop_of_length-le}
use lib.Seq.{drop-cons}
use Rattle.std.specs.List.{count_by}
use Rattle.std.specs.Result.{is_err}
use Rattle.std.proofs.lemmas.List.Recursion.{is_count_by}
use Rattle.error.specs.Tests.{any}
use Rattle.survey.specs.Bases.{basis_of}
use Rattle.survey.specs.Survey.{code_columns, column_sum, columns_held, external_count}
use Rattle.survey.specs.Refusals.{bad_code}

-- ---- one code
few : (a b c d : Bool) → cond a 1 (cond b 3 (cond c 6 (cond d 1 0))) ≤ 6
few true b c d = omega arith
few false true c d = omega arith
few false false true d = omega arith
few false false false true = omega arith
few false false false false = omega arith

-- at most six columns a code
pub code_few : (c : ℕ) → code_columns c ≤ 6
code_few c = few (eqb c 1) (eqb c 2) (eqb c 3) (eqb c 4)

-- a code that is none of the four gives no column
pub code_none : (c : ℕ) → (c ≡ 1 → ⊥) → (c ≡ 2 → ⊥) → (c ≡ 3 → ⊥) → (c ≡ 4 → ⊥) → code_columns c ≡ 0
code_none c a b d e = rw (ne_eqb c 1 a, ne_eqb c 2 b, ne_eqb c 3 d, ne_eqb c 4 e)

-- a code outside 1 to 4 at hand, or none
pub too_low : (c : ℕ) (b : Bool) → c < 1 → (bad_code c || b) ≡ true
too_low c b l = rw (lt-ltb c 1 l)

pub too_high : (c : ℕ) (b : Bool) → 1 ≤ c → 4 < c → (bad_code c || b) ≡ true
too_high c b l h = rw (le-ltb c 1 l, lt-ltb 4 c h)

pub good : (c : ℕ) (b : Bool) → 1 ≤ c → c ≤ 4 → (bad_code c || b) ≡ b
good c b l h = rw (le-ltb c 1 l, le-ltb 4 c h)

-- the code of no basis is one outside 1 to 4
other : (c : ℕ) → 4 < c → is_err (basis_of c) ≡ bad_code c
other c l =
    let differs : (k : ℕ) → k ≤ 4 → eqb c k ≡ false = λ k h. ne_eqb c k (λ e. omega (arith, e, h, l)) in
    rw (differs 1 (omega arith), differs 2 (omega arith), differs 3 (omega arith), differs 4 (omega arith), le-ltb c 1 (omega (arith, l)), lt-ltb 4 c l)

pub code_of_none : (c : ℕ) → is_err (basis_of c) ≡ bad_code c
code_of_none zero = refl
code_of_none (suc zero) = refl
code_of_none (suc (suc zero)) = refl
code_of_none (suc (suc (suc zero))) = refl
code_of_none (suc (suc (suc (suc zero)))) = refl
code_of_none (suc (suc (suc (suc (suc c))))) = other (suc (suc (suc (suc (suc c))))) (omega arith)

-- k by a filter
one_more : (b : Bool) (k : ℕ) → cond b 1 0 + k ≡ cond b (1 + k) k
one_more true k = refl
one_more false k = omega arith

pub externals_counted : (cs : List ℕ) → count_by (λ c. eqb c 4) cs ≡ external_count cs
externals_counted cs = sym (is_count_by external_count (λ c. eqb c 4) refl (λ c cs. one_more (eqb c 4) (external_count cs)) cs)

-- ---- the codes from one place on
from_next : (cs : List ℕ) (i : ℕ) → i < length cs → drop i cs ≡ get_or cs i 0 ∷ drop (i + 1) cs
from_next cs i l = rw (add-one, drop-cons cs i 0)

pub columns_next : (cs : List ℕ) (i : ℕ) → i < length cs → column_sum (drop i cs) ≡ code_columns (get_or cs i 0) + column_sum (drop (i + 1) cs)
columns_next cs i l = ap column_sum (from_next cs i l)

pub columns_end : (cs : List ℕ) (i : ℕ) → length cs ≤ i → column_sum (drop i cs) ≡ 0
columns_end cs i l = ap column_sum (drop_of_length-le cs l)

pub externals_next : (cs : List ℕ) (i : ℕ) → i < length cs
    → external_count (drop i cs) ≡ cond (eqb (get_or cs i 0) 4) 1 0 + external_count (drop (i + 1) cs)
externals_next cs i l = ap external_count (from_next cs i l)

pub externals_end : (cs : List ℕ) (i : ℕ) → length cs ≤ i → external_count (drop i cs) ≡ 0
externals_end cs i l = ap external_count (drop_of_length-le cs l)

pub bad_next : (cs : List ℕ) (i : ℕ) → i < length cs → any bad_code (drop i cs) ≡ (bad_code (get_or cs i 0) || any bad_code (drop (i + 1) cs))
bad_next cs i l = ap (any bad_code) (from_next cs i l)

pub bad_end : (cs : List ℕ) (i : ℕ) → length cs ≤ i → any bad_code (drop i cs) ≡ false
bad_end cs i l = ap (any bad_code) (drop_of_length-le cs l)

-- ---- p as a word holds it
pub held_most : (cs : List ℕ) → 2 ^ 60 ≤ column_sum cs → columns_held cs ≡ 2 ^ 60
held_most cs h = min-eq_right h

pub held_exact : (cs : List ℕ) → column_sum cs < 2 ^ 60 → columns_held cs ≡ column_sum cs
held_exact cs h = let l : column_sum cs ≤ 2 ^ 60 = omega arith in min-eq_left l

-- "n < p" reads the same for every list of wells in memory
pub held_tells : (cs : List ℕ) (n : ℕ) → n < 2 ^ 60 → ltb n (columns_held cs) ≡ ltb n (column_sum cs)
held_tells cs n l =
    elim (dec_lt (column_sum cs) (2 ^ 60)) [
      | yes b ↦ ap (ltb n) (held_exact cs b)
      | no b ↦
          let m : 2 ^ 60 ≤ column_sum cs = omega arith in
          ap (ltb n) (held_most cs m) ∙ lt-ltb n (2 ^ 60) l ∙ sym (lt-ltb n (column_sum cs) (omega arith))
    ]

-- ---- a product by division
pub no_product : (len k n : ℕ) → (len % n ≡ 0 → ⊥) → eqb len (k * n) ≡ false
no_product len k n h = ne_eqb len (k * n) (λ e. h (ap (λ (l : ℕ). l % n) e ∙ mul-mod_left k n))

pub by_division : (len k n : ℕ) → 0 < n → len % n ≡ 0 → eqb (len / n) k ≡ eqb len (k * n)
by_division len k n p z =
    elim (ℕ_discrete (len / n) k) [
      | yes e ↦
          let d : len / n * n ≡ k * n = ap (λ (q : ℕ). q * n) e in
          eq-eqb (len / n) k e ∙ sym (eq-eqb len (k * n) (omega (arith, div-add-mod' len n)))
      | no e ↦ ne_eqb (len / n) k e ∙ sym (ne_eqb len (k * n) (λ f. e (ap (λ (l : ℕ). l / n) f ∙ mul-div_cancel k p)))
    ]

-- there are no more of code 4 than codes
one_at_most : (b : Bool) → cond b 1 0 ≤ 1
one_at_most true = omega arith
one_at_most false = omega arith

pub externals_at_most : (cs : List ℕ) → external_count cs ≤ length cs
externals_at_most [] = omega arith
externals_at_most (c ∷ cs) = omega (arith, one_at_most (eqb c 4), externals_at_most cs)
