-- `audit::rounded_sums` meets its contract: after some turns both sums have as many terms.
use Prim.Native.Nat.{ℕ, ◌+◌, ◌-◌, ◌*◌, ◌^◌, ◌≤◌, ◌<◌}
use native.Mathlib.Decide.{dec_lt}
use native.Mathlib.Omega.{arith}
use mathlib.Core.Path.{◌≡◌, sym, ap, ◌∙◌, subst}
use mathlib.Core.Logic.{inl, inr, ⊎_elim}
use Rattle.std.specs.Prelude.{min}
use mathlib.Core.List.{List}
use lib.ListN.{length, get_or, get_or-eq_default}
use lib.Ieee.{Float, nan, binary64, mul, div, of_bits}
use Rattle.ieee.specs.Floats.{abs_of}
use Rattle.ieee.proofs.Sums.{no_terms, sum_turn, all_terms, none_from, times_none}
use Rattle.estimate.specs.Estimate.{rounded_sum, rounded_size}
use Rattle.audit.specs.Lists.{number_in}
use Rattle.audit.proofs.rounded_sums.Invariants.{terms, At}
use Rattle.audit.proofs.rounded_sums.Goals as goal

pub loop-weight-init : goal.loop-weight-init
loop-weight-init c = (inl (omega arith), no_terms _, no_terms _)

-- the numbers end: the term is none, and so are the sums
ended : (weights numbers : List Float) (column width at i : ℕ) → At (length numbers) at (column + i * width) → length numbers ≤ at
    → terms weights numbers column width i ≡ nan
ended weights numbers column width at i e h =
    let past : length numbers ≤ column + i * width = ⊎_elim (λ (g : at ≡ column + i * width). subst (λ (n : ℕ). length numbers ≤ n) g h) (λ g. g.1) e in
    ap (λ (y : Float). mul binary64 (number_in weights i) y) (get_or-eq_default numbers nan past) ∙ times_none (number_in weights i)

-- the place of the next number, where there is one at the place before
next_at : (size at column width i next : ℕ) → size < 2 ^ 63 → at < size → next ≡ min (at + width) (2 ^ 64 - 1) → At size at (column + i * width)
    → At size next (column + (i + 1) * width)
next_at size at column width i next fits inside e (inl g) =
    elim (dec_lt (at + width) (2 ^ 64)) [
      | yes l ↦ inl (omega arith)
      | no l ↦ inr (omega arith, omega arith)
    ]
next_at size at column width i next fits inside e (inr g) = absurd (omega (arith, g.0))

pub returns-then-at-numbers : goal.returns-then-at-numbers
unfolding rounded_sum rounded_size div of_bits
returns-then-at-numbers c =
    let l = c.loop-weight in
    let r = c.args in
    let none = ended r.weights.now r.numbers.now r.column r.width l.at l.weight-index l.invariant.0 c.if-at-numbers.true in
    record {
      sum = sym (none_from _ l.weight-index (length r.weights.now) none (omega arith));
      size = sym (none_from _ l.weight-index (length r.weights.now) (ap abs_of none) (omega arith));
      lists = (c.type_inv.weights, c.type_inv.numbers);
    }

pub loop-weight-preserved : goal.loop-weight-preserved
loop-weight-preserved c =
    let l = c.loop-weight in
    let r = c.args in
    let at : l.at ≡ r.column + l.weight-index * r.width = ⊎_elim (λ (g : l.at ≡ r.column + l.weight-index * r.width). g) (λ g. absurd (omega (arith, g.0))) l.invariant.0 in
    let is : mul binary64 (get_or r.weights.now l.weight-index nan) (get_or r.numbers.now l.at nan) ≡ terms r.weights.now r.numbers.now r.column
    r.width l.weight-index =
    ap (λ (p : ℕ). mul binary64 (get_or r.weights.now l.weight-index nan) (get_or r.numbers.now p nan)) at in (
      next_at (length r.numbers.now) l.at r.column r.width l.weight-index c.saturating_add-at.result (omega arith) c.if-at-numbers.false c.saturating_add-at.ensures l.invariant.0,
      sum_turn l.weight-index _ l.sum _ is l.invariant.1,
      sum_turn l.weight-index _ l.size _ (c.abs-size.ensures ∙ ap abs_of is) l.invariant.2,
    )

pub returns : goal.returns
unfolding rounded_sum rounded_size
returns c =
    let l = c.loop-weight in
    let all : l.weight-index ≡ length c.args.weights.now = omega arith in
    record {
      sum = all_terms _ all l.invariant.1;
      size = all_terms _ all l.invariant.2;
      lists = (c.type_inv.weights, c.type_inv.numbers);
    }
