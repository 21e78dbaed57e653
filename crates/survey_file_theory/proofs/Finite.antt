-- "11 (r and t included)": every number of the file is finite exactly where the writer's condition of 11 does not hold.
use Prim.Native.Nat.{ℕ, zero, suc, ◌<◌}
use native.Mathlib.Omega.{arith}
use mathlib.Core.Path.{◌≡◌, subst}
use mathlib.Core.Logic.{inl, inr, ◌↔◌}
use mathlib.Core.Bool.{Bool, true, false, not, cond}
use mathlib.Core.List.{List, [], ◌∷◌, ◌++◌}
use lib.Dec.{T, T_not, eqb, eqb-suc-zero}
use lib.Ieee.{Float}
use lib.Ieee.Scale.{finite}
use lib.Ieee.Fits.{and_i, and_l, and_r}
use Rattle.error.proofs.Tells.{refute, some_not_finite}
use Rattle.ieee.specs.Finite.{all_finite, NotFinite, SomeNotFinite}
use Rattle.ieee.proofs.FiniteLists.{not_finite, is_finite}
use Rattle.survey.specs.Survey.{Survey, externals}
use Rattle.survey_file_theory.specs.Contents.{node_externals, numbers}
use Rattle.survey_file_theory.specs.Rules.{SomeNumberNotFinite}

-- ---- lists
all_finite_lem : (xs : List Float) → ¬ SomeNotFinite xs → T (all_finite xs)
all_finite_lem xs n = go (all_finite xs) (refute (some_not_finite xs) n)
  where
    go : (b : Bool) → not b ≡ false → T b
    go true e = tt
    go false e = subst T e tt

none_not_finite : (xs : List Float) → T (all_finite xs) → ¬ SomeNotFinite xs
none_not_finite xs h r = T_not (all_finite xs) ((some_not_finite xs).back r) h

joined : (xs ys : List Float) → T (all_finite xs) → T (all_finite ys) → T (all_finite (xs ++ ys))
unfolding all_finite
joined [] ys p q = q
joined (x ∷ xs) ys p q = and_i (finite x) (all_finite (xs ++ ys)) (and_l (finite x) (all_finite xs) p) (joined xs ys (and_r (finite x) (all_finite xs) p) q)

parted : (xs ys : List Float) → T (all_finite (xs ++ ys)) → T (all_finite xs) × T (all_finite ys)
unfolding all_finite
parted [] ys h = (tt, h)
parted (x ∷ xs) ys h =
    let r = parted xs ys (and_r (finite x) (all_finite (xs ++ ys)) h) in
    (and_i (finite x) (all_finite xs) (and_l (finite x) (all_finite (xs ++ ys)) h) r.0, r.1)

-- ---- node externals, "if k > 0"
if_any : (k : ℕ) (xs : List Float) → T (all_finite (cond (eqb k 0) [] xs)) ↔ (¬ ((0 < k) × SomeNotFinite xs))
unfolding all_finite
if_any zero xs = (λ h x. let l = x.0 in omega arith, λ n. tt)
if_any (suc k) xs =
    rw (eqb-suc-zero k) (λ h x. none_not_finite xs h x.1, λ n. all_finite_lem xs (λ r. n (omega arith, r)))

-- ---- the numbers of a file
first : (x : Float) (xs : List Float) → T (all_finite (x ∷ xs)) → T (finite x)
unfolding all_finite
first x xs h = and_l (finite x) (all_finite xs) h

rest : (x : Float) (xs : List Float) → T (all_finite (x ∷ xs)) → T (all_finite xs)
unfolding all_finite
rest x xs h = and_r (finite x) (all_finite xs) h

before : (x : Float) (xs : List Float) → T (finite x) → T (all_finite xs) → T (all_finite (x ∷ xs))
unfolding all_finite
before x xs h g = and_i (finite x) (all_finite xs) h g

record Parts (s : Survey) : Type 0 where
  nugget : T (finite s.options.variogram.nugget)
  sill : T (finite s.options.variogram.sill)
  range : T (finite s.options.variogram.range)
  regularization : T (finite s.options.regularization)
  tolerance : T (finite s.tolerance)
  values : T (all_finite s.values)
  coords : T (all_finite s.coords)
  external : T (all_finite s.external)
  nodes : T (all_finite s.nodes)
  node_external : T (all_finite (node_externals s))

parts_of : (s : Survey) → T (all_finite (numbers s)) → Parts s
unfolding numbers
parts_of s h1 =
    let h2 = rest _ _ h1 in
    let h3 = rest _ _ h2 in
    let h4 = rest _ _ h3 in
    let h5 = rest _ _ h4 in
    let p1 = parted s.values (s.coords ++ (s.external ++ (s.nodes ++ node_externals s))) (rest _ _ h5) in
    let p2 = parted s.coords (s.external ++ (s.nodes ++ node_externals s)) p1.1 in
    let p3 = parted s.external (s.nodes ++ node_externals s) p2.1 in
    let p4 = parted s.nodes (node_externals s) p3.1 in
    record {
      nugget = first _ _ h1;
      sill = first _ _ h2;
      range = first _ _ h3;
      regularization = first _ _ h4;
      tolerance = first _ _ h5;
      values = p1.0;
      coords = p2.0;
      external = p3.0;
      nodes = p4.0;
      node_external = p4.1;
    }

whole : (s : Survey) → Parts s → T (all_finite (numbers s))
unfolding numbers
whole s p =
    before _ _ p.nugget (before _ _ p.sill (before _ _ p.range (before _ _ p.regularization (before _ _ p.tolerance
    (joined s.values _ p.values (joined s.coords _ p.coords (joined s.external _ p.external
    (joined s.nodes (node_externals s) p.nodes p.node_external))))))))

is_not : (x : Float) → T (finite x) → ¬ NotFinite x
is_not x h n = T_not (finite x) ((not_finite x).1 n) h

none_is : (s : Survey) → Parts s → ¬ SomeNumberNotFinite s
none_is s p (inl (inl (inl x))) = is_not s.options.variogram.nugget p.nugget x
none_is s p (inl (inl (inr (inl x)))) = is_not s.options.variogram.sill p.sill x
none_is s p (inl (inl (inr (inr x)))) = is_not s.options.variogram.range p.range x
none_is s p (inl (inr (inl x))) = none_not_finite s.values p.values x
none_is s p (inl (inr (inr (inl x)))) = none_not_finite s.coords p.coords x
none_is s p (inl (inr (inr (inr (inl x))))) = none_not_finite s.external p.external x
none_is s p (inl (inr (inr (inr (inr (inl x)))))) = none_not_finite s.nodes p.nodes x
none_is s p (inl (inr (inr (inr (inr (inr x)))))) = (if_any (externals s) s.node_external).0 p.node_external x
none_is s p (inr (inl x)) = is_not s.options.regularization p.regularization x
none_is s p (inr (inr x)) = is_not s.tolerance p.tolerance x

each_is : (s : Survey) → ¬ SomeNumberNotFinite s → Parts s
each_is s n =
    record {
      nugget = is_finite s.options.variogram.nugget (λ x. n (inl (inl (inl x))));
      sill = is_finite s.options.variogram.sill (λ x. n (inl (inl (inr (inl x)))));
      range = is_finite s.options.variogram.range (λ x. n (inl (inl (inr (inr x)))));
      regularization = is_finite s.options.regularization (λ x. n (inr (inl x)));
      tolerance = is_finite s.tolerance (λ x. n (inr (inr x)));
      values = all_finite_lem s.values (λ x. n (inl (inr (inl x))));
      coords = all_finite_lem s.coords (λ x. n (inl (inr (inr (inl x)))));
      external = all_finite_lem s.external (λ x. n (inl (inr (inr (inr (inl x))))));
      nodes = all_finite_lem s.nodes (λ x. n (inl (inr (inr (inr (inr (inl x)))))));
      node_external = (if_any (externals s) s.node_external).1 (λ x. n (inl (inr (inr (inr (inr (inr x)))))));
    }

pub finite_exactly : (s : Survey) → T (all_finite (numbers s)) ↔ (¬ SomeNumberNotFinite s)
finite_exactly s = (λ h. none_is s (parts_of s h), λ n. whole s (each_is s n))
