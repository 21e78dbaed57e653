-- "greatest distance": of numbers and infinities with a clear sign none is above it, and it is one of them or what it began with.
use Prim.Native.Nat.{◌*◌, ◌≤◌, ◌<◌}
use native.Mathlib.Omega.{arith}
use mathlib.Core.Path.{◌≡◌, refl, ap, sym, ◌∙◌}
use mathlib.Core.Logic.{◌⊎◌, inl, inr}
use mathlib.Core.Bool.{Bool, true, false, cond, true≢false}
use mathlib.Core.List.Memᴰ
use mathlib.Core.List.{List, [], ◌∷◌, Memᴰ}
use lib.Ieee.{Float, up, down, lt}
use lib.Ieee.Fits.{down_pos}
use lib.Ieee.Positive.{through}
use borrow.Author.Tests.{ltb-true, ltb-false, le-ltb}
use Rattle.ieee.specs.Floats.{max_of}
use Rattle.ieee.specs.Values.{Signed, infinite, number}
use Rattle.semivariogram_theory.specs.Bins.{greatest}

-- ---- the order of such numbers
not_below_self : (x : Float) → Signed false x → lt x x ≡ false
unfolding lt
not_below_self x infinite = refl
not_below_self x (number m e) = le-ltb (m * up e * down e) (m * up e * down e) (omega arith)

one_way : (x y : Float) → Signed false x → Signed false y → lt x y ≡ true → lt y x ≡ false
unfolding lt
one_way x y infinite infinite h = refl
one_way x y infinite (number n d) h = absurd (true≢false (sym h))
one_way x y (number m e) infinite h = refl
one_way x y (number m e) (number n d) h =
    let l : m * up e * down d < n * up d * down e = ltb-true (m * up e * down d) (n * up d * down e) h in
    le-ltb (n * up d * down e) (m * up e * down d) (omega arith)

not_below_trans : (x y z : Float) → Signed false x → Signed false y → Signed false z → lt x y ≡ false → lt y z ≡ false → lt x z ≡ false
unfolding lt
not_below_trans x y z infinite cy infinite h g = refl
not_below_trans x y z infinite cy (number o f) h g = refl
not_below_trans x y z (number m e) infinite cz h g = absurd (true≢false h)
not_below_trans x y z (number m e) (number n d) infinite h g = absurd (true≢false g)
not_below_trans x y z (number m e) (number n d) (number o f) h g =
    let l : n * up d * down e ≤ m * up e * down d = ltb-false (m * up e * down d) (n * up d * down e) h in
    let k : o * up f * down d ≤ n * up d * down f = ltb-false (n * up d * down f) (o * up f * down d) g in
    le-ltb (m * up e * down f) (o * up f * down e) (through (o * up f) (n * up d) (m * up e) (down f) (down d) (down e) (down_pos d) k l)

-- ---- the greater of two
max_clear : (h m : Float) → Signed false h → Signed false m → Signed false (max_of h m)
max_clear h m p q = go (lt m h)
  where
    go : (b : Bool) → Signed false (cond b h m)
    go true = p
    go false = q

-- neither is above it
max_first : (h m : Float) → Signed false h → Signed false m → lt (max_of h m) h ≡ false
max_first h m p q = go (lt m h) refl
  where
    go : (b : Bool) → lt m h ≡ b → lt (cond b h m) h ≡ false
    go true e = not_below_self h p
    go false e = e

max_second : (h m : Float) → Signed false h → Signed false m → lt (max_of h m) m ≡ false
max_second h m p q = go (lt m h) refl
  where
    go : (b : Bool) → lt m h ≡ b → lt (cond b h m) m ≡ false
    go true e = one_way m h q p e
    go false e = not_below_self m q

-- ---- the greatest of a list
pub greatest_clear : (m : Float) (hs : List Float) → Signed false m → ((h : Float) → Memᴰ h hs → Signed false h) → Signed false (greatest m hs)
unfolding greatest
greatest_clear m [] q f = q
greatest_clear m (h ∷ hs) q f = greatest_clear (max_of h m) hs (max_clear h m (f h (Memᴰ.head refl)) q) (λ x i. f x (Memᴰ.tail i))

greatest_first : (m : Float) (hs : List Float) → Signed false m → ((h : Float) → Memᴰ h hs → Signed false h) → lt (greatest m hs) m ≡ false
unfolding greatest
greatest_first m [] q f = not_below_self m q
greatest_first m (h ∷ hs) q f =
    let p : Signed false h = f h (Memᴰ.head refl) in
    let g : (x : Float) → Memᴰ x hs → Signed false x = λ x i. f x (Memᴰ.tail i) in
    let n : Signed false (max_of h m) = max_clear h m p q in
    not_below_trans (greatest (max_of h m) hs) (max_of h m) m (greatest_clear (max_of h m) hs n g) n q (greatest_first (max_of h m) hs n g) (max_second h m p q)

-- none is above it
pub none_greater : (m : Float) (hs : List Float) → Signed false m → ((h : Float) → Memᴰ h hs → Signed false h)
    → (x : Float) → Memᴰ x hs → lt (greatest m hs) x ≡ false
unfolding greatest
none_greater m [] q f x i = absurd (Memᴰ.not-nil i)
none_greater m (h ∷ hs) q f x i =
    let p : Signed false h = f h (Memᴰ.head refl) in
    let g : (x : Float) → Memᴰ x hs → Signed false x = λ x i. f x (Memᴰ.tail i) in
    let n : Signed false (max_of h m) = max_clear h m p q in
    let at_head : lt (greatest (max_of h m) hs) h ≡ false =
    not_below_trans (greatest (max_of h m) hs) (max_of h m) h (greatest_clear (max_of h m) hs n g) n p (greatest_first (max_of h m) hs n g) (max_first h m p q) in
    go at_head (none_greater (max_of h m) hs n g x) (Memᴰ.cases_cons i)
  where
    go : lt (greatest (max_of h m) hs) h ≡ false → (Memᴰ x hs → lt (greatest (max_of h m) hs) x ≡ false) → (x ≡ h) ⊎ Memᴰ x hs
        → lt (greatest (max_of h m) hs) x ≡ false
    go a r (inl e) = ap (λ (y : Float). lt (greatest (max_of h m) hs) y) e ∙ a
    go a r (inr j) = r j

-- and it is one of them, or what it began with
pub one_of_them : (m : Float) (hs : List Float) → (greatest m hs ≡ m) ⊎ Memᴰ (greatest m hs) hs
unfolding greatest
one_of_them m [] = inl refl
one_of_them m (h ∷ hs) = go (lt m h) refl (one_of_them (max_of h m) hs)
  where
    go : (b : Bool) → lt m h ≡ b → (greatest (max_of h m) hs ≡ max_of h m) ⊎ Memᴰ (greatest (max_of h m) hs) hs
        → (greatest (max_of h m) hs ≡ m) ⊎ Memᴰ (greatest (max_of h m) hs) (h ∷ hs)
    go true t (inl e) = inr (Memᴰ.head (e ∙ ap (λ (c : Bool). cond c h m) t))
    go false t (inl e) = inl (e ∙ ap (λ (c : Bool). cond c h m) t)
    go b t (inr i) = inr (Memᴰ.tail i)
