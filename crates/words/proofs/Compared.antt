-- Two sums compared by their words: the highest that differ decide, and how many words a walk down to them looks at.
use Rattle.std.proofs.Common.{◌≡◌, ℕ, zero, suc, ◌+◌, ◌-◌, ◌%◌, ◌^◌, ◌<◌, ◌≤◌, Bool, true, false, cond, eqb, ltb, leb, List, [], ◌∷◌, length, get_or, ℤ, pos, negsuc, sym, refl, ap, ◌∙◌, subst, ap₂, ⊎_elim, suc-le-suc, le_of_eq, le_refl, le_of_suc-le-suc, not-suc-le-zero, le_of_lt, le_antisymm, arith, ext_get_or, le-ltb, lt-ltb, eq-eqb, ne_eqb, eqb-true, le-leb}
use mathlib.Core.Option.{Option, none, some}
use borrow.Author.Tests.{lt-leb, eqb-false}
use lib.Signed.{le_z}
use lib.ListN.{get_or-eq_default}
use lib.Arith.{lt_of_le-ne}
use Rattle.std.specs.declared.cmp.Ordering.{Ordering}
use Rattle.std.specs.declared.cmp.Ordering.TheVariants.{Less, Equal, Greater}
use Rattle.words.specs.Words.{number, modulus, half, reading}
use Rattle.words.specs.Compared.{order_of, is_at_most, HighestDiffering, signed_word, read_at, or_lowest}
use Rattle.words.specs.Compared.{lowest_place, highest_place, less_place, words_taken, SaysOf}
use Rattle.words.proofs.Whole.{either_lt}
use Rattle.words.proofs.Words.{Words, words_get}
use Rattle.words.proofs.Held.{number_below}
use Rattle.words.proofs.Sign.{twos, twos_low, twos_high, reading_twos, low_top, high_top}

-- ---- the order of two natural numbers

pub below : (x y : ℕ) → x < y → order_of (pos x) (pos y) ≡ Less
below x y h = rw (lt-ltb x y h)

pub above : (x y : ℕ) → y < x → order_of (pos x) (pos y) ≡ Greater
above x y h = rw (le-ltb x y (le_of_lt h)) (rw (lt-ltb y x h))

pub same : (x y : ℕ) → x ≤ y → y ≤ x → order_of (pos x) (pos y) ≡ Equal
same x y h k = rw (le-ltb x y k) (rw (le-ltb y x h))

-- a number stands to itself as the same
pub itself : (z : ℤ) → order_of z z ≡ Equal
itself (pos n) = same n n (le_refl n) (le_refl n)
itself (negsuc n) = same n n (le_refl n) (le_refl n)

-- ---- two's complement

-- what is left of m turns the order round
turn : (m x y : ℕ) → x < m → y < m → ltb (m - suc y) (m - suc x) ≡ ltb x y
turn m x y k l =
    ⊎_elim
    (λ (h : x < y). lt-ltb (m - suc y) (m - suc x) (omega arith) ∙ sym (lt-ltb x y h))
    (λ (h : y ≤ x). le-ltb (m - suc y) (m - suc x) (omega arith) ∙ sym (le-ltb x y h))
    (either_lt x y)

module _ (h m x y : ℕ) (k : x < m) (l : y < m) where
  both_low : x < h → y < h → order_of (twos h m x) (twos h m y) ≡ order_of (pos x) (pos y)
  both_low p q = ap₂ order_of (twos_low h m x p) (twos_low h m y q)

  both_high : h ≤ x → h ≤ y → order_of (twos h m x) (twos h m y) ≡ order_of (pos x) (pos y)
  both_high p q =
      ap₂ order_of (twos_high h m x k p) (twos_high h m y l q)
      ∙ ap₂ (λ (s t : Bool). cond s Less (cond t Greater Equal)) (turn m x y k l) (turn m y x l k)

  first_high : h ≤ x → y < h → order_of (twos h m x) (twos h m y) ≡ Less
  first_high p q = ap₂ order_of (twos_high h m x k p) (twos_low h m y q)

  second_high : x < h → h ≤ y → order_of (twos h m x) (twos h m y) ≡ Greater
  second_high p q = ap₂ order_of (twos_low h m x p) (twos_high h m y l q)

-- numbers in one order
alike_order : (x y z w : ℕ) → (x < y → z < w) → (y < x → w < z) → (x ≡ y → z ≡ w) → order_of (pos z) (pos w) ≡ order_of (pos x) (pos y)
alike_order x y z w f g h =
    ⊎_elim
    (λ (k : x < y). below z w (f k) ∙ sym (below x y k))
    (λ (k : y ≤ x). ⊎_elim
    (λ (l : y < x). above z w (g l) ∙ sym (above x y l))
    (λ (l : x ≤ y). let e = h (le_antisymm l k) in same z w (le_of_eq e) (le_of_eq (sym e)) ∙ sym (same x y l k))
    (either_lt y x))
    (either_lt x y)

abbrev turned_word : ℕ → ℕ
turned_word w = (w + 2 ^ 63) % 2 ^ 64

-- signed words are in the order of the words turned by 2^63
pub turned_order : (x y : ℕ) → x < 2 ^ 64 → y < 2 ^ 64
    → order_of (pos ((x + 2 ^ 63) % 2 ^ 64)) (pos ((y + 2 ^ 63) % 2 ^ 64)) ≡ order_of (signed_word x) (signed_word y)
turned_order x y k l =
    ⊎_elim
    (λ (h : x < 2 ^ 63). ⊎_elim
    (λ (g : y < 2 ^ 63). alike_order x y (turned_word x) (turned_word y) (λ q. omega arith) (λ q. omega arith) (λ q. omega arith)
    ∙ sym (both_low (2 ^ 63) (2 ^ 64) x y k l h g))
    (λ (g : 2 ^ 63 ≤ y). above (turned_word x) (turned_word y) (omega arith) ∙ sym (second_high (2 ^ 63) (2 ^ 64) x y k l h g))
    (either_lt y (2 ^ 63)))
    (λ (h : 2 ^ 63 ≤ x). ⊎_elim
    (λ (g : y < 2 ^ 63). below (turned_word x) (turned_word y) (omega arith) ∙ sym (first_high (2 ^ 63) (2 ^ 64) x y k l h g))
    (λ (g : 2 ^ 63 ≤ y). alike_order x y (turned_word x) (turned_word y) (λ q. omega arith) (λ q. omega arith) (λ q. omega arith)
    ∙ sym (both_high (2 ^ 63) (2 ^ 64) x y k l h g))
    (either_lt y (2 ^ 63)))
    (either_lt x (2 ^ 63))

-- a word below the top one is read as it is
pub read_lower : (i w : ℕ) → (i ≡ 66 → ⊥) → read_at i w ≡ pos w
read_lower i w h = rw (ne_eqb i 66 h)

pub read_top : (i w : ℕ) → i ≡ 66 → read_at i w ≡ signed_word w
read_top i w h = rw (eq-eqb i 66 h)

-- ---- the highest words that differ decide

number_less : (a b : List ℕ) (i : ℕ) → Words a → Words b → length a ≡ length b → i < length a
    → ((j : ℕ) → i < j → get_or a j 0 ≡ get_or b j 0) → get_or a i 0 < get_or b i 0 → number a < number b
number_less [] b i u v n h e l = absurd (not-suc-le-zero h)
number_less (x ∷ xs) [] i u v n h e l = absurd (not-suc-le-zero (subst (λ (k : ℕ). i < k) n h))
number_less (x ∷ xs) (y ∷ ys) zero u v n h e l =
    let s : number xs ≡ number ys = ap number (ext_get_or 0 xs ys (omega arith) (λ j _. e (suc j) (suc-le-suc (omega arith)))) in
    omega arith
number_less (x ∷ xs) (y ∷ ys) (suc i) u v n h e l =
    let s : number xs < number ys = number_less xs ys i u.1 v.1 (omega arith) (le_of_suc-le-suc h) (λ j g. e (suc j) (suc-le-suc g)) l in
    omega (arith, u.0, v.0)

-- past the last word both read 0
pub past_last : (a b : List ℕ) → length a ≡ 67 → length b ≡ 67 → (j : ℕ) → 67 ≤ j → get_or a j 0 ≡ get_or b j 0
past_last a b k l j h =
    get_or-eq_default a 0 (subst (λ (n : ℕ). n ≤ j) (sym k) h) ∙ sym (get_or-eq_default b 0 (subst (λ (n : ℕ). n ≤ j) (sym l) h))

module _ (a b : List ℕ) (u : Words a) (v : Words b) (k : length a ≡ 67) (l : length b ≡ 67) (i : ℕ) (d : HighestDiffering a b i) where
  within : i < 67
  within = ⊎_elim (λ (h : i < 67). h) (λ (h : 67 ≤ i). absurd (d.differs (past_last a b k l i h))) (either_lt i 67)

  -- the order of the words' numbers
  numbers : order_of (pos (number a)) (pos (number b)) ≡ order_of (pos (get_or a i 0)) (pos (get_or b i 0))
  numbers =
      ⊎_elim
      (λ (h : get_or a i 0 < get_or b i 0). below _ _ (number_less a b i u v (k ∙ sym l) (subst (λ (n : ℕ). i < n) (sym k) within) d.above h)
      ∙ sym (below _ _ h))
      (λ (h : get_or b i 0 ≤ get_or a i 0). let g : get_or b i 0 < get_or a i 0 = lt_of_le-ne h (λ e. d.differs (sym e)) in
      above _ _ (number_less b a i v u (l ∙ sym k) (subst (λ (n : ℕ). i < n) (sym l) within) (λ j q. sym (d.above j q)) g) ∙ sym (above _ _ g))
      (either_lt (get_or a i 0) (get_or b i 0))

  top_is : 66 ≤ i → 66 ≡ i
  top_is h = le_antisymm h (le_of_suc-le-suc within)

  -- top words of one sign: the words at i are read in their own order
  alike : order_of (signed_word (get_or a 66 0)) (signed_word (get_or b 66 0)) ≡ order_of (pos (get_or a 66 0)) (pos (get_or b 66 0))
      → order_of (read_at i (get_or a i 0)) (read_at i (get_or b i 0)) ≡ order_of (pos (get_or a i 0)) (pos (get_or b i 0))
  alike e =
      ⊎_elim
      (λ (h : i < 66). let n : i ≡ 66 → ⊥ = λ e. omega arith in ap₂ order_of (read_lower i (get_or a i 0) n) (read_lower i (get_or b i 0) n))
      (λ (h : 66 ≤ i). subst (λ (n : ℕ). order_of (read_at n (get_or a n 0)) (read_at n (get_or b n 0)) ≡ order_of (pos (get_or a n 0)) (pos (get_or b n 0))) (top_is h) e)
      (either_lt i 66)

  -- top words of two signs differ, so it is they that decide
  unlike : (o : Ordering) → order_of (signed_word (get_or a 66 0)) (signed_word (get_or b 66 0)) ≡ o → (get_or a 66 0 ≡ get_or b 66 0 → ⊥)
      → order_of (read_at i (get_or a i 0)) (read_at i (get_or b i 0)) ≡ o
  unlike o e n =
      ⊎_elim
      (λ (h : i < 66). absurd (n (d.above 66 h)))
      (λ (h : 66 ≤ i). subst (λ (m : ℕ). order_of (read_at m (get_or a m 0)) (read_at m (get_or b m 0)) ≡ o) (top_is h) e)
      (either_lt i 66)

  readings : order_of (reading a) (reading b) ≡ order_of (twos half modulus (number a)) (twos half modulus (number b))
  readings = ap₂ order_of (reading_twos a) (reading_twos b)

  abbrev Decided : Type 0
  Decided = order_of (reading a) (reading b) ≡ order_of (read_at i (get_or a i 0)) (read_at i (get_or b i 0))

  low_low : get_or a 66 0 < 2 ^ 63 → get_or b 66 0 < 2 ^ 63 → Decided
  low_low h g =
      readings ∙ both_low half modulus (number a) (number b) (number_below a u k) (number_below b v l) (low_top a u k h) (low_top b v l g) ∙ numbers
      ∙ sym (alike (both_low (2 ^ 63) (2 ^ 64) (get_or a 66 0) (get_or b 66 0) (words_get a 66 u) (words_get b 66 v) h g))

  high_high : 2 ^ 63 ≤ get_or a 66 0 → 2 ^ 63 ≤ get_or b 66 0 → Decided
  high_high h g =
      readings ∙ both_high half modulus (number a) (number b) (number_below a u k) (number_below b v l) (high_top a u k h) (high_top b v l g) ∙ numbers
      ∙ sym (alike (both_high (2 ^ 63) (2 ^ 64) (get_or a 66 0) (get_or b 66 0) (words_get a 66 u) (words_get b 66 v) h g))

  high_low : 2 ^ 63 ≤ get_or a 66 0 → get_or b 66 0 < 2 ^ 63 → Decided
  high_low h g =
      readings ∙ first_high half modulus (number a) (number b) (number_below a u k) (number_below b v l) (high_top a u k h) (low_top b v l g)
      ∙ sym (unlike Less (first_high (2 ^ 63) (2 ^ 64) (get_or a 66 0) (get_or b 66 0) (words_get a 66 u) (words_get b 66 v) h g) (λ e. omega arith))

  low_high : get_or a 66 0 < 2 ^ 63 → 2 ^ 63 ≤ get_or b 66 0 → Decided
  low_high h g =
      readings ∙ second_high half modulus (number a) (number b) (number_below a u k) (number_below b v l) (low_top a u k h) (high_top b v l g)
      ∙ sym (unlike Greater (second_high (2 ^ 63) (2 ^ 64) (get_or a 66 0) (get_or b 66 0) (words_get a 66 u) (words_get b 66 v) h g) (λ e. omega arith))

  -- "the first word that differs" tells the order of the sums, "the top word read as signed"
  pub decided : order_of (reading a) (reading b) ≡ order_of (read_at i (get_or a i 0)) (read_at i (get_or b i 0))
  decided =
      ⊎_elim
      (λ (h : get_or a 66 0 < 2 ^ 63). ⊎_elim (low_low h) (low_high h) (either_lt (get_or b 66 0) (2 ^ 63)))
      (λ (h : 2 ^ 63 ≤ get_or a 66 0). ⊎_elim (high_low h) (high_high h) (either_lt (get_or b 66 0) (2 ^ 63)))
      (either_lt (get_or a 66 0) (2 ^ 63))

-- ---- the highest place where they differ

-- what the rest says, with the lowest words before it
with_lowest : (x y : ℕ) (xs ys : List ℕ) (o : Option ℕ) → SaysOf xs ys o → SaysOf (x ∷ xs) (y ∷ ys) (or_lowest o (lowest_place x y))
with_lowest x y xs ys (some i) d = record { differs = d.differs; above = up }
  where
    up : (j : ℕ) → suc i < j → get_or (x ∷ xs) j 0 ≡ get_or (y ∷ ys) j 0
    up zero h = absurd (not-suc-le-zero h)
    up (suc j) h = d.above j (le_of_suc-le-suc h)
with_lowest x y xs ys none e = go (eqb x y) refl
  where
    up : (j : ℕ) → 0 < j → get_or (x ∷ xs) j 0 ≡ get_or (y ∷ ys) j 0
    up zero h = absurd (not-suc-le-zero h)
    up (suc j) h = ap (λ (l : List ℕ). get_or l j 0) e

    go : (t : Bool) → eqb x y ≡ t → SaysOf (x ∷ xs) (y ∷ ys) (cond t none (some 0))
    go true h = ap₂ (λ (z : ℕ) (zs : List ℕ). z ∷ zs) (eqb-true x y h) e
    go false h = record { differs = eqb-false x y h; above = up }

-- the place that the definition finds is the highest where the two differ, and where it finds none they are equal
pub place_says : (a b : List ℕ) → length a ≡ length b → SaysOf a b (highest_place a b)
place_says [] [] n = refl
place_says [] (y ∷ ys) n = absurd (omega arith)
place_says (x ∷ xs) [] n = absurd (omega arith)
place_says (x ∷ xs) (y ∷ ys) n = with_lowest x y xs ys (highest_place xs ys) (place_says xs ys (omega arith))

-- there is one such place at most
only : (a b : List ℕ) (i j : ℕ) → HighestDiffering a b i → HighestDiffering a b j → i ≡ j
only a b i j d e =
    ⊎_elim
    (λ (h : i < j). absurd (e.differs (d.above j h)))
    (λ (h : j ≤ i). ⊎_elim (λ (g : j < i). absurd (d.differs (e.above i g))) (λ (g : i ≤ j). le_antisymm g h) (either_lt j i))
    (either_lt i j)

-- how many words: to where they differ, and all where they do not
pub taken_to : (a b : List ℕ) → length a ≡ length b → (i : ℕ) → HighestDiffering a b i → words_taken a b ≡ 67 - i
unfolding words_taken
taken_to a b n i d = go (highest_place a b) (place_says a b n)
  where
    go : (o : Option ℕ) → SaysOf a b o → less_place o ≡ 67 - i
    go (some j) e = ap (λ (k : ℕ). 67 - k) (only a b j i e d)
    go none e = absurd (d.differs (ap (λ (l : List ℕ). get_or l i 0) e))

pub taken_all : (a b : List ℕ) → length a ≡ length b → a ≡ b → words_taken a b ≡ 67
unfolding words_taken
taken_all a b n s = go (highest_place a b) (place_says a b n)
  where
    go : (o : Option ℕ) → SaysOf a b o → less_place o ≡ 67
    go (some j) e = absurd (e.differs (ap (λ (l : List ℕ). get_or l j 0) s))
    go none e = refl

-- ---- at most, as an order tells it

at_most_numbers : (x y : ℕ) → leb x y ≡ is_at_most (order_of (pos x) (pos y))
at_most_numbers x y =
    ⊎_elim
    (λ (h : y < x). lt-leb x y h ∙ sym (ap is_at_most (above x y h)))
    (λ (h : x ≤ y). ⊎_elim
    (λ (g : x < y). le-leb x y h ∙ sym (ap is_at_most (below x y g)))
    (λ (g : y ≤ x). le-leb x y h ∙ sym (ap is_at_most (same x y h g)))
    (either_lt x y))
    (either_lt y x)

pub at_most : (x y : ℤ) → le_z x y ≡ is_at_most (order_of x y)
at_most (pos x) (pos y) = at_most_numbers x y
at_most (pos x) (negsuc y) = refl
at_most (negsuc x) (pos y) = refl
at_most (negsuc x) (negsuc y) = at_most_numbers y x
