-- Laws of whole numbers that the kit lacks: sums and products, the order, the magnitude.
use Rattle.std.proofs.Common.{◌≡◌, ℕ, zero, suc, ◌+◌, ◌-◌, ◌*◌, ◌<◌, ◌≤◌, Bool, true, false, cond, not, T, ltb, ◌⊎◌, ℤ, pos, negsuc, ◌+ℤ◌, ◌-ℤ◌, ◌*ℤ◌, neg_ℤ, nat_abs, ◌≤ℤ◌, sym, refl, ap, ◌∙◌, subst, ap₂, inl, inr, ⊎_elim, suc-le-suc, le_of_suc-le-suc, not-suc-le-zero, le_of_lt, le_antisymm, arith, le→leb, ltb→lt, leb→le, nltb→le}
use lib.Signed.{non_neg}
use lib.IntN.{suc_ℤ, pred_ℤ, sub_ℕ, suc_ℤ-+ℤ, pred_ℤ-+ℤ, +ℤ_idl}
use lib.IntN.{+ℤ_idr, +ℤ_assoc, +ℤ_comm, +ℤ_invr, +ℤ_invl, neg_ℤ-+ℤ, zero-*ℤ, suc_ℤ-*ℤ, pred_ℤ-*ℤ, *ℤ_comm}

-- ---- induction by one more and one less

pub by_ones : (P : ℤ → Type 0) → P (pos 0) → ((z : ℤ) → P z → P (suc_ℤ z)) → ((z : ℤ) → P z → P (pred_ℤ z)) → (z : ℤ) → P z
by_ones P z s p (pos zero) = z
by_ones P z s p (pos (suc n)) = s (pos n) (by_ones P z s p (pos n))
by_ones P z s p (negsuc zero) = p (pos 0) z
by_ones P z s p (negsuc (suc n)) = p (negsuc n) (by_ones P z s p (negsuc n))

-- ---- sums

-- the last two of three summands change places
pub +ℤ-swap : (a b c : ℤ) → a +ℤ b +ℤ c ≡ a +ℤ c +ℤ b
+ℤ-swap a b c = +ℤ_assoc a b c ∙ ap (λ (z : ℤ). a +ℤ z) (+ℤ_comm b c) ∙ sym (+ℤ_assoc a c b)

-- (a + b) + (c + d) = (a + c) + (b + d)
pub +ℤ-middle : (a b c d : ℤ) → (a +ℤ b) +ℤ (c +ℤ d) ≡ (a +ℤ c) +ℤ (b +ℤ d)
+ℤ-middle a b c d =
    sym (+ℤ_assoc (a +ℤ b) c d) ∙ ap (λ (z : ℤ). z +ℤ d) (+ℤ-swap a b c) ∙ +ℤ_assoc (a +ℤ c) b d

pub +ℤ-cancel : (a b c : ℤ) → a +ℤ c ≡ b +ℤ c → a ≡ b
+ℤ-cancel a b c h =
    sym (+ℤ_idr a) ∙ ap (λ (z : ℤ). a +ℤ z) (sym (+ℤ_invr c)) ∙ sym (+ℤ_assoc a c (neg_ℤ c))
    ∙ ap (λ (z : ℤ). z +ℤ neg_ℤ c) h
    ∙ +ℤ_assoc b c (neg_ℤ c) ∙ ap (λ (z : ℤ). b +ℤ z) (+ℤ_invr c) ∙ +ℤ_idr b

-- ---- products

pub +ℤ-*ℤ : (a b c : ℤ) → (a +ℤ b) *ℤ c ≡ a *ℤ c +ℤ b *ℤ c
+ℤ-*ℤ a b c = by_ones (λ z. (z +ℤ b) *ℤ c ≡ z *ℤ c +ℤ b *ℤ c) base up down a
  where
    base : (pos 0 +ℤ b) *ℤ c ≡ pos 0 *ℤ c +ℤ b *ℤ c
    base = ap (λ (z : ℤ). z *ℤ c) (+ℤ_idl b) ∙ sym (ap (λ (z : ℤ). z +ℤ b *ℤ c) (zero-*ℤ c) ∙ +ℤ_idl (b *ℤ c))

    up : (z : ℤ) → (z +ℤ b) *ℤ c ≡ z *ℤ c +ℤ b *ℤ c → (suc_ℤ z +ℤ b) *ℤ c ≡ suc_ℤ z *ℤ c +ℤ b *ℤ c
    up z h =
        ap (λ (y : ℤ). y *ℤ c) (suc_ℤ-+ℤ z b) ∙ suc_ℤ-*ℤ (z +ℤ b) c ∙ ap (λ (y : ℤ). y +ℤ c) h ∙ +ℤ-swap (z *ℤ c) (b *ℤ c) c
        ∙ ap (λ (y : ℤ). y +ℤ b *ℤ c) (sym (suc_ℤ-*ℤ z c))

    down : (z : ℤ) → (z +ℤ b) *ℤ c ≡ z *ℤ c +ℤ b *ℤ c → (pred_ℤ z +ℤ b) *ℤ c ≡ pred_ℤ z *ℤ c +ℤ b *ℤ c
    down z h =
        ap (λ (y : ℤ). y *ℤ c) (pred_ℤ-+ℤ z b) ∙ pred_ℤ-*ℤ (z +ℤ b) c ∙ ap (λ (y : ℤ). y -ℤ c) h ∙ +ℤ-swap (z *ℤ c) (b *ℤ c) (neg_ℤ c)
        ∙ ap (λ (y : ℤ). y +ℤ b *ℤ c) (sym (pred_ℤ-*ℤ z c))

pub *ℤ-+ℤ : (a b c : ℤ) → a *ℤ (b +ℤ c) ≡ a *ℤ b +ℤ a *ℤ c
*ℤ-+ℤ a b c = *ℤ_comm a (b +ℤ c) ∙ +ℤ-*ℤ b c a ∙ ap₂ (λ (x y : ℤ). x +ℤ y) (*ℤ_comm b a) (*ℤ_comm c a)

pub negℤ_*ℤ : (a b : ℤ) → neg_ℤ a *ℤ b ≡ neg_ℤ (a *ℤ b)
negℤ_*ℤ a b =
    +ℤ-cancel (neg_ℤ a *ℤ b) (neg_ℤ (a *ℤ b)) (a *ℤ b)
    (sym (+ℤ-*ℤ (neg_ℤ a) a b) ∙ ap (λ (z : ℤ). z *ℤ b) (+ℤ_invl a) ∙ zero-*ℤ b ∙ sym (+ℤ_invl (a *ℤ b)))

pub *ℤ-negℤ : (a b : ℤ) → a *ℤ neg_ℤ b ≡ neg_ℤ (a *ℤ b)
*ℤ-negℤ a b = *ℤ_comm a (neg_ℤ b) ∙ negℤ_*ℤ b a ∙ ap neg_ℤ (*ℤ_comm b a)

pub *ℤ--ℤ : (a b c : ℤ) → a *ℤ (b -ℤ c) ≡ a *ℤ b -ℤ a *ℤ c
*ℤ--ℤ a b c = *ℤ-+ℤ a b (neg_ℤ c) ∙ ap (λ (z : ℤ). a *ℤ b +ℤ z) (*ℤ-negℤ a c)

pub *ℤ-assoc : (a b c : ℤ) → a *ℤ b *ℤ c ≡ a *ℤ (b *ℤ c)
*ℤ-assoc a b c = by_ones (λ z. z *ℤ b *ℤ c ≡ z *ℤ (b *ℤ c)) base up down a
  where
    base : pos 0 *ℤ b *ℤ c ≡ pos 0 *ℤ (b *ℤ c)
    base = ap (λ (z : ℤ). z *ℤ c) (zero-*ℤ b) ∙ zero-*ℤ c ∙ sym (zero-*ℤ (b *ℤ c))

    up : (z : ℤ) → z *ℤ b *ℤ c ≡ z *ℤ (b *ℤ c) → suc_ℤ z *ℤ b *ℤ c ≡ suc_ℤ z *ℤ (b *ℤ c)
    up z h =
        ap (λ (y : ℤ). y *ℤ c) (suc_ℤ-*ℤ z b) ∙ +ℤ-*ℤ (z *ℤ b) b c ∙ ap (λ (y : ℤ). y +ℤ b *ℤ c) h ∙ sym (suc_ℤ-*ℤ z (b *ℤ c))

    down : (z : ℤ) → z *ℤ b *ℤ c ≡ z *ℤ (b *ℤ c) → pred_ℤ z *ℤ b *ℤ c ≡ pred_ℤ z *ℤ (b *ℤ c)
    down z h =
        ap (λ (y : ℤ). y *ℤ c) (pred_ℤ-*ℤ z b) ∙ +ℤ-*ℤ (z *ℤ b) (neg_ℤ b) c
        ∙ ap₂ (λ (x y : ℤ). x +ℤ y) h (negℤ_*ℤ b c) ∙ sym (pred_ℤ-*ℤ z (b *ℤ c))

pub *ℤ-swap : (a b c : ℤ) → a *ℤ b *ℤ c ≡ a *ℤ c *ℤ b
*ℤ-swap a b c = *ℤ-assoc a b c ∙ ap (λ (z : ℤ). a *ℤ z) (*ℤ_comm b c) ∙ sym (*ℤ-assoc a c b)

-- ---- the difference of two naturals

by_test : (b : Bool) (x y : ℤ) (P : ℤ → Type 0) → (T b → P x) → (T (not b) → P y) → P (cond b x y)
by_test true x y P f g = f tt
by_test false x y P f g = g tt

by_difference : (a b : ℕ) (P : ℤ → Type 0) → (a < b → P (negsuc (b - suc a))) → (b ≤ a → P (pos (a - b))) → P (sub_ℕ a b)
by_difference a b P f g = by_test (ltb a b) (negsuc (b - suc a)) (pos (a - b)) P (λ t. f (ltb→lt a b t)) (λ t. g (nltb→le a b t))

pub subℕ_ge : (a b : ℕ) → b ≤ a → sub_ℕ a b ≡ pos (a - b)
subℕ_ge a b h = by_difference a b (λ z. z ≡ pos (a - b)) (λ l. absurd (clash l)) (λ l. refl)
  where
    clash : a < b → ⊥
    clash l = omega arith

pub subℕ_lt : (a b : ℕ) → a < b → sub_ℕ a b ≡ negsuc (b - suc a)
subℕ_lt a b h = by_difference a b (λ z. z ≡ negsuc (b - suc a)) (λ l. refl) (λ l. absurd (clash l))
  where
    clash : b ≤ a → ⊥
    clash l = omega arith

pub pos__ℤ_pos : (a b : ℕ) → pos a -ℤ pos b ≡ sub_ℕ a b
pos__ℤ_pos a zero = sym (subℕ_ge a 0 (omega arith) ∙ ap pos (omega arith))
pos__ℤ_pos a (suc b) = refl

-- ---- the magnitude

pub nat_abs_negℤ : (a : ℤ) → nat_abs (neg_ℤ a) ≡ nat_abs a
nat_abs_negℤ (pos zero) = refl
nat_abs_negℤ (pos (suc n)) = refl
nat_abs_negℤ (negsuc n) = refl

pub nat_abs_*ℤ : (a b : ℤ) → nat_abs (a *ℤ b) ≡ nat_abs a * nat_abs b
nat_abs_*ℤ (pos a) (pos b) = refl
nat_abs_*ℤ (pos a) (negsuc b) = nat_abs_negℤ (pos (a * suc b))
nat_abs_*ℤ (negsuc a) (pos b) = nat_abs_negℤ (pos (suc a * b))
nat_abs_*ℤ (negsuc a) (negsuc b) = refl

nat_abs_subℕ : (a b : ℕ) → nat_abs (sub_ℕ a b) ≤ a + b
nat_abs_subℕ a b = by_difference a b (λ z. nat_abs z ≤ a + b) (λ l. omega arith) (λ l. omega arith)

-- |a + b| ≤ |a| + |b|
pub nat_abs_+ℤ : (a b : ℤ) → nat_abs (a +ℤ b) ≤ nat_abs a + nat_abs b
nat_abs_+ℤ (pos a) (pos b) = omega arith
nat_abs_+ℤ (pos a) (negsuc b) = nat_abs_subℕ a (suc b)
nat_abs_+ℤ (negsuc a) (pos b) = let h : nat_abs (sub_ℕ b (suc a)) ≤ b + suc a = nat_abs_subℕ b (suc a) in omega arith
nat_abs_+ℤ (negsuc a) (negsuc b) = omega arith

pub nat_abs__ℤ : (a b : ℤ) → nat_abs (a -ℤ b) ≤ nat_abs a + nat_abs b
nat_abs__ℤ a b = let h = nat_abs_+ℤ a (neg_ℤ b) in rw (nat_abs_negℤ b) at h

-- a whole number is its magnitude, or what is left of 0 without it
pub by_sign : (a : ℤ) → (a ≡ pos (nat_abs a)) ⊎ (a ≡ neg_ℤ (pos (nat_abs a)))
by_sign (pos n) = inl refl
by_sign (negsuc n) = inr refl

pub abs_negative : (a : ℤ) → not (non_neg a) ≡ true → neg_ℤ a ≡ pos (nat_abs a)
abs_negative (pos n) h = absurd (subst (λ (b : Bool). T (not b)) h tt)
abs_negative (negsuc n) h = refl

pub abs_other : (a : ℤ) → not (non_neg a) ≡ false → a ≡ pos (nat_abs a)
abs_other (pos n) h = refl
abs_other (negsuc n) h = absurd (subst T h tt)

-- ---- the order

-- a ≤ b exactly when b is a and a natural number more
pub ≤ℤ-intro : (a b : ℤ) (n : ℕ) → a +ℤ pos n ≡ b → a ≤ℤ b
≤ℤ-intro a b n h = subst (λ (z : ℤ). a ≤ℤ z) h (more a n)
  where
    more : (a : ℤ) (n : ℕ) → a ≤ℤ (a +ℤ pos n)
    more (pos a) n = record { le = le→leb a (a + n) (omega arith) }
    more (negsuc a) n =
        by_difference n (suc a) (λ z. negsuc a ≤ℤ z) (λ l. record { le = le→leb (suc a - suc n) a (omega arith) }) (λ l. record { le = tt })

pub ≤ℤ-dest : (a b : ℤ) → a ≤ℤ b → (n : ℕ) × (a +ℤ pos n ≡ b)
≤ℤ-dest (pos a) (pos b) h = let l = leb→le a b h.le in (b - a, ap pos (omega arith))
≤ℤ-dest (pos a) (negsuc b) h = absurd h.le
≤ℤ-dest (negsuc a) (pos b) h = (b + suc a, subℕ_ge (b + suc a) (suc a) (omega arith) ∙ ap pos (omega arith))
≤ℤ-dest (negsuc a) (negsuc b) h =
    let l = leb→le b a h.le in (a - b, subℕ_lt (a - b) (suc a) (omega arith) ∙ ap negsuc (omega arith))

-- the order of two naturals, as whole numbers
pub pos_≤ℤ : {a b : ℕ} → a ≤ b → pos a ≤ℤ pos b
pos_≤ℤ {a} {b} h = record { le = le→leb a b h }

pub ≤ℤ-pos : {a b : ℕ} → pos a ≤ℤ pos b → a ≤ b
≤ℤ-pos {a} {b} h = leb→le a b h.le

pub either_lt : (a b : ℕ) → (a < b) ⊎ (b ≤ a)
either_lt a b = go (ltb a b) refl
  where
    go : (t : Bool) → ltb a b ≡ t → (a < b) ⊎ (b ≤ a)
    go true h = inl (ltb→lt a b (subst T (sym h) tt))
    go false h = inr (nltb→le a b (subst (λ (x : Bool). T (not x)) (sym h) tt))

either_le : (a b : ℕ) → (a ≤ b) ⊎ (b ≤ a)
either_le a b = ⊎_elim (λ l. inl (le_of_lt l)) inr (either_lt a b)

pub ≤ℤ-total : (a b : ℤ) → (a ≤ℤ b) ⊎ (b ≤ℤ a)
≤ℤ-total (pos a) (pos b) = ⊎_elim (λ l. inl (record { le = le→leb a b l })) (λ l. inr (record { le = le→leb b a l })) (either_le a b)
≤ℤ-total (pos a) (negsuc b) = inr (record { le = tt })
≤ℤ-total (negsuc a) (pos b) = inl (record { le = tt })
≤ℤ-total (negsuc a) (negsuc b) = ⊎_elim (λ l. inr (record { le = le→leb a b l })) (λ l. inl (record { le = le→leb b a l })) (either_le a b)

pub ≤ℤ-trans : {a b c : ℤ} → a ≤ℤ b → b ≤ℤ c → a ≤ℤ c
≤ℤ-trans {a} {b} {c} h k =
    let m = ≤ℤ-dest a b h in
    let n = ≤ℤ-dest b c k in
    ≤ℤ-intro a c (m.0 + n.0) (sym (+ℤ_assoc a (pos m.0) (pos n.0)) ∙ ap (λ (z : ℤ). z +ℤ pos n.0) m.1 ∙ n.1)

pub ≤ℤ-antisym : {a b : ℤ} → a ≤ℤ b → b ≤ℤ a → a ≡ b
≤ℤ-antisym {a = pos a} {b = pos b} h k = ap pos (le_antisymm (leb→le a b h.le) (leb→le b a k.le))
≤ℤ-antisym {a = pos a} {b = negsuc b} h k = absurd h.le
≤ℤ-antisym {a = negsuc a} {b = pos b} h k = absurd k.le
≤ℤ-antisym {a = negsuc a} {b = negsuc b} h k = ap negsuc (le_antisymm (leb→le a b k.le) (leb→le b a h.le))

-- a ≤ b gives a + c ≤ b + c
pub ≤ℤ-+ℤ : {a b : ℤ} (c : ℤ) → a ≤ℤ b → (a +ℤ c) ≤ℤ (b +ℤ c)
≤ℤ-+ℤ {a} {b} c h =
    let n = ≤ℤ-dest a b h in ≤ℤ-intro (a +ℤ c) (b +ℤ c) n.0 (+ℤ-swap a c (pos n.0) ∙ ap (λ (z : ℤ). z +ℤ c) n.1)

pub ≤ℤ-add : {a b c d : ℤ} → a ≤ℤ b → c ≤ℤ d → (a +ℤ c) ≤ℤ (b +ℤ d)
≤ℤ-add {a} {b} {c} {d} h k =
    ≤ℤ-trans (≤ℤ-+ℤ c h) (subst (λ (z : ℤ). z ≤ℤ (b +ℤ d)) (+ℤ_comm c b) (subst (λ (z : ℤ). (c +ℤ b) ≤ℤ z) (+ℤ_comm d b) (≤ℤ-+ℤ b k)))

-- a ≤ b gives a * k ≤ b * k, for a natural number k
pub ≤ℤ-*ℤ : {a b : ℤ} (k : ℕ) → a ≤ℤ b → (a *ℤ pos k) ≤ℤ (b *ℤ pos k)
≤ℤ-*ℤ {a} {b} k h =
    let n = ≤ℤ-dest a b h in
    ≤ℤ-intro (a *ℤ pos k) (b *ℤ pos k) (n.0 * k) (sym (+ℤ-*ℤ a (pos n.0) (pos k)) ∙ ap (λ (z : ℤ). z *ℤ pos k) n.1)

pub ≤ℤ-negℤ : {a b : ℤ} → a ≤ℤ b → neg_ℤ b ≤ℤ neg_ℤ a
≤ℤ-negℤ {a} {b} h =
    let n = ≤ℤ-dest a b h in
    ≤ℤ-intro (neg_ℤ b) (neg_ℤ a) n.0 (
    ap (λ (z : ℤ). z +ℤ pos n.0) (ap neg_ℤ (sym n.1) ∙ neg_ℤ-+ℤ a (pos n.0))
    ∙ +ℤ_assoc (neg_ℤ a) (neg_ℤ (pos n.0)) (pos n.0) ∙ ap (λ (z : ℤ). neg_ℤ a +ℤ z) (+ℤ_invl (pos n.0)) ∙ +ℤ_idr (neg_ℤ a))

-- |a| ≤ n exactly when a lies from -n to n
pub nat_abs_le : (a : ℤ) (n : ℕ) → nat_abs a ≤ n → (neg_ℤ (pos n) ≤ℤ a) × (a ≤ℤ pos n)
nat_abs_le (pos a) zero h = (record { le = le→leb 0 a (omega arith) }, record { le = le→leb a 0 h })
nat_abs_le (pos a) (suc n) h = (record { le = tt }, record { le = le→leb a (suc n) h })
nat_abs_le (negsuc a) zero h = absurd (not-suc-le-zero h)
nat_abs_le (negsuc a) (suc n) h = (record { le = le→leb a n (le_of_suc-le-suc h) }, record { le = tt })

pub le_nat_abs : (a : ℤ) (n : ℕ) → neg_ℤ (pos n) ≤ℤ a → a ≤ℤ pos n → nat_abs a ≤ n
le_nat_abs (pos a) n h k = leb→le a n k.le
le_nat_abs (negsuc a) zero h k = absurd h.le
le_nat_abs (negsuc a) (suc n) h k = suc-le-suc (leb→le a n h.le)
