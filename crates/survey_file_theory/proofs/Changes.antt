-- Bytes with a changed length, model, version or zero byte are refused by 16.
use Prim.Native.Nat.{ℕ, zero, suc, ◌+◌, ◌-◌, ◌*◌, ◌≤◌, ◌<◌}
use native.Mathlib.Nat.{mul-le-mul_left, mul-le-mul_right, le_of_lt}
use native.Mathlib.Decide.{dec_lt}
use native.Mathlib.Omega.{arith}
use mathlib.Core.Path.{◌≡◌, ap, sym, ◌∙◌, subst}
use mathlib.Core.Logic.{◌≢◌, ◌⊎◌, inl, inr}
use mathlib.Core.List.{List, [], ◌∷◌}
use mathlib.Core.Option.{none}
use lib.ListN.{length, get_or, set, take, drop, length-set, length-drop}
use lib.Seq.{get_or-set_same, take-set-le, drop-set-add, length-take-le, take-add, drop_at, drop-drop}
use Rattle.area.specs.Area.{part}
use Rattle.ieee.specs.Bytes.{number_in}
use Rattle.survey.specs.Survey.{external_count}
use Rattle.survey_file_theory.specs.Trailer.{trailer_in, start_in, wells_in, nodes_in, bases_in, codes_in, externals_in, SameBody}
use Rattle.survey_file_theory.specs.Rules.{stated_length, VersionTaken, WellFormed}
use Rattle.survey_file_theory.specs.Reader.{read_bytes}
use Rattle.survey_file_theory.proofs.WellFormed.{codes_before, refuses}

-- ---- a byte of the trailer
-- the byte i of the trailer after it is changed to x
changed : (bytes : List ℕ) (i x : ℕ) → 14 ≤ length bytes → i < 14 → get_or (trailer_in (set bytes (length bytes - 14 + i) x)) i 0 ≡ x
changed bytes i x h g =
    let n = length bytes - 14 in
    let l = length-drop n bytes in
    ap (λ (k : ℕ). get_or (drop (k - 14) (set bytes (n + i) x)) i 0) (length-set bytes (n + i) x)
    ∙ ap (λ (t : List ℕ). get_or t i 0) (drop-set-add n bytes i x)
    ∙ get_or-set_same (drop n bytes) i x 0 (omega arith)

-- the wells after the version is changed
wells_kept : (bytes : List ℕ) (x : ℕ) → wells_in (set bytes (length bytes - 14 + 11) x) ≡ wells_in bytes
wells_kept bytes x =
    let n = length bytes - 14 in
    ap (λ (k : ℕ). number_in (part 4 2 (drop (k - 14) (set bytes (n + 11) x)))) (length-set bytes (n + 11) x)
    ∙ ap (λ (t : List ℕ). number_in (part 4 2 t)) (drop-set-add n bytes 11 x)
    ∙ ap (λ (t : List ℕ). number_in (take 2 t)) (drop-set-add 4 (drop n bytes) 7 x)
    ∙ ap number_in (take-set-le 2 (drop 4 (drop n bytes)) 7 x (omega arith))

module _ (newest : ℕ) (bytes : List ℕ) where
  -- bytes in which it is changed to what no bytes that are taken have there
  changed_refused : (i x : ℕ) → i < 14 → ((b : List ℕ) → WellFormed newest b → get_or (trailer_in b) i 0 ≡ x → ⊥)
      → read_bytes newest (set bytes (length bytes - 14 + i) x) ≡ none
  changed_refused i x g never =
      refuses newest (set bytes (length bytes - 14 + i) x) λ w.
      let l = length-set bytes (length bytes - 14 + i) x in
      let m = w.least in
      never (set bytes (length bytes - 14 + i) x) w (changed bytes i x (omega arith) g)

  pub model_changed : (x : ℕ) → (x < 1) ⊎ (4 < x) → read_bytes newest (set bytes (length bytes - 14 + 10) x) ≡ none
  model_changed x (inl h) = changed_refused 10 x (omega arith) (λ b w e. let m = w.model_least in omega arith)
  model_changed x (inr h) = changed_refused 10 x (omega arith) (λ b w e. let m = w.model_most in omega arith)

  -- a version that is not taken at so many wells, which the trailer says as before
  pub version_changed : (x : ℕ) → ¬ VersionTaken newest x (wells_in bytes) → read_bytes newest (set bytes (length bytes - 14 + 11) x) ≡ none
  version_changed x h =
      refuses newest (set bytes (length bytes - 14 + 11) x) λ w.
      let l = length-set bytes (length bytes - 14 + 11) x in
      let m = w.least in
      let v = changed bytes 11 x (omega arith) (omega arith) in
      h (rw (v, wells_kept bytes x) at w.version_taken_lem)

  pub zero_changed : (x : ℕ) → x ≢ 0 → read_bytes newest (set bytes (length bytes - 14 + 12) x) ≡ none
  zero_changed x h = changed_refused 12 x (omega arith) (λ b w e. h (sym e ∙ w.zero_byte))

  pub last_zero_changed : (x : ℕ) → x ≢ 0 → read_bytes newest (set bytes (length bytes - 14 + 13) x) ≡ none
  last_zero_changed x h = changed_refused 13 x (omega arith) (λ b w e. h (sym e ∙ w.last_zero_byte))

-- ---- what the lengths add up to
abbrev total : ℕ → ℕ → ℕ → ℕ → ℕ → ℕ
total start n m k c = start + 8 * (5 + 3 * n + k * n + 2 * m + k * m) + c + 14

-- ---- the text's own length: bytes put in or left out before the codes
-- the length that a trailer and codes state
abbrev stated : List ℕ → List ℕ → ℕ
stated t codes =
    total (number_in (part 0 4 t)) (number_in (part 4 2 t)) (number_in (part 6 2 t)) (external_count codes) (number_in (part 8 2 t))

pub length-changed : (newest : ℕ) (bytes others : List ℕ) → WellFormed newest bytes → trailer_in others ≡ trailer_in bytes → codes_in others ≡ codes_in bytes
    → length others ≢ length bytes → read_bytes newest others ≡ none
length-changed newest bytes others w t c n = refuses newest others λ x. n (x.meet ∙ (λ i. stated (t i) (c i)) ∙ sym w.meet)

-- ---- a length that the trailer states
-- the last c of the n elements before a place
last_of : (n c : ℕ) (l : List ℕ) → c ≤ n → n ≤ length l → take c (drop (n - c) l) ≡ drop (n - c) (take n l)
last_of n c l h g =
    let p = n - c in
    let e : p + c ≡ n = omega arith in
    sym
    (ap (λ (k : ℕ). drop p (take k l)) (sym e)
    ∙ ap (λ (m : List ℕ). drop p m) (take-add p c l)
    ∙ drop_at (take p l) (take c (drop p l)) p (length-take-le p l (omega arith)))

-- c codes before the trailer
abbrev last_before : List ℕ → ℕ → List ℕ
last_before bytes c = drop (length bytes - 14 - c) (take (length bytes - 14) bytes)

codes_are : (newest : ℕ) (bytes : List ℕ) → WellFormed newest bytes → codes_in bytes ≡ last_before bytes (bases_in bytes)
codes_are newest bytes w = last_of (length bytes - 14) (bases_in bytes) bytes (codes_before newest bytes w) (omega arith)

-- a later start leaves no more codes 4
externals_drop : (j : ℕ) (codes : List ℕ) → external_count (drop j codes) ≤ external_count codes
externals_drop zero codes = omega arith
externals_drop (suc j) [] = omega arith
externals_drop (suc j) (code ∷ codes) = let h = externals_drop j codes in omega arith

externals_later : (p q : ℕ) (codes : List ℕ) → p ≤ q → external_count (drop q codes) ≤ external_count (drop p codes)
externals_later p q codes h =
    let e : p + (q - p) ≡ q = omega arith in
    subst (λ (l : List ℕ). external_count l ≤ external_count (drop p codes)) (drop-drop (q - p) p codes ∙ ap (λ (k : ℕ). drop k codes) e)
    (externals_drop (q - p) (drop p codes))

more_wells : (start m k c n x : ℕ) → n < x → total start n m k c < total start x m k c
more_wells start m k c n x h = let a : k * n ≤ k * x = mul-le-mul_left k (le_of_lt h) in omega arith

more_nodes : (start n k c m x : ℕ) → m < x → total start n m k c < total start n x k c
more_nodes start n k c m x h = let a : k * m ≤ k * x = mul-le-mul_left k (le_of_lt h) in omega arith

more_codes : (start n m k l c x : ℕ) → k ≤ l → c < x → total start n m k c < total start n m l x
more_codes start n m k l c x g h = let a : k * n ≤ l * n = mul-le-mul_right n g in let b : k * m ≤ l * m = mul-le-mul_right m g in omega arith

-- two numbers, each of which would make a sum greater if it were the greater, are one if the sums are
only_one : (a b : ℕ) {x y : ℕ} → (a < b → x < y) → (b < a → y < x) → x ≡ y → a ≡ b
only_one a b f g e = elim (dec_lt a b) [
  | yes p ↦ absurd (let h = f p in omega arith)
  | no p ↦ elim (dec_lt b a) [
    | yes q ↦ absurd (let h = g q in omega arith)
    | no q ↦ omega arith
  ]
]

module _ (newest : ℕ) (bytes others : List ℕ) (w : WellFormed newest bytes) (same : SameBody bytes others) where
  -- the codes before the trailer, read from one of two texts and placed in the other
  codes_in_other : WellFormed newest others → codes_in others ≡ last_before bytes (bases_in others)
  codes_in_other x =
      codes_are newest others x
      ∙ ap (λ (n : ℕ). drop (n - 14 - bases_in others) (take (n - 14) others)) same.len
      ∙ ap (λ (l : List ℕ). drop (length bytes - 14 - bases_in others) l) same.before

  same_externals : WellFormed newest others → bases_in others ≡ bases_in bytes → externals_in others ≡ externals_in bytes
  same_externals x e = ap external_count (codes_in_other x ∙ ap (last_before bytes) e ∙ sym (codes_are newest bytes w))

  -- both state the length that both have
  meet : WellFormed newest others → stated_length others ≡ stated_length bytes
  meet x = sym x.meet ∙ same.len ∙ w.meet

  pub start_changed : wells_in others ≡ wells_in bytes → nodes_in others ≡ nodes_in bytes → bases_in others ≡ bases_in bytes
      → start_in others ≢ start_in bytes → read_bytes newest others ≡ none
  start_changed n m c d =
      refuses newest others λ x.
      let k = same_externals x c in
      d (only_one (start_in others) (start_in bytes) (λ h. omega arith) (λ h. omega arith) (sym (λ i. total (start_in others) (n i) (m i) (k i) (c i)) ∙ meet x))

  pub wells_changed : start_in others ≡ start_in bytes → nodes_in others ≡ nodes_in bytes → bases_in others ≡ bases_in bytes
      → wells_in others ≢ wells_in bytes → read_bytes newest others ≡ none
  wells_changed s m c d =
      refuses newest others λ x.
      let k = same_externals x c in
      let more = more_wells (start_in bytes) (nodes_in bytes) (externals_in bytes) (bases_in bytes) in
      d (only_one (wells_in others) (wells_in bytes) (more (wells_in others) (wells_in bytes)) (more (wells_in bytes) (wells_in others))
      (sym (λ i. total (s i) (wells_in others) (m i) (k i) (c i)) ∙ meet x))

  pub nodes_changed : start_in others ≡ start_in bytes → wells_in others ≡ wells_in bytes → bases_in others ≡ bases_in bytes
      → nodes_in others ≢ nodes_in bytes → read_bytes newest others ≡ none
  nodes_changed s n c d =
      refuses newest others λ x.
      let k = same_externals x c in
      let more = more_nodes (start_in bytes) (wells_in bytes) (externals_in bytes) (bases_in bytes) in
      d (only_one (nodes_in others) (nodes_in bytes) (more (nodes_in others) (nodes_in bytes)) (more (nodes_in bytes) (nodes_in others))
      (sym (λ i. total (s i) (n i) (nodes_in others) (k i) (c i)) ∙ meet x))

  -- with the count of the codes their number of 4s may change too, but only the same way
  pub bases_changed : start_in others ≡ start_in bytes → wells_in others ≡ wells_in bytes → nodes_in others ≡ nodes_in bytes
      → bases_in others ≢ bases_in bytes → read_bytes newest others ≡ none
  bases_changed s n m d =
      refuses newest others λ x.
      let body = take (length bytes - 14) bytes in
      let k : externals_in others ≡ external_count (last_before bytes (bases_in others)) = ap external_count (codes_in_other x) in
      let l : externals_in bytes ≡ external_count (last_before bytes (bases_in bytes)) = ap external_count (codes_are newest bytes w) in
      let more = more_codes (start_in bytes) (wells_in bytes) (nodes_in bytes) in
      d (only_one (bases_in others) (bases_in bytes)
      (λ h.
      let g = externals_later (length bytes - 14 - bases_in bytes) (length bytes - 14 - bases_in others) body (omega arith) in
      more (externals_in others) (externals_in bytes) (bases_in others) (bases_in bytes) (omega arith) h)
      (λ h.
      let g = externals_later (length bytes - 14 - bases_in others) (length bytes - 14 - bases_in bytes) body (omega arith) in
      more (externals_in bytes) (externals_in others) (bases_in bytes) (bases_in others) (omega arith) h)
      (sym (λ i. total (s i) (n i) (m i) (externals_in others) (bases_in others)) ∙ meet x))
