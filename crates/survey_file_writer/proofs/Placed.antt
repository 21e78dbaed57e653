-- Laws of numbers as bytes that are put at the next place: a number byte by byte, and numbers one after another.
use Prim.Native.Nat.{ℕ, zero, suc, ◌+◌, ◌*◌, ◌/◌, ◌%◌, ◌^◌, ◌<◌, ◌≤◌}
use native.Mathlib.Nat.{add-zero, div-one, pow-suc}
use native.Mathlib.Numerals.{add-one}
use native.Mathlib.Omega.{arith}
use mathlib.Core.Path.{◌≡◌, refl, ap, sym, subst, ◌∙◌}
use mathlib.Core.List.{List, [], ◌∷◌, ◌++◌, append_assoc}
use lib.ListN.{length, get_or, take, drop}
use lib.Seq.{take-suc, get_or-drop, drop-drop}
use lib.Ieee.{Float, nan, binary64, to_bits}
use Rattle.std.proofs.lemmas.List.{length-take-le, take-append-drop}
use Rattle.area.specs.declared.Cursor.{Cursor}
use Rattle.area.specs.Cursor.{HasRoom, Puts, PutsIfRoom}
use Rattle.area.specs.Placed.{Room, Put}
use Rattle.area.proofs.Placed.{placed_is, put_as, put_length, put_then, puts_then, puts_as, puts_with_room, has_room_first, has_room_then}
use Rattle.std.specs.Int.{byte_at, bytes_low_first, to_le_bytes, w16, w64}
use Rattle.std.proofs.Math.Nat.{div-div-eq-div-mul}
use Rattle.ieee.specs.Bytes.{little_endian, f64_bytes}
use Rattle.ieee.proofs.Bytes.{length-f64_bytes}
use borrow.Rule.Slice.PartMut.{put_mid}

-- ---- a number byte by byte
pub length-little : (width x : ℕ) → length (little_endian width x) ≡ width
unfolding little_endian
length-little zero x = refl
length-little (suc width) x = ap suc (length-little width (x / 256))

-- where some bytes of a number are left, the next one is the lowest of what is left
pub little_next : (bytes : List ℕ) (j left rest : ℕ) → drop j bytes ≡ little_endian (suc left) rest
    → (rest % 256 ≡ get_or bytes j 0) × (drop (j + 1) bytes ≡ little_endian left (rest / 256))
unfolding little_endian
little_next bytes j left rest h = (
  ap (λ (l : List ℕ). get_or l 0 0) (sym h) ∙ get_or-drop j bytes 0 0 ∙ ap (λ (k : ℕ). get_or bytes k 0) (add-zero j),
  sym (drop-drop 1 j bytes) ∙ ap (λ (l : List ℕ). drop 1 l) h,
)

-- byte i of a number, as the library says it
byte_is : (i n : ℕ) → byte_at i n ≡ n / 256 ^ i % 256
byte_is zero n = ap (λ (k : ℕ). k % 256) (sym (div-one n))
byte_is (suc i) n = refl

low_first : (i width n : ℕ) → bytes_low_first i width n ≡ little_endian width (n / 256 ^ i)
unfolding little_endian
low_first i zero n = refl
low_first i (suc width) n =
    (λ j. byte_is i n j ∷ low_first (suc i) width n j)
    ∙ ap (λ (k : ℕ). n / 256 ^ i % 256 ∷ little_endian width k) (ap (λ (k : ℕ). n / k) (pow-suc 256 i) ∙ sym (div-div-eq-div-mul n (256 ^ i) 256))

-- the library's bytes of a word are those of the file
pub word_bytes : (n : ℕ) → to_le_bytes w64 n ≡ little_endian 8 n
word_bytes n = low_first 0 8 n ∙ ap (little_endian 8) (div-one n)

pub two_bytes : (n : ℕ) → to_le_bytes w16 (n % 65536) ≡ little_endian 2 n
unfolding little_endian
two_bytes n =
    let low : n % 65536 % 256 ≡ n % 256 = omega arith in
    let high : n % 65536 / 256 % 256 ≡ n / 256 % 256 = omega arith in
    λ i. low i ∷ high i ∷ []

-- ---- numbers one after another
pub f64_append : (xs ys : List Float) → f64_bytes (xs ++ ys) ≡ f64_bytes xs ++ f64_bytes ys
unfolding f64_bytes
f64_append [] ys = refl
f64_append (x ∷ xs) ys =
    let b = little_endian 8 (to_bits binary64 x) in
    ap (λ (l : List ℕ). b ++ l) (f64_append xs ys) ∙ sym (append_assoc b (f64_bytes xs) (f64_bytes ys))

-- one number more of a list
pub f64_more : (xs : List Float) (j : ℕ) → j < length xs
    → f64_bytes (take j xs) ++ little_endian 8 (to_bits binary64 (get_or xs j nan)) ≡ f64_bytes (take (j + 1) xs)
unfolding f64_bytes
f64_more xs j h =
    sym (f64_append (take j xs) (get_or xs j nan ∷ [])) ∙ ap f64_bytes (sym (take-suc xs j nan h) ∙ ap (λ (k : ℕ). take k xs) (sym (add-one j)))

-- where some numbers are put of a list that has room, there is room for its next one, and that is put past them
pub room_for_next : (xs : List Float) (j : ℕ) {at next : ℕ} {area one : List ℕ} → j < length xs → Room at (f64_bytes xs) area
    → Put at (f64_bytes (take j xs)) area next one → next + 8 ≤ length one
room_for_next xs j l room p =
    let all : length (f64_bytes xs) ≡ 8 * length xs = length-f64_bytes xs in
    let before : length (f64_bytes (take j xs)) ≡ 8 * length (take j xs) = length-f64_bytes (take j xs) in
    let many : length (take j xs) ≡ j = length-take-le j xs (omega arith) in
    let same = put_length p in
    let past = p.past in
    omega arith

pub put_next : (xs : List Float) (j : ℕ) {pattern at next k : ℕ} {bytes area one : List ℕ} → j < length xs → k ≡ 8
    → pattern ≡ to_bits binary64 (get_or xs j nan) → bytes ≡ to_le_bytes w64 pattern → Room at (f64_bytes xs) area
    → Put at (f64_bytes (take j xs)) area next one → Put at (f64_bytes (take (j + 1) xs)) area (next + 8) (put_mid next k one bytes)
put_next xs j {next = next} {k} {bytes = bytes} {one = one} l eight patterned is room p =
    let word : List ℕ = little_endian 8 (to_bits binary64 (get_or xs j nan)) in
    let of_word : bytes ≡ word = is ∙ word_bytes _ ∙ ap (little_endian 8) patterned in
    let many : length bytes ≡ 8 = ap length of_word ∙ length-little 8 _ in
    let there = room_for_next xs j l room p in
    let put : Put next bytes one (next + 8) (put_mid next k one bytes) =
    record { past = omega arith; holds = placed_is next k bytes one (omega arith) (omega arith) } in
    put_as (f64_more xs j l) (put_then p (put_as of_word put))

-- where some numbers are put of a list that has room, its next one is put past them
pub put_one_more : (xs : List Float) (j : ℕ) {pattern : ℕ} {bytes : List ℕ} {c d e : Cursor} → j < length xs
    → pattern ≡ to_bits binary64 (get_or xs j nan) → bytes ≡ to_le_bytes w64 pattern → HasRoom (f64_bytes xs) c
    → Puts (f64_bytes (take j xs)) c d → PutsIfRoom bytes d e → Puts (f64_bytes (take (j + 1) xs)) c e
put_one_more xs j {bytes = bytes} {c} {d} {e} l patterned is room p q =
    let before : List ℕ = f64_bytes (take j xs) in
    let word : List ℕ = little_endian 8 (to_bits binary64 (get_or xs j nan)) in
    let after : List ℕ = f64_bytes (drop (j + 1) xs) in
    let of_word : bytes ≡ word = is ∙ word_bytes _ ∙ ap (little_endian 8) patterned in
    let parts : f64_bytes xs ≡ (before ++ word) ++ after =
    ap f64_bytes (sym (take-append-drop (j + 1) xs)) ∙ f64_append (take (j + 1) xs) (drop (j + 1) xs)
    ∙ ap (λ (l : List ℕ). l ++ after) (sym (f64_more xs j l)) in
    let there = has_room_then word (has_room_first (before ++ word) after c (subst (λ (b : List ℕ). HasRoom b c) parts room)) p in
    puts_as (f64_more xs j l) (puts_then p (puts_with_room (subst (λ (b : List ℕ). PutsIfRoom b d e) of_word q) there))

-- ---- lists one after another
-- room for two lists is room for the first and, once that is put, for the second; and then both are put
pub list_first : (xs ys : List Float) (c : Cursor) → HasRoom (f64_bytes (xs ++ ys)) c → HasRoom (f64_bytes xs) c
list_first xs ys c h = has_room_first (f64_bytes xs) (f64_bytes ys) c (subst (λ (b : List ℕ). HasRoom b c) (f64_append xs ys) h)

pub list_then : (xs ys : List Float) {c d : Cursor} → HasRoom (f64_bytes (xs ++ ys)) c → Puts (f64_bytes xs) c d → HasRoom (f64_bytes ys) d
list_then xs ys {c} h p = has_room_then (f64_bytes ys) (subst (λ (b : List ℕ). HasRoom b c) (f64_append xs ys) h) p

pub lists_put : (xs ys : List Float) {c d e : Cursor} → Puts (f64_bytes xs) c d → Puts (f64_bytes ys) d e → Puts (f64_bytes (xs ++ ys)) c e
lists_put xs ys p q = puts_as (sym (f64_append xs ys)) (puts_then p q)
