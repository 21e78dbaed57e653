-- Bytes put into an area, one list of them after another.
use Prim.Native.Nat.{ℕ, ◌+◌}
use native.Mathlib.Nat.{add-zero}
use native.Mathlib.Omega.{arith}
use mathlib.Core.Path.{◌≡◌, refl, ap, sym, ◌∙◌, subst}
use mathlib.Core.List.{List, [], ◌∷◌, ◌++◌}
use lib.ListN.{take, drop, length, get_or, set, length-append, get_or-append}
use lib.Seq.{get_or-append-add, take-length, drop-drop}
use Rattle.area.specs.Area.{written}
use Rattle.area.proofs.Places.{written_add, same_values}
use Rattle.area.proofs.Turns.{length-written}
use Rattle.area.proofs.Start.{pasted}
use borrow.Rule.Slice.PartMut.{put_mid}
use Rattle.area.specs.Placed.{placed, Room, Put}
use Rattle.area.specs.Cursor.{HasRoom, Puts, PutsIfRoom}
use Rattle.area.specs.declared.Cursor.{Cursor}

pub length-placed : (at : ℕ) (bytes area : List ℕ) → length (placed at bytes area) ≡ length area
length-placed at bytes area = length-written at (length bytes) (λ j. get_or bytes j 0) area

-- what a copy to a part of the area gives
pub placed_is : (at k : ℕ) (bytes area : List ℕ) → k ≡ length bytes → Room at bytes area → put_mid at k area bytes ≡ placed at bytes area
placed_is at k bytes area e h =
    let past : List ℕ = drop (at + length bytes) area in
    rw (e, drop-drop)
    (sym (pasted at 0 bytes area (length bytes) (omega arith) h ∙ ap (λ (ys : List ℕ). take at area ++ (ys ++ past)) (take-length bytes)))

-- two texts, one past the other, are one bytes
placed_more : (at : ℕ) (xs ys area : List ℕ) → placed (at + length xs) ys (placed at xs area) ≡ placed at (xs ++ ys) area
placed_more at xs ys area =
    let all : ℕ → ℕ = λ j. get_or (xs ++ ys) j 0 in
    ap (λ (zs : List ℕ). placed (at + length xs) ys zs) (same_values at (length xs) (λ j. get_or xs j 0) all area (λ j h. sym (get_or-append xs ys 0 j h)))
    ∙ same_values (at + length xs) (length ys) (λ j. get_or ys j 0) (λ j. all (length xs + j)) (written at (length xs) all area)
    (λ j h. sym (get_or-append-add xs ys j 0))
    ∙ sym (written_add at (length xs) (length ys) all area)
    ∙ ap (λ (k : ℕ). written at k all area) (sym (length-append xs ys))

-- putting one bytes and then another where the first ended
pub put_then : {at p q : ℕ} {xs ys area one two : List ℕ} → Put at xs area p one → Put p ys one q two → Put at (xs ++ ys) area q two
put_then {at} {xs = xs} {ys = ys} {area = area} u v = record {
  past = v.past ∙ rw u.past (omega (arith, length-append xs ys));
  holds = v.holds ∙ rw (u.past, u.holds) (placed_more at xs ys area);
}

-- no byte is put past the end
pub put_length : {at next : ℕ} {bytes area exit : List ℕ} → Put at bytes area next exit → length exit ≡ length area
put_length {at} {bytes = bytes} {area = area} p = ap length p.holds ∙ length-placed at bytes area

-- the same bytes by another name
pub put_as : {at next : ℕ} {xs ys area exit : List ℕ} → xs ≡ ys → Put at xs area next exit → Put at ys area next exit
put_as e p = rw e at p

-- nothing
pub put_none : (at : ℕ) (area : List ℕ) → Put at [] area at area
put_none at area = record { past = sym (add-zero at); holds = refl }

-- one byte
pub put_one : (at b : ℕ) (area : List ℕ) → Put at (b ∷ []) area (at + 1) (set area at b)
put_one at b area = record { past = refl; holds = ap (λ (i : ℕ). set area i b) (sym (add-zero at)) }

-- room for two lists is room for the first and, where that is put, for the second past it
pub room_first : (at : ℕ) (xs ys area : List ℕ) → Room at (xs ++ ys) area → Room at xs area
room_first at xs ys area h = omega (arith, length-append xs ys)

pub room_then : {at p : ℕ} {xs area one : List ℕ} (ys : List ℕ) → Room at (xs ++ ys) area → Put at xs area p one → Room p ys one
room_then {at} {xs = xs} {area = area} ys h u =
    let e = u.past in
    let l = put_length u in
    omega (arith, length-append xs ys)

-- ---- by a cursor
-- where there is room for the bytes, they are put
pub puts_with_room : {bytes : List ℕ} {c d : Cursor} → PutsIfRoom bytes c d → HasRoom bytes c → Puts bytes c d
puts_with_room p room = record { put = p.put room; same_area = p.same_area }

-- one list of bytes and then another
pub puts_then : {xs ys : List ℕ} {c d e : Cursor} → Puts xs c d → Puts ys d e → Puts (xs ++ ys) c e
puts_then p q = record { put = put_then p.put q.put; same_area = q.same_area ∙ p.same_area }

-- the same bytes by another name
pub puts_as : {xs ys : List ℕ} {c d : Cursor} → xs ≡ ys → Puts xs c d → Puts ys c d
puts_as e p = rw e at p

-- room for two lists is room for the first and, once that is put, for the second
pub has_room_first : (xs ys : List ℕ) (c : Cursor) → HasRoom (xs ++ ys) c → HasRoom xs c
has_room_first xs ys c h = room_first c.at xs ys c.area.now h

pub has_room_then : {xs : List ℕ} {c d : Cursor} (ys : List ℕ) → HasRoom (xs ++ ys) c → Puts xs c d → HasRoom ys d
has_room_then ys h p = room_then ys h p.put

-- bytes put where they are known by another name
pub puts_named : {xs ys : List ℕ} {c d : Cursor} → xs ≡ ys → HasRoom ys c → PutsIfRoom xs c d → Puts ys c d
puts_named {c = c} e room p = puts_as e (puts_with_room p (subst (λ (zs : List ℕ). HasRoom zs c) (sym e) room))

-- one list more, where there is room for all
pub puts_more : {xs : List ℕ} {c d e : Cursor} (ys : List ℕ) → HasRoom (xs ++ ys) c → Puts xs c d → PutsIfRoom ys d e → Puts (xs ++ ys) c e
puts_more ys h p q = puts_then p (puts_with_room q (has_room_then ys h p))

-- nothing
pub puts_none : (c : Cursor) → Puts [] c c
puts_none c = record { put = put_none c.at c.area.now; same_area = refl }
