-- A file part after part, as it is put: the numbers list after list, the codes and the trailer.
use Prim.Native.Nat.{ℕ}
use mathlib.Core.Path.{◌≡◌, sym, subst}
use mathlib.Core.List.{List, [], ◌∷◌, ◌++◌}
use lib.Ieee.{Float}
use lib.ListN.{length}
use Rattle.ieee.specs.Bytes.{little_endian, f64_bytes}
use Rattle.area.specs.declared.Cursor.{Cursor}
use Rattle.area.specs.Cursor.{HasRoom, Puts, PutsIfRoom}
use Rattle.area.proofs.Placed.{puts_then, puts_as, puts_with_room, puts_more, has_room_first, has_room_then}
use Rattle.survey.specs.Survey.{Survey, wells, node_count}
use Rattle.survey_file_theory.specs.Contents.{numbers, node_externals}
use Rattle.survey_file_theory.specs.File.{newest_version, version_for, model_number, trailer, writer_file}
use Rattle.survey_file_writer.proofs.Placed.{list_first, list_then, lists_put}

-- the five numbers that are no list, and then those from each list on
abbrev pub five : Survey → List Float
five s =
    s.options.variogram.nugget
    ∷ s.options.variogram.sill
    ∷ s.options.variogram.range
    ∷ s.options.regularization
    ∷ s.tolerance
    ∷ []

abbrev pub from_nodes : Survey → List Float
from_nodes s = s.nodes ++ node_externals s

abbrev pub from_external : Survey → List Float
from_external s = s.external ++ from_nodes s

abbrev pub from_coords : Survey → List Float
from_coords s = s.coords ++ from_external s

abbrev pub from_values : Survey → List Float
from_values s = s.values ++ from_coords s

-- ---- the numbers
-- room for all of them is room for the five, and once these are put for the lists
pub room_five : (s : Survey) (c : Cursor) → HasRoom (f64_bytes (numbers s)) c → HasRoom (f64_bytes (five s)) c
unfolding numbers
room_five s c h = list_first (five s) (from_values s) c h

pub room_lists : (s : Survey) {c d : Cursor} → HasRoom (f64_bytes (numbers s)) c → Puts (f64_bytes (five s)) c d → HasRoom (f64_bytes (from_values s)) d
unfolding numbers
room_lists s h p = list_then (five s) (from_values s) h p

-- list after list they are all put
pub all_put : (s : Survey) {c c1 c2 c3 c4 c5 c6 : Cursor} → Puts (f64_bytes (five s)) c c1 → Puts (f64_bytes s.values) c1 c2
    → Puts (f64_bytes s.coords) c2 c3 → Puts (f64_bytes s.external) c3 c4 → Puts (f64_bytes s.nodes) c4 c5
    → Puts (f64_bytes (node_externals s)) c5 c6 → Puts (f64_bytes (numbers s)) c c6
unfolding numbers
all_put s p values coords external nodes taken =
    lists_put (five s) (from_values s) p
    (lists_put s.values (from_coords s) values
    (lists_put s.coords (from_external s) coords
    (lists_put s.external (from_nodes s) external (lists_put s.nodes (node_externals s) nodes taken))))

-- ---- the trailer
-- its bytes are put part after part
pub trailer_put : (s : Survey) {n m codes : List ℕ} {model version : ℕ} {c c1 c2 c3 c4 c5 : Cursor} → n ≡ little_endian 2 (wells s)
    → m ≡ little_endian 2 (node_count s) → codes ≡ little_endian 2 (length s.bases) → model ≡ model_number s.options.variogram.model
    → version ≡ version_for newest_version (wells s) → HasRoom (trailer newest_version 0 s) c → PutsIfRoom (0 ∷ 0 ∷ 0 ∷ 0 ∷ []) c c1
    → PutsIfRoom n c1 c2 → PutsIfRoom m c2 c3 → PutsIfRoom codes c3 c4 → PutsIfRoom (model ∷ version ∷ 0 ∷ 0 ∷ []) c4 c5
    → Puts (trailer newest_version 0 s) c c5
unfolding trailer
trailer_put s {n} {m} {codes} {model} {version} {c = c} {c1} {c2} {c3} en em ec ek ev h p1 p2 p3 p4 p5 =
    let start : List ℕ = 0 ∷ 0 ∷ 0 ∷ 0 ∷ [] in
    let rest : List ℕ = model ∷ version ∷ 0 ∷ 0 ∷ [] in
    let all : start ++ (n ++ (m ++ (codes ++ rest))) ≡ trailer newest_version 0 s = λ i. start ++ (en i ++ (em i ++ (ec i ++ (ek i ∷ ev i ∷ 0 ∷ 0 ∷ [])))) in
    let room = subst (λ (b : List ℕ). HasRoom b c) (sym all) h in
    let q1 = puts_with_room p1 (has_room_first start (n ++ (m ++ (codes ++ rest))) c room) in
    let room1 = has_room_then (n ++ (m ++ (codes ++ rest))) room q1 in
    let q2 = puts_with_room p2 (has_room_first n (m ++ (codes ++ rest)) c1 room1) in
    let room2 = has_room_then (m ++ (codes ++ rest)) room1 q2 in
    let q3 = puts_with_room p3 (has_room_first m (codes ++ rest) c2 room2) in
    let room3 = has_room_then (codes ++ rest) room2 q3 in
    let q4 = puts_with_room p4 (has_room_first codes rest c3 room3) in
    puts_as all (puts_then q1 (puts_then q2 (puts_then q3 (puts_more rest room3 q4 p5))))

-- ---- the file: its numbers, its codes and its trailer
pub room_numbers : (s : Survey) (c : Cursor) → HasRoom (writer_file newest_version s) c → HasRoom (f64_bytes (numbers s)) c
unfolding writer_file
room_numbers s c h =
    has_room_first (f64_bytes (numbers s)) s.bases c (has_room_first (f64_bytes (numbers s) ++ s.bases) (trailer newest_version 0 s) c h)

pub codes_put : (s : Survey) {c d e : Cursor} → HasRoom (writer_file newest_version s) c → Puts (f64_bytes (numbers s)) c d → PutsIfRoom s.bases d e
    → Puts (f64_bytes (numbers s) ++ s.bases) c e
unfolding writer_file
codes_put s {c} h p q =
    puts_more s.bases (has_room_first (f64_bytes (numbers s) ++ s.bases) (trailer newest_version 0 s) c h) p q

pub room_trailer : (s : Survey) {c d : Cursor} → HasRoom (writer_file newest_version s) c → Puts (f64_bytes (numbers s) ++ s.bases) c d
    → HasRoom (trailer newest_version 0 s) d
unfolding writer_file
room_trailer s h p = has_room_then (trailer newest_version 0 s) h p

pub file_put : (s : Survey) {c d e : Cursor} → Puts (f64_bytes (numbers s) ++ s.bases) c d → Puts (trailer newest_version 0 s) d e
    → Puts (writer_file newest_version s) c e
unfolding writer_file
file_put s p q = puts_then p q
