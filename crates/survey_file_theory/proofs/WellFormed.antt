-- Which bytes the reader takes: those that are well formed, in areas with room; `Malformed` and `TooShort` are exactly the opposites.
use Prim.Native.Nat.{ℕ, ◌-◌, ◌≤◌, ◌<◌}
use native.Mathlib.Omega.{arith}
use mathlib.Core.Path.{◌≡◌, ap}
use mathlib.Core.Logic.{◌↔◌, inl, inr}
use mathlib.Core.Bool.{Bool}
use mathlib.Core.List.{List}
use mathlib.Core.Option.{none, some}
use lib.ListN.{length}
use Rattle.error.specs.Short.{TooShort}
use Rattle.error.proofs.Tells.{affirm, refute, stable, equal}
use Rattle.error.proofs.Short.{area_at, short_told, none_short, long_at}
use Rattle.survey.specs.Survey.{Survey}
use Rattle.survey_file_theory.specs.Areas.{Areas, list_areas}
use Rattle.survey_file_theory.specs.Trailer.{wells_in, bases_in, model_in, version_in, zero_in, last_zero_in}
use Rattle.survey_file_theory.specs.Rules.{stated_length, Malformed, WellFormed, ListsFit}
use Rattle.survey_file_theory.specs.Reader.{survey_in, unless_malformed, read_bytes}
use Rattle.survey_file_theory.proofs.Told.{version_told, malformed_told}

-- ---- the file
well_formed : (newest : ℕ) (bytes : List ℕ) → ¬ Malformed newest bytes → WellFormed newest bytes
well_formed newest bytes n =
    let under : ¬ (length bytes < 14) = λ x. n (inl x) in
    let over : ¬ (65536 < length bytes) = λ x. n (inr (inl x)) in
    let below_one : ¬ (model_in bytes < 1) = λ x. n (inr (inr (inr (inl x)))) in
    let above_four : ¬ (4 < model_in bytes) = λ x. n (inr (inr (inr (inr (inl x))))) in
    record {
      least = omega arith;
      most = omega arith;
      meet = stable (equal (length bytes) (stated_length bytes)) (λ x. n (inr (inr (inl x))));
      model_least = omega arith;
      model_most = omega arith;
      version_taken_lem = stable (version_told newest (version_in bytes) (wells_in bytes)) (λ x. n (inr (inr (inr (inr (inr (inl x)))))));
      zero_byte = stable (equal (zero_in bytes) 0) (λ x. n (inr (inr (inr (inr (inr (inr (inl x))))))));
      last_zero_byte = stable (equal (last_zero_in bytes) 0) (λ x. n (inr (inr (inr (inr (inr (inr (inr x))))))));
    }

not_malformed : (newest : ℕ) (bytes : List ℕ) → WellFormed newest bytes → ¬ Malformed newest bytes
not_malformed newest bytes w (inl x) = let l = w.least in omega arith
not_malformed newest bytes w (inr (inl x)) = let l = w.most in omega arith
not_malformed newest bytes w (inr (inr (inl x))) = x w.meet
not_malformed newest bytes w (inr (inr (inr (inl x)))) = let l = w.model_least in omega arith
not_malformed newest bytes w (inr (inr (inr (inr (inl x))))) = let l = w.model_most in omega arith
not_malformed newest bytes w (inr (inr (inr (inr (inr (inl x)))))) = x w.version_taken_lem
not_malformed newest bytes w (inr (inr (inr (inr (inr (inr (inl x))))))) = x w.zero_byte
not_malformed newest bytes w (inr (inr (inr (inr (inr (inr (inr x))))))) = x w.last_zero_byte

pub well_formed_exactly : (newest : ℕ) (bytes : List ℕ) → WellFormed newest bytes ↔ (¬ Malformed newest bytes)
well_formed_exactly newest bytes = (not_malformed newest bytes, well_formed newest bytes)

pub malformed_exactly : (newest : ℕ) (bytes : List ℕ) → Malformed newest bytes ↔ (¬ WellFormed newest bytes)
malformed_exactly newest bytes = (
  λ m w. not_malformed newest bytes w m,
  λ n. stable (malformed_told newest bytes) (λ m. n (well_formed newest bytes m)),
)

-- the codes lie before the trailer
pub codes_before : (newest : ℕ) (bytes : List ℕ) → WellFormed newest bytes → bases_in bytes ≤ length bytes - 14
codes_before newest bytes w = let m = w.meet in omega arith

-- ---- the areas
room : (bytes : List ℕ) (areas : Areas) → ¬ TooShort (list_areas bytes areas) → ListsFit bytes areas
room bytes areas n =
    let long : (i : ℕ) → (area_at (list_areas bytes areas) i).taken ≤ (area_at (list_areas bytes areas) i).places = long_at (list_areas bytes areas) n in
    record { values = long 0; coords = long 1; bases = long 2; external = long 3; nodes = long 4; node_external = long 5 }

not_short : (bytes : List ℕ) (areas : Areas) → ListsFit bytes areas → ¬ TooShort (list_areas bytes areas)
not_short bytes areas r =
    none_short (list_areas bytes areas) (r.values, (r.coords, (r.bases, (r.external, (r.nodes, (r.node_external, tt))))))

pub room_exactly : (bytes : List ℕ) (areas : Areas) → ListsFit bytes areas ↔ (¬ TooShort (list_areas bytes areas))
room_exactly bytes areas = (not_short bytes areas, room bytes areas)

pub short_exactly : (bytes : List ℕ) (areas : Areas) → TooShort (list_areas bytes areas) ↔ (¬ ListsFit bytes areas)
short_exactly bytes areas = (λ x r. not_short bytes areas r x, λ n. stable (short_told (list_areas bytes areas)) (λ x. n (room bytes areas x)))

-- ---- what is read, exactly when
pub reads : (newest : ℕ) (bytes : List ℕ) → WellFormed newest bytes → read_bytes newest bytes ≡ some (survey_in bytes)
unfolding read_bytes
reads newest bytes w = ap (λ (b : Bool). unless_malformed b bytes) (refute (malformed_told newest bytes) (not_malformed newest bytes w))

pub refuses : (newest : ℕ) (bytes : List ℕ) → ¬ WellFormed newest bytes → read_bytes newest bytes ≡ none
unfolding read_bytes
refuses newest bytes n = ap (λ (b : Bool). unless_malformed b bytes) (affirm (malformed_told newest bytes) ((malformed_exactly newest bytes).1 n))

pub read_well_formed : (newest : ℕ) (bytes : List ℕ) (s : Survey) → read_bytes newest bytes ≡ some s → WellFormed newest bytes
read_well_formed newest bytes s e =
    well_formed newest bytes λ m.
    let r = refuses newest bytes ((malformed_exactly newest bytes).0 m) in
    let z : ◌≡◌ {A = ℕ} 0 1 = cc in
    omega arith

pub refused_exactly : (newest : ℕ) (bytes : List ℕ) → (read_bytes newest bytes ≡ none) ↔ (¬ WellFormed newest bytes)
refused_exactly newest bytes = (
  λ e w. let r = reads newest bytes w in let z : ◌≡◌ {A = ℕ} 0 1 = cc in omega arith,
  refuses newest bytes,
)
