-- How the writer's call ends: each number exactly when, and an area that holds the file or is as it was.
use Prim.Native.Nat.{ℕ, zero, suc, ◌*◌, ◌%◌, ◌<◌}
use native.Mathlib.Omega.{arith}
use mathlib.Core.Path.{◌≡◌, refl, ap, sym, ◌∙◌, subst}
use mathlib.Core.Logic.{◌↔◌, ◌≢◌, inl, inr}
use mathlib.Core.List.{List}
use mathlib.Core.Option.{none}
use lib.Dec.{T}
use lib.ListN.{length}
use lib.Ieee.{eq}
use Rattle.ieee.specs.Floats.{epsilon}
use Rattle.area.proofs.Start.{copied_is}
use Rattle.error.specs.Rules.{Ruled, NoneApplies, Condition}
use Rattle.error.proofs.Tells.{stable, passes, equal}
use Rattle.error.proofs.Rules.{ruled_exactly, none_exactly, no_condition}
use Rattle.survey.specs.Survey.{Survey, wells, node_count, externals}
use Rattle.survey_file_theory.specs.File.{writer_file}
use Rattle.survey_file_theory.specs.Rules.{most_written, OtherSpot, TooLong, Writable, writer_rules}
use Rattle.survey_file_theory.specs.Refusals.{writer_refusal}
use Rattle.survey_file_theory.specs.Writer.{call_where, writer, Writes, Ends}
use Rattle.survey_file_theory.proofs.Told.{writer_told}
use Rattle.survey_file_theory.proofs.Finite.{finite_exactly}

module _ (newest : ℕ) (s : Survey) (area : List ℕ) where
  -- ---- the number
  number_is : (writer newest s area).number ≡ writer_refusal newest s area
  unfolding writer call_where
  number_is = go (writer_refusal newest s area)
    where
      go : (k : ℕ) → (call_where k newest s area).number ≡ k
      go zero = refl
      go (suc k) = refl

  pub writer_ruled : (k : ℕ) → ((writer newest s area).number ≡ k) ↔ Ruled (writer_rules newest s area) k
  unfolding writer_refusal
  writer_ruled k =
      let r = ruled_exactly (writer_told newest s area) k in
      (λ e. r.0 (sym number_is ∙ e), λ x. number_is ∙ r.1 x)

  none_applies : ((writer newest s area).number ≡ 0) ↔ NoneApplies (writer_rules newest s area)
  unfolding writer_refusal
  none_applies =
      let n = none_exactly (writer_told newest s area) tt in
      (λ e. n.0 (sym number_is ∙ e), λ x. number_is ∙ n.1 x)

  -- ---- 0: the survey can be written
  same_spot : ¬ OtherSpot s → T (eq s.options.variogram.same_spot epsilon)
  same_spot = stable (passes (eq s.options.variogram.same_spot epsilon))

  writable : NoneApplies (writer_rules newest s area) → Writable newest s area
  writable n =
      let not : (k : ℕ) → ¬ Condition (writer_rules newest s area) k = no_condition (writer_rules newest s area) n in
      let k : ℕ = externals s in
      let long : ¬ (65536 < length (writer_file newest s)) = λ x. not 16 (inl x) in
      let many_wells : ¬ (most_written newest < wells s) = λ x. not 16 (inr (inl x)) in
      let many_nodes : ¬ (65535 < node_count s) = λ x. not 16 (inr (inr (inl x))) in
      let many_bases : ¬ (65535 < length s.bases) = λ x. not 16 (inr (inr (inr x))) in
      let short : ¬ (length area < length (writer_file newest s)) = not 18 in
      record {
        coords = stable (equal (length s.coords) (2 * wells s)) (not 1);
        nodes = stable (equal (length s.nodes % 2) 0) (not 2);
        external = stable (equal (length s.external) (k * wells s)) (not 6);
        node_external = λ l. stable (equal (length s.node_external) (k * node_count s)) (λ x. not 8 (l, x));
        finite = (finite_exactly s).1 (not 11);
        spot = same_spot (not 22);
        size = omega arith;
        few_wells = omega arith;
        few_nodes = omega arith;
        few_bases = omega arith;
        room = omega arith;
      }

  not_long : Writable newest s area → ¬ TooLong newest s
  not_long w (inl x) = let l = w.size in omega arith
  not_long w (inr (inl x)) = let l = w.few_wells in omega arith
  not_long w (inr (inr (inl x))) = let l = w.few_nodes in omega arith
  not_long w (inr (inr (inr x))) = let l = w.few_bases in omega arith

  none_is : Writable newest s area → NoneApplies (writer_rules newest s area)
  none_is w = (
    λ x. x w.coords,
    (
      λ x. x w.nodes,
      (
        λ x. x w.external,
        (
          λ x. x.1 (w.node_external x.0),
          ((finite_exactly s).0 w.finite, (λ x. x w.spot, (not_long w, (λ x. let l = w.room in omega arith, tt)))),
        ),
      ),
    ),
  )

  pub written_exactly : ((writer newest s area).number ≡ 0) ↔ Writable newest s area
  written_exactly = (λ e. writable (none_applies.0 e), λ w. none_applies.1 (none_is w))

  -- ---- what the call leaves
  pub writer_writes : (writer newest s area).number ≡ 0 → writer newest s area ≡ call_where 0 newest s area
  unfolding writer
  writer_writes e = ap (λ (k : ℕ). call_where k newest s area) (sym number_is ∙ e)

  -- "A refusal .. writes nothing"
  pub writer_untouched : (writer newest s area).number ≢ 0 → ((writer newest s area).count ≡ none) × ((writer newest s area).area ≡ area)
  unfolding writer call_where
  writer_untouched n = go (writer_refusal newest s area) n
    where
      go : (k : ℕ) → (call_where k newest s area).number ≢ 0 → ((call_where k newest s area).count ≡ none) × ((call_where k newest s area).area ≡ area)
      go zero h = absurd (h refl)
      go (suc k) h = (refl, refl)

  done : Writable newest s area → Writes newest s area (call_where 0 newest s area)
  unfolding call_where
  done w = record { count = refl; file = copied_is 0 (writer_file newest s) area w.room }

  pub writer_ends : Ends newest s area (writer newest s area)
  writer_ends =
      record {
        ruled = writer_ruled;
        accepted = written_exactly;
        refused = writer_untouched;
        writes = λ e. subst (Writes newest s area) (sym (writer_writes e)) (done (written_exactly.0 e));
      }
