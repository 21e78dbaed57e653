-- A node's parts as the code has them, z in the first places of a longer list and F row after row in another: they are those of the paper's node.
use Prim.Native.Nat.{ℕ, ◌+◌, ◌*◌, ◌≤◌, ◌<◌}
use native.Mathlib.Omega.{arith}
use mathlib.Core.Path.{◌≡◌, refl, ap, sym, ◌∙◌, subst}
use mathlib.Core.Bool.{Bool}
use mathlib.Core.List.{List, []}
use lib.ListN.{length, get_or, take, drop}
use lib.Seq.{get_or-take, length-take-le, drop_at}
use lib.Ieee.{Float, nan, binary64, mul}
use Rattle.area.specs.Area.{table}
use Rattle.area.proofs.Tables.{table_length}
use Rattle.ieee.specs.Floats.{not_below_zero}
use Rattle.ieee.specs.Sums.{running_sum}
use Rattle.ieee.proofs.Sums.{same_sum}
use Rattle.audit.specs.Audit.{drift_finite, column_verdict_given, column_verdict, verdict_with, SameWeighed}
use Rattle.audit.specs.Lists.{entry_in, weighed_in, audited_in}
use Rattle.audit.proofs.Same.{same_drift, same_given, same_joined}
use Rattle.audit.proofs.Listed.{unread}
use Rattle.survey.specs.Survey.{Survey, wells, columns, size}
use Rattle.kriging_theory.specs.Drift.{DriftIn, drift, node_row}
use Rattle.kriging_theory.specs.Node.{right_hand_of, right_hand, z_of, variance_of, figure_of, weighed_of, audit_of, solution_of, node_with, node_of}
use Rattle.kriging_theory.proofs.SystemDrift.{node_row_length}
use Rattle.kriging_theory.proofs.System.{right_length}

module _ (s : Survey) (work : List Float) (q : ℕ) where
  -- f0 is what stands in b past the wells
  pub f0_is : drop (wells s) (right_hand s q) ≡ node_row s q
  unfolding right_hand right_hand_of
  f0_is = drop_at (table (wells s) _) (node_row s q) (wells s) (table_length (wells s) _)

  module _ (zs F : List Float) (given : Bool) (long : size s ≤ length zs) (hz : take (size s) zs ≡ z_of (size s) work (right_hand s q))
      (hF : DriftIn s F) (hg : given ≡ drift_finite (wells s) (columns s) (entry_in F (columns s))) where
    -- the paper's z
    abbrev z : List Float
    z = z_of (size s) work (right_hand s q)

    z_at : (i : ℕ) → i < size s → get_or zs i nan ≡ get_or z i nan
    z_at i h = sym (get_or-take (size s) zs i nan h) ∙ ap (λ (l : List Float). get_or l i nan) hz

    pub z_is : take (size s) zs ≡ (node_of s work q).z
    unfolding node_of node_with solution_of
    z_is = hz

    pub variance_is : variance_of (size s) zs (right_hand s q) ≡ (node_of s work q).variance
    unfolding node_of node_with solution_of variance_of
    variance_is = ap not_below_zero (same_sum (size s) _ _ (λ i h. ap (λ (x : Float). mul binary64 x (get_or (right_hand s q) i nan)) (z_at i h)))

    pub figure_is : running_sum (wells s) (λ i. mul binary64 (get_or zs i nan) (get_or s.values i nan)) ≡ (node_of s work q).figure
    unfolding node_of node_with solution_of figure_of
    figure_is = same_sum (wells s) _ _ (λ i h. ap (λ (x : Float). mul binary64 x (get_or s.values i nan)) (z_at i (omega arith)))

    -- what the code's audit reads is what the paper's reads
    same : SameWeighed (weighed_in (take (wells s) zs) F (node_row s q) s.tolerance) (weighed_of s q z)
    same =
        let len = length-take-le (wells s) zs (omega arith) in
        record {
          n = len;
          p = node_row_length s q;
          tolerance = refl;
          weight = λ i h. let l : i < wells s = omega (arith, len) in get_or-take (wells s) zs i nan l ∙ z_at i (omega arith);
          drift = λ i j h k.
              ap (λ (p : ℕ). get_or F (i * p + j) nan) (node_row_length s q) ∙ hF i j (omega (arith, len)) (omega (arith, node_row_length s q));
          node_drift = λ j h. refl;
        }

    pub columns_is : column_verdict_given given (weighed_in (take (wells s) zs) F (node_row s q) s.tolerance) ≡ (solution_of s work q).drift_verdict
    unfolding solution_of column_verdict
    columns_is = same_given same given _ (hg ∙ same_drift (wells s) (columns s) (entry_in F (columns s)) (drift s) hF)

    pub verdict_is : {c : ℕ} {g : Float} → c ≡ (solution_of s work q).drift_verdict → g ≡ (node_of s work q).figure
        → verdict_with c (audited_in (weighed_in (take (wells s) zs) [] (node_row s q) s.tolerance) s.values g) ≡ (node_of s work q).verdict
    unfolding node_of node_with
    verdict_is {c} {g} e f =
        unread (take (wells s) zs) [] F (node_row s q) s.tolerance c s.values g
        ∙ same_joined (audited_in (weighed_in (take (wells s) zs) F (node_row s q) s.tolerance) s.values g) (audit_of s q z _) same (λ i h. refl) f c _ e

-- What the calls behind a node leave: b in a list, z in the first places of one, and F in another.
pub record Parts (s : Survey) (work : List Float) (q : ℕ) (b zs F : List Float) (given : Bool) (variance figure : Float) (c v : ℕ) : Type 0 where
  pub long : size s ≤ length zs
  pub right : b ≡ right_hand s q
  pub z_of_lem : take (length b) zs ≡ z_of (length b) work b
  pub variance_of_lem : variance ≡ variance_of (length b) zs b
  pub columns_of : c ≡ column_verdict_given given (weighed_in (take (wells s) zs) F (drop (wells s) b) s.tolerance)
  pub figure_of_lem : figure ≡ running_sum (wells s) (λ i. mul binary64 (get_or zs i nan) (get_or s.values i nan))
  pub verdict_of_lem : v ≡ verdict_with c (audited_in (weighed_in (take (wells s) zs) [] (drop (wells s) b) s.tolerance) s.values figure)
  pub scanned : given ≡ drift_finite (wells s) (columns s) (entry_in F (columns s))

module _ (s : Survey) (work : List Float) (q : ℕ) (b zs F : List Float) (given : Bool) (variance figure : Float) (c v : ℕ) (hF : DriftIn s F) where
  -- they are the paper's node
  pub node_is : Parts s work q b zs F given variance figure c v
      → (take (size s) zs ≡ (node_of s work q).z) × (figure ≡ (node_of s work q).figure) × (variance ≡ (node_of s work q).variance)
      × (v ≡ (node_of s work q).verdict)
  node_is h =
      let len = right_length s q in
      let hz =
      subst (λ (k : ℕ). take k zs ≡ z_of k work (right_hand s q)) len
      (subst (λ (l : List Float). take (length l) zs ≡ z_of (length l) work l) h.right h.z_of_lem) in
      let hv =
      subst (λ (k : ℕ). variance ≡ variance_of k zs (right_hand s q)) len
      (subst (λ (l : List Float). variance ≡ variance_of (length l) zs l) h.right h.variance_of_lem) in
      let f0 : drop (wells s) b ≡ node_row s q = ap (λ (l : List Float). drop (wells s) l) h.right ∙ f0_is s work q in
      let fig = h.figure_of_lem ∙ figure_is s work q zs F given h.long hz hF h.scanned in
      let col = subst (λ (l : List Float). c ≡ column_verdict_given given (weighed_in (take (wells s) zs) F l s.tolerance)) f0 h.columns_of
      ∙ columns_is s work q zs F given h.long hz hF h.scanned in (
        z_is s work q zs F given h.long hz hF h.scanned,
        fig,
        hv ∙ variance_is s work q zs F given h.long hz hF h.scanned,
        subst (λ (l : List Float). v ≡ verdict_with c (audited_in (weighed_in (take (wells s) zs) [] l s.tolerance) s.values figure)) f0 h.verdict_of_lem
            ∙ verdict_is s work q zs F given h.long hz hF h.scanned col fig,
      )
