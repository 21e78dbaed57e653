-- `vectors::areas::mark` meets its contract: after so many turns the first places hold their marks.
use Rattle.std.proofs.Common.{◌≡◌, ℕ, length, take, sym, ◌∙◌, arith, take_all}
use Rattle.area.specs.Area.{written}
use Rattle.area.proofs.Places.{all_turns}
use Rattle.area.proofs.Turns.{length-written}
use Rattle.area.proofs.Tables.{take_start}
use Rattle.vectors.proofs.areas.mark.Goals as goal

pub returns : goal.returns
returns g c =
    let l = c.loop-at in
    let area₀ = c.args.area.now in
    let all : l.at ≡ length area₀ = omega arith in
    let marks = λ (i : ℕ). g.T.Place.of_word (g.T.Place.marked i) in
    let whole : take (length area₀) (written 0 (length area₀) marks area₀) ≡ written 0 (length area₀) marks area₀ =
    take_all (length area₀) (written 0 (length area₀) marks area₀) (omega (arith, length-written 0 (length area₀) marks area₀)) in
    all_turns 0 marks area₀ all l.invariant.0 ∙ sym whole ∙ take_start (length area₀) marks area₀ g.T.Place.none (omega arith)
