-- `ieee::is_root` meets its contract: the square is compared first, and then the next one.
use Rattle.std.proofs.Common.{ℕ, ◌<◌, ◌≤◌, leb, sym, ap, ◌∙◌, subst}
use Rattle.ieee.proofs.RootTest.{too_great, next_decides}
use Rattle.ieee.proofs.is_root.Goals as goal

-- return false;
pub returns-then-square_part-n : goal.returns-then-square_part-n
returns-then-square_part-n c =
    let a = c.args in
    sym (too_great a.n a.r c.requires.0 (subst (λ (q : ℕ). a.n < q) c.square_part.ensures c.if-square_part-n.true))

pub returns : goal.returns
returns c =
    let s = c in
    let a = s.args in
    ap (λ (q : ℕ). leb a.n q) c.square_part-2.ensures
    ∙ next_decides a.n a.r s.requires.0 (subst (λ (q : ℕ). q ≤ a.n) s.square_part.ensures c.if-square_part-n.false)
