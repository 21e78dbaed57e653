-- `exact::multiply` meets its contract: the product by halves. What is carried fits, since the high halves are below 2^21.
use Rattle.std.proofs.Common.{ℕ, ◌+◌, ◌*◌, ◌/◌, ◌%◌, ◌^◌, ap, ◌∙◌, ap₂, div-add-mod'}
use Rattle.exact.proofs.Halves.{by_halves, low_word}
use Rattle.exact.proofs.multiply.Goals as goal

pub returns : goal.returns
returns c =
    let h = 2 ^ 32 in
    let a = c.args.a in
    let b = c.args.b in
    let l = a % h * (b % h) in
    let m = a / h * (b % h) + l / h in
    let high : ℕ = a / h * (b / h) + m / h + (a % h * (b / h) + m % h) / h in
    ap (λ (x : ℕ). x + 2 ^ 64 * high) (low_word l (a % h * (b / h)) (a / h * (b % h)))
    ∙ by_halves h (a % h) (a / h) (b % h) (b / h) _ _ _ _ _ _ (div-add-mod' l h) (div-add-mod' m h) (div-add-mod' (a % h * (b / h) + m % h) h)
    ∙ ap₂ (λ (x y : ℕ). x * y) (div-add-mod' a h) (div-add-mod' b h)
