-- `ieee::all_finite` meets its contract: `all` answers whether each number is finite.
use Rattle.std.proofs.Common.{rules, ◌≡◌, true, ◌↔◌, get_or}
use Rattle.std.specs.List.{EachIndex}
use lib.Ieee.{nan}
use lib.Ieee.Scale.{finite}
use Rattle.ieee.proofs.FiniteLists.{tests_all}
use Rattle.ieee.proofs.all_finite.Goals as goal

pub returns : goal.returns
returns c =
    let xs = c.args.xs.now in
    let each : c.all.result ≡ true ↔ EachIndex xs (λ k. finite (get_or xs k nan) ≡ true) = search rules in
    tests_all xs c.all.result each
