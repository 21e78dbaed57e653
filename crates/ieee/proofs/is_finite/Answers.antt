-- `ieee::is_finite` meets its contract: a finite number less itself is +0, and an infinity less itself is a NaN.
use Rattle.std.proofs.Common.{◌≡◌, true, false, refl}
use lib.Ieee.{Float, nan, inf, fin, eq, sub, of_bits, binary64}
use lib.Ieee.Scale.{finite}
use Rattle.ieee.proofs.Zero.{sub_self}
use Rattle.ieee.proofs.is_finite.Goals as goal

less-itself : (x : Float) → eq (sub binary64 x x) (of_bits binary64 0) ≡ finite x
unfolding eq sub of_bits
less-itself nan = refl
less-itself (inf true) = refl
less-itself (inf false) = refl
less-itself (fin s m e) = rw (sub_self s m e)

pub returns : goal.returns
returns c = less-itself c.args.x
