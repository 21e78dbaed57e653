-- `report::room::node_length` meets its contract: the digits of number and verdict, and 36 bytes more.
use native.Mathlib.Omega.{arith}
use Rattle.report.proofs.Lengths.{node_line_length}
use Rattle.report.proofs.room.node_length.Goals as goal

-- fn node_length(number: u64, verdict: u8) -> usize
pub returns : goal.returns
returns c = λ figure variance. let called = c.args in omega (arith, node_line_length called.number figure variance called.verdict)
