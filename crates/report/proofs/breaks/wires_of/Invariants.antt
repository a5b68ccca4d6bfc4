-- `report::breaks::wires_of` writes no more numbers than there is room for.
use Rattle.std.proofs.Common.{◌≤◌, length}
use Rattle.report.proofs.breaks.wires_of.Given as goal

abbrev pub invariant-loop-byte : goal.invariant-loop-byte
invariant-loop-byte l = l.numbers.size ≤ length l.set
