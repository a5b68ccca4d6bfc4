use Prim.Native.Nat.{◌+◌, ◌-◌, ◌≤◌}
use mathlib.Core.Path.{◌≡◌}
use lib.ListN.{length}
use lib.Seq.{sets}
use Rattle.records.specs.Words.{bytes_of}
use Rattle.record_words.proofs.writing.write_number.Given as goal

abbrev pub invariant-loop-i : goal.invariant-loop-i
invariant-loop-i l =
    (sets l.initial.table l.at (bytes_of l.size l.number) ≡ sets l.table (l.at + l.i) (bytes_of (l.size - l.i) l.rest)) × (length l.table ≡ length l.initial.table)
    × (l.i ≤ l.size)

abbrev pub decreases-loop-i : goal.decreases-loop-i
decreases-loop-i l = l.size - l.i
