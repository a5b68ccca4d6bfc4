-- `try_trips::trips` counts 1 at most in each trip.
use Rattle.std.proofs.Common.{◌≤◌}
use Rattle.try_trips.proofs.trips.Given as goal

abbrev pub invariant-loop-trip : goal.invariant-loop-trip
invariant-loop-trip l = l.returned ≤ l.trip
