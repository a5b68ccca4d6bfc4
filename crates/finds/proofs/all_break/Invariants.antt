use Rattle.limits.specs.Limits.{max_shares, max_masks}
use Rattle.records.specs.Layout.{wire_count}
use Rattle.breaking.specs.Breaking.{is_breaking}
use Rattle.finds.proofs.Breaking.{Passed}
use Rattle.finds.proofs.all_break.Given as goal

abbrev pub invariant-loop-next : goal.invariant-loop-next
invariant-loop-next l = Passed (is_breaking l.notion l.table max_shares max_masks) (wire_count l.table) l.reports l.next
