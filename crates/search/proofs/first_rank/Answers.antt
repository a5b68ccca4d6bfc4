-- `search::first_rank` meets its contract: the search is of one size.
use Rattle.search.proofs.Ranges.{range_found_lem, range_clean_lem}
use Rattle.search.proofs.first_rank.Goals as goal

pub returns : goal.returns
returns c = let start = c.requires.table_len_bound in range_found_lem _ _ _ _ _ _ start.3 start.4 _ c.in_ok-found.ensures

pub returns-in_err-found : goal.returns-in_err-found
returns-in_err-found c =
    let start = c.requires.table_len_bound in
    rw c.from_residual.ensures (range_clean_lem _ _ _ _ _ c.first_breaking.new.probes start.3 start.4 c.in_err-found.ensures)
