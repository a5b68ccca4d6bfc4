-- The row of all symbols: products, shares of a, shares of b, masks.
--     symbol_count     how many there are
use Rattle.std.specs.Prelude.{ℕ, ◌+◌, ◌*◌}
use Rattle.limits.specs.Limits.{max_shares, max_masks}

abbrev pub symbol_count : ℕ
symbol_count = max_shares * max_shares + max_shares + max_shares + max_masks
