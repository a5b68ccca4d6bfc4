-- The terms of a function, cut to the shares that there are.
--     FirstShares n t u     u is t for the first n shares of each operand, of those that a record can hold
use Rattle.std.specs.Prelude.{ℕ, ◌<◌, ◌≡◌, ◌&&◌, ltb}
use Rattle.limits.specs.Limits.{max_shares, max_masks}
use Rattle.wires.specs.Wires.{Terms}

-- u is t for the first n shares of each operand, and has no bit for the others
pub record FirstShares (n : ℕ) (t u : Terms) : Type 0 where
  pub products : (i j : ℕ) → i < max_shares → j < max_shares → u.product i j ≡ (t.product i j && (ltb i n && ltb j n))
  pub of_a : (i : ℕ) → i < max_shares → u.share_a i ≡ (t.share_a i && ltb i n)
  pub of_b : (j : ℕ) → j < max_shares → u.share_b j ≡ (t.share_b j && ltb j n)
  pub masks : (k : ℕ) → k < max_masks → u.mask k ≡ t.mask k
