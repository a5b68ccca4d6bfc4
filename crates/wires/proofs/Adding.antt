-- What a sum of two depends on.
--     depends-plus     on no share on which neither does
--     more_seen        and so on no more shares than both together
use Prim.Native.Nat.{ℕ, ◌+◌, ◌≤◌, ◌<◌}
use mathlib.Core.Path.{◌≡◌}
use mathlib.Core.Logic.{◌⊎◌, inl, inr}
use mathlib.Core.Bool.{true}
use Rattle.basics.specs.Folds.{some, up_to}
use Rattle.basics.proofs.Tests.{or_left, or_right, or_cases, xor_cases}
use Rattle.basics.proofs.Folds.{count-either, some_at, some_where}
use Rattle.wires.specs.Wires.{Terms, plus, depends_a, count_a}

module _ (n : ℕ) (t u : Terms) where
  pub depends-plus : (i : ℕ) → depends_a n (plus t u) i ≡ true → (depends_a n t i ≡ true) ⊎ (depends_a n u i ≡ true)
  depends-plus i e = go (or_cases (some ((plus t u).product i) (up_to n)) ((plus t u).share_a i) e)
    where
      go : (some ((plus t u).product i) (up_to n) ≡ true) ⊎ ((plus t u).share_a i ≡ true) → (depends_a n t i ≡ true) ⊎ (depends_a n u i ≡ true)
      go (inl p) = let r = some_where n ((plus t u).product i) p in by r.0 r.1 (xor_cases (t.product i r.0) (u.product i r.0) r.2)
        where
          by : (j : ℕ) → j < n → (t.product i j ≡ true) ⊎ (u.product i j ≡ true) → (depends_a n t i ≡ true) ⊎ (depends_a n u i ≡ true)
          by j h (inl q) = inl (or_left (some (t.product i) (up_to n)) (t.share_a i) (some_at n j (t.product i) h q))
          by j h (inr q) = inr (or_left (some (u.product i) (up_to n)) (u.share_a i) (some_at n j (u.product i) h q))
      go (inr p) = single (xor_cases (t.share_a i) (u.share_a i) p)
        where
          single : (t.share_a i ≡ true) ⊎ (u.share_a i ≡ true) → (depends_a n t i ≡ true) ⊎ (depends_a n u i ≡ true)
          single (inl q) = inl (or_right (some (t.product i) (up_to n)) (t.share_a i) q)
          single (inr q) = inr (or_right (some (u.product i) (up_to n)) (u.share_a i) q)

  pub more_seen : count_a n (plus t u) ≤ count_a n t + count_a n u
  unfolding count_a
  more_seen = count-either (depends_a n (plus t u)) (depends_a n t) (depends_a n u) (up_to n) depends-plus
