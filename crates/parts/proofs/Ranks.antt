-- The ranks of sets that are given as tests on wire numbers.
--     members_at       the members of a test stand at their rank
--     rank-within      where no wire above the top one is a member, the rank is one of the sets out of the wires up to it
--     test_at          the set at a rank is the members of a test, which passes no wire above those that the rank needs
use Prim.Native.Nat.{ℕ, ◌≤◌, ◌<◌}
use native.Mathlib.Omega.{arith}
use mathlib.Core.Path.{◌≡◌, sym, ◌∙◌, ap}
use mathlib.Core.Bool.{Bool, true, false, ◌&&◌}
use borrow.Author.Tests.{lt-ltb, le-ltb}
use lib.Dec.{ltb}
use lib.ListN.{length}
use Rattle.counts.specs.Counts.{binom}
use Rattle.counts.proofs.Binomial.{binom_wider}
use Rattle.revolving.specs.Order.{is_set, set_at, rank_of}
use Rattle.revolving.proofs.Revolving.{set_at-is-set, set_of_rank, set_at_wider, rank_unique}
use Rattle.parts.specs.Parts.{members}
use Rattle.parts.proofs.Members.{keep-below, keep_narrow, members-is-set, a_test}

is-set : (n size : ℕ) (s : ℕ → Bool) → length (members n s) ≡ size → is_set n size (members n s) ≡ true
is-set n size s e = ap (λ (k : ℕ). is_set n k (members n s)) (sym e) ∙ members-is-set n s

pub members_at : (n size : ℕ) (s : ℕ → Bool) → length (members n s) ≡ size
    → (rank_of n (members n s) < binom n size) × (set_at n size (rank_of n (members n s)) ≡ members n s)
members_at n size s e = set_of_rank n size (members n s) (is-set n size s e)

pub rank-within : (n size top : ℕ) (s : ℕ → Bool) → top ≤ n → ((w : ℕ) → top ≤ w → w < n → s w ≡ false) → length (members n s) ≡ size
    → rank_of n (members n s) < binom top size
rank-within n size top s h none e =
    let narrow : members n s ≡ members top s = keep_narrow top n s h none in
    let r = members_at top size s (ap length (sym narrow) ∙ e) in
    let rank = rank_of top (members top s) in
    let all : binom top size ≤ binom n size = binom_wider top n size h in
    let same : rank_of n (members n s) ≡ rank =
    rank_unique n size rank (members n s) (omega (arith, r.0, all)) (set_at_wider top n size rank h r.0 ∙ r.1 ∙ sym narrow) in
    omega (arith, same, r.0)

pub test_at : (n size top rank : ℕ) → top ≤ n → rank < binom top size
    → (s : ℕ → Bool) × (members n s ≡ set_at n size rank) × ((w : ℕ) → top ≤ w → s w ≡ false)
test_at n size top rank h b =
    let t = a_test top size (set_at top size rank) (set_at-is-set top size rank b) in
    let s : ℕ → Bool = λ w. ltb w top && t.0 w in
    let none : (w : ℕ) → top ≤ w → s w ≡ false = λ w k. ap (λ (c : Bool). c && t.0 w) (le-ltb w top k) in (
      s,
      keep_narrow top n s h (λ w k l. none w k) ∙ keep-below top s t.0 (λ w k. ap (λ (c : Bool). c && t.0 w) (lt-ltb w top k)) ∙ t.1
          ∙ sym (set_at_wider top n size rank h b),
      none,
    )
