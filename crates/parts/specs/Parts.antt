-- Sets of wires as tests on wire numbers, and their parts.
--     members n s        the wires below n that a test passes, rising
--     Parted n s p q     each wire of s is in just one of p and q, and these have no other wire
--     NoneBelow          no set of fewer wires passes a test
use Rattle.std.specs.Prelude.{ℕ, ◌+◌, ◌<◌, ◌≡◌, Bool, false, List, length}
use Rattle.basics.specs.Folds.{keep, one_if, up_to}

abbrev pub members : ℕ → (ℕ → Bool) → List ℕ
members n s = keep s (up_to n)

abbrev pub Parted : ℕ → (ℕ → Bool) → (ℕ → Bool) → (ℕ → Bool) → Type 0
Parted n s p q = (w : ℕ) → w < n → one_if (s w) ≡ one_if (p w) + one_if (q w)

unfoldable pub NoneBelow : (List ℕ → Bool) → ℕ → ℕ → Type 0
NoneBelow test n size = (s : ℕ → Bool) → length (members n s) < size → test (members n s) ≡ false
