-- Two patterns, told apart by the sums of chosen bits.
--     differ p q l     whether the sums of the bits that l chooses from p and from q differ
--     told_apart       they differ for half of all choices, unless the patterns are equal: then for none
use Prim.Native.Nat.{ℕ, ◌+◌, ◌*◌}
use native.Mathlib.Nat.{zero-add, add_assoc, suc_inj, suc-ne-zero}
use native.Mathlib.Omega.{arith}
use mathlib.Core.Path.{◌≡◌, refl, sym, ◌∙◌, ap, ap₂}
use mathlib.Core.Bool.{Bool, true, false, not, ◌&&◌, xor}
use mathlib.Core.List.{List, [], ◌∷◌}
use lib.ListN.{length}
use Rattle.basics.specs.Folds.{parity, count, one_if}
use Rattle.basics.proofs.Tests.{false-xor, xor_comm, xor_two, xor-true}
use Rattle.basics.proofs.Folds.{fold_cong}
use Rattle.watcher.specs.Watcher.{bit_lists, equal}
use Rattle.watcher.proofs.Counting.{count_split}
use Rattle.watcher.proofs.Bits.{pick, bits_first}

abbrev pub differ : List Bool → List Bool → List Bool → Bool
differ p q l = xor (parity (λ b. b) (pick l p)) (parity (λ b. b) (pick l q))

-- for how many choices they do, and how many there are
abbrev apart : List Bool → List Bool → ℕ
apart p q = count (differ p q) (bit_lists (length q))

abbrev all : List Bool → ℕ
all q = count (λ l. true) (bit_lists (length q))

-- choices without the first bits say what they said; choices with them say the opposite where the first bits differ
longer : (p q : List Bool) (b c : Bool) → apart p q + apart p q + one_if (equal p q) * all q ≡ all q
    → apart (b ∷ p) (c ∷ q) + apart (b ∷ p) (c ∷ q) + one_if (equal (b ∷ p) (c ∷ q)) * all (c ∷ q) ≡ all (c ∷ q)
longer p q b c h = ap₂ (λ (k whole : ℕ). k + k + one_if (not (xor b c) && equal p q) * whole) first both ∙ go (xor b c) ∙ sym both
  where
    with_first : Bool → ℕ
    with_first e = count (λ l. xor e (differ p q l)) (bit_lists (length q))

    first : apart (b ∷ p) (c ∷ q) ≡ apart p q + with_first (xor b c)
    first =
        bits_first ◌+◌ 0 zero-add add_assoc (length q) (λ l. one_if (differ (b ∷ p) (c ∷ q) l))
        ∙ ap (λ (k : ℕ). apart p q + k)
        (fold_cong ◌+◌ 0 (λ l. one_if (differ (b ∷ p) (c ∷ q) (true ∷ l))) (λ l. one_if (xor (xor b c) (differ p q l))) (bit_lists (length q))
        (λ l. ap one_if (xor_two b (parity (λ b. b) (pick l p)) c (parity (λ b. b) (pick l q)))))

    both : all (c ∷ q) ≡ all q + all q
    both = bits_first ◌+◌ 0 zero-add add_assoc (length q) (λ l. 1)

    opposite : with_first true ≡ count (λ l. not (differ p q l)) (bit_lists (length q))
    opposite =
        fold_cong ◌+◌ 0 (λ l. one_if (xor true (differ p q l))) (λ l. one_if (not (differ p q l))) (bit_lists (length q))
        (λ l. ap one_if (xor_comm true (differ p q l) ∙ xor-true (differ p q l)))

    same : with_first false ≡ apart p q
    same =
        fold_cong ◌+◌ 0 (λ l. one_if (xor false (differ p q l))) (λ l. one_if (differ p q l)) (bit_lists (length q))
        (λ l. ap one_if (false-xor (differ p q l)))

    go : (e : Bool) → apart p q + with_first e + (apart p q + with_first e) + one_if (not e && equal p q) * (all q + all q) ≡ all q + all q
    go true = omega (arith, opposite, count_split (λ l. true) (differ p q) (bit_lists (length q)))
    go false = omega (arith, same, h)

pub told_apart : (p q : List Bool) → length p ≡ length q → apart p q + apart p q + one_if (equal p q) * all q ≡ all q
unfolding bit_lists xor
told_apart [] [] h = refl
told_apart [] (c ∷ q) h = absurd (suc-ne-zero (length q) (sym h))
told_apart (b ∷ p) [] h = absurd (suc-ne-zero (length p) h)
told_apart (b ∷ p) (c ∷ q) h = longer p q b c (told_apart p q (suc_inj h))
