-- Items put together: what is true of them is true of their parts.
--     then_following, then_symbols, then_whole, then_shallow     the bytes and symbols of items and then others; no group is empty; how deep they nest
--     names-low, names-once, names-count, names-member           masks declared from r0 on
use Prim.Native.Nat.{ℕ, zero, suc, ◌+◌, ◌≤◌, ◌<◌, max}
use native.Mathlib.Omega.{arith}
use mathlib.Core.Path.{◌≡◌, refl, sym, ◌∙◌, ap, ap₂}
use mathlib.Core.Bool.{Bool, true, false, not, ◌&&◌, ◌||◌, and_assoc}
use mathlib.Core.List.{List, [], ◌∷◌, ◌++◌, map, append_assoc}
use borrow.Author.Tests.{le-leb, eq-eqb}
use lib.Dec.{eqb, leb, eqb-zero-suc, eqb-suc-suc}
use Rattle.limits.specs.Limits.{max_masks}
use Rattle.basics.specs.Folds.{every, up_to}
use Rattle.basics.proofs.Folds.{fold-map, fold_cong, fold_unit, up_to-last, every-below, some_at}
use Rattle.wires.specs.declared.Symbol.{Symbol}
use Rattle.description.specs.Bytes.{space, opening, closing}
use Rattle.description.specs.Symbols.{max_mask, spelling}
use Rattle.description.specs.Grammar.{Items, none, symbol, group, empty, symbols, depth, member, once, mask_count}
use Rattle.description.specs.Printing.{following, printed}
use Rattle.description.proofs.Laying.{◌then◌}
use Rattle.description.proofs.Numbers.{larger-max}
use Rattle.description.proofs.Events.{symbols-group, whole}

pub then_following : (is js : Items) → following (is then js) ≡ following is ++ following js
then_following none js = refl
then_following (symbol p is) js =
    ap {B = List ℕ} (λ l. space ∷ (spelling p.symbol ++ l)) (then_following is js)
    ∙ ap {B = List ℕ} (λ l. space ∷ l) (sym (append_assoc (spelling p.symbol) (following is) (following js)))
then_following (group o inside c is) js =
    ap {B = List ℕ} (λ l. space ∷ opening ∷ (printed inside ++ (closing ∷ l))) (then_following is js)
    ∙ ap {B = List ℕ} (λ l. space ∷ opening ∷ l) (sym (append_assoc (printed inside) (closing ∷ following is) (following js)))

pub then_symbols : (is js : Items) → symbols (is then js) ≡ symbols is ++ symbols js
then_symbols none js = refl
then_symbols (symbol p is) js = ap {B = List Symbol} (λ l. p.symbol ∷ l) (then_symbols is js)
then_symbols (group o inside c is) js =
    symbols-group o inside c (is then js) ∙ ap (λ (l : List Symbol). symbols inside ++ l) (then_symbols is js)
    ∙ sym (append_assoc (symbols inside) (symbols is) (symbols js)) ∙ ap (λ (l : List Symbol). l ++ symbols js) (sym (symbols-group o inside c is))

pub then_whole : (is js : Items) → whole (is then js) ≡ (whole is && whole js)
then_whole none js = refl
then_whole (symbol p is) js = then_whole is js
then_whole (group o inside c is) js =
    ap (λ (b : Bool). not (empty inside) && (whole inside && b)) (then_whole is js)
    ∙ ap (λ (b : Bool). not (empty inside) && b) (sym (and_assoc (whole inside) (whole is) (whole js)))
    ∙ sym (and_assoc (not (empty inside)) (whole inside && whole is) (whole js))

pub then_shallow : (most : ℕ) (is js : Items) → depth is ≤ most → depth js ≤ most → depth (is then js) ≤ most
then_shallow most none js h k = k
then_shallow most (symbol p is) js h k = then_shallow most is js h k
then_shallow most (group o inside c is) js h k =
    let larger-is = larger-max (depth inside + 1) (depth is) in
    let larger-then = larger-max (depth inside + 1) (depth (is then js)) in
    let rest = then_shallow most is js (omega (arith, h, larger-is)) k in
    omega (arith, rest, h, larger-is, larger-then)

-- ---- masks r0, r1, ..

pub names-low : (n : ℕ) → n ≤ max_masks → every (λ k. leb k max_mask) (up_to n) ≡ true
names-low n h = every-below n (λ k. leb k max_mask) (λ k b. le-leb k max_mask (omega (arith, h, b)))

pub names-member : (n k : ℕ) → k < n → member k (up_to n) ≡ true
names-member n k h = some_at n k (eqb k) h (eq-eqb k k refl)

member-suc : (k : ℕ) (l : List ℕ) → member (suc k) (map suc l) ≡ member k l
member-suc k l = fold-map ◌||◌ false suc (eqb (suc k)) l ∙ fold_cong ◌||◌ false (λ i. eqb (suc k) (suc i)) (eqb k) l (λ i. eqb-suc-suc k i)

once-suc : (l : List ℕ) → once (map suc l) ≡ once l
once-suc [] = refl
once-suc (k ∷ l) = ap₂ (λ (a b : Bool). not a && b) (member-suc k l) (once-suc l)

pub names-once : (n : ℕ) → once (up_to n) ≡ true
unfolding up_to
names-once zero = refl
names-once (suc n) =
    ap₂ (λ (a b : Bool). not a && b)
    (fold-map ◌||◌ false suc (eqb 0) (up_to n) ∙ fold_unit ◌||◌ false (λ b. refl) (λ i. eqb 0 (suc i)) (up_to n) (λ i. eqb-zero-suc i))
    (once-suc (up_to n) ∙ names-once n)

count-last : (l : List ℕ) (n : ℕ) → mask_count (l ++ (n ∷ [])) ≡ max (mask_count l) (n + 1)
count-last [] n = let l = larger-max (n + 1) 0 in omega (arith, l)
count-last (k ∷ l) n =
    let rest = count-last l n in
    let now = larger-max (k + 1) (mask_count l) in
    let then-last = larger-max (k + 1) (mask_count (l ++ (n ∷ []))) in
    omega (arith, rest, now, then-last)

pub names-count : (n : ℕ) → mask_count (up_to n) ≡ n
unfolding up_to
names-count zero = refl
names-count (suc n) =
    let rest = names-count n in
    let more = ap mask_count (up_to-last n) ∙ count-last (up_to n) n in
    omega (arith, rest, more)
