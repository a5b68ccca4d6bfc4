-- What is found first in the sets of rising size, with all ranks of each.
--     searched-none, searched-suc     the sets of sizes up to 0, and up to one more
--     SizesClean                      nothing found in the sizes from 1 up to, without, one
--     no_size, next_size              at the start, and after a size
--     all-smaller                     the same from every size in turn
--     first_of_size                   what is found first in a size
--     none_found, set_found           the result, where nothing was found and where a set was
--     size-told, none-told            what was found, as the verdict asks it: a set, and none
--     sizes-told                      the same of whatever was found
use Prim.Native.Nat.{ℕ, zero, suc, ◌+◌, ◌-◌, ◌≤◌, ◌<◌, zero-le}
use native.Mathlib.Nat.{le_refl, not-suc-le-zero}
use native.Mathlib.Numerals.{add-one}
use native.Mathlib.Omega.{arith}
use mathlib.Core.Path.{◌≡◌, refl, sym, ◌∙◌, ap, ap₂}
use mathlib.Core.Bool.{Bool, true, false}
use mathlib.Core.List.{List, [], ◌∷◌, ◌++◌, append_assoc, append-nil}
use lib.ListN.{length, take}
use lib.Seq.{take_all}
use Rattle.std.specs.Prelude.{Option, None, Some}
use Rattle.basics.specs.Folds.{keep}
use Rattle.basics.proofs.Folds.{keep_append}
use Rattle.basics.proofs.Numbers.{from_on}
use Rattle.counts.specs.Counts.{binom}
use Rattle.revolving.specs.Order.{revolving, set_at}
use Rattle.revolving.proofs.Rising.{is_set-parts}
use Rattle.revolving.proofs.Revolving.{revolving-length, set_at-is-set}
use Rattle.search.specs.declared.Found.{Found}
use Rattle.search.specs.Search.{searched, stretch, first, FirstSet, FirstFound}
use Rattle.search.proofs.Keeping.{drop-none}
use Rattle.search.proofs.Ranges.{RangeClean, clean_range, rank-first}

module _ (n : ℕ) where
  pub searched-none : searched n 0 ≡ []
  unfolding searched
  searched-none = refl

  pub searched-suc : (t : ℕ) → searched n (suc t) ≡ searched n t ++ revolving n (suc t)
  unfolding searched
  searched-suc t = refl

-- the range of all ranks
stretch-all : (n k to : ℕ) → binom n k ≤ to → stretch n k 0 to ≡ revolving n k
stretch-all n k to h =
    let same : to - 0 ≡ to = omega arith in
    ap₂ {C = List (List ℕ)} take same (drop-none (revolving n k)) ∙ take_all to (revolving n k) (omega (arith, revolving-length n k))

module _ (test : List ℕ → Bool) (n : ℕ) where
  -- the sizes from 1 up to, without, this one
  unfoldable pub SizesClean : ℕ → Type 0
  SizesClean size = (t : ℕ) → suc t ≡ size → keep test (searched n t) ≡ []

  pub no_size : SizesClean 1
  unfolding SizesClean searched
  no_size zero e = refl
  no_size (suc t) e = let z : ⊥ = omega arith in absurd z

  size_clean : (t : ℕ) → keep test (searched n t) ≡ [] → keep test (searched n (suc t)) ≡ keep test (revolving n (suc t))
  size_clean t e =
      ap (keep test) (searched-suc n t) ∙ keep_append test (searched n t) (revolving n (suc t))
      ∙ ap {B = List (List ℕ)} (λ l. l ++ keep test (revolving n (suc t))) e

  pub next_size : (size rank : ℕ) → SizesClean size → RangeClean test n size 0 rank → binom n size ≤ rank → SizesClean (size + 1)
  unfolding SizesClean RangeClean searched
  next_size size rank sizes ranks h t e =
      let same : t ≡ size = omega arith in
      ap (λ (k : ℕ). keep test (searched n k)) same ∙ go size sizes whole
    where
      whole : keep test (revolving n size) ≡ []
      whole = ap (keep test) (sym (stretch-all n size rank h)) ∙ ranks

      go : (size : ℕ) → ((t : ℕ) → suc t ≡ size → keep test (searched n t) ≡ []) → keep test (revolving n size) ≡ [] → keep test (searched n size)
          ≡ []
      go zero sizes whole = refl
      go (suc t) sizes whole = size_clean t (sizes t refl) ∙ whole

  pub none_found : (order size : ℕ) (held : List ℕ) → order < size → size ≤ order + 1 → SizesClean size → FirstSet test (searched n order) None held
  unfolding SizesClean
  none_found order size held low high clean = clean order (omega arith)

  -- the sets of larger sizes come after
  searched_more : (size order : ℕ) → size ≤ order → (more : List (List ℕ)) × (searched n order ≡ searched n size ++ more)
  searched_more size order h = from_on After size order ([], sym (append-nil (searched n size))) next order h (le_refl order)
    where
      After : ℕ → Type 0
      After t = (more : List (List ℕ)) × (searched n t ≡ searched n size ++ more)

      next : (t : ℕ) → size ≤ t → t < order → After t → After (t + 1)
      next t low less before = (
        before.0 ++ revolving n (suc t),
        ap (searched n) (add-one t) ∙ searched-suc n t ∙ ap (λ (l : List (List ℕ)). l ++ revolving n (suc t)) before.1
            ∙ append_assoc (searched n size) before.0 (revolving n (suc t)),
      )

  -- what is found first in a size is found first
  pub first_of_size : (t order : ℕ) (s : List ℕ) (later : List (List ℕ)) → keep test (searched n t) ≡ [] → suc t ≤ order
      → keep test (revolving n (suc t)) ≡ s ∷ later → (rest : List (List ℕ)) × (keep test (searched n order) ≡ s ∷ rest)
  first_of_size t order s later none h e =
      let m = searched_more (suc t) order h in (
        later ++ keep test m.0,
        ap (keep test) m.1 ∙ keep_append test (searched n (suc t)) m.0
            ∙ ap {B = List (List ℕ)} (λ l. l ++ keep test m.0) (size_clean t none ∙ e),
      )

  pub set_found : (size order rank : ℕ) (held : List ℕ) → 1 ≤ size → size ≤ order → rank < binom n size → SizesClean size
      → RangeClean test n size 0 rank
      → true ≡ test (set_at n size rank) → take size held ≡ set_at n size rank → FirstSet test (searched n order) (Some size) held
  unfolding SizesClean RangeClean
  set_found zero order rank held some h counted sizes ranks e here = absurd (not-suc-le-zero some)
  set_found (suc t) order rank held some h counted sizes ranks e here =
      let set = set_at n (suc t) rank in
      let all = binom n (suc t) in
      let only = rank-first test n (suc t) 0 rank all zero-le counted (le_refl all) ranks (sym e) in
      let found = first_of_size t order set only.0 (sizes t refl) h (ap (keep test) (sym (stretch-all n (suc t) all (le_refl all))) ∙ only.1) in
      let long : length set ≡ suc t = (is_set-parts n (suc t) set (set_at-is-set n (suc t) rank counted)).0 in
      record {
        some = λ none. let z : ◌≡◌ {A = ℕ} 0 1 = cc in omega (arith, z);
        size_is = sym long ∙ ap (λ (l : List (List ℕ)). length (first l)) (sym found.1);
        set_is = here ∙ ap first (sym found.1);
      }

  -- every size in turn, at all of its ranks
  pub all-smaller : (size : ℕ) → 1 ≤ size → ((k r : ℕ) → 1 ≤ k → k < size → r < binom n k → test (set_at n k r) ≡ false) → SizesClean size
  all-smaller size low clean = from_on SizesClean 1 size no_size next size low (le_refl size)
    where
      next : (k : ℕ) → 1 ≤ k → k < size → SizesClean k → SizesClean (k + 1)
      next k some less before =
          let all = binom n k in
          next_size k all before (clean_range test n k 0 all zero-le (le_refl all) (λ i a b. clean k i some less b)) (le_refl all)

  module _ (order to : ℕ) (held : List ℕ) (counted : (k : ℕ) → k ≤ order → binom n k < to) where
    pub size-told : (found : Found) → FirstFound test n 1 order 0 to (Some found) held → FirstSet test (searched n order) (Some found.size) held
    size-told found f =
        let at = f.1 in
        let size = found.size in
        let rank = found.rank in
        set_found size order rank held at.size_low at.size_high at.rank_in
        (all-smaller size at.size_low (λ k r a b c. at.smaller k r a b zero-le (omega (arith, c, counted k (omega (arith, b, at.size_high)))) c))
        (clean_range test n size 0 rank zero-le (omega (arith, at.rank_in)) at.earlier) (sym at.passes) at.shown

    pub none-told : FirstFound test n 1 order 0 to None held → FirstSet test (searched n order) None held
    none-told f =
        none_found order (order + 1) held (omega arith) (omega arith)
        (all-smaller (order + 1) (omega arith) (λ k r a b c. f k r a (omega arith) zero-le (omega (arith, c, counted k (omega arith))) c))

  -- the size of what was found
  abbrev pub size_found : Option Found → Option ℕ
  size_found None = None
  size_found (Some found) = Some found.size

  pub sizes-told : (order to : ℕ) (found : Option Found) (held : List ℕ) → ((k : ℕ) → k ≤ order → binom n k < to) → FirstFound test n 1 order 0 to found held
      → FirstSet test (searched n order) (size_found found) held
  sizes-told order to None held counted = none-told order to held counted
  sizes-told order to (Some found) held counted = size-told order to held counted found
