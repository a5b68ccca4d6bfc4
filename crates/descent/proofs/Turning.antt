-- The turns of the loop over the carriers of a node's mask, from the highest down.
--     Trying        what holds before a turn: of the sets that fitted at first, each that breaks has a rank of at least what is kept, or fits still; no
--                   carrier from a limit on is open
--     Between       no wire from one limit up to another carries the mask
--     try_first     before the first turn
--     try_shut      a wire that is not open
--     try_open      an open wire, after the descent with it
--     try_last      after the last turn
use Prim.Native.Nat.{ℕ, suc, ◌≤◌, ◌<◌, zero-le}
use native.Mathlib.Nat.{le_refl, lt_irrefl}
use native.Mathlib.Decide.{dec_lt}
use native.Mathlib.Omega.{arith}
use mathlib.Core.Path.{◌≡◌, refl, sym, ◌∙◌, ap, subst}
use mathlib.Core.Logic.{◌⊎◌, inl, inr}
use mathlib.Core.Bool.{Bool, true, false, not, true≢false}
use mathlib.Core.List.{List, map}
use lib.ListN.{length, set}
use Rattle.limits.specs.Limits.{max_shares, max_masks}
use Rattle.basics.proofs.Tests.{and_left, and_right}
use Rattle.counts.specs.Counts.{binom}
use Rattle.revolving.specs.Order.{set_at, rank_of}
use Rattle.basics.proofs.Numbers.{alike}
use Rattle.wires.specs.declared.Notion.{Notion}
use Rattle.wires.specs.Wires.{Terms}
use Rattle.wires.proofs.Breaks.{breaks-exactly}
use Rattle.records.specs.declared.sums.Sum.{Sum}
use Rattle.records.specs.Layout.{wire_at, wire_count, terms_of}
use Rattle.breaking.specs.Breaking.{is_breaking}
use Rattle.parts.specs.Parts.{members}
use Rattle.parts.proofs.Members.{rest}
use Rattle.parts.proofs.Cutting.{carrier}
use Rattle.choices.specs.Marks.{is_open, is_chosen, Fits}
use Rattle.descent.specs.Nodes.{Node, Looked}
use Rattle.choices.proofs.Marking.{not_open, closed-not_open, open_other, now_closed, fits_with, fits-without}
use Rattle.descent.proofs.Ending.{others}

pub record Trying (test : List ℕ → Bool) (n size top : ℕ) (carry : ℕ → Bool) (first : List ℕ) (before : ℕ) (marks : List ℕ) (least limit : ℕ) : Type 0 where
  pub within : limit ≤ top
  pub most : least ≤ before
  pub low : least < before → least < binom (suc top) size
  pub found : least < before → test (set_at n size least) ≡ true
  pub still : (s : ℕ → Bool) → length (members n s) ≡ size → test (members n s) ≡ true → Fits first n s
      → (least ≤ rank_of n (members n s)) ⊎ Fits marks n s
  pub shut : (w : ℕ) → limit ≤ w → w < n → carry w ≡ true → is_open marks w ≡ false

-- the next limit, and that no carrier is passed over
pub record Between (carry : ℕ → Bool) (next limit : ℕ) : Type 0 where
  pub most : next ≤ limit
  pub none : (w : ℕ) → next ≤ w → w < limit → carry w ≡ false

module _ (notion : Notion) (table : List ℕ) (size top : ℕ) (carry : ℕ → Bool) (first : List ℕ) (before : ℕ) where
  abbrev n : ℕ
  n = wire_count table

  abbrev test : List ℕ → Bool
  test = is_breaking notion table max_shares max_masks

  pub try_first : (sum : Sum) (paid left limit : ℕ) → Node notion table size top first sum paid left → Between carry limit top
      → Trying test n size top carry first before first before limit
  try_first sum paid left limit node gap = record {
    within = gap.most;
    most = le_refl before;
    low = λ less. absurd (lt_irrefl before less);
    found = λ less. absurd (lt_irrefl before less);
    still = λ s e broken fits. inr fits;
    shut = λ w a b c. go w a b c (dec_lt w top) (dec_lt top w);
  }
    where
      go : (w : ℕ) → limit ≤ w → w < n → carry w ≡ true → Dec (w < top) → Dec (top < w) → is_open first w ≡ false
      go w a b c (yes p) d = absurd (true≢false (sym c ∙ gap.none w a p))
      go w a b c (no p) (yes q) = closed-not_open first w (node.above w q b)
      go w a b c (no p) (no q) =
          let same : top ≡ w = omega (arith, p, q) in not_open first w (ap (is_chosen first) (sym same) ∙ node.top_chosen)

  module _ (marks : List ℕ) (least limit wire next : ℕ) (trying : Trying test n size top carry first before marks least limit) (at : limit ≡ suc wire)
      (gap : Between carry next wire) where
    -- no carrier from the next limit on is open, where marks differ in none but this wire, which is not open
    later : (marks' : List ℕ) → is_open marks' wire ≡ false → ((w : ℕ) → (w ≡ wire → ⊥) → is_open marks' w ≡ is_open marks w)
        → (w : ℕ) → next ≤ w → w < n → carry w ≡ true → is_open marks' w ≡ false
    later marks' here apart w a b c = go (dec_lt w wire) (alike w wire)
      where
        go : Dec (w < wire) → Dec (w ≡ wire) → is_open marks' w ≡ false
        go (yes p) d = absurd (true≢false (sym c ∙ gap.none w a p))
        go (no p) (yes q) = ap (is_open marks') q ∙ here
        go (no p) (no q) = apart w q ∙ trying.shut w (omega (arith, at, p, q)) b c

    pub try_shut : is_open marks wire ≡ false → Trying test n size top carry first before marks least next
    try_shut closed = record {
      within = omega (arith, gap.most, trying.within, at);
      most = trying.most;
      low = trying.low;
      found = trying.found;
      still = trying.still;
      shut = later marks closed (λ w apart. refl);
    }

    pub try_open : (lower : ℕ) → wire < length marks → is_open marks wire ≡ true → Looked test n size top (set marks wire 2) least lower
        → Trying test n size top carry first before (set marks wire 1) lower next
    try_open lower fits up looked = record {
      within = omega (arith, gap.most, trying.within, at);
      most = omega (arith, looked.most, trying.most);
      low = λ less. by (dec_lt lower least) (λ p. looked.low p)
          (λ same. subst (λ (r : ℕ). r < binom (suc top) size) (sym same) (trying.low (omega (arith, same, less))));
      found = λ less. by (dec_lt lower least) (λ p. looked.found p)
          (λ same. ap (λ (r : ℕ). test (set_at n size r)) same ∙ trying.found (omega (arith, same, less)));
      still = λ s e broken fit. one s e broken (trying.still s e broken fit) (s wire) refl;
      shut = later (set marks wire 1) (closed-not_open (set marks wire 1) wire (now_closed marks wire fits)) (λ w apart. open_other marks wire 1 w apart);
    }
      where
        by : {P : Type 0} → Dec (lower < least) → (lower < least → P) → (lower ≡ least → P) → P
        by (yes p) f g = f p
        by (no p) f g = g (omega (arith, p, looked.most))

        one : (s : ℕ → Bool) → length (members n s) ≡ size → test (members n s) ≡ true → (least ≤ rank_of n (members n s)) ⊎ Fits marks n s
            → (b : Bool) → s wire ≡ b → (lower ≤ rank_of n (members n s)) ⊎ Fits (set marks wire 1) n s
        one s e broken (inl p) b q = inl (omega (arith, p, looked.most))
        one s e broken (inr p) true q = inl (looked.covers s e broken (fits_with marks wire fits n s p q))
        one s e broken (inr p) false q = inr (fits-without marks wire fits n s p q)

  pub try_last : (marks : List ℕ) (sum : Sum) (paid left least limit mask : ℕ) → Node notion table size top marks sum paid left
      → Trying test n size top carry first before marks least limit → limit ≡ 0 → mask < max_masks → (terms_of sum).mask mask ≡ true
      → ((w : ℕ) → carry w ≡ (wire_at table w).terms.mask mask) → Looked test n size top first before least
  unfolding is_breaking
  try_last marks sum paid left least limit mask node trying end real has carries = record {
    most = trying.most;
    low = trying.low;
    found = trying.found;
    covers = λ s e broken fits. go s broken (trying.still s e broken fits);
  }
    where
      go : (s : ℕ → Bool) → test (members n s) ≡ true → (least ≤ rank_of n (members n s)) ⊎ Fits marks n s → least ≤ rank_of n (members n s)
      go s broken (inl p) = p
      go s broken (inr fits) = absurd (impossible (fits.only w inside in_set))
        where
          wanted : (w : ℕ) × (w < n) × (rest s (is_chosen marks) w ≡ true) × ((wire_at table w).terms.mask mask ≡ true)
          wanted =
              carrier notion max_shares max_masks (wire_at table) n s (is_chosen marks) (rest s (is_chosen marks))
              (others notion table size top marks sum paid left node s fits) mask
              (((breaks-exactly notion max_shares max_masks (map (wire_at table) (members n s))).0 broken).unmasked mask real)
              (ap (λ (t : Terms). t.mask mask) (sym node.sum_is) ∙ has)

          w : ℕ
          w = wanted.0

          inside : w < n
          inside = wanted.1

          in_set : s w ≡ true
          in_set = and_left (s w) (not (is_chosen marks w)) wanted.2

          impossible : (is_chosen marks w ≡ true) ⊎ (is_open marks w ≡ true) → ⊥
          impossible (inl c) = true≢false (sym (and_right (s w) (not (is_chosen marks w)) wanted.2) ∙ ap not c)
          impossible (inr o) = true≢false (sym o ∙ trying.shut w (subst (λ (k : ℕ). k ≤ w) (sym end) zero-le) inside (carries w ∙ wanted.3))
