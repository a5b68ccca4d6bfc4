-- The turns of the loop over the highest wire of a set.
--     Rooted                 the wires below the top one are open, all others closed
--     all_closed, next_top   before the first turn, and after a turn
--     root                   the top wire alone is a node
--     Passed                 no set of a size out of the first wires passes a test
--     none_passed, top_done, top_found, all_done     before the first turn, after a turn, where a set is found, after the last turn
use Prim.Native.Nat.{ℕ, zero, suc, ◌+◌, ◌-◌, ◌≤◌, ◌<◌}
use native.Mathlib.Nat.{not-suc-le-zero}
use native.Mathlib.Decide.{dec_lt}
use native.Mathlib.Omega.{arith}
use native.Mathlib.Numerals.{add-one}
use mathlib.Core.Path.{◌≡◌, refl, sym, ◌∙◌, ap, subst}
use mathlib.Core.Logic.{◌⊎◌, inl, inr}
use mathlib.Core.Bool.{Bool, true, false, true≢false}
use mathlib.Core.List.{List, map}
use Rattle.std.proofs.Common.{None}
use borrow.Author.Tests.{eq-eqb, ne_eqb}
use lib.Dec.{eqb}
use lib.ListN.{length, set, replicate, length-set, length-replicate, get_or-replicate}
use lib.Seq.{set-set}
use Rattle.limits.specs.Limits.{max_wires}
use Rattle.basics.specs.Folds.{one_if}
use Rattle.basics.proofs.Numbers.{alike}
use Rattle.counts.specs.Counts.{binom}
use Rattle.counts.proofs.Binomial.{binom-none, binom_wider}
use Rattle.revolving.specs.Order.{set_at, rank_of}
use Rattle.revolving.proofs.Rising.{is_set-parts}
use Rattle.revolving.proofs.Revolving.{set_at-is-set, rank_of-set}
use Rattle.wires.specs.declared.Notion.{Notion}
use Rattle.wires.specs.Wires.{pays, total, allowed}
use Rattle.records.specs.declared.sums.Sum.{Sum}
use Rattle.records.specs.Layout.{wire_at, wire_count, terms_of}
use Rattle.parts.specs.Parts.{members}
use Rattle.parts.proofs.Members.{keep-below}
use Rattle.parts.proofs.Ranks.{rank-within, test_at}
use Rattle.parts.proofs.Sums.{sum_one, paid_one, length-one}
use Rattle.choices.specs.Marks.{is_open, is_closed, is_chosen, Fits}
use Rattle.descent.specs.Nodes.{Node, Looked}
use Rattle.choices.proofs.Marking.{not_both, closed-not_chosen, chosen_other, open_other, closed-other, now_chosen, now_open, read-closed}
use Rattle.directed_search.specs.Least.{ShowsLeast, LeastRank}

pub record Rooted (top : ℕ) (marks : List ℕ) : Type 0 where
  pub room : length marks ≡ max_wires
  pub lower : (w : ℕ) → w < top → is_open marks w ≡ true
  pub upper : (w : ℕ) → top ≤ w → w < max_wires → is_closed marks w ≡ true

pub all_closed : Rooted 0 (replicate max_wires 1)
all_closed = record {
  room = length-replicate {A = ℕ} max_wires 1;
  lower = λ w h. absurd (not-suc-le-zero h);
  upper = λ w a b. read-closed (replicate max_wires 1) w (get_or-replicate {A = ℕ} max_wires w 1 0 b);
}

module _ (top : ℕ) (marks : List ℕ) (rooted : Rooted top marks) (in-limit : top < max_wires) where
  fits : top < length marks
  fits = omega (arith, in-limit, rooted.room)

  pub next_top : Rooted (top + 1) (set (set marks top 2) top 0)
  next_top = subst (Rooted (top + 1)) (sym (set-set marks top 2 0)) (record {
    room = length-set marks top 0 ∙ rooted.room;
    lower = λ w h. go w h (alike w top);
    upper = λ w a b. closed-other marks top 0 w (λ e. omega (arith, e, a)) ∙ rooted.upper w (omega (arith, a)) b;
  })
    where
      go : (w : ℕ) → w < top + 1 → Dec (w ≡ top) → is_open (set marks top 0) w ≡ true
      go w h (yes p) = ap (is_open (set marks top 0)) p ∙ now_open marks top fits
      go w h (no p) = open_other marks top 0 w p ∙ rooted.lower w (omega (arith, h, p))

  -- the top wire alone is chosen
  alone : (w : ℕ) → w < max_wires → is_chosen (set marks top 2) w ≡ eqb w top
  alone w h = go (alike w top) (dec_lt w top)
    where
      go : Dec (w ≡ top) → Dec (w < top) → is_chosen (set marks top 2) w ≡ eqb w top
      go (yes p) d = ap (is_chosen (set marks top 2)) p ∙ now_chosen marks top fits ∙ sym (eq-eqb w top p)
      go (no p) (yes q) = chosen_other marks top 2 w p ∙ not_both marks w (rooted.lower w q) ∙ sym (ne_eqb w top p)
      go (no p) (no q) = chosen_other marks top 2 w p ∙ closed-not_chosen marks w (rooted.upper w (omega (arith, q)) h) ∙ sym (ne_eqb w top p)

  module _ (notion : Notion) (table : List ℕ) (size : ℕ) (few : wire_count table ≤ max_wires) (below : top < wire_count table) where
    abbrev n : ℕ
    n = wire_count table

    only_top : members n (is_chosen (set marks top 2)) ≡ members n (λ w. eqb w top)
    only_top = keep-below n (is_chosen (set marks top 2)) (λ w. eqb w top) (λ w h. alone w (omega (arith, h, few)))

    pub root : (sum : Sum) (paid : ℕ) → 0 < size → terms_of sum ≡ (wire_at table top).terms → paid ≡ one_if (pays notion (wire_at table top))
        → Node notion table size top (set marks top 2) sum paid (size - 1)
    root sum paid some read paying = record {
      room = length-set marks top 2 ∙ rooted.room;
      top_in = below;
      top_chosen = now_chosen marks top fits;
      above = λ w a b. closed-other marks top 2 w (λ e. omega (arith, e, a)) ∙ rooted.upper w (omega (arith, a)) (omega (arith, b, few));
      sum_is = read ∙ sym (sum_one (wire_at table) n top below) ∙ ap (λ (l : List ℕ). total (map (wire_at table) l)) (sym only_top);
      paid_is = paying ∙ sym (paid_one (wire_at table) n top below notion)
          ∙ ap (λ (l : List ℕ). allowed notion (map (wire_at table) l)) (sym only_top);
      size_is = omega (arith, ap length only_top, length-one n top below, some);
    }

    -- a set with the top wire and none above it fits
    root_fits : (s : ℕ → Bool) → ((w : ℕ) → suc top ≤ w → s w ≡ false) → s top ≡ true → Fits (set marks top 2) n s
    root_fits s none has = record { has = λ w b c. has_top w b c; only = λ w b c. only w b c (alike w top) (dec_lt w top) }
      where
        has_top : (w : ℕ) → w < n → is_chosen (set marks top 2) w ≡ true → s w ≡ true
        has_top w b c = go (alike w top)
          where
            go : Dec (w ≡ top) → s w ≡ true
            go (yes p) = ap s p ∙ has
            go (no p) = absurd (true≢false (sym c ∙ alone w (omega (arith, b, few)) ∙ ne_eqb w top p))

        only : (w : ℕ) → w < n → s w ≡ true → Dec (w ≡ top) → Dec (w < top) → (is_chosen (set marks top 2) w ≡ true) ⊎ (is_open (set marks top 2) w ≡ true)
        only w b c (yes p) d = inl (ap (is_chosen (set marks top 2)) p ∙ now_chosen marks top fits)
        only w b c (no p) (yes q) = inr (open_other marks top 2 w p ∙ rooted.lower w q)
        only w b c (no p) (no q) = absurd (true≢false (sym c ∙ none w (omega (arith, p, q))))

pub record Passed (test : List ℕ → Bool) (n size top : ℕ) : Type 0 where
  pub clean : (i : ℕ) → i < binom top size → test (set_at n size i) ≡ false

pub none_passed : (test : List ℕ → Bool) (n size : ℕ) → 0 < size → Passed test n size 0
none_passed test n zero some = absurd (not-suc-le-zero some)
none_passed test n (suc k) some = record { clean = λ i h. absurd (not-suc-le-zero (subst (λ (m : ℕ). i < m) (binom-none k) h)) }

module _ (test : List ℕ → Bool) (notion : Notion) (table : List ℕ) (size top : ℕ) (marks : List ℕ) (rooted : Rooted top marks)
    (few : wire_count table ≤ max_wires) (below : top < wire_count table) (passed : Passed test (wire_count table) size top) (none least : ℕ)
    (all : none ≡ binom (wire_count table) size) (looked : Looked test (wire_count table) size top (set marks top 2) none least) where
  wider : binom (suc top) size ≤ binom (wire_count table) size
  wider = binom_wider (suc top) (wire_count table) size below

  up_to : (i : ℕ) → i < binom (suc top) size → i < least → test (set_at (wire_count table) size i) ≡ false
  up_to i h less = go (dec_lt i (binom top size))
    where
      go : Dec (i < binom top size) → test (set_at (wire_count table) size i) ≡ false
      go (yes p) = passed.clean i p
      go (no p) = pick (test (set_at (wire_count table) size i)) refl
        where
          t : (s : ℕ → Bool) × (members (wire_count table) s ≡ set_at (wire_count table) size i) × ((w : ℕ) → suc top ≤ w → s w ≡ false)
          t = test_at (wire_count table) size (suc top) i below h

          long : length (members (wire_count table) t.0) ≡ size
          long =
              ap length t.1
              ∙ (is_set-parts (wire_count table) size (set_at (wire_count table) size i)
              (set_at-is-set (wire_count table) size i (omega (arith, h, wider)))).0

          rank : rank_of (wire_count table) (members (wire_count table) t.0) ≡ i
          rank = ap (rank_of (wire_count table)) t.1 ∙ rank_of-set (wire_count table) size i (omega (arith, h, wider))

          impossible : (b : Bool) → t.0 top ≡ b → test (set_at (wire_count table) size i) ≡ true → ⊥
          impossible true has e =
              let low = looked.covers t.0 long (ap test t.1 ∙ e)
              (root_fits top marks rooted (omega (arith, below, few)) notion table size few below t.0 t.2 has) in
              omega (arith, low, rank, less)
          impossible false has e =
              let low = rank-within (wire_count table) size top t.0 (omega (arith, below)) (λ w a b. out w a (alike w top)) long in
              omega (arith, low, rank, p)
            where
              out : (w : ℕ) → top ≤ w → Dec (w ≡ top) → t.0 w ≡ false
              out w a (yes q) = ap t.0 q ∙ has
              out w a (no q) = t.2 w (omega (arith, a, q))

          pick : (b : Bool) → test (set_at (wire_count table) size i) ≡ b → b ≡ false
          pick true e = absurd (impossible (t.0 top) refl e)
          pick false e = refl

  pub top_done : none ≤ least → Passed test (wire_count table) size (top + 1)
  top_done nothing = record {
    clean = λ i h. let at : i < binom (suc top) size = subst (λ (k : ℕ). i < binom k size) (add-one top) h in
        up_to i at (omega (arith, at, wider, nothing, all));
  }

  pub top_found : least < none → ShowsLeast test (wire_count table) size least
  top_found less = record {
    within = omega (arith, less, all);
    found = looked.found less;
    earlier = λ i h. up_to i (omega (arith, h, looked.low less)) h;
  }

pub all_done : (test : List ℕ → Bool) (n size top : ℕ) → Passed test n size top → n ≤ top → top ≤ n → LeastRank test n size None
all_done test n size top passed low high i h =
    let e : n ≡ top = omega (arith, low, high) in passed.clean i (subst (λ (k : ℕ). i < binom k size) e h)
