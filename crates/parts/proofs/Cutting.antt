-- What a breaking set of least size has in each of its parts: a mask, which a wire outside the part carries.
--     broken                    whether the members of a test break a notion
--     cut                       where a breaking set is cut into two parts and the sum of one has no mask, one of the two breaks
--     part-masked               so each part of a breaking set of least size has a mask, but for none and all of it
--     carrier                   a mask of a part's sum that the set's sum has not is carried by a wire outside the part
use Prim.Native.Nat.{ℕ, ◌+◌, ◌≤◌, ◌<◌}
use native.Mathlib.Decide.{dec_lt}
use native.Mathlib.Omega.{arith}
use mathlib.Core.Path.{◌≡◌, refl, sym, ◌∙◌, ap, ap₂, subst}
use mathlib.Core.Logic.{◌⊎◌, inl, inr}
use mathlib.Core.Bool.{Bool, true, false, cond, xor, true≢false}
use mathlib.Core.List.{map}
use lib.ListN.{length}
use Rattle.basics.specs.Folds.{parity, some, up_to}
use Rattle.basics.proofs.Tests.{false-xor, xor-false}
use Rattle.basics.proofs.Folds.{fold_hom, fold-below, fold_unit, some_where, never, none_below}
use Rattle.wires.specs.declared.Notion.{Notion}
use Rattle.wires.specs.Wires.{Terms, Wire, none, plus, swap, count_a, count_b, masked, breaks}
use Rattle.wires.proofs.Adding.{more_seen}
use Rattle.wires.proofs.Breaks.{breaks-counts}
use Rattle.wires.proofs.Value.{none-plus}
use Rattle.parts.specs.Parts.{members, Parted, NoneBelow}
use Rattle.parts.proofs.Sums.{sum, paid, fold-members, sum-parted, paid_parted, length-parted}

module _ (notion : Notion) (shares masks : ℕ) (wire : ℕ → Wire) (n : ℕ) where
  abbrev pub broken : (ℕ → Bool) → Bool
  broken s = breaks notion shares masks (map wire (members n s))

  module _ (s p q : ℕ → Bool) (parted : Parted n s p q) where
    abbrev whole : sum wire n s ≡ plus (sum wire n p) (sum wire n q)
    whole = sum-parted wire n s p q parted

    abbrev left : Terms
    left = sum wire n p

    abbrev right : Terms
    right = sum wire n q

    -- the other part has no mask either
    none_left : masked masks (sum wire n s) ≡ false → masked masks left ≡ false → masked masks right ≡ false
    unfolding masked
    none_left a b =
        none_below masks right.mask
        (λ k h. sym (false-xor (right.mask k)) ∙ ap (λ (z : Bool). xor z (right.mask k)) (sym (never masks k left.mask b h))
        ∙ ap (λ (t : Terms). t.mask k) (sym whole) ∙ never masks k (sum wire n s).mask a h)

    pub cut : broken s ≡ true → masked masks left ≡ false → (broken p ≡ true) ⊎ (broken q ≡ true)
    cut e free =
        let b = (breaks-counts notion shares masks (map wire (members n s))).0 e in
        go (none_left b.0 free) b.1
      where
        pay : paid wire n notion s ≡ paid wire n notion p + paid wire n notion q
        pay = paid_parted wire n notion s p q parted

        -- of the shares of either operand: as many are seen as in both parts at most, and so one part sees more than it pays for
        over : (seen : Terms → ℕ) → ((t u : Terms) → seen (plus t u) ≤ seen t + seen u) → paid wire n notion s < seen (sum wire n s)
            → (paid wire n notion p < seen left) ⊎ (paid wire n notion q < seen right)
        over seen most h = pick (dec_lt (paid wire n notion p) (seen left))
          where
            both : seen (sum wire n s) ≤ seen left + seen right
            both = subst (λ (t : Terms). seen t ≤ seen left + seen right) (sym whole) (most left right)

            pick : Dec (paid wire n notion p < seen left) → (paid wire n notion p < seen left) ⊎ (paid wire n notion q < seen right)
            pick (yes k) = inl k
            pick (no k) = inr (omega (arith, h, k, pay, both))

        go : masked masks right ≡ false
            → (paid wire n notion s < count_a shares (sum wire n s)) ⊎ (paid wire n notion s < count_b shares (sum wire n s))
            → (broken p ≡ true) ⊎ (broken q ≡ true)
        go none (inl h) = by_a (over (count_a shares) (more_seen shares) h)
          where
            by_a : (paid wire n notion p < count_a shares left) ⊎ (paid wire n notion q < count_a shares right) → (broken p ≡ true) ⊎ (broken q ≡ true)
            by_a (inl k) = inl ((breaks-counts notion shares masks (map wire (members n p))).1 (free, inl k))
            by_a (inr k) = inr ((breaks-counts notion shares masks (map wire (members n q))).1 (none, inl k))
        go none (inr h) = by_b (over (count_b shares) (λ t u. more_seen shares (swap t) (swap u)) h)
          where
            by_b : (paid wire n notion p < count_b shares left) ⊎ (paid wire n notion q < count_b shares right) → (broken p ≡ true) ⊎ (broken q ≡ true)
            by_b (inl k) = inl ((breaks-counts notion shares masks (map wire (members n p))).1 (free, inr k))
            by_b (inr k) = inr ((breaks-counts notion shares masks (map wire (members n q))).1 (none, inr k))

    pub carrier : (k : ℕ) → (sum wire n s).mask k ≡ false → left.mask k ≡ true → (w : ℕ) × (w < n) × (q w ≡ true) × ((wire w).terms.mask k ≡ true)
    carrier k gone has = found (right.mask k) refl
      where
        one_of : xor (left.mask k) (right.mask k) ≡ false
        one_of = ap (λ (t : Terms). t.mask k) (sym whole) ∙ gone

        bit : ℕ → Bool
        bit w = cond (q w) ((wire w).terms.mask k) false

        as_bits : right.mask k ≡ parity bit (up_to n)
        as_bits =
            ap (λ (t : Terms). t.mask k) (fold-members plus none none-plus wire (λ w. w.terms) n q)
            ∙ fold_hom plus none xor false (λ t. t.mask k) refl (λ t u. refl) (λ w. cond (q w) (wire w).terms none) (up_to n)
            ∙ fold-below xor false n (λ w. (cond (q w) (wire w).terms none).mask k) bit (λ w h. each (q w) (wire w).terms)
          where
            each : (b : Bool) (t : Terms) → (cond b t none).mask k ≡ cond b (t.mask k) false
            each true t = refl
            each false t = refl

        some-bit : (b : Bool) → some bit (up_to n) ≡ b → parity bit (up_to n) ≡ true → (w : ℕ) × (w < n) × (q w ≡ true) × ((wire w).terms.mask k ≡ true)
        some-bit true e p = let r = some_where n bit e in let h = both (q r.0) ((wire r.0).terms.mask k) r.2 in (r.0, r.1, h.0, h.1)
          where
            both : (a b : Bool) → cond a b false ≡ true → (a ≡ true) × (b ≡ true)
            both true b e = (refl, e)
            both false b e = absurd (true≢false (sym e))
        some-bit false e p =
            let none : parity bit (up_to n) ≡ false = fold-below xor false n bit (λ w. false) (λ w h. never n w bit e h)
            ∙ fold_unit xor false false-xor (λ w. false) (up_to n) (λ w. refl) in
            absurd (true≢false (sym p ∙ none))

        found : (b : Bool) → right.mask k ≡ b → (w : ℕ) × (w < n) × (q w ≡ true) × ((wire w).terms.mask k ≡ true)
        found true e = some-bit (some bit (up_to n)) refl (sym as_bits ∙ e)
        found false e = absurd (true≢false (sym (ap₂ xor has e ∙ xor-false true) ∙ one_of))

  pub part-masked : (s p q : ℕ → Bool) → Parted n s p q → NoneBelow (λ l. breaks notion shares masks (map wire l)) n (length (members n s))
      → broken s ≡ true → 0 < length (members n p) → 0 < length (members n q) → masked masks (sum wire n p) ≡ true
  unfolding NoneBelow
  part-masked s p q parted least e some-p some-q = go (masked masks (sum wire n p)) refl
    where
      both : length (members n s) ≡ length (members n p) + length (members n q)
      both = length-parted n s p q parted

      neither : (broken p ≡ true) ⊎ (broken q ≡ true) → ⊥
      neither (inl b) = true≢false (sym b ∙ least p (omega (arith, both, some-p, some-q)))
      neither (inr b) = true≢false (sym b ∙ least q (omega (arith, both, some-p, some-q)))

      go : (b : Bool) → masked masks (sum wire n p) ≡ b → b ≡ true
      go true k = refl
      go false k = absurd (neither (cut s p q parted e k))
