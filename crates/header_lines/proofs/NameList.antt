-- The names of the second header line, from a place of the text on.
--     not-parted-short, parted-fits      no comma and a space: too few bytes; they are within the text
--     no_more-names, no_name, twice      a wrong line: its end where a name has to stand, no name there, one that was given before
--     larger_max                         the larger of two numbers is the library's greatest
--     with_mask                          the declared masks, and one more
--     last_name, next_name               a name after which the list ends, after which another has to stand
use Rattle.std.specs.Prelude.{Some, None}
use Prim.Native.Nat.{ℕ, zero, suc, max, ◌+◌, ◌-◌, ◌*◌, ◌/◌, ◌%◌, ◌^◌, ◌≤◌, ◌<◌}
use native.Mathlib.Nat.{not-suc-le-zero, le_of_suc-le-suc, mod-eq_of_lt}
use native.Mathlib.Omega.{arith}
use mathlib.Core.Path.{◌≡◌, refl, sym, ◌∙◌, ap}
use mathlib.Core.Bool.{Bool, true, false, cond, false≢true}
use mathlib.Core.List.{List, [], ◌∷◌}
use borrow.Author.Tests.{eq-eqb, ne_eqb, ltb-true, ltb-false}
use lib.Bits.{bit_xor}
use lib.Dec.{ltb}
use lib.ListN.{length, drop, drop_of_length-le, length-drop}
use lib.Pow.{pow-lt}
use lib.Seq.{drop-drop}
use Rattle.records.specs.Words.{bit}
use Rattle.description.specs.Symbols.{name_length, mask_at}
use Rattle.description.specs.Header.{closed, larger, parted, NameStep, next, ends, after_name, named_step, name_step, names_from}
use Rattle.description.proofs.Running.{drop_byte}
use Rattle.symbol_tokens.proofs.MaskNames.{name_within}

module _ (text : List ℕ) (at : ℕ) where
  pub not-parted-short : length text - at < 2 → parted (drop at text) ≡ false
  not-parted-short h = short (drop at text) (omega (arith, h, length-drop at text))
    where
      short : (l : List ℕ) → length l < 2 → parted l ≡ false
      short [] h = refl
      short (c ∷ []) h = refl
      short (c ∷ d ∷ l) h = absurd (omega (arith, h))

pub parted-fits : (text : List ℕ) (at : ℕ) → parted (drop at text) ≡ true → at + 2 ≤ length text
parted-fits text at e = omega (arith, two (drop at text) e, length-drop at text)
  where
    two : (l : List ℕ) → parted l ≡ true → 2 ≤ length l
    two [] e = absurd (false≢true e)
    two (c ∷ []) e = absurd (false≢true e)
    two (c ∷ d ∷ l) e = omega arith

-- ---- a turn over the names

-- one mask more, its bit as the code shifts it
abbrev pub with_mask : ℕ → ℕ → ℕ
with_mask declared k = bit_xor declared (1 * 2 ^ k % 18446744073709551616)

one_bit : (k : ℕ) → k < 64 → 1 * 2 ^ k % 18446744073709551616 ≡ 2 ^ k
one_bit k h = let e : 1 * 2 ^ k ≡ 2 ^ k = omega arith in ap (λ (x : ℕ). x % 18446744073709551616) e ∙ mod-eq_of_lt (pow-lt h)

pub larger_max : (m n : ℕ) → max m n ≡ larger m n
larger_max m n = go (ltb m n) refl
  where
    go : (b : Bool) → ltb m n ≡ b → max m n ≡ cond {A = ℕ} b n m
    go true e = omega (arith, ltb-true m n e)
    go false e = omega (arith, ltb-false m n e)

names_passed : (declared count at pass : ℕ) (l : List ℕ) → pass ≤ length l
    → names_from declared count at pass l ≡ names_from declared count (at + pass) 0 (drop pass l)
unfolding names_from
names_passed declared count at zero l h = let e : at ≡ at + 0 = omega arith in ap (λ (k : ℕ). names_from declared count k 0 l) e
names_passed declared count at (suc pass) [] h = absurd (not-suc-le-zero h)
names_passed declared count at (suc pass) (c ∷ l) h =
    let e : at + 1 + pass ≡ at + suc pass = omega arith in
    names_passed declared count (at + 1) pass l (le_of_suc-le-suc h) ∙ ap (λ (k : ℕ). names_from declared count k 0 (drop pass l)) e

module _ (text : List ℕ) (declared count at : ℕ) where
  pub no_more-names : length text ≤ at → names_from declared count at 0 (drop at text) ≡ None
  unfolding names_from
  no_more-names h = ap (names_from declared count at 0) (drop_of_length-le text h)

  module _ (inside : at < length text) where
    turn : (s : NameStep) → name_step declared count at (drop at text) ≡ s
        → names_from declared count at 0 (drop at text)
        ≡ elim s [ next d m pass ↦ names_from d m (at + 1) pass (drop (at + 1) text) | ends line ↦ line ]
    unfolding names_from
    turn s e =
        ap (λ l. names_from declared count at 0 l) (drop_byte text at inside)
        ∙ ap
        (λ (x : NameStep).
        elim x [ next d m pass ↦ names_from d m (at + 1) pass (drop (at + 1) text) | ends line ↦ line ])
        (ap (name_step declared count at) (sym (drop_byte text at inside)) ∙ e)

    pub no_name : mask_at (drop at text) ≡ None → names_from declared count at 0 (drop at text) ≡ None
    no_name e = turn (ends None) (ap (named_step declared count at (drop at text)) e)

    module _ (k : ℕ) (e : mask_at (drop at text) ≡ Some k) where
      pub twice : declared / 2 ^ k % 2 ≡ 1 → names_from declared count at 0 (drop at text) ≡ None
      unfolding bit
      twice b = turn (ends None) (ap (named_step declared count at (drop at text)) e ∙ simp (eq-eqb (declared / 2 ^ k % 2) 1 b))

      module _ (new : declared / 2 ^ k % 2 ≡ 1 → ⊥) (size m : ℕ) (v : size ≡ name_length k) (w : m ≡ larger count (k + 1)) where
        declares : name_step declared count at (drop at text) ≡ after_name (with_mask declared k) m at size (drop (at + size) text)
        unfolding bit
        declares =
            let fresh : named_step declared count at (drop at text) (Some k)
            ≡ after_name (bit_xor declared (2 ^ k)) (larger count (k + 1)) at (name_length k) (drop (name_length k) (drop at text))
            = simp (ne_eqb (declared / 2 ^ k % 2) 1 new)
            in
            ap (named_step declared count at (drop at text)) e ∙ fresh
            ∙ ap
            (λ (l : List ℕ). after_name (bit_xor declared (2 ^ k)) (larger count (k + 1)) at (name_length k) l)
            (drop-drop (name_length k) at text)
            ∙ ap (λ (s : ℕ). after_name (bit_xor declared (2 ^ k)) (larger count (k + 1)) at s (drop (at + s) text)) (sym v)
            ∙ ap
            (λ (x : ℕ). after_name (bit_xor declared x) (larger count (k + 1)) at size (drop (at + size) text))
            (sym (one_bit k (name_within (drop at text) k e).below))
            ∙ ap (λ (x : ℕ). after_name (with_mask declared k) x at size (drop (at + size) text)) (sym w)

        pub last_name : parted (drop (at + size) text) ≡ false
            → names_from declared count at 0 (drop at text) ≡ closed (with_mask declared k) m (at + size) (drop (at + size) text)
        last_name p =
            turn (ends (closed (with_mask declared k) m (at + size) (drop (at + size) text)))
            (declares
            ∙ ap
            (λ (b : Bool).
            cond b (next (with_mask declared k) m (size + 1)) (ends (closed (with_mask declared k) m (at + size) (drop (at + size) text))))
            p)

        pub next_name : parted (drop (at + size) text) ≡ true
            → names_from declared count at 0 (drop at text) ≡ names_from (with_mask declared k) m (at + size + 2) 0 (drop (at + size + 2) text)
        next_name p =
            let room : size + 1 ≤ length (drop (at + 1) text) = omega (arith, parted-fits text (at + size) p, length-drop (at + 1) text) in
            let there : at + 1 + (size + 1) ≡ at + size + 2 = omega arith in
            turn (next (with_mask declared k) m (size + 1))
            (declares
            ∙ ap
            (λ (b : Bool).
            cond b (next (with_mask declared k) m (size + 1)) (ends (closed (with_mask declared k) m (at + size) (drop (at + size) text))))
            p)
            ∙ names_passed (with_mask declared k) m (at + 1) (size + 1) (drop (at + 1) text) room
            ∙ ap (λ (l : List ℕ). names_from (with_mask declared k) m (at + 1 + (size + 1)) 0 l) (drop-drop (size + 1) (at + 1) text)
            ∙ ap (λ (p : ℕ). names_from (with_mask declared k) m p 0 (drop p text)) there
