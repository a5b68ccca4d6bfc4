-- Marks as the code reads them, and after a change.
--     not_both, not_open, closed-not_open, closed-not_chosen      a wire has one mark
--     read_chosen, read-not_chosen, read_open, read-not_open, read-closed      what the code reads
--     chosen_other, open_other, closed-other                      every mark but the one that is set
--     now_chosen, now_closed, now_open                            the one that is set
--     fits_changed                   what a set must have of a wire, so that it fits after the wire's mark is changed
--     fits_with, fits-without        a set that fits and has an open wire fits with that wire chosen; one that has it not fits with the wire closed
use Prim.Native.Nat.{ℕ, ◌<◌}
use mathlib.Core.Path.{◌≡◌, sym, ◌∙◌, ap}
use mathlib.Core.Logic.{◌⊎◌, inl, inr}
use mathlib.Core.Bool.{Bool, true, false, true≢false}
use mathlib.Core.List.{List}
use borrow.Author.Tests.{eqb-true, eq-eqb, ne_eqb}
use lib.Dec.{eqb}
use lib.ListN.{length, get_or, set}
use lib.Seq.{get_or-set_same, get_or-set_other}
use Rattle.basics.proofs.Numbers.{alike}
use Rattle.choices.specs.Marks.{is_open, is_closed, is_chosen, Fits}

module _ (marks : List ℕ) (w : ℕ) where
  pub not_both : is_open marks w ≡ true → is_chosen marks w ≡ false
  unfolding is_open is_chosen
  not_both e = let z : get_or marks w 0 ≡ 0 = eqb-true (get_or marks w 0) 0 e in ap (λ (m : ℕ). eqb m 2) z

  pub not_open : is_chosen marks w ≡ true → is_open marks w ≡ false
  unfolding is_open is_chosen
  not_open e = let z : get_or marks w 0 ≡ 2 = eqb-true (get_or marks w 0) 2 e in ap (λ (m : ℕ). eqb m 0) z

  pub closed-not_open : is_closed marks w ≡ true → is_open marks w ≡ false
  unfolding is_open is_closed
  closed-not_open e = let z : get_or marks w 0 ≡ 1 = eqb-true (get_or marks w 0) 1 e in ap (λ (m : ℕ). eqb m 0) z

  pub closed-not_chosen : is_closed marks w ≡ true → is_chosen marks w ≡ false
  unfolding is_chosen is_closed
  closed-not_chosen e = let z : get_or marks w 0 ≡ 1 = eqb-true (get_or marks w 0) 1 e in ap (λ (m : ℕ). eqb m 2) z

  -- as the code reads a mark
  pub read_chosen : get_or marks w 0 ≡ 2 → is_chosen marks w ≡ true
  unfolding is_chosen
  read_chosen e = eq-eqb (get_or marks w 0) 2 e

  pub read-not_chosen : (get_or marks w 0 ≡ 2 → ⊥) → is_chosen marks w ≡ false
  unfolding is_chosen
  read-not_chosen e = ne_eqb (get_or marks w 0) 2 e

  pub read_open : get_or marks w 0 ≡ 0 → is_open marks w ≡ true
  unfolding is_open
  read_open e = eq-eqb (get_or marks w 0) 0 e

  pub read-not_open : (get_or marks w 0 ≡ 0 → ⊥) → is_open marks w ≡ false
  unfolding is_open
  read-not_open e = ne_eqb (get_or marks w 0) 0 e

  pub read-closed : get_or marks w 0 ≡ 1 → is_closed marks w ≡ true
  unfolding is_closed
  read-closed e = eq-eqb (get_or marks w 0) 1 e

-- a mark that is set, and the others
module _ (marks : List ℕ) (x mark : ℕ) where
  here : x < length marks → get_or (set marks x mark) x 0 ≡ mark
  here h = get_or-set_same marks x mark 0 h

  module _ (w : ℕ) (apart : w ≡ x → ⊥) where
    other : get_or (set marks x mark) w 0 ≡ get_or marks w 0
    other = get_or-set_other marks x w mark 0 apart

    pub chosen_other : is_chosen (set marks x mark) w ≡ is_chosen marks w
    unfolding is_chosen
    chosen_other = ap (λ (m : ℕ). eqb m 2) other

    pub open_other : is_open (set marks x mark) w ≡ is_open marks w
    unfolding is_open
    open_other = ap (λ (m : ℕ). eqb m 0) other

    pub closed-other : is_closed (set marks x mark) w ≡ is_closed marks w
    unfolding is_closed
    closed-other = ap (λ (m : ℕ). eqb m 1) other

module _ (marks : List ℕ) (x : ℕ) (h : x < length marks) where
  pub now_chosen : is_chosen (set marks x 2) x ≡ true
  unfolding is_chosen
  now_chosen = ap (λ (m : ℕ). eqb m 2) (here marks x 2 h)

  pub now_closed : is_closed (set marks x 1) x ≡ true
  unfolding is_closed
  now_closed = ap (λ (m : ℕ). eqb m 1) (here marks x 1 h)

  pub now_open : is_open (set marks x 0) x ≡ true
  unfolding is_open
  now_open = ap (λ (m : ℕ). eqb m 0) (here marks x 0 h)

-- one mark is changed, and of its wire the set has what it must
fits_changed : (marks : List ℕ) (x mark n : ℕ) (s : ℕ → Bool) → Fits marks n s → (is_chosen (set marks x mark) x ≡ true → s x ≡ true)
    → (s x ≡ true → (is_chosen (set marks x mark) x ≡ true) ⊎ (is_open (set marks x mark) x ≡ true)) → Fits (set marks x mark) n s
fits_changed marks x mark n s fits Has-here Only-here = record { has = λ w b c. has w (alike w x) b c; only = λ w b c. only w (alike w x) b c }
  where
    after : List ℕ
    after = set marks x mark

    has : (w : ℕ) → Dec (w ≡ x) → w < n → is_chosen after w ≡ true → s w ≡ true
    has w (yes p) b c = ap s p ∙ Has-here (ap (is_chosen after) (sym p) ∙ c)
    has w (no p) b c = fits.has w b (sym (chosen_other marks x mark w p) ∙ c)

    only : (w : ℕ) → Dec (w ≡ x) → w < n → s w ≡ true → (is_chosen after w ≡ true) ⊎ (is_open after w ≡ true)
    only w (yes p) b c = move (Only-here (ap s (sym p) ∙ c))
      where
        move : (is_chosen after x ≡ true) ⊎ (is_open after x ≡ true) → (is_chosen after w ≡ true) ⊎ (is_open after w ≡ true)
        move (inl q) = inl (ap (is_chosen after) p ∙ q)
        move (inr q) = inr (ap (is_open after) p ∙ q)
    only w (no p) b c = move (fits.only w b c)
      where
        move : (is_chosen marks w ≡ true) ⊎ (is_open marks w ≡ true) → (is_chosen after w ≡ true) ⊎ (is_open after w ≡ true)
        move (inl q) = inl (chosen_other marks x mark w p ∙ q)
        move (inr q) = inr (open_other marks x mark w p ∙ q)

module _ (marks : List ℕ) (x : ℕ) (h : x < length marks) (n : ℕ) (s : ℕ → Bool) (fits : Fits marks n s) where
  pub fits_with : s x ≡ true → Fits (set marks x 2) n s
  fits_with e = fits_changed marks x 2 n s fits (λ c. e) (λ c. inl (now_chosen marks x h))

  pub fits-without : s x ≡ false → Fits (set marks x 1) n s
  fits-without e =
      fits_changed marks x 1 n s fits (λ c. absurd (true≢false (sym c ∙ closed-not_chosen (set marks x 1) x (now_closed marks x h))))
      (λ c. absurd (true≢false (sym c ∙ e)))
