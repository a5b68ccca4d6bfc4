-- The turns of the loop that gathers the members of a test.
--     Gathered                    the members among the first wires stand at a set's start
--     none_gathered, gather_more, gather_less     before the first turn, after a wire that is a member, and after one that is not
--     gather_room                 there is room for one that is
--     gather_all                  all members are gathered
--     lent-part, part-few, part-rising     the part of the set that holds them, as the rank asks it
use Prim.Native.Nat.{ℕ, ◌+◌, ◌-◌, ◌≤◌, ◌<◌}
use native.Mathlib.Omega.{arith}
use native.Mathlib.Numerals.{add-one}
use mathlib.Core.Path.{◌≡◌, refl, sym, ◌∙◌, ap}
use mathlib.Core.Bool.{Bool, true, false, cond, ◌&&◌}
use lib.Dec.{eqb}
use mathlib.Core.List.{List, [], ◌∷◌, ◌++◌, append-nil}
use lib.ListN.{length, take, set, length-append, length-set}
use lib.Seq.{take-suc-set}
use Rattle.basics.specs.Folds.{up_to}
use Rattle.revolving.specs.Order.{rising, below}
use Rattle.basics.proofs.Tests.{and_right}
use Rattle.parts.specs.Parts.{members}
use Rattle.parts.proofs.Members.{members-last, members_rise, members-is-set}

pub record Gathered (s : ℕ → Bool) (room : ℕ) (held : List ℕ) (size next : ℕ) : Type 0 where
  pub long : length held ≡ room
  pub size_is : size ≡ length (members next s)
  pub held-is : take size held ≡ members next s

pub none_gathered : (s : ℕ → Bool) (held : List ℕ) → Gathered s (length held) held 0 0
unfolding up_to
none_gathered s [] = record { long = refl; size_is = refl; held-is = refl }
none_gathered s (x ∷ held) = record { long = refl; size_is = refl; held-is = refl }

module _ (s : ℕ → Bool) where
  -- with one wire more
  more : (n : ℕ) → s n ≡ true → members (n + 1) s ≡ members n s ++ (n ∷ [])
  more n e = ap (λ (k : ℕ). members k s) (add-one n) ∙ members-last n s ∙ ap (λ (b : Bool). members n s ++ cond b (n ∷ []) []) e

  less : (n : ℕ) → s n ≡ false → members (n + 1) s ≡ members n s
  less n e =
      ap (λ (k : ℕ). members k s) (add-one n) ∙ members-last n s ∙ ap (λ (b : Bool). members n s ++ cond b (n ∷ []) []) e ∙ append-nil (members n s)

  module _ (room : ℕ) (held : List ℕ) (size next : ℕ) (g : Gathered s room held size next) where
    pub gather_room : (n : ℕ) → next < n → length (members n s) ≤ room → s next ≡ true → size < length held
    gather_room n h fits e =
        omega (arith, members_rise s (next + 1) n (omega (arith, h)), ap length (more next e), length-append (members next s) (next ∷ []), g.size_is, g.long, fits)

    pub gather_more : size < length held → s next ≡ true → Gathered s room (set held size next) (size + 1) (next + 1)
    gather_more h e = record {
      long = length-set held size next ∙ g.long;
      size_is = omega (arith, g.size_is, ap length (more next e), length-append (members next s) (next ∷ []));
      held-is = ap (λ (k : ℕ). take k (set held size next)) (add-one size) ∙ take-suc-set held size next h
          ∙ ap (λ (l : List ℕ). l ++ (next ∷ [])) g.held-is ∙ sym (more next e);
    }

    pub gather_less : s next ≡ false → Gathered s room held size (next + 1)
    gather_less e = record { long = g.long; size_is = g.size_is ∙ ap length (sym (less next e)); held-is = g.held-is ∙ sym (less next e) }

    pub gather_all : (n : ℕ) → next ≡ n → take (length (members n s)) held ≡ members n s
    gather_all n e =
        ap (λ (k : ℕ). take (length (members k s)) held) (sym e) ∙ ap (λ (k : ℕ). take k held) (sym g.size_is) ∙ g.held-is
        ∙ ap (λ (k : ℕ). members k s) e

  -- all members, as they are lent
  module _ (n size : ℕ) (held : List ℕ) (gathered : take (length (members n s)) held ≡ members n s) (long : length (members n s) ≡ size) where
    pub lent-part : take (size - 0) held ≡ members n s
    lent-part = let same : size - 0 ≡ length (members n s) = omega (arith, long) in ap (λ (k : ℕ). take k held) same ∙ gathered

    -- they are a set, as the rank asks it
    pub part-few : (most : ℕ) → size ≤ most → length (take (size - 0) held) ≤ most
    part-few most h = omega (arith, ap length lent-part, long, h)

    pub part-rising : (rising (take (size - 0) held) && below n (take (size - 0) held)) ≡ true
    part-rising =
        ap (λ (l : List ℕ). rising l && below n l) lent-part
        ∙ and_right (eqb (length (members n s)) (length (members n s))) (rising (members n s) && below n (members n s)) (members-is-set n s)
