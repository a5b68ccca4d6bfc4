-- Facts on tests.
--     and_left, and_right, and_both            a conjunction and its parts
--     or_left, or_right, or_cases, or-none     a disjunction and its parts
--     bool_ext                                 two tests that pass together are equal
--     xor-false, false-xor, xor-true, xor_comm, xor_assoc, xor_self, xor_same, xor_cases     bits added without carry
--     xor_two                                  two sums added part by part
--     and_xor, xor-and                         the product of a sum
--     and-cond                                 a conjunction as a choice
--     failed                                   a test that can not pass
use mathlib.Core.Path.{◌≡◌, refl, sym, ◌∙◌, ap}
use mathlib.Core.Logic.{◌⊎◌, inl, inr}
use mathlib.Core.Bool.{Bool, true, false, cond, not, ◌&&◌, ◌||◌, xor, true≢false, false≢true}

pub and_left : (a b : Bool) → (a && b) ≡ true → a ≡ true
and_left true b e = refl
and_left false b e = e

pub and_right : (a b : Bool) → (a && b) ≡ true → b ≡ true
and_right true b e = e
and_right false b e = absurd (true≢false (sym e))

pub and_both : (a b : Bool) → a ≡ true → b ≡ true → (a && b) ≡ true
and_both true b p q = q
and_both false b p q = p

pub or_left : (a b : Bool) → a ≡ true → (a || b) ≡ true
or_left true b p = refl
or_left false b p = absurd (false≢true p)

pub or_right : (a b : Bool) → b ≡ true → (a || b) ≡ true
or_right true b p = refl
or_right false b p = p

pub or_cases : (a b : Bool) → (a || b) ≡ true → (a ≡ true) ⊎ (b ≡ true)
or_cases true b p = inl refl
or_cases false b p = inr p

pub or-none : (a b : Bool) → (a || b) ≡ false → (a ≡ false) × (b ≡ false)
or-none true b p = absurd (true≢false p)
or-none false b p = (refl, p)

pub bool_ext : (a b : Bool) → (a ≡ true → b ≡ true) → (b ≡ true → a ≡ true) → a ≡ b
bool_ext true b f g = sym (f refl)
bool_ext false true f g = g refl
bool_ext false false f g = refl

pub xor-false : (a : Bool) → xor a false ≡ a
unfolding xor
xor-false true = refl
xor-false false = refl

pub false-xor : (a : Bool) → xor false a ≡ a
unfolding xor
false-xor true = refl
false-xor false = refl

pub xor-true : (a : Bool) → xor a true ≡ not a
unfolding xor
xor-true true = refl
xor-true false = refl

pub xor_comm : (a b : Bool) → xor a b ≡ xor b a
unfolding xor
xor_comm true true = refl
xor_comm true false = refl
xor_comm false true = refl
xor_comm false false = refl

pub xor_assoc : (a b c : Bool) → xor (xor a b) c ≡ xor a (xor b c)
unfolding xor
xor_assoc true true true = refl
xor_assoc true true false = refl
xor_assoc true false true = refl
xor_assoc true false false = refl
xor_assoc false true true = refl
xor_assoc false true false = refl
xor_assoc false false true = refl
xor_assoc false false false = refl

pub xor_cases : (a b : Bool) → xor a b ≡ true → (a ≡ true) ⊎ (b ≡ true)
xor_cases true b e = inl refl
xor_cases false b e = inr (sym (false-xor b) ∙ e)

pub xor_self : (a : Bool) → xor a a ≡ false
unfolding xor
xor_self true = refl
xor_self false = refl

-- bits whose sum is 0 are equal
pub xor_same : (a b : Bool) → xor a b ≡ false → a ≡ b
unfolding xor
xor_same true true e = refl
xor_same true false e = e
xor_same false true e = sym e
xor_same false false e = refl

pub xor_two : (a b c d : Bool) → xor (xor a b) (xor c d) ≡ xor (xor a c) (xor b d)
xor_two a b c d =
    xor_assoc a b (xor c d) ∙ ap (xor a) (sym (xor_assoc b c d) ∙ ap (λ (z : Bool). xor z d) (xor_comm b c) ∙ xor_assoc c b d)
    ∙ sym (xor_assoc a c (xor b d))

pub and-cond : (a b : Bool) → (a && b) ≡ cond b a false
and-cond true true = refl
and-cond true false = refl
and-cond false true = refl
and-cond false false = refl

pub xor-and : (a b c : Bool) → (a && xor b c) ≡ xor (a && b) (a && c)
unfolding xor
xor-and true b c = refl
xor-and false b c = refl

pub and_xor : (a b c : Bool) → (xor a b && c) ≡ xor (a && c) (b && c)
unfolding xor
and_xor true true true = refl
and_xor true true false = refl
and_xor true false c = xor_false' c
  where
    xor_false' : (c : Bool) → c ≡ xor c false
    xor_false' true = refl
    xor_false' false = refl
and_xor false true true = refl
and_xor false true false = refl
and_xor false false c = refl

pub failed : (b : Bool) → (b ≡ true → ⊥) → b ≡ false
failed true h = absurd (h refl)
failed false h = refl
