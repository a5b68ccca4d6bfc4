-- How many distinct symbols a list has.
--     amid                    whether a symbol is one of a list
--     distinct seen l         how many distinct symbols of l are not among those seen
--     distinct_append         of a list in two parts, the second after the first
--     distinct-all            all of l are so many as there are names for them, each used once, all used
use Prim.Native.Nat.{ℕ, ◌+◌}
use native.Mathlib.Omega.{arith}
use mathlib.Core.Path.{◌≡◌, refl, sym, ◌∙◌, ap, ap₂}
use mathlib.Core.Bool.{Bool, true, false, cond, ◌||◌, or_assoc, or_comm}
use mathlib.Core.List.{List, [], ◌∷◌, ◌++◌, append-nil}
use borrow.Author.Tests.{eqb-true}
use lib.Dec.{eqb}
use lib.ListN.{length}
use Rattle.basics.specs.Folds.{some, every, count, one_if}
use Rattle.basics.proofs.Tests.{and_left, and_right, or_right}
use Rattle.basics.proofs.Folds.{fold_cong, fold-append, fold_both}
use Rattle.wires.specs.declared.Symbol.{Symbol}
use Rattle.description.specs.Symbols.{spelling}
use Rattle.description.specs.Bytes.{same}
use Rattle.description.specs.Grammar.{same_symbol}
use Rattle.description.proofs.Places.{same_bytes}

-- whether a symbol is one of a list
abbrev pub amid : List Symbol → Symbol → Bool
amid l s = some (same_symbol s) l

abbrev pub distinct : List Symbol → List Symbol → ℕ
distinct seen [] = 0
distinct seen (s ∷ l) = cond (amid seen s) (distinct seen l) (1 + distinct (s ∷ seen) l)

-- a symbol that is spelled as another is one of those that the other is
alike : (u s : Symbol) (l : List Symbol) → same_symbol u s ≡ true → amid l u ≡ amid l s
alike u s l e = ap (λ w. some (λ t. same w (spelling t)) l) (same_bytes (spelling u) (spelling s) e)

-- lists of the same symbols
distinct-same : (k j l : List Symbol) → ((u : Symbol) → amid k u ≡ amid j u) → distinct k l ≡ distinct j l
distinct-same k j [] h = refl
distinct-same k j (s ∷ l) h =
    ap₂ (λ (b : Bool) (n : ℕ). cond b n (1 + distinct (s ∷ k) l)) (h s) (distinct-same k j l h)
    ∙ ap (λ (n : ℕ). cond (amid j s) (distinct j l) (1 + n))
    (distinct-same (s ∷ k) (s ∷ j) l (λ u. ap (λ (b : Bool). same_symbol u s || b) (h u)))

amid_append : (k l : List Symbol) (u : Symbol) → amid (k ++ l) u ≡ (amid k u || amid l u)
amid_append k l u = fold-append ◌||◌ false (λ b. refl) or_assoc (same_symbol u) k l

-- one that is there already
amid_again : (s : Symbol) (l : List Symbol) → amid l s ≡ true → (u : Symbol) → amid (s ∷ l) u ≡ amid l u
amid_again s l old u = go (same_symbol u s) refl
  where
    go : (b : Bool) → same_symbol u s ≡ b → (b || amid l u) ≡ amid l u
    go true e = sym (alike u s l e ∙ old)
    go false e = refl

-- the place of a symbol in a list makes no difference
amid_moved : (s : Symbol) (k l : List Symbol) (u : Symbol) → amid (k ++ (s ∷ l)) u ≡ amid (s ∷ (k ++ l)) u
amid_moved s k l u =
    amid_append k (s ∷ l) u ∙ sym (or_assoc (amid k u) (same_symbol u s) (amid l u)) ∙ ap (λ (b : Bool). b || amid l u) (or_comm (amid k u) (same_symbol u s))
    ∙ or_assoc (same_symbol u s) (amid k u) (amid l u) ∙ ap (λ (b : Bool). same_symbol u s || b) (sym (amid_append k l u))

pub distinct_append : (seen k l : List Symbol) → distinct seen (k ++ l) ≡ distinct seen k + distinct (k ++ seen) l
distinct_append seen [] l = omega arith
distinct_append seen (s ∷ k) l = go (amid seen s) refl (distinct_append seen k l) (distinct_append (s ∷ seen) k l)
  where
    go : (b : Bool) → amid seen s ≡ b → distinct seen (k ++ l) ≡ distinct seen k + distinct (k ++ seen) l
        → distinct (s ∷ seen) (k ++ l) ≡ distinct (s ∷ seen) k + distinct (k ++ (s ∷ seen)) l
        → cond b (distinct seen (k ++ l)) (1 + distinct (s ∷ seen) (k ++ l))
        ≡ cond b (distinct seen k) (1 + distinct (s ∷ seen) k) + distinct (s ∷ (k ++ seen)) l
    go true e old new =
        let more = distinct-same (s ∷ (k ++ seen)) (k ++ seen) l
        (amid_again s (k ++ seen) (amid_append k seen s ∙ or_right (amid k s) (amid seen s) e)) in
        omega (arith, old, more)
    go false e old new = let moved = distinct-same (k ++ (s ∷ seen)) (s ∷ (k ++ seen)) l (amid_moved s k seen) in omega (arith, new, moved)

-- ---- all of them, counted by their names

module _ (all : List Symbol) where
  -- how many of all are in a list
  abbrev held : List Symbol → ℕ
  held l = count (amid l) all

  held_same : (k l : List Symbol) → ((u : Symbol) → amid k u ≡ amid l u) → held k ≡ held l
  held_same k l h = fold_cong ◌+◌ 0 (λ u. one_if (amid k u)) (λ u. one_if (amid l u)) all (λ u. ap (λ (b : Bool). one_if b) (h u))

  -- one that is not there already
  held_more : (s : Symbol) (l : List Symbol) → amid l s ≡ false → count (λ u. same_symbol u s) all ≡ 1 → held (s ∷ l) ≡ 1 + held l
  held_more s l new once =
      fold_cong ◌+◌ 0 (λ u. one_if (amid (s ∷ l) u)) (λ u. one_if (same_symbol u s) + one_if (amid l u)) all (λ u. go u (same_symbol u s) refl)
      ∙ fold_both ◌+◌ 0 (λ n. omega arith) (λ m n. omega arith) (λ k m n. omega arith) (λ u. one_if (same_symbol u s)) (λ u. one_if (amid l u)) all
      ∙ ap (λ (n : ℕ). n + held l) once
    where
      go : (u : Symbol) (b : Bool) → same_symbol u s ≡ b → one_if (b || amid l u) ≡ one_if b + one_if (amid l u)
      go u true e = ap (λ (b : Bool). 1 + one_if b) (sym (alike u s l e ∙ new))
      go u false e = omega arith

  distinct-held : (seen l : List Symbol) → every (λ s. eqb (count (λ u. same_symbol u s) all) 1) l ≡ true
      → distinct seen l + held seen ≡ held (l ++ seen)
  distinct-held seen [] h = omega arith
  distinct-held seen (s ∷ l) h =
      go (amid seen s) refl (distinct-held seen l rest) (distinct-held (s ∷ seen) l rest)
    where
      once : count (λ u. same_symbol u s) all ≡ 1
      once = eqb-true _ 1 (and_left (eqb (count (λ u. same_symbol u s) all) 1) (every (λ s. eqb (count (λ u. same_symbol u s) all) 1) l) h)

      rest : every (λ s. eqb (count (λ u. same_symbol u s) all) 1) l ≡ true
      rest = and_right (eqb (count (λ u. same_symbol u s) all) 1) (every (λ s. eqb (count (λ u. same_symbol u s) all) 1) l) h

      go : (b : Bool) → amid seen s ≡ b → distinct seen l + held seen ≡ held (l ++ seen)
          → distinct (s ∷ seen) l + held (s ∷ seen) ≡ held (l ++ (s ∷ seen))
          → cond b (distinct seen l) (1 + distinct (s ∷ seen) l) + held seen ≡ held (s ∷ (l ++ seen))
      go true e old new =
          old ∙ sym (held_same (s ∷ (l ++ seen)) (l ++ seen) (amid_again s (l ++ seen) (amid_append l seen s ∙ or_right (amid l s) (amid seen s) e)))
      go false e old new =
          let one = held_more s seen e once in
          let moved = held_same (l ++ (s ∷ seen)) (s ∷ (l ++ seen)) (amid_moved s l seen) in
          omega (arith, new, one, moved)

  pub distinct-all : (l : List Symbol) → every (λ s. eqb (count (λ u. same_symbol u s) all) 1) l ≡ true → every (amid l) all ≡ true
      → distinct [] l ≡ length all
  distinct-all l once onto =
      let sum = distinct-held [] l once in
      let none-held = fold-zero all in
      let all_held : held (l ++ []) ≡ length all =
      ap held (append-nil l) ∙ full all onto in
      omega (arith, sum, none-held, all_held)
    where
      fold-zero : (us : List Symbol) → count (amid []) us ≡ 0
      fold-zero [] = refl
      fold-zero (u ∷ us) = let rest = fold-zero us in omega (arith, rest)

      full : (us : List Symbol) → every (amid l) us ≡ true → count (amid l) us ≡ length us
      full [] e = refl
      full (u ∷ us) e =
          let rest = full us (and_right (amid l u) (every (amid l) us) e) in
          let here : one_if (amid l u) ≡ 1 = ap (λ (b : Bool). one_if b) (and_left (amid l u) (every (amid l) us) e) in
          omega (arith, rest, here)
