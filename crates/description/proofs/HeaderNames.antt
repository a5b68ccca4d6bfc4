-- The names in the second header line, as they are spelled and as they are read.
--     names_text, names_length     names parted by a comma and a space, with the bracket that closes the list and what follows; their length
--     masks_with             the masks when names were read
--     names-read            names, none twice, are read from their spelling
--     NamesSpelled, names-spelled     what is read as names is spelled so
use Rattle.std.specs.Prelude.{Option, Some, None}
use Prim.Native.Nat.{ℕ, zero, suc, ◌+◌, ◌^◌, ◌≤◌, ◌<◌}
use native.Mathlib.Nat.{not-suc-le-zero}
use native.Mathlib.Omega.{arith}
use mathlib.Core.Path.{◌≡◌, refl, sym, ◌∙◌, ap, ap₂}
use mathlib.Core.Bool.{Bool, true, false, cond, not, ◌&&◌}
use mathlib.Core.List.{List, [], ◌∷◌, ◌++◌, append-nil, append_assoc}
use borrow.Author.Tests.{leb-true, le-leb, eqb-true, not-true}
use lib.Bits.{bit_xor}
use lib.Dec.{eqb, leb}
use lib.ListN.{length, drop, length-append, length-drop}
use lib.Seq.{drop-drop, drop_at}
use Rattle.basics.specs.Folds.{every}
use Rattle.basics.proofs.Tests.{and_left, and_right, and_both}
use Rattle.records.specs.Words.{bit}
use Rattle.description.specs.Bytes.{space, comma, bracket, ended}
use Rattle.description.specs.Symbols.{max_mask, name_length, mask_name, mask_at}
use Rattle.description.specs.Header.{masks_of, closed, larger, parted, NameStep, next, ends, after_name, named_step, name_step, names_from}
use Rattle.description.specs.Grammar.{further-names}
use Rattle.description.specs.declared.Masks.{Masks}
use Rattle.description.proofs.Numbers.{word_with, count_with_lem, fresh_in_lem}
use Rattle.description.proofs.Names.{name_length_lem, digit_here, name_read, NameAt, read_name}

-- ---- laws of the reading

names_passed : (word count at pass : ℕ) (l : List ℕ) → names_from word count at pass l ≡ names_from word count (at + pass) 0 (drop pass l)
unfolding names_from
names_passed word count at zero l = let e : at ≡ at + 0 = omega arith in ap (λ (x : ℕ). names_from word count x 0 l) e
names_passed word count at (suc pass) [] = refl
names_passed word count at (suc pass) (c ∷ l) =
    let e : at + 1 + pass ≡ at + suc pass = omega arith in
    names_passed word count (at + 1) pass l ∙ ap (λ (x : ℕ). names_from word count x 0 (drop pass l)) e

module _ (word count at : ℕ) where
  names-next : (l : List ℕ) (w n pass : ℕ) → name_step word count at l ≡ next w n pass
      → names_from word count at 0 l ≡ names_from w n (at + suc pass) 0 (drop (suc pass) l)
  unfolding names_from
  names-next [] w n pass e = let z : ◌≡◌ {A = ℕ} 0 1 = cc in absurd (omega (arith, z))
  names-next (c ∷ l) w n pass e =
      let place : at + 1 + pass ≡ at + suc pass = omega arith in
      ap (λ (x : NameStep). elim x [ next w n pass ↦ names_from w n (at + 1) pass l | ends line ↦ line ]) e
      ∙ names_passed w n (at + 1) pass l ∙ ap (λ (x : ℕ). names_from w n x 0 (drop pass l)) place

  names-ends : (l : List ℕ) (line : Option Masks) → name_step word count at l ≡ ends line → names_from word count at 0 l ≡ line
  unfolding names_from
  names-ends [] line e = cc
  names-ends (c ∷ l) line e = ap (λ (x : NameStep). elim x [ next w n pass ↦ names_from w n (at + 1) pass l | ends line ↦ line ]) e

  -- a name that is new, and what follows it
  name_step_lem : (k : ℕ) (l : List ℕ) → k ≤ max_mask → bit word k ≡ false → digit_here l ≡ false
      → name_step word count at (mask_name k ++ l) ≡ after_name (bit_xor word (2 ^ k)) (larger count (k + 1)) at (name_length k) l
  name_step_lem k l low new e =
      ap (named_step word count at (mask_name k ++ l)) (name_read k l low e)
      ∙ rw new (ap (after_name (bit_xor word (2 ^ k)) (larger count (k + 1)) at (name_length k)) (drop_at (mask_name k) l (name_length k) (name_length_lem k)))

-- ---- names, as they are spelled, are read

abbrev pub names_text : ℕ → List ℕ → List ℕ → List ℕ
names_text k ks rest = mask_name k ++ (further-names ks ++ (bracket ∷ rest))

abbrev pub names_length : ℕ → List ℕ → ℕ
names_length k ks = length (mask_name k ++ further-names ks)

-- the masks when the names k and ks are read from place `at` on
abbrev pub masks_with : ℕ → ℕ → ℕ → ℕ → List ℕ → Masks
masks_with word count at k ks = masks_of (word_with word (k ∷ ks)) (count_with_lem count (k ∷ ks)) (at + names_length k ks + 1)

one-length : (k : ℕ) → names_length k [] ≡ name_length k
one-length k = ap length (append-nil (mask_name k)) ∙ name_length_lem k

more_length : (k n : ℕ) (ks : List ℕ) → names_length k (n ∷ ks) ≡ name_length k + (names_length n ks + 2)
more_length k n ks =
    let sum = length-append (mask_name k) (further-names (n ∷ ks)) in
    let name = name_length_lem k in
    omega (arith, sum, name)

-- past a name of `size` bytes, a comma and a space
past_comma : (size : ℕ) (l t : List ℕ) → drop size l ≡ comma ∷ space ∷ t → drop (suc (size + 1)) l ≡ t
past_comma size l t e =
    let two : suc (size + 1) ≡ size + 2 = omega arith in
    ap (λ (x : ℕ). drop x l) two ∙ sym (drop-drop 2 size l) ∙ ap (drop 2) e

closing-step : (word count at size : ℕ) (rest : List ℕ) → ended rest ≡ true
    → after_name word count at size (bracket ∷ rest) ≡ ends (Some (masks_of word count (at + size + 1)))
closing-step word count at size [] e = refl
closing-step word count at size (c ∷ rest) e = rw e refl

pub names-read : (ks : List ℕ) (k word count at : ℕ) (rest : List ℕ) → every (λ k. leb k max_mask) (k ∷ ks) ≡ true → fresh_in_lem word (k ∷ ks) ≡ true
    → ended rest ≡ true → names_from word count at 0 (names_text k ks rest) ≡ Some (masks_with word count at k ks)
names-read [] k word count at rest low new e =
    let first = leb-true k max_mask (and_left (leb k max_mask) true low) in
    let unset = not-true (bit word k) (and_left (not (bit word k)) true new) in
    names-ends word count at (names_text k [] rest) (Some (masks_of (bit_xor word (2 ^ k)) (larger count (k + 1)) (at + name_length k + 1)))
    (name_step_lem word count at k (bracket ∷ rest) first unset refl
    ∙ closing-step (bit_xor word (2 ^ k)) (larger count (k + 1)) at (name_length k) rest e)
    ∙ ap (λ (x : ℕ). Some (masks_of (bit_xor word (2 ^ k)) (larger count (k + 1)) (at + x + 1))) (sym (one-length k))
names-read (n ∷ ks) k word count at rest low new e =
    let w : ℕ = bit_xor word (2 ^ k) in
    let first = leb-true k max_mask (and_left (leb k max_mask) (every (λ k. leb k max_mask) (n ∷ ks)) low) in
    let unset = not-true (bit word k) (and_left (not (bit word k)) (fresh_in_lem w (n ∷ ks)) new) in
    let tail : List ℕ = further-names (n ∷ ks) ++ (bracket ∷ rest) in
    let here : drop (name_length k) (mask_name k ++ tail) ≡ tail = drop_at (mask_name k) tail (name_length k) (name_length_lem k) in
    let parted-names = append_assoc (mask_name n) (further-names ks) (bracket ∷ rest) in
    let place : at + suc (name_length k + 1) + names_length n ks + 1 ≡ at + names_length k (n ∷ ks) + 1 = omega (arith, more_length k n ks) in
    names-next word count at (mask_name k ++ tail) w (larger count (k + 1)) (name_length k + 1) (name_step_lem word count at k tail first unset refl)
    ∙ ap (λ l. names_from w (larger count (k + 1)) (at + suc (name_length k + 1)) 0 l)
    (past_comma (name_length k) (mask_name k ++ tail) ((mask_name n ++ further-names ks) ++ (bracket ∷ rest)) here ∙ parted-names)
    ∙ names-read ks n w (larger count (k + 1)) (at + suc (name_length k + 1)) rest (and_right (leb k max_mask) (every (λ k. leb k max_mask) (n ∷ ks)) low)
    (and_right (not (bit word k)) (fresh_in_lem w (n ∷ ks)) new) e
    ∙ ap (λ (x : ℕ). Some (masks_of (word_with word (k ∷ n ∷ ks)) (count_with_lem count (k ∷ n ∷ ks)) x)) place

-- ---- what is read as names

pub record NamesSpelled (word count at : ℕ) (l : List ℕ) (m : Masks) : Type 0 where
  pub first : ℕ
  pub others : List ℕ
  pub rest : List ℕ
  pub low : every (λ k. leb k max_mask) (first ∷ others) ≡ true
  pub new : fresh_in_lem word (first ∷ others) ≡ true
  pub spelled : l ≡ names_text first others rest
  pub line-end : ended rest ≡ true
  pub masks : m ≡ masks_with word count at first others

module _ (word count at : ℕ) (l : List ℕ) (m : Masks) (k : ℕ) (name : NameAt l k) (unset : bit word k ≡ false) where
  low_name : leb k max_mask ≡ true
  low_name = le-leb k max_mask name.low

  new_name : not (bit word k) ≡ true
  new_name = ap not unset

  -- the last name
  last-spelled : (t : List ℕ) → drop (name_length k) l ≡ t
      → closed (bit_xor word (2 ^ k)) (larger count (k + 1)) (at + name_length k) t ≡ Some m → NamesSpelled word count at l m
  last-spelled [] e d = let z : ◌≡◌ {A = ℕ} 0 1 = cc in absurd (omega (arith, z))
  last-spelled (c ∷ rest) e d = go (eqb c bracket && ended rest) refl d
    where
      go : (b : Bool) → (eqb c bracket && ended rest) ≡ b
          → cond b (Some (masks_of (bit_xor word (2 ^ k)) (larger count (k + 1)) (at + name_length k + 1))) None
          ≡ Some m
          → NamesSpelled word count at l m
      go false q d = let z : ◌≡◌ {A = ℕ} 0 1 = cc in absurd (omega (arith, z))
      go true q d =
          let closes = eqb-true c bracket (and_left (eqb c bracket) (ended rest) q) in
          let read : m ≡ masks_of (bit_xor word (2 ^ k)) (larger count (k + 1)) (at + name_length k + 1) = cc in
          record {
            first = k;
            others = [];
            rest = rest;
            low = and_both (leb k max_mask) true low_name refl;
            new = and_both (not (bit word k)) true new_name refl;
            spelled = name.here ∙ ap (λ t. mask_name k ++ t) (e ∙ ap {B = List ℕ} (λ x. x ∷ rest) closes);
            line-end = and_right (eqb c bracket) (ended rest) q;
            masks = read ∙ ap (λ (x : ℕ). masks_of (bit_xor word (2 ^ k)) (larger count (k + 1)) (at + x + 1)) (sym (one-length k));
          }

  -- a name and others after it
  more_spelled : (t : List ℕ) → drop (name_length k) l ≡ comma ∷ space ∷ t
      → NamesSpelled (bit_xor word (2 ^ k)) (larger count (k + 1)) (at + suc (name_length k + 1)) t m → NamesSpelled word count at l m
  more_spelled t e r =
      let w : ℕ = bit_xor word (2 ^ k) in
      let place : at + suc (name_length k + 1) + names_length r.first r.others + 1 ≡ at + names_length k (r.first ∷ r.others) + 1 =
      omega (arith, more_length k r.first r.others) in
      record {
        first = k;
        others = r.first ∷ r.others;
        rest = r.rest;
        low = and_both (leb k max_mask) (every (λ k. leb k max_mask) (r.first ∷ r.others)) low_name r.low;
        new = and_both (not (bit word k)) (fresh_in_lem w (r.first ∷ r.others)) new_name r.new;
        spelled =
            name.here
            ∙ ap (λ t. mask_name k ++ t)
            (e
            ∙ ap {B = List ℕ} (λ t. comma ∷ space ∷ t)
            (r.spelled ∙ sym (append_assoc (mask_name r.first) (further-names r.others) (bracket ∷ r.rest))));
        line-end = r.line-end;
        masks = r.masks ∙ ap (λ (x : ℕ). masks_of (word_with word (k ∷ r.first ∷ r.others)) (count_with_lem count (k ∷ r.first ∷ r.others)) x) place;
      }

parted_by : (t : List ℕ) → parted t ≡ true → (s : List ℕ) × (t ≡ comma ∷ space ∷ s)
parted_by [] e = let z : ◌≡◌ {A = ℕ} 0 1 = cc in absurd (omega (arith, z))
parted_by (c ∷ []) e = let z : ◌≡◌ {A = ℕ} 0 1 = cc in absurd (omega (arith, z))
parted_by (c ∷ d ∷ s) e =
    let first = eqb-true c comma (and_left (eqb c comma) (eqb d space) e) in
    let second = eqb-true d space (and_right (eqb c comma) (eqb d space) e) in
    (s, ap₂ {C = List ℕ} (λ x y. x ∷ y ∷ s) first second)

-- by a bound on the length
names-within : (size : ℕ) (l : List ℕ) (word count at : ℕ) (m : Masks) → length l < size
    → names_from word count at 0 l ≡ Some m → NamesSpelled word count at l m
names-within zero l word count at m h e = absurd (not-suc-le-zero h)
names-within (suc size) l word count at m h e = named (mask_at l) refl (names-within size)
  where
    wrong : name_step word count at l ≡ ends None → NamesSpelled word count at l m
    wrong s = let f = names-ends word count at l None s in let z : ◌≡◌ {A = ℕ} 0 1 = cc in absurd (omega (arith, z))

    named : (a : Option ℕ) → mask_at l ≡ a
        → ((t : List ℕ) (word count at : ℕ) (m : Masks) → length t < size → names_from word count at 0 t ≡ Some m
        → NamesSpelled word count at t m)
        → NamesSpelled word count at l m
    named None q again = wrong (ap (named_step word count at l) q)
    named (Some k) q again = set (bit word k) refl
      where
        w : ℕ
        w = bit_xor word (2 ^ k)

        n : ℕ
        n = larger count (k + 1)

        here : NameAt l k
        here = read_name l k q

        tail : List ℕ
        tail = drop (name_length k) l

        follows : bit word k ≡ false → name_step word count at l ≡ after_name w n at (name_length k) tail → (b : Bool) → parted tail ≡ b
            → NamesSpelled word count at l m
        follows unset step false p =
            let s : name_step word count at l ≡ ends (closed w n (at + name_length k) tail) = step ∙ rw p refl in
            last-spelled word count at l m k here unset tail refl (sym (names-ends word count at l (closed w n (at + name_length k) tail) s) ∙ e)
        follows unset step true p =
            let t = parted_by tail p in
            let s : name_step word count at l ≡ next w n (name_length k + 1) = step ∙ rw p refl in
            let two : length tail ≡ suc (suc (length t.0)) = ap length t.1 in
            let shorter : length t.0 < size = omega (arith, h, two, length-drop (name_length k) l) in
            more_spelled word count at l m k here unset t.0 t.1
            (again t.0 w n (at + suc (name_length k + 1)) m shorter
            (ap (names_from w n (at + suc (name_length k + 1)) 0) (sym (past_comma (name_length k) l t.0 t.1))
            ∙ sym (names-next word count at l w n (name_length k + 1) s) ∙ e))

        set : (b : Bool) → bit word k ≡ b → NamesSpelled word count at l m
        set true b = wrong (ap (named_step word count at l) q ∙ rw b refl)
        set false b = follows b (ap (named_step word count at l) q ∙ rw b refl) (parted tail) refl

pub names-spelled : (l : List ℕ) (word count at : ℕ) (m : Masks) → names_from word count at 0 l ≡ Some m
    → NamesSpelled word count at l m
names-spelled l word count at m = names-within (suc (length l)) l word count at m (omega arith)
