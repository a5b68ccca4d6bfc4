-- The words of `SizeSays` fix the answer: whatever they are true of tells what the definition tells.
--     says_once     two answers of which they are true tell the same
--     says_told     they are true of nothing but what the definition tells
--     never_ten, many-ten     10 is for a description of over 512 wires alone, and for each that is within the limits
use Prim.Native.Nat.{ℕ, suc, ◌+◌, ◌-◌, ◌*◌, ◌≤◌, ◌<◌}
use native.Mathlib.Omega.{arith}
use mathlib.Core.Path.{◌≡◌, refl, sym, ◌∙◌, ap, ap₂, subst}
use mathlib.Core.Bool.{Bool, true, false}
use mathlib.Core.List.{List, [], ◌∷◌}
use borrow.Author.Tests.{ltb-true, ltb-false}
use lib.Dec.{ltb}
use lib.ListN.{length, get_or, replicate, length-replicate}
use lib.Seq.{ext_get_or}
use Rattle.limits.specs.Limits.{max_order, max_wires, record_bytes}
use Rattle.basics.specs.Told.{values}
use Rattle.sets.specs.Answers.{set_count}
use Rattle.description.specs.Run.{Reading, read, turned_down, reading, refusal_number}
use Rattle.description.specs.Grammar.{Description, Spells, Limits, wires_of, mask_count}
use Rattle.description.specs.declared.Listed.{Listed}
use Rattle.description.specs.declared.Refusal.{Refusal}
use Rattle.description.proofs.Exactly.{spelled-read, read-spelled, spelled-limits}
use Rattle.scratch_reader.specs.Answers.{tableless}
use Rattle.reader.specs.Answers.{gives}
use Rattle.reader.proofs.Telling.{tableless-read}
use Rattle.plan_text.specs.Answers.{SizeTold, figures, refused, size_told, size_of, check_size, counted}
use Rattle.plan_text.specs.Says.{Figures, Refuses, SizeSays}
use Rattle.std.specs.Prelude.{Result, Ok, Err}
use Rattle.description.specs.declared.Fault.{Fault}
use Rattle.plan_text.specs.declared.CheckSize.{CheckSize}
use Rattle.plan_text.proofs.Sizing.{sized, down, read_says, refused_says}

-- a table of so many bytes
abbrev table : ℕ → List ℕ
table n = replicate n 0

long : (n : ℕ) → length (table n) ≡ n
long n = length-replicate {A = ℕ} n 0

module _ (text : List ℕ) where
  -- the bytes are the fewest that reading needs
  no_fewer : (s s' : List ℕ) (o h m w b o' h' m' w' b' : ℕ) → Figures text s o h m w b → Figures text s' o' h' m' w' b' → b' ≤ b
  no_fewer s s' o h m w b o' h' m' w' b' f g = go (ltb b b') refl
    where
      go : (c : Bool) → ltb b b' ≡ c → b' ≤ b
      go true e =
          let fewer = ltb-true b b' e in
          let one = f.reads (table b) (omega (arith, long b)) in
          let other = g.short (table b) (omega (arith, long b, fewer)) in
          let both = sym one ∙ other in
          let z : ◌≡◌ {A = ℕ} 0 1 = cc in absurd (omega (arith, z))
      go false e = ltb-false b b' e

  module _ (s s' : List ℕ) (o h m w b o' h' m' w' b' : ℕ) (f : Figures text s o h m w b) (g : Figures text s' o' h' m' w' b') where
    both_read : gives o h m w ≡ gives o' h' m' w'
    both_read = sym (f.reads (table (b + b')) (omega (arith, long (b + b')))) ∙ g.reads (table (b + b')) (omega (arith, long (b + b')))

    same-order : o ≡ o'
    same-order = let e = both_read in cc

    same-figures : figures o h m w b ≡ figures o' h' m' w' b'
    same-figures =
        let e = both_read in
        let x : h ≡ h' = cc in
        let y : m ≡ m' = cc in
        let z : w ≡ w' = cc in
        let same : b ≡ b' = omega (arith, no_fewer s s' o h m w b o' h' m' w' b' f g, no_fewer s' s o' h' m' w' b' o h m w b g f) in
        let v = same-order in
        cc

    -- of each size up to the order, as many sets
    same_count : (k : ℕ) → k < o → get_or s k 0 ≡ get_or s' k 0
    same_count k l =
        let e = both_read in
        let z : w ≡ w' = cc in
        let at : suc k - 1 ≡ k = omega arith in
        let one = f.counts (suc k) (omega arith) (omega (arith, l)) in
        let other = g.counts (suc k) (omega arith) (omega (arith, l, same-order)) in
        let told : values (get_or s (suc k - 1) 0 ∷ []) ≡ values (get_or s' (suc k - 1) 0 ∷ []) =
        sym one ∙ ap (λ (n : ℕ). set_count n (suc k)) z ∙ other in
        let same : get_or s (suc k - 1) 0 ≡ get_or s' (suc k - 1) 0 = cc in
        ap (λ (n : ℕ). get_or s n 0) (sym at) ∙ same ∙ ap (λ (n : ℕ). get_or s' n 0) at

    same-sets : length s ≡ max_order → length s' ≡ max_order → ((k : ℕ) → o ≤ k → get_or s k 0 ≡ 0) → ((k : ℕ) → o' ≤ k → get_or s' k 0 ≡ 0) → s ≡ s'
    same-sets l l' rest rest' = ext_get_or 0 s s' (l ∙ sym l') (λ k inside. go k (ltb k o) refl)
      where
        go : (k : ℕ) (c : Bool) → ltb k o ≡ c → get_or s k 0 ≡ get_or s' k 0
        go k true e = same_count k (ltb-true k o e)
        go k false e =
            let beyond = ltb-false k o e in
            rest k beyond ∙ sym (rest' k (omega (arith, beyond, same-order)))

  not_both : (s : List ℕ) (o h m w b number offset : ℕ) → Figures text s o h m w b → Refuses text number offset → ⊥
  not_both s o h m w b number offset f r =
      let both = sym (f.reads (table b) (omega (arith, long b))) ∙ r.whatever (table b) in
      let z : ◌≡◌ {A = ℕ} 0 1 = cc in omega (arith, z)

  pub says_once : (a a' : Result CheckSize Fault) → SizeSays a text → SizeSays a' text → size_told a ≡ size_told a'
  says_once (Ok a) (Ok a') f g =
      ap₂ (λ (t : SizeTold) (l : List ℕ). record { told = t; sets = l })
      (same-figures a.sets a'.sets a.order a.shares a.masks a.wires a.bytes a'.order a'.shares a'.masks a'.wires a'.bytes f.0 g.0)
      (same-sets a.sets a'.sets a.order a.shares a.masks a.wires a.bytes a'.order a'.shares a'.masks a'.wires a'.bytes f.0 g.0 f.1 g.1 f.2 g.2)
  says_once (Ok a) (Err e) f g = absurd (not_both a.sets a.order a.shares a.masks a.wires a.bytes (refusal_number e.why) e.offset f.0 g.0)
  says_once (Err e) (Ok a) f g = absurd (not_both a.sets a.order a.shares a.masks a.wires a.bytes (refusal_number e.why) e.offset g.0 f.0)
  says_once (Err e) (Err e') f g =
      let both = sym (f.0.whatever []) ∙ g.0.whatever [] in
      let x : refusal_number e.why ≡ refusal_number e'.why = cc in
      let y : e.offset ≡ e'.offset = cc in
      let same : refused (refusal_number e.why) e.offset ≡ refused (refusal_number e'.why) e'.offset = ap₂ refused x y in
      ap₂ (λ (t : SizeTold) (l : List ℕ). record { told = t; sets = l }) same
      (ext_get_or 0 (size_told (Err e)).sets (size_told (Err e')).sets (f.1 ∙ sym g.1) (λ k inside. f.2 k ∙ sym (g.2 k)))

  pub says_told : (a : Result CheckSize Fault) → SizeSays a text → size_told a ≡ check_size text
  says_told a says = go (tableless text (reading text)) refl
    where
      go : (r : Reading) → tableless text (reading text) ≡ r → size_told a ≡ size_of (tableless text (reading text))
      go (turned_down why offset) e = says_once a (down why offset) says (refused_says text why offset e) ∙ ap size_of (sym e)
      go (read order masks ws) e =
          let r = tableless-read text order masks ws e in
          let d = read-spelled text order masks ws r.0 in
          let low : order ≤ max_order = omega (arith, d.same-order, d.spells.order-digit.1) in
          says_once a (sized order (order + 1) masks (length ws) (record_bytes * length ws) (counted (length ws) order)) says
          (read_says text order masks ws r.0 r.1 low)
          ∙ ap size_of (sym e)

  -- "10 here only for over 512 wires": a description of at most as many is never refused with it
  pub never_ten : (why : Refusal) (offset : ℕ) → SizeSays (down why offset) text → refusal_number why ≡ 10
      → (d : Description) → Spells text d → max_wires < length (wires_of d)
  never_ten why offset says ten d spells =
      let o = says.0.ten.0 ten in
      let e = spelled-read text o.description o.spells o.limits in
      let limits = spelled-limits text o.description.order (mask_count o.description.names) (wires_of o.description) e d spells in
      let both = sym e ∙ spelled-read text d spells limits in
      let same : wires_of o.description ≡ wires_of d = cc in
      subst (λ (l : List Listed). max_wires < length l) same o.many

  pub many-ten : (why : Refusal) (offset : ℕ) → SizeSays (down why offset) text
      → (d : Description) → Spells text d → Limits text d → max_wires < length (wires_of d) → refusal_number why ≡ 10
  many-ten why offset says d spells limits many = says.0.ten.1 (record { description = d; spells = spells; limits = limits; many = many })
