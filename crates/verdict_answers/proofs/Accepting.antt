-- Back from an answer to the list of breaking sets that it shows.
--     written_front, written-rest          a written set and what lies past it
--     shown-nil, shown-parts, shown-set    what a verdict's answer says of that list: it is empty, or it begins with the set
--     ranked-nil, ranked-parts, ranked-set     and what a range check's says
use Prim.Native.Nat.{ℕ}
use native.Mathlib.Omega.{arith}
use mathlib.Core.Path.{◌≡◌, refl, sym, ◌∙◌, ap, ap₂}
use mathlib.Core.List.{List, [], ◌∷◌}
use lib.ListN.{length, take, drop}
use lib.Seq.{take-append_seam, drop-append_seam}
use Rattle.std.specs.Prelude.{Ok}
use Rattle.basics.specs.Told.{Lent, values}
use Rattle.revolving.specs.Order.{rank_of}
use Rattle.verdict_answers.specs.declared.Judged.{Judged}
use Rattle.verdict_answers.specs.declared.Checked.{Checked}
use Rattle.verdict_answers.specs.Answers.{verdict_told, range_told, written, first_shown, first_ranked}
use Rattle.verdict_answers.specs.Jobs.{found, broken}

module _ (buffer : List ℕ) where
  -- a written set and what lies past it, by the set's size
  pub written_front : (size : ℕ) (held s : List ℕ) → size ≡ length s → held ≡ written s buffer → take size held ≡ s
  written_front size held s long e = ap₂ {C = List ℕ} take long e ∙ take-append_seam s (drop (length s) buffer)

  pub written-rest : (size : ℕ) (held s : List ℕ) → size ≡ length s → held ≡ written s buffer → drop size held ≡ drop size buffer
  written-rest size held s long e =
      ap₂ {C = List ℕ} drop long e ∙ drop-append_seam s (drop (length s) buffer) ∙ ap (λ (i : ℕ). drop i buffer) (sym long)

  -- sets of one length that begin equal buffers are equal
  same_set : (s t : List ℕ) → length s ≡ length t → written s buffer ≡ written t buffer → s ≡ t
  same_set s t long e = sym (written_front (length s) (written s buffer) s refl refl) ∙ written_front (length s) (written s buffer) t long e

  pub shown-nil : (l : List (List ℕ)) → (first_shown l buffer).told ≡ values [] → l ≡ []
  shown-nil [] e = refl
  shown-nil (s ∷ later) e = let z : ◌≡◌ {A = ℕ} 0 1 = cc in absurd (omega (arith, z))

  pub shown-parts : (size : ℕ) (held : List ℕ) (l : List (List ℕ)) → verdict_told (Ok (Judged.Broken size)) held ≡ first_shown l buffer
      → (s : List ℕ) × (later : List (List ℕ)) × (l ≡ s ∷ later) × (size ≡ length s) × (held ≡ written s buffer)
  shown-parts size held [] e = let f = ap (λ (a : Lent). a.told) e in let z : ◌≡◌ {A = ℕ} 0 1 = cc in absurd (omega (arith, z))
  shown-parts size held (s ∷ later) e =
      let f = ap (λ (a : Lent). a.told) e in
      let long : size ≡ length s = cc in
      (s, later, refl, long, ap (λ (a : Lent). a.held) e)

  pub shown-set : (l : List (List ℕ)) (s : List ℕ) → first_shown l buffer ≡ broken s buffer → (later : List (List ℕ)) × (l ≡ s ∷ later)
  shown-set l s e =
      let r = shown-parts (length s) (written s buffer) l (sym e) in
      (r.1, r.2 ∙ ap {B = List (List ℕ)} (λ u. u ∷ r.1) (sym (same_set s r.0 r.3 r.4)))

  pub ranked-nil : (n : ℕ) (l : List (List ℕ)) → (first_ranked n l buffer).told ≡ values [] → l ≡ []
  ranked-nil n [] e = refl
  ranked-nil n (s ∷ later) e = let z : ◌≡◌ {A = ℕ} 0 1 = cc in absurd (omega (arith, z))

  pub ranked-parts : (n size rank : ℕ) (held : List ℕ) (l : List (List ℕ)) → range_told (Ok (Checked.Found size rank)) held ≡ first_ranked n l buffer
      → (s : List ℕ) × (later : List (List ℕ)) × (l ≡ s ∷ later) × (size ≡ length s) × (rank ≡ rank_of n s) × (held ≡ written s buffer)
  ranked-parts n size rank held [] e = let f = ap (λ (a : Lent). a.told) e in let z : ◌≡◌ {A = ℕ} 0 1 = cc in absurd (omega (arith, z))
  ranked-parts n size rank held (s ∷ later) e =
      let f = ap (λ (a : Lent). a.told) e in
      let long : size ≡ length s = cc in
      let place : rank ≡ rank_of n s = cc in
      (s, later, refl, long, place, ap (λ (a : Lent). a.held) e)

  pub ranked-set : (n : ℕ) (l : List (List ℕ)) (s : List ℕ) (rank : ℕ) → first_ranked n l buffer ≡ found s rank buffer
      → (later : List (List ℕ)) × (l ≡ s ∷ later) × (rank ≡ rank_of n s)
  ranked-set n l s rank e =
      let r = ranked-parts n (length s) rank (written s buffer) l (sym e) in
      let same : r.0 ≡ s = sym (same_set s r.0 r.3 r.5) in
      (r.1, r.2 ∙ ap {B = List (List ℕ)} (λ u. u ∷ r.1) same, r.4 ∙ ap (rank_of n) same)
