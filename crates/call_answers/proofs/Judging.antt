-- The paths of the operations on a table: what each tells, and what its numbers mean, from what the entry promises of the answer.
--     verdict_positive                a refusal's number is not 0
--     same_bit                        a test as a number
--     verdict_holds, verdict_broken
--     range_found
--     dependence_gave
use Prim.Native.Nat.{ℕ, ◌<◌}
use native.Mathlib.Omega.{arith}
use mathlib.Core.Path.{◌≡◌, refl, sym, ◌∙◌, ap, subst}
use mathlib.Core.Logic.{◌⊎◌, inl, inr}
use mathlib.Core.Bool.{Bool, true, false}
use mathlib.Core.List.{List, [], ◌∷◌, map}
use lib.Dec.{eqb}
use Rattle.std.specs.Int.{from_bool}
use Rattle.std.specs.Prelude.{Result, Ok}
use Rattle.basics.specs.Folds.{one_if}
use Rattle.basics.specs.Told.{Lent}
use Rattle.wires.specs.Dependence.{SetDepends}
use Rattle.records.specs.Layout.{wire_at}
use Rattle.table.specs.declared.Refusal as table-refusal
use Rattle.table.specs.Answers as table-answers
use Rattle.verdict_answers.specs.declared.Judged.{Judged}
use Rattle.verdict_answers.specs.declared.Checked.{Checked}
use Rattle.verdict_answers.specs.declared.DependsOn.{DependsOn}
use Rattle.verdict_answers.specs.declared.Refusal.{Refusal}
use Rattle.verdict_answers.specs.Answers.{refusal_number, verdict_told, range_told, dependence_told, notion_of, verdict_of, range_check, set_dependence}
use Rattle.verdict_answers.specs.Guarantee.{Guarantee}
use Rattle.verdict_answers.specs.First.{VerdictFinds, RangeFinds}
use Rattle.verdict_answers.specs.Dependence.{DependenceMeans}
use Rattle.call_answers.specs.Calls.{got, lent_judged}
use Rattle.call_answers.specs.Meaning.{Kept, VerdictSays, VerdictShows, RangeShows, DependenceSays}
use Rattle.call_answers.proofs.Answering.{Numbers, numbers_gave, kept_0}

-- a refusal's number is not 0, so status 0 is no refusal
table_positive : (why : table-refusal.Refusal) → 0 < table-answers.refusal_number why
table_positive table-refusal.TheVariants.SharesOrMasks = omega arith
table_positive table-refusal.TheVariants.TableLength = omega arith
table_positive table-refusal.TheVariants.RecordOutOfRange = omega arith
table_positive table-refusal.TheVariants.NoSuchFunction = omega arith

pub verdict_positive : (why : Refusal) → 0 < refusal_number why
verdict_positive (Refusal.Table why) = table_positive why
verdict_positive Refusal.NoSuchNotion = omega arith
verdict_positive Refusal.OrderOutOfRange = omega arith
verdict_positive Refusal.BufferTooShort = omega arith
verdict_positive Refusal.SizeTooLarge = omega arith
verdict_positive Refusal.RanksOutOfRange = omega arith
verdict_positive Refusal.NotASet = omega arith

-- a test as a number, as the library has it
pub same_bit : (b : Bool) → from_bool b ≡ one_if b
same_bit true = refl
same_bit false = refl

-- ---- the verdict

module _ (table : List ℕ) (shares masks notion order : ℕ) (buffer held : List ℕ) where
  abbrev VerdictPromise : ℕ → ℕ → ℕ → List ℕ → Type 0
  VerdictPromise status holds size before =
      (got status (holds ∷ size ∷ []) held ≡ lent_judged (verdict_of table shares masks notion order buffer) before)
      × (Kept status (holds ∷ size ∷ []) before held buffer
      × (VerdictShows status holds size table shares masks notion order buffer held
      × VerdictSays status holds size table shares masks notion order held))

  module _ (answer : Result Judged Refusal) (told : verdict_told answer held ≡ verdict_of table shares masks notion order buffer)
      (finds : VerdictFinds answer table shares masks notion order buffer held) (guarantee : Guarantee answer table shares masks notion order held)
      (holds-before size-before : ℕ) where
    abbrev before : List ℕ
    before = holds-before ∷ size-before ∷ []

    tells : (of : Result Judged Refusal) → answer ≡ of → lent_judged (verdict_told of held) before ≡ lent_judged (verdict_of table shares masks notion order buffer) before
    tells of e = ap (λ (a : Lent). lent_judged a before) (ap (λ (a : Result Judged Refusal). verdict_told a held) (sym e) ∙ told)

    pub verdict_holds : answer ≡ Ok Judged.Holds → VerdictPromise 0 1 size-before before
    verdict_holds e =
        let exactly = guarantee.holds-exactly (λ why f. let z : ◌≡◌ {A = ℕ} 0 1 = cc in omega (arith, z)) in (
          tells (Ok Judged.Holds) e,
          (
            kept_0 _ _ _ _,
            (
              record { none = λ zero one. finds.holds e; first = λ zero one. absurd (omega (arith, one)) },
              record {
                either = λ zero. inl refl;
                holds-exactly = λ zero. (λ one. exactly.0 e, λ all. refl);
                broken-shows = λ zero one. absurd (omega (arith, one));
              },
            ),
          ),
        )

    pub verdict_broken : (size : ℕ) → answer ≡ Ok (Judged.Broken size) → VerdictPromise 0 0 size before
    verdict_broken size e =
        let exactly = guarantee.holds-exactly (λ why f. let z : ◌≡◌ {A = ℕ} 0 1 = cc in omega (arith, z)) in (
          tells (Ok (Judged.Broken size)) e,
          (
            kept_0 _ _ _ _,
            (
              record { none = λ zero one. absurd (omega (arith, one)); first = λ zero one. finds.broken size e },
              record {
                either = λ zero. inr refl;
                holds-exactly = λ zero. (
                  λ one. absurd (omega (arith, one)),
                  λ all. let h = exactly.1 all in let z : ◌≡◌ {A = ℕ} 0 1 = cc in absurd (omega (arith, z)),
                );
                broken-shows = λ zero one. guarantee.broken-shows size e;
              },
            ),
          ),
        )

-- ---- the range check

module _ (table : List ℕ) (shares masks notion size from to : ℕ) (buffer held : List ℕ) where
  abbrev RangePromise : ℕ → ℕ → ℕ → ℕ → List ℕ → Type 0
  RangePromise status clean found rank before =
      (got status (clean ∷ found ∷ rank ∷ []) held ≡ lent_judged (range_check table shares masks notion size from to buffer) before)
      × (Kept status (clean ∷ found ∷ rank ∷ []) before held buffer
      × RangeShows status clean found rank table shares masks notion size from to buffer held)

  module _ (answer : Result Checked Refusal) (told : range_told answer held ≡ range_check table shares masks notion size from to buffer)
      (finds : RangeFinds answer table shares masks notion size from to buffer held) (clean-before found_before rank-before : ℕ) where
    abbrev range_before : List ℕ
    range_before = clean-before ∷ found_before ∷ rank-before ∷ []

    pub range_found : (found rank : ℕ) → answer ≡ Ok (Checked.Found found rank) → RangePromise 0 0 found rank range_before
    range_found found rank e = (
      ap (λ (a : Lent). lent_judged a range_before) (ap (λ (a : Result Checked Refusal). range_told a held) (sym e) ∙ told),
      (
        kept_0 _ _ _ _,
        record { either = λ zero. inr refl; none = λ zero one. absurd (omega (arith, one)); first = λ zero one. finds.found found rank e },
      ),
    )

module _ (table : List ℕ) (shares masks notion : ℕ) (set : List ℕ) where
  abbrev DependencePromise : ℕ → ℕ → ℕ → ℕ → ℕ → List ℕ → Type 0
  DependencePromise status of_a of_b most bit before =
      Numbers (set_dependence table shares masks notion set) (DependenceSays status of_a of_b most bit table shares masks notion set) status
      (of_a ∷ of_b ∷ most ∷ bit ∷ []) before

  module _ (answer : Result DependsOn Refusal) (told : dependence_told answer ≡ set_dependence table shares masks notion set)
      (means : DependenceMeans answer table shares masks notion set) (a b k m : ℕ) where
    pub dependence_gave : (on : DependsOn) (bit : ℕ) → answer ≡ Ok on → bit ≡ one_if on.masked
        → DependencePromise 0 on.of_a on.of_b on.allowed bit (a ∷ b ∷ k ∷ m ∷ [])
    dependence_gave on bit e f =
        subst (λ (i : ℕ). DependencePromise 0 on.of_a on.of_b on.allowed i (a ∷ b ∷ k ∷ m ∷ [])) (sym f)
        (numbers_gave _ _ _ (on.of_a ∷ on.of_b ∷ on.allowed ∷ one_if on.masked ∷ []) (ap dependence_told (sym e) ∙ told) (record {
          either = λ zero. either on.masked;
          depends = λ zero. subst (λ (x : Bool). SetDepends (notion_of notion) shares masks (map (wire_at table) set) on.of_a on.of_b on.allowed x) (back on.masked)
              (means.depends on e);
          breaks-exactly = λ zero. let exactly = means.breaks-exactly on e in
              (λ h. let r = exactly.0 h in (ap one_if r.0, r.1), λ h. exactly.1 (none on.masked h.0, h.1));
        }))
      where
        either : (x : Bool) → (one_if x ≡ 1) ⊎ (one_if x ≡ 0)
        either true = inl refl
        either false = inr refl

        back : (x : Bool) → x ≡ eqb (one_if x) 1
        back true = refl
        back false = refl

        none : (x : Bool) → one_if x ≡ 0 → x ≡ false
        none true e = absurd (omega (arith, e))
        none false e = refl
