-- Which operand leaks.
--     means                        what an answer means follows from what it tells
--     told-exactly                 which values are told of a set that no test turns down: just those that mean this
--     counts_leak                  of any set without masks: an operand leaks whose count is above what is allowed
--     first_leaks                  what is told of the first breaking set, in the watcher's words
--     shown_leaks                  and so of the set that a verdict shows, whatever is lent to it
use Prim.Native.Nat.{ℕ, ◌<◌}
use native.Mathlib.Omega.{arith}
use mathlib.Core.Path.{◌≡◌, refl, sym, ◌∙◌, ap, ap₂, subst}
use mathlib.Core.Logic.{◌↔◌, ◌⊎◌, inl, inr}
use mathlib.Core.Bool.{Bool, true, false}
use mathlib.Core.List.{List, [], ◌∷◌, map}
use lib.ListN.{length, take, length-map}
use Rattle.std.specs.Prelude.{Result, Ok}
use Rattle.basics.specs.Folds.{one_if}
use Rattle.basics.specs.Told.{Told, values}
use Rattle.wires.specs.declared.Notion.{Notion}
use Rattle.wires.specs.Wires.{Wire, total, count_a, count_b, masked, allowed, breaks}
use Rattle.wires.specs.Dependence.{SetDepends}
use Rattle.wires.proofs.Breaks.{breaks-counts}
use Rattle.wires.proofs.Changes.{set-depends, depends-once}
use Rattle.watcher.proofs.Bits.{pick, pick_map}
use Rattle.watcher.proofs.Choice.{exceeds_leaks_a, exceeds_leaks_b, leaks_a, leaks_b}
use Rattle.records.specs.Layout.{wire_at, wire_count}
use Rattle.table.specs.Answers.{table_check}
use Rattle.table.proofs.Conditions.{accepted_exactly}
use Rattle.breaking.specs.Breaking.{is_breaking}
use Rattle.verdict_answers.specs.declared.Refusal.{Refusal}
use Rattle.verdict_answers.specs.declared.Judged.{Judged}
use Rattle.verdict_answers.specs.declared.DependsOn.{DependsOn}
use Rattle.verdict_answers.specs.Answers.{dependence_told, notion_of, verdict_of, set_dependence}
use Rattle.verdict_answers.specs.Conditions.{WrongNotion}
use Rattle.verdict_answers.specs.First.{NotAfter, FirstBreaking}
use Rattle.verdict_answers.specs.Dependence.{SetAsked, DependenceMeans, LeaksA, LeaksB, Leaking}
use Rattle.verdict_answers.proofs.Conditions.{verdict_ordered, dependence_asked, dependence_answered}
use Rattle.verdict_answers.proofs.Watching.{pick_watched}
use Rattle.verdict_answers.proofs.Finds.{verdict_finds}

one-or-none : (x y : Bool) → one_if x ≡ one_if y → x ≡ y
one-or-none true true e = refl
one-or-none false false e = refl
one-or-none true false e = absurd (omega (arith, e))
one-or-none false true e = absurd (omega (arith, e))

-- ---- what an answer means

module _ (table : List ℕ) (shares masks notion : ℕ) (set : List ℕ) where
  abbrev v : List Wire
  v = map (wire_at table) set

  abbrev kind : Notion
  kind = notion_of notion

  abbrev Counted : ℕ → ℕ → ℕ → Bool → Type 0
  Counted of_a of_b most left =
      (count_a shares (total v) ≡ of_a) × (count_b shares (total v) ≡ of_b) × (allowed kind v ≡ most) × (masked masks (total v) ≡ left)

  counted : (of_a of_b most : ℕ) (left : Bool) → values (of_a ∷ of_b ∷ most ∷ one_if left ∷ []) ≡ set_dependence table shares masks notion set
      → Counted of_a of_b most left
  counted of_a of_b most left e =
      let asked = (dependence_asked table shares masks notion set).0 (of_a ∷ of_b ∷ most ∷ one_if left ∷ [], sym e) in
      let f = e ∙ dependence_answered table shares masks notion set asked in
      let a : count_a shares (total v) ≡ of_a = cc in
      let b : count_b shares (total v) ≡ of_b = cc in
      let k : allowed kind v ≡ most = cc in
      let m : one_if (masked masks (total v)) ≡ one_if left = cc in
      (a, b, k, one-or-none (masked masks (total v)) left m)

  depends : (of_a of_b most : ℕ) (left : Bool) → Counted of_a of_b most left → SetDepends kind shares masks v of_a of_b most left
  depends of_a of_b most left c =
      subst (λ (a : ℕ). SetDepends kind shares masks v a of_b most left) c.0
      (subst (λ (b : ℕ). SetDepends kind shares masks v (count_a shares (total v)) b most left) c.1
      (subst (λ (k : ℕ). SetDepends kind shares masks v (count_a shares (total v)) (count_b shares (total v)) k left) c.2
      (subst (λ (m : Bool). SetDepends kind shares masks v (count_a shares (total v)) (count_b shares (total v)) (allowed kind v) m) c.3
      (set-depends shares masks v kind))))

  by_counts : (of_a of_b most : ℕ) (left : Bool) → Counted of_a of_b most left
      → (is_breaking kind table shares masks set ≡ true) ↔ ((left ≡ false) × ((most < of_a) ⊎ (most < of_b)))
  unfolding is_breaking
  by_counts of_a of_b most left c =
      let exactly = breaks-counts kind shares masks v in (
        λ e. let h = exactly.0 e in (sym c.3 ∙ h.0, there h.1),
        λ h. exactly.1 (c.3 ∙ h.0, back h.1),
      )
    where
      there : (allowed kind v < count_a shares (total v)) ⊎ (allowed kind v < count_b shares (total v)) → (most < of_a) ⊎ (most < of_b)
      there (inl h) = inl (omega (arith, h, c.0, c.2))
      there (inr h) = inr (omega (arith, h, c.1, c.2))

      back : (most < of_a) ⊎ (most < of_b) → (allowed kind v < count_a shares (total v)) ⊎ (allowed kind v < count_b shares (total v))
      back (inl h) = inl (omega (arith, h, c.0, c.2))
      back (inr h) = inr (omega (arith, h, c.1, c.2))

  pub means : (answer : Result DependsOn Refusal) → dependence_told answer ≡ set_dependence table shares masks notion set
      → DependenceMeans answer table shares masks notion set
  means answer e =
      let told : (on : DependsOn) → answer ≡ Ok on → Counted on.of_a on.of_b on.allowed on.masked =
      λ on f. counted on.of_a on.of_b on.allowed on.masked (ap dependence_told (sym f) ∙ e) in record {
        depends = λ on f. depends on.of_a on.of_b on.allowed on.masked (told on f);
        breaks-exactly = λ on f. by_counts on.of_a on.of_b on.allowed on.masked (told on f);
      }

  pub told-exactly : SetAsked table shares masks notion set → (of_a of_b most : ℕ) (left : Bool)
      → (set_dependence table shares masks notion set ≡ values (of_a ∷ of_b ∷ most ∷ one_if left ∷ []))
      ↔ SetDepends kind shares masks v of_a of_b most left
  told-exactly asked of_a of_b most left = (
    λ e. depends of_a of_b most left (counted of_a of_b most left (sym e)),
    λ d. let s = total v in
        let same = depends-once shares masks v (count_a shares s) (count_b shares s) (allowed kind v) of_a of_b most (masked masks s) left kind
        (set-depends shares masks v kind) d in
        dependence_answered table shares masks notion set asked
        ∙ ap₂ (λ (i j : ℕ). values (i ∷ j ∷ allowed kind v ∷ one_if (masked masks s) ∷ [])) same.0 same.1
        ∙ ap₂ (λ (i : ℕ) (x : Bool). values (of_a ∷ of_b ∷ i ∷ one_if x ∷ [])) same.2 same.3,
  )

-- ---- which operand leaks

pub counts_leak : (table : List ℕ) (shares masks notion : ℕ) (set : List ℕ) (of_a of_b most : ℕ)
    → set_dependence table shares masks notion set ≡ values (of_a ∷ of_b ∷ most ∷ 0 ∷ [])
    → (most < of_a → LeaksA table shares masks notion set) × (most < of_b → LeaksB table shares masks notion set)
counts_leak table shares masks notion set of_a of_b most e =
    let c = counted table shares masks notion set of_a of_b most false (sym e) in
    let v = map (wire_at table) set in (
      λ more. exceeds_leaks_a (notion_of notion) shares masks v c.3 (omega (arith, more, c.0, c.2)),
      λ more. exceeds_leaks_b (notion_of notion) shares masks v c.3 (omega (arith, more, c.1, c.2)),
    )

-- ---- the set that a verdict shows

module _ (table : List ℕ) (shares masks notion order : ℕ) (sound : values [] ≡ table_check table shares masks) (known : WrongNotion notion → ⊥)
    (high : order < shares) (set : List ℕ) (shown : FirstBreaking table shares masks notion order set) where
  abbrev w : List Wire
  w = map (wire_at table) set

  exceeding : (masked masks (total w) ≡ false)
      × ((allowed (notion_of notion) w < count_a shares (total w)) ⊎ (allowed (notion_of notion) w < count_b shares (total w)))
  unfolding is_breaking
  exceeding = (breaks-counts (notion_of notion) shares masks w).0 shown.breaking

  -- a smaller part would be shown before it
  smaller : (l : List Bool) → length (pick l w) < length w → breaks (notion_of notion) shares masks (pick l w) ≡ false
  unfolding is_breaking
  smaller l less = go (is_breaking (notion_of notion) table shares masks (pick l set)) refl
    where
      shorter : length (pick l set) < length set
      shorter =
          omega (arith, less, length-map set (wire_at table), length-map (pick l set) (wire_at table), ap length (pick_map (wire_at table) l set))

      not_after : NotAfter (wire_count table) set (pick l set) → ⊥
      not_after (inl h) = omega (arith, h, shorter)
      not_after (inr h) = omega (arith, h.0, shorter)

      go : (b : Bool) → is_breaking (notion_of notion) table shares masks (pick l set) ≡ b → breaks (notion_of notion) shares masks (pick l w) ≡ false
      go false e = ap (breaks (notion_of notion) shares masks) (sym (pick_map (wire_at table) l set)) ∙ e
      go true e = absurd (not_after (shown.first (pick l set) (pick_watched table order l set shown.watched) e))

  pub first_leaks : Leaking table shares masks notion set
  first_leaks = record {
    of_a = count_a shares (total w);
    of_b = count_b shares (total w);
    most = allowed (notion_of notion) w;
    told = dependence_answered table shares masks notion set asked
        ∙ ap (λ (b : Bool). values (count_a shares (total w) ∷ count_b shares (total w) ∷ allowed (notion_of notion) w ∷ one_if b ∷ [])) exceeding.0;
    by_a = leaks_a (notion_of notion) shares masks w exceeding.0 smaller;
    by_b = leaks_b (notion_of notion) shares masks w exceeding.0 smaller;
    one = exceeding.1;
  }
    where
      asked : SetAsked table shares masks notion set
      asked = record {
        sound = sound;
        known = known;
        small = omega (arith, shown.watched.few, high, ((accepted_exactly table shares masks).0 sound).high);
        distinct = shown.watched.distinct;
        within = shown.watched.within;
      }

pub shown_leaks : (table : List ℕ) (shares masks notion order : ℕ) (buffer : List ℕ) (size : ℕ)
    → (verdict_of table shares masks notion order buffer).told ≡ values (size ∷ [])
    → Leaking table shares masks notion (take size (verdict_of table shares masks notion order buffer).held)
shown_leaks table shares masks notion order buffer size e =
    let answer = verdict_of table shares masks notion order buffer in
    let o = (verdict_ordered table shares masks notion order buffer).0 (size ∷ [], e) in
    let finds = verdict_finds table shares masks notion order buffer answer.held (Ok (Judged.Broken size))
    (ap (λ (t : Told). record { told = t; held = answer.held }) (sym e)) in
    first_leaks table shares masks notion order o.sound o.known o.high (take size answer.held) (finds.broken size refl).1
