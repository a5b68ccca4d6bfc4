-- Demand 3: the search by breaking sets answers the question about what a watcher can learn.
--     chosen_watched, set-watched, watched-set     a set to watch is a set of a size up to the order
--     pick_watched                 a part of a set to watch is one to watch
--     of_size_lem, each_size, each-searched     what holds of every set that is searched holds of every set of a size up to the order
--     all_whole                    where the search finds nothing, no set to watch breaks
--     all_choose                   and then every set to watch has a choice of shares
--     shown-none                   the first breaking set is one to watch, and has none
--     guarantee_holds, guarantee_broken     what the guarantee says of each answer
--     holds, broken, refused       and that each answer has it
use Prim.Native.Nat.{ℕ, zero, suc, ◌≤◌, ◌<◌}
use native.Mathlib.Nat.{le_refl, le_of_suc-le-suc, eq-or-lt_of_le, not-suc-le-zero}
use native.Mathlib.Omega.{arith}
use mathlib.Core.Path.{◌≡◌, refl, sym, ◌∙◌, ap, subst}
use mathlib.Core.Logic.{◌↔◌, ◌⊎◌, inl, inr}
use mathlib.Core.Bool.{Bool, true, false, cond, true≢false}
use mathlib.Core.List.{List, [], ◌∷◌, map}
use lib.ListN.{length, take}
use Rattle.std.specs.Prelude.{Ok, Err}
use Rattle.basics.specs.Folds.{keep}
use Rattle.basics.proofs.Tests.{and_left, and_right, and_both}
use Rattle.wires.specs.Wires.{breaks}
use Rattle.wires.proofs.Breaks.{empty-breaks-nothing}
use Rattle.watcher.proofs.Bits.{pick, pick_map}
use Rattle.watcher.proofs.Choice.{choice, no_choice}
use Rattle.records.specs.Layout.{wire_at, wire_count}
use Rattle.revolving.specs.Order.{revolving, set_at, rank_of, rising, below, is_set}
use Rattle.revolving.proofs.Rising.{Chosen, chosen_true, chosen_is, rising_chosen, is_set-parts, parts-is_set}
use Rattle.revolving.proofs.Revolving.{revolving-length, set_at-is-set, set_of_rank}
use Rattle.verdict_answers.specs.declared.Refusal.{Refusal}
use Rattle.verdict_answers.specs.declared.Judged.{Judged}
use Rattle.breaking.specs.Breaking.{is_breaking}
use Rattle.search.specs.Search.{searched}
use Rattle.verdict_answers.specs.Answers.{notion_of}
use Rattle.verdict_answers.specs.Guarantee.{Watched, HasChoice, Shown, Guarantee}
use Rattle.search.proofs.Keeping.{Each, each_place, at_place, each_append, each-parts, keep-first, keep-none}
use Rattle.search.proofs.Sizes.{searched-none, searched-suc}

-- ---- sets to watch

module _ (table : List ℕ) where
  abbrev n : ℕ
  n = wire_count table

  pub chosen_watched : (order : ℕ) (s : List ℕ) → Chosen 0 n s → length s ≤ order → Watched table order s
  chosen_watched order s c few =
      let e = rising_chosen n s ∙ chosen_is 0 n s c in
      record { distinct = and_left (rising s) (below n s) e; within = and_right (rising s) (below n s) e; few = few }

  watched_chosen : (order : ℕ) (s : List ℕ) → Watched table order s → Chosen 0 n s
  watched_chosen order s w = chosen_true 0 n s (sym (rising_chosen n s) ∙ and_both (rising s) (below n s) w.distinct w.within)

  pub set-watched : (order k : ℕ) (s : List ℕ) → is_set n k s ≡ true → k ≤ order → Watched table order s
  set-watched order k s e h = let p = is_set-parts n k s e in chosen_watched order s p.1 (omega (arith, p.0))

  pub watched-set : (order : ℕ) (s : List ℕ) → Watched table order s → is_set n (length s) s ≡ true
  watched-set order s w = parts-is_set n (length s) s refl (and_both (rising s) (below n s) w.distinct w.within)

  lower : (a b m : ℕ) (s : List ℕ) → a ≤ b → Chosen b m s → Chosen a m s
  lower a b m [] h c = tt
  lower a b m (x ∷ s) h c = (omega (arith, c.0), c.1, c.2)

  chosen_pick : (a m : ℕ) (l : List Bool) (s : List ℕ) → Chosen a m s → Chosen a m (pick l s) × (length (pick l s) ≤ length s)
  chosen_pick a m [] s c = (tt, omega arith)
  chosen_pick a m (b ∷ l) [] c = (tt, omega arith)
  chosen_pick a m (b ∷ l) (x ∷ s) c = go b (chosen_pick (suc x) m l s c.2)
    where
      go : (b : Bool) → Chosen (suc x) m (pick l s) × (length (pick l s) ≤ length s)
          → Chosen a m (cond b (x ∷ pick l s) (pick l s)) × (length (cond b (x ∷ pick l s) (pick l s)) ≤ suc (length s))
      go true r = ((c.0, c.1, r.0), omega (arith, r.1))
      go false r = (lower a (suc x) m (pick l s) (omega (arith, c.0)) r.0, omega (arith, r.1))

  -- a part of a set to watch is one to watch
  pub pick_watched : (order : ℕ) (l : List Bool) (s : List ℕ) → Watched table order s → Watched table order (pick l s)
  pick_watched order l s w =
      let r = chosen_pick 0 n l s (watched_chosen order s w) in
      chosen_watched order (pick l s) r.0 (omega (arith, r.1, w.few))

-- ---- what is searched

module _ (n : ℕ) where
  -- every set of a size is found at its rank
  pub of_size_lem : (P : List ℕ → Type 0) (k : ℕ) → Each P (revolving n k) → (s : List ℕ) → is_set n k s ≡ true → P s
  of_size_lem P k each s e =
      let there = set_of_rank n k s e in
      subst P there.1 (at_place P (revolving n k) [] each (rank_of n s) (omega (arith, there.0, revolving-length n k)))

  -- and every size up to the order is searched
  pub each_size : (P : List ℕ → Type 0) (t k : ℕ) → suc k ≤ t → Each P (searched n t) → Each P (revolving n (suc k))
  each_size P zero k h each = absurd (not-suc-le-zero h)
  each_size P (suc t) k h each =
      go (eq-or-lt_of_le h) (each-parts P (searched n t) (revolving n (suc t)) (subst (Each P) (searched-suc n t) each)) (each_size P t k)
    where
      go : (suc k ≡ suc t) ⊎ (suc k < suc t) → Each P (searched n t) × Each P (revolving n (suc t))
          → (suc k ≤ t → Each P (searched n t) → Each P (revolving n (suc k)))
          → Each P (revolving n (suc k))
      go (inl e) p ih = subst (λ (m : ℕ). Each P (revolving n m)) (sym e) p.1
      go (inr l) p ih = ih (le_of_suc-le-suc l) p.0

  pub each-searched : (P : List ℕ → Type 0) (t : ℕ) → ((k : ℕ) → k < t → (s : List ℕ) → is_set n (suc k) s ≡ true → P s) → Each P (searched n t)
  each-searched P zero h = subst (Each P) (sym (searched-none n)) tt
  each-searched P (suc t) h =
      subst (Each P) (sym (searched-suc n t))
      (each_append P (searched n t) (revolving n (suc t)) (each-searched P t (λ k b. h k (omega arith)))
      (each_place P (revolving n (suc t)) []
      (λ i b. h t (le_refl (suc t)) (set_at n (suc t) i) (set_at-is-set n (suc t) i (omega (arith, revolving-length n (suc t)))))))

-- ---- the theorem

module _ (table : List ℕ) (shares masks notion order : ℕ) where
  abbrev test : List ℕ → Bool
  test = is_breaking (notion_of notion) table shares masks

  pub all_whole : keep test (searched (wire_count table) order) ≡ [] → (s : List ℕ) → Watched table order s → test s ≡ false
  unfolding is_breaking
  all_whole none [] w = empty-breaks-nothing (notion_of notion) shares masks
  all_whole none (x ∷ s) w =
      of_size_lem (wire_count table) (λ s. test s ≡ false) (suc (length s))
      (each_size (wire_count table) (λ s. test s ≡ false) order (length s) w.few (keep-none test (searched (wire_count table) order) none)) (x ∷ s)
      (watched-set table order (x ∷ s) w)

  pub all_choose : keep test (searched (wire_count table) order) ≡ [] → (s : List ℕ) → Watched table order s → HasChoice table shares masks notion s
  unfolding is_breaking
  all_choose none s w =
      choice (notion_of notion) shares masks (map (wire_at table) s)
      (λ l. ap (breaks (notion_of notion) shares masks) (sym (pick_map (wire_at table) l s))
      ∙ all_whole none (pick l s) (pick_watched table order l s w))

  pub shown-none : (s : List ℕ) (later : List (List ℕ)) → keep test (searched (wire_count table) order) ≡ s ∷ later
      → (0 < length s) × Watched table order s × (HasChoice table shares masks notion s → ⊥)
  unfolding is_breaking
  shown-none s later found =
      let r = keep-first test (Watched table order) (searched (wire_count table) order) s later
      (each-searched (wire_count table) (Watched table order) order (λ k b s e. set-watched table order (suc k) s e b)) found in
      (not-empty s r.1, r.0, no_choice (notion_of notion) shares masks (map (wire_at table) s) r.1)
    where
      not-empty : (s : List ℕ) → test s ≡ true → 0 < length s
      not-empty [] e = absurd (true≢false (sym e ∙ empty-breaks-nothing (notion_of notion) shares masks))
      not-empty (x ∷ s) e = omega arith

  -- what the guarantee says of each answer
  pub guarantee_holds : (held : List ℕ) → Guarantee (Ok Judged.Holds) table shares masks notion order held
      ↔ ((set : List ℕ) → Watched table order set → HasChoice table shares masks notion set)
  guarantee_holds held = (
    λ g. (g.holds-exactly (λ why same. let z : ◌≡◌ {A = ℕ} 0 1 = cc in absurd (omega (arith, z)))).0 refl,
    λ all. record {
      holds-exactly = λ accepted. (λ e. all, λ h. refl);
      broken-shows = λ size same. let z : ◌≡◌ {A = ℕ} 0 1 = cc in absurd
          (omega (arith, z));
    },
  )

  pub guarantee_broken : (size : ℕ) (held : List ℕ) → Guarantee (Ok (Judged.Broken size)) table shares masks notion order held
      ↔ Shown table shares masks notion order size held
  guarantee_broken size held = (
    λ g. g.broken-shows size refl,
    λ shown. record {
      holds-exactly = λ accepted. (
        λ same. let z : ◌≡◌ {A = ℕ} 0 1 = cc in absurd (omega (arith, z)),
        λ all. absurd
            (shown.no_choice (all (take size held) shown.watched)),
      );
      broken-shows = λ other same. let k : size ≡ other = cc in subst (λ (i : ℕ). Shown table shares masks notion order i held) k shown;
    },
  )

  pub refused : (why : Refusal) (held : List ℕ) → Guarantee (Err why) table shares masks notion order held
  refused why held = record {
    holds-exactly = λ none. absurd (none why refl);
    broken-shows = λ size same. let z : ◌≡◌ {A = ℕ} 0 1 = cc in absurd
        (omega (arith, z));
  }

  pub holds : (held : List ℕ) → keep test (searched (wire_count table) order) ≡ [] → Guarantee (Ok Judged.Holds) table shares masks notion order held
  holds held none = (guarantee_holds held).1 (all_choose none)

  pub broken : (size : ℕ) (held s : List ℕ) (later : List (List ℕ)) → keep test (searched (wire_count table) order) ≡ s ∷ later → size ≡ length s
      → take size held ≡ s → Guarantee (Ok (Judged.Broken size)) table shares masks notion order held
  broken size held s later found long front =
      let shown = shown-none s later found in
      (guarantee_broken size held).1 (record {
        some = omega (arith, shown.0);
        whole = ap length front ∙ sym long;
        watched = subst (Watched table order) (sym front) shown.1;
        no_choice = subst (λ (l : List ℕ). HasChoice table shares masks notion l → ⊥) (sym front) shown.2;
      })
