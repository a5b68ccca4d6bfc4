-- What the line of a notion says of a watcher.
--     holds-broken         a line that says holds is none that says broken
--     after_part           what does not come after a part of a set does not come after the set
--     not_after            whether a set comes after another is decided by their sizes and ranks
--     shown-first          the first breaking set comes after no set without a choice
--     line_says            what the line says, of every table, notion and order that no test of a verdict turns down
use Prim.Native.Nat.{ℕ, ◌<◌}
use native.Mathlib.Decide.{dec_lt}
use native.Mathlib.Omega.{arith}
use mathlib.Core.Path.{◌≡◌, refl, sym, ◌∙◌, ap, subst}
use mathlib.Core.Logic.{◌⊎◌, inl, inr}
use mathlib.Core.Bool.{Bool, true, false}
use mathlib.Core.List.{List, [], ◌∷◌, ◌++◌, map}
use lib.ListN.{length, take, drop}
use lib.Seq.{take-append_seam}
use Rattle.basics.specs.Folds.{keep}
use Rattle.basics.specs.Quoted.{bytes}
use Rattle.basics.specs.Told.{Told, Lent}
use Rattle.basics.proofs.Conditions.{less}
use Rattle.wires.specs.Wires.{breaks}
use Rattle.watcher.proofs.Bits.{pick, pick_size, pick_map}
use Rattle.watcher.proofs.Choice.{choice}
use Rattle.records.specs.Layout.{wire_at, wire_count}
use Rattle.revolving.specs.Order.{rank_of}
use Rattle.breaking.specs.Breaking.{is_breaking}
use Rattle.search.specs.Search.{searched}
use Rattle.verdict_answers.specs.Answers.{notion_of, written, first_shown, set_dependence}
use Rattle.verdict_answers.specs.Guarantee.{Watched, HasChoice}
use Rattle.verdict_answers.specs.First.{NotAfter, FirstBreaking}
use Rattle.verdict_answers.specs.Jobs.{Ordered}
use Rattle.verdict_answers.proofs.Conditions.{verdict_answered}
use Rattle.verdict_answers.proofs.Watching.{pick_watched, all_choose, shown-none}
use Rattle.verdict_answers.proofs.First.{first-is}
use Rattle.verdict_answers.proofs.Dependence.{first_leaks}
use Rattle.pages.specs.Page.{wire_numbers}
use Rattle.pages.proofs.Writing.{apart}
use Rattle.operand_words.specs.Operands.{operands}
use Rattle.operand_words.proofs.Meaning.{word_says}
use Rattle.verdict_lines.specs.Lines.{notion_name, verdict_said, empty_set, notion_line}
use Rattle.verdict_lines.specs.Meaning.{SaysNotion}

holds-broken : (name wires word : List ℕ) → name ++ (bytes " broken" ++ wires ++ word) ++ bytes "\n" ≡ name ++ bytes " holds" ++ bytes "\n" → ⊥
holds-broken [] wires word e = apart 1 e refl
holds-broken (c ∷ name) wires word e = holds-broken name wires word (ap (drop 1) e)

after_part : (n : ℕ) (s u : List ℕ) (l : List Bool) → NotAfter n s (pick l u) → NotAfter n s u
after_part n s u l = go (pick_size l u)
  where
    go : (length (pick l u) < length u) ⊎ (pick l u ≡ u) → NotAfter n s (pick l u) → NotAfter n s u
    go (inl less) (inl h) = inl (omega (arith, less, h))
    go (inl less) (inr h) = inl (omega (arith, less, h.0))
    go (inr e) h = subst (NotAfter n s) e h

not_after : (n : ℕ) (s u : List ℕ) → Dec (NotAfter n s u)
not_after n s u = go (dec_lt (length s) (length u)) (dec_lt (length u) (length s)) (dec_lt (rank_of n u) (rank_of n s))
  where
    go : Dec (length s < length u) → Dec (length u < length s) → Dec (rank_of n u < rank_of n s) → Dec (NotAfter n s u)
    go (yes less) more low = yes (inl less)
    go (no less) (no more) (no low) = yes (inr (omega arith, omega arith))
    go (no less) (yes more) low = no longer
      where
        longer : NotAfter n s u → ⊥
        longer (inl h) = omega arith
        longer (inr h) = omega (arith, h.0)
    go (no less) (no more) (yes low) = no later
      where
        later : NotAfter n s u → ⊥
        later (inl h) = less h
        later (inr h) = omega (arith, h.1)

-- a set that came before it would have no part that breaks, and so a choice
shown-first : (table : List ℕ) (shares masks notion order : ℕ) (s : List ℕ) → FirstBreaking table shares masks notion order s
    → (u : List ℕ) → Watched table order u → (HasChoice table shares masks notion u → ⊥) → NotAfter (wire_count table) s u
unfolding is_breaking
shown-first table shares masks notion order s shown u w none = go (not_after (wire_count table) s u)
  where
    whole : (NotAfter (wire_count table) s u → ⊥) → (l : List Bool) (b : Bool) → is_breaking (notion_of notion) table shares masks (pick l u) ≡ b
        → b ≡ false
    whole before l false e = refl
    whole before l true e = absurd (before (after_part (wire_count table) s u l (shown.first (pick l u) (pick_watched table order l u w) e)))

    go : Dec (NotAfter (wire_count table) s u) → NotAfter (wire_count table) s u
    go (yes h) = h
    go (no before) =
        absurd (none (choice (notion_of notion) shares masks (map (wire_at table) u)
        (λ l. ap (breaks (notion_of notion) shares masks) (sym (pick_map (wire_at table) l u))
        ∙ whole before l (is_breaking (notion_of notion) table shares masks (pick l u)) refl)))

pub line_says : (table : List ℕ) (shares masks notion order : ℕ) → Ordered table shares masks notion order empty_set
    → SaysNotion table shares masks notion order (notion_line table shares masks notion order)
unfolding notion_line
line_says table shares masks notion order o =
    subst (λ (lent : Lent). SaysNotion table shares masks notion order (notion_name notion ++ verdict_said depends lent ++ bytes "\n"))
    (sym (verdict_answered table shares masks notion order empty_set o))
    (by_sets found refl)
  where
    found : List (List ℕ)
    found = keep (is_breaking (notion_of notion) table shares masks) (searched (wire_count table) order)

    depends : List ℕ → Told
    depends = set_dependence table shares masks notion

    by_sets : (sets : List (List ℕ)) → found ≡ sets
        → SaysNotion table shares masks notion order (notion_name notion ++ verdict_said depends (first_shown sets empty_set) ++ bytes "\n")
    by_sets [] e = record {
      holds = (λ same. all_choose table shares masks notion order e, λ all. refl);
      broken = λ other. absurd (other refl);
    }
    by_sets (set ∷ later) e =
        let none = shown-none table shares masks notion order set later e in
        let first = first-is table shares masks notion order set later e in
        let held = take (length set) (written set empty_set) in
        record {
          holds = (
            λ same. absurd (holds-broken (notion_name notion) (wire_numbers held) (operands (depends held)) same),
            λ all. absurd (none.2 (all set none.1)),
          );
          broken = λ other. record {
            set = set;
            word = operands (depends set);
            shown = ap (λ (l : List ℕ). notion_name notion ++ (bytes " broken" ++ wire_numbers l ++ operands (depends l)) ++ bytes "\n")
                (take-append_seam set (drop (length set) empty_set));
            operands = word_says table shares masks notion set
                (first_leaks table shares masks notion order o.sound o.known o.high set first);
            some = none.0;
            watched = none.1;
            no_choice = none.2;
            first = shown-first table shares masks notion order set first;
          };
        }
