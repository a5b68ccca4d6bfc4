-- What a table holds when one wire more is listed, and when the newest is made an outer one.
--     lists_record, lists_full                        a wire listed while there is room, and when there is none
--     outer-none, outer_newest, outer_full            no wire to be made outer, the newest, one that is not in the table
use Prim.Native.Nat.{ℕ, suc, ◌+◌, ◌*◌, ◌-◌, ◌≤◌, ◌<◌}
use native.Mathlib.Omega.{arith}
use mathlib.Core.Path.{◌≡◌, sym, ◌∙◌, ap}
use mathlib.Core.List.{List, [], ◌∷◌, ◌++◌, reverse, reverse-cons, append-nil}
use lib.ListN.{length, take, drop, length-append, length-reverse}
use lib.Seq.{sets, sets-eq, take_at, length-take-le}
use Rattle.limits.specs.Limits.{max_wires, record_bytes, max_table_bytes}
use Rattle.records.specs.Layout.{outer_at}
use Rattle.record_words.specs.Writing.{record_of, outer_bytes}
use Rattle.record_words.proofs.Encoding.{made_outer_lem}
use Rattle.record_words.proofs.Written.{take-sets, sets_right}
use Rattle.description.specs.Listing.{encode, records_of, made_outer}
use Rattle.description.specs.declared.Listed.{Listed}
use Rattle.description.proofs.Encoding.{length-encode, length-records, records-append}
use Rattle.listing.specs.Progress.{Lists, MakesOuter}

-- the records with one wire more
records_more : (w : Listed) (ws : List Listed) → records_of (reverse (w ∷ ws)) ≡ records_of (reverse ws) ++ encode w
records_more w ws =
    ap records_of (reverse-cons w ws) ∙ records-append (reverse ws) (w ∷ [])
    ∙ ap (λ (l : List ℕ). records_of (reverse ws) ++ l) (append-nil (encode w))

lists_encoded : (table table' : List ℕ) (n : ℕ) (w : Listed) → n < max_wires → length table ≡ max_table_bytes → table' ≡ sets table (record_bytes * n) (encode w)
    → Lists table n table' w
unfolding Lists
lists_encoded table table' n w h size e ws held = record {
  count = (let e : n + 1 ≡ suc n = omega arith in e ∙ ap suc held.count);
  records =
      λ _.
      let room : record_bytes * n + length (encode w) ≤ length table = omega (arith, h, size, length-encode w) in
      let first : length (take (record_bytes * n) table) ≡ record_bytes * n = length-take-le (record_bytes * n) table (omega (arith, h, size)) in
      let both : length (take (record_bytes * n) table ++ encode w) ≡ record_bytes * (n + 1) =
      omega (arith, length-append (take (record_bytes * n) table) (encode w), first, length-encode w) in
      ap (take (record_bytes * (n + 1))) (e ∙ sets-eq (encode w) table (record_bytes * n) room)
      ∙ take_at (take (record_bytes * n) table ++ encode w) (drop (record_bytes * n + length (encode w)) table) (record_bytes * (n + 1)) both
      ∙ ap (λ (l : List ℕ). l ++ encode w) (held.records (omega (arith, h))) ∙ sym (records_more w ws);
}

pub lists_record : (table table' : List ℕ) (n : ℕ) (w : Listed) → n < max_wires → length table ≡ max_table_bytes
    → table' ≡ sets table (record_bytes * n) (record_of w.sum w.outer w.line w.offset w.length) → Lists table n table' w
unfolding encode
lists_record = lists_encoded

pub lists_full : (table : List ℕ) (n : ℕ) (w : Listed) → max_wires ≤ n → Lists table n table w
unfolding Lists
lists_full table n w h ws held = record {
  count = (let e : n + 1 ≡ suc n = omega arith in e ∙ ap suc held.count);
  records = λ few. absurd (omega (arith, h, few));
}

pub outer-none : (table : List ℕ) (n line : ℕ) → n ≡ 0 → MakesOuter table n table line
unfolding MakesOuter
outer-none table n line e [] held = held
outer-none table n line e (w ∷ ws) held = let f = held.count in absurd (omega (arith, e, f))

pub outer_full : (table : List ℕ) (n line : ℕ) → max_wires < n → MakesOuter table n table line
unfolding MakesOuter
outer_full table n line h [] held = held
outer_full table n line h (w ∷ ws) held = record { count = held.count; records = λ few. absurd (omega (arith, h, few)) }

encoded_outer : (w : Listed) (line : ℕ) → sets (encode w) outer_at (outer_bytes line) ≡ encode (made_outer line w)
unfolding encode
encoded_outer w line = made_outer_lem w.sum w.outer w.line w.offset w.length line

pub outer_newest : (l₀ l₁ : List ℕ) (n line : ℕ) → (n ≡ 0 → ⊥) → l₁ ≡ sets l₀ (record_bytes * (n - 1) + outer_at) (outer_bytes line)
    → MakesOuter l₀ n l₁ line
unfolding MakesOuter
outer_newest l₀ l₁ n line h e [] held = absurd (h held.count)
outer_newest l₀ l₁ n line h e (w ∷ ws) held = record {
  count = held.count;
  records =
      λ few.
      let c = held.count in
      let r = records_of (reverse ws) in
      let at = record_bytes * (n - 1) + outer_at in
      let size : length r ≡ record_bytes * length ws = length-records (reverse ws) ∙ ap (λ (k : ℕ). record_bytes * k) (length-reverse ws) in
      let i : record_bytes * (n - 1) + outer_at ≡ length r + outer_at = omega (arith, c, size) in
      let a : record_bytes * (n - 1) + outer_at + length (outer_bytes line) ≤ record_bytes * n = omega (arith, c) in
      ap (take (record_bytes * n)) e ∙ take-sets (record_bytes * n) l₀ at (outer_bytes line) a
      ∙ ap (λ (l : List ℕ). sets l at (outer_bytes line)) (held.records few ∙ records_more w ws)
      ∙ sets_right r (encode w) outer_at at (outer_bytes line) i
      ∙ ap (λ (l : List ℕ). r ++ l) (encoded_outer w line)
      ∙ sym (records_more (made_outer line w) ws);
}
