-- Facts on lists by place that know nothing of counts.
--     get_d_second      an element of the second of two lists
use Prim.Native.Nat.{ℕ, ◌+◌}
use mathlib.Core.Path.{◌≡◌, sym, ◌∙◌, ap}
use mathlib.Core.List.{List, ◌++◌}
use lib.ListN.{length, get_or}
use lib.Seq.{get_or-append-add}

pub get_d_second : {A : Type 0} (l m : List A) (i j : ℕ) (d : A) → length l + j ≡ i → get_or (l ++ m) i d ≡ get_or m j d
get_d_second l m i j d e = ap (λ (n : ℕ). get_or (l ++ m) n d) (sym e) ∙ get_or-append-add l m j d
