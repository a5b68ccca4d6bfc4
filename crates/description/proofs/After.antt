-- The run's state after the items of a group.
--     outside                          a group in which a parenthesis is opened
--     after_items                       the state after items that are read from a state on
--     after_around, after_lines        the groups around, and the output lines done, stay
--     put_filled, after_filled         a group with an item is filled
use Prim.Native.Nat.{ℕ}
use mathlib.Core.Path.{◌≡◌, refl, sym, ◌∙◌}
use mathlib.Core.Bool.{Bool, true, false, cond, true≢false}
use Rattle.records.specs.Layout.{plus_sum}
use Rattle.description.specs.Grammar.{Items, none, symbol, group, empty}
use Rattle.description.specs.Listing.{put_into}
use Rattle.description.specs.Run.{State, Around, took, opened, closed, symbol_item, group_item}
use Rattle.description.specs.declared.Item.{Item}
use Rattle.description.specs.declared.Group.{Group}

abbrev pub outside : ℕ → State → Around
outside o s = record { group = s.group; opened = o }

abbrev pub after_items : Items → State → State
after_items none s = s
after_items (symbol p is) s = after_items is (took p s)
after_items (group o inside c is) s = after_items is (closed c (outside o s) s.around (after_items inside (opened o s)))

pub after_around : (is : Items) (s : State) → (after_items is s).around ≡ s.around
after_around none s = refl
after_around (symbol p is) s = after_around is (took p s)
after_around (group o inside c is) s = after_around is (closed c (outside o s) s.around (after_items inside (opened o s)))

pub after_lines : (is : Items) (s : State) → (after_items is s).lines ≡ s.lines
after_lines none s = refl
after_lines (symbol p is) s = after_lines is (took p s)
after_lines (group o inside c is) s =
    after_lines is (closed c (outside o s) s.around (after_items inside (opened o s))) ∙ after_lines inside (opened o s)

pub put_filled : (g : Group) (item : Item) → (put_into g item).filled ≡ true
put_filled g item =
    go g.filled (record { sum = plus_sum g.sum item.sum; filled = true; first = g.first })
    (record { sum = item.sum; filled = true; first = item.from }) refl refl
  where
    go : (b : Bool) (x y : Group) → x.filled ≡ true → y.filled ≡ true → (cond b x y).filled ≡ true
    go true x y h k = h
    go false x y h k = k

-- filled by an item, or as it was before
stays_filled : (is : Items) (s : State) → (empty is ≡ true → s.group.filled ≡ true) → (after_items is s).group.filled ≡ true
stays_filled none s h = h refl
stays_filled (symbol p is) s h = stays_filled is (took p s) (λ e. put_filled s.group (symbol_item p))
stays_filled (group o inside c is) s h =
    stays_filled is (closed c (outside o s) s.around (after_items inside (opened o s)))
    (λ e. put_filled s.group (group_item o c (after_items inside (opened o s)).group))

pub after_filled : (is : Items) (s : State) → empty is ≡ false → (after_items is s).group.filled ≡ true
after_filled is s h = stays_filled is s (λ e. absurd (true≢false (sym e ∙ h)))
