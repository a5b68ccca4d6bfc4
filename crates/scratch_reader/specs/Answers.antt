-- What reading comes to where no table is lent.
--     tableless     refusal 10 for over 512 wires alone
use Rattle.std.specs.Prelude.{ℕ, cond, List, ltb, length}
use Rattle.limits.specs.Limits.{max_wires}
use Rattle.description.specs.Run.{Reading, read, turned_down}
use Rattle.description.specs.declared.Refusal.TheVariants.{TooManyWires}

abbrev pub tableless : List ℕ → Reading → Reading
tableless text (turned_down why offset) = turned_down why offset
tableless text (read order masks ws) = cond (ltb max_wires (length ws)) (turned_down TooManyWires (length text)) (read order masks ws)
