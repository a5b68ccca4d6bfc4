-- The two header lines (scope, "The description text").
--     order_line text           what the first line gives: exactly `ORDER = ` and one digit 1 to 7
--     order_digit               its digit, and the line's end
--     masks_line at l           what the second line gives, l from its start at place `at` on: exactly `MASKS = [`, then nothing or names parted
--                              by a comma and a space, none twice, then `]`
--     masks_of, closed          what is declared where the list is closed
--     larger                   the larger of two numbers
--     parted, bracket_here      whether a comma and a space, a closing bracket, stand here
--     NameStep, after_name, named_step, name_step      one name more, and what follows it: the next, or the end of the line
--     names_from                the names from a place on
use Rattle.std.specs.Prelude.{ℕ, zero, suc, ◌+◌, ◌-◌, ◌^◌, Bool, false, cond, ◌&&◌, List, [], ◌∷◌, eqb, ltb, leb, take, drop, Option, Some, None}
use Rattle.std.specs.Int.Bits.{bit_xor}
use Rattle.limits.specs.Limits.{max_order}
use Rattle.records.specs.Words.{bit}
use Rattle.description.specs.Bytes.{space, comma, bracket, order_word, masks_word, figure, ended, same}
use Rattle.description.specs.Symbols.{name_length, mask_at}
use Rattle.description.specs.declared.Masks.{Masks}

-- one digit 1 to 7, and the line's end
abbrev pub order_digit : List ℕ → Option ℕ
order_digit [] = None
order_digit (c ∷ l) = cond (leb (figure 1) c && leb c (figure max_order) && ended l) (Some (c - 48)) None

unfoldable pub order_line : List ℕ → Option ℕ
order_line text = cond (same (take 8 text) order_word) (order_digit (drop 8 text)) None

abbrev pub masks_of : ℕ → ℕ → ℕ → Masks
masks_of declared count end = record { declared = declared; count = count; end = end }

-- the bracket that closes the list, at place `at`, and the line's end
abbrev pub closed : ℕ → ℕ → ℕ → List ℕ → Option Masks
closed declared count at [] = None
closed declared count at (c ∷ l) =
    cond (eqb c bracket && ended l) (Some (masks_of declared count (at + 1))) None

abbrev pub larger : ℕ → ℕ → ℕ
larger m n = cond (ltb m n) n m

abbrev pub parted : List ℕ → Bool
parted [] = false
parted (c ∷ []) = false
parted (c ∷ d ∷ l) = eqb c comma && eqb d space

-- after a name, the next or the end: either a name parted from it by a comma and a space, so many bytes on, or what the line gives
pub data NameStep : Type 0 where
  next : ℕ → ℕ → ℕ → NameStep
  ends : Option Masks → NameStep

abbrev pub after_name : ℕ → ℕ → ℕ → ℕ → List ℕ → NameStep
after_name declared count at size l =
    cond (parted l) (next declared count (size + 1)) (ends (closed declared count (at + size) l))

abbrev pub named_step : ℕ → ℕ → ℕ → List ℕ → Option ℕ → NameStep
named_step declared count at l None = ends None
named_step declared count at l (Some k) =
    cond (bit declared k) (ends None)
    (after_name (bit_xor declared (2 ^ k)) (larger count (k + 1)) at (name_length k) (drop (name_length k) l))

abbrev pub name_step : ℕ → ℕ → ℕ → List ℕ → NameStep
name_step declared count at l = named_step declared count at l (mask_at l)

-- the names from place `at` on, where `pass` bytes are passed over first
unfoldable pub names_from : ℕ → ℕ → ℕ → ℕ → List ℕ → Option Masks
names_from declared count at pass [] = None
names_from declared count at (suc pass) (c ∷ l) = names_from declared count (at + 1) pass l
names_from declared count at zero (c ∷ l) =
    elim (name_step declared count at (c ∷ l)) [
      | next d m pass ↦ names_from d m (at + 1) pass l
      | ends line ↦ line
    ]

abbrev pub bracket_here : List ℕ → Bool
bracket_here [] = false
bracket_here (c ∷ l) = eqb c bracket

unfoldable pub masks_line : ℕ → List ℕ → Option Masks
masks_line at l =
    cond (same (take 9 l) masks_word)
    (cond (bracket_here (drop 9 l)) (closed 0 0 (at + 9) (drop 9 l)) (names_from 0 0 (at + 9) 0 (drop 9 l)))
    None
