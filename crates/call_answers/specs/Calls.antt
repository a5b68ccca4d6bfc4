-- What a caller in C gets from a call: a status, 0 or the scope's number of the refusal, and values through lent numbers.
--     Called           the status, and what the lent numbers, in the order of the arguments, and the lent buffer then hold
--     got              the same, put together
--     answered         what an entry tells: its values in the lent numbers, or the number of its refusal
--     lent_answered     the same where a buffer is lent
--     judged           whether no set breaks, 1 or 0, put before what is told of a set that does
--     lent_judged       the same where a buffer is lent
--     read_answered     what reading tells: four values, or the number of the refusal and its place in the text
--     size_answered     what the size of a check tells: five values and the numbers of sets, or the number of the refusal, with reading's its place in the text
use Rattle.std.specs.Prelude.{ℕ, cond, List, [], ◌∷◌, ◌++◌, ltb, length, take}
use Rattle.basics.specs.Told.{Told, Lent, values, refusal}
use Rattle.verdict_answers.specs.Answers.{written}
use Rattle.reader.specs.Answers.{ReadTold, gives, refused, ReadLent}
use Rattle.plan_text.specs.Answers as plan
use Rattle.plan_text.specs.Answers.{SizeTold, Sized, figures}

pub record Called : Type 0 where
  pub status : ℕ
  pub numbers : List ℕ
  pub buffer : List ℕ

abbrev pub got : ℕ → List ℕ → List ℕ → Called
got status numbers buffer = record { status = status; numbers = numbers; buffer = buffer }

-- the values stand in the first of the lent numbers, and the others are as they were; a refusal alters none
abbrev pub answered : Told → List ℕ → List ℕ → Called
answered (values told) numbers buffer = got 0 (written told numbers) buffer
answered (refusal number) numbers buffer = got number numbers buffer

abbrev pub lent_answered : Lent → List ℕ → Called
lent_answered lent numbers = answered lent.told numbers lent.held

abbrev pub judged : Told → Told
judged (values []) = values (1 ∷ [])
judged (values (size ∷ more)) = values (0 ∷ size ∷ more)
judged (refusal number) = refusal number

abbrev pub lent_judged : Lent → List ℕ → Called
lent_judged lent numbers = answered (judged lent.told) numbers lent.held

-- order, shares, masks and wires stand before the offset; a text that was read has none, and one that was not nothing but it
abbrev pub read_answered : ReadTold → List ℕ → ℕ → List ℕ → Called
read_answered (gives order shares masks wires) numbers offset held = got 0 (order ∷ shares ∷ masks ∷ wires ∷ offset ∷ []) held
read_answered (refused number place) numbers offset held = got number (numbers ++ place ∷ []) held

abbrev pub lent_read : ReadLent → List ℕ → ℕ → Called
lent_read lent numbers offset = read_answered lent.told numbers offset lent.held

-- order, shares, masks, wires and bytes stand before the offset, the numbers of sets of the sizes up to the order at the buffer's start; 16, after
-- reading's own refusals, where the buffer is too short for them, alters nothing
abbrev pub figures_answered : SizeTold → List ℕ → List ℕ → ℕ → List ℕ → Called
figures_answered (figures order shares masks wires bytes) counts numbers offset buffer =
    cond (ltb (length buffer) order)
    (got 16 (numbers ++ offset ∷ []) buffer)
    (got 0 (order ∷ shares ∷ masks ∷ wires ∷ bytes ∷ offset ∷ []) (written (take order counts) buffer))
figures_answered (plan.refused number place) counts numbers offset buffer = got number (numbers ++ place ∷ []) buffer

abbrev pub size_answered : Sized → List ℕ → ℕ → List ℕ → Called
size_answered size = figures_answered size.told size.sets
