-- The size of a check beforehand, in the request's own numbers (request No. 3).
--     SizeTold              the figures of a text, or the number and byte offset of a refusal
--     Sized                 what is told, with the numbers of sets beside it
--     answer_told, size_told  what the code's answer tells
--     size_of, check_size     what the entry is to tell
-- `set_counts` and `counted`, the number of sets of each size, and `total_of`, all sets together, are passed on from `sets_by_size`.
use Rattle.std.specs.Prelude.{ℕ, ◌+◌, ◌*◌, List, length, replicate, Result, Ok, Err}
use Rattle.limits.specs.Limits.{max_order, record_bytes}
use Rattle.description.specs.Run.{refusal_number, Reading, read, turned_down, reading}
use Rattle.description.specs.declared.Fault.{Fault}
use Rattle.scratch_reader.specs.Answers.{tableless}
pub use Rattle.sets_by_size.specs.Counted.{set_counts, counted, total_of}
use Rattle.plan_text.specs.declared.CheckSize.{CheckSize}

pub data SizeTold : Type 0 where
  figures : (order shares masks wires bytes : ℕ) → SizeTold
  refused : (number offset : ℕ) → SizeTold

pub record Sized : Type 0 where
  pub told : SizeTold
  pub sets : List ℕ

abbrev pub answer_told : Result CheckSize Fault → SizeTold
answer_told (Ok size) = figures size.order size.shares size.masks size.wires size.bytes
answer_told (Err fault) = refused (refusal_number fault.why) fault.offset

-- a text that is turned down has no sets
abbrev pub size_told : Result CheckSize Fault → Sized
size_told (Ok size) = record { told = answer_told (Ok size); sets = size.sets }
size_told (Err fault) = record { told = answer_told (Err fault); sets = replicate max_order 0 }

-- shares are order + 1
abbrev pub size_of : Reading → Sized
size_of (turned_down why offset) = record { told = refused (refusal_number why) offset; sets = replicate max_order 0 }
size_of (read order masks ws) =
    record { told = figures order (order + 1) masks (length ws) (record_bytes * length ws); sets = counted (length ws) order }

-- "From a text alone, with no table lent"
abbrev pub check_size : List ℕ → Sized
check_size text = size_of (tableless text (reading text))
