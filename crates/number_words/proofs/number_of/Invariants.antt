use mathlib.Core.Path.{◌≡◌}
use lib.ListN.{take}
use Rattle.number_words.specs.Digits.{number_of}
use Rattle.number_words.proofs.number_of.Given as goal

abbrev pub invariant-loop-byte : goal.invariant-loop-byte
invariant-loop-byte l = l.number ≡ number_of (take l.byte-index l.word)
