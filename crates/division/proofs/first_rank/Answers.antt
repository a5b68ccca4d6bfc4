-- `division::first_rank` meets its contract: each part of the quotient fits a word, and the parts add up to it.
use native.Mathlib.Omega.{arith}
use Rattle.division.proofs.Division.{start-parts, start-within, whole-within, rest-within}
use Rattle.division.proofs.first_rank.Goals as goal

pub overflow_mul-result : goal.overflow_mul-result
overflow_mul-result c = let a = c.args in omega (arith, whole-within a.all a.jobs a.i c.requires.0 c.requires.2)

pub overflow_mul-result-2 : goal.overflow_mul-result-2
overflow_mul-result-2 c = let a = c.args in omega (arith, rest-within a.all a.jobs a.i c.requires.0 c.requires.1 c.requires.2)

pub overflow_add-result : goal.overflow_add-result
overflow_add-result c = let a = c.args in omega (arith, start-parts a.all a.jobs a.i c.requires.0, start-within a.all a.jobs a.i c.requires.0 c.requires.2)

pub returns : goal.returns
returns c = start-parts c.args.all c.args.jobs c.args.i c.requires.0
