-- `header_lines::parts_names` meets its contract: its tests are those of a comma and a space.
use mathlib.Core.Path.{sym}
use Rattle.header_lines.proofs.NameList.{not-parted-short}
use Rattle.header_lines.proofs.parts_names.Goals as goal

pub returns-then-text-at-lt2 : goal.returns-then-text-at-lt2
returns-then-text-at-lt2 c = let a = c.args in sym (not-parted-short a.text.now a.at c.if-text-at-lt2.true)
