-- `record_words::symbols::is_in` meets its contract: the symbol's bit is shifted down.
use Rattle.record_words.proofs.Shifts.{in_product, in_share_a, in_share_b, in_mask}
use Rattle.record_words.proofs.symbols.is_in.Goals as goal

pub returns-in-Product : goal.returns-in-Product
returns-in-Product c = in_product _ c.requires _ _ _ c.in-Product.is

pub returns-in-ShareA : goal.returns-in-ShareA
returns-in-ShareA c = in_share_a _ _ _ c.in-ShareA.is

pub returns-in-ShareB : goal.returns-in-ShareB
returns-in-ShareB c = in_share_b _ _ _ c.in-ShareB.is

pub returns-in-Mask : goal.returns-in-Mask
returns-in-Mask c = in_mask _ _ _ c.in-Mask.is
