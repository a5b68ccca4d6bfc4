-- `shares::gather` meets its contract: each union with itself shifted doubles the bits that are looked at.
use Rattle.shares.proofs.Shares.{gather_bits}
use Rattle.shares.proofs.gather.Goals as goal

pub returns : goal.returns
returns c = gather_bits c.args.word c.args.stride
