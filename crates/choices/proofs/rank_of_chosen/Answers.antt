-- `choices::rank_of_chosen` meets its contract: what is gathered is a set.
use mathlib.Core.Path.{◌∙◌, ap}
use Rattle.revolving.specs.Order.{rank_of}
use Rattle.choices.proofs.Gathering.{lent-part, part-few, part-rising}
use Rattle.choices.proofs.rank_of_chosen.Goals as goal

pub rank-requires : goal.rank-requires
rank-requires c =
    let p = c.requires in
    let gathered = c.gather.ensures in record { counts = p.counts; n_le_max_wires = (p.wires_le_max_wires.0, part-few _ _ _ _ gathered p.wires_le_max_wires.2 _ p.wires_le_max_wires.1, part-rising _ _ _ _ gathered p.wires_le_max_wires.2) }

pub returns : goal.returns
returns c =
    let p = c.requires in
    c.rank.ensures ∙ ap (rank_of _) (lent-part _ _ _ _ c.gather.ensures p.wires_le_max_wires.2)
