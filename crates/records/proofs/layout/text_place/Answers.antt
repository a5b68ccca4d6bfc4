-- `records::layout::text_place` meets its contract: the bytes read are the last five of the record.
use mathlib.Core.Path.{refl}
use Rattle.records.proofs.Fields.{place_fields}
use Rattle.records.proofs.layout.text_place.Goals as goal

pub returns : goal.returns
returns c = place_fields _ _ _ _ _ c.requires refl c.short.ensures c.short-2.ensures
