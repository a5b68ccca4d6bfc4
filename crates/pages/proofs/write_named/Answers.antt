-- `pages::write_named` meets its contract: the bytes, then the number's digits, of which there are at most twenty.
use native.Mathlib.Omega.{arith}
use Rattle.pages.proofs.Numbers.{decimal-few}
use Rattle.pages.proofs.Writing.{wrote_after}
use Rattle.pages.proofs.write_named.Goals as goal

pub write_number-requires : goal.write_number-requires
write_number-requires c =
    omega (
      arith,
      decimal-few c.args.number
          c.ranges.number.fits,
      c.write_text-next.ensures.upper_bound,
      c.requires,
    )

pub returns : goal.returns
returns c =
    let a = c.args in
    let number = c.write_number.ensures in record {
      wrote = wrote_after a.page.now a.at a.name.now _ _ _ _ _ c.write_text-next.ensures.wrote number;
      upper_bound = omega (
        arith,
        decimal-few a.number
            c.ranges.number.fits,
        c.write_text-next.ensures.upper_bound,
        number.end_is,
      );
    }
