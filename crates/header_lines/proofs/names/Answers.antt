-- `header_lines::names` meets its contract: before each turn, to go on from the present place gives what the whole line does.
use Prim.Native.Nat.{max, ◌+◌}
use mathlib.Core.Path.{◌≡◌, sym, ◌∙◌, ap}
use borrow.Author.Rules.{rules, part_to_end}
use Rattle.description.specs.Symbols.{mask_at}
use Rattle.header_lines.proofs.NameList.{parted-fits, no_more-names, no_name, twice, last_name, next_name, larger_max}
use Rattle.header_lines.proofs.names.Goals as goal

-- the text from the present place on is the part that `mask_name` reads
pub returns-in_err-mask : goal.returns-in_err-mask
returns-in_err-mask c =
    let text = c.args.text.now in
    let l = c.loop-at in
    let read = ap mask_at (sym (part_to_end text l.at)) ∙ sym c.in_err-mask.ensures in
    c.from_residual.ensures ∙ sym (l.invariant.1 ∙ no_name text l.declared l.count l.at c.loop-at-test.true read)

pub returns-then-declared-mask-eq1 : goal.returns-then-declared-mask-eq1
returns-then-declared-mask-eq1 c =
    let text = c.args.text.now in
    let l = c.loop-at in
    let read = ap mask_at (sym (part_to_end text l.at)) ∙ sym c.in_ok-mask.ensures in
    sym (l.invariant.1 ∙ twice text l.declared l.count l.at c.loop-at-test.true _ read c.if-declared-mask-eq1.true)

pub returns-then-not-parts_names : goal.returns-then-not-parts_names
returns-then-not-parts_names c =
    let text = c.args.text.now in
    let l = c.loop-at in
    let read = ap mask_at (sym (part_to_end text l.at)) ∙ sym c.in_ok-mask.ensures in
    let most : c.max-count.result ≡ max l.count (c.in_ok-mask.mask + 1) = search rules in
    c.closing.ensures
    ∙ sym
    (l.invariant.1
    ∙ last_name text l.declared l.count l.at c.loop-at-test.true _ read c.if-declared-mask-eq1.false _ _ c.name_length-at.ensures
    (most ∙ larger_max _ _) (sym c.parts_names.ensures ∙ c.if-not-parts_names.true))

pub loop-at-preserved : goal.loop-at-preserved
loop-at-preserved c =
    let text = c.args.text.now in
    let l = c.loop-at in
    let read = ap mask_at (sym (part_to_end text l.at)) ∙ sym c.in_ok-mask.ensures in
    let most : c.max-count.result ≡ max l.count (c.in_ok-mask.mask + 1) = search rules in
    let further = sym c.parts_names.ensures ∙ c.if-not-parts_names.false in (
      parted-fits text _ further,
      l.invariant.1
          ∙ next_name text l.declared l.count l.at c.loop-at-test.true _ read c.if-declared-mask-eq1.false _ _ c.name_length-at.ensures
          (most ∙ larger_max _ _) further,
    )

pub returns : goal.returns
returns c =
    let l = c.loop-at in sym (l.invariant.1 ∙ no_more-names c.args.text.now l.declared l.count l.at c.loop-at-test.false)
