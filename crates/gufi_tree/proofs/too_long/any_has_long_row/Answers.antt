use Rattle.std.proofs.Common.{◌≡◌, ℕ, take, drop, sym, ap, ◌∙◌, arith}
use Rattle.std.specs.List.{list_any}
use Rattle.gufi_tree.specs.Graft.{has_long_row}
use Rattle.gufi_tree.proofs.TooLong.{none_of_range, none_yet, one_between, none_between}
use Rattle.gufi_tree.proofs.too_long.any_has_long_row.Goals as goal

pub returns-then-are_all_short : goal.returns-then-are_all_short
returns-then-are_all_short c = none_of_range c.args.above.now c.args.dirs.now c.args.from c.args.end (c.are_all_short.ensures c.if-are_all_short.true)

pub loop-place-init : goal.loop-place-init
loop-place-init c = none_yet (has_long_row c.args.above.now) c.args.dirs.now c.args.from

pub returns-then-directory_has_long_row : goal.returns-then-directory_has_long_row
returns-then-directory_has_long_row c =
    let within = c.requires.within in
    one_between (has_long_row c.args.above.now) c.args.dirs.now c.args.from c.args.end c.loop-place.place c.at.result (omega arith) (omega arith) within c.at.ensures (sym c.directory_has_long_row.ensures ∙ c.if-directory_has_long_row.true)

pub loop-place-preserved : goal.loop-place-preserved
loop-place-preserved c =
    let within = c.requires.within in
    none_between (has_long_row c.args.above.now) c.args.dirs.now c.args.from c.loop-place.place c.at.result (omega arith) (omega arith) c.at.ensures c.loop-place.invariant (sym c.directory_has_long_row.ensures ∙ c.if-directory_has_long_row.false)

pub returns : goal.returns
returns c =
    let at_end : c.loop-place.place ≡ c.args.end = let up = c.loop-place.auto.place-end c.requires.order in omega arith in
    sym (ap (λ (k : ℕ). list_any (has_long_row c.args.above.now) (drop c.args.from (take k c.args.dirs.now))) (sym at_end) ∙ c.loop-place.invariant)
