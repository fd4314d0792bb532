use Rattle.std.proofs.Common.{◌≡◌, ◌+◌, ◌∷◌, [], ◌++◌, take, sym, ap, refl, ◌∙◌, arith}
use Rattle.std.proofs.lemmas.List.{take_more, length-take}
use Rattle.gufi_base.specs.declared.record.Row.{Row}
use Rattle.gufi_stats.specs.Grouped.{number_of, grouped}
use Rattle.gufi_stats.proofs.Grouped.{grouped-none}
use Rattle.gufi_stats.proofs.Joined.{rows-most, row-counted}
use Rattle.gufi_stats.proofs.by_key.groups_of.Goals as goal

pub loop-row-init : goal.loop-row-init
loop-row-init c = c.new-groups.ensures ∙ grouped-none (λ meta. meta) (number_of c.args.key)

pub add-requires : goal.add-requires
add-requires c = λ n.
    let most = rows-most (λ meta. meta) (number_of c.args.key) c.loop-row.groups (take c.loop-row.row-index c.args.rows.now) n c.loop-row.invariant in
    let short = length-take c.loop-row.row-index c.args.rows.now in
    omega (arith, most, short, c.requires, c.loop-row-test.true)

pub loop-row-preserved : goal.loop-row-preserved
loop-row-preserved c =
    let rows = c.args.rows.now in
    let i = c.loop-row.row-index in
    let key = number_of c.args.key in
    let row = c.row-item.result in
    let more : take (i + 1) rows ≡ take i rows ++ row ∷ [] = take_more rows i row c.loop-row-test.true ∙ ap (λ (r : Row). take i rows ++ r ∷ []) (sym c.row-item.is) in
    row-counted (λ meta. meta) key (take i rows) row c.number.result row.rec.meta c.loop-row.groups c.add.new.self c.number.ensures refl c.loop-row.invariant c.in_ok-add.ensures
    ∙ ap (grouped key) (sym more)
