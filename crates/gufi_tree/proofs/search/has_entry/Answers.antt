use Rattle.std.proofs.Common.{List, ◌+◌, ◌-◌, ◌/◌, Ok, Err, sym, ap, ◌∙◌, arith}
use Rattle.std.specs.Prelude.{bytes_eq}
use Rattle.std.specs.List.{list_any}
use Rattle.std.specs.Ordering.{nat_cmp}
use Rattle.std.specs.Cmp.Lexicographic.{slice_cmp}
use Rattle.gufi_base.specs.Basics.{ascends}
use Rattle.gufi_tree.specs.declared.tree.Entry.{Entry}
use Rattle.gufi_tree.specs.Tree.{entry_cmp}
use Rattle.gufi_tree.proofs.Entries.{rising_names, found_entry}
use Rattle.gufi_tree.proofs.Halved.{halved_above, halved_below, halved_none}
use Rattle.gufi_tree.proofs.search.has_entry.Goals as goal

pub returns-in-Equal : goal.returns-in-Equal
returns-in-Equal c =
    let l = c.loop-low in
    let entries = c.entries-entries.result in
    let up = ap (ascends entry_cmp) c.entries-entries.ensures ∙ c.requires in
    found_entry entries c.args.name.now (Ok (l.low + (l.high - l.low) / 2)) up (let end = l.invariant.end in omega arith) (λ e. sym (c.in-Equal.ensures e))
    ∙ ap (λ (es : List Entry). list_any (λ (e : Entry). bytes_eq c.args.name.now e.name) es) c.entries-entries.ensures

pub loop-low-preserved-in-Less : goal.loop-low-preserved-in-Less
loop-low-preserved-in-Less c =
    let l = c.loop-low in
    let entries = c.entries-entries.result in
    let up = ap (ascends entry_cmp) c.entries-entries.ensures ∙ c.requires in
    halved_above (λ (e : Entry). slice_cmp nat_cmp e.name c.args.name.now) entries (rising_names entries c.args.name.now up) l.low l.high (l.low + (l.high - l.low) / 2) l.invariant (omega arith) (omega arith) (λ e. sym (c.in-Less.ensures e))

pub loop-low-preserved : goal.loop-low-preserved
loop-low-preserved c =
    let l = c.loop-low in
    let entries = c.entries-entries.result in
    let up = ap (ascends entry_cmp) c.entries-entries.ensures ∙ c.requires in
    halved_below (λ (e : Entry). slice_cmp nat_cmp e.name c.args.name.now) entries (rising_names entries c.args.name.now up) l.low l.high (l.low + (l.high - l.low) / 2) l.invariant (omega arith) (omega arith) (λ e. sym (c.in-Greater.ensures e))

pub returns : goal.returns
returns c =
    let l = c.loop-low in
    let entries = c.entries-entries.result in
    let up = ap (ascends entry_cmp) c.entries-entries.ensures ∙ c.requires in
    found_entry entries c.args.name.now (Err l.low) up (let end = l.invariant.end in let meet = l.invariant.meet in omega arith)
    (halved_none (λ (e : Entry). slice_cmp nat_cmp e.name c.args.name.now) entries l.low l.high l.invariant (omega arith))
    ∙ ap (λ (es : List Entry). list_any (λ (e : Entry). bytes_eq c.args.name.now e.name) es) c.entries-entries.ensures
