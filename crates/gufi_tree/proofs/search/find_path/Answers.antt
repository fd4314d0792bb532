use Rattle.std.proofs.Common.{Ok, Err, ◌+◌, ◌-◌, ◌/◌, sym, arith}
use Rattle.gufi_base.specs.Paths.{path_cmp}
use Rattle.gufi_tree.specs.Tree.{Directory}
use Rattle.gufi_tree.proofs.Halved.{halved_above, halved_below, halved_none}
use Rattle.gufi_tree.proofs.Searched.{rising_paths, searched_dirs}
use Rattle.gufi_tree.proofs.search.find_path.Goals as goal

pub returns-in-Equal : goal.returns-in-Equal
returns-in-Equal c =
    let middle = c.loop-low.low + (c.loop-low.high - c.loop-low.low) / 2 in
    searched_dirs c.args.dirs.now c.args.path.now (Ok middle) c.requires (let end = c.loop-low.invariant.end in omega arith) (λ d. sym (c.in-Equal.ensures d))

pub loop-low-preserved-in-Less : goal.loop-low-preserved-in-Less
loop-low-preserved-in-Less c =
    let l = c.loop-low in
    halved_above (λ (d : Directory). path_cmp d.path c.args.path.now) c.args.dirs.now (rising_paths c.args.dirs.now c.args.path.now c.requires) l.low l.high (l.low + (l.high - l.low) / 2) l.invariant (omega arith) (omega arith)
    (λ d. sym (c.in-Less.ensures d))

pub loop-low-preserved : goal.loop-low-preserved
loop-low-preserved c =
    let l = c.loop-low in
    halved_below (λ (d : Directory). path_cmp d.path c.args.path.now) c.args.dirs.now (rising_paths c.args.dirs.now c.args.path.now c.requires) l.low l.high (l.low + (l.high - l.low) / 2) l.invariant (omega arith) (omega arith)
    (λ d. sym (c.in-Greater.ensures d))

pub returns : goal.returns
returns c =
    let l = c.loop-low in
    searched_dirs c.args.dirs.now c.args.path.now (Err l.low) c.requires (let end = l.invariant.end in let meet = l.invariant.meet in omega arith)
    (halved_none (λ (d : Directory). path_cmp d.path c.args.path.now) c.args.dirs.now l.low l.high l.invariant (omega arith))
