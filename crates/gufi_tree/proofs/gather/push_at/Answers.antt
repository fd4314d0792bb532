use Rattle.std.proofs.Common.{◌≡◌, sym, subst, true}
use Rattle.std.proofs.lemmas.Result.{on_ok_weaker}
use Rattle.std.proofs.lemmas.Bool.{not_from_false}
use Rattle.gufi_base.specs.Paths.{is_child_of}
use Rattle.gufi_tree.specs.declared.tree.Stored.{Stored}
use Rattle.gufi_tree.specs.Build.{is_dir_line, entry_of_line}
use Rattle.gufi_tree.proofs.Pushed.{rows_pushed, kinds_pushed, paths_pushed}
use Rattle.gufi_tree.proofs.gather.push_at.Goals as goal

pub returns-clause-rows : goal.returns-clause-rows
returns-clause-rows c =
    on_ok_weaker c.push_entry.result (λ e.
    rows_pushed c.args.stored.now.items c.args.at c.index_mut-dir.result.now c.push_entry.new.dir c.args.line c.requires.place c.index_mut-dir.ensures.value
    (record { path = c.push_entry.ensures.path; rec = c.push_entry.ensures.rec; entries = e })
    (let P : Stored → Type 0 = λ v. is_child_of v.path c.args.line.path ≡ true in subst P (sym c.index_mut-dir.ensures.value) (c.requires.child c.index_mut-dir.result.now))) c.push_entry.ensures.entries

pub returns-clause-kinds : goal.returns-clause-kinds
returns-clause-kinds c =
    on_ok_weaker c.push_entry.result (λ e. λ entry.
    kinds_pushed c.args.stored.now.items c.args.at c.index_mut-dir.result.now c.push_entry.new.dir (entry_of_line c.args.line) c.requires.place c.index_mut-dir.ensures.value
    (record { path = c.push_entry.ensures.path; rec = c.push_entry.ensures.rec; entries = e }) (not_from_false (is_dir_line c.args.line) entry)) c.push_entry.ensures.entries

pub returns-clause-paths : goal.returns-clause-paths
returns-clause-paths c = paths_pushed c.args.stored.now.items c.args.at c.index_mut-dir.result.now c.push_entry.new.dir c.index_mut-dir.ensures.value c.push_entry.ensures.path
