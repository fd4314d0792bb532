use Rattle.std.proofs.Common.{sym, ◌∙◌}
use Rattle.std.proofs.lemmas.Result.{on_ok_weaker}
use Rattle.gufi_tree.proofs.Pushed.{on_ok_both, gathered_begun, gathered_kept, gathered_left}
use Rattle.gufi_tree.proofs.gather.gather_line.Goals as goal

pub returns-then-is_dir : goal.returns-then-is_dir
returns-then-is_dir c =
    on_ok_weaker c.begin_directory.result (λ e. λ lines h. gathered_begun lines c.args.line c.args.gathered.now.stored.items c.begin_directory.new.stored.items c.args.gathered.now.loose.items e (sym c.is_dir.ensures ∙ c.if-is_dir.true) h) c.begin_directory.ensures

pub returns-then-follows : goal.returns-then-follows
returns-then-follows c =
    on_ok_both c.push_at.result (λ rows kinds. λ lines h.
    gathered_kept lines c.args.line c.args.gathered.now.stored.items c.push_at.new.stored.items c.args.gathered.now.loose.items rows (kinds (sym c.is_dir.ensures ∙ c.if-is_dir.false) h.kinds) h)
    c.push_at.ensures.rows c.push_at.ensures.kinds

pub returns : goal.returns
returns c = λ lines h.
    rw c.in_ok-push.ensures.items (gathered_left lines c.args.line c.args.gathered.now.stored.items c.args.gathered.now.loose.items (sym c.is_dir.ensures ∙ c.if-is_dir.false) h)
