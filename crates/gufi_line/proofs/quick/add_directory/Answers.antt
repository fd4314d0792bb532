use Rattle.std.proofs.Common.{sym, ◌∙◌}
use Rattle.gufi_base.specs.Basics.{split}
use Rattle.gufi_line.proofs.SoundLines.{placed_directory}
use Rattle.gufi_line.proofs.quick.add_directory.Goals as goal

pub returns : goal.returns
returns c =
    let fits = sym c.has_max_dirs.ensures ∙ c.if-has_max_dirs.false in
    (c.in_ok-path.path, placed_directory c.args.root.now c.args.lines.now _ c.args.content.now.path.now (split 47 c.in-Some-names_beside.names.now) c.in_ok-path.path c.in-Some-names_beside.ensures.1 c.in_ok-path.ensures c.requires fits, rw (c.in_ok-copy.ensures, c.of-rec.ensures) at c.in_ok-push_dir.ensures)
