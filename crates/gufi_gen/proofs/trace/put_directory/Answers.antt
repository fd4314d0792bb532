use Rattle.std.proofs.Common.{List, ℕ, ◌++◌, ap, ◌∙◌}
use Rattle.gufi_gen.specs.Generated.{directory_meta, linkless}
use Rattle.gufi_gen.specs.Lines.{made_path_text}
use Rattle.gufi_line.specs.LineParts.{rec_text}
use Rattle.gufi_line.proofs.Writes.{append_ok}
use Rattle.gufi_gen.proofs.Lines.{directory_parts}
use Rattle.gufi_gen.proofs.trace.put_directory.Goals as goal

pub returns : goal.returns
returns c =
    let old = c.args.out.now.items in
    append_ok c.put_record.result old c.put.new.out.items c.put_record.new.out.items (made_path_text c.args.number) (rec_text c.args.delim (linkless (directory_meta c.args.number))) _
    (c.in_ok-put.ensures ∙ ap (λ (t : List ℕ). old ++ t) c.requires) (rw (c.of.ensures, c.directory_meta-meta.ensures) at c.put_record.ensures)
    (directory_parts c.args.delim c.args.number)
