use Rattle.gufi_line.proofs.Writes.{append_ok, line_text}
use Rattle.gufi_line.proofs.row.put_directory.Goals as goal

pub returns : goal.returns
returns c = append_ok c.put_record.result _ c.put_path.new.out.items _ _ _ _ c.in_ok-put_path.ensures c.put_record.ensures (line_text c.args.delim c.args.root.now (record { path = c.args.path.now; rec = c.args.rec.now }))
