use Rattle.gufi_line.proofs.Writes.{append_ok}
use Rattle.gufi_gen.proofs.Lines.{stanza_parts}
use Rattle.gufi_gen.proofs.trace.put_stanza.Goals as goal

pub returns : goal.returns
returns c =
    append_ok c.put_entries.result c.args.out.now.items c.put_directory.new.out.items c.put_entries.new.out.items _ _ _ c.in_ok-put_directory.ensures c.put_entries.ensures
    (stanza_parts c.args.delim c.args.number)
