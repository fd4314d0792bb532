use Rattle.std.proofs.Common.{List, ℕ, ◌∷◌, [], ◌++◌, ap, sym, ◌∙◌, append_assoc}
use Rattle.std.specs.Prelude.{decimal}
use Rattle.gufi_gen.specs.Generated.{entry_meta, linkless}
use Rattle.gufi_gen.specs.Lines.{made_path_text}
use Rattle.gufi_line.specs.LineParts.{rec_text}
use Rattle.gufi_line.proofs.Writes.{append_ok}
use Rattle.gufi_gen.proofs.Lines.{entry_parts}
use Rattle.gufi_gen.proofs.trace.put_entry.Goals as goal

pub returns : goal.returns
returns c =
    let path = made_path_text c.args.number in
    let old = c.args.out.now.items in
    let name = 47 ∷ 102 ∷ decimal c.args.place in
    let front = (rw c.from.ensures at c.in_ok-put_u64.ensures.ok)
    ∙ ap (λ (t : List ℕ). t ++ decimal c.args.place) (c.in_ok-put-2.ensures ∙ ap (λ (t : List ℕ). t ++ 47 ∷ 102 ∷ []) (c.in_ok-put.ensures ∙ ap (λ (t : List ℕ). old ++ t) c.requires))
    ∙ append_assoc (old ++ path) (47 ∷ 102 ∷ []) (decimal c.args.place) ∙ append_assoc old path name in
    append_ok c.put_record.result old c.put_u64.new.out.items c.put_record.new.out.items (path ++ name) (rec_text c.args.delim (linkless (entry_meta c.args.number c.args.place))) _ front (rw (c.of.ensures, c.entry_meta-meta.ensures) at c.put_record.ensures)
    (entry_parts c.args.delim c.args.number c.args.place ∙ sym (append_assoc path name (rec_text c.args.delim (linkless (entry_meta c.args.number c.args.place)))))
