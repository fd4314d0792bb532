use Rattle.std.proofs.Common.{List, ℕ, ◌∷◌, [], ◌++◌, arith, ap, sym, ◌∙◌, append_assoc}
use Rattle.std.specs.Prelude.{decimal, ◌-◌, ◌/◌}
use Rattle.gufi_base.specs.Paths.{slashed_text}
use Rattle.gufi_gen.specs.Generated.{directory_path}
use Rattle.gufi_line.proofs.Writes.{append_ok}
use Rattle.gufi_gen.proofs.Lines.{names_text}
use Rattle.gufi_gen.proofs.trace.+put_names.Goals as goal

pub returns : goal.returns
returns n c =
    let above = slashed_text (directory_path ((c.args.number - 1) / 8)) in
    let front = c.in_ok-put.ensures ∙ ap (λ (t : List ℕ). t ++ 47 ∷ 100 ∷ []) c.in_ok-put_names.ensures ∙ append_assoc c.args.out.now.items above (47 ∷ 100 ∷ []) in
    append_ok c.put_u64.result c.args.out.now.items c.put.new.out.items c.put_u64.new.out.items (above ++ 47 ∷ 100 ∷ []) (decimal c.args.number) _ front (rw c.from.ensures at c.put_u64.ensures.ok)
    (names_text c.args.number (omega arith) ∙ sym (append_assoc above (47 ∷ 100 ∷ []) (decimal c.args.number)))
