use Rattle.std.proofs.Common.{List, ℕ, ◌++◌, ◌∷◌, [], ap, sym, ◌∙◌, append_assoc}
use Rattle.gufi_base.specs.Paths.{slashed_text}
use Rattle.gufi_line.proofs.Writes.{append_ok, entry_path_text}
use Rattle.gufi_line.proofs.row.put_entry_path.Goals as goal

pub returns : goal.returns
returns c =
    let root = slashed_text c.args.root.now in
    let path = slashed_text c.args.path.now in
    let front = c.in_ok-put.ensures
    ∙ ap (λ (t : List ℕ). t ++ 47 ∷ []) (c.in_ok-put_slashed-2.ensures ∙ ap (λ (t : List ℕ). t ++ path) c.in_ok-put_slashed.ensures)
    ∙ simp append_assoc in
    append_ok c.put-2.result c.args.out.now.items c.put.new.out.items c.put-2.new.out.items (root ++ (path ++ 47 ∷ [])) c.args.name.now _ front c.put-2.ensures
    (entry_path_text c.args.root.now c.args.path.now c.args.name.now ∙ sym (append_assoc root (path ++ 47 ∷ []) c.args.name.now ∙ ap (λ (t : List ℕ). root ++ t) (append_assoc path (47 ∷ []) c.args.name.now)))
