use Rattle.std.proofs.Common.{◌≡◌, ℕ, ◌+◌, List, [], ◌∷◌, ◌++◌, map, ap, ◌∙◌}
use Rattle.gufi_tree.specs.declared.tree.Entry.{Entry}
use Rattle.gufi_tree.specs.Tree.{dir_row, entry_row}
use Rattle.gufi_info.specs.Census.{census_of}
use Rattle.gufi_info.proofs.Counted.{directory-first, directory-rest}
use Rattle.gufi_info.proofs.census.Census.with_directory.Goals as goal

pub returns : goal.returns
returns c = λ rows found.
    let dir = c.args.dir.now in
    let first : c.with.result ≡ census_of (rows ++ dir_row dir ∷ []) = c.with.ensures ∙ directory-first rows dir c.args.self c.depth.result c.rec.result found c.depth.ensures c.rec.ensures in
    c.with_entries.ensures (rows ++ dir_row dir ∷ []) dir.path first (ap (λ (n : ℕ). n + 1) c.depth-2.ensures)
    ∙ ap (λ (es : List Entry). census_of ((rows ++ dir_row dir ∷ []) ++ map (entry_row dir.path) es)) c.entries.ensures ∙ directory-rest rows dir
