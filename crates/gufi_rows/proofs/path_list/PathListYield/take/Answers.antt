use Rattle.std.proofs.Common.{◌∙◌, ◌++◌, ◌∷◌, [], sym, ap, append_assoc}
use Rattle.gufi_rows.specs.Runs.{run_paths}
use Rattle.gufi_rows.proofs.PathLists.{paths_pushed}
use Rattle.gufi_rows.proofs.path_list.PathListYield.take.Goals as goal

pub push-requires : goal.push-requires
push-requires c = (c.requires.row.0.path, record { names = c.requires.row.1.names; stem = c.requires.row.1.stem; base = c.requires.row.1.base })

pub returns : goal.returns
returns c = λ of rows stands are.
    let runs = run_paths c.self.inside.runs.items in
    let rest = c.self.inside.rest in
    paths_pushed c.args.self.now (runs ++ c.push.new.self) c.args.row
    (λ path parts. ap (λ l. runs ++ l) (c.in_ok-push.ensures.pushed path parts) ∙ sym (append_assoc runs rest (path ∷ [])) ∙ ap (λ l. l ++ path ∷ []) c.self.view_is)
    of rows stands are
