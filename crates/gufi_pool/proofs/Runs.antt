-- Pieces for which lists of tasks stand.
use Rattle.std.proofs.Common.{◌≡◌, ℕ, List, [], ◌∷◌, ◌++◌, ◌∙◌, refl, ap}
use Rattle.std.specs.List.{concat}
use Rattle.std.proofs.lemmas.List.{append-nil}
use Rattle.gufi_pool.specs.Members.{HaveRun}
use Rattle.gufi_pool.proofs.Zips.{zip_push}

concat_nothing : (lists : List (List ℕ)) → concat (lists ++ [] ∷ []) ≡ concat lists
concat_nothing [] = refl
concat_nothing (l ∷ ls) = ap (λ r. l ++ r) (concat_nothing ls)

module _ {P : Type 0} (stands : P → List ℕ → Type 0) (ran : List ℕ) where
  pub run_first : (piece : P) → stands piece ran → HaveRun stands ran (piece ∷ [])
  run_first piece has = record { lists = ran ∷ []; each = (has, tt); all = append-nil ran }

  pub run_more : (pieces : List P) (piece : P) → HaveRun stands ran pieces → stands piece [] → HaveRun stands ran (pieces ++ piece ∷ [])
  run_more pieces piece have has = record {
    lists = have.lists ++ [] ∷ [];
    each = zip_push stands pieces have.lists piece [] have.each has;
    all = concat_nothing have.lists ∙ have.all;
  }
