use Rattle.std.proofs.Common.{◌≡◌, true, refl, sym, ap, ◌∙◌}
use Rattle.std.specs.List.{list_all}
use Rattle.std.proofs.lemmas.Bool.{and_from, OnTrue_from}
use Rattle.gufi_base.specs.Basics.{split}
use Rattle.gufi_base.specs.Names.{is_name}
use Rattle.gufi_base.proofs.Names.{name_has_no}
use Rattle.gufi_base.proofs.Parts.{split_one}
use Rattle.gufi_base.proofs.plain.are_plain_or_one.Goals as goal

pub returns-then-is_name : goal.returns-then-is_name
returns-then-is_name c =
    let bytes = c.args.bytes.now in
    OnTrue_from _ (list_all is_name (split 47 bytes) ≡ true) (λ e.
    let h : is_name bytes ≡ true = sym c.is_name.ensures ∙ e in
    ap (list_all is_name) (split_one 47 bytes (name_has_no bytes h)) ∙ and_from _ _ h refl)
