use Rattle.std.proofs.Common.{◌≡◌, ◌∙◌, length, sym, arith}
use Rattle.gufi_access.specs.Access.{rights}
use Rattle.gufi_access.proofs.EntryLemmas.{class_for_mode}
use Rattle.gufi_access.proofs.class.class_of.Goals as goal

pub returns-then-is_empty : goal.returns-then-is_empty
returns-then-is_empty c =
    let none : length c.args.of.now.acl.now ≡ 0 = grind arith in
    c.class_by_mode.ensures ∙ sym (class_for_mode c.args.who.now (rights c.args.of.now) none)
