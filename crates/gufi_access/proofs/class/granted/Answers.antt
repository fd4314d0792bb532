use Rattle.std.proofs.Common.{◌≡◌, length, sym, arith}
use Rattle.gufi_access.specs.Access.{rights}
use Rattle.gufi_access.proofs.EntryLemmas.{granted_mode}
use Rattle.gufi_access.proofs.class.granted.Goals as goal

pub returns-then-is_empty : goal.returns-then-is_empty
returns-then-is_empty c =
    let none : length c.args.of.now.acl.now ≡ 0 = grind arith in
    rw (c.bits_of.ensures, c.class_by_mode.ensures) (sym (granted_mode c.args.who.now (rights c.args.of.now) c.args.want c.if-who-eq0.false none))
