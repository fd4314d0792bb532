use Rattle.std.proofs.Common.{◌≡◌, true, refl, sym}
use Rattle.gufi_base.specs.Names.{is_name}
use Rattle.gufi_base.proofs.Children.{read_child}
use Rattle.gufi_base.proofs.path_relations.child_name.Goals as goal

pub returns-then-is_name : goal.returns-then-is_name
returns-then-is_name c =
    let named : is_name c.in_ok-name.name.now ≡ true = sym c.if-is_name.ensures in (
      named,
      read_child c.args.root.now c.args.parent.now c.args.bytes.now _ c.in_ok-below.below.now c.in_ok-name.name.now c.requires.root c.requires.parent refl c.in_ok-below.ensures c.in_ok-name.ensures named
          c.if-is_within_limits.ensures.short c.if-is_within_limits.ensures.few,
    )
