use Rattle.indexmap.specs.IndexMap.{values}
use Rattle.gufi_users.specs.Members.{GidLists, noted_rows, HaveMore}
use Rattle.gufi_users.proofs.members.note_groups.Given as goal

abbrev pub invariant-groups : goal.invariant-groups
invariant-groups l =
    (after : GidLists) → HaveMore (λ name. noted_rows name l.group-iterator) l.gids.entries after → HaveMore (λ name. noted_rows name (values l.rows)) l.initial.gids.entries after
