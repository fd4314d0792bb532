use Rattle.std.proofs.Common.{◌≡◌, true, false, sym, ◌∙◌, refl}
use Rattle.gufi_access.specs.Seen.{seen, groups_kept}
use Rattle.gufi_access.proofs.CoverLemmas.{rules_cover_by}
use Rattle.gufi_access.proofs.cover.rules_cover.Goals as goal

pub returns-then-groups_kept : goal.returns-then-groups_kept
returns-then-groups_kept c =
    let parts = rules_cover_by (seen c.args.d.now) (seen c.args.c.now) _ _ c.admits_all-all.ensures c.admits_none-none.ensures in
    let kept : groups_kept c.admits_all-all.result (seen c.args.d.now) (seen c.args.c.now) ≡ true = sym c.groups_kept.ensures ∙ c.if-groups_kept.true in
    c.users_stay.ensures ∙ sym (parts ∙ rw kept refl)

pub returns-else-groups_kept : goal.returns-else-groups_kept
returns-else-groups_kept c =
    let parts = rules_cover_by (seen c.args.d.now) (seen c.args.c.now) _ _ c.admits_all-all.ensures c.admits_none-none.ensures in
    let kept : groups_kept c.admits_all-all.result (seen c.args.d.now) (seen c.args.c.now) ≡ false = sym c.groups_kept.ensures ∙ c.if-groups_kept.false in
    sym (parts ∙ rw kept (sym c.if-groups_kept.false))
