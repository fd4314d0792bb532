use Rattle.std.proofs.Common.{◌<◌, ◌∙◌, [], arith, sym, ap, subst, refl, length, get_or}
use Rattle.gufi_base.specs.Rows.{Stands}
use Rattle.gufi_base.specs.Extras.{AreKept, kept_acl, kept_xattrs}
use Rattle.gufi_rows.specs.PathLists.{IsSpan, bytes_in}
use Rattle.gufi_rows.specs.RowLists.{IsKept, no_row, rec_in}
use Rattle.gufi_rows.proofs.RowLists.{length-rows_in, row_in, Stands-row}
use Rattle.gufi_rows.proofs.row_list.RowList.row_at.Goals as goal

pub index-kept-requires : goal.index-kept-requires
index-kept-requires c =
    let s = c.self.inside in
    omega (arith, c.requires, s.records.ok.0, length-rows_in s.links.items s.paths s.records.items c.self.invariant.alike, ap length c.self.view_is)

pub bytes_at-requires : goal.bytes_at-requires
bytes_at-requires c =
    let s = c.self.inside in
    let kept = c.index-kept.result.now in
    let within : c.args.place < length s.records.items =
    omega (arith, c.requires, length-rows_in s.links.items s.paths s.records.items c.self.invariant.alike, ap length c.self.view_is) in
    subst (λ t. IsSpan t kept.link) (sym c.as_slice-links.ensures.value) (subst (IsKept s.links.items) (sym c.index-kept.ensures) (c.self.invariant.each c.args.place kept within)).0

pub xattrs_at-requires : goal.xattrs_at-requires
xattrs_at-requires c =
    let s = c.self.inside in
    let kept = c.index-kept.result.now in
    let within : c.args.place < length s.records.items =
    omega (arith, c.requires, length-rows_in s.links.items s.paths s.records.items c.self.invariant.alike, ap length c.self.view_is) in
    subst (λ t. AreKept t kept.link.end kept.extras) (sym c.as_slice-links.ensures.value) (subst (IsKept s.links.items) (sym c.index-kept.ensures) (c.self.invariant.each c.args.place kept within)).1

pub acl_at-requires : goal.acl_at-requires
acl_at-requires c =
    let s = c.self.inside in
    let kept = c.index-kept.result.now in
    let within : c.args.place < length s.records.items =
    omega (arith, c.requires, length-rows_in s.links.items s.paths s.records.items c.self.invariant.alike, ap length c.self.view_is) in
    subst (λ t. AreKept t kept.link.end kept.extras) (sym c.as_slice-links.ensures.value) (subst (IsKept s.links.items) (sym c.index-kept.ensures) (c.self.invariant.each c.args.place kept within)).1

pub returns : goal.returns
returns c =
    let s = c.self.inside in
    let place = c.args.place in
    let kept = c.index-kept.result.now in
    let links = c.as_slice-links.ensures.value in
    let within : place < length s.records.items =
    omega (arith, c.requires, length-rows_in s.links.items s.paths s.records.items c.self.invariant.alike, ap length c.self.view_is) in
    let at = row_in s.links.items s.paths s.records.items place kept c.self.invariant.alike within c.index-kept.ensures in
    subst (Stands _) (sym (ap (λ rows. get_or rows place no_row) (sym c.self.view_is) ∙ at))
    (Stands-row _ (get_or s.paths place []) (rec_in s.links.items kept) c.parts_at-parts.ensures refl (c.bytes_at.ensures ∙ ap (λ t. bytes_in t kept.link) links)
    (c.xattrs_at.ensures ∙ ap (λ t. kept_xattrs t kept.link.end kept.extras) links) (c.acl_at.ensures ∙ ap (λ t. kept_acl t kept.link.end kept.extras) links))
