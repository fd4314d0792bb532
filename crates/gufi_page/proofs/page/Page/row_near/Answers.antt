use Rattle.std.proofs.Common.{◌≡◌, ◌∙◌, length, refl, sym, ap, subst, arith}
use Rattle.std.proofs.lemmas.List.{get_or_default}
use Rattle.gufi_page.specs.Packed.{IsIn, IsWithin, acl_in, base_in, bytes_in, link_in, no_stem, number_at, stem_in, xattrs_in}
use Rattle.gufi_page.proofs.Pages.{length-rows_in, IsRow-at, Stands-at}
use Rattle.gufi_page.proofs.page.Page.row_near.Goals as goal

pub index-packed-requires : goal.index-packed-requires
index-packed-requires c =
    let s = c.self.inside in
    omega (arith, c.requires, s.rows.ok.0, length-rows_in s.text.items s.stems.items s.rows.items, ap length c.self.view_is)

pub index-requires : goal.index-requires
index-requires c =
    let s = c.self.inside in
    let row = IsRow-at s.text.items s.stems.items s.rows.items c.args.self.now c.args.place c.index-packed.result.now c.self.invariant c.self.view_is c.requires c.index-packed.ensures in
    let number : c.number_near-number.result ≡ number_at s.stems.items c.args.place = c.number_near-number.ensures ∙ ap (λ l. number_at l c.args.place) c.as_slice.ensures.value in
    omega (arith, number, row.stem, s.stems.ok.0)

pub bytes_at-requires : goal.bytes_at-requires
bytes_at-requires c =
    let s = c.self.inside in
    let row = IsRow-at s.text.items s.stems.items s.rows.items c.args.self.now c.args.place c.index-packed.result.now c.self.invariant c.self.view_is c.requires c.index-packed.ensures in
    let number : c.number_near-number.result ≡ number_at s.stems.items c.args.place = c.number_near-number.ensures ∙ ap (λ l. number_at l c.args.place) c.as_slice.ensures.value in
    subst (λ t. IsIn t c.index.result.now) (sym c.as_slice-text.ensures.value)
    (subst (IsIn s.text.items) (sym c.index.ensures) (c.self.invariant.stems_in c.number_near-number.result c.index.result.now (omega (arith, number, row.stem))))

pub base_at-requires : goal.base_at-requires
base_at-requires c =
    let s = c.self.inside in
    let row = IsRow-at s.text.items s.stems.items s.rows.items c.args.self.now c.args.place c.index-packed.result.now c.self.invariant c.self.view_is c.requires c.index-packed.ensures in
    subst (λ t. IsWithin t c.index-packed.result.now.ends) (sym c.as_slice-text.ensures.value) row.within

pub link_at-requires : goal.link_at-requires
link_at-requires c =
    let s = c.self.inside in
    let row = IsRow-at s.text.items s.stems.items s.rows.items c.args.self.now c.args.place c.index-packed.result.now c.self.invariant c.self.view_is c.requires c.index-packed.ensures in
    subst (λ t. IsWithin t c.index-packed.result.now.ends) (sym c.as_slice-text.ensures.value) row.within

pub names_at-requires : goal.names_at-requires
names_at-requires c =
    let s = c.self.inside in
    let row = IsRow-at s.text.items s.stems.items s.rows.items c.args.self.now c.args.place c.index-packed.result.now c.self.invariant c.self.view_is c.requires c.index-packed.ensures in
    subst (λ t. IsWithin t c.index-packed.result.now.ends) (sym c.as_slice-text.ensures.value) row.within

pub acl_behind-requires : goal.acl_behind-requires
acl_behind-requires c =
    let s = c.self.inside in
    let row = IsRow-at s.text.items s.stems.items s.rows.items c.args.self.now c.args.place c.index-packed.result.now c.self.invariant c.self.view_is c.requires c.index-packed.ensures in
    subst (λ t. IsWithin t c.index-packed.result.now.ends) (sym c.as_slice-text.ensures.value) row.within

pub returns : goal.returns
returns c =
    let s = c.self.inside in
    let text = s.text.items in
    let stems = s.stems.items in
    let packed = c.index-packed.result.now in
    let n = c.number_near-number.result in
    let stem = c.index.result.now in
    let row = IsRow-at text stems s.rows.items c.args.self.now c.args.place packed c.self.invariant c.self.view_is c.requires c.index-packed.ensures in
    let number : n ≡ number_at stems c.args.place = c.number_near-number.ensures ∙ ap (λ l. number_at l c.args.place) c.as_slice.ensures.value in
    let there = c.as_slice-text.ensures.value in
    Stands-at text stems s.rows.items c.args.self.now c.args.place packed c.self.invariant c.self.view_is c.requires c.index-packed.ensures _
    (c.bytes_at.ensures ∙ ap (λ t. bytes_in t stem) there ∙ ap (bytes_in text) (c.index.ensures ∙ get_or_default stems n stem no_stem (omega (arith, number, row.stem))) ∙ ap (stem_in text stems) number)
    (c.base_at.ensures ∙ ap (λ t. base_in t packed.ends) there) refl (c.link_at.ensures ∙ ap (λ t. link_in t packed.ends) there)
    (c.names_at.ensures ∙ ap (λ t. xattrs_in t packed.ends) there) (c.acl_behind.ensures ∙ ap (λ t. acl_in t packed.ends) there)
