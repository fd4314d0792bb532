use Rattle.std.proofs.Common.{◌≡◌, ◌∙◌, [], ◌∷◌, ◌++◌, length, refl, ap, arith}
use Rattle.std.proofs.lemmas.Result.{err_from_is_err_and}
use Rattle.gufi_page.specs.declared.page.Packed.{Packed}
use Rattle.gufi_page.specs.Packed.{number_at, row_in, rows_in, stem_in}
use Rattle.gufi_page.proofs.Numbers.{number_last}
use Rattle.gufi_page.proofs.Pages.{IsPage-goes_on, IsPage-push, IsRow-put, base_name_short, row_in-put, rows_in-goes_on, rows_in-push}
use Rattle.gufi_page.proofs.page.Page.push.Goals as goal

pub put_parts-requires-clause-base : goal.put_parts-requires-clause-base
put_parts-requires-clause-base c = let row = c.requires in omega (arith, ap length row.1.base, base_name_short row.0.path row.1.names)

pub invariant_of-self : goal.invariant_of-self
invariant_of-self c = IsPage-goes_on _ _ _ _ _ c.put_parts.ensures.goes_on c.self.inside.rows.items (omega (arith, c.len-first.ensures)) c.self.invariant

pub returns-in_err-ends-clause-unchanged : goal.returns-in_err-ends-clause-unchanged
returns-in_err-ends-clause-unchanged c =
    let p = err_from_is_err_and c.from_residual.result c.from_residual.ensures.1 in
    rw p.1 (rows_in-goes_on _ _ _ _ _ c.put_parts.ensures.goes_on c.self.inside.rows.items (omega (arith, c.len-first.ensures)) c.self.invariant ∙ c.self.view_is)

pub invariant_of-self-in_err-push : goal.invariant_of-self-in_err-push
invariant_of-self-in_err-push c =
    rw c.in_err-push.ensures.items (IsPage-goes_on _ _ _ _ _ c.put_parts.ensures.goes_on c.self.inside.rows.items (omega (arith, c.len-first.ensures)) c.self.invariant)

pub returns-in_err-push-clause-unchanged : goal.returns-in_err-push-clause-unchanged
returns-in_err-push-clause-unchanged c =
    let p = err_from_is_err_and c.from_residual-in_err-push.result c.from_residual-in_err-push.ensures.1 in
    rw p.1 (ap (rows_in c.put_parts.new.text.items c.put_parts.new.stems.items) c.in_err-push.ensures.items
    ∙ rows_in-goes_on _ _ _ _ _ c.put_parts.ensures.goes_on c.self.inside.rows.items (omega (arith, c.len-first.ensures)) c.self.invariant ∙ c.self.view_is)

pub invariant_of-self-2 : goal.invariant_of-self-2
invariant_of-self-2 c =
    let text = c.put_parts.new.text.items in
    let stems = c.put_parts.new.stems.items in
    let rows = c.self.inside.rows.items in
    let packed : Packed = record { meta = c.args.row.meta.now; ends = c.in_ok-ends.ends } in
    let page = IsPage-goes_on _ _ _ _ _ c.put_parts.ensures.goes_on rows (omega (arith, c.len-first.ensures)) c.self.invariant in
    rw c.in_ok-push.ensures.items
    (IsPage-push text stems rows packed page
    (IsRow-put text stems (length rows) packed c.args.row c.requires.0 (number_last stems (length rows) page.begin) c.in_ok-ends.ensures.put refl c.requires.1)
    (omega (arith, c.if-len.false, c.len.ensures)))

pub returns-clause-pushed : goal.returns-clause-pushed
returns-clause-pushed c = λ of stands.
    let text = c.put_parts.new.text.items in
    let stems = c.put_parts.new.stems.items in
    let rows = c.self.inside.rows.items in
    let packed : Packed = record { meta = c.args.row.meta.now; ends = c.in_ok-ends.ends } in
    let same : length rows ≡ c.len-first.result = omega (arith, c.len-first.ensures) in
    let page = IsPage-goes_on _ _ _ _ _ c.put_parts.ensures.goes_on rows same c.self.invariant in
    ap (rows_in text stems) c.in_ok-push.ensures.items ∙ rows_in-push text stems rows packed
    ∙ ap (λ l. l ++ row_in text (stem_in text stems (number_at stems (length rows))) packed ∷ []) (rows_in-goes_on _ _ _ _ _ c.put_parts.ensures.goes_on rows same c.self.invariant ∙ c.self.view_is)
    ∙ ap (λ r. c.args.self.now ++ r ∷ [])
    (row_in-put text stems (length rows) packed c.args.row of (number_last stems (length rows) page.begin) c.in_ok-ends.ensures.put refl stands)
