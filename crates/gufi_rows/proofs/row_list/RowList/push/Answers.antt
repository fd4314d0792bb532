use Rattle.std.proofs.Common.{◌≡◌, ◌∙◌, [], ◌∷◌, ◌++◌, length, take, ap}
use Rattle.std.proofs.Math.Seq.{take-append_seam}
use Rattle.gufi_base.specs.declared.record.Rec.{Rec}
use Rattle.gufi_base.specs.declared.record.Row.{Row}
use Rattle.gufi_rows.specs.RowLists.{rec_in, rows_in}
use Rattle.gufi_rows.proofs.RowLists.{AreRecords-grows, AreRecords-push, rows_in-grows, rows_in-push}
use Rattle.gufi_rows.proofs.row_list.RowList.push.Goals as goal

pub invariant_of-self-in-Ok : goal.invariant_of-self-in-Ok
invariant_of-self-in-Ok c =
    let of = c.requires.0 in
    let stands = c.requires.1 in
    rw (c.in-Ok.ensures.pushed of.path (record { names = stands.names; stem = stands.stem; base = stands.base }), c.in_ok-push.ensures.items)
    (AreRecords-push _ _ c.self.inside.paths c.self.inside.records.items of.path c.in_ok-kept.kept c.keep.ensures.grown c.self.invariant c.in_ok-kept.ensures.within)

pub invariant_of-self-in-Err : goal.invariant_of-self-in-Err
invariant_of-self-in-Err c =
    let records = c.self.inside.records.items in
    let back : c.truncate.new.self.items ≡ records =
    c.truncate.ensures.items ∙ ap (λ n. take n c.push.new.self.items) (c.len-count.ensures ∙ c.self.inside.records.ok.0)
    ∙ ap (take (length records)) c.in_ok-push.ensures.items ∙ take-append_seam records (c.in_ok-kept.kept ∷ []) in
    rw (c.in-Err.ensures.unchanged, back) (AreRecords-grows _ _ _ _ c.keep.ensures.grown c.self.invariant)

pub returns-in-Ok : goal.returns-in-Ok
returns-in-Ok c = λ of stands.
    let s = c.self.inside in
    let links = c.keep.new.links.items in
    let kept = c.in_ok-kept.kept in
    let row : Rec → Row = λ r. record { path = of.path; rec = r } in
    ap (λ ps. rows_in links ps c.push.new.self.items) (c.in-Ok.ensures.pushed of.path (record { names = stands.names; stem = stands.stem; base = stands.base }))
    ∙ ap (rows_in links (s.paths ++ of.path ∷ [])) c.in_ok-push.ensures.items ∙ rows_in-push links s.paths s.records.items of.path kept c.self.invariant.alike
    ∙ ap (λ l. l ++ row (rec_in links kept) ∷ []) (rows_in-grows s.links.items links s.paths s.records.items c.keep.ensures.grown c.self.invariant.each ∙ c.self.view_is)
    ∙ ap (λ r. c.args.self.now ++ row r ∷ []) (c.in_ok-kept.ensures.kept of stands)
