use Rattle.std.proofs.Common.{◌≡◌, ◌∙◌, ◌++◌, length, take, sym, ap, subst}
use Rattle.std.specs.Prelude.{map}
use Rattle.std.proofs.Math.Seq.{take-append_seam}
use Rattle.gufi_rows.specs.RowLists.{AreRecords, kept_behind, rows_in}
use Rattle.gufi_rows.proofs.Behind.{AreRecords-append, rows_in-append}
use Rattle.gufi_rows.proofs.RowLists.{AreRecords-grows}
use Rattle.gufi_rows.proofs.row_list.RowList.append.Goals as goal

pub invariant_of-self-in-Ok : goal.invariant_of-self-in-Ok
invariant_of-self-in-Ok c =
    let links = c.self.inside.links.items in
    let more = c.other.inside.links.items in
    let records = c.self.inside.records.items in
    let also = c.other.inside.records.items in
    let whole : c.put_text.new.text.items ≡ links ++ more = c.in_ok-by.ensures.put ∙ ap (λ t. links ++ t) c.as_slice.ensures.value in
    let all : c.put_records.new.records.items ≡ records ++ map (kept_behind (length links)) also =
    c.in_default.ensures.put ∙ ap (λ l. records ++ map (kept_behind c.in_ok-by.by) l) c.as_slice-2.ensures.value ∙ ap (λ n. records ++ map (kept_behind n) also) c.in_ok-by.ensures.place in
    subst (λ t. AreRecords t c.append.new.self c.put_records.new.records.items) (sym whole)
    (subst (AreRecords (links ++ more) c.append.new.self) (sym all)
    (subst (λ ps. AreRecords (links ++ more) ps (records ++ map (kept_behind (length links)) also)) (sym c.in-Ok.ensures.appended)
    (AreRecords-append links more c.self.inside.paths c.other.inside.paths records also c.self.invariant c.other.invariant)))

pub returns-in-Ok : goal.returns-in-Ok
returns-in-Ok c =
    let links = c.self.inside.links.items in
    let more = c.other.inside.links.items in
    let records = c.self.inside.records.items in
    let also = c.other.inside.records.items in
    let whole : c.put_text.new.text.items ≡ links ++ more = c.in_ok-by.ensures.put ∙ ap (λ t. links ++ t) c.as_slice.ensures.value in
    let all : c.put_records.new.records.items ≡ records ++ map (kept_behind (length links)) also =
    c.in_default.ensures.put ∙ ap (λ l. records ++ map (kept_behind c.in_ok-by.by) l) c.as_slice-2.ensures.value ∙ ap (λ n. records ++ map (kept_behind n) also) c.in_ok-by.ensures.place in
    ap (λ t. rows_in t c.append.new.self c.put_records.new.records.items) whole ∙ ap (rows_in (links ++ more) c.append.new.self) all
    ∙ ap (λ ps. rows_in (links ++ more) ps (records ++ map (kept_behind (length links)) also)) c.in-Ok.ensures.appended
    ∙ rows_in-append links more c.self.inside.paths c.other.inside.paths records also c.self.invariant c.other.invariant
    ∙ ap (λ l. l ++ rows_in more c.other.inside.paths also) c.self.view_is ∙ ap (λ l. c.args.self.now ++ l) c.other.view_is

pub invariant_of-self-in-Err-append : goal.invariant_of-self-in-Err-append
invariant_of-self-in-Err-append c =
    let records = c.self.inside.records.items in
    let back : c.truncate-in-Err-append.new.self.items ≡ records =
    c.truncate-in-Err-append.ensures.items ∙ ap (λ n. take n c.put_records.new.records.items) (c.len-count.ensures ∙ c.self.inside.records.ok.0)
    ∙ ap (take (length records)) c.in_default.ensures.put ∙ take-append_seam records (map (kept_behind c.in_ok-by.by) c.as_slice-2.result.now) in
    subst (AreRecords c.put_text.new.text.items c.append.new.self) (sym back)
    (subst (λ ps. AreRecords c.put_text.new.text.items ps records) (sym c.in-Err-append.ensures.unchanged) (AreRecords-grows _ _ _ _ c.put_text.ensures.grown c.self.invariant))
