use Rattle.std.proofs.Common.{◌≡◌, ◌<◌, ◌++◌, ◌∷◌, [], List, length, length-append, arith, refl, ap, ◌∙◌}
use Rattle.std.proofs.lemmas.List.{map-append, length-map}
use Rattle.std.proofs.lemmas.Result.{err_from_is_err_and}
use Rattle.gufi_base.specs.declared.record.Meta.{Meta}
use Rattle.gufi_base.specs.declared.record.Rec.{Rec}
use Rattle.gufi_tree.specs.declared.tree.Entry.{Entry}
use Rattle.gufi_tree.specs.Packs.{Placed, Packs, entries_of}
use Rattle.gufi_image.specs.Views.{entry_seen}
use Rattle.gufi_image.proofs.EntryLoop.{entry_goes_on, entry_refused, one_more}
use Rattle.gufi_image.proofs.entry.take_entries.Goals as goal

pub returns-in_err-entry-clause-halts : goal.returns-in_err-entry-clause-halts
returns-in_err-entry-clause-halts c =
    let p = err_from_is_err_and c.from_residual.result c.from_residual.ensures.1 in
    let before : List Entry = entries_of c.entries.packing.pending in
    let lt : length before < c.args.count = omega (arith, c.entries-test.true, c.pending_len.ensures, length-map c.entries.packing.pending (λ (p : Placed). p.entry)) in
    rw (p.1, p.2) (entry_refused c.args.width c.args.above.now c.args.count before before c.entries.rest.now c.in_err-entry.field-0.0 refl lt c.in_err-entry.ensures.gives)

pub entries-preserved : goal.entries-preserved
entries-preserved c =
    let old = c.entries.packing.pending in
    let new = c.push.new.self.pending in
    let before : List Entry = entries_of old in
    let entry : Entry = entry_seen c.in_ok-entry.entry in
    let with_rec : Rec → Entry = λ r. record { name = c.in_ok-entry.entry.name.now; rec = r } in
    let with_meta : Meta → Rec = λ m. record { meta = m; link = entry.rec.link; xattrs = entry.rec.xattrs; acl = entry.rec.acl } in
    let rec : c.rec_ref.result ≡ entry.rec = c.rec_ref.ensures ∙ ap with_meta c.meta-meta.ensures in
    let one : Placed = record { entry = with_rec c.rec_ref.result; place = 0 } in
    let push : entries_of new ≡ before ++ entry ∷ [] = ap (λ (p : Packs). entries_of p.pending) c.in_ok-push.ensures.pushed ∙ map-append (λ (p : Placed). p.entry) old (one ∷ []) ∙ ap (λ (r : Rec). before ++ with_rec r ∷ []) rec in
    let lt : length before < c.args.count = omega (arith, c.entries-test.true, c.pending_len.ensures, length-map old (λ (p : Placed). p.entry)) in
    let longer = ap (λ (es : List Entry). length es) push ∙ length-append before (entry ∷ []) in
    record {
      dirs = ap (λ (p : Packs). p.dirs) c.in_ok-push.ensures.pushed ∙ c.entries.invariant.dirs;
      same = λ more. c.entries.invariant.same more ∙ entry_goes_on c.args.width c.args.above.now c.args.count before before (entries_of new) c.entries.rest.now c.in_ok-entry.after.now more entry
          refl lt c.in_ok-entry.ensures.gives push;
      entries = one_more before before (entries_of new) entry refl push c.entries.invariant.entries c.in_ok-entry.ensures.order c.in_ok-entry.ensures.kind;
      few = λ within. omega (arith, lt, longer);
    }
