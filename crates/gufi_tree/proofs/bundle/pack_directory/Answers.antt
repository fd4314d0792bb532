use Rattle.std.proofs.Common.{length, refl, ap, ◌∙◌, arith}
use Rattle.std.proofs.lemmas.List.{length-map}
use Rattle.gufi_tree.specs.declared.bundle.Head.{Head}
use Rattle.gufi_tree.specs.Packs.{entries_of, Placed}
use Rattle.gufi_tree.specs.Tree.{Directory}
use Rattle.gufi_tree.proofs.GoingOn.{directory_in-put, IsHead-put, within-goes_on, path-goes_on, link-goes_on, xattrs-goes_on, acl-goes_on}
use Rattle.gufi_tree.proofs.bundle.pack_directory.Goals as goal

pub returns-clause-head : goal.returns-clause-head
returns-clause-head c =
    let rec' = c.args.rec.now in
    let kept = c.text-kept.result.now in
    let mid = c.put_bytes.new.text.items in
    let next = c.push_entries.new.text.items in
    let at = c.in_ok-at.at in
    let extras = c.in_ok-at.extras in
    let put = c.in_ok-at.ensures in
    let more = c.push_entries.ensures.goes_on.bytes in
    let dir : Directory = record { path = c.args.path.now; rec = rec'; entries = entries_of c.args.entries.now } in
    let h : Head = record { meta = c.meta-meta.result.now; at = at; path = c.in_ok-length.length; link = c.in_ok-link.link; depth = c.in_ok-depth.depth; last = c.in_ok-last.last; first = c.in_ok-first.first; count = c.in_ok-count.count; extras = extras } in
    IsHead-put mid next c.args.rows.now c.push_entries.new.rows h dir kept rec'.link c.in_ok-push_entries.ensures.entries
    (within-goes_on mid next at (length kept) (length rec'.link) extras more put.within) (omega (arith, c.in_ok-first.ensures.1)) (omega (arith, c.in_ok-count.ensures.1, length-map c.args.entries.now (λ (p : Placed). p.entry)))
    (omega (arith, c.in_ok-length.ensures.1)) (omega (arith, c.in_ok-link.ensures.1, ap length c.link.ensures)) c.text-kept.ensures.text
    (path-goes_on mid next at (length kept) (length rec'.link) extras more put.within ∙ put.bytes) c.text-kept.ensures.names
    (c.in_ok-depth.ensures.1 ∙ c.depth.ensures) (λ some. c.in_ok-last.ensures.1 ∙ c.last_at.ensures some)

pub returns-clause-directory : goal.returns-clause-directory
returns-clause-directory c =
    let rec' = c.args.rec.now in
    let kept = c.text-kept.result.now in
    let mid = c.put_bytes.new.text.items in
    let next = c.push_entries.new.text.items in
    let at = c.in_ok-at.at in
    let extras = c.in_ok-at.extras in
    let put = c.in_ok-at.ensures in
    let more = c.push_entries.ensures.goes_on.bytes in
    let dir : Directory = record { path = c.args.path.now; rec = rec'; entries = entries_of c.args.entries.now } in
    let h : Head = record { meta = c.meta-meta.result.now; at = at; path = c.in_ok-length.length; link = c.in_ok-link.link; depth = c.in_ok-depth.depth; last = c.in_ok-last.last; first = c.in_ok-first.first; count = c.in_ok-count.count; extras = extras } in
    directory_in-put mid next c.args.rows.now c.push_entries.new.rows h dir kept rec'.link c.in_ok-push_entries.ensures.entries
    (within-goes_on mid next at (length kept) (length rec'.link) extras more put.within) (omega (arith, c.in_ok-first.ensures.1)) (omega (arith, c.in_ok-count.ensures.1, length-map c.args.entries.now (λ (p : Placed). p.entry)))
    (omega (arith, c.in_ok-length.ensures.1)) (omega (arith, c.in_ok-link.ensures.1, ap length c.link.ensures)) c.text-kept.ensures.text
    (path-goes_on mid next at (length kept) (length rec'.link) extras more put.within ∙ put.bytes) c.text-kept.ensures.names
    c.meta-meta.ensures refl (link-goes_on mid next at (length kept) (length rec'.link) extras more put.within ∙ put.link)
    (xattrs-goes_on mid next at (length kept) (length rec'.link) extras more put.within ∙ put.xattrs) (acl-goes_on mid next at (length kept) (length rec'.link) extras more put.within ∙ put.acl)
