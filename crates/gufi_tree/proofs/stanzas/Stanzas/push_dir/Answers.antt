use Rattle.std.proofs.Common.{◌≡◌, ◌+◌, List, [], ◌∷◌, ◌++◌, length, refl, sym, ap, ◌∙◌}
use Rattle.gufi_base.specs.declared.record.Line.{Line}
use Rattle.gufi_tree.specs.declared.closed.Begun.{Begun}
use Rattle.gufi_tree.specs.StanzaLines.{IsWhole, lines_in}
use Rattle.gufi_tree.proofs.Ended.{ended_whole, begun_kept, begun_is}
use Rattle.gufi_tree.proofs.stanzas.Stanzas.push_dir.Goals as goal

pub invariant_of-self : goal.invariant_of-self
invariant_of-self c =
    let i = c.self.inside in
    let e = c.end.new.self in
    let b : Begun = record { path = c.args.path; rec = c.args.rec; place = i.count } in
    let lines = lines_in i.closing.packing.dirs i.closing.places.items i.begun i.closing.packing.pending in
    let whole : IsWhole lines e.packing.dirs e.places.items e.distinct = ended_whole i.closing.packing.dirs e.packing.dirs i.closing.places.items e.places.items i.closing.distinct e.distinct i.begun i.closing.packing.pending i.count i.dirs c.self.invariant (rw (sym c.replace-before.ensures.value) c.in-Ok.ensures.ended) in
    rw (c.replace-before.ensures.after, c.in-Ok.ensures.none)
    (begun_kept lines e.packing.dirs e.places.items e.distinct b i.count i.dirs whole c.self.invariant.counted c.self.invariant.dir_lines c.requires.kind refl)

pub returns-in-Ok : goal.returns-in-Ok
returns-in-Ok c =
    let i = c.self.inside in
    let e = c.end.new.self in
    let b : Begun = record { path = c.args.path; rec = c.args.rec; place = i.count } in
    let lines = lines_in i.closing.packing.dirs i.closing.places.items i.begun i.closing.packing.pending in
    let whole : IsWhole lines e.packing.dirs e.places.items e.distinct = ended_whole i.closing.packing.dirs e.packing.dirs i.closing.places.items e.places.items i.closing.distinct e.distinct i.begun i.closing.packing.pending i.count i.dirs c.self.invariant (rw (sym c.replace-before.ensures.value) c.in-Ok.ensures.ended) in
    let count : i.count ≡ length c.args.self.now = sym c.self.invariant.counted ∙ ap (λ (ls : List Line). length ls) c.self.view_is in
    rw (c.replace-before.ensures.after, c.in-Ok.ensures.none)
    (begun_is lines e.packing.dirs e.places.items e.distinct b i.count i.dirs whole c.self.invariant.counted c.self.invariant.dir_lines c.requires.kind refl
    ∙ ap (λ (ls : List Line). ls ++ record { number = i.count + 1; path = c.args.path; rec = c.args.rec } ∷ []) c.self.view_is
    ∙ ap (λ n. c.args.self.now ++ record { number = n + 1; path = c.args.path; rec = c.args.rec } ∷ []) count)
