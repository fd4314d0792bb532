use Rattle.std.proofs.Common.{◌≡◌, ◌+◌, ◌<◌, List, [], ◌∷◌, ◌++◌, length, reverse, refl, sym, ap, ◌∙◌, arith}
use Rattle.gufi_base.specs.declared.record.Line.{Line}
use Rattle.gufi_tree.specs.Packs.{Placed}
use Rattle.gufi_tree.specs.StanzaLines.{stanza_holds}
use Rattle.gufi_tree.proofs.Ended.{entry_kept, entry_pushed}
use Rattle.gufi_tree.proofs.stanzas.Stanzas.push_entry.Goals as goal

pub invariant_of-self-2 : goal.invariant_of-self-2
invariant_of-self-2 c =
    let i = c.self.inside in
    let x : Placed = record { entry = record { name = c.args.name.now; rec = c.args.rec.now }; place = i.count } in
    let some : 0 < i.count = (let a = c.requires.some in let b = ap (λ (ls : List Line). length ls) c.self.view_is in let d = c.self.invariant.counted in omega arith) in
    rw c.in_ok-push.ensures.pushed (entry_kept i.closing.packing.dirs i.closing.places.items i.closing.distinct i.begun i.closing.packing.pending x i.count i.dirs c.self.invariant some refl c.requires.kind)

pub returns : goal.returns
returns c = λ path holds name.
    let i = c.self.inside in
    let x : Placed = record { entry = record { name = c.args.name.now; rec = c.args.rec.now }; place = i.count } in
    let some : 0 < i.count = (let a = c.requires.some in let b = ap (λ (ls : List Line). length ls) c.self.view_is in let d = c.self.invariant.counted in omega arith) in
    let count : i.count ≡ length c.args.self.now = sym c.self.invariant.counted ∙ ap (λ (ls : List Line). length ls) c.self.view_is in
    rw c.in_ok-push.ensures.pushed
    (entry_pushed i.closing.packing.dirs i.closing.places.items i.closing.distinct i.begun i.closing.packing.pending x i.count i.dirs path c.self.invariant some refl (ap (λ (ls : List Line). stanza_holds (reverse ls) path) c.self.view_is ∙ holds) name
    ∙ ap (λ (ls : List Line). ls ++ record { number = i.count + 1; path = path; rec = c.args.rec.now } ∷ []) c.self.view_is
    ∙ ap (λ n. c.args.self.now ++ record { number = n + 1; path = path; rec = c.args.rec.now } ∷ []) count)
