use Rattle.std.proofs.Common.{◌∙◌, sym, ap, arith, length}
use Rattle.std.specs.List.{list_any}
use Rattle.std.proofs.lemmas.Bool.{le-ltb, lt-ltb}
use Rattle.gufi_tree.proofs.TooLong.{none_over, name_over, one_found, none_found, none_at_all}
use Rattle.gufi_tree.proofs.borrowed.EntriesRef.has_name_over.Goals as goal

pub returns-then-bytes-ge255 : goal.returns-then-bytes-ge255
returns-then-bytes-ge255 c = sym (ap (list_any (name_over c.args.bytes)) (sym c.self.view_is) ∙ none_over c.self.inside.text.now c.self.inside.rows c.args.bytes c.if-bytes-ge255.true c.self.invariant.0)

pub returns-then-name-bytes : goal.returns-then-name-bytes
returns-then-name-bytes c =
    let same = ap length c.name.ensures.value in
    one_found (name_over c.args.bytes) c.args.self.now c.loop-place.place c.at.result (omega arith) c.at.ensures (lt-ltb c.args.bytes (length c.at.result.name) (omega arith))

pub loop-place-preserved : goal.loop-place-preserved
loop-place-preserved c =
    let same = ap length c.name.ensures.value in
    none_found (name_over c.args.bytes) c.args.self.now c.loop-place.place c.at.result (omega arith) c.at.ensures c.loop-place.invariant (le-ltb c.args.bytes (length c.at.result.name) (omega arith))

pub returns : goal.returns
returns c = none_at_all (name_over c.args.bytes) c.args.self.now c.loop-place.place (omega arith) c.loop-place.invariant
