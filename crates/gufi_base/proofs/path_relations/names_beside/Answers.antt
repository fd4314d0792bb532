use Rattle.std.proofs.Common.{◌≡◌, ℕ, true, List, take, sym, ap, ◌∙◌}
use Rattle.std.specs.List.{list_all}
use Rattle.std.proofs.lemmas.List.{take_rest}
use Rattle.gufi_base.specs.Basics.{split}
use Rattle.gufi_base.specs.Names.{is_name}
use Rattle.gufi_base.proofs.Beside.{named_beside}
use Rattle.gufi_base.proofs.Children.{read_behind}
use Rattle.gufi_base.proofs.path_relations.names_beside.Goals as goal

pub returns-then-are_plain_or_one : goal.returns-then-are_plain_or_one
returns-then-are_plain_or_one c =
    let rest = c.in_ok-rest.rest.now in
    let same = c.common_front-same in
    let cut = c.behind_last_slash-cut in
    let front = same.ensures.same ∙ ap (take same.result) (take_rest c.args.known.now 1) in
    let plain = ap (λ (t : List ℕ). list_all is_name (split 47 t)) (sym (take_rest rest cut.result)) ∙ c.if-are_plain_or_one.ensures in
    let named : list_all is_name (split 47 rest) ≡ true =
    named_beside rest c.args.known.now same.result cut.result c.requires.known front same.ensures.within_a cut.ensures.within cut.ensures.slash plain in
    (named, read_behind c.args.root.now c.args.bytes.now rest c.requires.root named c.in_ok-rest.ensures c.if-is_within_limits.ensures.short c.if-is_within_limits.ensures.few)
