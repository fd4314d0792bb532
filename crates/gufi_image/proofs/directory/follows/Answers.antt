use Rattle.std.proofs.Common.{ap, ◌∙◌, ◌-◌, arith, get_or}
use Rattle.std.specs.declared.cmp.Ordering.{Ordering}
use Rattle.std.specs.Ordering.{is_lt}
use Rattle.gufi_base.specs.Paths.{Components, path_cmp}
use Rattle.gufi_image.proofs.Searches.{follows_none, last_directory}
use Rattle.gufi_image.proofs.directory.follows.Goals as goal

pub returns-then-count-eq0 : goal.returns-then-count-eq0
returns-then-count-eq0 c = follows_none c.args.before.now.dirs c.args.path.now (omega (arith, c.len-count.ensures, c.if-count-eq0.true))

pub returns : goal.returns
returns c =
    c.is_lt.ensures
    ∙ ap (λ (o : Ordering). is_lt o) (c.text_cmp.ensures.paths c.path.result c.args.path.now c.text.ensures.names c.text-2.ensures.names c.text.ensures.text c.text-2.ensures.text ∙ ap (λ (p : Components). path_cmp p c.args.path.now) c.path.ensures)
    ∙ last_directory c.args.before.now.dirs c.at.result c.args.path.now (omega (arith, c.len-count.ensures, c.if-count-eq0.false)) (λ d. c.at.ensures d ∙ ap (λ n. get_or c.args.before.now.dirs (n - 1) d) c.len-count.ensures)
