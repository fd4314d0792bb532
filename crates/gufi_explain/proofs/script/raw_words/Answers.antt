use Rattle.std.proofs.Common.{rules, tests}
use Rattle.std.specs.Prelude.{not}
use Rattle.std.proofs.lemmas.Iterator.Consumers.{YieldsList-at, YieldsList-from_filter, map_from_collect}
use Rattle.std.proofs.lemmas.Iterator.Splits.{YieldsList-from_slice_split}
use Rattle.gufi_base.specs.Basics.{is_empty}
use Rattle.gufi_script.specs.ScriptWords.{separates_words}
use Rattle.gufi_explain.proofs.script.raw_words.Goals as goal

pub returns : goal.returns
returns c = map_from_collect _ c.collect.ensures.ran
    (YieldsList-from_filter _ (λ part. not (is_empty part))
    (YieldsList-at c.filter.ensures.source (YieldsList-from_slice_split _ separates_words c.args.line.now c.split.ensures.rest c.split.ensures.done c.split.ensures.closure (λ x b q k. search rules)))
    c.filter.ensures.closure (λ x b q k. search (rules, tests)))
