-- What the questions ask.
use Rattle.std.specs.Option.{option_copied}
use Rattle.gufi_top.specs.Verdict.{Asking, stat_asking, find_asking, usage_asking, ls_asking, stats_asking, query_asking, agg_asking}
use Rattle.gufi_top.specs.declared.question.Question.{Question}
use Rattle.gufi_top.specs.declared.question.Question.TheVariants.{Stat, Find, Usages, Ls, Stats, Query, Agg}

abbrev pub asks : Question → Asking
asks Stat = stat_asking
asks (Find find) = find_asking find.expression.before find.expression.moment (option_copied find.prefix) find.expression.words.now
asks (Usages usages) = usage_asking usages.expression.before usages.expression.moment usages.depth usages.expression.words.now
asks (Ls long all) = ls_asking long all
asks (Stats names report) = stats_asking names report
asks (Query query) = query_asking query.user_at query.form query.text.now
asks (Agg aggregate) = agg_asking aggregate.user_at aggregate.names aggregate.text.now
