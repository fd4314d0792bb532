use Rattle.std.proofs.Common.{length, ap, sym, ◌∙◌, arith, rules}
use Rattle.gufi_glob.proofs.Matching.{star_kept, single_kept, done_kept}
use Rattle.gufi_glob.proofs.matcher.match_some_end.Goals as goal

pub tries-preserved-then-is_any_text : goal.tries-preserved-then-is_any_text
tries-preserved-then-is_any_text c = record {
  trying = star_kept c.in-Some-split_first.ensures (sym c.is_any_text.ensures ∙ c.if-is_any_text.true) c.tries.invariant.trying;
  tried = search rules;
  fewer = omega (arith, ap length c.in-Some-split_first.ensures, c.tries.invariant.tried, c.tries.invariant.fewer);
  shorter = search rules;
}

pub tries-preserved-then-takes : goal.tries-preserved-then-takes
tries-preserved-then-takes c = record {
  trying = single_kept c.in-Some-split_first.ensures c.in-Some.ensures (sym c.takes.ensures ∙ c.if-takes.true) c.tries.invariant.trying;
  tried = omega (arith, ap length c.in-Some-split_first.ensures, c.tries.invariant.tried);
  fewer = c.tries.invariant.fewer;
  shorter = omega (arith, ap length c.in-Some.ensures, c.tries.invariant.shorter);
}

pub returns : goal.returns
returns c = c.match_nothing.ensures ∙ sym (done_kept c.in_default.ensures c.tries.invariant.trying)
