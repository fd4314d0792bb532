use Rattle.gufi_phases.proofs.Finishing.{finish_fits, finish_hits, finish_text, finish_kept}
use Rattle.gufi_phases.proofs.phase.finish.Goals as goal

pub returns-clause-numbers : goal.returns-clause-numbers
returns-clause-numbers g c = λ before i low up all numbers hits text told.
    let wanted = g.Q.Wanted in let are = c.in_ok-rows-2.ensures.rows before i low c.args.number c.args.acts.now (c.in_ok-rows.ensures before i low c.args.acts.now all) in
    finish_fits g.M.Meaning.means wanted.reply wanted.head wanted.key wanted.body before i low c.args.number c.args.acts.now c.in_ok-rows-2.rows.items _ numbers hits text c.in_ok-rows-2.ensures.numbers.0 are up told

pub returns-clause-text : goal.returns-clause-text
returns-clause-text g c = λ before i low up all numbers hits text told every has.
    let wanted = g.Q.Wanted in let are = c.in_ok-rows-2.ensures.rows before i low c.args.number c.args.acts.now (c.in_ok-rows.ensures before i low c.args.acts.now all) in
    finish_text g.M.Meaning.means wanted.reply wanted.head wanted.key wanted.body before i low c.args.number c.args.acts.now c.in_ok-rows-2.rows.items _ numbers hits text c.in_ok-rows-2.ensures.numbers.0 are up told every has wanted.parts wanted.numbers

pub returns-clause-kept : goal.returns-clause-kept
returns-clause-kept g c = λ before i low up all same numbers hits text told every has.
    let wanted = g.Q.Wanted in let acts = c.args.acts.now in let rows = c.in_ok-rows-2.rows.items in let ordered = c.in_ok-rows-2.ensures.numbers in let are = c.in_ok-rows-2.ensures.rows before i low c.args.number acts (c.in_ok-rows.ensures before i low acts all) in (
      finish_hits g.M.Meaning.means wanted.reply wanted.head wanted.key wanted.body before i low c.args.number acts rows _ numbers hits text ordered.0 are up told every has,
      finish_kept g.M.Meaning.means wanted.reply wanted.head wanted.key wanted.body before i low c.args.number acts rows _ numbers hits text ordered.0 are up told every has c.args.count c.args.idle.items ordered.1 c.requires.idle same,
    )
