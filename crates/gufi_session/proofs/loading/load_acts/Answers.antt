use Rattle.std.proofs.Common.{[], ◌∷◌, length, length-append, refl, ap, ◌∙◌, arith}
use Rattle.gufi_phases.proofs.Loads.{breaks_to}
use Rattle.gufi_session.proofs.Loads.{none_loaded, one_loaded, all_loaded, one_stops, commands_none, commands_more, commands_all, leads_from, reads_all, leads_past, leads_off}
use Rattle.gufi_session.proofs.loading.load_acts.Goals as goal

pub loop-act-init : goal.loop-act-init
loop-act-init g c =
    let none = c.in-Ok.ensures.items in record {
      within = omega arith;
      many = ap (λ l. length l) none;
      same = refl;
      faults = omega arith;
      absents = omega arith;
      commands = commands_none c.args.phase.now c.in-Ok.acts.items none;
      leads = leads_from g.F.Shelf c.args.phase.now c.args.shelf.now;
      told = λ files is. none_loaded files c.args.phase.now c.in-Ok.acts.items none;
    }

pub returns-in-Err-clause-told : goal.returns-in-Err-clause-told
returns-in-Err-clause-told g c =
    λ files is. one_stops files c.args.phase.now c.loop-act.act-index c.loop-act.before c.act-item.result c.loop-act.acts.items c.in-Err.fault c.loop-act-test.true c.act-item.is (c.loop-act.invariant.told files is)
    (c.in-Err.ensures.told files (c.loop-act.invariant.same ∙ is))

pub returns-in-Err-clause-breaks : goal.returns-in-Err-clause-breaks
returns-in-Err-clause-breaks g c =
    breaks_to c.in-Err.fault (leads_off g.F.Shelf c.args.phase.now c.loop-act.act-index c.loop-act.before c.act-item.result c.loop-act-test.true c.act-item.is _ c.loop-act.shelf c.loop-act.invariant.leads _) c.in-Err.ensures.breaks

pub returns-clause-commands : goal.returns-clause-commands
returns-clause-commands g c = commands_all c.args.phase.now c.loop-act.act-index c.loop-act.acts.items (let past = c.loop-act-test.false in omega arith) c.loop-act.invariant.commands

pub returns-clause-reads : goal.returns-clause-reads
returns-clause-reads g c = reads_all g.F.Shelf c.args.phase.now c.loop-act.act-index c.loop-act.before _ _ (let past = c.loop-act-test.false in omega arith) c.loop-act.invariant.leads

pub returns-clause-told : goal.returns-clause-told
returns-clause-told g c =
    λ files is. all_loaded files c.args.phase.now c.loop-act.act-index c.loop-act.before c.loop-act.acts.items (let past = c.loop-act-test.false in omega arith) (c.loop-act.invariant.told files is)

pub loop-act-preserved : goal.loop-act-preserved
loop-act-preserved g c =
    let l = c.loop-act in let h = l.invariant in let e = c.in-Ok-load_act.ensures in record {
      within = e.within;
      many = omega (arith, ap (λ l. length l) c.in-Ok-push.ensures.items, length-append l.acts.items (c.in-Ok-load_act.loaded ∷ []));
      same = e.kept.files ∙ h.same;
      faults = let a = h.faults in let b = e.kept.faults in omega arith;
      absents = let a = h.absents in let b = e.kept.absents in omega arith;
      commands = commands_more c.args.phase.now l.act-index c.act-item.result l.acts.items c.push.new.self.items c.in-Ok-load_act.loaded c.loop-act-test.true c.act-item.is e.command c.in-Ok-push.ensures.items h.commands;
      leads = leads_past g.F.Shelf c.args.phase.now l.act-index l.before c.act-item.result c.loop-act-test.true c.act-item.is _ l.shelf h.leads c.in-Ok-load_act.after _ e.reads;
      told = λ files is. let t = e.told files (h.same ∙ is) in
          one_loaded files c.args.phase.now l.act-index l.before c.in-Ok-load_act.after c.act-item.result l.acts.items c.push.new.self.items c.in-Ok-load_act.loaded c.loop-act-test.true c.act-item.is (h.told files is) t.0 t.1 c.in-Ok-push.ensures.items;
    }
