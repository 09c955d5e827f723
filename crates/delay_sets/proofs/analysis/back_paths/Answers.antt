use Rattle.delay_sets.proofs.Backs.{back_answer}
use Rattle.delay_sets.proofs.analysis.back_paths.Goals as goal

pub returns-clause-back : goal.returns-clause-back
returns-clause-back c =
    back_answer c.args.links.now c.args.before.now c.in_ok-steps.steps c.unite.new.rows c.unite-2.new.rows c.close.new.rows c.in_ok-ends.ends c.unite-3.new.rows _ _ _
    c.in_ok-steps.ensures c.rows.ensures.rows c.unite.ensures.united c.unite-2.ensures.united c.close.ensures
    c.in_ok-ends.ensures c.unite-3.ensures.united c.requires.links c.requires.before c.unite.ensures.in_order c.unite-2.ensures.in_order c.composed-2.ensures
