use Rattle.splitc_compile.specs.Compiled.{parts_of}
use Rattle.code_sim.specs.contracts.picks.SeedPicksPicks.TheImpl.{ghosts}
use Rattle.run_texts.proofs.Seeded.{seeded}
use Rattle.run_texts.proofs.runs.run_of.Goals as goal

pub returns : goal.returns
returns c =
    seeded (parts_of c.args.compiled.now) c.args.seed c.args.budget (ghosts.words c.new-picks.result) c.in_ok-run.run'
    c.new-picks.ensures c.in_ok-run.ensures.run
