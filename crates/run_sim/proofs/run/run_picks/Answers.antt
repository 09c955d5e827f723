use Rattle.splitc_compile.specs.Compiled.{parts_of}
use Rattle.run_sim.proofs.Sound.{is_sound}
use Rattle.run_sim.proofs.run.run_picks.Goals as goal

pub run_code-requires : goal.run_code-requires
run_code-requires g c = is_sound (parts_of c.args.compiled.now) c.requires.compiled
