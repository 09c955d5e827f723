use Rattle.std.proofs.Common.{◌<◌, arith, length}
use Rattle.sc_lexer.proofs.StepLaws.{Steps-keeps, Steps-reach}
use Rattle.sc_lexer.proofs.whole.lex.Goals as goal

pub loop-scan-smaller : goal.loop-scan-smaller
loop-scan-smaller c =
    let within : c.loop-scan.scan.at < length c.args.source.now = omega (arith, c.at.ensures, c.loop-scan-test.true) in
    let keeps = Steps-keeps c.args.source.now c.loop-scan.scan c.step.new.scan c.loop-scan.invariant.bounds within c.in_ok-step.ensures.steps in
    omega (arith, keeps.1, keeps.0.within)

pub loop-scan-preserved : goal.loop-scan-preserved
loop-scan-preserved c =
    let within : c.loop-scan.scan.at < length c.args.source.now = omega (arith, c.at.ensures, c.loop-scan-test.true) in
    record {
      bounds = (Steps-keeps c.args.source.now c.loop-scan.scan c.step.new.scan c.loop-scan.invariant.bounds within c.in_ok-step.ensures.steps).0;
      reached = Steps-reach c.args.source.now c.loop-scan.scan c.step.new.scan within c.loop-scan.invariant.reached c.in_ok-step.ensures.steps;
    }
