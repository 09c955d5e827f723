use Rattle.std.proofs.Common.{◌≡◌, ◌+◌, length, arith}
use Rattle.std.proofs.lemmas.Result.{on_ok_weaker}
use Rattle.sc_core.specs.declared.expression.CoreLink.{out-CoreLink}
use Rattle.core_run.proofs.Dropping.{link_on}
use Rattle.core_run.proofs.runner.Runner.link.Goals as goal

pub returns : goal.returns
returns c =
    let l = c.args.link.now in
    let many : c.in-Some.count ≡ length (out-CoreLink l).more + 1 = omega (arith, c.in-Some.ensures, c.len.ensures) in
    on_ok_weaker c.push.result (link_on c.args.self.now c.perform_later.new.self l c.in-Some.count c.as_slice.result c.push.new.self
    many c.as_slice.ensures c.in_ok-perform_later.ensures) c.push.ensures
