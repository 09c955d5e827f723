use Rattle.std.proofs.Common.{◌∙◌, ap, true}
use Rattle.std.specs.Prelude.{replicate}
use Rattle.fabric.proofs.Knowing.{knows_new}
use Rattle.fabric.proofs.tests.Board.new.Goals as goal

pub invariant_of-result : goal.invariant_of-result
invariant_of-result c =
    knows_new c.in_ok-fabric.fabric c.in_ok-running.running.items c.in_ok-away.away.items c.args.layout c.args.sites
    c.in_ok-fabric.ensures.layout c.in_ok-fabric.ensures.sites c.in_ok-fabric.ensures.past
    (c.in_ok-running.ensures ∙ ap (λ n. replicate n true) c.nodes.ensures)
    (c.in_ok-away.ensures ∙ ap (λ n. replicate n true) c.nodes-2.ensures)
