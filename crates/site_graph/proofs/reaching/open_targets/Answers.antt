use Rattle.std.proofs.Common.{◌≡◌, arith, refl, subst}
use Rattle.site_graph.specs.Opened.{IsOpened, IsTarget}
use Rattle.site_graph.proofs.Opened.{more_opened}
use Rattle.site_graph.proofs.reaching.open_targets.Goals as goal

pub loop-number-preserved : goal.loop-number-preserved
loop-number-preserved c =
    more_opened c.args.edges.now c.args.from c.loop-number.number _ (record { from = 0; to = 0 }) c.args.found.now c.loop-number.found c.open_one.new.found
    c.args.todo.now.items c.loop-number.todo.items c.open_one.new.todo.items (omega arith) (omega arith) refl c.loop-number.invariant c.in_ok-open_one.ensures

pub returns : goal.returns
returns c =
    let all = c.loop-number.auto.number-end c.requires.order in
    let rest = c.loop-number-test.false in
    let same : c.loop-number.number ≡ c.args.to = omega arith in
    subst
    (λ n. IsOpened (IsTarget c.args.edges.now c.args.from n) c.args.found.now c.loop-number.found c.args.todo.now.items c.loop-number.todo.items)
    same c.loop-number.invariant
