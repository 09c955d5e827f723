use Rattle.std.proofs.Common.{◌<◌, length, refl, ◌∙◌, arith}
use Rattle.history_replay.proofs.Passing.{begin_passing, still_waits, pass_one}
use Rattle.history_replay.proofs.nodes.Nodes.pass_barrier.Goals as goal

pub loop-node-init : goal.loop-node-init
loop-node-init c = record {
  many = refl;
  so = λ start given all fronts w. begin_passing c.args.nodes start given all fronts c.args.self.now.runners.items w;
}

pub loop-node-preserved : goal.loop-node-preserved
loop-node-preserved c = record {
  many = c.in_ok-answer.ensures.many ∙ c.loop-node.invariant.many;
  so = λ start given all fronts w.
      let p = c.loop-node.invariant.so start given all fronts w in
      let lt : c.loop-node.node < c.args.nodes = omega arith in
      let same = c.loop-node.invariant.many in
      let count = w.many in
      let here : c.loop-node.node < length c.loop-node.self.runners.items = omega arith in
      let h = still_waits c.args.nodes start given all fronts c.loop-node.node c.loop-node.self.runners.items
      c.args.self.now.runners.items p w lt in
      pass_one c.args.nodes start given all fronts c.loop-node.node c.loop-node.self.runners.items c.answer.new.self.runners.items p h
      (c.in_ok-answer.ensures.taken (start c.loop-node.node) (given c.loop-node.node) h.before p.now h.last p.at here
      h.course h.next h.answered c.if-not-branch.false);
}

pub returns-then-not-branch-clause-refused : goal.returns-then-not-branch-clause-refused
returns-then-not-branch-clause-refused c = λ start given all fronts w f.
    let p = c.loop-node.invariant.so start given all fronts w in
    let lt : c.loop-node.node < c.args.nodes = omega arith in
    let same = c.loop-node.invariant.many in
    let count = w.many in
    let here : c.loop-node.node < length c.loop-node.self.runners.items = omega arith in
    let h = still_waits c.args.nodes start given all fronts c.loop-node.node c.loop-node.self.runners.items
    c.args.self.now.runners.items p w lt in
    record {
      node = c.loop-node.node;
      within = lt;
      stuck = c.in_ok-answer.ensures.refused (start c.loop-node.node) (given c.loop-node.node) h.before p.now h.last p.at here
          h.course h.next h.answered c.if-not-branch.true;
    }
