use Rattle.std.proofs.Common.{ℕ, ◌+◌, ◌∷◌, Vec, Global, take, reverse, sym, subst, ap, ◌∙◌}
use Rattle.sc_isa.specs.declared.journal.Entry.TheVariants.{Passed}
use Rattle.fabric.specs.Barriers.{released}
use Rattle.journal_order.proofs.Listing.{past_next}
use Rattle.journal_order.proofs.Passes.{ArePasses, none_passed, no_pass, one_pass, on_node, all_zero, take_whole, max_comm}
use Rattle.journal_order.proofs.passed.releases.Goals as goal
use Rattle.journal_order.proofs.passed.releases.Goals.{in-Passed, in_default}

pub loop-entry-init : goal.loop-entry-init
loop-entry-init c =
    none_passed c.args.nodes c.in_ok-passes.passes.items (sym c.in_ok-passes.passes.ok.0 ∙ c.in_ok-passes.ensures.len)
    (all_zero c.args.nodes c.in_ok-passes.passes.items (c.in_ok-passes.ensures.items_if_clones_equal (λ y e. e)))

pub loop-entry-preserved : goal.loop-entry-preserved
loop-entry-preserved c =
    let l = c.loop-entry in
    let next = past_next c.args.journal.now l.entry-index _ c.loop-entry-test.true in
    elim c.match-entry.branch [
      | in-Passed w ↦
          let on = on_node c.args.nodes w.in-Passed.node _ w.in-Passed.is (c.requires l.entry-index _ c.loop-entry-test.true) in
          let one = one_pass c.args.nodes l.entry-index (reverse (take l.entry-index c.args.journal.now)) l.passes.items l.most
          w.in-Passed.node w.index.result.now w.max-most.result l.invariant on w.index.ensures
          (w.max-most.ensures ∙ max_comm (w.index.result.now + 1) l.most) in
          subst (λ p. ArePasses c.args.nodes (l.entry-index + 1) p c.match-entry.passes.items c.match-entry.most)
          (sym (next ∙ ap (λ e. e ∷ reverse (take l.entry-index c.args.journal.now)) w.in-Passed.is))
          (subst (λ n. ArePasses c.args.nodes (l.entry-index + 1) (Passed w.in-Passed.node ∷ reverse (take l.entry-index c.args.journal.now))
          c.match-entry.passes.items n) (sym w.most-is)
          (subst (λ (v : Vec ℕ Global). ArePasses c.args.nodes (l.entry-index + 1)
          (Passed w.in-Passed.node ∷ reverse (take l.entry-index c.args.journal.now)) v.items w.max-most.result) (sym w.passes-is) one))
      | in_default w ↦
          let same = no_pass c.args.nodes l.entry-index (reverse (take l.entry-index c.args.journal.now)) l.passes.items l.most _
          l.invariant w.in_default.not-Passed in
          subst (λ n. ArePasses c.args.nodes (l.entry-index + 1) (reverse (take (l.entry-index + 1) c.args.journal.now))
          c.match-entry.passes.items n) (sym w.most-is)
          (subst (λ (v : Vec ℕ Global). ArePasses c.args.nodes (l.entry-index + 1)
          (reverse (take (l.entry-index + 1) c.args.journal.now)) v.items l.most) (sym w.passes-is)
          (subst (λ p. ArePasses c.args.nodes (l.entry-index + 1) p l.passes.items l.most) (sym next) same))
    ]

pub returns : goal.returns
returns c =
    c.loop-entry.invariant.most_is
    ∙ ap (λ xs. released (reverse xs)) (take_whole c.args.journal.now c.loop-entry.entry-index c.loop-entry-test.false)
