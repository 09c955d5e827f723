use Rattle.std.proofs.Common.{◌≡◌, ℕ, ◌+◌, ◌∷◌, List, Option, Vec, Global, length, set, take, reverse, sym, subst, ap, ◌∙◌, arith}
use Rattle.std.proofs.Math.Path.{fun_ext}
use Rattle.std.proofs.lemmas.Grind.{get_or_default_zero}
use Rattle.sc_isa.specs.declared.journal.Entry.TheVariants.{Arrived}
use Rattle.journal_order.proofs.Listing.{past_next}
use Rattle.journal_order.proofs.Passes.{take_whole}
use Rattle.order_edges.specs.Lines.{look}
use Rattle.order_edges.specs.Tables.{stored}
use Rattle.order_edges.proofs.Loops.{AreStored, no_arrival, one_arrival, on_node}
use Rattle.order_edges.proofs.releases.stored.Goals as goal
use Rattle.order_edges.proofs.releases.stored.Goals.{in-Arrived, in_default}

pub loop-entry-preserved : goal.loop-entry-preserved
loop-entry-preserved c =
    let l = c.loop-entry in
    let i = l.invariant in
    let past = reverse (take l.entry-index c.args.journal.now) in
    let s : AreStored c.args.nodes l.entry-index past c.args.releases.now l.arrivals.items l.table.items =
    record { nodes_are = i.nodes_are; counts_are = i.counts_are; few = i.few; size = i.size; noted = i.noted } in
    let next = past_next c.args.journal.now l.entry-index _ c.loop-entry-test.true in
    elim c.match-entry.branch [
      | in-Arrived w ↦
          let on = on_node c.args.nodes w.in-Arrived.node w.in-Arrived.stores _ w.in-Arrived.is (c.requires l.entry-index _ c.loop-entry-test.true) in
          let here = w.index.ensures ∙ get_or_default_zero l.arrivals.items w.in-Arrived.node w.index.result.now (let n = i.nodes_are in omega (arith, on, n)) in
          let one = one_arrival c.args.nodes l.entry-index past c.args.releases.now l.arrivals.items l.table.items _
          w.in-Arrived.node w.index.result.now w.in-Arrived.stores s on here w.note.ensures.size w.note.ensures.noted in
          let all = subst (λ p. AreStored c.args.nodes (l.entry-index + 1) p c.args.releases.now c.match-entry.arrivals.items c.match-entry.table.items)
          (sym (next ∙ ap (λ e. e ∷ past) w.in-Arrived.is))
          (subst (λ (v : Vec ℕ Global). AreStored c.args.nodes (l.entry-index + 1) (Arrived w.in-Arrived.node w.in-Arrived.stores ∷ past) c.args.releases.now v.items c.match-entry.table.items)
          (sym w.arrivals-is)
          (subst (λ (v : Vec (Option ℕ) Global). AreStored c.args.nodes (l.entry-index + 1) (Arrived w.in-Arrived.node w.in-Arrived.stores ∷ past) c.args.releases.now (set l.arrivals.items w.in-Arrived.node (w.index.result.now + 1)) v.items)
          (sym w.table-is) one)) in
          record { nodes_are = all.nodes_are; counts_are = all.counts_are; few = all.few; size = all.size; noted = all.noted }
      | in_default w ↦
          let same = no_arrival c.args.nodes l.entry-index past c.args.releases.now l.arrivals.items l.table.items _ s w.in_default.not-Arrived in
          let all = subst (λ (v : Vec ℕ Global). AreStored c.args.nodes (l.entry-index + 1) (reverse (take (l.entry-index + 1) c.args.journal.now)) c.args.releases.now v.items c.match-entry.table.items)
          (sym w.arrivals-is)
          (subst (λ (v : Vec (Option ℕ) Global). AreStored c.args.nodes (l.entry-index + 1) (reverse (take (l.entry-index + 1) c.args.journal.now)) c.args.releases.now l.arrivals.items v.items)
          (sym w.table-is)
          (subst (λ p. AreStored c.args.nodes (l.entry-index + 1) p c.args.releases.now l.arrivals.items l.table.items) (sym next) same)) in
          record { nodes_are = all.nodes_are; counts_are = all.counts_are; few = all.few; size = all.size; noted = all.noted }
    ]

pub returns : goal.returns
returns c =
    let i = c.loop-entry.invariant in
    let all = take_whole c.args.journal.now c.loop-entry.entry-index c.loop-entry-test.false in
    record {
      size = i.size;
      tells = fun_ext (λ m. i.noted m ∙ ap (λ xs. stored (reverse xs) (look c.args.releases.now) m) all);
    }
