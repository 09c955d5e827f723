-- The items of a journal that can be ordered, arranged by its edges, are its source order.
use Rattle.std.proofs.Common.{◌≡◌, ℕ, List, ◌++◌, Option, Some, None, length, reverse, sym, ap, ◌∙◌, subst}
use Rattle.sc_base.specs.declared.value.Place.{Place}
use Rattle.sc_base.specs.declared.value.Value.{Value}
use Rattle.sc_isa.specs.declared.journal.Entry.{Entry}
use Rattle.sc_meaning.specs.declared.event.SourceEvent.{SourceEvent}
use Rattle.sc_meaning.specs.Past.{Processes}
use Rattle.fabric.specs.Asked.{Machine}
use Rattle.least_order.specs.declared.edge.Edge.{Edge}
use Rattle.least_order.specs.Ways.{AreWays}
use Rattle.fabric.specs.Barriers.{released}
use Rattle.source_order.specs.Items.{items, all_steps, all_releases, all_effects, source_order}
use Rattle.journal_order.specs.Ordering.{CanBeOrdered, IsSourceOrder, before_at, arranged}
use Rattle.journal_order.proofs.ByEdges.{order_is_by_edges}
use Rattle.run_order.specs.Orderable.{IsOrderable, IsOrderIfAny}

-- the edges are ways of whatever run the items are of
abbrev pub WaysOf : (nodes : ℕ) → List Entry → List SourceEvent → List Edge → Type 0
WaysOf nodes journal all edges =
    (processes : Processes) (machine : Machine) → processes.nodes ≡ nodes → CanBeOrdered processes machine journal
    → all ≡ items processes.start nodes (reverse journal)
    → AreWays edges (length all) (before_at processes.start (reverse journal) all)

abbrev pub ItemsOf : (Place → Value) → (nodes : ℕ) → List Entry → List SourceEvent → Type 0
ItemsOf start nodes journal all = all ≡ items start nodes (reverse journal)

by_ways : (processes : Processes) (machine : Machine) (journal : List Entry) (all : List SourceEvent) (edges : List Edge) →
    all ≡ items processes.start processes.nodes (reverse journal) → CanBeOrdered processes machine journal →
    AreWays edges (length all) (before_at processes.start (reverse journal) all) →
    arranged all edges ≡ Some (source_order processes journal)
by_ways processes machine journal all edges is can ways =
    ap (λ (list : List SourceEvent). arranged list edges) is
    ∙ order_is_by_edges processes machine journal edges can
    (subst (λ (list : List SourceEvent). AreWays edges (length list) (before_at processes.start (reverse journal) list)) is ways)

pub arranged_is : (start : Place → Value) (nodes : ℕ) (journal : List Entry) (all : List SourceEvent) (edges : List Edge) →
    ItemsOf start nodes journal all → WaysOf nodes journal all edges → (processes : Processes) (machine : Machine) →
    processes.start ≡ start → processes.nodes ≡ nodes → CanBeOrdered processes machine journal →
    arranged all edges ≡ Some (source_order processes journal)
arranged_is start nodes journal all edges is ways processes machine start_is nodes_are can =
    let here : all ≡ items processes.start nodes (reverse journal) = is ∙ ap (λ s. items s nodes (reverse journal)) (sym start_is) in
    by_ways processes machine journal all edges (here ∙ ap (λ n. items processes.start n (reverse journal)) (sym nodes_are)) can
    (ways processes machine nodes_are can here)

pub order_if_any : (start : Place → Value) (nodes : ℕ) (journal : List Entry) (all : List SourceEvent) (edges : List Edge)
    (found : Option (List SourceEvent)) → ItemsOf start nodes journal all → WaysOf nodes journal all edges →
    found ≡ arranged all edges → IsOrderIfAny start nodes journal found
order_if_any start nodes journal all edges found is ways arranged_so processes machine start_is nodes_are can =
    arranged_so ∙ arranged_is start nodes journal all edges is ways processes machine start_is nodes_are can

pub never_none : (start : Place → Value) (nodes : ℕ) (journal : List Entry) (found : Option (List SourceEvent)) →
    IsOrderIfAny start nodes journal found → IsOrderable start nodes journal → found ≡ None → ⊥
never_none start nodes journal found is orderable none =
    let some = is orderable.processes orderable.machine orderable.start_is orderable.nodes_are orderable.can in
    absurd (cc)

pub is_source_order : (start : Place → Value) (nodes : ℕ) (journal : List Entry) (found : Option (List SourceEvent))
    (events : List SourceEvent) → IsOrderIfAny start nodes journal found → found ≡ Some events →
    IsSourceOrder start nodes journal events
is_source_order start nodes journal found events is so processes machine start_is nodes_are can =
    let some = is processes machine start_is nodes_are can in
    cc

-- what the parts of the code give together
pub put_together : (start : Place → Value) (nodes listed_nodes edge_nodes : ℕ) (journal : List Entry)
    (effects given all linked arranged_items : List SourceEvent) (edges taken_edges : List Edge) → listed_nodes ≡ nodes →
    edge_nodes ≡ nodes → effects ≡ all_effects start (reverse journal) → given ≡ effects →
    all ≡ all_steps listed_nodes (reverse journal) ++ (all_releases (released (reverse journal)) ++ given) → linked ≡ all →
    WaysOf edge_nodes journal linked edges → arranged_items ≡ all → taken_edges ≡ edges →
    ItemsOf start nodes journal arranged_items × WaysOf nodes journal arranged_items taken_edges
put_together start nodes listed_nodes edge_nodes journal effects given all linked arranged_items edges taken_edges n m e g a l w i t =
    let past = reverse journal in (
      i ∙ a ∙ ap (λ k. all_steps k past ++ (all_releases (released past) ++ given)) n
          ∙ ap (λ (x : List SourceEvent). all_steps nodes past ++ (all_releases (released past) ++ x)) (g ∙ e),
      subst (λ (k : ℕ). WaysOf k journal arranged_items taken_edges) m
          (subst (λ (x : List SourceEvent). WaysOf edge_nodes journal x taken_edges) (l ∙ sym i)
          (subst (λ (x : List Edge). WaysOf edge_nodes journal linked x) (sym t) w)),
    )
