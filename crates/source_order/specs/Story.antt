-- A run of the fabric as the laws on orders see it, after Shasha and Snir (1988): its items with their moments, over
-- the points of a code. With it the source order is that of these laws.
use Rattle.std.specs.Prelude.{◌≡◌, ℕ, suc, List, reverse, Bool, true, false, ◌==◌}
use Rattle.sc_base.specs.declared.value.Place.{Place}
use Rattle.sc_base.specs.declared.value.Value.{Value}
use Rattle.effect_order.specs.Flow.{Flow}
use Rattle.effect_order.specs.Lists.{In}
use Rattle.effect_order.specs.Greedy.{Orderable}
use Rattle.effect_order.specs.Run.{Run}
use Rattle.effect_order.specs.Sourced.{source_order as sourced}
use Rattle.sc_meaning.specs.declared.event.SourceEvent.{SourceEvent}
use Rattle.sc_meaning.specs.declared.event.SourceEvent.TheVariants.{Do, Issue, Effect, Sync, Arrive, Release, End as Over}
use Rattle.sc_meaning.specs.Below.{any_below}
use Rattle.sc_meaning.specs.Past.{Processes}
use Rattle.sc_isa.specs.declared.journal.Entry.{Entry}
use Rattle.fabric.specs.Barriers.{released}
use Rattle.fabric.specs.Asked.{Machine}
use Rattle.source_order.specs.Whole.{IsRun}
use Rattle.source_order.specs.Steps.{requested}
use Rattle.source_order.specs.Moments.{does, sooner, time, issue_time}
use Rattle.source_order.specs.Items.{items, may_follow, source_order}
use Rattle.source_order.specs.Needs.{needs, NoCycle}
use Rattle.source_order.specs.Made.{IsMade}
use Rattle.sc_meaning.specs.Answering.{AllWaitForAnswers}

abbrev pub is_effect : SourceEvent → Bool
is_effect (Do node k wrote place value) = true
is_effect (Effect node k cell wrote place value) = true
is_effect _ = false

abbrev pub is_release : SourceEvent → Bool
is_release (Release m) = true
is_release _ = false

-- the event's node; a release has the number after those of the nodes
abbrev pub node_of : (nodes : ℕ) → SourceEvent → ℕ
node_of nodes (Do node k wrote place value) = node
node_of nodes (Issue node k) = node
node_of nodes (Effect node k cell wrote place value) = node
node_of nodes (Sync node k) = node
node_of nodes (Arrive node k stores) = node
node_of nodes (Release m) = nodes
node_of nodes (Over node end) = node

-- the number of its own step among the node's requests; an end comes after them
abbrev pub step_of : List Entry → SourceEvent → ℕ
step_of past (Do node k wrote place value) = k
step_of past (Issue node k) = k
step_of past (Effect node k cell wrote place value) = k
step_of past (Sync node k) = k
step_of past (Arrive node k stores) = k
step_of past (Release m) = 0
step_of past (Over node end) = requested node past

-- the run, where the points of the code and the point of each item are known
abbrev pub run_with : {S : Type 0} → Flow S → (SourceEvent → S) → (Place → Value) → (nodes : ℕ) →
    List Entry → Run SourceEvent S
run_with flow point start nodes past = record {
  Member = λ event. In event (items start nodes past);
  is_effect = is_effect;
  is_release = is_release;
  node = node_of nodes;
  step = step_of past;
  issue = issue_time start past;
  time = time start past;
  point = point;
  releases = λ t. any_below (released past) (λ m. time start past (Release (suc m)) == t);
  does = does;
  flow = flow;
}

-- the source order is that of the laws on orders
abbrev pub IsThatOrder : {S : Type 0} → Flow S → (SourceEvent → S) → Type 0
IsThatOrder flow point =
    (processes : Processes) (journal : List Entry)
    → source_order processes journal
    ≡ sourced (run_with flow point processes.start processes.nodes (reverse journal))
    (may_follow processes (reverse journal))
    (items processes.start processes.nodes (reverse journal))

-- the items of a run of some processes can be ordered: the source allows exactly those that have all that they need
abbrev pub ItemsAreOrderable : Type 0
ItemsAreOrderable =
    (processes : Processes) (machine : Machine) (journal : List Entry)
    → AllWaitForAnswers processes → IsRun machine journal → IsMade processes machine (reverse journal)
    → NoCycle processes.start processes.nodes (reverse journal)
    → Orderable does processes.start (sooner processes.start (reverse journal)) (needs (reverse journal))
    (may_follow processes (reverse journal)) (items processes.start processes.nodes (reverse journal))
