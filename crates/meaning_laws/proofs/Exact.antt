-- The test whether an event is allowed is exact.
use Rattle.std.proofs.Common.{◌≡◌, ℕ, ◌+◌, ◌≤◌, List, ◌∷◌, length, Some, None, Bool, true, false, refl, subst}
use Rattle.std.specs.Bool.{Decides}
use Rattle.std.proofs.lemmas.Bool.Decides.{Decides-ltb, Decides-eqb, Decides-and, Decides-like}
use Rattle.sc_base.specs.declared.value.Value.{Value}
use Rattle.sc_base.specs.declared.value.Place.{Place}
use Rattle.sc_base.specs.declared.value.End.{End}
use Rattle.sc_base.specs.declared.value.End.TheVariants.{Ended, Fault, Cut, Waiting}
use Rattle.sc_meaning.specs.declared.request.Request.{Request}
use Rattle.sc_meaning.specs.declared.request.Request.TheVariants.{Read, Write, Sync as SyncRequest}
use Rattle.sc_meaning.specs.declared.event.SourceEvent.{SourceEvent}
use Rattle.sc_meaning.specs.declared.event.SourceEvent.TheVariants.{Do, Issue, Effect, Sync, Arrive, Release, End as Over}
use Rattle.effect_order.specs.Transfer.{part_place, part_value, written}
use Rattle.sc_meaning.specs.Parts.{transfer_of, is_split, is_one_way, is_issued}
use Rattle.sc_meaning.specs.Past.{Processes, effects, shown, releases, arrivals, stores_at, made, ended, run_so_far, request_at}
use Rattle.sc_meaning.specs.History.{AllDone, IsNext, ReadAllowed, WriteAllowed, IssueAllowed, EffectAllowed, SyncAllowed, ArriveAllowed, ReleaseAllowed, EndAllowed, WaitingAllowed, barrier_of, Allowed}
use Rattle.sc_meaning.specs.Test.{all_done, is_read_of, is_write_of, is_sync, is_barrier, may_occur, may_end, may_give_up, allowed}
use Rattle.sc_meaning.specs.CompleteTest.{TestIsExact}
use Rattle.meaning_laws.proofs.Decided.{le_decides, none_decides, some_decides, below_decides, only_if_decides}
use Rattle.meaning_laws.proofs.Requests.{value_decides, done_decides, goes_decides, next_decides}
use Rattle.meaning_laws.proofs.Which.{read_of, write_of, sync_of, barrier_is, issued_is, ends_is, holds_place_is, holds_value_is, by_wrote}

module _ (processes : Processes) (past : List SourceEvent) where
  read_decides : (node number : ℕ) (place : Place) (value : Value)
      → Decides (allowed processes past (Do node number false place value)) (ReadAllowed processes past node number place value)
  read_decides node number place value =
      Decides-like (allowed processes past (Do node number false place value))
      (λ h. record { line = h.0.2.0; is_next = subst (λ r. IsNext processes past node number r) h.0.2.1 h.0.1; shows = h.1 })
      (λ h. ((Read place h.line, h.is_next, (h.line, refl)), h.shows))
      (Decides-and _ _ (next_decides processes past node number (is_read_of place) (λ r. (line : ℕ) × (r ≡ Read place line)) (read_of place))
      (value_decides value (shown processes.start place past)))

  write_decides : (node number : ℕ) (place : Place) (value : Value)
      → Decides (allowed processes past (Do node number true place value)) (WriteAllowed processes past node number place value)
  write_decides node number place value =
      Decides-like (allowed processes past (Do node number true place value))
      (λ h. record { line = h.2.0; is_next = subst (λ r. IsNext processes past node number r) h.2.1 h.1 })
      (λ h. (Write place value h.line, h.is_next, (h.line, refl)))
      (next_decides processes past node number (is_write_of place value) (λ r. (line : ℕ) × (r ≡ Write place value line)) (write_of place value))

  issue_decides : (node number : ℕ) → Decides (allowed processes past (Issue node number)) (IssueAllowed processes past node number)
  issue_decides node number =
      Decides-like (allowed processes past (Issue node number))
      (λ h. record { request = h.0; is_next = h.1; issued = h.2 })
      (λ h. (h.request, h.is_next, h.issued))
      (next_decides processes past node number is_issued (λ r. is_issued r ≡ true) issued_is)

  sync_decides : (node number : ℕ) → Decides (allowed processes past (Sync node number)) (SyncAllowed processes past node number)
  sync_decides node number =
      Decides-like (allowed processes past (Sync node number))
      (λ h. record { line = h.0.2.0; is_next = subst (λ r. IsNext processes past node number r) h.0.2.1 h.0.1; all_done = h.1 })
      (λ h. ((SyncRequest h.line, h.is_next, (h.line, refl)), h.all_done))
      (Decides-and _ _ (next_decides processes past node number is_sync (λ r. (line : ℕ) × (r ≡ SyncRequest line)) sync_of)
      (done_decides processes past is_split node))

  arrive_decides : (node number : ℕ) (stores : Bool)
      → Decides (allowed processes past (Arrive node number stores)) (ArriveAllowed processes past node number stores)
  arrive_decides node number stores =
      Decides-like (allowed processes past (Arrive node number stores))
      (λ h. record { line = h.2.0; is_next = subst (λ r. IsNext processes past node number r) h.2.1 h.1 })
      (λ h. (barrier_of stores h.line, h.is_next, (h.line, refl)))
      (next_decides processes past node number (is_barrier stores) (λ r. (line : ℕ) × (r ≡ barrier_of stores line)) (barrier_is stores))

  module _ (node number cell : ℕ) (wrote : Bool) (place : Place) (value : Value) where
    abbrev MayOccur : Request → Type 0
    MayOccur request =
        (is_issued request ≡ true) × ((part_place (transfer_of request) cell wrote ≡ Some place)
        × ((part_value node number cell wrote (effects past) ≡ None)
        × ((wrote ≡ false → value ≡ shown processes.start place past)
        × (wrote ≡ true → written (transfer_of request) node number cell (effects past) ≡ Some value))))

    occur_decides : (request : Request) → Decides (may_occur processes past node number cell wrote place value request) (MayOccur request)
    occur_decides request =
        Decides-and _ _ (issued_is request)
        (Decides-and _ _ (holds_place_is place (part_place (transfer_of request) cell wrote))
        (Decides-and _ _ (none_decides (part_value node number cell wrote (effects past)))
        (by_wrote wrote _ _ _ _ (holds_value_is value (written (transfer_of request) node number cell (effects past)))
        (value_decides value (shown processes.start place past)))))

    effect_decides : Decides (allowed processes past (Effect node number cell wrote place value)) (EffectAllowed processes past node number cell wrote place value)
    effect_decides =
        Decides-like (allowed processes past (Effect node number cell wrote place value))
        (λ h. record {
          node_within = h.0;
          request = h.1.0;
          made_before = h.1.1;
          issued = h.1.2.0;
          its_place = h.1.2.1.0;
          once = h.1.2.1.1.0;
          reads = h.1.2.1.1.1.0;
          writes = h.1.2.1.1.1.1;
        })
        (λ h. (h.node_within, (h.request, h.made_before, (h.issued, (h.its_place, (h.once, (h.reads, h.writes)))))))
        (Decides-and _ _ (Decides-ltb node processes.nodes)
        (some_decides (may_occur processes past node number cell wrote place value) MayOccur occur_decides (request_at processes node number past)))

  release_decides : (number : ℕ) → Decides (allowed processes past (Release number)) (ReleaseAllowed processes past number)
  release_decides number =
      Decides-like (allowed processes past (Release number))
      (λ h. record {
        numbered = h.0;
        all_arrived = λ node lt. (h.1 node lt).0;
        none_ended = λ node lt. (h.1 node lt).1.0;
        stores_done = λ e node lt. (h.1 node lt).1.1 e;
      })
      (λ h. (h.numbered, λ node lt. (h.all_arrived node lt, (h.none_ended node lt, λ e. h.stores_done e node lt))))
      (Decides-and _ _ (Decides-eqb number (releases past + 1))
      (below_decides _
      (λ node. (number ≤ arrivals node past) × ((ended node past ≡ None) × (stores_at number past ≡ true → AllDone processes is_one_way node past)))
      (λ node. Decides-and _ _ (le_decides number (arrivals node past))
      (Decides-and _ _ (none_decides (ended node past))
      (only_if_decides (stores_at number past) (all_done processes is_one_way node past) _ (done_decides processes past is_one_way node))))
      processes.nodes))

  end_allowed : (node : ℕ) (end : End) → Decides (may_end processes past node end) (EndAllowed processes past node end)
  end_allowed node end =
      Decides-like (may_end processes past node end)
      (λ h. record { goes_on = h.0; all_made = h.1.0; over = h.1.1 })
      (λ h. (h.goes_on, (h.all_made, h.over)))
      (Decides-and _ _ (goes_decides processes past node)
      (Decides-and _ _ (Decides-eqb (made node past) (length (run_so_far processes node past).events))
      (ends_is end (run_so_far processes node past).end)))

  waiting_allowed : (node : ℕ) → Decides (may_give_up processes past node) (WaitingAllowed processes past node)
  waiting_allowed node =
      Decides-like (may_give_up processes past node)
      (λ h. record { node_within = h.0; running = h.1.0; at_barrier = h.1.1.0; all_made = h.1.1.1.0; over = h.1.1.1.1 })
      (λ h. (h.node_within, (h.running, (h.at_barrier, (h.all_made, h.over)))))
      (Decides-and _ _ (Decides-ltb node processes.nodes)
      (Decides-and _ _ (none_decides (ended node past))
      (Decides-and _ _ (Decides-eqb (arrivals node past) (releases past + 1))
      (Decides-and _ _ (Decides-eqb (made node past) (length (run_so_far processes node (Over node Waiting ∷ past)).events))
      (ends_is Waiting (run_so_far processes node (Over node Waiting ∷ past)).end)))))

  pub allowed_decides : (event : SourceEvent) → Decides (allowed processes past event) (Allowed processes past event)
  allowed_decides (Do node number false place value) = read_decides node number place value
  allowed_decides (Do node number true place value) = write_decides node number place value
  allowed_decides (Issue node number) = issue_decides node number
  allowed_decides (Effect node number cell wrote place value) = effect_decides node number cell wrote place value
  allowed_decides (Sync node number) = sync_decides node number
  allowed_decides (Arrive node number stores) = arrive_decides node number stores
  allowed_decides (Release number) = release_decides number
  allowed_decides (Over node Waiting) = waiting_allowed node
  allowed_decides (Over node Ended) = end_allowed node Ended
  allowed_decides (Over node (Fault kind line)) = end_allowed node (Fault kind line)
  allowed_decides (Over node Cut) = end_allowed node Cut

pub test_is_exact : TestIsExact
test_is_exact processes past event = allowed_decides processes past event
