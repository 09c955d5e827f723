-- What code keeps of the issues so far, and how it finds what an entry brings and which event an effect is. No public
-- clause cites this module. A past is a list of entries, the newest first.
use Rattle.std.specs.Prelude.{◌≡◌, ℕ, ◌<◌, ◌^◌, List, [], ◌∷◌, Option, Some, None, Bool, false, unwrap_or, nat_eq, ◌==◌, ◌&&◌, if◌then◌else◌}
use Rattle.std.specs.HashMap.{HashMap, get}
use Rattle.std.specs.Option.{option_map, IfSome}
use Rattle.sc_base.specs.declared.value.Place.{Place}
use Rattle.sc_base.specs.declared.value.Value.{Value}
use Rattle.effect_order.specs.Effect.{Effect as CellEffect}
use Rattle.sc_isa.specs.declared.access.Access.{Access}
use Rattle.sc_isa.specs.declared.journal.Entry.{Entry}
use Rattle.sc_isa.specs.declared.journal.Entry.TheVariants.{Issued, Delivered}
use Rattle.sc_meaning.specs.declared.event.SourceEvent.{SourceEvent}
use Rattle.sc_meaning.specs.declared.event.SourceEvent.TheVariants.{Do, Effect}
use Rattle.sc_meaning.specs.OfAccess.{is_done_at_once}
use Rattle.fabric.specs.Access.{transfer_of}
use Rattle.fabric.specs.Effects.{at_issue, and_effect, at_delivery}
use Rattle.source_order.specs.Steps.{requested}
use Rattle.journal_effects.specs.declared.issues.Issue.{Issue}
use Rattle.journal_effects.specs.declared.issues.Issues.{Issues}
use Rattle.journal_effects.specs.Numbered.{HasNumberedCells}

-- the node's issue with this number: its access, and its number among the node's requests
abbrev pub issue_at : (node number : ℕ) → List Entry → Option Issue
issue_at node number [] = None
issue_at node number (Issued other n access ∷ past) =
    if (other == node) && (n == number) then Some (record { access = access; request = requested node past })
    else issue_at node number past
issue_at node number (_ ∷ past) = issue_at node number past

-- ---- the tables

abbrev pub IssueKey : Type 0
IssueKey = ℕ × ℕ

abbrev pub same_issue : IssueKey → IssueKey → Bool
same_issue a b = (a.0 == b.0) && (a.1 == b.1)

abbrev pub issue_in : {S : Type 0} → HashMap IssueKey Issue S → (node number : ℕ) → Option Issue
issue_in issues node number = get same_issue issues (node, number)

abbrev pub requests_in : {S : Type 0} → HashMap ℕ ℕ S → (node : ℕ) → ℕ
requests_in requests node = unwrap_or (get nat_eq requests node) 0

-- they are those of the past
pub record AreIssuesOf (kept : Issues) (past : List Entry) : Type 0 where
  pub issues : (node number : ℕ) → issue_in kept.issues node number ≡ issue_at node number past
  pub requests : (node : ℕ) → requests_in kept.requests node ≡ requested node past

-- no node has made too many requests to count one more
abbrev pub FewRequests : Issues → Type 0
FewRequests issues = (node : ℕ) → requests_in issues.requests node < 2 ^ 63

-- each cell of each issued access has a number
abbrev pub HaveNumberedCells : Issues → Type 0
HaveNumberedCells issues = (node number : ℕ) →
    IfSome (issue_in issues.issues node number) (λ issue. HasNumberedCells issue.access)

-- ---- what is read of them

abbrev pub access_in : Issues → (node number : ℕ) → Option Access
access_in issues node number = option_map (λ issue. issue.access) (issue_in issues.issues node number)

-- the effects with those that occur with the entry
abbrev pub with_entry : (Place → Value) → Issues → Entry → List CellEffect → List CellEffect
with_entry start issues (Issued node number access) earlier =
    at_issue start (transfer_of access) node number (transfer_of access).cells earlier
with_entry start issues (Delivered node number cell value) earlier =
    and_effect (at_delivery start (access_in issues node number) node number cell earlier) earlier
with_entry start issues _ earlier = earlier

-- the effect as an event of the source, of the request with this number
abbrev pub event_as : (at_once : Bool) → (request : ℕ) → CellEffect → SourceEvent
event_as at_once request effect =
    if at_once then Do effect.node request effect.wrote effect.place effect.value
    else Effect effect.node request effect.cell effect.wrote effect.place effect.value

-- of that issue
abbrev pub event_with : Option Issue → CellEffect → SourceEvent
event_with None effect = event_as false 0 effect
event_with (Some issue) effect = event_as (is_done_at_once issue.access) issue.request effect

abbrev pub event_in : Issues → CellEffect → SourceEvent
event_in issues effect = event_with (issue_in issues.issues effect.node effect.number) effect
