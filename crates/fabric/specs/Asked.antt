-- What the nodes ask, over any machine: the other half of a legal run, as processors are in Shasha and Snir (1988). A
-- past is a list of entries, the newest first.
use Rattle.std.specs.Prelude.{◌≡◌, ℕ, ◌+◌, List, [], ◌∷◌, ◌++◌, length, slice_get, Option, Some, ◌==◌, if◌then◌else◌}
use Rattle.resumption.specs.Resumption.{Ends, RunOf, run_of}
use Rattle.sc_base.specs.declared.value.Value.{Value}
use Rattle.sc_base.specs.declared.value.Place.{Place}
use Rattle.sc_base.specs.declared.value.End.TheVariants.{Waiting}
use Rattle.sc_isa.specs.Run.{Ask, Issue, Wait, Arrive, Pass, Answer, Landed, Passed as PassedIt, Broken, Halt, Finish, NodeDoing}
use Rattle.sc_isa.specs.declared.journal.Entry.{Entry}
use Rattle.sc_isa.specs.declared.journal.Entry.TheVariants.{Issued, Delivered, Waited, Arrived, Passed, Finished}
use Rattle.fabric.specs.Effects.{landed}

-- how many nodes there are, what each cell holds before any write, and what each node asks from its beginning
pub record Machine : Type 0 where
  pub nodes : ℕ
  pub start : Place → Value
  pub starts : ℕ → NodeDoing

-- the answers that the past shows to the node, in order: its waits' values, and that a barrier is passed or broken
abbrev pub answers : Machine → (node : ℕ) → List Entry → List Answer
answers machine node [] = []
answers machine node (Waited other counter ∷ past) =
    if other == node
    then answers machine node past ++ Landed (landed machine.start node counter past) ∷ []
    else answers machine node past
answers machine node (Passed other ∷ past) =
    if other == node then answers machine node past ++ PassedIt ∷ [] else answers machine node past
answers machine node (Finished other Waiting ∷ past) =
    if other == node then answers machine node past ++ Broken ∷ [] else answers machine node past
answers machine node (_ ∷ past) = answers machine node past

-- the node's run under the answers that it was shown
abbrev pub run_so_far : Machine → (node : ℕ) → List Entry → RunOf Ask Halt
run_so_far machine node past = run_of (machine.starts node) (answers machine node past)

-- how many of the node's asks have an entry; a finish is none of them
abbrev pub asked : (node : ℕ) → List Entry → ℕ
asked node [] = 0
asked node (Issued other number access ∷ past) = if other == node then asked node past + 1 else asked node past
asked node (Waited other counter ∷ past) = if other == node then asked node past + 1 else asked node past
asked node (Arrived other stores ∷ past) = if other == node then asked node past + 1 else asked node past
asked node (Passed other ∷ past) = if other == node then asked node past + 1 else asked node past
asked node (_ ∷ past) = asked node past

-- what the node asks next, if it asks anything more
abbrev pub next_ask : Machine → (node : ℕ) → List Entry → Option Ask
next_ask machine node past = slice_get (run_so_far machine node past).events (asked node past)

-- the node asks nothing more, and its run ends so
pub record FinishAsked (machine : Machine) (past : List Entry) (node : ℕ) (halt : Halt) : Type 0 where
  pub nothing_more : length (run_so_far machine node past).events ≡ asked node past
  pub ends : (run_so_far machine node past).end ≡ Ends halt

-- the node asks to pass, and finishes as waiting where its barrier is broken
pub record WaitingAsked (machine : Machine) (past : List Entry) (node : ℕ) : Type 0 where
  pub passing : next_ask machine node past ≡ Some Pass
  pub ends : (run_of (machine.starts node) (answers machine node past ++ Broken ∷ [])).end ≡ Ends (Finish Waiting)

-- the entry is what its node asks next
abbrev pub IsAsked : Machine → List Entry → Entry → Type 0
IsAsked machine past (Issued node number access) = next_ask machine node past ≡ Some (Issue access)
IsAsked machine past (Delivered node number cell value) = Unit {0}
IsAsked machine past (Waited node counter) = next_ask machine node past ≡ Some (Wait counter)
IsAsked machine past (Arrived node stores) = next_ask machine node past ≡ Some (Arrive stores)
IsAsked machine past (Passed node) = next_ask machine node past ≡ Some Pass
IsAsked machine past (Finished node Waiting) = WaitingAsked machine past node
IsAsked machine past (Finished node end) = FinishAsked machine past node (Finish end)

-- each entry is asked for
abbrev pub Asked : Machine → List Entry → Type 0
Asked machine [] = Unit {0}
Asked machine (entry ∷ past) = IsAsked machine past entry × Asked machine past
