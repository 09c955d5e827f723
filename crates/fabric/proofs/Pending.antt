-- A node's pending messages are as many as its cells that have a part still to occur.
use Rattle.std.proofs.Common.{◌≡◌, ◌==◌, ℕ, List, [], ◌∷◌, length, map, refl, sym, ap, ◌∙◌, arith}
use Rattle.msg_pool.specs.Pool.{Pending, of_issuer}
use Rattle.fabric.specs.Access.{any_track}
use Rattle.fabric.specs.Flight.{flying_count}
use Rattle.fabric.specs.State.{State, start_of, nodes_of}
use Rattle.fabric.specs.Kept.{IsOfJournal, OpenCellsPend}
use Rattle.fabric.proofs.Deciding.{decide_on}
use Rattle.fabric.proofs.Counting.{outstanding_flies}

-- a node's messages are those that fly on any track
issuers_fly : (node : ℕ) (pending : List Pending)
    → length (of_issuer node pending) ≡ flying_count (λ other. other == node) any_track (map (λ (p : Pending). p.message) pending)
issuers_fly node [] = refl
issuers_fly node (p ∷ ps) =
    decide_on (p.message.issuer == node)
    (λ t. rw t (omega (arith, issuers_fly node ps)))
    (λ f. rw f (omega (arith, issuers_fly node ps)))

pub open_cells_pend : (state : State) → IsOfJournal state → OpenCellsPend state
open_cells_pend state j node =
    issuers_fly node state.pool.pending ∙ ap (flying_count (λ other. other == node) any_track) j.messages
    ∙ sym (outstanding_flies (start_of state) (nodes_of state) (λ other. other == node) any_track state.past j.wired)
