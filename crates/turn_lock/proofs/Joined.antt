-- The view that a join makes, and the stage of a turn.
use Rattle.std.proofs.Common.{◌≡◌, ℕ, ◌≤◌, Bool, true, false, true≢false, sym, List, [], ◌∷◌, Option, None, leb, ◌++◌, length, refl, arith, leb-true, leb-false}
use Rattle.turn_lock.specs.declared.rule.View.{View}
use Rattle.turn_lock.specs.declared.rule.Stage.TheVariants.{Idle, Waiting, Holding}
use Rattle.turn_lock.specs.declared.rule.Stage.{Stage}
use Rattle.turn_lock.specs.Rule.{put_together, both}
use Rattle.turn_lock.specs.Seats.{is_out, InHand}

-- a seat with no turn out is idle, and holds no slot
pub at_rest : {T : Type 0} (st : Stage) (cs : List (ℕ × Option T)) → is_out st ≡ false → InHand st cs → (st ≡ Idle) × (cs ≡ [])
at_rest Idle cs e h = (refl, h)
at_rest (Waiting t) cs e h = absurd h
at_rest (Holding t) cs e h = absurd (true≢false e)

-- a seat with a turn out holds the empty slot
pub at_turn : {T : Type 0} (st : Stage) (cs : List (ℕ × Option T)) → is_out st ≡ true → InHand st cs → (t : ℕ) × (st ≡ Holding t) × (cs ≡ (0, None) ∷ [])
at_turn Idle cs e h = absurd (true≢false (sym e))
at_turn (Waiting t) cs e h = absurd h
at_turn (Holding t) cs e h = (t, refl, h)

-- the stage of a turn
pub turn_of : (st : Stage) → is_out st ≡ true → (t : ℕ) × (st ≡ Holding t)
turn_of Idle e = absurd (true≢false (sym e))
turn_of (Waiting t) e = absurd (true≢false (sym e))
turn_of (Holding t) e = (t, refl)

module _ {E : Type 0} where
  -- a joined seat has no ticket
  pub stage_both : (x : Bool) (v w : View E) → (put_together x v w).stage ≡ Idle
  stage_both true v w = refl
  stage_both false v w = refl

  -- a joined seat has the lanes of both
  pub lanes_both : (x : Bool) (v w : View E) → (put_together x v w).lanes ≡ v.lanes ++ w.lanes
  lanes_both true v w = refl
  lanes_both false v w = refl

  -- what a joined seat was told is no longer than what it has seen
  pub told_less : (v w : View E) → length (both v w).told ≤ length (both v w).seen
  told_less v w = go (leb (length v.seen) (length w.seen)) refl where
    go : (x : Bool) → leb (length v.seen) (length w.seen) ≡ x → length (put_together x v w).told ≤ length (put_together x v w).seen
    go true is = leb-true (length v.seen) (length w.seen) is
    go false is = let lt = leb-false (length v.seen) (length w.seen) is in omega arith
