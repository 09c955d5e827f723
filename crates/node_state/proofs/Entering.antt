-- A frame on top of the one that called it.
use Rattle.std.proofs.Common.{◌≡◌, ℕ, ◌≤◌, List, ◌∷◌, [], ◌++◌, length, take, drop, reverse, refl, sym, ap, ◌∙◌, append_assoc, arith}
use Rattle.std.proofs.lemmas.List.{reverse-append, take-take, take_at, drop_at}
use Rattle.sc_isa.specs.declared.operand.Operand.{Operand}
use Rattle.sc_isa.specs.declared.operand.Slot.{Slot}
use Rattle.node_state.specs.declared.frames.Caller.{Caller}
use Rattle.node_state.specs.Frames.{frames_below}

pub below_entered : (stack over : List Operand) (slots above : List Slot) (callers all : List Caller) (caller : Caller)
    (begin first : ℕ)
    → caller.base ≤ begin → over ≡ take begin stack → take first above ≡ slots → all ≡ callers ++ caller ∷ []
    → frames_below (take begin over) (take first above) (reverse all)
    ≡ record { at = caller.at; stack = reverse (drop caller.base (take begin stack)); locals = drop caller.first slots }
    ∷ frames_below (take caller.base stack) (take caller.first slots) (reverse callers)
below_entered stack over slots above callers all caller begin first within o a e =
    let twice : take begin (take begin stack) ≡ take begin stack = take-take begin begin stack (omega arith) in
    rw (e, reverse-append callers (caller ∷ []), a, o, twice, take-take caller.base begin stack within) refl

-- the locals of the frame, and the slots below it
module _ (slots more all arguments blanks : List Slot) (first : ℕ) (at : first ≡ length slots)
    (m : more ≡ slots ++ arguments) (e : all ≡ more ++ blanks) where
  joined : all ≡ slots ++ (arguments ++ blanks)
  joined = e ∙ ap (λ (xs : List Slot). xs ++ blanks) m ∙ append_assoc slots arguments blanks

  pub locals_entered : drop first all ≡ arguments ++ blanks
  locals_entered = ap (drop first) joined ∙ drop_at slots (arguments ++ blanks) first (sym at)

  pub slots_below : take first all ≡ slots
  slots_below = ap (take first) joined ∙ take_at slots (arguments ++ blanks) first (sym at)
