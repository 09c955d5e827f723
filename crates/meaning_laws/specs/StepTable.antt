-- The two columns of the table of steps agree: the instructions of a step do to a node's state what the step does with
-- the values of its arguments.
use Rattle.std.specs.Prelude.{◌≡◌, ℕ, ◌<◌, ◌≤◌, List, [], ◌∷◌, ◌++◌, length, map, reverse, slice_get, Some, Bool, true, false}
use Rattle.sc_base.specs.declared.value.Value.{Value}
use Rattle.sc_layout.specs.Layout.{Arrangement}
use Rattle.sc_isa.specs.declared.access.Track.{Track}
use Rattle.sc_isa.specs.declared.access.Track.TheVariants.{Counter, Store, Covered}
use Rattle.sc_isa.specs.declared.code.Code.{Code}
use Rattle.sc_isa.specs.declared.code.FnRow.{FnRow}
use Rattle.sc_isa.specs.declared.op.Op.{Op}
use Rattle.sc_isa.specs.declared.operand.Operand.TheVariants.{Here}
use Rattle.sc_isa.specs.State.{State, with_stack}
use Rattle.sc_isa.specs.Moves.{GoesOn, Move, Comes, gain_done, act_done}
use Rattle.sc_isa.specs.Table.{copy_track, does_op}
use Rattle.sc_core.specs.declared.operation.Operation.{Operation}
use Rattle.sc_core.specs.declared.operation.Operation.TheVariants as op
use Rattle.sc_core.specs.declared.operation.Action.{Action}
use Rattle.sc_core.specs.declared.operation.Action.TheVariants as acts
use Rattle.sc_core.specs.Table.{made_of, done_of, ops_of, ops_of_action}

-- the instructions one after another, as long as each goes on at the next one
abbrev pub in_turn : Move → (State → Move) → Move
in_turn (Comes (GoesOn s)) go = go s
in_turn move go = move

abbrev pub does_ops : Code → Arrangement → (node line : ℕ) → List Op → State → Move
does_ops code layout node line [] s = Comes (GoesOn s)
does_ops code layout node line (o ∷ ops) s =
    in_turn (does_op code layout node o line s) (does_ops code layout node line ops)

-- the values of the arguments, the last on top
abbrev pub with_values : List Value → State → State
with_values values s = with_stack (map Here (reverse values) ++ s.frame.stack) s

-- how many arguments a step has
abbrev pub arguments_of : Operation → ℕ
arguments_of (op.Use x) = 0
arguments_of (op.Element o n plain) = n
arguments_of (op.Address o n) = n
arguments_of (op.Forward star) = 2
arguments_of (op.Back star) = 2
arguments_of (op.Binary operator) = 2
arguments_of op.Same = 2
arguments_of op.Differ = 2
arguments_of op.ToGlobal = 2
arguments_of (op.Call f n) = n
arguments_of op.Write = 2
arguments_of _ = 1

abbrev pub arguments_of_action : Action → ℕ
arguments_of_action (acts.Clear x pointer) = 0
arguments_of_action acts.Put = 2
arguments_of_action acts.Send = 2
arguments_of_action (acts.Copy mode) = 3
arguments_of_action (acts.Print text n) = n
arguments_of_action acts.Sync = 0
arguments_of_action acts.Barrier = 0
arguments_of_action acts.AllStoreSync = 0
arguments_of_action _ = 1

-- how a step's access is waited for
abbrev pub track_of : (one_way : Bool) → (site : ℕ) → Track
track_of true site = Covered
track_of false site = Counter site

abbrev pub action_track : (site : ℕ) → Action → Track
action_track site acts.Send = Store
action_track site (acts.Copy mode) = copy_track site mode
action_track site action = Counter 0

-- the code has the site of the access that the step is, and for the function that it calls a row of as many parameters
pub record HasSite (code : Code) (site : ℕ) : Type 0 where
  pub from_one : 0 < site
  pub within : site ≤ code.sites

abbrev pub IsAtSite : Code → (site : ℕ) → Operation → Type 0
IsAtSite code site op.Read = HasSite code site
IsAtSite code site op.Write = HasSite code site
IsAtSite code site operation = Unit {0}

abbrev pub ActsAtSite : Code → (site : ℕ) → Action → Type 0
ActsAtSite code site (acts.Fill x) = HasSite code site
ActsAtSite code site (acts.Get x) = HasSite code site
ActsAtSite code site acts.Put = HasSite code site
ActsAtSite code site acts.Send = HasSite code site
ActsAtSite code site (acts.Copy mode) = HasSite code site
ActsAtSite code site action = Unit {0}

abbrev pub HasRow : Code → Operation → Type 0
HasRow code (op.Call f n) = (row : FnRow) × (slice_get code.functions f ≡ Some row) × (row.params ≡ n)
HasRow code operation = Unit {0}

abbrev pub StepsAreTheirInstructions : Type 0
StepsAreTheirInstructions =
    (code : Code) (layout : Arrangement) (node line site : ℕ) (one_way : Bool)
    (operation : Operation) (values : List Value) (s : State)
    → IsAtSite code site operation → HasRow code operation → length values ≡ arguments_of operation
    → does_ops code layout node line (ops_of one_way site operation) (with_values values s)
    ≡ gain_done code site (track_of one_way site) line s (made_of layout node operation values)

abbrev pub ActionsAreTheirInstructions : Type 0
ActionsAreTheirInstructions =
    (code : Code) (layout : Arrangement) (node line site : ℕ) (action : Action) (values : List Value) (s : State)
    → ActsAtSite code site action → length values ≡ arguments_of_action action
    → does_ops code layout node line (ops_of_action site action) (with_values values s)
    ≡ act_done site (action_track site action) line s (done_of layout code.texts action values)
