-- The instructions of a step do what the step does.
use Rattle.std.proofs.Common.{◌≡◌, ℕ, List, [], ◌∷◌, ◌++◌, length, map, reverse, slice_get, Option, Some, None, Bool, true, false, if◌then◌else◌, refl, sym, ap, ◌∙◌, subst, arith}
use mathlib.Core.List.{reverse_aux}
use Rattle.std.specs.Prelude.{ℤ, nat_lt, nat_le}
use Rattle.std.specs.Option.{option_map_or}
use Rattle.std.proofs.lemmas.Bool.{and_from}
use Rattle.std.proofs.lemmas.Bool.Decides.{Decides-ltb}
use Rattle.std.proofs.lemmas.List.{reverse-reverse, length-reverse}
use Rattle.sc_base.specs.declared.operator.Unary.TheVariants.{Minus, Not}
use Rattle.sc_base.specs.declared.value.Value.{Value}
use Rattle.sc_layout.specs.Layout.{Arrangement}
use Rattle.sc_tree.specs.Names.{Text}
use Rattle.sc_isa.specs.declared.access.Track.{Track}
use Rattle.sc_isa.specs.declared.access.Track.TheVariants.{Counter, Store}
use Rattle.sc_isa.specs.declared.code.Code.{Code}
use Rattle.sc_isa.specs.declared.op.Op.TheVariants as ops
use Rattle.sc_isa.specs.declared.operand.Operand.{Operand}
use Rattle.sc_isa.specs.declared.operand.Operand.TheVariants.{Here, Landing}
use Rattle.sc_isa.specs.declared.operand.Slot.{Slot}
use Rattle.sc_isa.specs.declared.operand.Slot.TheVariants.{Holds, Pending}
use Rattle.sc_isa.specs.Elements.{Outcome, gives, fails, wrong, ints}
use Rattle.sc_isa.specs.Pure.{Pure, elem, step, glob, to_local, to_proc, to_global, bin, un, same, truth, arity, computed}
use Rattle.sc_isa.specs.Steps.{Gain, pure, call, takes, Act, print, fill, get, put, send, copy, wait, uses_up}
use Rattle.sc_isa.specs.Deeds.{Made, made, made_by, sticks, done, printing, Spotted, found, missing, nowhere, spotted, reading, filling}
use Rattle.sc_isa.specs.State.{State, with_stack, pushed, with_local}
use Rattle.sc_isa.specs.Moves.{GoesOn, Ends, Sticks, Move, Comes, Issues, Waits, Meets, Says, taken, local_value, gain_done, act_done}
use Rattle.sc_isa.specs.Table as machine
use Rattle.sc_core.specs.declared.operation.Operation.{Operation}
use Rattle.sc_core.specs.declared.operation.Operation.TheVariants as op
use Rattle.sc_core.specs.declared.operation.Action.{Action}
use Rattle.sc_core.specs.declared.operation.Action.TheVariants as acts
use Rattle.sc_core.specs.Table.{then_made, made_of, done_of, ops_of, ops_of_action}
use Rattle.meaning_laws.proofs.Decided.{le_decides}
use Rattle.meaning_laws.specs.StepTable.{in_turn, does_ops, with_values, arguments_of, arguments_of_action, track_of, action_track, HasSite, IsAtSite, ActsAtSite, HasRow, StepsAreTheirInstructions, ActionsAreTheirInstructions}

-- ---- taking the values of the arguments

pub taken_on : (ws acc : List Value) (stack : List Operand)
    → taken (length ws) acc (map Here ws ++ stack) ≡ Some (record { values = reverse_aux ws acc; rest = stack })
taken_on [] acc stack = refl
taken_on (w ∷ ws) acc stack = taken_on ws (w ∷ acc) stack

pub taken_all : (n : ℕ) (values : List Value) (stack : List Operand) → length values ≡ n
    → taken n [] (map Here (reverse values) ++ stack) ≡ Some (record { values = values; rest = stack })
taken_all n values stack e =
    let all = taken_on (reverse values) [] stack in
    subst (λ k. taken k [] (map Here (reverse values) ++ stack) ≡ Some (record { values = values; rest = stack }))
    (length-reverse values ∙ e)
    (all ∙ ap (λ (vs : List Value). Some (record { values = vs; rest = stack })) (reverse-reverse values))

-- an instruction that is the last
pub alone : (move : Move) → in_turn move (λ s. Comes (GoesOn s)) ≡ move
alone (Comes (GoesOn s)) = refl
alone (Comes (Ends end)) = refl
alone (Comes Sticks) = refl
alone (Issues access after) = refl
alone (Waits counter s) = refl
alone (Meets stores s) = refl
alone (Says text s) = refl

module _ (code : Code) (layout : Arrangement) (node line : ℕ) where
  pub gains_are : (g : Gain) (site : ℕ) (track : Track) (values : List Value) (s : State) → length values ≡ takes g
      → machine.gains code layout node g site track line (with_values values s)
      ≡ gain_done code site track line s (made layout node g values)
  gains_are g site track values s e =
      ap (λ t. machine.gained code layout node g site track line (with_values values s) t) (taken_all (takes g) values s.frame.stack e)

  pub acts_are : (a : Act) (site : ℕ) (track : Track) (values : List Value) (s : State) → length values ≡ uses_up a
      → machine.acts code layout node a site track line (with_values values s) ≡ act_done site track line s (done layout a values)
  acts_are a site track values s e =
      ap (λ t. machine.acted layout a site track line (with_values values s) t) (taken_all (uses_up a) values s.frame.stack e)

  -- what makes a value, or none, issues nothing
  free : (site : ℕ) (track : Track) (s : State) (o : Outcome)
      → gain_done code 0 (Counter 0) line s (made_by o) ≡ gain_done code site track line s (made_by o)
  free site track s (gives v) = refl
  free site track s (fails kind) = refl
  free site track s wrong = refl

  pub pure_is : (p : Pure) (site : ℕ) (track : Track) (values : List Value) (s : State) → length values ≡ arity p
      → machine.gives code layout node (pure p) line (with_values values s)
      ≡ gain_done code site track line s (made_by (computed layout node p values))
  pure_is p site track values s e = gains_are (pure p) 0 (Counter 0) values s e ∙ free site track s (computed layout node p values)

  -- one instruction that computes, and then another by its value
  pub then_is : (site : ℕ) (track : Track) (o : Outcome) (then_s s : State) (go : State → Move) (k : Value → Made)
      → ((v : Value) → go (pushed (Here v) then_s) ≡ gain_done code site track line s (k v))
      → in_turn (gain_done code 0 (Counter 0) line then_s (made_by o)) go ≡ gain_done code site track line s (then_made o k)
  then_is site track (gives v) then_s s go k h = h v
  then_is site track (fails kind) then_s s go k h = refl
  then_is site track wrong then_s s go k h = refl

  at_its_site : (site : ℕ) → HasSite code site → (move : Move) → machine.at_site code site move ≡ move
  at_its_site site has move =
      ap (λ b. if b then move else Comes Sticks)
      (and_from (nat_lt 0 site) (nat_le site code.sites) ((Decides-ltb 0 site).1 has.from_one) ((le_decides site code.sites).1 has.within))

module _ (code : Code) (layout : Arrangement) (node line site : ℕ) (one_way : Bool) (s : State) where
  abbrev track : Track
  track = track_of one_way site

  abbrev Agrees : Operation → List Value → Type 0
  Agrees operation values =
      does_ops code layout node line (ops_of one_way site operation) (with_values values s)
      ≡ gain_done code site track line s (made_of layout node operation values)

  one_pure : (p : Pure) (values : List Value) → length values ≡ arity p
      → in_turn (machine.gives code layout node (pure p) line (with_values values s)) (λ t. Comes (GoesOn t))
      ≡ gain_done code site track line s (made_by (computed layout node p values))
  one_pure p values e = alone _ ∙ pure_is code layout node line p site track values s e

  no_values : (operation : Operation) (values : List Value) → length values ≡ 0 → Agrees operation [] → Agrees operation values
  no_values operation [] e h = h
  no_values operation (v ∷ vs) e h = absurd (omega arith)

  one_value : (operation : Operation) (values : List Value) → length values ≡ 1 → ((v : Value) → Agrees operation (v ∷ []))
      → Agrees operation values
  one_value operation [] e h = absurd (omega arith)
  one_value operation (v ∷ []) e h = h v
  one_value operation (v ∷ w ∷ vs) e h = absurd (omega arith)

  two_values : (operation : Operation) (values : List Value) → length values ≡ 2 → ((v w : Value) → Agrees operation (v ∷ w ∷ []))
      → Agrees operation values
  two_values operation [] e h = absurd (omega arith)
  two_values operation (v ∷ []) e h = absurd (omega arith)
  two_values operation (v ∷ w ∷ []) e h = h v w
  two_values operation (v ∷ w ∷ x ∷ vs) e h = absurd (omega arith)

  writes_one : HasSite code site → (b : Bool) (v w : Value)
      → does_ops code layout node line (ops_of b site op.Write) (with_values (v ∷ w ∷ []) s)
      ≡ gain_done code site (track_of b site) line s (made_of layout node op.Write (v ∷ w ∷ []))
  writes_one has true v w = alone _ ∙ at_its_site code layout node line site has _
  writes_one has false v w = alone _ ∙ at_its_site code layout node line site has _

  -- a read is waited for on its own counter
  reads_freely : (o : Spotted) → gain_done code site (Counter site) line s (reading o) ≡ gain_done code site track line s (reading o)
  reads_freely (found place) = refl
  reads_freely (missing kind) = refl
  reads_freely nowhere = refl

  agrees : (operation : Operation) (values : List Value) → IsAtSite code site operation → HasRow code operation → length values ≡ arguments_of operation
      → Agrees operation values
  agrees (op.Use x) values has row e = no_values (op.Use x) values e (alone _)
  agrees (op.Element o n literal) values has row e = one_pure (elem o n) values e
  agrees (op.Address o n) values has row e = one_pure (elem o n) values e
  agrees op.Own values has row e = one_pure glob values e
  agrees op.Convert values has row e = one_pure glob values e
  agrees (op.Forward star) values has row e = one_pure (step star) values e
  agrees (op.Back star) values has row e =
      two_values (op.Back star) values e (λ p by.
      then_is code layout node line site track (computed layout node (un Minus) (by ∷ [])) (with_stack (Here p ∷ s.frame.stack) s) s
      (does_ops code layout node line (ops.Step star ∷ [])) (λ n. made_by (computed layout node (step star) (p ∷ n ∷ [])))
      (λ n. one_pure (step star) (p ∷ n ∷ []) refl))
  agrees (op.Binary operator) values has row e = one_pure (bin operator) values e
  agrees (op.Unary operator) values has row e = one_pure (un operator) values e
  agrees op.Same values has row e = one_pure same values e
  agrees op.Differ values has row e =
      ap (λ move. in_turn move (does_ops code layout node line (ops.Un Not ∷ [])))
      (gains_are code layout node line (pure same) 0 (Counter 0) values s e)
      ∙ then_is code layout node line site track (computed layout node same values) s s
      (does_ops code layout node line (ops.Un Not ∷ [])) (λ v. made_by (computed layout node (un Not) (v ∷ [])))
      (λ v. one_pure (un Not) (v ∷ []) refl)
  agrees op.IsNull values has row e =
      ap (λ move. in_turn move (does_ops code layout node line (ops.Un Not ∷ [])))
      (gains_are code layout node line (pure truth) 0 (Counter 0) values s e)
      ∙ then_is code layout node line site track (computed layout node truth values) s s
      (does_ops code layout node line (ops.Un Not ∷ [])) (λ v. made_by (computed layout node (un Not) (v ∷ [])))
      (λ v. one_pure (un Not) (v ∷ []) refl)
  agrees op.ToGlobal values has row e = one_pure to_global values e
  agrees op.ToProc values has row e = one_pure to_proc values e
  agrees op.ToLocal values has row e = one_pure to_local values e
  agrees (op.Set x) values has row e = one_value (op.Set x) values e (λ v. alone _)
  agrees (op.Call f n) values has row e =
      alone _
      ∙ ap (λ o. machine.calls_row code layout node f o line (with_values values s)) row.1
      ∙ gains_are code layout node line (call f row.0.params) 0 (Counter 0) values s (e ∙ sym row.2)
  agrees op.Read values has row e = one_value op.Read values e (λ p. alone _ ∙ at_its_site code layout node line site has _ ∙ reads_freely (spotted layout p))
  agrees op.Write values has row e = two_values op.Write values e (writes_one has one_way)

pub steps_are_their_instructions : StepsAreTheirInstructions
steps_are_their_instructions code layout node line site one_way operation values s has row e =
    agrees code layout node line site one_way s operation values has row e

-- ---- steps without a value

module _ (code : Code) (layout : Arrangement) (node line site : ℕ) (s : State) where
  abbrev ActsAs : Action → List Value → Type 0
  ActsAs action values =
      does_ops code layout node line (ops_of_action site action) (with_values values s)
      ≡ act_done site (action_track site action) line s (done_of layout code.texts action values)

  no_arguments : (action : Action) (values : List Value) → length values ≡ 0 → ActsAs action [] → ActsAs action values
  no_arguments action [] e h = h
  no_arguments action (v ∷ vs) e h = absurd (omega arith)

  one_argument : (action : Action) (values : List Value) → length values ≡ 1 → ((v : Value) → ActsAs action (v ∷ [])) → ActsAs action values
  one_argument action [] e h = absurd (omega arith)
  one_argument action (v ∷ []) e h = h v
  one_argument action (v ∷ w ∷ vs) e h = absurd (omega arith)

  -- the local is set, and the value that stands for the step is dropped
  then_drops : (x : ℕ) (v : Value) (o : Option Slot)
      → in_turn (local_value Comes line o (λ old. Comes (GoesOn (pushed (Here v) (with_local x (Holds (Here v)) s)))))
      (does_ops code layout node line (ops.Drop ∷ []))
      ≡ local_value Comes line o (λ old. Comes (GoesOn (with_local x (Holds (Here v)) s)))
  then_drops x v None = refl
  then_drops x v (Some (Holds (Here w))) = refl
  then_drops x v (Some (Holds (Landing counter number))) = refl
  then_drops x v (Some (Pending number)) = refl

  -- an access of the site, by so many values
  by_site : HasSite code site → (a : Act) (track : Track) (values : List Value) → length values ≡ uses_up a
      → in_turn (machine.at_site code site (machine.acts code layout node a site track line (with_values values s))) (λ t. Comes (GoesOn t))
      ≡ act_done site track line s (done layout a values)
  by_site has a track values e = alone _ ∙ at_its_site code layout node line site has _ ∙ acts_are code layout node line a site track values s e

  -- a text is said by no site
  says_freely : (format : List ℕ) (o : Option (List ℤ))
      → act_done 0 (Counter 0) line s (printing format o) ≡ act_done site (Counter 0) line s (printing format o)
  says_freely format (Some ns) = refl
  says_freely format None = refl

  prints_as : (n : ℕ) (o : Option Text) (values : List Value) → length values ≡ n
      → machine.prints_text code layout node o n line (with_values values s)
      ≡ act_done site (Counter 0) line s (option_map_or (λ format. done layout (print format n) values) o sticks)
  prints_as n (Some format) values e =
      acts_are code layout node line (print format n) 0 (Counter 0) values s e ∙ says_freely format (ints values)
  prints_as n None values e = refl

  -- a fill is waited for on its own counter
  fills_freely : (x : ℕ) (o : Spotted)
      → act_done site (Counter site) line s (filling x o) ≡ act_done site (Counter 0) line s (filling x o)
  fills_freely x (found place) = refl
  fills_freely x (missing kind) = refl
  fills_freely x nowhere = refl

  waits_at_zero : machine.at_counter code 0 (machine.does code layout node (wait 0) line s) ≡ Waits 0 s
  waits_at_zero = ap (λ b. if b then Waits 0 s else Comes Sticks) ((le_decides 0 code.sites).1 (omega arith))

  acts_as : (action : Action) (values : List Value) → ActsAtSite code site action → length values ≡ arguments_of_action action → ActsAs action values
  acts_as acts.Drop values has e = one_argument acts.Drop values e (λ v. refl)
  acts_as (acts.Begin x) values has e = one_argument (acts.Begin x) values e (λ v. then_drops x v (slice_get s.frame.locals x))
  acts_as (acts.Clear x pointer) values has e = no_arguments (acts.Clear x pointer) values e (alone _)
  acts_as (acts.Fill x) values has e =
      one_argument (acts.Fill x) values e (λ p. by_site has (fill x) (Counter site) (p ∷ []) refl ∙ fills_freely x (spotted layout p))
  acts_as (acts.Get x) values has e = by_site has (get x) (Counter 0) values e
  acts_as acts.Put values has e = by_site has put (Counter 0) values e
  acts_as acts.Send values has e = by_site has send Store values e
  acts_as (acts.Copy mode) values has e = by_site has copy (machine.copy_track site mode) values e
  acts_as (acts.Print text n) values has e = alone _ ∙ prints_as n (slice_get code.texts text) values e
  acts_as acts.Sync values has e = no_arguments acts.Sync values e (alone _ ∙ waits_at_zero)
  acts_as acts.Barrier values has e = no_arguments acts.Barrier values e (alone _)
  acts_as acts.AllStoreSync values has e = no_arguments acts.AllStoreSync values e (alone _)

pub actions_are_their_instructions : ActionsAreTheirInstructions
actions_are_their_instructions code layout node line site action values s has e = acts_as code layout node line site s action values has e
