-- A step without a value, and what is printed.
use Rattle.std.proofs.Common.{◌≡◌, ℕ, ◌≤◌, Bool, true, false, if◌then◌else◌, nat_le, nat_lt, get_or, Some, None, List, [], ◌∷◌, ◌++◌, map, length, take, drop, reverse, slice_get, append_assoc, refl, sym, ap, ◌∙◌, subst}
use Rattle.std.proofs.lemmas.Bool.{le-leb, leb-true, ltb-false, ltb-true}
use Rattle.std.proofs.lemmas.Option.{slice_get_past, slice_get_read}
use Rattle.std.specs.List.{list_all}
use Rattle.resumption.specs.Resumption as doing
use Rattle.resumption.specs.Resumption.{next_text, past_text}
use Rattle.sc_base.specs.declared.value.CopyMode.{CopyMode}
use Rattle.sc_base.specs.declared.value.Value.{Value}
use Rattle.sc_base.specs.declared.value.Value.TheVariants.{Int, Null, Ptr}
use Rattle.sc_layout.specs.Layout.{Arrangement}
use Rattle.sc_isa.specs.declared.operand.Operand.{Operand}
use Rattle.sc_isa.specs.declared.operand.Operand.TheVariants.{Here, Landing}
use Rattle.sc_isa.specs.Deeds.{Done, prints, sticks, printing}
use Rattle.sc_isa.specs.Elements.{ints}
use Rattle.sc_isa.specs.Printing.{formatted}
use Rattle.sc_tree.specs.Names.{Text}
use Rattle.sc_core.specs.declared.operation.Action.{Action}
use Rattle.sc_core.specs.declared.operation.Action.TheVariants.{Print}
use Rattle.sc_core.specs.Table.{done_of}
use Rattle.sc_meaning.specs.Asking.{Halt, Breaks, SourceDoing}
use Rattle.sc_meaning.specs.Meaning.{Setting}
use Rattle.sc_meaning.specs.Memory.{Memory}
use Rattle.sc_meaning.specs.Steps.{mode_of}
use Rattle.node_values.specs.Operands.{is_here, is_int, value_in, int_in}
use Rattle.core_state.specs.PlainDeeds.{is_print}
use Rattle.core_machine.specs.Todo.{Todo, enacts, says, State, Goes}
use Rattle.core_machine.specs.Moves.{at_work, halted, move, after_action}
use Rattle.core_machine.specs.Runs.{Runs, stops}
use Rattle.core_machine.proofs.Leading.{goes_on, said, Said, stopped}
use Rattle.core_run.specs.declared.runner.Runner.{Runner}
use Rattle.core_run.specs.Views.{all_of, setting_of, state_of, working, Becomes}
use Rattle.core_run.specs.Seen.{Towards, Leads}
use Rattle.core_run.proofs.Advancing.{moved_on, leads}

-- ---- numbers among operands

not_true : {A : Type 0} → false ≡ true → A
not_true e = absurd cc

not_false : {A : Type 0} → true ≡ false → A
not_false e = absurd cc

ints_are : (os : List Operand) → list_all is_int os ≡ true → ints (map value_in os) ≡ Some (map int_in os)
ints_are [] h = refl
ints_are (Here (Int n) ∷ os) h = rw (ints_are os h) refl
ints_are (Here Null ∷ os) h = not_true h
ints_are (Here (Ptr object node offset) ∷ os) h = not_true h
ints_are (Landing counter number ∷ os) h = not_true h

no_ints : (os : List Operand) → list_all is_int os ≡ false → list_all is_here os ≡ true → ints (map value_in os) ≡ None
no_ints [] h k = not_false h
no_ints (Here (Int n) ∷ os) h k = rw (no_ints os h k) refl
no_ints (Here Null ∷ os) h k = refl
no_ints (Here (Ptr object node offset) ∷ os) h k = refl
no_ints (Landing counter number ∷ os) h k = not_true k

module _ (layout : Arrangement) (texts : List Text) (text limit : ℕ) where
  pub prints_nothing : (vs : List Value) → slice_get texts text ≡ None → done_of layout texts (Print text limit) vs ≡ sticks
  prints_nothing vs e = rw e refl

  pub prints_wrong : (format : List ℕ) (os : List Operand) → slice_get texts text ≡ Some format → list_all is_int os ≡ false
      → list_all is_here os ≡ true → done_of layout texts (Print text limit) (map value_in os) ≡ sticks
  prints_wrong format os e h k = rw e (ap (printing format) (no_ints os h k))

  pub prints_so : (format : List ℕ) (os : List Operand) → slice_get texts text ≡ Some format → list_all is_int os ≡ true
      → done_of layout texts (Print text limit) (map value_in os) ≡ prints (formatted format (map int_in os))
  prints_so format os e h = rw e (ap (printing format) (ints_are os h))

-- ---- an action by the last values

module _ (here : Setting) (action : Action) (count line : ℕ) (ts : List Todo) (vs : List Value) (m : Memory) (left : ℕ) where
  abbrev by_values_so : Bool → State
  by_values_so b =
      if b then after_action (mode_of action) (done_of here.layout here.program.texts action (reverse (take count vs))) line ts (drop count vs) m left
      else halted Breaks ts vs m left

  pub enacts_few : nat_le count (length vs) ≡ false → move here (enacts action count line ∷ ts) vs m left ≡ Goes (halted Breaks ts vs m left)
  enacts_few e = ap (λ b. Goes (by_values_so b)) e

  pub enacts_so : (d : Done) → count ≤ length vs → done_of here.layout here.program.texts action (reverse (take count vs)) ≡ d
      → move here (enacts action count line ∷ ts) vs m left ≡ Goes (after_action (mode_of action) d line ts (drop count vs) m left)
  enacts_so d h e =
      ap (λ b. Goes (by_values_so b)) (le-leb count (length vs) h)
      ∙ ap (λ d. Goes (after_action (mode_of action) d line ts (drop count vs) m left)) e

-- ---- of a runner

-- it breaks off as well with other values
halts_so : (here : Setting) (h : Halt) (ts us : List Todo) (vs ws : List Value) (m : Memory) (left : ℕ) (d : SourceDoing)
    → Runs here (halted h ts vs m left) d → Runs here (halted h us ws m left) d
halts_so here h ts us vs ws m left (doing.Asks r f g) runs = absurd (stopped here _ _ (doing.Asks r f g) refl runs)
halts_so here h ts us vs ws m left (doing.Makes r rest) runs = absurd (stopped here _ _ (doing.Makes r rest) refl runs)
halts_so here h ts us vs ws m left (doing.Says t rest) runs = absurd (stopped here _ _ (doing.Says t rest) refl runs)
halts_so here h ts us vs ws m left (doing.Stops k) runs =
    subst (λ k. Runs here (halted h us ws m left) (doing.Stops k)) (stopped here (halted h ts vs m left) h (doing.Stops k) refl runs) (stops refl)

-- what is said goes out
says_on : (here : Setting) (s next : State) (text printed all : List ℕ) (rest d : SourceDoing) → Said here s text next d
    → printed ++ next_text d ≡ all → past_text d ≡ rest → Towards all rest here next (printed ++ text)
says_on here s next text printed all rest (doing.Asks r f g) h e p = absurd h
says_on here s next text printed all rest (doing.Makes r more) h e p = absurd h
says_on here s next text printed all rest (doing.Says t more) h e p = record {
  doing = more;
  runs = h.1;
  said = append_assoc printed text (next_text more) ∙ ap (λ t. printed ++ (t ++ next_text more)) h.0 ∙ e;
  past = p;
}
says_on here s next text printed all rest (doing.Stops k) h e p = absurd h

-- the runner with its last values taken, after an action
pub prints_on : (old new : Runner) (limit line text count : ℕ) (said_text : List ℕ) → count ≤ length old.values
    → done_of old.layout.now (setting_of old).program.texts (Print text limit) (reverse (take count old.values)) ≡ prints said_text
    → state_of new ≡ at_work (all_of old.tasks) (drop count old.values) old.memory old.left
    → setting_of new ≡ setting_of old → new.printed.items ≡ old.printed.items ++ said_text
    → Leads old (enacts (Print text limit) count line ∷ []) new
prints_on old new limit line text count said_text h e state same out all rest t =
    let here = setting_of old in
    let next = at_work (all_of old.tasks) (drop count old.values) old.memory old.left in
    let s = at_work (says said_text ∷ all_of old.tasks) (drop count old.values) old.memory old.left in
    let on = goes_on here (working old (enacts (Print text limit) count line ∷ [])) s t.doing
    (enacts_so here (Print text limit) count line (all_of old.tasks) old.values old.memory old.left (prints said_text) h e) t.runs in
    let w = says_on here s next said_text old.printed.items all rest t.doing (said here s said_text next t.doing refl on) t.said t.past in
    subst (λ here. Towards all rest here (state_of new) new.printed.items) (sym same)
    (subst (λ s. Towards all rest here s new.printed.items) (sym state)
    (subst (λ p. Towards all rest here next p) (sym out) w))

-- an action that breaks off, whatever its values were
pub sticks_on : (old new : Runner) (action : Action) (count line : ℕ) → count ≤ length old.values
    → done_of old.layout.now (setting_of old).program.texts action (reverse (take count old.values)) ≡ sticks
    → Becomes old (halted Breaks (all_of old.tasks) old.values old.memory old.left) new → Leads old (enacts action count line ∷ []) new
sticks_on old new action count line h e b =
    let here = setting_of old in
    moved_on old new (enacts action count line ∷ []) (halted Breaks (all_of old.tasks) old.values old.memory old.left) (λ d r.
    halts_so here Breaks (all_of old.tasks) (all_of old.tasks) (drop count old.values) old.values old.memory old.left d
    (goes_on here (working old (enacts action count line ∷ [])) (halted Breaks (all_of old.tasks) (drop count old.values) old.memory old.left) d
    (enacts_so here action count line (all_of old.tasks) old.values old.memory old.left sticks h e) r)) b

pub few_on : (old new : Runner) (action : Action) (count line : ℕ) → nat_le count (length old.values) ≡ false
    → Becomes old (halted Breaks (all_of old.tasks) old.values old.memory old.left) new → Leads old (enacts action count line ∷ []) new
few_on old new action count line h b =
    leads old new (enacts action count line) (halted Breaks (all_of old.tasks) old.values old.memory old.left)
    (enacts_few (setting_of old) action count line (all_of old.tasks) old.values old.memory old.left h) b

pub enacts_on : (old new : Runner) (action : Action) (count line : ℕ) (d : Done) → count ≤ length old.values
    → done_of old.layout.now (setting_of old).program.texts action (reverse (take count old.values)) ≡ d
    → Becomes old (after_action (mode_of action) d line (all_of old.tasks) (drop count old.values) old.memory old.left) new
    → Leads old (enacts action count line ∷ []) new
enacts_on old new action count line d h e b =
    leads old new (enacts action count line)
    (after_action (mode_of action) d line (all_of old.tasks) (drop count old.values) old.memory old.left)
    (enacts_so (setting_of old) action count line (all_of old.tasks) old.values old.memory old.left d h e) b

no_print : (action : Action) → ((text limit : ℕ) → action ≡ Print text limit → ⊥) → is_print action ≡ false
no_print (Print text limit) n = absurd (n text limit refl)
no_print _ n = refl

-- what is done is what the deed of the code says
pub enacts_by : (old new : Runner) (action : Action) (count line : ℕ) (ws : List Value) (mode : CopyMode) (d : Done) (os : List Operand)
    → ((text limit : ℕ) → action ≡ Print text limit → ⊥) → nat_le count (length old.values) ≡ true
    → map value_in os ≡ reverse (take count old.values)
    → (is_print action ≡ false → d ≡ done_of old.layout.now (setting_of old).program.texts action (map value_in os))
    → mode ≡ mode_of action → ws ≡ drop count old.values
    → Becomes (record old { values = ws }) (after_action mode d line (all_of old.tasks) ws old.memory old.left) new
    → Leads old (enacts action count line ∷ []) new
enacts_by old new action count line ws mode d os n h are is same e b =
    let ts = all_of old.tasks in
    let D = done_of old.layout.now (setting_of old).program.texts action in
    enacts_on old new action count line (D (reverse (take count old.values))) (leb-true count (length old.values) h) refl (record {
      state = b.state
          ∙ ap (λ mode. after_action mode d line ts ws old.memory old.left) same
          ∙ ap (λ d. after_action (mode_of action) d line ts ws old.memory old.left) (is (no_print action n) ∙ ap D are)
          ∙ ap (λ ws. after_action (mode_of action) (D (reverse (take count old.values))) line ts ws old.memory old.left) e;
      program = b.program;
      layout = b.layout;
      node = b.node;
      printed = b.printed;
    })

-- ---- texts by their numbers

pub no_text : (texts slice : List Text) (n : ℕ) → slice ≡ texts → false ≡ nat_lt n (length slice) → slice_get texts n ≡ None
no_text texts slice n e h =
    ap (λ l. slice_get l n) (sym e) ∙ slice_get_past slice n (ltb-false n (length slice) (sym h))

pub some_text : (texts slice : List Text) (n : ℕ) (x : List ℕ) → slice ≡ texts → true ≡ nat_lt n (length slice) → x ≡ get_or slice n x
    → slice_get texts n ≡ Some x
some_text texts slice n x e h is =
    ap (λ l. slice_get l n) (sym e) ∙ slice_get_read slice (length slice) n x refl (ltb-true n (length slice) (sym h)) is
