-- Runs are entered at their beginning and gone through in order.
use Rattle.std.proofs.Common.{◌≡◌, inl, inr, ℕ, ◌+◌, List, [], ◌∷◌, ◌++◌, length, map, Option, Some, None, slice_get, refl, sym, ap, ◌∙◌, subst}
use Rattle.sc_base.specs.declared.value.Value.{Value}
use Rattle.sc_layout.specs.Layout.{Arrangement}
use Rattle.sc_isa.specs.declared.access.Access.TheVariants as accesses
use Rattle.sc_isa.specs.declared.access.Track.TheVariants as tracks
use Rattle.sc_isa.specs.declared.code.Code.{Code}
use Rattle.sc_isa.specs.declared.code.FnRow.{FnRow}
use Rattle.sc_isa.specs.declared.op.Instr.{Instr}
use Rattle.sc_isa.specs.declared.op.Op.{Op}
use Rattle.sc_isa.specs.declared.op.Op.TheVariants as op
use Rattle.sc_isa.specs.State.{Frame, State, Flight, at_instr, land_frame}
use Rattle.sc_isa.specs.Moves.{After, GoesOn, Ends, Sticks, Move, Comes, Issues, Waits, Meets, Says}
use Rattle.sc_isa.specs.Table.{step_of, does_op, does_instr}
use Rattle.sc_isa.specs.Begin.{begin, begins_at, entry}
use Rattle.sc_isa.specs.Sound.{Reached, begun, then_, Leads, IsAfter}
use Rattle.sc_core.specs.Core.{Function}
use Rattle.site_graph.specs.declared.plan.Plan.{Plan}
use Rattle.node_emit.specs.Sources.{rows_from}
use Rattle.node_emit.specs.Stands.{Stands, flat}
use Rattle.node_emit.specs.Carries.{Follows}
use Rattle.forgotten_marks.proofs.Steps.{AfterTo, MoveTo, Here_, Jumped, Led, op_leads}
use Rattle.emit_laws.proofs.Items.{all_instrs, all_stands, functions_items}
use Rattle.code_walks.proofs.Bounds.{IsBoundary, source_ok, starts_ok}
use Rattle.code_walks.proofs.Chains.{IsOver, IsEntry, over_entry, AreLong, Pair, next_follows, bound_entry, Leaves, leaves_at}

abbrev pub at_of : Frame → ℕ
at_of f = f.at

abbrev pub ats : List Frame → List ℕ
ats fs = map at_of fs

landed_ats : (counter : ℕ) (values : List Value) (fs : List Frame) → ats (map (land_frame counter values) fs) ≡ ats fs
landed_ats counter values [] = refl
landed_ats counter values (f ∷ fs) = ap (λ l. f.at ∷ l) (landed_ats counter values fs)

-- the state that a move comes to, and that which follows when values have landed
pub record To (P : List Flight → State → Type 0) (next : State) : Type 0 where
  pub flying : List Flight
  pub state : State
  pub holds : P flying state
  pub at : next.frame.at ≡ state.frame.at
  pub callers : ats next.callers ≡ ats state.callers

module _ (layout : Arrangement) (P : List Flight → State → Type 0) where
  itself : (fl : List Flight) (s next : State) → P fl s → next ≡ s → To P next
  itself fl s next h e = record {
    flying = fl;
    state = s;
    holds = h;
    at = ap (λ (t : State). t.frame.at) e;
    callers = ap (λ (t : State). ats t.callers) e;
  }

  after_leads : (fl : List Flight) (after : After) (next : State) → AfterTo (P fl) after → IsAfter after next → To P next
  after_leads fl (GoesOn s) next h e = itself fl s next h e
  after_leads fl (Ends end) next h e = absurd e
  after_leads fl Sticks next h e = absurd e

  pub leads_to : (fl : List Flight) (move : Move) (next : State) → MoveTo P fl move → Leads layout move next → To P next
  leads_to fl (Comes after) next h e = after_leads fl after next h e
  leads_to fl (Issues (accesses.Read place (tracks.Counter counter)) after) next h e =
      after_leads (fl ++ record { counter = counter; place = place } ∷ []) after next h e
  leads_to fl (Issues (accesses.Read place tracks.Store) after) next h e = absurd h
  leads_to fl (Issues (accesses.Read place tracks.Covered) after) next h e = absurd h
  leads_to fl (Issues (accesses.Write place value track) after) next h e = after_leads fl after next h e
  leads_to fl (Issues (accesses.Copy from to cells track) after) next h e = after_leads fl after next h e
  leads_to fl (Waits counter s) next h e = record {
    flying = fl;
    state = s;
    holds = h;
    at = ap (λ (t : State). t.frame.at) e.next_is;
    callers = ap (λ (t : State). ats t.callers) e.next_is ∙ landed_ats counter e.values s.callers;
  }
  leads_to fl (Meets stores s) next h e = itself fl s next h e
  leads_to fl (Says text s) next h e = itself fl s next h e

-- the code is that of the functions, and its runs are so long
pub record IsLaid (code : Code) (functions : List Function) (plan : Plan) (len : ℕ → ℕ) : Type 0 where
  pub instrs : code.instrs ≡ all_instrs plan (functions_items plan functions 1 0 0)
  pub rows : code.functions ≡ rows_from plan functions 1 0
  pub long : AreLong plan len (functions_items plan functions 1 0 0)

module _ (code : Code) (functions : List Function) (plan : Plan) (len : ℕ → ℕ) (laid : IsLaid code functions plan len) where
  abbrev pub place : ℕ → Option Stands
  place pc = flat (slice_get (all_stands plan (functions_items plan functions 1 0 0)) pc)

  abbrev pub Enters : ℕ → Type 0
  Enters pc = IsEntry plan len (place pc)

  -- whom a function returns to
  abbrev pub AllEnter : List ℕ → Type 0
  AllEnter [] = Unit {0}
  AllEnter (pc ∷ pcs) = Enters pc × AllEnter pcs

  bounds : (q : ℕ) → IsBoundary plan functions q → Enters q
  bounds q b = bound_entry plan len (functions_items plan functions 1 0 0) [] 0 q refl b

  row_enters : (f : ℕ) (row : FnRow) → slice_get code.functions f ≡ Some row → Enters row.start
  row_enters f row e = bounds row.start (starts_ok plan functions f row (ap (λ rows. slice_get rows f) (sym laid.rows) ∙ e))

  pair : (pc : ℕ) → Pair plan len (place pc) (place (pc + 1))
  pair pc = next_follows plan len (functions_items plan functions 1 0 0) laid.long pc

  pub leaves : (pc : ℕ) (i : Instr) → slice_get code.instrs pc ≡ Some i → Leaves plan len (IsBoundary plan functions) (place pc) i.op
  leaves pc i e =
      leaves_at plan len (IsBoundary plan functions) (functions_items plan functions 1 0 0) laid.long (source_ok plan functions) pc i
      (ap (λ is. slice_get is pc) (sym laid.instrs) ∙ e)

  -- the next instruction, and whom functions return to from there
  pub record On (pc next : ℕ) (callers : List ℕ) : Type 0 where
    pub follows : Follows len (place pc) (place next)
    pub return : AllEnter callers

  here_on : (s : State) (fl : List Flight) (next : State) → AllEnter (ats s.callers) → Here_ (at_instr (s.frame.at + 1) s) fl next
      → On s.frame.at next.frame.at (ats next.callers)
  here_on s fl next c h = record {
    follows = subst (λ n. Follows len (place s.frame.at) (place n)) (sym h.at) (pair s.frame.at).follows;
    return = subst (λ fs. AllEnter (ats fs)) (sym h.callers) c;
  }

  jump_on : (target : ℕ) (s : State) (fl : List Flight) (next : State) → AllEnter (ats s.callers) → IsOver plan len (place s.frame.at) → IsBoundary plan functions target
      → Jumped target (at_instr (s.frame.at + 1) s) fl next → On s.frame.at next.frame.at (ats next.callers)
  jump_on target s fl next c o b h = record {
    follows = subst (λ n. Follows len (place s.frame.at) (place n)) (sym h.at) (over_entry plan len (place s.frame.at) (place target) o (bounds target b));
    return = subst (λ fs. AllEnter (ats fs)) (sym h.callers) c;
  }

  led_on : (o : Op) (s : State) (fl : List Flight) (next : State) → AllEnter (ats s.callers) → Leaves plan len (IsBoundary plan functions) (place s.frame.at) o
      → Led code o (at_instr (s.frame.at + 1) s) fl next → On s.frame.at next.frame.at (ats next.callers)
  led_on (op.Jump target) s fl next c l h = jump_on target s fl next c l.0 l.1 h
  led_on (op.Zero target) s fl next c l (inl h) = jump_on target s fl next c l.0 l.1 h
  led_on (op.Zero target) s fl next c l (inr h) = here_on s fl next c h
  led_on (op.Call f) s fl next c l h = record {
    follows = subst (λ n. Follows len (place s.frame.at) (place n)) (sym h.at) (over_entry plan len (place s.frame.at) (place h.row.start) l (row_enters f h.row h.is_row));
    return = subst (λ fs. AllEnter (ats fs)) (sym h.callers) (subst Enters (sym h.goes_on) ((pair s.frame.at).enters l), c);
  }
  led_on op.Ret s fl next c l h =
      let c' : AllEnter (ats (h.caller ∷ h.others)) = subst (λ fs. AllEnter (ats fs)) h.was c in
      record {
        follows = subst (λ n. Follows len (place s.frame.at) (place n)) (sym h.at) (over_entry plan len (place s.frame.at) (place h.caller.at) l c'.0);
        return = subst (λ fs. AllEnter (ats fs)) (sym h.callers) c'.1;
      }
  led_on o s fl next c l h = here_on s fl next c h

  module _ (layout : Arrangement) (node : ℕ) where
    by_instr : (s next : State) (o : Option Instr) → slice_get code.instrs s.frame.at ≡ o → AllEnter (ats s.callers)
        → Leads layout (does_instr code layout node o s) next → On s.frame.at next.frame.at (ats next.callers)
    by_instr s next None e c l = absurd l
    by_instr s next (Some i) e c l =
        let s' = at_instr (s.frame.at + 1) s in
        let t = leads_to layout (Led code i.op s') s.flying (does_op code layout node i.op i.line s') next (op_leads code layout node i.op i.line s') l in
        let on = led_on i.op s t.flying t.state c (leaves s.frame.at i e) t.holds in
        record {
          follows = subst (λ n. Follows len (place s.frame.at) (place n)) (sym t.at) on.follows;
          return = subst AllEnter (sym t.callers) on.return;
        }

    pub step_on : (s next : State) → AllEnter (ats s.callers) → Leads layout (step_of code layout node s) next → On s.frame.at next.frame.at (ats next.callers)
    step_on s next c l = by_instr s next (slice_get code.instrs s.frame.at) refl c l

    begin_returns : (budget outside : ℕ) (o : Option FnRow) → AllEnter (ats (begins_at budget outside o).callers)
    begin_returns budget outside None = tt
    begin_returns budget outside (Some row) = tt

    pub reached_returns : (budget : ℕ) (s : State) → Reached code layout node budget s → AllEnter (ats s.callers)
    reached_returns budget s (begun s' e) = subst (λ (t : State). AllEnter (ats t.callers)) (sym e) (begin_returns budget _ (entry code))
    reached_returns budget s (then_ before s' r l) = (step_on before s (reached_returns budget before r) l).return

    pub runs_in_order : (budget : ℕ) (s next : State) → Reached code layout node budget s → Leads layout (step_of code layout node s) next
        → Follows len (place s.frame.at) (place next.frame.at)
    runs_in_order budget s next r l = (step_on s next (reached_returns budget s r) l).follows

    pub begins_at_first : (budget f : ℕ) (row : FnRow) → entry code ≡ slice_get code.functions f → slice_get code.functions f ≡ Some row
        → Enters (begin code budget).frame.at
    begins_at_first budget f row e g =
        subst (λ o. Enters (begins_at budget (length code.instrs) o).frame.at) (sym (e ∙ g)) (row_enters f row g)
