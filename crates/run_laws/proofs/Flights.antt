-- The reads that a node's state keeps on their way, in step with those of an oracle whose values fit.
use Rattle.std.proofs.Common.{◌≡◌, inl, inr, ℕ, ◌+◌, ◌==◌, List, [], ◌∷◌, ◌++◌, map, filter, not, Option, Some, None, Bool, true, false, if◌then◌else◌, slice_get, refl, ap}
use Rattle.std.proofs.lemmas.Bool.{and_from}
use Rattle.sc_base.specs.declared.value.Place.{Place}
use Rattle.sc_base.specs.declared.value.Value.{Value}
use Rattle.sc_layout.specs.Layout.{Arrangement}
use Rattle.sc_isa.specs.declared.access.Track.TheVariants.{Counter}
use Rattle.sc_isa.specs.declared.code.Code.{Code}
use Rattle.sc_isa.specs.declared.op.Instr.{Instr}
use Rattle.sc_isa.specs.declared.op.Op.{Op}
use Rattle.sc_isa.specs.declared.op.Op.TheVariants as op
use Rattle.sc_isa.specs.Fitting.{fits, fits_all}
use Rattle.sc_isa.specs.State.{State, Flight, at_instr, reads_on, without_reads_on}
use Rattle.sc_isa.specs.Table.{step_of, does_op, does_instr}
use Rattle.node_emit.specs.Oracles.{Oracle, Flying, is_on}
use Rattle.forgotten_marks.proofs.Steps.{MoveTo, Led, op_leads, move_more}
use Rattle.forgotten_marks.proofs.Counted.{Flies}

led_flies : (code : Code) (o : Op) (s : State) (flights : List Flight) (next : State) → Led code o s flights next
    → Flies flights next
led_flies code (op.Jump target) s flights next h = h.flying_is
led_flies code (op.Zero target) s flights next (inl h) = h.flying_is
led_flies code (op.Zero target) s flights next (inr h) = h.flying_is
led_flies code (op.Call f) s flights next h = h.flying_is
led_flies code op.Ret s flights next h = h.flying_is
led_flies code o s flights next h = h.flying_is

instr_flies : (code : Code) (layout : Arrangement) (node : ℕ) (s : State) (o : Option Instr)
    → MoveTo Flies s.flying (does_instr code layout node o s)
instr_flies code layout node s None = tt
instr_flies code layout node s (Some i) =
    let s' = at_instr (s.frame.at + 1) s in
    move_more (Led code i.op s') Flies (λ flights next h. led_flies code i.op s' flights next h) s.flying (does_op code layout node i.op i.line s')
    (op_leads code layout node i.op i.line s')

-- a step adds to the reads on their way the one that it issues
pub step_flies : (code : Code) (layout : Arrangement) (node : ℕ) (s : State)
    → MoveTo Flies s.flying (step_of code layout node s)
step_flies code layout node s = instr_flies code layout node s (slice_get code.instrs s.frame.at)

module _ (layout : Arrangement) (oracle : Oracle) where
  -- one for one: on the same counter, and the oracle's value fits the place
  abbrev pub InStep : List Flight → List Flying → Type 0
  InStep [] [] = Unit {0}
  InStep (flight ∷ flights) (f ∷ fs) =
      (f.track ≡ Counter flight.counter) × (fits layout flight.place (oracle.value f.number) ≡ true) × InStep flights fs
  InStep [] (f ∷ fs) = ⊥
  InStep (flight ∷ flights) [] = ⊥

  pub step_end : (flights : List Flight) (fs : List Flying) (counter number : ℕ) (place : Place) → InStep flights fs
      → fits layout place (oracle.value number) ≡ true
      → InStep (flights ++ record { counter = counter; place = place } ∷ []) (fs ++ record { number = number; track = Counter counter } ∷ [])
  step_end [] [] counter number place h e = (refl, e, tt)
  step_end (flight ∷ flights) (f ∷ fs) counter number place h e = (h.0, h.1, step_end flights fs counter number place h.2 e)
  step_end [] (f ∷ fs) counter number place h e = absurd h
  step_end (flight ∷ flights) [] counter number place h e = absurd h

  on_same : (counter : ℕ) (flight : Flight) (f : Flying) → f.track ≡ Counter flight.counter
      → is_on counter f.track ≡ (flight.counter == counter)
  on_same counter flight f e = ap (is_on counter) e

  abbrev pub values_on : ℕ → List Flying → List Value
  values_on counter fs = map (λ (f : Flying). oracle.value f.number) (filter (λ (f : Flying). is_on counter f.track) fs)

  -- what lands at a wait fits
  pub step_reads : (counter : ℕ) (flights : List Flight) (fs : List Flying) → InStep flights fs
      → fits_all layout (reads_on counter flights) (values_on counter fs) ≡ true
  step_reads counter [] [] h = refl
  step_reads counter (flight ∷ flights) (f ∷ fs) h =
      by (flight.counter == counter) (is_on counter f.track) (on_same counter flight f h.0) (step_reads counter flights fs h.2)
    where
      by : (b z : Bool) → z ≡ b → fits_all layout (reads_on counter flights) (values_on counter fs) ≡ true
          → fits_all layout (if b then flight.place ∷ reads_on counter flights else reads_on counter flights)
          (map (λ (f : Flying). oracle.value f.number) (if z then f ∷ filter (λ (f : Flying). is_on counter f.track) fs else filter (λ (f : Flying). is_on counter f.track) fs)) ≡ true
      by true true e ih = and_from (fits layout flight.place (oracle.value f.number)) (fits_all layout (reads_on counter flights) (values_on counter fs)) h.1 ih
      by false false e ih = ih
      by true false e ih = absurd (cc)
      by false true e ih = absurd (cc)
  step_reads counter [] (f ∷ fs) h = absurd h
  step_reads counter (flight ∷ flights) [] h = absurd h

  -- and what is on other counters stays on its way
  pub step_waited : (counter : ℕ) (flights : List Flight) (fs : List Flying) → InStep flights fs
      → InStep (without_reads_on counter flights) (filter (λ f. not (is_on counter f.track)) fs)
  step_waited counter [] [] h = tt
  step_waited counter (flight ∷ flights) (f ∷ fs) h =
      by (flight.counter == counter) (is_on counter f.track) (on_same counter flight f h.0) (step_waited counter flights fs h.2)
    where
      by : (b z : Bool) → z ≡ b
          → InStep (without_reads_on counter flights) (filter (λ f. not (is_on counter f.track)) fs)
          → InStep (if b then without_reads_on counter flights else flight ∷ without_reads_on counter flights)
          (if not z then f ∷ filter (λ f. not (is_on counter f.track)) fs else filter (λ f. not (is_on counter f.track)) fs)
      by true true e ih = ih
      by false false e ih = (h.0, h.1, ih)
      by true false e ih = absurd (cc)
      by false true e ih = absurd (cc)
  step_waited counter [] (f ∷ fs) h = absurd h
  step_waited counter (flight ∷ flights) [] h = absurd h
