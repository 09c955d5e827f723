-- Sound code settles: each instruction makes a rank of the state less.
use Rattle.std.proofs.Common.{◌≡◌, ℕ, zero, suc, ◌+◌, ◌*◌, ◌<◌, ◌≤◌, Option, Some, None, Bool, true, false, List, [], length, slice_get, refl, arith}
use Rattle.std.specs.Option.{option_map_or}
use Rattle.std.proofs.Common.{inl, inr}
use Rattle.std.proofs.Math.Nat.{mul-le-mul_right, eq-or-lt_of_le}
use Rattle.std.proofs.lemmas.Option.{slice_get_within}
use Rattle.resumption.specs.Resumption.{run_of}
use Rattle.sc_layout.specs.Layout.{Arrangement}
use Rattle.sc_isa.specs.declared.code.Code.{Code}
use Rattle.sc_isa.specs.declared.op.Instr.{Instr}
use Rattle.sc_isa.specs.State.{State, at_instr}
use Rattle.sc_isa.specs.Table.{does_op, does_instr, step_of}
use Rattle.sc_isa.specs.Begin.{begin}
use Rattle.sc_isa.specs.Run.{Answer, asks_from, code_run}
use Rattle.sc_isa.specs.Sound.{Leads, Reached, begun, then_, IsDone, is_bounded, IsSound}
use Rattle.sc_isa.specs.Laws.{IsPlacedAsk, RunsSoundly, Settles}
use Rattle.sc_isa.proofs.Moving.{Kept, move_good, sound_move, all_nothing, all_more, IsKnown, move_same}
use Rattle.sc_isa.proofs.Weights.{weight, Weighs, weighs_leads, op_weighs}

-- ---- more instructions change nothing

module _ (code : Code) (layout : Arrangement) (node : ℕ) where
  pub more_same : (few many : ℕ) (s : State) (answers : List Answer) → few ≤ many
      → IsKnown (run_of (asks_from code layout node few s) answers)
      → run_of (asks_from code layout node many s) answers ≡ run_of (asks_from code layout node few s) answers
  more_same zero many s answers le h = absurd (h refl)
  more_same (suc few) zero s answers le h = absurd (omega arith)
  more_same (suc few) (suc many) s answers le h =
      move_same layout (asks_from code layout node few) (asks_from code layout node many)
      (λ next answers known. more_same few many next answers (omega arith) known)
      (step_of code layout node s) answers h

-- ---- a bound of the numbers

total : (ℕ → ℕ) → ℕ → ℕ
total f zero = 0
total f (suc n) = f n + total f n

le_of_lt_suc : (i n : ℕ) → i < suc n → i ≤ n
le_of_lt_suc i n h = omega arith

below_total : (f : ℕ → ℕ) (n i : ℕ) → i < n → f i ≤ total f n
unfolding total
below_total f zero i h = absurd (omega arith)
below_total f (suc n) i h =
    elim (eq-or-lt_of_le (le_of_lt_suc i n h))
    [ inl e ↦ rw e (omega arith) | inr lt ↦ omega (arith, below_total f n i lt) ]

less_in_front : (a b x y top : ℕ) → a < b → x ≤ top → a * (top + 1) + x < b * (top + 1) + y
less_in_front a b x y top lt le = omega (arith, mul-le-mul_right {m = a + 1} {n = b} (top + 1) (omega arith))

-- ---- the rank

module _ (code : Code) (layout : Arrangement) (sound : IsSound code layout) (node budget : ℕ)
    (in_layout : node < layout.nodes) where
  most : ℕ
  most = total sound.numbers (length code.instrs)

  rank : State → ℕ
  rank s = weight s * (most + 1) + sound.numbers s.frame.at

  abbrev Comes_to : State → Type 0
  Comes_to s = Reached code layout node budget s

  stands_by : (s : State) (o : Option Instr) → slice_get code.instrs s.frame.at ≡ o
      → IsDone (does_instr code layout node o s) → s.frame.at < length code.instrs
  stands_by s None e d = absurd d
  stands_by s (Some instr) e d = slice_get_within code.instrs s.frame.at instr e

  stands : (s : State) → Comes_to s → s.frame.at < length code.instrs
  stands s r = stands_by s (slice_get code.instrs s.frame.at) refl (sound.never_stuck node budget s in_layout r)

  number_below : (s : State) → Comes_to s → sound.numbers s.frame.at ≤ most
  unfolding most
  number_below s r = below_total sound.numbers (length code.instrs) s.frame.at (stands s r)

  falls_if : (s next : State) (b : Bool) → Comes_to next → Weighs b (weight s) (weight next)
      → (b ≡ false → sound.numbers next.frame.at < sound.numbers s.frame.at) → rank next < rank s
  unfolding rank
  falls_if s next true r w n = less_in_front (weight next) (weight s) (sound.numbers next.frame.at)
      (sound.numbers s.frame.at) most w (number_below next r)
  falls_if s next false r w n = rw w (omega (arith, n refl))

  falls_by : (s next : State) (o : Option Instr) → Comes_to next → IsDone (does_instr code layout node o s)
      → Leads layout (does_instr code layout node o s) next
      → (option_map_or (λ instr. is_bounded instr.op) o false ≡ false
      → sound.numbers next.frame.at < sound.numbers s.frame.at) → rank next < rank s
  falls_by s next None r d l n = absurd d
  falls_by s next (Some instr) r d l n =
      let behind = at_instr (s.frame.at + 1) s in
      falls_if s next (is_bounded instr.op) r
      (weighs_leads (is_bounded instr.op) (weight s) layout (does_op code layout node instr.op instr.line behind)
      next (op_weighs code layout node instr.op instr.line behind) l) n

  rank_falls : (s next : State) → Comes_to s → Leads layout (step_of code layout node s) next → rank next < rank s
  rank_falls s next r l =
      falls_by s next (slice_get code.instrs s.frame.at) (then_ s next r l)
      (sound.never_stuck node budget s in_layout r) l
      (λ e. sound.falls node budget s next in_layout r e l)

  -- ---- known

  known_kept : Kept (IsPlacedAsk layout) IsKnown
  known_kept = record {
    finished = λ end h. absurd (cc);
    waiting = λ ask p h. absurd (cc);
    event = λ ask run p g. g;
    said = λ text run g. g;
  }

  known : (many : ℕ) (s : State) (answers : List Answer) → Comes_to s → rank s < many
      → IsKnown (run_of (asks_from code layout node many s) answers)
  known zero s answers r lt = absurd (omega arith)
  known (suc many) s answers r lt =
      move_good layout (IsPlacedAsk layout) IsKnown known_kept (asks_from code layout node many)
      (step_of code layout node s) answers
      (sound_move layout IsKnown (step_of code layout node s) (sound.never_stuck node budget s in_layout r)
      (sound.placed node budget s in_layout r))
      (λ next answers l. known many next answers (then_ s next r l) (omega (arith, rank_falls s next r l)))

  begins : Comes_to (begin code budget)
  begins = begun (begin code budget) refl

  pub settles : Settles code layout node budget
  settles =
      let enough = rank (begin code budget) + 1 in
      record {
        many = enough;
        known = λ answers. known enough (begin code budget) answers begins (omega arith);
        same = λ more answers le. more_same code layout node enough more (begin code budget) answers le
            (known enough (begin code budget) answers begins (omega arith));
      }

  -- ---- soundly

  soundly_kept : Kept (IsPlacedAsk layout) (RunsSoundly layout)
  soundly_kept = record {
    finished = λ end. record { not_stuck = λ h. absurd (cc); placed = all_nothing (IsPlacedAsk layout) };
    waiting = λ ask p. record {
      not_stuck = λ h. absurd (cc);
      placed =
          all_more (IsPlacedAsk layout) ask [] p (all_nothing (IsPlacedAsk layout));
    };
    event = λ ask run p g. record {
      not_stuck = g.not_stuck;
      placed =
          all_more (IsPlacedAsk layout) ask run.events p g.placed;
    };
    said = λ text run g. record { not_stuck = g.not_stuck; placed = g.placed };
  }

  soundly_from : (many : ℕ) (s : State) (answers : List Answer) → Comes_to s
      → RunsSoundly layout (run_of (asks_from code layout node many s) answers)
  soundly_from zero s answers r = record { not_stuck = λ h. absurd (cc); placed = all_nothing (IsPlacedAsk layout) }
  soundly_from (suc many) s answers r =
      move_good layout (IsPlacedAsk layout) (RunsSoundly layout) soundly_kept (asks_from code layout node many)
      (step_of code layout node s) answers
      (sound_move layout (RunsSoundly layout) (step_of code layout node s)
      (sound.never_stuck node budget s in_layout r) (sound.placed node budget s in_layout r))
      (λ next answers l. soundly_from many next answers (then_ s next r l))

  pub soundly : (many : ℕ) (answers : List Answer)
      → RunsSoundly layout (code_run code layout node budget many answers)
  soundly many answers = soundly_from many (begin code budget) answers begins
