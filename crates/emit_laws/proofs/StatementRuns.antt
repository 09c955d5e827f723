-- The code of statements, of functions and of a whole source does what they do.
use Rattle.std.proofs.Common.{◌≡◌, inl, ℕ, zero, suc, ◌+◌, ◌<◌, ◌≤◌, List, [], ◌∷◌, ◌++◌, length, Option, Some, None, slice_get, refl, sym, ap, ◌∙◌, subst, arith}
use Rattle.resumption.specs.Resumption.{Stops}
use Rattle.sc_base.specs.declared.value.End.TheVariants.{Ended}
use Rattle.sc_base.specs.declared.value.Value.{Value}
use Rattle.sc_isa.specs.declared.code.FnRow.{FnRow}
use Rattle.sc_isa.specs.declared.op.Op.TheVariants as op
use Rattle.sc_core.specs.Core.{Does, nothing, break, continue, then_, act, choose, loop, return, Function}
use Rattle.sc_core.specs.Statements.{zero_of}
use Rattle.sc_meaning.specs.Asking.{PointedDoing, Finishes}
use Rattle.sc_meaning.specs.Memory.{Slot, Memory, top, entered as entered_locals, popped}
use Rattle.sc_meaning.specs.Steps.{Rest, none_awaits, counted}
use Rattle.sc_meaning.specs.Points.{size, sizes, size_of, first_point}
use Rattle.sc_meaning.specs.Meaning.{pass, Jumps, rounds, calls_by, constant_of, does, end_point, in_body, body_of, entering, begun}
use Rattle.flow_form.specs.Accesses.{accesses, accesses_in}
use Rattle.flow_form.specs.Exits.{leaves}
use Rattle.emit_laws.proofs.Parts.{In, Setup, Enter, Flows, Lie, PointAt, FunctionAt}
use Rattle.emit_laws.proofs.Ghosts.{Thing, val, plain, slots, Holder, World, memory_of, older, Worth, worths, Stage, between, leaving, turning, limit, entered, called_with, MayFrom, Token, Runs, push, jump, skip, enter, step_calls, too_deep, tests, turns, returns_to, over}
use Rattle.emit_laws.proofs.Cells.{in_left, in_right, top_slots, below_slots, called_slots, HeldAll, held_older, held_called, may_from}
use Rattle.emit_laws.proofs.StepRuns.{CallsRun, action_runs}
use Rattle.emit_laws.proofs.TreeRuns.{From_, value_runs, values_runs}

module _ (c : Setup) (given : ℕ → Value) (n : ℕ) (calls_run : CallsRun c given n) (fn : ℕ) (fns : List ℕ) (frames : List Holder) (room : n + length frames ≡ limit) where
  abbrev D : Does → ℕ → Jumps → Rest → Rest
  D = does c.here (calls_by c.here n)

  abbrev R : Stage → List Thing → World → PointedDoing → Type 0
  R stage stack w d = Runs c given stage stack frames w d

  abbrev pub Go : List ℕ → ℕ → List Thing → ℕ → Rest → Type 0
  Go = From_ c given n calls_run fn fns frames room

  -- where the function returns, the caller goes on with the value
  abbrev pub Back : List Thing → ℕ → (Value → Rest) → Type 0
  Back stack bound back =
      (v : Value) (from : Option Token) (w : World) (t pc over_ line : ℕ) → c.Goes w.at t → PointAt c t pc (op.Ret ∷ []) line over_
      → MayFrom c t from → In t (c.returns fn) → w.left ≤ bound → HeldAll c (fn ∷ fns) w.cells
      → R (between pc) (val v from ∷ stack) w (pass t (none_awaits line (top (memory_of w).frames) (back v (memory_of w) w.left)))

  less_back : (stack : List Thing) (bound bound' : ℕ) (back : Value → Rest) → bound' ≤ bound → Back stack bound back → Back stack bound' back
  less_back stack bound bound' back less h v from w t pc over_ line goes at_ may in_ le held =
      h v from w t pc over_ line goes at_ may in_ (omega arith) held

  -- some of the ways in, with less left
  part : (xs ys : List ℕ) (pc : ℕ) (stack : List Thing) (bound bound' : ℕ) (rest : Rest) → ((w : ℕ) → In w xs → In w ys) → bound' ≤ bound
      → Go ys pc stack bound rest → Go xs pc stack bound' rest
  part xs ys pc stack bound bound' rest sub less h w le at_ held = h w (omega arith) (sub w.at at_) held

  rounds_run : (t p q pc : ℕ) (froms falls : List ℕ) (stack : List Thing) (before turn : Rest → Rest) (bound : ℕ)
      → Enter c falls t → PointAt c t p (op.Turn ∷ []) 0 q
      → ((bound' : ℕ) (rest : Rest) → bound' ≤ bound → Go falls p stack bound' rest → Go froms pc stack bound' (before rest))
      → ((bound' : ℕ) (rest : Rest) → bound' ≤ bound → Go froms pc stack bound' rest → Go (t ∷ []) q stack bound' (turn rest))
      → (m : ℕ) (w : World) → w.left < m → w.left ≤ bound → In w.at froms → HeldAll c (fn ∷ fns) w.cells
      → R (between pc) stack w (rounds t m before turn (memory_of w) w.left)
  rounds_run t p q pc froms falls stack before turn bound enters at_turn before_run turn_run zero w lt le at_ held = absurd (omega arith)
  rounds_run t p q pc froms falls stack before turn bound enters at_turn before_run turn_run (suc m) w lt le at_ held =
      before_run w.left (λ mem left. pass t (counted left (λ left. turn (rounds t m before turn) mem left))) le
      (λ w1 le1 at1 held1. enter {stage = turning q} t (enters w1.at at1) at_turn
      (turns (λ left is. turn_run left (rounds t m before turn) (omega (arith, ap suc is))
      (λ w2 le2 at2 held2.
      rounds_run t p q pc froms falls stack before turn bound enters at_turn before_run turn_run m w2 (omega (arith, is)) (omega (arith, is)) at2 held2)
      (record (entered c t w1) { left = left }) (omega arith) (inl refl) held1)))
      w (omega arith) at_ held

  does_run : (s : Does) (k s0 : ℕ) (froms : List ℕ) (out again pc end : ℕ) (stack : List Thing) (bound : ℕ) (j : Jumps) (rest : Rest)
      → Flows c fn s k s0 froms → Lie c s k s0 out again pc end → Back stack bound j.back
      → Go (leaves c.returns s k froms).breaks out stack bound j.out → Go (leaves c.returns s k froms).continues again stack bound j.again
      → Go (leaves c.returns s k froms).falls end stack bound rest → Go froms pc stack bound (D s k j rest)
  does_run nothing k s0 froms out again pc end stack bound j rest flow code back brk cnt next w le at_ held =
      subst (λ p. R (between p) stack w (rest (memory_of w) w.left)) (sym code) (next w le at_ held)
  does_run break k s0 froms out again pc end stack bound j rest flow code back brk cnt next w le at_ held = jump code.0 (brk w le at_ held)
  does_run continue k s0 froms out again pc end stack bound j rest flow code back brk cnt next w le at_ held = jump code.0 (cnt w le at_ held)
  does_run (then_ a b) k s0 froms out again pc end stack bound j rest flow code back brk cnt next w le at_ held =
      let la = leaves c.returns a k froms in
      let lb = leaves c.returns b (k + size_of a) la.falls in
      does_run a k s0 froms out again pc code.0 stack bound j _ flow.0 code.1 back
      (λ w le at_ held. brk w le (in_left w.at la.breaks _ at_) held) (λ w le at_ held. cnt w le (in_left w.at la.continues _ at_) held)
      (does_run b (k + size_of a) (s0 + accesses_in a) la.falls out again code.0 end stack bound j rest flow.1 code.2 back
      (λ w le at_ held. brk w le (in_right w.at la.breaks _ at_) held) (λ w le at_ held. cnt w le (in_right w.at la.continues _ at_) held) next)
      w le at_ held
  does_run (act a arguments line) k s0 froms out again pc end stack bound j rest flow code back brk cnt next w le at_ held =
      values_runs c given n calls_run fn fns frames room arguments k s0 froms pc code.0 stack bound _ flow.0 code.1
      (λ xs w count le at_ held come.
      action_runs c given n calls_run fn fns frames room a line (k + sizes arguments) _ _ _ code.0 end _ xs stack bound rest flow.1 code.2 count come next
      w le at_ held)
      w le at_ held
  does_run (choose of_pointer test on off) k s0 froms out again pc end stack bound j rest flow code back brk cnt next w le at_ held =
      let t = k + size test in
      let s' = s0 + accesses test in
      let la = leaves c.returns on (t + 1) (t ∷ []) in
      value_runs c given n calls_run fn fns frames room test k s0 froms pc code.0 stack bound _ flow.0 code.4
      (λ v from w le at_ held comes.
      enter t (flow.1 w.at at_) code.5
      (tests (record { value = v; from = from }) (may_from c t from _ flow.2 comes)
      (does_run on (t + 1) s' (t ∷ []) out again code.1 code.3 stack bound j rest flow.3 code.6 back
      (λ w le at_ held. brk w le (in_left w.at la.breaks _ at_) held) (λ w le at_ held. cnt w le (in_left w.at la.continues _ at_) held)
      (λ w le at_ held. jump code.7 (next w le (in_left w.at la.falls _ at_) held))
      (entered c t w) le (inl refl) held)
      (does_run off (t + 1 + size_of on) (s' + accesses_in on) (t ∷ []) out again code.2 end stack bound j rest flow.4 code.8 back
      (λ w le at_ held. brk w le (in_right w.at la.breaks _ at_) held) (λ w le at_ held. cnt w le (in_right w.at la.continues _ at_) held)
      (λ w le at_ held. next w le (in_right w.at la.falls _ at_) held)
      (entered c t w) le (inl refl) held)))
      w le at_ held
  does_run (loop mine before body after) k s0 froms out again pc end stack bound j rest flow code back brk cnt next w le at_ held =
      let t = k + size_of before in
      let u = t + 1 + size_of body in
      let s_body = s0 + accesses_in before in
      let lb = leaves c.returns body (t + 1) (t ∷ []) in
      let la = leaves c.returns after u (lb.falls ++ lb.continues) in
      let lh = leaves c.returns before k (froms ++ la.falls) in
      let inner : Jumps = record { back = j.back; out = rest; again = j.again } in
      rounds_run t code.0 code.1 pc (froms ++ la.falls) lh.falls stack (D before k inner)
      (λ round. D body (t + 1) (record { back = j.back; out = rest; again = D after u inner round }) (D after u inner round)) bound flow.1 code.5
      (λ bound' rest' less done.
      does_run before k s0 (froms ++ la.falls) end again pc code.0 stack bound' inner rest' flow.0 code.4 (less_back stack bound bound' j.back less back)
      (part lh.breaks _ end stack bound bound' rest (λ x i. in_left x (lh.breaks ++ lb.breaks) la.breaks (in_left x lh.breaks lb.breaks i)) less next)
      (part lh.continues _ again stack bound bound' j.again (λ x i. in_left x lh.continues _ i) less cnt) done)
      (λ bound' rest' less done.
      let after_run : Go (lb.falls ++ lb.continues) code.2 stack bound' (D after u inner rest') =
      does_run after u (s_body + accesses_in body) (lb.falls ++ lb.continues) end again code.2 code.3 stack bound' inner rest' flow.3 code.7
      (less_back stack bound bound' j.back less back)
      (part la.breaks _ end stack bound bound' rest (λ x i. in_right x (lh.breaks ++ lb.breaks) la.breaks i) less next)
      (part la.continues _ again stack bound bound' j.again (λ x i. in_right x lh.continues _ i) less cnt)
      (λ w le at_ held. jump code.8 (done w le (in_right w.at froms la.falls at_) held)) in
      does_run body (t + 1) s_body (t ∷ []) end code.2 code.1 code.2 stack bound'
      (record { back = j.back; out = rest; again = D after u inner rest' }) (D after u inner rest') flow.2 code.6 (less_back stack bound bound' j.back less back)
      (part lb.breaks _ end stack bound bound' rest (λ x i. in_left x (lh.breaks ++ lb.breaks) la.breaks (in_right x lh.breaks lb.breaks i)) less next)
      (λ w le at_ held. after_run w le (in_right w.at lb.falls _ at_) held)
      (λ w le at_ held. after_run w le (in_left w.at lb.falls _ at_) held))
      (suc w.left) w (omega arith) le (in_left w.at froms la.falls at_) held
  does_run (return e line) k s0 froms out again pc end stack bound j rest flow code back brk cnt next w le at_ held =
      let t = k + size e in
      value_runs c given n calls_run fn fns frames room e k s0 froms pc code.0 stack bound _ flow.0 code.1
      (λ v from w le at_ held comes. back v from w t code.0 end line (flow.1 w.at at_) code.2 (may_from c t from _ flow.2 comes) flow.3 le held)
      w le at_ held

-- ---- calls and the source

length_worths : (xs : List Worth) → length (worths xs) ≡ length xs
length_worths [] = refl
length_worths (x ∷ xs) = ap suc (length_worths xs)

module _ (c : Setup) (given : ℕ → Value) (functions : (f : ℕ) (g : Function) → slice_get c.here.program.functions f ≡ Some g → FunctionAt c f g) where
  popped_memory : (w : World) → popped (memory_of w) ≡ memory_of (record w { cells = older w.cells })
  popped_memory w =
      let F : List (List Slot) → Memory = λ f. record { frames = f; getting = w.getting } in
      ap F (below_slots w.cells)

  no_way : (n : ℕ) (calls_run : CallsRun c given n) (fn : ℕ) (fns : List ℕ) (frames : List Holder) (room : n + length frames ≡ limit) (xs : List ℕ) (pc : ℕ)
      (stack : List Thing) (bound : ℕ) (rest : Rest) → xs ≡ [] → Go c given n calls_run fn fns frames room xs pc stack bound rest
  no_way n calls_run fn fns frames room xs pc stack bound rest e w le at_ held = absurd (subst (In w.at) e at_)

  same_row : (f : ℕ) (a b : FnRow) → slice_get c.code.functions f ≡ Some a → slice_get c.code.functions f ≡ Some b → a ≡ b
  same_row f a b e e' = cc

  -- the function's body runs, from its first point on
  body_runs : (n : ℕ) (calls_run : CallsRun c given n) (f : ℕ) (g : Function) (it : FunctionAt c f g) (fns : List ℕ) (frames : List Holder)
      (room : n + length frames ≡ limit) (back : Value → Rest) (w : World) → c.Goes w.at (first_point c.here.program.functions f)
      → HeldAll c (f ∷ fns) w.cells
      → Back c given n calls_run f fns frames room [] w.left back
      → Runs c given (between it.row.start) [] frames w
      (body_of c.here (calls_by c.here n) (first_point c.here.program.functions f) g back (memory_of w) w.left)
  body_runs n calls_run f g it fns frames room back w goes held back_run =
      let first = first_point c.here.program.functions f in
      skip first goes it.no_waits it.no_run
      (does_run c given n calls_run f fns frames room g.body (first + 1) it.sites (first ∷ []) 0 0 it.row.start it.end [] w.left
      (in_body c.here back)
      (λ m left. pass (end_point c.here first g) (none_awaits g.line (top m.frames) (back (constant_of c.here (zero_of g.result)) m left)))
      it.flows it.lies back_run
      (no_way n calls_run f fns frames room _ 0 [] w.left (in_body c.here back).out it.no_breaks)
      (no_way n calls_run f fns frames room _ 0 [] w.left (in_body c.here back).again it.no_continues)
      (λ w1 le1 at_ held1. push (zero_of g.result) it.zero_at
      (back_run (constant_of c.here (zero_of g.result)) None w1 _ it.last it.over _ (it.falls w1.at at_) it.return_at tt it.returns le1 held1))
      (record w { at = first }) (omega arith) (inl refl) held)

  pub calls_run : (n : ℕ) → CallsRun c given n
  calls_run zero f count site line xs fns stack rest frames end bound go w room ready call row le held next =
      too_deep xs f (worths xs) ready refl row.0 row.1 (omega arith)
  calls_run (suc n) f count site line xs fns stack rest frames end bound go w room ready call row le held next =
      let g = call.1.0 in
      let it = functions f g call.1.1 in
      let vs = worths xs in
      let frames' : List Holder = record { pc = end; stack = rest } ∷ frames in
      let room' : n + length frames' ≡ limit = omega arith in
      let same : row.0 ≡ it.row = same_row f row.0 it.row row.1 it.is_row in
      let counted_ : length vs ≡ length g.params = length_worths xs ∙ ready.count ∙ sym row.2 ∙ ap (λ (r : FnRow). r.params) same ∙ it.params in
      let fits_row : it.row.locals ≡ length vs + length g.others = it.room ∙ ap (λ n. n + length g.others) (sym counted_) in
      let back : Value → Rest = λ v m left. go v (popped m) left in
      step_calls xs f vs ready refl it.row (length g.others) it.is_row fits_row (omega arith) (λ left is.
      let w' : World = record w { cells = called_with c vs (length g.others) ∷ w.cells; left = left } in
      let F : List Slot → Memory = λ s. record { frames = s ∷ slots w.cells; getting = w.getting } in
      let back_run : Back c given n (calls_run n) f fns frames' room' [] left back =
      λ v from w1 t pc over_ line goes at_ may in_ le1 held1.
      let w2 : World = record (entered c t w1) { cells = older w1.cells } in
      enter {stage = leaving line over_} t goes at_
      (subst (λ s. Runs c given (leaving line over_) (val v from ∷ []) frames' (entered c t w1) (none_awaits line s (go v (popped (memory_of w1)) w1.left)))
      (sym (top_slots w1.cells))
      (returns_to (record { value = v; from = from }) may
      (subst (λ m. Runs c given (between end) (plain v ∷ rest) frames w2 (go v m w1.left)) (sym (popped_memory w1))
      (next v w2 (omega (arith, is)) in_ (held_older c f fns w1.cells held1))))) in
      subst (λ o. Runs c given (between it.row.start) [] frames' w'
      (entering_ n o (first_point c.here.program.functions f) vs go (memory_of w) left)) (sym call.1.1)
      (subst (λ m. Runs c given (between it.row.start) [] frames' w' (body_of c.here (calls_by c.here n) (first_point c.here.program.functions f) g back m left))
      (ap F (called_slots c vs (length g.others)))
      (body_runs n (calls_run n) f g it fns frames' room' back w' call.0
      (held_called c f vs (length g.others) (sym fits_row ∙ sym it.locals), held) back_run)))
    where
      entering_ : (n : ℕ) → Option Function → ℕ → List Value → (Value → Rest) → Rest
      entering_ n o first vs go m left = entering c.here (calls_by c.here n) first o vs go m left

  abbrev pub start : (others left : ℕ) → World
  start others left = record { cells = called_with c [] others ∷ []; getting = []; left = left; at = 0; accesses = 0; flying = [] }

  -- The whole source, from Start, from which the flow leads to the first point of `splitc_main`.
  pub source_runs : (f : ℕ) (g : Function) (left : ℕ) → slice_get c.here.program.functions f ≡ Some g → c.here.program.main ≡ f → g.params ≡ []
      → c.Goes 0 (first_point c.here.program.functions f)
      → (it : FunctionAt c f g) → Runs c given (between it.row.start) [] [] (start (length g.others) left) (begun c.here (Some g) left)
  source_runs f g left is main none_ goes it =
      let room : limit + length {A = Holder} [] ≡ limit = omega arith in
      let back : Value → Rest = λ v m left. Stops (Finishes Ended) in
      let back_run : Back c given limit (calls_run limit) f [] [] room [] left back =
      λ v from w1 t pc over_ line goes at_ may in_ le1 held1.
      enter {stage = leaving line over_} t goes at_
      (subst (λ s. Runs c given (leaving line over_) (val v from ∷ []) [] (entered c t w1) (none_awaits line s (Stops (Finishes Ended))))
      (sym (top_slots w1.cells)) (over (record { value = v; from = from }) may)) in
      let F : List Slot → Memory = λ s. record { frames = s ∷ []; getting = [] } in
      let P : ℕ → Memory → PointedDoing = λ n m. body_of c.here (calls_by c.here limit) (first_point c.here.program.functions n) g back m left in
      let count_ : length {A = Value} [] + length g.others ≡ c.locals f = sym (it.locals ∙ it.room ∙ ap (λ ps. length ps + length g.others) none_) in
      subst (λ n. Runs c given (between it.row.start) [] [] (start (length g.others) left) (P n (F (entered_locals [] (length g.others))))) (sym main)
      (subst (λ m. Runs c given (between it.row.start) [] [] (start (length g.others) left) (P f m)) (ap F (called_slots c [] (length g.others)))
      (body_runs limit (calls_run limit) f g it [] [] room back (start (length g.others) left) goes (held_called c f [] (length g.others) count_, tt) back_run))
