-- The code of an expression does what the expression does.
use Rattle.std.proofs.Common.{◌≡◌, inl, ℕ, suc, ◌+◌, ◌≤◌, List, [], ◌∷◌, length, Option, Some, None, refl, sym, ap, subst, arith}
use Rattle.std.specs.Prelude.{pos}
use Rattle.sc_base.specs.declared.value.Value.{Value}
use Rattle.sc_base.specs.declared.value.Value.TheVariants.{Int}
use Rattle.sc_core.specs.declared.operation.Constant.TheVariants.{Number}
use Rattle.sc_core.specs.declared.operation.Operation.{Operation}
use Rattle.sc_core.specs.declared.operation.Operation.TheVariants as does
use Rattle.sc_core.specs.Core.{Core, constant, step, choice, update, Arguments, none, argument}
use Rattle.sc_core.specs.Table.{made_of}
use Rattle.sc_meaning.specs.Asking.{PointedDoing}
use Rattle.sc_meaning.specs.Steps.{Rest, Calls, perform}
use Rattle.sc_meaning.specs.Points.{size, sizes}
use Rattle.sc_meaning.specs.Meaning.{pass, calls_by, constant_of, taken_back, value, values}
use Rattle.flow_form.specs.Accesses.{accesses, accesses_all, accesses_by}
use Rattle.flow_form.specs.Exits.{fetched, fetched_all, fetched_by, fetched_back, behind, behind_back, exits, exits_all}
use Rattle.flow_form.specs.Steps.{callee_of}
use Rattle.emit_laws.proofs.Parts.{In, Setup, Flow, FlowAll, FlowBack, FlowStep, StepAt, Lies, LieAll, BackAt, count_of}
use Rattle.emit_laws.proofs.Ghosts.{Thing, val, Holder, World, memory_of, Worth, thing, worths, things, onto, Stage, between, limit, entered, Runs, push, dup, jump, enter, tests}
use Rattle.emit_laws.proofs.Cells.{in_left, in_right, HeldAll, Comes, AllCome, may_from, comes_left, comes_right, all_right}
use Rattle.emit_laws.proofs.StepRuns.{CallsRun, Then, From, step_runs}

module _ (c : Setup) (given : ℕ → Value) (n : ℕ) (calls_run : CallsRun c given n) (fn : ℕ) (fns : List ℕ) (frames : List Holder) (room : n + length frames ≡ limit) where
  abbrev pub Calls_ : Calls
  Calls_ = calls_by c.here n

  abbrev R : Stage → List Thing → World → PointedDoing → Type 0
  R stage stack w d = Runs c given stage stack frames w d

  abbrev pub From_ : List ℕ → ℕ → List Thing → ℕ → Rest → Type 0
  From_ = From c given n calls_run fn fns frames room

  abbrev pub Then_ : (sites exits : List ℕ) → ℕ → List Thing → ℕ → (Value → Rest) → Type 0
  Then_ = Then c given n calls_run fn fns frames room

  abbrev pub Values_ : Arguments → (k s : ℕ) → List ℕ → ℕ → List Thing → ℕ → (List Value → Rest) → Type 0
  Values_ es k s froms end stack bound go =
      (xs : List Worth) (w : World) → length xs ≡ count_of es → w.left ≤ bound → In w.at (exits_all c.returns es k froms)
      → HeldAll c (fn ∷ fns) w.cells → AllCome c (fetched_all es s) xs
      → R (between end) (onto (things xs) stack) w (go (worths xs) (memory_of w) w.left)

  step_ : (o : Operation) (line t s : ℕ) (froms sites : List ℕ) (pc end count : ℕ) → FlowStep c fn o t (suc s) froms sites
      → StepAt c o count t (suc s) pc line end → (xs : List Worth) (rest : List Thing) (bound : ℕ) (go : Value → Rest)
      → length xs ≡ count → AllCome c sites xs → Then_ (fetched_by o s) (behind c.returns (callee_of o) t) end rest bound go
      → From_ froms pc (onto (things xs) rest) bound
      (λ m left. pass t (perform c.here.layout Calls_ (made_of c.here.layout c.here.node o (worths xs)) line go m left))
  step_ o line t s froms sites pc end count flow code xs rest bound go counted come next =
      step_runs c given n calls_run fn fns frames room o line t s froms sites pc end count xs rest bound go flow code counted come next

  back_runs : (back : Option Operation) (from t s pc line end : ℕ) (x : Worth) (stack : List Thing) (bound : ℕ) (go : Value → Rest) → from + 1 ≡ t
      → FlowBack c fn back from t s → BackAt c back t s pc line end → Comes c [] x.from
      → Then_ (fetched_back back s) (behind_back c.returns back from) end stack bound go
      → From_ (from ∷ []) pc (thing x ∷ stack) bound (taken_back c.here Calls_ back t line go x.value)
  back_runs None from t s pc line end x stack bound go e flow code comes next w le at_ held =
      subst (λ p. R (between p) (thing x ∷ stack) w (go x.value (memory_of w) w.left)) (sym code) (next x.value x.from w le at_ held comes)
  back_runs (Some o) from t s pc line end x stack bound go e flow code comes next w le at_ held =
      push (Number (pos 1)) code.1
      (step_ o line t s (from ∷ []) [] code.0 end 2 flow code.2 (x ∷ record { value = Int (pos 1); from = None } ∷ []) stack bound go refl
      (comes, (tt, tt)) (λ v source w le at_ held comes.
      next v source w le (subst (λ t. In w.at (behind c.returns (callee_of o) t)) (sym e) at_) held comes) w le at_ held)

  mutual
    pub value_runs : (e : Core) (k s : ℕ) (froms : List ℕ) (pc end : ℕ) (stack : List Thing) (bound : ℕ) (go : Value → Rest)
        → Flow c fn e k s froms → Lies c e k s pc end → Then_ (fetched e s) (exits c.returns e k froms) end stack bound go
        → From_ froms pc stack bound (value c.here Calls_ e k go)
    value_runs (constant v) k s froms pc end stack bound go flow code next w le at_ held =
        push v code (next (constant_of c.here v) None w le at_ held tt)
    value_runs (step o arguments line) k s froms pc end stack bound go flow code next w le at_ held =
        values_runs arguments k s froms pc code.0 stack bound _ flow.0 code.1
        (λ xs w count le at_ held come.
        step_ o line (k + sizes arguments) (s + accesses_all arguments) _ _ code.0 end _ flow.1 code.2 xs stack bound go count come next w le at_ held)
        w le at_ held
    value_runs (choice of_pointer test on off) k s froms pc end stack bound go flow code next w le at_ held =
        let t = k + size test in
        let s' = s + accesses test in
        value_runs test k s froms pc code.0 stack bound _ flow.0 code.4
        (λ v from w le at_ held comes.
        enter t (flow.1 w.at at_) code.5
        (tests (record { value = v; from = from }) (may_from c t from _ flow.2 comes)
        (value_runs on (t + 1) s' (t ∷ []) code.1 code.3 stack bound go flow.3 code.6
        (λ v from w le at_ held comes.
        jump code.7 (next v from w le (in_left w.at (exits c.returns on (t + 1) (t ∷ [])) _ at_) held (comes_left c from _ _ comes)))
        (entered c t w) le (inl refl) held)
        (value_runs off (t + 1 + size on) (s' + accesses on) (t ∷ []) code.2 end stack bound go flow.4 code.8
        (λ v from w le at_ held comes.
        next v from w le (in_right w.at (exits c.returns on (t + 1) (t ∷ [])) _ at_) held (comes_right c from _ _ comes))
        (entered c t w) le (inl refl) held)))
        w le at_ held
    value_runs (update pointer o right back line) k s froms pc end stack bound go flow code next w le at_ held =
        let t = k + size pointer in
        let u = t + 1 + size right in
        let read = s + accesses pointer in
        let join = read + 1 + accesses right in
        let write = join + accesses_by o in
        value_runs pointer k s froms pc code.0 stack bound _ flow.0 code.6
        (λ a from_a w le at_ held comes_a. dup code.7
        (step_ does.Read line t read _ _ code.1 code.2 1 flow.1 code.8 (record { value = a; from = from_a } ∷ []) (val a from_a ∷ stack) bound _ refl
        (comes_a, tt)
        (λ old from_o w le at_ held comes_o.
        value_runs right (t + 1) (read + 1) (t ∷ []) code.2 code.3 (val old from_o ∷ val a from_a ∷ stack) bound _ flow.2 code.9
        (λ b from_b w le at_ held comes_b.
        step_ o line u join _ _ code.3 code.4 2 flow.3 code.10 (record { value = old; from = from_o } ∷ record { value = b; from = from_b } ∷ [])
        (val a from_a ∷ stack) bound _ refl
        (comes_left c from_o (suc read ∷ []) _ comes_o, (comes_right c from_b (suc read ∷ []) _ comes_b, tt))
        (λ new from_n w le at_ held comes_n.
        step_ does.Write line (u + 1) write _ _ code.4 code.5 2 flow.4 code.11
        (record { value = a; from = from_a } ∷ record { value = new; from = from_n } ∷ []) stack bound _ refl
        (comes_left c from_a (fetched pointer s) _ comes_a, (comes_right c from_n (fetched pointer s) _ comes_n, tt))
        (λ v from_v w le at_ held comes_v.
        back_runs back (u + 1) (u + 2) (write + 1) code.5 line end (record { value = v; from = from_v }) stack bound go (omega arith) flow.5 code.12
        comes_v next w le at_ held)
        w le at_ held)
        w le at_ held)
        w le at_ held)
        w le at_ held))
        w le at_ held

    pub values_runs : (es : Arguments) (k s : ℕ) (froms : List ℕ) (pc end : ℕ) (stack : List Thing) (bound : ℕ) (go : List Value → Rest)
        → FlowAll c fn es k s froms → LieAll c es k s pc end → Values_ es k s froms end stack bound go
        → From_ froms pc stack bound (values c.here Calls_ es k go)
    values_runs none k s froms pc end stack bound go flow code next w le at_ held =
        subst (λ p. R (between p) stack w (go [] (memory_of w) w.left)) (sym code) (next [] w refl le at_ held tt)
    values_runs (argument e more) k s froms pc end stack bound go flow code next w le at_ held =
        value_runs e k s froms pc code.0 stack bound _ flow.0 code.1
        (λ v from w le at_ held comes.
        values_runs more (k + size e) (s + accesses e) (exits c.returns e k froms) code.0 end (val v from ∷ stack) bound (λ vs. go (v ∷ vs)) flow.1 code.2
        (λ xs w count le at_ held come.
        next (record { value = v; from = from } ∷ xs) w (ap suc count) le at_ held (comes_left c from _ _ comes, all_right c xs _ _ come))
        w le at_ held)
        w le at_ held
