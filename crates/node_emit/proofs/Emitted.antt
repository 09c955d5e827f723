-- What expressions add to code while it is written, one form at a time.
use Rattle.std.proofs.Common.{◌≡◌, refl, sym, ap, ◌∙◌, ℕ, ◌+◌, pos, List, [], ◌∷◌, ◌++◌, length, Option, Some, None, arith, append_assoc, length-append}
use Rattle.std.proofs.lemmas.List.{length-map, append-nil}
use Rattle.sc_isa.specs.declared.op.Instr.{Instr}
use Rattle.sc_isa.specs.declared.op.Op.{Op}
use Rattle.sc_isa.specs.declared.op.Op.TheVariants.{Push, Dup}
use Rattle.sc_meaning.specs.Points.{size, one_if_some}
use Rattle.flow_form.specs.Accesses.{accesses, accesses_by, accesses_back}
use Rattle.sc_core.specs.declared.operation.Constant.{Constant}
use Rattle.sc_core.specs.declared.operation.Operation.{Operation}
use Rattle.sc_core.specs.declared.operation.Operation.TheVariants.{Read, Write}
use Rattle.sc_core.specs.Core.{Core, constant, step, update, Arguments, none, argument}
use Rattle.sc_core.specs.View.{Linked, linked}
use Rattle.site_graph.specs.declared.plan.Plan.{Plan}
use Rattle.node_emit.specs.Runs.{outside, run_width, constant_op}
use Rattle.node_emit.specs.Widths.{width}
use Rattle.node_emit.specs.Expressions.{code, step_code, back_code}
use Rattle.node_emit.specs.Drafts.{Written, grown, put_instr, put, ran, counted, stepped, taken_back, emitted, emitted_all}
use Rattle.node_emit.specs.Drafted.{linked_put, chained}
use Rattle.node_emit.proofs.Lengths.{length-code}
use Rattle.node_emit.proofs.Patches.{written-same, grown-none}

pub emitted-is : (plan : Plan) (e : Core) (d : Written) → emitted plan e d ≡ grown d (code plan e d.point d.sites (length d.instrs)) (size e) (accesses e)
unfolding emitted
emitted-is plan e d = refl

pub grown-same : (d : Written) (xs ys : List Instr) (p q s u : ℕ) → xs ≡ ys → p ≡ q → s ≡ u → grown d xs p s ≡ grown d ys q u
grown-same d xs ys p q s u e f g = ap (λ l. grown d l p s) e ∙ ap (λ n. grown d ys n s) f ∙ ap (grown d ys q) g

-- ---- constants, steps and arguments

pub emitted-constant : (plan : Plan) (c : Constant) (d : Written) → emitted plan (constant c) d ≡ put (constant_op c) d
unfolding emitted put_instr
emitted-constant plan c d = refl

pub emitted-step : (plan : Plan) (operation : Operation) (all : Arguments) (line : ℕ) (d : Written) →
    emitted plan (step operation all line) d ≡ stepped plan operation line (emitted_all plan all d)
unfolding emitted stepped emitted_all counted ran grown
emitted-step plan operation all line d =
    written-same _ _ (simp append_assoc (simp append-nil refl)) (omega arith) (omega arith)

pub all-none : (plan : Plan) (d : Written) → emitted_all plan none d ≡ d
unfolding emitted_all
all-none plan d = grown-none d

pub all-on : (plan : Plan) (e : Core) (more : Arguments) (d : Written) →
    emitted_all plan (argument e more) d ≡ emitted_all plan more (emitted plan e d)
unfolding emitted_all emitted grown
all-on plan e more d =
    let h : length (d.instrs ++ code plan e d.point d.sites (length d.instrs)) ≡ length d.instrs + width plan e d.point =
    simp length-append (omega (arith, length-code plan e)) in
    written-same _ _ (rw h (sym (append_assoc d.instrs _ _))) (omega arith) (omega arith)

pub chained-none : (plan : Plan) (d : Written) → chained plan [] d ≡ d
unfolding chained
chained-none plan d = refl

pub chained-on : (plan : Plan) (l : Linked) (more : List Linked) (d : Written) →
    chained plan (l ∷ more) d ≡ chained plan more (linked_put plan l d)
unfolding chained
chained-on plan l more d = refl

pub emitted-linked : (plan : Plan) (e : Core) (all : List Linked) (d : Written) →
    emitted plan (linked e all) d ≡ chained plan all (emitted plan e d)
unfolding chained linked_put
emitted-linked plan e [] d = refl
emitted-linked plan e (l ∷ more) d =
    emitted-linked plan (step l.operation (argument e l.more) l.line) more d
    ∙ ap (chained plan more)
    (emitted-step plan l.operation (argument e l.more) l.line d ∙ ap (stepped plan l.operation l.line) (all-on plan e l.more d))

pub ruleset chains = (all-none, all-on, chained-none, chained-on, emitted-linked)

-- ---- updates

pub back-none : (plan : Plan) (line : ℕ) (d : Written) → taken_back plan None line d ≡ d
unfolding taken_back
back-none plan line d = refl

pub emitted-grown : (plan : Plan) (e : Core) (d : Written) (xs : List Instr) (p s : ℕ) →
    emitted plan e (grown d xs p s)
    ≡ grown d (xs ++ code plan e (d.point + p) (d.sites + s) (length d.instrs + length xs)) (p + size e) (s + accesses e)
unfolding emitted grown
emitted-grown plan e d xs p s =
    let h = length-append d.instrs xs in
    written-same _ _
    (append_assoc d.instrs xs _ ∙ ap (λ n. d.instrs ++ (xs ++ code plan e (d.point + p) (d.sites + s) n)) h)
    (omega arith) (omega arith)

pub stepped-grown : (plan : Plan) (o : Operation) (line : ℕ) (d : Written) (xs : List Instr) (p s : ℕ) →
    stepped plan o line (grown d xs p s)
    ≡ grown d (xs ++ step_code plan o line (d.point + p) (d.sites + s)) (p + 1) (s + accesses_by o)
unfolding stepped counted ran grown
stepped-grown plan o line d xs p s =
    written-same _ _ (append-nil _ ∙ append_assoc d.instrs xs _) (omega arith) (omega arith)

pub put-grown : (o : Op) (d : Written) (xs : List Instr) (p s : ℕ) → put o (grown d xs p s) ≡ grown d (xs ++ outside o ∷ []) p s
unfolding put_instr grown
put-grown o d xs p s = written-same _ _ (append_assoc d.instrs xs _) (omega arith) (omega arith)

back-grown : (plan : Plan) (back : Option Operation) (line : ℕ) (d : Written) (xs : List Instr) (p s : ℕ) →
    taken_back plan back line (grown d xs p s)
    ≡ grown d (xs ++ back_code plan back line (d.point + p) (d.sites + s)) (p + one_if_some back) (s + accesses_back back)
unfolding taken_back
back-grown plan None line d xs p s = grown-same d _ _ _ _ _ _ (sym (append-nil xs)) (omega arith) (omega arith)
back-grown plan (Some o) line d xs p s =
    ap (stepped plan o line) (put-grown (Push (pos 1)) d xs p s)
    ∙ stepped-grown plan o line d (xs ++ outside (Push (pos 1)) ∷ []) p s
    ∙ ap (λ l. grown d l (p + 1) (s + accesses_by o)) (append_assoc xs _ _)

code-same : (plan : Plan) (e : Core) (k k' s s' pc pc' : ℕ) → k ≡ k' → s ≡ s' → pc ≡ pc' → code plan e k s pc ≡ code plan e k' s' pc'
code-same plan e k k' s s' pc pc' a b c = cc

step_code-same : (plan : Plan) (o : Operation) (line t t' s s' : ℕ) → t ≡ t' → s ≡ s' → step_code plan o line t s ≡ step_code plan o line t' s'
step_code-same plan o line t t' s s' a b = ap (λ n. step_code plan o line n s) a ∙ ap (step_code plan o line t') b

back_code-same : (plan : Plan) (back : Option Operation) (line t t' s s' : ℕ) → t ≡ t' → s ≡ s' → back_code plan back line t s ≡ back_code plan back line t' s'
back_code-same plan back line t t' s s' a b = ap (λ n. back_code plan back line n s) a ∙ ap (back_code plan back line t') b

joined-lists : (a : List Instr) (x : Instr) (b c c' e e' f f' g g' : List Instr) → c ≡ c' → e ≡ e' → f ≡ f' → g ≡ g' →
    (((((a ++ x ∷ []) ++ b) ++ c) ++ e) ++ f) ++ g ≡ ((((a ++ x ∷ b) ++ c') ++ e') ++ f') ++ g'
joined-lists a x b c c' e e' f f' g g' h1 h2 h3 h4 = rw (h1, h2, h3, h4, append_assoc a (x ∷ []) b) refl

pub emitted-update : (plan : Plan) (pointer : Core) (operation : Operation) (right : Core) (back : Option Operation) (line : ℕ) (d : Written) →
    emitted plan (update pointer operation right back line) d
    ≡ taken_back plan back line (stepped plan Write line (stepped plan operation line
    (emitted plan right (stepped plan Read line (put Dup (emitted plan pointer d))))))
emitted-update plan pointer operation right back line d =
    let k : ℕ = d.point in let s : ℕ = d.sites in let pc : ℕ = length d.instrs in
    let t : ℕ = k + size pointer in
    let u : ℕ = t + 1 + size right in
    let read : ℕ = s + accesses pointer in
    let join : ℕ = read + 1 + accesses right in
    let write : ℕ = join + accesses_by operation in
    let p : ℕ = size pointer in let a : ℕ = accesses pointer in
    let cp : List Instr = code plan pointer k s pc in
    let x1 : List Instr = cp ++ outside Dup ∷ [] in
    let rd : List Instr = step_code plan Read line t read in
    let x2 : List Instr = x1 ++ rd in
    let cr : List Instr = code plan right (k + (p + 1)) (s + (a + 1)) (pc + length x2) in
    let x3 : List Instr = x2 ++ cr in
    let so : List Instr = step_code plan operation line (k + (p + 1 + size right)) (s + (a + 1 + accesses right)) in
    let x4 : List Instr = x3 ++ so in
    let wr : List Instr = step_code plan Write line (k + (p + 1 + size right + 1)) (s + (a + 1 + accesses right + accesses_by operation)) in
    let x5 : List Instr = x4 ++ wr in
    let bk : List Instr = back_code plan back line (k + (p + 1 + size right + 1 + 1)) (s + (a + 1 + accesses right + accesses_by operation + 1)) in
    let g0 : emitted plan pointer d ≡ grown d cp p a = emitted-is plan pointer d in
    let g1 : put Dup (emitted plan pointer d) ≡ grown d x1 p a = ap (put Dup) g0 ∙ put-grown Dup d cp p a in
    let g2 : stepped plan Read line (put Dup (emitted plan pointer d)) ≡ grown d x2 (p + 1) (a + 1) =
    ap (stepped plan Read line) g1 ∙ stepped-grown plan Read line d x1 p a in
    let g3 : emitted plan right (stepped plan Read line (put Dup (emitted plan pointer d))) ≡ grown d x3 (p + 1 + size right) (a + 1 + accesses right) =
    ap (emitted plan right) g2 ∙ emitted-grown plan right d x2 (p + 1) (a + 1) in
    let g4 : stepped plan operation line (emitted plan right (stepped plan Read line (put Dup (emitted plan pointer d))))
    ≡ grown d x4 (p + 1 + size right + 1) (a + 1 + accesses right + accesses_by operation) =
    ap (stepped plan operation line) g3 ∙ stepped-grown plan operation line d x3 _ _ in
    let g5 : stepped plan Write line (stepped plan operation line (emitted plan right (stepped plan Read line (put Dup (emitted plan pointer d)))))
    ≡ grown d x5 (p + 1 + size right + 1 + 1) (a + 1 + accesses right + accesses_by operation + 1) =
    ap (stepped plan Write line) g4 ∙ stepped-grown plan Write line d x4 _ _ in
    let g6 = ap (taken_back plan back line) g5 ∙ back-grown plan back line d x5 _ _ in
    let at_right : ℕ = pc + width plan pointer k + 1 + run_width plan t 1 in
    let n1 : pc + length x2 ≡ at_right = simp (length-append, length-map) (omega (arith, length-code plan pointer)) in
    let h1 : cr ≡ code plan right (t + 1) (read + 1) at_right = code-same plan right _ _ _ _ _ _ (omega arith) (omega arith) n1 in
    let h2 : so ≡ step_code plan operation line u join = step_code-same plan operation line _ _ _ _ (omega arith) (omega arith) in
    let h3 : wr ≡ step_code plan Write line (u + 1) write = step_code-same plan Write line _ _ _ _ (omega arith) (omega arith) in
    let h4 : bk ≡ back_code plan back line (u + 2) (write + 1) = back_code-same plan back line _ _ _ _ (omega arith) (omega arith) in
    emitted-is plan (update pointer operation right back line) d
    ∙ sym (g6 ∙ grown-same d _ _ _ _ _ _ (joined-lists cp (outside Dup) rd cr _ so _ wr _ bk _ h1 h2 h3 h4) (omega arith) (omega arith))
