-- What statements add to code while it is written, one form at a time.
use Rattle.std.proofs.Common.{◌≡◌, refl, sym, ap, ◌∙◌, ℕ, ◌+◌, ◌-◌, Bool, List, [], ◌∷◌, ◌++◌, length, arith, append_assoc, length-append}
use Rattle.std.proofs.lemmas.List.{length-map, append-nil, length-set}
use Rattle.sc_isa.specs.declared.op.Op.TheVariants.{Jump, Ret}
use Rattle.sc_core.specs.declared.operation.Action.{Action}
use Rattle.sc_core.specs.Core.{Core, Arguments, Does, nothing, break, continue, then_, act, choose, return}
use Rattle.sc_core.specs.ViewStatements.{Armed, chosen}
use Rattle.sc_meaning.specs.Points.{size, size_of}
use Rattle.flow_form.specs.Accesses.{accesses, accesses_in}
use Rattle.site_graph.specs.declared.plan.Plan.{Plan}
use Rattle.node_emit.specs.Runs.{run_width, test_width}
use Rattle.node_emit.specs.Widths.{width, width_in}
use Rattle.node_emit.specs.Expressions.{code}
use Rattle.node_emit.specs.Statements.{code_in}
use Rattle.node_emit.specs.Drafts.{Written, grown, put_instr, put, led, led_all, ran, counted, acted, tested, turned, ended, emitted, emitted_all}
use Rattle.node_emit.specs.Done.{done, breaks_in, continues_in, breaks_of, continues_of, entered, arm_put, arm_jump, arms_put, arms_jumps, arms_breaks, arms_continues}
use Rattle.node_emit.proofs.Lengths.{length-code, length-in, length-test}
use Rattle.node_emit.proofs.Patches.{written-same, grown-none}
use Rattle.node_emit.proofs.Choices.{choice-wrote, ended-none, ended-first}
use Rattle.node_emit.proofs.Turns.{breaks_in-same, continues_in-same, done-loop, breaks-loop, continues-loop}

pub done-nothing : (plan : Plan) (d : Written) → done plan nothing d ≡ d
unfolding done
done-nothing plan d = grown-none d

pub done-break : (plan : Plan) (d : Written) → done plan break d ≡ put (Jump 0) d
unfolding done put_instr
done-break plan d = refl

pub done-continue : (plan : Plan) (d : Written) → done plan continue d ≡ put (Jump 0) d
unfolding done put_instr
done-continue plan d = refl

pub done-then : (plan : Plan) (a b : Does) (d : Written) → done plan (then_ a b) d ≡ done plan b (done plan a d)
unfolding done grown
done-then plan a b d =
    let h : length (d.instrs ++ code_in plan a d.point d.sites 0 0 (length d.instrs)) ≡ length d.instrs + width_in plan a d.point =
    simp length-append (omega (arith, length-in plan a)) in
    written-same _ _ (rw h (sym (append_assoc d.instrs _ _))) (omega arith) (omega arith)

pub done-act : (plan : Plan) (action : Action) (all : Arguments) (line : ℕ) (d : Written) →
    done plan (act action all line) d ≡ acted plan action line (emitted_all plan all d)
unfolding done acted emitted_all counted ran grown
done-act plan action all line d =
    written-same _ _ (simp append_assoc (simp append-nil refl)) (omega arith) (omega arith)

pub done-return : (plan : Plan) (e : Core) (line : ℕ) (d : Written) →
    done plan (return e line) d ≡ ran plan line (Ret ∷ []) (emitted plan e d)
unfolding done emitted ran grown
done-return plan e line d = written-same _ _ (simp append_assoc refl) (omega arith) (omega arith)

pub done-choose : (plan : Plan) (of_pointer : Bool) (test : Core) (on off : Does) (d : Written) →
    done plan (choose of_pointer test on off) d
    ≡ ended (length (done plan on (tested plan of_pointer (emitted plan test d))).instrs ∷ [])
    (done plan off (turned (length (tested plan of_pointer (emitted plan test d)).instrs - 1)
    (done plan on (tested plan of_pointer (emitted plan test d)))))
unfolding done emitted tested turned ended led_all led ran put_instr grown
done-choose plan p test on off d =
    written-same _ _
    (choice-wrote plan p (code plan test) (λ k s pc. code_in plan on k s 0 0 pc) (λ k s pc. code_in plan off k s 0 0 pc)
    (size test) (accesses test) (size_of on) (accesses_in on)
    (size_of off) (accesses_in off) (width plan test d.point) (width_in plan on (d.point + size test + 1))
    (width_in plan off (d.point + size test + 1 + size_of on)) d (length-code plan test d.point d.sites (length d.instrs))
    (λ s pc. length-in plan on (d.point + size test + 1) s 0 0 pc)
    (λ s pc. length-in plan off (d.point + size test + 1 + size_of on) s 0 0 pc) _ _ _ refl refl refl)
    (omega arith) (omega arith)

-- ---- where the parts of a choice begin

entered-point : (plan : Plan) (of_pointer : Bool) (test : Core) (d : Written) →
    (tested plan of_pointer (emitted plan test d)).point ≡ d.point + size test + 1
unfolding tested emitted ran grown
entered-point plan p test d = refl

entered-length : (plan : Plan) (of_pointer : Bool) (test : Core) (d : Written) →
    length (tested plan of_pointer (emitted plan test d)).instrs
    ≡ length d.instrs + width plan test d.point + run_width plan (d.point + size test) (test_width of_pointer)
unfolding tested emitted ran grown
entered-length plan p test d =
    simp (length-append, length-map) (omega (arith, length-code plan test, length-test))

turned-point : (plan : Plan) (place : ℕ) (on : Does) (d : Written) → (turned place (done plan on d)).point ≡ d.point + size_of on
unfolding turned led put_instr done grown
turned-point plan place on d = omega arith

turned-length : (plan : Plan) (place : ℕ) (on : Does) (d : Written) →
    length (turned place (done plan on d)).instrs ≡ length d.instrs + width_in plan on d.point + 1
unfolding turned led put_instr done grown
turned-length plan place on d =
    simp (length-set, length-append) (omega (arith, length-in plan on))

-- ---- places of jumps: breaks

pub breaks-nothing : (plan : Plan) (d : Written) → breaks_of plan nothing d ≡ []
unfolding breaks_of
breaks-nothing plan d = refl

pub breaks-break : (plan : Plan) (d : Written) → breaks_of plan break d ≡ length d.instrs ∷ []
unfolding breaks_of
breaks-break plan d = refl

pub breaks-continue : (plan : Plan) (d : Written) → breaks_of plan continue d ≡ []
unfolding breaks_of
breaks-continue plan d = refl

pub breaks-act : (plan : Plan) (action : Action) (all : Arguments) (line : ℕ) (d : Written) → breaks_of plan (act action all line) d ≡ []
unfolding breaks_of
breaks-act plan action all line d = refl

pub breaks-return : (plan : Plan) (e : Core) (line : ℕ) (d : Written) → breaks_of plan (return e line) d ≡ []
unfolding breaks_of
breaks-return plan e line d = refl

pub breaks-then : (plan : Plan) (a b : Does) (d : Written) → breaks_of plan (then_ a b) d ≡ breaks_of plan a d ++ breaks_of plan b (done plan a d)
unfolding breaks_of done grown
breaks-then plan a b d =
    let h : length (d.instrs ++ code_in plan a d.point d.sites 0 0 (length d.instrs)) ≡ length d.instrs + width_in plan a d.point =
    simp length-append (omega (arith, length-in plan a)) in
    ap (λ n. breaks_in plan a d.point (length d.instrs) ++ breaks_in plan b (d.point + size_of a) n) (sym h)

breaks-choose : (plan : Plan) (of_pointer : Bool) (test : Core) (on off : Does) (d : Written) →
    breaks_of plan (choose of_pointer test on off) d
    ≡ breaks_of plan on (tested plan of_pointer (emitted plan test d))
    ++ breaks_of plan off (turned (length (tested plan of_pointer (emitted plan test d)).instrs - 1)
    (done plan on (tested plan of_pointer (emitted plan test d))))
unfolding breaks_of
breaks-choose plan p test on off d =
    let D : Written = tested plan p (emitted plan test d) in
    let E : Written = turned (length D.instrs - 1) (done plan on D) in
    let t : ℕ = d.point + size test in
    let at_on : ℕ = length d.instrs + width plan test d.point + run_width plan t (test_width p) in
    let e1 : D.point ≡ t + 1 = entered-point plan p test d in
    let e2 : length D.instrs ≡ at_on = entered-length plan p test d in
    let e3 : E.point ≡ t + 1 + size_of on = let a = turned-point plan (length D.instrs - 1) on D in omega (arith, a, e1) in
    let w : width_in plan on D.point ≡ width_in plan on (t + 1) = ap (width_in plan on) e1 in
    let e4 : length E.instrs ≡ at_on + width_in plan on (t + 1) + 1 =
    let a = turned-length plan (length D.instrs - 1) on D in omega (arith, a, e2, w) in
    ap (λ c. c ++ breaks_in plan off (t + 1 + size_of on) (at_on + width_in plan on (t + 1) + 1))
    (sym (breaks_in-same plan on _ _ _ _ e1 e2))
    ∙ ap (λ c. breaks_in plan on D.point (length D.instrs) ++ c) (sym (breaks_in-same plan off _ _ _ _ e3 e4))

pub breaks-chosen : (plan : Plan) (arms : List Armed) (otherwise : Does) (d : Written) →
    breaks_of plan (chosen arms otherwise) d ≡ arms_breaks plan arms d ++ breaks_of plan otherwise (arms_put plan arms d)
unfolding arms_breaks arms_put arm_put entered
breaks-chosen plan [] otherwise d = refl
breaks-chosen plan (a ∷ more) otherwise d =
    let D : Written = tested plan a.of_pointer (emitted plan a.test d) in
    let E : Written = turned (length D.instrs - 1) (done plan a.body D) in
    breaks-choose plan a.of_pointer a.test a.body (chosen more otherwise) d
    ∙ ap (λ c. breaks_of plan a.body D ++ c) (breaks-chosen plan more otherwise E)
    ∙ sym (append_assoc (breaks_of plan a.body D) (arms_breaks plan more E) (breaks_of plan otherwise (arms_put plan more E)))

pub breaks-arms_none : (plan : Plan) (d : Written) → arms_breaks plan [] d ≡ []
unfolding arms_breaks
breaks-arms_none plan d = refl

pub breaks-arms_on : (plan : Plan) (a : Armed) (more : List Armed) (d : Written) →
    arms_breaks plan (a ∷ more) d ≡ breaks_of plan a.body (entered plan a d) ++ arms_breaks plan more (arm_put plan a d)
unfolding arms_breaks
breaks-arms_on plan a more d = refl

-- ---- places of jumps: continues

pub continues-nothing : (plan : Plan) (d : Written) → continues_of plan nothing d ≡ []
unfolding continues_of
continues-nothing plan d = refl

pub continues-break : (plan : Plan) (d : Written) → continues_of plan break d ≡ []
unfolding continues_of
continues-break plan d = refl

pub continues-continue : (plan : Plan) (d : Written) → continues_of plan continue d ≡ length d.instrs ∷ []
unfolding continues_of
continues-continue plan d = refl

pub continues-act : (plan : Plan) (action : Action) (all : Arguments) (line : ℕ) (d : Written) → continues_of plan (act action all line) d ≡ []
unfolding continues_of
continues-act plan action all line d = refl

pub continues-return : (plan : Plan) (e : Core) (line : ℕ) (d : Written) → continues_of plan (return e line) d ≡ []
unfolding continues_of
continues-return plan e line d = refl

pub continues-then : (plan : Plan) (a b : Does) (d : Written) → continues_of plan (then_ a b) d ≡ continues_of plan a d ++ continues_of plan b (done plan a d)
unfolding continues_of done grown
continues-then plan a b d =
    let h : length (d.instrs ++ code_in plan a d.point d.sites 0 0 (length d.instrs)) ≡ length d.instrs + width_in plan a d.point =
    simp length-append (omega (arith, length-in plan a)) in
    ap (λ n. continues_in plan a d.point (length d.instrs) ++ continues_in plan b (d.point + size_of a) n) (sym h)

continues-choose : (plan : Plan) (of_pointer : Bool) (test : Core) (on off : Does) (d : Written) →
    continues_of plan (choose of_pointer test on off) d
    ≡ continues_of plan on (tested plan of_pointer (emitted plan test d))
    ++ continues_of plan off (turned (length (tested plan of_pointer (emitted plan test d)).instrs - 1)
    (done plan on (tested plan of_pointer (emitted plan test d))))
unfolding continues_of
continues-choose plan p test on off d =
    let D : Written = tested plan p (emitted plan test d) in
    let E : Written = turned (length D.instrs - 1) (done plan on D) in
    let t : ℕ = d.point + size test in
    let at_on : ℕ = length d.instrs + width plan test d.point + run_width plan t (test_width p) in
    let e1 : D.point ≡ t + 1 = entered-point plan p test d in
    let e2 : length D.instrs ≡ at_on = entered-length plan p test d in
    let e3 : E.point ≡ t + 1 + size_of on = let a = turned-point plan (length D.instrs - 1) on D in omega (arith, a, e1) in
    let w : width_in plan on D.point ≡ width_in plan on (t + 1) = ap (width_in plan on) e1 in
    let e4 : length E.instrs ≡ at_on + width_in plan on (t + 1) + 1 =
    let a = turned-length plan (length D.instrs - 1) on D in omega (arith, a, e2, w) in
    ap (λ c. c ++ continues_in plan off (t + 1 + size_of on) (at_on + width_in plan on (t + 1) + 1))
    (sym (continues_in-same plan on _ _ _ _ e1 e2))
    ∙ ap (λ c. continues_in plan on D.point (length D.instrs) ++ c) (sym (continues_in-same plan off _ _ _ _ e3 e4))

pub continues-chosen : (plan : Plan) (arms : List Armed) (otherwise : Does) (d : Written) →
    continues_of plan (chosen arms otherwise) d ≡ arms_continues plan arms d ++ continues_of plan otherwise (arms_put plan arms d)
unfolding arms_continues arms_put arm_put entered
continues-chosen plan [] otherwise d = refl
continues-chosen plan (a ∷ more) otherwise d =
    let D : Written = tested plan a.of_pointer (emitted plan a.test d) in
    let E : Written = turned (length D.instrs - 1) (done plan a.body D) in
    continues-choose plan a.of_pointer a.test a.body (chosen more otherwise) d
    ∙ ap (λ c. continues_of plan a.body D ++ c) (continues-chosen plan more otherwise E)
    ∙ sym (append_assoc (continues_of plan a.body D) (arms_continues plan more E) (continues_of plan otherwise (arms_put plan more E)))

pub continues-arms_none : (plan : Plan) (d : Written) → arms_continues plan [] d ≡ []
unfolding arms_continues
continues-arms_none plan d = refl

pub continues-arms_on : (plan : Plan) (a : Armed) (more : List Armed) (d : Written) →
    arms_continues plan (a ∷ more) d ≡ continues_of plan a.body (entered plan a d) ++ arms_continues plan more (arm_put plan a d)
unfolding arms_continues
continues-arms_on plan a more d = refl

-- ---- arms

pub done-chosen : (plan : Plan) (arms : List Armed) (otherwise : Does) (d : Written) →
    done plan (chosen arms otherwise) d ≡ ended (arms_jumps plan arms d) (done plan otherwise (arms_put plan arms d))
unfolding arms_jumps arms_put arm_jump arm_put entered
done-chosen plan [] otherwise d = sym (ended-none _)
done-chosen plan (a ∷ more) otherwise d =
    done-choose plan a.of_pointer a.test a.body (chosen more otherwise) d
    ∙ ap (ended _) (done-chosen plan more otherwise _)
    ∙ sym (ended-first _ _ _)

pub put-arms_none : (plan : Plan) (d : Written) → arms_put plan [] d ≡ d
unfolding arms_put
put-arms_none plan d = refl

pub put-arms_on : (plan : Plan) (a : Armed) (more : List Armed) (d : Written) →
    arms_put plan (a ∷ more) d ≡ arms_put plan more (arm_put plan a d)
unfolding arms_put
put-arms_on plan a more d = refl

pub jumps-arms_none : (plan : Plan) (d : Written) → arms_jumps plan [] d ≡ []
unfolding arms_jumps
jumps-arms_none plan d = refl

pub jumps-arms_on : (plan : Plan) (a : Armed) (more : List Armed) (d : Written) →
    arms_jumps plan (a ∷ more) d ≡ arm_jump plan a d ∷ arms_jumps plan more (arm_put plan a d)
unfolding arms_jumps
jumps-arms_on plan a more d = refl

-- for statements, blocks and the arms of an `if`
pub ruleset statements = (done-nothing, done-break, done-continue, done-act, done-return, done-chosen, done-loop, breaks-nothing, breaks-break, breaks-continue, breaks-act, breaks-return, breaks-chosen, breaks-loop, continues-nothing, continues-break, continues-continue, continues-act, continues-return, continues-chosen, continues-loop)

pub ruleset blocks = (done-nothing, done-then, breaks-nothing, breaks-then, continues-nothing, continues-then)

pub ruleset arms = (put-arms_none, put-arms_on, jumps-arms_none, jumps-arms_on, breaks-arms_none, breaks-arms_on, continues-arms_none, continues-arms_on)
