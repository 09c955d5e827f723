-- What single instructions, waits and patches do to code while it is written.
use Rattle.std.proofs.Common.{◌≡◌, refl, sym, ap, ◌∙◌, ℕ, ◌+◌, ◌≤◌, List, [], ◌∷◌, ◌++◌, length, set, slice_get, get_or, None, arith, add-one, append_assoc, length-append}
use Rattle.std.proofs.lemmas.List.{set_past, append-nil}
use Rattle.std.proofs.lemmas.Option.{unwrap_or-slice_get}
use Rattle.std.specs.Option.{unwrap_or}
use Rattle.sc_isa.specs.declared.op.Instr.{Instr}
use Rattle.sc_isa.specs.declared.op.Op.{Op}
use Rattle.sc_isa.specs.declared.op.Op.TheVariants.{Jump, Wait}
use Rattle.sc_core.specs.declared.operation.Operation.{Operation}
use Rattle.sc_core.specs.declared.operation.Action.{Action}
use Rattle.sc_core.specs.Table.{ops_of, ops_of_action}
use Rattle.flow_form.specs.Accesses.{accesses_by, accesses_by_action}
use Rattle.site_graph.specs.declared.plan.Plan.{Plan}
use Rattle.site_graph.specs.Plans.{waits_at}
use Rattle.node_emit.specs.Runs.{goes_one_way, instr, outside}
use Rattle.node_emit.specs.Drafts.{Written, grown, put_instr, put_all, passed, waits_put, led, led_all, ran, counted, stepped, acted}

pub written-same : (a b : Written) → a.instrs ≡ b.instrs → a.point ≡ b.point → a.sites ≡ b.sites → a ≡ b
written-same a b e f g =
    ap (λ xs. let w : Written = record { instrs = xs; point = a.point; sites = a.sites } in w) e
    ∙ ap (λ n. let w : Written = record { instrs = b.instrs; point = n; sites = a.sites } in w) f
    ∙ ap (λ n. let w : Written = record { instrs = b.instrs; point = b.point; sites = n } in w) g

pub grown-grown : (d : Written) (xs ys : List Instr) (p q s u : ℕ) →
    grown (grown d xs p s) ys q u ≡ grown d (xs ++ ys) (p + q) (s + u)
unfolding grown
grown-grown d xs ys p q s u = written-same _ _ (append_assoc d.instrs xs ys) (omega arith) (omega arith)

pub grown-none : (d : Written) → grown d [] 0 0 ≡ d
unfolding grown
grown-none d = written-same _ _ (append-nil d.instrs) (omega arith) (omega arith)

pub set-far : (at : ℕ) (i : Instr) (xs : List Instr) → length xs ≤ at → set xs at i ≡ xs
set-far at i xs h = set_past xs at i h

pub ruleset patches = (set-far)

pub led-none : (target : ℕ) (d : Written) → led_all [] target d ≡ d
unfolding led_all
led-none target d = refl

pub led-on : (at : ℕ) (more : List ℕ) (target : ℕ) (d : Written) →
    led_all (at ∷ more) target d ≡ led_all more target (led at (outside (Jump target)) d)
unfolding led_all
led-on at more target d = refl

pub ruleset leads = (led-none, led-on)

pub waits-none : (line : ℕ) (d : Written) → waits_put line [] d ≡ d
unfolding waits_put
waits-none line d = grown-none d

pub waits-on : (line site : ℕ) (more : List ℕ) (d : Written) →
    waits_put line (site ∷ more) d ≡ waits_put line more (put_instr (instr line (Wait site)) d)
unfolding waits_put put_instr
waits-on line site more d = sym (grown-grown d (instr line (Wait site) ∷ []) _ 0 0 0 0)

pub ruleset waiting = (waits-none, waits-on)

pub puts-none : (line : ℕ) (d : Written) → put_all line [] d ≡ d
unfolding put_all
puts-none line d = grown-none d

pub puts-on : (line : ℕ) (o : Op) (more : List Op) (d : Written) →
    put_all line (o ∷ more) d ≡ put_all line more (put_instr (instr line o) d)
unfolding put_all put_instr
puts-on line o more d = sym (grown-grown d (instr line o ∷ []) _ 0 0 0 0)

pub ruleset puts = (puts-none, puts-on)

pub ran-is : (plan : Plan) (line : ℕ) (ops : List Op) (d : Written) →
    ran plan line ops d ≡ passed (put_all line ops (waits_put line (waits_at plan d.point) d))
unfolding ran passed put_all waits_put
ran-is plan line ops d =
    sym (ap (λ e. grown e [] 1 0) (grown-grown d _ _ 0 0 0 0) ∙ grown-grown d _ [] 0 1 0 0
    ∙ ap (λ xs. grown d xs 1 0) (append-nil _))

pub ruleset runs = (ran-is)

pub place-put : (i : Instr) (d : Written) → length (put_instr i d).instrs ≡ length d.instrs + 1
unfolding put_instr grown
place-put i d = let e = length-append d.instrs (i ∷ []) in omega (arith, e)

pub ruleset turns = (place-put)

pub row-none : (xs : List (List ℕ)) (t : ℕ) → slice_get xs t ≡ None → get_or xs t [] ≡ []
row-none xs t h = sym (unwrap_or-slice_get xs t []) ∙ ap (λ o. unwrap_or o []) h

pub ruleset rows = (row-none)

pub stepped-is : (plan : Plan) (operation : Operation) (line : ℕ) (d : Written) →
    stepped plan operation line d
    ≡ counted (accesses_by operation) (ran plan line (ops_of (goes_one_way plan (d.sites + 1)) (d.sites + 1) operation) d)
unfolding stepped
stepped-is plan operation line d =
    ap (λ s. counted (accesses_by operation) (ran plan line (ops_of (goes_one_way plan s) s operation) d)) (sym (add-one d.sites))

pub acted-is : (plan : Plan) (action : Action) (line : ℕ) (d : Written) →
    acted plan action line d ≡ counted (accesses_by_action action) (ran plan line (ops_of_action (d.sites + 1) action) d)
unfolding acted
acted-is plan action line d =
    ap (λ s. counted (accesses_by_action action) (ran plan line (ops_of_action s action) d)) (sym (add-one d.sites))

pub ruleset steps = (stepped-is, acted-is)
