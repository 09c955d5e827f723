-- The jumps out of a loop and on with it are set in what was written with 0 as their target.
use Rattle.std.proofs.Common.{◌≡◌, refl, sym, ap, ◌∙◌, ℕ, ◌+◌, List, [], ◌∷◌, ◌++◌, length, set, arith, append_assoc, length-append}
use Rattle.std.proofs.lemmas.List.{length-map, set_at, append-nil, length-set}
use Rattle.sc_isa.specs.declared.op.Instr.{Instr}
use Rattle.sc_isa.specs.declared.op.Op.TheVariants.{Jump, Turn}
use Rattle.sc_core.specs.Core.{Does, nothing, break, continue, then_, act, choose, loop, return}
use Rattle.sc_meaning.specs.Points.{size, size_of}
use Rattle.flow_form.specs.Accesses.{accesses, accesses_in}
use Rattle.site_graph.specs.declared.plan.Plan.{Plan}
use Rattle.node_emit.specs.Runs.{outside, run, run_width, test_ops, test_width}
use Rattle.node_emit.specs.Widths.{width, width_in}
use Rattle.node_emit.specs.Expressions.{code}
use Rattle.node_emit.specs.Statements.{code_in}
use Rattle.node_emit.specs.Drafts.{Written, led, led_all}
use Rattle.node_emit.specs.Done.{breaks_in, continues_in}
use Rattle.node_emit.proofs.Lengths.{length-code, length-in, length-test}

-- the jumps at these places lead to the target
unfoldable pub sets : List ℕ → (target : ℕ) → List Instr → List Instr
sets [] target xs = xs
sets (at ∷ more) target xs = sets more target (set xs at (outside (Jump target)))

pub sets-append : (a b : List ℕ) (target : ℕ) (xs : List Instr) → sets (a ++ b) target xs ≡ sets b target (sets a target xs)
unfolding sets
sets-append [] b target xs = refl
sets-append (at ∷ more) b target xs = sets-append more b target (set xs at (outside (Jump target)))

pub length-sets : (a : List ℕ) (target : ℕ) (xs : List Instr) → length (sets a target xs) ≡ length xs
unfolding sets
length-sets [] target xs = refl
length-sets (at ∷ more) target xs =
    length-sets more target (set xs at (outside (Jump target))) ∙ length-set xs at (outside (Jump target))

pub led_all-sets : (a : List ℕ) (target : ℕ) (d : Written) →
    led_all a target d ≡ record { instrs = sets a target d.instrs; point = d.point; sites = d.sites }
unfolding led_all led sets
led_all-sets [] target d = refl
led_all-sets (at ∷ more) target d = led_all-sets more target (led at (outside (Jump target)) d)

-- two parts of the code in which jumps are set, and what stands before, between and behind them
two-set : (a b : List ℕ) (target : ℕ) (xs c c' mid e e' ys : List Instr) →
    ((zs : List Instr) → sets a target (xs ++ (c ++ zs)) ≡ xs ++ (c' ++ zs)) →
    ((zs : List Instr) → sets b target (((xs ++ c') ++ mid) ++ (e ++ zs)) ≡ ((xs ++ c') ++ mid) ++ (e' ++ zs)) →
    sets (a ++ b) target (xs ++ (((c ++ mid) ++ e) ++ ys)) ≡ xs ++ (((c' ++ mid) ++ e') ++ ys)
two-set a b target xs c c' mid e e' ys f g =
    sets-append a b target _
    ∙ ap (λ l. sets b target (sets a target l))
    (let h : xs ++ (((c ++ mid) ++ e) ++ ys) ≡ xs ++ (c ++ (mid ++ (e ++ ys))) = simp append_assoc refl in h)
    ∙ ap (sets b target) (f (mid ++ (e ++ ys)))
    ∙ ap (sets b target)
    (let h : xs ++ (c' ++ (mid ++ (e ++ ys))) ≡ ((xs ++ c') ++ mid) ++ (e ++ ys) = simp append_assoc refl in h)
    ∙ g ys
    ∙ (let h : ((xs ++ c') ++ mid) ++ (e' ++ ys) ≡ xs ++ (((c' ++ mid) ++ e') ++ ys) = simp append_assoc refl in h)

-- the same behind a test
branches-set : (a b : List ℕ) (target : ℕ) (xs ct r c c' : List Instr) (j : Instr) (e e' ys : List Instr) →
    ((zs : List Instr) → sets a target (((xs ++ ct) ++ r) ++ (c ++ zs)) ≡ ((xs ++ ct) ++ r) ++ (c' ++ zs)) →
    ((zs : List Instr) → sets b target (((((xs ++ ct) ++ r) ++ c') ++ j ∷ []) ++ (e ++ zs)) ≡ ((((xs ++ ct) ++ r) ++ c') ++ j ∷ []) ++ (e' ++ zs)) →
    sets (a ++ b) target (xs ++ ((((ct ++ r) ++ c) ++ (j ∷ e)) ++ ys)) ≡ xs ++ ((((ct ++ r) ++ c') ++ (j ∷ e')) ++ ys)
branches-set a b target xs ct r c c' j e e' ys f g =
    ap (sets (a ++ b) target)
    (let h : xs ++ ((((ct ++ r) ++ c) ++ (j ∷ e)) ++ ys) ≡ ((xs ++ ct) ++ r) ++ (((c ++ j ∷ []) ++ e) ++ ys) = simp append_assoc refl in h)
    ∙ two-set a b target ((xs ++ ct) ++ r) c c' (j ∷ []) e e' ys f g
    ∙ (let h : ((xs ++ ct) ++ r) ++ (((c' ++ j ∷ []) ++ e') ++ ys) ≡ xs ++ ((((ct ++ r) ++ c') ++ (j ∷ e')) ++ ys) = simp append_assoc refl in h)

pub breaks-set : (plan : Plan) (s : Does) (k n out again pc : ℕ) (xs ys : List Instr) → length xs ≡ pc →
    sets (breaks_in plan s k pc) out (xs ++ (code_in plan s k n 0 again pc ++ ys)) ≡ xs ++ (code_in plan s k n out again pc ++ ys)
unfolding sets
breaks-set plan nothing k n out again pc xs ys h = refl
breaks-set plan break k n out again pc xs ys h = set_at xs (outside (Jump 0)) ys (outside (Jump out)) pc h
breaks-set plan continue k n out again pc xs ys h = refl
breaks-set plan (then_ first second) k n out again pc xs ys h =
    let c : List Instr = code_in plan first k n 0 again pc in
    let c' : List Instr = code_in plan first k n out again pc in
    let pc2 : ℕ = pc + width_in plan first k in
    let e : List Instr = code_in plan second (k + size_of first) (n + accesses_in first) 0 again pc2 in
    let e' : List Instr = code_in plan second (k + size_of first) (n + accesses_in first) out again pc2 in
    let l : length ((xs ++ c') ++ []) ≡ pc2 = simp length-append (omega (arith, length-in plan first, h)) in
    ap (λ q. sets (breaks_in plan first k pc ++ breaks_in plan second (k + size_of first) pc2) out (xs ++ ((q ++ e) ++ ys))) (sym (append-nil c))
    ∙ two-set (breaks_in plan first k pc) (breaks_in plan second (k + size_of first) pc2) out xs c c' [] e e' ys
    (λ zs. breaks-set plan first k n out again pc xs zs h)
    (λ zs. breaks-set plan second (k + size_of first) (n + accesses_in first) out again pc2 ((xs ++ c') ++ []) zs l)
    ∙ ap (λ q. xs ++ ((q ++ e') ++ ys)) (append-nil c')
breaks-set plan (act action arguments line) k n out again pc xs ys h = refl
breaks-set plan (choose of_pointer test on off) k n out again pc xs ys h =
    let t : ℕ = k + size test in
    let s' : ℕ = n + accesses test in
    let at_on : ℕ = pc + width plan test k + run_width plan t (test_width of_pointer) in
    let at_off : ℕ = at_on + width_in plan on (t + 1) + 1 in
    let end : ℕ = at_off + width_in plan off (t + 1 + size_of on) in
    let ct : List Instr = code plan test k n pc in
    let r : List Instr = run plan t 0 (test_ops of_pointer at_off) in
    let c : List Instr = code_in plan on (t + 1) s' 0 again at_on in
    let c' : List Instr = code_in plan on (t + 1) s' out again at_on in
    let e : List Instr = code_in plan off (t + 1 + size_of on) (s' + accesses_in on) 0 again at_off in
    let e' : List Instr = code_in plan off (t + 1 + size_of on) (s' + accesses_in on) out again at_off in
    let l1 : length ((xs ++ ct) ++ r) ≡ at_on =
    simp (length-append, length-map) (omega (arith, length-code plan test, length-test, h)) in
    let l2 : length ((((xs ++ ct) ++ r) ++ c') ++ outside (Jump end) ∷ []) ≡ at_off =
    let a = length-append (((xs ++ ct) ++ r) ++ c') (outside (Jump end) ∷ []) in
    let b = length-append ((xs ++ ct) ++ r) c' in
    omega (arith, a, b, l1, length-in plan on) in
    branches-set (breaks_in plan on (t + 1) at_on) (breaks_in plan off (t + 1 + size_of on) at_off) out xs ct r c c'
    (outside (Jump end)) e e' ys
    (λ zs. breaks-set plan on (t + 1) s' out again at_on ((xs ++ ct) ++ r) zs l1)
    (λ zs. breaks-set plan off (t + 1 + size_of on) (s' + accesses_in on) out again at_off
    ((((xs ++ ct) ++ r) ++ c') ++ outside (Jump end) ∷ []) zs l2)
breaks-set plan (loop mine before body after) k n out again pc xs ys h = refl
breaks-set plan (return e line) k n out again pc xs ys h = refl

pub continues-set : (plan : Plan) (s : Does) (k n out again pc : ℕ) (xs ys : List Instr) → length xs ≡ pc →
    sets (continues_in plan s k pc) again (xs ++ (code_in plan s k n out 0 pc ++ ys)) ≡ xs ++ (code_in plan s k n out again pc ++ ys)
unfolding sets
continues-set plan nothing k n out again pc xs ys h = refl
continues-set plan break k n out again pc xs ys h = refl
continues-set plan continue k n out again pc xs ys h = set_at xs (outside (Jump 0)) ys (outside (Jump again)) pc h
continues-set plan (then_ first second) k n out again pc xs ys h =
    let c : List Instr = code_in plan first k n out 0 pc in
    let c' : List Instr = code_in plan first k n out again pc in
    let pc2 : ℕ = pc + width_in plan first k in
    let e : List Instr = code_in plan second (k + size_of first) (n + accesses_in first) out 0 pc2 in
    let e' : List Instr = code_in plan second (k + size_of first) (n + accesses_in first) out again pc2 in
    let l : length ((xs ++ c') ++ []) ≡ pc2 = simp length-append (omega (arith, length-in plan first, h)) in
    ap (λ q. sets (continues_in plan first k pc ++ continues_in plan second (k + size_of first) pc2) again (xs ++ ((q ++ e) ++ ys))) (sym (append-nil c))
    ∙ two-set (continues_in plan first k pc) (continues_in plan second (k + size_of first) pc2) again xs c c' [] e e' ys
    (λ zs. continues-set plan first k n out again pc xs zs h)
    (λ zs. continues-set plan second (k + size_of first) (n + accesses_in first) out again pc2 ((xs ++ c') ++ []) zs l)
    ∙ ap (λ q. xs ++ ((q ++ e') ++ ys)) (append-nil c')
continues-set plan (act action arguments line) k n out again pc xs ys h = refl
continues-set plan (choose of_pointer test on off) k n out again pc xs ys h =
    let t : ℕ = k + size test in
    let s' : ℕ = n + accesses test in
    let at_on : ℕ = pc + width plan test k + run_width plan t (test_width of_pointer) in
    let at_off : ℕ = at_on + width_in plan on (t + 1) + 1 in
    let end : ℕ = at_off + width_in plan off (t + 1 + size_of on) in
    let ct : List Instr = code plan test k n pc in
    let r : List Instr = run plan t 0 (test_ops of_pointer at_off) in
    let c : List Instr = code_in plan on (t + 1) s' out 0 at_on in
    let c' : List Instr = code_in plan on (t + 1) s' out again at_on in
    let e : List Instr = code_in plan off (t + 1 + size_of on) (s' + accesses_in on) out 0 at_off in
    let e' : List Instr = code_in plan off (t + 1 + size_of on) (s' + accesses_in on) out again at_off in
    let l1 : length ((xs ++ ct) ++ r) ≡ at_on =
    simp (length-append, length-map) (omega (arith, length-code plan test, length-test, h)) in
    let l2 : length ((((xs ++ ct) ++ r) ++ c') ++ outside (Jump end) ∷ []) ≡ at_off =
    let a = length-append (((xs ++ ct) ++ r) ++ c') (outside (Jump end) ∷ []) in
    let b = length-append ((xs ++ ct) ++ r) c' in
    omega (arith, a, b, l1, length-in plan on) in
    branches-set (continues_in plan on (t + 1) at_on) (continues_in plan off (t + 1 + size_of on) at_off) again xs ct r c c'
    (outside (Jump end)) e e' ys
    (λ zs. continues-set plan on (t + 1) s' out again at_on ((xs ++ ct) ++ r) zs l1)
    (λ zs. continues-set plan off (t + 1 + size_of on) (s' + accesses_in on) out again at_off
    ((((xs ++ ct) ++ r) ++ c') ++ outside (Jump end) ∷ []) zs l2)
continues-set plan (loop mine before body after) k n out again pc xs ys h =
    let t : ℕ = k + size_of before in
    let u : ℕ = t + 1 + size_of body in
    let s_body : ℕ = n + accesses_in before in
    let at_body : ℕ = pc + width_in plan before k + run_width plan t 1 in
    let at_after : ℕ = at_body + width_in plan body (t + 1) in
    let end : ℕ = at_after + width_in plan after u + 1 in
    let c : List Instr = code_in plan before k n end 0 pc in
    let c' : List Instr = code_in plan before k n end again pc in
    let r : List Instr = run plan t 0 (Turn ∷ []) in
    let b : List Instr = code_in plan body (t + 1) s_body end at_after at_body in
    let e : List Instr = code_in plan after u (s_body + accesses_in body) end 0 at_after in
    let e' : List Instr = code_in plan after u (s_body + accesses_in body) end again at_after in
    let l : length ((xs ++ c') ++ (r ++ b)) ≡ at_after =
    simp (length-append, length-map) (omega (arith, length-in plan before, length-in plan body, h)) in
    ap (sets (continues_in plan before k pc ++ continues_in plan after u at_after) again)
    (let h : xs ++ (((((c ++ r) ++ b) ++ e) ++ outside (Jump pc) ∷ []) ++ ys) ≡ xs ++ (((c ++ (r ++ b)) ++ e) ++ outside (Jump pc) ∷ ys) = simp append_assoc refl in h)
    ∙ two-set (continues_in plan before k pc) (continues_in plan after u at_after) again xs c c' (r ++ b) e e' (outside (Jump pc) ∷ ys)
    (λ zs. continues-set plan before k n end again pc xs zs h)
    (λ zs. continues-set plan after u (s_body + accesses_in body) end again at_after ((xs ++ c') ++ (r ++ b)) zs l)
    ∙ (let h : xs ++ (((c' ++ (r ++ b)) ++ e') ++ outside (Jump pc) ∷ ys) ≡ xs ++ (((((c' ++ r) ++ b) ++ e') ++ outside (Jump pc) ∷ []) ++ ys) = simp append_assoc refl in h)
continues-set plan (return e line) k n out again pc xs ys h = refl
