-- What choices add to code while it is written: the two targets of each are set once it is written.
use Rattle.std.proofs.Common.{◌≡◌, refl, sym, ap, ◌∙◌, ℕ, zero, ◌+◌, ◌-◌, suc, pos, Bool, true, false, List, [], ◌∷◌, ◌++◌, length, set, arith, append_assoc, length-append}
use Rattle.std.proofs.lemmas.List.{length-map, set_at, length-set}
use Rattle.sc_isa.specs.declared.op.Instr.{Instr}
use Rattle.sc_isa.specs.declared.op.Op.TheVariants.{Push, Jump, Truth, Zero}
use Rattle.sc_core.specs.Core.{Core, choice}
use Rattle.sc_meaning.specs.Points.{size}
use Rattle.flow_form.specs.Accesses.{accesses}
use Rattle.site_graph.specs.declared.plan.Plan.{Plan}
use Rattle.node_emit.specs.Runs.{instr, outside, run, run_width, test_ops, test_width}
use Rattle.node_emit.specs.Widths.{width}
use Rattle.node_emit.specs.Expressions.{code}
use Rattle.node_emit.specs.Drafts.{Written, grown, put_instr, put, led, led_all, ran, tested, turned, ended, emitted}
use Rattle.node_emit.proofs.Lengths.{length-code, length-test}
use Rattle.sc_core.specs.View.{Tested, every_of, any_of}
use Rattle.sc_core.specs.Places.{number_one, number_zero}
use Rattle.node_emit.specs.Drafted.{opened, shut, closed}
use Rattle.node_emit.proofs.Emitted.{emitted-constant, emitted-step, emitted-update}
use Rattle.node_emit.proofs.Patches.{written-same}

-- what stands before the instruction that leads on where a test is false
test_front : Plan → (t : ℕ) → (of_pointer : Bool) → List Instr
test_front plan t true = run plan t 0 (Truth ∷ [])
test_front plan t false = run plan t 0 []

test-run : (plan : Plan) (t : ℕ) (of_pointer : Bool) (target : ℕ) →
    run plan t 0 (test_ops of_pointer target) ≡ test_front plan t of_pointer ++ instr 0 (Zero target) ∷ []
unfolding test_front
test-run plan t true target = simp append_assoc refl
test-run plan t false target = simp append_assoc refl

pub length-test_run : (plan : Plan) (t : ℕ) (of_pointer : Bool) (target : ℕ) →
    length (run plan t 0 (test_ops of_pointer target)) ≡ run_width plan t (test_width of_pointer)
length-test_run plan t of_pointer target = simp (length-append, length-map) (omega (arith, length-test))

-- the two targets of a choice are set once it is written
choice-lists : (xs ct r on off : List Instr) (z z' j j' : Instr) (at jump : ℕ) →
    at + 1 ≡ length ((xs ++ ct) ++ (r ++ z ∷ [])) → jump ≡ length (((xs ++ ct) ++ (r ++ z ∷ [])) ++ on) →
    set (set ((((xs ++ ct) ++ (r ++ z ∷ [])) ++ on) ++ j ∷ []) at z' ++ off) jump j'
    ≡ xs ++ (((ct ++ (r ++ z' ∷ [])) ++ on) ++ (j' ∷ off))
choice-lists xs ct r on off z z' j j' at jump f g =
    let front : List Instr = (xs ++ ct) ++ r in
    let e1 : (((xs ++ ct) ++ (r ++ z ∷ [])) ++ on) ++ j ∷ [] ≡ front ++ z ∷ (on ++ j ∷ []) = simp append_assoc refl in
    let f2 = simp length-append at f in
    let g2 = simp length-append at g in
    let f' : length front ≡ at = simp length-append (omega (arith, f2)) in
    let g' : length (front ++ z' ∷ on) ≡ jump = simp length-append (omega (arith, g2)) in
    ap (λ l. set (set l at z' ++ off) jump j') e1
    ∙ ap (λ l. set (l ++ off) jump j') (set_at front z (on ++ j ∷ []) z' at f')
    ∙ ap (λ l. set l jump j') (append_assoc front (z' ∷ (on ++ j ∷ [])) off ∙ simp append_assoc refl)
    ∙ set_at (front ++ z' ∷ on) j off j' jump g'
    ∙ simp append_assoc refl

-- any two branches behind any test
pub choice-wrote : (plan : Plan) (of_pointer : Bool) (test on off : ℕ → ℕ → ℕ → List Instr) (pt st pn sn pf sf wt wn wf : ℕ) (d : Written) →
    length (test d.point d.sites (length d.instrs)) ≡ wt →
    ((s pc : ℕ) → length (on (d.point + pt + 1) s pc) ≡ wn) →
    ((s pc : ℕ) → length (off (d.point + pt + 1 + pn) s pc) ≡ wf) →
    (at_on at_off end : ℕ) → at_on ≡ length d.instrs + wt + run_width plan (d.point + pt) (test_width of_pointer) →
    at_off ≡ at_on + wn + 1 → end ≡ at_off + wf →
    let after_test : List Instr = d.instrs ++ test d.point d.sites (length d.instrs) ++ run plan (d.point + pt) 0 (test_ops of_pointer 0) in
    let with_on : List Instr = after_test ++ on (d.point + pt + 1) (d.sites + st + 0) (length after_test) in
    let patched : List Instr = set (with_on ++ outside (Jump 0) ∷ []) (length after_test - 1) (instr 0 (Zero (length with_on + 1))) in
    let with_off : List Instr = patched ++ off (d.point + pt + 1 + pn + 0) (d.sites + st + 0 + sn + 0) (length patched) in
    d.instrs ++ (test d.point d.sites (length d.instrs) ++ run plan (d.point + pt) 0 (test_ops of_pointer at_off)
    ++ on (d.point + pt + 1) (d.sites + st) at_on ++ outside (Jump end) ∷ off (d.point + pt + 1 + pn) (d.sites + st + sn) at_off)
    ≡ set with_off (length with_on) (outside (Jump (length with_off)))
choice-wrote plan p test on off pt st pn sn pf sf wt wn wf d ht hn hf at_on at_off end h1 h2 h3 =
    let c0 : List Instr = test d.point d.sites (length d.instrs) in
    let t : ℕ = d.point + pt in
    let r0 : List Instr = run plan t 0 (test_ops p 0) in
    let after_test : List Instr = d.instrs ++ c0 ++ r0 in
    let l1 : length after_test ≡ at_on =
    simp length-append (let a = length-test_run plan t p 0 in let b = simp length-append at a in omega (arith, ht, h1, b)) in
    let z : Instr = instr 0 (Zero 0) in
    let j : Instr = outside (Jump 0) in
    let on_here : List Instr = on (t + 1) (d.sites + st + 0) (length after_test) in
    let on_there : List Instr = on (t + 1) (d.sites + st) at_on in
    let s1 : d.sites + st + 0 ≡ d.sites + st = omega arith in
    let e1 : on_here ≡ on_there = ap (λ s. on (t + 1) s (length after_test)) s1 ∙ ap (on (t + 1) (d.sites + st)) l1 in
    let with_on : List Instr = after_test ++ on_here in
    let z1 : Instr = instr 0 (Zero (length with_on + 1)) in
    let l2 : length with_on + 1 ≡ at_off =
    let a = length-append after_test on_here in let b = hn (d.sites + st + 0) (length after_test) in omega (arith, a, b, l1, h2) in
    let patched : List Instr = set (with_on ++ j ∷ []) (length after_test - 1) z1 in
    let l3 : length patched ≡ at_off =
    let a = length-set (with_on ++ j ∷ []) (length after_test - 1) z1 in let b = length-append with_on (j ∷ []) in omega (arith, a, b, l2) in
    let off_here : List Instr = off (t + 1 + pn + 0) (d.sites + st + 0 + sn + 0) (length patched) in
    let off_there : List Instr = off (t + 1 + pn) (d.sites + st + sn) at_off in
    let p2 : t + 1 + pn + 0 ≡ t + 1 + pn = omega arith in
    let s2 : d.sites + st + 0 + sn + 0 ≡ d.sites + st + sn = omega arith in
    let e2 : off_here ≡ off_there =
    ap (λ k. off k (d.sites + st + 0 + sn + 0) (length patched)) p2 ∙ ap (λ s. off (t + 1 + pn) s (length patched)) s2
    ∙ ap (off (t + 1 + pn) (d.sites + st + sn)) l3 in
    let l4 : length (patched ++ off_here) ≡ end =
    let a = length-append patched off_here in let b = ap length e2 in let c = hf (d.sites + st + sn) at_off in
    omega (arith, a, b, c, l3, h3) in
    let r : List Instr = test_front plan t p in
    let e0 : r0 ≡ r ++ z ∷ [] = test-run plan t p 0 in
    let j1 : Instr = outside (Jump (length (patched ++ off_here))) in
    let f : length after_test - 1 + 1 ≡ length ((d.instrs ++ c0) ++ (r ++ z ∷ [])) =
    let a : length after_test ≡ length ((d.instrs ++ c0) ++ (r ++ z ∷ [])) = ap (λ q. length ((d.instrs ++ c0) ++ q)) e0 in
    let b = length-append (d.instrs ++ c0) (r ++ z ∷ []) in let c = length-append r (z ∷ []) in
    omega (arith, a, b, c) in
    let g : length with_on ≡ length (((d.instrs ++ c0) ++ (r ++ z ∷ [])) ++ on_here) = ap (λ q. length (((d.instrs ++ c0) ++ q) ++ on_here)) e0 in
    sym
    (ap (λ q. set (set ((((d.instrs ++ c0) ++ q) ++ on_here) ++ j ∷ []) (length after_test - 1) z1 ++ off_here) (length with_on) j1) e0
    ∙ choice-lists d.instrs c0 r on_here off_here z z1 j j1 (length after_test - 1) (length with_on) f g
    ∙ ap (λ n. d.instrs ++ (((c0 ++ (r ++ instr 0 (Zero n) ∷ [])) ++ on_here) ++ (j1 ∷ off_here))) l2
    ∙ ap (λ q. d.instrs ++ (((c0 ++ q) ++ on_here) ++ (j1 ∷ off_here))) (sym (test-run plan t p at_off))
    ∙ ap (λ q. d.instrs ++ (((c0 ++ run plan t 0 (test_ops p at_off)) ++ q) ++ (j1 ∷ off_here))) e1
    ∙ ap (λ n. d.instrs ++ (((c0 ++ run plan t 0 (test_ops p at_off)) ++ on_there) ++ (outside (Jump n) ∷ off_here))) l4
    ∙ ap (λ q. d.instrs ++ (((c0 ++ run plan t 0 (test_ops p at_off)) ++ on_there) ++ (outside (Jump end) ∷ q))) e2)

pub emitted-choice : (plan : Plan) (of_pointer : Bool) (test on off : Core) (d : Written) →
    emitted plan (choice of_pointer test on off) d
    ≡ ended (length (emitted plan on (tested plan of_pointer (emitted plan test d))).instrs ∷ [])
    (emitted plan off (turned (length (tested plan of_pointer (emitted plan test d)).instrs - 1)
    (emitted plan on (tested plan of_pointer (emitted plan test d)))))
unfolding emitted tested turned ended led_all led ran put_instr grown
emitted-choice plan p test on off d =
    written-same _ _
    (choice-wrote plan p (code plan test) (code plan on) (code plan off) (size test) (accesses test) (size on) (accesses on)
    (size off) (accesses off) (width plan test d.point) (width plan on (d.point + size test + 1))
    (width plan off (d.point + size test + 1 + size on)) d (length-code plan test d.point d.sites (length d.instrs))
    (λ s pc. length-code plan on (d.point + size test + 1) s pc)
    (λ s pc. length-code plan off (d.point + size test + 1 + size on) s pc) _ _ _ refl refl refl)
    (omega arith) (omega arith)

pub ruleset forms = (emitted-constant, emitted-step, emitted-choice, emitted-update)

-- ---- jumps that lead on to one place

set-set : (xs : List Instr) (a b : ℕ) (i : Instr) → set (set xs a i) b i ≡ set (set xs b i) a i
set-set [] a b i = refl
set-set (x ∷ xs) zero zero i = refl
set-set (x ∷ xs) zero (suc b) i = refl
set-set (x ∷ xs) (suc a) zero i = refl
set-set (x ∷ xs) (suc a) (suc b) i = ap (λ l. x ∷ l) (set-set xs a b i)

led-led : (a b : ℕ) (i : Instr) (d : Written) → led b i (led a i d) ≡ led a i (led b i d)
unfolding led
led-led a b i d = written-same _ _ (set-set d.instrs a b i) refl refl

led_all-last : (jumps : List ℕ) (jump target : ℕ) (d : Written) →
    led_all (jumps ++ jump ∷ []) target d ≡ led_all jumps target (led jump (outside (Jump target)) d)
unfolding led_all
led_all-last [] jump target d = refl
led_all-last (a ∷ more) jump target d =
    led_all-last more jump target (led a (outside (Jump target)) d)
    ∙ ap (led_all more target) (led-led a jump (outside (Jump target)) d)

length-led : (jump : ℕ) (i : Instr) (d : Written) → length (led jump i d).instrs ≡ length d.instrs
unfolding led
length-led jump i d = length-set d.instrs jump i

pub ended-none : (d : Written) → ended [] d ≡ d
unfolding ended led_all
ended-none d = refl

pub ended-last : (jumps : List ℕ) (jump : ℕ) (d : Written) → ended (jumps ++ jump ∷ []) d ≡ ended jumps (ended (jump ∷ []) d)
unfolding ended led_all
ended-last jumps jump d =
    led_all-last jumps jump (length d.instrs) d
    ∙ ap (λ n. led_all jumps n (led jump (outside (Jump (length d.instrs))) d)) (sym (length-led jump (outside (Jump (length d.instrs))) d))

led-led_all : (jumps : List ℕ) (target jump : ℕ) (i : Instr) (d : Written) → i ≡ outside (Jump target) →
    led_all jumps target (led jump i d) ≡ led jump i (led_all jumps target d)
unfolding led_all
led-led_all [] target jump i d h = refl
led-led_all (a ∷ more) target jump i d h =
    ap (λ x. led_all more target (led a x (led jump i d))) (sym h)
    ∙ ap (led_all more target) (led-led jump a i d)
    ∙ led-led_all more target jump i (led a i d) h
    ∙ ap (λ x. led jump i (led_all more target (led a x d))) h

length-led_all : (jumps : List ℕ) (target : ℕ) (d : Written) → length (led_all jumps target d).instrs ≡ length d.instrs
unfolding led_all
length-led_all [] target d = refl
length-led_all (a ∷ more) target d = length-led_all more target (led a (outside (Jump target)) d) ∙ length-led a (outside (Jump target)) d

pub ended-first : (jump : ℕ) (jumps : List ℕ) (d : Written) → ended (jump ∷ jumps) d ≡ ended (jump ∷ []) (ended jumps d)
unfolding ended led_all
ended-first jump jumps d =
    led-led_all jumps (length d.instrs) jump (outside (Jump (length d.instrs))) d refl
    ∙ ap (λ n. led jump (outside (Jump n)) (led_all jumps (length d.instrs) d)) (sym (length-led_all jumps (length d.instrs) d))

-- ---- operands of `&&` and `||`

pub shut-is : (place : ℕ) (d : Written) → shut place d ≡ ended (length d.instrs ∷ []) (put (Push (pos 0)) (turned place d))
unfolding shut
shut-is place d = refl

pub closed-none : (d : Written) → closed [] d ≡ d
unfolding closed
closed-none d = refl

pub closed-last : (places : List ℕ) (place : ℕ) (d : Written) → closed (places ++ place ∷ []) d ≡ closed places (shut place d)
unfolding closed
closed-last [] place d = refl
closed-last (a ∷ more) place d = ap (shut a) (closed-last more place d)

pub ruleset closes = (shut-is, closed-none, closed-last)

pub every-none : (plan : Plan) (d : Written) → emitted plan (every_of []) d ≡ put (Push (pos 1)) d
every-none plan d = emitted-constant plan _ d

pub every-on : (plan : Plan) (t : Tested) (more : List Tested) (d : Written) →
    emitted plan (every_of (t ∷ more)) d
    ≡ shut (length (opened plan t d).instrs - 1) (emitted plan (every_of more) (opened plan t d))
unfolding opened shut
every-on plan t more d =
    emitted-choice plan t.of_pointer t.e (every_of more) number_zero d
    ∙ ap (ended _) (emitted-constant plan _ _)

pub ruleset everies = (closed-none, closed-last, every-none, every-on)

pub any-none : (plan : Plan) (d : Written) → emitted plan (any_of []) d ≡ put (Push (pos 0)) d
any-none plan d = emitted-constant plan _ d

pub any-on : (plan : Plan) (t : Tested) (more : List Tested) (d : Written) →
    emitted plan (any_of (t ∷ more)) d
    ≡ ended (length (put (Push (pos 1)) (opened plan t d)).instrs ∷ [])
    (emitted plan (any_of more) (turned (length (opened plan t d).instrs - 1) (put (Push (pos 1)) (opened plan t d))))
unfolding opened
any-on plan t more d =
    emitted-choice plan t.of_pointer t.e number_one (any_of more) d
    ∙ ap (λ x. ended (length x.instrs ∷ []) (emitted plan (any_of more) (turned (length (tested plan t.of_pointer (emitted plan t.e d)).instrs - 1) x)))
    (emitted-constant plan _ _)

pub ruleset anies = (ended-none, ended-last, any-none, any-on)
