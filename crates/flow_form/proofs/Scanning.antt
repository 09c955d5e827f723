-- What statements and functions add to a scan, one form at a time.
use Rattle.std.proofs.Common.{◌≡◌, refl, sym, ap, ◌∙◌, ℕ, ◌+◌, Bool, List, [], ◌∷◌, ◌++◌, Option, Some, None, arith, append_assoc}
use Rattle.std.proofs.lemmas.List.{append-nil}
use Rattle.sc_core.specs.declared.operation.Action.{Action}
use Rattle.sc_core.specs.Core.{Core, Arguments, Does, nothing, break, continue, then_, act, choose, loop, return, Function}
use Rattle.sc_core.specs.ViewStatements.{Armed, block_of, chosen}
use Rattle.sc_meaning.specs.Points.{size, sizes, size_of}
use Rattle.flow_form.specs.declared.count.Count.{Count}
use Rattle.flow_form.specs.declared.scan.Scan.{Scan}
use Rattle.flow_form.specs.declared.scan.Whole.{Whole}
use Rattle.flow_form.specs.Accesses.{accesses, accesses_all, accesses_by_action, accesses_in}
use Rattle.flow_form.specs.Exits.{returns_in}
use Rattle.flow_form.specs.Counts.{with_more, counted, counted_all, counted_in}
use Rattle.flow_form.specs.Scans.{scanned, scan_more, scan_value, scan_values, scan_returns, scan_block, scan_arm, scan_arms, scan_from, function_scan, with_entry, with_function, with_functions, whole_of}

abbrev Scan_at : (points sites : ℕ) → (returns : List ℕ) → Scan
Scan_at points sites returns = record { count = record { points = points; sites = sites }; returns = returns }

scan_same : (p q s t : ℕ) (xs ys : List ℕ) → p ≡ q → s ≡ t → xs ≡ ys → Scan_at p s xs ≡ Scan_at q t ys
scan_same p q s t xs ys e f g = ap (λ n. Scan_at n s xs) e ∙ ap (λ n. Scan_at q n xs) f ∙ ap (Scan_at q t) g

no_points : (s : Scan) → Scan_at (s.count.points + 0) (s.count.sites + 0) (s.returns ++ []) ≡ s
no_points s = scan_same (s.count.points + 0) s.count.points (s.count.sites + 0) s.count.sites (s.returns ++ []) s.returns
    (omega arith) (omega arith) (append-nil s.returns)

pub scanned-nothing : (s : Scan) → scanned nothing s ≡ s
unfolding scanned counted_in with_more
scanned-nothing s = no_points s

pub scanned-break : (s : Scan) → scanned break s ≡ s
unfolding scanned counted_in with_more
scanned-break s = no_points s

pub scanned-continue : (s : Scan) → scanned continue s ≡ s
unfolding scanned counted_in with_more
scanned-continue s = no_points s

pub scanned-then : (first second : Does) (s : Scan) → scanned (then_ first second) s ≡ scanned second (scanned first s)
unfolding scanned counted_in with_more
scanned-then first second s =
    scan_same _ _ _ _ _ _ (omega arith) (omega arith) (sym (append_assoc s.returns (returns_in first s.count.points) _))

pub scanned-act : (action : Action) (arguments : Arguments) (line : ℕ) (s : Scan) →
    scanned (act action arguments line) s ≡ scan_more 1 (accesses_by_action action) (scan_values arguments s)
unfolding scanned counted_in with_more scan_more scan_values counted_all
scanned-act action arguments line s = scan_same _ _ _ _ (s.returns ++ []) s.returns (omega arith) (omega arith) (append-nil s.returns)

pub scanned-choose : (of_pointer : Bool) (test : Core) (on off : Does) (s : Scan) →
    scanned (choose of_pointer test on off) s ≡ scanned off (scanned on (scan_more 1 0 (scan_value test s)))
unfolding scanned counted_in with_more scan_more scan_value counted
scanned-choose of_pointer test on off s =
    let k = s.count.points + size test + 1 in
    scan_same _ _ _ _ _ _ (omega arith) (omega arith) (sym (append_assoc s.returns (returns_in on k) (returns_in off (k + size_of on))))

pub scanned-loop : (mine : Option ℕ) (before body after : Does) (s : Scan) →
    scanned (loop mine before body after) s ≡ scanned after (scanned body (scan_more 1 0 (scanned before s)))
unfolding scanned counted_in with_more scan_more
scanned-loop mine before body after s =
    let k = s.count.points in
    let t = k + size_of before in
    let a = returns_in before k in
    let b = returns_in body (t + 1) in
    let c = returns_in after (t + 1 + size_of body) in
    scan_same _ _ _ _ (s.returns ++ ((a ++ b) ++ c)) (((s.returns ++ a) ++ b) ++ c) (omega arith) (omega arith)
    (sym (append_assoc s.returns (a ++ b) c) ∙ ap (λ xs. xs ++ c) (sym (append_assoc s.returns a b)))

pub scanned-return : (e : Core) (line : ℕ) (s : Scan) →
    scanned (return e line) s ≡ scan_more 1 0 (scan_returns (scan_value e s))
unfolding scanned counted_in with_more scan_more scan_returns scan_value counted
scanned-return e line s = scan_same _ _ _ _ _ _ (omega arith) (omega arith) refl

-- ---- lists

pub block-none : (s : Scan) → scan_block [] s ≡ s
unfolding scan_block
block-none s = refl

pub block-on : (d : Does) (more : List Does) (s : Scan) → scan_block (d ∷ more) s ≡ scan_block more (scanned d s)
unfolding scan_block
block-on d more s = refl

pub scanned-block : (all : List Does) (s : Scan) → scanned (block_of all) s ≡ scan_block all s
unfolding scan_block
scanned-block [] s = scanned-nothing s
scanned-block (d ∷ more) s = scanned-then d (block_of more) s ∙ scanned-block more (scanned d s)

pub arms-none : (s : Scan) → scan_arms [] s ≡ s
unfolding scan_arms
arms-none s = refl

pub arms-on : (a : Armed) (more : List Armed) (s : Scan) → scan_arms (a ∷ more) s ≡ scan_arms more (scan_arm a s)
unfolding scan_arms
arms-on a more s = refl

pub scanned-chosen : (arms : List Armed) (rest : Does) (s : Scan) → scanned (chosen arms rest) s ≡ scanned rest (scan_arms arms s)
unfolding scan_arms scan_arm
scanned-chosen [] rest s = refl
scanned-chosen (a ∷ more) rest s =
    scanned-choose a.of_pointer a.test a.body (chosen more rest) s
    ∙ scanned-chosen more rest (scanned a.body (scan_more 1 0 (scan_value a.test s)))

pub ruleset forms = (scanned-nothing, scanned-break, scanned-continue, scanned-act, scanned-loop, scanned-return, scanned-block, scanned-chosen)

pub ruleset chains = (block-none, block-on, arms-none, arms-on)

-- ---- functions

pub function-is : (f : Function) (c : Count) →
    function_scan f c ≡ scan_more 1 0 (scan_returns (scanned f.body (scan_more 1 0 (scan_from c))))
unfolding scanned counted_in with_more scan_more scan_returns function_scan scan_from
function-is f c = scan_same _ _ _ _ _ _ (omega arith) (omega arith) refl

pub with-is : (f : Function) (w : Whole) → with_function f w ≡ with_entry w.count.points (function_scan f w.count) w
unfolding with_function
with-is f w = refl

pub ruleset functions = (function-is, with-is)

pub withs-none : (w : Whole) → with_functions [] w ≡ w
unfolding with_functions
withs-none w = refl

pub withs-on : (f : Function) (more : List Function) (w : Whole) → with_functions (f ∷ more) w ≡ with_functions more (with_function f w)
unfolding with_functions
withs-on f more w = refl

pub whole-is : (functions : List Function) →
    with_functions functions (record { entries = []; count = record { points = 1; sites = 0 } }) ≡ whole_of functions
unfolding whole_of
whole-is functions = refl

pub ruleset wholes = (withs-none, withs-on, whole-is)
