-- Lists of points stand in order: each point at its number, and each site behind those before it.
use Rattle.std.proofs.Common.{◌≡◌, ◌⊎◌, inl, inr, ⊎_elim, ℕ, zero, suc, ◌+◌, ◌<◌, ◌≤◌, List, [], ◌∷◌, ◌++◌, length, Option, Some, None, slice_get, refl, sym, ap, ◌∙◌, subst, arith}
use Rattle.std.specs.Prelude.{filter_map, map, sum_by}
use Rattle.std.specs.List.{cons_option}
use Rattle.std.specs.Option.{option_map_or}
use Rattle.std.proofs.Math.Nat.{eq-or-lt_of_le}
use Rattle.std.proofs.lemmas.List.Sums.{sum_by-cons}
use Rattle.sc_core.specs.declared.operation.Operation.{Operation}
use Rattle.sc_core.specs.declared.operation.Operation.TheVariants as op
use Rattle.sc_core.specs.declared.operation.Action.{Action}
use Rattle.sc_core.specs.declared.operation.Action.TheVariants as acts
use Rattle.sc_core.specs.Core.{Core, constant, step, choice, update, Arguments, none, argument, Does, nothing, break, continue, then_, act, choose, loop, return, Function, Program}
use Rattle.sc_meaning.specs.Points.{one_if_some, size, sizes, size_of}
use Rattle.site_graph.specs.declared.point.PointKind.{PointKind}
use Rattle.site_graph.specs.declared.point.PointKind.TheVariants.{Start, Plain, Access, Return}
use Rattle.site_graph.specs.declared.site.Site.{Site}
use Rattle.flow_form.specs.Within.{Within, Placed}
use Rattle.flow_form.specs.Accesses.{accesses, accesses_all, accesses_by, accesses_by_action, accesses_back, accesses_in}
use Rattle.flow_form.specs.Occurring.{mark, occurring}
use Rattle.flow_form.specs.Exits.{behind, exits, fetched, fetched_by, leaves}
use Rattle.flow_form.specs.Steps.{callee_of, kind_of, kind_of_action, site_of, site_of_action, bare, step_at, action_at}
use Rattle.flow_form.specs.Expressions.{points, points_all, points_back, test_at}
use Rattle.flow_form.specs.Statements.{points_in, points_of, in_loop}
use Rattle.flow_form.specs.FlowOf.{points_from, start, within, returns}
use Rattle.flow_form.proofs.Rises.{Each}
use Rattle.flow_form.specs.Laws.{PointsStandInOrder, SitesAreTheAccesses}

-- no access, and no start
abbrev pub IsQuiet : PointKind → Type 0
IsQuiet Start = ⊥
IsQuiet (Access number) = ⊥
IsQuiet _ = Unit {0}

-- a site that has this number of sites before it is that of its point
abbrev pub IsCounted : (s : ℕ) → Option Site → PointKind → Type 0
IsCounted s (Some site) kind = kind ≡ Access (suc s)
IsCounted s None kind = IsQuiet kind

abbrev pub one_site : Option Site → ℕ
one_site None = 0
one_site (Some site) = 1

-- from the point k, with s sites before it, to the point l, with t sites before
abbrev pub Runs : List Placed → (k s l t : ℕ) → Type 0
Runs [] k s l t = (k ≡ l) × (s ≡ t)
Runs (p ∷ ps) k s l t = (p.at ≡ k) × IsCounted s p.site p.point.kind × Runs ps (k + 1) (s + one_site p.site) l t

pub joined : (ps qs : List Placed) (k s l t m u : ℕ) → Runs ps k s l t → Runs qs l t m u → Runs (ps ++ qs) k s m u
joined [] qs k s l t m u h i = subst (λ a. Runs qs a s m u) (sym h.0) (subst (λ a. Runs qs l a m u) (sym h.1) i)
joined (p ∷ ps) qs k s l t m u h i = (h.0, h.1, joined ps qs (k + 1) (s + one_site p.site) l t m u h.2 i)

pub ending : (ps : List Placed) (k s l t l' t' : ℕ) → l ≡ l' → t ≡ t' → Runs ps k s l t → Runs ps k s l' t'
ending ps k s l t l' t' c d h = subst (λ x. Runs ps k s x t') c (subst (λ x. Runs ps k s l x) d h)

pub beginning : (ps : List Placed) (k s k' s' l t : ℕ) → k ≡ k' → s ≡ s' → Runs ps k s l t → Runs ps k' s' l t
beginning ps k s k' s' l t a b h = subst (λ x. Runs ps x s' l t) a (subst (λ x. Runs ps k x l t) b h)

-- ---- single steps; from where they are entered, and what they take and read, says nothing of numbers

step_counted : (w : Within) (operation : Operation) (arguments : Arguments) (line s : ℕ)
    → IsCounted s (site_of w operation arguments line) (kind_of operation (suc s))
step_counted w op.Read arguments line s = refl
step_counted w op.Write arguments line s = refl
step_counted w (op.Call f n) arguments line s = tt
step_counted w operation arguments line s = tt

step_sites : (w : Within) (operation : Operation) (arguments : Arguments) (line : ℕ)
    → one_site (site_of w operation arguments line) ≡ accesses_by operation
step_sites w op.Read arguments line = refl
step_sites w op.Write arguments line = refl
step_sites w operation arguments line = refl

action_counted : (w : Within) (action : Action) (arguments : Arguments) (line s : ℕ)
    → IsCounted s (site_of_action w action arguments line) (kind_of_action action (suc s))
action_counted w (acts.Fill x) arguments line s = refl
action_counted w (acts.Get x) arguments line s = refl
action_counted w acts.Put arguments line s = refl
action_counted w acts.Send arguments line s = refl
action_counted w (acts.Copy mode) arguments line s = refl
action_counted w action arguments line s = tt

action_sites : (w : Within) (action : Action) (arguments : Arguments) (line : ℕ)
    → one_site (site_of_action w action arguments line) ≡ accesses_by_action action
action_sites w (acts.Fill x) arguments line = refl
action_sites w (acts.Get x) arguments line = refl
action_sites w acts.Put arguments line = refl
action_sites w acts.Send arguments line = refl
action_sites w (acts.Copy mode) arguments line = refl
action_sites w action arguments line = refl

module _ (w : Within) where
  step_runs : (operation : Operation) (arguments : Arguments) (line t s : ℕ)
      → Runs (step_at w operation arguments line t s [] [] [] ∷ []) t s (t + 1) (s + accesses_by operation)
  step_runs operation arguments line t s =
      (refl, step_counted w operation arguments line s, (refl, ap (λ n. s + n) (step_sites w operation arguments line)))

  action_runs : (action : Action) (arguments : Arguments) (line t s : ℕ)
      → Runs (action_at w action arguments line t s [] [] [] ∷ []) t s (t + 1) (s + accesses_by_action action)
  action_runs action arguments line t s =
      (refl, action_counted w action arguments line s, (refl, ap (λ n. s + n) (action_sites w action arguments line)))

  -- a point that is no access
  bare_runs : (kind : PointKind) → IsQuiet kind → (t s : ℕ) → Runs (bare w kind t [] [] [] ∷ []) t s (t + 1) s
  bare_runs kind q t s = (refl, q, (refl, omega arith))

  -- ---- expressions

  back_runs : (undo : Option Operation) (line t s : ℕ) (reads : List ℕ)
      → Runs (points_back w undo line t s reads) (t + 1) s (t + 1 + one_if_some undo) (s + accesses_back undo)
  back_runs None line t s reads = (omega arith, omega arith)
  back_runs (Some operation) line t s reads = step_runs operation none line (t + 1) s

  mutual
    pub runs : (e : Core) (k s : ℕ) (froms : List ℕ) → Runs (points w e k s froms) k s (k + size e) (s + accesses e)
    runs (constant c) k s froms = (omega arith, omega arith)
    runs (step operation arguments line) k s froms =
        ending _ k s (k + sizes arguments + 1) (s + accesses_all arguments + accesses_by operation) _ _ (omega arith) (omega arith)
        (joined (points_all w arguments k s froms) _ k s _ _ _ _ (runs_all arguments k s froms)
        (step_runs operation arguments line (k + sizes arguments) (s + accesses_all arguments)))
    runs (choice of_pointer test on off) k s froms =
        let t = k + size test in
        let s' = s + accesses test in
        let ons = points w on (t + 1) s' (t ∷ []) in
        let offs = points w off (t + 1 + size on) (s' + accesses on) (t ∷ []) in
        let tests = test_at w test k s froms in
        ending _ k s (t + 1 + size on + size off) (s' + accesses on + accesses off) _ _ (omega arith) (omega arith)
        (joined (points w test k s froms ++ (tests ∷ ons)) offs k s _ _ _ _
        (joined (points w test k s froms) (tests ∷ ons) k s t s' _ _ (runs test k s froms)
        (joined (tests ∷ []) ons t s' (t + 1) s' _ _ (bare_runs Plain tt t s') (runs on (t + 1) s' (t ∷ []))))
        (runs off (t + 1 + size on) (s' + accesses on) (t ∷ [])))
    runs (update pointer operation right undo line) k s froms =
        let t = k + size pointer in
        let u = t + 1 + size right in
        let read = s + accesses pointer in
        let join = read + 1 + accesses right in
        let write = join + accesses_by operation in
        let place = argument pointer none in
        let reads = occurring w.params (update pointer operation right undo line) in
        let reading = step_at w op.Read place line t read (exits w.returns pointer k froms) (fetched pointer s)
        (occurring w.params pointer ++ mark) in
        let rights = points w right (t + 1) (read + 1) (t ∷ []) in
        let joining = step_at w operation none line u join (exits w.returns right (t + 1) (t ∷ []))
        (suc read ∷ fetched right (read + 1)) reads in
        let writing = step_at w op.Write place line (u + 1) write (behind w.returns (callee_of operation) u)
        (fetched pointer s ++ fetched_by operation join) reads in
        let backs = points_back w undo line (u + 1) (write + 1) reads in
        ending _ k s (u + 1 + 1 + one_if_some undo) (write + 1 + accesses_back undo) _ _ (omega arith) (omega arith)
        (joined (points w pointer k s froms ++ (reading ∷ rights)) (joining ∷ writing ∷ backs) k s u join _ _
        (joined (points w pointer k s froms) (reading ∷ rights) k s t read _ _ (runs pointer k s froms)
        (joined (reading ∷ []) rights t read (t + 1) (read + 1) _ _ (step_runs op.Read place line t read)
        (runs right (t + 1) (read + 1) (t ∷ []))))
        (joined (joining ∷ []) (writing ∷ backs) u join (u + 1) write _ _ (step_runs operation none line u join)
        (joined (writing ∷ []) backs (u + 1) write (u + 1 + 1) (write + 1) _ _
        (step_runs op.Write place line (u + 1) write)
        (back_runs undo line (u + 1) (write + 1) reads))))

    pub runs_all : (arguments : Arguments) (k s : ℕ) (froms : List ℕ)
        → Runs (points_all w arguments k s froms) k s (k + sizes arguments) (s + accesses_all arguments)
    runs_all none k s froms = (omega arith, omega arith)
    runs_all (argument e more) k s froms =
        ending _ k s (k + size e + sizes more) (s + accesses e + accesses_all more) _ _ (omega arith) (omega arith)
        (joined (points w e k s froms) _ k s _ _ _ _ (runs e k s froms) (runs_all more (k + size e) (s + accesses e) _))

-- ---- statements

pub runs_in : (w : Within) (d : Does) (k s : ℕ) (froms : List ℕ) → Runs (points_in w d k s froms) k s (k + size_of d) (s + accesses_in d)
runs_in w nothing k s froms = (omega arith, omega arith)
runs_in w break k s froms = (omega arith, omega arith)
runs_in w continue k s froms = (omega arith, omega arith)
runs_in w (then_ first second) k s froms =
    ending _ k s (k + size_of first + size_of second) (s + accesses_in first + accesses_in second) _ _ (omega arith) (omega arith)
    (joined (points_in w first k s froms) _ k s _ _ _ _ (runs_in w first k s froms)
    (runs_in w second (k + size_of first) (s + accesses_in first) _))
runs_in w (act action arguments line) k s froms =
    ending _ k s (k + sizes arguments + 1) (s + accesses_all arguments + accesses_by_action action) _ _ (omega arith) (omega arith)
    (joined (points_all w arguments k s froms) _ k s _ _ _ _ (runs_all w arguments k s froms)
    (action_runs w action arguments line (k + sizes arguments) (s + accesses_all arguments)))
runs_in w (choose of_pointer test on off) k s froms =
    let t = k + size test in
    let s' = s + accesses test in
    let ons = points_in w on (t + 1) s' (t ∷ []) in
    let offs = points_in w off (t + 1 + size_of on) (s' + accesses_in on) (t ∷ []) in
    let tests = test_at w test k s froms in
    ending _ k s (t + 1 + size_of on + size_of off) (s' + accesses_in on + accesses_in off) _ _ (omega arith) (omega arith)
    (joined (points w test k s froms ++ (tests ∷ ons)) offs k s _ _ _ _
    (joined (points w test k s froms) (tests ∷ ons) k s t s' _ _ (runs w test k s froms)
    (joined (tests ∷ []) ons t s' (t + 1) s' _ _ (bare_runs w Plain tt t s') (runs_in w on (t + 1) s' (t ∷ []))))
    (runs_in w off (t + 1 + size_of on) (s' + accesses_in on) (t ∷ [])))
runs_in w (loop mine before body after) k s froms =
    let t = k + size_of before in
    let u = t + 1 + size_of body in
    let s' = s + accesses_in before in
    let from_body = leaves w.returns body (t + 1) (t ∷ []) in
    let into_after = from_body.falls ++ from_body.continues in
    let into_before = froms ++ (leaves w.returns after u into_after).falls in
    let befores = points_in w before k s into_before in
    let turning = bare w Plain t (leaves w.returns before k into_before).falls [] [] in
    let bodies = points_in (in_loop w mine before body) body (t + 1) s' (t ∷ []) in
    let afters = points_in w after u (s' + accesses_in body) into_after in
    ending _ k s (u + size_of after) (s' + accesses_in body + accesses_in after) _ _ (omega arith) (omega arith)
    (joined (befores ++ (turning ∷ bodies)) afters k s u (s' + accesses_in body) _ _
    (joined befores (turning ∷ bodies) k s t s' _ _ (runs_in w before k s into_before)
    (joined (turning ∷ []) bodies t s' (t + 1) s' _ _ (bare_runs w Plain tt t s')
    (runs_in (in_loop w mine before body) body (t + 1) s' (t ∷ []))))
    (runs_in w after u (s' + accesses_in body) into_after))
runs_in w (return e line) k s froms =
    ending _ k s (k + size e + 1) (s + accesses e) _ _ (omega arith) (omega arith)
    (joined (points w e k s froms) _ k s _ _ _ _ (runs w e k s froms) (bare_runs w Return tt (k + size e) (s + accesses e)))

-- ---- functions

pub runs_of : (w : Within) (f : Function) (k s : ℕ) → Runs (points_of w f k s) k s (k + size_of f.body + 2) (s + accesses_in f.body)
runs_of w f k s =
    let m = k + 1 + size_of f.body in
    let n = s + accesses_in f.body in
    let bodies = points_in w f.body (k + 1) s (k ∷ []) in
    let entered = bare w Plain k [] [] [] in
    let ended = bare w Return m (leaves w.returns f.body (k + 1) (k ∷ [])).falls [] [] in
    ending (points_of w f k s) k s (m + 1) n (k + size_of f.body + 2) n (omega arith) refl
    (joined (entered ∷ bodies) (ended ∷ []) k s m n (m + 1) n
    (joined (entered ∷ []) bodies k s (k + 1) s m n (bare_runs w Plain tt k s) (runs_in w f.body (k + 1) s (k ∷ [])))
    (bare_runs w Return tt m n))

-- the point behind the functions, the first of which begins here
abbrev pub last_from : (k : ℕ) → List Function → ℕ
last_from k [] = k
last_from k (f ∷ more) = last_from (k + size_of f.body + 2) more

abbrev pub sites_from : (s : ℕ) → List Function → ℕ
sites_from s [] = s
sites_from s (f ∷ more) = sites_from (s + accesses_in f.body) more

pub last_after : (k : ℕ) (functions : List Function) → k ≤ last_from k functions
last_after k [] = omega arith
last_after k (f ∷ more) = let h = last_after (k + size_of f.body + 2) more in omega arith

pub sites_after : (s : ℕ) (functions : List Function) → s ≤ sites_from s functions
sites_after s [] = omega arith
sites_after s (f ∷ more) = let h = sites_after (s + accesses_in f.body) more in omega arith

pub runs_from : (nodes : ℕ) (returns : ℕ → List ℕ) (n k s : ℕ) (functions : List Function)
    → Runs (points_from nodes returns n k s functions) k s (last_from k functions) (sites_from s functions)
runs_from nodes returns n k s [] = (refl, refl)
runs_from nodes returns n k s (f ∷ more) =
    let l = k + size_of f.body + 2 in
    let t = s + accesses_in f.body in
    let w = within nodes returns n f in
    joined (points_of w f k s) (points_from nodes returns (suc n) l t more) k s l t (last_from l more) (sites_from t more)
    (runs_of w f k s) (runs_from nodes returns (suc n) l t more)

-- ---- the whole

abbrev pub total_points : Program → ℕ
total_points program = last_from 1 program.functions

pub runs_behind : (nodes : ℕ) (program : Program)
    → Runs (points_from nodes (returns program.functions) 0 1 0 program.functions) 1 0 (total_points program) (sites_from 0 program.functions)
runs_behind nodes program = runs_from nodes (returns program.functions) 0 1 0 program.functions

pub all_sites : (s : ℕ) (functions : List Function) → sites_from s functions ≡ s + sum_by (λ f. accesses_in f.body) functions
all_sites s [] = omega arith
all_sites s (f ∷ more) =
    let h = all_sites (s + accesses_in f.body) more in
    let e = sum_by-cons (λ (g : Function). accesses_in g.body) f more in
    omega arith

-- ---- what follows of such a list

pub at_of : (ps : List Placed) (k s l t i : ℕ) (p : Placed) → Runs ps k s l t → slice_get ps i ≡ Some p → p.at ≡ k + i
at_of [] k s l t i p h e = absurd cc
at_of (q ∷ ps) k s l t zero p h e =
    let same : q ≡ p = cc in
    let e1 : p.at ≡ k = subst (λ (r : Placed). r.at ≡ k) same h.0 in
    omega arith
at_of (q ∷ ps) k s l t (suc i) p h e =
    let r = at_of ps (k + 1) (s + one_site q.site) l t i p h.2 e in omega arith

pub long : (ps : List Placed) (k s l t : ℕ) → Runs ps k s l t → k + length ps ≡ l
long [] k s l t h = let e = h.0 in omega arith
long (p ∷ ps) k s l t h = let r = long ps (k + 1) (s + one_site p.site) l t h.2 in omega arith

-- each is below the number behind the last
pub at_below : (ps : List Placed) (k s l t : ℕ) → Runs ps k s l t → Each (λ p. p.at < l) ps
at_below [] k s l t h = tt
at_below (p ∷ ps) k s l t h =
    let e = h.0 in
    let r = long ps (k + 1) (s + one_site p.site) l t h.2 in
    (omega arith, at_below ps (k + 1) (s + one_site p.site) l t h.2)

one_more : (o : Option Site) (rest : List Site) → length (cons_option o rest) ≡ one_site o + length rest
one_more None rest = omega arith
one_more (Some x) rest = omega arith

abbrev pub sites_in : List Placed → List Site
sites_in ps = filter_map (λ p. p.site) ps

pub sites_long : (ps : List Placed) (k s l t : ℕ) → Runs ps k s l t → s + length (sites_in ps) ≡ t
sites_long [] k s l t h = let e = h.1 in omega arith
sites_long (p ∷ ps) k s l t h =
    let r = sites_long ps (k + 1) (s + one_site p.site) l t h.2 in
    let e = one_more p.site (sites_in ps) in
    omega arith

-- ---- kinds

-- what the point at this place does
abbrev pub kind_in : List Placed → ℕ → PointKind
kind_in ps i = option_map_or (λ p. p.kind) (slice_get (map (λ p. p.point) ps) i) Plain

counted_start : (s : ℕ) (o : Option Site) (kind : PointKind) → IsCounted s o kind → kind ≡ Start → ⊥
counted_start s None kind h e = subst IsQuiet e h
counted_start s (Some site) kind h e = cc

counted_access : (s number : ℕ) (o : Option Site) (kind : PointKind) → IsCounted s o kind → kind ≡ Access number
    → (number ≡ suc s) × (one_site o ≡ 1)
counted_access s number None kind h e = absurd (subst IsQuiet e h)
counted_access s number (Some site) kind h e = (cc, refl)

pub none_starts : (ps : List Placed) (k s l t i : ℕ) → Runs ps k s l t → kind_in ps i ≡ Start → ⊥
none_starts [] k s l t i h e = cc
none_starts (p ∷ ps) k s l t zero h e = counted_start s p.site p.point.kind h.1 e
none_starts (p ∷ ps) k s l t (suc i) h e = none_starts ps (k + 1) (s + one_site p.site) l t i h.2 e

pub numbered : (ps : List Placed) (k s l t i number : ℕ) → Runs ps k s l t → kind_in ps i ≡ Access number
    → (s < number) × (number ≤ t)
numbered [] k s l t i number h e = absurd cc
numbered (p ∷ ps) k s l t zero number h e =
    let c = counted_access s number p.site p.point.kind h.1 e in
    let n = c.0 in
    let o = c.1 in
    let more = sites_long ps (k + 1) (s + one_site p.site) l t h.2 in
    (omega arith, omega arith)
numbered (p ∷ ps) k s l t (suc i) number h e =
    let r = numbered ps (k + 1) (s + one_site p.site) l t i number h.2 e in
    let a = r.0 in
    let b = r.1 in
    (omega arith, omega arith)

here_or_later : (s number : ℕ) (o : Option Site) (kind : PointKind) → IsCounted s o kind → s < number
    → (kind ≡ Access number) ⊎ (s + one_site o < number)
here_or_later s number None kind h lt = inr (omega arith)
here_or_later s number (Some site) kind h lt =
    ⊎_elim (λ e. inl (h ∙ ap Access e)) (λ l. inr (omega arith)) (eq-or-lt_of_le {n = suc s} {m = number} (omega arith))

-- each number has a point,
pub has_point : (ps : List Placed) (k s l t number : ℕ) → Runs ps k s l t → s < number → number ≤ t
    → (i : ℕ) × (kind_in ps i ≡ Access number)
has_point [] k s l t number h lt le = let e = h.1 in absurd (omega arith)
has_point (p ∷ ps) k s l t number h lt le =
    ⊎_elim (λ e. (0, e)) (λ l'. let r = has_point ps (k + 1) (s + one_site p.site) l t number h.2 l' le in (suc r.0, r.1))
    (here_or_later s number p.site p.point.kind h.1 lt)

-- and no second one
pub one_point : (ps : List Placed) (k s l t number i j : ℕ) → Runs ps k s l t → kind_in ps i ≡ Access number
    → kind_in ps j ≡ Access number → i ≡ j
one_point [] k s l t number i j h a b = absurd cc
one_point (p ∷ ps) k s l t number zero zero h a b = refl
one_point (p ∷ ps) k s l t number zero (suc j) h a b =
    let c = counted_access s number p.site p.point.kind h.1 a in
    let n = c.0 in
    let o = c.1 in
    let r = numbered ps (k + 1) (s + one_site p.site) l t j number h.2 b in
    let m = r.0 in
    absurd (omega arith)
one_point (p ∷ ps) k s l t number (suc i) zero h a b =
    let c = counted_access s number p.site p.point.kind h.1 b in
    let n = c.0 in
    let o = c.1 in
    let r = numbered ps (k + 1) (s + one_site p.site) l t i number h.2 a in
    let m = r.0 in
    absurd (omega arith)
one_point (p ∷ ps) k s l t number (suc i) (suc j) h a b =
    ap suc (one_point ps (k + 1) (s + one_site p.site) l t number i j h.2 a b)

pub points_stand_in_order : PointsStandInOrder
points_stand_in_order nodes zero program p e =
    let same : start program ≡ p = cc in ap (λ (q : Placed). q.at) (sym same)
points_stand_in_order nodes (suc t) program p e =
    let h = at_of (points_from nodes (returns program.functions) 0 1 0 program.functions) 1 0 _ _ t p (runs_behind nodes program) e in
    omega arith

pub sites_are_the_accesses : SitesAreTheAccesses
sites_are_the_accesses nodes program =
    let h = sites_long (points_from nodes (returns program.functions) 0 1 0 program.functions) 1 0 _ _ (runs_behind nodes program) in
    let e = all_sites 0 program.functions in
    omega arith
