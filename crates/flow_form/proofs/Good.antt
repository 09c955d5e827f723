-- What each point of a flow keeps: it is entered from points of the flow, it takes sites of the flow in rising order, and
-- the locals that it reads rise.
use Rattle.std.proofs.Common.{◌≡◌, ℕ, suc, ◌+◌, ◌<◌, ◌≤◌, List, [], ◌∷◌, ◌++◌, true, Option, Some, None, arith}
use Rattle.std.specs.Prelude.{ltb}
use Rattle.std.proofs.lemmas.Bool.{lt-ltb}
use Rattle.sc_core.specs.declared.operation.Operation.{Operation}
use Rattle.sc_core.specs.declared.operation.Operation.TheVariants as op
use Rattle.sc_core.specs.Core.{Core, constant, step, choice, update, Arguments, none, argument, Does, nothing, break, continue, then_, act, choose, loop, return, Function}
use Rattle.sc_meaning.specs.Points.{one_if_some, size, sizes, size_of}
use Rattle.site_graph.specs.declared.point.PointKind.{PointKind}
use Rattle.site_graph.specs.declared.point.PointKind.TheVariants.{Plain, Return}
use Rattle.flow_form.specs.Within.{Within, Placed}
use Rattle.flow_form.specs.Accesses.{accesses, accesses_all, accesses_by, accesses_back, accesses_in}
use Rattle.flow_form.specs.Occurring.{mark, occurring, occurring_all, occurring_by}
use Rattle.flow_form.specs.Exits.{behind, behind_back, exits, exits_all, fetched, fetched_all, fetched_by, fetched_back, Left, leaves, returns_in}
use Rattle.flow_form.specs.Steps.{callee_of, fetched_into, bare, step_at}
use Rattle.flow_form.specs.Expressions.{points, points_all, points_back, test_at}
use Rattle.flow_form.specs.Statements.{points_in, points_of, in_loop}
use Rattle.flow_form.specs.FlowOf.{points_from, within, returns}
use Rattle.flow_form.proofs.Rises.{Each, each_append, each_weaker, Rises, rises_rising, numbers_follow}
use Rattle.site_graph.specs.Rising.{rising}
use Rattle.flow_form.proofs.Run.{last_from, last_after, sites_from, sites_after}

-- ---- sites that may be taken, between two numbers

-- a rising list of numbers above a and up to b
abbrev pub Climbs : (a b : ℕ) → List ℕ → Type 0
Climbs a b [] = a ≤ b
Climbs a b (x ∷ xs) = (a < x) × Climbs x b xs

pub climbs_on : (a b c : ℕ) (xs ys : List ℕ) → Climbs a b xs → Climbs b c ys → Climbs a c (xs ++ ys)
climbs_on a b c [] ys h k = lower a b c ys h k
  where
    lower : (a b c : ℕ) (ys : List ℕ) → a ≤ b → Climbs b c ys → Climbs a c ys
    lower a b c [] le k = omega arith
    lower a b c (y ∷ ys) le k = let l = k.0 in (omega arith, k.1)
climbs_on a b c (x ∷ xs) ys h k = (h.0, climbs_on x b c xs ys h.1 k)

pub climbs_within : (a b c d : ℕ) (xs : List ℕ) → a ≤ b → c ≤ d → Climbs b c xs → Climbs a d xs
climbs_within a b c d [] l m k = omega arith
climbs_within a b c d (x ∷ xs) l m k = let n = k.0 in (omega arith, climbs_within x x c d xs (omega arith) m k.1)

pub climbs_above : (a b : ℕ) (xs : List ℕ) → Climbs a b xs → Each (λ n. (a < n) × (n ≤ b)) xs
climbs_above a b [] h = tt
climbs_above a b (x ∷ xs) h =
    let l = h.0 in
    let rest = climbs_above x b xs h.1 in
    ((l, top x b xs h.1), each_weaker (λ n. (x < n) × (n ≤ b)) (λ n. (a < n) × (n ≤ b)) xs (λ n p. let q = p.0 in (omega arith, p.1)) rest)
  where
    top : (a b : ℕ) (xs : List ℕ) → Climbs a b xs → a ≤ b
    top a b [] h = h
    top a b (x ∷ xs) h = let l = h.0 in let m = top x b xs h.1 in omega arith

pub climbs_rise : (a b : ℕ) (xs : List ℕ) → Climbs a b xs → Rises ltb xs
climbs_rise a b [] h = tt
climbs_rise a b (x ∷ xs) h =
    (each_weaker (λ n. (x < n) × (n ≤ b)) (λ n. ltb x n ≡ true) xs (λ n p. lt-ltb x n p.0) (climbs_above x b xs h.1), climbs_rise x b xs h.1)

by_climbs : (operation : Operation) (s : ℕ) → Climbs s (s + accesses_by operation) (fetched_by operation s)
by_climbs op.Read s = (omega arith, omega arith)
by_climbs operation s = omega arith

back_climbs : (undo : Option Operation) (s : ℕ) → Climbs s (s + accesses_back undo) (fetched_back undo s)
back_climbs None s = omega arith
back_climbs (Some operation) s = by_climbs operation s

mutual
  pub fetched_climbs : (e : Core) (s : ℕ) → Climbs s (s + accesses e) (fetched e s)
  fetched_climbs (constant c) s = omega arith
  fetched_climbs (step operation arguments line) s =
      climbs_within s (s + accesses_all arguments) (s + accesses_all arguments + accesses_by operation) _ (fetched_by operation (s + accesses_all arguments))
      (omega arith) (omega arith) (by_climbs operation (s + accesses_all arguments))
  fetched_climbs (choice of_pointer test on off) s =
      let t = s + accesses test in
      climbs_within s t (t + accesses on + accesses off) _ (fetched on t ++ fetched off (t + accesses on)) (omega arith) (omega arith)
      (climbs_on t (t + accesses on) (t + accesses on + accesses off) (fetched on t) (fetched off (t + accesses on))
      (fetched_climbs on t) (fetched_climbs off (t + accesses on)))
  fetched_climbs (update pointer operation right undo line) s =
      let t = s + accesses pointer + 1 + accesses right + accesses_by operation + 1 in
      climbs_within s t (t + accesses_back undo) _ (fetched_back undo t) (omega arith) (omega arith) (back_climbs undo t)

  pub fetched_all_climbs : (arguments : Arguments) (s : ℕ) → Climbs s (s + accesses_all arguments) (fetched_all arguments s)
  fetched_all_climbs none s = omega arith
  fetched_all_climbs (argument e more) s =
      climbs_within s s (s + accesses e + accesses_all more) _ (fetched e s ++ fetched_all more (s + accesses e)) (omega arith) (omega arith)
      (climbs_on s (s + accesses e) (s + accesses e + accesses_all more) (fetched e s) (fetched_all more (s + accesses e))
      (fetched_climbs e s) (fetched_all_climbs more (s + accesses e)))

-- ---- where evaluation goes on, below a number

abbrev pub Below : (n : ℕ) → List ℕ → Type 0
Below n xs = Each (λ x. x < n) xs

pub returns_in_below : (n : ℕ) (d : Does) (k : ℕ) → k + size_of d ≤ n → Below n (returns_in d k)
returns_in_below n nothing k le = tt
returns_in_below n break k le = tt
returns_in_below n continue k le = tt
returns_in_below n (act action arguments line) k le = tt
returns_in_below n (then_ first second) k le =
    each_append (λ x. x < n) (returns_in first k) _ (returns_in_below n first k (omega arith))
    (returns_in_below n second (k + size_of first) (omega arith))
returns_in_below n (choose of_pointer test on off) k le =
    each_append (λ x. x < n) (returns_in on (k + size test + 1)) _ (returns_in_below n on (k + size test + 1) (omega arith))
    (returns_in_below n off (k + size test + 1 + size_of on) (omega arith))
returns_in_below n (loop mine before body after) k le =
    let t = k + size_of before in
    each_append (λ x. x < n) (returns_in before k ++ returns_in body (t + 1)) (returns_in after (t + 1 + size_of body))
    (each_append (λ x. x < n) (returns_in before k) (returns_in body (t + 1)) (returns_in_below n before k (omega arith))
    (returns_in_below n body (t + 1) (omega arith)))
    (returns_in_below n after (t + 1 + size_of body) (omega arith))
returns_in_below n (return e line) k le = (omega arith, tt)

module _ (n : ℕ) (returns : ℕ → List ℕ) (few : (f : ℕ) → Below n (returns f)) where
  pub behind_below : (callee : Option ℕ) (t : ℕ) → t < n → Below n (behind returns callee t)
  behind_below None t lt = (lt, tt)
  behind_below (Some f) t lt = few f

  back_below : (undo : Option Operation) (t : ℕ) → t + one_if_some undo < n → Below n (behind_back returns undo t)
  back_below None t lt = (omega arith, tt)
  back_below (Some operation) t lt = behind_below (callee_of operation) (t + 1) lt

  mutual
    pub exits_below : (e : Core) (k : ℕ) (froms : List ℕ) → Below n froms → k + size e ≤ n → Below n (exits returns e k froms)
    exits_below (constant c) k froms h le = h
    exits_below (step operation arguments line) k froms h le = behind_below (callee_of operation) (k + sizes arguments) (omega arith)
    exits_below (choice of_pointer test on off) k froms h le =
        let t = k + size test in
        let one : Below n (t ∷ []) = (omega arith, tt) in
        each_append (λ x. x < n) (exits returns on (t + 1) (t ∷ [])) _ (exits_below on (t + 1) (t ∷ []) one (omega arith))
        (exits_below off (t + 1 + size on) (t ∷ []) one (omega arith))
    exits_below (update pointer operation right undo line) k froms h le =
        back_below undo (k + size pointer + 1 + size right + 1) (omega arith)

    pub exits_all_below : (arguments : Arguments) (k : ℕ) (froms : List ℕ) → Below n froms → k + sizes arguments ≤ n
        → Below n (exits_all returns arguments k froms)
    exits_all_below none k froms h le = h
    exits_all_below (argument e more) k froms h le =
        exits_all_below more (k + size e) (exits returns e k froms) (exits_below e k froms h (omega arith)) (omega arith)

  pub record LeftBelow (left : Left returns) : Type 0 where
    pub falls : Below n left.falls
    pub breaks : Below n left.breaks
    pub continues : Below n left.continues

  pub leaves_below : (d : Does) (k : ℕ) (froms : List ℕ) → Below n froms → k + size_of d ≤ n → LeftBelow (leaves returns d k froms)
  leaves_below nothing k froms h le = record { falls = h; breaks = tt; continues = tt }
  leaves_below break k froms h le = record { falls = tt; breaks = h; continues = tt }
  leaves_below continue k froms h le = record { falls = tt; breaks = tt; continues = h }
  leaves_below (then_ first second) k froms h le =
      let a = leaves returns first k froms in
      let ha = leaves_below first k froms h (omega arith) in
      let hb = leaves_below second (k + size_of first) a.falls ha.falls (omega arith) in
      record {
        falls = hb.falls;
        breaks = each_append (λ x. x < n) a.breaks _ ha.breaks hb.breaks;
        continues = each_append (λ x. x < n) a.continues _ ha.continues hb.continues;
      }
  leaves_below (act action arguments line) k froms h le =
      record { falls = (omega arith, tt); breaks = tt; continues = tt }
  leaves_below (choose of_pointer test on off) k froms h le =
      let t = k + size test in
      let one : Below n (t ∷ []) = (omega arith, tt) in
      let a = leaves returns on (t + 1) (t ∷ []) in
      let ha = leaves_below on (t + 1) (t ∷ []) one (omega arith) in
      let hb = leaves_below off (t + 1 + size_of on) (t ∷ []) one (omega arith) in
      record {
        falls = each_append (λ x. x < n) a.falls _ ha.falls hb.falls;
        breaks = each_append (λ x. x < n) a.breaks _ ha.breaks hb.breaks;
        continues = each_append (λ x. x < n) a.continues _ ha.continues hb.continues;
      }
  leaves_below (loop mine before body after) k froms h le =
      let t = k + size_of before in
      let u = t + 1 + size_of body in
      let one : Below n (t ∷ []) = (omega arith, tt) in
      let b = leaves returns body (t + 1) (t ∷ []) in
      let hb = leaves_below body (t + 1) (t ∷ []) one (omega arith) in
      let into = b.falls ++ b.continues in
      let c = leaves returns after u into in
      let hc = leaves_below after u into (each_append (λ x. x < n) b.falls b.continues hb.falls hb.continues) (omega arith) in
      let a = leaves returns before k (froms ++ c.falls) in
      let ha = leaves_below before k (froms ++ c.falls) (each_append (λ x. x < n) froms c.falls h hc.falls) (omega arith) in
      record {
        falls = each_append (λ x. x < n) (a.breaks ++ b.breaks) c.breaks (each_append (λ x. x < n) a.breaks b.breaks ha.breaks hb.breaks) hc.breaks;
        breaks = tt;
        continues = each_append (λ x. x < n) a.continues c.continues ha.continues hc.continues;
      }
  leaves_below (return e line) k froms h le = record { falls = tt; breaks = tt; continues = tt }

-- ---- points

pub record IsGood (n sites : ℕ) (p : Placed) : Type 0 where
  pub froms : Below n p.froms
  pub takes : Climbs 0 sites p.point.takes
  pub reads : Rises ltb p.point.reads

module _ (n sites : ℕ) where
  rise : (reads : List ℕ) → Rises ltb (rising ltb reads)
  rise reads = rises_rising ltb numbers_follow reads

  widely : (a b : ℕ) (takes : List ℕ) → b ≤ sites → Climbs a b takes → Climbs 0 sites takes
  widely a b takes le h = climbs_within 0 a b sites takes (omega arith) le h

  module _ (w : Within) (few : (f : ℕ) → Below n (w.returns f)) where
    step_good : (operation : Operation) (arguments : Arguments) (line t s : ℕ) (froms takes reads : List ℕ)
        → Below n froms → Climbs 0 sites takes → IsGood n sites (step_at w operation arguments line t s froms takes reads)
    step_good operation arguments line t s froms takes reads f h = record { froms = f; takes = h; reads = rise reads }

    bare_good : (kind : PointKind) (t : ℕ) (froms takes reads : List ℕ)
        → Below n froms → Climbs 0 sites takes → IsGood n sites (bare w kind t froms takes reads)
    bare_good kind t froms takes reads f h = record { froms = f; takes = h; reads = rise reads }

    test_good : (test : Core) (k s : ℕ) (froms : List ℕ) → Below n froms → k + size test ≤ n → s + accesses test ≤ sites
        → IsGood n sites (test_at w test k s froms)
    test_good test k s froms f le ls =
        bare_good Plain (k + size test) (exits w.returns test k froms) (fetched test s) (occurring w.params test)
        (exits_below n w.returns few test k froms f le) (widely s (s + accesses test) (fetched test s) ls (fetched_climbs test s))

    back_good : (undo : Option Operation) (line t s : ℕ) (reads : List ℕ) → t < n → Each (IsGood n sites) (points_back w undo line t s reads)
    back_good None line t s reads lt = tt
    back_good (Some operation) line t s reads lt = (step_good operation none line (t + 1) s (t ∷ []) [] reads (lt, tt) (omega arith), tt)

    mutual
      pub good : (e : Core) (k s : ℕ) (froms : List ℕ) → Below n froms → k + size e ≤ n → s + accesses e ≤ sites
          → Each (IsGood n sites) (points w e k s froms)
      good (constant c) k s froms f le ls = tt
      good (step operation arguments line) k s froms f le ls =
          each_append (IsGood n sites) (points_all w arguments k s froms) _ (good_all arguments k s froms f (omega arith) (omega arith)) (
            step_good operation arguments line (k + sizes arguments) (s + accesses_all arguments) (exits_all w.returns arguments k froms)
                (fetched_all arguments s) (occurring_all w.params arguments ++ occurring_by w.params operation)
                (exits_all_below n w.returns few arguments k froms f (omega arith))
                (widely s (s + accesses_all arguments) (fetched_all arguments s) (omega arith) (fetched_all_climbs arguments s)),
            tt,
          )
      good (choice of_pointer test on off) k s froms f le ls =
          let t = k + size test in
          let s' = s + accesses test in
          let one : Below n (t ∷ []) = (omega arith, tt) in
          each_append (IsGood n sites) (points w test k s froms ++ test_at w test k s froms ∷ points w on (t + 1) s' (t ∷ [])) _
          (each_append (IsGood n sites) (points w test k s froms) (test_at w test k s froms ∷ points w on (t + 1) s' (t ∷ []))
          (good test k s froms f (omega arith) (omega arith))
          (test_good test k s froms f (omega arith) (omega arith), good on (t + 1) s' (t ∷ []) one (omega arith) (omega arith)))
          (good off (t + 1 + size on) (s' + accesses on) (t ∷ []) one (omega arith) (omega arith))
      good (update pointer operation right undo line) k s froms f le ls =
          let t = k + size pointer in
          let u = t + 1 + size right in
          let read = s + accesses pointer in
          let join = read + 1 + accesses right in
          let write = join + accesses_by operation in
          let place = argument pointer none in
          let reads = occurring w.params (update pointer operation right undo line) in
          let one : Below n (t ∷ []) = (omega arith, tt) in
          let reading = step_at w op.Read place line t read (exits w.returns pointer k froms) (fetched pointer s)
          (occurring w.params pointer ++ mark) in
          let rights = points w right (t + 1) (read + 1) (t ∷ []) in
          let before = points w pointer k s froms in
          let joining = step_at w operation none line u join (exits w.returns right (t + 1) (t ∷ []))
          (suc read ∷ fetched right (read + 1)) reads in
          let joined_climbs : Climbs read join (suc read ∷ fetched right (read + 1)) = (
            omega arith,
            climbs_within (suc read) (read + 1) join join (fetched right (read + 1)) (omega arith) (omega arith)
                (fetched_climbs right (read + 1)),
          ) in
          each_append (IsGood n sites) (before ++ reading ∷ rights) _
          (each_append (IsGood n sites) before (reading ∷ rights) (good pointer k s froms f (omega arith) (omega arith)) (
            step_good op.Read place line t read (exits w.returns pointer k froms) (fetched pointer s) (occurring w.params pointer ++ mark)
                (exits_below n w.returns few pointer k froms f (omega arith))
                (widely s read (fetched pointer s) (omega arith) (fetched_climbs pointer s)),
            good right (t + 1) (read + 1) (t ∷ []) one (omega arith) (omega arith),
          )) (
            step_good operation none line u join (exits w.returns right (t + 1) (t ∷ [])) (suc read ∷ fetched right (read + 1)) reads
                (exits_below n w.returns few right (t + 1) (t ∷ []) one (omega arith))
                (widely read join (suc read ∷ fetched right (read + 1)) (omega arith) joined_climbs),
            (
              step_good op.Write place line (u + 1) write (behind w.returns (callee_of operation) u)
                  (fetched pointer s ++ fetched_by operation join) reads
                  (behind_below n w.returns few (callee_of operation) u (omega arith))
                  (widely s write (fetched pointer s ++ fetched_by operation join) (omega arith)
                  (climbs_on s join write (fetched pointer s) (fetched_by operation join)
                  (climbs_within s s read join (fetched pointer s) (omega arith) (omega arith) (fetched_climbs pointer s)) (by_climbs operation join))),
              back_good undo line (u + 1) (write + 1) reads (omega arith),
            ),
          )

      pub good_all : (arguments : Arguments) (k s : ℕ) (froms : List ℕ) → Below n froms → k + sizes arguments ≤ n
          → s + accesses_all arguments ≤ sites → Each (IsGood n sites) (points_all w arguments k s froms)
      good_all none k s froms f le ls = tt
      good_all (argument e more) k s froms f le ls =
          each_append (IsGood n sites) (points w e k s froms) _ (good e k s froms f (omega arith) (omega arith))
          (good_all more (k + size e) (s + accesses e) (exits w.returns e k froms)
          (exits_below n w.returns few e k froms f (omega arith)) (omega arith) (omega arith))

  pub good_in : (w : Within) → ((f : ℕ) → Below n (w.returns f)) → (d : Does) (k s : ℕ) (froms : List ℕ) → Below n froms
      → k + size_of d ≤ n → s + accesses_in d ≤ sites → Each (IsGood n sites) (points_in w d k s froms)
  good_in w few nothing k s froms f le ls = tt
  good_in w few break k s froms f le ls = tt
  good_in w few continue k s froms f le ls = tt
  good_in w few (then_ first second) k s froms f le ls =
      each_append (IsGood n sites) (points_in w first k s froms) _ (good_in w few first k s froms f (omega arith) (omega arith))
      (good_in w few second (k + size_of first) (s + accesses_in first) (leaves w.returns first k froms).falls
      (leaves_below n w.returns few first k froms f (omega arith)).falls (omega arith) (omega arith))
  good_in w few (act action arguments line) k s froms f le ls =
      each_append (IsGood n sites) (points_all w arguments k s froms) _ (good_all w few arguments k s froms f (omega arith) (omega arith)) (
        record {
          froms = exits_all_below n w.returns few arguments k froms f (omega arith);
          takes = widely s (s + accesses_all arguments) (fetched_all arguments s) (omega arith) (fetched_all_climbs arguments s);
          reads = rise (occurring_all w.params arguments ++ fetched_into action);
        },
        tt,
      )
  good_in w few (choose of_pointer test on off) k s froms f le ls =
      let t = k + size test in
      let s' = s + accesses test in
      let one : Below n (t ∷ []) = (omega arith, tt) in
      let ons = points_in w on (t + 1) s' (t ∷ []) in
      each_append (IsGood n sites) (points w test k s froms ++ test_at w test k s froms ∷ ons) _
      (each_append (IsGood n sites) (points w test k s froms) (test_at w test k s froms ∷ ons)
      (good w few test k s froms f (omega arith) (omega arith))
      (test_good w few test k s froms f (omega arith) (omega arith), good_in w few on (t + 1) s' (t ∷ []) one (omega arith) (omega arith)))
      (good_in w few off (t + 1 + size_of on) (s' + accesses_in on) (t ∷ []) one (omega arith) (omega arith))
  good_in w few (loop mine before body after) k s froms f le ls =
      let t = k + size_of before in
      let u = t + 1 + size_of body in
      let s' = s + accesses_in before in
      let one : Below n (t ∷ []) = (omega arith, tt) in
      let from_body = leaves w.returns body (t + 1) (t ∷ []) in
      let into_after = from_body.falls ++ from_body.continues in
      let into_before = froms ++ (leaves w.returns after u into_after).falls in
      let hb = leaves_below n w.returns few body (t + 1) (t ∷ []) one (omega arith) in
      let f_after = each_append (λ x. x < n) from_body.falls from_body.continues hb.falls hb.continues in
      let f_before = each_append (λ x. x < n) froms (leaves w.returns after u into_after).falls f
      (leaves_below n w.returns few after u into_after f_after (omega arith)).falls in
      let befores = points_in w before k s into_before in
      let turning = bare w Plain t (leaves w.returns before k into_before).falls [] [] in
      let bodies = points_in (in_loop w mine before body) body (t + 1) s' (t ∷ []) in
      each_append (IsGood n sites) (befores ++ turning ∷ bodies) _
      (each_append (IsGood n sites) befores (turning ∷ bodies) (good_in w few before k s into_before f_before (omega arith) (omega arith)) (
        bare_good w few Plain t (leaves w.returns before k into_before).falls [] []
            (leaves_below n w.returns few before k into_before f_before (omega arith)).falls (omega arith),
        good_in (in_loop w mine before body) few body (t + 1) s' (t ∷ []) one (omega arith) (omega arith),
      ))
      (good_in w few after u (s' + accesses_in body) into_after f_after (omega arith) (omega arith))
  good_in w few (return e line) k s froms f le ls =
      each_append (IsGood n sites) (points w e k s froms) _ (good w few e k s froms f (omega arith) (omega arith)) (
        bare_good w few Return (k + size e) (exits w.returns e k froms) (fetched e s) (occurring w.params e)
            (exits_below n w.returns few e k froms f (omega arith))
            (widely s (s + accesses e) (fetched e s) (omega arith) (fetched_climbs e s)),
        tt,
      )

  pub good_of : (w : Within) → ((f : ℕ) → Below n (w.returns f)) → (f : Function) (k s : ℕ) → k + size_of f.body + 2 ≤ n
      → s + accesses_in f.body ≤ sites → Each (IsGood n sites) (points_of w f k s)
  good_of w few f k s le ls =
      let one : Below n (k ∷ []) = (omega arith, tt) in
      let falls = (leaves w.returns f.body (k + 1) (k ∷ [])).falls in (
        bare_good w few Plain k [] [] [] tt (omega arith),
        each_append (IsGood n sites) (points_in w f.body (k + 1) s (k ∷ [])) _
            (good_in w few f.body (k + 1) s (k ∷ []) one (omega arith) ls) (
              bare_good w few Return (k + 1 + size_of f.body) falls [] []
                  (leaves_below n w.returns few f.body (k + 1) (k ∷ []) one (omega arith)).falls (omega arith),
              tt,
            ),
      )

  pub good_from : (nodes : ℕ) (returns : ℕ → List ℕ) → ((f : ℕ) → Below n (returns f)) → (i k s : ℕ) (functions : List Function)
      → last_from k functions ≤ n → sites_from s functions ≤ sites
      → Each (IsGood n sites) (points_from nodes returns i k s functions)
  good_from nodes returns few i k s [] le ls = tt
  good_from nodes returns few i k s (f ∷ more) le ls =
      let l = k + size_of f.body + 2 in
      let t = s + accesses_in f.body in
      let w = within nodes returns i f in
      let after = last_after l more in
      let after_sites = sites_after t more in
      each_append (IsGood n sites) (points_of w f k s) (points_from nodes returns (suc i) l t more)
      (good_of w few f k s (omega arith) (omega arith))
      (good_from nodes returns few (suc i) l t more le ls)
