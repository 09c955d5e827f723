-- Numbers of the instructions of a source's code, which fall at each step but turns, calls and returns. In a loop the
-- body
-- comes first, then what is done behind it, and then what comes before a turn.
use Rattle.std.proofs.Common.{◌≡◌, ℕ, zero, suc, ◌+◌, ◌<◌, ◌≤◌, List, [], ◌∷◌, ◌++◌, length, Some, Bool, true, false, refl, sym, ap, subst, arith, All, slice_get, length-append}
use Rattle.std.specs.Prelude.{slice_index_or}
use Rattle.std.proofs.Common.{inl, inr}
use Rattle.std.proofs.Math.Nat.{eq-or-lt_of_le}
use Rattle.std.proofs.lemmas.List.Elements.{All-head, All-tail}
use Rattle.sc_isa.specs.declared.op.Instr.{Instr}
use Rattle.sc_isa.specs.declared.op.Op.TheVariants as op
use Rattle.sc_core.specs.Core.{Does, nothing, break, continue, then_, act, choose, loop, return, Function}
use Rattle.sc_core.specs.Statements.{zero_of}
use Rattle.sc_meaning.specs.Points.{size, sizes, size_of}
use Rattle.flow_form.specs.Accesses.{accesses, accesses_all, accesses_in}
use Rattle.site_graph.specs.declared.plan.Plan.{Plan}
use Rattle.site_graph.specs.Plans.{waits_at}
use Rattle.node_emit.specs.Runs.{outside, run, run_width, constant_op, test_width}
use Rattle.node_emit.specs.Widths.{action_width, width, widths, width_in, width_of}
use Rattle.node_emit.specs.Statements.{code_in}
use Rattle.node_emit.specs.Sources.{function_code, functions_code}
use Rattle.code_soundness.proofs.Stays.{Stays}
use Rattle.code_soundness.proofs.Forward.{Falls, FallsFrom, Over, over_none, over_more, over_on, over_to, Down, within, last_over, test_over, action_over, outside_over, code_over, all_over}

no_way : {P : Type 0} → false ≡ true → P
no_way e = cc

-- so many numbers above the base, the greatest first
abbrev pub down : (base many : ℕ) → List ℕ
down base zero = []
down base (suc n) = (base + suc n) ∷ down base n

module _ (plan : Plan) where
  -- those of a statement's instructions, above the base
  abbrev pub ranks_in : Does → (k base : ℕ) → List ℕ
  ranks_in nothing k base = []
  ranks_in break k base = (base + 1) ∷ []
  ranks_in continue k base = (base + 1) ∷ []
  ranks_in (then_ first second) k base =
      ranks_in first k (base + width_in plan second (k + size_of first)) ++ ranks_in second (k + size_of first) base
  ranks_in (act action arguments line) k base =
      down base (widths plan arguments k + run_width plan (k + sizes arguments) (action_width action))
  ranks_in (choose of_pointer test on off) k base =
      let t = k + size test in
      let behind = base + width_in plan off (t + 1 + size_of on) + 1 in
      down (behind + width_in plan on (t + 1)) (width plan test k + run_width plan t (test_width of_pointer)) ++
      ranks_in on (t + 1) behind ++ behind ∷ ranks_in off (t + 1 + size_of on) base
  ranks_in (loop mine before body after) k base =
      let t = k + size_of before in
      let u = t + 1 + size_of body in
      let turn = run_width plan t 1 in
      let back = base + turn + width_in plan before k + 1 in
      ranks_in before k (base + turn) ++ down base turn ++ ranks_in body (t + 1) (back + width_in plan after u) ++
      ranks_in after u back ++ back ∷ []
  ranks_in (return e line) k base = down base (width plan e k + run_width plan (k + size e) 1)

  length_down : (base many : ℕ) → length (down base many) ≡ many
  length_down base zero = refl
  length_down base (suc n) = let h = length_down base n in omega (arith, h)

  length_sum : (a b : List ℕ) (x y : ℕ) → length a ≡ x → length b ≡ y → length (a ++ b) ≡ x + y
  length_sum a b x y e f = let h = length-append a b in omega (arith, h, e, f)

  length_ranks : (d : Does) (k base : ℕ) → length (ranks_in d k base) ≡ width_in plan d k
  length_ranks nothing k base = refl
  length_ranks break k base = refl
  length_ranks continue k base = refl
  length_ranks (then_ first second) k base =
      length_sum _ _ _ _ (length_ranks first k (base + width_in plan second (k + size_of first)))
      (length_ranks second (k + size_of first) base)
  length_ranks (act action arguments line) k base = length_down base _
  length_ranks (choose of_pointer test on off) k base =
      let t = k + size test in
      let behind = base + width_in plan off (t + 1 + size_of on) + 1 in
      let tests = width plan test k + run_width plan t (test_width of_pointer) in
      let last = length_ranks off (t + 1 + size_of on) base in
      let all : length (ranks_in (choose of_pointer test on off) k base) ≡ tests + width_in plan on (t + 1) +
      (1 + width_in plan off (t + 1 + size_of on)) =
      length_sum _ _ _ _ (length_sum _ _ _ _ (length_down (behind + width_in plan on (t + 1)) tests)
      (length_ranks on (t + 1) behind)) (omega (arith, last)) in
      omega (arith, all)
  length_ranks (loop mine before body after) k base =
      let t = k + size_of before in
      let u = t + 1 + size_of body in
      let turn = run_width plan t 1 in
      let back = base + turn + width_in plan before k + 1 in
      length_sum _ _ _ _
      (length_sum _ _ _ _
      (length_sum _ _ _ _ (length_sum _ _ _ _ (length_ranks before k (base + turn)) (length_down base turn))
      (length_ranks body (t + 1) (back + width_in plan after u)))
      (length_ranks after u back)) refl
  length_ranks (return e line) k base = length_down base _

  abbrev pub function_ranks : Function → (k : ℕ) → List ℕ
  function_ranks f k =
      let last = 1 + run_width plan (k + 1 + size_of f.body) 1 in
      ranks_in f.body (k + 1) last ++ down 0 last

  abbrev pub functions_ranks : List Function → (k : ℕ) → List ℕ
  functions_ranks [] k = []
  functions_ranks (f ∷ more) k = function_ranks f k ++ functions_ranks more (k + size_of f.body + 2)

module _ (numbers : ℕ → ℕ) where
  -- from pc on the instructions have these numbers, up to the end
  abbrev pub Ranked : (pc : ℕ) → List ℕ → Type 0
  Ranked pc [] = Unit {0}
  Ranked pc (x ∷ xs) = (numbers pc ≡ x) × Ranked (pc + 1) xs

  pub ranked_front : (pc : ℕ) (a b : List ℕ) → Ranked pc (a ++ b) → Ranked pc a
  ranked_front pc [] b h = tt
  ranked_front pc (x ∷ a) b h = (h.0, ranked_front (pc + 1) a b h.1)

  pub ranked_back : (pc q : ℕ) (a b : List ℕ) → q ≡ pc + length a → Ranked pc (a ++ b) → Ranked q b
  ranked_back pc q [] b e h = let same : pc ≡ q = omega (arith, e) in subst (λ n. Ranked n b) same h
  ranked_back pc q (x ∷ a) b e h = ranked_back (pc + 1) q a b (omega (arith, e)) h.1

  down_at : (pc base many x : ℕ) → Ranked pc (down base many) → pc ≤ x → x < pc + many
      → numbers x + x ≡ base + many + pc
  down_at pc base zero x h a b = absurd (omega (arith, a, b))
  down_at pc base (suc n) x h a b =
      elim (eq-or-lt_of_le a) [
        | inl e ↦ subst (λ m. numbers m + m ≡ base + suc n + pc) e (omega (arith, h.0))
        | inr lt ↦ omega (arith, down_at (pc + 1) base n x h.1 (omega (arith, lt)) (omega (arith, b)))
      ]

  -- up to the last of them, and to the end where its number is not above the base
  down_within : (pc base many last : ℕ) → Ranked pc (down base many) → last + 1 ≡ pc + many → Down numbers pc last
  down_within pc base many last h e x y a b c =
      let f = down_at pc base many x h a (omega (arith, b, c, e)) in
      let g = down_at pc base many y h (omega (arith, a, b)) (omega (arith, c, e)) in
      omega (arith, f, g, b)

  above : (pc base many x : ℕ) → Ranked pc (down base many) → pc ≤ x → x < pc + many → base < numbers x
  above pc base many x h a b = let f = down_at pc base many x h a b in omega (arith, f, b)

  down_all : (pc base many end : ℕ) → Ranked pc (down base many) → end ≡ pc + many → numbers end ≤ base
      → Down numbers pc end
  down_all pc base many end h e low x y a b c =
      elim (eq-or-lt_of_le c) [
        | inl same ↦ subst (λ m. numbers m < numbers x) (sym same)
            (let f = above pc base many x h a (omega (arith, b, c, e)) in omega (arith, f, low))
        | inr lt ↦ down_within_or x y a b lt
      ]
    where
      down_within_or : (x y : ℕ) → pc ≤ x → x < y → y < end → numbers y < numbers x
      down_within_or x y a b c =
          let f = down_at pc base many x h a (omega (arith, b, c, e)) in
          let g = down_at pc base many y h (omega (arith, a, b)) (omega (arith, c, e)) in
          omega (arith, f, g, b)

  -- the first of them
  first_low : (pc base many end : ℕ) → Ranked pc (down base many) → end ≡ pc + many → numbers end ≤ base
      → numbers pc ≤ base + many
  first_low pc base zero end h e low = let same : pc ≡ end = omega (arith, e) in subst (λ m. numbers m ≤ base + 0)
      (sym same) (omega (arith, low))
  first_low pc base (suc n) end h e low = omega (arith, h.0)

  first_is : (pc base many : ℕ) → 0 < many → Ranked pc (down base many) → numbers pc ≤ base + many
  first_is pc base zero lt h = absurd (omega (arith, lt))
  first_is pc base (suc n) lt h = omega (arith, h.0)

  module _ (plan : Plan) where
    -- what a statement's code has, by the numbers that it has
    pub record Placed (pc end base many : ℕ) (some : List Instr) : Type 0 where
      pub over : Over numbers pc end some
      pub low : numbers pc ≤ base + many

    pub in_over : (d : Does) (breaks continues : Bool) (k s out again pc end base : ℕ) → Stays breaks continues d
        → end ≡ pc + width_in plan d k → Ranked pc (ranks_in plan d k base)
        → (breaks ≡ true → numbers out ≤ base) → (continues ≡ true → numbers again ≤ base) → numbers end ≤ base
        → Placed pc end base (width_in plan d k) (code_in plan d k s out again pc)
    in_over nothing breaks continues k s out again pc end base stays e r o a low = let same : end
        ≡ pc = omega (arith, e) in record {
          over = over_to numbers pc pc end [] (sym same) (over_none numbers pc);
          low = subst (λ m. numbers m ≤ base + 0) same (omega (arith, low));
        }
    in_over break breaks continues k s out again pc end base stays e r o a low = record {
      over =
          over_to numbers pc (pc + 1) end _ (omega (arith, e))
          (over_more numbers pc (pc + 1) _ [] (λ b. omega (arith, o stays, r.0)) (over_none numbers (pc + 1)));
      low = omega (arith, r.0);
    }
    in_over continue breaks continues k s out again pc end base stays e r o a low = record {
      over =
          over_to numbers pc (pc + 1) end _ (omega (arith, e))
          (over_more numbers pc (pc + 1) _ [] (λ b. omega (arith, a stays, r.0)) (over_none numbers (pc + 1)));
      low = omega (arith, r.0);
    }
    in_over (then_ first second) breaks continues k s out again pc end base stays e r o a low =
        let p = pc + width_in plan first k in
        let more = width_in plan second (k + size_of first) in
        let x = ranks_in plan first k (base + more) in
        let y = ranks_in plan second (k + size_of first) base in
        let n = length_ranks plan first k (base + more) in
        let behind = in_over second breaks continues (k + size_of first) (s + accesses_in first) out again p end base
        stays.1 (omega (arith, e))
        (ranked_back pc p x y (omega (arith, n)) r) o a low in
        let before = in_over first breaks continues k s out again pc p (base + more) stays.0 refl
        (ranked_front pc x y r)
        (λ b. omega (arith, o b)) (λ b. omega (arith, a b)) behind.low in record {
          over = over_on numbers pc p end _ _ before.over behind.over;
          low = omega (arith, before.low);
        }
    in_over (act action arguments line) breaks continues k s out again pc end base stays e r o a low =
        let p = pc + widths plan arguments k in
        let t = k + sizes arguments in
        let many = widths plan arguments k + run_width plan t (action_width action) in
        let falls = down_all pc base many end r e low in record {
          over =
              over_on numbers pc p end _ _
              (all_over numbers plan arguments k s pc p refl
              (within numbers pc end pc p (omega arith) (omega (arith, e)) falls))
              (action_over numbers plan action (suc (s + accesses_all arguments)) line t p end (omega (arith, e))
              (within numbers pc end p end (omega arith) (omega arith) falls));
          low = first_low pc base many end r e low;
        }
    in_over (choose of_pointer test on off) breaks continues k s out again pc end base stays e r o a low =
        let t = k + size test in
        let s' = s + accesses test in
        let off_width = width_in plan off (t + 1 + size_of on) in
        let behind = base + off_width + 1 in
        let on_width = width_in plan on (t + 1) in
        let tests = width plan test k + run_width plan t (test_width of_pointer) in
        let p = pc + width plan test k in
        let at_on = p + run_width plan t (test_width of_pointer) in
        let v = at_on + on_width in
        let at_off = v + 1 in
        let to = at_off + off_width in
        let a1 = down (behind + on_width) tests in
        let a2 = ranks_in plan on (t + 1) behind in
        let a3 = behind ∷ ranks_in plan off (t + 1 + size_of on) base in
        let n1 = length_down plan (behind + on_width) tests in
        let n2 = length_sum plan a1 a2 tests on_width n1 (length_ranks plan on (t + 1) behind) in
        let r12 = ranked_front pc (a1 ++ a2) a3 r in
        let r3 : Ranked v a3 = ranked_back pc v (a1 ++ a2) a3 (omega (arith, n2)) r in
        let r1 = ranked_front pc a1 a2 r12 in
        let last = in_over off breaks continues (t + 1 + size_of on) (s' + accesses_in on) out again at_off end base
        stays.1 (omega (arith, e)) r3.1 o a low in
        let first = in_over on breaks continues (t + 1) s' out again at_on v behind stays.0 refl
        (ranked_back pc at_on a1 a2 (omega (arith, n1)) r12) (λ b. omega (arith, o b)) (λ b. omega (arith, a b))
        (omega (arith, r3.0)) in
        let falls = down_all pc (behind + on_width) tests at_on r1 (omega arith) first.low in
        let target : to ≡ end = omega (arith, e) in
        let jump : numbers to < numbers v = subst (λ m. numbers m < numbers v) (sym target)
        (omega (arith, low, r3.0)) in record {
          over =
              over_on numbers pc v end _ _
              (over_on numbers pc at_on v _ _
              (over_on numbers pc p at_on _ _
              (code_over numbers plan test k s pc p refl
              (within numbers pc at_on pc p (omega arith) (omega arith) falls))
              (test_over numbers plan of_pointer at_off t p at_on refl
              (within numbers pc at_on p at_on (omega arith) (omega arith) falls)
              (λ x from to. let f = above pc (behind + on_width) tests x r1 (omega (arith, from))
              (omega (arith, to)) in omega (arith, f, last.low))))
              first.over)
              (over_more numbers v end (outside (op.Jump to)) _ (λ b. jump) last.over);
          low = let f = first_low pc (behind + on_width) tests at_on r1 (omega arith) first.low in omega (arith, f);
        }
    in_over (loop mine before body after) breaks continues k s out again pc end base stays e r o a low =
        let t = k + size_of before in
        let u = t + 1 + size_of body in
        let s_body = s + accesses_in before in
        let turn = run_width plan t 1 in
        let w0 = width_in plan before k in
        let w1 = width_in plan body (t + 1) in
        let w2 = width_in plan after u in
        let back = base + turn + w0 + 1 in
        let p = pc + w0 in
        let at_body = p + turn in
        let at_after = at_body + w1 in
        let v = at_after + w2 in
        let over = v + 1 in
        let a1 = ranks_in plan before k (base + turn) in
        let a2 = down base turn in
        let a3 = ranks_in plan body (t + 1) (back + w2) in
        let a4 = ranks_in plan after u back in
        let a5 = back ∷ [] in
        let n1 = length_ranks plan before k (base + turn) in
        let n2 = length_sum plan a1 a2 w0 turn n1 (length_down plan base turn) in
        let n3 = length_sum plan (a1 ++ a2) a3 (w0 + turn) w1 n2 (length_ranks plan body (t + 1) (back + w2)) in
        let n4 = length_sum plan ((a1 ++ a2) ++ a3) a4 (w0 + turn + w1) w2 n3 (length_ranks plan after u back) in
        let r4 = ranked_front pc (((a1 ++ a2) ++ a3) ++ a4) a5 r in
        let r3 = ranked_front pc ((a1 ++ a2) ++ a3) a4 r4 in
        let r2 = ranked_front pc (a1 ++ a2) a3 r3 in
        let at_v : Ranked v a5 = ranked_back pc v (((a1 ++ a2) ++ a3) ++ a4) a5 (omega (arith, n4)) r in
        let at_p = ranked_back pc p a1 a2 (omega (arith, n1)) r2 in
        let same : over ≡ end = omega (arith, e) in
        let out_low : numbers over ≤ base = subst (λ m. numbers m ≤ base) (sym same) low in
        let behind = in_over after true false u (s_body + accesses_in body) over again at_after v back stays.2 refl
        (ranked_back pc at_after ((a1 ++ a2) ++ a3) a4 (omega (arith, n3)) r4) (λ b. omega (arith, out_low))
        (λ b. no_way b) (omega (arith, at_v.0)) in
        let inner = in_over body true true (t + 1) s_body over at_after at_body at_after (back + w2) stays.1 refl
        (ranked_back pc at_body (a1 ++ a2) a3 (omega (arith, n2)) r3) (λ b. omega (arith, out_low))
        (λ b. behind.low) behind.low in
        let first = in_over before true false k s over again pc p (base + turn) stays.0 refl (ranked_front pc a1 a2 r2)
        (λ b. omega (arith, out_low)) (λ b. no_way b) (first_is p base turn (omega arith) at_p) in
        let last = p + length (waits_at plan t) in record {
          over =
              over_on numbers pc v end _ _
              (over_on numbers pc at_after v _ _
              (over_on numbers pc at_body at_after _ _
              (over_on numbers pc p at_body _ _ first.over
              (last_over numbers plan t 0 p last at_body op.Turn refl refl (omega arith)
              (down_within p base turn last at_p (omega arith))))
              inner.over) behind.over)
              (over_to numbers v (v + 1) end _ same (over_more numbers v (v + 1) (outside (op.Jump pc)) []
              (λ b. omega (arith, first.low, at_v.0)) (over_none numbers (v + 1))));
          low = omega (arith, first.low);
        }
    in_over (return x line) breaks continues k s out again pc end base stays e r o a low =
        let p = pc + width plan x k in
        let t = k + size x in
        let many = width plan x k + run_width plan t 1 in
        let last = p + length (waits_at plan t) in
        let falls = down_all pc base many end r e low in record {
          over =
              over_on numbers pc p end _ _
              (code_over numbers plan x k s pc p refl
              (within numbers pc end pc p (omega arith) (omega (arith, e)) falls))
              (last_over numbers plan t line p last end op.Ret refl (omega (arith, e)) (omega (arith, e))
              (within numbers pc end p last (omega arith) (omega (arith, e)) falls));
          low = first_low pc base many end r e low;
        }

    -- ---- functions

    function_over : (f : Function) (k s pc : ℕ) → Stays false false f.body → Ranked pc (function_ranks plan f k)
        → Over numbers pc (pc + width_of plan f k) (function_code plan f k s pc)
    function_over f k s pc stays r =
        let t = k + 1 + size_of f.body in
        let many = 1 + run_width plan t 1 in
        let end = pc + width_in plan f.body (k + 1) in
        let last = end + 1 + length (waits_at plan t) in
        let over = end + 1 + run_width plan t 1 in
        let n = length_ranks plan f.body (k + 1) many in
        let behind = ranked_back pc end (ranks_in plan f.body (k + 1) many) (down 0 many) (omega (arith, n)) r in
        let falls = down_within end 0 many last behind (omega arith) in
        let body = in_over f.body false false (k + 1) s 0 0 pc end many stays refl
        (ranked_front pc (ranks_in plan f.body (k + 1) many) (down 0 many) r) (λ b. no_way b) (λ b. no_way b)
        (let low = first_is end 0 many (omega arith) behind in omega (arith, low)) in
        over_to numbers pc over (pc + width_of plan f k) _ (omega arith)
        (over_on numbers pc end over _ _ body.over
        (over_on numbers end (end + 1) over (outside (constant_op (zero_of f.result)) ∷ [])
        (run plan t f.line (op.Ret ∷ []))
        (outside_over numbers plan end (zero_of f.result)
        (falls end (end + 1) (omega arith) (omega arith) (omega arith)))
        (last_over numbers plan t f.line (end + 1) last over op.Ret refl refl (omega arith)
        (within numbers end last (end + 1) last (omega arith) (omega arith) falls))))

    length_function : (f : Function) (k : ℕ) → length (function_ranks plan f k) ≡ width_of plan f k
    length_function f k =
        let t = k + 1 + size_of f.body in
        let many = 1 + run_width plan t 1 in
        let n = length_sum plan (ranks_in plan f.body (k + 1) many) (down 0 many) _ _
        (length_ranks plan f.body (k + 1) many) (length_down plan 0 many) in
        omega (arith, n)

    pub functions_fall : (all : List Function) (k s pc : ℕ) → All (λ (f : Function). Stays false false f.body) all
        → Ranked pc (functions_ranks plan all k) → FallsFrom numbers pc (functions_code plan all k s pc)
    functions_fall [] k s pc stays r = tt
    functions_fall (f ∷ more) k s pc stays r =
        let q = pc + width_of plan f k in
        let a = function_ranks plan f k in
        let b = functions_ranks plan more (k + size_of f.body + 2) in
        let first = function_over f k s pc (All-head (λ (f : Function). Stays false false f.body) f more stays)
        (ranked_front pc a b r) in
        let n = length_function f k in
        let rest = functions_fall more (k + size_of f.body + 2) (s + accesses_in f.body) q
        (All-tail (λ (f : Function). Stays false false f.body) f more stays)
        (ranked_back pc q a b (omega (arith, n)) r) in
        let c = functions_code plan more (k + size_of f.body + 2) (s + accesses_in f.body) q in
        let all = over_on numbers pc q (q + length c) (function_code plan f k s pc) c first
        (record { reach = refl; fall = rest }) in
        all.fall

  -- what is said of the instruction at a place
  pub falls_at : (pc : ℕ) (all : List Instr) (n : ℕ) (i : Instr) → FallsFrom numbers pc all
      → slice_get all n ≡ Some i → Falls numbers (pc + n) i.op
  falls_at pc [] n i h e = absurd (cc)
  falls_at pc (x ∷ all) zero i h e =
      let same : x ≡ i = cc in
      let here : pc ≡ pc + 0 = omega arith in
      subst (λ (i : Instr). Falls numbers (pc + 0) i.op) same (subst (λ m. Falls numbers m x.op) here h.0)
  falls_at pc (x ∷ all) (suc n) i h e =
      let here : pc + 1 + n ≡ pc + suc n = omega arith in
      subst (λ m. Falls numbers m i.op) here (falls_at (pc + 1) all n i h.1 e)

-- ---- the numbers of a list

abbrev pub number_at : List ℕ → ℕ → ℕ
number_at ranks at = slice_index_or ranks at 0

pub ranked_as : (numbers : ℕ → ℕ) (pc : ℕ) (ranks : List ℕ)
    → ((n : ℕ) → n < length ranks → numbers (pc + n) ≡ number_at ranks n) → Ranked numbers pc ranks
ranked_as numbers pc [] h = tt
ranked_as numbers pc (x ∷ ranks) h =
    let here : pc + 0 ≡ pc = omega arith in (
      subst (λ m. numbers m ≡ x) here (h 0 (omega arith)),
      ranked_as numbers (pc + 1) ranks (λ n lt. let up : pc + suc n ≡ pc + 1 + n = omega arith in
          subst (λ m. numbers m ≡ number_at ranks n) up (h (suc n) (omega arith))),
    )

pub ranked_list : (ranks : List ℕ) → Ranked (number_at ranks) 0 ranks
ranked_list ranks = ranked_as (number_at ranks) 0 ranks
    (λ n lt. let here : 0 + n ≡ n = omega arith in ap (number_at ranks) here)
