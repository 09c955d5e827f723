-- What loops add to code while it is written: the jumps out of one and on with it are set once it is written.
use Rattle.std.proofs.Common.{◌≡◌, refl, sym, ap, ◌∙◌, ℕ, ◌+◌, List, [], ◌∷◌, ◌++◌, length, Option, arith, append_assoc, length-append}
use Rattle.std.proofs.lemmas.List.{length-map, append-nil}
use Rattle.sc_isa.specs.declared.op.Instr.{Instr}
use Rattle.sc_isa.specs.declared.op.Op.{Op}
use Rattle.sc_isa.specs.declared.op.Op.TheVariants.{Jump, Turn}
use Rattle.sc_core.specs.Core.{Does, loop}
use Rattle.sc_meaning.specs.Points.{size_of}
use Rattle.flow_form.specs.Accesses.{accesses_in}
use Rattle.site_graph.specs.declared.plan.Plan.{Plan}
use Rattle.node_emit.specs.Runs.{outside, run, run_width}
use Rattle.node_emit.specs.Widths.{width_in}
use Rattle.node_emit.specs.Statements.{code_in}
use Rattle.node_emit.specs.Drafts.{Written, grown, put, ran, ended}
use Rattle.node_emit.specs.Done.{done, breaks_in, continues_in, breaks_of, continues_of}
use Rattle.node_emit.proofs.Lengths.{length-in}
use Rattle.node_emit.proofs.Patches.{written-same}
use Rattle.node_emit.proofs.Emitted.{put-grown}
use Rattle.node_emit.proofs.Loops.{sets, sets-append, led_all-sets, breaks-set, continues-set}

done-is : (plan : Plan) (s : Does) (d : Written) →
    done plan s d ≡ grown d (code_in plan s d.point d.sites 0 0 (length d.instrs)) (size_of s) (accesses_in s)
unfolding done
done-is plan s d = refl

pub done-grown : (plan : Plan) (s : Does) (d : Written) (xs : List Instr) (p q : ℕ) →
    done plan s (grown d xs p q)
    ≡ grown d (xs ++ code_in plan s (d.point + p) (d.sites + q) 0 0 (length d.instrs + length xs)) (p + size_of s) (q + accesses_in s)
unfolding done grown
done-grown plan s d xs p q =
    let h = length-append d.instrs xs in
    written-same _ _
    (append_assoc d.instrs xs _ ∙ ap (λ n. d.instrs ++ (xs ++ code_in plan s (d.point + p) (d.sites + q) 0 0 n)) h)
    (omega arith) (omega arith)

pub ran-grown : (plan : Plan) (line : ℕ) (ops : List Op) (d : Written) (xs : List Instr) (p q : ℕ) →
    ran plan line ops (grown d xs p q) ≡ grown d (xs ++ run plan (d.point + p) line ops) (p + 1) q
unfolding ran grown
ran-grown plan line ops d xs p q = written-same _ _ (append_assoc d.instrs xs _) (omega arith) (omega arith)

ended-grown : (jumps : List ℕ) (target : ℕ) (d : Written) (xs ys : List Instr) (p q : ℕ) → target ≡ length d.instrs + length xs →
    sets jumps target (d.instrs ++ xs) ≡ d.instrs ++ ys → ended jumps (grown d xs p q) ≡ grown d ys p q
unfolding ended grown
ended-grown jumps target d xs ys p q h e =
    let l : length (d.instrs ++ xs) ≡ target = let a = length-append d.instrs xs in omega (arith, a, h) in
    led_all-sets jumps _ _ ∙ written-same _ _ (ap (λ n. sets jumps n (d.instrs ++ xs)) l ∙ e) refl refl

breaks-grown : (plan : Plan) (s : Does) (d : Written) (xs : List Instr) (p q : ℕ) →
    breaks_of plan s (grown d xs p q) ≡ breaks_in plan s (d.point + p) (length d.instrs + length xs)
unfolding breaks_of grown
breaks-grown plan s d xs p q = ap (breaks_in plan s (d.point + p)) (length-append d.instrs xs)

continues-grown : (plan : Plan) (s : Does) (d : Written) (xs : List Instr) (p q : ℕ) →
    continues_of plan s (grown d xs p q) ≡ continues_in plan s (d.point + p) (length d.instrs + length xs)
unfolding continues_of grown
continues-grown plan s d xs p q = ap (continues_in plan s (d.point + p)) (length-append d.instrs xs)

continues-is : (plan : Plan) (s : Does) (d : Written) → continues_of plan s d ≡ continues_in plan s d.point (length d.instrs)
unfolding continues_of
continues-is plan s d = refl

pub code_in-same : (plan : Plan) (s : Does) (k k' n n' pc pc' : ℕ) → k ≡ k' → n ≡ n' → pc ≡ pc' →
    code_in plan s k n 0 0 pc ≡ code_in plan s k' n' 0 0 pc'
code_in-same plan s k k' n n' pc pc' a b c =
    ap (λ x. code_in plan s x n 0 0 pc) a ∙ ap (λ x. code_in plan s k' x 0 0 pc) b ∙ ap (λ x. code_in plan s k' n' 0 0 x) c

pub breaks_in-same : (plan : Plan) (s : Does) (k k' pc pc' : ℕ) → k ≡ k' → pc ≡ pc' → breaks_in plan s k pc ≡ breaks_in plan s k' pc'
breaks_in-same plan s k k' pc pc' a b = ap (λ x. breaks_in plan s x pc) a ∙ ap (breaks_in plan s k') b

pub continues_in-same : (plan : Plan) (s : Does) (k k' pc pc' : ℕ) → k ≡ k' → pc ≡ pc' → continues_in plan s k pc ≡ continues_in plan s k' pc'
continues_in-same plan s k k' pc pc' a b = ap (λ x. continues_in plan s x pc) a ∙ ap (continues_in plan s k') b

-- three parts of the code in which jumps are set
three-set : (a b c : List ℕ) (target : ℕ) (xs x x' r y y' z z' : List Instr) (j : Instr) →
    ((zs : List Instr) → sets a target (xs ++ (x ++ zs)) ≡ xs ++ (x' ++ zs)) →
    ((zs : List Instr) → sets b target (((xs ++ x') ++ r) ++ (y ++ zs)) ≡ ((xs ++ x') ++ r) ++ (y' ++ zs)) →
    ((zs : List Instr) → sets c target ((((xs ++ x') ++ r) ++ y') ++ (z ++ zs)) ≡ (((xs ++ x') ++ r) ++ y') ++ (z' ++ zs)) →
    sets (a ++ b ++ c) target (xs ++ ((((x ++ r) ++ y) ++ z) ++ j ∷ [])) ≡ xs ++ ((((x' ++ r) ++ y') ++ z') ++ j ∷ [])
three-set a b c target xs x x' r y y' z z' j f g h =
    sets-append (a ++ b) c target _
    ∙ ap (sets c target) (sets-append a b target _)
    ∙ ap (λ l. sets c target (sets b target (sets a target l)))
    (let e : xs ++ ((((x ++ r) ++ y) ++ z) ++ j ∷ []) ≡ xs ++ (x ++ (r ++ (y ++ (z ++ j ∷ [])))) = simp append_assoc refl in e)
    ∙ ap (λ l. sets c target (sets b target l)) (f (r ++ (y ++ (z ++ j ∷ []))))
    ∙ ap (λ l. sets c target (sets b target l))
    (let e : xs ++ (x' ++ (r ++ (y ++ (z ++ j ∷ [])))) ≡ ((xs ++ x') ++ r) ++ (y ++ (z ++ j ∷ [])) = simp append_assoc refl in e)
    ∙ ap (sets c target) (g (z ++ j ∷ []))
    ∙ ap (sets c target)
    (let e : ((xs ++ x') ++ r) ++ (y' ++ (z ++ j ∷ [])) ≡ (((xs ++ x') ++ r) ++ y') ++ (z ++ j ∷ []) = simp append_assoc refl in e)
    ∙ h (j ∷ [])
    ∙ (let e : (((xs ++ x') ++ r) ++ y') ++ (z' ++ j ∷ []) ≡ xs ++ ((((x' ++ r) ++ y') ++ z') ++ j ∷ []) = simp append_assoc refl in e)

-- behind the body, with the jumps on set
abbrev pub body_put : Plan → (before body : Does) → Written → Written
body_put plan before body d =
    ended (continues_of plan body (ran plan 0 (Turn ∷ []) (done plan before d))) (done plan body (ran plan 0 (Turn ∷ []) (done plan before d)))

module _ (plan : Plan) (before body after : Does) (d : Written) where
  abbrev k : ℕ
  k = d.point

  abbrev n : ℕ
  n = d.sites

  abbrev pc : ℕ
  pc = length d.instrs

  abbrev t : ℕ
  t = d.point + size_of before

  abbrev u : ℕ
  u = d.point + size_of before + 1 + size_of body

  abbrev at_body : ℕ
  at_body = length d.instrs + width_in plan before d.point + run_width plan (d.point + size_of before) 1

  abbrev at_after : ℕ
  at_after = at_body + width_in plan body (t + 1)

  abbrev end : ℕ
  end = at_after + width_in plan after u + 1

  abbrev c1 : List Instr
  c1 = code_in plan before k n 0 0 pc

  abbrev r : List Instr
  r = run plan t 0 (Turn ∷ [])

  abbrev c2 : List Instr
  c2 = code_in plan body (t + 1) (n + accesses_in before) 0 0 at_body

  abbrev c2on : List Instr
  c2on = code_in plan body (t + 1) (n + accesses_in before) 0 at_after at_body

  abbrev c3 : List Instr
  c3 = code_in plan after u (n + accesses_in before + accesses_in body) 0 0 at_after

  turn-written : ran plan 0 (Turn ∷ []) (done plan before d) ≡ grown d (c1 ++ r) (size_of before + 1) (accesses_in before)
  turn-written = ap (ran plan 0 (Turn ∷ [])) (done-is plan before d) ∙ ran-grown plan 0 (Turn ∷ []) d c1 (size_of before) (accesses_in before)

  length-turn : length d.instrs + length (c1 ++ r) ≡ at_body
  length-turn = simp (length-append, length-map) (omega (arith, length-in plan before))

  point-turn : d.point + (size_of before + 1) ≡ t + 1
  point-turn = omega arith

  pub body_breaks : breaks_of plan body (ran plan 0 (Turn ∷ []) (done plan before d)) ≡ breaks_in plan body (t + 1) at_body
  body_breaks =
      ap (breaks_of plan body) turn-written ∙ breaks-grown plan body d (c1 ++ r) _ (accesses_in before)
      ∙ breaks_in-same plan body _ _ _ _ point-turn length-turn

  body_continues : continues_of plan body (ran plan 0 (Turn ∷ []) (done plan before d)) ≡ continues_in plan body (t + 1) at_body
  body_continues =
      ap (continues_of plan body) turn-written ∙ continues-grown plan body d (c1 ++ r) _ (accesses_in before)
      ∙ continues_in-same plan body _ _ _ _ point-turn length-turn

  body-done : done plan body (ran plan 0 (Turn ∷ []) (done plan before d))
      ≡ grown d ((c1 ++ r) ++ c2) (size_of before + 1 + size_of body) (accesses_in before + accesses_in body)
  body-done =
      ap (done plan body) turn-written ∙ done-grown plan body d (c1 ++ r) _ _
      ∙ ap (λ q. grown d ((c1 ++ r) ++ q) (size_of before + 1 + size_of body) (accesses_in before + accesses_in body))
      (code_in-same plan body _ _ _ _ _ _ point-turn refl length-turn)

  length-body : at_after ≡ length d.instrs + length ((c1 ++ r) ++ c2)
  length-body = let a = length-append (c1 ++ r) c2 in let b = length-turn in omega (arith, a, b, length-in plan body)

  on-set : sets (continues_in plan body (t + 1) at_body) at_after (d.instrs ++ ((c1 ++ r) ++ c2)) ≡ d.instrs ++ ((c1 ++ r) ++ c2on)
  on-set =
      let l : length (d.instrs ++ (c1 ++ r)) ≡ at_body = let a = length-append d.instrs (c1 ++ r) in let b = length-turn in omega (arith, a, b) in
      ap (sets (continues_in plan body (t + 1) at_body) at_after)
      (let e : d.instrs ++ ((c1 ++ r) ++ c2) ≡ (d.instrs ++ (c1 ++ r)) ++ (c2 ++ []) = simp (append_assoc, append-nil) refl in e)
      ∙ continues-set plan body (t + 1) (n + accesses_in before) 0 at_after at_body (d.instrs ++ (c1 ++ r)) [] l
      ∙ (let e : (d.instrs ++ (c1 ++ r)) ++ (c2on ++ []) ≡ d.instrs ++ ((c1 ++ r) ++ c2on) = simp (append_assoc, append-nil) refl in e)

  body-written : body_put plan before body d
      ≡ grown d ((c1 ++ r) ++ c2on) (size_of before + 1 + size_of body) (accesses_in before + accesses_in body)
  body-written =
      ap (λ c. ended c (done plan body (ran plan 0 (Turn ∷ []) (done plan before d)))) body_continues
      ∙ ap (ended (continues_in plan body (t + 1) at_body)) body-done
      ∙ ended-grown _ at_after d _ _ _ _ length-body on-set

  length-on : length d.instrs + length ((c1 ++ r) ++ c2on) ≡ at_after
  length-on = let a = length-append (c1 ++ r) c2on in let b = length-turn in omega (arith, a, b, length-in plan body)

  point-body : d.point + (size_of before + 1 + size_of body) ≡ u
  point-body = omega arith

  sites-body : d.sites + (accesses_in before + accesses_in body) ≡ n + accesses_in before + accesses_in body
  sites-body = omega arith

  pub after_breaks : breaks_of plan after (body_put plan before body d) ≡ breaks_in plan after u at_after
  after_breaks =
      ap (breaks_of plan after) body-written ∙ breaks-grown plan after d _ _ (accesses_in before + accesses_in body)
      ∙ breaks_in-same plan after _ _ _ _ point-body length-on

  pub after_continues : continues_of plan after (body_put plan before body d) ≡ continues_in plan after u at_after
  after_continues =
      ap (continues_of plan after) body-written ∙ continues-grown plan after d _ _ (accesses_in before + accesses_in body)
      ∙ continues_in-same plan after _ _ _ _ point-body length-on

  after-done : done plan after (body_put plan before body d)
      ≡ grown d (((c1 ++ r) ++ c2on) ++ c3) (size_of before + 1 + size_of body + size_of after)
      (accesses_in before + accesses_in body + accesses_in after)
  after-done =
      ap (done plan after) body-written ∙ done-grown plan after d _ _ _
      ∙ ap (λ q. grown d (((c1 ++ r) ++ c2on) ++ q) (size_of before + 1 + size_of body + size_of after) (accesses_in before + accesses_in body + accesses_in after))
      (code_in-same plan after _ _ _ _ _ _ point-body sites-body length-on)

  back-done : put (Jump pc) (done plan after (body_put plan before body d))
      ≡ grown d ((((c1 ++ r) ++ c2on) ++ c3) ++ outside (Jump pc) ∷ []) (size_of before + 1 + size_of body + size_of after)
      (accesses_in before + accesses_in body + accesses_in after)
  back-done = ap (put (Jump pc)) after-done ∙ put-grown (Jump pc) d _ _ _

  length-back : end ≡ length d.instrs + length ((((c1 ++ r) ++ c2on) ++ c3) ++ outside (Jump pc) ∷ [])
  length-back =
      let a = length-append (((c1 ++ r) ++ c2on) ++ c3) (outside (Jump pc) ∷ []) in
      let b = length-append ((c1 ++ r) ++ c2on) c3 in
      let c = length-on in
      omega (arith, a, b, c, length-in plan after)

  abbrev c1out : List Instr
  c1out = code_in plan before k n end 0 pc

  abbrev c2out : List Instr
  c2out = code_in plan body (t + 1) (n + accesses_in before) end at_after at_body

  abbrev c3out : List Instr
  c3out = code_in plan after u (n + accesses_in before + accesses_in body) end 0 at_after

  out-set : sets (breaks_in plan before k pc ++ breaks_in plan body (t + 1) at_body ++ breaks_in plan after u at_after) end
      (d.instrs ++ ((((c1 ++ r) ++ c2on) ++ c3) ++ outside (Jump pc) ∷ []))
      ≡ d.instrs ++ ((((c1out ++ r) ++ c2out) ++ c3out) ++ outside (Jump pc) ∷ [])
  out-set =
      let l1 : length ((d.instrs ++ c1out) ++ r) ≡ at_body =
      simp (length-append, length-map) (omega (arith, length-in plan before)) in
      let l2 : length (((d.instrs ++ c1out) ++ r) ++ c2out) ≡ at_after =
      let a = length-append ((d.instrs ++ c1out) ++ r) c2out in omega (arith, a, l1, length-in plan body) in
      three-set (breaks_in plan before k pc) (breaks_in plan body (t + 1) at_body) (breaks_in plan after u at_after) end
      d.instrs c1 c1out r c2on c2out c3 c3out (outside (Jump pc))
      (λ zs. breaks-set plan before k n end 0 pc d.instrs zs refl)
      (λ zs. breaks-set plan body (t + 1) (n + accesses_in before) end at_after at_body ((d.instrs ++ c1out) ++ r) zs l1)
      (λ zs. breaks-set plan after u (n + accesses_in before + accesses_in body) end 0 at_after (((d.instrs ++ c1out) ++ r) ++ c2out) zs l2)

  before_breaks : breaks_of plan before d ≡ breaks_in plan before k pc
  unfolding breaks_of
  before_breaks = refl

  pub done-loop_with : (mine : Option ℕ) → done plan (loop mine before body after) d
      ≡ ended (breaks_of plan before d ++ breaks_of plan body (ran plan 0 (Turn ∷ []) (done plan before d))
      ++ breaks_of plan after (body_put plan before body d))
      (put (Jump (length d.instrs)) (done plan after (body_put plan before body d)))
  done-loop_with mine =
      let X : Written = put (Jump (length d.instrs)) (done plan after (body_put plan before body d)) in
      done-is plan (loop mine before body after) d
      ∙ sym (ap (λ b. ended (b ++ breaks_of plan body (ran plan 0 (Turn ∷ []) (done plan before d)) ++ breaks_of plan after (body_put plan before body d)) X) before_breaks
      ∙ ap (λ b. ended (breaks_in plan before k pc ++ b ++ breaks_of plan after (body_put plan before body d)) X) body_breaks
      ∙ ap (λ b. ended (breaks_in plan before k pc ++ breaks_in plan body (t + 1) at_body ++ b) X) after_breaks
      ∙ ap (ended (breaks_in plan before k pc ++ breaks_in plan body (t + 1) at_body ++ breaks_in plan after u at_after)) back-done
      ∙ ended-grown _ end d _ _ _ _ length-back out-set)

  pub continues-loop_with : (mine : Option ℕ) → continues_of plan (loop mine before body after) d
      ≡ continues_of plan before d ++ continues_of plan after (body_put plan before body d)
  continues-loop_with mine =
      continues-is plan (loop mine before body after) d
      ∙ ap (λ c. c ++ continues_in plan after u at_after) (sym (continues-is plan before d))
      ∙ ap (λ c. continues_of plan before d ++ c) (sym after_continues)

pub done-loop : (plan : Plan) (mine : Option ℕ) (before body after : Does) (d : Written) →
    done plan (loop mine before body after) d
    ≡ ended (breaks_of plan before d ++ breaks_of plan body (ran plan 0 (Turn ∷ []) (done plan before d))
    ++ breaks_of plan after (body_put plan before body d))
    (put (Jump (length d.instrs)) (done plan after (body_put plan before body d)))
done-loop plan mine before body after d = done-loop_with plan before body after d mine

pub continues-loop : (plan : Plan) (mine : Option ℕ) (before body after : Does) (d : Written) →
    continues_of plan (loop mine before body after) d
    ≡ continues_of plan before d ++ continues_of plan after (body_put plan before body d)
continues-loop plan mine before body after d = continues-loop_with plan before body after d mine

pub breaks-loop : (plan : Plan) (mine : Option ℕ) (before body after : Does) (d : Written) →
    breaks_of plan (loop mine before body after) d ≡ []
unfolding breaks_of
breaks-loop plan mine before body after d = refl
