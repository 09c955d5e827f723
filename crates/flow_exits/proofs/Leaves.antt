-- How each form of statement is left, one at a time.
use Rattle.std.proofs.Common.{◌≡◌, refl, sym, ap, ◌∙◌, ℕ, ◌+◌, List, [], ◌∷◌, ◌++◌, Option, arith, append_assoc}
use Rattle.std.proofs.lemmas.List.{append-nil}
use Rattle.sc_core.specs.declared.operation.Action.{Action}
use Rattle.sc_core.specs.Core.{Core, Arguments, Does, nothing, break, continue, then_, act, choose, loop, return}
use Rattle.sc_core.specs.ViewStatements.{Armed, block_of, chosen}
use Rattle.sc_meaning.specs.Points.{size, size_of}
use Rattle.flow_form.specs.declared.count.Count.{Count}
use Rattle.flow_form.specs.Accesses.{accesses_by_action}
use Rattle.flow_form.specs.Exits.{Left, leaves}
use Rattle.flow_form.specs.Counts.{with_more, counted, counted_all, counted_in}
use Rattle.flow_exits.specs.declared.leaving.Leaving.{Leaving}
use Rattle.flow_exits.specs.Leaving.{nowhere, left, again_from, left_value, left_values, left_point, left_return, left_break, left_continue, left_block, opened, left_end, left_arm, left_arms, joined, leaving_from, inside, on_again, back_to, closed}

abbrev Leaving_at : (points sites : ℕ) → (froms breaks continues ends : List ℕ) → Leaving
Leaving_at p s f b c e = record { count = record { points = p; sites = s }; froms = f; breaks = b; continues = c; ends = e }

leaving_same : (p q s t : ℕ) (f f' b b' c c' e : List ℕ) → p ≡ q → s ≡ t → f ≡ f' → b ≡ b' → c ≡ c'
    → Leaving_at p s f b c e ≡ Leaving_at q t f' b' c' e
leaving_same p q s t f f' b b' c c' e ep es ef eb ec =
    ap (λ n. Leaving_at n s f b c e) ep ∙ ap (λ n. Leaving_at q n f b c e) es ∙ ap (λ n. Leaving_at q t n b c e) ef
    ∙ ap (λ n. Leaving_at q t f' n c e) eb ∙ ap (λ n. Leaving_at q t f' b' n e) ec

two : {a b c d : List ℕ} → a ≡ b → c ≡ d → a ++ c ≡ b ++ d
two {a = a} {d = d} e f = ap (λ x. a ++ x) f ∙ ap (λ x. x ++ d) e

pub left-nothing : (l : Leaving) → left nothing l ≡ l
unfolding left counted_in with_more
left-nothing l = leaving_same _ l.count.points _ l.count.sites l.froms l.froms _ l.breaks _ l.continues l.ends
    (omega arith) (omega arith) refl (append-nil l.breaks) (append-nil l.continues)

pub left-break : (l : Leaving) → left break l ≡ left_break l
unfolding left left_break counted_in with_more
left-break l = leaving_same _ l.count.points _ l.count.sites [] [] (l.breaks ++ l.froms) (l.breaks ++ l.froms) _ l.continues l.ends
    (omega arith) (omega arith) refl refl (append-nil l.continues)

pub left-continue : (l : Leaving) → left continue l ≡ left_continue l
unfolding left left_continue counted_in with_more
left-continue l = leaving_same _ l.count.points _ l.count.sites [] [] _ l.breaks (l.continues ++ l.froms) (l.continues ++ l.froms) l.ends
    (omega arith) (omega arith) refl (append-nil l.breaks) refl

pub left-then : (first second : Does) (l : Leaving) → left (then_ first second) l ≡ left second (left first l)
unfolding left counted_in with_more
left-then first second l =
    let a = leaves nowhere first l.count.points l.froms in
    let b = leaves nowhere second (l.count.points + size_of first) a.falls in
    leaving_same _ _ _ _ b.falls b.falls (l.breaks ++ (a.breaks ++ b.breaks)) _ (l.continues ++ (a.continues ++ b.continues)) _ l.ends
    (omega arith) (omega arith) refl (sym (append_assoc l.breaks a.breaks b.breaks)) (sym (append_assoc l.continues a.continues b.continues))

pub left-act : (action : Action) (arguments : Arguments) (line : ℕ) (l : Leaving) →
    left (act action arguments line) l ≡ left_point (accesses_by_action action) (left_values arguments l)
unfolding left left_point left_values counted_in counted_all with_more
left-act action arguments line l = leaving_same _ _ _ _ _ _ (l.breaks ++ []) l.breaks (l.continues ++ []) l.continues l.ends
    (omega arith) (omega arith) refl (append-nil l.breaks) (append-nil l.continues)

pub left-return : (e : Core) (line : ℕ) (l : Leaving) → left (return e line) l ≡ left_return (left_value e l)
unfolding left left_return left_value counted_in counted with_more
left-return e line l = leaving_same _ _ _ _ [] [] (l.breaks ++ []) l.breaks (l.continues ++ []) l.continues l.ends
    (omega arith) (omega arith) refl (append-nil l.breaks) (append-nil l.continues)

-- ---- blocks

pub block-none : (l : Leaving) → left_block [] l ≡ l
unfolding left_block
block-none l = refl

pub block-on : (d : Does) (more : List Does) (l : Leaving) → left_block (d ∷ more) l ≡ left_block more (left d l)
unfolding left_block
block-on d more l = refl

pub left-block : (all : List Does) (l : Leaving) → left (block_of all) l ≡ left_block all l
unfolding left_block
left-block [] l = left-nothing l
left-block (d ∷ more) l = left-then d (block_of more) l ∙ left-block more (left d l)

-- ---- an `if`

pub arms-none : (l : Leaving) → left_arms [] l ≡ l
unfolding left_arms
arms-none l = refl

pub arms-on : (a : Armed) (more : List Armed) (l : Leaving) → left_arms (a ∷ more) l ≡ left_arms more (left_arm a l)
unfolding left_arms
arms-on a more l = refl

-- an arm before the others
choose_on : (a : Armed) (d : Does) (outer : List ℕ) (l : Leaving) →
    record (left d (left_arm a l)) { froms = (left_arm a l).ends ++ (left d (left_arm a l)).froms; ends = outer }
    ≡ record (left (choose a.of_pointer a.test a.body d) l) { froms = l.ends ++ (left (choose a.of_pointer a.test a.body d) l).froms; ends = outer }
unfolding left left_arm left_end left_point left_value counted_in counted with_more
choose_on a d outer l =
    let t = l.count.points + size a.test in
    let x = leaves nowhere a.body (t + 1) (t ∷ []) in
    let y = leaves nowhere d (t + 1 + size_of a.body) (t ∷ []) in
    leaving_same _ _ _ _ ((l.ends ++ x.falls) ++ y.falls) (l.ends ++ (x.falls ++ y.falls)) ((l.breaks ++ x.breaks) ++ y.breaks) _
    ((l.continues ++ x.continues) ++ y.continues) _ outer
    (omega arith) (omega arith) (append_assoc l.ends x.falls y.falls) (append_assoc l.breaks x.breaks y.breaks)
    (append_assoc l.continues x.continues y.continues)

chosen_on : (arms : List Armed) (rest : Does) (outer : List ℕ) (l : Leaving) →
    joined outer (left rest (left_arms arms l))
    ≡ record (left (chosen arms rest) l) { froms = l.ends ++ (left (chosen arms rest) l).froms; ends = outer }
unfolding joined left_arms left
chosen_on [] rest outer l = refl
chosen_on (a ∷ more) rest outer l = chosen_on more rest outer (left_arm a l) ∙ choose_on a (chosen more rest) outer l

pub left-chosen : (arms : List Armed) (rest : Does) (l : Leaving) →
    left (chosen arms rest) l ≡ joined l.ends (left rest (left_arms arms (opened l)))
unfolding left opened
left-chosen arms rest l = sym (chosen_on arms rest l.ends (opened l))

pub point-value : (e : Core) (l : Leaving) → (left_value e l).count.points ≡ l.count.points + size e
unfolding left_value counted with_more
point-value e l = refl

-- ---- a loop

pub left-loop : (mine : Option ℕ) (before body after : Does) (l : Leaving) →
    left (loop mine before body after) l
    ≡ closed (left before (back_to l (left after (on_again (left body (inside (counted_in before l.count))))).froms))
    (left after (on_again (left body (inside (counted_in before l.count))))) l
unfolding left closed back_to on_again inside leaving_from counted_in with_more
left-loop mine before body after l =
    let t = l.count.points + size_of before in
    let b = leaves nowhere body (t + 1) (t ∷ []) in
    let c = leaves nowhere after (t + 1 + size_of body) (b.falls ++ b.continues) in
    let a = leaves nowhere before l.count.points (l.froms ++ c.falls) in
    leaving_same _ _ _ _ ((a.breaks ++ b.breaks) ++ c.breaks) (a.breaks ++ (b.breaks ++ c.breaks)) (l.breaks ++ []) l.breaks
    (l.continues ++ (a.continues ++ c.continues)) _ l.ends
    (omega arith) (omega arith) (append_assoc a.breaks b.breaks c.breaks) (append-nil l.breaks) refl

pub again-is : (before body after : Does) (c : Count) →
    again_from before body after c ≡ (left after (on_again (left body (inside (counted_in before c))))).froms
unfolding again_from left on_again inside leaving_from counted_in with_more
again-is before body after c = refl

pub ruleset forms = (left-nothing, left-break, left-continue, left-act, left-return, left-block, left-chosen, left-loop)

pub ruleset chains = (block-none, block-on, arms-none, arms-on)

pub ruleset tests = (point-value)

pub ruleset turns = (again-is)

-- ---- where functions return says nothing of how statements are left

abbrev pub Alike : {r q : ℕ → List ℕ} → Left r → Left q → Type 0
Alike a b = (a.falls ≡ b.falls) × (a.breaks ≡ b.breaks) × (a.continues ≡ b.continues)

module _ (r q : ℕ → List ℕ) where
  pub leaves_alike : (d : Does) (k : ℕ) (froms : List ℕ) → Alike (leaves r d k froms) (leaves q d k froms)
  leaves_alike nothing k froms = (refl, refl, refl)
  leaves_alike break k froms = (refl, refl, refl)
  leaves_alike continue k froms = (refl, refl, refl)
  leaves_alike (then_ first second) k froms =
      let a = leaves_alike first k froms in
      let m = k + size_of first in
      let x = (leaves r first k froms).falls in
      let y = (leaves q first k froms).falls in
      let b = leaves_alike second m y in (
        ap (λ z. (leaves r second m z).falls) a.0 ∙ b.0,
        ap (λ z. (leaves r first k froms).breaks ++ (leaves r second m z).breaks) a.0
            ∙ ap (λ z. z ++ (leaves r second m y).breaks) a.1 ∙ ap (λ z. (leaves q first k froms).breaks ++ z) b.1,
        ap (λ z. (leaves r first k froms).continues ++ (leaves r second m z).continues) a.0
            ∙ ap (λ z. z ++ (leaves r second m y).continues) a.2 ∙ ap (λ z. (leaves q first k froms).continues ++ z) b.2,
      )
  leaves_alike (act action arguments line) k froms = (refl, refl, refl)
  leaves_alike (choose of_pointer test on off) k froms =
      let t = k + size test in
      let a = leaves_alike on (t + 1) (t ∷ []) in
      let b = leaves_alike off (t + 1 + size_of on) (t ∷ []) in
      (two a.0 b.0, two a.1 b.1, two a.2 b.2)
  leaves_alike (loop mine before body after) k froms =
      let t = k + size_of before in
      let u = t + 1 + size_of body in
      let b = leaves_alike body (t + 1) (t ∷ []) in
      let i = (leaves r body (t + 1) (t ∷ [])).falls ++ (leaves r body (t + 1) (t ∷ [])).continues in
      let j = (leaves q body (t + 1) (t ∷ [])).falls ++ (leaves q body (t + 1) (t ∷ [])).continues in
      let ij : i ≡ j = two b.0 b.2 in
      let c = leaves_alike after u j in
      let cf : (leaves r after u i).falls ≡ (leaves q after u j).falls = ap (λ z. (leaves r after u z).falls) ij ∙ c.0 in
      let cb : (leaves r after u i).breaks ≡ (leaves q after u j).breaks = ap (λ z. (leaves r after u z).breaks) ij ∙ c.1 in
      let cc' : (leaves r after u i).continues ≡ (leaves q after u j).continues = ap (λ z. (leaves r after u z).continues) ij ∙ c.2 in
      let m = froms ++ (leaves r after u i).falls in
      let n = froms ++ (leaves q after u j).falls in
      let mn : m ≡ n = ap (λ z. froms ++ z) cf in
      let a = leaves_alike before k n in
      let ab : (leaves r before k m).breaks ≡ (leaves q before k n).breaks = ap (λ z. (leaves r before k z).breaks) mn ∙ a.1 in
      let ac : (leaves r before k m).continues ≡ (leaves q before k n).continues = ap (λ z. (leaves r before k z).continues) mn ∙ a.2 in
      (two (two ab b.1) cb, refl, two ac cc')
  leaves_alike (return e line) k froms = (refl, refl, refl)
