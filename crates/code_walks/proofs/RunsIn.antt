-- The runs of the points are those of the items.
use Rattle.std.proofs.Common.{◌≡◌, ℕ, suc, ◌+◌, List, [], ◌∷◌, ◌++◌, length, map, Some, slice_get, refl, sym, ap, ◌∙◌, subst, arith}
use Rattle.sc_isa.specs.declared.op.Op.{Op}
use Rattle.site_graph.specs.declared.plan.Plan.{Plan}
use Rattle.site_graph.specs.Plans.{waits_at}
use Rattle.node_emit.specs.Spelled.{Piece, Outside, Opens, Within, of_points, in_order}
use Rattle.node_emit.specs.Carries.{length_or_none, run_length}
use Rattle.emit_laws.proofs.Items.{Item, glue, runs, all_pieces}
use Rattle.code_walks.proofs.Chains.{AreLong}

-- it begins with no further instruction of a run
abbrev pub BeginsNew : List Piece → Type 0
BeginsNew [] = Unit {0}
BeginsNew (Outside o ∷ more) = Unit {0}
BeginsNew (Opens t o ∷ more) = Unit {0}
BeginsNew (Within t o ∷ more) = ⊥

record Split (more others : List Op) (P Q : List Piece) : Type 0 where
  pub same : more ≡ others
  pub rest : P ≡ Q

split : (t u : ℕ) (more others : List Op) (P Q : List Piece) → BeginsNew P → BeginsNew Q → map (Within t) more ++ P ≡ map (Within u) others ++ Q → Split more others P Q
split t u [] [] P Q p q e = record { same = refl; rest = e }
split t u [] (o ∷ others) P Q p q e = absurd (subst BeginsNew e p)
split t u (o ∷ more) [] P Q p q e = absurd (subst BeginsNew (sym e) q)
split t u (o ∷ more) (o' ∷ others) P Q p q e =
    let same : o ≡ o' = cc in
    let tail : map (Within t) more ++ P ≡ map (Within u) others ++ Q = cc in
    let h = split t u more others P Q p q tail in
    record { same = ap (λ x. x ∷ more) same ∙ ap (λ l. o' ∷ l) h.same; rest = h.rest }

order_begins : (k : ℕ) (rs : List (List Op)) → BeginsNew (in_order k rs)
order_begins k [] = tt
order_begins k ([] ∷ rs) = order_begins (k + 1) rs
order_begins k ((o ∷ more) ∷ rs) = tt

module _ (plan : Plan) where
  points_begin : (is : List Item) → BeginsNew (of_points (all_pieces plan is))
  points_begin [] = tt
  points_begin (glue o ∷ is) = points_begin is
  points_begin (runs t line o more ∷ is) = tt

  of_within : (t : ℕ) (more : List Op) (rest : List Piece) → of_points (map (Within t) more ++ rest) ≡ map (Within t) more ++ of_points rest
  of_within t [] rest = refl
  of_within t (o ∷ more) rest = ap (λ l. Within t o ∷ l) (of_within t more rest)

  record Place (k t : ℕ) (rs : List (List Op)) (ops : List Op) : Type 0 where
    pub number : ℕ
    pub point : t ≡ k + number
    pub is : slice_get rs number ≡ Some ops

  abbrev RunsFrom : (k : ℕ) → List (List Op) → List Item → Type 0
  RunsFrom k rs [] = Unit {0}
  RunsFrom k rs (glue o ∷ is) = RunsFrom k rs is
  RunsFrom k rs (runs t line o more ∷ is) = Place k t rs (o ∷ more) × RunsFrom k rs is

  later : (k : ℕ) (r : List Op) (rs : List (List Op)) (is : List Item) → RunsFrom (k + 1) rs is → RunsFrom k (r ∷ rs) is
  later k r rs [] h = tt
  later k r rs (glue o ∷ is) h = later k r rs is h
  later k r rs (runs t line o more ∷ is) h =
      let p = h.0 in
      (record { number = suc p.number; point = omega (arith, p.point); is = p.is }, later k r rs is h.1)

  none_from : (k : ℕ) (is : List Item) → of_points (all_pieces plan is) ≡ [] → RunsFrom k [] is
  none_from k [] e = tt
  none_from k (glue o ∷ is) e = none_from k is e
  none_from k (runs t line o more ∷ is) e = absurd (cc)

  one_from : (k : ℕ) (o : Op) (more : List Op) (rs : List (List Op)) (is : List Item)
      → ((is : List Item) → of_points (all_pieces plan is) ≡ in_order (k + 1) rs → RunsFrom (k + 1) rs is)
      → of_points (all_pieces plan is) ≡ in_order k ((o ∷ more) ∷ rs) → RunsFrom k ((o ∷ more) ∷ rs) is
  one_from k o more rs [] next e = tt
  one_from k o more rs (glue x ∷ is) next e = one_from k o more rs is next e
  one_from k o more rs (runs t line x others ∷ is) next e =
      let f : Opens t x ∷ (map (Within t) others ++ of_points (all_pieces plan is)) ≡ Opens k o ∷ (map (Within k) more ++ in_order (k + 1) rs) =
      ap (λ l. Opens t x ∷ l) (sym (of_within t others (all_pieces plan is))) ∙ e in
      let point : t ≡ k = cc in
      let first : x ≡ o = cc in
      let tail : map (Within t) others ++ of_points (all_pieces plan is) ≡ map (Within k) more ++ in_order (k + 1) rs = cc in
      let s = split t k others more (of_points (all_pieces plan is)) (in_order (k + 1) rs) (points_begin is) (order_begins (k + 1) rs) tail in (
        record { number = 0; point = omega (arith, point); is = ap (λ l. Some l) (sym (ap (λ y. y ∷ others) first ∙ ap (λ l. o ∷ l) s.same)) },
        later k (o ∷ more) rs is (next is s.rest),
      )

  runs_from : (rs : List (List Op)) (k : ℕ) (is : List Item) → of_points (all_pieces plan is) ≡ in_order k rs → RunsFrom k rs is
  runs_from [] k is e = none_from k is e
  runs_from ([] ∷ rs) k is e = later k [] rs is (runs_from rs (k + 1) is e)
  runs_from ((o ∷ more) ∷ rs) k is e = one_from k o more rs is (λ is e. runs_from rs (k + 1) is e) e

  -- each run in the items is that of its point
  abbrev pub AreRuns : List (List Op) → List Item → Type 0
  AreRuns rs [] = Unit {0}
  AreRuns rs (glue o ∷ is) = AreRuns rs is
  AreRuns rs (runs t line o more ∷ is) = (slice_get rs t ≡ Some (o ∷ more)) × AreRuns rs is

  of_from : (rs : List (List Op)) (is : List Item) → RunsFrom 0 rs is → AreRuns rs is
  of_from rs [] h = tt
  of_from rs (glue o ∷ is) h = of_from rs is h
  of_from rs (runs t line o more ∷ is) h =
      let p = h.0 in
      let e : p.number ≡ t = omega (arith, p.point) in
      (subst (λ n. slice_get rs n ≡ Some (o ∷ more)) e p.is, of_from rs is h.1)

  pub are_runs : (rs : List (List Op)) (is : List Item) → of_points (all_pieces plan is) ≡ in_order 0 rs → AreRuns rs is
  are_runs rs is e = of_from rs is (runs_from rs 0 is e)

  pub are_long : (rs : List (List Op)) (is : List Item) → AreRuns rs is → AreLong plan (run_length plan rs) is
  are_long rs [] h = tt
  are_long rs (glue o ∷ is) h = are_long rs is h
  are_long rs (runs t line o more ∷ is) h = (ap (λ r. length (waits_at plan t) + length_or_none r) h.0, are_long rs is h.1)
