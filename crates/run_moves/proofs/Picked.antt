-- The picks determine the run, and each entry of it is a move.
use mathlib.Core.List.{reverse-reverse}
use Rattle.std.proofs.Common.{◌≡◌, ℕ, zero, suc, ◌<◌, List, [], ◌∷◌, length, reverse, Some, refl, sym, ap, ◌∙◌, subst, inl, inr, ⊎_elim, arith}
use Rattle.std.specs.Prelude.{slice_get, ◌%◌}
use Rattle.std.proofs.lemmas.Bool.{cases_lt}
use Rattle.effect_order.specs.Lists.{In}
use Rattle.sc_isa.specs.declared.journal.Entry.{Entry}
use Rattle.fabric.specs.Asked.{Machine}
use Rattle.run_moves.specs.Moves.{moves}
use Rattle.run_moves.specs.Simulated.{IsPicked}
use Rattle.run_moves.specs.Laws.{PicksDetermineTheRun}

pub got_in : {X : Type 0} (xs : List X) (k : ℕ) (x : X) → slice_get xs k ≡ Some x → In x xs
got_in [] k x e = cc
got_in (y ∷ ys) zero x e = inl cc
got_in (y ∷ ys) (suc k) x e = inr (got_in ys k x e)

module _ (machine : Machine) (picks : ℕ → ℕ) where
  abbrev Picked : List Entry → Type 0
  Picked past = IsPicked machine picks past

  same_head : (e f : Entry) (past : List Entry) → Picked (e ∷ past) → Picked (f ∷ past) → e ≡ f
  same_head e f past p q = let a = p.0 in let b = q.0 in cc

  same : (one other : List Entry) → length one ≡ length other → Picked one → Picked other → one ≡ other
  same [] [] n p q = refl
  same [] (f ∷ other) n p q = absurd (omega arith)
  same (e ∷ one) [] n p q = absurd (omega arith)
  same (e ∷ one) (f ∷ other) n p q =
      let h : one ≡ other = same one other (omega arith) p.1 q.1 in
      let x : e ≡ f = same_head e f other (subst (λ u. Picked (e ∷ u)) h p) q in
      rw (x, h) refl

  over_stays : (one other : List Entry) → moves machine one ≡ [] → Picked one → Picked other → length one < length other → ⊥
  over_stays one [] m p q lt = absurd (omega arith)
  over_stays one (f ∷ other) m p q lt = ⊎_elim
      (λ l. over_stays one other m p q.1 l)
      (λ g. let h : one ≡ other = same one other (omega arith) p q.1 in
      none (moves machine other) (picks (length other) % length (moves machine other)) (subst (λ u. moves machine u ≡ []) h m) q.0)
      (cases_lt (length one) (length other))
    where
      none : (xs : List Entry) (k : ℕ) → xs ≡ [] → slice_get xs k ≡ Some f → ⊥
      none [] k e h = cc
      none (x ∷ xs) k e h = cc

  determined : (one other : List Entry) → moves machine one ≡ [] → moves machine other ≡ [] → Picked one → Picked other → one ≡ other
  determined one other m n p q = ⊎_elim
      (λ lt. absurd (over_stays one other m p q lt))
      (λ le. ⊎_elim (λ lt. absurd (over_stays other one n q p lt)) (λ ge. same one other (omega arith) p q) (cases_lt (length other) (length one)))
      (cases_lt (length one) (length other))

pub picks_determine_the_run : PicksDetermineTheRun
picks_determine_the_run machine picks one other a b =
    let h = determined machine picks (reverse one) (reverse other) a.is_over b.is_over a.picked b.picked in
    sym (reverse-reverse one) ∙ ap reverse h ∙ reverse-reverse other
