-- Operands of `&&` and `||`, and updates, as they are drawn.
use Rattle.std.proofs.Common.{◌≡◌, refl, sym, ap, ◌∙◌, ℕ, Bool, List, [], ◌∷◌, ◌++◌, append_assoc}
use Rattle.sc_core.specs.Core.{Core, choice}
use Rattle.sc_core.specs.Places.{number_one, number_zero}
use Rattle.sc_core.specs.View.{Tested, every_of, any_of}
use Rattle.flow_form.specs.declared.scan.Entry.{Entry}
use Rattle.flow_form.specs.Within.{Within}
use Rattle.flow_draw.specs.declared.drawing.Drawing.{Drawing}
use Rattle.flow_draw.specs.Noted.{noted}
use Rattle.flow_draw.specs.Drawn.{drawn}
use Rattle.flow_draw.specs.Drawings.{beside, noting, passed, tested, test_point, turned, met, met_after, every_from, any_from}
use Rattle.flow_draw.proofs.Joining.{after-none, after-last}
use Rattle.flow_draw.proofs.Grown.{drawn-constant}
use Rattle.flow_draw.proofs.Chained.{drawn-choice}

module _ (entries : List Entry) where
  -- ---- operands

  draws-one : (w : Within) (d : Drawing) → drawn entries w number_one d ≡ d
  unfolding noting noted
  draws-one w d = drawn-constant entries w _ d

  draws-zero : (w : Within) (d : Drawing) → drawn entries w number_zero d ≡ d
  unfolding noting noted
  draws-zero w d = drawn-constant entries w _ d

  -- a test leads on from its point
  tested-leads : (w : Within) (e : Core) (d : Drawing) → (tested entries w e d).froms ≡ test_point entries w e d ∷ []
  unfolding tested test_point passed beside
  tested-leads w e d = refl

  turned-again : (t : ℕ) (d : Drawing) → d.froms ≡ t ∷ [] → turned t d ≡ d
  unfolding turned
  turned-again t d e = ap (λ fs. record d { froms = fs }) (sym e)

  met-more : (ways : List ℕ) (t : ℕ) (d : Drawing) → met ways (met (t ∷ []) d) ≡ met (ways ++ t ∷ []) d
  unfolding met
  met-more ways t d = ap (λ fs. record d { froms = fs }) (sym (append_assoc ways (t ∷ []) d.froms))

  met-none : (d : Drawing) → met [] d ≡ d
  unfolding met
  met-none d = refl

  any-step : (w : Within) (of_pointer : Bool) (e more : Core) (d : Drawing) →
      drawn entries w (choice of_pointer e number_one more) d
      ≡ met (test_point entries w e d ∷ []) (drawn entries w more (tested entries w e d))
  any-step w of_pointer e more d =
      let t = test_point entries w e d in
      let x = tested entries w e d in
      drawn-choice entries w of_pointer e number_one more d
      ∙ ap (λ y. met y.froms (drawn entries w more (turned t y))) (draws-one w x)
      ∙ ap (λ y. met x.froms (drawn entries w more y)) (turned-again t x (tested-leads w e d))
      ∙ ap (λ fs. met fs (drawn entries w more x)) (tested-leads w e d)

  any-from : (w : Within) (ways : List ℕ) (all : List Tested) (d : Drawing) →
      any_from entries w ways all d ≡ met ways (drawn entries w (any_of all) d)
  unfolding any_from
  any-from w ways [] d = ap (met ways) (sym (draws-zero w d))
  any-from w ways (t ∷ more) d =
      let p = test_point entries w t.e d in
      any-from w (ways ++ p ∷ []) more (tested entries w t.e d)
      ∙ sym (met-more ways p (drawn entries w (any_of more) (tested entries w t.e d)))
      ∙ ap (met ways) (sym (any-step w t.of_pointer t.e (any_of more) d))

  pub drawn-any : (w : Within) (all : List Tested) (d : Drawing) → drawn entries w (any_of all) d ≡ any_from entries w [] all d
  drawn-any w all d = sym (any-from w [] all d ∙ met-none (drawn entries w (any_of all) d))

  pub any-none : (w : Within) (ways : List ℕ) (d : Drawing) → any_from entries w ways [] d ≡ met ways d
  unfolding any_from
  any-none w ways d = refl

  pub any-on : (w : Within) (ways : List ℕ) (t : Tested) (more : List Tested) (d : Drawing) →
      any_from entries w ways (t ∷ more) d
      ≡ any_from entries w (ways ++ test_point entries w t.e d ∷ []) more (tested entries w t.e d)
  unfolding any_from
  any-on w ways t more d = refl

  meets-at : (t : ℕ) (d : Drawing) → met d.froms (turned t d) ≡ record d { froms = d.froms ++ t ∷ [] }
  unfolding met turned
  meets-at t d = refl

  every-step : (w : Within) (of_pointer : Bool) (e more : Core) (d : Drawing) →
      drawn entries w (choice of_pointer e more number_zero) d
      ≡ record (drawn entries w more (tested entries w e d)) {
        froms = (drawn entries w more (tested entries w e d)).froms ++ test_point entries w e d ∷ [];
      }
  every-step w of_pointer e more d =
      let t = test_point entries w e d in
      let y = drawn entries w more (tested entries w e d) in
      drawn-choice entries w of_pointer e more number_zero d ∙ ap (met y.froms) (draws-zero w (turned t y)) ∙ meets-at t y

  every-from : (w : Within) (ways : List ℕ) (all : List Tested) (d : Drawing) →
      every_from entries w ways all d ≡ met_after ways (drawn entries w (every_of all) d)
  unfolding every_from
  every-from w ways [] d = ap (met_after ways) (sym (draws-one w d))
  every-from w ways (t ∷ more) d =
      let p = test_point entries w t.e d in
      every-from w (ways ++ p ∷ []) more (tested entries w t.e d)
      ∙ after-last ways p (drawn entries w (every_of more) (tested entries w t.e d))
      ∙ ap (met_after ways) (sym (every-step w t.of_pointer t.e (every_of more) d))

  pub drawn-every : (w : Within) (all : List Tested) (d : Drawing) → drawn entries w (every_of all) d ≡ every_from entries w [] all d
  drawn-every w all d = sym (every-from w [] all d ∙ after-none (drawn entries w (every_of all) d))

  pub every-none : (w : Within) (ways : List ℕ) (d : Drawing) → every_from entries w ways [] d ≡ met_after ways d
  unfolding every_from
  every-none w ways d = refl

  pub every-on : (w : Within) (ways : List ℕ) (t : Tested) (more : List Tested) (d : Drawing) →
      every_from entries w ways (t ∷ more) d
      ≡ every_from entries w (ways ++ test_point entries w t.e d ∷ []) more (tested entries w t.e d)
  unfolding every_from
  every-on w ways t more d = refl
