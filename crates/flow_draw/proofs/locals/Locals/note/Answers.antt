use Rattle.std.proofs.Common.{◌≡◌, ◌∙◌, refl, ℕ, List, slice_get, Some, true, false}
use Rattle.flow_draw.proofs.Noting.{before, found-at, new-at}
use Rattle.flow_draw.proofs.locals.Locals.note.Goals as goal

pub returns-then-stands_at : goal.returns-then-stands_at
returns-then-stands_at c =
    let e : c.count_before-at.result ≡ before c.args.number c.args.self.now = cc in
    let stands : slice_get c.as_slice-2.result.now c.count_before-at.result ≡ Some c.args.number = c.if-stands_at.ensures.0 refl in
    let h : slice_get c.args.self.now c.count_before-at.result ≡ Some c.args.number = cc in
    found-at c.args.number c.count_before-at.result c.args.self.now e h

stands_not : (n at : ℕ) (xs ys : List ℕ) → xs ≡ ys → (slice_get xs at ≡ Some n → ⊥) → slice_get ys at ≡ Some n → ⊥
stands_not n at xs ys e h k = h (cc)

pub returns : goal.returns
returns c =
    let e : c.count_before-at.result ≡ before c.args.number c.args.self.now = cc in
    let same : c.as_slice-2.result.now ≡ c.args.self.now = cc in
    let items : c.self.inside.numbers.items ≡ c.args.self.now = cc in
    c.in_ok-insert.ensures.items ∙ (rw items
    (new-at c.args.number c.count_before-at.result c.args.self.now e
    (stands_not c.args.number c.count_before-at.result c.as_slice-2.result.now c.args.self.now same
    (λ k. let e : false ≡ true = c.if-stands_at.ensures.1 k in cc))))
