-- The points of statements and functions, in order. k is the number of the first of them, s says how many sites come
-- before, and `froms` are the points from which a statement is entered.
use Rattle.std.specs.Prelude.{ℕ, ◌+◌, List, [], ◌∷◌, ◌++◌, ◌==◌, Option, Some, None, if◌then◌else◌}
use Rattle.std.specs.List.{list_any}
use Rattle.sc_core.specs.Core.{Does, nothing, break, continue, then_, act, choose, loop, return, Function}
use Rattle.sc_meaning.specs.Points.{size, sizes, size_of}
use Rattle.site_graph.specs.declared.point.PointKind.TheVariants.{Plain, Return}
use Rattle.flow_form.specs.Within.{Within, Placed}
use Rattle.flow_form.specs.Accesses.{accesses, accesses_all, accesses_in}
use Rattle.flow_form.specs.Written.{written_in}
use Rattle.flow_form.specs.Occurring.{occurring, occurring_all}
use Rattle.flow_form.specs.Steps.{bare, action_at}
use Rattle.flow_form.specs.Exits.{fetched, fetched_all, exits, exits_all, leaves, returns_in}
use Rattle.flow_form.specs.Expressions.{points, points_all, test_at}

-- the local of a `for_my_1d`, where neither its body nor its bound writes it
abbrev pub mine_in : (mine : Option ℕ) → (before body : Does) → List ℕ
mine_in None before body = []
mine_in (Some x) before body = if list_any (λ y. x == y) (written_in before ++ written_in body) then [] else x ∷ []

-- with the local of the loop around, in its body
abbrev pub in_loop : Within → (mine : Option ℕ) → (before body : Does) → Within
in_loop w mine before body = record w { mines = mine_in mine before body ++ w.mines }

abbrev pub points_in : Within → Does → (k s : ℕ) → (froms : List ℕ) → List Placed
points_in w nothing k s froms = []
points_in w break k s froms = []
points_in w continue k s froms = []
points_in w (then_ first second) k s froms =
    points_in w first k s froms ++
    points_in w second (k + size_of first) (s + accesses_in first) (leaves w.returns first k froms).falls
points_in w (act action arguments line) k s froms =
    points_all w arguments k s froms ++
    action_at w action arguments line (k + sizes arguments) (s + accesses_all arguments)
    (exits_all w.returns arguments k froms) (fetched_all arguments s) (occurring_all w.params arguments) ∷ []
points_in w (choose of_pointer test on off) k s froms =
    let t = k + size test in
    let s' = s + accesses test in
    points w test k s froms ++ test_at w test k s froms ∷ points_in w on (t + 1) s' (t ∷ []) ++
    points_in w off (t + 1 + size_of on) (s' + accesses_in on) (t ∷ [])
points_in w (loop mine before body after) k s froms =
    let t = k + size_of before in
    let u = t + 1 + size_of body in
    let s_body = s + accesses_in before in
    let from_body = leaves w.returns body (t + 1) (t ∷ []) in
    let into_after = from_body.falls ++ from_body.continues in
    let into_before = froms ++ (leaves w.returns after u into_after).falls in
    points_in w before k s into_before ++ bare w Plain t (leaves w.returns before k into_before).falls [] [] ∷
    points_in (in_loop w mine before body) body (t + 1) s_body (t ∷ []) ++
    points_in w after u (s_body + accesses_in body) into_after
points_in w (return e line) k s froms =
    points w e k s froms ++
    bare w Return (k + size e) (exits w.returns e k froms) (fetched e s) (occurring w.params e) ∷ []

-- ---- functions

-- the point at which the body ends, where the function's first point is k
abbrev pub end_of : Function → (k : ℕ) → ℕ
end_of f k = k + 1 + size_of f.body

-- the points at which the function returns
abbrev pub returns_of : Function → (k : ℕ) → List ℕ
returns_of f k = returns_in f.body (k + 1) ++ end_of f k ∷ []

-- the first point, to which calls lead; the body; and its end
abbrev pub points_of : Within → Function → (k s : ℕ) → List Placed
points_of w f k s =
    bare w Plain k [] [] [] ∷ points_in w f.body (k + 1) s (k ∷ []) ++
    bare w Return (end_of f k) (leaves w.returns f.body (k + 1) (k ∷ [])).falls [] [] ∷ []
