-- What the example sources make node 0 of two pass is a walk along the edges of their flows, and each request is of the
-- kind of the last point passed.
use Rattle.std.proofs.Common.{◌≡◌, ℕ, ◌==◌, ◌&&◌, pos, Bool, true, false, Option, Some, None, List, [], ◌∷◌, refl}
use Rattle.std.specs.Prelude.{filter_map, option_map}
use Rattle.std.specs.List.{list_any}
use Rattle.resumption.specs.Resumption.{run_of}
use Rattle.sc_base.specs.declared.shape.Bound.{Bound}
use Rattle.sc_base.specs.declared.shape.Shape.{Shape}
use Rattle.sc_base.specs.declared.shape.Star.{Star}
use Rattle.sc_base.specs.declared.shape.Star.TheVariants.{Global}
use Rattle.sc_base.specs.declared.value.Value.TheVariants.{Int, Ptr}
use Rattle.sc_layout.specs.Layout.{LaidObject, cells_of}
use Rattle.sc_layout.specs.Place.{place_in}
use Rattle.sc_core.specs.Core.{Program}
use Rattle.sc_meaning.specs.Asking.{Event, Requested, Came, Answer, Shown, Landed, Passed}
use Rattle.sc_meaning.specs.Meaning.{Setting, pointed}
use Rattle.site_graph.specs.declared.point.PointKind.{PointKind}
use Rattle.site_graph.specs.declared.point.PointKind.TheVariants.{Access, Sync, Barrier, StoreSync}
use Rattle.site_graph.specs.declared.site.SiteKind.{SiteKind}
use Rattle.site_graph.specs.declared.site.SiteKind.TheVariants.{Read, Write, Get, Put, Store, Copy}
use Rattle.site_graph.specs.Graph.{Graph, kind_at, site_at}
use Rattle.sc_meaning.specs.declared.request.Request.{Request}
use Rattle.sc_meaning.specs.declared.request.Request.TheVariants as request
use Rattle.flow_form.proofs.ExampleCalls as calls
use Rattle.flow_form.proofs.ExampleLoops as loops
use Rattle.flow_form.proofs.ExampleTransfers as transfers

-- an int object with these bounds, one of one spread dimension, and an ordinary one; and an array of pointers
abbrev bound : ℕ → Bound
bound n = record { steps = []; line = 1 }

abbrev shape : (spread : Bool) → (stars : List Star) → (left : List Bound) → Shape
shape spread stars left = record {
  name = 0;
  ty = record { void = false; stars = stars };
  spread = spread;
  left = left;
  right = [];
  at = 1;
  line = 1;
}

abbrev spread : ℕ → LaidObject
spread n = record { shape = shape true [] (bound n ∷ []); bounds = n ∷ [] }

abbrev pointers : ℕ → LaidObject
pointers n = record { shape = shape true (Global ∷ []) (bound n ∷ []); bounds = n ∷ [] }

abbrev array : ℕ → LaidObject
array n = record { shape = shape false [] (bound n ∷ []); bounds = n ∷ [] }

abbrev single : LaidObject
single = record { shape = shape false [] []; bounds = [] }

abbrev point_in : Event → Option ℕ
point_in (Came point) = Some point
point_in (Requested request) = None

-- what node 0 of two does under these answers, and the points that it passes
abbrev events : List LaidObject → Program → List Answer → List Event
events objects program answers =
    let here : Setting = record { layout = record { nodes = 2; objects = objects }; node = 0; program = program } in
    (run_of (pointed here 9) answers).events

abbrev passes : List LaidObject → Program → List Answer → List ℕ
passes objects program answers = filter_map point_in (events objects program answers)

abbrev goes : Graph → ℕ → ℕ → Bool
goes graph a b = list_any (λ e. (e.from == a) && (e.to == b)) graph.edges

abbrev is_walk : Graph → ℕ → List ℕ → Bool
is_walk graph a [] = true
is_walk graph a (b ∷ rest) = goes graph a b && is_walk graph b rest

abbrev is_walk_from_start : Graph → List ℕ → Bool
is_walk_from_start graph [] = false
is_walk_from_start graph (a ∷ rest) = (a == 0) && is_walk graph a rest

abbrev shows : ℕ → Answer
shows n = Shown (Int (pos n))

-- the second call's argument is 2, so that its loop begins a second turn
abbrev calls_pass_these : List ℕ
calls_pass_these = passes (single ∷ []) calls.source (shows 2 ∷ [])

calls_pass : calls_pass_these ≡
    0 ∷ 15 ∷ 16 ∷ 17 ∷ 18 ∷ 1 ∷ 2 ∷ 3 ∷ 4 ∷ 5 ∷ 6 ∷ 7 ∷ 12 ∷ 13 ∷ 19 ∷ 20 ∷ 21 ∷ 22 ∷
    1 ∷ 2 ∷ 3 ∷ 4 ∷ 5 ∷ 6 ∷ 7 ∷ 8 ∷ 9 ∷ 10 ∷ 11 ∷ 2 ∷ 3 ∷ 4 ∷ 5 ∷ 6 ∷ 7 ∷ 12 ∷ 13 ∷ 23 ∷ 24 ∷ 25 ∷ 26 ∷ []
unfolding place_in cells_of
calls_pass = refl

calls_walk : is_walk_from_start calls.flow calls_pass_these ≡ true
unfolding place_in cells_of
calls_walk = refl

-- the test in the body is true at 0, false at 2, and true at 4, 6 and 8
abbrev loops_pass_these : List ℕ
loops_pass_these =
    passes (spread 9 ∷ single ∷ []) loops.source
    (shows 1 ∷ shows 0 ∷ shows 5 ∷ shows 6 ∷ shows 1 ∷ shows 1 ∷ shows 1 ∷ [])

loops_pass : loops_pass_these ≡
    0 ∷ 1 ∷ 2 ∷ 3 ∷ 4 ∷ 5 ∷ 6 ∷ 7 ∷ 8 ∷ 9 ∷ 10 ∷ 11 ∷ 12 ∷ 23 ∷ 24 ∷ 25 ∷ 26 ∷
    5 ∷ 6 ∷ 7 ∷ 8 ∷ 9 ∷ 10 ∷ 11 ∷ 12 ∷ 13 ∷ 14 ∷ 15 ∷ 16 ∷ 17 ∷ 18 ∷ 19 ∷ 20 ∷ 21 ∷ 22 ∷ 23 ∷ 24 ∷ 25 ∷ 26 ∷
    5 ∷ 6 ∷ 7 ∷ 8 ∷ 9 ∷ 10 ∷ 11 ∷ 12 ∷ 23 ∷ 24 ∷ 25 ∷ 26 ∷ 5 ∷ 6 ∷ 7 ∷ 8 ∷ 9 ∷ 10 ∷ 11 ∷ 12 ∷ 23 ∷ 24 ∷ 25 ∷ 26 ∷
    5 ∷ 6 ∷ 7 ∷ 8 ∷ 9 ∷ 10 ∷ 11 ∷ 12 ∷ 23 ∷ 24 ∷ 25 ∷ 26 ∷ 5 ∷ 6 ∷ 7 ∷ 27 ∷ []
unfolding place_in cells_of
loops_pass = refl

loops_walk : is_walk_from_start loops.flow loops_pass_these ≡ true
unfolding place_in cells_of
loops_walk = refl

-- a `break`, a `continue`, and the old value through a pointer
abbrev update_passes_these : List ℕ
update_passes_these = passes (pointers 4 ∷ single ∷ []) loops.source_2 (Shown (Ptr 1 0 0) ∷ shows 5 ∷ [])

update_passes : update_passes_these ≡ 0 ∷ 1 ∷ 2 ∷ 4 ∷ 5 ∷ 6 ∷ 7 ∷ 8 ∷ 9 ∷ 10 ∷ 11 ∷ 12 ∷ 13 ∷ []
unfolding place_in cells_of
update_passes = refl

update_walk : is_walk_from_start loops.flow_2 update_passes_these ≡ true
unfolding place_in cells_of
update_walk = refl

-- `f` calls itself once
abbrev transfers_pass_these : List ℕ
transfers_pass_these =
    passes (spread 4 ∷ array 4 ∷ []) transfers.source
    (Landed (Int (pos 3) ∷ []) ∷ shows 5 ∷ shows 7 ∷ Passed ∷ shows 1 ∷ shows 0 ∷ Passed ∷ [])

transfers_pass : transfers_pass_these ≡
    0 ∷ 13 ∷ 14 ∷ 15 ∷ 16 ∷ 17 ∷ 18 ∷ 19 ∷ 20 ∷ 21 ∷ 22 ∷ 23 ∷ 24 ∷ 25 ∷ 26 ∷ 27 ∷ 28 ∷ 29 ∷ 30 ∷ 31 ∷ 32 ∷ 33 ∷ 34 ∷
    35 ∷ 36 ∷ 1 ∷ 2 ∷ 3 ∷ 4 ∷ 5 ∷ 6 ∷ 7 ∷ 8 ∷ 9 ∷ 10 ∷ 1 ∷ 2 ∷ 3 ∷ 4 ∷ 5 ∷ 6 ∷ 7 ∷ 8 ∷ 12 ∷ 11 ∷ 12 ∷
    37 ∷ 38 ∷ 39 ∷ 40 ∷ 41 ∷ 42 ∷ 43 ∷ []
unfolding place_in cells_of
transfers_pass = refl

transfers_walk : is_walk_from_start transfers.flow transfers_pass_these ≡ true
unfolding place_in cells_of
transfers_walk = refl

-- ---- requests: what each is, as the kinds of the points have it

abbrev asked_as : Request → PointKind × Option SiteKind
asked_as (request.Read place line) = (Access 0, Some Read)
asked_as (request.Write place value line) = (Access 0, Some Write)
asked_as (request.Get place line) = (Access 0, Some Get)
asked_as (request.Put place value line) = (Access 0, Some Put)
asked_as (request.Store place value line) = (Access 0, Some Store)
asked_as (request.Copy from to cells mode line) = (Access 0, Some (Copy mode))
asked_as (request.Sync line) = (Sync, None)
asked_as (request.Barrier line) = (Barrier, None)
asked_as (request.AllStoreSync line) = (StoreSync, None)

-- an access is that of its site
abbrev point_as : Graph → PointKind → PointKind × Option SiteKind
point_as graph (Access number) = (Access 0, option_map (λ site. site.kind) (site_at graph number))
point_as graph kind = (kind, None)

abbrev requests_as : Graph → (last : ℕ) → List Event → List (PointKind × Option SiteKind)
requests_as graph last [] = []
requests_as graph last (Came point ∷ rest) = requests_as graph point rest
requests_as graph last (Requested request ∷ rest) = point_as graph (kind_at graph last) ∷ requests_as graph last rest

abbrev request_in : Event → Option (PointKind × Option SiteKind)
request_in (Came point) = None
request_in (Requested request) = Some (asked_as request)

abbrev transfers_do : List Event
transfers_do = events (spread 4 ∷ array 4 ∷ []) transfers.source
    (Landed (Int (pos 3) ∷ []) ∷ shows 5 ∷ shows 7 ∷ Passed ∷ shows 1 ∷ shows 0 ∷ Passed ∷ [])

transfers_request : requests_as transfers.flow 0 transfers_do ≡ filter_map request_in transfers_do
unfolding place_in cells_of
transfers_request = refl
