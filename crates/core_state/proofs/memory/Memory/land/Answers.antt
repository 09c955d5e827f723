use Rattle.std.proofs.Common.{◌≡◌, ◌+◌, ◌<◌, ◌≤◌, ℕ, min, length, map, reverse, drop, slice_get, Some, List, [], refl, sym, ap, ◌∙◌, arith}
use Rattle.std.proofs.lemmas.List.{length-map}
use Rattle.std.proofs.lemmas.Option.{slice_get_read, slice_get-map, slice_get-get_or}
use Rattle.std.specs.Option.{option_map}
use Rattle.sc_meaning.specs.Memory.{Slot, Spot, Memory, landed_all}
use Rattle.core_state.specs.Locals.{slot_in, spot_of}
use Rattle.core_state.proofs.Frames.{land_step, land_end}
use Rattle.core_state.proofs.memory.Memory.land.Goals as goal

pub loop-number-preserved : goal.loop-number-preserved
loop-number-preserved c =
    let was = c.loop-number.self in
    let n = c.loop-number.number in
    let items = c.self-in-loop-number.inside.getting.items in
    let spot = c.index-spot.result.now in
    let first : n < length items = omega (
      arith,
      ap (λ v. length v.getting) c.self-in-loop-number.view_is,
      length-map items spot_of,
      ap length c.loop-number.invariant.1,
      ap (λ v. length v.getting) c.self.view_is,
      length-map c.self.inside.getting.items spot_of,
      c.len.ensures,
      c.self.inside.getting.ok.0,
      c.min-count.ensures,
      c.loop-number-test.true,
    ) in
    let second : n < length c.args.values.now = omega (arith, c.min-count.ensures, c.loop-number-test.true) in
    let found : slice_get was.getting n ≡ Some (spot_of spot) =
    ap (λ v. slice_get v.getting n) (sym c.self-in-loop-number.view_is)
    ∙ slice_get-map spot_of items n
    ∙ ap (option_map spot_of) (slice_get_read items (length items) n spot refl first c.index-spot.ensures) in (
      ap (λ g. landed_all (drop (n + 1) g) (drop (n + 1) c.args.values.now) c.put.new.self.frames) c.put.ensures.getting
          ∙ ap (landed_all (drop (n + 1) was.getting) (drop (n + 1) c.args.values.now)) c.put.ensures.frames
          ∙ sym (land_step was.getting c.args.values.now was.frames n (spot_of spot) _ found (slice_get-get_or c.args.values.now n _ second))
          ∙ c.loop-number.invariant.0,
      c.put.ensures.getting ∙ c.loop-number.invariant.1,
    )

pub returns : goal.returns
returns c =
    let was = c.loop-number.self in
    let F : List (List Slot) → List Spot → Memory = λ f g. record { frames = f; getting = g } in
    let over : min (length was.getting) (length c.args.values.now) ≤ c.loop-number.number = omega (
      arith,
      ap length c.loop-number.invariant.1,
      ap (λ v. length v.getting) c.self.view_is,
      length-map c.self.inside.getting.items spot_of,
      c.len.ensures,
      c.self.inside.getting.ok.0,
      c.min-count.ensures,
      c.loop-number-test.false,
    ) in
    ap (λ g. F (reverse (map (map slot_in) c.self-2.inside.frames.items)) (map spot_of g)) c.clear.ensures.items
    ∙ ap (λ f. F f []) (ap (λ v. v.frames) c.self-2.view_is
    ∙ sym (land_end was.getting c.args.values.now was.frames c.loop-number.number over) ∙ c.loop-number.invariant.0)
