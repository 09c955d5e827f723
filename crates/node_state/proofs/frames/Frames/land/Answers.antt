use Rattle.std.proofs.Common.{◌≡◌, ◌++◌, List, length, map, reverse, take, drop, ap, sym, ◌∙◌, ℕ}
use Rattle.std.proofs.lemmas.List.{drop-map, take-map, length-map}
use Rattle.sc_isa.specs.declared.operand.Operand.{Operand}
use Rattle.sc_isa.specs.declared.operand.Slot.{Slot}
use Rattle.sc_isa.specs.State.{land, land_slot, land_frame}
use Rattle.node_state.specs.Frames.{frames_below}
use Rattle.node_state.proofs.Segments.{written}
use Rattle.node_state.proofs.Landings.{top_lands, below_lands}
use Rattle.node_state.proofs.frames.Frames.land.Goals as goal

-- what stands in a list after it was lent as a slice, all of which was mapped
lent : {A : Type 0} → (f : A → A) (items slice new : List A) (len : ℕ) → slice ≡ items → length slice ≡ len → new ≡ map f slice
    → take len (new ++ drop (length new) items) ≡ map f items
lent f items slice new len e n m =
    let same : new ≡ map f items = m ∙ ap (map f) e in
    written items new len (sym n ∙ ap length e) (ap length same ∙ length-map items f) ∙ same

pub returns-clause-stack : goal.returns-clause-stack
returns-clause-stack c =
    let f : Operand → Operand = land c.args.counter c.args.values.now in
    let whole = lent f c.self.inside.stack.items c.as_mut_slice.result.now c.land_operands.new.operands c.self.inside.stack.len
    c.as_mut_slice.ensures.value c.as_mut_slice.ensures.len c.land_operands.ensures in
    ap (λ xs. reverse (drop c.self.inside.base xs)) whole
    ∙ top_lands c.args.counter c.args.values.now c.self.inside.base c.self.inside.stack.items
    ∙ ap (λ v. map f v.stack) c.self.view_is

pub returns-clause-locals : goal.returns-clause-locals
returns-clause-locals c =
    let f : Slot → Slot = land_slot c.args.counter c.args.values.now in
    let whole = lent f c.self.inside.slots.items c.as_mut_slice-2.result.now c.land_slots.new.slots c.self.inside.slots.len
    c.as_mut_slice-2.ensures.value c.as_mut_slice-2.ensures.len c.land_slots.ensures in
    ap (drop c.self.inside.first) whole ∙ drop-map f c.self.inside.first c.self.inside.slots.items
    ∙ ap (λ v. map f v.locals) c.self.view_is

pub returns-clause-callers : goal.returns-clause-callers
returns-clause-callers c =
    let f : Operand → Operand = land c.args.counter c.args.values.now in
    let g : Slot → Slot = land_slot c.args.counter c.args.values.now in
    let whole = lent f c.self.inside.stack.items c.as_mut_slice.result.now c.land_operands.new.operands c.self.inside.stack.len
    c.as_mut_slice.ensures.value c.as_mut_slice.ensures.len c.land_operands.ensures in
    let all = lent g c.self.inside.slots.items c.as_mut_slice-2.result.now c.land_slots.new.slots c.self.inside.slots.len
    c.as_mut_slice-2.ensures.value c.as_mut_slice-2.ensures.len c.land_slots.ensures in
    let stack = ap (take c.self.inside.base) whole ∙ take-map f c.self.inside.base c.self.inside.stack.items in
    let slots = ap (take c.self.inside.first) all ∙ take-map g c.self.inside.first c.self.inside.slots.items in
    ap (λ xs. frames_below xs (take c.self.inside.first (take c.self.inside.slots.len (c.land_slots.new.slots
    ++ drop (length c.land_slots.new.slots) c.self.inside.slots.items))) (reverse c.self.inside.callers.items)) stack
    ∙ ap (λ xs. frames_below (map f (take c.self.inside.base c.self.inside.stack.items)) xs (reverse c.self.inside.callers.items)) slots
    ∙ below_lands c.args.counter c.args.values.now (take c.self.inside.base c.self.inside.stack.items)
    (take c.self.inside.first c.self.inside.slots.items) (reverse c.self.inside.callers.items)
    ∙ ap (λ v. map (land_frame c.args.counter c.args.values.now) v.callers) c.self.view_is
