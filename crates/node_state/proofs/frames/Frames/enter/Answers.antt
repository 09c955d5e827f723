use Rattle.std.proofs.Common.{◌≡◌, ◌+◌, ◌-◌, ◌≤◌, ℕ, List, ◌∷◌, ◌++◌, length, map, reverse, take, drop, replicate, ap, ◌∙◌, arith, length-drop, rules}
use Rattle.std.proofs.lemmas.List.{length-reverse}
use Rattle.sc_isa.specs.declared.operand.Operand.{Operand}
use Rattle.sc_isa.specs.declared.operand.Slot.{Slot}
use Rattle.sc_isa.specs.declared.operand.Slot.TheVariants.{Holds}
use Rattle.sc_isa.specs.State.{Frame, blank}
use Rattle.node_state.specs.Frames.{frames_below}
use Rattle.node_state.proofs.Segments.{cut_slice, cut_left}
use Rattle.node_state.proofs.Entering.{below_entered, locals_entered, slots_below}
use Rattle.node_state.proofs.frames.Frames.enter.Goals as goal

abbrev frame_of : ℕ → List Operand → List Slot → Frame
frame_of at stack locals = record { at = at; stack = stack; locals = locals }

pub returns-clause-locals : goal.returns-clause-locals
returns-clause-locals c =
    let xs = c.self.inside.stack.items in
    let base = c.self.inside.base in
    let seen = ap (λ v. v.stack) c.self.view_is in
    let within : base + c.args.params ≤ length xs =
    omega (arith, ap length seen, length-reverse (drop base xs), length-drop base xs) in
    let blanks : List Slot = replicate (c.args.locals - c.args.params) blank in
    let arguments : List Slot = map Holds (reverse (take c.args.params c.args.self.now.stack)) in
    let operands = cut_slice xs c.as_slice.result.now base c.args.params c.len.result within c.as_slice.ensures.value
    (c.len.ensures ∙ c.self.inside.stack.ok.0) ∙ ap (λ v. reverse (take c.args.params v.stack)) c.self.view_is in
    locals_entered c.self.inside.slots.items c.add_arguments.new.slots.items c.add_blanks.new.slots.items arguments blanks
    c.len-first.result (c.len-first.ensures ∙ c.self.inside.slots.ok.0)
    (c.add_arguments.ensures.items ∙ ap (λ ops. c.self.inside.slots.items ++ map Holds ops) operands) (search rules)

pub returns-clause-callers : goal.returns-clause-callers
returns-clause-callers c =
    let xs = c.self.inside.stack.items in
    let base = c.self.inside.base in
    let begin = c.len.result - c.args.params in
    let len : c.len.result ≡ length xs = c.len.ensures ∙ c.self.inside.stack.ok.0 in
    let seen = ap (λ v. v.stack) c.self.view_is in
    let within : base + c.args.params ≤ length xs =
    omega (arith, ap length seen, length-reverse (drop base xs), length-drop base xs) in
    let blanks : List Slot = replicate (c.args.locals - c.args.params) blank in
    let below : take c.len-first.result c.add_blanks.new.slots.items ≡ c.self.inside.slots.items =
    slots_below c.self.inside.slots.items c.add_arguments.new.slots.items c.add_blanks.new.slots.items _ blanks
    c.len-first.result (c.len-first.ensures ∙ c.self.inside.slots.ok.0) c.add_arguments.ensures.items (search rules) in
    let above = below_entered xs c.truncate.new.self.items c.self.inside.slots.items c.add_blanks.new.slots.items
    c.self.inside.callers.items c.push_reserved.new.self.items
    (record { at = c.args.at; base = c.self.inside.base; first = c.self.inside.first }) begin c.len-first.result
    (omega arith) c.truncate.ensures.items below c.push_reserved.ensures.items in
    let top : reverse (drop base (take begin xs)) ≡ drop c.args.params c.args.self.now.stack =
    ap (λ n. reverse (drop base (take (n - c.args.params) xs))) len ∙ cut_left xs base c.args.params within
    ∙ ap (drop c.args.params) seen in
    let locals : List Slot = drop c.self.inside.first c.self.inside.slots.items in
    let rest : List Frame = frames_below (take base xs) (take c.self.inside.first c.self.inside.slots.items)
    (reverse c.self.inside.callers.items) in
    above ∙ ap (λ s. frame_of c.args.at s locals ∷ rest) top
    ∙ ap (λ v. frame_of c.args.at (drop c.args.params c.args.self.now.stack) v.locals ∷ v.callers) c.self.view_is
