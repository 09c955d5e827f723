use Rattle.std.proofs.Common.{◌≡◌, true, false, Some, None, bytes_eq, string_bytes, codes, ◌∙◌, sym, rules}
use Rattle.splitc_top.specs.Words.{with_memory, with_option}
use Rattle.splitc_top.proofs.Options.{after_memory, after_option}
use Rattle.splitc_top.proofs.words.options_of.Goals as goal

pub returns-in_err-options : goal.returns-in_err-options
returns-in_err-options c =
    let named : bytes_eq (string_bytes c.in-Some.name.now) (codes "-m") ≡ true = search rules in
    let none : None ≡ with_memory c.loop-name.options = c.in_err-options.ensures in
    c.from_residual.ensures ∙ sym (after_memory c.args.words.now c.loop-name.rest.now c.in-Some.after.now c.in-Some.name.now _ c.loop-name.options _ c.loop-name.invariant c.in-Some.ensures.cases.0 named none)

pub loop-name-preserved-then-eq : goal.loop-name-preserved-then-eq
loop-name-preserved-then-eq c =
    let named : bytes_eq (string_bytes c.in-Some.name.now) (codes "-m") ≡ true = search rules in
    after_memory c.args.words.now c.loop-name.rest.now c.in-Some.after.now c.in-Some.name.now _ c.loop-name.options _ c.loop-name.invariant c.in-Some.ensures.cases.0 named c.in_ok-options.ensures

pub returns-in_err-options-2 : goal.returns-in_err-options-2
returns-in_err-options-2 c =
    let named : bytes_eq (string_bytes c.in-Some.name.now) (codes "-m") ≡ false = search rules in
    let none : None ≡ with_option (string_bytes c.in-Some.name.now) (string_bytes c.in_ok-word.word.now) c.loop-name.options = search rules in
    c.from_residual-in_err-options-2.ensures ∙ sym (after_option c.args.words.now c.loop-name.rest.now c.in-Some.after.now c.in_ok-word.after.now c.in-Some.name.now c.in_ok-word.word.now _ c.loop-name.options _ c.loop-name.invariant c.in-Some.ensures.cases.0 c.in_ok-word.ensures.cases.0 named none)

pub loop-name-preserved : goal.loop-name-preserved
loop-name-preserved c =
    let named : bytes_eq (string_bytes c.in-Some.name.now) (codes "-m") ≡ false = search rules in
    after_option c.args.words.now c.loop-name.rest.now c.in-Some.after.now c.in_ok-word.after.now c.in-Some.name.now c.in_ok-word.word.now _ c.loop-name.options (Some c.in_ok-options-2.options) c.loop-name.invariant c.in-Some.ensures.cases.0 c.in_ok-word.ensures.cases.0 named (search rules)
