use Rattle.std.proofs.Common.{◌≡◌, true, false, bytes_eq, codes, ◌∙◌, rules}
use Rattle.splitc_top.specs.declared.words.Command.TheVariants.{Compile, Delays}
use Rattle.splitc_top.proofs.Named.{compile_named, delays_named}
use Rattle.splitc_top.proofs.words.command_named.Goals as goal

pub returns-in_ok-nodes_alone-in-compile : goal.returns-in_ok-nodes_alone-in-compile
returns-in_ok-nodes_alone-in-compile c =
    let run : bytes_eq c.args.name.now (codes "run") ≡ false = search rules in
    let explain : bytes_eq c.args.name.now (codes "explain") ≡ false = search rules in
    let compile : bytes_eq c.args.name.now (codes "compile") ≡ true = search rules in
    c.in_ok-nodes_alone-in-compile.ensures Compile ∙ compile_named c.args.name.now c.args.options run explain compile

pub returns-in_err-nodes_alone-in-compile : goal.returns-in_err-nodes_alone-in-compile
returns-in_err-nodes_alone-in-compile c =
    let run : bytes_eq c.args.name.now (codes "run") ≡ false = search rules in
    let explain : bytes_eq c.args.name.now (codes "explain") ≡ false = search rules in
    let compile : bytes_eq c.args.name.now (codes "compile") ≡ true = search rules in
    c.from_residual.ensures ∙ c.in_err-nodes_alone-in-compile.ensures Compile ∙ compile_named c.args.name.now c.args.options run explain compile

pub returns-in_ok-nodes_alone-in-delays : goal.returns-in_ok-nodes_alone-in-delays
returns-in_ok-nodes_alone-in-delays c =
    let run : bytes_eq c.args.name.now (codes "run") ≡ false = search rules in
    let explain : bytes_eq c.args.name.now (codes "explain") ≡ false = search rules in
    let compile : bytes_eq c.args.name.now (codes "compile") ≡ false = search rules in
    let delays : bytes_eq c.args.name.now (codes "delays") ≡ true = search rules in
    c.in_ok-nodes_alone-in-delays.ensures Delays ∙ delays_named c.args.name.now c.args.options run explain compile delays

pub returns-in_err-nodes_alone-in-delays : goal.returns-in_err-nodes_alone-in-delays
returns-in_err-nodes_alone-in-delays c =
    let run : bytes_eq c.args.name.now (codes "run") ≡ false = search rules in
    let explain : bytes_eq c.args.name.now (codes "explain") ≡ false = search rules in
    let compile : bytes_eq c.args.name.now (codes "compile") ≡ false = search rules in
    let delays : bytes_eq c.args.name.now (codes "delays") ≡ true = search rules in
    c.from_residual-in_err-nodes_alone-in-delays.ensures ∙ c.in_err-nodes_alone-in-delays.ensures Delays ∙ delays_named c.args.name.now c.args.options run explain compile delays
