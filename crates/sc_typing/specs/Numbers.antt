-- The numbers of the typing rules, under which refusals name them.
use Rattle.std.specs.Prelude.{ℕ}
use Rattle.sc_typing.specs.declared.rule.Rule.{Rule}
use Rattle.sc_typing.specs.declared.rule.Rule.TheVariants as rules

abbrev pub rule_number : Rule → ℕ
rule_number rules.DeclaredOnce = 1
rule_number rules.Declared = 2
rule_number rules.LibraryName = 3
rule_number rules.Main = 4
rule_number rules.Prototype = 5
rule_number rules.Called = 6
rule_number rules.Indices = 7
rule_number rules.Index = 8
rule_number rules.Ints = 9
rule_number rules.Comparison = 10
rule_number rules.Sum = 11
rule_number rules.Test = 12
rule_number rules.Pointer = 13
rule_number rules.Address = 14
rule_number rules.Assignment = 15
rule_number rules.Update = 16
rule_number rules.SplitAssignment = 17
rule_number rules.Store = 18
rule_number rules.Arguments = 19
rule_number rules.Return = 20
rule_number rules.Loop = 21
rule_number rules.Format = 22
rule_number rules.LibraryArguments = 23
rule_number rules.Use = 24
