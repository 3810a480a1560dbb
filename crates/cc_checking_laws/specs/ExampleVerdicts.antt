-- Worked verdicts. The definitions, with their texts and places, are those of the examples of checking, or stand in the
-- file of example definitions.
use Rattle.std.specs.Prelude.{◌≡◌, []}
use Rattle.cc_base.specs.declared.code.Code.TheVariants.{E13, E14, E15, E16, E17, E18}
use Rattle.cc_base.specs.declared.literal.Base.TheVariants as bases
use Rattle.cc_capture.specs.declared.var.Elem.TheVariants.{Cap}
use Rattle.cc_capture.specs.Sets.{empty}
use Rattle.cc_core.specs.Shapes.{BaseShape, FunctionShape, CapturingType, capturing}
use Rattle.cc_core.specs.Terms.{Written}
use Rattle.cc_core.specs.Contexts.{Context}
use Rattle.cc_core.specs.Substitution.{single}
use Rattle.cc_checking.specs.ComparisonExamples.{number, nothing, printing, first, parameter, with_console}
use Rattle.cc_checking.specs.Verdicts.{Definition, Accepted, IsAccepted, IsRefused, HasVerdict}
use Rattle.cc_checking.specs.ExampleChecks.{place, from_nothing, console, console_given, box_of_cap_opened, printing_again}
use Rattle.cc_checking_laws.specs.ExampleDefinitions.{with_devices, both_devices, pure_printer, content_of_cap}
use Rattle.cc_checking_laws.specs.ExampleDefinitions.{widened_and_narrowed, exit_that_would_leave}
use Rattle.cc_checking_laws.specs.ExampleDefinitions.{boxed_exit_that_would_leave, called_twice, depending}
use Rattle.cc_checking_laws.specs.ExampleDefinitions.{not_depending}
use Rattle.cc_checking_laws.specs.ExampleDefinitions.{opened_for_a_parameter, opened_for_nothing, counting}
use Rattle.cc_checking_laws.specs.ExampleDefinitions.{counting_down, after_down, counting_from_three, after_main}
use Rattle.cc_checking_laws.specs.ExampleDefinitions.{printing_for_ever, passed_to, passing_itself, identity}
use Rattle.cc_checking_laws.specs.ExampleDefinitions.{identity_shape, after_identity}
use Rattle.cc_checking_laws.specs.ExampleDefinitions.{opened_after_identity, nested_boundaries, after_two, chosen}
use Rattle.cc_checking_laws.specs.ExampleDefinitions.{tower, taking_tower, taking_tower_inside, unit_applied}
use Rattle.cc_checking_laws.specs.ExampleDefinitions.{name_in_bound, wrong_twice, impure_and_wrong}

-- def k: (x: Unit) -> Console = fun (x: Unit) => out
-- What captures a console is not pure.
abbrev pub ConsoleGivenIsRefused : Type 0
ConsoleGivenIsRefused = HasVerdict 1 with_console console_given (IsRefused E15 (place 1 31))

-- def a = fun (x: Box[Int]) => unbox {cap} x
-- No box is opened under the universal capability.
abbrev pub BoxOfCapIsRefused : Type 0
BoxOfCapIsRefused = HasVerdict 0 [] box_of_cap_opened (IsRefused E16 (place 1 30))

-- def rec f: (u: Unit) -> Unit = fun (u: Unit) => val w = out.print(1); f(u)
-- The first demand holds, and f is not pure, since it prints.
abbrev pub PrintingAgainIsRefused : Type 0
PrintingAgainIsRefused = HasVerdict 1 with_console printing_again (IsRefused E15 (place 1 32))

-- a pure type for a function that prints
abbrev pub PurePrinterIsRefused : Type 0
PurePrinterIsRefused = HasVerdict 2 with_devices pure_printer (IsRefused E15 (place 1 27))

-- The set of a box's content became the universal capability.
abbrev pub ContentOfCapIsRefused : Type 0
ContentOfCapIsRefused = HasVerdict 2 with_devices content_of_cap (IsRefused E16 (place 3 4))

-- an exit may not leave its boundary, neither in a function nor in a box
abbrev pub ExitMayNotLeave : Type 0
ExitMayNotLeave = HasVerdict 2 with_devices exit_that_would_leave (IsRefused E15 (place 3 5))

abbrev pub BoxedExitMayNotLeave : Type 0
BoxedExitMayNotLeave = HasVerdict 2 with_devices boxed_exit_that_would_leave (IsRefused E15 (place 2 42))

-- The hole is filled with the universal capability, which is not below the console.
abbrev pub OpenedForAParameterIsRefused : Type 0
OpenedForAParameterIsRefused = HasVerdict 1 with_console opened_for_a_parameter (IsRefused E15 (place 3 33))

-- a unit is no function
abbrev pub UnitAppliedIsRefused : Type 0
UnitAppliedIsRefused = HasVerdict 2 with_devices unit_applied (IsRefused E13 (place 1 26))

-- a name in a bound cannot be avoided
abbrev pub NameInBoundIsRefused : Type 0
NameInBoundIsRefused = HasVerdict 2 with_devices name_in_bound (IsRefused E17 (place 1 26))

-- a type of size 4,097, and one inside of another term: the parts are tested before the whole
abbrev pub TowerIsTooLarge : Type 0
TowerIsTooLarge = HasVerdict 2 with_devices (taking_tower 11) (IsRefused E18 (place 1 9))

abbrev pub TowerInsideIsTooLarge : Type 0
TowerInsideIsTooLarge = HasVerdict 2 with_devices (taking_tower_inside 11) (IsRefused E18 (place 1 26))

-- what is written is compared before the body is inferred, and judged after all is
abbrev pub WrittenTypesComeFirst : Type 0
WrittenTypesComeFirst = HasVerdict 2 with_devices wrong_twice (IsRefused E14 (place 1 39))

abbrev pub DemandsAreJudgedLast : Type 0
DemandsAreJudgedLast = HasVerdict 2 with_devices impure_and_wrong (IsRefused E13 (place 1 82))

-- the definition is accepted after others, and this is the type that others see
abbrev pub IsAcceptedAs : Context → Definition → CapturingType → Type 0
IsAcceptedAs globals definition signature =
    (accepted : Accepted) × HasVerdict 2 globals definition (IsAccepted accepted) × (accepted.signature ≡ signature)

-- g: (_0: Console^{cap}) -> ((_1: (_1: Int) -> Unit) -> Unit)^{_0}
abbrev pub WidenedAndNarrowed : Type 0
WidenedAndNarrowed =
    IsAcceptedAs with_devices widened_and_narrowed
    (capturing (FunctionShape console (single Cap) (FunctionShape printing empty nothing empty) (single parameter))
    empty)

-- main: ((_0: Unit) -> (_1: ((_1: Int) -> Unit)^{out, hits}) -> Unit)^{out, hits}
abbrev pub CalledTwiceFillsWithBoth : Type 0
CalledTwiceFillsWithBoth =
    IsAcceptedAs with_devices called_twice
    (capturing (FunctionShape nothing empty (FunctionShape printing both_devices nothing empty) empty) both_devices)

-- main: (_0: Console^{cap}) -> (_1: ((_1: Int) -> Unit)^{cap}) -> Unit
abbrev pub OneHoleFillsTheOther : Type 0
OneHoleFillsTheOther =
    IsAcceptedAs with_devices depending
    (capturing (FunctionShape console (single Cap) (FunctionShape printing (single Cap) nothing empty) empty) empty)

-- main: (_0: Console^{cap}) -> (_1: (_1: Int) -> Unit) -> Unit
abbrev pub NothingFillsTheHoles : Type 0
NothingFillsTheHoles =
    IsAcceptedAs with_devices not_depending
    (capturing (FunctionShape console (single Cap) (FunctionShape printing empty nothing empty) empty) empty)

-- main: ((_0: Console^{cap}) -> ((_1: (_1: Int) -> Unit) -> Unit)^{out})^{out}
abbrev pub OpenedForNothing : Type 0
OpenedForNothing =
    IsAcceptedAs with_devices opened_for_nothing
    (capturing (FunctionShape console (single Cap) (FunctionShape printing empty nothing empty) (single first))
    (single first))

-- down: (_0: Int) -> Int; main: (_0: Unit) -> Int; loop: ((_0: Unit) -> Unit)^{out}
abbrev pub CountingDown : Type 0
CountingDown = IsAcceptedAs with_devices counting_down (capturing counting empty)

abbrev pub CountingFromThree : Type 0
CountingFromThree = IsAcceptedAs after_down counting_from_three (capturing (from_nothing number empty) empty)

abbrev pub PrintingForEver : Type 0
PrintingForEver = IsAcceptedAs after_main printing_for_ever (capturing (from_nothing nothing empty) (single first))

-- what is accepted of it: f's omitted set is empty
abbrev pub itself_passed : Accepted
itself_passed =
    record {
      note = Written (from_nothing nothing empty) empty;
      filled = passed_to empty;
      type = capturing (from_nothing nothing empty) empty;
      signature = capturing (from_nothing nothing empty) empty;
    }

-- The name of a recursive definition is no global: it forces what its declared set has, which is nothing.
abbrev pub OwnNamesAreNoGlobals : Type 0
OwnNamesAreNoGlobals = HasVerdict 2 with_devices passing_itself (IsAccepted itself_passed)

-- id: [_T0 <: Any] -> (_1: _T0) -> _T0^{_1}; main: ((_0: Unit) -> Int)^{out}
abbrev pub Identity : Type 0
Identity = IsAcceptedAs with_devices identity (capturing identity_shape empty)

abbrev pub OpenedAfterIdentity : Type 0
OpenedAfterIdentity =
    IsAcceptedAs after_identity opened_after_identity (capturing (from_nothing number empty) (single first))

-- main: ((_0: Unit) -> Unit)^{out}
abbrev pub NestedBoundaries : Type 0
NestedBoundaries =
    IsAcceptedAs with_devices nested_boundaries (capturing (from_nothing nothing empty) (single first))

-- c: ((_0: Bool) -> ((_1: Int) -> Unit)^{out, hits})^{out, hits}
abbrev pub ChosenHasBothSets : Type 0
ChosenHasBothSets =
    IsAcceptedAs after_two chosen
    (capturing (FunctionShape (BaseShape bases.Bool) empty printing both_devices) both_devices)

-- a type of size 2,049 is not too large
abbrev pub LowerTower : Type 0
LowerTower =
    IsAcceptedAs with_devices (taking_tower 10) (capturing (FunctionShape (tower 10) empty nothing empty) empty)
