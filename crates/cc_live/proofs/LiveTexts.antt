-- What is told of a live run behind other texts.
use Rattle.std.proofs.Common.{◌≡◌, ℕ, true, List, ◌++◌, Option, Some, None, refl, sym, ap, append_assoc}
use Rattle.cc_base.specs.Literals.{Literal}
use Rattle.cc_base.specs.declared.literal.Op.{Op}
use Rattle.cc_base.specs.declared.literal.Op.TheVariants as operations
use Rattle.cc_core.specs.Typing.{base_taken}
use Rattle.cc_device.specs.Events.{Event, Operated, Entered, Ended, Exited, literal_shown}
use Rattle.cc_live.specs.LiveRuns.{Live, asked_text, argument_of, told_text, behind_text}
use Rattle.cc_replay.specs.RunTexts.{event_text}
use Rattle.cc_runs.specs.Machine.{is_taken}
use Rattle.cc_runs.specs.Soundness.{OperatesNoDevice}

-- one text behind another
pub both_behind : (first second : List ℕ) (it : Live) → behind_text first (behind_text second it) ≡ behind_text (first ++ second) it
both_behind first second it = ap (λ t. record { text = t; standing = it.standing }) (sym (append_assoc first second it.text))

-- an operation that takes nothing has no argument
none_taken : (argument : Option Literal) → is_taken None argument ≡ true → None ≡ argument
none_taken None taken = refl
none_taken (Some literal) taken = cc

some_taken : (argument : Option Literal) (op : Op) (answer : Literal) → is_taken (base_taken op) argument ≡ true
    → argument_of op (literal_shown argument answer) ≡ argument
some_taken (Some literal) operations.Print answer taken = refl
some_taken (Some literal) operations.Say answer taken = refl
some_taken (Some literal) operations.Read answer taken = cc
some_taken (Some literal) operations.Write answer taken = refl
some_taken (Some literal) operations.Tick answer taken = cc
some_taken None operations.Print answer taken = cc
some_taken None operations.Say answer taken = cc
some_taken None operations.Read answer taken = refl
some_taken None operations.Write answer taken = cc
some_taken None operations.Tick answer taken = refl

-- what is told of an operation's event is what was told when it was asked
pub told_again : (names : List (List ℕ)) (n : ℕ) (op : Op) (argument : Option Literal) (answer : Literal) → is_taken (base_taken op) argument ≡ true
    → told_text names (Operated n op (literal_shown argument answer)) ≡ asked_text names n op argument
told_again names n op argument answer taken = ap (asked_text names n op) (some_taken argument op answer taken)

-- any other event is told as in a trace
pub told_as_traced : (names : List (List ℕ)) (event : Event) → OperatesNoDevice (Some event) → told_text names event ≡ event_text names event
told_as_traced names (Operated n op l) silent = absurd silent
told_as_traced names (Entered label) silent = refl
told_as_traced names (Ended label) silent = refl
told_as_traced names (Exited label) silent = refl
