-- What is written of runs, each form once, beside the console `out`, the counter `hits` and the file `data`.
use Rattle.std.specs.Prelude.{◌≡◌, ℕ, pos, negsuc, codes, true, false, List, [], ◌∷◌, ◌++◌}
use Rattle.cc_base.specs.Literals.{UnitLiteral, TruthLiteral, NumberLiteral, TextLiteral}
use Rattle.cc_base.specs.declared.literal.Op.TheVariants as operations
use Rattle.cc_device.specs.Endings.{ShownLiteral, ShownFunction, ShownTypeFunction, ShownBox, ShownDevice, ShownLabel}
use Rattle.cc_device.specs.Endings.{Done, OutOfFuel}
use Rattle.cc_device.specs.Events.{Operated, Entered, Ended, Exited}
use Rattle.cc_runs.specs.Runs.{Ends, IsStopped}
use Rattle.cc_replies.specs.ReplyTexts.{is_unfinished}
use Rattle.cc_replies.specs.TaskTexts.{of_task}
use Rattle.cc_replay.specs.RunTexts.{authority_text, event_text, shown_text, ending_text, end_text}

-- the names of the devices
abbrev pub names : List (List ℕ)
names = codes "out" ∷ codes "hits" ∷ codes "data" ∷ []

-- what a run may operate
pub record AuthorityTexts : Type 0 where
  pub none : authority_text names [] ≡ codes "authority {}"
  pub one : authority_text names (1 ∷ []) ≡ codes "authority {hits}"
  pub three : authority_text names (0 ∷ 1 ∷ 2 ∷ []) ≡ codes "authority {out, hits, data}"

-- events: a device with its operation, and what it took or answered; and boundaries by their labels
pub record EventTexts : Type 0 where
  pub prints : event_text names (Operated 0 operations.Print (NumberLiteral (pos 5))) ≡ codes "out print 5"
  pub prints_below_zero :
      event_text names (Operated 0 operations.Print (NumberLiteral (negsuc 4))) ≡ codes "out print -5"
  -- a text stands without its quotes
  pub says : event_text names (Operated 0 operations.Say (TextLiteral (codes "two words"))) ≡ codes "out say two words"
  -- and is written as bytes
  pub says_two_bytes :
      event_text names (Operated 0 operations.Say (TextLiteral (codes "é"))) ≡ codes "out say " ++ 195 ∷ 169 ∷ []
  pub says_nothing : event_text names (Operated 0 operations.Say (TextLiteral [])) ≡ codes "out say "
  pub reads : event_text names (Operated 2 operations.Read (NumberLiteral (pos 3))) ≡ codes "data read 3"
  pub writes : event_text names (Operated 2 operations.Write (NumberLiteral (pos 7))) ≡ codes "data write 7"
  pub ticks : event_text names (Operated 1 operations.Tick (NumberLiteral (pos 12))) ≡ codes "hits tick 12"
  -- no operation takes or answers these
  pub unit : event_text names (Operated 1 operations.Tick UnitLiteral) ≡ codes "hits tick unit"
  pub truth : event_text names (Operated 1 operations.Tick (TruthLiteral true)) ≡ codes "hits tick true"
  pub enters : event_text names (Entered 0) ≡ codes "enter 0"
  pub leaves : event_text names (Ended 1) ≡ codes "leave 1"
  pub exits : event_text names (Exited 10) ≡ codes "exit 10"

-- values
pub record ValueTexts : Type 0 where
  pub unit : shown_text names (ShownLiteral UnitLiteral) ≡ codes "unit"
  pub yes : shown_text names (ShownLiteral (TruthLiteral true)) ≡ codes "true"
  pub no_truth : shown_text names (ShownLiteral (TruthLiteral false)) ≡ codes "false"
  pub number : shown_text names (ShownLiteral (NumberLiteral (pos 120))) ≡ codes "120"
  pub below_zero : shown_text names (ShownLiteral (NumberLiteral (negsuc 0))) ≡ codes "-1"
  -- a text stands in its quotes
  pub text : shown_text names (ShownLiteral (TextLiteral (codes "a b"))) ≡ codes "\"a b\""
  pub bytes : shown_text names (ShownLiteral (TextLiteral (codes "é"))) ≡ 34 ∷ 195 ∷ 169 ∷ 34 ∷ []
  pub function : shown_text names ShownFunction ≡ codes "<function>"
  pub type_function : shown_text names ShownTypeFunction ≡ codes "<type function>"
  pub box_text : shown_text names ShownBox ≡ codes "<box>"
  pub device : shown_text names (ShownDevice 1) ≡ codes "<device hits>"
  pub exit : shown_text names (ShownLabel 3) ≡ codes "<exit 3>"

-- ends, with the steps that were taken, and whether each tells that the run did not come to its end
pub record EndTexts : Type 0 where
  pub done : end_text names (Ends (Done ShownFunction)) 20 ≡ codes "done <function> after 20 steps"
  pub one_step : end_text names (Ends (Done (ShownLiteral UnitLiteral))) 1 ≡ codes "done unit after 1 steps"
  pub out_of_fuel : end_text names (Ends OutOfFuel) 0 ≡ codes "out of fuel after 0 steps"
  pub stuck : end_text names IsStopped 3 ≡ codes "stuck after 3 steps"
  pub done_is_finished : is_unfinished (Ends (Done ShownBox)) ≡ false
  pub out_of_fuel_is_not : is_unfinished (Ends OutOfFuel) ≡ true
  pub stuck_is_not : is_unfinished IsStopped ≡ true

-- a task by its number
pub record TaskTexts : Type 0 where
  pub ending : of_task 1 (ending_text names (Ends OutOfFuel)) ≡ codes "1 out of fuel"
  pub event : of_task 10 (event_text names (Entered 2)) ≡ codes "10 enter 2"
