-- What a turn does that asks, and one that does not.
use Rattle.std.proofs.Common.{◌≡◌, ℕ, true, false, List, [], ◌∷◌, ◌++◌, Option, Some, None, Result, Ok, Err, refl, sym, ap, subst, ◌∙◌, arith, append_assoc, append-nil}
use Rattle.std.specs.Io.KnownBytes.{Appends}
use Rattle.cc_device.specs.Endings.{End}
use Rattle.cc_device.specs.Events.{Event}
use Rattle.cc_io.proofs.PassedPieces.{front_none, front_second, passed_nothing}
use Rattle.cc_io.specs.Pieces.{IsPassedOn, Streams}
use Rattle.cc_io.specs.Wholes.{AppendsFront}
use Rattle.cc_io.specs.declared.whole.ReadAll.TheVariants as read_errors
use Rattle.cc_io.specs.declared.whole.WriteAll.{WriteAll}
use Rattle.cc_line_reading.specs.LineReading.{Held}
use Rattle.cc_live.proofs.HeardLines.{hears_nothing, no_memory_behind}
use Rattle.cc_live.proofs.LiveSteps.{turn_waits, turn_begins, turn_advances}
use Rattle.cc_live.specs.LiveRuns.{told_line, stopped_text}
use Rattle.cc_live.specs.LiveTurns.{turn_of, question_line, end_line, SaysOf, HearsLine, TakesTurn, AdvancesTo}
use Rattle.cc_live.specs.declared.running.LiveError.TheVariants as errors
use Rattle.cc_live.specs.declared.running.Said.TheVariants as said
use Rattle.cc_machine.specs.Asking.{Question, question_in}
use Rattle.cc_machine.specs.Reports.{HasEnd}
use Rattle.cc_machine.specs.Standing.{StandsSoundly}
use Rattle.cc_replay.proofs.LineByLine.{ending_held}
use Rattle.cc_replay.specs.RunTexts.{event_text, end_text}
use Rattle.cc_runs.specs.Machine.{Configuration, Next, step}
use Rattle.cc_runs.specs.Runs.{Ends}
use Rattle.cc_words.specs.Lines.{Line}

-- where nothing waits, all is appended
appended_whole : (a b : Option (List ℕ)) (before between text : List ℕ) → IsPassedOn a b before between text → between ≡ [] → Appends a b (before ++ text)
appended_whole a b before between text passed empty =
    subst (Appends a b) (sym (append-nil passed.gone) ∙ ap (λ t. passed.gone ++ t) (sym empty) ∙ passed.all) passed.appended

appended_front : (a b : Option (List ℕ)) (text : List ℕ) → Appends a b text → AppendsFront a b text
appended_front a b text appended = subst (AppendsFront a b) (append-nil text) (front_second a b b text [] appended (front_none b []))

module _ (names : List (List ℕ)) (steps : ℕ) (held : Configuration) (q : Question) (asked : Some q ≡ question_in (step held))
    (old : Held) (left : Option (List ℕ)) (count : ℕ) (before after : Option (List ℕ)) (waiting between : List ℕ) where
  -- the question was not told
  module _ (front : AppendsFront before after (waiting ++ question_line names q)) where
    pub told_no_further : TakesTurn (turn_of names steps held) held old old left left count count before after waiting between (Err errors.WriteFault)
    told_no_further = record {
      heard = [];
      within = tt;
      text = question_line names q;
      listens = hears_nothing old left;
      counts = omega arith;
      tells = front;
      comes = λ later. turn_begins names steps held q asked later [];
    }

    pub told_without_memory : TakesTurn (turn_of names steps held) held old old left left count count before after waiting between (Err errors.NoMemory)
    told_without_memory = record {
      heard = [];
      within = tt;
      text = question_line names q;
      listens = no_memory_behind old old left left [] (hears_nothing old left);
      counts = omega arith;
      tells = front;
      comes = λ later. turn_begins names steps held q asked later [];
    }

  module _ (passed : IsPassedOn before after waiting between (question_line names q)) (empty : between ≡ [])
      (new : Held) (rest : Option (List ℕ)) (counted : ℕ) (line : Line) where
    -- no line was heard
    pub read_no_further : HearsLine old new left rest count counted line (Err read_errors.ReadFault)
        → TakesTurn (turn_of names steps held) held old new left rest count counted before after waiting between (Err errors.ReadFault)
    read_no_further fails = record {
      heard = [];
      within = tt;
      text = question_line names q;
      listens = record { between = old; rest = left; first = hears_nothing old left; fails = fails.0 };
      counts = omega (arith, fails.1);
      tells = appended_whole before after waiting between (question_line names q) passed empty;
      comes = λ later. turn_waits names steps held q asked later;
    }

    pub read_too_long : HearsLine old new left rest count counted line (Err read_errors.TooLong)
        → TakesTurn (turn_of names steps held) held old new left rest count counted before after waiting between (Err errors.TooLong)
    read_too_long fails = record {
      heard = [];
      within = tt;
      text = question_line names q;
      listens = record { between = old; rest = left; first = hears_nothing old left; fails = fails.0 };
      counts = omega (arith, fails.1);
      tells = appended_whole before after waiting between (question_line names q) passed empty;
      comes = λ later. turn_waits names steps held q asked later;
    }

    pub read_without_memory : HearsLine old new left rest count counted line (Err read_errors.NoMemory)
        → TakesTurn (turn_of names steps held) held old new left rest count counted before after waiting between (Err errors.NoMemory)
    read_without_memory fails = record {
      heard = [];
      within = tt;
      text = question_line names q;
      listens = record { between = old; rest = left; first = hears_nothing old left; fails = fails.0 };
      counts = omega (arith, fails.1);
      tells = appended_front before after (waiting ++ question_line names q) (appended_whole before after waiting between (question_line names q) passed empty);
      comes = λ later. turn_begins names steps held q asked later [];
    }

    pub read_to_the_end : HearsLine old new left rest count counted line (Ok false)
        → TakesTurn (turn_of names steps held) held old new left rest count counted before after waiting between (Err errors.Ended)
    read_to_the_end ends = record {
      heard = [];
      within = tt;
      text = question_line names q;
      listens = (ends.0, ends.1, ends.2);
      counts = omega (arith, ends.3);
      tells = appended_whole before after waiting between (question_line names q) passed empty;
      comes = λ later. turn_waits names steps held q asked later;
    }

    -- a line was heard
    module _ (hears : HearsLine old new left rest count counted line (Ok true)) (held' : Configuration) (waiting' : List ℕ) where
      pub went_on : SaysOf names steps held q line held' between waiting' said.Answer
          → TakesTurn (turn_of names steps held) held' old new left rest count counted before after waiting waiting' (Ok true)
      went_on says = record {
        heard = line ∷ [];
        within = (hears.2, tt);
        text = question_line names q;
        listens = hears.0;
        counts = hears.1;
        tells = subst (λ w. IsPassedOn before after waiting w (question_line names q)) (sym says.1) passed;
        comes = says.0;
      }

      pub was_stopped : SaysOf names steps held q line held' between waiting' said.Stop
          → TakesTurn (turn_of names steps held) held' old new left rest count counted before after waiting waiting' (Ok false)
      was_stopped says =
          let told = told_line (stopped_text steps) in
          record {
            heard = line ∷ [];
            within = (hears.2, tt);
            text = question_line names q ++ told;
            listens = hears.0;
            counts = hears.1;
            tells = record {
              gone = passed.gone;
              appended = passed.appended;
              all = ap (λ t. passed.gone ++ t) says.1 ∙ sym (append_assoc passed.gone between told) ∙ ap (λ t. t ++ told) passed.all
                  ∙ append_assoc waiting (question_line names q) told;
            };
            comes = says.0;
          }

      pub was_broken : SaysOf names steps held q line held' between waiting' said.Other
          → TakesTurn (turn_of names steps held) held' old new left rest count counted before after waiting waiting' (Err errors.BadLine)
      was_broken says = record {
        heard = line ∷ [];
        within = (hears.2, tt);
        text = question_line names q;
        listens = hears.0;
        counts = hears.1;
        tells = appended_whole before after waiting between (question_line names q) passed empty;
        comes = says;
      }

      pub heard_without_memory : TakesTurn (turn_of names steps held) held' old new left rest count counted before after waiting waiting' (Err errors.NoMemory)
      heard_without_memory = record {
        heard = line ∷ [];
        within = (hears.2, tt);
        text = question_line names q;
        listens = no_memory_behind old new left rest (line ∷ []) hears.0;
        counts = hears.1;
        tells = appended_front before after (waiting ++ question_line names q) (appended_whole before after waiting between (question_line names q) passed empty);
        comes = λ later. turn_begins names steps held q asked later (line ∷ []);
      }

-- the line of an event was told
pub advanced_told : (names : List (List ℕ)) (held next : Configuration) (event : Event) (before after : Option (List ℕ)) (waiting waiting' : List ℕ) (r : Result (Unit {0}) WriteAll)
    → step held ≡ Next (Some event) next → Streams before after waiting waiting' r (told_line (event_text names event)) → AdvancesTo names held next before after waiting waiting' r
advanced_told names held next event before after waiting waiting' (Ok u) is streams =
    (told_line (event_text names event), turn_advances names held next (Some event) is, streams)
advanced_told names held next event before after waiting waiting' (Err error) is streams = (
  told_line (event_text names event),
  λ steps later rest. ((later next rest).text, ap (λ it. it.text) (turn_advances names held next (Some event) is steps later rest)),
  streams,
)

-- and no event
pub advanced_silently : (names : List (List ℕ)) (held next : Configuration) (before : Option (List ℕ)) (waiting : List ℕ) → step held ≡ Next None next
    → AdvancesTo names held next before before waiting waiting (Ok tt)
advanced_silently names held next before waiting is = ([], turn_advances names held next None is, passed_nothing before waiting)

-- a machine that could not go on
pub advanced_never : (names : List (List ℕ)) (held next : Configuration) (before : Option (List ℕ)) (waiting waiting' : List ℕ) (error : WriteAll)
    → AdvancesTo names held next before before waiting waiting' (Err error)
advanced_never names held next before waiting waiting' error =
    ([], λ steps later rest. ((turn_of names steps held later rest).text, refl), front_none before (waiting ++ []))

-- a step without a question is a turn
module _ (names : List (List ℕ)) (steps : ℕ) (held next : Configuration) (old : Held) (left : Option (List ℕ)) (count : ℕ) (before after : Option (List ℕ)) (waiting waiting' : List ℕ) where
  pub advances_on : (u : Unit {0}) → AdvancesTo names held next before after waiting waiting' (Ok u)
      → TakesTurn (turn_of names steps held) next old old left left count count before after waiting waiting' (Ok true)
  advances_on u it = record {
    heard = [];
    within = tt;
    text = it.0;
    listens = hears_nothing old left;
    counts = omega arith;
    tells = it.2;
    comes = it.1 steps;
  }

  pub advances_no_further : (error : WriteAll) → AdvancesTo names held next before after waiting waiting' (Err error)
      → TakesTurn (turn_of names steps held) next old old left left count count before after waiting waiting' (Err errors.WriteFault)
  advances_no_further error it = record {
    heard = [];
    within = tt;
    text = it.0;
    listens = hears_nothing old left;
    counts = omega arith;
    tells = it.2;
    comes = λ later. it.1 steps later [];
  }

  pub advances_without_memory : (error : WriteAll) → AdvancesTo names held next before after waiting waiting' (Err error)
      → TakesTurn (turn_of names steps held) next old old left left count count before after waiting waiting' (Err errors.NoMemory)
  advances_without_memory error it = record {
    heard = [];
    within = tt;
    text = it.0;
    listens = no_memory_behind old old left left [] (hears_nothing old left);
    counts = omega arith;
    tells = it.2;
    comes = λ later. it.1 steps later [];
  }

-- the line of the end
pub end_told : (names : List (List ℕ)) (steps : ℕ) (held : Configuration) (end : End) → HasEnd held end → ∥ StandsSoundly held ∥₁
    → told_line (end_text names (Ends end) steps) ≡ end_line names steps held
end_told names steps held end is sound = ap (λ e. told_line (end_text names e steps)) (sym (ending_held held end is sound))
