-- Live runs with more lines.
use Rattle.std.proofs.Common.{ℕ, zero, suc, Bool, true, false, List, [], ◌∷◌, ◌++◌, Option, Some, None, refl, sym, ap, ◌∙◌, append_assoc}
use Rattle.std.specs.Prelude.{codes}
use Rattle.std.specs.Str.{bytes_eq}
use Rattle.cc_base.specs.Literals.{Literal}
use Rattle.cc_base.specs.declared.literal.Op.{Op}
use Rattle.cc_device.specs.Events.{Event}
use Rattle.cc_live.specs.LiveLaws.{GoesOnWith, MoreLinesGoOn}
use Rattle.cc_live.specs.LiveRuns.{Standing, Over, Waits, Breaks, Live, Course, told_line, asked_text, answer_of, behind_text, behind_event, answered_live, said_live, heard_live, live_on, live_from}
use Rattle.cc_replay.specs.RunTexts.{event_text}
use Rattle.cc_runs.specs.Machine.{Configuration, StepOutcome, Stuck, Final, Next, Ask, step}
use Rattle.cc_words.specs.Lines.{Line}

module _ (names : List (List ℕ)) (more : List Line) where
  -- so it is behind a text
  goes_behind : (front text : List ℕ) (standing : Standing) (it : Live) → GoesOnWith more text standing it → GoesOnWith more (front ++ text) standing (behind_text front it)
  goes_behind front text (Over refused rest) it goes = ap (behind_text front) goes
  goes_behind front text Waits it (behind, is) = (behind, ap (λ t. front ++ t) is ∙ sym (append_assoc front text behind))
  goes_behind front text (Breaks rest) it goes = ap (behind_text front) goes

  -- so it is with these lines
  abbrev Goes : Course → List Line → Type 0
  Goes course lines = GoesOnWith more (course lines).text (course lines).standing (course (lines ++ more))

  by_event : (event : Option Event) (course : Course) (lines : List Line) → Goes course lines → Goes (λ ls. behind_event names event (course ls)) lines
  by_event None course lines goes = goes
  by_event (Some event) course lines goes = goes_behind (told_line (event_text names event)) (course lines).text (course lines).standing (course (lines ++ more)) goes

  by_answer : (resumed : Literal → Course) (o : Option Literal) (rest : List Line) → ((a : Literal) → Goes (resumed a) rest) → Goes (answered_live resumed o) rest
  by_answer resumed (Some a) rest goes = goes a
  by_answer resumed None rest goes = refl

  by_said : (steps : ℕ) (stops : Bool) (resumed : Literal → Course) (o : Option Literal) (rest : List Line) → ((a : Literal) → Goes (resumed a) rest)
      → Goes (said_live steps stops resumed o) rest
  by_said steps true resumed o rest goes = refl
  by_said steps false resumed o rest goes = by_answer resumed o rest goes

  by_lines : (steps : ℕ) (op : Op) (resumed : Literal → Course) (lines : List Line) → ((a : Literal) (rest : List Line) → Goes (resumed a) rest) → Goes (heard_live steps op resumed) lines
  by_lines steps op resumed [] goes = ((heard_live steps op resumed more).text, refl)
  by_lines steps op resumed (line ∷ rest) goes = by_said steps (bytes_eq line (codes "stop")) resumed (answer_of op line) rest (λ a. goes a rest)

  by_outcome : (steps : ℕ) (later : Configuration → Course) (c : Configuration) (x : StepOutcome) (lines : List Line)
      → ((next : Configuration) (rest : List Line) → Goes (later next) rest) → Goes (live_on names steps later c x) lines
  by_outcome steps later c Stuck lines goes = refl
  by_outcome steps later c Final lines goes = refl
  by_outcome steps later c (Next event next) lines goes = by_event event (later next) lines (goes next lines)
  by_outcome steps later c (Ask n op a resume) lines goes =
      let heard = heard_live steps op (λ answer. later (resume answer)) in
      goes_behind (told_line (asked_text names n op a)) (heard lines).text (heard lines).standing (heard (lines ++ more))
      (by_lines steps op (λ answer. later (resume answer)) lines (λ answer rest. goes (resume answer) rest))

  goes_from : (fuel steps : ℕ) (c : Configuration) (lines : List Line) → Goes (live_from names steps fuel c) lines
  goes_from zero steps c lines = refl
  goes_from (suc fuel) steps c lines = by_outcome steps (live_from names (suc steps) fuel) c (step c) lines (goes_from fuel (suc steps))

pub more_lines_go_on : MoreLinesGoOn
more_lines_go_on names fuel start lines more = goes_from names more fuel 0 start lines
