-- The text of a run's lines has these lines, and is replayed.
use Rattle.std.proofs.Common.{◌≡◌, ◌≢◌, ℕ, zero, suc, ◌+◌, ◌-◌, ◌/◌, ◌%◌, Bool, true, false, ◌==◌, cond, List, [], ◌∷◌, ◌++◌, length, map, flat_map, Option, Some, None, inl, inr, ◌⊎◌, refl, sym, ap, ◌∙◌, subst, arith, true≢false}
use Rattle.std.specs.Prelude.{ℤ, nat_lt, codes, encode_utf8_all, slice_index_or, IsTrue, if◌then◌else◌}
use Rattle.std.specs.Fmt.{decimal}
use Rattle.std.specs.List.{AllByRecursion}
use Rattle.std.proofs.lemmas.Bool.Decides.{Decides-eqb}
use Rattle.std.proofs.lemmas.List.{append-nil, append_assoc}
use Rattle.cc_base.specs.Literals.{Literal, UnitLiteral, TruthLiteral, NumberLiteral, TextLiteral}
use Rattle.cc_base.specs.declared.literal.Base.TheVariants as bases
use Rattle.cc_base.specs.declared.literal.Op.{Op}
use Rattle.cc_base.specs.declared.literal.Op.TheVariants as operations
use Rattle.cc_certificate_writing.specs.CertificateTextLaws.{IsOneLine}
use Rattle.cc_certificate_writing.proofs.OneLine.{joined, by_test, one_if, decimal_one, signed_one, truth_one, quoted_one}
use Rattle.cc_core.specs.Typing.{base_answered}
use Rattle.cc_device.specs.Endings.{Shown, ShownLiteral, ShownFunction, ShownTypeFunction, ShownBox, ShownDevice, ShownLabel, End, Done, OutOfFuel}
use Rattle.cc_device.specs.Events.{Event, Operated, Entered, Ended, Exited}
use Rattle.cc_runs.specs.Answers.{shown}
use Rattle.cc_runs.specs.Runs.{State, Move, IsStuck, IsFinal, Moves, move, Ending, Ends, IsStopped, end_with, ending_of, run}
use Rattle.cc_runs.specs.SafeRuns.{IsAmong}
use Rattle.cc_runs.proofs.RunSteps.{runs_are_exact}
use Rattle.cc_print.specs.TermTexts.{quoted, literal_text}
use Rattle.cc_print.specs.TypeTexts.{numbered, position_text}
use Rattle.cc_replay.specs.AnsweredRuns.{trace_lines}
use Rattle.cc_replay.specs.LineLiterals.{StandsInLine, IsLineState}
use Rattle.cc_replay.specs.ReplayLaws.{HasAnswersOf64Bits, lines_of_run, written_lines, WrittenRunsAreReplayed}
use Rattle.cc_replay.specs.Replays.{replay}
use Rattle.cc_replay.proofs.LineSteps.{IsLineEvent, IsLineShown, events_stand_in_lines, shown_stands_in_line}
use Rattle.cc_replay.proofs.ReplayedRuns.{runs_are_replayed}
use Rattle.cc_replay.specs.RunTexts.{device_text, operation_text, operated_text, operand_text, event_text, shown_text, ending_text, end_text}
use Rattle.cc_words.specs.Lines.{Line, lines_of}
use Rattle.cc_words.specs.Words.{has_64_bits}
use Rattle.cc_words.proofs.LineLists.{terminated, lines_of-terminated}
use Rattle.cc_words.proofs.Splits.{AllLack}
use Rattle.cc_words.proofs.Steps.{Lacks}

-- texts without a line feed
literal_one : (l : Literal) → StandsInLine l → IsOneLine (literal_text l)
literal_one UnitLiteral h = by_test (codes "unit") refl
literal_one (TruthLiteral b) h = truth_one b
literal_one (NumberLiteral z) h = signed_one z
literal_one (TextLiteral t) h = quoted_one t h

operand_one : (l : Literal) → StandsInLine l → IsOneLine (operand_text l)
operand_one UnitLiteral h = by_test (codes "unit") refl
operand_one (TruthLiteral b) h = truth_one b
operand_one (NumberLiteral z) h = signed_one z
operand_one (TextLiteral t) h = h

operation_one : (op : Op) → IsOneLine (operation_text op)
operation_one operations.Print = by_test (codes " print ") refl
operation_one operations.Say = by_test (codes " say ") refl
operation_one operations.Read = by_test (codes " read ") refl
operation_one operations.Write = by_test (codes " write ") refl
operation_one operations.Tick = by_test (codes " tick ") refl

-- the names of the devices
abbrev pub AreOneLineNames : List (List ℕ) → Type 0
AreOneLineNames names = AllByRecursion (λ name. IsOneLine (encode_utf8_all name)) names

named_one : (names : List (List ℕ)) (n : ℕ) → AreOneLineNames names → IsOneLine (encode_utf8_all (slice_index_or names n []))
named_one [] n h = tt
named_one (name ∷ names) zero h = h.0
named_one (name ∷ names) (suc n) h = named_one names n h.1

module _ (names : List (List ℕ)) (one : AreOneLineNames names) where
  device_one : (n : ℕ) → IsOneLine (device_text names n)
  device_one n =
      one_if (nat_lt n (length names)) (encode_utf8_all (slice_index_or names n [])) (numbered (codes "_") (n - length names)) (named_one names n one)
      (joined (codes "_") (decimal (n - length names)) (by_test (codes "_") refl) (decimal_one (n - length names)))

  event_one : (e : Event) → IsLineEvent (Some e) → IsOneLine (event_text names e)
  event_one (Operated n op l) h =
      joined (operated_text names n op) (operand_text l) (joined (device_text names n) (operation_text op) (device_one n) (operation_one op)) (operand_one l h)
  event_one (Entered n) h = joined (codes "enter ") (decimal n) (by_test (codes "enter ") refl) (decimal_one n)
  event_one (Ended n) h = joined (codes "leave ") (decimal n) (by_test (codes "leave ") refl) (decimal_one n)
  event_one (Exited n) h = joined (codes "exit ") (decimal n) (by_test (codes "exit ") refl) (decimal_one n)

  shown_one : (s : Shown) → IsLineShown (Some s) → IsOneLine (shown_text names s)
  shown_one (ShownLiteral l) h = literal_one l h
  shown_one ShownFunction h = by_test (codes "<function>") refl
  shown_one ShownTypeFunction h = by_test (codes "<type function>") refl
  shown_one ShownBox h = by_test (codes "<box>") refl
  shown_one (ShownDevice n) h =
      joined (codes "<device " ++ device_text names n) (codes ">") (joined (codes "<device ") (device_text names n) (by_test (codes "<device ") refl) (device_one n)) (by_test (codes ">") refl)
  shown_one (ShownLabel n) h =
      joined (codes "<exit " ++ decimal n) (codes ">") (joined (codes "<exit ") (decimal n) (by_test (codes "<exit ") refl) (decimal_one n)) (by_test (codes ">") refl)

  done_one : (o : Option Shown) → IsLineShown o → IsOneLine (ending_text names (end_with o))
  done_one None h = by_test (codes "stuck") refl
  done_one (Some s) h = joined (codes "done ") (shown_text names s) (by_test (codes "done ") refl) (shown_one s h)

  ending_one : (state : State) (m : Move) → IsLineShown (shown state.configuration) → IsOneLine (ending_text names (ending_of state m))
  ending_one state IsStuck h = by_test (codes "stuck") refl
  ending_one state IsFinal h = done_one (shown state.configuration) h
  ending_one state (Moves event next) h = by_test (codes "out of fuel") refl

  end_one : (ending : Ending) (steps : ℕ) → IsOneLine (ending_text names ending) → IsOneLine (end_text names ending steps)
  end_one ending steps h =
      joined (ending_text names ending ++ codes " after " ++ decimal steps) (codes " steps")
      (joined (ending_text names ending ++ codes " after ") (decimal steps) (joined (ending_text names ending) (codes " after ") h (by_test (codes " after ") refl)) (decimal_one steps))
      (by_test (codes " steps") refl)

  trace_one : (es : List Event) (ending : Ending) (steps : ℕ) → AllByRecursion (λ e. IsLineEvent (Some e)) es → IsOneLine (ending_text names ending)
      → AllByRecursion IsOneLine (trace_lines names es ending steps)
  trace_one [] ending steps h k = (end_one ending steps k, tt)
  trace_one (e ∷ es) ending steps h k = (event_one e h.0, trace_one es ending steps h.1 k)

-- the lines of a text that was written so
lacks_feed : (text : List ℕ) → IsOneLine text → Lacks 10 text
lacks_feed [] h = tt
lacks_feed (b ∷ text) h = (other (b == 10) refl, lacks_feed text h.1)
  where
    other : (t : Bool) → (b == 10) ≡ t → (b == 10) ≡ false
    other true e = absurd (h.0 ((Decides-eqb b 10).0 e))
    other false e = e

all_lack : (lines : List Line) → AllByRecursion IsOneLine lines → AllLack 10 lines
all_lack [] h = tt
all_lack (line ∷ lines) h = (lacks_feed line h.0, all_lack lines h.1)

written-terminated : (lines : List Line) → written_lines lines ≡ terminated lines
written-terminated [] = refl
written-terminated (line ∷ lines) = ap (λ t. (line ++ 10 ∷ []) ++ t) (written-terminated lines) ∙ append_assoc line (10 ∷ []) (terminated lines)

pub lines_of-written : (lines : List Line) → AllByRecursion IsOneLine lines → lines_of (written_lines lines) ≡ lines
lines_of-written lines h =
    ap lines_of (written-terminated lines ∙ sym (append-nil (terminated lines))) ∙ lines_of-terminated lines [] (all_lack lines h) ∙ append-nil lines

answers_small : (es : List Event) → AllByRecursion (λ e. IsLineEvent (Some e)) es → HasAnswersOf64Bits es
answers_small [] h n op z is among = absurd among
answers_small (e ∷ es) h n op z is (inl same) = subst (λ x. IsLineEvent (Some x)) (sym same) h.0
answers_small (e ∷ es) h n op z is (inr later) = answers_small es h.1 n op z is later

pub written_runs_are_replayed : WrittenRunsAreReplayed
written_runs_are_replayed names fuel start sound line one =
    let it = run fuel start in
    let exact = (runs_are_exact fuel start).0 in
    let kept = events_stand_in_lines exact.led line in
    let ending : IsOneLine (ending_text names it.ending) =
    subst (λ e. IsOneLine (ending_text names e)) (sym exact.ending) (ending_one names one it.last (move it.last) (shown_stands_in_line it.last.configuration kept.1.configuration)) in
    ap (replay names fuel start.configuration) (lines_of-written (lines_of_run names it) (trace_one names one it.events it.ending it.steps kept.0 ending))
    ∙ runs_are_replayed names fuel start sound (answers_small it.events kept.0)
