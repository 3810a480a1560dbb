-- A live run turn by turn: what was heard and told up to here, and what comes of each end.
use Rattle.std.proofs.Common.{◌≡◌, ℕ, zero, suc, ◌+◌, ◌-◌, ◌<◌, ◌≤◌, Bool, true, false, List, [], ◌∷◌, ◌++◌, length, Option, Result, Ok, Err, refl, sym, ap, subst, ◌∙◌, arith, append_assoc, append-nil}
use Rattle.std.proofs.KnownBytes.{Appends-trans}
use Rattle.std.specs.Io.KnownBytes.{Appends}
use Rattle.cc_io.proofs.PassedPieces.{front_none, front_second, passed_nothing, passed_both, stopped_second}
use Rattle.cc_io.specs.Pieces.{IsPassedOn}
use Rattle.cc_io.specs.Wholes.{AppendsFront}
use Rattle.cc_line_reading.specs.LineReading.{Held, Hears}
use Rattle.cc_live.proofs.AlikeLives.{live-erased}
use Rattle.cc_live.proofs.HeardLines.{hears_nothing, hears_both, listens_behind, no_memory_behind, counted_both}
use Rattle.cc_live.proofs.LiveTexts.{both_behind}
use Rattle.cc_live.specs.LiveEnds.{Listens, Tells, BeginsText, ComesTo, AreWithin, RunsLive}
use Rattle.cc_live.specs.LiveRuns.{Live, Over, Waits, Breaks, Course, behind_text, is_cut_short, ended_live, live_on, live_from, live}
use Rattle.cc_live.specs.LiveTurns.{turn_of, end_line, TurnsTo, TellsBehind, TakesTurn, StopsSo}
use Rattle.cc_live.specs.declared.running.LiveError.{LiveError}
use Rattle.cc_live.specs.declared.running.LiveError.TheVariants as errors
use Rattle.cc_replay.specs.Replays.{ending_in}
use Rattle.cc_runs.specs.Alike.{erased_configuration}
use Rattle.cc_runs.specs.Machine.{Configuration, StepOutcome, Stuck, Final, Next, Ask, step}
use Rattle.cc_words.specs.Lines.{Line}

-- Where a live run stands: so many steps were taken, these lines heard and this text told, of which a part still waits; and
-- what comes of other lines from here on, comes of all of them behind that text.
pub record StandsAt (names : List (List ℕ)) (fuel : ℕ) (start : Configuration) (old now : Held) (left later : Option (List ℕ)) (count counted : ℕ)
    (before after : Option (List ℕ)) (waiting : List ℕ) (steps : ℕ) (held : Configuration) : Type 0 where
  pub heard : List Line
  pub short : AreWithin heard
  pub told : List ℕ
  pub hears : Hears old now left later heard
  pub counts : counted ≡ count + length heard
  pub passed : IsPassedOn before after [] waiting told
  pub comes : (rest : List Line) → live_from names 0 fuel start (heard ++ rest) ≡ behind_text told (live_from names steps (fuel - steps) held rest)
  pub within : steps ≤ fuel

-- lines that are short are so together
within_both : (first second : List Line) → AreWithin first → AreWithin second → AreWithin (first ++ second)
within_both [] second a b = b
within_both (line ∷ first) second a b = (a.0, within_both first second a.1 b)

-- at the start
pub stands_first : (names : List (List ℕ)) (fuel : ℕ) (start : Configuration) (now : Held) (left : Option (List ℕ)) (count : ℕ) (before : Option (List ℕ))
    → StandsAt names fuel start now now left left count count before before [] 0 start
stands_first names fuel start now left count before =
    let all : fuel ≡ fuel - 0 = omega arith in
    record {
      heard = [];
      short = tt;
      told = [];
      hears = hears_nothing now left;
      counts = omega arith;
      passed = passed_nothing before [];
      comes = λ rest. ap (λ n. live_from names 0 n start rest) all;
      within = omega arith;
    }

-- an appended text behind a front, or nothing more
begins_behind : (told text : List ℕ) (it later : Live) → it ≡ behind_text told later → BeginsText text later → BeginsText (told ++ text) it
begins_behind told text it later is (behind, begins) =
    (behind, ap (λ l. l.text) is ∙ ap (λ t. told ++ t) begins ∙ sym (append_assoc told text behind))

-- what waits in the end is written, and the text behind it
all_told : (a b c : Option (List ℕ)) (waiting told text : List ℕ) → IsPassedOn a b [] waiting told → Appends b c (waiting ++ text) → Appends a c (told ++ text)
all_told a b c waiting told text passed appended =
    let rest : IsPassedOn b c waiting [] text = record { gone = waiting ++ text; appended = appended; all = append-nil (waiting ++ text) } in
    let all = passed_both a b c [] waiting [] told text passed rest in
    subst (Appends a c) (sym (append-nil all.gone) ∙ all.all) all.appended

module _ (names : List (List ℕ)) (fuel : ℕ) (start : Configuration) (old now : Held) (left later : Option (List ℕ)) (count counted : ℕ)
    (before after : Option (List ℕ)) (waiting : List ℕ) (steps : ℕ) (held : Configuration)
    (at : StandsAt names fuel start old now left later count counted before after waiting steps held) where
  -- what comes where the next step decides
  decides : steps < fuel → (lines : List Line)
      → live names fuel start (at.heard ++ lines) ≡ behind_text at.told (turn_of names steps held (live_from names (steps + 1) (fuel - (steps + 1))) lines)
  decides less lines =
      let less_left : fuel - steps ≡ suc (fuel - (steps + 1)) = omega arith in
      let next : suc steps ≡ steps + 1 = omega arith in
      at.comes lines ∙ ap (λ n. behind_text at.told (live_from names steps n held lines)) less_left
      ∙ ap (λ k. behind_text at.told (turn_of names steps held (live_from names k (fuel - (steps + 1))) lines)) next

  module _ (less : steps < fuel) (new : Held) (last : Option (List ℕ)) (total : ℕ) (finally : Option (List ℕ)) (waiting' : List ℕ) (held' : Configuration) where
    -- what a turn heard stands behind what was heard before
    heard_so : (lines rest : List Line) (it : Live) → turn_of names steps held (live_from names (steps + 1) (fuel - (steps + 1))) (lines ++ rest) ≡ it
        → live names fuel start ((at.heard ++ lines) ++ rest) ≡ behind_text at.told it
    heard_so lines rest it is =
        ap (live names fuel start) (append_assoc at.heard lines rest) ∙ decides less (lines ++ rest) ∙ ap (behind_text at.told) is

    heard_whole : (lines : List Line) (it : Live) → turn_of names steps held (live_from names (steps + 1) (fuel - (steps + 1))) lines ≡ it
        → live names fuel start (at.heard ++ lines) ≡ behind_text at.told it
    heard_whole lines it is = decides less lines ∙ ap (behind_text at.told) is

    -- the run goes on
    pub goes_further : TakesTurn (turn_of names steps held) held' now new later last counted total after finally waiting waiting' (Ok true)
        → StandsAt names fuel start old new left last count total before finally waiting' (steps + 1) held'
    goes_further turn = record {
      heard = at.heard ++ turn.heard;
      short = within_both at.heard turn.heard at.short turn.within;
      told = at.told ++ turn.text;
      hears = hears_both old now new left later last at.heard turn.heard at.hears turn.listens;
      counts = counted_both count counted total at.heard turn.heard at.counts turn.counts;
      passed = passed_both before after finally [] waiting waiting' at.told turn.text at.passed turn.tells;
      comes = λ rest.
          let on = live_from names (steps + 1) (fuel - (steps + 1)) in
          heard_so turn.heard rest (behind_text turn.text (on held' rest)) (turn.comes on rest) ∙ both_behind at.told turn.text (on held' rest);
      within = omega (arith, less);
    }

    -- the turn failed
    pub fails_so : (error : LiveError) → TakesTurn (turn_of names steps held) held' now new later last counted total after finally waiting waiting' (Err error)
        → RunsLive (live names fuel start) old new left last count total before finally (Err error)
    fails_so error turn = record {
      heard = at.heard ++ turn.heard;
      within = within_both at.heard turn.heard at.short turn.within;
      text = at.told ++ turn.text;
      listens = listens_behind old now new left later last at.heard turn.heard (Err error) at.hears turn.listens;
      counts = counted_both count counted total at.heard turn.heard at.counts turn.counts;
      tells = tells_so error turn.text turn.tells;
      comes = comes_so error turn.heard turn.text turn.comes;
    }
      where
        tells_so : (e : LiveError) (text : List ℕ) → TellsBehind {T = Bool} after finally waiting waiting' text (Err e) → Tells {T = Bool} before finally (at.told ++ text) (Err e)
        tells_so errors.ReadFault text whole = all_told before after finally waiting at.told text at.passed whole
        tells_so errors.TooLong text whole = all_told before after finally waiting at.told text at.passed whole
        tells_so errors.NoMemory text front = stopped_second before after finally [] waiting [] at.told text at.passed front
        tells_so errors.WriteFault text front = stopped_second before after finally [] waiting [] at.told text at.passed front
        tells_so errors.Ended text whole = all_told before after finally waiting at.told text at.passed whole
        tells_so errors.BadLine text whole = all_told before after finally waiting at.told text at.passed whole

        on : Configuration → Course
        on = live_from names (steps + 1) (fuel - (steps + 1))

        waits_so : (heard : List Line) (text : List ℕ) → turn_of names steps held (live_from names (steps + 1) (fuel - (steps + 1))) heard ≡ record { text = text; standing = Waits }
            → live names fuel start (at.heard ++ heard) ≡ record { text = at.told ++ text; standing = Waits }
        waits_so heard text is = heard_whole heard (record { text = text; standing = Waits }) is

        begins_so : (heard : List Line) (text : List ℕ) → BeginsText text (turn_of names steps held (live_from names (steps + 1) (fuel - (steps + 1))) heard)
            → BeginsText (at.told ++ text) (live names fuel start (at.heard ++ heard))
        begins_so heard text begins =
            let it = turn_of names steps held (live_from names (steps + 1) (fuel - (steps + 1))) heard in
            begins_behind at.told text (live names fuel start (at.heard ++ heard)) it (decides less heard) begins

        comes_so : (e : LiveError) (heard : List Line) (text : List ℕ) → TurnsTo (turn_of names steps held) held' heard text (Err e)
            → ComesTo (live names fuel start (at.heard ++ heard)) (at.told ++ text) (Err e)
        comes_so errors.ReadFault heard text comes = waits_so heard text (comes (live_from names (steps + 1) (fuel - (steps + 1))))
        comes_so errors.TooLong heard text comes = waits_so heard text (comes (live_from names (steps + 1) (fuel - (steps + 1))))
        comes_so errors.NoMemory heard text comes = begins_so heard text (comes (live_from names (steps + 1) (fuel - (steps + 1))))
        comes_so errors.WriteFault heard text comes = begins_so heard text (comes (live_from names (steps + 1) (fuel - (steps + 1))))
        comes_so errors.Ended heard text comes = waits_so heard text (comes (live_from names (steps + 1) (fuel - (steps + 1))))
        comes_so errors.BadLine heard text comes =
            ap (live names fuel start) (sym (append-nil (at.heard ++ heard)))
            ∙ heard_so heard [] (record { text = text; standing = Breaks [] }) (comes (live_from names (steps + 1) (fuel - (steps + 1))) [])

    -- the host stopped the run
    pub stops_so : (written : Option (List ℕ)) (result : Result Bool LiveError)
        → TakesTurn (turn_of names steps held) held' now new later last counted total after finally waiting waiting' (Ok false) → StopsSo finally written waiting' result
        → RunsLive (live names fuel start) old new left last count total before written result
    stops_so written result turn stops = record {
      heard = at.heard ++ turn.heard;
      within = within_both at.heard turn.heard at.short turn.within;
      text = at.told ++ turn.text;
      listens = listens_so result stops;
      counts = counted_both count counted total at.heard turn.heard at.counts turn.counts;
      tells = tells_so result stops;
      comes = comes_so result stops;
    }
      where
        hears : Hears old new left last (at.heard ++ turn.heard)
        hears = hears_both old now new left later last at.heard turn.heard at.hears turn.listens

        passed : IsPassedOn before finally [] waiting' (at.told ++ turn.text)
        passed = passed_both before after finally [] waiting waiting' at.told turn.text at.passed turn.tells

        comes : live names fuel start (at.heard ++ turn.heard) ≡ record { text = at.told ++ turn.text; standing = Over true [] }
        comes =
            ap (live names fuel start) (sym (append-nil (at.heard ++ turn.heard)))
            ∙ heard_so turn.heard [] (record { text = turn.text; standing = Over true [] }) (turn.comes (live_from names (steps + 1) (fuel - (steps + 1))) [])

        listens_so : (r : Result Bool LiveError) → StopsSo finally written waiting' r → Listens old new left last (at.heard ++ turn.heard) r
        listens_so (Ok refused) it = hears
        listens_so (Err errors.ReadFault) it = absurd it
        listens_so (Err errors.TooLong) it = absurd it
        listens_so (Err errors.NoMemory) it = no_memory_behind old new left last (at.heard ++ turn.heard) hears
        listens_so (Err errors.WriteFault) it = hears
        listens_so (Err errors.Ended) it = absurd it
        listens_so (Err errors.BadLine) it = absurd it

        tells_so : (r : Result Bool LiveError) → StopsSo finally written waiting' r → Tells before written (at.told ++ turn.text) r
        tells_so (Ok refused) it = subst (Appends before written) passed.all (Appends-trans before finally written passed.gone waiting' passed.appended it.1)
        tells_so (Err errors.ReadFault) it = absurd it
        tells_so (Err errors.TooLong) it = absurd it
        tells_so (Err errors.NoMemory) it = subst (AppendsFront before written) passed.all (front_second before finally written passed.gone waiting' passed.appended it)
        tells_so (Err errors.WriteFault) it = subst (AppendsFront before written) passed.all (front_second before finally written passed.gone waiting' passed.appended it)
        tells_so (Err errors.Ended) it = absurd it
        tells_so (Err errors.BadLine) it = absurd it

        comes_so : (r : Result Bool LiveError) → StopsSo finally written waiting' r → ComesTo (live names fuel start (at.heard ++ turn.heard)) (at.told ++ turn.text) r
        comes_so (Ok refused) it = comes ∙ ap (λ b. record { text = at.told ++ turn.text; standing = Over b [] }) (sym it.0)
        comes_so (Err errors.ReadFault) it = absurd it
        comes_so (Err errors.TooLong) it = absurd it
        comes_so (Err errors.NoMemory) it = ([], ap (λ l. l.text) comes ∙ sym (append-nil (at.told ++ turn.text)))
        comes_so (Err errors.WriteFault) it = ([], ap (λ l. l.text) comes ∙ sym (append-nil (at.told ++ turn.text)))
        comes_so (Err errors.Ended) it = absurd it
        comes_so (Err errors.BadLine) it = absurd it

  -- at the end
  final_stays : (n : ℕ) (rest : List Line) → step held ≡ Final → live_from names steps n held rest ≡ ended_live names steps (ending_in held (step held)) rest
  final_stays zero rest is = refl
  final_stays (suc n) rest is =
      ap (λ x. live_on names steps (live_from names (suc steps) n) held x rest) is ∙ sym (ap (λ x. ended_live names steps (ending_in held x) rest) is)

  spent : (rest : List Line) → fuel ≤ steps → live_from names steps (fuel - steps) held rest ≡ ended_live names steps (ending_in held (step held)) rest
  spent rest none = let zero_left : fuel - steps ≡ 0 = omega arith in ap (λ n. live_from names steps n held rest) zero_left

  by_outcome : (x : StepOutcome) (rest : List Line) → step held ≡ x → ((step held ≡ Final → ⊥) → fuel ≤ steps)
      → live_from names steps (fuel - steps) held rest ≡ ended_live names steps (ending_in held (step held)) rest
  by_outcome Stuck rest is over = spent rest (over (λ e. let clash : Stuck ≡ Final = sym is ∙ e in cc))
  by_outcome Final rest is over = final_stays (fuel - steps) rest is
  by_outcome (Next event next) rest is over = spent rest (over (λ e. let clash : Next event next ≡ Final = sym is ∙ e in cc))
  by_outcome (Ask n op a resume) rest is over = spent rest (over (λ e. let clash : Ask n op a resume ≡ Final = sym is ∙ e in cc))

  module _ (over : (step held ≡ Final → ⊥) → fuel ≤ steps) where
    ends_live : live names fuel start at.heard ≡ behind_text at.told (ended_live names steps (ending_in held (step held)) [])
    ends_live =
        ap (live names fuel start) (sym (append-nil at.heard)) ∙ at.comes [] ∙ ap (behind_text at.told) (by_outcome (step held) [] refl over)

    pub ends_so : (finally : Option (List ℕ)) (refused : Bool) → refused ≡ is_cut_short (ending_in held (step held))
        → IsPassedOn after finally waiting [] (end_line names steps held) → RunsLive (live names fuel start) old now left later count counted before finally (Ok refused)
    ends_so finally refused is passed = record {
      heard = at.heard;
      within = at.short;
      text = at.told ++ end_line names steps held;
      listens = at.hears;
      counts = at.counts;
      tells =
          let all = passed_both before after finally [] waiting [] at.told (end_line names steps held) at.passed passed in
          subst (Appends before finally) (sym (append-nil all.gone) ∙ all.all) all.appended;
      comes = ends_live ∙ ap (λ b. record { text = at.told ++ end_line names steps held; standing = Over b [] }) (sym is);
    }

    front_so : (finally : Option (List ℕ)) → AppendsFront after finally (waiting ++ end_line names steps held) → AppendsFront before finally (at.told ++ end_line names steps held)
    front_so finally front = stopped_second before after finally [] waiting [] at.told (end_line names steps held) at.passed front

    begins_so : BeginsText (at.told ++ end_line names steps held) (live names fuel start at.heard)
    begins_so = ([], ap (λ l. l.text) ends_live ∙ sym (append-nil (at.told ++ end_line names steps held)))

    pub ends_no_memory : (finally : Option (List ℕ)) → AppendsFront after finally (waiting ++ end_line names steps held)
        → RunsLive (live names fuel start) old now left later count counted before finally (Err errors.NoMemory)
    ends_no_memory finally front = record {
      heard = at.heard;
      within = at.short;
      text = at.told ++ end_line names steps held;
      listens = no_memory_behind old now left later at.heard at.hears;
      counts = at.counts;
      tells = front_so finally front;
      comes = begins_so;
    }

    pub ends_write_fault : (finally : Option (List ℕ)) → AppendsFront after finally (waiting ++ end_line names steps held)
        → RunsLive (live names fuel start) old now left later count counted before finally (Err errors.WriteFault)
    ends_write_fault finally front = record {
      heard = at.heard;
      within = at.short;
      text = at.told ++ end_line names steps held;
      listens = at.hears;
      counts = at.counts;
      tells = front_so finally front;
      comes = begins_so;
    }

-- the run of what a machine holds at the start of a program is that of the program
pub runs_of_program : (names : List (List ℕ)) (fuel : ℕ) (held start : Configuration) (old new : Held) (left later : Option (List ℕ)) (count counted : ℕ) (before after : Option (List ℕ))
    (result : Result Bool LiveError) → held ≡ erased_configuration start → RunsLive (live names fuel held) old new left later count counted before after result
    → RunsLive (live names fuel start) old new left later count counted before after result
runs_of_program names fuel held start old new left later count counted before after result is runs =
    subst (λ course. RunsLive course old new left later count counted before after result) (λ i lines. live-erased names fuel held start lines is i) runs

-- nothing was run
pub runs_never : (course : Course) (old : Held) (left : Option (List ℕ)) (count : ℕ) (before : Option (List ℕ))
    → RunsLive course old old left left count count before before (Err errors.NoMemory)
runs_never course old left count before = record {
  heard = [];
  within = tt;
  text = [];
  listens = no_memory_behind old old left left [] (hears_nothing old left);
  counts = omega arith;
  tells = front_none before [];
  comes = ((course []).text, refl);
}
