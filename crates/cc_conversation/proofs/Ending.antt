-- How a conversation ended, from how it came to its end.
use Rattle.std.proofs.Common.{◌≡◌, ◌≢◌, ◌⊎◌, inl, inr, ℕ, suc, ◌+◌, ◌≤◌, ◌<◌, ◌^◌, Bool, true, false, cond, List, [], ◌∷◌, ◌++◌, length, take, Option, Some, None, Result, Ok, Err, IsTrue, refl, sym, ap, subst, ◌∙◌, arith, append_assoc, append-nil, length-append, take_all, le_refl}
use Rattle.std.specs.Prelude.{◌||◌, nat_lt}
use Rattle.std.proofs.KnownBytes.{Appends-trans}
use Rattle.std.specs.Io.KnownBytes.{Appends, Consumes, IsAtEnd}
use Rattle.std.proofs.lemmas.Bool.Decides.{nat_tests}
use Rattle.cc_io.specs.declared.whole.WriteAll.{WriteAll}
use Rattle.cc_io.specs.declared.whole.WriteAll.TheVariants as write_errors
use Rattle.cc_io.specs.Wholes.{AppendsFront, WritesWhole}
use Rattle.cc_io.proofs.PassedPieces.{front_first, front_second}
use Rattle.cc_job.specs.declared.job.Command.{Command}
use Rattle.cc_job.specs.Jobs.{Item, Declares, Commands, first_line, item_lines, skipped}
use Rattle.cc_words.specs.Lines.{Line, AreWholeLines}
use Rattle.cc_line_reading.specs.LineReading.{Held, Hears, HearsPart, IsOver, IsDrained}
use Rattle.cc_hosting.specs.CourseLaws.{LinesAreUsed}
use Rattle.cc_item_reading.specs.Sayings.{aside_line, size, item_limit}
use Rattle.cc_item_reading.specs.declared.asides.Aside.{Aside}
use Rattle.cc_live.specs.LiveEnds.{AreWithin, BeginsText, RunsLive}
use Rattle.cc_live.specs.LiveRuns.{Live as Told, Standing as LiveStanding, Over, Waits, Breaks as LiveBreaks, Course}
use Rattle.cc_live.specs.declared.running.LiveError.{LiveError}
use Rattle.cc_live.specs.declared.running.LiveError.TheVariants as live_errors
use Rattle.cc_conversation.specs.Progress.{HasSaid}
use Rattle.cc_conversation.specs.Progress.HasSaid.{aside}
use Rattle.cc_item_reading.specs.ItemReading.{HearsNextItem, HearsAside, HasBegun, StopsIn}
use Rattle.cc_item_reading.specs.declared.reading.NotHeard.{NotHeard}
use Rattle.cc_item_reading.specs.declared.reading.NotHeard.TheVariants as errors
use Rattle.cc_item_reading.proofs.Hearing.{hears_both, hears_none}
use Rattle.cc_line_reading.proofs.LineTurns.{consumed_both}
use Rattle.cc_conversation.specs.declared.conversing.Ended.{Ended}
use Rattle.cc_conversation.specs.declared.conversing.Ended.TheVariants as endings
use Rattle.cc_conversation.specs.declared.conversing.Stopped.{Stopped}
use Rattle.cc_conversation.specs.declared.conversing.Stopped.TheVariants as stops
use Rattle.cc_conversation.specs.Conversations.{Moment, AreShort, IsOpen, IsCourseOf, SaysAside, Standing, Rests, Begun, Asks, EndedAt, Overlong, StandsIn, Says, IsSpoken, IsHeard, beginning, under_way, with_part}
use Rattle.cc_conversation.specs.Conversations.Says.{rests, begins, ends as ends_at, exceeds, goes_on, runs as runs_to, stops as stops_at}
use Rattle.cc_conversation.specs.Conversations.StandsIn.{asks, breaks, floods}
use Rattle.cc_conversation.specs.Conversations.IsSpoken.{nothing, overlong, stranger, opened}
use Rattle.cc_conversation.specs.Conversed.{Ends, fresh, HasHeard, HasHeardAll, HasHeardPart, HasHeardMore, HasNoFault, IsAnswered, IsAnsweredInPart, IsAnsweredSoFar, IsOverWith, HasBadLine, Conversed}
use Rattle.cc_conversation.specs.Turns.{Talks, StopsHearing, HearsOrder, StopsWriting, StopsInAside, ComesToEnd, HearsFirst, StopCause, closed_as, closed_course, ending_of}
use Rattle.cc_conversation.proofs.AsideCourses.{courses_are_steady}
use Rattle.cc_conversation.proofs.Progressing.{skipped_item, skipped_aside, skipped_open, says_end, says_behind, or_false}
use Rattle.cc_conversation.proofs.Turning.{answers_alike, course_alike, are_short}

-- all is a front of itself
whole_front : (before written : Option (List ℕ)) (text : List ℕ) → Appends before written text → AppendsFront before written text
whole_front before written text appends =
    (length text, le_refl (length text), subst (Appends before written) (sym (take_all (length text) text (le_refl (length text)))) appends)

-- what was said in whole, with nothing open behind it
spoken_said : {lines : List Line} {text : List ℕ} {refused : Bool} {moment : Moment} → HasSaid beginning lines text refused moment
    → IsSpoken (first_line ∷ lines) text refused Rests
spoken_said {lines = lines} {text = text} {refused = refused} said =
    opened (subst (λ it. Says (suc (length lines)) beginning it text refused Rests) (append-nil lines)
    (says_end said (suc (length lines)) [] Rests (rests refl)))

spoken_rests : {start now : Held} {left there before written : Option (List ℕ)} {number : ℕ} {refused : Bool} {moment : Moment}
    (talks : Talks start now left there before written number refused moment) → IsSpoken (first_line ∷ talks.lines) talks.text refused Rests
spoken_rests talks = spoken_said talks.said

-- with lines of an item behind it that has begun
standing_with : List Line → Standing
standing_with [] = Rests
standing_with (line ∷ front) = Begun (size (line ∷ front))

front_says : (moment : Moment) (total : ℕ) (front : List Line) → HasBegun moment.devices moment.begun front → size front ≤ item_limit
    → Says total moment front [] false (standing_with front)
unfolding standing_with
front_says moment total [] begun short = rests refl
front_says moment total (line ∷ front) (inl e) short = absurd (no e)
  where
    no : line ∷ front ≡ [] → ⊥
    no h = cc
front_says moment total (line ∷ front) (inr lacks) short =
    let same : skipped (line ∷ front) ≡ line ∷ front =
    ap skipped (sym (append-nil (line ∷ front))) ∙ skipped_open moment (line ∷ front) [] (λ h. cc) lacks ∙ append-nil (line ∷ front) in
    subst (λ it. Says total moment (line ∷ front) [] false (Begun (size it))) same
    (begins (λ e. let clash = sym same ∙ e in cc) (subst (λ it. IsOpen moment it) (sym same) lacks) (subst (λ it. size it ≤ item_limit) (sym same) short))

spoken_front : {start now : Held} {left there before written : Option (List ℕ)} {number : ℕ} {refused : Bool} {moment : Moment}
    (talks : Talks start now left there before written number refused moment) (front : List Line) → HasBegun moment.devices moment.begun front
    → size front ≤ item_limit → IsSpoken (first_line ∷ (talks.lines ++ front)) talks.text refused (standing_with front)
spoken_front {moment = moment} talks front begun short =
    opened (says_end talks.said (suc (length (talks.lines ++ front))) front (standing_with front) (front_says moment _ front begun short))

-- how it stands where a part of a line makes an item too long
too_long : (front : List Line) (part : ℕ) → item_limit ≤ size front + part → with_part (standing_with front) part ≡ Overlong
unfolding standing_with
too_long [] part long =
    let far : item_limit ≤ 0 + part = long in
    let same : 0 + part ≡ part = omega (arith) in
    rw (past part (subst (λ it. item_limit ≤ it) same far)) refl
  where
    past : (n : ℕ) → item_limit ≤ n → nat_lt n item_limit ≡ false
    past n h = grind (arith, nat_tests)
too_long (line ∷ front) part long = rw (past (size (line ∷ front) + part) long) refl
  where
    past : (n : ℕ) → item_limit ≤ n → nat_lt n item_limit ≡ false
    past n h = grind (arith, nat_tests)

-- all that was said was answered, and a front of that written
in_part : (before after : Ends) (lines : List Line) (text : List ℕ) (refused : Bool) (standing : Standing) → IsSpoken lines text refused standing
    → AppendsFront before.written after.written text → IsAnsweredInPart before after lines
in_part before after lines text refused standing spoken written = record {
  front = lines;
  rest = [];
  parts = sym (append-nil lines);
  text = text;
  refused = refused;
  standing = standing;
  spoken = spoken;
  written = written;
}

-- nothing ends there
abbrev NoBadLine : Standing → Type 0
NoBadLine standing = (number : ℕ) → standing ≡ EndedAt number → ⊥

no_bad_line : (front : List Line) → NoBadLine (standing_with front)
unfolding standing_with
no_bad_line [] number e = cc
no_bad_line (line ∷ front) number e = cc

no_bad_part : (standing : Standing) (part : ℕ) → NoBadLine standing → NoBadLine (with_part standing part)
no_bad_part Rests part none number e = split (nat_lt part item_limit) e
  where
    split : (b : Bool) → cond b Rests Overlong ≡ EndedAt number → ⊥
    split true e = cc
    split false e = cc
no_bad_part (Begun bytes) part none number e = split (nat_lt (bytes + part) item_limit) e
  where
    split : (b : Bool) → cond b (Begun bytes) Overlong ≡ EndedAt number → ⊥
    split true e = cc
    split false e = cc
no_bad_part Asks part none number e = split (nat_lt part item_limit) e
  where
    split : (b : Bool) → cond b Asks Overlong ≡ EndedAt number → ⊥
    split true e = cc
    split false e = cc
no_bad_part (EndedAt place) part none number e = none number e
no_bad_part Overlong part none number e = cc

-- Lines were taken, and then all that was read besides, a part of one more: so all that was read is answered.
so_far : (before after : Ends) (between held : Held) (there : Option (List ℕ)) (lines : List Line) (part : List ℕ)
    (refused : Bool) (standing : Standing) → Hears fresh between before.left there lines → HearsPart between held there after.left part
    → IsDrained held → IsAnswered before after lines refused standing → NoBadLine standing → IsAnsweredSoFar before after
so_far before after between held there lines part refused standing hears further drained answered none = record {
  read = hears.takes.read ++ further.takes.read;
  consumed = consumed_both before.left there after.left hears.takes.read further.takes.read hears.takes.consumed further.takes.consumed;
  text = answered.text;
  refused = refused;
  standing = with_part standing (length part);
  heard = record {
    whole = hears.bytes;
    part = part;
    split = ap (λ it. it ++ further.takes.read) hears.takes.parts ∙ append_assoc hears.bytes between.bytes further.takes.read
        ∙ ap (λ it. hears.bytes ++ it) (further.takes.parts ∙ ap (λ it. part ++ it) drained.0 ∙ append-nil part);
    are_whole = are_whole hears.whole;
    no_feed = further.no_feed;
    before = standing;
    spoken = subst (λ it. IsSpoken it answered.text refused standing) (sym hears.are) answered.spoken;
    stands = refl;
  };
  no_bad_line = no_bad_part standing (length part) none;
  written = answered.written;
}
  where
    are_whole : AreWholeLines hears.bytes ⊎ IsOver between → AreWholeLines hears.bytes
    are_whole (inl whole) = whole
    are_whole (inr over) = let clash : IsTrue false = subst IsTrue drained.1 (further.stays over.0) in cc

module _ (before after : Ends) (new : Held) (number : ℕ) where
  -- it came to the end
  over_ends : (refused : Bool) → ComesToEnd fresh new before.left after.left before.written after.written number (Ok refused)
      → HasNoFault before after → IsOverWith before after refused
  over_ends refused (moment, talks, over, at_end) none = record {
    lines = first_line ∷ talks.lines;
    heard = (new, talks.hears, over, at_end);
    some = λ e. cc;
    answered = record { text = talks.text; spoken = spoken_rests talks; written = talks.appends };
    no_fault = none;
  }

  bad_ends : (refused : Bool) → StopsHearing fresh new before.left after.left before.written after.written number refused errors.BadLine
      → HasNoFault before after → Conversed before after (endings.BadLine number)
  bad_ends refused (now, there, place, moment, talks, (front, bad, hears, begun, some, other, none, short, counted)) no_fault = record {
    lines = first_line ∷ all;
    refused = refused;
    answered = inl (
      (new, hears_both fresh now new before.left there after.left (first_line ∷ talks.lines) (front ++ bad ∷ []) talks.hears hears),
      record {
        text = talks.text;
        spoken = opened (says_end talks.said (suc (length all)) (front ++ bad ∷ []) (EndedAt number)
            (ends_at front bad [] number (skips front begun some) begun other none short
            (omega (arith, counted, talks.counted, length-append talks.lines (front ++ bad ∷ []), length-append front (bad ∷ [])))));
        written = talks.appends;
      },
    );
    no_fault = no_fault;
  }
    where
      all : List Line
      all = talks.lines ++ (front ++ bad ∷ [])

      full : (line : Line) → line ≢ [] → skipped (line ∷ []) ≡ line ∷ []
      full [] some = absurd (some refl)
      full (byte ∷ line) some = refl

      skips : (front : List Line) → HasBegun moment.devices moment.begun front → (front ≡ [] → bad ≢ []) → skipped (front ++ bad ∷ []) ≡ front ++ bad ∷ []
      skips [] begun some = full bad (some refl)
      skips (line ∷ front) (inl e) some = absurd (no e)
        where
          no : line ∷ front ≡ [] → ⊥
          no h = cc
      skips (line ∷ front) (inr lacks) some = skipped_open moment (line ∷ front) (bad ∷ []) (λ h. cc) lacks

  part_of : (refused : Bool) (error : NotHeard) (now rest : Held) (there : Option (List ℕ)) (place : ℕ) (moment : Moment)
      → (talks : Talks fresh now before.left there before.written after.written place refused moment) → (front : List Line) (part : List ℕ)
      → (stops : StopsIn moment.devices moment.begun now rest there after.left front part)
      → HasHeardPart before after (first_line ∷ (talks.lines ++ front)) part
      × IsAnswered before after (first_line ∷ (talks.lines ++ front)) refused (standing_with front)
  part_of refused error now rest there place moment talks front part stops = (
    record {
      between = stops.between;
      there = stops.there;
      held = rest;
      hears = hears_both fresh now stops.between before.left there stops.there (first_line ∷ talks.lines) front talks.hears stops.hears;
      further = stops.further;
    },
    record { text = talks.text; spoken = spoken_front talks front stops.begins stops.short; written = talks.appends },
  )

  long_ends : (refused : Bool) → StopsHearing fresh new before.left after.left before.written after.written number refused errors.TooLong
      → HasNoFault before after → Conversed before after endings.TooLong
  long_ends refused (now, there, place, moment, talks, (front, part, rest, stops, long)) no_fault =
      let both = part_of refused errors.TooLong now rest there place moment talks front part stops in
      (first_line ∷ (talks.lines ++ front), part, refused, standing_with front, both.0, both.1, too_long front (length part) long, no_fault)

  fault_ends : (refused : Bool) → StopsHearing fresh new before.left after.left before.written after.written number refused errors.ReadFault
      → before.read_faults < after.read_faults → after.write_faults ≡ before.write_faults → Conversed before after endings.ReadFault
  fault_ends refused (now, there, place, moment, talks, (front, part, stops, drained)) rose none =
      let both = part_of refused errors.ReadFault now new there place moment talks front part stops in
      let hears = hears_both fresh now stops.between before.left there stops.there (first_line ∷ talks.lines) front talks.hears stops.hears in (
        so_far before after stops.between new stops.there (first_line ∷ (talks.lines ++ front)) part refused (standing_with front) hears
            stops.further drained both.1 (no_bad_line front),
        rose,
        none,
      )

  cut_ends : (refused : Bool) → StopsHearing fresh new before.left after.left before.written after.written number refused errors.CutShort
      → HasNoFault before after → HasBadLine before after (number + 1)
  unfolding standing_with
  cut_ends refused (now, there, place, moment, talks, ([], hears, some, lacks, short, over, at_end, counted)) no_fault = absurd (some refl)
  cut_ends refused (now, there, place, moment, talks, (line ∷ front, hears, some, lacks, short, over, at_end, counted)) no_fault = record {
    lines = first_line ∷ (talks.lines ++ line ∷ front);
    refused = refused;
    answered = inr (
      (new, hears_both fresh now new before.left there after.left (first_line ∷ talks.lines) (line ∷ front) talks.hears hears, over, at_end),
      omega (arith, counted, talks.counted, length-append talks.lines (line ∷ front)),
      inr (inl (
        size (line ∷ front),
        record { text = talks.text; spoken = spoken_front talks (line ∷ front) (inr lacks) short; written = talks.appends },
      )),
    );
    no_fault = no_fault;
  }

  lost_ends : (refused : Bool) (now : Held) (there : Option (List ℕ)) (place : ℕ) (moment : Moment) (read : List ℕ)
      → Talks fresh now before.left there before.written after.written place refused moment → Consumes there after.left read
      → HasNoFault before after → Conversed before after endings.NoMemory
  lost_ends refused now there place moment read talks consumed no_fault = (
    first_line ∷ talks.lines,
    record { held = now; there = there; hears = talks.hears; read = read; consumed = consumed },
    in_part before after (first_line ∷ talks.lines) talks.text refused Rests (spoken_rests talks) (whole_front before.written after.written talks.text talks.appends),
    no_fault,
  )

  writing_ends : (error : WriteAll) → StopsWriting fresh new before.left after.left before.written after.written error
      → (lines : List Line) × Hears fresh new before.left after.left lines × IsAnsweredInPart before after lines
  writing_ends error (written, behind, refused, moment, other, command, (now, there, place, talks, (next, counted)), alike, said) =
      let lines = talks.lines ++ item_lines (Commands command) in
      let all = says_behind talks.said (suc (length lines)) (item_lines (Commands command)) (said.text ++ []) (said.refused || false) Rests
      (goes_on (Commands command) [] said.text [] said.refused false next.may
      (ap skipped (sym (append-nil (item_lines (Commands command)))) ∙ skipped_item (Commands command) []) next.short
      (answers_alike moment other command said.text said.refused alike said.answers) (rests refl)) in (
        first_line ∷ lines,
        hears_both fresh now new before.left there after.left (first_line ∷ talks.lines) (item_lines (Commands command)) talks.hears next.hears,
        in_part before after (first_line ∷ lines) (talks.text ++ (said.text ++ [])) (refused || (said.refused || false)) Rests (opened all)
            (subst (λ it. AppendsFront before.written after.written (talks.text ++ it)) (sym (append-nil said.text))
            (front_second before.written written after.written talks.text said.text talks.appends (front Bool error said.written))),
      )
    where
      front : (T : Type 0) (error : WriteAll) → WritesWhole {T = T} written after.written (Err error) said.text → AppendsFront written after.written said.text
      front T write_errors.WriteFault it = it
      front T write_errors.NoMemory it = it

-- what a course tells that waits, or breaks, is told as it is
closed_waits : (standing : LiveStanding) (text told : List ℕ) → closed_as standing text ≡ record { text = told; standing = Waits }
    → ◌≡◌ {A = Told} (record { text = text; standing = standing }) (record { text = told; standing = Waits })
closed_waits (Over so rest) text told e = let no : Over so rest ≡ Waits = ap (λ it. it.standing) e in cc
closed_waits Waits text told e = e
closed_waits (LiveBreaks rest) text told e = let no : LiveBreaks rest ≡ Waits = ap (λ it. it.standing) e in cc

closed_breaks : (standing : LiveStanding) (text told : List ℕ) → closed_as standing text ≡ record { text = told; standing = LiveBreaks [] }
    → ◌≡◌ {A = Told} (record { text = text; standing = standing }) (record { text = told; standing = LiveBreaks [] })
closed_breaks (Over so rest) text told e = let no : Over so rest ≡ LiveBreaks [] = ap (λ it. it.standing) e in cc
closed_breaks Waits text told e = let no : Waits ≡ LiveBreaks [] = ap (λ it. it.standing) e in cc
closed_breaks (LiveBreaks rest) text told e = e

short_front : (front rest : List Line) → AreShort (front ++ rest) → AreShort front
short_front [] rest short = tt
short_front (line ∷ front) rest short = (short.0, short_front front rest short.1)

-- What a job cannot say was heard at a moment, and this comes of the lines of the host.
module _ (before after : Ends) (now between : Held) (there source : Option (List ℕ)) (place number : ℕ) (refused : Bool) (moment : Moment)
    (written : Option (List ℕ)) (talks : Talks fresh now before.left there before.written written place refused moment) (it : Aside)
    (next : HearsAside now between there source it) (counted : number ≡ place + 1) (course : Course)
    (comes : IsCourseOf moment.devices moment.state it course) where
  -- all lines
  abbrev with_lines : List Line → List Line
  with_lines host = talks.lines ++ aside_line it ∷ host

  run_of : (host : List Line) → SaysAside moment (aside_line it ∷ host) host course
  run_of host = record { it = it; may = next.may; short = next.short; says = skipped_aside it host; comes = comes }

  -- that are heard
  heard_with : (new : Held) (later : Option (List ℕ)) (host : List Line) → Hears between new source later host
      → Hears fresh new before.left later (first_line ∷ with_lines host)
  heard_with new later host hears =
      subst (λ ls. Hears fresh new before.left later (first_line ∷ ls)) (append_assoc talks.lines (aside_line it ∷ []) host)
      (hears_both fresh between new before.left source later (first_line ∷ (talks.lines ++ aside_line it ∷ [])) host
      (hears_both fresh now between before.left there source (first_line ∷ talks.lines) (aside_line it ∷ []) talks.hears next.hears) hears)

  -- and answered where the run is not over
  spoken_with : (host others : List Line) (text : List ℕ) (standing : Standing) → AreShort host
      → StandsIn (suc (length (with_lines (host ++ others)))) (course host) others text standing
      → IsSpoken (first_line ∷ with_lines (host ++ others)) (talks.text ++ text) refused standing
  spoken_with host others text standing short stands =
      opened (subst (λ b. Says (suc (length (with_lines (host ++ others)))) beginning (with_lines (host ++ others)) (talks.text ++ text) b standing) (or_false refused)
      (says_behind talks.said (suc (length (with_lines (host ++ others)))) (aside_line it ∷ (host ++ others)) text false standing
      (stops_at course host others text (run_of (host ++ others)) short stands)))

  spoken_whole : (host : List Line) (text : List ℕ) (standing : Standing) → AreShort host
      → StandsIn (suc (length (with_lines host))) (course host) [] text standing
      → IsSpoken (first_line ∷ with_lines host) (talks.text ++ text) refused standing
  spoken_whole host text standing short stands =
      subst (λ ls. IsSpoken (first_line ∷ with_lines ls) (talks.text ++ text) refused standing) (append-nil host)
      (spoken_with host [] text standing short (subst (λ ls. StandsIn (suc (length (with_lines ls))) (course host) [] text standing) (sym (append-nil host)) stands))

  answered_waits : (host : List Line) (text : List ℕ) → AreWithin host → closed_course course host ≡ record { text = text; standing = Waits }
      → Appends written after.written text → IsAnswered before after (first_line ∷ with_lines host) refused Asks
  answered_waits host text within waits appends = record {
    text = talks.text ++ text;
    spoken = spoken_whole host text Asks (are_short host within) (asks (closed_waits (course host).standing (course host).text text waits));
    written = Appends-trans before.written written after.written talks.text text talks.appends appends;
  }

  answered_breaks : (host : List Line) (text : List ℕ) (behind : ℕ) → AreWithin host → closed_course course host ≡ record { text = text; standing = LiveBreaks [] }
      → behind ≡ number + length host → Appends written after.written text
      → IsAnswered before after (first_line ∷ with_lines host) refused (EndedAt behind)
  answered_breaks host text behind within broken counts appends = record {
    text = talks.text ++ text;
    spoken = spoken_whole host text (EndedAt behind) (are_short host within)
        (breaks behind (closed_breaks (course host).standing (course host).text text broken)
        (omega (arith, counts, counted, talks.counted, length-append talks.lines (aside_line it ∷ host))));
    written = Appends-trans before.written written after.written talks.text text talks.appends appends;
  }

  -- a front of what is told was written
  in_part_by : (heard : List Line) (standing : LiveStanding) (told text : List ℕ) → AreShort heard → LinesAreUsed course heard told standing
      → course heard ≡ record { text = told; standing = standing } → BeginsText text (closed_as standing told) → AppendsFront written after.written text
      → IsAnsweredInPart before after (first_line ∷ with_lines heard)
  in_part_by heard (Over so left) told text short (host, is, same) stands (behind, begun_so) front = record {
    front = first_line ∷ with_lines host;
    rest = left;
    parts = ap (λ h. first_line ∷ with_lines h) is ∙ ap (λ ls. first_line ∷ ls) (sym (append_assoc talks.lines (aside_line it ∷ host) left));
    text = talks.text ++ (told ++ 10 ∷ []);
    refused = refused || so;
    standing = Rests;
    spoken = spoken_said (aside it course host told so talks.said next.may next.short comes (short_front host left (subst AreShort is short)) same);
    written = front_second before.written written after.written talks.text (told ++ 10 ∷ []) talks.appends
        (subst (AppendsFront written after.written) (sym begun_so) (front_first written after.written text behind front));
  }
  in_part_by heard Waits told text short used stands (behind, begun_so) front =
      in_part before after (first_line ∷ with_lines heard) (talks.text ++ told) refused Asks
      (spoken_whole heard told Asks short (asks stands))
      (front_second before.written written after.written talks.text told talks.appends
      (subst (AppendsFront written after.written) (sym begun_so) (front_first written after.written text behind front)))
  in_part_by heard (LiveBreaks left) told text short (host, is, same) stands (behind, begun_so) front = record {
    front = first_line ∷ with_lines host;
    rest = left;
    parts = ap (λ h. first_line ∷ with_lines h) is ∙ ap (λ ls. first_line ∷ ls) (sym (append_assoc talks.lines (aside_line it ∷ host) left));
    text = talks.text ++ told;
    refused = refused;
    standing = EndedAt (suc (length (with_lines host)));
    spoken = spoken_whole host told (EndedAt (suc (length (with_lines host)))) (short_front host left (subst AreShort is short))
        (breaks (suc (length (with_lines host))) same (omega arith));
    written = front_second before.written written after.written talks.text told talks.appends
        (subst (AppendsFront written after.written) (sym begun_so) (front_first written after.written text behind front));
  }

  told_in_part : (heard : List Line) (text : List ℕ) → AreWithin heard → BeginsText text (closed_course course heard) → AppendsFront written after.written text
      → IsAnsweredInPart before after (first_line ∷ with_lines heard)
  told_in_part heard text within begun_so front =
      let steady = courses_are_steady moment.devices moment.state it course comes in
      in_part_by heard (course heard).standing (course heard).text text (are_short heard within) (steady.used heard) refl begun_so front

consumed_none : (left : Option (List ℕ)) → Consumes left left []
consumed_none None = tt
consumed_none (Some xs) = refl

either_way : (before after : Ends) (b : Bool) (x y : Ended) → Conversed before after x → Conversed before after y
    → Conversed before after (cond b x y)
either_way before after true x y p q = p
either_way before after false x y p q = q

-- how what a job cannot say stopped
module _ {error : LiveError} (before after : Ends) (new : Held) (behind : ℕ)
    (p : StopsInAside fresh new before.left after.left before.written after.written behind error) where
  abbrev its_course : Course
  its_course = p.tells.course

  abbrev its_comes : IsCourseOf p.moment.devices p.moment.state p.it p.tells.course
  its_comes = course_alike p.moment p.other p.it p.tells.course p.alike p.tells.comes

  abbrev its_lines : List Line
  its_lines =
      first_line ∷ with_lines before after p.hears.0 p.now p.hears.1 p.there p.hears.2 p.number p.refused p.moment p.written p.hears.3 p.it p.hears.4.0 p.hears.4.1
      p.tells.course its_comes p.tells.runs.heard

  its_hears : (held : Held) (later : Option (List ℕ)) → Hears p.now held p.there later p.tells.runs.heard → Hears fresh held before.left later its_lines
  its_hears held later hears =
      heard_with before after p.hears.0 p.now p.hears.1 p.there p.hears.2 p.number p.refused p.moment p.written p.hears.3 p.it p.hears.4.0 p.hears.4.1
      p.tells.course its_comes held later p.tells.runs.heard hears

  its_waiting : closed_course p.tells.course p.tells.runs.heard ≡ record { text = p.tells.runs.text; standing = Waits }
      → Appends p.written after.written p.tells.runs.text → IsAnswered before after its_lines p.refused Asks
  its_waiting waits appends =
      answered_waits before after p.hears.0 p.now p.hears.1 p.there p.hears.2 p.number p.refused p.moment p.written p.hears.3 p.it p.hears.4.0 p.hears.4.1
      p.tells.course its_comes p.tells.runs.heard p.tells.runs.text p.tells.runs.within waits appends

  its_breaking : closed_course p.tells.course p.tells.runs.heard ≡ record { text = p.tells.runs.text; standing = LiveBreaks [] }
      → Appends p.written after.written p.tells.runs.text → IsAnswered before after its_lines p.refused (EndedAt behind)
  its_breaking broken appends =
      answered_breaks before after p.hears.0 p.now p.hears.1 p.there p.hears.2 p.number p.refused p.moment p.written p.hears.3 p.it p.hears.4.0 p.hears.4.1
      p.tells.course its_comes p.tells.runs.heard p.tells.runs.text behind p.tells.runs.within broken p.tells.runs.counts appends

  its_part : BeginsText p.tells.runs.text (closed_course p.tells.course p.tells.runs.heard) → AppendsFront p.written after.written p.tells.runs.text
      → IsAnsweredInPart before after its_lines
  its_part begun_so front =
      told_in_part before after p.hears.0 p.now p.hears.1 p.there p.hears.2 p.number p.refused p.moment p.written p.hears.3 p.it p.hears.4.0 p.hears.4.1
      p.tells.course its_comes p.tells.runs.heard p.tells.runs.text p.tells.runs.within begun_so front

  its_count : behind ≡ length its_lines
  its_count =
      omega (arith, p.tells.runs.counts, p.hears.4.1, p.hears.3.counted, length-append p.hears.3.lines (aside_line p.it ∷ p.tells.runs.heard))

-- a part of a line behind those of a host makes it too long
part_too_long : (part : ℕ) → item_limit ≤ part → with_part Asks part ≡ Overlong
part_too_long part long = rw (past part long) refl
  where
    past : (n : ℕ) → item_limit ≤ n → nat_lt n item_limit ≡ false
    past n h = grind (arith, nat_tests)

aside_ends : (before after : Ends) (new : Held) (behind : ℕ) (error : LiveError)
    → StopsInAside fresh new before.left after.left before.written after.written behind error
    → StopCause before.read_faults after.read_faults before.write_faults after.write_faults (Err (stops.Aside error))
    → Conversed before after (ending_of (Err (stops.Aside error)) behind)
aside_ends before after new behind live_errors.ReadFault p cause =
    let runs = p.tells.runs in
    let l = runs.listens in (
      so_far before after l.between new l.rest (its_lines before after new behind p) l.fails.0 p.refused Asks
          (its_hears before after new behind p l.between l.rest l.first) l.fails.1 l.fails.2
          (its_waiting before after new behind p runs.comes runs.tells) (λ number e. cc),
      cause.0,
      cause.1,
    )
aside_ends before after new behind live_errors.TooLong p cause =
    let runs = p.tells.runs in
    let l = runs.listens in (
      its_lines before after new behind p,
      l.fails.0,
      p.refused,
      Asks,
      record { between = l.between; there = l.rest; held = l.fails.1; hears = its_hears before after new behind p l.between l.rest l.first; further = l.fails.2 },
      its_waiting before after new behind p runs.comes runs.tells,
      part_too_long (length l.fails.0) (omega (arith, l.fails.3)),
      record { reads = cause.0; writes = cause.1 },
    )
aside_ends before after new behind live_errors.NoMemory p cause =
    let runs = p.tells.runs in
    let l = runs.listens in (
      its_lines before after new behind p,
      record { held = l.between; there = l.rest; hears = its_hears before after new behind p l.between l.rest l.first; read = l.fails.0; consumed = l.fails.1 },
      its_part before after new behind p runs.comes runs.tells,
      record { reads = cause.0; writes = cause.1 },
    )
aside_ends before after new behind live_errors.WriteFault p cause =
    let runs = p.tells.runs in (
      its_lines before after new behind p,
      (new, its_hears before after new behind p new after.left runs.listens),
      its_part before after new behind p runs.comes runs.tells,
      cause.0,
      cause.1,
    )
aside_ends before after new behind live_errors.Ended p cause =
    let runs = p.tells.runs in
    let none : HasNoFault before after = record { reads = cause.0; writes = cause.1 } in
    let hears = its_hears before after new behind p new after.left runs.listens.0 in
    let answered = its_waiting before after new behind p runs.comes runs.tells in
    either_way before after (nat_lt (behind + 1) (2 ^ 64)) (endings.BadLine (behind + 1)) endings.NoMemory
    (record {
      lines = its_lines before after new behind p;
      refused = p.refused;
      answered = inr ((new, hears, runs.listens.1, runs.listens.2), omega (arith, its_count before after new behind p), inr (inr answered));
      no_fault = none;
    }) (
      its_lines before after new behind p,
      record { held = new; there = after.left; hears = hears; read = []; consumed = consumed_none after.left },
      in_part before after (its_lines before after new behind p) answered.text p.refused Asks answered.spoken
          (whole_front before.written after.written answered.text answered.written),
      none,
    )
aside_ends before after new behind live_errors.BadLine p cause =
    let runs = p.tells.runs in record {
      lines = its_lines before after new behind p;
      refused = p.refused;
      answered = inl ((new, its_hears before after new behind p new after.left runs.listens), its_breaking before after new behind p runs.comes runs.tells);
      no_fault = record { reads = cause.0; writes = cause.1 };
    }

-- the ending that is told is that of the end to which it came
pub conversed : (before after : Ends) (new : Held) (number : ℕ) (result : Result Bool Stopped)
    → ComesToEnd fresh new before.left after.left before.written after.written number result
    → StopCause before.read_faults after.read_faults before.write_faults after.write_faults result
    → Conversed before after (ending_of result number)
conversed before after new number (Ok false) comes cause =
    over_ends before after new number false comes (record { reads = cause.0; writes = cause.1 })
conversed before after new number (Ok true) comes cause =
    over_ends before after new number true comes (record { reads = cause.0; writes = cause.1 })
conversed before after new number (Err (stops.Hearing errors.BadLine)) (refused, comes) cause =
    bad_ends before after new number refused comes (record { reads = cause.0; writes = cause.1 })
conversed before after new number (Err (stops.Hearing errors.CutShort)) (refused, comes) cause =
    let none : HasNoFault before after = record { reads = cause.0; writes = cause.1 } in
    let (now, there, place, moment, talks, told) = comes in
    either_way before after (nat_lt (number + 1) (2 ^ 64)) (endings.BadLine (number + 1)) endings.NoMemory
    (cut_ends before after new number refused comes none)
    (lost_ends before after new number refused now there place moment told.1.takes.read talks told.1.takes.consumed none)
conversed before after new number (Err (stops.Hearing errors.TooLong)) (refused, comes) cause =
    long_ends before after new number refused comes (record { reads = cause.0; writes = cause.1 })
conversed before after new number (Err (stops.Hearing errors.ReadFault)) (refused, comes) cause =
    fault_ends before after new number refused comes cause.0 cause.1
conversed before after new number (Err (stops.Hearing errors.NoMemory)) (refused, (now, there, place, moment, talks, (read, consumed))) cause =
    lost_ends before after new number refused now there place moment read talks consumed (record { reads = cause.0; writes = cause.1 })
conversed before after new number (Err (stops.Writing write_errors.WriteFault)) comes cause =
    let told = writing_ends before after new number write_errors.WriteFault comes in
    (told.0, (new, told.1), told.2, cause.0, cause.1)
conversed before after new number (Err (stops.Writing write_errors.NoMemory)) comes cause =
    let told = writing_ends before after new number write_errors.NoMemory comes in (
      told.0,
      record { held = new; there = after.left; hears = told.1; read = []; consumed = consumed_none after.left },
      told.2,
      record { reads = cause.0; writes = cause.1 },
    )
conversed before after new number (Err (stops.Aside error)) comes cause = aside_ends before after new number error comes cause

none_said : (before after : Ends) → Appends before.written after.written [] → IsAnswered before after [] false Rests
none_said before after kept = record { text = []; spoken = nothing; written = kept }

-- the same where the first line was not that of each conversation
pub conversed_first : (before after : Ends) (new : Held) (number : ℕ) (error : NotHeard)
    → HearsFirst fresh new before.left after.left number (Err error) → Appends before.written after.written []
    → StopCause before.read_faults after.read_faults before.write_faults after.write_faults (Err (stops.Hearing error))
    → Conversed before after (ending_of (Err (stops.Hearing error)) number)
unfolding standing_with
conversed_first before after new number errors.BadLine (line, hears, other, short, counted) kept cause = record {
  lines = line ∷ [];
  refused = false;
  answered = inl (
    (new, hears),
    record {
      text = [];
      spoken = subst (λ n. IsSpoken (line ∷ []) [] false (EndedAt n)) (sym counted) (stranger other short);
      written = kept;
    },
  );
  no_fault = record { reads = cause.0; writes = cause.1 };
}
conversed_first before after new number errors.CutShort (hears, over, at_end, counted) kept cause =
    let none : HasNoFault before after = record { reads = cause.0; writes = cause.1 } in
    either_way before after (nat_lt (number + 1) (2 ^ 64)) (endings.BadLine (number + 1)) endings.NoMemory
    (record {
      lines = [];
      refused = false;
      answered = inr ((new, hears, over, at_end), omega (arith, counted), inl (refl, none_said before after kept));
      no_fault = none;
    }) (
      [],
      record { held = new; there = after.left; hears = hears; read = []; consumed = consumed_none after.left },
      in_part before after [] [] false Rests nothing (whole_front before.written after.written [] kept),
      none,
    )
conversed_first before after new number errors.TooLong (part, rest, further, long) kept cause =
    let same : length part ≡ 0 + length part = omega (arith) in (
      [],
      part,
      false,
      Rests,
      record { between = fresh; there = before.left; held = rest; hears = hears_none fresh before.left; further = further },
      none_said before after kept,
      too_long [] (length part) (subst (λ it. item_limit ≤ it) same long),
      record { reads = cause.0; writes = cause.1 },
    )
conversed_first before after new number errors.ReadFault (part, further, drained) kept cause = (
  so_far before after fresh new before.left [] part false Rests (hears_none fresh before.left) further drained
      (none_said before after kept) (λ number e. cc),
  cause.0,
  cause.1,
)
conversed_first before after new number errors.NoMemory (read, consumed) kept cause = (
  [],
  record { held = fresh; there = before.left; hears = hears_none fresh before.left; read = read; consumed = consumed },
  in_part before after [] [] false Rests nothing (whole_front before.written after.written [] kept),
  record { reads = cause.0; writes = cause.1 },
)
