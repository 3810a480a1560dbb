-- What comes of reading the next item of a submission, from what comes of its lines.
use Rattle.std.proofs.Common.{◌≡◌, inl, inr, ℕ, ◌+◌, ◌-◌, ◌≤◌, Bool, true, false, List, [], ◌∷◌, ◌++◌, length, take, Option, Some, Result, Ok, Err, refl, sym, ap, subst, ◌∙◌, arith, length-append}
use Rattle.std.specs.Str.{bytes_eq}
use Rattle.std.proofs.lemmas.Slice.Eq.{bytes_eq-Decides}
use Rattle.cc_job.specs.Jobs.{text}
use Rattle.cc_words.specs.Lines.{Line}
use Rattle.cc_words.proofs.Splits.{AllLack}
use Rattle.cc_words.proofs.LineLists.{lines-lack}
use Rattle.cc_line_reading.specs.LineReading.{Held, Hears}
use Rattle.cc_line_reading.proofs.LineTurns.{consumed_both}
use Rattle.cc_item_reading.specs.declared.reading.NotHeard.{NotHeard}
use Rattle.cc_item_reading.specs.declared.reading.NotHeard.TheVariants as errors
use Rattle.cc_item_reading.specs.Sayings.{size}
use Rattle.cc_item_reading.specs.ItemReading.{HearsLine, HearsText}
use Rattle.cc_item_reading.proofs.Hearing.{hears_none, hears_both, line_put}
use Rattle.cc_vouching.specs.Submissions.{Item, first_line}
use Rattle.cc_submission_reading.specs.declared.heads.ItemHead.{ItemHead}
use Rattle.cc_submission_reading.specs.declared.hearing.Heard.{Heard}
use Rattle.cc_submission_reading.specs.declared.hearing.Heard.TheVariants as heard
use Rattle.cc_submission_reading.specs.HeadReading.{item_head_of, line_count, item_with, may_stand}
use Rattle.cc_submission_reading.specs.Submitting.{SoFar, GoesOn, IsInOrder, item_limit}
use Rattle.cc_submission_reading.specs.SubmissionReading.{HearsItem, HearsNextItem, HearsFirstLine, HearsBehind, IsItemHeard}
use Rattle.cc_submission_reading.proofs.ItemFronts.{IsWhole, whole_item, open_front}

-- No first line came.
pub first_failed : (so_far : SoFar) (old new : Held) (left later : Option (List ℕ)) (before behind : ℕ)
    (bytes none : List ℕ) (error : NotHeard) → none ≡ [] → HearsLine old new left later item_limit before behind none bytes (Err error)
    → HearsNextItem so_far old new left later before behind (Err error)
first_failed so_far old new left later before behind bytes none errors.BadLine empty fails = absurd fails
first_failed so_far old new left later before behind bytes none errors.CutShort empty fails = absurd fails
first_failed so_far old new left later before behind bytes none errors.TooLong empty (part, rest, further, long) = (
  [],
  part,
  rest,
  record { between = old; there = left; hears = hears_none old left; begins = inl refl; short = omega arith; further = further },
  omega (arith, long, ap length empty),
)
first_failed so_far old new left later before behind bytes none errors.ReadFault empty (part, further, all) = (
  [],
  part,
  record { between = old; there = left; hears = hears_none old left; begins = inl refl; short = omega arith; further = further },
  all,
)
first_failed so_far old new left later before behind bytes none errors.NoMemory empty fails = fails

-- The same of the line that is that of each submission.
pub none_first : (old new : Held) (left later : Option (List ℕ)) (before behind : ℕ) (bytes none : List ℕ) (error : NotHeard)
    → none ≡ [] → HearsLine old new left later item_limit before behind none bytes (Err error)
    → HearsFirstLine old new left later before behind (Err error)
none_first old new left later before behind bytes none errors.BadLine empty fails = absurd fails
none_first old new left later before behind bytes none errors.CutShort empty fails = absurd fails
none_first old new left later before behind bytes none errors.TooLong empty (part, rest, further, long) =
    (part, rest, further, omega (arith, long, ap length empty))
none_first old new left later before behind bytes none errors.ReadFault empty fails = fails
none_first old new left later before behind bytes none errors.NoMemory empty fails = fails

-- A first line came.
pub record First (old now : Held) (left there : Option (List ℕ)) (before mid : ℕ) (bytes line : List ℕ) : Type 0 where
  pub hears : Hears old now left there (line ∷ [])
  pub bytes_are : bytes ≡ line ++ 10 ∷ []
  pub short : length bytes ≤ item_limit
  pub counted : mid ≡ before + 1

pub first_came : (old now : Held) (left there : Option (List ℕ)) (before mid : ℕ) (none bytes line : List ℕ) (so : Bool) → none ≡ []
    → so ≡ true → HearsLine old now left there item_limit before mid none bytes (Ok so)
    → line ≡ take (length bytes - 1) bytes → First old now left there before mid bytes line
first_came old now left there before mid none bytes line so empty is told at =
    let came = subst (λ it. HearsLine old now left there item_limit before mid none bytes (Ok it)) is told in
    let put : bytes ≡ came.0 ++ 10 ∷ [] = came.2 ∙ ap (λ it. it ++ (came.0 ++ 10 ∷ [])) empty in
    let same : came.0 ≡ line = sym (at ∙ line_put came.0 bytes [] put) in
    record {
      hears = subst (λ it. Hears old now left there (it ∷ [])) same came.1;
      bytes_are = put ∙ ap (λ it. it ++ 10 ∷ []) same;
      short = came.3;
      counted = came.4;
    }

-- it is the one of each submission, or another
pub first_is : (old now : Held) (left there : Option (List ℕ)) (before mid : ℕ) (bytes line : List ℕ)
    → First old now left there before mid bytes line → bytes_eq line first_line ≡ true
    → HearsFirstLine old now left there before mid (Ok tt)
first_is old now left there before mid bytes line first is =
    (subst (λ it. Hears old now left there (it ∷ [])) ((bytes_eq-Decides line first_line).0 is) first.hears, first.counted)

pub first_other : (old now : Held) (left there : Option (List ℕ)) (before mid : ℕ) (bytes line : List ℕ)
    → First old now left there before mid bytes line → bytes_eq line first_line ≡ false
    → HearsFirstLine old now left there before mid (Err errors.BadLine)
first_other old now left there before mid bytes line first other = (
  line,
  first.hears,
  λ same. let is = sym other ∙ (bytes_eq-Decides line first_line).1 same in cc,
  omega (arith, first.short, ap length first.bytes_are, length-append line (10 ∷ [])),
  first.counted,
)

-- no item begins with it
pub next_bad : (so_far : SoFar) (old now : Held) (left there : Option (List ℕ)) (before mid : ℕ)
    (bytes line : List ℕ) → First old now left there before mid bytes line → (GoesOn so_far (line ∷ []) → ⊥)
    → HearsNextItem so_far old now left there before mid (Err errors.BadLine)
next_bad so_far old now left there before mid bytes line first none = (
  line,
  first.hears,
  none,
  omega (arith, first.short, ap length first.bytes_are, length-append line (10 ∷ [])),
  first.counted,
)

lack_of : (old new : Held) (left later : Option (List ℕ)) (lines : List Line) → Hears old new left later lines → AllLack 10 lines
lack_of old new left later lines hears = subst (AllLack 10) hears.are (lines-lack hears.bytes)

first_size : (bytes line : List ℕ) (lines : List Line) → bytes ≡ line ++ 10 ∷ [] → size (line ∷ lines) ≡ length bytes + size lines
first_size bytes line lines is =
    omega (arith, ap length is, length-append line (10 ∷ []), length-append line (10 ∷ text lines))

-- all lines behind it came
pub next_whole : (so_far : SoFar) (old now new : Held) (left there later : Option (List ℕ)) (before mid behind : ℕ)
    (bytes line : List ℕ) (head : ItemHead) (count room : ℕ) (told : List ℕ) (it : Heard) → IsInOrder so_far
    → First old now left there before mid bytes line → item_head_of line ≡ Some head → may_stand so_far head ≡ true
    → count ≡ line_count head → room ≡ item_limit - length bytes
    → HearsText now new there later count room mid behind told (Ok tt) → IsItemHeard it (item_with head told)
    → HearsNextItem so_far old new left later before behind (Ok it)
next_whole so_far old now new left there later before mid behind bytes line head count room told it order first says stands many is
    (lines, hears, size_is, told_is, low, step) heard_it = at it heard_it
  where
    whole : IsWhole so_far line head lines
    whole = whole_item so_far line head lines order says stands (lack_of now new there later lines hears) (size_is ∙ many)

    item : Item
    item = item_with head (text lines)

    so : HearsItem so_far old new left later before behind item
    so = record {
      may = whole.may;
      short = subst (λ ls. size ls ≤ item_limit) (sym whole.lines_are)
          (omega (arith, first_size bytes line lines first.bytes_are, low, is, first.short));
      hears = subst (Hears old new left later) (sym whole.lines_are)
          (hears_both old now new left there later (line ∷ []) lines first.hears hears);
      counted = omega (arith, step, first.counted, ap length whole.lines_are, size_is);
    }

    own : item_with head told ≡ item
    own = ap (item_with head) told_is

    at : (it : Heard) → IsItemHeard it (item_with head told) → HearsNextItem so_far old new left later before behind (Ok it)
    at heard.End h = absurd h
    at (heard.Device device) h = subst (HearsItem so_far old new left later before behind) (sym own ∙ h) so
    at (heard.Module name source) h = subst (HearsItem so_far old new left later before behind) (sym own ∙ h) so
    at (heard.Claim owner definition certificate) h = subst (HearsItem so_far old new left later before behind) (sym own ∙ h) so

-- they did not
pub next_cut : (so_far : SoFar) (old now new : Held) (left there later : Option (List ℕ)) (before mid behind : ℕ)
    (bytes line : List ℕ) (head : ItemHead) (count room : ℕ) (told : List ℕ) (error : NotHeard) → IsInOrder so_far
    → First old now left there before mid bytes line → item_head_of line ≡ Some head → may_stand so_far head ≡ true
    → count ≡ line_count head → room ≡ item_limit - length bytes
    → HearsText now new there later count room mid behind told (Err error)
    → HearsNextItem so_far old new left later before behind (Err error)
next_cut so_far old now new left there later before mid behind bytes line head count room told errors.BadLine order first says stands many is fails =
    absurd fails
next_cut so_far old now new left there later before mid behind bytes line head count room told errors.CutShort order first says stands many is
    (front, hears, less, low, over, at_end, step) = (
      line ∷ front,
      hears_both old now new left there later (line ∷ []) front first.hears hears,
      λ h. cc,
      open_front so_far line head front order says stands (lack_of now new there later front hears) (omega (arith, less, many)),
      omega (arith, first_size bytes line front first.bytes_are, low, is, first.short),
      over,
      at_end,
      omega (arith, step, first.counted),
    )
next_cut so_far old now new left there later before mid behind bytes line head count room told errors.TooLong order first says stands many is
    (front, part, rest, stops, less, low, long) = (
      line ∷ front,
      part,
      rest,
      record {
        between = stops.between;
        there = stops.there;
        hears = hears_both old now stops.between left there stops.there (line ∷ []) front first.hears stops.hears;
        begins = inr (open_front so_far line head front order says stands (lack_of now stops.between there stops.there front stops.hears) (omega (arith, less, many)));
        short = omega (arith, first_size bytes line front first.bytes_are, low, is, first.short);
        further = stops.further;
      },
      omega (arith, first_size bytes line front first.bytes_are, long, is, first.short),
    )
next_cut so_far old now new left there later before mid behind bytes line head count room told errors.ReadFault order first says stands many is
    (front, part, stops, less, low, none) = (
      line ∷ front,
      part,
      record {
        between = stops.between;
        there = stops.there;
        hears = hears_both old now stops.between left there stops.there (line ∷ []) front first.hears stops.hears;
        begins = inr (open_front so_far line head front order says stands (lack_of now stops.between there stops.there front stops.hears) (omega (arith, less, many)));
        short = omega (arith, first_size bytes line front first.bytes_are, low, is, first.short);
        further = stops.further;
      },
      none,
    )
next_cut so_far old now new left there later before mid behind bytes line head count room told errors.NoMemory order first says stands many is
    (read, consumed) =
    (first.hears.takes.read ++ read, consumed_both left there later first.hears.takes.read read first.hears.takes.consumed consumed)

pub next_behind : (so_far : SoFar) (old now new : Held) (left there later : Option (List ℕ)) (before mid behind : ℕ)
    (bytes line : List ℕ) (head : ItemHead) (room : ℕ) (result : Result Heard NotHeard) → IsInOrder so_far
    → First old now left there before mid bytes line → item_head_of line ≡ Some head → may_stand so_far head ≡ true
    → room ≡ item_limit - length bytes → HearsBehind head room now new there later mid behind result
    → HearsNextItem so_far old new left later before behind result
next_behind so_far old now new left there later before mid behind bytes line head room (Ok it) order first says stands is (told, hears, heard_it) =
    next_whole so_far old now new left there later before mid behind bytes line head (line_count head) room told it order first says stands refl is
    hears heard_it
next_behind so_far old now new left there later before mid behind bytes line head room (Err error) order first says stands is (told, fails) =
    next_cut so_far old now new left there later before mid behind bytes line head (line_count head) room told error order first says stands refl is
    fails

-- what was heard behind a head, where so many lines are asked for
pub behind_whole : (head : ItemHead) (count room : ℕ) (old new : Held) (left later : Option (List ℕ)) (before behind : ℕ)
    (bytes : List ℕ) (it : Heard) → count ≡ line_count head
    → HearsText old new left later count room before behind bytes (Ok tt) → IsItemHeard it (item_with head bytes)
    → HearsBehind head room old new left later before behind (Ok it)
behind_whole head count room old new left later before behind bytes it many hears heard_it =
    (bytes, subst (λ n. HearsText old new left later n room before behind bytes (Ok tt)) many hears, heard_it)

pub behind_cut : (head : ItemHead) (count room : ℕ) (old new : Held) (left later : Option (List ℕ)) (before behind : ℕ)
    (bytes : List ℕ) (error : NotHeard) → count ≡ line_count head
    → HearsText old new left later count room before behind bytes (Err error)
    → HearsBehind head room old new left later before behind (Err error)
behind_cut head count room old new left later before behind bytes error many fails =
    (bytes, subst (λ n. HearsText old new left later n room before behind bytes (Err error)) many fails)
