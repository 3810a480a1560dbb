-- Lines that were taken one behind the other.
use Rattle.std.proofs.Common.{◌≡◌, ◌⊎◌, inl, inr, ℕ, ◌+◌, ◌-◌, ◌≤◌, ◌<◌, Bool, true, false, List, [], ◌∷◌, ◌++◌, length, map, take, drop, Option, Some, None, Ok, Err, IsTrue, refl, sym, ap, subst, ◌∙◌, arith, append_assoc, append-nil, length-append, length-drop, take_at, take_all}
use Rattle.std.proofs.Math.Seq.{drop-append_seam}
use Rattle.std.specs.List.{AllByRecursion}
use Rattle.std.specs.Io.KnownBytes.{Consumes}
use Rattle.cc_policy.specs.declared.policy.Rule.{Rule}
use Rattle.cc_job.specs.Jobs.{IsRule, rule_line, text}
use Rattle.cc_job.proofs.RuleLaws.{rule_of_gives}
use Rattle.cc_words.specs.Lines.{Line, lines_of, is_whole_behind, AreWholeLines}
use Rattle.cc_words.proofs.LineLists.{terminated-lines_of, lines_of-terminated, is_whole-terminated, lines-lack}
use Rattle.cc_line_reading.specs.LineReading.{Held, Takes, IsOver, Hears}
use Rattle.cc_line_reading.proofs.LineTurns.{consumed_both}
use Rattle.cc_item_reading.specs.declared.reading.NotHeard.{NotHeard}
use Rattle.cc_item_reading.specs.declared.reading.NotHeard.TheVariants as errors
use Rattle.cc_item_reading.specs.Sayings.{size}
use Rattle.cc_item_reading.specs.ItemReading.{HearsLine, HearsText, HearsRules, PutsRule, ReadItemCause}

consumed_none : (left : Option (List ℕ)) → Consumes left left []
consumed_none None = tt
consumed_none (Some xs) = refl

takes_both : (old between new : Held) (left there later : Option (List ℕ)) (first second : List ℕ) → Takes old between left there first
    → Takes between new there later second → (IsTrue old.ended → IsTrue between.ended) → Takes old new left later (first ++ second)
takes_both old between new left there later first second a b stays = record {
  read = a.read ++ b.read;
  consumed = consumed_both left there later a.read b.read a.consumed b.consumed;
  parts = sym (append_assoc old.bytes a.read b.read) ∙ ap (λ it. it ++ b.read) a.parts ∙ append_assoc first between.bytes b.read
      ∙ ap (λ it. first ++ it) b.parts ∙ sym (append_assoc first second new.bytes);
  quiet = λ h. ap (λ it. it ++ b.read) (a.quiet h) ∙ b.quiet (stays h);
}

nothing_more : (xs ys : List ℕ) → xs ++ ys ≡ [] → (xs ≡ []) × (ys ≡ [])
nothing_more [] ys e = (refl, e)
nothing_more (x ∷ xs) ys e = cc

-- the lines of bytes that are whole lines, with others behind them
lines_both : (first second : List ℕ) → AreWholeLines first → lines_of (first ++ second) ≡ lines_of first ++ lines_of second
lines_both first second whole =
    ap (λ it. lines_of (it ++ second)) (sym (terminated-lines_of first whole)) ∙ lines_of-terminated (lines_of first) second (lines-lack first)

whole_both : (first second : List ℕ) → AreWholeLines first → is_whole_behind true (first ++ second) ≡ is_whole_behind true second
whole_both first second whole =
    ap (λ it. is_whole_behind true (it ++ second)) (sym (terminated-lines_of first whole)) ∙ is_whole-terminated (lines_of first) second

-- nothing was taken
pub hears_none : (held : Held) (left : Option (List ℕ)) → Hears held held left left []
hears_none held left = record {
  bytes = [];
  takes = record { read = []; consumed = consumed_none left; parts = append-nil held.bytes; quiet = λ h. refl };
  are = refl;
  whole = inl refl;
  stays = λ h. h;
}

-- lines and then others
pub hears_both : (old between new : Held) (left there later : Option (List ℕ)) (first second : List Line)
    → Hears old between left there first → Hears between new there later second → Hears old new left later (first ++ second)
hears_both old between new left there later first second a b = at a.whole b.whole
  where
    taken : Takes old new left later (a.bytes ++ b.bytes)
    taken = takes_both old between new left there later a.bytes b.bytes a.takes b.takes a.stays

    at : AreWholeLines a.bytes ⊎ IsOver between → AreWholeLines b.bytes ⊎ IsOver new → Hears old new left later (first ++ second)
    at (inl whole) ends = record {
      bytes = a.bytes ++ b.bytes;
      takes = taken;
      are = lines_both a.bytes b.bytes whole ∙ ap (λ it. it ++ lines_of b.bytes) a.are ∙ ap (λ it. first ++ it) b.are;
      whole = elim ends [
        | inl more ↦ inl (whole_both a.bytes b.bytes whole ∙ more)
        | inr over ↦ inr over
      ];
      stays = λ h. b.stays (a.stays h);
    }
    at (inr over) ends =
        let none = nothing_more b.bytes new.bytes (sym b.takes.parts ∙ ap (λ it. it ++ b.takes.read) over.1 ∙ b.takes.quiet over.0) in
        let empty : second ≡ [] = sym b.are ∙ ap lines_of none.0 in
        record {
          bytes = a.bytes ++ b.bytes;
          takes = taken;
          are = ap (λ it. lines_of (a.bytes ++ it)) none.0 ∙ ap lines_of (append-nil a.bytes) ∙ a.are ∙ sym (append-nil first)
              ∙ ap (λ it. first ++ it) (sym empty);
          whole = inr (b.stays over.0, none.1);
          stays = λ h. b.stays (a.stays h);
        }

-- how many bytes lines have
text_both : (lines more : List Line) → text (lines ++ more) ≡ text lines ++ text more
text_both [] more = refl
text_both (line ∷ lines) more =
    ap (λ it. line ++ 10 ∷ it) (text_both lines more) ∙ sym (append_assoc line (10 ∷ text lines) (text more))

pub size_both : (lines more : List Line) → size (lines ++ more) ≡ size lines + size more
size_both lines more = ap (λ (it : List ℕ). length it) (text_both lines more) ∙ length-append (text lines) (text more)

-- Lines of a text that were read so far.
pub record Reading (old now : Held) (left later : Option (List ℕ)) (count room before behind : ℕ) (told : List ℕ) : Type 0 where
  pub lines : List Line
  pub hears : Hears old now left later lines
  pub many : length lines ≡ count
  pub is : told ≡ text lines
  pub short : size lines ≤ room
  pub counted : behind ≡ before + count

pub reads_none : (old : Held) (left : Option (List ℕ)) (room before : ℕ) (told : List ℕ) → told ≡ [] → Reading old old left left 0 room before before told
reads_none old left room before told empty = record {
  lines = [];
  hears = hears_none old left;
  many = refl;
  is = empty;
  short = omega arith;
  counted = omega arith;
}

-- one line more
reads_line_so : (old now new : Held) (left later last : Option (List ℕ)) (count room before behind next : ℕ) (told more : List ℕ)
    → Reading old now left later count room before behind told → HearsLine now new later last room behind next told more (Ok true)
    → Reading old new left last (count + 1) room before next more
reads_line_so old now new left later last count room before behind next told more reading (line, hears, put, low, step) =
    let is : more ≡ text (reading.lines ++ line ∷ []) =
    put ∙ ap (λ it. it ++ (line ++ 10 ∷ [])) reading.is ∙ sym (text_both reading.lines (line ∷ [])) in
    record {
      lines = reading.lines ++ line ∷ [];
      hears = hears_both old now new left later last reading.lines (line ∷ []) reading.hears hears;
      many = omega (arith, length-append reading.lines (line ∷ []), reading.many);
      is = is;
      short = omega (arith, ap length is, low);
      counted = omega (arith, step, reading.counted);
    }

-- the end came, or reading failed
reads_end_so : (old now new : Held) (left later last : Option (List ℕ)) (done count room before behind next : ℕ) (told more : List ℕ)
    → Reading old now left later done room before behind told → HearsLine now new later last room behind next told more (Ok false)
    → done < count → HearsText old new left last count room before next more (Err errors.CutShort)
reads_end_so old now new left later last done count room before behind next told more reading (hears, over, at_end, same, step) less = (
  reading.lines,
  subst (Hears old new left last) (append-nil reading.lines) (hears_both old now new left later last reading.lines [] reading.hears hears),
  omega (arith, reading.many, less),
  reading.short,
  over,
  at_end,
  omega (arith, step, reading.counted, reading.many),
)

pub reads_failed : (old now new : Held) (left later last : Option (List ℕ)) (done count room before behind next : ℕ) (told more : List ℕ)
    (error : NotHeard) → Reading old now left later done room before behind told
    → HearsLine now new later last room behind next told more (Err error)
    → done < count → HearsText old new left last count room before next more (Err error)
reads_failed old now new left later last done count room before behind next told more errors.BadLine reading fails less = absurd fails
reads_failed old now new left later last done count room before behind next told more errors.CutShort reading fails less = absurd fails
reads_failed old now new left later last done count room before behind next told more errors.TooLong reading (part, rest, further, long) less = (
  reading.lines,
  part,
  rest,
  record { between = now; there = later; hears = reading.hears; further = further },
  omega (arith, reading.many, less),
  reading.short,
  omega (arith, long, ap length reading.is),
)
reads_failed old now new left later last done count room before behind next told more errors.ReadFault reading (part, further, none) less = (
  reading.lines,
  part,
  record { between = now; there = later; hears = reading.hears; further = further },
  omega (arith, reading.many, less),
  reading.short,
  none,
)
reads_failed old now new left later last done count room before behind next told more errors.NoMemory reading (read, consumed) less =
    (reading.hears.takes.read ++ read, consumed_both left later last reading.hears.takes.read read reading.hears.takes.consumed consumed)

pub reads_line : (old now new : Held) (left later last : Option (List ℕ)) (count room before behind next : ℕ) (told more : List ℕ) (so : Bool)
    → Reading old now left later count room before behind told → so ≡ true
    → HearsLine now new later last room behind next told more (Ok so)
    → Reading old new left last (count + 1) room before next more
reads_line old now new left later last count room before behind next told more so reading is heard =
    reads_line_so old now new left later last count room before behind next told more reading
    (subst (λ it. HearsLine now new later last room behind next told more (Ok it)) is heard)

pub reads_end : (old now new : Held) (left later last : Option (List ℕ)) (done count room before behind next : ℕ) (told more : List ℕ) (so : Bool)
    → Reading old now left later done room before behind told → so ≡ false
    → HearsLine now new later last room behind next told more (Ok so)
    → done < count → HearsText old new left last count room before next more (Err errors.CutShort)
reads_end old now new left later last done count room before behind next told more so reading is heard less =
    reads_end_so old now new left later last done count room before behind next told more reading
    (subst (λ it. HearsLine now new later last room behind next told more (Ok it)) is heard) less

-- all were read
pub reads_all : (old now : Held) (left later : Option (List ℕ)) (done count room before behind : ℕ) (told : List ℕ)
    → Reading old now left later done room before behind told → done ≡ count → HearsText old now left later count room before behind told (Ok tt)
reads_all old now left later done count room before behind told reading all =
    (reading.lines, reading.hears, reading.many ∙ all, reading.is, reading.short, omega (arith, reading.counted, all))

pub room_left : (old now : Held) (left later : Option (List ℕ)) (done room before behind : ℕ) (told : List ℕ)
    → Reading old now left later done room before behind told → length told ≤ room
room_left old now left later done room before behind told reading = omega (arith, ap length reading.is, reading.short)

-- the cause of an error is told alike of whatever was wanted
pub cause_any : (A B : Type 0) (first before behind : ℕ) (error : NotHeard) → before ≡ first → ReadItemCause {T = A} before behind (Err error)
    → ReadItemCause {T = B} first behind (Err error)
cause_any A B first before behind errors.BadLine same cause = cause ∙ same
cause_any A B first before behind errors.CutShort same cause = cause ∙ same
cause_any A B first before behind errors.TooLong same cause = cause ∙ same
cause_any A B first before behind errors.ReadFault same cause = omega (arith, same, cause)
cause_any A B first before behind errors.NoMemory same cause = cause ∙ same

-- Lines of rules that were read so far.
pub record ReadingRules (old now : Held) (left later : Option (List ℕ)) (count room before behind : ℕ) (told : List ℕ) (rules : List Rule) : Type 0 where
  pub reading : Reading old now left later count room before behind told
  pub are : AllByRecursion IsRule rules
  pub lines : reading.lines ≡ map rule_line rules

pub rules_none : (old : Held) (left : Option (List ℕ)) (room before : ℕ) (told : List ℕ) (rules : List Rule) → told ≡ [] → rules ≡ []
    → ReadingRules old old left left 0 room before before told rules
unfolding reads_none
rules_none old left room before told rules empty none =
    subst (ReadingRules old old left left 0 room before before told) (sym none)
    (record { reading = reads_none old left room before told empty; are = tt; lines = refl })

rules_push : (rules : List Rule) (rule : Rule) → AllByRecursion IsRule rules → IsRule rule → AllByRecursion IsRule (rules ++ rule ∷ [])
rules_push [] rule are is = (is, tt)
rules_push (first ∷ rules) rule are is = (are.0, rules_push rules rule are.1 is)

lines_push : (rules : List Rule) (rule : Rule) → map rule_line (rules ++ rule ∷ []) ≡ map rule_line rules ++ rule_line rule ∷ []
lines_push [] rule = refl
lines_push (first ∷ rules) rule = ap (λ it. rule_line first ∷ it) (lines_push rules rule)

lines_length : (rules : List Rule) → length (map rule_line rules) ≡ length rules
lines_length [] = refl
lines_length (rule ∷ rules) = let less = lines_length rules in omega (arith, less)

-- the line that was put behind bytes, without its line feed
pub line_put : (line more told : List ℕ) → more ≡ told ++ (line ++ 10 ∷ []) → take (length (drop (length told) more) - 1) (drop (length told) more) ≡ line
line_put line more told is =
    let cut : drop (length told) more ≡ line ++ 10 ∷ [] = ap (drop (length told)) is ∙ drop-append_seam told (line ++ 10 ∷ []) in
    let size : length (line ++ 10 ∷ []) - 1 ≡ length line = omega (arith, length-append line (10 ∷ [])) in
    ap (λ it. take (length it - 1) it) cut ∙ ap (λ n. take n (line ++ 10 ∷ [])) size ∙ take_at line (10 ∷ []) (length line) refl

-- what stands behind so many bytes
pub slice_is : (bytes slice told : List ℕ) (from : ℕ) → slice ≡ bytes → from ≡ length told
    → take (length slice - from) (drop from slice) ≡ drop (length told) bytes
slice_is bytes slice told from same is =
    ap (λ it. take (length it - from) (drop from it)) same ∙ take_all (length bytes - from) (drop from bytes) (omega (arith, length-drop from bytes))
    ∙ ap (λ n. drop n bytes) is

-- one rule more
pub rules_line : (old now new : Held) (left later last : Option (List ℕ)) (count room before behind next : ℕ) (told more : List ℕ)
    (rules : List Rule) (so : Bool) → ReadingRules old now left later count room before behind told rules → so ≡ true
    → HearsLine now new later last room behind next told more (Ok so)
    → (line : Line) → (line ≡ take (length (drop (length told) more) - 1) (drop (length told) more)) → (others : List Rule)
    → PutsRule line rules others (Ok tt) → ReadingRules old new left last (count + 1) room before next more others
unfolding reads_line_so
rules_line old now new left later last count room before behind next told more rules so reading is heard line at others (rule, found, pushed) =
    let told_line = subst (λ it. HearsLine now new later last room behind next told more (Ok it)) is heard in
    let step = reads_line_so old now new left later last count room before behind next told more reading.reading told_line in
    let same : line ≡ told_line.0 = at ∙ line_put told_line.0 more told told_line.2 in
    let gives = rule_of_gives line rule found in
    subst (ReadingRules old new left last (count + 1) room before next more) (sym pushed)
    (record {
      reading = step;
      are = rules_push rules rule reading.are gives.0;
      lines = ap (λ it. reading.reading.lines ++ it ∷ []) (sym same ∙ gives.1) ∙ ap (λ it. it ++ rule_line rule ∷ []) reading.lines
          ∙ sym (lines_push rules rule);
    })

-- a line that is no rule
pub rules_bad : (old now new : Held) (left later last : Option (List ℕ)) (done count room before behind next : ℕ) (told more : List ℕ)
    (rules : List Rule) (so : Bool) → ReadingRules old now left later done room before behind told rules → so ≡ true
    → HearsLine now new later last room behind next told more (Ok so)
    → (line : Line) → (line ≡ take (length (drop (length told) more) - 1) (drop (length told) more)) → (others : List Rule)
    → (error : NotHeard) → PutsRule line rules others (Err error) → done < count
    → HearsRules old new left last count room before next others (Err error)
unfolding reads_line_so
rules_bad old now new left later last done count room before behind next told more rules so reading is heard line at others errors.BadLine (none, same) less =
    let told_line = subst (λ it. HearsLine now new later last room behind next told more (Ok it)) is heard in
    let step = reads_line_so old now new left later last done room before behind next told more reading.reading told_line in
    let own : line ≡ told_line.0 = at ∙ line_put told_line.0 more told told_line.2 in
    let lines : step.lines ≡ map rule_line rules ++ line ∷ [] =
    ap (λ it. it ++ told_line.0 ∷ []) reading.lines ∙ ap (λ it. map rule_line rules ++ it ∷ []) (sym own) in
    let many : length rules ≡ done = sym (lines_length rules) ∙ ap length (sym reading.lines) ∙ reading.reading.many in
    subst (λ it. HearsRules old new left last count room before next it (Err errors.BadLine)) (sym same) (
      line,
      subst (Hears old new left last) lines step.hears,
      reading.are,
      omega (arith, many, less),
      none,
      subst (λ it. size it ≤ room) lines step.short,
      omega (arith, step.counted, many),
    )
rules_bad old now new left later last done count room before behind next told more rules so reading is heard line at others errors.CutShort bad less = absurd bad
rules_bad old now new left later last done count room before behind next told more rules so reading is heard line at others errors.TooLong bad less = absurd bad
rules_bad old now new left later last done count room before behind next told more rules so reading is heard line at others errors.ReadFault bad less = absurd bad
rules_bad old now new left later last done count room before behind next told more rules so reading is heard line at others errors.NoMemory bad less =
    let told_line = subst (λ it. HearsLine now new later last room behind next told more (Ok it)) is heard in
    let step = reads_line_so old now new left later last done room before behind next told more reading.reading told_line in
    (step.hears.takes.read, step.hears.takes.consumed)

-- the end came, or reading failed
pub rules_end : (old now new : Held) (left later last : Option (List ℕ)) (done count room before behind next : ℕ) (told more : List ℕ)
    (rules : List Rule) (so : Bool) → ReadingRules old now left later done room before behind told rules → so ≡ false
    → HearsLine now new later last room behind next told more (Ok so)
    → done < count → HearsRules old new left last count room before next rules (Err errors.CutShort)
unfolding reads_end reads_end_so
rules_end old now new left later last done count room before behind next told more rules so reading is heard less =
    let ends = reads_end old now new left later last done count room before behind next told more so reading.reading is heard less in
    let many : length rules ≡ done = sym (lines_length rules) ∙ ap length (sym reading.lines) ∙ reading.reading.many in (
      subst (Hears old new left last) reading.lines ends.1,
      reading.are,
      omega (arith, many, less),
      subst (λ it. size it ≤ room) reading.lines reading.reading.short,
      ends.4,
      ends.5,
      omega (arith, ends.6, many, reading.reading.many),
    )

pub rules_failed : (old now new : Held) (left later last : Option (List ℕ)) (done count room before behind next : ℕ) (told more : List ℕ)
    (rules : List Rule) (error : NotHeard) → ReadingRules old now left later done room before behind told rules
    → HearsLine now new later last room behind next told more (Err error)
    → done < count → HearsRules old new left last count room before next rules (Err error)
rules_failed old now new left later last done count room before behind next told more rules errors.BadLine reading fails less = absurd fails
rules_failed old now new left later last done count room before behind next told more rules errors.CutShort reading fails less = absurd fails
rules_failed old now new left later last done count room before behind next told more rules errors.TooLong reading (part, rest, further, long) less =
    let many : length rules ≡ done = sym (lines_length rules) ∙ ap length (sym reading.lines) ∙ reading.reading.many in
    let short = subst (λ it. size it ≤ room) reading.lines reading.reading.short in (
      part,
      rest,
      record { between = now; there = later; hears = subst (Hears old now left later) reading.lines reading.reading.hears; further = further },
      reading.are,
      omega (arith, many, less),
      short,
      omega (arith, long, ap length reading.reading.is, ap size reading.lines),
    )
rules_failed old now new left later last done count room before behind next told more rules errors.ReadFault reading (part, further, none) less =
    let many : length rules ≡ done = sym (lines_length rules) ∙ ap length (sym reading.lines) ∙ reading.reading.many in (
      part,
      record { between = now; there = later; hears = subst (Hears old now left later) reading.lines reading.reading.hears; further = further },
      reading.are,
      omega (arith, many, less),
      subst (λ it. size it ≤ room) reading.lines reading.reading.short,
      none,
    )
rules_failed old now new left later last done count room before behind next told more rules errors.NoMemory reading (read, consumed) less = (
  reading.reading.hears.takes.read ++ read,
  consumed_both left later last reading.reading.hears.takes.read read reading.reading.hears.takes.consumed consumed,
)

pub rules_all : (old now : Held) (left later : Option (List ℕ)) (done count room before behind : ℕ) (told : List ℕ) (rules : List Rule)
    → ReadingRules old now left later done room before behind told rules → done ≡ count
    → HearsRules old now left later count room before behind rules (Ok tt)
rules_all old now left later done count room before behind told rules reading all =
    let many : length rules ≡ done = sym (lines_length rules) ∙ ap length (sym reading.lines) ∙ reading.reading.many in (
      subst (Hears old now left later) reading.lines reading.reading.hears,
      reading.are,
      many ∙ all,
      subst (λ it. size it ≤ room) reading.lines reading.reading.short,
      omega (arith, reading.reading.counted, all),
    )
