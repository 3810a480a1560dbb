-- What comes of reading the next item, from what comes of its lines.
use Rattle.std.proofs.Common.{◌≡◌, ◌≢◌, inl, inr, ℕ, ◌+◌, ◌-◌, ◌≤◌, Bool, true, List, [], ◌∷◌, ◌++◌, length, map, take, Option, Some, None, Result, Ok, Err, refl, sym, ap, subst, ◌∙◌, arith, append-nil, length-append}
use Rattle.std.proofs.lemmas.List.{length-map}
use Rattle.cc_base.specs.declared.device.DeviceDecl.{DeviceDecl}
use Rattle.cc_policy.specs.declared.policy.Rule.{Rule}
use Rattle.cc_job.specs.declared.head.Head.{Head}
use Rattle.cc_job.specs.Jobs.{Item, item_lines, rule_line, text}
use Rattle.cc_job.specs.Reading.{head_of, may_stand, text_size, rule_count}
use Rattle.cc_job.proofs.HeadLaws.{no_length}
use Rattle.cc_job.proofs.Standing.{one_kind}
use Rattle.cc_words.specs.Lines.{Line}
use Rattle.cc_words.proofs.Splits.{AllLack}
use Rattle.cc_words.proofs.LineLists.{lines-lack, AllLack-front}
use Rattle.cc_line_reading.specs.LineReading.{Held, Hears}
use Rattle.cc_line_reading.proofs.LineTurns.{consumed_both}
use Rattle.cc_item_reading.specs.declared.reading.Heard.{Heard}
use Rattle.cc_item_reading.specs.declared.reading.Heard.TheVariants as heard
use Rattle.cc_item_reading.specs.declared.reading.NotHeard.{NotHeard}
use Rattle.cc_item_reading.specs.declared.reading.NotHeard.TheVariants as errors
use Rattle.cc_item_reading.specs.Sayings.{GoesOn, IsAsideLine, size, item_limit}
use Rattle.cc_item_reading.specs.ItemReading.{HearsLine, HearsText, HearsRules, HearsBehind, HearsItem, HearsNextItem, IsItemHeard, IsAsideHeard, AreDeclared, item_with}
use Rattle.cc_item_reading.proofs.Hearing.{hears_none, hears_both, line_put}
use Rattle.cc_item_reading.proofs.ItemFronts.{IsWhole, whole_item, open_front, none_says, none_rules}
use Rattle.cc_item_reading.proofs.AsideWords.{aside_gives, none_aside}

-- a text of no lines, or no rules
no_both : (head : Head) (lines : List Line) (rules : List Rule) (room : ℕ) → length lines ≡ text_size head → length rules ≡ rule_count head
    → size lines ≤ room → size (map rule_line rules) ≤ room → size (lines ++ map rule_line rules) ≤ room
no_both head lines [] room many count short less = subst (λ it. size it ≤ room) (sym (append-nil lines)) short
no_both head lines (rule ∷ rules) room many count short less =
    let none = no_length lines (many ∙ one_kind head (omega (arith, count))) in
    subst (λ it. size (it ++ map rule_line (rule ∷ rules)) ≤ room) (sym none) less

behind_ok_so : (head : Head) (room : ℕ) (old between new : Held) (left there later : Option (List ℕ)) (before mid behind : ℕ)
    (told : List ℕ) (rules : List Rule) (it : Heard) → HearsText old between left there (text_size head) room before mid told (Ok tt)
    → HearsRules between new there later (rule_count head) room mid behind rules (Ok tt) → IsItemHeard it (item_with head told rules)
    → HearsBehind head room old new left later before behind (Ok it)
behind_ok_so head room old between new left there later before mid behind told rules it (lines, hears, many, is, short, counted)
    (ruled, are, count, less, step) heard = (
      lines,
      rules,
      hears_both old between new left there later lines (map rule_line rules) hears ruled,
      many,
      are,
      count,
      no_both head lines rules room many count short less,
      subst (λ t. IsItemHeard it (item_with head t rules)) is heard,
      omega (arith, step, counted, many, count),
    )

behind_failed_so : (head : Head) (room : ℕ) (old between new : Held) (left there later : Option (List ℕ)) (before mid behind : ℕ)
    (told : List ℕ) (rules : List Rule) (error : NotHeard) → HearsText old between left there (text_size head) room before mid told (Ok tt)
    → HearsRules between new there later (rule_count head) room mid behind rules (Err error)
    → HearsBehind head room old new left later before behind (Err error)
behind_failed_so head room old between new left there later before mid behind told rules errors.BadLine (lines, hears, many, is, short, counted)
    (bad, ruled, are, less, none, low, step) =
    let no_text = one_kind head (omega (arith, less)) in
    let empty = no_length lines (many ∙ no_text) in (
      rules,
      bad,
      subst (λ it. Hears old new left later (it ++ (map rule_line rules ++ bad ∷ []))) empty
          (hears_both old between new left there later lines (map rule_line rules ++ bad ∷ []) hears ruled),
      are,
      no_text,
      less,
      none,
      low,
      omega (arith, step, counted, no_text),
    )
behind_failed_so head room old between new left there later before mid behind told rules errors.CutShort (lines, hears, many, is, short, counted)
    (ruled, are, less, low, over, at_end, step) =
    let no_text = one_kind head (omega (arith, less)) in
    let empty = no_length lines (many ∙ no_text) in (
      map rule_line rules,
      subst (λ it. Hears old new left later (it ++ map rule_line rules)) empty
          (hears_both old between new left there later lines (map rule_line rules) hears ruled),
      inr (rules, refl, are, no_text, less),
      low,
      over,
      at_end,
      omega (arith, step, counted, no_text, length-map rules rule_line),
    )
behind_failed_so head room old between new left there later before mid behind told rules errors.TooLong (lines, hears, many, is, short, counted)
    (part, rest, stops, are, less, low, long) =
    let no_text = one_kind head (omega (arith, less)) in
    let empty = no_length lines (many ∙ no_text) in (
      map rule_line rules,
      part,
      rest,
      record {
        between = stops.between;
        there = stops.there;
        hears = subst (λ it. Hears old stops.between left stops.there (it ++ map rule_line rules)) empty
            (hears_both old between stops.between left there stops.there lines (map rule_line rules) hears stops.hears);
        further = stops.further;
      },
      inr (rules, refl, are, no_text, less),
      low,
      long,
    )
behind_failed_so head room old between new left there later before mid behind told rules errors.ReadFault (lines, hears, many, is, short, counted)
    (part, stops, are, less, low, none) =
    let no_text = one_kind head (omega (arith, less)) in
    let empty = no_length lines (many ∙ no_text) in (
      map rule_line rules,
      part,
      record {
        between = stops.between;
        there = stops.there;
        hears = subst (λ it. Hears old stops.between left stops.there (it ++ map rule_line rules)) empty
            (hears_both old between stops.between left there stops.there lines (map rule_line rules) hears stops.hears);
        further = stops.further;
      },
      inr (rules, refl, are, no_text, less),
      low,
      none,
    )
behind_failed_so head room old between new left there later before mid behind told rules errors.NoMemory (lines, hears, many, is, short, counted)
    (read, consumed) =
    (hears.takes.read ++ read, consumed_both left there later hears.takes.read read hears.takes.consumed consumed)

pub behind_ok : (head : Head) (size count room : ℕ) (old between new : Held) (left there later : Option (List ℕ)) (before mid behind : ℕ)
    (told : List ℕ) (rules : List Rule) (it : Heard) → size ≡ text_size head → count ≡ rule_count head
    → HearsText old between left there size room before mid told (Ok tt)
    → HearsRules between new there later count room mid behind rules (Ok tt) → IsItemHeard it (item_with head told rules)
    → HearsBehind head room old new left later before behind (Ok it)
behind_ok head size count room old between new left there later before mid behind told rules it sized counted text_heard rules_heard heard_it =
    behind_ok_so head room old between new left there later before mid behind told rules it
    (subst (λ n. HearsText old between left there n room before mid told (Ok tt)) sized text_heard)
    (subst (λ n. HearsRules between new there later n room mid behind rules (Ok tt)) counted rules_heard) heard_it

pub behind_failed : (head : Head) (size count room : ℕ) (old between new : Held) (left there later : Option (List ℕ)) (before mid behind : ℕ)
    (told : List ℕ) (rules : List Rule) (error : NotHeard) → size ≡ text_size head → count ≡ rule_count head
    → HearsText old between left there size room before mid told (Ok tt)
    → HearsRules between new there later count room mid behind rules (Err error)
    → HearsBehind head room old new left later before behind (Err error)
behind_failed head size count room old between new left there later before mid behind told rules error sized counted text_heard rules_heard =
    behind_failed_so head room old between new left there later before mid behind told rules error
    (subst (λ n. HearsText old between left there n room before mid told (Ok tt)) sized text_heard)
    (subst (λ n. HearsRules between new there later n room mid behind rules (Err error)) counted rules_heard)

-- No first line came.
pub first_failed : (devices : List DeviceDecl) (begun : Bool) (old new : Held) (left later : Option (List ℕ)) (before behind : ℕ)
    (bytes none : List ℕ) (error : NotHeard) → none ≡ [] → HearsLine old new left later item_limit before behind none bytes (Err error)
    → HearsNextItem devices begun old new left later before behind (Err error)
first_failed devices begun old new left later before behind bytes none errors.BadLine empty fails = absurd fails
first_failed devices begun old new left later before behind bytes none errors.CutShort empty fails = absurd fails
first_failed devices begun old new left later before behind bytes none errors.TooLong empty (part, rest, further, long) = (
  [],
  part,
  rest,
  record { between = old; there = left; hears = hears_none old left; begins = inl refl; short = omega arith; further = further },
  omega (arith, long, ap length empty),
)
first_failed devices begun old new left later before behind bytes none errors.ReadFault empty (part, further, all) = (
  [],
  part,
  record { between = old; there = left; hears = hears_none old left; begins = inl refl; short = omega arith; further = further },
  all,
)
first_failed devices begun old new left later before behind bytes none errors.NoMemory empty fails = fails

-- A first line came.
pub record First (old now : Held) (left there : Option (List ℕ)) (before mid : ℕ) (bytes line : List ℕ) : Type 0 where
  pub hears : Hears old now left there (line ∷ [])
  pub bytes_are : bytes ≡ line ++ 10 ∷ []
  pub short : length bytes ≤ item_limit
  pub counted : mid ≡ before + 1

pub first_came : (old now : Held) (left there : Option (List ℕ)) (before mid : ℕ) (none bytes line : List ℕ) (so : Bool) → none ≡ []
    → so ≡ true → HearsLine old now left there item_limit before mid none bytes (Ok so)
    → line ≡ take (length bytes - 1) bytes → First old now left there before mid bytes line
first_came old now left there before mid none bytes line so empty is told at =
    let came = subst (λ it. HearsLine old now left there item_limit before mid none bytes (Ok it)) is told in
    let put : bytes ≡ came.0 ++ 10 ∷ [] = came.2 ∙ ap (λ it. it ++ (came.0 ++ 10 ∷ [])) empty in
    let same : came.0 ≡ line = sym (at ∙ line_put came.0 bytes [] put) in
    record {
      hears = subst (λ it. Hears old now left there (it ∷ [])) same came.1;
      bytes_are = put ∙ ap (λ it. it ++ 10 ∷ []) same;
      short = came.3;
      counted = came.4;
    }

pub next_empty : (devices : List DeviceDecl) (begun : Bool) (old now : Held) (left there : Option (List ℕ)) (before mid : ℕ)
    (bytes line : List ℕ) → First old now left there before mid bytes line → line ≡ []
    → HearsNextItem devices begun old now left there before mid (Ok heard.Empty)
next_empty devices begun old now left there before mid bytes line first empty =
    (subst (λ it. Hears old now left there (it ∷ [])) empty first.hears, first.counted)

pub next_bad : (devices : List DeviceDecl) (begun : Bool) (old now : Held) (left there : Option (List ℕ)) (before mid : ℕ)
    (bytes line : List ℕ) → First old now left there before mid bytes line → line ≢ [] → (IsAsideLine line → ⊥)
    → (GoesOn devices begun (line ∷ []) → ⊥)
    → HearsNextItem devices begun old now left there before mid (Err errors.BadLine)
next_bad devices begun old now left there before mid bytes line first some other none = (
  [],
  line,
  first.hears,
  inl refl,
  λ h. some,
  λ h. other,
  none,
  omega (arith, first.short, ap length first.bytes_are, length-append line (10 ∷ [])),
  first.counted,
)

-- what comes of a line that is no item's
pub next_unlike : (devices : List DeviceDecl) (begun : Bool) (old now : Held) (left there : Option (List ℕ)) (before mid : ℕ)
    (bytes line : List ℕ) (result : Result Heard NotHeard) → First old now left there before mid bytes line → line ≢ [] → head_of line ≡ None
    → IsAsideHeard line result → HearsNextItem devices begun old now left there before mid result
next_unlike devices begun old now left there before mid bytes line (Ok heard.End) first some none told = absurd told
next_unlike devices begun old now left there before mid bytes line (Ok heard.Empty) first some none told = absurd told
next_unlike devices begun old now left there before mid bytes line (Ok (heard.Device device)) first some none told = absurd told
next_unlike devices begun old now left there before mid bytes line (Ok (heard.Command command)) first some none told = absurd told
next_unlike devices begun old now left there before mid bytes line (Ok (heard.Aside it)) first some none told =
    let gives = aside_gives line it told in (
      record {
        may = gives.0;
        short = subst (λ it. size (it ∷ []) ≤ item_limit) gives.1 (omega (arith, first.short, ap length first.bytes_are, length-append line (10 ∷ [])));
        hears = subst (λ it. Hears old now left there (it ∷ [])) gives.1 first.hears;
      },
      first.counted,
    )
next_unlike devices begun old now left there before mid bytes line (Err errors.BadLine) first some none told =
    next_bad devices begun old now left there before mid bytes line first some (none_aside line told) (none_says devices begun line none)
next_unlike devices begun old now left there before mid bytes line (Err errors.CutShort) first some none told = absurd told
next_unlike devices begun old now left there before mid bytes line (Err errors.TooLong) first some none told = absurd told
next_unlike devices begun old now left there before mid bytes line (Err errors.ReadFault) first some none told = absurd told
next_unlike devices begun old now left there before mid bytes line (Err errors.NoMemory) first some none told =
    (first.hears.takes.read, first.hears.takes.consumed)

-- the lines that were taken have no line feed
lack_of : (old new : Held) (left later : Option (List ℕ)) (lines : List Line) → Hears old new left later lines → AllLack 10 lines
lack_of old new left later lines hears = subst (AllLack 10) hears.are (lines-lack hears.bytes)

first_size : (bytes line : List ℕ) (front : List Line) → bytes ≡ line ++ 10 ∷ [] → size (line ∷ front) ≡ length bytes + size front
first_size bytes line front is =
    omega (arith, ap length is, length-append line (10 ∷ []), length-append line (10 ∷ text front))

-- what comes of the lines behind the first
next_behind_so : (devices : List DeviceDecl) (begun : Bool) (old now new : Held) (left there later : Option (List ℕ)) (before mid behind : ℕ)
    (bytes line : List ℕ) (head : Head) (result : Result Heard NotHeard) → AreDeclared devices
    → First old now left there before mid bytes line → head_of line ≡ Some head → may_stand devices begun head ≡ true
    → HearsBehind head (item_limit - length bytes) now new there later mid behind result
    → HearsNextItem devices begun old new left later before behind result
next_behind_so devices begun old now new left there later before mid behind bytes line head (Ok it) declared first says stands
    (lines, rules, hears, many, are, count, low, heard_it, step) = at it heard_it
  where
    behind_lines : List Line
    behind_lines = lines ++ map rule_line rules

    whole : IsWhole devices begun line head lines rules
    whole = whole_item devices begun line head lines rules declared says stands
        (AllLack-front 10 lines (map rule_line rules) (lack_of now new there later behind_lines hears)) many are count

    item : Item
    item = item_with head (text lines) rules

    taken : Hears old new left later (item_lines item)
    taken = subst (Hears old new left later) (sym whole.lines_are)
        (hears_both old now new left there later (line ∷ []) behind_lines first.hears hears)

    short : size (item_lines item) ≤ item_limit
    short = subst (λ it. size it ≤ item_limit) (sym whole.lines_are)
        (omega (arith, first_size bytes line behind_lines first.bytes_are, low, first.short))

    counted : behind ≡ before + length (item_lines item)
    counted = omega (arith, step, first.counted, ap length whole.lines_are, length-append lines (map rule_line rules), length-map rules rule_line)

    so : HearsItem devices begun old new left later item
    so = record { may = whole.may; short = short; hears = taken }

    at : (it : Heard) → IsItemHeard it item → HearsNextItem devices begun old new left later before behind (Ok it)
    at heard.End h = absurd h
    at heard.Empty h = absurd h
    at (heard.Aside said) h = absurd h
    at (heard.Device device) h =
        (subst (HearsItem devices begun old new left later) h so, counted ∙ ap (λ it. before + length (item_lines it)) h)
    at (heard.Command command) h =
        (subst (HearsItem devices begun old new left later) h so, counted ∙ ap (λ it. before + length (item_lines it)) h)
next_behind_so devices begun old now new left there later before mid behind bytes line head (Err errors.BadLine) declared first says stands
    (rules, bad, hears, are, empty, less, none, low, step) =
    let front = map rule_line rules in
    let lack = AllLack-front 10 front (bad ∷ []) (lack_of now new there later (front ++ bad ∷ []) hears) in (
      line ∷ front,
      bad,
      hears_both old now new left there later (line ∷ []) (front ++ bad ∷ []) first.hears hears,
      inr (open_front devices begun line head front declared says stands lack (inr (rules, refl, are, empty, less))),
      λ h. cc,
      λ h. cc,
      none_rules devices begun line head rules bad says empty less none,
      omega (arith, first_size bytes line (front ++ bad ∷ []) first.bytes_are, low, first.short),
      omega (arith, step, first.counted, length-map rules rule_line),
    )
next_behind_so devices begun old now new left there later before mid behind bytes line head (Err errors.CutShort) declared first says stands
    (front, hears, stops, low, over, at_end, step) = (
      line ∷ front,
      hears_both old now new left there later (line ∷ []) front first.hears hears,
      λ h. cc,
      open_front devices begun line head front declared says stands (lack_of now new there later front hears) stops,
      omega (arith, first_size bytes line front first.bytes_are, low, first.short),
      over,
      at_end,
      omega (arith, step, first.counted),
    )
next_behind_so devices begun old now new left there later before mid behind bytes line head (Err errors.TooLong) declared first says stands
    (front, part, rest, stops, is, low, long) = (
      line ∷ front,
      part,
      rest,
      record {
        between = stops.between;
        there = stops.there;
        hears = hears_both old now stops.between left there stops.there (line ∷ []) front first.hears stops.hears;
        begins = inr (open_front devices begun line head front declared says stands (lack_of now stops.between there stops.there front stops.hears) is);
        short = omega (arith, first_size bytes line front first.bytes_are, low, first.short);
        further = stops.further;
      },
      omega (arith, first_size bytes line front first.bytes_are, long, first.short),
    )
next_behind_so devices begun old now new left there later before mid behind bytes line head (Err errors.ReadFault) declared first says stands
    (front, part, stops, is, low, none) = (
      line ∷ front,
      part,
      record {
        between = stops.between;
        there = stops.there;
        hears = hears_both old now stops.between left there stops.there (line ∷ []) front first.hears stops.hears;
        begins = inr (open_front devices begun line head front declared says stands (lack_of now stops.between there stops.there front stops.hears) is);
        short = omega (arith, first_size bytes line front first.bytes_are, low, first.short);
        further = stops.further;
      },
      none,
    )
next_behind_so devices begun old now new left there later before mid behind bytes line head (Err errors.NoMemory) declared first says stands
    (read, consumed) =
    (first.hears.takes.read ++ read, consumed_both left there later first.hears.takes.read read first.hears.takes.consumed consumed)

pub next_behind : (devices : List DeviceDecl) (begun : Bool) (old now new : Held) (left there later : Option (List ℕ)) (before mid behind : ℕ)
    (bytes line : List ℕ) (head : Head) (room : ℕ) (result : Result Heard NotHeard) → AreDeclared devices
    → First old now left there before mid bytes line → head_of line ≡ Some head → may_stand devices begun head ≡ true
    → room ≡ item_limit - length bytes → HearsBehind head room now new there later mid behind result
    → HearsNextItem devices begun old new left later before behind result
next_behind devices begun old now new left there later before mid behind bytes line head room result declared first says stands is told =
    next_behind_so devices begun old now new left there later before mid behind bytes line head result declared first says stands
    (subst (λ n. HearsBehind head n now new there later mid behind result) is told)
