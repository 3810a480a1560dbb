-- Where what a job cannot say is over, or stands, among lines: in one way.
use Rattle.std.proofs.Common.{◌≡◌, ◌≢◌, ◌⊎◌, ◌+◌, ◌<◌, ◌≤◌, ℕ, Bool, true, false, List, [], ◌∷◌, ◌++◌, length, Option, Some, None, inl, inr, refl, sym, ap, subst, ◌∙◌, arith, append_assoc, append-nil}
use Rattle.cc_hosting.specs.CourseLaws.{IsSteady}
use Rattle.cc_item_reading.proofs.AsideWords.{no_head, one_aside}
use Rattle.cc_item_reading.specs.Sayings.{IsAside, IsAsideLine, aside_line, size, item_limit}
use Rattle.cc_item_reading.specs.declared.asides.Aside.{Aside}
use Rattle.cc_job.proofs.HeadLaws.{head_for, head_of-item}
use Rattle.cc_job.specs.Jobs.{Item, Declares, Commands, IsItem, item_words, item_lines, skipped}
use Rattle.cc_job.specs.Reading.{head_of}
use Rattle.cc_live.specs.LiveLaws.{GoesOnWith}
use Rattle.cc_live.specs.LiveRuns.{Live as Told, Standing as LiveStanding, Over, Waits, Breaks, Course}
use Rattle.cc_verdicts.specs.PresentTexts.{ArePresent}
use Rattle.cc_words.specs.Lines.{Line}
use Rattle.cc_words.specs.Words.{joined}
use Rattle.cc_conversation.specs.Conversations.{Moment, MaySay, GoesOn, IsOpen, IsCourseOf, SaysAside, AreShort, Standing, Asks, EndedAt, Overlong, StandsIn}
use Rattle.cc_conversation.specs.Conversations.StandsIn.{asks, breaks, floods}
use Rattle.cc_conversation.proofs.AsideCourses.{courses_are_one, courses_are_steady}

head_tail : {x y : Line} {xs ys : List Line} → x ∷ xs ≡ y ∷ ys → (x ≡ y) × (xs ≡ ys)
head_tail {x} {y} {xs} {ys} e = (cc, cc)

-- an item that may be said is one
item_is : (moment : Moment) (item : Item) → MaySay moment item → IsItem item
item_is moment (Declares device) may = may.0
item_is moment (Commands command) may = may

-- no item has the line of what a job cannot say
no_item_line : (moment : Moment) (item : Item) (it : Aside) → MaySay moment item → IsAside it → joined 32 (item_words item) ≡ aside_line it → ⊥
no_item_line moment item it may is same =
    let clash : Some (head_for item) ≡ None =
    sym (head_of-item item (item_is moment item may)) ∙ ap head_of same ∙ no_head (aside_line it) (it, is, refl) in
    cc

-- nor have the lines of an item begun where that was said
no_open : {moment : Moment} {lines behind : List Line} {course : Course} → SaysAside moment lines behind course → (first : Line) (front rest : List Line)
    → skipped lines ≡ (first ∷ front) ++ rest → IsOpen moment (first ∷ front) → ⊥
no_open {moment = moment} run first front rest is (item, next, missing, may, lines_are) =
    no_item_line moment item run.it may run.may ((head_tail lines_are).0 ∙ sym (head_tail (sym run.says ∙ is)).0)

-- what else comes of the lines does not
pub run_rests : {moment : Moment} {lines behind : List Line} {course : Course} → SaysAside moment lines behind course → skipped lines ≡ [] → ⊥
run_rests run empty = let no = sym run.says ∙ empty in cc

pub run_begins : {moment : Moment} {lines behind : List Line} {course : Course} → SaysAside moment lines behind course → IsOpen moment (skipped lines) → ⊥
run_begins {moment = moment} {behind = behind} run lacks =
    no_open run (aside_line run.it) behind [] (run.says ∙ sym (append-nil (aside_line run.it ∷ behind))) (subst (IsOpen moment) run.says lacks)

pub run_ends : {moment : Moment} {lines behind : List Line} {course : Course} → SaysAside moment lines behind course → (front : List Line) (bad : Line)
    (rest : List Line) → skipped lines ≡ front ++ bad ∷ rest → (front ≡ []) ⊎ IsOpen moment front → (front ≡ [] → IsAsideLine bad → ⊥) → ⊥
run_ends run [] bad rest is before other = other refl (run.it, run.may, (head_tail (sym is ∙ run.says)).0)
run_ends run (first ∷ front) bad rest is (inl e) other = absurd (no e)
  where
    no : first ∷ front ≡ [] → ⊥
    no h = cc
run_ends run (first ∷ front) bad rest is (inr lacks) other = no_open run first front (bad ∷ rest) is lacks

pub run_exceeds : {moment : Moment} {lines behind : List Line} {course : Course} → SaysAside moment lines behind course → (front : List Line) (next : Line)
    (rest : List Line) → skipped lines ≡ front ++ next ∷ rest → (front ≡ []) ⊎ IsOpen moment front → item_limit < size (front ++ next ∷ []) → ⊥
run_exceeds run [] next rest is before long =
    let short = subst (λ it. size (it ∷ []) ≤ item_limit) (sym (head_tail (sym is ∙ run.says)).0) run.short in omega (arith, short, long)
run_exceeds run (first ∷ front) next rest is (inl e) long = absurd (no e)
  where
    no : first ∷ front ≡ [] → ⊥
    no h = cc
run_exceeds run (first ∷ front) next rest is (inr lacks) long = no_open run first front (next ∷ rest) is lacks

pub run_goes_on : {moment : Moment} {lines behind : List Line} {course : Course} → SaysAside moment lines behind course → (item : Item) (others : List Line)
    → MaySay moment item → skipped lines ≡ item_lines item ++ others → ⊥
run_goes_on {moment = moment} run item others may is =
    no_item_line moment item run.it may run.may (head_tail (sym is ∙ run.says)).0

-- what the same lines say is one, and so is what comes of it
pub one_run : {moment : Moment} {lines behind beside : List Line} {course other : Course} → ArePresent moment.state.texts → SaysAside moment lines behind course
    → SaysAside moment lines beside other → (behind ≡ beside) × (course ≡ other)
one_run {moment = moment} {course = course} {other = other} present run also =
    let both = head_tail (sym run.says ∙ also.says) in
    let same = one_aside run.it also.it run.may also.may both.0 in (
      both.1,
      courses_are_one moment.devices moment.state run.it course other present run.comes
          (subst (λ it. IsCourseOf moment.devices moment.state it other) (sym same) also.comes),
    )

pub run_steady : {moment : Moment} {lines behind : List Line} {course : Course} → SaysAside moment lines behind course → IsSteady course
run_steady {moment = moment} {course = course} run =
    courses_are_steady moment.devices moment.state run.it course run.comes

-- two fronts of one list
fronts : (front other rest behind : List Line) → front ++ rest ≡ other ++ behind
    → ((more : List Line) × (other ≡ front ++ more) × (rest ≡ more ++ behind)) ⊎ ((more : List Line) × (front ≡ other ++ more) × (behind ≡ more ++ rest))
fronts [] other rest behind e = inl (other, refl, e)
fronts (first ∷ front) [] rest behind e = inr (first ∷ front, refl, sym e)
fronts (first ∷ front) (second ∷ other) rest behind e =
    elim (fronts front other rest behind (head_tail e).1) [
      | inl it ↦ inl (it.0, λ i. sym (head_tail e).0 i ∷ it.1 i, it.2)
      | inr it ↦ inr (it.0, λ i. (head_tail e).0 i ∷ it.1 i, it.2)
    ]

-- what a live run told and how it stands
abbrev pub result : List ℕ → LiveStanding → Told
result text standing = record { text = text; standing = standing }

over_waits : (text told : List ℕ) (refused : Bool) (rest : List Line) → result text (Over refused rest) ≡ result told Waits → ⊥
over_waits text told refused rest e = let no : Over refused rest ≡ Waits = ap (λ (it : Told). it.standing) e in cc

over_breaks : (text told : List ℕ) (refused : Bool) (rest left : List Line) → result text (Over refused rest) ≡ result told (Breaks left) → ⊥
over_breaks text told refused rest left e = let no : Over refused rest ≡ Breaks left = ap (λ (it : Told). it.standing) e in cc

waits_breaks : (text told : List ℕ) (left : List Line) → result text Waits ≡ result told (Breaks left) → ⊥
waits_breaks text told left e = let no : Waits ≡ Breaks left = ap (λ (it : Told). it.standing) e in cc

over_same : (text told : List ℕ) (refused so : Bool) (rest left : List Line) → result text (Over refused rest) ≡ result told (Over so left)
    → (text ≡ told) × (refused ≡ so) × (rest ≡ left)
over_same text told refused so rest left e =
    let s : Over refused rest ≡ Over so left = ap (λ (it : Told). it.standing) e in
    (ap (λ (it : Told). it.text) e, cc, cc)

breaks_same : (text told : List ℕ) (rest left : List Line) → result text (Breaks rest) ≡ result told (Breaks left) → (text ≡ told) × (rest ≡ left)
breaks_same text told rest left e =
    let s : Breaks rest ≡ Breaks left = ap (λ (it : Told). it.standing) e in
    (ap (λ (it : Told). it.text) e, cc)

waits_same : (text told : List ℕ) → result text Waits ≡ result told Waits → text ≡ told
waits_same text told e = ap (λ (it : Told). it.text) e

-- a long line is among no short ones
no_long : (front : List Line) (next : Line) (rest : List Line) → AreShort (front ++ next ∷ rest) → item_limit < size (next ∷ []) → ⊥
no_long [] next rest short long = omega (arith, short.0, long)
no_long (line ∷ front) next rest short long = no_long front next rest short.1 long

module _ (course : Course) (steady : IsSteady course) where
  goes : (host more : List Line) (text : List ℕ) (standing : LiveStanding) → course host ≡ result text standing → GoesOnWith more text standing (course (host ++ more))
  goes host more text standing e = subst (λ (it : Told). GoesOnWith more it.text it.standing (course (host ++ more))) e (steady.more host more)

  goes_over : (host more : List Line) (text : List ℕ) (refused : Bool) → course host ≡ result text (Over refused []) → course (host ++ more) ≡ result text (Over refused more)
  goes_over host more text refused e = goes host more text (Over refused []) e

  goes_breaks : (host more : List Line) (text : List ℕ) → course host ≡ result text (Breaks []) → course (host ++ more) ≡ result text (Breaks more)
  goes_breaks host more text e = goes host more text (Breaks []) e

  goes_waits : (host more : List Line) (text : List ℕ) → course host ≡ result text Waits → (behind : List ℕ) × ((course (host ++ more)).text ≡ text ++ behind)
  goes_waits host more text e = goes host more text Waits e

  -- a run that is over, or broke, is not met by one that waits with no line left, or with a long one
  past_floods : (host host' others : List Line) (next : Line) (rest : List Line) (text told : List ℕ) (standing : LiveStanding)
      → (host' ≡ host → ⊥) → ((more : List Line) → host' ≡ host ++ more → ⊥) → AreShort host → item_limit < size (next ∷ [])
      → host ++ others ≡ host' ++ next ∷ rest → ⊥
  past_floods host host' others next rest text told standing apart beyond short long is = elim (fronts host host' others (next ∷ rest) is) [
    | inl it ↦ beyond it.0 it.1
    | inr it ↦ within it.0 it.1 it.2
  ]
    where
      within : (more : List Line) → host ≡ host' ++ more → next ∷ rest ≡ more ++ others → ⊥
      within [] same left = apart (sym (same ∙ append-nil host'))
      within (first ∷ more) same left =
          no_long host' first more (subst AreShort same short) (subst (λ it. item_limit < size (it ∷ [])) (head_tail left).0 long)

  pub over_once : (host host' others others' : List Line) (text told : List ℕ) (refused so : Bool) → course host ≡ result text (Over refused [])
      → course host' ≡ result told (Over so []) → host ++ others ≡ host' ++ others' → (text ≡ told) × (refused ≡ so) × (others ≡ others')
  over_once host host' others others' text told refused so e e' is =
      over_same text told refused so others others'
      (sym (goes_over host others text refused e) ∙ ap course is ∙ goes_over host' others' told so e')

  over_apart : (host host' more : List Line) (text told : List ℕ) (refused : Bool) → course host ≡ result text (Over refused []) → course host' ≡ result told Waits
      → host' ≡ host ++ more → ⊥
  over_apart host host' more text told refused e e' same =
      over_waits text told refused more (sym (goes_over host more text refused e) ∙ ap course (sym same) ∙ e')

  breaks_apart : (host host' more : List Line) (text told : List ℕ) → course host ≡ result text (Breaks []) → course host' ≡ result told Waits
      → host' ≡ host ++ more → ⊥
  breaks_apart host host' more text told e e' same =
      waits_breaks told text more (sym e' ∙ ap course same ∙ goes_breaks host more text e)

  pub over_stands : (host host' others others' : List Line) (text told : List ℕ) (refused : Bool) (total : ℕ) (standing : Standing)
      → course host ≡ result text (Over refused []) → AreShort host → StandsIn total (course host') others' told standing → AreShort host'
      → host ++ others ≡ host' ++ others' → ⊥
  over_stands host host' others others' text told refused total standing e short (asks e') short' is =
      over_apart host host' others text told refused e e' (sym (append-nil host') ∙ sym is)
  over_stands host host' others others' text told refused total standing e short (breaks place e' at) short' is =
      over_breaks text told refused others others' (sym (goes_over host others text refused e) ∙ ap course is ∙ goes_breaks host' others' told e')
  over_stands host host' others others' text told refused total standing e short (floods {next = next} {rest = rest} e' long) short' is =
      past_floods host host' others next rest text told Waits
      (λ same. over_apart host host' [] text told refused e e' (same ∙ sym (append-nil host)))
      (λ more same. over_apart host host' more text told refused e e' same) short long is

  breaks_asks : (host host' rest : List Line) (text told : List ℕ) → course host ≡ result text (Breaks []) → course host' ≡ result told Waits
      → host ++ rest ≡ host' ++ [] → ⊥
  breaks_asks host host' rest text told e e' is = breaks_apart host host' rest text told e e' (sym (append-nil host') ∙ sym is)

  breaks_floods : (host host' rest : List Line) (next : Line) (left : List Line) (text told : List ℕ) → course host ≡ result text (Breaks [])
      → AreShort host → course host' ≡ result told Waits → item_limit < size (next ∷ []) → host ++ rest ≡ host' ++ next ∷ left → ⊥
  breaks_floods host host' rest next left text told e short e' long is =
      past_floods host host' rest next left text told Waits
      (λ same. breaks_apart host host' [] text told e e' (same ∙ sym (append-nil host)))
      (λ more same. breaks_apart host host' more text told e e' same) short long is

  asks_floods : (host host' : List Line) (next : Line) (rest : List Line) → AreShort host → item_limit < size (next ∷ []) → host ++ [] ≡ host' ++ next ∷ rest → ⊥
  asks_floods host host' next rest short long is =
      no_long host' next rest (subst AreShort (sym (append-nil host) ∙ is) short) long

  floods_once : (host host' : List Line) (next next' : Line) (rest rest' : List Line) → AreShort host → AreShort host' → item_limit < size (next ∷ [])
      → item_limit < size (next' ∷ []) → host ++ next ∷ rest ≡ host' ++ next' ∷ rest' → host ≡ host'
  floods_once host host' next next' rest rest' short short' long long' is = elim (fronts host host' (next ∷ rest) (next' ∷ rest') is) [
    | inl it ↦ one it.0 it.1 it.2
    | inr it ↦ other it.0 it.1 it.2
  ]
    where
      one : (more : List Line) → host' ≡ host ++ more → next ∷ rest ≡ more ++ next' ∷ rest' → host ≡ host'
      one [] same left = sym (same ∙ append-nil host)
      one (first ∷ more) same left =
          absurd (no_long host first more (subst AreShort same short') (subst (λ it. item_limit < size (it ∷ [])) (head_tail left).0 long))

      other : (more : List Line) → host ≡ host' ++ more → next' ∷ rest' ≡ more ++ next ∷ rest → host ≡ host'
      other [] same left = same ∙ append-nil host'
      other (first ∷ more) same left =
          absurd (no_long host' first more (subst AreShort same short) (subst (λ it. item_limit < size (it ∷ [])) (head_tail left).0 long'))

  -- two ways to stand are one
  pub stands_once : (host host' others others' : List Line) (text told : List ℕ) (total : ℕ) (standing second : Standing)
      → StandsIn total (course host) others text standing → AreShort host → StandsIn total (course host') others' told second → AreShort host'
      → host ++ others ≡ host' ++ others' → (text ≡ told) × (standing ≡ second)
  stands_once host host' others others' text told total standing second (asks e) short (asks e') short' is =
      (waits_same text told (sym e ∙ ap course (sym (append-nil host) ∙ is ∙ append-nil host') ∙ e'), refl)
  stands_once host host' others others' text told total standing second (asks e) short (breaks place e' at) short' is =
      absurd (breaks_asks host' host others' told text e' e (sym is))
  stands_once host host' others others' text told total standing second (asks e) short (floods {next = next} {rest = rest} e' long) short' is =
      absurd (asks_floods host host' next rest short long is)
  stands_once host host' others others' text told total standing second (breaks place e at) short (asks e') short' is =
      absurd (breaks_asks host host' others text told e e' is)
  stands_once host host' others others' text told total standing second (breaks place e at) short (breaks place' e' at') short' is =
      let same = breaks_same text told others others' (sym (goes_breaks host others text e) ∙ ap course is ∙ goes_breaks host' others' told e') in
      (same.0, ap EndedAt (omega (arith, at, at', ap (λ (it : List Line). length it) same.1)))
  stands_once host host' others others' text told total standing second (breaks place e at) short (floods {next = next} {rest = rest} e' long) short' is =
      absurd (breaks_floods host host' others next rest text told e short e' long is)
  stands_once host host' others others' text told total standing second (floods {next = next} {rest = rest} e long) short (asks e') short' is =
      absurd (asks_floods host' host next rest short' long (sym is))
  stands_once host host' others others' text told total standing second (floods {next = next} {rest = rest} e long) short (breaks place e' at') short' is =
      absurd (breaks_floods host' host others' next rest told text e' short' e long (sym is))
  stands_once host host' others others' text told total standing second (floods {next = next} {rest = rest} e long) short (floods {next = next'} {rest = rest'} e' long') short' is =
      (waits_same text told (sym e ∙ ap course (floods_once host host' next next' rest rest' short short' long long' is) ∙ e'), refl)

  -- where an answer is missing, more lines add to what was told
  asks_then : (host host' more others' : List Line) (text told : List ℕ) (standing : LiveStanding) → course host ≡ result text Waits
      → course host' ≡ result told standing → ((left : List Line) → host ≡ host' ++ left → others' ≡ left ++ more → host ≡ host')
      → host ++ more ≡ host' ++ others' → (rest : List ℕ) × (told ≡ text ++ rest)
  asks_then host host' more others' text told standing e e' within is = elim (fronts host host' more others' is) [
    | inl it ↦
        let on = goes_waits host it.0 text e in
        (on.0, sym (ap (λ (t : Told). t.text) (ap course (sym it.1) ∙ e')) ∙ on.1)
    | inr it ↦
        let same = within it.0 it.1 it.2 in
        ([], sym (ap (λ (t : Told). t.text) e') ∙ sym (ap (λ t. (course t).text) same) ∙ ap (λ (t : Told). t.text) e ∙ sym (append-nil text))
  ]

  front_same : (text told : List ℕ) → text ≡ told → (rest : List ℕ) × (told ≡ text ++ rest)
  front_same text told same = ([], sym same ∙ sym (append-nil text))

  no_left : (left more : List Line) → [] ≡ left ++ more → left ≡ []
  no_left [] more e = refl
  no_left (first ∷ left) more e = cc

  -- what a run that stands told is at the front of what one told with more lines that is over
  pub stands_then_over : (host host' others others' more : List Line) (text told : List ℕ) (so : Bool) (total : ℕ) (standing : Standing)
      → StandsIn total (course host) others text standing → AreShort host → course host' ≡ result told (Over so []) → AreShort host'
      → (host ++ others) ++ more ≡ host' ++ others' → (rest : List ℕ) × (told ≡ text ++ rest)
  stands_then_over host host' others others' more text told so total standing (asks e) short e' short' is =
      asks_then host host' more others' text told (Over so []) e e'
      (λ left same _. absurd (over_apart host' host left told text so e' e same))
      (ap (λ it. it ++ more) (sym (append-nil host)) ∙ is)
  stands_then_over host host' others others' more text told so total standing (breaks place e at) short e' short' is =
      absurd (over_breaks told text so others' (others ++ more)
      (sym (goes_over host' others' told so e') ∙ ap course (sym is ∙ append_assoc host others more) ∙ goes_breaks host (others ++ more) text e))
  stands_then_over host host' others others' more text told so total standing (floods {next = next} {rest = rest} e long) short e' short' is =
      absurd (past_floods host' host others' next (rest ++ more) told text Waits
      (λ same. over_apart host' host [] told text so e' e (same ∙ sym (append-nil host')))
      (λ left same. over_apart host' host left told text so e' e same) short' long (sym is ∙ append_assoc host (next ∷ rest) more))

  -- and of one that stands
  pub stands_then_stands : (host host' others others' more : List Line) (text told : List ℕ) (total beyond : ℕ) (standing second : Standing)
      → StandsIn total (course host) others text standing → AreShort host → StandsIn beyond (course host') others' told second → AreShort host'
      → (host ++ others) ++ more ≡ host' ++ others' → (rest : List ℕ) × (told ≡ text ++ rest)
  stands_then_stands host host' others others' more text told total beyond standing second (asks e) short (asks e') short' is =
      asks_then host host' more [] text told Waits e e'
      (λ left same none. same ∙ ap (λ it. host' ++ it) (no_left left more none) ∙ append-nil host')
      (ap (λ it. it ++ more) (sym (append-nil host)) ∙ is)
  stands_then_stands host host' others others' more text told total beyond standing second (asks e) short (breaks place e' at') short' is =
      asks_then host host' more others' text told (Breaks []) e e'
      (λ left same _. absurd (breaks_apart host' host left told text e' e same))
      (ap (λ it. it ++ more) (sym (append-nil host)) ∙ is)
  stands_then_stands host host' others others' more text told total beyond standing second (asks e) short (floods {next = next} {rest = rest} e' long) short' is =
      asks_then host host' more (next ∷ rest) text told Waits e e' within (ap (λ it. it ++ more) (sym (append-nil host)) ∙ is)
    where
      within : (left : List Line) → host ≡ host' ++ left → next ∷ rest ≡ left ++ more → host ≡ host'
      within [] same _ = same ∙ append-nil host'
      within (first ∷ left) same joined =
          absurd (no_long host' first left (subst AreShort same short) (subst (λ it. item_limit < size (it ∷ [])) (head_tail joined).0 long))
  stands_then_stands host host' others others' more text told total beyond standing second (breaks place e at) short (asks e') short' is =
      absurd (breaks_asks host host' (others ++ more) text told e e' (sym (append_assoc host others more) ∙ is))
  stands_then_stands host host' others others' more text told total beyond standing second (breaks place e at) short (breaks place' e' at') short' is =
      front_same text told
      (breaks_same text told (others ++ more) others'
      (sym (goes_breaks host (others ++ more) text e) ∙ ap course (sym (append_assoc host others more) ∙ is) ∙ goes_breaks host' others' told e')).0
  stands_then_stands host host' others others' more text told total beyond standing second (breaks place e at) short (floods {next = next} {rest = rest} e' long) short' is =
      absurd (breaks_floods host host' (others ++ more) next rest text told e short e' long (sym (append_assoc host others more) ∙ is))
  stands_then_stands host host' others others' more text told total beyond standing second (floods {next = next} {rest = rest} e long) short (asks e') short' is =
      absurd (asks_floods host' host next (rest ++ more) short' long (sym is ∙ append_assoc host (next ∷ rest) more))
  stands_then_stands host host' others others' more text told total beyond standing second (floods {next = next} {rest = rest} e long) short (breaks place e' at') short' is =
      absurd (breaks_floods host' host others' next (rest ++ more) told text e' short' e long (sym is ∙ append_assoc host (next ∷ rest) more))
  stands_then_stands host host' others others' more text told total beyond standing second (floods {next = next} {rest = rest} e long) short (floods {next = next'} {rest = rest'} e' long') short' is =
      front_same text told
      (waits_same text told (sym e
      ∙ ap course (floods_once host host' next next' (rest ++ more) rest' short short' long long' (sym (append_assoc host (next ∷ rest) more) ∙ is)) ∙ e'))
