-- What is said has one answer.
use Rattle.std.proofs.Common.{◌≡◌, ◌⊎◌, ◌+◌, ◌<◌, ◌≤◌, ℕ, Bool, List, [], ◌∷◌, ◌++◌, length, inl, inr, refl, sym, ap, subst, ◌∙◌, arith, append_assoc, append-nil, length-append}
use Rattle.std.specs.Prelude.{◌||◌}
use Rattle.cc_job.specs.Jobs.{Item, Declares, Commands, IsItem, item_lines, skipped, first_line, text as text_of}
use Rattle.cc_job.proofs.ItemLists.{one_item}
use Rattle.cc_words.specs.Lines.{Line}
use Rattle.cc_answers.specs.Requests.{request_of}
use Rattle.cc_replies.proofs.PresentAfter.{texts_stay_present}
use Rattle.cc_replies.proofs.ReplyLaws.{replies_are_unique}
use Rattle.cc_replies.specs.ReplyTexts.{is_refusal}
use Rattle.cc_verdicts.specs.PresentTexts.{ArePresent}
use Rattle.cc_answers.proofs.Answering.{none_present}
use Rattle.cc_conversation.specs.ConversationLaws.{LinesHaveOneAnswer, AnswersStay}
use Rattle.cc_conversation.specs.Conversations.{spoken_reply, Moment, MaySay, GoesOn, IsOpen, SaysAside, Answers, Standing, EndedAt, Overlong, StandsIn, Says, behind, under_way}
use Rattle.cc_item_reading.specs.Sayings.{size, item_limit}
use Rattle.cc_item_reading.proofs.Hearing.{size_both}
use Rattle.cc_conversation.specs.Conversations.IsSpoken.{nothing, overlong, stranger, opened as opened_by}
use Rattle.cc_conversation.specs.Conversations.Says.{rests, begins, ends, exceeds, goes_on, runs, stops}
use Rattle.cc_conversation.proofs.RunsOnce.{run_rests, run_begins, run_ends, run_exceeds, run_goes_on, one_run, run_steady, over_once, over_stands, stands_once, stands_then_over, stands_then_stands}
use Rattle.cc_item_reading.specs.Sayings.{aside_line}
use Rattle.cc_live.specs.LiveRuns.{Course, Over}

-- an item that may be said is one
is_item : (moment : Moment) (item : Item) → MaySay moment item → IsItem item
is_item moment (Declares device) may = may.0
is_item moment (Commands command) may = may

no_more : (others : List Line) (next : Line) (missing : List Line) → others ++ next ∷ missing ≡ [] → ⊥
no_more [] next missing e = cc
no_more (first ∷ others) next missing e = cc

-- where an item is whole, none is lacks with its lines or more
whole_or_open : (moment : Moment) (item : Item) (others lines : List Line) → MaySay moment item → lines ≡ item_lines item ++ others
    → IsOpen moment lines → ⊥
whole_or_open moment item others lines may is lacks =
    let found = one_item lacks.0 item [] (others ++ lacks.1 ∷ lacks.2) (is_item moment lacks.0 lacks.3) (is_item moment item may)
    (append-nil (item_lines lacks.0) ∙ lacks.4 ∙ ap (λ it. it ++ lacks.1 ∷ lacks.2) is
    ∙ append_assoc (item_lines item) others (lacks.1 ∷ lacks.2)) in
    no_more others lacks.1 lacks.2 (sym found.1)

-- Of two splits of one list, the front of one is that of the other with its next element and more, or they are one.
pub data Splits (front other : List Line) (next beside : Line) (rest behind : List Line) : Type 0 where
  same : front ≡ other → next ≡ beside → rest ≡ behind → Splits front other next beside rest behind
  shorter : (more : List Line) → other ≡ front ++ next ∷ more → Splits front other next beside rest behind
  longer : (more : List Line) → front ≡ other ++ beside ∷ more → Splits front other next beside rest behind

head_tail : {x y : Line} {xs ys : List Line} → x ∷ xs ≡ y ∷ ys → (x ≡ y) × (xs ≡ ys)
head_tail {x} {y} {xs} {ys} e = (cc, cc)

splits : (front other : List Line) (next beside : Line) (rest behind : List Line)
    → front ++ next ∷ rest ≡ other ++ beside ∷ behind → Splits front other next beside rest behind
splits [] [] next beside rest behind e = same refl (head_tail e).0 (head_tail e).1
splits [] (first ∷ other) next beside rest behind e =
    shorter other (ap (λ it. it ∷ other) (sym (head_tail e).0))
splits (first ∷ front) [] next beside rest behind e =
    longer front (ap (λ it. it ∷ front) (head_tail e).0)
splits (first ∷ front) (second ∷ other) next beside rest behind e =
    elim (splits front other next beside rest behind (head_tail e).1) [
      | same f n r ↦ same (λ i. (head_tail e).0 i ∷ f i) n r
      | shorter more is ↦ shorter more (λ i. sym (head_tail e).0 i ∷ is i)
      | longer more is ↦ longer more (λ i. (head_tail e).0 i ∷ is i)
    ]

-- where more lines begin an item, fewer do
goes_on_front : (moment : Moment) (front rest : List Line) → GoesOn moment (front ++ rest) → GoesOn moment front
goes_on_front moment front rest goes =
    (goes.0, rest ++ goes.1, goes.2, goes.3 ∙ append_assoc front rest goes.1)

open_goes_on : (moment : Moment) (lines : List Line) → IsOpen moment lines → GoesOn moment lines
open_goes_on moment lines lacks = (lacks.0, lacks.1 ∷ lacks.2, lacks.3, lacks.4)

no_item_empty : (item : Item) (more : List Line) → item_lines item ++ more ≡ [] → ⊥
no_item_empty item more e = cc

-- a front with its next line goes on where more of it is open
opened : (moment : Moment) (whole front : List Line) (bad : Line) (more : List Line) → whole ≡ front ++ bad ∷ more
    → (whole ≡ []) ⊎ IsOpen moment whole → (GoesOn moment (front ++ bad ∷ []) → ⊥) → ⊥
opened moment whole front bad more is (inl empty) none = no_more front bad more (sym is ∙ empty)
opened moment whole front bad more is (inr lacks) none =
    none (goes_on_front moment (front ++ bad ∷ []) more
    (subst (λ it. GoesOn moment it) (is ∙ sym (append_assoc front (bad ∷ []) more)) (open_goes_on moment whole lacks)))

-- A list in front of others ends behind the element of a split of both, or before it.
ends_where : (lines others front : List Line) (bad : Line) (rest : List Line) → lines ++ others ≡ front ++ bad ∷ rest
    → ((more : List Line) × (lines ≡ front ++ bad ∷ more)) ⊎ ((more : List Line) × (front ≡ lines ++ more))
ends_where [] others front bad rest e = inr (front, refl)
ends_where (first ∷ lines) others [] bad rest e = inl (lines, ap (λ it. it ∷ lines) (head_tail e).0)
ends_where (first ∷ lines) others (second ∷ front) bad rest e =
    elim (ends_where lines others front bad rest (head_tail e).1) [
      | inl within ↦ inl (within.0, λ i. (head_tail e).0 i ∷ within.1 i)
      | inr beyond ↦ inr (beyond.0, λ i. sym (head_tail e).0 i ∷ beyond.1 i)
    ]

-- no item is whole where a line with which none goes on stands
ends_apart : (moment : Moment) (item : Item) (others front : List Line) (bad : Line) (rest : List Line) → MaySay moment item
    → item_lines item ++ others ≡ front ++ bad ∷ rest → (front ≡ []) ⊎ IsOpen moment front
    → (GoesOn moment (front ++ bad ∷ []) → ⊥) → ⊥
ends_apart moment item others front bad rest may is before none =
    elim (ends_where (item_lines item) others front bad rest is) [
      | inl within ↦ none (item, within.0, may, within.1 ∙ sym (append_assoc front (bad ∷ []) within.0))
      | inr beyond ↦ elim before [
        | inl empty ↦ no_item_empty item beyond.0 (sym beyond.1 ∙ empty)
        | inr lacks ↦ whole_or_open moment item beyond.0 front may beyond.1 lacks
      ]
    ]

-- two lines with which no item goes on are one
ends_once : (moment : Moment) (total : ℕ) (front other : List Line) (bad beside : Line) (rest others : List Line)
    (place second : ℕ) → front ++ bad ∷ rest ≡ other ++ beside ∷ others
    → (front ≡ []) ⊎ IsOpen moment front → (other ≡ []) ⊎ IsOpen moment other
    → (GoesOn moment (front ++ bad ∷ []) → ⊥) → (GoesOn moment (other ++ beside ∷ []) → ⊥)
    → place + length rest ≡ total → second + length others ≡ total → place ≡ second
ends_once moment total front other bad beside rest others place second is before behind none lacks at by =
    elim (splits front other bad beside rest others is) [
      | same f n r ↦ omega (arith, at, by, ap (λ (it : List Line). length it) r)
      | shorter more e ↦ elim (opened moment other front bad more e behind none) [ ]
      | longer more e ↦ elim (opened moment front other beside more e before lacks) [ ]
    ]

-- a list of lines that may be said has no front that is too long
no_long_front : (whole front : List Line) (next : Line) (rest : List Line) → whole ≡ front ++ next ∷ rest → size whole ≤ item_limit
    → item_limit < size (front ++ next ∷ []) → ⊥
no_long_front whole front next rest is short long =
    let bytes = ap size (is ∙ sym (append_assoc front (next ∷ []) rest)) ∙ size_both (front ++ next ∷ []) rest in
    omega (arith, bytes, short, long)

-- an item that may be said has none either
no_long_item : (moment : Moment) (item : Item) (others front : List Line) (next : Line) (rest : List Line) → MaySay moment item
    → item_lines item ++ others ≡ front ++ next ∷ rest → (front ≡ []) ⊎ IsOpen moment front
    → size (item_lines item) ≤ item_limit → item_limit < size (front ++ next ∷ []) → ⊥
no_long_item moment item others front next rest may is before short long =
    elim (ends_where (item_lines item) others front next rest is) [
      | inl within ↦ no_long_front (item_lines item) front next within.0 within.1 short long
      | inr beyond ↦ elim before [
        | inl empty ↦ no_item_empty item beyond.0 (sym beyond.1 ∙ empty)
        | inr lacks ↦ whole_or_open moment item beyond.0 front may beyond.1 lacks
      ]
    ]

-- a line ends a conversation, or makes an item too long, and not both
no_long_end : (moment : Moment) (front other : List Line) (bad next : Line) (rest others : List Line)
    → front ++ bad ∷ rest ≡ other ++ next ∷ others → (other ≡ []) ⊎ IsOpen moment other
    → (GoesOn moment (front ++ bad ∷ []) → ⊥) → size (front ++ bad ∷ []) ≤ item_limit
    → item_limit < size (other ++ next ∷ []) → ⊥
no_long_end moment front other bad next rest others is before none short long =
    elim (splits front other bad next rest others is) [
      | same f n r ↦ no_long_front (front ++ bad ∷ []) other next [] (λ i. f i ++ n i ∷ []) short long
      | shorter more e ↦ opened moment other front bad more e before none
      | longer more e ↦ no_long_front (front ++ bad ∷ []) other next (more ++ bad ∷ [])
          (ap (λ it. it ++ bad ∷ []) e ∙ append_assoc other (next ∷ more) (bad ∷ [])) short long
    ]

-- what is kept at each moment: the present texts are in order of name
abbrev are_present : Moment → Type 0
are_present moment = ArePresent moment.state.texts

stay_present : (moment : Moment) (item : Item) → MaySay moment item → are_present moment → are_present (behind moment item)
stay_present moment (Declares device) may present = present
stay_present moment (Commands command) may present = texts_stay_present moment.state (request_of command) present

answers_once : (moment : Moment) (item : Item) (text other : List ℕ) (refused later : Bool) → are_present moment
    → Answers moment item text refused → Answers moment item other later → (text ≡ other) × (refused ≡ later)
answers_once moment (Declares device) text other refused later present a b = (a.0 ∙ sym b.0, a.1 ∙ sym b.1)
answers_once moment (Commands command) text other refused later present a b =
    let same = replies_are_unique moment.devices moment.state (request_of command) a.0 b.0 present a.1 b.1 in
    (a.2 ∙ ap (λ reply. spoken_reply moment.devices reply) same ∙ sym b.2, a.3 ∙ ap (λ reply. is_refusal reply) same ∙ sym b.3)

one_said : {total : ℕ} {moment : Moment} {lines : List Line} {text other : List ℕ} {refused later : Bool}
    {standing second : Standing} → are_present moment → Says total moment lines text refused standing
    → Says total moment lines other later second → (text ≡ other) × (refused ≡ later) × (standing ≡ second)
one_said now (rests empty) (rests _) = (refl, refl, refl)
one_said now (rests empty) (begins some lacks low) = elim (some empty) [ ]
one_said now (rests empty) (ends front bad rest place is before unlike none short at) = elim (no_more front bad rest (sym is ∙ empty)) [ ]
one_said now (rests empty) (exceeds front next rest is before short long) = elim (no_more front next rest (sym is ∙ empty)) [ ]
one_said now (rests empty) (goes_on item others text rest refused later may is short answers said) = elim (no_item_empty item others (sym is ∙ empty)) [ ]
one_said now (begins some lacks low) (rests empty) = elim (some empty) [ ]
one_said now (begins some lacks low) (begins _ _ _) = (refl, refl, refl)
one_said {moment = moment} now (begins some lacks low) (ends front bad rest place is before unlike none short at) =
    elim (opened moment _ front bad rest is (inr lacks) none) [ ]
one_said now (begins some lacks low) (exceeds front next rest is before less long) =
    elim (no_long_front _ front next rest is low long) [ ]
one_said {moment = moment} now (begins some lacks low) (goes_on item others text rest refused later may is short answers said) =
    elim (whole_or_open moment item others _ may is lacks) [ ]
one_said now (ends front bad rest place is before unlike none short at) (rests empty) = elim (no_more front bad rest (sym is ∙ empty)) [ ]
one_said {moment = moment} now (ends front bad rest place is before unlike none short at) (begins some lacks low) =
    elim (opened moment _ front bad rest is (inr lacks) none) [ ]
one_said {total = total} {moment = moment} now (ends front bad rest place is before unlike none short at) (ends front' bad' rest' place' is' before' unlike' none' short' at') =
    (refl, refl, ap EndedAt (ends_once moment total front front' bad bad' rest rest' place place' (sym is ∙ is') before before' none none' at at'))
one_said {moment = moment} now (ends front bad rest place is before unlike none short at) (exceeds other next others is' before' less long) =
    elim (no_long_end moment front other bad next rest others (sym is ∙ is') before' none short long) [ ]
one_said {moment = moment} now (ends front bad rest place is before unlike none short at) (goes_on item others text rest' refused later may is' short' answers said) =
    elim (ends_apart moment item others front bad rest may (sym is' ∙ is) before none) [ ]
one_said now (exceeds front next rest is before less long) (rests empty) = elim (no_more front next rest (sym is ∙ empty)) [ ]
one_said now (exceeds front next rest is before less long) (begins some lacks low) =
    elim (no_long_front _ front next rest is low long) [ ]
one_said {moment = moment} now (exceeds other next others is' before' less long) (ends front bad rest place is before unlike none short at) =
    elim (no_long_end moment front other bad next rest others (sym is ∙ is') before' none short long) [ ]
one_said now (exceeds front next rest is before less long) (exceeds front' next' rest' is' before' less' long') = (refl, refl, refl)
one_said {moment = moment} now (exceeds front next rest is before less long) (goes_on item others text rest' refused later may is' short' answers said) =
    elim (no_long_item moment item others front next rest may (sym is' ∙ is) before short' long) [ ]
one_said now (goes_on item others text rest refused later may is short answers said) (rests empty) = elim (no_item_empty item others (sym is ∙ empty)) [ ]
one_said {moment = moment} now (goes_on item others text rest refused later may is short answers said) (begins some lacks low) =
    elim (whole_or_open moment item others _ may is lacks) [ ]
one_said {moment = moment} now (goes_on item others text rest' refused later may is' short' answers said) (ends front bad rest place is before unlike none short at) =
    elim (ends_apart moment item others front bad rest may (sym is' ∙ is) before none) [ ]
one_said {moment = moment} now (goes_on item others text rest' refused later may is' short' answers said) (exceeds front next rest is before less long) =
    elim (no_long_item moment item others front next rest may (sym is' ∙ is) before short' long) [ ]
one_said {total = total} {moment = moment} now (goes_on {standing = standing} item others text rest refused later may is short answers said)
    (goes_on {standing = second} item' others' text' rest' refused' later' may' is' short' answers' said') =
    let one = one_item item item' others others' (is_item moment item may) (is_item moment item' may') (sym is ∙ is') in
    let own = answers_once moment item text text' refused refused' now answers
    (subst (λ it. Answers moment it text' refused') (sym one.0) answers') in
    let more = one_said (stay_present moment item may now) said
    (subst (λ it. Says total (behind moment item) it rest' later' second) (sym one.1)
    (subst (λ it. Says total (behind moment it) others' rest' later' second) (sym one.0) said')) in
    (λ i. own.0 i ++ more.0 i, λ i. own.1 i || more.1 i, more.2)
one_said now (rests empty) (runs course host beside told left so further run brief over said') = elim (run_rests run empty) [ ]
one_said now (rests empty) (stops course host beside told run brief stands) = elim (run_rests run empty) [ ]
one_said now (begins some lacks low) (runs course host beside told left so further run brief over said') = elim (run_begins run lacks) [ ]
one_said now (begins some lacks low) (stops course host beside told run brief stands) = elim (run_begins run lacks) [ ]
one_said now (ends front bad rest place is before unlike none short at) (runs course host beside told left so further run brief over said') = elim (run_ends run front bad rest is before unlike) [ ]
one_said now (ends front bad rest place is before unlike none short at) (stops course host beside told run brief stands) = elim (run_ends run front bad rest is before unlike) [ ]
one_said now (exceeds front next rest is before less long) (runs course host beside told left so further run brief over said') = elim (run_exceeds run front next rest is before long) [ ]
one_said now (exceeds front next rest is before less long) (stops course host beside told run brief stands) = elim (run_exceeds run front next rest is before long) [ ]
one_said now (goes_on item others text rest refused later may is short answers said) (runs course host beside told left so further run brief over said') = elim (run_goes_on run item others may is) [ ]
one_said now (goes_on item others text rest refused later may is short answers said) (stops course host beside told run brief stands) = elim (run_goes_on run item others may is) [ ]
one_said now (runs course host beside told left so further run brief over said') (rests empty) = elim (run_rests run empty) [ ]
one_said now (stops course host beside told run brief stands) (rests empty) = elim (run_rests run empty) [ ]
one_said now (runs course host beside told left so further run brief over said') (begins some lacks low) = elim (run_begins run lacks) [ ]
one_said now (stops course host beside told run brief stands) (begins some lacks low) = elim (run_begins run lacks) [ ]
one_said now (runs course host beside told left so further run brief over said') (ends front bad rest place is before unlike none short at) = elim (run_ends run front bad rest is before unlike) [ ]
one_said now (stops course host beside told run brief stands) (ends front bad rest place is before unlike none short at) = elim (run_ends run front bad rest is before unlike) [ ]
one_said now (runs course host beside told left so further run brief over said') (exceeds front next rest is before less long) = elim (run_exceeds run front next rest is before long) [ ]
one_said now (stops course host beside told run brief stands) (exceeds front next rest is before less long) = elim (run_exceeds run front next rest is before long) [ ]
one_said now (runs course host beside told left so further run brief over said') (goes_on item others text rest refused later may is short answers said) = elim (run_goes_on run item others may is) [ ]
one_said now (stops course host beside told run brief stands) (goes_on item others text rest refused later may is short answers said) = elim (run_goes_on run item others may is) [ ]
one_said {total = total} {moment = moment} now (runs {standing = standing} course host others text rest refused later run short over said)
    (runs {standing = second} course' host' others' text' rest' refused' later' run' short' over' said') =
    let one = one_run now run run' in
    let own = over_once course (run_steady run) host host' others others' text text' refused refused' over
    (subst (λ c. c host' ≡ record { text = text'; standing = Over refused' [] }) (sym one.1) over') one.0 in
    let more = one_said {moment = under_way moment} now said
    (subst (λ it. Says total (under_way moment) it rest' later' second) (sym own.2) said') in
    (λ i. (own.0 i ++ 10 ∷ []) ++ more.0 i, λ i. own.1 i || more.1 i, more.2)
one_said {total = total} now (runs course host others text rest refused later run short over said) (stops {standing = standing} course' host' others' text' run' short' stands) =
    let one = one_run now run run' in
    elim (over_stands course (run_steady run) host host' others others' text text' refused total standing over short
    (subst (λ c. StandsIn total (c host') others' text' standing) (sym one.1) stands) short' one.0) [ ]
one_said {total = total} now (stops {standing = standing} course host others text run short stands) (runs course' host' others' text' rest' refused' later' run' short' over' said') =
    let one = one_run now run' run in
    elim (over_stands course' (run_steady run') host' host others' others text' text refused' total standing over' short'
    (subst (λ c. StandsIn total (c host) others text standing) (sym one.1) stands) short one.0) [ ]
one_said {total = total} now (stops {standing = standing} course host others text run short stands) (stops {standing = second} course' host' others' text' run' short' stands') =
    let one = one_run now run run' in
    let same = stands_once course (run_steady run) host host' others others' text text' total standing second stands short
    (subst (λ c. StandsIn total (c host') others' text' second) (sym one.1) stands') short' one.0 in
    (same.0, refl, same.1)

first_size : size (first_line ∷ []) ≤ item_limit
first_size = omega arith

pub lines_have_one_answer : LinesHaveOneAnswer
lines_have_one_answer _ _ _ _ _ _ _ nothing nothing = (refl, refl, refl)
lines_have_one_answer _ _ _ _ _ _ _ (overlong long) (overlong _) = (refl, refl, refl)
lines_have_one_answer _ _ _ _ _ _ _ (overlong long) (stranger _ short) = absurd (omega (arith, long, short))
lines_have_one_answer _ _ _ _ _ _ _ (overlong long) (opened_by said) = absurd (omega (arith, long, first_size))
lines_have_one_answer _ _ _ _ _ _ _ (stranger other short) (overlong long) = absurd (omega (arith, long, short))
lines_have_one_answer _ _ _ _ _ _ _ (stranger other short) (stranger _ _) = (refl, refl, refl)
lines_have_one_answer _ _ _ _ _ _ _ (stranger other short) (opened_by said) = elim (other refl) [ ]
lines_have_one_answer _ _ _ _ _ _ _ (opened_by said) (overlong long) = absurd (omega (arith, long, first_size))
lines_have_one_answer _ _ _ _ _ _ _ (opened_by said) (stranger other short) = elim (other refl) [ ]
lines_have_one_answer _ _ _ _ _ _ _ (opened_by said) (opened_by again) = one_said none_present said again

skipped_more : (lines more : List Line) (first : Line) (rest : List Line) → skipped lines ≡ first ∷ rest
    → skipped (lines ++ more) ≡ first ∷ (rest ++ more)
skipped_more [] more first rest e = cc
skipped_more ([] ∷ lines) more first rest e = skipped_more lines more first rest e
skipped_more ((byte ∷ line) ∷ lines) more first rest e = ap (λ it. it ++ more) e

item_more : (item : Item) (lines others more : List Line) → skipped lines ≡ item_lines item ++ others
    → skipped (lines ++ more) ≡ item_lines item ++ (others ++ more)
item_more (Declares device) lines others more e = skipped_more lines more _ _ e ∙ append_assoc (item_lines (Declares device)) others more
item_more (Commands command) lines others more e = skipped_more lines more _ _ e ∙ append_assoc (item_lines (Commands command)) others more

run_more : {moment : Moment} {lines behind : List Line} {course : Course} (more : List Line) → SaysAside moment lines behind course
    → SaysAside moment (lines ++ more) (behind ++ more) course
run_more {lines = lines} {behind = behind} more run = record {
  it = run.it;
  may = run.may;
  short = run.short;
  says = skipped_more lines more (aside_line run.it) behind run.says;
  comes = run.comes;
}

stays : {total beyond : ℕ} {moment : Moment} {lines : List Line} (more : List Line) {text other : List ℕ} {refused later : Bool}
    {standing second : Standing} → are_present moment → Says total moment lines text refused standing
    → Says beyond moment (lines ++ more) other later second → (rest : List ℕ) × (other ≡ text ++ rest)
stays more {other = other} now (rests empty) said = (other, refl)
stays more {other = other} now (begins some lacks low) said = (other, refl)
stays more {other = other} now (ends front bad rest place is before unlike none short at) said = (other, refl)
stays more {other = other} now (exceeds front next rest is before less long) said = (other, refl)
stays {lines = lines} more now (goes_on item others text rest refused later may is short answers said) (rests empty) =
    elim (no_item_empty item (others ++ more) (sym (item_more item lines others more is) ∙ empty)) [ ]
stays {moment = moment} {lines = lines} more now (goes_on item others text rest refused later may is short answers said) (begins some lacks low) =
    elim (whole_or_open moment item (others ++ more) _ may (item_more item lines others more is) lacks) [ ]
stays {moment = moment} {lines = lines} more now (goes_on item others text rest' refused later may is' short' answers said) (ends front bad rest place is before unlike none short at) =
    elim (ends_apart moment item (others ++ more) front bad rest may (sym (item_more item lines others more is') ∙ is) before none) [ ]
stays {moment = moment} {lines = lines} more now (goes_on item others text rest' refused later may is' short' answers said) (exceeds front next rest is before less long) =
    elim (no_long_item moment item (others ++ more) front next rest may (sym (item_more item lines others more is') ∙ is) before short' long) [ ]
stays {total = total} {beyond = beyond} {moment = moment} {lines = lines} more now (goes_on item others text rest refused later may is short answers said)
    (goes_on {standing = second} item' others' text' rest' refused' later' may' is' short' answers' said') =
    let one = one_item item item' (others ++ more) others' (is_item moment item may) (is_item moment item' may')
    (sym (item_more item lines others more is) ∙ is') in
    let own = answers_once moment item text text' refused refused' now answers
    (subst (λ it. Answers moment it text' refused') (sym one.0) answers') in
    let (left, joined) = stays more (stay_present moment item may now) said
    (subst (λ it. Says beyond (behind moment item) it rest' later' second) (sym one.1)
    (subst (λ it. Says beyond (behind moment it) others' rest' later' second) (sym one.0) said')) in
    (left, (λ i. sym own.0 i ++ joined i) ∙ sym (append_assoc text rest left))
stays {lines = lines} more now (goes_on item others text rest refused later may is short answers said) (runs course host beside told left so further run brief over said') =
    elim (run_goes_on run item (others ++ more) may (item_more item lines others more is)) [ ]
stays {lines = lines} more now (goes_on item others text rest refused later may is short answers said) (stops course host beside told run brief stands) =
    elim (run_goes_on run item (others ++ more) may (item_more item lines others more is)) [ ]
stays more now (runs course host others text rest refused later run short over said) (rests empty) = elim (run_rests (run_more more run) empty) [ ]
stays more now (runs course host others text rest refused later run short over said) (begins some lacks low) = elim (run_begins (run_more more run) lacks) [ ]
stays more now (runs course host others text rest' refused later run short over said) (ends front bad rest place is before unlike none low at) =
    elim (run_ends (run_more more run) front bad rest is before unlike) [ ]
stays more now (runs course host others text rest' refused later run short over said) (exceeds front next rest is before less long) =
    elim (run_exceeds (run_more more run) front next rest is before long) [ ]
stays more now (runs course host others text rest' refused later run short over said) (goes_on item others' text' rest refused' later' may is short' answers said') =
    elim (run_goes_on (run_more more run) item others' may is) [ ]
stays {beyond = beyond} {moment = moment} more now (runs {standing = standing} course host others text rest refused later run short over said)
    (runs {standing = second} course' host' others' text' rest' refused' later' run' short' over' said') =
    let one = one_run now (run_more more run) run' in
    let own = over_once course (run_steady run) host host' (others ++ more) others' text text' refused refused' over
    (subst (λ c. c host' ≡ record { text = text'; standing = Over refused' [] }) (sym one.1) over') (sym (append_assoc host others more) ∙ one.0) in
    let (left, joined) = stays {moment = under_way moment} more now said (subst (λ it. Says beyond (under_way moment) it rest' later' second) (sym own.2) said') in
    (left, (λ i. (sym own.0 i ++ 10 ∷ []) ++ joined i) ∙ sym (append_assoc (text ++ 10 ∷ []) rest left))
stays {beyond = beyond} more now (runs course host others text rest refused later run short over said) (stops {standing = second} course' host' others' text' run' short' stands) =
    let one = one_run now (run_more more run) run' in
    elim (over_stands course (run_steady run) host host' (others ++ more) others' text text' refused beyond second over short
    (subst (λ c. StandsIn beyond (c host') others' text' second) (sym one.1) stands) short' (sym (append_assoc host others more) ∙ one.0)) [ ]
stays more now (stops course host others text run short stands) (rests empty) = elim (run_rests (run_more more run) empty) [ ]
stays more now (stops course host others text run short stands) (begins some lacks low) = elim (run_begins (run_more more run) lacks) [ ]
stays more now (stops course host others text run short stands) (ends front bad rest place is before unlike none low at) =
    elim (run_ends (run_more more run) front bad rest is before unlike) [ ]
stays more now (stops course host others text run short stands) (exceeds front next rest is before less long) =
    elim (run_exceeds (run_more more run) front next rest is before long) [ ]
stays more now (stops course host others text run short stands) (goes_on item others' text' rest refused' later' may is short' answers said') =
    elim (run_goes_on (run_more more run) item others' may is) [ ]
stays {total = total} more now (stops {standing = standing} course host others text run short stands) (runs course' host' others' text' rest' refused' later' run' short' over' said') =
    let one = one_run now (run_more more run) run' in
    let told = stands_then_over course (run_steady run) host host' others others' more text text' refused' total standing stands short
    (subst (λ c. c host' ≡ record { text = text'; standing = Over refused' [] }) (sym one.1) over') short' one.0 in (
      told.0 ++ (10 ∷ rest'),
      ap (λ t. (t ++ 10 ∷ []) ++ rest') told.1 ∙ append_assoc (text ++ told.0) (10 ∷ []) rest' ∙ append_assoc text told.0 (10 ∷ rest'),
    )
stays {total = total} {beyond = beyond} more now (stops {standing = standing} course host others text run short stands) (stops {standing = second} course' host' others' text' run' short' stands') =
    let one = one_run now (run_more more run) run' in
    stands_then_stands course (run_steady run) host host' others others' more text text' total beyond standing second stands short
    (subst (λ c. StandsIn beyond (c host') others' text' second) (sym one.1) stands') short' one.0

pub answers_stay : AnswersStay
answers_stay [] more text other refused later standing second nothing said = (other, refl)
answers_stay (_ ∷ _) more text other refused later standing second (overlong long) said = (other, refl)
answers_stay (_ ∷ _) more text other refused later standing second (stranger differs short) said = (other, refl)
answers_stay (_ ∷ _) more text other refused later standing second (opened_by said) (overlong long) = absurd (omega (arith, long, first_size))
answers_stay (_ ∷ _) more text other refused later standing second (opened_by said) (stranger differs short) = elim (differs refl) [ ]
answers_stay (_ ∷ _) more text other refused later standing second (opened_by said) (opened_by again) = stays more none_present said again
