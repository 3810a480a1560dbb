-- A replay differs at the first line with which nothing that it agrees with goes on.
use Rattle.std.proofs.Common.{◌≡◌, ◌≢◌, ℕ, zero, suc, Bool, true, false, List, [], ◌∷◌, ◌++◌, length, Option, Some, None, inl, inr, ◌⊎◌, refl, sym, ap, ◌∙◌, subst, arith}
use Rattle.std.specs.Prelude.{pos}
use Rattle.std.specs.Str.{bytes_eq}
use Rattle.std.proofs.lemmas.List.{append-nil, append_assoc}
use Rattle.std.proofs.lemmas.Slice.Eq.{bytes_eq-Decides}
use Rattle.cc_base.specs.Literals.{Literal, UnitLiteral, NumberLiteral}
use Rattle.cc_base.specs.declared.literal.Op.{Op}
use Rattle.cc_base.specs.declared.literal.Op.TheVariants as operations
use Rattle.cc_core.specs.Typing.{base_taken}
use Rattle.cc_device.specs.Events.{Event, Operated, literal_shown}
use Rattle.cc_runs.specs.Machine.{Configuration, StepOutcome, Stuck, Final, Next, Ask, is_taken, step}
use Rattle.cc_replay.specs.AnsweredRuns.{IsAnswerOf, AnsweredRun, trace_of, BeginTrace, BeginNoTraceWith, IsFirstDifference}
use Rattle.cc_replay.specs.ReplayLaws.{ReplaysDifferFirst}
use Rattle.cc_replay.specs.Replays.{Comparison, behind_line, no_line, others_decide, text_next, event_next, answer_in, answered_next, operation_next, ending_in, end_next, replay_on, replay_from, replay}
use Rattle.cc_replay.specs.declared.replaying.Replayed.{Replayed}
use Rattle.cc_replay.specs.declared.replaying.Replayed.TheVariants.{Agrees, Differs}
use Rattle.cc_replay.proofs.AgreeingReplays.{agreeing_lines_are_traces}
use Rattle.cc_replay.proofs.AnswersInLines.{answer_fits, answer_back}
use Rattle.cc_replay.proofs.Comparisons.{text_agrees, text_is_met}
use Rattle.cc_runs.proofs.Finality.{asks_rightly}
use Rattle.cc_replay.specs.RunTexts.{event_text, end_text}
use Rattle.cc_words.specs.Lines.{Line}

-- nothing that agrees begins with the lines and the next one
abbrev NoneGoesOn : Comparison → List Line → List Line → Type 0
NoneGoesOn f front [] = f front ≡ Agrees → ⊥
NoneGoesOn f front (next ∷ others) = (behind : List Line) → f (front ++ next ∷ behind) ≡ Agrees → ⊥

-- the first line that differs, for any comparison
record FirstFor (f : Comparison) (lines : List Line) (line : ℕ) : Type 0 where
  front : List Line
  rest : List Line
  split : lines ≡ front ++ rest
  counted : line ≡ suc (length front)
  behind : List Line
  begins : f (front ++ behind) ≡ Agrees
  differs : NoneGoesOn f front rest

-- a comparison agrees with something, and differs at the first line that does not go on
record IsExact (f : Comparison) : Type 0 where
  some : List Line
  agrees : f some ≡ Agrees
  first : (lines : List Line) (line : ℕ) → f lines ≡ Differs line → FirstFor f lines line

same_line : (k line : ℕ) → Differs k ≡ Differs line → line ≡ k
same_line k line e = cc

never : (k : ℕ) → Differs k ≡ Agrees → ⊥
never k e = cc

-- at once, where no line that agrees begins so
at_once : (f : Comparison) (lines : List Line) (line : ℕ) (some : List Line) → f some ≡ Agrees → NoneGoesOn f [] lines → line ≡ 1 → FirstFor f lines line
at_once f lines line some agrees none is = record { front = []; rest = lines; split = refl; counted = is; behind = some; begins = agrees; differs = none }

exact_no_line : IsExact no_line
exact_no_line = record { some = []; agrees = refl; first = first }
  where
    first : (lines : List Line) (line : ℕ) → no_line lines ≡ Differs line → FirstFor no_line lines line
    first [] line e = cc
    first (x ∷ others) line e = at_once no_line (x ∷ others) line [] refl (λ behind agrees. never 1 agrees) (same_line 1 line e)

-- the line behind one more
behind_differs : (r : Replayed) (line : ℕ) → behind_line r ≡ Differs line → (k : ℕ) × (r ≡ Differs k) × (line ≡ suc k)
behind_differs Agrees line e = cc
behind_differs (Differs k) line e = (k, refl, same_line (suc k) line e)

cons_parts : (x y : Line) (xs ys : List Line) → x ∷ xs ≡ y ∷ ys → (x ≡ y) × (xs ≡ ys)
cons_parts x y xs ys e = (cc, cc)

module _ (text : List ℕ) (f : Comparison) (exact : IsExact f) where
  -- what agrees behind the text
  agrees_behind : (line : Line) (others : List Line) → text_next text f (line ∷ others) ≡ Agrees → (line ≡ text) × (f others ≡ Agrees)
  agrees_behind line others e =
      let found = text_agrees text f (line ∷ others) e in
      let parts = cons_parts line text others found.others found.is in
      (parts.0, subst (λ ls. f ls ≡ Agrees) (sym parts.1) found.agree)

  goes_on_behind : (line : Line) (front rest : List Line) → NoneGoesOn f front rest → NoneGoesOn (text_next text f) (line ∷ front) rest
  goes_on_behind line front [] none = λ e. none (agrees_behind line front e).1
  goes_on_behind line front (next ∷ others) none = λ behind e. none behind (agrees_behind line (front ++ next ∷ behind) e).1

  first_behind : (line : Line) (others : List Line) (k at : ℕ) → line ≡ text → FirstFor f others k → at ≡ suc k → FirstFor (text_next text f) (line ∷ others) at
  first_behind line others k at same later is = record {
    front = line ∷ later.front;
    rest = later.rest;
    split = ap (λ ls. line ∷ ls) later.split;
    counted = is ∙ ap suc later.counted;
    behind = later.behind;
    begins = ap (λ l. text_next text f (l ∷ (later.front ++ later.behind))) same ∙ text_is_met text f (later.front ++ later.behind) later.begins;
    differs = goes_on_behind line later.front later.rest later.differs;
  }

  by_line : (t : Bool) (line : Line) (others : List Line) (at : ℕ) → bytes_eq line text ≡ t → others_decide t f others ≡ Differs at → FirstFor (text_next text f) (line ∷ others) at
  by_line true line others at same e =
      let later = behind_differs (f others) at e in
      first_behind line others later.0 at ((bytes_eq-Decides line text).0 same) (exact.first others later.0 later.1) later.2
  by_line false line others at other e =
      at_once (text_next text f) (line ∷ others) at (text ∷ exact.some) (text_is_met text f exact.some exact.agrees)
      (λ behind agrees.
      let same = (agrees_behind line behind agrees).0 in
      let clash : true ≡ false = sym ((bytes_eq-Decides line text).1 same) ∙ other in
      cc)
      (same_line 1 at e)

  exact_text : IsExact (text_next text f)
  exact_text = record { some = text ∷ exact.some; agrees = text_is_met text f exact.some exact.agrees; first = first }
    where
      first : (lines : List Line) (at : ℕ) → text_next text f lines ≡ Differs at → FirstFor (text_next text f) lines at
      first [] at e = at_once (text_next text f) [] at (text ∷ exact.some) (text_is_met text f exact.some exact.agrees) (λ agrees. never 1 agrees) (same_line 1 at e)
      first (line ∷ others) at e = by_line (bytes_eq line text) line others at refl e

module _ (names : List (List ℕ)) where
  exact_event : (event : Option Event) (f : Comparison) → IsExact f → IsExact (event_next names event f)
  exact_event None f exact = exact
  exact_event (Some event) f exact = exact_text (event_text names event) f exact

  -- some answer
  an_answer : (op : Op) → (answer : Literal) × IsAnswerOf op answer
  an_answer operations.Print = (UnitLiteral, (refl, refl))
  an_answer operations.Say = (UnitLiteral, (refl, refl))
  an_answer operations.Read = (NumberLiteral (pos 0), (refl, refl))
  an_answer operations.Write = (UnitLiteral, (refl, refl))
  an_answer operations.Tick = (NumberLiteral (pos 0), (refl, refl))

  module _ (n : ℕ) (op : Op) (a : Option Literal) (taken : is_taken (base_taken op) a ≡ true) (rest : Literal → Comparison) (exact : (answer : Literal) → IsExact (rest answer)) where
    abbrev asking : Comparison
    asking = operation_next names n op a rest

    abbrev line_of : Literal → Line
    line_of answer = event_text names (Operated n op (literal_shown a answer))

    abbrev answering : Literal → Comparison
    answering answer = text_next (line_of answer) (rest answer)

    -- on lines that begin with one that tells of the answer, it is that comparison
    on_line : (answer : Literal) (line : Line) (others : List Line) → answer_in names n op line ≡ Some answer → asking (line ∷ others) ≡ answering answer (line ∷ others)
    on_line answer line others is = ap (λ o. answered_next names n op a rest o (line ∷ others)) is

    own_line : (answer : Literal) → IsAnswerOf op answer → (lines : List Line) → answering answer lines ≡ Agrees → asking lines ≡ Agrees
    own_line answer fits lines e =
        let found = text_agrees (line_of answer) (rest answer) lines e in
        ap asking found.is
        ∙ on_line answer (line_of answer) found.others (answer_back names n op a answer fits taken)
        ∙ text_is_met (line_of answer) (rest answer) found.others found.agree

    some_lines : List Line
    some_lines = (exact_text (line_of (an_answer op).0) (rest (an_answer op).0) (exact (an_answer op).0)).some

    some_agree : asking some_lines ≡ Agrees
    unfolding some_lines
    some_agree =
        own_line (an_answer op).0 (an_answer op).1 some_lines
        (exact_text (line_of (an_answer op).0) (rest (an_answer op).0) (exact (an_answer op).0)).agrees

    none_on_line : (answer : Literal) (line : Line) (front rest' : List Line) → answer_in names n op line ≡ Some answer → NoneGoesOn (answering answer) (line ∷ front) rest' → NoneGoesOn asking (line ∷ front) rest'
    none_on_line answer line front [] is none = λ e. none (sym (on_line answer line front is) ∙ e)
    none_on_line answer line front (next ∷ others) is none = λ behind e. none behind (sym (on_line answer line (front ++ next ∷ behind) is) ∙ e)

    -- the first line that differs stays the same
    first_on_line : (answer : Literal) (line : Line) (others : List Line) (at : ℕ) → answer_in names n op line ≡ Some answer → FirstFor (answering answer) (line ∷ others) at → FirstFor asking (line ∷ others) at
    first_on_line answer line others at is found = by_front found.front found.rest found.split found.counted found.behind found.begins found.differs
      where
        by_front : (front rest' : List Line) → line ∷ others ≡ front ++ rest' → at ≡ suc (length front) → (behind : List Line) → answering answer (front ++ behind) ≡ Agrees → NoneGoesOn (answering answer) front rest'
            → FirstFor asking (line ∷ others) at
        by_front [] [] split counted behind begins differs = cc
        by_front [] (next ∷ rest') split counted behind begins differs =
            let parts = cons_parts line next others rest' split in
            at_once asking (line ∷ others) at behind (own_line answer (answer_fits names n op line answer is) behind begins)
            (λ later e. differs later (subst (λ l. answering answer (l ∷ later) ≡ Agrees) parts.0 (sym (on_line answer line later is) ∙ e))) counted
        by_front (first ∷ front) rest' split counted behind begins differs =
            let parts = cons_parts line first others (front ++ rest') split in
            let begins' : answering answer (line ∷ (front ++ behind)) ≡ Agrees = ap (λ l. answering answer (l ∷ (front ++ behind))) parts.0 ∙ begins in
            record {
              front = line ∷ front;
              rest = rest';
              split = ap (λ ls. line ∷ ls) parts.1;
              counted = counted;
              behind = behind;
              begins = on_line answer line (front ++ behind) is ∙ begins';
              differs = none_on_line answer line front rest' is (subst (λ l. NoneGoesOn (answering answer) (l ∷ front) rest') (sym parts.0) differs);
            }

    by_answer : (o : Option Literal) (line : Line) (others : List Line) (at : ℕ) → answer_in names n op line ≡ o → asking (line ∷ others) ≡ Differs at → FirstFor asking (line ∷ others) at
    by_answer None line others at is e =
        let none_here : (behind : List Line) → asking (line ∷ behind) ≡ Differs 1 = λ behind. ap (λ o. answered_next names n op a rest o (line ∷ behind)) is in
        at_once asking (line ∷ others) at some_lines some_agree (λ behind agrees. never 1 (sym (none_here behind) ∙ agrees)) (same_line 1 at (sym (none_here others) ∙ e))
    by_answer (Some answer) line others at is e =
        first_on_line answer line others at is
        ((exact_text (line_of answer) (rest answer) (exact answer)).first (line ∷ others) at (sym (on_line answer line others is) ∙ e))

    exact_operation : IsExact (operation_next names n op a rest)
    exact_operation = record { some = some_lines; agrees = some_agree; first = first }
      where
        first : (lines : List Line) (at : ℕ) → asking lines ≡ Differs at → FirstFor asking lines at
        first [] at e = at_once asking [] at some_lines some_agree (λ agrees. never 1 agrees) (same_line 1 at e)
        first (line ∷ others) at e = by_answer (answer_in names n op line) line others at refl e

  exact_end : (steps : ℕ) (c : Configuration) (x : StepOutcome) → IsExact (end_next names steps c x)
  exact_end steps c x = exact_text (end_text names (ending_in c x) steps) no_line exact_no_line

  exact_on : (steps : ℕ) (rest : Configuration → Comparison) (c : Configuration) (x : StepOutcome) → step c ≡ x → ((next : Configuration) → IsExact (rest next)) → IsExact (replay_on names steps rest c x)
  exact_on steps rest c Stuck is exact = exact_end steps c Stuck
  exact_on steps rest c Final is exact = exact_end steps c Final
  exact_on steps rest c (Next event next) is exact = exact_event event (rest next) (exact next)
  exact_on steps rest c (Ask n op a resume) is exact =
      exact_operation n op a (asks_rightly c n op a resume is) (λ answer. rest (resume answer)) (λ answer. exact (resume answer))

  exact_from : (steps fuel : ℕ) (c : Configuration) → IsExact (replay_from names steps fuel c)
  exact_from steps zero c = exact_end steps c (step c)
  exact_from steps (suc fuel) c = exact_on steps (replay_from names (suc steps) fuel) c (step c) refl (exact_from (suc steps) fuel)

-- the first line is one
record Longer (front rest front' : List Line) : Type 0 where
  next : Line
  more : List Line
  others : List Line
  is : front' ≡ front ++ next ∷ more
  left : rest ≡ next ∷ others

compared : (front rest front' rest' : List Line) → front ++ rest ≡ front' ++ rest' → (length front ≡ length front') ⊎ (Longer front rest front' ⊎ Longer front' rest' front)
compared [] rest [] rest' e = inl refl
compared [] rest (x ∷ front') rest' e = inr (inl (record { next = x; more = front'; others = front' ++ rest'; is = refl; left = e }))
compared (x ∷ front) rest [] rest' e = inr (inr (record { next = x; more = front; others = front ++ rest; is = refl; left = sym e }))
compared (x ∷ front) rest (y ∷ front') rest' e =
    let parts = cons_parts x y (front ++ rest) (front' ++ rest') e in
    one_more parts.0 (compared front rest front' rest' parts.1)
  where
    longer : (f r g : List Line) (z w : Line) → z ≡ w → Longer f r g → Longer (z ∷ f) r (w ∷ g)
    longer f r g z w same l = record {
      next = l.next;
      more = l.more;
      others = l.others;
      is = ap (λ v. v ∷ g) (sym same) ∙ ap (λ ls. z ∷ ls) l.is;
      left = l.left;
    }

    one_more : x ≡ y → (length front ≡ length front') ⊎ (Longer front rest front' ⊎ Longer front' rest' front)
        → (suc (length front) ≡ suc (length front')) ⊎ (Longer (x ∷ front) rest (y ∷ front') ⊎ Longer (y ∷ front') rest' (x ∷ front))
    one_more same (inl n) = inl (ap suc n)
    one_more same (inr (inl l)) = inr (inl (longer front rest front' x y same l))
    one_more same (inr (inr l)) = inr (inr (longer front' rest' front y x (sym same) l))

module _ (f : Comparison) where
  too_long : (front rest front' behind : List Line) → Longer front rest front' → NoneGoesOn f front rest → f (front' ++ behind) ≡ Agrees → ⊥
  too_long front rest front' behind l none agrees =
      subst (NoneGoesOn f front) l.left none (l.more ++ behind)
      (ap f (sym (ap (λ ls. ls ++ behind) l.is ∙ append_assoc front (l.next ∷ l.more) behind)) ∙ agrees)

  one_first : (lines : List Line) (k line : ℕ) → FirstFor f lines k → FirstFor f lines line → k ≡ line
  one_first lines k line one other =
      elim (compared one.front one.rest other.front other.rest (sym one.split ∙ other.split)) as (λ _. k ≡ line) [
        | inl same ↦ one.counted ∙ ap suc same ∙ sym other.counted
        | inr apart ↦ elim apart as (λ _. k ≡ line) [
          | inl l ↦ absurd (too_long one.front one.rest other.front other.behind l one.differs other.begins)
          | inr l ↦ absurd (too_long other.front other.rest one.front one.behind l other.differs one.begins)
        ]
      ]

  agrees_nowhere : (lines front rest : List Line) → lines ≡ front ++ rest → NoneGoesOn f front rest → f lines ≡ Agrees → ⊥
  agrees_nowhere lines front [] split none agrees = none (ap f (sym (split ∙ append-nil front)) ∙ agrees)
  agrees_nowhere lines front (next ∷ others) split none agrees = none others (ap f (sym split) ∙ agrees)

  by_result : (lines : List Line) (line : ℕ) → IsExact f → FirstFor f lines line → (r : Replayed) → f lines ≡ r → r ≡ Differs line
  by_result lines line exact found Agrees is = absurd (agrees_nowhere lines found.front found.rest found.split found.differs is)
  by_result lines line exact found (Differs k) is = ap (λ n. Differs n) (one_first lines k line (exact.first lines k is) found)

-- by the traces of runs
module _ (names : List (List ℕ)) (fuel : ℕ) (start : Configuration) where
  abbrev trace_law : (lines : List Line) → (replay names fuel start lines ≡ Agrees → (it : AnsweredRun fuel start) × (lines ≡ trace_of names it)) × ((it : AnsweredRun fuel start) → lines ≡ trace_of names it → replay names fuel start lines ≡ Agrees)
  trace_law lines = agreeing_lines_are_traces names fuel start lines

  none_begins : (front rest : List Line) → NoneGoesOn (replay names fuel start) front rest → BeginNoTraceWith names fuel start front rest
  none_begins front [] none = λ it is. none ((trace_law front).1 it (sym is))
  none_begins front (next ∷ others) none = λ begun.
      none begun.1 ((trace_law (front ++ next ∷ begun.1)).1 begun.0 (sym (begun.2 ∙ append_assoc front (next ∷ []) begun.1)))

  none_agrees : (front rest : List Line) → BeginNoTraceWith names fuel start front rest → NoneGoesOn (replay names fuel start) front rest
  none_agrees front [] none = λ agrees. let found = (trace_law front).0 agrees in none found.0 (sym found.1)
  none_agrees front (next ∷ others) none = λ behind agrees.
      let found = (trace_law (front ++ next ∷ behind)).0 agrees in
      none (found.0, behind, sym found.1 ∙ sym (append_assoc front (next ∷ []) behind))

  first_difference : (lines : List Line) (line : ℕ) → FirstFor (replay names fuel start) lines line → IsFirstDifference names fuel start lines line
  first_difference lines line found =
      let run = (trace_law (found.front ++ found.behind)).0 found.begins in
      record {
        front = found.front;
        rest = found.rest;
        split = found.split;
        counted = found.counted;
        begins = (run.0, found.behind, sym run.1);
        differs = none_begins found.front found.rest found.differs;
      }

  first_for : (lines : List Line) (line : ℕ) → IsFirstDifference names fuel start lines line → FirstFor (replay names fuel start) lines line
  first_for lines line found = record {
    front = found.front;
    rest = found.rest;
    split = found.split;
    counted = found.counted;
    behind = found.begins.1;
    begins = (trace_law (found.front ++ found.begins.1)).1 found.begins.0 (sym found.begins.2);
    differs = none_agrees found.front found.rest found.differs;
  }

pub replays_differ_first : ReplaysDifferFirst
replays_differ_first names fuel start lines line = (
  λ e. first_difference names fuel start lines line ((exact_from names 0 fuel start).first lines line e),
  λ found.
      by_result (replay names fuel start) lines line (exact_from names 0 fuel start) (first_for names fuel start lines line found) (replay names fuel start lines) refl,
)
