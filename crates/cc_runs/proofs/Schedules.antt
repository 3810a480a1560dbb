-- The tasks come up as the schedule has them when it is repeated.
use Rattle.std.proofs.Common.{◌≡◌, ℕ, zero, suc, List, [], ◌∷◌, ◌++◌, append_assoc, Option, Some, None, refl, sym, ap, ◌∙◌, subst}
use Rattle.std.specs.List.{AllByRecursion}
use Rattle.std.proofs.lemmas.List.{append-nil}
use Rattle.cc_runs.specs.Runs.{Move, IsStuck, IsFinal, Moves}
use Rattle.cc_runs.specs.Interleavings.{World, move_of, after_turn, Turn, Chosen, offered, chosen_from}
use Rattle.cc_runs.specs.Interleavings.{Interleaving, take_turn, go_on, interleave, IsAtRest}
use Rattle.cc_runs.specs.InterleavingLaws.{ComeUp, all_came, passed_over, takes_turn, repeated, SchedulesAreRepeated}
use Rattle.cc_runs.proofs.InterleavedTasks.{is_turn}

repeated_once_more : (times : ℕ) (s : List ℕ) → repeated times s ++ s ≡ s ++ repeated times s
repeated_once_more zero s = sym (append-nil s)
repeated_once_more (suc times) s = append_assoc s (repeated times s) s ∙ ap (λ xs. s ++ xs) (repeated_once_more times s)

-- The schedule as it stands after the tasks that came up: its back, and then its front, which came up last.
record Turned (s now seen : List ℕ) : Type 0 where
  front : List ℕ
  back : List ℕ
  times : ℕ
  whole : s ≡ front ++ back
  is : now ≡ back ++ front
  came : seen ≡ repeated times s ++ front

head_tail : (x y : ℕ) (xs ys : List ℕ) → x ∷ xs ≡ y ∷ ys → (x ≡ y) × (xs ≡ ys)
head_tail x y xs ys e = (cc, cc)

-- the first task comes up, and goes to the end
turn_one : (s : List ℕ) (x : ℕ) (r seen : List ℕ) → Turned s (x ∷ r) seen → Turned s (r ++ x ∷ []) (seen ++ x ∷ [])
turn_one s x r seen t = by_back t.back t.whole t.is
  where
    by_back : (back : List ℕ) → s ≡ t.front ++ back → x ∷ r ≡ back ++ t.front → Turned s (r ++ x ∷ []) (seen ++ x ∷ [])
    by_back [] whole is =
        let same : s ≡ x ∷ r = whole ∙ append-nil t.front ∙ sym is in
        record {
          front = x ∷ [];
          back = r;
          times = suc t.times;
          whole = same;
          is = refl;
          came = ap (λ xs. xs ++ x ∷ []) (t.came ∙ ap (λ xs. repeated t.times s ++ xs) (sym is ∙ sym same) ∙ repeated_once_more t.times s);
        }
    by_back (y ∷ back) whole is =
        let parts = head_tail x y r (back ++ t.front) is in
        record {
          front = t.front ++ x ∷ [];
          back = back;
          times = t.times;
          whole = whole ∙ ap (λ z. t.front ++ z ∷ back) (sym parts.0) ∙ sym (append_assoc t.front (x ∷ []) back);
          is = ap (λ xs. xs ++ x ∷ []) parts.1 ∙ append_assoc back t.front (x ∷ []);
          came = ap (λ xs. xs ++ x ∷ []) t.came ∙ append_assoc (repeated t.times s) t.front (x ∷ []);
        }

-- what came up is a front of the schedule repeated
abbrev Came : List ℕ → List ℕ → Type 0
Came s seen = (others : List ℕ) × (times : ℕ) × (seen ++ others ≡ repeated times s)

came_up : (s now seen : List ℕ) → Turned s now seen → Came s seen
came_up s now seen t = (
  t.back,
  suc t.times,
  ap (λ xs. xs ++ t.back) t.came ∙ append_assoc (repeated t.times s) t.front t.back
      ∙ ap (λ xs. repeated t.times s ++ xs) (sym t.whole) ∙ repeated_once_more t.times s,
)

-- Up to the chosen task all are at rest.
record Reached (w : World) (s seen : List ℕ) (c : Chosen) : Type 0 where
  skipped : List ℕ
  rest : AllByRecursion (λ i. IsAtRest (move_of w i)) skipped
  turned : Turned s c.later ((seen ++ skipped) ++ c.task ∷ [])

some_is : {A : Type 0} (a b : A) → Some a ≡ Some b → a ≡ b
some_is a b e = cc

reached : (w : World) (s : List ℕ) (passed others seen : List ℕ) (c : Chosen) → chosen_from w passed others ≡ Some c → Turned s (others ++ passed) seen → Reached w s seen c
reached w s passed [] seen c e t = cc
reached w s passed (i ∷ others) seen c e t =
    by_move (λ e' t'. reached w s (passed ++ i ∷ []) others (seen ++ i ∷ []) c e' t') (move_of w i) refl e
  where
    first : Turned s ((others ++ passed) ++ i ∷ []) (seen ++ i ∷ [])
    first = turn_one s i (others ++ passed) seen t

    here : (m : Move) → Some (record { task = i; comes = m; later = others ++ passed ++ i ∷ [] }) ≡ Some c → Reached w s seen c
    here m e' =
        subst (Reached w s seen) (some_is (record { task = i; comes = m; later = others ++ passed ++ i ∷ [] }) c e')
        (record { skipped = []; rest = tt; turned = subst (λ xs. Turned s ((others ++ passed) ++ i ∷ []) (xs ++ i ∷ [])) (sym (append-nil seen)) first })

    over : (o : Option Move) → move_of w i ≡ o → IsAtRest o → Reached w s (seen ++ i ∷ []) c → Reached w s seen c
    over o is rest later = record {
      skipped = i ∷ later.skipped;
      rest = (subst IsAtRest (sym is) rest, later.rest);
      turned = subst (λ xs. Turned s c.later (xs ++ c.task ∷ [])) (append_assoc seen (i ∷ []) later.skipped) later.turned;
    }

    moved_on : Turned s (others ++ (passed ++ i ∷ [])) (seen ++ i ∷ [])
    moved_on = subst (λ xs. Turned s xs (seen ++ i ∷ [])) (append_assoc others passed (i ∷ [])) first

    by_move : (chosen_from w (passed ++ i ∷ []) others ≡ Some c → Turned s (others ++ (passed ++ i ∷ [])) (seen ++ i ∷ []) → Reached w s (seen ++ i ∷ []) c) → (o : Option Move) → move_of w i ≡ o
        → offered i (others ++ passed ++ i ∷ []) (chosen_from w (passed ++ i ∷ []) others) o ≡ Some c → Reached w s seen c
    by_move rest None is e' = over None is tt (rest e' moved_on)
    by_move rest (Some IsFinal) is e' = over (Some IsFinal) is tt (rest e' moved_on)
    by_move rest (Some IsStuck) is e' = here IsStuck e'
    by_move rest (Some (Moves event next)) is e' = here (Moves event next) e'

-- Whole runs.
record Scheduled (s seen : List ℕ) (w : World) (run : Interleaving) : Type 0 where
  tasks : List ℕ
  come : ComeUp w tasks run.turns run.last
  front : Came s (seen ++ tasks)

rests_here : (s now seen : List ℕ) (w : World) → Turned s now seen → Scheduled s seen w (record { turns = []; last = w })
rests_here s now seen w t = record { tasks = []; come = all_came; front = subst (Came s) (sym (append-nil seen)) (came_up s now seen t) }

all_skipped : {w last : World} {ts : List Turn} (skipped tasks : List ℕ) → AllByRecursion (λ i. IsAtRest (move_of w i)) skipped → ComeUp w tasks ts last → ComeUp w (skipped ++ tasks) ts last
all_skipped [] tasks rest come = come
all_skipped (i ∷ skipped) tasks rest come = passed_over rest.0 (all_skipped skipped tasks rest.1 come)

turn_scheduled : (rest : List ℕ → World → Interleaving) → ((s now seen : List ℕ) (w : World) → Turned s now seen → Scheduled s seen w (rest now w))
    → (s now seen : List ℕ) (w : World) → Turned s now seen → (c : Chosen) → Reached w s seen c → (m : Move) → move_of w c.task ≡ Some m → Scheduled s seen w (take_turn rest w c.task c.later m)
turn_scheduled rest all s now seen w t c r IsStuck is = rests_here s now seen w t
turn_scheduled rest all s now seen w t c r IsFinal is = rests_here s now seen w t
turn_scheduled rest all s now seen w t c r (Moves event next) is =
    let later = all s c.later ((seen ++ r.skipped) ++ c.task ∷ []) (after_turn w c.task next) r.turned in
    record {
      tasks = r.skipped ++ c.task ∷ later.tasks;
      come = all_skipped r.skipped (c.task ∷ later.tasks) r.rest (takes_turn is later.come);
      front = subst (Came s)
          (append_assoc (seen ++ r.skipped) (c.task ∷ []) later.tasks ∙ append_assoc seen r.skipped (c.task ∷ later.tasks)) later.front;
    }

choice_scheduled : (rest : List ℕ → World → Interleaving) → ((s now seen : List ℕ) (w : World) → Turned s now seen → Scheduled s seen w (rest now w))
    → (s now seen : List ℕ) (w : World) → Turned s now seen → (o : Option Chosen) → chosen_from w [] now ≡ o → Scheduled s seen w (go_on rest w o)
choice_scheduled rest all s now seen w t None is = rests_here s now seen w t
choice_scheduled rest all s now seen w t (Some c) is =
    turn_scheduled rest all s now seen w t c (reached w s [] now seen c is (subst (λ xs. Turned s xs seen) (sym (append-nil now)) t)) c.comes (is_turn w [] now c is).0

scheduled : (fuel : ℕ) (s now seen : List ℕ) (w : World) → Turned s now seen → Scheduled s seen w (interleave fuel now w)
scheduled zero s now seen w t = rests_here s now seen w t
scheduled (suc fuel) s now seen w t = choice_scheduled (interleave fuel) (scheduled fuel) s now seen w t (chosen_from w [] now) refl

pub schedules_are_repeated : SchedulesAreRepeated
schedules_are_repeated fuel s w =
    let run = scheduled fuel s s [] w (record { front = []; back = s; times = 0; whole = refl; is = sym (append-nil s); came = refl }) in
    (run.tasks, run.front.0, run.front.1, run.come, run.front.2)
