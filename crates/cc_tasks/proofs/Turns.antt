-- Whose turn it is, and what a turn leaves to come.
use Rattle.std.proofs.Common.{◌≡◌, ◌<◌, ◌+◌, ℕ, zero, suc, Bool, true, false, List, [], ◌∷◌, ◌++◌, Option, Some, None, take, drop, refl, sym, ap, ◌∙◌, arith, append_assoc}
use Rattle.std.specs.Prelude.{slice_get, nat_eq, if◌then◌else◌}
use Rattle.std.specs.List.{AllByRecursion}
use Rattle.cc_device.specs.Events.{Event}
use Rattle.cc_runs.specs.Runs.{State, Move, IsStuck, IsFinal, Moves}
use Rattle.cc_runs.specs.Interleavings.{World, move_of, after_turn, Chosen, offered, chosen_from, Turn}
use Rattle.cc_runs.specs.Interleavings.{Interleaving, resting, turn_first, go_on, interleave, numbered, trace_of}
use Rattle.cc_runs.specs.Interleavings.{own_steps, IsAtRest}
use Rattle.cc_runs.proofs.InterleavedTasks.{own_turn_steps, other_turn_steps}

some_is : {A : Type 0} (a b : A) → Some a ≡ Some b → a ≡ b
some_is a b e = cc

-- what is at rest is passed over
passes : (task : ℕ) (later : List ℕ) (others : Option Chosen) (m : Option Move) → IsAtRest m → offered task later others m ≡ others
passes task later others None rest = refl
passes task later others (Some IsFinal) rest = refl
passes task later others (Some IsStuck) rest = absurd rest
passes task later others (Some (Moves event next)) rest = absurd rest

-- so many tasks are at rest
abbrev pub AreAtRest : World → List ℕ → Type 0
AreAtRest w = AllByRecursion (λ task. IsAtRest (move_of w task))

none_chosen : (w : World) (passed others : List ℕ) → AreAtRest w others → chosen_from w passed others ≡ None
none_chosen w passed [] rest = refl
none_chosen w passed (x ∷ others) rest =
    passes x (others ++ passed ++ x ∷ []) (chosen_from w (passed ++ x ∷ []) others) (move_of w x) rest.0 ∙ none_chosen w (passed ++ x ∷ []) others rest.1

one_chosen : (w : World) (passed others : List ℕ) (place task : ℕ) (event : Option Event) (next : State)
    → AreAtRest w (take place others) → slice_get others place ≡ Some task → move_of w task ≡ Some (Moves event next)
    → chosen_from w passed others ≡ Some (record { task = task; comes = Moves event next; later = drop (suc place) others ++ (passed ++ take (suc place) others) })
one_chosen w passed [] place task event next rest at is = cc
one_chosen w passed (x ∷ others) zero task event next rest at is =
    let same = some_is x task at in
    ap (offered x (others ++ passed ++ x ∷ []) (chosen_from w (passed ++ x ∷ []) others)) (ap (move_of w) same ∙ is)
    ∙ (λ i. Some (record { task = same i; comes = Moves event next; later = append_assoc others passed (x ∷ []) i }))
one_chosen w passed (x ∷ others) (suc place) task event next rest at is =
    passes x (others ++ passed ++ x ∷ []) (chosen_from w (passed ++ x ∷ []) others) (move_of w x) rest.0
    ∙ one_chosen w (passed ++ x ∷ []) others place task event next rest.1 at is
    ∙ ap (λ ys. Some (record { task = task; comes = Moves event next; later = drop (suc place) others ++ ys })) (append_assoc passed (x ∷ []) (take (suc place) others))

-- where no turn is left, or all are at rest, the run has come to its end
pub at_its_end : (left : ℕ) (order : List ℕ) (w : World) → (0 < left → AreAtRest w order) → interleave left order w ≡ resting w
at_its_end zero order w rest = refl
at_its_end (suc left) order w rest = ap (go_on (interleave left) w) (none_chosen w [] order (rest (omega arith)))

-- and otherwise the first that is not at rest has its turn
pub one_turn : (left : ℕ) (order : List ℕ) (w : World) (place task : ℕ) (event : Option Event) (next : State)
    → AreAtRest w (take place order) → slice_get order place ≡ Some task → move_of w task ≡ Some (Moves event next)
    → interleave (suc left) order w
    ≡ turn_first (record { task = task; event = event }) (interleave left (drop (suc place) order ++ take (suc place) order) (after_turn w task next))
one_turn left order w place task event next rest at is =
    ap (go_on (interleave left) w) (one_chosen w [] order place task event next rest at is)

-- a run behind turns that were taken before
abbrev pub turns_first : List Turn → Interleaving → Interleaving
turns_first turns later = record { turns = turns ++ later.turns; last = later.last }

pub turn_between : (turns : List Turn) (turn : Turn) (later : Interleaving) → turns_first turns (turn_first turn later) ≡ turns_first (turns ++ turn ∷ []) later
turn_between turns turn later = ap (λ ts. record { turns = ts; last = later.last }) (sym (append_assoc turns (turn ∷ []) later.turns))

-- what one turn more adds to what is told
numbered_more : (task : ℕ) (event : Option Event) (before after : List (ℕ × Event)) → numbered task event (before ++ after) ≡ numbered task event before ++ after
numbered_more task None before after = refl
numbered_more task (Some event) before after = refl

pub trace-push : (turns : List Turn) (task : ℕ) (event : Option Event) → trace_of (turns ++ record { task = task; event = event } ∷ []) ≡ trace_of turns ++ numbered task event []
trace-push [] task event = refl
trace-push (turn ∷ turns) task event =
    ap (numbered turn.task turn.event) (trace-push turns task event) ∙ numbered_more turn.task turn.event (trace_of turns) (numbered task event [])

one_step_more : (b : Bool) (m n k : ℕ) → m ≡ n + k → (if b then suc m else m) ≡ (if b then suc n else n) + k
one_step_more true m n k is = let more : suc m ≡ suc n + k = omega arith in more
one_step_more false m n k is = is

steps-push : (i : ℕ) (turns : List Turn) (turn : Turn) → own_steps i (turns ++ turn ∷ []) ≡ own_steps i turns + own_steps i (turn ∷ [])
steps-push i [] turn = zero_more (own_steps i (turn ∷ []))
  where
    zero_more : (n : ℕ) → n ≡ 0 + n
    zero_more n = omega arith
steps-push i (first ∷ turns) turn = one_step_more (nat_eq first.task i) _ _ (own_steps i (turn ∷ [])) (steps-push i turns turn)

pub own_step_more : (i : ℕ) (turns : List Turn) (task : ℕ) (event : Option Event) → task ≡ i
    → own_steps i (turns ++ record { task = task; event = event } ∷ []) ≡ own_steps i turns + 1
own_step_more i turns task event same =
    steps-push i turns (record { task = task; event = event }) ∙ ap (λ n. own_steps i turns + n) (own_turn_steps i task event [] same)

pub no_step_more : (i : ℕ) (turns : List Turn) (task : ℕ) (event : Option Event) → (task ≡ i → ⊥)
    → own_steps i (turns ++ record { task = task; event = event } ∷ []) ≡ own_steps i turns
no_step_more i turns task event other =
    let added = steps-push i turns (record { task = task; event = event }) in
    let none = other_turn_steps i task event [] other in
    omega (arith, added, none)
