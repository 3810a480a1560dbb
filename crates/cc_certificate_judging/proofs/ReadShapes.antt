-- The loop over what waits reads the whole, and comes to its end.
use Rattle.std.proofs.Common.{◌≡◌, ℕ, ◌+◌, ◌<◌, List, [], ◌∷◌, ◌++◌, map, length}
use Rattle.std.proofs.Common.{refl, sym, ap, ◌∙◌, subst, arith}
use mathlib.Core.List.{reverse}
use Rattle.std.proofs.lemmas.List.{reverse-append, map-append, nil_from_length}
use Rattle.cc_capture.specs.Sets.{Set}
use Rattle.cc_core.specs.Shapes.{Shape, FunctionShape, TypeFunctionShape, BoxShape, ExitShape, capturing}
use Rattle.cc_core.specs.Traversal.{Action, act}
use Rattle.cc_certificate_judging.specs.ReadingShapes.{Waiting, Takes, Bounds, Contents, Exits, waiting_of}
use Rattle.cc_certificate_judging.specs.ReadingShapes.{in_turn, around, all_around, turns, turns_of, turns_left}
use Rattle.cc_certificate_judging.specs.ReadingShapes.{GoesDown, Descends, TakesTurn}
use Rattle.cc_certificate_judging.specs.declared.claims.Waiting.{Waiting as DeclaredWaiting}

-- what is put last waits innermost
in_turn-pushed : (waiting : List DeclaredWaiting) (next : DeclaredWaiting)
    → in_turn (waiting ++ next ∷ []) ≡ waiting_of next ∷ in_turn waiting
in_turn-pushed waiting next =
    ap reverse (map-append waiting_of waiting (next ∷ []))
    ∙ reverse-append (map waiting_of waiting) (waiting_of next ∷ [])

-- nothing is gone down yet
pub down_start : {action : Action} {depth : ℕ} {part : Shape} {waiting : List Waiting}
    → GoesDown action depth part waiting part waiting
down_start = record { alike = refl; left = refl }

down_further : {action : Action} {depth : ℕ} {part here inner : Shape} {old : List Waiting} {new : List DeclaredWaiting}
    (now : List DeclaredWaiting) (waits : DeclaredWaiting) (next : Waiting) (own waited : Shape)
    → GoesDown action depth part old here (in_turn now) → here ≡ own → new ≡ now ++ waits ∷ []
    → waiting_of waits ≡ next → inner ≡ waited
    → around action next (act action depth waited) ≡ act action depth own
    → turns waited + turns_of next ≡ turns own
    → GoesDown action depth part old inner (in_turn new)
down_further {action = action} {depth = depth} {part = part} {inner = inner} {old = old} now waits next own waited goes is pushed waits_is inside around_is turns_are =
    let now_is = ap in_turn pushed ∙ in_turn-pushed now waits ∙ ap (λ w. w ∷ in_turn now) waits_is in
    let further : GoesDown action depth part old inner (next ∷ in_turn now) =
    record {
      alike =
          ap (λ s. all_around action (in_turn now) (around action next (act action depth s))) inside
          ∙ ap (all_around action (in_turn now)) (around_is ∙ ap (act action depth) (sym is)) ∙ goes.alike;
      left = let e = ap turns is in let f = ap turns inside in omega (arith, e, f, turns_are, goes.left);
    } in
    subst (λ (ws : List Waiting). GoesDown action depth part old inner ws) (sym now_is) further

-- down to what functions take
pub down_takes : {action : Action} {depth : ℕ} {part here inner t g : Shape} {c e : Set} {old : List Waiting}
    {new : List DeclaredWaiting} (now : List DeclaredWaiting) (waits : DeclaredWaiting)
    → GoesDown action depth part old here (in_turn now) → here ≡ FunctionShape t c g e → new ≡ now ++ waits ∷ []
    → waiting_of waits ≡ Takes depth (capturing t c) (capturing g e) → inner ≡ t
    → GoesDown action depth part old inner (in_turn new)
down_takes {depth = depth} {t = t} {g = g} {c = c} {e = e} now waits goes is pushed waits_is inside =
    down_further now waits (Takes depth (capturing t c) (capturing g e)) (FunctionShape t c g e) t goes is pushed waits_is inside refl (omega arith)

-- down to the bound of type functions
pub down_bounds : {action : Action} {depth : ℕ} {part here inner b g : Shape} {e : Set} {old : List Waiting}
    {new : List DeclaredWaiting} (now : List DeclaredWaiting) (waits : DeclaredWaiting)
    → GoesDown action depth part old here (in_turn now) → here ≡ TypeFunctionShape b g e → new ≡ now ++ waits ∷ []
    → waiting_of waits ≡ Bounds depth (capturing g e) → inner ≡ b
    → GoesDown action depth part old inner (in_turn new)
down_bounds {depth = depth} {b = b} {g = g} {e = e} now waits goes is pushed waits_is inside =
    down_further now waits (Bounds depth (capturing g e)) (TypeFunctionShape b g e) b goes is pushed waits_is inside refl (omega arith)

-- down to the content of boxes
pub down_contents : {action : Action} {depth : ℕ} {part here inner t : Shape} {c : Set} {old : List Waiting}
    {new : List DeclaredWaiting} (now : List DeclaredWaiting) (waits : DeclaredWaiting)
    → GoesDown action depth part old here (in_turn now) → here ≡ BoxShape t c → new ≡ now ++ waits ∷ []
    → waiting_of waits ≡ Contents depth (capturing t c) → inner ≡ t
    → GoesDown action depth part old inner (in_turn new)
down_contents {depth = depth} {t = t} {c = c} now waits goes is pushed waits_is inside =
    down_further now waits (Contents depth (capturing t c)) (BoxShape t c) t goes is pushed waits_is inside refl (omega arith)

-- down to the values of exits
pub down_exits : {action : Action} {depth : ℕ} {part here inner g : Shape} {old : List Waiting}
    {new : List DeclaredWaiting} (now : List DeclaredWaiting) (waits : DeclaredWaiting)
    → GoesDown action depth part old here (in_turn now) → here ≡ ExitShape g → new ≡ now ++ waits ∷ []
    → waiting_of waits ≡ Exits → inner ≡ g
    → GoesDown action depth part old inner (in_turn new)
down_exits {g = g} now waits goes is pushed waits_is inside =
    down_further now waits Exits (ExitShape g) g goes is pushed waits_is inside refl (omega arith)

-- a part that has none inside it ends the way down
pub down_ends : {action : Action} {depth : ℕ} {part here leaf read : Shape} {old now : List Waiting}
    → GoesDown action depth part old here now → here ≡ leaf → turns leaf ≡ 0 → read ≡ act action depth leaf
    → Descends action depth part old now read
down_ends {action = action} {depth = depth} {now = now} goes leaf_is none is = record {
  alike = ap (all_around action now) (is ∙ ap (act action depth) (sym leaf_is)) ∙ goes.alike;
  left = let e = ap turns leaf_is ∙ none in omega (arith, e, goes.left);
}

-- the loop begins behind the way down
pub walk_begins : {action : Action} {depth : ℕ} {whole : Shape} {old : List DeclaredWaiting} {read : Shape} (new : List DeclaredWaiting)
    → old ≡ [] → Descends action depth whole (in_turn old) (in_turn new) read
    → all_around action (in_turn new) read ≡ act action depth whole
walk_begins {action = action} {depth = depth} {whole = whole} {read = read} new none goes =
    let begins : Descends action depth whole [] (in_turn new) read =
    subst (λ (ws : List DeclaredWaiting). Descends action depth whole (in_turn ws) (in_turn new) read) none goes in
    begins.alike

-- it goes on behind each turn
pub walk_goes_on : {action : Action} {answer : Shape} {now : List DeclaredWaiting} {read reads : Shape}
    (popped new : List DeclaredWaiting) (next : DeclaredWaiting)
    → all_around action (in_turn now) read ≡ answer → now ≡ popped ++ next ∷ []
    → TakesTurn action (waiting_of next ∷ in_turn popped) read (in_turn new) reads
    → all_around action (in_turn new) reads ≡ answer
walk_goes_on {action = action} {read = read} popped new next comes is turn =
    turn.alike ∙ sym (ap (λ (ws : List Waiting). all_around action ws read) (ap in_turn is ∙ in_turn-pushed popped next)) ∙ comes

-- with fewer turns left
pub walk_shortens : {action : Action} {now : List DeclaredWaiting} {read reads : Shape} (popped new : List DeclaredWaiting) (next : DeclaredWaiting)
    → now ≡ popped ++ next ∷ []
    → TakesTurn action (waiting_of next ∷ in_turn popped) read (in_turn new) reads
    → turns_left (in_turn new) < turns_left (in_turn now)
walk_shortens popped new next is turn =
    subst (λ (ws : List Waiting). turns_left (in_turn new) < turns_left ws) (sym (ap in_turn is ∙ in_turn-pushed popped next)) turn.fewer

-- and in the end nothing waits
pub walk_ends : (action : Action) {answer read : Shape} (now : List DeclaredWaiting)
    → all_around action (in_turn now) read ≡ answer → length now ≡ 0 → read ≡ answer
walk_ends action {read = read} now comes none =
    sym (ap (λ (ws : List DeclaredWaiting). all_around action (in_turn ws) read) (nil_from_length now none)) ∙ comes
