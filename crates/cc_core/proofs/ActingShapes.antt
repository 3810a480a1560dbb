-- The loop over what waits keeps what the whole becomes, and comes to its end.
use Rattle.std.proofs.Common.{◌≡◌, ℕ, suc, ◌+◌, ◌<◌, List, [], ◌∷◌, ◌++◌, map, length}
use Rattle.std.proofs.Common.{refl, sym, ap, ◌∙◌, subst, arith}
use mathlib.Core.List.{reverse}
use Rattle.std.proofs.lemmas.List.{reverse-append, map-append, nil_from_length}
use Rattle.cc_capture.specs.Sets.{Set}
use Rattle.cc_core.specs.Shapes.{Shape, FunctionShape, TypeFunctionShape, BoxShape, ExitShape, CapturingType, capturing}
use Rattle.cc_core.specs.Traversal.{Action, act_set, act}
use Rattle.cc_core.specs.Changes.{became_shape, became_type}
use Rattle.cc_core.specs.ActingShapes.{Waiting, Takes, Gives, Bounds, Results, Contents, Exits, waiting_of, in_turn}
use Rattle.cc_core.specs.ActingShapes.{own_shape, inner_shape, around, all_around, turns, turns_of, turns_left}
use Rattle.cc_core.specs.ActingShapes.{IsBehind, GoesDown, Descends, TakesTurn}
use Rattle.cc_core.specs.declared.acting.ActedShape.{ActedShape}
use Rattle.cc_core.specs.declared.acting.ActedType.{ActedType}
use Rattle.cc_core.specs.declared.acting.Waiting.{Waiting as DeclaredWaiting}

-- what is put last waits innermost
pub in_turn-pushed : (waiting : List DeclaredWaiting) (next : DeclaredWaiting)
    → in_turn (waiting ++ next ∷ []) ≡ waiting_of next ∷ in_turn waiting
in_turn-pushed waiting next =
    ap reverse (map-append waiting_of waiting (next ∷ []))
    ∙ reverse-append (map waiting_of waiting) (waiting_of next ∷ [])

-- nothing is gone down yet
pub down_start : {action : Action} {depth : ℕ} {part : Shape} {waiting : List Waiting}
    → GoesDown action depth part waiting part waiting
down_start = record { stays = λ whole answer before. before; left = refl }

down_further : {action : Action} {depth : ℕ} {part here inner : Shape} {old : List Waiting} {new : List DeclaredWaiting}
    (now : List DeclaredWaiting) (waits : DeclaredWaiting) (next : Waiting)
    → GoesDown action depth part old here (in_turn now) → here ≡ own_shape next → new ≡ now ++ waits ∷ []
    → waiting_of waits ≡ next → inner ≡ inner_shape next
    → around action next (act action depth (inner_shape next)) ≡ act action depth (own_shape next)
    → turns (inner_shape next) + turns_of next ≡ turns (own_shape next)
    → GoesDown action depth part old inner (in_turn new)
down_further {action = action} {depth = depth} {part = part} {inner = inner} {old = old} now waits next goes is pushed waits_is inside around_is turns_are =
    let now_is = ap in_turn pushed ∙ in_turn-pushed now waits ∙ ap (λ w. w ∷ in_turn now) waits_is in
    let further : GoesDown action depth part old inner (next ∷ in_turn now) =
    record {
      stays =
          λ whole answer before.
          let it = goes.stays whole answer before in
          record {
            nested = (it.here ∙ is, it.nested);
            here = sym inside;
            comes =
                ap (λ s. all_around action (in_turn now) (around action next (act action depth s))) inside
                ∙ ap (all_around action (in_turn now)) (around_is ∙ ap (act action depth) (sym is)) ∙ it.comes;
          };
      left = let e = ap turns is in let f = ap turns inside in omega (arith, e, f, turns_are, goes.left);
    } in
    subst (λ (ws : List Waiting). GoesDown action depth part old inner ws) (sym now_is) further

-- down to what functions take
pub down_takes : {action : Action} {depth : ℕ} {part here inner t g : Shape} {c e : Set} {old : List Waiting}
    {new : List DeclaredWaiting} (now : List DeclaredWaiting) (waits : DeclaredWaiting)
    → GoesDown action depth part old here (in_turn now) → here ≡ FunctionShape t c g e → new ≡ now ++ waits ∷ []
    → waiting_of waits ≡ Takes depth (capturing t c) (capturing g e) → inner ≡ t
    → GoesDown action depth part old inner (in_turn new)
down_takes {depth = depth} {t = t} {g = g} {c = c} {e = e} now waits goes is pushed waits_is inside =
    down_further now waits (Takes depth (capturing t c) (capturing g e)) goes is pushed waits_is inside refl (omega arith)

-- down to the bound of type functions
pub down_bounds : {action : Action} {depth : ℕ} {part here inner b g : Shape} {e : Set} {old : List Waiting}
    {new : List DeclaredWaiting} (now : List DeclaredWaiting) (waits : DeclaredWaiting)
    → GoesDown action depth part old here (in_turn now) → here ≡ TypeFunctionShape b g e → new ≡ now ++ waits ∷ []
    → waiting_of waits ≡ Bounds depth b (capturing g e) → inner ≡ b
    → GoesDown action depth part old inner (in_turn new)
down_bounds {depth = depth} {b = b} {g = g} {e = e} now waits goes is pushed waits_is inside =
    down_further now waits (Bounds depth b (capturing g e)) goes is pushed waits_is inside refl (omega arith)

-- down to the content of boxes
pub down_contents : {action : Action} {depth : ℕ} {part here inner t : Shape} {c : Set} {old : List Waiting}
    {new : List DeclaredWaiting} (now : List DeclaredWaiting) (waits : DeclaredWaiting)
    → GoesDown action depth part old here (in_turn now) → here ≡ BoxShape t c → new ≡ now ++ waits ∷ []
    → waiting_of waits ≡ Contents depth (capturing t c) → inner ≡ t
    → GoesDown action depth part old inner (in_turn new)
down_contents {depth = depth} {t = t} {c = c} now waits goes is pushed waits_is inside =
    down_further now waits (Contents depth (capturing t c)) goes is pushed waits_is inside refl (omega arith)

-- down to the values of exits
pub down_exits : {action : Action} {depth : ℕ} {part here inner g : Shape} {old : List Waiting}
    {new : List DeclaredWaiting} (now : List DeclaredWaiting) (waits : DeclaredWaiting)
    → GoesDown action depth part old here (in_turn now) → here ≡ ExitShape g → new ≡ now ++ waits ∷ []
    → waiting_of waits ≡ Exits g → inner ≡ g
    → GoesDown action depth part old inner (in_turn new)
down_exits {g = g} now waits goes is pushed waits_is inside =
    down_further now waits (Exits g) goes is pushed waits_is inside refl (omega arith)

-- a part that has none inside it ends the way down
pub down_ends : {action : Action} {depth : ℕ} {part here leaf : Shape} {old now : List Waiting} {became : ActedShape}
    → GoesDown action depth part old here now → here ≡ leaf → turns leaf ≡ 0
    → became_shape leaf became ≡ act action depth leaf
    → Descends action depth part old now became
down_ends {action = action} {depth = depth} {now = now} {became = became} goes leaf_is none is = record {
  stays =
      λ whole answer before.
      let it = goes.stays whole answer before in
      record {
        nested = it.nested;
        comes =
            ap (λ s. all_around action now (became_shape s became)) (it.here ∙ leaf_is)
            ∙ ap (all_around action now) (is ∙ ap (act action depth) (sym leaf_is)) ∙ it.comes;
      };
  left = let e = ap turns leaf_is ∙ none in omega (arith, e, goes.left);
}

-- what a type became, of what its shape became, is so of the type that it is one with
same_type : {type same : CapturingType} (action : Action) (depth : ℕ) (became : ActedShape) (given : ActedType)
    → type ≡ same → became_type type given ≡ capturing (became_shape type.shape became) (act_set action depth type.set)
    → became_type same given ≡ capturing (became_shape same.shape became) (act_set action depth same.set)
same_type action depth became given is became_is =
    subst (λ (t : CapturingType). became_type t given ≡ capturing (became_shape t.shape became) (act_set action depth t.set)) is became_is

-- something else waits now, for a part that is gone over
turn_on : {action : Action} {next : Waiting} {below : ℕ} {inner : Shape} {pushed : List DeclaredWaiting} {new : List Waiting}
    {became becomes : ActedShape} (old : List DeclaredWaiting) (waits : DeclaredWaiting) (known later : Waiting)
    → next ≡ known → pushed ≡ old ++ waits ∷ [] → waiting_of waits ≡ later → own_shape known ≡ own_shape later
    → inner ≡ inner_shape later
    → around action later (act action below (inner_shape later))
    ≡ around action known (became_shape (inner_shape known) became)
    → turns (inner_shape later) + turns_of later < turns_of known
    → Descends action below inner (in_turn pushed) new becomes
    → TakesTurn action (next ∷ in_turn old) became new becomes
turn_on {action = action} {below = below} {inner = inner} {pushed = pushed} {new = new} {became = became} {becomes = becomes} old waits known later next_is pushed_is waits_is own_is inside around_is fewer goes =
    let now_is : in_turn pushed ≡ later ∷ in_turn old =
    ap in_turn pushed_is ∙ in_turn-pushed old waits ∙ ap (λ w. w ∷ in_turn old) waits_is in
    let at_shape : Descends action below (inner_shape later) (in_turn pushed) new becomes =
    subst (λ (s : Shape). Descends action below s (in_turn pushed) new becomes) inside goes in
    let gone : Descends action below (inner_shape later) (later ∷ in_turn old) new becomes =
    subst (λ (ws : List Waiting). Descends action below (inner_shape later) ws new becomes) now_is at_shape in
    subst (λ (w : Waiting). TakesTurn action (w ∷ in_turn old) became new becomes) (sym next_is) (record {
      stays =
          λ whole answer behind.
          gone.stays whole answer (record {
            nested = (behind.nested.0 ∙ own_is, behind.nested.1);
            here = refl;
            comes = ap (all_around action (in_turn old)) around_is ∙ behind.comes;
          });
      fewer = omega (arith, gone.left, fewer);
    })

-- what functions take is known, and what they give is gone over
pub turn_takes : {action : Action} {next : Waiting} {depth below : ℕ} {t g type : CapturingType} {inner : Shape}
    {pushed : List DeclaredWaiting} {new : List Waiting} {became becomes : ActedShape}
    (old : List DeclaredWaiting) (waits : DeclaredWaiting) (taken : ActedType)
    → next ≡ Takes depth t g → below ≡ depth + 1 → type ≡ t
    → became_type type taken ≡ capturing (became_shape type.shape became) (act_set action depth type.set)
    → pushed ≡ old ++ waits ∷ [] → waiting_of waits ≡ Gives below t g (became_type t taken) → inner ≡ g.shape
    → Descends action below inner (in_turn pushed) new becomes
    → TakesTurn action (next ∷ in_turn old) became new becomes
turn_takes {action = action} {depth = depth} {below = below} {t = t} {g = g} {became = became} old waits taken next_is below_is type_is taken_is pushed_is waits_is inside goes =
    let under : below ≡ suc depth = omega (arith, below_is) in
    let known : became_type t taken ≡ capturing (became_shape t.shape became) (act_set action depth t.set) =
    same_type action depth became taken type_is taken_is in
    turn_on old waits (Takes depth t g) (Gives below t g (became_type t taken)) next_is pushed_is waits_is refl inside
    (λ i. FunctionShape (known i).shape (known i).set (act action (under i) g.shape) (act_set action (under i) g.set))
    (omega arith) goes

-- the bound of type functions is known, and what they give is gone over
pub turn_bounds : {action : Action} {next : Waiting} {depth below : ℕ} {b : Shape} {g : CapturingType} {inner : Shape}
    {pushed : List DeclaredWaiting} {new : List Waiting} {became becomes : ActedShape}
    (old : List DeclaredWaiting) (waits : DeclaredWaiting)
    → next ≡ Bounds depth b g → below ≡ depth + 1
    → pushed ≡ old ++ waits ∷ [] → waiting_of waits ≡ Results below b g (became_shape b became) → inner ≡ g.shape
    → Descends action below inner (in_turn pushed) new becomes
    → TakesTurn action (next ∷ in_turn old) became new becomes
turn_bounds {action = action} {depth = depth} {below = below} {b = b} {g = g} {became = became} old waits next_is below_is pushed_is waits_is inside goes =
    let under : below ≡ suc depth = omega (arith, below_is) in
    turn_on old waits (Bounds depth b g) (Results below b g (became_shape b became)) next_is pushed_is waits_is refl inside
    (λ i. TypeFunctionShape (became_shape b became) (act action (under i) g.shape) (act_set action (under i) g.set))
    (omega arith) goes

-- the shape that waits is gone over
turn_over : {action : Action} {old : List Waiting} {became becomes : ActedShape} {next : Waiting} (known : Waiting)
    → next ≡ known → 0 < turns_of known
    → became_shape (own_shape known) becomes ≡ around action known (became_shape (inner_shape known) became)
    → TakesTurn action (next ∷ old) became old becomes
turn_over {action = action} {old = old} {became = became} {becomes = becomes} known next_is some is =
    subst (λ (w : Waiting). TakesTurn action (w ∷ old) became old becomes) (sym next_is) (record {
      stays =
          λ whole answer behind.
          record {
            nested = behind.nested.1;
            comes =
                ap (λ s. all_around action old (became_shape s becomes)) behind.nested.0
                ∙ ap (all_around action old) is ∙ behind.comes;
          };
      fewer = omega (arith, some);
    })

pub turn_gives : {action : Action} {next : Waiting} {depth : ℕ} {t g type taken : CapturingType}
    {old : List Waiting} {became becomes : ActedShape} (given : ActedType)
    → next ≡ Gives depth t g taken → type ≡ g
    → became_type type given ≡ capturing (became_shape type.shape became) (act_set action depth type.set)
    → became_shape (FunctionShape t.shape t.set g.shape g.set) becomes
    ≡ FunctionShape taken.shape taken.set (became_type g given).shape (became_type g given).set
    → TakesTurn action (next ∷ old) became old becomes
turn_gives {action = action} {depth = depth} {t = t} {g = g} {taken = taken} {became = became} given next_is type_is given_is is =
    turn_over (Gives depth t g taken) next_is (omega arith)
    (is ∙ ap (λ (x : CapturingType). FunctionShape taken.shape taken.set x.shape x.set) (same_type action depth became given type_is given_is))

pub turn_results : {action : Action} {next : Waiting} {depth : ℕ} {b limit : Shape} {g type : CapturingType}
    {old : List Waiting} {became becomes : ActedShape} (given : ActedType)
    → next ≡ Results depth b g limit → type ≡ g
    → became_type type given ≡ capturing (became_shape type.shape became) (act_set action depth type.set)
    → became_shape (TypeFunctionShape b g.shape g.set) becomes
    ≡ TypeFunctionShape limit (became_type g given).shape (became_type g given).set
    → TakesTurn action (next ∷ old) became old becomes
turn_results {action = action} {depth = depth} {b = b} {limit = limit} {g = g} {became = became} given next_is type_is given_is is =
    turn_over (Results depth b g limit) next_is (omega arith)
    (is ∙ ap (λ (x : CapturingType). TypeFunctionShape limit x.shape x.set) (same_type action depth became given type_is given_is))

pub turn_contents : {action : Action} {next : Waiting} {depth : ℕ} {t type : CapturingType}
    {old : List Waiting} {became becomes : ActedShape} (inside : ActedType)
    → next ≡ Contents depth t → type ≡ t
    → became_type type inside ≡ capturing (became_shape type.shape became) (act_set action depth type.set)
    → became_shape (BoxShape t.shape t.set) becomes
    ≡ BoxShape (became_type t inside).shape (became_type t inside).set
    → TakesTurn action (next ∷ old) became old becomes
turn_contents {action = action} {depth = depth} {t = t} {became = became} inside next_is type_is inside_is is =
    turn_over (Contents depth t) next_is (omega arith)
    (is ∙ ap (λ (x : CapturingType). BoxShape x.shape x.set) (same_type action depth became inside type_is inside_is))

pub turn_exits : {action : Action} {next : Waiting} {g : Shape} {old : List Waiting} {became becomes : ActedShape}
    → next ≡ Exits g → became_shape (ExitShape g) becomes ≡ ExitShape (became_shape g became)
    → TakesTurn action (next ∷ old) became old becomes
turn_exits {g = g} next_is is = turn_over (Exits g) next_is (omega arith) is

-- the loop begins behind the way down
pub walk_begins : {action : Action} {depth : ℕ} {whole : Shape} {old : List DeclaredWaiting} {became : ActedShape} (new : List DeclaredWaiting)
    → old ≡ [] → Descends action depth whole (in_turn old) (in_turn new) became
    → IsBehind action whole (act action depth whole) (in_turn new) became
walk_begins {action = action} {depth = depth} {whole = whole} {became = became} new none goes =
    let begins : Descends action depth whole [] (in_turn new) became =
    subst (λ (ws : List DeclaredWaiting). Descends action depth whole (in_turn ws) (in_turn new) became) none goes in
    begins.stays whole (act action depth whole) (record { nested = tt; here = refl; comes = refl })

-- it goes on behind each turn
pub walk_goes_on : {action : Action} {whole answer : Shape} {now : List DeclaredWaiting}
    {became becomes : ActedShape} (popped new : List DeclaredWaiting) (next : DeclaredWaiting)
    → IsBehind action whole answer (in_turn now) became → now ≡ popped ++ next ∷ []
    → TakesTurn action (waiting_of next ∷ in_turn popped) became (in_turn new) becomes
    → IsBehind action whole answer (in_turn new) becomes
walk_goes_on {action = action} {whole = whole} {answer = answer} {became = became} popped new next behind is turn =
    turn.stays whole answer
    (subst (λ (ws : List Waiting). IsBehind action whole answer ws became) (ap in_turn is ∙ in_turn-pushed popped next) behind)

-- with fewer turns left
pub walk_shortens : {action : Action} {now : List DeclaredWaiting} {became becomes : ActedShape} (popped new : List DeclaredWaiting) (next : DeclaredWaiting)
    → now ≡ popped ++ next ∷ []
    → TakesTurn action (waiting_of next ∷ in_turn popped) became (in_turn new) becomes
    → turns_left (in_turn new) < turns_left (in_turn now)
walk_shortens popped new next is turn =
    subst (λ (ws : List Waiting). turns_left (in_turn new) < turns_left ws) (sym (ap in_turn is ∙ in_turn-pushed popped next)) turn.fewer

-- and in the end nothing waits
pub walk_ends : {action : Action} {whole answer : Shape} {became : ActedShape} (now : List DeclaredWaiting)
    → IsBehind action whole answer (in_turn now) became → length now ≡ 0 → became_shape whole became ≡ answer
walk_ends {action = action} {whole = whole} {answer = answer} {became = became} now behind none =
    let ended : IsBehind action whole answer [] became =
    subst (λ (ws : List DeclaredWaiting). IsBehind action whole answer (in_turn ws) became) (nil_from_length now none) behind in
    ended.comes
