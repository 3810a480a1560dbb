-- The loop over what waits keeps what the whole becomes, and comes to its end.
use Rattle.std.proofs.Common.{◌≡◌, ℕ, ◌+◌, ◌<◌, Bool, List, [], ◌∷◌, ◌++◌, map, length, Option, Some, None}
use Rattle.std.proofs.Common.{refl, sym, ap, ◌∙◌, subst, arith}
use mathlib.Core.List.{reverse}
use Rattle.std.proofs.lemmas.List.{reverse-append, map-append, nil_from_length}
use Rattle.std.specs.Option.{option_map}
use Rattle.cc_capture.specs.Sets.{Set}
use Rattle.cc_core.specs.Shapes.{Shape, FunctionShape, TypeFunctionShape, BoxShape, CapturingType, capturing}
use Rattle.cc_checking.specs.Avoidance.{Sign, opposite, with_both, unless_free}
use Rattle.cc_avoid.specs.AvoidedTogether.{set_avoiding, names_any, shape_avoiding, type_avoiding}
use Rattle.cc_avoid.specs.Avoiding.{given_shape, given_type, given_function, given_type_function, given_box}
use Rattle.cc_avoid.specs.WaitingShapes.{Waiting, Takes, Gives, Results, Contents, waiting_of, in_turn, own_shape}
use Rattle.cc_avoid.specs.WaitingShapes.{inner_shape, avoiding_set, around, all_around, turns}
use Rattle.cc_avoid.specs.WaitingShapes.{turns_of, turns_left, IsBehind, GoesDown, Descends, TakesTurn}
use Rattle.cc_avoid.specs.declared.walking.AvoidedShape.{AvoidedShape}
use Rattle.cc_avoid.specs.declared.walking.AvoidedType.{AvoidedType}
use Rattle.cc_avoid.specs.declared.walking.Waiting.{Waiting as DeclaredWaiting}

function_parts : (c e : Set) (x y : Option Shape)
    → given_function (option_map (λ s. capturing s c) x) (option_map (λ s. capturing s e) y)
    ≡ with_both x y (λ t g. FunctionShape t c g e)
function_parts c e (Some t) (Some g) = refl
function_parts c e (Some t) None = refl
function_parts c e None y = refl

type_function_parts : (free : Bool) (bound : Shape) (e : Set) (x : Option Shape)
    → given_type_function free bound (option_map (λ s. capturing s e) x)
    ≡ unless_free free (option_map (λ g. TypeFunctionShape bound g e) x)
type_function_parts free bound e (Some g) = refl
type_function_parts free bound e None = refl

box_parts : (c : Set) (x : Option Shape)
    → given_box (option_map (λ s. capturing s c) x) ≡ option_map (λ t. BoxShape t c) x
box_parts c (Some t) = refl
box_parts c None = refl

-- what is put last waits innermost
pub in_turn-pushed : (waiting : List DeclaredWaiting) (next : DeclaredWaiting)
    → in_turn (waiting ++ next ∷ []) ≡ waiting_of next ∷ in_turn waiting
in_turn-pushed waiting next =
    ap reverse (map-append waiting_of waiting (next ∷ []))
    ∙ reverse-append (map waiting_of waiting) (waiting_of next ∷ [])

-- nothing is gone down yet
pub down_start : {positions : List (ℕ × Set)} {sign : Sign} {part : Shape} {waiting : List Waiting}
    → GoesDown positions sign part waiting sign part waiting
down_start = record { stays = λ whole answer before. before; left = refl }

down_further : {positions : List (ℕ × Set)} {sign at to : Sign} {part here inner : Shape} {old now : List Waiting} (next : Waiting)
    → GoesDown positions sign part old at here now → here ≡ own_shape next → inner ≡ inner_shape next
    → around positions next (shape_avoiding to positions (inner_shape next)) ≡ shape_avoiding at positions (own_shape next)
    → turns (inner_shape next) + turns_of next ≡ turns (own_shape next)
    → GoesDown positions sign part old to inner (next ∷ now)
down_further {positions = positions} {to = to} {now = now} next goes is inside around_is turns_are = record {
  stays =
      λ whole answer before.
      let it = goes.stays whole answer before in
      record {
        nested = (it.here ∙ is, it.nested);
        here = sym inside;
        comes =
            ap (λ s. all_around positions now (around positions next (shape_avoiding to positions s))) inside
            ∙ ap (all_around positions now) (around_is ∙ ap (shape_avoiding _ positions) (sym is)) ∙ it.comes;
      };
  left = let e = ap turns is in let f = ap turns inside in omega (arith, e, f, turns_are, goes.left);
}

-- down to what functions take
pub down_takes : {positions : List (ℕ × Set)} {sign at to : Sign} {part here inner t g : Shape} {c e : Set}
    {old : List Waiting} {new : List DeclaredWaiting} (now : List DeclaredWaiting) (next : DeclaredWaiting)
    → GoesDown positions sign part old at here (in_turn now) → here ≡ FunctionShape t c g e → new ≡ now ++ next ∷ []
    → waiting_of next ≡ Takes at (capturing t c) (capturing g e) → to ≡ opposite at → inner ≡ t
    → GoesDown positions sign part old to inner (in_turn new)
down_takes {positions = positions} {sign = sign} {at = at} {to = to} {part = part} {inner = inner} {t = t} {g = g} {c = c} {e = e} {old = old} {new = new} now next goes is pushed waits turned inside =
    let further : GoesDown positions sign part old (opposite at) inner (Takes at (capturing t c) (capturing g e) ∷ in_turn now) =
    down_further (Takes at (capturing t c) (capturing g e)) goes is inside
    (function_parts (set_avoiding (opposite at) positions c) (set_avoiding at positions e) (shape_avoiding (opposite at) positions t) (shape_avoiding at positions g))
    (omega arith) in
    let now_is = ap in_turn pushed ∙ in_turn-pushed now next ∙ ap (λ w. w ∷ in_turn now) waits in
    subst (λ (s : Sign). GoesDown positions sign part old s inner (in_turn new)) (sym turned)
    (subst (λ (ws : List Waiting). GoesDown positions sign part old (opposite at) inner ws) (sym now_is) further)

-- down to what type functions give
pub down_results : {positions : List (ℕ × Set)} {sign at : Sign} {part here inner b g : Shape} {e : Set}
    {old : List Waiting} {new : List DeclaredWaiting} (now : List DeclaredWaiting) (next : DeclaredWaiting)
    → GoesDown positions sign part old at here (in_turn now) → here ≡ TypeFunctionShape b g e → new ≡ now ++ next ∷ []
    → waiting_of next ≡ Results at b (capturing g e) → inner ≡ g
    → GoesDown positions sign part old at inner (in_turn new)
down_results {positions = positions} {sign = sign} {at = at} {part = part} {inner = inner} {b = b} {g = g} {e = e} {old = old} now next goes is pushed waits inside =
    let further : GoesDown positions sign part old at inner (Results at b (capturing g e) ∷ in_turn now) =
    down_further (Results at b (capturing g e)) goes is inside
    (type_function_parts (names_any positions b) b (set_avoiding at positions e) (shape_avoiding at positions g))
    (omega arith) in
    let now_is = ap in_turn pushed ∙ in_turn-pushed now next ∙ ap (λ w. w ∷ in_turn now) waits in
    subst (λ (ws : List Waiting). GoesDown positions sign part old at inner ws) (sym now_is) further

-- down to the content of boxes
pub down_contents : {positions : List (ℕ × Set)} {sign at : Sign} {part here inner t : Shape} {c : Set}
    {old : List Waiting} {new : List DeclaredWaiting} (now : List DeclaredWaiting) (next : DeclaredWaiting)
    → GoesDown positions sign part old at here (in_turn now) → here ≡ BoxShape t c → new ≡ now ++ next ∷ []
    → waiting_of next ≡ Contents at (capturing t c) → inner ≡ t
    → GoesDown positions sign part old at inner (in_turn new)
down_contents {positions = positions} {sign = sign} {at = at} {part = part} {inner = inner} {t = t} {c = c} {old = old} now next goes is pushed waits inside =
    let further : GoesDown positions sign part old at inner (Contents at (capturing t c) ∷ in_turn now) =
    down_further (Contents at (capturing t c)) goes is inside
    (box_parts (set_avoiding at positions c) (shape_avoiding at positions t))
    (omega arith) in
    let now_is = ap in_turn pushed ∙ in_turn-pushed now next ∙ ap (λ w. w ∷ in_turn now) waits in
    subst (λ (ws : List Waiting). GoesDown positions sign part old at inner ws) (sym now_is) further

-- a part that has none inside it ends the way down
pub down_ends : {positions : List (ℕ × Set)} {sign at : Sign} {part here leaf : Shape} {old now : List Waiting} {became : AvoidedShape}
    → GoesDown positions sign part old at here now → here ≡ leaf → turns leaf ≡ 0
    → given_shape leaf became ≡ shape_avoiding at positions leaf
    → Descends positions sign part old now became
down_ends {positions = positions} {at = at} {now = now} {became = became} goes leaf_is none is = record {
  stays =
      λ whole answer before.
      let it = goes.stays whole answer before in
      record {
        nested = it.nested;
        comes =
            ap (λ s. all_around positions now (given_shape s became)) (it.here ∙ leaf_is)
            ∙ ap (all_around positions now) (is ∙ ap (shape_avoiding at positions) (sym leaf_is)) ∙ it.comes;
      };
  left = let e = ap turns leaf_is ∙ none in omega (arith, e, goes.left);
}

-- what a type became, of what its shape became, is so of the type that it is one with
same_type : {type same : CapturingType} (positions : List (ℕ × Set)) (at : Sign) (became : AvoidedShape) (given : AvoidedType)
    → type ≡ same → given_type type given ≡ avoiding_set at positions type.set (given_shape type.shape became)
    → given_type same given ≡ avoiding_set at positions same.set (given_shape same.shape became)
same_type positions at became given is became_is =
    subst (λ (t : CapturingType). given_type t given ≡ avoiding_set at positions t.set (given_shape t.shape became)) is became_is

-- what functions take is known, and what they give is gone over
pub turn_takes : {positions : List (ℕ × Set)} {next : Waiting} {at to : Sign} {t g type : CapturingType} {inner : Shape}
    {pushed : List DeclaredWaiting} {new : List Waiting} {became becomes : AvoidedShape}
    (old : List DeclaredWaiting) (waits : DeclaredWaiting) (taken : AvoidedType)
    → next ≡ Takes at t g → to ≡ opposite at → type ≡ t
    → given_type type taken ≡ avoiding_set to positions type.set (given_shape type.shape became)
    → pushed ≡ old ++ waits ∷ [] → waiting_of waits ≡ Gives at t g (given_type t taken) → inner ≡ g.shape
    → Descends positions at inner (in_turn pushed) new becomes
    → TakesTurn positions (next ∷ in_turn old) became new becomes
turn_takes {positions = positions} {next = next} {at = at} {to = to} {t = t} {g = g} {type = type} {inner = inner} {pushed = pushed} {new = new} {became = became} {becomes = becomes} old waits taken next_is turned type_is taken_is pushed_is waits_is inside goes =
    let known : given_type t taken ≡ avoiding_set (opposite at) positions t.set (given_shape t.shape became) =
    same_type positions (opposite at) became taken type_is (subst (λ (s : Sign). given_type type taken ≡ avoiding_set s positions type.set (given_shape type.shape became)) turned taken_is) in
    let now_is : in_turn pushed ≡ Gives at t g (given_type t taken) ∷ in_turn old =
    ap in_turn pushed_is ∙ in_turn-pushed old waits ∙ ap (λ w. w ∷ in_turn old) waits_is in
    let at_shape : Descends positions at g.shape (in_turn pushed) new becomes =
    subst (λ (s : Shape). Descends positions at s (in_turn pushed) new becomes) inside goes in
    let gone : Descends positions at g.shape (Gives at t g (given_type t taken) ∷ in_turn old) new becomes =
    subst (λ (ws : List Waiting). Descends positions at g.shape ws new becomes) now_is at_shape in
    subst (λ (w : Waiting). TakesTurn positions (w ∷ in_turn old) became new becomes) (sym next_is) (record {
      stays =
          λ whole answer behind.
          gone.stays whole answer (record {
            nested = behind.nested;
            here = refl;
            comes =
                ap (λ o. all_around positions (in_turn old) (given_function o (type_avoiding at positions g))) known
                ∙ behind.comes;
          });
      fewer = omega (arith, gone.left);
    })

-- the shape that waits is gone over
turn_over : {positions : List (ℕ × Set)} {old : List Waiting} {became becomes : AvoidedShape} {next : Waiting} (known : Waiting)
    → next ≡ known → 0 < turns_of known
    → given_shape (own_shape known) becomes ≡ around positions known (given_shape (inner_shape known) became)
    → TakesTurn positions (next ∷ old) became old becomes
turn_over {positions = positions} {old = old} {became = became} {becomes = becomes} known next_is some is =
    subst (λ (w : Waiting). TakesTurn positions (w ∷ old) became old becomes) (sym next_is) (record {
      stays =
          λ whole answer behind.
          record {
            nested = behind.nested.1;
            comes =
                ap (λ s. all_around positions old (given_shape s becomes)) behind.nested.0
                ∙ ap (all_around positions old) is ∙ behind.comes;
          };
      fewer = omega (arith, some);
    })

pub turn_gives : {positions : List (ℕ × Set)} {next : Waiting} {at : Sign} {t g type : CapturingType} {taken : Option CapturingType}
    {old : List Waiting} {became becomes : AvoidedShape} (given : AvoidedType)
    → next ≡ Gives at t g taken → type ≡ g
    → given_type type given ≡ avoiding_set at positions type.set (given_shape type.shape became)
    → given_shape (FunctionShape t.shape t.set g.shape g.set) becomes ≡ given_function taken (given_type g given)
    → TakesTurn positions (next ∷ old) became old becomes
turn_gives {positions = positions} {at = at} {t = t} {g = g} {taken = taken} {became = became} given next_is type_is given_is is =
    turn_over (Gives at t g taken) next_is (omega arith) (is ∙ ap (given_function taken) (same_type positions at became given type_is given_is))

pub turn_results : {positions : List (ℕ × Set)} {next : Waiting} {at : Sign} {b : Shape} {g type : CapturingType}
    {old : List Waiting} {became becomes : AvoidedShape} (given : AvoidedType)
    → next ≡ Results at b g → type ≡ g
    → given_type type given ≡ avoiding_set at positions type.set (given_shape type.shape became)
    → given_shape (TypeFunctionShape b g.shape g.set) becomes ≡ given_type_function (names_any positions b) b (given_type g given)
    → TakesTurn positions (next ∷ old) became old becomes
turn_results {positions = positions} {at = at} {b = b} {g = g} {became = became} given next_is type_is given_is is =
    turn_over (Results at b g) next_is (omega arith)
    (is ∙ ap (given_type_function (names_any positions b) b) (same_type positions at became given type_is given_is))

pub turn_contents : {positions : List (ℕ × Set)} {next : Waiting} {at : Sign} {t type : CapturingType}
    {old : List Waiting} {became becomes : AvoidedShape} (inside : AvoidedType)
    → next ≡ Contents at t → type ≡ t
    → given_type type inside ≡ avoiding_set at positions type.set (given_shape type.shape became)
    → given_shape (BoxShape t.shape t.set) becomes ≡ given_box (given_type t inside)
    → TakesTurn positions (next ∷ old) became old becomes
turn_contents {positions = positions} {at = at} {t = t} {became = became} inside next_is type_is inside_is is =
    turn_over (Contents at t) next_is (omega arith) (is ∙ ap given_box (same_type positions at became inside type_is inside_is))

-- the loop begins behind the way down
pub walk_begins : {positions : List (ℕ × Set)} {sign : Sign} {whole : Shape} {old : List DeclaredWaiting} {became : AvoidedShape} (new : List DeclaredWaiting)
    → old ≡ [] → Descends positions sign whole (in_turn old) (in_turn new) became
    → IsBehind positions whole (shape_avoiding sign positions whole) (in_turn new) became
walk_begins {positions = positions} {sign = sign} {whole = whole} {became = became} new none goes =
    let begins : Descends positions sign whole [] (in_turn new) became =
    subst (λ (ws : List DeclaredWaiting). Descends positions sign whole (in_turn ws) (in_turn new) became) none goes in
    begins.stays whole (shape_avoiding sign positions whole) (record { nested = tt; here = refl; comes = refl })

-- it goes on behind each turn
pub walk_goes_on : {positions : List (ℕ × Set)} {whole : Shape} {answer : Option Shape} {now : List DeclaredWaiting}
    {became becomes : AvoidedShape} (popped new : List DeclaredWaiting) (next : DeclaredWaiting)
    → IsBehind positions whole answer (in_turn now) became → now ≡ popped ++ next ∷ []
    → TakesTurn positions (waiting_of next ∷ in_turn popped) became (in_turn new) becomes
    → IsBehind positions whole answer (in_turn new) becomes
walk_goes_on {positions = positions} {whole = whole} {answer = answer} {became = became} popped new next behind is turn =
    turn.stays whole answer
    (subst (λ (ws : List Waiting). IsBehind positions whole answer ws became) (ap in_turn is ∙ in_turn-pushed popped next) behind)

-- with fewer turns left
pub walk_shortens : {positions : List (ℕ × Set)} {now : List DeclaredWaiting} {became becomes : AvoidedShape} (popped new : List DeclaredWaiting) (next : DeclaredWaiting)
    → now ≡ popped ++ next ∷ []
    → TakesTurn positions (waiting_of next ∷ in_turn popped) became (in_turn new) becomes
    → turns_left (in_turn new) < turns_left (in_turn now)
walk_shortens popped new next is turn =
    subst (λ (ws : List Waiting). turns_left (in_turn new) < turns_left ws) (sym (ap in_turn is ∙ in_turn-pushed popped next)) turn.fewer

-- and in the end nothing waits
pub walk_ends : {positions : List (ℕ × Set)} {whole : Shape} {answer : Option Shape} {became : AvoidedShape} (now : List DeclaredWaiting)
    → IsBehind positions whole answer (in_turn now) became → length now ≡ 0 → given_shape whole became ≡ answer
walk_ends {positions = positions} {whole = whole} {answer = answer} {became = became} now behind none =
    let ended : IsBehind positions whole answer [] became =
    subst (λ (ws : List DeclaredWaiting). IsBehind positions whole answer (in_turn ws) became) (nil_from_length now none) behind in
    ended.comes
