-- The loop over what waits comes to what is found for the whole.
use Rattle.std.proofs.Common.{◌≡◌, ◌+◌, ◌<◌, List, [], ◌∷◌, ◌++◌, length, Some}
use Rattle.std.proofs.Common.{refl, sym, ap, ◌∙◌, subst, arith}
use Rattle.std.proofs.lemmas.List.{reverse-append, nil_from_length}
use Rattle.std.proofs.lemmas.Option.{some_pair_parts}
use Rattle.cc_core.specs.Terms.{Term, FunctionTerm, TypeFunctionTerm, Let, Conditional, Boundary}
use Rattle.cc_validity.specs.Captures.{body_in, parts_in}
use Rattle.cc_validity.specs.Gathering.{IsFound, in_turn, own_term, AwaitsPart, AreNested, turns, turns_of, turns_left}
use Rattle.cc_validity.specs.Gathering.{IsBehind, GoesDown, Descends, TakesTurn}
use Rattle.cc_validity.specs.declared.captures.Found.{Found}
use Rattle.cc_validity.specs.declared.captures.Waiting.{Waiting}

-- what is put last waits innermost
in_turn-pushed : (waiting : List Waiting) (next : Waiting) → in_turn (waiting ++ next ∷ []) ≡ next ∷ in_turn waiting
in_turn-pushed waiting next = reverse-append waiting (next ∷ [])

-- nothing is gone down yet
pub down_start : {part : Term} {waiting : List Waiting} → GoesDown part waiting part waiting
down_start = record { stays = λ whole nested. nested; left = omega arith }

-- one step further down, to the part that is waited for
down_further : {part here inner : Term} {old : List Waiting} {new : List Waiting} (now : List Waiting) (next : Waiting)
    → new ≡ now ++ next ∷ [] → GoesDown part old here (in_turn now) → own_term next ≡ here
    → AwaitsPart next inner → turns inner + turns_of next ≡ turns here
    → GoesDown part old inner (in_turn new)
down_further {part = part} {inner = inner} {old = old} now next pushed goes own awaits turns_are =
    let now_is = ap in_turn pushed ∙ in_turn-pushed now next in
    let further : GoesDown part old inner (next ∷ in_turn now) =
    record {
      stays = λ whole nested. (awaits, subst (λ (t : Term). AreNested whole (in_turn now) t) (sym own) (goes.stays whole nested));
      left = omega (arith, goes.left, turns_are);
    } in
    subst (λ (ws : List Waiting). GoesDown part old inner ws) (sym now_is) further

turns_body : (term inner : Term) → body_in term ≡ Some inner → turns inner + 1 ≡ turns term
turns_body (FunctionTerm takes c body) inner e = let same : body ≡ inner = cc in let equal = ap turns same in omega (arith, equal)
turns_body (TypeFunctionTerm bound body) inner e = let same : body ≡ inner = cc in let equal = ap turns same in omega (arith, equal)
turns_body (Boundary gives body) inner e = let same : body ≡ inner = cc in let equal = ap turns same in omega (arith, equal)
turns_body _ inner e = cc

turns_parts : (term first second : Term) → parts_in term ≡ Some (first, second) → turns first + (2 + turns second) ≡ turns term
turns_parts (Let note right body) first second e =
    let same = some_pair_parts right first body second e in let one = ap turns same.0 in let other = ap turns same.1 in omega (arith, one, other)
turns_parts (Conditional note test positive negative) first second e =
    let same = some_pair_parts positive first negative second e in let one = ap turns same.0 in let other = ap turns same.1 in omega (arith, one, other)
turns_parts _ first second e = cc

-- down to a body
pub down_body : {part here inner : Term} {old : List Waiting} {new : List Waiting} (now : List Waiting) (next : Waiting)
    → new ≡ now ++ next ∷ [] → GoesDown part old here (in_turn now) → own_term next ≡ here → turns_of next ≡ 1
    → AwaitsPart next inner → body_in here ≡ Some inner
    → GoesDown part old inner (in_turn new)
down_body {here = here} {inner = inner} now next pushed goes own waits_one awaits is =
    let equal : turns inner + 1 ≡ turns here = turns_body here inner is in
    down_further now next pushed goes own awaits (omega (arith, equal, waits_one))

-- down to a first part
pub down_first : {part here inner second : Term} {old : List Waiting} {new : List Waiting} (now : List Waiting) (next : Waiting)
    → new ≡ now ++ next ∷ [] → GoesDown part old here (in_turn now) → own_term next ≡ here → turns_of next ≡ 2 + turns second
    → AwaitsPart next inner → parts_in here ≡ Some (inner, second)
    → GoesDown part old inner (in_turn new)
down_first {here = here} {inner = inner} {second = second} now next pushed goes own waits_more awaits is =
    let equal : turns inner + (2 + turns second) ≡ turns here = turns_parts here inner second is in
    down_further now next pushed goes own awaits (omega (arith, equal, waits_more))

-- the way down ends
pub down_ends : {part here : Term} {old now : List Waiting} {found : Found}
    → GoesDown part old here now → IsFound found here → Descends part old now found
down_ends {here = here} goes is = record {
  stays = λ whole nested. record { part = here; nested = goes.stays whole nested; is = is };
  left = omega (arith, goes.left);
}

-- the loop begins behind the way down
pub walk_begins : {whole : Term} {old : List Waiting} {found : Found} (new : List Waiting)
    → old ≡ [] → Descends whole (in_turn old) (in_turn new) found → IsBehind whole (in_turn new) found
walk_begins {whole = whole} {found = found} new none goes =
    let begins : Descends whole [] (in_turn new) found =
    subst (λ (ws : List Waiting). Descends whole (in_turn ws) (in_turn new) found) none goes in
    begins.stays whole refl

-- it goes on behind each turn
pub walk_goes_on : {whole : Term} {now : List Waiting} {found finds : Found} (popped new : List Waiting) (next : Waiting)
    → IsBehind whole (in_turn now) found → now ≡ popped ++ next ∷ []
    → TakesTurn (next ∷ in_turn popped) found (in_turn new) finds
    → IsBehind whole (in_turn new) finds
walk_goes_on {whole = whole} {found = found} popped new next behind is turn =
    turn.stays whole (subst (λ (ws : List Waiting). IsBehind whole ws found) (ap in_turn is ∙ in_turn-pushed popped next) behind)

-- with fewer turns left
pub walk_shortens : {now : List Waiting} {found finds : Found} (popped new : List Waiting) (next : Waiting)
    → now ≡ popped ++ next ∷ [] → TakesTurn (next ∷ in_turn popped) found (in_turn new) finds
    → turns_left (in_turn new) < turns_left (in_turn now)
walk_shortens popped new next is turn =
    subst (λ (ws : List Waiting). turns_left (in_turn new) < turns_left ws) (sym (ap in_turn is ∙ in_turn-pushed popped next)) turn.fewer

-- and in the end nothing waits
pub walk_ends : {whole : Term} {found : Found} (now : List Waiting)
    → IsBehind whole (in_turn now) found → length now ≡ 0 → IsFound found whole
walk_ends {whole = whole} {found = found} now behind none =
    let ended : IsBehind whole [] found =
    subst (λ (ws : List Waiting). IsBehind whole (in_turn ws) found) (nil_from_length now none) behind in
    subst (λ (t : Term). IsFound found t) ended.nested ended.is

-- what is found for a term of which it is known what it is, of what is found for its parts
pub found_parts : (first second finds : Found) {right body : Term} (term : Term) → parts_in term ≡ Some (right, body)
    → (IsFound first right → IsFound second body → IsFound finds term)
    → (one other : Term) → parts_in term ≡ Some (one, other) → IsFound first one → IsFound second other
    → IsFound finds term
found_parts first second finds {right = right} {body = body} term is told one other parts own inner =
    let same = some_pair_parts right one body other (sym is ∙ parts) in
    told (subst (λ (t : Term). IsFound first t) (sym same.0) own) (subst (λ (t : Term). IsFound second t) (sym same.1) inner)
