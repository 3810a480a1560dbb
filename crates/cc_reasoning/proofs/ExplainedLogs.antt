-- Explained inference over a log is explained inference, and what it asks is kept behind the log.
use Rattle.std.proofs.Common.{◌≡◌, ℕ, Bool, true, false, cond, List, [], ◌++◌, length, Option, Some, None}
use Rattle.std.proofs.Common.{refl, sym, ap, ◌∙◌, append_assoc}
use Rattle.cc_base.specs.declared.code.Code.TheVariants.{E17, E18}
use Rattle.cc_base.specs.declared.literal.Base.TheVariants as bases
use Rattle.cc_base.specs.declared.place.Place.{Place}
use Rattle.cc_capture.specs.Sets.{Set, empty}
use Rattle.cc_core.specs.Shapes.{BaseShape, CapturingType, capturing}
use Rattle.cc_core.specs.Terms.{Absent, Written, Own, Term, VariableTerm, LiteralTerm, FunctionTerm}
use Rattle.cc_core.specs.Terms.{TypeFunctionTerm, BoxTerm, Application, TypeApplication, Unboxing, Let, Primitive}
use Rattle.cc_core.specs.Terms.{Conditional, Repetition, Operation, Boundary, Leave}
use Rattle.cc_core.specs.Contexts.{TypeEntry, entry_of}
use Rattle.cc_core.specs.Places.{Places, spots, first_part, second_part}
use Rattle.cc_checking.specs.Avoidance.{Positive, avoided_type}
use Rattle.cc_checking.specs.Outcomes as plain
use Rattle.cc_checking.specs.Outcomes.{Outcome}
use Rattle.cc_checking.specs.Inference.{Result, shape_in, type_in, exit_entry}
use Rattle.cc_type.specs.Rows.{ways}
use Rattle.cc_reasons.specs.Causes.{Scene, under, TooLarge, Unavoidable, Located, Explained}
use Rattle.cc_reasons.specs.Causes.{NoAnswer, Refused, Found, finds, asked_before, ◌>>=◌, because}
use Rattle.cc_reasons.specs.ExplainedInference.{BinderNames, first_names, second_names, bound_at, explained_below}
use Rattle.cc_reasons.specs.ExplainedInference.{explained_against, explained_operand, explained_note, explained_leaving}
use Rattle.cc_reasons.specs.ExplainedInference.{explained_size, explained}
use Rattle.cc_reasoning.specs.LocatedLogs.{keeping, Reached, Got, after, followed, ends, directly}
use Rattle.cc_reasoning.specs.ExplainedLogs.{sized, explained_log}
use Rattle.cc_reasoning.proofs.LocatedSteps.{keeping-append}

-- an outcome that asks nothing
abbrev IsPlain : {A : Type 0} → Explained A → Type 0
IsPlain NoAnswer = Unit {0}
IsPlain (Refused cause at) = Unit {0}
IsPlain (Found value asked) = asked ≡ []

nothing_before : {A : Type 0} (o : Explained A) → asked_before [] o ≡ o
nothing_before NoAnswer = refl
nothing_before (Refused cause at) = refl
nothing_before (Found value asked) = refl

kept_behind : {A : Type 0} (log asked : List Located) (o : Explained A)
    → after (keeping log asked) o ≡ after log (asked_before asked o)
kept_behind log asked NoAnswer = refl
kept_behind log asked (Refused cause at) = refl
kept_behind log asked (Found value more) = ap (λ l. Got value l) (sym (keeping-append log asked more))

more_before : {A : Type 0} (one two : List Located) (o : Explained A)
    → asked_before (one ++ two) o ≡ asked_before one (asked_before two o)
more_before one two NoAnswer = refl
more_before one two (Refused cause at) = refl
more_before one two (Found value three) = ap (λ l. Found value l) (append_assoc one two three)

then_before : {A B : Type 0} (asked : List Located) (o : Explained A) (last : A → Explained B)
    → ◌>>=◌ (asked_before asked o) last ≡ asked_before asked (◌>>=◌ o last)
unfolding ◌>>=◌
then_before asked NoAnswer last = refl
then_before asked (Refused cause at) last = refl
then_before asked (Found value two) last = more_before asked two (last value)

-- a step and the rest
pub joined : {A B : Type 0} (log : List Located) (steps : Reached A) (rest : A → List Located → Reached B)
    (o : Explained A) (next : A → Explained B)
    → steps ≡ after log o → ((a : A) (l : List Located) → rest a l ≡ after l (next a))
    → followed steps rest ≡ after log (◌>>=◌ o next)
unfolding ◌>>=◌
joined log steps rest NoAnswer next e h = ap (λ s. followed s rest) e
joined log steps rest (Refused cause at) next e h = ap (λ s. followed s rest) e
joined log steps rest (Found value asked) next e h = ap (λ s. followed s rest) e ∙ h value (keeping log asked)
    ∙ kept_behind log asked (next value)

-- the grouping of three steps
pub regrouped : {A B C : Type 0} (o : Explained A) (next : A → Explained B) (last : B → Explained C)
    → ◌>>=◌ (◌>>=◌ o next) last ≡ ◌>>=◌ o (λ a. ◌>>=◌ (next a) last)
unfolding ◌>>=◌
regrouped NoAnswer next last = refl
regrouped (Refused cause at) next last = refl
regrouped (Found value asked) next last = then_before asked (next value) last

pub finds_first : {A B : Type 0} (a : A) (f : A → Explained B) → ◌>>=◌ (finds a) f ≡ f a
unfolding ◌>>=◌
finds_first a f = nothing_before (f a)

-- the last steps
ended : {A : Type 0} (log : List Located) (o : Explained A) → IsPlain o → ends o log ≡ after log o
ended log NoAnswer p = refl
ended log (Refused cause at) p = refl
ended log (Found value asked) p = ap (λ l. Got value (keeping log l)) (sym p)

directly_plain : {A B : Type 0} (o : Explained A) (f : A → Explained B) → ((a : A) → IsPlain (f a))
    → IsPlain (directly o f)
directly_plain NoAnswer f h = tt
directly_plain (Refused cause at) f h = tt
directly_plain (Found value asked) f h = h value

plain_regrouped : {A B : Type 0} (o : Explained A) (f : A → Explained B) → IsPlain o → directly o f ≡ ◌>>=◌ o f
unfolding ◌>>=◌
plain_regrouped NoAnswer f p = refl
plain_regrouped (Refused cause at) f p = refl
plain_regrouped (Found value asked) f p =
    sym (nothing_before (f value)) ∙ ap (λ l. asked_before l (f value)) (sym p)

-- the test of sizes
sized_plain : (scene : Scene) (at : Place) (found : Result) → IsPlain (sized scene at found)
sized_plain scene at found = by_test (ways.passes found.type)
  where
    by_test : (b : Bool)
        → IsPlain
        (because (TooLarge scene found.type) scene.locals (cond b (plain.finds found) (plain.Refused E18 at)))
    by_test true = refl
    by_test false = tt

leaving_plain : (at : Place) (scene inner : Scene) (declared : Set) (type : CapturingType)
    → IsPlain (explained_leaving at scene inner declared type)
leaving_plain at scene inner declared type = by_option (avoided_type Positive (length scene.context) declared type)
  where
    by_option : (o : Option CapturingType)
        → IsPlain
        (because (Unavoidable inner (length scene.context) type) scene.locals (plain.found_or E17 at o))
    by_option (Some avoided) = refl
    by_option None = tt

-- the same steps for a term, with the test of its size at their end
sized_joined : {A : Type 0} (places : Places) (scene : Scene) (log : List Located) (steps : Reached A)
    (rest : A → List Located → Reached Result) (o : Explained A) (next : A → Explained Result)
    → steps ≡ after log o
    → ((a : A) (l : List Located) → rest a l ≡ after l (explained_size ways places scene (next a)))
    → followed steps rest ≡ after log (explained_size ways places scene (◌>>=◌ o next))
sized_joined places scene log steps rest o next e h =
    joined log steps rest o (λ a. explained_size ways places scene (next a)) e h
    ∙ ap (after log) (sym (regrouped o next (sized scene (spots places).at)))

sized_end : (places : Places) (scene : Scene) (log : List Located) (r : Result)
    → ends (sized scene (spots places).at r) log ≡ after log (explained_size ways places scene (finds r))
sized_end places scene log r =
    ended log (sized scene (spots places).at r) (sized_plain scene (spots places).at r)
    ∙ ap (after log) (sym (finds_first r (sized scene (spots places).at)))

-- a plain step at the end, with the test of sizes
sized_direct : {A : Type 0} (places : Places) (scene : Scene) (log : List Located) (o : Explained A) (f : A → Result)
    → IsPlain o
    → ends (directly o (λ a. sized scene (spots places).at (f a))) log
    ≡ after log (explained_size ways places scene (◌>>=◌ o (λ a. finds (f a))))
sized_direct places scene log o f p =
    let t : Result → Explained Result = sized scene (spots places).at in
    ended log (directly o (λ a. t (f a)))
    (directly_plain o (λ a. t (f a)) (λ a. sized_plain scene (spots places).at (f a)))
    ∙ ap (after log)
    (plain_regrouped o (λ a. t (f a)) p ∙ (λ j. ◌>>=◌ o (λ a. sym (finds_first (f a) t) j))
    ∙ sym (regrouped o (λ a. finds (f a)) t))

-- a part with what its type is compared with, and the rest
part_joined : {B : Type 0} (places : Places) (scene : Scene) (log : List Located) (steps : Reached Result)
    (check : Result → Explained B) (rest : Result → List Located → Reached Result)
    (row : Explained Result) (next : Result → Explained Result) → steps ≡ after log row
    → ((one : Result) (l : List Located) → rest one l ≡ after l (explained_size ways places scene (next one)))
    → followed steps (λ one l. followed (after l (check one)) (λ done k. rest one k))
    ≡ after log
    (explained_size ways places scene (◌>>=◌ (◌>>=◌ row (λ one. ◌>>=◌ (check one) (λ done. finds one))) next))
part_joined places scene log steps check rest row next e h =
    let size : Result → Explained Result = λ one. explained_size ways places scene (next one) in
    let checked : Result → Explained Result = λ one. ◌>>=◌ (check one) (λ done. finds one) in
    joined log steps _ row (λ one. ◌>>=◌ (check one) (λ done. size one)) e
    (λ one l. joined l (after l (check one)) _ (check one) (λ done. size one) refl (λ done k. h one k))
    ∙ ap (after log)
    ((λ j. ◌>>=◌ row (λ one. ◌>>=◌ (check one) (λ done. sym (finds_first one size) j)))
    ∙ (λ j. ◌>>=◌ row (λ one. sym (regrouped (check one) (λ done. finds one) size) j))
    ∙ sym (regrouped row checked size)
    ∙ sym (regrouped (◌>>=◌ row checked) next (sized scene (spots places).at)))

pub explained_logs : (root : ℕ) (t : Term) (scene : Scene) (places : Places) (names : BinderNames) (log : List Located)
    → explained_log root scene t places names log ≡ after log (explained ways root scene t places names)
explained_logs root (VariableTerm v) scene places names log = refl
explained_logs root (LiteralTerm x) scene places names log = refl
explained_logs root (FunctionTerm s c t) scene places names log =
    let inner : Scene = under (bound_at names (spots places).at) (entry_of (type_in scene.context (capturing s c))) scene in
    sized_joined places scene log (explained_log root inner t (first_part places) (first_names names) log) _
    (explained ways root inner t (first_part places) (first_names names)) _
    (explained_logs root t inner (first_part places) (first_names names) log) (λ r l. sized_end places scene l _)
explained_logs root (TypeFunctionTerm s t) scene places names log =
    let inner : Scene = under (bound_at names (spots places).at) (TypeEntry (shape_in scene.context s)) scene in
    sized_joined places scene log (explained_log root inner t (first_part places) (first_names names) log) _
    (explained ways root inner t (first_part places) (first_names names)) _
    (explained_logs root t inner (first_part places) (first_names names) log) (λ r l. sized_end places scene l _)
explained_logs root (BoxTerm v) scene places names log = refl
explained_logs root (Application v w) scene places names log = refl
explained_logs root (TypeApplication v s) scene places names log = refl
explained_logs root (Unboxing o v) scene places names log = refl
explained_logs root (Let n t u) scene places names log =
    let row : Explained Result = explained ways root scene t (first_part places) (first_names names) in
    sized_joined places scene log (explained_log root scene t (first_part places) (first_names names) log) _ row _
    (explained_logs root t scene (first_part places) (first_names names) log)
    (λ one l. sized_joined places scene l
    (after l (explained_note ways root (spots (first_part places)).at scene n one.type)) _
    (explained_note ways root (spots (first_part places)).at scene n one.type) _ refl
    (λ named k. sized_joined places scene k
    (explained_log root (under (bound_at names (spots places).first) (entry_of named.type) scene) u
    (second_part places) (second_names names) k) _
    (explained ways root (under (bound_at names (spots places).first) (entry_of named.type) scene) u
    (second_part places) (second_names names)) _
    (explained_logs root u (under (bound_at names (spots places).first) (entry_of named.type) scene)
    (second_part places) (second_names names) k)
    (λ two m. sized_direct places scene m
    (explained_leaving (spots places).first scene
    (under (bound_at names (spots places).first) (entry_of named.type) scene) named.type.set two.type) _
    (leaving_plain (spots places).first scene
    (under (bound_at names (spots places).first) (entry_of named.type) scene) named.type.set two.type))))
explained_logs root (Primitive o v w) scene places names log = refl
explained_logs root (Conditional Absent v t u) scene places names log = refl
explained_logs root (Conditional (Written s c) v t u) scene places names log =
    let type : CapturingType = type_in scene.context (capturing s c) in
    let row : Explained (Unit {0}) =
    explained_operand ways (spots places).first scene v (BaseShape bases.Bool) in
    sized_joined places scene log (after log row) _ row _ refl
    (λ done l. part_joined places scene l (explained_log root scene t (first_part places) (first_names names) l)
    (λ one. explained_below ways (spots (first_part places)).at scene one.type type) _
    (explained ways root scene t (first_part places) (first_names names)) _
    (explained_logs root t scene (first_part places) (first_names names) l)
    (λ one k. part_joined places scene k (explained_log root scene u (second_part places) (second_names names) k)
    (λ two. explained_below ways (spots (second_part places)).at scene two.type type) _
    (explained ways root scene u (second_part places) (second_names names)) _
    (explained_logs root u scene (second_part places) (second_names names) k)
    (λ two m. sized_end places scene m _)))
explained_logs root (Conditional (Own s) v t u) scene places names log =
    let row : Explained (Unit {0}) =
    explained_operand ways (spots places).first scene v (BaseShape bases.Bool) in
    sized_joined places scene log (after log row) _ row _ refl
    (λ done l. part_joined places scene l (explained_log root scene t (first_part places) (first_names names) l)
    (λ one. explained_against ways (spots (first_part places)).at scene one.type.shape (shape_in scene.context s)) _
    (explained ways root scene t (first_part places) (first_names names)) _
    (explained_logs root t scene (first_part places) (first_names names) l)
    (λ one k. part_joined places scene k (explained_log root scene u (second_part places) (second_names names) k)
    (λ two. explained_against ways (spots (second_part places)).at scene two.type.shape (shape_in scene.context s)) _
    (explained ways root scene u (second_part places) (second_names names)) _
    (explained_logs root u scene (second_part places) (second_names names) k)
    (λ two m. sized_end places scene m _)))
explained_logs root (Repetition v w) scene places names log = refl
explained_logs root (Operation o v w) scene places names log = refl
explained_logs root (Boundary s t) scene places names log =
    let inner : Scene = under (bound_at names (spots places).at) (exit_entry (shape_in scene.context s)) scene in
    part_joined places scene log (explained_log root inner t (first_part places) (first_names names) log)
    (λ part. explained_below ways (spots (first_part places)).at inner part.type
    (capturing (shape_in scene.context s) empty)) _
    (explained ways root inner t (first_part places) (first_names names)) _
    (explained_logs root t inner (first_part places) (first_names names) log)
    (λ part l. sized_end places scene l _)
explained_logs root (Leave s c v w) scene places names log = refl
