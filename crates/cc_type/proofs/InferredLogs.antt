-- Inference over a log is inference, and what it asks is kept behind the log.
use Rattle.std.proofs.Common.{◌≡◌, ℕ, Bool, true, false, cond, List, [], ◌∷◌, ◌++◌, length, Option, Some, None, refl}
use Rattle.std.proofs.Common.{sym, ap, ◌∙◌, append_assoc}
use Rattle.cc_base.specs.declared.code.Code.TheVariants.{E13, E17, E18}
use Rattle.cc_base.specs.declared.literal.Base.{Base}
use Rattle.cc_base.specs.declared.literal.Base.TheVariants as bases
use Rattle.cc_base.specs.declared.place.Place.{Place}
use Rattle.cc_capture.specs.declared.var.Var.{Var}
use Rattle.cc_capture.specs.declared.var.Var.TheVariants.{Bound, Free}
use Rattle.cc_capture.specs.Sets.{Set, empty}
use Rattle.cc_core.specs.Shapes.{Shape, BaseShape, AnyShape, TypeVariable, FunctionShape, TypeFunctionShape, BoxShape}
use Rattle.cc_core.specs.Shapes.{ExitShape, CapturingType, capturing}
use Rattle.cc_core.specs.Terms.{Note, Absent, Written, Own, Term, VariableTerm, LiteralTerm, FunctionTerm}
use Rattle.cc_core.specs.Terms.{TypeFunctionTerm, BoxTerm, Application, TypeApplication, Unboxing, Let, Primitive}
use Rattle.cc_core.specs.Terms.{Conditional, Repetition, Operation, Boundary, Leave}
use Rattle.cc_core.specs.Equality.{same_shape}
use Rattle.cc_core.specs.Contexts.{Bind, TermEntry, TypeEntry, Context, lookup, entry_of}
use Rattle.cc_core.specs.Places.{Places, spots, first_part, second_part}
use Rattle.cc_core.specs.Typing.{base_operated, base_taken}
use Rattle.cc_checking.specs.Avoidance.{Positive, avoided_type}
use Rattle.cc_checking.specs.Exposing.{exposed}
use Rattle.cc_checking.specs.Outcomes.{Placed, Outcome, NoAnswer, Refused, Found, finds, asked_before, ◌>>=◌, found_or}
use Rattle.cc_checking.specs.Inference.{Result, result, in_context, type_in, shape_in, below, against, capless, exit_entry}
use Rattle.cc_checking.specs.Inference.{entry_type, variable_type, function_head, type_function_head, box_head, exit_head}
use Rattle.cc_checking.specs.Inference.{device_head, operand, operation_argument, opening_set, named_by, noted, left_behind}
use Rattle.cc_checking.specs.Inference.{tested, sized, inferred}
use Rattle.cc_known.specs.Keeping.{keeping}
use Rattle.cc_known.specs.Logs.{Logged, Lost, Stopped, Got, after, followed, plainly}
use Rattle.cc_type.specs.Rows.{comparing, ways, directly, ends, operand_log, argument_log, opening_log, own_named}
use Rattle.cc_type.specs.Rows.{noted_log, inferred_log}
use Rattle.cc_known.proofs.KeptLists.{kept_of_both}

-- an outcome that asks nothing
abbrev IsPlain : {A : Type 0} → Outcome A → Type 0
IsPlain NoAnswer = Unit {0}
IsPlain (Refused code at) = Unit {0}
IsPlain (Found value asked) = asked ≡ []

pub none_kept : (log : List Placed) → log ≡ keeping log []
none_kept log = refl

pub nothing_before : {A : Type 0} (o : Outcome A) → asked_before [] o ≡ o
nothing_before NoAnswer = refl
nothing_before (Refused code at) = refl
nothing_before (Found a asked) = refl

kept_behind : {A : Type 0} (log asked : List Placed) (o : Outcome A)
    → after (keeping log asked) o ≡ after log (asked_before asked o)
kept_behind log asked NoAnswer = refl
kept_behind log asked (Refused code at) = refl
kept_behind log asked (Found a more) = ap (λ l. Got a l) (sym (kept_of_both log asked more))

more_before : {A : Type 0} (one two : List Placed) (o : Outcome A)
    → asked_before (one ++ two) o ≡ asked_before one (asked_before two o)
more_before one two NoAnswer = refl
more_before one two (Refused code at) = refl
more_before one two (Found a three) = ap (λ l. Found a l) (append_assoc one two three)

then_before : {A B : Type 0} (asked : List Placed) (o : Outcome A) (last : A → Outcome B)
    → ◌>>=◌ (asked_before asked o) last ≡ asked_before asked (◌>>=◌ o last)
unfolding ◌>>=◌
then_before asked NoAnswer last = refl
then_before asked (Refused code at) last = refl
then_before asked (Found a two) last = more_before asked two (last a)

-- a step and the rest
pub joined : {A B : Type 0} (log : List Placed) (steps : Logged A) (rest : A → List Placed → Logged B) (o : Outcome A)
    (next : A → Outcome B)
    → steps ≡ after log o → ((a : A) (l : List Placed) → rest a l ≡ after l (next a))
    → followed steps rest ≡ after log (◌>>=◌ o next)
unfolding ◌>>=◌
joined log steps rest NoAnswer next e h = ap (λ s. followed s rest) e
joined log steps rest (Refused code at) next e h = ap (λ s. followed s rest) e
joined log steps rest (Found a asked) next e h = ap (λ s. followed s rest) e ∙ h a (keeping log asked)
    ∙ kept_behind log asked (next a)

-- a step that asks nothing, and the rest
plain_joined : {A B : Type 0} (log : List Placed) (rest : A → Logged B) (o : Outcome A) (next : A → Outcome B)
    → IsPlain o → ((a : A) → rest a ≡ after log (next a)) → plainly o rest ≡ after log (◌>>=◌ o next)
unfolding ◌>>=◌
plain_joined log rest NoAnswer next p h = refl
plain_joined log rest (Refused code at) next p h = refl
plain_joined log rest (Found a asked) next p h = h a
    ∙ ap (after log) (sym (nothing_before (next a)) ∙ ap (λ l. asked_before l (next a)) (sym p))

-- the grouping of three steps
regrouped : {A B C : Type 0} (o : Outcome A) (next : A → Outcome B) (last : B → Outcome C)
    → ◌>>=◌ (◌>>=◌ o next) last ≡ ◌>>=◌ o (λ a. ◌>>=◌ (next a) last)
unfolding ◌>>=◌
regrouped NoAnswer next last = refl
regrouped (Refused code at) next last = refl
regrouped (Found a asked) next last = then_before asked (next a) last

plain_regrouped : {A B : Type 0} (o : Outcome A) (f : A → Outcome B) → IsPlain o → directly o f ≡ ◌>>=◌ o f
unfolding ◌>>=◌
plain_regrouped NoAnswer f p = refl
plain_regrouped (Refused code at) f p = refl
plain_regrouped (Found a asked) f p = sym (nothing_before (f a)) ∙ ap (λ l. asked_before l (f a)) (sym p)

directly_plain : {A B : Type 0} (o : Outcome A) (f : A → Outcome B) → ((a : A) → IsPlain (f a)) → IsPlain (directly o f)
directly_plain NoAnswer f h = tt
directly_plain (Refused code at) f h = tt
directly_plain (Found a asked) f h = h a

-- the last steps
ended : {A : Type 0} (log : List Placed) (o : Outcome A) → IsPlain o → ends o log ≡ after log o
ended log NoAnswer p = refl
ended log (Refused code at) p = refl
ended log (Found a asked) p = ap (λ l. Got a (keeping log l)) (sym p)

finds_first : {A B : Type 0} (a : A) (f : A → Outcome B) → ◌>>=◌ (finds a) f ≡ f a
unfolding ◌>>=◌
finds_first a f = nothing_before (f a)

-- the test of sizes
tested_plain : (at : Place) (r : Result) → IsPlain (tested ways at r)
tested_plain at r = by_test (ways.passes r.type)
  where
    by_test : (b : Bool) → IsPlain (cond b (finds r) (Refused E18 at))
    by_test true = refl
    by_test false = tt

-- the same steps for a term, with the test of its size at their end
sized_joined : {A : Type 0} (places : Places) (log : List Placed) (steps : Logged A)
    (rest : A → List Placed → Logged Result) (o : Outcome A) (next : A → Outcome Result)
    → steps ≡ after log o → ((a : A) (l : List Placed) → rest a l ≡ after l (sized ways places (next a)))
    → followed steps rest ≡ after log (sized ways places (◌>>=◌ o next))
sized_joined places log steps rest o next e h =
    joined log steps rest o (λ a. sized ways places (next a)) e h
    ∙ ap (after log) (sym (regrouped o next (tested ways (spots places).at)))

sized_plainly : {A : Type 0} (places : Places) (log : List Placed) (rest : A → Logged Result) (o : Outcome A)
    (next : A → Outcome Result)
    → IsPlain o → ((a : A) → rest a ≡ after log (sized ways places (next a)))
    → plainly o rest ≡ after log (sized ways places (◌>>=◌ o next))
sized_plainly places log rest o next p h =
    plain_joined log rest o (λ a. sized ways places (next a)) p h
    ∙ ap (after log) (sym (regrouped o next (tested ways (spots places).at)))

sized_end : (places : Places) (log : List Placed) (r : Result)
    → ends (tested ways (spots places).at r) log ≡ after log (sized ways places (finds r))
sized_end places log r =
    ended log (tested ways (spots places).at r) (tested_plain (spots places).at r)
    ∙ ap (after log) (sym (finds_first r (tested ways (spots places).at)))

-- a head, which is two steps
sized_head : {A B : Type 0} (places : Places) (log : List Placed) (rest : B → Logged Result) (o : Outcome A)
    (f : A → Outcome B) (next : B → Outcome Result)
    → IsPlain o → ((a : A) → IsPlain (f a)) → ((b : B) → rest b ≡ after log (sized ways places (next b)))
    → plainly (directly o f) rest ≡ after log (sized ways places (◌>>=◌ o (λ a. ◌>>=◌ (f a) next)))
sized_head places log rest o f next p q h =
    sized_plainly places log rest (directly o f) next (directly_plain o f q) h
    ∙ ap (λ (x : Outcome _). after log (sized ways places x))
    (ap (λ (x : Outcome _). ◌>>=◌ x next) (plain_regrouped o f p) ∙ regrouped o f next)

entry_plain : (v : Var) (o : Option Bind) → IsPlain (entry_type v o)
entry_plain v (Some (TermEntry s c)) = refl
entry_plain v (Some (TypeEntry b)) = tt
entry_plain v None = tt

variable_plain : (g : Context) (v : Var) → IsPlain (variable_type g v)
variable_plain g (Free p) = entry_plain (Free p) (lookup g p)
variable_plain g (Bound i) = tt

function_plain : (at : Place) (s : Shape) → IsPlain (function_head at s)
function_plain at (FunctionShape t c u e) = refl
function_plain at (BaseShape b) = tt
function_plain at AnyShape = tt
function_plain at (TypeVariable v) = tt
function_plain at (TypeFunctionShape b t c) = tt
function_plain at (BoxShape t c) = tt
function_plain at (ExitShape t) = tt

type_function_plain : (at : Place) (s : Shape) → IsPlain (type_function_head at s)
type_function_plain at (FunctionShape t c u e) = tt
type_function_plain at (BaseShape b) = tt
type_function_plain at AnyShape = tt
type_function_plain at (TypeVariable v) = tt
type_function_plain at (TypeFunctionShape b t c) = refl
type_function_plain at (BoxShape t c) = tt
type_function_plain at (ExitShape t) = tt

box_plain : (at : Place) (s : Shape) → IsPlain (box_head at s)
box_plain at (FunctionShape t c u e) = tt
box_plain at (BaseShape b) = tt
box_plain at AnyShape = tt
box_plain at (TypeVariable v) = tt
box_plain at (TypeFunctionShape b t c) = tt
box_plain at (BoxShape t c) = refl
box_plain at (ExitShape t) = tt

exit_plain : (at : Place) (s : Shape) → IsPlain (exit_head at s)
exit_plain at (FunctionShape t c u e) = tt
exit_plain at (BaseShape b) = tt
exit_plain at AnyShape = tt
exit_plain at (TypeVariable v) = tt
exit_plain at (TypeFunctionShape b t c) = tt
exit_plain at (BoxShape t c) = tt
exit_plain at (ExitShape t) = refl

device_plain : (at : Place) (base : Base) (s : Shape) → IsPlain (device_head at base s)
device_plain at base s = by_test (same_shape s (BaseShape base))
  where
    by_test : (b : Bool) → IsPlain {A = Unit {0}} (cond b (finds tt) (Refused E13 at))
    by_test true = refl
    by_test false = tt

left_plain : (at : Place) (g : Context) (d : Set) (t : CapturingType) → IsPlain (left_behind at g d t)
left_plain at g d t = by_option (avoided_type Positive (length g) d t)
  where
    by_option : (o : Option CapturingType) → IsPlain (found_or E17 at o)
    by_option (Some u) = refl
    by_option None = tt

-- the steps that ask something
operand_logs : (at : Place) (g : Context) (v : Var) (s : Shape) (log : List Placed)
    → operand_log at g v s log ≡ after log (operand comparing at g v s)
operand_logs at g v s log = plain_joined log _ (variable_type g (in_context g v)) _ (variable_plain g (in_context g v))
    (λ a. refl)

argument_logs : (at : Place) (g : Context) (b : Option Base) (v : Option Var) (log : List Placed)
    → argument_log at g b v log ≡ after log (operation_argument comparing at g b v)
argument_logs at g (Some b) (Some v) log = operand_logs at g v (BaseShape b) log
argument_logs at g (Some b) None log = refl
argument_logs at g None (Some v) log = refl
argument_logs at g None None log = ap (λ l. Got tt l) (none_kept log)

opening_logs : (at : Place) (g : Context) (c : Set) (o : Option Set) (log : List Placed)
    → opening_log at g c o log ≡ after log (opening_set at g c o)
opening_logs at g c (Some set) log = refl
opening_logs at g c None log = ap (λ l. Got c l) (none_kept log)

followed_twice : {A B C : Type 0} (s : Logged A) (f : A → List Placed → Logged B) (h : B → List Placed → Logged C)
    → followed (followed s f) h ≡ followed s (λ a l. followed (f a l) h)
followed_twice Lost f h = refl
followed_twice (Stopped code at) f h = refl
followed_twice (Got a l) f h = refl

pub noted_logs : (root : ℕ) (at : Place) (g : Context) (n : Note) (t : CapturingType) (log : List Placed)
    → noted_log root at g n t log ≡ after log (noted comparing root at g n t)
noted_logs root at g Absent t log = ap (λ l. Got (named_by t Absent) l) (none_kept log)
noted_logs root at g (Written s c) t log =
    followed_twice (after log (below comparing at g t (type_in g (capturing s c)))) _ _
    ∙ joined log (after log (below comparing at g t (type_in g (capturing s c)))) _
    (below comparing at g t (type_in g (capturing s c))) _ refl
    (λ a l. ap (λ k. Got (named_by (type_in g (capturing s c)) (Written s c)) k) (none_kept l))
noted_logs root at g (Own s) t log =
    followed_twice (after log (against comparing at g t.shape (shape_in g s))) _ _
    ∙ joined log (after log (against comparing at g t.shape (shape_in g s))) _
    (against comparing at g t.shape (shape_in g s)) _ refl
    (λ a l. ap (λ k. Got (own_named root g s t) k) (none_kept l))

-- a plain step at the end, with the test of sizes
sized_direct : {A : Type 0} (places : Places) (log : List Placed) (o : Outcome A) (f : A → Result) → IsPlain o
    → ends (directly o (λ a. tested ways (spots places).at (f a))) log ≡ after log
    (sized ways places (◌>>=◌ o (λ a. finds (f a))))
sized_direct places log o f p =
    let t : Result → Outcome Result = tested ways (spots places).at in
    ended log (directly o (λ a. t (f a))) (directly_plain o (λ a. t (f a)) (λ a. tested_plain (spots places).at (f a)))
    ∙ ap (after log)
    (plain_regrouped o (λ a. t (f a)) p ∙ (λ j. ◌>>=◌ o (λ a. sym (finds_first (f a) t) j))
    ∙ sym (regrouped o (λ a. finds (f a)) t))

-- a part with what its type is compared with, and the rest
part_joined : {B : Type 0} (places : Places) (log : List Placed) (steps : Logged Result) (check : Result → Outcome B)
    (rest : Result → List Placed → Logged Result)
    (row : Outcome Result) (next : Result → Outcome Result) → steps ≡ after log row
    → ((one : Result) (l : List Placed) → rest one l ≡ after l (sized ways places (next one)))
    → followed steps (λ one l. followed (after l (check one)) (λ done k. rest one k))
    ≡ after log (sized ways places (◌>>=◌ (◌>>=◌ row (λ one. ◌>>=◌ (check one) (λ done. finds one))) next))
part_joined places log steps check rest row next e h =
    let checked : Result → List Placed
    → Logged Result = λ one l. followed (after l (check one)) (λ done k. Got one k) in
    let part : Outcome Result = ◌>>=◌ row (λ one. ◌>>=◌ (check one) (λ done. finds one)) in
    let found : followed steps checked ≡ after log part =
    joined log steps checked row (λ one. ◌>>=◌ (check one) (λ done. finds one)) e
    (λ one l. joined l (after l (check one)) (λ done k. Got one k) (check one) (λ done. finds one) refl
    (λ a k. ap (λ m. Got one m) (none_kept k))) in
    (λ j. followed steps (λ one l. sym (followed_twice (after l (check one)) (λ done k. Got one k) rest) j))
    ∙ sym (followed_twice steps checked rest)
    ∙ sized_joined places log (followed steps checked) rest part next found h

pub inferred_logs : (root : ℕ) (t : Term) (g : Context) (places : Places) (log : List Placed)
    → inferred_log root g t places log ≡ after log (inferred ways root g t places)
inferred_logs root (VariableTerm v) g places log =
    sized_direct places log (variable_type g (in_context g v)) _ (variable_plain g (in_context g v))
inferred_logs root (LiteralTerm x) g places log = sized_end places log _
inferred_logs root (FunctionTerm s c t) g places log =
    let inner : Context = entry_of (type_in g (capturing s c)) ∷ g in
    sized_joined places log (inferred_log root inner t (first_part places) log) _
    (inferred ways root inner t (first_part places)) _
    (inferred_logs root t inner (first_part places) log) (λ r l. sized_end places l _)
inferred_logs root (TypeFunctionTerm s t) g places log =
    let inner : Context = TypeEntry (shape_in g s) ∷ g in
    sized_joined places log (inferred_log root inner t (first_part places) log) _
    (inferred ways root inner t (first_part places)) _
    (inferred_logs root t inner (first_part places) log) (λ r l. sized_end places l _)
inferred_logs root (BoxTerm v) g places log =
    sized_direct places log (variable_type g (in_context g v)) _ (variable_plain g (in_context g v))
inferred_logs root (Application v w) g places log =
    sized_head places log _ (variable_type g (in_context g v))
    (λ type. function_head (spots places).first (exposed g type.shape)) _
    (variable_plain g (in_context g v)) (λ type. function_plain (spots places).first (exposed g type.shape))
    (λ head. sized_plainly places log _ (variable_type g (in_context g w)) _ (variable_plain g (in_context g w))
    (λ given. sized_joined places log (after log (below comparing (spots places).second g given head.takes)) _
    (below comparing (spots places).second g given head.takes) _ refl
    (λ done l. sized_end places l _)))
inferred_logs root (TypeApplication v s) g places log =
    sized_head places log _ (variable_type g (in_context g v))
    (λ type. type_function_head (spots places).first (exposed g type.shape)) _
    (variable_plain g (in_context g v)) (λ type. type_function_plain (spots places).first (exposed g type.shape))
    (λ head. sized_joined places log
    (after log (against comparing (spots places).second g (shape_in g s) head.bound)) _
    (against comparing (spots places).second g (shape_in g s) head.bound) _ refl
    (λ done l. sized_end places l _))
inferred_logs root (Unboxing o v) g places log =
    sized_head places log _ (variable_type g (in_context g v))
    (λ type. box_head (spots places).first (exposed g type.shape)) _
    (variable_plain g (in_context g v)) (λ type. box_plain (spots places).first (exposed g type.shape))
    (λ content. sized_joined places log (opening_log (spots places).first g content.set o log) _
    (opening_set (spots places).first g content.set o) _
    (opening_logs (spots places).first g content.set o log)
    (λ under l. sized_joined places l (after l (capless (spots places).second under)) _
    (capless (spots places).second under) _ refl
    (λ done k. sized_end places k _)))
inferred_logs root (Let n t u) g places log =
    sized_joined places log (inferred_log root g t (first_part places) log) _
    (inferred ways root g t (first_part places)) _ (inferred_logs root t g (first_part places) log)
    (λ one l. sized_joined places l (noted_log root (spots (first_part places)).at g n one.type l) _
    (noted comparing root (spots (first_part places)).at g n one.type) _
    (noted_logs root (spots (first_part places)).at g n one.type l)
    (λ named k. sized_joined places k (inferred_log root (entry_of named.type ∷ g) u (second_part places) k) _
    (inferred ways root (entry_of named.type ∷ g) u (second_part places)) _
    (inferred_logs root u (entry_of named.type ∷ g) (second_part places) k)
    (λ two m. sized_direct places m (left_behind (spots places).first g named.type.set two.type) _
    (left_plain (spots places).first g named.type.set two.type))))
inferred_logs root (Primitive o v w) g places log =
    sized_joined places log (operand_log (spots places).first g v (BaseShape bases.Int) log) _
    (operand comparing (spots places).first g v (BaseShape bases.Int)) _
    (operand_logs (spots places).first g v (BaseShape bases.Int) log)
    (λ done l. sized_joined places l (operand_log (spots places).second g w (BaseShape bases.Int) l) _
    (operand comparing (spots places).second g w (BaseShape bases.Int)) _
    (operand_logs (spots places).second g w (BaseShape bases.Int) l) (λ done' k. sized_end places k _))
inferred_logs root (Conditional Absent v t u) g places log = refl
inferred_logs root (Conditional (Written s c) v t u) g places log =
    sized_joined places log (operand_log (spots places).first g v (BaseShape bases.Bool) log) _
    (operand comparing (spots places).first g v (BaseShape bases.Bool)) _
    (operand_logs (spots places).first g v (BaseShape bases.Bool) log)
    (λ done l. part_joined places l (inferred_log root g t (first_part places) l)
    (λ one. below comparing (spots (first_part places)).at g one.type (type_in g (capturing s c))) _
    (inferred ways root g t (first_part places)) _ (inferred_logs root t g (first_part places) l)
    (λ one k. part_joined places k (inferred_log root g u (second_part places) k)
    (λ two. below comparing (spots (second_part places)).at g two.type (type_in g (capturing s c))) _
    (inferred ways root g u (second_part places)) _ (inferred_logs root u g (second_part places) k)
    (λ two m. sized_end places m _)))
inferred_logs root (Conditional (Own s) v t u) g places log =
    sized_joined places log (operand_log (spots places).first g v (BaseShape bases.Bool) log) _
    (operand comparing (spots places).first g v (BaseShape bases.Bool)) _
    (operand_logs (spots places).first g v (BaseShape bases.Bool) log)
    (λ done l. part_joined places l (inferred_log root g t (first_part places) l)
    (λ one. against comparing (spots (first_part places)).at g one.type.shape (shape_in g s)) _
    (inferred ways root g t (first_part places)) _ (inferred_logs root t g (first_part places) l)
    (λ one k. part_joined places k (inferred_log root g u (second_part places) k)
    (λ two. against comparing (spots (second_part places)).at g two.type.shape (shape_in g s)) _
    (inferred ways root g u (second_part places)) _ (inferred_logs root u g (second_part places) k)
    (λ two m. sized_end places m _)))
inferred_logs root (Repetition v w) g places log =
    sized_joined places log (operand_log (spots places).first g v (BaseShape bases.Int) log) _
    (operand comparing (spots places).first g v (BaseShape bases.Int)) _
    (operand_logs (spots places).first g v (BaseShape bases.Int) log)
    (λ done l. sized_joined places l
    (operand_log (spots places).second g w
    (FunctionShape (BaseShape bases.Int) empty (BaseShape bases.Unit) empty) l) _
    (operand comparing (spots places).second g w
    (FunctionShape (BaseShape bases.Int) empty (BaseShape bases.Unit) empty)) _
    (operand_logs (spots places).second g w (FunctionShape (BaseShape bases.Int) empty (BaseShape bases.Unit) empty) l)
    (λ done' k. sized_end places k _))
inferred_logs root (Operation o v w) g places log =
    sized_head places log _ (variable_type g (in_context g v))
    (λ type. device_head (spots places).first (base_operated o) (exposed g type.shape)) _
    (variable_plain g (in_context g v))
    (λ type. device_plain (spots places).first (base_operated o) (exposed g type.shape))
    (λ done. sized_joined places log (argument_log (spots places).second g (base_taken o) w log) _
    (operation_argument comparing (spots places).second g (base_taken o) w) _
    (argument_logs (spots places).second g (base_taken o) w log) (λ done' l. sized_end places l _))
inferred_logs root (Boundary s t) g places log =
    let inner : Context = exit_entry (shape_in g s) ∷ g in
    let check : Result
    → Outcome (Unit {0}) = λ part. below comparing (spots (first_part places)).at inner part.type
    (capturing (shape_in g s) empty) in
    let rest : Result → List Placed
    → Logged Result = λ part l. ends
    (tested ways (spots places).at (result (capturing (shape_in g s) empty) (Boundary s part.completed))) l in
    (λ j. followed (inferred_log root inner t (first_part places) log)
    (λ part l. followed_twice (after l (check part)) (λ done k. Got (capturing (shape_in g s) empty) k)
    (λ (whole : CapturingType) k. ends
    (tested ways (spots places).at (result whole (Boundary s part.completed))) k) j))
    ∙ part_joined places log (inferred_log root inner t (first_part places) log) check rest
    (inferred ways root inner t (first_part places)) _ (inferred_logs root t inner (first_part places) log)
    (λ part l. sized_end places l _)
inferred_logs root (Leave s c v w) g places log =
    sized_head places log _ (variable_type g (in_context g v))
    (λ type. exit_head (spots places).first (exposed g type.shape)) _
    (variable_plain g (in_context g v)) (λ type. exit_plain (spots places).first (exposed g type.shape))
    (λ takes. sized_plainly places log _ (variable_type g (in_context g w)) _ (variable_plain g (in_context g w))
    (λ given. sized_joined places log
    (after log (below comparing (spots places).second g given (capturing takes empty))) _
    (below comparing (spots places).second g given (capturing takes empty)) _ refl
    (λ done l. sized_end places l _)))
