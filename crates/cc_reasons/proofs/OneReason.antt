-- A definition has one reason to be refused.
use Rattle.std.proofs.Common.{◌≡◌, ◌⊎◌, inl, inr, ℕ, suc, ◌+◌, ◌≤◌, Bool, true, false, cond, List, [], ◌∷◌, ◌++◌, length, Option, Some, None, refl, sym, ap, subst, ◌∙◌, arith}
use Rattle.cc_base.specs.declared.literal.Base.{Base}
use Rattle.cc_base.specs.declared.place.Place.{Place}
use Rattle.cc_capture.specs.declared.var.Var.{Var}
use Rattle.cc_core.specs.Shapes.{Shape, CapturingType}
use Rattle.cc_core.specs.Terms.{Note, Absent, Written, Own, Term, VariableTerm, LiteralTerm, FunctionTerm, TypeFunctionTerm, BoxTerm, Application, TypeApplication, Unboxing, Let, Primitive, Conditional, Repetition, Operation, Boundary, Leave}
use Rattle.cc_core.specs.Contexts.{Context, entry_of}
use Rattle.cc_core.specs.Places.{Places, first_part, second_part, spots}
use Rattle.cc_core.specs.Substitution.{filled_type}
use Rattle.cc_checking.specs.Comparison.{Comparison, Comparing, comparison}
use Rattle.cc_checking.specs.Fillings.{Filling, AllServed, IsServed}
use Rattle.cc_checking.specs.Inference.{Result, compared_at, limited}
use Rattle.cc_checking.specs.Outcomes.{Outcome}
use Rattle.cc_checking.specs.Verdicts.{Definition, Checking, signature_under}
use Rattle.cc_typing_laws.proofs.ComparisonLemmas.{Keeps, comparison_keeps}
use Rattle.cc_checking_laws.proofs.LeastFillings.{least_alike}
use Rattle.cc_checking_laws.proofs.OneOutcome as inference
use Rattle.cc_checking_laws.proofs.OneOutcome.{KeepAnswers, by, stays_below}
use Rattle.cc_reasons.specs.CauseLaws.{ReasonsAreUnique}
use Rattle.cc_reasons.specs.Causes.{Local, Scene, Cause, WrongType, WrongShape, Located, Explained, NoAnswer, Refused, Found, asked_before, ◌>>=◌, because}
use Rattle.cc_reasons.specs.DefinitionReasons.{outermost, explained_plain, explained_recursion, explained_recursive, explained_definition, DefinitionReason, OfStep, unserved, unsigned_cause, placed_of, FailsFirstAs, Tells}
use Rattle.cc_reasons.specs.ExplainedInference.{BinderNames, explained, explained_below, explained_against, explained_operand, explained_argument, explained_note, explained_part_below, explained_part_against, explained_size, first_names, second_names}

-- the second outcome is the first one, where there is an answer
abbrev Stays : {A : Type 0} → Explained A → Explained A → Type 0
Stays first second = (first ≡ NoAnswer) ⊎ (first ≡ second)

stays_asked : {A B : Type 0} (next next' : A → Explained B) (o : Explained A) → ((a : A) → Stays (next a) (next' a))
    → Stays (◌>>=◌ o next) (◌>>=◌ o next')
unfolding ◌>>=◌
stays_asked next next' NoAnswer k = inl refl
stays_asked next next' (Refused cause at) k = inr refl
stays_asked next next' (Found a asked) k = behind asked (k a)
  where
    behind : {B : Type 0} (asked : List Located) {o o' : Explained B} → Stays o o' → Stays (asked_before asked o) (asked_before asked o')
    behind asked (inl e) = inl (ap (asked_before asked) e)
    behind asked (inr e) = inr (ap (asked_before asked) e)

stays_then : {A B : Type 0} {o o' : Explained A} {next next' : A → Explained B} → Stays o o'
    → ((a : A) → Stays (next a) (next' a)) → Stays (◌>>=◌ o next) (◌>>=◌ o' next')
unfolding ◌>>=◌
stays_then {next = next} (inl e) k = inl (ap (λ x. ◌>>=◌ x next) e)
stays_then {o = o} {next = next} {next' = next'} (inr e) k =
    subst (λ x. Stays (◌>>=◌ o next) (◌>>=◌ x next')) e (stays_asked next next' o k)

stays_because : {A : Type 0} (cause : Cause) (locals : List Local) {o o' : Outcome A} → inference.Stays o o'
    → Stays (because cause locals o) (because cause locals o')
stays_because cause locals (inl e) = inl (ap (because cause locals) e)
stays_because cause locals (inr e) = inr (ap (because cause locals) e)

stays_compared : (at : Place) (a b : Comparison) → Keeps a b → inference.Stays (compared_at at a) (compared_at at b)
stays_compared at a b (inl e) = inl (ap (compared_at at) e)
stays_compared at a b (inr e) = inr (ap (compared_at at) e)

module _ (one other : Comparing) (keep : KeepAnswers one other) (passes : CapturingType → Bool) where
  below_stays : (at : Place) (scene : Scene) (left right : CapturingType)
      → Stays (explained_below (by passes one) at scene left right) (explained_below (by passes other) at scene left right)
  below_stays at scene left right = stays_because (WrongType scene left right) scene.locals (stays_below one other keep at scene.context left right)

  against_stays : (at : Place) (scene : Scene) (left right : Shape)
      → Stays (explained_against (by passes one) at scene left right) (explained_against (by passes other) at scene left right)
  against_stays at scene left right = stays_because (WrongShape scene left right) scene.locals (stays_compared at _ _ (keep scene.context left right))

  operand_stays : (at : Place) (scene : Scene) (v : Var) (s : Shape)
      → Stays (explained_operand (by passes one) at scene v s) (explained_operand (by passes other) at scene v s)
  operand_stays at scene v s = stays_then (inr refl) (λ t. against_stays at scene t.shape s)

  argument_stays : (at : Place) (scene : Scene) (base : Option Base) (v : Option Var)
      → Stays (explained_argument (by passes one) at scene base v) (explained_argument (by passes other) at scene base v)
  argument_stays at scene (Some base) (Some v) = operand_stays at scene v _
  argument_stays at scene (Some base) None = inr refl
  argument_stays at scene None (Some v) = inr refl
  argument_stays at scene None None = inr refl

  note_stays : (root : ℕ) (at : Place) (scene : Scene) (note : Note) (t : CapturingType)
      → Stays (explained_note (by passes one) root at scene note t) (explained_note (by passes other) root at scene note t)
  note_stays root at scene Absent t = inr refl
  note_stays root at scene (Written s c) t = stays_then (below_stays at scene t _) (λ _. inr refl)
  note_stays root at scene (Own s) t = stays_then (against_stays at scene t.shape _) (λ _. inr refl)

  part_below_stays : (at : Place) (scene : Scene) (t : CapturingType) (o o' : Explained Result) → Stays o o'
      → Stays (explained_part_below (by passes one) at scene t o) (explained_part_below (by passes other) at scene t o')
  part_below_stays at scene t o o' s = stays_then s (λ p. stays_then (below_stays at scene p.type t) (λ _. inr refl))

  part_against_stays : (at : Place) (scene : Scene) (x : Shape) (o o' : Explained Result) → Stays o o'
      → Stays (explained_part_against (by passes one) at scene x o) (explained_part_against (by passes other) at scene x o')
  part_against_stays at scene x o o' s = stays_then s (λ p. stays_then (against_stays at scene p.type.shape x) (λ _. inr refl))

  size_stays : (places : Places) (scene : Scene) (o o' : Explained Result) → Stays o o'
      → Stays (explained_size (by passes one) places scene o) (explained_size (by passes other) places scene o')
  size_stays places scene o o' s = stays_then s (λ r. inr refl)

  explained_stays : (t : Term) (root : ℕ) (scene : Scene) (places : Places) (names : BinderNames)
      → Stays (explained (by passes one) root scene t places names) (explained (by passes other) root scene t places names)
  explained_stays (VariableTerm v) root scene places names = inr refl
  explained_stays (LiteralTerm l) root scene places names = inr refl
  explained_stays (FunctionTerm takes c body) root scene places names =
      size_stays places scene _ _ (stays_then (explained_stays body root _ (first_part places) (first_names names)) (λ r. inr refl))
  explained_stays (TypeFunctionTerm bound body) root scene places names =
      size_stays places scene _ _ (stays_then (explained_stays body root _ (first_part places) (first_names names)) (λ r. inr refl))
  explained_stays (BoxTerm v) root scene places names = inr refl
  explained_stays (Application v w) root scene places names =
      size_stays places scene _ _ (stays_then (inr refl) (λ f. stays_then (inr refl) (λ h. stays_then (inr refl) (λ a. stays_then (below_stays _ scene _ _) (λ _. inr refl)))))
  explained_stays (TypeApplication v s) root scene places names =
      size_stays places scene _ _ (stays_then (inr refl) (λ f. stays_then (inr refl) (λ h. stays_then (against_stays _ scene _ _) (λ _. inr refl))))
  explained_stays (Unboxing set v) root scene places names = inr refl
  explained_stays (Let note s t) root scene places names =
      size_stays places scene _ _ (stays_then (explained_stays s root scene (first_part places) (first_names names)) (λ r. stays_then (note_stays root _ scene note _) (λ n. stays_then (explained_stays t root _ (second_part places) (second_names names)) (λ r'. inr refl))))
  explained_stays (Primitive o v w) root scene places names =
      size_stays places scene _ _ (stays_then (operand_stays _ scene v _) (λ _. stays_then (operand_stays _ scene w _) (λ _. inr refl)))
  explained_stays (Conditional Absent v s t) root scene places names = inr refl
  explained_stays (Conditional (Written x c) v s t) root scene places names =
      size_stays places scene _ _ (stays_then (operand_stays _ scene v _) (λ _. stays_then (part_below_stays _ scene _ _ _ (explained_stays s root scene (first_part places) (first_names names))) (λ r. stays_then (part_below_stays _ scene _ _ _ (explained_stays t root scene (second_part places) (second_names names))) (λ r'. inr refl))))
  explained_stays (Conditional (Own x) v s t) root scene places names =
      size_stays places scene _ _ (stays_then (operand_stays _ scene v _) (λ _. stays_then (part_against_stays _ scene _ _ _ (explained_stays s root scene (first_part places) (first_names names))) (λ r. stays_then (part_against_stays _ scene _ _ _ (explained_stays t root scene (second_part places) (second_names names))) (λ r'. inr refl))))
  explained_stays (Repetition v w) root scene places names =
      size_stays places scene _ _ (stays_then (operand_stays _ scene v _) (λ _. stays_then (operand_stays _ scene w _) (λ _. inr refl)))
  explained_stays (Operation o v w) root scene places names =
      size_stays places scene _ _ (stays_then (inr refl) (λ d. stays_then (inr refl) (λ _. stays_then (argument_stays _ scene _ w) (λ _. inr refl))))
  explained_stays (Boundary s t) root scene places names =
      size_stays places scene _ _ (stays_then (part_below_stays _ _ _ _ _ (explained_stays t root _ (first_part places) (first_names names))) (λ r. inr refl))
  explained_stays (Leave s c v w) root scene places names =
      size_stays places scene _ _ (stays_then (inr refl) (λ l. stays_then (inr refl) (λ h. stays_then (inr refl) (λ a. stays_then (below_stays _ scene _ _) (λ _. inr refl)))))

-- with more steps the same is found
module _ (few many : ℕ) (more : few ≤ many) (devices : ℕ) (globals : Context) (definition : Definition) (names : BinderNames) where
  plain_stays : Stays (explained_plain (limited few) globals definition names) (explained_plain (limited many) globals definition names)
  plain_stays =
      stays_then (explained_stays (comparison few) (comparison many) (comparison_keeps few many more) (limited few).passes definition.right (length globals) (outermost globals) definition.places names)
      (λ r. stays_then (note_stays (comparison few) (comparison many) (comparison_keeps few many more) (limited few).passes (length globals) (spots definition.places).at (outermost globals) definition.note r.type) (λ m. inr refl))

  recursion_stays : (signature : CapturingType) → Stays (explained_recursion (limited few) globals definition names signature) (explained_recursion (limited many) globals definition names signature)
  recursion_stays signature =
      stays_then (explained_stays (comparison few) (comparison many) (comparison_keeps few many more) (limited few).passes definition.right (suc (length globals)) (outermost (entry_of signature ∷ globals)) definition.places names)
      (λ r. stays_then (below_stays (comparison few) (comparison many) (comparison_keeps few many more) (limited few).passes (spots definition.places).at (outermost (entry_of signature ∷ globals)) r.type signature) (λ _. inr refl))

  recursive_stays : (note : Note) → Stays (explained_recursive (limited few) devices globals definition names note) (explained_recursive (limited many) devices globals definition names note)
  recursive_stays (Written s c) = stays_then (inr refl) (λ signature. recursion_stays signature)
  recursive_stays Absent = inr refl
  recursive_stays (Own s) = inr refl

  definition_stays : Stays (explained_definition (limited few) devices globals definition names) (explained_definition (limited many) devices globals definition names)
  definition_stays = by_kind definition.recursive
    where
      by_kind : (b : Bool) → Stays (cond b (explained_recursive (limited few) devices globals definition names definition.note) (explained_plain (limited few) globals definition names))
          (cond b (explained_recursive (limited many) devices globals definition names definition.note) (explained_plain (limited many) globals definition names))
      by_kind true = recursive_stays definition.note
      by_kind false = plain_stays

-- the first that fails is one
first_alike : (f : Filling) (before before' : List Located) (p p' : Located) (after after' : List Located) → before ++ p ∷ after ≡ before' ++ p' ∷ after'
    → AllServed f (placed_of before) → (IsServed f p.placed.asked → ⊥) → AllServed f (placed_of before') → (IsServed f p'.placed.asked → ⊥) → p ≡ p'
first_alike f [] [] p p' after after' e s n s' n' = cc
first_alike f [] (x ∷ before') p p' after after' e s n s' n' = let same : x ≡ p = cc in absurd (n (subst (λ (y : Located). IsServed f y.placed.asked) same s'.0))
first_alike f (x ∷ before) [] p p' after after' e s n s' n' = let same : x ≡ p' = cc in absurd (n' (subst (λ (y : Located). IsServed f y.placed.asked) same s.0))
first_alike f (x ∷ before) (y ∷ before') p p' after after' e s n s' n' =
    let rest : before ++ p ∷ after ≡ before' ++ p' ∷ after' = cc in first_alike f before before' p p' after after' rest s.1 n s'.1 n'

served_inside : (f : Filling) (before : List Located) (p : Located) (after : List Located) → AllServed f (placed_of (before ++ p ∷ after)) → IsServed f p.placed.asked
served_inside f [] p after all = all.0
served_inside f (x ∷ before) p after all = served_inside f before p after all.1

fails_or_serves : (f : Filling) (asked : List Located) (p : Located) → FailsFirstAs f asked p → AllServed f (placed_of asked) → ⊥
fails_or_serves f asked p fails serves =
    fails.fails (served_inside f fails.before p fails.after (subst (λ it. AllServed f (placed_of it)) fails.stands serves))

module _ (devices : ℕ) (globals : Context) (definition : Definition) (found : Checking) (asked : List Located) where
  -- the reason under a filling
  abbrev By : Filling → DefinitionReason → Place → Type 0
  By k reason there =
      ((failing : Located) × FailsFirstAs k asked failing × (reason ≡ unserved k failing.locals failing.placed.asked) × (there ≡ failing.placed.at))
      ⊎ (AllServed k (placed_of asked) × (signature_under k devices globals found ≡ None)
      × (reason ≡ OfStep (unsigned_cause globals (filled_type k found.type))) × (there ≡ definition.name_at))

  compare : (f : Filling) (one other : DefinitionReason) (at place : Place) → By f one at → By f other place → (one ≡ other) × (at ≡ place)
  compare f one other at place (inl (p, fails, is, there)) (inl (p', fails', is', there')) =
      let same = first_alike f fails.before fails'.before p p' fails.after fails'.after (sym fails.stands ∙ fails'.stands) fails.served fails.fails fails'.served fails'.fails in
      (is ∙ ap (λ (x : Located). unserved f x.locals x.placed.asked) same ∙ sym is', there ∙ ap (λ (x : Located). x.placed.at) same ∙ sym there')
  compare f one other at place (inl (p, fails, is, there)) (inr (serves, none', is', there')) = absurd (fails_or_serves f asked p fails serves)
  compare f one other at place (inr (serves, none', is', there')) (inl (p, fails, is, there)) = absurd (fails_or_serves f asked p fails serves)
  compare f one other at place (inr (serves, none, is, there)) (inr (serves', none', is', there')) = (is ∙ sym is', there ∙ sym there')

same_reason : (devices : ℕ) (globals : Context) (definition : Definition) (o : Explained Checking) (one other : DefinitionReason) (at place : Place)
    → Tells devices globals definition o one at → Tells devices globals definition o other place → (one ≡ other) × (at ≡ place)
same_reason devices globals definition NoAnswer one other at place tells tells' = absurd tells
same_reason devices globals definition (Refused cause there) one other at place tells tells' = (tells.0 ∙ sym tells'.0, tells.1 ∙ sym tells'.1)
same_reason devices globals definition (Found found asked) one other at place (f, least, d) (f', least', d') =
    let alike : f' ≡ f = (λ i h. least_alike (length globals) (placed_of asked) f' f least' least h i) in
    compare devices globals definition found asked f one other at place d (subst (λ (k : Filling). By devices globals definition found asked k other place) alike d')

no_answer : (devices : ℕ) (globals : Context) (definition : Definition) (o : Explained Checking) (reason : DefinitionReason) (at : Place)
    → o ≡ NoAnswer → Tells devices globals definition o reason at → ⊥
no_answer devices globals definition o reason at is tells = subst (λ it. Tells devices globals definition it reason at) is tells

module _ (devices : ℕ) (globals : Context) (definition : Definition) (names : BinderNames) (one other : DefinitionReason) (at place : Place) where
  abbrev outcome : ℕ → Explained Checking
  outcome k = explained_definition (limited k) devices globals definition names

  by_stays : (n m : ℕ) → Tells devices globals definition (outcome n) one at → Tells devices globals definition (outcome m) other place
      → Stays (outcome n) (outcome (n + m)) → Stays (outcome m) (outcome (n + m)) → (one ≡ other) × (at ≡ place)
  by_stays n m tells tells' (inl e) s = absurd (no_answer devices globals definition (outcome n) one at e tells)
  by_stays n m tells tells' (inr e) (inl e') = absurd (no_answer devices globals definition (outcome m) other place e' tells')
  by_stays n m tells tells' (inr e) (inr e') =
      same_reason devices globals definition (outcome n) one other at place tells
      (subst (λ it. Tells devices globals definition it other place) (e' ∙ sym e) tells')

pub reasons_are_unique : ReasonsAreUnique
reasons_are_unique devices globals definition names one other at place (n, tells) (m, tells') =
    by_stays devices globals definition names one other at place n m tells tells'
    (definition_stays n (n + m) (omega arith) devices globals definition names) (definition_stays m (n + m) (omega arith) devices globals definition names)
