-- A definition is refused exactly where it has a reason.
use Rattle.std.proofs.Common.{◌≡◌, inl, inr, ℕ, suc, Bool, true, false, cond, List, [], ◌∷◌, ◌++◌, length, Option, Some, None, refl, sym, ap, subst, ◌∙◌}
use Rattle.cc_base.specs.declared.code.Code.{Code}
use Rattle.cc_base.specs.declared.code.Code.TheVariants.{E17}
use Rattle.cc_base.specs.declared.place.Place.{Place}
use Rattle.cc_core.specs.Shapes.{CapturingType, capturing}
use Rattle.cc_core.specs.Terms.{Note, Absent, Written, Own}
use Rattle.cc_core.specs.Contexts.{Context, entry_of}
use Rattle.cc_core.specs.Places.{spots}
use Rattle.cc_core.specs.Substitution.{filled_type}
use Rattle.cc_checking.specs.Avoidance.{Positive, avoided_type}
use Rattle.cc_checking.specs.Fillings.{Filling, AllServed, IsServed, IsLeast, code_of_failure}
use Rattle.cc_checking.specs.Inference.{Ways, limited}
use Rattle.cc_checking.specs.Outcomes as plain
use Rattle.cc_checking.specs.Outcomes.{Outcome, Placed, Asked, IsBelow, IsCapless, found_or}
use Rattle.cc_checking.specs.Verdicts.{Definition, Checking, declared_set, signature_of, plain_checked, recursion_checked, recursive_checked, checked, IsRefused, signature_under, signature_verdict, Deserves, HasVerdict}
use Rattle.cc_reasons.specs.CauseLaws.{ExplainedDefinitionsAreChecked, ReasonsAreOfRefusals, RefusalsHaveAReason}
use Rattle.cc_reasons.specs.Causes.{Cause, code_of, Unavoidable, Located, Explained, NoAnswer, Refused, Found, outcome_of}
use Rattle.cc_reasons.specs.DefinitionReasons.{outermost, none_or, unsigned_among, unsigned_cause, explained_plain, explained_recursion, explained_recursive, explained_definition, DefinitionReason, OfStep, code_of_reason, unserved, placed_of, Tells}
use Rattle.cc_reasons.specs.ExplainedInference.{BinderNames}
use Rattle.cc_reasons.proofs.ExplainedOutcomes.{IsRefusedBy, then_is, because_is, by_avoided, note_is, below_is, explained_is_inference}

code_by_rest : (o : Option CapturingType) (cause : Cause) (tells : CapturingType → Cause) → code_of cause ≡ E17
    → ((type : CapturingType) → code_of (tells type) ≡ E17) → code_of (none_or o cause tells) ≡ E17
code_by_rest None cause tells own behind = own
code_by_rest (Some type) cause tells own behind = behind type

unsigned_code_among : (globals these : Context) (type : CapturingType) → code_of (unsigned_among globals these type) ≡ E17
unsigned_code_among globals [] type = refl
unsigned_code_among globals (newest ∷ older) type =
    code_by_rest (avoided_type Positive (length older) (declared_set newest) type) (Unavoidable (outermost globals) (length older) type)
    (λ rest. unsigned_among globals older rest) refl (λ rest. unsigned_code_among globals older rest)

unsigned_code : (globals : Context) (type : CapturingType) → code_of (unsigned_cause globals type) ≡ E17
unsigned_code globals type = unsigned_code_among globals globals type

plain_is : (ways : Ways) (globals : Context) (definition : Definition) (names : BinderNames)
    → outcome_of (explained_plain ways globals definition names) ≡ plain_checked ways globals definition
plain_is ways globals definition names =
    then_is _ _ _ _ (explained_is_inference ways (length globals) (outermost globals) definition.right definition.places names)
    (λ found. then_is _ _ _ _ (note_is ways (length globals) (spots definition.places).at (outermost globals) definition.note found.type) (λ named. refl))

recursion_is : (ways : Ways) (globals : Context) (definition : Definition) (names : BinderNames) (signature : CapturingType)
    → outcome_of (explained_recursion ways globals definition names signature) ≡ recursion_checked ways globals definition signature
recursion_is ways globals definition names signature =
    then_is _ _ _ _ (explained_is_inference ways (suc (length globals)) (outermost (entry_of signature ∷ globals)) definition.right definition.places names)
    (λ found. then_is _ _ _ _ (below_is ways (spots definition.places).at (outermost (entry_of signature ∷ globals)) found.type signature) (λ _. refl))

recursive_is : (ways : Ways) (devices : ℕ) (globals : Context) (definition : Definition) (names : BinderNames) (note : Note)
    → outcome_of (explained_recursive ways devices globals definition names note) ≡ recursive_checked ways devices globals definition note
recursive_is ways devices globals definition names (Written shape set) =
    then_is _ _ _ _
    (because_is (unsigned_cause globals (capturing shape set)) [] (found_or E17 definition.name_at (signature_of devices globals (capturing shape set)))
    (subst (λ code. IsRefusedBy code (found_or E17 definition.name_at (signature_of devices globals (capturing shape set))))
    (sym (unsigned_code globals (capturing shape set))) (by_avoided E17 definition.name_at (signature_of devices globals (capturing shape set)))))
    (λ signature. recursion_is ways globals definition names signature)
recursive_is ways devices globals definition names Absent = refl
recursive_is ways devices globals definition names (Own shape) = refl

pub explained_definitions_are_checked : ExplainedDefinitionsAreChecked
explained_definitions_are_checked ways devices globals definition names = by_kind definition.recursive
  where
    by_kind : (b : Bool) → outcome_of (cond b (explained_recursive ways devices globals definition names definition.note) (explained_plain ways globals definition names))
        ≡ cond b (recursive_checked ways devices globals definition definition.note) (plain_checked ways globals definition)
    by_kind true = recursive_is ways devices globals definition names definition.note
    by_kind false = plain_is ways globals definition names

pub placed_parts : (before : List Located) (one : Located) (after : List Located)
    → placed_of (before ++ one ∷ after) ≡ placed_of before ++ one.placed ∷ placed_of after
placed_parts [] one after = refl
placed_parts (first ∷ before) one after = ap (λ it. first.placed ∷ it) (placed_parts before one after)

failure_code : (filling : Filling) (one : Located) → code_of_reason (unserved filling one.locals one.placed.asked) ≡ code_of_failure one.placed.asked
failure_code filling one = by_kind one.placed.asked
  where
    by_kind : (asked : Asked) → code_of_reason (unserved filling one.locals asked) ≡ code_of_failure asked
    by_kind (IsBelow demand) = refl
    by_kind (IsCapless set) = refl

module _ (devices : ℕ) (globals : Context) (definition : Definition) where
  told : (steps : ℕ) (o : Explained Checking) (reason : DefinitionReason) (at : Place)
      → outcome_of o ≡ checked (limited steps) devices globals definition → Tells devices globals definition o reason at
      → HasVerdict devices globals definition (IsRefused (code_of_reason reason) at)
  told steps NoAnswer reason at is tells = absurd tells
  told steps (Refused cause place) reason at is (same, there) = (
    plain.Refused (code_of cause) place,
    (steps, sym is, λ e. cc),
    ap (λ it. IsRefused (code_of_reason it) at) same ∙ ap (IsRefused (code_of cause)) there,
  )
  told steps (Found found asked) reason at is (filling, least, inl (failing, fails, same, there)) = (
    plain.Found found (placed_of asked),
    (steps, sym is, λ e. cc),
    (
      filling,
      least,
      inl (
        code_of_reason reason,
        at,
        (
          placed_of fails.before,
          failing.placed,
          placed_of fails.after,
          ap placed_of fails.stands ∙ placed_parts fails.before failing fails.after,
          fails.served,
          fails.fails,
          ap code_of_reason same ∙ failure_code filling failing,
          there,
        ),
        refl,
      ),
    ),
  )
  told steps (Found found asked) reason at is (filling, least, inr (served, none, same, there)) = (
    plain.Found found (placed_of asked),
    (steps, sym is, λ e. cc),
    (
      filling,
      least,
      inr (
        served,
        ap (λ it. IsRefused (code_of_reason it) at) same ∙ ap (λ it. IsRefused it at) (unsigned_code globals (filled_type filling found.type))
            ∙ ap (IsRefused E17) there ∙ ap (signature_verdict filling definition found) (sym none),
      ),
    ),
  )

pub reasons_are_of_refusals : ReasonsAreOfRefusals
reasons_are_of_refusals devices globals definition names reason at (steps, tells) =
    told devices globals definition steps (explained_definition (limited steps) devices globals definition names) reason at
    (explained_definitions_are_checked (limited steps) devices globals definition names) tells

-- a list whose items stand so is one of located items that do
record Parted (asked : List Located) (before : List Placed) (one : Placed) (after : List Placed) : Type 0 where
  pub front : List Located
  pub failing : Located
  pub rest : List Located
  pub stands : asked ≡ front ++ failing ∷ rest
  pub front_is : placed_of front ≡ before
  pub failing_is : failing.placed ≡ one

parted : (asked : List Located) (before : List Placed) (one : Placed) (after : List Placed) → placed_of asked ≡ before ++ one ∷ after → Parted asked before one after
parted [] [] one after is = cc
parted [] (x ∷ before) one after is = cc
parted (first ∷ asked) [] one after is = record { front = []; failing = first; rest = asked; stands = refl; front_is = refl; failing_is = cc }
parted (first ∷ asked) (x ∷ before) one after is =
    let inner = parted asked before one after cc in
    let same : first.placed ≡ x = cc in
    record {
      front = first ∷ inner.front;
      failing = inner.failing;
      rest = inner.rest;
      stands = ap (λ it. first ∷ it) inner.stands;
      front_is = ap (λ it. first.placed ∷ it) inner.front_is ∙ ap (λ it. it ∷ before) same;
      failing_is = inner.failing_is;
    }

refused_parts : {code other : Code} {at place : Place} → IsRefused code at ≡ IsRefused other place → (code ≡ other) × (at ≡ place)
refused_parts e = (cc, cc)

module _ (devices : ℕ) (globals : Context) (definition : Definition) (code : Code) (at : Place) where
  -- a reason of this outcome with the code
  abbrev Reasoned : Explained Checking → Type 0
  Reasoned o = (reason : DefinitionReason) × (code ≡ code_of_reason reason) × Tells devices globals definition o reason at

  unsigned : (filling : Filling) (found : Checking) (asked : List Located) (signature : Option CapturingType)
      → signature_under filling devices globals found ≡ signature → IsLeast (length globals) (placed_of asked) filling → AllServed filling (placed_of asked)
      → IsRefused code at ≡ signature_verdict filling definition found signature → Reasoned (Found found asked)
  unsigned filling found asked (Some signature) is least served same = cc
  unsigned filling found asked None is least served same =
      let parts = refused_parts same in (
        OfStep (unsigned_cause globals (filled_type filling found.type)),
        parts.0 ∙ sym (unsigned_code globals (filled_type filling found.type)),
        (filling, least, inr (served, is, refl, parts.1)),
      )

  reasoned : (o : Explained Checking) → Deserves devices globals definition (outcome_of o) (IsRefused code at) → Reasoned o
  reasoned NoAnswer deserves = absurd deserves
  reasoned (Refused cause place) deserves =
      let parts = refused_parts deserves in (OfStep cause, parts.0, (refl, parts.1))
  reasoned (Found found asked) (filling, least, inl (other, place, (before, one, after, stands, served, fails, coded, there), same)) =
      let parts = refused_parts same in
      let found_parts = parted asked before one after stands in (
        unserved filling found_parts.failing.locals found_parts.failing.placed.asked,
        parts.0 ∙ coded ∙ ap (λ (it : Placed). code_of_failure it.asked) (sym found_parts.failing_is) ∙ sym (failure_code filling found_parts.failing),
        (
          filling,
          least,
          inl (
            found_parts.failing,
            record {
              before = found_parts.front;
              after = found_parts.rest;
              stands = found_parts.stands;
              served = subst (AllServed filling) (sym found_parts.front_is) served;
              fails = subst (λ (it : Placed). IsServed filling it.asked → ⊥) (sym found_parts.failing_is) fails;
            },
            refl,
            parts.1 ∙ there ∙ ap (λ (it : Placed). it.at) (sym found_parts.failing_is),
          ),
        ),
      )
  reasoned (Found found asked) (filling, least, inr (served, same)) =
      unsigned filling found asked (signature_under filling devices globals found) refl least served same

pub refusals_have_a_reason : RefusalsHaveAReason
refusals_have_a_reason devices globals definition names code at (outcome, (steps, is, answered), deserves) =
    let same : outcome_of (explained_definition (limited steps) devices globals definition names) ≡ outcome =
    explained_definitions_are_checked (limited steps) devices globals definition names ∙ is in
    let found = reasoned devices globals definition code at (explained_definition (limited steps) devices globals definition names)
    (subst (λ o. Deserves devices globals definition o (IsRefused code at)) (sym same) deserves) in
    (found.0, found.1, (steps, found.2))
