-- What the loops over devices and over definitions need.
use Rattle.std.proofs.Common.{◌≡◌, ℕ, suc, ◌+◌, ◌<◌, Bool, true, false, if◌then◌else◌, List, [], ◌∷◌, ◌++◌, map, length, drop, get_or, sym, ap, subst, ◌∙◌, refl, append_assoc, drop-cons, add-one, Result, Ok, Err}
use Rattle.std.proofs.lemmas.List.{append-nil, map-append}
use Rattle.std.specs.List.{IsDistinct, AllByRecursion, list_any}
use Rattle.std.specs.Str.{bytes_eq}
use Rattle.std.specs.Cmp.Lexicographic.{nat_list_eq_equiv}
use Rattle.indexmap.specs.IndexSet.{insert_key}
use Rattle.cc_base.specs.declared.code.Code.TheVariants.{E09}
use Rattle.cc_core.specs.declared.terms.CoreDef.{CoreDef}
use Rattle.cc_grammar.specs.Syntax.{DefSyntax}
use Rattle.cc_mnf.specs.CoreModules.{definition_of}
use Rattle.cc_mnf.specs.declared.stop.Stop.{Stop}
use Rattle.cc_mnf.specs.declared.stop.Stop.TheVariants as stops
use Rattle.cc_mnf.specs.ElaboratedModules.{CoreDefinition, with_name, elaborated_definition, elaborated_definitions}
use Rattle.cc_mnf.specs.Scopes.{Name}
use Rattle.cc_mnf.specs.StepAnswers.{MeetsWithoutHoles}
use Rattle.cc_mnf.specs.Steps.{ElaborationOutcome, Refused, Found, Step, goes_on, followed, gives, refuses, with_own_holes}
use Rattle.cc_mnf.proofs.StepEquations.{followed_gives, followed_refuses}

-- a name that is apart from all that stand behind it is apart from each
pub apart : (x y : Name) (xs ys : List Name) → AllByRecursion (λ z. bytes_eq x z ≡ false) (xs ++ y ∷ ys)
    → bytes_eq x y ≡ false
apart x y [] ys all = all.0
apart x y (z ∷ xs) ys all = apart x y xs ys all.1

any-more : (test : Name → Bool) (x : Name) (xs : List Name) → test x ≡ false → list_any test xs ≡ false
    → list_any test (x ∷ xs) ≡ false
any-more test x xs first others = rw first others

-- where all names differ, none before a name is the same
pub none_before : (xs : List Name) (y : Name) (ys : List Name) → IsDistinct bytes_eq (xs ++ y ∷ ys)
    → list_any (bytes_eq y) xs ≡ false
unfolding IsDistinct
none_before [] y ys distinct = refl
none_before (x ∷ xs) y ys distinct =
    any-more (bytes_eq y) x xs (nat_list_eq_equiv.symm y x ∙ apart x y xs ys distinct.0) (none_before xs y ys distinct.1)

-- one name more of those that differ
pub one_name_more : (names more : List Name) (name : Name) (rest all : List Name) → IsDistinct bytes_eq all
    → names ++ name ∷ rest ≡ all → more ≡ insert_key bytes_eq names name → more ++ rest ≡ all
one_name_more names more name rest all distinct whole added =
    let new = none_before names name rest (subst (IsDistinct bytes_eq) (sym whole) distinct) in
    ap (λ n. n ++ rest) (added ∙ ap (λ b. if b then names else names ++ name ∷ []) new)
    ∙ append_assoc names (name ∷ []) rest ∙ whole

-- the definitions so far before those of a step
abbrev pub behind_done : List CoreDefinition → Step (List CoreDefinition) → Step (List CoreDefinition)
behind_done done step = followed step (λ others. gives (done ++ others))

none-done-at : (outcome : ElaborationOutcome (List CoreDefinition)) → goes_on gives outcome ≡ outcome
unfolding gives
none-done-at (Refused code at) = refl
none-done-at (Found value holes) = refl

-- at the start there is none
pub none_done : (step : Step (List CoreDefinition)) → behind_done [] step ≡ step
unfolding followed gives
none_done step = λ i holes. none-done-at (step holes) i

-- at the end there are all
pub all_done : (done : List CoreDefinition) (names : List Name)
    → behind_done done (elaborated_definitions names []) ≡ gives done
all_done done names = followed_gives [] (λ others. gives (done ++ others)) ∙ ap gives (append-nil done)

one-done-at : (done : List CoreDefinition) (one : CoreDefinition) (outcome : ElaborationOutcome (List CoreDefinition))
    → goes_on (λ others. gives (done ++ others)) (goes_on (λ others. gives (one ∷ others)) outcome)
    ≡ goes_on (λ others. gives ((done ++ one ∷ []) ++ others)) outcome
unfolding gives
one-done-at done one (Refused code at) = refl
one-done-at done one (Found value holes) = ap (λ l. Found l holes) (sym (append_assoc done (one ∷ []) value))

one_done : (done : List CoreDefinition) (one : CoreDefinition) (step : Step (List CoreDefinition))
    → behind_done done (followed step (λ others. gives (one ∷ others))) ≡ behind_done (done ++ one ∷ []) step
unfolding followed
one_done done one step = λ i holes. one-done-at done one (step holes) i

-- what comes after the name of a definition
abbrev after_name : List Name → DefSyntax → List DefSyntax → List Name → Step (List CoreDefinition)
after_name names first rest more =
    followed (with_own_holes (elaborated_definition names more first)) (λ one.
    followed (elaborated_definitions more rest) (λ others. gives (one ∷ others)))

-- the first definition, where its name is new
first_new : (names : List Name) (first : DefSyntax) (rest : List DefSyntax)
    → list_any (bytes_eq first.name) names ≡ false
    → elaborated_definitions names (first ∷ rest) ≡ after_name names first rest (names ++ first.name ∷ [])
first_new names first rest new =
    ap (λ b. followed (if b then refuses E09 first.name_at else gives (names ++ first.name ∷ [])) (after_name names first rest)) new
    ∙ followed_gives (names ++ first.name ∷ []) (after_name names first rest)

-- the loop takes one definition more
pub definition_turns : (names more : List Name) (done : List CoreDefinition) (first : DefSyntax) (rest : List DefSyntax)
    (one : CoreDefinition) (whole : Step (List CoreDefinition))
    → behind_done done (elaborated_definitions names (first ∷ rest)) ≡ whole
    → list_any (bytes_eq first.name) names ≡ false
    → more ≡ names ++ first.name ∷ []
    → with_own_holes (elaborated_definition names (names ++ first.name ∷ []) first) ≡ gives one
    → behind_done (done ++ one ∷ []) (elaborated_definitions more rest) ≡ whole
definition_turns names more done first rest one whole was new is found =
    let more-names = names ++ first.name ∷ [] in
    ap (λ ns. behind_done (done ++ one ∷ []) (elaborated_definitions ns rest)) is
    ∙ sym (one_done done one (elaborated_definitions more-names rest))
    ∙ sym (ap (behind_done done) (first_new names first rest new
    ∙ ap (λ s. followed s (λ d. followed (elaborated_definitions more-names rest) (λ others. gives (d ∷ others)))) found
    ∙ followed_gives one (λ d. followed (elaborated_definitions more-names rest) (λ others. gives (d ∷ others)))))
    ∙ was

-- the loop stops at a name that is not new
pub name_stops : (names : List Name) (done : List CoreDefinition) (first : DefSyntax) (rest : List DefSyntax)
    (whole : Step (List CoreDefinition))
    → behind_done done (elaborated_definitions names (first ∷ rest)) ≡ whole
    → list_any (bytes_eq first.name) names ≡ true
    → whole ≡ refuses E09 first.name_at
name_stops names done first rest whole was old =
    sym was
    ∙ ap (behind_done done) (ap (λ b. followed (if b then refuses E09 first.name_at else gives (names ++ first.name ∷ [])) (after_name names first rest)) old
    ∙ followed_refuses E09 first.name_at (after_name names first rest))
    ∙ followed_refuses E09 first.name_at (λ others. gives (done ++ others))

-- the loop stops where a definition does
pub definition_stops : {A B : Type 0} (view : A → CoreDefinition) (all : B → List CoreDefinition) (stop : Stop)
    (names : List Name) (done : List CoreDefinition) (first : DefSyntax) (rest : List DefSyntax)
    (whole : Step (List CoreDefinition))
    → behind_done done (elaborated_definitions names (first ∷ rest)) ≡ whole
    → list_any (bytes_eq first.name) names ≡ false
    → MeetsWithoutHoles view (Err stop) (with_own_holes (elaborated_definition names (names ++ first.name ∷ []) first))
    → MeetsWithoutHoles all (Err stop) whole
definition_stops view all stops.NoMemory names done first rest whole was new found = tt
definition_stops view all (stops.Refused code at) names done first rest whole was new found =
    let more-names = names ++ first.name ∷ [] in
    sym was
    ∙ ap (behind_done done) (first_new names first rest new
    ∙ ap (λ s. followed s (λ d. followed (elaborated_definitions more-names rest) (λ others. gives (d ∷ others)))) found
    ∙ followed_refuses code at (λ d. followed (elaborated_definitions more-names rest) (λ others. gives (d ∷ others))))
    ∙ followed_refuses code at (λ others. gives (done ++ others))

-- what is left of a list begins with the item at the index
pub drop_next : {A : Type 0} (list : List A) (index : ℕ) (item : A) → index < length list → item ≡ get_or list index item
    → drop index list ≡ item ∷ drop (index + 1) list
drop_next list index item below is =
    drop-cons list index item below
    ∙ ap (λ x. x ∷ drop (suc index) list) (sym is)
    ∙ ap (λ n. item ∷ drop n list) (sym (add-one index))

-- one definition more is done
pub definitions-push : (done more : List CoreDef) (next : CoreDef) → more ≡ done ++ next ∷ []
    → map definition_of more ≡ map definition_of done ++ definition_of next ∷ []
definitions-push done more next is = ap (map definition_of) is ∙ map-append definition_of done (next ∷ [])
